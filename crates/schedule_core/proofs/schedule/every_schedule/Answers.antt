use Rattle.std.proofs.lemmas.List.{length-replicate}
use Rattle.schedule_core.specs.Core.{no_sends, opening}
use Rattle.schedule_core.proofs.Sounds.{sounds_kept}
use Rattle.schedule_core.proofs.Legal.{run_legal, opening_legal}
use Rattle.schedule_core.proofs.Settling.{settles_by_taking}
use Rattle.schedule_core.proofs.schedule.every_schedule.Goals as goal

pub returns-clause-schedule : goal.returns-clause-schedule
returns-clause-schedule c places scripts steps more can later = record {
  legal = run_legal scripts (opening places scripts) steps (length-replicate scripts no_sends) can (opening_legal places scripts);
  sounds = sounds_kept places scripts steps more;
}

pub returns-clause-settle : goal.returns-clause-settle
returns-clause-settle c = settles_by_taking
