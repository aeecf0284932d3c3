use Rattle.std.proofs.Common.{◌≡◌, ℕ, sym, subst}
use Rattle.std.specs.Prelude.{Result, Ok, Err}
use Rattle.command_set.specs.declared.command.Command.{Command}
use Rattle.command_set.specs.Command.{content}
use Rattle.schedule_core.specs.declared.world_refusal.WorldRefusal.{WorldRefusal}
use Rattle.schedule_core.specs.declared.world_refusal.WorldRefusal.TheVariants.{Full, Memory}
use Rattle.schedule_core.specs.Core.{Core, Step, Send, step}
use Rattle.schedule_core.specs.World.{HasSent}
use Rattle.schedule_core.proofs.tests.one_step.Goals as goal
use Rattle.schedule_core.proofs.tests.one_step.Goals.{in-Ok+else-assert_eq-4, in-Err-Full+else-assert_eq-5}

accepted : (c new : Core) (script due seq : ℕ) (command : Command) (r : Result ℕ WorldRefusal) → r ≡ Ok seq → HasSent c script due command r new → (s : Step)
    × (new ≡ step c s)
accepted c new script due seq command r is h =
    (Send script due (content command), (subst (λ (a : Result ℕ WorldRefusal). HasSent c script due command a new) is h).2)

turned_away : (c new : Core) (script due : ℕ) (command back : Command) (e : WorldRefusal) (r : Result ℕ WorldRefusal) → r ≡ Err e → e ≡ Full back
    → HasSent c script due command r new → (s : Step) × (new ≡ step c s)
turned_away c new script due command back e r is full h = (
  Send script due (content command),
  (subst (λ (x : WorldRefusal). HasSent c script due command (Err x) new) full
      (subst (λ (a : Result ℕ WorldRefusal). HasSent c script due command a new) is h)).2,
)

pub returns-after-send : goal.returns-after-send
returns-after-send g c =
    elim c.match-send.branch [
      | in-Ok+else-assert_eq-4 w ↦ accepted _ _ _ _ _ _ _ w.in-Ok.is c.send-else-kind-eq2.ensures.sent
      | in-Err-Full+else-assert_eq-5 w ↦ turned_away _ _ _ _ _ _ _ _ w.in-Err-Full.is w.in-Err-Full.field-0-is c.send-else-kind-eq2.ensures.sent
    ]
