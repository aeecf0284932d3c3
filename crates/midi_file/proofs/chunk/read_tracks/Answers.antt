use Rattle.std.proofs.Common.{refl, arith, sym, ◌∙◌}
use Rattle.midi_file.proofs.Files.{cut_within, fault_in_track, after_track, after_other, all_tracks}
use Rattle.midi_file.proofs.chunk.read_tracks.Goals as goal
use Rattle.midi_file.proofs.chunk.read_tracks.Goals.{then-chunk+in-Ok-read_track, else-chunk}

pub returns-in-Err-clause-faults : goal.returns-in-Err-clause-faults
returns-in-Err-clause-faults g c =
    cut_within c.refused_at.result c.args.size c.loop-wanted.wanted c.in-Err.place c.loop-wanted.rest.now c.loop-wanted.acts.items _
    c.loop-wanted.invariant.within c.loop-wanted-test.true c.in-Err.ensures.cut c.refused_at.ensures

pub returns-in-Err-read_track-clause-faults : goal.returns-in-Err-read_track-clause-faults
returns-in-Err-read_track-clause-faults g c =
    fault_in_track c.args.size c.loop-wanted.wanted c.loop-wanted.rest.now c.in-Ok.chunk.bytes.now c.in-Ok.chunk.rest.now c.loop-wanted.acts.items _
    c.in-Err-read_track.fault c.loop-wanted.invariant.within c.loop-wanted-test.true c.in-Ok.ensures.whole (sym c.in-Ok.ensures.track ∙ c.if-chunk.true)
    c.in-Ok.ensures.bytes c.in-Ok.ensures.rest c.in-Err-read_track.ensures.faults

pub loop-wanted-preserved : goal.loop-wanted-preserved
loop-wanted-preserved g c =
    record {
      short = omega (arith, c.in-Ok.ensures.parts);
      within = elim c.if-chunk.branch [
        | then-chunk+in-Ok-read_track w ↦ after_track c.args.size c.loop-wanted.wanted c.if-chunk.wanted c.loop-wanted.rest.now c.in-Ok.chunk.bytes.now
            c.in-Ok.chunk.rest.now
            c.loop-wanted.acts.items c.if-chunk.acts.items _ c.loop-wanted.invariant.within c.loop-wanted-test.true c.in-Ok.ensures.whole
            (sym c.in-Ok.ensures.track ∙ w.if-chunk.true) c.in-Ok.ensures.bytes c.in-Ok.ensures.rest (omega (arith, c.in-Ok.ensures.parts)) w.wanted-is
            (rw w.acts-is w.in-Ok-read_track.ensures.come)
        | else-chunk w ↦ after_other c.args.size c.loop-wanted.wanted c.if-chunk.wanted c.loop-wanted.rest.now c.in-Ok.chunk.rest.now
            c.loop-wanted.acts.items c.if-chunk.acts.items _ c.loop-wanted.invariant.within c.loop-wanted-test.true c.in-Ok.ensures.whole
            (sym c.in-Ok.ensures.track ∙ w.if-chunk.false) c.in-Ok.ensures.rest (omega (arith, c.in-Ok.ensures.parts)) w.wanted-is (rw w.acts-is refl)
      ];
    }

pub returns-clause-come : goal.returns-clause-come
returns-clause-come g c =
    all_tracks c.args.size c.loop-wanted.wanted c.loop-wanted.rest.now c.loop-wanted.acts.items _ c.loop-wanted.invariant.within (omega arith)
