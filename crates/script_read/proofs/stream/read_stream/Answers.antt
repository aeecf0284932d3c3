use Rattle.std.proofs.Common.{◌≡◌, ◌+◌, ℕ, List, [], ◌++◌, take, get_or, ap, sym, subst, ◌∙◌, refl}
use Rattle.std.proofs.lemmas.List.{take_all}
use Rattle.midi_stream.specs.FedStream.{Reads}
use Rattle.velocity_map.specs.Map.{curve_of}
use Rattle.velocity_map.specs.declared.curve.Curve.TheVariants.{Linear}
use Rattle.script_outcome.specs.declared.fault.Place.TheVariants as place
use Rattle.script_outcome.specs.Stream.{begun_at}
use Rattle.midi_stream.specs.Ended.{ended_message}
use Rattle.script_outcome.specs.Outcomes.{Outcome, fed_outcomes}
use Rattle.script_outcome.specs.ReaderAnswer.{Stops, all_given}
use Rattle.script_outcome.proofs.EndedMessages.{take_next}
use Rattle.script_read.proofs.StreamOutcomes.{fed_next, ended_same, nothing_fed, none_begun, start_next, stopped_within, stream_settled}
use Rattle.script_outcome.proofs.Plans.{on_ok_more, on_err_more, few_of_none, due_of_none}
use Rattle.script_read.proofs.stream.read_stream.Goals as goal

pub loop-at-init : goal.loop-at-init
loop-at-init g c =
    let none = c.in-Ok.ensures.script in
    record {
      reads = c.in-Ok.ensures.reads;
      start = sym none_begun;
      given = nothing_fed ∙ ap all_given (sym none);
      few = few_of_none c.in-Ok.feed.script c.args.room none;
      due = due_of_none c.in-Ok.feed.script none;
    }

pub returns-in-Err-read_byte : goal.returns-in-Err-read_byte
returns-in-Err-read_byte g c =
    let i = c.loop-at.invariant in
    let at : ℕ = c.loop-at.at in
    let bytes : List ℕ = c.args.bytes.now in
    let byte : ℕ = get_or bytes at 0 in
    stopped_within c.in-Err-read_byte.fault c.args.room (at + 1) bytes
    (subst (λ (os : List Outcome). Stops c.in-Err-read_byte.fault c.args.room os)
    (ap (λ (os : List Outcome). all_given c.loop-at.feed.script ++ os) (ended_same c.loop-at.start (begun_at (take at bytes)) (curve_of c.args.map.now)
    (ended_message (take at bytes) byte) i.start c.requires.linear)
    ∙ sym (fed_next bytes at byte c.loop-at.feed.script c.loop-at-test.true refl i.given))
    (c.in-Err-read_byte.ensures.stops (take at bytes) i.reads))

pub loop-at-preserved : goal.loop-at-preserved
loop-at-preserved g c =
    let i = c.loop-at.invariant in
    let at : ℕ = c.loop-at.at in
    let bytes : List ℕ = c.args.bytes.now in
    let byte : ℕ = get_or bytes at 0 in
    record {
      reads = subst (λ (s : List ℕ). Reads c.read_byte.new.self.reader s) (sym (take_next bytes at byte c.loop-at-test.true refl))
          (c.read_byte.ensures.reads (take at bytes) i.reads);
      start = start_next bytes at c.loop-at.start c.start_after-next.result byte c.at_rest.result c.loop-at-test.true refl
          (c.at_rest.ensures (take at bytes) i.reads) i.start c.start_after-next.ensures;
      given = fed_next bytes at byte c.loop-at.feed.script c.loop-at-test.true refl i.given
          ∙ sym (c.in-Ok-read_byte.ensures.given (take at bytes) i.reads
          ∙ ap (λ (os : List Outcome). all_given c.loop-at.feed.script ++ os)
          (ended_same c.loop-at.start (begun_at (take at bytes)) (curve_of c.args.map.now) (ended_message (take at bytes) byte) i.start c.requires.linear));
      few = c.in-Ok-read_byte.ensures.few;
      due = c.in-Ok-read_byte.ensures.due;
    }

pub returns : goal.returns
returns g c =
    let i = c.loop-at.invariant in
    let all : take c.loop-at.at c.args.bytes.now ≡ c.args.bytes.now = take_all _ _ c.loop-at-test.false in
    stream_settled c.end.result c.args.bytes.now c.args.room c.loop-at.start c.loop-at.feed.script
    (ap (fed_outcomes (λ before. place.Byte (begun_at before)) 0 Linear []) (sym all) ∙ i.given) i.few (i.start ∙ ap begun_at all)
    c.end.ensures.given (on_ok_more c.end.result c.end.ensures.whole (λ h.
    h c.args.bytes.now (subst (λ (s : List ℕ). Reads c.loop-at.feed.reader s) all i.reads)))
    c.end.ensures.cut (on_err_more c.end.result c.end.ensures.unfinished (λ h.
    h c.args.bytes.now (subst (λ (s : List ℕ). Reads c.loop-at.feed.reader s) all i.reads)))
