-- How commands end.
use Rattle.std.proofs.Common.{◌≡◌, ◌⊎◌, inl, inr, ℕ, ℤ, ◌*◌, length, List, [], ◌∷◌, refl, sym, ◌∙◌, ap, subst}
use Rattle.std.specs.Prelude.{Option, Some, None, IfSome, option_map, unwrap_or}
use Rattle.std.specs.FinMap.{get, insert}
use Rattle.outside.specs.Files.{Files}
use Rattle.outside.specs.Faults.{Rose}
use Rattle.outside.specs.Snapshot.{Snapshot}
use Rattle.generator.specs.Generated.{generated_journal, sum_of_samples}
use Rattle.fault_lines.specs.Lines.{cannot_write}
use Rattle.cartridge.specs.Cartridge.{voice_at}
use Rattle.sysex_frame.specs.Frame.{IsFrame, VoiceDump}
use Rattle.tool_core.specs.declared.failure.Failure.{Failure}
use Rattle.tool_core.specs.Verdicts.{Good}
use Rattle.tool_core.specs.Words.{RequestData, Check, ListVoices, Pick, Gen, Bench}
use Rattle.tool_core.specs.Inputs.{Input, Kind, input, AreGood, IsJudged}
use Rattle.tool_core.specs.Effects.{Effect, HasEffect, Output, prints, writes, written, reads, scripts_of, cartridge_of, picked}
use Rattle.tool_core.specs.Lines.{bench_line, check_report, list_report, ok_line, scripts_line}
use Rattle.tool_core.specs.Failures.{IsReason, Fails, FailsAt, status_of, line_of}
use Rattle.tool_core.specs.Outcomes.{HasGood, BeginsOut, SaysLine}
use Rattle.tool_core.specs.Scripts.{FailsWriting}
use Rattle.tool_core.specs.Endings.{Puts, Finishes, Ends}
use Rattle.tool_core.proofs.Meanings.{unless_reason}

-- ---- an effect that is done, or whose text could not be put
pub put_ends : (effect : Effect) (status : ℕ) (before now : Snapshot) → now.reading ≡ before.reading → now.writing ≡ before.writing
    → now.files ≡ option_map (written effect.writes) before.files
    → Puts effect.status effect.prints status before.written now.written before.faults now.faults → Finishes effect status before now
put_ends effect status before now reading writing files (inl (is, whole, faults)) =
    record { reading = reading; ends = inl (is, record { files = files; writing = writing; report = whole; faults = faults }) }
put_ends effect status before now reading writing files (inr (is, rose, part)) =
    record { reading = reading; ends = inr (is, inr (record { cause = rose; writing = writing; files = files; prefix = part })) }

pub none_written : (o now : Option Files) → now ≡ o → now ≡ option_map (written []) o
none_written None now is = is
none_written (Some told) now is = is

-- one that writes no file
pub print_ends : (text : List ℕ) (status : ℕ) (before now : Snapshot) → now.reading ≡ before.reading → now.writing ≡ before.writing → now.files ≡ before.files
    → Puts 0 text status before.written now.written before.faults now.faults → Finishes (prints text) status before now
print_ends text status before now reading writing files put = put_ends (prints text) status before now reading writing
    (none_written before.files now.files files) put

one_written : (o now : Option Files) (name text : List ℕ) → now ≡ option_map (λ told. insert told name text) o
    → now ≡ option_map (written (writes name text).writes) o
one_written None now name text is = is
one_written (Some told) now name text is = is

-- one that writes a file
pub write_ends : (name text : List ℕ) (status : ℕ) (before now : Snapshot) → now.reading ≡ before.reading → now.writing ≡ before.writing
    → now.files ≡ option_map (λ told. insert told name text) before.files
    → Puts 0 ok_line status before.written now.written before.faults now.faults → Finishes (writes name text) status before now
write_ends name text status before now reading writing files put =
    put_ends (writes name text) status before now reading writing (one_written before.files now.files name text files) put

first_begun : (o now : Option Files) (name text : List ℕ) → IfSome o (λ told. BeginsOut told now name text)
    → IfSome o (λ told. BeginsOut (written [] told) now name text)
first_begun None now name text is = tt
first_begun (Some told) now name text is = is

-- one whose file could not be written
pub unwritten_ends : (name text : List ℕ) (status : ℕ) (before now : Snapshot) → now.reading ≡ before.reading → status ≡ 3
    → (Rose before.writing now.writing ⊎ ⊥)
    → IfSome before.files (λ told. BeginsOut told now.files name text) → SaysLine (cannot_write name) before now → Finishes (writes name text) status before now
unwritten_ends name text status before now reading is cause begun line = record {
  reading = reading;
  ends = inr (
    is,
    inl (record {
      file = record { name = name; text = text };
      earlier = [];
      later = [];
      place = refl;
      cause = elim cause [ inl rose ↦ rose | inr never ↦ absurd never ];
      begun = first_begun before.files now.files name text begun;
      line = line;
    }),
  );
}

-- the same after calls that left the files and the counts of the shelf
pub read_first : (effect : Effect) (status : ℕ) (files mid_files : Option Files) (reading mid_reading writing mid_writing faults : ℕ)
    (written_before : Option (List ℕ)) (now : Snapshot)
    → mid_files ≡ files → mid_reading ≡ reading → mid_writing ≡ writing
    → Finishes effect status (record { files = mid_files; reading = mid_reading; writing = mid_writing; written = written_before; faults = faults }) now
    → Finishes effect status (record { files = files; reading = reading; writing = writing; written = written_before; faults = faults }) now
read_first effect status files mid_files reading mid_reading writing mid_writing faults written_before now a b d ends =
    subst (λ (f : Option Files). Finishes effect status (record { files = f; reading = reading; writing = writing; written = written_before; faults = faults })
    now) a
    (subst (λ (r : ℕ). Finishes effect status (record { files = mid_files; reading = r; writing = writing; written = written_before; faults = faults }) now) b
    (subst (λ (w : ℕ). Finishes effect status (record { files = mid_files; reading = mid_reading; writing = w; written = written_before; faults = faults }) now)
    d ends))

-- ---- the two ways in which a command ends
pub performs : (request : RequestData) (status : ℕ) (before now : Snapshot) (effect : Effect) → HasGood request before.files
    → HasEffect request before.files effect
    → Finishes effect status before now → Ends request status before now
performs request status before now effect good does finishes = inl (record { good = good; effect = effect; does = does; finishes = finishes })

pub refuses : (request : RequestData) (why : Failure) (name : List ℕ) (status : ℕ) (before now : Snapshot)
    → Fails why (reads request) before.files name before.reading now.reading
    → status ≡ status_of why → SaysLine (line_of why name) before now → now.files ≡ before.files → now.writing ≡ before.writing
    → Ends request status before now
refuses request why name status before now fails is line files writing =
    inr (record { why = why; name = name; fails = fails; status_is = is; line = line; files = files; writing = writing })

-- ---- one file that is read
pub none_before : (files : Option Files) → IfSome files (λ told. AreGood [] told)
none_before None = tt
none_before (Some told) = tt

pub one_good : (one : Input) (files : Option Files) → IfSome files (λ told. IsJudged one told Good) → IfSome files (λ told. AreGood (one ∷ []) told)
one_good one None good = tt
one_good one (Some told) good = (good, tt)

first_at : (why : Failure) (kind : Kind) (later : List Input) (files : Option Files) (name : List ℕ) (before now : ℕ)
    → IsReason why kind files name before now → FailsAt why (input name kind ∷ later) files name before now
first_at why kind later files name before now reason = record {
  one = input name kind;
  named = refl;
  reached = record { earlier = []; later = later; place = refl; good = none_before files };
  reason = reason;
}

pub first_fails : (why : Failure) (kind : Kind) (later : List Input) (files : Option Files) (name : List ℕ) (before now : ℕ)
    → IsReason why kind files name before now → Fails why (input name kind ∷ later) files name before now
first_fails why kind later files name before now reason =
    unless_reason why kind files name before now (FailsAt why (input name kind ∷ later) files name before now)
    (first_at why kind later files name before now) reason

-- ---- what a command prints or writes
pub check_does : (files : Option Files) (name file text : List ℕ) → text ≡ file → IfSome files (λ told. get told name ≡ Some file)
    → HasEffect (Check name) files (prints (check_report text))
check_does files name file text same found = (check_report text, refl, known files found)
  where
    known : (o : Option Files) → IfSome o (λ told. get told name ≡ Some file)
        → IfSome o (λ told. check_report text ≡ check_report (unwrap_or (get told name) []))
    known None has = tt
    known (Some told) has = ap check_report same ∙ sym (ap (λ (g : Option (List ℕ)). check_report (unwrap_or g [])) has)

pub list_does : (files : Option Files) (name text : List ℕ) (cartridge : List (List ℕ)) → text ≡ list_report cartridge
    → IfSome files (λ told. cartridge_of told name ≡ cartridge)
    → HasEffect (ListVoices name) files (prints text)
list_does files name text cartridge is has = (text, refl, known files has)
  where
    known : (o : Option Files) → IfSome o (λ told. cartridge_of told name ≡ cartridge) → IfSome o (λ told. text ≡ list_report (cartridge_of told name))
    known None h = tt
    known (Some told) h = is ∙ sym (ap list_report h)

pub pick_does : (files : Option Files) (file : List ℕ) (slot : ℕ) (out text : List ℕ) (cartridge : List (List ℕ)) (voice : List ℕ)
    → IfSome files (λ told. cartridge_of told file ≡ cartridge) → voice ≡ voice_at cartridge slot → IsFrame text (VoiceDump 0 voice)
    → HasEffect (Pick file slot out) files (writes out text)
pick_does files file slot out text cartridge voice has is frame = (text, refl, known files has)
  where
    known : (o : Option Files) → IfSome o (λ told. cartridge_of told file ≡ cartridge) → IfSome o (λ told. IsFrame text (VoiceDump 0 (picked told file slot)))
    known None h = tt
    known (Some told) h =
        let e : voice ≡ picked told file slot = is ∙ ap (λ (v : List (List ℕ)). voice_at v slot) (sym h) in
        subst (λ (v : List ℕ). IsFrame text (VoiceDump 0 v)) e frame

pub bench_does : (files : Option Files) (seed blocks commands : ℕ) (sum : ℤ) (text : List ℕ) → text ≡ bench_line commands blocks sum
    → commands ≡ length (generated_journal seed blocks) → sum ≡ sum_of_samples (generated_journal seed blocks) blocks
    → HasEffect (Bench seed blocks) files (prints text)
bench_does files seed blocks commands sum text is counted summed =
    ap prints (is ∙ ap (λ (n : ℕ). bench_line n blocks sum) counted ∙ ap (λ (s : ℤ). bench_line (length (generated_journal seed blocks)) blocks s) summed)

pub gen_does : (files : Option Files) (seed scripts commands count total : ℕ) (outputs : List Output) → outputs ≡ scripts_of seed commands scripts
    → count ≡ scripts → total ≡ scripts * commands
    → HasEffect (Gen seed scripts commands) files (record { status = 0; writes = outputs; prints = scripts_line count total })
gen_does files seed scripts commands count total outputs same counted summed =
    ap (λ (o : List Output). made o (scripts_line count total)) same
    ∙ ap (λ (c : ℕ). made (scripts_of seed commands scripts) (scripts_line c total)) counted
    ∙ ap (λ (t : ℕ). made (scripts_of seed commands scripts) (scripts_line scripts t)) summed
  where
    made : List Output → List ℕ → Effect
    made o text = record { status = 0; writes = o; prints = text }

-- one of several files that could not be written
pub several_unwritten : (effect : Effect) (at : ℕ) (status : ℕ) (before now : Snapshot) (name : List ℕ) → now.reading ≡ before.reading → status ≡ 3
    → (Rose before.writing now.writing ⊎ ⊥)
    → (fails : FailsWriting at effect.writes before.files now.files) → name ≡ fails.file.name → SaysLine (cannot_write name) before now
    → Finishes effect status before now
several_unwritten effect at status before now name reading is cause fails named line = record {
  reading = reading;
  ends = inr (
    is,
    inl (record {
      file = fails.file;
      earlier = fails.earlier;
      later = fails.later;
      place = fails.place;
      cause = elim cause [ inl rose ↦ rose | inr never ↦ absurd never ];
      begun = fails.begun;
      line = subst (λ (n : List ℕ). SaysLine (cannot_write n) before now) named line;
    }),
  );
}
