-- Verdicts on files that were read.
use Rattle.std.proofs.Common.{◌≡◌, ◌⊎◌, ℕ, ◌<◌, ◌≤◌, List, [], length, refl, sym, ◌∙◌, ap, subst, lt-ltb, if◌then◌else◌}
use Rattle.std.specs.Prelude.{Option, Some, None, IfSome, unwrap_or, is_none, Result, Ok, Err, OnOk, IfOk, IfErr, ok_or}
use Rattle.std.specs.FinMap.{get}
use Rattle.std.specs.Option.{option_or}
use Rattle.std.proofs.lemmas.Bool.{le-ltb}
use Rattle.outside.specs.Files.{Files, Lacks}
use Rattle.outside.specs.Faults.{Rose}
use Rattle.tool_core.specs.declared.refusal.Refusal.{Refusal}
use Rattle.tool_core.specs.declared.failure.Failure.{Failure}
use Rattle.tool_core.specs.declared.failure.Failure.TheVariants as failure
use Rattle.tool_core.specs.declared.refusal.Refusal.TheVariants.{NoVoice, NoCartridge}
use Rattle.tool_core.specs.declared.scan.Scan.{Scan}
use Rattle.tool_core.specs.SysEx.{sysex_messages}
use Rattle.tool_core.specs.Refusals.{Wanted, AllMessages, OneVoice, OneCartridge, refusal, refusal_in, cut_refusal, missing_refusal, cartridge_in}
use Rattle.tool_core.specs.Refusals.{voice_in, first_some, message_refusal, long_refusal}
use Rattle.tool_core.specs.Scans.{IsScan}
use Rattle.tool_core.proofs.Scanning.{or_none, or_assoc}
use Rattle.tool_core.proofs.Meanings.{means, limit_reason}
use Rattle.tool_core.specs.Verdicts.{Verdict, TooLarge, Good, verdict_on, judged, file_limit}
use Rattle.tool_core.specs.Inputs.{Midi}
use Rattle.tool_core.specs.Failures.{IsReason}
use Rattle.tool_core.specs.Effects.{cartridge_of, voice_of}
use Rattle.tool_core.specs.Endings.{IsReadFailure, IsMidiFailure}

-- where the files are told, this is the verdict on the named one
abbrev pub HasVerdict : Wanted → Option Files → List ℕ → Verdict → Type 0
HasVerdict wanted files name it = IfSome files (λ told. verdict_on wanted (get told name) ≡ it)

on_file : (wanted : Wanted) (file : List ℕ) → length file ≤ 16777216 → verdict_on wanted (Some file) ≡ judged (refusal wanted file)
unfolding verdict_on
on_file wanted file within = rw (le-ltb 16777216 (length file) within) refl

found_judged : (wanted : Wanted) (files : Option Files) (name file : List ℕ) → IfSome files (λ told. get told name ≡ Some file) → length file ≤ 16777216
    → HasVerdict wanted files name (judged (refusal wanted file))
found_judged wanted None name file found within = tt
found_judged wanted (Some told) name file found within = ap (verdict_on wanted) found ∙ on_file wanted file within

pub good_read : (wanted : Wanted) (files : Option Files) (name file : List ℕ) → IfSome files (λ told. get told name ≡ Some file) → length file ≤ 16777216
    → refusal wanted file ≡ None → HasVerdict wanted files name Good
good_read wanted files name file found within none =
    subst (λ (r : Option Refusal). HasVerdict wanted files name (judged r)) none (found_judged wanted files name file found within)

pub content_reason : (why : Failure) (wanted : Wanted) (files : Option Files) (name file : List ℕ) (before now : ℕ)
    → IfSome files (λ told. get told name ≡ Some file) → length file ≤ 16777216 → now ≡ before
    → IsMidiFailure why wanted file → IsReason why (Midi wanted) files name before now
content_reason why wanted files name file before now found within same reason =
    means why ⊥ (Rose before now ⊎ Lacks files name) (λ it. judged (refusal wanted file) ≡ it) (λ it. (now ≡ before) × HasVerdict wanted files name it)
    (Unit {0}) (now ≡ before) (λ none. absurd none)
    (λ it is. (same, subst (λ (v : Verdict). HasVerdict wanted files name v) is (found_judged wanted files name file found within)))
    (λ u. same) reason

large : (wanted : Wanted) (file : List ℕ) → file_limit < length file → verdict_on wanted (Some file) ≡ TooLarge
unfolding verdict_on
large wanted file past = rw (lt-ltb file_limit (length file) past) refl

pub read_reason : (why : Failure) (wanted : Wanted) (files : Option Files) (name : List ℕ) (before now : ℕ)
    → IsReadFailure why file_limit files name before now → IsReason why (Midi wanted) files name before now
read_reason why wanted files name before now reason = limit_reason why (Midi wanted) file_limit files name before now (large wanted) reason

-- what was found in a file that was read
pub cartridge_known : (files : Option Files) (name file : List ℕ) (cartridge : List (List ℕ)) → IfSome files (λ told. get told name ≡ Some file)
    → cartridge_in file ≡ Some cartridge → IfSome files (λ told. cartridge_of told name ≡ cartridge)
cartridge_known None name file cartridge found is = tt
cartridge_known (Some told) name file cartridge found is =
    ap (λ (o : Option (List ℕ)). unwrap_or (cartridge_in (unwrap_or o [])) []) found ∙ ap (λ (o : Option (List (List ℕ))). unwrap_or o []) is

pub voice_known : (files : Option Files) (name file voice : List ℕ) → IfSome files (λ told. get told name ≡ Some file)
    → voice_in file ≡ Some voice → IfSome files (λ told. voice_of told name ≡ voice)
voice_known None name file voice found is = tt
voice_known (Some told) name file voice found is =
    ap (λ (o : Option (List ℕ)). unwrap_or (voice_in (unwrap_or o [])) []) found ∙ ap (λ (o : Option (List ℕ)). unwrap_or o []) is

-- ---- the refusal of a file, from what one scanner found
refusal_is : (wanted : Wanted) (file : List ℕ) → refusal wanted file ≡ option_or (refusal_in wanted (sysex_messages file))
    (option_or (cut_refusal file) (missing_refusal wanted file))
unfolding refusal
refusal_is wanted file = refl

pub all_refused : (file : List ℕ) (scan : Scan) (cut o : Option Refusal) → IsScan scan (sysex_messages file) → cut ≡ cut_refusal file
    → o ≡ option_or scan.bad cut → refusal AllMessages file ≡ o
all_refused file scan cut o scanned is_cut is =
    refusal_is AllMessages file
    ∙ ap (option_or (first_some message_refusal (sysex_messages file))) (or_none (cut_refusal file))
    ∙ ap (λ (b : Option Refusal). option_or b (cut_refusal file)) (sym scanned.bad)
    ∙ ap (option_or scan.bad) (sym is_cut) ∙ sym is

some_refused : (file : List ℕ) (long missing cut o : Option Refusal) → long ≡ first_some long_refusal (sysex_messages file) → cut ≡ cut_refusal file
    → o ≡ option_or long cut
    → option_or (first_some long_refusal (sysex_messages file)) (option_or (cut_refusal file) missing) ≡ option_or o missing
some_refused file long missing cut o scanned is_cut is =
    ap (λ (b : Option Refusal). option_or b (option_or (cut_refusal file) missing)) (sym scanned)
    ∙ ap (λ (b : Option Refusal). option_or long (option_or b missing)) (sym is_cut)
    ∙ or_assoc long cut missing ∙ ap (λ (b : Option Refusal). option_or b missing) (sym is)

pub cartridge_refused : (file : List ℕ) (scan : Scan) (cut o : Option Refusal) → IsScan scan (sysex_messages file) → cut ≡ cut_refusal file
    → o ≡ option_or scan.long cut → refusal OneCartridge file ≡ option_or o (missing_refusal OneCartridge file)
cartridge_refused file scan cut o scanned is_cut is =
    refusal_is OneCartridge file ∙ some_refused file scan.long (missing_refusal OneCartridge file) cut o scanned.long is_cut is

pub voice_refused : (file : List ℕ) (scan : Scan) (cut o : Option Refusal) → IsScan scan (sysex_messages file) → cut ≡ cut_refusal file
    → o ≡ option_or scan.long cut → refusal OneVoice file ≡ option_or o (missing_refusal OneVoice file)
voice_refused file scan cut o scanned is_cut is =
    refusal_is OneVoice file ∙ some_refused file scan.long (missing_refusal OneVoice file) cut o scanned.long is_cut is

pub cartridge_is : (file : List ℕ) (scan : Scan) → IsScan scan (sysex_messages file) → cartridge_in file ≡ scan.cartridge
unfolding cartridge_in
cartridge_is file scan scanned = sym scanned.cartridge

pub voice_is : (file : List ℕ) (scan : Scan) → IsScan scan (sysex_messages file) → voice_in file ≡ scan.voice
unfolding voice_in
voice_is file scan scanned = sym scanned.voice

pub cartridge_missing : (file : List ℕ) (o : Option (List (List ℕ))) → cartridge_in file ≡ o
    → missing_refusal OneCartridge file ≡ (if is_none o then Some NoCartridge else None)
cartridge_missing file o is = rw is refl

pub voice_missing : (file : List ℕ) (o : Option (List ℕ)) → voice_in file ≡ o → missing_refusal OneVoice file ≡ (if is_none o then Some NoVoice else None)
voice_missing file o is = rw is refl

-- ---- the same of an answer
pub ok_good : {X : Type 0} (r : Result X Failure) (wanted : Wanted) (files : Option Files) (name file text : List ℕ)
    → text ≡ file → IfSome files (λ told. get told name ≡ Some file) → length file ≤ 16777216
    → OnOk r (refusal wanted text ≡ None) → OnOk r (HasVerdict wanted files name Good)
ok_good (Ok x) wanted files name file text same found within none = good_read wanted files name file found within (ap (refusal wanted) (sym same) ∙ none)
ok_good (Err e) wanted files name file text same found within none = tt

pub err_reason : {X : Type 0} (r : Result X Failure) (wanted : Wanted) (files : Option Files) (name file text : List ℕ) (before now : ℕ)
    → text ≡ file → IfSome files (λ told. get told name ≡ Some file) → length file ≤ 16777216 → now ≡ before
    → IfErr r (λ why. IsMidiFailure why wanted text) → IfErr r (λ why. IsReason why (Midi wanted) files name before now)
err_reason (Ok x) wanted files name file text before now same found within kept reason = tt
err_reason (Err why) wanted files name file text before now same found within kept reason =
    content_reason why wanted files name file before now found within kept (subst (λ (t : List ℕ). IsMidiFailure why wanted t) same reason)

pub ok_cartridge : {E : Type 0} (r : Result (List (List ℕ)) E) (files : Option Files) (name file text : List ℕ)
    → text ≡ file → IfSome files (λ told. get told name ≡ Some file)
    → IfOk r (λ cartridge. cartridge_in text ≡ Some cartridge) → IfOk r (λ cartridge. IfSome files (λ told. cartridge_of told name ≡ cartridge))
ok_cartridge (Ok cartridge) files name file text same found is = cartridge_known files name file cartridge found (ap cartridge_in (sym same) ∙ is)
ok_cartridge (Err e) files name file text same found is = tt

pub ok_voice : {E : Type 0} (r : Result (List ℕ) E) (files : Option Files) (name file text : List ℕ)
    → text ≡ file → IfSome files (λ told. get told name ≡ Some file)
    → IfOk r (λ voice. voice_in text ≡ Some voice) → IfOk r (λ voice. IfSome files (λ told. voice_of told name ≡ voice))
ok_voice (Ok voice) files name file text same found is = voice_known files name file voice found (ap voice_in (sym same) ∙ is)
ok_voice (Err e) files name file text same found is = tt

-- ---- what was found, or that it is missing
pub cartridge_good : (file : List ℕ) (o : Option (List (List ℕ))) (r : Result (List (List ℕ)) Failure) → r ≡ ok_or o (failure.Refused NoCartridge)
    → cartridge_in file ≡ o → refusal OneCartridge file ≡ missing_refusal OneCartridge file → OnOk r (refusal OneCartridge file ≡ None)
cartridge_good file None r is found refused = rw is tt
cartridge_good file (Some x) r is found refused = rw is (refused ∙ cartridge_missing file (Some x) found)

pub cartridge_value : (file : List ℕ) (o : Option (List (List ℕ))) (r : Result (List (List ℕ)) Failure) → r ≡ ok_or o (failure.Refused NoCartridge)
    → cartridge_in file ≡ o → IfOk r (λ cartridge. cartridge_in file ≡ Some cartridge)
cartridge_value file None r is found = rw is tt
cartridge_value file (Some x) r is found = rw is found

pub cartridge_reason : (file : List ℕ) (o : Option (List (List ℕ))) (r : Result (List (List ℕ)) Failure) → r ≡ ok_or o (failure.Refused NoCartridge)
    → cartridge_in file ≡ o → refusal OneCartridge file ≡ missing_refusal OneCartridge file → IfErr r (λ why. IsMidiFailure why OneCartridge file)
cartridge_reason file None r is found refused = rw is (ap judged (refused ∙ cartridge_missing file None found))
cartridge_reason file (Some x) r is found refused = rw is tt

pub voice_good : (file : List ℕ) (o : Option (List ℕ)) (r : Result (List ℕ) Failure) → r ≡ ok_or o (failure.Refused NoVoice)
    → voice_in file ≡ o → refusal OneVoice file ≡ missing_refusal OneVoice file → OnOk r (refusal OneVoice file ≡ None)
voice_good file None r is found refused = rw is tt
voice_good file (Some x) r is found refused = rw is (refused ∙ voice_missing file (Some x) found)

pub voice_value : (file : List ℕ) (o : Option (List ℕ)) (r : Result (List ℕ) Failure) → r ≡ ok_or o (failure.Refused NoVoice)
    → voice_in file ≡ o → IfOk r (λ voice. voice_in file ≡ Some voice)
voice_value file None r is found = rw is tt
voice_value file (Some x) r is found = rw is found

pub voice_reason : (file : List ℕ) (o : Option (List ℕ)) (r : Result (List ℕ) Failure) → r ≡ ok_or o (failure.Refused NoVoice)
    → voice_in file ≡ o → refusal OneVoice file ≡ missing_refusal OneVoice file → IfErr r (λ why. IsMidiFailure why OneVoice file)
voice_reason file None r is found refused = rw is (ap judged (refused ∙ voice_missing file None found))
voice_reason file (Some x) r is found refused = rw is tt
