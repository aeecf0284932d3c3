-- The report of a check, message by message.
use Rattle.std.proofs.Common.{◌≡◌, ℕ, zero, suc, ◌+◌, ◌-◌, ◌≤◌, List, [], ◌∷◌, ◌++◌, length, refl, sym, ◌∙◌, ap, subst, arith, add-one, append_assoc}
use Rattle.std.proofs.Common.{append-nil, length-append}
use Rattle.std.specs.Prelude.{Option, Some, None, option_map, option_to_list, Bool, false, Result, Ok, Err, OnOk, OnErr}
use Rattle.std.specs.List.{flat_map}
use Rattle.outside.specs.Files.{said}
use Rattle.tool_core.specs.declared.scan.EndedSysEx.{EndedSysEx}
use Rattle.tool_core.specs.SysEx.{SysExMessage, is_too_long, sysex_at, sysex_before, sysex_messages}
use Rattle.tool_core.specs.Scans.{TellsOf}
use Rattle.tool_core.specs.Lines.{content_line, message_line, lines_before, count_line, check_report, name_line, name_lines, list_report}
use Rattle.tool_core.specs.Pages.{Holds, FailsIn}
use Rattle.outside.specs.Faults.{HasCause}
use Rattle.cartridge.specs.Cartridge.{voice_at}
use Rattle.sysex_frame.specs.Frame.{Content, IsFrame}
use Rattle.sysex_frame.specs.FrameFault.{first_fault}
use Rattle.sysex_frame.specs.declared.frame.FrameFault.{FrameFault}
use Rattle.tool_core.specs.Refusals.{content, message_content}
use Rattle.tool_core.proofs.Scanning.{content_of_frame, no_content}
use Rattle.tool_core.proofs.Streams.{sysex_next}
use Rattle.tool_core.proofs.Paging.{fails_longer}

flat-append : (f : SysExMessage → List ℕ) (xs ys : List SysExMessage) → flat_map f (xs ++ ys) ≡ flat_map f xs ++ flat_map f ys
flat-append f [] ys = refl
flat-append f (x ∷ xs) ys = ap (λ (l : List ℕ). f x ++ l) (flat-append f xs ys) ∙ sym (append_assoc (f x) (flat_map f xs) (flat_map f ys))

lines_next : (file : List ℕ) (offset : ℕ) → lines_before file (offset + 1) ≡ lines_before file offset
    ++ flat_map message_line (option_to_list (sysex_at file offset))
unfolding lines_before
lines_next file offset =
    ap (flat_map message_line) (sysex_next file offset) ∙ flat-append message_line (sysex_before file offset) (option_to_list (sysex_at file offset))

-- the message that an answer tells of
pub told_none : (o : Option SysExMessage) → TellsOf None o → o ≡ None
told_none None t = refl
told_none (Some e) t = absurd t

pub record IsTold (ended : EndedSysEx) (o : Option SysExMessage) : Type 0 where
  pub sysex : SysExMessage
  pub is : o ≡ Some sysex
  pub tells : TellsOf (Some ended) (Some sysex)

pub told_some : (ended : EndedSysEx) (o : Option SysExMessage) → TellsOf (Some ended) o → IsTold ended o
told_some ended None t = absurd t
told_some ended (Some e) t = record { sysex = e; is = refl; tells = t }

pub none_put : (o now : Option (List ℕ)) (page file : List ℕ) (offset : ℕ) → sysex_at file offset ≡ None
    → Holds o now page (lines_before file offset) → Holds o now page (lines_before file (offset + 1))
none_put o now page file offset is puts =
    let same : lines_before file (offset + 1) ≡ lines_before file offset =
    lines_next file offset ∙ ap (λ e. lines_before file offset ++ flat_map message_line (option_to_list e)) is ∙ append-nil (lines_before file offset) in
    subst (λ (t : List ℕ). Holds o now page t) (sym same) puts

pub some_put : (o now : Option (List ℕ)) (page file : List ℕ) (offset : ℕ) (e : SysExMessage) (line : List ℕ) → sysex_at file offset ≡ Some e
    → line ≡ message_line e
    → Holds o now page (lines_before file offset ++ line) → Holds o now page (lines_before file (offset + 1))
some_put o now page file offset e line is same puts =
    let next : lines_before file (offset + 1) ≡ lines_before file offset ++ line =
    lines_next file offset ∙ ap (λ x. lines_before file offset ++ flat_map message_line (option_to_list x)) is
    ∙ ap (λ (l : List ℕ). lines_before file offset ++ l) (append-nil (message_line e) ∙ sym same) in
    subst (λ (t : List ℕ). Holds o now page t) (sym next) puts

pub count_next : (file : List ℕ) (offset count more : ℕ) → count ≡ length (sysex_before file offset) → more ≡ length (option_to_list (sysex_at file offset))
    → count + more ≡ length (sysex_before file (offset + 1))
count_next file offset count more was is =
    let next : length (sysex_before file (offset + 1)) ≡ length (sysex_before file offset) + length (option_to_list (sysex_at file offset)) =
    ap length (sysex_next file offset) ∙ length-append (sysex_before file offset) (option_to_list (sysex_at file offset)) in
    omega arith

pub nothing_put : (o : Option (List ℕ)) (file : List ℕ) → Holds o o [] (lines_before file 0)
unfolding lines_before sysex_before
nothing_put None file = record { prefix = []; was_put = refl; whole = refl }
nothing_put (Some w) file = record { prefix = []; was_put = ap (λ (l : List ℕ). Some l) (sym (append-nil w)); whole = refl }

-- the lines so far begin the report
pub record Begins (text whole : List ℕ) : Type 0 where
  pub rest : List ℕ
  pub is : whole ≡ text ++ rest

longer : (file : List ℕ) (offset more : ℕ) → Begins (lines_before file offset) (lines_before file (offset + more))
longer file offset zero = record {
  rest = [];
  is = ap (lines_before file) (let e : offset + 0 ≡ offset = omega arith in e)
      ∙ sym (append-nil (lines_before file offset));
}
longer file offset (suc more) =
    let before = longer file offset more in
    let e : offset + suc more ≡ offset + more + 1 = omega arith in
    record {
      rest = before.rest ++ flat_map message_line (option_to_list (sysex_at file (offset + more)));
      is = ap (lines_before file) e ∙ lines_next file (offset + more)
          ∙ ap (λ (l : List ℕ). l ++ flat_map message_line (option_to_list (sysex_at file (offset + more)))) before.is
          ∙ append_assoc (lines_before file offset) before.rest (flat_map message_line (option_to_list (sysex_at file (offset + more))));
    }

report_is : (file : List ℕ) → check_report file ≡ lines_before file (length file) ++ count_line (length (sysex_messages file))
unfolding check_report
report_is file = refl

pub report_begins : (file : List ℕ) (offset : ℕ) → offset ≤ length file → Begins (lines_before file offset) (check_report file)
report_begins file offset within =
    let part = longer file offset (length file - offset) in
    let e : offset + (length file - offset) ≡ length file = omega arith in
    record {
      rest = part.rest ++ count_line (length (sysex_messages file));
      is = report_is file
          ∙ ap (λ (l : List ℕ). l ++ count_line (length (sysex_messages file))) (ap (lines_before file) (sym e) ∙ part.is)
          ∙ append_assoc (lines_before file offset) part.rest (count_line (length (sysex_messages file)));
    }

pub lines_fail : (o now : Option (List ℕ)) (file : List ℕ) (offset : ℕ) → offset ≤ length file → FailsIn (lines_before file offset) o now
    → FailsIn (check_report file) o now
lines_fail o now file offset within some =
    let b = report_begins file offset within in
    subst (λ (t : List ℕ). FailsIn t o now) (sym b.is) (fails_longer (lines_before file offset) b.rest o now some)

pub whole_report : (file line : List ℕ) (offset count : ℕ) → offset ≡ length file → count ≡ length (sysex_before file offset) → line ≡ count_line count
    → lines_before file offset ++ line ≡ check_report file
whole_report file line offset count ended is same =
    ap (λ (l : List ℕ). lines_before file offset ++ l) (same ∙ ap count_line (is ∙ ap (λ (p : ℕ). length (sysex_before file p)) ended))
    ∙ ap (λ (p : ℕ). lines_before file p ++ count_line (length (sysex_messages file))) ended
    ∙ sym (report_is file)

pub all_put : (o now : Option (List ℕ)) (text : List ℕ) → Holds o now [] text → now ≡ option_map (said text) o
all_put o now text puts = puts.was_put ∙ ap (λ (l : List ℕ). option_map (said l) o) (sym (append-nil puts.prefix) ∙ puts.whole)

-- ---- the line of a message
pub frame_shown : (e : SysExMessage) (long : Bool) (message line : List ℕ) (held : Content) → long ≡ false → long ≡ is_too_long e → message ≡ e.bytes
    → IsFrame message held
    → line ≡ content_line (Some held) → line ≡ message_line e
frame_shown e long message line held short tells same is shown =
    let e_short : is_too_long e ≡ false = sym tells ∙ short in
    let something : content e.bytes ≡ Some held = ap content (sym same) ∙ content_of_frame message held is in
    let whole : message_content e ≡ Some held = rw (e_short, something) refl in
    shown ∙ ap content_line (sym whole)

pub fault_shown : (e : SysExMessage) (long : Bool) (message line : List ℕ) (fault : FrameFault) → long ≡ false → long ≡ is_too_long e → message ≡ e.bytes
    → first_fault message ≡ Some fault
    → line ≡ content_line None → line ≡ message_line e
fault_shown e long message line fault short tells same is shown =
    let e_short : is_too_long e ≡ false = sym tells ∙ short in
    let nothing : content e.bytes ≡ None = ap content (sym same) ∙ no_content message fault is in
    let whole : message_content e ≡ None = rw (e_short, nothing) refl in
    shown ∙ ap content_line (sym whole)

pub count_none : (file : List ℕ) → 0 ≡ length (sysex_before file 0)
unfolding sysex_before
count_none file = refl

pub nothing_yet : (o : Option (List ℕ)) (page file : List ℕ) → page ≡ [] → Holds o o page (lines_before file 0)
nothing_yet o page file is = subst (λ (l : List ℕ). Holds o o l (lines_before file 0)) (sym is) (nothing_put o file)

-- ---- what an answer tells, further on
pub ok_put : {T E : Type 0} (r : Result T E) (o mid now : Option (List ℕ)) (page text : List ℕ) → Holds o mid page text
    → OnOk r ((before : Option (List ℕ)) (lines : List ℕ) → Holds before mid page lines → Holds before now [] lines)
    → OnOk r (now ≡ option_map (said text) o)
ok_put (Ok x) o mid now page text puts along = all_put o now text (along o text puts)
ok_put (Err e) o mid now page text puts along = tt

pub err_put : {T E : Type 0} (r : Result T E) (o mid now : Option (List ℕ)) (page text : List ℕ) → Holds o mid page text
    → OnErr r ((before : Option (List ℕ)) (lines : List ℕ) → Holds before mid page lines → FailsIn lines before now)
    → OnErr r (FailsIn text o now)
err_put (Ok x) o mid now page text puts along = tt
err_put (Err e) o mid now page text puts along = along o text puts

pub cause_from : {T E : Type 0} (r : Result T E) (first before now : ℕ) → before ≡ first → HasCause before now 0 0 ⊥ r → HasCause first now 0 0 ⊥ r
cause_from r first before now same cause = subst (λ (b : ℕ). HasCause b now 0 0 ⊥ r) same cause

pub report_put : (o now : Option (List ℕ)) (page file line : List ℕ) (offset count : ℕ) → offset ≡ length file → count ≡ length (sysex_before file offset)
    → line ≡ count_line count
    → Holds o now page (lines_before file offset ++ line) → Holds o now page (check_report file)
report_put o now page file line offset count ended is same puts = subst (λ (t : List ℕ).
    Holds o now page t) (whole_report file line offset count ended is same) puts

-- ---- the names of a cartridge
pub names_none : (voices : List (List ℕ)) → name_lines voices 0 ≡ []
unfolding name_lines
names_none voices = refl

pub names_next : (voices : List (List ℕ)) (slot : ℕ) → name_lines voices (slot + 1) ≡ name_lines voices slot ++ name_line slot (voice_at voices slot)
unfolding name_lines
names_next voices slot = rw add-one refl

pub names_all : (voices : List (List ℕ)) (slot : ℕ) → slot ≡ 32 → name_lines voices slot ≡ list_report voices
unfolding list_report
names_all voices slot is = ap (name_lines voices) is
