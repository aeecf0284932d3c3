-- What a turn makes, and what of it was written.
use Rattle.std.proofs.Common.{◌≡◌, ◌≢◌, ◌⊎◌, inl, inr, ℕ, zero, suc, ◌+◌, ◌-◌, ◌<◌, ◌≤◌, List, [], ◌++◌, length, take, drop, refl, sym, ◌∙◌, ap, subst, arith}
use Rattle.std.proofs.Common.{append-nil}
use Rattle.std.specs.Prelude.{Option, option_map, Result, Ok, Err, OnOk, OnErr, ℤ}
use Rattle.std.proofs.lemmas.List.{take-append-drop}
use Rattle.std.proofs.lemmas.Grind.{flat_map-append}
use Rattle.outside.specs.Files.{Files, appended, Lacks, AppendedSome}
use Rattle.outside.specs.Faults.{Rose, HasCause}
use Rattle.turns.specs.declared.target.Target.{Target}
use Rattle.command_set.specs.Entries.{LoggedData}
use Rattle.instrument.specs.Journal.{sound}
use Rattle.take_files.specs.Files.{order_line, wav_block, wav_blocks}
use Rattle.live_renderer.specs.Renderer.{RendererView, KeepsSound}
use Rattle.turns.specs.Steps.{LogsSome, at_block, block_before}
use Rattle.turns.specs.Written.{order_lines, both_appended, BothBegun, Blames}
use Rattle.turns.proofs.Logging.{keeps_more}
use Rattle.turns.proofs.Sounds.{sounded, wav_prefix, wav_more, wav_none}
use Rattle.turns.proofs.Appending.{both_none, sound_grows, order_grows, sound_stopped, order_stopped}

pub heard_before : (t : ℕ) (r r1 r2 : RendererView) (samples : List ℤ) → LogsSome (at_block t r) r1 → KeepsSound (at_block t r) r1 → KeepsSound r1 r2
    → (0 < t → samples ≡ sound r.journal (t - 1))
    → wav_blocks r2.journal t ≡ wav_blocks r.journal (t - 1) ++ block_before t samples
heard_before t r r1 r2 samples logs keeps keeps2 heard = sounded t r.journal r2.journal samples (keeps_more (at_block t r) r1 r2 logs keeps keeps2) heard

pub on_err : {A E : Type 0} (r : Result A E) (P : Type 0) → P → OnErr r P
on_err (Ok x) P p = tt
on_err (Err e) P p = p

pub both_on : {A E : Type 0} (r : Result A E) (P Q : Type 0) → (P → Q) → OnOk r P → OnOk r Q
both_on (Ok x) P Q f p = f p
both_on (Err e) P Q f p = tt

pub both_err : {A E : Type 0} (r : Result A E) (P Q : Type 0) → (P → Q) → OnErr r P → OnErr r Q
both_err (Ok x) P Q f p = tt
both_err (Err e) P Q f p = f p

pub on_ok : {A E : Type 0} (r : Result A E) (P : Type 0) → P → OnOk r P
on_ok (Ok x) P p = p
on_ok (Err e) P p = tt

-- what is told of a failed write, from an earlier moment up to which no write failed
pub blames_from : {A : Type 0} (r : Result A Target) (sound order : List ℕ) (before first now : Option (List (List ℕ)))
    → before ≡ first → Blames r sound order before now → Blames r sound order first now
blames_from r sound order before first now same h = subst (λ (o : Option (List (List ℕ))). Blames r sound order o now) same h

-- a cause handed on, from a later moment at which the counts were the same
pub cause_from : {A E : Type 0} (r : Result A E) (before now other_before other_now first other_first : ℕ) (P : Type 0) → before ≡ first
    → other_before ≡ other_first → (P → ⊥)
    → HasCause before now other_before other_now P r → HasCause first now other_first other_now ⊥ r
cause_from (Ok x) before now other_before other_now first other_first P same other_same never cause = record {
  later = subst (λ (k : ℕ). k ≤ now) same cause.later;
  other = cause.other ∙ other_same;
  kept = cause.kept ∙ same;
  failed = tt;
}
cause_from (Err e) before now other_before other_now first other_first P same other_same never cause = record {
  later = subst (λ (k : ℕ). k ≤ now) same cause.later;
  other = cause.other ∙ other_same;
  kept = tt;
  failed = at cause.failed;
} where
  at : (Rose before now ⊎ P) → (Rose first now ⊎ ⊥)
  at (inl rose) = inl (subst (λ (k : ℕ). Rose k now) same rose)
  at (inr p) = absurd (never p)

lines_prefix : (before journal : List LoggedData) (n : ℕ) → take n journal ≡ before → order_lines journal ≡ order_lines before ++ order_lines (drop n journal)
lines_prefix before journal n prefix =
    ap order_lines (sym (take-append-drop n journal)) ∙ flat_map-append order_line (take n journal) (drop n journal)
    ∙ ap (λ (j : List LoggedData). order_lines j ++ order_lines (drop n journal)) prefix

module _ (sound_name order : List ℕ) (ne : sound_name ≢ order) (o : Option Files) where
  -- before the first turn
  pub none_written : (journal : List LoggedData) → journal ≡ [] → (Lacks o sound_name → ⊥) → (Lacks o order → ⊥)
      → o ≡ option_map (both_appended sound_name (wav_blocks journal 0) order (order_lines journal)) o
  none_written journal none has_sound has_order =
      both_none sound_name order ne o has_sound has_order
      ∙ (λ i. option_map (both_appended sound_name (sym (wav_none journal) i) order (order_lines (sym none i))) o)

  -- a turn

  pub block_stopped : (before now : Option Files) (t blocks n : ℕ) (old journal : List LoggedData) (samples : List ℤ) → t ≤ blocks
      → before ≡ option_map (both_appended sound_name (wav_blocks old (t - 1)) order (order_lines old)) o
      → AppendedSome sound_name (block_before t samples) before now
      → wav_blocks journal t ≡ wav_blocks old (t - 1) ++ block_before t samples → take n journal ≡ old
      → BothBegun sound_name (wav_blocks journal blocks) order (order_lines journal) o now
  block_stopped before now t blocks n old journal samples le was some heard prefix =
      let w = wav_prefix journal t blocks le in
      sound_stopped sound_name order ne o before now (wav_blocks old (t - 1)) (order_lines old) (block_before t samples) (wav_blocks journal blocks)
      (order_lines journal) w.0 (order_lines (drop n journal)) was some
      (w.1 ∙ ap (λ (xs : List ℕ). xs ++ w.0) heard) (lines_prefix old journal n prefix)

  pub block_written : (before now : Option Files) (t : ℕ) (old journal : List LoggedData) (samples : List ℤ)
      → before ≡ option_map (both_appended sound_name (wav_blocks old (t - 1)) order (order_lines old)) o
      → now ≡ option_map (appended sound_name (block_before t samples)) before
      → wav_blocks journal t ≡ wav_blocks old (t - 1) ++ block_before t samples
      → now ≡ option_map (both_appended sound_name (wav_blocks journal t) order (order_lines old)) o
  block_written before now t old journal samples was is heard =
      sound_grows sound_name order ne o before now (wav_blocks old (t - 1)) (order_lines old) (block_before t samples) was is
      ∙ ap (λ (xs : List ℕ). option_map (both_appended sound_name xs order (order_lines old)) o) (sym heard)

  pub lines_stopped : (before now : Option Files) (t blocks : ℕ) (old journal new : List LoggedData) → t ≤ blocks
      → before ≡ option_map (both_appended sound_name (wav_blocks journal t) order (order_lines old)) o → AppendedSome order (order_lines new) before now
      → order_lines journal ≡ order_lines old ++ order_lines new
      → BothBegun sound_name (wav_blocks journal blocks) order (order_lines journal) o now
  lines_stopped before now t blocks old journal new le was some lines =
      let w = wav_prefix journal t blocks le in
      order_stopped sound_name order ne o before now (wav_blocks journal t) (order_lines old) (order_lines new) (wav_blocks journal blocks)
      (order_lines journal) w.0 [] was some w.1
      (lines ∙ sym (append-nil (order_lines old ++ order_lines new)))

  pub lines_written : (before now : Option Files) (t : ℕ) (old journal new : List LoggedData)
      → before ≡ option_map (both_appended sound_name (wav_blocks journal t) order (order_lines old)) o
      → now ≡ option_map (appended order (order_lines new)) before
      → order_lines journal ≡ order_lines old ++ order_lines new
      → now ≡ option_map (both_appended sound_name (wav_blocks journal ((t + 1) - 1)) order (order_lines journal)) o
  lines_written before now t old journal new was is lines =
      let e : t ≡ (t + 1) - 1 = omega arith in
      order_grows sound_name order ne o before now (wav_blocks journal t) (order_lines old) (order_lines new) was is
      ∙ (λ i. option_map (both_appended sound_name (wav_blocks journal (e i)) order (sym lines i)) o)

  -- the last block

  last : (t b : ℕ) (old journal : List LoggedData) (out : List ℤ) → 1 ≤ t → b ≡ t - 1 → out ≡ sound old b → journal ≡ old
      → wav_blocks journal t ≡ wav_blocks old (t - 1) ++ wav_block out
  last zero b old journal out some at heard same = absurd (omega (arith, some))
  last (suc n) b old journal out some at heard same =
      let e : suc n - 1 ≡ n = omega arith in
      ap (λ (j : List LoggedData). wav_blocks j (suc n)) same ∙ wav_more old n
      ∙ sym (λ i. wav_blocks old (e i) ++ wav_block ((heard ∙ ap (sound old) (at ∙ e)) i))

  pub last_stopped : (before now : Option Files) (t b : ℕ) (old journal : List LoggedData) (out : List ℤ) → 1 ≤ t → b ≡ t - 1 → out ≡ sound old b
      → journal ≡ old
      → before ≡ option_map (both_appended sound_name (wav_blocks old (t - 1)) order (order_lines old)) o → AppendedSome sound_name (wav_block out) before now
      → BothBegun sound_name (wav_blocks journal t) order (order_lines journal) o now
  last_stopped before now t b old journal out some at heard same was stopped =
      sound_stopped sound_name order ne o before now (wav_blocks old (t - 1)) (order_lines old) (wav_block out) (wav_blocks journal t) (order_lines journal) []
      [] was stopped
      (last t b old journal out some at heard same ∙ sym (append-nil (wav_blocks old (t - 1) ++ wav_block out))) (ap order_lines same
      ∙ sym (append-nil (order_lines old)))

  pub last_written : (before now : Option Files) (t b : ℕ) (old journal : List LoggedData) (out : List ℤ) → 1 ≤ t → b ≡ t - 1 → out ≡ sound old b
      → journal ≡ old
      → before ≡ option_map (both_appended sound_name (wav_blocks old (t - 1)) order (order_lines old)) o
      → now ≡ option_map (appended sound_name (wav_block out)) before
      → now ≡ option_map (both_appended sound_name (wav_blocks journal t) order (order_lines journal)) o
  last_written before now t b old journal out some at heard same was is =
      sound_grows sound_name order ne o before now (wav_blocks old (t - 1)) (order_lines old) (wav_block out) was is
      ∙ (λ i. option_map (both_appended sound_name (sym (last t b old journal out some at heard same) i) order (order_lines (sym same i))) o)
