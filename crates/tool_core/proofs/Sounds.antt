-- The bytes of a sound file, chunk by chunk.
use Rattle.take_files.specs.Playback.{PlaybackView}
use Rattle.std.proofs.Common.{◌≡◌, ℕ, zero, suc, ◌+◌, ◌*◌, ◌≤◌, ◌-◌, List, [], ◌∷◌, ◌++◌, length, drop, refl, sym, ◌∙◌, ap, subst, arith}
use Rattle.std.proofs.Common.{append_assoc, append-nil, length-append}
use Rattle.std.specs.Prelude.{ℤ, Option, Some, None, option_map}
use Rattle.outside.specs.Files.{Files}
use Rattle.std.specs.List.{flat_map}
use Rattle.std.proofs.lemmas.List.FromFn.{length-map-range_with_len}
use Rattle.command_set.specs.Entries.{LoggedData}
use Rattle.instrument.specs.State.{State, samples, modulation, mix_of, output_of}
use Rattle.instrument.specs.Journal.{sound, state_at}
use Rattle.take_files.specs.Files.{wav, wav_header, wav_block, wav_blocks, sample_bytes}
use Rattle.tool_core.specs.Comparisons.{IsPrefix}
use Rattle.tool_core.proofs.Writings.{with_out}
use Rattle.tool_core.proofs.Prefixes.{first_differs, prefix_more, prefix_differs}

-- the header and the first blocks
abbrev pub begun : List LoggedData → ℕ → ℕ → List ℕ
begun journal blocks b = wav_header blocks ++ wav_blocks journal b

length-header : (blocks : ℕ) → length (wav_header blocks) ≡ 44
unfolding wav_header
length-header blocks = refl

pub header_size : (blocks : ℕ) (header : List ℕ) → header ≡ wav_header blocks → length header ≡ 44
header_size blocks header is = ap length is ∙ length-header blocks

length-samples : (s : State) → length (samples s) ≡ 64
unfolding samples
length-samples s = length-map-range_with_len {X = ℤ} (λ j. output_of (mix_of (modulation s) s.slots 16 j)) 0 64

length-bytes : (xs : List ℤ) → length (flat_map sample_bytes xs) ≡ 2 * length xs
length-bytes [] = refl
length-bytes (x ∷ xs) = let two : length (sample_bytes x) ≡ 2 = refl in omega
    (arith, length-append (sample_bytes x) (flat_map sample_bytes xs), length-bytes xs, two)

length-block : (journal : List LoggedData) (b : ℕ) → length (wav_block (sound journal b)) ≡ 128
unfolding wav_block sound
length-block journal b = omega (arith, length-bytes (samples (state_at journal b)), length-samples (state_at journal b))

length-blocks : (journal : List LoggedData) (b : ℕ) → length (wav_blocks journal b) ≡ 128 * b
unfolding wav_blocks
length-blocks journal zero = refl
length-blocks journal (suc b) = omega (
  arith,
  length-append (wav_blocks journal b) (wav_block (sound journal b)),
  length-blocks journal b,
  length-block journal
      b,
)

pub length-begun : (journal : List LoggedData) (blocks b : ℕ) → length (begun journal blocks b) ≡ 44 + 128 * b
length-begun journal blocks b = omega (arith, length-append (wav_header blocks) (wav_blocks journal b), length-header blocks, length-blocks journal b)

-- no block yet, and all of them
pub begun_none : (journal : List LoggedData) (blocks : ℕ) → begun journal blocks 0 ≡ wav_header blocks
unfolding wav_blocks
begun_none journal blocks = append-nil (wav_header blocks)

pub begun_all : (journal : List LoggedData) (blocks b : ℕ) → b ≡ blocks → begun journal blocks b ≡ wav journal blocks
unfolding wav
begun_all journal blocks b is = ap (begun journal blocks) is

pub length-wav : (journal : List LoggedData) (blocks : ℕ) → length (wav journal blocks) ≡ 44 + 128 * blocks
length-wav journal blocks = ap length (sym (begun_all journal blocks blocks refl)) ∙ length-begun journal blocks blocks

-- a chunk more
pub begun_more : (journal : List LoggedData) (blocks from to : ℕ) (chunk : List ℕ) → wav_blocks journal to ≡ wav_blocks journal from ++ chunk
    → begun journal blocks to ≡ begun journal blocks from ++ chunk
begun_more journal blocks from to chunk is =
    ap (λ (l : List ℕ). wav_header blocks ++ l) is ∙ sym (append_assoc (wav_header blocks) (wav_blocks journal from) chunk)

-- what is begun is a prefix of the whole
pub record Begins (prefix whole : List ℕ) : Type 0 where
  pub more : List ℕ
  pub is : whole ≡ prefix ++ more

further : (journal : List LoggedData) (b more : ℕ) → Begins (wav_blocks journal b) (wav_blocks journal (b + more))
unfolding wav_blocks
further journal b zero = record { more = []; is = ap (wav_blocks journal) (let e : b + 0 ≡ b = omega arith in e) ∙ sym (append-nil (wav_blocks journal b)) }
further journal b (suc more) =
    let before = further journal b more in
    let e : b + suc more ≡ suc (b + more) = omega arith in
    record {
      more = before.more ++ wav_block (sound journal (b + more));
      is = ap (wav_blocks journal) e ∙ ap (λ (l : List ℕ). l ++ wav_block (sound journal (b + more))) before.is
          ∙ append_assoc (wav_blocks journal b) before.more (wav_block (sound journal (b + more)));
    }

pub begins : (journal : List LoggedData) (blocks b : ℕ) → b ≤ blocks → Begins (begun journal blocks b) (wav journal blocks)
begins journal blocks b within =
    let rest = further journal b (blocks - b) in
    let e : b + (blocks - b) ≡ blocks = omega arith in
    record {
      more = rest.more;
      is = sym (begun_all journal blocks (b + (blocks - b)) e) ∙ ap (λ (l : List ℕ). wav_header blocks ++ l) rest.is
          ∙ sym (append_assoc (wav_header blocks) (wav_blocks journal b) rest.more);
    }

-- ---- a file that is compared with it
pub header_differs : (journal : List LoggedData) (file header : List ℕ) (blocks offset : ℕ) → header ≡ wav_header blocks
    → IsPrefix (drop 0 file) header (Some offset)
    → IsPrefix file (wav journal blocks) (Some offset)
header_differs journal file header blocks offset is differs =
    let b = begins journal blocks 0 (omega arith) in
    subst (λ (w : List ℕ). IsPrefix file w (Some offset))
    (ap (λ (h : List ℕ). h ++ b.more) (is ∙ sym (begun_none journal blocks)) ∙ sym b.is)
    (first_differs file header b.more offset differs)

pub header_prefix : (journal : List LoggedData) (file header : List ℕ) (blocks : ℕ) → header ≡ wav_header blocks → IsPrefix (drop 0 file) header None
    → IsPrefix file (begun journal blocks 0) None
header_prefix journal file header blocks is (rest, same) = (rest, same ∙ ap (λ (h : List ℕ). h ++ rest) (is ∙ sym (begun_none journal blocks)))

module _ (journal : List LoggedData) (file chunk : List ℕ) (blocks from to at : ℕ) (is_at : at ≡ 44 + 128 * from)
    (is : wav_blocks journal to ≡ wav_blocks journal from ++ chunk) (prefix : IsPrefix file (begun journal blocks from) None) where
  pub chunk_prefix : IsPrefix (drop at file) chunk None → IsPrefix file (begun journal blocks to) None
  chunk_prefix next =
      subst (λ (l : List ℕ). IsPrefix file l None) (sym (begun_more journal blocks from to chunk is))
      (prefix_more file (begun journal blocks from) chunk at prefix (is_at ∙ sym (length-begun journal blocks from)) next)

  pub sound_differs : (offset : ℕ) → to ≤ blocks → IsPrefix (drop at file) chunk (Some offset) → IsPrefix file (wav journal blocks) (Some (at + offset))
  sound_differs offset within differs =
      let b = begins journal blocks to within in
      subst (λ (w : List ℕ). IsPrefix file w (Some (at + offset)))
      (ap (λ (l : List ℕ). l ++ b.more) (sym (begun_more journal blocks from to chunk is)) ∙ sym b.is)
      (prefix_differs file (begun journal blocks from) chunk b.more at offset prefix (is_at ∙ sym (length-begun journal blocks from)) differs)

pub sound_prefix : (journal : List LoggedData) (file : List ℕ) (blocks b : ℕ) → b ≡ blocks → IsPrefix file (begun journal blocks b) None
    → IsPrefix file (wav journal blocks) None
sound_prefix journal file blocks b is prefix = subst (λ (l : List ℕ). IsPrefix file l None) (begun_all journal blocks b is) prefix

-- ---- a file that is written with it
pub header_begins : (journal : List LoggedData) (blocks : ℕ) (header : List ℕ) → header ≡ wav_header blocks → Begins header (wav journal blocks)
header_begins journal blocks header is =
    let b = begins journal blocks 0 (omega arith) in
    record { more = b.more; is = b.is ∙ ap (λ (h : List ℕ). h ++ b.more) (begun_none journal blocks ∙ sym is) }

pub chunk_begins : (journal : List LoggedData) (blocks from to : ℕ) (chunk : List ℕ) → to ≤ blocks → wav_blocks journal to ≡ wav_blocks journal from ++ chunk
    → Begins (begun journal blocks from ++ chunk) (wav journal blocks)
chunk_begins journal blocks from to chunk within is =
    let b = begins journal blocks to within in
    record { more = b.more; is = b.is ∙ ap (λ (l : List ℕ). l ++ b.more) (begun_more journal blocks from to chunk is) }

pub header_begun : (journal : List LoggedData) (blocks : ℕ) (header : List ℕ) → header ≡ wav_header blocks → (out : List ℕ) (o : Option Files)
    → option_map (with_out out header) o ≡ option_map (with_out out (begun journal blocks 0)) o
header_begun journal blocks header is out o = ap (λ (l : List ℕ). option_map (with_out out l) o) (is ∙ sym (begun_none journal blocks))

pub chunk_begun : (journal : List LoggedData) (blocks from to : ℕ) (chunk : List ℕ) → wav_blocks journal to ≡ wav_blocks journal from ++ chunk
    → (out : List ℕ) (o : Option Files)
    → option_map (with_out out (begun journal blocks from ++ chunk)) o ≡ option_map (with_out out (begun journal blocks to)) o
chunk_begun journal blocks from to chunk is out o = ap (λ (l : List ℕ). option_map (with_out out l) o) (sym (begun_more journal blocks from to chunk is))

pub sound_written : (journal : List LoggedData) (blocks b : ℕ) → b ≡ blocks → (out : List ℕ) (o : Option Files)
    → option_map (with_out out (begun journal blocks b)) o ≡ option_map (with_out out (wav journal blocks)) o
sound_written journal blocks b is out o = ap (λ (l : List ℕ). option_map (with_out out l) o) (begun_all journal blocks b is)

-- ---- what a playback renders next
pub chunk_bytes : (p : PlaybackView) (journal : List LoggedData) (from count : ℕ) (chunk items : List ℕ) → p.journal ≡ journal → p.block ≡ from
    → wav_blocks p.journal (p.block + count) ≡ wav_blocks p.journal p.block ++ items → chunk ≡ items
    → wav_blocks journal (from + count) ≡ wav_blocks journal from ++ chunk
chunk_bytes p journal from count chunk items same at is whole =
    sym (ap (λ (j : List LoggedData). wav_blocks j (p.block + count)) same ∙ ap (λ (n : ℕ). wav_blocks journal (n + count)) at)
    ∙ is
    ∙ ap (λ (j : List LoggedData). wav_blocks j p.block ++ items) same ∙ ap (λ (n : ℕ). wav_blocks journal n ++ items) at
    ∙ ap (λ (l : List ℕ). wav_blocks journal from ++ l) (sym whole)
