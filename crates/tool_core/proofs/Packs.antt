-- Several files, one after the other.
use Rattle.std.proofs.Common.{◌≡◌, ℕ, zero, suc, ◌+◌, ◌-◌, ◌<◌, ◌≤◌, List, [], ◌∷◌, ◌++◌, length, map, take, set, replicate, get_or, refl, sym, ◌∙◌}
use Rattle.std.proofs.Common.{ap, subst, arith}
use Rattle.std.specs.Prelude.{Option, Some, None, IfSome, String, string_bytes}
use Rattle.std.specs.declared.alloc.Global.{Global}
use Rattle.std.proofs.lemmas.Grind.{take_at_read}
use Rattle.std.proofs.lemmas.List.{length-take-le, length-map}
use Rattle.std.proofs.Math.Seq.{take-length}
use Rattle.cartridge.specs.Cartridge.{IsMessageOf}
use Rattle.outside.specs.Files.{Files}
use Rattle.voice_record.specs.Voice.{opening_voice}
use Rattle.tool_core.specs.declared.failure.Failure.{Failure}
use Rattle.tool_core.specs.declared.failure.Failure.TheVariants as failure
use Rattle.tool_core.specs.declared.pack.PackFailure.{PackFailure}
use Rattle.tool_core.specs.Refusals.{OneVoice}
use Rattle.tool_core.specs.Verdicts.{Good}
use Rattle.tool_core.specs.Inputs.{Input, Midi, input, AreGood, IsJudged}
use Rattle.tool_core.specs.Words.{Pack}
use Rattle.tool_core.specs.Effects.{HasEffect, voice_of, packed, writes}
use Rattle.tool_core.specs.Failures.{IsReason, Fails, FailsAt}
use Rattle.tool_core.specs.Packing.{voices, IsBadAt, IsPackFailure}
use Rattle.tool_core.proofs.Meanings.{unless, unless_reason}

good_push : (told : Files) (inputs : List Input) (one : Input) → AreGood inputs told → IsJudged one told Good → AreGood (inputs ++ one ∷ []) told
good_push told [] one good here = (here, tt)
good_push told (first ∷ inputs) one good here = (good.0, good_push told inputs one (good.1) here)

voices_push : (names : List (List ℕ)) (name : List ℕ) → voices (names ++ name ∷ []) ≡ voices names ++ input name (Midi OneVoice) ∷ []
voices_push [] name = refl
voices_push (n ∷ names) name = ap (λ (l : List Input). input n (Midi OneVoice) ∷ l) (voices_push names name)

-- ---- one more name
pub name_at : (names : List (String Global)) (i : ℕ) (d : String Global) → i < length names
    → get_or (map string_bytes names) i [] ≡ string_bytes (get_or names i d)
name_at [] i d below = absurd (omega arith)
name_at (n ∷ names) zero d below = refl
name_at (n ∷ names) (suc i) d below = name_at names i d (omega arith)

prefix_more : (names : List (List ℕ)) (i : ℕ) (q : List ℕ) → i < length names → q ≡ get_or names i [] → take (i + 1) names ≡ take i names ++ q ∷ []
prefix_more names i q below is = (take_at_read names i [] below).1 ∙ ap (λ (n : List ℕ). take i names ++ n ∷ []) (sym is)

pub good_more : (files now : Option Files) (names : List (List ℕ)) (i : ℕ) (q : List ℕ)
    → i < length names → q ≡ get_or names i [] → now ≡ files
    → IfSome files (λ told. AreGood (voices (take i names)) told) → IfSome now (λ told. IsJudged (input q (Midi OneVoice)) told Good)
    → IfSome files (λ told. AreGood (voices (take (i + 1) names)) told)
good_more None now names i q below is same before here = tt
good_more (Some told) now names i q below is same before here =
    let at : IsJudged (input q (Midi OneVoice)) told Good = subst (λ (o : Option Files). IfSome o (λ t. IsJudged (input q (Midi OneVoice)) t Good)) same here in
    subst (λ (l : List Input). AreGood l told) (sym (voices_push (take i names) q) ∙ ap voices (sym (prefix_more names i q below is)))
    (good_push told (voices (take i names)) (input q (Midi OneVoice)) before at)

pub fails_at : (why : Failure) (files mid : Option Files) (names : List (List ℕ)) (i : ℕ) (q : List ℕ) (first before now : ℕ)
    → q ≡ get_or names i [] → mid ≡ files → before ≡ first
    → IfSome files (λ told. AreGood (voices (take i names)) told) → IsReason why (Midi OneVoice) mid q before now
    → IsPackFailure i why files names first now
fails_at why files mid names i q first before now is same kept good reason =
    unless_reason why (Midi OneVoice) files (get_or names i []) first now (IsBadAt i why files names first now) (λ r. record { good = good; reason = r })
    (subst (λ (t : List ℕ). IsReason why (Midi OneVoice) files t first now) is
    (subst (λ (b : ℕ). IsReason why (Midi OneVoice) files q b now) kept
    (subst (λ (o : Option Files). IsReason why (Midi OneVoice) o q before now) same reason)))

-- the names parted at one of them
record Parts (names : List (List ℕ)) (i : ℕ) : Type 0 where
  rest : List (List ℕ)
  whole : names ≡ take i names ++ get_or names i [] ∷ rest

parts : (names : List (List ℕ)) (i : ℕ) → i < length names → Parts names i
parts [] i below = absurd (omega arith)
parts (n ∷ names) zero below = record { rest = names; whole = refl }
parts (n ∷ names) (suc i) below =
    let p = parts names i (omega arith) in
    record { rest = p.rest; whole = ap (λ (l : List (List ℕ)). n ∷ l) p.whole }

voices_append : (xs ys : List (List ℕ)) → voices (xs ++ ys) ≡ voices xs ++ voices ys
voices_append [] ys = refl
voices_append (x ∷ xs) ys = ap (λ (l : List Input). input x (Midi OneVoice) ∷ l) (voices_append xs ys)

fails_here : (why : Failure) (place : ℕ) (files : Option Files) (names : List (List ℕ)) (name : List ℕ) (before now : ℕ) → place < length names
    → name ≡ get_or names place []
    → IsBadAt place why files names before now → FailsAt why (voices names) files name before now
fails_here why place files names name before now below is bad =
    let p = parts names place below in
    record {
      one = input (get_or names place []) (Midi OneVoice);
      named = is;
      reached = record {
        earlier = voices (take place names);
        later = voices p.rest;
        place = ap voices p.whole ∙ voices_append (take place names) (get_or names place [] ∷ p.rest);
        good = bad.good;
      };
      reason = bad.reason;
    }

pub pack_fails : (why : Failure) (place : ℕ) (files : Option Files) (names : List (List ℕ)) (name : List ℕ) (before now : ℕ) → place < length names
    → name ≡ get_or names place []
    → IsPackFailure place why files names before now → Fails why (voices names) files name before now
pack_fails why place files names name before now below is fails =
    unless why (IsBadAt place why files names before now) (FailsAt why (voices names) files name before now) (now ≡ before)
    (fails_here why place files names name before now below is) fails

-- ---- the voices so far
set_seam : (xs ys : List (List ℕ)) (y v : List ℕ) → set (xs ++ y ∷ ys) (length xs) v ≡ (xs ++ v ∷ []) ++ ys
set_seam [] ys y v = refl
set_seam (x ∷ xs) ys y v = ap (λ (l : List (List ℕ)). x ∷ l) (set_seam xs ys y v)

-- the voices of some names, and opening voices up to 32
abbrev pub filled : Files → List (List ℕ) → ℕ → List (List ℕ)
filled told names count = map (voice_of told) names ++ replicate (32 - count) opening_voice

fill : (told : Files) (names : List (List ℕ)) (name : List ℕ) (i : ℕ) → i < 32 → length names ≡ i
    → set (filled told names i) i (voice_of told name) ≡ filled told (names ++ name ∷ []) (i + 1)
fill told names name i below count =
    let room : 32 - i ≡ suc (32 - (i + 1)) = omega arith in
    let at : i ≡ length (map (voice_of told) names) = sym (length-map names (voice_of told) ∙ count) in
    ap (λ (n : ℕ). set (map (voice_of told) names ++ replicate n opening_voice) i (voice_of told name)) room
    ∙ ap (λ (n : ℕ). set (map (voice_of told) names ++ opening_voice ∷ replicate (32 - (i + 1)) opening_voice) n (voice_of told name)) at
    ∙ set_seam (map (voice_of told) names) (replicate (32 - (i + 1)) opening_voice) opening_voice (voice_of told name)
    ∙ ap (λ (l : List (List ℕ)). l ++ replicate (32 - (i + 1)) opening_voice) (sym (map_push names name))
  where
    map_push : (xs : List (List ℕ)) (x : List ℕ) → map (voice_of told) (xs ++ x ∷ []) ≡ map (voice_of told) xs ++ voice_of told x ∷ []
    map_push [] x = refl
    map_push (y ∷ xs) x = ap (λ (l : List (List ℕ)). voice_of told y ∷ l) (map_push xs x)

pub filled_more : (files now : Option Files) (names : List (List ℕ)) (i : ℕ) (q : List ℕ) (before after : List (List ℕ))
    → i < length names → length names ≤ 32 → q ≡ get_or names i [] → now ≡ files
    → IfSome files (λ told. before ≡ filled told (take i names) i)
    → IfSome now (λ told. after ≡ set before i (voice_of told q))
    → IfSome files (λ told. after ≡ filled told (take (i + 1) names) (i + 1))
filled_more None now names i q before after below most is same was set_is = tt
filled_more (Some told) now names i q before after below most is same was set_is =
    let here : IfSome (Some told) (λ t. after ≡ set before i (voice_of t q)) =
    subst (λ (o : Option Files). IfSome o (λ t. after ≡ set before i (voice_of t q))) same set_is in
    let count : length (take i names) ≡ i = length-take-le i names (omega arith) in
    here
    ∙ ap (λ (l : List (List ℕ)). set l i (voice_of told q)) was
    ∙ fill told (take i names) q i (omega arith) count
    ∙ ap (λ (l : List (List ℕ)). filled told l (i + 1)) (sym (prefix_more names i q below is))

pub voice_set : (files : Option Files) (q voice : List ℕ) (before after : List (List ℕ)) (i : ℕ) → after ≡ set before i voice
    → IfSome files (λ told. voice_of told q ≡ voice) → IfSome files (λ told. after ≡ set before i (voice_of told q))
voice_set None q voice before after i is known = tt
voice_set (Some told) q voice before after i is known = is ∙ ap (set before i) (sym known)

pub good_none : (files : Option Files) → IfSome files (λ told. AreGood [] told)
good_none None = tt
good_none (Some told) = tt

pub filled_none : (files : Option Files) (names : List (List ℕ)) (cartridge : List (List ℕ)) → cartridge ≡ replicate 32 opening_voice
    → IfSome files (λ told. cartridge ≡ filled told (take 0 names) 0)
filled_none None names cartridge is = tt
filled_none (Some told) names cartridge is = is

pub all_good : (files : Option Files) (names : List (List ℕ)) (i : ℕ) → i ≡ length names
    → IfSome files (λ told. AreGood (voices (take i names)) told) → IfSome files (λ told. AreGood (voices names) told)
all_good files names i ended good =
    subst (λ (l : List (List ℕ)). IfSome files (λ told. AreGood (voices l) told)) (ap (λ (n : ℕ). take n names) ended ∙ take-length names) good

pub all_filled : (files : Option Files) (names : List (List ℕ)) (i : ℕ) (cartridge : List (List ℕ)) (text : List ℕ) → i ≡ length names
    → IfSome files (λ told. cartridge ≡ filled told (take i names) i) → IsMessageOf cartridge 0 text
    → IfSome files (λ told. IsMessageOf (packed told names) 0 text)
all_filled None names i cartridge text ended voices message = tt
all_filled (Some told) names i cartridge text ended voices message =
    let whole : cartridge ≡ packed told names =
    voices ∙ ap (λ (l : List (List ℕ)). filled told l i) (ap (λ (n : ℕ). take n names) ended ∙ take-length names)
    ∙ ap (filled told names) ended in
    subst (λ (v : List (List ℕ)). IsMessageOf v 0 text) whole message

pub memory_failure : (found : PackFailure) (names : List (List ℕ)) (files : Option Files) (before now : ℕ) → found.why ≡ failure.Memory → now ≡ before
    → IsPackFailure found.place found.why files names before now
memory_failure found names files before now is same = rw is same

pub count_names : (names : List (String Global)) → length (map string_bytes names) ≡ length names
count_names names = length-map names string_bytes

pub pack_does : (files : Option Files) (out text items : List ℕ) (names : List (List ℕ)) → text ≡ items
    → IfSome files (λ told. IsMessageOf (packed told names) 0 items)
    → HasEffect (Pack out names) files (writes out text)
pack_does files out text items names same message = (text, refl, known files message)
  where
    known : (f : Option Files) → IfSome f (λ told. IsMessageOf (packed told names) 0 items) → IfSome f (λ told. IsMessageOf (packed told names) 0 text)
    known None h = tt
    known (Some told) h = subst (λ (t : List ℕ). IsMessageOf (packed told names) 0 t) (sym same) h
