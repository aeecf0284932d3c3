-- Commands of numbers: what is read has the words that were read.
use Rattle.std.proofs.Common.{◌≡◌, ◌≢◌, ℕ, ◌^◌, ◌<◌, List, [], ◌∷◌, Option, Some, None, Bool, true, false, inl, inr, ◌⊎◌, refl, ap, sym, ◌∙◌, arith}
use Rattle.std.proofs.Common.{lit<, if◌then◌else◌}
use Rattle.std.specs.Prelude.{codes, decimal, option_map, option_and_then, bytes_eq}
use Rattle.std.proofs.lemmas.Slice.Eq.{bytes_eq-Decides}
use Rattle.plain_text.specs.Number.{number}
use Rattle.plain_text.specs.Split.{split}
use Rattle.plain_text.proofs.Cuts.{split_some}
use Rattle.plain_text.proofs.Numbers.{written}
use Rattle.command_set.specs.Command.{CommandData, StartsNote, EndsNote, Bends, Controls, PicksProgram, SetsParameter, StoresVoice, IsInRange}
use Rattle.command_set.specs.Words.{words, store_of, two_bytes_of, two_of, three_bytes_of, three_of, numbers_of}
use Rattle.command_set.proofs.Reading.{one_of, command_of, read_as}

bytes_same : (xs ys : List ℕ) → bytes_eq xs ys ≡ true → xs ≡ ys
bytes_same xs ys e = (bytes_eq-Decides xs ys).0 e

number_is : (least most n : ℕ) (word : List ℕ) → most < 2 ^ 32 → number least most word ≡ Some n → word ≡ decimal n
number_is least most n word range e = (written least most n word range e).0

then_some : {A B : Type 0} (f : A → Option B) (o : Option A) (y : B) → option_and_then f o ≡ Some y → (x : A) × (o ≡ Some x) × (f x ≡ Some y)
then_some f None y e = absurd (cc)
then_some f (Some x) y e = (x, refl, e)

mapped_some : {A B : Type 0} (f : A → B) (o : Option A) (y : B) → option_map f o ≡ Some y → (x : A) × (o ≡ Some x) × (f x ≡ y)
mapped_some f None y e = absurd (cc)
mapped_some f (Some x) y e = (x, refl, cc)

either : (t : Bool) (x y : Option CommandData) (d : CommandData) → (if t then x else y) ≡ Some d → ((t ≡ true) × (x ≡ Some d)) ⊎ (y ≡ Some d)
either true x y d e = inl (refl, e)
either false x y d e = inr e

some_is : (a b : CommandData) → Some a ≡ Some b → a ≡ b
some_is a b e = cc

-- a kind that was found, with other words after it
kinded : (kind own : List ℕ) (more : List (List ℕ)) (a d : CommandData) → bytes_eq kind own ≡ true → Some a ≡ Some d → words a ≡ own ∷ more → words d ≡ kind
    ∷ more
kinded kind own more a d e f is =
    ap words (sym (some_is a d f)) ∙ is ∙ ap (λ k. k ∷ more) (sym (bytes_same kind own e))

none_some : (d : CommandData) → None ≡ Some d → ⊥
none_some d e = absurd (cc)

two_bytes_said : (kind : List ℕ) (a b : ℕ) (d : CommandData) → two_bytes_of kind a b ≡ Some d → words d ≡ kind ∷ decimal a ∷ decimal b ∷ []
unfolding two_bytes_of
two_bytes_said kind a b d e =
    elim (either (bytes_eq kind (codes "off")) _ _ d e) [
      | inl off ↦ kinded kind (codes "off") _ (EndsNote a b) d off.0 off.1 refl
      | inr f ↦ elim (either (bytes_eq kind (codes "program")) _ _ d f) [
        | inl program ↦ kinded kind (codes "program") _ (PicksProgram a b) d program.0 program.1 refl
        | inr g ↦ elim (either (bytes_eq kind (codes "param")) _ _ d g) [
          | inl param ↦ kinded kind (codes "param") _ (SetsParameter a b) d param.0 param.1 refl
          | inr none ↦ absurd (none_some d none)
        ]
      ]
    ]

three_bytes_said : (kind : List ℕ) (a b v : ℕ) (d : CommandData) → three_bytes_of kind a b v ≡ Some d
    → words d ≡ kind ∷ decimal a ∷ decimal b ∷ decimal v ∷ []
unfolding three_bytes_of
three_bytes_said kind a b v d e =
    elim (either (bytes_eq kind (codes "on")) _ _ d e) [
      | inl on ↦ kinded kind (codes "on") _ (StartsNote a b v) d on.0 on.1 refl
      | inr f ↦ elim (either (bytes_eq kind (codes "control")) _ _ d f) [
        | inl control ↦ kinded kind (codes "control") _ (Controls a b v) d control.0 control.1 refl
        | inr none ↦ absurd (none_some d none)
      ]
    ]

three_said : (kind first second third : List ℕ) (d : CommandData) → three_of kind first second third ≡ Some d → words d ≡ kind ∷ first ∷ second ∷ third ∷ []
unfolding three_of
three_said kind first second third d e =
    let small : 255 < 2 ^ 32 = lit< tt in
    let a = then_some _ _ d e in
    let b = then_some _ _ d a.2 in
    let v = then_some _ _ d b.2 in
    three_bytes_said kind a.0 b.0 v.0 d v.2
    ∙ ap (λ w. kind ∷ w ∷ decimal b.0 ∷ decimal v.0 ∷ []) (sym (number_is 0 255 a.0 first small a.1))
    ∙ ap (λ w. kind ∷ first ∷ w ∷ decimal v.0 ∷ []) (sym (number_is 0 255 b.0 second small b.1))
    ∙ ap (λ w. kind ∷ first ∷ second ∷ w ∷ []) (sym (number_is 0 255 v.0 third small v.1))

bend_said : (kind first second : List ℕ) (d : CommandData) → bytes_eq kind (codes "bend") ≡ true
    → option_and_then (λ channel. option_map (Bends channel) (number 0 16383 second)) (number 0 255 first) ≡ Some d → words d ≡ kind ∷ first ∷ second ∷ []
bend_said kind first second d is e =
    let a = then_some (λ channel. option_map (Bends channel) (number 0 16383 second)) (number 0 255 first) d e in
    let b = mapped_some (Bends a.0) (number 0 16383 second) d a.2 in
    kinded kind (codes "bend") _ (Bends a.0 b.0) d is (ap Some b.2) refl
    ∙ ap (λ w. kind ∷ w ∷ decimal b.0 ∷ []) (sym (number_is 0 255 a.0 first (omega arith) a.1))
    ∙ ap (λ w. kind ∷ first ∷ w ∷ []) (sym (number_is 0 16383 b.0 second (omega arith) b.1))

two_said : (kind first second : List ℕ) (d : CommandData) → two_of kind first second ≡ Some d → words d ≡ kind ∷ first ∷ second ∷ []
unfolding two_of
two_said kind first second d e =
    elim (either (bytes_eq kind (codes "bend")) _ _ d e) [
      | inl bend ↦ bend_said kind first second d bend.0 bend.1
      | inr other ↦
          let a = then_some _ _ d other in
          let b = then_some _ _ d a.2 in
          two_bytes_said kind a.0 b.0 d b.2
          ∙ ap (λ w. kind ∷ w ∷ decimal b.0 ∷ []) (sym (number_is 0 255 a.0 first (omega arith) a.1))
          ∙ ap (λ w. kind ∷ first ∷ w ∷ []) (sym (number_is 0 255 b.0 second (omega arith) b.1))
    ]

store_said : (kind word : List ℕ) (d : CommandData) → store_of kind word ≡ Some d → words d ≡ kind ∷ word ∷ []
unfolding store_of
store_said kind word d e =
    elim (either (bytes_eq kind (codes "store")) _ _ d e) [
      | inl store ↦
          let a = mapped_some StoresVoice (number 0 255 word) d store.1 in
          kinded kind (codes "store") _ (StoresVoice a.0) d store.0 (ap Some a.2) refl
          ∙ ap (λ w. kind ∷ w ∷ []) (sym (number_is 0 255 a.0 word (omega arith) a.1))
      | inr none ↦ absurd (none_some d none)
    ]

-- what the words write has these words
pub numbers_said : (found : List (List ℕ)) (d : CommandData) → numbers_of found ≡ Some d → words d ≡ found
unfolding numbers_of
numbers_said [] d e = absurd (none_some d e)
numbers_said (kind ∷ []) d e = absurd (none_some d e)
numbers_said (kind ∷ word ∷ []) d e = store_said kind word d e
numbers_said (kind ∷ first ∷ second ∷ []) d e = two_said kind first second d e
numbers_said (kind ∷ first ∷ second ∷ third ∷ []) d e = three_said kind first second third d e
numbers_said (kind ∷ first ∷ second ∷ third ∷ more ∷ rest) d e = absurd (none_some d e)

-- the words of three or more, and those of no voice and no cartridge
numbers_long : (kind first : List ℕ) (rest : List (List ℕ)) → rest ≢ [] → command_of (kind ∷ first ∷ rest) ≡ numbers_of (kind ∷ first ∷ rest)
unfolding command_of numbers_of
numbers_long kind first [] some = absurd (some refl)
numbers_long kind first (a ∷ []) some = refl
numbers_long kind first (a ∷ b ∷ []) some = refl
numbers_long kind first (a ∷ b ∷ c ∷ rest) some = refl

pub store_words : (kind word : List ℕ) → numbers_of (kind ∷ word ∷ []) ≡ store_of kind word
unfolding numbers_of
store_words kind word = refl

numbers_short : (kind word : List ℕ) → bytes_eq kind (codes "voice") ≡ false → bytes_eq kind (codes "cartridge") ≡ false
    → command_of (kind ∷ word ∷ []) ≡ numbers_of (kind ∷ word ∷ [])
unfolding command_of one_of numbers_of
numbers_short kind word v h = rw (v, h) refl

pub numbers_more : (kind first rest : List ℕ) (d : CommandData) → IsInRange d → words d ≡ kind ∷ first ∷ split 32 rest
    → numbers_of (kind ∷ first ∷ split 32 rest) ≡ Some d
numbers_more kind first rest d r same = sym (numbers_long kind first (split 32 rest) (split_some 32 rest)) ∙ read_as _ d r same

pub numbers_one : (kind word : List ℕ) (d : CommandData) → bytes_eq kind (codes "voice") ≡ false → bytes_eq kind (codes "cartridge") ≡ false
    → IsInRange d → words d ≡ kind ∷ word ∷ [] → numbers_of (kind ∷ word ∷ []) ≡ Some d
numbers_one kind word d v h r same = sym (numbers_short kind word v h) ∙ read_as _ d r same

-- the numbers after the first, one after the other

pub two_words : (kind first rest : List ℕ) → split 32 rest ≡ rest ∷ [] → numbers_of (kind ∷ first ∷ split 32 rest) ≡ two_of kind first rest
unfolding numbers_of
two_words kind first rest whole = rw whole refl

pub three_words : (kind first rest second third : List ℕ) → split 32 rest ≡ second ∷ split 32 third → split 32 third ≡ third ∷ []
    → numbers_of (kind ∷ first ∷ split 32 rest) ≡ three_of kind first second third
unfolding numbers_of
three_words kind first rest second third cut whole = rw (cut, whole) refl

more_words : (kind first second third : List ℕ) (rest : List (List ℕ)) → rest ≢ [] → numbers_of (kind ∷ first ∷ second ∷ third ∷ rest) ≡ None
unfolding numbers_of
more_words kind first second third [] some = absurd (some refl)
more_words kind first second third (one ∷ rest) some = refl

-- a word too many
pub five_words : (kind first rest second after third last : List ℕ) → split 32 rest ≡ second ∷ split 32 after → split 32 after ≡ third ∷ split 32 last
    → numbers_of (kind ∷ first ∷ split 32 rest) ≡ None
five_words kind first rest second after third last one two = rw (one, two) (more_words kind first second third (split 32 last) (split_some 32 last))
