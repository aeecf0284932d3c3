-- Pages that are put.
use Rattle.std.proofs.Common.{◌≡◌, ◌⊎◌, ℕ, List, [], ◌++◌, sym, ◌∙◌, ap, subst, append_assoc, append-nil}
use Rattle.std.specs.Prelude.{Option, option_map}
use Rattle.outside.specs.Files.{said, SaidSome}
use Rattle.outside.proofs.Shelves.{then_said}
use Rattle.tool_core.specs.Pages.{Holds, FailsIn}
use Rattle.fault_lines.proofs.Pieces.{some_after, some_before}

pub page_put : (o before now : Option (List ℕ)) (page put text : List ℕ) → put ≡ page → now ≡ option_map (said put) before
    → Holds o before page text → Holds o now [] text
page_put o before now page put text same is p = record {
  prefix = p.prefix ++ page;
  was_put = is ∙ ap (λ (l : List ℕ). option_map (said l) before) same ∙ ap (option_map (said page)) p.was_put ∙ then_said o p.prefix page;
  whole = append-nil (p.prefix ++ page) ∙ p.whole;
}

pub page_failed : (o before now : Option (List ℕ)) (page put text : List ℕ) → put ≡ page → (now ≡ before) ⊎ SaidSome put before now
    → Holds o before page text → FailsIn text o now
page_failed o before now page put text same some p =
    let part : (now ≡ before) ⊎ SaidSome page before now = subst (λ (l : List ℕ). (now ≡ before) ⊎ SaidSome l before now) same some in
    subst (λ (t : List ℕ). FailsIn t o now) p.whole (some_after o before now p.prefix page p.was_put part)

pub line_added : (o now : Option (List ℕ)) (page more text line : List ℕ) → more ≡ page ++ line → Holds o now page text → Holds o now more (text ++ line)
line_added o now page more text line is p = record {
  prefix = p.prefix;
  was_put = p.was_put;
  whole = ap (λ (l : List ℕ). p.prefix ++ l) is ∙ sym (append_assoc p.prefix page line) ∙ ap (λ (l : List ℕ). l ++ line) p.whole;
}

-- of some of a text and more after it
pub fails_longer : (text more : List ℕ) (o now : Option (List ℕ)) → FailsIn text o now → FailsIn (text ++ more) o now
fails_longer text more o now some = some_before o now text more some
