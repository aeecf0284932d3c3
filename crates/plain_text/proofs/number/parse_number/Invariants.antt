use Rattle.std.proofs.Common.{◌≡◌, ◌≤◌, ◌<◌, ℕ, take, get_or}
use Rattle.std.specs.Int.{IsInRange}
use Rattle.std.specs.Str.Parse.{digits_value}
use Rattle.plain_text.proofs.number.parse_number.Given as goal

abbrev pub invariant-loop-digit : goal.invariant-loop-digit
invariant-loop-digit l = record {
  within : l.value ≤ l.most;
  value : l.value ≡ digits_value 10 (take l.digit-index l.text);
  digits : (k : ℕ) → k < l.digit-index → IsInRange 48 57 (get_or l.text k 0);
}
