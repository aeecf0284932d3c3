-- The words of the program's command line.
use Rattle.std.specs.Prelude.{◌≢◌, ℕ, ◌≤◌, List, [], ◌∷◌, Option, Some, None, IfSome, option_map, option_and_then, Bool, not, ◌&&◌, nat_lt, nat_le, length, map, string_bytes, bytes_eq, codes, if◌then◌else◌}
use Rattle.std.specs.List.{list_all}
use Rattle.play_core.specs.declared.words.PlayRequest.{PlayRequest}
use Rattle.plain_text.specs.Number.{number}
use Rattle.instrument.specs.Limits.{block_limit}
use Rattle.play_core.specs.Limits.{place_limit}

-- What is asked for: the two files to write, the number of blocks and of places, or none of its own where the word is `-`, and the scripts to
-- read.
pub record RequestData : Type 0 where
  pub out : List ℕ
  pub order : List ℕ
  pub blocks : Option ℕ
  pub places : Option ℕ
  pub scripts : List (List ℕ)

-- the same of a value of the program
abbrev pub request_data : PlayRequest → RequestData
request_data r = record { out = r.out.now; order = r.order.now; blocks = r.blocks; places = r.places; scripts = map string_bytes r.scripts.now }

-- what the words may ask for: two names that differ, one to 256 scripts, and numbers of blocks and places within their limits
pub record IsRequest (r : PlayRequest) : Type 0 where
  pub differ : r.out.now ≢ r.order.now
  pub scripts : (1 ≤ length r.scripts.now) × (length r.scripts.now ≤ 256)
  pub blocks : IfSome r.blocks (λ b. (1 ≤ b) × (b ≤ block_limit))
  pub places : IfSome r.places (λ p. (1 ≤ p) × (p ≤ place_limit))

-- `-`, or a number within these bounds
abbrev pub choice : ℕ → ℕ → List ℕ → Option (Option ℕ)
choice least most word = if bytes_eq word (codes "-") then Some None else option_map Some (number least most word)

-- the name of a script: not empty, and neither of the two files that are written
abbrev pub is_script : List ℕ → List ℕ → List ℕ → Bool
is_script out order name = nat_lt 0 (length name) && not (bytes_eq out name) && not (bytes_eq order name)

-- one to 256 scripts
abbrev pub are_scripts : List ℕ → List ℕ → List (List ℕ) → Bool
are_scripts out order names = (nat_lt 0 (length names) && nat_le (length names) 256) && list_all (λ name. is_script out order name) names

-- the two files have names, and differ
abbrev pub are_files : List ℕ → List ℕ → Bool
are_files out order = nat_lt 0 (length out) && nat_lt 0 (length order) && not (bytes_eq out order)

-- OUT ORDER BLOCKS PLACES SCRIPT...
abbrev pub request_of : List ℕ → List ℕ → List ℕ → List ℕ → List (List ℕ) → Option RequestData
request_of out order blocks places scripts =
    if are_files out order && are_scripts out order scripts
    then option_and_then (λ b. option_map (λ p. record { out = out; order = order; blocks = b; places = p; scripts = scripts })
    (choice 1 place_limit places)) (choice 1 block_limit blocks)
    else None

abbrev pub requested_by : List (List ℕ) → Option RequestData
requested_by (out ∷ order ∷ blocks ∷ places ∷ scripts) = request_of out order blocks places scripts
requested_by words = None
