-- What an answer of a reader tells of what comes of a script.
use Rattle.std.specs.Prelude.{ℕ, ◌≡◌, ◌≤◌, List, ◌++◌, length, map, Result, MatchResult}
use Rattle.script_plan.specs.Plan.{PlannedData}
use Rattle.script_outcome.specs.declared.fault.ScriptFault.{ScriptFault}
use Rattle.script_outcome.specs.declared.fault.ScriptFault.TheVariants as faults
use Rattle.script_outcome.specs.Outcomes.{Outcome, Gives}
use Rattle.script_outcome.specs.Plan.{Refused, TooMany, plan_of}

-- commands alone
abbrev pub all_given : List PlannedData → List Outcome
all_given commands = map Gives commands

-- whatever comes after these outcomes, the plan is this refusal; want of memory says nothing
abbrev pub Stops : ScriptFault → ℕ → List Outcome → Type 0
Stops (faults.Refused at why) room outcomes = (more : List Outcome) → plan_of room (outcomes ++ more) ≡ Refused at why
Stops faults.TooMany room outcomes = (more : List Outcome) → plan_of room (outcomes ++ more) ≡ TooMany
Stops faults.Memory room outcomes = Unit {0}

-- an answer tells all that comes of a script: commands, for which there is room, or what stops them
abbrev pub Settles : Result (List PlannedData) ScriptFault → ℕ → List Outcome → Type 0
Settles result room outcomes = MatchResult result (λ script. (outcomes ≡ all_given script) × (length script ≤ room)) (λ why. Stops why room outcomes)
