-- How an end stands where a feed stopped.
use Rattle.std.specs.Prelude.{ℕ, ◌+◌, ◌≤◌, length}
use Rattle.command_queue.specs.Ends.{SendView, WasFull, one_up, others_of}
use Rattle.port.specs.declared.fed.PortStop.{PortStop}
use Rattle.port.specs.declared.fed.PortStop.TheVariants.{All, Full, Memory}

-- no place was left at a moment: the state was legal then with this end's list, and so the places are at most its entries and the quotas of the
-- others
pub record MetFull (e : SendView) : Type 0 where
  pub full : WasFull e
  pub room : e.line.places ≤ length e.list + others_of e

abbrev pub FullOnly : PortStop → SendView → Type 0
FullOnly All e = Unit {0}
FullOnly Full e = MetFull e
FullOnly Memory e = Unit {0}

-- how often an end was refused, after a feed that stopped so
abbrev pub refusals_after : PortStop → ℕ → ℕ
refusals_after All n = n
refusals_after Full n = one_up n
refusals_after Memory n = n
