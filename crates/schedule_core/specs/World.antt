-- How a send ends, on the core that contracts see of a world.
use Rattle.std.specs.Prelude.{ℕ, ◌≡◌, ◌<◌, length, Result, Ok, Err}
use Rattle.command_set.specs.declared.command.Command.{Command}
use Rattle.command_set.specs.Command.{content}
use Rattle.schedule_core.specs.declared.world_refusal.WorldRefusal.{WorldRefusal}
use Rattle.schedule_core.specs.declared.world_refusal.WorldRefusal.TheVariants.{Full, Memory}
use Rattle.schedule_core.specs.Core.{Core, Send, step, accepted_of}

-- The entry was accepted and its number is answered, where fewer waited than there are places; or it was refused, exactly where
-- so many waited; or for want of memory nothing happened. What isn't accepted is handed back.
abbrev pub HasSent : Core → ℕ → ℕ → Command → Result ℕ WorldRefusal → Core → Type 0
HasSent c script due command (Ok seq) new =
    (length c.waiting < c.places) × (seq ≡ length (accepted_of c script)) × (new ≡ step c (Send script due (content command)))
HasSent c script due command (Err (Full back)) new =
    (length c.waiting ≡ c.places) × (back ≡ command) × (new ≡ step c (Send script due (content command)))
HasSent c script due command (Err (Memory back)) new = (length c.waiting < c.places) × (back ≡ command) × (new ≡ c)
