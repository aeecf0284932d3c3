-- An instrument that takes the commands of an editor alone.
use Rattle.std.specs.Prelude.{ℕ, ◌≡◌, List}
use Rattle.command_set.specs.Command.{CommandData}
use Rattle.command_set.specs.VoiceAfter.{TurnsAll}
use Rattle.instrument.specs.State.{State, passed}
use Rattle.instrument.specs.Journal.{applied}

-- It has the editor's voice: commands that edit, each of which turns the editor's voice before it into the one after it, turn the instrument's
-- voice into the editor's last one, and the blocks that it renders between them leave it.
pub record FollowsAnEditor : Type 0 where
  pub commands : (s : State) (cs : List CommandData) (new : List ℕ) → TurnsAll s.voice cs new → (applied s cs).voice ≡ new
  pub blocks : (s : State) → (passed s).voice ≡ s.voice
