-- The text of a fault of a script.
use Rattle.std.specs.Prelude.{ℕ, List, ◌++◌, codes}
use Rattle.fault_text.specs.Text.{frame_text}
use Rattle.script_outcome.specs.declared.fault.ScriptKind.{ScriptKind}
use Rattle.script_outcome.specs.declared.fault.ScriptKind.TheVariants as kind

unfoldable pub script_text : ScriptKind → List ℕ
script_text kind.Kind = codes "kind"
script_text kind.Line = codes "line"
script_text kind.Falls = codes "falls"
script_text kind.Late = codes "late"
script_text (kind.Message fault) = codes "message " ++ frame_text fault
script_text kind.Long = codes "long"
script_text kind.Cut = codes "cut"
script_text kind.Value = codes "value"
script_text kind.Undo = codes "undo"
script_text kind.Redo = codes "redo"
script_text kind.Header = codes "header"
script_text kind.Format = codes "format"
script_text kind.Division = codes "division"
script_text kind.Event = codes "event"
