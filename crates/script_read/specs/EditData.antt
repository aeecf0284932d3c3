-- For private functions and proofs: a line of edits that was read, as plain data.
use Rattle.std.specs.Prelude.{◌≡◌, ◌≤◌, None}
use Rattle.editor.specs.Names.{first_high}
use Rattle.script_read.specs.declared.edit_line.EditRequest.{EditRequest}
use Rattle.script_read.specs.declared.edit_line.EditRequest.TheVariants as request
use Rattle.script_read.specs.declared.edit_line.EditLine.{EditLine}
use Rattle.script_read.specs.declared.edit_line.EditLine.TheVariants as line
use Rattle.script_read.specs.EditLines.{EditRequestData, Sets, Undoes, Redoes, Renames, Loads, Puts, ParsedEdit, Passed, Requests, Bad}

abbrev pub request_data : EditRequest → EditRequestData
request_data (request.Set number value) = Sets number value
request_data request.Undo = Undoes
request_data request.Redo = Redoes
request_data (request.Rename name) = Renames name
request_data (request.Load boxed) = Loads boxed.value
request_data (request.Store slot) = Puts slot

-- its numbers are in range, and the bytes of a name are up to 127
abbrev pub IsSoundRequest : EditRequest → Type 0
IsSoundRequest (request.Set number value) = number ≤ 154
IsSoundRequest request.Undo = Unit {0}
IsSoundRequest request.Redo = Unit {0}
IsSoundRequest (request.Rename name) = first_high name ≡ None
IsSoundRequest (request.Load boxed) = Unit {0}
IsSoundRequest (request.Store slot) = slot ≤ 31

abbrev pub edit_data : EditLine → ParsedEdit
edit_data line.Blank = Passed
edit_data (line.Requests block what) = Requests block (request_data what)
edit_data line.Wrong = Bad

abbrev pub IsSoundLine : EditLine → Type 0
IsSoundLine line.Blank = Unit {0}
IsSoundLine (line.Requests block what) = IsSoundRequest what
IsSoundLine line.Wrong = Unit {0}
