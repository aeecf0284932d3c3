use Rattle.std.proofs.Common.{◌≡◌, map, take, string_bytes, true}
use Rattle.tool_core.specs.Words.{may_read_all}
use Rattle.tool_core.proofs.words.may_read_all.Given as goal

abbrev pub invariant-loop-file : goal.invariant-loop-file
invariant-loop-file l = may_read_all l.out (map string_bytes (take l.file-index l.files)) ≡ true
