use Rattle.std.proofs.Common.{◌≡◌, ◌++◌, take}
use Rattle.std.specs.List.{flat_map}
use Rattle.command_set.specs.Entries.{journal_data}
use Rattle.take_files.specs.Files.{order_header, order_line}
use Rattle.take_files.proofs.order.order_file.Given as goal

abbrev pub invariant-loop-logged : goal.invariant-loop-logged
invariant-loop-logged l = l.text.items ≡ order_header l.blocks l.scripts ++ flat_map order_line (journal_data (take l.logged-index l.journal))
