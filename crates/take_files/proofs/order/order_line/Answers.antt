use Rattle.std.proofs.Common.{append_assoc}
use Rattle.take_files.specs.Files.{order_line}
use Rattle.take_files.proofs.order.order_line.Goals as goal

pub returns : goal.returns
unfolding order_line
returns c =
    rw (
      c.push_text-5.ensures,
      c.write_text.ensures.text,
      c.push_text-4.ensures,
      c.push_number-4.ensures.text,
      c.push_text-3.ensures,
      c.push_number-3.ensures.text,
      c.push_text-2.ensures,
      c.push_number-2.ensures.text,
      c.push_text.ensures,
      c.push_number.ensures.text,
      c.clear.ensures,
    ) (simp append_assoc)
