use Rattle.std.proofs.Common.{append_assoc}
use Rattle.take_files.specs.Files.{header_text, order_header}
use Rattle.take_files.proofs.order.order_header.Goals as goal

pub returns : goal.returns
unfolding order_header header_text
returns c =
    rw (
      c.push_text-3.ensures,
      c.push_number-2.ensures.text,
      c.push_text-2.ensures,
      c.push_number.ensures.text,
      c.push_text.ensures,
      c.clear.ensures,
    ) (simp append_assoc)
