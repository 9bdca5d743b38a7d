use Rattle.cert_values.proofs.Lengths.{head_parts}
use Rattle.cert_values.proofs.blocks.put_head.Goals as goal

pub returns : goal.returns
returns c = rw (head_parts c.args.block.now) (rw (c.len.ensures, c.as_slice.ensures) at c.put_counted.ensures)
