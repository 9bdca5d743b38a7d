use Rattle.std.proofs.Common.{ap, ◌∙◌, Some}
use Rattle.c_memory.proofs.Calls.{not_read, reference_found, reference_unset}
use Rattle.c_memory.proofs.blocks.Blocks.read_r.Goals as goal

pub returns-in_default-reference_cell : goal.returns-in_default-reference_cell
returns-in_default-reference_cell c = λ ts holds made. not_read _ ts _ c.in-Some.c c.args.i (c.in-Some.ensures.things ts holds made) c.in_default-reference_cell.ensures.none

pub returns-in-Reference : goal.returns-in-Reference
returns-in-Reference c = λ ts holds made. let s = c.in-Some-reference_cell.ensures.some in reference_found _ ts _ c.in-Some.c c.args.i c.in-Some-reference_cell.k _ holds (c.in-Some.ensures.things ts holds made) s.0 s.1 (c.at.ensures ∙ ap (λ x. Some x) c.in-Reference.is)

pub returns-in_default-at : goal.returns-in_default-at
returns-in_default-at c = λ ts holds made. let s = c.in-Some-reference_cell.ensures.some in reference_unset _ ts _ c.in-Some.c c.args.i c.in-Some-reference_cell.k _ (c.in-Some.ensures.things ts holds made) s.0 s.1 c.at.ensures c.in_default-at.not-Reference
