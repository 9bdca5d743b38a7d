use Rattle.std.proofs.Common.{rules, sym, ap, ◌∙◌, Some}
use Rattle.std.proofs.Common.{SFits, w64}
use Rattle.std.proofs.lemmas.Int.{to_z-of_z}
use Rattle.c_memory.proofs.Calls.{number_past, number_found, number_unset}
use Rattle.c_memory.proofs.blocks.Blocks.read_n.Goals as goal

pub returns-in_default-number_cell : goal.returns-in_default-number_cell
returns-in_default-number_cell c = λ ts holds made. sym (number_past _ ts _ c.in-Some.c c.args.i (c.in-Some.ensures.things ts holds made) c.in_default-number_cell.ensures.none)

pub returns-in-Number : goal.returns-in-Number
returns-in-Number c = λ ts holds made.
    let s = c.in-Some-number_cell.ensures.some in
    let f : SFits w64 c.in-Number.z = search rules in
    rw (to_z-of_z w64 c.in-Number.z f) (number_found _ ts _ c.in-Some.c c.args.i c.in-Some-number_cell.k c.in-Number.z (c.in-Some.ensures.things ts holds made) s.0 s.1 (c.at.ensures ∙ ap (λ x. Some x) c.in-Number.is))

pub returns-in_default-at : goal.returns-in_default-at
returns-in_default-at c = λ ts holds made. let s = c.in-Some-number_cell.ensures.some in number_unset _ ts _ c.in-Some.c c.args.i c.in-Some-number_cell.k _ (c.in-Some.ensures.things ts holds made) s.0 s.1 c.at.ensures c.in_default-at.not-Number
