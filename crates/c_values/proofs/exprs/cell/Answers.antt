use Rattle.std.proofs.Common.{rules, sym, subst, ◌∙◌, Ok, Err, SFits, w64}
use Rattle.std.proofs.lemmas.Int.{to_z-of_z}
use Rattle.c_memory.specs.Shown.{blocks_of}
use Rattle.c_values.specs.declared.value.Value.TheVariants.{Number, Reference}
use Rattle.c_syntax.specs.declared.program.CCell.TheVariants as cell
use Rattle.c_values.specs.Shown.{shown_vars, IsValue}
use Rattle.c_meaning.specs.Values.{cell_value}
use Rattle.c_values.proofs.Evaluating.{number_cell, no_number_cell, no_base, reference_cell, no_reference_cell, no_reference_base, reference_made, at_cell}
use Rattle.c_values.proofs.exprs.cell.Goals as goal

pub returns-in-Ok-read_n : goal.returns-in-Ok-read_n
returns-in-Ok-read_n c = λ ts holds made.
    let f : SFits w64 c.in-Ok-read_n.z = search rules in
    subst (λ z. IsValue ts (Ok (Number z)) (cell_value c.args.x (shown_vars c.args.vars) (blocks_of c.args.blocks.now ts))) (sym (to_z-of_z w64 c.in-Ok-read_n.z f))
    (at_cell ts (shown_vars c.args.vars) (blocks_of c.args.blocks.now ts) (Ok (Number c.in-Ok-read_n.z)) c.args.x (cell.Number c.in-Number.p c.in-Number.index) c.in-Number.is (number_cell ts (shown_vars c.args.vars) (blocks_of c.args.blocks.now ts) c.in-Number.p c.in-Number.index c.base.result (c.base.ensures ts made) c.in-Ok.b c.in-Ok-read_n.z c.in-Ok.is (sym c.in-Ok-read_n.is ∙ c.read_n.ensures ts holds (reference_made ts _ _ c.in-Ok.b (c.base.ensures ts made) c.in-Ok.is))))

pub returns-in-Err-read_n : goal.returns-in-Err-read_n
returns-in-Err-read_n c = λ ts holds made.
    at_cell ts (shown_vars c.args.vars) (blocks_of c.args.blocks.now ts) (Err c.in-Err-read_n.rule) c.args.x (cell.Number c.in-Number.p c.in-Number.index) c.in-Number.is (no_number_cell ts (shown_vars c.args.vars) (blocks_of c.args.blocks.now ts) c.in-Number.p c.in-Number.index c.base.result (c.base.ensures ts made) c.in-Ok.b c.in-Err-read_n.rule c.in-Ok.is (sym c.in-Err-read_n.is ∙ c.read_n.ensures ts holds (reference_made ts _ _ c.in-Ok.b (c.base.ensures ts made) c.in-Ok.is)))

pub returns-in-Err : goal.returns-in-Err
returns-in-Err c = λ ts holds made.
    at_cell ts (shown_vars c.args.vars) (blocks_of c.args.blocks.now ts) (Err c.in-Err.rule) c.args.x (cell.Number c.in-Number.p c.in-Number.index) c.in-Number.is (no_base ts (shown_vars c.args.vars) (blocks_of c.args.blocks.now ts) c.in-Number.p c.in-Number.index c.base.result (c.base.ensures ts made) c.in-Err.rule c.in-Err.is)

pub returns-in-Ok-read_r : goal.returns-in-Ok-read_r
returns-in-Ok-read_r c = λ ts holds made.
    at_cell ts (shown_vars c.args.vars) (blocks_of c.args.blocks.now ts) (Ok (Reference c.in-Ok-read_r.r)) c.args.x (cell.Reference c.in-Reference.p c.in-Reference.index) c.in-Reference.is
    (reference_cell ts (shown_vars c.args.vars) (blocks_of c.args.blocks.now ts) c.in-Reference.p c.in-Reference.index c.base-in-Reference.result (c.base-in-Reference.ensures ts made) c.in-Ok-base.b c.in-Ok-read_r.r c.read_r.result c.in-Ok-base.is (λ m. c.read_r.ensures ts holds m) c.in-Ok-read_r.is)

pub returns-in-Err-read_r : goal.returns-in-Err-read_r
returns-in-Err-read_r c = λ ts holds made.
    at_cell ts (shown_vars c.args.vars) (blocks_of c.args.blocks.now ts) (Err c.in-Err-read_r.rule) c.args.x (cell.Reference c.in-Reference.p c.in-Reference.index) c.in-Reference.is
    (no_reference_cell ts (shown_vars c.args.vars) (blocks_of c.args.blocks.now ts) c.in-Reference.p c.in-Reference.index c.base-in-Reference.result (c.base-in-Reference.ensures ts made) c.in-Ok-base.b c.in-Err-read_r.rule c.read_r.result c.in-Ok-base.is (λ m. c.read_r.ensures ts holds m) c.in-Err-read_r.is)

pub returns-in-Err-base : goal.returns-in-Err-base
returns-in-Err-base c = λ ts holds made.
    at_cell ts (shown_vars c.args.vars) (blocks_of c.args.blocks.now ts) (Err c.in-Err-base.rule) c.args.x (cell.Reference c.in-Reference.p c.in-Reference.index) c.in-Reference.is (no_reference_base ts (shown_vars c.args.vars) (blocks_of c.args.blocks.now ts) c.in-Reference.p c.in-Reference.index c.base-in-Reference.result (c.base-in-Reference.ensures ts made) c.in-Err-base.rule c.in-Err-base.is)
