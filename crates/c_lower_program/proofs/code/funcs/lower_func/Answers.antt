use Rattle.std.proofs.Common.{◌≡◌, IfOk, subst}
use Rattle.vlt_core.specs.View as view
use Rattle.c_syntax.specs.View.{func_of}
use Rattle.c_lower.specs.Slots.{first_temps}
use Rattle.c_lower.specs.Statements.{StmtCode, list_code}
use Rattle.c_lower.specs.Lowering.{func_with}
use Rattle.c_lower_program.proofs.OfCode.Ranges.{written_whole}
use Rattle.c_lower_program.proofs.code.funcs.lower_func.Goals as goal

pub returns : goal.returns
returns c =
    let p = view.program_of c.args.program.now in
    let f = view.func_of c.args.func.now in
    subst (λ (k : StmtCode). IfOk c.func_with.result (λ x. func_of x ≡ func_with p c.args.number f k))
    (written_whole (list_code p f (first_temps p f) f.body) _ _ c.in_ok-body.ensures) c.func_with.ensures
