use Rattle.std.proofs.Common.{◌≡◌, ◌≤◌, ap, arith}
use Rattle.vlt_core.specs.View as view
use Rattle.c_syntax.specs.declared.program.CName.{CName}
use Rattle.c_lower.specs.Statements.{name_of}
use Rattle.c_lower_program.proofs.Numbers.{name_small}
use Rattle.c_lower_program.proofs.program.number_of.Goals as goal

pub overflow_cast-result : goal.overflow_cast-result
overflow_cast-result c =
    let p = view.program_of c.args.program.now in
    let small : (name_of p c.args.f.0).number ≤ c.args.f.0 = name_small p c.args.f.0 in
    let same : c.name_of.result.number ≡ (name_of p c.args.f.0).number = ap (λ (x : CName). x.number) c.name_of.ensures in
    omega arith
