use Rattle.std.proofs.Common.{map}
use Rattle.vlt_core.specs.View as v
use Rattle.c_syntax.specs.View.{stmt_of}
use Rattle.c_lower_exprs.specs.Tables.{numbers_of}
use Rattle.c_lower_exprs.specs.Scopes.{func_in, program_in}
use Rattle.c_lower_exprs.specs.Coded.{atom_of}
use Rattle.c_lower_exprs.proofs.Values.{if_more, one_coded}
use Rattle.c_lower_exprs.proofs.operands.lower_one.Goals as goal

pub returns : goal.returns
returns c =
    if_more c.one_atom.result _ _ (λ x h.
    one_coded (program_in c.args.scope.now) (func_in c.args.scope.now) (numbers_of c.args.t) (v.expr_of c.args.expr.now) (map stmt_of c.args.out.now) (map stmt_of c.lower_value.new.out)
    (atom_of c.in_ok-value.value.atom) (numbers_of c.in_ok-value.value.next) (map atom_of x.atoms) (numbers_of x.next) c.requires.one c.in_ok-value.ensures h) c.one_atom.ensures
