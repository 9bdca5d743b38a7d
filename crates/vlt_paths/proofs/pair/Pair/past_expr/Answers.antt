use Rattle.vlt_core.specs.Rows.{expr_rows}
use Rattle.vlt_core.specs.View.{program_of, func_of, expr_of}
use Rattle.vlt_paths.proofs.Pairing.{both_past}
use Rattle.vlt_paths.proofs.pair.Pair.past_expr.Goals as goal

pub returns : goal.returns
returns c = both_past c.args.hunt c.args.at (expr_rows (program_of c.args.p.now) (func_of c.args.f.now) (expr_of c.args.e.now)) c.args.self c.past_expr.result c.past_expr-2.result c.past_expr.ensures c.past_expr-2.ensures
