use Rattle.std.proofs.Common.{◌+◌, ◌*◌}
use Rattle.c_parser.proofs.exprs.+expression.Given as goal

abbrev pub decreases-expr : goal.decreases-expr
decreases-expr l = 5 * l.depth

abbrev pub decreases-operand : goal.decreases-operand
decreases-operand l = 5 * l.depth + 1

abbrev pub decreases-last_operand : goal.decreases-last_operand
decreases-last_operand l = 5 * l.depth + 2

abbrev pub decreases-binary : goal.decreases-binary
decreases-binary l = 5 * l.depth + 3

abbrev pub decreases-after_paren : goal.decreases-after_paren
decreases-after_paren l = 5 * l.depth + 4
