use Rattle.std.proofs.Common.{◌≡◌, ◌+◌, Err, true, ◌∙◌, rules, arith}
use Rattle.std.proofs.lemmas.Grind.{common_steps}
use Rattle.c_syntax.specs.declared.token.CSign.TheVariants.{Arrow}
use Rattle.c_syntax.specs.Tokens as t
use Rattle.c_automaton.specs.Ahead.{Begins}
use Rattle.c_parser.specs.Following.{ahead}
use Rattle.c_parser.proofs.Automata.{operand_cell}
use Rattle.c_parser.proofs.exprs.simple_expr.Goals as goal

pub returns-in_err-cell-in-Some-Var-clause-follows : goal.returns-in_err-cell-in-Some-Var-clause-follows
returns-in_err-cell-in-Some-Var-clause-follows c =
    let places = ahead c.args.lexemes.now in
    let v = c.in-Some-Var.variable in
    let is : c.from_residual.result ≡ Err c.in_err-cell-in-Some-Var.field-0.0 = first_of (search rules, grind (arith, common_steps)) in
    let comes : Begins (t.variable v) (places c.args.at) (places (c.args.at + 1)) = first_of (search rules, grind (arith, common_steps)) in
    let arrow : Begins (t.sign Arrow) (places (c.args.at + 1)) (places (c.args.at + 1 + 1)) = first_of (search rules, grind (arith, common_steps)) in
    let reference : v.reference ≡ true = first_of (search rules, grind (arith, common_steps)) in
    rw is (λ ys f told. operand_cell v ys (places c.args.at) (places (c.args.at + 1)) (places (c.args.at + 1 + 1)) reference comes arrow
    ∙ c.in_err-cell-in-Some-Var.ensures.follows ys f told)
