use Rattle.std.proofs.Common.{◌+◌, [], ◌∷◌, rules, arith}
use Rattle.std.proofs.lemmas.Grind.{common_steps}
use Rattle.c_syntax.specs.Tokens as t
use Rattle.c_automaton.specs.Automaton.{stmts}
use Rattle.c_automaton.specs.Ahead.{Begins, after_variable_of}
use Rattle.c_parser.specs.Following.{ahead}
use Rattle.c_parser.proofs.Automata.{takes_before, variable_taken}
use Rattle.c_parser.proofs.simple.simple_stmt.Goals as goal

pub returns-in-Some-Var-clause-follows : goal.returns-in-Some-Var-clause-follows
returns-in-Some-Var-clause-follows c = λ counts.
    (let places = ahead c.args.lexemes.now in
    let v = c.in-Some-Var.variable in
    let comes : Begins (t.variable v) (places c.args.at) (places (c.args.at + 1)) = first_of (search rules, grind (arith, common_steps)) in
    takes_before (stmts counts ∷ []) (after_variable_of v) (stmts counts ∷ []) c.args.lexemes.now c.args.at (c.args.at + 1) c.after_variable.result
    (λ ys. variable_taken counts v (places c.args.at) (places (c.args.at + 1)) ys comes) c.after_variable.ensures.follows)
