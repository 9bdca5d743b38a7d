use Rattle.std.proofs.Common.{◌≡◌, ◌+◌, Err, false, ◌&&◌, [], ◌∷◌, ◌∙◌, refl, rules, arith}
use Rattle.std.proofs.lemmas.Grind.{common_steps}
use Rattle.c_syntax.specs.declared.token.CSign.TheVariants.{Arrow, Assign, Semicolon}
use Rattle.c_automaton.specs.Automaton.{sign, cell_rest, operand, value}
use Rattle.c_automaton.specs.Ahead.{begins_sign, after_variable_of}
use Rattle.c_parser.specs.Following.{ahead}
use Rattle.c_parser.proofs.Automata.{statement_cell, assigned, takes_after}
use Rattle.c_parser.proofs.simple.after_variable.Goals as goal

pub returns-then-is_cell-clause-follows : goal.returns-then-is_cell-clause-follows
returns-then-is_cell-clause-follows c =
    let places = ahead c.args.lexemes.now in
    takes_after (after_variable_of c.args.variable) (sign Arrow ∷ cell_rest (sign Assign ∷ operand ∷ sign Semicolon ∷ [])) c.args.lexemes.now c.args.at c.args.at c.put.result
    (λ ys. statement_cell c.args.variable ys (places c.args.at) (places (c.args.at + 1)) (c.if-is_cell.ensures.reference refl) (c.if-is_cell.ensures.comes refl)) c.put.ensures.follows

pub returns-in_err-next-clause-follows : goal.returns-in_err-next-clause-follows
returns-in_err-next-clause-follows c =
    let here = ahead c.args.lexemes.now c.args.at in
    let is : c.from_residual.result ≡ Err c.in_err-next.field-0.0 = first_of (search rules, grind (arith, common_steps)) in
    let none : (c.args.variable.reference && begins_sign Arrow here) ≡ false = first_of (search rules, grind (arith, common_steps)) in
    rw is (λ ys f told. assigned c.args.variable ys here none ∙ c.in_err-next.ensures.follows (value ∷ sign Semicolon ∷ ys) f told)

pub returns-clause-follows : goal.returns-clause-follows
returns-clause-follows c =
    let here = ahead c.args.lexemes.now c.args.at in
    let none : (c.args.variable.reference && begins_sign Arrow here) ≡ false = first_of (search rules, grind (arith, common_steps)) in
    takes_after (after_variable_of c.args.variable) (value ∷ sign Semicolon ∷ []) c.args.lexemes.now c.args.at c.in_ok-next.next c.set.result
    (λ ys. assigned c.args.variable ys here none ∙ c.in_ok-next.ensures.follows (value ∷ sign Semicolon ∷ ys)) c.set.ensures.follows
