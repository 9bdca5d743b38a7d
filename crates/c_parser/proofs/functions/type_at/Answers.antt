use Rattle.std.proofs.Common.{◌≡◌, Err, false, ◌∷◌, ◌∙◌, rules, arith}
use Rattle.std.proofs.lemmas.Grind.{common_steps}
use Rattle.c_syntax.specs.declared.token.CWord.TheVariants.{Long, Ref}
use Rattle.c_automaton.specs.Automaton.{word}
use Rattle.c_automaton.specs.Ahead.{begins_word}
use Rattle.c_automaton.proofs.Taking.{long_type}
use Rattle.c_parser.specs.Following.{ahead}
use Rattle.c_parser.proofs.functions.type_at.Goals as goal

pub returns-in_err-second-clause-follows : goal.returns-in_err-second-clause-follows
returns-in_err-second-clause-follows c =
    let here = ahead c.args.lexemes.now c.args.at in
    let is : c.from_residual.result ≡ Err c.in_err-second.field-0.0 = first_of (search rules, grind (arith, common_steps)) in
    let none : begins_word Ref here ≡ false = first_of (search rules, grind (arith, common_steps)) in
    rw is (λ ys f told. long_type ys here none ∙ c.in_err-second.ensures.follows (word Long ∷ ys) f told)

pub returns-in_err-next-clause-follows : goal.returns-in_err-next-clause-follows
returns-in_err-next-clause-follows c =
    let here = ahead c.args.lexemes.now c.args.at in
    let is : c.from_residual-in_err-next.result ≡ Err c.in_err-next.field-0.0 = first_of (search rules, grind (arith, common_steps)) in
    let none : begins_word Ref here ≡ false = first_of (search rules, grind (arith, common_steps)) in
    rw is (λ ys f told. long_type ys here none ∙ c.in_ok-second.ensures.follows (word Long ∷ ys) ∙ c.in_err-next.ensures.follows ys f told)
