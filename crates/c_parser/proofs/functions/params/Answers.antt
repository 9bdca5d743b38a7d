use Rattle.std.proofs.Common.{◌≡◌, Err, false, [], ◌∷◌, ◌∙◌, rules, arith}
use Rattle.std.proofs.lemmas.Grind.{common_steps}
use Rattle.c_syntax.specs.declared.token.CWord.TheVariants.{Void}
use Rattle.c_automaton.specs.Automaton as machine
use Rattle.c_automaton.specs.Ahead.{begins_word}
use Rattle.c_automaton.proofs.Taking.{params_begin}
use Rattle.c_parser.specs.Following.{ahead}
use Rattle.c_parser.proofs.Automata.{takes_after}
use Rattle.c_parser.proofs.functions.params.Goals as goal

pub returns-in_err-first-clause-follows : goal.returns-in_err-first-clause-follows
returns-in_err-first-clause-follows c =
    let here = ahead c.args.lexemes.now c.args.at in
    let is : c.from_residual-in_err-first.result ≡ Err c.in_err-first.field-0.0 = first_of (search rules, grind (arith, common_steps)) in
    let none : begins_word Void here ≡ false = first_of (search rules, grind (arith, common_steps)) in
    rw is (λ ys f told. params_begin ys here none ∙ c.in_err-first.ensures.follows (machine.more_params ∷ ys) f told)

pub returns-clause-follows : goal.returns-clause-follows
returns-clause-follows c =
    let here = ahead c.args.lexemes.now c.args.at in
    let none : begins_word Void here ≡ false = first_of (search rules, grind (arith, common_steps)) in
    takes_after (machine.params ∷ []) (machine.more_params ∷ []) c.args.lexemes.now c.args.at c.in_ok-first.next c.more_params.result
    (λ ys. params_begin ys here none ∙ c.in_ok-first.ensures.follows (machine.more_params ∷ ys)) c.more_params.ensures.follows
