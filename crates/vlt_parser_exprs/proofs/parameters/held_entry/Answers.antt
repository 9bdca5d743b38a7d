use Rattle.std.proofs.Common.{◌≡◌, Err, ◌∷◌, ◌∙◌, rules, arith}
use Rattle.std.proofs.lemmas.Grind.{common_steps}
use Rattle.vlt_automaton.specs.Language as m
use Rattle.vlt_parser_exprs.specs.Ahead.{lexemes_from}
use Rattle.vlt_parser_exprs.proofs.Functions.{entry_at, entry_changes, entry_states}
use Rattle.vlt_parser_exprs.proofs.parameters.held_entry.Goals as goal

pub returns-in_err-before-clause-takes : goal.returns-in_err-before-clause-takes
returns-in_err-before-clause-takes c =
    let after_key = lexemes_from c.args.tokens.now c.in_ok-key.next in
    let after_at = lexemes_from c.args.tokens.now c.in-Some.next in
    let is : c.from_residual-in_err-before.result ≡ Err c.in_err-before.field-0.0 = first_of (search rules, grind (arith, common_steps)) in
    rw is (λ s f told. c.in_ok-key.ensures.takes (m.entry_states ∷ s)
    ∙ entry_at s after_key after_at c.in-Some.ensures.ahead
    ∙ entry_states s after_at c.in_default-after_sign.ensures.lacks
    ∙ c.in_err-before.ensures.takes (m.arrow_states ∷ s) f told)

pub returns-in_err-after-in-Some-after_sign-2-clause-takes : goal.returns-in_err-after-in-Some-after_sign-2-clause-takes
returns-in_err-after-in-Some-after_sign-2-clause-takes c =
    let after_key = lexemes_from c.args.tokens.now c.in_ok-key.next in
    let after_at = lexemes_from c.args.tokens.now c.in-Some.next in
    let after_states = lexemes_from c.args.tokens.now c.in_ok-before.next in
    let after_arrow = lexemes_from c.args.tokens.now c.in-Some-after_sign-2.next in
    let is : c.from_residual-in_err-after-in-Some-after_sign-2.result ≡ Err c.in_err-after-in-Some-after_sign-2.field-0.0 = first_of (search rules, grind (arith, common_steps)) in
    rw is (λ s f told. c.in_ok-key.ensures.takes (m.entry_states ∷ s)
    ∙ entry_at s after_key after_at c.in-Some.ensures.ahead
    ∙ entry_states s after_at c.in_default-after_sign.ensures.lacks
    ∙ c.in_ok-before.ensures.takes (m.arrow_states ∷ s)
    ∙ entry_changes s after_states after_arrow c.in-Some-after_sign-2.ensures.ahead
    ∙ c.in_err-after-in-Some-after_sign-2.ensures.takes s f told)
