use Rattle.std.proofs.Common.{◌≡◌, Err, ◌∷◌, ◌∙◌, rules, arith}
use Rattle.std.proofs.lemmas.Grind.{common_steps}
use Rattle.vlt_tokens.specs.declared.token.Mark.TheVariants as mark
use Rattle.vlt_automaton.specs.Language as m
use Rattle.vlt_parser_exprs.specs.Ahead.{lexemes_from}
use Rattle.vlt_parser_exprs.proofs.Runs.{tracked_keyed, tracked_plain}
use Rattle.vlt_parser_exprs.proofs.types.tracked.Goals as goal

pub returns-in_err-states-clause-takes : goal.returns-in_err-states-clause-takes
returns-in_err-states-clause-takes c =
    let is : c.from_residual-in_err-states.result ≡ Err c.in_err-states.field-0.0 = first_of (search rules, grind (arith, common_steps)) in
    rw is (λ s f told. tracked_plain s (lexemes_from c.args.tokens.now c.args.at) c.in_default.ensures.lacks ∙ c.in_err-states.ensures.takes (m.named ∷ s) f told)

pub returns-in_err-named-2-clause-takes : goal.returns-in_err-named-2-clause-takes
returns-in_err-named-2-clause-takes c =
    let is : c.from_residual-in_err-named-2.result ≡ Err c.in_err-named-2.field-0.0 = first_of (search rules, grind (arith, common_steps)) in
    rw is (λ s f told. tracked_plain s (lexemes_from c.args.tokens.now c.args.at) c.in_default.ensures.lacks ∙ c.in_ok-states.ensures.takes (m.named ∷ s) ∙ c.in_err-named-2.ensures.takes s f told)

pub returns-in_err-named-clause-takes : goal.returns-in_err-named-clause-takes
returns-in_err-named-clause-takes c =
    let is : c.from_residual-in_err-named.result ≡ Err c.in_err-named.field-0.0 = first_of (search rules, grind (arith, common_steps)) in
    rw is (λ s f told.
    tracked_keyed s (lexemes_from c.args.tokens.now c.args.at) (lexemes_from c.args.tokens.now c.in-Some.next) c.in-Some.ensures.ahead ∙
    c.in_ok-key.ensures.takes (m.sign mark.CloseParen ∷ m.named ∷ s) ∙ c.in_ok-next.ensures.takes (m.named ∷ s) ∙ c.in_err-named.ensures.takes s f told)
