use Rattle.std.proofs.Common.{◌≡◌, Err, Some, None, ◌∷◌, ◌∙◌, sym, ap, rules, arith}
use Rattle.std.proofs.lemmas.Grind.{common_steps}
use Rattle.vlt_tokens.specs.declared.token.Mark.TheVariants as mark
use Rattle.vlt_syntax.specs.Grammar.{language}
use Rattle.vlt_automaton.specs.Language as m
use Rattle.vlt_automaton.specs.Language.{run}
use Rattle.vlt_parser_exprs.specs.Ahead.{lexemes_from, left_of}
use Rattle.vlt_parser_exprs.proofs.Runs.{bounded}
use Rattle.vlt_parser_exprs.proofs.Variants.{case_is}
use Rattle.vlt_parser_exprs.proofs.headers.CasePart.part.Goals as goal

pub returns-in_err-payload-clause-takes : goal.returns-in_err-payload-clause-takes
returns-in_err-payload-clause-takes c =
    let at = lexemes_from c.args.tokens.now c.in_ok-name.next in
    let bound : left_of (Some c.bound.result) 0 ≡ Some (record { limit = 8; more = language.payload }) = bounded c.bound.result 8 language.payload c.bound.ensures.limit c.bound.ensures.count in
    let is : c.from_residual-in_err-payload.result ≡ Err c.in_err-payload.field-0.0 = first_of (search rules, grind (arith, common_steps)) in
    rw is (λ s f told.
    case_is s (lexemes_from c.args.tokens.now c.args.at)
    ∙ c.in_ok-name.ensures.takes (m.enclosed m.a_ty mark.OpenParen mark.CloseParen (Some (record { limit = 8; more = language.payload })) ∷ m.enclosed m.a_key mark.OpenBrace mark.CloseBrace None ∷ s)
    ∙ ap (λ l. run (m.enclosed m.a_ty mark.OpenParen mark.CloseParen l ∷ m.enclosed m.a_key mark.OpenBrace mark.CloseBrace None ∷ s) at) (sym bound)
    ∙ c.in_err-payload.ensures.takes (m.enclosed m.a_key mark.OpenBrace mark.CloseBrace None ∷ s) f told)
