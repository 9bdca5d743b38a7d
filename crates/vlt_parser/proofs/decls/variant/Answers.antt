use Rattle.std.proofs.Common.{◌≡◌, ◌-◌, Err, Some, ◌∷◌, ◌∙◌, sym, ap, rules, arith}
use Rattle.std.proofs.lemmas.Grind.{common_steps}
use Rattle.std.proofs.lemmas.Result.{err_from_is_err_and}
use Rattle.vlt_tokens.specs.declared.token.Mark.TheVariants as mark
use Rattle.vlt_syntax.specs.Grammar.{language}
use Rattle.vlt_automaton.specs.Language as m
use Rattle.vlt_automaton.specs.Language.{run}
use Rattle.vlt_parser_exprs.specs.Ahead.{lexemes_from, left_of}
use Rattle.vlt_parser_exprs.proofs.Runs.{bounded_below}
use Rattle.vlt_parser.proofs.decls.variant.Goals as goal

pub returns-in_err-cases-clause-takes : goal.returns-in_err-cases-clause-takes
returns-in_err-cases-clause-takes c =
    let at = lexemes_from c.args.tokens.now c.in_ok-next-2.next in
    let bound : left_of (Some c.bound.result) 1 ≡ Some (record { limit = 7; more = language.cases - 1 }) = bounded_below c.bound.result 7 language.cases c.bound.ensures.limit c.bound.ensures.count in
    let is : c.from_residual-in_err-cases.result ≡ Err c.in_err-cases.field-0.0 = first_of (search rules, grind (arith, common_steps)) in
    rw is (λ s f told.
    c.in_ok-next.ensures.takes (m.name ∷ m.header ∷ m.sign mark.OpenBrace ∷ m.thing m.a_case ∷ m.further m.a_case mark.CloseBrace (Some (record { limit = 7; more = language.cases - 1 })) ∷ s)
    ∙ c.in_ok-name.ensures.takes (m.header ∷ m.sign mark.OpenBrace ∷ m.thing m.a_case ∷ m.further m.a_case mark.CloseBrace (Some (record { limit = 7; more = language.cases - 1 })) ∷ s)
    ∙ c.in_ok-params.ensures.takes (m.sign mark.OpenBrace ∷ m.thing m.a_case ∷ m.further m.a_case mark.CloseBrace (Some (record { limit = 7; more = language.cases - 1 })) ∷ s)
    ∙ c.in_ok-next-2.ensures.takes (m.thing m.a_case ∷ m.further m.a_case mark.CloseBrace (Some (record { limit = 7; more = language.cases - 1 })) ∷ s)
    ∙ ap (λ l. run (m.thing m.a_case ∷ m.further m.a_case mark.CloseBrace l ∷ s) at) (sym bound)
    ∙ c.in_err-cases.ensures.takes s f told)

pub returns-in_err-name-clause-takes : goal.returns-in_err-name-clause-takes
returns-in_err-name-clause-takes c =
    let is : c.from_residual-in_err-name.result ≡ Err c.in_err-name.field-0.0 =
    let told = err_from_is_err_and c.from_residual-in_err-name.result c.from_residual-in_err-name.ensures.1 in told.1 ∙ ap Err told.2 in
    rw is (λ s f told. c.in_ok-next.ensures.takes (m.name ∷ m.header ∷ m.sign mark.OpenBrace ∷ m.thing m.a_case ∷ m.further m.a_case mark.CloseBrace (Some (record { limit = 7; more = language.cases - 1 })) ∷ s)
    ∙ c.in_err-name.ensures.takes (m.header ∷ m.sign mark.OpenBrace ∷ m.thing m.a_case ∷ m.further m.a_case mark.CloseBrace (Some (record { limit = 7; more = language.cases - 1 })) ∷ s) f told)

pub returns-in_err-params-clause-takes : goal.returns-in_err-params-clause-takes
returns-in_err-params-clause-takes c =
    let is : c.from_residual-in_err-params.result ≡ Err c.in_err-params.field-0.0 =
    let told = err_from_is_err_and c.from_residual-in_err-params.result c.from_residual-in_err-params.ensures.1 in told.1 ∙ ap Err told.2 in
    rw is (λ s f told. c.in_ok-next.ensures.takes (m.name ∷ m.header ∷ m.sign mark.OpenBrace ∷ m.thing m.a_case ∷ m.further m.a_case mark.CloseBrace (Some (record { limit = 7; more = language.cases - 1 })) ∷ s)
    ∙ c.in_ok-name.ensures.takes (m.header ∷ m.sign mark.OpenBrace ∷ m.thing m.a_case ∷ m.further m.a_case mark.CloseBrace (Some (record { limit = 7; more = language.cases - 1 })) ∷ s)
    ∙ c.in_err-params.ensures.takes (m.sign mark.OpenBrace ∷ m.thing m.a_case ∷ m.further m.a_case mark.CloseBrace (Some (record { limit = 7; more = language.cases - 1 })) ∷ s) f told)

pub returns-in_err-next-2-clause-takes : goal.returns-in_err-next-2-clause-takes
returns-in_err-next-2-clause-takes c =
    let is : c.from_residual-in_err-next-2.result ≡ Err c.in_err-next-2.field-0.0 =
    let told = err_from_is_err_and c.from_residual-in_err-next-2.result c.from_residual-in_err-next-2.ensures.1 in told.1 ∙ ap Err told.2 in
    rw is (λ s f told. c.in_ok-next.ensures.takes (m.name ∷ m.header ∷ m.sign mark.OpenBrace ∷ m.thing m.a_case ∷ m.further m.a_case mark.CloseBrace (Some (record { limit = 7; more = language.cases - 1 })) ∷ s)
    ∙ c.in_ok-name.ensures.takes (m.header ∷ m.sign mark.OpenBrace ∷ m.thing m.a_case ∷ m.further m.a_case mark.CloseBrace (Some (record { limit = 7; more = language.cases - 1 })) ∷ s)
    ∙ c.in_ok-params.ensures.takes (m.sign mark.OpenBrace ∷ m.thing m.a_case ∷ m.further m.a_case mark.CloseBrace (Some (record { limit = 7; more = language.cases - 1 })) ∷ s)
    ∙ c.in_err-next-2.ensures.takes (m.thing m.a_case ∷ m.further m.a_case mark.CloseBrace (Some (record { limit = 7; more = language.cases - 1 })) ∷ s) f told)
