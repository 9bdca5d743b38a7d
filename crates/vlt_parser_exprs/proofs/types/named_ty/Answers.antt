use Rattle.std.proofs.Common.{◌≡◌, Err, ◌∷◌, ◌∙◌, rules, arith}
use Rattle.std.proofs.lemmas.Grind.{common_steps}
use Rattle.vlt_automaton.specs.Language as m
use Rattle.vlt_parser_exprs.specs.Ahead.{lexemes_from}
use Rattle.vlt_parser_exprs.proofs.Runs.{type_name_plain}
use Rattle.vlt_parser_exprs.proofs.types.named_ty.Goals as goal

pub returns-in_err-keys-clause-takes : goal.returns-in_err-keys-clause-takes
returns-in_err-keys-clause-takes c =
    let tokens = c.args.tokens.now in
    let is : c.from_residual-in_err-keys.result ≡ Err c.in_err-keys.field-0.0 = first_of (search rules, grind (arith, common_steps)) in
    rw is (λ s f told. c.in_ok-first.ensures.takes (m.after_type_name ∷ s) ∙ type_name_plain s (lexemes_from tokens c.in_ok-first.next) c.in_default.ensures.lacks ∙ c.in_err-keys.ensures.takes s f told)
