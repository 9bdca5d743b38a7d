use Rattle.std.proofs.Common.{◌≡◌, Err, ◌∙◌, rules, arith}
use Rattle.std.proofs.lemmas.Grind.{common_steps}
use Rattle.vlt_parser_exprs.specs.Ahead.{lexemes_from}
use Rattle.vlt_parser_exprs.proofs.Runs.{marked_some}
use Rattle.vlt_parser_exprs.proofs.types.marked_name.Goals as goal

pub returns-in_err-found-in-Some-clause-takes : goal.returns-in_err-found-in-Some-clause-takes
returns-in_err-found-in-Some-clause-takes c =
    let is : c.from_residual.result ≡ Err c.in_err-found-in-Some.field-0.0 = first_of (search rules, grind (arith, common_steps)) in
    rw is (λ s f told. marked_some c.args.mark s (lexemes_from c.args.tokens.now c.args.at) (lexemes_from c.args.tokens.now c.in-Some.next) c.in-Some.ensures.ahead ∙ c.in_err-found-in-Some.ensures.takes s f told)
