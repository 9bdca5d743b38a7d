use Rattle.std.proofs.Common.{◌≡◌, subst, rules, arith}
use Rattle.std.proofs.lemmas.Grind.{common_steps}
use Rattle.std.specs.Prelude.{IfSome}
use Rattle.vlt_parser_exprs.specs.declared.error.ParseError.TheVariants as parse
use Rattle.vlt_lexer.proofs.Slices.{tokens_slices}
use Rattle.vlt_syntax.specs.Refusals.{unexpected_at, over_limit}
use Rattle.vaultc_runs.specs.Texts.{AreRefused, unparsed}
use Rattle.vaultc_runs.specs.Shown.{refusal_of}
use Rattle.vaultc_runs.specs.declared.text_error.TextError.TheVariants as error
use Rattle.vlt_syntax_laws.proofs.Refused.{limit_there}
use Rattle.vlt_syntax_laws.proofs.Within.{place_within}
use Rattle.vaultc_runs.proofs.lines.refusal.Goals as goal

pub wrong_at-requires-in-Parse-Unexpected-clause-within : goal.wrong_at-requires-in-Parse-Unexpected-clause-within
wrong_at-requires-in-Parse-Unexpected-clause-within c =
    let bytes = c.args.bytes.now in
    let at = c.in-Parse-Unexpected.at in
    let same : c.args.error ≡ error.Parse (parse.Unexpected at) = first_of (search rules, grind (arith, common_steps)) in
    let refused : AreRefused bytes (unparsed (unexpected_at at)) = subst (λ e. IfSome (refusal_of e) (AreRefused bytes)) same c.requires.refused in
    place_within bytes refused.0 at (tokens_slices bytes refused.0 refused.1.tokens) refused.2

pub over_limit-requires-in-Parse-Limit-clause-from : goal.over_limit-requires-in-Parse-Limit-clause-from
over_limit-requires-in-Parse-Limit-clause-from c =
    let bytes = c.args.bytes.now in
    let number = c.in-Parse-Limit.number in
    let same : c.args.error ≡ error.Parse (parse.Limit number) = first_of (search rules, grind (arith, common_steps)) in
    let refused : AreRefused bytes (unparsed (over_limit number)) = subst (λ e. IfSome (refusal_of e) (AreRefused bytes)) same c.requires.refused in
    (limit_there refused.0 number refused.2).0

pub over_limit-requires-in-Parse-Limit-clause-to : goal.over_limit-requires-in-Parse-Limit-clause-to
over_limit-requires-in-Parse-Limit-clause-to c =
    let bytes = c.args.bytes.now in
    let number = c.in-Parse-Limit.number in
    let same : c.args.error ≡ error.Parse (parse.Limit number) = first_of (search rules, grind (arith, common_steps)) in
    let refused : AreRefused bytes (unparsed (over_limit number)) = subst (λ e. IfSome (refusal_of e) (AreRefused bytes)) same c.requires.refused in
    (limit_there refused.0 number refused.2).1
