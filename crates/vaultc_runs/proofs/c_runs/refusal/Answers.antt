use Rattle.std.proofs.Common.{◌≡◌, subst, rules, arith}
use Rattle.std.proofs.lemmas.Grind.{common_steps}
use Rattle.c_reader.specs.Reads.{IsWithin}
use Rattle.c_reader.specs.declared.error.CError.TheVariants as error
use Rattle.vaultc_runs.proofs.CEnded.{limit_numbered, c_limit}
use Rattle.vaultc_runs.proofs.c_runs.refusal.Goals as goal

pub wrong_at-requires-clause-within : goal.wrong_at-requires-clause-within
wrong_at-requires-clause-within c =
    let same : c.args.error ≡ error.Unexpected c.in-Unexpected.at = first_of (search rules, grind (arith, common_steps)) in
    subst (IsWithin c.args.text.now) same c.requires.reason.within

pub wrong_at-requires-in-Kind-clause-within : goal.wrong_at-requires-in-Kind-clause-within
wrong_at-requires-in-Kind-clause-within c =
    let same : c.args.error ≡ error.Kind c.in-Kind.rule c.in-Kind.at = first_of (search rules, grind (arith, common_steps)) in
    subst (IsWithin c.args.text.now) same c.requires.reason.within

pub over_limit-requires-clause-from : goal.over_limit-requires-clause-from
over_limit-requires-clause-from c =
    let same : c.args.error ≡ error.Limit c.in-Limit.number = first_of (search rules, grind (arith, common_steps)) in
    (limit_numbered c.args.text.now c.in-Limit.number (c_limit c.args.text.now c.args.error c.in-Limit.number same c.requires.reason)).0

pub over_limit-requires-clause-to : goal.over_limit-requires-clause-to
over_limit-requires-clause-to c =
    let same : c.args.error ≡ error.Limit c.in-Limit.number = first_of (search rules, grind (arith, common_steps)) in
    (limit_numbered c.args.text.now c.in-Limit.number (c_limit c.args.text.now c.args.error c.in-Limit.number same c.requires.reason)).1
