use Rattle.std.proofs.Common.{◌++◌, ◌∙◌, ap, Some, None, sym, rules, arith}
use Rattle.std.specs.Str.{chars, IsUtf8}
use Rattle.std.proofs.lemmas.Grind.{common_steps}
use Rattle.vlt_tokens.specs.Characters.{is_digit, value_of}
use Rattle.vlt_lexer.specs.Steps.{run, Holds}
use Rattle.vlt_lexer.proofs.Bytes.{shorter_by}
use Rattle.vlt_lexer.proofs.Found.{digits_some, number_back, number_stands, number_stuck}
use Rattle.vlt_lexer.proofs.scan.number_token.Goals as goal

pub returns-in-Some-default-clause-found : goal.returns-in-Some-default-clause-found
returns-in-Some-default-clause-found c =
    let held : Holds (Some c.in-Some-default.n) (value_of (run is_digit (chars c.args.text.now))) = first_of (search rules, grind (arith, common_steps)) in
    let found = number_stands (chars c.args.text.now) c.requires.0 c.requires.1 c.in-Some-default.n c.requires.2 c.requires.3 held in
    let whole = found.1 ∙ ap (λ t. found.0 ++ t) (sym c.number.ensures.rest) in
    (found.0, whole, found.2, (found.3.0, number_back c.in-Some-default.n (value_of found.0) found.3.1 found.3.2, found.3.2))

pub returns-in-Some-default-clause-shorter : goal.returns-in-Some-default-clause-shorter
returns-in-Some-default-clause-shorter c =
    let held : Holds (Some c.in-Some-default.n) (value_of (run is_digit (chars c.args.text.now))) = first_of (search rules, grind (arith, common_steps)) in
    let found = number_stands (chars c.args.text.now) c.requires.0 c.requires.1 c.in-Some-default.n c.requires.2 c.requires.3 held in
    let whole = found.1 ∙ ap (λ t. found.0 ++ t) (sym c.number.ensures.rest) in
    let utf8 : IsUtf8 c.number.result.1.now = first_of (search rules, grind (arith, common_steps)) in
    let shorter = shorter_by c.args.text.now c.number.result.1.now found.0 c.utf8.text utf8 whole in
    omega (arith, shorter, digits_some found.0 found.3.0)

pub returns-in-None-default-clause-stuck : goal.returns-in-None-default-clause-stuck
returns-in-None-default-clause-stuck c =
    let held : Holds None (value_of (run is_digit (chars c.args.text.now))) = first_of (search rules, grind (arith, common_steps)) in
    number_stuck (chars c.args.text.now) c.requires.0 c.requires.1 c.requires.2 c.requires.3 held
