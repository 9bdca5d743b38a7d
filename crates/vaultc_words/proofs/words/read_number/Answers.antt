use Rattle.std.proofs.Common.{◌≡◌, ◌<◌, true, length, rules, arith}
use Rattle.std.proofs.lemmas.Grind.{common_steps}
use Rattle.std.specs.List.{list_all}
use Rattle.std.specs.Char.{is_ascii_digit}
use Rattle.vaultc_words.proofs.Numbers.{number_unread}
use Rattle.vaultc_words.proofs.words.read_number.Goals as goal

pub returns-in_default-clause-value : goal.returns-in_default-clause-value
returns-in_default-clause-value c =
    let some : 0 < length c.args.word.now = first_of (search rules, grind (arith, common_steps)) in
    let all : list_all is_ascii_digit c.args.word.now ≡ true = first_of (search rules, grind (arith, common_steps)) in
    number_unread c.args.low c.args.high c.args.word.now some all (omega arith) c.in_default.ensures.value.0
