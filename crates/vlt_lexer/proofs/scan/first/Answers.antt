use Rattle.std.proofs.Common.{◌≡◌, ◌++◌, rules, arith}
use Rattle.std.specs.Prelude.{encode_utf8}
use Rattle.std.proofs.lemmas.Grind.{common_steps}
use Rattle.std.proofs.lemmas.Str.{chars_past_char}
use Rattle.vlt_lexer.proofs.scan.first.Goals as goal

pub returns-clause-split : goal.returns-clause-split
returns-clause-split c =
    let split : c.args.text.now ≡ encode_utf8 c.in_ok-c.c ++ c.as_str.result.now = first_of (search rules, grind (arith, common_steps)) in
    (chars_past_char c.args.text.now c.as_str.result.now c.in_ok-c.c c.utf8.text split, split)
