use Rattle.std.proofs.Common.{◌≡◌, Some, rules, arith}
use Rattle.std.specs.Prelude.{codes}
use Rattle.std.specs.Str.{chars}
use Rattle.std.proofs.lemmas.Grind.{common_steps}
use Rattle.vlt_tokens.specs.Characters.{following, after_close}
use Rattle.vlt_lexer.proofs.Found.{line_gap, block_gap}
use Rattle.vlt_lexer.proofs.scan.past_comment.Goals as goal

pub returns-in-Some-clause-gap : goal.returns-in-Some-clause-gap
returns-in-Some-clause-gap c =
    let opens : following (codes "//") (chars c.args.text.now) ≡ Some (chars c.in-Some.inside.now) = first_of (search rules, grind (arith, common_steps)) in
    line_gap (chars c.args.text.now) (chars c.in-Some.inside.now) (chars c.past_line.result.now) opens c.past_line.ensures.rest

pub returns-in-Some-past_close-clause-gap : goal.returns-in-Some-past_close-clause-gap
returns-in-Some-past_close-clause-gap c =
    let opens : following (codes "/*") (chars c.args.text.now) ≡ Some (chars c.in-Some-following.inside.now) = first_of (search rules, grind (arith, common_steps)) in
    let closes : after_close (chars c.in-Some-following.inside.now) ≡ Some (chars c.in-Some-past_close.rest.now) = first_of (search rules, grind (arith, common_steps)) in
    block_gap (chars c.args.text.now) (chars c.in-Some-following.inside.now) (chars c.in-Some-past_close.rest.now) opens closes
