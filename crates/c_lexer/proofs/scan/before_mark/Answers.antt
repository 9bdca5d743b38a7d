use Rattle.std.proofs.Common.{◌≡◌, ◌∷◌, None, rules, arith}
use Rattle.std.proofs.lemmas.Grind.{common_steps}
use Rattle.c_syntax.specs.Text.{following, mark}
use Rattle.c_lexer.proofs.Lexing.{cut_more}
use Rattle.c_lexer.proofs.scan.before_mark.Goals as goal

pub loop-after-preserved : goal.loop-after-preserved
loop-after-preserved c =
    let is : c.loop-after.rest.now ≡ c.in-Some.field-0-0.now ∷ c.in-Some.after.now = first_of (search rules, grind (arith, common_steps)) in
    let none : following mark c.loop-after.rest.now ≡ None = first_of (search rules, grind (arith, common_steps)) in
    record {
      no_longer = first_of (search rules, grind (arith, common_steps));
      cuts = cut_more _ c.loop-after.rest.now c.in-Some.after.now c.in-Some.field-0-0.now c.loop-after.invariant.cuts is none;
    }
