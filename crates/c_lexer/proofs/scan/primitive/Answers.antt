use Rattle.std.proofs.Common.{◌≡◌, ◌≤◌, ◌∙◌, length, ap, sym, Some, rules, arith}
use Rattle.std.specs.Prelude.{slice_get}
use Rattle.std.proofs.lemmas.Grind.{common_steps}
use Rattle.std.proofs.lemmas.Option.{slice_get_past}
use Rattle.c_syntax.specs.Tokens.{prim_text}
use Rattle.c_syntax.specs.Text.{item_with_text, prim_of}
use Rattle.c_lexer.proofs.Tables.{primitive_with, no_primitive}
use Rattle.c_lexer.proofs.scan.primitive.Goals as goal

pub returns-in-Some : goal.returns-in-Some
unfolding prim_of
returns-in-Some c =
    let run = c.args.run.now in
    let at : Some c.in-Some.fourth.now ≡ slice_get run 3 = first_of (search rules, grind (arith, common_steps)) in
    c.first_primitive.ensures ∙ ap (λ ps. item_with_text prim_text ps run) c.primitives_with.ensures ∙ primitive_with c.in-Some.fourth.now run at

pub returns-in-None : goal.returns-in-None
unfolding prim_of
returns-in-None c =
    let short : length c.args.run.now ≤ 3 = first_of (omega arith, search rules, grind (arith, common_steps)) in
    sym (no_primitive c.args.run.now (sym (slice_get_past c.args.run.now 3 short)))
