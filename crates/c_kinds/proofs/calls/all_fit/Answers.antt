use Rattle.std.proofs.Common.{◌≡◌, suc, [], ◌∷◌, drop, map, rules, sym, ap, ◌∙◌, arith}
use Rattle.std.proofs.lemmas.Grind.{common_steps}
use Rattle.std.proofs.Math.ListN.{get_or}
use Rattle.std.proofs.Math.Seq.{drop-cons}
use Rattle.c_syntax.specs.Kinds as k
use Rattle.c_syntax.specs.View.{arg_of}
use Rattle.c_kinds.specs.declared.types.Wanted.TheVariants.{Numeral}
use Rattle.c_kinds.specs.View.{scope_of, wanted_of}
use Rattle.c_kinds.proofs.calls.all_fit.Goals as goal

pub returns-in_default : goal.returns-in_default
returns-in_default c =
    let scope = scope_of c.args.scope.now in
    let wanted = c.args.wanted.now in
    let at = c.loop-want.want-index in
    let none : c.loop-want.left.now ≡ [] = first_of (search rules, grind (arith, common_steps)) in
    sym (ap (λ ws. k.all_fit scope (map wanted_of ws) (map arg_of c.loop-want.left.now)) (drop-cons wanted at Numeral c.loop-want-test.true)
    ∙ ap (λ xs. k.all_fit scope (wanted_of (get_or wanted at Numeral) ∷ map wanted_of (drop (suc at) wanted)) (map arg_of xs)) none)
    ∙ c.loop-want.invariant
