use Rattle.std.proofs.Common.{◌≡◌, ◌-◌, ◌+◌, suc, [], ◌∷◌, length, sym, ap, ◌∙◌, arith}
use Rattle.vlt_base.specs.Parents.{reaches, is_so_above}
use Rattle.vlt_meaning.specs.Objects.{parents_of}
use Rattle.vlt_trace_worlds.specs.View.{objects_view}
use Rattle.vlt_trace_worlds.proofs.Changing.{under_up}
use Rattle.vlt_trace_worlds.proofs.changes.is_under.Goals as goal

pub loop-left-preserved : goal.loop-left-preserved
loop-left-preserved c =
    let ps = parents_of (objects_view c.args.objects.now) in
    let s = length c.args.objects.now - (c.loop-left.left + 1) in
    let e : length c.args.objects.now - c.loop-left.left ≡ suc s = omega (arith, c.loop-left-test.true) in
    ap (is_so_above (reaches s ps (c.args.root ∷ []))) (sym (sym c.parent.ensures ∙ c.in-Some.is))
    ∙ (sym (under_up s ps c.args.root c.loop-left.at (λ same. c.if-root-at.false same))
    ∙ (ap (λ k. reaches k ps (c.args.root ∷ []) c.loop-left.at) (sym e) ∙ c.loop-left.invariant))
