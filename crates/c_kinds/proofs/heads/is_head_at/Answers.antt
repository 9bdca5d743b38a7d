use Rattle.std.proofs.Common.{◌≡◌, ◌∙◌, ap, subst, sym, slice_get, Some}
use Rattle.std.specs.Prelude.{IfSome}
use Rattle.std.specs.Option.{is_some}
use Rattle.std.proofs.Math.ListN.{get_or}
use Rattle.c_kinds.proofs.Ordered.{head_at_is, read_at}
use Rattle.c_kinds.proofs.heads.is_head_at.Goals as goal

pub returns-in-Some : goal.returns-in-Some
returns-in-Some c =
    let there : slice_get c.args.heads.now c.args.at ≡ Some c.in-Some.other.now = read_at c.args.heads.now c.args.at c.in-Some.other.now (sym c.get.ensures.lookup.0 ∙ ap is_some c.in-Some.is)
    (subst (λ r. IfSome r (λ x. x.now ≡ get_or c.args.heads.now c.args.at x.now)) c.in-Some.is c.get.ensures.lookup.1) in
    λ same. head_at_is c.args.head.now c.args.heads.now c.args.at c.in-Some.other.now there (sym c.same_head.ensures ∙ same)
