use Rattle.std.proofs.Common.{◌≡◌, ◌∙◌, ap, subst, sym, true, slice_get, Some, rules, arith}
use Rattle.std.specs.Prelude.{IfSome}
use Rattle.std.specs.Option.{is_some}
use Rattle.std.proofs.Math.ListN.{get_or}
use Rattle.std.proofs.lemmas.Grind.{common_steps}
use Rattle.c_syntax.specs.Kinds as k
use Rattle.c_kinds.proofs.Ordered.{head_found, read_at}
use Rattle.c_kinds.proofs.heads.head_at.Goals as goal

pub returns-in-Some : goal.returns-in-Some
returns-in-Some c =
    let heads = c.args.heads in
    let h = c.in-Some.head.now in
    let there : slice_get heads.list.now c.args.at ≡ Some h = read_at heads.list.now c.args.at h (sym c.get.ensures.lookup.0 ∙ ap is_some c.in-Some.is)
    (subst (λ r. IfSome r (λ x. x.now ≡ get_or heads.list.now c.args.at x.now)) c.in-Some.is c.get.ensures.lookup.1) in
    let same : k.same_name c.args.name h.name ≡ true = first_of (search rules, grind (arith, common_steps)) in
    head_found c.args.name heads.in_order heads.list.now c.args.at h heads.ordered c.requires there same
