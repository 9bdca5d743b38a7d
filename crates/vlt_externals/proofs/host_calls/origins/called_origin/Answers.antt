use Rattle.std.proofs.Common.{None, Some, refl, sym, ap, ◌∙◌, subst}
use Rattle.std.specs.Option.{option_map}
use Rattle.vlt_core.specs.View.{keys_of}
use Rattle.vlt_core.specs.LookupViews.{bound_view}
use Rattle.vlt_externals.specs.HostCalls.Called.{OriginTold}
use Rattle.vlt_externals.proofs.host_calls.origins.called_origin.Goals as goal

pub returns-in-None : goal.returns-in-None
returns-in-None c = subst (λ b. OriginTold b (keys_of c.args.keys.now) c.args.heap.now c.args.values.now None) (sym (ap (option_map bound_view) c.in-None.is) ∙ c.bound.ensures) refl

pub returns-in-Some : goal.returns-in-Some
returns-in-Some c =
    subst (λ b. OriginTold b (keys_of c.args.keys.now) c.args.heap.now c.args.values.now (Some c.state_under.result)) (sym (ap (option_map bound_view) c.in-Some.is) ∙ c.bound.ensures)
    (c.state_under.result, refl, c.state_under.ensures)
