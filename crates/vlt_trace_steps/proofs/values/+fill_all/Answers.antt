use Rattle.std.proofs.Common.{rules, arith, ◌≡◌, ◌∷◌, map, ap, subst}
use Rattle.std.proofs.lemmas.Grind.{common_steps}
use Rattle.vlt_core.specs.View.{vars_of}
use Rattle.vlt_meaning.specs.Step.{fill}
use Rattle.vlt_trace_worlds.specs.View.{value_view, frame_view}
use Rattle.vlt_trace_worlds.specs.Running.{func_in}
use Rattle.vlt_trace_worlds.specs.Steps.{Goes}
use Rattle.vlt_trace_steps.proofs.Leading.{err_is}
use Rattle.vlt_trace_steps.proofs.Filling.{filled_more, filling_halts, split_gives, first_removed}
use Rattle.vlt_trace_steps.proofs.values.+fill_all.Goals as goal

pub returns-in_err-fill-in-Some : goal.returns-in_err-fill-in-Some
returns-in_err-fill-in-Some t c = λ u.
    let f = func_in c.args.at.now in
    let fr = frame_view c.args.frame.now in
    let next = frame_view c.fill.new.frame in
    let a = c.remove-a.result in
    let rest = c.remove-a.new.self in
    let vs : c.args.vs.now ≡ c.in-Some.v.now ∷ c.in-Some.rest.now = first_of (search rules, grind (arith, common_steps)) in
    split_gives f (vars_of c.args.vs.now) (vars_of (c.in-Some.v.now ∷ c.in-Some.rest.now)) (map value_view c.args.values) (map value_view (a ∷ rest)) fr next u c.from_residual.result
    (ap vars_of vs) (ap (map value_view) (first_removed c.args.values a rest c.remove-a.ensures.item c.remove-a.ensures.rest))
    (filling_halts f c.in-Some.v.now.0 (vars_of c.in-Some.rest.now) (value_view a) (map value_view rest) fr next u c.fill.result c.in_err-fill-in-Some.field-0.0 c.from_residual.result
    (err_is c.from_residual.result _ c.from_residual.ensures.1) c.in_err-fill-in-Some.was (c.fill.ensures u))

pub returns : goal.returns
returns t c = λ u.
    let f = func_in c.args.at.now in
    let fr = frame_view c.args.frame.now in
    let mid = frame_view c.fill.new.frame in
    let next = frame_view c.fill_all.new.frame in
    let a = c.remove-a.result in
    let rest = c.remove-a.new.self in
    let v = c.in-Some.v.now.0 in
    let vs : c.args.vs.now ≡ c.in-Some.v.now ∷ c.in-Some.rest.now = first_of (search rules, grind (arith, common_steps)) in
    split_gives f (vars_of c.args.vs.now) (vars_of (c.in-Some.v.now ∷ c.in-Some.rest.now)) (map value_view c.args.values) (map value_view (a ∷ rest)) fr next u c.fill_all.result
    (ap vars_of vs) (ap (map value_view) (first_removed c.args.values a rest c.remove-a.ensures.item c.remove-a.ensures.rest))
    (filled_more f v (vars_of c.in-Some.rest.now) (value_view a) (map value_view rest) fr mid next u c.fill_all.result
    (subst (λ z. Goes (fill f v (value_view a) fr u) z mid u) c.in_ok-fill-in-Some.was (c.fill.ensures u)) (c.fill_all.ensures u))
