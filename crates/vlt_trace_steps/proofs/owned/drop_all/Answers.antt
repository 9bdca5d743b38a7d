use Rattle.std.proofs.Common.{◌+◌, ◌<◌, ◌∷◌, [], drop, length, get_or, ◌∙◌, arith}
use Rattle.std.proofs.lemmas.List.{at_drop_more, at_drop_all}
use Rattle.vlt_core.specs.View.{program_of}
use Rattle.vlt_meaning.specs.World.{World}
use Rattle.vlt_meaning.specs.Step.{Step, with_dropped}
use Rattle.vlt_trace_worlds.specs.View.{world_view}
use Rattle.vlt_trace_steps.proofs.Leading.{err_is, same_hands, hands_ok, hands_err_on}
use Rattle.vlt_trace_steps.proofs.Dropping.{drop_more, drop_none}
use Rattle.vlt_trace_steps.proofs.owned.drop_all.Goals as goal

pub loop-n-preserved : goal.loop-n-preserved
loop-n-preserved c = λ go.
    let p = program_of c.args.p.now in
    let ns = c.args.ns.now in
    let i = c.loop-n.n-index in
    let lt : i < length ns = omega arith in
    let w = world_view c.loop-n.world in
    let v = world_view c.drop_object.new.world in
    let n = get_or ns i 0 in
    let rest = drop (i + 1) ns in
    let on : World → Step = λ w. with_dropped p rest w go in
    c.loop-n.invariant go
    ∙ (at_drop_more (λ l. with_dropped p l w go) ns i 0 lt
    ∙ (drop_more p n rest w go
    ∙ hands_ok (with_dropped p (n ∷ []) w on) c.drop_object.result c.in_ok-drop_object.field-0 (λ u. on v) v c.in_ok-drop_object.was (c.drop_object.ensures on)))

pub returns-in_err-drop_object : goal.returns-in_err-drop_object
returns-in_err-drop_object c = λ go.
    let p = program_of c.args.p.now in
    let ns = c.args.ns.now in
    let i = c.loop-n.n-index in
    let lt : i < length ns = omega arith in
    let w = world_view c.loop-n.world in
    let v = world_view c.drop_object.new.world in
    let n = get_or ns i 0 in
    let rest = drop (i + 1) ns in
    let on : World → Step = λ w. with_dropped p rest w go in
    same_hands _ _ c.from_residual.result _ v
    (c.loop-n.invariant go ∙ (at_drop_more (λ l. with_dropped p l w go) ns i 0 lt ∙ drop_more p n rest w go))
    (hands_err_on (with_dropped p (n ∷ []) w on) c.drop_object.result c.in_err-drop_object.field-0.0 (λ u. on v) v c.from_residual.result _
    (err_is c.from_residual.result _ c.from_residual.ensures.1) c.in_err-drop_object.was (c.drop_object.ensures on))

pub returns : goal.returns
returns c = λ go.
    let p = program_of c.args.p.now in
    let w = world_view c.loop-n.world in
    c.loop-n.invariant go ∙ (at_drop_all (λ l. with_dropped p l w go) c.args.ns.now c.loop-n.n-index (omega arith) ∙ drop_none p w go)
