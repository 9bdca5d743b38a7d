use Rattle.std.proofs.Common.{◌+◌, ◌<◌, ℕ, List, ◌∷◌, [], ◌++◌, drop, length, map, sym, ap, ◌∙◌, arith}
use Rattle.vlt_meaning.specs.World.{World}
use Rattle.vlt_meaning.specs.Step.{Step}
use Rattle.vlt_meaning.specs.Operands.{with_case_packed}
use Rattle.vlt_trace_worlds.specs.View.{frame_view, world_view}
use Rattle.vlt_trace_worlds.specs.declared.stops.Halt.TheVariants.{Memory}
use Rattle.vlt_trace_steps.specs.Cases.{case_key_view}
use Rattle.vlt_trace_steps.proofs.Leading.{err_is, no_memory_hands, same_hands, hands_ok, hands_err_on}
use Rattle.vlt_trace_steps.proofs.Loops.{split_at, none_left, push_nil}
use Rattle.vlt_trace_steps.proofs.Packing.{pack_more, pack_none, pushed_go}
use Rattle.vlt_trace_steps.proofs.cases.pack_case.Goals as goal

pub loop-k-init : goal.loop-k-init
loop-k-init c = λ go. ap (λ l. with_case_packed (map case_key_view c.args.keys.now) (frame_view c.args.frame.now) (world_view c.args.world.now) (λ ns w. go (l ++ ns) w)) (sym c.new-ns.ensures)

pub loop-k-preserved : goal.loop-k-preserved
loop-k-preserved c = λ go.
    let ks = c.args.keys.now in
    let i = c.loop-k.k-index in
    let lt : i < length ks = omega arith in
    let fr = frame_view c.args.frame.now in
    let w = world_view c.loop-k.world in
    let v = world_view c.pack_key.new.world in
    let k = case_key_view c.k-item.result in
    let rest = map case_key_view (drop (i + 1) ks) in
    let ns = c.loop-k.ns in
    let on : List ℕ → World → Step = λ one w. with_case_packed rest fr w (λ more w. go (ns ++ (one ++ more)) w) in
    c.loop-k.invariant go
    ∙ (ap (λ l. with_case_packed (map case_key_view l) fr w (λ more w. go (ns ++ more) w)) (split_at ks i c.k-item.result lt c.k-item.is)
    ∙ (pack_more k rest fr w (λ more w. go (ns ++ more) w)
    ∙ (hands_ok (with_case_packed (k ∷ []) fr w on) c.pack_key.result c.in_ok-n.n (λ n. on (n ∷ []) v) v c.in_ok-n.was (c.pack_key.ensures on)
    ∙ ap (with_case_packed rest fr v) (pushed_go ns c.push.new.self c.in_ok-n.n go c.in_ok-push.ensures.ok))))

pub returns-in_err-n : goal.returns-in_err-n
returns-in_err-n c = λ go.
    let ks = c.args.keys.now in
    let i = c.loop-k.k-index in
    let lt : i < length ks = omega arith in
    let fr = frame_view c.args.frame.now in
    let w = world_view c.loop-k.world in
    let v = world_view c.pack_key.new.world in
    let k = case_key_view c.k-item.result in
    let rest = map case_key_view (drop (i + 1) ks) in
    let ns = c.loop-k.ns in
    let on : List ℕ → World → Step = λ one w. with_case_packed rest fr w (λ more w. go (ns ++ (one ++ more)) w) in
    same_hands _ _ c.from_residual.result _ v
    (c.loop-k.invariant go
    ∙ (ap (λ l. with_case_packed (map case_key_view l) fr w (λ more w. go (ns ++ more) w)) (split_at ks i c.k-item.result lt c.k-item.is)
    ∙ pack_more k rest fr w (λ more w. go (ns ++ more) w)))
    (hands_err_on (with_case_packed (k ∷ []) fr w on) c.pack_key.result c.in_err-n.field-0.0 (λ n. on (n ∷ []) v) v c.from_residual.result _
    (err_is c.from_residual.result _ c.from_residual.ensures.1) c.in_err-n.was (c.pack_key.ensures on))

pub returns-in_err-push : goal.returns-in_err-push
returns-in_err-push c = λ go. no_memory_hands _ _ _ _ (err_is c.from_residual-in_err-push.result Memory c.from_residual-in_err-push.ensures.1)

pub returns : goal.returns
returns c = λ go.
    let ks = c.args.keys.now in
    let i = c.loop-k.k-index in
    let fr = frame_view c.args.frame.now in
    let w = world_view c.loop-k.world in
    let ns = c.loop-k.ns in
    c.loop-k.invariant go
    ∙ (ap (λ l. with_case_packed (map case_key_view l) fr w (λ more w. go (ns ++ more) w)) (none_left ks i (omega arith))
    ∙ (pack_none fr w (λ more w. go (ns ++ more) w) ∙ ap (λ l. go l w) (push_nil ns)))
