-- No row of a body that breaks no rule names a set of states that the code doesn't have.
use Rattle.std.proofs.Common.{◌≡◌, ⊎_elim, ℕ, not, Bool, false, List, [], ◌++◌, Option, Some, IfSome, slice_get}
use Rattle.vlt_core.specs.Core as core
use Rattle.vlt_core.specs.Core.{Tok, Entry, Func, Program}
use Rattle.vlt_core.specs.Lookups.{is_owning_var}
use Rattle.vlt_core.specs.Instances.{clause_of_instance, instance}
use Rattle.vlt_core.specs.Kinded.{IsKinded}
use Rattle.vlt_core.specs.Bodies.{flow_of, flow_of_block, flow_of_stmts, flow_of_arms}
use Rattle.vlt_core.specs.KindedHeads.{unless}
use Rattle.vlt_core.specs.KindedScopes.{Ids, Around, at_block_start, left_behind}
use Rattle.vlt_core.specs.KindedOperands.{value_broken}
use Rattle.vlt_core.specs.KindedCalls.{return_broken}
use Rattle.vlt_core.specs.KindedBodies.{in_loop, in_focus, with_focus, with_vars, ends, ids_following, ids_following_block, list_broken, row_broken, form_rows, block_rows, stmts_rows, arms_rows}
use Rattle.vlt_core.specs.declared.rules.TheConstants as rule
use Rattle.vlt_core_laws.proofs.Unbroken.{left_empty, right_empty, each_left, each_right}
use Rattle.vlt_core_laws.specs.Unbroken.{EachEmpty}
use Rattle.vlt_sound.specs.Sizes.{HasSizes}
use Rattle.vlt_rows.specs.Unfit.{HasWide, HasPart, HasPartBlock, HasPartStmts, HasPartArms, NoArms}
use Rattle.cert_fit_laws.proofs.Masked.{IsMasked, IsMaskedBlock, AreMasked, AreMaskedArms}
use Rattle.cert_fit_laws.proofs.NarrowNumbers.{Bounds}
use Rattle.cert_check_laws.proofs.Sets.{IsSaid, HasSaid}
use Rattle.cert_check_laws.proofs.KnownRows.{none_wide, value_known, simple_known, call_known, return_known, arm_known, enter_known, leave_known, switch_known}

module _ (p : Program) (g : ℕ) (f : Func) (there : slice_get p.fns g ≡ Some f) (b : Bounds p f) (sets : HasSaid p) (kinded : IsKinded p) (sizes : HasSizes p) (o : Option ℕ)
    (each : (i : ℕ) (e : Entry) → slice_get (clause_of_instance p f o f.clause) i ≡ Some e → IfSome e.after IsSaid) where
  mutual
    form_known : (s : core.Form) (around : Around) (ids : Ids) (left : List Tok) → IsMasked s → row_broken p f around ids s ≡ [] → EachEmpty (form_rows p f around ids s) → HasPart HasWide NoArms (flow_of p (instance p f o) left s) → ⊥
    form_known (core.simple s) around ids left m e rows w = none_wide _ (simple_known p g f there b sets kinded sizes ids s m e) w
    form_known (core.call c target keys args) around ids left m e rows w = none_wide _ (call_known p g f there b sets kinded sizes ids c target keys args left m e) w
    form_known (core.choose x u v) around ids left m e rows w =
        let following = ids_following_block p f u ids in
        ⊎_elim (none_wide _ (value_known p g f there b sets kinded sizes ids (Some core.bool) x (left_empty (value_broken p f ids (Some core.bool) x) (list_broken p f [] ids u) (left_empty _ (list_broken p f [] following v) e))))
        (λ more. ⊎_elim (block_known u around ids left m.0 (each_left (block_rows p f around ids u) (block_rows p f around following v) rows))
        (block_known v around following left m.1 (each_right (block_rows p f around ids u) (block_rows p f around following v) rows)) more) w
    form_known (core.loop x u) around ids left m e rows w =
        ⊎_elim (none_wide _ (value_known p g f there b sets kinded sizes ids (Some core.bool) x (left_empty (value_broken p f ids (Some core.bool) x) (list_broken p f [] ids u) e)))
        (block_known u (in_loop around) ids [] m rows) w
    form_known (core.switch v arms end) around ids left m e rows w =
        ⊎_elim (none_wide _ (switch_known p g f there b sets kinded sizes (is_owning_var f v) v)) (λ more. ⊎_elim (λ none. none) (arms_known arms v around ids left m rows) more) w
    form_known (core.focus y z u) around ids left m e rows w =
        ⊎_elim (none_wide _ (enter_known p g f there b sets kinded sizes y z left u))
        (λ more. ⊎_elim (block_known u in_focus (with_focus f z ids) left m rows) (none_wide _ (leave_known p g f there b sets kinded sizes y z)) more) w
    form_known (core.scope u) around ids left m e rows w = block_known u around ids left m rows w
    form_known (core.return value) around ids left m e rows w =
        none_wide _ (return_known p g f there b sets kinded sizes o each ids value m (right_empty (unless around.returns rule.WRONG_JUMP) (return_broken p f ids f.result value) e)) w
    form_known (core.jump continues) around ids left m e rows w = w

    block_known : (u : core.Block) (around : Around) (ids : Ids) (left : List Tok) → IsMaskedBlock u → EachEmpty (block_rows p f around ids u) → HasPartBlock HasWide NoArms (flow_of_block p (instance p f o) left u) → ⊥
    block_known (core.block ss bound end) around ids left m rows w = stmts_known ss around (at_block_start ids) false (left ++ bound) m rows w

    pub stmts_known : (ss : core.Stmts) (around : Around) (ids : Ids) (ended : Bool) (left : List Tok) → AreMasked ss → EachEmpty (stmts_rows p f around ids ended ss) → HasPartStmts HasWide NoArms (flow_of_stmts p (instance p f o) left ss) → ⊥
    stmts_known core.done around ids ended left m rows w = w
    stmts_known (core.next at s rest) around ids ended left m rows w =
        let following = ids_following p f s ids in
        ⊎_elim
        (form_known s around ids left m.0 (right_empty (unless (not ended) rule.AFTER_END) (row_broken p f around ids s) rows.0) (each_left (form_rows p f around ids s) (stmts_rows p f around following (ends s) rest) rows.1))
        (stmts_known rest around following (ends s) left m.1 (each_right (form_rows p f around ids s) (stmts_rows p f around following (ends s) rest) rows.1)) w

    arms_known : (arms : core.Arms) (v : ℕ) (around : Around) (ids : Ids) (left : List Tok) → AreMaskedArms arms → EachEmpty (arms_rows p f around ids arms) → HasPartArms HasWide NoArms (flow_of_arms p (instance p f o) left v arms) → ⊥
    arms_known core.no_arms v around ids left m rows w = w
    arms_known (core.arm c vs u rest) v around ids left m rows w =
        let inside = with_vars f vs ids in
        let following = left_behind ids (ids_following_block p f u inside) in
        ⊎_elim (none_wide _ (arm_known p g f there b sets kinded sizes v c vs))
        (λ more. ⊎_elim (block_known u around inside left m.0 (each_left (block_rows p f around inside u) (arms_rows p f around following rest) rows))
        (arms_known rest v around following left m.1 (each_right (block_rows p f around inside u) (arms_rows p f around following rest) rows)) more) w
