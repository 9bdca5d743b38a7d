-- Extents of statements and of arms, one after another.
use Rattle.std.proofs.Common.{◌≡◌, ◌≤◌, ◌+◌, ℕ, List, ◌∷◌, length, drop, refl, subst, arith}
use Rattle.std.proofs.lemmas.List.{drop_all, length-map}
use Rattle.vlt_core.specs.Flow.{Stmts, done, next, Arms, no_arms, arm, size, size_block, size_stmts, size_arms}
use Rattle.vlt_core.specs.Faults.{spots, spots_block, spots_stmts, spots_arms}
use Rattle.vlt_core.specs.HeldView.{row_of}
use Rattle.vlt_rows.specs.declared.tree.FlowStmt.{FlowStmt}
use Rattle.vlt_rows.specs.declared.tree.FlowArm.{FlowArm, out-FlowArm}
use Rattle.vlt_rows.specs.FlowView.{flow_view, block_view, arms_view, stmts_view, rows_view}
use Rattle.vlt_faults.specs.declared.judge.extent.Extent.{Extent}
use Rattle.vlt_faults.specs.Judge.Extents.{Avoids, AvoidsRows, AvoidsBlock, AvoidsStmts, AvoidsArms, IsExtent, IsBoth}
use Rattle.vlt_faults.proofs.OfJudge.Sums.{Counting, counting_more, counting_ends}
use Rattle.vlt_faults.proofs.OfJudge.Turns.{stmts_split, arms_split}

abbrev pub CountingStmts : Stmts → Stmts → Extent → Type 0
CountingStmts all rest e = Counting (size_stmts all) (spots_stmts all) (λ t. AvoidsStmts t all) (size_stmts rest) (spots_stmts rest) (λ t. AvoidsStmts t rest) e

pub stmts_more : (stmts : List FlowStmt) (i : ℕ) (s : FlowStmt) (e a e' : Extent) → drop i stmts ≡ s ∷ drop (i + 1) stmts → CountingStmts (stmts_view stmts) (stmts_view (drop i stmts)) e → IsExtent (size (flow_view s.flow)) (spots (flow_view s.flow)) (λ t. Avoids t (flow_view s.flow)) a → IsBoth e a e' → CountingStmts (stmts_view stmts) (stmts_view (drop (i + 1) stmts)) e'
stmts_more stmts i s e a e' split c own z =
    let rest = stmts_view (drop (i + 1) stmts) in
    let now = subst (λ ss. CountingStmts (stmts_view stmts) ss e) (stmts_split stmts i s split) c in
    counting_more _ _ _ _ (size_stmts rest) (spots_stmts rest) (size (flow_view s.flow)) (spots (flow_view s.flow)) _ (λ t. AvoidsStmts t (next s.at (flow_view s.flow) rest)) (λ t. Avoids t (flow_view s.flow)) (λ t. AvoidsStmts t rest) e a e' now own z refl refl (λ t p q. (p, q)) (λ t p. p)

pub stmts_end : (stmts : List FlowStmt) (i : ℕ) (e : Extent) → length stmts ≤ i → CountingStmts (stmts_view stmts) (stmts_view (drop i stmts)) e → IsExtent (size_stmts (stmts_view stmts)) (spots_stmts (stmts_view stmts)) (λ t. AvoidsStmts t (stmts_view stmts)) e
stmts_end stmts i e past c =
    let now = subst (λ ss. CountingStmts (stmts_view stmts) (stmts_view ss) e) (drop_all i stmts past) c in
    counting_ends _ _ 0 0 _ (λ t. AvoidsStmts t done) e now refl refl (λ t. tt)

abbrev pub CountingArms : Arms → Arms → Extent → Type 0
CountingArms all rest e = Counting (size_arms all) (spots_arms all) (λ t. AvoidsArms t all) (size_arms rest) (spots_arms rest) (λ t. AvoidsArms t rest) e

pub arms_more : (arms : List FlowArm) (i : ℕ) (x : FlowArm) (e a e' : Extent) → drop i arms ≡ x ∷ drop (i + 1) arms → CountingArms (arms_view arms) (arms_view (drop i arms)) e →
    IsExtent (0 + size_block (block_view (out-FlowArm x).body)) (length (out-FlowArm x).rows + spots_block (block_view (out-FlowArm x).body)) (λ t. AvoidsRows t (rows_view (out-FlowArm x).rows) × AvoidsBlock t (block_view (out-FlowArm x).body)) a → IsBoth e a e' → CountingArms (arms_view arms) (arms_view (drop (i + 1) arms)) e'
arms_more arms i x e a e' split c own z =
    let rest = arms_view (drop (i + 1) arms) in
    let now = subst (λ ss. CountingArms (arms_view arms) ss e) (arms_split arms i x split) c in
    let same = length-map (out-FlowArm x).rows row_of in
    counting_more _ _ _ _ (size_arms rest) (spots_arms rest) _ _ _ (λ t. AvoidsArms t (arm (rows_view (out-FlowArm x).rows) (block_view (out-FlowArm x).body) rest)) (λ t. AvoidsRows t (rows_view (out-FlowArm x).rows) × AvoidsBlock t (block_view (out-FlowArm x).body)) (λ t. AvoidsArms t rest) e a e' now own z (omega arith) (omega (arith, same)) (λ t p q. (p, q)) (λ t p. p)

pub arms_end : (arms : List FlowArm) (i : ℕ) (e : Extent) → length arms ≤ i → CountingArms (arms_view arms) (arms_view (drop i arms)) e → IsExtent (size_arms (arms_view arms)) (spots_arms (arms_view arms)) (λ t. AvoidsArms t (arms_view arms)) e
arms_end arms i e past c =
    let now = subst (λ ss. CountingArms (arms_view arms) (arms_view ss) e) (drop_all i arms past) c in
    counting_ends _ _ 0 0 _ (λ t. AvoidsArms t no_arms) e now refl refl (λ t. tt)
