-- What is too large in a part is too large in the whole.
use Rattle.std.proofs.Common.{◌≡◌, ◌+◌, ◌<◌, ◌≤◌, ◌^◌, ℕ, zero, suc, List, [], ◌∷◌, length, drop, Result, Ok, Err, MatchResult, inl, inr, refl, sym, ap, ◌∙◌, subst, arith}
use Rattle.std.specs.Result.{IsErrAnd}
use Rattle.vlt_core.specs.Core.{Tok}
use Rattle.vlt_core.specs.Maps.{Row}
use Rattle.vlt_core.specs.Flow.{choose, loop, switch, focus, Block, block, Stmts, next, Arms, arm}
use Rattle.vlt_core.specs.Faults.{spots, spots_block, spots_stmts, spots_arms}
use Rattle.vlt_rows.specs.declared.tree.FlowStmt.{FlowStmt}
use Rattle.vlt_rows.specs.declared.tree.FlowArm.{FlowArm}
use Rattle.vlt_rows.specs.FlowView.{flow_view, stmts_view, arm_view, arms_view}
use Rattle.vlt_rows.specs.declared.sink.RowError.{RowError}
use Rattle.vlt_rows.specs.Unfit.{UnfitBy, HasPartStmts, HasPartArms}
use Rattle.vlt_rows.proofs.Fitting.{unfit_in, handed_on}
use Rattle.vlt_rows.proofs.Views.{stmt_parts}
use Rattle.vlt_witness.specs.Unfit.{NoRows, HasManyArms, arm_count}
use Rattle.vlt_witness.specs.Parts.{IsLarge, LargeForm, LargeBlock, LargeStmts, LargeArms}

large_in : {P Q : Type 0} (e e' : ℕ) → e ≤ e' → (P → Q) → IsLarge e P → IsLarge e' Q
large_in e e' less f (inl h) = inl (omega (arith, h, less))
large_in e e' less f (inr h) = inr (f h)

-- a `?` hands on why a part isn't searched
pub passed_on : {T A B : Type 0} (good : T → Type 0) (r : Result T RowError) (d : RowError) → IsErrAnd r (λ x. x ≡ d) → UnfitBy A d → (A → B) → MatchResult r good (UnfitBy B)
passed_on good r d gives u f = handed_on good r d gives f u

-- a call's answer is that of the whole
pub answered : {T A B : Type 0} (P Q : T → Type 0) (r : Result T RowError) → ((x : T) → P x → Q x) → (A → B) → MatchResult r P (UnfitBy A) → MatchResult r Q (UnfitBy B)
answered P Q (Ok x) f g h = f x h
answered P Q (Err e) f g h = unfit_in e g h

-- ---- a choice

module _ (k : ℕ) (rs : List Row) (a b : Block) where
  pub choose_rows : 2 ^ 64 ≤ k + length rs → LargeForm k (choose rs a b)
  choose_rows h = inl (omega (arith, h))

  pub choose_first : LargeBlock (k + length rs) a → LargeForm k (choose rs a b)
  choose_first = large_in (k + length rs + spots_block a) (k + spots (choose rs a b)) (omega arith) (λ h. inr (inl h))

  pub choose_second : LargeBlock (k + length rs + spots_block a) b → LargeForm k (choose rs a b)
  choose_second = large_in (k + length rs + spots_block a + spots_block b) (k + spots (choose rs a b)) (omega arith) (λ h. inr (inr h))

  pub choose_end : 2 ^ 64 ≤ k + length rs + spots_block a + spots_block b + 1 → LargeForm k (choose rs a b)
  choose_end h = inl (omega (arith, h))

-- ---- a loop

module _ (k : ℕ) (rs : List Row) (s : Block) where
  pub turn_rows : 2 ^ 64 ≤ k + 1 + length rs → LargeBlock (k + 1 + length rs) s
  turn_rows h = inl (omega (arith, h))

  pub loop_turn : LargeBlock (k + 1 + length rs) s → LargeForm k (loop rs s)
  loop_turn = large_in (k + 1 + length rs + spots_block s) (k + spots (loop rs s)) (omega arith) (λ h. inr h)

  pub loop_end : 2 ^ 64 ≤ k + 1 + length rs + spots_block s + 1 → LargeForm k (loop rs s)
  loop_end h = inl (omega (arith, h))

-- ---- a switch

module _ (k : ℕ) (rs : List Row) (arms : Arms) (end : ℕ) where
  pub switch_rows : 2 ^ 64 ≤ k + length rs → LargeForm k (switch rs arms end)
  switch_rows h = inl (omega (arith, h))

  pub switch_arms : LargeArms (k + length rs) arms → LargeForm k (switch rs arms end)
  switch_arms = large_in (k + length rs + spots_arms arms) (k + spots (switch rs arms end)) (omega arith) (λ h. inr h)

  pub switch_end : 2 ^ 64 ≤ k + length rs + spots_arms arms + 1 → LargeForm k (switch rs arms end)
  switch_end h = inl (omega (arith, h))

pub arm_rows : (k : ℕ) (rs : List Row) (s : Block) → 2 ^ 64 ≤ k + length rs → LargeBlock (k + length rs) s
arm_rows k rs s h = inl (omega (arith, h))

-- ---- a focus and a block

module _ (k : ℕ) (rs : List Row) (s : Block) (es : List Row) where
  pub focus_rows : 2 ^ 64 ≤ k + length rs → LargeForm k (focus rs s es)
  focus_rows h = inl (omega (arith, h))

  pub focus_body : LargeBlock (k + length rs) s → LargeForm k (focus rs s es)
  focus_body = large_in (k + length rs + spots_block s) (k + spots (focus rs s es)) (omega arith) (λ h. inr (inl h))

  pub focus_end : 2 ^ 64 ≤ k + length rs + spots_block s + length es → LargeForm k (focus rs s es)
  focus_end h = inl (omega (arith, h))

module _ (k : ℕ) (ss : Stmts) (bound : List Tok) (end : ℕ) where
  pub block_stmts : LargeStmts k ss → LargeBlock k (block ss bound end)
  block_stmts = large_in (k + spots_stmts ss) (k + spots_block (block ss bound end)) (omega arith) (λ h. h)

  pub block_end : 2 ^ 64 ≤ k + spots_stmts ss + length bound → LargeBlock k (block ss bound end)
  block_end h = inl (omega (arith, h))

-- ---- statements and arms, one after another

rest_stmts : (i : ℕ) (stmts : List FlowStmt) → HasPartStmts NoRows HasManyArms (stmts_view (drop i stmts)) → HasPartStmts NoRows HasManyArms (stmts_view stmts)
rest_stmts zero stmts h = h
rest_stmts (suc i) [] h = h
rest_stmts (suc i) (x ∷ stmts) h = inr (rest_stmts i stmts h)

pub large_stmt : (stmts : List FlowStmt) (i k n : ℕ) (x : FlowStmt) → drop i stmts ≡ x ∷ drop (i + 1) stmts → n + spots_stmts (stmts_view (drop i stmts)) ≡ k + spots_stmts (stmts_view stmts) → LargeForm n (flow_view x.flow) → LargeStmts k (stmts_view stmts)
large_stmt stmts i k n x e number =
    let split : stmts_view (drop i stmts) ≡ next x.at (flow_view x.flow) (stmts_view (drop (i + 1) stmts)) = ap stmts_view e ∙ ap (λ p. next p.0 p.1 (stmts_view (drop (i + 1) stmts))) (stmt_parts x) in
    let one = ap spots_stmts split in
    large_in (n + spots (flow_view x.flow)) (k + spots_stmts (stmts_view stmts)) (omega (arith, number, one))
    (λ h. rest_stmts i stmts (subst (HasPartStmts NoRows HasManyArms) (sym split) (inl h)))

rest_arms : (i : ℕ) (arms : List FlowArm) → HasPartArms NoRows HasManyArms (arms_view (drop i arms)) → HasPartArms NoRows HasManyArms (arms_view arms)
rest_arms zero arms h = h
rest_arms (suc i) [] h = h
rest_arms (suc i) (x ∷ arms) h = inr (inr (rest_arms i arms h))

pub large_arm : (arms : List FlowArm) (i k n : ℕ) (x : FlowArm) → drop i arms ≡ x ∷ drop (i + 1) arms → n + spots_arms (arms_view (drop i arms)) ≡ k + spots_arms (arms_view arms) → LargeBlock (n + length (arm_view x).0) (arm_view x).1 → LargeArms k (arms_view arms)
large_arm arms i k n x e number =
    let split : arms_view (drop i arms) ≡ arm (arm_view x).0 (arm_view x).1 (arms_view (drop (i + 1) arms)) = ap arms_view e in
    let one = ap spots_arms split in
    large_in (n + length (arm_view x).0 + spots_block (arm_view x).1) (k + spots_arms (arms_view arms)) (omega (arith, number, one))
    (λ h. inr (rest_arms i arms (subst (HasPartArms NoRows HasManyArms) (sym split) (inr (inl h)))))

counted : (arms : List FlowArm) → arm_count (arms_view arms) ≡ length arms
counted [] = refl
counted (x ∷ arms) = let e = counted arms in omega (arith, e)

pub many_arms : (arms : List FlowArm) (i k : ℕ) → i < length arms → 2 ^ 8 ≤ i → LargeArms k (arms_view arms)
many_arms arms i k lt many = let e = counted arms in inr (inl (omega (arith, e, lt, many)))
