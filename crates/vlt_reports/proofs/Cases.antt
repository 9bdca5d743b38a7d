-- Statements and arms, one after another, as a tick is looked for in them.
use Rattle.std.proofs.Common.{◌≡◌, ◌∙◌, ◌<◌, ◌≤◌, ◌+◌, ℕ, zero, suc, Option, Some, None, List, [], ◌∷◌, length, drop, drop-cons, add-one, get_or, refl, sym, ap, arith}
use Rattle.std.proofs.lemmas.List.{drop_all}
use Rattle.vlt_core.specs.Core as s
use Rattle.vlt_core.specs.View.{form_of, block_of, stmts_of, arm_of, arms_of}
use Rattle.vlt_core.specs.declared.program.Stmt.{Stmt}
use Rattle.vlt_core.specs.declared.program.Arm.{Arm, out-Arm}
use Rattle.vlt_core.proofs.Views.{stmt_parts, arm_parts}
use Rattle.vlt_reports.specs.Reports.{Tick, first_tick, tick_at, tick_in, tick_in_block, tick_in_stmts, tick_in_arms}

pub split_at : {X : Type 0} (xs : List X) (i : ℕ) (x : X) → i < length xs → x ≡ get_or xs i x → drop i xs ≡ x ∷ drop (i + 1) xs
split_at xs i x lt read = rw add-one (drop-cons xs i x lt ∙ ap (λ y. y ∷ drop (suc i) xs) (sym read))

-- ---- statements

stmts_split : (stmts : List Stmt) (i : ℕ) (x : Stmt) → drop i stmts ≡ x ∷ drop (i + 1) stmts → stmts_of (drop i stmts) ≡ s.next x.at (form_of x.form) (stmts_of (drop (i + 1) stmts))
stmts_split stmts i x e = ap stmts_of e ∙ ap (λ p. s.next p.0 p.1 (stmts_of (drop (i + 1) stmts))) (stmt_parts x)

stmts_step : (at n : ℕ) (stmts : List Stmt) (i : ℕ) (x : Stmt) (r : Option Tick) → drop i stmts ≡ x ∷ drop (i + 1) stmts → r ≡ tick_in at n x.at (form_of x.form) → tick_in_stmts at n (stmts_of (drop i stmts)) ≡ first_tick r (tick_in_stmts at n (stmts_of (drop (i + 1) stmts)))
stmts_step at n stmts i x r split e = ap (tick_in_stmts at n) (stmts_split stmts i x split) ∙ ap (λ r. first_tick r (tick_in_stmts at n (stmts_of (drop (i + 1) stmts)))) (sym e)

pub stmts_more : (at n : ℕ) (stmts : List Stmt) (i : ℕ) (x : Stmt) → drop i stmts ≡ x ∷ drop (i + 1) stmts → None ≡ tick_in at n x.at (form_of x.form) → tick_in_stmts at n (stmts_of stmts) ≡ tick_in_stmts at n (stmts_of (drop i stmts)) → tick_in_stmts at n (stmts_of stmts) ≡ tick_in_stmts at n (stmts_of (drop (i + 1) stmts))
stmts_more at n stmts i x split e so_far = so_far ∙ stmts_step at n stmts i x None split e

pub stmts_found : (at n : ℕ) (stmts : List Stmt) (i : ℕ) (x : Stmt) (t : Tick) → drop i stmts ≡ x ∷ drop (i + 1) stmts → Some t ≡ tick_in at n x.at (form_of x.form) → tick_in_stmts at n (stmts_of stmts) ≡ tick_in_stmts at n (stmts_of (drop i stmts)) → Some t ≡ tick_in_stmts at n (stmts_of stmts)
stmts_found at n stmts i x t split e so_far = sym (so_far ∙ stmts_step at n stmts i x (Some t) split e)

pub stmts_none : (at n : ℕ) (stmts : List Stmt) (i : ℕ) → length stmts ≤ i → tick_in_stmts at n (stmts_of stmts) ≡ tick_in_stmts at n (stmts_of (drop i stmts)) → None ≡ tick_in_stmts at n (stmts_of stmts)
stmts_none at n stmts i past so_far = sym (so_far ∙ ap (λ l. tick_in_stmts at n (stmts_of l)) (drop_all i stmts past))

-- ---- arms

arms_split : (arms : List Arm) (i : ℕ) (x : Arm) → drop i arms ≡ x ∷ drop (i + 1) arms → arms_of (drop i arms) ≡ s.arm (arm_of x).0 (arm_of x).1 (arm_of x).2 (arms_of (drop (i + 1) arms))
arms_split arms i x e = ap arms_of e

arms_step : (at n : ℕ) (arms : List Arm) (i : ℕ) (x : Arm) (r : Option Tick) → drop i arms ≡ x ∷ drop (i + 1) arms → r ≡ tick_in_block at n (block_of (out-Arm x).body) → tick_in_arms at n (arms_of (drop i arms)) ≡ first_tick r (tick_in_arms at n (arms_of (drop (i + 1) arms)))
arms_step at n arms i x r split e =
    let body : (arm_of x).2 ≡ block_of (out-Arm x).body = ap (λ p. p.2) (arm_parts x) in
    ap (tick_in_arms at n) (arms_split arms i x split) ∙ ap (λ b. first_tick (tick_in_block at n b) (tick_in_arms at n (arms_of (drop (i + 1) arms)))) body ∙
    ap (λ r. first_tick r (tick_in_arms at n (arms_of (drop (i + 1) arms)))) (sym e)

pub arms_more : (at n : ℕ) (arms : List Arm) (i : ℕ) (x : Arm) → drop i arms ≡ x ∷ drop (i + 1) arms → None ≡ tick_in_block at n (block_of (out-Arm x).body) → tick_in_arms at n (arms_of arms) ≡ tick_in_arms at n (arms_of (drop i arms)) → tick_in_arms at n (arms_of arms) ≡ tick_in_arms at n (arms_of (drop (i + 1) arms))
arms_more at n arms i x split e so_far = so_far ∙ arms_step at n arms i x None split e

pub arms_found : (at n : ℕ) (arms : List Arm) (i : ℕ) (x : Arm) (t : Tick) → drop i arms ≡ x ∷ drop (i + 1) arms → Some t ≡ tick_in_block at n (block_of (out-Arm x).body) → tick_in_arms at n (arms_of arms) ≡ tick_in_arms at n (arms_of (drop i arms)) → Some t ≡ tick_in_arms at n (arms_of arms)
arms_found at n arms i x t split e so_far = sym (so_far ∙ arms_step at n arms i x (Some t) split e)

pub arms_none : (at n : ℕ) (arms : List Arm) (i : ℕ) → length arms ≤ i → tick_in_arms at n (arms_of arms) ≡ tick_in_arms at n (arms_of (drop i arms)) → None ≡ tick_in_arms at n (arms_of arms)
arms_none at n arms i past so_far = sym (so_far ∙ ap (λ l. tick_in_arms at n (arms_of l)) (drop_all i arms past))

-- ---- one arm

pub arm_there : (v : ℕ) (arms : List Arm) (i : ℕ) (d : Arm) → i < length arms → Some (record { var = v; case = (out-Arm (get_or arms i d)).case }) ≡ tick_at v i (arms_of arms)
arm_there v [] i d lt = absurd (omega (arith, lt))
arm_there v (y ∷ ys) zero d lt = ap (λ c. Some (record { var = v; case = c })) (sym (ap (λ p. p.0) (arm_parts y)))
arm_there v (y ∷ ys) (suc i) d lt = arm_there v ys i d (omega (arith, lt))

pub arm_past : (v : ℕ) (arms : List Arm) (i : ℕ) → length arms ≤ i → None ≡ tick_at v i (arms_of arms)
arm_past v [] i le = refl
arm_past v (y ∷ ys) zero le = absurd (omega (arith, le))
arm_past v (y ∷ ys) (suc i) le = arm_past v ys i (omega (arith, le))
