-- The flow of statements and of arms, one after another.
use Rattle.std.proofs.Common.{◌≡◌, ◌<◌, ◌≤◌, ◌+◌, ◌⊎◌, inl, inr, ℕ, zero, Bool, true, false, if◌then◌else◌, filter, List, [], ◌∷◌, ◌++◌, map, length, drop, drop-cons, add-one, get_or, suc, refl, sym, ap, ◌∙◌, subst, arith}
use Rattle.std.proofs.lemmas.List.{drop_all, append-nil, append_assoc}
use Rattle.vlt_core.specs.Core.{Tok, a_key, a_var, Func, Program}
use Rattle.std.specs.List.{range_with_len}
use Rattle.std.proofs.lemmas.List.FromFn.{map-range_with_len_more, filter_of_map_range_with_len_more}
use Rattle.vlt_core.specs.HeldView.{toks_of}
use Rattle.vlt_core.specs.declared.held.Tok.{Tok as CodeTok}
use Rattle.vlt_core.specs.Flow as s
use Rattle.vlt_core.specs.Bodies.{flow_of, flow_of_block, flow_of_stmts, flow_of_arms}
use Rattle.vlt_core.specs.Rows.{arm_rows}
use Rattle.vlt_core.specs.View as view
use Rattle.vlt_core.specs.declared.program.Stmt.{Stmt}
use Rattle.vlt_core.specs.declared.program.Arm.{Arm, out-Arm}
use Rattle.vlt_core.specs.declared.program.Block.{Block, out-Block}
use Rattle.vlt_core.proofs.Views.{block_parts as core_block_parts, stmt_parts as core_stmt_parts, arm_parts as core_arm_parts}
use Rattle.vlt_rows.specs.declared.tree.FlowStmt.{FlowStmt}
use Rattle.vlt_rows.specs.declared.tree.FlowArm.{FlowArm}
use Rattle.vlt_rows.specs.declared.tree.Flow.TheViews.{roll-FlowArm}
use Rattle.vlt_rows.specs.declared.tree.Flow.TheFolds.{fold-roll-FlowArm}
use Rattle.vlt_rows.specs.declared.tree.FlowBlock.{FlowBlock}
use Rattle.vlt_core.specs.declared.held.Row.{Row}
use Rattle.vlt_core.specs.Maps as maps
use Rattle.vlt_rows.specs.FlowView.{StmtView, ArmView, rows_view, flow_view, block_view, stmt_view, stmts_view, arm_view, arms_view, stmts_made, arms_made, flow_step, arm_step, block_step, stmt_step}
use Rattle.vlt_rows.specs.Unfit.{HasWide, HasPart, HasPartStmts, HasPartArms, HasWideRow, NoArms}
use Rattle.vlt_rows.proofs.Views.{stmt_parts}

pub record Mapped {X Y Z : Type 0} (f : X → Z) (g : Y → Z) (xs : List X) (i : ℕ) (ys : List Y) : Type 0 where
  pub all : map g ys ++ map f (drop i xs) ≡ map f xs

split_at : {X : Type 0} (xs : List X) (i : ℕ) (x : X) → i < length xs → x ≡ get_or xs i x → drop i xs ≡ x ∷ drop (i + 1) xs
split_at xs i x lt read = rw add-one (drop-cons xs i x lt ∙ ap (λ y. y ∷ drop (suc i) xs) (sym read))

map_last : {Y Z : Type 0} (g : Y → Z) (ys : List Y) (y : Y) → map g (ys ++ y ∷ []) ≡ map g ys ++ g y ∷ []
map_last g [] y = refl
map_last g (x ∷ ys) y = ap (λ l. g x ∷ l) (map_last g ys y)

pub mapped_more : {X Y Z : Type 0} (f : X → Z) (g : Y → Z) (xs : List X) (i : ℕ) (ys : List Y) (x : X) (y : Y) → i < length xs → x ≡ get_or xs i x → g y ≡ f x → Mapped f g xs i ys → Mapped f g xs (i + 1) (ys ++ y ∷ [])
mapped_more f g xs i ys x y lt read same m = record {
  all =
      ap (λ l. l ++ map f (drop (i + 1) xs)) (map_last g ys y ∙ ap (λ z. map g ys ++ z ∷ []) same) ∙
      append_assoc (map g ys) (f x ∷ []) (map f (drop (i + 1) xs)) ∙
      ap (λ l. map g ys ++ map f l) (sym (split_at xs i x lt read)) ∙ m.all;
}

pub mapped_ends : {X Y Z : Type 0} (f : X → Z) (g : Y → Z) (xs : List X) (i : ℕ) (ys : List Y) → length xs ≤ i → Mapped f g xs i ys → map g ys ≡ map f xs
mapped_ends f g xs i ys past m =
    sym (append-nil (map g ys)) ∙ ap (λ l. map g ys ++ map f l) (sym (drop_all i xs past)) ∙ m.all

module _ (p : Program) (f : Func) (left : List Tok) where
  abbrev pub stmt_flow : Stmt → StmtView
  stmt_flow x = ((view.stmt_of x).0, flow_of p f left (view.stmt_of x).1)

  abbrev pub Building : List Stmt → ℕ → List FlowStmt → Type 0
  Building xs i ys = Mapped stmt_flow stmt_view xs i ys

  stmts_flow : (xs : List Stmt) → stmts_made (map stmt_flow xs) ≡ flow_of_stmts p f left (view.stmts_of xs)
  stmts_flow [] = refl
  stmts_flow (x ∷ xs) = ap (s.next (view.stmt_of x).0 (flow_of p f left (view.stmt_of x).1)) (stmts_flow xs)

  pub building_more : (xs : List Stmt) (i : ℕ) (ys : List FlowStmt) (x : Stmt) (y : FlowStmt) → i < length xs → x ≡ get_or xs i x → y.at ≡ x.at → flow_view y.flow ≡ flow_of p f left (view.form_of x.form) → Building xs i ys → Building xs (i + 1) (ys ++ y ∷ [])
  building_more xs i ys x y lt read at flow m = mapped_more stmt_flow stmt_view xs i ys x y lt read same m
    where
      same : stmt_view y ≡ stmt_flow x
      same =
          stmt_parts y ∙ ap (λ a. (a, flow_view y.flow)) at ∙ ap (λ s. (x.at, s)) flow ∙
          ap (λ z. (z.0, flow_of p f left z.1)) (sym (core_stmt_parts x))

  -- a wide row of one statement is one of the statements'
  pub wide_stmt : (xs : List Stmt) (i : ℕ) (x : Stmt) → i < length xs → x ≡ get_or xs i x → HasPart HasWide NoArms (flow_of p f left (view.form_of x.form)) → HasPartStmts HasWide NoArms (flow_of_stmts p f left (view.stmts_of xs))
  wide_stmt [] i x lt read h = absurd (omega arith)
  wide_stmt (y ∷ xs) zero x lt read h = inl (subst (λ z. HasPart HasWide NoArms (flow_of p f left z.1)) (sym (core_stmt_parts y)) (subst (λ z. HasPart HasWide NoArms (flow_of p f left (view.form_of z.form))) read h))
  wide_stmt (y ∷ xs) (suc i) x lt read h = inr (wide_stmt xs i x (omega arith) read h)

  -- a wide row of a block's statements is one of the block's
  pub wide_block : (b : Block) → HasPartStmts HasWide NoArms (flow_of_stmts p f (left ++ toks_of (out-Block b).bound) (view.stmts_of (out-Block b).stmts)) → HasWideRow (flow_of_block p f left (view.block_of b))
  wide_block b h = subst (λ x. HasWideRow (flow_of_block p f left x)) (sym (core_block_parts b)) h

  pub building_ends : (xs : List Stmt) (i : ℕ) (ys : List FlowStmt) → length xs ≤ i → Building xs i ys → stmts_view ys ≡ flow_of_stmts p f left (view.stmts_of xs)
  building_ends xs i ys past m = ap stmts_made (mapped_ends stmt_flow stmt_view xs i ys past m) ∙ stmts_flow xs

  module _ (v : ℕ) where
    abbrev pub arm_flow : Arm → ArmView
    arm_flow x = (arm_rows p f v (view.arm_of x).0 (view.arm_of x).1, flow_of_block p f left (view.arm_of x).2)

    abbrev pub BuildingArms : List Arm → ℕ → List FlowArm → Type 0
    BuildingArms xs i ys = Mapped arm_flow arm_view xs i ys

    arms_flow : (xs : List Arm) → arms_made (map arm_flow xs) ≡ flow_of_arms p f left v (view.arms_of xs)
    arms_flow [] = refl
    arms_flow (x ∷ xs) = ap (s.arm (arm_rows p f v (view.arm_of x).0 (view.arm_of x).1) (flow_of_block p f left (view.arm_of x).2)) (arms_flow xs)

    pub arms_more : (xs : List Arm) (i : ℕ) (ys : List FlowArm) (x : Arm) (y : FlowArm) → i < length xs → x ≡ get_or xs i x → arm_view y ≡ (arm_rows p f v (out-Arm x).case (view.vars_of (out-Arm x).vars), flow_of_block p f left (view.block_of (out-Arm x).body)) → BuildingArms xs i ys → BuildingArms xs (i + 1) (ys ++ y ∷ [])
    arms_more xs i ys x y lt read same m = mapped_more arm_flow arm_view xs i ys x y lt read (same ∙ ap (λ z. (arm_rows p f v z.0 z.1, flow_of_block p f left z.2)) (sym (core_arm_parts x))) m

    -- the view of an arm that is made of these parts
    pub arm_made : (rs : List Row) (b : FlowBlock) (rows : List maps.Row) (body : s.Block) → rows_view rs ≡ rows → block_view b ≡ body → arm_view (roll-FlowArm (record { rows = rs; body = b })) ≡ (rows, body)
    arm_made rs b rows body e g =
        fold-roll-FlowArm s.Flow ArmView s.Block StmtView flow_step arm_step block_step stmt_step (record { rows = rs; body = b }) ∙ ap (λ r. (r, block_view b)) e ∙ ap (λ x. (rows, x)) g

    pub wide_arm : (xs : List Arm) (i : ℕ) (x : Arm) → i < length xs → x ≡ get_or xs i x → HasWide (arm_rows p f v (out-Arm x).case (view.vars_of (out-Arm x).vars)) ⊎ HasWideRow (flow_of_block p f left (view.block_of (out-Arm x).body)) → HasPartArms HasWide NoArms (flow_of_arms p f left v (view.arms_of xs))
    wide_arm [] i x lt read h = absurd (omega arith)
    wide_arm (y ∷ xs) zero x lt read h = first (arm_of_first (subst (λ z. HasWide (arm_rows p f v (out-Arm z).case (view.vars_of (out-Arm z).vars)) ⊎ HasWideRow (flow_of_block p f left (view.block_of (out-Arm z).body))) read h))
      where
        arm_of_first : HasWide (arm_rows p f v (out-Arm y).case (view.vars_of (out-Arm y).vars)) ⊎ HasWideRow (flow_of_block p f left (view.block_of (out-Arm y).body)) → HasWide (arm_rows p f v (view.arm_of y).0 (view.arm_of y).1) ⊎ HasWideRow (flow_of_block p f left (view.arm_of y).2)
        arm_of_first h = subst (λ z. HasWide (arm_rows p f v z.0 z.1) ⊎ HasWideRow (flow_of_block p f left z.2)) (sym (core_arm_parts y)) h

        first : HasWide (arm_rows p f v (view.arm_of y).0 (view.arm_of y).1) ⊎ HasWideRow (flow_of_block p f left (view.arm_of y).2) → HasPartArms HasWide NoArms (flow_of_arms p f left v (view.arms_of (y ∷ xs)))
        first (inl h) = inl h
        first (inr h) = inr (inl h)
    wide_arm (y ∷ xs) (suc i) x lt read h = inr (inr (wide_arm xs i x (omega arith) read h))

    pub arms_end : (xs : List Arm) (i : ℕ) (ys : List FlowArm) → length xs ≤ i → BuildingArms xs i ys → arms_view ys ≡ flow_of_arms p f left v (view.arms_of xs)
    arms_end xs i ys past m = ap arms_made (mapped_ends arm_flow arm_view xs i ys past m) ∙ arms_flow xs

-- ---- the tokens of a function

pub toks_last : (ts : List CodeTok) (t : CodeTok) → toks_of (ts ++ t ∷ []) ≡ toks_of ts ++ view.tok_of t ∷ []
toks_last ts t = map_last view.tok_of ts t

pub keys_more : (k : ℕ) → map a_key (range_with_len 0 (k + 1)) ≡ map a_key (range_with_len 0 k) ++ a_key k ∷ []
keys_more k = map-range_with_len_more a_key 0 k k (omega arith)

same_map : (xs : List ℕ) → map (λ x. x) xs ≡ xs
same_map [] = refl
same_map (x ∷ xs) = ap (λ l. x ∷ l) (same_map xs)

pub vars_more : (test : ℕ → Bool) (v : ℕ) → map a_var (filter test (range_with_len 0 (v + 1))) ≡ map a_var (filter test (range_with_len 0 v)) ++ (if test v then a_var v ∷ [] else [])
vars_more test v =
    ap (λ l. map a_var (filter test l)) (sym (same_map (range_with_len 0 (v + 1)))) ∙
    ap (map a_var) (filter_of_map_range_with_len_more test (λ x. x) 0 v v (omega arith)) ∙
    one (test v) (filter test (map (λ x. x) (range_with_len 0 v))) ∙
    ap (λ l. map a_var (filter test l) ++ (if test v then a_var v ∷ [] else [])) (same_map (range_with_len 0 v))
  where
    one : (b : Bool) (l : List ℕ) → map a_var (l ++ (if b then v ∷ [] else [])) ≡ map a_var l ++ (if b then a_var v ∷ [] else [])
    one true l = map_last a_var l v
    one false l = ap (map a_var) (append-nil l) ∙ sym (append-nil (map a_var l))

pub more_vars : (ks : List Tok) (test : ℕ → Bool) (v : ℕ) (old new : List CodeTok) (b : Bool) → b ≡ test v → toks_of old ≡ ks ++ map a_var (filter test (range_with_len 0 v)) → toks_of new ≡ toks_of old ++ (if b then a_var v ∷ [] else []) → toks_of new ≡ ks ++ map a_var (filter test (range_with_len 0 (v + 1)))
more_vars ks test v old new b is before put =
    put ∙ ap (λ c. toks_of old ++ (if c then a_var v ∷ [] else [])) is ∙ ap (λ l. l ++ (if test v then a_var v ∷ [] else [])) before ∙
    append_assoc ks (map a_var (filter test (range_with_len 0 v))) (if test v then a_var v ∷ [] else []) ∙
    ap (λ l. ks ++ l) (sym (vars_more test v))
