-- One path through lists, arms and loops of the code.
use Rattle.std.proofs.Common.{◌≡◌, ◌∙◌, ◌<◌, ◌≤◌, ◌+◌, ℕ, zero, suc, Bool, List, [], ◌∷◌, length, drop, drop-cons, add-one, get_or, slice_get, Option, Some, None, refl, sym, ap, subst, arith}
use Rattle.std.proofs.lemmas.List.{drop_all}
use Rattle.vlt_core.specs.Core.{Tok, Func, Program}
use Rattle.vlt_core.specs.Maps.{Row}
use Rattle.vlt_core.specs.Flow as s
use Rattle.vlt_core.specs.Bodies.{flow_of, flow_of_block, flow_of_stmts, flow_of_arms}
use Rattle.vlt_core.specs.Found.{One, Exit, to_next, to_break, to_continue}
use Rattle.vlt_core.specs.Faults.{spots_block}
use Rattle.vlt_core.specs.Rows.{arm_rows}
use Rattle.vlt_core.specs.Witness.{Choice, ThroughArm, MetArm, NoJoin}
use Rattle.vlt_core.specs.View.{tok_of, form_of, arm_of, stmts_of, arms_of}
use Rattle.vlt_core.proofs.Views.{stmt_parts}
use Rattle.vlt_core.specs.declared.program.Stmt.{Stmt}
use Rattle.vlt_core.specs.declared.program.Arm.{Arm}
use Rattle.vlt_paths.specs.declared.along.Out.{Out}
use Rattle.vlt_paths.specs.declared.along.Out.TheVariants as out
use Rattle.vlt_paths.specs.declared.along.Went.{Went}
use Rattle.vlt_paths.specs.declared.point.Point.{Point}
use Rattle.vlt_paths.specs.declared.point.Hunt.{Hunt}
use Rattle.vlt_paths.specs.Along.{State, Sought, Goes, GoesForm, GoesArm, Passes, GoesBlock, state_of, sought_of, exit_of, IsBound, AlongForm, AlongStmts, AlongTurn, TurnWay, TurnSight}
use Rattle.vlt_paths.proofs.Going.{none_some, go_done, go_next, list_left, loop_more, arm_here, arm_after}

split_at : {X : Type 0} (xs : List X) (i : ℕ) (x : X) → i < length xs → x ≡ get_or xs i x → drop i xs ≡ x ∷ drop (i + 1) xs
split_at xs i x lt read = rw add-one (drop-cons xs i x lt ∙ ap (λ y. y ∷ drop (suc i) xs) (sym read))

pub not_next : (o : Out) → (o ≡ out.Next → ⊥) → exit_of o ≡ Some to_next → ⊥
not_next out.Next f e = f refl
not_next out.Break f e = other_exit e
  where
    other_exit : Some to_break ≡ Some to_next → ⊥
    other_exit e = grind arith
not_next out.Continue f e = other_exit e
  where
    other_exit : Some to_continue ≡ Some to_next → ⊥
    other_exit e = grind arith
not_next out.Nowhere f e = none_some to_next e

module _ (p : Program) (f : Func) where
  stmts_first : (ts : List Tok) (x : Stmt) (rest : List Stmt) → flow_of_stmts p f ts (stmts_of (x ∷ rest)) ≡ s.next x.at (flow_of p f ts (form_of x.form)) (flow_of_stmts p f ts (stmts_of rest))
  stmts_first ts x rest = ap (λ y. s.next y.0 (flow_of p f ts y.1) (flow_of_stmts p f ts (stmts_of rest))) (stmt_parts x)

  pub stmts_at : (ts : List Tok) (xs : List Stmt) (i : ℕ) (x : Stmt) → i < length xs → x ≡ get_or xs i x → flow_of_stmts p f ts (stmts_of (drop i xs)) ≡ s.next x.at (flow_of p f ts (form_of x.form)) (flow_of_stmts p f ts (stmts_of (drop (i + 1) xs)))
  stmts_at ts xs i x lt read = ap (λ l. flow_of_stmts p f ts (stmts_of l)) (split_at xs i x lt read) ∙ stmts_first ts x (drop (i + 1) xs)

  pub stmts_past : (ts : List Tok) (xs : List Stmt) (i : ℕ) → length xs ≤ i → flow_of_stmts p f ts (stmts_of (drop i xs)) ≡ s.done
  stmts_past ts xs i past = ap (λ l. flow_of_stmts p f ts (stmts_of l)) (drop_all i xs past)

  module _ (h : Hunt) where
    -- what goes along the statements from i on goes along all
    pub record Listing (left : Bool) (xs : List Stmt) (i : ℕ) (start cur : Point) : Type 0 where
      pub all : (ts : List Tok) → IsBound h ts left → (w : Went) → AlongStmts h (flow_of_stmts p f ts (stmts_of (drop i xs))) cur w → AlongStmts h (flow_of_stmts p f ts (stmts_of xs)) start w

    module _ (left : Bool) (xs : List Stmt) (start : Point) where
      pub listing_first : Listing left xs 0 start start
      listing_first = record { all = λ ts l w a. a }

      pub listing_more : (i : ℕ) (cur : Point) (x : Stmt) (w : Went) → i < length xs → x ≡ get_or xs i x → Listing left xs i start cur → ((ts : List Tok) → IsBound h ts left → AlongForm h (flow_of p f ts (form_of x.form)) x.at cur w) → w.out ≡ out.Next → Listing left xs (i + 1) start w.point
      listing_more i cur x w lt read g a e = record {
        all = λ ts l z b. g.all ts l z (subst (λ ss. AlongStmts h ss cur z) (sym (stmts_at ts xs i x lt read))
            (go_next (sought_of h) (tok_of h.tok) x.at (flow_of p f ts (form_of x.form)) (flow_of_stmts p f ts (stmts_of (drop (i + 1) xs))) (state_of cur) (state_of w.point) (state_of z.point) (exit_of z.out)
            (subst (λ r. GoesForm (sought_of h) (tok_of h.tok) (flow_of p f ts (form_of x.form)) x.at (state_of cur) (state_of w.point) r) (ap exit_of e) (a ts l)) b));
      }

      pub listing_left : (i : ℕ) (cur : Point) (x : Stmt) (w : Went) → i < length xs → x ≡ get_or xs i x → Listing left xs i start cur → ((ts : List Tok) → IsBound h ts left → AlongForm h (flow_of p f ts (form_of x.form)) x.at cur w) → (w.out ≡ out.Next → ⊥) → (ts : List Tok) → IsBound h ts left → AlongStmts h (flow_of_stmts p f ts (stmts_of xs)) start w
      listing_left i cur x w lt read g a other ts l =
          g.all ts l w (subst (λ ss. AlongStmts h ss cur w) (sym (stmts_at ts xs i x lt read))
          (list_left (sought_of h) (tok_of h.tok) x.at (flow_of p f ts (form_of x.form)) (flow_of_stmts p f ts (stmts_of (drop (i + 1) xs))) (state_of cur) (state_of w.point) (exit_of w.out) (not_next w.out other) (a ts l)))

      pub listing_ends : (i : ℕ) (cur : Point) → length xs ≤ i → Listing left xs i start cur → (ts : List Tok) → IsBound h ts left → AlongStmts h (flow_of_stmts p f ts (stmts_of xs)) start (record { out = out.Next; point = cur })
      listing_ends i cur past g ts l =
          g.all ts l (record { out = out.Next; point = cur }) (subst (λ ss. AlongStmts h ss cur (record { out = out.Next; point = cur })) (sym (stmts_past ts xs i past)) (go_done (sought_of h) (tok_of h.tok) (state_of cur)))

    -- what goes along the loop from one head goes along it from the first
    pub record Looping (rs : List Row) (b : s.Block) (at : ℕ) (start cur : Point) : Type 0 where
      pub all : (w : Went) → AlongForm h (s.loop rs b) at cur w → AlongForm h (s.loop rs b) at start w

    pub looping_first : (rs : List Row) (b : s.Block) (at : ℕ) (start : Point) → Looping rs b at start start
    looping_first rs b at start = record { all = λ w a. a }

    pub looping_more : (rs : List Row) (b : s.Block) (at : ℕ) (start cur : Point) (w : Went) → Looping rs b at start cur → AlongTurn h rs b at cur w → w.out ≡ out.Continue → Looping rs b at start w.point
    looping_more rs b at start cur w g a e = record {
      all = λ z l. g.all z (loop_more (sought_of h) (tok_of h.tok) at rs b (state_of cur) (state_of w.point) (state_of z.point) (exit_of z.out)
          (λ k. subst (λ r. Goes (TurnWay (tok_of h.tok) rs b at) (TurnSight (sought_of h) (tok_of h.tok) rs b at k) (state_of cur) (state_of w.point) r) (ap exit_of e) (a k)) l);
    }

  -- ---- arms

  module _ (P : Sought) (t : Tok) (at : ℕ) (ts : List Tok) (v : ℕ) where
    pub arm_found : (xs : List Arm) (i : ℕ) (x : Arm) (a w u : State) (r : Option Exit) → slice_get xs i ≡ Some x → Passes P t at (arm_rows p f v (arm_of x).0 (arm_of x).1) a w → GoesBlock P t (flow_of_block p f ts (arm_of x).2) w u r → GoesArm P t at i (flow_of_arms p f ts v (arms_of xs)) a u r
    arm_found [] i x a w u r e q g = absurd (none_there e)
      where
        none_there : None ≡ Some x → ⊥
        none_there e = grind arith
    arm_found (y ∷ xs) zero x a w u r e q g = subst (λ z. GoesArm P t at zero (flow_of_arms p f ts v (arms_of (z ∷ xs))) a u r) (sym (same_some e)) (arm_here P t at (arm_rows p f v (arm_of x).0 (arm_of x).1) (flow_of_block p f ts (arm_of x).2) (flow_of_arms p f ts v (arms_of xs)) a w u r q g)
      where
        same_some : Some y ≡ Some x → y ≡ x
        same_some e = grind arith
    arm_found (y ∷ xs) (suc i) x a w u r e q g =
        arm_after P t at i (arm_rows p f v (arm_of y).0 (arm_of y).1) (flow_of_block p f ts (arm_of y).2) (flow_of_arms p f ts v (arms_of xs)) a u r (arm_found xs i x a w u r e q g)

    pub no_arm : (xs : List Arm) (i : ℕ) → slice_get xs i ≡ None → (o : One) (l : List Choice) (x : Exit) (q : One) (ds : List Choice) → ThroughArm t i (flow_of_arms p f ts v (arms_of xs)) o l x q ds → ⊥
    no_arm [] i e o l x q ds h = h
    no_arm (y ∷ xs) zero e o l x q ds h = some_there e
      where
        some_there : Some y ≡ None → ⊥
        some_there e = grind arith
    no_arm (y ∷ xs) (suc i) e o l x q ds h = no_arm xs i e o l x q ds h

    pub no_arm_met : (xs : List Arm) (i k : ℕ) → slice_get xs i ≡ None → (o : One) (l : List Choice) → MetArm P NoJoin t at k i (flow_of_arms p f ts v (arms_of xs)) o l → ⊥
    no_arm_met [] i k e o l h = h
    no_arm_met (y ∷ xs) zero k e o l h = some_there e
      where
        some_there : Some y ≡ None → ⊥
        some_there e = grind arith
    no_arm_met (y ∷ xs) (suc i) k e o l h = no_arm_met xs i (k + length (arm_rows p f v (arm_of y).0 (arm_of y).1) + spots_block (flow_of_block p f ts (arm_of y).2)) e o l h
