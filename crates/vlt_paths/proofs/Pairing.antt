-- Two paths of the code, side by side.
use Rattle.std.proofs.Common.{◌≡◌, ◌∙◌, ◌↔◌, ◌<◌, ◌≤◌, ◌+◌, ◌||◌, ◌++◌, ℕ, zero, suc, Bool, true, false, IsTrue, List, [], ◌∷◌, length, drop, get_or, slice_get, Option, Some, None, refl, sym, ap, subst, arith}
use Rattle.vlt_core.specs.Core.{Tok, Func, Program}
use Rattle.vlt_core.specs.Core as core
use Rattle.std.specs.List.{list_any}
use Rattle.vlt_core.specs.Maps.{Row, is_tok}
use Rattle.vlt_core.specs.Flow as s
use Rattle.vlt_core.specs.Bodies.{flow_of, flow_of_block, flow_of_stmts, flow_of_arms}
use Rattle.vlt_core.specs.Found.{One, to_next, to_continue}
use Rattle.vlt_core.specs.Faults.{Spot, head_spot, join_spot, spots, spots_block, spots_arms}
use Rattle.vlt_core.specs.Rows.{rows_of, arm_rows, in_order}
use Rattle.vlt_core.specs.Witness.{Choice, choice, then_arm, else_arm, turn, case_arm, IsJoin, NoRow, NoJoin, Through, Met, MetArm}
use Rattle.vlt_core.specs.View.{tok_of, form_of, block_of, stmts_of, arms_of, arm_of, vars_of}
use Rattle.vlt_core.specs.HeldView.{toks_of}
use Rattle.vlt_core.specs.declared.program.Stmt.{Stmt}
use Rattle.vlt_core.specs.declared.program.Arm.{Arm, out-Arm}
use Rattle.vlt_core.specs.declared.program.Block.{Block, out-Block}
use Rattle.vlt_core.specs.declared.held.Tok.{Tok as CodeTok}
use Rattle.vlt_base.specs.declared.ids.VarId.{VarId}
use Rattle.vlt_core.proofs.Views.{block_parts, arm_parts}
use Rattle.vlt_paths.specs.declared.along.Out.{Out}
use Rattle.vlt_paths.specs.declared.along.Out.TheVariants as out
use Rattle.vlt_paths.specs.declared.along.Went.{Went}
use Rattle.vlt_paths.specs.declared.pair.Pair.{Pair}
use Rattle.vlt_paths.specs.declared.point.Point.{Point}
use Rattle.vlt_paths.specs.declared.point.Hunt.{Hunt}
use Rattle.vlt_paths.specs.Along.{Goes, TurnWay, TurnSight, state_of, sought_of, exit_of, IsBound, IsPast, AlongForm, AlongTurn}
use Rattle.vlt_paths.specs.Legs.{Led, Past, Takes, Onward, Around, IsNext}
use Rattle.vlt_paths.specs.Legs as legs
use Rattle.vlt_paths.specs.Pairs.{has_blocks, AreLed, AreAt, Two, two_of, Sight, Either, Then, AtJoin, AtTurn, InLoop, InArm, InArms, InBlock, Meet, MeetForm, MeetBlock, MeetStmts, MeetAfter, MeetSwitch, MeetTurn, MeetTurns, MeetLoop}
use Rattle.vlt_paths.proofs.Walking.{not_next, stmts_at, stmts_past}
use Rattle.vlt_paths.proofs.Choosing.{not_continue, bound_more}
use Rattle.vlt_paths.proofs.Leading.{led_nowhere, led_past, led_out, not_out}
use Rattle.vlt_paths.proofs.Meeting.{IsSame, IsBlind, meet_led, meet_join, second_here, second_more, second_last, first_here, first_more, first_last}
use Rattle.vlt_paths.proofs.Joining.{InChoice, meet_step, meet_return, meet_jump, meet_here, meet_next, meet_done, meet_block, meet_scope, meet_focus, meet_then, meet_else, choose_inside, choose_after, meet_arm, no_arm_chosen, no_arm_there, first_arm, switch_inside, switch_after, meet_turn_head, meet_turn_body, loop_turns, loop_inside, loop_after}

-- ---- after a statement

module _ (h : Hunt) (at : ℕ) (x : s.Flow) (v : Point) (w : Went) (z : Point) (g : AlongForm h x at v w) (n : IsNext w z) where
  abbrev Met0 : One → List Choice → Type 0
  Met0 = Met (sought_of h) NoJoin (tok_of h.tok) at 0 x

  led_next : w.out ≡ out.Next → Led (Onward (tok_of h.tok) at x) (state_of v) (state_of z)
  led_next e = subst (λ q. Led (Onward (tok_of h.tok) at x) (state_of v) (state_of q)) (sym (n.next e))
      (led_out (Through (tok_of h.tok) at x) Met0 (state_of v) (state_of w.point) to_next (subst (λ r. Goes (Through (tok_of h.tok) at x) Met0 (state_of v) (state_of w.point) r) (ap exit_of e) (g 0)))

  led_lost : (w.out ≡ out.Next → ⊥) → Led (Onward (tok_of h.tok) at x) (state_of v) (state_of z)
  led_lost f = led_nowhere (Onward (tok_of h.tok) at x) (state_of v) (state_of z) (n.nowhere f)
      (not_out (Through (tok_of h.tok) at x) Met0 (state_of v) (state_of w.point) to_next (exit_of w.out) (not_next w.out f) (g 0))

  pub led_on : Led (Onward (tok_of h.tok) at x) (state_of v) (state_of z)
  led_on = by w.out refl
    where
      by : (o : Out) → w.out ≡ o → Led (Onward (tok_of h.tok) at x) (state_of v) (state_of z)
      by out.Next e = led_next e
      by out.Break e = led_lost (λ n. other (sym e ∙ n))
        where
          other : out.Break ≡ out.Next → ⊥
          other e = grind arith
      by out.Continue e = led_lost (λ n. other (sym e ∙ n))
        where
          other : out.Continue ≡ out.Next → ⊥
          other e = grind arith
      by out.Nowhere e = led_lost (λ n. other (sym e ∙ n))
        where
          other : out.Nowhere ≡ out.Next → ⊥
          other e = grind arith

pub both_past : (h : Hunt) (at : ℕ) (rs : List Row) (x : Pair) (a b : Point) → IsPast h at rs x.first a → IsPast h at rs x.second b → AreLed (Past (tok_of h.tok) rs) (two_of x) (two_of (record { place = x.place; first = a; second = b }))
both_past h at rs x a b p q = record {
  place = refl;
  first = led_past (sought_of h) (tok_of h.tok) at rs (state_of x.first) (state_of a) p;
  second = led_past (sought_of h) (tok_of h.tok) at rs (state_of x.second) (state_of b) q;
}

-- ---- statements, one after another

module _ (p : Program) (f : Func) (h : Hunt) where
  -- what both meet in the statements from i on they meet in all
  pub record Following (left : Bool) (xs : List Stmt) (i : ℕ) (start cur : Pair) : Type 0 where
    pub all : (ts : List Tok) → IsBound h ts left → (b : Bool) → MeetStmts h (flow_of_stmts p f ts (stmts_of (drop i xs))) cur b → MeetStmts h (flow_of_stmts p f ts (stmts_of xs)) start b

  module _ (left : Bool) (xs : List Stmt) (start : Pair) where
    pub following_first : Following left xs 0 start start
    following_first = record { all = λ ts l b m. m }

    pub following_more : (i : ℕ) (cur to : Pair) (x : Stmt) (r : Bool) → i < length xs → x ≡ get_or xs i x → Following left xs i start cur → ((ts : List Tok) → IsBound h ts left → MeetForm h (flow_of p f ts (form_of x.form)) x.at cur r) → r ≡ false → ((ts : List Tok) → IsBound h ts left → AreLed (Onward (tok_of h.tok) x.at (flow_of p f ts (form_of x.form))) (two_of cur) (two_of to)) → Following left xs (i + 1) start to
    following_more i cur to x r lt read g m none led = record {
      all = λ ts l b n. g.all ts l b (subst (λ ss. MeetStmts h ss cur b) (sym (stmts_at p f ts xs i x lt read))
          (λ k. meet_next (tok_of h.tok) x.at k (flow_of p f ts (form_of x.form)) (flow_of_stmts p f ts (stmts_of (drop (i + 1) xs))) (two_of cur) (two_of to) b (subst (λ r. MeetForm h (flow_of p f ts (form_of x.form)) x.at cur r) none (m ts l) k) (led ts l) (n (k + spots (flow_of p f ts (form_of x.form))))));
    }

    pub following_here : (i : ℕ) (cur : Pair) (x : Stmt) (r : Bool) → i < length xs → x ≡ get_or xs i x → Following left xs i start cur → ((ts : List Tok) → IsBound h ts left → MeetForm h (flow_of p f ts (form_of x.form)) x.at cur r) → r ≡ true → (ts : List Tok) → IsBound h ts left → MeetStmts h (flow_of_stmts p f ts (stmts_of xs)) start true
    following_here i cur x r lt read g m some ts l = g.all ts l true (subst (λ ss. MeetStmts h ss cur true) (sym (stmts_at p f ts xs i x lt read))
        (λ k. meet_here (tok_of h.tok) x.at k (flow_of p f ts (form_of x.form)) (flow_of_stmts p f ts (stmts_of (drop (i + 1) xs))) (two_of cur) (subst (λ r. MeetForm h (flow_of p f ts (form_of x.form)) x.at cur r) some (m ts l) k)))

    pub following_ends : (i : ℕ) (cur : Pair) → length xs ≤ i → Following left xs i start cur → (ts : List Tok) → IsBound h ts left → MeetStmts h (flow_of_stmts p f ts (stmts_of xs)) start false
    following_ends i cur past g ts l = g.all ts l false (subst (λ ss. MeetStmts h ss cur false) (sym (stmts_past p f ts xs i past)) (λ k. meet_done (tok_of h.tok) k (two_of cur)))

-- ---- turns of a loop

module _ (h : Hunt) (at : ℕ) (rs : List Row) (b : s.Block) where
  led_around : (v : Point) (w : Went) → AlongTurn h rs b at v w → w.out ≡ out.Continue → Led (Around (tok_of h.tok) rs b at) (state_of v) (state_of w.point)
  led_around v w g e = led_out (TurnWay (tok_of h.tok) rs b at) (TurnSight (sought_of h) (tok_of h.tok) rs b at 0) (state_of v) (state_of w.point) to_continue
      (subst (λ r. Goes (TurnWay (tok_of h.tok) rs b at) (TurnSight (sought_of h) (tok_of h.tok) rs b at 0) (state_of v) (state_of w.point) r) (ap exit_of e) (g 0))

  not_around : (v : Point) (w : Went) → AlongTurn h rs b at v w → (w.out ≡ out.Continue → ⊥) → (o q : One) (ds : List Choice) → (state_of v).brings o → Around (tok_of h.tok) rs b at o (state_of v).left q ds → ⊥
  not_around v w g f = not_out (TurnWay (tok_of h.tok) rs b at) (TurnSight (sought_of h) (tok_of h.tok) rs b at 0) (state_of v) (state_of w.point) to_continue (exit_of w.out) (not_continue w.out f) (g 0)

  abbrev Leg : legs.Leg
  Leg = Around (tok_of h.tok) rs b at

  abbrev Turn : ℕ → Sight
  Turn k = AtTurn (tok_of h.tok) at k rs b

  abbrev Loop : ℕ → Sight
  Loop k = InLoop (tok_of h.tok) at k rs b

  turns : (k : ℕ) → IsSame (Loop k) (Either (Turn k) (Then Leg (Loop k)))
  turns k = loop_turns (tok_of h.tok) at k rs b (sought_of h)

  -- what both meet from these heads on they meet from the first
  pub record Turning (start cur : Pair) : Type 0 where
    pub all : (r : Bool) → MeetTurns h at rs b cur r → MeetTurns h at rs b start r

  pub record BothTurning (start cur : Pair) : Type 0 where
    pub all : (r : Bool) → MeetLoop h at rs b cur r → MeetLoop h at rs b start r

  module _ (start : Pair) where
    pub turning_first : Turning start start
    turning_first = record { all = λ r m. m }

    pub both_turning_first : BothTurning start start
    both_turning_first = record { all = λ r m. m }

    module _ (cur : Pair) where
      pub turning_here : (r : Bool) → Turning start cur → MeetTurn h at rs b cur r → r ≡ true → MeetTurns h at rs b start true
      turning_here r g n e = let m = subst (λ r. MeetTurn h at rs b cur r) e n in g.all true (λ k. second_here (Turn k) (Loop k) Leg (turns k) (Turn k) (two_of cur) (m k))

      pub turning_last : (r : Bool) (w : Went) → Turning start cur → MeetTurn h at rs b cur r → r ≡ false → AlongTurn h rs b at cur.second w → (w.out ≡ out.Continue → ⊥) → MeetTurns h at rs b start false
      turning_last r w g n e a f = let m = subst (λ r. MeetTurn h at rs b cur r) e n in g.all false (λ k. second_last (Turn k) (Loop k) Leg (turns k) (Turn k) (two_of cur) (not_around cur.second w a f) (m k))

      pub turning_more : (r : Bool) (w : Went) → Turning start cur → MeetTurn h at rs b cur r → r ≡ false → AlongTurn h rs b at cur.second w → w.out ≡ out.Continue → Turning start (record { place = cur.place; first = cur.first; second = w.point })
      turning_more q w g m none a e = record {
        all = λ r n. g.all r (λ k. second_more (Turn k) (Loop k) Leg (turns k) (Turn k) (two_of cur) (state_of w.point) r (subst (λ r. MeetTurn h at rs b cur r) none m k) (led_around cur.second w a e) (n k));
      }

      pub both_turning_here : (r : Bool) → BothTurning start cur → MeetTurns h at rs b cur r → r ≡ true → MeetLoop h at rs b start true
      both_turning_here r g n e = let m = subst (λ r. MeetTurns h at rs b cur r) e n in g.all true (λ k. first_here (Turn k) (Loop k) Leg (turns k) (Loop k) (two_of cur) (m k))

      pub both_turning_last : (r : Bool) (w : Went) → BothTurning start cur → MeetTurns h at rs b cur r → r ≡ false → AlongTurn h rs b at cur.first w → (w.out ≡ out.Continue → ⊥) → MeetLoop h at rs b start false
      both_turning_last r w g n e a f = let m = subst (λ r. MeetTurns h at rs b cur r) e n in g.all false (λ k. first_last (Turn k) (Loop k) Leg (turns k) (Loop k) (two_of cur) (not_around cur.first w a f) (m k))

      pub both_turning_more : (r : Bool) (w : Went) → BothTurning start cur → MeetTurns h at rs b cur r → r ≡ false → AlongTurn h rs b at cur.first w → w.out ≡ out.Continue → BothTurning start (record { place = cur.place; first = w.point; second = cur.second })
      both_turning_more q w g m none a e = record {
        all = λ r n. g.all r (λ k. first_more (Turn k) (Loop k) Leg (turns k) (Loop k) (two_of cur) (state_of w.point) r (subst (λ r. MeetTurns h at rs b cur r) none m k) (led_around cur.first w a e) (n k));
      }

-- ---- statements

some_blocks : true ≡ false → ⊥
some_blocks e = grind arith

module _ (h : Hunt) (at : ℕ) where
  pub meets_none : (p : Program) (f : Func) (ts : List Tok) (form : core.Form) (x : Pair) → has_blocks form ≡ false → MeetForm h (flow_of p f ts form) at x false
  meets_none p f ts (core.simple i) x e k = meet_step (tok_of h.tok) at k (rows_of p f ts (core.simple i)) (two_of x)
  meets_none p f ts (core.call g target keys args) x e k = meet_step (tok_of h.tok) at k (rows_of p f ts (core.call g target keys args)) (two_of x)
  meets_none p f ts (core.choose c a b) x e k = absurd (some_blocks e)
  meets_none p f ts (core.loop c b) x e k = absurd (some_blocks e)
  meets_none p f ts (core.switch v arms end) x e k = absurd (some_blocks e)
  meets_none p f ts (core.focus y z b) x e k = absurd (some_blocks e)
  meets_none p f ts (core.scope b) x e k = absurd (some_blocks e)
  meets_none p f ts (core.return value) x e k = meet_return (tok_of h.tok) at k (rows_of p f ts (core.return value)) (two_of x)
  meets_none p f ts (core.jump continues) x e k = meet_jump (tok_of h.tok) at k continues (in_order f ts) (two_of x)

  pub meets_scope : (b : s.Block) (x : Pair) (r : Bool) → MeetBlock h b x r → MeetForm h (s.scope b) at x r
  meets_scope b x r m k = meet_scope (tok_of h.tok) at k b (two_of x) r (m k)

  pub meets_focus : (rs : List Row) (b : s.Block) (es : List Row) (x y : Pair) (r : Bool) → AreLed (Past (tok_of h.tok) rs) (two_of x) (two_of y) → MeetBlock h b y r → MeetForm h (s.focus rs b es) at x r
  meets_focus rs b es x y r l m k = meet_focus (tok_of h.tok) at k rs b es (two_of x) (two_of y) r l (m (k + length rs))

  -- inside a statement, or after it
  module _ (rs : List Row) (a b : s.Block) (x m y z : Pair) (r q : Bool) (past : AreLed (Past (tok_of h.tok) rs) (two_of x) (two_of m)) (then : AreLed (Takes (choice at then_arm)) (two_of m) (two_of y)) (first : MeetBlock h a y r) where
    pub meets_then : r ≡ true → MeetForm h (s.choose rs a b) at x true
    meets_then e =
        (λ k. choose_inside (tok_of h.tok) at k rs a b (two_of x) (two_of m) past (meet_then (tok_of h.tok) (k + length rs) at a b (two_of m) (two_of y) then (subst (λ r. MeetBlock h a y r) e first (k + length rs))))

    module _ (none : r ≡ false) (other : AreLed (Takes (choice at else_arm)) (two_of m) (two_of z)) (second : MeetBlock h b z q) where
      either : (k : ℕ) → Meet (InChoice (tok_of h.tok) at k a b) (two_of m) q
      either k = meet_else (tok_of h.tok) k at a b (two_of m) (two_of y) (two_of z) q then (subst (λ r. MeetBlock h a y r) none first k) other (second (k + spots_block a))

      pub meets_else : q ≡ true → MeetForm h (s.choose rs a b) at x q
      meets_else e = subst (λ q. MeetForm h (s.choose rs a b) at x q) (sym e)
          (λ k. choose_inside (tok_of h.tok) at k rs a b (two_of x) (two_of m) past (subst (λ q. Meet (InChoice (tok_of h.tok) at (k + length rs) a b) (two_of m) q) e (either (k + length rs))))

      pub meets_after_choice : (end : ℕ) (u : Bool) → end ≡ s.end_of b → q ≡ false → MeetAfter h (s.choose rs a b) at end x u → MeetForm h (s.choose rs a b) at x u
      meets_after_choice end u is e j k = choose_after (tok_of h.tok) at k rs a b (two_of x) (two_of m) u past (subst (λ q. Meet (InChoice (tok_of h.tok) at (k + length rs) a b) (two_of m) q) e (either (k + length rs)))
          (subst (λ n. MeetAfter h (s.choose rs a b) at n x u) is j (k + length rs + spots_block a + spots_block b))

  pub meets_loop : (rs : List Row) (b : s.Block) (x : Pair) (r : Bool) → MeetLoop h at rs b x r → r ≡ true → MeetForm h (s.loop rs b) at x r
  meets_loop rs b x r m e = subst (λ r. MeetForm h (s.loop rs b) at x r) (sym e) (λ k. loop_inside (tok_of h.tok) at k rs b (two_of x) (subst (λ r. MeetLoop h at rs b x r) e m k))

  pub meets_after_loop : (rs : List Row) (b : s.Block) (end : ℕ) (x : Pair) (r q : Bool) → end ≡ s.end_of b → MeetLoop h at rs b x r → r ≡ false → MeetAfter h (s.loop rs b) at end x q → MeetForm h (s.loop rs b) at x q
  meets_after_loop rs b end x r q is m e j k = loop_after (tok_of h.tok) at k rs b (two_of x) q (subst (λ r. MeetLoop h at rs b x r) e m k)
      (subst (λ n. MeetAfter h (s.loop rs b) at n x q) is j (k + 1 + length rs + spots_block b))

  pub meets_switch : (rs : List Row) (arms : s.Arms) (end : ℕ) (x : Pair) (r : Bool) → MeetSwitch h at rs arms x r → r ≡ true → MeetForm h (s.switch rs arms end) at x r
  meets_switch rs arms end x r m e = subst (λ r. MeetForm h (s.switch rs arms end) at x r) (sym e) (λ k. switch_inside (tok_of h.tok) at k rs arms end (two_of x) (subst (λ r. MeetSwitch h at rs arms x r) e m k))

  pub meets_after_switch : (rs : List Row) (arms : s.Arms) (end : ℕ) (x : Pair) (r q : Bool) → MeetSwitch h at rs arms x r → r ≡ false → MeetAfter h (s.switch rs arms end) at end x q → MeetForm h (s.switch rs arms end) at x q
  meets_after_switch rs arms end x r q m e j k = switch_after (tok_of h.tok) at k rs arms end (two_of x) q (subst (λ r. MeetSwitch h at rs arms x r) e m k) (j (k + length rs + spots_arms arms))

  pub meets_end : (form : s.Flow) (end : ℕ) (x y : Pair) (b : Bool) → AreLed (Onward (tok_of h.tok) at form) (two_of x) (two_of y) → (IsTrue b ↔ AreAt end (two_of y)) → MeetAfter h form at end x b
  meets_end form end x y b l e n = meet_led (Onward (tok_of h.tok) at form) (AtJoin (join_spot end n)) (two_of x) (two_of y) b l (meet_join (join_spot end n) (two_of y) b e)

  -- ---- turns

  pub meets_head : (rs : List Row) (b : s.Block) (x : Pair) (r : Bool) → (IsTrue r ↔ AreAt at (two_of x)) → r ≡ true → MeetTurn h at rs b x r
  meets_head rs b x r e is = subst (λ r. MeetTurn h at rs b x r) (sym is) (λ k. meet_turn_head (tok_of h.tok) at k rs b (two_of x) (meet_join (head_spot at k) (two_of x) true (subst (λ r. IsTrue r ↔ AreAt at (two_of x)) is e)))

  pub meets_body : (rs : List Row) (b : s.Block) (x y z : Pair) (r q : Bool) → (IsTrue r ↔ AreAt at (two_of x)) → r ≡ false → AreLed (Past (tok_of h.tok) rs) (two_of x) (two_of y) → AreLed (Takes (choice at turn)) (two_of y) (two_of z) → MeetBlock h b z q → MeetTurn h at rs b x q
  meets_body rs b x y z r q e is l c m k =
      meet_turn_body (tok_of h.tok) at k rs b (two_of x) (two_of y) (two_of z) q (meet_join (head_spot at k) (two_of x) false (subst (λ r. IsTrue r ↔ AreAt at (two_of x)) is e)) l c (m (k + 1 + length rs))

  -- ---- arms

  module _ (p : Program) (f : Func) (ts : List Tok) (v : ℕ) where
    arm_meets : (xs : List Arm) (i : ℕ) (x : Arm) (k : ℕ) (y z : Two) (b : Bool) → slice_get xs i ≡ Some x → AreLed (Past (tok_of h.tok) (arm_rows p f v (arm_of x).0 (arm_of x).1)) y z → ((k : ℕ) → Meet (InBlock (tok_of h.tok) k (flow_of_block p f ts (arm_of x).2)) z b) → Meet (InArm (tok_of h.tok) at k i (flow_of_arms p f ts v (arms_of xs))) y b
    arm_meets [] i x k y z b e l m = absurd (none_there e)
      where
        none_there : None ≡ Some x → ⊥
        none_there e = grind arith
    arm_meets (a ∷ xs) zero x k y z b e l m = subst (λ c. Meet (InArm (tok_of h.tok) at k zero (flow_of_arms p f ts v (arms_of (c ∷ xs)))) y b) (sym (same_some e))
        (first_arm (tok_of h.tok) at k (arm_rows p f v (arm_of x).0 (arm_of x).1) (flow_of_block p f ts (arm_of x).2) (flow_of_arms p f ts v (arms_of xs)) y z b l (m (k + length (arm_rows p f v (arm_of x).0 (arm_of x).1))))
      where
        same_some : Some a ≡ Some x → a ≡ x
        same_some e = grind arith
    arm_meets (a ∷ xs) (suc i) x k y z b e l m = arm_meets xs i x (k + length (arm_rows p f v (arm_of a).0 (arm_of a).1) + spots_block (flow_of_block p f ts (arm_of a).2)) y z b e l m

    no_arm_meets : (xs : List Arm) (i k : ℕ) → slice_get xs i ≡ None → IsBlind (InArm (tok_of h.tok) at k i (flow_of_arms p f ts v (arms_of xs)))
    no_arm_meets xs i k e = record { blind = λ q is o cs m. none xs i k e q is o cs m }
      where
        none : (xs : List Arm) (i k : ℕ) → slice_get xs i ≡ None → (q : Spot) (is : One → Type 0) (o : One) (cs : List Choice) → MetArm NoRow (IsJoin q is) (tok_of h.tok) at k i (flow_of_arms p f ts v (arms_of xs)) o cs → ⊥
        none [] i k e q is o cs m = m
        none (a ∷ xs) zero k e q is o cs m = some_there e
          where
            some_there : Some a ≡ None → ⊥
            some_there e = grind arith
        none (a ∷ xs) (suc i) k e q is o cs m = none xs i (k + length (arm_rows p f v (arm_of a).0 (arm_of a).1) + spots_block (flow_of_block p f ts (arm_of a).2)) e q is o cs m

    module _ (rs : List Row) (xs : List Arm) (x y : Pair) (l : AreLed (Past (tok_of h.tok) rs) (two_of x) (two_of y)) where
      meets_arms : (b : Bool) → ((k : ℕ) → Meet (InArms (tok_of h.tok) at k (flow_of_arms p f ts v (arms_of xs))) (two_of y) b) → MeetSwitch h at rs (flow_of_arms p f ts v (arms_of xs)) x b
      meets_arms b m k = meet_led (Past (tok_of h.tok) rs) (InArms (tok_of h.tok) at (k + length rs) (flow_of_arms p f ts v (arms_of xs))) (two_of x) (two_of y) b l (m (k + length rs))

      pub meets_no_case : (r : Option ℕ) → r ≡ None → (r ≡ None → (i : ℕ) (cs : List Choice) → (state_of y.first).left ≡ choice at (case_arm i) ∷ cs → ⊥) → MeetSwitch h at rs (flow_of_arms p f ts v (arms_of xs)) x false
      meets_no_case r e other = meets_arms false (λ k. no_arm_chosen (tok_of h.tok) at k (flow_of_arms p f ts v (arms_of xs)) (two_of y) (other e))

      module _ (i : ℕ) (c : (cs : List Choice) × ((state_of y.first).left ≡ choice at (case_arm i) ∷ cs)) where
        pub meets_no_arm : slice_get xs i ≡ None → MeetSwitch h at rs (flow_of_arms p f ts v (arms_of xs)) x false
        meets_no_arm e = meets_arms false (λ k. no_arm_there (tok_of h.tok) at k (flow_of_arms p f ts v (arms_of xs)) i c.0 (two_of y) c.1 (no_arm_meets xs i k e))

        pub meets_taken_arm : (a : Arm) (vs : List VarId) (z w : Pair) (b : Bool) → slice_get xs i ≡ Some a → vs ≡ (out-Arm a).vars → AreLed (Takes (choice at (case_arm i))) (two_of y) (two_of z) → AreLed (Past (tok_of h.tok) (arm_rows p f v (out-Arm a).case (vars_of vs))) (two_of z) (two_of w) → MeetBlock h (flow_of_block p f ts (block_of (out-Arm a).body)) w b → MeetSwitch h at rs (flow_of_arms p f ts v (arms_of xs)) x b
        meets_taken_arm a vs z w b e ev t q m = meets_arms b (λ k. meet_arm (tok_of h.tok) at k (flow_of_arms p f ts v (arms_of xs)) i c.0 (two_of y) (two_of z) b c.1 t
            (arm_meets xs i a k (two_of z) (two_of w) b e
            (subst (λ u. AreLed (Past (tok_of h.tok) (arm_rows p f v u.0 u.1)) (two_of z) (two_of w)) (sym (arm_parts a)) (subst (λ vs. AreLed (Past (tok_of h.tok) (arm_rows p f v (out-Arm a).case (vars_of vs))) (two_of z) (two_of w)) ev q))
            (subst (λ u. (k : ℕ) → Meet (InBlock (tok_of h.tok) k (flow_of_block p f ts u.2)) (two_of w) b) (sym (arm_parts a)) m)))

-- ---- blocks

pub meets_block : (p : Program) (f : Func) (h : Hunt) (ts : List Tok) (left inside : Bool) (b : Block) (x : Pair) (r : Bool) (xs : List Stmt) (bs : List CodeTok) → xs ≡ (out-Block b).stmts → bs ≡ (out-Block b).bound → inside ≡ (left || list_any (is_tok (tok_of h.tok)) (toks_of bs)) → IsBound h ts left → ((us : List Tok) → IsBound h us inside → MeetStmts h (flow_of_stmts p f us (stmts_of xs)) x r) → MeetBlock h (flow_of_block p f ts (block_of b)) x r
meets_block p f h ts left inside b x r xs bs ex eb is l m = subst (λ y. MeetBlock h (flow_of_block p f ts y) x r) (sym (block_parts b))
    (λ k. meet_block (tok_of h.tok) k (flow_of_stmts p f (ts ++ toks_of (out-Block b).bound) (stmts_of (out-Block b).stmts)) (toks_of (out-Block b).bound) (out-Block b).end (two_of x) r (listed k))
  where
    listed : MeetStmts h (flow_of_stmts p f (ts ++ toks_of (out-Block b).bound) (stmts_of (out-Block b).stmts)) x r
    listed = subst (λ xs. MeetStmts h (flow_of_stmts p f (ts ++ toks_of (out-Block b).bound) (stmts_of xs)) x r) ex
        (m (ts ++ toks_of (out-Block b).bound) (bound_more h ts (toks_of (out-Block b).bound) left inside l (subst (λ bs. inside ≡ (left || list_any (is_tok (tok_of h.tok)) (toks_of bs))) eb is)))
