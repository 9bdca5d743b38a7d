-- A part of each kind, from the steps of its search.
use Rattle.std.proofs.Common.{◌≡◌, ◌∙◌, ◌+◌, ℕ, Bool, List, [], length, map, Result, Ok, Err, MatchResult, refl, sym, subst, inl, inr, arith}
use Rattle.std.proofs.lemmas.List.{length-map}
use Rattle.vlt_core.specs.Core.{Tok}
use Rattle.vlt_core.specs.Maps.{Row, away_row}
use Rattle.vlt_core.specs.Flow.{step, choose, loop, switch, scope, focus, jump, Block, block, Stmts, Arms, end_of}
use Rattle.vlt_core.specs.Faults.{join_spot, spots_block}
use Rattle.vlt_core.specs.Witness.{choice, then_arm, else_arm, case_arm, turn, exit}
use Rattle.vlt_rows.specs.declared.sink.RowError.{RowError}
use Rattle.vlt_rows.specs.declared.sink.RowError.TheVariants.{Memory}
use Rattle.vlt_rows.proofs.Fitting.{unfit_in}
use Rattle.vlt_witness.specs.declared.aim.Aim.{Aim}
use Rattle.vlt_witness.specs.declared.seen.Seen.{Seen}
use Rattle.vlt_witness.specs.declared.ways.Way.{Way}
use Rattle.vlt_witness.specs.declared.search.Jumps.{Jumps}
use Rattle.vlt_witness.specs.declared.search.Went.{Went}
use Rattle.vlt_witness.specs.declared.search.Turned.{Turned}
use Rattle.vlt_witness.specs.declared.search.Begun.{Begun}
use Rattle.vlt_witness.specs.Ways.{nothing_found, On, OnSeen}
use Rattle.vlt_witness.specs.Search.{Spreads, Joined, Walks, Sees, By, CanBy, Passes, Takes, IsClosed, IsSearched}
use Rattle.vlt_witness.specs.Aims.{aim_tok, JoinHere, RowsHere}
use Rattle.vlt_witness.specs.Parts.{SearchedBlock, SearchedStmts, SearchedArms, WayBy, SeenBy, IsTurned, IsLanded, LargeBlock, SearchesForm, SearchesBlock, SearchesArm, SearchesTurn}
use Rattle.vlt_witness.specs.Between.{Counts, IsPassed, PassesRows, Arrives, AreTogether, HasEntered, EntersArm, HasBegun, EndsTurn, LeavesLoop}
use Rattle.vlt_witness.proofs.Forms.{searched_step, searched_jump, searched_choose, searched_block, searched_scope, searched_focus}
use Rattle.vlt_witness.proofs.Turns.{turned, searched_loop}
use Rattle.vlt_witness.proofs.Runs.{searched_arm, searched_switch}
use Rattle.vlt_witness.proofs.Large.{choose_end, loop_end, switch_end, focus_end, block_end}

-- ---- steps

pub passed : (a : Aim) (at k n : ℕ) (rs : List Row) (L P : List Way) (m m' : List Seen) (r : Result Went RowError) → length rs ≡ n → Walks (Passes (aim_tok a) rs) (On L) nothing_found (On P) → Sees (RowsHere a at rs) (On L) (OnSeen m) (OnSeen m') → Counts P (k + n) r → PassesRows a at k rs L m m' r
passed a at k n rs L P m m' (Ok r) long x y c = record {
  walks = subst (λ l. Walks (Passes (aim_tok a) rs) (On L) nothing_found (On l)) (sym c.next) x;
  sees = y;
  number = omega (arith, c.number, long);
}
passed a at k n rs L P m m' (Err e) long x y c = unfit_in e (λ h. omega (arith, h, long)) c

pub arrived : (a : Aim) (at k : ℕ) (L : List Way) (m m' : List Seen) (r : Result Went RowError) → Sees (JoinHere a (join_spot at k)) (On L) (OnSeen m) (OnSeen m') → Counts L (k + 1) r → Arrives a at k L m m' r
arrived a at k L m m' (Ok r) y c = record { next = c.next; sees = y; number = c.number }
arrived a at k L m m' (Err e) y c = c

pub entered : (a : Aim) (at k i : ℕ) (rs : List Row) (L C : List Way) (m m' : List Seen) (r : Result Went RowError) → Walks (Takes (choice at (case_arm i))) (On L) nothing_found (On C) → PassesRows a at k rs C m m' r → EntersArm a at k i rs L m m' r
entered a at k i rs L C m m' (Ok r) x y = record { picked = C; takes = x; passed = y }
entered a at k i rs L C m m' (Err e) x y = unfit_in e (λ h. inr h) y

pub left_loop : (a : Aim) (end : ℕ) (u : Turned) (L H N : List Way) (m m1 m2 : List Seen) (r : Result Went RowError) → IsClosed (On u.turn) (On L) (On H) → Spreads (By (OnSeen u.met)) (CanBy (OnSeen u.met)) (On H) (OnSeen m) (OnSeen m1) →
    Spreads (By (On u.leave)) (CanBy (On u.leave)) (On H) nothing_found (On N) → Arrives a end u.number N m1 m2 r → LeavesLoop a end u L m m2 r
left_loop a end u L H N m m1 m2 (Ok r) closed mets outs x = record {
  heads = H;
  inside = m1;
  closed = closed;
  met = mets;
  next = subst (λ l. Spreads (By (On u.leave)) (CanBy (On u.leave)) (On H) nothing_found (On l)) (sym x.next) outs;
  sees = subst (λ l. Sees (JoinHere a (join_spot end u.number)) (On l) (OnSeen m1) (OnSeen m2)) (sym x.next) x.sees;
  number = x.number;
}
left_loop a end u L H N m m1 m2 (Err e) closed mets outs x = x

-- ---- parts without parts

pub step_searched : (a : Aim) (at k : ℕ) (rs : List Row) (L : List Way) (j : Jumps) (m m' : List Seen) (r : Result Went RowError) → PassesRows a at k rs L m m' r → SearchesForm a at k (step rs) L j j m m' r
step_searched a at k rs L j m m' (Ok r) x = searched_step a at k rs L r.next j m m' r x.walks x.sees refl x.number
step_searched a at k rs L j m m' (Err e) x = unfit_in e (λ h. inl (omega (arith, h))) x

pub jump_searched : (c : Bool) (a : Aim) (at k : ℕ) (left : List Tok) (L P N : List Way) (j j' : Jumps) (m m' : List Seen) (n : ℕ) (r : Result Went RowError) → length left ≡ n → Walks (Passes (aim_tok a) (map away_row left)) (On L) nothing_found (On P) →
    Sees (RowsHere a at (map away_row left)) (On L) (OnSeen m) (OnSeen m') → IsLanded c P j j' → N ≡ [] → Counts N (k + n) r → SearchesForm a at k (jump c left) L j j' m m' r
jump_searched c a at k left L P N j j' m m' n (Ok r) long x y l e g = searched_jump c a at k left L P j j' m m' r x y l (g.next ∙ e) (omega (arith, g.number, long))
jump_searched c a at k left L P N j j' m m' n (Err d) long x y l e g = unfit_in d (λ h. inl (omega (arith, h, long))) g

-- ---- parts of others

module _ (a : Aim) (at k : ℕ) (rs : List Row) (u v : Block) (L : List Way) (j j1 j2 : Jumps) (m m1 m2 m3 m4 : List Seen) (p w1 w2 w : Went) (x : IsPassed a at k rs L m m1 p) where
  pub choose_searched : (r : Result Went RowError) →
      IsSearched (WayBy (aim_tok a) (choice at then_arm) u) (SeenBy a (choice at then_arm) p.number u) (p.number + spots_block u) p.next j j1 m1 m2 w1 →
      IsSearched (WayBy (aim_tok a) (choice at else_arm) v) (SeenBy a (choice at else_arm) w1.number v) (w1.number + spots_block v) p.next j1 j2 m2 m3 w2 →
      AreTogether w1 w2 w → Arrives a (end_of v) w.number w.next m3 m4 r → SearchesForm a at k (choose rs u v) L j j2 m m4 r
  choose_searched (Ok r) y z t g =
      let first = subst (λ n. IsSearched (WayBy (aim_tok a) (choice at then_arm) u) (SeenBy a (choice at then_arm) n u) (n + spots_block u) p.next j j1 m1 m2 w1) x.number y in
      let second = subst (λ n. IsSearched (WayBy (aim_tok a) (choice at else_arm) v) (SeenBy a (choice at else_arm) n v) (n + spots_block v) p.next j1 j2 m2 m3 w2) first.number z in
      let number : w.number ≡ k + length rs + spots_block u + spots_block v = t.number ∙ second.number in
      let joined = subst (λ l. Joined (On w1.next) (On w2.next) (On l)) (sym g.next) t.next in
      let seen = subst (λ l. Sees (JoinHere a (join_spot (end_of v) w.number)) (On l) (OnSeen m3) (OnSeen m4)) (sym g.next) g.sees in
      let met = subst (λ n. Sees (JoinHere a (join_spot (end_of v) n)) (On r.next) (OnSeen m3) (OnSeen m4)) number seen in
      searched_choose a at k rs u v L p.next j j1 j2 m m1 m2 m3 m4 w1 w2 r x.walks x.sees first second joined met (omega (arith, g.number, number))
  choose_searched (Err e) y z t g = unfit_in e (λ h. choose_end k rs u v (omega (arith, h, t.number, z.number, y.number, x.number))) g

pub switch_searched : (a : Aim) (at k : ℕ) (rs : List Row) (arms : Arms) (end : ℕ) (L : List Way) (j j' : Jumps) (m m1 m2 m3 : List Seen) (p w : Went) (r : Result Went RowError) → IsPassed a at k rs L m m1 p → SearchedArms a at p.number 0 arms p.next j j' m1 m2 w → Arrives a end w.number w.next m2 m3 r → SearchesForm a at k (switch rs arms end) L j j' m m3 r
switch_searched a at k rs arms end L j j' m m1 m2 m3 p w (Ok r) x y g =
    let inside = subst (λ n. SearchedArms a at n 0 arms p.next j j' m1 m2 w) x.number y in
    let seen = subst (λ n. Sees (JoinHere a (join_spot end n)) (On w.next) (OnSeen m2) (OnSeen m3)) inside.number g.sees in
    searched_switch a at k rs arms end L p.next j j' m m1 m2 m3 w r x.walks x.sees inside g.next seen (omega (arith, g.number, inside.number))
switch_searched a at k rs arms end L j j' m m1 m2 m3 p w (Err e) x y g = unfit_in e (λ h. switch_end k rs arms end (omega (arith, h, y.number, x.number))) g

pub arm_searched : (a : Aim) (at k i : ℕ) (rs : List Row) (s : Block) (L : List Way) (j j' : Jumps) (m m1 m2 : List Seen) (p : Went) (r : Result Went RowError) → HasEntered a at k i rs L m m1 p → SearchesBlock a p.number s p.next j j' m1 m2 r → SearchesArm a at k i rs s L j j' m m2 r
arm_searched a at k i rs s L j j' m m1 m2 p (Ok r) x y =
    searched_arm a at k i rs s L x.picked p.next j j' m m1 m2 r x.takes x.passed.walks x.passed.sees (subst (λ n. SearchedBlock a n s p.next j j' m1 m2 r) x.passed.number y)
arm_searched a at k i rs s L j j' m m1 m2 p (Err e) x y = unfit_in e (λ h. inr (subst (λ n. LargeBlock n s) x.passed.number h)) y

pub focus_searched : (a : Aim) (at k : ℕ) (rs : List Row) (s : Block) (es : List Row) (L : List Way) (j i i' : Jumps) (m m1 m2 m3 : List Seen) (p w : Went) (r : Result Went RowError) → IsPassed a at k rs L m m1 p → SearchedBlock a p.number s p.next i i' m1 m2 w → PassesRows a (end_of s) w.number es w.next m2 m3 r → SearchesForm a at k (focus rs s es) L j j m m3 r
focus_searched a at k rs s es L j i i' m m1 m2 m3 p w (Ok r) x y z =
    let inside = subst (λ n. SearchedBlock a n s p.next i i' m1 m2 w) x.number y in
    searched_focus a at k rs s es L p.next j i i' m m1 m2 m3 w r x.walks x.sees inside z.walks z.sees (omega (arith, z.number, inside.number))
focus_searched a at k rs s es L j i i' m m1 m2 m3 p w (Err e) x y z = unfit_in e (λ h. focus_end k rs s es (omega (arith, h, y.number, x.number))) z

pub block_searched : (a : Aim) (k : ℕ) (ss : Stmts) (bound : List Tok) (end : ℕ) (L : List Way) (j j' : Jumps) (m m1 m2 : List Seen) (w : Went) (r : Result Went RowError) → SearchedStmts a k ss L j j' m m1 w → PassesRows a end w.number (map away_row bound) w.next m1 m2 r → SearchesBlock a k (block ss bound end) L j j' m m2 r
block_searched a k ss bound end L j j' m m1 m2 w (Ok r) x y =
    let long = length-map bound away_row in
    searched_block a k ss bound end L j j' m m1 m2 w r x y.walks y.sees (omega (arith, y.number, x.number, long))
block_searched a k ss bound end L j j' m m1 m2 w (Err e) x y =
    let long = length-map bound away_row in
    unfit_in e (λ h. block_end k ss bound end (omega (arith, h, x.number, long))) y

pub scope_searched : (a : Aim) (at k : ℕ) (s : Block) (L : List Way) (j j' : Jumps) (m m' : List Seen) (r : Result Went RowError) → SearchesBlock a k s L j j' m m' r → SearchesForm a at k (scope s) L j j' m m' r
scope_searched a at k s L j j' m m' (Ok r) x = searched_scope a at k s L j j' m m' r x
scope_searched a at k s L j j' m m' (Err e) x = x

-- ---- a loop

pub turn_searched : (a : Aim) (at k : ℕ) (rs : List Row) (s : Block) (i j : Jumps) (m m1 m2 : List Seen) (b : Begun) (w : Went) (r : Result Turned RowError) → m ≡ [] → HasBegun a at k rs m m1 b → i.breaks ≡ b.leave → i.continues ≡ [] →
    IsSearched (WayBy (aim_tok a) (choice at turn) s) (SeenBy a (choice at turn) b.number s) (b.number + spots_block s) b.passed i j m1 m2 w → MatchResult r (EndsTurn w j m2) (λ e. e ≡ Memory) → SearchesTurn a at k rs s r
turn_searched a at k rs s i j m m1 m2 b w (Ok r) none x left fresh y e =
    let way = subst (λ n. IsSearched (WayBy (aim_tok a) (choice at turn) s) (SeenBy a (choice at turn) n s) (n + spots_block s) b.passed i j m1 m2 w) x.number y in
    let met = subst (λ l. IsSearched (WayBy (aim_tok a) (choice at turn) s) (SeenBy a (choice at turn) (k + 1 + length rs) s) (k + 1 + length rs + spots_block s) b.passed i j m1 l w) (sym e.met) way in
    let out = subst (λ l. Walks (Takes (choice at exit)) (On b.passed) nothing_found (On l)) (sym left) x.leaves in
    turned a at k rs s x.heads b.passed m m1 j w x.every x.all none x.walks x.sees r i fresh out met e.turn e.leave e.number
turn_searched a at k rs s i j m m1 m2 b w (Err d) none x left fresh y e = inl e

pub loop_searched : (a : Aim) (at k : ℕ) (rs : List Row) (s : Block) (L : List Way) (j : Jumps) (m m' : List Seen) (u : Turned) (r : Result Went RowError) → IsTurned a at k rs s u → LeavesLoop a (end_of s) u L m m' r → SearchesForm a at k (loop rs s) L j j m m' r
loop_searched a at k rs s L j m m' u (Ok r) t x =
    let seen = subst (λ n. Sees (JoinHere a (join_spot (end_of s) n)) (On r.next) (OnSeen x.inside) (OnSeen m')) t.number x.sees in
    searched_loop a at k rs s L x.heads j m x.inside m' u r t x.closed x.met x.next seen (omega (arith, x.number, t.number))
loop_searched a at k rs s L j m m' u (Err e) t x = unfit_in e (λ h. loop_end k rs s (omega (arith, h, t.number))) x
