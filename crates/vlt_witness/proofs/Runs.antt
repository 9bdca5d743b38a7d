-- Statements and arms, one after another.
use Rattle.std.proofs.Common.{◌≡◌, ◌∙◌, ◌+◌, ◌≤◌, ◌∷◌, ℕ, zero, suc, List, [], length, drop, refl, sym, ap, subst, inl, inr, ⊎_elim, arith}
use Rattle.std.proofs.lemmas.List.{drop_all, append-nil}
use Rattle.vlt_core.specs.Core.{Tok}
use Rattle.vlt_core.specs.Maps.{Row}
use Rattle.vlt_core.specs.Flow as s
use Rattle.vlt_core.specs.Flow.{Flow, switch, Block, Stmts, done, next, Arms, no_arms, arm, size, size_block, size_stmts, size_arms}
use Rattle.vlt_core.specs.Found.{One, Exit, to_next, to_break, to_continue}
use Rattle.vlt_core.specs.Faults.{join_spot, spots, spots_block, spots_stmts, spots_arms}
use Rattle.vlt_core.specs.Witness.{Choice, choice, case_arm, Through, ThroughBlock, ThroughStmts, ThroughArm, MetArm}
use Rattle.vlt_rows.specs.declared.tree.FlowStmt.{FlowStmt}
use Rattle.vlt_rows.specs.declared.tree.FlowArm.{FlowArm}
use Rattle.vlt_rows.specs.FlowView.{arm_view, flow_view, arms_view, stmts_view}
use Rattle.vlt_rows.proofs.Views.{stmt_parts}
use Rattle.vlt_witness.specs.declared.aim.Aim.{Aim}
use Rattle.vlt_witness.specs.declared.seen.Seen.{Seen}
use Rattle.vlt_witness.specs.declared.ways.Way.{Way}
use Rattle.vlt_witness.specs.declared.search.Jumps.{Jumps}
use Rattle.vlt_witness.specs.declared.search.Went.{Went}
use Rattle.vlt_witness.specs.Ways.{Finds, nothing_found, On, OnSeen, End}
use Rattle.vlt_witness.specs.Search.{Joined, Leg, Walks, Sight, Sees, Then, ThenSight, EitherSight, Passes, Takes, IsSearched}
use Rattle.vlt_witness.specs.Aims.{aim_tok, rows_aimed, joins_aimed, JoinHere, RowsHere}
use Rattle.vlt_witness.specs.Parts.{SeenIn, SeenInBlock, SeenInStmts, SearchedForm, SearchedBlock, SearchedStmts, WayArm, SeenInArm, SearchedArm, WayArms, SeenInArms, SearchedArms}
use Rattle.vlt_witness.proofs.Algebra.{walks_map, sees_map, walks_none, sees_none, walks_both, sees_both, walks_joined, walks_then, sees_then, walks_picked, sees_picked}
use Rattle.vlt_witness.proofs.Forms.{no_break, no_continue, Rowed, RowedSight, walks_rowed, sees_rowed, JoinAfter, sees_join_after}
use Rattle.vlt_witness.proofs.Turns.{walks_fresh}

-- ---- statements

stmts_split : (stmts : List FlowStmt) (i : ℕ) (x : FlowStmt) → drop i stmts ≡ x ∷ drop (i + 1) stmts → stmts_view (drop i stmts) ≡ next x.at (flow_view x.flow) (stmts_view (drop (i + 1) stmts))
stmts_split stmts i x e = ap stmts_view e ∙ ap (λ p. next p.0 p.1 (stmts_view (drop (i + 1) stmts))) (stmt_parts x)

-- what a search from here finds is what a search of the whole finds
pub record Leading (a : Aim) (k n : ℕ) (ss rest : Stmts) (L cur : List Way) (j i : Jumps) (m o : List Seen) : Type 0 where
  pub next : (R : List Way) → Walks (λ o cs q ds. ThroughStmts (aim_tok a) rest o cs to_next q ds) (On cur) nothing_found (On R) → Walks (λ o cs q ds. ThroughStmts (aim_tok a) ss o cs to_next q ds) (On L) nothing_found (On R)
  pub breaks : (R : List Way) → Walks (λ o cs q ds. ThroughStmts (aim_tok a) rest o cs to_break q ds) (On cur) (On i.breaks) (On R) → Walks (λ o cs q ds. ThroughStmts (aim_tok a) ss o cs to_break q ds) (On L) (On j.breaks) (On R)
  pub continues : (R : List Way) → Walks (λ o cs q ds. ThroughStmts (aim_tok a) rest o cs to_continue q ds) (On cur) (On i.continues) (On R) → Walks (λ o cs q ds. ThroughStmts (aim_tok a) ss o cs to_continue q ds) (On L) (On j.continues) (On R)
  pub met : (R : List Seen) → Sees (SeenInStmts a n rest) (On cur) (OnSeen o) (OnSeen R) → Sees (SeenInStmts a k ss) (On L) (OnSeen m) (OnSeen R)

leading_more : (a : Aim) (k n : ℕ) (ss : Stmts) (at : ℕ) (f : Flow) (rest : Stmts) (L cur : List Way) (j i i' : Jumps) (m o o' : List Seen) (w : Went) → Leading a k n ss (next at f rest) L cur j i m o → SearchedForm a at n f cur i i' o o' w → Leading a k (n + spots f) ss rest L w.next j i' m o'
leading_more a k n ss at f rest L cur j i i' m o o' w g x =
    let t = aim_tok a in
    let leg = λ (e : Exit) (o : One) (cs : List Choice) (q : One) (ds : List Choice). Through t at f o cs e q ds in
    let on = λ (e : Exit) (o : One) (cs : List Choice) (q : One) (ds : List Choice). ThroughStmts t rest o cs e q ds in
    record {
      next = λ R y. g.next R (walks_then (leg to_next) (on to_next) (On cur) (On w.next) nothing_found (On R) x.next y);
      breaks = λ R y. g.breaks R (walks_both (leg to_break) (Then (leg to_next) (on to_break)) (On cur) (On i.breaks) (On i'.breaks) (On R) x.breaks (walks_then (leg to_next) (on to_break) (On cur) (On w.next) (On i'.breaks) (On R) x.next y));
      continues = λ R y. g.continues R (walks_both (leg to_continue) (Then (leg to_next) (on to_continue)) (On cur) (On i.continues) (On i'.continues) (On R) x.continues (walks_then (leg to_next) (on to_continue) (On cur) (On w.next) (On i'.continues) (On R) x.next y));
      met = λ R y. g.met R (sees_both (SeenIn a at n f) (ThenSight (leg to_next) (SeenInStmts a (n + spots f) rest)) (On cur) (OnSeen o) (OnSeen o') (OnSeen R) x.met (sees_then (leg to_next) (SeenInStmts a (n + spots f) rest) (On cur) (On w.next) (OnSeen o') (OnSeen R) x.next y));
    }

leading_done : (a : Aim) (k n : ℕ) (ss : Stmts) (L cur : List Way) (j i : Jumps) (m o : List Seen) (r : Went) → Leading a k n ss done L cur j i m o → r.next ≡ cur → r.number ≡ k + spots_stmts ss → SearchedStmts a k ss L j i m o r
leading_done a k n ss L cur j i m o r g e u =
    let t = aim_tok a in
    let on = λ (e : Exit) (o : One) (cs : List Choice) (q : One) (ds : List Choice). ThroughStmts t done o cs e q ds in
    record {
      next = g.next r.next (subst (λ l. Walks (on to_next) (On cur) nothing_found (On l)) (sym e) stay);
      breaks = g.breaks i.breaks (walks_none (on to_break) (On cur) (On i.breaks) (λ o cs q ds z. no_break z.0));
      continues = g.continues i.continues (walks_none (on to_continue) (On cur) (On i.continues) (λ o cs q ds z. no_continue z.0));
      met = g.met o (sees_none (SeenInStmts a n done) (On cur) (OnSeen o) (λ e o cs z. z));
      number = u;
    }
  where
    stay : Walks (λ o cs q ds. ThroughStmts (aim_tok a) done o cs to_next q ds) (On cur) nothing_found (On cur)
    stay = record {
      found = λ f q cs h. inr (record { begin = q; before = cs; following = []; comes = h; goes = λ rest. (refl, refl, refl); whole = sym (append-nil cs) });
      kept = λ f q cs n. absurd n;
      all = λ f o cs q h c. (cs, subst (λ z. On cur f z cs) (sym c.1.1.1) h);
    }

pub record Listing (a : Aim) (stmts : List FlowStmt) (k : ℕ) (L : List Way) (j : Jumps) (m : List Seen) (i n : ℕ) (cur : List Way) (j' : Jumps) (m' : List Seen) : Type 0 where
  pub number : n + spots_stmts (stmts_view (drop i stmts)) ≡ k + spots_stmts (stmts_view stmts)
  pub small : size_stmts (stmts_view (drop i stmts)) ≤ size_stmts (stmts_view stmts)
  pub leads : Leading a k n (stmts_view stmts) (stmts_view (drop i stmts)) L cur j j' m m'

pub listing_first : (a : Aim) (stmts : List FlowStmt) (k : ℕ) (L : List Way) (j : Jumps) (m : List Seen) → Listing a stmts k L j m 0 k L j m
listing_first a stmts k L j m = record { number = refl; small = omega arith; leads = record { next = λ R y. y; breaks = λ R y. y; continues = λ R y. y; met = λ R y. y } }

pub listing_small : (a : Aim) (stmts : List FlowStmt) (k : ℕ) (L : List Way) (j : Jumps) (m : List Seen) (i n : ℕ) (cur : List Way) (j' : Jumps) (m' : List Seen) (x : FlowStmt) → drop i stmts ≡ x ∷ drop (i + 1) stmts → Listing a stmts k L j m i n cur j' m' → size (flow_view x.flow) ≤ size_stmts (stmts_view stmts)
listing_small a stmts k L j m i n cur j' m' x e g = let split = ap size_stmts (stmts_split stmts i x e) in omega (arith, g.small, split)

pub listing_more : (a : Aim) (stmts : List FlowStmt) (k : ℕ) (L : List Way) (j : Jumps) (m : List Seen) (i n : ℕ) (cur : List Way) (j' : Jumps) (m' : List Seen) (x : FlowStmt) (j2 : Jumps) (m2 : List Seen) (w : Went) → drop i stmts ≡ x ∷ drop (i + 1) stmts → Listing a stmts k L j m i n cur j' m' → SearchedForm a x.at n (flow_view x.flow) cur j' j2 m' m2 w → Listing a stmts k L j m (i + 1) w.number w.next j2 m2
listing_more a stmts k L j m i n cur j' m' x j2 m2 w e g y =
    let split = stmts_split stmts i x e in
    let one = ap spots_stmts split in
    let less = ap size_stmts split in
    let leads = subst (λ ss. Leading a k n (stmts_view stmts) ss L cur j j' m m') split g.leads in
    let more = leading_more a k n (stmts_view stmts) x.at (flow_view x.flow) (stmts_view (drop (i + 1) stmts)) L cur j j' j2 m m' m2 w leads y in
    record {
      number = omega (arith, g.number, one, y.number);
      small = omega (arith, g.small, less);
      leads = subst (λ n. Leading a k n (stmts_view stmts) (stmts_view (drop (i + 1) stmts)) L w.next j j2 m m2) (sym y.number) more;
    }

pub listing_ends : (a : Aim) (stmts : List FlowStmt) (k : ℕ) (L : List Way) (j : Jumps) (m : List Seen) (i n : ℕ) (cur : List Way) (j' : Jumps) (m' : List Seen) (r : Went) → length stmts ≤ i → Listing a stmts k L j m i n cur j' m' → r.next ≡ cur → r.number ≡ n → SearchedStmts a k (stmts_view stmts) L j j' m m' r
listing_ends a stmts k L j m i n cur j' m' r past g e u =
    let none = drop_all i stmts past in
    let leads = subst (λ l. Leading a k n (stmts_view stmts) (stmts_view l) L cur j j' m m') none g.leads in
    let zero = ap (λ l. spots_stmts (stmts_view l)) none in
    leading_done a k n (stmts_view stmts) L cur j j' m m' r leads e (omega (arith, g.number, zero, u))

-- ---- one arm

pub searched_arm : (a : Aim) (at k i : ℕ) (rs : List Row) (s : Block) (L C P : List Way) (j j' : Jumps) (m m1 m2 : List Seen) (r : Went) → Walks (Takes (choice at (case_arm i))) (On L) nothing_found (On C) → Walks (Passes (aim_tok a) rs) (On C) nothing_found (On P) → Sees (RowsHere a at rs) (On C) (OnSeen m) (OnSeen m1) →
    SearchedBlock a (k + length rs) s P j j' m1 m2 r → SearchedArm a at k i rs s L j j' m m2 r
searched_arm a at k i rs s L C P j j' m m1 m2 r c x y b =
    let t = aim_tok a in
    let d = choice at (case_arm i) in
    let on = λ (e : Exit) (o : One) (cs : List Choice) (q : One) (ds : List Choice). ThroughBlock t s o cs e q ds in
    let M = SeenInBlock a (k + length rs) s in
    record {
      next = walks_picked d (Rowed t rs (on to_next)) (On L) (On C) nothing_found (On r.next) c (walks_rowed t rs (on to_next) (On C) (On P) nothing_found (On r.next) x b.next);
      breaks = walks_picked d (Rowed t rs (on to_break)) (On L) (On C) (On j.breaks) (On j'.breaks) c (walks_rowed t rs (on to_break) (On C) (On P) (On j.breaks) (On j'.breaks) x b.breaks);
      continues = walks_picked d (Rowed t rs (on to_continue)) (On L) (On C) (On j.continues) (On j'.continues) c (walks_rowed t rs (on to_continue) (On C) (On P) (On j.continues) (On j'.continues) x b.continues);
      met = sees_picked d (EitherSight (RowsHere a at rs) (RowedSight t rs M)) (On L) (On C) (OnSeen m) (OnSeen m2) c
          (sees_both (RowsHere a at rs) (RowedSight t rs M) (On C) (OnSeen m) (OnSeen m1) (OnSeen m2) y (sees_rowed t rs M (On C) (On P) (OnSeen m1) (OnSeen m2) x b.met));
      number = b.number;
    }

-- a block by a choice
pub searched_way : (a : Aim) (c : Choice) (k : ℕ) (s : Block) (L C : List Way) (j j' : Jumps) (m m' : List Seen) (r : Went) → Walks (Takes c) (On L) nothing_found (On C) → SearchedBlock a k s C j j' m m' r →
    IsSearched (λ o cs x q ds. (es : List Choice) × (cs ≡ c ∷ es) × ThroughBlock (aim_tok a) s o es x q ds) (λ e o cs. (es : List Choice) × (cs ≡ c ∷ es) × SeenInBlock a k s e o es) (k + spots_block s) L j j' m m' r
searched_way a c k s L C j j' m m' r x b =
    let on = λ (e : Exit) (o : One) (cs : List Choice) (q : One) (ds : List Choice). ThroughBlock (aim_tok a) s o cs e q ds in
    record {
      next = walks_picked c (on to_next) (On L) (On C) nothing_found (On r.next) x b.next;
      breaks = walks_picked c (on to_break) (On L) (On C) (On j.breaks) (On j'.breaks) x b.breaks;
      continues = walks_picked c (on to_continue) (On L) (On C) (On j.continues) (On j'.continues) x b.continues;
      met = sees_picked c (SeenInBlock a k s) (On L) (On C) (OnSeen m) (OnSeen m') x b.met;
      number = b.number;
    }

-- ---- arms

arms_split : (arms : List FlowArm) (i : ℕ) (x : FlowArm) → drop i arms ≡ x ∷ drop (i + 1) arms → arms_view (drop i arms) ≡ s.arm (arm_view x).0 (arm_view x).1 (arms_view (drop (i + 1) arms))
arms_split arms i x e = ap arms_view e

pub record Branching (a : Aim) (at k n i : ℕ) (all rest : Arms) (L cur : List Way) (j u : Jumps) (m o : List Seen) : Type 0 where
  pub next : (R : List Way) → Walks (λ o cs q ds. WayArms (aim_tok a) at i rest o cs to_next q ds) (On L) (On cur) (On R) → Walks (λ o cs q ds. WayArms (aim_tok a) at 0 all o cs to_next q ds) (On L) nothing_found (On R)
  pub breaks : (R : List Way) → Walks (λ o cs q ds. WayArms (aim_tok a) at i rest o cs to_break q ds) (On L) (On u.breaks) (On R) → Walks (λ o cs q ds. WayArms (aim_tok a) at 0 all o cs to_break q ds) (On L) (On j.breaks) (On R)
  pub continues : (R : List Way) → Walks (λ o cs q ds. WayArms (aim_tok a) at i rest o cs to_continue q ds) (On L) (On u.continues) (On R) → Walks (λ o cs q ds. WayArms (aim_tok a) at 0 all o cs to_continue q ds) (On L) (On j.continues) (On R)
  pub met : (R : List Seen) → Sees (SeenInArms a at n i rest) (On L) (OnSeen o) (OnSeen R) → Sees (SeenInArms a at k 0 all) (On L) (OnSeen m) (OnSeen R)

branching_more : (a : Aim) (at k n i : ℕ) (all : Arms) (rs : List Row) (s : Block) (rest : Arms) (L cur : List Way) (j u u' : Jumps) (m o o' : List Seen) (w : Went) (new : List Way) → Branching a at k n i all (arm rs s rest) L cur j u m o → SearchedArm a at n i rs s L u u' o o' w → Joined (On cur) (On w.next) (On new) → Branching a at k (n + length rs + spots_block s) (i + 1) all rest L new j u' m o'
branching_more a at k n i all rs s rest L cur j u u' m o o' w new g x joined =
    let t = aim_tok a in
    let here = λ (e : Exit) (o : One) (cs : List Choice) (q : One) (ds : List Choice). WayArm t at i rs s o cs e q ds in
    let on = λ (e : Exit) (o : One) (cs : List Choice) (q : One) (ds : List Choice). WayArms t at (i + 1) rest o cs e q ds in
    record {
      next = λ R y. g.next R (walks_both (here to_next) (on to_next) (On L) (On cur) (On new) (On R) (walks_joined (here to_next) (On L) (On cur) (On w.next) (On new) x.next joined) y);
      breaks = λ R y. g.breaks R (walks_both (here to_break) (on to_break) (On L) (On u.breaks) (On u'.breaks) (On R) x.breaks y);
      continues = λ R y. g.continues R (walks_both (here to_continue) (on to_continue) (On L) (On u.continues) (On u'.continues) (On R) x.continues y);
      met = λ R y. g.met R (sees_both (SeenInArm a at n i rs s) (SeenInArms a at (n + length rs + spots_block s) (i + 1) rest) (On L) (OnSeen o) (OnSeen o') (OnSeen R) x.met y);
    }

branching_done : (a : Aim) (at k n i : ℕ) (all : Arms) (L cur : List Way) (j u : Jumps) (m o : List Seen) (r : Went) → Branching a at k n i all no_arms L cur j u m o → r.next ≡ cur → r.number ≡ k + spots_arms all → SearchedArms a at k 0 all L j u m o r
branching_done a at k n i all L cur j u m o r g e c =
    let on = λ (e : Exit) (o : One) (cs : List Choice) (q : One) (ds : List Choice). WayArms (aim_tok a) at i no_arms o cs e q ds in
    record {
      next = g.next r.next (subst (λ l. Walks (on to_next) (On L) (On cur) (On l)) (sym e) (walks_none (on to_next) (On L) (On cur) (λ o cs q ds z. z)));
      breaks = g.breaks u.breaks (walks_none (on to_break) (On L) (On u.breaks) (λ o cs q ds z. z));
      continues = g.continues u.continues (walks_none (on to_continue) (On L) (On u.continues) (λ o cs q ds z. z));
      met = g.met o (sees_none (SeenInArms a at n i no_arms) (On L) (OnSeen o) (λ e o cs z. z));
      number = c;
    }

pub record Arming (a : Aim) (arms : List FlowArm) (at k : ℕ) (L : List Way) (j : Jumps) (m : List Seen) (i n : ℕ) (cur : List Way) (j' : Jumps) (m' : List Seen) : Type 0 where
  pub number : n + spots_arms (arms_view (drop i arms)) ≡ k + spots_arms (arms_view arms)
  pub small : size_arms (arms_view (drop i arms)) ≤ size_arms (arms_view arms)
  pub leads : Branching a at k n i (arms_view arms) (arms_view (drop i arms)) L cur j j' m m'

pub arming_first : (a : Aim) (arms : List FlowArm) (at k : ℕ) (L : List Way) (j : Jumps) (m : List Seen) (cur : List Way) → cur ≡ [] → Arming a arms at k L j m 0 k cur j m
arming_first a arms at k L j m cur e = record { number = refl; small = omega arith; leads = record { next = λ R y. walks_fresh (λ o cs q ds. WayArms (aim_tok a) at 0 (arms_view arms) o cs to_next q ds) (On L) cur (On R) e y; breaks = λ R y. y; continues = λ R y. y; met = λ R y. y } }

pub arming_small : (a : Aim) (arms : List FlowArm) (at k : ℕ) (L : List Way) (j : Jumps) (m : List Seen) (i n : ℕ) (cur : List Way) (j' : Jumps) (m' : List Seen) (x : FlowArm) → drop i arms ≡ x ∷ drop (i + 1) arms → Arming a arms at k L j m i n cur j' m' → size_block (arm_view x).1 ≤ size_arms (arms_view arms)
arming_small a arms at k L j m i n cur j' m' x e g = let split = ap size_arms (arms_split arms i x e) in omega (arith, g.small, split)

pub arming_more : (a : Aim) (arms : List FlowArm) (at k : ℕ) (L : List Way) (j : Jumps) (m : List Seen) (i n : ℕ) (cur : List Way) (j' : Jumps) (m' : List Seen) (x : FlowArm) (j2 : Jumps) (m2 : List Seen) (w : Went) (new : List Way) → drop i arms ≡ x ∷ drop (i + 1) arms → Arming a arms at k L j m i n cur j' m' → SearchedArm a at n i (arm_view x).0 (arm_view x).1 L j' j2 m' m2 w → Joined (On cur) (On w.next) (On new) → Arming a arms at k L j m (i + 1) w.number new j2 m2
arming_more a arms at k L j m i n cur j' m' x j2 m2 w new e g y joined =
    let split = arms_split arms i x e in
    let one = ap spots_arms split in
    let less = ap size_arms split in
    let leads = subst (λ ss. Branching a at k n i (arms_view arms) ss L cur j j' m m') split g.leads in
    let more = branching_more a at k n i (arms_view arms) (arm_view x).0 (arm_view x).1 (arms_view (drop (i + 1) arms)) L cur j j' j2 m m' m2 w new leads y joined in
    record {
      number = omega (arith, g.number, one, y.number);
      small = omega (arith, g.small, less);
      leads = subst (λ n. Branching a at k n (i + 1) (arms_view arms) (arms_view (drop (i + 1) arms)) L new j j2 m m2) (sym y.number) more;
    }

pub arming_ends : (a : Aim) (arms : List FlowArm) (at k : ℕ) (L : List Way) (j : Jumps) (m : List Seen) (i n : ℕ) (cur : List Way) (j' : Jumps) (m' : List Seen) (r : Went) → length arms ≤ i → Arming a arms at k L j m i n cur j' m' → r.next ≡ cur → r.number ≡ n → SearchedArms a at k 0 (arms_view arms) L j j' m m' r
arming_ends a arms at k L j m i n cur j' m' r past g e u =
    let none = drop_all i arms past in
    let leads = subst (λ l. Branching a at k n i (arms_view arms) (arms_view l) L cur j j' m m') none g.leads in
    let zero = ap (λ l. spots_arms (arms_view l)) none in
    branching_done a at k n i (arms_view arms) L cur j j' m m' r leads e (omega (arith, g.number, zero, u))

-- ---- a switch

same_case : (at i n : ℕ) → i ≡ n → choice at (case_arm i) ≡ choice at (case_arm n)
same_case at i n e = ap (λ i. choice at (case_arm i)) e

from_arms : (t : Tok) (at i : ℕ) (arms : Arms) (o : One) (cs : List Choice) (x : Exit) (q : One) (ds : List Choice) → WayArms t at i arms o cs x q ds → (n : ℕ) × ((es : List Choice) × (cs ≡ choice at (case_arm (i + n)) ∷ es) × ThroughArm t n arms o es x q ds)
from_arms t at i no_arms o cs x q ds z = absurd z
from_arms t at i (arm rs s rest) o cs x q ds z = ⊎_elim
    (λ h. (0, (h.0, h.1 ∙ ap (λ c. c ∷ h.0) (same_case at i (i + 0) (omega arith)), h.2)))
    (λ h. let y = from_arms t at (i + 1) rest o cs x q ds h in (suc y.0, (y.1.0, y.1.1 ∙ ap (λ c. c ∷ y.1.0) (same_case at (i + 1 + y.0) (i + suc y.0) (omega arith)), y.1.2))) z

to_arms : (t : Tok) (at i n : ℕ) (arms : Arms) (o : One) (cs es : List Choice) (x : Exit) (q : One) (ds : List Choice) → cs ≡ choice at (case_arm (i + n)) ∷ es → ThroughArm t n arms o es x q ds → WayArms t at i arms o cs x q ds
to_arms t at i n no_arms o cs es x q ds e z = absurd z
to_arms t at i zero (arm rs s rest) o cs es x q ds e z = inl (es, e ∙ ap (λ c. c ∷ es) (same_case at (i + 0) i (omega arith)), z)
to_arms t at i (suc n) (arm rs s rest) o cs es x q ds e z = inr (to_arms t at (i + 1) n rest o cs es x q ds (e ∙ ap (λ c. c ∷ es) (same_case at (i + suc n) (i + 1 + n) (omega arith))) z)

abbrev SeenInArmAt : Aim → (at k n : ℕ) → Arms → Sight
SeenInArmAt a at k n arms e = MetArm (rows_aimed a e) (joins_aimed a e) (aim_tok a) at k n arms

seen_from : (a : Aim) (at k i : ℕ) (arms : Arms) (e : End) (o : One) (cs : List Choice) → SeenInArms a at k i arms e o cs → (n : ℕ) × ((es : List Choice) × (cs ≡ choice at (case_arm (i + n)) ∷ es) × SeenInArmAt a at k n arms e o es)
seen_from a at k i no_arms e o cs z = absurd z
seen_from a at k i (arm rs s rest) e o cs z = ⊎_elim
    (λ h. (0, (h.0, h.1 ∙ ap (λ c. c ∷ h.0) (same_case at i (i + 0) (omega arith)), h.2)))
    (λ h. let y = seen_from a at (k + length rs + spots_block s) (i + 1) rest e o cs h in (suc y.0, (y.1.0, y.1.1 ∙ ap (λ c. c ∷ y.1.0) (same_case at (i + 1 + y.0) (i + suc y.0) (omega arith)), y.1.2))) z

seen_to : (a : Aim) (at k i n : ℕ) (arms : Arms) (e : End) (o : One) (cs es : List Choice) → cs ≡ choice at (case_arm (i + n)) ∷ es → SeenInArmAt a at k n arms e o es → SeenInArms a at k i arms e o cs
seen_to a at k i n no_arms e o cs es c z = absurd z
seen_to a at k i zero (arm rs s rest) e o cs es c z = inl (es, c ∙ ap (λ c. c ∷ es) (same_case at (i + 0) i (omega arith)), z)
seen_to a at k i (suc n) (arm rs s rest) e o cs es c z = inr (seen_to a at (k + length rs + spots_block s) (i + 1) n rest e o cs es (c ∙ ap (λ c. c ∷ es) (same_case at (i + suc n) (i + 1 + n) (omega arith))) z)

module _ (a : Aim) (at k : ℕ) (rs : List Row) (arms : Arms) (end : ℕ) (L P : List Way) (j j' : Jumps) (m m1 m2 m3 : List Seen) (w r : Went)
    (x : Walks (Passes (aim_tok a) rs) (On L) nothing_found (On P)) (y : Sees (RowsHere a at rs) (On L) (OnSeen m) (OnSeen m1)) (inside : SearchedArms a at (k + length rs) 0 arms P j j' m1 m2 w) where
  by_arms : (e : Exit) (A R : Finds One) → Walks (λ o cs q ds. WayArms (aim_tok a) at 0 arms o cs e q ds) (On P) A R → Walks (λ o cs q ds. Through (aim_tok a) at (switch rs arms end) o cs e q ds) (On L) A R
  by_arms e A R f =
      let U : Leg = λ o cs q ds. WayArms (aim_tok a) at 0 arms o cs e q ds in
      walks_map (Rowed (aim_tok a) rs U) (λ o cs q ds. Through (aim_tok a) at (switch rs arms end) o cs e q ds) (On L) A R
      (λ o cs q ds z. let h = from_arms (aim_tok a) at 0 arms z.0 cs e q ds z.2 in (z.0, z.1, (h.0, (h.1.0, h.1.1 ∙ ap (λ c. c ∷ h.1.0) (same_case at (0 + h.0) h.0 (omega arith)), h.1.2))))
      (λ o cs q ds z. let h = z.2 in (z.0, z.1, to_arms (aim_tok a) at 0 h.0 arms z.0 cs h.1.0 e q ds (h.1.1 ∙ ap (λ c. c ∷ h.1.0) (same_case at h.0 (0 + h.0) (omega arith))) h.1.2))
      (walks_rowed (aim_tok a) rs U (On L) (On P) A R x f)

  pub searched_switch : r.next ≡ w.next → Sees (JoinHere a (join_spot end (k + length rs + spots_arms arms))) (On w.next) (OnSeen m2) (OnSeen m3) → r.number ≡ k + length rs + spots_arms arms + 1 → SearchedForm a at k (switch rs arms end) L j j' m m3 r
  searched_switch same seen n =
      let t = aim_tok a in
      let W : Leg = λ o cs q ds. Through t at (switch rs arms end) o cs to_next q ds in
      let next = by_arms to_next nothing_found (On w.next) inside.next in
      let M = SeenInArms a at (k + length rs) 0 arms in
      let spot = join_spot end (k + length rs + spots_arms arms) in
      let I = RowedSight t rs M in
      let B = JoinAfter a spot W in
      let H = RowsHere a at rs in
      record {
        next = subst (λ l. Walks W (On L) nothing_found (On l)) (sym same) next;
        breaks = by_arms to_break (On j.breaks) (On j'.breaks) inside.breaks;
        continues = by_arms to_continue (On j.continues) (On j'.continues) inside.continues;
        met = sees_map (EitherSight H (EitherSight I B)) (SeenIn a at k (switch rs arms end)) (On L) (OnSeen m) (OnSeen m3)
            (λ e o cs. ⊎_elim (λ z. inl z) (⊎_elim (λ z. let h = seen_from a at (k + length rs) 0 arms e z.0 cs z.2 in inr (inl (z.0, z.1, (h.0, (h.1.0, h.1.1 ∙ ap (λ c. c ∷ h.1.0) (same_case at (0 + h.0) h.0 (omega arith)), h.1.2))))) (λ z. inr (inr z))))
            (λ e o cs. ⊎_elim (λ z. inl z) (⊎_elim (λ z. let h = z.2 in inr (inl (z.0, z.1, seen_to a at (k + length rs) 0 h.0 arms e z.0 cs h.1.0 (h.1.1 ∙ ap (λ c. c ∷ h.1.0) (same_case at h.0 (0 + h.0) (omega arith))) h.1.2))) (λ z. inr (inr z))))
            (sees_both H (EitherSight I B) (On L) (OnSeen m) (OnSeen m1) (OnSeen m3) y
            (sees_both I B (On L) (OnSeen m1) (OnSeen m2) (OnSeen m3) (sees_rowed t rs M (On L) (On P) (OnSeen m1) (OnSeen m2) x inside.met) (sees_join_after a spot W (On L) (On w.next) (OnSeen m2) (OnSeen m3) next seen)));
        number = omega (arith, n);
      }
