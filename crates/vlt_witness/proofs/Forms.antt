-- A part of each kind, from its own parts.
use Rattle.std.proofs.Common.{◌≡◌, ◌+◌, ℕ, Bool, true, false, List, [], map, length, refl, sym, subst, inl, inr, ⊎_elim, arith}
use Rattle.vlt_core.specs.Core.{Tok}
use Rattle.vlt_core.specs.Maps.{Row, away_row}
use Rattle.vlt_core.specs.Flow.{step, choose, scope, focus, return, jump, Block, block, Stmts, end_of}
use Rattle.vlt_core.specs.Found.{One, Exit, to_next, to_break, to_continue}
use Rattle.vlt_core.specs.Faults.{Spot, join_spot, spots_block, spots_stmts}
use Rattle.vlt_core.specs.Witness.{Choice, choice, then_arm, else_arm, LeadsOn, Through, ThroughBlock, ThroughStmts, RowMet}
use Rattle.vlt_witness.specs.declared.aim.Aim.{Aim}
use Rattle.vlt_witness.specs.declared.seen.Seen.{Seen}
use Rattle.vlt_witness.specs.declared.ways.Way.{Way}
use Rattle.vlt_witness.specs.declared.search.Jumps.{Jumps}
use Rattle.vlt_witness.specs.declared.search.Went.{Went}
use Rattle.vlt_witness.specs.Ways.{Finds, nothing_found, On, OnSeen, End}
use Rattle.vlt_witness.specs.Search.{Joined, Leg, Walks, Sight, Sees, Then, ThenSight, Either, EitherSight, Passes, IsSearched}
use Rattle.vlt_witness.specs.Aims.{aim_tok, joins_aimed, rows_aimed, JoinHere, RowsHere}
use Rattle.vlt_witness.specs.Parts.{SeenIn, SeenInBlock, SeenInStmts, SearchedForm, SearchedBlock, SearchedStmts, WayBy, SeenBy, IsLanded}
use Rattle.vlt_witness.proofs.Algebra.{walks_map, sees_map, walks_none, walks_both, sees_both, walks_joined, walks_then, sees_then}

pub no_break : to_break ≡ to_next → ⊥
no_break e = cc

pub no_continue : to_continue ≡ to_next → ⊥
no_continue e = cc

pub walks_empty : (T : Leg) (L : Finds One) (list : List Way) → list ≡ [] → ((o : One) (cs : List Choice) (q : One) (ds : List Choice) → T o cs q ds → ⊥) → Walks T L nothing_found (On list)
walks_empty T L list e never = record {
  found = λ f q cs r. absurd (subst (λ l. On l f q cs) e r);
  kept = λ f q cs n. absurd n;
  all = λ f o cs q l c. absurd (never o c.0 q c.1.0 c.1.1);
}

-- ---- through rows, and then on

abbrev pub Rowed : Tok → List Row → Leg → Leg
Rowed t rs U o cs q ds = (m : One) × LeadsOn t rs o m × U m cs q ds

abbrev pub RowedSight : Tok → List Row → Sight → Sight
RowedSight t rs M e o cs = (m : One) × LeadsOn t rs o m × M e m cs

pub walks_rowed : (t : Tok) (rs : List Row) (U : Leg) (L P A R : Finds One) → Walks (Passes t rs) L nothing_found P → Walks U P A R → Walks (Rowed t rs U) L A R
walks_rowed t rs U L P A R x y = walks_map (Then (Passes t rs) U) (Rowed t rs U) L A R
    (λ o cs q ds z. (z.0, z.1.1.0, subst (λ l. U z.0 l q ds) z.1.1.1 z.1.2))
    (λ o cs q ds z. (z.0, (cs, (z.1, refl), z.2))) (walks_then (Passes t rs) U L P A R x y)

pub sees_rowed : (t : Tok) (rs : List Row) (M : Sight) (L P : Finds One) (A R : Finds End) → Walks (Passes t rs) L nothing_found P → Sees M P A R → Sees (RowedSight t rs M) L A R
sees_rowed t rs M L P A R x y = sees_map (ThenSight (Passes t rs) M) (RowedSight t rs M) L A R
    (λ e o cs z. (z.0, z.1.1.0, subst (λ l. M e z.0 l) z.1.1.1 z.1.2))
    (λ e o cs z. (z.0, (cs, (z.1, refl), z.2))) (sees_then (Passes t rs) M L P A R x y)

-- on, and then through rows
abbrev pub OnRows : Tok → List Row → Leg → Leg
OnRows t rs T o cs q ds = (m : One) × T o cs m ds × LeadsOn t rs m q

pub walks_onto : (t : Tok) (rs : List Row) (T : Leg) (L P R : Finds One) → Walks T L nothing_found P → Walks (Passes t rs) P nothing_found R → Walks (OnRows t rs T) L nothing_found R
walks_onto t rs T L P R x y = walks_map (Then T (Passes t rs)) (OnRows t rs T) L nothing_found R
    (λ o cs q ds z. (z.0, subst (λ l. T o cs z.0 l) (sym z.1.2.1) z.1.1, z.1.2.0))
    (λ o cs q ds z. (z.0, (ds, z.1, (z.2, refl)))) (walks_then T (Passes t rs) L P nothing_found R x y)

-- what is met at rows after, or at a join
abbrev pub RowsAfter : Aim → (at : ℕ) → List Row → Leg → Sight
RowsAfter a at rs T e o cs = (q : One) × T o cs q [] × RowMet (rows_aimed a e) (joins_aimed a e) (aim_tok a) at rs q

pub sees_rows_after : (a : Aim) (at : ℕ) (rs : List Row) (T : Leg) (L P : Finds One) (A R : Finds End) → Walks T L nothing_found P → Sees (RowsHere a at rs) P A R → Sees (RowsAfter a at rs T) L A R
sees_rows_after a at rs T L P A R x y = sees_map (ThenSight T (RowsHere a at rs)) (RowsAfter a at rs T) L A R
    (λ e o cs z. (z.0, subst (λ l. T o cs z.0 l) z.1.2.0 z.1.1, z.1.2.1))
    (λ e o cs z. (z.0, ([], z.1, (refl, z.2)))) (sees_then T (RowsHere a at rs) L P A R x y)

abbrev pub JoinAfter : Aim → Spot → Leg → Sight
JoinAfter a s T e o cs = (q : One) × T o cs q [] × joins_aimed a e s q

pub sees_join_after : (a : Aim) (s : Spot) (T : Leg) (L P : Finds One) (A R : Finds End) → Walks T L nothing_found P → Sees (JoinHere a s) P A R → Sees (JoinAfter a s T) L A R
sees_join_after a s T L P A R x y = sees_map (ThenSight T (JoinHere a s)) (JoinAfter a s T) L A R
    (λ e o cs z. (z.0, subst (λ l. T o cs z.0 l) z.1.2.0 z.1.1, z.1.2.1))
    (λ e o cs z. (z.0, ([], z.1, (refl, z.2)))) (sees_then T (JoinHere a s) L P A R x y)

-- ---- parts without parts

module _ (a : Aim) (at k : ℕ) (rs : List Row) (L P : List Way) (j : Jumps) (m m' : List Seen) (r : Went) (x : Walks (Passes (aim_tok a) rs) (On L) nothing_found (On P)) (y : Sees (RowsHere a at rs) (On L) (OnSeen m) (OnSeen m')) where
  pub searched_step : r.next ≡ P → r.number ≡ k + length rs → SearchedForm a at k (step rs) L j j m m' r
  searched_step e n = record {
    next = walks_map (Passes (aim_tok a) rs) (λ o cs q ds. Through (aim_tok a) at (step rs) o cs to_next q ds) (On L) nothing_found (On r.next)
        (λ o cs q ds z. (refl, z.0, z.1)) (λ o cs q ds z. (z.1, z.2)) (subst (λ l. Walks (Passes (aim_tok a) rs) (On L) nothing_found (On l)) (sym e) x);
    breaks = walks_none (λ o cs q ds. Through (aim_tok a) at (step rs) o cs to_break q ds) (On L) (On j.breaks) (λ o cs q ds z. no_break z.0);
    continues = walks_none (λ o cs q ds. Through (aim_tok a) at (step rs) o cs to_continue q ds) (On L) (On j.continues) (λ o cs q ds z. no_continue z.0);
    met = sees_map (RowsHere a at rs) (SeenIn a at k (step rs)) (On L) (OnSeen m) (OnSeen m') (λ e o cs z. z) (λ e o cs z. z) y;
    number = n;
  }

  pub searched_return : r.next ≡ [] → r.number ≡ k + length rs → SearchedForm a at k (return rs) L j j m m' r
  searched_return e n = record {
    next = walks_empty (λ o cs q ds. Through (aim_tok a) at (return rs) o cs to_next q ds) (On L) r.next e (λ o cs q ds z. z);
    breaks = walks_none (λ o cs q ds. Through (aim_tok a) at (return rs) o cs to_break q ds) (On L) (On j.breaks) (λ o cs q ds z. z);
    continues = walks_none (λ o cs q ds. Through (aim_tok a) at (return rs) o cs to_continue q ds) (On L) (On j.continues) (λ o cs q ds z. z);
    met = sees_map (RowsHere a at rs) (SeenIn a at k (return rs)) (On L) (OnSeen m) (OnSeen m') (λ e o cs z. z) (λ e o cs z. z) y;
    number = n;
  }

walks_same : (T : Leg) (L : Finds One) (A B R : List Way) → B ≡ R → Walks T L (On A) (On B) → Walks T L (On A) (On R)
walks_same T L A B R e x = subst (λ l. Walks T L (On A) (On l)) e x

pub searched_jump : (c : Bool) (a : Aim) (at k : ℕ) (left : List Tok) (L P : List Way) (j j' : Jumps) (m m' : List Seen) (r : Went) → Walks (Passes (aim_tok a) (map away_row left)) (On L) nothing_found (On P) → Sees (RowsHere a at (map away_row left)) (On L) (OnSeen m) (OnSeen m') → IsLanded c P j j' → r.next ≡ [] → r.number ≡ k + length left → SearchedForm a at k (jump c left) L j j' m m' r
searched_jump true a at k left L P j j' m m' r x y l e n = let t = aim_tok a in record {
  next = walks_empty (λ o cs q ds. Through t at (jump true left) o cs to_next q ds) (On L) r.next e (λ o cs q ds z. z.0);
  breaks = walks_same (λ o cs q ds. Through t at (jump true left) o cs to_break q ds) (On L) j.breaks j.breaks j'.breaks (sym l.0) (walks_none (λ o cs q ds. Through t at (jump true left) o cs to_break q ds) (On L) (On j.breaks) (λ o cs q ds z. z.0));
  continues = walks_map (Passes t (map away_row left)) (λ o cs q ds. Through t at (jump true left) o cs to_continue q ds) (On L) (On j.continues) (On j'.continues) (λ o cs q ds z. (tt, z.0, z.1)) (λ o cs q ds z. (z.1, z.2)) (walks_joined (Passes t (map away_row left)) (On L) (On j.continues) (On P) (On j'.continues) x l.1);
  met = sees_map (RowsHere a at (map away_row left)) (SeenIn a at k (jump true left)) (On L) (OnSeen m) (OnSeen m') (λ e o cs z. z) (λ e o cs z. z) y;
  number = n;
}
searched_jump false a at k left L P j j' m m' r x y l e n = let t = aim_tok a in record {
  next = walks_empty (λ o cs q ds. Through t at (jump false left) o cs to_next q ds) (On L) r.next e (λ o cs q ds z. z.0);
  breaks = walks_map (Passes t (map away_row left)) (λ o cs q ds. Through t at (jump false left) o cs to_break q ds) (On L) (On j.breaks) (On j'.breaks) (λ o cs q ds z. (tt, z.0, z.1)) (λ o cs q ds z. (z.1, z.2)) (walks_joined (Passes t (map away_row left)) (On L) (On j.breaks) (On P) (On j'.breaks) x l.1);
  continues = walks_same (λ o cs q ds. Through t at (jump false left) o cs to_continue q ds) (On L) j.continues j.continues j'.continues (sym l.0) (walks_none (λ o cs q ds. Through t at (jump false left) o cs to_continue q ds) (On L) (On j.continues) (λ o cs q ds z. z.0));
  met = sees_map (RowsHere a at (map away_row left)) (SeenIn a at k (jump false left)) (On L) (OnSeen m) (OnSeen m') (λ e o cs z. z) (λ e o cs z. z) y;
  number = n;
}

-- ---- a choice of two

module _ (a : Aim) (at k : ℕ) (rs : List Row) (u v : Block) (L P : List Way) (j j1 j2 : Jumps) (m m1 m2 m3 m4 : List Seen) (w1 w2 r : Went)
    (x : Walks (Passes (aim_tok a) rs) (On L) nothing_found (On P)) (y : Sees (RowsHere a at rs) (On L) (OnSeen m) (OnSeen m1))
    (first : IsSearched (WayBy (aim_tok a) (choice at then_arm) u) (SeenBy a (choice at then_arm) (k + length rs) u) (k + length rs + spots_block u) P j j1 m1 m2 w1)
    (second : IsSearched (WayBy (aim_tok a) (choice at else_arm) v) (SeenBy a (choice at else_arm) (k + length rs + spots_block u) v) (k + length rs + spots_block u + spots_block v) P j1 j2 m2 m3 w2) where
  both_ways : (e : Exit) (A B R : Finds One) → Walks (λ o cs q ds. WayBy (aim_tok a) (choice at then_arm) u o cs e q ds) (On P) A B → Walks (λ o cs q ds. WayBy (aim_tok a) (choice at else_arm) v o cs e q ds) (On P) B R → Walks (λ o cs q ds. Through (aim_tok a) at (choose rs u v) o cs e q ds) (On L) A R
  both_ways e A B R f g =
      let T : Leg = λ o cs q ds. WayBy (aim_tok a) (choice at then_arm) u o cs e q ds in
      let U : Leg = λ o cs q ds. WayBy (aim_tok a) (choice at else_arm) v o cs e q ds in
      walks_map (Rowed (aim_tok a) rs (Either T U)) (λ o cs q ds. Through (aim_tok a) at (choose rs u v) o cs e q ds) (On L) A R
      (λ o cs q ds z. (z.0, z.1, ⊎_elim (λ h. (h.0, inl (h.1, h.2))) (λ h. (h.0, inr (h.1, h.2))) z.2))
      (λ o cs q ds z. (z.0, z.1, ⊎_elim (λ h. inl (z.2.0, h.0, h.1)) (λ h. inr (z.2.0, h.0, h.1)) z.2.1))
      (walks_rowed (aim_tok a) rs (Either T U) (On L) (On P) A R x (walks_both T U (On P) A B R f g))

  pub searched_choose : Joined (On w1.next) (On w2.next) (On r.next) → Sees (JoinHere a (join_spot (end_of v) (k + length rs + spots_block u + spots_block v))) (On r.next) (OnSeen m3) (OnSeen m4) → r.number ≡ k + length rs + spots_block u + spots_block v + 1 → SearchedForm a at k (choose rs u v) L j j2 m m4 r
  searched_choose joined seen n =
      let t = aim_tok a in
      let T : Leg = λ o cs q ds. WayBy t (choice at else_arm) v o cs to_next q ds in
      let next = both_ways to_next nothing_found (On w1.next) (On r.next) first.next (walks_joined T (On P) (On w1.next) (On w2.next) (On r.next) second.next joined) in
      let S1 = SeenBy a (choice at then_arm) (k + length rs) u in
      let S2 = SeenBy a (choice at else_arm) (k + length rs + spots_block u) v in
      let inside = sees_rowed t rs (EitherSight S1 S2) (On L) (On P) (OnSeen m1) (OnSeen m3) x (sees_both S1 S2 (On P) (OnSeen m1) (OnSeen m2) (OnSeen m3) first.met second.met) in
      let spot = join_spot (end_of v) (k + length rs + spots_block u + spots_block v) in
      let W : Leg = λ o cs q ds. Through t at (choose rs u v) o cs to_next q ds in
      let following = sees_join_after a spot W (On L) (On r.next) (OnSeen m3) (OnSeen m4) next seen in
      let I = RowedSight t rs (EitherSight S1 S2) in
      let B = JoinAfter a spot W in
      let H = RowsHere a at rs in
      record {
        next = next;
        breaks = both_ways to_break (On j.breaks) (On j1.breaks) (On j2.breaks) first.breaks second.breaks;
        continues = both_ways to_continue (On j.continues) (On j1.continues) (On j2.continues) first.continues second.continues;
        met = sees_map (EitherSight H (EitherSight I B)) (SeenIn a at k (choose rs u v)) (On L) (OnSeen m) (OnSeen m4)
            (λ e o cs. ⊎_elim (λ z. inl z) (⊎_elim (λ z. inr (inl (z.0, z.1, ⊎_elim (λ h. (h.0, inl (h.1, h.2))) (λ h. (h.0, inr (h.1, h.2))) z.2))) (λ z. inr (inr z))))
            (λ e o cs. ⊎_elim (λ z. inl z) (⊎_elim (λ z. inr (inl (z.0, z.1, ⊎_elim (λ h. inl (z.2.0, h.0, h.1)) (λ h. inr (z.2.0, h.0, h.1)) z.2.1))) (λ z. inr (inr z))))
            (sees_both H (EitherSight I B) (On L) (OnSeen m) (OnSeen m1) (OnSeen m4) y (sees_both I B (On L) (OnSeen m1) (OnSeen m3) (OnSeen m4) inside following));
        number = omega (arith, n);
      }

-- ---- a block, a scope, a focus

module _ (a : Aim) (k : ℕ) (ss : Stmts) (bound : List Tok) (end : ℕ) (L : List Way) (j j' : Jumps) (m m1 m2 : List Seen) (w r : Went) (inside : SearchedStmts a k ss L j j' m m1 w) where
  pub searched_block : Walks (Passes (aim_tok a) (map away_row bound)) (On w.next) nothing_found (On r.next) → Sees (RowsHere a end (map away_row bound)) (On w.next) (OnSeen m1) (OnSeen m2) → r.number ≡ k + spots_stmts ss + length bound → SearchedBlock a k (block ss bound end) L j j' m m2 r
  searched_block x y n =
      let t = aim_tok a in
      let T : Leg = λ o cs q ds. ThroughStmts t ss o cs to_next q ds in
      let B = RowsAfter a end (map away_row bound) T in
      record {
        next = walks_map (OnRows t (map away_row bound) T) (λ o cs q ds. ThroughBlock t (block ss bound end) o cs to_next q ds) (On L) nothing_found (On r.next) (λ o cs q ds z. z) (λ o cs q ds z. z)
            (walks_onto t (map away_row bound) T (On L) (On w.next) (On r.next) inside.next x);
        breaks = walks_map (λ o cs q ds. ThroughStmts t ss o cs to_break q ds) (λ o cs q ds. ThroughBlock t (block ss bound end) o cs to_break q ds) (On L) (On j.breaks) (On j'.breaks) (λ o cs q ds z. z) (λ o cs q ds z. z) inside.breaks;
        continues = walks_map (λ o cs q ds. ThroughStmts t ss o cs to_continue q ds) (λ o cs q ds. ThroughBlock t (block ss bound end) o cs to_continue q ds) (On L) (On j.continues) (On j'.continues) (λ o cs q ds z. z) (λ o cs q ds z. z) inside.continues;
        met = sees_map (EitherSight (SeenInStmts a k ss) B) (SeenInBlock a k (block ss bound end)) (On L) (OnSeen m) (OnSeen m2) (λ e o cs z. z) (λ e o cs z. z)
            (sees_both (SeenInStmts a k ss) B (On L) (OnSeen m) (OnSeen m1) (OnSeen m2) inside.met (sees_rows_after a end (map away_row bound) T (On L) (On w.next) (OnSeen m1) (OnSeen m2) inside.next y));
        number = omega (arith, n);
      }

pub searched_scope : (a : Aim) (at k : ℕ) (s : Block) (L : List Way) (j j' : Jumps) (m m' : List Seen) (r : Went) → SearchedBlock a k s L j j' m m' r → SearchedForm a at k (scope s) L j j' m m' r
searched_scope a at k s L j j' m m' r x = let t = aim_tok a in record {
  next = walks_map (λ o cs q ds. ThroughBlock t s o cs to_next q ds) (λ o cs q ds. Through t at (scope s) o cs to_next q ds) (On L) nothing_found (On r.next) (λ o cs q ds z. z) (λ o cs q ds z. z) x.next;
  breaks = walks_map (λ o cs q ds. ThroughBlock t s o cs to_break q ds) (λ o cs q ds. Through t at (scope s) o cs to_break q ds) (On L) (On j.breaks) (On j'.breaks) (λ o cs q ds z. z) (λ o cs q ds z. z) x.breaks;
  continues = walks_map (λ o cs q ds. ThroughBlock t s o cs to_continue q ds) (λ o cs q ds. Through t at (scope s) o cs to_continue q ds) (On L) (On j.continues) (On j'.continues) (λ o cs q ds z. z) (λ o cs q ds z. z) x.continues;
  met = sees_map (SeenInBlock a k s) (SeenIn a at k (scope s)) (On L) (OnSeen m) (OnSeen m') (λ e o cs z. z) (λ e o cs z. z) x.met;
  number = x.number;
}

module _ (a : Aim) (at k : ℕ) (rs : List Row) (s : Block) (es : List Row) (L P : List Way) (j i i' : Jumps) (m m1 m2 m3 : List Seen) (w r : Went)
    (x : Walks (Passes (aim_tok a) rs) (On L) nothing_found (On P)) (y : Sees (RowsHere a at rs) (On L) (OnSeen m) (OnSeen m1)) (inside : SearchedBlock a (k + length rs) s P i i' m1 m2 w) where
  pub searched_focus : Walks (Passes (aim_tok a) es) (On w.next) nothing_found (On r.next) → Sees (RowsHere a (end_of s) es) (On w.next) (OnSeen m2) (OnSeen m3) → r.number ≡ k + length rs + spots_block s + length es → SearchedForm a at k (focus rs s es) L j j m m3 r
  searched_focus u v n =
      let t = aim_tok a in
      let T : Leg = λ o cs q ds. ThroughBlock t s o cs to_next q ds in
      let M = SeenInBlock a (k + length rs) s in
      let B = RowsAfter a (end_of s) es T in
      let H = RowsHere a at rs in
      record {
        next = walks_map (Rowed t rs (OnRows t es T)) (λ o cs q ds. Through t at (focus rs s es) o cs to_next q ds) (On L) nothing_found (On r.next)
            (λ o cs q ds z. (refl, (z.0, z.1, (z.2.0, z.2.1, z.2.2)))) (λ o cs q ds z. let h = z.1 in (h.0, h.1, (h.2.0, h.2.1, h.2.2)))
            (walks_rowed t rs (OnRows t es T) (On L) (On P) nothing_found (On r.next) x (walks_onto t es T (On P) (On w.next) (On r.next) inside.next u));
        breaks = walks_none (λ o cs q ds. Through t at (focus rs s es) o cs to_break q ds) (On L) (On j.breaks) (λ o cs q ds z. no_break z.0);
        continues = walks_none (λ o cs q ds. Through t at (focus rs s es) o cs to_continue q ds) (On L) (On j.continues) (λ o cs q ds z. no_continue z.0);
        met = sees_map (EitherSight H (EitherSight (RowedSight t rs M) (RowedSight t rs B))) (SeenIn a at k (focus rs s es)) (On L) (OnSeen m) (OnSeen m3)
            (λ e o cs. ⊎_elim (λ z. inl z) (⊎_elim (λ z. inr (inl z)) (λ z. inr (inr (z.0, z.1, z.2)))))
            (λ e o cs. ⊎_elim (λ z. inl z) (⊎_elim (λ z. inr (inl z)) (λ z. inr (inr (z.0, z.1, z.2)))))
            (sees_both H (EitherSight (RowedSight t rs M) (RowedSight t rs B)) (On L) (OnSeen m) (OnSeen m1) (OnSeen m3) y
            (sees_both (RowedSight t rs M) (RowedSight t rs B) (On L) (OnSeen m1) (OnSeen m2) (OnSeen m3)
            (sees_rowed t rs M (On L) (On P) (OnSeen m1) (OnSeen m2) x inside.met)
            (sees_rowed t rs B (On L) (On P) (OnSeen m2) (OnSeen m3) x (sees_rows_after a (end_of s) es T (On P) (On w.next) (OnSeen m2) (OnSeen m3) inside.next v))));
        number = omega (arith, n);
      }
