-- What two paths meet of the joins of each part of a body.
use Rattle.std.proofs.Common.{◌≡◌, ◌∙◌, ◌≤◌, ◌<◌, ℕ, zero, suc, ◌+◌, Bool, true, false, List, [], ◌∷◌, map, length, refl, sym, ap, subst, inl, inr, ⊎_elim, arith}
use Rattle.vlt_core.specs.Core.{Tok}
use Rattle.vlt_core.specs.Maps.{Row, away_row}
use Rattle.vlt_core.specs.Flow.{Flow, step, choose, loop, switch, scope, focus, return, jump, Block, block, Stmts, done, next, Arms, no_arms, arm, end_of}
use Rattle.vlt_core.specs.Found.{One}
use Rattle.vlt_core.specs.Faults.{Spot, IsPresent, join_spot, head_spot, spots, spots_block, spots_stmts, spots_arms}
use Rattle.vlt_core.specs.Witness.{Choice, choice, then_arm, else_arm, turn, case_arm, Reaches, NoRow, IsJoin, ThroughBlock, MetArm}
use Rattle.vlt_paths.specs.Along.{Sought}
use Rattle.vlt_paths.specs.Legs.{Leg, Past, Takes, Onward, Around}
use Rattle.vlt_paths.specs.Pairs.{Two, AreLed, Sight, Sees, IsGone, Meet, Then, Either, AtJoin, InForm, InBlock, InStmts, InArm, Following, InChosen, InArms, InSwitch, AtTurn, InLoop}
use Rattle.vlt_paths.proofs.Going.{number_of, same_pick, more_reached, reach_more}
use Rattle.vlt_paths.proofs.Ranges.{no_row, in_form, in_block, in_stmts, in_arm}
use Rattle.vlt_paths.proofs.Meeting.{IsSame, IsWithin, IsBlind, meet_unseen, meet_blind, meet_same, meet_led, meet_first, meet_second}

-- ---- numbers of the joins that are seen

within_then : (leg : Leg) (M : Sight) (low high : ℕ) → IsWithin M low high → IsWithin (Then leg M) low high
within_then leg M low high w = record { within = λ s is o cs h. w.within s is h.0 h.1.0 h.1.2 }

within_either : (M N : Sight) (low mid high : ℕ) → low ≤ mid → mid ≤ high → IsWithin M low mid → IsWithin N mid high → IsWithin (Either M N) low high
within_either M N low mid high a b wm wn = record { within = λ s is o cs h. by s is o cs h }
  where
    by : (s : Spot) (is : One → Type 0) (o : One) (cs : List Choice) → Either M N (IsJoin s is) o cs → (low ≤ s.number) × (s.number < high)
    by s is o cs (inl h) = let c = wm.within s is o cs h in let l = c.0 in let r = c.1 in (omega (arith, l), omega (arith, r, b))
    by s is o cs (inr h) = let c = wn.within s is o cs h in let l = c.0 in let r = c.1 in (omega (arith, l, a), omega (arith, r))

within_join : (p : Spot) → IsWithin (AtJoin p) p.number (p.number + 1)
within_join p = record { within = λ s is o cs h. let e = ap (λ x. x.number) h.1.0 in (omega (arith, e), omega (arith, e)) }

module _ (t : Tok) where
  within_form : (at k : ℕ) (s : Flow) → IsWithin (InForm t at k s) k (k + spots s)
  within_form at k s = record { within = λ p is o cs h. in_form t p is at k s o cs h }

  within_block : (k : ℕ) (s : Block) → IsWithin (InBlock t k s) k (k + spots_block s)
  within_block k s = record { within = λ p is o cs h. in_block t p is k s o cs h }

  within_stmts : (k : ℕ) (ss : Stmts) → IsWithin (InStmts t k ss) k (k + spots_stmts ss)
  within_stmts k ss = record { within = λ p is o cs h. in_stmts t p is k ss o cs h }

  within_arms : (at k : ℕ) (arms : Arms) → IsWithin (InArms t at k arms) k (k + spots_arms arms)
  within_arms at k arms = record { within = λ p is o cs h. in_arm t p is at k h.0 arms h.1.0 h.1.1.0 h.1.1.2 }

  within_chosen : (c : Choice) (k : ℕ) (s : Block) → IsWithin (InChosen t c k s) k (k + spots_block s)
  within_chosen c k s = within_then (Takes c) (InBlock t k s) k (k + spots_block s) (within_block k s)

  -- ---- statements without blocks

  pub meet_step : (at k : ℕ) (rs : List Row) (x : Two) → Meet (InForm t at k (step rs)) x false
  meet_step at k rs x = meet_blind (InForm t at k (step rs)) x (record { blind = λ s is o cs h. no_row t s is at rs o h.1 })

  pub meet_return : (at k : ℕ) (rs : List Row) (x : Two) → Meet (InForm t at k (return rs)) x false
  meet_return at k rs x = meet_blind (InForm t at k (return rs)) x (record { blind = λ s is o cs h. no_row t s is at rs o h.1 })

  pub meet_jump : (at k : ℕ) (continues : Bool) (left : List Tok) (x : Two) → Meet (InForm t at k (jump continues left)) x false
  meet_jump at k continues left x = meet_blind (InForm t at k (jump continues left)) x (record { blind = λ s is o cs h. no_row t s is at (map away_row left) o h.1 })

  -- ---- lists and blocks

  pub meet_done : (k : ℕ) (x : Two) → Meet (InStmts t k done) x false
  meet_done k x = meet_blind (InStmts t k done) x (record { blind = λ s is o cs h. h })

  module _ (at k : ℕ) (s : Flow) (rest : Stmts) (x : Two) where
    pub meet_here : Meet (InForm t at k s) x true → Meet (InStmts t k (next at s rest)) x true
    meet_here m = meet_first (InForm t at k s) (Then (Onward t at s) (InStmts t (k + spots s) rest)) x m

    pub meet_next : (y : Two) (b : Bool) → Meet (InForm t at k s) x false → AreLed (Onward t at s) x y → Meet (InStmts t (k + spots s) rest) y b → Meet (InStmts t k (next at s rest)) x b
    meet_next y b m l n =
        meet_second (InForm t at k s) (Then (Onward t at s) (InStmts t (k + spots s) rest)) x k (k + spots s) (k + spots s + spots_stmts rest) b
        (within_form at k s)
        (within_then (Onward t at s) (InStmts t (k + spots s) rest) (k + spots s) (k + spots s + spots_stmts rest) (within_stmts (k + spots s) rest))
        m (meet_led (Onward t at s) (InStmts t (k + spots s) rest) x y b l n)

  pub meet_block : (k : ℕ) (ss : Stmts) (bound : List Tok) (end : ℕ) (x : Two) (b : Bool) → Meet (InStmts t k ss) x b → Meet (InBlock t k (block ss bound end)) x b
  meet_block k ss bound end x b m = meet_same (InStmts t k ss) (InBlock t k (block ss bound end)) x b (record { same = λ s is o cs. (λ h. inl h, λ h. ⊎_elim (λ a. a) (λ a. absurd (no_row t s is end (map away_row bound) a.0 a.2)) h) }) m

  pub meet_scope : (at k : ℕ) (s : Block) (x : Two) (b : Bool) → Meet (InBlock t k s) x b → Meet (InForm t at k (scope s)) x b
  meet_scope at k s x b m = m

  pub meet_focus : (at k : ℕ) (rs : List Row) (s : Block) (es : List Row) (x y : Two) (b : Bool) → AreLed (Past t rs) x y → Meet (InBlock t (k + length rs) s) y b → Meet (InForm t at k (focus rs s es)) x b
  meet_focus at k rs s es x y b l m =
      meet_same (Then (Past t rs) (InBlock t (k + length rs) s)) (InForm t at k (focus rs s es)) x b (record { same = λ p is o cs. (λ h. to p is o cs h, λ h. from p is o cs h) })
      (meet_led (Past t rs) (InBlock t (k + length rs) s) x y b l m)
    where
      to : (p : Spot) (is : One → Type 0) (o : One) (cs : List Choice) → Then (Past t rs) (InBlock t (k + length rs) s) (IsJoin p is) o cs → InForm t at k (focus rs s es) (IsJoin p is) o cs
      to p is o cs h = inr (inl (h.0, h.1.1.0, subst (λ c. InBlock t (k + length rs) s (IsJoin p is) h.0 c) h.1.1.1 h.1.2))

      from : (p : Spot) (is : One → Type 0) (o : One) (cs : List Choice) → InForm t at k (focus rs s es) (IsJoin p is) o cs → Then (Past t rs) (InBlock t (k + length rs) s) (IsJoin p is) o cs
      from p is o cs (inl h) = absurd (no_row t p is at rs o h.1)
      from p is o cs (inr (inl h)) = (h.0, (cs, (h.1, refl), h.2))
      from p is o cs (inr (inr h)) = absurd (no_row t p is (end_of s) es h.2.0 h.2.2)

  -- ---- a part, and the join after it

  module _ (at n : ℕ) (low end : ℕ) (s : Flow) (M : Sight) (k : ℕ) (w : IsWithin M low n) (e : IsSame (Either M (Following t at s (join_spot end n))) (InForm t at k s)) (x : Two) where
    meet_inside : Meet M x true → Meet (InForm t at k s) x true
    meet_inside m = meet_same (Either M (Following t at s (join_spot end n))) (InForm t at k s) x true e (meet_first M (Following t at s (join_spot end n)) x m)

    meet_after : (b : Bool) → Meet M x false → Meet (Following t at s (join_spot end n)) x b → Meet (InForm t at k s) x b
    meet_after b m j = meet_same (Either M (Following t at s (join_spot end n))) (InForm t at k s) x b e
        (meet_second M (Following t at s (join_spot end n)) x low n (n + 1) b w (within_then (Onward t at s) (AtJoin (join_spot end n)) n (n + 1) (within_join (join_spot end n))) m j)

  -- ---- choices

  -- the blocks of a choice
  abbrev pub InChoice : (at k : ℕ) → Block → Block → Sight
  InChoice at k a b = Either (InChosen t (choice at then_arm) k a) (InChosen t (choice at else_arm) (k + spots_block a) b)

  module _ (k : ℕ) (at : ℕ) (a b : Block) (x : Two) where
    pub meet_then : (y : Two) → AreLed (Takes (choice at then_arm)) x y → Meet (InBlock t k a) y true → Meet (InChoice at k a b) x true
    meet_then y l m = meet_first (InChosen t (choice at then_arm) k a) (InChosen t (choice at else_arm) (k + spots_block a) b) x (meet_led (Takes (choice at then_arm)) (InBlock t k a) x y true l m)

    pub meet_else : (y z : Two) (r : Bool) → AreLed (Takes (choice at then_arm)) x y → Meet (InBlock t k a) y false → AreLed (Takes (choice at else_arm)) x z → Meet (InBlock t (k + spots_block a) b) z r → Meet (InChoice at k a b) x r
    meet_else y z r l m j n = meet_second (InChosen t (choice at then_arm) k a) (InChosen t (choice at else_arm) (k + spots_block a) b) x k (k + spots_block a) (k + spots_block a + spots_block b) r
        (within_chosen (choice at then_arm) k a) (within_chosen (choice at else_arm) (k + spots_block a) b)
        (meet_led (Takes (choice at then_arm)) (InBlock t k a) x y false l m)
        (meet_led (Takes (choice at else_arm)) (InBlock t (k + spots_block a) b) x z r j n)

  module _ (at k : ℕ) (rs : List Row) (a b : Block) where
    abbrev Inside : Sight
    Inside = Then (Past t rs) (InChoice at (k + length rs) a b)

    inside_within : IsWithin Inside (k + length rs) (k + length rs + spots_block a + spots_block b)
    inside_within = within_then (Past t rs) (InChoice at (k + length rs) a b) (k + length rs) (k + length rs + spots_block a + spots_block b)
        (within_either (InChosen t (choice at then_arm) (k + length rs) a) (InChosen t (choice at else_arm) (k + length rs + spots_block a) b)
        (k + length rs) (k + length rs + spots_block a) (k + length rs + spots_block a + spots_block b) (omega arith) (omega arith)
        (within_chosen (choice at then_arm) (k + length rs) a) (within_chosen (choice at else_arm) (k + length rs + spots_block a) b))

    choose_same : IsSame (Either Inside (Following t at (choose rs a b) (join_spot (end_of b) (k + length rs + spots_block a + spots_block b)))) (InForm t at k (choose rs a b))
    choose_same = record { same = λ p is o cs. (λ h. to p is o cs h, λ h. from p is o cs h) }
      where
        to : (p : Spot) (is : One → Type 0) (o : One) (cs : List Choice) → Either Inside (Following t at (choose rs a b) (join_spot (end_of b) (k + length rs + spots_block a + spots_block b))) (IsJoin p is) o cs → InForm t at k (choose rs a b) (IsJoin p is) o cs
        to p is o cs (inl (m, (ds, l, inl (q, (es, c, h))))) = inr (inl (m, l.0, (es, inl (sym l.1 ∙ c.1, subst (λ z. InBlock t (k + length rs) a (IsJoin p is) z es) c.0 h))))
        to p is o cs (inl (m, (ds, l, inr (q, (es, c, h))))) = inr (inl (m, l.0, (es, inr (sym l.1 ∙ c.1, subst (λ z. InBlock t (k + length rs + spots_block a) b (IsJoin p is) z es) c.0 h))))
        to p is o cs (inr (q, (ds, w, j))) = inr (inr (q, subst (λ d. Onward t at (choose rs a b) o cs q d) j.0 w, j.1))

        from : (p : Spot) (is : One → Type 0) (o : One) (cs : List Choice) → InForm t at k (choose rs a b) (IsJoin p is) o cs → Either Inside (Following t at (choose rs a b) (join_spot (end_of b) (k + length rs + spots_block a + spots_block b))) (IsJoin p is) o cs
        from p is o cs (inl h) = absurd (no_row t p is at rs o h.1)
        from p is o cs (inr (inl (m, l, (es, inl h)))) = inl (m, (cs, (l, refl), inl (m, (es, (refl, h.0), h.1))))
        from p is o cs (inr (inl (m, l, (es, inr h)))) = inl (m, (cs, (l, refl), inr (m, (es, (refl, h.0), h.1))))
        from p is o cs (inr (inr h)) = inr (h.0, ([], h.1, (refl, h.2)))

    pub choose_inside : (x y : Two) → AreLed (Past t rs) x y → Meet (InChoice at (k + length rs) a b) y true → Meet (InForm t at k (choose rs a b)) x true
    choose_inside x y l m = meet_inside at (k + length rs + spots_block a + spots_block b) (k + length rs) (end_of b) (choose rs a b) Inside k inside_within choose_same x
        (meet_led (Past t rs) (InChoice at (k + length rs) a b) x y true l m)

    pub choose_after : (x y : Two) (r : Bool) → AreLed (Past t rs) x y → Meet (InChoice at (k + length rs) a b) y false → Meet (Following t at (choose rs a b) (join_spot (end_of b) (k + length rs + spots_block a + spots_block b))) x r → Meet (InForm t at k (choose rs a b)) x r
    choose_after x y r l m j = meet_after at (k + length rs + spots_block a + spots_block b) (k + length rs) (end_of b) (choose rs a b) Inside k inside_within choose_same x r
        (meet_led (Past t rs) (InChoice at (k + length rs) a b) x y false l m) j

  -- ---- switches

  -- the joins of an arm aren't those of another
  first_apart : (at k j : ℕ) (rs : List Row) (b : Block) (rest : Arms) (is is' : One → Type 0) (s : Spot) (o q : One) (cs ds : List Choice) → MetArm NoRow (IsJoin s is) t at k zero (arm rs b rest) o cs → MetArm NoRow (IsJoin s is') t at k (suc j) (arm rs b rest) q ds → ⊥
  first_apart at k j rs b rest is is' s o q cs ds (inl x) y = no_row t s is at rs o x.1
  first_apart at k j rs b rest is is' s o q cs ds (inr x) y =
      let p = (in_block t s is (k + length rs) b x.0 cs x.2).1 in
      let r = (in_arm t s is' at (k + length rs + spots_block b) j rest q ds y).0 in
      omega (arith, p, r)

  one_arm : (at k i j : ℕ) (arms : Arms) (is is' : One → Type 0) (s : Spot) (o q : One) (cs ds : List Choice) → MetArm NoRow (IsJoin s is) t at k i arms o cs → MetArm NoRow (IsJoin s is') t at k j arms q ds → i ≡ j
  one_arm at k i j no_arms is is' s o q cs ds x y = absurd x
  one_arm at k zero zero (arm rs b rest) is is' s o q cs ds x y = refl
  one_arm at k zero (suc j) (arm rs b rest) is is' s o q cs ds x y = absurd (first_apart at k j rs b rest is is' s o q cs ds x y)
  one_arm at k (suc i) zero (arm rs b rest) is is' s o q cs ds x y = absurd (first_apart at k i rs b rest is' is s q o ds cs y x)
  one_arm at k (suc i) (suc j) (arm rs b rest) is is' s o q cs ds x y = ap suc (one_arm at (k + length rs + spots_block b) i j rest is is' s o q cs ds x y)

  module _ (at k : ℕ) (arms : Arms) where
    abbrev InThis : ℕ → Sight
    InThis i = Then (Takes (choice at (case_arm i))) (InArm t at k i arms)

    -- the arm that the first path chooses
    pub meet_arm : (i : ℕ) (l : List Choice) (x y : Two) (b : Bool) → x.first.left ≡ choice at (case_arm i) ∷ l → AreLed (Takes (choice at (case_arm i))) x y → Meet (InArm t at k i arms) y b → Meet (InArms t at k arms) x b
    meet_arm i l x y b e led m = record {
      same = (
        λ h. let c = here.same.0 h in (c.0, c.1, (c.2.0, c.2.1, (i, c.2.2)), (c.3.0, c.3.1, (i, c.3.2))),
        λ c. here.same.1 (only c.0 c.1 c.2 c.3),
      );
    }
      where
        here : Meet (InThis i) x b
        here = meet_led (Takes (choice at (case_arm i))) (InArm t at k i arms) x y b led m

        same : (j : ℕ) → number_of (case_arm j) ≡ number_of (case_arm i) → j ≡ i
        same j n = omega (arith, n)

        only : (s : Spot) → s.at ≡ x.place → Sees x.first IsGone (InArms t at k arms) s → Sees x.second IsPresent (InArms t at k arms) s → (s : Spot) × (s.at ≡ x.place) × Sees x.first IsGone (InThis i) s × Sees x.second IsPresent (InThis i) s
        only s there f g =
            let j = f.2.0 in
            let n = g.2.0 in
            let a = same j (same_pick x.first.left f.2.1.1.0 l at (case_arm j) (case_arm i) f.2.1.1.1.1 e) in
            let z = one_arm at k j n arms IsGone IsPresent s f.2.1.0 g.2.1.0 f.2.1.1.0 g.2.1.1.0 f.2.1.1.2 g.2.1.1.2 in (
              s,
              there,
              (f.0, f.1, subst (λ u. InThis u (IsJoin s IsGone) f.0 x.first.left) a f.2.1),
              (g.0, g.1, subst (λ u. InThis u (IsJoin s IsPresent) g.0 x.second.left) (sym z ∙ a) g.2.1),
            )

    -- the first path chooses none
    pub no_arm_chosen : (x : Two) → ((i : ℕ) (l : List Choice) → x.first.left ≡ choice at (case_arm i) ∷ l → ⊥) → Meet (InArms t at k arms) x false
    no_arm_chosen x f = meet_unseen (InArms t at k arms) (InArms t at k arms) x (λ s a b. f a.2.0 a.2.1.1.0 a.2.1.1.1.1)

    -- the first path chooses one that isn't there
    pub no_arm_there : (i : ℕ) (l : List Choice) (x : Two) → x.first.left ≡ choice at (case_arm i) ∷ l → IsBlind (InArm t at k i arms) → Meet (InArms t at k arms) x false
    no_arm_there i l x e f = meet_unseen (InArms t at k arms) (InArms t at k arms) x
        (λ s a b. f.blind s IsGone a.2.1.0 a.2.1.1.0 (subst (λ j. InArm t at k j arms (IsJoin s IsGone) a.2.1.0 a.2.1.1.0) (same a.2.0 (same_pick x.first.left a.2.1.1.0 l at (case_arm a.2.0) (case_arm i) a.2.1.1.1.1 e)) a.2.1.1.2))
      where
        same : (j : ℕ) → number_of (case_arm j) ≡ number_of (case_arm i) → j ≡ i
        same j n = omega (arith, n)

  -- the first arm of a list
  pub first_arm : (at k : ℕ) (rs : List Row) (s : Block) (rest : Arms) (x y : Two) (b : Bool) → AreLed (Past t rs) x y → Meet (InBlock t (k + length rs) s) y b → Meet (InArm t at k zero (arm rs s rest)) x b
  first_arm at k rs s rest x y b l m =
      meet_same (Then (Past t rs) (InBlock t (k + length rs) s)) (InArm t at k zero (arm rs s rest)) x b (record { same = λ p is o cs. (λ h. to p is o cs h, λ h. from p is o cs h) })
      (meet_led (Past t rs) (InBlock t (k + length rs) s) x y b l m)
    where
      to : (p : Spot) (is : One → Type 0) (o : One) (cs : List Choice) → Then (Past t rs) (InBlock t (k + length rs) s) (IsJoin p is) o cs → InArm t at k zero (arm rs s rest) (IsJoin p is) o cs
      to p is o cs h = inr (h.0, h.1.1.0, subst (λ c. InBlock t (k + length rs) s (IsJoin p is) h.0 c) h.1.1.1 h.1.2)

      from : (p : Spot) (is : One → Type 0) (o : One) (cs : List Choice) → InArm t at k zero (arm rs s rest) (IsJoin p is) o cs → Then (Past t rs) (InBlock t (k + length rs) s) (IsJoin p is) o cs
      from p is o cs (inl h) = absurd (no_row t p is at rs o h.1)
      from p is o cs (inr h) = (h.0, (cs, (h.1, refl), h.2))

  module _ (at k : ℕ) (rs : List Row) (arms : Arms) (end : ℕ) where
    switch_same : IsSame (Either (InSwitch t at k rs arms) (Following t at (switch rs arms end) (join_spot end (k + length rs + spots_arms arms)))) (InForm t at k (switch rs arms end))
    switch_same = record { same = λ p is o cs. (λ h. to p is o cs h, λ h. from p is o cs h) }
      where
        to : (p : Spot) (is : One → Type 0) (o : One) (cs : List Choice) → Either (InSwitch t at k rs arms) (Following t at (switch rs arms end) (join_spot end (k + length rs + spots_arms arms))) (IsJoin p is) o cs → InForm t at k (switch rs arms end) (IsJoin p is) o cs
        to p is o cs (inl (m, (ds, l, (i, (q, (es, c, h)))))) = inr (inl (m, l.0, (i, (es, sym l.1 ∙ c.1, subst (λ z. InArm t at (k + length rs) i arms (IsJoin p is) z es) c.0 h))))
        to p is o cs (inr (q, (ds, w, j))) = inr (inr (q, subst (λ d. Onward t at (switch rs arms end) o cs q d) j.0 w, j.1))

        from : (p : Spot) (is : One → Type 0) (o : One) (cs : List Choice) → InForm t at k (switch rs arms end) (IsJoin p is) o cs → Either (InSwitch t at k rs arms) (Following t at (switch rs arms end) (join_spot end (k + length rs + spots_arms arms))) (IsJoin p is) o cs
        from p is o cs (inl h) = absurd (no_row t p is at rs o h.1)
        from p is o cs (inr (inl (m, l, (i, (es, c, h))))) = inl (m, (cs, (l, refl), (i, (m, (es, (refl, c), h)))))
        from p is o cs (inr (inr h)) = inr (h.0, ([], h.1, (refl, h.2)))

    switch_within : IsWithin (InSwitch t at k rs arms) (k + length rs) (k + length rs + spots_arms arms)
    switch_within = within_then (Past t rs) (InArms t at (k + length rs) arms) (k + length rs) (k + length rs + spots_arms arms) (within_arms at (k + length rs) arms)

    pub switch_inside : (x : Two) → Meet (InSwitch t at k rs arms) x true → Meet (InForm t at k (switch rs arms end)) x true
    switch_inside x m = meet_inside at (k + length rs + spots_arms arms) (k + length rs) end (switch rs arms end) (InSwitch t at k rs arms) k switch_within switch_same x m

    pub switch_after : (x : Two) (b : Bool) → Meet (InSwitch t at k rs arms) x false → Meet (Following t at (switch rs arms end) (join_spot end (k + length rs + spots_arms arms))) x b → Meet (InForm t at k (switch rs arms end)) x b
    switch_after x b m j = meet_after at (k + length rs + spots_arms arms) (k + length rs) end (switch rs arms end) (InSwitch t at k rs arms) k switch_within switch_same x b m j

  -- ---- loops

  module _ (at k : ℕ) (rs : List Row) (s : Block) where
    abbrev Body : Sight
    Body = Then (Past t rs) (InChosen t (choice at turn) (k + 1 + length rs) s)

    body_within : IsWithin Body (k + 1) (k + 1 + length rs + spots_block s)
    body_within = wider (within_then (Past t rs) (InChosen t (choice at turn) (k + 1 + length rs) s) (k + 1 + length rs) (k + 1 + length rs + spots_block s) (within_chosen (choice at turn) (k + 1 + length rs) s))
      where
        wider : IsWithin Body (k + 1 + length rs) (k + 1 + length rs + spots_block s) → IsWithin Body (k + 1) (k + 1 + length rs + spots_block s)
        wider w = record { within = λ p is o cs h. let c = w.within p is o cs h in let l = c.0 in let r = c.1 in (omega (arith, l), omega (arith, r)) }

    head_within : IsWithin (AtJoin (head_spot at k)) k (k + 1)
    head_within = within_join (head_spot at k)

    turn_within : IsWithin (AtTurn t at k rs s) k (k + 1 + length rs + spots_block s)
    turn_within = within_either (AtJoin (head_spot at k)) Body k (k + 1) (k + 1 + length rs + spots_block s) (omega arith) (omega arith) head_within body_within

    loop_within : IsWithin (InLoop t at k rs s) k (k + 1 + length rs + spots_block s)
    loop_within = record { within = λ p is o cs h. turn_within.within p is h.1.0 h.1.1.0 h.1.1.2 }

    pub meet_turn_head : (x : Two) → Meet (AtJoin (head_spot at k)) x true → Meet (AtTurn t at k rs s) x true
    meet_turn_head x m = meet_first (AtJoin (head_spot at k)) Body x m

    pub meet_turn_body : (x y z : Two) (b : Bool) → Meet (AtJoin (head_spot at k)) x false → AreLed (Past t rs) x y → AreLed (Takes (choice at turn)) y z → Meet (InBlock t (k + 1 + length rs) s) z b → Meet (AtTurn t at k rs s) x b
    meet_turn_body x y z b h l c m = meet_second (AtJoin (head_spot at k)) Body x k (k + 1) (k + 1 + length rs + spots_block s) b head_within body_within h
        (meet_led (Past t rs) (InChosen t (choice at turn) (k + 1 + length rs) s) x y b l (meet_led (Takes (choice at turn)) (InBlock t (k + 1 + length rs) s) y z b c m))

    -- a turn, and then the loop again
    pub loop_turns : Sought → IsSame (InLoop t at k rs s) (Either (AtTurn t at k rs s) (Then (Around t rs s at) (InLoop t at k rs s)))
    loop_turns P = record { same = λ p is o cs. (λ h. to p is o cs h.0 h.1.0 h.1.1.0 h.1.1.1 h.1.1.2, λ h. from p is o cs h) }
      where
        to : (p : Spot) (is : One → Type 0) (o : One) (cs : List Choice) (n : ℕ) (q : One) (ds : List Choice) → Reaches (ThroughBlock t s) t rs at n o cs q ds → AtTurn t at k rs s (IsJoin p is) q ds → Either (AtTurn t at k rs s) (Then (Around t rs s at) (InLoop t at k rs s)) (IsJoin p is) o cs
        to p is o cs zero q ds r h = inl (subst (λ d. AtTurn t at k rs s (IsJoin p is) o d) r.1 (subst (λ i. AtTurn t at k rs s (IsJoin p is) i ds) r.0 h))
        to p is o cs (suc n) q ds r h = let i = more_reached P t at rs s n o q cs ds r in inr (i.0, (i.1.0, i.1.1, (n, (q, (ds, i.1.2, h)))))

        from : (p : Spot) (is : One → Type 0) (o : One) (cs : List Choice) → Either (AtTurn t at k rs s) (Then (Around t rs s at) (InLoop t at k rs s)) (IsJoin p is) o cs → InLoop t at k rs s (IsJoin p is) o cs
        from p is o cs (inl h) = (zero, (o, (cs, (refl, refl), h)))
        from p is o cs (inr (i, (es, w, (n, (q, (ds, r, h)))))) = (suc n, (q, (ds, reach_more P t at rs s n o i q cs es ds w r, h)))

    loop_same : IsSame (Either (InLoop t at k rs s) (Following t at (loop rs s) (join_spot (end_of s) (k + 1 + length rs + spots_block s)))) (InForm t at k (loop rs s))
    loop_same = record { same = λ p is o cs. (λ h. to p is o cs h, λ h. from p is o cs h) }
      where
        to : (p : Spot) (is : One → Type 0) (o : One) (cs : List Choice) → Either (InLoop t at k rs s) (Following t at (loop rs s) (join_spot (end_of s) (k + 1 + length rs + spots_block s))) (IsJoin p is) o cs → InForm t at k (loop rs s) (IsJoin p is) o cs
        to p is o cs (inl (n, (q, (ds, r, inl h)))) = inl (n, (q, (ds, r, inl h)))
        to p is o cs (inl (n, (q, (ds, r, inr (m, (fs, l, (i, (es, c, h)))))))) = inl (n, (q, (ds, r, inr (inr (m, l.0, (es, sym l.1 ∙ c.1, subst (λ z. InBlock t (k + 1 + length rs) s (IsJoin p is) z es) c.0 h))))))
        to p is o cs (inr (q, (ds, w, j))) = inr (q, subst (λ d. Onward t at (loop rs s) o cs q d) j.0 w, j.1)

        from : (p : Spot) (is : One → Type 0) (o : One) (cs : List Choice) → InForm t at k (loop rs s) (IsJoin p is) o cs → Either (InLoop t at k rs s) (Following t at (loop rs s) (join_spot (end_of s) (k + 1 + length rs + spots_block s))) (IsJoin p is) o cs
        from p is o cs (inl (n, (q, (ds, r, inl h)))) = inl (n, (q, (ds, r, inl h)))
        from p is o cs (inl (n, (q, (ds, r, inr (inl h))))) = absurd (no_row t p is at rs q h.1)
        from p is o cs (inl (n, (q, (ds, r, inr (inr (m, l, (es, c, h))))))) = inl (n, (q, (ds, r, inr (m, (ds, (l, refl), (m, (es, (refl, c), h)))))))
        from p is o cs (inr h) = inr (h.0, ([], h.1, (refl, h.2)))

    pub loop_inside : (x : Two) → Meet (InLoop t at k rs s) x true → Meet (InForm t at k (loop rs s)) x true
    loop_inside x m = meet_inside at (k + 1 + length rs + spots_block s) k (end_of s) (loop rs s) (InLoop t at k rs s) k loop_within loop_same x m

    pub loop_after : (x : Two) (b : Bool) → Meet (InLoop t at k rs s) x false → Meet (Following t at (loop rs s) (join_spot (end_of s) (k + 1 + length rs + spots_block s))) x b → Meet (InForm t at k (loop rs s)) x b
    loop_after x b m j = meet_after at (k + 1 + length rs + spots_block s) k (end_of s) (loop rs s) (InLoop t at k rs s) k loop_within loop_same x b m j
