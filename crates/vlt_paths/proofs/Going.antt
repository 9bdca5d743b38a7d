-- One path through the parts of a body: where it comes out of each, and whether it meets the row that is sought.
use Rattle.std.proofs.Common.{◌≡◌, ◌∙◌, ◌⊎◌, ◌≤◌, ℕ, zero, suc, ◌+◌, Bool, true, false, IsTrue, List, [], ◌∷◌, map, length, Option, Some, None, refl, sym, ap, subst, inl, inr, ⊎_elim, rules, arith}
use Rattle.vlt_core.specs.Core.{Tok}
use Rattle.vlt_core.specs.Maps.{Row, away_row}
use Rattle.vlt_core.specs.Flow.{Flow, step, choose, loop, switch, focus, return, jump, Block, block, Stmts, done, next, Arms, arm, end_of}
use Rattle.vlt_core.specs.Found.{One, Exit, to_next, to_break, to_continue}
use Rattle.vlt_core.specs.Faults.{spots, spots_block}
use Rattle.vlt_core.specs.Witness.{Pick, then_arm, else_arm, turn, exit, case_arm, Choice, choice, LeadsOn, Turns, Takes, Through, ThroughBlock, ThroughStmts, ThroughArm, Reaches, RowMet, NoJoin, Met, MetBlock, MetStmts, MetArm}
use Rattle.vlt_paths.specs.Along.{State, Sought, Passes, Goes, GoesForm, GoesBlock, GoesStmts, GoesArm, BodyWay, TurnWay, TurnSight, GoesTurn, exit_of_turn}
use Rattle.vlt_paths.proofs.Passed.{led, leads}

no_true : IsTrue false → ⊥
no_true h = search rules

-- ---- exits and choices

some_is : {A : Type 0} (a b : A) → Some a ≡ Some b → a ≡ b
some_is {A} a b e = ap (or a) e
  where
    or : A → Option A → A
    or d None = d
    or d (Some x) = x

pub none_some : {A : Type 0} (a : A) → None ≡ Some a → ⊥
none_some {A} a e = no_true (subst IsTrue (sym (ap is_some e)) (search rules))
  where
    is_some : Option A → Bool
    is_some None = false
    is_some (Some x) = true

abbrev pub number_of : Pick → ℕ
number_of then_arm = 0
number_of else_arm = 1
number_of turn = 2
number_of exit = 3
number_of (case_arm i) = 4 + i

abbrev first_of : List Choice → ℕ
first_of [] = 0
first_of (c ∷ cs) = number_of c.pick

abbrev following : List Choice → List Choice
following [] = []
following (c ∷ cs) = cs

-- two readings of the same choices
pub same_pick : (L es l : List Choice) (at : ℕ) (c d : Pick) → L ≡ choice at c ∷ es → L ≡ choice at d ∷ l → number_of c ≡ number_of d
same_pick L es l at c d e f = ap first_of (sym e ∙ f)

pub same_rest : (L es l : List Choice) (at : ℕ) (c d : Pick) → L ≡ choice at c ∷ es → L ≡ choice at d ∷ l → es ≡ l
same_rest L es l at c d e f = ap following (sym e ∙ f)

some_choice : (L l : List Choice) (at : ℕ) (c : Pick) → L ≡ [] → L ≡ choice at c ∷ l → ⊥
some_choice L l at c e f = let n : length L ≡ 0 = ap length e in let m : length L ≡ suc (length l) = ap length f in omega (arith, n, m)

-- a path that made its next choice
abbrev pub chosen : State → List Choice → State
chosen m l = record { brings = m.brings; left = l; met = m.met }

module _ (P : Sought) (t : Tok) where
  pub come : (at : ℕ) (rs : List Row) (v m : State) → Passes P t at rs v m → (q : One) → m.brings q → (o : One) × v.brings o × LeadsOn t rs o q
  come at rs v m p q h = led t rs v.brings q ((p.brings q).0 h)

  pub lead : (at : ℕ) (rs : List Row) (v m : State) → Passes P t at rs v m → (o q : One) → v.brings o → LeadsOn t rs o q → m.brings q
  lead at rs v m p o q b h = (p.brings q).1 (leads t rs v.brings o q b h)

  -- ---- statements without blocks

  pub go_step : (at : ℕ) (rs : List Row) (v u : State) → Passes P t at rs v u → GoesForm P t (step rs) at v u (Some to_next)
  go_step at rs v u p k = record {
    there = λ x q ds. (
      λ h. (ap Some (sym h.2.0), lead at rs v u p h.0 q h.1 h.2.1, h.2.2 ∙ sym p.left),
      λ y. let c = come at rs v u p q y.1 in (c.0, c.1, (sym (some_is to_next x y.0), c.2, y.2 ∙ p.left)),
    );
    met = (
      λ h. ⊎_elim (λ b. inl b) (λ z. inr (z.1.0, z.1.1, (z.0, z.1.2))) (p.met.0 h),
      λ x. p.met.1 (⊎_elim (λ b. inl b) (λ z. inr (z.2.0, (z.0, z.1, z.2.1))) x),
    );
    fewer = let e = ap length p.left in omega (arith, e);
  }

  pub go_return : (at : ℕ) (rs : List Row) (v u : State) → Passes P t at rs v u → GoesForm P t (return rs) at v u None
  go_return at rs v u p k = record {
    there = λ x q ds. (λ h. absurd h.2, λ y. absurd (none_some x y.0));
    met = (go_step at rs v u p k).met;
    fewer = (go_step at rs v u p k).fewer;
  }

  taken_on : (x : Exit) → Takes true x → x ≡ to_continue
  taken_on to_next h = absurd h
  taken_on to_break h = absurd h
  taken_on to_continue h = refl

  taken_out : (x : Exit) → Takes false x → x ≡ to_break
  taken_out to_next h = absurd h
  taken_out to_break h = refl
  taken_out to_continue h = absurd h

  pub go_on : (at : ℕ) (left : List Tok) (v u : State) → Passes P t at (map away_row left) v u → GoesForm P t (jump true left) at v u (Some to_continue)
  go_on at left v u p k = record {
    there = λ x q ds. (
      λ h. (ap Some (sym (taken_on x h.2.0)), lead at (map away_row left) v u p h.0 q h.1 h.2.1, h.2.2 ∙ sym p.left),
      λ y. let c = come at (map away_row left) v u p q y.1 in (c.0, c.1, (subst (Takes true) (some_is to_continue x y.0) tt, c.2, y.2 ∙ p.left)),
    );
    met = (go_step at (map away_row left) v u p k).met;
    fewer = (go_step at (map away_row left) v u p k).fewer;
  }

  pub go_out : (at : ℕ) (left : List Tok) (v u : State) → Passes P t at (map away_row left) v u → GoesForm P t (jump false left) at v u (Some to_break)
  go_out at left v u p k = record {
    there = λ x q ds. (
      λ h. (ap Some (sym (taken_out x h.2.0)), lead at (map away_row left) v u p h.0 q h.1 h.2.1, h.2.2 ∙ sym p.left),
      λ y. let c = come at (map away_row left) v u p q y.1 in (c.0, c.1, (subst (Takes false) (some_is to_break x y.0) tt, c.2, y.2 ∙ p.left)),
    );
    met = (go_step at (map away_row left) v u p k).met;
    fewer = (go_step at (map away_row left) v u p k).fewer;
  }

  -- ---- after rows, by a choice

  module _ (at : ℕ) (rs : List Row) (v m : State) (p : Passes P t at rs v m) where
    -- the choices of a path that came to the end of the rows
    shown : (es l : List Choice) (c d : Pick) → m.left ≡ choice at d ∷ l → v.left ≡ choice at c ∷ es → (number_of c ≡ number_of d) × (es ≡ l)
    shown es l c d e f = (same_pick v.left es l at c d f (sym p.left ∙ e), same_rest v.left es l at c d f (sym p.left ∙ e))

    -- nothing is met before a choice
    unmet : (l : List Choice) (d : Pick) → m.left ≡ choice at d ∷ l → IsTrue m.met → IsTrue v.met
    unmet l d e h = ⊎_elim (λ b. b) (λ z. absurd (some_choice v.left l at d z.0 (sym p.left ∙ e))) (p.met.0 h)

    still_met : IsTrue v.met → IsTrue m.met
    still_met h = p.met.1 (inl h)

    pub shorter : (l : List Choice) (d : Pick) (u : State) → m.left ≡ choice at d ∷ l → length u.left ≤ length l → suc (length u.left) ≤ length v.left
    shorter l d u e few = let a = ap length p.left in let b : length m.left ≡ suc (length l) = ap length e in omega (arith, few, a, b)

    -- nothing is chosen here: what is met is a row before it
    no_choice : (o : One) → v.brings o → (v.left ≡ []) × RowMet P NoJoin t at rs o → IsTrue m.met
    no_choice o b z = p.met.1 (inr (z.0, (o, b, z.1)))

    abbrev MetRow : Type 0
    MetRow = (o : One) × v.brings o × ((v.left ≡ []) × RowMet P NoJoin t at rs o)

    met_row : IsTrue m.met → IsTrue v.met ⊎ MetRow
    met_row h = ⊎_elim (λ b. inl b) (λ z. inr (z.1.0, z.1.1, (z.0, z.1.2))) (p.met.0 h)

    pub go_then : (a b : Block) (l : List Choice) (u : State) (r : Option Exit) → m.left ≡ choice at then_arm ∷ l → GoesBlock P t a (chosen m l) u r → GoesForm P t (choose rs a b) at v u r
    go_then a b l u r e g k = record {
      there = λ x q ds. (
        λ h. ⊎_elim
            (λ y. let s = shown h.2.2.0 l then_arm then_arm e y.0 in (w.there x q ds).0 (h.2.0, lead at rs v m p h.0 h.2.0 h.1 h.2.1, subst (λ z. ThroughBlock t a h.2.0 z x q ds) s.1 y.1))
            (λ y. let s = (shown h.2.2.0 l else_arm then_arm e y.0).0 in absurd (clash s))
            h.2.2.1,
        λ y. let i = (w.there x q ds).1 y in let c = come at rs v m p i.0 i.1 in (c.0, c.1, (i.0, c.2, (l, inl (sym p.left ∙ e, i.2)))),
      );
      met = (
        λ h. ⊎_elim (λ b. inl (unmet l then_arm e b)) (λ i. let c = come at rs v m p i.0 i.1 in inr (c.0, c.1, inr (inl (i.0, c.2, (l, inl (sym p.left ∙ e, i.2)))))) (w.met.0 h),
        λ x. w.met.1 (⊎_elim (λ b. inl (still_met b)) (λ h. back h.0 h.1 h.2) x),
      );
      fewer = let few = shorter l then_arm u e w.fewer in omega (arith, few);
    }
      where
        w : Goes (ThroughBlock t a) (MetBlock P NoJoin t (k + length rs) a) (chosen m l) u r
        w = g (k + length rs)

        clash : number_of else_arm ≡ number_of then_arm → ⊥
        clash s = omega (arith, s)

        back : (o : One) → v.brings o → Met P NoJoin t at k (choose rs a b) o v.left → IsTrue m.met ⊎ ((o : One) × m.brings o × MetBlock P NoJoin t (k + length rs) a o l)
        back o b (inl z) = absurd (some_choice v.left l at then_arm z.0 (sym p.left ∙ e))
        back o b (inr (inl z)) = ⊎_elim
            (λ y. let s = shown z.2.0 l then_arm then_arm e y.0 in inr (z.0, lead at rs v m p o z.0 b z.1, subst (λ c. MetBlock P NoJoin t (k + length rs) a z.0 c) s.1 y.1))
            (λ y. absurd (clash (shown z.2.0 l else_arm then_arm e y.0).0))
            z.2.1
        back o b (inr (inr z)) = absurd z.2

    pub go_else : (a b : Block) (l : List Choice) (u : State) (r : Option Exit) → m.left ≡ choice at else_arm ∷ l → GoesBlock P t b (chosen m l) u r → GoesForm P t (choose rs a b) at v u r
    go_else a b l u r e g k = record {
      there = λ x q ds. (
        λ h. ⊎_elim
            (λ y. let s = (shown h.2.2.0 l then_arm else_arm e y.0).0 in absurd (clash s))
            (λ y. let s = shown h.2.2.0 l else_arm else_arm e y.0 in (w.there x q ds).0 (h.2.0, lead at rs v m p h.0 h.2.0 h.1 h.2.1, subst (λ z. ThroughBlock t b h.2.0 z x q ds) s.1 y.1))
            h.2.2.1,
        λ y. let i = (w.there x q ds).1 y in let c = come at rs v m p i.0 i.1 in (c.0, c.1, (i.0, c.2, (l, inr (sym p.left ∙ e, i.2)))),
      );
      met = (
        λ h. ⊎_elim (λ b. inl (unmet l else_arm e b)) (λ i. let c = come at rs v m p i.0 i.1 in inr (c.0, c.1, inr (inl (i.0, c.2, (l, inr (sym p.left ∙ e, i.2)))))) (w.met.0 h),
        λ x. w.met.1 (⊎_elim (λ b. inl (still_met b)) (λ h. back h.0 h.1 h.2) x),
      );
      fewer = let few = shorter l else_arm u e w.fewer in omega (arith, few);
    }
      where
        w : Goes (ThroughBlock t b) (MetBlock P NoJoin t (k + length rs + spots_block a) b) (chosen m l) u r
        w = g (k + length rs + spots_block a)

        clash : number_of then_arm ≡ number_of else_arm → ⊥
        clash s = omega (arith, s)

        back : (o : One) → v.brings o → Met P NoJoin t at k (choose rs a b) o v.left → IsTrue m.met ⊎ ((o : One) × m.brings o × MetBlock P NoJoin t (k + length rs + spots_block a) b o l)
        back o c (inl z) = absurd (some_choice v.left l at else_arm z.0 (sym p.left ∙ e))
        back o c (inr (inl z)) = ⊎_elim
            (λ y. absurd (clash (shown z.2.0 l then_arm else_arm e y.0).0))
            (λ y. let s = shown z.2.0 l else_arm else_arm e y.0 in inr (z.0, lead at rs v m p o z.0 c z.1, subst (λ c. MetBlock P NoJoin t (k + length rs + spots_block a) b z.0 c) s.1 y.1))
            z.2.1
        back o c (inr (inr z)) = absurd z.2

    pub go_neither : (a b : Block) → ((l : List Choice) → m.left ≡ choice at then_arm ∷ l → ⊥) → ((l : List Choice) → m.left ≡ choice at else_arm ∷ l → ⊥) → GoesForm P t (choose rs a b) at v m None
    go_neither a b f g k = record {
      there = λ x q ds. (λ h. absurd (⊎_elim (λ y. f h.2.2.0 (p.left ∙ y.0)) (λ y. g h.2.2.0 (p.left ∙ y.0)) h.2.2.1), λ y. absurd (none_some x y.0));
      met = (
        λ h. ⊎_elim (λ b. inl b) (λ z. inr (z.0, z.1, inl z.2)) (met_row h),
        λ x. ⊎_elim (λ b. still_met b) (λ h. back h.0 h.1 h.2) x,
      );
      fewer = let e = ap length p.left in omega (arith, e);
    }
      where
        back : (o : One) → v.brings o → Met P NoJoin t at k (choose rs a b) o v.left → IsTrue m.met
        back o c (inl z) = no_choice o c z
        back o c (inr (inl z)) = absurd (⊎_elim (λ y. f z.2.0 (p.left ∙ y.0)) (λ y. g z.2.0 (p.left ∙ y.0)) z.2.1)
        back o c (inr (inr z)) = absurd z.2

    -- ---- switches

    pub go_case : (arms : Arms) (end i : ℕ) (l : List Choice) (u : State) (r : Option Exit) → m.left ≡ choice at (case_arm i) ∷ l → GoesArm P t at i arms (chosen m l) u r → GoesForm P t (switch rs arms end) at v u r
    go_case arms end i l u r e g k = record {
      there = λ x q ds. (
        λ h. let y = h.2.2 in
            let s = shown y.1.0 l (case_arm y.0) (case_arm i) e y.1.1 in
            (w.there x q ds).0 (h.2.0, lead at rs v m p h.0 h.2.0 h.1 h.2.1, subst (λ j. ThroughArm t j arms h.2.0 l x q ds) (same y.0 s.0) (subst (λ z. ThroughArm t y.0 arms h.2.0 z x q ds) s.1 y.1.2)),
        λ y. let j = (w.there x q ds).1 y in let c = come at rs v m p j.0 j.1 in (c.0, c.1, (j.0, c.2, (i, (l, sym p.left ∙ e, j.2)))),
      );
      met = (
        λ h. ⊎_elim (λ b. inl (unmet l (case_arm i) e b)) (λ j. let c = come at rs v m p j.0 j.1 in inr (c.0, c.1, inr (inl (j.0, c.2, (i, (l, sym p.left ∙ e, j.2)))))) (w.met.0 h),
        λ x. w.met.1 (⊎_elim (λ b. inl (still_met b)) (λ h. back h.0 h.1 h.2) x),
      );
      fewer = let few = shorter l (case_arm i) u e w.fewer in omega (arith, few);
    }
      where
        w : Goes (ThroughArm t i arms) (MetArm P NoJoin t at (k + length rs) i arms) (chosen m l) u r
        w = g (k + length rs)

        same : (j : ℕ) → number_of (case_arm j) ≡ number_of (case_arm i) → j ≡ i
        same j s = omega (arith, s)

        back : (o : One) → v.brings o → Met P NoJoin t at k (switch rs arms end) o v.left → IsTrue m.met ⊎ ((o : One) × m.brings o × MetArm P NoJoin t at (k + length rs) i arms o l)
        back o b (inl z) = absurd (some_choice v.left l at (case_arm i) z.0 (sym p.left ∙ e))
        back o b (inr (inl z)) =
            let y = z.2 in
            let s = shown y.1.0 l (case_arm y.0) (case_arm i) e y.1.1 in
            inr (z.0, lead at rs v m p o z.0 b z.1, subst (λ j. MetArm P NoJoin t at (k + length rs) j arms z.0 l) (same y.0 s.0) (subst (λ c. MetArm P NoJoin t at (k + length rs) y.0 arms z.0 c) s.1 y.1.2))
        back o b (inr (inr z)) = absurd z.2

    -- no arm of the next choice stands here
    pub go_no_case : (arms : Arms) (end : ℕ) → ((i : ℕ) (l : List Choice) → m.left ≡ choice at (case_arm i) ∷ l → ((o : One) (x : Exit) (q : One) (ds : List Choice) → ThroughArm t i arms o l x q ds → ⊥) × ((k : ℕ) (o : One) → MetArm P NoJoin t at k i arms o l → ⊥)) → GoesForm P t (switch rs arms end) at v m None
    go_no_case arms end f k = record {
      there = λ x q ds. (λ h. let y = h.2.2 in absurd ((f y.0 y.1.0 (p.left ∙ y.1.1)).0 h.2.0 x q ds y.1.2), λ y. absurd (none_some x y.0));
      met = (
        λ h. ⊎_elim (λ b. inl b) (λ z. inr (z.0, z.1, inl z.2)) (met_row h),
        λ x. ⊎_elim (λ b. still_met b) (λ h. back h.0 h.1 h.2) x,
      );
      fewer = let e = ap length p.left in omega (arith, e);
    }
      where
        back : (o : One) → v.brings o → Met P NoJoin t at k (switch rs arms end) o v.left → IsTrue m.met
        back o c (inl z) = no_choice o c z
        back o c (inr (inl z)) = let y = z.2 in absurd ((f y.0 y.1.0 (p.left ∙ y.1.1)).1 (k + length rs) z.0 y.1.2)
        back o c (inr (inr z)) = absurd z.2

    -- ---- a turn of a loop

    pub turn_ends : (s : Block) (l : List Choice) → m.left ≡ choice at exit ∷ l → GoesTurn P t rs s at v (chosen m l) (Some to_next)
    turn_ends s l e k = record {
      there = λ x q ds. (
        λ h. ⊎_elim
            (λ y. (ap Some (sym y.0), lead at rs v m p h.0 q h.1 y.1, same_rest v.left ds l at exit exit y.2 (sym p.left ∙ e)))
            (λ y. absurd (clash (shown y.2.0 l turn exit e y.2.1).0))
            h.2,
        λ y. let c = come at rs v m p q y.1 in (c.0, c.1, inl (sym (some_is to_next x y.0), c.2, sym p.left ∙ e ∙ ap (λ z. choice at exit ∷ z) (sym y.2))),
      );
      met = (
        λ h. inl (unmet l exit e h),
        λ x. ⊎_elim (λ b. still_met b) (λ h. back h.0 h.1 h.2) x,
      );
      fewer = let a = ap length p.left in let b : length m.left ≡ suc (length l) = ap length e in omega (arith, a, b);
    }
      where
        clash : number_of turn ≡ number_of exit → ⊥
        clash s = omega (arith, s)

        back : (o : One) → v.brings o → TurnSight P t rs s at k o v.left → IsTrue m.met
        back o c (inl z) = absurd (some_choice v.left l at exit z.0 (sym p.left ∙ e))
        back o c (inr z) = absurd (clash (shown z.2.0 l turn exit e z.2.1).0)

    pub turn_body : (s : Block) (l : List Choice) (u : State) (r : Option Exit) → m.left ≡ choice at turn ∷ l → GoesBlock P t s (chosen m l) u r → GoesTurn P t rs s at v u (exit_of_turn r)
    turn_body s l u r e g k = record {
      there = λ x q ds. (
        λ h. ⊎_elim
            (λ y. absurd (clash (same_pick v.left ds l at exit turn y.2 (sym p.left ∙ e))))
            (λ y. let i = shown y.2.0 l turn turn e y.2.1 in to x q ds y.0 (lead at rs v m p h.0 y.0 h.1 y.1) (subst (λ z. BodyWay t s y.0 z x q ds) i.1 y.2.2))
            h.2,
        λ y. let i = from r w x q ds y.0 y.1 y.2 in let c = come at rs v m p i.0 i.1 in (c.0, c.1, inr (i.0, c.2, (l, sym p.left ∙ e, i.2))),
      );
      met = (
        λ h. ⊎_elim (λ b. inl (unmet l turn e b)) (λ i. let c = come at rs v m p i.0 i.1 in inr (c.0, c.1, inr (i.0, c.2, (l, sym p.left ∙ e, i.2)))) (w.met.0 h),
        λ x. w.met.1 (⊎_elim (λ b. inl (still_met b)) (λ h. back h.0 h.1 h.2) x),
      );
      fewer = let few = shorter l turn u e w.fewer in omega (arith, few);
    }
      where
        w : Goes (ThroughBlock t s) (MetBlock P NoJoin t k s) (chosen m l) u r
        w = g k

        clash : number_of exit ≡ number_of turn → ⊥
        clash s = omega (arith, s)

        to : (x : Exit) (q : One) (ds : List Choice) (i : One) → m.brings i → BodyWay t s i l x q ds → (exit_of_turn r ≡ Some x) × u.brings q × (ds ≡ u.left)
        to to_next q ds i b h = let z = (w.there to_break q ds).0 (i, b, h) in (ap exit_of_turn z.0, z.1, z.2)
        to to_break q ds i b h = absurd h
        to to_continue q ds i b (inl h) = let z = (w.there to_next q ds).0 (i, b, h) in (ap exit_of_turn z.0, z.1, z.2)
        to to_continue q ds i b (inr h) = let z = (w.there to_continue q ds).0 (i, b, h) in (ap exit_of_turn z.0, z.1, z.2)

        as_way : (x y : Exit) (i : One) (q : One) (ds : List Choice) → Some x ≡ Some y → BodyWay t s i l x q ds → BodyWay t s i l y q ds
        as_way x y i q ds e h = subst (λ z. BodyWay t s i l z q ds) (some_is x y e) h

        from : (r : Option Exit) → Goes (ThroughBlock t s) (MetBlock P NoJoin t k s) (chosen m l) u r → (x : Exit) (q : One) (ds : List Choice) → exit_of_turn r ≡ Some x → u.brings q → ds ≡ u.left → (i : One) × m.brings i × BodyWay t s i l x q ds
        from None w x q ds e b d = absurd (none_some x e)
        from (Some to_next) w x q ds e b d = let z = (w.there to_next q ds).1 (refl, b, d) in (z.0, z.1, as_way to_continue x z.0 q ds e (inl z.2))
        from (Some to_continue) w x q ds e b d = let z = (w.there to_continue q ds).1 (refl, b, d) in (z.0, z.1, as_way to_continue x z.0 q ds e (inr z.2))
        from (Some to_break) w x q ds e b d = let z = (w.there to_break q ds).1 (refl, b, d) in (z.0, z.1, as_way to_next x z.0 q ds e z.2)

        back : (o : One) → v.brings o → TurnSight P t rs s at k o v.left → IsTrue m.met ⊎ ((i : One) × m.brings i × MetBlock P NoJoin t k s i l)
        back o c (inl z) = absurd (some_choice v.left l at turn z.0 (sym p.left ∙ e))
        back o c (inr z) = let i = shown z.2.0 l turn turn e z.2.1 in inr (z.0, lead at rs v m p o z.0 c z.1, subst (λ c. MetBlock P NoJoin t k s z.0 c) i.1 z.2.2)

    pub no_turn : (s : Block) → ((l : List Choice) → m.left ≡ choice at turn ∷ l → ⊥) → ((l : List Choice) → m.left ≡ choice at exit ∷ l → ⊥) → GoesTurn P t rs s at v m None
    no_turn s f g k = record {
      there = λ x q ds. (λ h. absurd (⊎_elim (λ y. g ds (p.left ∙ y.2)) (λ y. f y.2.0 (p.left ∙ y.2.1)) h.2), λ y. absurd (none_some x y.0));
      met = (
        λ h. ⊎_elim (λ b. inl b) (λ z. inr (z.0, z.1, inl z.2)) (met_row h),
        λ x. ⊎_elim (λ b. still_met b) (λ h. back h.0 h.1 h.2) x,
      );
      fewer = let e = ap length p.left in omega (arith, e);
    }
      where
        back : (o : One) → v.brings o → TurnSight P t rs s at k o v.left → IsTrue m.met
        back o c (inl z) = no_choice o c z
        back o c (inr z) = absurd (f z.2.0 (p.left ∙ z.2.1))

  -- ---- loops

  module _ (at : ℕ) (rs : List Row) (s : Block) where
    -- a way of several turns is a turn, and then the others
    more_turns : (n : ℕ) (o q : One) (cs ds : List Choice) → Turns (ThroughBlock t s) t rs at (suc n) o cs q ds → (i : One) × ((fs : List Choice) × TurnWay t rs s at o cs to_continue i fs × Turns (ThroughBlock t s) t rs at n i fs q ds)
    more_turns n o q cs ds h = (h.2.2.0, (h.2.2.1.0, inr (h.0, h.1, (h.2.0, h.2.1, h.2.2.1.1)), h.2.2.1.2))

    turn_more : (n : ℕ) (o i q : One) (cs fs ds : List Choice) → TurnWay t rs s at o cs to_continue i fs → Turns (ThroughBlock t s) t rs at n i fs q ds → Turns (ThroughBlock t s) t rs at (suc n) o cs q ds
    turn_more n o i q cs fs ds (inl w) h = absurd (other_exit w.0)
      where
        other_exit : to_continue ≡ to_next → ⊥
        other_exit e = no_true (subst IsTrue (ap is_next (sym e)) (search rules))
          where
            is_next : Exit → Bool
            is_next to_next = true
            is_next x = false
    turn_more n o i q cs fs ds (inr w) h = (w.0, w.1, (w.2.0, w.2.1, (i, (fs, w.2.2, h))))

    pub more_reached : (n : ℕ) (o q : One) (cs ds : List Choice) → Reaches (ThroughBlock t s) t rs at (suc n) o cs q ds → (i : One) × ((fs : List Choice) × TurnWay t rs s at o cs to_continue i fs × Reaches (ThroughBlock t s) t rs at n i fs q ds)
    more_reached n o q cs ds h = (h.2.2.0, (h.2.2.1.0, inr (h.0, h.1, (h.2.0, h.2.1, h.2.2.1.1)), h.2.2.1.2))

    pub reach_more : (n : ℕ) (o i q : One) (cs fs ds : List Choice) → TurnWay t rs s at o cs to_continue i fs → Reaches (ThroughBlock t s) t rs at n i fs q ds → Reaches (ThroughBlock t s) t rs at (suc n) o cs q ds
    reach_more n o i q cs fs ds (inl w) h = absurd (other_exit w.0)
      where
        other_exit : to_continue ≡ to_next → ⊥
        other_exit e = no_true (subst IsTrue (ap is_next (sym e)) (search rules))
          where
            is_next : Exit → Bool
            is_next to_next = true
            is_next x = false
    reach_more n o i q cs fs ds (inr w) h = (w.0, w.1, (w.2.0, w.2.1, (i, (fs, w.2.2, h))))

    last_way : (o q : One) (cs ds : List Choice) → Turns (ThroughBlock t s) t rs at zero o cs q ds → TurnWay t rs s at o cs to_next q ds
    last_way o q cs ds (inl h) = inl (refl, h.0, h.1)
    last_way o q cs ds (inr h) = inr h

    way_last : (o q : One) (cs ds : List Choice) → TurnWay t rs s at o cs to_next q ds → Turns (ThroughBlock t s) t rs at zero o cs q ds
    way_last o q cs ds (inl h) = inl (h.1, h.2)
    way_last o q cs ds (inr h) = inr h

  module _ (at : ℕ) (rs : List Row) (s : Block) (v u : State) where
    -- the turn comes to the head again
    pub loop_more : (z : State) (r : Option Exit) → GoesTurn P t rs s at v u (Some to_continue) → GoesForm P t (loop rs s) at u z r → GoesForm P t (loop rs s) at v z r
    loop_more z r g f k = record {
      there = λ x q ds. (
        λ h. to h.0 h.1 x q ds h.2.0 h.2.1.0 h.2.1.1,
        λ y. let i = (w.there x q ds).1 y in
            let o = (turn_at.there to_continue i.0 u.left).1 (refl, i.1, refl) in
            (o.0, o.1, (i.2.0, (suc i.2.1.0, turn_more at rs s i.2.1.0 o.0 i.0 q v.left u.left ds o.2 i.2.1.1))),
      );
      met = (forth, λ x. ⊎_elim (λ b. w.met.1 (inl (turn_at.met.1 (inl b)))) (λ h. back h.0 h.1 h.2) x);
      fewer = let a = turn_at.fewer in let b = w.fewer in omega (arith, a, b);
    }
      where
        w : Goes (Through t at (loop rs s)) (Met P NoJoin t at k (loop rs s)) u z r
        w = f k

        turn_at : Goes (TurnWay t rs s at) (TurnSight P t rs s at (k + 1 + length rs)) v u (Some to_continue)
        turn_at = g (k + 1 + length rs)

        never_out : Some to_continue ≡ Some to_next → ⊥
        never_out e = no_true (subst IsTrue (ap is_next (sym e)) (search rules))
          where
            is_next : Option Exit → Bool
            is_next (Some to_next) = true
            is_next x = false

        to : (o : One) → v.brings o → (x : Exit) (q : One) (ds : List Choice) → x ≡ to_next → (n : ℕ) → Turns (ThroughBlock t s) t rs at n o v.left q ds → (r ≡ Some x) × z.brings q × (ds ≡ z.left)
        to o b x q ds is zero h = absurd (never_out ((turn_at.there to_next q ds).0 (o, b, last_way at rs s o q v.left ds h)).0)
        to o b x q ds is (suc n) h =
            let y = more_turns at rs s n o q v.left ds h in
            let a = (turn_at.there to_continue y.0 y.1.0).0 (o, b, y.1.1) in
            (w.there x q ds).0 (y.0, a.1, (is, (n, subst (λ c. Turns (ThroughBlock t s) t rs at n y.0 c q ds) a.2 y.1.2)))

        InTurn : One → List Choice → Type 0
        InTurn q ds = ((ds ≡ []) × ⊥) ⊎ TurnSight P t rs s at (k + 1 + length rs) q ds

        forth : IsTrue z.met → IsTrue v.met ⊎ ((o : One) × v.brings o × Met P NoJoin t at k (loop rs s) o v.left)
        forth h = ⊎_elim
            (λ b. ⊎_elim (λ c. inl c) (λ y. inr (y.0, y.1, inl (zero, (y.0, (v.left, (refl, refl), inr y.2))))) (turn_at.met.0 b))
            (λ y. after y.0 y.1 y.2)
            (w.met.0 h)
          where
            after : (i : One) → u.brings i → Met P NoJoin t at k (loop rs s) i u.left → IsTrue v.met ⊎ ((o : One) × v.brings o × Met P NoJoin t at k (loop rs s) o v.left)
            after i b (inl y) = let o = (turn_at.there to_continue i u.left).1 (refl, b, refl) in
                inr (o.0, o.1, inl (suc y.0, (y.1.0, (y.1.1.0, reach_more at rs s y.0 o.0 i y.1.0 v.left u.left y.1.1.0 o.2 y.1.1.1, y.1.1.2))))
            after i b (inr y) = absurd y.2

        by_turns : (n : ℕ) (o : One) → v.brings o → (q : One) (ds : List Choice) → Reaches (ThroughBlock t s) t rs at n o v.left q ds → InTurn q ds → IsTrue z.met
        by_turns zero o b q ds e (inl y) = absurd y.1
        by_turns zero o b q ds e (inr y) = w.met.1 (inl (turn_at.met.1 (inr (o, b, subst (λ c. TurnSight P t rs s at (k + 1 + length rs) o c) e.1 (subst (λ i. TurnSight P t rs s at (k + 1 + length rs) i ds) e.0 y)))))
        by_turns (suc n) o b q ds e y =
            let i = more_reached at rs s n o q v.left ds e in
            let a = (turn_at.there to_continue i.0 i.1.0).0 (o, b, i.1.1) in
            w.met.1 (inr (i.0, a.1, inl (n, (q, (ds, subst (λ c. Reaches (ThroughBlock t s) t rs at n i.0 c q ds) a.2 i.1.2, y)))))

        back : (o : One) → v.brings o → Met P NoJoin t at k (loop rs s) o v.left → IsTrue z.met
        back o b (inl y) = by_turns y.0 o b y.1.0 y.1.1.0 y.1.1.1 y.1.1.2
        back o b (inr y) = absurd y.2

    -- the turn doesn't come to the head again
    pub loop_last : (r : Option Exit) → (r ≡ Some to_continue → ⊥) → GoesTurn P t rs s at v u r → GoesForm P t (loop rs s) at v u r
    loop_last r last g k = record {
      there = λ x q ds. (
        λ h. to h.0 h.1 x q ds h.2.0 h.2.1.0 h.2.1.1,
        λ y. from x q ds y.0 y.1 y.2,
      );
      met = (
        λ h. ⊎_elim (λ b. inl b) (λ y. inr (y.0, y.1, inl (zero, (y.0, (v.left, (refl, refl), inr y.2))))) (turn_at.met.0 h),
        λ x. turn_at.met.1 (⊎_elim (λ b. inl b) (λ h. back h.0 h.1 h.2) x),
      );
      fewer = turn_at.fewer;
    }
      where
        turn_at : Goes (TurnWay t rs s at) (TurnSight P t rs s at (k + 1 + length rs)) v u r
        turn_at = g (k + 1 + length rs)

        to : (o : One) → v.brings o → (x : Exit) (q : One) (ds : List Choice) → x ≡ to_next → (n : ℕ) → Turns (ThroughBlock t s) t rs at n o v.left q ds → (r ≡ Some x) × u.brings q × (ds ≡ u.left)
        to o b x q ds is zero h = let a = (turn_at.there to_next q ds).0 (o, b, last_way at rs s o q v.left ds h) in (a.0 ∙ ap Some (sym is), a.1, a.2)
        to o b x q ds is (suc n) h = let y = more_turns at rs s n o q v.left ds h in absurd (last ((turn_at.there to_continue y.0 y.1.0).0 (o, b, y.1.1)).0)

        no_break : (o q : One) (ds : List Choice) → TurnWay t rs s at o v.left to_break q ds → ⊥
        no_break o q ds (inl h) = other_exit h.0
          where
            other_exit : to_break ≡ to_next → ⊥
            other_exit e = no_true (subst IsTrue (ap is_next (sym e)) (search rules))
              where
                is_next : Exit → Bool
                is_next to_next = true
                is_next x = false
        no_break o q ds (inr h) = h.2.2

        from : (x : Exit) (q : One) (ds : List Choice) → r ≡ Some x → u.brings q → ds ≡ u.left → (o : One) × v.brings o × Through t at (loop rs s) o v.left x q ds
        from to_next q ds e b d = let o = (turn_at.there to_next q ds).1 (e, b, d) in (o.0, o.1, (refl, (zero, way_last at rs s o.0 q v.left ds o.2)))
        from to_break q ds e b d = let o = (turn_at.there to_break q ds).1 (e, b, d) in absurd (no_break o.0 q ds o.2)
        from to_continue q ds e b d = absurd (last e)

        back : (o : One) → v.brings o → Met P NoJoin t at k (loop rs s) o v.left → IsTrue v.met ⊎ ((i : One) × v.brings i × TurnSight P t rs s at (k + 1 + length rs) i v.left)
        back o b (inl y) = by y.0 y.1.0 y.1.1.0 y.1.1.1 y.1.1.2
          where
            by : (n : ℕ) (q : One) (ds : List Choice) → Reaches (ThroughBlock t s) t rs at n o v.left q ds → ((ds ≡ []) × ⊥) ⊎ TurnSight P t rs s at (k + 1 + length rs) q ds → IsTrue v.met ⊎ ((i : One) × v.brings i × TurnSight P t rs s at (k + 1 + length rs) i v.left)
            by zero q ds e (inl y) = absurd y.1
            by zero q ds e (inr y) = inr (o, b, subst (λ c. TurnSight P t rs s at (k + 1 + length rs) o c) e.1 (subst (λ i. TurnSight P t rs s at (k + 1 + length rs) i ds) e.0 y))
            by (suc n) q ds e y = let i = more_reached at rs s n o q v.left ds e in absurd (last ((turn_at.there to_continue i.0 i.1.0).0 (o, b, i.1.1)).0)
        back o b (inr y) = absurd y.2

  -- ---- arms

  module _ (at : ℕ) where
    pub arm_here : (rs : List Row) (s : Block) (rest : Arms) (v w u : State) (r : Option Exit) → Passes P t at rs v w → GoesBlock P t s w u r → GoesArm P t at zero (arm rs s rest) v u r
    arm_here rs s rest v w u r p g k = record {
      there = λ x q ds. (
        λ h. (b.there x q ds).0 (h.2.0, lead at rs v w p h.0 h.2.0 h.1 h.2.1, subst (λ c. ThroughBlock t s h.2.0 c x q ds) (sym p.left) h.2.2),
        λ y. let i = (b.there x q ds).1 y in let c = come at rs v w p i.0 i.1 in (c.0, c.1, (i.0, c.2, subst (λ c. ThroughBlock t s i.0 c x q ds) p.left i.2)),
      );
      met = (
        λ h. ⊎_elim
            (λ m. ⊎_elim (λ y. inl y) (λ z. inr (z.1.0, z.1.1, inl (z.0, z.1.2))) (p.met.0 m))
            (λ i. let c = come at rs v w p i.0 i.1 in inr (c.0, c.1, inr (i.0, c.2, subst (λ c. MetBlock P NoJoin t (k + length rs) s i.0 c) p.left i.2)))
            (b.met.0 h),
        λ x. b.met.1 (⊎_elim (λ m. inl (p.met.1 (inl m))) (λ h. back h.0 h.1 h.2) x),
      );
      fewer = let a = ap length p.left in let f = b.fewer in omega (arith, a, f);
    }
      where
        b : Goes (ThroughBlock t s) (MetBlock P NoJoin t (k + length rs) s) w u r
        b = g (k + length rs)

        back : (o : One) → v.brings o → MetArm P NoJoin t at k zero (arm rs s rest) o v.left → IsTrue w.met ⊎ ((i : One) × w.brings i × MetBlock P NoJoin t (k + length rs) s i w.left)
        back o c (inl z) = inl (p.met.1 (inr (z.0, (o, c, z.1))))
        back o c (inr z) = inr (z.0, lead at rs v w p o z.0 c z.1, subst (λ c. MetBlock P NoJoin t (k + length rs) s z.0 c) (sym p.left) z.2)

    pub arm_after : (i : ℕ) (rs : List Row) (s : Block) (rest : Arms) (v u : State) (r : Option Exit) → GoesArm P t at i rest v u r → GoesArm P t at (suc i) (arm rs s rest) v u r
    arm_after i rs s rest v u r g k = let w = g (k + length rs + spots_block s) in record { there = w.there; met = w.met; fewer = w.fewer }

  -- ---- a focus

  pub go_focus : (at : ℕ) (rs es : List Row) (s : Block) (v m w u : State) → Passes P t at rs v m → GoesBlock P t s m w (Some to_next) → Passes P t (end_of s) es w u → GoesForm P t (focus rs s es) at v u (Some to_next)
  go_focus at rs es s v m w u p g f k = record {
    there = λ x q ds. (
      λ h. let y = h.2.1 in
          let a = (b.there to_next y.2.0 ds).0 (y.0, lead at rs v m p h.0 y.0 h.1 y.1, subst (λ c. ThroughBlock t s y.0 c to_next y.2.0 ds) (sym p.left) y.2.1) in
          (ap Some (sym h.2.0), lead (end_of s) es w u f y.2.0 q a.1 y.2.2, a.2 ∙ sym f.left),
      λ y. let d = come (end_of s) es w u f q y.1 in
          let a = (b.there to_next d.0 ds).1 (refl, d.1, y.2 ∙ f.left) in
          let c = come at rs v m p a.0 a.1 in
          (c.0, c.1, (sym (some_is to_next x y.0), (a.0, c.2, (d.0, subst (λ c. ThroughBlock t s a.0 c to_next d.0 ds) p.left a.2, d.2)))),
    );
    met = (
      λ h. ⊎_elim
          (λ y. ⊎_elim
          (λ z. ⊎_elim (λ b. inl b) (λ z. inr (z.1.0, z.1.1, inl (z.0, z.1.2))) (p.met.0 z))
          (λ z. let c = come at rs v m p z.0 z.1 in inr (c.0, c.1, inr (inl (z.0, c.2, subst (λ c. MetBlock P NoJoin t (k + length rs) s z.0 c) p.left z.2))))
          (b.met.0 y))
          (λ z. let a = (b.there to_next z.1.0 []).1 (refl, z.1.1, sym z.0) in
          let c = come at rs v m p a.0 a.1 in
          inr (c.0, c.1, inr (inr (a.0, c.2, (z.1.0, subst (λ c. ThroughBlock t s a.0 c to_next z.1.0 []) p.left a.2, z.1.2)))))
          (f.met.0 h),
      λ x. f.met.1 (⊎_elim (λ y. inl (b.met.1 (inl (p.met.1 (inl y))))) (λ h. back h.0 h.1 h.2) x),
    );
    fewer = let a = ap length p.left in let c = b.fewer in let d = ap length f.left in omega (arith, a, c, d);
  }
    where
      b : Goes (ThroughBlock t s) (MetBlock P NoJoin t (k + length rs) s) m w (Some to_next)
      b = g (k + length rs)

      back : (o : One) → v.brings o → Met P NoJoin t at k (focus rs s es) o v.left → IsTrue w.met ⊎ ((w.left ≡ []) × ((i : One) × w.brings i × RowMet P NoJoin t (end_of s) es i))
      back o c (inl z) = inl (b.met.1 (inl (p.met.1 (inr (z.0, (o, c, z.1))))))
      back o c (inr (inl z)) = inl (b.met.1 (inr (z.0, lead at rs v m p o z.0 c z.1, subst (λ c. MetBlock P NoJoin t (k + length rs) s z.0 c) (sym p.left) z.2)))
      back o c (inr (inr z)) =
          let a = (b.there to_next z.2.0 []).0 (z.0, lead at rs v m p o z.0 c z.1, subst (λ c. ThroughBlock t s z.0 c to_next z.2.0 []) (sym p.left) z.2.1) in
          inr (sym a.2, (z.2.0, a.1, z.2.2))

  -- the path doesn't come to the end of the body
  pub focus_lost : (at : ℕ) (rs es : List Row) (s : Block) (v m u : State) (r : Option Exit) → (r ≡ Some to_next → ⊥) → Passes P t at rs v m → GoesBlock P t s m u r → GoesForm P t (focus rs s es) at v u None
  focus_lost at rs es s v m u r lost p g k = record {
    there = λ x q ds. (
      λ h. let y = h.2.1 in absurd (lost ((b.there to_next y.2.0 ds).0 (y.0, lead at rs v m p h.0 y.0 h.1 y.1, subst (λ c. ThroughBlock t s y.0 c to_next y.2.0 ds) (sym p.left) y.2.1)).0),
      λ y. absurd (none_some x y.0),
    );
    met = (
      λ h. ⊎_elim
          (λ z. ⊎_elim (λ b. inl b) (λ z. inr (z.1.0, z.1.1, inl (z.0, z.1.2))) (p.met.0 z))
          (λ z. let c = come at rs v m p z.0 z.1 in inr (c.0, c.1, inr (inl (z.0, c.2, subst (λ c. MetBlock P NoJoin t (k + length rs) s z.0 c) p.left z.2))))
          (b.met.0 h),
      λ x. b.met.1 (⊎_elim (λ y. inl (p.met.1 (inl y))) (λ h. back h.0 h.1 h.2) x),
    );
    fewer = let a = ap length p.left in let c = b.fewer in omega (arith, a, c);
  }
    where
      b : Goes (ThroughBlock t s) (MetBlock P NoJoin t (k + length rs) s) m u r
      b = g (k + length rs)

      back : (o : One) → v.brings o → Met P NoJoin t at k (focus rs s es) o v.left → IsTrue m.met ⊎ ((i : One) × m.brings i × MetBlock P NoJoin t (k + length rs) s i m.left)
      back o c (inl z) = inl (p.met.1 (inr (z.0, (o, c, z.1))))
      back o c (inr (inl z)) = inr (z.0, lead at rs v m p o z.0 c z.1, subst (λ c. MetBlock P NoJoin t (k + length rs) s z.0 c) (sym p.left) z.2)
      back o c (inr (inr z)) = absurd (lost ((b.there to_next z.2.0 []).0 (z.0, lead at rs v m p o z.0 c z.1, subst (λ c. ThroughBlock t s z.0 c to_next z.2.0 []) (sym p.left) z.2.1)).0)

  -- ---- blocks and lists

  break_next : Some to_next ≡ Some to_break → ⊥
  break_next e = no_true (subst IsTrue (ap is_break (sym e)) (search rules))
    where
      is_break : Option Exit → Bool
      is_break (Some to_break) = true
      is_break x = false

  continue_next : Some to_next ≡ Some to_continue → ⊥
  continue_next e = no_true (subst IsTrue (ap is_continue (sym e)) (search rules))
    where
      is_continue : Option Exit → Bool
      is_continue (Some to_continue) = true
      is_continue x = false

  pub go_block : (ss : Stmts) (bound : List Tok) (end : ℕ) (v w u : State) → GoesStmts P t ss v w (Some to_next) → Passes P t end (map away_row bound) w u → GoesBlock P t (block ss bound end) v u (Some to_next)
  go_block ss bound end v w u g f k = record {
    there = λ x q ds. (λ h. to x q ds h.0 h.1 h.2, λ y. from x q ds y.0 y.1 y.2);
    met = (
      λ h. ⊎_elim
          (λ y. ⊎_elim (λ m. inl m) (λ z. inr (z.0, z.1, inl z.2)) (b.met.0 y))
          (λ z. let a = (b.there to_next z.1.0 []).1 (refl, z.1.1, sym z.0) in inr (a.0, a.1, inr (z.1.0, a.2, z.1.2)))
          (f.met.0 h),
      λ x. f.met.1 (⊎_elim (λ y. inl (b.met.1 (inl y))) (λ h. back h.0 h.1 h.2) x),
    );
    fewer = let c = b.fewer in let d = ap length f.left in omega (arith, c, d);
  }
    where
      b : Goes (ThroughStmts t ss) (MetStmts P NoJoin t k ss) v w (Some to_next)
      b = g k

      to : (x : Exit) (q : One) (ds : List Choice) (o : One) → v.brings o → ThroughBlock t (block ss bound end) o v.left x q ds → (Some to_next ≡ Some x) × u.brings q × (ds ≡ u.left)
      to to_next q ds o c h = let a = (b.there to_next h.0 ds).0 (o, c, h.1) in (refl, lead end (map away_row bound) w u f h.0 q a.1 h.2, a.2 ∙ sym f.left)
      to to_break q ds o c h = absurd (break_next ((b.there to_break q ds).0 (o, c, h)).0)
      to to_continue q ds o c h = absurd (continue_next ((b.there to_continue q ds).0 (o, c, h)).0)

      from : (x : Exit) (q : One) (ds : List Choice) → Some to_next ≡ Some x → u.brings q → ds ≡ u.left → (o : One) × v.brings o × ThroughBlock t (block ss bound end) o v.left x q ds
      from to_next q ds e c d = let i = come end (map away_row bound) w u f q c in let a = (b.there to_next i.0 ds).1 (refl, i.1, d ∙ f.left) in (a.0, a.1, (i.0, a.2, i.2))
      from to_break q ds e c d = absurd (break_next e)
      from to_continue q ds e c d = absurd (continue_next e)

      back : (o : One) → v.brings o → MetBlock P NoJoin t k (block ss bound end) o v.left → IsTrue w.met ⊎ ((w.left ≡ []) × ((i : One) × w.brings i × RowMet P NoJoin t end (map away_row bound) i))
      back o c (inl z) = inl (b.met.1 (inr (o, c, z)))
      back o c (inr z) = let a = (b.there to_next z.0 []).0 (o, c, z.1) in inr (sym a.2, (z.0, a.1, z.2))

  -- the path doesn't come to the end of the list
  pub block_left : (ss : Stmts) (bound : List Tok) (end : ℕ) (v u : State) (r : Option Exit) → (r ≡ Some to_next → ⊥) → GoesStmts P t ss v u r → GoesBlock P t (block ss bound end) v u r
  block_left ss bound end v u r other g k = record {
    there = λ x q ds. (λ h. to x q ds h.0 h.1 h.2, λ y. from x q ds y.0 y.1 y.2);
    met = (
      λ h. ⊎_elim (λ m. inl m) (λ z. inr (z.0, z.1, inl z.2)) (b.met.0 h),
      λ x. b.met.1 (⊎_elim (λ y. inl y) (λ h. back h.0 h.1 h.2) x),
    );
    fewer = b.fewer;
  }
    where
      b : Goes (ThroughStmts t ss) (MetStmts P NoJoin t k ss) v u r
      b = g k

      to : (x : Exit) (q : One) (ds : List Choice) (o : One) → v.brings o → ThroughBlock t (block ss bound end) o v.left x q ds → (r ≡ Some x) × u.brings q × (ds ≡ u.left)
      to to_next q ds o c h = absurd (other ((b.there to_next h.0 ds).0 (o, c, h.1)).0)
      to to_break q ds o c h = (b.there to_break q ds).0 (o, c, h)
      to to_continue q ds o c h = (b.there to_continue q ds).0 (o, c, h)

      from : (x : Exit) (q : One) (ds : List Choice) → r ≡ Some x → u.brings q → ds ≡ u.left → (o : One) × v.brings o × ThroughBlock t (block ss bound end) o v.left x q ds
      from to_next q ds e c d = absurd (other e)
      from to_break q ds e c d = (b.there to_break q ds).1 (e, c, d)
      from to_continue q ds e c d = (b.there to_continue q ds).1 (e, c, d)

      back : (o : One) → v.brings o → MetBlock P NoJoin t k (block ss bound end) o v.left → IsTrue v.met ⊎ ((i : One) × v.brings i × MetStmts P NoJoin t k ss i v.left)
      back o c (inl z) = inr (o, c, z)
      back o c (inr z) = absurd (other ((b.there to_next z.0 []).0 (o, c, z.1)).0)

  pub go_done : (v : State) → GoesStmts P t done v v (Some to_next)
  go_done v k = record {
    there = λ x q ds. (
      λ h. (ap Some (sym h.2.0), subst v.brings (sym h.2.1) h.1, h.2.2),
      λ y. (q, y.1, (sym (some_is to_next x y.0), refl, y.2)),
    );
    met = (λ h. inl h, λ x. ⊎_elim (λ h. h) (λ y. absurd y.2) x);
    fewer = omega arith;
  }

  pub go_next : (at : ℕ) (s : Flow) (rest : Stmts) (v w u : State) (r : Option Exit) → GoesForm P t s at v w (Some to_next) → GoesStmts P t rest w u r → GoesStmts P t (next at s rest) v u r
  go_next at s rest v w u r g f k = record {
    there = λ x q ds. (λ h. to x q ds h.0 h.1 h.2, λ y. from x q ds y);
    met = (
      λ h. ⊎_elim
          (λ y. ⊎_elim (λ m. inl m) (λ z. inr (z.0, z.1, inl z.2)) (a.met.0 y))
          (λ z. let o = (a.there to_next z.0 w.left).1 (refl, z.1, refl) in inr (o.0, o.1, inr (z.0, (w.left, o.2, z.2))))
          (b.met.0 h),
      λ x. b.met.1 (⊎_elim (λ y. inl (a.met.1 (inl y))) (λ h. back h.0 h.1 h.2) x),
    );
    fewer = let c = a.fewer in let d = b.fewer in omega (arith, c, d);
  }
    where
      a : Goes (Through t at s) (Met P NoJoin t at k s) v w (Some to_next)
      a = g k

      b : Goes (ThroughStmts t rest) (MetStmts P NoJoin t (k + spots s) rest) w u r
      b = f (k + spots s)

      past : (x : Exit) (q : One) (ds : List Choice) (o m : One) (es : List Choice) → v.brings o → Through t at s o v.left to_next m es → ThroughStmts t rest m es x q ds → (r ≡ Some x) × u.brings q × (ds ≡ u.left)
      past x q ds o m es c h i = let z = (a.there to_next m es).0 (o, c, h) in (b.there x q ds).0 (m, z.1, subst (λ c. ThroughStmts t rest m c x q ds) z.2 i)

      to : (x : Exit) (q : One) (ds : List Choice) (o : One) → v.brings o → ThroughStmts t (next at s rest) o v.left x q ds → (r ≡ Some x) × u.brings q × (ds ≡ u.left)
      to to_next q ds o c h = past to_next q ds o h.0 h.1.0 c h.1.1 h.1.2
      to to_break q ds o c (inl h) = absurd (break_next ((a.there to_break q ds).0 (o, c, h)).0)
      to to_break q ds o c (inr h) = past to_break q ds o h.0 h.1.0 c h.1.1 h.1.2
      to to_continue q ds o c (inl h) = absurd (continue_next ((a.there to_continue q ds).0 (o, c, h)).0)
      to to_continue q ds o c (inr h) = past to_continue q ds o h.0 h.1.0 c h.1.1 h.1.2

      from : (x : Exit) (q : One) (ds : List Choice) → (r ≡ Some x) × u.brings q × (ds ≡ u.left) → (o : One) × v.brings o × ThroughStmts t (next at s rest) o v.left x q ds
      from x q ds y = let z = (b.there x q ds).1 y in let o = (a.there to_next z.0 w.left).1 (refl, z.1, refl) in (o.0, o.1, onward x z.0 o.0 o.2 z.2)
        where
          onward : (x : Exit) (m o : One) → Through t at s o v.left to_next m w.left → ThroughStmts t rest m w.left x q ds → ThroughStmts t (next at s rest) o v.left x q ds
          onward to_next m o h i = (m, (w.left, h, i))
          onward to_break m o h i = inr (m, (w.left, h, i))
          onward to_continue m o h i = inr (m, (w.left, h, i))

      back : (o : One) → v.brings o → MetStmts P NoJoin t k (next at s rest) o v.left → IsTrue w.met ⊎ ((i : One) × w.brings i × MetStmts P NoJoin t (k + spots s) rest i w.left)
      back o c (inl z) = inl (a.met.1 (inr (o, c, z)))
      back o c (inr z) = let y = (a.there to_next z.0 z.1.0).0 (o, c, z.1.1) in inr (z.0, y.1, subst (λ c. MetStmts P NoJoin t (k + spots s) rest z.0 c) y.2 z.1.2)

  -- the path doesn't come to the next statement
  pub list_left : (at : ℕ) (s : Flow) (rest : Stmts) (v u : State) (r : Option Exit) → (r ≡ Some to_next → ⊥) → GoesForm P t s at v u r → GoesStmts P t (next at s rest) v u r
  list_left at s rest v u r other g k = record {
    there = λ x q ds. (λ h. to x q ds h.0 h.1 h.2, λ y. from x q ds y.0 y.1 y.2);
    met = (
      λ h. ⊎_elim (λ m. inl m) (λ z. inr (z.0, z.1, inl z.2)) (a.met.0 h),
      λ x. a.met.1 (⊎_elim (λ y. inl y) (λ h. back h.0 h.1 h.2) x),
    );
    fewer = a.fewer;
  }
    where
      a : Goes (Through t at s) (Met P NoJoin t at k s) v u r
      a = g k

      lost : (m : One) (es : List Choice) (o : One) → v.brings o → Through t at s o v.left to_next m es → ⊥
      lost m es o c h = other ((a.there to_next m es).0 (o, c, h)).0

      to : (x : Exit) (q : One) (ds : List Choice) (o : One) → v.brings o → ThroughStmts t (next at s rest) o v.left x q ds → (r ≡ Some x) × u.brings q × (ds ≡ u.left)
      to to_next q ds o c h = absurd (lost h.0 h.1.0 o c h.1.1)
      to to_break q ds o c (inl h) = (a.there to_break q ds).0 (o, c, h)
      to to_break q ds o c (inr h) = absurd (lost h.0 h.1.0 o c h.1.1)
      to to_continue q ds o c (inl h) = (a.there to_continue q ds).0 (o, c, h)
      to to_continue q ds o c (inr h) = absurd (lost h.0 h.1.0 o c h.1.1)

      from : (x : Exit) (q : One) (ds : List Choice) → r ≡ Some x → u.brings q → ds ≡ u.left → (o : One) × v.brings o × ThroughStmts t (next at s rest) o v.left x q ds
      from to_next q ds e c d = absurd (other e)
      from to_break q ds e c d = let o = (a.there to_break q ds).1 (e, c, d) in (o.0, o.1, inl o.2)
      from to_continue q ds e c d = let o = (a.there to_continue q ds).1 (e, c, d) in (o.0, o.1, inl o.2)

      back : (o : One) → v.brings o → MetStmts P NoJoin t k (next at s rest) o v.left → IsTrue v.met ⊎ ((i : One) × v.brings i × Met P NoJoin t at k s i v.left)
      back o c (inl z) = inr (o, c, z)
      back o c (inr z) = absurd (lost z.0 z.1.0 o c z.1.1)
