-- Some path comes to each row and to each join of which something is found.
use Rattle.std.proofs.Common.{◌≡◌, ◌+◌, ℕ, zero, suc, Bool, true, false, List, [], ◌∷◌, map, length, refl, ap, subst, inl, inr, ⊎_elim}
use Rattle.vlt_core.specs.Core.{Tok}
use Rattle.vlt_core.specs.Maps.{Row, is_tok, away_row}
use Rattle.vlt_core.specs.Flow.{Flow, step, choose, loop, switch, scope, focus, return, jump, Block, block, Stmts, done, next, Arms, no_arms, arm, end_of}
use Rattle.vlt_core.specs.Found.{One, Ones, image, images, to_next, out, out_block, out_stmts, head_of}
use Rattle.vlt_core.specs.Faults.{If, Spot, row_spot, spots, spots_block, spots_stmts, RowAt, SpotAt, SpotAtBlock, SpotAtStmts, SpotAtArms}
use Rattle.vlt_core.specs.Witness.{Choice, choice, then_arm, else_arm, turn, case_arm, Through, ThroughBlock, Reaches, RowMet, MetHere, JoinMet, Met, MetBlock, MetStmts, MetArm}
use Rattle.vlt_core_laws.specs.Tame.{IsTame, IsTameBlock, IsTameStmts, IsTameArms}
use Rattle.vlt_core_laws.proofs.Smooth.{smooth_image}
use Rattle.vlt_check_laws.proofs.Leading.{Path, source, Grows, Leads, back, lead_form, lead_block, lead_stmts}

-- what is so of a row, or of a join, where something is found is so of a status that is found
pub record Singles (R : Row → Ones → Type 0) (J : Ones → Type 0) (P : (at : ℕ) → Row → One → Type 0) (Q : Spot → One → Type 0) (p : Spot) (t : Tok) : Type 1 where
  pub row : (r : Row) (S : Ones) → is_tok t r.tok ≡ true → R r S → (o : One) × S o × P p.at r o
  pub join : (S : Ones) → J S → (o : One) × S o × Q p o

reaches_grow : (t : Tok) (rs : List Row) (s : Block) (at : ℕ) (q : One) (ds : List Choice) →
    Grows t rs s at (λ n o cs. Reaches (ThroughBlock t s) t rs at n o cs q ds)
reaches_grow t rs s at q ds = record { more = λ j o m r es fs l b k. (m, l, (es, refl, (r, (fs, b, k)))) }

module _ (R : Row → Ones → Type 0) (J : Ones → Type 0) (P : (at : ℕ) → Row → One → Type 0) (Q : Spot → One → Type 0) (p : Spot) (t : Tok) (one : Singles R J P Q p t) where
  -- a status that comes to rows and meets one of them
  pub record RowPath (at : ℕ) (rs : List Row) (S : Ones) : Type 0 where
    pub start : One
    pub comes : S start
    pub met : RowMet P Q t at rs start

  row_here : (at n : ℕ) (b : Bool) (r : Row) (rs : List Row) (S : Ones) → is_tok t r.tok ≡ b → p ≡ row_spot at n → If b (R r S) →
      RowPath at (r ∷ rs) S
  row_here at n true r rs S e h x =
      let z = one.row r S e x in
      record { start = z.0; comes = z.1; met = inl (subst (λ a. P a r z.0) (ap (λ s. s.at) h) z.2) }
  row_here at n false r rs S e h x = absurd x

  row_path : (at n : ℕ) (rs : List Row) (S : Ones) → RowAt R J p t at n rs S → RowPath at rs S
  row_path at n [] S x = absurd x
  row_path at n (r ∷ rs) S x = ⊎_elim (λ y. row_here at n (is_tok t r.tok) r rs S refl y.0 y.1)
      (λ y.
      let z = row_path at (n + 1) rs (image t r S) y in
      let o = (smooth_image t r).one S z.start z.comes in
      record { start = o.0; comes = o.1; met = inr (z.start, o.2, z.met) }) x

  rows_path : (at n : ℕ) (rs : List Row) (S : Ones) (K : One → List Choice → Type 0) → ((o : One) → MetHere P Q t at rs o [] → K o []) →
      RowAt R J p t at n rs S → Path S K
  rows_path at n rs S K f x = let z = row_path at n rs S x in record {
    start = z.start;
    comes = z.comes;
    choices = [];
    fact = f z.start (refl, z.met);
  }

  -- a way to the next statement, with the join after it
  join_path : (s : Flow) (at : ℕ) (q : Spot) (S : Ones) → IsTame s → (p ≡ q) × J (out t s S to_next) →
      Path S (λ o cs. JoinMet P Q t q (Through t at s) o cs)
  join_path s at q S j x =
      let y = one.join (out t s S to_next) x.1 in
      let z = lead_form s t at S to_next y.0 [] j y.1 in
      record { start = z.start; comes = z.comes; choices = z.choices; fact = (y.0, z.fact, subst (λ s. Q s y.0) x.0 y.2) }

  -- a path to the head of a loop, and on
  head_path : (rs : List Row) (s : Block) (at : ℕ) (S : Ones) (q : One) (ds : List Choice) → IsTameBlock s → head_of t rs s S q →
      Path S (λ o cs. (n : ℕ) × Reaches (ThroughBlock t s) t rs at n o cs q ds)
  head_path rs s at S q ds j w =
      let leads : Leads t s = record { path = λ S x q ds y. lead_block s t S x q ds j y } in
      back t rs s at leads (λ n o cs. Reaches (ThroughBlock t s) t rs at n o cs q ds) (reaches_grow t rs s at q ds) S w.0 zero q ds w.1 (refl, refl)

  mutual
    pub form : (s : Flow) (at k : ℕ) (S : Ones) → IsTame s → SpotAt R J p t at k s S → Path S (λ o cs. Met P Q t at k s o cs)
    form (step rs) at k S j x = rows_path at k rs S _ (λ o y. y) x
    form (choose rs a b) at k S j x = ⊎_elim (λ y. rows_path at k rs S _ (λ o z. inl z) y) (⊎_elim
        (λ y.
        let z = body a (k + length rs) (images t rs S) j.1 y in
        let o = source t rs S z.start z.comes in
        record {
          start = o.start;
          comes = o.comes;
          choices = choice at then_arm ∷ z.choices;
          fact = inr (inl (z.start, o.leads, (z.choices, inl (refl, z.fact))));
        }) (⊎_elim
        (λ y.
        let z = body b (k + length rs + spots_block a) (images t rs S) j.2 y in
        let o = source t rs S z.start z.comes in
        record {
          start = o.start;
          comes = o.comes;
          choices = choice at else_arm ∷ z.choices;
          fact = inr (inl (z.start, o.leads, (z.choices, inr (refl, z.fact))));
        })
        (λ y. let z = join_path (choose rs a b) at _ S j y in record {
          start = z.start;
          comes = z.comes;
          choices = z.choices;
          fact = inr (inr z.fact);
        }))) x
    form (loop rs s) at k S j x = ⊎_elim
        (λ y.
        let q = one.join (head_of t rs s S) y.1 in
        let z = head_path rs s at S q.0 [] j.1 q.1 in
        record {
          start = z.start;
          comes = z.comes;
          choices = z.choices;
          fact = inl (z.fact.0, (q.0, ([], z.fact.1, inl (refl, subst (λ s. Q s q.0) y.0 q.2))));
        }) (⊎_elim
        (λ y.
        let q = row_path at (k + 1) rs (head_of t rs s S) y in
        let z = head_path rs s at S q.start [] j.1 q.comes in
        record {
          start = z.start;
          comes = z.comes;
          choices = z.choices;
          fact = inl (z.fact.0, (q.start, ([], z.fact.1, inr (inl (refl, q.met)))));
        }) (⊎_elim
        (λ y.
        let b = body s (k + 1 + length rs) (images t rs (head_of t rs s S)) j.1 y in
        let o = source t rs (head_of t rs s S) b.start b.comes in
        let z = head_path rs s at S o.start (choice at turn ∷ b.choices) j.1 o.comes in
        record {
          start = z.start;
          comes = z.comes;
          choices = z.choices;
          fact = inl (z.fact.0, (o.start, (choice at turn ∷ b.choices, z.fact.1, inr (inr (b.start, o.leads, (b.choices, refl, b.fact))))));
        })
        (λ y. let z = join_path (loop rs s) at _ S j y in record {
          start = z.start;
          comes = z.comes;
          choices = z.choices;
          fact = inr z.fact;
        }))) x
    form (switch rs arms end) at k S j x = ⊎_elim (λ y. rows_path at k rs S _ (λ o z. inl z) y) (⊎_elim
        (λ y.
        let z = ways arms at (k + length rs) (images t rs S) j.1 y in
        let o = source t rs S z.start z.comes in
        record {
          start = o.start;
          comes = o.comes;
          choices = choice at (case_arm z.fact.0) ∷ z.choices;
          fact = inr (inl (z.start, o.leads, (z.fact.0, (z.choices, refl, z.fact.1))));
        })
        (λ y. let z = join_path (switch rs arms end) at _ S j y in record {
          start = z.start;
          comes = z.comes;
          choices = z.choices;
          fact = inr (inr z.fact);
        })) x
    form (scope s) at k S j x = let z = body s k S j x in record { start = z.start; comes = z.comes; choices = z.choices; fact = z.fact }
    form (focus rs s es) at k S j x = ⊎_elim (λ y. rows_path at k rs S _ (λ o z. inl z) y) (⊎_elim
        (λ y.
        let z = body s (k + length rs) (images t rs S) j.1 y in
        let o = source t rs S z.start z.comes in
        record { start = o.start; comes = o.comes; choices = z.choices; fact = inr (inl (z.start, o.leads, z.fact)) })
        (λ y.
        let e = row_path (end_of s) (k + length rs + spots_block s) es (out_block t s (images t rs S) to_next) y in
        let z = lead_block s t (images t rs S) to_next e.start [] j.1 e.comes in
        let o = source t rs S z.start z.comes in
        record { start = o.start; comes = o.comes; choices = z.choices; fact = inr (inr (z.start, o.leads, (e.start, z.fact, e.met))) })) x
    form (return rs) at k S j x = rows_path at k rs S _ (λ o y. y) x
    form (jump c left) at k S j x = rows_path at k (map away_row left) S _ (λ o y. y) x

    pub body : (s : Block) (k : ℕ) (S : Ones) → IsTameBlock s → SpotAtBlock R J p t k s S → Path S (λ o cs. MetBlock P Q t k s o cs)
    body (block ss bound end) k S j x = ⊎_elim
        (λ y. let z = list ss k S j y in record { start = z.start; comes = z.comes; choices = z.choices; fact = inl z.fact })
        (λ y.
        let e = row_path end (k + spots_stmts ss) (map away_row bound) (out_stmts t ss S to_next) y in
        let z = lead_stmts ss t S to_next e.start [] j e.comes in
        record { start = z.start; comes = z.comes; choices = z.choices; fact = inr (e.start, z.fact, e.met) }) x

    list : (ss : Stmts) (k : ℕ) (S : Ones) → IsTameStmts ss → SpotAtStmts R J p t k ss S → Path S (λ o cs. MetStmts P Q t k ss o cs)
    list done k S j x = absurd x
    list (next at s rest) k S j x = ⊎_elim
        (λ y. let z = form s at k S j.0 y in record { start = z.start; comes = z.comes; choices = z.choices; fact = inl z.fact })
        (λ y.
        let e = list rest (k + spots s) (out t s S to_next) j.1 y in
        let z = lead_form s t at S to_next e.start e.choices j.0 e.comes in
        record { start = z.start; comes = z.comes; choices = z.choices; fact = inr (e.start, (e.choices, z.fact, e.fact)) }) x

    ways : (arms : Arms) (at k : ℕ) (S : Ones) → IsTameArms arms → SpotAtArms R J p t at k arms S →
        Path S (λ o cs. (i : ℕ) × MetArm P Q t at k i arms o cs)
    ways no_arms at k S j x = absurd x
    ways (arm rs s rest) at k S j x = ⊎_elim
        (λ y. rows_path at k rs S (λ o cs. (i : ℕ) × MetArm P Q t at k i (arm rs s rest) o cs) (λ o z. (zero, inl z)) y) (⊎_elim
        (λ y.
        let z = body s (k + length rs) (images t rs S) j.1 y in
        let o = source t rs S z.start z.comes in
        record { start = o.start; comes = o.comes; choices = z.choices; fact = (zero, inr (z.start, o.leads, z.fact)) })
        (λ y.
        let z = ways rest at (k + length rs + spots_block s) S j.2 y in
        record { start = z.start; comes = z.comes; choices = z.choices; fact = (suc z.fact.0, z.fact.1) })) x
