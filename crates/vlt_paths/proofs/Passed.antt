-- One path through rows, one after another.
use Rattle.std.proofs.Common.{◌≡◌, ◌∙◌, ◌↔◌, ◌⊎◌, ℕ, Bool, true, false, ◌||◌, IsTrue, List, [], ◌∷◌, ◌++◌, map, refl, sym, subst, inl, inr, ⊎_elim, rules}
use Rattle.std.specs.List.{list_any}
use Rattle.vlt_core.specs.Core.{Tok}
use Rattle.vlt_core.specs.Maps.{Row, is_tok, away_row, wants_absent}
use Rattle.vlt_core.specs.Found.{One, one_absent, one_held, one_lent, one_full, Ones, WantsOne, LeftBy, image, image_if, images}
use Rattle.vlt_core.specs.Witness.{only, RowMet, NoJoin, LeadsOn}
use Rattle.vlt_core_laws.proofs.Smooth.{smooth_image, smooth_images}
use Rattle.vlt_paths.specs.Along.{State, Sought, Passes}

-- each that the rows leave comes of one, and one leads to it
pub led : (t : Tok) (rs : List Row) (S : Ones) (q : One) → images t rs S q → (o : One) × S o × LeadsOn t rs o q
led t rs S q h = (smooth_images t rs).one S q h

pub leads : (t : Tok) (rs : List Row) (S : Ones) (o q : One) → S o → LeadsOn t rs o q → images t rs S q
leads t rs S o q s h = (smooth_images t rs).more (only o) S (λ z e. subst S (sym e) s) q h

-- a row that is sought is one of the token, which refuses
pub record IsOwn (P : Sought) (t : Tok) : Type 0 where
  pub own : (at : ℕ) (r : Row) (o : One) → P at r o → is_tok t r.tok ≡ true
  pub refuses : (at : ℕ) (r : Row) (o : One) → P at r o → WantsOne r.wanted o → ⊥

module _ (P : Sought) (t : Tok) (at : ℕ) where
  pub passes_none : (v : State) → Passes P t at [] v v
  passes_none v = record {
    left = refl;
    brings = λ o. (λ x. x, λ x. x);
    met = (λ h. inl h, λ x. ⊎_elim (λ h. h) (λ y. absurd y.1.2) x);
  }

  pub passes_more : (r : Row) (rs : List Row) (v m u : State) → Passes P t at (r ∷ []) v m → Passes P t at rs m u → Passes P t at (r ∷ rs) v u
  passes_more r rs v m u x y = record {
    left = y.left ∙ x.left;
    brings = λ o. (
      λ h. (smooth_images t rs).more m.brings (image t r v.brings) (λ z k. (x.brings z).0 k) o ((y.brings o).0 h),
      λ h. (y.brings o).1 ((smooth_images t rs).more (image t r v.brings) m.brings (λ z k. (x.brings z).1 k) o h),
    );
    met = (there, back);
  }
    where
      Hit : Type 0
      Hit = (v.left ≡ []) × ((o : One) × v.brings o × RowMet P NoJoin t at (r ∷ rs) o)

      there : IsTrue u.met → IsTrue v.met ⊎ Hit
      there h = ⊎_elim
          (λ k. ⊎_elim (λ b. inl b) (λ z. inr (z.0, (z.1.0, z.1.1, ⊎_elim (λ p. inl p) (λ p. absurd p.2) z.1.2))) (x.met.0 k))
          (λ z. let o = (smooth_image t r).one v.brings z.1.0 ((x.brings z.1.0).0 z.1.1) in inr (sym x.left ∙ z.0, (o.0, o.1, inr (z.1.0, o.2, z.1.2))))
          (y.met.0 h)

      back : IsTrue v.met ⊎ Hit → IsTrue u.met
      back z = ⊎_elim
          (λ k. y.met.1 (inl (x.met.1 (inl k))))
          (λ w. ⊎_elim
          (λ p. y.met.1 (inl (x.met.1 (inr (w.0, (w.1.0, w.1.1, inl p))))))
          (λ p. y.met.1 (inr (x.left ∙ w.0, (p.0, (x.brings p.0).1 ((smooth_image t r).more (only w.1.0) v.brings (λ o e. subst v.brings (sym e) w.1.1) p.0 p.1), p.2))))
          w.1.2)
          z

  -- rows, and then others
  both_to : (xs ys : List Row) (S : Ones) (o : One) → images t (xs ++ ys) S o → images t ys (images t xs S) o
  both_to [] ys S o h = h
  both_to (r ∷ xs) ys S o h = both_to xs ys (image t r S) o h

  both_back : (xs ys : List Row) (S : Ones) (o : One) → images t ys (images t xs S) o → images t (xs ++ ys) S o
  both_back [] ys S o h = h
  both_back (r ∷ xs) ys S o h = both_back xs ys (image t r S) o h

  met_to : (xs ys : List Row) (o : One) → RowMet P NoJoin t at (xs ++ ys) o → RowMet P NoJoin t at xs o ⊎ ((q : One) × LeadsOn t xs o q × RowMet P NoJoin t at ys q)
  met_to [] ys o h = inr (o, refl, h)
  met_to (r ∷ xs) ys o (inl h) = inl (inl h)
  met_to (r ∷ xs) ys o (inr h) = ⊎_elim (λ x. inl (inr (h.0, h.1, x))) (λ x. inr (x.0, leads t xs (image t r (only o)) h.0 x.0 h.1 x.1, x.2)) (met_to xs ys h.0 h.2)

  met_back : (xs ys : List Row) (o : One) → RowMet P NoJoin t at xs o ⊎ ((q : One) × LeadsOn t xs o q × RowMet P NoJoin t at ys q) → RowMet P NoJoin t at (xs ++ ys) o
  met_back [] ys o (inl h) = absurd h
  met_back [] ys o (inr h) = subst (RowMet P NoJoin t at ys) h.1 h.2
  met_back (r ∷ xs) ys o (inl (inl h)) = inl h
  met_back (r ∷ xs) ys o (inl (inr h)) = inr (h.0, h.1, met_back xs ys h.0 (inl h.2))
  met_back (r ∷ xs) ys o (inr h) = let x = led t xs (image t r (only o)) h.0 h.1 in inr (x.0, x.1, met_back xs ys x.0 (inr (h.0, x.2, h.2)))

  pub passes_all : (xs ys : List Row) (v m u : State) → Passes P t at xs v m → Passes P t at ys m u → Passes P t at (xs ++ ys) v u
  passes_all xs ys v m u x y = record {
    left = y.left ∙ x.left;
    brings = λ o. (
      λ h. both_back xs ys v.brings o ((smooth_images t ys).more m.brings (images t xs v.brings) (λ z k. (x.brings z).0 k) o ((y.brings o).0 h)),
      λ h. (y.brings o).1 ((smooth_images t ys).more (images t xs v.brings) m.brings (λ z k. (x.brings z).1 k) o (both_to xs ys v.brings o h)),
    );
    met = (
      λ h. ⊎_elim
          (λ k. ⊎_elim (λ b. inl b) (λ z. inr (z.0, (z.1.0, z.1.1, met_back xs ys z.1.0 (inl z.1.2)))) (x.met.0 k))
          (λ z. let c = led t xs v.brings z.1.0 ((x.brings z.1.0).0 z.1.1) in inr (sym x.left ∙ z.0, (c.0, c.1, met_back xs ys c.0 (inr (z.1.0, c.2, z.1.2)))))
          (y.met.0 h),
      λ h. y.met.1 (⊎_elim (λ b. inl (x.met.1 (inl b))) (λ z. ⊎_elim
          (λ k. inl (x.met.1 (inr (z.0, (z.1.0, z.1.1, k)))))
          (λ k. inr (x.left ∙ z.0, (k.0, (x.brings k.0).1 (leads t xs v.brings z.1.0 k.0 z.1.1 k.1), k.2)))
          (met_to xs ys z.1.0 z.1.2)) h),
    );
  }

  -- a row of another token
  pub passes_other : (r : Row) (v : State) → IsOwn P t → is_tok t r.tok ≡ false → Passes P t at (r ∷ []) v v
  passes_other r v own e = record {
    left = refl;
    brings = λ o. subst (λ b. v.brings o ↔ image_if b r v.brings o) (sym e) (λ x. x, λ x. x);
    met = (λ h. inl h, λ x. ⊎_elim (λ h. h) (λ y. ⊎_elim (λ p. absurd (clash (is_tok t r.tok) e (own.own at r y.1.0 p))) (λ p. absurd p.2) y.1.2) x);
  }
    where
      clash : (b : Bool) → b ≡ false → b ≡ true → ⊥
      clash b none all = no (subst IsTrue (sym all ∙ none) (search rules))
        where
          no : IsTrue false → ⊥
          no h = search rules

  -- a row of the token
  pub passes_own : (r : Row) (v u : State) (b : Bool) → is_tok t r.tok ≡ true → u.left ≡ v.left → ((q : One) → u.brings q ↔ ((o : One) × v.brings o × WantsOne r.wanted o × LeftBy r.after o q)) → (IsTrue u.met ↔ (IsTrue v.met ⊎ IsTrue b)) → (IsTrue b ↔ ((v.left ≡ []) × ((o : One) × v.brings o × P at r o))) → Passes P t at (r ∷ []) v u
  passes_own r v u b e left brings met hit = record {
    left = left;
    brings = λ q. subst (λ b. u.brings q ↔ image_if b r v.brings q) (sym e) (brings q);
    met = (
      λ h. ⊎_elim (λ k. inl k) (λ k. let z = hit.0 k in inr (z.0, (z.1.0, z.1.1, inl z.1.2))) (met.0 h),
      λ x. ⊎_elim (λ k. met.1 (inl k)) (λ y. ⊎_elim (λ p. met.1 (inr (hit.1 (y.0, (y.1.0, y.1.1, p))))) (λ p. absurd p.2) y.1.2) x,
    );
  }

  -- ---- rows that want tokens away

  no_true : IsTrue false → ⊥
  no_true h = search rules

  is_absent : (o : One) → WantsOne wants_absent o → o ≡ one_absent
  is_absent one_absent h = refl
  is_absent (one_held i) h = absurd h
  is_absent (one_lent i) h = absurd h
  is_absent one_full h = absurd h

  -- once the token is away, more such rows change nothing
  gone_again : (ts : List Tok) (u : State) → IsOwn P t → ((o : One) → u.brings o → o ≡ one_absent) → Passes P t at (map away_row ts) u u
  gone_again [] u own away = passes_none u
  gone_again (s ∷ ts) u own away = passes_more (away_row s) (map away_row ts) u u u (one (is_tok t s) refl) (gone_again ts u own away)
    where
      one : (b : Bool) → is_tok t s ≡ b → Passes P t at (away_row s ∷ []) u u
      one false e = passes_other (away_row s) u own e
      one true e = passes_own (away_row s) u u false e refl
          (λ q. (λ h. (q, h, subst (λ o. WantsOne wants_absent o) (sym (away q h)) tt, away q h), λ x. subst u.brings (away x.0 x.1 ∙ sym x.3) x.1))
          (λ h. inl h, λ x. ⊎_elim (λ h. h) (λ h. absurd (no_true h)) x)
          (λ h. absurd (no_true h), λ x. absurd (own.refuses at (away_row s) x.1.0 x.1.2 (subst (λ o. WantsOne wants_absent o) (sym (away x.1.0 x.1.1)) tt)))

  pub gone_none : (ts : List Tok) (v : State) → IsOwn P t → list_any (is_tok t) ts ≡ false → Passes P t at (map away_row ts) v v
  gone_none [] v own e = passes_none v
  gone_none (s ∷ ts) v own e = passes_more (away_row s) (map away_row ts) v v v (passes_other (away_row s) v own (neither (is_tok t s) (list_any (is_tok t) ts) e).0) (gone_none ts v own (neither (is_tok t s) (list_any (is_tok t) ts) e).1)
    where
      neither : (a b : Bool) → (a || b) ≡ false → (a ≡ false) × (b ≡ false)
      neither true b e = absurd (no_true (subst IsTrue e (search rules)))
      neither false b e = (refl, e)

  -- of such rows the one of the token alone counts
  pub gone_one : (ts : List Tok) (v u : State) → IsOwn P t → ((s s' : Tok) → is_tok s s' ≡ true → s ≡ s') → is_tok t t ≡ true → list_any (is_tok t) ts ≡ true → Passes P t at (away_row t ∷ []) v u → Passes P t at (map away_row ts) v u
  gone_one [] v u own same self e p = absurd (no_true (subst IsTrue (sym e) (search rules)))
  gone_one (s ∷ ts) v u own same self e p = here (is_tok t s) refl (λ rest. gone_one ts v u own same self rest p)
    where
      away : (o : One) → u.brings o → o ≡ one_absent
      away o h = (subst (λ b. image_if b (away_row t) v.brings o) self ((p.brings o).0 h)).3

      rest : (a b : Bool) → a ≡ false → (a || b) ≡ true → b ≡ true
      rest true b n e = absurd (no_true (subst IsTrue n (search rules)))
      rest false b n e = e

      here : (b : Bool) → is_tok t s ≡ b → (list_any (is_tok t) ts ≡ true → Passes P t at (map away_row ts) v u) → Passes P t at (map away_row (s ∷ ts)) v u
      here true is ih = passes_more (away_row s) (map away_row ts) v u u (subst (λ z. Passes P t at (away_row z ∷ []) v u) (same t s is) p) (gone_again ts u own away)
      here false is ih = passes_more (away_row s) (map away_row ts) v v u (passes_other (away_row s) v own is) (ih (rest (is_tok t s) (list_any (is_tok t) ts) is e))
