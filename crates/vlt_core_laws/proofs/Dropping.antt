-- The search for parts that no release may reach has come to its end after as many steps as there are types.
use Rattle.std.proofs.Common.{◌≡◌, ◌⊎◌, inl, inr, ⊎_elim, ℕ, zero, suc, ◌+◌, ◌<◌, ◌≤◌, nat_lt, Bool, true, false, ◌||◌, List, [], ◌∷◌, ◌++◌, length, map, filter, Option, refl, sym, ap, ◌∙◌, subst, arith}
use Rattle.std.proofs.lemmas.Bool.{cases_Bool, ltb-true, ltb-false}
use Rattle.std.proofs.lemmas.Option.{slice_get_past}
use Rattle.std.specs.List.{list_any, flat_map}
use Rattle.vlt_core.specs.Core.{Ty, Program, TypeDecl}
use Rattle.vlt_core.specs.Lookups.{is_owning, fields_in, cases_in}
use Rattle.vlt_core.specs.Types.{owning_parts, is_undroppable_part, part_type, holds_undroppable}
use Rattle.vlt_core_laws.specs.Parts.{IsAmong, IsFree}
use Rattle.vlt_core_laws.proofs.Counting.{count, count_all, AreSame, count_grows}

or_none : (a b : Bool) → (a || b) ≡ false → (a ≡ false) × (b ≡ false)
or_none true b e = cc
or_none false b e = (refl, e)

or_left : (a b : Bool) → a ≡ true → (a || b) ≡ true
or_left true b e = refl
or_left false b e = cc

or_more : (a b c : Bool) → (b ≡ true → c ≡ true) → (a || b) ≡ true → (a || c) ≡ true
or_more true b c to e = refl
or_more false b c to e = to e

pub none_among : (test : Ty → Bool) (tys : List Ty) → list_any test tys ≡ false → (ty : Ty) → IsAmong ty tys →
    test ty ≡ false
none_among test [] e ty i = absurd i
none_among test (u ∷ us) e ty i =
    let both = or_none (test u) (list_any test us) e in
    ⊎_elim (λ same. ap test same ∙ both.0) (λ rest. none_among test us both.1 ty rest) i

or_right : (a b : Bool) → b ≡ true → (a || b) ≡ true
or_right true b e = refl
or_right false b e = e

any_more : (a b : Ty → Bool) → ((ty : Ty) → a ty ≡ true → b ty ≡ true) → (tys : List Ty) →
    list_any a tys ≡ true → list_any b tys ≡ true
any_more a b to [] e = cc
any_more a b to (u ∷ us) e = by (a u) refl (any_more a b to us) e
  where
    by : (x : Bool) → a u ≡ x → (list_any a us ≡ true → list_any b us ≡ true) → (x || list_any a us) ≡ true →
        (b u || list_any b us) ≡ true
    by true q more e = or_left (b u) (list_any b us) (to u q)
    by false q more e = or_right (b u) (list_any b us) (more e)

any_same : (a b : Ty → Bool) → ((ty : Ty) → b ty ≡ a ty) → (tys : List Ty) → list_any b tys ≡ list_any a tys
any_same a b same [] = refl
any_same a b same (u ∷ us) = rw (same u, any_same a b same us) refl

module _ (p : Program) where
  abbrev fast : (type : ℕ) → Bool
  fast t = list_any (is_undroppable_part p) (owning_parts p t)

  abbrev reaches : (steps : ℕ) → (type : ℕ) → Bool
  reaches n t = list_any (λ ty. holds_undroppable p n (part_type ty)) (owning_parts p t)

  -- a type that isn't declared has no parts
  past_has_none : (t : ℕ) → length p.types ≤ t → owning_parts p t ≡ []
  past_has_none t le = ap parts_in (slice_get_past p.types t le)
    where
      parts_in : Option TypeDecl → List Ty
      parts_in o = filter is_owning (map (λ d. d.ty) (fields_in o) ++ flat_map (λ c. c.payload) (cases_in o))

  past_is_free : (n t : ℕ) → length p.types ≤ t → holds_undroppable p n t ≡ false
  past_is_free zero t le = ap (list_any (is_undroppable_part p)) (past_has_none t le)
  past_is_free (suc n) t le =
      ap (λ tys. list_any (is_undroppable_part p) tys || list_any (λ ty. holds_undroppable p n (part_type ty)) tys) (past_has_none t le)

  -- a step more finds more
  grows : (n t : ℕ) → holds_undroppable p n t ≡ true → holds_undroppable p (suc n) t ≡ true
  grows zero t e = or_left (fast t) (reaches zero t) e
  grows (suc n) t e =
      or_more (fast t) (reaches n t) (reaches (suc n) t)
      (any_more (λ ty. holds_undroppable p n (part_type ty)) (λ ty. holds_undroppable p (suc n) (part_type ty))
      (λ ty. grows n (part_type ty)) (owning_parts p t)) e

  -- one step more finds no more
  abbrev IsStable : ℕ → Type 0
  IsStable n = (t : ℕ) → holds_undroppable p (suc n) t ≡ holds_undroppable p n t

  stays_stable : (n : ℕ) → IsStable n → IsStable (suc n)
  stays_stable n stable t =
      ap (λ b. fast t || b)
      (any_same (λ ty. holds_undroppable p n (part_type ty)) (λ ty. holds_undroppable p (suc n) (part_type ty))
      (λ ty. stable (part_type ty)) (owning_parts p t))

  from_same : (n : ℕ) → AreSame (holds_undroppable p n) (holds_undroppable p (suc n)) (length p.types) → IsStable n
  from_same n same t = ⊎_elim
      (λ lt. same t lt)
      (λ le. past_is_free (suc n) t le ∙ sym (past_is_free n t le))
      (below_or t (length p.types))
    where
      below_or : (a b : ℕ) → (a < b) ⊎ (b ≤ a)
      below_or a b = ⊎_elim (λ e. inl (ltb-true a b e)) (λ e. inr (ltb-false a b e)) (cases_Bool (nat_lt a b))

  -- it is so, or so many types are found
  counted : (n : ℕ) → IsStable n ⊎ (suc n ≤ count (holds_undroppable p n) (length p.types))
  counted zero = by (count_grows (λ t. false) (holds_undroppable p zero) (λ t e. absurd (never e)) (length p.types))
    where
      never : false ≡ true → ⊥
      never e = cc

      nothing : (t : ℕ) → list_any (λ ty. false) (owning_parts p t) ≡ false
      nothing t = none (owning_parts p t)
        where
          none : (tys : List Ty) → list_any (λ ty. false) tys ≡ false
          none [] = refl
          none (u ∷ us) = none us

      all_free : AreSame (λ t. false) (holds_undroppable p zero) (length p.types) → (t : ℕ) → holds_undroppable p zero t ≡ false
      all_free same t = ⊎_elim
          (λ e. same t (ltb-true t (length p.types) e))
          (λ e. past_is_free zero t (ltb-false t (length p.types) e))
          (cases_Bool (nat_lt t (length p.types)))

      by : (AreSame (λ t. false) (holds_undroppable p zero) (length p.types) ×
          (count (λ t. false) (length p.types) ≤ count (holds_undroppable p zero) (length p.types))) ⊎
          (count (λ t. false) (length p.types) + 1 ≤ count (holds_undroppable p zero) (length p.types)) →
          IsStable zero ⊎ (1 ≤ count (holds_undroppable p zero) (length p.types))
      by (inl same) =
          let free = all_free same.0 in
          inl (λ t. rw (any_same (λ ty. false) (λ ty. holds_undroppable p zero (part_type ty)) (λ ty. free (part_type ty)) (owning_parts p t), nothing t, free t) refl)
      by (inr more) = inr (omega arith)
  counted (suc n) = ⊎_elim
      (λ stable. inl (stays_stable n stable))
      (λ many. by many (count_grows (holds_undroppable p n) (holds_undroppable p (suc n)) (grows n) (length p.types)))
      (counted n)
    where
      by : suc n ≤ count (holds_undroppable p n) (length p.types) →
          (AreSame (holds_undroppable p n) (holds_undroppable p (suc n)) (length p.types) ×
          (count (holds_undroppable p n) (length p.types) ≤ count (holds_undroppable p (suc n)) (length p.types))) ⊎
          (count (holds_undroppable p n) (length p.types) + 1 ≤ count (holds_undroppable p (suc n)) (length p.types)) →
          IsStable (suc n) ⊎ (suc (suc n) ≤ count (holds_undroppable p (suc n)) (length p.types))
      by many (inl same) = inl (stays_stable n (from_same n same.0))
      by many (inr more) = inr (omega arith)

  stable_below : (n : ℕ) → length p.types ≡ suc n → IsStable n
  stable_below n is = ⊎_elim
      (λ stable. stable)
      (λ many.
      let all = count_all (holds_undroppable p n) (length p.types) (omega arith) in
      from_same n (λ t lt. grows n t (all t lt) ∙ sym (all t lt)))
      (counted n)

  -- what is part of a type that may be dropped may be dropped, and so may its own parts
  pub part_is_free : (t : ℕ) → IsFree p t → (ty : Ty) → IsAmong ty (owning_parts p t) →
      (is_undroppable_part p ty ≡ false) × IsFree p (part_type ty)
  part_is_free t free ty i = by (length p.types) refl free.is
    where
      by : (n : ℕ) → length p.types ≡ n → holds_undroppable p n t ≡ false → (is_undroppable_part p ty ≡ false) × IsFree p (part_type ty)
      by zero is e = absurd (subst (IsAmong ty) (past_has_none t (omega arith)) i)
      by (suc n) is e =
          let both = or_none (fast t) (reaches n t) e in (
            none_among (is_undroppable_part p) (owning_parts p t) both.0 ty i,
            record {
              is = ap (λ n. holds_undroppable p n (part_type ty)) is ∙ (stable_below n is (part_type ty) ∙
                  none_among (λ ty. holds_undroppable p n (part_type ty)) (owning_parts p t) both.1 ty i);
            },
          )
