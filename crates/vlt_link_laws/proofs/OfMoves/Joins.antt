-- Where declarations stand in the joined list.
use Rattle.std.proofs.Common.{◌≡◌, ℕ, zero, suc, ◌==◌, Bool, true, false, true≢false, if◌then◌else◌, List, [], ◌∷◌, ◌++◌, Option, Some, None, slice_get, refl, sym, ap, ap₂, ◌∙◌, subst, arith, eqb-true, eq-eqb}
use Rattle.std.proofs.lemmas.Option.{none-some, same_Some}
use Rattle.vlt_syntax.specs.Tree.{Decl}
use Rattle.vlt_syntax.specs.Lists.{Each}
use Rattle.vlt_kinds_types.specs.Names.Refusals.{of_each}
use Rattle.vlt_link_laws.specs.Moves.Joins.{Join, Joins, befores, afters, counted, at_in}

-- ---- no two stand at one place

suc_same : (i j : ℕ) → suc i ≡ suc j → i ≡ j
suc_same i j e = omega (arith, e)

pub stands_apart : (is : Decl → Bool) (js : Joins) (i k : ℕ) → at_in is js i ≡ at_in is js k → i ≡ k
stands_apart is [] i k e = e
stands_apart is (j ∷ js) i k e = by (is j.after) (stands_apart is js) e
  where
    following : (o : Option Decl) (i k : ℕ) → ((i k : ℕ) → at_in is js i ≡ at_in is js k → i ≡ k) → counted (at_in is js) o i ≡ counted (at_in is js) o k → i ≡ k
    following None i k rest e = rest i k (suc_same _ _ e)
    following (Some d) zero zero rest e = refl
    following (Some d) zero (suc k) rest e = absurd (omega (arith, e))
    following (Some d) (suc i) zero rest e = absurd (omega (arith, e))
    following (Some d) (suc i) (suc k) rest e = ap suc (rest i k (suc_same _ _ e))

    by : (x : Bool) → ((i k : ℕ) → at_in is js i ≡ at_in is js k → i ≡ k) → (if x then counted (at_in is js) j.before i else at_in is js i) ≡ (if x then counted (at_in is js) j.before k else at_in is js k) → i ≡ k
    by true rest e = following j.before i k rest e
    by false rest e = rest i k e

pub apart : (is : Decl → Bool) (js : Joins) (t u : ℕ) → (at_in is js t == at_in is js u) ≡ (t == u)
apart is js t u = by (t == u) refl (at_in is js t == at_in is js u) refl
  where
    by : (x : Bool) → (t == u) ≡ x → (y : Bool) → (at_in is js t == at_in is js u) ≡ y → (at_in is js t == at_in is js u) ≡ (t == u)
    by true e y f = eq-eqb _ _ (ap (at_in is js) (eqb-true t u e)) ∙ sym e
    by false e true f = absurd (true≢false (sym (eq-eqb t u (stands_apart is js t u (eqb-true _ _ f))) ∙ e))
    by false e false f = f ∙ sym e

-- ---- what declarations give, one thing or none

abbrev pub Gives : {X : Type 0} → Bool → List X → Type 0
Gives {X} true xs = (x : X) × (xs ≡ x ∷ [])
Gives false xs = xs ≡ []

-- what a declaration gives, and what stands for it
abbrev pub GivesBoth : {X Y : Type 0} → (X → Y → Type 0) → Bool → List X → List Y → Type 0
GivesBoth {X} {Y} P true xs ys = (x : X) × (y : Y) × (xs ≡ x ∷ []) × (ys ≡ y ∷ []) × P x y
GivesBoth P false xs ys = (xs ≡ []) × (ys ≡ [])

module _ {X Y : Type 0} (P : X → Y → Type 0) (f : Decl → List X) (g : Decl → List Y) (is : Decl → Bool) where
  abbrev pub JoinGives : Join → Type 0
  JoinGives j = by j.before
    where
      by : Option Decl → Type 0
      by None = Gives (is j.after) (g j.after)
      by (Some d) = GivesBoth P (is j.after) (f d) (g j.after)

  pub record Stands (js : Joins) (i : ℕ) (x : X) : Type 0 where
    pub thing : Y
    pub there : slice_get (of_each g (afters js)) (at_in is js i) ≡ Some thing
    pub fits : P x thing

  -- the facts of a pair, where the test's outcome is known
  gives_one : (e : Decl) (b : Bool) → is e ≡ b → Gives (is e) (g e) → Gives b (g e)
  gives_one e b same h = subst (λ b. Gives b (g e)) same h

  gives_both : (d e : Decl) (b : Bool) → is e ≡ b → GivesBoth P (is e) (f d) (g e) → GivesBoth P b (f d) (g e)
  gives_both d e b same h = subst (λ b. GivesBoth P b (f d) (g e)) same h

  -- what stands after one more
  following : (e : Decl) (js : Joins) (o : Option Decl) (b : Bool) (ys : List Y) (i : ℕ) → is e ≡ b → g e ≡ ys →
      slice_get (of_each g (afters (record { before = o; after = e } ∷ js))) (at_in is (record { before = o; after = e } ∷ js) i) ≡
      slice_get (ys ++ of_each g (afters js)) (if b then counted (at_in is js) o i else at_in is js i)
  following e js o b ys i same gives = ap₂ (λ b ys. slice_get (ys ++ of_each g (afters js)) (if b then counted (at_in is js) o i else at_in is js i)) same gives

  step : (o : Option Decl) (e : Decl) (b : Bool) → is e ≡ b → (js : Joins) → JoinGives (record { before = o; after = e }) →
      ((i : ℕ) (x : X) → slice_get (of_each f (befores js)) i ≡ Some x → Stands js i x) → (i : ℕ) (x : X) →
      slice_get (of_each f (befores (record { before = o; after = e } ∷ js))) i ≡ Some x → Stands (record { before = o; after = e } ∷ js) i x
  step None e true same js h rest i x at =
      let y = gives_one e true same h in
      let r = rest i x at in
      record { thing = r.thing; there = following e js None true (y.0 ∷ []) i same y.1 ∙ r.there; fits = r.fits }
  step None e false same js h rest i x at =
      let r = rest i x at in
      record { thing = r.thing; there = following e js None false [] i same (gives_one e false same h) ∙ r.there; fits = r.fits }
  step (Some d) e true same js h rest zero x at =
      let y = gives_both d e true same h in
      let is_it = same_Some y.0 x (sym (ap (λ xs. slice_get (xs ++ of_each f (befores js)) zero) y.2) ∙ at) in
      record { thing = y.1; there = following e js (Some d) true (y.1 ∷ []) zero same y.3; fits = subst (λ x. P x y.1) is_it y.4 }
  step (Some d) e true same js h rest (suc i) x at =
      let y = gives_both d e true same h in
      let r = rest i x (sym (ap (λ xs. slice_get (xs ++ of_each f (befores js)) (suc i)) y.2) ∙ at) in
      record { thing = r.thing; there = following e js (Some d) true (y.1 ∷ []) (suc i) same y.3 ∙ r.there; fits = r.fits }
  step (Some d) e false same js h rest i x at =
      let y = gives_both d e false same h in
      let r = rest i x (sym (ap (λ xs. slice_get (xs ++ of_each f (befores js)) i) y.0) ∙ at) in
      record { thing = r.thing; there = following e js (Some d) false [] i same y.1 ∙ r.there; fits = r.fits }

  -- each thing of the first list stands in the second
  pub stands : (js : Joins) → Each JoinGives js → (i : ℕ) (x : X) → slice_get (of_each f (befores js)) i ≡ Some x → Stands js i x
  stands [] all i x at = absurd (none-some x at)
  stands (j ∷ js) all i x at = step j.before j.after (is j.after) refl js all.0 (stands js all.1) i x at

  past_step : (o : Option Decl) (e : Decl) (b : Bool) → is e ≡ b → (js : Joins) → JoinGives (record { before = o; after = e }) →
      ((i : ℕ) → slice_get (of_each f (befores js)) i ≡ None → slice_get (of_each g (afters js)) (at_in is js i) ≡ None) → (i : ℕ) →
      slice_get (of_each f (befores (record { before = o; after = e } ∷ js))) i ≡ None →
      slice_get (of_each g (afters (record { before = o; after = e } ∷ js))) (at_in is (record { before = o; after = e } ∷ js) i) ≡ None
  past_step None e true same js h rest i at = let y = gives_one e true same h in following e js None true (y.0 ∷ []) i same y.1 ∙ rest i at
  past_step None e false same js h rest i at = following e js None false [] i same (gives_one e false same h) ∙ rest i at
  past_step (Some d) e true same js h rest zero at =
      let y = gives_both d e true same h in absurd (none-some y.0 (sym at ∙ ap (λ xs. slice_get (xs ++ of_each f (befores js)) zero) y.2))
  past_step (Some d) e true same js h rest (suc i) at =
      let y = gives_both d e true same h in
      following e js (Some d) true (y.1 ∷ []) (suc i) same y.3 ∙ rest i (sym (ap (λ xs. slice_get (xs ++ of_each f (befores js)) (suc i)) y.2) ∙ at)
  past_step (Some d) e false same js h rest i at =
      let y = gives_both d e false same h in
      following e js (Some d) false [] i same y.1 ∙ rest i (sym (ap (λ xs. slice_get (xs ++ of_each f (befores js)) i) y.0) ∙ at)

  -- and where nothing is in the first, nothing stands in the second
  pub stays_past : (js : Joins) → Each JoinGives js → (i : ℕ) → slice_get (of_each f (befores js)) i ≡ None → slice_get (of_each g (afters js)) (at_in is js i) ≡ None
  stays_past [] all i at = at_none i
    where
      at_none : (i : ℕ) → slice_get {X = Y} [] i ≡ None
      at_none i = refl
  stays_past (j ∷ js) all i at = past_step j.before j.after (is j.after) refl js all.0 (stays_past js all.1) i at
