-- What the members of lists find.
use Rattle.std.proofs.Common.{◌≡◌, ◌∙◌, ◌⊎◌, ◌++◌, ◌+◌, ◌<◌, ◌≤◌, ℕ, zero, suc, List, [], ◌∷◌, length, take, get_or, sym, ap, subst, inl, inr, ⊎_elim, arith}
use Rattle.std.proofs.lemmas.Grind.{take_at_read}
use Rattle.std.proofs.lemmas.List.{take_all}
use Rattle.vlt_core.specs.Found.{One}
use Rattle.vlt_core.specs.Witness.{Choice}
use Rattle.vlt_witness.specs.Ways.{Finds, Among}
use Rattle.vlt_witness.specs.Search.{Led, Spreads, Joined, By, CanBy}
use Rattle.vlt_witness.proofs.Algebra.{spreads_map, spreads_both}

pub take_more : {X : Type 0} (xs : List X) (i : ℕ) (x : X) → i < length xs → x ≡ get_or xs i x → take (i + 1) xs ≡ take i xs ++ x ∷ []
take_more xs i x lt read = (take_at_read xs i x lt).1 ∙ ap (λ y. take i xs ++ y ∷ []) (sym read)

module _ {X E : Type 0} (P : X → Finds E) where
  pub among_at : (xs : List X) (i : ℕ) (x : X) (f : One) (e : E) (cs : List Choice) → i < length xs → x ≡ get_or xs i x → P x f e cs → Among P xs f e cs
  among_at [] i x f e cs lt read p = absurd (omega (arith, lt))
  among_at (y ∷ ys) zero x f e cs lt read p = inl (subst (λ z. P z f e cs) read p)
  among_at (y ∷ ys) (suc i) x f e cs lt read p = inr (among_at ys i x f e cs (omega (arith, lt)) read p)

  pub among_first : (xs ys : List X) (f : One) (e : E) (cs : List Choice) → Among P xs f e cs → Among P (xs ++ ys) f e cs
  among_first [] ys f e cs p = absurd p
  among_first (x ∷ xs) ys f e cs p = ⊎_elim (λ y. inl y) (λ y. inr (among_first xs ys f e cs y)) p

  pub among_last : (xs ys : List X) (f : One) (e : E) (cs : List Choice) → Among P ys f e cs → Among P (xs ++ ys) f e cs
  among_last [] ys f e cs p = p
  among_last (x ∷ xs) ys f e cs p = inr (among_last xs ys f e cs p)

  pub among_split : (xs ys : List X) (f : One) (e : E) (cs : List Choice) → Among P (xs ++ ys) f e cs → Among P xs f e cs ⊎ Among P ys f e cs
  among_split [] ys f e cs p = inr p
  among_split (x ∷ xs) ys f e cs p = ⊎_elim (λ y. inl (inl y)) (λ y. ⊎_elim (λ z. inl (inr z)) (λ z. inr z) (among_split xs ys f e cs y)) p

  pub among_more : (xs : List X) (i : ℕ) (x : X) (f : One) (e : E) (cs : List Choice) → i < length xs → x ≡ get_or xs i x → Among P (take (i + 1) xs) f e cs → Among P (take i xs) f e cs ⊎ P x f e cs
  among_more xs i x f e cs lt read p =
      let q = subst (λ l. Among P l f e cs) (take_more xs i x lt read) p in
      ⊎_elim (λ y. inl y) (λ y. ⊎_elim (λ z. inr z) (λ z. absurd z) y) (among_split (take i xs) (x ∷ []) f e cs q)

  pub among_less : (xs : List X) (i : ℕ) (x : X) (f : One) (e : E) (cs : List Choice) → i < length xs → x ≡ get_or xs i x → Among P (take i xs) f e cs → Among P (take (i + 1) xs) f e cs
  among_less xs i x f e cs lt read p = subst (λ l. Among P l f e cs) (sym (take_more xs i x lt read)) (among_first (take i xs) (x ∷ []) f e cs p)

  pub among_new : (xs : List X) (i : ℕ) (x : X) (f : One) (e : E) (cs : List Choice) → i < length xs → x ≡ get_or xs i x → P x f e cs → Among P (take (i + 1) xs) f e cs
  among_new xs i x f e cs lt read p = subst (λ l. Among P l f e cs) (sym (take_more xs i x lt read)) (among_last (take i xs) (x ∷ []) f e cs (inl p))

  -- one more is put at the end
  pub joined_push : (xs : List X) (x : X) → Joined (Among P xs) (P x) (Among P (xs ++ x ∷ []))
  joined_push xs x = record {
    found = λ f e cs p. ⊎_elim (λ y. inl y) (λ y. ⊎_elim (λ z. inr z) (λ z. absurd z) y) (among_split xs (x ∷ []) f e cs p);
    first = λ f e cs p. (cs, among_first xs (x ∷ []) f e cs p);
    second = λ f e cs p. (cs, among_last xs (x ∷ []) f e cs (inl p));
  }

  -- so far, and one more
  pub joined_more : (xs : List X) (i : ℕ) (x : X) (A B R : Finds E) → i < length xs → x ≡ get_or xs i x → Joined A (Among P (take i xs)) B → Joined B (P x) R → Joined A (Among P (take (i + 1) xs)) R
  joined_more xs i x A B R lt read j k = record {
    found = λ f e cs r. ⊎_elim
        (λ b. ⊎_elim (λ a. inl a) (λ p. inr (among_less xs i x f e cs lt read p)) (j.found f e cs b))
        (λ p. inr (among_new xs i x f e cs lt read p)) (k.found f e cs r);
    first = λ f e cs a. let b = j.first f e cs a in k.first f e b.0 b.1;
    second = λ f e cs p. ⊎_elim (λ q. let b = j.second f e cs q in k.first f e b.0 b.1) (λ q. k.second f e cs q) (among_more xs i x f e cs lt read p);
  }

  pub joined_none : (A : Finds E) → Joined A (Among P []) A
  joined_none A = record { found = λ f e cs a. inl a; first = λ f e cs a. (cs, a); second = λ f e cs p. absurd p }

-- ways one after another
module _ {X E : Type 0} (P : X → Finds One) (G : One → List Choice → E → Type 0) (C : One → E → Type 0) where
  pub spreads_first : (A : Finds E) → Spreads G C (Among P []) A A
  spreads_first A = record { found = λ f e cs a. inl a; kept = λ f e cs a. (cs, a); all = λ f o cs e p c. absurd p }

  led_more : (L M : Finds One) (f : One) (e : E) (cs : List Choice) → ((o : One) (ds : List Choice) → L f o ds → M f o ds) → Led G L f e cs → Led G M f e cs
  led_more L M f e cs to z = record { begin = z.begin; before = z.before; following = z.following; comes = to z.begin z.before z.comes; goes = z.goes; whole = z.whole }

  pub spreads_more : (xs : List X) (i : ℕ) (x : X) (A B R : Finds E) → i < length xs → x ≡ get_or xs i x → Spreads G C (Among P (take i xs)) A B → Spreads G C (P x) B R → Spreads G C (Among P (take (i + 1) xs)) A R
  spreads_more xs i x A B R lt read s t = record {
    found = λ f e cs r. ⊎_elim
        (λ b. ⊎_elim (λ a. inl a) (λ z. inr (led_more (Among P (take i xs)) (Among P (take (i + 1) xs)) f e cs (λ o ds p. among_less P xs i x f o ds lt read p) z)) (s.found f e cs b))
        (λ z. inr (led_more (P x) (Among P (take (i + 1) xs)) f e cs (λ o ds p. among_new P xs i x f o ds lt read p) z)) (t.found f e cs r);
    kept = λ f e cs a. let b = s.kept f e cs a in t.kept f e b.0 b.1;
    all = λ f o cs e p c. ⊎_elim (λ q. let b = s.all f o cs e q c in t.kept f e b.0 b.1) (λ q. t.all f o cs e q c) (among_more P xs i x f o cs lt read p);
  }

  pub spreads_ends : (xs : List X) (i : ℕ) (A R : Finds E) → length xs ≤ i → Spreads G C (Among P (take i xs)) A R → Spreads G C (Among P xs) A R
  spreads_ends xs i A R past s = subst (λ l. Spreads G C (Among P l) A R) (take_all i xs past) s

-- ---- one way, and steps one after another

pub by_more : {Y E : Type 0} (P : Y → Finds E) (steps : List Y) (i : ℕ) (s : Y) (L : Finds One) (A B R : Finds E) → i < length steps → s ≡ get_or steps i s → Spreads (By (Among P (take i steps))) (CanBy (Among P (take i steps))) L A B → Spreads (By (P s)) (CanBy (P s)) L B R → Spreads (By (Among P (take (i + 1) steps))) (CanBy (Among P (take (i + 1) steps))) L A R
by_more P steps i s L A B R lt read x y =
    spreads_map (λ o cs e. By (Among P (take i steps)) o cs e ⊎ By (P s) o cs e) (By (Among P (take (i + 1) steps))) (λ o e. CanBy (Among P (take i steps)) o e ⊎ CanBy (P s) o e) (CanBy (Among P (take (i + 1) steps))) L A A R
    (λ o cs e. ⊎_elim (λ p. among_less P steps i s o e cs lt read p) (λ p. among_new P steps i s o e cs lt read p))
    (λ o e c. ⊎_elim (λ p. inl (c.0, p)) (λ p. inr (c.0, p)) (among_more P steps i s o e c.0 lt read c.1))
    (spreads_both (By (Among P (take i steps))) (By (P s)) (CanBy (Among P (take i steps))) (CanBy (P s)) L A B R x y)

pub by_first : {Y E : Type 0} (P : Y → Finds E) (L : Finds One) (A : Finds E) → Spreads (By (Among P [])) (CanBy (Among P [])) L A A
by_first P L A = record { found = λ f e cs a. inl a; kept = λ f e cs a. (cs, a); all = λ f o cs e l c. absurd c.1 }

pub by_ends : {Y E : Type 0} (P : Y → Finds E) (steps : List Y) (i : ℕ) (L : Finds One) (A R : Finds E) → length steps ≤ i → Spreads (By (Among P (take i steps))) (CanBy (Among P (take i steps))) L A R → Spreads (By (Among P steps)) (CanBy (Among P steps)) L A R
by_ends P steps i L A R past s = subst (λ l. Spreads (By (Among P l)) (CanBy (Among P l)) L A R) (take_all i steps past) s
