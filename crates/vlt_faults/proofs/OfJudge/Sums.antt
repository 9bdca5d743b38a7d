-- Extents of parts that are put together.
use Rattle.std.proofs.Common.{◌≡◌, ◌≤◌, ◌+◌, ◌^◌, max, ◌⊎◌, inl, inr, ⊎_elim, ℕ, false, List, [], ◌∷◌, map, length, drop, refl, sym, ◌∙◌, subst, arith}
use Rattle.std.proofs.lemmas.List.{drop_all}
use Rattle.vlt_core.specs.Core.{Tok, a_key, a_var}
use Rattle.vlt_core.specs.Maps.{Row, is_tok}
use Rattle.vlt_faults.specs.declared.judge.extent.Extent.{Extent}
use Rattle.vlt_faults.specs.Judge.Extents.{AvoidsRows, IsBeyond, IsCount, last_key, last_var, IsExtent, IsBoth}

-- counts of two parts
count_both : (a b e n m : ℕ) → IsCount a n → IsCount b m → IsCount e (a + b) → IsCount e (n + m)
count_both a b e n m p q r = ⊎_elim (λ x. ⊎_elim (λ y. ⊎_elim (λ z. inl (omega (arith, x, y, z))) (λ z. inr (z.0, omega (arith, x, y, z.1))) r) (λ y. inr (large (omega (arith, y.0)) r, omega (arith, y.1))) q) (λ x. inr (large (omega (arith, x.0)) r, omega (arith, x.1))) p
  where
    large : 2 ^ 62 ≤ a + b → IsCount e (a + b) → 2 ^ 62 ≤ e
    large l r = ⊎_elim (λ z. omega (arith, l, z)) (λ z. z.0) r

max_left : (a b : ℕ) → a ≤ max a b
max_left a b = grind arith

max_right : (a b : ℕ) → b ≤ max a b
max_right a b = grind arith

max_one : (a b : ℕ) → (max a b ≡ a) ⊎ (max a b ≡ b)
max_one a b = grind arith

max_few : (a b n : ℕ) → a ≤ n → b ≤ n → max a b ≤ n
max_few a b n p q = grind (arith, p, q)

less_beyond : (keys vars more also : ℕ) (t : Tok) → keys ≤ more → vars ≤ also → IsBeyond more also t → IsBeyond keys vars t
less_beyond keys vars more also (a_key k) p q b = omega (arith, p, b)
less_beyond keys vars more also (a_var v) p q b = omega (arith, q, b)

-- what is beyond both is beyond each
pub beyond_both : (a b e : Extent) → IsBoth a b e → (t : Tok) → IsBeyond e.keys e.vars t → IsBeyond a.keys a.vars t × IsBeyond b.keys b.vars t
beyond_both a b e z t far =
    let keys = z.keys in
    let vars = z.vars in (
      less_beyond a.keys a.vars e.keys e.vars t (omega (arith, keys, max_left a.keys b.keys)) (omega (arith, vars, max_left a.vars b.vars)) far,
      less_beyond b.keys b.vars e.keys e.vars t (omega (arith, keys, max_right a.keys b.keys)) (omega (arith, vars, max_right a.vars b.vars)) far,
    )

-- of two numbers the larger is this one, so one of them is
max_is : (e a b n : ℕ) → e ≡ max a b → e ≡ n → (a ≡ n) ⊎ (b ≡ n)
max_is e a b n is here = ⊎_elim (λ x. inl (sym x ∙ sym is ∙ here)) (λ x. inr (sym x ∙ sym is ∙ here)) (max_one a b)

pub extent_both : (n m n' m' : ℕ) (A B : Tok → Type 0) (a b e : Extent) → IsExtent n m A a → IsExtent n' m' B b → IsBoth a b e → IsExtent (n + n') (m + m') (λ t. A t × B t) e
extent_both n m n' m' A B a b e x y z = record {
  stmts_are = count_both a.stmts b.stmts e.stmts n n' x.stmts_are y.stmts_are z.stmts;
  spots_are = count_both a.spots b.spots e.spots m m' x.spots_are y.spots_are z.spots;
  few_keys = subst (λ k. k ≤ 2 ^ 32) (sym z.keys) (max_few a.keys b.keys (2 ^ 32) x.few_keys y.few_keys);
  few_vars = subst (λ k. k ≤ 2 ^ 32) (sym z.vars) (max_few a.vars b.vars (2 ^ 32) x.few_vars y.few_vars);
  avoids = λ t far. let both = beyond_both a b e z t far in (x.avoids t both.0, y.avoids t both.1);
  names_key = λ is q. ⊎_elim (λ i. x.names_key i q.0) (λ i. y.names_key i q.1) (max_is e.keys a.keys b.keys (2 ^ 32) z.keys is);
  names_var = λ is q. ⊎_elim (λ i. x.names_var i q.0) (λ i. y.names_var i q.1) (max_is e.vars a.vars b.vars (2 ^ 32) z.vars is);
}

pub extent_as : (n m n' m' : ℕ) (A B : Tok → Type 0) (e : Extent) → IsExtent n m A e → n ≡ n' → m ≡ m' → ((t : Tok) → A t → B t) → ((t : Tok) → B t → A t) → IsExtent n' m' B e
extent_as n m n' m' A B e x p q f g = record {
  stmts_are = subst (IsCount e.stmts) p x.stmts_are;
  spots_are = subst (IsCount e.spots) q x.spots_are;
  few_keys = x.few_keys;
  few_vars = x.few_vars;
  avoids = λ t far. f t (x.avoids t far);
  names_key = λ is b. x.names_key is (g last_key b);
  names_var = λ is b. x.names_var is (g last_var b);
}

-- So far, with what is left: of a token that the rest avoids, all do; and the rest avoids what all avoid.
pub record Counting (n m : ℕ) (A : Tok → Type 0) (n' m' : ℕ) (B : Tok → Type 0) (e : Extent) : Type 0 where
  pub seen_stmts : ℕ
  pub seen_spots : ℕ
  pub stmts : seen_stmts + n' ≡ n
  pub spots : seen_spots + m' ≡ m
  pub stmts_are : IsCount e.stmts seen_stmts
  pub spots_are : IsCount e.spots seen_spots
  pub few_keys : e.keys ≤ 2 ^ 32
  pub few_vars : e.vars ≤ 2 ^ 32
  pub avoids : (t : Tok) → IsBeyond e.keys e.vars t → B t → A t
  pub names_key : e.keys ≡ 2 ^ 32 → A last_key → ⊥
  pub names_var : e.vars ≡ 2 ^ 32 → A last_var → ⊥
  pub rest : (t : Tok) → A t → B t

pub counting_first : (n m : ℕ) (A : Tok → Type 0) (e : Extent) → IsExtent 0 0 (λ t. Unit {0}) e → Counting n m A n m A e
counting_first n m A e x = record {
  seen_stmts = 0;
  seen_spots = 0;
  stmts = omega arith;
  spots = omega arith;
  stmts_are = x.stmts_are;
  spots_are = x.spots_are;
  few_keys = x.few_keys;
  few_vars = x.few_vars;
  avoids = λ t far b. b;
  names_key = λ is a. x.names_key is tt;
  names_var = λ is a. x.names_var is tt;
  rest = λ t a. a;
}

pub counting_more : (n m n1 m1 n2 m2 x y : ℕ) (A B C D : Tok → Type 0) (e a e' : Extent) → Counting n m A n1 m1 B e → IsExtent x y C a → IsBoth e a e' → n1 ≡ x + n2 → m1 ≡ y + m2 → ((t : Tok) → C t → D t → B t) → ((t : Tok) → B t → C t × D t) → Counting n m A n2 m2 D e'
counting_more n m n1 m1 n2 m2 x y A B C D e a e' c i z p q f g = record {
  seen_stmts = c.seen_stmts + x;
  seen_spots = c.seen_spots + y;
  stmts = let s = c.stmts in omega (arith, s, p);
  spots = let s = c.spots in omega (arith, s, q);
  stmts_are = count_both e.stmts a.stmts e'.stmts c.seen_stmts x c.stmts_are i.stmts_are z.stmts;
  spots_are = count_both e.spots a.spots e'.spots c.seen_spots y c.spots_are i.spots_are z.spots;
  few_keys = subst (λ k. k ≤ 2 ^ 32) (sym z.keys) (max_few e.keys a.keys (2 ^ 32) c.few_keys i.few_keys);
  few_vars = subst (λ k. k ≤ 2 ^ 32) (sym z.vars) (max_few e.vars a.vars (2 ^ 32) c.few_vars i.few_vars);
  avoids = λ t far d. let both = beyond_both e a e' z t far in c.avoids t both.0 (f t (i.avoids t both.1) d);
  names_key = λ is w. ⊎_elim (λ j. c.names_key j w) (λ j. i.names_key j (g last_key (c.rest last_key w)).0) (max_is e'.keys e.keys a.keys (2 ^ 32) z.keys is);
  names_var = λ is w. ⊎_elim (λ j. c.names_var j w) (λ j. i.names_var j (g last_var (c.rest last_var w)).0) (max_is e'.vars e.vars a.vars (2 ^ 32) z.vars is);
  rest = λ t w. (g t (c.rest t w)).1;
}

pub counting_ends : (n m n' m' : ℕ) (A B : Tok → Type 0) (e : Extent) → Counting n m A n' m' B e → n' ≡ 0 → m' ≡ 0 → ((t : Tok) → B t) → IsExtent n m A e
counting_ends n m n' m' A B e c p q f = record {
  stmts_are = subst (IsCount e.stmts) (let s = c.stmts in omega (arith, s, p)) c.stmts_are;
  spots_are = subst (IsCount e.spots) (let s = c.spots in omega (arith, s, q)) c.spots_are;
  few_keys = c.few_keys;
  few_vars = c.few_vars;
  avoids = λ t far. c.avoids t far (f t);
  names_key = c.names_key;
  names_var = c.names_var;
}

-- ---- rows of a list

abbrev pub CountingRows : {X : Type 0} → (X → Row) → List X → ℕ → Extent → Type 0
CountingRows f xs i e = Counting 0 (length xs) (λ t. AvoidsRows t (map f xs)) 0 (length (drop i xs)) (λ t. AvoidsRows t (map f (drop i xs))) e

pub rows_more : {X : Type 0} (f : X → Row) (xs : List X) (i : ℕ) (x : X) (e a e' : Extent) → drop i xs ≡ x ∷ drop (i + 1) xs → CountingRows f xs i e → IsExtent 0 1 (λ t. is_tok t (f x).tok ≡ false) a → IsBoth e a e' → CountingRows f xs (i + 1) e'
rows_more f xs i x e a e' split c own z =
    let now = subst (λ l. Counting 0 (length xs) (λ t. AvoidsRows t (map f xs)) 0 (length l) (λ t. AvoidsRows t (map f l)) e) split c in
    counting_more 0 (length xs) 0 (length (x ∷ drop (i + 1) xs)) 0 (length (drop (i + 1) xs)) 0 1
    (λ t. AvoidsRows t (map f xs)) (λ t. AvoidsRows t (map f (x ∷ drop (i + 1) xs))) (λ t. is_tok t (f x).tok ≡ false) (λ t. AvoidsRows t (map f (drop (i + 1) xs))) e a e' now own z refl (omega arith) (λ t p q. (p, q)) (λ t p. p)

pub rows_end : {X : Type 0} (f : X → Row) (xs : List X) (i : ℕ) (e : Extent) → length xs ≤ i → CountingRows f xs i e → IsExtent 0 (length xs) (λ t. AvoidsRows t (map f xs)) e
rows_end f xs i e past c =
    let now = subst (λ l. Counting 0 (length xs) (λ t. AvoidsRows t (map f xs)) 0 (length l) (λ t. AvoidsRows t (map f l)) e) (drop_all i xs past) c in
    counting_ends 0 (length xs) 0 0 (λ t. AvoidsRows t (map f xs)) (λ t. AvoidsRows t (map f [])) e now refl refl (λ t. tt)
