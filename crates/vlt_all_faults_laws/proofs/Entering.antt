-- A list of faults with one more.
use Rattle.std.proofs.Common.{◌≡◌, ◌⊎◌, ◌<◌, ℕ, zero, suc, inl, inr, ⊎_elim, refl, sym, ◌∙◌, subst, List, [], ◌∷◌, arith}
use Rattle.std.specs.List.{insert}
use Rattle.vlt_core.specs.Core.{Tok, a_key, a_var, Func, Program}
use Rattle.vlt_core.specs.Instances.{instance}
use Rattle.vlt_core.specs.Faults.{Spot, IsNoLater, IsNoLaterTok, IsFaultIn}
use Rattle.vlt_all_faults_laws.specs.Each.{Finding, IsFinding, AreEach, IsAhead, IsAheadOf, AreInOrder, Names, AreFindings}
use Rattle.vlt_all_faults_laws.specs.Listing.{IsPlace, AreOf, HasNone, IsListing}

-- ---- the order

tok_trans : (t u v : Tok) → IsNoLaterTok t u → IsNoLaterTok u v → IsNoLaterTok t v
tok_trans (a_key i) (a_key j) (a_key k) p q = omega (arith, p, q)
tok_trans (a_key i) (a_key j) (a_var k) p q = tt
tok_trans (a_key i) (a_var j) (a_key k) p q = absurd q
tok_trans (a_key i) (a_var j) (a_var k) p q = tt
tok_trans (a_var i) (a_key j) v p q = absurd p
tok_trans (a_var i) (a_var j) (a_key k) p q = q
tok_trans (a_var i) (a_var j) (a_var k) p q = omega (arith, p, q)

lex_trans : (a b c : ℕ) (A B C : Type 0) → (A → B → C) → (a < b) ⊎ ((a ≡ b) × A) → (b < c) ⊎ ((b ≡ c) × B) → (a < c) ⊎ ((a ≡ c) × C)
lex_trans a b c A B C f x y = ⊎_elim
    (λ p. ⊎_elim (λ q. inl (less a b c p q)) (λ q. inl (subst (λ n. a < n) q.0 p)) y)
    (λ p. ⊎_elim (λ q. inl (subst (λ n. n < c) (sym p.0) q)) (λ q. inr (p.0 ∙ q.0, f p.1 q.1)) y) x
  where
    less : (a b c : ℕ) → a < b → b < c → a < c
    less a b c p q = omega (arith, p, q)

later_trans : (p q r : Spot) (t u v : Tok) → IsNoLater p t q u → IsNoLater q u r v → IsNoLater p t r v
later_trans p q r t u v = lex_trans p.at q.at r.at _ _ _ (lex_trans p.class q.class r.class _ _ _ (lex_trans p.number q.number r.number _ _ _ (tok_trans t u v)))

-- ---- lists

module _ (p : Program) (f : Func) where
  each_in : (x : Finding) (xs : List Finding) (n : ℕ) → IsPlace x xs n → IsFinding p f x → AreEach p f xs → AreEach p f (insert xs n x)
  each_in x [] zero place is each = (is, tt)
  each_in x [] (suc n) place is each = (is, tt)
  each_in x (y ∷ ys) zero place is each = (is, each)
  each_in x (y ∷ ys) (suc n) place is each = (each.0, each_in x ys n place.1 is each.1)

of_in : (C : Tok → Type 0) (x : Finding) (xs : List Finding) (n : ℕ) → C x.tok → AreOf C xs → AreOf C (insert xs n x)
of_in C x [] zero is own = (is, tt)
of_in C x [] (suc n) is own = (is, tt)
of_in C x (y ∷ ys) zero is own = (is, own)
of_in C x (y ∷ ys) (suc n) is own = (own.0, of_in C x ys n is own.1)

of_more : (A C : Tok → Type 0) (xs : List Finding) → ((t : Tok) → A t → C t) → AreOf A xs → AreOf C xs
of_more A C [] g own = tt
of_more A C (x ∷ xs) g own = (g x.tok own.0, of_more A C xs g own.1)

named_in : (t : Tok) (x : Finding) (xs : List Finding) (n : ℕ) → Names t xs → Names t (insert xs n x)
named_in t x [] zero m = absurd m
named_in t x [] (suc n) m = absurd m
named_in t x (y ∷ ys) zero m = inr m
named_in t x (y ∷ ys) (suc n) m = ⊎_elim (λ e. inl e) (λ r. inr (named_in t x ys n r)) m

named_new : (x : Finding) (xs : List Finding) (n : ℕ) → Names x.tok (insert xs n x)
named_new x [] zero = inl refl
named_new x [] (suc n) = inl refl
named_new x (y ∷ ys) zero = inl refl
named_new x (y ∷ ys) (suc n) = inr (named_new x ys n)

-- it is of another token than those there
abbrev IsNew : Finding → List Finding → Type 0
IsNew x [] = Unit {0}
IsNew x (y ∷ ys) = (x.tok ≡ y.tok → ⊥) × IsNew x ys

new_of : (A : Tok → Type 0) (x : Finding) (xs : List Finding) → (A x.tok → ⊥) → AreOf A xs → IsNew x xs
new_of A x [] never own = tt
new_of A x (y ∷ ys) never own = ((λ e. never (subst A (sym e) own.0)), new_of A x ys never own.1)

-- what comes no later than the first is ahead of all
ahead_all : (x y : Finding) (ys : List Finding) → IsNoLater x.spot x.tok y.spot y.tok → IsAheadOf y ys → IsNew x ys → IsAheadOf x ys
ahead_all x y [] before ahead new = tt
ahead_all x y (z ∷ ys) before ahead new =
    ((later_trans x.spot y.spot z.spot x.tok y.tok z.tok before ahead.0.0, new.0), ahead_all x y ys before ahead.1 new.1)

ahead_in : (y x : Finding) (ys : List Finding) (n : ℕ) → IsAhead y x → IsAheadOf y ys → IsAheadOf y (insert ys n x)
ahead_in y x [] zero is ahead = (is, tt)
ahead_in y x [] (suc n) is ahead = (is, tt)
ahead_in y x (z ∷ ys) zero is ahead = (is, ahead)
ahead_in y x (z ∷ ys) (suc n) is ahead = (ahead.0, ahead_in y x ys n is ahead.1)

order_in : (x : Finding) (xs : List Finding) (n : ℕ) → IsPlace x xs n → IsNew x xs → AreInOrder xs → AreInOrder (insert xs n x)
order_in x [] zero place new order = (tt, tt)
order_in x [] (suc n) place new order = (tt, tt)
order_in x (y ∷ ys) zero place new order = (((place, new.0), ahead_all x y ys place order.0 new.1), order)
order_in x (y ∷ ys) (suc n) place new order =
    (ahead_in y x ys n (place.0, (λ e. new.0 (sym e))) order.0, order_in x ys n place.1 new.1 order.1)

-- ---- listings

module _ (A C : Tok → Type 0) (p : Program) (f : Func) where
  pub listing_none : ((t : Tok) → A t → ⊥) → IsListing A p f []
  listing_none g = record { each = tt; own = tt; all = λ t o q a own fault. absurd (g t a); order = tt }

  -- a token more, without a fault
  pub listing_more : (t : Tok) (xs : List Finding) → ((u : Tok) → A u → C u) → ((u : Tok) → C u → A u ⊎ (u ≡ t)) → HasNone p f t → IsListing A p f xs → IsListing C p f xs
  listing_more t xs up split none l = record {
    each = l.each;
    own = of_more A C xs up l.own;
    all = λ u o q c own fault. ⊎_elim
        (λ a. l.all u o q a own fault)
        (λ e. absurd (none o q own (subst (λ u. IsFaultIn p (instance p f o) q u) e fault))) (split u c);
    order = l.order;
  }

  -- a token more, with its first fault
  pub listing_with : (x : Finding) (n : ℕ) (xs : List Finding) → ((u : Tok) → A u → C u) → ((u : Tok) → C u → A u ⊎ (u ≡ x.tok)) → C x.tok → (A x.tok → ⊥) →
      IsFinding p f x → IsPlace x xs n → IsListing A p f xs → IsListing C p f (insert xs n x)
  listing_with x n xs up split here never is place l = record {
    each = each_in p f x xs n place is l.each;
    own = of_in C x xs n here (of_more A C xs up l.own);
    all = λ u o q c own fault. ⊎_elim
        (λ a. named_in u x xs n (l.all u o q a own fault))
        (λ e. subst (λ u. Names u (insert xs n x)) (sym e) (named_new x xs n)) (split u c);
    order = order_in x xs n place (new_of A x xs never l.own) l.order;
  }

-- all tokens
pub listing_whole : (A : Tok → Type 0) (p : Program) (f : Func) (xs : List Finding) → ((t : Tok) → A t ⊎ HasNone p f t) → IsListing A p f xs → AreFindings p f xs
listing_whole A p f xs split l = record {
  each = l.each;
  all = λ t o q own fault. ⊎_elim (λ a. l.all t o q a own fault) (λ none. absurd (none o q own fault)) (split t);
  order = l.order;
}
