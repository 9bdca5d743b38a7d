-- The earlier of two, and the first of several.
use Rattle.std.proofs.Common.{◌≡◌, ◌<◌, ℕ, Option, Some, None, IfSome, ◌⊎◌, inl, inr, ⊎_elim, refl, sym, ◌∙◌, subst, arith}
use Rattle.vlt_core.specs.Core.{Tok, a_key, a_var}
use Rattle.vlt_core.specs.Faults.{Spot, IsNoLater, IsNoLaterTok, FaultKind}
use Rattle.vlt_core.specs.View.{tok_of}
use Rattle.vlt_core.specs.FaultView.{kind_of}
use Rattle.vlt_faults.specs.declared.judge.blame.Blame.{Blame}
use Rattle.vlt_faults.specs.Judge.Blames.{spot_of, NoLaterThan, IsEarlier, IsFirstOf}

-- ---- the order of spots and tokens

tok_trans : (t u v : Tok) → IsNoLaterTok t u → IsNoLaterTok u v → IsNoLaterTok t v
tok_trans (a_key i) (a_key j) (a_key k) p q = omega (arith, p, q)
tok_trans (a_key i) (a_key j) (a_var k) p q = tt
tok_trans (a_key i) (a_var j) (a_key k) p q = absurd q
tok_trans (a_key i) (a_var j) (a_var k) p q = tt
tok_trans (a_var i) (a_key j) v p q = absurd p
tok_trans (a_var i) (a_var j) (a_key k) p q = q
tok_trans (a_var i) (a_var j) (a_var k) p q = omega (arith, p, q)

pub tok_refl : (t : Tok) → IsNoLaterTok t t
tok_refl (a_key i) = omega arith
tok_refl (a_var i) = omega arith

-- first by a number, and then by what is left
lex_trans : (a b c : ℕ) (A B C : Type 0) → (A → B → C) → (a < b) ⊎ ((a ≡ b) × A) → (b < c) ⊎ ((b ≡ c) × B) → (a < c) ⊎ ((a ≡ c) × C)
lex_trans a b c A B C f x y = ⊎_elim
    (λ p. ⊎_elim (λ q. inl (less a b c p q)) (λ q. inl (subst (λ n. a < n) q.0 p)) y)
    (λ p. ⊎_elim (λ q. inl (subst (λ n. n < c) (sym p.0) q)) (λ q. inr (p.0 ∙ q.0, f p.1 q.1)) y) x
  where
    less : (a b c : ℕ) → a < b → b < c → a < c
    less a b c p q = omega (arith, p, q)

pub later_trans : (p q r : Spot) (t u v : Tok) → IsNoLater p t q u → IsNoLater q u r v → IsNoLater p t r v
later_trans p q r t u v = lex_trans p.at q.at r.at _ _ _ (lex_trans p.class q.class r.class _ _ _ (lex_trans p.number q.number r.number _ _ _ (tok_trans t u v)))

pub later_refl : (p : Spot) (t : Tok) → IsNoLater p t p t
later_refl p t = inr (refl, inr (refl, inr (refl, tok_refl t)))

-- ---- the first of what was looked at, with the rest still to come

-- F and G say what is faulty of the whole, R and H of the rest
pub record Going (t : Tok) (x : Option Blame) (F R : Spot → Type 0) (G H : FaultKind → Spot → Type 0) : Type 0 where
  pub there : IfSome x (λ b. (tok_of b.tok ≡ t) × G (kind_of b.kind) (spot_of b))
  pub first : (p : Spot) → F p → NoLaterThan x p t ⊎ R p
  pub back : (kind : FaultKind) (p : Spot) → H kind p → G kind p

one_of : (t : Tok) (a b r : Option Blame) (G : FaultKind → Spot → Type 0) → (r ≡ a) ⊎ (r ≡ b) →
    IfSome a (λ b. (tok_of b.tok ≡ t) × G (kind_of b.kind) (spot_of b)) → IfSome b (λ b. (tok_of b.tok ≡ t) × G (kind_of b.kind) (spot_of b)) →
    IfSome r (λ b. (tok_of b.tok ≡ t) × G (kind_of b.kind) (spot_of b))
one_of t a b r G e x y = ⊎_elim
    (λ e. subst (λ o. IfSome o (λ b. (tok_of b.tok ≡ t) × G (kind_of b.kind) (spot_of b))) (sym e) x)
    (λ e. subst (λ o. IfSome o (λ b. (tok_of b.tok ≡ t) × G (kind_of b.kind) (spot_of b))) (sym e) y) e

told_more : (t : Tok) (x : Option Blame) (B G : FaultKind → Spot → Type 0) → ((kind : FaultKind) (p : Spot) → B kind p → G kind p) →
    IfSome x (λ b. (tok_of b.tok ≡ t) × B (kind_of b.kind) (spot_of b)) → IfSome x (λ b. (tok_of b.tok ≡ t) × G (kind_of b.kind) (spot_of b))
told_more t None B G f y = y
told_more t (Some b) B G f y = (y.0, f (kind_of b.kind) (spot_of b) y.1)

pub going_none : (t : Tok) (F : Spot → Type 0) (G : FaultKind → Spot → Type 0) → Going t None F F G G
going_none t F G = record { there = tt; first = λ p y. inr y; back = λ kind p y. y }

pub going_more : (t : Tok) (x y r : Option Blame) (F R A R' : Spot → Type 0) (G H B H' : FaultKind → Spot → Type 0) → Going t x F R G H → IsFirstOf t y A B → IsEarlier x y r →
    ((p : Spot) → R p → A p ⊎ R' p) → ((kind : FaultKind) (p : Spot) → B kind p → H kind p) → ((kind : FaultKind) (p : Spot) → H' kind p → H kind p) → Going t r F R' G H'
going_more t x y r F R A R' G H B H' g f e split own rest = record {
  there = one_of t x y r G e.one g.there (told_more t y B G (λ kind p z. g.back kind p (own kind p z)) f.there);
  first = λ p z. ⊎_elim (λ w. inl (e.first p t (inl w))) (λ w. ⊎_elim (λ v. inl (e.first p t (inr (f.first p v)))) (λ v. inr v) (split p w)) (g.first p z);
  back = λ kind p z. g.back kind p (rest kind p z);
}

pub going_ends : (t : Tok) (x : Option Blame) (F R : Spot → Type 0) (G H : FaultKind → Spot → Type 0) → Going t x F R G H → ((p : Spot) → R p → ⊥) → IsFirstOf t x F G
going_ends t x F R G H g none = record { there = g.there; first = λ p y. ⊎_elim (λ z. z) (λ z. absurd (none p z)) (g.first p y) }

-- the same of other properties that say the same
pub first_same : (t : Tok) (x : Option Blame) (F F' : Spot → Type 0) (G G' : FaultKind → Spot → Type 0) → ((p : Spot) → F' p → F p) → ((kind : FaultKind) (p : Spot) → G kind p → G' kind p) → IsFirstOf t x F G → IsFirstOf t x F' G'
first_same t x F F' G G' f g y = record { there = told_more t x G G' g y.there; first = λ p z. y.first p (f p z) }

pub first_sum : (t : Tok) (x y r : Option Blame) (F F' : Spot → Type 0) (G G' : FaultKind → Spot → Type 0) → IsFirstOf t x F G → IsFirstOf t y F' G' → IsEarlier x y r → IsFirstOf t r (λ p. F p ⊎ F' p) (λ kind p. G kind p ⊎ G' kind p)
first_sum t x y r F F' G G' f g e = record {
  there = one_of t x y r (λ kind p. G kind p ⊎ G' kind p) e.one (told_more t x G (λ kind p. G kind p ⊎ G' kind p) (λ kind p z. inl z) f.there) (told_more t y G' (λ kind p. G kind p ⊎ G' kind p) (λ kind p z. inr z) g.there);
  first = λ p z. ⊎_elim (λ w. e.first p t (inl (f.first p w))) (λ w. e.first p t (inr (g.first p w))) z;
}
