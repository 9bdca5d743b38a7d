-- Tests of tokens and of states. A fact on tokens and states that finitely many tests don't tell apart is, surely, told by a test.
use Rattle.std.proofs.Common.{◌≡◌, ℕ, Bool, true, false, List, [], ◌∷◌, ◌++◌, refl, sym, ◌∙◌}
use Rattle.vlt_core.specs.Core.{States, Tok}
use Rattle.vlt_core.specs.Maps.{is_tok}
use Rattle.vlt_base.specs.Sure.{Surely}
use Rattle.vlt_base.proofs.Surely.{surely, so, IsTest, tested}

pub data Test : Type 0 where
  -- whether a token is this one
  by_tok : Tok → Test
  -- whether a state is in this set
  by_state : States → Test

pub record Case : Type 0 where
  pub tok : Tok
  pub state : ℕ

abbrev pub case_of : Tok → ℕ → Case
case_of t s = record { tok = t; state = s }

abbrev passes : Test → Case → Bool
passes (by_tok u) c = is_tok c.tok u
passes (by_state X) c = X c.state

-- ---- cases that are alike

abbrev pub AreAlike : List Test → (a b : Case) → Type 0
AreAlike [] a b = Unit {0}
AreAlike (x ∷ xs) a b = (passes x a ≡ passes x b) × AreAlike xs a b

alike_refl : (xs : List Test) (a : Case) → AreAlike xs a a
alike_refl [] a = tt
alike_refl (x ∷ xs) a = (refl, alike_refl xs a)

alike_trans : (xs : List Test) (a b c : Case) → AreAlike xs a b → AreAlike xs b c → AreAlike xs a c
alike_trans [] a b c p q = tt
alike_trans (x ∷ xs) a b c p q = (p.0 ∙ q.0, alike_trans xs a b c p.1 q.1)

abbrev pub ToksAlike : List Test → (t u : Tok) → Type 0
ToksAlike [] t u = Unit {0}
ToksAlike (by_tok v ∷ xs) t u = (is_tok t v ≡ is_tok u v) × ToksAlike xs t u
ToksAlike (by_state X ∷ xs) t u = ToksAlike xs t u

abbrev pub StatesAlike : List Test → (a b : ℕ) → Type 0
StatesAlike [] a b = Unit {0}
StatesAlike (by_tok v ∷ xs) a b = StatesAlike xs a b
StatesAlike (by_state X ∷ xs) a b = (X a ≡ X b) × StatesAlike xs a b

pub same_state : (xs : List Test) (a : ℕ) → StatesAlike xs a a
same_state [] a = tt
same_state (by_tok v ∷ xs) a = same_state xs a
same_state (by_state X ∷ xs) a = (refl, same_state xs a)

pub toks_alike : (xs : List Test) (a b : Case) → AreAlike xs a b → ToksAlike xs a.tok b.tok
toks_alike [] a b p = tt
toks_alike (by_tok v ∷ xs) a b p = (p.0, toks_alike xs a b p.1)
toks_alike (by_state X ∷ xs) a b p = toks_alike xs a b p.1

pub states_alike : (xs : List Test) (a b : Case) → AreAlike xs a b → StatesAlike xs a.state b.state
states_alike [] a b p = tt
states_alike (by_tok v ∷ xs) a b p = states_alike xs a b p.1
states_alike (by_state X ∷ xs) a b p = (p.0, states_alike xs a b p.1)

-- ---- facts that are told by a test

-- the fact is the same of cases that are alike
pub record IsSteady (xs : List Test) (M : Case → Type 0) : Type 0 where
  pub each : (a b : Case) → AreAlike xs a b → M a → M b

-- the test tells just of which cases the fact holds
pub record IsDecided (M : Case → Type 0) : Type 0 where
  pub test : Case → Bool
  pub each : (c : Case) → IsTest (test c) (M c)

-- the fact holds of some case that is alike, on this side of a test
abbrev Beside : List Test → Test → Bool → (Case → Type 0) → Case → Type 0
Beside xs x side M c = (a : Case) × (passes x a ≡ side) × AreAlike xs a c × M a

beside : (xs : List Test) (x : Test) (side : Bool) (M : Case → Type 0) → IsSteady xs (Beside xs x side M)
beside xs x side M = record { each = λ a b p y. (y.0, y.1, alike_trans xs y.0 a b y.2 p, y.3) }

abbrev chosen : Bool → Bool → Bool → Bool
chosen true a b = a
chosen false a b = b

-- by induction on the tests: on each side of one, the others tell the fact
pub decided : (c : Case) (xs : List Test) (M : Case → Type 0) → IsSteady xs M → Surely (IsDecided M)
decided c [] M w = so (tested (M c)) (λ x. record {
  test = λ a. x.0;
  each = λ a. record { there = λ e. w.each c a tt (x.1.there e); back = λ m. x.1.back (w.each a c tt m) };
})
decided c (x ∷ xs) M w =
    surely (decided c xs (Beside xs x true M) (beside xs x true M)) (λ inner.
    so (decided c xs (Beside xs x false M) (beside xs x false M)) (λ outer. joined inner outer))
  where
    joined : IsDecided (Beside xs x true M) → IsDecided (Beside xs x false M) → IsDecided M
    joined inner outer = record { test = λ a. chosen (passes x a) (inner.test a) (outer.test a); each = λ a. by a (passes x a) refl }
      where
        by : (a : Case) (side : Bool) → passes x a ≡ side → IsTest (chosen side (inner.test a) (outer.test a)) (M a)
        by a true e = record {
          there = λ m. let y = (inner.each a).there m in w.each y.0 a (y.1 ∙ sym e, y.2) y.3;
          back = λ m. (inner.each a).back (a, e, alike_refl xs a, m);
        }
        by a false e = record {
          there = λ m. let y = (outer.each a).there m in w.each y.0 a (y.1 ∙ sym e, y.2) y.3;
          back = λ m. (outer.each a).back (a, e, alike_refl xs a, m);
        }

-- ---- tests among others

-- what is alike for the first tests is alike for each of the second
abbrev pub Keeps : List Test → List Test → Type 0
Keeps xs [] = Unit {0}
Keeps xs (by_tok v ∷ ys) = ((t u : Tok) → ToksAlike xs t u → is_tok t v ≡ is_tok u v) × Keeps xs ys
Keeps xs (by_state X ∷ ys) = ((a b : ℕ) → StatesAlike xs a b → X a ≡ X b) × Keeps xs ys

pub keeps_left : (xs ys zs : List Test) → Keeps xs (ys ++ zs) → Keeps xs ys
keeps_left xs [] zs k = tt
keeps_left xs (by_tok v ∷ ys) zs k = (k.0, keeps_left xs ys zs k.1)
keeps_left xs (by_state X ∷ ys) zs k = (k.0, keeps_left xs ys zs k.1)

pub keeps_right : (xs ys zs : List Test) → Keeps xs (ys ++ zs) → Keeps xs zs
keeps_right xs [] zs k = k
keeps_right xs (by_tok v ∷ ys) zs k = keeps_right xs ys zs k.1
keeps_right xs (by_state X ∷ ys) zs k = keeps_right xs ys zs k.1

keeps_some : (xs ys : List Test) → ((t u : Tok) → ToksAlike xs t u → ToksAlike ys t u) → ((a b : ℕ) → StatesAlike xs a b → StatesAlike ys a b) → Keeps xs ys
keeps_some xs [] f g = tt
keeps_some xs (by_tok v ∷ ys) f g = ((λ t u p. (f t u p).0), keeps_some xs ys (λ t u p. (f t u p).1) g)
keeps_some xs (by_state X ∷ ys) f g = ((λ a b p. (g a b p).0), keeps_some xs ys f (λ a b p. (g a b p).1))

pub keeps_own : (xs : List Test) → Keeps xs xs
keeps_own xs = keeps_some xs xs (λ t u p. p) (λ a b p. p)
