-- Entries of a clause, no two of which have the same key.
use Rattle.std.proofs.Common.{◌≡◌, ◌⊎◌, inl, inr, ⊎_elim, ℕ, Bool, true, false, List, [], ◌∷◌, refl, sym, ap, ◌∙◌}
use Rattle.std.proofs.lemmas.Bool.{cases_eq, cases_Bool}
use Rattle.vlt_core.specs.Core.{Entry}
use Rattle.vlt_sound_calls.specs.Callee.{AreApartBy}
use Rattle.vlt_sound_calls.specs.Among.{Among}

pub same_entry : (at : Entry → ℕ) (es : List Entry) → AreApartBy at es → (d e : Entry) → Among d es → Among e es →
    at d ≡ at e → d ≡ e
same_entry at [] apart d e i j same = absurd i
same_entry at (x ∷ es) apart d e (inl i) (inl j) same = i ∙ sym j
same_entry at (x ∷ es) apart d e (inl i) (inr j) same = absurd (apart.0 e j (sym same ∙ ap at i))
same_entry at (x ∷ es) apart d e (inr i) (inl j) same = absurd (apart.0 d i (same ∙ ap at j))
same_entry at (x ∷ es) apart d e (inr i) (inr j) same = same_entry at es apart.1 d e i j same

-- an entry that passes a test, and has this number
pub record Sought (test : Entry → Bool) (at : Entry → ℕ) (es : List Entry) (k : ℕ) : Type 0 where
  pub entry : Entry
  pub among : Among entry es
  pub passes : test entry ≡ true
  pub is : at entry ≡ k

pub sought : (test : Entry → Bool) (at : Entry → ℕ) (es : List Entry) (k : ℕ) →
    Sought test at es k ⊎ ((e : Entry) → Among e es → test e ≡ true → at e ≡ k → ⊥)
sought test at [] k = inr (λ e i t is. i)
sought test at (x ∷ es) k = ⊎_elim
    (λ t. ⊎_elim
    (λ same. inl (record { entry = x; among = inl refl; passes = t; is = same }))
    (λ other. more (λ e same t is. other (ap at (sym same) ∙ is)) (sought test at es k))
    (cases_eq (at x) k))
    (λ f. more (λ e same t is. clash (sym f ∙ (ap test (sym same) ∙ t))) (sought test at es k))
    (cases_Bool (test x))
  where
    clash : false ≡ true → ⊥
    clash e = cc

    more : ((e : Entry) → e ≡ x → test e ≡ true → at e ≡ k → ⊥) →
        Sought test at es k ⊎ ((e : Entry) → Among e es → test e ≡ true → at e ≡ k → ⊥) →
        Sought test at (x ∷ es) k ⊎ ((e : Entry) → Among e (x ∷ es) → test e ≡ true → at e ≡ k → ⊥)
    more first (inl s) =
        inl (record { entry = s.entry; among = inr s.among; passes = s.passes; is = s.is })
    more first (inr none) = inr (λ e i t is. ⊎_elim (λ same. first e same t is) (λ rest. none e rest t is) i)
