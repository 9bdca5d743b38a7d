-- Entries of instances.
use Rattle.std.proofs.Common.{◌≡◌, ◌&&◌, ◌==◌, ◌<◌, ℕ, nat_lt, Bool, true, false, IsTrue, Option, Some, None, refl, sym, ap, ◌∙◌, subst, arith}
use Rattle.std.proofs.Math.Path.{fun_ext}
use Rattle.std.proofs.lemmas.Bool.{eqb-true}
use Rattle.std.proofs.lemmas.Bool.Decides.{nat_tests}
use Rattle.vlt_core.specs.Core.{States, Mode, kept, up_to, Entry, Func, Program}
use Rattle.vlt_core.specs.Lookups.{key_type, up_to_in, key_states_up_to}
use Rattle.vlt_core.specs.Instances.{entry_of_instance, entry_in, IsWithinBound}

-- a state up to another is below 32
pub up_below : (p : Program) (f : Func) (k b o : ℕ) → IsTrue (key_states_up_to p f k b o) → o < 32
up_below p f k b o e = by (key_type f k) e
  where
    first : (a b : Bool) → IsTrue (a && b) → a ≡ true
    first true b e = refl
    first false b e = cc

    by : (t : Option ℕ) → IsTrue (up_to_in p t b o) → o < 32
    by None e = absurd cc
    by (Some t) e = let less : nat_lt o 32 ≡ true = first (nat_lt o 32) _ e in grind (arith, nat_tests)

pub bound_below : (p : Program) (f : Func) (origin : Option ℕ) (e : Entry) (o b : ℕ) → origin ≡ Some o → e.mode ≡ up_to b → IsWithinBound p f origin e → o < 32
bound_below p f origin e o b is bounds within = up_below p f e.key b o ((subst (λ x. IsWithinBound p f x e) is within) b bounds)

-- the state alone, where it is one up to the bound
one_up : (p : Program) (f : Func) (k b o : ℕ) → IsTrue (key_states_up_to p f k b o) → ◌≡◌ {A = States} (λ s. s == o) (λ s. s == o && key_states_up_to p f k b s)
one_up p f k b o up = fun_ext (λ s. by s (s == o) refl)
  where
    by : (s : ℕ) (c : Bool) → (s == o) ≡ c → c ≡ (c && key_states_up_to p f k b s)
    by s false is = refl
    by s true is = sym (ap (key_states_up_to p f k b) (eqb-true s o is) ∙ up)

-- a bound entry is kept in the one state
pub kept_so : (p : Program) (f : Func) (origin : Option ℕ) (e : Entry) (o b : ℕ) → origin ≡ Some o → e.mode ≡ up_to b → IsWithinBound p f origin e →
    record { mode = kept; key = e.key; before = Some (λ s. s == o); after = Some (λ s. s == o) } ≡ entry_in p f origin e
kept_so p f origin e o b is bounds within =
    by e.mode bounds ((subst (λ x. IsWithinBound p f x e) is within) b bounds) ∙ ap (λ x. entry_in p f x e) (sym is)
  where
    by : (m : Mode) → m ≡ up_to b → IsTrue (key_states_up_to p f e.key b o) →
        record { mode = kept; key = e.key; before = Some (λ s. s == o); after = Some (λ s. s == o) } ≡ entry_of_instance p f o (record e { mode = m })
    by m same up =
        let made : States → Entry = λ states. record { mode = kept; key = e.key; before = Some states; after = Some states } in
        ap made (one_up p f e.key b o up) ∙ ap (λ m. entry_of_instance p f o (record e { mode = m })) (sym same)
