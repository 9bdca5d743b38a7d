-- Lists of broken rules that are empty, and tests that hold.
use Rattle.std.proofs.Common.{◌≡◌, ⊎_elim, ℕ, zero, suc, ◌<◌, ◌≤◌, ◌+◌, Bool, true, false, ◌||◌, ◌&&◌, not, List, [], ◌∷◌, ◌++◌, Option, Some, refl, sym, ap, ◌∙◌, arith}
use Rattle.std.proofs.lemmas.Bool.{cases_eq}
use Rattle.std.specs.List.{list_all, range_with_len}
use Rattle.vlt_core.specs.Core.{States}
use Rattle.vlt_core.specs.Maps.{IsWithin}
use Rattle.vlt_core.specs.Types.{lies_within}
use Rattle.vlt_core.specs.KindedHeads.{Rules, unless, when_some}
use Rattle.vlt_sound_worlds.specs.Limited.{IsNarrow}

module _ {A : Type 0} where
  pub both_empty : (xs ys : List A) → (xs ++ ys) ≡ [] → (xs ≡ []) × (ys ≡ [])
  both_empty [] ys e = (refl, e)
  both_empty (x ∷ xs) ys e = cc

pub unless_so : (b : Bool) (r : ℕ) → unless b r ≡ [] → b ≡ true
unless_so true r e = refl
unless_so false r e = cc

pub when_so : {A : Type 0} (o : Option A) (x : A) (go : A → Rules) → o ≡ Some x → when_some o go ≡ [] → go x ≡ []
when_so o x go is e = ap (λ o. when_some o go) (sym is) ∙ e

pub both_so : (a b : Bool) → (a && b) ≡ true → (a ≡ true) × (b ≡ true)
both_so true true e = (refl, refl)
both_so true false e = cc
both_so false b e = cc

all_in : (test : ℕ → Bool) (from n : ℕ) → list_all test (range_with_len from n) ≡ true → (s : ℕ) → from ≤ s →
    s < from + n → test s ≡ true
all_in test from zero e s le lt = absurd (omega arith)
all_in test from (suc n) e s le lt =
    let both = both_so (test from) (list_all test (range_with_len (from + 1) n)) e in
    ⊎_elim
    (λ same. ap test same ∙ both.0)
    (λ other. all_in test (from + 1) n both.1 s (omega arith) (omega arith))
    (cases_eq s from)

one_of_two : (a b : Bool) → (not a || b) ≡ true → a ≡ true → b ≡ true
one_of_two true true e i = refl
one_of_two true false e i = cc
one_of_two false b e i = cc

-- a test over the states below 32 says it of all states of a narrow set
pub within_is : (a b : States) → IsNarrow a → lies_within a b ≡ true → IsWithin a b
within_is a b narrow e = record {
  each = λ s i.
      let lt = narrow.below s i in
      one_of_two (a s) (b s) (all_in (λ s. not (a s) || b s) 0 32 e s (omega arith) (omega arith)) i;
}

-- the same of one state
pub within_at : (a b : States) (s : ℕ) → s < 32 → lies_within a b ≡ true → a s ≡ true → b s ≡ true
within_at a b s lt e i = one_of_two (a s) (b s) (all_in (λ s. not (a s) || b s) 0 32 e s (omega arith) (omega arith)) i
