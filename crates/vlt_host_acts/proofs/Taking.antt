-- What a host holds no longer.
use Rattle.std.proofs.Common.{◌≡◌, ℕ, ◌==◌, Bool, true, false, not, ◌&&◌, ◌||◌, List, Some, None, refl, sym, ap, ◌∙◌, arith}
use Rattle.std.proofs.lemmas.Bool.Decides.{nat_tests}
use Rattle.vlt_core.specs.Core.{Entry}
use Rattle.vlt_core.specs.KindedHeads.{has}
use Rattle.vlt_meaning.specs.Calls.{Binding}
use Rattle.vlt_meaning.specs.Externals.{is_taken}
use Rattle.vlt_host_meaning.specs.Permitted.{object_of_key, is_that_object}
use Rattle.vlt_host_acts.specs.Permits.Numbers.{without_number}
use Rattle.vlt_host_acts.proofs.OfPermits.Numbers.{has_without}
use Rattle.vlt_host_acts.specs.Clause.{takes_object}

keeps_all : (b : Bool) → b ≡ (b && not false)
keeps_all true = refl
keeps_all false = refl

-- an entry that takes nothing
pub kept_all : (xs ys : List ℕ) (bs : List Binding) (m : ℕ) (e : Entry) → ys ≡ xs → is_taken e ≡ false → has ys m ≡ (has xs m && not (takes_object bs m e))
kept_all xs ys bs m e same none =
    ap (λ zs. has zs m) same ∙ (keeps_all (has xs m) ∙
    sym (ap (λ b. has xs m && not (b && is_that_object m (object_of_key bs e.key))) none))

-- one whose object isn't given
pub none_given : (xs ys : List ℕ) (bs : List Binding) (m : ℕ) (e : Entry) → ys ≡ xs → object_of_key bs e.key ≡ None →
    has ys m ≡ (has xs m && not (takes_object bs m e))
none_given xs ys bs m e same none =
    ap (λ zs. has zs m) same ∙ (keeps_all (has xs m) ∙
    sym (ap (λ o. has xs m && not (is_taken e && is_that_object m o)) none ∙ ap (λ b. has xs m && not b) (no_more (is_taken e))))
  where
    no_more : (b : Bool) → (b && false) ≡ false
    no_more true = refl
    no_more false = refl

turned : (m n : ℕ) → (m == n) ≡ (n == m)
turned m n = grind (arith, nat_tests)

-- one that takes the object that is given
pub one_taken : (xs ys : List ℕ) (bs : List Binding) (m n : ℕ) (e : Entry) → ys ≡ without_number n xs → is_taken e ≡ true → object_of_key bs e.key ≡ Some n →
    has ys m ≡ (has xs m && not (takes_object bs m e))
one_taken xs ys bs m n e is so name =
    ap (λ zs. has zs m) is ∙ (has_without n xs m ∙ (ap (λ b. has xs m && not b) (turned m n) ∙
    sym (ap (λ b. has xs m && not (b && is_that_object m (object_of_key bs e.key))) so ∙ ap (λ o. has xs m && not (is_that_object m o)) name)))

-- one after another
pub taken_both : (a b c d e : Bool) → b ≡ (a && not d) → c ≡ (b && not e) → c ≡ (a && not (d || e))
taken_both a b c true e first second = second ∙ (ap (λ x. x && not e) (first ∙ none a) ∙ sym (none a))
  where
    none : (x : Bool) → (x && false) ≡ false
    none true = refl
    none false = refl
taken_both a b c false e first second = second ∙ ap (λ x. x && not e) (first ∙ sym (keeps_all a))

pub taken_none : (a b : Bool) → b ≡ a → b ≡ (a && not false)
taken_none a b e = e ∙ keeps_all a
