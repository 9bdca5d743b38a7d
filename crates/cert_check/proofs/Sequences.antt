-- Tests one after another, and errors that are handed on.
use Rattle.std.proofs.Common.{◌≡◌, inl, inr, ⊎_elim, List, [], ◌∷◌, ◌++◌, Result, Ok, Err, sym, subst}
use Rattle.std.specs.Result.{IsErrAnd}
use Rattle.cert_check.specs.Tests.{Test, Failure, Hold, FirstFails}
use Rattle.cert_check.specs.declared.errors.Stop.{Stop}
use Rattle.cert_check.specs.declared.errors.Stop.TheVariants.{Refused, Unfit, Memory}
use Rattle.cert_check.specs.Outcomes.{HasOutcome, AreTested}

-- ---- lists of tests

pub hold_both : (xs ys : List Test) → Hold xs → Hold ys → Hold (xs ++ ys)
hold_both [] ys h k = k
hold_both (x ∷ xs) ys h k = (h.0, hold_both xs ys h.1 k)

pub first_here : (xs ys : List Test) (z : Failure) → FirstFails xs z → FirstFails (xs ++ ys) z
first_here [] ys z f = absurd f
first_here (x ∷ xs) ys z f = ⊎_elim (λ a. inl a) (λ b. inr (b.0, first_here xs ys z b.1)) f

pub first_after : (xs ys : List Test) (z : Failure) → Hold xs → FirstFails ys z → FirstFails (xs ++ ys) z
first_after [] ys z h f = f
first_after (x ∷ xs) ys z h f = inr (h.0, first_after xs ys z h.1 f)

-- the tests that are left of all: what was before them holds
pub record IsRest (rest all : List Test) : Type 0 where
  pub hold : Hold rest → Hold all
  pub first : (z : Failure) → FirstFails rest z → FirstFails all z

pub rest_all : (ts : List Test) → IsRest ts ts
rest_all ts = record { hold = λ h. h; first = λ z f. f }

pub rest_after : (xs ys : List Test) → Hold xs → IsRest ys (xs ++ ys)
rest_after xs ys h = record { hold = hold_both xs ys h; first = λ z. first_after xs ys z h }

pub rest_trans : (xs ys zs : List Test) → IsRest xs ys → IsRest ys zs → IsRest xs zs
rest_trans xs ys zs p q = record { hold = λ h. q.hold (p.hold h); first = λ z f. q.first z (p.first z f) }

-- ---- answers

-- an error that a `?` hands on
pub stopped : {A B : Type 0} {P : A → Type 0} {Q : B → Type 0} (r : Result B Stop) (s : Result A Stop) (d : Stop) (xs ts : List Test) → IsErrAnd r (λ x. x ≡ d) → s ≡ Err d → AreTested s xs P →
    ((z : Failure) → FirstFails xs z → FirstFails ts z) → AreTested r ts Q
stopped {A} {B} {P} {Q} r s d xs ts gives was told f = record { outcome = by r gives (subst (λ r. HasOutcome r xs P) was told.outcome) }
  where
    one : (e : Stop) → (let r : Result A Stop = Err e in HasOutcome r xs P) → (let r : Result B Stop = Err e in HasOutcome r ts Q)
    one (Refused x) t = f _ t
    one Unfit t = f _ t
    one Memory t = tt

    by : (r : Result B Stop) → IsErrAnd r (λ x. x ≡ d) → (let r : Result A Stop = Err d in HasOutcome r xs P) → HasOutcome r ts Q
    by (Ok x) gives t = absurd gives
    by (Err e) gives t = one e (subst (λ e. let r : Result A Stop = Err e in HasOutcome r xs P) (sym gives) t)

-- the answer of the last call
pub onward : {A : Type 0} {P Q : A → Type 0} (r : Result A Stop) (xs ts : List Test) → AreTested r xs P → IsRest xs ts → ((x : A) → P x → Q x) → AreTested r ts Q
onward {A} {P} {Q} r xs ts told rest f = record { outcome = by r told.outcome }
  where
    by : (r : Result A Stop) → HasOutcome r xs P → HasOutcome r ts Q
    by (Ok x) t = (rest.hold t.0, f x t.1)
    by (Err (Refused e)) t = rest.first _ t
    by (Err Unfit) t = rest.first _ t
    by (Err Memory) t = tt
