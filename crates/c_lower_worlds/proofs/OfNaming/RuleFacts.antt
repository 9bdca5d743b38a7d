-- What statements that break no rule say of types.
use Rattle.std.proofs.Common.{◌≡◌, ℕ, List, [], ◌++◌, Option, Some, None, ap, refl}
use Rattle.std.proofs.lemmas.Option.{none-some, same_Some}
use Rattle.vlt_core.specs.Core as core
use Rattle.vlt_core.specs.Core.{Ty}
use Rattle.vlt_core.specs.Lookups.{Reference, tracked_in, guarded_in}
use Rattle.vlt_core_laws.proofs.Unbroken.{left_empty, right_empty}

pub record BothEmpty {A : Type 0} (xs ys : List A) : Type 0 where
  pub left : xs ≡ []
  pub right : ys ≡ []

pub both_empty : {A : Type 0} (xs ys : List A) → xs ++ ys ≡ [] → BothEmpty xs ys
both_empty xs ys e = record { left = left_empty xs ys e; right = right_empty xs ys e }

pub none_of_both : {A : Type 0} (xs ys : List A) → xs ≡ [] → ys ≡ [] → xs ++ ys ≡ []
none_of_both xs ys a b = rw (a, b) refl

-- the types of references
pub record IsTracked (ty : Option Ty) (r : Reference) : Type 0 where
  pub args : List ℕ
  pub is : ty ≡ Some (core.tracked r.key r.type args)

pub record IsGuarded (ty : Option Ty) (r : Reference) : Type 0 where
  pub args : List ℕ
  pub is : ty ≡ Some (core.guarded r.key r.type args)

pub tracked_is : (ty : Option Ty) (r : Reference) → tracked_in ty ≡ Some r → IsTracked ty r
tracked_is (Some (core.tracked k t args)) r e =
    let same = same_Some (record { key = k; type = t }) r e in
    record { args = args; is = ap (λ (q : Reference). Some (core.tracked q.key q.type args)) same }
tracked_is None r e = absurd (none-some r e)
tracked_is (Some core.int) r e = absurd (none-some r e)
tracked_is (Some core.bool) r e = absurd (none-some r e)
tracked_is (Some (core.owning states t args)) r e = absurd (none-some r e)
tracked_is (Some (core.guarded k t args)) r e = absurd (none-some r e)
tracked_is (Some (core.variant t args)) r e = absurd (none-some r e)
tracked_is (Some (core.owning_variant t args)) r e = absurd (none-some r e)

pub guarded_is : (ty : Option Ty) (r : Reference) → guarded_in ty ≡ Some r → IsGuarded ty r
guarded_is (Some (core.guarded k t args)) r e =
    let same = same_Some (record { key = k; type = t }) r e in
    record { args = args; is = ap (λ (q : Reference). Some (core.guarded q.key q.type args)) same }
guarded_is None r e = absurd (none-some r e)
guarded_is (Some core.int) r e = absurd (none-some r e)
guarded_is (Some core.bool) r e = absurd (none-some r e)
guarded_is (Some (core.owning states t args)) r e = absurd (none-some r e)
guarded_is (Some (core.tracked k t args)) r e = absurd (none-some r e)
guarded_is (Some (core.variant t args)) r e = absurd (none-some r e)
guarded_is (Some (core.owning_variant t args)) r e = absurd (none-some r e)
