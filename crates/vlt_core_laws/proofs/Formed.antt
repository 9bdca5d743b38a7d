-- What is so of functions without a bound entry: they are their own only instance.
use Rattle.std.proofs.Common.{◌≡◌, ℕ, false, Option, Some, None, refl, sym, subst, slice_get}
use Rattle.vlt_core.specs.Core.{Func, Program}
use Rattle.vlt_core.specs.Instances.{bound_in, instance, IsOriginOf, IsOrigin}
use Rattle.vlt_core_laws.specs.Fit.{IsFitBody, IsWellFormed}
use Rattle.vlt_core_laws.proofs.Starting.{fit_body}

pub own_instance : (p : Program) (f : Func) → bound_in f.clause ≡ None → IsOrigin p f None
own_instance p f plain = subst (λ b. IsOriginOf p f b None) (sym plain) tt

pub only_instance : (p : Program) (f : Func) (o : Option ℕ) → bound_in f.clause ≡ None → IsOrigin p f o → o ≡ None
only_instance p f o plain origin = by o (subst (λ b. IsOriginOf p f b o) plain origin)
  where
    by : (o : Option ℕ) → IsOriginOf p f None o → o ≡ None
    by None x = refl
    by (Some o) x = absurd x

-- each body of a well-formed program is fit, in each instance
pub formed_bodies : (p : Program) (n : ℕ) (f : Func) (o : Option ℕ) → IsWellFormed p → slice_get p.fns n ≡ Some f → f.external ≡ false →
    IsOrigin p f o → IsFitBody p (instance p f o)
formed_bodies p n f o well there body origin = fit_body p n f well.states there well.kinded o origin (well.arms n f there) body

-- of a function without a bound entry the body is fit as it stands
pub formed_body : (p : Program) (n : ℕ) (f : Func) → IsWellFormed p → slice_get p.fns n ≡ Some f → f.external ≡ false → bound_in f.clause ≡ None →
    IsFitBody p f
formed_body p n f well there body plain = formed_bodies p n f None well there body (own_instance p f plain)

-- what is so of it is so of each of its instances
pub of_instance : (p : Program) (f : Func) (o : Option ℕ) (P : Func → Type 0) → bound_in f.clause ≡ None → IsOrigin p f o → P f → P (instance p f o)
of_instance p f o P plain origin is = subst (λ o. P (instance p f o)) (sym (only_instance p f o plain origin)) is

pub in_instance : (p : Program) (f : Func) (o : Option ℕ) (P : Func → Type 0) → bound_in f.clause ≡ None → IsOrigin p f o → P (instance p f o) → P f
in_instance p f o P plain origin is = subst (λ o. P (instance p f o)) (only_instance p f o plain origin) is
