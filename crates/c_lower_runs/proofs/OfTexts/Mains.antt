-- The C program has the function that a run begins with.
use Rattle.std.proofs.Common.{◌≡◌, ℕ, zero, suc, ◌+◌, Bool, true, false, not, List, [], ◌∷◌, Option, Some, None, slice_get, refl, ap}
use Rattle.std.proofs.lemmas.Bool.{false≢true}
use Rattle.std.proofs.lemmas.Option.{none-some, same_Some}
use Rattle.vlt_core.specs.Core.{Func, Program}
use Rattle.vlt_core.specs.Kinded.{IsKinded, has_main, rows_broken}
use Rattle.vlt_core.specs.declared.rules.TheConstants as rule
use Rattle.vlt_core_laws.proofs.Unbroken.{each_of_first, unless_holds}
use Rattle.c_syntax.specs.C as c
use Rattle.c_meaning.specs.Run.{Numbered, number_at, count_in, count_in_all}
use Rattle.c_lower.specs.Lowering.{lowered}
use Rattle.c_lower_runs.proofs.LoweredFunctions.{body_func, main_found}

pub record HasMain (p : Program) : Type 0 where
  pub main : Func
  pub at : slice_get p.fns p.main ≡ Some main
  pub body : main.external ≡ false

pub main_is : (p : Program) → IsKinded p → HasMain p
main_is p kinded = by (slice_get p.fns p.main) refl (unless_holds (has_main p) rule.NO_MAIN (each_of_first 0 (rows_broken p) kinded).0)
  where
    of_func : Option Func → Bool
    of_func None = false
    of_func (Some f) = not f.external

    with_body : (f : Func) (b : Bool) → f.external ≡ b → slice_get p.fns p.main ≡ Some f → not b ≡ true → HasMain p
    with_body f false e at h = record { main = f; at = at; body = e }
    with_body f true e at h = absurd (false≢true h)

    by : (o : Option Func) → slice_get p.fns p.main ≡ o → has_main p ≡ true → HasMain p
    by None e h = absurd (false≢true (rw e at h))
    by (Some f) e h = with_body f f.external refl e (rw e at h)

pub at_position : (n : ℕ) (fs : List c.Func) (i : ℕ) (q : Numbered) → number_at n fs i ≡ Some q → slice_get fs i ≡ Some q.func
at_position n [] i q e = absurd (none-some q e)
at_position n (f ∷ fs) zero q e = ap (λ (x : Numbered). Some x.func) (same_Some (record { func = f; first = n }) q e)
at_position n (f ∷ fs) (suc i) q e = at_position (n + count_in f.body) fs i q e

pub main_at : (p : Program) (h : HasMain p) → slice_get (lowered p).fns (lowered p).main ≡ Some (body_func p p.main h.main)
main_at p h =
    let found = main_found p h.main h.at h.body in
    at_position (count_in_all (lowered p).glue) (lowered p).fns (lowered p).main _ found.is

pub main_there : (p : Program) → IsKinded p → (f : c.Func) × (slice_get (lowered p).fns (lowered p).main ≡ Some f)
main_there p kinded = let h = main_is p kinded in (body_func p p.main h.main, main_at p h)
