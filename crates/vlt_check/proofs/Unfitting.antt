-- What an error of the parts says of the whole.
use Rattle.std.proofs.Common.{◌≡◌, ℕ, Option, Some, IfSome, inl, inr, Result, Ok, Err, IfOk, IfErr, ap, subst}
use Rattle.vlt_base.specs.declared.ids.FnId.{FnId}
use Rattle.vlt_rows.specs.declared.sink.RowError.{RowError}
use Rattle.vlt_rows.specs.declared.sink.RowError.TheVariants as row
use Rattle.vlt_rows.specs.Unfit.{UnfitBy}
use Rattle.vlt_faults.specs.Judge.Faulty as untold
use Rattle.vlt_faults.specs.Judge.Faulty.{AreFitIn, IsUntold, HasUntold}
use Rattle.vlt_core.specs.Instances.{instance, IsOrigin}
use Rattle.vlt_core.specs.Core.{Func, Program}
use Rattle.vlt_core.specs.Faults.{IsFirstOfAll}
use Rattle.vlt_core.specs.View.{tok_of}
use Rattle.vlt_core.specs.FaultView.{kind_of}
use Rattle.vlt_flow.specs.Unfit as walk
use Rattle.vlt_check.specs.declared.program.CheckError.{CheckError}
use Rattle.vlt_check.specs.declared.program.CheckError.TheVariants.{Refused, Unfit}
use Rattle.vlt_core.specs.declared.held.FlowFault.{FlowFault}
use Rattle.vlt_check.specs.Checks.{OnRefused, fault_of}
use Rattle.vlt_check.specs.Tellings.{IsTold}
use Rattle.vlt_check.specs.Unfit.{IfUnfit, IsUnfitBody, no_walk, no_number}

unfit_is : {A : Type 0} → UnfitBy A row.Unfit → A
unfit_is (inl m) = absurd (never m)
  where
    never : row.Unfit ≡ row.Memory → ⊥
    never e = cc
unfit_is (inr u) = u.1

pub unfit_cause : {T A : Type 0} (r : Result T RowError) → IfErr r (UnfitBy A) → r ≡ Err row.Unfit → A
unfit_cause {T} {A} r q e = unfit_is (subst (λ r. IfErr r (UnfitBy A)) e q)

part_unfit : (p : Program) (f : Func) (o : Option ℕ) → IsOrigin p f o → IsUntold p (instance p f o) → IsUnfitBody p f
part_unfit p f o is (untold.no_flow q) = no_walk o is (walk.no_flow q)
part_unfit p f o is (untold.no_start q) = no_walk o is (walk.no_start q)
part_unfit p f o is (untold.no_number q) = no_number o is q

pub parts_unfit : (p : Program) (f : Func) → HasUntold p f → IsUnfitBody p f
parts_unfit p f u = part_unfit p f u.origin u.is u.untold

-- the fault that is found in a function is told of it
fault_same : (y x : FlowFault) → Refused y ≡ Refused x → y ≡ x
fault_same y x same = cc

module _ (p : Program) (f : Func) where
  pub found_told : (n : FnId) (r : Result (Option FlowFault) RowError) (y x : FlowFault) →
      IfOk r (λ o. IfSome o (λ y. AreFitIn p f → IsFirstOfAll p f y.origin y.at (tok_of y.tok) (kind_of y.kind))) → IfOk r (λ o. IfSome o (λ y. y.fn_id ≡ n)) →
      r ≡ Ok (Some y) → Refused y ≡ Refused x → IsTold p f n.0 (fault_of x)
  found_told n r y x first function is same = subst (λ z. IsTold p f n.0 (fault_of z)) (fault_same y x same) (record {
    function = ap (λ (n : FnId). n.0) (subst (λ r. IfOk r (λ o. IfSome o (λ y. y.fn_id ≡ n))) is function);
    first = subst (λ r. IfOk r (λ o. IfSome o (λ y. AreFitIn p f → IsFirstOfAll p f y.origin y.at (tok_of y.tok) (kind_of y.kind)))) is first;
  })

-- errors that a function gives by itself
pub given_refused : {A : Type 0} {P : FlowFault → Type 0} (e : CheckError) → ((x : FlowFault) → e ≡ Refused x → P x) → (let r : Result A CheckError = Err e in OnRefused r P)
given_refused {A} e f = record { holds = λ x same. f x (error e x same) }
  where
    error : {A : Type 0} (e : CheckError) (x : FlowFault) → (let r : Result A CheckError = Err e in r ≡ Err (Refused x)) → e ≡ Refused x
    error e x same = cc

pub given_unfit : {A Q : Type 0} (e : CheckError) → (e ≡ Unfit → Q) → (let r : Result A CheckError = Err e in IfUnfit r Q)
given_unfit {A} e f = record { holds = λ same. f (error e same) }
  where
    error : {A : Type 0} (e : CheckError) → (let r : Result A CheckError = Err e in r ≡ Err Unfit) → e ≡ Unfit
    error e same = cc
