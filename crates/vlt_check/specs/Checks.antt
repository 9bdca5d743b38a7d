-- What the check of a program says.
use Rattle.std.specs.Prelude.{◌≡◌, ℕ, false, MatchBool, List, [], ◌∷◌, Option, Some, slice_get, Result}
use Rattle.vlt_base.specs.Refusals as refusals
use Rattle.vlt_core.specs.Core.{Func, Program}
use Rattle.vlt_core.specs.Instances.{instance, IsOrigin, origins}
use Rattle.vlt_core.specs.Local.{Notes, IsLocalIn}
use Rattle.vlt_flow.specs.Walks.{IsLeastIn}
use Rattle.vlt_flow_maps.specs.Kept.{Marks}
use Rattle.vlt_core.specs.Faults as faults
use Rattle.vlt_core.specs.View.{tok_of}
use Rattle.vlt_core.specs.declared.held.FlowFault.{FlowFault}
use Rattle.vlt_core.specs.FaultView.{kind_of}
use Rattle.vlt_check.specs.declared.program.CheckError.{CheckError}
use Rattle.vlt_check.specs.declared.program.CheckError.TheVariants.{Refused}

-- a fact on the fault that is refused
abbrev pub OnRefused : {A : Type 0} → Result A CheckError → (FlowFault → Type 0) → Type 0
OnRefused r P = refusals.OnRefused Refused r P

-- the code's fault as a plain one
abbrev pub fault_of : FlowFault → faults.FlowFault
fault_of x = record { function = x.fn_id.0; origin = x.origin; at = x.at; tok = tok_of x.tok; kind = kind_of x.kind }

-- the least maps of these instances
abbrev pub AreLeastIn : Program → Func → List (Option ℕ) → List Marks → Type 0
AreLeastIn p f [] [] = Unit {0}
AreLeastIn p f (o ∷ os) (k ∷ ks) = IsLeastIn p (instance p f o) k × AreLeastIn p f os ks
AreLeastIn p f _ _ = ⊥

-- a function with a body has the least maps of each of its instances, an external has none
abbrev pub IsLeastOf : Program → Func → List Marks → Type 0
IsLeastOf p f ks = MatchBool f.external (ks ≡ []) (AreLeastIn p f (origins p f) ks)

-- each function has what it should
abbrev pub AreLeast : Program → List Func → List (List Marks) → Type 0
AreLeast p [] [] = Unit {0}
AreLeast p (f ∷ fs) (ks ∷ all) = IsLeastOf p f ks × AreLeast p fs all
AreLeast p _ _ = ⊥

pub record IsChecked (p : Program) (all : List (List Marks)) : Type 0 where
  pub each : AreLeast p p.fns all

-- in the body of some instance no annotation holds
pub record IsRefusedInstance (p : Program) (f : Func) : Type 0 where
  pub origin : Option ℕ
  pub is : IsOrigin p f origin
  pub none : (a : Notes) → IsLocalIn p (instance p f origin) a → ⊥

-- the function has such a body
pub record IsRefusedIn (p : Program) (f : Func) : Type 0 where
  pub with_body : f.external ≡ false
  pub in_some : IsRefusedInstance p f

-- the function of this number has such a body
pub record HasRefused (p : Program) (number : ℕ) : Type 0 where
  pub func : Func
  pub there : slice_get p.fns number ≡ Some func
  pub refused : IsRefusedIn p func
