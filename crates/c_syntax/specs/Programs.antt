-- The program that a C text stands for.
use Rattle.std.specs.Prelude.{◌≡◌, Bool, true, false, if◌then◌else◌, List, [], ◌∷◌, Some, slice_get}
use Rattle.std.specs.List.Sorted.{IsPermutation, IsSorted}
use Rattle.std.specs.declared.cmp.Ordering.{Ordering}
use Rattle.std.specs.Ordering.{ordering_then, nat_cmp, bool_cmp}
use Rattle.c_syntax.specs.declared.program.CVar.{CVar}
use Rattle.c_syntax.specs.C.{Func, Program}
use Rattle.c_syntax.specs.Unit.{Body, TranslationUnit}
use Rattle.c_syntax.specs.Kinds.{same_bool, names_of}

-- `n` names first, then by number
abbrev pub variable_order : CVar → CVar → Ordering
variable_order v w = ordering_then (bool_cmp v.reference w.reference) (nat_cmp v.number w.number)

-- the variables of a function are those that its body declares, in order
pub record IsFuncOf (b : Body) (f : Func) : Type 0 where
  pub number : f.number ≡ b.head.name.number
  pub result : f.result ≡ b.head.result
  pub params : f.params ≡ names_of b.head.params
  pub declares : IsPermutation (names_of b.vars) f.vars
  pub sorted : IsSorted variable_order f.vars
  pub body : f.body ≡ b.stmts

-- one by one
abbrev pub AreFuncsOf : List Body → List Func → Type 0
AreFuncsOf [] [] = Unit {0}
AreFuncsOf (b ∷ bs) (f ∷ fs) = IsFuncOf b f × AreFuncsOf bs fs
AreFuncsOf _ _ = ⊥

-- those of glue, or else the others
abbrev pub bodies_of : Bool → List Body → List Body
bodies_of glue [] = []
bodies_of glue (b ∷ bs) = if same_bool glue b.head.name.glue then b ∷ bodies_of glue bs else bodies_of glue bs

pub record IsProgramOf (u : TranslationUnit) (p : Program) : Type 0 where
  pub glue : AreFuncsOf (bodies_of true u.bodies) p.glue
  pub fns : AreFuncsOf (bodies_of false u.bodies) p.fns
  pub main : (f : Func) × (slice_get p.fns p.main ≡ Some f) × (f.number ≡ u.main)
