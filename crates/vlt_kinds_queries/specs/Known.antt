-- Types whose state sets are declared.
use Rattle.std.specs.Prelude.{ℕ, ◌<◌, Some}
use Rattle.std.specs.Option.{ForSome}
use Rattle.vlt_core.specs.Lookups.{set_in}
use Rattle.vlt_core.specs.View.{type_of}
use Rattle.vlt_core.specs.declared.program.TypeDecl.{TypeDecl}

-- the type's set, if it has one, is one of so many
pub record HasKnownSet (sets : ℕ) (d : TypeDecl) : Type 0 where
  pub known : ForSome (set_in (Some (type_of d))) (λ i. i < sets)
