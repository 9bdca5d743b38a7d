-- Programs whose names are UTF-8. No text has another name.
use Rattle.std.specs.Prelude.{◌≡◌, Result, Ok, Err}
use Rattle.std.specs.Str.{IsUtf8}
use Rattle.vlt_core.specs.Core.{SetDecl, TypeDecl, an_abstract, a_struct, a_variant, Func, Program}
use Rattle.cert_rows.specs.Parts.{All}
use Rattle.cert_values.specs.declared.declarations.names.Unwritten.{Unwritten}
use Rattle.cert_values.specs.declared.declarations.names.Unwritten.TheVariants as unwritten

abbrev pub HasTextSet : SetDecl → Type 0
HasTextSet d = IsUtf8 d.name × All IsUtf8 d.states

-- the names of its fields or cases too
abbrev pub HasTextType : TypeDecl → Type 0
HasTextType (an_abstract name set) = IsUtf8 name
HasTextType (a_struct d) = IsUtf8 d.name × All (λ f. IsUtf8 f.name) d.fields
HasTextType (a_variant d) = IsUtf8 d.name × All (λ c. IsUtf8 c.name) d.cases

-- the names of its keys and variables too
abbrev pub HasTextFunc : Func → Type 0
HasTextFunc f =
    IsUtf8 f.name × All (λ k. IsUtf8 k.name) f.keys × All (λ v. IsUtf8 v.name) f.vars

-- each name of the program is UTF-8
pub record HasTextNames (p : Program) : Type 0 where
  pub sets : All HasTextSet p.sets
  pub types : All HasTextType p.types
  pub fns : All HasTextFunc p.fns

-- it isn't for a name that there is nothing
abbrev pub IsNamed : {A : Type 0} → Result A Unwritten → Type 0
IsNamed (Err unwritten.Name) = ⊥
IsNamed (Err unwritten.Memory) = Unit {0}
IsNamed (Ok a) = Unit {0}

-- a fact for the error that is for a name
pub record IfNameless {A : Type 0} (r : Result A Unwritten) (p : Type 0) : Type 0 where
  pub holds : r ≡ Err unwritten.Name → p
