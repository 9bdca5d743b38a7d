-- What parts of a program say of states: each set of states that is said has the property.
use Rattle.std.specs.Prelude.{◌≡◌, ℕ, Some}
use Rattle.vlt_syntax.specs.Lists.{Each}
use Rattle.vlt_core.specs.Core.{States, Ty, TypeDecl, an_abstract, a_struct, a_variant, Entry, Func, Program}
use Rattle.vlt_core.specs.Lookups.{owning_states_in, all_states}
use Rattle.vlt_core.specs.Types.{decl_of}

-- the states of an owning type
abbrev pub TypeSays : (P : States → Type 0) → Ty → Type 0
TypeSays P ty = (states : States) → owning_states_in (Some ty) ≡ Some states → P states

-- the states in which an object may be released, and those that a case says of a key
abbrev pub DeclSays : (P : States → Type 0) → TypeDecl → Type 0
DeclSays P (a_struct d) = P d.release
DeclSays P (a_variant d) = Each (λ c. Each (λ k. P k.states) c.keys) d.cases
DeclSays P (an_abstract name set) = Unit {0}

-- all states of each type, and those that each declared type says
pub record DeclsSay (P : States → Type 0) (p : Program) : Type 0 where
  pub all : (t : ℕ) → P (all_states p t)
  pub said : (t : ℕ) (d : TypeDecl) → decl_of p t ≡ Some d → DeclSays P d

pub record EntrySays (P : States → Type 0) (e : Entry) : Type 0 where
  pub before : (states : States) → e.before ≡ Some states → P states
  pub after : (states : States) → e.after ≡ Some states → P states

pub record HeadSays (P : States → Type 0) (head : Func) : Type 0 where
  pub clause : Each (EntrySays P) head.clause
  pub parameters : Each (λ d. TypeSays P d.ty) head.vars
