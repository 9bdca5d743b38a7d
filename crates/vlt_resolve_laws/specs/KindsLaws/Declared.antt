-- The rows of declared types, and the states that they say.
use Rattle.std.specs.Prelude.{◌≡◌, ℕ, true, List, []}
use Rattle.std.specs.List.{flat_map, enumerate_from}
use Rattle.vlt_syntax.specs.Tree.{Decl}
use Rattle.vlt_syntax.specs.Lists.{Each}
use Rattle.vlt_syntax.specs.Grammar.{IsDecl, language}
use Rattle.vlt_core.specs.Core.{States, Program}
use Rattle.vlt_core.specs.KindedHeads.{Rules, type_rows}
use Rattle.vlt_kinds_types.specs.Files.{file_of}
use Rattle.vlt_kinds_types.specs.Names.Globals.{names_again}
use Rattle.vlt_kinds_decls.specs.Decls.{types_refused}
use Rattle.vlt_resolve_laws.specs.KindsLaws.Shapes.{Describes, HasHeaders}
use Rattle.vlt_resolve_laws.specs.KindsLaws.Said.{DeclsSay}
use Rattle.vlt_kinds_decls.specs.Made.{core_types}

-- each row breaks nothing
abbrev pub BreakNothing : List Rules → Type 0
BreakNothing = Each (λ rules. rules ≡ [])

-- the program has the sets and the types of these declarations
pub record HasDeclared (ds : List Decl) (p : Program) : Type 0 where
  pub sets : p.sets ≡ (file_of ds).sets
  pub types : p.types ≡ core_types (file_of ds) ds

-- no name is declared twice, and the rules on types refuse nothing, in declarations of the language
pub record IsPassed (ds : List Decl) : Type 0 where
  pub language : Each (IsDecl language) ds
  pub names : names_again ds ≡ []
  pub types : types_refused (file_of ds) ds ≡ []

abbrev pub DeclarationsAreKinded : Type 0
DeclarationsAreKinded = (ds : List Decl) (p : Program) → IsPassed ds → HasDeclared ds p →
    BreakNothing (flat_map (λ q. type_rows p q.0 q.1) (enumerate_from 0 p.types))

-- some state is in the set
abbrev pub IsFilled : States → Type 0
IsFilled states = (i : ℕ) × (states i ≡ true)

-- each set of states that a declared type says has one
abbrev pub HasStates : Program → Type 0
HasStates = DeclsSay IsFilled

abbrev pub DeclarationsHaveStates : Type 0
DeclarationsHaveStates = (ds : List Decl) (p : Program) → IsPassed ds → HasDeclared ds p → HasStates p

-- the program's types are those of the file to the rules by name, with the types of their headers' keys
abbrev pub DeclarationsAreDescribed : Type 0
DeclarationsAreDescribed = (ds : List Decl) (p : Program) → IsPassed ds → HasDeclared ds p → Describes (file_of ds) p × HasHeaders p
