-- Two views of an interface, beside the declarations of both modules as one.
use Rattle.std.specs.Prelude.{◌≡◌, ◌⊎◌, ℕ, true, List, [], ◌∷◌, Some, None, slice_get, Ok}
use Rattle.vlt_syntax.specs.Tree as s
use Rattle.vlt_syntax.specs.Tree.{Name, Named, Ty, ResultType, Head, Decl}
use Rattle.vlt_syntax.specs.Lists.{Each}
use Rattle.vlt_core.specs.Core as core
use Rattle.vlt_core.specs.Core.{Func, Program}
use Rattle.vlt_core.specs.Types.{is_abstract}
use Rattle.vlt_link_laws.specs.CoreMoves.Moves.{Moves}
use Rattle.vlt_core.specs.Derives.{IsAccepted}
use Rattle.vlt_core.specs.Kinded.{first_broken, function_rows}
use Rattle.vlt_kinds_types.specs.Names.Globals.{globals_of}
use Rattle.vlt_kinds_decls.specs.Names as nam
use Rattle.vlt_kinds_types.specs.Names.Refusals.{of_each}
use Rattle.vlt_kinds_types.specs.Files.{file_of, shape_named}
use Rattle.vlt_kinds_types.specs.Types.{sort_in}
use Rattle.vlt_kinds_decls.specs.Decls.{type_refused}
use Rattle.vlt_kinds_heads.specs.Keys.{keys_of}
use Rattle.vlt_kinds_heads.specs.Places.{clause_in, head_names}
use Rattle.vlt_kinds_heads.specs.Externals.{cases_named, external_refused}
use Rattle.vlt_kinds_heads.specs.Phase.{heads_refused_in}
use Rattle.vlt_kinds_types.specs.Kinds.{Kinds}
use Rattle.vlt_kinds.specs.Tables.{kinds_of, kinds_told}
use Rattle.vlt_elaboration.specs.Elaboration.{stmts_in, walk_decls, elaborated}
use Rattle.vlt_link_laws.specs.Moves.Joins.{Join, Joins, befores, afters, moves_of}
use Rattle.vlt_link_laws.specs.Moves.Sees.{AreFree}
use Rattle.vlt_link_laws.specs.Moves.Apt.{IsAptStmts}
use Rattle.vlt_link_laws.proofs.OfMoves.Names.{AreJoined}
use Rattle.vlt_link_laws.proofs.OfMoves.HeadRules.{IsFreeHead, IsFreeVariable}
use Rattle.vlt_link_laws.proofs.Fits.{Fits}

-- the names that a head binds are free, and so are the state variables of its clause
abbrev pub AreFreeNames : (a b : Kinds) → Head → Type 0
AreFreeNames a b h = IsFreeHead a b (head_names a.file h) × Each (IsFreeVariable a b) (clause_in h.clause)

-- the names that a declaration binds are free, of which the first file reads those of the head
abbrev pub IsFreeDecl : (a b : Kinds) → Decl → Type 0
IsFreeDecl a b (s.struct n ps ss fs r at) = AreFree a b (nam.header_keys ps)
IsFreeDecl a b (s.variant n ps cs at) = AreFree a b (nam.header_keys ps)
IsFreeDecl a b (s.extern h at) = AreFreeNames a b h
IsFreeDecl a b (s.function h x at) = AreFreeNames a b h × IsAptStmts a b (stmts_in x)
IsFreeDecl a b d = Unit {0}

-- the rule on heads of externals
abbrev pub IsHosted : Kinds → Decl → Type 0
IsHosted b (s.extern h at) = external_refused b.file b.types h (keys_of b.file h) ≡ []
IsHosted b d = Unit {0}

-- ---- what is abstract in an external's result stays so

module _ (m : Moves) (a b : Kinds) where
  abbrev pub Stays : core.Ty → Type 0
  Stays (core.owning states t args) = is_abstract (slice_get a.types t) ≡ true → is_abstract (slice_get b.types (m.types t)) ≡ true
  Stays ty = Unit {0}

  abbrev pub SortStays : Name → Type 0
  SortStays n = sort_in (shape_named b.file n) ≡ sort_in (shape_named a.file n)

  abbrev pub PayloadStays : Named → Type 0
  PayloadStays n = Each (λ c. Each Stays c.payload) (cases_named a.file a.types n)

  abbrev pub TyStays : Ty → Type 0
  TyStays (s.tracked k n at) = SortStays n.name
  TyStays (s.owning ss n at) = SortStays n.name × PayloadStays n
  TyStays (s.plain n) = PayloadStays n
  TyStays t = Unit {0}

  abbrev pub ResultStays : ResultType → Type 0
  ResultStays (s.void at) = Unit {0}
  ResultStays (s.value t) = TyStays t

  abbrev pub HostStays : Decl → Type 0
  HostStays (s.extern h at) = ResultStays h.result_type
  HostStays d = Unit {0}

-- the same declaration stands in the view
abbrev pub IsSame : Join → Type 0
IsSame j = j.before ≡ Some j.after

abbrev pub program_of : List Decl → List Func → ℕ → Program
program_of ds fs main = record { sets = (file_of ds).sets; types = (kinds_of ds).types; fns = fs; main = main }

-- A view beside the joined declarations, from which the rules but that on main and on repeated names refuse nothing, and the
-- functions that it becomes, which break no rule and are accepted.
pub record IsPart (js : Joins) (fs : List Func) (main : ℕ) : Type 0 where
  pub fits : Each Fits js
  pub joined : AreJoined js
  pub named : of_each (nam.decl_refused (globals_of (befores js))) (befores js) ≡ []
  pub typed : of_each (type_refused (file_of (befores js))) (befores js) ≡ []
  pub headed : of_each (heads_refused_in (file_of (befores js)) (kinds_of (befores js)).types) (befores js) ≡ []
  pub walked : walk_decls (kinds_of (befores js)) (kinds_of (befores js)).heads (befores js) ≡ Ok fs
  pub unbroken : (n : ℕ) (f : Func) → slice_get fs n ≡ Some f → first_broken 0 (function_rows (program_of (befores js) fs main) (n, f)) ≡ None
  pub accepted : IsAccepted (program_of (befores js) fs main)
  -- no clash, and what hosts give as abstract stays so
  pub free : Each (λ j. IsSame j → IsFreeDecl (kinds_of (befores js)) (kinds_of (afters js)) j.after) js
  pub hosted : Each (λ j. IsSame j → HostStays (moves_of js) (kinds_of (befores js)) (kinds_of (afters js)) j.after) js

-- each declaration is the same in one of the views
abbrev pub Covers : Joins → Joins → Type 0
Covers [] [] = Unit {0}
Covers [] (k ∷ ks) = ⊥
Covers (j ∷ js) [] = ⊥
Covers (j ∷ js) (k ∷ ks) = (j.after ≡ k.after) × (IsSame j ⊎ IsSame k) × Covers js ks

-- nothing is refused in the declarations, and the program that they become is accepted
pub record IsLinked (es : List Decl) : Type 0 where
  pub kinds : kinds_told (record { decls = es }) ≡ Ok (kinds_of es)
  pub program : Program
  pub is : elaborated (record { decls = es }) (kinds_of es) ≡ Ok program
  pub accepted : IsAccepted program
