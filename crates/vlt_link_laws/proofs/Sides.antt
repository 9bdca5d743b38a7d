-- An interface and two modules, each with its view, and no clash.
use Rattle.std.specs.Prelude.{◌≡◌, ◌⊎◌, ℕ, false, List, [], ◌++◌, map, Option, Some, None, unwrap_or, slice_get, Ok}
use Rattle.std.specs.List.{find}
use Rattle.std.specs.Str.{bytes_eq}
use Rattle.vlt_syntax.specs.Tree.{Decl}
use Rattle.vlt_syntax.specs.Lists.{Each}
use Rattle.vlt_core.specs.Core.{Func}
use Rattle.vlt_core.specs.Derives.{IsAccepted}
use Rattle.vlt_core.specs.Kinded.{first_broken, function_rows}
use Rattle.vlt_kinds_types.specs.Names.Globals.{globals_of, decl_name}
use Rattle.vlt_kinds_decls.specs.Names as nam
use Rattle.vlt_kinds_types.specs.Names.Refusals.{of_each}
use Rattle.vlt_kinds_types.specs.Files.{file_of}
use Rattle.vlt_kinds_decls.specs.Decls.{type_refused}
use Rattle.vlt_kinds_heads.specs.Phase.{heads_refused_in}
use Rattle.vlt_kinds.specs.Tables.{kinds_of}
use Rattle.vlt_elaboration.specs.Elaboration.{walk_decls}
use Rattle.vlt_iface.specs.View.{gives, others}
use Rattle.vlt_link_laws.specs.Moves.Joins.{Joins, befores, afters, moves_of}
use Rattle.vlt_link_laws.proofs.Parts.{IsFreeDecl, HostStays, IsSame, program_of}

abbrev pub or_else : Option Decl → Option Decl → Option Decl
or_else None o = o
or_else (Some d) o = Some d

-- ---- the view of the first module, and that of the second, beside the joined declarations

abbrev pub given_joins : (ms fs gs is : List Decl) → Joins
given_joins ms fs gs = map (λ i. record { before = Some (unwrap_or (find (gives i) ms) i); after = unwrap_or (or_else (find (gives i) fs) (find (gives i) gs)) i })

abbrev pub same_joins : List Decl → Joins
same_joins = map (λ d. record { before = Some d; after = d })

abbrev pub new_joins : List Decl → Joins
new_joins = map (λ d. record { before = None; after = d })

abbrev pub first_joins : (is fs gs : List Decl) → Joins
first_joins is fs gs = given_joins fs fs gs is ++ (same_joins (others is [] fs) ++ new_joins (others is fs gs))

abbrev pub second_joins : (is fs gs : List Decl) → Joins
second_joins is fs gs = given_joins gs fs gs is ++ (new_joins (others is [] fs) ++ same_joins (others is fs gs))

-- ---- no clash

-- no declaration is given twice
abbrev pub IsGivenOnce : List Decl → List Decl → Decl → Type 0
IsGivenOnce fs gs i = (find (gives i) fs ≡ None) ⊎ (find (gives i) gs ≡ None)

abbrev pub AreApart : List Decl → List Decl → Type 0
AreApart fs gs = Each (λ d. Each (λ e. bytes_eq (decl_name d).text (decl_name e).text ≡ false) gs) fs

pub record IsApart (is fs gs : List Decl) : Type 0 where
  pub once : Each (IsGivenOnce fs gs) is
  pub rest : others is fs gs ≡ others is [] gs
  pub names : AreApart (others is [] fs) (others is fs gs)

-- ---- views

-- A view from which the rules but that on main and on repeated names refuse nothing, and the functions that it becomes, which
-- break no rule and are accepted; what it binds is free in the joined declarations, and what its externals give as abstract stays so.
pub record IsView (js : Joins) (fs : List Func) (main : ℕ) : Type 0 where
  pub named : of_each (nam.decl_refused (globals_of (befores js))) (befores js) ≡ []
  pub typed : of_each (type_refused (file_of (befores js))) (befores js) ≡ []
  pub headed : of_each (heads_refused_in (file_of (befores js)) (kinds_of (befores js)).types) (befores js) ≡ []
  pub walked : walk_decls (kinds_of (befores js)) (kinds_of (befores js)).heads (befores js) ≡ Ok fs
  pub unbroken : (n : ℕ) (f : Func) → slice_get fs n ≡ Some f → first_broken 0 (function_rows (program_of (befores js) fs main) (n, f)) ≡ None
  pub accepted : IsAccepted (program_of (befores js) fs main)
  pub free : Each (λ j. IsSame j → IsFreeDecl (kinds_of (befores js)) (kinds_of (afters js)) j.after) js
  pub hosted : Each (λ j. IsSame j → HostStays (moves_of js) (kinds_of (befores js)) (kinds_of (afters js)) j.after) js
