-- The joined file sees each view whose declarations aren't refused.
use Rattle.std.proofs.Common.{◌≡◌, [], Some, ◌∙◌}
use Rattle.vlt_syntax.specs.Tree.{Decl}
use Rattle.vlt_syntax.specs.Lists.{Each}
use Rattle.vlt_kinds_types.specs.Names.Globals.{global_in, globals_of, decl_name, no_counts}
use Rattle.vlt_kinds_types.specs.declared.names.globals.Entity.{Entity}
use Rattle.vlt_kinds_decls.specs.Names as nam
use Rattle.vlt_kinds_types.specs.Names.Refusals.{of_each}
use Rattle.vlt_kinds_types.specs.Files.{file_of}
use Rattle.vlt_kinds_decls.specs.Decls.{type_refused}
use Rattle.vlt_kinds_heads.specs.Phase.{heads_refused_in}
use Rattle.vlt_kinds.specs.Tables.{kinds_of}
use Rattle.vlt_link_laws.specs.Moves.Joins.{Joins, befores, afters, moves_of}
use Rattle.vlt_link_laws.specs.Moves.Sees.{Sees}
use Rattle.vlt_link_laws.proofs.OfMoves.Names.{AreJoined, first_in, named}
use Rattle.std.proofs.lemmas.Slice.Eq.{bytes_eq-Decides}
use Rattle.vlt_link_laws.proofs.Fits.{Fits}
use Rattle.vlt_link_laws.proofs.Given.{IfSome, each_none, each_both, each_map, each_before, each_named}
use Rattle.vlt_link_laws.proofs.Known.{FineDecl}
use Rattle.vlt_link_laws.proofs.Headed.{sees_kinds}

-- a view beside the joined declarations, from which the rules but that on main and on repeated names refuse nothing
pub record Seeing (js : Joins) : Type 0 where
  pub fits : Each Fits js
  pub joined : AreJoined js
  pub named : of_each (nam.decl_refused (globals_of (befores js))) (befores js) ≡ []
  pub typed : of_each (type_refused (file_of (befores js))) (befores js) ≡ []
  pub headed : of_each (heads_refused_in (file_of (befores js)) (kinds_of (befores js)).types) (befores js) ≡ []

module _ (js : Joins) (part : Seeing js) where
  abbrev Found : Decl → Type 0
  Found d = (g : Entity) × (global_in (globals_of (befores js)) (decl_name d).text ≡ Some g)

  abbrev First : Decl → Type 0
  First d = (g : Entity) × (first_in no_counts (befores js) (decl_name d).text ≡ Some g)

  abbrev Quiet : Decl → Type 0
  Quiet d = (nam.decl_refused (globals_of (befores js)) d ≡ []) × (type_refused (file_of (befores js)) d ≡ [])

  found : (d : Decl) → First d → Found d
  found d x = (x.0, named (λ n k e. (bytes_eq-Decides n k).0 e) (befores js) (decl_name d).text ∙ x.1)

  is_fine : (d : Decl) → Found d → Quiet d → FineDecl (file_of (befores js)) d
  is_fine d x y = record { known = x.0; is = x.1; named = y.0; typed = y.1 }

  quiet : (d : Decl) → nam.decl_refused (globals_of (befores js)) d ≡ [] → type_refused (file_of (befores js)) d ≡ [] → Quiet d
  quiet d x y = (x, y)

  pub all_fine : Each (λ j. IfSome (FineDecl (file_of (befores js))) j.before) js
  all_fine =
      each_before (FineDecl (file_of (befores js))) js
      (each_both {P = Found} {Q = Quiet} {R = FineDecl (file_of (befores js))} is_fine (befores js)
      (each_map {P = First} {R = Found} found (befores js) (each_named no_counts (befores js)))
      (each_both {P = λ d. nam.decl_refused (globals_of (befores js)) d ≡ []} {Q = λ d. type_refused (file_of (befores js)) d ≡ []} {R = Quiet} quiet (befores js)
      (each_none (nam.decl_refused (globals_of (befores js))) (befores js) part.named)
      (each_none (type_refused (file_of (befores js))) (befores js) part.typed)))

  pub all_heads : Each (λ j. IfSome (λ d. heads_refused_in (file_of (befores js)) (kinds_of (befores js)).types d ≡ []) j.before) js
  all_heads = each_before (λ d. heads_refused_in (file_of (befores js)) (kinds_of (befores js)).types d ≡ []) js (each_none (heads_refused_in (file_of (befores js)) (kinds_of (befores js)).types) (befores js) part.headed)

  pub sees : Sees (moves_of js) (kinds_of (befores js)) (kinds_of (afters js))
  sees = sees_kinds js part.fits part.joined all_fine (kinds_of (befores js)).types all_heads
