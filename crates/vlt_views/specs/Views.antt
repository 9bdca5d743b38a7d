-- The kinds of a view and its core program, or what refuses them.
use Rattle.std.specs.Prelude.{ℕ, Bool, not, ◌&&◌, if◌then◌else◌, List, ◌++◌, Result, Ok, Err}
use Rattle.std.specs.List.{list_any}
use Rattle.vlt_syntax.specs.Tree.{Decl}
use Rattle.vlt_core.specs.Core.{TypeDecl, Program}
use Rattle.vlt_core.specs.declared.rules.TheConstants.{NO_MAIN}
use Rattle.vlt_kinds_types.specs.declared.names.found.Refusal.{Refusal}
use Rattle.vlt_kinds_decls.specs.Names.{is_main, other_names_refused}
use Rattle.vlt_kinds_types.specs.Names.Refusals.{least}
use Rattle.vlt_kinds_types.specs.Files.{File, file_of}
use Rattle.vlt_kinds_decls.specs.Decls.{types_refused}
use Rattle.vlt_kinds_heads.specs.Phase.{heads_refused}
use Rattle.vlt_kinds_types.specs.Kinds.{Kinds}
use Rattle.vlt_kinds.specs.Tables.{kinds_of, unless}
use Rattle.vlt_elaboration.specs.Elaboration.{Refused, broken, elaborated}
use Rattle.vlt_iface.specs.declared.places.TheConstants.{RAISE}
use Rattle.vlt_iface.specs.View.{View}
use Rattle.vlt_views.specs.Hidden.{hidden_names, own_refused}

-- ---- kinds of a view: all rules on names, types and heads but that on main, and the rule on what stays abstract

abbrev pub view_heads_refused : File → List TypeDecl → (origins : List ℕ) → List Decl → List Refusal
view_heads_refused file types os ds =
    heads_refused file types ds ++ own_refused (hidden_names os ds) types file os ds

-- In each phase the least refusal is told.
abbrev pub view_heads_told : (origins : List ℕ) → List Decl → Result Kinds Refusal
view_heads_told os ds =
    unless (least (view_heads_refused (file_of ds) (kinds_of ds).types os ds)) (Ok (kinds_of ds))

abbrev pub view_types_told : (origins : List ℕ) → List Decl → Result Kinds Refusal
view_types_told os ds = unless (least (types_refused (file_of ds) ds)) (view_heads_told os ds)

abbrev pub view_names_told : (origins : List ℕ) → List Decl → Result Kinds Refusal
view_names_told os ds = unless (least (other_names_refused ds)) (view_types_told os ds)

-- the table of a view, or the refusal
abbrev pub view_kinds_told : View → Result Kinds Refusal
view_kinds_told v = view_names_told v.origins v.tree.decls

-- ---- the program of a view

-- main is wanted, and there is none
abbrev pub lacks_main : (with_main : Bool) → List Decl → Bool
lacks_main with_main ds = with_main && not (list_any is_main ds)

-- The core program of a view whose declarations are of these kinds, or the first refusal. The rule on main comes before all bodies,
-- at the module's first byte.
abbrev pub view_elaborated : View → Kinds → (with_main : Bool) → Result Program Refused
view_elaborated v kinds with_main =
    if lacks_main with_main v.tree.decls then Err (broken NO_MAIN RAISE) else elaborated v.tree kinds
