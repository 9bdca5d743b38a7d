-- Phase after phase: what is told of a view.
use Rattle.std.proofs.Common.{◌≡◌, ◌∙◌, ℕ, List, None, Some, Ok, Err, ap, sym}
use Rattle.vlt_syntax.specs.Tree.{Decl}
use Rattle.vlt_core.specs.Core.{TypeDecl, Func}
use Rattle.vlt_kinds_types.specs.declared.names.found.Refusal.{Refusal}
use Rattle.vlt_kinds_types.specs.Names.Refusals.{least}
use Rattle.vlt_kinds_decls.specs.Names.{other_names_refused}
use Rattle.vlt_kinds_types.specs.Files.{File, file_of}
use Rattle.vlt_kinds_decls.specs.Decls.{types_refused}
use Rattle.vlt_kinds_decls.specs.Made.{core_types}
use Rattle.vlt_kinds_heads.specs.Phase.{core_heads}
use Rattle.vlt_kinds_types.specs.Kinds.{Kinds}
use Rattle.vlt_kinds.specs.Tables.{unless, kinds_of}
use Rattle.vlt_kinds.proofs.Told.{same_kinds}
use Rattle.vlt_views.specs.Views.{view_heads_refused, view_heads_told, view_types_told, view_names_told}

-- the rules on names refuse nothing
past_names : (os : List ℕ) (ds : List Decl) → least (other_names_refused ds) ≡ None → view_names_told os ds ≡ view_types_told os ds
past_names os ds named = ap (λ o. unless o (view_types_told os ds)) named

-- nor do those on types
past_types : (os : List ℕ) (ds : List Decl) (f : File) → f ≡ file_of ds → least (types_refused f ds) ≡ None → view_types_told os ds ≡ view_heads_told os ds
past_types os ds f is typed = ap (λ o. unless o (view_heads_told os ds)) (ap (λ g. least (types_refused g ds)) (sym is) ∙ typed)

same_heads : (os : List ℕ) (ds : List Decl) (f : File) (ts : List TypeDecl) → f ≡ file_of ds → ts ≡ core_types f ds
    → least (view_heads_refused (file_of ds) (kinds_of ds).types os ds) ≡ least (view_heads_refused f ts os ds)
same_heads os ds f ts is made =
    ap (λ g. least (view_heads_refused g (core_types g ds) os ds)) (sym is) ∙ ap (λ us. least (view_heads_refused f us os ds)) (sym made)

pub types_refuse : (os : List ℕ) (ds : List Decl) (f : File) (x : Refusal) → f ≡ file_of ds → least (other_names_refused ds) ≡ None
    → least (types_refused f ds) ≡ Some x → view_names_told os ds ≡ Err x
types_refuse os ds f x is named refused =
    past_names os ds named ∙ ap (λ o. unless o (view_heads_told os ds)) (ap (λ g. least (types_refused g ds)) (sym is) ∙ refused)

pub heads_refuse : (os : List ℕ) (ds : List Decl) (f : File) (ts : List TypeDecl) (x : Refusal) → f ≡ file_of ds → least (other_names_refused ds) ≡ None
    → ts ≡ core_types f ds → least (types_refused f ds) ≡ None → least (view_heads_refused f ts os ds) ≡ Some x → view_names_told os ds ≡ Err x
heads_refuse os ds f ts x is named made typed refused =
    past_names os ds named ∙ past_types os ds f is typed ∙ ap (λ o. unless o (Ok (kinds_of ds))) (same_heads os ds f ts is made ∙ refused)

-- nor do those on heads
past_heads : (os : List ℕ) (ds : List Decl) (f : File) (ts : List TypeDecl) → f ≡ file_of ds → ts ≡ core_types f ds
    → least (view_heads_refused f ts os ds) ≡ None → view_heads_told os ds ≡ Ok (kinds_of ds)
past_heads os ds f ts is made bound = ap (λ o. unless o (Ok (kinds_of ds))) (same_heads os ds f ts is made ∙ bound)

pub nothing_refuses : (os : List ℕ) (ds : List Decl) (f : File) (ts : List TypeDecl) (hs : List Func) (kinds : Kinds) → f ≡ file_of ds
    → least (other_names_refused ds) ≡ None → ts ≡ core_types f ds → least (types_refused f ds) ≡ None → hs ≡ core_heads f ds
    → least (view_heads_refused f ts os ds) ≡ None → kinds ≡ record { file = f; types = ts; heads = hs } → view_names_told os ds ≡ Ok kinds
nothing_refuses os ds f ts hs kinds is named made typed headed bound table =
    past_names os ds named ∙ past_types os ds f is typed ∙ past_heads os ds f ts is made bound
    ∙ ap Ok (same_kinds ds f ts hs is made headed ∙ sym table)
