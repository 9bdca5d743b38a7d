-- Phase after phase: what is told of a file.
use Rattle.std.proofs.Common.{◌≡◌, ◌∙◌, List, None, Some, Ok, Err, ap, sym}
use Rattle.vlt_syntax.specs.Tree.{Decl}
use Rattle.vlt_core.specs.Core.{TypeDecl, Func}
use Rattle.vlt_kinds_types.specs.declared.names.found.Refusal.{Refusal}
use Rattle.vlt_kinds_types.specs.Names.Refusals.{least}
use Rattle.vlt_kinds_decls.specs.Names.{names_refused}
use Rattle.vlt_kinds_types.specs.Files.{File, file_of}
use Rattle.vlt_kinds_decls.specs.Decls.{types_refused}
use Rattle.vlt_kinds_decls.specs.Made.{core_types}
use Rattle.vlt_kinds_heads.specs.Phase.{heads_refused, core_heads}
use Rattle.vlt_kinds.specs.Tables.{unless, kinds_of, heads_told, types_told, names_told}

-- the rules on names refuse nothing
past_names : (ds : List Decl) → least (names_refused ds) ≡ None → names_told ds ≡ types_told ds
past_names ds named = ap (λ o. unless o (types_told ds)) named

-- nor do those on types
past_types : (ds : List Decl) (f : File) → f ≡ file_of ds → least (types_refused f ds) ≡ None → types_told ds ≡ heads_told ds
past_types ds f is typed = ap (λ o. unless o (heads_told ds)) (ap (λ g. least (types_refused g ds)) (sym is) ∙ typed)

pub same_heads : (ds : List Decl) (f : File) (ts : List TypeDecl) → f ≡ file_of ds → ts ≡ core_types f ds
    → least (heads_refused (file_of ds) (core_types (file_of ds) ds) ds) ≡ least (heads_refused f ts ds)
same_heads ds f ts is made =
    ap (λ g. least (heads_refused g (core_types g ds) ds)) (sym is) ∙ ap (λ us. least (heads_refused f us ds)) (sym made)

pub types_refuse : (ds : List Decl) (f : File) (x : Refusal) → f ≡ file_of ds → least (names_refused ds) ≡ None
    → least (types_refused f ds) ≡ Some x → names_told ds ≡ Err x
types_refuse ds f x is named refused =
    past_names ds named ∙ ap (λ o. unless o (heads_told ds)) (ap (λ g. least (types_refused g ds)) (sym is) ∙ refused)

pub heads_refuse : (ds : List Decl) (f : File) (ts : List TypeDecl) (x : Refusal) → f ≡ file_of ds → least (names_refused ds) ≡ None
    → ts ≡ core_types f ds → least (types_refused f ds) ≡ None → least (heads_refused f ts ds) ≡ Some x → names_told ds ≡ Err x
heads_refuse ds f ts x is named made typed refused =
    past_names ds named ∙ past_types ds f is typed ∙ ap (λ o. unless o (Ok (kinds_of ds))) (same_heads ds f ts is made ∙ refused)

-- nor do those on heads
past_heads : (ds : List Decl) (f : File) (ts : List TypeDecl) → f ≡ file_of ds → ts ≡ core_types f ds → least (heads_refused f ts ds) ≡ None → heads_told ds ≡ Ok (kinds_of ds)
past_heads ds f ts is made bound = ap (λ o. unless o (Ok (kinds_of ds))) (same_heads ds f ts is made ∙ bound)

pub same_kinds : (ds : List Decl) (f : File) (ts : List TypeDecl) (hs : List Func) → f ≡ file_of ds → ts ≡ core_types f ds → hs ≡ core_heads f ds
    → kinds_of ds ≡ record { file = f; types = ts; heads = hs }
same_kinds ds f ts hs is made headed =
    ap (λ g. record { file = g; types = core_types g ds; heads = core_heads g ds }) (sym is)
    ∙ ap (λ us. record { file = f; types = us; heads = core_heads f ds }) (sym made)
    ∙ ap (λ gs. record { file = f; types = ts; heads = gs }) (sym headed)

pub nothing_refuses : (ds : List Decl) (f : File) (ts : List TypeDecl) (hs : List Func) → f ≡ file_of ds → least (names_refused ds) ≡ None
    → ts ≡ core_types f ds → least (types_refused f ds) ≡ None → hs ≡ core_heads f ds → least (heads_refused f ts ds) ≡ None
    → names_told ds ≡ Ok (record { file = f; types = ts; heads = hs })
nothing_refuses ds f ts hs is named made typed headed bound =
    past_names ds named ∙ past_types ds f is typed ∙ past_heads ds f ts is made bound
    ∙ ap Ok (same_kinds ds f ts hs is made headed)
