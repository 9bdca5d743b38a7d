-- Rows of types and of functions, one after another.
use Rattle.std.proofs.Common.{◌≡◌, ◌<◌, ◌≤◌, ◌+◌, ℕ, List, ◌++◌, map, drop, length, get_or, sym, ap, ◌∙◌}
use Rattle.std.specs.List.{flat_map}
use Rattle.std.proofs.lemmas.List.{drop_all, map-append}
use Rattle.json.specs.Token.{Token}
use Rattle.vlt_core.specs.View.{type_of, func_of}
use Rattle.vlt_core.specs.declared.program.TypeDecl.{TypeDecl}
use Rattle.vlt_core.specs.declared.program.Func.{Func}
use Rattle.vlt_core.specs.declared.notes.Annotation.{Annotation}
use Rattle.cert_format.specs.Certificate.{type_rows}
use Rattle.cert_values.specs.Heads.{plain_data}
use Rattle.cert_values.specs.Laid.{each_laid}
use Rattle.cert_values.proofs.Each.{each_append}
use Rattle.cert_write.specs.Rows.{fn_data, first_annotations, fns_data, types_data}
use Rattle.cert_write.proofs.Each.{split_at}

abbrev pub TypesGoing : (ds : List TypeDecl) (old : List Token) (i : ℕ) (now : List Token) → Type 0
TypesGoing ds old i now = each_laid (types_data (map type_of (drop i ds))) now ≡ each_laid (types_data (map type_of ds)) old

pub types_more : (ds : List TypeDecl) (old : List Token) (i : ℕ) (now new : List Token) (d : TypeDecl) → i < length ds → d ≡ get_or ds i d → TypesGoing ds old i now →
    new ≡ each_laid (map plain_data (type_rows (type_of d))) now → TypesGoing ds old (i + 1) new
types_more ds old i now new d lt is g put =
    let rest = types_data (map type_of (drop (i + 1) ds)) in
    ap (each_laid rest) put ∙
    sym (each_append (map plain_data (type_rows (type_of d))) rest now) ∙
    ap (λ l. each_laid l now) (sym (map-append plain_data (type_rows (type_of d)) (flat_map type_rows (map type_of (drop (i + 1) ds))))) ∙
    ap (λ l. each_laid (types_data (map type_of l)) now) (sym (split_at ds i d lt is)) ∙ g

pub types_end : (ds : List TypeDecl) (old : List Token) (i : ℕ) (now : List Token) → length ds ≤ i → TypesGoing ds old i now → now ≡ each_laid (types_data (map type_of ds)) old
types_end ds old i now past g = ap (λ l. each_laid (types_data (map type_of l)) now) (sym (drop_all i ds past)) ∙ g

module _ (fns : List Func) (all : List (List Annotation)) (old : List Token) where
  abbrev pub FnsGoing : (i : ℕ) (left : List (List Annotation)) (now : List Token) → Type 0
  FnsGoing i left now = each_laid (fns_data (map func_of (drop i fns)) left) now ≡ each_laid (fns_data (map func_of fns) all) old

  pub fns_more : (i : ℕ) (left rest : List (List Annotation)) (annotations : List Annotation) (now new : List Token) (f : Func) → i < length fns → f ≡ get_or fns i f →
      annotations ≡ first_annotations left → rest ≡ drop 1 left → FnsGoing i left now →
      new ≡ each_laid (fn_data (func_of f) annotations) now → FnsGoing (i + 1) rest new
  fns_more i left rest annotations now new f lt is one others g put =
      let more = fns_data (map func_of (drop (i + 1) fns)) in
      ap (each_laid (more rest)) put ∙
      sym (each_append (fn_data (func_of f) annotations) (more rest) now) ∙
      ap (λ x. each_laid (fn_data (func_of f) x ++ more rest) now) one ∙
      ap (λ x. each_laid (fn_data (func_of f) (first_annotations left) ++ more x) now) others ∙
      ap (λ l. each_laid (fns_data (map func_of l) left) now) (sym (split_at fns i f lt is)) ∙ g

  pub fns_end : (i : ℕ) (left : List (List Annotation)) (now : List Token) → length fns ≤ i → FnsGoing i left now → now ≡ each_laid (fns_data (map func_of fns) all) old
  fns_end i left now past g = ap (λ l. each_laid (fns_data (map func_of l) left) now) (sym (drop_all i fns past)) ∙ g
