-- The names of an elaborated program are those of its text, or none.
use Rattle.std.specs.List.{list_any}
use Rattle.std.specs.Str.{bytes_eq}
use Rattle.std.proofs.Common.{◌≡◌, ℕ, Bool, true, false, if◌then◌else◌, List, [], ◌∷◌, ◌++◌, map, Option, Ok, IsUtf8, refl, sym, ap, ◌∙◌, subst}
use Rattle.vlt_syntax.specs.Tokens.{Token}
use Rattle.vlt_syntax.specs.Tree as s
use Rattle.vlt_syntax.specs.Tree.{SetState, HeaderKey, Field, Case, Parameter, Head, Block, Decl, Tree}
use Rattle.vlt_syntax.specs.Lists.{Each, each_then}
use Rattle.vlt_syntax.specs.Spelling.{further_states_then, set_states_then, field_then, case_then, block_then, decl_then, spelling}
use Rattle.vlt_syntax_laws.proofs.Tokenwise.{Spells, each_listed, after_marked_name, after_ty, after_field, after_header, after_case, after_head, after_decl}
use Rattle.vlt_core.specs.Core as core
use Rattle.vlt_core.specs.Core.{Func, Program}
use Rattle.vlt_kinds_types.specs.Names.Refusals.{of_each, least}
use Rattle.vlt_kinds_types.specs.Files.{File, with_text, texts_after, state_texts, sets_in, file_of, state_names, shape_named}
use Rattle.vlt_kinds_decls.specs.Made.{core_field, core_struct, core_case, core_variant, core_types_in, core_types}
use Rattle.vlt_kinds_heads.specs.Keys.{Keys, keys_of}
use Rattle.vlt_kinds_heads.specs.Phase.{key_decl, core_parameter, core_head, core_heads_in}
use Rattle.vlt_kinds_types.specs.Kinds.{Kinds}
use Rattle.vlt_kinds.specs.Tables.{kinds_of}
use Rattle.vlt_elaboration.specs.Walk.{then_do, walk_stmts}
use Rattle.vlt_elaboration.specs.Elaboration as elab
use Rattle.vlt_elaboration.specs.Elaboration.{body_scope, body_around, nameless_scope, end_refused, func_made, walk_body, is_function, walk_function, walk_decls}
use Rattle.vlt_resolve_laws.specs.Elaborated.{IsElaborated}
use Rattle.vlt_resolve_laws.proofs.Results.{same_ok, then_ok, unless_ok}
use Rattle.vlt_resolve_laws.proofs.Made.{told, all_walked}
use Rattle.cert_rows.specs.Parts.{All}
use Rattle.cert_values.specs.Declarations.Names.{HasTextSet, HasTextType, HasTextFunc, HasTextNames}
use Rattle.cert_text_laws.specs.Texts.{IsInText}
use Rattle.cert_text_laws.proofs.InTexts.{each_has}
use Rattle.cert_text_laws.proofs.OfJsonNames.Characters.{HasText, texts_have_text}
use Rattle.cert_text_laws.proofs.OfJsonNames.Uses.{IsNamed, all_more, IsKeyed, IsHeadNamed, head_named}
use Rattle.cert_text_laws.proofs.OfJsonNames.Scopes.{HasTextKey, HasTextVar, HasTextScope, begun_text, stmts_text}

-- ---- state sets

with_named : (known : List (List ℕ)) (text : List ℕ) → All IsUtf8 known → IsUtf8 text → All IsUtf8 (with_text known text)
with_named known text named h = by (list_any (bytes_eq text) known)
  where
    by : (b : Bool) → All IsUtf8 (if b then known else known ++ text ∷ [])
    by true = named
    by false = all_more IsUtf8 known (text ∷ []) named (h, tt)

further_text : (known : List (List ℕ)) (xs : List SetState) (rest : List Token) → All IsUtf8 known → Each HasText (further_states_then xs rest) →
    All IsUtf8 (texts_after known xs)
further_text known [] rest named h = named
further_text known (x ∷ xs) rest named h =
    further_text (with_text known x.name.text) xs rest (with_named known x.name.text named h.1.0) h.1.1

states_text : (xs : List SetState) (rest : List Token) → Each HasText (set_states_then xs rest) → All IsUtf8 (state_texts xs)
states_text [] rest h = tt
states_text (x ∷ xs) rest h = further_text (with_text [] x.name.text) xs rest (with_named [] x.name.text tt h.0) h.1

set_text : (d : Decl) (rest : List Token) → Each HasText (decl_then d rest) → All HasTextSet (sets_in d)
set_text (s.stateset n ss at) rest h =
    ((h.1.0, states_text ss rest h.1.1.1), tt)
set_text (s.abstract n ss at) rest h = tt
set_text (s.struct n ps ss fs r at) rest h = tt
set_text (s.variant n ps cs at) rest h = tt
set_text (s.extern x at) rest h = tt
set_text (s.function x b at) rest h = tt

sets_text : (ds : List Decl) (rest : List Token) → Each HasText (each_then decl_then ds rest) → All HasTextSet (of_each sets_in ds)
sets_text [] rest h = tt
sets_text (d ∷ ds) rest h =
    all_more HasTextSet (sets_in d) (of_each sets_in ds) (set_text d _ h) (sets_text ds rest (after_decl HasText d _ h))

-- ---- types

fields_text : (file : File) (ps : List HeaderKey) (known : Option (List (List ℕ))) (fs : List Field) (rest : List Token) →
    Each HasText (each_then field_then fs rest) → All (λ f. IsUtf8 f.name) (map (core_field file ps known) fs)
unfolding core_field
fields_text file ps known [] rest h = tt
fields_text file ps known (f ∷ fs) rest h =
    ((after_ty HasText f.ty _ h).0, fields_text file ps known fs rest (after_field HasText f _ h))

cases_text : (file : File) (ps : List HeaderKey) (cs : List Case) → Each (Spells HasText case_then) cs →
    All (λ c. IsUtf8 c.name) (map (core_case file ps) cs)
unfolding core_case
cases_text file ps [] h = tt
cases_text file ps (c ∷ cs) h = (h.0.1.0, cases_text file ps cs h.1)

type_text : (file : File) (d : Decl) (rest : List Token) → Each HasText (decl_then d rest) → All HasTextType (core_types_in file d)
unfolding core_struct core_variant
type_text file (s.stateset n ss at) rest h = tt
type_text file (s.abstract n ss at) rest h = (h.1.0, tt)
type_text file (s.struct n ps ss fs r at) rest h =
    let fields = (after_marked_name HasText _ ss _ (after_header HasText ps _ h.1.1)).1 in
    ((h.1.0, fields_text file ps (state_names file (shape_named file n)) fs _ fields), tt)
type_text file (s.variant n ps cs at) rest h =
    let cases = (after_header HasText ps _ h.1.1).1 in
    ((h.1.0, cases_text file ps cs (each_listed HasText case_then (after_case HasText) _ cs rest cases)), tt)
type_text file (s.extern x at) rest h = tt
type_text file (s.function x b at) rest h = tt

types_text : (file : File) (ds : List Decl) (rest : List Token) → Each HasText (each_then decl_then ds rest) → All HasTextType (core_types file ds)
types_text file [] rest h = tt
types_text file (d ∷ ds) rest h =
    all_more HasTextType (core_types_in file d) (core_types file ds) (type_text file d _ h) (types_text file ds rest (after_decl HasText d _ h))

-- ---- heads

keys_text : (keys : Keys) → All IsKeyed keys → All HasTextKey (map key_decl keys)
keys_text [] h = tt
keys_text (e ∷ keys) h = (h.0, keys_text keys h.1)

parameters_text : (file : File) (keys : Keys) (ps : List Parameter) → All (λ p. IsNamed p.name) ps → All HasTextVar (map (core_parameter file keys) ps)
parameters_text file keys [] h = tt
parameters_text file keys (p ∷ ps) h = (h.0, parameters_text file keys ps h.1)

head_text : (file : File) (external : Bool) (x : Head) → IsHeadNamed file x → HasTextFunc (core_head file external x (keys_of file x))
unfolding core_head
head_text file external x h =
    (h.name, keys_text (keys_of file x) h.keys, parameters_text file (keys_of file x) x.parameters h.parameters)

-- ---- functions

body_text : (kinds : Kinds) (h : Func) (b : Block) (f : Func) → HasTextFunc h → Spells HasText block_then b → walk_body kinds h b ≡ Ok f → HasTextFunc f
body_text kinds h (s.braced ss at) f named is e =
    let b = s.braced ss at in
    let y = then_ok (walk_stmts kinds (body_around h) (body_scope h) false ss) _ f e in
    let u = unless_ok (least (end_refused h b)) (Ok (func_made h b y.first)) f y.rest in
    let start : HasTextScope (nameless_scope h) = record { keys = named.1; vars = named.2 } in
    let last = stmts_text kinds (body_around h) (body_scope h) false ss y.first (_, is.1.1) (begun_text h start) y.one in
    subst HasTextFunc (same_ok (func_made h b y.first) f u.1) (named.0, last.keys, last.vars)

no_heads : (kinds : Kinds) (ds : List Decl) → walk_decls kinds [] ds ≡ Ok []
no_heads kinds [] = refl
no_heads kinds (d ∷ ds) = refl

skipped : (kinds : Kinds) (hs : List Func) (d : Decl) (ds : List Decl) → is_function d ≡ false → walk_decls kinds hs (d ∷ ds) ≡ walk_decls kinds hs ds
skipped kinds [] d ds e = sym (no_heads kinds ds)
skipped kinds (h ∷ hs) d ds e =
    ap (λ b. if b then then_do (walk_function kinds h d) (λ f. then_do (walk_decls kinds hs ds) (λ fs. Ok (f ∷ fs))) else walk_decls kinds (h ∷ hs) ds) e

module _ (kinds : Kinds) where
  functions_text : (ds : List Decl) (fs : List Func) (rest : List Token) → Each HasText (each_then decl_then ds rest) →
      walk_decls kinds (of_each (core_heads_in kinds.file) ds) ds ≡ Ok fs → All HasTextFunc fs
  functions_text [] fs rest is e = subst (All HasTextFunc) (same_ok [] fs e) tt
  functions_text (s.function x b at ∷ ds) fs rest is e =
      let h = core_head kinds.file false x (keys_of kinds.file x) in
      let hs = of_each (core_heads_in kinds.file) ds in
      let f = then_ok (walk_function kinds h (s.function x b at)) _ fs e in
      let more = then_ok (walk_decls kinds hs ds) _ fs f.rest in
      let w = unless_ok (least (elab.head_refused h at.from)) (walk_body kinds h b) f.first f.one in
      let named = head_text kinds.file false x (head_named kinds.file x _ is) in
      subst (All HasTextFunc) (same_ok (f.first ∷ more.first) fs more.rest) (
        body_text kinds h b f.first named (_, after_head HasText x _ is) w.1,
        functions_text ds more.first rest (after_decl HasText (s.function x b at) _ is) more.one,
      )
  functions_text (s.extern x at ∷ ds) fs rest is e =
      let h = core_head kinds.file true x (keys_of kinds.file x) in
      let hs = of_each (core_heads_in kinds.file) ds in
      let f = then_ok (walk_function kinds h (s.extern x at)) _ fs e in
      let more = then_ok (walk_decls kinds hs ds) _ fs f.rest in
      let w = unless_ok (least (elab.head_refused h at.from)) (Ok (record h { body = core.done })) f.first f.one in
      let named = head_text kinds.file true x (head_named kinds.file x _ is.1) in
      subst (All HasTextFunc) (same_ok (f.first ∷ more.first) fs more.rest) (
        subst HasTextFunc (same_ok (record h { body = core.done }) f.first w.1) named,
        functions_text ds more.first rest (after_decl HasText (s.extern x at) _ is) more.one,
      )
  functions_text (s.stateset n ss at ∷ ds) fs rest is e =
      functions_text ds fs rest (after_decl HasText (s.stateset n ss at) _ is)
      (sym (skipped kinds (of_each (core_heads_in kinds.file) ds) (s.stateset n ss at) ds refl) ∙ e)
  functions_text (s.abstract n ss at ∷ ds) fs rest is e =
      functions_text ds fs rest (after_decl HasText (s.abstract n ss at) _ is)
      (sym (skipped kinds (of_each (core_heads_in kinds.file) ds) (s.abstract n ss at) ds refl) ∙ e)
  functions_text (s.struct n ps ss xs r at ∷ ds) fs rest is e =
      functions_text ds fs rest (after_decl HasText (s.struct n ps ss xs r at) _ is)
      (sym (skipped kinds (of_each (core_heads_in kinds.file) ds) (s.struct n ps ss xs r at) ds refl) ∙ e)
  functions_text (s.variant n ps cs at ∷ ds) fs rest is e =
      functions_text ds fs rest (after_decl HasText (s.variant n ps cs at) _ is)
      (sym (skipped kinds (of_each (core_heads_in kinds.file) ds) (s.variant n ps cs at) ds refl) ∙ e)

-- ---- the program

pub text_named : (t : Tree) (kinds : Kinds) (p : Program) → Each IsInText (spelling t) → IsElaborated t kinds p → HasTextNames p
text_named t kinds p spelled e =
    let is = each_has HasText texts_have_text (spelling t) spelled in
    let w = all_walked t p (ap (elab.elaborated t) (told t.decls kinds e.told).same ∙ e.gives) in
    subst HasTextNames w.same (record {
      sets = sets_text t.decls [] is;
      types = types_text (file_of t.decls) t.decls [] is;
      fns = functions_text (kinds_of t.decls) t.decls w.fns [] is w.walked;
    })
