-- The keys of a head have names of the text.
use Rattle.std.proofs.Common.{◌==◌, ℕ, Bool, true, false, if◌then◌else◌, List, [], ◌∷◌, ◌++◌, map, length, Option, Some, None, IsUtf8}
use Rattle.std.specs.Str.{bytes_eq}
use Rattle.indexmap.specs.IndexMap.{insert_entry}
use Rattle.vlt_syntax.specs.Tokens.{Token}
use Rattle.vlt_syntax.specs.Tree as s
use Rattle.vlt_syntax.specs.Tree.{Name, Named, Entry, ResultType, Parameter, Head}
use Rattle.vlt_syntax.specs.Lists.{Each}
use Rattle.vlt_syntax.specs.Spelling.{name_then, named_then, ty_then, entry_then, result_type_then, parameter_then, clause_then, head_then}
use Rattle.vlt_syntax_laws.proofs.Tokenwise.{Spells, each_listed, each_enclosed, after_name, after_listed, after_ty, after_entry, after_result_type, after_parameter}
use Rattle.vlt_kinds_types.specs.declared.shapes.Wanted.{Wanted}
use Rattle.vlt_kinds_types.specs.declared.shapes.Wanted.TheVariants as wanted
use Rattle.vlt_kinds_types.specs.declared.shapes.Shape.{Shape}
use Rattle.vlt_kinds_types.specs.Files.{File, shape_named}
use Rattle.vlt_kinds_types.specs.Types.{KeyUse, key_use, argument_uses, header_uses, named_uses, ty_uses}
use Rattle.vlt_kinds_heads.specs.declared.facts.Facts.{Facts}
use Rattle.vlt_kinds_heads.specs.Places.{result_uses, parameter_uses, clause_in, entry_key}
use Rattle.vlt_kinds_heads.specs.Keys.{Keys, facts_of, note, with_result, with_parameter, with_entry, with_typing, following_result, after_parameters, following_entry, following_clause, places_after, after_typing, after_use, gives_type, after_fresh, fresh_typed, parameters_typed, typed_keys, keys_after, keys_of}
use Rattle.cert_rows.specs.Parts.{All}
use Rattle.cert_text_laws.proofs.OfJsonNames.Characters.{HasText}

-- ---- names and uses

abbrev pub IsNamed : Name → Type 0
IsNamed n = IsUtf8 n.text

pub names_named : (ns : List Name) → Each (Spells HasText name_then) ns → All IsNamed ns
names_named [] h = tt
names_named (n ∷ ns) h = (h.0.1.0, names_named ns h.1)

abbrev IsUsed : KeyUse → Type 0
IsUsed u = IsUtf8 u.key

pub all_more : {A : Type 0} (P : A → Type 0) (xs ys : List A) → All P xs → All P ys → All P (xs ++ ys)
all_more P [] ys h k = k
all_more P (x ∷ xs) ys h k = (h.0, all_more P xs ys h.1 k)

open_used : (ks : List Name) → All IsNamed ks → All IsUsed (map (key_use wanted.Unknown) ks)
open_used [] h = tt
open_used (k ∷ ks) h = (h.0, open_used ks h.1)

arguments_used : (ws : List Wanted) (ks : List Name) → All IsNamed ks → All IsUsed (argument_uses ws ks)
arguments_used [] ks h = tt
arguments_used (w ∷ ws) [] h = tt
arguments_used (w ∷ ws) (k ∷ ks) h = (h.0, arguments_used ws ks h.1)

header_used : (shape : Option Shape) (ks : List Name) → All IsNamed ks → All IsUsed (header_uses shape ks)
header_used None ks h = open_used ks h
header_used (Some shape) ks h = by (length shape.header == length ks)
  where
    by : (b : Bool) → All IsUsed (if b then argument_uses shape.header ks else map (key_use wanted.Unknown) ks)
    by true = arguments_used shape.header ks h
    by false = open_used ks h

named_used : (file : File) (n : Named) (rest : List Token) → Each HasText (named_then n rest) → All IsUsed (named_uses file n)
unfolding named_uses
named_used file n rest h =
    header_used (shape_named file n.name) n.keys
    (names_named n.keys (each_enclosed HasText name_then (after_name HasText) _ _ n.keys rest h.1))

ty_used : (file : File) (t : s.Ty) (rest : List Token) → Each HasText (ty_then t rest) → All IsUsed (ty_uses file t)
ty_used file (s.int at) rest h = tt
ty_used file (s.bool at) rest h = tt
ty_used file (s.tracked k n at) rest h = (h.1.1.0, named_used file n rest h.1.1.1.1)
ty_used file (s.owning None n at) rest h = named_used file n rest h.1
ty_used file (s.owning (Some (s.one x)) n at) rest h = named_used file n rest h.1.1.1
ty_used file (s.owning (Some (s.several xs place)) n at) rest h =
    named_used file n rest (after_listed HasText name_then (after_name HasText) _ xs _ h.1.1.1)
ty_used file (s.guarded k n) rest h = (h.0, named_used file n rest h.1.1)
ty_used file (s.plain n) rest h = named_used file n rest h

result_used : (file : File) (r : ResultType) (rest : List Token) → Each HasText (result_type_then r rest) → All IsUsed (result_uses file r)
result_used file (s.void at) rest h = tt
result_used file (s.value t) rest h = ty_used file t rest h

parameters_used : (file : File) (ps : List Parameter) → Each (Spells HasText parameter_then) ps → All IsUsed (parameter_uses file ps)
parameters_used file [] h = tt
parameters_used file (p ∷ ps) h =
    all_more IsUsed (ty_uses file p.ty) (parameter_uses file ps) (ty_used file p.ty _ h.0.1) (parameters_used file ps h.1)

abbrev IsEntered : Entry → Type 0
IsEntered e = IsNamed (entry_key e)

entry_named : (e : Entry) (rest : List Token) → Each HasText (entry_then e rest) → IsEntered e
entry_named (s.held k) rest h = h.0
entry_named (s.changed k a b) rest h = h.0
entry_named (s.bound k v b) rest h = h.0
entry_named (s.taken k at) rest h = h.1.0
entry_named (s.given k at) rest h = h.1.0
entry_named (s.fresh k at) rest h = h.1.0

entries_named : (es : List Entry) → Each (Spells HasText entry_then) es → All IsEntered es
entries_named [] h = tt
entries_named (e ∷ es) h = (entry_named e _ h.0.1, entries_named es h.1)

clause_named : (c : Option (List Entry)) (rest : List Token) → Each HasText (clause_then c rest) → All IsEntered (clause_in c)
clause_named None rest h = tt
clause_named (Some es) rest h = entries_named es (each_listed HasText entry_then (after_entry HasText) _ es rest h.1)

-- ---- keys

abbrev pub IsKeyed : List ℕ × Facts → Type 0
IsKeyed e = IsUtf8 e.0

entry_kept : (keys : Keys) (k : List ℕ) (f : Facts) → IsUtf8 k → All IsKeyed keys → All IsKeyed (insert_entry bytes_eq keys k f)
entry_kept [] k f named h = (named, tt)
entry_kept (e ∷ keys) k f named h = by (bytes_eq k e.0) (entry_kept keys k f named h.1)
  where
    by : (b : Bool) → All IsKeyed (insert_entry bytes_eq keys k f) →
        All IsKeyed (if b then (e.0, f) ∷ keys else e ∷ insert_entry bytes_eq keys k f)
    by true more = h
    by false more = (h.0, more)

note_kept : (keys : Keys) (k : List ℕ) (change : Facts → Facts) → IsUtf8 k → All IsKeyed keys → All IsKeyed (note keys k change)
note_kept keys k change named h = entry_kept keys k (change (facts_of keys k)) named h

result_kept : (keys : Keys) (us : List KeyUse) → All IsUsed us → All IsKeyed keys → All IsKeyed (following_result keys us)
result_kept keys [] used h = h
result_kept keys (u ∷ us) used h =
    result_kept (note keys u.key (with_result u)) us used.1 (note_kept keys u.key (with_result u) used.0 h)

parameters_kept : (keys : Keys) (us : List KeyUse) → All IsUsed us → All IsKeyed keys → All IsKeyed (after_parameters keys us)
parameters_kept keys [] used h = h
parameters_kept keys (u ∷ us) used h =
    parameters_kept (note keys u.key (with_parameter u)) us used.1 (note_kept keys u.key (with_parameter u) used.0 h)

clause_kept : (keys : Keys) (es : List Entry) → All IsEntered es → All IsKeyed keys → All IsKeyed (following_clause keys es)
clause_kept keys [] named h = h
clause_kept keys (e ∷ es) named h =
    clause_kept (following_entry keys e) es named.1 (note_kept keys (entry_key e).text (with_entry e) named.0 h)

typing_kept : (keys : Keys) (w : Wanted) (k : List ℕ) (at : ℕ) → IsUtf8 k → All IsKeyed keys → All IsKeyed (after_typing keys w k at)
typing_kept keys wanted.Any k at named h = h
typing_kept keys wanted.Unknown k at named h = h
typing_kept keys (wanted.OfType t) k at named h = note_kept keys k (with_typing t at) named h

use_kept : (keys : Keys) (u : KeyUse) → IsUsed u → All IsKeyed keys → All IsKeyed (after_use keys u)
use_kept keys u used h = typing_kept keys u.wanted u.key u.at used h

fresh_kept : (keys : Keys) (us : List KeyUse) → All IsUsed us → All IsKeyed keys → All IsKeyed (fresh_typed keys us)
fresh_kept keys [] used h = h
fresh_kept keys (u ∷ us) used h = fresh_kept (after_fresh keys u) us used.1 (by (gives_type keys u))
  where
    by : (b : Bool) → All IsKeyed (if b then after_use keys u else keys)
    by true = use_kept keys u used.0 h
    by false = h

typed_kept : (keys : Keys) (us : List KeyUse) → All IsUsed us → All IsKeyed keys → All IsKeyed (parameters_typed keys us)
typed_kept keys [] used h = h
typed_kept keys (u ∷ us) used h = typed_kept (after_use keys u) us used.1 (use_kept keys u used.0 h)

after_kept : (rs ps : List KeyUse) (es : List Entry) → All IsUsed rs → All IsUsed ps → All IsEntered es → All IsKeyed (keys_after rs ps es)
unfolding keys_after typed_keys places_after
after_kept rs ps es r p named =
    let result = result_kept [] rs r tt in
    let parameters = parameters_kept (following_result [] rs) ps p result in
    let places = clause_kept (after_parameters (following_result [] rs) ps) es named parameters in
    let fresh = fresh_kept (following_clause (after_parameters (following_result [] rs) ps) es) rs r places in
    typed_kept (fresh_typed (following_clause (after_parameters (following_result [] rs) ps) es) rs) ps p fresh

-- ---- heads

-- a head's name, and the names of its parameters, are the text's
pub record IsHeadNamed (file : File) (h : Head) : Type 0 where
  pub name : IsNamed h.name
  pub parameters : All (λ p. IsNamed p.name) h.parameters
  pub keys : All IsKeyed (keys_of file h)

parameters_named : (ps : List Parameter) → Each (Spells HasText parameter_then) ps → All (λ p. IsNamed p.name) ps
parameters_named [] h = tt
parameters_named (p ∷ ps) h = ((after_ty HasText p.ty _ h.0.1).0, parameters_named ps h.1)

pub head_named : (file : File) (x : Head) (rest : List Token) → Each HasText (head_then x rest) → IsHeadNamed file x
head_named file x rest h =
    let following = after_result_type HasText x.result_type _ h in
    let parameters = each_listed HasText parameter_then (after_parameter HasText) _ x.parameters _ following.1.1 in
    let clause = after_listed HasText parameter_then (after_parameter HasText) _ x.parameters _ following.1.1 in
    record {
      name = following.0;
      parameters = parameters_named x.parameters parameters;
      keys = after_kept (result_uses file x.result_type) (parameter_uses file x.parameters) (clause_in x.clause)
          (result_used file x.result_type _ h) (parameters_used file x.parameters parameters) (clause_named x.clause rest clause);
    }
