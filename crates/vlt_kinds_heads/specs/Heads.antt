-- Phase C, the rules on heads: what each of them refuses, and where.
use Rattle.std.specs.Prelude.{ℕ, Bool, true, false, not, ◌&&◌, ◌||◌, ◌==◌, List, [], ◌∷◌, ◌++◌, Option, Some, None, is_some, unwrap_or, codes}
use Rattle.std.specs.Map.{lookup}
use Rattle.std.specs.Str.{bytes_eq}
use Rattle.indexmap.specs.IndexMap.{insert_entry}
use Rattle.vlt_syntax.specs.Tree as s
use Rattle.vlt_syntax.specs.Tree.{Name, States, Entry, ResultType, Parameter, Head}
use Rattle.vlt_core.specs.declared.rules.TheConstants as rule
use Rattle.vlt_kinds_types.specs.declared.names.found.Refusal.{Refusal}
use Rattle.vlt_kinds_types.specs.Names.Refusals.{refuse_if, of_each}
use Rattle.vlt_kinds_types.specs.Names.Globals.{Globals, is_global}
use Rattle.vlt_kinds_types.specs.declared.shapes.Wanted.{Wanted}
use Rattle.vlt_kinds_types.specs.declared.shapes.Wanted.TheVariants as wanted
use Rattle.vlt_kinds_types.specs.Files.{File, shape_at}
use Rattle.vlt_kinds_types.specs.Types.{KeyUse, ty_refused, owned_states_refused}
use Rattle.vlt_kinds_heads.specs.Places.{result_uses, parameter_uses, clause_in, entry_key, is_fresh, first_states, second_states, HeadName, head_names}
use Rattle.vlt_kinds_heads.specs.Keys.{Keys, facts_of, following_entry, after_parameters, following_result, after_use, fresh_typed, places_after, keys_after}
use Rattle.vlt_kinds_heads.specs.Bounds.{variables_refused}
use Rattle.vlt_kinds_types.specs.Names.Along.{along}
use Rattle.vlt_kinds_heads.specs.declared.facts.Facts.{Facts}
use Rattle.vlt_kinds_heads.specs.declared.facts.Typing.{Typing}

-- ---- 7, 8, 10 to 13 in the types of a head

abbrev pub result_type_refused : File → ResultType → List Refusal
result_type_refused file (s.void at) = []
result_type_refused file (s.value t) = ty_refused file t

abbrev pub parameter_refused : File → Parameter → List Refusal
parameter_refused file p = ty_refused file p.ty

-- ---- 19: a name is repeated, or is a global name; keys may recur as keys

-- the names so far, each with whether it stands for keys alone
abbrev pub Seen : Type 0
Seen = List (List ℕ × Bool)

abbrev pub only_keys : Seen → HeadName → Bool
only_keys seen n = unwrap_or (lookup (bytes_eq n.text) seen) true && n.is_key

abbrev pub is_repeated : Seen → HeadName → Bool
is_repeated seen n = is_some (lookup (bytes_eq n.text) seen) && not (only_keys seen n)

abbrev pub with_name : Seen → HeadName → Seen
with_name seen n = insert_entry bytes_eq seen n.text (only_keys seen n)

unfoldable pub name_refused : Globals → Seen → HeadName → List Refusal
name_refused known seen n = refuse_if (is_repeated seen n || is_global known n.text) rule.HEAD_NAME n.at

abbrev pub names_refused : Globals → List HeadName → List Refusal
names_refused known = along with_name (name_refused known) []

-- ---- 21: a clause names a key twice

unfoldable pub again_refused : Keys → Entry → List Refusal
again_refused keys e =
    refuse_if (facts_of keys (entry_key e).text).in_clause rule.CLAUSE_KEY_AGAIN (entry_key e).at.from

-- the entries one after another, after the keys of result and parameters
abbrev pub entries_again : Keys → List Entry → List Refusal
entries_again = along following_entry again_refused

-- ---- 18, 20: a place that wants an object of a type

abbrev pub type_rule : (is_tracked : Bool) → ℕ
type_rule true = rule.TWO_KEY_TYPES
type_rule false = rule.KEY_ARGUMENT

-- in a parameter, against the places before it
abbrev pub clash_with : Option Typing → Wanted → (is_tracked : Bool) → ℕ → List Refusal
clash_with (Some had) (wanted.OfType t) is_tracked at = refuse_if (not (had.type_id == t)) (type_rule is_tracked) at
clash_with _ _ is_tracked at = []

unfoldable pub clash : Keys → KeyUse → List Refusal
clash keys u = clash_with (facts_of keys u.key).typing u.wanted u.tracked u.at

abbrev pub clashes : Keys → List KeyUse → List Refusal
clashes = along after_use clash

-- In the result, against all places that give a type. A key of the parameters, or a `new` key, that has none can't be given
-- one here. Where a `tracked(K)` of the result disagrees, the second of both places is the one of the parameters.
abbrev pub is_bound : Facts → Bool
is_bound f = (f.in_parameters || f.is_fresh) && not f.is_left_open

abbrev pub result_place : Typing → (is_tracked : Bool) → ℕ → ℕ
result_place had true at = had.at
result_place had false at = at

abbrev pub result_clash_with : Facts → Option Typing → Wanted → (is_tracked : Bool) → ℕ → List Refusal
result_clash_with f None (wanted.OfType t) is_tracked at = refuse_if (is_bound f) rule.KEY_ARGUMENT at
result_clash_with f (Some had) (wanted.OfType t) is_tracked at =
    refuse_if (not (had.type_id == t)) (type_rule is_tracked) (result_place had is_tracked at)
result_clash_with f _ _ is_tracked at = []

unfoldable pub result_clash : Keys → KeyUse → List Refusal
result_clash keys u =
    result_clash_with (facts_of keys u.key) (facts_of keys u.key).typing u.wanted u.tracked u.at

-- ---- 23: the keys of the result

-- A `new` key is just the key of a `tracked(K)` result. Of two `new` keys one isn't.
abbrev pub is_fresh_result : Facts → Bool
is_fresh_result f =
    f.is_result_key && not f.in_result_again && not f.in_parameters && not f.in_clause_again

-- another key stands in a parameter
unfoldable pub result_key_refused : Keys → KeyUse → List Refusal
result_key_refused keys u =
    refuse_if (not ((facts_of keys u.key).is_fresh || (facts_of keys u.key).in_parameters)) rule.RESULT_KEY u.at

-- ---- 22, 23, 24, 13: an entry of a clause

abbrev pub entry_key_refused : Facts → (is_fresh : Bool) → ℕ → List Refusal
entry_key_refused f true at = refuse_if (not (is_fresh_result f)) rule.RESULT_KEY at
entry_key_refused f false at = refuse_if (not f.in_parameters) rule.CLAUSE_KEY_UNBOUND at

abbrev pub first_name : States → ℕ
first_name (s.one n) = n.at.from
first_name (s.several [] at) = at.from
first_name (s.several (n ∷ ns) at) = n.at.from

-- states on a key, whose object is of this type
abbrev pub key_states_refused : File → Facts → Option Typing → Option States → List Refusal
key_states_refused file f typing None = []
key_states_refused file f None (Some ss) = refuse_if (not f.is_left_open) rule.STATES_UNTYPED (first_name ss)
key_states_refused file f (Some had) (Some ss) = owned_states_refused file (shape_at file had.type_id) (Some ss)

unfoldable pub entry_states_refused : File → Facts → Entry → List Refusal
entry_states_refused file f e =
    key_states_refused file f f.typing (first_states e) ++ key_states_refused file f f.typing (second_states e)

unfoldable pub entry_refused : File → Keys → Entry → List Refusal
entry_refused file keys e =
    entry_key_refused (facts_of keys (entry_key e).text) (is_fresh e) (entry_key e).at.from
    ++ entry_states_refused file (facts_of keys (entry_key e).text) e

-- ---- 26: the head of `main`

abbrev pub is_void : ResultType → Bool
is_void (s.void at) = true
is_void (s.value t) = false

abbrev pub is_tracked_result : ResultType → Name → Bool
is_tracked_result (s.value (s.tracked k n at)) j = bytes_eq j.text k.text
is_tracked_result _ j = false

-- neither a result nor a clause, or `tracked(K) T` with just `new K`
abbrev pub is_main_clause : ResultType → List Entry → Bool
is_main_clause out [] = is_void out
is_main_clause out (s.fresh k at ∷ []) = is_tracked_result out k.key
is_main_clause out _ = false

abbrev pub has_none : {A : Type 0} → List A → Bool
has_none [] = true
has_none (x ∷ xs) = false

unfoldable pub main_refused : Head → List Refusal
main_refused h =
    refuse_if
    (bytes_eq h.name.text (codes "main")
    && not (has_none h.parameters && is_main_clause h.result_type (clause_in h.clause)))
    rule.MAIN_HEAD h.name.at.from

-- ---- a head

unfoldable pub types_refused : File → Head → List Refusal
types_refused file h = result_type_refused file h.result_type ++ of_each (parameter_refused file) h.parameters

unfoldable pub clause_again : (results parameters : List KeyUse) → List Entry → List Refusal
clause_again rs ps es = entries_again (after_parameters (following_result [] rs) ps) es

unfoldable pub typings_refused : (places : Keys) → (results parameters : List KeyUse) → List Refusal
typings_refused places rs ps = clashes (fresh_typed places rs) ps

unfoldable pub result_refused : Keys → (results : List KeyUse) → List Refusal
result_refused keys rs = of_each (result_clash keys) rs ++ of_each (result_key_refused keys) rs

-- with the keys in the result and in the parameters
unfoldable pub head_refused_by : File → Head → (results parameters : List KeyUse) → List Refusal
head_refused_by file h rs ps =
    types_refused file h
    ++ (names_refused file.globals (head_names file h)
    ++ (clause_again rs ps (clause_in h.clause)
    ++ (typings_refused (places_after rs ps (clause_in h.clause)) rs ps
    ++ (result_refused (keys_after rs ps (clause_in h.clause)) rs
    ++ (of_each (entry_refused file (keys_after rs ps (clause_in h.clause))) (clause_in h.clause)
    ++ (variables_refused file.globals (keys_after rs ps (clause_in h.clause)) h.parameters (clause_in h.clause)
    ++ main_refused h))))))

-- what the rules on heads refuse in one, the rule on externals aside
abbrev pub head_refused : File → Head → List Refusal
head_refused file h = head_refused_by file h (result_uses file h.result_type) (parameter_uses file h.parameters)
