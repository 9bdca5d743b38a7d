-- The keys of a head: where each stands, and which type its object has.
use Rattle.std.specs.Prelude.{ℕ, Bool, true, false, ◌||◌, if◌then◌else◌, List, [], ◌∷◌, length, Option, Some, None, unwrap_or}
use Rattle.std.specs.Map.{lookup}
use Rattle.std.specs.Str.{bytes_eq}
use Rattle.indexmap.specs.IndexMap.{insert_entry}
use Rattle.vlt_syntax.specs.Tree.{Entry, Head}
use Rattle.vlt_kinds_types.specs.declared.shapes.Wanted.{Wanted}
use Rattle.vlt_kinds_types.specs.declared.shapes.Wanted.TheVariants as wanted
use Rattle.vlt_kinds_types.specs.Files.{File}
use Rattle.vlt_kinds_types.specs.Types.{KeyUse}
use Rattle.vlt_kinds_heads.specs.Places.{result_uses, parameter_uses, clause_in, entry_key, is_fresh}
use Rattle.vlt_kinds_heads.specs.declared.facts.Facts.{Facts}
use Rattle.vlt_kinds_heads.specs.declared.facts.Typing.{Typing}

-- each key with what is known of it, numbered by its first place in the text
abbrev pub Keys : Type 0
Keys = List (List ℕ × Facts)

-- a key that is new as the one of this number
abbrev pub no_facts : ℕ → Facts
no_facts number = record {
  number = number;
  in_result = false;
  in_result_again = false;
  is_result_key = false;
  in_parameters = false;
  is_tracked_parameter = false;
  is_left_open = false;
  in_clause = false;
  in_clause_again = false;
  is_fresh = false;
  typing = None;
}

abbrev pub facts_of : Keys → List ℕ → Facts
facts_of keys k = unwrap_or (lookup (bytes_eq k) keys) (no_facts (length keys))

abbrev pub with_facts : Keys → List ℕ → Facts → Keys
with_facts keys k f = insert_entry bytes_eq keys k f

-- ---- what a place tells of its key

abbrev pub is_unknown : Wanted → Bool
is_unknown wanted.Unknown = true
is_unknown _ = false

abbrev pub with_result : KeyUse → Facts → Facts
with_result u f = record f {
  in_result = true;
  in_result_again = f.in_result;
  is_result_key = f.is_result_key || u.tracked;
}

-- An unknown name leaves open of which type the key's object is.
abbrev pub with_parameter : KeyUse → Facts → Facts
with_parameter u f = record f {
  in_parameters = true;
  is_tracked_parameter = f.is_tracked_parameter || u.tracked;
  is_left_open = f.is_left_open || is_unknown u.wanted;
}

abbrev pub with_entry : Entry → Facts → Facts
with_entry e f = record f {
  in_clause = true;
  in_clause_again = f.in_clause;
  is_fresh = f.is_fresh || is_fresh e;
}

abbrev pub note : Keys → List ℕ → (Facts → Facts) → Keys
note keys k change = with_facts keys k (change (facts_of keys k))

abbrev pub following_result : Keys → List KeyUse → Keys
following_result keys [] = keys
following_result keys (u ∷ us) = following_result (note keys u.key (with_result u)) us

abbrev pub after_parameters : Keys → List KeyUse → Keys
after_parameters keys [] = keys
after_parameters keys (u ∷ us) = after_parameters (note keys u.key (with_parameter u)) us

abbrev pub following_entry : Keys → Entry → Keys
following_entry keys e = note keys (entry_key e).text (with_entry e)

abbrev pub following_clause : Keys → List Entry → Keys
following_clause keys [] = keys
following_clause keys (e ∷ es) = following_clause (following_entry keys e) es

-- where each key stands, of a head with these keys in its result and its parameters and with this clause
unfoldable pub places_after : (results parameters : List KeyUse) → List Entry → Keys
places_after rs ps es = following_clause (after_parameters (following_result [] rs) ps) es

-- ---- the types of keys

-- The type of a key's object is what the first place says that gives one.
abbrev pub typed_first : Option Typing → (type at : ℕ) → Option Typing
typed_first (Some had) t at = Some had
typed_first None t at = Some (record { type_id = t; at = at })

abbrev pub with_typing : (type at : ℕ) → Facts → Facts
with_typing t at f = record f { typing = typed_first f.typing t at }

-- a place that says of which type its key's object is
abbrev pub after_typing : Keys → Wanted → List ℕ → ℕ → Keys
after_typing keys (wanted.OfType t) k at = note keys k (with_typing t at)
after_typing keys _ k at = keys

abbrev pub after_use : Keys → KeyUse → Keys
after_use keys u = after_typing keys u.wanted u.key u.at

-- In the result only the `tracked(K)` of a `new` key gives one.
abbrev pub gives_type : Keys → KeyUse → Bool
gives_type keys u = if u.tracked then (facts_of keys u.key).is_fresh else false

abbrev pub after_fresh : Keys → KeyUse → Keys
after_fresh keys u = if gives_type keys u then after_use keys u else keys

abbrev pub fresh_typed : Keys → List KeyUse → Keys
fresh_typed keys [] = keys
fresh_typed keys (u ∷ us) = fresh_typed (after_fresh keys u) us

-- the places of the parameters, one after another
abbrev pub parameters_typed : Keys → List KeyUse → Keys
parameters_typed keys [] = keys
parameters_typed keys (u ∷ us) = parameters_typed (after_use keys u) us

-- the keys with their types
unfoldable pub typed_keys : (places : Keys) → (results parameters : List KeyUse) → Keys
typed_keys places rs ps = parameters_typed (fresh_typed places rs) ps

unfoldable pub keys_after : (results parameters : List KeyUse) → List Entry → Keys
keys_after rs ps es = typed_keys (places_after rs ps es) rs ps

-- the keys of a head: where each stands, and the type of its object
abbrev pub keys_of : File → Head → Keys
keys_of file h = keys_after (result_uses file h.result_type) (parameter_uses file h.parameters) (clause_in h.clause)
