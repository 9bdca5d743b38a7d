-- The text of a value of arrays, strings and numbers below 10^19 is plain.
use Rattle.std.proofs.Common.{◌≡◌, ◌<◌, refl, sym, ap, subst, ℕ, List, [], ◌++◌, length, Bool, true, false, if◌then◌else◌, option_map, unwrap_or, decimal, rules}
use Rattle.std.specs.Prelude.{⊤}
use Rattle.std.specs.Fmt.{signed_decimal}
use Rattle.std.proofs.lemmas.List.{append_assoc}
use Rattle.serde_json.specs.Data.{Data, null, boolean, number, string, array, object, unsigned, negative, float, Items, no_items, item}
use Rattle.serde_json.specs.Read.{number_of}
use Rattle.serde_json.specs.Find.{is_float}
use Rattle.serde_json.specs.Written.{blank, blank_items, outline, items_outline, IsInOrder}
use Rattle.json.specs.Json as json
use Rattle.json.specs.Tree as tree
use Rattle.json.specs.Token.{Token}
use Rattle.cert_format.specs.Text.{is_plain_number, are_plain, is_plain}

abbrev mutual
  pub HasPlain : Data → Type 0
  HasPlain null = ⊥
  HasPlain (boolean b) = ⊥
  HasPlain (number (unsigned n)) = (is_plain_number (decimal n) ≡ true) × (0 < length (decimal n))
  HasPlain (number (negative z)) = (is_plain_number (signed_decimal z) ≡ true) × (0 < length (signed_decimal z))
  HasPlain (number (float x)) = ⊥
  HasPlain (string t) = ⊤
  HasPlain (array ds) = HavePlain ds
  HasPlain (object ms) = ⊥

  pub HavePlain : Items → Type 0
  HavePlain no_items = ⊤
  HavePlain (item d ds) = HasPlain d × HavePlain ds

-- which form a value has, and its number's text
abbrev kind : json.Json → ℕ
kind json.null = 0
kind (json.boolean b) = 1
kind (json.number s) = 2
kind (json.string s) = 3
kind (json.array js) = 4
kind (json.object ms) = 5

abbrev text : json.Json → List ℕ
text json.null = []
text (json.boolean b) = []
text (json.number s) = s
text (json.string s) = []
text (json.array js) = []
text (json.object ms) = []

abbrev inside : json.Json → json.Items
inside json.null = json.no_items
inside (json.boolean b) = json.no_items
inside (json.number s) = json.no_items
inside (json.string s) = json.no_items
inside (json.array js) = js
inside (json.object ms) = json.no_items

abbrev count : json.Items → ℕ
count json.no_items = 0
count (json.item j js) = 1

abbrev first : json.Items → json.Json
first json.no_items = json.null
first (json.item j js) = j

abbrev others : json.Items → json.Items
others json.no_items = json.no_items
others (json.item j js) = js

same : (s t : List ℕ) (b : Bool) → (if b then [] else s) ≡ t → is_plain_number t ≡ true → 0 < length t → is_plain_number s ≡ true
same s t true e h k = absurd (no_less (subst (λ x. 0 < length x) (sym e) k))
  where
    no_less : 0 < length {A = ℕ} [] → ⊥
    no_less p = search rules
same s t false e h k = rw (e) h

mutual
  plain_value : (j : json.Json) (d : Data) → blank j ≡ outline d → HasPlain d → (rest : List Token) → are_plain rest ≡ true →
      are_plain (tree.json_tokens j ++ rest) ≡ true
  plain_value json.null null e h rest r = absurd h
  plain_value json.null (boolean b) e h rest r = absurd h
  plain_value json.null (number (unsigned n)) e h rest r = search (rules, ap kind e)
  plain_value json.null (number (negative z)) e h rest r = search (rules, ap kind e)
  plain_value json.null (number (float x)) e h rest r = absurd h
  plain_value json.null (string t) e h rest r = search (rules, ap kind e)
  plain_value json.null (array ds) e h rest r = search (rules, ap kind e)
  plain_value json.null (object ms) e h rest r = absurd h
  plain_value (json.boolean c) null e h rest r = absurd h
  plain_value (json.boolean c) (boolean b) e h rest r = absurd h
  plain_value (json.boolean c) (number (unsigned n)) e h rest r = search (rules, ap kind e)
  plain_value (json.boolean c) (number (negative z)) e h rest r = search (rules, ap kind e)
  plain_value (json.boolean c) (number (float x)) e h rest r = absurd h
  plain_value (json.boolean c) (string t) e h rest r = search (rules, ap kind e)
  plain_value (json.boolean c) (array ds) e h rest r = search (rules, ap kind e)
  plain_value (json.boolean c) (object ms) e h rest r = absurd h
  plain_value (json.number s) null e h rest r = absurd h
  plain_value (json.number s) (boolean b) e h rest r = absurd h
  plain_value (json.number s) (number (unsigned n)) e h rest r =
      rw (same s (decimal n) (unwrap_or (option_map is_float (number_of s)) false) (ap text e) h.0 h.1, r) refl
  plain_value (json.number s) (number (negative z)) e h rest r =
      rw (same s (signed_decimal z) (unwrap_or (option_map is_float (number_of s)) false) (ap text e) h.0 h.1, r) refl
  plain_value (json.number s) (number (float x)) e h rest r = absurd h
  plain_value (json.number s) (string t) e h rest r = search (rules, ap kind e)
  plain_value (json.number s) (array ds) e h rest r = search (rules, ap kind e)
  plain_value (json.number s) (object ms) e h rest r = absurd h
  plain_value (json.string s) null e h rest r = absurd h
  plain_value (json.string s) (boolean b) e h rest r = absurd h
  plain_value (json.string s) (number (unsigned n)) e h rest r = search (rules, ap kind e)
  plain_value (json.string s) (number (negative z)) e h rest r = search (rules, ap kind e)
  plain_value (json.string s) (number (float x)) e h rest r = absurd h
  plain_value (json.string s) (string t) e h rest r = r
  plain_value (json.string s) (array ds) e h rest r = search (rules, ap kind e)
  plain_value (json.string s) (object ms) e h rest r = absurd h
  plain_value (json.array js) null e h rest r = absurd h
  plain_value (json.array js) (boolean b) e h rest r = absurd h
  plain_value (json.array js) (number (unsigned n)) e h rest r = search (rules, ap kind e)
  plain_value (json.array js) (number (negative z)) e h rest r = search (rules, ap kind e)
  plain_value (json.array js) (number (float x)) e h rest r = absurd h
  plain_value (json.array js) (string t) e h rest r = search (rules, ap kind e)
  plain_value (json.array js) (array ds) e h rest r = plain_items js ds (ap inside e) h rest r
  plain_value (json.array js) (object ms) e h rest r = absurd h
  plain_value (json.object os) null e h rest r = absurd h
  plain_value (json.object os) (boolean b) e h rest r = absurd h
  plain_value (json.object os) (number (unsigned n)) e h rest r = search (rules, ap kind e)
  plain_value (json.object os) (number (negative z)) e h rest r = search (rules, ap kind e)
  plain_value (json.object os) (number (float x)) e h rest r = absurd h
  plain_value (json.object os) (string t) e h rest r = search (rules, ap kind e)
  plain_value (json.object os) (array ds) e h rest r = search (rules, ap kind e)
  plain_value (json.object os) (object ms) e h rest r = absurd h

  plain_items : (js : json.Items) (ds : Items) → blank_items js ≡ items_outline ds → HavePlain ds → (rest : List Token) →
      are_plain rest ≡ true → are_plain (tree.items_tokens js ++ rest) ≡ true
  plain_items json.no_items no_items e h rest r = r
  plain_items json.no_items (item d ds) e h rest r = search (rules, ap count e)
  plain_items (json.item j js) no_items e h rest r = search (rules, ap count e)
  plain_items (json.item j js) (item d ds) e h rest r =
      rw (append_assoc (tree.json_tokens j) (tree.items_tokens js) rest)
      (plain_value j d (ap first e) h.0 _ (plain_items js ds (ap others e) h.1 rest r))

pub plain_text : (bytes : List ℕ) (d : Data) → HasPlain d → IsInOrder bytes d → is_plain bytes ≡ true
plain_text bytes d h o = rw (o.1) (subst (λ ts. are_plain ts ≡ true) (append_nil (tree.json_tokens o.0)) (plain_value o.0 d o.2 h [] refl))
  where
    append_nil : (xs : List Token) → xs ++ [] ≡ xs
    append_nil xs = search rules
