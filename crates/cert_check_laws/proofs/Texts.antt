-- A JSON array has no more items than its text has bytes.
use Rattle.std.proofs.Common.{◌≡◌, ◌≤◌, ◌<◌, ◌+◌, ℕ, zero, suc, Bool, true, false, List, [], ◌∷◌, length, Option, Some, None, refl, sym, ap, ◌∙◌, arith}
use Rattle.std.specs.Prelude.{option_map, option_and_then}
use Rattle.json.specs.Token.{Token}
use Rattle.json.specs.Token as tok
use Rattle.json.specs.Lex as lex
use Rattle.json.specs.Lex.{Lexeme, token, comma, colon, Class, quote, backslash, operator, space, other, class, Mode, between, in_word, in_string, in_escape, lex_byte, Place, fresh, after_value, after_comma, after_key, begins_colon, if_allowed, place_token, punctuate, tokens}
use Rattle.json.specs.Json as json
use Rattle.json.specs.Json.{Json, Items, no_items, item, Members, no_members, member, Parse, parse_map, after_end_array, read_key, items_step, members_step, items, members, value_with, value, if_last}
use Rattle.json.proofs.Grammar.{after_end_array-shorter, read_key-shorter}
use Rattle.serde_json.specs.Data.{Data}
use Rattle.serde_json.specs.Data as tree
use Rattle.serde_json.specs.Read.{number_of, of_json, of_items, of_members, max_depth, read}
use Rattle.serde_json.specs.View.{items_of}

-- ---- lexemes and tokens

-- a byte begins one lexeme at most
byte_lexes : (m : Mode) (c : Class) (x : ℕ) (xs : List ℕ) (k : Mode → List Lexeme) (n : ℕ) → ((next : Mode) → length (k next) ≤ n) → length (lex_byte m c x xs k) ≤ suc n
byte_lexes between quote x xs k n each = let le = each in_string in omega (arith, le)
byte_lexes between backslash x xs k n each = let le = each in_word in omega (arith, le)
byte_lexes between operator x xs k n each = let le = each between in omega (arith, le)
byte_lexes between space x xs k n each = let le = each between in omega (arith, le)
byte_lexes between other x xs k n each = let le = each in_word in omega (arith, le)
byte_lexes in_word quote x xs k n each = let le = each in_word in omega (arith, le)
byte_lexes in_word backslash x xs k n each = let le = each in_word in omega (arith, le)
byte_lexes in_word operator x xs k n each = let le = each between in omega (arith, le)
byte_lexes in_word space x xs k n each = let le = each between in omega (arith, le)
byte_lexes in_word other x xs k n each = let le = each in_word in omega (arith, le)
byte_lexes in_string quote x xs k n each = let le = each between in omega (arith, le)
byte_lexes in_string backslash x xs k n each = let le = each in_escape in omega (arith, le)
byte_lexes in_string operator x xs k n each = let le = each in_string in omega (arith, le)
byte_lexes in_string space x xs k n each = let le = each in_string in omega (arith, le)
byte_lexes in_string other x xs k n each = let le = each in_string in omega (arith, le)
byte_lexes in_escape c x xs k n each = let le = each in_string in omega (arith, le)

lexemes : (m : Mode) (xs : List ℕ) → length (lex.lex m xs) ≤ length xs
unfolding lex.lex
lexemes m [] = omega arith
lexemes m (x ∷ xs) = byte_lexes m (class x) x xs (λ next. lex.lex next xs) (length xs) (λ next. lexemes next xs)

allowed : (b : Bool) (t : Token) (k : Place → List Token) (next : Place) (n : ℕ) → length (k next) ≤ suc n → length (if_allowed b t k next) ≤ suc (suc n)
allowed true t k next n le = omega (arith, le)
allowed false t k next n le = omega arith

placed : (p : Place) (t : Token) (b : Bool) (k : Place → List Token) (n : ℕ) → ((next : Place) → length (k next) ≤ suc n) → length (place_token p t b k) ≤ suc (suc n)
placed p tok.begin_object b k n each = allowed _ _ k fresh n (each fresh)
placed p tok.end_object b k n each = allowed _ _ k after_value n (each after_value)
placed p tok.begin_array b k n each = allowed _ _ k fresh n (each fresh)
placed p tok.end_array b k n each = allowed _ _ k after_value n (each after_value)
placed p (tok.key s) b k n each = omega arith
placed p (tok.string s) true k n each = allowed _ _ k after_key n (each after_key)
placed p (tok.string s) false k n each = allowed _ _ k after_value n (each after_value)
placed p (tok.number s) b k n each = allowed _ _ k after_value n (each after_value)
placed p (tok.boolean c) b k n each = allowed _ _ k after_value n (each after_value)
placed p tok.null b k n each = allowed _ _ k after_value n (each after_value)
placed p tok.bad b k n each = omega arith

punctuated : (p : Place) (ls : List Lexeme) → length (punctuate p ls) ≤ suc (length ls)
unfolding punctuate
punctuated fresh [] = omega arith
punctuated after_value [] = omega arith
punctuated after_comma [] = omega arith
punctuated after_key [] = omega arith
punctuated fresh (token t ∷ ls) = placed fresh t (begins_colon ls) (λ next. punctuate next ls) (length ls) (λ next. punctuated next ls)
punctuated after_value (token t ∷ ls) = placed after_value t (begins_colon ls) (λ next. punctuate next ls) (length ls) (λ next. punctuated next ls)
punctuated after_comma (token t ∷ ls) = placed after_comma t (begins_colon ls) (λ next. punctuate next ls) (length ls) (λ next. punctuated next ls)
punctuated after_key (token t ∷ ls) = placed after_key t (begins_colon ls) (λ next. punctuate next ls) (length ls) (λ next. punctuated next ls)
punctuated fresh (comma ∷ ls) = omega arith
punctuated after_value (comma ∷ ls) = let le = punctuated after_comma ls in omega (arith, le)
punctuated after_comma (comma ∷ ls) = omega arith
punctuated after_key (comma ∷ ls) = omega arith
punctuated fresh (colon ∷ ls) = omega arith
punctuated after_value (colon ∷ ls) = omega arith
punctuated after_comma (colon ∷ ls) = omega arith
punctuated after_key (colon ∷ ls) = let le = punctuated fresh ls in omega (arith, le)

few_tokens : (text : List ℕ) → length (tokens text) ≤ suc (length text)
few_tokens text = let a = punctuated fresh (lex.lex between text) in let b = lexemes between text in omega (arith, a, b)

-- ---- values

abbrev count : Items → ℕ
count no_items = 0
count (item j js) = suc (count js)

-- how many items an array has
abbrev weight : Json → ℕ
weight (json.array js) = count js
weight j = 0

-- a value takes more tokens than it has items
abbrev Takes : Option (Json × List Token) → ℕ → Type 0
Takes None n = Unit {0}
Takes (Some r) n = weight r.0 + length r.1 < n

abbrev TakesItems : Option (Items × List Token) → ℕ → Type 0
TakesItems None n = Unit {0}
TakesItems (Some r) n = count r.0 + length r.1 < n

abbrev TakesMembers : Option (Members × List Token) → ℕ → Type 0
TakesMembers None n = Unit {0}
TakesMembers (Some r) n = length r.1 < n

item_more : (j : Json) (r : Option (Items × List Token)) (m n : ℕ) → TakesItems r m → m < n → TakesItems (parse_map (item j) r) n
item_more j None m n t less = tt
item_more j (Some r) m n t less = omega (arith, t, less)

member_more : (k : List ℕ) (j : Json) (r : Option (Members × List Token)) (m n : ℕ) → TakesMembers r m → m < n → TakesMembers (parse_map (member k j) r) n
member_more k j None m n t less = tt
member_more k j (Some r) m n t less = omega (arith, t, less)

array_takes : (r : Option (Items × List Token)) (n : ℕ) → TakesItems r n → Takes (parse_map json.array r) (suc n)
array_takes None n t = tt
array_takes (Some r) n t = omega (arith, t)

object_takes : (r : Option (Members × List Token)) (n : ℕ) → TakesMembers r n → Takes (parse_map json.object r) (suc n)
object_takes None n t = tt
object_takes (Some r) n t = omega (arith, t)

rest_less : (j : Json) (rest : List Token) (n : ℕ) → weight j + length rest < n → length rest < n
rest_less j rest n less = omega (arith, less)

module _ (v : Parse Json) (each : (ts : List Token) → Takes (v ts) (length ts)) where
  first_item : (more : Parse Items) (n : ℕ) (r : Option (Json × List Token)) → Takes r n → ((ts : List Token) → TakesItems (more ts) (length ts)) →
      TakesItems (option_and_then (λ p. parse_map (item p.0) (more p.1)) r) n
  first_item more n None t rest = tt
  first_item more n (Some p) t rest = item_more p.0 (more p.1) (length p.1) n (rest p.1) (rest_less p.0 p.1 n t)

  items_by : (more : Parse Items) (ts : List Token) (o : Option (List Token)) → after_end_array ts ≡ o → ((ts : List Token) → TakesItems (more ts) (length ts)) → TakesItems (items_step v more ts o) (length ts)
  items_by more ts (Some rest) e t = let less = after_end_array-shorter ts rest e in omega (arith, less)
  items_by more ts None e t = first_item more (length ts) (v ts) (each ts) t

  items_take : (n : ℕ) (ts : List Token) → TakesItems (items v n ts) (length ts)
  unfolding items
  items_take zero ts = tt
  items_take (suc n) ts = items_by (items v n) ts (after_end_array ts) refl (items_take n)

  first_member : (k : List ℕ) (more : Parse Members) (n : ℕ) (r : Option (Json × List Token)) → Takes r n → ((ts : List Token) → TakesMembers (more ts) (length ts)) →
      TakesMembers (option_and_then (λ p. parse_map (member k p.0) (more p.1)) r) n
  first_member k more n None t rest = tt
  first_member k more n (Some p) t rest = member_more k p.0 (more p.1) (length p.1) n (rest p.1) (rest_less p.0 p.1 n t)

  wider : (r : Option (Members × List Token)) (m n : ℕ) → TakesMembers r m → m < n → TakesMembers r n
  wider None m n t less = tt
  wider (Some r) m n t less = omega (arith, t, less)

  members_by : (more : Parse Members) (ts : List Token) (o : Option (Option (List ℕ) × List Token)) → read_key ts ≡ o → ((ts : List Token) → TakesMembers (more ts) (length ts)) →
      TakesMembers (option_and_then (λ p. members_step v more p.0 p.1) o) (length ts)
  members_by more ts None e t = tt
  members_by more ts (Some (None, rest)) e t = read_key-shorter ts None rest e
  members_by more ts (Some (Some k, rest)) e t =
      wider (option_and_then (λ p. parse_map (member k p.0) (more p.1)) (v rest)) (length rest) (length ts) (first_member k more (length rest) (v rest) (each rest) t) (read_key-shorter ts (Some k) rest e)

  members_take : (n : ℕ) (ts : List Token) → TakesMembers (members v n ts) (length ts)
  unfolding members
  members_take zero ts = tt
  members_take (suc n) ts = members_by (members v n) ts (read_key ts) refl (members_take n)

value_takes : (a : Parse Items) (o : Parse Members) → ((ts : List Token) → TakesItems (a ts) (length ts)) → ((ts : List Token) → TakesMembers (o ts) (length ts)) →
    (ts : List Token) → Takes (value_with a o ts) (length ts)
value_takes a o f g [] = tt
value_takes a o f g (tok.begin_object ∷ ts) = object_takes (o ts) (length ts) (g ts)
value_takes a o f g (tok.end_object ∷ ts) = tt
value_takes a o f g (tok.begin_array ∷ ts) = array_takes (a ts) (length ts) (f ts)
value_takes a o f g (tok.end_array ∷ ts) = tt
value_takes a o f g (tok.key s ∷ ts) = tt
value_takes a o f g (tok.string s ∷ ts) = omega arith
value_takes a o f g (tok.number s ∷ ts) = omega arith
value_takes a o f g (tok.boolean b ∷ ts) = omega arith
value_takes a o f g (tok.null ∷ ts) = omega arith
value_takes a o f g (tok.bad ∷ ts) = tt

takes : (depth : ℕ) (ts : List Token) → Takes (value depth ts) (length ts)
unfolding value
takes zero ts = value_takes (λ ts. None) (λ ts. None) (λ ts. tt) (λ ts. tt) ts
takes (suc d) ts =
    value_takes (λ ts. items (value d) (length ts) ts) (λ ts. members (value d) (length ts) ts) (λ ts. items_take (value d) (takes d) (length ts) ts) (λ ts. members_take (value d) (takes d) (length ts) ts) ts

-- ---- arrays

abbrev data_count : tree.Items → ℕ
data_count tree.no_items = 0
data_count (tree.item d ds) = suc (data_count ds)

count_of : (ds : List Data) → data_count (items_of ds) ≡ length ds
count_of [] = refl
count_of (d ∷ ds) = ap (λ n. suc n) (count_of ds)

items_same : (x y : tree.Items) → Some x ≡ Some y → x ≡ y
items_same x y e = cc

none_never : {A : Type 0} {X : Type 0} (x : A) → None ≡ Some x → X
none_never x e = cc

counted : (js : Items) (ds : tree.Items) → of_items js ≡ Some ds → data_count ds ≡ count js
counted no_items ds e = sym (ap data_count (items_same tree.no_items ds e))
counted (item j js) ds e = by (of_json j) (of_items js) refl e (counted js)
  where
    by : (o : Option Data) (r : Option tree.Items) → of_items js ≡ r → option_and_then (λ d. option_map (tree.item d) r) o ≡ Some ds →
        ((rs : tree.Items) → of_items js ≡ Some rs → data_count rs ≡ count js) → data_count ds ≡ suc (count js)
    by None r is e rest = none_never ds e
    by (Some d) None is e rest = none_never ds e
    by (Some d) (Some rs) is e rest = sym (ap data_count (items_same (tree.item d rs) ds e)) ∙ ap (λ n. suc n) (rest rs is)

not_array : {X : Type 0} (d : Data) (ds : tree.Items) → (d ≡ tree.array ds → ⊥) → Some d ≡ Some (tree.array ds) → X
not_array d ds never e = absurd (never cc)

array_counted : (j : Json) (ds : tree.Items) → of_json j ≡ Some (tree.array ds) → data_count ds ≡ weight j
array_counted json.null ds e = not_array tree.null ds (λ e. cc) e
array_counted (json.boolean b) ds e = not_array (tree.boolean b) ds (λ e. cc) e
array_counted (json.string s) ds e = not_array (tree.string s) ds (λ e. cc) e
array_counted (json.number s) ds e = by (number_of s) e
  where
    by : (o : Option tree.Num) → option_map tree.number o ≡ Some (tree.array ds) → data_count ds ≡ 0
    by None e = none_never (tree.array ds) e
    by (Some n) e = not_array (tree.number n) ds (λ e. cc) e
array_counted (json.array js) ds e = by (of_items js) refl e
  where
    same : (x y : tree.Items) → Some (tree.array x) ≡ Some (tree.array y) → x ≡ y
    same x y e = cc

    by : (o : Option tree.Items) → of_items js ≡ o → option_map tree.array o ≡ Some (tree.array ds) → data_count ds ≡ count js
    by None is e = none_never (tree.array ds) e
    by (Some rs) is e = sym (ap data_count (same rs ds e)) ∙ counted js rs is
array_counted (json.object ms) ds e = by (of_members ms tree.no_members) e
  where
    by : (o : Option tree.Members) → option_map tree.object o ≡ Some (tree.array ds) → data_count ds ≡ 0
    by None e = none_never (tree.array ds) e
    by (Some rs) e = not_array (tree.object rs) ds (λ e. cc) e

pub few_items : (text : List ℕ) (ds : List Data) → read text ≡ Some (tree.array (items_of ds)) → length ds ≤ length text
few_items text ds e = by (value max_depth (tokens text)) (takes max_depth (tokens text)) e
  where
    by : (r : Option (Json × List Token)) → Takes r (length (tokens text)) → option_and_then of_json (option_and_then (λ p. if_last p.0 p.1) r) ≡ Some (tree.array (items_of ds)) → length ds ≤ length text
    by None t e = none_never (tree.array (items_of ds)) e
    by (Some (j, [])) t e = let same = array_counted j (items_of ds) e in let all = count_of ds in let few = few_tokens text in omega (arith, t, same, all, few)
    by (Some (j, x ∷ xs)) t e = none_never (tree.array (items_of ds)) e
