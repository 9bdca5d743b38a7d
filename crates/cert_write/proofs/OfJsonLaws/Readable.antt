-- The compact text of a value without objects and floats, whose integers have 64 bits and whose
-- strings are UTF-8, is read as that value.
use Rattle.std.proofs.Common.{◌≡◌, ◌≤◌, ◌<◌, ◌^◌, refl, sym, ap, ap₂, ◌∙◌, suc, pos, negsuc, Bool, true, false, [], ◌∷◌, ◌++◌, Some, option_map, option_and_then, decimal, IsUtf8, arith, append-nil}
use Rattle.std.specs.Prelude.{⊤}
use Rattle.std.specs.Fmt.{signed_decimal}
use Rattle.std.proofs.lemmas.Str.{IsUtf8-append, IsUtf8-from_ascii}
use Rattle.std.proofs.lemmas.Fmt.{IsAscii-decimal, IsAscii-signed}
use Rattle.json.specs.Lex.{tokens}
use Rattle.json.specs.Json as json
use Rattle.json.specs.Tree as tree
use Rattle.json.proofs.Printed.Decimals.{IsNumber-decimal, IsNumber-signed_decimal}
use Rattle.json.proofs.Printed.Tokens.{tokens-print}
use Rattle.json.proofs.Printed.Trees.{value-json_tokens, ArePrintable-json_tokens}
use Rattle.json.proofs.Printed.Utf8.{IsUtf8-are_ascii, IsUtf8-quoted, IsUtf8-boolean}
use Rattle.serde_json.specs.Data.{Data, null, boolean, number, string, array, object, unsigned, negative, float, Items, no_items, item, depth, items_depth}
use Rattle.serde_json.specs.Read.{of_json, of_items, max_depth, read}
use Rattle.serde_json.specs.Written.{outline, items_outline, blank, blank_items, IsInOrder, comma_if, compact_text, items_text}
use Rattle.serde_json.proofs.Numbers.{number_of-decimal, number_of-negative}
use Rattle.serde_json.proofs.Texts.{print-outline, unless_float-number_of}

abbrev mutual
  pub IsReadable : Data → Type 0
  IsReadable null = ⊤
  IsReadable (boolean b) = ⊤
  IsReadable (number (unsigned n)) = n < 2 ^ 64
  IsReadable (number (negative (pos n))) = ⊥
  IsReadable (number (negative (negsuc n))) = n < 2 ^ 63
  IsReadable (number (float x)) = ⊥
  IsReadable (string s) = IsUtf8 s
  IsReadable (array ds) = AreReadable ds
  IsReadable (object ms) = ⊥

  pub AreReadable : Items → Type 0
  AreReadable no_items = ⊤
  AreReadable (item d ds) = IsReadable d × AreReadable ds

-- ---- its tokens

mutual
  has_numbers : (d : Data) → IsReadable d → tree.HasNumbers (outline d)
  has_numbers null h = tt
  has_numbers (boolean b) h = tt
  has_numbers (number (unsigned n)) h = IsNumber-decimal n h
  has_numbers (number (negative (pos n))) h = absurd h
  has_numbers (number (negative (negsuc n))) h = IsNumber-signed_decimal (negsuc n) h
  has_numbers (number (float x)) h = absurd h
  has_numbers (string s) h = tt
  has_numbers (array ds) h = have_numbers ds h
  has_numbers (object ms) h = absurd h

  have_numbers : (ds : Items) → AreReadable ds → tree.ItemsHaveNumbers (items_outline ds)
  have_numbers no_items h = tt
  have_numbers (item d ds) h = (has_numbers d h.0, have_numbers ds h.1)

tokens_are : (d : Data) → IsReadable d → tokens (compact_text d) ≡ tree.json_tokens (outline d)
tokens_are d h =
    ap tokens (sym (print-outline d))
    ∙ tokens-print (tree.json_tokens (outline d)) (ArePrintable-json_tokens (outline d) (has_numbers d h))

-- ---- its order

mutual
  blank_same : (d : Data) → IsReadable d → blank (outline d) ≡ outline d
  blank_same null h = refl
  blank_same (boolean b) h = refl
  blank_same (number (unsigned n)) h = ap json.number (unless_float-number_of (decimal n) (unsigned n) (number_of-decimal n h))
  blank_same (number (negative (pos n))) h = absurd h
  blank_same (number (negative (negsuc n))) h =
      ap json.number (unless_float-number_of (signed_decimal (negsuc n)) (negative (negsuc n)) (number_of-negative n h))
  blank_same (number (float x)) h = absurd h
  blank_same (string s) h = refl
  blank_same (array ds) h = ap json.array (blank_items_same ds h)
  blank_same (object ms) h = absurd h

  blank_items_same : (ds : Items) → AreReadable ds → blank_items (items_outline ds) ≡ items_outline ds
  blank_items_same no_items h = refl
  blank_items_same (item d ds) h = ap₂ json.item (blank_same d h.0) (blank_items_same ds h.1)

pub order : (d : Data) → IsReadable d → IsInOrder (compact_text d) d
order d h = (outline d, tokens_are d h, blank_same d h)

-- ---- what is read

mutual
  read_value : (d : Data) → IsReadable d → of_json (outline d) ≡ Some d
  read_value null h = refl
  read_value (boolean b) h = refl
  read_value (number (unsigned n)) h = ap (option_map number) (number_of-decimal n h)
  read_value (number (negative (pos n))) h = absurd h
  read_value (number (negative (negsuc n))) h = ap (option_map number) (number_of-negative n h)
  read_value (number (float x)) h = absurd h
  read_value (string s) h = refl
  read_value (array ds) h = ap (option_map array) (read_items ds h)
  read_value (object ms) h = absurd h

  read_items : (ds : Items) → AreReadable ds → of_items (items_outline ds) ≡ Some ds
  read_items no_items h = refl
  read_items (item d ds) h =
      ap (option_and_then (λ x. option_map (item x) (of_items (items_outline ds)))) (read_value d h.0)
      ∙ ap (option_map (item d)) (read_items ds h.1)

mutual
  depth_same : (d : Data) → IsReadable d → tree.depth (outline d) ≡ depth d
  depth_same null h = refl
  depth_same (boolean b) h = refl
  depth_same (number n) h = refl
  depth_same (string s) h = refl
  depth_same (array ds) h = ap suc (items_depth_same ds h)
  depth_same (object ms) h = absurd h

  items_depth_same : (ds : Items) → AreReadable ds → tree.items_depth (items_outline ds) ≡ items_depth ds
  items_depth_same no_items h = refl
  items_depth_same (item d ds) h =
      let a = depth_same d h.0 in
      let b = items_depth_same ds h.1 in
      omega (arith, a, b)

pub reads_back : (d : Data) → IsReadable d → depth d ≤ max_depth → read (compact_text d) ≡ Some d
reads_back d h shallow =
    let same = depth_same d h in
    ap (λ ts. option_and_then of_json (option_and_then (λ p. json.if_last p.0 p.1) (json.value max_depth ts)))
    (tokens_are d h ∙ sym (append-nil (tree.json_tokens (outline d))))
    ∙ ap (λ o. option_and_then of_json (option_and_then (λ p. json.if_last p.0 p.1) o))
    (value-json_tokens (outline d) max_depth [] (omega (arith, same, shallow)))
    ∙ read_value d h

-- ---- its text is UTF-8

utf8_comma : (later : Bool) → IsUtf8 (comma_if later)
utf8_comma true = IsUtf8-are_ascii (44 ∷ []) refl
utf8_comma false = IsUtf8-are_ascii [] refl

mutual
  pub utf8 : (d : Data) → IsReadable d → IsUtf8 (compact_text d)
  utf8 null h = IsUtf8-are_ascii _ refl
  utf8 (boolean b) h = IsUtf8-boolean b
  utf8 (number (unsigned n)) h = IsUtf8-from_ascii (decimal n) (IsAscii-decimal n h)
  utf8 (number (negative (pos n))) h = absurd h
  utf8 (number (negative (negsuc n))) h = IsUtf8-from_ascii (signed_decimal (negsuc n)) (IsAscii-signed (negsuc n) h)
  utf8 (number (float x)) h = absurd h
  utf8 (string s) h = IsUtf8-quoted s h
  utf8 (array ds) h = IsUtf8-append (91 ∷ []) (items_text false ds) (IsUtf8-are_ascii (91 ∷ []) refl) (utf8_items false ds h)
  utf8 (object ms) h = absurd h

  utf8_items : (later : Bool) (ds : Items) → AreReadable ds → IsUtf8 (items_text later ds)
  utf8_items later no_items h = IsUtf8-are_ascii (93 ∷ []) refl
  utf8_items later (item d ds) h =
      IsUtf8-append (comma_if later) (compact_text d ++ items_text true ds) (utf8_comma later)
      (IsUtf8-append (compact_text d) (items_text true ds) (utf8 d h.0) (utf8_items true ds h.1))
