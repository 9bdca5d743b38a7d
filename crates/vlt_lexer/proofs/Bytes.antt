-- Characters and the bytes that they take.
use Rattle.std.proofs.Common.{◌≡◌, ℕ, ◌+◌, ◌-◌, ◌≤◌, List, [], ◌∷◌, ◌++◌, length, take, refl, sym, ap, ◌∙◌, arith}
use Rattle.std.specs.Prelude.{encode_utf8_all}
use Rattle.std.specs.Str.{chars, IsUtf8}
use Rattle.std.proofs.lemmas.List.{take_at, length-append}
use Rattle.std.proofs.lemmas.Str.{encodes-chars, encodes-append, length-le-encodes, encode_same}
use Rattle.vlt_tokens.specs.Characters.{width}

-- equal bytes, equal characters
pub same_characters : (cs ds : List ℕ) → encode_utf8_all cs ≡ encode_utf8_all ds → cs ≡ ds
same_characters [] [] e = refl
same_characters [] (d ∷ ds) e = absurd (omega (arith, length-le-encodes (d ∷ ds), ap length e))
same_characters (c ∷ cs) [] e = absurd (omega (arith, length-le-encodes (c ∷ cs), ap length e))
same_characters (c ∷ cs) (d ∷ ds) e =
    let same : (c ≡ d) × (encode_utf8_all cs ≡ encode_utf8_all ds) = encode_same c d (encode_utf8_all cs) (encode_utf8_all ds) e in
    ap (λ (n : ℕ). n ∷ cs) same.0 ∙ ap (λ (l : List ℕ). d ∷ l) (same_characters cs ds same.1)

-- the bytes of the characters at the front, and those after
pub bytes_split : (text rest front : List ℕ) → IsUtf8 text → IsUtf8 rest → chars text ≡ front ++ chars rest → text ≡ encode_utf8_all front ++ rest
bytes_split text rest front u v e =
    sym (encodes-chars text u) ∙ ap encode_utf8_all e ∙ encodes-append front (chars rest) ∙ ap (λ (x : List ℕ). encode_utf8_all front ++ x) (encodes-chars rest v)

pub front_bytes : (text rest front : List ℕ) → IsUtf8 text → IsUtf8 rest → chars text ≡ front ++ chars rest → take (length text - length rest) text ≡ encode_utf8_all front
front_bytes text rest front u v e =
    let parts = bytes_split text rest front u v e in
    let n : length text - length rest ≡ length (encode_utf8_all front) = omega (arith, ap length parts, length-append (encode_utf8_all front) rest) in
    ap (λ (x : List ℕ). take (length text - length rest) x) parts ∙ take_at (encode_utf8_all front) rest (length text - length rest) (sym n)

-- what stands after a character is shorter
pub shorter_by : (text rest front : List ℕ) → IsUtf8 text → IsUtf8 rest → chars text ≡ front ++ chars rest → length rest + length front ≤ length text
shorter_by text rest front u v e =
    omega (arith, ap length (bytes_split text rest front u v e), length-append (encode_utf8_all front) rest, length-le-encodes front)

pub width_chars : (text : List ℕ) → IsUtf8 text → width (chars text) ≡ length text
width_chars text u = ap length (encodes-chars text u)
