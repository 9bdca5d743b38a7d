-- The tokens of a text can be read from their texts.
use Rattle.std.proofs.Common.{◌≡◌, ◌≤◌, ℕ, ◌+◌, ◌-◌, ◌*◌, ◌==◌, nat_le, pos, ◌&&◌, Bool, true, false, if◌then◌else◌, List, [], ◌∷◌, length, Option, Some, None, refl, sym, subst, arith}
use Rattle.std.specs.Prelude.{option_map}
use Rattle.std.proofs.lemmas.Bool.{and_parts}
use Rattle.std.proofs.lemmas.Bool.Decides.{nat_tests}
use Rattle.std.proofs.lemmas.Option.{same_Some}
use Rattle.c_syntax.specs.declared.program.CPrim.{CPrim}
use Rattle.c_syntax.specs.declared.token.CWord.{CWord}
use Rattle.c_syntax.specs.Tokens as t
use Rattle.c_syntax.specs.Tokens.{Token, token_text}
use Rattle.c_syntax.specs.Text.{is_digit, max_number, with_digit, if_some, digits_after, number_of, is_run_byte, run, past_run, following, word_of, prim_of, token_or, letter_token, named_token, run_token, is_text_name, Piece, piece, piece_or, first_beginning, signs, sign_piece, quoted_piece, quoted_end, fixed_piece, first_pieces, Lexeme, AreTokensOf, AreFirst, IsTokensOf}
use Rattle.c_syntax.specs.Reading.{tokens_in}
use Rattle.c_syntax.specs.Canonical.{EachIs, IsReadable, AreReadable}

-- ---- numbers

digit_within : (n b k : ℕ) → with_digit n b ≡ Some k → k ≤ max_number
digit_within n b k e = by (is_digit b && nat_le (n * 10 + (b - 48)) max_number) refl e
  where
    fits : (m : ℕ) → nat_le m max_number ≡ true → m ≤ max_number
    fits m h = grind (arith, h, nat_tests)

    by : (d : Bool) → (is_digit b && nat_le (n * 10 + (b - 48)) max_number) ≡ d → (if d then Some (n * 10 + (b - 48)) else None) ≡ Some k → k ≤ max_number
    by true e h = subst (λ m. m ≤ max_number) (same_Some (n * 10 + (b - 48)) k h) (fits (n * 10 + (b - 48)) ((and_parts (is_digit b) (nat_le (n * 10 + (b - 48)) max_number) e).1))
    by false e h = absurd cc

number_within : (n : ℕ) (ds : List ℕ) (m : ℕ) → digits_after n ds ≡ Some m → n ≤ max_number → m ≤ max_number
number_within n [] m e fits = subst (λ k. k ≤ max_number) (same_Some n m e) fits
number_within n (b ∷ bs) m e fits = by (with_digit n b) refl e (λ k h. number_within k bs m h)
  where
    by : (o : Option ℕ) → with_digit n b ≡ o → if_some o (λ k. digits_after k bs) ≡ Some m → ((k : ℕ) → digits_after k bs ≡ Some m → k ≤ max_number → m ≤ max_number) → m ≤ max_number
    by None d h rest = absurd cc
    by (Some k) d h rest = rest k h (digit_within n b k d)

number_fits : (cs : List ℕ) (n : ℕ) → number_of cs ≡ Some n → n ≤ max_number
number_fits [] n e = absurd cc
number_fits (b ∷ []) n e = number_within 0 (b ∷ []) n e (omega arith)
number_fits (b ∷ c ∷ cs) n e = by (b == 48) e
  where
    by : (d : Bool) → (if d then None else digits_after 0 (b ∷ c ∷ cs)) ≡ Some n → n ≤ max_number
    by true h = absurd cc
    by false h = number_within 0 (b ∷ c ∷ cs) n h (omega arith)

-- ---- runs

if_readable : (d : Bool) (x y : Token) → IsReadable x → IsReadable y → IsReadable (if d then x else y)
if_readable true x y p q = p
if_readable false x y p q = q

named_readable : (b n : ℕ) → n ≤ max_number → IsReadable (letter_token b n)
named_readable b n fits = if_readable (b == 110) _ _ fits (if_readable (b == 112) _ _ fits (if_readable (b == 102) _ _ fits (if_readable (b == 101) _ _ fits tt)))

name_readable : (cs : List ℕ) → IsReadable (named_token cs)
name_readable [] = tt
name_readable (b ∷ bs) = by (number_of bs) refl
  where
    by : (o : Option ℕ) → number_of bs ≡ o → IsReadable (token_or (option_map (letter_token b) o) t.stray)
    by None e = tt
    by (Some n) e = named_readable b n (number_fits bs n e)

run_readable : (cs : List ℕ) → IsReadable (run_token cs)
run_readable cs = word (word_of cs)
  where
    number : (o : Option ℕ) → number_of cs ≡ o → IsReadable (token_or (option_map (λ n. t.number (pos n)) o) (named_token cs))
    number (Some n) e = (n, refl, number_fits cs n e)
    number None e = name_readable cs

    prim : (o : Option CPrim) → IsReadable (token_or (option_map t.primitive o) (token_or (option_map (λ n. t.number (pos n)) (number_of cs)) (named_token cs)))
    prim (Some p) = tt
    prim None = number (number_of cs) refl

    word : (o : Option CWord) → IsReadable (token_or (option_map t.word o) (token_or (option_map t.primitive (prim_of cs)) (token_or (option_map (λ n. t.number (pos n)) (number_of cs)) (named_token cs))))
    word (Some w) = tt
    word None = prim (prim_of cs)

-- ---- pieces

run_each : (bs : List ℕ) → EachIs is_run_byte (run is_run_byte bs)
run_each [] = tt
run_each (b ∷ bs) = by (is_run_byte b) refl (run_each bs)
  where
    by : (d : Bool) → is_run_byte b ≡ d → EachIs is_run_byte (run is_run_byte bs) → EachIs is_run_byte (if d then b ∷ run is_run_byte bs else [])
    by true e rest = (e, rest)
    by false e rest = tt

abbrev chosen : Bool → Piece → Piece → Piece
chosen d x y = if d then x else y

quoted_readable : (bs : List ℕ) → IsReadable ((quoted_piece bs).0)
quoted_readable bs = by (following (34 ∷ []) (past_run is_run_byte bs))
  where
    name : (cs after : List ℕ) (d : Bool) → is_text_name cs ≡ d → EachIs is_run_byte cs → IsReadable ((chosen d (t.text cs, after) (t.stray, bs)).0)
    name cs after true e each = (e, each)
    name cs after false e each = tt

    by : (o : Option (List ℕ)) → IsReadable ((quoted_end (run is_run_byte bs) o bs).0)
    by None = tt
    by (Some after) = name (run is_run_byte bs) after (is_text_name (run is_run_byte bs)) refl (run_each bs)

begun_readable : (ts : List Token) (bs : List ℕ) (other : Piece) → AreReadable ts → IsReadable (other.0) → IsReadable ((first_beginning ts bs other).0)
begun_readable [] bs other are is = is
begun_readable (x ∷ ts) bs other are is = by (following (token_text x) bs) (begun_readable ts bs other are.1 is)
  where
    by : (o : Option (List ℕ)) → IsReadable ((first_beginning ts bs other).0) → IsReadable ((piece_or x o (first_beginning ts bs other)).0)
    by None rest = rest
    by (Some after) rest = are.0

signs_readable : AreReadable signs
signs_readable = (tt, (tt, (tt, (tt, (tt, (tt, (tt, (tt, (tt, (tt, (tt, (tt, (tt, (tt, (tt, (tt, (tt, (tt, (tt, (tt, (tt, (tt, (tt, (tt, (tt, (tt, (tt, tt)))))))))))))))))))))))))))

signed_readable : (b : ℕ) (bs : List ℕ) → IsReadable ((sign_piece (b ∷ bs) bs).0)
unfolding sign_piece
signed_readable b bs = begun_readable signs (b ∷ bs) (t.stray, bs) signs_readable tt

piece_readable : (b : ℕ) (bs : List ℕ) → IsReadable ((piece b bs).0)
piece_readable b bs = by (is_run_byte b)
  where
    other : (d : Bool) → IsReadable ((chosen d (quoted_piece bs) (sign_piece (b ∷ bs) bs)).0)
    other true = quoted_readable bs
    other false = signed_readable b bs

    by : (d : Bool) → IsReadable ((chosen d (run_token (run is_run_byte (b ∷ bs)), past_run is_run_byte (b ∷ bs)) (chosen (b == 34) (quoted_piece bs) (sign_piece (b ∷ bs) bs))).0)
    by true = run_readable (run is_run_byte (b ∷ bs))
    by false = other (b == 34)

-- ---- all tokens of a text

others_readable : (total : ℕ) (bs : List ℕ) (ls : List Lexeme) → AreTokensOf total bs ls → AreReadable (tokens_in ls)
others_readable total bs [] are = tt
others_readable total bs (l ∷ ls) are = (subst IsReadable (sym are.3.0) (piece_readable are.0 are.1), others_readable total ((piece are.0 are.1).1) ls are.4)

abbrev EachReadable : List (ℕ → List ℕ → Piece) → Type 0
EachReadable [] = Unit {0}
EachReadable (p ∷ ps) = ((b : ℕ) (bs : List ℕ) → IsReadable ((p b bs).0)) × EachReadable ps

first_readable : (ps : List (ℕ → List ℕ → Piece)) (total : ℕ) (bs : List ℕ) (ls : List Lexeme) → EachReadable ps → AreFirst ps total bs ls → AreReadable (tokens_in ls)
first_readable [] total bs ls each are = others_readable total bs ls are
first_readable (p ∷ ps) total [] ls each are = subst (λ xs. AreReadable (tokens_in xs)) (sym are) tt
first_readable (p ∷ ps) total (b ∷ bs) [] each are = absurd are
first_readable (p ∷ ps) total (b ∷ bs) (l ∷ ls) each are = (subst IsReadable (sym are.0.0) (each.0 b bs), first_readable ps total ((p b bs).1) ls each.1 are.1)

fixed_readable : (x : Token) → IsReadable x → (b : ℕ) (bs : List ℕ) → IsReadable ((fixed_piece x b bs).0)
fixed_readable x is b bs = begun_readable (x ∷ []) (b ∷ bs) (t.stray, bs) (is, tt) tt

pub tokens_readable : (bytes : List ℕ) (ls : List Lexeme) → IsTokensOf bytes ls → AreReadable (tokens_in ls)
tokens_readable bytes ls are =
    first_readable first_pieces (length bytes) bytes ls (fixed_readable t.include tt, (fixed_readable t.line_end tt, (fixed_readable t.define tt, (piece_readable, (fixed_readable t.line_end tt, tt))))) are
