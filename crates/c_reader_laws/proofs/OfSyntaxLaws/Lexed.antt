-- Every text has a list of tokens.
use Rattle.std.proofs.Common.{◌≡◌, ◌≤◌, ℕ, zero, suc, ◌+◌, ◌-◌, ◌==◌, Bool, true, false, if◌then◌else◌, List, [], ◌∷◌, length, Option, Some, None, refl, ap, arith}
use Rattle.std.specs.List.{list_all}
use Rattle.std.proofs.lemmas.Bool.{and_parts}
use Rattle.std.proofs.lemmas.Option.{same_Some}
use Rattle.c_syntax.specs.Tokens as t
use Rattle.c_syntax.specs.Tokens.{Token, include, line_end, define, token_text}
use Rattle.c_syntax.specs.Text.{Lexeme, Piece, piece, piece_or, first_beginning, signs, sign_piece, quoted_piece, quoted_end, is_text_name, fixed_piece, first_pieces, is_blank, is_run_byte, run, run_token, past_run, following, IsAt, AreTokensOf, AreFirst}
use Rattle.c_reader_laws.specs.SyntaxLaws.Laws.{EachTextHasTokens}

-- ---- a piece takes a byte at least

after_shorter : (fs bs after : List ℕ) → following fs bs ≡ Some after → length bs ≡ length fs + length after
after_shorter [] bs after e = let same : length bs ≡ length after = ap length (same_Some bs after e) in omega (arith, same)
after_shorter (f ∷ fs) [] after e = absurd cc
after_shorter (f ∷ fs) (b ∷ bs) after e = by (f == b) e (λ h. after_shorter fs bs after h)
  where
    by : (d : Bool) → (if d then following fs bs else None) ≡ Some after → (following fs bs ≡ Some after → length bs ≡ length fs + length after) → length (b ∷ bs) ≡ length (f ∷ fs) + length after
    by true h again = let k = again h in omega (arith, k)
    by false h again = absurd cc

abbrev is_some_text : List ℕ → Bool
is_some_text [] = false
is_some_text (b ∷ bs) = true

some_text : (cs : List ℕ) → is_some_text cs ≡ true → 1 ≤ length cs
some_text [] e = absurd cc
some_text (c ∷ cs) e = omega arith

begun_shorter : (ts : List Token) (bs : List ℕ) (other : Piece) (n : ℕ) → list_all (λ t. is_some_text (token_text t)) ts ≡ true → length bs ≤ suc n → length (other.1) ≤ n → length ((first_beginning ts bs other).1) ≤ n
begun_shorter [] bs other n all whole rest = rest
begun_shorter (t ∷ ts) bs other n all whole rest =
    let both = and_parts (is_some_text (token_text t)) (list_all (λ u. is_some_text (token_text u)) ts) all in
    by (following (token_text t) bs) refl (some_text (token_text t) both.0) (begun_shorter ts bs other n both.1 whole rest)
  where
    by : (o : Option (List ℕ)) → following (token_text t) bs ≡ o → 1 ≤ length (token_text t) → length ((first_beginning ts bs other).1) ≤ n → length ((piece_or t o (first_beginning ts bs other)).1) ≤ n
    by None e some others = others
    by (Some after) e some others = let size = after_shorter (token_text t) bs after e in omega (arith, size, some, whole)

signed_shorter : (b : ℕ) (bs : List ℕ) → length ((sign_piece (b ∷ bs) bs).1) ≤ length bs
unfolding sign_piece
signed_shorter b bs = begun_shorter signs (b ∷ bs) (t.stray, bs) (length bs) refl (omega arith) (omega arith)

past_shorter : (is : ℕ → Bool) (bs : List ℕ) → length (past_run is bs) ≤ length bs
past_shorter is [] = omega arith
past_shorter is (b ∷ bs) = by (is b) (past_shorter is bs)
  where
    by : (d : Bool) → length (past_run is bs) ≤ length bs → length (if d then past_run is bs else b ∷ bs) ≤ suc (length bs)
    by true less = omega (arith, less)
    by false less = omega arith

abbrev chosen : Bool → Piece → Piece → Piece
chosen d x y = if d then x else y

quoted_shorter : (bs : List ℕ) → length ((quoted_piece bs).1) ≤ length bs
quoted_shorter bs = by (following (34 ∷ []) (past_run is_run_byte bs)) refl
  where
    name : (d : Bool) (cs after : List ℕ) → length after ≤ length bs → length ((chosen d (t.text cs, after) (t.stray, bs)).1) ≤ length bs
    name true cs after less = less
    name false cs after less = omega arith

    by : (o : Option (List ℕ)) → following (34 ∷ []) (past_run is_run_byte bs) ≡ o → length ((quoted_end (run is_run_byte bs) o bs).1) ≤ length bs
    by None e = omega arith
    by (Some after) e =
        let size = after_shorter (34 ∷ []) (past_run is_run_byte bs) after e in
        let less = past_shorter is_run_byte bs in
        name (is_text_name (run is_run_byte bs)) (run is_run_byte bs) after (omega (arith, size, less))

piece_shorter : (b : ℕ) (bs : List ℕ) → length ((piece b bs).1) ≤ length bs
piece_shorter b bs = by (is_run_byte b) refl
  where
    other : (d : Bool) → length ((chosen d (quoted_piece bs) (sign_piece (b ∷ bs) bs)).1) ≤ length bs
    other true = quoted_shorter bs
    other false = signed_shorter b bs

    by : (d : Bool) → is_run_byte b ≡ d → length ((chosen d (run_token (run is_run_byte (b ∷ bs)), past_run is_run_byte (b ∷ bs)) (chosen (b == 34) (quoted_piece bs) (sign_piece (b ∷ bs) bs))).1) ≤ length bs
    by true e = rw e (past_shorter is_run_byte bs)
    by false e = other (b == 34)

fixed_shorter : (x : Token) → is_some_text (token_text x) ≡ true → (b : ℕ) (bs : List ℕ) → length ((fixed_piece x b bs).1) ≤ length bs
fixed_shorter x some b bs = begun_shorter (x ∷ []) (b ∷ bs) (t.stray, bs) (length bs) (rw some refl) (omega arith) (omega arith)

-- ---- tokens one after another

abbrev HasTokens : ℕ → List ℕ → Type 0
HasTokens total bs = (ls : List Lexeme) × AreTokensOf total bs ls

abbrev placed : ℕ → Token → List ℕ → Lexeme
placed total x bs = record { token = x; at = total - length bs }

stands : (total : ℕ) (x : Token) (bs : List ℕ) → length bs ≤ total → IsAt total bs (placed total x bs) x
stands total x bs fits = (refl, omega (arith, fits))

tokens_there : (n total : ℕ) (bs : List ℕ) → length bs ≤ n → length bs ≤ total → HasTokens total bs
tokens_there zero total [] small fits = ([], refl)
tokens_there zero total (b ∷ bs) small fits = absurd (omega (arith, small))
tokens_there (suc n) total bs small fits = by (past_run is_blank bs) refl (past_shorter is_blank bs) (λ rest. tokens_there n total rest)
  where
    by : (cs : List ℕ) → past_run is_blank bs ≡ cs → length (past_run is_blank bs) ≤ length bs → ((rest : List ℕ) → length rest ≤ n → length rest ≤ total → HasTokens total rest) → HasTokens total bs
    by [] e less again = ([], e)
    by (b ∷ rest) e less again =
        let size : length (past_run is_blank bs) ≡ length (b ∷ rest) = ap length e in
        let short = piece_shorter b rest in
        let more = again ((piece b rest).1) (omega (arith, size, small, less, short)) (omega (arith, size, fits, less, short)) in
        (placed total ((piece b rest).0) (b ∷ rest) ∷ more.0, (b, rest, e, stands total ((piece b rest).0) (b ∷ rest) (omega (arith, size, fits, less)), more.1))

-- each of the pieces takes a byte at least
abbrev AreShorter : List (ℕ → List ℕ → Piece) → Type 0
AreShorter [] = Unit {0}
AreShorter (p ∷ ps) = ((b : ℕ) (bs : List ℕ) → length ((p b bs).1) ≤ length bs) × AreShorter ps

first_there : (ps : List (ℕ → List ℕ → Piece)) (total : ℕ) (bs : List ℕ) → AreShorter ps → length bs ≤ total → (ls : List Lexeme) × AreFirst ps total bs ls
first_there [] total bs short fits = tokens_there (length bs) total bs (omega arith) fits
first_there (p ∷ ps) total [] short fits = ([], refl)
first_there (p ∷ ps) total (b ∷ bs) short fits =
    let less = short.0 b bs in
    let more = first_there ps total ((p b bs).1) short.1 (omega (arith, less, fits)) in
    (placed total ((p b bs).0) (b ∷ bs) ∷ more.0, (stands total ((p b bs).0) (b ∷ bs) fits, more.1))

pub each_text_has_tokens : EachTextHasTokens
each_text_has_tokens bytes =
    first_there first_pieces (length bytes) bytes (fixed_shorter include refl, (fixed_shorter line_end refl, (fixed_shorter define refl, (piece_shorter, (fixed_shorter line_end refl, tt))))) (omega arith)
