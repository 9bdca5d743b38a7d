-- Every text is read as tokens, or is refused by the lexer.
use Rattle.std.proofs.Common.{◌≡◌, ◌⊎◌, inl, inr, ℕ, zero, suc, ◌-◌, ◌<◌, ◌≤◌, pos, Bool, true, false, List, [], ◌∷◌, ◌++◌, length, take, Option, Some, None, refl, sym, ap, subst, ◌∙◌, arith}
use Rattle.std.proofs.lemmas.Bool.Decides.{eqb_tells, leb_tells}
use Rattle.std.proofs.lemmas.List.{length-append, take_all}
use Rattle.std.proofs.lemmas.Str.{encodes-append, IsUtf8-from_is_utf8, is_utf8-from_IsUtf8, IsUtf8-nil}
use Rattle.std.specs.Prelude.{◌==◌, codes, encode_utf8_all}
use Rattle.std.specs.Str.{chars, IsUtf8, is_utf8, IsValidUpTo}
use Rattle.vlt_base.specs.Limits.{limit_of}
use Rattle.vlt_tokens.specs.declared.token.TokenKind.{TokenKind}
use Rattle.vlt_tokens.specs.declared.token.TokenKind.TheVariants as kind
use Rattle.vlt_lexer.specs.declared.scan.Stuck.{Stuck}
use Rattle.vlt_lexer.specs.declared.scan.Stuck.TheVariants as stuck
use Rattle.vlt_lexer.specs.declared.LexError.{LexError}
use Rattle.vlt_lexer.specs.declared.LexError.TheVariants as error
use Rattle.vlt_tokens.specs.Characters.{is_blank, is_digit, value_of, following, or_else, after_line, after_close, width}
use Rattle.vlt_tokens.specs.Lexemes.{max_number, Lexeme}
use Rattle.vlt_lexer.specs.Reading.{IsGap, blank, IsToken, Reads, nothing, gap, token, IsStuck}
use Rattle.vlt_lexer.specs.Steps.{run, past_run, past_name, sign_of, keyword_of, kind_of, IsNoComment}
use Rattle.vlt_lexer.specs.Text.{IsTokensOf, StopsAt, IsRefused}
use Rattle.vlt_lexer.proofs.Bytes.{width_chars}
use Rattle.vlt_lexer.proofs.Found.{Stands, line_gap, block_gap, number_stands, number_stuck, name_stands, tick_stands, sign_stands, bad_stuck, tick_stuck}
use Rattle.vlt_lexer.proofs.OneKind.{piece_of, no_empty_piece}
use Rattle.vlt_lexer.proofs.Runs.{after_splits, some_is}
use Rattle.vlt_lexer.proofs.Words.{kind_is}

bool_cases : (b : Bool) → (b ≡ true) ⊎ (b ≡ false)
bool_cases true = inl refl
bool_cases false = inr refl

option_cases : {X : Type 0} (o : Option X) → (o ≡ None) ⊎ ((x : X) × (o ≡ Some x))
option_cases None = inl refl
option_cases (Some x) = inr (x, refl)

-- ---- what stands after a comment is a part of the text

line_at : (c : ℕ) (cs : List ℕ) (b : Bool) → (c == 10) ≡ b → (front : List ℕ) × (cs ≡ front ++ after_line cs) → (front : List ℕ) × (c ∷ cs ≡ front ++ after_line (c ∷ cs))
line_at c cs true is rest = (c ∷ [], ap (λ l. c ∷ l) (rw is refl))
line_at c cs false is rest = (c ∷ rest.0, ap (λ l. c ∷ l) (rest.1 ∙ ap (λ l. rest.0 ++ l) (rw is refl)))

line_rest : (cs : List ℕ) → (front : List ℕ) × (cs ≡ front ++ after_line cs)
line_rest [] = ([], refl)
line_rest (c ∷ cs) = line_at c cs (c == 10) refl (line_rest cs)

close_at : (c : ℕ) (cs after : List ℕ) (o : Option (List ℕ)) → following (codes "*/") (c ∷ cs) ≡ o → or_else o (after_close cs) ≡ Some after
    → (after_close cs ≡ Some after → (front : List ℕ) × (cs ≡ front ++ after)) → (front : List ℕ) × (c ∷ cs ≡ front ++ after)
close_at c cs after (Some x) is same rest = (codes "*/", after_splits (codes "*/") (c ∷ cs) x is ∙ ap (λ l. codes "*/" ++ l) (some_is same))
close_at c cs after None is same rest = (let r = rest same in (c ∷ r.0, ap (λ l. c ∷ l) r.1))

close_rest : (cs after : List ℕ) → after_close cs ≡ Some after → (front : List ℕ) × (cs ≡ front ++ after)
close_rest [] after e = absurd cc
close_rest (c ∷ cs) after e = close_at c cs after (following (codes "*/") (c ∷ cs)) refl e (close_rest cs after)

-- ---- one step

-- what stands at the front of a text: nothing, a gap, a token, or nothing that can be read
data Step (cs : List ℕ) : Type 0 where
  done : cs ≡ [] → Step cs
  passed : (first : ℕ) (front after : List ℕ) → cs ≡ first ∷ (front ++ after) → IsGap cs after → Step cs
  found : (k : TokenKind) (after : List ℕ) → Stands k cs after → Step cs
  halted : (f : Stuck) → IsStuck f cs → Step cs

signs_at : (c : ℕ) (ds : List ℕ) → is_blank c ≡ false → past_name (c ∷ ds) ≡ None → is_digit c ≡ false → IsNoComment (c ∷ ds) → Step (c ∷ ds)
signs_at c ds no_blank no_name no_digit plain = elim (eqb_tells c 39) [
  | inl ticks ↦ elim (option_cases (past_name ds)) [
    | inl none ↦ halted stuck.BadByte (tick_stuck (c ∷ ds) c ds refl no_blank no_name no_digit ticks.1 none)
    | inr some ↦ found kind.Tick some.0 (tick_stands (c ∷ ds) c ds some.0 refl ticks.1 some.1)
  ]
  | inr no_tick ↦ elim (option_cases (sign_of (c ∷ ds))) [
    | inl none ↦ halted stuck.BadByte (bad_stuck (c ∷ ds) c ds refl no_blank no_name no_digit (λ t. absurd (no_tick.1 t)) none)
    | inr some ↦ found (kind.Sign some.0.0) some.0.1 (sign_stands (c ∷ ds) some.0.0 some.0.1 some.1 plain)
  ]
]

number_at : (c : ℕ) (ds : List ℕ) → is_digit c ≡ true → Step (c ∷ ds)
number_at c ds is = elim (leb_tells (value_of (run is_digit (c ∷ ds))) max_number) [
  | inl small ↦ found (kind.Number (pos (value_of (run is_digit (c ∷ ds))))) (past_run is_digit (c ∷ ds)) (number_stands (c ∷ ds) c ds (pos (value_of (run is_digit (c ∷ ds)))) refl is (refl, small.1))
  | inr large ↦ halted stuck.NumberTooLarge (number_stuck (c ∷ ds) c ds refl is large.1)
]

plain_at : (c : ℕ) (ds : List ℕ) → is_blank c ≡ false → IsNoComment (c ∷ ds) → Step (c ∷ ds)
plain_at c ds no_blank plain = elim (option_cases (past_name (c ∷ ds))) [
  | inr some ↦
      let name = name_stands (c ∷ ds) some.0 some.1 in
      found (kind_of (keyword_of (encode_utf8_all name.0))) some.0 (name.0, name.1, name.2, kind_is name.0 name.3)
  | inl no_name ↦ elim (bool_cases (is_digit c)) [
    | inl is ↦ number_at c ds is
    | inr no_digit ↦ signs_at c ds no_blank no_name no_digit plain
  ]
]

comment_at : (c : ℕ) (ds inside front after : List ℕ) (second : ℕ) → c ∷ ds ≡ 47 ∷ second ∷ inside → inside ≡ front ++ after → IsGap (c ∷ ds) after → Step (c ∷ ds)
comment_at c ds inside front after second begins rest g = passed 47 (second ∷ front) after (begins ∙ ap (λ l. 47 ∷ second ∷ l) rest) g

step_at : (c : ℕ) (ds : List ℕ) → is_blank c ≡ false → Step (c ∷ ds)
step_at c ds no_blank = elim (option_cases (following (codes "//") (c ∷ ds))) [
  | inr some ↦
      let rest = line_rest some.0 in
      comment_at c ds some.0 rest.0 (after_line some.0) 47 (after_splits (codes "//") (c ∷ ds) some.0 some.1) rest.1 (line_gap (c ∷ ds) some.0 (after_line some.0) some.1 refl)
  | inl no_line ↦ elim (option_cases (following (codes "/*") (c ∷ ds))) [
    | inl no_block ↦ plain_at c ds no_blank (no_line, no_block)
    | inr some ↦ elim (option_cases (after_close some.0)) [
      | inl none ↦ halted stuck.OpenComment (some.0, after_splits (codes "/*") (c ∷ ds) some.0 some.1, none)
      | inr closed ↦
          let rest = close_rest some.0 closed.0 closed.1 in
          comment_at c ds some.0 rest.0 closed.0 42 (after_splits (codes "/*") (c ∷ ds) some.0 some.1) rest.1 (block_gap (c ∷ ds) some.0 closed.0 some.1 closed.1)
    ]
  ]
]

step : (cs : List ℕ) → Step cs
step [] = done refl
step (c ∷ ds) = elim (bool_cases (is_blank c)) [
  | inl is ↦ passed c [] ds refl (blank (c ∷ ds) c ds refl is)
  | inr no_blank ↦ step_at c ds no_blank
]

-- ---- whole texts

-- tokens are read up to the text's end, or up to where nothing can be read
abbrev Ended : ℕ → List ℕ → Type 0
Ended total cs = (ls : List Lexeme) × (left : List ℕ) × Reads total cs ls left × (width left ≤ total) × ((left ≡ []) ⊎ ((f : Stuck) × IsStuck f left))

width_after : (front after : List ℕ) → width after ≤ width (front ++ after)
width_after front after = omega (arith, ap length (encodes-append front after), length-append (encode_utf8_all front) (encode_utf8_all after))

empty_piece : (k : TokenKind) (cs after : List ℕ) → Stands k cs after → length after < length cs
empty_piece k cs after ([], begins, longest, is) = absurd (no_empty_piece [] refl (piece_of k [] is))
empty_piece k cs after (c ∷ front, begins, longest, is) = omega (arith, ap length begins, length-append (c ∷ front) after)

token_at : (total : ℕ) (k : TokenKind) (cs after : List ℕ) → width cs ≤ total → width after ≤ total → (stands : Stands k cs after)
    → IsToken total cs (record { kind = k; text = encode_utf8_all stands.0; from = total - width cs; to = total - width after }) after
token_at total k cs after wide narrow stands = record {
  piece = stands.0;
  begins = stands.1;
  longest = stands.2;
  kind = stands.3;
  text = refl;
  from = omega (arith, wide);
  to = omega (arith, narrow);
}

ended_at : (n total : ℕ) (cs : List ℕ) → length cs ≤ suc n → width cs ≤ total → ((after : List ℕ) → length after ≤ n → width after ≤ total → Ended total after) → Step cs → Ended total cs
ended_at n total cs fits wide more (done e) = ([], cs, nothing cs, wide, inl e)
ended_at n total cs fits wide more (halted f is) = ([], cs, nothing cs, wide, inr (f, is))
ended_at n total cs fits wide more (passed first front after begins g) =
    let narrow : width after ≤ total = omega (arith, wide, width_after (first ∷ front) after, ap width begins) in
    let shorter : length after ≤ n = omega (arith, fits, ap length begins, length-append front after) in
    let rest = more after shorter narrow in
    (rest.0, rest.1, gap cs after rest.0 rest.1 g rest.2, rest.3, rest.4)
ended_at n total cs fits wide more (found k after stands) =
    let narrow : width after ≤ total = omega (arith, wide, width_after stands.0 after, ap width stands.1) in
    let shorter : length after ≤ n = omega (arith, fits, empty_piece k cs after stands) in
    let rest = more after shorter narrow in
    let l : Lexeme = record { kind = k; text = encode_utf8_all stands.0; from = total - width cs; to = total - width after } in
    (l ∷ rest.0, rest.1, token cs l after rest.0 rest.1 (token_at total k cs after wide narrow stands) rest.2, rest.3, rest.4)

reading : (n total : ℕ) (cs : List ℕ) → length cs ≤ n → width cs ≤ total → Ended total cs
reading zero total [] fits wide = ([], [], nothing [], wide, inl refl)
reading zero total (c ∷ cs) fits wide = absurd (omega (arith, fits))
reading (suc n) total cs fits wide = ended_at n total cs fits wide (reading n total) (step cs)

-- ---- bytes that aren't UTF-8

true_is_false : true ≡ false → ⊥
true_is_false e = cc

last_at : (bs : List ℕ) (n : ℕ) → n < length bs → ((m : ℕ) → n < m → IsUtf8 (take m bs) → ⊥) → (b : Bool) → is_utf8 (take n bs) ≡ b
    → (((m : ℕ) → n ≤ m → IsUtf8 (take m bs) → ⊥) → (at : ℕ) × IsValidUpTo bs at) → (at : ℕ) × IsValidUpTo bs at
last_at bs n short longest true is less = (n, record { short = short; front = IsUtf8-from_is_utf8 (take n bs) is; longest = longest })
last_at bs n short longest false invalid less = less (λ m more u. elim (eqb_tells m n) [
  | inl same ↦ true_is_false (sym (is_utf8-from_IsUtf8 (take n bs) (subst (λ k. IsUtf8 (take k bs)) same.1 u)) ∙ invalid)
  | inr other ↦ longest m (omega (arith, more, other.1)) u
])

last_valid : (bs : List ℕ) (n : ℕ) → n < length bs → ((m : ℕ) → n < m → IsUtf8 (take m bs) → ⊥) → (at : ℕ) × IsValidUpTo bs at
last_valid bs zero short longest = last_at bs zero short longest (is_utf8 (take zero bs)) refl (λ never. absurd (never zero (omega arith) IsUtf8-nil))
last_valid bs (suc n) short longest =
    last_at bs (suc n) short longest (is_utf8 (take (suc n) bs)) refl (λ never. last_valid bs n (omega (arith, short)) (λ m more. never m (omega (arith, more))))

not_valid : (bs : List ℕ) → (IsUtf8 bs → ⊥) → (at : ℕ) × IsValidUpTo bs at
not_valid [] never = absurd (never IsUtf8-nil)
not_valid (b ∷ bs) never =
    last_valid (b ∷ bs) (length bs) (omega arith) (λ m more u. never (subst IsUtf8 (take_all m (b ∷ bs) (omega (arith, more))) u))

-- ---- bytes

-- the tokens of the bytes, or why there are none within the limit
abbrev pub Lexed : List ℕ → Type 0
Lexed bytes = ((ls : List Lexeme) × IsTokensOf bytes ls × (length ls ≤ limit_of 3)) ⊎ ((e : LexError) × IsRefused bytes e)

stuck_at : (bytes : List ℕ) (f : Stuck) (at : ℕ) → IsUtf8 bytes → StopsAt f at bytes → (e : LexError) × IsRefused bytes e
stuck_at bytes stuck.BadByte at u stops = (error.BadByte at, (u, stops))
stuck_at bytes stuck.NumberTooLarge at u stops = (error.NumberTooLarge at, (u, stops))
stuck_at bytes stuck.OpenComment at u stops = (error.OpenComment at, (u, stops))

lexed_few : (bytes : List ℕ) (ls : List Lexeme) (left : List ℕ) → IsUtf8 bytes → Reads (length bytes) (chars bytes) ls left → width left ≤ length bytes → length ls ≤ limit_of 3
    → (left ≡ []) ⊎ ((f : Stuck) × IsStuck f left) → Lexed bytes
lexed_few bytes ls left u reads narrow few (inl end) = inl (ls, (u, subst (λ l. Reads (length bytes) (chars bytes) ls l) end reads), few)
lexed_few bytes ls left u reads narrow few (inr (f, is)) =
    inr (stuck_at bytes f (length bytes - width left) u (ls, left, reads, few, is, omega (arith, narrow)))

lexed_utf8 : (bytes : List ℕ) → IsUtf8 bytes → Lexed bytes
lexed_utf8 bytes u =
    let read = reading (length (chars bytes)) (length bytes) (chars bytes) (omega arith) (omega (arith, width_chars bytes u)) in
    elim (leb_tells (length read.0) (limit_of 3)) [
      | inl few ↦ lexed_few bytes read.0 read.1 u read.2 read.3 few.1 read.4
      | inr many ↦ inr (error.Limit 3, (u, refl, (read.0, read.1, read.2, many.1)))
    ]

-- bytes are tokens within the limit, or the lexer refuses them
pub lexed : (bytes : List ℕ) → Lexed bytes
lexed bytes = elim (bool_cases (is_utf8 bytes)) [
  | inl is ↦ lexed_utf8 bytes (IsUtf8-from_is_utf8 bytes is)
  | inr invalid ↦
      let never : IsUtf8 bytes → ⊥ = λ u. true_is_false (sym (is_utf8-from_IsUtf8 bytes u) ∙ invalid) in
      let valid = not_valid bytes never in
      inr (error.NotUtf8 valid.0, (never, valid.1))
]
