-- A layout grows by one piece, and the tokens that are still to come lose one.
use Rattle.std.proofs.Common.{◌≡◌, ℕ, ◌≤◌, ℤ, pos, Bool, true, ◌&&◌, List, [], ◌∷◌, ◌++◌, refl, sym, ap, subst, append_assoc, append-nil}
use Rattle.std.specs.Prelude.{encode_utf8_all}
use Rattle.std.specs.Fmt.{decimal, signed_decimal}
use Rattle.std.proofs.lemmas.Bool.{and_parts}
use Rattle.vlt_tokens.specs.declared.token.Word.{Word}
use Rattle.vlt_tokens.specs.declared.token.Mark.{Mark}
use Rattle.vlt_tokens.specs.declared.token.TokenKind.{TokenKind}
use Rattle.vlt_tokens.specs.declared.token.TokenKind.TheVariants as kind
use Rattle.vlt_tokens.specs.Spelling.{word_text, sign_text}
use Rattle.vlt_tokens.specs.Characters.{is_blank}
use Rattle.vlt_tokens.specs.Lexemes.{IsLongest, IsOf, max_number}
use Rattle.vlt_lexer.proofs.Heads.{word_name}
use Rattle.vlt_syntax.specs.Lists.{Each}
use Rattle.vlt_syntax.specs.Tokens.{Token, name, tick, number, keyword, sign, token_from}
use Rattle.vlt_printer_laws.proofs.Scalars.{AreScalars}
use Rattle.vlt_printer_laws.proofs.Written.{IsWritten}
use Rattle.vlt_printer_laws.proofs.Readable.{Readable, blank_readable, token_readable}
use Rattle.vlt_printer_laws.proofs.Following.{Last, clear, wordy, signed, Fits, is_open, within, fits_within, blank_goes, name_fits, digits_fit, sign_may, sign_fits}
use Rattle.vlt_printer_laws.proofs.Longest.{name_longest, tick_longest, digits_longest, sign_longest}
use Rattle.vlt_printer_laws.proofs.Spelled.{word_bytes, word_scalars, sign_bytes, sign_scalars, number_text, number_bytes}

-- `before` begins a text of all the tokens: after it a text of the tokens `rest` gives one, if that may follow what `before` ends in.
-- Each token of `rest` is one that a text can have.
pub record Begins (all : List Token) (before : List ℕ) (rest : List Token) (last : Last) : Type 0 where
  pub goes_on : (after cs : List ℕ) → Readable after cs rest → Fits last cs → (ds : List ℕ) × Readable (before ++ after) ds all
  pub written : Each IsWritten rest

-- what begins with one piece more
grown : (all : List Token) (before piece after : List ℕ) → (ds : List ℕ) × Readable (before ++ (piece ++ after)) ds all → (ds : List ℕ) × Readable ((before ++ piece) ++ after) ds all
grown all before piece after h = (h.0, subst (λ x. Readable x h.0 all) (sym (append_assoc before piece after)) h.1)

module _ {all : List Token} {before : List ℕ} {rest : List Token} where
  pub weaker : (last next : Last) → within last next ≡ true → Begins all before rest last → Begins all before rest next
  weaker last next is b = record { goes_on = λ after cs r fits. b.goes_on after cs r (fits_within last next is cs fits); written = b.written }

  -- a token that no longer piece can stand for
  token_begins : (k : TokenKind) (piece bytes : List ℕ) (last next : Last) → IsOf k piece → bytes ≡ encode_utf8_all piece → AreScalars piece
      → ((cs : List ℕ) → Fits next cs → IsLongest piece (piece ++ cs)) → ((cs : List ℕ) → Fits last (piece ++ cs))
      → Each IsWritten rest → Begins all before (token_from k bytes ∷ rest) last → Begins all (before ++ bytes) rest next
  token_begins k piece bytes last next is e s longest follows written b = record {
    goes_on = λ after cs r fits.
        grown all before bytes after (b.goes_on (bytes ++ after) (piece ++ cs) (token_readable k piece bytes after cs rest is e s (longest cs fits) r) (follows cs));
    written = written;
  }

  pub blank_begins : (c : ℕ) (last : Last) → is_blank c ≡ true → Begins all before rest last → Begins all (before ++ c ∷ []) rest clear
  blank_begins c last is b = record {
    goes_on = λ after cs r fits.
        grown all before (c ∷ []) after (b.goes_on (c ∷ after) (c ∷ cs) (blank_readable c after cs rest is r) (blank_goes last c is));
    written = b.written;
  }

  word_begins : (w : Word) (last : Last) → is_open last ≡ true → Begins all before (keyword w ∷ rest) last → Begins all (before ++ word_text w) rest wordy
  word_begins w last open_is b =
      token_begins (kind.Keyword w) (word_text w) (word_text w) last wordy refl (word_bytes w) (word_scalars w)
      (λ cs fits. name_longest (word_text w) cs (word_name w) fits)
      (λ cs. name_fits last (word_text w) cs open_is (word_name w))
      b.written.1 b

  pub sign_begins : (m : Mark) (last : Last) → sign_may last m ≡ true → Begins all before (sign m ∷ rest) last → Begins all (before ++ sign_text m) rest signed
  sign_begins m last may b =
      token_begins (kind.Sign m) (sign_text m) (sign_text m) last signed refl (sign_bytes m) (sign_scalars m)
      (λ cs fits. sign_longest m cs fits)
      (λ cs. sign_fits last m cs may)
      b.written.1 b

  pub name_begins : (bytes : List ℕ) → Begins all before (name bytes ∷ rest) signed → Begins all (before ++ bytes) rest wordy
  name_begins bytes b =
      let n = b.written.0 in
      token_begins kind.Name n.cs bytes signed wordy (n.named, n.no_word) n.bytes_are n.scalar
      (λ cs fits. name_longest n.cs cs n.named fits)
      (λ cs. name_fits signed n.cs cs refl n.named)
      b.written.1 b

  pub tick_begins : (bytes : List ℕ) → Begins all before (tick bytes ∷ rest) signed → Begins all (before ++ bytes) rest wordy
  tick_begins bytes b =
      let n = b.written.0 in
      token_begins kind.Tick (39 ∷ n.cs) bytes signed wordy (n.cs, refl, n.named) n.bytes_are n.scalar
      (λ cs fits. tick_longest n.cs cs n.named fits)
      (λ cs. refl)
      b.written.1 b

  natural_begins : (n : ℕ) → n ≤ max_number → Begins all before (number (pos n) ∷ rest) signed → Begins all (before ++ decimal n) rest wordy
  natural_begins n small b =
      let is = number_text n small in
      token_begins (kind.Number (pos n)) (decimal n) (decimal n) signed wordy (is.digits, ap pos (sym is.value), subst (λ v. v ≤ max_number) (sym is.value) small) (number_bytes n small) is.scalar
      (λ cs fits. digits_longest (decimal n) cs is.digits fits)
      (λ cs. digits_fit (decimal n) cs is.digits)
      b.written.1 b

pub number_begins : {all rest : List Token} {before : List ℕ} (z : ℤ) → Begins all before (number z ∷ rest) signed → Begins all (before ++ signed_decimal z) rest wordy
number_begins {all} {rest} {before} z b = at z b.written.0 b
  where
    at : (z : ℤ) → (n : ℕ) × (z ≡ pos n) × (n ≤ max_number) → Begins all before (number z ∷ rest) signed → Begins all (before ++ signed_decimal z) rest wordy
    at z h b = subst (λ y. Begins all (before ++ signed_decimal y) rest wordy) (sym h.1) (natural_begins h.0 h.2 (subst (λ y. Begins all before (number y ∷ rest) signed) h.1 b))

-- ---- texts that are always the same

-- a part of such a text
pub data Bit : Type 0 where
  gap : ℕ → Bit
  word : Word → Bit
  mark : Mark → Bit

abbrev pub space : Bit
space = gap 32

abbrev pub line_end : Bit
line_end = gap 10

-- what stands one level in
abbrev pub indented : List Bit → List Bit
indented bits = space ∷ space ∷ space ∷ space ∷ bits

abbrev pub text_of : List Bit → List ℕ
text_of [] = []
text_of (gap c ∷ bits) = c ∷ text_of bits
text_of (word w ∷ bits) = word_text w ++ text_of bits
text_of (mark m ∷ bits) = sign_text m ++ text_of bits

-- its tokens, and then others
abbrev pub bits_then : List Bit → List Token → List Token
bits_then [] rest = rest
bits_then (gap c ∷ bits) rest = bits_then bits rest
bits_then (word w ∷ bits) rest = keyword w ∷ bits_then bits rest
bits_then (mark m ∷ bits) rest = sign m ∷ bits_then bits rest

-- each part may stand after the one before, and what may follow at last follows the text
abbrev pub fits_in : Last → List Bit → Last → Bool
fits_in last [] next = within last next
fits_in last (gap c ∷ bits) next = is_blank c && fits_in clear bits next
fits_in last (word w ∷ bits) next = is_open last && fits_in wordy bits next
fits_in last (mark m ∷ bits) next = sign_may last m && fits_in signed bits next

one_text : (all : List Token) (before front more : List ℕ) (rest : List Token) (last : Last) → Begins all ((before ++ front) ++ more) rest last → Begins all (before ++ (front ++ more)) rest last
one_text all before front more rest last b = subst (λ x. Begins all x rest last) (append_assoc before front more) b

pub text_begins : {all : List Token} {before : List ℕ} {rest : List Token} {last next : Last} (bits : List Bit) → fits_in last bits next ≡ true → Begins all before (bits_then bits rest) last → Begins all (before ++ text_of bits) rest next
text_begins {all} {before} {rest} {last} {next} [] fits b = subst (λ x. Begins all x rest next) (sym (append-nil before)) (weaker last next fits b)
text_begins {all} {before} {rest} {last} {next} (gap c ∷ bits) fits b =
    let parts = and_parts (is_blank c) (fits_in clear bits next) fits in
    one_text all before (c ∷ []) (text_of bits) rest next (text_begins bits parts.1 (blank_begins c last parts.0 b))
text_begins {all} {before} {rest} {last} {next} (word w ∷ bits) fits b =
    let parts = and_parts (is_open last) (fits_in wordy bits next) fits in
    one_text all before (word_text w) (text_of bits) rest next (text_begins bits parts.1 (word_begins w last parts.0 b))
text_begins {all} {before} {rest} {last} {next} (mark m ∷ bits) fits b =
    let parts = and_parts (sign_may last m) (fits_in signed bits next) fits in
    one_text all before (sign_text m) (text_of bits) rest next (text_begins bits parts.1 (sign_begins m last parts.0 b))
