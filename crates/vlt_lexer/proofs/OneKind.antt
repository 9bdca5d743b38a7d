-- A piece is a token of one kind only.
use Rattle.std.proofs.Common.{◌≡◌, ℕ, ◌≤◌, true, List, [], ◌∷◌, ◌++◌, length, None, refl, sym, ap, subst, ◌∙◌, arith}
use Rattle.std.specs.Prelude.{pos, nat_le}
use Rattle.vlt_tokens.specs.declared.token.Word.{Word}
use Rattle.vlt_tokens.specs.declared.token.Mark.{Mark}
use Rattle.vlt_tokens.specs.declared.token.TokenKind.{TokenKind}
use Rattle.vlt_tokens.specs.declared.token.TokenKind.TheVariants as kind
use Rattle.vlt_tokens.specs.declared.token.TheConstants.Word as words
use Rattle.vlt_tokens.specs.declared.token.TheConstants.Mark as signs
use Rattle.vlt_tokens.specs.Spelling.{word_text, sign_text}
use Rattle.vlt_tokens.specs.Characters.{is_blank, is_digit, IsName, IsDigits, value_of}
use Rattle.vlt_tokens.specs.Lexemes.{IsPiece, name, tick, digits, sign, line_opens, block_opens, IsLongest, IsOf, max_number}
use Rattle.vlt_lexer.specs.Steps.{item_with_text}
use Rattle.std.proofs.lemmas.Bool.Decides.{nat_tests}
use Rattle.vlt_lexer.proofs.Pieces.{IsAt, at_name, at_tick, at_digits, at_mark, piece_at}
use Rattle.vlt_lexer.proofs.Runs.{none_some, head_is, not_empty, some_is, true_false, same_fronts}
use Rattle.vlt_lexer.proofs.Tables.{word_found, sign_found, spelled_passes}
use Rattle.vlt_lexer.proofs.Heads.{name_head, digit_head, sign_head, is_sign_head, sign_opens, sign_some, word_name}

pub piece_of : (k : TokenKind) (cs : List ℕ) → IsOf k cs → IsPiece cs
piece_of kind.Name cs h = name cs h.0
piece_of kind.Tick cs h = subst IsPiece (sym h.1) (tick h.0 h.2)
piece_of (kind.Number z) cs h = digits cs h.0
piece_of (kind.Keyword w) cs h = name cs (subst IsName (sym h) (word_name w))
piece_of (kind.Sign m) cs h = subst IsPiece (sym h) (sign m)

pub no_empty_piece : (piece : List ℕ) → piece ≡ [] → IsPiece piece → ⊥
no_empty_piece piece e (name [] is) = is
no_empty_piece piece e (name (c ∷ cs) is) = not_empty (sym e)
no_empty_piece piece e (tick cs is) = not_empty (sym e)
no_empty_piece piece e (digits [] is) = is
no_empty_piece piece e (digits (c ∷ cs) is) = not_empty (sym e)
no_empty_piece piece e (sign m) = sign_some m (sym e)
no_empty_piece piece e line_opens = not_empty (sym e)
no_empty_piece piece e block_opens = not_empty (sym e)

same_word : (v w : Word) → word_text v ≡ word_text w → v ≡ w
same_word v w e = some_is (sym (word_found v) ∙ ap (item_with_text word_text words.ALL) e ∙ word_found w)

same_sign : (m n : Mark) → sign_text m ≡ sign_text n → m ≡ n
same_sign m n e = some_is (sym (sign_found m) ∙ ap (item_with_text sign_text signs.ALL) e ∙ sign_found n)

name_no_tick : (cs ds : List ℕ) → IsName cs → cs ≡ 39 ∷ ds → ⊥
name_no_tick [] ds is e = is
name_no_tick (c ∷ cs) ds is e = (name_head c is.0).no_tick (head_is e)

name_no_digits : (cs : List ℕ) → IsName cs → IsDigits cs → ⊥
name_no_digits [] is h = is
name_no_digits (c ∷ cs) is h = true_false (sym h.0 ∙ (name_head c is.0).no_digit)

name_no_sign : (cs : List ℕ) (m : Mark) → IsName cs → cs ≡ sign_text m → ⊥
name_no_sign [] m is e = is
name_no_sign (c ∷ cs) m is e = true_false (sym (sign_opens m c cs (sym e)) ∙ (name_head c is.0).no_sign)

tick_no_digits : (cs ds : List ℕ) → cs ≡ 39 ∷ ds → IsDigits cs → ⊥
tick_no_digits [] ds e is = is
tick_no_digits (c ∷ cs) ds e is = (digit_head c is.0).2 (head_is e)

sign_no_tick : (cs ds : List ℕ) (m : Mark) → cs ≡ 39 ∷ ds → cs ≡ sign_text m → ⊥
sign_no_tick [] ds m e s = sign_some m s
sign_no_tick (c ∷ cs) ds m e s = (sign_head c (sign_opens m c cs (sym s))).1 (head_is e)

sign_no_digits : (cs : List ℕ) (m : Mark) → cs ≡ sign_text m → IsDigits cs → ⊥
sign_no_digits [] m s is = is
sign_no_digits (c ∷ cs) m s is = true_false (sym (sign_opens m c cs (sym s)) ∙ (digit_head c is.0).1)

word_is_name : (cs : List ℕ) (w : Word) → cs ≡ word_text w → IsName cs
word_is_name cs w e = subst IsName (sym e) (word_name w)

-- digits are a number only
pub number_only : (k : TokenKind) (cs : List ℕ) → IsDigits cs → IsOf k cs → (k ≡ kind.Number (pos (value_of cs))) × (value_of cs ≤ max_number)
number_only kind.Name cs is h = absurd (name_no_digits cs h.0 is)
number_only kind.Tick cs is h = absurd (tick_no_digits cs h.0 h.1 is)
number_only (kind.Number z) cs is h = (ap (λ y. kind.Number y) h.1, h.2)
number_only (kind.Keyword w) cs is h = absurd (name_no_digits cs (word_is_name cs w h) is)
number_only (kind.Sign m) cs is h = absurd (sign_no_digits cs m h is)

pub one_kind : (k l : TokenKind) (cs : List ℕ) → IsOf k cs → IsOf l cs → k ≡ l
one_kind k (kind.Number y) cs a b = (number_only k cs b.0 a).0 ∙ ap (λ x. kind.Number x) (sym b.1)
one_kind (kind.Number z) l cs a b = ap (λ x. kind.Number x) a.1 ∙ sym (number_only l cs a.0 b).0
one_kind kind.Name kind.Name cs a b = refl
one_kind kind.Name kind.Tick cs a b = absurd (name_no_tick cs b.0 a.0 b.1)
one_kind kind.Name (kind.Keyword w) cs a b = absurd (a.1 w b)
one_kind kind.Name (kind.Sign m) cs a b = absurd (name_no_sign cs m a.0 b)
one_kind kind.Tick kind.Name cs a b = absurd (name_no_tick cs a.0 b.0 a.1)
one_kind kind.Tick kind.Tick cs a b = refl
one_kind kind.Tick (kind.Keyword w) cs a b = absurd (name_no_tick cs a.0 (word_is_name cs w b) a.1)
one_kind kind.Tick (kind.Sign m) cs a b = absurd (sign_no_tick cs a.0 m a.1 b)
one_kind (kind.Keyword v) kind.Name cs a b = absurd (b.1 v a)
one_kind (kind.Keyword v) kind.Tick cs a b = absurd (name_no_tick cs b.0 (word_is_name cs v a) b.1)
one_kind (kind.Keyword v) (kind.Keyword w) cs a b = ap (λ x. kind.Keyword x) (same_word v w (sym a ∙ b))
one_kind (kind.Keyword v) (kind.Sign m) cs a b = absurd (name_no_sign cs m (word_is_name cs v a) b)
one_kind (kind.Sign m) kind.Name cs a b = absurd (name_no_sign cs m b.0 a)
one_kind (kind.Sign m) kind.Tick cs a b = absurd (sign_no_tick cs b.0 m b.1 a)
one_kind (kind.Sign m) (kind.Keyword w) cs a b = absurd (name_no_sign cs m (word_is_name cs w b) a)
one_kind (kind.Sign m) (kind.Sign n) cs a b = ap (λ x. kind.Sign x) (same_sign m n (sym a ∙ b))

-- no token begins with a blank
pub blank_no_token : (k : TokenKind) (c : ℕ) (cs after piece : List ℕ) → is_blank c ≡ true → c ∷ cs ≡ piece ++ after → IsOf k piece → ⊥
blank_no_token k c cs after piece is e h = go (piece_at c cs piece after e (piece_of k piece h))
  where
    go : IsAt c piece → ⊥
    go (at_name _ ds same starts each) = true_false (sym is ∙ (name_head c starts).no_blank)
    go (at_tick _ ds same ticks named) = true_false (sym is ∙ ap is_blank ticks)
    go (at_digits _ ds same starts each) = true_false (sym is ∙ (digit_head c starts).0)
    go (at_mark _ starts which) = true_false (sym is ∙ (sign_head c starts).0)

-- what opens a comment, after its `/`
abbrev pub opener : ℕ → List ℕ
opener second = 47 ∷ second ∷ []

sign_short : (m : Mark) → nat_le (length (sign_text m)) 2 ≡ true
sign_short m = spelled_passes sign_text (λ x. nat_le (length (sign_text x)) 2) signs.ALL (sign_text m) m refl (sign_found m)

-- no token stands where a comment opens
pub opener_no_token : (second : ℕ) (k : TokenKind) (cs inside piece after : List ℕ) → IsPiece (opener second) → item_with_text sign_text signs.ALL (opener second) ≡ None
    → cs ≡ opener second ++ inside → cs ≡ piece ++ after → IsLongest piece cs → IsOf k piece → ⊥
opener_no_token second k cs inside piece after opens no_sign o e longest h = go k piece e two h
  where
    two : 2 ≤ length piece
    two = longest (opener second) inside o opens

    slash : (p : ℕ) (ps : List ℕ) → cs ≡ (p ∷ ps) ++ after → 47 ≡ p
    slash p ps same = head_is (sym o ∙ same)

    go : (k : TokenKind) (piece : List ℕ) → cs ≡ piece ++ after → 2 ≤ length piece → IsOf k piece → ⊥
    go k [] same n is = omega arith
    go kind.Name (p ∷ ps) same n is = true_false (ap is_sign_head (slash p ps same) ∙ (name_head p is.0.0).no_sign)
    go kind.Tick (p ∷ ps) same n is = omega (arith, slash p ps same, head_is is.1)
    go (kind.Number z) (p ∷ ps) same n is = true_false (sym is.0.0 ∙ ap is_digit (sym (slash p ps same)))
    go (kind.Keyword w) (p ∷ ps) same n is = true_false (ap is_sign_head (slash p ps same) ∙ (name_head p (word_is_name (p ∷ ps) w is).0).no_sign)
    go (kind.Sign m) (p ∷ ps) same n is =
        let short : length (p ∷ ps) ≤ 2 = (let test : nat_le (length (sign_text m)) 2 ≡ true = sign_short m in let len : length (p ∷ ps) ≡ length (sign_text m) = ap length is in grind (arith, nat_tests)) in
        let fronts = same_fronts (p ∷ ps) (opener second) after inside (omega arith) (sym same ∙ o) in
        none_some (sym no_sign ∙ ap (item_with_text sign_text signs.ALL) (sym fronts.0 ∙ is) ∙ sign_found m)
