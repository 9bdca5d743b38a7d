-- The tokens of a canonical text are those that were written, and no mark of a certificate stands in it.
use Rattle.std.proofs.Common.{◌≡◌, ◌≤◌, ℕ, suc, ◌+◌, ◌-◌, pos, Bool, true, false, if◌then◌else◌, List, [], ◌∷◌, ◌++◌, length, refl, sym, ap, ◌∙◌, subst, arith, append_assoc}
use Rattle.std.specs.Fmt.{decimal}
use Rattle.std.proofs.lemmas.List.{length-append}
use Rattle.c_syntax.specs.declared.token.CSign.TheVariants as s
use Rattle.c_syntax.specs.Tokens as t
use Rattle.c_syntax.specs.Tokens.{Token, token_text, include_text, define_text}
use Rattle.c_syntax.specs.Text.{Lexeme, Piece, piece, fixed_piece, first_pieces, is_blank, past_run, before_mark, IsAt, AreTokensOf, AreFirst}
use Rattle.c_syntax.specs.Reading.{tokens_in}
use Rattle.c_syntax.specs.Canonical.{gap, text_of_tokens, begins_else, line_feed, space, IsReadable, AreReadable}
use Rattle.c_reader_laws.proofs.OfPrinterLaws.Pieces.{blank, blank_unmarked, pieced}
use Rattle.c_reader_laws.proofs.OfPrinterLaws.Plain.{ArePlain}

-- ---- one token, and the blank after it

chosen : (d : Bool) → (g : Bool) × ((if d then space else line_feed) ≡ blank g ∷ [])
chosen true = (true, refl)
chosen false = (false, refl)

gap_is : (x : Token) (xs : List Token) → (g : Bool) × (gap x xs ≡ blank g ∷ [])
gap_is (t.sign s.Semicolon) xs = (false, refl)
gap_is (t.sign s.OpenBrace) xs = (false, refl)
gap_is (t.sign s.CloseBrace) xs = chosen (begins_else xs)
gap_is _ xs = (true, refl)

-- a token with its blank stands before the rest
spaced : (x : Token) (xs : List Token) (g : Bool) (rest : List ℕ) → gap x xs ≡ blank g ∷ [] → (token_text x ++ gap x xs) ++ rest ≡ token_text x ++ blank g ∷ rest
spaced x xs g rest is = ap (λ y. (token_text x ++ y) ++ rest) is ∙ append_assoc (token_text x) (blank g ∷ []) rest

-- ---- tokens that are written

abbrev placed : ℕ → Token → List ℕ → Lexeme
placed total x bs = record { token = x; at = total - length bs }

abbrev pub lexed : ℕ → List Token → List Lexeme
lexed total [] = []
lexed total (x ∷ xs) = placed total x (text_of_tokens (x ∷ xs)) ∷ lexed total xs

pub lexed_tokens : (total : ℕ) (xs : List Token) → tokens_in (lexed total xs) ≡ xs
lexed_tokens total [] = refl
lexed_tokens total (x ∷ xs) = ap (λ ys. x ∷ ys) (lexed_tokens total xs)

solid_first : (b : ℕ) (bs : List ℕ) → is_blank b ≡ false → past_run is_blank (b ∷ bs) ≡ b ∷ bs
solid_first b bs solid = rw solid refl

after_blank : (g : Bool) (total : ℕ) (bs : List ℕ) (ls : List Lexeme) → AreTokensOf total bs ls → AreTokensOf total (blank g ∷ bs) ls
after_blank true total bs [] are = are
after_blank true total bs (l ∷ ls) are = are
after_blank false total bs [] are = are
after_blank false total bs (l ∷ ls) are = are

-- the token stands where its text begins
stands : (total : ℕ) (x y : Token) (bs cs : List ℕ) → bs ≡ cs → x ≡ y → length bs ≤ total → IsAt total cs (placed total x bs) y
stands total x y bs cs same equal fits = let size : length bs ≡ length cs = ap length same in (equal, omega (arith, size, fits))

written_read : (total : ℕ) (xs : List Token) → ArePlain xs → AreReadable xs → length (text_of_tokens xs) ≤ total → AreTokensOf total (text_of_tokens xs) (lexed total xs)
written_read total [] plain readable fits = refl
written_read total (x ∷ xs) plain readable fits =
    let g = gap_is x xs in
    let p = pieced x g.0 (text_of_tokens xs) plain.0 readable.0 in
    let same : text_of_tokens (x ∷ xs) ≡ token_text x ++ blank g.0 ∷ text_of_tokens xs = spaced x xs g.0 (text_of_tokens xs) g.1 in
    let begins : text_of_tokens (x ∷ xs) ≡ p.byte ∷ p.more = same ∙ p.begins in
    let size : length (text_of_tokens (x ∷ xs)) ≡ length (token_text x) + suc (length (text_of_tokens xs)) = ap length same ∙ length-append (token_text x) (blank g.0 ∷ text_of_tokens xs) in
    let less : length (text_of_tokens xs) ≤ total = omega (arith, size, fits) in (
      p.byte,
      p.more,
      ap (past_run is_blank) begins ∙ solid_first p.byte p.more p.solid,
      stands total x ((piece p.byte p.more).0) (text_of_tokens (x ∷ xs)) (p.byte ∷ p.more) begins (sym (ap (λ q. q.0) p.is)) fits,
      subst (λ q. AreTokensOf total (q.1) (lexed total xs)) (sym p.is) (after_blank g.0 total (text_of_tokens xs) (lexed total xs) (written_read total xs plain.1 readable.1 less)),
    )

-- no mark of a certificate begins in it
written_unmarked : (xs : List Token) (tail : List ℕ) → ArePlain xs → AreReadable xs → before_mark (text_of_tokens xs ++ tail) ≡ text_of_tokens xs ++ before_mark tail
written_unmarked [] tail plain readable = refl
written_unmarked (x ∷ xs) tail plain readable =
    let g = gap_is x xs in
    let p = pieced x g.0 (text_of_tokens xs ++ tail) plain.0 readable.0 in
    let spread : (rest : List ℕ) → text_of_tokens (x ∷ xs) ++ rest ≡ token_text x ++ blank g.0 ∷ (text_of_tokens xs ++ rest) = λ rest.
    append_assoc (token_text x ++ gap x xs) (text_of_tokens xs) rest ∙ spaced x xs g.0 (text_of_tokens xs ++ rest) g.1 in
    ap before_mark (spread tail) ∙ p.unmarked
    ∙ ap (λ y. token_text x ++ y) (blank_unmarked g.0 (text_of_tokens xs ++ tail) ∙ ap (λ y. blank g.0 ∷ y) (written_unmarked xs tail plain.1 readable.1))
    ∙ sym (spread (before_mark tail))

-- ---- the two first lines

abbrev after_include : ℕ → List ℕ → List ℕ
after_include main rest = 10 ∷ (define_text ++ (decimal main ++ 10 ∷ rest))

abbrev pub first_lines : ℕ → List ℕ → List ℕ
first_lines main rest = include_text ++ after_include main rest

abbrev pub all_lexed : ℕ → ℕ → List Token → List Lexeme
all_lexed total main xs =
    placed total t.include (first_lines main (text_of_tokens xs)) ∷ placed total t.line_end (after_include main (text_of_tokens xs))
    ∷ placed total t.define (define_text ++ (decimal main ++ 10 ∷ text_of_tokens xs)) ∷ placed total (t.number (pos main)) (decimal main ++ 10 ∷ text_of_tokens xs)
    ∷ placed total t.line_end (10 ∷ text_of_tokens xs) ∷ lexed total xs

pub all_tokens : (total main : ℕ) (xs : List Token) → tokens_in (all_lexed total main xs) ≡ t.include ∷ t.line_end ∷ t.define ∷ t.number (pos main) ∷ t.line_end ∷ xs
all_tokens total main xs = ap (λ ys. t.include ∷ t.line_end ∷ t.define ∷ t.number (pos main) ∷ t.line_end ∷ ys) (lexed_tokens total xs)

-- the first of these pieces is this token, and that text stands after it
first_taken : (p : ℕ → List ℕ → Piece) (ps : List (ℕ → List ℕ → Piece)) (total : ℕ) (bs after more : List ℕ) (b : ℕ) (x : Token) (ls : List Lexeme)
    → bs ≡ b ∷ more → p b more ≡ (x, after) → length bs ≤ total → AreFirst ps total after ls → AreFirst (p ∷ ps) total bs (placed total x bs ∷ ls)
first_taken p ps total bs after more b x ls begins is fits rest =
    subst (λ cs. AreFirst (p ∷ ps) total cs (placed total x bs ∷ ls)) (sym begins)
    (stands total x ((p b more).0) bs (b ∷ more) begins (sym (ap (λ q. q.0) is)) fits, subst (λ q. AreFirst ps total (q.1) ls) (sym is) rest)

pub text_read : (total main : ℕ) (xs : List Token) → IsReadable (t.number (pos main)) → ArePlain xs → AreReadable xs → length (first_lines main (text_of_tokens xs)) ≤ total
    → AreFirst first_pieces total (first_lines main (text_of_tokens xs)) (all_lexed total main xs)
text_read total main xs number plain readable fits =
    let rest : List ℕ = text_of_tokens xs in
    let digits : List ℕ = decimal main ++ 10 ∷ rest in
    let p = pieced (t.number (pos main)) false rest refl number in
    let whole : length (first_lines main rest) ≡ length include_text + length (after_include main rest) = length-append include_text (after_include main rest) in
    let second : length (define_text ++ digits) ≡ length define_text + length digits = length-append define_text digits in
    let last : length digits ≡ length (decimal main) + suc (length rest) = length-append (decimal main) (10 ∷ rest) in
    let at_end : length (after_include main rest) ≤ total = omega (arith, whole, fits) in
    let at_define : length (define_text ++ digits) ≤ total = omega (arith, at_end) in
    let at_digits : length digits ≤ total = omega (arith, second, at_define) in
    let at_last : suc (length rest) ≤ total = omega (arith, last, at_digits) in
    let last_line : AreFirst (fixed_piece t.line_end ∷ []) total (10 ∷ rest) (placed total t.line_end (10 ∷ rest) ∷ lexed total xs) =
    (stands total t.line_end t.line_end (10 ∷ rest) (10 ∷ rest) refl refl at_last, written_read total xs plain readable (omega (arith, at_last))) in (
      stands total t.include t.include (first_lines main rest) (first_lines main rest) refl refl fits,
      (
        stands total t.line_end t.line_end (after_include main rest) (after_include main rest) refl refl at_end,
        (
          stands total t.define t.define (define_text ++ digits) (define_text ++ digits) refl refl at_define,
          first_taken piece (fixed_piece t.line_end ∷ []) total digits (10 ∷ rest) p.more p.byte (t.number (pos main)) (placed total t.line_end (10 ∷ rest) ∷ lexed total xs) p.begins p.is at_digits last_line,
        ),
      ),
    )

pub text_unmarked : (main : ℕ) (xs : List Token) (tail : List ℕ) → IsReadable (t.number (pos main)) → ArePlain xs → AreReadable xs
    → before_mark (first_lines main (text_of_tokens xs) ++ tail) ≡ first_lines main (text_of_tokens xs) ++ before_mark tail
text_unmarked main xs tail number plain readable =
    let p = pieced (t.number (pos main)) false (text_of_tokens xs ++ tail) refl number in
    let spread : (rest : List ℕ) → (decimal main ++ 10 ∷ text_of_tokens xs) ++ rest ≡ decimal main ++ 10 ∷ (text_of_tokens xs ++ rest) = λ rest. append_assoc (decimal main) (10 ∷ text_of_tokens xs) rest in
    ap (λ y. include_text ++ 10 ∷ (define_text ++ y))
    (ap before_mark (spread tail) ∙ p.unmarked ∙ ap (λ y. decimal main ++ 10 ∷ y) (written_unmarked xs tail plain readable) ∙ sym (spread (before_mark tail)))
