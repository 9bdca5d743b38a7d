-- The names and ticks of a text are UTF-8, since the text is.
use Rattle.std.proofs.Common.{◌≡◌, ◌==◌, ℕ, Bool, true, false, if◌then◌else◌, List, [], ◌∷◌, ◌++◌, drop, Option, Some, None, IsUtf8, refl, sym, ap, ◌∙◌, subst}
use Rattle.std.specs.Prelude.{encode_utf8_all, codes}
use Rattle.std.specs.Str.{chars}
use Rattle.std.proofs.Math.Utf8.{scalar, scalars}
use Rattle.std.proofs.lemmas.Bool.{and_parts, and_from}
use Rattle.std.proofs.lemmas.Option.{same_Some, none-some}
use Rattle.std.proofs.lemmas.Str.{scalars-chars}
use Rattle.vlt_tokens.specs.declared.token.TokenKind.{TokenKind}
use Rattle.vlt_tokens.specs.declared.token.TokenKind.TheVariants as kind
use Rattle.vlt_tokens.specs.Characters.{after_line, following, or_else, after_close}
use Rattle.vlt_tokens.specs.Lexemes.{IsOf, Lexeme}
use Rattle.vlt_lexer.specs.Reading.{IsGap, blank, line, block, Reads, nothing, gap, token}
use Rattle.vlt_lexer.specs.Text.{IsTokensOf}
use Rattle.vlt_syntax.specs.Tokens as t
use Rattle.vlt_syntax.specs.Tokens.{Token, token_from, tokens_in}
use Rattle.vlt_syntax.specs.Lists.{Each}

abbrev AreScalars : List ℕ → Type 0
AreScalars cs = scalars cs ≡ true

-- ---- parts of a list of characters

halves : (xs ys : List ℕ) → AreScalars (xs ++ ys) → AreScalars xs × AreScalars ys
halves [] ys h = (refl, h)
halves (x ∷ xs) ys h =
    let here = and_parts (scalar x) (scalars (xs ++ ys)) h in
    let rest = halves xs ys here.1 in
    (and_from (scalar x) (scalars xs) here.0 rest.0, rest.1)

rest_of : (c : ℕ) (cs : List ℕ) → AreScalars (c ∷ cs) → AreScalars cs
rest_of c cs h = (and_parts (scalar c) (scalars cs) h).1

line_left : (cs : List ℕ) → AreScalars cs → AreScalars (after_line cs)
line_left [] h = refl
line_left (c ∷ cs) h = by (c == 10) (line_left cs (rest_of c cs h))
  where
    by : (b : Bool) → AreScalars (after_line cs) → AreScalars (if b then cs else after_line cs)
    by true more = rest_of c cs h
    by false more = more

abbrev Leaves : Option (List ℕ) → Type 0
Leaves o = (after : List ℕ) → o ≡ Some after → AreScalars after

nothing_left : Leaves None
nothing_left after e = absurd (none-some after e)

all_left : (cs : List ℕ) → AreScalars cs → Leaves (Some cs)
all_left cs h after e = subst AreScalars (same_Some cs after e) h

after_left : (fs cs : List ℕ) → AreScalars cs → Leaves (following fs cs)
after_left [] cs h = all_left cs h
after_left (f ∷ fs) [] h = nothing_left
after_left (f ∷ fs) (c ∷ cs) h = by (f == c) (after_left fs cs (rest_of c cs h))
  where
    by : (b : Bool) → Leaves (following fs cs) → Leaves (if b then following fs cs else None)
    by true more = more
    by false more = nothing_left

either_left : (o other : Option (List ℕ)) → Leaves o → Leaves other → Leaves (or_else o other)
either_left None other h k = k
either_left (Some cs) other h k = h

close_left : (cs : List ℕ) → AreScalars cs → Leaves (after_close cs)
close_left [] h = nothing_left
close_left (c ∷ cs) h =
    either_left (following (codes "*/") (c ∷ cs)) (after_close cs) (after_left (codes "*/") (c ∷ cs) h) (close_left cs (rest_of c cs h))

gap_left : (cs after : List ℕ) → IsGap cs after → AreScalars cs → AreScalars after
gap_left cs after (blank _ c _ e _) h = rest_of c after (subst AreScalars e h)
gap_left cs after (line _ inside _ e f) h =
    subst AreScalars (sym f) (line_left inside (halves (codes "//") inside (subst AreScalars e h)).1)
gap_left cs after (block _ inside _ e f) h =
    close_left inside (halves (codes "/*") inside (subst AreScalars e h)).1 after f

-- ---- tokens

-- a name is UTF-8, and so is a tick without its `'`
abbrev pub HasText : Token → Type 0
HasText (t.name text) = IsUtf8 text
HasText (t.tick text) = IsUtf8 (drop 1 text)
HasText x = Unit {0}

encoded : (cs : List ℕ) → AreScalars cs → IsUtf8 (encode_utf8_all cs)
encoded cs h = (cs, (h, refl))

tick_dropped : (name : List ℕ) → drop 1 (encode_utf8_all (39 ∷ name)) ≡ encode_utf8_all name
unfolding lib.Utf8.encode
tick_dropped name = refl

has_text : (k : TokenKind) (piece text : List ℕ) → IsOf k piece → text ≡ encode_utf8_all piece → AreScalars piece → HasText (token_from k text)
has_text kind.Name piece text is e h = subst IsUtf8 (sym e) (encoded piece h)
has_text kind.Tick piece text is e h =
    subst IsUtf8 (sym (ap (drop 1) (e ∙ ap encode_utf8_all is.1) ∙ tick_dropped is.0))
    (encoded is.0 (rest_of 39 is.0 (subst AreScalars is.1 h)))
has_text (kind.Number z) piece text is e h = tt
has_text (kind.Keyword w) piece text is e h = tt
has_text (kind.Sign m) piece text is e h = tt

each_read : (total : ℕ) (cs : List ℕ) (ls : List Lexeme) (left : List ℕ) → Reads total cs ls left → AreScalars cs → Each HasText (tokens_in ls)
each_read total cs _ _ (nothing _) h = tt
each_read total cs ls left (gap _ after _ _ g r) h = each_read total after ls left r (gap_left cs after g h)
each_read total cs _ left (token _ l after ls _ is r) h =
    let parts = halves is.piece after (subst AreScalars is.begins h) in
    (has_text l.kind is.piece l.text is.kind is.text parts.0, each_read total after ls left r parts.1)

pub texts_have_text : (bytes : List ℕ) (ls : List Lexeme) → IsTokensOf bytes ls → Each HasText (tokens_in ls)
texts_have_text bytes ls is = each_read _ (chars bytes) ls [] is.1 (scalars-chars bytes is.0)
