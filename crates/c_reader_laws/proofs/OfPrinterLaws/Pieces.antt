-- Each token is read back from its text, where a blank stands after it, and no mark of a certificate begins in it.
use Rattle.std.proofs.Common.{◌≡◌, ◌≤◌, ℕ, pos, ◌==◌, not, Bool, true, false, List, [], ◌∷◌, ◌++◌, None, refl, sym, ap, ◌∙◌, subst, arith, append_assoc}
use Rattle.std.specs.Fmt.{decimal}
use Rattle.std.specs.List.{list_all}
use Rattle.std.specs.Str.{bytes_eq}
use Rattle.std.proofs.lemmas.Bool.{and_parts}
use Rattle.std.proofs.lemmas.Bool.Decides.{nat_tests}
use Rattle.std.proofs.lemmas.Slice.Eq.{bytes_eq-Decides}
use Rattle.vlt_ops.specs.declared.Op.{Op}
use Rattle.vlt_ops.specs.declared.Op.TheVariants as op
use Rattle.c_syntax.specs.declared.program.CPrim.{CPrim}
use Rattle.c_syntax.specs.declared.program.CPrim.TheVariants as prim
use Rattle.c_syntax.specs.declared.program.TheConstants.CPrim as prims
use Rattle.c_syntax.specs.declared.token.CWord.{CWord}
use Rattle.c_syntax.specs.declared.token.CWord.TheVariants as w
use Rattle.c_syntax.specs.declared.token.CSign.{CSign}
use Rattle.c_syntax.specs.declared.token.CSign.TheVariants as s
use Rattle.c_syntax.specs.declared.token.TheConstants.CWord as words
use Rattle.c_syntax.specs.Tokens as t
use Rattle.c_syntax.specs.Tokens.{Token, word_text, prim_text, token_text}
use Rattle.c_syntax.specs.Text.{is_blank, is_digit, is_run_byte, run, past_run, max_number, number_of, item_with_text, word_of, prim_of, letter_token, run_token, is_text_name, piece, sign_piece, before_mark}
use Rattle.c_syntax.specs.Canonical.{EachIs, IsReadable}
use Rattle.c_reader_laws.proofs.OfPrinterLaws.Numerals.{numeral}

-- ---- the blank after a token

-- a space, or the end of a line
abbrev pub blank : Bool → ℕ
blank true = 32
blank false = 10

ends_run : (g : Bool) → is_run_byte (blank g) ≡ false
ends_run true = refl
ends_run false = refl

pub blank_unmarked : (g : Bool) (rest : List ℕ) → before_mark (blank g ∷ rest) ≡ blank g ∷ before_mark rest
blank_unmarked true rest = refl
blank_unmarked false rest = refl

-- ---- runs

run_whole : (is : ℕ → Bool) (front : List ℕ) (b : ℕ) (rest : List ℕ) → EachIs is front → is b ≡ false → run is (front ++ b ∷ rest) ≡ front
run_whole is [] b rest each stops = rw stops refl
run_whole is (c ∷ front) b rest each stops = rw (each.0) (ap (λ x. c ∷ x) (run_whole is front b rest each.1 stops))

past_whole : (is : ℕ → Bool) (front : List ℕ) (b : ℕ) (rest : List ℕ) → EachIs is front → is b ≡ false → past_run is (front ++ b ∷ rest) ≡ b ∷ rest
past_whole is [] b rest each stops = rw stops refl
past_whole is (c ∷ front) b rest each stops = rw (each.0) (past_whole is front b rest each.1 stops)

run_solid : (b : ℕ) → is_run_byte b ≡ true → is_blank b ≡ false
run_solid b is = grind (arith, is, nat_tests)

no_slash : (b : ℕ) → is_run_byte b ≡ true → (47 == b) ≡ false
no_slash b is = grind (arith, is, nat_tests)

digit_runs : (b : ℕ) → is_digit b ≡ true → is_run_byte b ≡ true
digit_runs b is = rw is refl

digits_run : (ds : List ℕ) → EachIs is_digit ds → EachIs is_run_byte ds
digits_run [] each = tt
digits_run (d ∷ ds) each = (digit_runs d each.0, digits_run ds each.1)

run_unmarked : (front rest : List ℕ) → EachIs is_run_byte front → before_mark (front ++ rest) ≡ front ++ before_mark rest
run_unmarked [] rest each = refl
run_unmarked (b ∷ front) rest each = rw (no_slash b each.0) (ap (λ x. b ∷ x) (run_unmarked front rest each.1))

-- ---- what is read of a token's text

pub record Pieced (x : Token) (g : Bool) (rest : List ℕ) : Type 0 where
  pub byte : ℕ
  pub more : List ℕ
  pub begins : token_text x ++ blank g ∷ rest ≡ byte ∷ more
  pub solid : is_blank byte ≡ false
  pub is : piece byte more ≡ (x, blank g ∷ rest)
  pub unmarked : before_mark (token_text x ++ blank g ∷ rest) ≡ token_text x ++ before_mark (blank g ∷ rest)

-- the text is a run that is this token
record IsRun (x : Token) : Type 0 where
  first : ℕ
  others : List ℕ
  are : token_text x ≡ first ∷ others
  runs : EachIs is_run_byte (first ∷ others)
  token : run_token (first ∷ others) ≡ x

of_run : (x : Token) (g : Bool) (rest : List ℕ) → IsRun x → Pieced x g rest
of_run x g rest r = record {
  byte = r.first;
  more = r.others ++ blank g ∷ rest;
  begins = ap (λ cs. cs ++ blank g ∷ rest) r.are;
  solid = run_solid r.first r.runs.0;
  is = rw (r.runs.0) (rw (run_whole is_run_byte r.others (blank g) rest r.runs.1 (ends_run g), past_whole is_run_byte r.others (blank g) rest r.runs.1 (ends_run g))
      (ap (λ y. (y, blank g ∷ rest)) r.token));
  unmarked = run_unmarked (token_text x) (blank g ∷ rest) (subst (EachIs is_run_byte) (sym r.are) r.runs);
}

-- ---- words and primitives

abbrev is_run : List ℕ → Bool
is_run [] = false
is_run (b ∷ bs) = list_all is_run_byte (b ∷ bs)

each_of : (bs : List ℕ) → list_all is_run_byte bs ≡ true → EachIs is_run_byte bs
each_of [] all = tt
each_of (b ∷ bs) all = let both = and_parts (is_run_byte b) (list_all is_run_byte bs) all in (both.0, each_of bs both.1)

fixed_run : (x : Token) → (run_token (token_text x) ≡ x) × (is_run (token_text x) ≡ true) → IsRun x
fixed_run x both = by (token_text x) refl both.0 both.1
  where
    by : (cs : List ℕ) → token_text x ≡ cs → run_token cs ≡ x → is_run cs ≡ true → IsRun x
    by [] are token runs = absurd cc
    by (c ∷ cs) are token runs = record { first = c; others = cs; are = are; runs = each_of (c ∷ cs) runs; token = token }

word_read : (x : CWord) → (run_token (word_text x) ≡ t.word x) × (is_run (word_text x) ≡ true)
unfolding word_of prim_of
word_read w.Void = (refl, refl)
word_read w.Long = (refl, refl)
word_read w.Ref = (refl, refl)
word_read w.If = (refl, refl)
word_read w.Else = (refl, refl)
word_read w.While = (refl, refl)
word_read w.Break = (refl, refl)
word_read w.Continue = (refl, refl)
word_read w.Return = (refl, refl)
word_read w.Null = (refl, refl)
word_read w.Numbers = (refl, refl)
word_read w.References = (refl, refl)

prim_read : (p : CPrim) → (run_token (prim_text p) ≡ t.primitive p) × (is_run (prim_text p) ≡ true)
unfolding word_of prim_of
prim_read prim.New = (refl, refl)
prim_read prim.Own = (refl, refl)
prim_read prim.Disown = (refl, refl)
prim_read prim.Parent = (refl, refl)
prim_read prim.Release = (refl, refl)
prim_read prim.Trap = (refl, refl)
prim_read prim.Print = (refl, refl)
prim_read prim.Read = (refl, refl)
prim_read prim.More = (refl, refl)
prim_read prim.PutN = (refl, refl)
prim_read prim.GetN = (refl, refl)
prim_read prim.PutP = (refl, refl)
prim_read prim.GetP = (refl, refl)
prim_read prim.Call = (refl, refl)
prim_read prim.ArgN = (refl, refl)
prim_read prim.ArgP = (refl, refl)
prim_read prim.Ask = (refl, refl)
prim_read prim.Int = (refl, refl)
prim_read prim.Pick = (refl, refl)
prim_read prim.Out = (refl, refl)
prim_read prim.Back = (refl, refl)
prim_read prim.End = (refl, refl)

-- ---- numbers and names

abbrev starts_digit : List ℕ → Bool
starts_digit [] = false
starts_digit (b ∷ bs) = is_digit b

-- a letter and a digit
abbrev starts_named : List ℕ → Bool
starts_named (b ∷ c ∷ bs) = is_digit c
starts_named _ = false

not_both : (d : Bool) → not d ≡ true → d ≡ true → ⊥
not_both true e h = cc
not_both false e h = cc

unlike : (test : List ℕ → Bool) (bs cs : List ℕ) → not (test bs) ≡ true → test cs ≡ true → bytes_eq bs cs ≡ false
unlike test bs cs other this = by (bytes_eq bs cs) refl
  where
    by : (d : Bool) → bytes_eq bs cs ≡ d → bytes_eq bs cs ≡ false
    by false is = is
    by true is = absurd (not_both (test bs) other (ap test ((bytes_eq-Decides bs cs).0 is) ∙ this))

not_spelled : {X : Type 0} (of : X → List ℕ) (test : List ℕ → Bool) (xs : List X) (cs : List ℕ) → list_all (λ x. not (test (of x))) xs ≡ true → test cs ≡ true → item_with_text of xs cs ≡ None
not_spelled of test [] cs all this = refl
not_spelled of test (x ∷ xs) cs all this =
    let both = and_parts (not (test (of x))) (list_all (λ y. not (test (of y))) xs) all in
    rw (unlike test (of x) cs both.0 this) (not_spelled of test xs cs both.1 this)

no_word : (test : List ℕ → Bool) (cs : List ℕ) → list_all (λ x. not (test (word_text x))) words.ALL ≡ true → test cs ≡ true → word_of cs ≡ None
unfolding word_of
no_word test cs all this = not_spelled word_text test words.ALL cs all this

no_prim : (test : List ℕ → Bool) (cs : List ℕ) → list_all (λ x. not (test (prim_text x))) prims.ALL ≡ true → test cs ≡ true → prim_of cs ≡ None
unfolding prim_of
no_prim test cs all this = not_spelled prim_text test prims.ALL cs all this

number_run : (n : ℕ) → n ≤ max_number → IsRun (t.number (pos n))
number_run n fits =
    let d = numeral n fits in
    let starts : starts_digit (decimal n) ≡ true = subst (λ ds. EachIs is_digit ds → starts_digit ds ≡ true) (sym d.are) (λ each. each.0) d.digits in
    record {
      first = d.first;
      others = d.others;
      are = d.are;
      runs = subst (EachIs is_run_byte) d.are (digits_run (decimal n) d.digits);
      token = subst (λ ds. run_token ds ≡ t.number (pos n)) d.are (rw (no_word starts_digit (decimal n) refl starts, no_prim starts_digit (decimal n) refl starts, d.number) refl);
    }

letter_run : (x : Token) (b n : ℕ) → n ≤ max_number → token_text x ≡ b ∷ decimal n → is_run_byte b ≡ true → ((c : ℕ) (cs : List ℕ) → number_of (b ∷ c ∷ cs) ≡ None) → letter_token b n ≡ x → IsRun x
letter_run x b n fits are runs other read =
    let d = numeral n fits in
    let starts : starts_named (b ∷ decimal n) ≡ true = subst (λ ds. EachIs is_digit ds → starts_named (b ∷ ds) ≡ true) (sym d.are) (λ each. each.0) d.digits in
    let no_number : number_of (b ∷ decimal n) ≡ None = ap (λ ds. number_of (b ∷ ds)) d.are ∙ other d.first d.others in
    record {
      first = b;
      others = decimal n;
      are = are;
      runs = (runs, digits_run (decimal n) d.digits);
      token = rw (no_word starts_named (b ∷ decimal n) refl starts, no_prim starts_named (b ∷ decimal n) refl starts, no_number, d.number) read;
    }

variable_run : (reference : Bool) (n : ℕ) → n ≤ max_number → IsRun (t.variable (record { reference = reference; number = n }))
variable_run true n fits = letter_run (t.variable (record { reference = true; number = n })) 112 n fits refl refl (λ c cs. refl) refl
variable_run false n fits = letter_run (t.variable (record { reference = false; number = n })) 110 n fits refl refl (λ c cs. refl) refl

name_run : (glue : Bool) (n : ℕ) → n ≤ max_number → IsRun (t.name (record { glue = glue; number = n }))
name_run true n fits = letter_run (t.name (record { glue = true; number = n })) 101 n fits refl refl (λ c cs. refl) refl
name_run false n fits = letter_run (t.name (record { glue = false; number = n })) 102 n fits refl refl (λ c cs. refl) refl

-- ---- strings

text_unmarked : (cs rest : List ℕ) → EachIs is_run_byte cs → before_mark ((cs ++ 34 ∷ []) ++ rest) ≡ (cs ++ 34 ∷ []) ++ before_mark rest
text_unmarked cs rest runs =
    ap before_mark (append_assoc cs (34 ∷ []) rest) ∙ run_unmarked cs (34 ∷ rest) runs ∙ sym (append_assoc cs (34 ∷ []) (before_mark rest))

text_pieced : (cs : List ℕ) (g : Bool) (rest : List ℕ) → is_text_name cs ≡ true → EachIs is_run_byte cs → Pieced (t.text cs) g rest
text_pieced cs g rest name runs = record {
  byte = 34;
  more = cs ++ 34 ∷ blank g ∷ rest;
  begins = ap (λ x. 34 ∷ x) (append_assoc cs (34 ∷ []) (blank g ∷ rest));
  solid = refl;
  is = rw (run_whole is_run_byte cs 34 (blank g ∷ rest) runs refl, past_whole is_run_byte cs 34 (blank g ∷ rest) runs refl, name) refl;
  unmarked = ap (λ x. 34 ∷ x) (text_unmarked cs (blank g ∷ rest) runs);
}

-- ---- signs and operators

of_sign : (x : Token) (g : Bool) (rest : List ℕ) (b : ℕ) (cs : List ℕ) → token_text x ≡ b ∷ cs → is_blank b ≡ false → piece b (cs ++ blank g ∷ rest) ≡ (x, blank g ∷ rest)
    → before_mark (token_text x ++ blank g ∷ rest) ≡ token_text x ++ before_mark (blank g ∷ rest) → Pieced x g rest
of_sign x g rest b cs are solid is unmarked =
    record { byte = b; more = cs ++ blank g ∷ rest; begins = ap (λ y. y ++ blank g ∷ rest) are; solid = solid; is = is; unmarked = unmarked }

sign_pieced : (x : CSign) (g : Bool) (rest : List ℕ) → Pieced (t.sign x) g rest
unfolding sign_piece
sign_pieced s.Arrow g rest = of_sign (t.sign s.Arrow) g rest 45 (62 ∷ []) refl refl refl refl
sign_pieced s.OpenBrace g rest = of_sign (t.sign s.OpenBrace) g rest 123 [] refl refl refl refl
sign_pieced s.CloseBrace g rest = of_sign (t.sign s.CloseBrace) g rest 125 [] refl refl refl refl
sign_pieced s.OpenParen g rest = of_sign (t.sign s.OpenParen) g rest 40 [] refl refl refl refl
sign_pieced s.CloseParen g rest = of_sign (t.sign s.CloseParen) g rest 41 [] refl refl refl refl
sign_pieced s.OpenBracket g rest = of_sign (t.sign s.OpenBracket) g rest 91 [] refl refl refl refl
sign_pieced s.CloseBracket g rest = of_sign (t.sign s.CloseBracket) g rest 93 [] refl refl refl refl
sign_pieced s.Semicolon g rest = of_sign (t.sign s.Semicolon) g rest 59 [] refl refl refl refl
sign_pieced s.Comma g rest = of_sign (t.sign s.Comma) g rest 44 [] refl refl refl refl
sign_pieced s.Assign true rest = of_sign (t.sign s.Assign) true rest 61 [] refl refl refl refl
sign_pieced s.Assign false rest = of_sign (t.sign s.Assign) false rest 61 [] refl refl refl refl

-- each token but those of the two first lines, and `-` as the operator before an operand
abbrev pub is_plain : Token → Bool
is_plain t.include = false
is_plain t.line_end = false
is_plain t.define = false
is_plain (t.operator op.Negate) = false
is_plain t.stray = false
is_plain _ = true

operator_pieced : (o : Op) (g : Bool) (rest : List ℕ) → is_plain (t.operator o) ≡ true → Pieced (t.operator o) g rest
unfolding sign_piece
operator_pieced op.Negate g rest plain = absurd cc
operator_pieced op.Not true rest plain = of_sign (t.operator op.Not) true rest 33 [] refl refl refl refl
operator_pieced op.Not false rest plain = of_sign (t.operator op.Not) false rest 33 [] refl refl refl refl
operator_pieced op.Multiply g rest plain = of_sign (t.operator op.Multiply) g rest 42 [] refl refl refl refl
operator_pieced op.Divide true rest plain = of_sign (t.operator op.Divide) true rest 47 [] refl refl refl refl
operator_pieced op.Divide false rest plain = of_sign (t.operator op.Divide) false rest 47 [] refl refl refl refl
operator_pieced op.Remainder g rest plain = of_sign (t.operator op.Remainder) g rest 37 [] refl refl refl refl
operator_pieced op.Add g rest plain = of_sign (t.operator op.Add) g rest 43 [] refl refl refl refl
operator_pieced op.Subtract true rest plain = of_sign (t.operator op.Subtract) true rest 45 [] refl refl refl refl
operator_pieced op.Subtract false rest plain = of_sign (t.operator op.Subtract) false rest 45 [] refl refl refl refl
operator_pieced op.Less true rest plain = of_sign (t.operator op.Less) true rest 60 [] refl refl refl refl
operator_pieced op.Less false rest plain = of_sign (t.operator op.Less) false rest 60 [] refl refl refl refl
operator_pieced op.LessOrEqual g rest plain = of_sign (t.operator op.LessOrEqual) g rest 60 (61 ∷ []) refl refl refl refl
operator_pieced op.Greater true rest plain = of_sign (t.operator op.Greater) true rest 62 [] refl refl refl refl
operator_pieced op.Greater false rest plain = of_sign (t.operator op.Greater) false rest 62 [] refl refl refl refl
operator_pieced op.GreaterOrEqual g rest plain = of_sign (t.operator op.GreaterOrEqual) g rest 62 (61 ∷ []) refl refl refl refl
operator_pieced op.Equal g rest plain = of_sign (t.operator op.Equal) g rest 61 (61 ∷ []) refl refl refl refl
operator_pieced op.NotEqual g rest plain = of_sign (t.operator op.NotEqual) g rest 33 (61 ∷ []) refl refl refl refl
operator_pieced op.BitAnd true rest plain = of_sign (t.operator op.BitAnd) true rest 38 [] refl refl refl refl
operator_pieced op.BitAnd false rest plain = of_sign (t.operator op.BitAnd) false rest 38 [] refl refl refl refl
operator_pieced op.BitXor g rest plain = of_sign (t.operator op.BitXor) g rest 94 [] refl refl refl refl
operator_pieced op.BitOr true rest plain = of_sign (t.operator op.BitOr) true rest 124 [] refl refl refl refl
operator_pieced op.BitOr false rest plain = of_sign (t.operator op.BitOr) false rest 124 [] refl refl refl refl
operator_pieced op.And g rest plain = of_sign (t.operator op.And) g rest 38 (38 ∷ []) refl refl refl refl
operator_pieced op.Or g rest plain = of_sign (t.operator op.Or) g rest 124 (124 ∷ []) refl refl refl refl

-- ---- each token

pub pieced : (x : Token) (g : Bool) (rest : List ℕ) → is_plain x ≡ true → IsReadable x → Pieced x g rest
pieced t.include g rest plain is = absurd cc
pieced t.line_end g rest plain is = absurd cc
pieced t.define g rest plain is = absurd cc
pieced (t.word x) g rest plain is = of_run (t.word x) g rest (fixed_run (t.word x) (word_read x))
pieced (t.sign x) g rest plain is = sign_pieced x g rest
pieced (t.operator o) g rest plain is = operator_pieced o g rest plain
pieced (t.primitive p) g rest plain is = of_run (t.primitive p) g rest (fixed_run (t.primitive p) (prim_read p))
pieced (t.variable v) g rest plain is = of_run (t.variable v) g rest (variable_run v.reference v.number is)
pieced (t.name f) g rest plain is = of_run (t.name f) g rest (name_run f.glue f.number is)
pieced (t.number z) g rest plain (n, same, fits) = subst (λ k. Pieced (t.number k) g rest) (sym same) (of_run (t.number (pos n)) g rest (number_run n fits))
pieced (t.text cs) g rest plain (name, runs) = text_pieced cs g rest name runs
pieced t.stray g rest plain is = absurd cc
