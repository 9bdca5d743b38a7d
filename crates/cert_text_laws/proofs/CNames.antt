-- The name of an external of a text that is ASCII is a name of C.
use Rattle.std.proofs.Common.{◌≡◌, ℕ, zero, suc, ◌<◌, ◌==◌, Bool, true, false, true≢false, ◌||◌, ◌&&◌, List, [], ◌∷◌, refl, sym, ap, ◌∙◌, subst, arith}
use Rattle.std.specs.Prelude.{encode_utf8_all}
use Rattle.std.specs.List.{list_all}
use Rattle.std.specs.Char.{is_ascii}
use Rattle.std.specs.Int.{is_in_range}
use Rattle.std.specs.Str.{IsAscii}
use Rattle.std.proofs.lemmas.Bool.{ltb-true, and_parts}
use Rattle.std.proofs.lemmas.Str.{encodes-IsAscii, encodes_same}
use Rattle.unicode_ident.proofs.IdentLemmas.{is_xid_start-ascii, is_xid_continue-ascii}
use Rattle.vlt_tokens.specs.Characters.{is_name_start, is_name_more, EachIs, IsName}
use Rattle.vlt_tokens.specs.declared.token.TokenKind.{TokenKind}
use Rattle.vlt_tokens.specs.declared.token.TokenKind.TheVariants as kind
use Rattle.vlt_tokens.specs.Lexemes.{IsOf}
use Rattle.vlt_syntax.specs.Tokens as t
use Rattle.vlt_syntax.specs.Tokens.{Token, token_from}
use Rattle.vlt_syntax.specs.Tree as s
use Rattle.vlt_syntax.specs.Tree.{Decl, Tree}
use Rattle.vlt_syntax.specs.Lists.{Each, each_then}
use Rattle.vlt_syntax.specs.Spelling.{decl_then, spelling}
use Rattle.vlt_syntax_laws.proofs.TextTokens.{each_token}
use Rattle.vlt_syntax_laws.proofs.Tokenwise.{after_result_type, after_decl}
use Rattle.cert_rows.specs.Rows.{is_letter, is_c_character, is_c_name}
use Rattle.cert_text_laws.specs.Texts.{IsInText}
use Rattle.cert_text_laws.proofs.InTexts.{each_has}

ascii_bytes : (bs : List ℕ) → list_all is_ascii bs ≡ true → IsAscii bs
ascii_bytes [] e i = omega arith
ascii_bytes (b ∷ bs) e zero = ltb-true b 128 (and_parts (is_ascii b) _ e).0
ascii_bytes (b ∷ bs) e (suc i) = ascii_bytes bs (and_parts (is_ascii b) _ e).1 i

letter_bools : (x y z : Bool) → (z || (x || y)) ≡ true → (x || y || z) ≡ true
letter_bools true true true e = refl
letter_bools true true false e = refl
letter_bools true false true e = refl
letter_bools true false false e = refl
letter_bools false true true e = refl
letter_bools false true false e = refl
letter_bools false false true e = refl
letter_bools false false false e = absurd (true≢false (sym e))

character_bools : (d x y z : Bool) → (((d || x) || y) || z) ≡ true → ((x || y || z) || d) ≡ true
character_bools d true true true e = refl
character_bools d true true false e = refl
character_bools d true false true e = refl
character_bools d true false false e = refl
character_bools d false true true e = refl
character_bools d false true false e = refl
character_bools d false false true e = refl
character_bools true false false false e = refl
character_bools false false false false e = absurd (true≢false (sym e))

starts : (c : ℕ) → c < 128 → is_name_start c ≡ true → is_letter c ≡ true
starts c less is =
    letter_bools (is_in_range 65 90 c) (is_in_range 97 122 c) (c == 95) (ap (λ b. (c == 95) || b) (sym (is_xid_start-ascii c less)) ∙ is)

goes_on : (c : ℕ) → c < 128 → is_name_more c ≡ true → is_c_character c ≡ true
goes_on c less is =
    character_bools (is_in_range 48 57 c) (is_in_range 65 90 c) (is_in_range 97 122 c) (c == 95) (sym (is_xid_continue-ascii c less) ∙ is)

both : (a b : Bool) → a ≡ true → b ≡ true → (a && b) ≡ true
both a b x y = ap (λ c. c && b) x ∙ y

all_characters : (cs : List ℕ) → list_all is_ascii cs ≡ true → EachIs is_name_more cs → list_all is_c_character cs ≡ true
all_characters [] e is = refl
all_characters (c ∷ cs) e is =
    let here = and_parts (is_ascii c) _ e in
    both (is_c_character c) (list_all is_c_character cs) (goes_on c (ltb-true c 128 here.0) is.0) (all_characters cs here.1 is.1)

c_name_of : (cs : List ℕ) → list_all is_ascii cs ≡ true → IsName cs → is_c_name cs ≡ true
c_name_of [] e is = absurd is
c_name_of (c ∷ cs) e is =
    let here = and_parts (is_ascii c) _ e in
    both (is_letter c) (list_all is_c_character cs) (starts c (ltb-true c 128 here.0) is.0) (all_characters cs here.1 is.1)

c_named : (piece text : List ℕ) → IsName piece → text ≡ encode_utf8_all piece → list_all is_ascii text ≡ true → is_c_name text ≡ true
c_named piece text is e ascii =
    let same : text ≡ piece = encodes_same text piece (encodes-IsAscii text (ascii_bytes text ascii) ∙ e) in
    c_name_of text ascii (subst IsName (sym same) is)

-- ---- tokens

abbrev pub HasCName : Token → Type 0
HasCName (t.name text) = list_all is_ascii text ≡ true → is_c_name text ≡ true
HasCName x = Unit {0}

named : (k : TokenKind) (piece text : List ℕ) → IsOf k piece → text ≡ encode_utf8_all piece → HasCName (token_from k text)
named kind.Name piece text is e = c_named piece text is.0 e
named kind.Tick piece text is e = tt
named (kind.Number z) piece text is e = tt
named (kind.Keyword w) piece text is e = tt
named (kind.Sign m) piece text is e = tt

-- ---- declarations

abbrev pub IsNamed : Decl → Type 0
IsNamed (s.extern h at) = list_all is_ascii h.name.text ≡ true → is_c_name h.name.text ≡ true
IsNamed d = Unit {0}

in_extern : (d : Decl) (rest : List Token) → Each HasCName (decl_then d rest) → IsNamed d
in_extern (s.stateset n ss at) rest h = tt
in_extern (s.abstract n ss at) rest h = tt
in_extern (s.struct n ps ss fs r at) rest h = tt
in_extern (s.variant n ps cs at) rest h = tt
in_extern (s.extern x at) rest h = (after_result_type HasCName x.result_type _ h.1).0
in_extern (s.function x b at) rest h = tt

in_externs : (ds : List Decl) (rest : List Token) → Each HasCName (each_then decl_then ds rest) → Each IsNamed ds
in_externs [] rest h = tt
in_externs (d ∷ ds) rest h = (in_extern d _ h, in_externs ds rest (after_decl HasCName d _ h))

pub text_names : (t : Tree) → Each IsInText (spelling t) → Each IsNamed t.decls
text_names t is = in_externs t.decls [] (each_has HasCName (each_token HasCName named) (spelling t) is)
