-- The ticks of a text begin with a `'`, and with them the names of cases in its declarations.
use Rattle.std.proofs.Common.{◌≡◌, ℕ, List, [], ◌∷◌, ap, ◌∙◌, subst}
use Rattle.std.specs.Prelude.{encode_utf8_all}
use Rattle.vlt_tokens.specs.declared.token.TokenKind.{TokenKind}
use Rattle.vlt_tokens.specs.declared.token.TokenKind.TheVariants as kind
use Rattle.vlt_tokens.specs.Lexemes.{IsOf, Lexeme}
use Rattle.vlt_lexer.specs.Text.{IsTokensOf}
use Rattle.vlt_syntax.specs.Tokens as t
use Rattle.vlt_syntax.specs.Tokens.{Token, token_from, tokens_in}
use Rattle.vlt_syntax.specs.Tree as s
use Rattle.vlt_syntax.specs.Tree.{Case, Decl, Tree}
use Rattle.vlt_syntax.specs.Lists.{Each, each_then}
use Rattle.vlt_syntax.specs.Spelling.{case_then, decl_then, spelling}
use Rattle.vlt_syntax_laws.specs.Ticks.{IsTick, HasTicks}
use Rattle.vlt_syntax_laws.proofs.TextTokens.{each_token}
use Rattle.vlt_syntax_laws.proofs.Tokenwise.{Spells, each_listed, after_case, after_header, after_decl}

-- a tick's bytes begin with a `'`
abbrev IsMarked : Token → Type 0
IsMarked (t.tick text) = (name : List ℕ) × (text ≡ 39 ∷ name)
IsMarked x = Unit {0}

marked : (k : TokenKind) (piece text : List ℕ) → IsOf k piece → text ≡ encode_utf8_all piece → IsMarked (token_from k text)
unfolding lib.Utf8.encode
marked kind.Name piece text is e = tt
marked kind.Tick piece text is e = (encode_utf8_all is.0, e ∙ ap encode_utf8_all is.1)
marked (kind.Number z) piece text is e = tt
marked (kind.Keyword w) piece text is e = tt
marked (kind.Sign m) piece text is e = tt

case_ticks : (cs : List Case) → Each (Spells IsMarked case_then) cs → Each (λ c. IsTick c.name) cs
case_ticks [] h = tt
case_ticks (c ∷ cs) h = (h.0.1.0, case_ticks cs h.1)

decl_ticks : (d : Decl) (rest : List Token) → Each IsMarked (decl_then d rest) → HasTicks d
decl_ticks (s.stateset n ss at) rest h = tt
decl_ticks (s.abstract n ss at) rest h = tt
decl_ticks (s.struct n ps ss fs r at) rest h = tt
decl_ticks (s.variant n ps cs at) rest h =
    case_ticks cs (each_listed IsMarked case_then (after_case IsMarked) _ cs rest (after_header IsMarked ps _ h.1.1).1)
decl_ticks (s.extern x at) rest h = tt
decl_ticks (s.function x b at) rest h = tt

file_ticks : (ds : List Decl) (rest : List Token) → Each IsMarked (each_then decl_then ds rest) → Each HasTicks ds
file_ticks [] rest h = tt
file_ticks (d ∷ ds) rest h = (decl_ticks d _ h, file_ticks ds rest (after_decl IsMarked d _ h))

pub text_ticks : (bytes : List ℕ) (ls : List Lexeme) (t : Tree) → IsTokensOf bytes ls → tokens_in ls ≡ spelling t → Each HasTicks t.decls
text_ticks bytes ls t is e = file_ticks t.decls [] (subst (Each IsMarked) e (each_token IsMarked marked bytes ls is))
