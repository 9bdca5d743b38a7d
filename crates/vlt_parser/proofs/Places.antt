-- The tokens of a text and those of the code.
use Rattle.std.proofs.Common.{◌≡◌, List, [], ◌∷◌, refl, ap, map}
use Rattle.vlt_tokens.specs.declared.token.Token.{Token as CodeToken}
use Rattle.vlt_tokens.specs.Lexemes.{lexeme, lexemes, Lexeme}
use Rattle.vlt_syntax.specs.Tokens.{token_of, tokens_of, tokens_in}
use Rattle.vlt_automaton.specs.Language as m
use Rattle.vlt_parser_exprs.specs.declared.error.ParseError.{ParseError}
use Rattle.vlt_parser_exprs.specs.declared.error.ParseError.TheVariants as error
use Rattle.vlt_syntax_laws.proofs.Refused.{refused}
use Rattle.vlt_parser.specs.Refusals.{IsRefusedFor}
use Rattle.vlt_parser_exprs.specs.Ahead.{lexemes_from, Fails}

pub tokens_seen : (ts : List CodeToken) → tokens_in (lexemes ts) ≡ tokens_of ts
tokens_seen [] = refl
tokens_seen (x ∷ xs) = ap (λ ts. token_of x ∷ ts) (tokens_seen xs)

pub places_seen : (ts : List CodeToken) → map m.located_of (lexemes ts) ≡ lexemes_from ts 0
places_seen [] = refl
places_seen (x ∷ xs) = ap (λ ts. m.located_of (lexeme x) ∷ ts) (places_seen xs)

-- what the automaton refuses the grammar refuses
pub refused_for : (ls : List Lexeme) (e : ParseError) → Fails (m.verdict ls) e → IsRefusedFor ls e
refused_for ls (error.Unexpected at) fails = refused ls (m.unexpected_at at) (fails (m.unexpected_at at) refl)
refused_for ls error.EndOfText fails = refused ls m.ended (fails m.ended refl)
refused_for ls (error.Limit n) fails = refused ls (m.over_limit n) (fails (m.over_limit n) refl)
refused_for ls error.Memory fails = tt
