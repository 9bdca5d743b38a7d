-- The refusal that an error tells.
use Rattle.std.specs.Prelude.{List}
use Rattle.vlt_tokens.specs.Lexemes.{Lexeme}
use Rattle.vlt_syntax.specs.Refusals.{IsRefusal, unexpected_at, over_limit, ended}
use Rattle.vlt_parser_exprs.specs.declared.error.ParseError.{ParseError}
use Rattle.vlt_parser_exprs.specs.declared.error.ParseError.TheVariants as error

-- The tokens are refused by the grammar for the error's reason. Want of memory is no refusal.
abbrev pub IsRefusedFor : List Lexeme → ParseError → Type 0
IsRefusedFor ls (error.Unexpected at) = IsRefusal ls (unexpected_at at)
IsRefusedFor ls error.EndOfText = IsRefusal ls ended
IsRefusedFor ls (error.Limit n) = IsRefusal ls (over_limit n)
IsRefusedFor ls error.Memory = Unit {0}
