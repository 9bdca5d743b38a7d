-- Why the lexer is stuck, and where.
use Rattle.std.specs.Prelude.{ℕ}
use Rattle.vlt_lexer.specs.declared.scan.Stuck.{Stuck}
use Rattle.vlt_lexer.specs.declared.scan.Stuck.TheVariants as stuck
use Rattle.vlt_lexer.specs.declared.LexError.{LexError}
use Rattle.vlt_lexer.specs.declared.LexError.TheVariants as error

abbrev pub error_at : Stuck → ℕ → LexError
error_at stuck.BadByte at = error.BadByte at
error_at stuck.NumberTooLarge at = error.NumberTooLarge at
error_at stuck.OpenComment at = error.OpenComment at
