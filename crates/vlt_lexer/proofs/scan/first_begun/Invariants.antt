use Rattle.std.proofs.Common.{◌≡◌, drop}
use Rattle.std.specs.Str.{chars}
use Rattle.vlt_tokens.specs.Spelling.{sign_text}
use Rattle.vlt_lexer.specs.Steps.{first_beginning}
use Rattle.vlt_lexer.proofs.scan.first_begun.Given as goal

abbrev pub invariant-loop-mark : goal.invariant-loop-mark
invariant-loop-mark l = first_beginning sign_text (drop l.mark-index l.marks) (chars l.text) ≡ first_beginning sign_text l.marks (chars l.text)
