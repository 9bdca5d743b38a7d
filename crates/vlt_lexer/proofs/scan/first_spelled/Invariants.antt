use Rattle.std.proofs.Common.{◌≡◌, drop}
use Rattle.vlt_tokens.specs.Spelling.{word_text}
use Rattle.vlt_lexer.specs.Steps.{item_with_text}
use Rattle.vlt_lexer.proofs.scan.first_spelled.Given as goal

abbrev pub invariant-loop-word : goal.invariant-loop-word
invariant-loop-word l = item_with_text word_text (drop l.word-index l.words) l.name ≡ item_with_text word_text l.words l.name
