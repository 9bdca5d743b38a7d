use Rattle.std.proofs.Common.{◌≡◌, drop}
use Rattle.c_syntax.specs.Tokens.{word_text}
use Rattle.c_syntax.specs.Text.{item_with_text}
use Rattle.c_lexer.proofs.scan.first_word.Given as goal

abbrev pub invariant-loop-word : goal.invariant-loop-word
invariant-loop-word l = item_with_text word_text (drop l.word-index l.words) l.run ≡ item_with_text word_text l.words l.run
