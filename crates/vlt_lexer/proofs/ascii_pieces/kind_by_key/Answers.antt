use Rattle.std.proofs.Common.{ap, sym, ◌∙◌}
use Rattle.vlt_lexer.specs.AsciiPieces.{word_with_key}
use Rattle.vlt_lexer.specs.Steps.{kind_of}
use Rattle.vlt_lexer.proofs.Keys.{long_no_word, word_by_key}
use Rattle.vlt_lexer.proofs.ascii_pieces.kind_by_key.Goals as goal

pub returns-then-name-gt8 : goal.returns-then-name-gt8
returns-then-name-gt8 c = sym (ap kind_of (long_no_word c.args.name.now c.if-name-gt8.true))

pub returns-in-Some : goal.returns-in-Some
returns-in-Some c = ap kind_of (sym c.in-Some.is ∙ c.keyword_with_key.ensures ∙ ap word_with_key c.requires.key ∙ word_by_key c.args.name.now c.if-name-gt8.false c.requires.letters)

pub returns-in-None : goal.returns-in-None
returns-in-None c = ap kind_of (sym c.in-None.is ∙ c.keyword_with_key.ensures ∙ ap word_with_key c.requires.key ∙ word_by_key c.args.name.now c.if-name-gt8.false c.requires.letters)
