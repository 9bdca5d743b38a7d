use Rattle.std.proofs.Common.{sym, ◌∙◌}
use Rattle.vlt_lexer.proofs.Ascii.{start_then, start_else}
use Rattle.vlt_lexer.proofs.scan.starts_name.Goals as goal

pub returns-then-is_ascii_alphabetic : goal.returns-then-is_ascii_alphabetic
returns-then-is_ascii_alphabetic c =
    c.if-is_ascii_alphabetic.true ∙ start_then c.args.c (sym c.if-is_ascii.true ∙ c.is_ascii.ensures)
    (sym c.if-is_ascii_alphabetic.true ∙ c.is_ascii_alphabetic.ensures.value)

pub returns-else-is_ascii_alphabetic : goal.returns-else-is_ascii_alphabetic
returns-else-is_ascii_alphabetic c =
    start_else c.args.c (sym c.if-is_ascii.true ∙ c.is_ascii.ensures)
    (sym c.if-is_ascii_alphabetic.false ∙ c.is_ascii_alphabetic.ensures.value)
