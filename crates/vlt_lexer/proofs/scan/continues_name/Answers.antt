use Rattle.std.proofs.Common.{sym, ◌∙◌}
use Rattle.vlt_lexer.proofs.Ascii.{more_then, more_else}
use Rattle.vlt_lexer.proofs.scan.continues_name.Goals as goal

pub returns-then-is_ascii_alphanumeric : goal.returns-then-is_ascii_alphanumeric
returns-then-is_ascii_alphanumeric c =
    c.if-is_ascii_alphanumeric.true ∙ more_then c.args.c (sym c.if-is_ascii.true ∙ c.is_ascii.ensures)
    (sym c.if-is_ascii_alphanumeric.true ∙ c.is_ascii_alphanumeric.ensures.value)

pub returns-else-is_ascii_alphanumeric : goal.returns-else-is_ascii_alphanumeric
returns-else-is_ascii_alphanumeric c =
    more_else c.args.c (sym c.if-is_ascii.true ∙ c.is_ascii.ensures)
    (sym c.if-is_ascii_alphanumeric.false ∙ c.is_ascii_alphanumeric.ensures.value)
