use Rattle.c_reader_laws.proofs.OfSyntaxLaws.Lexed.{each_text_has_tokens}
use Rattle.c_reader_laws.proofs.syntax_laws.each_text_has_tokens.Goals as goal

pub returns : goal.returns
returns c = each_text_has_tokens
