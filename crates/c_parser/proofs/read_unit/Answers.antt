use Rattle.std.proofs.Common.{◌∙◌, ap, sym, subst, arith}
use Rattle.c_syntax.specs.Text.{IsTokensOf}
use Rattle.c_lexer.specs.View.{lexemes_of, tokens_from}
use Rattle.c_lexer.proofs.Lexing.{tokens_same}
use Rattle.c_parser.proofs.read_unit.Goals as goal

pub lex-requires : goal.lex-requires
lex-requires c = omega (arith, c.before_mark.ensures.no_longer, c.requires.size)

pub returns-clause-reads : goal.returns-clause-reads
returns-clause-reads c = record {
  tokens = subst (λ x. IsTokensOf x (lexemes_of c.in_ok-lexemes.lexemes.items)) c.before_mark.ensures.cut c.in_ok-lexemes.ensures;
  spelled = tokens_same c.in_ok-lexemes.lexemes.items ∙ ap (λ ls. tokens_from ls 0) (sym c.deref.ensures.value) ∙ c.in_ok-unit.ensures.spelled;
  within = c.in_ok-unit.ensures.within;
}
