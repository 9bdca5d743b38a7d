use Rattle.vlt_tokens.specs.Lexemes.{lexemes}
use Rattle.vlt_lexer.proofs.OneAnswer.{one_list, all_tokens, all_refusals, all_slices}
use Rattle.vlt_lexer.proofs.lex.Goals as goal

pub returns-clause-all_tokens : goal.returns-clause-all_tokens
returns-clause-all_tokens c = λ ls is few. all_tokens (λ found. lexemes found.items) c.args.text.now c.read.result c.read.ensures.tokens c.read.ensures.refused ls is few

pub returns-clause-all_refusals : goal.returns-clause-all_refusals
returns-clause-all_refusals c = λ refusal is. all_refusals (λ found. lexemes found.items) c.args.text.now c.read.result c.read.ensures.tokens c.read.ensures.few c.read.ensures.refused refusal is

pub returns-clause-one_list : goal.returns-clause-one_list
returns-clause-one_list c = λ ls ms p q. one_list c.args.text.now ls ms p q

pub returns-clause-slices : goal.returns-clause-slices
returns-clause-slices c = all_slices (λ found. lexemes found.items) c.args.text.now c.read.result c.read.ensures.tokens
