use Rattle.c_parser.proofs.Statements.{return_reads, return_is}
use Rattle.c_parser.proofs.simple.after_return.Goals as goal

pub returns-clause-reads : goal.returns-clause-reads
returns-clause-reads c = return_reads c.args.lexemes.now c.args.at c.in_ok-value.next c.in_ok-value.value c.in_ok-value.ensures.reads

pub returns-clause-is : goal.returns-clause-is
returns-clause-is c = return_is c.in_ok-value.value c.in_ok-value.ensures.is
