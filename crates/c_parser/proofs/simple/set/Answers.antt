use Rattle.c_parser.proofs.Statements.{set_reads, set_is}
use Rattle.c_parser.proofs.simple.set.Goals as goal

pub returns-clause-reads : goal.returns-clause-reads
returns-clause-reads c = set_reads c.args.lexemes.now c.args.at c.in_ok-value-2.next c.args.variable c.in_ok-value-2.value c.in_ok-value-2.ensures.reads

pub returns-clause-is : goal.returns-clause-is
returns-clause-is c = set_is c.args.variable c.in_ok-value-2.value c.in_ok-value-2.ensures.is
