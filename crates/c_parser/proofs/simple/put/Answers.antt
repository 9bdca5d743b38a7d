use Rattle.c_parser.proofs.Statements.{put_reads, put_is}
use Rattle.c_parser.proofs.simple.put.Goals as goal

pub returns-clause-reads : goal.returns-clause-reads
returns-clause-reads c =
    put_reads c.args.lexemes.now c.args.at c.in_ok-cell.next c.in_ok-next.next c.in_ok-value.next c.args.variable c.in_ok-cell.cell c.in_ok-value.value
    c.requires c.in_ok-cell.ensures.reads c.in_ok-next.ensures.reads c.in_ok-value.ensures.reads

pub returns-clause-is : goal.returns-clause-is
returns-clause-is c = put_is c.in_ok-cell.cell c.in_ok-value.value c.in_ok-value.ensures.is
