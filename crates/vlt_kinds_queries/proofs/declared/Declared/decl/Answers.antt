use Rattle.vlt_kinds_queries.proofs.Range.{known_at}
use Rattle.vlt_kinds_queries.proofs.declared.Declared.decl.Goals as goal

pub returns-clause-known : goal.returns-clause-known
returns-clause-known c = known_at _ _ _ _ c.args.self.now.known c.in_ok-decl.ensures.lookup.3.0 c.in_ok-decl.ensures.lookup.1
