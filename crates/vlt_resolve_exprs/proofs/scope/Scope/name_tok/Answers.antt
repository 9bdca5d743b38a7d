use Rattle.std.proofs.Common.{◌∙◌, ap}
use Rattle.vlt_resolve_exprs.specs.Seen.{names_seen, scope_seen}
use Rattle.vlt_resolve_exprs.proofs.Named.{named_more}
use Rattle.vlt_resolve_exprs.proofs.scope.Scope.name_tok.Goals as goal

pub returns : goal.returns
returns c =
    ap (λ es. record (scope_seen c.args.self.now) { names = es }) (ap names_seen c.in_ok-insert.ensures.entries ∙ named_more c.args.self.now.names.entries c.args.name c.args.tok)
