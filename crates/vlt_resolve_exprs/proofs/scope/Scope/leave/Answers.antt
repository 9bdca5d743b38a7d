use Rattle.std.proofs.Common.{◌∙◌, ap, sym}
use Rattle.std.proofs.lemmas.List.{take-map}
use Rattle.vlt_core.specs.View.{tok_of}
use Rattle.vlt_resolve_exprs.specs.Seen.{names_seen, scope_seen, left_with}
use Rattle.vlt_resolve_exprs.proofs.scope.Scope.leave.Goals as goal

pub returns : goal.returns
returns c =
    ap (λ es. record (left_with c.args.outer (scope_seen c.args.self.now)) { names = es })
    (ap names_seen c.truncate.ensures.entries ∙ sym (take-map (λ e. (e.0.now, tok_of e.1)) c.args.outer.names c.args.self.now.names.entries))
