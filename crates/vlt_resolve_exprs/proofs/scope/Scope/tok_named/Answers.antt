use Rattle.std.proofs.Common.{◌∙◌, ap, option_map}
use Rattle.vlt_core.specs.View.{tok_of}
use Rattle.vlt_resolve_exprs.proofs.Named.{looked_up}
use Rattle.vlt_resolve_exprs.proofs.scope.Scope.tok_named.Goals as goal

pub returns : goal.returns
returns c = ap (option_map tok_of) (c.copied.ensures ∙ c.get.ensures.value) ∙ looked_up c.args.self.now.names.entries c.args.name.now
