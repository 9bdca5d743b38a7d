use Rattle.std.proofs.Common.{◌∙◌, sym, ap, not}
use Rattle.vlt_core.specs.KindedHeads.{is_bound_entry}
use Rattle.cert_kinds_heads.proofs.Entries.{few_where}
use Rattle.cert_kinds_heads.proofs.clauses.+has_few_bounds.Goals as goal

pub returns-then-is_bound : goal.returns-then-is_bound
returns-then-is_bound t c =
    ap not c.any_bound.ensures ∙ few_where is_bound_entry c.args.clause.now c.e-item.result c.in-len1-up.len_at_least c.e-item.is (sym c.is_bound.ensures ∙ c.if-is_bound.true)
