use Rattle.std.proofs.Common.{◌∙◌, sym, ap, not}
use Rattle.vlt_core.specs.Lookups.{is_new}
use Rattle.cert_kinds_heads.proofs.Entries.{few_where}
use Rattle.cert_kinds_heads.proofs.clauses.+has_few_new.Goals as goal

pub returns-then-is_new : goal.returns-then-is_new
returns-then-is_new t c =
    ap not c.any_new.ensures ∙ few_where is_new c.args.clause.now c.e-item.result c.in-len1-up.len_at_least c.e-item.is (sym c.is_new.ensures ∙ c.if-is_new.true)
