use Rattle.std.proofs.Common.{◌∙◌, sym}
use Rattle.vlt_core.specs.View.{keys_of}
use Rattle.cert_kinds_stmts.proofs.Owned.{next_owned, other_owned}
use Rattle.cert_kinds_stmts.proofs.opened.+owning_at.Goals as goal

pub returns-else-place-eq0 : goal.returns-else-place-eq0
returns-else-place-eq0 t c =
    c.owning_at.ensures ∙ next_owned (keys_of c.args.args.now) c.args.fields.now c.d-item.result c.args.place c.in-len1-up.len_at_least c.d-item.is
    (sym c.is_owning.ensures ∙ c.if-is_owning.true) c.if-place-eq0.false

pub returns-else-is_owning : goal.returns-else-is_owning
returns-else-is_owning t c =
    c.owning_at-else-is_owning.ensures ∙ other_owned (keys_of c.args.args.now) c.args.fields.now c.d-item.result c.args.place c.in-len1-up.len_at_least c.d-item.is
    (sym c.is_owning.ensures ∙ c.if-is_owning.false)
