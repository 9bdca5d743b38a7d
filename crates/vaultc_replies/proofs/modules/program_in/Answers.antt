use Rattle.std.proofs.Common.{Err, sym, ap, ◌∙◌}
use Rattle.vlt_kinds_types.specs.declared.names.found.Refusal.{Refusal}
use Rattle.vaultc_replies.proofs.ModuleSteps.{no_kinds}
use Rattle.vaultc_replies.proofs.modules.program_in.Goals as goal

pub unreachable-requires : goal.unreachable-requires
unreachable-requires c =
    let e = c.in-Err-Rule in
    let r : Refusal = record { rule = e.field-0-0; at = e.field-0-1 } in
    no_kinds r c.requires.kinds (sym (c.tables.ensures.refused.holds r (e.is ∙ ap (λ x. Err x) e.field-0-is)) ∙ c.requires.told)
