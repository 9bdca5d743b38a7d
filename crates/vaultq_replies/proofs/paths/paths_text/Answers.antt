use Rattle.std.proofs.Common.{◌≡◌, length, ap, ◌∙◌, Err, arith}
use Rattle.std.proofs.lemmas.List.{length-map}
use Rattle.vlt_core.specs.View.{program_of}
use Rattle.vlt_syntax.specs.View.{tree_of}
use Rattle.vlt_check.proofs.Unfitting.{unfit_cause}
use Rattle.vlt_points.specs.Lines.{names_by}
use Rattle.vaultc_replies.specs.Variables.{variable_in}
use Rattle.vaultq_replies.proofs.Named.{by_number, shown_as}
use Rattle.vaultq_replies.proofs.paths.paths_text.Goals as goal

pub unreachable-requires : goal.unreachable-requires
unreachable-requires c =
    c.requires.listable.shown (unfit_cause c.all_paths.result c.all_paths.ensures.unfit (c.in-Err-Unfit.is ∙ ap (λ e. Err e) c.in-Err-Unfit.field-0-is))

pub returns-in-Ok : goal.returns-in-Ok
returns-in-Ok c =
    let names = c.as_slice.result.now in
    let size : length (program_of c.args.program.now).fns ≡ length c.args.program.now.fns = simp length-map in
    shown_as c.args.text.now (program_of c.args.program.now) (names_by names) (variable_in (tree_of c.args.tree.now)) c.in-Ok.lines.items
    (λ n less. ap (λ l. names_by l n) c.as_slice.ensures.value ∙ c.in_ok-variables.ensures n (omega (arith, less, size, c.len.ensures)))
    (c.in-Ok.ensures.lines (names_by names) (by_number names))
