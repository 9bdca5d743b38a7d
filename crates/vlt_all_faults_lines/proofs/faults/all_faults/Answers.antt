use Rattle.std.proofs.Common.{◌<◌, ◌++◌, ap, arith, codes, length, refl, sym, ◌∙◌}
use Rattle.std.specs.Fmt.{decimal}
use Rattle.std.specs.List.{flat_map}
use Rattle.std.proofs.lemmas.List.{length-map}
use Rattle.vlt_core.specs.View.{program_of, func_of}
use Rattle.vlt_faults.proofs.OfJudge.Unfitting.{handed_unfit}
use Rattle.vlt_all_faults.specs.Tokens.{finding_of, findings_of}
use Rattle.vlt_all_faults_lines.specs.Lines.{finding_line}
use Rattle.vlt_all_faults_lines.proofs.Telling.{there_at, telling_first, telling_more, IsLine, line_is_some, lines_written, faults_told}
use Rattle.vlt_all_faults_lines.proofs.Untold.{untold_in}
use Rattle.vlt_all_faults_lines.proofs.faults.all_faults.Goals as goal

pub loop-f-init : goal.loop-f-init
loop-f-init c =
    let text = c.args.text.now in
    let p = program_of c.args.p.now in
    (c.text_start-place.ensures.is text, telling_first func_of (IsLine text p) p c.args.p.now.fns _ c.new-out.ensures.items)

pub loop-f-preserved : goal.loop-f-preserved
loop-f-preserved c =
    let text = c.args.text.now in
    let p = program_of c.args.p.now in
    let f = c.f-item.result in
    let lt : c.loop-f.f-index < length c.args.p.now.fns = omega (arith, ap length c.as_slice-f-items.ensures) in
    let read = rw c.as_slice-f-items.ensures at c.f-item.is in
    let xs = findings_of c.in_ok-list.list.items in
    let lines = flat_map (finding_line text p (func_of f)) xs in (
      c.in_ok-place.ensures.place,
      telling_more func_of (IsLine text p) p c.args.p.now.fns c.loop-f.f-index f c.loop-f.out.items lines _ c.loop-f.count _ xs lt read refl
          c.in_ok-list.ensures.findings (line_is_some text p c.loop-f.f-index (func_of f)) (lines_written text p c.loop-f.f-index (func_of f) xs) (c.in_ok-place.ensures.lines ∙ ap (λ l. c.loop-f.out.items ++ flat_map (finding_line text p (func_of f)) (findings_of l)) c.as_slice.ensures.value)
          (let most = c.len-count.ensures in let mapped = length-map c.in_ok-list.list.items finding_of in omega (arith, most, mapped)) c.loop-f.invariant.1,
    )

pub returns-clause-lines : goal.returns-clause-lines
returns-clause-lines c =
    faults_told func_of c.args.text.now (program_of c.args.p.now) c.args.p.now.fns _ _ c.loop-f.out.items _
    (omega (arith, c.loop-f-test.false, ap length c.as_slice-f-items.ensures)) refl (λ all counted. c.in_ok-add_count.ensures ∙ ap (λ n. c.loop-f.out.items ++ (codes "faults " ++ decimal n ++ codes "\n")) (sym counted)) c.loop-f.invariant.1

pub returns-in_err-list-clause-unfit : goal.returns-in_err-list-clause-unfit
returns-in_err-list-clause-unfit c =
    let p = program_of c.args.p.now in
    let lt : c.loop-f.f-index < length c.args.p.now.fns = omega (arith, ap length c.as_slice-f-items.ensures) in
    let read = rw c.as_slice-f-items.ensures at c.f-item.is in
    handed_unfit _ _ c.from_residual.ensures.1
    (untold_in p c.loop-f.f-index (func_of c.f-item.result) (there_at func_of p c.args.p.now.fns _ _ lt read refl)) c.in_err-list.ensures.unfit
