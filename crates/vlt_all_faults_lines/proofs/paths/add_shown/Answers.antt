use Rattle.std.proofs.Common.{◌<◌, ◌++◌, arith, ap, ap₂, length, refl, subst, ◌∙◌, map}
use Rattle.std.proofs.lemmas.List.{append_assoc}
use Rattle.vlt_core.specs.View.{program_of, func_of}
use Rattle.vlt_all_faults.specs.Tokens.{finding_of}
use Rattle.vlt_all_faults_lines.specs.Lines.{IsShown}
use Rattle.vlt_all_faults_lines.specs.Steps.{AreFaultsAt}
use Rattle.vlt_all_faults_lines.proofs.Lists.{split_at, writing_first, writing_more, writing_ends}
use Rattle.vlt_all_faults_lines.proofs.paths.add_shown.Goals as goal

pub loop-told-init : goal.loop-told-init
loop-told-init c =
    let n = c.args.function.fn_id.0 in
    let W = IsShown c.args.text.now (program_of c.args.p.now) c.args.function.variable.now n (func_of c.args.function.f.now) in
    (c.requires.from, c.requires.faults, writing_first finding_of W c.args.list.now _ _ refl)

pub paths_of-requires-clause-fault : goal.paths_of-requires-clause-fault
paths_of-requires-clause-fault c =
    let lt : c.loop-told.told-index < length c.args.list.now = omega (arith, c.loop-told-test.true) in
    (subst (λ l. AreFaultsAt (program_of c.args.p.now) c.args.function.fn_id.0 (map finding_of l)) (split_at c.args.list.now c.loop-told.told-index c.told-item.result lt c.told-item.is) c.loop-told.invariant.1).0

pub loop-told-preserved : goal.loop-told-preserved
loop-told-preserved c =
    let text = c.args.text.now in
    let p = program_of c.args.p.now in
    let n = c.args.function.fn_id.0 in
    let f = func_of c.args.function.f.now in
    let W = IsShown text p c.args.function.variable.now n f in
    let y = c.told-item.result in
    let i = c.loop-told.told-index in
    let lt : i < length c.args.list.now = omega (arith, c.loop-told-test.true) in
    let line = c.in_ok-line.line.items in
    let paths = c.in_ok-paths.paths.items in
    let out = c.loop-told.out.items in
    let added = c.in_ok-extend_from_slice-2.ensures.items ∙
    ap₂ (λ o l. o ++ l) (c.in_ok-extend_from_slice.ensures.items ∙ ap (λ l. out ++ l) c.as_slice.ensures.value) c.as_slice-in-loop-told.ensures.value ∙
    append_assoc out line paths in
    let is_line = c.in_ok-line.ensures text y.blame.at c.place_from-place.ensures.line c.place_from-place.ensures.column in (
      c.place_from-place.ensures.is,
      (subst (λ l. AreFaultsAt p n (map finding_of l)) (split_at c.args.list.now i y lt c.told-item.is) c.loop-told.invariant.1).1,
      writing_more finding_of W c.args.list.now _ i y out (line ++ paths) _ lt c.told-item.is
          (paths, c.in_ok-paths.ensures.lines, ap (λ l. l ++ paths) is_line) added c.loop-told.invariant.2,
    )

pub returns-clause-lines : goal.returns-clause-lines
returns-clause-lines c =
    let n = c.args.function.fn_id.0 in
    let W = IsShown c.args.text.now (program_of c.args.p.now) c.args.function.variable.now n (func_of c.args.function.f.now) in
    writing_ends finding_of W c.args.list.now _ c.loop-told.told-index _ (omega (arith, c.loop-told-test.false)) c.loop-told.invariant.2
