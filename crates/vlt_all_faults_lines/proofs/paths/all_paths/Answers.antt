use Rattle.std.proofs.Common.{◌≡◌, ◌<◌, ◌≤◌, ◌+◌, ◌++◌, [], map, unwrap_or, codes, ap, arith, inr, length, refl, rules, sym, subst, slice_get, Some, ◌∙◌}
use Rattle.std.specs.Fmt.{decimal}
use Rattle.std.proofs.lemmas.List.{length-map}
use Rattle.vlt_core.specs.View.{program_of, func_of}
use Rattle.vlt_faults.proofs.OfJudge.Unfitting.{handed_unfit}
use Rattle.vlt_all_faults.specs.Tokens.{finding_of, findings_of}
use Rattle.vlt_all_faults_lines.specs.Lines.{IsShown, AreWrittenOf}
use Rattle.vlt_all_faults_lines.specs.Steps.{AreFaultsAt}
use Rattle.vlt_all_faults_lines.specs.Unfit.{untold}
use Rattle.vlt_all_faults_lines.proofs.Telling.{there_at, fit_at, telling_first, telling_more, shown_is_some, shown_by, faults_at, paths_told}
use Rattle.vlt_all_faults_lines.proofs.Untold.{untold_in, many_at}
use Rattle.vlt_all_faults_lines.proofs.paths.all_paths.Goals as goal

pub loop-f-init : goal.loop-f-init
loop-f-init c =
    let text = c.args.text.now in
    let p = program_of c.args.p.now in
    (c.text_start-place.ensures.is text, refl, λ variable named. telling_first func_of (λ n f. IsShown text p (variable n) n f) p c.args.p.now.fns _ c.new-out.ensures.items)

pub add_shown-requires-clause-faults : goal.add_shown-requires-clause-faults
add_shown-requires-clause-faults c =
    let p = program_of c.args.p.now in
    let f = c.f-item.result in
    let lt : c.loop-f.f-index < length c.args.p.now.fns = omega (arith, ap length c.as_slice-f-items.ensures) in
    let read = rw c.as_slice-f-items.ensures at c.f-item.is in
    let there = there_at func_of p c.args.p.now.fns c.loop-f.f-index f lt read refl in
    subst (λ l. AreFaultsAt p c.loop-f.number (findings_of l)) (sym c.as_slice.ensures.value)
    (faults_at p c.loop-f.number (func_of f) (findings_of c.in_ok-list.list.items) (subst (λ n. slice_get p.fns n ≡ Some (func_of f)) (sym c.loop-f.invariant.1) there)
    (c.in_ok-list.ensures.findings (fit_at func_of p c.args.p.now.fns c.loop-f.f-index f lt read refl c.requires.well_formed)))

pub overflow_add-count : goal.overflow_add-count
overflow_add-count c =
    let told = c.loop-f.invariant.2 (λ n. unwrap_or (slice_get (map (λ name. name.now) c.args.variables.now) n) []) (λ n. refl) in
    let few : c.loop-f.count ≤ length c.loop-f.out.items = told.few in
    search (rules, few)

pub loop-f-preserved : goal.loop-f-preserved
loop-f-preserved c =
    let text = c.args.text.now in
    let p = program_of c.args.p.now in
    let f = c.f-item.result in
    let lt : c.loop-f.f-index < length c.args.p.now.fns = omega (arith, ap length c.as_slice-f-items.ensures) in
    let read = rw c.as_slice-f-items.ensures at c.f-item.is in
    let xs = findings_of c.in_ok-list.list.items in
    let next : c.in-Some.next ≡ c.loop-f.number + 1 = search rules in
    let shown = c.in_ok-place.ensures.lines in (
      c.in_ok-place.ensures.place,
      next ∙ ap (λ n. n + 1) c.loop-f.invariant.1,
      λ variable named. telling_more func_of (λ n f. IsShown text p (variable n) n f) p c.args.p.now.fns c.loop-f.f-index f c.loop-f.out.items shown.0 _ c.loop-f.count _ xs lt read refl
          c.in_ok-list.ensures.findings (shown_is_some text p (variable c.loop-f.f-index) c.loop-f.f-index (func_of f))
          (shown_by text p variable c.args.variables.now _ c.loop-f.number c.loop-f.f-index (func_of f) xs shown.0 c.loop-f.invariant.1 named c.name_at.ensures
          (subst (λ l. AreWrittenOf (IsShown text p c.name_at.result.now c.loop-f.number (func_of f)) (findings_of l) shown.0) c.as_slice.ensures.value shown.1))
          shown.2 (let most = c.len-count.ensures in let mapped = length-map c.in_ok-list.list.items finding_of in omega (arith, most, mapped)) (c.loop-f.invariant.2 variable named),
    )

pub returns-clause-lines : goal.returns-clause-lines
returns-clause-lines c = λ variable named.
    paths_told func_of c.args.text.now (program_of c.args.p.now) variable c.args.p.now.fns _ _ c.loop-f.out.items _
    (omega (arith, c.loop-f-test.false, ap length c.as_slice-f-items.ensures)) refl (λ all counted. c.in_ok-add_count.ensures ∙ ap (λ n. c.loop-f.out.items ++ (codes "faults " ++ decimal n ++ codes "\n")) (sym counted)) (c.loop-f.invariant.2 variable named) c.requires.well_formed

pub returns-in_err-list-clause-unfit : goal.returns-in_err-list-clause-unfit
returns-in_err-list-clause-unfit c =
    let p = program_of c.args.p.now in
    let lt : c.loop-f.f-index < length c.args.p.now.fns = omega (arith, ap length c.as_slice-f-items.ensures) in
    let read = rw c.as_slice-f-items.ensures at c.f-item.is in
    handed_unfit _ _ c.from_residual.ensures.1
    (λ u. untold (untold_in p c.loop-f.f-index (func_of c.f-item.result) (there_at func_of p c.args.p.now.fns _ _ lt read refl) u)) c.in_err-list.ensures.unfit

pub returns-in-None-clause-unfit : goal.returns-in-None-clause-unfit
returns-in-None-clause-unfit c =
    let lt : c.loop-f.f-index < length c.args.p.now.fns = omega (arith, ap length c.as_slice-f-items.ensures) in
    inr (refl, many_at func_of (program_of c.args.p.now) c.args.p.now.fns c.loop-f.f-index (omega (arith, c.loop-f.invariant.1)) lt refl)
