use Rattle.std.proofs.Common.{Err, ap, ◌∙◌}
use Rattle.vlt_core.specs.View.{program_of, func_of}
use Rattle.cert_check.specs.Notes.{plain_notes, notes_of_all}
use Rattle.cert_check.proofs.Causes.{not_true}
use Rattle.cert_check.proofs.Telling.{get_at, external_told, external_unfit, func_holds, func_refused, func_unfit, refused_told, unfit_told, blank_of, filled_of}
use Rattle.cert_check.proofs.whole.test_at.Goals as goal

pub returns-then-is_empty : goal.returns-then-is_empty
returns-then-is_empty c =
    let there = get_at func_of c.args.p.now.fns c.args.g _ c.requires.there (rw c.as_slice.ensures at c.index-as_slice-g.is) in
    external_told (program_of c.args.p.now) (notes_of_all c.args.all.now) c.args.g c.args.first (func_of c.index-as_slice-g.result) there c.requires.first c.if-f.true (blank_of _ (c.is_empty.ensures.0 c.if-is_empty.true))

pub returns-else-is_empty : goal.returns-else-is_empty
returns-else-is_empty c =
    let there = get_at func_of c.args.p.now.fns c.args.g _ c.requires.there (rw c.as_slice.ensures at c.index-as_slice-g.is) in
    external_unfit (program_of c.args.p.now) (notes_of_all c.args.all.now) c.args.g c.args.first (func_of c.index-as_slice-g.result) there c.requires.first c.if-f.true
    (filled_of _ (λ e. not_true _ c.if-is_empty.false (c.is_empty.ensures.1 e)))

pub returns-in-Ok : goal.returns-in-Ok
returns-in-Ok c =
    let there = get_at func_of c.args.p.now.fns c.args.g _ c.requires.there (rw c.as_slice.ensures at c.index-as_slice-g.is) in
    let noted = get_at plain_notes c.args.all.now c.args.g _ c.requires.noted c.index-all-g.is in
    let told = rw c.as_slice-2.ensures at c.in-Ok.ensures.outcome in
    func_holds (program_of c.args.p.now) (notes_of_all c.args.all.now) c.args.g c.args.first (func_of c.index-as_slice-g.result) there c.requires.first _ noted c.if-f.false c.in-Ok.count told.0 told.1

pub returns-in-Err-Refused : goal.returns-in-Err-Refused
returns-in-Err-Refused c =
    let there = get_at func_of c.args.p.now.fns c.args.g _ c.requires.there (rw c.as_slice.ensures at c.index-as_slice-g.is) in
    let noted = get_at plain_notes c.args.all.now c.args.g _ c.requires.noted c.index-all-g.is in
    let told = rw c.as_slice-2.ensures at c.test_func.ensures in
    func_refused (program_of c.args.p.now) (notes_of_all c.args.all.now) c.args.g c.args.first (func_of c.index-as_slice-g.result) there c.requires.first _ noted c.if-f.false _ c.in-Err-Refused.x c.refusal_at.ensures
    (refused_told c.test_func.result c.in-Err-Refused.x (c.in-Err-Refused.is ∙ ap (λ x. Err x) c.in-Err-Refused.field-0-is) told).0

pub returns-in-Err-Unfit : goal.returns-in-Err-Unfit
returns-in-Err-Unfit c =
    let there = get_at func_of c.args.p.now.fns c.args.g _ c.requires.there (rw c.as_slice.ensures at c.index-as_slice-g.is) in
    let noted = get_at plain_notes c.args.all.now c.args.g _ c.requires.noted c.index-all-g.is in
    let told = rw c.as_slice-2.ensures at c.test_func.ensures in
    func_unfit (program_of c.args.p.now) (notes_of_all c.args.all.now) c.args.g c.args.first (func_of c.index-as_slice-g.result) there c.requires.first _ noted c.if-f.false
    (unfit_told c.test_func.result (c.in-Err-Unfit.is ∙ ap (λ x. Err x) c.in-Err-Unfit.field-0-is) told)
