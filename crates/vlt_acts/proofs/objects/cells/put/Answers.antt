use Rattle.std.proofs.Common.{inr}
use Rattle.vlt_core.specs.View.{expr_of}
use Rattle.vlt_acts.specs.Values.Shown.{IsPlace}
use Rattle.vlt_acts.proofs.OfValues.Pushing.{grown_kept, seen_grown}
use Rattle.vlt_acts.proofs.OfObjects.Tables.{grown_cut}
use Rattle.vlt_acts.proofs.OfObjects.Putting.{put_does, put_traps}
use Rattle.vlt_acts.proofs.objects.cells.put.Goals as goal

pub returns-in-Ok-clause-does : goal.returns-in-Ok-clause-does
returns-in-Ok-clause-does k = λ c w n d same.
    let g = grown_kept k.args.values.now k.grow.new.self k.write.new.values k.len-end.result k.grow.ensures.grown k.len-end.ensures k.write.ensures.kept in
    let place : IsPlace k.grow.new.self k.len-end.result = inr (rw (k.grow.ensures.grown.base, k.grow.ensures.grown.vars, k.grow.ensures.grown.width, k.len-end.ensures) (k.requires.table)) in
    put_does k.args.heap.now k.args.values.now k.write.new.values k.truncate.new.self c w n d k.args.x.0 k.args.i k.len-end.result (expr_of k.args.e.now) k.write.result same g (grown_cut k.args.values.now k.write.new.values k.truncate.new.self k.len-end.result k.len-end.ensures g k.truncate.ensures.cut)
    k.set_cell.new.heap k.in-Ok.is (k.write.ensures.value (seen_grown k.args.heap.now k.args.values.now k.grow.new.self k.grow.ensures.grown c) place) k.set_cell.ensures.sets

pub returns-in-Err-clause-does : goal.returns-in-Err-clause-does
returns-in-Err-clause-does k = λ c w n d same.
    let g = grown_kept k.args.values.now k.grow.new.self k.write.new.values k.len-end.result k.grow.ensures.grown k.len-end.ensures k.write.ensures.kept in
    let place : IsPlace k.grow.new.self k.len-end.result = inr (rw (k.grow.ensures.grown.base, k.grow.ensures.grown.vars, k.grow.ensures.grown.width, k.len-end.ensures) (k.requires.table)) in
    put_traps k.args.heap.now k.args.values.now k.write.new.values k.truncate-in-Err.new.self c w n d k.args.x.0 k.args.i k.len-end.result (expr_of k.args.e.now) k.write.result same g (grown_cut k.args.values.now k.write.new.values k.truncate-in-Err.new.self k.len-end.result k.len-end.ensures g k.truncate-in-Err.ensures.cut)
    k.in-Err.t k.in-Err.is (k.write.ensures.value (seen_grown k.args.heap.now k.args.values.now k.grow.new.self k.grow.ensures.grown c) place)
