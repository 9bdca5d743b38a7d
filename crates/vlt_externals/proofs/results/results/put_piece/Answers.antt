use Rattle.std.proofs.Common.{subst}
use Rattle.vlt_core.specs.View.{ty_of}
use Rattle.vlt_externals.specs.HostAnswers.Read.{piece_view}
use Rattle.vlt_externals.proofs.OfHostAnswers.Reading.{as_some}
use Rattle.vlt_externals.specs.Results.Results.{MakesPart}
use Rattle.vlt_externals.proofs.OfResults.Giving.{single_put, single_full}
use Rattle.vlt_externals.proofs.results.results.put_piece.Goals as goal

pub returns-in-Err-clause-puts : goal.returns-in-Err-clause-puts
returns-in-Err-clause-puts c =
    single_full c.args.values.now c.args.values.now c.args.heap.now c.slot_of.new.heap (ty_of c.args.t.now) c.args.left.now c.in-Some.field-0-1.now c.args.to (piece_view c.in-Some.p) (as_some piece_view c.read_piece.result _ _ _ c.in-Some.is c.read_piece.ensures) c.in-Err.e
    (subst (MakesPart _ (piece_view c.in-Some.p) c.args.heap.now c.slot_of.new.heap) c.in-Err.is c.slot_of.ensures.makes)

pub returns-in-Ok-clause-puts : goal.returns-in-Ok-clause-puts
returns-in-Ok-clause-puts c =
    single_put c.args.values.now c.put_single.new.self c.args.heap.now c.slot_of.new.heap (ty_of c.args.t.now) c.args.left.now c.in-Some.field-0-1.now c.args.to (piece_view c.in-Some.p) (as_some piece_view c.read_piece.result _ _ _ c.in-Some.is c.read_piece.ensures) c.in-Ok.a
    (subst (MakesPart _ (piece_view c.in-Some.p) c.args.heap.now c.slot_of.new.heap) c.in-Ok.is c.slot_of.ensures.makes) c.requires.wide c.put_single.ensures.kept c.put_single.ensures.filled
