use Rattle.std.proofs.Common.{◌+◌, map, Some, Err, sym, subst, arith}
use Rattle.std.proofs.lemmas.List.{length-map}
use Rattle.vlt_core.specs.View.{ty_of}
use Rattle.vlt_meaning.specs.Externals.{type_in}
use Rattle.vlt_acts.specs.Values.Shown.{IsRowSet}
use Rattle.vlt_externals.specs.HostAnswers.Read.{piece_view}
use Rattle.vlt_externals.proofs.OfHostAnswers.Reading.{as_some}
use Rattle.vlt_externals.specs.Results.Results.{MakesPart, PutsPieces}
use Rattle.vlt_externals.proofs.OfResults.Making.{piece_full, one_piece}
use Rattle.vlt_externals.proofs.results.results.+put_pieces.Goals as goal

pub returns-in-Err-clause-puts : goal.returns-in-Err-clause-puts
returns-in-Err-clause-puts t c =
    subst (λ ts. PutsPieces (map ty_of ts) c.args.left.now c.args.to c.args.values.now c.args.values.now c.args.heap.now c.slot_of.new.heap (Err c.in-Err.e)) (sym c.in-Some.ensures.cases.0)
    (piece_full c.args.values.now c.args.values.now c.args.heap.now c.slot_of.new.heap (ty_of c.in-Some.t.now) (map ty_of c.in-Some.rest.now) c.args.left.now c.in-Some-read_piece.left.now c.args.to (piece_view c.in-Some-read_piece.p) c.in-Err.e (as_some piece_view c.read_piece.result _ _ _ c.in-Some-read_piece.is c.read_piece.ensures)
    (subst (MakesPart (type_in (Some (ty_of c.in-Some.t.now))) (piece_view c.in-Some-read_piece.p) c.args.heap.now c.slot_of.new.heap) c.in-Err.is c.slot_of.ensures.makes))

pub returns-in-Ok-clause-puts : goal.returns-in-Ok-clause-puts
returns-in-Ok-clause-puts t c =
    subst (λ ts. PutsPieces (map ty_of ts) c.args.left.now c.args.to c.args.values.now c.put_pieces.new.values c.args.heap.now c.put_pieces.new.heap c.put_pieces.result) (sym c.in-Some.ensures.cases.0)
    (one_piece c.args.values.now c.set_slot.new.self c.put_pieces.new.values c.args.heap.now c.slot_of.new.heap c.put_pieces.new.heap (ty_of c.in-Some.t.now) (map ty_of c.in-Some.rest.now) c.args.left.now c.in-Some-read_piece.left.now c.args.to (c.args.to + 1) (piece_view c.in-Some-read_piece.p) c.in-Ok.a c.put_pieces.result (omega arith) c.slot_of.ensures.size.heap (as_some piece_view c.read_piece.result _ _ _ c.in-Some-read_piece.is c.read_piece.ensures)
    (subst (MakesPart (type_in (Some (ty_of c.in-Some.t.now))) (piece_view c.in-Some-read_piece.p) c.args.heap.now c.slot_of.new.heap) c.in-Ok.is c.slot_of.ensures.makes) c.set_slot.ensures
    (subst (λ n. IsRowSet (c.args.to + 1) n c.set_slot.new.self c.put_pieces.new.values) (sym (length-map c.in-Some.rest.now ty_of)) c.put_pieces.ensures.set) c.put_pieces.ensures.puts)
