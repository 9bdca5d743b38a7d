use Rattle.std.proofs.Common.{Some, Ok, Err, sym, subst}
use Rattle.vlt_core.specs.View.{ty_of}
use Rattle.vlt_heap.specs.declared.slots.Slot.TheVariants.{Owned}
use Rattle.vlt_meaning.specs.Externals.{type_in}
use Rattle.vlt_externals.specs.HostAnswers.Read.{piece_view}
use Rattle.vlt_externals.specs.Results.Results.{MakesIn, MakesPart}
use Rattle.vlt_externals.proofs.OfResults.Making.{owned_part, no_part}
use Rattle.vlt_externals.proofs.results.results.slot_of.Goals as goal

pub returns-in-Err-clause-makes : goal.returns-in-Err-clause-makes
returns-in-Err-clause-makes c =
    subst (λ x. MakesPart (type_in (Some (ty_of c.args.t.now))) (piece_view x) c.args.heap.now c.make_in.new.heap (Err c.in-Err.e)) (sym c.in-New.is)
    (no_part c.args.heap.now c.make_in.new.heap (type_in (Some (ty_of c.args.t.now))) c.in-New.state c.in-Err.e
    (subst (λ t. MakesIn t c.in-New.state c.args.heap.now c.make_in.new.heap (Err c.in-Err.e)) c.type_in.ensures (subst (MakesIn c.type_in.result.0 c.in-New.state c.args.heap.now c.make_in.new.heap) c.in-Err.is c.make_in.ensures.makes)))

pub returns-in-Ok-clause-makes : goal.returns-in-Ok-clause-makes
returns-in-Ok-clause-makes c =
    subst (λ x. MakesPart (type_in (Some (ty_of c.args.t.now))) (piece_view x) c.args.heap.now c.make_in.new.heap (Ok (Owned c.in-Ok.o c.in-Ok.number))) (sym c.in-New.is)
    (owned_part c.args.heap.now c.make_in.new.heap (type_in (Some (ty_of c.args.t.now))) c.in-New.state c.in-Ok.number c.in-Ok.o
    (subst (λ t. MakesIn t c.in-New.state c.args.heap.now c.make_in.new.heap (Ok (c.in-Ok.o, c.in-Ok.number))) c.type_in.ensures (subst (MakesIn c.type_in.result.0 c.in-New.state c.args.heap.now c.make_in.new.heap) c.in-Ok.is c.make_in.ensures.makes)))
