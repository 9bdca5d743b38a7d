use Rattle.std.proofs.Common.{map}
use Rattle.vlt_core.specs.Least.{IsLeast}
use Rattle.vlt_core.specs.Instances.{instance}
use Rattle.vlt_core.specs.View.{program_of, func_of}
use Rattle.vlt_keyset.specs.Held.{map_of}
use Rattle.vlt_rows.specs.FlowView.{block_view}
use Rattle.vlt_flow.proofs.Stopping.{stop_through}
use Rattle.vlt_flow.proofs.FromStart.{none_in}
use Rattle.vlt_flow.specs.Notes.Listed.{note_of}
use Rattle.vlt_flow.specs.Notes.Noted.{AreNotes}
use Rattle.vlt_flow.proofs.OfNotes.Noting.{if_more}
use Rattle.vlt_flow.proofs.OfNotes.Reading.{least_notes}
use Rattle.std.proofs.Common.{inl, inr}
use Rattle.vlt_flow.specs.Unfit.{no_start}
use Rattle.vlt_flow.proofs.Unfitting.{unfit_stop, unfit_through, unnoted_in}
use Rattle.vlt_flow.proofs.notes.annotate.Goals as goal

pub returns-in-Some-clause-least : goal.returns-in-Some-clause-least
returns-in-Some-clause-least c =
    let p = program_of c.args.p.now in
    let f = instance p (func_of c.args.f.now) c.args.origin in
    if_more c.annotate_block.result
    (λ a. AreNotes (block_view c.in_ok-flow.flow) (map_of c.in_ok-start.start) (map note_of a.maps))
    (λ a. IsLeast p f (map note_of a.maps))
    (λ a q. least_notes p f (block_view c.in_ok-flow.flow) (map_of c.in_ok-start.start) q.kept (map note_of a.maps) c.in_ok-flow.ensures c.in_ok-start.ensures.map q.least q.names q.reads)
    c.annotate_block.ensures.listed

pub returns-in-Some-clause-refused : goal.returns-in-Some-clause-refused
returns-in-Some-clause-refused c =
    stop_through _ _ (λ e. e) (λ never. none_in (program_of c.args.p.now) (instance (program_of c.args.p.now) (func_of c.args.f.now) c.args.origin) _ _ c.in_ok-flow.ensures c.in_ok-start.ensures.map never) c.annotate_block.ensures.refused

pub returns-in_err-start-clause-unfit : goal.returns-in_err-start-clause-unfit
returns-in_err-start-clause-unfit c = unfit_stop _ _ c.from_residual-in_err-start.ensures.1 c.in_err-start.ensures.map (λ u. inl (no_start u))

pub returns-in-Some-clause-unfit : goal.returns-in-Some-clause-unfit
returns-in-Some-clause-unfit c =
    let keys = rw c.in-Some.is at c.of.ensures.keys in
    let vars = rw c.in-Some.is at c.of.ensures.vars in
    unfit_through _ (λ u. inr (unnoted_in (program_of c.args.p.now) (instance (program_of c.args.p.now) (func_of c.args.f.now) c.args.origin) _ _ _ _ _ _ c.in_ok-flow.ensures c.in_ok-start.ensures.map keys vars u)) c.annotate_block.ensures.unfit
