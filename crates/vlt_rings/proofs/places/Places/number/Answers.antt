use Rattle.std.proofs.Common.{sym, ap, ◌∙◌, slice_get}
use Rattle.vlt_rings.proofs.places.Places.number.Goals as goal

pub returns : goal.returns
returns c = λ ts n t holds at place.
    let s = holds.hold.shown n t at in
    sym (c.number_at.ensures s.what (ap (slice_get c.args.self.now.places.items) (sym place) ∙ s.at)) ∙ s.number
