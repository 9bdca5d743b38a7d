use Rattle.std.proofs.Common.{ap, subst, ◌∙◌, slice_get}
use Rattle.vlt_rings.specs.Things.{IsParentAt}
use Rattle.vlt_rings.proofs.Calls.{item_at, parent_is_made, no_parent}
use Rattle.vlt_rings.proofs.places.Places.parent_of.Goals as goal

pub returns-in-Some-clause-things : goal.returns-in-Some-clause-things
returns-in-Some-clause-things c = λ ts n t holds at place.
    let what = c.requires.live.what in
    let is = c.parent_at.ensures what c.requires.live.at ∙ c.in-Some.is in
    let p = item_at c.args.self.now.places.items c.in-Some.parent (c.requires.settled.sound.parents c.args.c c.in-Some.parent what c.requires.live.at is) in
    subst (IsParentAt ts t c.in-Some.parent) (c.number_at.ensures p.item p.at)
    (parent_is_made c.args.self.now ts n t what c.requires.settled holds at (ap (slice_get c.args.self.now.places.items) place ∙ c.requires.live.at) c.in-Some.parent p.item is p.at)

pub returns-in-None-clause-things : goal.returns-in-None-clause-things
returns-in-None-clause-things c = λ ts n t holds at place.
    let what = c.requires.live.what in
    no_parent c.args.self.now ts n t what holds at (ap (slice_get c.args.self.now.places.items) place ∙ c.requires.live.at) (c.parent_at.ensures what c.requires.live.at ∙ c.in-None.is)
