use Rattle.std.proofs.Common.{refl, arith}
use Rattle.vlt_rings.specs.declared.places.Mark.TheVariants.{Doomed, Live}
use Rattle.vlt_rings.proofs.Sounds.{sound_moved, doomed_head, live_above, mark_count}
use Rattle.vlt_rings.proofs.places.Places.doom.Goals as goal

pub overflow_sub-self : goal.overflow_sub-self
overflow_sub-self c = live_above _ _ c.requires.sound c.requires.live

pub returns-clause-sound : goal.returns-clause-sound
returns-clause-sound c =
    let above = live_above _ _ c.requires.sound c.requires.live in
    let one = mark_count c.requires.live.what Live c.requires.live.is in
    sound_moved c.args.self.now _ c.args.c 1 c.requires.live.what (record c.requires.live.what { mark = Doomed }) c.requires.sound c.requires.live.at
    (c.set_mark.ensures.set c.requires.live.what c.requires.live.at) refl doomed_head c.move_to.ensures.whole c.move_to.ensures.long c.move_to.ensures.room c.move_to.ensures.moved
    (λ a e. c.requires.sound.parents c.args.c a c.requires.live.what c.requires.live.at e) refl c.set_mark.ensures.room (omega (arith, above, one))
