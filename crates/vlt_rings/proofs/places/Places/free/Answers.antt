use Rattle.std.proofs.Common.{refl, arith}
use Rattle.vlt_rings.specs.declared.places.Mark.TheVariants.{Free, Doomed}
use Rattle.vlt_rings.proofs.Sounds.{sound_moved, free_head, mark_count}
use Rattle.vlt_rings.proofs.places.Places.free.Goals as goal

pub returns-clause-sound : goal.returns-clause-sound
returns-clause-sound c =
    let none = mark_count c.requires.doomed.what Doomed c.requires.doomed.is in
    sound_moved c.args.self.now _ c.args.c 0 c.requires.doomed.what (record c.requires.doomed.what { mark = Free }) c.requires.sound c.requires.doomed.at
    (c.set_mark.ensures.set c.requires.doomed.what c.requires.doomed.at) refl free_head c.move_to.ensures.whole c.move_to.ensures.long c.move_to.ensures.room c.move_to.ensures.moved
    (λ a e. c.requires.sound.parents c.args.c a c.requires.doomed.what c.requires.doomed.at e) refl c.set_mark.ensures.room (omega (arith, none))
