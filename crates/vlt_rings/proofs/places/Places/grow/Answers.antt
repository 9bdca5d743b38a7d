use Rattle.std.proofs.Common.{rules, refl, arith, ◌≡◌, ◌∷◌, [], length, ap, ◌∙◌}
use Rattle.std.proofs.lemmas.List.{length-append}
use Rattle.vlt_rings.specs.Rings.{next_of}
use Rattle.vlt_rings.proofs.Calls.{sound_grown}
use Rattle.vlt_rings.proofs.places.Places.grow.Goals as goal

pub returns-clause-sound : goal.returns-clause-sound
returns-clause-sound c =
    let first = ap length c.grow.ensures.nodes ∙ length-append (next_of c.args.self.now.rings) (length (next_of c.args.self.now.rings) ∷ []) in
    let second = ap length c.grow-2.ensures.nodes ∙ length-append (next_of c.grow.new.self) (length (next_of c.grow.new.self) ∷ []) in
    let n : c.len.result ≡ length c.args.self.now.places.items = search rules in
    sound_grown c.args.self.now _ _ c.requires.sound c.requires.room refl refl c.push.ensures.items c.insert.ensures.whole (omega (arith, first, second, c.insert.ensures.long))
    (rw (← n, ← c.grow.ensures.nodes, ← c.grow-2.ensures.nodes) (c.insert.ensures.inserted)) refl refl c.push.ensures.room (omega (arith, c.grow.ensures.room, c.grow-2.ensures.room, c.insert.ensures.room))
