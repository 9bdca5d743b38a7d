use Rattle.std.proofs.Common.{arith, sym, ◌∙◌}
use Rattle.std.proofs.lemmas.Option.{slice_get_within}
use Rattle.vlt_rings.specs.declared.places.Mark.TheVariants.{Doomed, Live, Free}
use Rattle.vlt_rings.proofs.Sounds.{begun, doomed_in, child_in, goes_down, goes_up, is_over, lighter_down, lighter_up}
use Rattle.vlt_rings.proofs.Calls.{same_places, same_first}
use Rattle.vlt_rings.proofs.places.Places.release.Goals as goal

pub loop-doomed-init : goal.loop-doomed-init
loop-doomed-init c = record {
  sound = c.doom.ensures.sound;
  same = same_places _ c.args.self.now _ c.args.c Live Doomed (same_first _) c.requires.live c.doom.ensures.set c.doom.ensures.made c.doom.ensures.budget;
  things = begun c.args.self.now.places.items c.doom.new.self.places.items c.args.c c.requires.live c.requires.settled.quiet c.doom.ensures.set;
}

pub overflow_mul-doomed : goal.overflow_mul-doomed
overflow_mul-doomed c =
    let within = slice_get_within c.loop-doomed.self.places.items c.in-Some.doomed c.in-Some.ensures.some.what c.in-Some.ensures.some.at in
    omega (arith, within, c.loop-doomed.invariant.sound.few, c.loop-doomed.invariant.sound.within)

pub overflow_add-doomed : goal.overflow_add-doomed
overflow_add-doomed c =
    let within = slice_get_within c.loop-doomed.self.places.items c.in-Some.doomed c.in-Some.ensures.some.what c.in-Some.ensures.some.at in
    omega (arith, within, c.loop-doomed.invariant.sound.few, c.loop-doomed.invariant.sound.within)

pub first-requires-in-Some-clause-within : goal.first-requires-in-Some-clause-within
first-requires-in-Some-clause-within c =
    let within = slice_get_within c.loop-doomed.self.places.items c.in-Some.doomed c.in-Some.ensures.some.what c.in-Some.ensures.some.at in
    omega (arith, within)

pub loop-doomed-smaller-in-Some-first : goal.loop-doomed-smaller-in-Some-first
loop-doomed-smaller-in-Some-first c = lighter_down c.loop-doomed.self.places.items c.doom-in-Some-first.new.self.places.items c.in-Some.doomed c.in-Some-first.child (child_in _ _ _ c.in-Some-first.ensures.some) c.doom-in-Some-first.ensures.set

pub loop-doomed-preserved-in-Some-first : goal.loop-doomed-preserved-in-Some-first
loop-doomed-preserved-in-Some-first c =
    let child = child_in _ _ _ c.in-Some-first.ensures.some in
    record {
      sound = c.doom-in-Some-first.ensures.sound;
      same = same_places _ c.loop-doomed.self _ c.in-Some-first.child Live Doomed c.loop-doomed.invariant.same (record { what = child.what; at = child.at; is = child.live }) c.doom-in-Some-first.ensures.set c.doom-in-Some-first.ensures.made c.doom-in-Some-first.ensures.budget;
      things = λ ts n t hold at place. goes_down c.loop-doomed.self.places.items c.doom-in-Some-first.new.self.places.items c.in-Some.doomed c.in-Some-first.child (doomed_in _ _ c.in-Some.ensures.some) child c.doom-in-Some-first.ensures.set ts n
          (c.loop-doomed.invariant.things ts n t hold at place);
    }

pub loop-doomed-smaller : goal.loop-doomed-smaller
loop-doomed-smaller c = lighter_up c.loop-doomed.self.places.items c.free.new.self.places.items c.in-Some.doomed (doomed_in _ _ c.in-Some.ensures.some) c.free.ensures.set

pub loop-doomed-preserved : goal.loop-doomed-preserved
loop-doomed-preserved c = record {
  sound = c.free.ensures.sound;
  same = same_places _ c.loop-doomed.self _ c.in-Some.doomed Doomed Free c.loop-doomed.invariant.same (doomed_in _ _ c.in-Some.ensures.some) c.free.ensures.set c.free.ensures.made c.free.ensures.budget;
  things = λ ts n t hold at place. goes_up c.loop-doomed.self.places.items c.free.new.self.places.items c.in-Some.doomed (doomed_in _ _ c.in-Some.ensures.some) c.in-None.ensures.none c.free.ensures.set ts n
      (c.loop-doomed.invariant.things ts n t hold at place);
}

pub returns-clause-things : goal.returns-clause-things
returns-clause-things c = λ ts n t holds at place. is_over c.loop-doomed.self c.in_default.ensures.none ts n t at (holds.made ∙ sym c.loop-doomed.invariant.same.made) (c.loop-doomed.invariant.things ts n t holds.hold at place)
