use Rattle.std.proofs.Common.{refl, arith, ◌∙◌, ◌≡◌, ◌+◌, ◌*◌, ◌<◌, ◌≤◌, length, Some, ℕ, ◌⊎◌, inl, inr, slice_get}
use Rattle.c_memory.proofs.Calls.{sound_new, new_is, NewTables}
use Rattle.c_memory.specs.declared.cells.Cell.TheVariants.{Unset}
use Rattle.c_memory.proofs.blocks.Blocks.make.Goals as goal

tables : (c : goal.After-clear) → NewTables c.args.self.now (record { places = c.make.new.self; shapes = c.put_shape.new.shapes; cells = c.clear.new.cells; width = c.args.self.now.width }) c.in-Some.place c.args.numbers c.args.references
tables c = record {
  place = c.in-Some.ensures.places.0;
  places = c.in-Some.ensures.places.1;
  here = c.put_shape.ensures.here;
  shapes = c.put_shape.ensures.others;
  shapes_long = c.put_shape.ensures.long;
  inside = c.clear.ensures.inside;
  outside = outside;
  unset = unset;
  cells_long = c.clear.ensures.long ∙ c.grow_to.ensures.long;
  width = refl;
  fit = c.requires.within;
}
  where
    cleared : (k : ℕ) → (k < c.in-Some.place * c.args.self.now.width) ⊎ (c.in-Some.place * c.args.self.now.width + (c.args.numbers + c.args.references) ≤ k) → slice_get c.clear.new.cells.items k ≡ slice_get c.grow_to.new.cells.items k
    cleared k (inl l) = c.clear.ensures.before k l
    cleared k (inr l) = c.clear.ensures.following k l

    outside : (k : ℕ) → (k < c.in-Some.place * c.args.self.now.width) ⊎ (c.in-Some.place * c.args.self.now.width + (c.args.numbers + c.args.references) ≤ k) → k < length c.args.self.now.cells.items
        → slice_get c.clear.new.cells.items k ≡ slice_get c.args.self.now.cells.items k
    outside k out l = cleared k out ∙ c.grow_to.ensures.before k l

    unset : (k : ℕ) → (k < c.in-Some.place * c.args.self.now.width) ⊎ (c.in-Some.place * c.args.self.now.width + (c.args.numbers + c.args.references) ≤ k) → length c.args.self.now.cells.items ≤ k → k < length c.clear.new.cells.items
        → slice_get c.clear.new.cells.items k ≡ Some Unset
    unset k out l m = cleared k out ∙ c.grow_to.ensures.added k l (omega (arith, m, c.clear.ensures.long))

pub returns-clause-did : goal.returns-clause-did
returns-clause-did c = λ ts holds. new_is c.args.self.now _ c.in-Some.place c.args.numbers c.args.references c.requires.sound (tables c) ts _ holds (c.in-Some.ensures.things ts holds.holds) refl c.made-number.ensures (omega (arith, c.made-number.ensures, c.if-number-ge-MAX_MADE.false))

pub returns-clause-sound : goal.returns-clause-sound
returns-clause-sound c = sound_new c.args.self.now _ c.in-Some.place c.args.numbers c.args.references c.requires.sound (tables c) c.in-Some.ensures.settled c.in-Some.ensures.budget c.put_shape.ensures.room (omega (arith, c.grow_to.ensures.room, c.clear.ensures.room))
