use Rattle.std.proofs.Common.{refl, arith, ◌∙◌, ◌≡◌, ◌+◌, ◌*◌, ◌<◌, ◌≤◌, length, ℕ, ◌⊎◌, inl, inr, slice_get}
use Rattle.vlt_heap.proofs.Calls.{sound_new, new_is, NewTables}
use Rattle.vlt_heap.specs.Shown.{things_of}
use Rattle.vlt_heap.proofs.heap.Heap.new_object.Goals as goal

tables : (c : goal.After-clear) → NewTables c.args.self.now (record { places = c.make.new.self; kinds = c.put_kind.new.kinds; cells = c.clear.new.cells; width = c.args.self.now.width }) c.in-Some.place c.args.t.0
tables c = record {
  place = c.in-Some.ensures.places.0;
  places = c.in-Some.ensures.places.1;
  kind = _;
  here = c.put_kind.ensures.here;
  is = record { type = refl; state = refl; is_out = refl };
  kinds = c.put_kind.ensures.others;
  kinds_long = c.put_kind.ensures.long;
  inside = c.clear.ensures.inside;
  outside = outside;
  cells_long = c.clear.ensures.long ∙ c.grow_to.ensures.long;
  width = refl;
}
  where
    cleared : (k : ℕ) → (k < c.in-Some.place * c.args.self.now.width) ⊎ (c.in-Some.place * c.args.self.now.width + c.args.self.now.width ≤ k) → slice_get c.clear.new.cells.items k ≡ slice_get c.grow_to.new.cells.items k
    cleared k (inl l) = c.clear.ensures.before k l
    cleared k (inr l) = c.clear.ensures.following k l

    outside : (k : ℕ) → (k < c.in-Some.place * c.args.self.now.width) ⊎ (c.in-Some.place * c.args.self.now.width + c.args.self.now.width ≤ k) → k < length c.args.self.now.cells.items
        → slice_get c.clear.new.cells.items k ≡ slice_get c.args.self.now.cells.items k
    outside k out l = cleared k out ∙ c.grow_to.ensures.before k l

pub returns-clause-items : goal.returns-clause-items
returns-clause-items c = λ items holds.
    new_is c.args.self.now _ c.in-Some.place c.args.t.0 c.requires.sound (tables c) items _ holds (c.in-Some.ensures.things (things_of items) holds.things) refl
    (omega (arith, c.made.ensures, c.if-made-ge-MAX_MADE.false))

pub returns-clause-sound : goal.returns-clause-sound
returns-clause-sound c =
    sound_new c.args.self.now _ c.in-Some.place c.args.t.0 c.requires.sound (tables c) c.in-Some.ensures.settled c.in-Some.ensures.budget c.put_kind.ensures.room
    (omega (arith, c.grow_to.ensures.room, c.clear.ensures.room))
