-- A value that is dropped.
use Rattle.std.proofs.Common.{◌≡◌, ℕ, ◌*◌, List, take, drop, Some, None, Ok, refl, sym, ap, ◌∙◌, subst}
use Rattle.vlt_core.specs.Core as core
use Rattle.vlt_heap.specs.declared.slots.Slot.{Slot}
use Rattle.vlt_heap.specs.declared.heap.Heap.{Heap}
use Rattle.vlt_meaning.specs.World.{Value, objects_in, Object, World, no_value}
use Rattle.vlt_meaning.specs.Found.{or_fault}
use Rattle.vlt_meaning.specs.Step.{goes, with_var}
use Rattle.vlt_meaning.specs.Run.{does_simple}
use Rattle.vlt_acts.specs.declared.values.values.Values.{Values}
use Rattle.vlt_acts.specs.Values.Parts.{padded_parts}
use Rattle.vlt_acts.specs.Values.Shown.{ShowObjects, var_at, Seen}
use Rattle.vlt_acts.proofs.OfValues.Touching.{some_fault, some_is}
use Rattle.vlt_acts.proofs.OfValues.Pushing.{emptied_shown}
use Rattle.vlt_acts.specs.Acts.Acts.{setup, Does, IsRight}
use Rattle.vlt_acts.proofs.OfActs.Keeping.{frame_kept}
use Rattle.vlt_acts.specs.Objects.Owned.{Sees, objects_after_drop, CanDrop, DropsAll}
use Rattle.vlt_acts.proofs.OfObjects.Rows.{owned_padded, row_value}
use Rattle.vlt_acts.proofs.OfObjects.Going.{found_safe, dropped_safe, found_goes, dropped_goes}

-- the slots of a variable's value
abbrev pub var_slots : Values → (v : ℕ) → List Slot
var_slots values v = take (1 * values.width) (drop (var_at values v) values.slots.items)

abbrev pub var_seen : (h : Heap) (values : Values) (c : Seen h values) (v : ℕ) (a : Value) (objects : List Object) → objects ≡ c.objects → c.frame.vars v ≡ Some a → Sees h (var_slots values v)
var_seen h values c v a objects same is = record {
  items = c.items;
  width = values.width;
  objects = objects;
  parts = padded_parts values.width a;
  holds = c.holds;
  shown = subst (ShowObjects c.items values.width) (sym same) c.shown;
  have = row_value c.items values.slots.items (var_at values v) values.width a (c.fits.vars v a is).value;
}

pub can_drop : (h : Heap) (values : Values) (v : ℕ) (slots : List Slot) → slots ≡ var_slots values v → IsRight h values (core.drop v) → CanDrop h slots
can_drop h values v slots is q =
    let f = found_safe (or_fault no_value (q.seen.frame.vars v)) q.world _ (some_fault no_value (q.seen.frame.vars v)) q.right in
    let s = dropped_safe q.seen.program (objects_in f.value) q.world _ f.safe in
    subst (CanDrop h) (sym is) (record {
      program = q.seen.program;
      can = record {
        sees = var_seen h values q.seen v f.value q.world.objects q.objects (some_is no_value (q.seen.frame.vars v) f.value f.is);
        after = s.objects;
        is = ap (λ ns. objects_after_drop q.seen.program ns q.world.objects) (owned_padded values.width f.value) ∙ s.is;
      };
    })

pub drop_does : (old new : Heap) (values : Values) (c : Seen old values) (w : World) (n d v : ℕ) (slots : List Slot) → slots ≡ var_slots values v → w.objects ≡ c.objects → DropsAll slots old new → Does c.items new values (Ok tt) (does_simple (setup c.program n d) c.func (core.drop v) c.frame w)
drop_does old new values c w n d v slots is same drops =
    found_goes c.items new values (Ok tt) (or_fault no_value (c.frame.vars v)) w _ (some_fault no_value (c.frame.vars v)) (λ a has.
    dropped_goes c.items new values (Ok tt) c.program (objects_in a) w (goes (with_var v None c.frame)) (λ os gone.
    let s = subst (λ l. DropsAll l old new) is drops c.program (var_seen old values c v a w.objects same (some_is no_value (c.frame.vars v) a has)) os (ap (λ ns. objects_after_drop c.program ns w.objects) (owned_padded values.width a) ∙ gone) in
    record {
      is = refl;
      shows = record {
        items = s.items;
        holds = s.holds;
        objects_shown = s.shown;
        frame_shown = emptied_shown s.items values c.frame v (frame_kept c.items s.items values c.frame s.kept c.fits);
        kept = s.kept;
      };
    }))
