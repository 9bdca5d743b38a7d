-- Printing and input.
use Rattle.std.proofs.Common.{◌≡◌, ◌⊎◌, inl, inr, ◌<◌, ◌≤◌, ℕ, ℤ, true, false, List, [], ◌∷◌, Some, Result, Ok, Err, refl, sym, ◌∙◌, subst}
use Rattle.vlt_io.specs.Outside.{Rose, Grew, GrewByPart}
use Rattle.vlt_ops.specs.declared.TrapKind.{TrapKind}
use Rattle.vlt_ops.specs.Operator.{bool_number}
use Rattle.vlt_core.specs.Core.{Expr, print, input}
use Rattle.vlt_heap.specs.declared.slots.Slot.TheVariants.{Number}
use Rattle.vlt_heap.specs.declared.heap.Heap.{Heap}
use Rattle.vlt_meaning.specs.World.{number, one, line_of, printed, World, trap}
use Rattle.vlt_meaning.specs.Found.{Found}
use Rattle.vlt_meaning.specs.Values.{number_of}
use Rattle.vlt_meaning.specs.Step.{goes, with_found, with_event, with_var, with_input, first_input, is_more}
use Rattle.vlt_meaning.specs.Run.{does_simple}
use Rattle.vlt_acts.specs.declared.values.values.Values.{Values}
use Rattle.vlt_acts.specs.Values.Filled.{IsFilled, IsSingleSlot}
use Rattle.vlt_acts.specs.Values.Shown.{Seen, ShowObjects, var_at, IsKept, IsNumber}
use Rattle.vlt_acts.proofs.OfValues.Numbers.{Faulty, number_is, trap_is}
use Rattle.vlt_acts.specs.Acts.Acts.{setup, Shows}
use Rattle.vlt_acts.proofs.OfActs.Keeping.{single_at, assigned}
use Rattle.vlt_steps.specs.declared.stop.Stop.{Stop}
use Rattle.vlt_steps.specs.declared.stop.Stop.TheVariants.{Trap, InputEnd, SinkFault}
use Rattle.vlt_acts.specs.declared.hosts.host.Host.{Host}
use Rattle.vlt_acts.specs.Hosts.Hosts.{ShowsHost, Comes}
use Rattle.vlt_steps.specs.Writing.{Outside}
use Rattle.vlt_acts.specs.Hosts.Stops.{Wrote}
use Rattle.vlt_acts.proofs.OfHosts.Writing.{silent, one_written, one_cut}

-- the tables show what they showed
pub shows_still : (h : Heap) (values : Values) (c : Seen h values) (w : World) → w.objects ≡ c.objects → Shows c.items h values c.frame w.objects
shows_still h values c w same = record {
  items = c.items;
  holds = c.holds;
  objects_shown = subst (ShowObjects c.items values.width) (sym same) c.shown;
  frame_shown = c.fits;
  kept = λ k n made. made;
}

module _ (h : Heap) (values : Values) (c : Seen h values) (host : Host) (start end : Outside) (w : World) (n d : ℕ) (e : Expr) (r : Result ℤ TrapKind) (same : w.objects ≡ c.objects) (is : IsNumber r (number_of c.program c.func e c.frame c.objects)) where
  abbrev goal : Result (Unit {0}) Stop → Found ℤ → Type 0
  goal q x = Comes c.items h values host start end q w (with_found x w (λ z. goes c.frame (with_event w (printed z))))

  -- at the objects that are shown
  at_shown : (q : Result (Unit {0}) Stop) → goal q (number_of c.program c.func e c.frame c.objects) → Comes c.items h values host start end q w (does_simple (setup c.program n d) c.func (print e) c.frame w)
  at_shown q = subst (λ os. goal q (number_of c.program c.func e c.frame os)) (sym same)

  pub print_went : (z : ℤ) → r ≡ Ok z → ShowsHost host w → Grew start.written end.written (line_of (printed z)) → start.faults ≤ end.faults → Comes c.items h values host start end (Ok tt) w (does_simple (setup c.program n d) c.func (print e) c.frame w)
  unfolding with_found
  print_went z was hosts grew counted = at_shown (Ok tt) (by (number_is r (number_of c.program c.func e c.frame c.objects) z is was))
    where
      by : (number_of c.program c.func e c.frame c.objects ≡ Ok z) ⊎ Faulty (number_of c.program c.func e c.frame c.objects) → goal (Ok tt) (number_of c.program c.func e c.frame c.objects)
      by (inl q) = subst (goal (Ok tt)) (sym q) (record {
        shows = shows_still h values c w same;
        hosts = record { input = hosts.input; answers = hosts.answers; taken = hosts.taken };
        fuel = refl;
        wrote = one_written w (printed z) start end grew counted;
      })
      by (inr f) = subst (goal (Ok tt)) (sym f.is) f.fault

  pub print_cut : (z : ℤ) → r ≡ Ok z → GrewByPart start.written end.written (line_of (printed z)) → Rose start.faults end.faults → start.faults ≤ end.faults → Comes c.items h values host start end (Err SinkFault) w (does_simple (setup c.program n d) c.func (print e) c.frame w)
  unfolding with_found
  print_cut z was grew rose counted = at_shown (Err SinkFault) (by (number_is r (number_of c.program c.func e c.frame c.objects) z is was))
    where
      by : (number_of c.program c.func e c.frame c.objects ≡ Ok z) ⊎ Faulty (number_of c.program c.func e c.frame c.objects) → goal (Err SinkFault) (number_of c.program c.func e c.frame c.objects)
      by (inl q) = subst (goal (Err SinkFault)) (sym q) (one_cut w (with_event w (printed z)) (printed z) start end refl grew rose counted)
      by (inr f) = subst (goal (Err SinkFault)) (sym f.is) (inl f.fault)

  pub print_trapped : (t : TrapKind) → r ≡ Err t → start ≡ end → Comes c.items h values host start end (Err (Trap t)) w (does_simple (setup c.program n d) c.func (print e) c.frame w)
  unfolding with_found
  print_trapped t was quiet = at_shown (Err (Trap t)) (by (trap_is r (number_of c.program c.func e c.frame c.objects) t is was))
    where
      by : (number_of c.program c.func e c.frame c.objects ≡ Err (trap t)) ⊎ Faulty (number_of c.program c.func e c.frame c.objects) → goal (Err (Trap t)) (number_of c.program c.func e c.frame c.objects)
      by (inl q) = subst (goal (Err (Trap t))) (sym q) (inr (inl (record { outcome = refl; fuel = refl; wrote = subst (λ b. Wrote w w start b) quiet (silent w w start refl) })))
      by (inr f) = subst (goal (Err (Trap t))) (sym f.is) (inl f.fault)

-- ---- input

module _ (h : Heap) (old new : Values) (c : Seen h old) (before after : Host) (b : Outside) (w : World) (n d v : ℕ) (same : w.objects ≡ c.objects) (hosts : ShowsHost before w) where
  -- a number comes to the variable
  number_came : (z : ℤ) (u : World) → v < old.vars → 1 ≤ old.width → IsKept (var_at old v) old new → IsFilled (IsSingleSlot (Number z)) new.slots.items (var_at old v) old.width → u.objects ≡ w.objects → u.fuel ≡ w.fuel → u.events ≡ w.events → ShowsHost after u
      → Comes c.items h new after b b (Ok tt) w (goes (with_var v (Some (one (number z))) c.frame) u)
  number_came z u within wide kept filled objects fuel events shown = record {
    shows = record {
      items = c.items;
      holds = c.holds;
      objects_shown = subst (λ os. ShowObjects c.items new.width os) (sym (objects ∙ same)) (subst (λ k. ShowObjects c.items k c.objects) (sym kept.width) c.shown);
      frame_shown = assigned c.items old new c.frame v (one (number z)) within kept (single_at c.items new.slots.items (var_at old v) (var_at old v) old.width new.width (Number z) (number z) refl kept.width wide refl filled) c.fits;
      kept = λ k m made. made;
    };
    hosts = shown;
    fuel = fuel;
    wrote = silent w u b events;
  }

  pub more_came : v < old.vars → 1 ≤ old.width → IsKept (var_at old v) old new → IsFilled (IsSingleSlot (Number (bool_number (is_more before.input.now)))) new.slots.items (var_at old v) old.width → after ≡ before
      → Comes c.items h new after b b (Ok tt) w (does_simple (setup c.program n d) c.func (input v true) c.frame w)
  unfolding with_input
  more_came within wide kept filled quiet =
      number_came (bool_number (is_more w.input)) w within wide kept (subst (λ zs. IsFilled (IsSingleSlot (Number (bool_number (is_more zs)))) new.slots.items (var_at old v) old.width) (sym hosts.input) filled) refl refl refl (subst (λ k. ShowsHost k w) (sym quiet) hosts)

  pub input_came : (z : ℤ) (rest : List ℤ) → before.input.now ≡ z ∷ rest → after.input.now ≡ rest → after.answers ≡ before.answers → after.taken ≡ before.taken → v < old.vars → 1 ≤ old.width → IsKept (var_at old v) old new → IsFilled (IsSingleSlot (Number z)) new.slots.items (var_at old v) old.width
      → Comes c.items h new after b b (Ok tt) w (does_simple (setup c.program n d) c.func (input v false) c.frame w)
  unfolding with_input first_input
  input_came z rest is left answers taken within wide kept filled =
      subst (λ zs. Comes c.items h new after b b (Ok tt) w (first_input zs w (λ z u. goes (with_var v (Some (one (number z))) c.frame) u))) (sym (hosts.input ∙ is))
      (number_came z (record w { input = rest }) within wide kept filled refl refl refl (record {
        input = sym left;
        answers = hosts.answers ∙ rw (answers, taken) refl;
        taken = hosts.taken ∙ sym taken;
      }))

  pub input_ended : before.input.now ≡ [] → Comes c.items h new after b b (Err InputEnd) w (does_simple (setup c.program n d) c.func (input v false) c.frame w)
  unfolding with_input first_input
  input_ended is =
      subst (λ zs. Comes c.items h new after b b (Err InputEnd) w (first_input zs w (λ z u. goes (with_var v (Some (one (number z))) c.frame) u))) (sym (hosts.input ∙ is))
      (inr (inl (record { outcome = refl; fuel = refl; wrote = silent w w b refl })))
