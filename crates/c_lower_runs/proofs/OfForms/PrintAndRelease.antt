-- Statements without blocks: what has a number, states, releases and adoption.
use Rattle.std.proofs.Common.{◌≡◌, ℕ, zero, suc, ◌+◌, Bool, true, false, if◌then◌else◌, ℤ, List, [], ◌∷◌, ◌++◌, map, Some, slice_get, Ok, refl, sym, ap, ◌∙◌, subst, ◌≤◌}
use Rattle.std.proofs.lemmas.Option.{none-some, same_Some}
use Rattle.std.specs.List.{enumerate_from}
use Rattle.vlt_core.specs.Core as core
use Rattle.vlt_core.specs.Core.{Func, Program}
use Rattle.vlt_core.specs.Lookups.{reference_of, Reference, fields_of}
use Rattle.vlt_meaning.specs.World as source
use Rattle.vlt_meaning.specs.World.{one, Object, gone}
use Rattle.vlt_meaning.specs.Found.{or_fault, Named, ◌>>=◌}
use Rattle.vlt_meaning.specs.Objects.{with_owner, with_state, in_states, objects_after_release, is_under, is_releasable}
use Rattle.vlt_meaning.specs.Values.{number_of, object_of, tracked_object}
use Rattle.vlt_meaning.specs.Step as step
use Rattle.vlt_meaning.specs.Run as run
use Rattle.c_syntax.specs.declared.program.CPrim.TheVariants as prim
use Rattle.c_syntax.specs.View.{stmts_made}
use Rattle.c_syntax.specs.C as syntax
use Rattle.c_meaning.specs.World as cw
use Rattle.c_meaning.specs.Values as cvalues
use Rattle.c_meaning.specs.Primitives as effect
use Rattle.c_meaning.specs.Primitives.{or_broken, on_number, on_reference}
use Rattle.c_meaning.specs.Run as crun
use Rattle.c_lower.specs.Slots.{Numbers, first_temps, slot_of}
use Rattle.c_lower.specs.Expressions.{Atom, number, variable, null, atom_expr, atom_arg, first_atom, expr_code}
use Rattle.c_lower.specs.Statements.{runtime_call}
use Rattle.c_lower_worlds.specs.Worlds.{Registers, c_world, c_event}
use Rattle.c_lower_worlds.specs.Given.{IsFed}
use Rattle.c_lower_worlds.specs.Shapes.{types_of, AreShaped, HaveCellShapes}
use Rattle.c_lower_worlds.specs.Frames.{StandsFor}
use Rattle.c_lower_worlds.specs.SameStatements.{Begins, IsSameForm}
use Rattle.c_lower_worlds.specs.Naming.Functions.{IsFunction}
use Rattle.c_lower_worlds.specs.Parts.{NumbersAreRight}
use Rattle.c_lower_worlds.specs.Same.{Same}
use Rattle.c_lower_worlds.proofs.BlockChanges.{state_alike, release_is}
use Rattle.c_lower_worlds.proofs.StatementLists.{call_runs}
use Rattle.c_lower_worlds.proofs.ExpressionFailures.{number_then, numbers_plainly, alike_begins}
use Rattle.c_lower_worlds.proofs.SameSteps.{found_same, where_same, earlier, spares_self}
use Rattle.c_lower_worlds.proofs.OfNaming.FoundObjects.{then_ok, or_fault_ok, object_of_ok, object_of_faults, HoldsObject}
use Rattle.c_lower_worlds.proofs.VariableValues.{slot_holds, types_kept, shaped_kept, alike_spares}

-- what a step leaves where the frame is as it was
went : (p : Program) (f : Func) (t : Numbers) (k : ℕ) (s : source.Frame) (w v : source.World) (frame : crun.Frame) (g : Registers) (c : crun.Step) → Begins p f k s w frame g →
    types_of v.objects ≡ types_of w.objects → (AreShaped p w.objects → AreShaped p v.objects) → v.fuel ≡ w.fuel → (IsFed w.input w.answers → IsFed v.input v.answers) → c ≡ crun.goes frame (c_world p g v) →
    Same p f t k frame (step.goes s v) c
went p f t k s w v frame g c h types shaped fuel fed is = record {
  to = frame;
  registers = g;
  is = is;
  comes = record {
    frame = subst (λ ts. StandsFor p ts f s frame) (sym types) h.stands;
    spares = spares_self (first_temps p f) t frame;
    shaped = shaped h.shaped;
    registers = h.registers;
    fed = fed h.fed;
    fuel_left = subst (λ n. n ≤ k) (sym fuel) h.fuel_left;
  };
}

-- ---- releases keep types and cells

pub released_types : (n : ℕ) (os : List Object) → types_of (objects_after_release n os) ≡ types_of os
released_types n os = by 0 os
  where
    one : (b : Bool) (o : Object) → (if b then with_owner gone o else o).type ≡ o.type
    one true o = refl
    one false o = refl

    by : (i : ℕ) (xs : List Object) → types_of (map (λ q. if is_under os (n ∷ []) q.0 then with_owner gone q.1 else q.1) (enumerate_from i xs)) ≡ types_of xs
    by i [] = refl
    by i (o ∷ xs) = ap (λ t. t ∷ types_of (map (λ q. if is_under os (n ∷ []) q.0 then with_owner gone q.1 else q.1) (enumerate_from (i + 1) xs))) (one (is_under os (n ∷ []) i) o)
        ∙ ap (λ ts. o.type ∷ ts) (by (i + 1) xs)

pub released_shaped : (p : Program) (n : ℕ) (os : List Object) → AreShaped p os → AreShaped p (objects_after_release n os)
released_shaped p n os h = record { each = λ m o at. subst (λ ts. HaveCellShapes p ts (fields_of p o.type) o.cells) (sym (released_types n os)) (by 0 os m o (λ m o at. h.each m o at) at) }
  where
    Shaped : Object → Type 0
    Shaped o = HaveCellShapes p (types_of os) (fields_of p o.type) o.cells

    one : (b : Bool) (o : Object) → Shaped o → Shaped (if b then with_owner gone o else o)
    one true o h = h
    one false o h = h

    by : (i : ℕ) (xs : List Object) (m : ℕ) (o : Object) → ((m : ℕ) (o : Object) → slice_get xs m ≡ Some o → Shaped o) →
        slice_get (map (λ q. if is_under os (n ∷ []) q.0 then with_owner gone q.1 else q.1) (enumerate_from i xs)) m ≡ Some o → Shaped o
    by i [] m o old at = absurd (none-some o at)
    by i (x ∷ xs) zero o old at = subst Shaped (same_Some _ o at) (one (is_under os (n ∷ []) i) x (old 0 x refl))
    by i (x ∷ xs) (suc m) o old at = by (i + 1) xs m o (λ m o at. old (suc m) o at) at

module _ (p : Program) (numbers_right : NumbersAreRight p) (heap depth : ℕ) (R : crun.Setup) (m : run.Meaning) (cm : crun.Meaning) (n : ℕ) where
  abbrev setup : run.Setup
  setup = record { program = p; heap = heap; depth = depth }

  -- the reference of a tracked variable
  held_by : (f : Func) (states : Reference → core.States) (x : ℕ) (s : source.Frame) (os : List Object) (m : Named) → object_of f states x s os ≡ Ok m → (r : Reference) × HoldsObject x r.key s os m
  held_by f states x s os m e =
      let a = then_ok (or_fault source.missing (reference_of f x)) (λ r. tracked_object r x s os >>= in_states (states r)) m e in
      (a.found, object_of_ok f states x a.found s os m (or_fault_ok source.missing (reference_of f x) a.found a.first) e)

  pub become_same : (f : Func) (x st : ℕ) → IsFunction p f → IsSameForm p setup R m cm n f (core.simple (core.become x st))
  become_same f x st is around ids t k s w frame g i kinded up le h =
      found_same p f t k frame (object_of f run.any_state x s w.objects) w _ _ (object_of_faults f run.any_state x s w.objects) (λ o e.
      went p f t k s w (step.with_changed w o.number (with_state st)) frame g _ h
      (types_kept w.objects o.number (with_state st) (λ o. refl)) (shaped_kept p w.objects o.number (with_state st) (λ o. refl) (λ o. refl)) refl (λ q. q)
      (ap (λ bs. crun.goes frame (record (c_world p g w) { blocks = bs })) (sym (state_alike p w.objects o.number st))))

  pub release_same : (f : Func) (x : ℕ) → IsFunction p f → IsSameForm p setup R m cm n f (core.simple (core.release x))
  unfolding step.with_released on_reference or_broken
  release_same f x is around ids t k s w frame g i kinded up le h =
      found_same p f t k frame (object_of f run.any_state x s w.objects) w _ _ (object_of_faults f run.any_state x s w.objects) (λ o e.
      let held = held_by f run.any_state x s w.objects o e in
      let at = slot_holds p (types_of w.objects) f s frame x (source.reference o.number) h.stands held.1.refers.var in
      let released = release_is p w.objects o.number o.object (record { at = held.1.refers.at; live = held.1.refers.live }) held.1.free.out in
      let v : source.World = step.with_objects w (objects_after_release o.number w.objects) in
      where_same p f t k frame (is_releasable p w.objects o.number) source.wrong_state (Some o.number) w _ _ (λ may.
      went p f t k s w v frame g _ h (released_types o.number w.objects) (released_shaped p o.number w.objects) refl (λ q. q)
      (call_runs R cm prim.Release (syntax.variable (slot_of p f x) ∷ []) frame (c_world p g w) (c_world p g v) (rw (at, released) refl) i)))

  arg_is : (a : Atom) (f : crun.Frame) (w : cw.World) (v : cw.Value) → cvalues.value_of (atom_expr a) f.vars w.blocks ≡ Ok v → cvalues.arg_value (atom_arg a) f.vars ≡ Ok v
  arg_is (number z) f w v e = e
  arg_is (variable x) f w v e = e
  arg_is null f w v e = e

  pub print_same : (f : Func) (e : core.Expr) → IsFunction p f → IsSameForm p setup R m cm n f (core.simple (core.print e))
  unfolding on_number or_broken
  print_same f e is around ids t k s w frame g i kinded up le h =
      number_then p R cm f t k w frame g i (expr_code p f t e) _ (runtime_call prim.Print (atom_arg (first_atom (expr_code p f t e).atoms) ∷ []) ∷ []) (λ c. c) (λ o v. refl)
      (number_of p f e s w.objects) (numbers_plainly p f e s w.objects) (numbers_right f e ids core.int t k s w frame g is kinded.proper kinded.row up h)
      (λ z to j alike at.
      let arg = arg_is (first_atom (expr_code p f t e).atoms) to (c_world p g w) (cw.number z) at in
      let v : source.World = step.with_event w (source.printed z) in
      earlier p f t k frame to (step.goes s v) (crun.does_stmts R cm j (stmts_made (runtime_call prim.Print (atom_arg (first_atom (expr_code p f t e).atoms) ∷ []) ∷ [])) to (c_world p g w)) (alike_spares (first_temps p f) t frame to alike)
      (went p f t k s w v to g _ (alike_begins p f t k s w frame to g up alike h) refl (λ q. q) refl (λ q. q)
      (call_runs R cm prim.Print (atom_arg (first_atom (expr_code p f t e).atoms) ∷ []) to (c_world p g w) (c_world p g v) (rw arg (told z)) j)))
    where
      map_more : (es : List source.Event) (e : source.Event) → map c_event (es ++ e ∷ []) ≡ map c_event es ++ c_event e ∷ []
      map_more [] e = refl
      map_more (x ∷ es) e = ap (λ r. c_event x ∷ r) (map_more es e)

      told : (z : ℤ) → effect.nothing (effect.with_event (cw.printed z) (c_world p g w)) ≡ effect.nothing (c_world p g (step.with_event w (source.printed z)))
      told z = ap (λ es. effect.nothing (record (c_world p g w) { events = es })) (sym (map_more w.events (source.printed z)))
