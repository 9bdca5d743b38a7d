-- What registers give and take.
use Rattle.std.proofs.Common.{◌≡◌, ℕ, zero, suc, ℤ, List, [], ◌∷◌, length, Option, Some, None, Result, Ok, Err, refl, sym, ap, ◌∙◌, subst, arith, slice_get, slice_set}
use Rattle.std.specs.Option.{option_map}
use Rattle.std.proofs.lemmas.List.{length-map, map-set}
use Rattle.std.proofs.lemmas.Option.{same_Some, slice_get-map}
use Rattle.vlt_rings.specs.Things.{Things}
use Rattle.c_meaning.specs.World as model
use Rattle.c_meaning.specs.Primitives.{gives, at_index, index_below, from_register, puts_number, puts_reference, gets_number, gets_reference}
use Rattle.c_memory.specs.declared.cells.Ref.{Ref}
use Rattle.c_memory.specs.Shown.{number_of, IsMade}
use Rattle.c_values.specs.declared.value.Value.{Value}
use Rattle.c_values.specs.declared.value.Value.TheVariants.{Number, Reference}
use Rattle.c_primitives.specs.declared.halt.Halt.{Halt}
use Rattle.c_primitives.specs.declared.halt.Halt.TheVariants.{Broken}
use Rattle.c_primitives.specs.declared.world.World.{World}
use Rattle.c_primitives.specs.Done.{number_as, reference_as}
use Rattle.c_primitives.specs.Shown.{Shows, shown_references, AreMadeRegisters, IsReady, KeepsRoom, Comes}
use Rattle.vlt_steps.specs.Writing.{Outside}
use Rattle.c_primitives.proofs.Coming.{silent, keep_same, breaks, gives_value}

-- ---- what was set is made

made_set : (ts : Things) (xs : List (Option (Option Ref))) (j : ℕ) (p : Option Ref) → IsMade ts p → AreMadeRegisters ts xs → AreMadeRegisters ts (slice_set xs j (Some p))
made_set ts [] j p m made i r at = made i r at
made_set ts (x ∷ xs) zero p m made zero r at = subst (IsMade ts) (same_Some p r (same_Some (Some p) (Some r) at)) m
made_set ts (x ∷ xs) zero p m made (suc i) r at = made (suc i) r at
made_set ts (x ∷ xs) (suc j) p m made zero r at = made zero r at
made_set ts (x ∷ xs) (suc j) p m made (suc i) r at = made_set ts xs j p m (λ k q e. made (suc k) q e) i r at

module _ (ts : Things) (s : World) (w : model.World) (b : Outside) (i : ℤ) (h : Shows s ts w) where
  pub get_number_come : (j : ℕ) (x : Option ℤ) (out : Result (Option Value) Halt) → Some j ≡ index_below (length s.numbers.items) i → slice_get s.numbers.items j ≡ Some x → out ≡ number_as x → Comes ts s w b b out (gets_number i w)
  unfolding at_index
  get_number_come j x out index at is =
      subst (λ l. Comes ts s w b b out (at_index (index_below (length l) i) (λ j. from_register (slice_get l j) model.number w))) (sym h.numbers)
      (rw (is, ← index, at) (by x))
    where
      by : (x : Option ℤ) → Comes ts s w b b (number_as x) (from_register (Some x) model.number w)
      by None = breaks ts s w b 7 h
      by (Some z) = gives_value ts s w b (Some (Number z)) (Some (model.number z)) h tt refl

  pub no_number : None ≡ index_below (length s.numbers.items) i → Comes ts s w b b (Err (Broken 7)) (gets_number i w)
  unfolding at_index
  no_number index =
      subst (λ l. Comes ts s w b b (Err (Broken 7)) (at_index (index_below (length l) i) (λ j. from_register (slice_get l j) model.number w))) (sym h.numbers)
      (rw (← index) (breaks ts s w b 7 h))

  long_references : length w.reference_registers ≡ length s.references.items
  long_references = ap length h.references ∙ length-map s.references.items (option_map number_of)

  pub get_reference_come : (j : ℕ) (x : Option (Option Ref)) (out : Result (Option Value) Halt) → Some j ≡ index_below (length s.references.items) i → slice_get s.references.items j ≡ Some x → out ≡ reference_as x → Comes ts s w b b out (gets_reference i w)
  unfolding at_index
  get_reference_come j x out index at is =
      let shown : slice_get w.reference_registers j ≡ Some (option_map number_of x) = ap (λ l. slice_get l j) h.references ∙ slice_get-map (option_map number_of) s.references.items j ∙ ap (option_map (option_map number_of)) at in
      rw (is, long_references, ← index, shown) (by x at)
    where
      by : (x : Option (Option Ref)) → slice_get s.references.items j ≡ Some x → Comes ts s w b b (reference_as x) (from_register (Some (option_map number_of x)) model.reference w)
      by None at = breaks ts s w b 7 h
      by (Some p) at = gives_value ts s w b (Some (Reference p)) (Some (model.reference (number_of p))) h (h.made j p at) refl

  pub no_reference : None ≡ index_below (length s.references.items) i → Comes ts s w b b (Err (Broken 7)) (gets_reference i w)
  unfolding at_index
  no_reference index = rw (long_references, ← index) (breaks ts s w b 7 h)

  pub no_put_number : (z : ℤ) → None ≡ index_below (length s.numbers.items) i → Comes ts s w b b (Err (Broken 7)) (puts_number i z w)
  unfolding at_index
  no_put_number z index = subst (λ n. Comes ts s w b b (Err (Broken 7)) (at_index (index_below n i) (λ j. gives None (record w { number_registers = slice_set w.number_registers j (Some z) })))) (sym (ap length h.numbers)) (rw (← index) (breaks ts s w b 7 h))

  pub no_put_reference : (p : Option ℕ) → None ≡ index_below (length s.references.items) i → Comes ts s w b b (Err (Broken 7)) (puts_reference i p w)
  unfolding at_index
  no_put_reference p index = rw (long_references, ← index) (breaks ts s w b 7 h)

  pub put_number_come : (q : World) (z : ℤ) (j : ℕ) → Some j ≡ index_below (length s.numbers.items) i → q.numbers.items ≡ slice_set s.numbers.items j (Some z) → Comes ts (record s { numbers = q.numbers }) w b b (Ok None) (puts_number i z w)
  unfolding at_index
  put_number_come q z j index is =
      subst (λ n. Comes ts (record s { numbers = q.numbers }) w b b (Ok None) (at_index (index_below n i) (λ j. gives None (record w { number_registers = slice_set w.number_registers j (Some z) })))) (sym (ap length h.numbers))
      (rw (← index) (record {
        things = ts;
        kept = keep_same ts;
        shown = record {
          holds = h.holds;
          blocks = h.blocks;
          numbers = ap (λ l. slice_set l j (Some z)) h.numbers ∙ sym is;
          references = h.references;
          made = h.made;
          fuel = h.fuel;
          input = h.input;
          answers = h.answers;
          taken = h.taken;
          talk = h.talk;
        };
        value = refl;
        made = tt;
        wrote = silent w w b refl;
      }))

  pub put_reference_come : (q : World) (p : Option Ref) (j : ℕ) → IsMade ts p → Some j ≡ index_below (length s.references.items) i → q.references.items ≡ slice_set s.references.items j (Some p) → Comes ts (record s { references = q.references }) w b b (Ok None) (puts_reference i (number_of p) w)
  unfolding at_index
  put_reference_come q p j m index is =
      rw (long_references, ← index) (record {
        things = ts;
        kept = keep_same ts;
        shown = record {
          holds = h.holds;
          blocks = h.blocks;
          numbers = h.numbers;
          references = ap (λ l. slice_set l j (Some (number_of p))) h.references ∙ sym (map-set (option_map number_of) s.references.items j (Some p)) ∙ sym (ap shown_references is);
          made = subst (AreMadeRegisters ts) (sym is) (made_set ts s.references.items j p m h.made);
          fuel = h.fuel;
          input = h.input;
          answers = h.answers;
          taken = h.taken;
          talk = h.talk;
        };
        value = refl;
        made = tt;
        wrote = silent w w b refl;
      })

pub ready_numbers : (s q : World) → IsReady s → IsReady (record s { numbers = q.numbers })
ready_numbers s q r = record { sound = r.sound; heap = r.heap; cells = r.cells; line = r.line }

pub ready_references : (s q : World) → IsReady s → IsReady (record s { references = q.references })
ready_references s q r = record { sound = r.sound; heap = r.heap; cells = r.cells; line = r.line }

pub room_numbers : (s q : World) → KeepsRoom s (record s { numbers = q.numbers })
room_numbers s q = record { heap = refl; cells = refl; line = omega arith }

pub room_references : (s q : World) → KeepsRoom s (record s { references = q.references })
room_references s q = record { heap = refl; cells = refl; line = omega arith }
