-- Steps that don't go wrong, and what they come to, from those that come after.
use Rattle.std.proofs.Common.{◌≡◌, ℕ, Bool, true, false, List, [], ◌∷◌, Option, Some, Result, Ok, Err, refl, sym, ap, ◌∙◌}
use Rattle.std.proofs.lemmas.Bool.{false≢true}
use Rattle.vlt_ops.specs.declared.TrapKind.{TrapKind}
use Rattle.vlt_core.specs.Core.{Program}
use Rattle.vlt_heap.specs.declared.heap.Heap.{Heap}
use Rattle.vlt_heap.specs.Items.{Items}
use Rattle.vlt_meaning.specs.World.{Owner, is_loose, Object, World, Reason, Outcome, trap, fault, done, fuel_end, heap_end, depth_end, input_end, answers_end, bad_answer, is_fault, wrong_state}
use Rattle.vlt_meaning.specs.Found.{Found, ◌>>=◌, Named, if_so}
use Rattle.vlt_meaning.specs.Objects.{object_at, owned_at, with_owner, with_changed_object, objects_after_move, is_releasable, objects_after_release}
use Rattle.vlt_meaning.specs.Step.{Step, ends, with_found, where_so, with_objects, with_moved, with_released, with_dropped}
use Rattle.vlt_acts.specs.declared.values.values.Values.{Values}
use Rattle.vlt_acts.proofs.OfValues.Touching.{OrFault, then_fault, object_fault, so_fault}
use Rattle.vlt_acts.specs.Acts.Acts.{Does}
use Rattle.vlt_acts.specs.Objects.Owned.{objects_after_drop}

abbrev pub IsSafe : Step → Type 0
IsSafe s = (o : Outcome) (u : World) → s ≡ ends o u → is_fault o ≡ false

-- ---- what is found

pub record FoundSafe {A : Type 0} (q : Found A) (go : A → Step) : Type 0 where
  pub value : A
  pub is : q ≡ Ok value
  pub safe : IsSafe (go value)

pub found_safe : {A : Type 0} (q : Found A) (w : World) (go : A → Step) → OrFault q → IsSafe (with_found q w go) → FoundSafe q go
unfolding with_found
found_safe (Ok a) w go bad safe = record { value = a; is = refl; safe = safe }
found_safe (Err o) w go bad safe = absurd (false≢true (sym (safe o w refl) ∙ bad))

pub so_safe : (t : Bool) (r : Reason) (n : Option ℕ) (w : World) (go : World → Step) → IsSafe (where_so t r n w go) → (t ≡ true) × IsSafe (go w)
unfolding where_so
so_safe true r n w go safe = (refl, safe)
so_safe false r n w go safe = absurd (false≢true (sym (safe (fault r n) w refl)))

-- ---- objects that move or end

pub owned_fault : (from : Owner → Bool) (os : List Object) (n : ℕ) → OrFault (owned_at from os n)
owned_fault from os n = then_fault (object_at os n) _ (object_fault os n) (λ m. so_fault _ _ m)

pub moved_fault : (from : Owner → Bool) (to : Owner) (ns : List ℕ) (os : List Object) → OrFault (objects_after_move from to ns os)
moved_fault from to [] os = tt
moved_fault from to (n ∷ ns) os = then_fault (owned_at from os n) _ (owned_fault from os n) (λ m. moved_fault from to ns (with_changed_object n (with_owner to) os))

pub record AfterSafe (x : Found (List Object)) (w : World) (go : World → Step) : Type 0 where
  pub objects : List Object
  pub is : x ≡ Ok objects
  pub safe : IsSafe (go (with_objects w objects))

pub moved_safe : (from : Owner → Bool) (to : Owner) (ns : List ℕ) (w : World) (go : World → Step) → IsSafe (with_moved from to ns w go) → AfterSafe (objects_after_move from to ns w.objects) w go
unfolding with_moved
moved_safe from to ns w go safe =
    let f = found_safe (objects_after_move from to ns w.objects) w (λ os. go (with_objects w os)) (moved_fault from to ns w.objects) safe in
    record { objects = f.value; is = f.is; safe = f.safe }

pub released_safe : (p : Program) (n : ℕ) (w : World) (go : World → Step) → IsSafe (with_released p n w go) → (is_releasable p w.objects n ≡ true) × IsSafe (go (with_objects w (objects_after_release n w.objects)))
unfolding with_released
released_safe p n w go safe = so_safe (is_releasable p w.objects n) wrong_state (Some n) w (λ w. go (with_objects w (objects_after_release n w.objects))) safe

pub dropped_next : (p : Program) (n : ℕ) (ns : List ℕ) (os : List Object) (m : Named) → owned_at is_loose os n ≡ Ok m → is_releasable p os n ≡ true → objects_after_drop p (n ∷ ns) os ≡ objects_after_drop p ns (objects_after_release n os)
dropped_next p n ns os m at may =
    ap (λ z. z >>= (λ m. if_so (is_releasable p os n) wrong_state m >>= (λ k. objects_after_drop p ns (objects_after_release n os)))) at
    ∙ ap (λ t. if_so t wrong_state m >>= (λ k. objects_after_drop p ns (objects_after_release n os))) may

pub dropped_safe : (p : Program) (ns : List ℕ) (w : World) (go : World → Step) → IsSafe (with_dropped p ns w go) → AfterSafe (objects_after_drop p ns w.objects) w go
unfolding with_dropped
dropped_safe p [] w go safe = record { objects = w.objects; is = refl; safe = safe }
dropped_safe p (n ∷ ns) w go safe =
    let f = found_safe (owned_at is_loose w.objects n) w _ (owned_fault is_loose w.objects n) safe in
    let r = released_safe p n w (λ w. with_dropped p ns w go) f.safe in
    let s = dropped_safe p ns (with_objects w (objects_after_release n w.objects)) go r.1 in
    record { objects = s.objects; is = dropped_next p n ns w.objects f.value f.is r.0 ∙ s.is; safe = s.safe }

-- ---- what comes of a step

module _ (items : Items) (h : Heap) (v : Values) (r : Result (Unit {0}) TrapKind) where
  pub fault_does : (o : Outcome) (w : World) → is_fault o ≡ true → Does items h v r (ends o w)
  fault_does done w bad = bad
  fault_does (trap t) w bad = absurd (false≢true bad)
  fault_does fuel_end w bad = bad
  fault_does heap_end w bad = bad
  fault_does depth_end w bad = bad
  fault_does input_end w bad = bad
  fault_does answers_end w bad = bad
  fault_does (bad_answer n) w bad = bad
  fault_does (fault s n) w bad = bad

  pub found_goes : {A : Type 0} (q : Found A) (w : World) (go : A → Step) → OrFault q → ((a : A) → q ≡ Ok a → Does items h v r (go a)) → Does items h v r (with_found q w go)
  unfolding with_found
  found_goes (Ok a) w go bad then = then a refl
  found_goes (Err o) w go bad then = fault_does o w bad

  pub so_goes : (t : Bool) (s : Reason) (n : Option ℕ) (w : World) (go : World → Step) → (t ≡ true → Does items h v r (go w)) → Does items h v r (where_so t s n w go)
  unfolding where_so
  so_goes true s n w go then = then refl
  so_goes false s n w go then = refl

  pub moved_goes : (from : Owner → Bool) (to : Owner) (ns : List ℕ) (w : World) (go : World → Step) → ((os : List Object) → objects_after_move from to ns w.objects ≡ Ok os → Does items h v r (go (with_objects w os))) → Does items h v r (with_moved from to ns w go)
  unfolding with_moved
  moved_goes from to ns w go then = found_goes (objects_after_move from to ns w.objects) w (λ os. go (with_objects w os)) (moved_fault from to ns w.objects) then

  pub released_goes : (p : Program) (n : ℕ) (w : World) (go : World → Step) → (is_releasable p w.objects n ≡ true → Does items h v r (go (with_objects w (objects_after_release n w.objects)))) → Does items h v r (with_released p n w go)
  unfolding with_released
  released_goes p n w go then = so_goes (is_releasable p w.objects n) wrong_state (Some n) w (λ w. go (with_objects w (objects_after_release n w.objects))) then

  pub dropped_goes : (p : Program) (ns : List ℕ) (w : World) (go : World → Step) → ((os : List Object) → objects_after_drop p ns w.objects ≡ Ok os → Does items h v r (go (with_objects w os))) → Does items h v r (with_dropped p ns w go)
  unfolding with_dropped
  dropped_goes p [] w go then = then w.objects refl
  dropped_goes p (n ∷ ns) w go then =
      found_goes (owned_at is_loose w.objects n) w _ (owned_fault is_loose w.objects n) (λ m at.
      released_goes p n w (λ w. with_dropped p ns w go) (λ may.
      dropped_goes p ns (with_objects w (objects_after_release n w.objects)) go (λ os is. then os (dropped_next p n ns w.objects m at may ∙ is))))
