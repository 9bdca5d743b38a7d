-- Unpack and Adopt: an object gets another owner, and a variable refers to it.
use Rattle.std.proofs.Common.{◌≡◌, ◌≢◌, ℕ, ◌==◌, not, Bool, true, List, [], ◌∷◌, ◌++◌, Option, Some, None, slice_get, Ok, refl, sym, ap, ◌∙◌, subst, arith}
use Rattle.std.proofs.lemmas.Bool.{false≢true, eqb-true}
use Rattle.std.proofs.lemmas.Bool.Decides.{nat_tests}
use Rattle.std.proofs.lemmas.Option.{same_Some}
use Rattle.vlt_core.specs.Core as core
use Rattle.vlt_core.specs.Core.{Ty, Func, Program, States}
use Rattle.vlt_core.specs.Lookups.{var_type, Reference, reference_of, owning_states, owning_states_in, release_set}
use Rattle.vlt_core.specs.KindedScopes.{binding_broken, target_broken, own_key}
use Rattle.vlt_core.specs.KindedStatements as kinded
use Rattle.vlt_core.specs.declared.rules.TheConstants as rule
use Rattle.vlt_meaning.specs.World as source
use Rattle.vlt_meaning.specs.World.{one, Object, Owner, held, adopted_by, is_loose}
use Rattle.vlt_meaning.specs.Found.{or_fault, Named, if_so, ◌>>=◌}
use Rattle.vlt_meaning.specs.Objects.{with_owner, in_states, owned_at, object_at}
use Rattle.vlt_meaning.specs.Values.{object_of, tracked_object}
use Rattle.vlt_meaning.specs.Operands.{owned_in}
use Rattle.vlt_meaning.specs.Step as step
use Rattle.vlt_meaning.specs.Run as run
use Rattle.c_syntax.specs.declared.program.CPrim.TheVariants as prim
use Rattle.c_syntax.specs.View.{stmts_made}
use Rattle.c_syntax.specs.C as syntax
use Rattle.c_meaning.specs.World as cw
use Rattle.c_meaning.specs.Primitives.{or_broken, on_references}
use Rattle.c_meaning.specs.Run as crun
use Rattle.c_lower.specs.Slots.{first_temps, slot_of}
use Rattle.c_lower.specs.Statements.{runtime_call, form_code}
use Rattle.c_lower_worlds.specs.Worlds.{c_world, blocks_of}
use Rattle.c_lower_worlds.specs.Shapes.{types_of, HasShape}
use Rattle.c_lower_worlds.specs.Same.{Same}
use Rattle.c_lower_worlds.specs.Naming.Functions.{IsFunction}
use Rattle.c_lower_worlds.specs.SameStatements.{IsSameForm}
use Rattle.c_lower_worlds.proofs.OfNaming.FoundObjects.{IsFree, OnlyFaults, HoldsObject, then_ok, or_fault_ok, if_so_ok, object_at_ok, object_of_ok, object_of_faults, then_faults, or_faults, object_faults, if_so_faults, err_ok, ok_same}
use Rattle.c_lower_worlds.proofs.BlockChanges.{own_is, held_alike}
use Rattle.c_lower_worlds.proofs.FrameChanges.{stands_one, stands_key, stands_unset}
use Rattle.c_lower_worlds.proofs.MovedObjects.{loose_free}
use Rattle.c_lower_worlds.proofs.StatementLists.{runs_then, set_runs, call_runs}
use Rattle.c_lower_worlds.proofs.SameSteps.{found_same, where_same}
use Rattle.c_lower_worlds.proofs.OfNaming.DeclaredVariables.{target_declared}
use Rattle.c_lower_worlds.proofs.Targets.{arrives}
use Rattle.c_lower_worlds.proofs.OfNaming.RuleFacts.{both_empty, IsTracked, tracked_is}
use Rattle.vlt_core_laws.proofs.Unbroken.{unless_holds}
use Rattle.vlt_core_laws.proofs.Ids.{and_left}
use Rattle.c_lower_worlds.proofs.VariableValues.{slot_holds, typed, reference_to, slot_below, spares_slot, owner_shaped, owner_types, part_same}

-- ---- what was found

pub owned_in_ok : (a : Option source.Value) (n : ℕ) → owned_in a ≡ Ok n → a ≡ Some (one (source.owned n))
owned_in_ok None n e = absurd (err_ok (source.fault source.no_value None) n e)
owned_in_ok (Some (one (source.owned m))) n e = ap (λ n. Some (one (source.owned n))) (ok_same m n e)
owned_in_ok (Some (one (source.number z))) n e = absurd (err_ok (source.fault source.missing None) n e)
owned_in_ok (Some (one (source.reference m))) n e = absurd (err_ok (source.fault source.missing None) n e)
owned_in_ok (Some (source.of_case k parts keys)) n e = absurd (err_ok (source.fault source.missing None) n e)

owned_in_faults : (a : Option source.Value) → OnlyFaults (owned_in a)
owned_in_faults None = refl
owned_in_faults (Some (one (source.owned m))) = tt
owned_in_faults (Some (one (source.number z))) = refl
owned_in_faults (Some (one (source.reference m))) = refl
owned_in_faults (Some (source.of_case k parts keys)) = refl

pub owned_faults : (from : Owner → Bool) (os : List Object) (n : ℕ) → OnlyFaults (owned_at from os n)
owned_faults from os n = then_faults (object_at os n) _ (object_faults os n) (λ m. if_so_faults (from m.object.owner) source.not_owned m)

-- an object whose owner passes a test
pub record IsOwned (from : Owner → Bool) (os : List Object) (n : ℕ) (m : Named) : Type 0 where
  pub number : n ≡ m.number
  pub at : slice_get os n ≡ Some m.object
  pub passes : from m.object.owner ≡ true

pub owned_ok : (from : Owner → Bool) (os : List Object) (n : ℕ) (m : Named) → owned_at from os n ≡ Ok m → IsOwned from os n m
owned_ok from os n m e =
    let b = then_ok (object_at os n) (λ m. if_so (from m.object.owner) source.not_owned m) m e in
    let at = object_at_ok os n b.found b.first in
    let q = if_so_ok (from b.found.object.owner) source.not_owned b.found m b.second in
    subst (IsOwned from os n) q.is (record { number = at.number; at = ap (slice_get os) at.number ∙ at.at; passes = q.passes })

record IsOwning (ty : Option Ty) : Type 0 where
  states : States
  type : ℕ
  args : List ℕ
  is : ty ≡ Some (core.owning states type args)

no_states : (s : States) → (let o : Option States = None in o ≡ Some s) → ⊥
no_states s e = cc

owning_is : (ty : Option Ty) (s : States) → owning_states_in ty ≡ Some s → IsOwning ty
owning_is (Some (core.owning states t args)) s e = record { states = states; type = t; args = args; is = refl }
owning_is None s e = absurd (no_states s e)
owning_is (Some core.int) s e = absurd (no_states s e)
owning_is (Some core.bool) s e = absurd (no_states s e)
owning_is (Some (core.tracked k t args)) s e = absurd (no_states s e)
owning_is (Some (core.guarded k t args)) s e = absurd (no_states s e)
owning_is (Some (core.variant t args)) s e = absurd (no_states s e)
owning_is (Some (core.owning_variant t args)) s e = absurd (no_states s e)

object_same : (n m : ℕ) → source.owned n ≡ source.owned m → n ≡ m
object_same n m e = cc

-- what an owning value's type says of its object
owned_to : (p : Program) (types : List ℕ) (states : States) (t n : ℕ) (args : List ℕ) → HasShape p types (core.owning states t args) (one (source.owned n)) → slice_get types n ≡ Some t
owned_to p types states t n args h =
    let o = object_same n h.shape.object (part_same (source.owned n) h.part h.is ∙ h.shape.is) in
    ap (slice_get types) o ∙ h.shape.of

pub record IsHeldBy (f : Func) (x : ℕ) (s : source.Frame) (os : List Object) (m : Named) : Type 0 where
  pub reference : Reference
  pub tracked : IsTracked (var_type f x) reference
  pub holds : HoldsObject x reference.key s os m

pub held_by : (f : Func) (states : Reference → States) (x : ℕ) (s : source.Frame) (os : List Object) (m : Named) → object_of f states x s os ≡ Ok m → IsHeldBy f x s os m
held_by f states x s os m e =
    let a = then_ok (or_fault source.missing (reference_of f x)) (λ r. tracked_object r x s os >>= in_states (states r)) m e in
    let r = or_fault_ok source.missing (reference_of f x) a.found a.first in
    record { reference = a.found; tracked = tracked_is (var_type f x) a.found r; holds = object_of_ok f states x a.found s os m r e }

module _ (p : Program) (heap depth : ℕ) (R : crun.Setup) (m : run.Meaning) (cm : crun.Meaning) (n : ℕ) where
  abbrev setup : run.Setup
  setup = record { program = p; heap = heap; depth = depth }

  pub unpack_same : (f : Func) (x v : ℕ) → IsFunction p f → IsSameForm p setup R m cm n f (core.simple (core.unpack x v))
  unpack_same f x v is around ids t k s w frame g i kinds up le h =
      found_same p f t k frame (or_fault source.missing (reference_of f x)) w _ _ (or_faults source.missing (reference_of f x)) (λ q eq.
      found_same p f t k frame (or_fault source.missing (owning_states f v)) w _ _ (or_faults source.missing (owning_states f v)) (λ states es.
      found_same p f t k frame (owned_in (s.vars v)) w _ _ (owned_in_faults (s.vars v)) (λ n en.
      found_same p f t k frame (owned_at is_loose w.objects n >>= in_states states) w _ _
      (then_faults (owned_at is_loose w.objects n) (in_states states) (owned_faults is_loose w.objects n) (λ m. if_so_faults (states m.object.state) source.wrong_state m)) (λ m em.
      in_it q n (tracked_is (var_type f x) q (or_fault_ok source.missing (reference_of f x) q eq)) (owning_is (var_type f v) states (or_fault_ok source.missing (owning_states f v) states es))
      (owned_in_ok (s.vars v) n en) (then_ok (owned_at is_loose w.objects n) (in_states states) m em).found
      (owned_ok is_loose w.objects n _ (then_ok (owned_at is_loose w.objects n) (in_states states) m em).first)))))
    where
      apart_none : kinded.objects_apart (kinded.owning_object (var_type f v)) (kinded.tracked_type (var_type f x)) ≡ []
      apart_none =
          let a = both_empty _ (binding_broken f ids (own_key f x) x) kinds.row in
          (both_empty _ (kinded.objects_apart (kinded.owning_object (var_type f v)) (kinded.tracked_type (var_type f x))) a.left).right

      in_it : (q : Reference) (n : ℕ) → IsTracked (var_type f x) q → IsOwning (var_type f v) → s.vars v ≡ Some (one (source.owned n)) → (m : Named) → IsOwned is_loose w.objects n m →
          Same p f t k frame
          (step.goes (step.with_var x (Some (one (source.reference n))) (step.with_key q.key n (step.with_var v None s))) (step.with_changed w n (with_owner (held s.depth q.key))))
          (crun.does_stmts R cm i (stmts_made (form_code p f t (core.simple (core.unpack x v))).stmts) frame (c_world p g w))
      in_it q n qx ov var m o =
          let os = w.objects in
          let w2 : source.World = step.with_changed w n (with_owner (held s.depth q.key)) in
          let at = slot_holds p (types_of os) f s frame v (source.owned n) h.stands var in
          let tv = typed p (types_of os) f s frame v (one (source.owned n)) h.stands var in
          let of_v = owned_to p (types_of os) ov.states ov.type n ov.args (subst (λ ty. HasShape p (types_of os) ty (one (source.owned n))) (same_Some tv.ty _ (sym tv.declared ∙ ov.is)) tv.shape) in
          let e : kinded.objects_apart (kinded.owning_object (Some (core.owning ov.states ov.type ov.args))) (kinded.tracked_type (Some (core.tracked q.key q.type qx.args))) ≡ [] =
          rw (ov.is, qx.is) at apart_none in
          let same = eqb-true ov.type q.type (and_left _ _ (unless_holds _ _ e)) in
          let alike : blocks_of p w2.objects ≡ blocks_of p os = held_alike p os n (held s.depth q.key)
          (λ z d. subst (λ (z : Object). IsFree z.owner) (same_Some m.object z (sym o.at ∙ d)) (loose_free m.object.owner o.passes)) (record { above = refl; out = refl; live = refl }) in
          let to = crun.with_var (slot_of p f x) (cw.reference (Some n)) frame in
          let s1 : source.Frame = step.with_key q.key n (step.with_var v None s) in
          let stands = stands_one p (types_of os) f s1 frame x (core.tracked q.key q.type qx.args) (source.reference n)
          (stands_key p (types_of os) f (step.with_var v None s) frame q.key n (stands_unset p (types_of os) f s frame v h.stands)) qx.is
          (record { part = source.reference n; is = refl; shape = record { object = n; is = refl; of = of_v ∙ ap (λ t. Some t) same } }) in
          arrives p f t k s (step.with_var x (Some (one (source.reference n))) s1) w w2 frame to g _ h stands
          (spares_slot (first_temps p f) t (slot_of p f x) (cw.reference (Some n)) frame (slot_below p f x (core.tracked q.key q.type qx.args) qx.is))
          (owner_types os n (held s.depth q.key)) (owner_shaped p os n (held s.depth q.key)) refl (λ q. q)
          (set_runs R cm (slot_of p f x) (syntax.variable (slot_of p f v)) (cw.reference (Some n)) frame (c_world p g w) (rw at refl) i
          ∙ ap (λ bs. crun.goes to (record (c_world p g w) { blocks = bs })) (sym alike))

  -- ---- adoption

  record IsGuardedVar (ty : Option Ty) : Type 0 where
    key : ℕ
    type : ℕ
    args : List ℕ
    is : ty ≡ Some (core.guarded key type args)

  guarded_var : (ty : Ty) → kinded.is_guarded_type ty ≡ true → IsGuardedVar (Some ty)
  guarded_var (core.guarded k t args) e = record { key = k; type = t; args = args; is = refl }
  guarded_var core.int e = absurd (false≢true e)
  guarded_var core.bool e = absurd (false≢true e)
  guarded_var (core.tracked k t args) e = absurd (false≢true e)
  guarded_var (core.owning states t args) e = absurd (false≢true e)
  guarded_var (core.variant t args) e = absurd (false≢true e)
  guarded_var (core.owning_variant t args) e = absurd (false≢true e)

  differ : (a b : ℕ) → not (a == b) ≡ true → a ≢ b
  differ a b e same = grind (arith, nat_tests)

  pub adopt_same : (f : Func) (y x r : ℕ) → IsFunction p f → IsSameForm p setup R m cm n f (core.simple (core.adopt y x r))
  unfolding on_references or_broken
  adopt_same f y x r is around ids t k s w frame g i kinds up le h =
      found_same p f t k frame (object_of f (λ t. release_set p t.type) x s w.objects) w _ _ (object_of_faults f (λ t. release_set p t.type) x s w.objects) (λ o eo.
      found_same p f t k frame (object_of f run.any_state r s w.objects) w _ _ (object_of_faults f run.any_state r s w.objects) (λ a ea.
      where_same p f t k frame (not (o.number == a.number)) source.same_object (Some o.number) w _ _ (λ apart.
      let ho = held_by f (λ t. release_set p t.type) x s w.objects o eo in
      let ha = held_by f run.any_state r s w.objects a ea in
      let os = w.objects in
      let w2 : source.World = step.with_changed w o.number (with_owner (adopted_by a.number)) in
      let d = target_declared f ids y target in
      let gy : IsGuardedVar (var_type f y) = subst IsGuardedVar (sym d.is) (guarded_var d.ty (unless_holds (kinded.is_guarded_type d.ty) rule.WRONG_TYPE (subst (λ o. kinded.wanted_of o kinded.is_guarded_type ≡ []) d.is wanted))) in
      let same_none : kinded.objects_apart (kinded.guarded_object (Some (core.guarded gy.key gy.type gy.args))) (kinded.tracked_type (Some (core.tracked ho.reference.key ho.reference.type ho.tracked.args))) ≡ [] =
      rw (gy.is, ho.tracked.is) at apart_none in
      let same = eqb-true gy.type ho.reference.type (and_left _ _ (unless_holds _ _ same_none)) in
      let at_x = slot_holds p (types_of os) f s frame x (source.reference o.number) h.stands ho.holds.refers.var in
      let at_r = slot_holds p (types_of os) f s frame r (source.reference a.number) h.stands ha.holds.refers.var in
      let owned = own_is p os o.number a.number o.object a.object (adopted_by a.number) (record { at = ho.holds.refers.at; live = ho.holds.refers.live }) (record { at = ha.holds.refers.at; live = ha.holds.refers.live })
      ho.holds.free ha.holds.free.above (differ o.number a.number apart) refl refl refl in
      let tx = typed p (types_of os) f s frame x (one (source.reference o.number)) h.stands ho.holds.refers.var in
      let of_x = reference_to p (types_of os) (core.tracked ho.reference.key ho.reference.type ho.tracked.args) o.number ho.reference.type
      (subst (λ ty. HasShape p (types_of os) ty (one (source.reference o.number))) (same_Some tx.ty _ (sym tx.declared ∙ ho.tracked.is)) tx.shape) refl in
      let to = crun.with_var (slot_of p f y) (cw.reference (Some o.number)) frame in
      let stands = stands_one p (types_of os) f s frame y (core.guarded gy.key gy.type gy.args) (source.reference o.number) h.stands gy.is
      (record { part = source.reference o.number; is = refl; shape = record { object = o.number; is = refl; of = of_x ∙ ap (λ t. Some t) (sym same) } }) in
      arrives p f t k s (step.with_var y (Some (one (source.reference o.number))) s) w w2 frame to g _ h stands
      (spares_slot (first_temps p f) t (slot_of p f y) (cw.reference (Some o.number)) frame (slot_below p f y (core.guarded gy.key gy.type gy.args) gy.is))
      (owner_types os o.number (adopted_by a.number)) (owner_shaped p os o.number (adopted_by a.number)) refl (λ q. q)
      (runs_then R cm (runtime_call prim.Own (syntax.variable (slot_of p f x) ∷ syntax.variable (slot_of p f r) ∷ []) ∷ []) (syntax.set (slot_of p f y) (syntax.variable (slot_of p f x)) ∷ [])
      frame frame (c_world p g w) (c_world p g w2) (crun.goes to (c_world p g w2))
      (call_runs R cm prim.Own (syntax.variable (slot_of p f x) ∷ syntax.variable (slot_of p f r) ∷ []) frame (c_world p g w) (c_world p g w2) (rw (at_x, at_r, owned) refl))
      (set_runs R cm (slot_of p f y) (syntax.variable (slot_of p f x)) (cw.reference (Some o.number)) frame (c_world p g w2) (rw at_x refl)) i))))
    where
      target : target_broken f ids y ≡ []
      target = (both_empty _ (target_broken f ids y) kinds.row).right

      front : kinded.tracked_broken f ids rule.WRONG_TYPE x ++ kinded.tracked_broken f ids rule.WRONG_TYPE r ++ kinded.droppable_broken p f x ++ kinded.wanted_of (var_type f y) kinded.is_guarded_type
          ++ kinded.objects_apart (kinded.guarded_object (var_type f y)) (kinded.tracked_type (var_type f x)) ≡ []
      front = (both_empty _ (kinded.keys_differ (kinded.guard_key (var_type f y)) (own_key f r)) (both_empty _ (target_broken f ids y) kinds.row).left).left

      apart_none : kinded.objects_apart (kinded.guarded_object (var_type f y)) (kinded.tracked_type (var_type f x)) ≡ []
      apart_none = (both_empty _ (kinded.objects_apart (kinded.guarded_object (var_type f y)) (kinded.tracked_type (var_type f x))) front).right

      wanted : kinded.wanted_of (var_type f y) kinded.is_guarded_type ≡ []
      wanted = (both_empty _ (kinded.wanted_of (var_type f y) kinded.is_guarded_type) (both_empty _ (kinded.objects_apart (kinded.guarded_object (var_type f y)) (kinded.tracked_type (var_type f x))) front).left).right
