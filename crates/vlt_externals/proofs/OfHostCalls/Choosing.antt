-- The instance that a call chooses, by the state of the object of the bound key.
use Rattle.std.proofs.Common.{◌≡◌, ℕ, true, false, List, Option, None, Some, Result, Ok, Err, refl, sym, ap, ◌∙◌, subst, slice_get}
use Rattle.std.specs.Option.{option_map}
use Rattle.std.proofs.lemmas.Bool.{false≢true}
use Rattle.std.proofs.lemmas.Option.{same_Some}
use Rattle.vlt_base.specs.declared.ids.VarId.{VarId}
use Rattle.vlt_core.specs.Core.{Func, Program}
use Rattle.vlt_core.specs.Instances.{bound_in, instance}
use Rattle.vlt_heap.specs.declared.slots.Obj.{Obj}
use Rattle.vlt_heap.specs.declared.slots.Slot.{Slot}
use Rattle.vlt_heap.specs.declared.slots.Slot.TheVariants.{Object}
use Rattle.vlt_heap.specs.declared.heap.Heap.{Heap}
use Rattle.vlt_heap.specs.Items.{Item, Items, IsAt, IsMadeAt}
use Rattle.vlt_heap.specs.Shown.{Holds, heap_of}
use Rattle.vlt_meaning.specs.World.{is_gone, called, World}
use Rattle.vlt_meaning.specs.Found.{Found, Named}
use Rattle.vlt_meaning.specs.Values.{held_object}
use Rattle.vlt_meaning.specs.Step.{with_found, with_event, with_answer, first_answer}
use Rattle.vlt_meaning.specs.Calls.{passed_objects}
use Rattle.vlt_meaning.specs.Externals.{awaited_keys, named_objects, call_external}
use Rattle.vlt_acts.specs.declared.values.values.Values.{Values}
use Rattle.vlt_acts.specs.declared.hosts.host.Host.{Host}
use Rattle.vlt_acts.specs.Values.Shown.{ShowsIt, Seen, key_at}
use Rattle.vlt_acts.specs.Hosts.Hosts.{Comes}
use Rattle.vlt_acts.proofs.OfValues.Fronts.{IsSlotAt, IsNoObject, has_part, same_object}
use Rattle.vlt_acts.proofs.OfValues.Touching.{held_is}
use Rattle.vlt_acts.proofs.OfObjects.Going.{found_safe}
use Rattle.vlt_steps.specs.declared.stop.Stop.{Stop}
use Rattle.vlt_steps.specs.Writing.{Outside}
use Rattle.vlt_externals.proofs.Coming.{known}
use Rattle.vlt_externals.specs.HostAnswers.Read.{AreWithin}
use Rattle.vlt_externals.specs.HostCalls.Called.{IsSafe, called_to, CanCallAs, CallsAs, TellsOrigin, instance_in, CanCall, Calls}
use Rattle.vlt_externals.proofs.OfHostCalls.Instances.{call_in, chosen, within_called, origin_called}
use Rattle.vlt_externals.proofs.OfHostCalls.Leading.{then_take, wrong_leads}
use Rattle.vlt_externals.proofs.OfHostCalls.Calling.{passed_fault, fault_comes}

-- ---- the state of an object that a key names

module _ (h : Heap) (values : Values) (key : ℕ) (a : Slot) (slot : IsSlotAt values.slots.items (key_at values key) a) (c : Seen h values) (m : Named) (held : held_object key c.frame c.objects ≡ Ok m) where
  state_there : (o : Obj) (n s : ℕ) → a ≡ Object o n → ((items : Items) (x : Item) → Holds h items → IsMadeAt items o.0 n → IsAt items n x → s ≡ x.state) → s ≡ m.object.state
  state_there o n s is tells =
      let q = held_is key c.frame c.objects m held in
      let ref = has_part c.items values.slots.items (key_at values key) _ a slot (c.fits.keys key m.number q.key) in
      let same = same_object (sym is ∙ ref.is) in
      let made : IsMadeAt c.items o.0 m.number = subst (λ z. IsMadeAt c.items z.0 m.number) (sym same.0) ref.made in
      let k = known c.items values.width o.0 m.number c.objects c.shown made in
      by q.root.live same.1 made k.item k.at (subst (ShowsIt c.items values.width k.item) (same_Some k.object m.object (sym k.object_at ∙ q.at)) k.shown)
    where
      by : is_gone m.object.owner ≡ false → n ≡ m.number → IsMadeAt c.items o.0 m.number → (x : Option Item) → slice_get c.items m.number ≡ Some x → ShowsIt c.items values.width x m.object → s ≡ m.object.state
      by live same made None at shown = absurd (false≢true (sym live ∙ shown))
      by live same made (Some x) at shown = tells c.items x c.holds (subst (IsMadeAt c.items o.0) (sym same) made) (ap (slice_get c.items) same ∙ at) ∙ shown.state

  none_there : IsNoObject a → ⊥
  none_there other =
      let q = held_is key c.frame c.objects m held in
      let ref = has_part c.items values.slots.items (key_at values key) _ a slot (c.fits.keys key m.number q.key) in
      other ref.object m.number ref.is

-- it is so of the caller's key that stands for one of the head
module _ (h : Heap) (values : Values) (keys : List ℕ) (j k : ℕ) (a : Slot) (at : slice_get keys j ≡ Some k) (slot : IsSlotAt values.slots.items (key_at values k) a) where
  pub state_so : (o : Obj) (n s : ℕ) → a ≡ Object o n → ((items : Items) (x : Item) → Holds h items → IsMadeAt items o.0 n → IsAt items n x → s ≡ x.state)
      → (c : Seen h values) (i : ℕ) (m : Named) → slice_get keys j ≡ Some i → held_object i c.frame c.objects ≡ Ok m → s ≡ m.object.state
  state_so o n s is tells c i m found held =
      state_there h values k a slot c m (ap (λ z. held_object z c.frame c.objects) (same_Some k i (sym at ∙ found)) ∙ held) o n s is tells

  pub state_other : (s : ℕ) → IsNoObject a → (c : Seen h values) (i : ℕ) (m : Named) → slice_get keys j ≡ Some i → held_object i c.frame c.objects ≡ Ok m → s ≡ m.object.state
  state_other s other c i m found held =
      absurd (none_there h values k a slot c m (ap (λ z. held_object z c.frame c.objects) (same_Some k i (sym at ∙ found)) ∙ held) other)

-- ---- the call

module _ (p : Program) (g : Func) (target : Option VarId) (keys : List ℕ) (h : Heap) (old : Values) (host : Host) where
  record IsPassed (c : Seen h old) (w : World) : Type 0 where
    numbers : List ℕ
    are : passed_objects c.program (instance_in h old c g keys w) keys c.frame w.objects (instance_in h old c g keys w).clause ≡ Ok numbers

  passed : (can : CanCall p g target keys h old host) → IsPassed can.seen can.world
  unfolding call_external with_answer first_answer
  passed can =
      let c = can.seen in
      let w = can.world in
      let i = instance_in h old c g keys w in
      let t = option_map (λ v. v.0) target in
      let js = awaited_keys c.program i in
      let f = found_safe (passed_objects c.program i keys c.frame w.objects i.clause) w (λ ns. with_found (named_objects keys c.frame js) w (λ ms. first_answer w.answers (with_event w (called i.name can.args)) (λ ys. then_take (heap_of h) c.program c.func t keys i can.args c.frame ys))) (passed_fault c.program i keys c.frame w.objects i.clause) can.right in
      record { numbers = f.value; are = f.is }

  module _ (r : Option ℕ) (told : TellsOrigin g keys h old r) where
    origin_is : (c : Seen h old) (w : World) → w.objects ≡ c.objects → IsPassed c w → r ≡ chosen c.program g keys c.frame w.objects (bound_in g.clause)
    origin_is c w same q = origin_called c.program g keys c.frame w.objects h old c r q.numbers refl (sym same) q.are told

    pub can_within : CanCall p g target keys h old host → AreWithin p g r g.clause
    can_within can =
        let c = can.seen in
        let w = can.world in
        let q = passed can in
        subst (λ o. AreWithin p g o g.clause) (sym (origin_is c w can.call.objects q))
        (subst (λ z. AreWithin z g (chosen c.program g keys c.frame w.objects (bound_in g.clause)) g.clause) can.call.program (within_called c.program g keys c.frame w.objects q.numbers q.are))

    pub can_as : CanCall p g target keys h old host → CanCallAs p (instance p g r) target keys h old host
    can_as can =
        let c = can.seen in
        let w = can.world in
        let e = origin_is c w can.call.objects (passed can) in
        record {
          seen = c;
          world = w;
          args = can.args;
          call = call_in p g r keys h old host c w can.args can.call;
          right = subst (λ z. IsSafe (called_to h old c (instance z g r) target keys can.args w)) can.call.program (subst (λ o. IsSafe (called_to h old c (instance c.program g o) target keys can.args w)) (sym e) can.right);
        }

    pub calls_as : (last : Heap) (new : Values) (after : Host) (start end : Outside) (result : Result (Unit {0}) Stop) → CallsAs p (instance p g r) target keys h last old new host after start end result → Calls p g target keys h last old new host after start end result
    calls_as last new after start end result calls c w args call = by (passed_objects c.program i keys c.frame w.objects i.clause) refl
      where
        i : Func
        i = instance_in h old c g keys w

        by : (x : Found (List ℕ)) → passed_objects c.program i keys c.frame w.objects i.clause ≡ x → Comes c.items last new after start end result w (called_to h old c i target keys args w)
        by (Ok ns) is =
            subst (λ o. Comes c.items last new after start end result w (called_to h old c (instance c.program g o) target keys args w)) (origin_is c w call.objects (record { numbers = ns; are = is }))
            (subst (λ z. Comes c.items last new after start end result w (called_to h old c (instance z g r) target keys args w)) (sym call.program) (calls c w args (call_in p g r keys h old host c w args call)))
        by (Err o) is =
            wrong_leads (Comes c.items last new after start end result w) (λ o v bad. fault_comes c.items last new after start end w result o v bad) (heap_of h) c.program c.func (option_map (λ v. v.0) target) keys i args c.frame w
            (passed_fault c.program i keys c.frame w.objects i.clause) o is
