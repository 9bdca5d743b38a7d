-- Worlds that calls come to, where functions go by their positions.
use Rattle.std.proofs.Common.{◌≡◌, ℕ, Bool, true, false, if◌then◌else◌, List, [], ◌∷◌, ◌++◌, Option, Some, None, refl, ap, ◌∙◌, subst, slice_get}
use Rattle.std.proofs.lemmas.Option.{none-some, same_Some}
use Rattle.vlt_core.specs.Core.{Func, Program}
use Rattle.vlt_core.specs.Derives.{IsAccepted}
use Rattle.vlt_core.specs.Kinded.{IsKinded}
use Rattle.vlt_core_laws.specs.States.{HasStates}
use Rattle.vlt_meaning.specs.World.{Value, Object, World, is_fault}
use Rattle.vlt_meaning.specs.Step.{Step, goes, jumps, leaves, ends, with_objects}
use Rattle.vlt_meaning.specs.Run.{Setup, ran_of}
use Rattle.vlt_sound_worlds.specs.Safe.{Safe}
use Rattle.vlt_sound_calls.specs.Returned.{returns_to}
use Rattle.vlt_sound_worlds.specs.Agrees.{Context}
use Rattle.vlt_sound.specs.Sizes.{HasSizes}
use Rattle.vlt_sound.specs.Narrow.{HasNarrowHeads}
use Rattle.vlt_host_meaning.specs.Calls.{Argument}
use Rattle.vlt_host_meaning.specs.Permitted.{is_permitted}
use Rattle.vlt_host_meaning.specs.OneCall.{CallEnd, came_back, stopped, host_calls, host_instance, body_does, spent}
use Rattle.vlt_host_meaning.specs.HostClean.{IsHostClean}
use Rattle.vlt_host_meaning.specs.PastCalls.{PastCall, where_back, after_call, objects_after, IsLeftByCalls}
use Rattle.vlt_host_laws.specs.Calls.{GoesRight, TakesCalls}
use Rattle.vlt_host_laws.proofs.HostAgrees.{HostAgrees}
use Rattle.vlt_host_laws.proofs.Arguments.{asked}
use Rattle.vlt_host_laws.proofs.Cleanness.{host_clean}
use Rattle.vlt_host_laws.proofs.Whole.{nothing_held, IsFine, call_fine, body_safe}

-- ---- calls after others

module _ (r : Setup) (more : List PastCall) where
  back_on : (c : CallEnd) (go next : World → Option (List Object)) (u : List Object) → where_back c go ≡ Some u →
      ((v : World) → go v ≡ Some u → next v ≡ objects_after r more u) → where_back c next ≡ objects_after r more u
  unfolding where_back
  back_on (came_back text a w) go next u e h = h w e
  back_on (stopped text o w) go next u e h = absurd (none-some u e)

  call_on : (i : ℕ) (f : Option Func) (args : List Argument) (w : World) (go next : World → Option (List Object)) (u : List Object) →
      after_call r i f args w go ≡ Some u → ((v : World) → go v ≡ Some u → next v ≡ objects_after r more u) →
      after_call r i f args w next ≡ objects_after r more u
  unfolding after_call
  call_on i None args w go next u e h = absurd (none-some u e)
  call_on i (Some f) args w go next u e h = by (is_permitted r.program i f args w.objects) e
    where
      by : (b : Bool) → (if b then where_back (host_calls r f args w) go else None) ≡ Some u →
          (if b then where_back (host_calls r f args w) next else None) ≡ objects_after r more u
      by true e = back_on (host_calls r f args w) go next u e h
      by false e = absurd (none-some u e)

  pub calls_on : (vs : List PastCall) (w u : List Object) → objects_after r vs w ≡ Some u → objects_after r (vs ++ more) w ≡ objects_after r more u
  calls_on [] w u e = ap (objects_after r more) (same_Some w u e)
  calls_on (v ∷ vs) w u e =
      call_on v.number (slice_get r.program.fns v.number) v.args (with_objects v.world w) (λ x. objects_after r vs x.objects) (λ x. objects_after r (vs ++ more) x.objects) u e
      (λ x h. calls_on vs x.objects u h)

-- a call that is permitted and comes back
pub one_call : (r : Setup) (i : ℕ) (f : Func) (args : List Argument) (w v : World) (text : List ℕ) (a : Option Value) →
    slice_get r.program.fns i ≡ Some f → is_permitted r.program i f args w.objects ≡ true → host_calls r f args w ≡ came_back text a v →
    objects_after r (record { number = i; args = args; world = w } ∷ []) w.objects ≡ Some v.objects
unfolding after_call where_back
one_call r i f args w v text a at ok is = rw (at, ok, is) refl

pub one_call_more : (r : Setup) (i : ℕ) (f : Func) (args : List Argument) (w v : World) (text : List ℕ) (a : Option Value) →
    IsLeftByCalls r w.objects → slice_get r.program.fns i ≡ Some f → is_permitted r.program i f args w.objects ≡ true →
    host_calls r f args w ≡ came_back text a v → IsLeftByCalls r v.objects
one_call_more r i f args w v text a x at ok is = record {
  calls = x.calls ++ record { number = i; args = args; world = w } ∷ [];
  are =
      calls_on r (record { number = i; args = args; world = w } ∷ []) x.calls [] w.objects x.are ∙
      one_call r i f args w v text a at ok is;
}

-- ---- programs that break no rule and are accepted

module _ (p : Program) (kinded : IsKinded p) (accepted : IsAccepted p) (sizes : HasSizes p) (filled : HasStates p)
    (narrow : HasNarrowHeads p) (heap depth : ℕ) where
  abbrev setup : Setup
  setup = record { program = p; heap = heap; depth = depth }

  back_agrees : (f : Func) (args : List Argument) (w : World) (c : CallEnd) → IsFine p kinded accepted sizes filled narrow heap depth f args w c →
      (go : World → Option (List Object)) (u : List Object) → ((v : World) → HostAgrees p v.objects → go v ≡ Some u → HostAgrees p u) →
      where_back c go ≡ Some u → HostAgrees p u
  unfolding where_back
  back_agrees f args w (came_back text a v) fine go u next e = next v fine.0 e
  back_agrees f args w (stopped text o v) fine go u next e = absurd (none-some u e)

  call_agrees : (i : ℕ) (o : Option Func) → slice_get p.fns i ≡ o → (args : List Argument) (w : World) → HostAgrees p w.objects →
      (go : World → Option (List Object)) (u : List Object) → ((v : World) → HostAgrees p v.objects → go v ≡ Some u → HostAgrees p u) →
      after_call setup i o args w go ≡ Some u → HostAgrees p u
  unfolding after_call
  call_agrees i None at args w a go u next e = absurd (none-some u e)
  call_agrees i (Some f) at args w a go u next e = by (is_permitted p i f args w.objects) refl e
    where
      by : (b : Bool) → is_permitted p i f args w.objects ≡ b →
          (if b then where_back (host_calls setup f args w) go else None) ≡ Some u → HostAgrees p u
      by true ok e =
          back_agrees f args w (host_calls setup f args w) (call_fine p kinded accepted sizes filled narrow heap depth i f at w a args ok) go u next e
      by false ok e = absurd (none-some u e)

  all_agree : (vs : List PastCall) (w u : List Object) → HostAgrees p w → objects_after setup vs w ≡ Some u → HostAgrees p u
  all_agree [] w u a e = subst (HostAgrees p) (same_Some w u e) a
  all_agree (v ∷ vs) w u a e =
      call_agrees v.number (slice_get p.fns v.number) refl v.args (with_objects v.world w) a (λ x. objects_after setup vs x.objects) u
      (λ x b h. all_agree vs x.objects u b h) e

  pub calls_agree : (os : List Object) → IsLeftByCalls setup os → HostAgrees p os
  calls_agree os x = all_agree x.calls [] os (nothing_held p) x.are

  no_fault : (f : Func) (c : Context) (s : Step) → Safe (returns_to p f c) s → is_fault (ran_of s).outcome ≡ false
  no_fault f c (goes fr u) safe = absurd safe
  no_fault f c (jumps b fr u) safe = absurd safe
  no_fault f c (leaves a ns u) safe = refl
  no_fault f c (ends o u) safe = safe

  pub goes_right : (w : World) → IsLeftByCalls setup w.objects → (i : ℕ) (f : Func) (args : List Argument) → slice_get p.fns i ≡ Some f →
      is_permitted p i f args w.objects ≡ true → GoesRight setup f args w
  goes_right w x i f args at ok =
      let a = calls_agree w.objects x in
      record {
        right = no_fault (host_instance p f args w.objects) _ (body_does setup f args (spent w))
            (body_safe p kinded accepted sizes filled narrow heap depth i f at (spent w) a args (asked p i f args w.objects ok));
        back = λ text v u is. (
          (subst (IsFine p kinded accepted sizes filled narrow heap depth f args w) is (call_fine p kinded accepted sizes filled narrow heap depth i f at w a args ok)).1,
          one_call_more setup i f args w u text v x at ok is,
        );
      }

pub takes_calls : (p : Program) → IsKinded p → IsAccepted p → HasSizes p → HasStates p → HasNarrowHeads p → TakesCalls p
takes_calls p kinded accepted sizes filled narrow = record {
  goes = λ r w i f args same x at ok.
      subst (λ (q : Program). IsKinded q → IsAccepted q → HasSizes q → HasStates q → HasNarrowHeads q → slice_get q.fns i ≡ Some f → is_permitted q i f args w.objects ≡ true → GoesRight r f args w)
      same (λ k c s t n at ok. goes_right r.program k c s t n r.heap r.depth w x i f args at ok) kinded accepted sizes filled narrow at ok;
  leaves = λ r os same x.
      subst (λ (q : Program). IsKinded q → IsAccepted q → HasSizes q → HasStates q → HasNarrowHeads q → IsHostClean os)
      same (λ k c s t n. host_clean (calls_agree r.program k c s t n r.heap r.depth os x)) kinded accepted sizes filled narrow;
}
