-- Calls of a host, one after another, of a program that breaks no rule and is accepted.
use Rattle.std.proofs.Common.{◌≡◌, ℕ, suc, ◌==◌, nat_lt, ℤ, Bool, true, false, if◌then◌else◌, List, [], ◌∷◌, map, Option, Some, None, refl, sym, subst, arith, slice_get}
use Rattle.vlt_core.specs.Core.{tracked, Func, Program}
use Rattle.vlt_core.specs.Instances.{bound_in, instance, IsOrigin}
use Rattle.vlt_core.specs.Derives.{IsAccepted}
use Rattle.vlt_core.specs.Kinded.{IsKinded}
use Rattle.vlt_core_laws.specs.States.{HasStates}
use Rattle.vlt_meaning.specs.World.{Value, gone, adopted_by, World, is_fault, fuel_end, depth_end}
use Rattle.vlt_meaning.specs.World as world
use Rattle.vlt_meaning.specs.Step.{Step, goes, jumps, leaves, ends}
use Rattle.vlt_meaning.specs.Calls.{passed_objects, callee_frame}
use Rattle.vlt_meaning.specs.Run.{Setup, start}
use Rattle.vlt_meaning.specs.Does.{does}
use Rattle.vlt_sound_worlds.specs.Members.{In, IsOnce}
use Rattle.vlt_sound_worlds.specs.Roots.{Root, in_var, in_hand, in_wait, in_cell, content}
use Rattle.vlt_sound_worlds.specs.Agrees.{Context}
use Rattle.vlt_sound_worlds.specs.Typed.{IsDeclared, IsTyped}
use Rattle.vlt_sound_worlds.specs.Safe.{Safe}
use Rattle.vlt_sound_worlds.proofs.Safe.{found_safe}
use Rattle.vlt_sound_calls.specs.Returned.{returns_to}
use Rattle.vlt_sound_calls.specs.Heads.{HasHead}
use Rattle.vlt_sound_calls.specs.Bounds.{HasBound}
use Rattle.vlt_sound_calls.specs.Callee.{callee_context}
use Rattle.vlt_sound_calls.proofs.Instanced.{typed_instance, head_instance}
use Rattle.vlt_sound_calls.proofs.Over.{all_passed}
use Rattle.vlt_sound_calls.proofs.Begins.{holds, passes_states}
use Rattle.vlt_sound_calls.proofs.EnteringLaws.{callee_agrees, callee_entered, callee_scoped}
use Rattle.vlt_sound.specs.Sizes.{HasSizes}
use Rattle.vlt_sound.specs.Narrow.{HasNarrowHeads}
use Rattle.vlt_sound.proofs.Facts.{is_typed, has_head}
use Rattle.vlt_sound.proofs.Bounded.{has_bound}
use Rattle.vlt_sound.proofs.Vars.{head_kinded, result_kinded}
use Rattle.vlt_sound.proofs.Levels.{level}
use Rattle.vlt_host_meaning.specs.Calls.{Argument, value_of_argument, HostCall}
use Rattle.vlt_host_meaning.specs.EntryFunctions.{function_of_name}
use Rattle.vlt_host_meaning.specs.HostFrame.{host_frame}
use Rattle.vlt_host_meaning.specs.Permitted.{host_keys, is_permitted}
use Rattle.vlt_host_meaning.specs.Lines.{call_line}
use Rattle.vlt_host_meaning.specs.OneCall.{CallEnd, came_back, stopped, end_of_body, host_instance, instance_does, body_does, without_events, world_inside, spent, host_calls}
use Rattle.vlt_host_meaning.specs.HostRun.{bad_call, CallsEnd, all_came_back, broke_off, after_text, then_calls, call_function, call_number, after_calls, host_ran_of}
use Rattle.vlt_host_laws.specs.Promise.{is_host_fault, NeverGoesWrongForHosts, ChangesByClause, ComesTo, KeepsClauses, LeavesOnlyTheHosts}
use Rattle.vlt_host_laws.proofs.HostAsCaller.{host_func, host_ids, host_map, host_context}
use Rattle.vlt_host_laws.proofs.HostAgrees.{bare_stock, HostAgrees, host_entered, host_scoped}
use Rattle.vlt_host_laws.proofs.Arguments.{IsAsked, asked}
use Rattle.vlt_host_laws.proofs.CallFromHost.{is_call, passes, values_long, before_call, host_is_typed}
use Rattle.vlt_host_laws.proofs.OfInstances.{origin, allowed, plain, asked_of, kept_of}
use Rattle.vlt_host_laws.proofs.CallBack.{goes_on, came_back as comes_back}
use Rattle.vlt_host_laws.proofs.Cleanness.{host_clean}

-- a host that holds nothing
pub nothing_held : (p : Program) → HostAgrees p []
nothing_held p = record {
  heads = λ n. [];
  placed = record {
    place = λ n. in_hand;
    there = λ n owned. absurd owned;
    here = λ P n i. absurd (subst (In n) (none P) i);
    once = λ P. subst IsOnce (sym (none P)) tt;
  };
  ranked = record { rank = λ n. 0; top = 1; under = λ n. omega arith; linked = λ n p e. absurd (no_parent p e) };
  objects = λ n live. absurd (live refl);
  adopted = λ n g e. absurd (no_owner g e);
  own = λ n d k u. absurd u;
  bare = λ n e. refl;
  declared = λ n e. absurd (not_held n e);
}
  where
    none : (P : Root) → content (bare_stock []) P ≡ []
    none (in_var v) = refl
    none in_hand = refl
    none (in_wait d v) = refl
    none (in_cell n i) = refl

    no_parent : (p : ℕ) → ◌≡◌ {A = Option ℕ} None (Some p) → ⊥
    no_parent p e = cc

    no_owner : (g : ℕ) → gone ≡ adopted_by g → ⊥
    no_owner g e = cc

    not_held : (n : ℕ) → gone ≡ world.held 0 n → ⊥
    not_held n e = cc

module _ (p : Program) (kinded : IsKinded p) (accepted : IsAccepted p) (sizes : HasSizes p) (filled : HasStates p)
    (narrow : HasNarrowHeads p) (heap depth : ℕ) where
  abbrev setup : Setup
  setup = record { program = p; heap = heap; depth = depth }

  -- ---- one call

  -- it ends in no fault, and where it comes back the clause is kept
  abbrev pub IsFine : Func → List Argument → World → CallEnd → Type 0
  IsFine g args w (came_back text v u) = HostAgrees p u.objects × ChangesByClause p g args v w.objects u.objects
  IsFine g args w (stopped text o u) = is_fault o ≡ false

  -- of an instance whose clause has no bound entry
  module _ (i : ℕ) (declared : Func) (o : Option ℕ) (at : slice_get p.fns i ≡ Some declared) (origin : IsOrigin p declared o) (w : World)
      (a : HostAgrees p w.objects) (args : List Argument) (q : IsAsked p i (instance p declared o) args w.objects)
      (plain : bound_in (instance p declared o).clause ≡ None) where
    abbrev g : Func
    g = instance p declared o

    head : HasHead p g
    head = head_instance p declared o (has_head p i declared kinded at)

    typed : IsTyped p g
    typed = typed_instance p declared o (is_typed p i declared kinded sizes at)

    results : (k t : ℕ) → g.result ≡ Some (tracked k t []) → IsDeclared p t []
    results k t is = (result_kinded p declared (head_kinded p i declared kinded at) (tracked k t []) is).declared t refl

    abbrev inner : Context
    inner =
        callee_context (host_func w.objects) (host_map w.objects) (host_ids w.objects) (host_frame w.objects) (host_context w.objects) g (host_keys g args w.objects)

    instance_safe : Safe (returns_to p g inner) (instance_does setup g args w)
    unfolding instance_does does
    instance_safe =
        let keys = host_keys g args w.objects in
        let values = map value_of_argument args in
        let agrees = before_call head typed a args q in
        let call = is_call head typed a args q in
        let pass = passes head typed a args q plain in
        let host_typed = host_is_typed head typed a args q in
        let entered = host_entered a in
        let scoped = host_scoped a in
        let long = values_long head typed a args q in
        let ok =
        all_passed keys (host_frame w.objects) w.objects p g g.clause (holds agrees g keys call host_typed.limited entered.flat pass)
        (λ e j b x. (passes_states agrees g keys call host_typed.limited entered.flat pass e j b x).0) in
        found_safe (returns_to p g inner)
        (passed_objects p g keys (host_frame w.objects) w.objects g.clause) ok.0 (without_events w) _ ok.1
        ((level p heap depth kinded accepted sizes filled narrow (suc w.fuel)).callees.each i declared o at q.body origin inner
        (callee_frame g keys values (host_frame w.objects)) (world_inside g args w)
        (callee_entered g keys values agrees long call host_typed typed head entered scoped pass)
        (callee_scoped g keys values agrees long call host_typed typed head entered scoped pass)
        (callee_agrees g keys values agrees long call host_typed typed head entered scoped pass))

    came_instance : (line : List ℕ) (s : Step) → Safe (returns_to p g inner) s → IsFine g args w (end_of_body line s)
    unfolding end_of_body
    came_instance line (leaves v ns u) safe =
        (goes_on head typed a args q results safe, comes_back head typed a args q results safe plain)
    came_instance line (ends o u) safe = safe
    came_instance line (goes fr u) safe = absurd safe
    came_instance line (jumps b fr u) safe = absurd safe

  module _ (i : ℕ) (g : Func) (at : slice_get p.fns i ≡ Some g) (w : World) (a : HostAgrees p w.objects) (args : List Argument)
      (q : IsAsked p i g args w.objects) where
    abbrev g_head : HasHead p g
    g_head = has_head p i g kinded at

    abbrev g_typed : IsTyped p g
    g_typed = is_typed p i g kinded sizes at

    abbrev g_bound : HasBound g
    g_bound = has_bound p i g kinded at

    -- the state of the bound entry's object
    abbrev its_origin : Option ℕ
    its_origin = origin g_head g_typed a args q g_bound

    abbrev pub called_context : Context
    called_context =
        callee_context (host_func w.objects) (host_map w.objects) (host_ids w.objects) (host_frame w.objects) (host_context w.objects)
        (host_instance p g args w.objects) (host_keys g args w.objects)

    pub body_safe : Safe (returns_to p (host_instance p g args w.objects) called_context) (body_does setup g args w)
    body_safe =
        instance_safe i g its_origin at (allowed g_head g_typed a args q g_bound) w a args (asked_of g_head g_typed a args q g_bound)
        (plain g_head g_typed a args q g_bound)

    came_fine : (line : List ℕ) → IsFine g args w (end_of_body line (body_does setup g args w))
    came_fine line =
        of_instance (end_of_body line (body_does setup g args w))
        (came_instance i g its_origin at (allowed g_head g_typed a args q g_bound) w a args (asked_of g_head g_typed a args q g_bound)
        (plain g_head g_typed a args q g_bound) line (body_does setup g args w) body_safe)
      where
        of_instance : (c : CallEnd) → IsFine (host_instance p g args w.objects) args w c → IsFine g args w c
        of_instance (came_back text v u) fine = (fine.0, kept_of g_head g_typed a args q g_bound v u.objects fine.1)
        of_instance (stopped text o u) fine = fine

  pub call_fine : (i : ℕ) (g : Func) → slice_get p.fns i ≡ Some g → (w : World) → HostAgrees p w.objects → (args : List Argument) →
      is_permitted p i g args w.objects ≡ true → IsFine g args w (host_calls setup g args w)
  unfolding host_calls
  call_fine i g at w a args ok = by (w.fuel == 0) (nat_lt 0 depth)
    where
      by : (b c : Bool) →
          IsFine g args w (if b then stopped [] fuel_end w else if c then end_of_body (call_line g.name args) (body_does setup g args (spent w)) else stopped (call_line g.name args) depth_end (spent w))
      by true c = refl
      by false false = refl
      by false true =
          came_fine i g at (spent w) a args (asked p i g args w.objects ok) (call_line g.name args)

  -- ---- all calls

  abbrev AreFine : CallsEnd → Type 0
  AreFine (all_came_back text u) = HostAgrees p u.objects
  AreFine (broke_off text o u) = is_host_fault o ≡ false

  text_fine : (text : List ℕ) (x : CallsEnd) → AreFine x → AreFine (after_text text x)
  unfolding after_text
  text_fine text (all_came_back more u) fine = fine
  text_fine text (broke_off more o u) fine = fine

  then_fine : (g : Func) (args : List Argument) (w : World) (c : CallEnd) (go : World → CallsEnd) → IsFine g args w c →
      ((u : World) → HostAgrees p u.objects → AreFine (go u)) → AreFine (then_calls c go)
  unfolding then_calls
  then_fine g args w (stopped text o u) go fine next = fine
  then_fine g args w (came_back text v u) go fine next = text_fine text (go u) (next u fine.0)

  function_fine : (at i : ℕ) (f : Option Func) (args : List Argument) (w : World) (go : World → CallsEnd) → slice_get p.fns i ≡ f →
      HostAgrees p w.objects → ((u : World) → HostAgrees p u.objects → AreFine (go u)) →
      AreFine (call_function setup at i f args w go)
  unfolding call_function
  function_fine at i None args w go is a next = refl
  function_fine at i (Some f) args w go is a next = by (is_permitted p i f args w.objects) refl
    where
      by : (b : Bool) → is_permitted p i f args w.objects ≡ b →
          AreFine (if b then then_calls (host_calls setup f args w) go else broke_off [] (bad_call at) w)
      by true ok = then_fine f args w (host_calls setup f args w) go (call_fine i f is w a args ok) next
      by false ok = refl

  number_fine : (at : ℕ) (o : Option ℕ) (args : List Argument) (w : World) (go : World → CallsEnd) → HostAgrees p w.objects →
      ((u : World) → HostAgrees p u.objects → AreFine (go u)) → AreFine (call_number setup at o args w go)
  unfolding call_number
  number_fine at None args w go a next = refl
  number_fine at (Some i) args w go a next = function_fine at i (slice_get p.fns i) args w go refl a next

  pub calls_fine : (calls : List HostCall) (at : ℕ) (w : World) → HostAgrees p w.objects → AreFine (after_calls setup at calls w)
  calls_fine [] at w a = a
  calls_fine (c ∷ cs) at w a = number_fine at (function_of_name c.name 0 p.fns) c.args w _ a (λ u b. calls_fine cs (suc at) u b)

  pub reached_agrees : (calls : List HostCall) (fuel : ℕ) (zs : List ℤ) (answers : List (List ℤ)) (w : World) →
      ComesTo p heap depth calls (start fuel zs answers) w → HostAgrees p w.objects
  reached_agrees calls fuel zs answers w r =
      subst AreFine r.is (calls_fine calls 1 (start fuel zs answers) (nothing_held p))

  pub never : (x : CallsEnd) → AreFine x → is_host_fault (host_ran_of p x).outcome ≡ false
  never (all_came_back text u) fine = refl
  never (broke_off text o u) fine = fine

  pub keeps : (i : ℕ) (g : Func) → slice_get p.fns i ≡ Some g → (w : World) → HostAgrees p w.objects → (args : List Argument) →
      is_permitted p i g args w.objects ≡ true → (text : List ℕ) (v : Option Value) (u : World) →
      host_calls setup g args w ≡ came_back text v u → ChangesByClause p g args v w.objects u.objects
  keeps i g at w a args ok text v u is = (subst (IsFine g args w) is (call_fine i g at w a args ok)).1

pub promises : (p : Program) → IsKinded p → IsAccepted p → HasSizes p → HasStates p → HasNarrowHeads p →
    NeverGoesWrongForHosts p × KeepsClauses p × LeavesOnlyTheHosts p
promises p kinded accepted sizes filled narrow = (
  λ fuel heap depth zs answers calls.
      never p kinded accepted sizes filled narrow heap depth _
      (calls_fine p kinded accepted sizes filled narrow heap depth calls 1 (start fuel zs answers) (nothing_held p)),
  λ fuel heap depth zs answers calls w r i f args at ok text v u is.
      keeps p kinded accepted sizes filled narrow heap depth i f at w
      (reached_agrees p kinded accepted sizes filled narrow heap depth calls fuel zs answers w r) args ok text v u is,
  λ fuel heap depth zs answers calls w r.
      host_clean (reached_agrees p kinded accepted sizes filled narrow heap depth calls fuel zs answers w r),
)
