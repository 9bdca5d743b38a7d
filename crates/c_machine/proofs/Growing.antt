-- Events are only added.
use Rattle.std.proofs.Common.{◌≡◌, ℕ, zero, suc, ◌==◌, Bool, true, false, if◌then◌else◌, List, [], ◌∷◌, ◌++◌, Option, Some, None, Result, Ok, Err, refl, sym, ap, ◌∙◌, subst, append_assoc, append-nil}
use Rattle.vlt_ops.specs.Operator.{is_true}
use Rattle.c_syntax.specs.declared.program.CResult.{CResult}
use Rattle.c_syntax.specs.declared.program.CResult.TheVariants as result
use Rattle.c_syntax.specs.declared.program.CVar.{CVar}
use Rattle.c_syntax.specs.C as c
use Rattle.c_syntax.specs.C.{Arg, Call, Stmt}
use Rattle.c_meaning.specs.World.{Value, World, Event, Outcome}
use Rattle.c_meaning.specs.Primitives.{Effect, gives, breaks_rule, ends}
use Rattle.c_meaning.specs.Run.{Setup, Numbered, function_of, has_room, can_call}
use Rattle.c_machine.specs.Machine.{Task, list, again, back, bottom, State, Next, goes, stops, vars_in, frame_in, with_world, after_receiving, after, with_found, leave, break_to, continue_to, body_end, spend, enter, call_found, does_call, act, move_of, once, moves}
use Rattle.c_machine.proofs.Keeping.{KeepsEffect, primitive_keeps, set_keeps, put_keeps}

-- the events of v are those of w and more
pub record Adds (w v : World) : Type 0 where
  pub events : List Event
  pub are : v.events ≡ w.events ++ events

abbrev pub world_of : Next → World
world_of (goes m) = m.state.world
world_of (stops o w) = w

abbrev pub AddsNext : World → Next → Type 0
AddsNext w x = Adds w (world_of x)

none : (w v : World) → v.events ≡ w.events → Adds w v
none w v e = record { events = []; are = e ∙ sym (append-nil w.events) }

both : (w v u : World) → Adds w v → Adds v u → Adds w u
both w v u a b = record { events = a.events ++ b.events; are = b.are ∙ ap (λ l. l ++ b.events) a.are ∙ append_assoc w.events a.events b.events }

received_adds : (n : ℕ) (target : Option CVar) (a : Option Value) (ts : List Task) (s : State) → AddsNext s.world (after_receiving n target a ts s)
received_adds n None a ts s = none s.world s.world refl
received_adds n (Some v) None ts s = none s.world s.world refl
received_adds n (Some v) (Some a) ts s = none s.world s.world refl

after_adds : (n : ℕ) (target : Option CVar) (e : Effect) (ts : List Task) (s : State) → KeepsEffect s.world e → AddsNext s.world (after n target e ts s)
unfolding after
after_adds n target (gives a w) ts s k = both s.world w _ (record { events = k.events; are = k.added }) (received_adds n target a ts (with_world w s))
after_adds n target (breaks_rule b) ts s k = none s.world s.world refl
after_adds n target (ends o w) ts s k = record { events = k.events; are = k.added }

found_adds : {A : Type 0} (n : ℕ) (e : Result A ℕ) (s : State) (go : A → Next) → ((a : A) → AddsNext s.world (go a)) → AddsNext s.world (with_found n e s go)
unfolding with_found
found_adds n (Err b) s go h = none s.world s.world refl
found_adds n (Ok a) s go h = h a

leave_adds : (a : Option Value) (ts : List Task) (s : State) → AddsNext s.world (leave a ts s)
leave_adds a [] s = none s.world s.world refl
leave_adds a (list n ss ∷ ts) s = leave_adds a ts s
leave_adds a (again n b ∷ ts) s = leave_adds a ts s
leave_adds a (bottom g ∷ ts) s = none s.world s.world refl
leave_adds a (back k ∷ ts) s = received_adds k.n k.target a ts _

break_adds : (count : ℕ) (ts : List Task) (s : State) → AddsNext s.world (break_to count ts s)
break_adds count [] s = none s.world s.world refl
break_adds count (list n ss ∷ ts) s = break_adds count ts s
break_adds count (again n b ∷ ts) s = none s.world s.world refl
break_adds count (bottom g ∷ ts) s = none s.world s.world refl
break_adds count (back k ∷ ts) s = none s.world s.world refl

continue_adds : (count : ℕ) (ts : List Task) (s : State) → AddsNext s.world (continue_to count ts s)
continue_adds count [] s = none s.world s.world refl
continue_adds count (list n ss ∷ ts) s = continue_adds count ts s
continue_adds count (again n b ∷ ts) s = none s.world s.world refl
continue_adds count (bottom g ∷ ts) s = none s.world s.world refl
continue_adds count (back k ∷ ts) s = none s.world s.world refl

end_adds : (count : ℕ) (g : CResult) (ts : List Task) (s : State) → AddsNext s.world (body_end count g None ts s)
end_adds count result.Nothing ts s = leave_adds None ts s
end_adds count result.Number ts s = none s.world s.world refl
end_adds count result.Reference ts s = none s.world s.world refl

if_adds : (w : World) (t : Bool) (x y : Next) → AddsNext w x → AddsNext w y → AddsNext w (if t then x else y)
if_adds w true x y a b = a
if_adds w false x y a b = b

module _ (r : Setup) where
  enter_adds : (n : ℕ) (target : Option CVar) (glue : Bool) (g : Numbered) (values : List Value) (ts : List Task) (s : State) → AddsNext s.world (enter r n target glue g values ts s)
  unfolding enter spend
  enter_adds n target glue g values ts s =
      if_adds s.world (s.world.fuel == 0) _ _ (none s.world s.world refl) (if_adds s.world (has_room r glue s.depth) _ _ (none s.world _ refl) (none s.world _ refl))

  call_adds : (n : ℕ) (target : Option CVar) (glue : Bool) (xs : List Arg) (found : Option Numbered) (ts : List Task) (s : State) → AddsNext s.world (call_found r n target glue xs found ts s)
  unfolding call_found
  call_adds n target glue xs None ts s = none s.world s.world refl
  call_adds n target glue xs (Some g) ts s =
      if_adds s.world (can_call glue g.func xs (frame_in s)) _ _ (found_adds n _ s _ (λ values. enter_adds n target glue g values ts s)) (none s.world s.world refl)

  does_call_adds : (n : ℕ) (target : Option CVar) (f : Call) (ts : List Task) (s : State) → AddsNext s.world (does_call r n target f ts s)
  does_call_adds n target (c.primitive p xs) ts s = after_adds n target _ ts s (primitive_keeps r.heap p xs (vars_in s) s.world)
  does_call_adds n target (c.function f xs) ts s = call_adds n target f.glue xs (function_of r.program f) ts s

  act_adds : (n : ℕ) (x : Stmt) (ts : List Task) (s : State) → AddsNext s.world (act r n x ts s)
  act_adds n (c.set v e) ts s = after_adds n (Some v) _ ts s (set_keeps e (vars_in s) s.world)
  act_adds n (c.set_call v f) ts s = does_call_adds n (Some v) f ts s
  act_adds n (c.call f) ts s = does_call_adds n None f ts s
  act_adds n (c.put x e) ts s = after_adds n None _ ts s (put_keeps x e (vars_in s) s.world)
  act_adds n (c.when e xs) ts s = found_adds n _ s _ (λ z. if_adds s.world (is_true z) _ _ (none s.world s.world refl) (none s.world s.world refl))
  act_adds n (c.choose e xs ys) ts s = found_adds n _ s _ (λ z. if_adds s.world (is_true z) _ _ (none s.world s.world refl) (none s.world s.world refl))
  act_adds n (c.loop b) ts s = none s.world s.world refl
  act_adds n c.break ts s = break_adds _ ts s
  act_adds n c.continue ts s = continue_adds _ ts s
  act_adds n (c.return None) ts s = leave_adds None ts s
  act_adds n (c.return (Some e)) ts s = found_adds n _ s _ (λ a. leave_adds (Some a) ts s)

  moved_adds : (ts : List Task) (s : State) → AddsNext s.world (move_of r ts s)
  unfolding spend
  moved_adds [] s = none s.world s.world refl
  moved_adds (list n c.done ∷ ts) s = none s.world s.world refl
  moved_adds (list n (c.next x rest) ∷ ts) s = act_adds n x _ s
  moved_adds (again n b ∷ ts) s = if_adds s.world (s.world.fuel == 0) _ _ (none s.world s.world refl) (none s.world _ refl)
  moved_adds (back k ∷ ts) s = end_adds _ k.given _ s
  moved_adds (bottom g ∷ ts) s = end_adds _ g _ s

  once_adds : (x : Next) → Adds (world_of x) (world_of (once r x))
  once_adds (goes m) = moved_adds m.tasks m.state
  once_adds (stops o w) = none w w refl

  -- what leads to an end has a part of its events
  pub end_adds_to : (k : ℕ) (x : Next) (o : Outcome) (w : World) → moves r k x ≡ stops o w → Adds (world_of x) w
  end_adds_to zero x o w e = subst (λ y. Adds (world_of x) (world_of y)) e (none (world_of x) (world_of x) refl)
  end_adds_to (suc k) x o w e = both (world_of x) (world_of (once r x)) w (once_adds x) (end_adds_to k (once r x) o w e)
