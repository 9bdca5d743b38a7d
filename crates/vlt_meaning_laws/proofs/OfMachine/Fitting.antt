-- The stack never comes higher than the program and the depth say.
use Rattle.std.proofs.Common.{◌≡◌, ℕ, zero, suc, ◌+◌, ◌*◌, ◌<◌, ◌≤◌, ◌==◌, nat_lt, Bool, true, false, if◌then◌else◌, List, [], ◌∷◌, length, map, Option, Some, None, Ok, Err, slice_get, refl, ap, ◌∙◌, arith}
use Rattle.std.proofs.lemmas.Bool.Decides.{nat_tests}
use Rattle.std.proofs.lemmas.Option.{same_Some, none-some}
use Rattle.std.proofs.Math.Nat.{mul-le-mul_right}
use Rattle.vlt_ops.specs.Operator.{is_true}
use Rattle.vlt_core.specs.Core.{Operand, pure, move, pack, Expr, Form, Block, block, Stmts, done, next, Arms, no_arms, arm, simple, call, choose, loop, switch, focus, scope, return, jump, Func, Program}
use Rattle.vlt_core.specs.Lookups.{KeyIn, is_owning_var, reference_of, guarded_of, variant_of, case_keys}
use Rattle.vlt_meaning.specs.World.{Value, one, World, Frame, missing, no_value, not_empty, Reason}
use Rattle.vlt_meaning.specs.Found.{Found, or_fault}
use Rattle.vlt_meaning.specs.Values.{held_object, object_of, guarded_object, number_of, value_of}
use Rattle.vlt_meaning.specs.Step.{Step, goes, jumps, leaves, ends, is_fillable, with_var}
use Rattle.vlt_meaning.specs.Operands.{Case, case_in, case_object, with_empty_variable}
use Rattle.vlt_meaning.specs.Calls.{called_instance, passed_objects}
use Rattle.vlt_meaning.specs.Run.{Setup}
use Rattle.vlt_meaning_laws.proofs.Keeping.{err-ok}
use Rattle.vlt_meaning_laws.specs.Machine.Got.{Got, got, stopped, then_got, found_in, got_if, operand_got, operands_got, opened_got, filled_got}
use Rattle.vlt_meaning_laws.specs.Machine.Machine.{Task, list, closing, turn, unfocus, back, Conf, at, when_found, when_got, when_so, spending, enter_block, enter_arm, enter_body, enter_by, enter, turn_on, act, list_moves, turn_moves, moved_in}
use Rattle.vlt_meaning_laws.specs.Machine.Bounds.{need, inner, need_block, need_arms, need_of, most, tall_of, reach, frames, IsAt, CallersFit, Fits, Suffices}
use Rattle.vlt_meaning_laws.specs.Machine.Laws.{StackSuffices}
use Rattle.vlt_meaning_laws.proofs.OfMachine.Depths.{external_at, back_at, left_at, focus_at, returned_at, simple_at}

some_need : (ss : Stmts) → 1 ≤ need ss
some_need done = omega arith
some_need (next place form rest) = let h = some_need rest in omega (arith, h)

most_over : (f : Func → ℕ) (xs : List Func) (i : ℕ) (x : Func) → slice_get xs i ≡ Some x → f x ≤ most f xs
most_over f [] i x e = absurd (none-some x e)
most_over f (y ∷ xs) zero x e = let same : f y ≡ f x = ap f (same_Some y x e) in omega (arith, same)
most_over f (y ∷ xs) (suc i) x e = let h = most_over f xs i x e in omega (arith, h)

taller : (n m k t : ℕ) → n ≤ m * (t + 1) → k ≤ t → n + 1 + k ≤ (m + 1) * (t + 1)
taller n m k t a b =
    let e : (m + 1) * (t + 1) ≡ m * (t + 1) + (t + 1) = omega arith in
    omega (arith, a, b, e)

-- where it goes on, the frame is at the depth
abbrev pub Level : {A : Type 0} → ℕ → Got A → Type 0
Level d (got a frame w) = frame.depth ≡ d
Level d (stopped o w) = Unit {0}

found_level : {A : Type 0} (d : ℕ) (x : Found A) (frame : Frame) (w : World) → frame.depth ≡ d → Level d (found_in x frame w)
unfolding found_in
found_level d (Ok a) frame w e = e
found_level d (Err o) frame w e = tt

then_level : {A B : Type 0} (d : ℕ) (x : Got A) (go : A → Frame → World → Got B) → Level d x → ((a : A) (frame : Frame) (w : World) → frame.depth ≡ d → Level d (go a frame w)) → Level d (then_got x go)
unfolding then_got
then_level d (got a frame w) go h k = k a frame w h
then_level d (stopped o w) go h k = tt

if_level : {A : Type 0} (d : ℕ) (b : Bool) (reason : Reason) (w : World) (x : Got A) → Level d x → Level d (got_if b reason w x)
unfolding got_if
if_level d true reason w x h = h
if_level d false reason w x h = tt

operand_level : (d : ℕ) (p : Program) (f : Func) (o : Operand) (frame : Frame) (w : World) → frame.depth ≡ d → Level d (operand_got p f o frame w)
operand_level d p f (pure x) frame w e = found_level d (value_of p f x frame w.objects) frame w e
operand_level d p f (move v) frame w e = then_level d _ _ (found_level d (or_fault no_value (frame.vars v)) frame w e) (λ a frame2 w2 k. k)
operand_level d p f (pack x states) frame w e = then_level d _ _ (found_level d (object_of f (λ r. states) x frame w.objects) frame w e) (λ n frame2 w2 k. k)

operands_level : (d : ℕ) (p : Program) (f : Func) (os : List Operand) (frame : Frame) (w : World) → frame.depth ≡ d → Level d (operands_got p f os frame w)
operands_level d p f [] frame w e = e
operands_level d p f (o ∷ os) frame w e =
    then_level d _ _ (operand_level d p f o frame w e) (λ a frame2 w2 k. then_level d _ _ (operands_level d p f os frame2 w2 k) (λ rest frame3 w3 m. m))

filled_level : (d : ℕ) (f : Func) (vs : List ℕ) (values : List Value) (frame : Frame) (w : World) → frame.depth ≡ d → Level d (filled_got f vs values frame w)
filled_level d f (v ∷ vs) (a ∷ rest) frame w e = if_level d (is_fillable f v frame) not_empty w _ (filled_level d f vs rest (with_var v (Some a) frame) w e)
filled_level d f [] [] frame w e = e
filled_level d f [] (a ∷ rest) frame w e = tt
filled_level d f (v ∷ vs) [] frame w e = tt

opened_level : (d : ℕ) (ks : List KeyIn) (ns : List ℕ) (frame : Frame) (w : World) → frame.depth ≡ d → Level d (opened_got ks ns frame w)
opened_level d (k ∷ ks) (n ∷ ns) frame w e = then_level d _ _ (found_level d (case_object k n frame w.objects) frame w e) (λ q frame2 w2 m. opened_level d ks ns frame2 _ m)
opened_level d [] [] frame w e = e
opened_level d [] (n ∷ ns) frame w e = tt
opened_level d (k ∷ ks) [] frame w e = tt

emptied_depth : (f : Func) (v : ℕ) (frame : Frame) → (with_empty_variable f v frame).depth ≡ frame.depth
emptied_depth f v frame = by (is_owning_var f v)
  where
    by : (b : Bool) → (if b then with_var v None frame else frame).depth ≡ frame.depth
    by true = refl
    by false = refl

found_is : (x : Option Func) (g : Func) → or_fault missing x ≡ Ok g → x ≡ Some g
found_is None g e = absurd (err-ok e)
found_is (Some y) g e = ap Some (same_ok y g e)
  where
    same_ok : (y g : Func) → ◌≡◌ {A = Found Func} (Ok y) (Ok g) → y ≡ g
    same_ok y g e = cc

some_block : (b : Block) → 1 ≤ need_block b
some_block (block ss bound end) = omega arith

module _ (r : Setup) where
  -- what may stand on these tasks: so much more
  pub record Stands (ts : List Task) : Type 0 where
    pub reach : reach ts ≤ frames ts * (tall_of r.program + 1)
    pub within : frames ts ≤ r.depth
    pub callers : CallersFit (tall_of r.program) ts

  fits : (f : Func) (ts : List Task) (a : Step) → Stands ts → IsAt (frames ts) a → Fits r (at f ts a)
  fits f ts a s h = record { reach = s.reach; within = s.within; step = h; callers = s.callers }

  found_fits : {A : Type 0} (x : Found A) (f : Func) (ts : List Task) (w : World) (conf : A → Conf) → Stands ts → ((a : A) → x ≡ Ok a → Fits r (conf a)) → Fits r (when_found x f ts w conf)
  unfolding when_found
  found_fits (Ok a) f ts w conf s h = h a refl
  found_fits (Err o) f ts w conf s h = fits f ts (ends o w) s tt

  so_fits : (b : Bool) (reason : Reason) (f : Func) (ts : List Task) (w : World) (c : Conf) → Stands ts → Fits r c → Fits r (when_so b reason f ts w c)
  unfolding when_so
  so_fits true reason f ts w c s h = h
  so_fits false reason f ts w c s h = fits f ts _ s tt

  if_fits : (b : Bool) (c d : Conf) → (b ≡ true → Fits r c) → Fits r d → Fits r (if b then c else d)
  if_fits true c d h k = h refl
  if_fits false c d h k = k

  spend_fits : (f : Func) (ts : List Task) (w : World) (conf : World → Conf) → Stands ts → ((v : World) → Fits r (conf v)) → Fits r (spending f ts w conf)
  unfolding spending
  spend_fits f ts w conf s h = if_fits (w.fuel == 0) _ _ (λ e. fits f ts _ s tt) (h _)

  got_fits : {A : Type 0} (x : Got A) (f : Func) (ts : List Task) (conf : A → Frame → World → Conf) → Stands ts → Level (frames ts) x → ((a : A) (frame : Frame) (w : World) → frame.depth ≡ frames ts → Fits r (conf a frame w)) → Fits r (when_got x f ts conf)
  unfolding when_got
  got_fits (got a frame w) f ts conf s e h = h a frame w e
  got_fits (stopped o w) f ts conf s e h = fits f ts (ends o w) s tt

  -- a block's tasks on others
  block_fits : (f : Func) (b : Block) (ts : List Task) (frame : Frame) (w : World) → Stands ts → length ts + need_block b ≤ frames ts * (tall_of r.program + 1) → frame.depth ≡ frames ts → Fits r (enter_block f b ts frame w)
  block_fits f (block ss bound end) ts frame w s l e =
      let h = s.reach in
      let k = some_need ss in
      fits f (list ss ∷ closing bound ∷ ts) (goes frame w) (record { reach = omega (arith, l, h, k); within = s.within; callers = s.callers }) e

  arm_fits : (f : Func) (c : Case) (arms : Arms) (ts : List Task) (frame : Frame) (w : World) → Stands ts → length ts + need_arms arms ≤ frames ts * (tall_of r.program + 1) → frame.depth ≡ frames ts → Fits r (enter_arm f c arms ts frame w)
  arm_fits f c no_arms ts frame w s l e = fits f ts _ s tt
  arm_fits f c (arm n vs body rest) ts frame w s l e =
      if_fits (c.number == n) _ _
      (λ same. got_fits (filled_got f vs (map one c.parts) frame w) f ts _ s (filled_level (frames ts) f vs (map one c.parts) frame w e) (λ u frame2 v k. block_fits f body ts frame2 w s (omega (arith, l)) k))
      (arm_fits f c rest ts frame w s (omega (arith, l)) e)

  turn_fits : (f : Func) (e : Expr) (b : Block) (ts : List Task) (frame : Frame) (w : World) → Stands ts → length ts + (need_block b + 1) ≤ frames ts * (tall_of r.program + 1) → frame.depth ≡ frames ts → Fits r (turn_on r f e b ts frame w)
  unfolding turn_on
  turn_fits f x b ts frame w s l e =
      spend_fits f ts w _ s (λ v. found_fits (number_of r.program f x frame v.objects) f ts v _ s (λ z is.
      let h = s.reach in
      if_fits (is_true z) _ _
      (λ yes. block_fits f b (turn x b ∷ ts) frame v (record { reach = omega (arith, l, h); within = s.within; callers = s.callers }) (omega (arith, l)) e)
      (fits f ts (goes frame v) s e)))

  -- a call
  body_fits : (f : Func) (target : Option ℕ) (keys : List ℕ) (g : Func) (args : List Value) (ts : List Task) (frame : Frame) (w : World) → Stands ts → length ts ≤ reach ts → need g.body ≤ tall_of r.program → frame.depth ≡ frames ts → Fits r (enter_body r f target keys g args ts frame w)
  unfolding enter_body
  body_fits f target keys g args ts frame w s l n e =
      if_fits (nat_lt frame.depth r.depth) _ _
      (λ yes. found_fits (passed_objects r.program g keys frame w.objects g.clause) f ts w _ s (λ ns is.
      let h = s.reach in
      let below : frame.depth < r.depth = grind (arith, nat_tests) in
      let most : length ts + 1 + need g.body ≤ (frames ts + 1) * (tall_of r.program + 1) = taller (length ts) (frames ts) (need g.body) (tall_of r.program) (omega (arith, l, h)) n in
      let more : frames ts * (tall_of r.program + 1) ≤ (frames ts + 1) * (tall_of r.program + 1) = omega arith in
      fits g (list g.body ∷ back (record { func = f; frame = frame; target = target; keys = keys }) ∷ ts) _
      (record { reach = omega (arith, l, h, most, more); within = omega (arith, below, e); callers = (e, h, s.callers) })
      (omega (arith, e))))
      (fits f ts _ s tt)

  by_fits : (external : Bool) (f : Func) (target : Option ℕ) (keys : List ℕ) (g : Func) (args : List Value) (ts : List Task) (frame : Frame) (w : World) → Stands ts → length ts ≤ reach ts → need g.body ≤ tall_of r.program → frame.depth ≡ frames ts → Fits r (enter_by external r f target keys g args ts frame w)
  unfolding enter_by
  by_fits true f target keys g args ts frame w s l n e = fits f ts _ s (external_at (frames ts) r.heap r.program f target keys g args frame w e)
  by_fits false f target keys g args ts frame w s l n e = body_fits f target keys g args ts frame w s l n e

  call_fits : (f : Func) (target : Option ℕ) (keys : List ℕ) (g : Func) (args : List Operand) (ts : List Task) (frame : Frame) (w : World) → Stands ts → length ts ≤ reach ts → need g.body ≤ tall_of r.program → frame.depth ≡ frames ts → Fits r (enter r f target keys g args ts frame w)
  unfolding enter
  call_fits f target keys g args ts frame w s l n e =
      so_fits (length args == g.params) missing f ts w _ s
      (got_fits (operands_got r.program f args frame w) f ts _ s (operands_level (frames ts) r.program f args frame w e) (λ values frame2 v k. spend_fits f ts v _ s (λ u.
      by_fits g.external f target keys (called_instance r.program g keys frame2 u.objects) values ts frame2 u s l n k)))

  -- a statement of a list, of which the rest is left
  act_fits : (f : Func) (s : Form) (ts : List Task) (frame : Frame) (w : World) → Stands ts → length ts + inner s ≤ frames ts * (tall_of r.program + 1) + 1 → 1 ≤ length ts → length ts ≤ reach ts → frame.depth ≡ frames ts → Fits r (act r f s ts frame w)
  act_fits f (simple x) ts frame w s l some long e = fits f ts _ s (simple_at (frames ts) r f x frame w e)
  act_fits f (call g target keys args) ts frame w s l some long e =
      found_fits (or_fault missing (slice_get r.program.fns g)) f ts w _ s (λ h is. call_fits f target keys h args ts frame w s long (most_over need_of r.program.fns g h (found_is (slice_get r.program.fns g) h is)) e)
  act_fits f (choose x a b) ts frame w s l some long e =
      found_fits (number_of r.program f x frame w.objects) f ts w _ s (λ z is.
      if_fits (is_true z) _ _ (λ yes. block_fits f a ts frame w s (omega (arith, l)) e) (block_fits f b ts frame w s (omega (arith, l)) e))
  act_fits f (loop x b) ts frame w s l some long e = turn_fits f x b ts frame w s (omega (arith, l)) e
  act_fits f (switch v arms end) ts frame w s l some long e =
      found_fits (or_fault missing (variant_of f v)) f ts w _ s (λ t is.
      found_fits (case_in (frame.vars v)) f ts w _ s (λ c is2.
      got_fits (opened_got (case_keys r.program t c.number) c.keys frame w) f ts _ s (opened_level (frames ts) (case_keys r.program t c.number) c.keys frame w e) (λ u same w2 k. arm_fits f c arms ts (with_empty_variable f v frame) w2 s (omega (arith, l)) (emptied_depth f v frame ∙ e))))
  act_fits f (focus y z body) ts frame w s l some long e =
      found_fits (or_fault missing (guarded_of f y)) f ts w _ s (λ g is.
      found_fits (or_fault missing (reference_of f z)) f ts w _ s (λ q is2.
      found_fits (held_object g.key frame w.objects) f ts w _ s (λ a is3.
      found_fits (guarded_object g y frame w.objects) f ts w _ s (λ n is4.
      let h = s.reach in
      let k = some_block body in
      block_fits f body (unfocus g q a.number n.number ∷ ts) _ _ (record { reach = omega (arith, l, h, k); within = s.within; callers = s.callers }) (omega (arith, l)) e))))
  act_fits f (scope body) ts frame w s l some long e = block_fits f body ts frame w s (omega (arith, l)) e
  act_fits f (return value) ts frame w s l some long e = fits f ts _ s (returned_at (frames ts) r f value frame w e)
  act_fits f (jump c) ts frame w s l some long e = fits f ts _ s e

  -- ---- moves

  -- what is left after a task
  after_list : (ss : Stmts) (ts : List Task) → Stands (list ss ∷ ts) → Stands ts
  after_list ss ts s = let h = s.reach in record { reach = omega (arith, h); within = s.within; callers = s.callers }

  list_fits : (f : Func) (ss : Stmts) (ts : List Task) (a : Step) → Stands (list ss ∷ ts) → IsAt (frames ts) a → Fits r (list_moves r f ss ts a)
  list_fits f done ts (goes frame w) s e = fits f ts (goes frame w) (after_list done ts s) e
  list_fits f (next place form rest) ts (goes frame w) s e =
      let h = s.reach in
      act_fits f form (list rest ∷ ts) frame w (record { reach = omega (arith, h); within = s.within; callers = s.callers }) (omega (arith, h)) (omega arith) (let k = some_need rest in omega (arith, k)) e
  list_fits f done ts (jumps c frame w) s e = fits f ts (jumps c frame w) (after_list done ts s) e
  list_fits f (next place form rest) ts (jumps c frame w) s e = fits f ts (jumps c frame w) (after_list (next place form rest) ts s) e
  list_fits f done ts (leaves a kept w) s e = fits f ts (leaves a kept w) (after_list done ts s) e
  list_fits f (next place form rest) ts (leaves a kept w) s e = fits f ts (leaves a kept w) (after_list (next place form rest) ts s) e
  list_fits f done ts (ends o w) s e = fits f ts (ends o w) (after_list done ts s) e
  list_fits f (next place form rest) ts (ends o w) s e = fits f ts (ends o w) (after_list (next place form rest) ts s) e

  again_fits : (f : Func) (x : Expr) (b : Block) (ts : List Task) (a : Step) → Stands (turn x b ∷ ts) → Stands ts → IsAt (frames ts) a → Fits r (turn_moves r f x b ts a)
  again_fits f x b ts (goes frame w) s t e = let h = s.reach in turn_fits f x b ts frame w t (omega (arith, h)) e
  again_fits f x b ts (jumps true frame w) s t e = let h = s.reach in turn_fits f x b ts frame w t (omega (arith, h)) e
  again_fits f x b ts (jumps false frame w) s t e = fits f ts (goes frame w) t e
  again_fits f x b ts (leaves a kept w) s t e = fits f ts (leaves a kept w) t e
  again_fits f x b ts (ends o w) s t e = fits f ts (ends o w) t e

  stands_of : (c : Conf) → Fits r c → Stands c.tasks
  stands_of c h = record { reach = h.reach; within = h.within; callers = h.callers }

  move_fits : (f : Func) (ts : List Task) (a : Step) → Stands ts → IsAt (frames ts) a → Fits r (moved_in r f ts a)
  move_fits f [] a s e = fits f [] a s e
  move_fits f (list ss ∷ ts) a s e = list_fits f ss ts a s e
  move_fits f (closing bound ∷ ts) a s e = let h = s.reach in fits f ts _ (record { reach = omega (arith, h); within = s.within; callers = s.callers }) (left_at (frames ts) bound a e)
  move_fits f (turn x b ∷ ts) a s e = let h = s.reach in again_fits f x b ts a s (record { reach = omega (arith, h); within = s.within; callers = s.callers }) e
  move_fits f (unfocus g q m n ∷ ts) a s e = let h = s.reach in fits f ts _ (record { reach = omega (arith, h); within = s.within; callers = s.callers }) (focus_at (frames ts) r g q m n a e)
  move_fits f (back k ∷ ts) a s e =
      let h = s.reach in let u = s.within in
      fits k.func ts _ (record { reach = s.callers.1; within = omega (arith, u); callers = s.callers.2 }) (back_at (frames ts) k.func k.target k.keys f k.frame a s.callers.0)

  -- a stack is no higher than its reach
  long : (ts : List Task) → length ts ≤ reach ts
  long [] = omega arith
  long (list ss ∷ ts) = let h = some_need ss in omega (arith, h)
  long (closing bound ∷ ts) = omega arith
  long (turn x b ∷ ts) = omega arith
  long (unfocus g q m n ∷ ts) = omega arith
  long (back k ∷ ts) = omega arith

  -- ---- the law

  tasks_few : (c : Conf) → Fits r c → length c.tasks ≤ r.depth * (tall_of r.program + 1)
  tasks_few c h =
      let a = long c.tasks in let b = h.reach in
      let d : frames c.tasks * (tall_of r.program + 1) ≤ r.depth * (tall_of r.program + 1) = mul-le-mul_right (tall_of r.program + 1) h.within in
      omega (arith, a, b, d)

  pub suffices : (c : Conf) → Fits r c → Suffices r c
  suffices c h = record { tasks = tasks_few c h; next = move_fits c.func c.tasks c.step (stands_of c h) h.step }

  pub first_fits : (f : Func) (i : ℕ) (frame : Frame) (w : World) → slice_get r.program.fns i ≡ Some f → frame.depth ≡ 1 → 1 ≤ r.depth → Fits r (at f (list f.body ∷ []) (goes frame w))
  first_fits f i frame w is e l =
      let h = most_over need_of r.program.fns i f is in
      record { reach = omega (arith, h); within = l; step = e; callers = tt }

pub stack_suffices : StackSuffices
stack_suffices = record {
  first = λ r f i frame w is e l. first_fits r f i frame w is e l;
  each = λ r c h. suffices r c h;
}
