-- The moves come to an end: each spends fuel, or leaves less to do.
use Rattle.std.proofs.Common.{◌≡◌, ◌⊎◌, inl, inr, ⊎_elim, ℕ, zero, suc, ◌+◌, ◌-◌, ◌<◌, ◌≤◌, ◌==◌, nat_lt, Bool, true, false, if◌then◌else◌, List, [], ◌∷◌, length, map, Option, Some, Ok, Err, slice_get, refl, sym, subst, arith}
use Rattle.std.proofs.lemmas.Bool.Decides.{nat_tests}
use Rattle.vlt_ops.specs.Operator.{is_true}
use Rattle.vlt_core.specs.Core.{Operand, pure, move, pack, Expr, Form, Block, block, Stmts, done, next, Arms, no_arms, arm, simple, call, choose, loop, switch, focus, scope, return, jump, Func, Program}
use Rattle.vlt_core.specs.Lookups.{KeyIn, reference_of, guarded_of, variant_of, case_keys}
use Rattle.vlt_meaning.specs.World.{Value, one, World, Frame, fuel_end, missing, not_empty, no_value, Reason}
use Rattle.vlt_meaning.specs.Found.{Found, or_fault}
use Rattle.vlt_meaning.specs.Values.{held_object, guarded_object, number_of, value_of, object_of}
use Rattle.vlt_meaning.specs.Step.{Step, goes, jumps, leaves, ends, is_fillable, with_var, left_block}
use Rattle.vlt_meaning.specs.Operands.{Case, case_in, with_empty_variable, case_object}
use Rattle.vlt_meaning.specs.Calls.{called_instance, passed_objects, back_in}
use Rattle.vlt_meaning.specs.Run.{Setup, does_form, focus_end}
use Rattle.vlt_meaning.specs.Does.{does}
use Rattle.vlt_meaning_laws.specs.Keeping.{world_after}
use Rattle.vlt_meaning_laws.proofs.Moves.{To, external_to, back_to, left_to, focus_to, form_to}
use Rattle.vlt_meaning_laws.proofs.Equations.{only_adds}
use Rattle.vlt_meaning_laws.proofs.Levels.{HasNoMoreFuel, fuel_kept}
use Rattle.vlt_meaning_laws.specs.Machine.Got.{Got, got, stopped, then_got, found_in, got_if, operand_got, operands_got, opened_got, filled_got}
use Rattle.vlt_meaning_laws.specs.Machine.Machine.{Task, list, closing, turn, unfocus, back, Conf, at, when_found, when_got, when_so, spending, enter_block, enter_arm, enter_body, enter_by, enter, turn_on, act, list_moves, turn_moves, moved_in, after_move, moves}

abbrev pub fuel_in : Conf → ℕ
fuel_in c = (world_after c.step).fuel

-- ---- how much is left to do

abbrev mutual
  pub form_weight : Form → ℕ
  form_weight (choose e a b) = 1 + (block_weight a + block_weight b)
  form_weight (switch v arms end) = 1 + arms_weight arms
  form_weight (focus y z b) = 2 + block_weight b
  form_weight (scope b) = 1 + block_weight b
  form_weight _ = 1

  pub block_weight : Block → ℕ
  block_weight (block ss bound end) = list_weight ss + 1

  pub list_weight : Stmts → ℕ
  list_weight done = 1
  list_weight (next p s rest) = form_weight s + list_weight rest

  pub arms_weight : Arms → ℕ
  arms_weight no_arms = 0
  arms_weight (arm n vs b rest) = block_weight b + arms_weight rest

abbrev pub task_weight : Task → ℕ
task_weight (list ss) = list_weight ss
task_weight _ = 1

abbrev pub weight : List Task → ℕ
weight [] = 0
weight (t ∷ ts) = task_weight t + weight ts

form_some : (s : Form) → 1 ≤ form_weight s
form_some (simple s) = omega arith
form_some (call g target keys args) = omega arith
form_some (choose e a b) = omega arith
form_some (loop e b) = omega arith
form_some (switch v arms end) = omega arith
form_some (focus y z b) = omega arith
form_some (scope b) = omega arith
form_some (return value) = omega arith
form_some (jump c) = omega arith

list_some : (ss : Stmts) → 1 ≤ list_weight ss
list_some done = omega arith
list_some (next p s rest) = let h = form_some s in omega (arith, h)

-- ---- what is given

-- where it goes on there is no more fuel
abbrev pub Sinks : {A : Type 0} → ℕ → Got A → Type 0
Sinks n (got a frame w) = w.fuel ≤ n
Sinks n (stopped o w) = w.fuel ≤ n

found_sinks : {A : Type 0} (x : Found A) (frame : Frame) (w : World) → Sinks w.fuel (found_in x frame w)
unfolding found_in
found_sinks (Ok a) frame w = omega arith
found_sinks (Err o) frame w = omega arith

less_sinks : {A : Type 0} (n m : ℕ) (x : Got A) → n ≤ m → Sinks n x → Sinks m x
less_sinks n m (got a frame w) l h = omega (arith, l, h)
less_sinks n m (stopped o w) l h = omega (arith, l, h)

then_sinks : {A B : Type 0} (n : ℕ) (x : Got A) (go : A → Frame → World → Got B) → Sinks n x → ((a : A) (frame : Frame) (w : World) → w.fuel ≤ n → Sinks n (go a frame w)) → Sinks n (then_got x go)
unfolding then_got
then_sinks n (got a frame w) go h k = k a frame w h
then_sinks n (stopped o w) go h k = h

if_sinks : {A : Type 0} (b : Bool) (reason : Reason) (w : World) (x : Got A) → Sinks w.fuel x → Sinks w.fuel (got_if b reason w x)
unfolding got_if
if_sinks true reason w x h = h
if_sinks false reason w x h = omega arith

operand_sinks : (p : Program) (f : Func) (o : Operand) (frame : Frame) (w : World) → Sinks w.fuel (operand_got p f o frame w)
operand_sinks p f (pure e) frame w = found_sinks (value_of p f e frame w.objects) frame w
operand_sinks p f (move v) frame w = then_sinks w.fuel (found_in (or_fault no_value (frame.vars v)) frame w) _ (found_sinks (or_fault no_value (frame.vars v)) frame w) (λ a frame w h. h)
operand_sinks p f (pack x states) frame w = then_sinks w.fuel (found_in (object_of f (λ r. states) x frame w.objects) frame w) _ (found_sinks (object_of f (λ r. states) x frame w.objects) frame w) (λ n frame w h. h)

operands_sink : (p : Program) (f : Func) (os : List Operand) (frame : Frame) (w : World) → Sinks w.fuel (operands_got p f os frame w)
operands_sink p f [] frame w = omega arith
operands_sink p f (o ∷ os) frame w =
    then_sinks w.fuel (operand_got p f o frame w) _ (operand_sinks p f o frame w) (λ a frame2 v h.
    then_sinks w.fuel (operands_got p f os frame2 v) _ (less_sinks v.fuel w.fuel (operands_got p f os frame2 v) h (operands_sink p f os frame2 v)) (λ rest frame3 u k. k))

opened_sinks : (ks : List KeyIn) (ns : List ℕ) (frame : Frame) (w : World) → Sinks w.fuel (opened_got ks ns frame w)
opened_sinks (k ∷ ks) (n ∷ ns) frame w =
    then_sinks w.fuel (found_in (case_object k n frame w.objects) frame w) _ (found_sinks (case_object k n frame w.objects) frame w) (λ q frame2 v h.
    less_sinks v.fuel w.fuel (opened_got ks ns frame2 _) h (opened_sinks ks ns frame2 _))
opened_sinks [] [] frame w = omega arith
opened_sinks [] (n ∷ ns) frame w = omega arith
opened_sinks (k ∷ ks) [] frame w = omega arith

filled_sinks : (f : Func) (vs : List ℕ) (values : List Value) (frame : Frame) (w : World) → Sinks w.fuel (filled_got f vs values frame w)
filled_sinks f (v ∷ vs) (a ∷ rest) frame w = if_sinks (is_fillable f v frame) not_empty w (filled_got f vs rest (with_var v (Some a) frame) w) (filled_sinks f vs rest (with_var v (Some a) frame) w)
filled_sinks f [] [] frame w = omega arith
filled_sinks f [] (a ∷ rest) frame w = omega arith
filled_sinks f (v ∷ vs) [] frame w = omega arith

-- ---- a move

-- fuel is spent, or there is no more of it and less is left to do
abbrev pub Shrinks : (fuel weight : ℕ) → Conf → Type 0
Shrinks n m c = (fuel_in c < n) ⊎ ((fuel_in c ≤ n) × (weight c.tasks < m))

module _ (r : Setup) where
  found_most : {A : Type 0} (k : ℕ) (x : Found A) (f : Func) (ts : List Task) (w : World) (conf : A → Conf) → w.fuel ≤ k → ((a : A) → fuel_in (conf a) ≤ k) → fuel_in (when_found x f ts w conf) ≤ k
  unfolding when_found
  found_most k (Ok a) f ts w conf l h = h a
  found_most k (Err o) f ts w conf l h = l

  if_most : (k : ℕ) (b : Bool) (c d : Conf) → fuel_in c ≤ k → fuel_in d ≤ k → fuel_in (if b then c else d) ≤ k
  if_most k true c d h l = h
  if_most k false c d h l = l

  block_most : (k : ℕ) (f : Func) (b : Block) (ts : List Task) (frame : Frame) (w : World) → w.fuel ≤ k → fuel_in (enter_block f b ts frame w) ≤ k
  block_most k f (block ss bound end) ts frame w l = l

  body_most : (k : ℕ) (f : Func) (target : Option ℕ) (keys : List ℕ) (g : Func) (args : List Value) (ts : List Task) (frame : Frame) (w : World) → w.fuel ≤ k → fuel_in (enter_body r f target keys g args ts frame w) ≤ k
  unfolding enter_body
  body_most k f target keys g args ts frame w l =
      if_most k (nat_lt frame.depth r.depth) _ _ (found_most k (passed_objects r.program g keys frame w.objects g.clause) f ts w _ l (λ ns. l)) l

  by_most : (k : ℕ) (external : Bool) (f : Func) (target : Option ℕ) (keys : List ℕ) (g : Func) (args : List Value) (ts : List Task) (frame : Frame) (w : World) → w.fuel ≤ k → fuel_in (enter_by external r f target keys g args ts frame w) ≤ k
  unfolding enter_by
  by_most k true f target keys g args ts frame w l =
      let h = (external_to HasNoMoreFuel fuel_kept w r.heap r.program f target keys g args frame w (record { le = omega arith })).kept.le in
      omega (arith, l, h)
  by_most k false f target keys g args ts frame w l = body_most k f target keys g args ts frame w l

  found_shrinks : {A : Type 0} (n m : ℕ) (x : Found A) (f : Func) (ts : List Task) (w : World) (conf : A → Conf) → w.fuel ≤ n → weight ts < m → ((a : A) → Shrinks n m (conf a)) → Shrinks n m (when_found x f ts w conf)
  unfolding when_found
  found_shrinks n m (Ok a) f ts w conf l u h = h a
  found_shrinks n m (Err o) f ts w conf l u h = inr (l, u)

  got_shrinks : {A : Type 0} (n m : ℕ) (x : Got A) (f : Func) (ts : List Task) (conf : A → Frame → World → Conf) → Sinks n x → weight ts < m → ((a : A) (frame : Frame) (w : World) → w.fuel ≤ n → Shrinks n m (conf a frame w)) → Shrinks n m (when_got x f ts conf)
  unfolding when_got
  got_shrinks n m (got a frame w) f ts conf s u h = h a frame w s
  got_shrinks n m (stopped o w) f ts conf s u h = inr (s, u)

  so_shrinks : (n m : ℕ) (b : Bool) (reason : Reason) (f : Func) (ts : List Task) (w : World) (c : Conf) → w.fuel ≤ n → weight ts < m → Shrinks n m c → Shrinks n m (when_so b reason f ts w c)
  unfolding when_so
  so_shrinks n m true reason f ts w c l u h = h
  so_shrinks n m false reason f ts w c l u h = inr (l, u)

  if_shrinks : (n m : ℕ) (b : Bool) (c d : Conf) → Shrinks n m c → Shrinks n m d → Shrinks n m (if b then c else d)
  if_shrinks n m true c d h k = h
  if_shrinks n m false c d h k = k

  -- what comes after a unit of fuel was spent
  spend_shrinks : (n m : ℕ) (f : Func) (ts : List Task) (w : World) (conf : World → Conf) → w.fuel ≤ n → weight ts < m → ((v : World) → fuel_in (conf v) ≤ v.fuel) → Shrinks n m (spending f ts w conf)
  unfolding spending
  spend_shrinks n m f ts w conf l u h = by (w.fuel == 0) refl
    where
      by : (b : Bool) → (w.fuel == 0) ≡ b → Shrinks n m (if b then at f ts (ends fuel_end w) else conf (record w { fuel = w.fuel - 1 }))
      by true e = inr (l, u)
      by false e =
          let k = h (record w { fuel = w.fuel - 1 }) in
          let some : 0 < w.fuel = grind (arith, nat_tests) in
          inl (omega (arith, l, k, some))

  block_shrinks : (n m : ℕ) (f : Func) (b : Block) (ts : List Task) (frame : Frame) (w : World) → w.fuel ≤ n → block_weight b + weight ts < m → Shrinks n m (enter_block f b ts frame w)
  block_shrinks n m f (block ss bound end) ts frame w l u = inr (l, omega (arith, u))

  arm_shrinks : (n m : ℕ) (f : Func) (c : Case) (arms : Arms) (ts : List Task) (frame : Frame) (w : World) → w.fuel ≤ n → arms_weight arms + weight ts < m → Shrinks n m (enter_arm f c arms ts frame w)
  arm_shrinks n m f c no_arms ts frame w l u = inr (l, omega (arith, u))
  arm_shrinks n m f c (arm k vs body rest) ts frame w l u =
      if_shrinks n m (c.number == k) _ _
      (got_shrinks n m (filled_got f vs (map one c.parts) frame w) f ts _ (less_sinks w.fuel n (filled_got f vs (map one c.parts) frame w) l (filled_sinks f vs (map one c.parts) frame w)) (omega (arith, u))
      (λ a frame2 same h. block_shrinks n m f body ts frame2 w l (omega (arith, u))))
      (arm_shrinks n m f c rest ts frame w l (omega (arith, u)))

  turn_shrinks : (n m : ℕ) (f : Func) (e : Expr) (b : Block) (ts : List Task) (frame : Frame) (w : World) → w.fuel ≤ n → weight ts < m → Shrinks n m (turn_on r f e b ts frame w)
  unfolding turn_on
  turn_shrinks n m f e b ts frame w l u =
      spend_shrinks n m f ts w _ l u (λ v. found_most v.fuel (number_of r.program f e frame v.objects) f ts v _ (omega arith) (λ z.
      if_most v.fuel (is_true z) _ _ (block_most v.fuel f b (turn e b ∷ ts) frame v (omega arith)) (omega arith)))

  call_shrinks : (n m : ℕ) (f : Func) (target : Option ℕ) (keys : List ℕ) (g : Func) (args : List Operand) (ts : List Task) (frame : Frame) (w : World) → w.fuel ≤ n → weight ts < m → Shrinks n m (enter r f target keys g args ts frame w)
  unfolding enter
  call_shrinks n m f target keys g args ts frame w l u =
      so_shrinks n m (length args == g.params) missing f ts w _ l u
      (got_shrinks n m (operands_got r.program f args frame w) f ts _ (less_sinks w.fuel n (operands_got r.program f args frame w) l (operands_sink r.program f args frame w)) u (λ values frame2 v h.
      spend_shrinks n m f ts v _ h u (λ x. by_most x.fuel g.external f target keys (called_instance r.program g keys frame2 x.objects) values ts frame2 x (omega arith))))

  does_keeps : (w : World) (f : Func) (ss : Stmts) (frame : Frame) (v : World) → HasNoMoreFuel w v → To HasNoMoreFuel w (does r f ss frame v)
  does_keeps w f ss frame v h =
      let a : v.fuel ≤ w.fuel = h.le in
      let b : (world_after (does r f ss frame v)).fuel ≤ v.fuel = (only_adds r f ss frame v).fuel in
      record { kept = record { le = omega (arith, a, b) } }

  -- a statement that is one step
  one_falls : (f : Func) (s : Form) (frame : Frame) (w : World) → (world_after (does_form r (does r) f s frame w)).fuel ≤ w.fuel
  one_falls f s frame w = (form_to HasNoMoreFuel fuel_kept w r (does r) (does_keeps w) f s frame w (record { le = omega arith })).kept.le

  act_shrinks : (n m : ℕ) (f : Func) (s : Form) (ts : List Task) (frame : Frame) (w : World) → w.fuel ≤ n → form_weight s + weight ts ≤ m → Shrinks n m (act r f s ts frame w)
  act_shrinks n m f (simple s) ts frame w l u =
      let h : (world_after (does_form r (does r) f (simple s) frame w)).fuel ≤ w.fuel = one_falls f (simple s) frame w in
      inr (omega (arith, l, h), omega (arith, u))
  act_shrinks n m f (call g target keys args) ts frame w l u =
      found_shrinks n m (or_fault missing (slice_get r.program.fns g)) f ts w _ l (omega (arith, u)) (λ g. call_shrinks n m f target keys g args ts frame w l (omega (arith, u)))
  act_shrinks n m f (choose e a b) ts frame w l u =
      found_shrinks n m (number_of r.program f e frame w.objects) f ts w _ l (omega (arith, u)) (λ z.
      if_shrinks n m (is_true z) _ _ (block_shrinks n m f a ts frame w l (omega (arith, u))) (block_shrinks n m f b ts frame w l (omega (arith, u))))
  act_shrinks n m f (loop e b) ts frame w l u = turn_shrinks n m f e b ts frame w l (omega (arith, u))
  act_shrinks n m f (switch v arms end) ts frame w l u =
      found_shrinks n m (or_fault missing (variant_of f v)) f ts w _ l (omega (arith, u)) (λ t.
      found_shrinks n m (case_in (frame.vars v)) f ts w _ l (omega (arith, u)) (λ c.
      got_shrinks n m (opened_got (case_keys r.program t c.number) c.keys frame w) f ts _ (less_sinks w.fuel n (opened_got (case_keys r.program t c.number) c.keys frame w) l (opened_sinks (case_keys r.program t c.number) c.keys frame w)) (omega (arith, u))
      (λ a same x h. arm_shrinks n m f c arms ts (with_empty_variable f v frame) x h (omega (arith, u)))))
  act_shrinks n m f (focus y z body) ts frame w l u =
      found_shrinks n m (or_fault missing (guarded_of f y)) f ts w _ l (omega (arith, u)) (λ g.
      found_shrinks n m (or_fault missing (reference_of f z)) f ts w _ l (omega (arith, u)) (λ q.
      found_shrinks n m (held_object g.key frame w.objects) f ts w _ l (omega (arith, u)) (λ a.
      found_shrinks n m (guarded_object g y frame w.objects) f ts w _ l (omega (arith, u)) (λ b.
      block_shrinks n m f body (unfocus g q a.number b.number ∷ ts) _ _ l (omega (arith, u))))))
  act_shrinks n m f (scope body) ts frame w l u = block_shrinks n m f body ts frame w l (omega (arith, u))
  act_shrinks n m f (return value) ts frame w l u =
      let h : (world_after (does_form r (does r) f (return value) frame w)).fuel ≤ w.fuel = one_falls f (return value) frame w in
      inr (omega (arith, l, h), omega (arith, u))
  act_shrinks n m f (jump c) ts frame w l u = inr (l, omega (arith, u))

  list_shrinks : (f : Func) (ss : Stmts) (ts : List Task) (a : Step) → Shrinks (world_after a).fuel (list_weight ss + weight ts) (list_moves r f ss ts a)
  list_shrinks f done ts (goes frame w) = inr (omega arith, omega arith)
  list_shrinks f (next place form rest) ts (goes frame w) =
      act_shrinks w.fuel (form_weight form + list_weight rest + weight ts) f form (list rest ∷ ts) frame w (omega arith) (omega arith)
  list_shrinks f done ts (jumps c frame w) = inr (omega arith, omega arith)
  list_shrinks f (next place form rest) ts (jumps c frame w) = let h = form_some form in inr (omega arith, omega (arith, h))
  list_shrinks f done ts (leaves a kept w) = inr (omega arith, omega arith)
  list_shrinks f (next place form rest) ts (leaves a kept w) = let h = form_some form in inr (omega arith, omega (arith, h))
  list_shrinks f done ts (ends o w) = inr (omega arith, omega arith)
  list_shrinks f (next place form rest) ts (ends o w) = let h = form_some form in inr (omega arith, omega (arith, h))

  again_shrinks : (f : Func) (e : Expr) (b : Block) (ts : List Task) (a : Step) → Shrinks (world_after a).fuel (1 + weight ts) (turn_moves r f e b ts a)
  again_shrinks f e b ts (goes frame w) = turn_shrinks w.fuel (1 + weight ts) f e b ts frame w (omega arith) (omega arith)
  again_shrinks f e b ts (jumps true frame w) = turn_shrinks w.fuel (1 + weight ts) f e b ts frame w (omega arith) (omega arith)
  again_shrinks f e b ts (jumps false frame w) = inr (omega arith, omega arith)
  again_shrinks f e b ts (leaves a kept w) = inr (omega arith, omega arith)
  again_shrinks f e b ts (ends o w) = inr (omega arith, omega arith)

  -- each move shrinks it
  pub move_shrinks : (f : Func) (t : Task) (ts : List Task) (a : Step) → Shrinks (world_after a).fuel (weight (t ∷ ts)) (moved_in r f (t ∷ ts) a)
  move_shrinks f (list ss) ts a = list_shrinks f ss ts a
  move_shrinks f (closing bound) ts a =
      let h : (world_after (left_block bound a)).fuel ≤ (world_after a).fuel = (left_to HasNoMoreFuel fuel_kept (world_after a) bound a (record { kept = record { le = omega arith } })).kept.le in
      inr (h, omega arith)
  move_shrinks f (turn e b) ts a = again_shrinks f e b ts a
  move_shrinks f (unfocus g q m n) ts a =
      let h : (world_after (focus_end r g q m n a)).fuel ≤ (world_after a).fuel = (focus_to HasNoMoreFuel fuel_kept (world_after a) r g q m n a (record { kept = record { le = omega arith } })).kept.le in
      inr (h, omega arith)
  move_shrinks f (back k) ts a =
      let h : (world_after (back_in k.func k.target k.keys f k.frame a)).fuel ≤ (world_after a).fuel = (back_to HasNoMoreFuel fuel_kept (world_after a) k.func k.target k.keys f k.frame a (record { kept = record { le = omega arith } })).kept.le in
      inr (h, omega arith)

  -- ---- the end

  pub record Halts (c : Conf) : Type 0 where
    pub count : ℕ
    pub tasks : (moves r count c).tasks ≡ []

  halts_next : (c : Conf) → Halts (after_move r c) → Halts c
  halts_next c h = record { count = suc h.count; tasks = h.tasks }

  -- one move more
  one_more : (k m : ℕ) (c : Conf) → fuel_in c ≤ k → weight c.tasks < suc m → ((d : Conf) → fuel_in d < k → Halts d) → ((d : Conf) → fuel_in d ≤ k → weight d.tasks < m → Halts d) →
      (ts : List Task) → c.tasks ≡ ts → Halts c
  one_more k m c l u h g [] e = record { count = 0; tasks = e }
  one_more k m c l u h g (t ∷ ts) e =
      let s : Shrinks (fuel_in c) (weight c.tasks) (after_move r c) = subst (λ us. Shrinks (fuel_in c) (weight us) (moved_in r c.func us c.step)) (sym e) (move_shrinks c.func t ts c.step) in
      halts_next c (⊎_elim (λ x. h (after_move r c) (omega (arith, l, x))) (λ x. g (after_move r c) (omega (arith, l, x.0)) (omega (arith, u, x.1))) s)

  -- with less fuel than k it halts, and with as much where less is left to do than m
  by_weight : (k m : ℕ) → ((c : Conf) → fuel_in c < k → Halts c) → (c : Conf) → fuel_in c ≤ k → weight c.tasks < m → Halts c
  by_weight k zero h c l u = absurd (omega (arith, u))
  by_weight k (suc m) h c l u = one_more k m c l u (λ d x. h d x) (λ d x y. by_weight k m h d x y) c.tasks refl

  by_fuel : (k : ℕ) (c : Conf) → fuel_in c < k → Halts c
  by_fuel zero c l = absurd (omega (arith, l))
  by_fuel (suc k) c l = by_weight k (suc (weight c.tasks)) (by_fuel k) c (omega (arith, l)) (omega arith)

  pub halts : (c : Conf) → Halts c
  halts c = by_fuel (suc (fuel_in c)) c (omega arith)
