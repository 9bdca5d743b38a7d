-- Where a run comes to from a stack and a step, by the definition of runs; each move keeps it.
use Rattle.std.proofs.Common.{◌≡◌, ℕ, zero, suc, ◌==◌, ◌-◌, nat_lt, Bool, true, false, if◌then◌else◌, List, [], ◌∷◌, length, map, Option, None, Ok, Err, slice_get, refl, sym, ap, ◌∙◌}
use Rattle.vlt_ops.specs.Operator.{is_true}
use Rattle.vlt_core.specs.Core.{Operand, Expr, Form, Block, block, Stmts, done, next, Arms, no_arms, arm, simple, call, choose, loop, switch, focus, scope, return, jump, Func}
use Rattle.vlt_core.specs.Lookups.{reference_of, guarded_of, variant_of, case_keys}
use Rattle.vlt_meaning.specs.World.{Value, one, World, Frame, fuel_end, missing, Reason}
use Rattle.vlt_meaning.specs.Found.{Found, or_fault}
use Rattle.vlt_meaning.specs.Values.{held_object, guarded_object, number_of}
use Rattle.vlt_meaning.specs.Step.{Step, goes, jumps, leaves, ends, with_found, where_so, spend, left_block, then_do, then_turn}
use Rattle.vlt_meaning.specs.Operands.{Case, case_in, with_empty_variable, with_operands}
use Rattle.vlt_meaning.specs.Calls.{called_instance, passed_objects, back_in}
use Rattle.vlt_meaning.specs.Run.{Setup, focus_end, does_block, does_arm, call_body, call_by}
use Rattle.vlt_meaning.specs.Does.{does}
use Rattle.vlt_meaning_laws.specs.Laws.{does_one}
use Rattle.vlt_meaning_laws.proofs.Equations.{boundless, does_next, does_loop}
use Rattle.vlt_meaning_laws.specs.Machine.Got.{Got, got, stopped, then_step, operands_got, opened_got, filled_got}
use Rattle.vlt_meaning_laws.specs.Machine.Machine.{Task, list, closing, turn, unfocus, back, Conf, at, when_found, when_got, when_so, spending, enter_block, enter_arm, enter_body, enter_by, enter, turn_on, act, list_moves, turn_moves, moved_in, after_move, moves}
use Rattle.vlt_meaning_laws.proofs.OfMachine.Gots.{operands_step, opened_step, filled_step}

-- where a run comes to that has these tasks left after a step of the function
abbrev pub finishes : Setup → Func → List Task → Step → Step
finishes r f [] a = a
finishes r f (list ss ∷ ts) a = finishes r f ts (then_do a (does r f ss))
finishes r f (closing bound ∷ ts) a = finishes r f ts (left_block bound a)
finishes r f (turn e b ∷ ts) a = finishes r f ts (then_turn a (does_one r f (loop e b)))
finishes r f (unfocus g q m n ∷ ts) a = finishes r f ts (focus_end r g q m n a)
finishes r f (back k ∷ ts) a = finishes r k.func ts (back_in k.func k.target k.keys f k.frame a)

abbrev pub ending : Setup → Conf → Step
ending r c = finishes r c.func c.tasks c.step

module _ (r : Setup) where
  -- ---- parts of a move

  found_ends : {A : Type 0} (x : Found A) (f : Func) (ts : List Task) (w : World) (go : A → Step) (conf : A → Conf) →
      ((a : A) → ending r (conf a) ≡ finishes r f ts (go a)) → ending r (when_found x f ts w conf) ≡ finishes r f ts (with_found x w go)
  unfolding when_found with_found
  found_ends (Ok a) f ts w go conf h = h a
  found_ends (Err o) f ts w go conf h = refl

  got_ends : {A : Type 0} (x : Got A) (f : Func) (ts : List Task) (go : A → Frame → World → Step) (conf : A → Frame → World → Conf) →
      ((a : A) (frame : Frame) (w : World) → ending r (conf a frame w) ≡ finishes r f ts (go a frame w)) → ending r (when_got x f ts conf) ≡ finishes r f ts (then_step x go)
  unfolding when_got then_step
  got_ends (got a frame w) f ts go conf h = h a frame w
  got_ends (stopped o w) f ts go conf h = refl

  so_ends : (b : Bool) (reason : Reason) (f : Func) (ts : List Task) (w : World) (go : World → Step) (conf : Conf) →
      ending r conf ≡ finishes r f ts (go w) → ending r (when_so b reason f ts w conf) ≡ finishes r f ts (where_so b reason None w go)
  unfolding when_so where_so
  so_ends true reason f ts w go conf h = h
  so_ends false reason f ts w go conf h = refl

  spend_ends : (f : Func) (ts : List Task) (w : World) (go : World → Step) (conf : World → Conf) →
      ((w : World) → ending r (conf w) ≡ finishes r f ts (go w)) → ending r (spending f ts w conf) ≡ finishes r f ts (spend w go)
  unfolding spending spend
  spend_ends f ts w go conf h = by (w.fuel == 0)
    where
      by : (b : Bool) → ending r (if b then at f ts (ends fuel_end w) else conf (record w { fuel = w.fuel - 1 })) ≡ finishes r f ts (if b then ends fuel_end w else go (record w { fuel = w.fuel - 1 }))
      by true = refl
      by false = h (record w { fuel = w.fuel - 1 })

  if_ends : (b : Bool) (f : Func) (ts : List Task) (c d : Conf) (x y : Step) → ending r c ≡ finishes r f ts x → ending r d ≡ finishes r f ts y →
      ending r (if b then c else d) ≡ finishes r f ts (if b then x else y)
  if_ends true f ts c d x y h k = h
  if_ends false f ts c d x y h k = k

  -- ---- blocks

  block_ends : (f : Func) (b : Block) (ts : List Task) (frame : Frame) (w : World) → ending r (enter_block f b ts frame w) ≡ finishes r f ts (does_block r (does r) f b frame w)
  unfolding then_do
  block_ends f (block ss bound end) ts frame w = ap (λ a. finishes r f ts (left_block bound a)) (boundless r f ss frame w)

  arm_ends : (f : Func) (c : Case) (arms : Arms) (ts : List Task) (frame : Frame) (w : World) → ending r (enter_arm f c arms ts frame w) ≡ finishes r f ts (does_arm r (does r) f c arms frame w)
  arm_ends f c no_arms ts frame w = refl
  arm_ends f c (arm n vs body rest) ts frame w =
      if_ends (c.number == n) f ts _ _ _ _
      (got_ends (filled_got f vs (map one c.parts) frame w) f ts _ _ (λ u frame2 v. block_ends f body ts frame2 w)
      ∙ ap (finishes r f ts) (sym (filled_step f vs (map one c.parts) frame w (λ frame. does_block r (does r) f body frame w))))
      (arm_ends f c rest ts frame w)

  -- ---- calls

  body_ends : (f : Func) (target : Option ℕ) (keys : List ℕ) (g : Func) (args : List Value) (ts : List Task) (frame : Frame) (w : World) →
      ending r (enter_body r f target keys g args ts frame w) ≡ finishes r f ts (call_body r (does r) f target keys g args frame w)
  unfolding enter_body call_body then_do
  body_ends f target keys g args ts frame w =
      if_ends (nat_lt frame.depth r.depth) f ts _ _ _ _
      (found_ends (passed_objects r.program g keys frame w.objects g.clause) f ts w _ _ (λ ns. refl)) refl

  by_ends : (external : Bool) (f : Func) (target : Option ℕ) (keys : List ℕ) (g : Func) (args : List Value) (ts : List Task) (frame : Frame) (w : World) →
      ending r (enter_by external r f target keys g args ts frame w) ≡ finishes r f ts (call_by external r (does r) f target keys g args frame w)
  unfolding enter_by call_by
  by_ends true f target keys g args ts frame w = refl
  by_ends false f target keys g args ts frame w = body_ends f target keys g args ts frame w

  call_ends : (f : Func) (target : Option ℕ) (keys : List ℕ) (g : Func) (args : List Operand) (ts : List Task) (frame : Frame) (w : World) →
      ending r (enter r f target keys g args ts frame w)
      ≡ finishes r f ts (where_so (length args == g.params) missing None w (λ w. with_operands r.program f args frame w (λ values frame w. spend w (λ w. call_by g.external r (does r) f target keys (called_instance r.program g keys frame w.objects) values frame w))))
  unfolding enter
  call_ends f target keys g args ts frame w =
      so_ends (length args == g.params) missing f ts w _ _
      (got_ends (operands_got r.program f args frame w) f ts _ _ (λ values frame2 v. spend_ends f ts v _ _ (λ v. by_ends g.external f target keys (called_instance r.program g keys frame2 v.objects) values ts frame2 v))
      ∙ ap (finishes r f ts) (sym (operands_step r.program f args frame w (λ values frame w. spend w (λ w. call_by g.external r (does r) f target keys (called_instance r.program g keys frame w.objects) values frame w)))))

  -- ---- statements

  turn_ends : (f : Func) (e : Expr) (b : Block) (ts : List Task) (frame : Frame) (w : World) → ending r (turn_on r f e b ts frame w) ≡ finishes r f ts (does_one r f (loop e b) frame w)
  unfolding turn_on
  turn_ends f e b ts frame w =
      spend_ends f ts w _ _ (λ w. found_ends (number_of r.program f e frame w.objects) f ts w _ _ (λ z.
      if_ends (is_true z) f ts _ _ _ _ (block_ends f b (turn e b ∷ ts) frame w) refl))
      ∙ ap (finishes r f ts) (sym (does_loop r f e b frame w))

  act_ends : (f : Func) (form : Form) (ts : List Task) (frame : Frame) (w : World) → ending r (act r f form ts frame w) ≡ finishes r f ts (does_one r f form frame w)
  act_ends f (simple s) ts frame w = refl
  act_ends f (call g target keys args) ts frame w =
      found_ends (or_fault missing (slice_get r.program.fns g)) f ts w _ _ (λ g. call_ends f target keys g args ts frame w)
  act_ends f (choose e a b) ts frame w =
      found_ends (number_of r.program f e frame w.objects) f ts w _ _ (λ z. if_ends (is_true z) f ts _ _ _ _ (block_ends f a ts frame w) (block_ends f b ts frame w))
  act_ends f (loop e b) ts frame w = turn_ends f e b ts frame w
  act_ends f (switch v arms end) ts frame w =
      found_ends (or_fault missing (variant_of f v)) f ts w _ _ (λ t.
      found_ends (case_in (frame.vars v)) f ts w _ _ (λ c.
      got_ends (opened_got (case_keys r.program t c.number) c.keys frame w) f ts _ _ (λ u same w. arm_ends f c arms ts (with_empty_variable f v frame) w)
      ∙ ap (finishes r f ts) (sym (opened_step (case_keys r.program t c.number) c.keys frame w (λ w. does_arm r (does r) f c arms (with_empty_variable f v frame) w)))))
  act_ends f (focus y z body) ts frame w =
      found_ends (or_fault missing (guarded_of f y)) f ts w _ _ (λ g.
      found_ends (or_fault missing (reference_of f z)) f ts w _ _ (λ q.
      found_ends (held_object g.key frame w.objects) f ts w _ _ (λ a.
      found_ends (guarded_object g y frame w.objects) f ts w _ _ (λ n.
      block_ends f body (unfocus g q a.number n.number ∷ ts) _ _))))
  act_ends f (scope body) ts frame w = block_ends f body ts frame w
  act_ends f (return value) ts frame w = refl
  act_ends f (jump c) ts frame w = refl

  -- ---- moves

  list_ends : (f : Func) (ss : Stmts) (ts : List Task) (a : Step) → ending r (list_moves r f ss ts a) ≡ finishes r f ts (then_do a (does r f ss))
  unfolding then_do
  list_ends f done ts (goes frame w) = ap (finishes r f ts) (sym (boundless r f done frame w))
  list_ends f (next place form rest) ts (goes frame w) = act_ends f form (list rest ∷ ts) frame w ∙ ap (finishes r f ts) (sym (does_next r f place form rest frame w))
  list_ends f done ts (jumps c frame w) = refl
  list_ends f (next place form rest) ts (jumps c frame w) = refl
  list_ends f done ts (leaves a kept w) = refl
  list_ends f (next place form rest) ts (leaves a kept w) = refl
  list_ends f done ts (ends o w) = refl
  list_ends f (next place form rest) ts (ends o w) = refl

  again_ends : (f : Func) (e : Expr) (b : Block) (ts : List Task) (a : Step) → ending r (turn_moves r f e b ts a) ≡ finishes r f ts (then_turn a (does_one r f (loop e b)))
  unfolding then_turn
  again_ends f e b ts (goes frame w) = turn_ends f e b ts frame w
  again_ends f e b ts (jumps true frame w) = turn_ends f e b ts frame w
  again_ends f e b ts (jumps false frame w) = refl
  again_ends f e b ts (leaves a kept w) = refl
  again_ends f e b ts (ends o w) = refl

  -- a move keeps where the run comes to
  pub move_ends : (f : Func) (ts : List Task) (a : Step) → ending r (moved_in r f ts a) ≡ finishes r f ts a
  move_ends f [] a = refl
  move_ends f (list ss ∷ ts) a = list_ends f ss ts a
  move_ends f (closing bound ∷ ts) a = refl
  move_ends f (turn e b ∷ ts) a = again_ends f e b ts a
  move_ends f (unfocus g q m n ∷ ts) a = refl
  move_ends f (back k ∷ ts) a = refl

  pub moves_end : (n : ℕ) (c : Conf) → ending r (moves r n c) ≡ ending r c
  moves_end zero c = refl
  moves_end (suc n) c = moves_end n (after_move r c) ∙ move_ends c.func c.tasks c.step
