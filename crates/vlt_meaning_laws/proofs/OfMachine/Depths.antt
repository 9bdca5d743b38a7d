-- Steps of a frame stay at its depth.
use Rattle.std.proofs.Common.{◌≡◌, ℕ, Bool, true, false, List, [], ◌∷◌, ℤ, Option, Some, None, Ok, Err, if◌then◌else◌}
use Rattle.vlt_core.specs.Core.{Ty, Operand, pure, move, pack, Tok, Simple, set, print, put, make, become, release, drop, own, unpack, build, swap, open_into, adopt, Func, Program}
use Rattle.vlt_core.specs.Core as core
use Rattle.vlt_core.specs.Lookups.{KeyIn, Reference}
use Rattle.vlt_meaning.specs.World.{Value, Part, Owner, Object, World, Frame, Reason, is_full}
use Rattle.vlt_meaning.specs.Found.{Found}
use Rattle.vlt_meaning.specs.Step.{Step, goes, jumps, leaves, ends, with_found, where_so, first_input, with_input, first_answer, with_answer, with_made, with_moved, with_released, with_dropped, fill, with_filled, deliver, left_block}
use Rattle.vlt_meaning.specs.Operands.{with_operand, with_operands, with_case_packed}
use Rattle.vlt_meaning.specs.Calls.{Binding, bindings, entries_after, with_names, back_in, with_returned}
use Rattle.vlt_meaning.specs.HostAnswers.{Piece, plain, new_in, nothing, piece, case_with}
use Rattle.vlt_meaning.specs.HostAnswers as answers
use Rattle.vlt_meaning.specs.Externals.{with_pieces, with_fresh, with_result, call_external}
use Rattle.vlt_meaning_laws.specs.Machine.Bounds.{IsAt}
use Rattle.vlt_meaning.specs.Run.{Setup, made_in, swap_step, open_step, does_simple, left_function, focus_end_step, focus_end}

module _ (d : ℕ) where
  pub found_at : {A : Type 0} (x : Found A) (w : World) (go : A → Step) → ((a : A) → IsAt d (go a)) → IsAt d (with_found x w go)
  unfolding with_found
  found_at (Ok a) w go h = h a
  found_at (Err o) w go h = tt

  so_at : (b : Bool) (reason : Reason) (n : Option ℕ) (w : World) (go : World → Step) → ((v : World) → IsAt d (go v)) → IsAt d (where_so b reason n w go)
  unfolding where_so
  so_at true reason n w go h = h w
  so_at false reason n w go h = tt

  if_at : (b : Bool) (x y : Step) → IsAt d x → IsAt d y → IsAt d (if b then x else y)
  if_at true x y h k = h
  if_at false x y h k = k

  moved_at : (from : Owner → Bool) (to : Owner) (ns : List ℕ) (w : World) (go : World → Step) → ((v : World) → IsAt d (go v)) → IsAt d (with_moved from to ns w go)
  unfolding with_moved
  moved_at from to ns w go h = found_at _ w _ (λ os. h _)

  made_at : (heap : ℕ) (o : Object) (w : World) (go : ℕ → World → Step) → ((n : ℕ) (v : World) → IsAt d (go n v)) → IsAt d (with_made heap o w go)
  unfolding with_made
  made_at heap o w go h = if_at (is_full heap w.objects) _ _ tt (h _ _)

  released_at : (p : Program) (n : ℕ) (w : World) (go : World → Step) → ((v : World) → IsAt d (go v)) → IsAt d (with_released p n w go)
  unfolding with_released
  released_at p n w go h = so_at _ _ _ w _ (λ v. h _)

  dropped_at : (p : Program) (ns : List ℕ) (w : World) (go : World → Step) → ((v : World) → IsAt d (go v)) → IsAt d (with_dropped p ns w go)
  unfolding with_dropped
  dropped_at p [] w go h = h w
  dropped_at p (n ∷ ns) w go h = found_at _ w _ (λ m. released_at p n w _ (λ v. dropped_at p ns v go h))

  fill_at : (f : Func) (v : ℕ) (a : Value) (frame : Frame) (w : World) → frame.depth ≡ d → IsAt d (fill f v a frame w)
  unfolding fill
  fill_at f v a frame w e = so_at _ _ _ w _ (λ u. e)

  filled_at : (f : Func) (vs : List ℕ) (values : List Value) (frame : Frame) (w : World) (go : Frame → Step) → frame.depth ≡ d → ((frame : Frame) → frame.depth ≡ d → IsAt d (go frame)) → IsAt d (with_filled f vs values frame w go)
  unfolding with_filled
  filled_at f (v ∷ vs) (a ∷ rest) frame w go e h = so_at _ _ _ w _ (λ u. filled_at f vs rest _ u go e h)
  filled_at f [] [] frame w go e h = h frame e
  filled_at f [] (a ∷ rest) frame w go e h = tt
  filled_at f (v ∷ vs) [] frame w go e h = tt

  deliver_at : (f : Func) (target : Option ℕ) (a : Option Value) (frame : Frame) (w : World) → frame.depth ≡ d → IsAt d (deliver f target a frame w)
  unfolding deliver
  deliver_at f None a frame w e = e
  deliver_at f (Some v) a frame w e = found_at _ w _ (λ b. fill_at f v b frame w e)

  -- what comes after a frame of the depth
  abbrev pub Following : (Frame → World → Step) → Type 0
  Following go = (frame : Frame) (w : World) → frame.depth ≡ d → IsAt d (go frame w)

  operand_at : (p : Program) (f : Func) (o : Operand) (frame : Frame) (w : World) (go : Value → Frame → World → Step) → frame.depth ≡ d → ((a : Value) → Following (go a)) → IsAt d (with_operand p f o frame w go)
  unfolding with_operand
  operand_at p f (pure x) frame w go e h = found_at _ w _ (λ a. h a frame w e)
  operand_at p f (move v) frame w go e h = found_at _ w _ (λ a. h a _ w e)
  operand_at p f (pack x states) frame w go e h = found_at _ w _ (λ n. h _ frame _ e)

  operands_at : (p : Program) (f : Func) (os : List Operand) (frame : Frame) (w : World) (go : List Value → Frame → World → Step) → frame.depth ≡ d → ((a : List Value) → Following (go a)) → IsAt d (with_operands p f os frame w go)
  unfolding with_operands
  operands_at p f [] frame w go e h = h [] frame w e
  operands_at p f (o ∷ os) frame w go e h =
      operand_at p f o frame w _ e (λ a frame2 v e2. operands_at p f os frame2 v _ e2 (λ rest frame3 u e3. h (a ∷ rest) frame3 u e3))

  packed_at : (ks : List KeyIn) (frame : Frame) (w : World) (go : List ℕ → World → Step) → ((ns : List ℕ) (v : World) → IsAt d (go ns v)) → IsAt d (with_case_packed ks frame w go)
  unfolding with_case_packed
  packed_at [] frame w go h = h [] w
  packed_at (k ∷ ks) frame w go h = found_at _ w _ (λ n. packed_at ks frame _ _ (λ ns v. h _ v))

  input_at : (more : Bool) (w : World) (go : ℤ → World → Step) → ((z : ℤ) (v : World) → IsAt d (go z v)) → IsAt d (with_input more w go)
  unfolding with_input first_input
  input_at true w go h = h _ w
  input_at false w go h = first w.input
    where
      first : (zs : List ℤ) → IsAt d (first_input zs w go)
      first [] = tt
      first (z ∷ zs) = h z _

  answer_at : (w : World) (go : List ℤ → World → Step) → ((zs : List ℤ) (v : World) → IsAt d (go zs v)) → IsAt d (with_answer w go)
  unfolding with_answer first_answer
  answer_at w go h = first w.answers
    where
      first : (rows : List (List ℤ)) → IsAt d (first_answer rows w go)
      first [] = tt
      first (a ∷ rest) = h a _

  pieces_at : (heap : ℕ) (ts : List Ty) (ps : List Piece) (w : World) (go : List Part → World → Step) → ((a : List Part) (v : World) → IsAt d (go a v)) → IsAt d (with_pieces heap ts ps w go)
  unfolding with_pieces
  pieces_at heap (ty ∷ ts) (plain z ∷ ps) w go h = pieces_at heap ts ps w _ (λ parts v. h _ v)
  pieces_at heap (ty ∷ ts) (new_in s ∷ ps) w go h = made_at heap _ w _ (λ n v. pieces_at heap ts ps v _ (λ parts u. h _ u))
  pieces_at heap [] ps w go h = h [] w
  pieces_at heap (ty ∷ ts) [] w go h = h [] w

  fresh_at : (heap ty : ℕ) (b : Option Binding) (frame : Frame) (w : World) (go : Option Value → Frame → World → Step) → frame.depth ≡ d → ((a : Option Value) → Following (go a)) → IsAt d (with_fresh heap ty b frame w go)
  unfolding with_fresh
  fresh_at heap ty None frame w go e h = h None frame w e
  fresh_at heap ty (Some b) frame w go e h = made_at heap _ w _ (λ n v. h _ _ v e)

  result_at : (heap : ℕ) (p : Program) (g : Func) (keys ss : List ℕ) (r : answers.Result) (frame : Frame) (w : World) (go : Option Value → Frame → World → Step) → frame.depth ≡ d → ((a : Option Value) → Following (go a)) → IsAt d (with_result heap p g keys ss r frame w go)
  unfolding with_result
  result_at heap p g keys ss nothing frame w go e h = fresh_at heap _ _ frame w go e h
  result_at heap p g keys ss (piece (plain z)) frame w go e h = h _ frame w e
  result_at heap p g keys ss (piece (new_in s)) frame w go e h = made_at heap _ w _ (λ n v. h _ frame v e)
  result_at heap p g keys ss (case_with c zs ps) frame w go e h = found_at _ w _ (λ v. pieces_at heap _ ps w _ (λ parts u. h _ frame u e))

  pub external_at : (heap : ℕ) (p : Program) (f : Func) (target : Option ℕ) (keys : List ℕ) (g : Func) (args : List Value) (frame : Frame) (w : World) → frame.depth ≡ d → IsAt d (call_external heap p f target keys g args frame w)
  unfolding call_external
  external_at heap p f target keys g args frame w e =
      found_at _ w _ (λ ns. found_at _ w _ (λ ms.
      answer_at _ _ (λ zs w2. moved_at _ _ _ w2 _ (λ w3. moved_at _ _ _ w3 _ (λ w4. found_at _ w4 _ (λ q.
      result_at heap p g keys q.answer.states q.answer.result frame _ _ e (λ b frame2 w5 e2. deliver_at f target b frame2 w5 e2)))))))

  names_depth : (bs : List Binding) (frame : Frame) → frame.depth ≡ d → (with_names bs frame).depth ≡ d
  names_depth [] frame e = e
  names_depth (b ∷ bs) frame e = names_depth bs _ e

  -- back in the caller's frame
  pub back_at : (f : Func) (target : Option ℕ) (keys : List ℕ) (g : Func) (frame : Frame) (a : Step) → frame.depth ≡ d → IsAt d (back_in f target keys g frame a)
  unfolding back_in
  back_at f target keys g frame (leaves a kept w) e =
      deliver_at f target a (with_names (bindings keys (entries_after g) kept) frame) _ (names_depth (bindings keys (entries_after g) kept) frame e)
  back_at f target keys g frame (ends o w) e = tt
  back_at f target keys g frame (goes frame2 w) e = tt
  back_at f target keys g frame (jumps c frame2 w) e = tt

  pub left_at : (bound : List Tok) (a : Step) → IsAt d a → IsAt d (left_block bound a)
  unfolding left_block
  left_at bound (goes frame w) h = so_at _ _ _ w _ (λ v. h)
  left_at bound (jumps c frame w) h = so_at _ _ _ w _ (λ v. h)
  left_at bound (leaves a kept w) h = tt
  left_at bound (ends o w) h = tt

  pub focus_at : (r : Setup) (g q : Reference) (a n : ℕ) (x : Step) → IsAt d x → IsAt d (focus_end r g q a n x)
  unfolding focus_end focus_end_step
  focus_at r g q a n (goes frame w) h = found_at _ w _ (λ m. found_at _ w _ (λ b. h))
  focus_at r g q a n (jumps c frame w) h = h
  focus_at r g q a n (leaves b kept w) h = tt
  focus_at r g q a n (ends o w) h = tt

  function_at : (r : Setup) (f : Func) (value : Option Operand) (a : Option Value) (frame : Frame) (w : World) → IsAt d (left_function r f value a frame w)
  unfolding left_function
  function_at r f value a frame w = found_at _ w _ (λ kept. so_at _ _ _ w _ (λ u. so_at _ _ _ u _ (λ v. tt)))

  pub returned_at : (r : Setup) (f : Func) (value : Option Operand) (frame : Frame) (w : World) → frame.depth ≡ d → IsAt d (with_returned r.program f value frame w (λ a frame w. left_function r f value a frame w))
  unfolding with_returned
  returned_at r f None frame w e = function_at r f None None frame w
  returned_at r f (Some o) frame w e = operand_at r.program f o frame w _ e (λ a frame2 v e2. function_at r f (Some o) (Some a) frame2 v)

  pub simple_at : (r : Setup) (f : Func) (s : Simple) (frame : Frame) (w : World) → frame.depth ≡ d → IsAt d (does_simple r f s frame w)
  unfolding made_in swap_step open_step
  simple_at r f (set v x) frame w e = found_at _ w _ (λ a. e)
  simple_at r f (core.input v more) frame w e = input_at more w _ (λ z u. e)
  simple_at r f (print x) frame w e = found_at _ w _ (λ z. e)
  simple_at r f (put x i y) frame w e = found_at _ w _ (λ a. found_at _ w _ (λ n. so_at _ _ _ w _ (λ v. e)))
  simple_at r f (make x args) frame w e =
      found_at _ w _ (λ q. so_at _ _ _ w _ (λ w1. operands_at r.program f args frame w1 _ e (λ cells frame2 w2 e2.
      made_at r.heap _ w2 _ (λ n w3. moved_at _ _ _ w3 _ (λ w4. e2)))))
  simple_at r f (become x s) frame w e = found_at _ w _ (λ n. e)
  simple_at r f (release x) frame w e = found_at _ w _ (λ n. released_at r.program _ w _ (λ v. e))
  simple_at r f (drop v) frame w e = found_at _ w _ (λ a. dropped_at r.program _ w _ (λ u. e))
  simple_at r f (own v o) frame w e = operand_at r.program f o frame w _ e (λ a frame2 w1 e2. fill_at f v a frame2 w1 e2)
  simple_at r f (unpack x v) frame w e = found_at _ w _ (λ q. found_at _ w _ (λ ss. found_at _ w _ (λ n. found_at _ w _ (λ m. e))))
  simple_at r f (build v c args) frame w e =
      found_at _ w _ (λ t. so_at _ _ _ w _ (λ w1. operands_at r.program f args frame w1 _ e (λ values frame2 w2 e2.
      found_at _ w2 _ (λ parts. packed_at _ frame2 w2 _ (λ ns w3. fill_at f v _ frame2 w3 e2)))))
  simple_at r f (swap x i v) frame w e =
      found_at _ w _ (λ n. found_at _ w _ (λ old. found_at _ w _ (λ new.
      so_at _ _ _ w _ (λ w1. moved_at _ _ _ w1 _ (λ w2. moved_at _ _ _ w2 _ (λ w3. e))))))
  simple_at r f (open_into x vs) frame w e =
      found_at _ w _ (λ q. found_at _ w _ (λ n. moved_at _ _ _ w _ (λ w1. released_at r.program _ w1 _ (λ w2.
      filled_at f vs _ frame w2 _ e (λ frame2 e2. e2)))))
  simple_at r f (adopt y x q) frame w e = found_at _ w _ (λ n. found_at _ w _ (λ a. so_at _ _ _ w _ (λ w1. e)))
