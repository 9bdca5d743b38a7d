-- Statements that don't speak with the host change nothing of the world but its objects.
use Rattle.std.proofs.Common.{ℕ, Bool, true, false, List, [], ◌∷◌, if◌then◌else◌}
use Rattle.vlt_core.specs.Core.{Operand, Simple, set, print, put, make, become, release, drop, own, unpack, build, swap, open_into, adopt, Func, Program}
use Rattle.vlt_core.specs.Core as core
use Rattle.vlt_core.specs.Lookups.{KeyIn}
use Rattle.vlt_meaning.specs.World.{Value, Owner, Object, World, Frame, is_full}
use Rattle.vlt_meaning.specs.Step.{Step, with_made, with_moved, with_released, with_dropped, fill, with_filled}
use Rattle.vlt_meaning.specs.Operands.{with_operands, with_case_packed}
use Rattle.vlt_meaning.specs.Run.{Setup, made_in, swap_step, open_step, does_simple}
use Rattle.vlt_interp.proofs.OfTasks.Inside.{IsSameOutside, outside_same, objects_out, IsInside, found_in, so_in, operand_in}

-- it says nothing to the host, and asks it nothing
abbrev pub IsSilent : Simple → Type 0
IsSilent (core.input v more) = ⊥
IsSilent (print e) = ⊥
IsSilent s = Unit {0}

module _ (w0 : World) where
  abbrev On : (World → Step) → Type 0
  On go = (v : World) → IsSameOutside w0 v → IsInside w0 (go v)

  if_in : (b : Bool) (x y : Step) → IsInside w0 x → IsInside w0 y → IsInside w0 (if b then x else y)
  if_in true x y h k = h
  if_in false x y h k = k

  moved_in : (from : Owner → Bool) (to : Owner) (ns : List ℕ) (w : World) (go : World → Step) → IsSameOutside w0 w → On go → IsInside w0 (with_moved from to ns w go)
  unfolding with_moved
  moved_in from to ns w go s h = found_in w0 _ w _ s (λ os. h _ (objects_out w0 w os s))

  made_to : (heap : ℕ) (o : Object) (w : World) (go : ℕ → World → Step) → IsSameOutside w0 w → ((n : ℕ) → On (go n)) → IsInside w0 (with_made heap o w go)
  unfolding with_made
  made_to heap o w go s h = if_in (is_full heap w.objects) _ _ (record { same = s }) (h _ _ (objects_out w0 w _ s))

  released_in : (p : Program) (n : ℕ) (w : World) (go : World → Step) → IsSameOutside w0 w → On go → IsInside w0 (with_released p n w go)
  unfolding with_released
  released_in p n w go s h = so_in w0 _ _ _ w _ s (λ v t. h _ (objects_out w0 v _ t))

  dropped_in : (p : Program) (ns : List ℕ) (w : World) (go : World → Step) → IsSameOutside w0 w → On go → IsInside w0 (with_dropped p ns w go)
  unfolding with_dropped
  dropped_in p [] w go s h = h w s
  dropped_in p (n ∷ ns) w go s h = found_in w0 _ w _ s (λ m. released_in p n w _ s (λ v t. dropped_in p ns v go t h))

  fill_in : (f : Func) (v : ℕ) (a : Value) (frame : Frame) (w : World) → IsSameOutside w0 w → IsInside w0 (fill f v a frame w)
  unfolding fill
  fill_in f v a frame w s = so_in w0 _ _ _ w _ s (λ u t. record { same = t })

  filled_in : (f : Func) (vs : List ℕ) (values : List Value) (frame : Frame) (w : World) (go : Frame → Step) → IsSameOutside w0 w → ((frame : Frame) → IsInside w0 (go frame)) → IsInside w0 (with_filled f vs values frame w go)
  unfolding with_filled
  filled_in f (v ∷ vs) (a ∷ rest) frame w go s h = so_in w0 _ _ _ w _ s (λ u t. filled_in f vs rest _ u go t h)
  filled_in f [] [] frame w go s h = h frame
  filled_in f [] (a ∷ rest) frame w go s h = record { same = s }
  filled_in f (v ∷ vs) [] frame w go s h = record { same = s }

  abbrev Following : (Frame → World → Step) → Type 0
  Following go = (frame : Frame) (w : World) → IsSameOutside w0 w → IsInside w0 (go frame w)

  operands_in : (p : Program) (f : Func) (os : List Operand) (frame : Frame) (w : World) (go : List Value → Frame → World → Step) → IsSameOutside w0 w → ((a : List Value) → Following (go a)) → IsInside w0 (with_operands p f os frame w go)
  unfolding with_operands
  operands_in p f [] frame w go s h = h [] frame w s
  operands_in p f (o ∷ os) frame w go s h =
      operand_in w0 p f o frame w _ s (λ a frame2 v t. operands_in p f os frame2 v _ t (λ rest frame3 u t3. h (a ∷ rest) frame3 u t3))

  packed_in : (ks : List KeyIn) (frame : Frame) (w : World) (go : List ℕ → World → Step) → IsSameOutside w0 w → ((ns : List ℕ) → On (go ns)) → IsInside w0 (with_case_packed ks frame w go)
  unfolding with_case_packed
  packed_in [] frame w go s h = h [] w s
  packed_in (k ∷ ks) frame w go s h = found_in w0 _ w _ s (λ n. packed_in ks frame _ _ (objects_out w0 w _ s) (λ ns v t. h _ v t))

-- the world after a silent statement is the one before it, but for its objects
pub simple_inside : (r : Setup) (f : Func) (s : Simple) (frame : Frame) (w : World) → IsSilent s → IsInside w (does_simple r f s frame w)
unfolding made_in swap_step open_step
simple_inside r f (set v x) frame w e = found_in w _ w _ (outside_same w) (λ a. record { same = outside_same w })
simple_inside r f (core.input v more) frame w e = absurd e
simple_inside r f (print x) frame w e = absurd e
simple_inside r f (put x i y) frame w e = found_in w _ w _ (outside_same w) (λ a. found_in w _ w _ (outside_same w) (λ n. so_in w _ _ _ w _ (outside_same w) (λ v t. record { same = objects_out w v _ t })))
simple_inside r f (make x args) frame w e =
    found_in w _ w _ (outside_same w) (λ q. so_in w _ _ _ w _ (outside_same w) (λ w1 t1. operands_in w r.program f args frame w1 _ t1 (λ cells frame2 w2 t2.
    made_to w r.heap _ w2 _ t2 (λ n w3 t3. moved_in w _ _ _ w3 _ t3 (λ w4 t4. record { same = t4 })))))
simple_inside r f (become x s) frame w e = found_in w _ w _ (outside_same w) (λ n. record { same = objects_out w w _ (outside_same w) })
simple_inside r f (release x) frame w e = found_in w _ w _ (outside_same w) (λ n. released_in w r.program _ w _ (outside_same w) (λ v t. record { same = t }))
simple_inside r f (drop v) frame w e = found_in w _ w _ (outside_same w) (λ a. dropped_in w r.program _ w _ (outside_same w) (λ u t. record { same = t }))
simple_inside r f (own v o) frame w e = operand_in w r.program f o frame w _ (outside_same w) (λ a frame2 w1 t1. fill_in w f v a frame2 w1 t1)
simple_inside r f (unpack x v) frame w e = found_in w _ w _ (outside_same w) (λ q. found_in w _ w _ (outside_same w) (λ ss. found_in w _ w _ (outside_same w) (λ n. found_in w _ w _ (outside_same w) (λ m. record { same = objects_out w w _ (outside_same w) }))))
simple_inside r f (build v c args) frame w e =
    found_in w _ w _ (outside_same w) (λ q. so_in w _ _ _ w _ (outside_same w) (λ w1 t1. operands_in w r.program f args frame w1 _ t1 (λ values frame2 w2 t2.
    found_in w _ w2 _ t2 (λ parts. packed_in w _ frame2 w2 _ t2 (λ ns w3 t3. fill_in w f v _ frame2 w3 t3)))))
simple_inside r f (swap x i v) frame w e =
    found_in w _ w _ (outside_same w) (λ n. found_in w _ w _ (outside_same w) (λ old. found_in w _ w _ (outside_same w) (λ new.
    so_in w _ _ _ w _ (outside_same w) (λ w1 t1. moved_in w _ _ _ w1 _ t1 (λ w2 t2. moved_in w _ _ _ w2 _ t2 (λ w3 t3. record { same = objects_out w w3 _ t3 }))))))
simple_inside r f (open_into x vs) frame w e =
    found_in w _ w _ (outside_same w) (λ q. found_in w _ w _ (outside_same w) (λ n. moved_in w _ _ _ w _ (outside_same w) (λ w1 t1. released_in w r.program _ w1 _ t1 (λ w2 t2.
    filled_in w f vs _ frame w2 _ t2 (λ frame2. record { same = t2 })))))
simple_inside r f (adopt y x q) frame w e = found_in w _ w _ (outside_same w) (λ n. found_in w _ w _ (outside_same w) (λ a. so_in w _ _ _ w _ (outside_same w) (λ w1 t1. record { same = objects_out w w1 _ t1 })))
