-- What each change of a world keeps, each run keeps.
use Rattle.std.proofs.Common.{◌≡◌, ℕ, zero, suc, ◌-◌, ◌+◌, ◌==◌, nat_lt, Bool, true, false, List, [], ◌∷◌, ℤ, Option, Some, None, Ok, Err, if◌then◌else◌, refl}
use Rattle.vlt_ops.specs.Operator.{is_true}
use Rattle.vlt_core.specs.Core.{Ty, Operand, pure, move, pack, Tok, Simple, set, print, put, make, become, release, drop, own, unpack, build, swap, open_into, adopt, Form, simple, call, choose, loop, switch, focus, scope, return, jump, Block, block, Stmts, done, next, Arms, no_arms, arm, Func, Program}
use Rattle.vlt_core.specs.Core as core
use Rattle.vlt_core.specs.Lookups.{KeyIn, Reference}
use Rattle.vlt_meaning.specs.World.{Value, Part, Owner, Object, Event, World, Frame, Reason, is_full}
use Rattle.vlt_meaning.specs.Found.{Found}
use Rattle.vlt_meaning.specs.Objects.{with_owner, with_state, with_cell}
use Rattle.vlt_meaning.specs.Step.{Step, goes, jumps, leaves, ends, with_found, where_so, with_objects, with_changed, with_event, spend, first_input, with_input, first_answer, with_answer, with_made, with_moved, with_released, with_dropped, fill, with_filled, deliver, then_do, then_turn, left_block}
use Rattle.vlt_meaning.specs.Operands.{with_operand, with_operands, with_case_packed, with_case_opened, Case}
use Rattle.vlt_meaning.specs.Calls.{Binding, bindings, entries_after, back_in, with_returned, called_instance}
use Rattle.vlt_meaning.specs.HostAnswers.{Piece, plain, new_in, nothing, piece, case_with}
use Rattle.vlt_meaning.specs.HostAnswers as answers
use Rattle.vlt_meaning.specs.Externals.{or_bad, fitting, with_pieces, with_fresh, with_result, call_external}
use Rattle.vlt_meaning.specs.Run.{Setup, Meaning, made_in, swap_step, open_step, does_simple, call_body, call_by, left_function, focus_end_step, focus_end, does_form, does_block, does_stmts, does_arm, less}
use Rattle.vlt_meaning_laws.specs.Keeping.{KeepsObjects, world_after}
use Rattle.vlt_meaning_laws.proofs.Keeping.{err-ok, keeps_owner, keeps_changed, keeps_more, keeps_then, keeps_released, keeps_moved, keeps_handed, keeps_holders, keeps_answered, keeps_fitting}

-- a relation of a world to a later one that each change keeps
pub record IsKept (I : World → World → Type 0) : Type 0 where
  pub same : (w : World) → I w w
  pub objects : (w v : World) (os : List Object) → KeepsObjects v.objects os → I w v → I w (with_objects v os)
  pub event : (w v : World) (e : Event) → I w v → I w (with_event v e)
  pub fuel : (w v : World) → I w v → I w (record v { fuel = v.fuel - 1 })
  pub input : (w v : World) (z : ℤ) (zs : List ℤ) → v.input ≡ z ∷ zs → I w v → I w (record v { input = zs })
  pub answer : (w v : World) (rest : List (List ℤ)) → I w v → I w (record v { answers = rest; taken = v.taken + 1 })

pub record To (I : World → World → Type 0) (w : World) (a : Step) : Type 0 where
  pub kept : I w (world_after a)

fitted : {A : Type 0} (position : ℕ) (a : Found A) (x : A) → or_bad position a ≡ Ok x → a ≡ Ok x
fitted position (Ok a) x e = e
fitted position (Err o) x e = absurd (err-ok e)

module _ (I : World → World → Type 0) (k : IsKept I) (w0 : World) where
  -- the rest of a run keeps it, in each world that it may come to
  abbrev pub On : (World → Step) → Type 0
  On go = (v : World) → I w0 v → To I w0 (go v)

  abbrev pub OnFrame : (Frame → World → Step) → Type 0
  OnFrame go = (frame : Frame) (v : World) → I w0 v → To I w0 (go frame v)

  found_to : {A : Type 0} (a : Found A) (w : World) (go : A → Step) → I w0 w → ((x : A) → To I w0 (go x)) →
      To I w0 (with_found a w go)
  unfolding with_found
  found_to (Ok x) w go h t = t x
  found_to (Err o) w go h t = record { kept = h }

  -- the same, where it is said what is found
  known_to : {A : Type 0} (a : Found A) (w : World) (go : A → Step) → I w0 w →
      ((x : A) → a ≡ Ok x → To I w0 (go x)) → To I w0 (with_found a w go)
  unfolding with_found
  known_to (Ok x) w go h t = t x refl
  known_to (Err o) w go h t = record { kept = h }

  so_to : (b : Bool) (r : Reason) (n : Option ℕ) (w : World) (go : World → Step) → I w0 w → On go →
      To I w0 (where_so b r n w go)
  unfolding where_so
  so_to true r n w go h t = t w h
  so_to false r n w go h t = record { kept = h }

  if_to : (b : Bool) (a c : Step) → To I w0 a → To I w0 c → To I w0 (if b then a else c)
  if_to true a c s t = s
  if_to false a c s t = t

  moved_to : (from : Owner → Bool) (to : Owner) (ns : List ℕ) (w : World) (go : World → Step) → I w0 w →
      On go → To I w0 (with_moved from to ns w go)
  unfolding with_moved
  moved_to from to ns w go h t =
      known_to _ w _ h (λ os e. t _ (k.objects w0 w os (keeps_moved from to ns w.objects os e) h))

  owner_to : (n : ℕ) (owner : Owner) (w : World) → I w0 w → I w0 (with_changed w n (with_owner owner))
  owner_to n owner w h = k.objects w0 w _ (keeps_owner n owner w.objects) h

  made_to : (heap : ℕ) (o : Object) (w : World) (go : ℕ → World → Step) → I w0 w → ((n : ℕ) → On (go n)) →
      To I w0 (with_made heap o w go)
  unfolding with_made
  made_to heap o w go h t =
      if_to (is_full heap w.objects) _ _ (record { kept = h }) (t _ _ (k.objects w0 w _ (keeps_more w.objects o) h))

  spend_to : (w : World) (go : World → Step) → I w0 w → On go → To I w0 (spend w go)
  unfolding spend
  spend_to w go h t = if_to (w.fuel == 0) _ _ (record { kept = h }) (t _ (k.fuel w0 w h))

  released_to : (p : Program) (n : ℕ) (w : World) (go : World → Step) → I w0 w → On go →
      To I w0 (with_released p n w go)
  unfolding with_released
  released_to p n w go h t = so_to _ _ _ w _ h (λ v i. t _ (k.objects w0 v _ (keeps_released n v.objects) i))

  dropped_to : (p : Program) (ns : List ℕ) (w : World) (go : World → Step) → I w0 w → On go →
      To I w0 (with_dropped p ns w go)
  unfolding with_dropped
  dropped_to p [] w go h t = t w h
  dropped_to p (n ∷ ns) w go h t = found_to _ w _ h (λ m. released_to p n w _ h (λ v i. dropped_to p ns v go i t))

  fill_to : (f : Func) (v : ℕ) (a : Value) (frame : Frame) (w : World) → I w0 w → To I w0 (fill f v a frame w)
  unfolding fill
  fill_to f v a frame w h = so_to _ _ _ w _ h (λ w' i. record { kept = i })

  filled_to : (f : Func) (vs : List ℕ) (ps : List Value) (frame : Frame) (w : World) (go : Frame → Step) →
      I w0 w → ((frame : Frame) → To I w0 (go frame)) → To I w0 (with_filled f vs ps frame w go)
  unfolding with_filled
  filled_to f (v ∷ vs) (a ∷ ps) frame w go h t = so_to _ _ _ w _ h (λ w' i. filled_to f vs ps _ w' go i t)
  filled_to f [] [] frame w go h t = t frame
  filled_to f [] (a ∷ ps) frame w go h t = record { kept = h }
  filled_to f (v ∷ vs) [] frame w go h t = record { kept = h }

  deliver_to : (f : Func) (target : Option ℕ) (a : Option Value) (frame : Frame) (w : World) → I w0 w →
      To I w0 (deliver f target a frame w)
  unfolding deliver
  deliver_to f None a frame w h = record { kept = h }
  deliver_to f (Some v) a frame w h = found_to _ w _ h (λ b. fill_to f v b frame w h)

  operand_to : (p : Program) (f : Func) (o : Operand) (frame : Frame) (w : World) (go : Value → Frame → World → Step) →
      I w0 w → ((a : Value) → OnFrame (go a)) → To I w0 (with_operand p f o frame w go)
  unfolding with_operand
  operand_to p f (pure e) frame w go h t = found_to _ w _ h (λ a. t a frame w h)
  operand_to p f (move v) frame w go h t = found_to _ w _ h (λ a. t a _ w h)
  operand_to p f (pack x s) frame w go h t = found_to _ w _ h (λ n. t _ frame _ (owner_to _ _ w h))

  operands_to : (p : Program) (f : Func) (os : List Operand) (frame : Frame) (w : World)
      (go : List Value → Frame → World → Step) →
      I w0 w → ((a : List Value) → OnFrame (go a)) → To I w0 (with_operands p f os frame w go)
  unfolding with_operands
  operands_to p f [] frame w go h t = t [] frame w h
  operands_to p f (o ∷ os) frame w go h t =
      operand_to p f o frame w _ h (λ a frame' v i.
      operands_to p f os frame' v _ i (λ rest frame'' u j. t (a ∷ rest) frame'' u j))

  returned_to : (p : Program) (f : Func) (o : Option Operand) (frame : Frame) (w : World)
      (go : Option Value → Frame → World → Step) →
      I w0 w → ((a : Option Value) → OnFrame (go a)) → To I w0 (with_returned p f o frame w go)
  unfolding with_returned
  returned_to p f None frame w go h t = t None frame w h
  returned_to p f (Some o) frame w go h t = operand_to p f o frame w _ h (λ a. t (Some a))

  packed_to : (ks : List KeyIn) (frame : Frame) (w : World) (go : List ℕ → World → Step) → I w0 w →
      ((ns : List ℕ) → On (go ns)) → To I w0 (with_case_packed ks frame w go)
  unfolding with_case_packed
  packed_to [] frame w go h t = t [] w h
  packed_to (j ∷ ks) frame w go h t =
      found_to _ w _ h (λ n. packed_to ks frame _ _ (owner_to _ _ w h) (λ ns v i. t (n.number ∷ ns) v i))

  case_opened_to : (ks : List KeyIn) (ns : List ℕ) (frame : Frame) (w : World) (go : World → Step) → I w0 w →
      On go → To I w0 (with_case_opened ks ns frame w go)
  unfolding with_case_opened
  case_opened_to (j ∷ ks) (n ∷ ns) frame w go h t =
      found_to _ w _ h (λ q. case_opened_to ks ns frame _ go (owner_to _ _ w h) t)
  case_opened_to [] [] frame w go h t = t w h
  case_opened_to [] (n ∷ ns) frame w go h t = record { kept = h }
  case_opened_to (j ∷ ks) [] frame w go h t = record { kept = h }

  input_to : (more : Bool) (w : World) (go : ℤ → World → Step) → I w0 w → ((z : ℤ) → On (go z)) →
      To I w0 (with_input more w go)
  unfolding with_input first_input
  input_to true w go h t = t _ w h
  input_to false w go h t = first w.input refl
    where
      first : (zs : List ℤ) → w.input ≡ zs → To I w0 (first_input zs w go)
      first [] e = record { kept = h }
      first (z ∷ zs) e = t z _ (k.input w0 w z zs e h)

  answer_to : (w : World) (go : List ℤ → World → Step) → I w0 w → ((zs : List ℤ) → On (go zs)) →
      To I w0 (with_answer w go)
  unfolding with_answer first_answer
  answer_to w go h t = first w.answers
    where
      first : (rows : List (List ℤ)) → To I w0 (first_answer rows w go)
      first [] = record { kept = h }
      first (a ∷ rest) = t a _ (k.answer w0 w rest h)

  pieces_to : (heap : ℕ) (ts : List Ty) (ps : List Piece) (w : World) (go : List Part → World → Step) →
      I w0 w → ((a : List Part) → On (go a)) → To I w0 (with_pieces heap ts ps w go)
  unfolding with_pieces
  pieces_to heap (ty ∷ ts) (plain z ∷ ps) w go h t = pieces_to heap ts ps w _ h (λ parts. t _)
  pieces_to heap (ty ∷ ts) (new_in s ∷ ps) w go h t =
      made_to heap _ w _ h (λ n v i. pieces_to heap ts ps v _ i (λ parts. t _))
  pieces_to heap [] ps w go h t = t [] w h
  pieces_to heap (ty ∷ ts) [] w go h t = t [] w h

  fresh_to : (heap ty : ℕ) (b : Option Binding) (frame : Frame) (w : World) (go : Option Value → Frame → World → Step) →
      I w0 w → ((a : Option Value) → OnFrame (go a)) → To I w0 (with_fresh heap ty b frame w go)
  unfolding with_fresh
  fresh_to heap ty None frame w go h t = t None frame w h
  fresh_to heap ty (Some b) frame w go h t = made_to heap _ w _ h (λ n v i. t _ _ v i)

  result_to : (heap : ℕ) (p : Program) (g : Func) (keys ss : List ℕ) (r : answers.Result) (frame : Frame)
      (w : World) (go : Option Value → Frame → World → Step) →
      I w0 w → ((a : Option Value) → OnFrame (go a)) → To I w0 (with_result heap p g keys ss r frame w go)
  unfolding with_result
  result_to heap p g keys ss nothing frame w go h t = fresh_to heap _ _ frame w go h t
  result_to heap p g keys ss (piece (plain z)) frame w go h t = t _ frame w h
  result_to heap p g keys ss (piece (new_in s)) frame w go h t = made_to heap _ w _ h (λ n v i. t _ frame v i)
  result_to heap p g keys ss (case_with c zs ps) frame w go h t =
      found_to _ w _ h (λ v. pieces_to heap _ ps w _ h (λ parts v i. t _ frame v i))

  pub external_to : (heap : ℕ) (p : Program) (f : Func) (target : Option ℕ) (keys : List ℕ) (g : Func)
      (args : List Value) (frame : Frame) (w : World) →
      I w0 w → To I w0 (call_external heap p f target keys g args frame w)
  unfolding call_external
  external_to heap p f target keys g args frame w h =
      found_to _ w _ h (λ ns.
      found_to _ w _ h (λ ms.
      answer_to _ _ (k.event w0 w _ h) (λ zs w2 h2.
      moved_to _ _ _ w2 _ h2 (λ w3 h3.
      moved_to _ _ _ w3 _ h3 (λ w4 h4.
      known_to (or_bad w4.taken (fitting p g keys frame zs w4.objects)) w4 _ h4 (λ q e.
      result_to heap p g keys q.answer.states q.answer.result frame _ _
      (k.objects w0 w4 _
      (keeps_then (keeps_fitting p g keys frame zs w4.objects q (fitted w4.taken _ q e))
      (keeps_answered p g keys frame q.answer q.objects))
      h4)
      (λ b frame' w5 h5. deliver_to f target b frame' w5 h5)))))))

  pub back_to : (f : Func) (target : Option ℕ) (keys : List ℕ) (g : Func) (frame : Frame) (a : Step) → To I w0 a →
      To I w0 (back_in f target keys g frame a)
  unfolding back_in
  back_to f target keys g frame (leaves a kept w) h =
      deliver_to f target a _ _
      (k.objects w0 w _ (keeps_holders frame.depth (bindings keys (entries_after g) kept) w.objects) h.kept)
  back_to f target keys g frame (ends o w) h = record { kept = h.kept }
  back_to f target keys g frame (goes fr w) h = record { kept = h.kept }
  back_to f target keys g frame (jumps c fr w) h = record { kept = h.kept }

  pub left_to : (bound : List Tok) (a : Step) → To I w0 a → To I w0 (left_block bound a)
  unfolding left_block
  left_to bound (goes frame w) h = so_to _ _ _ w _ h.kept (λ v i. record { kept = i })
  left_to bound (jumps c frame w) h = so_to _ _ _ w _ h.kept (λ v i. record { kept = i })
  left_to bound (leaves a kept w) h = record { kept = h.kept }
  left_to bound (ends o w) h = record { kept = h.kept }

  then_to : (a : Step) (go : Frame → World → Step) → To I w0 a → OnFrame go → To I w0 (then_do a go)
  unfolding then_do
  then_to (goes frame w) go h t = t frame w h.kept
  then_to (jumps c frame w) go h t = record { kept = h.kept }
  then_to (leaves a kept w) go h t = record { kept = h.kept }
  then_to (ends o w) go h t = record { kept = h.kept }

  turn_to : (a : Step) (go : Frame → World → Step) → To I w0 a → OnFrame go → To I w0 (then_turn a go)
  unfolding then_turn
  turn_to (goes frame w) go h t = t frame w h.kept
  turn_to (jumps true frame w) go h t = t frame w h.kept
  turn_to (jumps false frame w) go h t = record { kept = h.kept }
  turn_to (leaves a kept w) go h t = record { kept = h.kept }
  turn_to (ends o w) go h t = record { kept = h.kept }

  pub focus_to : (r : Setup) (g q : Reference) (a n : ℕ) (x : Step) → To I w0 x → To I w0 (focus_end r g q a n x)
  unfolding focus_end focus_end_step
  focus_to r g q a n (goes frame w) h =
      found_to _ w _ h.kept (λ m. found_to _ w _ h.kept (λ b. record {
        kept = k.objects w0 w _ (keeps_then (keeps_owner n _ w.objects) (keeps_owner a _ _)) h.kept;
      }))
  focus_to r g q a n (jumps c frame w) h = record { kept = h.kept }
  focus_to r g q a n (leaves b kept w) h = record { kept = h.kept }
  focus_to r g q a n (ends o w) h = record { kept = h.kept }

  simple_to : (r : Setup) (f : Func) (s : Simple) (frame : Frame) (w : World) → I w0 w →
      To I w0 (does_simple r f s frame w)
  unfolding made_in swap_step open_step
  simple_to r f (set v e) frame w h = found_to _ w _ h (λ a. record { kept = h })
  simple_to r f (core.input v more) frame w h = input_to more w _ h (λ z v i. record { kept = i })
  simple_to r f (print e) frame w h = found_to _ w _ h (λ z. record { kept = k.event w0 w _ h })
  simple_to r f (put x i e) frame w h =
      found_to _ w _ h (λ a. found_to _ w _ h (λ n. so_to _ _ _ w _ h (λ v j. record {
        kept = k.objects w0 v _ (keeps_changed n.number (with_cell i a) v.objects (λ o. refl)) j;
      })))
  simple_to r f (make x args) frame w h =
      found_to _ w _ h (λ q. so_to _ _ _ w _ h (λ w1 h1.
      operands_to r.program f args frame w1 _ h1 (λ cells frame' w2 h2.
      made_to r.heap _ w2 _ h2 (λ n w3 h3. moved_to _ _ _ w3 _ h3 (λ w4 h4. record { kept = h4 })))))
  simple_to r f (become x s) frame w h =
      found_to _ w _ h
      (λ n. record { kept = k.objects w0 w _ (keeps_changed n.number (with_state s) w.objects (λ o. refl)) h })
  simple_to r f (release x) frame w h =
      found_to _ w _ h (λ n. released_to r.program _ w _ h (λ v i. record { kept = i }))
  simple_to r f (drop v) frame w h =
      found_to _ w _ h (λ a. dropped_to r.program _ w _ h (λ w2 h2. record { kept = h2 }))
  simple_to r f (own v o) frame w h =
      operand_to r.program f o frame w _ h (λ a frame' w1 h1. fill_to f v a frame' w1 h1)
  simple_to r f (unpack x v) frame w h =
      found_to _ w _ h (λ q. found_to _ w _ h (λ ss. found_to _ w _ h (λ n. found_to _ w _ h (λ m.
      record { kept = owner_to _ _ w h }))))
  simple_to r f (build v c args) frame w h =
      found_to _ w _ h (λ t. so_to _ _ _ w _ h (λ w1 h1.
      operands_to r.program f args frame w1 _ h1 (λ values frame' w2 h2.
      found_to _ w2 _ h2 (λ parts. packed_to _ frame' w2 _ h2 (λ ns w3 h3. fill_to f v _ frame' w3 h3)))))
  simple_to r f (swap x i v) frame w h =
      found_to _ w _ h (λ n. found_to _ w _ h (λ old. found_to _ w _ h (λ new.
      so_to _ _ _ w _ h (λ w1 h1. moved_to _ _ _ w1 _ h1 (λ w2 h2. moved_to _ _ _ w2 _ h2 (λ w3 h3. record {
        kept = k.objects w0 w3 _ (keeps_changed n.number (with_cell i new) w3.objects (λ o. refl)) h3;
      }))))))
  simple_to r f (open_into x vs) frame w h =
      found_to _ w _ h (λ q. found_to _ w _ h (λ n.
      moved_to _ _ _ w _ h (λ w1 h1. released_to r.program _ w1 _ h1 (λ w2 h2.
      filled_to f vs _ frame w2 _ h2 (λ frame'. record { kept = h2 })))))
  simple_to r f (adopt y x q) frame w h =
      found_to _ w _ h (λ n. found_to _ w _ h (λ a. so_to _ _ _ w _ h (λ w1 h1. record { kept = owner_to _ _ w1 h1 })))

  -- what any statements do keeps it
  abbrev pub Keeps : Meaning → Type 0
  Keeps m = (f : Func) (ss : Stmts) → OnFrame (m f ss)

  body_to : (r : Setup) (m : Meaning) → Keeps m →
      (f : Func) (target : Option ℕ) (keys : List ℕ) (g : Func) (args : List Value) (frame : Frame) (w : World) →
      I w0 w → To I w0 (call_body r m f target keys g args frame w)
  unfolding call_body
  body_to r m ks f target keys g args frame w h =
      if_to (nat_lt frame.depth r.depth) _ _
      (found_to _ w _ h (λ ns.
      back_to f target keys g frame _
      (ks g g.body _ _ (k.objects w0 w _ (keeps_handed keys frame g.clause w.objects) h))))
      (record { kept = h })

  call_to : (e : Bool) (r : Setup) (m : Meaning) → Keeps m →
      (f : Func) (target : Option ℕ) (keys : List ℕ) (g : Func) (args : List Value) (frame : Frame) (w : World) →
      I w0 w → To I w0 (call_by e r m f target keys g args frame w)
  unfolding call_by
  call_to true r m ks f target keys g args frame w h = external_to r.heap r.program f target keys g args frame w h
  call_to false r m ks f target keys g args frame w h = body_to r m ks f target keys g args frame w h

  function_to : (r : Setup) (f : Func) (value : Option Operand) (a : Option Value) (frame : Frame) (w : World) →
      I w0 w → To I w0 (left_function r f value a frame w)
  unfolding left_function
  function_to r f value a frame w h =
      found_to _ w _ h (λ kept. so_to _ _ _ w _ h (λ w1 h1. so_to _ _ _ w1 _ h1 (λ w2 h2. record { kept = h2 })))

  mutual
    pub form_to : (r : Setup) (m : Meaning) → Keeps m → (f : Func) (s : Form) → OnFrame (does_form r m f s)
    form_to r m ks f (simple s) frame w h = simple_to r f s frame w h
    form_to r m ks f (call g target keys args) frame w h =
        found_to _ w _ h (λ g'. so_to _ _ _ w _ h (λ w1 h1.
        operands_to r.program f args frame w1 _ h1 (λ values frame' w2 h2.
        spend_to w2 _ h2 (λ w3 h3. call_to g'.external r m ks f target keys (called_instance r.program g' keys frame' w3.objects) values frame' w3 h3))))
    form_to r m ks f (choose e a b) frame w h =
        found_to _ w _ h (λ z. if_to (is_true z) _ _ (block_to r m ks f a frame w h) (block_to r m ks f b frame w h))
    form_to r m ks f (loop e b) frame w h =
        spend_to w _ h (λ w1 h1. found_to _ w1 _ h1 (λ z.
        if_to (is_true z) _ (goes frame w1)
        (turn_to _ _ (block_to r m ks f b frame w1 h1) (ks f (next 0 (loop e b) done))) (record { kept = h1 })))
    form_to r m ks f (switch v arms end) frame w h =
        found_to _ w _ h (λ t. found_to _ w _ h (λ c.
        case_opened_to _ _ frame w _ h (λ w1 h1. arm_to r m ks f c arms _ w1 h1)))
    form_to r m ks f (focus y z b) frame w h =
        found_to _ w _ h (λ g. found_to _ w _ h (λ q. found_to _ w _ h (λ a. found_to _ w _ h (λ n.
        focus_to r g q _ _ _ (block_to r m ks f b _ _
        (k.objects w0 w _ (keeps_then (keeps_owner a.number _ w.objects) (keeps_owner n.number _ _)) h))))))
    form_to r m ks f (scope b) frame w h = block_to r m ks f b frame w h
    form_to r m ks f (return value) frame w h =
        returned_to r.program f value frame w _ h (λ a frame' w1 h1. function_to r f value a frame' w1 h1)
    form_to r m ks f (jump c) frame w h = record { kept = h }

    pub block_to : (r : Setup) (m : Meaning) → Keeps m → (f : Func) (b : Block) → OnFrame (does_block r m f b)
    block_to r m ks f (block ss bound end) frame w h = left_to bound _ (stmts_to r m ks f ss frame w h)

    pub stmts_to : (r : Setup) (m : Meaning) → Keeps m → (f : Func) (ss : Stmts) → OnFrame (does_stmts r m f ss)
    stmts_to r m ks f done frame w h = record { kept = h }
    stmts_to r m ks f (next at s rest) frame w h =
        then_to _ _ (form_to r m ks f s frame w h) (λ frame' v i. stmts_to r m ks f rest frame' v i)

    arm_to : (r : Setup) (m : Meaning) → Keeps m → (f : Func) (c : Case) (arms : Arms) →
        OnFrame (does_arm r m f c arms)
    arm_to r m ks f c no_arms frame w h = record { kept = h }
    arm_to r m ks f c (arm n vs b rest) frame w h =
        if_to (c.number == n) _ _
        (filled_to f vs _ frame w _ h (λ frame'. block_to r m ks f b frame' w h)) (arm_to r m ks f c rest frame w h)

  pub less_to : (r : Setup) (n : ℕ) → Keeps (less r n)
  less_to r zero f ss frame w h = record { kept = h }
  less_to r (suc n) f ss frame w h = stmts_to r (less r n) (less_to r n) f ss frame w h

-- what statements do keeps the relation from the world that they start with
pub keeps : (I : World → World → Type 0) (k : IsKept I) (r : Setup) (n : ℕ) (f : Func) (ss : Stmts)
    (frame : Frame) (w : World) →
    To I w (does_stmts r (less r n) f ss frame w)
keeps I k r n f ss frame w = stmts_to I k w r (less r n) (less_to I k w r n) f ss frame w (k.same w)
