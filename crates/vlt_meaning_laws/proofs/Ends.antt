-- What comes of statements of which the last one ends: never the statement after them.
use Rattle.std.proofs.Common.{◌≡◌, ℕ, Bool, true, false, ◌&&◌, ◌==◌, List, [], ◌∷◌, Option, Some, None, Ok, Err, refl, sym, subst, if◌then◌else◌}
use Rattle.vlt_ops.specs.Operator.{is_true}
use Rattle.vlt_core.specs.Core.{Operand, pure, move, pack, Tok, Form, simple, call, choose, loop, switch, focus, scope, return, jump, Block, block, Stmts, done, next, Arms, no_arms, arm, Func, Program}
use Rattle.vlt_core.specs.Lookups.{KeyIn}
use Rattle.vlt_meaning.specs.World.{Value, World, Frame, Reason}
use Rattle.vlt_meaning.specs.Found.{Found}
use Rattle.vlt_meaning.specs.Step.{Step, goes, jumps, leaves, ends, with_found, where_so, with_filled, then_do, left_block}
use Rattle.vlt_meaning.specs.Operands.{with_operand, with_case_opened, Case}
use Rattle.vlt_meaning.specs.Calls.{with_returned}
use Rattle.vlt_meaning.specs.Run.{Setup, Meaning, left_function, does_form, does_block, does_stmts, does_arm}
use Rattle.vlt_meaning_laws.specs.Ends.{form_ends, block_ends, list_ends, arms_end, Stops}

abbrev IsOn : Step → Type 0
IsOn (goes frame w) = Unit {0}
IsOn _ = ⊥

ends_stops : (o : _) (w : World) → Stops (ends o w)
ends_stops o w = record { not_on = λ frame v e. subst IsOn (sym e) tt }

leaves_stops : (a : Option Value) (ns : List ℕ) (w : World) → Stops (leaves a ns w)
leaves_stops a ns w = record { not_on = λ frame v e. subst IsOn (sym e) tt }

jumps_stops : (c : Bool) (frame : Frame) (w : World) → Stops (jumps c frame w)
jumps_stops c frame w = record { not_on = λ fr v e. subst IsOn (sym e) tt }

found_stops : {A : Type 0} (a : Found A) (w : World) (go : A → Step) → ((x : A) → Stops (go x)) →
    Stops (with_found a w go)
unfolding with_found
found_stops (Ok x) w go t = t x
found_stops (Err o) w go t = ends_stops _ w

so_stops : (b : Bool) (r : Reason) (n : Option ℕ) (w : World) (go : World → Step) → Stops (go w) →
    Stops (where_so b r n w go)
unfolding where_so
so_stops true r n w go t = t
so_stops false r n w go t = ends_stops _ w

operand_stops : (p : Program) (f : Func) (o : Operand) (frame : Frame) (w : World) (go : Value → Frame → World → Step) →
    ((a : Value) (fr : Frame) (v : World) → Stops (go a fr v)) → Stops (with_operand p f o frame w go)
unfolding with_operand
operand_stops p f (pure e) frame w go t = found_stops _ w _ (λ a. t a frame w)
operand_stops p f (move v) frame w go t = found_stops _ w _ (λ a. t a _ w)
operand_stops p f (pack x s) frame w go t = found_stops _ w _ (λ n. t _ frame _)

returned_stops : (p : Program) (f : Func) (o : Option Operand) (frame : Frame) (w : World)
    (go : Option Value → Frame → World → Step) →
    ((a : Option Value) (fr : Frame) (v : World) → Stops (go a fr v)) →
    Stops (with_returned p f o frame w go)
unfolding with_returned
returned_stops p f None frame w go t = t None frame w
returned_stops p f (Some o) frame w go t = operand_stops p f o frame w _ (λ a. t (Some a))

opened_stops : (ks : List KeyIn) (ns : List ℕ) (frame : Frame) (w : World) (go : World → Step) →
    ((v : World) → Stops (go v)) → Stops (with_case_opened ks ns frame w go)
unfolding with_case_opened
opened_stops (k ∷ ks) (n ∷ ns) frame w go t = found_stops _ w _ (λ q. opened_stops ks ns frame _ go t)
opened_stops [] [] frame w go t = t w
opened_stops [] (n ∷ ns) frame w go t = ends_stops _ w
opened_stops (k ∷ ks) [] frame w go t = ends_stops _ w

filled_stops : (f : Func) (vs : List ℕ) (ps : List Value) (frame : Frame) (w : World) (go : Frame → Step) →
    ((fr : Frame) → Stops (go fr)) → Stops (with_filled f vs ps frame w go)
unfolding with_filled
filled_stops f (v ∷ vs) (a ∷ ps) frame w go t = so_stops _ _ _ w _ (filled_stops f vs ps _ w go t)
filled_stops f [] [] frame w go t = t frame
filled_stops f [] (a ∷ ps) frame w go t = ends_stops _ w
filled_stops f (v ∷ vs) [] frame w go t = ends_stops _ w

function_stops : (r : Setup) (f : Func) (value : Option Operand) (a : Option Value) (frame : Frame) (w : World) →
    Stops (left_function r f value a frame w)
unfolding left_function
function_stops r f value a frame w =
    found_stops _ w _ (λ kept. so_stops _ _ _ w _ (so_stops _ _ _ w _ (leaves_stops a kept w)))

left_stops : (bound : List Tok) (a : Step) → Stops a → Stops (left_block bound a)
unfolding left_block
left_stops bound (goes frame w) s = absurd (s.not_on frame w refl)
left_stops bound (jumps c frame w) s = so_stops _ _ _ w _ (jumps_stops c frame w)
left_stops bound (leaves a ns w) s = s
left_stops bound (ends o w) s = s

-- the first part stops, or what follows it does
first_stops : (a : Step) (go : Frame → World → Step) → Stops a → Stops (then_do a go)
unfolding then_do
first_stops (goes frame w) go s = absurd (s.not_on frame w refl)
first_stops (jumps c frame w) go s = s
first_stops (leaves a ns w) go s = s
first_stops (ends o w) go s = s

rest_stops : (a : Step) (go : Frame → World → Step) → ((fr : Frame) (v : World) → Stops (go fr v)) →
    Stops (then_do a go)
unfolding then_do
rest_stops (goes frame w) go t = t frame w
rest_stops (jumps c frame w) go t = jumps_stops c frame w
rest_stops (leaves a ns w) go t = leaves_stops a ns w
rest_stops (ends o w) go t = ends_stops o w

if_stops : (b : Bool) (a c : Step) → Stops a → Stops c → Stops (if b then a else c)
if_stops true a c s t = s
if_stops false a c s t = t

abbrev is_false : Bool → Type 0
is_false true = ⊥
is_false false = Unit {0}

not_so : false ≡ true → ⊥
not_so e = subst is_false e tt

both_true : (a b : Bool) → (a && b) ≡ true → (a ≡ true) × (b ≡ true)
both_true true b e = (refl, e)
both_true false b e = absurd (not_so e)

mutual
  form_stops : (r : Setup) (m : Meaning) (f : Func) (s : Form) → form_ends s ≡ true →
      (frame : Frame) (w : World) → Stops (does_form r m f s frame w)
  form_stops r m f (choose e a b) q frame w =
      let both = both_true (block_ends a) (block_ends b) q in
      found_stops _ w _
      (λ z. if_stops (is_true z) _ _ (block_stops r m f a both.0 frame w) (block_stops r m f b both.1 frame w))
  form_stops r m f (switch v arms end) q frame w =
      found_stops _ w _ (λ t. found_stops _ w _ (λ c. opened_stops _ _ frame w _ (λ u. arm_stops r m f c arms q _ u)))
  form_stops r m f (scope b) q frame w = block_stops r m f b q frame w
  form_stops r m f (return value) q frame w =
      returned_stops r.program f value frame w _ (λ a fr v. function_stops r f value a fr v)
  form_stops r m f (jump c) q frame w = jumps_stops c frame w
  form_stops r m f (simple s) q frame w = absurd (not_so q)
  form_stops r m f (call g t ks os) q frame w = absurd (not_so q)
  form_stops r m f (loop e b) q frame w = absurd (not_so q)
  form_stops r m f (focus y z b) q frame w = absurd (not_so q)

  block_stops : (r : Setup) (m : Meaning) (f : Func) (b : Block) → block_ends b ≡ true →
      (frame : Frame) (w : World) → Stops (does_block r m f b frame w)
  block_stops r m f (block ss bound end) q frame w = left_stops bound _ (list_stops r m f ss q frame w)

  pub list_stops : (r : Setup) (m : Meaning) (f : Func) (ss : Stmts) → list_ends ss ≡ true →
      (frame : Frame) (w : World) → Stops (does_stmts r m f ss frame w)
  list_stops r m f done q frame w = absurd (not_so q)
  list_stops r m f (next at s done) q frame w = first_stops _ _ (form_stops r m f s q frame w)
  list_stops r m f (next at s (next at' s' rest)) q frame w =
      rest_stops _ _ (λ fr v. list_stops r m f (next at' s' rest) q fr v)

  arm_stops : (r : Setup) (m : Meaning) (f : Func) (c : Case) (arms : Arms) → arms_end arms ≡ true →
      (frame : Frame) (w : World) → Stops (does_arm r m f c arms frame w)
  arm_stops r m f c no_arms q frame w = ends_stops _ w
  arm_stops r m f c (arm n vs b rest) q frame w =
      let both = both_true (block_ends b) (arms_end rest) q in
      if_stops (c.number == n) _ _ (filled_stops f vs _ frame w _ (λ fr. block_stops r m f b both.0 fr w))
      (arm_stops r m f c rest both.1 frame w)
