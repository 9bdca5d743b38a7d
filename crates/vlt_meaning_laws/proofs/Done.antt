-- No step ends the run as done; so a run that is done has left main.
use Rattle.std.proofs.Common.{◌≡◌, ℕ, zero, suc, ◌==◌, nat_lt, Bool, true, false, List, [], ◌∷◌, ℤ, pos, Option, Some, None, Result, Ok, Err, if◌then◌else◌, refl, subst, sym, ap, ◌∙◌, slice_get}
use Rattle.vlt_ops.specs.declared.Op.{Op}
use Rattle.vlt_ops.specs.declared.Op.TheVariants.{And, Or}
use Rattle.vlt_ops.specs.declared.TrapKind.{TrapKind}
use Rattle.vlt_ops.specs.Operator.{is_true, applied}
use Rattle.vlt_core.specs.Core.{States, Ty, Entry, Expr, number, truth, var, field, unary, binary, Operand, pure, move, pack, Tok, Simple, set, print, put, make, become, release, drop, own, unpack, build, swap, open_into, adopt, Form, simple, call, choose, loop, switch, focus, scope, return, jump, Block, block, Stmts, done, next, Arms, no_arms, arm, Func, Program}
use Rattle.vlt_core.specs.Core as core
use Rattle.vlt_core.specs.Lookups.{KeyIn, Reference, reference_of, guarded_of, permitted_in, is_held_before, is_new, before_set, after_set, release_set}
use Rattle.vlt_meaning.specs.World.{Value, one, of_case, Part, reference, owned, Owner, Object, World, Frame, Reason, Outcome, fault, missing, no_value, is_full, depth_end, fuel_end, is_held_under}
use Rattle.vlt_meaning.specs.World as world
use Rattle.vlt_meaning.specs.Found.{Found, ◌>>=◌, or_fault, Named, if_so}
use Rattle.vlt_meaning.specs.Objects.{named_in, object_at, in_states, owned_at, objects_after_move}
use Rattle.vlt_meaning.specs.Values.{held_object, reference_in, tracked_object, object_of, guarded_object, object_after, touchable, number_in, is_number, or_trap, value_of_both, value_of, number_of}
use Rattle.vlt_meaning.specs.Step.{Step, goes, jumps, leaves, ends, with_found, where_so, spend, first_input, with_input, first_answer, with_answer, with_made, with_moved, with_released, with_dropped, fill, with_filled, deliver, then_do, then_turn, left_block}
use Rattle.vlt_meaning.specs.Operands.{with_operand, with_operands, part_of, parts_of, with_case_packed, case_object, with_case_opened, Case, case_in, owned_in}
use Rattle.vlt_meaning.specs.Calls.{passed_object, passed_objects, back_in, with_returned, new_object, returned_object, returned_objects, called_instance}
use Rattle.vlt_meaning.specs.HostAnswers.{Piece, plain, new_in, nothing, piece, case_with}
use Rattle.vlt_meaning.specs.HostAnswers as answers
use Rattle.vlt_meaning.specs.Externals.{awaited_keys, named_objects, or_bad, fitting, with_pieces, with_fresh, with_result, call_external}
use Rattle.vlt_meaning.specs.Calls.{Binding}
use Rattle.vlt_meaning.specs.Run.{Setup, Meaning, any_state, made_in, swap_step, open_step, does_simple, call_body, call_by, left_function, focused_object, lent_object, focus_end_step, focus_end, does_form, does_block, does_stmts, does_arm, less, first_frame, start, ran_of, main_run}
use Rattle.vlt_meaning.specs.Clean.{IsClean}
use Rattle.vlt_meaning_laws.specs.Done.{ComesToItsEnd, DoneIsMainsEnd, DoneIsClean}

-- ---- outcomes of what isn't found

abbrev IsOther : Outcome → Type 0
IsOther world.done = ⊥
IsOther o = Unit {0}

abbrev Other : {A : Type 0} → Found A → Type 0
Other (Ok a) = Unit {0}
Other (Err o) = IsOther o

then_found : {A B : Type 0} (a : Found A) (go : A → Found B) → Other a → ((x : A) → Other (go x)) → Other (a >>= go)
then_found (Ok x) go h t = t x
then_found (Err o) go h t = h

option_found : {A : Type 0} (r : Reason) (o : Option A) → Other (or_fault r o)
option_found r None = tt
option_found r (Some a) = tt

so_found : (b : Bool) (r : Reason) (n : Named) → Other (if_so b r n)
so_found true r n = tt
so_found false r n = tt

if_found : {A : Type 0} (b : Bool) (x y : Found A) → Other x → Other y → Other (if b then x else y)
if_found true x y h i = h
if_found false x y h i = i

at_found : (os : List Object) (n : ℕ) → Other (object_at os n)
at_found os n = by (slice_get os n)
  where
    by : (o : Option Object) → Other (named_in n o)
    by None = tt
    by (Some o) = tt

states_found : (s : States) (n : Named) → Other (in_states s n)
states_found s n = so_found _ _ n

owned_found : (from : Owner → Bool) (os : List Object) (n : ℕ) → Other (owned_at from os n)
owned_found from os n = then_found (object_at os n) _ (at_found os n) (λ m. so_found _ _ m)

moved_found : (from : Owner → Bool) (to : Owner) (ns : List ℕ) (os : List Object) → Other (objects_after_move from to ns os)
moved_found from to [] os = tt
moved_found from to (n ∷ ns) os = then_found (owned_at from os n) _ (owned_found from os n) (λ m. moved_found from to ns _)

held_found : (k : ℕ) (frame : Frame) (os : List Object) → Other (held_object k frame os)
held_found k frame os =
    then_found (or_fault no_value (frame.keys k)) _ (option_found _ _) (λ n.
    then_found (object_at os n) _ (at_found os n) (λ m. so_found _ _ m))

reference_found : (a : Option Value) → Other (reference_in a)
reference_found None = tt
reference_found (Some (one (reference n))) = tt
reference_found (Some (one (world.number z))) = tt
reference_found (Some (one (owned n))) = tt
reference_found (Some (of_case c ps ks)) = tt

tracked_found : (r : Reference) (x : ℕ) (frame : Frame) (os : List Object) → Other (tracked_object r x frame os)
tracked_found r x frame os =
    then_found (held_object r.key frame os) _ (held_found r.key frame os) (λ m.
    then_found (reference_in (frame.vars x)) _ (reference_found (frame.vars x)) (λ n. so_found _ _ m))

object_found : (f : Func) (s : Reference → States) (x : ℕ) (frame : Frame) (os : List Object) → Other (object_of f s x frame os)
object_found f s x frame os =
    then_found (or_fault missing (reference_of f x)) _ (option_found _ _) (λ r.
    then_found (tracked_object r x frame os) _ (tracked_found r x frame os) (λ m. states_found (s r) m))

guarded_found : (g : Reference) (y : ℕ) (frame : Frame) (os : List Object) → Other (guarded_object g y frame os)
guarded_found g y frame os =
    then_found (held_object g.key frame os) _ (held_found g.key frame os) (λ a.
    then_found (reference_in (frame.vars y)) _ (reference_found (frame.vars y)) (λ n.
    then_found (object_at os n) _ (at_found os n) (λ m. so_found _ _ m)))

after_found : (t g : Option Reference) (x : ℕ) (s : Reference → States) (frame : Frame) (os : List Object) →
    Other (object_after t g x s frame os)
after_found (Some r) g x s frame os =
    then_found (tracked_object r x frame os) _ (tracked_found r x frame os) (λ m. states_found (s r) m)
after_found None (Some g) x s frame os =
    then_found (guarded_object g x frame os) _ (guarded_found g x frame os) (λ m. states_found (s g) m)
after_found None None x s frame os = tt

touch_found : (p : Program) (f : Func) (x i : ℕ) (frame : Frame) (os : List Object) → Other (touchable p f x i frame os)
touch_found p f x i frame os = after_found (reference_of f x) (guarded_of f x) x _ frame os

-- ---- expressions

number_found : (a : Value) → Other (number_in a)
number_found (one (world.number z)) = tt
number_found (one (reference n)) = tt
number_found (one (owned n)) = tt
number_found (of_case c ps ks) = tt

trap_found : (a : Result ℤ TrapKind) → Other (or_trap a)
trap_found (Ok z) = tt
trap_found (Err t) = tt

both_found : (o : Op) (a : ℤ) (b : Found Value) → Other b → Other (value_of_both o a b)
both_found And a b h = if_found (is_true a) b (is_number a) h tt
both_found Or a b h = if_found (is_true a) (is_number a) b tt h
both_found o a b h = then_found b _ h (λ v. then_found (number_in v) _ (number_found v) (λ z. trap_found (applied o a z)))

value_found : (p : Program) (f : Func) (e : Expr) (frame : Frame) (os : List Object) → Other (value_of p f e frame os)
value_found p f (number z) frame os = tt
value_found p f (truth b) frame os = tt
value_found p f (var v) frame os = option_found _ _
value_found p f (field x i) frame os =
    then_found (touchable p f x i frame os) _ (touch_found p f x i frame os) (λ m. option_found _ _)
value_found p f (unary o a) frame os =
    then_found (value_of p f a frame os) _ (value_found p f a frame os) (λ v.
    then_found (number_in v) _ (number_found v) (λ z. trap_found (applied o z (pos 0))))
value_found p f (binary o a b) frame os =
    then_found (value_of p f a frame os) _ (value_found p f a frame os) (λ v.
    then_found (number_in v) _ (number_found v) (λ z. both_found o z (value_of p f b frame os) (value_found p f b frame os)))

count_found : (p : Program) (f : Func) (e : Expr) (frame : Frame) (os : List Object) → Other (number_of p f e frame os)
count_found p f e frame os = then_found (value_of p f e frame os) _ (value_found p f e frame os) (λ v. number_found v)

-- ---- operands, calls and foci

part_found : (a : Value) → Other (part_of a)
part_found (one a) = tt
part_found (of_case c ps ks) = tt

parts_found : (vs : List Value) → Other (parts_of vs)
parts_found [] = tt
parts_found (a ∷ vs) = then_found (part_of a) _ (part_found a) (λ b. then_found (parts_of vs) _ (parts_found vs) (λ bs. tt))

case_object_found : (k : KeyIn) (n : ℕ) (frame : Frame) (os : List Object) → Other (case_object k n frame os)
case_object_found k n frame os =
    then_found (or_fault no_value (frame.keys k.key)) _ (option_found _ _) (λ m.
    then_found (owned_at _ os n) _ (owned_found _ os n) (λ o. then_found (if_so (m == n) _ o) _ (so_found _ _ o) (λ q. states_found k.states q)))

case_found : (a : Option Value) → Other (case_in a)
case_found None = tt
case_found (Some (one a)) = tt
case_found (Some (of_case c ps ks)) = tt

owned_in_found : (a : Option Value) → Other (owned_in a)
owned_in_found None = tt
owned_in_found (Some (one (owned n))) = tt
owned_in_found (Some (one (world.number z))) = tt
owned_in_found (Some (one (reference n))) = tt
owned_in_found (Some (of_case c ps ks)) = tt

passed_found : (p : Program) (g : Func) (keys : List ℕ) (frame : Frame) (os : List Object) (es : List Entry) →
    Other (passed_objects p g keys frame os es)
passed_found p g keys frame os [] = tt
passed_found p g keys frame os (e ∷ es) = if_found (is_held_before e) _ _
    (then_found (passed_object p g keys frame os e) _
    (then_found (or_fault missing (slice_get keys e.key)) _ (option_found _ _) (λ k.
    then_found (held_object k frame os) _ (held_found k frame os) (λ n. states_found (before_set p g e) n)))
    (λ n. then_found (passed_objects p g keys frame os es) _ (passed_found p g keys frame os es) (λ ns. tt)))
    (passed_found p g keys frame os es)

new_found : (p : Program) (f : Func) (o : Option Operand) (e : Entry) (frame : Frame) (os : List Object) →
    Other (new_object p f o e frame os)
new_found p f None e frame os = tt
new_found p f (Some (pure (var x))) e frame os = object_found f _ x frame os
new_found p f (Some (pure (number z))) e frame os = tt
new_found p f (Some (pure (truth b))) e frame os = tt
new_found p f (Some (pure (field x i))) e frame os = tt
new_found p f (Some (pure (unary o a))) e frame os = tt
new_found p f (Some (pure (binary o a b))) e frame os = tt
new_found p f (Some (move v)) e frame os = tt
new_found p f (Some (pack x s)) e frame os = tt

returned_found : (p : Program) (f : Func) (o : Option Operand) (es : List Entry) (frame : Frame) (os : List Object) →
    Other (returned_objects p f o es frame os)
returned_found p f o [] frame os = tt
returned_found p f o (e ∷ es) frame os =
    then_found (returned_object p f o e frame os) _
    (if_found (is_new e) _ _ (new_found p f o e frame os)
    (then_found (held_object e.key frame os) _ (held_found e.key frame os) (λ n. states_found (after_set p f e) n)))
    (λ n. then_found (returned_objects p f o es frame os) _ (returned_found p f o es frame os) (λ ns. tt))

named_found : (keys : List ℕ) (frame : Frame) (js : List ℕ) → Other (named_objects keys frame js)
named_found keys frame [] = tt
named_found keys frame (j ∷ js) =
    then_found (or_fault _ (slice_get keys j)) _ (option_found _ _) (λ k.
    then_found (or_fault _ (frame.keys k)) _ (option_found _ _) (λ n.
    then_found (named_objects keys frame js) _ (named_found keys frame js) (λ ns. tt)))

bad_found : {A : Type 0} (position : ℕ) (a : Found A) → Other (or_bad position a)
bad_found position (Ok a) = tt
bad_found position (Err o) = tt

focused_found : (r : Setup) (q : Reference) (n : ℕ) (frame : Frame) (os : List Object) → Other (focused_object r q n frame os)
focused_found r q n frame os =
    then_found (held_object q.key frame os) _ (held_found q.key frame os) (λ m.
    then_found (if_so (m.number == n) _ m) _ (so_found _ _ m) (λ o. states_found (release_set r.program q.type) o))

lent_found : (k a : ℕ) (frame : Frame) (os : List Object) → Other (lent_object k a frame os)
lent_found k a frame os = then_found (object_at os a) _ (at_found os a) (λ m. so_found _ _ m)

-- ---- steps

abbrev Undone : Step → Type 0
Undone (ends o w) = IsOther o
Undone a = Unit {0}

-- the step doesn't end the run as done
record U (a : Step) : Type 0 where
  is : Undone a

abbrev On : (World → Step) → Type 0
On go = (w : World) → U (go w)

abbrev OnFrame : (Frame → World → Step) → Type 0
OnFrame go = (frame : Frame) (w : World) → U (go frame w)

found_u : {A : Type 0} (a : Found A) (w : World) (go : A → Step) → Other a → ((x : A) → U (go x)) → U (with_found a w go)
unfolding with_found
found_u (Ok x) w go h t = t x
found_u (Err o) w go h t = record { is = h }

so_u : (b : Bool) (r : Reason) (n : Option ℕ) (w : World) (go : World → Step) → On go → U (where_so b r n w go)
unfolding where_so
so_u true r n w go t = t w
so_u false r n w go t = record { is = tt }

if_u : (b : Bool) (a c : Step) → U a → U c → U (if b then a else c)
if_u true a c s t = s
if_u false a c s t = t

moved_u : (from : Owner → Bool) (to : Owner) (ns : List ℕ) (w : World) (go : World → Step) → On go → U (with_moved from to ns w go)
unfolding with_moved
moved_u from to ns w go t = found_u _ w _ (moved_found from to ns w.objects) (λ os. t _)

made_u : (heap : ℕ) (o : Object) (w : World) (go : ℕ → World → Step) → ((n : ℕ) → On (go n)) → U (with_made heap o w go)
unfolding with_made
made_u heap o w go t = if_u (is_full heap w.objects) _ _ (record { is = tt }) (t _ _)

spend_u : (w : World) (go : World → Step) → On go → U (spend w go)
unfolding spend
spend_u w go t = if_u (w.fuel == 0) _ _ (record { is = tt }) (t _)

released_u : (p : Program) (n : ℕ) (w : World) (go : World → Step) → On go → U (with_released p n w go)
unfolding with_released
released_u p n w go t = so_u _ _ _ w _ (λ v. t _)

dropped_u : (p : Program) (ns : List ℕ) (w : World) (go : World → Step) → On go → U (with_dropped p ns w go)
unfolding with_dropped
dropped_u p [] w go t = t w
dropped_u p (n ∷ ns) w go t = found_u _ w _ (owned_found _ w.objects n) (λ m. released_u p n w _ (λ v. dropped_u p ns v go t))

fill_u : (f : Func) (v : ℕ) (a : Value) (frame : Frame) (w : World) → U (fill f v a frame w)
unfolding fill
fill_u f v a frame w = so_u _ _ _ w _ (λ w'. record { is = tt })

filled_u : (f : Func) (vs : List ℕ) (ps : List Value) (frame : Frame) (w : World) (go : Frame → Step) →
    ((frame : Frame) → U (go frame)) → U (with_filled f vs ps frame w go)
unfolding with_filled
filled_u f (v ∷ vs) (a ∷ ps) frame w go t = so_u _ _ _ w _ (λ w'. filled_u f vs ps _ w' go t)
filled_u f [] [] frame w go t = t frame
filled_u f [] (a ∷ ps) frame w go t = record { is = tt }
filled_u f (v ∷ vs) [] frame w go t = record { is = tt }

deliver_u : (f : Func) (target : Option ℕ) (a : Option Value) (frame : Frame) (w : World) → U (deliver f target a frame w)
unfolding deliver
deliver_u f None a frame w = record { is = tt }
deliver_u f (Some v) a frame w = found_u _ w _ (option_found _ a) (λ b. fill_u f v b frame w)

operand_u : (p : Program) (f : Func) (o : Operand) (frame : Frame) (w : World) (go : Value → Frame → World → Step) →
    ((a : Value) → OnFrame (go a)) → U (with_operand p f o frame w go)
unfolding with_operand
operand_u p f (pure e) frame w go t = found_u _ w _ (value_found p f e frame w.objects) (λ a. t a frame w)
operand_u p f (move v) frame w go t = found_u _ w _ (option_found _ _) (λ a. t a _ w)
operand_u p f (pack x s) frame w go t = found_u _ w _ (object_found f _ x frame w.objects) (λ n. t _ frame _)

operands_u : (p : Program) (f : Func) (os : List Operand) (frame : Frame) (w : World) (go : List Value → Frame → World → Step) →
    ((a : List Value) → OnFrame (go a)) → U (with_operands p f os frame w go)
unfolding with_operands
operands_u p f [] frame w go t = t [] frame w
operands_u p f (o ∷ os) frame w go t =
    operand_u p f o frame w _ (λ a fr v. operands_u p f os fr v _ (λ rest fr' u. t (a ∷ rest) fr' u))

returned_u : (p : Program) (f : Func) (o : Option Operand) (frame : Frame) (w : World) (go : Option Value → Frame → World → Step) →
    ((a : Option Value) → OnFrame (go a)) → U (with_returned p f o frame w go)
unfolding with_returned
returned_u p f None frame w go t = t None frame w
returned_u p f (Some o) frame w go t = operand_u p f o frame w _ (λ a. t (Some a))

packed_u : (ks : List KeyIn) (frame : Frame) (w : World) (go : List ℕ → World → Step) → ((ns : List ℕ) → On (go ns)) →
    U (with_case_packed ks frame w go)
unfolding with_case_packed
packed_u [] frame w go t = t [] w
packed_u (j ∷ ks) frame w go t =
    found_u _ w _ (then_found (held_object j.key frame w.objects) _ (held_found j.key frame w.objects) (λ n. states_found j.states n))
    (λ n. packed_u ks frame _ _ (λ ns v. t (n.number ∷ ns) v))

opened_u : (ks : List KeyIn) (ns : List ℕ) (frame : Frame) (w : World) (go : World → Step) → On go → U (with_case_opened ks ns frame w go)
unfolding with_case_opened
opened_u (j ∷ ks) (n ∷ ns) frame w go t = found_u _ w _ (case_object_found j n frame w.objects) (λ q. opened_u ks ns frame _ go t)
opened_u [] [] frame w go t = t w
opened_u [] (n ∷ ns) frame w go t = record { is = tt }
opened_u (j ∷ ks) [] frame w go t = record { is = tt }

input_u : (more : Bool) (w : World) (go : ℤ → World → Step) → ((z : ℤ) → On (go z)) → U (with_input more w go)
unfolding with_input first_input
input_u true w go t = t _ w
input_u false w go t = first w.input
  where
    first : (zs : List ℤ) → U (first_input zs w go)
    first [] = record { is = tt }
    first (z ∷ zs) = t z _

answer_u : (w : World) (go : List ℤ → World → Step) → ((zs : List ℤ) → On (go zs)) → U (with_answer w go)
unfolding with_answer first_answer
answer_u w go t = first w.answers
  where
    first : (rows : List (List ℤ)) → U (first_answer rows w go)
    first [] = record { is = tt }
    first (a ∷ rest) = t a _

pieces_u : (heap : ℕ) (ts : List Ty) (ps : List Piece) (w : World) (go : List Part → World → Step) → ((a : List Part) → On (go a)) →
    U (with_pieces heap ts ps w go)
unfolding with_pieces
pieces_u heap (ty ∷ ts) (plain z ∷ ps) w go t = pieces_u heap ts ps w _ (λ parts. t _)
pieces_u heap (ty ∷ ts) (new_in s ∷ ps) w go t = made_u heap _ w _ (λ n v. pieces_u heap ts ps v _ (λ parts. t _))
pieces_u heap [] ps w go t = t [] w
pieces_u heap (ty ∷ ts) [] w go t = t [] w

fresh_u : (heap ty : ℕ) (b : Option Binding) (frame : Frame) (w : World) (go : Option Value → Frame → World → Step) →
    ((a : Option Value) → OnFrame (go a)) → U (with_fresh heap ty b frame w go)
unfolding with_fresh
fresh_u heap ty None frame w go t = t None frame w
fresh_u heap ty (Some b) frame w go t = made_u heap _ w _ (λ n v. t _ _ v)

result_u : (heap : ℕ) (p : Program) (g : Func) (keys ss : List ℕ) (r : answers.Result) (frame : Frame) (w : World)
    (go : Option Value → Frame → World → Step) → ((a : Option Value) → OnFrame (go a)) → U (with_result heap p g keys ss r frame w go)
unfolding with_result
result_u heap p g keys ss nothing frame w go t = fresh_u heap _ _ frame w go t
result_u heap p g keys ss (piece (plain z)) frame w go t = t _ frame w
result_u heap p g keys ss (piece (new_in s)) frame w go t = made_u heap _ w _ (λ n v. t _ frame v)
result_u heap p g keys ss (case_with c zs ps) frame w go t =
    found_u _ w _ (option_found _ _) (λ v. pieces_u heap _ ps w _ (λ parts u. t _ frame u))

external_u : (heap : ℕ) (p : Program) (f : Func) (target : Option ℕ) (keys : List ℕ) (g : Func) (args : List Value) (frame : Frame)
    (w : World) → U (call_external heap p f target keys g args frame w)
unfolding call_external
external_u heap p f target keys g args frame w =
    found_u _ w _ (passed_found p g keys frame w.objects g.clause) (λ ns.
    found_u _ w _ (named_found keys frame (awaited_keys p g)) (λ ms.
    answer_u _ _ (λ zs w2. moved_u _ _ _ w2 _ (λ w3. moved_u _ _ _ w3 _ (λ w4.
    found_u _ w4 _ (bad_found w4.taken (fitting p g keys frame zs w4.objects)) (λ q.
    result_u heap p g keys q.answer.states q.answer.result frame _ _ (λ b fr w5. deliver_u f target b fr w5)))))))

back_u : (f : Func) (target : Option ℕ) (keys : List ℕ) (g : Func) (frame : Frame) (a : Step) → U a → U (back_in f target keys g frame a)
unfolding back_in
back_u f target keys g frame (leaves a kept w) h = deliver_u f target a _ _
back_u f target keys g frame (ends o w) h = record { is = h.is }
back_u f target keys g frame (goes fr w) h = record { is = tt }
back_u f target keys g frame (jumps c fr w) h = record { is = tt }

left_u : (bound : List Tok) (a : Step) → U a → U (left_block bound a)
unfolding left_block
left_u bound (goes frame w) h = so_u _ _ _ w _ (λ v. record { is = tt })
left_u bound (jumps c frame w) h = so_u _ _ _ w _ (λ v. record { is = tt })
left_u bound (leaves a kept w) h = record { is = tt }
left_u bound (ends o w) h = record { is = h.is }

then_u : (a : Step) (go : Frame → World → Step) → U a → OnFrame go → U (then_do a go)
unfolding then_do
then_u (goes frame w) go h t = t frame w
then_u (jumps c frame w) go h t = record { is = tt }
then_u (leaves a kept w) go h t = record { is = tt }
then_u (ends o w) go h t = record { is = h.is }

turn_u : (a : Step) (go : Frame → World → Step) → U a → OnFrame go → U (then_turn a go)
unfolding then_turn
turn_u (goes frame w) go h t = t frame w
turn_u (jumps true frame w) go h t = t frame w
turn_u (jumps false frame w) go h t = record { is = tt }
turn_u (leaves a kept w) go h t = record { is = tt }
turn_u (ends o w) go h t = record { is = h.is }

focus_u : (r : Setup) (g q : Reference) (a n : ℕ) (x : Step) → U x → U (focus_end r g q a n x)
unfolding focus_end focus_end_step
focus_u r g q a n (goes frame w) h =
    found_u _ w _ (focused_found r q n frame w.objects) (λ m.
    found_u _ w _ (lent_found g.key a frame w.objects) (λ b. record { is = tt }))
focus_u r g q a n (jumps c frame w) h = record { is = tt }
focus_u r g q a n (leaves b kept w) h = record { is = tt }
focus_u r g q a n (ends o w) h = record { is = h.is }

simple_u : (r : Setup) (f : Func) (s : Simple) (frame : Frame) (w : World) → U (does_simple r f s frame w)
unfolding made_in swap_step open_step
simple_u r f (set v e) frame w = found_u _ w _ (value_found r.program f e frame w.objects) (λ a. record { is = tt })
simple_u r f (core.input v more) frame w = input_u more w _ (λ z u. record { is = tt })
simple_u r f (print e) frame w = found_u _ w _ (count_found r.program f e frame w.objects) (λ z. record { is = tt })
simple_u r f (put x i e) frame w =
    found_u _ w _ (value_found r.program f e frame w.objects) (λ a.
    found_u _ w _ (touch_found r.program f x i frame w.objects) (λ n. so_u _ _ _ w _ (λ v. record { is = tt })))
simple_u r f (make x args) frame w =
    found_u _ w _ (option_found _ _) (λ q. so_u _ _ _ w _ (λ w1.
    operands_u r.program f args frame w1 _ (λ cells fr w2. made_u r.heap _ w2 _ (λ n w3. moved_u _ _ _ w3 _ (λ w4. record { is = tt })))))
simple_u r f (become x s) frame w = found_u _ w _ (object_found f any_state x frame w.objects) (λ n. record { is = tt })
simple_u r f (release x) frame w =
    found_u _ w _ (object_found f any_state x frame w.objects) (λ n. released_u r.program _ w _ (λ v. record { is = tt }))
simple_u r f (drop v) frame w = found_u _ w _ (option_found _ _) (λ a. dropped_u r.program _ w _ (λ u. record { is = tt }))
simple_u r f (own v o) frame w = operand_u r.program f o frame w _ (λ a fr u. fill_u f v a fr u)
simple_u r f (unpack x v) frame w =
    found_u _ w _ (option_found _ _) (λ q. found_u _ w _ (option_found _ _) (λ ss.
    found_u _ w _ (owned_in_found (frame.vars v)) (λ n.
    found_u _ w _ (then_found (owned_at _ w.objects n) _ (owned_found _ w.objects n) (λ m. states_found ss m)) (λ m. record { is = tt }))))
simple_u r f (build v c args) frame w =
    found_u _ w _ (option_found _ _) (λ t. so_u _ _ _ w _ (λ w1.
    operands_u r.program f args frame w1 _ (λ values fr w2.
    found_u _ w2 _ (parts_found values) (λ parts. packed_u _ fr w2 _ (λ ns w3. fill_u f v _ fr w3)))))
simple_u r f (swap x i v) frame w =
    found_u _ w _ (object_found f (λ q. permitted_in r.program q.type i) x frame w.objects) (λ n. found_u _ w _ (option_found _ _) (λ old. found_u _ w _ (option_found _ _) (λ new.
    so_u _ _ _ w _ (λ w1. moved_u _ _ _ w1 _ (λ w2. moved_u _ _ _ w2 _ (λ w3. record { is = tt }))))))
simple_u r f (open_into x vs) frame w =
    found_u _ w _ (option_found _ _) (λ q. found_u _ w _ (object_found f any_state x frame w.objects) (λ n.
    moved_u _ _ _ w _ (λ w1. released_u r.program _ w1 _ (λ w2. filled_u f vs _ frame w2 _ (λ fr. record { is = tt })))))
simple_u r f (adopt y x q) frame w =
    found_u _ w _ (object_found f (λ t. release_set r.program t.type) x frame w.objects) (λ n. found_u _ w _ (object_found f any_state q frame w.objects) (λ a.
    so_u _ _ _ w _ (λ w1. record { is = tt })))

abbrev Keeps : Meaning → Type 0
Keeps m = (f : Func) (ss : Stmts) → OnFrame (m f ss)

body_u : (r : Setup) (m : Meaning) → Keeps m → (f : Func) (target : Option ℕ) (keys : List ℕ) (g : Func) (args : List Value)
    (frame : Frame) (w : World) → U (call_body r m f target keys g args frame w)
unfolding call_body
body_u r m ks f target keys g args frame w =
    if_u (nat_lt frame.depth r.depth) _ _
    (found_u _ w _ (passed_found r.program g keys frame w.objects g.clause) (λ ns. back_u f target keys g frame _ (ks g g.body _ _)))
    (record { is = tt })

call_u : (e : Bool) (r : Setup) (m : Meaning) → Keeps m → (f : Func) (target : Option ℕ) (keys : List ℕ) (g : Func) (args : List Value)
    (frame : Frame) (w : World) → U (call_by e r m f target keys g args frame w)
unfolding call_by
call_u true r m ks f target keys g args frame w = external_u r.heap r.program f target keys g args frame w
call_u false r m ks f target keys g args frame w = body_u r m ks f target keys g args frame w

function_u : (r : Setup) (f : Func) (value : Option Operand) (a : Option Value) (frame : Frame) (w : World) → U (left_function r f value a frame w)
unfolding left_function
function_u r f value a frame w =
    found_u _ w _ (returned_found r.program f value _ frame w.objects) (λ kept. so_u _ _ _ w _ (λ w1. so_u _ _ _ w1 _ (λ w2. record { is = tt })))

mutual
  form_u : (r : Setup) (m : Meaning) → Keeps m → (f : Func) (s : Form) → OnFrame (does_form r m f s)
  form_u r m ks f (simple s) frame w = simple_u r f s frame w
  form_u r m ks f (call g target keys args) frame w =
      found_u _ w _ (option_found _ _) (λ g'. so_u _ _ _ w _ (λ w1.
      operands_u r.program f args frame w1 _ (λ values fr w2. spend_u w2 _ (λ w3. call_u g'.external r m ks f target keys (called_instance r.program g' keys fr w3.objects) values fr w3))))
  form_u r m ks f (choose e a b) frame w =
      found_u _ w _ (count_found r.program f e frame w.objects) (λ z. if_u (is_true z) _ _ (block_u r m ks f a frame w) (block_u r m ks f b frame w))
  form_u r m ks f (loop e b) frame w =
      spend_u w _ (λ w1. found_u _ w1 _ (count_found r.program f e frame w1.objects) (λ z.
      if_u (is_true z) _ (goes frame w1) (turn_u _ _ (block_u r m ks f b frame w1) (ks f (next 0 (loop e b) done))) (record { is = tt })))
  form_u r m ks f (switch v arms end) frame w =
      found_u _ w _ (option_found _ _) (λ t. found_u _ w _ (case_found (frame.vars v)) (λ c.
      opened_u _ _ frame w _ (λ w1. arm_u r m ks f c arms _ w1)))
  form_u r m ks f (focus y z b) frame w =
      found_u _ w _ (option_found _ _) (λ g. found_u _ w _ (option_found _ _) (λ q.
      found_u _ w _ (held_found g.key frame w.objects) (λ a. found_u _ w _ (guarded_found g y frame w.objects) (λ n.
      focus_u r g q _ _ _ (block_u r m ks f b _ _)))))
  form_u r m ks f (scope b) frame w = block_u r m ks f b frame w
  form_u r m ks f (return value) frame w =
      returned_u r.program f value frame w _ (λ a fr w1. function_u r f value a fr w1)
  form_u r m ks f (jump c) frame w = record { is = tt }

  block_u : (r : Setup) (m : Meaning) → Keeps m → (f : Func) (b : Block) → OnFrame (does_block r m f b)
  block_u r m ks f (block ss bound end) frame w = left_u bound _ (stmts_u r m ks f ss frame w)

  stmts_u : (r : Setup) (m : Meaning) → Keeps m → (f : Func) (ss : Stmts) → OnFrame (does_stmts r m f ss)
  stmts_u r m ks f done frame w = record { is = tt }
  stmts_u r m ks f (next at s rest) frame w = then_u _ _ (form_u r m ks f s frame w) (λ fr v. stmts_u r m ks f rest fr v)

  arm_u : (r : Setup) (m : Meaning) → Keeps m → (f : Func) (c : Case) (arms : Arms) → OnFrame (does_arm r m f c arms)
  arm_u r m ks f c no_arms frame w = record { is = tt }
  arm_u r m ks f c (arm n vs body rest) frame w =
      if_u (c.number == n) _ _ (filled_u f vs _ frame w _ (λ fr. block_u r m ks f body fr w)) (arm_u r m ks f c rest frame w)

less_u : (r : Setup) (n : ℕ) → Keeps (less r n)
less_u r zero f ss frame w = record { is = tt }
less_u r (suc n) f ss frame w = stmts_u r (less r n) (less_u r n) f ss frame w

-- ---- whole runs

main_u : (r : Setup) (fuel : ℕ) (o : Option Func) (w : World) → U (main_run r fuel o w)
main_u r fuel None w = record { is = tt }
main_u r fuel (Some f) w = stmts_u r (less r fuel) (less_u r fuel) f f.body (first_frame 1) w

-- a step from which a run is done leaves main
record Left (a : Step) : Type 0 where
  value : Option Value
  kept : List ℕ
  world : World
  is : a ≡ leaves value kept world

other_not : (o : Outcome) → IsOther o → o ≡ world.done → ⊥
other_not o h e = subst IsOther e h

left_of : (a : Step) → U a → (ran_of a).outcome ≡ world.done → Left a
left_of (goes fr w) h e = absurd (other_not (fault world.no_return None) tt e)
left_of (jumps c fr w) h e = absurd (other_not (fault world.no_return None) tt e)
left_of (leaves a ns w) h e = record { value = a; kept = ns; world = w; is = refl }
left_of (ends o w) h e = absurd (other_not o h.is e)

pub done_is_left : DoneIsMainsEnd
done_is_left p fuel heap depth zs answers e = by (depth == 0) e refl
  where
    w : World
    w = start fuel zs answers

    m : Step
    m = main_run (record { program = p; heap = heap; depth = depth }) fuel (slice_get p.fns p.main) w

    by : (b : Bool) → (ran_of (if b then ends depth_end w else m)).outcome ≡ world.done → (depth == 0) ≡ b →
        ComesToItsEnd p fuel heap depth zs answers
    by true e q = absurd (other_not depth_end tt e)
    by false e q =
        let l : Left m = left_of m (main_u _ fuel (slice_get p.fns p.main) w) e in
        record {
          value = l.value;
          kept = l.kept;
          world = l.world;
          leaves_main = l.is;
          is = ap (λ b. ran_of (if b then ends depth_end w else m)) q ∙ ap ran_of l.is;
        }

pub done_is_clean : DoneIsClean
done_is_clean p clean fuel heap depth zs answers e =
    let c : ComesToItsEnd p fuel heap depth zs answers = done_is_left p fuel heap depth zs answers e in
    subst IsClean (sym c.is) (clean fuel heap depth zs answers c.value c.kept c.world c.leaves_main)
