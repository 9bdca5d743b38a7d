-- The code of an expression, by what the expression is made of.
use Rattle.std.proofs.Common.{◌≡◌, ℕ, Bool, true, false, if◌then◌else◌, ℤ, pos, List, [], ◌∷◌, ◌++◌, Option, Some, None, slice_get, Result, Ok, Err, refl, sym, ap, ◌∙◌, subst, true≢false}
use Rattle.vlt_core.specs.Proper.{is_prefix, is_binary, has_arities}
use Rattle.vlt_ops.specs.declared.Op.{Op}
use Rattle.vlt_ops.specs.declared.Op.TheVariants as op
use Rattle.vlt_ops.specs.declared.TrapKind.{TrapKind}
use Rattle.vlt_ops.specs.Operator.{applied, is_in_range, is_true}
use Rattle.vlt_core.specs.Core as core
use Rattle.vlt_core.specs.Core.{Func, Program}
use Rattle.vlt_meaning.specs.World as source
use Rattle.vlt_meaning.specs.Found.{Found, ◌>>=◌, or_fault, Named, if_so}
use Rattle.vlt_meaning.specs.Values as meaning
use Rattle.vlt_meaning.specs.Objects.{object_at, named_in}
use Rattle.vlt_core.specs.Lookups.{Reference, reference_of, guarded_of}
use Rattle.vlt_meaning.specs.Values.{number_of}
use Rattle.c_meaning.specs.World.{World}
use Rattle.c_meaning.specs.Run.{Frame}
use Rattle.c_lower.specs.Slots.{Numbers, Sort, of_number, past, past_all, cell_sorts}
use Rattle.c_lower.specs.Slots.{var_at}
use Rattle.c_lower.specs.Guards.{unary_guards}
use Rattle.c_lower.specs.Expressions.{Code, value_of, into_temp, expr_code, binary_code}
use Rattle.c_syntax.specs.declared.program.CVar.{CVar}
use Rattle.c_syntax.specs.C as c
use Rattle.std.proofs.lemmas.List.{append_assoc}
use Rattle.c_meaning.specs.World.{trap}
use Rattle.c_meaning.specs.Run.{stops}
use Rattle.c_lower_worlds.specs.Operators.Operators.{is_strict, Does, takes}
use Rattle.c_lower_worlds.proofs.OfOperators.Operators.{unary_is_right}
use Rattle.c_lower_worlds.specs.Operators.Codes.{AreAlike, AreUpTo, Gives}
use Rattle.c_lower_worlds.specs.Operators.Sides.{ComesTo, AreInRange, both_make, wants, wants_right}
use Rattle.c_lower_worlds.specs.Operators.Expressions.{Follows, AreRightExpressions}
use Rattle.c_lower_worlds.proofs.OfOperators.Guards.{and_left, and_right}
use Rattle.c_lower_worlds.proofs.OfOperators.Codes.{codes_are_right, up_self, up_past, alike_self, alike_more, more_more, temp_gives, goes_then, stops_then}

-- ---- temps only go up

pub up_all : (u : Numbers) (ss : List Sort) → AreUpTo u (past_all u ss)
up_all u [] = up_self u
up_all u (s ∷ ss) = more_more (up_past u s) (up_all (past u s) ss)

binary_up : (o : Op) (left : Code) (right : Numbers → Code) (u : Numbers) → AreUpTo u left.next → ((v : Numbers) → AreUpTo v (right v).next) →
    AreUpTo u (binary_code o left right).next
binary_up op.And left right u l r = more_more l (more_more (up_past left.next of_number) (r (past left.next of_number)))
binary_up op.Or left right u l r = more_more l (more_more (up_past left.next of_number) (r (past left.next of_number)))
binary_up op.Negate left right u l r = more_more l (more_more (r left.next) (up_past _ of_number))
binary_up op.Not left right u l r = more_more l (more_more (r left.next) (up_past _ of_number))
binary_up op.Multiply left right u l r = more_more l (more_more (r left.next) (up_past _ of_number))
binary_up op.Divide left right u l r = more_more l (more_more (r left.next) (up_past _ of_number))
binary_up op.Remainder left right u l r = more_more l (more_more (r left.next) (up_past _ of_number))
binary_up op.Add left right u l r = more_more l (more_more (r left.next) (up_past _ of_number))
binary_up op.Subtract left right u l r = more_more l (more_more (r left.next) (up_past _ of_number))
binary_up op.Less left right u l r = more_more l (more_more (r left.next) (up_past _ of_number))
binary_up op.LessOrEqual left right u l r = more_more l (more_more (r left.next) (up_past _ of_number))
binary_up op.Greater left right u l r = more_more l (more_more (r left.next) (up_past _ of_number))
binary_up op.GreaterOrEqual left right u l r = more_more l (more_more (r left.next) (up_past _ of_number))
binary_up op.Equal left right u l r = more_more l (more_more (r left.next) (up_past _ of_number))
binary_up op.NotEqual left right u l r = more_more l (more_more (r left.next) (up_past _ of_number))
binary_up op.BitAnd left right u l r = more_more l (more_more (r left.next) (up_past _ of_number))
binary_up op.BitXor left right u l r = more_more l (more_more (r left.next) (up_past _ of_number))
binary_up op.BitOr left right u l r = more_more l (more_more (r left.next) (up_past _ of_number))

pub expr_up : (p : Program) (f : Func) (e : core.Expr) (u : Numbers) → AreUpTo u (expr_code p f u e).next
expr_up p f (core.number z) u = up_self u
expr_up p f (core.truth b) u = up_self u
expr_up p f (core.var v) u = up_self u
expr_up p f (core.field x i) u = up_all u (cell_sorts p f x i)
expr_up p f (core.unary o a) u = more_more (expr_up p f a u) (up_past _ of_number)
expr_up p f (core.binary o a b) u = binary_up o (expr_code p f u a) (λ v. expr_code p f v b) u (expr_up p f a u) (λ v. expr_up p f b v)

-- ---- a step that can't be done is no trap

record NoTrap {A : Type 0} (m : Found A) : Type 0 where
  never : (k : TrapKind) → m ≡ Err (source.trap k) → ⊥

found_no_trap : {A : Type 0} (a : A) → NoTrap (Ok a)
found_no_trap a = record { never = λ k e. never a k e }
  where
    never : {A : Type 0} (a : A) (k : TrapKind) → (let r : Found A = Ok a in r ≡ Err (source.trap k)) → ⊥
    never a k e = cc

fault_no_trap : (A : Type 0) (reason : source.Reason) (object : Option ℕ) → (let r : Found A = Err (source.fault reason object) in NoTrap r)
fault_no_trap A reason object = record { never = λ k e. never k e }
  where
    never : (k : TrapKind) → (let r : Found A = Err (source.fault reason object) in r ≡ Err (source.trap k)) → ⊥
    never k e = cc

then_no_trap : {A B : Type 0} (m : Found A) (go : A → Found B) → NoTrap m → ((a : A) → NoTrap (go a)) → NoTrap (m >>= go)
then_no_trap (Ok a) go h more = more a
then_no_trap (Err o) go h more = record { never = λ k e. h.never k (same o k e) }
  where
    same : {A B : Type 0} (o : source.Outcome) (k : TrapKind) → (let r : Found B = Err o in r ≡ Err (source.trap k)) →
        (let r : Found A = Err o in r ≡ Err (source.trap k))
    same o k e = cc

or_fault_no_trap : {A : Type 0} (reason : source.Reason) (o : Option A) → NoTrap (or_fault reason o)
or_fault_no_trap {A} reason None = fault_no_trap A reason None
or_fault_no_trap {A} reason (Some a) = found_no_trap a

if_so_no_trap : (test : Bool) (reason : source.Reason) (n : Named) → NoTrap (if_so test reason n)
if_so_no_trap true reason n = found_no_trap n
if_so_no_trap false reason n = fault_no_trap Named reason (Some n.number)

number_no_trap : (a : source.Value) → NoTrap (meaning.number_in a)
number_no_trap (source.one (source.number z)) = found_no_trap z
number_no_trap (source.one (source.reference n)) = fault_no_trap ℤ source.missing None
number_no_trap (source.one (source.owned n)) = fault_no_trap ℤ source.missing None
number_no_trap (source.of_case k parts keys) = fault_no_trap ℤ source.missing None

reference_no_trap : (o : Option source.Value) → NoTrap (meaning.reference_in o)
reference_no_trap None = fault_no_trap ℕ source.no_value None
reference_no_trap (Some (source.one (source.reference n))) = found_no_trap n
reference_no_trap (Some (source.one (source.number z))) = fault_no_trap ℕ source.missing None
reference_no_trap (Some (source.one (source.owned n))) = fault_no_trap ℕ source.missing None
reference_no_trap (Some (source.of_case k parts keys)) = fault_no_trap ℕ source.missing None

object_no_trap : (objects : List source.Object) (n : ℕ) → NoTrap (object_at objects n)
object_no_trap objects n = by (slice_get objects n)
  where
    by : (o : Option source.Object) → NoTrap (named_in n o)
    by None = fault_no_trap Named source.missing (Some n)
    by (Some o) = found_no_trap _

held_no_trap : (k : ℕ) (s : source.Frame) (objects : List source.Object) → NoTrap (meaning.held_object k s objects)
held_no_trap k s objects =
    then_no_trap _ _ (or_fault_no_trap source.no_value (s.keys k))
    (λ n. then_no_trap _ _ (object_no_trap objects n) (λ m. if_so_no_trap _ source.not_held m))

after_no_trap : (r q : Option Reference) (x : ℕ) (states : Reference → core.States) (s : source.Frame) (objects : List source.Object) →
    NoTrap (meaning.object_after r q x states s objects)
after_no_trap (Some r) q x states s objects =
    then_no_trap _ _
    (then_no_trap _ _ (held_no_trap r.key s objects)
    (λ m. then_no_trap _ _ (reference_no_trap (s.vars x)) (λ n. if_so_no_trap _ source.other_object m)))
    (λ m. if_so_no_trap _ source.wrong_state m)
after_no_trap None (Some q) x states s objects =
    then_no_trap _ _
    (then_no_trap _ _ (held_no_trap q.key s objects)
    (λ a. then_no_trap _ _ (reference_no_trap (s.vars x))
    (λ n. then_no_trap _ _ (object_no_trap objects n) (λ m. if_so_no_trap _ source.not_guarded m))))
    (λ m. if_so_no_trap _ source.wrong_state m)
after_no_trap None None x states s objects = fault_no_trap Named source.missing None

field_no_trap : (p : Program) (f : Func) (x i : ℕ) (s : source.Frame) (objects : List source.Object) →
    NoTrap (number_of p f (core.field x i) s objects)
field_no_trap p f x i s objects =
    then_no_trap _ _
    (then_no_trap _ _ (after_no_trap (reference_of f x) (guarded_of f x) x _ s objects) (λ m. or_fault_no_trap source.missing (slice_get m.object.cells i)))
    number_no_trap

var_no_trap : (p : Program) (f : Func) (v : ℕ) (s : source.Frame) (objects : List source.Object) → NoTrap (number_of p f (core.var v) s objects)
var_no_trap p f v s objects = then_no_trap _ _ (or_fault_no_trap source.no_value (s.vars v)) number_no_trap

-- ---- from how a step ends to what its code does

ends_alike : (o : source.Outcome) (x : Code) (u : Numbers) (g : Frame) (w : World) →
    ((k : TrapKind) → o ≡ source.trap k → Does x.stmts g w (stops (trap k) w)) → Follows (Err o) x u g w
ends_alike source.done x u g w h = tt
ends_alike (source.trap k) x u g w h = h k refl
ends_alike source.fuel_end x u g w h = tt
ends_alike source.heap_end x u g w h = tt
ends_alike source.depth_end x u g w h = tt
ends_alike source.input_end x u g w h = tt
ends_alike source.answers_end x u g w h = tt
ends_alike (source.bad_answer n) x u g w h = tt
ends_alike (source.fault r n) x u g w h = tt

-- what the operator makes, as a step
as_step : Result ℤ TrapKind → Found ℤ
as_step (Ok z) = Ok z
as_step (Err k) = Err (source.trap k)

follows_result : (r : Result ℤ TrapKind) (x : Code) (u : Numbers) (g : Frame) (w : World) → ComesTo x u g w r → Follows (as_step r) x u g w
unfolding as_step
follows_result (Ok z) x u g w h = h
follows_result (Err k) x u g w h = h

-- and back: a step that ends in a trap
trapped : (r : Found ℤ) (x : Code) (u : Numbers) (g : Frame) (w : World) (k : TrapKind) → r ≡ Err (source.trap k) → Follows r x u g w →
    Does x.stmts g w (stops (trap k) w)
trapped r x u g w k e h = subst (λ r. Follows r x u g w) e h

-- ---- numbers, and sides

or_trap_number : (r : Result ℤ TrapKind) → (meaning.or_trap r >>= meaning.number_in) ≡ as_step r
unfolding as_step
or_trap_number (Ok z) = refl
or_trap_number (Err k) = refl

-- what a strict operator is in the source, and in the law on codes
record IsStrictOp (o : Op) : Type 0 where
  source : (x : ℤ) (b : Found source.Value) →
      meaning.value_of_both o x b ≡ (b >>= (λ v. meaning.number_in v >>= (λ y. meaning.or_trap (applied o x y))))
  makes : (x y : ℤ) → both_make o x (Ok y) ≡ applied o x y
  traps : (x : ℤ) (k : TrapKind) → both_make o x (Err k) ≡ Err k
  wants : (x : ℤ) → wants o (Ok x) ≡ true
  binary : is_binary o ≡ true

strict_op : (o : Op) → is_strict o ≡ true → IsStrictOp o
strict_op op.Multiply h = record { source = λ x b. refl; makes = λ x y. refl; traps = λ x k. refl; wants = λ x. refl; binary = refl }
strict_op op.Divide h = record { source = λ x b. refl; makes = λ x y. refl; traps = λ x k. refl; wants = λ x. refl; binary = refl }
strict_op op.Remainder h = record { source = λ x b. refl; makes = λ x y. refl; traps = λ x k. refl; wants = λ x. refl; binary = refl }
strict_op op.Add h = record { source = λ x b. refl; makes = λ x y. refl; traps = λ x k. refl; wants = λ x. refl; binary = refl }
strict_op op.Subtract h = record { source = λ x b. refl; makes = λ x y. refl; traps = λ x k. refl; wants = λ x. refl; binary = refl }
strict_op op.Less h = record { source = λ x b. refl; makes = λ x y. refl; traps = λ x k. refl; wants = λ x. refl; binary = refl }
strict_op op.LessOrEqual h = record { source = λ x b. refl; makes = λ x y. refl; traps = λ x k. refl; wants = λ x. refl; binary = refl }
strict_op op.Greater h = record { source = λ x b. refl; makes = λ x y. refl; traps = λ x k. refl; wants = λ x. refl; binary = refl }
strict_op op.GreaterOrEqual h = record { source = λ x b. refl; makes = λ x y. refl; traps = λ x k. refl; wants = λ x. refl; binary = refl }
strict_op op.Equal h = record { source = λ x b. refl; makes = λ x y. refl; traps = λ x k. refl; wants = λ x. refl; binary = refl }
strict_op op.NotEqual h = record { source = λ x b. refl; makes = λ x y. refl; traps = λ x k. refl; wants = λ x. refl; binary = refl }
strict_op op.BitAnd h = record { source = λ x b. refl; makes = λ x y. refl; traps = λ x k. refl; wants = λ x. refl; binary = refl }
strict_op op.BitXor h = record { source = λ x b. refl; makes = λ x y. refl; traps = λ x k. refl; wants = λ x. refl; binary = refl }
strict_op op.BitOr h = record { source = λ x b. refl; makes = λ x y. refl; traps = λ x k. refl; wants = λ x. refl; binary = refl }
strict_op op.Negate h = absurd (true≢false (sym h))
strict_op op.Not h = absurd (true≢false (sym h))
strict_op op.And h = absurd (true≢false (sym h))
strict_op op.Or h = absurd (true≢false (sym h))

-- both sides of an operator, as they are in the source and in code
record Sides (left : Code) (right : Numbers → Code) (u : Numbers) (g : Frame) (w : World) (va vb : Found source.Value) : Type 0 where
  up_left : AreUpTo u left.next
  up_right : (v : Numbers) → AreUpTo v (right v).next
  range_left : (z : ℤ) → (va >>= meaning.number_in) ≡ Ok z → is_in_range z ≡ true
  range_right : (z : ℤ) → (vb >>= meaning.number_in) ≡ Ok z → is_in_range z ≡ true
  left_is : Follows (va >>= meaning.number_in) left u g w
  right_is : (h : Frame) (v : Numbers) → AreUpTo u v → AreAlike u g h → Follows (vb >>= meaning.number_in) (right v) v h w

in_range_of : (z : ℤ) → is_in_range z ≡ true → AreInRange (Ok z)
in_range_of z r y e = subst (λ z. is_in_range z ≡ true) (same e) r
  where
    same : (let r : Result ℤ TrapKind = Ok z in r ≡ Ok y) → z ≡ y
    same e = cc

trap_in_range : (k : TrapKind) → AreInRange (Err k)
trap_in_range k y e = absurd (never e)
  where
    never : (let r : Result ℤ TrapKind = Err k in r ≡ Ok y) → ⊥
    never e = cc

-- the left side traps
left_traps : (o : Op) (left : Code) (right : Numbers → Code) (u : Numbers) (g : Frame) (w : World) (k : TrapKind) → is_binary o ≡ true →
    AreUpTo u left.next → ((v : Numbers) → AreUpTo v (right v).next) → Does left.stmts g w (stops (trap k) w) →
    Does (binary_code o left right).stmts g w (stops (trap k) w)
left_traps o left right u g w k b up_left up_right d =
    codes_are_right o left right u g w (Err k) (Err k) b (trap_in_range k) (trap_in_range k) up_right up_left d
    (λ e. absurd (true≢false (sym e)))

strict_follows : (o : Op) (left : Code) (right : Numbers → Code) (u : Numbers) (g : Frame) (w : World) (x : ℤ) (vb : Found source.Value) →
    IsStrictOp o → Sides left right u g w (Ok (source.one (source.number x))) vb →
    Follows ((vb >>= (λ v. meaning.number_in v >>= (λ y. meaning.or_trap (applied o x y)))) >>= meaning.number_in) (binary_code o left right) u g w
strict_follows o left right u g w x (Err e) so sides =
    ends_alike e _ u g w (λ k q.
    subst (λ r. ComesTo (binary_code o left right) u g w r) (so.traps x k)
    (codes_are_right o left right u g w (Ok x) (Err k) so.binary (in_range_of x (sides.range_left x refl)) (trap_in_range k) sides.up_right sides.up_left
    sides.left_is (λ wanted h v m a. trapped (Err e) (right v) v h w k (ap Err q) (sides.right_is h v m a))))
strict_follows o left right u g w x (Ok (source.one (source.number y))) so sides =
    subst (λ r. Follows r (binary_code o left right) u g w) (sym (or_trap_number (applied o x y)))
    (follows_result (applied o x y) (binary_code o left right) u g w
    (subst (λ r. ComesTo (binary_code o left right) u g w r) (so.makes x y)
    (codes_are_right o left right u g w (Ok x) (Ok y) so.binary (in_range_of x (sides.range_left x refl)) (in_range_of y (sides.range_right y refl))
    sides.up_right sides.up_left sides.left_is (λ wanted h v m a. sides.right_is h v m a))))
strict_follows o left right u g w x (Ok (source.one (source.reference n))) so sides = tt
strict_follows o left right u g w x (Ok (source.one (source.owned n))) so sides = tt
strict_follows o left right u g w x (Ok (source.of_case k parts keys)) so sides = tt

-- the right side of `&&` and `||`, where it is run
right_follows : (o : Op) (left : Code) (right : Numbers → Code) (u : Numbers) (g : Frame) (w : World) (x : ℤ) (vb : Found source.Value) →
    is_binary o ≡ true → ((y : Result ℤ TrapKind) → both_make o x y ≡ y) → Sides left right u g w (Ok (source.one (source.number x))) vb →
    Follows (vb >>= meaning.number_in) (binary_code o left right) u g w
right_follows o left right u g w x (Err e) b makes sides =
    ends_alike e _ u g w (λ k q.
    subst (λ r. ComesTo (binary_code o left right) u g w r) (makes (Err k))
    (codes_are_right o left right u g w (Ok x) (Err k) b (in_range_of x (sides.range_left x refl)) (trap_in_range k) sides.up_right sides.up_left
    sides.left_is (λ wanted h v m a. trapped (Err e) (right v) v h w k (ap Err q) (sides.right_is h v m a))))
right_follows o left right u g w x (Ok (source.one (source.number y))) b makes sides =
    subst (λ r. ComesTo (binary_code o left right) u g w r) (makes (Ok y))
    (codes_are_right o left right u g w (Ok x) (Ok y) b (in_range_of x (sides.range_left x refl)) (in_range_of y (sides.range_right y refl))
    sides.up_right sides.up_left sides.left_is (λ wanted h v m a. sides.right_is h v m a))
right_follows o left right u g w x (Ok (source.one (source.reference n))) b makes sides = tt
right_follows o left right u g w x (Ok (source.one (source.owned n))) b makes sides = tt
right_follows o left right u g w x (Ok (source.of_case k parts keys)) b makes sides = tt

-- the left side decides
left_decides : (o : Op) (left : Code) (right : Numbers → Code) (u : Numbers) (g : Frame) (w : World) (x : ℤ) (vb : Found source.Value) →
    is_binary o ≡ true → both_make o x (Ok x) ≡ Ok x → wants_right o x ≡ false → Sides left right u g w (Ok (source.one (source.number x))) vb →
    Gives (binary_code o left right) u g w x
left_decides o left right u g w x vb b makes unwanted sides =
    subst (λ r. ComesTo (binary_code o left right) u g w r) makes
    (codes_are_right o left right u g w (Ok x) (Ok x) b (in_range_of x (sides.range_left x refl)) (in_range_of x (sides.range_left x refl))
    sides.up_right sides.up_left sides.left_is (λ wanted h v m a. absurd (true≢false (sym wanted ∙ unwanted))))

and_follows : (t : Bool) (left : Code) (right : Numbers → Code) (u : Numbers) (g : Frame) (w : World) (x : ℤ) (vb : Found source.Value) →
    is_true x ≡ t → Sides left right u g w (Ok (source.one (source.number x))) vb →
    Follows ((if t then vb else meaning.is_number x) >>= meaning.number_in) (binary_code op.And left right) u g w
and_follows true left right u g w x vb e sides = right_follows op.And left right u g w x vb refl (λ y. rw e refl) sides
and_follows false left right u g w x vb e sides = left_decides op.And left right u g w x vb refl (rw e refl) e sides

or_follows : (t : Bool) (left : Code) (right : Numbers → Code) (u : Numbers) (g : Frame) (w : World) (x : ℤ) (vb : Found source.Value) →
    is_true x ≡ t → Sides left right u g w (Ok (source.one (source.number x))) vb →
    Follows ((if t then meaning.is_number x else vb) >>= meaning.number_in) (binary_code op.Or left right) u g w
or_follows true left right u g w x vb e sides = left_decides op.Or left right u g w x vb refl (rw e refl) (rw e refl) sides
or_follows false left right u g w x vb e sides = right_follows op.Or left right u g w x vb refl (λ y. rw e refl) sides

both_follow : (o : Op) (left : Code) (right : Numbers → Code) (u : Numbers) (g : Frame) (w : World) (x : ℤ) (vb : Found source.Value) →
    is_binary o ≡ true → Sides left right u g w (Ok (source.one (source.number x))) vb →
    Follows (meaning.value_of_both o x vb >>= meaning.number_in) (binary_code o left right) u g w
both_follow op.And left right u g w x vb b sides = and_follows (is_true x) left right u g w x vb refl sides
both_follow op.Or left right u g w x vb b sides = or_follows (is_true x) left right u g w x vb refl sides
both_follow op.Negate left right u g w x vb b sides = absurd (true≢false (sym b))
both_follow op.Not left right u g w x vb b sides = absurd (true≢false (sym b))
both_follow op.Multiply left right u g w x vb b sides = strict_follows op.Multiply left right u g w x vb (strict_op op.Multiply refl) sides
both_follow op.Divide left right u g w x vb b sides = strict_follows op.Divide left right u g w x vb (strict_op op.Divide refl) sides
both_follow op.Remainder left right u g w x vb b sides = strict_follows op.Remainder left right u g w x vb (strict_op op.Remainder refl) sides
both_follow op.Add left right u g w x vb b sides = strict_follows op.Add left right u g w x vb (strict_op op.Add refl) sides
both_follow op.Subtract left right u g w x vb b sides = strict_follows op.Subtract left right u g w x vb (strict_op op.Subtract refl) sides
both_follow op.Less left right u g w x vb b sides = strict_follows op.Less left right u g w x vb (strict_op op.Less refl) sides
both_follow op.LessOrEqual left right u g w x vb b sides = strict_follows op.LessOrEqual left right u g w x vb (strict_op op.LessOrEqual refl) sides
both_follow op.Greater left right u g w x vb b sides = strict_follows op.Greater left right u g w x vb (strict_op op.Greater refl) sides
both_follow op.GreaterOrEqual left right u g w x vb b sides = strict_follows op.GreaterOrEqual left right u g w x vb (strict_op op.GreaterOrEqual refl) sides
both_follow op.Equal left right u g w x vb b sides = strict_follows op.Equal left right u g w x vb (strict_op op.Equal refl) sides
both_follow op.NotEqual left right u g w x vb b sides = strict_follows op.NotEqual left right u g w x vb (strict_op op.NotEqual refl) sides
both_follow op.BitAnd left right u g w x vb b sides = strict_follows op.BitAnd left right u g w x vb (strict_op op.BitAnd refl) sides
both_follow op.BitXor left right u g w x vb b sides = strict_follows op.BitXor left right u g w x vb (strict_op op.BitXor refl) sides
both_follow op.BitOr left right u g w x vb b sides = strict_follows op.BitOr left right u g w x vb (strict_op op.BitOr refl) sides

binary_follows : (o : Op) (left : Code) (right : Numbers → Code) (u : Numbers) (g : Frame) (w : World) (va vb : Found source.Value) →
    is_binary o ≡ true → Sides left right u g w va vb →
    Follows ((va >>= (λ v. meaning.number_in v >>= (λ x. meaning.value_of_both o x vb))) >>= meaning.number_in) (binary_code o left right) u g w
binary_follows o left right u g w (Err e) vb b sides =
    ends_alike e _ u g w (λ k q.
    left_traps o left right u g w k b sides.up_left sides.up_right (trapped (Err e) left u g w k (ap Err q) sides.left_is))
binary_follows o left right u g w (Ok (source.one (source.number x))) vb b sides = both_follow o left right u g w x vb b sides
binary_follows o left right u g w (Ok (source.one (source.reference n))) vb b sides = tt
binary_follows o left right u g w (Ok (source.one (source.owned n))) vb b sides = tt
binary_follows o left right u g w (Ok (source.of_case k parts keys)) vb b sides = tt

-- ---- prefix operators

prefix_code : Op → Code → Code
prefix_code o x = into_temp (x.stmts ++ unary_guards o (value_of x)) x.next (c.unary o (value_of x))

prefix_comes : (o : Op) (x : Code) (u : Numbers) (g : Frame) (w : World) (z : ℤ) → is_prefix o ≡ true → is_in_range z ≡ true →
    AreUpTo u x.next → (h : Gives x u g w z) → ComesTo (prefix_code o x) u g w (applied o z (pos 0))
unfolding prefix_code
prefix_comes o x u g w z prefix r m h = finish (applied o z (pos 0)) whole_code
  where
    a : c.Expr
    a = value_of x

    temp : CVar
    temp = var_at x.next of_number

    operator : Does (unary_guards o a ++ c.set temp (c.unary o a) ∷ []) h.to w (takes temp (applied o z (pos 0)) h.to w)
    operator = unary_is_right o a z temp h.to w prefix (record { value = h.stays h.to (alike_self x.next h.to); range = r })

    whole_code : Does ((x.stmts ++ unary_guards o a) ++ c.set temp (c.unary o a) ∷ []) g w (takes temp (applied o z (pos 0)) h.to w)
    whole_code =
        subst (λ xs. Does xs g w (takes temp (applied o z (pos 0)) h.to w))
        (sym (append_assoc x.stmts (unary_guards o a) (c.set temp (c.unary o a) ∷ [])))
        (goes_then x.stmts (unary_guards o a ++ c.set temp (c.unary o a) ∷ []) g h.to w _ h.does operator)

    finish : (r : Result ℤ TrapKind) → Does ((x.stmts ++ unary_guards o a) ++ c.set temp (c.unary o a) ∷ []) g w (takes temp r h.to w) →
        ComesTo (prefix_code o x) u g w r
    finish (Ok z) d = temp_gives (x.stmts ++ unary_guards o a) (c.unary o a) u x.next g h.to w z m h.alike d
    finish (Err k) d = d

prefix_stops : (o : Op) (x : Code) (g : Frame) (w : World) (k : TrapKind) → Does x.stmts g w (stops (trap k) w) →
    Does (prefix_code o x).stmts g w (stops (trap k) w)
unfolding prefix_code
prefix_stops o x g w k d =
    stops_then (x.stmts ++ unary_guards o (value_of x)) _ g w (trap k) (stops_then x.stmts (unary_guards o (value_of x)) g w (trap k) d)

prefix_follows : (o : Op) (x : Code) (u : Numbers) (g : Frame) (w : World) (va : Found source.Value) → is_prefix o ≡ true → AreUpTo u x.next →
    ((z : ℤ) → (va >>= meaning.number_in) ≡ Ok z → is_in_range z ≡ true) → Follows (va >>= meaning.number_in) x u g w →
    Follows ((va >>= (λ v. meaning.number_in v >>= (λ z. meaning.or_trap (applied o z (pos 0))))) >>= meaning.number_in) (prefix_code o x) u g w
prefix_follows o x u g w (Err e) prefix m r h =
    ends_alike e _ u g w (λ k q. prefix_stops o x g w k (trapped (Err e) x u g w k (ap Err q) h))
prefix_follows o x u g w (Ok (source.one (source.number z))) prefix m r h =
    subst (λ r. Follows r (prefix_code o x) u g w) (sym (or_trap_number (applied o z (pos 0))))
    (follows_result (applied o z (pos 0)) (prefix_code o x) u g w (prefix_comes o x u g w z prefix (r z refl) m h))
prefix_follows o x u g w (Ok (source.one (source.reference n))) prefix m r h = tt
prefix_follows o x u g w (Ok (source.one (source.owned n))) prefix m r h = tt
prefix_follows o x u g w (Ok (source.of_case k parts keys)) prefix m r h = tt

-- ---- all expressions

leaf_follows : (r : Found ℤ) (x : Code) (u : Numbers) (g : Frame) (w : World) → NoTrap r → ((z : ℤ) → r ≡ Ok z → Gives x u g w z) → Follows r x u g w
leaf_follows (Ok z) x u g w untrapped h = h z refl
leaf_follows (Err o) x u g w untrapped h = ends_alike o x u g w (λ k q. absurd (untrapped.never k (ap Err q)))

pub expressions_are_right : AreRightExpressions
unfolding prefix_code
expressions_are_right p f s objects t frame w leaves (core.number z) arity ranges u g m a =
    record { to = g; does = λ r rest n. refl; alike = alike_self u g; stays = λ h b. refl }
expressions_are_right p f s objects t frame w leaves (core.truth true) arity ranges u g m a =
    record { to = g; does = λ r rest n. refl; alike = alike_self u g; stays = λ h b. refl }
expressions_are_right p f s objects t frame w leaves (core.truth false) arity ranges u g m a =
    record { to = g; does = λ r rest n. refl; alike = alike_self u g; stays = λ h b. refl }
expressions_are_right p f s objects t frame w leaves (core.var v) arity ranges u g m a =
    leaf_follows (number_of p f (core.var v) s objects) (expr_code p f u (core.var v)) u g w (var_no_trap p f v s objects)
    (λ z e. record {
      to = g;
      does = λ r rest n. refl;
      alike = alike_self u g;
      stays = λ h b. leaves.vars v z e u h (alike_more m a b);
    })
expressions_are_right p f s objects t frame w leaves (core.field x i) arity ranges u g m a =
    leaf_follows (number_of p f (core.field x i) s objects) (expr_code p f u (core.field x i)) u g w (field_no_trap p f x i s objects)
    (λ z e. leaves.fields x i z e u g m a)
expressions_are_right p f s objects t frame w leaves (core.unary o e) arity ranges u g m a =
    prefix_follows o (expr_code p f u e) u g w (meaning.value_of p f e s objects) (and_left (is_prefix o) (has_arities e) arity) (expr_up p f e u)
    ranges.0
    (expressions_are_right p f s objects t frame w leaves e (and_right (is_prefix o) (has_arities e) arity) ranges.1 u g m a)
expressions_are_right p f s objects t frame w leaves (core.binary o a b) arity ranges u g m alike =
    binary_follows o (expr_code p f u a) (λ v. expr_code p f v b) u g w (meaning.value_of p f a s objects) (meaning.value_of p f b s objects)
    (and_left (is_binary o) _ arity)
    (record {
      up_left = expr_up p f a u;
      up_right = λ v. expr_up p f b v;
      range_left = ranges.0.0;
      range_right = ranges.1.0;
      left_is = expressions_are_right p f s objects t frame w leaves a (and_left (has_arities a) (has_arities b) (and_right (is_binary o) _ arity)) ranges.0.1 u g m alike;
      right_is = λ h v k b2. expressions_are_right p f s objects t frame w leaves b
          (and_right (has_arities a) (has_arities b) (and_right (is_binary o) _ arity)) ranges.1.1 v h (more_more m k) (alike_more m alike b2);
    })
