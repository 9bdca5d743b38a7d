-- How the number of an expression may fail, and its code with what follows it.
use Rattle.std.proofs.Common.{◌≡◌, ◌+◌, ℕ, Bool, true, false, if◌then◌else◌, ℤ, pos, List, ◌++◌, slice_get, Result, Ok, Err, refl, sym, ap, ◌∙◌, subst}
use Rattle.std.proofs.lemmas.Bool.{false≢true}
use Rattle.vlt_ops.specs.declared.TrapKind.{TrapKind}
use Rattle.vlt_ops.specs.declared.Op.TheVariants as op
use Rattle.vlt_ops.specs.Operator.{applied, is_true, bool_number}
use Rattle.vlt_core.specs.Core as core
use Rattle.vlt_core.specs.Core.{Func, Program}
use Rattle.vlt_core.specs.KindedBodies.{ends}
use Rattle.vlt_meaning.specs.World as source
use Rattle.vlt_meaning.specs.Found.{Found, ◌>>=◌, or_fault}
use Rattle.vlt_meaning.specs.Values as values
use Rattle.vlt_ops.specs.declared.Op.{Op}
use Rattle.vlt_core.specs.Lookups.{reference_of, guarded_of, permitted_in}
use Rattle.vlt_meaning.specs.Values.{number_of}
use Rattle.vlt_meaning.specs.Step as step
use Rattle.c_syntax.specs.View.{stmts_made}
use Rattle.c_syntax.specs.C as syntax
use Rattle.c_meaning.specs.World as cw
use Rattle.c_meaning.specs.Values as cvalues
use Rattle.c_meaning.specs.Run as crun
use Rattle.c_lower.specs.Slots.{Numbers, first_temps}
use Rattle.c_lower.specs.Expressions.{Code, value_of}
use Rattle.c_lower_worlds.specs.Operators.Codes.{AreUpTo, AreAlike}
use Rattle.c_lower_worlds.specs.Operators.Expressions.{Follows}
use Rattle.c_lower_worlds.proofs.OfOperators.Codes.{alike_more, alike_self}
use Rattle.c_lower_worlds.specs.Worlds.{Registers, c_world}
use Rattle.c_lower_worlds.specs.Shapes.{types_of}
use Rattle.c_lower_worlds.specs.Same.{Same}
use Rattle.c_lower_worlds.specs.SameStatements.{Begins}
use Rattle.c_lower_worlds.proofs.StatementLists.{both_run, then_goes, then_stops}
use Rattle.c_lower_worlds.proofs.OfNaming.FoundObjects.{OnlyFaults, or_faults, after_faults}
use Rattle.c_lower_worlds.proofs.FrameChanges.{stands_alike}

-- in a trap or a fault
abbrev pub EndsPlainly : {A : Type 0} → Found A → Type 0
EndsPlainly (Ok a) = Unit {0}
EndsPlainly (Err (source.trap k)) = Unit {0}
EndsPlainly (Err (source.fault r n)) = Unit {0}
EndsPlainly (Err o) = ⊥

then_plainly : {A B : Type 0} (m : Found A) (go : A → Found B) → EndsPlainly m → ((a : A) → EndsPlainly (go a)) → EndsPlainly (m >>= go)
then_plainly (Ok a) go h more = more a
then_plainly (Err (source.trap k)) go h more = tt
then_plainly (Err (source.fault r n)) go h more = tt
then_plainly (Err source.done) go h more = absurd h
then_plainly (Err source.fuel_end) go h more = absurd h
then_plainly (Err source.heap_end) go h more = absurd h
then_plainly (Err source.depth_end) go h more = absurd h
then_plainly (Err source.input_end) go h more = absurd h
then_plainly (Err source.answers_end) go h more = absurd h
then_plainly (Err (source.bad_answer i)) go h more = absurd h

faults_plainly : {A : Type 0} (m : Found A) → OnlyFaults m → EndsPlainly m
faults_plainly (Ok a) h = tt
faults_plainly (Err (source.trap k)) h = tt
faults_plainly (Err (source.fault r n)) h = tt
faults_plainly (Err source.done) h = absurd (false≢true h)
faults_plainly (Err source.fuel_end) h = absurd (false≢true h)
faults_plainly (Err source.heap_end) h = absurd (false≢true h)
faults_plainly (Err source.depth_end) h = absurd (false≢true h)
faults_plainly (Err source.input_end) h = absurd (false≢true h)
faults_plainly (Err source.answers_end) h = absurd (false≢true h)
faults_plainly (Err (source.bad_answer i)) h = absurd (false≢true h)

number_plainly : (a : source.Value) → EndsPlainly (values.number_in a)
number_plainly (source.one (source.number z)) = tt
number_plainly (source.one (source.reference n)) = tt
number_plainly (source.one (source.owned n)) = tt
number_plainly (source.of_case k parts keys) = tt

trap_plainly : (r : Result ℤ TrapKind) → EndsPlainly (values.or_trap r)
trap_plainly (Ok z) = tt
trap_plainly (Err k) = tt

both_plainly : (o : Op) (x : ℤ) (b : Found source.Value) → EndsPlainly b → EndsPlainly (values.value_of_both o x b)
both_plainly op.And x b h = by (is_true x)
  where
    by : (t : Bool) → EndsPlainly (if t then b else values.is_number x)
    by true = h
    by false = tt
both_plainly op.Or x b h = by (is_true x)
  where
    by : (t : Bool) → EndsPlainly (if t then values.is_number x else b)
    by true = tt
    by false = h
both_plainly op.Multiply x b h = then_plainly b _ h (λ v. then_plainly (values.number_in v) _ (number_plainly v) (λ z. trap_plainly (applied op.Multiply x z)))
both_plainly op.Divide x b h = then_plainly b _ h (λ v. then_plainly (values.number_in v) _ (number_plainly v) (λ z. trap_plainly (applied op.Divide x z)))
both_plainly op.Remainder x b h = then_plainly b _ h (λ v. then_plainly (values.number_in v) _ (number_plainly v) (λ z. trap_plainly (applied op.Remainder x z)))
both_plainly op.Add x b h = then_plainly b _ h (λ v. then_plainly (values.number_in v) _ (number_plainly v) (λ z. trap_plainly (applied op.Add x z)))
both_plainly op.Subtract x b h = then_plainly b _ h (λ v. then_plainly (values.number_in v) _ (number_plainly v) (λ z. trap_plainly (applied op.Subtract x z)))
both_plainly op.Less x b h = then_plainly b _ h (λ v. then_plainly (values.number_in v) _ (number_plainly v) (λ z. trap_plainly (applied op.Less x z)))
both_plainly op.LessOrEqual x b h = then_plainly b _ h (λ v. then_plainly (values.number_in v) _ (number_plainly v) (λ z. trap_plainly (applied op.LessOrEqual x z)))
both_plainly op.Greater x b h = then_plainly b _ h (λ v. then_plainly (values.number_in v) _ (number_plainly v) (λ z. trap_plainly (applied op.Greater x z)))
both_plainly op.GreaterOrEqual x b h = then_plainly b _ h (λ v. then_plainly (values.number_in v) _ (number_plainly v) (λ z. trap_plainly (applied op.GreaterOrEqual x z)))
both_plainly op.Equal x b h = then_plainly b _ h (λ v. then_plainly (values.number_in v) _ (number_plainly v) (λ z. trap_plainly (applied op.Equal x z)))
both_plainly op.NotEqual x b h = then_plainly b _ h (λ v. then_plainly (values.number_in v) _ (number_plainly v) (λ z. trap_plainly (applied op.NotEqual x z)))
both_plainly op.BitAnd x b h = then_plainly b _ h (λ v. then_plainly (values.number_in v) _ (number_plainly v) (λ z. trap_plainly (applied op.BitAnd x z)))
both_plainly op.BitXor x b h = then_plainly b _ h (λ v. then_plainly (values.number_in v) _ (number_plainly v) (λ z. trap_plainly (applied op.BitXor x z)))
both_plainly op.BitOr x b h = then_plainly b _ h (λ v. then_plainly (values.number_in v) _ (number_plainly v) (λ z. trap_plainly (applied op.BitOr x z)))
both_plainly op.Negate x b h = then_plainly b _ h (λ v. then_plainly (values.number_in v) _ (number_plainly v) (λ z. trap_plainly (applied op.Negate x z)))
both_plainly op.Not x b h = then_plainly b _ h (λ v. then_plainly (values.number_in v) _ (number_plainly v) (λ z. trap_plainly (applied op.Not x z)))

pub value_plainly : (p : Program) (f : Func) (e : core.Expr) (s : source.Frame) (os : List source.Object) → EndsPlainly (values.value_of p f e s os)
value_plainly p f (core.number z) s os = tt
value_plainly p f (core.truth b) s os = tt
value_plainly p f (core.var v) s os = faults_plainly (or_fault source.no_value (s.vars v)) (or_faults source.no_value (s.vars v))
value_plainly p f (core.field x i) s os =
    then_plainly (values.touchable p f x i s os) _ (faults_plainly (values.touchable p f x i s os) (after_faults (reference_of f x) (guarded_of f x) x (λ r. permitted_in p r.type i) s os))
    (λ m. faults_plainly (or_fault source.missing (slice_get m.object.cells i)) (or_faults source.missing (slice_get m.object.cells i)))
value_plainly p f (core.unary o a) s os =
    then_plainly (values.value_of p f a s os) _ (value_plainly p f a s os)
    (λ v. then_plainly (values.number_in v) _ (number_plainly v) (λ z. trap_plainly (applied o z (pos 0))))
value_plainly p f (core.binary o a b) s os =
    then_plainly (values.value_of p f a s os) _ (value_plainly p f a s os)
    (λ v. then_plainly (values.number_in v) _ (number_plainly v) (λ z. both_plainly o z (values.value_of p f b s os) (value_plainly p f b s os)))

pub numbers_plainly : (p : Program) (f : Func) (e : core.Expr) (s : source.Frame) (os : List source.Object) → EndsPlainly (number_of p f e s os)
numbers_plainly p f e s os = then_plainly (values.value_of p f e s os) values.number_in (value_plainly p f e s os) number_plainly

-- the number of a truth value is that value
pub test_is : (b : Bool) → is_true (bool_number b) ≡ b
test_is true = refl
test_is false = refl

-- ---- the code of an expression, and what follows it

module _ (p : Program) (R : crun.Setup) (cm : crun.Meaning) where
  pub number_then : (f : Func) (t : Numbers) (k : ℕ) (w : source.World) (frame : crun.Frame) (g : Registers) (i : ℕ) (x : Code) (go : ℤ → step.Step)
      (rest : List syntax.Stmt) (C : crun.Step → crun.Step) → ((o : cw.Outcome) (v : cw.World) → C (crun.stops o v) ≡ crun.stops o v) →
      (r : Found ℤ) → EndsPlainly r → Follows r x t frame (c_world p g w) →
      ((z : ℤ) (to : crun.Frame) (j : ℕ) → AreAlike t frame to → cvalues.value_of (value_of x) to.vars (c_world p g w).blocks ≡ Ok (cw.number z) →
      Same p f t k frame (go z) (C (crun.does_stmts R cm j (stmts_made rest) to (c_world p g w)))) →
      Same p f t k frame (step.with_found r w go) (C (crun.does_stmts R cm i (stmts_made (x.stmts ++ rest)) frame (c_world p g w)))
  unfolding step.with_found
  number_then f t k w frame g i x go rest C ends (Ok z) plain h more =
      subst (λ c. Same p f t k frame (go z) (C c))
      (sym (both_run R cm x.stmts rest i frame (c_world p g w)
      ∙ ap (λ st. crun.then_do st (crun.does_stmts R cm (i + crun.count_in (stmts_made x.stmts)) (stmts_made rest))) (h.does R cm i)
      ∙ then_goes h.to (c_world p g w) (crun.does_stmts R cm (i + crun.count_in (stmts_made x.stmts)) (stmts_made rest))))
      (more z h.to (i + crun.count_in (stmts_made x.stmts)) h.alike (h.stays h.to (alike_self x.next h.to)))
  number_then f t k w frame g i x go rest C ends (Err (source.trap kind)) plain h more = record {
    world = c_world p g w;
    is = ap C (both_run R cm x.stmts rest i frame (c_world p g w)
        ∙ ap (λ st. crun.then_do st (crun.does_stmts R cm (i + crun.count_in (stmts_made x.stmts)) (stmts_made rest))) (h R cm i)
        ∙ then_stops (cw.trap kind) (c_world p g w) (crun.does_stmts R cm (i + crun.count_in (stmts_made x.stmts)) (stmts_made rest))) ∙ ends (cw.trap kind) (c_world p g w);
    events = refl;
    fuel = refl;
  }
  number_then f t k w frame g i x go rest C ends (Err (source.fault a b)) plain h more = tt
  number_then f t k w frame g i x go rest C ends (Err source.done) plain h more = absurd plain
  number_then f t k w frame g i x go rest C ends (Err source.fuel_end) plain h more = absurd plain
  number_then f t k w frame g i x go rest C ends (Err source.heap_end) plain h more = absurd plain
  number_then f t k w frame g i x go rest C ends (Err source.depth_end) plain h more = absurd plain
  number_then f t k w frame g i x go rest C ends (Err source.input_end) plain h more = absurd plain
  number_then f t k w frame g i x go rest C ends (Err source.answers_end) plain h more = absurd plain
  number_then f t k w frame g i x go rest C ends (Err (source.bad_answer b)) plain h more = absurd plain

-- a state that differs in temps alone
pub alike_begins : (p : Program) (f : Func) (t : Numbers) (k : ℕ) (s : source.Frame) (w : source.World) (frame to : crun.Frame) (g : Registers) →
    AreUpTo (first_temps p f) t → AreAlike t frame to → Begins p f k s w frame g → Begins p f k s w to g
alike_begins p f t k s w frame to g up alike h = record {
  stands = stands_alike p (types_of w.objects) f s frame to (alike_more up (alike_self (first_temps p f) frame) alike) h.stands;
  shaped = h.shaped;
  registers = h.registers;
  fed = h.fed;
  fuel_left = h.fuel_left;
}
