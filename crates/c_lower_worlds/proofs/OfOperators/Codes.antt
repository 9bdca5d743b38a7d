-- The code of a binary operator, of the codes of its sides.
use Rattle.std.proofs.Common.{◌≡◌, ◌<◌, ℕ, suc, Bool, true, false, not, ◌&&◌, ◌==◌, if◌then◌else◌, ℤ, pos, List, [], ◌∷◌, ◌++◌, Some, Result, Ok, Err, refl, sym, ap, ◌∙◌, subst, arith, true≢false}
use Rattle.std.proofs.lemmas.Bool.Decides.{nat_tests}
use Rattle.vlt_ops.specs.declared.Op.{Op}
use Rattle.vlt_ops.specs.declared.Op.TheVariants as op
use Rattle.vlt_ops.specs.declared.TrapKind.{TrapKind}
use Rattle.vlt_ops.specs.Operator.{applied, is_in_range, is_true, equals, bool_number}
use Rattle.c_syntax.specs.declared.program.CVar.{CVar}
use Rattle.c_syntax.specs.Kinds.{same_variable, same_bool}
use Rattle.c_syntax.specs.View.{stmts_made}
use Rattle.c_syntax.specs.C as c
use Rattle.c_syntax.specs.C.{Stmt}
use Rattle.c_meaning.specs.World.{World, Value, number, trap, Outcome}
use Rattle.c_meaning.specs.Values.{value_of}
use Rattle.c_meaning.specs.Run.{Frame, Step, goes, breaks, continues, leaves, stops, with_var, does_stmts, then_do, with_found}
use Rattle.c_lower.specs.Slots.{Numbers, Sort, past, of_number, of_reference, of_owner, var_at}
use Rattle.c_lower.specs.Expressions as code
use Rattle.c_lower.specs.Expressions.{Code, binary_code}
use Rattle.std.proofs.lemmas.List.{append_assoc}
use Rattle.c_lower.specs.Guards as g
use Rattle.c_lower.specs.Guards.{binary_guards}
use Rattle.c_lower_worlds.proofs.OfOperators.Guards.{Tells}
use Rattle.c_lower_worlds.proofs.OfOperators.Doing.{set_goes}
use Rattle.c_lower_worlds.specs.Operators.Operators.{is_strict, Does, takes}
use Rattle.c_lower_worlds.proofs.OfOperators.Operators.{binary_is_right}
use Rattle.c_lower_worlds.specs.Operators.Codes.{IsBelow, AreAlike, AreUpTo, Gives}
use Rattle.c_lower_worlds.specs.Operators.Sides.{ComesTo, AreInRange, sides_make, wants, AreRightCodes}

-- ---- statements one after another

goes_on : (st : Step) (first both : Frame → World → Step) (g : Frame) (w : World) (s : Step) → then_do st first ≡ goes g w →
    ((f : Frame) (v : World) → first f v ≡ goes g w → both f v ≡ s) → then_do st both ≡ s
unfolding then_do
goes_on (goes f v) first both g w s e k = k f v e
goes_on (breaks f v) first both g w s e k = absurd (never e)
  where
    never : breaks f v ≡ goes g w → ⊥
    never e = cc
goes_on (continues f v) first both g w s e k = absurd (never e)
  where
    never : continues f v ≡ goes g w → ⊥
    never e = cc
goes_on (leaves a v) first both g w s e k = absurd (never e)
  where
    never : leaves a v ≡ goes g w → ⊥
    never e = cc
goes_on (stops o v) first both g w s e k = absurd (never e)
  where
    never : stops o v ≡ goes g w → ⊥
    never e = cc

pub goes_then : (xs ys : List Stmt) (f g : Frame) (w : World) (s : Step) → Does xs f w (goes g w) → Does ys g w s → Does (xs ++ ys) f w s
goes_then xs ys f g w s first second r rest n = by xs n f w (first r rest n)
  where
    frame_of : Step → Frame
    frame_of (goes f v) = f
    frame_of _ = g

    world_of : Step → World
    world_of (goes f v) = v
    world_of _ = w

    by : (xs : List Stmt) (n : ℕ) (f : Frame) (v : World) → does_stmts r rest n (stmts_made xs) f v ≡ goes g w →
        does_stmts r rest n (stmts_made (xs ++ ys)) f v ≡ s
    by [] n f v e = rw (ap frame_of e, ap world_of e) (second r rest n)
    by (x ∷ xs) n f v e = goes_on _ _ _ g w s e (λ f v e. by xs _ f v e)

stops_on : (st : Step) (first both : Frame → World → Step) (o : Outcome) (w : World) → then_do st first ≡ stops o w →
    ((f : Frame) (v : World) → first f v ≡ stops o w → both f v ≡ stops o w) → then_do st both ≡ stops o w
unfolding then_do
stops_on (goes f v) first both o w e k = k f v e
stops_on (breaks f v) first both o w e k = e
stops_on (continues f v) first both o w e k = e
stops_on (leaves a v) first both o w e k = e
stops_on (stops p v) first both o w e k = e

pub stops_then : (xs ys : List Stmt) (f : Frame) (w : World) (o : Outcome) → Does xs f w (stops o w) → Does (xs ++ ys) f w (stops o w)
stops_then xs ys f w o first r rest n = by xs n f w (first r rest n)
  where
    by : (xs : List Stmt) (n : ℕ) (f : Frame) (v : World) → does_stmts r rest n (stmts_made xs) f v ≡ stops o w →
        does_stmts r rest n (stmts_made (xs ++ ys)) f v ≡ stops o w
    by [] n f v e = absurd (never e)
      where
        never : goes f v ≡ stops o w → ⊥
        never e = cc
    by (x ∷ xs) n f v e = stops_on _ _ _ o w e (λ f v e. by xs _ f v e)

-- ---- frames

pub up_self : (u : Numbers) → AreUpTo u u
up_self u = record { n = omega (arith); p = omega (arith) }

pub up_past : (u : Numbers) (s : Sort) → AreUpTo u (past u s)
up_past u of_number = record { n = omega (arith); p = omega (arith) }
up_past u of_reference = record { n = omega (arith); p = omega (arith) }
up_past u of_owner = record { n = omega (arith); p = omega (arith) }

pub below_more : {t u : Numbers} → AreUpTo t u → (v : CVar) → IsBelow t v → IsBelow u v
below_more {t} {u} m v b = by v.reference b
  where
    by : (r : Bool) → v.number < (if r then t.p else t.n) → v.number < (if r then u.p else u.n)
    by true b = let l = m.p in omega (arith, b)
    by false b = let l = m.n in omega (arith, b)

pub more_more : {t u x : Numbers} → AreUpTo t u → AreUpTo u x → AreUpTo t x
more_more a b = record { n = let l = a.n in let k = b.n in omega (arith); p = let l = a.p in let k = b.p in omega (arith) }

pub alike_self : (t : Numbers) (f : Frame) → AreAlike t f f
alike_self t f = record { vars = λ v b. refl; depth = refl; is_glue = refl }

-- changes in which no variable below the first numbers takes part
pub alike_more : {t u : Numbers} {f g h : Frame} → AreUpTo t u → AreAlike t f g → AreAlike u g h → AreAlike t f h
alike_more m a b = record {
  vars = λ v below. a.vars v below ∙ b.vars v (below_more m v below);
  depth = a.depth ∙ b.depth;
  is_glue = a.is_glue ∙ b.is_glue;
}

temp_apart : (u : Numbers) (v : CVar) → IsBelow u v → same_variable v (var_at u of_number) ≡ false
temp_apart u v b = by v.reference b
  where
    by : (r : Bool) → v.number < (if r then u.p else u.n) → (same_bool r false && (v.number == u.n)) ≡ false
    by true b = refl
    by false b = grind (arith, nat_tests)

temp_is : (u : Numbers) → same_variable (var_at u of_number) (var_at u of_number) ≡ true
temp_is u = grind (arith, nat_tests)

set_alike : (u : Numbers) (a : Value) (f : Frame) → AreAlike u f (with_var (var_at u of_number) a f)
set_alike u a f = record { vars = λ v b. apart v (temp_apart u v b); depth = refl; is_glue = refl }
  where
    apart : (v : CVar) → same_variable v (var_at u of_number) ≡ false →
        f.vars v ≡ (if same_variable v (var_at u of_number) then Some a else f.vars v)
    apart v e = rw e refl

-- ---- a temp that has the number

pub temp_gives : (stmts : List Stmt) (e : c.Expr) (t u : Numbers) (f g : Frame) (w : World) (z : ℤ) → AreUpTo t u → AreAlike t f g →
    Does (stmts ++ c.set (var_at u of_number) e ∷ []) f w (goes (with_var (var_at u of_number) (number z) g) w) →
    Gives (code.into_temp stmts u e) t f w z
temp_gives stmts e t u f g w z m a does = record {
  to = with_var (var_at u of_number) (number z) g;
  does = does;
  alike = alike_more m a (set_alike u (number z) g);
  stays = λ h b. rw (sym (b.vars (var_at u of_number) (omega (arith))), temp_is u) refl;
}

-- ---- operators that want both sides

strict_code : Op → (left rest : Code) → Code
strict_code o left rest =
    code.into_temp (left.stmts ++ rest.stmts ++ binary_guards o (code.value_of left) (code.value_of rest)) rest.next
    (c.binary o (code.value_of left) (code.value_of rest))

strict_comes : (o : Op) (left rest : Code) (t : Numbers) (f : Frame) (w : World) (x y : ℤ) → is_strict o ≡ true →
    is_in_range x ≡ true → is_in_range y ≡ true → AreUpTo t left.next → AreUpTo left.next rest.next →
    (h : Gives left t f w x) → Gives rest left.next h.to w y → ComesTo (strict_code o left rest) t f w (applied o x y)
unfolding strict_code
strict_comes o left rest t f w x y strict rx ry m k h i = finish (applied o x y) whole_code
  where
    a : c.Expr
    a = code.value_of left

    b : c.Expr
    b = code.value_of rest

    temp : CVar
    temp = var_at rest.next of_number

    operator : Does (binary_guards o a b ++ c.set temp (c.binary o a b) ∷ []) i.to w (takes temp (applied o x y) i.to w)
    operator = binary_is_right o a b x y temp i.to w strict
        (record { value = h.stays i.to i.alike; range = rx }) (record { value = i.stays i.to (alike_self rest.next i.to); range = ry })

    sides : Does (left.stmts ++ rest.stmts) f w (goes i.to w)
    sides = goes_then left.stmts rest.stmts f h.to w (goes i.to w) h.does i.does

    whole_code : Does ((left.stmts ++ rest.stmts ++ binary_guards o a b) ++ c.set temp (c.binary o a b) ∷ []) f w (takes temp (applied o x y) i.to w)
    whole_code =
        subst (λ xs. Does xs f w (takes temp (applied o x y) i.to w))
        (sym (append_assoc (left.stmts ++ rest.stmts) (binary_guards o a b) (c.set temp (c.binary o a b) ∷ [])))
        (goes_then (left.stmts ++ rest.stmts) (binary_guards o a b ++ c.set temp (c.binary o a b) ∷ []) f i.to w _ sides operator)

    finish : (r : Result ℤ TrapKind) →
        Does ((left.stmts ++ rest.stmts ++ binary_guards o a b) ++ c.set temp (c.binary o a b) ∷ []) f w (takes temp r i.to w) →
        ComesTo (strict_code o left rest) t f w r
    finish (Ok z) d =
        temp_gives (left.stmts ++ rest.stmts ++ binary_guards o a b) (c.binary o a b) t rest.next f i.to w z (more_more m k)
        (alike_more m h.alike i.alike) d
    finish (Err e) d = d

-- ---- `&&` and `||`

passed_by : (e : c.Expr) (xs : List Stmt) (f : Frame) (w : World) → Tells e f.vars w.blocks false →
    Does (c.when e (stmts_made xs) ∷ []) f w (goes f w)
unfolding with_found then_do
passed_by e xs f w tells r rest n = rw tells.tells refl

gone_into : (e : c.Expr) (xs : List Stmt) (f g : Frame) (w : World) → Tells e f.vars w.blocks true → Does xs f w (goes g w) →
    Does (c.when e (stmts_made xs) ∷ []) f w (goes g w)
unfolding with_found then_do
gone_into e xs f g w tells does r rest n = rw (tells.tells, does r rest (suc n)) refl

stopped_in : (e : c.Expr) (xs : List Stmt) (f : Frame) (w : World) (o : Outcome) → Tells e f.vars w.blocks true → Does xs f w (stops o w) →
    Does (c.when e (stmts_made xs) ∷ []) f w (stops o w)
unfolding with_found then_do
stopped_in e xs f w o tells does r rest n = rw (tells.tells, does r rest (suc n)) refl

-- whether the right side is wanted
abbrev lazy_wants_right : Bool → ℤ → Bool
lazy_wants_right true x = is_true x
lazy_wants_right false x = not (is_true x)

abbrev lazy_test : Bool → (temp : CVar) → c.Expr
lazy_test is_and temp = (if is_and then g.unequal else g.equal) (c.variable temp) (g.whole 0)

test_tells : (is_and : Bool) (u : Numbers) (x : ℤ) (f : Frame) (w : World) →
    Tells (lazy_test is_and (var_at u of_number)) (with_var (var_at u of_number) (number x) f).vars w.blocks (lazy_wants_right is_and x)
test_tells true u x f w = record { tells = rw (temp_is u) refl }
test_tells false u x f w = record { tells = rw (temp_is u) (by (equals x (pos 0))) }
  where
    by : (t : Bool) → ◌≡◌ {A = Result Value ℕ} (Ok (number (bool_number t))) (Ok (number (bool_number (not (not t)))))
    by true = refl
    by false = refl

-- the temp of the left side holds its number as long as no variable below the next temps changes
temp_stays : (u next : Numbers) (f : Frame) (w : World) (z : ℤ) → AreUpTo (past u of_number) next → (h : Frame) →
    AreAlike next (with_var (var_at u of_number) (number z) f) h → value_of (c.variable (var_at u of_number)) h.vars w.blocks ≡ Ok (number z)
temp_stays u next f w z m h b = rw (sym (b.vars (var_at u of_number) (let l = m.n in omega (arith))), temp_is u) refl

lazy_comes : (is_and : Bool) (left : Code) (right : Numbers → Code) (t : Numbers) (f : Frame) (w : World) (x : ℤ) (y : Result ℤ TrapKind) →
    AreUpTo t left.next → AreUpTo (past left.next of_number) (right (past left.next of_number)).next → (h : Gives left t f w x) →
    (lazy_wants_right is_and x ≡ true →
    ComesTo (right (past left.next of_number)) (past left.next of_number) (with_var (var_at left.next of_number) (number x) h.to) w y) →
    ComesTo (code.lazy_code is_and left right) t f w (if lazy_wants_right is_and x then y else Ok x)
lazy_comes is_and left right t f w x y m k h after = by (lazy_wants_right is_and x) refl y after
  where
    temp : CVar
    temp = var_at left.next of_number

    rest : Code
    rest = right (past left.next of_number)

    set : Frame
    set = with_var temp (number x) h.to

    body : List Stmt
    body = rest.stmts ++ c.set temp (code.value_of rest) ∷ []

    test : Stmt
    test = c.when (lazy_test is_and temp) (stmts_made body)

    begun : (s : Step) → Does (test ∷ []) set w s → Does (left.stmts ++ c.set temp (code.value_of left) ∷ test ∷ []) f w s
    begun s d =
        goes_then left.stmts (c.set temp (code.value_of left) ∷ test ∷ []) f h.to w s h.does
        (goes_then (c.set temp (code.value_of left) ∷ []) (test ∷ []) h.to set w s
        (set_goes temp (code.value_of left) (number x) h.to w (h.stays h.to (alike_self left.next h.to))) d)

    by : (wants : Bool) → lazy_wants_right is_and x ≡ wants → (y : Result ℤ TrapKind) →
        (lazy_wants_right is_and x ≡ true → ComesTo rest (past left.next of_number) set w y) → ComesTo (code.lazy_code is_and left right) t f w (if wants then y else Ok x)
    by false e y after = record {
      to = set;
      does = begun (goes set w) (passed_by (lazy_test is_and temp) body set w
          (subst (Tells (lazy_test is_and temp) set.vars w.blocks) e (test_tells is_and left.next x h.to w)));
      alike = alike_more m h.alike (set_alike left.next (number x) h.to);
      stays = temp_stays left.next rest.next h.to w x k;
    }
    by true e (Ok b) after = let comes = after e in record {
      to = with_var temp (number b) comes.to;
      does = begun _ (gone_into (lazy_test is_and temp) body set _ w
          (subst (Tells (lazy_test is_and temp) set.vars w.blocks) e (test_tells is_and left.next x h.to w))
          (goes_then rest.stmts (c.set temp (code.value_of rest) ∷ []) set comes.to w _ comes.does
          (set_goes temp (code.value_of rest) (number b) comes.to w (comes.stays comes.to (alike_self rest.next comes.to)))));
      alike = alike_more m h.alike (alike_more (up_self left.next) (set_alike left.next (number x) h.to)
          (alike_more (up_self left.next) (alike_more (up_past left.next of_number) (alike_self left.next set) comes.alike)
          (set_alike left.next (number b) comes.to)));
      stays = temp_stays left.next rest.next comes.to w b k;
    }
    by true e (Err kind) after =
        begun (stops (trap kind) w) (stopped_in (lazy_test is_and temp) body set w (trap kind)
        (subst (Tells (lazy_test is_and temp) set.vars w.blocks) e (test_tells is_and left.next x h.to w))
        (stops_then rest.stmts (c.set temp (code.value_of rest) ∷ []) set w (trap kind) (after e)))

-- ---- all binary operators

-- a strict operator where a side traps
left_stops : (o : Op) (left rest : Code) (f : Frame) (w : World) (k : TrapKind) → Does left.stmts f w (stops (trap k) w) →
    Does (strict_code o left rest).stmts f w (stops (trap k) w)
unfolding strict_code
left_stops o left rest f w k d =
    stops_then (left.stmts ++ rest.stmts ++ binary_guards o (code.value_of left) (code.value_of rest)) _ f w (trap k)
    (stops_then (left.stmts ++ rest.stmts) (binary_guards o (code.value_of left) (code.value_of rest)) f w (trap k)
    (stops_then left.stmts rest.stmts f w (trap k) d))

right_stops : (o : Op) (left rest : Code) (f g : Frame) (w : World) (k : TrapKind) → Does left.stmts f w (goes g w) →
    Does rest.stmts g w (stops (trap k) w) → Does (strict_code o left rest).stmts f w (stops (trap k) w)
unfolding strict_code
right_stops o left rest f g w k first second =
    stops_then (left.stmts ++ rest.stmts ++ binary_guards o (code.value_of left) (code.value_of rest)) _ f w (trap k)
    (stops_then (left.stmts ++ rest.stmts) (binary_guards o (code.value_of left) (code.value_of rest)) f w (trap k)
    (goes_then left.stmts rest.stmts f g w (stops (trap k) w) first second))

abbrev strict_make : Op → Result ℤ TrapKind → Result ℤ TrapKind → Result ℤ TrapKind
strict_make o (Ok x) (Ok y) = applied o x y
strict_make o (Ok x) (Err k) = Err k
strict_make o (Err k) y = Err k

abbrev is_ok : Result ℤ TrapKind → Bool
is_ok (Ok x) = true
is_ok (Err k) = false

strict_right : (o : Op) (left : Code) (right : Numbers → Code) (t : Numbers) (f : Frame) (w : World) (x y : Result ℤ TrapKind) →
    is_strict o ≡ true → AreInRange x → AreInRange y → ((u : Numbers) → AreUpTo u (right u).next) → AreUpTo t left.next →
    ComesTo left t f w x →
    (is_ok x ≡ true → (g : Frame) (u : Numbers) → AreUpTo t u → AreAlike t f g → ComesTo (right u) u g w y) →
    ComesTo (strict_code o left (right left.next)) t f w (strict_make o x y)
strict_right o left right t f w (Ok x) (Ok y) s rx ry up m comes after =
    strict_comes o left (right left.next) t f w x y s (rx x refl) (ry y refl) m (up left.next) comes (after refl comes.to left.next m comes.alike)
strict_right o left right t f w (Ok x) (Err k) s rx ry up m comes after =
    right_stops o left (right left.next) f comes.to w k comes.does (after refl comes.to left.next m comes.alike)
strict_right o left right t f w (Err k) y s rx ry up m comes after = left_stops o left (right left.next) f w k comes

lazy_make : Bool → Result ℤ TrapKind → Result ℤ TrapKind → Result ℤ TrapKind
lazy_make is_and (Ok x) y = if lazy_wants_right is_and x then y else Ok x
lazy_make is_and (Err k) y = Err k

abbrev lazy_wants : Bool → Result ℤ TrapKind → Bool
lazy_wants is_and (Ok x) = lazy_wants_right is_and x
lazy_wants is_and (Err k) = false

lazy_right : (is_and : Bool) (left : Code) (right : Numbers → Code) (t : Numbers) (f : Frame) (w : World) (x y : Result ℤ TrapKind) →
    ((u : Numbers) → AreUpTo u (right u).next) → AreUpTo t left.next → ComesTo left t f w x →
    (lazy_wants is_and x ≡ true → (g : Frame) (u : Numbers) → AreUpTo t u → AreAlike t f g → ComesTo (right u) u g w y) →
    ComesTo (code.lazy_code is_and left right) t f w (lazy_make is_and x y)
unfolding lazy_make
lazy_right is_and left right t f w (Ok x) y up m comes after =
    lazy_comes is_and left right t f w x y m (up (past left.next of_number)) comes
    (λ e. after e _ (past left.next of_number) (more_more m (up_past left.next of_number)) (alike_more m comes.alike (set_alike left.next (number x) comes.to)))
lazy_right is_and left right t f w (Err k) y up m comes after =
    stops_then left.stmts _ f w (trap k) comes

-- `||` wants the right side where the left one is 0
or_make : (x y : Result ℤ TrapKind) → lazy_make false x y ≡ sides_make op.Or x y
unfolding lazy_make
or_make (Ok x) y = by (is_true x)
  where
    by : (t : Bool) → (if not t then y else Ok x) ≡ (if t then Ok x else y)
    by true = refl
    by false = refl
or_make (Err k) y = refl

and_make : (x y : Result ℤ TrapKind) → lazy_make true x y ≡ sides_make op.And x y
unfolding lazy_make
and_make (Ok x) y = refl
and_make (Err k) y = refl

and_wants : (x : Result ℤ TrapKind) → lazy_wants true x ≡ true → wants op.And x ≡ true
and_wants (Ok x) e = e
and_wants (Err k) e = e

or_wants : (x : Result ℤ TrapKind) → lazy_wants false x ≡ true → wants op.Or x ≡ true
or_wants (Ok x) e = e
or_wants (Err k) e = e

pub codes_are_right : AreRightCodes
unfolding strict_code
codes_are_right op.And left right t f w x y s rx ry up m comes after =
    subst (ComesTo (code.lazy_code true left right) t f w) (and_make x y) (lazy_right true left right t f w x y up m comes (λ e. after (and_wants x e)))
codes_are_right op.Or left right t f w x y s rx ry up m comes after =
    subst (ComesTo (code.lazy_code false left right) t f w) (or_make x y) (lazy_right false left right t f w x y up m comes (λ e. after (or_wants x e)))
codes_are_right op.Multiply left right t f w x y s rx ry up m comes after =
    subst (ComesTo (binary_code op.Multiply left right) t f w) (sides x y) (strict_right op.Multiply left right t f w x y refl rx ry up m comes (λ e. after (wanted x e)))
  where
    wanted : (x : Result ℤ TrapKind) → is_ok x ≡ true → wants op.Multiply x ≡ true
    wanted (Ok x) e = e
    wanted (Err k) e = e

    sides : (x y : Result ℤ TrapKind) → strict_make op.Multiply x y ≡ sides_make op.Multiply x y
    sides (Ok x) (Ok y) = refl
    sides (Ok x) (Err k) = refl
    sides (Err k) y = refl
codes_are_right op.Divide left right t f w x y s rx ry up m comes after =
    subst (ComesTo (binary_code op.Divide left right) t f w) (sides x y) (strict_right op.Divide left right t f w x y refl rx ry up m comes (λ e. after (wanted x e)))
  where
    wanted : (x : Result ℤ TrapKind) → is_ok x ≡ true → wants op.Divide x ≡ true
    wanted (Ok x) e = e
    wanted (Err k) e = e

    sides : (x y : Result ℤ TrapKind) → strict_make op.Divide x y ≡ sides_make op.Divide x y
    sides (Ok x) (Ok y) = refl
    sides (Ok x) (Err k) = refl
    sides (Err k) y = refl
codes_are_right op.Remainder left right t f w x y s rx ry up m comes after =
    subst (ComesTo (binary_code op.Remainder left right) t f w) (sides x y) (strict_right op.Remainder left right t f w x y refl rx ry up m comes (λ e. after (wanted x e)))
  where
    wanted : (x : Result ℤ TrapKind) → is_ok x ≡ true → wants op.Remainder x ≡ true
    wanted (Ok x) e = e
    wanted (Err k) e = e

    sides : (x y : Result ℤ TrapKind) → strict_make op.Remainder x y ≡ sides_make op.Remainder x y
    sides (Ok x) (Ok y) = refl
    sides (Ok x) (Err k) = refl
    sides (Err k) y = refl
codes_are_right op.Add left right t f w x y s rx ry up m comes after =
    subst (ComesTo (binary_code op.Add left right) t f w) (sides x y) (strict_right op.Add left right t f w x y refl rx ry up m comes (λ e. after (wanted x e)))
  where
    wanted : (x : Result ℤ TrapKind) → is_ok x ≡ true → wants op.Add x ≡ true
    wanted (Ok x) e = e
    wanted (Err k) e = e

    sides : (x y : Result ℤ TrapKind) → strict_make op.Add x y ≡ sides_make op.Add x y
    sides (Ok x) (Ok y) = refl
    sides (Ok x) (Err k) = refl
    sides (Err k) y = refl
codes_are_right op.Subtract left right t f w x y s rx ry up m comes after =
    subst (ComesTo (binary_code op.Subtract left right) t f w) (sides x y) (strict_right op.Subtract left right t f w x y refl rx ry up m comes (λ e. after (wanted x e)))
  where
    wanted : (x : Result ℤ TrapKind) → is_ok x ≡ true → wants op.Subtract x ≡ true
    wanted (Ok x) e = e
    wanted (Err k) e = e

    sides : (x y : Result ℤ TrapKind) → strict_make op.Subtract x y ≡ sides_make op.Subtract x y
    sides (Ok x) (Ok y) = refl
    sides (Ok x) (Err k) = refl
    sides (Err k) y = refl
codes_are_right op.Less left right t f w x y s rx ry up m comes after =
    subst (ComesTo (binary_code op.Less left right) t f w) (sides x y) (strict_right op.Less left right t f w x y refl rx ry up m comes (λ e. after (wanted x e)))
  where
    wanted : (x : Result ℤ TrapKind) → is_ok x ≡ true → wants op.Less x ≡ true
    wanted (Ok x) e = e
    wanted (Err k) e = e

    sides : (x y : Result ℤ TrapKind) → strict_make op.Less x y ≡ sides_make op.Less x y
    sides (Ok x) (Ok y) = refl
    sides (Ok x) (Err k) = refl
    sides (Err k) y = refl
codes_are_right op.LessOrEqual left right t f w x y s rx ry up m comes after =
    subst (ComesTo (binary_code op.LessOrEqual left right) t f w) (sides x y) (strict_right op.LessOrEqual left right t f w x y refl rx ry up m comes (λ e. after (wanted x e)))
  where
    wanted : (x : Result ℤ TrapKind) → is_ok x ≡ true → wants op.LessOrEqual x ≡ true
    wanted (Ok x) e = e
    wanted (Err k) e = e

    sides : (x y : Result ℤ TrapKind) → strict_make op.LessOrEqual x y ≡ sides_make op.LessOrEqual x y
    sides (Ok x) (Ok y) = refl
    sides (Ok x) (Err k) = refl
    sides (Err k) y = refl
codes_are_right op.Greater left right t f w x y s rx ry up m comes after =
    subst (ComesTo (binary_code op.Greater left right) t f w) (sides x y) (strict_right op.Greater left right t f w x y refl rx ry up m comes (λ e. after (wanted x e)))
  where
    wanted : (x : Result ℤ TrapKind) → is_ok x ≡ true → wants op.Greater x ≡ true
    wanted (Ok x) e = e
    wanted (Err k) e = e

    sides : (x y : Result ℤ TrapKind) → strict_make op.Greater x y ≡ sides_make op.Greater x y
    sides (Ok x) (Ok y) = refl
    sides (Ok x) (Err k) = refl
    sides (Err k) y = refl
codes_are_right op.GreaterOrEqual left right t f w x y s rx ry up m comes after =
    subst (ComesTo (binary_code op.GreaterOrEqual left right) t f w) (sides x y) (strict_right op.GreaterOrEqual left right t f w x y refl rx ry up m comes (λ e. after (wanted x e)))
  where
    wanted : (x : Result ℤ TrapKind) → is_ok x ≡ true → wants op.GreaterOrEqual x ≡ true
    wanted (Ok x) e = e
    wanted (Err k) e = e

    sides : (x y : Result ℤ TrapKind) → strict_make op.GreaterOrEqual x y ≡ sides_make op.GreaterOrEqual x y
    sides (Ok x) (Ok y) = refl
    sides (Ok x) (Err k) = refl
    sides (Err k) y = refl
codes_are_right op.Equal left right t f w x y s rx ry up m comes after =
    subst (ComesTo (binary_code op.Equal left right) t f w) (sides x y) (strict_right op.Equal left right t f w x y refl rx ry up m comes (λ e. after (wanted x e)))
  where
    wanted : (x : Result ℤ TrapKind) → is_ok x ≡ true → wants op.Equal x ≡ true
    wanted (Ok x) e = e
    wanted (Err k) e = e

    sides : (x y : Result ℤ TrapKind) → strict_make op.Equal x y ≡ sides_make op.Equal x y
    sides (Ok x) (Ok y) = refl
    sides (Ok x) (Err k) = refl
    sides (Err k) y = refl
codes_are_right op.NotEqual left right t f w x y s rx ry up m comes after =
    subst (ComesTo (binary_code op.NotEqual left right) t f w) (sides x y) (strict_right op.NotEqual left right t f w x y refl rx ry up m comes (λ e. after (wanted x e)))
  where
    wanted : (x : Result ℤ TrapKind) → is_ok x ≡ true → wants op.NotEqual x ≡ true
    wanted (Ok x) e = e
    wanted (Err k) e = e

    sides : (x y : Result ℤ TrapKind) → strict_make op.NotEqual x y ≡ sides_make op.NotEqual x y
    sides (Ok x) (Ok y) = refl
    sides (Ok x) (Err k) = refl
    sides (Err k) y = refl
codes_are_right op.BitAnd left right t f w x y s rx ry up m comes after =
    subst (ComesTo (binary_code op.BitAnd left right) t f w) (sides x y) (strict_right op.BitAnd left right t f w x y refl rx ry up m comes (λ e. after (wanted x e)))
  where
    wanted : (x : Result ℤ TrapKind) → is_ok x ≡ true → wants op.BitAnd x ≡ true
    wanted (Ok x) e = e
    wanted (Err k) e = e

    sides : (x y : Result ℤ TrapKind) → strict_make op.BitAnd x y ≡ sides_make op.BitAnd x y
    sides (Ok x) (Ok y) = refl
    sides (Ok x) (Err k) = refl
    sides (Err k) y = refl
codes_are_right op.BitXor left right t f w x y s rx ry up m comes after =
    subst (ComesTo (binary_code op.BitXor left right) t f w) (sides x y) (strict_right op.BitXor left right t f w x y refl rx ry up m comes (λ e. after (wanted x e)))
  where
    wanted : (x : Result ℤ TrapKind) → is_ok x ≡ true → wants op.BitXor x ≡ true
    wanted (Ok x) e = e
    wanted (Err k) e = e

    sides : (x y : Result ℤ TrapKind) → strict_make op.BitXor x y ≡ sides_make op.BitXor x y
    sides (Ok x) (Ok y) = refl
    sides (Ok x) (Err k) = refl
    sides (Err k) y = refl
codes_are_right op.BitOr left right t f w x y s rx ry up m comes after =
    subst (ComesTo (binary_code op.BitOr left right) t f w) (sides x y) (strict_right op.BitOr left right t f w x y refl rx ry up m comes (λ e. after (wanted x e)))
  where
    wanted : (x : Result ℤ TrapKind) → is_ok x ≡ true → wants op.BitOr x ≡ true
    wanted (Ok x) e = e
    wanted (Err k) e = e

    sides : (x y : Result ℤ TrapKind) → strict_make op.BitOr x y ≡ sides_make op.BitOr x y
    sides (Ok x) (Ok y) = refl
    sides (Ok x) (Err k) = refl
    sides (Err k) y = refl
codes_are_right op.Negate left right t f w x y s rx ry up m comes after = absurd (true≢false (sym s))
codes_are_right op.Not left right t f w x y s rx ry up m comes after = absurd (true≢false (sym s))
