-- A function of the C program declares each variable below its last numbers, once.
use Rattle.std.proofs.Common.{◌≡◌, ◌≤◌, ◌<◌, ◌-◌, ℕ, zero, suc, ◌+◌, nat_lt, Bool, true, false, not, ◌||◌, if◌then◌else◌, List, [], ◌∷◌, ◌++◌, map, refl, ap, arith}
use Rattle.std.proofs.lemmas.Bool.{false≢true}
use Rattle.std.proofs.lemmas.Bool.Decides.{nat_tests}
use Rattle.std.specs.List.{range_with_len}
use Rattle.c_syntax.specs.declared.program.CVar.{CVar}
use Rattle.c_syntax.specs.Canonical.{declaration_of}
use Rattle.c_syntax.specs.Kinds.{Walk, skip, place, unless, same_bool, same_variable, is_one_of, type_width, declarations_judged, params_judged, names_of}
use Rattle.c_lower.specs.Slots.{Sort, of_number, of_reference, of_owner, Numbers, past, past_all, var_at, vars_at}
use Rattle.c_lower.specs.Lowering.{vars_between}
use Rattle.c_lower_worlds.specs.Operators.Codes.{IsBelow}
use Rattle.c_lower_worlds.proofs.OfOperators.Expressions.{up_all}
use Rattle.c_lower_runs.proofs.OfTexts.Unrefused.{IsFree, unless_free}

pub names_self : (vs : List CVar) → names_of (map declaration_of vs) ≡ vs
names_self [] = refl
names_self (v ∷ vs) = ap (λ xs. v ∷ xs) (names_self vs)

-- the variable has these numbers at least
abbrev pub IsFrom : Numbers → CVar → Type 0
IsFrom t v = (if v.reference then t.p else t.n) ≤ v.number

abbrev number_var : ℕ → CVar
number_var i = record { reference = false; number = i }

abbrev reference_var : ℕ → CVar
reference_var i = record { reference = true; number = i }

same_number : (r : Bool) (i k : ℕ) → i ≡ k → same_variable (record { reference = r; number = i }) (record { reference = r; number = k }) ≡ true
same_number true i k e = grind (arith, nat_tests)
same_number false i k e = grind (arith, nat_tests)

other_number : (r : Bool) (i k : ℕ) → (i ≡ k → ⊥) → same_variable (record { reference = r; number = i }) (record { reference = r; number = k }) ≡ false
other_number true i k e = grind (arith, nat_tests)
other_number false i k e = grind (arith, nat_tests)

-- ---- what is declared

one_left : (v : CVar) (xs ys : List CVar) → is_one_of v xs ≡ true → is_one_of v (xs ++ ys) ≡ true
one_left v [] ys e = absurd (false≢true e)
one_left v (x ∷ xs) ys e = by (same_variable v x) e (one_left v xs ys)
  where
    by : (b : Bool) → (b || is_one_of v xs) ≡ true → (is_one_of v xs ≡ true → is_one_of v (xs ++ ys) ≡ true) → (b || is_one_of v (xs ++ ys)) ≡ true
    by true e later = refl
    by false e later = later e

one_right : (v : CVar) (xs ys : List CVar) → is_one_of v ys ≡ true → is_one_of v (xs ++ ys) ≡ true
one_right v [] ys e = e
one_right v (x ∷ xs) ys e = by (same_variable v x) (one_right v xs ys e)
  where
    by : (b : Bool) → is_one_of v (xs ++ ys) ≡ true → (b || is_one_of v (xs ++ ys)) ≡ true
    by true e = refl
    by false e = e

-- a number is the first of some, or one of the others
first_or_later : (r : Bool) (k i : ℕ) (ws : List CVar) → i ≤ k → (suc i ≤ k → is_one_of (record { reference = r; number = k }) ws ≡ true) →
    is_one_of (record { reference = r; number = k }) (record { reference = r; number = i } ∷ ws) ≡ true
first_or_later r k i ws l later = by (nat_lt i k) refl
  where
    or_true : (b : Bool) → (b || true) ≡ true
    or_true true = refl
    or_true false = refl

    by : (b : Bool) → nat_lt i k ≡ b → (same_variable (record { reference = r; number = k }) (record { reference = r; number = i }) || is_one_of (record { reference = r; number = k }) ws) ≡ true
    by true e = rw (later (grind (arith, nat_tests))) (or_true (same_variable (record { reference = r; number = k }) (record { reference = r; number = i })))
    by false e = rw (same_number r k i (grind (arith, nat_tests))) refl

pub slots_declared : (t : Numbers) (ss : List Sort) (v : CVar) → IsFrom t v → IsBelow (past_all t ss) v → is_one_of v (vars_at t ss) ≡ true
slots_declared t ss v f b = by ss t v.reference v.number f b
  where
    by : (ss : List Sort) (t : Numbers) (r : Bool) (k : ℕ) → (if r then t.p else t.n) ≤ k → k < (if r then (past_all t ss).p else (past_all t ss).n) → is_one_of (record { reference = r; number = k }) (vars_at t ss) ≡ true
    by [] t true k f b = absurd (omega (arith, f, b))
    by [] t false k f b = absurd (omega (arith, f, b))
    by (of_number ∷ ss) t false k f b = first_or_later false k t.n (vars_at (past t of_number) ss) f (λ l. by ss (past t of_number) false k l b)
    by (of_number ∷ ss) t true k f b = by ss (past t of_number) true k f b
    by (of_reference ∷ ss) t true k f b = first_or_later true k t.p (vars_at (past t of_reference) ss) f (λ l. by ss (past t of_reference) true k l b)
    by (of_reference ∷ ss) t false k f b = by ss (past t of_reference) false k f b
    by (of_owner ∷ ss) t true k f b = first_or_later true k t.p (vars_at (past t of_owner) ss) f (λ l. by ss (past t of_owner) true k l b)
    by (of_owner ∷ ss) t false k f b = by ss (past t of_owner) false k f b

range_declared : (r : Bool) (n i k : ℕ) → i ≤ k → k < i + n → is_one_of (record { reference = r; number = k }) (map (λ i. record { reference = r; number = i }) (range_with_len i n)) ≡ true
range_declared r zero i k l m = absurd (omega (arith, l, m))
range_declared r (suc n) i k l m = first_or_later r k i (map (λ i. record { reference = r; number = i }) (range_with_len (i + 1) n)) l (λ h. range_declared r n (i + 1) k (omega (arith, h)) (omega (arith, m)))

between_declared : (a b : Numbers) (v : CVar) → IsFrom a v → IsBelow b v → is_one_of v (vars_between a b) ≡ true
between_declared a b v f m = by v.reference v.number f m
  where
    by : (r : Bool) (k : ℕ) → (if r then a.p else a.n) ≤ k → k < (if r then b.p else b.n) → is_one_of (record { reference = r; number = k }) (vars_between a b) ≡ true
    by false k f m =
        one_left (number_var k) (map number_var (range_with_len a.n (b.n - a.n))) (map reference_var (range_with_len a.p (b.p - a.p))) (range_declared false (b.n - a.n) a.n k f (omega (arith, f, m)))
    by true k f m =
        one_right (reference_var k) (map number_var (range_with_len a.n (b.n - a.n))) (map reference_var (range_with_len a.p (b.p - a.p))) (range_declared true (b.p - a.p) a.p k f (omega (arith, f, m)))

-- parameters and variables together are all below the last numbers
pub all_declared : (ss : List Sort) (b : Numbers) (v : CVar) → IsBelow b v → is_one_of v (vars_at (record { n = 0; p = 0 }) ss ++ vars_between (past_all (record { n = 0; p = 0 }) ss) b) ≡ true
all_declared ss b v m = by v.reference v.number m
  where
    a : Numbers
    a = past_all (record { n = 0; p = 0 }) ss

    zero_from : (r : Bool) (k : ℕ) → (if r then 0 else 0) ≤ k
    zero_from true k = omega arith
    zero_from false k = omega arith

    by : (r : Bool) (k : ℕ) → k < (if r then b.p else b.n) → is_one_of (record { reference = r; number = k }) (vars_at (record { n = 0; p = 0 }) ss ++ vars_between a b) ≡ true
    by r k m = go (nat_lt k (if r then a.p else a.n)) refl
      where
        go : (q : Bool) → nat_lt k (if r then a.p else a.n) ≡ q → is_one_of (record { reference = r; number = k }) (vars_at (record { n = 0; p = 0 }) ss ++ vars_between a b) ≡ true
        go true e =
            one_left (record { reference = r; number = k }) (vars_at (record { n = 0; p = 0 }) ss) (vars_between a b)
            (slots_declared (record { n = 0; p = 0 }) ss (record { reference = r; number = k }) (zero_from r k) (grind (arith, nat_tests)))
        go false e = one_right (record { reference = r; number = k }) (vars_at (record { n = 0; p = 0 }) ss) (vars_between a b) (between_declared a b (record { reference = r; number = k }) (grind (arith, nat_tests)) m)

-- ---- once

-- none is among those before it
abbrev pub AllNew : (before vs : List CVar) → Type 0
AllNew before [] = Unit {0}
AllNew before (v ∷ vs) = (is_one_of v before ≡ false) × AllNew (v ∷ before) vs

-- no variable from these numbers on is among those
abbrev Beyond : Numbers → List CVar → Type 0
Beyond t before = (r : Bool) (k : ℕ) → (if r then t.p else t.n) ≤ k → is_one_of (record { reference = r; number = k }) before ≡ false

beyond_number : (t : Numbers) (before : List CVar) → Beyond t before → Beyond (record { n = suc t.n; p = t.p }) (number_var t.n ∷ before)
beyond_number t before h true k l = h true k l
beyond_number t before h false k l = rw (other_number false k t.n (λ e. omega (arith, l, e)), h false k (omega (arith, l))) refl

beyond_reference : (t : Numbers) (before : List CVar) → Beyond t before → Beyond (record { n = t.n; p = suc t.p }) (reference_var t.p ∷ before)
beyond_reference t before h false k l = h false k l
beyond_reference t before h true k l = rw (other_number true k t.p (λ e. omega (arith, l, e)), h true k (omega (arith, l))) refl

slots_new : (t : Numbers) (ss : List Sort) (before : List CVar) → Beyond t before → AllNew before (vars_at t ss)
slots_new t [] before h = tt
slots_new t (of_number ∷ ss) before h = (h false t.n (omega arith), slots_new (past t of_number) ss (number_var t.n ∷ before) (beyond_number t before h))
slots_new t (of_reference ∷ ss) before h = (h true t.p (omega arith), slots_new (past t of_reference) ss (reference_var t.p ∷ before) (beyond_reference t before h))
slots_new t (of_owner ∷ ss) before h = (h true t.p (omega arith), slots_new (past t of_owner) ss (reference_var t.p ∷ before) (beyond_reference t before h))

pub params_new : (ss : List Sort) → AllNew [] (vars_at (record { n = 0; p = 0 }) ss)
params_new ss = slots_new (record { n = 0; p = 0 }) ss [] (λ r k l. refl)

references_new : (m j i : ℕ) (before : List CVar) → Beyond (record { n = i; p = j }) before → AllNew before (map reference_var (range_with_len j m))
references_new zero j i before h = tt
references_new (suc m) j i before h = (h true j (omega arith), references_new m (j + 1) i (reference_var j ∷ before) (λ r k l. beyond_reference (record { n = i; p = j }) before h r k (by r k l)))
  where
    by : (r : Bool) (k : ℕ) → (if r then j + 1 else i) ≤ k → (if r then suc j else i) ≤ k
    by true k l = omega (arith, l)
    by false k l = l

numbers_new : (n i m j : ℕ) (before : List CVar) → Beyond (record { n = i; p = j }) before → AllNew before (map number_var (range_with_len i n) ++ map reference_var (range_with_len j m))
numbers_new zero i m j before h = references_new m j i before h
numbers_new (suc n) i m j before h = (h false i (omega arith), numbers_new n (i + 1) m j (number_var i ∷ before) (λ r k l. beyond_number (record { n = i; p = j }) before h r k (by r k l)))
  where
    by : (r : Bool) (k : ℕ) → (if r then j else i + 1) ≤ k → (if r then j else suc i) ≤ k
    by true k l = l
    by false k l = omega (arith, l)

-- what comes from the numbers after some slots on isn't among them
slots_below : (t : Numbers) (ss : List Sort) → Beyond (past_all t ss) (vars_at t ss)
slots_below t [] r k l = refl
slots_below t (s ∷ ss) r k l = by s r k l (slots_below (past t s) ss r k l)
  where
    by : (s : Sort) (r : Bool) (k : ℕ) → (if r then (past_all (past t s) ss).p else (past_all (past t s) ss).n) ≤ k → is_one_of (record { reference = r; number = k }) (vars_at (past t s) ss) ≡ false →
        is_one_of (record { reference = r; number = k }) (var_at t s ∷ vars_at (past t s) ss) ≡ false
    by of_number false k l h = let u = (up_all (past t of_number) ss).n in rw (other_number false k t.n (λ e. omega (arith, l, e, u)), h) refl
    by of_number true k l h = h
    by of_reference true k l h = let u = (up_all (past t of_reference) ss).p in rw (other_number true k t.p (λ e. omega (arith, l, e, u)), h) refl
    by of_reference false k l h = h
    by of_owner true k l h = let u = (up_all (past t of_owner) ss).p in rw (other_number true k t.p (λ e. omega (arith, l, e, u)), h) refl
    by of_owner false k l h = h

pub vars_new : (ss : List Sort) (b : Numbers) → AllNew (vars_at (record { n = 0; p = 0 }) ss) (vars_between (past_all (record { n = 0; p = 0 }) ss) b)
vars_new ss b =
    let a = past_all (record { n = 0; p = 0 }) ss in
    numbers_new (b.n - a.n) a.n (b.p - a.p) a.p (vars_at (record { n = 0; p = 0 }) ss) (slots_below (record { n = 0; p = 0 }) ss)

-- ---- the walk over declarations

letter_is : (r : Bool) → same_bool r r ≡ true
letter_is true = refl
letter_is false = refl

pub declarations_free : (before vs : List CVar) (w : Walk) → AllNew before vs → IsFree w → IsFree (declarations_judged before (map declaration_of vs) w)
declarations_free before [] w h f = f
declarations_free before (v ∷ vs) w h f =
    let first = skip (type_width v.reference) w in
    let named = unless (not (is_one_of v before)) (place first) 1 first in
    let typed = unless (same_bool v.reference v.reference) (place named) 2 named in
    declarations_free (v ∷ before) vs (skip 2 typed) h.1
    (unless_free (same_bool v.reference v.reference) (place named) 2 named (letter_is v.reference) (unless_free (not (is_one_of v before)) (place first) 1 first (ap not h.0) f))

pub params_free : (vs : List CVar) (w : Walk) → AllNew [] vs → IsFree w → IsFree (params_judged (map declaration_of vs) w)
params_free [] w h f = f
params_free (v ∷ vs) w h f = declarations_free [] (v ∷ vs) w h f
