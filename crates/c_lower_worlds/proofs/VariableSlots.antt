-- The slots of variables are apart, and lie below the first temps.
use Rattle.std.proofs.Common.{◌≡◌, ◌≤◌, ◌<◌, ℕ, zero, suc, ◌==◌, ◌&&◌, Bool, true, false, if◌then◌else◌, List, [], ◌∷◌, take, slice_get, refl, arith}
use Rattle.std.proofs.lemmas.Bool.Decides.{nat_tests}
use Rattle.std.specs.Option.{option_map}
use Rattle.vlt_core.specs.Core.{VarDecl, Func, Program}
use Rattle.vlt_core.specs.Lookups.{var_type}
use Rattle.c_syntax.specs.declared.program.CVar.{CVar}
use Rattle.c_syntax.specs.Kinds.{same_variable, same_bool}
use Rattle.c_lower.specs.Slots.{Sort, of_number, of_reference, of_owner, Numbers, first_numbers, past, past_all, var_at, vars_at, slot_sorts, sorts_of, var_sorts, slot_vars, first_temps}
use Rattle.c_lower_worlds.specs.Operators.Codes.{IsBelow, AreUpTo}
use Rattle.c_lower_worlds.proofs.OfOperators.Codes.{up_self, up_past}
use Rattle.c_lower_worlds.proofs.OfOperators.Expressions.{up_all}
use Rattle.c_lower_worlds.specs.Frames.{IsBetween}
use Rattle.c_lower_worlds.specs.Naming.Lists.{Each}
use Rattle.c_lower_worlds.proofs.OfOperators.Slots.{past_all_append}

pub each_map : {A : Type 0} (P Q : A → Type 0) (xs : List A) → ((x : A) → P x → Q x) → Each P xs → Each Q xs
each_map P Q [] go h = tt
each_map P Q (x ∷ xs) go h = (go x h.0, each_map P Q xs go h.1)

-- ---- a list of slots

between_wider : (t u x y : Numbers) → AreUpTo t u → AreUpTo x y → (v : CVar) → IsBetween u x v → IsBetween t y v
between_wider t u x y a b v h = by v.reference h.from h.below
  where
    by : (r : Bool) → (if r then u.p else u.n) ≤ v.number → v.number < (if r then x.p else x.n) →
        IsBetween t y v
    by r f g = record { from = from v.reference h.from; below = below v.reference h.below }
      where
        from : (r : Bool) → (if r then u.p else u.n) ≤ v.number → (if r then t.p else t.n) ≤ v.number
        from true e = let l = a.p in omega arith
        from false e = let l = a.n in omega arith

        below : (r : Bool) → v.number < (if r then x.p else x.n) → v.number < (if r then y.p else y.n)
        below true e = let l = b.p in omega arith
        below false e = let l = b.n in omega arith

one_between : (t : Numbers) (s : Sort) → IsBetween t (past t s) (var_at t s)
one_between t of_number = record { from = omega arith; below = omega arith }
one_between t of_reference = record { from = omega arith; below = omega arith }
one_between t of_owner = record { from = omega arith; below = omega arith }

pub slots_between : (t : Numbers) (ss : List Sort) → Each (IsBetween t (past_all t ss)) (vars_at t ss)
slots_between t [] = tt
slots_between t (s ∷ ss) = (
  between_wider t t (past t s) (past_all (past t s) ss) (up_self t) (up_all (past t s) ss) (var_at t s) (one_between t s),
  each_map (IsBetween (past t s) (past_all (past t s) ss)) (IsBetween t (past_all (past t s) ss)) (vars_at (past t s) ss)
      (between_wider t (past t s) (past_all (past t s) ss) (past_all (past t s) ss) (up_past t s) (up_self (past_all (past t s) ss))) (slots_between (past t s) ss),
)

-- ---- variables that are apart

abbrev pub Apart : CVar → CVar → Type 0
Apart v u = same_variable v u ≡ false

pub between_apart : (t u x y : Numbers) (v w : CVar) → AreUpTo u x → IsBetween t u v → IsBetween x y w → Apart v w
between_apart t u x y v w m a b = by v.reference w.reference a.below b.from
  where
    by : (r q : Bool) → v.number < (if r then u.p else u.n) → (if q then x.p else x.n) ≤ w.number → (same_bool r q && (v.number == w.number)) ≡ false
    by true true l k = let e = m.p in grind (arith, nat_tests)
    by false false l k = let e = m.n in grind (arith, nat_tests)
    by true false l k = refl
    by false true l k = refl

pub apart_back : (v w : CVar) → Apart v w → Apart w v
apart_back v w h = by v.reference w.reference h
  where
    by : (r q : Bool) → (same_bool r q && (v.number == w.number)) ≡ false → (same_bool q r && (w.number == v.number)) ≡ false
    by true true h = grind (arith, nat_tests)
    by false false h = grind (arith, nat_tests)
    by true false h = refl
    by false true h = refl

pub same_self : (v : CVar) → same_variable v v ≡ true
same_self v = by v.reference
  where
    by : (r : Bool) → (same_bool r r && (v.number == v.number)) ≡ true
    by true = grind (arith, nat_tests)
    by false = grind (arith, nat_tests)

-- each is apart from those after it
abbrev pub AllApart : List CVar → Type 0
AllApart [] = Unit {0}
AllApart (v ∷ vs) = Each (Apart v) vs × AllApart vs

pub slots_apart : (t : Numbers) (ss : List Sort) → AllApart (vars_at t ss)
slots_apart t [] = tt
slots_apart t (s ∷ ss) = (
  each_map (IsBetween (past t s) (past_all (past t s) ss)) (Apart (var_at t s)) (vars_at (past t s) ss)
      (λ w b. between_apart t (past t s) (past t s) (past_all (past t s) ss) (var_at t s) w (up_self (past t s)) (one_between t s) b) (slots_between (past t s) ss),
  slots_apart (past t s) ss,
)

-- ---- the slots of a function's variables

abbrev pub starts : Program → Func → (v : ℕ) → Numbers
starts p f v = past_all first_numbers (var_sorts p (take v f.vars))

abbrev pub following : Program → Func → (v : ℕ) → Numbers
following p f v = past_all (starts p f v) (sorts_of p (var_type f v))

up_to_later : (p : Program) (ds : List VarDecl) (v w : ℕ) (t : Numbers) → v < w →
    AreUpTo (past_all (past_all t (var_sorts p (take v ds))) (sorts_of p (option_map (λ d. d.ty) (slice_get ds v)))) (past_all t (var_sorts p (take w ds)))
up_to_later p [] zero zero t l = up_self t
up_to_later p [] zero (suc w) t l = up_self t
up_to_later p [] (suc v) zero t l = up_self t
up_to_later p [] (suc v) (suc w) t l = up_self t
up_to_later p (d ∷ ds) v zero t l = absurd (omega arith)
up_to_later p (d ∷ ds) zero (suc w) t l =
    rw (past_all_append t (slot_sorts p d.ty) (var_sorts p (take w ds))) (up_all (past_all t (slot_sorts p d.ty)) (var_sorts p (take w ds)))
up_to_later p (d ∷ ds) (suc v) (suc w) t l =
    rw (past_all_append t (slot_sorts p d.ty) (var_sorts p (take w ds)), past_all_append t (slot_sorts p d.ty) (var_sorts p (take v ds)))
    (up_to_later p ds v w (past_all t (slot_sorts p d.ty)) (omega arith))

up_to_temps : (p : Program) (ds : List VarDecl) (v : ℕ) (t : Numbers) →
    AreUpTo (past_all (past_all t (var_sorts p (take v ds))) (sorts_of p (option_map (λ d. d.ty) (slice_get ds v)))) (past_all t (var_sorts p ds))
up_to_temps p [] zero t = up_self t
up_to_temps p [] (suc v) t = up_self t
up_to_temps p (d ∷ ds) zero t =
    rw (past_all_append t (slot_sorts p d.ty) (var_sorts p ds)) (up_all (past_all t (slot_sorts p d.ty)) (var_sorts p ds))
up_to_temps p (d ∷ ds) (suc v) t =
    rw (past_all_append t (slot_sorts p d.ty) (var_sorts p ds), past_all_append t (slot_sorts p d.ty) (var_sorts p (take v ds)))
    (up_to_temps p ds v (past_all t (slot_sorts p d.ty)))

-- the slots of a variable lie below the first temps
pub below_temps : (p : Program) (f : Func) (v : ℕ) → Each (IsBelow (first_temps p f)) (slot_vars p f v)
below_temps p f v =
    each_map (IsBetween (starts p f v) (following p f v)) (IsBelow (first_temps p f)) (slot_vars p f v)
    (λ u b. (between_wider (starts p f v) (starts p f v) (following p f v) (first_temps p f) (up_self (starts p f v)) (up_to_temps p f.vars v first_numbers) u b).below)
    (slots_between (starts p f v) (sorts_of p (var_type f v)))

-- and those of two variables are apart
pub vars_apart : (p : Program) (f : Func) (v w : ℕ) → v < w → Each (λ u. Each (Apart u) (slot_vars p f w)) (slot_vars p f v)
vars_apart p f v w l =
    each_map (IsBetween (starts p f v) (following p f v)) (λ u. Each (Apart u) (slot_vars p f w)) (slot_vars p f v)
    (λ u b. each_map (IsBetween (starts p f w) (following p f w)) (Apart u) (slot_vars p f w)
    (λ x c. between_apart (starts p f v) (following p f v) (starts p f w) (following p f w) u x (up_to_later p f.vars v w first_numbers l) b c)
    (slots_between (starts p f w) (sorts_of p (var_type f w))))
    (slots_between (starts p f v) (sorts_of p (var_type f v)))

-- a slot is apart from each temp
pub temp_apart : (t : Numbers) (s : Sort) (u : Numbers) (v : CVar) → AreUpTo u t → IsBelow u v → Apart v (var_at t s)
temp_apart t s u v m b = by s v.reference b
  where
    by : (s : Sort) (r : Bool) → v.number < (if r then u.p else u.n) → (same_bool r (var_at t s).reference && (v.number == (var_at t s).number)) ≡ false
    by of_number true l = refl
    by of_number false l = let e = m.n in grind (arith, nat_tests)
    by of_reference true l = let e = m.p in grind (arith, nat_tests)
    by of_reference false l = refl
    by of_owner true l = let e = m.p in grind (arith, nat_tests)
    by of_owner false l = refl
