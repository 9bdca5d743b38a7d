-- The C function of a function, by its number.
use Rattle.std.proofs.Common.{◌≡◌, ℕ, zero, suc, ◌+◌, ◌==◌, Bool, true, false, not, if◌then◌else◌, List, [], ◌∷◌, map, filter, take, length, Option, Some, slice_get, refl, sym, ap, ◌∙◌, subst, arith}
use Rattle.std.proofs.lemmas.Bool.{false≢true}
use Rattle.std.proofs.lemmas.Bool.Decides.{nat_tests}
use Rattle.std.proofs.lemmas.Option.{none-some, same_Some}
use Rattle.std.specs.List.{enumerate_from}
use Rattle.vlt_core.specs.Core.{Func, Program}
use Rattle.c_syntax.specs.C as syntax
use Rattle.c_meaning.specs.Run as crun
use Rattle.c_meaning.specs.Run.{Numbered, number_at, find_in, count_in}
use Rattle.c_lower.specs.Slots.{first_temps}
use Rattle.c_lower.specs.Statements.{list_code, name_of, is_alike, is_external_at}
use Rattle.c_lower.specs.Glue.{glue_code}
use Rattle.c_lower.specs.Lowering.{func_with, with_body, externals, lowered}
use Rattle.c_lower_worlds.proofs.OfOperators.Instanced.{list_same}
use Rattle.vlt_core.specs.Instances.{IsInstanceOf}
use Rattle.c_lower_runs.proofs.GlueInstances.{glue_same}

-- where a filter puts an element that passes
kept_at : {A : Type 0} (test other : A → Bool) (xs : List A) (i : ℕ) (x : A) → ((y : A) → test y ≡ other y) → slice_get xs i ≡ Some x → test x ≡ true →
    slice_get (filter test xs) (length (filter other (take i xs))) ≡ Some x
kept_at test other [] i x e at ok = absurd (none-some x at)
kept_at test other (y ∷ xs) zero x e at ok = by (test y) (ap test (same_Some y x at) ∙ ok)
  where
    by : (b : Bool) → b ≡ true → slice_get (if b then y ∷ filter test xs else filter test xs) 0 ≡ Some x
    by true h = at
    by false h = absurd (false≢true h)
kept_at test other (y ∷ xs) (suc i) x e at ok = rw (e y) (by (other y) (kept_at test other xs i x e at ok))
  where
    by : (b : Bool) → slice_get (filter test xs) (length (filter other (take i xs))) ≡ Some x →
        slice_get (if b then y ∷ filter test xs else filter test xs) (length (if b then y ∷ filter other (take i xs) else filter other (take i xs))) ≡ Some x
    by true h = h
    by false h = h

-- a numbered list of functions
pub record Found (o : Option Numbered) (f : syntax.Func) : Type 0 where
  pub first : ℕ
  pub is : o ≡ Some (record { func = f; first = first })

at_number : {A : Type 0} (go : ℕ → A → syntax.Func) (n a : ℕ) (xs : List A) (i : ℕ) (x : A) → slice_get xs i ≡ Some x →
    Found (number_at n (map (λ q. go q.0 q.1) (enumerate_from a xs)) i) (go (a + i) x)
at_number go n a [] i x at = absurd (none-some x at)
at_number go n a (y ∷ xs) zero x at = record { first = n; is = ap (λ f. Some (record { func = f; first = n })) (ap (go a) (same_Some y x at) ∙ ap (λ k. go k x) (none a)) }
  where
    none : (a : ℕ) → a ≡ a + 0
    none a = omega arith
at_number go n a (y ∷ xs) (suc i) x at =
    let h = at_number go (n + count_in (go a y).body) (a + 1) xs i x at in
    record { first = h.first; is = h.is ∙ ap (λ k. Some (record { func = go k x; first = h.first })) (more a i) }
  where
    more : (a i : ℕ) → a + 1 + i ≡ a + suc i
    more a i = omega arith

-- by the name, each function having its position's
by_name : {A : Type 0} (go : ℕ → A → syntax.Func) (n a : ℕ) (xs : List A) (i : ℕ) (x : A) → ((k : ℕ) (y : A) → (go k y).number ≡ k) → slice_get xs i ≡ Some x →
    Found (find_in n (map (λ q. go q.0 q.1) (enumerate_from a xs)) (a + i)) (go (a + i) x)
by_name go n a [] i x named at = absurd (none-some x at)
by_name go n a (y ∷ xs) zero x named at =
    subst (λ b. Found (if b then Some (record { func = go a y; first = n }) else find_in (n + count_in (go a y).body) (map (λ q. go q.0 q.1) (enumerate_from (a + 1) xs)) (a + 0)) (go (a + 0) x))
    (sym (ap (λ k. k == a + 0) (named a y) ∙ same a))
    (record { first = n; is = ap (λ f. Some (record { func = f; first = n })) (ap (go a) (same_Some y x at) ∙ ap (λ k. go k x) (none a)) })
  where
    none : (a : ℕ) → a ≡ a + 0
    none a = omega arith

    same : (a : ℕ) → (a == a + 0) ≡ true
    same a = grind (arith, nat_tests)
by_name go n a (y ∷ xs) (suc i) x named at =
    subst (λ b. Found (if b then Some (record { func = go a y; first = n }) else find_in (n + count_in (go a y).body) (map (λ q. go q.0 q.1) (enumerate_from (a + 1) xs)) (a + suc i)) (go (a + suc i) x))
    (sym (ap (λ k. k == a + suc i) (named a y) ∙ other a i))
    (subst (λ k. Found (find_in (n + count_in (go a y).body) (map (λ q. go q.0 q.1) (enumerate_from (a + 1) xs)) k) (go k x)) (more a i)
    (by_name go (n + count_in (go a y).body) (a + 1) xs i x named at))
  where
    more : (a i : ℕ) → a + 1 + i ≡ a + suc i
    more a i = omega arith

    other : (a i : ℕ) → (a == a + suc i) ≡ false
    other a i = grind (arith, nat_tests)

alike_not : (b : Bool) → not b ≡ is_alike false b
alike_not true = refl
alike_not false = refl

-- functions with a body
abbrev pub body_func : Program → (g : ℕ) → Func → syntax.Func
body_func p g f = func_with p (name_of p g).number f (list_code p f (first_temps p f) f.body)

abbrev pub glue_func : Program → (g : ℕ) → Func → syntax.Func
glue_func p g f = func_with p (name_of p g).number f (glue_code p f)

body_at : (p : Program) (g : ℕ) (f : Func) → slice_get p.fns g ≡ Some f → f.external ≡ false → slice_get (with_body p) (name_of p g).number ≡ Some f
body_at p g f at e =
    subst (λ b. slice_get (with_body p) (length (filter (λ f. is_alike b f.external) (take g p.fns))) ≡ Some f) (sym (ap is_external_at at ∙ e))
    (kept_at (λ f. not f.external) (λ f. is_alike false f.external) p.fns g f (λ y. alike_not y.external) at (ap not e))

glue_at : (p : Program) (g : ℕ) (f : Func) → slice_get p.fns g ≡ Some f → f.external ≡ true → slice_get (externals p) (name_of p g).number ≡ Some f
glue_at p g f at e =
    subst (λ b. slice_get (externals p) (length (filter (λ f. is_alike b f.external) (take g p.fns))) ≡ Some f) (sym (ap is_external_at at ∙ e))
    (kept_at (λ f. f.external) (λ f. is_alike true f.external) p.fns g f (λ y. refl) at e)

pub main_found : (p : Program) (f : Func) → slice_get p.fns p.main ≡ Some f → f.external ≡ false → Found (crun.main_of (lowered p)) (body_func p p.main f)
main_found p f at e =
    subst (λ k. Found (crun.main_of (lowered p)) (func_with p k f (list_code p f (first_temps p f) f.body))) (none (name_of p p.main).number)
    (at_number (λ k f. func_with p k f (list_code p f (first_temps p f) f.body)) (crun.count_in_all (lowered p).glue) 0 (with_body p) (name_of p p.main).number f (body_at p p.main f at e))
  where
    none : (k : ℕ) → 0 + k ≡ k
    none k = omega arith

declared_body : (p : Program) (g : ℕ) (f : Func) → slice_get p.fns g ≡ Some f → f.external ≡ false → Found (crun.function_of (lowered p) (name_of p g)) (body_func p g f)
declared_body p g f at e =
    subst (λ b. Found (if b then find_in 0 (lowered p).glue (name_of p g).number else find_in (crun.count_in_all (lowered p).glue) (lowered p).fns (name_of p g).number) (func_with p (name_of p g).number f (list_code p f (first_temps p f) f.body)))
    (sym (ap is_external_at at ∙ e))
    (subst (λ k. Found (find_in (crun.count_in_all (lowered p).glue) (lowered p).fns k) (func_with p k f (list_code p f (first_temps p f) f.body))) (none (name_of p g).number)
    (by_name (λ k f. func_with p k f (list_code p f (first_temps p f) f.body)) (crun.count_in_all (lowered p).glue) 0 (with_body p) (name_of p g).number f (λ k y. refl) (body_at p g f at e)))
  where
    none : (k : ℕ) → 0 + k ≡ k
    none k = omega arith

declared_glue : (p : Program) (g : ℕ) (f : Func) → slice_get p.fns g ≡ Some f → f.external ≡ true → Found (crun.function_of (lowered p) (name_of p g)) (glue_func p g f)
declared_glue p g f at e =
    subst (λ b. Found (if b then find_in 0 (lowered p).glue (name_of p g).number else find_in (crun.count_in_all (lowered p).glue) (lowered p).fns (name_of p g).number) (func_with p (name_of p g).number f (glue_code p f)))
    (sym (ap is_external_at at ∙ e))
    (subst (λ k. Found (find_in 0 (lowered p).glue k) (func_with p k f (glue_code p f))) (none (name_of p g).number)
    (by_name (λ k f. func_with p k f (glue_code p f)) 0 0 (externals p) (name_of p g).number f (λ k y. refl) (glue_at p g f at e)))
  where
    none : (k : ℕ) → 0 + k ≡ k
    none k = omega arith

-- ---- instances: their C function is that of the declared function

pub external_of : (p : Program) (g : ℕ) (f : Func) → (is : IsInstanceOf p g f) → is.declared.external ≡ f.external
external_of p g f is = ap (λ (f : Func). f.external) is.is

pub body_found : (p : Program) (g : ℕ) (f : Func) → IsInstanceOf p g f → f.external ≡ false → Found (crun.function_of (lowered p) (name_of p g)) (body_func p g f)
body_found p g f is e =
    subst (λ (f : Func). Found (crun.function_of (lowered p) (name_of p g)) (body_func p g f)) is.is
    (subst (λ code. Found (crun.function_of (lowered p) (name_of p g)) (func_with p (name_of p g).number is.declared code))
    (sym (list_same p is.declared is.origin (first_temps p is.declared) is.declared.body)) (declared_body p g is.declared is.at (external_of p g f is ∙ e)))

pub glue_found : (p : Program) (g : ℕ) (f : Func) → IsInstanceOf p g f → f.external ≡ true → Found (crun.function_of (lowered p) (name_of p g)) (glue_func p g f)
glue_found p g f is e =
    subst (λ (f : Func). Found (crun.function_of (lowered p) (name_of p g)) (glue_func p g f)) is.is
    (subst (λ code. Found (crun.function_of (lowered p) (name_of p g)) (func_with p (name_of p g).number is.declared code))
    (sym (glue_same p is.declared is.origin)) (declared_glue p g is.declared is.at (external_of p g f is ∙ e)))
