-- Functions by their names.
use Rattle.std.proofs.Common.{◌≡◌, ◌∙◌, ℕ, suc, ◌+◌, Bool, true, false, if◌then◌else◌, List, [], ◌∷◌, Option, Some, refl, sym, ap, subst, arith, slice_get}
use Rattle.std.specs.Str.{bytes_eq}
use Rattle.vlt_core.specs.Core.{Name, Func, Program}
use Rattle.vlt_host_meaning.specs.EntryFunctions.{function_of_name}

some_same : (a b : ℕ) → Some a ≡ Some b → a ≡ b
some_same a b e = cc

-- the function of a name is there
pub function_there : (name : Name) (from : ℕ) (fs : List Func) (i : ℕ) → function_of_name name from fs ≡ Some i →
    (k : ℕ) × (i ≡ from + k) × ((f : Func) × (slice_get fs k ≡ Some f))
function_there name from [] i e = absurd cc
function_there name from (f ∷ fs) i e = by (bytes_eq f.name name) e (function_there name (from + 1) fs i)
  where
    by : (b : Bool) → (if b then Some from else function_of_name name (from + 1) fs) ≡ Some i →
        (function_of_name name (from + 1) fs ≡ Some i → (k : ℕ) × (i ≡ from + 1 + k) × ((g : Func) × (slice_get fs k ≡ Some g))) →
        (k : ℕ) × (i ≡ from + k) × ((g : Func) × (slice_get (f ∷ fs) k ≡ Some g))
    by true same there = (0, omega (arith, some_same from i same), (f, refl))
    by false later there =
        let x = there later in
        (suc x.0, omega (arith, x.1), x.2)

pub named_there : (name : Name) (fs : List Func) (i : ℕ) → function_of_name name 0 fs ≡ Some i → (f : Func) × (slice_get fs i ≡ Some f)
named_there name fs i e =
    let x = function_there name 0 fs i e in
    let same : x.0 ≡ i = omega (arith, x.1) in
    (x.2.0, subst (λ n. slice_get fs n ≡ Some x.2.0) same x.2.1)

-- of a program that is the same, whose functions these are
pub named : (p q : Program) (fs : List Func) (name : Name) (o : Option ℕ) → fs ≡ q.fns → p ≡ q → o ≡ function_of_name name 0 fs → function_of_name name 0 p.fns ≡ o
named p q fs name o are same is = ap (λ z. function_of_name name 0 z.fns) same ∙ ap (function_of_name name 0) (sym are) ∙ sym is
