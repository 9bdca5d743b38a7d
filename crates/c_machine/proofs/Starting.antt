-- The start of a run fits, and what a program's functions are.
use Rattle.std.proofs.Common.{◌≡◌, ℕ, zero, suc, ◌+◌, ◌≤◌, ◌==◌, max, Bool, true, false, if◌then◌else◌, List, [], ◌∷◌, length, Some, subst, arith}
use Rattle.std.proofs.lemmas.Option.{none-some, same_Some}
use Rattle.c_syntax.specs.declared.program.CName.{CName}
use Rattle.c_syntax.specs.C.{Func, Program}
use Rattle.c_meaning.specs.World.{World}
use Rattle.c_meaning.specs.Run.{Numbered, count_in, count_in_all, function_of, find_in, main_of, number_at}
use Rattle.c_machine.specs.Machine.{first_conf, Declares, AllDeclare, IsDeclared}
use Rattle.c_meaning.specs.Widths.{names_of, most, width_of, cells_of}
use Rattle.c_machine.specs.Bounds.{need_of, Sizes, sizes_of, Fits}
use Rattle.c_machine.proofs.Names.{first_long}
use Rattle.c_machine.proofs.Fitting.{IsSmallFunc}

-- each function has at most the most
record AtMost (f : Func → ℕ) (fs : List Func) (g : Func) : Type 0 where
  at_most : f g ≤ most f fs

find_at_most : (f : Func → ℕ) (n : ℕ) (fs : List Func) (name : ℕ) (g : Numbered) → find_in n fs name ≡ Some g → f g.func ≤ most f fs
find_at_most f n [] name g is = absurd (none-some g is)
find_at_most f n (x ∷ fs) name g is = by (x.number == name) (λ e. find_at_most f (n + count_in x.body) fs name g e) is
  where
    by : (t : Bool) → (find_in (n + count_in x.body) fs name ≡ Some g → f g.func ≤ most f fs) → (if t then Some (record { func = x; first = n }) else find_in (n + count_in x.body) fs name) ≡ Some g → f g.func ≤ max (f x) (most f fs)
    by true later e = subst (λ y. f y.func ≤ max (f x) (most f fs)) (same_Some (record { func = x; first = n }) g e) (omega arith)
    by false later e = let k = later e in omega (arith, k)

at_most : (f : Func → ℕ) (n : ℕ) (fs : List Func) (i : ℕ) (g : Numbered) → number_at n fs i ≡ Some g → f g.func ≤ most f fs
at_most f n [] i g is = absurd (none-some g is)
at_most f n (x ∷ fs) zero g is = subst (λ y. f y.func ≤ max (f x) (most f fs)) (same_Some (record { func = x; first = n }) g is) (omega arith)
at_most f n (x ∷ fs) (suc i) g is = let k = at_most f (n + count_in x.body) fs i g is in omega (arith, k)

pub functions_small : (p : Program) (depth : ℕ) (f : CName) (g : Numbered) → function_of p f ≡ Some g → IsSmallFunc (sizes_of p) depth f.glue g.func
functions_small p depth f g is = by f.glue is
  where
    by : (t : Bool) → (if t then find_in 0 p.glue f.number else find_in (count_in_all p.glue) p.fns f.number) ≡ Some g → IsSmallFunc (sizes_of p) depth t g.func
    by true e = record {
      width = find_at_most width_of 0 p.glue f.number g e;
      need = (let k = find_at_most need_of 0 p.glue f.number g e in omega (arith, k));
      cells = (let k = find_at_most cells_of 0 p.glue f.number g e in omega (arith, k));
    }
    by false e = record {
      width = find_at_most width_of (count_in_all p.glue) p.fns f.number g e;
      need = (let k = find_at_most need_of (count_in_all p.glue) p.fns f.number g e in omega (arith, k));
      cells = (let k = find_at_most cells_of (count_in_all p.glue) p.fns f.number g e in omega (arith, k));
    }

declared_at : (n : ℕ) (fs : List Func) (i : ℕ) (g : Numbered) → AllDeclare fs → number_at n fs i ≡ Some g → Declares (names_of g.func) g.func.body
declared_at n [] i g all is = absurd (none-some g is)
declared_at n (x ∷ fs) zero g all is = subst (λ y. Declares (names_of y.func) y.func.body) (same_Some (record { func = x; first = n }) g is) all.0
declared_at n (x ∷ fs) (suc i) g all is = declared_at (n + count_in x.body) fs i g all.1 is

pub main_declared : (p : Program) (g : Numbered) → IsDeclared p → main_of p ≡ Some g → Declares (names_of g.func) g.func.body
main_declared p g declared is = declared_at (count_in_all p.glue) p.fns p.main g declared.fns is

-- the start of a run
pub first_fits : (p : Program) (depth : ℕ) (g : Numbered) (w : World) → main_of p ≡ Some g → 1 ≤ depth → length g.func.params ≡ 0 → Fits (sizes_of p) depth (first_conf g w).tasks (first_conf g w).state
first_fits p depth g w is some none =
    let z : Sizes = sizes_of p in
    let width = at_most width_of (count_in_all p.glue) p.fns p.main g is in
    let need = at_most need_of (count_in_all p.glue) p.fns p.main g is in
    let cells = at_most cells_of (count_in_all p.glue) p.fns p.main g is in
    let long = first_long g.func [] none in
    record {
      frame = record { values = omega arith; levels = omega arith; tasks = omega (arith, need) };
      within = some;
      top = omega arith;
      slots = omega (arith, long, width);
      callers = tt;
      small = (omega (arith, cells), tt);
    }
