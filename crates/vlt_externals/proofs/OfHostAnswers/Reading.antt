-- Readings one after another.
use Rattle.std.proofs.Common.{◌≡◌, ℕ, ℤ, List, ◌∷◌, Option, None, Some, refl, sym, ap, ◌∙◌}
use Rattle.std.specs.Borrow.{Bor}
use Rattle.vlt_core.specs.Core.{States, owning}
use Rattle.vlt_meaning.specs.HostAnswers.{Reading, reads, then_reads, ◌>>=◌, each, state_in, piece_of, new_in}
use Rattle.vlt_externals.specs.HostAnswers.Read.{as_read, rest_of}

pub each_none : {A B : Type 0} (f : A → Reading B) (a : A) (rest : List A) (zs : List ℤ) → f a zs ≡ None → each f (a ∷ rest) zs ≡ None
each_none f a rest zs e = ap (then_reads (λ b. each f rest >>= (λ bs. reads (b ∷ bs)))) e

pub each_some : {A B : Type 0} (f : A → Reading B) (a : A) (rest : List A) (zs : List ℤ) (b : B) (more : List ℤ) → f a zs ≡ Some (b, more) → each f (a ∷ rest) zs ≡ then_reads (λ bs. reads (b ∷ bs)) (each f rest more)
each_some f a rest zs b more e = ap (then_reads (λ b. each f rest >>= (λ bs. reads (b ∷ bs)))) e

-- what is left after all but the first
pub each_rest : {A B : Type 0} (f : A → Reading B) (a : A) (rest : List A) (zs : List ℤ) (b : B) (more : List ℤ) → f a zs ≡ Some (b, more) → rest_of (each f (a ∷ rest) zs) ≡ rest_of (each f rest more)
each_rest {B = B} f a rest zs b more e = ap rest_of (each_some f a rest zs b more e) ∙ by (each f rest more)
  where
    by : (x : Option (List B × List ℤ)) → rest_of (then_reads (λ bs. reads (b ∷ bs)) x) ≡ rest_of x
    by None = refl
    by (Some q) = refl

-- ---- what code reads

-- what was read, as its pair
pub as_some : {A B : Type 0} (view : A → B) (r : Option (A × Bor (List ℤ))) (a : A) (left : Bor (List ℤ)) (x : Option (B × List ℤ)) → r ≡ Some (a, left) → as_read view r ≡ x → x ≡ Some (view a, left.now)
as_some view r a left x is e = sym e ∙ ap (as_read view) is

pub as_none : {A B : Type 0} (view : A → B) (r : Option (A × Bor (List ℤ))) (x : Option (B × List ℤ)) → r ≡ None → as_read view r ≡ x → x ≡ None
as_none view r x is e = sym e ∙ ap (as_read view) is

-- a new object's state
pub new_some : (states : States) (zs : List ℤ) (s : ℕ) (left : List ℤ) (t : ℕ) (args : List ℕ) → state_in states zs ≡ Some (s, left) → piece_of (owning states t args) zs ≡ Some (new_in s, left)
new_some states zs s left t args e = ap (then_reads (λ n. reads (new_in n))) e

pub new_none : (states : States) (zs : List ℤ) (t : ℕ) (args : List ℕ) → state_in states zs ≡ None → piece_of (owning states t args) zs ≡ None
new_none states zs t args e = ap (then_reads (λ n. reads (new_in n))) e
