-- Notes whose numbers ascend are what is looked up by their numbers.
use Rattle.std.proofs.Common.{◌≡◌, ◌≤◌, ◌==◌, ℕ, suc, false, List, [], ◌∷◌, map, refl, ap, ◌∙◌, arith}
use Rattle.std.proofs.lemmas.Bool.{eq-eqb}
use Rattle.std.proofs.lemmas.Bool.Decides.{nat_tests}
use Rattle.vlt_core.specs.Least.{Noted, a_loop, a_join}
use Rattle.vlt_core_laws.proofs.Binding.{on_true, on_false}
use Rattle.cert_format.specs.Notes.{Note, at_loop, at_join, around_of, following_of, maps_of}
use Rattle.cert_fit_laws.specs.Complete.{named_by}
use Rattle.cert_fit_laws.proofs.Named.{read, number_of, Climbs}

apart : (m n : ℕ) → suc m ≤ n → (m == n) ≡ false
apart m n less = grind (arith, nat_tests)

-- a first note isn't looked up by another number
around_past : (x : Note) (notes : List Note) (n : ℕ) → suc (number_of (named_by x)) ≤ n → around_of (x ∷ notes) n ≡ around_of notes n
around_past (at_loop m around exit) notes n less = on_false (m == n) around (around_of notes n) (apart m n less)
around_past (at_join m maps) notes n less = refl

after_past : (x : Note) (notes : List Note) (n : ℕ) → suc (number_of (named_by x)) ≤ n → following_of (x ∷ notes) n ≡ following_of notes n
after_past (at_loop m around exit) notes n less = on_false (m == n) exit (following_of notes n) (apart m n less)
after_past (at_join m maps) notes n less = on_false (m == n) maps (following_of notes n) (apart m n less)

read_past : (x : Note) (notes : List Note) (y : Noted) → suc (number_of (named_by x)) ≤ number_of y → read (maps_of (x ∷ notes)) y ≡ read (maps_of notes) y
read_past x notes (a_loop n) less = ap (λ m. at_loop n m (following_of (x ∷ notes) n)) (around_past x notes n less) ∙ ap (λ m. at_loop n (around_of notes n) m) (after_past x notes n less)
read_past x notes (a_join n) less = ap (λ m. at_join n m) (after_past x notes n less)

reads_past : (x : Note) (notes : List Note) (k m : ℕ) (ys : List Noted) → suc (number_of (named_by x)) ≤ m → Climbs m k ys → map (read (maps_of (x ∷ notes))) ys ≡ map (read (maps_of notes)) ys
reads_past x notes k m [] less c = refl
reads_past x notes k m (y ∷ ys) less c =
    ap (λ z. z ∷ map (read (maps_of (x ∷ notes))) ys) (read_past x notes y (over (number_of (named_by x)) m (number_of y) less c.0)) ∙
    ap (λ zs. read (maps_of notes) y ∷ zs) (reads_past x notes k (suc (number_of y)) ys (further (number_of (named_by x)) m (number_of y) less c.0) c.1)
  where
    over : (a m n : ℕ) → suc a ≤ m → m ≤ n → suc a ≤ n
    over a m n x y = omega (arith, x, y)

    further : (a m n : ℕ) → suc a ≤ m → m ≤ n → suc a ≤ suc n
    further a m n x y = omega (arith, x, y)

read_first : (x : Note) (notes : List Note) → read (maps_of (x ∷ notes)) (named_by x) ≡ x
read_first (at_loop n around exit) notes =
    ap (λ m. at_loop n m (following_of (at_loop n around exit ∷ notes) n)) (on_true (n == n) around (around_of notes n) (eq-eqb n n refl)) ∙ ap (λ m. at_loop n around m) (on_true (n == n) exit (following_of notes n) (eq-eqb n n refl))
read_first (at_join n maps) notes = ap (λ m. at_join n m) (on_true (n == n) maps (following_of notes n) (eq-eqb n n refl))

pub reads_back : (notes : List Note) (m k : ℕ) → Climbs m k (map named_by notes) → map (read (maps_of notes)) (map named_by notes) ≡ notes
reads_back [] m k c = refl
reads_back (x ∷ notes) m k c =
    ap (λ z. z ∷ map (read (maps_of (x ∷ notes))) (map named_by notes)) (read_first x notes) ∙
    ap (λ zs. x ∷ zs) (reads_past x notes k (suc (number_of (named_by x))) (map named_by notes) (same (suc (number_of (named_by x)))) c.1 ∙ reads_back notes (suc (number_of (named_by x))) k c.1)
  where
    same : (a : ℕ) → a ≤ a
    same a = omega arith
