-- A body has one list of least notes.
use Rattle.std.proofs.Common.{◌≡◌, ◌≤◌, ◌+◌, ◌==◌, ℕ, suc, false, if◌then◌else◌, List, [], ◌∷◌, map, refl, sym, ap, ◌∙◌, subst, arith}
use Rattle.std.proofs.lemmas.Bool.{eq-eqb}
use Rattle.std.proofs.lemmas.Bool.Decides.{nat_tests}
use Rattle.vlt_core.specs.Core.{Func, Program}
use Rattle.vlt_core.specs.Maps.{HeldMap, IsBelow}
use Rattle.vlt_core.specs.Flow.{size_block}
use Rattle.vlt_core.specs.Bodies.{body_flow}
use Rattle.vlt_core.specs.Least.{Note, at_loop, at_join, Noted, a_loop, a_join, noted_by, around_in, after_in, notes_in, LiesBelow, LieBelow, IsLeast}
use Rattle.vlt_core_laws.proofs.Binding.{on_true, on_false}
use Rattle.cert_fit_laws.proofs.Named.{number_of, Climbs}
use Rattle.cert_least_laws.proofs.Below.{same_map}
use Rattle.cert_least_laws.proofs.Climbing.{climb_block}

apart : (m n : ℕ) → suc m ≤ n → (m == n) ≡ false
apart m n less = grind (arith, nat_tests)

over : (a m n : ℕ) → suc a ≤ m → m ≤ n → suc a ≤ n
over a m n x y = omega (arith, x, y)

after : (a m n : ℕ) → suc a ≤ m → m ≤ n → suc a ≤ suc n
after a m n x y = omega (arith, x, y)

least_number : (a : ℕ) → suc a ≤ suc a
least_number a = omega arith

-- ---- a first note isn't looked up by another number

pub around_past : (y : Note) (ys : List Note) (n : ℕ) → suc (number_of (noted_by y)) ≤ n → around_in (y ∷ ys) n ≡ around_in ys n
around_past (at_loop m a e) ys n less = on_false (m == n) a (around_in ys n) (apart m n less)
around_past (at_join m a) ys n less = refl

pub after_past : (y : Note) (ys : List Note) (n : ℕ) → suc (number_of (noted_by y)) ≤ n → after_in (y ∷ ys) n ≡ after_in ys n
after_past (at_loop m a e) ys n less = on_false (m == n) e (after_in ys n) (apart m n less)
after_past (at_join m a) ys n less = on_false (m == n) a (after_in ys n) (apart m n less)

lies_past : (y : Note) (ys : List Note) (x : Note) → suc (number_of (noted_by y)) ≤ number_of (noted_by x) → LiesBelow (notes_in (y ∷ ys)) x → LiesBelow (notes_in ys) x
lies_past y ys (at_loop n a e) less b = (subst (IsBelow a) (around_past y ys n less) b.0, subst (IsBelow e) (after_past y ys n less) b.1)
lies_past y ys (at_join n a) less b = subst (IsBelow a) (after_past y ys n less) b

lie_past : (y : Note) (ys xs : List Note) (m k : ℕ) → suc (number_of (noted_by y)) ≤ m → Climbs m k (map noted_by xs) → LieBelow (notes_in (y ∷ ys)) xs → LieBelow (notes_in ys) xs
lie_past y ys [] m k less c b = tt
lie_past y ys (x ∷ xs) m k less c b = (
  lies_past y ys x (over (number_of (noted_by y)) m (number_of (noted_by x)) less c.0) b.0,
  lie_past y ys xs (suc (number_of (noted_by x))) k (after (number_of (noted_by y)) m (number_of (noted_by x)) less c.0) c.1 b.1,
)

-- ---- notes of one statement that lie below each other are one

loop_same : (n m : ℕ) → a_loop n ≡ a_loop m → n ≡ m
loop_same n m e = cc

join_same : (n m : ℕ) → a_join n ≡ a_join m → n ≡ m
join_same n m e = cc

not_same : (n m : ℕ) → a_loop n ≡ a_join m → ⊥
not_same n m e = cc

-- a map that is looked up by the number of the first note
first : (m n : ℕ) (a b c : HeldMap) → n ≡ m → IsBelow a (if m == n then b else c) → IsBelow a b
first m n a b c e below = subst (IsBelow a) (on_true (m == n) b c (eq-eqb m n (sym e))) below

same_note : (x y : Note) (xs ys : List Note) → noted_by x ≡ noted_by y → LiesBelow (notes_in (y ∷ ys)) x → LiesBelow (notes_in (x ∷ xs)) y → x ≡ y
same_note (at_loop n a e) (at_loop m b f) xs ys same p q =
    let s = loop_same n m same in
    let one = same_map a b (first m n a b (around_in ys n) s p.0) (first n m b a (around_in xs m) (sym s) q.0) in
    let two = same_map e f (first m n e f (after_in ys n) s p.1) (first n m f e (after_in xs m) (sym s) q.1) in
    ap (λ i. at_loop i a e) s ∙ (ap (λ h. at_loop m h e) one ∙ ap (λ h. at_loop m b h) two)
same_note (at_join n a) (at_join m b) xs ys same p q =
    let s = join_same n m same in
    ap (λ i. at_join i a) s ∙ ap (λ h. at_join m h) (same_map a b (first m n a b (after_in ys n) s p) (first n m b a (after_in xs m) (sym s) q))
same_note (at_loop n a e) (at_join m b) xs ys same p q = absurd (not_same n m same)
same_note (at_join n a) (at_loop m b f) xs ys same p q = absurd (not_same m n (sym same))

-- ---- lists

head_same : (a b : Noted) (cs ds : List Noted) → a ∷ cs ≡ b ∷ ds → a ≡ b
head_same a b cs ds e = cc

tail_same : (a b : Noted) (cs ds : List Noted) → a ∷ cs ≡ b ∷ ds → cs ≡ ds
tail_same a b cs ds e = cc

none_some : (b : Noted) (ds : List Noted) → [] ≡ b ∷ ds → ⊥
none_some b ds e = cc

same_notes : (xs ys : List Note) (m k : ℕ) → map noted_by xs ≡ map noted_by ys → Climbs m k (map noted_by xs) → LieBelow (notes_in ys) xs → LieBelow (notes_in xs) ys → xs ≡ ys
same_notes [] [] m k e c p q = refl
same_notes [] (y ∷ ys) m k e c p q = absurd (none_some (noted_by y) (map noted_by ys) e)
same_notes (x ∷ xs) [] m k e c p q = absurd (none_some (noted_by x) (map noted_by xs) (sym e))
same_notes (x ∷ xs) (y ∷ ys) m k e c p q =
    let head = head_same (noted_by x) (noted_by y) (map noted_by xs) (map noted_by ys) e in
    let tail = tail_same (noted_by x) (noted_by y) (map noted_by xs) (map noted_by ys) e in
    let one = same_note x y xs ys head p.0 q.0 in
    let from = suc (number_of (noted_by x)) in
    let above = subst (λ z. suc (number_of z) ≤ from) head (least_number (number_of (noted_by x))) in
    let more = same_notes xs ys from k tail c.1
    (lie_past y ys xs from k above c.1 p.1)
    (lie_past x xs ys from k (least_number (number_of (noted_by x))) (subst (Climbs from k) tail c.1) q.1) in
    ap (λ z. z ∷ xs) one ∙ ap (λ zs. y ∷ zs) more

-- ---- bodies

pub one_least : (p : Program) (f : Func) (xs ys : List Note) → IsLeast p f xs → IsLeast p f ys → xs ≡ ys
one_least p f xs ys x y =
    same_notes xs ys 0 (0 + size_block (body_flow p f)) (x.complete ∙ sym y.complete)
    (subst (Climbs 0 (0 + size_block (body_flow p f))) (sym x.complete) (climb_block 0 (body_flow p f)))
    (x.least (notes_in ys) y.local) (y.least (notes_in xs) x.local)
