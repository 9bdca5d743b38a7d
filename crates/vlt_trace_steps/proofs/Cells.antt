-- Cells that are there, lists of as many elements, and objects of cases.
use Rattle.std.proofs.Common.{◌≡◌, ◌<◌, ◌≤◌, ℕ, ◌==◌, nat_lt, true, false, List, length, map, Some, Ok, sym, ap, ◌∙◌, arith}
use Rattle.std.proofs.lemmas.Bool.Decides.{nat_tests}
use Rattle.std.proofs.lemmas.List.{length-map}
use Rattle.vlt_core.specs.Lookups.{KeyIn}
use Rattle.vlt_meaning.specs.World.{Object, Frame, is_loose, no_value, other_object}
use Rattle.vlt_meaning.specs.Found.{◌>>=◌, or_fault, Named, if_so}
use Rattle.vlt_meaning.specs.Objects.{in_states, owned_at}
use Rattle.vlt_meaning.specs.Operands.{case_object}
use Rattle.vlt_trace_worlds.specs.View.{value_view}
use Rattle.vlt_trace_worlds.specs.declared.worlds.Value.{Value}

below : (i n : ℕ) → i < n → nat_lt i n ≡ true
below i n lt = grind (arith, nat_tests)

not_below : (i n : ℕ) → n ≤ i → nat_lt i n ≡ false
not_below i n le = grind (arith, nat_tests)

pub cell_there : (i n : ℕ) (cells : List Value) → n ≡ length cells → i < n → nat_lt i (length (map value_view cells)) ≡ true
cell_there i n cells e lt = ap (nat_lt i) (length-map cells value_view) ∙ below i (length cells) (omega arith)

pub no_cell_there : (i n : ℕ) (cells : List Value) → n ≡ length cells → n ≤ i → nat_lt i (length (map value_view cells)) ≡ false
no_cell_there i n cells e le = ap (nat_lt i) (length-map cells value_view) ∙ not_below i (length cells) (omega arith)

-- ---- as many

same : (n m : ℕ) → n ≡ m → (n == m) ≡ true
same n m e = grind (arith, nat_tests)

differ : (n m : ℕ) → (n ≡ m → ⊥) → (n == m) ≡ false
differ n m e = grind (arith, nat_tests)

pub same_count : {A B C : Type 0} (f : A → B) (xs : List A) (ys : List C) (n k : ℕ) → n ≡ length xs → k ≡ length ys → n ≡ k → (length (map f xs) == length ys) ≡ true
same_count f xs ys n k e g h = same (length (map f xs)) (length ys) (length-map xs f ∙ (sym e ∙ (h ∙ g)))

pub other_count : {A B C : Type 0} (f : A → B) (xs : List A) (ys : List C) (n k : ℕ) → n ≡ length xs → k ≡ length ys → (n ≡ k → ⊥) → (length (map f xs) == length ys) ≡ false
other_count f xs ys n k e g h = differ (length (map f xs)) (length ys) (λ q. h (e ∙ (sym (length-map xs f) ∙ (q ∙ sym g))))

pub mapped_count : {A B : Type 0} (f : A → B) (xs : List A) (ys : List B) (k : ℕ) → k ≡ length xs → map f xs ≡ ys → k ≡ length ys
mapped_count f xs ys k e h = e ∙ (sym (length-map xs f) ∙ ap length h)

-- ---- the object of a case's key

pub case_found : (k : KeyIn) (n i : ℕ) (frame : Frame) (objects : List Object) (o : Named) → frame.keys k.key ≡ Some i → Ok o ≡ owned_at is_loose objects n → i ≡ n → in_states k.states o ≡ case_object k n frame objects
case_found k n i frame objects o e g h =
    sym (ap (λ x. or_fault no_value x >>= (λ j. owned_at is_loose objects n >>= (λ q. if_so (j == n) other_object q >>= in_states k.states))) e
    ∙ (ap (λ x. x >>= (λ q. if_so (i == n) other_object q >>= in_states k.states)) (sym g)
    ∙ ap (λ b. if_so b other_object o >>= in_states k.states) (same i n h)))
