-- The position of a name, and its value.
use Rattle.std.proofs.Common.{◌≡◌, ℕ, ℤ, zero, suc, ◌+◌, ◌<◌, ◌≤◌, min, nat_le, Bool, true, false, if◌then◌else◌, List, [], ◌∷◌, ◌++◌, map, length, drop, drop-cons, get_or, Option, Some, None, refl, sym, ap, ◌∙◌, arith, slice_get}
use Rattle.std.proofs.lemmas.Bool.Decides.{nat_tests}
use Rattle.std.specs.Option.{option_map}
use Rattle.std.proofs.lemmas.Option.{none-some, slice_get-map}
use Rattle.c_syntax.specs.declared.program.CVar.{CVar}
use Rattle.c_syntax.specs.Kinds.{same_variable}
use Rattle.c_meaning.specs.World as model
use Rattle.c_meaning.specs.Blocks.{option_join}
use Rattle.c_machine.specs.Machine.{value_under}
use Rattle.std.specs.Option.{IfSome}
use Rattle.vlt_rings.specs.Things.{Things}
use Rattle.c_values.specs.declared.value.Value.{Value}
use Rattle.c_values.specs.declared.value.Value.TheVariants.{Number}
use Rattle.c_values.specs.Shown.{AreMadeSlots, IsMadeValue, value_view}
use Rattle.c_values.specs.Places.{place_in}

add_zero : (x : Option ℕ) → option_map (λ k. 0 + k) x ≡ x
add_zero None = refl
add_zero (Some k) = ap (λ n. Some n) (omega arith)

add_suc : (i : ℕ) (x : Option ℕ) → option_map (λ k. i + k) (option_map suc x) ≡ option_map (λ k. (i + 1) + k) x
add_suc i None = refl
add_suc i (Some k) = ap (λ n. Some n) (omega arith)

pub from_start : (names : List CVar) (v : CVar) → place_in names v ≡ option_map (λ k. 0 + k) (place_in (drop 0 names) v)
from_start names v = sym (add_zero (place_in names v))

module _ (names : List CVar) (v : CVar) (i : ℕ) (item : CVar) (within : i < length names) (is : item ≡ get_or names i item) (so : place_in names v ≡ option_map (λ k. i + k) (place_in (drop i names) v)) where
  cut : drop i names ≡ item ∷ drop (suc i) names
  cut = drop-cons names i item within ∙ ap (λ x. x ∷ drop (suc i) names) (sym is)

  pub not_here : same_variable v item ≡ false → place_in names v ≡ option_map (λ k. (i + 1) + k) (place_in (drop (i + 1) names) v)
  not_here other =
      let up : suc i ≡ i + 1 = omega arith in
      so ∙ ap (λ l. option_map (λ k. i + k) (place_in l v)) cut ∙ ap (λ t. option_map (λ k. i + k) (if t then Some 0 else option_map suc (place_in (drop (suc i) names) v))) other
      ∙ add_suc i (place_in (drop (suc i) names) v) ∙ ap (λ j. option_map (λ k. (i + 1) + k) (place_in (drop j names) v)) up

  pub here : same_variable v item ≡ true → Some i ≡ place_in names v
  here so_is = sym (so ∙ ap (λ l. option_map (λ k. i + k) (place_in l v)) cut ∙ ap (λ t. option_map (λ k. i + k) (if t then Some 0 else option_map suc (place_in (drop (suc i) names) v))) so_is ∙ ap (λ n. Some n) (omega arith))

none_beyond : (names : List CVar) (i : ℕ) → length names ≤ i → drop i names ≡ []
none_beyond [] zero l = refl
none_beyond [] (suc i) l = refl
none_beyond (x ∷ names) zero l = absurd (omega (arith, l))
none_beyond (x ∷ names) (suc i) l = none_beyond names i (omega (arith, l))

pub nowhere : (names : List CVar) (v : CVar) (i : ℕ) → length names ≤ i → place_in names v ≡ option_map (λ k. i + k) (place_in (drop i names) v) → None ≡ place_in names v
nowhere names v i l so = sym (so ∙ ap (λ xs. option_map (λ k. i + k) (place_in xs v)) (none_beyond names i l))

-- ---- two lists of names

pub in_first : (ps vs : List CVar) (v : CVar) (i : ℕ) → place_in ps v ≡ Some i → Some i ≡ place_in (ps ++ vs) v
in_first [] vs v i e = absurd (none-some i e)
in_first (p ∷ ps) vs v i e = by (same_variable v p) e (λ j h. in_first ps vs v j h)
  where
    up : (x y : Option ℕ) → ((j : ℕ) → x ≡ Some j → Some j ≡ y) → option_map suc x ≡ Some i → Some i ≡ option_map suc y
    up None y again is = absurd (none-some i is)
    up (Some j) y again is = sym is ∙ ap (option_map suc) (again j refl)

    by : (t : Bool) → (if t then Some 0 else option_map suc (place_in ps v)) ≡ Some i → ((j : ℕ) → place_in ps v ≡ Some j → Some j ≡ place_in (ps ++ vs) v) → Some i ≡ (if t then Some 0 else option_map suc (place_in (ps ++ vs) v))
    by true is again = sym is
    by false is again = up (place_in ps v) (place_in (ps ++ vs) v) again is

pub in_second : (ps vs : List CVar) (v : CVar) → place_in ps v ≡ None → option_map (λ j. length ps + j) (place_in vs v) ≡ place_in (ps ++ vs) v
in_second [] vs v e = add_zero (place_in vs v)
in_second (p ∷ ps) vs v e = by (same_variable v p) e (λ h. in_second ps vs v h)
  where
    down : (x : Option ℕ) → option_map suc x ≡ None → x ≡ None
    down None is = refl
    down (Some j) is = absurd (none-some (suc j) (sym is))

    more : (x : Option ℕ) → option_map (λ j. suc (length ps) + j) x ≡ option_map suc (option_map (λ j. length ps + j) x)
    more None = refl
    more (Some j) = ap (λ n. Some n) (omega arith)

    by : (t : Bool) → (if t then Some 0 else option_map suc (place_in ps v)) ≡ None → (place_in ps v ≡ None → option_map (λ j. length ps + j) (place_in vs v) ≡ place_in (ps ++ vs) v)
        → option_map (λ j. suc (length ps) + j) (place_in vs v) ≡ (if t then Some 0 else option_map suc (place_in (ps ++ vs) v))
    by true is again = absurd (none-some 0 (sym is))
    by false is again = more (place_in vs v) ∙ ap (option_map suc) (again (down (place_in ps v) is))

-- ---- values

abbrev pub value_by : List (Option model.Value) → Option ℕ → Option model.Value
value_by xs None = None
value_by xs (Some i) = option_join (slice_get xs i)

pub looked_by : (vs : List CVar) (xs : List (Option model.Value)) (v : CVar) → value_under vs xs v ≡ value_by xs (place_in vs v)
looked_by [] xs v = refl
looked_by (w ∷ vs) [] v = by (same_variable v w) (place_in vs v)
  where
    by : (t : Bool) (p : Option ℕ) → None ≡ value_by [] (if t then Some 0 else option_map suc p)
    by true p = refl
    by false None = refl
    by false (Some i) = refl
looked_by (w ∷ vs) (x ∷ xs) v = by (same_variable v w) (place_in vs v) (looked_by vs xs v)
  where
    by : (t : Bool) (p : Option ℕ) → value_under vs xs v ≡ value_by xs p → (if t then x else value_under vs xs v) ≡ value_by (x ∷ xs) (if t then Some 0 else option_map suc p)
    by true p e = refl
    by false None e = e
    by false (Some i) e = e

-- ---- what a position shows

joined_map : {A B : Type 0} (f : A → B) (xs : List (Option A)) (i : ℕ) → option_map f (option_join (slice_get xs i)) ≡ option_join (slice_get (map (option_map f) xs) i)
joined_map {A = A} f xs i = by (slice_get xs i) ∙ ap option_join (sym (slice_get-map (option_map f) xs i))
  where
    by : (x : Option (Option A)) → option_map f (option_join x) ≡ option_join (option_map (option_map f) x)
    by None = refl
    by (Some x) = refl

get_drop : {A : Type 0} (xs : List A) (n j : ℕ) → slice_get (drop n xs) j ≡ slice_get xs (n + j)
get_drop xs zero j = let e : j ≡ 0 + j = omega arith in ap (slice_get xs) e
get_drop [] (suc n) j = refl
get_drop (x ∷ xs) (suc n) j = let e : suc (n + j) ≡ suc n + j = omega arith in get_drop xs n j ∙ ap (slice_get (x ∷ xs)) e

past_end : {A : Type 0} (xs : List A) (i : ℕ) → length xs ≤ i → slice_get xs i ≡ None
past_end [] i l = refl
past_end (x ∷ xs) zero l = absurd (omega (arith, l))
past_end (x ∷ xs) (suc i) l = past_end xs i (omega (arith, l))

-- after the first n, of which there may be fewer
get_after : {A : Type 0} (xs : List A) (n m j : ℕ) → m ≡ min n (length xs) → slice_get (drop m xs) j ≡ slice_get xs (n + j)
get_after xs n m j e = by (nat_le n (length xs)) refl
  where
    by : (t : Bool) → nat_le n (length xs) ≡ t → slice_get (drop m xs) j ≡ slice_get xs (n + j)
    by true is = let l : n ≤ length xs = grind (arith, nat_tests) in let k : m ≡ n = omega (arith, e, l) in ap (λ i. slice_get (drop i xs) j) k ∙ get_drop xs n j
    by false is =
        let l : length xs < n = grind (arith, nat_tests) in
        let k : m ≡ length xs = omega (arith, e, l) in
        get_drop xs m j ∙ past_end xs (m + j) (omega (arith, k)) ∙ sym (past_end xs (n + j) (omega (arith, l)))

module _ {A : Type 0} (f : A → model.Value) (ps vs : List CVar) (values : List (Option A)) (v : CVar) where
  pub first_shown : (i : ℕ) → place_in ps v ≡ Some i → option_map f (option_join (slice_get values i)) ≡ value_under (ps ++ vs) (map (option_map f) values) v
  first_shown i e = joined_map f values i ∙ ap (value_by (map (option_map f) values)) (in_first ps vs v i e) ∙ sym (looked_by (ps ++ vs) (map (option_map f) values) v)

  pub second_shown : (m j : ℕ) → place_in ps v ≡ None → place_in vs v ≡ Some j → m ≡ min (length ps) (length values) → option_map f (option_join (slice_get (drop m values) j)) ≡ value_under (ps ++ vs) (map (option_map f) values) v
  second_shown m j e is k =
      ap (λ x. option_map f (option_join x)) (get_after values (length ps) m j k) ∙ joined_map f values (length ps + j)
      ∙ ap (value_by (map (option_map f) values)) (ap (option_map (λ i. length ps + i)) (sym is) ∙ in_second ps vs v e) ∙ sym (looked_by (ps ++ vs) (map (option_map f) values) v)

  pub none_shown : place_in ps v ≡ None → place_in vs v ≡ None → None ≡ value_under (ps ++ vs) (map (option_map f) values) v
  none_shown e is = sym (looked_by (ps ++ vs) (map (option_map f) values) v ∙ ap (value_by (map (option_map f) values)) (sym (in_second ps vs v e) ∙ ap (option_map (λ i. length ps + i)) is))

pub at_position : {A : Type 0} (xs : List (Option A)) (i : ℕ) (a : A) → option_join (slice_get xs i) ≡ Some a → slice_get xs i ≡ Some (Some a)
at_position {A = A} xs i a e = by (slice_get xs i) refl e
  where
    by : (x : Option (Option A)) → slice_get xs i ≡ x → option_join x ≡ Some a → slice_get xs i ≡ Some (Some a)
    by None is j = absurd (none-some a j)
    by (Some x) is j = is ∙ ap (λ y. Some y) j

pub at_after : {A : Type 0} (xs : List (Option A)) (m j : ℕ) (a : A) → option_join (slice_get (drop m xs) j) ≡ Some a → slice_get xs (m + j) ≡ Some (Some a)
at_after xs m j a e = sym (get_drop xs m j) ∙ at_position (drop m xs) j a e

pub slot_made : (slots : List (Option Value)) (r : Option Value) (k : ℕ) → ((a : Value) → r ≡ Some a → slice_get slots k ≡ Some (Some a)) → IfSome r (λ a. (ts : Things) → AreMadeSlots ts slots → IsMadeValue ts a)
slot_made slots None k h = tt
slot_made slots (Some a) k h = λ ts made. made k a (h a refl)

-- the number that a variable shows
pub number_shown : (r : Option ℤ) (x : Option Value) (y : Option model.Value) → IfSome r (λ z. x ≡ Some (Number z)) → option_map value_view x ≡ y → IfSome r (λ z. y ≡ Some (model.number z))
number_shown None x y h shown = tt
number_shown (Some z) x y h shown = sym shown ∙ ap (option_map value_view) h
