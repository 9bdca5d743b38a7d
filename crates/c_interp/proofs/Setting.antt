-- The values of a frame, and what setting one does.
use Rattle.std.proofs.Common.{◌≡◌, ℕ, zero, suc, ◌+◌, ◌-◌, Bool, true, false, if◌then◌else◌, List, [], ◌∷◌, ◌++◌, map, take, drop, replicate, Option, Some, None, refl, sym, ap, ◌∙◌, subst, arith, slice_get, slice_set}
use Rattle.std.specs.Option.{option_map}
use Rattle.std.proofs.lemmas.List.{drop-map, map-set}
use Rattle.std.proofs.lemmas.Option.{none-some, same_Some}
use Rattle.vlt_rings.specs.Things.{Things, KeepMade}
use Rattle.c_syntax.specs.declared.program.CVar.{CVar}
use Rattle.c_syntax.specs.Kinds.{same_variable}
use Rattle.c_syntax.specs.View.{func_of}
use Rattle.c_meaning.specs.World as model
use Rattle.c_machine.specs.Machine.{value_under, with_value_under, State, vars_in, with_slot}
use Rattle.c_meaning.specs.Widths.{names_of}
use Rattle.c_values.specs.declared.value.Value.{Value}
use Rattle.c_values.specs.declared.value.Value.TheVariants.{Number, Reference}
use Rattle.c_values.specs.declared.vars.Vars.{Vars as Frame}
use Rattle.c_values.specs.Places.{place_in}
use Rattle.c_values.specs.Shown.{value_view, shown_slots, names_in, shown_vars, AreMadeSlots, IsMadeValue}
use Rattle.c_primitives.proofs.Coming.{made_kept}
use Rattle.c_interp.specs.declared.frames.Frames.{Frames}
use Rattle.c_interp.specs.Shown.{state_of}

-- ---- reading

pub vars_are : (f : Frames) (v : Frame) (w : model.World) → names_in v ≡ names_of (func_of f.func.now) → v.values.now ≡ drop f.base f.values.items → shown_vars v ≡ vars_in (state_of f w)
vars_are f v w names values =
    ap (λ ns. value_under ns (shown_slots v.values.now)) names
    ∙ ap (value_under (names_of (func_of f.func.now))) (ap shown_slots values ∙ sym (drop-map (option_map value_view) f.base f.values.items))

get_drop : {A : Type 0} (xs : List A) (b k : ℕ) → slice_get (drop b xs) k ≡ slice_get xs (b + k)
get_drop xs zero k = let e : k ≡ 0 + k = omega arith in ap (slice_get xs) e
get_drop [] (suc b) k = refl
get_drop (x ∷ xs) (suc b) k = let e : suc (b + k) ≡ suc b + k = omega arith in get_drop xs b k ∙ ap (slice_get (x ∷ xs)) e

pub made_drop : (ts : Things) (xs ys : List (Option Value)) (b : ℕ) → ys ≡ drop b xs → AreMadeSlots ts xs → AreMadeSlots ts ys
made_drop ts xs ys b is made k a at = made (b + k) a (sym (get_drop xs b k) ∙ ap (λ l. slice_get l k) (sym is) ∙ at)

get_take : {A : Type 0} (xs : List A) (n k : ℕ) (y : A) → slice_get (take n xs) k ≡ Some y → slice_get xs k ≡ Some y
get_take xs zero k y at = absurd (none-some y at)
get_take [] (suc n) k y at = absurd (none-some y at)
get_take (x ∷ xs) (suc n) zero y at = at
get_take (x ∷ xs) (suc n) (suc k) y at = get_take xs n k y at

pub made_take : (ts : Things) (xs : List (Option Value)) (n : ℕ) → AreMadeSlots ts xs → AreMadeSlots ts (take n xs)
made_take ts xs n made k a at = made k a (get_take xs n k (Some a) at)

pub made_none : (ts : Things) (xs : List (Option Value)) (n : ℕ) → AreMadeSlots ts xs → AreMadeSlots ts (xs ++ replicate n None)
made_none ts [] zero made k a at = absurd (none-some (Some a) at)
made_none ts [] (suc n) made zero a at = absurd (none-some a (same_Some None (Some a) at))
made_none ts [] (suc n) made (suc k) a at = made_none ts [] n made k a at
made_none ts (x ∷ xs) n made zero a at = made zero a at
made_none ts (x ∷ xs) n made (suc k) a at = made_none ts xs n (λ i b e. made (suc i) b e) k a at

pub made_one : (ts : Things) (xs : List (Option Value)) (v : Value) → IsMadeValue ts v → AreMadeSlots ts xs → AreMadeSlots ts (xs ++ Some v ∷ [])
made_one ts [] v m made zero a at = subst (IsMadeValue ts) (same_Some v a (same_Some (Some v) (Some a) at)) m
made_one ts [] v m made (suc k) a at = absurd (none-some (Some a) at)
made_one ts (x ∷ xs) v m made zero a at = made zero a at
made_one ts (x ∷ xs) v m made (suc k) a at = made_one ts xs v m (λ i b e. made (suc i) b e) k a at

value_kept : (ts us : Things) → KeepMade ts us → (a : Value) → IsMadeValue ts a → IsMadeValue us a
value_kept ts us k (Number z) m = tt
value_kept ts us k (Reference r) m = made_kept ts us k r m

pub slots_kept : (ts us : Things) → KeepMade ts us → (xs : List (Option Value)) → AreMadeSlots ts xs → AreMadeSlots us xs
slots_kept ts us k xs made i a at = value_kept ts us k a (made i a at)

-- ---- setting

abbrev filed_at : Option ℕ → List (Option model.Value) → model.Value → List (Option model.Value)
filed_at None xs a = xs
filed_at (Some i) xs a = slice_set xs i (Some a)

filed_is : (vs : List CVar) (xs : List (Option model.Value)) (v : CVar) (a : model.Value) → with_value_under vs xs v a ≡ filed_at (place_in vs v) xs a
filed_is [] xs v a = refl
filed_is (w ∷ vs) [] v a = by (same_variable v w) (place_in vs v)
  where
    by : (t : Bool) (p : Option ℕ) → [] ≡ filed_at (if t then Some 0 else option_map suc p) [] a
    by true p = refl
    by false None = refl
    by false (Some i) = refl
filed_is (w ∷ vs) (x ∷ xs) v a = by (same_variable v w) (filed_is vs xs v a)
  where
    more : (p : Option ℕ) → x ∷ filed_at p xs a ≡ filed_at (option_map suc p) (x ∷ xs) a
    more None = refl
    more (Some i) = refl

    by : (t : Bool) → with_value_under vs xs v a ≡ filed_at (place_in vs v) xs a → (if t then Some a ∷ xs else x ∷ with_value_under vs xs v a) ≡ filed_at (if t then Some 0 else option_map suc (place_in vs v)) (x ∷ xs) a
    by true e = refl
    by false e = ap (λ l. x ∷ l) e ∙ more (place_in vs v)

set_above : {A : Type 0} (xs : List A) (b i : ℕ) (y : A) → take b xs ++ slice_set (drop b xs) i y ≡ slice_set xs (b + i) y
set_above xs zero i y = let e : i ≡ 0 + i = omega arith in ap (λ k. slice_set xs k y) e
set_above [] (suc b) i y = refl
set_above (x ∷ xs) (suc b) i y = let e : suc (b + i) ≡ suc b + i = omega arith in ap (λ l. x ∷ l) (set_above xs b i y) ∙ ap (λ k. slice_set (x ∷ xs) k y) e

split : {A : Type 0} (xs : List A) (b : ℕ) → take b xs ++ drop b xs ≡ xs
split xs zero = refl
split [] (suc b) = refl
split (x ∷ xs) (suc b) = ap (λ l. x ∷ l) (split xs b)

module _ (f g : Frames) (v : CVar) (a : Value) (w : model.World) where
  abbrev slots : List (Option model.Value)
  slots = shown_slots f.values.items

  same_slots : (new : List (Option model.Value)) → new ≡ take f.base slots ++ with_value_under (names_of (func_of f.func.now)) (drop f.base slots) v (value_view a) → record (state_of f w) { slots = new } ≡ with_slot v (value_view a) (state_of f w)
  same_slots new e = ap {A = List (Option model.Value)} {B = State} (λ l. record (state_of f w) { slots = l }) e

  pub set_here : (i : ℕ) (items : List (Option Value)) → place_in (names_of (func_of f.func.now)) v ≡ Some i → items ≡ slice_set f.values.items (f.base + i) (Some a) → record (state_of f w) { slots = shown_slots items } ≡ with_slot v (value_view a) (state_of f w)
  set_here i items at is = same_slots (shown_slots items)
      (ap shown_slots is ∙ map-set (option_map value_view) f.values.items (f.base + i) (Some a) ∙ sym (set_above slots f.base i (Some (value_view a)))
      ∙ sym (ap (λ l. take f.base slots ++ l) (filed_is (names_of (func_of f.func.now)) (drop f.base slots) v (value_view a) ∙ ap (λ p. filed_at p (drop f.base slots) (value_view a)) at)))

  pub set_nowhere : place_in (names_of (func_of f.func.now)) v ≡ None → state_of f w ≡ with_slot v (value_view a) (state_of f w)
  set_nowhere at = same_slots slots
      (sym (split slots f.base) ∙ sym (ap (λ l. take f.base slots ++ l) (filed_is (names_of (func_of f.func.now)) (drop f.base slots) v (value_view a) ∙ ap (λ p. filed_at p (drop f.base slots) (value_view a)) at)))

pub made_set : (ts : Things) (xs : List (Option Value)) (n : ℕ) (v : Value) → IsMadeValue ts v → AreMadeSlots ts xs → AreMadeSlots ts (slice_set xs n (Some v))
made_set ts [] n v m made k a at = made k a at
made_set ts (x ∷ xs) zero v m made zero a at = subst (IsMadeValue ts) (same_Some v a (same_Some (Some v) (Some a) at)) m
made_set ts (x ∷ xs) zero v m made (suc k) a at = made (suc k) a at
made_set ts (x ∷ xs) (suc n) v m made zero a at = made zero a at
made_set ts (x ∷ xs) (suc n) v m made (suc k) a at = made_set ts xs n v m (λ i b e. made (suc i) b e) k a at

none_taken : {A : Type 0} (n : ℕ) → take {A = A} n [] ≡ []
none_taken zero = refl
none_taken (suc n) = refl

pub cut_same : {A : Type 0} (xs : List A) (b n : ℕ) → take (n - b) (drop b xs) ≡ drop b (take n xs)
cut_same xs zero n = let e : n - 0 ≡ n = omega arith in ap (λ k. take k xs) e
cut_same [] (suc b) n = none_taken (n - suc b) ∙ sym (ap (drop (suc b)) (none_taken n))
cut_same (x ∷ xs) (suc b) zero = let e : 0 - suc b ≡ 0 = omega arith in ap (λ k. take k (drop b xs)) e
cut_same (x ∷ xs) (suc b) (suc n) = let e : suc n - suc b ≡ n - b = omega arith in ap (λ k. take k (drop b xs)) e ∙ cut_same xs b n

pub map_take : {A B : Type 0} (f : A → B) (n : ℕ) (xs : List A) → map f (take n xs) ≡ take n (map f xs)
map_take f zero xs = refl
map_take f (suc n) [] = refl
map_take f (suc n) (x ∷ xs) = ap (λ l. f x ∷ l) (map_take f n xs)
