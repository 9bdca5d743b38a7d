-- The line of a call.
use Rattle.std.proofs.Common.{◌≡◌, ◌<◌, ◌+◌, ℕ, ℤ, zero, suc, pos, List, [], ◌∷◌, ◌++◌, drop, length, Option, None, Some, codes, refl, sym, ap, ◌∙◌, subst, append-nil, append_assoc, arith, slice_get}
use Rattle.std.specs.List.{flat_map}
use Rattle.std.specs.Fmt.{signed_decimal}
use Rattle.std.proofs.lemmas.Option.{none-some, same_Some, slice_get_within}
use Rattle.vlt_numbers.specs.declared.answers.Answers.{Answers}
use Rattle.vlt_numbers.specs.HostAnswers.{lists_of}
use Rattle.vlt_numbers.specs.Ends.{cut_at}
use Rattle.vlt_heap.specs.declared.slots.Obj.{Obj}
use Rattle.vlt_heap.specs.declared.slots.Slot.{Slot}
use Rattle.vlt_heap.specs.declared.slots.Slot.TheVariants.{Number, Object, Owned}
use Rattle.vlt_heap.specs.Items.{Items}
use Rattle.vlt_meaning.specs.World.{Part, number, reference, owned, part_text, Value, one, of_case, argument_text}
use Rattle.vlt_acts.specs.declared.values.values.Values.{Values}
use Rattle.vlt_acts.specs.Values.Parts.{HasPart}
use Rattle.vlt_acts.proofs.OfValues.Fronts.{IsSlotAt, has_part, front_part}
use Rattle.vlt_externals.specs.Told.{AreArgs, TellsPart, TellsArgs, TellsCall}

-- ---- the part of a slot

abbrev pub number_of : Slot → Option ℤ
number_of (Number z) = Some z
number_of (Object o n) = None
number_of (Owned o n) = None

abbrev pub object_of : Slot → Option (Obj × ℕ)
object_of (Number z) = None
object_of (Object o n) = Some (o, n)
object_of (Owned o n) = None

abbrev pub owned_of : Slot → Option (Obj × ℕ)
owned_of (Number z) = None
owned_of (Object o n) = None
owned_of (Owned o n) = Some (o, n)

pub tells_number : (z : ℤ) (old new : List ℕ) → new ≡ old ++ (codes " " ++ signed_decimal z) → TellsPart (Number z) old new
tells_number z old new is items (number y) part = is ∙ ap (λ q. old ++ (codes " " ++ signed_decimal q)) (same_Some z y (ap number_of part))
tells_number z old new is items (reference n) part = absurd (none-some z (sym (ap number_of part.is)))
tells_number z old new is items (owned n) part = absurd (none-some z (sym (ap number_of part.is)))

pub tells_object : (o : Obj) (n : ℕ) (old new : List ℕ) → new ≡ old ++ (codes " #" ++ signed_decimal (pos (n + 1))) → TellsPart (Object o n) old new
tells_object o n old new is items (number y) part = absurd (none-some y (ap number_of part))
tells_object o n old new is items (reference m) part = is ∙ ap (λ q. old ++ (codes " #" ++ signed_decimal (pos (q + 1)))) (ap (λ x. x.1) (same_Some _ _ (ap object_of part.is)))
tells_object o n old new is items (owned m) part = absurd (none-some (part.object, m) (ap owned_of part.is))

pub tells_owned : (o : Obj) (n : ℕ) (old new : List ℕ) → new ≡ old ++ (codes " #" ++ signed_decimal (pos (n + 1))) → TellsPart (Owned o n) old new
tells_owned o n old new is items (number y) part = absurd (none-some y (ap number_of part))
tells_owned o n old new is items (reference m) part = absurd (none-some (part.object, m) (ap object_of part.is))
tells_owned o n old new is items (owned m) part = is ∙ ap (λ q. old ++ (codes " #" ++ signed_decimal (pos (q + 1)))) (ap (λ x. x.1) (same_Some _ _ (ap owned_of part.is)))

pub tells_slot : (a b : Slot) (old new : List ℕ) → a ≡ b → TellsPart b old new → TellsPart a old new
tells_slot a b old new e h = subst (λ s. TellsPart s old new) (sym e) h

-- ---- arguments

pub tells_none : (values : Values) (from n : ℕ) (line : List ℕ) → n ≡ 0 → TellsArgs values from n line line
tells_none values from n line e items [] are = sym (append-nil line)
tells_none values from n line e items (a ∷ args) are = let l = are.count_is in absurd (omega (arith, l, e))

-- the arguments after the first one
pub rest_are : (items : Items) (values : Values) (from n : ℕ) (p : Part) (rest : List Value) → AreArgs items values from (suc n) (one p ∷ rest) → AreArgs items values (from + values.width) n rest
rest_are items values from n p rest are = record { count_is = (let l = are.count_is in omega (arith, l)); single = are.single; at = are.at.1 }

-- the first one
pub first_is : (items : Items) (values : Values) (from n : ℕ) (p : Part) (rest : List Value) (a : Slot) → AreArgs items values from n (one p ∷ rest) → IsSlotAt values.slots.items from a → HasPart items p a
first_is items values from n p rest a are is = has_part items values.slots.items from p a is (front_part items values.slots.items from values.width (one p) are.at.0.parts)

pub tells_more : (values : Values) (from n m : ℕ) (a : Slot) (old mid new : List ℕ) → n ≡ suc m → IsSlotAt values.slots.items from a → TellsPart a old mid → TellsArgs values (from + values.width) m mid new → TellsArgs values from n old new
tells_more values from n m a old mid new e is one_told rest_told items [] are = let l = are.count_is in absurd (omega (arith, l, e))
tells_more values from n m a old mid new e is one_told rest_told items (of_case c ps keys ∷ rest) are = absurd are.single
tells_more values from n m a old mid new e is one_told rest_told items (one p ∷ rest) are =
    rest_told items rest (rest_are items values from m p rest (subst (λ k. AreArgs items values from k (one p ∷ rest)) e are))
    ∙ ap (λ l. l ++ flat_map argument_text rest) (one_told items p (first_is items values from n p rest a are is))
    ∙ append_assoc old (part_text p) (flat_map argument_text rest)

pub tells_call : (name : List ℕ) (values : Values) (from n : ℕ) (first mid last : List ℕ) → first ≡ codes "@" ++ name → TellsArgs values from n first mid → last ≡ mid ++ codes "\n" → TellsCall name values from n last
tells_call name values from n first mid last begun told ended items args are =
    ended ∙ ap (λ l. l ++ codes "\n") (told items args are ∙ ap (λ l. l ++ flat_map argument_text args) begun)

-- ---- answers

pub drop_at : {A : Type 0} (xs : List A) (n : ℕ) (x : A) → slice_get xs n ≡ Some x → drop n xs ≡ x ∷ drop (n + 1) xs
drop_at [] n x at = absurd (none-some x at)
drop_at (y ∷ xs) zero x at = ap (λ z. z ∷ xs) (same_Some y x at)
drop_at (y ∷ xs) (suc n) x at = drop_at xs n x at ∙ ap (λ k. x ∷ drop k (y ∷ xs)) (later n)
  where
    later : (n : ℕ) → suc (n + 1) ≡ suc n + 1
    later n = omega arith

pub drop_past : {A : Type 0} (xs : List A) (n : ℕ) → slice_get xs n ≡ None → drop n xs ≡ []
drop_past [] zero at = refl
drop_past [] (suc n) at = refl
drop_past (y ∷ xs) zero at = absurd (none-some y (sym at))
drop_past (y ∷ xs) (suc n) at = drop_past xs n at

answers_long : (start : ℕ) (ends : List ℕ) (numbers : List ℤ) → length (cut_at start ends numbers) ≡ length ends
answers_long start [] numbers = refl
answers_long start (e ∷ ends) numbers = ap suc (answers_long e ends numbers)

-- the number of an answer is below the count of them
pub answer_below : (a : Answers) (n : ℕ) (x : List ℤ) → slice_get (lists_of a) n ≡ Some x → n < length a.ends.items
answer_below a n x at = let l = slice_get_within (lists_of a) n x at in let k = answers_long 0 a.ends.items a.numbers.items in omega (arith, l, k)
