-- Objects by number, and the things of their places.
use Rattle.std.proofs.Common.{◌≡◌, ◌≢◌, ◌⊎◌, inl, inr, ℕ, zero, suc, ◌+◌, Bool, true, false, cond, if◌then◌else◌, List, [], ◌∷◌, ◌++◌, length, Option, Some, None, refl, sym, ap, ◌∙◌, arith, slice_get, slice_set}
use Rattle.std.specs.Option.{option_map}
use Rattle.std.specs.List.{count_by}
use Rattle.std.proofs.lemmas.Option.{none-some, same_Some, slice_get_within, slice_get-map}
use Rattle.std.proofs.lemmas.List.{length-set, length-map, length-append, map-set, map-append}
use Rattle.std.proofs.lemmas.List.Sums.{sum_by-cons}
use Rattle.vlt_base.specs.Parents.{is_at_or_below}
use Rattle.vlt_rings.specs.Things as rings
use Rattle.vlt_rings.specs.Things.{Thing, Things, count_things}
use Rattle.vlt_rings.proofs.Lists.{equal_or_not, get_same, get_other, get_push}
use Rattle.vlt_heap.specs.Items.{Item, Items, IsAt, is_there, live_count, with_item, parents_of, without_from, without, IsMadeAt}
use Rattle.vlt_heap.specs.Shown.{thing_of, things_of}

-- ---- the things of objects

pub thing_at : (items : Items) (n : ℕ) (x : Option Item) → slice_get items n ≡ Some x → slice_get (things_of items) n ≡ Some (option_map thing_of x)
thing_at items n x at = slice_get-map (option_map thing_of) items n ∙ ap (option_map (option_map thing_of)) at

pub record OfThing (items : Items) (n : ℕ) (t : Thing) : Type 0 where
  pub item : Item
  pub at : IsAt items n item
  pub thing : thing_of item ≡ t

pub of_thing : (items : Items) (n : ℕ) (t : Thing) → rings.IsAt (things_of items) n t → OfThing items n t
of_thing items n t at = by (slice_get items n) refl
  where
    by : (x : Option (Option Item)) → slice_get items n ≡ x → OfThing items n t
    by None e = absurd (none-some (Some t) (sym (ap (option_map (option_map thing_of)) e) ∙ sym (slice_get-map (option_map thing_of) items n) ∙ at))
    by (Some None) e = absurd (none-some t (same_Some None (Some t) (sym (thing_at items n None e) ∙ at)))
    by (Some (Some o)) e = record { item = o; at = e; thing = same_Some (thing_of o) t (same_Some (Some (thing_of o)) (Some t) (sym (thing_at items n (Some o) e) ∙ at)) }

-- what is gone is gone in both
pub gone_at : (items : Items) (n : ℕ) → slice_get (things_of items) n ≡ Some None → slice_get items n ≡ Some None
gone_at items n at = by (slice_get items n) refl
  where
    by : (x : Option (Option Item)) → slice_get items n ≡ x → slice_get items n ≡ Some None
    by None e = absurd (none-some None (sym (ap (option_map (option_map thing_of)) e) ∙ sym (slice_get-map (option_map thing_of) items n) ∙ at))
    by (Some None) e = e
    by (Some (Some o)) e = absurd (none-some (thing_of o) (sym (same_Some (Some (thing_of o)) None (sym (thing_at items n (Some o) e) ∙ at))))

pub length_things : (items : Items) → length (things_of items) ≡ length items
length_things items = length-map items (option_map thing_of)

pub things_with : (items : Items) (n : ℕ) (y : Item) → things_of (with_item n y items) ≡ slice_set (things_of items) n (Some (thing_of y))
things_with items n y = map-set (option_map thing_of) items n (Some y)

pub set_back : {A : Type 0} (xs : List A) (n : ℕ) (y : A) → slice_get xs n ≡ Some y → slice_set xs n y ≡ xs
set_back [] n y at = refl
set_back (x ∷ xs) zero y at = ap (λ z. z ∷ xs) (sym (same_Some x y at))
set_back (x ∷ xs) (suc n) y at = ap (λ l. x ∷ l) (set_back xs n y at)

-- a change that leaves place and parent leaves the things
pub same_things : (items : Items) (n : ℕ) (x y : Item) → IsAt items n x → thing_of y ≡ thing_of x → things_of (with_item n y items) ≡ things_of items
same_things items n x y at same =
    things_with items n y ∙ ap (λ t. slice_set (things_of items) n (Some t)) same ∙ set_back (things_of items) n (Some (thing_of x)) (thing_at items n (Some x) at)

pub things_new : (items : Items) (y : Item) → things_of (items ++ Some y ∷ []) ≡ things_of items ++ Some (thing_of y) ∷ []
things_new items y = map-append (option_map thing_of) items (Some y ∷ [])

pub count_items : (items : Items) → live_count items ≡ count_things (things_of items)
count_items [] = refl
count_items (x ∷ items) = step is_there x items ∙ ap (λ k. cond (is_there x) 1 0 + k) (count_items items) ∙ ap (λ t. cond t 1 0 + count_things (things_of items)) (by x) ∙ sym (step rings.is_there (option_map thing_of x) (things_of items))
  where
    step : {A : Type 0} (test : A → Bool) (y : A) (ys : List A) → count_by test (y ∷ ys) ≡ cond (test y) 1 0 + count_by test ys
    step test y ys = sum_by-cons (λ z. cond (test z) 1 0) y ys

    by : (x : Option Item) → is_there x ≡ rings.is_there (option_map thing_of x)
    by None = refl
    by (Some t) = refl

pub parents_same : (items : Items) → rings.parents_of (things_of items) ≡ parents_of items
parents_same [] = refl
parents_same (None ∷ items) = ap (λ l. None ∷ l) (parents_same items)
parents_same (Some o ∷ items) = ap (λ l. o.parent ∷ l) (parents_same items)

-- ---- one object changes

pub with_here : (items : Items) (n : ℕ) (x y : Item) → IsAt items n x → IsAt (with_item n y items) n y
with_here items n x y at = get_same items n (Some y) (slice_get_within items n (Some x) at)

-- an object that is there is the one that changed, or it was there
pub record Cases (items : Items) (n : ℕ) (y : Item) (k : ℕ) (v : Item) : Type 0 where
  pub is : ((k ≡ n) × (y ≡ v)) ⊎ ((k ≢ n) × IsAt items k v)

pub with_cases : (items : Items) (n : ℕ) (x y : Item) → IsAt items n x → (k : ℕ) (v : Item) → IsAt (with_item n y items) k v → Cases items n y k v
with_cases items n x y at k v at_k = by (equal_or_not k n)
  where
    by : (k ≡ n) ⊎ (k ≢ n) → Cases items n y k v
    by (inl e) = record { is = inl (e, same_Some y v (same_Some (Some y) (Some v) (sym (with_here items n x y at) ∙ ap (slice_get (with_item n y items)) (sym e) ∙ at_k))) }
    by (inr d) = record { is = inr (d, sym (get_other items n k (Some y) d) ∙ at_k) }

-- ---- what was made

-- what was made before is still known
abbrev pub KeepMade : (old new : Items) → Type 0
KeepMade old new = (c n : ℕ) → IsMadeAt old c n → IsMadeAt new c n

pub kept_with : (items : Items) (n : ℕ) (x y : Item) → IsAt items n x → y.place ≡ x.place → KeepMade items (with_item n y items)
kept_with items n x y at same c k made = record {
  made = rw (length-set items n (Some y)) (made.made);
  place = λ v at_k. by v (with_cases items n x y at k v at_k).is;
}
  where
    by : (v : Item) → ((k ≡ n) × (y ≡ v)) ⊎ ((k ≢ n) × IsAt items k v) → v.place ≡ c
    by v (inl e) = ap (λ z. z.place) (sym e.1) ∙ same ∙ made.place x (ap (slice_get items) e.0 ∙ at)
    by v (inr e) = made.place v e.1

pub kept_new : (items : Items) (y : Item) → KeepMade items (items ++ Some y ∷ [])
kept_new items y c n made = record {
  made = let l = length-append items (Some y ∷ []) in let k = made.made in omega (arith, l, k);
  place = λ v at. by v (get_push items (Some y) n (Some v) at).is;
}
  where
    by : (v : Item) → (slice_get items n ≡ Some (Some v)) ⊎ ((n ≡ length items) × (Some y ≡ Some v)) → v.place ≡ c
    by v (inl old) = made.place v old
    by v (inr new) = absurd (let k = made.made in let e = new.0 in omega (arith, k, e))

-- an object that is there was made at its place
pub made_at : (items : Items) (n : ℕ) (x : Item) → IsAt items n x → IsMadeAt items x.place n
made_at items n x at = record {
  made = slice_get_within items n (Some x) at;
  place = λ v at_v. ap (λ z. z.place) (same_Some v x (same_Some (Some v) (Some x) (sym at_v ∙ at)));
}

-- ---- a release

pub length_without : (gone : ℕ → Bool) (m : ℕ) (items : Items) → length (without_from gone m items) ≡ length items
length_without gone m [] = refl
length_without gone m (x ∷ items) = ap suc (length_without gone (suc m) items)

kept_item : (gone : Bool) (x : Option Item) (v : Item) → (if gone then None else x) ≡ Some v → x ≡ Some v
kept_item true x v e = absurd (none-some v e)
kept_item false x v e = e

-- what is left was there
pub left_at : (gone : ℕ → Bool) (m : ℕ) (items : Items) (k : ℕ) (v : Item) → IsAt (without_from gone m items) k v → IsAt items k v
left_at gone m [] k v at = absurd (none-some (Some v) at)
left_at gone m (x ∷ items) zero v at = ap (λ z. Some z) (kept_item (gone m) x v (same_Some _ (Some v) at))
left_at gone m (x ∷ items) (suc k) v at = left_at gone (suc m) items k v at

pub kept_without : (items : Items) (n : ℕ) → KeepMade items (without n items)
kept_without items n c k made = record {
  made = rw (length_without (is_at_or_below (parents_of items) (n ∷ [])) 0 items) (made.made);
  place = λ v at. made.place v (left_at (is_at_or_below (parents_of items) (n ∷ [])) 0 items k v at);
}

-- things of which these are gone are those of the objects that are left
pub things_without : (gone : ℕ → Bool) (m : ℕ) (items : Items) (things : Things) → length things ≡ length items
    → ((k : ℕ) (x : Option Item) → slice_get items k ≡ Some x → slice_get things k ≡ Some (if gone (m + k) then None else option_map thing_of x)) → things ≡ things_of (without_from gone m items)
things_without gone m [] [] long each = refl
things_without gone m [] (y ∷ things) long each = absurd (omega (arith, long))
things_without gone m (x ∷ items) [] long each = absurd (omega (arith, long))
things_without gone m (x ∷ items) (y ∷ things) long each =
    ap (λ z. z ∷ things) (head ∙ by (gone m) x) ∙ ap (λ l. option_map thing_of (if gone m then None else x) ∷ l) (things_without gone (suc m) items things (omega (arith, long)) rest)
  where
    head : y ≡ (if gone m then None else option_map thing_of x)
    head = same_Some y _ (each 0 x refl) ∙ ap (λ k. if gone k then None else option_map thing_of x) (omega arith)

    by : (g : Bool) (x : Option Item) → (if g then None else option_map thing_of x) ≡ option_map thing_of (if g then None else x)
    by true x = refl
    by false x = refl

    rest : (k : ℕ) (z : Option Item) → slice_get items k ≡ Some z → slice_get things k ≡ Some (if gone (suc m + k) then None else option_map thing_of z)
    rest k z at = each (suc k) z at ∙ ap (λ j. Some (if gone j then None else option_map thing_of z)) (omega arith)
