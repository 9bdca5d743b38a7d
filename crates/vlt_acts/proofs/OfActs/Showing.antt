-- The objects that are shown after a change.
use Rattle.std.proofs.Common.{◌≡◌, ◌≢◌, ◌⊎◌, inl, inr, ℕ, zero, suc, ◌+◌, ◌*◌, Bool, true, false, if◌then◌else◌, List, [], ◌∷◌, map, length, Option, Some, None, refl, sym, ap, ◌∙◌, subst, arith, slice_get}
use Rattle.std.specs.Option.{option_map}
use Rattle.std.specs.List.{enumerate_from}
use Rattle.std.proofs.lemmas.Bool.{false≢true}
use Rattle.std.proofs.lemmas.Option.{none-some, same_Some}
use Rattle.std.proofs.lemmas.List.{length-set}
use Rattle.vlt_base.specs.Parents.{is_at_or_below}
use Rattle.vlt_rings.proofs.Lists.{equal_or_not, get_other}
use Rattle.vlt_heap.specs.Items.{Item, Items, IsAt, with_item, without, without_from, parent_of}
use Rattle.vlt_heap.specs.Items as held
use Rattle.vlt_heap.proofs.Listed.{KeepMade, with_here, kept_without, length_without}
use Rattle.vlt_meaning.specs.World.{Owner, gone, Object, is_gone, above}
use Rattle.vlt_meaning.specs.Objects.{with_changed_object, changed_in, with_owner, parents_of, is_under, objects_after_release}
use Rattle.vlt_meaning_laws.proofs.Lists.{get_numbered}
use Rattle.vlt_meaning_laws.proofs.Keeping.{change_here, change_elsewhere}
use Rattle.vlt_acts.specs.Values.Shown.{ShowsObject, ShowsIt, ShowObjects}
use Rattle.vlt_acts.proofs.OfActs.Keeping.{value_kept}

-- ---- objects are known still

pub object_kept : (old new : Items) (w : ℕ) (x : Item) (o : Object) → KeepMade old new → ShowsObject old w x o → ShowsObject new w x o
object_kept old new w x o keep h = record {
  live = h.live;
  type = h.type;
  state = h.state;
  parent = h.parent;
  is_out = h.is_out;
  cells = λ i a at. value_kept old new x.slots (i * w) w a keep (h.cells i a at);
}

pub it_kept : (old new : Items) (w : ℕ) (x : Option Item) (o : Object) → KeepMade old new → ShowsIt old w x o → ShowsIt new w x o
it_kept old new w None o keep h = h
it_kept old new w (Some x) o keep h = object_kept old new w x o keep h

-- ---- one object changes

pub length_changed : (os : List Object) (n : ℕ) (change : Object → Object) → length (with_changed_object n change os) ≡ length os
length_changed os n change = by (slice_get os n)
  where
    by : (x : Option Object) → length (changed_in n change os x) ≡ length os
    by None = refl
    by (Some q) = length-set os n (change q)

pub one_shown : (items : Items) (w n : ℕ) (objects : List Object) (x y : Item) (o : Object) (change : Object → Object) → KeepMade items (with_item n y items) → ShowObjects items w objects → IsAt items n x → slice_get objects n ≡ Some o
    → ShowsObject items w y (change o) → ShowObjects (with_item n y items) w (with_changed_object n change objects)
one_shown items w n objects x y o change keep h at_x at_o new = record {
  long = length-set items n (Some y) ∙ h.long ∙ sym (length_changed objects n change);
  each = λ m z q at_z at_q. it_kept items (with_item n y items) w z q keep (by m z q at_z at_q (equal_or_not m n));
}
  where
    other : (m : ℕ) (z : Option Item) → m ≢ n → slice_get (with_item n y items) m ≡ Some z → slice_get items m ≡ Some z
    other m z d at = sym (get_other items n m (Some y) d) ∙ at

    by : (m : ℕ) (z : Option Item) (q : Object) → slice_get (with_item n y items) m ≡ Some z → slice_get (with_changed_object n change objects) m ≡ Some q → (m ≡ n) ⊎ (m ≢ n) → ShowsIt items w z q
    by m z q at_z at_q (inl e) =
        let a : Some y ≡ z = same_Some (Some y) z (sym (with_here items n x y at_x) ∙ ap (slice_get (with_item n y items)) (sym e) ∙ at_z) in
        let b : change o ≡ q = same_Some (change o) q (sym (change_here objects n o change at_o) ∙ ap (slice_get (with_changed_object n change objects)) (sym e) ∙ at_q) in
        subst (λ u. ShowsIt items w u q) a (subst (ShowsObject items w y) b new)
    by m z q at_z at_q (inr d) = h.each m z q (other m z d at_z) (sym (change_elsewhere objects n change m d) ∙ at_q)

-- ---- a release

length_numbered : {A B : Type 0} (g : ℕ × A → B) (i : ℕ) (xs : List A) → length (map g (enumerate_from i xs)) ≡ length xs
length_numbered g i [] = refl
length_numbered g i (x ∷ xs) = ap suc (length_numbered g (i + 1) xs)

length_released : (n : ℕ) (os : List Object) → length (objects_after_release n os) ≡ length os
length_released n os = length_numbered (λ q. if is_under os (n ∷ []) q.0 then with_owner gone q.1 else q.1) 0 os

same_parents : (xs : Items) (os : List Object) → length xs ≡ length os → ((n : ℕ) (x : Option Item) (o : Object) → slice_get xs n ≡ Some x → slice_get os n ≡ Some o → parent_of x ≡ above o.owner) → held.parents_of xs ≡ parents_of os
same_parents [] [] long each = refl
same_parents [] (o ∷ os) long each = absurd (omega (arith, long))
same_parents (x ∷ xs) [] long each = absurd (omega (arith, long))
same_parents (x ∷ xs) (o ∷ os) long each = ap (λ p. p ∷ held.parents_of xs) (each 0 x o refl refl) ∙ ap (λ ps. above o.owner ∷ ps) (same_parents xs os (omega (arith, long)) (λ n y q at_y at_q. each (suc n) y q at_y at_q))

gone_root : (o : Owner) → is_gone o ≡ true → above o ≡ None
gone_root o g = by o g
  where
    by : (o : Owner) → is_gone o ≡ true → above o ≡ None
    by gone h = refl
    by _ h = absurd (false≢true h)

parents_shown : (items : Items) (w : ℕ) (objects : List Object) → ShowObjects items w objects → held.parents_of items ≡ parents_of objects
parents_shown items w objects h = same_parents items objects h.long (λ n x o at_x at_o. by x o (h.each n x o at_x at_o))
  where
    by : (x : Option Item) (o : Object) → ShowsIt items w x o → parent_of x ≡ above o.owner
    by None o s = sym (gone_root o.owner s)
    by (Some x) o s = s.parent

get_without : (out : ℕ → Bool) (m : ℕ) (items : Items) (k : ℕ) (z : Option Item) → slice_get (without_from out m items) k ≡ Some z → (x : Option Item) × (slice_get items k ≡ Some x) × ((if out (m + k) then None else x) ≡ z)
get_without out m [] k z at = absurd (none-some z at)
get_without out m (x ∷ items) zero z at = (x, refl, ap (λ j. if out j then None else x) (omega arith) ∙ same_Some _ z at)
get_without out m (x ∷ items) (suc k) z at =
    let q = get_without out (suc m) items k z at in (q.0, q.1, ap (λ j. if out j then None else q.0) (omega arith) ∙ q.2)

abbrev released_at : (n : ℕ) → List Object → ℕ × Object → Object
released_at n os q = if is_under os (n ∷ []) q.0 then with_owner gone q.1 else q.1

get_released : (n : ℕ) (os : List Object) (k : ℕ) (q : Object) → slice_get (objects_after_release n os) k ≡ Some q → (o : Object) × (slice_get os k ≡ Some o) × (released_at n os (k, o) ≡ q)
get_released n os k q at = by (slice_get os k) refl (sym (get_numbered (released_at n os) 0 os k) ∙ at)
  where
    by : (x : Option Object) → slice_get os k ≡ x → option_map (λ o. released_at n os (0 + k, o)) (slice_get os k) ≡ Some q → (o : Object) × (slice_get os k ≡ Some o) × (released_at n os (k, o) ≡ q)
    by None e h = absurd (none-some q (sym (ap (option_map (λ o. released_at n os (0 + k, o))) e) ∙ h))
    by (Some o) e h = (o, e, ap (λ j. released_at n os (j, o)) (omega arith) ∙ same_Some _ q (sym (ap (option_map (λ o. released_at n os (0 + k, o))) e) ∙ h))

pub release_shown : (items : Items) (w n : ℕ) (objects : List Object) → ShowObjects items w objects → ShowObjects (without n items) w (objects_after_release n objects)
release_shown items w n objects h = record {
  long = length_without (is_at_or_below (held.parents_of items) (n ∷ [])) 0 items ∙ h.long ∙ sym (length_released n objects);
  each = λ k z q at_z at_q. it_kept items (without n items) w z q (kept_without items n) (each k z q at_z at_q);
}
  where
    each : (k : ℕ) (z : Option Item) (q : Object) → slice_get (without n items) k ≡ Some z → slice_get (objects_after_release n objects) k ≡ Some q → ShowsIt items w z q
    each k z q at_z at_q =
        let a = get_without (is_at_or_below (held.parents_of items) (n ∷ [])) 0 items k z at_z in
        let b = get_released n objects k q at_q in
        let out : is_at_or_below (held.parents_of items) (n ∷ []) (0 + k) ≡ is_under objects (n ∷ []) k =
        ap (λ ps. is_at_or_below ps (n ∷ []) (0 + k)) (parents_shown items w objects h) ∙ ap (is_at_or_below (parents_of objects) (n ∷ [])) (omega arith) in
        subst (λ u. ShowsIt items w u q) (ap (λ t. if t then None else a.0) (sym out) ∙ a.2) (subst (ShowsIt items w (if is_under objects (n ∷ []) k then None else a.0)) b.2 (by (is_under objects (n ∷ []) k) a.0 b.0 (h.each k a.0 b.0 a.1 b.1)))
      where
        by : (t : Bool) (x : Option Item) (o : Object) → ShowsIt items w x o → ShowsIt items w (if t then None else x) (if t then with_owner gone o else o)
        by true x o s = refl
        by false x o s = s
