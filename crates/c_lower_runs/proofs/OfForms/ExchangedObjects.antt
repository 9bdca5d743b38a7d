-- Objects of two lists that change their owners, those of the first list going out and those of the second one in: in either order.
use Rattle.std.proofs.Common.{◌≡◌, ◌≢◌, ℕ, Bool, true, false, List, [], ◌∷◌, Some, slice_get, Ok, refl, sym, ap, ◌∙◌, subst}
use Rattle.std.proofs.lemmas.Bool.{false≢true, true≢false}
use Rattle.std.proofs.lemmas.Option.{same_Some}
use Rattle.std.specs.List.{list_all}
use Rattle.std.specs.Result.{is_ok}
use Rattle.vlt_meaning.specs.World.{Object, Owner, loose, is_inside, is_loose, inside}
use Rattle.vlt_meaning.specs.World as source
use Rattle.vlt_meaning.specs.Found.{◌>>=◌}
use Rattle.vlt_meaning.specs.Objects.{with_owner, with_changed_object, objects_after_move, owned_at}
use Rattle.c_lower_worlds.specs.Naming.Lists.{Each}
use Rattle.c_lower_runs.proofs.OfForms.ApartChanges.{changes_apart}
use Rattle.c_lower_worlds.proofs.MovedObjects.{first_moved}
use Rattle.c_lower_worlds.proofs.VariableSlots.{each_map}
use Rattle.c_lower_worlds.proofs.OfNaming.FoundObjects.{ok_same}
use Rattle.vlt_core_laws.proofs.Ids.{and_left, and_right}
use Rattle.c_lower_worlds.proofs.VariableValues.{get_other}
use Rattle.vlt_meaning_laws.proofs.Keeping.{change_here}

-- the object is none of these
abbrev pub Outside : ℕ → List ℕ → Type 0
Outside y xs = Each (λ x. x ≢ y) xs

-- ---- what a move keeps

pub kept_by : (from : Owner → Bool) (to : Owner) (xs : List ℕ) (os mid : List Object) (y : ℕ) → objects_after_move from to xs os ≡ Ok mid → Outside y xs → slice_get mid y ≡ slice_get os y
kept_by from to [] os mid y e out = ap (λ os. slice_get os y) (sym (ok_same os mid e))
kept_by from to (x ∷ xs) os mid y e out =
    let a = first_moved from to x xs os mid e in
    kept_by from to xs (with_changed_object x (with_owner to) os) mid y a.rest out.1 ∙ get_other os x y (with_owner to) (λ q. out.0 (sym q))

-- an object that the test refuses isn't moved
pub unmoved : (from : Owner → Bool) (to : Owner) (xs : List ℕ) (os after : List Object) (m : ℕ) (o : Object) → objects_after_move from to xs os ≡ Ok after → slice_get os m ≡ Some o → from o.owner ≡ false → slice_get after m ≡ Some o
unmoved from to [] os after m o e at not_it = subst (λ os. slice_get os m ≡ Some o) (ok_same os after e) at
unmoved from to (x ∷ xs) os after m o e at not_it =
    let a = first_moved from to x xs os after e in
    let apart : m ≢ x = λ same. true≢false (sym a.passes ∙ ap (λ (z : Object). from z.owner) (same_Some a.object o (sym a.at ∙ ap (slice_get os) (sym same) ∙ at)) ∙ not_it) in
    unmoved from to xs (with_changed_object x (with_owner to) os) after m o a.rest (get_other os x m (with_owner to) apart ∙ at) not_it

-- another object may be changed before it or after it
pub moved_beside : (from : Owner → Bool) (to : Owner) (xs : List ℕ) (os mid : List Object) (y : ℕ) (change : Object → Object) → objects_after_move from to xs os ≡ Ok mid → Outside y xs →
    objects_after_move from to xs (with_changed_object y change os) ≡ Ok (with_changed_object y change mid)
moved_beside from to [] os mid y change e out = ap (λ os. Ok (with_changed_object y change os)) (ok_same os mid e)
moved_beside from to (x ∷ xs) os mid y change e out =
    let a = first_moved from to x xs os mid e in
    let at : slice_get (with_changed_object y change os) x ≡ Some a.object = get_other os y x change out.0 ∙ a.at in
    let owned : owned_at from (with_changed_object y change os) x ≡ Ok (record { number = x; object = a.object }) = rw (at, a.passes) refl in
    ap (λ m. m >>= (λ q. objects_after_move from to xs (with_changed_object x (with_owner to) (with_changed_object y change os)))) owned
    ∙ ap (objects_after_move from to xs) (changes_apart os y x change (with_owner to) (λ q. out.0 (sym q)))
    ∙ moved_beside from to xs (with_changed_object x (with_owner to) os) mid y change a.rest out.1

-- ---- what goes out was inside, so that what is loose is none of it

record IsInside (n : ℕ) (os : List Object) (x : ℕ) : Type 0 where
  object : Object
  at : slice_get os x ≡ Some object
  inside : is_inside n object.owner ≡ true

were_inside : (n : ℕ) (xs : List ℕ) (os mid : List Object) → objects_after_move (is_inside n) loose xs os ≡ Ok mid → Each (IsInside n os) xs
were_inside n [] os mid e = tt
were_inside n (x ∷ xs) os mid e =
    let a = first_moved (is_inside n) loose x xs os mid e in (
      record { object = a.object; at = a.at; inside = a.passes },
      each_map (IsInside n (with_changed_object x (with_owner loose) os)) (IsInside n os) xs (earlier a.object a.at) (were_inside n xs (with_changed_object x (with_owner loose) os) mid a.rest),
    )
  where
    earlier : (o : Object) → slice_get os x ≡ Some o → (z : ℕ) → IsInside n (with_changed_object x (with_owner loose) os) z → IsInside n os z
    earlier o at z h =
        let changed = with_changed_object x (with_owner loose) os in
        let apart : z ≢ x = λ same. false≢true (ap (λ (q : Object). is_inside n q.owner) (same_Some (with_owner loose o) h.object (sym (change_here os x o (with_owner loose) at) ∙ ap (slice_get changed) (sym same) ∙ h.at)) ∙ h.inside) in
        record { object = h.object; at = sym (get_other os x z (with_owner loose) apart) ∙ h.at; inside = h.inside }

inside_tight : (n : ℕ) (o : Owner) → is_inside n o ≡ true → is_loose o ≡ false
inside_tight n (source.inside m) e = refl
inside_tight n (source.held d k) e = refl
inside_tight n (source.lent d k) e = refl
inside_tight n loose e = absurd (false≢true e)
inside_tight n (source.adopted_by m) e = refl
inside_tight n source.out e = refl
inside_tight n source.gone e = refl

pub lists_apart : (n : ℕ) (xs ys : List ℕ) (os mid : List Object) → objects_after_move (is_inside n) loose xs os ≡ Ok mid → list_all (λ m. is_ok (owned_at is_loose os m)) ys ≡ true →
    Each (λ y. Outside y xs) ys
lists_apart n xs ys os mid e all = by ys all
  where
    never : (x y : ℕ) → IsInside n os x → x ≡ y → is_ok (owned_at is_loose os y) ≡ true → ⊥
    never x y h same e =
        let at : slice_get os y ≡ Some h.object = ap (slice_get os) (sym same) ∙ h.at in
        let tight = inside_tight n h.object.owner h.inside in
        let refused : is_ok (owned_at is_loose os y) ≡ false = rw (at, tight) refl in
        false≢true (sym refused ∙ e)

    by : (ys : List ℕ) → list_all (λ m. is_ok (owned_at is_loose os m)) ys ≡ true → Each (λ y. Outside y xs) ys
    by [] all = tt
    by (y ∷ ys) all = (
      each_map (IsInside n os) (λ x. x ≢ y) xs (λ x h same. never x y h same (and_left (is_ok (owned_at is_loose os y)) (list_all (λ m. is_ok (owned_at is_loose os m)) ys) all)) (were_inside n xs os mid e),
      by ys (and_right (is_ok (owned_at is_loose os y)) (list_all (λ m. is_ok (owned_at is_loose os m)) ys) all),
    )
