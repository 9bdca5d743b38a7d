-- What each change of the list of objects does to the function of their positions.
use Rattle.std.proofs.Common.{◌≡◌, ⊎_elim, ℕ, ◌+◌, ◌<◌, ◌≤◌, Bool, true, false, List, [], ◌∷◌, ◌++◌, length, Option, None, Some, if◌then◌else◌, refl, sym, ap, ◌∙◌, arith, slice_get}
use Rattle.std.proofs.lemmas.Option.{none-some, slice_get_past, slice_get_within, slice_get-get_or}
use Rattle.std.specs.Option.{option_map}
use Rattle.vlt_meaning.specs.World.{Owner, Object, gone}
use Rattle.vlt_meaning.specs.Objects.{with_owner, with_changed_object, is_under, objects_after_release}
use Rattle.vlt_meaning_laws.proofs.Lists.{get_last, get_more, get_of_more, get_numbered}
use Rattle.vlt_meaning_laws.proofs.Keeping.{change_here, change_elsewhere}
use Rattle.vlt_sound_worlds.specs.Look.{nothing, look_in, look, IsLive, ChangesOne, OwnsOne, EndsThose}

pub look_is : (os : List Object) (n : ℕ) (o : Object) → slice_get os n ≡ Some o → look os n ≡ o
look_is os n o at = ap look_in at

-- an object that isn't released is in the list
pub live_at : (os : List Object) (n : ℕ) → IsLive (look os) n → slice_get os n ≡ Some (look os n)
live_at os n live = by (slice_get os n) live
  where
    by : (q : Option Object) → ((look_in q).owner ≡ gone → ⊥) → q ≡ Some (look_in q)
    by None live = absurd (live refl)
    by (Some o) live = refl

pub live_within : (os : List Object) (n : ℕ) → IsLive (look os) n → n < length os
live_within os n live = slice_get_within os n (look os n) (live_at os n live)

pub look_past : (os : List Object) (n : ℕ) → length os ≤ n → look os n ≡ nothing
look_past os n le = ap look_in (slice_get_past os n le)

-- an object of the list, whatever its owner
pub look_at : (os : List Object) (n : ℕ) → n < length os → slice_get os n ≡ Some (look os n)
look_at os n lt = let e = slice_get-get_or os n nothing lt in e ∙ ap Some (sym (ap look_in e))

pub changes_one : (os : List Object) (n : ℕ) (change : Object → Object) → n < length os →
    ChangesOne n change (look os) (look (with_changed_object n change os))
changes_one os n change lt = record {
  here = ap look_in (change_here os n (look os n) change (look_at os n lt));
  others = λ m other. ap look_in (change_elsewhere os n change m other);
}

pub makes_one : (os : List Object) (o : Object) → ChangesOne (length os) (λ old. o) (look os) (look (os ++ o ∷ []))
makes_one os o = record { here = ap look_in (get_last os o); others = λ m other. by m other (slice_get os m) refl }
  where
    -- past the last one there is none
    none_more : (m : ℕ) → (m ≡ length os → ⊥) → slice_get os m ≡ None → (r : Option Object) →
        slice_get (os ++ o ∷ []) m ≡ r → r ≡ None
    none_more m other none None e = refl
    none_more m other none (Some x) e = ⊎_elim
        (λ last. absurd (other last.0))
        (λ was. absurd (none-some x (sym none ∙ was)))
        (get_of_more os o x m e)

    by : (m : ℕ) → (m ≡ length os → ⊥) → (q : Option Object) → slice_get os m ≡ q → look (os ++ o ∷ []) m ≡ look os m
    by m other None e = ap look_in (none_more m other e (slice_get (os ++ o ∷ []) m) refl ∙ sym e)
    by m other (Some x) e = ap look_in (get_more os o x m e ∙ sym e)

-- an owner changes with the object, and with nothing else
pub owns_one : {old new : ℕ → Object} (n : ℕ) (owner : Owner) → ChangesOne n (with_owner owner) old new →
    OwnsOne n owner old new
owns_one n owner change =
    record { here = ap (λ o. o.owner) change.here; others = λ m other. ap (λ o. o.owner) (change.others m other) }

pub ends_those : (os : List Object) (n : ℕ) → EndsThose (is_under os (n ∷ [])) (look os) (look (objects_after_release n os))
ends_those os n = record {
  those = λ m t. at m ∙ by m true t (slice_get os m);
  others = λ m f. at m ∙ by m false f (slice_get os m);
}
  where
    ended : ℕ × Object → Object
    ended q = if is_under os (n ∷ []) q.0 then with_owner gone q.1 else q.1

    plus_none : (m : ℕ) → 0 + m ≡ m
    plus_none m = omega arith

    at : (m : ℕ) → look (objects_after_release n os) m ≡ look_in (option_map (λ o. ended (0 + m, o)) (slice_get os m))
    at m = ap look_in (get_numbered ended 0 os m)

    by : (m : ℕ) (b : Bool) → is_under os (n ∷ []) m ≡ b → (q : Option Object) →
        look_in (option_map (λ o. ended (0 + m, o)) q) ≡ (if b then with_owner gone (look_in q) else look_in q)
    by m true t None = refl
    by m false t None = refl
    by m true t (Some o) = ap (λ b. if b then with_owner gone o else o) (ap (is_under os (n ∷ [])) (plus_none m) ∙ t)
    by m false t (Some o) = ap (λ b. if b then with_owner gone o else o) (ap (is_under os (n ∷ [])) (plus_none m) ∙ t)
