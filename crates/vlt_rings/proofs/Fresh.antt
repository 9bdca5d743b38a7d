-- Places that have no things yet.
use Rattle.std.proofs.Common.{◌≡◌, ℕ, zero, suc, ◌≤◌, List, [], ◌∷◌, length, Some, refl, sym, ap, ◌∙◌, subst, arith, slice_get}
use Rattle.std.proofs.lemmas.Option.{none-some, same_Some}
use Rattle.vlt_rings.specs.Rings.{IsRing, AreInverse, back_of}
use Rattle.vlt_rings.specs.declared.places.Places.{Places}
use Rattle.vlt_rings.specs.Places.{AreSorted, IsSettled, IsFresh}
use Rattle.vlt_rings.specs.Things.{Holds}

empty_list : {A : Type 0} (xs : List A) → length xs ≡ 0 → xs ≡ []
empty_list [] e = refl
empty_list (x ∷ xs) e = absurd (omega (arith, e))

both : List ℕ
both = 0 ∷ 1 ∷ []

alone_in : (i j : ℕ) → slice_get both i ≡ Some j → i ≡ j
unfolding both
alone_in zero j e = same_Some 0 j e
alone_in (suc zero) j e = same_Some 1 j e
alone_in (suc (suc i)) j e = absurd (none-some j e)

whole : AreInverse both both
whole = record {
  long = refl;
  forth = λ i j at. subst (λ k. slice_get both k ≡ Some i) (alone_in i j at) (at ∙ ap (λ k. Some k) (sym (alone_in i j at)));
  back = λ i j at. subst (λ k. slice_get both k ≡ Some i) (alone_in i j at) (at ∙ ap (λ k. Some k) (sym (alone_in i j at)));
}

ring : (h : ℕ) → h ≤ 1 → IsRing both h []
unfolding both
ring zero l = record { path = refl; apart = (tt, tt) }
ring (suc zero) l = record { path = refl; apart = (tt, tt) }
ring (suc (suc h)) l = absurd (omega (arith, l))

sorted : AreSorted [] both
sorted = record {
  heads = λ h is_head l. record { nodes = []; ring = ring h l; are = λ x i. absurd i; all = λ c p at is. absurd (none-some p at) };
  alone = λ c p at is. absurd (none-some p at);
}

pub fresh_settled : (h : Places) → IsFresh h → IsSettled h
unfolding both
fresh_settled h fresh =
    let none = empty_list h.places.items fresh.places in
    record {
      sound = record {
        sorted = rw (none, fresh.next) sorted;
        whole = subst (λ l. AreInverse l (back_of h.rings)) (sym fresh.next) (subst (AreInverse both) (sym fresh.back) whole);
        long = rw (none, fresh.next) refl;
        parents = λ c q p at is. absurd (none-some p (sym (ap (λ l. slice_get l c) none) ∙ at));
        few = fresh.few;
        within = omega (arith, fresh.places);
        places_room = fresh.places_room;
        rings_room = fresh.rings_room;
        count = rw (none) (fresh.live);
      };
      quiet = λ c p at is. none-some p (sym (ap (λ l. slice_get l c) none) ∙ at);
    }

pub fresh_holds : (h : Places) → IsFresh h → Holds h []
fresh_holds h fresh =
    let none = empty_list h.places.items fresh.places in
    record {
      hold = rw none (record { shown = λ n t at. absurd (none-some (Some t) at); known = λ c p at live. absurd (none-some p at); count = refl });
      made = sym fresh.made;
    }
