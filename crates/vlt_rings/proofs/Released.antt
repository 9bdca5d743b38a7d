-- What is gone after a release is what the test on parents finds.
use Rattle.std.proofs.Common.{◌≡◌, ◌≢◌, ◌⊎◌, inl, inr, ℕ, zero, suc, ◌<◌, Bool, true, false, if◌then◌else◌, [], ◌∷◌, length, Option, Some, None, refl, sym, ap, ◌∙◌, slice_get}
use Rattle.std.specs.Option.{option_map}
use Rattle.std.proofs.lemmas.Bool.{false≢true}
use Rattle.std.proofs.lemmas.Option.{none-some, slice_get_within, slice_get-map}
use Rattle.std.proofs.lemmas.List.{length-map}
use Rattle.vlt_base.specs.Parents.{parent_in, is_at_or_below, parent_of as above}
use Rattle.vlt_rings.specs.declared.places.Place.{Place}
use Rattle.vlt_rings.specs.declared.places.Places.{Places}
use Rattle.vlt_rings.specs.declared.places.Mark.TheVariants.{Doomed}
use Rattle.vlt_rings.specs.Things.{Thing, Things, IsAt, parent_of, parents_of, Leads, IsBelow, Releasing, AreReleased}
use Rattle.vlt_rings.proofs.Chains.{LeadsUp, chain_found, found_chain}
use Rattle.vlt_rings.proofs.Holding.{all_gone, none_else}

parent_at : (ts : Things) (k : ℕ) (t : Thing) → IsAt ts k t → above (parents_of ts) k ≡ t.parent
parent_at ts k t at = ap parent_in (slice_get-map parent_of ts k ∙ ap (option_map parent_of) at)

leads_up : (ts : Things) (n s k : ℕ) → Leads ts n s k → LeadsUp (parents_of ts) n s k
leads_up ts n zero k c = c
leads_up ts n (suc s) k c = (c.1, parent_at ts k c.0 c.2 ∙ c.3, leads_up ts n s c.1 c.4)

record HasParent (ts : Things) (k q : ℕ) : Type 0 where
  thing : Thing
  at : IsAt ts k thing
  parent : thing.parent ≡ Some q

has_parent : (ts : Things) (k q : ℕ) → above (parents_of ts) k ≡ Some q → HasParent ts k q
has_parent ts k q is = by (slice_get ts k) refl
  where
    by : (x : Option (Option Thing)) → slice_get ts k ≡ x → HasParent ts k q
    by None at = absurd (none-some q (sym (ap parent_in (slice_get-map parent_of ts k ∙ ap (option_map parent_of) at)) ∙ is))
    by (Some None) at = absurd (none-some q (sym (ap parent_in (slice_get-map parent_of ts k ∙ ap (option_map parent_of) at)) ∙ is))
    by (Some (Some t)) at = record { thing = t; at = at; parent = sym (parent_at ts k t at) ∙ is }

leads_down : (ts : Things) (n s k : ℕ) → LeadsUp (parents_of ts) n s k → Leads ts n s k
leads_down ts n zero k c = c
leads_down ts n (suc s) k c = let h = has_parent ts k c.0 c.1 in (h.thing, c.0, h.at, h.parent, leads_down ts n s c.0 c.2)

module _ (old ts : Things) (n : ℕ) (t : Thing) (at : IsAt old n t) (new : Places) (going : Releasing old n new.places.items ts)
    (none : (c : ℕ) (p : Place) → slice_get new.places.items c ≡ Some p → p.mark ≢ Doomed) where
  there : n < length (parents_of old)
  there = rw (length-map old parent_of) (slice_get_within old n (Some t) at)

  found : (k : ℕ) → IsBelow old n k → is_at_or_below (parents_of old) (n ∷ []) k ≡ true
  found k b = chain_found (parents_of old) n there b.steps k (leads_up old n b.steps k b.chain)

  below : (k : ℕ) → is_at_or_below (parents_of old) (n ∷ []) k ≡ true → IsBelow old n k
  below k h = let c = found_chain (length (parents_of old)) (parents_of old) n k h in record { steps = c.steps; chain = leads_down old n c.steps k c.leads }

  each_is : (k : ℕ) (x : Option Thing) → slice_get old k ≡ Some x → slice_get ts k ≡ Some (if is_at_or_below (parents_of old) (n ∷ []) k then None else x)
  each_is k x at_k = by (is_at_or_below (parents_of old) (n ∷ []) k) refl
    where
      by : (b : Bool) → is_at_or_below (parents_of old) (n ∷ []) k ≡ b → slice_get ts k ≡ Some (if b then None else x)
      by true e = all_gone old ts n new.places.items going none k (below k e)
      by false e = kept (none_else old ts n new.places.items going none k)
        where
          kept : (slice_get ts k ≡ slice_get old k) ⊎ (IsBelow old n k) → slice_get ts k ≡ Some x
          kept (inl same) = same ∙ at_k
          kept (inr b) = absurd (false≢true (sym e ∙ found k b))

  pub are_released : length old ≡ new.made → AreReleased old n new
  are_released made = record { things = ts; holds = record { hold = going.hold; made = going.long ∙ made }; long = going.long; each = each_is }
