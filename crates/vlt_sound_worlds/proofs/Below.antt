-- The test that goes up as many owners as there are objects finds what is below an object.
use Rattle.std.proofs.Common.{◌≡◌, ℕ, zero, suc, ◌<◌, List, [], ◌∷◌, length, Option, None, Some, refl, sym, ap, ◌∙◌, subst, slice_get}
use Rattle.std.proofs.lemmas.Option.{slice_get-map}
use Rattle.std.proofs.lemmas.List.{length-map}
use Rattle.std.specs.Option.{option_map}
use Rattle.vlt_base.specs.Parents.{parent_in, parent_of}
use Rattle.vlt_rings.proofs.Chains.{LeadsUp, chain_found, found_chain}
use Rattle.vlt_meaning.specs.World.{Object, above}
use Rattle.vlt_meaning.specs.Objects.{parents_of, is_under, objects_after_release}
use Rattle.vlt_sound_worlds.specs.Look.{look_in, look}
use Rattle.vlt_sound_worlds.specs.Ranks.{IsRanked}
use Rattle.vlt_sound_worlds.specs.Below.{HasUpper, IsBelowTest}
use Rattle.vlt_sound_worlds.proofs.Look.{ends_those}
use Rattle.vlt_sound_worlds.proofs.Ranks.{ranked_ends}

-- an object's parent in the list is what its owner hangs on
pub parent_is : (os : List Object) (m : ℕ) → parent_of (parents_of os) m ≡ above (look os m).owner
parent_is os m = ap parent_in (slice_get-map (λ o. above o.owner) os m) ∙ by (slice_get os m)
  where
    by : (q : Option Object) → parent_in (option_map (λ o. above o.owner) q) ≡ above (look_in q).owner
    by None = refl
    by (Some o) = refl

module _ (os : List Object) (n : ℕ) (there : n < length os) where
  within : n < length (parents_of os)
  within = subst (λ k. n < k) (sym (length-map os (λ o. above o.owner))) there

  pub below_test : IsBelowTest (look os) n (is_under os (n ∷ []))
  below_test = record {
    itself = chain_found (parents_of os) n within 0 n refl;
    up = λ m p e t.
        let c = found_chain (length (parents_of os)) (parents_of os) n p t in
        chain_found (parents_of os) n within (suc c.steps) m (p, parent_is os m ∙ e, c.leads);
    down = λ m t other.
        let c = found_chain (length (parents_of os)) (parents_of os) n m t in
        by m other c.steps c.leads;
  }
    where
      by : (m : ℕ) → (m ≡ n → ⊥) → (s : ℕ) → LeadsUp (parents_of os) n s m → HasUpper (look os) (is_under os (n ∷ [])) m
      by m other zero c = absurd (other c)
      by m other (suc s) c = record {
        upper = c.0;
        is = sym (parent_is os m) ∙ c.1;
        passes = chain_found (parents_of os) n within s c.0 c.2;
      }

pub ranked_released : (os : List Object) (n : ℕ) → n < length os → IsRanked (look os) → IsRanked (look (objects_after_release n os))
ranked_released os n there r = ranked_ends n (is_under os (n ∷ [])) (below_test os n there) (ends_those os n) r
