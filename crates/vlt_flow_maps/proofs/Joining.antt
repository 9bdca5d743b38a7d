-- A map united with what came before.
use Rattle.std.proofs.Common.{◌≡◌, ◌<◌, ◌⊎◌, inl, inr, Bool, true, false, MatchBool, Option, Some, rules}
use Rattle.vlt_core.proofs.Maps.{map_trans}
use Rattle.vlt_keyset.specs.Held.{Statuses, map_of, gap, IsJoin}
use Rattle.vlt_flow_maps.specs.Kept.{IsInto}

-- a map united with what came before
pub into_join : (o : Option Statuses) (old held new : Statuses) (g : Bool) → o ≡ Some old → IsJoin (map_of old) (map_of held) (map_of new) → MatchBool g (gap new < gap old) (new ≡ old) → IsInto o held (Some new)
into_join o old held new g e j grew = rw e (record {
  some = search rules;
  both = λ m p. (map_trans (map_of old) (map_of new) m j.left p, map_trans (map_of held) (map_of new) m j.right p);
  least = λ m p q. j.least m p q;
  grown = (j.left, near g grew);
})
  where
    near : (g : Bool) → MatchBool g (gap new < gap old) (new ≡ old) → (new ≡ old) ⊎ (gap new < gap old)
    near true p = inr p
    near false p = inl p
