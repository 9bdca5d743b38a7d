-- Keys as they are, and two lists of keys.
use Rattle.std.proofs.Common.{◌≡◌, refl, ap, ◌≤◌, ◌-◌, ℕ, ◌==◌, ◌&&◌, List, [], ◌∷◌, map, take, drop, length, get_or, Option, None, arith}
use Rattle.vlt_base.specs.declared.ids.KeyId.{KeyId}
use Rattle.vlt_core.specs.Types.{same_keys}
use Rattle.vlt_core.specs.View.{keys_of}
use Rattle.cert_kinds_exprs.specs.Seen.{key_under}
use Rattle.cert_kinds_types.proofs.Zips.{rest_is}

pub as_they_are : (ks : List ℕ) → map (key_under None) ks ≡ ks
as_they_are [] = refl
as_they_are (k ∷ ks) = ap (λ js. k ∷ js) (as_they_are ks)

same_drop : (u w : Option (List ℕ)) (a b : List KeyId) (k j : KeyId) → 1 ≤ length a → 1 ≤ length b →
    same_keys (map (key_under u) (keys_of a)) (map (key_under w) (keys_of b))
    ≡ (key_under u (get_or a 0 k).0 == key_under w (get_or b 0 j).0 && same_keys (map (key_under u) (keys_of (drop 1 a))) (map (key_under w) (keys_of (drop 1 b))))
same_drop u w [] b k j some others = absurd (omega (arith, some))
same_drop u w (x ∷ a) [] k j some others = absurd (omega (arith, others))
same_drop u w (x ∷ a) (y ∷ b) k j some others = refl

pub same_next : (u w : Option (List ℕ)) (a b : List KeyId) (k j : KeyId) → 1 ≤ length a → 1 ≤ length b →
    same_keys (map (key_under u) (keys_of a)) (map (key_under w) (keys_of b))
    ≡ (key_under u (get_or a 0 k).0 == key_under w (get_or b 0 j).0 && same_keys (map (key_under u) (keys_of (take (length a - 1) (drop 1 a)))) (map (key_under w) (keys_of (take (length b - 1) (drop 1 b)))))
same_next u w a b k j some others = rw (rest_is a, rest_is b) (same_drop u w a b k j some others)
