-- Arguments against a header, one after another.
use Rattle.std.proofs.Common.{◌≡◌, ◌-◌, take, take_all, length-drop, ◌≤◌, ℕ, List, [], ◌∷◌, drop, length, get_or, Option, option_map, arith}
use Rattle.vlt_base.specs.declared.ids.KeyId.{KeyId}
use Rattle.vlt_base.specs.declared.ids.TypeId.{TypeId}
use Rattle.vlt_core.specs.Types.{header_of}
use Rattle.vlt_core.specs.KindedHeads.{Rules, when_some}
use Rattle.vlt_core.specs.declared.rules.TheConstants as rule
use Rattle.vlt_core.specs.View as view
use Rattle.cert_kinds_types.specs.Least.{least, lesser}
use Rattle.cert_kinds_types.specs.Arguments.{args_broken}
use Rattle.cert_kinds_types.proofs.Smallest.{joined}

pub rest_is : {A : Type 0} (xs : List A) → take (length xs - 1) (drop 1 xs) ≡ drop 1 xs
rest_is xs = let few : length (drop 1 xs) ≡ length xs - 1 = length-drop 1 xs in take_all (length xs - 1) (drop 1 xs) (omega (arith, few))

zip_drop : (go : ℕ → ℕ → Rules) (ks : List KeyId) (hs : List (Option TypeId)) (k : KeyId) (h : Option TypeId) → 1 ≤ length ks → 1 ≤ length hs →
    least (args_broken go (view.keys_of ks) (view.header_of hs)) ≡
    lesser (least (when_some (option_map (λ t. t.0) (get_or hs 0 h)) (go (get_or ks 0 k).0))) (least (args_broken go (view.keys_of (drop 1 ks)) (view.header_of (drop 1 hs))))
zip_drop go [] hs k h some others = absurd (omega (arith, some))
zip_drop go (j ∷ ks) [] k h some others = absurd (omega (arith, others))
zip_drop go (j ∷ ks) (t ∷ hs) k h some others = joined (when_some (option_map (λ t. t.0) t) (go j.0)) (args_broken go (view.keys_of ks) (view.header_of hs))

pub zip_next : (go : ℕ → ℕ → Rules) (ks : List KeyId) (hs : List (Option TypeId)) (k : KeyId) (h : Option TypeId) → 1 ≤ length ks → 1 ≤ length hs →
    least (args_broken go (view.keys_of ks) (view.header_of hs)) ≡
    lesser (least (when_some (option_map (λ t. t.0) (get_or hs 0 h)) (go (get_or ks 0 k).0)))
    (least (args_broken go (view.keys_of (take (length ks - 1) (drop 1 ks))) (view.header_of (take (length hs - 1) (drop 1 hs)))))
zip_next go ks hs k h some others = rw (rest_is ks, rest_is hs) (zip_drop go ks hs k h some others)
