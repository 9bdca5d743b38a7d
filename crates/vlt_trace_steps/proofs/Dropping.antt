-- Objects of a value, one after another.
use Rattle.std.proofs.Common.{◌≡◌, ℕ, List, [], ◌∷◌, refl}
use Rattle.vlt_core.specs.Core.{Program}
use Rattle.vlt_meaning.specs.World as m
use Rattle.vlt_meaning.specs.World.{is_loose}
use Rattle.vlt_meaning.specs.Objects.{owned_at}
use Rattle.vlt_meaning.specs.Step.{Step, with_found, with_released, with_dropped}

pub drop_one : (p : Program) (n : ℕ) (w : m.World) (go : m.World → Step) → with_dropped p (n ∷ []) w go ≡ with_found (owned_at is_loose w.objects n) w (λ q. with_released p n w go)
unfolding with_dropped
drop_one p n w go = refl

pub drop_more : (p : Program) (n : ℕ) (ns : List ℕ) (w : m.World) (go : m.World → Step) → with_dropped p (n ∷ ns) w go ≡ with_dropped p (n ∷ []) w (λ w. with_dropped p ns w go)
unfolding with_dropped
drop_more p n ns w go = refl

pub drop_none : (p : Program) (w : m.World) (go : m.World → Step) → with_dropped p [] w go ≡ go w
unfolding with_dropped
drop_none p w go = refl
