-- What a call gives, when its caller is to have it.
use Rattle.std.specs.Prelude.{◌≡◌, ℕ, List, [], ◌∷◌, Option, None, Some}
use Rattle.vlt_core.specs.Core.{Ty, Func, Program}
use Rattle.vlt_core.specs.Types.{with_keys}
use Rattle.vlt_core.specs.Maps.{HeldMap}
use Rattle.vlt_core.specs.KindedScopes.{Ids}
use Rattle.vlt_meaning.specs.World.{Value, Object, Frame}
use Rattle.vlt_sound_worlds.specs.Agrees.{Context, Agrees}

-- nothing, or a value of the result's type under the caller's keys, which is handed over
abbrev pub IsGiven : Program → Func → Context → HeldMap → Ids → Frame → List Object → (keys : List ℕ) →
    Option Ty → Option Value → Type 0
IsGiven p f c h ids frame os keys None a = (a ≡ None) × Agrees p f c h ids [] frame os
IsGiven p f c h ids frame os keys (Some ty) a =
    (v : Value) × (a ≡ Some v) × Agrees p f c h ids (record { value = v; type = with_keys keys ty } ∷ []) frame os
