-- What is promised of a statement without blocks that calls nothing, where the scope is known.
use Rattle.std.specs.Prelude.{◌≡◌, []}
use Rattle.vlt_core.specs.Core.{Simple, Func}
use Rattle.vlt_core.specs.Maps.{HeldMap, CanPass, map_after}
use Rattle.vlt_core.specs.Rows.{simple_rows}
use Rattle.vlt_core.specs.KindedScopes.{Ids}
use Rattle.vlt_core.specs.KindedStatements.{simple_broken, ids_after}
use Rattle.vlt_meaning.specs.World.{World, Frame}
use Rattle.vlt_meaning.specs.Run.{Setup, does_simple}
use Rattle.vlt_sound_worlds.specs.Agrees.{Context, Agrees}
use Rattle.vlt_sound_worlds.specs.Typed.{IsTyped}
use Rattle.vlt_sound_worlds.specs.Safe.{Safe, goes_to}
use Rattle.vlt_sound_worlds.specs.Scoped.{IsScoped, HasKeys}

-- Where it breaks no rule on names and types and the held map passes its rows, it ends in no fault, and what the map after
-- the rows says is so after it.
abbrev pub IsScopedStep : Simple → Type 0
IsScopedStep s =
    (r : Setup) (f : Func) (c : Context) (h : HeldMap) (ids : Ids) (frame : Frame) (w : World) →
    IsTyped r.program f → HasKeys f → IsScoped f c ids → Agrees r.program f c h ids [] frame w.objects →
    simple_broken r.program f ids s ≡ [] → CanPass (simple_rows r.program f s) h →
    Safe (goes_to r.program f c (map_after (simple_rows r.program f s) h) (ids_after f s ids) [])
    (does_simple r f s frame w)
