-- What is promised of statements, blocks and arms: they end in no fault, and come to what the maps say.
use Rattle.std.specs.Prelude.{Bool, List, []}
use Rattle.vlt_core.specs.Core.{Tok, Form, Block, Stmts, Func}
use Rattle.vlt_core.specs.Maps.{HeldMap}
use Rattle.vlt_core.specs.Bodies.{flow_of, flow_of_block, flow_of_stmts}
use Rattle.vlt_core.specs.Derives.{Derives, DerivesBlock, DerivesStmts}
use Rattle.vlt_core.specs.KindedScopes.{Ids}
use Rattle.vlt_core.specs.KindedBodies.{ids_following, ids_following_block, ids_following_stmts}
use Rattle.vlt_meaning.specs.World.{World, Frame}
use Rattle.vlt_meaning.specs.Step.{Step}
use Rattle.vlt_meaning.specs.Run.{Setup, Meaning, does_form, does_block}
use Rattle.vlt_sound_worlds.specs.Agrees.{Agrees}
use Rattle.vlt_sound_worlds.specs.Safe.{Safe}
use Rattle.vlt_sound_statements.specs.Kinded.{IsKindedForm, IsKindedBlock, AreKinded}
use Rattle.vlt_sound_statements.specs.Sites.{Site, comes_to, IsAt}

-- A statement: at each site where it breaks no rule, and from each map that leads through it, it comes to the map after.
abbrev pub IsSafeForm : Setup → Meaning → Func → Form → Type 0
IsSafeForm r rest_of f form =
    (s : Site) (h k : HeldMap) (ids : Ids) (frame : Frame) (w : World) → IsAt r.program f s ids →
    IsKindedForm r.program f s.around ids form →
    Derives s.breaks s.turns h (flow_of r.program f s.left form) k →
    Agrees r.program f s.context h ids [] frame w.objects →
    Safe (comes_to r.program f s k (ids_following r.program f form ids)) (does_form r rest_of f form frame w)

abbrev pub IsSafeBlock : Setup → Meaning → Func → Block → Type 0
IsSafeBlock r rest_of f b =
    (s : Site) (h k : HeldMap) (extra : List Tok) (ids : Ids) (frame : Frame) (w : World) → IsAt r.program f s ids →
    IsKindedBlock r.program f s.around extra ids b →
    DerivesBlock s.breaks s.turns h (flow_of_block r.program f s.left b) k →
    Agrees r.program f s.context h ids [] frame w.objects →
    Safe (comes_to r.program f s k (ids_following_block r.program f b ids)) (does_block r rest_of f b frame w)

-- what `go` does is what the statements do
abbrev pub AreSafe : Setup → Func → Stmts → (go : Frame → World → Step) → Type 0
AreSafe r f ss go =
    (s : Site) (h k : HeldMap) (ids : Ids) (ended : Bool) (frame : Frame) (w : World) → IsAt r.program f s ids →
    AreKinded r.program f s.around ids ended ss →
    DerivesStmts s.breaks s.turns h (flow_of_stmts r.program f s.left ss) k →
    Agrees r.program f s.context h ids [] frame w.objects →
    Safe (comes_to r.program f s k (ids_following_stmts r.program f ss ids)) (go frame w)

-- statements of a function that come after a unit of fuel was spent
abbrev pub RestIsSafe : Setup → Meaning → Func → Type 0
RestIsSafe r rest_of f = (ss : Stmts) → AreSafe r f ss (rest_of f ss)
