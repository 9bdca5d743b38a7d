-- What is proved of references in scope.
use Rattle.std.specs.Prelude.{◌≡◌, ℕ, Bool, None}
use Rattle.vlt_core.specs.Core.{Stmts, Func, Program}
use Rattle.vlt_core.specs.Kinded.{first_broken, IsKinded}
use Rattle.vlt_core.specs.KindedScopes.{Ids, Around}
use Rattle.vlt_core.specs.KindedBodies.{stmts_rows, ids_following_stmts}
use Rattle.vlt_meaning.specs.World.{World, Frame}
use Rattle.vlt_meaning.specs.Run.{less}
use Rattle.c_lower_worlds.specs.Naming.Functions.{IsFunction}
use Rattle.c_lower_worlds.specs.Naming.Naming.{IsInScope, Promise}

-- Statements that break no rule, of a program that breaks none, begin where each reference in scope
-- is one to the object that its key names. Where they go on or jump that is so again, and no key
-- that was bound names another object; and a function gives back the objects that the keys of its
-- head named, and the new one that it returns.
abbrev pub NamesAreKept : Type 0
NamesAreKept =
    (p : Program) → IsKinded p → (heap depth fuel : ℕ) (f : Func) (ss : Stmts) (around : Around)
    (ids : Ids) (ended : Bool)
    (s : Frame) (w : World) → IsFunction p f →
    first_broken 0 (stmts_rows p f around ids ended ss) ≡ None →
    IsInScope f ids s →
    Promise f ids (ids_following_stmts p f ss ids).vars s
    (less (record { program = p; heap = heap; depth = depth }) fuel f ss s w)
