-- The states that heads say.
use Rattle.std.specs.Prelude.{Bool}
use Rattle.vlt_syntax.specs.Tree.{Head}
use Rattle.vlt_core.specs.Core.{Ty, Func, Program}
use Rattle.vlt_kinds_types.specs.Files.{File}
use Rattle.vlt_kinds_heads.specs.Keys.{Keys}
use Rattle.vlt_kinds_heads.specs.Phase.{core_head}
use Rattle.vlt_resolve_laws.specs.KindsLaws.Shapes.{Describes}
use Rattle.vlt_resolve_laws.specs.KindsLaws.Said.{TypeSays, HeadSays}
use Rattle.vlt_resolve_laws.specs.KindsLaws.Declared.{IsFilled}

-- the states that an owning type says have one
abbrev pub SaysStates : Ty → Type 0
SaysStates = TypeSays IsFilled

-- and those of a head
abbrev pub HeadHasStates : Func → Type 0
HeadHasStates = HeadSays IsFilled

-- each set of states that a head says has one, whether it is refused or not
abbrev pub HeadsHaveStates : Type 0
HeadsHaveStates = (file : File) (p : Program) (h : Head) (external : Bool) (keys : Keys) → Describes file p → HeadHasStates (core_head file external h keys)
