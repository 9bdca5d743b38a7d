-- Statements for a file that knows more names: what they bind is free there where it is free here, and each switch has an arm, as
-- in each text.
use Rattle.std.specs.Prelude.{[], ◌∷◌}
use Rattle.vlt_syntax.specs.Tree as s
use Rattle.vlt_syntax.specs.Tree.{Stmt, Block, If, Else, Stmts, Arms}
use Rattle.vlt_kinds_types.specs.Kinds.{Kinds}
use Rattle.vlt_iface.specs.Clash.{bound_names}
use Rattle.vlt_link_laws.specs.Moves.Sees.{AreFree}

abbrev pub HasArm : Arms → Type 0
HasArm s.no_arms = ⊥
HasArm (s.arm tick vs b at rest) = Unit {0}

module _ (a b : Kinds) where
  abbrev mutual
    pub IsApt : Stmt → Type 0
    IsApt (s.block y) = IsAptBlock y
    IsApt (s.choose i) = IsAptIf i
    IsApt (s.loop e y at) = IsAptBlock y
    IsApt (s.switch x arms at) = HasArm arms × IsAptArms arms
    IsApt (s.focus y k z c at) = AreFree a b (k ∷ z ∷ []) × IsAptBlock c
    IsApt x = AreFree a b (bound_names x)

    pub IsAptBlock : Block → Type 0
    IsAptBlock (s.braced ss at) = IsAptStmts ss

    pub IsAptIf : If → Type 0
    IsAptIf (s.choice e y other at) = IsAptBlock y × IsAptElse other

    pub IsAptElse : Else → Type 0
    IsAptElse s.nothing = Unit {0}
    IsAptElse (s.last y) = IsAptBlock y
    IsAptElse (s.chained i) = IsAptIf i

    pub IsAptStmts : Stmts → Type 0
    IsAptStmts s.done = Unit {0}
    IsAptStmts (s.next x xs) = IsApt x × IsAptStmts xs

    pub IsAptArms : Arms → Type 0
    IsAptArms s.no_arms = Unit {0}
    IsAptArms (s.arm tick vs y at rest) = AreFree a b vs × IsAptBlock y × IsAptArms rest
