-- What holds of the places at which C programs differ from lowerings.
use Rattle.std.specs.Prelude.{◌≡◌, ℕ, map}
use Rattle.vlt_base.specs.Sure.{Surely}
use Rattle.vlt_core.specs.Core.{Func, Program}
use Rattle.vlt_core.specs.Flow.{size_block}
use Rattle.vlt_core.specs.Bodies.{body_flow}
use Rattle.c_syntax.specs.C as c
use Rattle.c_lower.specs.Lowering.{lowered}
use Rattle.c_match.specs.Pieces.{program_pieces}
use Rattle.c_match.specs.Owned.{count_list, owned_lowering}
use Rattle.c_match.specs.Apart.{IsApartAt}

-- programs with the same pieces are the same
abbrev pub PiecesSayAll : Type 0
PiecesSayAll = (x y : c.Program) → program_pieces x ≡ program_pieces y → x ≡ y

-- without their owners the pieces are those of the lowering
abbrev pub OwnedAreLowered : Type 0
OwnedAreLowered = (p : Program) → map (λ x. x.piece) (owned_lowering p) ≡ program_pieces (lowered p)

-- statements are counted as those of a body's flow are
abbrev pub CountsAreSizes : Type 0
CountsAreSizes = (p : Program) (f : Func) → count_list f.body ≡ size_block (body_flow p f)

-- the lowering differs at no statement
abbrev pub LoweringIsNowhereApart : Type 0
LoweringIsNowhereApart = (p : Program) (n : ℕ) → IsApartAt p (lowered p) n → ⊥

-- a program differs at one statement at most
abbrev pub ApartAtOne : Type 0
ApartAtOne = (p : Program) (x : c.Program) (m n : ℕ) → IsApartAt p x m → IsApartAt p x n → m ≡ n

-- a program that isn't the lowering differs at one
abbrev pub OthersAreApart : Type 0
OthersAreApart = (p : Program) (x : c.Program) → (x ≡ lowered p → ⊥) →
    Surely ((n : ℕ) × IsApartAt p x n)
