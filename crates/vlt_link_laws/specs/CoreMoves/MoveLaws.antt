-- What stays so of a function whose declarations get other numbers.
use Rattle.std.specs.Prelude.{◌≡◌, ℕ, true, false, Option, None}
use Rattle.vlt_core.specs.Core.{Func, Program}
use Rattle.vlt_core.specs.Types.{is_droppable_struct}
use Rattle.vlt_core.specs.Kinded.{first_broken, function_rows}
use Rattle.vlt_core.specs.Bodies.{body_flow}
use Rattle.vlt_core.specs.Instances.{instance, IsOrigin}
use Rattle.vlt_core.specs.Derives.{IsAcceptedFunc}
use Rattle.vlt_link_laws.specs.CoreMoves.Moves.{Moves, moved_func}
use Rattle.vlt_link_laws.specs.CoreMoves.Keeps.{Keeps}
use Rattle.vlt_link_laws.specs.CoreMoves.Knows.{KnowsBody}

-- its body has the same rows and joins
abbrev pub MovedBodiesFlowAlike : Type 0
MovedBodiesFlowAlike = (m : Moves) (p q : Program) (f : Func) → Keeps m p q → KnowsBody p f →
    body_flow q (moved_func m f) ≡ body_flow p f

-- its instances are the same, moved, and none has more origins
abbrev pub MovedFunctionsHaveTheSameInstances : Type 0
MovedFunctionsHaveTheSameInstances = (m : Moves) (p q : Program) (f : Func) (o : Option ℕ) →
    Keeps m p q → KnowsBody p f →
    (instance q (moved_func m f) o ≡ moved_func m (instance p f o)) ×
    (IsOrigin q (moved_func m f) o → IsOrigin p f o)

-- where each of its instances is accepted, each of the moved function is
abbrev pub MovedBodiesAreAccepted : Type 0
MovedBodiesAreAccepted = (m : Moves) (p q : Program) (f : Func) → Keeps m p q → KnowsBody p f →
    ((o : Option ℕ) → IsOrigin p f o → IsAcceptedFunc p (instance p f o)) →
    (o : Option ℕ) → IsOrigin q (moved_func m f) o → IsAcceptedFunc q (instance q (moved_func m f) o)

-- a struct that may be dropped still may
abbrev pub DroppableStructsStaySo : Type 0
DroppableStructsStaySo = (m : Moves) (p q : Program) (t : ℕ) → Keeps m p q →
    is_droppable_struct p t ≡ true → is_droppable_struct q (m.types t) ≡ true

-- a function with a body whose rows break no rule knows what its rows look at
abbrev pub UnbrokenFunctionsKnow : Type 0
UnbrokenFunctionsKnow = (p : Program) (n : ℕ) (f : Func) →
    first_broken 0 (function_rows p (n, f)) ≡ None → f.external ≡ false → KnowsBody p f
