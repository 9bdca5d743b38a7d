-- What holds of all statements that are left to do.
use Rattle.std.specs.Prelude.{List, [], ◌∷◌}
use Rattle.vlt_core.specs.Core.{Form, loop, Stmts, Func, Program}
use Rattle.vlt_meaning_laws.specs.Machine.Machine.{Task, list, turn, back, Conf}
use Rattle.vlt_interp.specs.Tasks.Own.{IsOwn, AreOwn, IsOf}

-- It holds of lists of statements and of loops. Each task is the function's that runs there.
abbrev pub HoldOf : (Func → Stmts → Type 0) → (Func → Form → Type 0) → Program → Func → List Task → Type 0
HoldOf L F p f [] = Unit {0}
HoldOf L F p f (list ss ∷ ts) = L f ss × HoldOf L F p f ts
HoldOf L F p f (turn e b ∷ ts) = F f (loop e b) × HoldOf L F p f ts
HoldOf L F p f (back k ∷ ts) = IsOf p k.func × HoldOf L F p k.func ts
HoldOf L F p f (t ∷ ts) = HoldOf L F p f ts

-- the function is the program's, and so are all those that wait for it
pub record HoldsIn (L : Func → Stmts → Type 0) (F : Func → Form → Type 0) (p : Program) (f : Func) (ts : List Task) : Type 0 where
  pub func : IsOf p f
  pub tasks : HoldOf L F p f ts

-- all that is left names variables and keys of its own function
abbrev pub IsOwnConf : Program → Conf → Type 0
IsOwnConf p c = HoldsIn (AreOwn p) (IsOwn p) p c.func c.tasks
