-- Points of a body that show an annotation: each loop's head, and each point at which the ways of a loop or of a choice have come
-- together.
use Rattle.std.specs.Prelude.{◌≡◌, ℕ, ◌+◌, List, [], ◌∷◌}
use Rattle.vlt_core.specs.Core.{Tok}
use Rattle.vlt_core.specs.Flow.{Flow, choose, loop, switch, scope, focus, Block, block, Stmts, done, next, Arms, no_arms, arm, size, size_block, passes_stmts}
use Rattle.vlt_core.specs.Found.{Ones, Has}
use Rattle.vlt_core.specs.Local.{Notes}
use Rattle.vlt_core_laws.specs.Sweep.{Many}
use Rattle.vlt_points_laws.specs.Points.{IsTableOf, Before, Then, NoPoint, OnlyIf}

-- a point, whatever its table, and those after it
abbrev pub Any : (List Many → Type 0) → List Many → Type 0
Any Rest ms = (m : Many) × ((rest : List Many) × Rest rest × (ms ≡ m ∷ rest))

-- both are so of these points
abbrev pub Both : (One Other : List Many → Type 0) → List Many → Type 0
Both One Other ms = One ms × Other ms

-- the first of the points, if there is one, has this table
abbrev pub BeginWith : Ones → List Many → Type 0
BeginWith S [] = Unit {0}
BeginWith S (m ∷ ms) = IsTableOf S m

-- the point before a statement, or at the brace after the last one; more may come to a loop's head, so of that nothing is said
abbrev pub Follow : Ones → (rest : Stmts) → List Many → Type 0
Follow S (next at (loop rs s) rest) ms = Unit {0}
Follow S rest ms = BeginWith S ms

-- after a loop or a choice the first point has what the annotation has there
abbrev pub AreJoined : Notes → Tok → (number : ℕ) → Flow → (rest : Stmts) → List Many → Type 0
AreJoined a t n (choose rs x y) rest ms = Follow (Has (a.following n t)) rest ms
AreJoined a t n (loop rs s) rest ms = Follow (Has (a.following n t)) rest ms
AreJoined a t n (switch rs arms end) rest ms = Follow (Has (a.following n t)) rest ms
AreJoined a t n s rest ms = Unit {0}

-- The points of a part, whose first statement has this number, show the annotation of the token.
abbrev mutual
  pub AreNoted : Notes → Tok → (number : ℕ) → Flow → List Many → Type 0
  AreNoted a t n (choose rs x y) ms = Any (Then (AreNotedBlock a t (n + 1) x) (AreNotedBlock a t (n + 1 + size_block x) y)) ms
  AreNoted a t n (loop rs s) ms = Before (Has (a.around n t)) (AreNotedBlock a t (n + 1) s) ms
  AreNoted a t n (switch rs arms end) ms = Any (AreNotedArms a t (n + 1) arms) ms
  AreNoted a t n (scope s) ms = Any (AreNotedBlock a t (n + 1) s) ms
  AreNoted a t n (focus rs s es) ms = Any (AreNotedBlock a t (n + 1) s) ms
  AreNoted a t n s ms = Any NoPoint ms

  -- the last point is the brace, if a path comes to it
  pub AreNotedBlock : Notes → Tok → (number : ℕ) → Block → List Many → Type 0
  AreNotedBlock a t n (block ss bound end) ms = AreNotedStmts a t n ss (OnlyIf (passes_stmts ss) (Any NoPoint)) ms

  pub AreNotedStmts : Notes → Tok → (number : ℕ) → Stmts → (last : List Many → Type 0) → List Many → Type 0
  AreNotedStmts a t n done Last ms = Last ms
  AreNotedStmts a t n (next at s rest) Last ms =
      Then (AreNoted a t n s) (Both (AreJoined a t n s rest) (AreNotedStmts a t (n + size s) rest Last)) ms

  pub AreNotedArms : Notes → Tok → (number : ℕ) → Arms → List Many → Type 0
  AreNotedArms a t n no_arms ms = ms ≡ []
  AreNotedArms a t n (arm rs s rest) ms = Then (AreNotedBlock a t n s) (AreNotedArms a t (n + size_block s) rest) ms
