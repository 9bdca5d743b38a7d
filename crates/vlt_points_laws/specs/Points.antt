-- What paths find of a token at each point of a body: before each statement, and at each closing brace that a path comes to. Of a
-- loop the point before it is its head, where paths come from before it and from its turns.
use Rattle.std.specs.Prelude.{◌≡◌, ◌↔◌, ℕ, Bool, true, false, List, [], ◌∷◌, ◌++◌}
use Rattle.vlt_core.specs.Core.{Tok, Func, Program}
use Rattle.vlt_core.specs.Flow.{Flow, choose, loop, switch, scope, focus, Block, block, Stmts, done, next, Arms, no_arms, arm, passes_stmts}
use Rattle.vlt_core.specs.Bodies.{body_flow}
use Rattle.vlt_core.specs.Derives.{start_map}
use Rattle.vlt_core.specs.Found.{One, Ones, Has, images, out, out_stmts, to_next, head_of}
use Rattle.vlt_core_laws.specs.Sweep.{Many, In}

-- ---- places

abbrev pub list_if : Bool → List ℕ → List ℕ
list_if true xs = xs
list_if false xs = []

-- The places of the points, in the order of the text. A closing brace is one where its block can be passed; by the rules on names
-- and types no statement stands after one that ends.
abbrev mutual
  pub places : (at : ℕ) → Flow → List ℕ
  places at (choose rs a b) = at ∷ (places_block a ++ places_block b)
  places at (loop rs s) = at ∷ places_block s
  places at (switch rs arms end) = at ∷ places_arms arms
  places at (scope s) = at ∷ places_block s
  places at (focus rs s es) = at ∷ places_block s
  places at _ = at ∷ []

  pub places_block : Block → List ℕ
  places_block (block ss bound end) = places_stmts ss ++ list_if (passes_stmts ss) (end ∷ [])

  pub places_stmts : Stmts → List ℕ
  places_stmts done = []
  places_stmts (next at s rest) = places at s ++ places_stmts rest

  pub places_arms : Arms → List ℕ
  places_arms no_arms = []
  places_arms (arm rs s rest) = places_block s ++ places_arms rest

-- ---- what is found

-- the table holds just these
abbrev pub IsTableOf : Ones → Many → Type 0
IsTableOf S m = (o : One) → In m o ↔ S o

-- a point, and those after it
abbrev pub Before : Ones → (List Many → Type 0) → List Many → Type 0
Before S Rest ms = (m : Many) × IsTableOf S m × ((rest : List Many) × Rest rest × (ms ≡ m ∷ rest))

-- these points, and those after them
abbrev pub Then : (First Rest : List Many → Type 0) → List Many → Type 0
Then First Rest ms = (xs : List Many) × First xs × ((ys : List Many) × Rest ys × (ms ≡ xs ++ ys))

abbrev pub NoPoint : List Many → Type 0
NoPoint ms = ms ≡ []

abbrev pub OnlyIf : Bool → (List Many → Type 0) → List Many → Type 0
OnlyIf true F ms = F ms
OnlyIf false F ms = ms ≡ []

-- What is found of the token at each point of a part to which S comes, by the points' order.
abbrev mutual
  pub AreFound : Tok → Flow → Ones → List Many → Type 0
  AreFound t (choose rs a b) S ms = Before S (Then (AreFoundBlock t a (images t rs S)) (AreFoundBlock t b (images t rs S))) ms
  AreFound t (loop rs s) S ms = Before (head_of t rs s S) (AreFoundBlock t s (images t rs (head_of t rs s S))) ms
  AreFound t (switch rs arms end) S ms = Before S (AreFoundArms t arms (images t rs S)) ms
  AreFound t (scope s) S ms = Before S (AreFoundBlock t s S) ms
  AreFound t (focus rs s es) S ms = Before S (AreFoundBlock t s (images t rs S)) ms
  AreFound t s S ms = Before S NoPoint ms

  pub AreFoundBlock : Tok → Block → Ones → List Many → Type 0
  AreFoundBlock t (block ss bound end) S ms =
      Then (AreFoundStmts t ss S) (OnlyIf (passes_stmts ss) (Before (out_stmts t ss S to_next) NoPoint)) ms

  pub AreFoundStmts : Tok → Stmts → Ones → List Many → Type 0
  AreFoundStmts t done S ms = ms ≡ []
  AreFoundStmts t (next at s rest) S ms = Then (AreFound t s S) (AreFoundStmts t rest (out t s S to_next)) ms

  pub AreFoundArms : Tok → Arms → Ones → List Many → Type 0
  AreFoundArms t no_arms S ms = ms ≡ []
  AreFoundArms t (arm rs s rest) S ms = Then (AreFoundBlock t s (images t rs S)) (AreFoundArms t rest S) ms

-- ---- a function's body

-- what is found of the token at each point of the function's body
abbrev pub AreFoundIn : Program → Func → Tok → List Many → Type 0
AreFoundIn p f t ms = AreFoundBlock t (body_flow p f) (Has (start_map p f t)) ms

abbrev pub places_in : Program → Func → List ℕ
places_in p f = places_block (body_flow p f)
