-- An annotation that shows just what is found.
use Rattle.std.specs.Prelude.{◌≡◌, ℕ, ◌+◌, Bool, true, false, IsTrue, List, [], ◌∷◌}
use Rattle.vlt_core.specs.Core.{Tok, a_key, a_var}
use Rattle.vlt_core.specs.Maps.{After, becomes_absent, becomes_held, stays, becomes_full, becomes_lent, comes_back, Row, Status, HeldMap, Kind, is_absent, is_held, is_lent, is_full}
use Rattle.vlt_core.specs.Flow.{Flow, step, choose, loop, switch, scope, focus, return, jump, Block, block, Stmts, done, next, Arms, no_arms, arm, size, size_block, passes}
use Rattle.vlt_core_laws.specs.Tame.{IsLentOne, IsTameBlock}
use Rattle.vlt_core_laws.specs.Scoped.{IsJumpingBlock}
use Rattle.vlt_core_laws.specs.Sweep.{In, Stock}
use Rattle.vlt_core.specs.Local.{Notes}
use Rattle.vlt_core.specs.Found.{One, one_absent, one_held, one_lent, one_full, Ones, Has, images, out, to_next, head_of}

abbrev pub one_kind : One → Kind
one_kind one_absent = is_absent
one_kind (one_held i) = is_held
one_kind (one_lent i) = is_lent
one_kind one_full = is_full

-- the status stands for just these
pub record IsJust (u : Status) (S : Ones) : Type 0 where
  pub there : (o : One) → S o → Has u o
  pub back : (o : One) → Has u o → S o

abbrev pub Every : Type 1
Every = Tok → Ones

abbrev pub AreJust : HeldMap → Every → Type 0
AreJust h S = (t : Tok) → IsJust (h t) (S t)

-- The notes show what is found at the heads and after, where something comes.
abbrev mutual
  pub Shows : Notes → ℕ → Every → Flow → Type 0
  Shows a n S (step rs) = Unit {0}
  Shows a n S (choose rs s u) =
      (passes (choose rs s u) ≡ true → AreJust (a.following n) (λ t. out t (choose rs s u) (S t) to_next)) ×
      ShowsBlock a (n + 1) (λ t. images t rs (S t)) s ×
      ShowsBlock a (n + 1 + size_block s) (λ t. images t rs (S t)) u
  Shows a n S (loop rs s) =
      AreJust (a.around n) (λ t. head_of t rs s (S t)) ×
      AreJust (a.following n) (λ t. out t (loop rs s) (S t) to_next) ×
      ShowsBlock a (n + 1) (λ t. images t rs (head_of t rs s (S t))) s
  Shows a n S (switch rs arms end) =
      (passes (switch rs arms end) ≡ true → AreJust (a.following n) (λ t. out t (switch rs arms end) (S t) to_next)) ×
      ShowsArms a (n + 1) (λ t. images t rs (S t)) arms
  Shows a n S (scope s) = ShowsBlock a (n + 1) S s
  Shows a n S (focus rs s es) = ShowsBlock a (n + 1) (λ t. images t rs (S t)) s
  Shows a n S (return rs) = Unit {0}
  Shows a n S (jump c left) = Unit {0}

  pub ShowsBlock : Notes → ℕ → Every → Block → Type 0
  ShowsBlock a n S (block ss bound end) = ShowsStmts a n S ss

  pub ShowsStmts : Notes → ℕ → Every → Stmts → Type 0
  ShowsStmts a n S done = Unit {0}
  ShowsStmts a n S (next at s rest) = Shows a n S s × (passes s ≡ true → ShowsStmts a (n + size s) (λ t. out t s (S t) to_next) rest)

  pub ShowsArms : Notes → ℕ → Every → Arms → Type 0
  ShowsArms a n S no_arms = Unit {0}
  ShowsArms a n S (arm rs s rest) = ShowsBlock a n (λ t. images t rs (S t)) s × ShowsArms a (n + size_block s) S rest

-- a set that a row leaves has a state
abbrev pub IsFilled : After → Type 0
IsFilled (becomes_held s) = (i : ℕ) × IsTrue (s i)
IsFilled _ = Unit {0}

-- a key is never full, a variable never held
abbrev pub IsOwnKind : After → Tok → Type 0
IsOwnKind becomes_absent t = Unit {0}
IsOwnKind (becomes_held s) (a_key i) = Unit {0}
IsOwnKind (becomes_held s) (a_var i) = ⊥
IsOwnKind stays t = Unit {0}
IsOwnKind becomes_full (a_key i) = ⊥
IsOwnKind becomes_full (a_var i) = Unit {0}
IsOwnKind becomes_lent t = Unit {0}
IsOwnKind comes_back t = Unit {0}

abbrev pub AreFilled : List Row → Type 0
AreFilled [] = Unit {0}
AreFilled (r ∷ rs) = IsFilled r.after × IsOwnKind r.after r.tok × AreFilled rs

abbrev mutual
  pub HasFilled : Flow → Type 0
  HasFilled (step rs) = AreFilled rs
  HasFilled (choose rs s u) = AreFilled rs × HasFilledBlock s × HasFilledBlock u
  HasFilled (loop rs s) = AreFilled rs × HasFilledBlock s
  HasFilled (switch rs arms end) = AreFilled rs × HasFilledArms arms
  HasFilled (scope s) = HasFilledBlock s
  HasFilled (focus rs s es) = AreFilled rs × HasFilledBlock s × AreFilled es
  HasFilled (return rs) = AreFilled rs
  HasFilled (jump c left) = Unit {0}

  pub HasFilledBlock : Block → Type 0
  HasFilledBlock (block ss bound end) = HasFilledStmts ss

  pub HasFilledStmts : Stmts → Type 0
  HasFilledStmts done = Unit {0}
  HasFilledStmts (next at s rest) = HasFilled s × HasFilledStmts rest

  pub HasFilledArms : Arms → Type 0
  HasFilledArms no_arms = Unit {0}
  HasFilledArms (arm rs s rest) = AreFilled rs × HasFilledBlock s × HasFilledArms rest

abbrev pub IsOwn : Tok → One → Type 0
IsOwn (a_key i) one_absent = Unit {0}
IsOwn (a_key i) (one_held s) = Unit {0}
IsOwn (a_key i) (one_lent s) = Unit {0}
IsOwn (a_key i) one_full = ⊥
IsOwn (a_var i) one_absent = Unit {0}
IsOwn (a_var i) (one_held s) = ⊥
IsOwn (a_var i) (one_lent s) = ⊥
IsOwn (a_var i) one_full = Unit {0}

-- lent in a focus on the token, and only there
abbrev pub IsInFocus : Bool → One → Type 0
IsInFocus true o = IsLentOne o
IsInFocus false o = IsLentOne o → ⊥

abbrev pub IsGood : Bool → Tok → One → Type 0
IsGood b t o = IsInFocus b o × IsOwn t o

abbrev pub IsOneKind : Ones → Type 0
IsOneKind S = (o o' : One) → S o → S o' → one_kind o ≡ one_kind o'

-- the notes read the tables of each token, where they are of one kind
pub record IsReadOf (a : Notes) (k : Tok → Stock) : Type 0 where
  pub around : (t : Tok) (i : ℕ) → IsOneKind (In ((k t).around i)) → IsJust (a.around i t) (In ((k t).around i))
  pub following : (t : Tok) (i : ℕ) → IsOneKind (In ((k t).following i)) → IsJust (a.following i t) (In ((k t).following i))

-- a start: each status has a state, none is lent, and each is of its token's kind
pub record IsStart (h : HeldMap) : Type 0 where
  pub some : (t : Tok) → (o : One) × Has (h t) o
  pub good : (t : Tok) (o : One) → Has (h t) o → IsGood false t o

-- what Kinded gives: tokens are lent in a focus alone, sets that rows leave have states and are of their token's kind, jumps stand in loops
pub record IsFit (s : Block) : Type 0 where
  pub tame : IsTameBlock s
  pub filled : HasFilledBlock s
  pub jumping : IsJumpingBlock false s
