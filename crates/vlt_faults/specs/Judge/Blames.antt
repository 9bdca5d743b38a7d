-- Faulty rows and joins with what is told of them, and which one is first.
use Rattle.std.specs.Prelude.{◌≡◌, ℕ, List, Option, Some, None, IfSome, ◌⊎◌}
use Rattle.vlt_core.specs.Core.{Tok}
use Rattle.vlt_core.specs.Maps.{Row, Wanted, is_tok}
use Rattle.vlt_core.specs.Flow.{Flow, Block, Stmts, Arms}
use Rattle.vlt_core.specs.Found.{One, Ones, WantsOne}
use Rattle.vlt_core.specs.Faults.{Spot, row_spot, If, RowAt, SpotAt, SpotAtBlock, SpotAtStmts, SpotAtArms, IsMixed, IsUnwanted, IsNoLater, FaultKind, present_of, TellsRow, TellsJoin}
use Rattle.vlt_core.specs.View.{tok_of}
use Rattle.vlt_core.specs.FaultView.{kind_of}
use Rattle.vlt_core_laws.specs.Shown.{IsOneKind}
use Rattle.vlt_faults.specs.declared.judge.blame.Class.{Class}
use Rattle.vlt_faults.specs.declared.judge.blame.Class.TheVariants as class
use Rattle.vlt_faults.specs.declared.judge.blame.Blame.{Blame}

-- ---- the code's blames as plain ones

abbrev pub class_of : Class → ℕ
class_of class.Head = 0
class_of class.Row = 1
class_of class.Join = 2

abbrev pub spot_of : Blame → Spot
spot_of b = record { at = b.at; class = class_of b.class; number = b.number }

-- ---- the first

-- the blame comes before the spot for the token, or is there
abbrev pub NoLaterThan : Option Blame → Spot → Tok → Type 0
NoLaterThan None p t = ⊥
NoLaterThan (Some b) p t = IsNoLater (spot_of b) (tok_of b.tok) p t

-- one of the two, and no later than either
pub record IsEarlier (a b r : Option Blame) : Type 0 where
  pub one : (r ≡ a) ⊎ (r ≡ b)
  pub first : (p : Spot) (t : Tok) → NoLaterThan a p t ⊎ NoLaterThan b p t → NoLaterThan r p t

-- The blame is told of a spot by G, and comes no later than each spot of F; without one there is none.
pub record IsFirstOf (t : Tok) (x : Option Blame) (F : Spot → Type 0) (G : FaultKind → Spot → Type 0) : Type 0 where
  pub there : IfSome x (λ b. (tok_of b.tok ≡ t) × G (kind_of b.kind) (spot_of b))
  pub first : (p : Spot) → F p → NoLaterThan x p t

-- ---- faults of parts

-- some status is found that isn't wanted, and none is mixed with its absence
abbrev pub IsRefusing : Wanted → Ones → Type 0
IsRefusing w S = ((o : One) × S o × (WantsOne w o → ⊥)) × (IsMixed S → ⊥)

-- the row is faulty, and this is told of it where the statuses found are of one kind
abbrev pub TellsUnwanted : FaultKind → Row → Ones → Type 0
TellsUnwanted kind r S = IsUnwanted r S × (IsOneKind S → TellsRow kind r S)

-- the join is faulty, and this is told of it where the statuses present are of one kind
abbrev pub TellsMixed : FaultKind → Ones → Type 0
TellsMixed kind S = IsMixed S × (IsOneKind (present_of S) → TellsJoin kind S)

-- the first faulty one for the token of a row, a join, rows, a statement, a block, statements, arms
abbrev pub FirstOfRow : Tok → (at n : ℕ) → Row → Ones → Option Blame → Type 0
FirstOfRow t at n r S x =
    IsFirstOf t x
    (λ p. (p ≡ row_spot at n) × If (is_tok t r.tok) (IsUnwanted r S))
    (λ kind p. (p ≡ row_spot at n) × If (is_tok t r.tok) (TellsUnwanted kind r S))

abbrev pub FirstOfJoin : Tok → Spot → Ones → Option Blame → Type 0
FirstOfJoin t q S x = IsFirstOf t x (λ p. (p ≡ q) × IsMixed S) (λ kind p. (p ≡ q) × TellsMixed kind S)

abbrev pub FirstOfRows : Tok → (at n : ℕ) → List Row → Ones → Option Blame → Type 0
FirstOfRows t at n rs S x =
    IsFirstOf t x
    (λ p. RowAt IsUnwanted IsMixed p t at n rs S)
    (λ kind p. RowAt (TellsUnwanted kind) (TellsMixed kind) p t at n rs S)

abbrev pub FirstOfForm : Tok → (at n : ℕ) → Flow → Ones → Option Blame → Type 0
FirstOfForm t at n s S x =
    IsFirstOf t x
    (λ p. SpotAt IsUnwanted IsMixed p t at n s S)
    (λ kind p. SpotAt (TellsUnwanted kind) (TellsMixed kind) p t at n s S)

abbrev pub FirstOfBlock : Tok → (n : ℕ) → Block → Ones → Option Blame → Type 0
FirstOfBlock t n s S x =
    IsFirstOf t x
    (λ p. SpotAtBlock IsUnwanted IsMixed p t n s S)
    (λ kind p. SpotAtBlock (TellsUnwanted kind) (TellsMixed kind) p t n s S)

abbrev pub FirstOfStmts : Tok → (n : ℕ) → Stmts → Ones → Option Blame → Type 0
FirstOfStmts t n ss S x =
    IsFirstOf t x
    (λ p. SpotAtStmts IsUnwanted IsMixed p t n ss S)
    (λ kind p. SpotAtStmts (TellsUnwanted kind) (TellsMixed kind) p t n ss S)

abbrev pub FirstOfArms : Tok → (at n : ℕ) → Arms → Ones → Option Blame → Type 0
FirstOfArms t at n arms S x =
    IsFirstOf t x
    (λ p. SpotAtArms IsUnwanted IsMixed p t at n arms S)
    (λ kind p. SpotAtArms (TellsUnwanted kind) (TellsMixed kind) p t at n arms S)
