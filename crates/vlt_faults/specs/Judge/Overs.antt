-- The first fault of a whole body over several tokens, with the tables that show what is found of each.
use Rattle.std.specs.Prelude.{◌≡◌, ◌<◌, ◌^◌, ℕ, Option, IfSome, length}
use Rattle.vlt_core.specs.Core.{Tok, a_key, a_var}
use Rattle.vlt_core.specs.Maps as maps
use Rattle.vlt_core.specs.Maps.{HeldMap}
use Rattle.vlt_core.specs.Flow.{Block, size_block}
use Rattle.vlt_core.specs.Found.{Has}
use Rattle.vlt_core.specs.Faults.{Spot, SpotAtBlock, IsMixed, IsUnwanted, spots_block}
use Rattle.vlt_core.specs.View.{tok_of}
use Rattle.vlt_core.specs.FaultView.{kind_of}
use Rattle.vlt_core_laws.specs.Sweep.{IsFoundIn}
use Rattle.vlt_faults.specs.Finding.Marks.{Marks, stock_of}
use Rattle.vlt_keyset.specs.Held.{Statuses}
use Rattle.vlt_faults.specs.declared.judge.blame.Blame.{Blame}
use Rattle.vlt_faults.specs.declared.judge.tokens.Whole.{Whole}
use Rattle.vlt_faults.specs.Judge.Blames.{spot_of, NoLaterThan, TellsUnwanted, TellsMixed}
use Rattle.vlt_faults.specs.Judge.Extents.{IsBeyond, AvoidsBlock}

-- tables of what is found of the token in the body
pub record IsTabled (s : Block) (h : HeldMap) (t : Tok) : Type 0 where
  pub tables : Marks
  pub found : IsFoundIn t s (Has (h t)) (stock_of tables)

-- the spot of the body is faulty for the token
abbrev pub IsFaulty : Block → HeldMap → Spot → Tok → Type 0
IsFaulty s h p t = SpotAtBlock IsUnwanted IsMixed p t 0 s (Has (h t))

-- Of the tokens of A the blame is the first, told as it is.
pub record IsFirstOver (A : Tok → Type 0) (s : Block) (h : HeldMap) (x : Option Blame) : Type 0 where
  pub there : IfSome x (λ b.
      SpotAtBlock (TellsUnwanted (kind_of b.kind)) (TellsMixed (kind_of b.kind)) (spot_of b) (tok_of b.tok) 0 s (Has (h (tok_of b.tok))))
  pub first : (p : Spot) (t : Tok) → A t → IsFaulty s h p t → NoLaterThan x p t
  pub tabled : (t : Tok) → A t → IsTabled s h t

abbrev pub IsKeyBelow : ℕ → Tok → Type 0
IsKeyBelow n (a_key k) = k < n
IsKeyBelow n (a_var v) = ⊥

abbrev pub IsVarBelow : ℕ → Tok → Type 0
IsVarBelow n (a_key k) = ⊥
IsVarBelow n (a_var v) = v < n

-- How much the body has; what is beyond the numbers is named by no row, and absent at the start.
pub record IsWhole (s : Block) (h : HeldMap) (e : Whole) : Type 0 where
  pub stmts : e.stmts ≡ size_block s
  pub few : size_block s < 2 ^ 62
  pub few_spots : spots_block s < 2 ^ 62
  pub avoids : (t : Tok) → IsBeyond e.keys e.vars t → AvoidsBlock t s
  pub absent : (t : Tok) → IsBeyond e.keys e.vars t → h t ≡ maps.absent

-- the number after the last place has 32 bits
pub record IsNumbered (h : Statuses) : Type 0 where
  pub keys : length h.keys < 2 ^ 32
  pub vars : length h.vars < 2 ^ 32

-- no row of the body names a token beyond the numbers, and each of these is absent at the start
pub record AreBounds (s : Block) (h : HeldMap) (keys vars : ℕ) : Type 0 where
  pub avoids : (t : Tok) → IsBeyond keys vars t → AvoidsBlock t s
  pub absent : (t : Tok) → IsBeyond keys vars t → h t ≡ maps.absent
