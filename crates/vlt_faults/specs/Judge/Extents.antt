-- How much a part has, and which tokens its rows name.
use Rattle.std.specs.Prelude.{◌≡◌, ℕ, ◌+◌, ◌-◌, ◌^◌, ◌≤◌, max, ◌⊎◌, false, List, [], ◌∷◌, map}
use Rattle.vlt_core.specs.Core.{Tok, a_key, a_var}
use Rattle.vlt_core.specs.Maps.{Row, is_tok, away_row}
use Rattle.vlt_core.specs.Flow.{Flow, step, choose, loop, switch, scope, focus, return, jump, Block, block, Stmts, done, next, Arms, no_arms, arm}
use Rattle.vlt_faults.specs.declared.judge.extent.Extent.{Extent}

-- no row names the token
abbrev pub AvoidsRows : Tok → List Row → Type 0
AvoidsRows t [] = Unit {0}
AvoidsRows t (r ∷ rs) = (is_tok t r.tok ≡ false) × AvoidsRows t rs

abbrev mutual
  pub Avoids : Tok → Flow → Type 0
  Avoids t (step rs) = AvoidsRows t rs
  Avoids t (choose rs a b) = AvoidsRows t rs × (AvoidsBlock t a × AvoidsBlock t b)
  Avoids t (loop rs s) = AvoidsRows t rs × AvoidsBlock t s
  Avoids t (switch rs arms end) = AvoidsRows t rs × AvoidsArms t arms
  Avoids t (scope s) = AvoidsBlock t s
  Avoids t (focus rs s es) = AvoidsRows t rs × (AvoidsBlock t s × AvoidsRows t es)
  Avoids t (return rs) = AvoidsRows t rs
  Avoids t (jump continues left) = AvoidsRows t (map away_row left)

  pub AvoidsBlock : Tok → Block → Type 0
  AvoidsBlock t (block ss bound end) = AvoidsStmts t ss × AvoidsRows t (map away_row bound)

  pub AvoidsStmts : Tok → Stmts → Type 0
  AvoidsStmts t done = Unit {0}
  AvoidsStmts t (next at s rest) = Avoids t s × AvoidsStmts t rest

  pub AvoidsArms : Tok → Arms → Type 0
  AvoidsArms t no_arms = Unit {0}
  AvoidsArms t (arm rs s rest) = (AvoidsRows t rs × AvoidsBlock t s) × AvoidsArms t rest

-- the token's number isn't below these
abbrev pub IsBeyond : (keys vars : ℕ) → Tok → Type 0
IsBeyond keys vars (a_key k) = keys ≤ k
IsBeyond keys vars (a_var v) = vars ≤ v

-- the count is this number, or both are large
abbrev pub IsCount : (count n : ℕ) → Type 0
IsCount count n = (count ≡ n) ⊎ ((2 ^ 62 ≤ count) × (2 ^ 62 ≤ n))

-- the last key, and the last variable, that has a number of 32 bits
abbrev pub last_key : Tok
last_key = a_key (2 ^ 32 - 1)

abbrev pub last_var : Tok
last_var = a_var (2 ^ 32 - 1)

-- So many statements, rows and joins; of each token beyond the numbers A is so, and not of the last ones if these are counted.
pub record IsExtent (stmts spots : ℕ) (A : Tok → Type 0) (e : Extent) : Type 0 where
  pub stmts_are : IsCount e.stmts stmts
  pub spots_are : IsCount e.spots spots
  pub few_keys : e.keys ≤ 2 ^ 32
  pub few_vars : e.vars ≤ 2 ^ 32
  pub avoids : (t : Tok) → IsBeyond e.keys e.vars t → A t
  pub names_key : e.keys ≡ 2 ^ 32 → A last_key → ⊥
  pub names_var : e.vars ≡ 2 ^ 32 → A last_var → ⊥

-- of two parts together
pub record IsBoth (a b e : Extent) : Type 0 where
  pub stmts : IsCount e.stmts (a.stmts + b.stmts)
  pub spots : IsCount e.spots (a.spots + b.spots)
  pub keys : e.keys ≡ max a.keys b.keys
  pub vars : e.vars ≡ max a.vars b.vars
