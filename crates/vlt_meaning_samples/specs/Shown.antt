-- Rows with their sets of states as lists.
use Rattle.std.specs.Prelude.{◌≡◌, ℕ, List, [], ◌∷◌, ◌++◌, map, filter, Some, slice_get}
use Rattle.std.specs.List.{range_with_len}
use Rattle.std.specs.Option.{option_map}
use Rattle.vlt_core.specs.Core.{States, Tok, Program}
use Rattle.vlt_core.specs.Bodies.{body_flow}
use Rattle.vlt_core.specs.Maps.{Row, Wanted, wants_absent, wants_held, wants_in, wants_lent, wants_full, After, becomes_absent, becomes_held, stays, becomes_full, becomes_lent, comes_back, away_row}
use Rattle.vlt_core.specs.Flow.{Flow, step, choose, loop, switch, scope, focus, return, jump, Block, block, Stmts, done, next, Arms, no_arms, arm}

pub data Word : Type 0 where
  absent : Word
  in_any : Word
  within : List ℕ → Word
  in_focus : Word
  full : Word
  same : Word
  back : Word

abbrev pub members : States → List ℕ
members s = filter s (range_with_len 0 32)

abbrev pub wanted_shown : Wanted → Word
wanted_shown wants_absent = absent
wanted_shown wants_held = in_any
wanted_shown (wants_in s) = within (members s)
wanted_shown wants_lent = in_focus
wanted_shown wants_full = full

abbrev pub after_shown : After → Word
after_shown becomes_absent = absent
after_shown (becomes_held s) = within (members s)
after_shown stays = same
after_shown becomes_full = full
after_shown becomes_lent = in_focus
after_shown comes_back = back

pub record Shown : Type 0 where
  pub tok : Tok
  pub wanted : Word
  pub after : Word

abbrev pub row : Tok → Word → Word → Shown
row t w a = record { tok = t; wanted = w; after = a }

abbrev pub shown_rows : List Row → List Shown
shown_rows = map (λ r. row r.tok (wanted_shown r.wanted) (after_shown r.after))

-- the rows of the statements of a body; returns and jumps are left out
abbrev mutual
  pub rows_in : Flow → List (List Shown)
  rows_in (step rs) = shown_rows rs ∷ []
  rows_in (choose rs a b) = shown_rows rs ∷ rows_in_block a ++ rows_in_block b
  rows_in (loop rs b) = shown_rows rs ∷ rows_in_block b
  rows_in (switch rs arms end) = shown_rows rs ∷ rows_in_arms arms
  rows_in (scope b) = [] ∷ rows_in_block b
  rows_in (focus rs b es) = shown_rows rs ∷ rows_in_block b ++ shown_rows es ∷ []
  rows_in (return rs) = []
  rows_in (jump continues left) = []

  pub rows_in_block : Block → List (List Shown)
  rows_in_block (block ss bound end) = rows_in_stmts ss ++ shown_rows (map away_row bound) ∷ []

  pub rows_in_stmts : Stmts → List (List Shown)
  rows_in_stmts done = []
  rows_in_stmts (next at s rest) = rows_in s ++ rows_in_stmts rest

  pub rows_in_arms : Arms → List (List Shown)
  rows_in_arms no_arms = []
  rows_in_arms (arm rs b rest) = shown_rows rs ∷ rows_in_block b ++ rows_in_arms rest

-- those of a whole body
abbrev pub body_rows : Block → List (List Shown)
body_rows (block ss bound end) = rows_in_stmts ss

-- the statements of the function at this position have these rows
abbrev pub HaveRows : Program → ℕ → List (List Shown) → Type 0
HaveRows p n rows = option_map (λ f. body_rows (body_flow p f)) (slice_get p.fns n) ≡ Some rows
