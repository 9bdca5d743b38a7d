-- Whether a statement ends, as far as its rows tell; and rows that have 0 in place of maps, or maps
-- in place of 0, against that.
use Rattle.std.specs.Prelude.{ℕ, zero, suc, ◌+◌, Bool, true, false, if◌then◌else◌, Option, Some, None}
use Rattle.cert_rows.specs.Rows.{Maps, Row}
use Rattle.cert_rows.specs.Rows as row
use Rattle.cert_format.specs.Drafts.{Draft, plain, choose, loop, switch, focus, scope, Block, block, Drafts, done, next, Arms, no_arms, arm}
use Rattle.cert_format.specs.Bodies.{size, size_block}

pub data Ending : Type 0 where
  sure : Ending
  never : Ending
  unsure : Ending

abbrev pub both : Ending → Ending → Ending
both never b = never
both sure b = b
both unsure never = never
both unsure b = unsure

abbrev pub row_ending : Row → Ending
row_ending (row.return o) = sure
row_ending (row.jump c) = sure
row_ending _ = never

abbrev mutual
  pub ending : Draft → Ending
  ending (plain r) = row_ending r
  ending (choose e a b m) = both (block_ending a) (block_ending b)
  ending (loop e a m k) = never
  ending (switch v arms m) = arms_ending arms
  ending (focus y z a) = never
  ending (scope a) = block_ending a

  pub block_ending : Block → Ending
  block_ending (block n bound ss) = list_ending n never ss

  -- n more are due, and the one before them ends as `last` says
  pub list_ending : ℕ → (last : Ending) → Drafts → Ending
  list_ending zero last ss = last
  list_ending (suc n) last done = unsure
  list_ending (suc n) last (next f rest) = list_ending n (ending f) rest

  pub arms_ending : Arms → Ending
  arms_ending no_arms = sure
  arms_ending (arm c vs b rest) = both (block_ending b) (arms_ending rest)

-- 0 stands exactly where the statement ends; where that isn't known either fits
abbrev pub agrees : Ending → Option Maps → Bool
agrees sure (Some m) = false
agrees never None = false
agrees _ _ = true

abbrev pub or_else : Option ℕ → Option ℕ → Option ℕ
or_else None b = b
or_else (Some a) b = Some a

-- the first row against what is known, the draft's own row being `at`
abbrev mutual
  pub wrong_draft : ℕ → Draft → Option ℕ
  wrong_draft at (plain r) = None
  wrong_draft at (choose e a b m) =
      if agrees (both (block_ending a) (block_ending b)) m then
      or_else (wrong_block (at + 1) a) (wrong_block (at + 1 + size_block a) b) else Some at
  wrong_draft at (loop e a m k) = wrong_block (at + 1) a
  wrong_draft at (switch v arms m) =
      if agrees (arms_ending arms) m then wrong_arms (at + 1) arms else Some at
  wrong_draft at (focus y z a) = wrong_block (at + 1) a
  wrong_draft at (scope a) = wrong_block (at + 1) a

  pub wrong_block : ℕ → Block → Option ℕ
  wrong_block at (block n bound ss) = wrong_list at ss

  pub wrong_list : ℕ → Drafts → Option ℕ
  wrong_list at done = None
  wrong_list at (next f rest) = or_else (wrong_draft at f) (wrong_list (at + size f) rest)

  pub wrong_arms : ℕ → Arms → Option ℕ
  wrong_arms at no_arms = None
  wrong_arms at (arm c vs b rest) = or_else (wrong_block at b) (wrong_arms (at + size_block b) rest)
