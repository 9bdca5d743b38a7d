-- From statements with their maps to what rows say, and back to the statements and notes.
use Rattle.std.specs.Prelude.{◌≡◌, ℕ, suc, ◌+◌, nat_lt, Bool, true, false, List, [], ◌∷◌, ◌++◌}
use Rattle.vlt_core.specs.Core as core
use Rattle.vlt_core.specs.KindedBodies.{ends}
use Rattle.cert_rows.specs.Rows.{Row}
use Rattle.cert_rows.specs.Rows as row
use Rattle.cert_format.specs.Notes.{MapNotes, join_of, Note, at_loop, join_note}
use Rattle.cert_format.specs.Drafts.{Draft, plain, choose, loop, switch, focus, scope, Block, block, Drafts, done, next, Arms, no_arms, arm, most_block_depth}

-- how many statements there are
abbrev mutual
  pub count : core.Form → ℕ
  count (core.choose e a b) = 1 + (count_block a + count_block b)
  count (core.loop e b) = 1 + count_block b
  count (core.switch v arms end) = 1 + count_arms arms
  count (core.focus y z b) = 1 + count_block b
  count (core.scope b) = 1 + count_block b
  count _ = 1

  pub count_block : core.Block → ℕ
  count_block (core.block ss bound end) = count_list ss

  pub count_list : core.Stmts → ℕ
  count_list core.done = 0
  count_list (core.next at s rest) = count s + count_list rest

  pub count_arms : core.Arms → ℕ
  count_arms core.no_arms = 0
  count_arms (core.arm c vs b rest) = count_block b + count_arms rest

-- how many statements a list has itself
abbrev pub length_of : core.Stmts → ℕ
length_of core.done = 0
length_of (core.next at s rest) = suc (length_of rest)

-- ---- statements with their maps

module _ (a : MapNotes) where
  abbrev mutual
    pub draft_of : ℕ → core.Form → Draft
    draft_of n (core.simple s) = plain (row.simple s)
    draft_of n (core.call f target keys args) = plain (row.call f target keys args)
    draft_of n (core.choose e x y) =
        choose e (block_draft (n + 1) x) (block_draft (n + 1 + count_block x) y)
        (join_of (ends (core.choose e x y)) (a.following n))
    draft_of n (core.loop e x) = loop e (block_draft (n + 1) x) (a.around n) (a.following n)
    draft_of n (core.switch v arms end) =
        switch v (arms_draft (n + 1) arms) (join_of (ends (core.switch v arms end)) (a.following n))
    draft_of n (core.focus y z x) = focus y z (block_draft (n + 1) x)
    draft_of n (core.scope x) = scope (block_draft (n + 1) x)
    draft_of n (core.return o) = plain (row.return o)
    draft_of n (core.jump c) = plain (row.jump c)

    pub block_draft : ℕ → core.Block → Block
    block_draft n (core.block ss bound end) = block (length_of ss) bound (list_draft n ss)

    pub list_draft : ℕ → core.Stmts → Drafts
    list_draft n core.done = done
    list_draft n (core.next at s rest) = next (draft_of n s) (list_draft (n + count s) rest)

    pub arms_draft : ℕ → core.Arms → Arms
    arms_draft n core.no_arms = no_arms
    arms_draft n (core.arm c vs b rest) =
        arm c vs (block_draft n b) (arms_draft (n + count_block b) rest)

-- ---- the statements of rows, each at the place 0

abbrev pub plain_form : Row → core.Form
plain_form (row.simple s) = core.simple s
plain_form (row.call f target keys args) = core.call f target keys args
plain_form (row.return o) = core.return o
plain_form (row.jump c) = core.jump c
plain_form _ = core.jump false

abbrev mutual
  pub form_of : Draft → core.Form
  form_of (plain r) = plain_form r
  form_of (choose e a b m) = core.choose e (core_block a) (core_block b)
  form_of (loop e a m k) = core.loop e (core_block a)
  form_of (switch v arms m) = core.switch v (core_arms arms) 0
  form_of (focus y z a) = core.focus y z (core_block a)
  form_of (scope a) = core.scope (core_block a)

  pub core_block : Block → core.Block
  core_block (block n bound ss) = core.block (core_list ss) bound 0

  pub core_list : Drafts → core.Stmts
  core_list done = core.done
  core_list (next f rest) = core.next 0 (form_of f) (core_list rest)

  pub core_arms : Arms → core.Arms
  core_arms no_arms = core.no_arms
  core_arms (arm c vs b rest) = core.arm c vs (core_block b) (core_arms rest)

-- ---- the notes of rows, in the order of the statements

abbrev mutual
  pub size : Draft → ℕ
  size (plain r) = 1
  size (choose e a b m) = 1 + (size_block a + size_block b)
  size (loop e a m k) = 1 + size_block a
  size (switch v arms m) = 1 + size_arms arms
  size (focus y z a) = 1 + size_block a
  size (scope a) = 1 + size_block a

  pub size_block : Block → ℕ
  size_block (block n bound ss) = size_list ss

  pub size_list : Drafts → ℕ
  size_list done = 0
  size_list (next f rest) = size f + size_list rest

  pub size_arms : Arms → ℕ
  size_arms no_arms = 0
  size_arms (arm c vs b rest) = size_block b + size_arms rest

abbrev mutual
  pub notes_of : ℕ → Draft → List Note
  notes_of n (plain r) = []
  notes_of n (choose e a b m) =
      join_note n m ++ (block_notes (n + 1) a ++ block_notes (n + 1 + size_block a) b)
  notes_of n (loop e a m k) = at_loop n m k ∷ block_notes (n + 1) a
  notes_of n (switch v arms m) = join_note n m ++ arms_notes (n + 1) arms
  notes_of n (focus y z a) = block_notes (n + 1) a
  notes_of n (scope a) = block_notes (n + 1) a

  pub block_notes : ℕ → Block → List Note
  block_notes n (block c bound ss) = list_notes n ss

  pub list_notes : ℕ → Drafts → List Note
  list_notes n done = []
  list_notes n (next f rest) = notes_of n f ++ list_notes (n + size f) rest

  pub arms_notes : ℕ → Arms → List Note
  arms_notes n no_arms = []
  arms_notes n (arm c vs b rest) = block_notes n b ++ arms_notes (n + size_block b) rest

-- ---- the depth of blocks: a function's own block has depth 1

abbrev pub may_have_arms : (deep : ℕ) → core.Arms → Bool
may_have_arms deep core.no_arms = true
may_have_arms deep (core.arm c vs b rest) = nat_lt deep most_block_depth

abbrev mutual
  pub IsWithin : (deep : ℕ) → core.Form → Type 0
  IsWithin deep (core.choose e a b) = (nat_lt deep most_block_depth ≡ true) ×
      IsWithinBlock (suc deep) a × IsWithinBlock (suc deep) b
  IsWithin deep (core.loop e b) = (nat_lt deep most_block_depth ≡ true) × IsWithinBlock (suc deep) b
  IsWithin deep (core.switch v arms end) =
      (may_have_arms deep arms ≡ true) × AreWithinArms (suc deep) arms
  IsWithin deep (core.focus y z b) =
      (nat_lt deep most_block_depth ≡ true) × IsWithinBlock (suc deep) b
  IsWithin deep (core.scope b) = (nat_lt deep most_block_depth ≡ true) × IsWithinBlock (suc deep) b
  IsWithin deep _ = Unit {0}

  pub IsWithinBlock : (deep : ℕ) → core.Block → Type 0
  IsWithinBlock deep (core.block ss bound end) = AreWithin deep ss

  pub AreWithin : (deep : ℕ) → core.Stmts → Type 0
  AreWithin deep core.done = Unit {0}
  AreWithin deep (core.next at s rest) = IsWithin deep s × AreWithin deep rest

  pub AreWithinArms : (deep : ℕ) → core.Arms → Type 0
  AreWithinArms deep core.no_arms = Unit {0}
  AreWithinArms deep (core.arm c vs b rest) = IsWithinBlock deep b × AreWithinArms deep rest
