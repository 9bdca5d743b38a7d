-- Statements as rows give them: a block says how many statements it has, and the rows may end
-- before.
use Rattle.std.specs.Prelude.{◌≡◌, ℕ, zero, suc, nat_lt, ◌&&◌, Bool, true, false, List, [], ◌∷◌, ◌++◌, map, Option, Some, None}
use Rattle.vlt_core.specs.Core.{Tok, Expr}
use Rattle.cert_rows.specs.Rows.{Head, ArmHead, Maps, Row}
use Rattle.cert_rows.specs.Rows as row

mutual
  pub data Draft : Type 0 where
    -- a row without blocks
    plain : Row → Draft
    choose : Expr → Block → Block → Option Maps → Draft
    loop : Expr → Block → (around exit : Maps) → Draft
    switch : (v : ℕ) → Arms → Option Maps → Draft
    focus : (y z : ℕ) → Block → Draft
    scope : Block → Draft

  -- how many statements it is to have, the tokens bound, and those that are there
  pub data Block : Type 0 where
    block : (count : ℕ) → List Tok → Drafts → Block

  pub data Drafts : Type 0 where
    done : Drafts
    next : Draft → Drafts → Drafts

  pub data Arms : Type 0 where
    no_arms : Arms
    arm : (case : ℕ) → (vs : List ℕ) → Block → Arms → Arms

abbrev pub head : Block → Head
head (block n bound ss) = (n, bound)

abbrev pub arm_heads : Arms → List ArmHead
arm_heads no_arms = []
arm_heads (arm c vs (block n bound ss) rest) = (c, vs, n, bound) ∷ arm_heads rest

abbrev mutual
  pub draft_rows : Draft → List Row
  draft_rows (plain r) = r ∷ []
  draft_rows (choose e a b m) = row.choose e (head a) (head b) m ∷ (block_rows a ++ block_rows b)
  draft_rows (loop e a m k) = row.loop e (head a) m k ∷ block_rows a
  draft_rows (switch v arms m) = row.switch v (arm_heads arms) m ∷ arms_rows arms
  draft_rows (focus y z a) = row.focus y z (head a) ∷ block_rows a
  draft_rows (scope a) = row.scope (head a) ∷ block_rows a

  pub block_rows : Block → List Row
  block_rows (block n bound ss) = list_rows ss

  pub list_rows : Drafts → List Row
  list_rows done = []
  list_rows (next f rest) = draft_rows f ++ list_rows rest

  pub arms_rows : Arms → List Row
  arms_rows no_arms = []
  arms_rows (arm c vs b rest) = block_rows b ++ arms_rows rest

-- ---- whether each block has its statements

abbrev mutual
  pub is_whole_draft : Draft → Bool
  is_whole_draft (plain r) = true
  is_whole_draft (choose e a b m) = is_whole_block a && is_whole_block b
  is_whole_draft (loop e a m k) = is_whole_block a
  is_whole_draft (switch v arms m) = are_whole_arms arms
  is_whole_draft (focus y z a) = is_whole_block a
  is_whole_draft (scope a) = is_whole_block a

  pub is_whole_block : Block → Bool
  is_whole_block (block n bound ss) = is_whole_list n ss

  pub is_whole_list : ℕ → Drafts → Bool
  is_whole_list zero done = true
  is_whole_list (suc n) done = false
  is_whole_list zero (next f rest) = false
  is_whole_list (suc n) (next f rest) = is_whole_draft f && is_whole_list n rest

  pub are_whole_arms : Arms → Bool
  are_whole_arms no_arms = true
  are_whole_arms (arm c vs b rest) = is_whole_block b && are_whole_arms rest

-- no statements are there
abbrev pub IsBare : Block → Type 0
IsBare (block n bound ss) = ss ≡ done

abbrev pub AreBare : Arms → Type 0
AreBare no_arms = Unit {0}
AreBare (arm c vs b rest) = IsBare b × AreBare rest

-- ---- the rows that come next; `None` is a row that isn't of its form

abbrev pub Rest : Type 0
Rest = List (Option Row)

abbrev pub most_block_depth : ℕ
most_block_depth = 64

-- a row of a statement without blocks
abbrev pub is_plain : Row → Bool
is_plain (row.simple s) = true
is_plain (row.call f target keys args) = true
is_plain (row.return o) = true
is_plain (row.jump c) = true
is_plain _ = false

-- a switch without arms opens no block
abbrev pub may_arm : (deep : ℕ) → List ArmHead → Bool
may_arm deep [] = true
may_arm deep (h ∷ hs) = nat_lt deep most_block_depth

-- A statement's row that may stand in a block of this depth: blocks of its own are within the
-- limit. A function's own block has depth 1.
abbrev pub may_stand : (deep : ℕ) → Row → Bool
may_stand deep (row.choose e a b m) = nat_lt deep most_block_depth
may_stand deep (row.loop e a m k) = nat_lt deep most_block_depth
may_stand deep (row.switch v hs m) = may_arm deep hs
may_stand deep (row.focus y z a) = nat_lt deep most_block_depth
may_stand deep (row.scope a) = nat_lt deep most_block_depth
may_stand deep r = is_plain r

-- no row comes next that may stand in a block of this depth
abbrev pub IsStuck : (deep : ℕ) → Rest → Type 0
IsStuck deep [] = Unit {0}
IsStuck deep (None ∷ ds) = Unit {0}
IsStuck deep (Some r ∷ ds) = may_stand deep r ≡ false

-- The draft is what the rows say as far as they go, where `more` comes after its rows.
abbrev mutual
  pub IsTaken : (deep : ℕ) → Draft → (more : Rest) → Type 0
  IsTaken deep (plain r) more = is_plain r ≡ true
  IsTaken deep (choose e a b m) more =
      (nat_lt deep most_block_depth ≡ true) ×
      IsTakenBlock (suc deep) a (map Some (block_rows b) ++ more) ×
      (is_whole_block a ≡ true → IsTakenBlock (suc deep) b more) ×
      (is_whole_block a ≡ false → IsBare b)
  IsTaken deep (loop e a m k) more =
      (nat_lt deep most_block_depth ≡ true) × IsTakenBlock (suc deep) a more
  IsTaken deep (switch v arms m) more =
      (may_arm deep (arm_heads arms) ≡ true) × AreTakenArms (suc deep) arms more
  IsTaken deep (focus y z a) more =
      (nat_lt deep most_block_depth ≡ true) × IsTakenBlock (suc deep) a more
  IsTaken deep (scope a) more =
      (nat_lt deep most_block_depth ≡ true) × IsTakenBlock (suc deep) a more

  pub IsTakenBlock : (deep : ℕ) → Block → Rest → Type 0
  IsTakenBlock deep (block n bound ss) more = AreTaken deep n ss more

  pub AreTaken : (deep n : ℕ) → Drafts → Rest → Type 0
  AreTaken deep zero done more = Unit {0}
  AreTaken deep (suc n) done more = IsStuck deep more
  AreTaken deep zero (next f rest) more = ⊥
  AreTaken deep (suc n) (next f rest) more =
      IsTaken deep f (map Some (list_rows rest) ++ more) ×
      (is_whole_draft f ≡ true → AreTaken deep n rest more) ×
      (is_whole_draft f ≡ false → rest ≡ done)

  pub AreTakenArms : (deep : ℕ) → Arms → Rest → Type 0
  AreTakenArms deep no_arms more = Unit {0}
  AreTakenArms deep (arm c vs b rest) more =
      IsTakenBlock deep b (map Some (arms_rows rest) ++ more) ×
      (is_whole_block b ≡ true → AreTakenArms deep rest more) ×
      (is_whole_block b ≡ false → AreBare rest)
