-- What reading a statement, a block or arms gives.
use Rattle.std.specs.Prelude.{◌≡◌, ℕ, ◌+◌, ◌≤◌, ◌<◌, ◌&&◌, Bool, true, false, List, [], ◌∷◌, ◌++◌, map, drop, length, Option, Some, None}
use Rattle.serde_json.specs.View.{view}
use Rattle.serde_json.specs.declared.value.Value.{Value}
use Rattle.cert_rows.specs.Rows.{Head, ArmHead, Row}
use Rattle.cert_format.specs.Drafts.{Draft, plain, Block, Arms, Rest, head, arm_heads, draft_rows, block_rows, arms_rows, is_whole_draft, is_whole_block, are_whole_arms, IsBare, may_arm, IsStuck, IsTaken, IsTakenBlock, AreTakenArms}
use Rattle.cert_format.specs.Bodies.{size, size_block, size_arms}
use Rattle.cert_format.specs.Endings.{ending, row_ending, block_ending, arms_ending, wrong_draft, wrong_block, wrong_arms}
use Rattle.cert_read_rows.specs.Statements.{stmt_of_data}
use Rattle.cert_read_parts.specs.Endings.{ending_of}
use Rattle.cert_read_bodies.specs.Tree.{draft_of, block_of, arms_of}
use Rattle.cert_read_bodies.specs.declared.read.ReadDraft.{ReadDraft}
use Rattle.cert_read_bodies.specs.declared.read.ReadBlock.{ReadBlock}
use Rattle.cert_read_bodies.specs.declared.read.ReadArms.{ReadArms}

-- the rows of statements from a value on
abbrev pub rest_at : (instances : Option ℕ) → List Value → (at : ℕ) → Rest
rest_at n rows at = map (stmt_of_data n) (map view (drop at rows))

-- the row that stands first
abbrev pub first_at : Rest → Option Row
first_at [] = None
first_at (r ∷ rest) = r

-- this row of a statement comes next
abbrev pub Stands : (instances : Option ℕ) → List Value → (at : ℕ) → Row → Type 0
Stands n rows at r = (at < length rows) × (first_at (rest_at n rows at) ≡ Some r)

pub record IsReadDraft (n : Option ℕ) (at deep : ℕ) (rows : List Value) (x : Draft)
    (r : ReadDraft) : Type 0 where
  pub made : rest_at n rows at ≡ map Some (draft_rows x) ++ rest_at n rows r.at
  pub goes_on : r.at ≡ at + size x
  pub within : r.at ≤ length rows
  pub further : at < r.at
  pub entire : r.whole ≡ is_whole_draft x
  pub ending : ending_of r.ends ≡ ending x
  pub fault : r.wrong ≡ wrong_draft at x
  pub taken : IsTaken deep x (rest_at n rows r.at)

pub record IsReadBlock (n : Option ℕ) (at deep : ℕ) (rows : List Value) (x : Block)
    (r : ReadBlock) : Type 0 where
  pub made : rest_at n rows at ≡ map Some (block_rows x) ++ rest_at n rows r.at
  pub goes_on : r.at ≡ at + size_block x
  pub within : r.at ≤ length rows
  pub further : at ≤ r.at
  pub entire : r.whole ≡ is_whole_block x
  pub ending : ending_of r.ends ≡ block_ending x
  pub fault : r.wrong ≡ wrong_block at x
  pub taken : IsTakenBlock deep x (rest_at n rows r.at)

pub record IsReadArms (n : Option ℕ) (at deep : ℕ) (rows : List Value) (x : Arms)
    (r : ReadArms) : Type 0 where
  pub made : rest_at n rows at ≡ map Some (arms_rows x) ++ rest_at n rows r.at
  pub goes_on : r.at ≡ at + size_arms x
  pub within : r.at ≤ length rows
  pub further : at ≤ r.at
  pub entire : r.whole ≡ are_whole_arms x
  pub ending : ending_of r.ends ≡ arms_ending x
  pub fault : r.wrong ≡ wrong_arms at x
  pub taken : AreTakenArms deep x (rest_at n rows r.at)

-- after another block, which is there whole or not
pub record IsReadSecond (n : Option ℕ) (at deep : ℕ) (rows : List Value) (there : Bool)
    (x : Block) (r : ReadBlock) : Type 0 where
  pub made : rest_at n rows at ≡ map Some (block_rows x) ++ rest_at n rows r.at
  pub goes_on : r.at ≡ at + size_block x
  pub within : r.at ≤ length rows
  pub further : at ≤ r.at
  pub entire : r.whole ≡ (there && is_whole_block x)
  pub ending : ending_of r.ends ≡ block_ending x
  pub fault : r.wrong ≡ wrong_block at x
  pub taken : there ≡ true → IsTakenBlock deep x (rest_at n rows r.at)
  pub bare : there ≡ false → IsBare x

-- none: no statement's row stands there
abbrev pub ReadsDraft : (instances : Option ℕ) → (at deep : ℕ) → List Value →
    Option ReadDraft → Type 0
ReadsDraft n at deep rows None = IsStuck deep (rest_at n rows at)
ReadsDraft n at deep rows (Some r) = IsReadDraft n at deep rows (draft_of r.draft) r

abbrev pub ReadsBlock : (instances : Option ℕ) → (at deep : ℕ) → List Value → Head →
    ReadBlock → Type 0
ReadsBlock n at deep rows h r =
    (head (block_of r.block) ≡ h) × IsReadBlock n at deep rows (block_of r.block) r

abbrev pub ReadsSecond : (instances : Option ℕ) → (at deep : ℕ) → List Value → Head →
    (there : Bool) → ReadBlock → Type 0
ReadsSecond n at deep rows h there r =
    (head (block_of r.block) ≡ h) × IsReadSecond n at deep rows there (block_of r.block) r

abbrev pub ReadsArms : (instances : Option ℕ) → (at deep : ℕ) → List Value →
    List ArmHead → ReadArms → Type 0
ReadsArms n at deep rows hs r =
    (arm_heads (arms_of r.arms) ≡ hs) × IsReadArms n at deep rows (arms_of r.arms) r

-- the depth of the blocks of arms that stand in a block of this depth
abbrev pub HasArmsDepth : (deep : ℕ) → List ArmHead → Option ℕ → Type 0
HasArmsDepth deep hs None = may_arm deep hs ≡ false
HasArmsDepth deep hs (Some k) =
    (k ≤ 64) × (may_arm deep hs ≡ true) × (deep < 64 → k ≡ deep + 1)

-- a statement without blocks
pub record IsPlainDraft (at : ℕ) (x : Row) (r : ReadDraft) : Type 0 where
  pub draft : draft_of r.draft ≡ plain x
  pub next : r.at ≡ at + 1
  pub whole : r.whole ≡ true
  pub ends : ending_of r.ends ≡ row_ending x
  pub right : r.wrong ≡ None
