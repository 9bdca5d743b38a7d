-- The statements of a block, and the arms of a switch, that stand read, whatever comes after them.
use Rattle.std.specs.Prelude.{◌≡◌, ℕ, ◌+◌, ◌-◌, ◌≤◌, ◌&&◌, Bool, true, false, List, ◌++◌, map, drop, length, Option, Some}
use Rattle.serde_json.specs.declared.value.Value.{Value}
use Rattle.cert_format.specs.Drafts.{Rest, arm_heads, list_rows, arms_rows, is_whole_list, are_whole_arms, AreBare, AreTaken, AreTakenArms}
use Rattle.cert_format.specs.Bodies.{size_list, size_arms}
use Rattle.cert_format.specs.Endings.{never, both, list_ending, arms_ending, wrong_list, wrong_arms, or_else}
use Rattle.cert_read_rows.specs.Heads.{arm_of as head_of_arm}
use Rattle.cert_read_rows.specs.declared.heads.ArmHead.{ArmHead}
use Rattle.cert_read_parts.specs.Endings.{ending_of}
use Rattle.cert_read_bodies.specs.Tree.{drafts_of, arms_of}
use Rattle.cert_read_bodies.specs.Reads.{rest_at}
use Rattle.cert_read_bodies.specs.declared.tree.Draft.{Draft}
use Rattle.cert_read_bodies.specs.declared.tree.Arm.{Arm}
use Rattle.cert_read_parts.specs.declared.endings.Ending.{Ending}

-- `turn` of `count` are read, each of them whole
pub record Listing (n : Option ℕ) (from deep count : ℕ) (rows : List Value) (turn : ℕ)
    (stmts : List Draft) (at : ℕ) (ends : Ending) (wrong : Option ℕ) : Type 0 where
  pub made : rest_at n rows from ≡ map Some (list_rows (drafts_of stmts)) ++ rest_at n rows at
  pub goes_on : at ≡ from + size_list (drafts_of stmts)
  pub within : at ≤ length rows
  pub further : from ≤ at
  pub turns : turn ≤ count
  pub entire : (more : List Draft) → is_whole_list count (drafts_of (stmts ++ more))
      ≡ is_whole_list (count - turn) (drafts_of more)
  pub ending : (more : List Draft) → list_ending count never (drafts_of (stmts ++ more))
      ≡ list_ending (count - turn) (ending_of ends) (drafts_of more)
  pub fault : (more : List Draft) → wrong_list from (drafts_of (stmts ++ more))
      ≡ or_else wrong (wrong_list at (drafts_of more))
  pub taken : (more : List Draft) (rest : Rest) → rest_at n rows at
      ≡ map Some (list_rows (drafts_of more)) ++ rest →
      AreTaken deep (count - turn) (drafts_of more) rest →
      AreTaken deep count (drafts_of (stmts ++ more)) rest

-- `turn` arms are read; whether all of them are whole
pub record Arming (n : Option ℕ) (from deep : ℕ) (rows : List Value) (heads : List ArmHead)
    (turn : ℕ) (arms : List Arm) (at : ℕ) (whole : Bool) (ends : Ending)
    (wrong : Option ℕ) : Type 0 where
  pub heads_of : map head_of_arm heads
      ≡ arm_heads (arms_of arms) ++ map head_of_arm (drop turn heads)
  pub made : rest_at n rows from ≡ map Some (arms_rows (arms_of arms)) ++ rest_at n rows at
  pub goes_on : at ≡ from + size_arms (arms_of arms)
  pub within : at ≤ length rows
  pub further : from ≤ at
  pub entire : (more : List Arm) → are_whole_arms (arms_of (arms ++ more))
      ≡ (whole && are_whole_arms (arms_of more))
  pub ending : (more : List Arm) → arms_ending (arms_of (arms ++ more))
      ≡ both (ending_of ends) (arms_ending (arms_of more))
  pub fault : (more : List Arm) → wrong_arms from (arms_of (arms ++ more))
      ≡ or_else wrong (wrong_arms at (arms_of more))
  pub taken : (more : List Arm) (rest : Rest) → rest_at n rows at
      ≡ map Some (arms_rows (arms_of more)) ++ rest →
      (whole ≡ true → AreTakenArms deep (arms_of more) rest) →
      (whole ≡ false → AreBare (arms_of more)) →
      AreTakenArms deep (arms_of (arms ++ more)) rest
