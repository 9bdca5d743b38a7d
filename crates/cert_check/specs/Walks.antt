-- What comes out of a part that is tested; private contracts alone cite this.
use Rattle.std.specs.Prelude.{◌≡◌, ◌+◌, ℕ, Bool, true, false, List, ◌∷◌, ◌++◌, Option, Some, None}
use Rattle.vlt_core.specs.Maps.{HeldMap, Row, map_after}
use Rattle.vlt_core.specs.Flow.{Block}
use Rattle.vlt_core.specs.Local.{Notes, leads_block}
use Rattle.vlt_rows.specs.FlowView.{ArmView}
use Rattle.vlt_flow.specs.Walks.{maybe_map}
use Rattle.cert_check.specs.Tests.{Test, below_test, row_tests, below_tests, block_tests}
use Rattle.cert_check.specs.Notes.{map_at}
use Rattle.cert_check.specs.declared.side.Side.{Side}
use Rattle.cert_check.specs.declared.side.Side.TheVariants as side
use Rattle.cert_check.specs.declared.walking.Walked.{Walked}
use Rattle.cert_check.specs.declared.walking.Way.{Way}

-- the map that is led to, and the number of the next statement
pub record IsLed (o : Option HeldMap) (n : ℕ) (w : Walked) : Type 0 where
  pub leads : maybe_map w.held ≡ o
  pub at : w.at ≡ n

pub record IsWay (p : Bool) (n : ℕ) (w : Way) : Type 0 where
  pub passes : w.passes ≡ p
  pub at : w.at ≡ n

abbrev pub comes_out : Option HeldMap → Bool
comes_out None = false
comes_out (Some m) = true

abbrev pub IsWayOf : Option HeldMap → ℕ → Way → Type 0
IsWayOf o n w = IsWay (comes_out o) n w

-- the tests of a block, and the one at its end
abbrev pub way_tests : Notes → Option ℕ → Side → (k n : ℕ) → HeldMap → Block → List Test
way_tests a l s k n h b = block_tests a l k n h b ++ below_tests k (leads_block a n h b) (map_at s a k)

-- the tests of a loop after that of its head
abbrev pub turn_tests : Notes → ℕ → HeldMap → List Row → Block → List Test
turn_tests a n h rs b =
    row_tests n rs h ++
    (below_test n (map_after rs h) (a.following n) ∷ way_tests a (Some n) side.Around n (n + 1) (map_after rs h) b)

-- an arm of the choice e, and the test at its end
abbrev pub arm_tests : Notes → Option ℕ → (e n : ℕ) → HeldMap → ArmView → List Test
arm_tests a l e n h x = row_tests e x.0 h ++ way_tests a l side.Following e n (map_after x.0 h) x.1

-- the map that a jump leads to
abbrev pub jump_side : Bool → Side
jump_side true = side.Around
jump_side false = side.Following
