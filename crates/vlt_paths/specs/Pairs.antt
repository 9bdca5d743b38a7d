-- Two paths that come to one join, the first without their token and the second with it.
use Rattle.std.specs.Prelude.{◌≡◌, ◌↔◌, ◌⊎◌, ℕ, ◌+◌, Bool, true, false, IsTrue, List, [], length}
use Rattle.vlt_core.specs.Core.{Tok}
use Rattle.vlt_core.specs.Core as core
use Rattle.vlt_core.specs.Maps.{Row}
use Rattle.vlt_core.specs.Flow.{Flow, Block, Stmts, Arms}
use Rattle.vlt_core.specs.Found.{One, one_absent}
use Rattle.vlt_core.specs.Faults.{Spot, IsPresent, head_spot, join_spot}
use Rattle.vlt_core.specs.Witness.{Choice, choice, turn, case_arm, Reaches, NoRow, IsJoin, ThroughBlock, Met, MetBlock, MetStmts, MetArm}
use Rattle.vlt_core.specs.View.{tok_of}
use Rattle.vlt_paths.specs.Along.{State, state_of}
use Rattle.vlt_paths.specs.Legs.{Leg, Led, Past, Takes, Onward}
use Rattle.vlt_paths.specs.declared.point.Hunt.{Hunt}
use Rattle.vlt_paths.specs.declared.pair.Pair.{Pair}

-- two paths at a point of a body, for a join at a place
pub record Two : Type 1 where
  pub place : ℕ
  pub first : State
  pub second : State

abbrev pub two_of : Pair → Two
two_of x = record { place = x.place; first = state_of x.first; second = state_of x.second }

-- both go by the leg
pub record AreLed (leg : Leg) (x y : Two) : Type 0 where
  pub place : y.place ≡ x.place
  pub first : Led leg x.first y.first
  pub second : Led leg x.second y.second

-- both have made all their choices at a join of this place, the first without the token and the second with it
pub record AreAt (at : ℕ) (x : Two) : Type 0 where
  pub place : at ≡ x.place
  pub first_made : x.first.left ≡ []
  pub second_made : x.second.left ≡ []
  pub gone : x.first.brings one_absent
  pub present : (o : One) × x.second.brings o × IsPresent o

-- ---- what of the joins is met

-- what a path meets of the joins of a part, for a property of joins with a status
abbrev pub Sight : Type 1
Sight = (Spot → One → Type 0) → One → List Choice → Type 0

-- the path meets the join of this spot, with a status of which this is so
abbrev pub Sees : State → (One → Type 0) → Sight → Spot → Type 0
Sees v is sight s = (o : One) × v.brings o × sight (IsJoin s is) o v.left

abbrev pub IsGone : One → Type 0
IsGone o = o ≡ one_absent

-- Whether both paths meet one join of the place, where each of them is looked at by a sight of its own.
pub record MeetIn (M N : Sight) (x : Two) (b : Bool) : Type 0 where
  pub same : IsTrue b ↔ ((s : Spot) × (s.at ≡ x.place) × Sees x.first IsGone M s × Sees x.second IsPresent N s)

abbrev pub Meet : Sight → Two → Bool → Type 0
Meet M = MeetIn M M

-- by a leg, and then
abbrev pub Then : Leg → Sight → Sight
Then leg M Q o cs = (m : One) × ((es : List Choice) × leg o cs m es × M Q m es)

abbrev pub Either : Sight → Sight → Sight
Either M N Q o cs = M Q o cs ⊎ N Q o cs

-- at a join
abbrev pub AtJoin : Spot → Sight
AtJoin p Q o cs = (cs ≡ []) × Q p o

module _ (t : Tok) where
  abbrev pub InForm : (at k : ℕ) → Flow → Sight
  InForm at k s Q o cs = Met NoRow Q t at k s o cs

  abbrev pub InBlock : (k : ℕ) → Block → Sight
  InBlock k s Q o cs = MetBlock NoRow Q t k s o cs

  abbrev pub InStmts : (k : ℕ) → Stmts → Sight
  InStmts k ss Q o cs = MetStmts NoRow Q t k ss o cs

  abbrev pub InArm : (at k i : ℕ) → Arms → Sight
  InArm at k i arms Q o cs = MetArm NoRow Q t at k i arms o cs

  -- the join after a statement
  abbrev pub Following : (at : ℕ) → Flow → Spot → Sight
  Following at s p = Then (Onward t at s) (AtJoin p)

  -- a block by a choice
  abbrev pub InChosen : Choice → (k : ℕ) → Block → Sight
  InChosen c k s = Then (Takes c) (InBlock k s)

  -- whichever arm
  abbrev pub InArms : (at k : ℕ) → Arms → Sight
  InArms at k arms Q o cs = (i : ℕ) × Then (Takes (choice at (case_arm i))) (InArm at k i arms) Q o cs

  abbrev pub InSwitch : (at k : ℕ) → List Row → Arms → Sight
  InSwitch at k rs arms = Then (Past t rs) (InArms at (k + length rs) arms)

  -- the head of a loop, or its body in the turn that follows
  abbrev pub AtTurn : (at k : ℕ) → List Row → Block → Sight
  AtTurn at k rs s = Either
      (AtJoin (head_spot at k))
      (Then (Past t rs) (InChosen (choice at turn) (k + 1 + length rs) s))

  -- the same, after some turns
  abbrev pub InLoop : (at k : ℕ) → List Row → Block → Sight
  InLoop at k rs s Q o cs = (n : ℕ) × Then (Reaches (ThroughBlock t s) t rs at n) (AtTurn at k rs s) Q o cs

-- ---- of the code

-- whether joins may stand in it or after it
abbrev pub has_blocks : core.Form → Bool
has_blocks (core.choose e a b) = true
has_blocks (core.loop e b) = true
has_blocks (core.switch v arms end) = true
has_blocks (core.focus y z b) = true
has_blocks (core.scope b) = true
has_blocks x = false

abbrev pub MeetForm : Hunt → Flow → (at : ℕ) → Pair → Bool → Type 0
MeetForm h s at x b = (k : ℕ) → Meet (InForm (tok_of h.tok) at k s) (two_of x) b

abbrev pub MeetBlock : Hunt → Block → Pair → Bool → Type 0
MeetBlock h s x b = (k : ℕ) → Meet (InBlock (tok_of h.tok) k s) (two_of x) b

abbrev pub MeetStmts : Hunt → Stmts → Pair → Bool → Type 0
MeetStmts h ss x b = (k : ℕ) → Meet (InStmts (tok_of h.tok) k ss) (two_of x) b

-- the join after a statement, which is at this end
abbrev pub MeetAfter : Hunt → Flow → (at end : ℕ) → Pair → Bool → Type 0
MeetAfter h s at end x b = (n : ℕ) → Meet (Following (tok_of h.tok) at s (join_spot end n)) (two_of x) b

abbrev pub MeetSwitch : Hunt → (at : ℕ) → List Row → Arms → Pair → Bool → Type 0
MeetSwitch h at rs arms x b = (k : ℕ) → Meet (InSwitch (tok_of h.tok) at k rs arms) (two_of x) b

abbrev pub MeetTurn : Hunt → (at : ℕ) → List Row → Block → Pair → Bool → Type 0
MeetTurn h at rs s x b = (k : ℕ) → Meet (AtTurn (tok_of h.tok) at k rs s) (two_of x) b

-- the first at this head, and the second at each that it comes to
abbrev pub MeetTurns : Hunt → (at : ℕ) → List Row → Block → Pair → Bool → Type 0
MeetTurns h at rs s x b = (k : ℕ) → MeetIn (AtTurn (tok_of h.tok) at k rs s) (InLoop (tok_of h.tok) at k rs s) (two_of x) b

abbrev pub MeetLoop : Hunt → (at : ℕ) → List Row → Block → Pair → Bool → Type 0
MeetLoop h at rs s x b = (k : ℕ) → Meet (InLoop (tok_of h.tok) at k rs s) (two_of x) b
