-- What stands between the steps of a search: cited by private contracts alone.
use Rattle.std.specs.Prelude.{◌≡◌, ◌⊎◌, ◌+◌, ◌≤◌, ◌^◌, ℕ, List, length, Result, MatchResult}
use Rattle.vlt_core.specs.Maps.{Row}
use Rattle.vlt_core.specs.Found.{One}
use Rattle.vlt_core.specs.Faults.{head_spot, join_spot}
use Rattle.vlt_core.specs.Witness.{Choice, choice, case_arm, exit}
use Rattle.vlt_rows.specs.declared.sink.RowError.{RowError}
use Rattle.vlt_rows.specs.Unfit.{UnfitBy}
use Rattle.vlt_witness.specs.declared.aim.Aim.{Aim}
use Rattle.vlt_witness.specs.declared.seen.Seen.{Seen}
use Rattle.vlt_witness.specs.declared.ways.Way.{Way}
use Rattle.vlt_witness.specs.declared.search.Jumps.{Jumps}
use Rattle.vlt_witness.specs.declared.search.Went.{Went}
use Rattle.vlt_witness.specs.declared.search.Turned.{Turned}
use Rattle.vlt_witness.specs.declared.search.Begun.{Begun}
use Rattle.vlt_witness.specs.Ways.{nothing_found, On, OnSeen, IsSmall}
use Rattle.vlt_witness.specs.Search.{Spreads, Joined, Walks, Sees, By, CanBy, EitherSight, Passes, Takes, IsEvery, IsClosed}
use Rattle.vlt_witness.specs.Aims.{aim_tok, JoinHere, RowsHere}

-- these ways go on, with this number
pub record GoesOn (L : List Way) (n : ℕ) (r : Went) : Type 0 where
  pub next : r.next ≡ L
  pub number : r.number ≡ n

abbrev pub Counts : List Way → (n : ℕ) → Result Went RowError → Type 0
Counts L n r = MatchResult r (GoesOn L n) (UnfitBy (2 ^ 64 ≤ n))

-- ---- rows and joins

pub record IsPassed (a : Aim) (at k : ℕ) (rs : List Row) (L : List Way) (m m' : List Seen) (r : Went) : Type 0 where
  pub walks : Walks (Passes (aim_tok a) rs) (On L) nothing_found (On r.next)
  pub sees : Sees (RowsHere a at rs) (On L) (OnSeen m) (OnSeen m')
  pub number : r.number ≡ k + length rs

abbrev pub PassesRows : Aim → (at k : ℕ) → List Row → List Way → List Seen → List Seen → Result Went RowError → Type 0
PassesRows a at k rs L m m' r = MatchResult r (IsPassed a at k rs L m m') (UnfitBy (2 ^ 64 ≤ k + length rs))

pub record HasArrived (a : Aim) (at k : ℕ) (L : List Way) (m m' : List Seen) (r : Went) : Type 0 where
  pub next : r.next ≡ L
  pub sees : Sees (JoinHere a (join_spot at k)) (On L) (OnSeen m) (OnSeen m')
  pub number : r.number ≡ k + 1

abbrev pub Arrives : Aim → (at k : ℕ) → List Way → List Seen → List Seen → Result Went RowError → Type 0
Arrives a at k L m m' r = MatchResult r (HasArrived a at k L m m') (UnfitBy (2 ^ 64 ≤ k + 1))

-- ---- an `if` and a switch

-- the second part is numbered after the first
pub record AreTogether (u v r : Went) : Type 0 where
  pub next : Joined (On u.next) (On v.next) (On r.next)
  pub number : r.number ≡ v.number

-- into the arm of this position, through its rows
pub record HasEntered (a : Aim) (at k i : ℕ) (rs : List Row) (L : List Way) (m m' : List Seen) (r : Went) : Type 0 where
  pub picked : List Way
  pub takes : Walks (Takes (choice at (case_arm i))) (On L) nothing_found (On picked)
  pub passed : IsPassed a at k rs picked m m' r

abbrev pub EntersArm : Aim → (at k i : ℕ) → List Row → List Way → List Seen → List Seen → Result Went RowError → Type 0
EntersArm a at k i rs L m m' r = MatchResult r (HasEntered a at k i rs L m m') (UnfitBy ((2 ^ 8 ≤ i) ⊎ (2 ^ 64 ≤ k + length rs)))

-- ---- a loop

-- from each status at the head, through the rows there
pub record HasBegun (a : Aim) (at k : ℕ) (rs : List Row) (m m' : List Seen) (b : Begun) : Type 0 where
  pub heads : List Way
  pub every : IsEvery (On heads)
  pub all : (o : One) → IsSmall o → (cs : List Choice) × On heads o o cs
  pub walks : Walks (Passes (aim_tok a) rs) (On heads) nothing_found (On b.passed)
  pub leaves : Walks (Takes (choice at exit)) (On b.passed) nothing_found (On b.leave)
  pub sees : Sees (EitherSight (JoinHere a (head_spot at k)) (RowsHere a at rs)) (On heads) (OnSeen m) (OnSeen m')
  pub number : b.number ≡ k + 1 + length rs

abbrev pub BeginsTurn : Aim → (at k : ℕ) → List Row → List Seen → List Seen → Result Begun RowError → Type 0
BeginsTurn a at k rs m m' r = MatchResult r (HasBegun a at k rs m m') (UnfitBy (2 ^ 64 ≤ k + 1 + length rs))

-- by the end of the body, and by jumps inside
pub record EndsTurn (end : Went) (inside : Jumps) (seen : List Seen) (r : Turned) : Type 0 where
  pub turn : Joined (On end.next) (On inside.continues) (On r.turn)
  pub leave : r.leave ≡ inside.breaks
  pub met : r.met ≡ seen
  pub number : r.number ≡ end.number

-- by any number of turns, and out to the join after the loop
pub record HasLeft (a : Aim) (end : ℕ) (u : Turned) (L : List Way) (m m' : List Seen) (r : Went) : Type 0 where
  pub heads : List Way
  pub inside : List Seen
  pub closed : IsClosed (On u.turn) (On L) (On heads)
  pub met : Spreads (By (OnSeen u.met)) (CanBy (OnSeen u.met)) (On heads) (OnSeen m) (OnSeen inside)
  pub next : Spreads (By (On u.leave)) (CanBy (On u.leave)) (On heads) nothing_found (On r.next)
  pub sees : Sees (JoinHere a (join_spot end u.number)) (On r.next) (OnSeen inside) (OnSeen m')
  pub number : r.number ≡ u.number + 1

abbrev pub LeavesLoop : Aim → (end : ℕ) → Turned → List Way → List Seen → List Seen → Result Went RowError → Type 0
LeavesLoop a end u L m m' r = MatchResult r (HasLeft a end u L m m') (UnfitBy (2 ^ 64 ≤ u.number + 1))
