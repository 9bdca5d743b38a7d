-- What a search of each kind of part gives.
use Rattle.std.specs.Prelude.{◌≡◌, ◌⊎◌, ◌+◌, ◌≤◌, ◌^◌, ℕ, Bool, true, false, List, ◌∷◌, length, Result, MatchResult}
use Rattle.vlt_core.specs.Core.{Tok}
use Rattle.vlt_core.specs.Maps.{Row}
use Rattle.vlt_core.specs.Flow.{Flow, Block, Stmts, Arms, no_arms, arm}
use Rattle.vlt_core.specs.Found.{One, to_next, to_break, to_continue}
use Rattle.vlt_core.specs.Faults.{head_spot, spots, spots_block, spots_stmts, spots_arms}
use Rattle.vlt_core.specs.Witness as w
use Rattle.vlt_core.specs.Witness.{Choice, choice, case_arm, turn, exit, LeadsOn, Through, ThroughBlock, ThroughStmts, Met, MetBlock, MetStmts}
use Rattle.vlt_core.specs.declared.notes.Pick.{Pick}
use Rattle.vlt_core.specs.FaultView.{pick_of}
use Rattle.vlt_rows.specs.declared.sink.RowError.{RowError}
use Rattle.vlt_rows.specs.Unfit.{UnfitBy, HasPart, HasPartStmts, HasPartArms}
use Rattle.vlt_witness.specs.declared.aim.Aim.{Aim}
use Rattle.vlt_witness.specs.declared.seen.Seen.{Seen}
use Rattle.vlt_witness.specs.declared.ways.Way.{Way}
use Rattle.vlt_witness.specs.declared.search.Jumps.{Jumps}
use Rattle.vlt_witness.specs.declared.search.Went.{Went}
use Rattle.vlt_witness.specs.declared.search.Turned.{Turned}
use Rattle.vlt_witness.specs.Ways.{On, OnSeen}
use Rattle.vlt_witness.specs.Search.{Joined, Leg, Leads, CanLead, Sight, Meets, CanMeet, IsTable, IsSearched}
use Rattle.vlt_witness.specs.Aims.{aim_tok, rows_aimed, joins_aimed, JoinHere, RowsHere}
use Rattle.vlt_witness.specs.Unfit.{NoRows, HasManyArms, HasLongSwitch}

-- what the aim is met by in a statement, a block, statements
abbrev pub SeenIn : Aim → (at k : ℕ) → Flow → Sight
SeenIn a at k s e = Met (rows_aimed a e) (joins_aimed a e) (aim_tok a) at k s

abbrev pub SeenInBlock : Aim → (k : ℕ) → Block → Sight
SeenInBlock a k s e = MetBlock (rows_aimed a e) (joins_aimed a e) (aim_tok a) k s

abbrev pub SeenInStmts : Aim → (k : ℕ) → Stmts → Sight
SeenInStmts a k ss e = MetStmts (rows_aimed a e) (joins_aimed a e) (aim_tok a) k ss

abbrev pub SearchedForm : Aim → (at k : ℕ) → Flow → List Way → Jumps → Jumps → List Seen → List Seen → Went → Type 0
SearchedForm a at k s = IsSearched (Through (aim_tok a) at s) (SeenIn a at k s) (k + spots s)

abbrev pub SearchedBlock : Aim → (k : ℕ) → Block → List Way → Jumps → Jumps → List Seen → List Seen → Went → Type 0
SearchedBlock a k s = IsSearched (ThroughBlock (aim_tok a) s) (SeenInBlock a k s) (k + spots_block s)

abbrev pub SearchedStmts : Aim → (k : ℕ) → Stmts → List Way → Jumps → Jumps → List Seen → List Seen → Went → Type 0
SearchedStmts a k ss = IsSearched (ThroughStmts (aim_tok a) ss) (SeenInStmts a k ss) (k + spots_stmts ss)

-- ---- a block by a choice

abbrev pub WayBy : Tok → Choice → Block → w.Way
WayBy t c s o cs x q ds = (es : List Choice) × (cs ≡ c ∷ es) × ThroughBlock t s o es x q ds

abbrev pub SeenBy : Aim → Choice → (k : ℕ) → Block → Sight
SeenBy a c k s e o cs = (es : List Choice) × (cs ≡ c ∷ es) × SeenInBlock a k s e o es

abbrev pub SearchedWay : Aim → (at : ℕ) → Pick → (k : ℕ) → Block → List Way → Jumps → Jumps → List Seen → List Seen → Went → Type 0
SearchedWay a at pick k s =
    IsSearched (WayBy (aim_tok a) (choice at (pick_of pick)) s) (SeenBy a (choice at (pick_of pick)) k s) (k + spots_block s)

-- ---- arms

-- the arm of this position
abbrev pub WayArm : Tok → (at i : ℕ) → List Row → Block → w.Way
WayArm t at i rs s o cs x q ds =
    (es : List Choice) × (cs ≡ choice at (case_arm i) ∷ es) × ((m : One) × LeadsOn t rs o m × ThroughBlock t s m es x q ds)

abbrev pub SeenInArm : Aim → (at k i : ℕ) → List Row → Block → Sight
SeenInArm a at k i rs s e o cs =
    (es : List Choice) × (cs ≡ choice at (case_arm i) ∷ es) ×
    (RowsHere a at rs e o es ⊎ ((m : One) × LeadsOn (aim_tok a) rs o m × SeenInBlock a (k + length rs) s e m es))

abbrev pub SearchedArm : Aim → (at k i : ℕ) → List Row → Block → List Way → Jumps → Jumps → List Seen → List Seen → Went → Type 0
SearchedArm a at k i rs s = IsSearched (WayArm (aim_tok a) at i rs s) (SeenInArm a at k i rs s) (k + length rs + spots_block s)

-- those from a position on
abbrev pub WayArms : Tok → (at i : ℕ) → Arms → w.Way
WayArms t at i no_arms o cs x q ds = ⊥
WayArms t at i (arm rs s rest) o cs x q ds = WayArm t at i rs s o cs x q ds ⊎ WayArms t at (i + 1) rest o cs x q ds

abbrev pub SeenInArms : Aim → (at k i : ℕ) → Arms → Sight
SeenInArms a at k i no_arms e o cs = ⊥
SeenInArms a at k i (arm rs s rest) e o cs =
    SeenInArm a at k i rs s e o cs ⊎ SeenInArms a at (k + length rs + spots_block s) (i + 1) rest e o cs

abbrev pub SearchedArms : Aim → (at k i : ℕ) → Arms → List Way → Jumps → Jumps → List Seen → List Seen → Went → Type 0
SearchedArms a at k i arms = IsSearched (WayArms (aim_tok a) at i arms) (SeenInArms a at k i arms) (k + spots_arms arms)

-- ---- a turn of a loop, from its head

-- to the head again
abbrev pub TurnLeg : Tok → (at : ℕ) → List Row → Block → Leg
TurnLeg t at rs s o cs q ds =
    (m : One) × LeadsOn t rs o m × ((es : List Choice) × (cs ≡ choice at turn ∷ es) ×
    (ThroughBlock t s m es to_next q ds ⊎ ThroughBlock t s m es to_continue q ds))

-- out of the loop
abbrev pub LeaveLeg : Tok → (at : ℕ) → List Row → Block → Leg
LeaveLeg t at rs s o cs q ds =
    (LeadsOn t rs o q × (cs ≡ choice at exit ∷ ds)) ⊎
    ((m : One) × LeadsOn t rs o m × ((es : List Choice) × (cs ≡ choice at turn ∷ es) × ThroughBlock t s m es to_break q ds))

abbrev pub TurnSight : Aim → (at k : ℕ) → List Row → Block → Sight
TurnSight a at k rs s e o cs =
    JoinHere a (head_spot at k) e o cs ⊎
    (RowsHere a at rs e o cs ⊎
    ((m : One) × LeadsOn (aim_tok a) rs o m × ((es : List Choice) × (cs ≡ choice at turn ∷ es) × SeenInBlock a (k + 1 + length rs) s e m es)))

pub record IsTurned (a : Aim) (at k : ℕ) (rs : List Row) (s : Block) (r : Turned) : Type 0 where
  pub turn : IsTable (Leads (TurnLeg (aim_tok a) at rs s)) (CanLead (TurnLeg (aim_tok a) at rs s)) (On r.turn)
  pub leave : IsTable (Leads (LeaveLeg (aim_tok a) at rs s)) (CanLead (LeaveLeg (aim_tok a) at rs s)) (On r.leave)
  pub met : IsTable (Meets (TurnSight a at k rs s)) (CanMeet (TurnSight a at k rs s)) (OnSeen r.met)
  pub number : r.number ≡ k + 1 + length rs + spots_block s

-- ---- jumps

-- the ways are put to those of the jump
abbrev pub IsLanded : (continues : Bool) → List Way → Jumps → Jumps → Type 0
IsLanded true ways j j' = (j'.breaks ≡ j.breaks) × Joined (On j.continues) (On ways) (On j'.continues)
IsLanded false ways j j' = (j'.continues ≡ j.continues) × Joined (On j.breaks) (On ways) (On j'.breaks)

-- ---- a part that is too large

-- The rows and joins would have numbers of more than 64 bits, or this.
abbrev pub IsLarge : (end : ℕ) → Type 0 → Type 0
IsLarge end P = (2 ^ 64 ≤ end) ⊎ P

-- a part whose rows and joins are numbered from k on
abbrev pub LargeForm : (k : ℕ) → Flow → Type 0
LargeForm k s = IsLarge (k + spots s) (HasPart NoRows HasManyArms s)

abbrev pub LargeBlock : (k : ℕ) → Block → Type 0
LargeBlock k s = IsLarge (k + spots_block s) (HasLongSwitch s)

-- an arm of this position
abbrev pub LargeArm : (k i : ℕ) → List Row → Block → Type 0
LargeArm k i rs s = (2 ^ 8 ≤ i) ⊎ LargeBlock (k + length rs) s

abbrev pub LargeStmts : (k : ℕ) → Stmts → Type 0
LargeStmts k ss = IsLarge (k + spots_stmts ss) (HasPartStmts NoRows HasManyArms ss)

abbrev pub LargeArms : (k : ℕ) → Arms → Type 0
LargeArms k arms = IsLarge (k + spots_arms arms) (HasManyArms arms ⊎ HasPartArms NoRows HasManyArms arms)

-- ---- a part is searched, or it is too large

abbrev pub SearchesForm : Aim → (at k : ℕ) → Flow → List Way → Jumps → Jumps → List Seen → List Seen → Result Went RowError → Type 0
SearchesForm a at k s L j j' m m' r = MatchResult r (SearchedForm a at k s L j j' m m') (UnfitBy (LargeForm k s))

abbrev pub SearchesBlock : Aim → (k : ℕ) → Block → List Way → Jumps → Jumps → List Seen → List Seen → Result Went RowError → Type 0
SearchesBlock a k s L j j' m m' r = MatchResult r (SearchedBlock a k s L j j' m m') (UnfitBy (LargeBlock k s))

abbrev pub SearchesStmts : Aim → (k : ℕ) → Stmts → List Way → Jumps → Jumps → List Seen → List Seen → Result Went RowError → Type 0
SearchesStmts a k ss L j j' m m' r = MatchResult r (SearchedStmts a k ss L j j' m m') (UnfitBy (LargeStmts k ss))

abbrev pub SearchesWay : Aim → (at : ℕ) → Pick → (k : ℕ) → Block → List Way → Jumps → Jumps → List Seen → List Seen → Result Went RowError → Type 0
SearchesWay a at pick k s L j j' m m' r = MatchResult r (SearchedWay a at pick k s L j j' m m') (UnfitBy (LargeBlock k s))

abbrev pub SearchesArm : Aim → (at k i : ℕ) → List Row → Block → List Way → Jumps → Jumps → List Seen → List Seen → Result Went RowError → Type 0
SearchesArm a at k i rs s L j j' m m' r = MatchResult r (SearchedArm a at k i rs s L j j' m m') (UnfitBy (LargeArm k i rs s))

abbrev pub SearchesArms : Aim → (at k i : ℕ) → Arms → List Way → Jumps → Jumps → List Seen → List Seen → Result Went RowError → Type 0
SearchesArms a at k i arms L j j' m m' r = MatchResult r (SearchedArms a at k i arms L j j' m m') (UnfitBy (LargeArms k arms))

abbrev pub SearchesTurn : Aim → (at k : ℕ) → List Row → Block → Result Turned RowError → Type 0
SearchesTurn a at k rs s r = MatchResult r (IsTurned a at k rs s) (UnfitBy (LargeBlock (k + 1 + length rs) s))
