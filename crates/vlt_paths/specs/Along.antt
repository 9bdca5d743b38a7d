-- One path, as its choices take it through the parts of a body.
use Rattle.std.specs.Prelude.{◌≡◌, ◌↔◌, ◌⊎◌, ◌≤◌, ℕ, Bool, true, false, IsTrue, List, [], ◌∷◌, length, Option, Some, None}
use Rattle.std.specs.List.{list_any}
use Rattle.vlt_core.specs.Core.{Tok}
use Rattle.vlt_core.specs.Core as core
use Rattle.vlt_core.specs.Maps.{Row, is_tok}
use Rattle.vlt_core.specs.Flow.{Flow, Block, Stmts, Arms}
use Rattle.vlt_core.specs.Found.{One, Ones, images, Exit, to_next, to_break, to_continue}
use Rattle.vlt_core.specs.Witness.{Choice, choice, turn, exit, Way, LeadsOn, RowMet, NoJoin, Through, ThroughBlock, ThroughStmts, ThroughArm, Met, MetHere, MetBlock, MetStmts, MetArm}
use Rattle.vlt_core.specs.FaultView.{choices_of}
use Rattle.vlt_core.specs.View.{tok_of}
use Rattle.vlt_paths.specs.Comes.{Brings, SoughtRow}
use Rattle.vlt_paths.specs.declared.along.Out.{Out}
use Rattle.vlt_paths.specs.declared.along.Out.TheVariants as out
use Rattle.vlt_paths.specs.declared.along.Went.{Went}
use Rattle.vlt_paths.specs.declared.point.Point.{Point}
use Rattle.vlt_paths.specs.declared.point.Hunt.{Hunt}

-- a path's state: what its token comes with, the choices that are still to be made, and whether the row that is sought was met
pub record State : Type 1 where
  pub brings : Ones
  pub left : List Choice
  pub met : Bool

abbrev pub state_of : Point → State
state_of v = record { brings = Brings v.comes; left = choices_of v.rest.now; met = v.met }

-- For a property of rows at a place with a status, the rows that are sought.
abbrev pub Sought : Type 1
Sought = (place : ℕ) → Row → One → Type 0

-- the path passed rows at a place
pub record Passes (P : Sought) (t : Tok) (at : ℕ) (rs : List Row) (v u : State) : Type 0 where
  pub left : u.left ≡ v.left
  pub brings : (o : One) → u.brings o ↔ images t rs v.brings o
  pub met : IsTrue u.met ↔ (IsTrue v.met ⊎ ((v.left ≡ []) × ((o : One) × v.brings o × RowMet P NoJoin t at rs o)))

abbrev pub exit_of : Out → Option Exit
exit_of out.Next = Some to_next
exit_of out.Break = Some to_break
exit_of out.Continue = Some to_continue
exit_of out.Nowhere = None

-- The path went through a part: where it came out, if it did, and whether it met the row there.
pub record Goes (way : Way) (sight : One → List Choice → Type 0) (v u : State) (r : Option Exit) : Type 0 where
  pub there : (x : Exit) (q : One) (ds : List Choice) →
      ((o : One) × v.brings o × way o v.left x q ds) ↔ ((r ≡ Some x) × u.brings q × (ds ≡ u.left))
  pub met : IsTrue u.met ↔ (IsTrue v.met ⊎ ((o : One) × v.brings o × sight o v.left))
  pub fewer : length u.left ≤ length v.left

module _ (P : Sought) (t : Tok) where
  abbrev pub GoesForm : Flow → (at : ℕ) → State → State → Option Exit → Type 0
  GoesForm s at v u r = (k : ℕ) → Goes (Through t at s) (Met P NoJoin t at k s) v u r

  abbrev pub GoesBlock : Block → State → State → Option Exit → Type 0
  GoesBlock s v u r = (k : ℕ) → Goes (ThroughBlock t s) (MetBlock P NoJoin t k s) v u r

  abbrev pub GoesStmts : Stmts → State → State → Option Exit → Type 0
  GoesStmts s v u r = (k : ℕ) → Goes (ThroughStmts t s) (MetStmts P NoJoin t k s) v u r

  abbrev pub GoesArm : (at i : ℕ) → Arms → State → State → Option Exit → Type 0
  GoesArm at i arms v u r = (k : ℕ) → Goes (ThroughArm t i arms) (MetArm P NoJoin t at k i arms) v u r

-- A turn of a loop: to its head again with `to_continue`, out of it with `to_next`.
abbrev pub BodyWay : Tok → Block → Way
BodyWay t s o cs to_continue q ds = ThroughBlock t s o cs to_next q ds ⊎ ThroughBlock t s o cs to_continue q ds
BodyWay t s o cs to_next q ds = ThroughBlock t s o cs to_break q ds
BodyWay t s o cs to_break q ds = ⊥

abbrev pub TurnWay : Tok → List Row → Block → (at : ℕ) → Way
TurnWay t rs s at o cs x q ds =
    ((x ≡ to_next) × LeadsOn t rs o q × (cs ≡ choice at exit ∷ ds)) ⊎
    ((m : One) × LeadsOn t rs o m × ((es : List Choice) × (cs ≡ choice at turn ∷ es) × BodyWay t s m es x q ds))

-- what is met in a turn
abbrev pub TurnSight : Sought → Tok → List Row → Block → (at k : ℕ) → One → List Choice → Type 0
TurnSight P t rs s at k o cs =
    MetHere P NoJoin t at rs o cs ⊎
    ((m : One) × LeadsOn t rs o m × ((es : List Choice) × (cs ≡ choice at turn ∷ es) × MetBlock P NoJoin t k s m es))

abbrev pub GoesTurn : Sought → Tok → List Row → Block → (at : ℕ) → State → State → Option Exit → Type 0
GoesTurn P t rs s at v u r = (k : ℕ) → Goes (TurnWay t rs s at) (TurnSight P t rs s at k) v u r

-- what the end of a loop's body is to the loop
abbrev pub exit_of_turn : Option Exit → Option Exit
exit_of_turn (Some to_next) = Some to_continue
exit_of_turn (Some to_continue) = Some to_continue
exit_of_turn (Some to_break) = Some to_next
exit_of_turn None = None

-- ---- of the code

-- a statement without blocks that goes on to the next one
abbrev pub is_step : core.Form → Bool
is_step (core.simple s) = true
is_step (core.call g target keys args) = true
is_step s = false

abbrev pub jump_out : Bool → Out
jump_out true = out.Continue
jump_out false = out.Break

abbrev pub sought_of : Hunt → Sought
sought_of h = SoughtRow (tok_of h.tok) h.row

-- whether the blocks around bind the token
abbrev pub IsBound : Hunt → List Tok → Bool → Type 0
IsBound h ts left = left ≡ list_any (is_tok (tok_of h.tok)) ts

abbrev pub IsPast : Hunt → (at : ℕ) → List Row → Point → Point → Type 0
IsPast h at rs v u = Passes (sought_of h) (tok_of h.tok) at rs (state_of v) (state_of u)

-- the row is the one that is sought, and a path whose choices are all made comes to it with what it refuses
abbrev pub MeetsRow : Hunt → (at : ℕ) → Row → Point → Type 0
MeetsRow h at r v = (choices_of v.rest.now ≡ []) × ((o : One) × Brings v.comes o × sought_of h at r o)

abbrev pub AlongForm : Hunt → Flow → (at : ℕ) → Point → Went → Type 0
AlongForm h s at v u = GoesForm (sought_of h) (tok_of h.tok) s at (state_of v) (state_of u.point) (exit_of u.out)

abbrev pub AlongBlock : Hunt → Block → Point → Went → Type 0
AlongBlock h s v u = GoesBlock (sought_of h) (tok_of h.tok) s (state_of v) (state_of u.point) (exit_of u.out)

abbrev pub AlongStmts : Hunt → Stmts → Point → Went → Type 0
AlongStmts h s v u = GoesStmts (sought_of h) (tok_of h.tok) s (state_of v) (state_of u.point) (exit_of u.out)

abbrev pub AlongArm : Hunt → Arms → (at i : ℕ) → Point → Went → Type 0
AlongArm h arms at i v u = GoesArm (sought_of h) (tok_of h.tok) at i arms (state_of v) (state_of u.point) (exit_of u.out)

abbrev pub AlongTurn : Hunt → List Row → Block → (at : ℕ) → Point → Went → Type 0
AlongTurn h rs s at v u = GoesTurn (sought_of h) (tok_of h.tok) rs s at (state_of v) (state_of u.point) (exit_of u.out)
