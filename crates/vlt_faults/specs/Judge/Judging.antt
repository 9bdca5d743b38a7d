-- What the judge of a part takes and gives.
use Rattle.std.specs.Prelude.{◌≡◌, ◌<◌, ◌≤◌, ◌+◌, ◌^◌, ℕ, Option, length}
use Rattle.vlt_core.specs.Core.{Tok}
use Rattle.vlt_core.specs.Flow.{Flow, Block, Stmts, Arms, size, size_block, size_stmts, size_arms}
use Rattle.vlt_core.specs.Found.{One, Ones, to_next, out, out_block, out_stmts}
use Rattle.vlt_core.specs.Faults.{spots, spots_block, spots_stmts, spots_arms}
use Rattle.vlt_core_laws.specs.Sweep.{In, IsSameOnes, Fits, FitsBlock, FitsStmts, FitsArms}
use Rattle.vlt_faults.specs.Finding.Ones.{many_of}
use Rattle.vlt_faults.specs.Finding.Marks.{Marks, at}
use Rattle.vlt_faults.specs.declared.judge.blame.Blame.{Blame}
use Rattle.vlt_faults.specs.declared.judge.judging.Point.{Point}
use Rattle.vlt_faults.specs.declared.judge.judging.Judged.{Judged}
use Rattle.vlt_faults.specs.Judge.Blames.{FirstOfForm, FirstOfBlock, FirstOfStmts, FirstOfArms}

-- so many statements, rows and joins from the point on have tables and numbers
pub record HasRoom (k : Marks) (stmts spots : ℕ) (from : Point) : Type 0 where
  pub fits : from.stmt + stmts ≤ length k.around
  pub long : length k.following ≡ length k.around
  pub few : length k.around < 2 ^ 63
  pub numbers : from.spot + spots < 2 ^ 63

-- what comes to a point
abbrev pub at_point : Point → Ones
at_point from = In (many_of from.ones)

-- each table has just what is found there, of a part from the point on
abbrev pub Fitting : Marks → Tok → Flow → Point → Type 0
Fitting k t s from = Fits (λ i. In (at k.around i)) (λ i. In (at k.following i)) t s from.stmt (at_point from)

abbrev pub FittingBlock : Marks → Tok → Block → Point → Type 0
FittingBlock k t s from = FitsBlock (λ i. In (at k.around i)) (λ i. In (at k.following i)) t s from.stmt (at_point from)

abbrev pub FittingStmts : Marks → Tok → Stmts → Point → Type 0
FittingStmts k t ss from = FitsStmts (λ i. In (at k.around i)) (λ i. In (at k.following i)) t ss from.stmt (at_point from)

abbrev pub FittingArms : Marks → Tok → Arms → Point → Type 0
FittingArms k t arms from = FitsArms (λ i. In (at k.around i)) (λ i. In (at k.following i)) t arms from.stmt (at_point from)

-- the next point stands after so many statements, rows and joins
pub record IsAfter (stmts spots : ℕ) (from next : Point) : Type 0 where
  pub stmt : next.stmt ≡ from.stmt + stmts
  pub spot : next.spot ≡ from.spot + spots

-- the first fault of a part, and the point after it
pub record IsJudged (t : Tok) (at : ℕ) (s : Flow) (from : Point) (r : Judged) : Type 0 where
  pub first : FirstOfForm t at from.spot s (at_point from) r.first
  pub just : IsSameOnes (at_point r.next) (out t s (at_point from) to_next)
  pub following : IsAfter (size s) (spots s) from r.next

pub record IsJudgedBlock (t : Tok) (s : Block) (from : Point) (r : Judged) : Type 0 where
  pub first : FirstOfBlock t from.spot s (at_point from) r.first
  pub just : IsSameOnes (at_point r.next) (out_block t s (at_point from) to_next)
  pub following : IsAfter (size_block s) (spots_block s) from r.next

pub record IsJudgedStmts (t : Tok) (ss : Stmts) (from : Point) (r : Judged) : Type 0 where
  pub first : FirstOfStmts t from.spot ss (at_point from) r.first
  pub just : IsSameOnes (at_point r.next) (out_stmts t ss (at_point from) to_next)
  pub following : IsAfter (size_stmts ss) (spots_stmts ss) from r.next

-- what comes out of arms isn't told
pub record IsJudgedArms (t : Tok) (at : ℕ) (arms : Arms) (from : Point) (r : Judged) : Type 0 where
  pub first : FirstOfArms t at from.spot arms (at_point from) r.first
  pub following : IsAfter (size_arms arms) (spots_arms arms) from r.next

-- after so many rows of a statement that nothing passes
pub record IsAfterAll (x : Option Blame) (spots : ℕ) (from : Point) (r : Judged) : Type 0 where
  pub first : r.first ≡ x
  pub stmt : r.next.stmt ≡ from.stmt + 1
  pub spot : r.next.spot ≡ from.spot + spots
  pub none : (o : One) → at_point r.next o → ⊥
