-- Which answers of a host are bad: those that don't keep their external's clause.
use Rattle.std.specs.Prelude.{◌≡◌, ℕ, ◌+◌, ℤ, List, ◌∷◌, Option, Ok}
use Rattle.std.specs.List.{flat_map}
use Rattle.vlt_core.specs.Core.{Func, Program}
use Rattle.vlt_meaning.specs.World.{Value, objects_in, out, is_at, is_loose, Object, World, Frame, bad_answer}
use Rattle.vlt_meaning.specs.Objects.{objects_after_move}
use Rattle.vlt_meaning.specs.Step.{Step, ends}
use Rattle.vlt_meaning.specs.Calls.{passed_objects}
use Rattle.vlt_meaning.specs.Externals.{awaited_keys, named_objects, taken_objects, KeepsClause, call_external}

-- A call of an external comes to an answer: all objects that it needs are found, there is a next
-- answer, and what the host takes is out.
pub record IsAnswered (p : Program) (keys : List ℕ) (g : Func) (args : List Value) (frame : Frame)
    (w : World) : Type 0 where
  pub passed : List ℕ
  pub passes : passed_objects p g keys frame w.objects g.clause ≡ Ok passed
  pub awaited : List ℕ
  pub finds : named_objects keys frame (awaited_keys p g) ≡ Ok awaited
  pub numbers : List ℤ
  pub rest : List (List ℤ)
  pub answer : w.answers ≡ numbers ∷ rest
  pub sent : List Object
  pub sends : objects_after_move (is_at frame.depth) out (taken_objects keys frame g.clause) w.objects ≡
      Ok sent
  pub objects : List Object
  pub hands : objects_after_move is_loose out (flat_map objects_in args) sent ≡ Ok objects

pub record EndsInBadAnswer (position : ℕ) (a : Step) : Type 0 where
  pub world : World
  pub is : a ≡ ends (bad_answer position) world

-- then an answer that doesn't keep the external's clause ends the run, with its position
abbrev pub IsBadUnlessKept : Type 0
IsBadUnlessKept =
    (heap : ℕ) (p : Program) (f : Func) (target : Option ℕ) (keys : List ℕ) (g : Func) (args : List Value)
    (frame : Frame) (w : World) (a : IsAnswered p keys g args frame w) →
    (KeepsClause p g keys frame a.numbers a.objects → ⊥) →
    EndsInBadAnswer (w.taken + 1) (call_external heap p f target keys g args frame w)

-- one that keeps it doesn't
abbrev pub IsGoodWhereKept : Type 0
IsGoodWhereKept =
    (heap : ℕ) (p : Program) (f : Func) (target : Option ℕ) (keys : List ℕ) (g : Func) (args : List Value)
    (frame : Frame) (w : World) (a : IsAnswered p keys g args frame w) →
    KeepsClause p g keys frame a.numbers a.objects →
    (n : ℕ) → EndsInBadAnswer n (call_external heap p f target keys g args frame w) → ⊥
