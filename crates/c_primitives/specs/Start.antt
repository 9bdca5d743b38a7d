-- The start of a run.
use Rattle.std.specs.Prelude.{◌≡◌, ◌<◌, ◌≤◌, ℕ, ◌+◌, ◌^◌, ℤ, List, [], replicate, None, vec_capacity}
use Rattle.vlt_numbers.specs.declared.answers.Answers.{Answers}
use Rattle.vlt_numbers.specs.HostAnswers.{lists_of}
use Rattle.c_meaning.specs.World.{first_world}
use Rattle.c_memory.specs.Shown.{IsSound, IsFresh, heap_of, cells_of}
use Rattle.c_primitives.specs.declared.world.Tables.{Tables}
use Rattle.c_primitives.specs.declared.world.World.{World}
use Rattle.c_primitives.specs.Shown.{Shows, IsReady}

-- tables in which nothing was put yet
pub record AreNew (t : Tables) : Type 0 where
  pub fresh : IsFresh t.blocks
  pub sound : IsSound t.blocks
  pub heap : heap_of t.blocks ≡ t.heap
  pub cells : cells_of t.blocks < 2 ^ 32
  pub numbers : t.numbers.items ≡ replicate 8 None
  pub references : t.references.items ≡ replicate 16 None

pub record AreOpen (heap cells name : ℕ) (t : Tables) : Type 0 where
  pub are_new : AreNew t
  pub budget : t.heap ≡ heap
  pub width : cells_of t.blocks ≡ cells
  pub line : name + 674 ≤ vec_capacity t.line

-- the world that a run begins with
pub record IsFirst (t : Tables) (fuel : ℕ) (input : List ℤ) (answers : Answers) (s : World) : Type 0 where
  pub shown : Shows s [] (first_world fuel input (lists_of answers))
  pub ready : IsReady s
  pub blocks : s.blocks ≡ t.blocks
  pub heap : s.heap ≡ t.heap
  pub line : s.line ≡ t.line
  pub has_fuel : s.fuel ≡ fuel
  pub has_input : s.input.now ≡ input
  pub has_answers : s.answers.now ≡ answers
