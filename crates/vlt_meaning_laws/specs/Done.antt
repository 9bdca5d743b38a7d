-- Which runs end as those that come to main's end.
use Rattle.std.specs.Prelude.{◌≡◌, ℕ, ℤ, List, Option, slice_get}
use Rattle.vlt_core.specs.Core.{Program}
use Rattle.vlt_meaning.specs.World.{Value, World, done}
use Rattle.vlt_meaning.specs.Step.{leaves}
use Rattle.vlt_meaning.specs.Run.{start, main_run, ran, run}
use Rattle.vlt_meaning.specs.Clean.{IsClean}

-- The run of a program comes to main's end: it leaves main, with these objects of its clause.
pub record ComesToItsEnd (p : Program) (fuel heap depth : ℕ) (zs : List ℤ) (answers : List (List ℤ)) : Type 0 where
  pub value : Option Value
  pub kept : List ℕ
  pub world : World
  pub leaves_main : main_run (record { program = p; heap = heap; depth = depth }) fuel (slice_get p.fns p.main) (start fuel zs answers) ≡
      leaves value kept world
  pub is : run p fuel heap depth zs answers ≡ ran done kept world

-- a run whose outcome is that it is done has come to main's end
abbrev pub DoneIsMainsEnd : Type 0
DoneIsMainsEnd = (p : Program) (fuel heap depth : ℕ) (zs : List ℤ) (answers : List (List ℤ)) →
    (run p fuel heap depth zs answers).outcome ≡ done → ComesToItsEnd p fuel heap depth zs answers

-- what is promised of what main leaves, and the same of each run that is done
abbrev pub CleanWhereMainIsLeft : Program → Type 0
CleanWhereMainIsLeft p = (fuel heap depth : ℕ) (zs : List ℤ) (answers : List (List ℤ)) (a : Option Value) (kept : List ℕ) (w : World) →
    main_run (record { program = p; heap = heap; depth = depth }) fuel (slice_get p.fns p.main) (start fuel zs answers) ≡ leaves a kept w →
    IsClean (ran done kept w)

abbrev pub CleanWhereDone : Program → Type 0
CleanWhereDone p = (fuel heap depth : ℕ) (zs : List ℤ) (answers : List (List ℤ)) →
    (run p fuel heap depth zs answers).outcome ≡ done → IsClean (run p fuel heap depth zs answers)

abbrev pub DoneIsClean : Type 0
DoneIsClean = (p : Program) → CleanWhereMainIsLeft p → CleanWhereDone p
