-- Where a run ends: the functions under way, each with its place.
use Rattle.std.specs.Prelude.{◌≡◌, ◌<◌, ℕ, ℤ, Bool, true, false, List, [], ◌∷◌, Some, slice_get}
use Rattle.vlt_core.specs.Core.{Func, Program}
use Rattle.vlt_meaning.specs.Step.{Step, ends}
use Rattle.vlt_meaning.specs.Run.{Setup, start, first_frame}
use Rattle.vlt_trace_meaning.specs.Machine.{Task, back, Conf, moves, first_conf}

-- a function under way, and where it is
pub record Standing : Type 0 where
  pub name : List ℕ
  pub place : ℕ

abbrev pub callers : List Task → List Standing
callers [] = []
callers (back k ∷ ts) = record { name = k.func.name; place = k.place } ∷ callers ts
callers (t ∷ ts) = callers ts

-- the inner first
abbrev pub frames_in : Conf → List Standing
frames_in c = record { name = c.func.name; place = c.place } ∷ callers c.tasks

-- the run has ended, or nothing is left to do
abbrev pub is_over_in : List Task → Step → Bool
is_over_in ts (ends o w) = true
is_over_in [] a = true
is_over_in ts a = false

abbrev pub is_over : Conf → Bool
is_over c = is_over_in c.tasks c.step

-- from the first configuration moves come to the last one, and the run isn't over before
pub record ComesTo (r : Setup) (c last : Conf) : Type 0 where
  pub count : ℕ
  pub is : moves r count c ≡ last
  pub over : is_over last ≡ true
  pub before : (n : ℕ) → n < count → is_over (moves r n c) ≡ false

abbrev pub setup : Program → (heap depth : ℕ) → Setup
setup p heap depth = record { program = p; heap = heap; depth = depth }

-- how main's run goes, and where it is over
pub record IsTrace (p : Program) (fuel heap depth : ℕ) (input : List ℤ) (answers : List (List ℤ)) (last : Conf) : Type 0 where
  pub main : Func
  pub is_main : slice_get p.fns p.main ≡ Some main
  pub comes : ComesTo (setup p heap depth) (first_conf main (first_frame 1) (start fuel input answers)) last
