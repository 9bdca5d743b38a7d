-- Levels: an ordered set of states, and functions that keep a key in any state up to a bound.
use Rattle.std.specs.Prelude.{◌≡◌, ℕ, pos, true, false, List, [], ◌∷◌, map, Option, Some, None, codes}
use Rattle.vlt_core.specs.Core.{a_key, tracked, an_abstract, pure, var, call, return, done, kept, taken, fresh, up_to, Entry, Form, Func, Program}
use Rattle.vlt_core.specs.Instances.{instance, origins}
use Rattle.vlt_core.specs.Maps.{held, Wanted}
use Rattle.vlt_core.specs.Found.{one_held, WantsOne}
use Rattle.vlt_core.specs.Faults.{Spot, row_spot, IsFaultIn, IsToldOf, at_row}
use Rattle.vlt_core.specs.Kinded.{breaks}
use Rattle.vlt_meaning.specs.World as world
use Rattle.vlt_meaning_samples.specs.Told.{in_set, ◌▹◌, a_key_of, a_var_of, Case, defaults, ran_call}

--
--   stateset level { low < mid < high }
--   abstract cpu @ level;
--   extern tracked(K) cpu boot() [new K@low];
--   extern void raise(tracked(K) cpu c) [K@{low, mid}->{mid, high}];
--   extern void log(tracked(K) cpu c) [K@(s <= mid)];
--   extern void halt(tracked(K) cpu c) [-K@low];
--   void twice(tracked(K) cpu c) [K@(s <= mid)] {
--       log(c);
--       log(c);
--   }
--   void main() {
--       tracked(C) cpu c = boot();
--       twice(c);
--       halt(c);
--   }
abbrev pub on_cpu : (name : List ℕ) → Entry → Func
on_cpu name e = record {
  name = name;
  external = true;
  result = None;
  params = 1;
  end = 0;
  clause = (e ∷ []);
  keys = (a_key_of (Some 0) ∷ []);
  vars = (a_var_of (tracked 0 0 []) ∷ []);
  body = done;
}

-- the two statements of `twice` are given
abbrev pub twice : (first second : Form) → Func
twice first second = record {
  name = (codes "twice");
  external = false;
  result = None;
  params = 1;
  end = 0;
  clause = (record { mode = up_to 1; key = 0; before = None; after = None } ∷ []);
  keys = (a_key_of (Some 0) ∷ []);
  vars = (a_var_of (tracked 0 0 []) ∷ []);
  body =
      first ▹
      second ▹
      return None ▹
      done;
}

abbrev pub main : Func
main = record {
  name = (codes "main");
  external = false;
  result = None;
  params = 0;
  end = 0;
  clause = [];
  keys = (a_key_of (Some 0) ∷ []);
  vars = (a_var_of (tracked 0 0 []) ∷ []);
  body =
      call 0 (Some 0) (0 ∷ []) [] ▹
      call 4 None (0 ∷ []) ((pure (var 0)) ∷ []) ▹
      call 3 None (0 ∷ []) ((pure (var 0)) ∷ []) ▹
      return None ▹
      done;
}

-- the program, with the statements of `twice`
abbrev pub program_with : (first second : Form) → Program
program_with first second = record {
  sets = (record {
    name = (codes "level");
    states = ((codes "low") ∷ (codes "mid") ∷ (codes "high") ∷ []);
    links = (record { lower = 0; upper = 1 } ∷ record { lower = 1; upper = 2 } ∷ []);
  } ∷ []);
  types = an_abstract (codes "cpu") (Some 0) ∷ [];
  fns =
      record {
        name = (codes "boot");
        external = true;
        result = (Some (tracked 0 0 []));
        params = 0;
        end = 0;
        clause = (record { mode = fresh; key = 0; before = None; after = (Some (in_set (0 ∷ []))) } ∷ []);
        keys = (a_key_of (Some 0) ∷ []);
        vars = [];
        body = done;
      } ∷
      on_cpu (codes "raise")
      (record { mode = kept; key = 0; before = (Some (in_set (0 ∷ 1 ∷ []))); after = (Some (in_set (1 ∷ 2 ∷ []))) }) ∷
      on_cpu (codes "log") (record { mode = up_to 1; key = 0; before = None; after = None }) ∷
      on_cpu (codes "halt") (record { mode = taken; key = 0; before = (Some (in_set (0 ∷ []))); after = None }) ∷
      twice first second ∷ main ∷ [];
  main = 5;
}

abbrev pub logs : Form
logs = call 2 None (0 ∷ []) ((pure (var 0)) ∷ [])

abbrev pub raises : Form
raises = call 1 None (0 ∷ []) ((pure (var 0)) ∷ [])

abbrev pub program : Program
program = program_with logs logs

abbrev pub runs : List Case
runs =
    record {
      budgets = defaults;
      input = [];
      answers = ([] ∷ [] ∷ [] ∷ [] ∷ []);
      told = record {
        outcome = world.done;
        fuel = 999995;
        events =
            ((ran_call (codes "boot") []) ∷ (ran_call (codes "log") ((world.reference 0) ∷ [])) ∷
            (ran_call (codes "log") ((world.reference 0) ∷ [])) ∷ (ran_call (codes "halt") ((world.reference 0) ∷ [])) ∷ []);
      };
    } ∷
    record {
      budgets = defaults;
      input = [];
      answers = ([] ∷ (pos 0 ∷ []) ∷ []);
      told = record {
        outcome = world.bad_answer 2;
        fuel = 999997;
        events = ((ran_call (codes "boot") []) ∷ (ran_call (codes "log") ((world.reference 0) ∷ [])) ∷ []);
      };
    } ∷ []

-- with `raise(c);` first the object comes back in another state than it had
abbrev pub program_raised : Program
program_raised = program_with raises logs

abbrev pub runs_raised : List Case
runs_raised =
    record {
      budgets = defaults;
      input = [];
      answers = ([] ∷ (pos 1 ∷ []) ∷ [] ∷ [] ∷ []);
      told = record {
        outcome = world.fault world.wrong_state (Some 0);
        fuel = 999996;
        events =
            ((ran_call (codes "boot") []) ∷ (ran_call (codes "raise") ((world.reference 0) ∷ [])) ∷
            (ran_call (codes "log") ((world.reference 0) ∷ [])) ∷ []);
      };
    } ∷
    record {
      budgets = defaults;
      input = [];
      answers = ([] ∷ (pos 2 ∷ []) ∷ [] ∷ [] ∷ []);
      told = record {
        outcome = world.fault world.wrong_state (Some 0);
        fuel = 999996;
        events = ((ran_call (codes "boot") []) ∷ (ran_call (codes "raise") ((world.reference 0) ∷ [])) ∷ []);
      };
    } ∷ []

-- With `raise(c);` last, `twice` breaks the rules on keys. Of an object that comes in low it keeps one in mid or high: at its end
-- the key is found held in these two, and its clause wants low.
abbrev pub program_left : Program
program_left = program_with logs raises

abbrev pub twice_in_low : Func
twice_in_low = instance program_left (twice logs raises) (Some 0)

abbrev pub at_its_end : Spot
at_its_end = row_spot 0 2

pub record BreaksTheRules : Type 0 where
  pub faulty : IsFaultIn program_left twice_in_low at_its_end (a_key 0)
  pub wanted : Wanted
  pub told : IsToldOf program_left twice_in_low (at_row (held (in_set (1 ∷ 2 ∷ []))) wanted) at_its_end (a_key 0)
  pub low : WantsOne wanted (one_held 0)
  pub alone : (s : ℕ) → WantsOne wanted (one_held s) → s ≡ 0

-- an order that leads from a state to itself
abbrev pub program_looped : Program
program_looped = record program {
  sets = (record {
    name = (codes "level");
    states = ((codes "low") ∷ (codes "mid") ∷ (codes "high") ∷ []);
    links = (record { lower = 0; upper = 1 } ∷ record { lower = 1; upper = 0 } ∷ []);
  } ∷ []);
}

-- each function's instances, by the states of the bound entry's object
abbrev pub all_origins : List (List (Option ℕ))
all_origins = map (origins program) program.fns

abbrev pub AreRead : Type 0
AreRead =
    (breaks program ≡ None) × (breaks program_raised ≡ None) × (breaks program_looped ≡ Some (1, 45)) ×
    (all_origins ≡ (None ∷ []) ∷ (None ∷ []) ∷ (Some 0 ∷ Some 1 ∷ []) ∷ (None ∷ []) ∷ (Some 0 ∷ Some 1 ∷ []) ∷ (None ∷ []) ∷ [])
