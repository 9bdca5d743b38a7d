-- A driver of devices that a host adds, starts, works with, stops and removes.
use Rattle.std.specs.Prelude.{◌==◌, ◌||◌, ℕ, pos, List, [], ◌∷◌, ◌++◌, Some, None, codes}
use Rattle.vlt_ops.specs.declared.Op.TheVariants.{Add}
use Rattle.vlt_core.specs.Core.{States, int, bool, tracked, a_struct, number, var, field, binary, pure, put, make, become, release, simple, return, done, kept, taken, fresh, Entry, VarDecl, Func, Program}
use Rattle.vlt_meaning.specs.World as world
use Rattle.vlt_host_meaning.specs.Calls.{HostCall, object}
use Rattle.vlt_host_meaning.specs.HostRun.{HostOutcome, ended, bad_call}
use Rattle.vlt_host_meaning.specs.Samples.Told.{◌▹◌, ends_here, key, variable, function, call, natural, Case}

--
--   stateset st { off, on }
--   struct dev @ st { int n; release off; }
--   tracked(D) dev add() [new D@off] {
--       tracked(K) dev d = new dev { n: 0 };
--       return d;
--   }
--   void start(tracked(D) dev d) [D@off->on] {
--       become d@on;
--   }
--   int work(tracked(D) dev d, int k) [D@on] {
--       d.n = d.n + k;
--       return d.n;
--   }
--   void stop(tracked(D) dev d) [D@on->off] {
--       become d@off;
--   }
--   void remove(tracked(D) dev d) [-D@off] {
--       release d;
--   }
--   tracked(R) dev pass(tracked(D) dev d) [-D@off, new R@off] {
--       return d;
--   }
--   void main() {}
--   void both(tracked(A) dev a, tracked(B) dev b) [A@off, B@off] {}
--   void same(tracked(K) dev d, tracked(K) dev e) [K@off] {}
--   void peek(tracked(D) dev d, bool b) {}
abbrev off : States
off s = s == 0

abbrev on : States
on s = s == 1

abbrev kept_from : (before after : States) → Entry
kept_from before after = record { mode = kept; key = 0; before = Some before; after = Some after }

abbrev taken_key : (key : ℕ) → Entry
taken_key k = record { mode = taken; key = k; before = Some off; after = None }

abbrev new_key : Entry
new_key = record { mode = fresh; key = 0; before = None; after = Some off }

-- a variable of type `tracked(K) dev`
abbrev device : (key : ℕ) → VarDecl
device k = variable (tracked k 0 [])

abbrev add : Func
add =
    function (codes "add") (Some (tracked 0 0 [])) 0 (new_key ∷ []) (key ∷ key ∷ []) (device 1 ∷ [])
    (simple (make 0 (pure (number (pos 0)) ∷ [])) ▹ return (Some (pure (var 0))) ▹ done)

abbrev start : Func
start =
    function (codes "start") None 1 (kept_from off on ∷ []) (key ∷ []) (device 0 ∷ []) (simple (become 0 1) ▹ ends_here)

abbrev work : Func
work =
    function (codes "work") (Some int) 2 (kept_from on on ∷ []) (key ∷ []) (device 0 ∷ variable int ∷ [])
    (simple (put 0 0 (binary Add (field 0 0) (var 1))) ▹ return (Some (pure (field 0 0))) ▹ done)

abbrev stop : Func
stop =
    function (codes "stop") None 1 (kept_from on off ∷ []) (key ∷ []) (device 0 ∷ []) (simple (become 0 0) ▹ ends_here)

abbrev remove : Func
remove = function (codes "remove") None 1 (taken_key 0 ∷ []) (key ∷ []) (device 0 ∷ []) (simple (release 0) ▹ ends_here)

-- what is taken is given back as the new object
abbrev pass : Func
pass =
    function (codes "pass") (Some (tracked 0 0 [])) 1 (taken_key 1 ∷ new_key ∷ []) (key ∷ key ∷ []) (device 1 ∷ [])
    (return (Some (pure (var 0))) ▹ done)

abbrev main : Func
main = function (codes "main") None 0 [] [] [] ends_here

abbrev both : Func
both =
    function (codes "both") None 2 (kept_from off off ∷ record (kept_from off off) { key = 1 } ∷ []) (key ∷ key ∷ [])
    (device 0 ∷ device 1 ∷ []) ends_here

abbrev same : Func
same = function (codes "same") None 2 (kept_from off off ∷ []) (key ∷ []) (device 0 ∷ device 0 ∷ []) ends_here

abbrev peek : Func
peek = function (codes "peek") None 2 [] (key ∷ []) (device 0 ∷ variable bool ∷ []) ends_here

abbrev pub program : Program
program = record {
  sets = record { name = codes "st"; states = codes "off" ∷ codes "on" ∷ []; links = [] } ∷ [];
  types = a_struct (record {
    name = codes "dev";
    header = [];
    set = Some 0;
    release = off;
    fields = record { name = codes "n"; ty = int; states = λ s. off s || on s } ∷ [];
  }) ∷ [];
  fns = add ∷ start ∷ work ∷ stop ∷ remove ∷ pass ∷ main ∷ both ∷ same ∷ peek ∷ [];
  main = 6;
}

-- ---- whole runs

abbrev add_one : HostCall
add_one = call (codes "add") []

abbrev on_first : List ℕ → HostCall
on_first name = call name (object 0 ∷ [])

abbrev worked : Case
worked = record {
  calls = add_one ∷ add_one ∷ on_first (codes "start") ∷ call (codes "work") (object 0 ∷ natural 5 ∷ []) ∷
      call (codes "work") (object 0 ∷ natural 2 ∷ []) ∷ on_first (codes "stop") ∷ on_first (codes "remove") ∷ [];
  fuel = 100;
  told = record {
    outcome = ended world.done;
    text = codes "!add\n= #1\n!add\n= #2\n!start #1\n!work #1 5\n= 5\n!work #1 2\n= 7\n!stop #1\n!remove #1\nheld #2@off\n";
    fuel = 93;
  };
}

-- it isn't started
abbrev refused : Case
refused = record {
  calls = add_one ∷ call (codes "work") (object 0 ∷ natural 5 ∷ []) ∷ [];
  fuel = 100;
  told = record { outcome = bad_call 2; text = codes "!add\n= #1\n"; fuel = 99 };
}

abbrev without_fuel : Case
without_fuel = record {
  calls = add_one ∷ add_one ∷ [];
  fuel = 1;
  told = record { outcome = ended world.fuel_end; text = codes "!add\n= #1\n"; fuel = 0 };
}

abbrev without_calls : Case
without_calls = record {
  calls = [];
  fuel = 100;
  told = record { outcome = ended world.done; text = codes "held\n"; fuel = 100 };
}

-- an object that is taken and comes back as the new one is held again
abbrev passed : Case
passed = record {
  calls = add_one ∷ on_first (codes "pass") ∷ on_first (codes "start") ∷ [];
  fuel = 100;
  told = record {
    outcome = ended world.done;
    text = codes "!add\n= #1\n!pass #1\n= #1\n!start #1\nheld #1@on\n";
    fuel = 97;
  };
}

-- main is no function for a host
abbrev main_called : Case
main_called = record {
  calls = call (codes "main") [] ∷ [];
  fuel = 100;
  told = record { outcome = bad_call 1; text = []; fuel = 100 };
}

-- what was taken isn't held
abbrev used_after : Case
used_after = record {
  calls = add_one ∷ on_first (codes "remove") ∷ call (codes "peek") (object 0 ∷ natural 0 ∷ []) ∷ [];
  fuel = 100;
  told = record { outcome = bad_call 3; text = codes "!add\n= #1\n!remove #1\n"; fuel = 98 };
}

abbrev pub runs : List Case
runs = worked ∷ refused ∷ without_fuel ∷ without_calls ∷ passed ∷ main_called ∷ used_after ∷ []

-- ---- what is permitted after two devices are added

abbrev third : HostCall → HostOutcome → (text : List ℕ) → (fuel : ℕ) → Case
third c outcome text fuel = record {
  calls = add_one ∷ add_one ∷ c ∷ [];
  fuel = 100;
  told = record { outcome = outcome; text = codes "!add\n= #1\n!add\n= #2\n" ++ text; fuel = fuel };
}

abbrev is_good : HostCall → (line : List ℕ) → Case
is_good c line = third c (ended world.done) (line ++ codes "held #1@off #2@off\n") 97

abbrev is_bad : HostCall → Case
is_bad c = third c (bad_call 3) [] 98

abbrev pub third_calls : List Case
third_calls =
    -- keys of a clause want different objects, and one key one object
    is_good (call (codes "both") (object 0 ∷ object 1 ∷ [])) (codes "!both #1 #2\n") ∷
    is_bad (call (codes "both") (object 0 ∷ object 0 ∷ [])) ∷
    is_good (call (codes "same") (object 1 ∷ object 1 ∷ [])) (codes "!same #2 #2\n") ∷
    is_bad (call (codes "same") (object 0 ∷ object 1 ∷ [])) ∷
    -- an object is held, a bool is 0 or 1, there are as many arguments as parameters, and the name is a function's
    is_good (call (codes "peek") (object 0 ∷ natural 1 ∷ [])) (codes "!peek #1 1\n") ∷
    is_bad (call (codes "peek") (object 0 ∷ natural 2 ∷ [])) ∷
    is_bad (call (codes "peek") (object 2 ∷ natural 0 ∷ [])) ∷
    is_bad (call (codes "peek") (natural 1 ∷ natural 0 ∷ [])) ∷
    is_bad (call (codes "peek") (object 0 ∷ [])) ∷
    is_bad (call (codes "pee") []) ∷ []
