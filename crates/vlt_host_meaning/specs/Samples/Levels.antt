-- Functions that keep a key in any state up to a bound.
use Rattle.std.specs.Prelude.{◌==◌, ℕ, nat_lt, pos, List, [], ◌∷◌, Option, Some, None, codes}
use Rattle.vlt_ops.specs.declared.Op.TheVariants.{Add}
use Rattle.vlt_core.specs.Core.{Name, States, int, tracked, a_struct, number, var, field, binary, pure, put, make, become, simple, return, done, kept, fresh, up_to, Entry, Ty, Stmts, VarDecl, Func, Program}
use Rattle.vlt_core.specs.Core as core
use Rattle.vlt_meaning.specs.World as world
use Rattle.vlt_host_meaning.specs.Calls.{HostCall, object}
use Rattle.vlt_host_meaning.specs.HostRun.{HostOutcome, ended, bad_call}
use Rattle.vlt_host_meaning.specs.Samples.Told.{◌▹◌, ends_here, key, variable, function, call, Case}

--
--   stateset level { low < mid < high }
--   struct cpu @ level { int n; }
--   tracked(D) cpu boot() [new D@low] {
--       tracked(K) cpu c = new cpu { n: 0 };
--       return c;
--   }
--   void raise(tracked(K) cpu c) [K@low->mid] {
--       become c@mid;
--   }
--   void top(tracked(K) cpu c) [K@mid->high] {
--       become c@high;
--   }
--   int count(tracked(K) cpu c) [K@(s <= mid)] {
--       c.n = c.n + 1;
--       return c.n;
--   }
--   void twice(tracked(K) cpu c) [K@(s <= mid)] {
--       int n = count(c);
--       n = count(c);
--   }
--   void main() {}
--
-- and one that isn't accepted, since it doesn't always leave the object in the state that it had:
--
--   void lift(tracked(K) cpu c) [K@(s <= mid)] {
--       become c@mid;
--   }
abbrev only : ℕ → States
only n s = s == n

abbrev kept_from : (before after : ℕ) → Entry
kept_from before after = record { mode = kept; key = 0; before = Some (only before); after = Some (only after) }

abbrev kept_up_to_mid : Entry
kept_up_to_mid = record { mode = up_to 1; key = 0; before = None; after = None }

abbrev cpu : (key : ℕ) → VarDecl
cpu k = variable (tracked k 0 [])

abbrev boot : Func
boot =
    function (codes "boot") (Some (tracked 0 0 [])) 0
    (record { mode = fresh; key = 0; before = None; after = Some (only 0) } ∷ []) (key ∷ key ∷ []) (cpu 1 ∷ [])
    (simple (make 0 (pure (number (pos 0)) ∷ [])) ▹ return (Some (pure (var 0))) ▹ done)

abbrev on_cpu : Name → (result : Option Ty) → Entry → (more : List VarDecl) → Stmts → Func
on_cpu name result e more body = function name result 1 (e ∷ []) (key ∷ []) (cpu 0 ∷ more) body

abbrev count : Func
count =
    on_cpu (codes "count") (Some int) kept_up_to_mid []
    (simple (put 0 0 (binary Add (field 0 0) (number (pos 1)))) ▹ return (Some (pure (field 0 0))) ▹ done)

abbrev twice : Func
twice =
    on_cpu (codes "twice") None kept_up_to_mid (variable int ∷ [])
    (core.call 3 (Some 1) (0 ∷ []) (pure (var 0) ∷ []) ▹ core.call 3 (Some 1) (0 ∷ []) (pure (var 0) ∷ []) ▹ ends_here)

abbrev pub program : Program
program = record {
  sets = record {
    name = codes "level";
    states = codes "low" ∷ codes "mid" ∷ codes "high" ∷ [];
    links = record { lower = 0; upper = 1 } ∷ record { lower = 1; upper = 2 } ∷ [];
  } ∷ [];
  types = a_struct (record {
    name = codes "cpu";
    header = [];
    set = Some 0;
    release = λ s. nat_lt s 3;
    fields = record { name = codes "n"; ty = int; states = λ s. nat_lt s 3 } ∷ [];
  }) ∷ [];
  fns =
      boot ∷
      on_cpu (codes "raise") None (kept_from 0 1) [] (simple (become 0 1) ▹ ends_here) ∷
      on_cpu (codes "top") None (kept_from 1 2) [] (simple (become 0 2) ▹ ends_here) ∷
      count ∷
      twice ∷
      on_cpu (codes "lift") None kept_up_to_mid [] (simple (become 0 1) ▹ ends_here) ∷
      function (codes "main") None 0 [] [] [] ends_here ∷ [];
  main = 6;
}

abbrev case : List HostCall → HostOutcome → (text : List ℕ) → (fuel : ℕ) → Case
case calls outcome text fuel = record {
  calls = call (codes "boot") [] ∷ calls;
  fuel = 100;
  told = record { outcome = outcome; text = text; fuel = fuel };
}

abbrev on_first : Name → HostCall
on_first name = call name (object 0 ∷ [])

abbrev pub runs : List Case
runs =
    -- the object keeps whichever state it has
    case (on_first (codes "count") ∷ []) (ended world.done) (codes "!boot\n= #1\n!count #1\n= 1\nheld #1@low\n") 98 ∷
    case (on_first (codes "raise") ∷ on_first (codes "count") ∷ []) (ended world.done)
    (codes "!boot\n= #1\n!raise #1\n!count #1\n= 1\nheld #1@mid\n") 97 ∷
    -- a state above the bound isn't permitted
    case (on_first (codes "raise") ∷ on_first (codes "top") ∷ on_first (codes "count") ∷ []) (bad_call 4)
    (codes "!boot\n= #1\n!raise #1\n!top #1\n") 97 ∷
    -- such a function calls another one
    case (on_first (codes "raise") ∷ on_first (codes "twice") ∷ on_first (codes "count") ∷ []) (ended world.done)
    (codes "!boot\n= #1\n!raise #1\n!twice #1\n!count #1\n= 3\nheld #1@mid\n") 94 ∷
    -- the body is that of the instance for the state that the object had, so another state is a fault at its end
    case (on_first (codes "lift") ∷ []) (ended (world.fault world.wrong_state (Some 0))) (codes "!boot\n= #1\n!lift #1\n") 98 ∷
    case (on_first (codes "raise") ∷ on_first (codes "lift") ∷ []) (ended world.done)
    (codes "!boot\n= #1\n!raise #1\n!lift #1\nheld #1@mid\n") 97 ∷ []
