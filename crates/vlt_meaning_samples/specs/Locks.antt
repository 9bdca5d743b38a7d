-- An object that a value keeps while its key is with the host.
use Rattle.std.specs.Prelude.{true, false, List, [], ◌∷◌, Some, None, codes}
use Rattle.vlt_core.specs.Core.{tracked, owning, an_abstract, var, pure, pack, own, unpack, simple, call, return, done, taken, given, fresh, Program}
use Rattle.vlt_meaning.specs.World as world
use Rattle.vlt_meaning_samples.specs.Told.{in_set, ◌▹◌, a_key_of, a_var_of, Case, defaults, ran_call}

--
--   abstract lock;
--   extern tracked(K) lock make() [new K];
--   extern void acquire(tracked(K) lock l) [+K];
--   extern void give(tracked(K) lock l) [-K];
--   void main() {
--       tracked(K) lock l = make();
--       tracked lock v = l;
--       acquire(l);
--       give(l);
--       tracked(J) lock m = v;
--       give(m);
--   }
abbrev pub program : Program
program = record {
  sets = [];
  types =
      an_abstract (codes "lock") None ∷ [];
  fns =
      record {
        name = (codes "make");
        external = true;
        result = (Some (tracked 0 0 []));
        params = 0;
        end = 0;
        clause = (record { mode = fresh; key = 0; before = None; after = None } ∷ []);
        keys = (a_key_of (Some 0) ∷ []);
        vars = [];
        body =
            done;
      } ∷
      record {
        name = (codes "acquire");
        external = true;
        result = None;
        params = 1;
        end = 0;
        clause = (record { mode = given; key = 0; before = None; after = None } ∷ []);
        keys = (a_key_of (Some 0) ∷ []);
        vars = (a_var_of (tracked 0 0 []) ∷ []);
        body =
            done;
      } ∷
      record {
        name = (codes "give");
        external = true;
        result = None;
        params = 1;
        end = 0;
        clause = (record { mode = taken; key = 0; before = None; after = None } ∷ []);
        keys = (a_key_of (Some 0) ∷ []);
        vars = (a_var_of (tracked 0 0 []) ∷ []);
        body =
            done;
      } ∷
      record {
        name = (codes "main");
        external = false;
        result = None;
        params = 0;
        end = 0;
        clause = [];
        keys = (a_key_of (Some 0) ∷ a_key_of (Some 0) ∷ []);
        vars = (a_var_of (tracked 0 0 []) ∷ a_var_of (owning (in_set (0 ∷ [])) 0 []) ∷
            a_var_of (tracked 1 0 []) ∷ []);
        body =
            call 0 (Some 0) (0 ∷ []) [] ▹
            simple (own 1 (pack 0 (in_set (0 ∷ [])))) ▹
            call 1 None (0 ∷ []) ((pure (var 0)) ∷ []) ▹
            call 2 None (0 ∷ []) ((pure (var 0)) ∷ []) ▹
            simple (unpack 2 1) ▹
            call 2 None (1 ∷ []) ((pure (var 2)) ∷ []) ▹
            return None ▹
            done;
      } ∷ [];
  main = 3;
}

abbrev pub runs : List Case
runs =
    record {
      budgets = defaults;
      input = [];
      answers = ([] ∷ [] ∷ [] ∷ [] ∷ [] ∷ []);
      told = record {
        outcome = (world.bad_answer 2);
        fuel = 999998;
        events =
            ((ran_call (codes "make") []) ∷ (ran_call (codes "acquire") ((world.reference 0) ∷ [])) ∷ []);
      };
    } ∷ []
