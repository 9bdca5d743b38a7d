-- Sockets: externals that give and take keys, and a variant whose cases have a key.
use Rattle.std.specs.Prelude.{pos, true, false, List, [], ◌∷◌, Some, None, codes}
use Rattle.vlt_core.specs.Core.{int, tracked, owning_variant, an_abstract, a_variant, number, var, pure, print, simple, call, switch, return, block, done, no_arms, arm, kept, taken, fresh, Program}
use Rattle.vlt_meaning.specs.World as world
use Rattle.vlt_meaning_samples.specs.Told.{in_set, ◌▹◌, a_key_of, a_var_of, Case, defaults, ran_print, ran_call}

-- A socket is bound, or not; either way it is closed.
--   stateset conn { raw, named, listening, ready }
--   abstract sock @ conn;
--   variant status<K:sock> { 'Ok {K@named}, 'Error(int) {K@raw} }
--   extern tracked(K) sock socket() [new K@raw];
--   extern tracked status<K> bind(tracked(K) sock s, int port) [-K@raw];
--   extern void listen(tracked(K) sock s, int backlog) [K@named->listening];
--   extern void close(tracked(K) sock s) [-K];
--   void main() {
--       tracked(S) sock s = socket();
--       tracked status<S> r = bind(s, 80);
--       switch (r) {
--           case 'Ok: {
--               listen(s, 5);
--           }
--           case 'Error(code): {
--               print(code);
--           }
--       }
--       close(s);
--   }
abbrev pub program : Program
program = record {
  sets =
      (record {
        name = (codes "conn");
        states = ((codes "raw") ∷ (codes "named") ∷ (codes "listening") ∷
            (codes "ready") ∷ []);
        links = [];
      } ∷ []);
  types =
      an_abstract (codes "sock") (Some 0) ∷
      a_variant
      (record {
        name = (codes "status");
        header = ((Some 0) ∷ []);
        cases = (record {
          name = (codes "Ok");
          payload = [];
          keys = (record { position = 0; states = (in_set (1 ∷ [])) } ∷ []);
        } ∷
            record {
              name = (codes "Error");
              payload = (int ∷ []);
              keys = (record {
                position = 0;
                states = (in_set (0 ∷ []));
              } ∷ []);
            } ∷ []);
      }) ∷ [];
  fns =
      record {
        name = (codes "socket");
        external = true;
        result = (Some (tracked 0 0 []));
        params = 0;
        end = 0;
        clause = (record { mode = fresh; key = 0; before = None; after = (Some (in_set (0 ∷ []))) } ∷ []);
        keys = (a_key_of (Some 0) ∷ []);
        vars = [];
        body =
            done;
      } ∷
      record {
        name = (codes "bind");
        external = true;
        result = (Some (owning_variant 1 (0 ∷ [])));
        params = 2;
        end = 0;
        clause = (record { mode = taken; key = 0; before = (Some (in_set (0 ∷ []))); after = None } ∷ []);
        keys = (a_key_of (Some 0) ∷ []);
        vars = (a_var_of (tracked 0 0 []) ∷ a_var_of int ∷ []);
        body =
            done;
      } ∷
      record {
        name = (codes "listen");
        external = true;
        result = None;
        params = 2;
        end = 0;
        clause =
            (record {
              mode = kept;
              key = 0;
              before = (Some (in_set (1 ∷ [])));
              after = (Some (in_set (2 ∷
                  [])));
            } ∷ []);
        keys = (a_key_of (Some 0) ∷ []);
        vars = (a_var_of (tracked 0 0 []) ∷ a_var_of int ∷ []);
        body =
            done;
      } ∷
      record {
        name = (codes "close");
        external = true;
        result = None;
        params = 1;
        end = 0;
        clause = (record { mode = taken; key = 0; before = None; after = None } ∷ []);
        keys = (a_key_of (Some 0) ∷ []);
        vars = (a_var_of (tracked 0 0 []) ∷ []);
        body =
            done;
      } ∷
      record {
        name = (codes "main");
        external = false;
        result = None;
        params = 0;
        end = 0;
        clause = [];
        keys = (a_key_of (Some 0) ∷ []);
        vars = (a_var_of (tracked 0 0 []) ∷ a_var_of (owning_variant 1 (0 ∷ [])) ∷ a_var_of int ∷ []);
        body =
            call 0 (Some 0) (0 ∷ []) [] ▹
            call 1 (Some 1) (0 ∷ []) ((pure (var 0)) ∷ (pure (number (pos 80))) ∷ []) ▹
            switch 1
            (arm 0 [] (block (
            call 2 None (0 ∷ []) ((pure (var 0)) ∷ (pure (number (pos 5))) ∷ []) ▹
            done) [] 0)
            (arm 1 (2 ∷ []) (block (
            simple (print (var 2)) ▹
            done) [] 0) no_arms)) 0 ▹
            call 3 None (0 ∷ []) ((pure (var 0)) ∷ []) ▹
            return None ▹
            done;
      } ∷ [];
  main = 4;
}

abbrev pub runs : List Case
runs =
    record {
      budgets = defaults;
      input = [];
      answers = ([] ∷ ((pos 0) ∷ []) ∷ [] ∷ [] ∷ []);
      told = record {
        outcome = world.done;
        fuel = 999996;
        events =
            ((ran_call (codes "socket") []) ∷ (ran_call (codes "bind") ((world.reference 0) ∷
            (world.number (pos 80)) ∷ [])) ∷ (ran_call (codes "listen") ((world.reference 0) ∷
            (world.number (pos 5)) ∷ [])) ∷ (ran_call (codes "close") ((world.reference 0) ∷ [])) ∷ []);
      };
    } ∷
    record {
      budgets = defaults;
      input = [];
      answers = ([] ∷ ((pos 1) ∷ (pos 98) ∷ []) ∷ [] ∷ []);
      told = record {
        outcome = world.done;
        fuel = 999997;
        events =
            ((ran_call (codes "socket") []) ∷ (ran_call (codes "bind") ((world.reference 0) ∷
            (world.number (pos 80)) ∷ [])) ∷ (ran_print (pos 98)) ∷
            (ran_call (codes "close") ((world.reference 0) ∷ [])) ∷ []);
      };
    } ∷
    record {
      budgets = defaults;
      input = [];
      answers = ([] ∷ ((pos 2) ∷ []) ∷ []);
      told = record {
        outcome = (world.bad_answer 2);
        fuel = 999998;
        events =
            ((ran_call (codes "socket") []) ∷ (ran_call (codes "bind") ((world.reference 0) ∷
            (world.number (pos 80)) ∷ [])) ∷ []);
      };
    } ∷
    record {
      budgets = defaults;
      input = [];
      answers = ([] ∷ []);
      told = record {
        outcome = world.answers_end;
        fuel = 999998;
        events =
            ((ran_call (codes "socket") []) ∷ (ran_call (codes "bind") ((world.reference 0) ∷
            (world.number (pos 80)) ∷ [])) ∷ []);
      };
    } ∷ []
