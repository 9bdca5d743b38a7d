-- Requests: owning variants from a host, moved into a function, and served by externals.
use Rattle.std.specs.Prelude.{pos, true, false, List, [], ◌∷◌, Some, None, codes}
use Rattle.vlt_ops.specs.declared.Op.TheVariants as op
use Rattle.vlt_core.specs.Core.{int, bool, tracked, owning, owning_variant, an_abstract, a_struct, a_variant, number, truth, var, field, binary, pure, move, a_var, set, print, put, make, release, unpack, simple, call, loop, switch, return, block, done, no_arms, arm, kept, taken, Program}
use Rattle.vlt_meaning.specs.World as world
use Rattle.vlt_meaning_samples.specs.Told.{in_set, ◌▹◌, a_key_of, a_var_of, Case, defaults, ran_print, ran_call}

--
--   stateset irp_st { pending, done }
--   abstract irp @ irp_st;
--   variant slot { 'None, 'Some(tracked@pending irp) }
--   extern tracked slot fetch();
--   extern int serve(tracked(K) irp r) [K@pending->done];
--   extern void complete(tracked(K) irp r, int code) [-K@done];
--   struct log { int count; }
--   void handle(tracked(L) log l, tracked@pending irp q) [L] {
--       tracked(Q) irp r = q;
--       int code = serve(r);
--       l.count = l.count + 1;
--       complete(r, code);
--   }
--   void main() {
--       tracked(L) log l = new log { count: 0 };
--       bool going = true;
--       while (going) {
--           tracked slot s = fetch();
--           switch (s) {
--               case 'None: {
--                   going = false;
--               }
--               case 'Some(q): {
--                   handle(l, q);
--               }
--           }
--       }
--       print(l.count);
--       release l;
--   }
abbrev pub program : Program
program = record {
  sets = (record { name = (codes "irp_st"); states = ((codes "pending") ∷ (codes "done") ∷ []); links = [] } ∷ []);
  types =
      an_abstract (codes "irp") (Some 0) ∷
      a_variant
      (record {
        name = (codes "slot");
        header = [];
        cases = (record {
          name = (codes "None");
          payload = [];
          keys = [];
        } ∷ record {
          name = (codes "Some");
          payload = ((owning (in_set (0 ∷ [])) 0 []) ∷ []);
          keys = [];
        } ∷ []);
      }) ∷
      a_struct
      (record {
        name = (codes "log");
        header = [];
        set = None;
        release = (in_set (0 ∷ []));
        fields = (record { name = (codes "count"); ty = int; states = (in_set (0 ∷ [])) } ∷ []);
      }) ∷ [];
  fns =
      record {
        name = (codes "fetch");
        external = true;
        result = (Some (owning_variant 1 []));
        params = 0;
        end = 0;
        clause = [];
        keys = [];
        vars = [];
        body =
            done;
      } ∷
      record {
        name = (codes "serve");
        external = true;
        result = (Some int);
        params = 1;
        end = 0;
        clause =
            (record {
              mode = kept;
              key = 0;
              before = (Some (in_set (0 ∷ [])));
              after = (Some (in_set (1 ∷
                  [])));
            } ∷ []);
        keys = (a_key_of (Some 0) ∷ []);
        vars = (a_var_of (tracked 0 0 []) ∷ []);
        body =
            done;
      } ∷
      record {
        name = (codes "complete");
        external = true;
        result = None;
        params = 2;
        end = 0;
        clause = (record { mode = taken; key = 0; before = (Some (in_set (1 ∷ []))); after = None } ∷ []);
        keys = (a_key_of (Some 0) ∷ []);
        vars = (a_var_of (tracked 0 0 []) ∷ a_var_of int ∷ []);
        body =
            done;
      } ∷
      record {
        name = (codes "handle");
        external = false;
        result = None;
        params = 2;
        end = 0;
        clause = (record { mode = kept; key = 0; before = None; after = None } ∷ []);
        keys = (a_key_of (Some 2) ∷ a_key_of (Some 0) ∷ []);
        vars =
            (a_var_of (tracked 0 2 []) ∷ a_var_of (owning (in_set (0 ∷ [])) 0 []) ∷ a_var_of (tracked 1 0 []) ∷
            a_var_of int ∷ []);
        body =
            simple (unpack 2 1) ▹
            call 1 (Some 3) (1 ∷ []) ((pure (var 2)) ∷ []) ▹
            simple (put 0 0 (binary op.Add (field 0 0) (number (pos 1)))) ▹
            call 2 None (1 ∷ []) ((pure (var 2)) ∷ (pure (var 3)) ∷ []) ▹
            return None ▹
            done;
      } ∷
      record {
        name = (codes "main");
        external = false;
        result = None;
        params = 0;
        end = 0;
        clause = [];
        keys = (a_key_of (Some 2) ∷ []);
        vars =
            (a_var_of (tracked 0 2 []) ∷ a_var_of bool ∷ a_var_of (owning_variant 1 []) ∷
            a_var_of (owning (in_set (0 ∷ [])) 0 []) ∷ []);
        body =
            simple (make 0 ((pure (number (pos 0))) ∷ [])) ▹
            simple (set 1 (truth true)) ▹
            loop (var 1) (block (
            call 0 (Some 2) [] [] ▹
            switch 2
            (arm 0 [] (block (
            simple (set 1 (truth false)) ▹
            done) [] 0)
            (arm 1 (3 ∷ []) (block (
            call 3 None (0 ∷ []) ((pure (var 0)) ∷ (move 3) ∷ []) ▹
            done) ((a_var 3) ∷ []) 0) no_arms)) 0 ▹
            done) ((a_var 2) ∷ []) 0) ▹
            simple (print (field 0 0)) ▹
            simple (release 0) ▹
            return None ▹
            done;
      } ∷ [];
  main = 4;
}

abbrev pub runs : List Case
runs =
    record {
      budgets = defaults;
      input = [];
      answers = (((pos 1) ∷ []) ∷ ((pos 7) ∷ []) ∷ [] ∷ ((pos 0) ∷ []) ∷ []);
      told = record {
        outcome = world.done;
        fuel = 999992;
        events =
            ((ran_call (codes "fetch") []) ∷ (ran_call (codes "serve") ((world.reference 1) ∷ [])) ∷
            (ran_call (codes "complete") ((world.reference 1) ∷ (world.number (pos 7)) ∷ [])) ∷
            (ran_call (codes "fetch") []) ∷ (ran_print (pos 1)) ∷ []);
      };
    } ∷
    record {
      budgets = (record { fuel = 8; heap = 65536; depth = 1000 });
      input = [];
      answers = (((pos 1) ∷ []) ∷ ((pos 7) ∷ []) ∷ [] ∷ ((pos 0) ∷ []) ∷ []);
      told = record {
        outcome = world.done;
        fuel = 0;
        events =
            ((ran_call (codes "fetch") []) ∷ (ran_call (codes "serve") ((world.reference 1) ∷ [])) ∷
            (ran_call (codes "complete") ((world.reference 1) ∷ (world.number (pos 7)) ∷ [])) ∷
            (ran_call (codes "fetch") []) ∷ (ran_print (pos 1)) ∷ []);
      };
    } ∷
    record {
      budgets = (record { fuel = 7; heap = 65536; depth = 1000 });
      input = [];
      answers = (((pos 1) ∷ []) ∷ ((pos 7) ∷ []) ∷ [] ∷ ((pos 0) ∷ []) ∷ []);
      told = record {
        outcome = world.fuel_end;
        fuel = 0;
        events =
            ((ran_call (codes "fetch") []) ∷ (ran_call (codes "serve") ((world.reference 1) ∷ [])) ∷
            (ran_call (codes "complete") ((world.reference 1) ∷ (world.number (pos 7)) ∷ [])) ∷
            (ran_call (codes "fetch") []) ∷ []);
      };
    } ∷ []
