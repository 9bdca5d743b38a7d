-- Owning fields: a list in a node that a region adopted.
use Rattle.std.specs.Prelude.{pos, false, List, [], ◌∷◌, Some, None, codes}
use Rattle.vlt_core.specs.Core.{int, tracked, owning, guarded, owning_variant, a_struct, a_variant, number, pure, move, pack, a_var, print, make, release, drop, own, build, swap, adopt, simple, switch, focus, return, block, done, no_arms, arm, Program}
use Rattle.vlt_meaning.specs.World as world
use Rattle.vlt_meaning_samples.specs.Told.{in_set, ◌▹◌, a_key_of, a_var_of, Case, ran_print}

--
--   struct region {}
--   struct item { int v; tracked list next; }
--   variant list { 'Nil, 'Cons(tracked item) }
--   struct node { tracked list items; }
--   void main() {
--       tracked(R) region r = new region {};
--       tracked list e = 'Nil;
--       R:node n = new(r) node { items: e };
--       tracked list f = 'Nil;
--       tracked item i = new item { v: 7, next: f };
--       tracked list g = 'Cons(i);
--       focus n as tracked(F) z {
--           swap z.items, g;
--       }
--       switch (g) {
--           case 'Nil: {
--               print(0);
--           }
--           case 'Cons(k): {
--               print(1);
--               release k;
--           }
--       }
--       release r;
--   }
abbrev pub program : Program
program = record {
  sets = [];
  types =
      a_struct (record {
        name = (codes "region");
        header = [];
        set = None;
        release = (in_set (0 ∷ []));
        fields = [];
      }) ∷
      a_struct
      (record {
        name = (codes "item");
        header = [];
        set = None;
        release = (in_set (0 ∷ []));
        fields = (record { name = (codes "v"); ty = int; states = (in_set (0 ∷ [])) } ∷
            record { name = (codes "next"); ty = (owning_variant 2 []); states = (in_set (0 ∷ [])) } ∷ []);
      }) ∷
      a_variant
      (record {
        name = (codes "list");
        header = [];
        cases = (record {
          name = (codes "Nil");
          payload = [];
          keys = [];
        } ∷ record {
          name = (codes "Cons");
          payload = ((owning (in_set (0 ∷ [])) 1 []) ∷ []);
          keys = [];
        } ∷ []);
      }) ∷
      a_struct
      (record {
        name = (codes "node");
        header = [];
        set = None;
        release = (in_set (0 ∷ []));
        fields = (record { name = (codes "items"); ty = (owning_variant 2 []); states = (in_set (0 ∷ [])) } ∷
            []);
      }) ∷ [];
  fns =
      record {
        name = (codes "main");
        external = false;
        result = None;
        params = 0;
        end = 0;
        clause = [];
        keys = (a_key_of (Some 0) ∷ a_key_of (Some 3) ∷ a_key_of (Some 1) ∷ a_key_of (Some 3) ∷ []);
        vars =
            (a_var_of (tracked 0 0 []) ∷ a_var_of (owning_variant 2 []) ∷ a_var_of (tracked 1 3 []) ∷
            a_var_of (guarded 0 3 []) ∷ a_var_of (owning_variant 2 []) ∷ a_var_of (tracked 2 1 []) ∷
            a_var_of (owning (in_set (0 ∷ [])) 1 []) ∷ a_var_of (owning_variant 2 []) ∷
            a_var_of (tracked 3 3 []) ∷ a_var_of (owning (in_set (0 ∷ [])) 1 []) ∷ []);
        body =
            simple (make 0 []) ▹
            simple (build 1 0 []) ▹
            simple (make 2 ((move 1) ∷ [])) ▹
            simple (adopt 3 2 0) ▹
            simple (build 4 0 []) ▹
            simple (make 5 ((pure (number (pos 7))) ∷ (move 4) ∷ [])) ▹
            simple (own 6 (pack 5 (in_set (0 ∷ [])))) ▹
            simple (build 7 1 ((move 6) ∷ [])) ▹
            focus 3 8 (block (
            simple (swap 8 0 7) ▹
            done) [] 0) ▹
            switch 7
            (arm 0 [] (block (
            simple (print (number (pos 0))) ▹
            done) [] 0)
            (arm 1 (9 ∷ []) (block (
            simple (print (number (pos 1))) ▹
            simple (drop 9) ▹
            done) ((a_var 9) ∷ []) 0) no_arms)) 0 ▹
            simple (release 0) ▹
            return None ▹
            done;
      } ∷ [];
  main = 0;
}

abbrev pub runs : List Case
runs =
    record {
      budgets = (record { fuel = 1000000; heap = 3; depth = 1000 });
      input = [];
      answers = [];
      told = record {
        outcome = world.done;
        fuel = 1000000;
        events =
            ((ran_print (pos 0)) ∷ []);
      };
    } ∷
    record {
      budgets = (record { fuel = 1000000; heap = 2; depth = 1000 });
      input = [];
      answers = [];
      told = record {
        outcome = world.heap_end;
        fuel = 1000000;
        events =
            [];
      };
    } ∷ []
