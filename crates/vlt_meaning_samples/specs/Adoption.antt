-- Adoption, guarded references, and a focus.
use Rattle.std.specs.Prelude.{pos, false, List, [], ◌∷◌, Some, None, codes}
use Rattle.vlt_ops.specs.declared.Op.TheVariants as op
use Rattle.vlt_core.specs.Core.{int, tracked, guarded, a_struct, number, var, field, binary, pure, set, print, put, make, become, release, adopt, simple, focus, return, block, done, Program}
use Rattle.vlt_meaning.specs.World as world
use Rattle.vlt_meaning_samples.specs.Told.{in_set, ◌▹◌, a_key_of, a_var_of, Case, defaults, ran_print}

-- Two references to an object that a region adopted.
--   struct region {}
--   struct node { int v; }
--   void main() {
--       tracked(R) region r = new region {};
--       tracked(N) node n = new node { v: 1 };
--       R:node a = adopt n into r;
--       R:node b = a;
--       a.v = 2;
--       b.v = b.v + 3;
--       print(a.v);
--       release r;
--   }
abbrev pub program : Program
program = record {
  sets = [];
  types =
      a_struct (record {
        name = (codes "region");
        header = [];
        set = None;
        release = (in_set (0 ∷ []));
        fields = [];
      }) ∷
      a_struct
      (record {
        name = (codes "node");
        header = [];
        set = None;
        release = (in_set (0 ∷ []));
        fields = (record { name = (codes "v"); ty = int; states = (in_set (0 ∷ [])) } ∷ []);
      }) ∷ [];
  fns =
      record {
        name = (codes "main");
        external = false;
        result = None;
        params = 0;
        end = 0;
        clause = [];
        keys = (a_key_of (Some 0) ∷ a_key_of (Some 1) ∷ []);
        vars =
            (a_var_of (tracked 0 0 []) ∷ a_var_of (tracked 1 1 []) ∷ a_var_of (guarded 0 1 []) ∷
            a_var_of (guarded 0 1 []) ∷ []);
        body =
            simple (make 0 []) ▹
            simple (make 1 ((pure (number (pos 1))) ∷ [])) ▹
            simple (adopt 2 1 0) ▹
            simple (set 3 (var 2)) ▹
            simple (put 2 0 (number (pos 2))) ▹
            simple (put 3 0 (binary op.Add (field 3 0) (number (pos 3)))) ▹
            simple (print (field 2 0)) ▹
            simple (release 0) ▹
            return None ▹
            done;
      } ∷ [];
  main = 0;
}

abbrev pub runs : List Case
runs =
    record {
      budgets = defaults;
      input = [];
      answers = [];
      told = record {
        outcome = world.done;
        fuel = 1000000;
        events =
            ((ran_print (pos 5)) ∷ []);
      };
    } ∷
    record {
      budgets = (record { fuel = 1000000; heap = 2; depth = 1000 });
      input = [];
      answers = [];
      told = record {
        outcome = world.done;
        fuel = 1000000;
        events =
            ((ran_print (pos 5)) ∷ []);
      };
    } ∷
    record {
      budgets = (record { fuel = 1000000; heap = 1; depth = 1000 });
      input = [];
      answers = [];
      told = record {
        outcome = world.heap_end;
        fuel = 1000000;
        events =
            [];
      };
    } ∷ []

-- A focus, after which the guard is held again.
--   struct region {}
--   struct node { int v; }
--   void main() {
--       tracked(R) region r = new region {};
--       R:node a = new(r) node { v: 1 };
--       R:node b = a;
--       focus a as tracked(F) z {
--           z.v = 2;
--       }
--           print(b.v);
--       release r;
--   }
abbrev pub program_focus : Program
program_focus = record {
  sets = [];
  types =
      a_struct (record {
        name = (codes "region");
        header = [];
        set = None;
        release = (in_set (0 ∷ []));
        fields = [];
      }) ∷
      a_struct
      (record {
        name = (codes "node");
        header = [];
        set = None;
        release = (in_set (0 ∷ []));
        fields = (record { name = (codes "v"); ty = int; states = (in_set (0 ∷ [])) } ∷ []);
      }) ∷ [];
  fns =
      record {
        name = (codes "main");
        external = false;
        result = None;
        params = 0;
        end = 0;
        clause = [];
        keys = (a_key_of (Some 0) ∷ a_key_of (Some 1) ∷ a_key_of (Some 1) ∷ []);
        vars =
            (a_var_of (tracked 0 0 []) ∷ a_var_of (tracked 1 1 []) ∷ a_var_of (guarded 0 1 []) ∷
            a_var_of (guarded 0 1 []) ∷ a_var_of (tracked 2 1 []) ∷ []);
        body =
            simple (make 0 []) ▹
            simple (make 1 ((pure (number (pos 1))) ∷ [])) ▹
            simple (adopt 2 1 0) ▹
            simple (set 3 (var 2)) ▹
            focus 2 4 (block (
            simple (put 4 0 (number (pos 2))) ▹
            done) [] 0) ▹
            simple (print (field 3 0)) ▹
            simple (release 0) ▹
            return None ▹
            done;
      } ∷ [];
  main = 0;
}

abbrev pub runs_focus : List Case
runs_focus =
    record {
      budgets = defaults;
      input = [];
      answers = [];
      told = record {
        outcome = world.done;
        fuel = 1000000;
        events =
            ((ran_print (pos 2)) ∷ []);
      };
    } ∷ []

-- An object that comes back in a state of its release set.
--   stateset ab { a, b }
--   struct region {}
--   struct node @ ab { int v @ a; release a; }
--   void main() {
--       tracked(R) region r = new region {};
--       R:node n = new(r) node { v: 1 };
--       focus n as tracked(F) z {
--           become z@b;
--           become z@a;
--       }
--       print(n.v);
--       release r;
--   }
abbrev pub program_states : Program
program_states = record {
  sets = (record { name = (codes "ab"); states = ((codes "a") ∷ (codes "b") ∷ []); links = [] } ∷ []);
  types =
      a_struct (record {
        name = (codes "region");
        header = [];
        set = None;
        release = (in_set (0 ∷ []));
        fields = [];
      }) ∷
      a_struct
      (record {
        name = (codes "node");
        header = [];
        set = (Some 0);
        release = (in_set (0 ∷ []));
        fields = (record { name = (codes "v"); ty = int; states = (in_set (0 ∷ [])) } ∷ []);
      }) ∷ [];
  fns =
      record {
        name = (codes "main");
        external = false;
        result = None;
        params = 0;
        end = 0;
        clause = [];
        keys = (a_key_of (Some 0) ∷ a_key_of (Some 1) ∷ a_key_of (Some 1) ∷ []);
        vars =
            (a_var_of (tracked 0 0 []) ∷ a_var_of (tracked 1 1 []) ∷ a_var_of (guarded 0 1 []) ∷
            a_var_of (tracked 2 1 []) ∷ []);
        body =
            simple (make 0 []) ▹
            simple (make 1 ((pure (number (pos 1))) ∷ [])) ▹
            simple (adopt 2 1 0) ▹
            focus 2 3 (block (
            simple (become 3 1) ▹
            simple (become 3 0) ▹
            done) [] 0) ▹
            simple (print (field 2 0)) ▹
            simple (release 0) ▹
            return None ▹
            done;
      } ∷ [];
  main = 0;
}

abbrev pub runs_states : List Case
runs_states =
    record {
      budgets = defaults;
      input = [];
      answers = [];
      told = record {
        outcome = world.done;
        fuel = 1000000;
        events =
            ((ran_print (pos 1)) ∷ []);
      };
    } ∷ []
