-- Programs that break the rules on keys, and where their runs go wrong.
use Rattle.std.specs.Prelude.{pos, true, false, List, [], ◌∷◌, Some, None, codes}
use Rattle.vlt_ops.specs.declared.Op.TheVariants as op
use Rattle.vlt_core.specs.Core.{int, tracked, owning, guarded, owning_variant, an_abstract, a_struct, a_variant, number, var, field, binary, pure, move, pack, a_key, set, print, put, make, become, release, drop, own, adopt, simple, call, choose, loop, focus, return, block, done, kept, taken, fresh, Program}
use Rattle.vlt_meaning.specs.World as world
use Rattle.vlt_meaning_samples.specs.Told.{in_set, ◌▹◌, a_key_of, a_var_of, Case, defaults, ran_print, ran_call}

-- A released object is released again.
--   struct point { int x; int y; }
--   void main() {
--       tracked(K) point p = new point { x: 4, y: 2 };
--       print(p.x + p.y);
--       release p;
--       release p;
--   }
abbrev pub program_again : Program
program_again = record {
  sets = [];
  types =
      a_struct
      (record {
        name = (codes "point");
        header = [];
        set = None;
        release = (in_set (0 ∷ []));
        fields = (record { name = (codes "x"); ty = int; states = (in_set (0 ∷ [])) } ∷
            record { name = (codes "y"); ty = int; states = (in_set (0 ∷ [])) } ∷ []);
      }) ∷ [];
  fns =
      record {
        name = (codes "main");
        external = false;
        result = None;
        params = 0;
        end = 0;
        clause = [];
        keys = (a_key_of (Some 0) ∷ []);
        vars = (a_var_of (tracked 0 0 []) ∷ []);
        body =
            simple (make 0 ((pure (number (pos 4))) ∷ (pure (number (pos 2))) ∷ [])) ▹
            simple (print (binary op.Add (field 0 0) (field 0 1))) ▹
            simple (release 0) ▹
            simple (release 0) ▹
            return None ▹
            done;
      } ∷ [];
  main = 0;
}

abbrev pub runs_again : List Case
runs_again =
    record {
      budgets = defaults;
      input = [];
      answers = [];
      told = record {
        outcome = (world.fault world.not_held (Some 0));
        fuel = 1000000;
        events =
            ((ran_print (pos 6)) ∷ []);
      };
    } ∷ []

-- An object is left when main ends.
--   struct point { int x; int y; }
--   void main() {
--       tracked(K) point p = new point { x: 4, y: 2 };
--       print(p.x + p.y);
--   }
abbrev pub program_kept : Program
program_kept = record {
  sets = [];
  types =
      a_struct
      (record {
        name = (codes "point");
        header = [];
        set = None;
        release = (in_set (0 ∷ []));
        fields = (record { name = (codes "x"); ty = int; states = (in_set (0 ∷ [])) } ∷
            record { name = (codes "y"); ty = int; states = (in_set (0 ∷ [])) } ∷ []);
      }) ∷ [];
  fns =
      record {
        name = (codes "main");
        external = false;
        result = None;
        params = 0;
        end = 0;
        clause = [];
        keys = (a_key_of (Some 0) ∷ []);
        vars = (a_var_of (tracked 0 0 []) ∷ []);
        body =
            simple (make 0 ((pure (number (pos 4))) ∷ (pure (number (pos 2))) ∷ [])) ▹
            simple (print (binary op.Add (field 0 0) (field 0 1))) ▹
            return None ▹
            done;
      } ∷ [];
  main = 0;
}

abbrev pub runs_kept : List Case
runs_kept =
    record {
      budgets = defaults;
      input = [];
      answers = [];
      told = record {
        outcome = (world.fault world.left_behind None);
        fuel = 1000000;
        events =
            ((ran_print (pos 6)) ∷ []);
      };
    } ∷ []

-- An external takes a key in another state.
--   stateset conn { raw, named, listening, ready }
--   abstract sock @ conn;
--   variant status<K:sock> { 'Ok {K@named}, 'Error(int) {K@raw} }
--   extern tracked(K) sock socket() [new K@raw];
--   extern tracked status<K> bind(tracked(K) sock s, int port) [-K@raw];
--   extern void listen(tracked(K) sock s, int backlog) [K@named->listening];
--   extern void close(tracked(K) sock s) [-K];
--   void main() {
--       tracked(S) sock s = socket();
--       listen(s, 5);
--       close(s);
--   }
abbrev pub program_raw : Program
program_raw = record {
  sets =
      (record {
        name = (codes "conn");
        states = ((codes "raw") ∷ (codes "named") ∷ (codes "listening") ∷
            (codes "ready") ∷ []);
        links = [];
      } ∷ []);
  types =
      an_abstract (codes "sock") (Some 0) ∷
      a_variant
      (record {
        name = (codes "status");
        header = ((Some 0) ∷ []);
        cases = (record {
          name = (codes "Ok");
          payload = [];
          keys = (record { position = 0; states = (in_set (1 ∷ [])) } ∷ []);
        } ∷
            record {
              name = (codes "Error");
              payload = (int ∷ []);
              keys = (record {
                position = 0;
                states = (in_set (0 ∷ []));
              } ∷ []);
            } ∷ []);
      }) ∷ [];
  fns =
      record {
        name = (codes "socket");
        external = true;
        result = (Some (tracked 0 0 []));
        params = 0;
        end = 0;
        clause = (record { mode = fresh; key = 0; before = None; after = (Some (in_set (0 ∷ []))) } ∷ []);
        keys = (a_key_of (Some 0) ∷ []);
        vars = [];
        body =
            done;
      } ∷
      record {
        name = (codes "bind");
        external = true;
        result = (Some (owning_variant 1 (0 ∷ [])));
        params = 2;
        end = 0;
        clause = (record { mode = taken; key = 0; before = (Some (in_set (0 ∷ []))); after = None } ∷ []);
        keys = (a_key_of (Some 0) ∷ []);
        vars = (a_var_of (tracked 0 0 []) ∷ a_var_of int ∷ []);
        body =
            done;
      } ∷
      record {
        name = (codes "listen");
        external = true;
        result = None;
        params = 2;
        end = 0;
        clause =
            (record {
              mode = kept;
              key = 0;
              before = (Some (in_set (1 ∷ [])));
              after = (Some (in_set (2 ∷
                  [])));
            } ∷ []);
        keys = (a_key_of (Some 0) ∷ []);
        vars = (a_var_of (tracked 0 0 []) ∷ a_var_of int ∷ []);
        body =
            done;
      } ∷
      record {
        name = (codes "close");
        external = true;
        result = None;
        params = 1;
        end = 0;
        clause = (record { mode = taken; key = 0; before = None; after = None } ∷ []);
        keys = (a_key_of (Some 0) ∷ []);
        vars = (a_var_of (tracked 0 0 []) ∷ []);
        body =
            done;
      } ∷
      record {
        name = (codes "main");
        external = false;
        result = None;
        params = 0;
        end = 0;
        clause = [];
        keys = (a_key_of (Some 0) ∷ []);
        vars = (a_var_of (tracked 0 0 []) ∷ []);
        body =
            call 0 (Some 0) (0 ∷ []) [] ▹
            call 2 None (0 ∷ []) ((pure (var 0)) ∷ (pure (number (pos 5))) ∷ []) ▹
            call 3 None (0 ∷ []) ((pure (var 0)) ∷ []) ▹
            return None ▹
            done;
      } ∷ [];
  main = 4;
}

abbrev pub runs_raw : List Case
runs_raw =
    record {
      budgets = defaults;
      input = [];
      answers = ([] ∷ [] ∷ [] ∷ []);
      told = record {
        outcome = (world.fault world.wrong_state (Some 0));
        fuel = 999998;
        events =
            ((ran_call (codes "socket") []) ∷ []);
      };
    } ∷ []

-- A field is read in a state that does not permit it.
--   stateset ab { a, b }
--   struct cell @ ab { int v; int w @ a; }
--   void main() {
--       tracked(K) cell c = new cell { v: 0, w: 0 };
--       while (c.v < 3) {
--           c.v = c.w + 1;
--           become c@b;
--       }
--       release c;
--   }
abbrev pub program_field : Program
program_field = record {
  sets = (record { name = (codes "ab"); states = ((codes "a") ∷ (codes "b") ∷ []); links = [] } ∷ []);
  types =
      a_struct
      (record {
        name = (codes "cell");
        header = [];
        set = (Some 0);
        release = (in_set (0 ∷ 1 ∷ []));
        fields = (record { name = (codes "v"); ty = int; states = (in_set (0 ∷ 1 ∷ [])) } ∷
            record { name = (codes "w"); ty = int; states = (in_set (0 ∷ [])) } ∷ []);
      }) ∷ [];
  fns =
      record {
        name = (codes "main");
        external = false;
        result = None;
        params = 0;
        end = 0;
        clause = [];
        keys = (a_key_of (Some 0) ∷ []);
        vars = (a_var_of (tracked 0 0 []) ∷ []);
        body =
            simple (make 0 ((pure (number (pos 0))) ∷ (pure (number (pos 0))) ∷ [])) ▹
            loop (binary op.Less (field 0 0) (number (pos 3))) (block (
            simple (put 0 0 (binary op.Add (field 0 1) (number (pos 1)))) ▹
            simple (become 0 1) ▹
            done) [] 0) ▹
            simple (release 0) ▹
            return None ▹
            done;
      } ∷ [];
  main = 0;
}

abbrev pub runs_field : List Case
runs_field =
    record {
      budgets = defaults;
      input = [];
      answers = [];
      told = record {
        outcome = (world.fault world.wrong_state (Some 0));
        fuel = 999998;
        events =
            [];
      };
    } ∷ []

-- A turn of a loop leaves its object after.
--   struct point { int x; int y; }
--   void main() {
--       int i = 0;
--       while (i < 2) {
--           tracked(K) point p = new point { x: i, y: 0 };
--           i = i + 1;
--       }
--   }
abbrev pub program_turn : Program
program_turn = record {
  sets = [];
  types =
      a_struct
      (record {
        name = (codes "point");
        header = [];
        set = None;
        release = (in_set (0 ∷ []));
        fields = (record { name = (codes "x"); ty = int; states = (in_set (0 ∷ [])) } ∷
            record { name = (codes "y"); ty = int; states = (in_set (0 ∷ [])) } ∷ []);
      }) ∷ [];
  fns =
      record {
        name = (codes "main");
        external = false;
        result = None;
        params = 0;
        end = 0;
        clause = [];
        keys = (a_key_of (Some 0) ∷ []);
        vars = (a_var_of int ∷ a_var_of (tracked 0 0 []) ∷ []);
        body =
            simple (set 0 (number (pos 0))) ▹
            loop (binary op.Less (var 0) (number (pos 2))) (block (
            simple (make 1 ((pure (var 0)) ∷ (pure (number (pos 0))) ∷ [])) ▹
            simple (set 0 (binary op.Add (var 0) (number (pos 1)))) ▹
            done) ((a_key 0) ∷ []) 0) ▹
            return None ▹
            done;
      } ∷ [];
  main = 0;
}

abbrev pub runs_turn : List Case
runs_turn =
    record {
      budgets = defaults;
      input = [];
      answers = [];
      told = record {
        outcome = (world.fault world.left_behind None);
        fuel = 999999;
        events =
            [];
      };
    } ∷ []

-- An object is read whose guard was released.
--   struct region {}
--   struct node { int v; }
--   void main() {
--       tracked(R) region r = new region {};
--       tracked(N) node n = new node { v: 1 };
--       R:node a = adopt n into r;
--       R:node b = a;
--       a.v = 2;
--       b.v = b.v + 3;
--       print(a.v);
--       release r;
--       print(a.v);
--   }
abbrev pub program_stale : Program
program_stale = record {
  sets = [];
  types =
      a_struct (record {
        name = (codes "region");
        header = [];
        set = None;
        release = (in_set (0 ∷ []));
        fields = [];
      }) ∷
      a_struct
      (record {
        name = (codes "node");
        header = [];
        set = None;
        release = (in_set (0 ∷ []));
        fields = (record { name = (codes "v"); ty = int; states = (in_set (0 ∷ [])) } ∷ []);
      }) ∷ [];
  fns =
      record {
        name = (codes "main");
        external = false;
        result = None;
        params = 0;
        end = 0;
        clause = [];
        keys = (a_key_of (Some 0) ∷ a_key_of (Some 1) ∷ []);
        vars =
            (a_var_of (tracked 0 0 []) ∷ a_var_of (tracked 1 1 []) ∷ a_var_of (guarded 0 1 []) ∷
            a_var_of (guarded 0 1 []) ∷ []);
        body =
            simple (make 0 []) ▹
            simple (make 1 ((pure (number (pos 1))) ∷ [])) ▹
            simple (adopt 2 1 0) ▹
            simple (set 3 (var 2)) ▹
            simple (put 2 0 (number (pos 2))) ▹
            simple (put 3 0 (binary op.Add (field 3 0) (number (pos 3)))) ▹
            simple (print (field 2 0)) ▹
            simple (release 0) ▹
            simple (print (field 2 0)) ▹
            return None ▹
            done;
      } ∷ [];
  main = 0;
}

abbrev pub runs_stale : List Case
runs_stale =
    record {
      budgets = defaults;
      input = [];
      answers = [];
      told = record {
        outcome = (world.fault world.not_held (Some 0));
        fuel = 1000000;
        events =
            ((ran_print (pos 5)) ∷ []);
      };
    } ∷ []

-- A guard is used within a focus on it.
--   struct region {}
--   struct node { int v; }
--   void main() {
--       tracked(R) region r = new region {};
--       R:node a = new(r) node { v: 1 };
--       R:node b = a;
--       focus a as tracked(F) z {
--           z.v = 2;
--           print(b.v);
--       }
--       release r;
--   }
abbrev pub program_lent : Program
program_lent = record {
  sets = [];
  types =
      a_struct (record {
        name = (codes "region");
        header = [];
        set = None;
        release = (in_set (0 ∷ []));
        fields = [];
      }) ∷
      a_struct
      (record {
        name = (codes "node");
        header = [];
        set = None;
        release = (in_set (0 ∷ []));
        fields = (record { name = (codes "v"); ty = int; states = (in_set (0 ∷ [])) } ∷ []);
      }) ∷ [];
  fns =
      record {
        name = (codes "main");
        external = false;
        result = None;
        params = 0;
        end = 0;
        clause = [];
        keys = (a_key_of (Some 0) ∷ a_key_of (Some 1) ∷ a_key_of (Some 1) ∷ []);
        vars =
            (a_var_of (tracked 0 0 []) ∷ a_var_of (tracked 1 1 []) ∷ a_var_of (guarded 0 1 []) ∷
            a_var_of (guarded 0 1 []) ∷ a_var_of (tracked 2 1 []) ∷ []);
        body =
            simple (make 0 []) ▹
            simple (make 1 ((pure (number (pos 1))) ∷ [])) ▹
            simple (adopt 2 1 0) ▹
            simple (set 3 (var 2)) ▹
            focus 2 4 (block (
            simple (put 4 0 (number (pos 2))) ▹
            simple (print (field 3 0)) ▹
            done) [] 0) ▹
            simple (release 0) ▹
            return None ▹
            done;
      } ∷ [];
  main = 0;
}

abbrev pub runs_lent : List Case
runs_lent =
    record {
      budgets = defaults;
      input = [];
      answers = [];
      told = record {
        outcome = (world.fault world.not_held (Some 0));
        fuel = 1000000;
        events =
            [];
      };
    } ∷ []

-- A focus ends in a state outside the release set.
--   stateset ab { a, b }
--   struct region {}
--   struct node @ ab { int v @ a; release a; }
--   void main() {
--       tracked(R) region r = new region {};
--       R:node n = new(r) node { v: 1 };
--       focus n as tracked(F) z {
--           become z@b;
--       }
--       print(n.v);
--       release r;
--   }
abbrev pub program_unfocused : Program
program_unfocused = record {
  sets = (record { name = (codes "ab"); states = ((codes "a") ∷ (codes "b") ∷ []); links = [] } ∷ []);
  types =
      a_struct (record {
        name = (codes "region");
        header = [];
        set = None;
        release = (in_set (0 ∷ []));
        fields = [];
      }) ∷
      a_struct
      (record {
        name = (codes "node");
        header = [];
        set = (Some 0);
        release = (in_set (0 ∷ []));
        fields = (record { name = (codes "v"); ty = int; states = (in_set (0 ∷ [])) } ∷ []);
      }) ∷ [];
  fns =
      record {
        name = (codes "main");
        external = false;
        result = None;
        params = 0;
        end = 0;
        clause = [];
        keys = (a_key_of (Some 0) ∷ a_key_of (Some 1) ∷ a_key_of (Some 1) ∷ []);
        vars =
            (a_var_of (tracked 0 0 []) ∷ a_var_of (tracked 1 1 []) ∷ a_var_of (guarded 0 1 []) ∷
            a_var_of (tracked 2 1 []) ∷ []);
        body =
            simple (make 0 []) ▹
            simple (make 1 ((pure (number (pos 1))) ∷ [])) ▹
            simple (adopt 2 1 0) ▹
            focus 2 3 (block (
            simple (become 3 1) ▹
            done) [] 0) ▹
            simple (print (field 2 0)) ▹
            simple (release 0) ▹
            return None ▹
            done;
      } ∷ [];
  main = 0;
}

abbrev pub runs_unfocused : List Case
runs_unfocused =
    record {
      budgets = defaults;
      input = [];
      answers = [];
      told = record {
        outcome = (world.fault world.wrong_state (Some 1));
        fuel = 1000000;
        events =
            [];
      };
    } ∷ []

-- An object adopts itself.
--   struct region {}
--   void main() {
--       tracked(R) region r = new region {};
--       R:region a = adopt r into r;
--       release r;
--   }
abbrev pub program_itself : Program
program_itself = record {
  sets = [];
  types =
      a_struct
      (record {
        name = (codes "region");
        header = [];
        set = None;
        release = (in_set (0 ∷ []));
        fields = [];
      }) ∷ [];
  fns =
      record {
        name = (codes "main");
        external = false;
        result = None;
        params = 0;
        end = 0;
        clause = [];
        keys = (a_key_of (Some 0) ∷ []);
        vars = (a_var_of (tracked 0 0 []) ∷ a_var_of (guarded 0 0 []) ∷ []);
        body =
            simple (make 0 []) ▹
            simple (adopt 1 0 0) ▹
            simple (release 0) ▹
            return None ▹
            done;
      } ∷ [];
  main = 0;
}

abbrev pub runs_itself : List Case
runs_itself =
    record {
      budgets = defaults;
      input = [];
      answers = [];
      told = record {
        outcome = (world.fault world.same_object (Some 0));
        fuel = 1000000;
        events =
            [];
      };
    } ∷ []

-- One arm releases, the other does not.
--   struct point { int x; int y; }
--   void main() {
--       tracked(K) point p = new point { x: 4, y: 2 };
--       if (p.x > 4) {
--           release p;
--       }
--   }
abbrev pub program_parted : Program
program_parted = record {
  sets = [];
  types =
      a_struct
      (record {
        name = (codes "point");
        header = [];
        set = None;
        release = (in_set (0 ∷ []));
        fields = (record { name = (codes "x"); ty = int; states = (in_set (0 ∷ [])) } ∷
            record { name = (codes "y"); ty = int; states = (in_set (0 ∷ [])) } ∷ []);
      }) ∷ [];
  fns =
      record {
        name = (codes "main");
        external = false;
        result = None;
        params = 0;
        end = 0;
        clause = [];
        keys = (a_key_of (Some 0) ∷ []);
        vars = (a_var_of (tracked 0 0 []) ∷ []);
        body =
            simple (make 0 ((pure (number (pos 4))) ∷ (pure (number (pos 2))) ∷ [])) ▹
            choose (binary op.Greater (field 0 0) (number (pos 4)))
            (block (
            simple (release 0) ▹
            done) [] 0)
            (block (
            done) [] 0) ▹
            return None ▹
            done;
      } ∷ [];
  main = 0;
}

abbrev pub runs_parted : List Case
runs_parted =
    record {
      budgets = defaults;
      input = [];
      answers = [];
      told = record {
        outcome = (world.fault world.left_behind None);
        fuel = 1000000;
        events =
            [];
      };
    } ∷ []

-- A function is called without the key that it wants.
--   struct point { int x; int y; }
--   void f(tracked(A) point p) [-A] {
--       release p;
--   }
--   void main() {
--       tracked(K) point s = new point { x: 4, y: 2 };
--       f(s);
--       f(s);
--   }
abbrev pub program_callee : Program
program_callee = record {
  sets = [];
  types =
      a_struct
      (record {
        name = (codes "point");
        header = [];
        set = None;
        release = (in_set (0 ∷ []));
        fields = (record { name = (codes "x"); ty = int; states = (in_set (0 ∷ [])) } ∷
            record { name = (codes "y"); ty = int; states = (in_set (0 ∷ [])) } ∷ []);
      }) ∷ [];
  fns =
      record {
        name = (codes "f");
        external = false;
        result = None;
        params = 1;
        end = 0;
        clause = (record { mode = taken; key = 0; before = None; after = None } ∷ []);
        keys = (a_key_of (Some 0) ∷ []);
        vars = (a_var_of (tracked 0 0 []) ∷ []);
        body =
            simple (release 0) ▹
            return None ▹
            done;
      } ∷
      record {
        name = (codes "main");
        external = false;
        result = None;
        params = 0;
        end = 0;
        clause = [];
        keys = (a_key_of (Some 0) ∷ []);
        vars = (a_var_of (tracked 0 0 []) ∷ []);
        body =
            simple (make 0 ((pure (number (pos 4))) ∷ (pure (number (pos 2))) ∷ [])) ▹
            call 0 None (0 ∷ []) ((pure (var 0)) ∷ []) ▹
            call 0 None (0 ∷ []) ((pure (var 0)) ∷ []) ▹
            return None ▹
            done;
      } ∷ [];
  main = 1;
}

abbrev pub runs_callee : List Case
runs_callee =
    record {
      budgets = defaults;
      input = [];
      answers = [];
      told = record {
        outcome = (world.fault world.not_held (Some 0));
        fuel = 999998;
        events =
            [];
      };
    } ∷ []

-- An owning variable is moved twice.
--   struct node { int v; }
--   void main() {
--       tracked node n = new node { v: 1 };
--       tracked node m = n;
--       tracked node o = n;
--       release m;
--       release o;
--   }
abbrev pub program_twice : Program
program_twice = record {
  sets = [];
  types =
      a_struct
      (record {
        name = (codes "node");
        header = [];
        set = None;
        release = (in_set (0 ∷ []));
        fields = (record { name = (codes "v"); ty = int; states = (in_set (0 ∷ [])) } ∷ []);
      }) ∷ [];
  fns =
      record {
        name = (codes "main");
        external = false;
        result = None;
        params = 0;
        end = 0;
        clause = [];
        keys = (a_key_of (Some 0) ∷ []);
        vars =
            (a_var_of (tracked 0 0 []) ∷ a_var_of (owning (in_set (0 ∷ [])) 0 []) ∷
            a_var_of (owning (in_set (0 ∷ [])) 0 []) ∷ a_var_of (owning (in_set (0 ∷ [])) 0 []) ∷ []);
        body =
            simple (make 0 ((pure (number (pos 1))) ∷ [])) ▹
            simple (own 1 (pack 0 (in_set (0 ∷ [])))) ▹
            simple (own 2 (move 1)) ▹
            simple (own 3 (move 1)) ▹
            simple (drop 2) ▹
            simple (drop 3) ▹
            return None ▹
            done;
      } ∷ [];
  main = 0;
}

abbrev pub runs_twice : List Case
runs_twice =
    record {
      budgets = defaults;
      input = [];
      answers = [];
      told = record {
        outcome = (world.fault world.no_value None);
        fuel = 1000000;
        events =
            [];
      };
    } ∷ []

-- An owning variable is filled while it is full.
--   struct node { int v; }
--   void main() {
--       tracked node n = new node { v: 1 };
--       tracked node m = new node { v: 2 };
--       n = m;
--       release n;
--   }
abbrev pub program_filled : Program
program_filled = record {
  sets = [];
  types =
      a_struct
      (record {
        name = (codes "node");
        header = [];
        set = None;
        release = (in_set (0 ∷ []));
        fields = (record { name = (codes "v"); ty = int; states = (in_set (0 ∷ [])) } ∷ []);
      }) ∷ [];
  fns =
      record {
        name = (codes "main");
        external = false;
        result = None;
        params = 0;
        end = 0;
        clause = [];
        keys = (a_key_of (Some 0) ∷ a_key_of (Some 0) ∷ []);
        vars =
            (a_var_of (tracked 0 0 []) ∷ a_var_of (owning (in_set (0 ∷ [])) 0 []) ∷ a_var_of (tracked 1 0 []) ∷
            a_var_of (owning (in_set (0 ∷ [])) 0 []) ∷ []);
        body =
            simple (make 0 ((pure (number (pos 1))) ∷ [])) ▹
            simple (own 1 (pack 0 (in_set (0 ∷ [])))) ▹
            simple (make 2 ((pure (number (pos 2))) ∷ [])) ▹
            simple (own 3 (pack 2 (in_set (0 ∷ [])))) ▹
            simple (own 1 (move 3)) ▹
            simple (drop 1) ▹
            return None ▹
            done;
      } ∷ [];
  main = 0;
}

abbrev pub runs_filled : List Case
runs_filled =
    record {
      budgets = defaults;
      input = [];
      answers = [];
      told = record {
        outcome = (world.fault world.not_empty None);
        fuel = 1000000;
        events =
            [];
      };
    } ∷ []
