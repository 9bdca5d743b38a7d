-- Numbers: traps, depth, input, and two names for one object.
use Rattle.std.specs.Prelude.{pos, neg_ℤ, true, false, List, [], ◌∷◌, Some, None, codes}
use Rattle.vlt_ops.specs.declared.Op.TheVariants as op
use Rattle.vlt_ops.specs.declared.TrapKind.TheVariants as trap
use Rattle.vlt_core.specs.Core.{int, bool, tracked, a_struct, number, var, unary, binary, pure, set, print, put, make, release, simple, call, choose, loop, return, block, done, kept, Program}
use Rattle.vlt_core.specs.Core as core
use Rattle.vlt_meaning.specs.World as world
use Rattle.vlt_meaning_samples.specs.Told.{in_set, ◌▹◌, a_key_of, a_var_of, Case, defaults, ran_print}

--
--   void main() {
--       int m = -9223372036854775807 - 1;
--       int d = -1;
--       print(m);
--       print(m / d);
--   }
abbrev pub program_traps : Program
program_traps = record {
  sets = [];
  types =
      [];
  fns =
      record {
        name = (codes "main");
        external = false;
        result = None;
        params = 0;
        end = 0;
        clause = [];
        keys = [];
        vars = (a_var_of int ∷ a_var_of int ∷ []);
        body =
            simple (set 0 (binary op.Subtract (unary op.Negate (number (pos 9223372036854775807))) (number (pos 1)))) ▹
            simple (set 1 (unary op.Negate (number (pos 1)))) ▹
            simple (print (var 0)) ▹
            simple (print (binary op.Divide (var 0) (var 1))) ▹
            return None ▹
            done;
      } ∷ [];
  main = 0;
}

abbrev pub runs_traps : List Case
runs_traps =
    record {
      budgets = defaults;
      input = [];
      answers = [];
      told = record {
        outcome = (world.trap trap.Overflow);
        fuel = 1000000;
        events =
            ((ran_print (neg_ℤ (pos 9223372036854775808))) ∷ []);
      };
    } ∷ []

--
--   void main() {
--       int m = -9223372036854775807 - 1;
--       int d = -1;
--       print(m);
--       print(m / (d + 1));
--   }
abbrev pub program_zero : Program
program_zero = record {
  sets = [];
  types =
      [];
  fns =
      record {
        name = (codes "main");
        external = false;
        result = None;
        params = 0;
        end = 0;
        clause = [];
        keys = [];
        vars = (a_var_of int ∷ a_var_of int ∷ []);
        body =
            simple (set 0 (binary op.Subtract (unary op.Negate (number (pos 9223372036854775807))) (number (pos 1)))) ▹
            simple (set 1 (unary op.Negate (number (pos 1)))) ▹
            simple (print (var 0)) ▹
            simple (print (binary op.Divide (var 0) (binary op.Add (var 1) (number (pos 1))))) ▹
            return None ▹
            done;
      } ∷ [];
  main = 0;
}

abbrev pub runs_zero : List Case
runs_zero =
    record {
      budgets = defaults;
      input = [];
      answers = [];
      told = record {
        outcome = (world.trap trap.ZeroDivisor);
        fuel = 1000000;
        events =
            ((ran_print (neg_ℤ (pos 9223372036854775808))) ∷ []);
      };
    } ∷ []

--
--   void f(int n) { if (n > 0) { f(n - 1); } } void main() { f(3); }
abbrev pub program_depth : Program
program_depth = record {
  sets = [];
  types =
      [];
  fns =
      record {
        name = (codes "f");
        external = false;
        result = None;
        params = 1;
        end = 0;
        clause = [];
        keys = [];
        vars = (a_var_of int ∷ []);
        body =
            choose (binary op.Greater (var 0) (number (pos 0)))
            (block (
            call 0 None [] ((pure (binary op.Subtract (var 0) (number (pos 1)))) ∷ []) ▹
            done) [] 0)
            (block (
            done) [] 0) ▹
            return None ▹
            done;
      } ∷
      record {
        name = (codes "main");
        external = false;
        result = None;
        params = 0;
        end = 0;
        clause = [];
        keys = [];
        vars = [];
        body =
            call 0 None [] ((pure (number (pos 3))) ∷ []) ▹
            return None ▹
            done;
      } ∷ [];
  main = 1;
}

abbrev pub runs_depth : List Case
runs_depth =
    record {
      budgets = (record { fuel = 1000000; heap = 65536; depth = 5 });
      input = [];
      answers = [];
      told = record {
        outcome = world.done;
        fuel = 999996;
        events =
            [];
      };
    } ∷
    record {
      budgets = (record { fuel = 1000000; heap = 65536; depth = 4 });
      input = [];
      answers = [];
      told = record {
        outcome = world.depth_end;
        fuel = 999996;
        events =
            [];
      };
    } ∷ []

--
--   void main() { bool m = more(); while (m) { int v = input(); print(v * 2); m = more(); } int z = input(); }
abbrev pub program_input : Program
program_input = record {
  sets = [];
  types =
      [];
  fns =
      record {
        name = (codes "main");
        external = false;
        result = None;
        params = 0;
        end = 0;
        clause = [];
        keys = [];
        vars = (a_var_of bool ∷ a_var_of int ∷ a_var_of int ∷ []);
        body =
            simple (core.input 0 true) ▹
            loop (var 0) (block (
            simple (core.input 1 false) ▹
            simple (print (binary op.Multiply (var 1) (number (pos 2)))) ▹
            simple (core.input 0 true) ▹
            done) [] 0) ▹
            simple (core.input 2 false) ▹
            return None ▹
            done;
      } ∷ [];
  main = 0;
}

abbrev pub runs_input : List Case
runs_input =
    record {
      budgets = defaults;
      input = ((pos 3) ∷ (neg_ℤ (pos 4)) ∷ []);
      answers = [];
      told = record {
        outcome = world.input_end;
        fuel = 999997;
        events =
            ((ran_print (pos 6)) ∷ (ran_print (neg_ℤ (pos 8))) ∷ []);
      };
    } ∷ []

--
--   struct point { int x; int y; }
--   void f(tracked(A) point p, tracked(B) point q) [A] {
--       p.x = 1;
--   }
--   void main() {
--       tracked(K) point s = new point { x: 4, y: 2 };
--       f(s, s);
--       release s;
--   }
abbrev pub program_names : Program
program_names = record {
  sets = [];
  types =
      a_struct
      (record {
        name = (codes "point");
        header = [];
        set = None;
        release = (in_set (0 ∷ []));
        fields = (record { name = (codes "x"); ty = int; states = (in_set (0 ∷ [])) } ∷
            record { name = (codes "y"); ty = int; states = (in_set (0 ∷ [])) } ∷ []);
      }) ∷ [];
  fns =
      record {
        name = (codes "f");
        external = false;
        result = None;
        params = 2;
        end = 0;
        clause = (record { mode = kept; key = 0; before = None; after = None } ∷ []);
        keys = (a_key_of (Some 0) ∷ a_key_of (Some 0) ∷ []);
        vars = (a_var_of (tracked 0 0 []) ∷ a_var_of (tracked 1 0 []) ∷ []);
        body =
            simple (put 0 0 (number (pos 1))) ▹
            return None ▹
            done;
      } ∷
      record {
        name = (codes "main");
        external = false;
        result = None;
        params = 0;
        end = 0;
        clause = [];
        keys = (a_key_of (Some 0) ∷ []);
        vars = (a_var_of (tracked 0 0 []) ∷ []);
        body =
            simple (make 0 ((pure (number (pos 4))) ∷ (pure (number (pos 2))) ∷ [])) ▹
            call 0 None (0 ∷ 0 ∷ []) ((pure (var 0)) ∷ (pure (var 0)) ∷ []) ▹
            simple (release 0) ▹
            return None ▹
            done;
      } ∷ [];
  main = 1;
}

abbrev pub runs_names : List Case
runs_names =
    record {
      budgets = defaults;
      input = [];
      answers = [];
      told = record {
        outcome = world.done;
        fuel = 999999;
        events =
            [];
      };
    } ∷ []
