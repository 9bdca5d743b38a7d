-- A loop that changes a state, and its fuel.
use Rattle.std.specs.Prelude.{pos, false, List, [], ◌∷◌, Some, None, codes}
use Rattle.vlt_ops.specs.declared.Op.TheVariants as op
use Rattle.vlt_core.specs.Core.{int, tracked, a_struct, number, field, binary, pure, put, make, become, release, simple, loop, return, block, done, Program}
use Rattle.vlt_meaning.specs.World as world
use Rattle.vlt_meaning_samples.specs.Told.{in_set, ◌▹◌, a_key_of, a_var_of, Case}

--
--   stateset ab { a, b }
--   struct cell @ ab { int v; int w @ a; }
--   void main() {
--       tracked(K) cell c = new cell { v: 0, w: 0 };
--       while (c.v < 3) {
--           c.v = c.v + 1;
--           become c@b;
--       }
--       release c;
--   }
abbrev pub program : Program
program = record {
  sets = (record { name = (codes "ab"); states = ((codes "a") ∷ (codes "b") ∷ []); links = [] } ∷ []);
  types =
      a_struct
      (record {
        name = (codes "cell");
        header = [];
        set = (Some 0);
        release = (in_set (0 ∷ 1 ∷ []));
        fields = (record { name = (codes "v"); ty = int; states = (in_set (0 ∷ 1 ∷ [])) } ∷
            record { name = (codes "w"); ty = int; states = (in_set (0 ∷ [])) } ∷ []);
      }) ∷ [];
  fns =
      record {
        name = (codes "main");
        external = false;
        result = None;
        params = 0;
        end = 0;
        clause = [];
        keys = (a_key_of (Some 0) ∷ []);
        vars = (a_var_of (tracked 0 0 []) ∷ []);
        body =
            simple (make 0 ((pure (number (pos 0))) ∷ (pure (number (pos 0))) ∷ [])) ▹
            loop (binary op.Less (field 0 0) (number (pos 3))) (block (
            simple (put 0 0 (binary op.Add (field 0 0) (number (pos 1)))) ▹
            simple (become 0 1) ▹
            done) [] 0) ▹
            simple (release 0) ▹
            return None ▹
            done;
      } ∷ [];
  main = 0;
}

abbrev pub runs : List Case
runs =
    record {
      budgets = (record { fuel = 4; heap = 65536; depth = 1000 });
      input = [];
      answers = [];
      told = record {
        outcome = world.done;
        fuel = 0;
        events =
            [];
      };
    } ∷
    record {
      budgets = (record { fuel = 3; heap = 65536; depth = 1000 });
      input = [];
      answers = [];
      told = record {
        outcome = world.fuel_end;
        fuel = 0;
        events =
            [];
      };
    } ∷ []
