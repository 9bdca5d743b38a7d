-- Bodies that aren't refused in a view aren't refused in the joined program, and become the same, but for the numbers of the
-- functions that they call.
use Rattle.std.specs.Prelude.{◌≡◌, ℕ, Bool, List, map, Ok}
use Rattle.std.specs.Option.{option_map}
use Rattle.vlt_syntax.specs.Tree.{Stmts}
use Rattle.vlt_core.specs.Core.{Form}
use Rattle.vlt_link_laws.specs.CoreMoves.Moves.{Moves, moved_ty, moved_form}
use Rattle.vlt_kinds_types.specs.Kinds.{Kinds}
use Rattle.vlt_resolve_exprs.specs.Scopes.{Scope}
use Rattle.vlt_elaboration.specs.Around.{Around}
use Rattle.vlt_elaboration.specs.Walk.{walk_stmts}
use Rattle.vlt_link_laws.specs.Moves.Sees.{Sees, moved_scope}
use Rattle.vlt_link_laws.specs.Moves.Apt.{IsAptStmts}
use Rattle.vlt_link_laws.specs.Moves.Whole.{IsWhole}

module _ (m : Moves) where
  abbrev pub moved_around : Around → Around
  moved_around x = record {
    result = option_map (moved_ty m) x.result;
    clause = x.clause;
    in_loop = x.in_loop;
    in_focus = x.in_focus;
  }

  abbrev pub moved_walked : List (ℕ × Form) × Scope → List (ℕ × Form) × Scope
  moved_walked y = (map (λ x. (x.0, moved_form m x.1)) y.0, moved_scope m y.1)

abbrev pub WalksMove : Type 0
WalksMove = (m : Moves) (a b : Kinds) → Sees m a b →
    (around : Around) (scope : Scope) (ended : Bool) (ss : Stmts) (y : List (ℕ × Form) × Scope) →
    IsAptStmts a b ss → IsWhole scope → walk_stmts a around scope ended ss ≡ Ok y →
    walk_stmts b (moved_around m around) (moved_scope m scope) ended ss ≡ Ok (moved_walked m y)
