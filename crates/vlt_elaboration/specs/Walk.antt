-- Statements in the order of the text: the first refusal, or what they become and the scope after them.
use Rattle.std.specs.Prelude.{ℕ, ◌-◌, Bool, false, List, [], ◌∷◌, ◌++◌, length, map, Option, Some, None, Result, Ok, Err}
use Rattle.vlt_syntax.specs.Tree as s
use Rattle.vlt_syntax.specs.Tree.{Name, Stmt, Block, If, Else, Stmts, Arms}
use Rattle.vlt_syntax.specs.View.{ArmView}
use Rattle.vlt_core.specs.Core as core
use Rattle.vlt_core.specs.Core.{Ty, bool, Form}
use Rattle.vlt_core.specs.View.{stmts_made, arms_made}
use Rattle.vlt_core.specs.declared.rules.TheConstants as rule
use Rattle.vlt_kinds_types.specs.declared.names.found.Refusal.{Refusal}
use Rattle.vlt_kinds_types.specs.Names.Refusals.{refuse_if, least_from}
use Rattle.vlt_kinds_types.specs.Kinds.{Kinds}
use Rattle.vlt_resolve_exprs.specs.Scopes.{Scope, var_ty, scope_inside, scope_after, bound_in}
use Rattle.vlt_resolve_exprs.specs.Exprs.{wanted_refused, core_expr, var_number}
use Rattle.vlt_resolve_calls.specs.Builds.{Case}
use Rattle.vlt_elaboration.specs.Around.{Around, inside_loop, inside_focus}
use Rattle.vlt_elaboration.specs.Declarations.{Became}
use Rattle.vlt_elaboration.specs.Statements.{simple_refused, simple_became}
use Rattle.vlt_elaboration.specs.Blocks.{stmt_place, ends, closing, else_closing}
use Rattle.vlt_elaboration.specs.Switches.{arm_names, switch_refused, arm_case, arm_refused, arm_scope, arm_numbers, case_number, focus_refused, bound_scope}

abbrev pub then_do : {A B : Type 0} → Result A Refusal → (A → Result B Refusal) → Result B Refusal
then_do (Ok a) go = go a
then_do (Err r) go = Err r

abbrev pub unless_refused : {B : Type 0} → Option Refusal → Result B Refusal → Result B Refusal
unless_refused None go = go
unless_refused (Some r) go = Err r

-- a statement after one that ends
unfoldable pub late : Bool → Stmt → Option Refusal
late ended x = least_from None (refuse_if ended rule.AFTER_END (stmt_place x))

-- the forms that a statement becomes, each at its place
abbrev pub placed_at : ℕ → List Form → List (ℕ × Form)
placed_at at = map (λ f. (at, f))

abbrev pub Walked : Type 0
Walked = Result (List (ℕ × Form) × Scope) Refusal

-- a block of these statements, with the scope at its end
abbrev pub block_made : List (ℕ × Form) × Scope → (end : ℕ) → core.Block
block_made y end = core.block (stmts_made y.0) (bound_in y.1) end

abbrev pub one : Form → Scope → Result Became Refusal
one form scope = Ok (form ∷ [], scope)

-- a statement without blocks, after what was found before
abbrev pub walk_simple : Kinds → Around → Scope → Option Refusal → Stmt → Result Became Refusal
walk_simple kinds around scope found x =
    unless_refused (least_from found (simple_refused kinds around scope x)) (Ok (simple_became kinds around scope x))

abbrev mutual
  pub walk_stmts : Kinds → Around → Scope → Bool → Stmts → Walked
  walk_stmts kinds around scope ended s.done = Ok ([], scope)
  walk_stmts kinds around scope ended (s.next x xs) =
      then_do (walk_stmt kinds around scope (late ended x) x) (λ y.
      then_do (walk_stmts kinds around y.1 (ends x) xs) (λ z.
      Ok (placed_at (stmt_place x) y.0 ++ z.0, z.1)))

  -- after what was found before
  pub walk_stmt : Kinds → Around → Scope → Option Refusal → Stmt → Result Became Refusal
  walk_stmt kinds around scope found (s.block b) =
      unless_refused found
      (then_do (walk_block kinds around scope b) (λ y. one (core.scope y.0) y.1))
  walk_stmt kinds around scope found (s.choose i) = walk_if kinds around scope found i
  walk_stmt kinds around scope found (s.loop e b at) =
      unless_refused (least_from found (wanted_refused kinds scope (Some bool) e))
      (then_do (walk_block kinds (inside_loop around) scope b) (λ y. one (core.loop (core_expr kinds scope e) y.0) y.1))
  walk_stmt kinds around scope found (s.switch x arms at) =
      unless_refused (least_from found (switch_refused kinds (var_ty scope x.text) x (arm_names arms) at.from))
      (then_do (walk_arms kinds around scope (var_ty scope x.text) arms) (λ y.
      one (core.switch (var_number scope x) (arms_made y.0) (at.to - 1)) y.1))
  walk_stmt kinds around scope found (s.focus y k z b at) = walk_focus kinds around scope found y k z b
  walk_stmt kinds around scope found x = walk_simple kinds around scope found x

  pub walk_focus : Kinds → Around → Scope → Option Refusal → (y k z : Name) → Block → Result Became Refusal
  walk_focus kinds around scope found y k z (s.braced ss close) =
      unless_refused (least_from found (focus_refused kinds (scope_inside scope) (var_ty scope y.text) y k z))
      (then_do (walk_stmts kinds (inside_focus around) (bound_scope (scope_inside scope) (var_ty scope y.text) k z) false ss) (λ w.
      one (core.focus (var_number scope y) (length scope.vars) (block_made w (close.to - 1))) (scope_after scope w.1)))

  pub walk_block : Kinds → Around → Scope → Block → Result (core.Block × Scope) Refusal
  walk_block kinds around scope (s.braced ss at) =
      then_do (walk_stmts kinds around (scope_inside scope) false ss) (λ y.
      Ok (block_made y (at.to - 1), scope_after scope y.1))

  pub walk_if : Kinds → Around → Scope → Option Refusal → If → Result Became Refusal
  walk_if kinds around scope found (s.choice e b other at) =
      unless_refused (least_from found (wanted_refused kinds scope (Some bool) e))
      (then_do (walk_block kinds around scope b) (λ y.
      then_do (walk_else kinds around y.1 (else_closing (closing b) other) other) (λ z.
      one (core.choose (core_expr kinds scope e) y.0 z.0) z.1)))

  pub walk_else : Kinds → Around → Scope → ℕ → Else → Result (core.Block × Scope) Refusal
  walk_else kinds around scope end s.nothing = Ok (core.block core.done [] end, scope)
  walk_else kinds around scope end (s.last b) = walk_block kinds around scope b
  walk_else kinds around scope end (s.chained i) = walk_chained kinds around scope end i

  -- an `if` after an `else`, in a block of its own that binds nothing
  pub walk_chained : Kinds → Around → Scope → ℕ → If → Result (core.Block × Scope) Refusal
  walk_chained kinds around scope end (s.choice e b other at) =
      unless_refused (least_from None (wanted_refused kinds scope (Some bool) e))
      (then_do (walk_block kinds around scope b) (λ y.
      then_do (walk_else kinds around y.1 end other) (λ z.
      Ok (core.block (core.next at.from (core.choose (core_expr kinds scope e) y.0 z.0) core.done) [] end, z.1))))

  -- the arms of a switch on a variable of this type
  pub walk_arms : Kinds → Around → Scope → Option Ty → Arms → Result (List (ℕ × List ℕ × core.Block) × Scope) Refusal
  walk_arms kinds around scope ty s.no_arms = Ok ([], scope)
  walk_arms kinds around scope ty (s.arm tick vs b at rest) =
      then_do (walk_arm kinds around scope (arm_case kinds ty tick) tick vs b) (λ y.
      then_do (walk_arms kinds around y.1 ty rest) (λ z.
      Ok (y.0 ∷ z.0, z.1)))

  pub walk_arm : Kinds → Around → Scope → Option Case → (tick : Name) → List Name → Block → Result ((ℕ × List ℕ × core.Block) × Scope) Refusal
  walk_arm kinds around scope case tick vs (s.braced ss at) =
      unless_refused (least_from None (arm_refused kinds (scope_inside scope) case tick vs))
      (then_do (walk_stmts kinds around (arm_scope (scope_inside scope) case vs) false ss) (λ y.
      Ok ((case_number case, arm_numbers (scope_inside scope) case vs, block_made y (at.to - 1)), scope_after scope y.1)))

abbrev pub walk_one_arm : Kinds → Around → Scope → Option Ty → ArmView → Result ((ℕ × List ℕ × core.Block) × Scope) Refusal
walk_one_arm kinds around scope ty a = walk_arm kinds around scope (arm_case kinds ty a.0) a.0 a.1 a.2
