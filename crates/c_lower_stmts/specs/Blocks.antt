-- Parts of the code of statements with blocks.
use Rattle.std.specs.Prelude.{◌≡◌, ℕ, Bool, true, false, List, [], ◌∷◌, ◌++◌}
use Rattle.vlt_core.specs.Core as core
use Rattle.vlt_core.specs.Core.{Func, Program}
use Rattle.c_syntax.specs.declared.program.CVar.{CVar}
use Rattle.c_syntax.specs.declared.program.CPrim.TheVariants as prim
use Rattle.c_syntax.specs.View.{stmts_made}
use Rattle.c_syntax.specs.C as c
use Rattle.c_syntax.specs.C.{Stmt}
use Rattle.c_lower.specs.Slots.{Numbers, of_reference, past, var_at, slot_of}
use Rattle.c_lower.specs.Guards.{equal, unequal, whole}
use Rattle.c_lower.specs.Expressions.{Atom, atom_expr, value_of, expr_code}
use Rattle.c_lower.specs.Statements.{StmtCode, stmt_code, body_of, most_of_both, runtime_call, runtime_value, arm_copies, case_positions, variant_type, block_code}
use Rattle.c_lower_exprs.specs.Tables.{numbers_of}
use Rattle.c_lower_stmts.specs.declared.blocks.Focus.{Focus}

-- whether a statement has no block
abbrev pub is_flat : core.Form → Bool
is_flat (core.choose e a b) = false
is_flat (core.loop e b) = false
is_flat (core.switch v arms end) = false
is_flat (core.focus y z b) = false
is_flat (core.scope b) = false
is_flat _ = true

-- both blocks of a choice, whose condition has this atom and these numbers after its temps
abbrev pub choice_code : Atom → Numbers → (chosen other : StmtCode) → StmtCode
choice_code a t chosen other =
    stmt_code (c.choose (unequal (atom_expr a) (whole 0)) (body_of chosen) (body_of other) ∷ [])
    (most_of_both t (most_of_both chosen.most other.most))

-- a loop's condition, and the way out where it doesn't hold
abbrev pub turn_code : Program → Func → Numbers → core.Expr → StmtCode
turn_code p f t e =
    let x = expr_code p f t e in
    stmt_code (x.stmts ++ c.when (equal (value_of x) (whole 0)) (c.next c.break c.done) ∷ []) x.next

-- a block for one case
abbrev pub case_code : (case : CVar) → (k : ℕ) → List Stmt → Stmt
case_code case k body = c.when (equal (c.variable case) (whole k)) (stmts_made body)

abbrev pub arm_code : Program → Func → Numbers → (v : ℕ) → (case : CVar) → (k : ℕ) → (vs : List ℕ) → core.Block → StmtCode
arm_code p f t v case k vs b =
    let body = block_code p f t b in
    stmt_code (case_code case k (arm_copies p f v (case_positions p (variant_type f v) k) vs ++ body.stmts) ∷ []) body.most

-- the temps of a focus at these numbers
pub record IsFocusAt (t : Numbers) (x : Focus) : Type 0 where
  pub object : x.object ≡ var_at t of_reference
  pub adopter : x.adopter ≡ var_at (past t of_reference) of_reference
  pub inside : numbers_of x.inside ≡ past (past t of_reference) of_reference

-- An object leaves its adopter and goes under a key.
pub record BeginsFocus (p : Program) (f : Func) (t : Numbers) (y z : ℕ) (old new : List Stmt) (x : Focus) : Type 0 where
  pub stmts :
      new ≡ old
      ++ c.set x.object (c.variable (slot_of p f y))
      ∷ runtime_value x.adopter prim.Parent (c.variable x.object ∷ [])
      ∷ runtime_call prim.Disown (c.variable x.object ∷ [])
      ∷ c.set (slot_of p f z) (c.variable x.object) ∷ []
  pub temps : IsFocusAt t x
