-- The pieces of a program's lowering, each with the core statement in whose own code it is.
use Rattle.std.specs.Prelude.{ℕ, suc, ◌+◌, List, [], ◌∷◌, ◌++◌, map, if◌then◌else◌, Option, Some, None}
use Rattle.std.specs.List.{flat_map, enumerate_from}
use Rattle.vlt_core.specs.Core as core
use Rattle.vlt_core.specs.Core.{Func, Program}
use Rattle.vlt_core.specs.Least.{first_number}
use Rattle.c_syntax.specs.declared.program.CPrim.TheVariants as prim
use Rattle.c_syntax.specs.View.{stmts_made}
use Rattle.c_syntax.specs.C as c
use Rattle.c_lower.specs.Slots.{Numbers, of_number, of_reference, past, var_at, slot_of, first_temps}
use Rattle.c_lower.specs.Guards.{whole, equal, unequal}
use Rattle.c_lower.specs.Expressions.{value_of, expr_code}
use Rattle.c_lower.specs.Statements.{runtime_call, runtime_value, arm_copies, case_positions, variant_type, form_code, list_code}
use Rattle.c_lower.specs.Lowering.{func_with, lowered}
use Rattle.c_match.specs.Pieces.{Piece, variables, begins_if, begins_else, begins_loop, ends, list_pieces, func_pieces, heads_of}

pub record Owned : Type 0 where
  pub piece : Piece
  -- the number of the statement, none for a piece outside all statements
  pub owner : Option ℕ

abbrev pub owned_by : Option ℕ → List Piece → List Owned
owned_by o = map (λ x. record { piece = x; owner = o })

-- pieces of the statement n, and its code
abbrev pub own : (n : ℕ) → List Piece → List Owned
own n = owned_by (Some n)

abbrev pub own_code : (n : ℕ) → List c.Stmt → List Owned
own_code n xs = own n (list_pieces (stmts_made xs))

-- How many statements there are, with those in their blocks.
abbrev mutual
  pub count : core.Form → ℕ
  count (core.choose e a b) = suc (count_block a + count_block b)
  count (core.loop e b) = suc (count_block b)
  count (core.switch v arms end) = suc (count_arms arms)
  count (core.focus y z b) = suc (count_block b)
  count (core.scope b) = suc (count_block b)
  count _ = 1

  pub count_block : core.Block → ℕ
  count_block (core.block stmts bound end) = count_list stmts

  pub count_list : core.Stmts → ℕ
  count_list core.done = 0
  count_list (core.next at s rest) = count s + count_list rest

  pub count_arms : core.Arms → ℕ
  count_arms core.no_arms = 0
  count_arms (core.arm k vs b arms) = count_block b + count_arms arms

-- The code of a statement that has the number n, and that of the statements in its blocks, which have
-- the numbers after it.
-- `t` are the numbers of the next temps.
abbrev mutual
  pub form_owned : Program → Func → Numbers → (n : ℕ) → core.Form → List Owned
  form_owned p f t n (core.choose e a b) =
      let x = expr_code p f t e in
      own_code n x.stmts
      ++ own n (begins_if (unequal (value_of x) (whole 0)) ∷ [])
      ++ block_owned p f t (suc n) a
      ++ own n (ends ∷ begins_else ∷ [])
      ++ block_owned p f t (suc n + count_block a) b
      ++ own n (ends ∷ [])
  form_owned p f t n (core.loop e b) =
      let x = expr_code p f t e in
      own n (begins_loop ∷ [])
      ++ own_code n x.stmts
      ++ own_code n (c.when (equal (value_of x) (whole 0)) (c.next c.break c.done) ∷ [])
      ++ block_owned p f t (suc n) b
      ++ own n (ends ∷ [])
  form_owned p f t n (core.switch v arms end) =
      own_code n (c.set (var_at t of_number) (c.variable (slot_of p f v)) ∷ [])
      ++ arms_owned p f t n (suc n) v arms
  form_owned p f t n (core.focus y z b) =
      let object = var_at t of_reference in
      let adopter = var_at (past t of_reference) of_reference in
      own_code n
      (c.set object (c.variable (slot_of p f y))
      ∷ runtime_value adopter prim.Parent (c.variable object ∷ [])
      ∷ runtime_call prim.Disown (c.variable object ∷ [])
      ∷ c.set (slot_of p f z) (c.variable object) ∷ [])
      ++ block_owned p f (past (past t of_reference) of_reference) (suc n) b
      ++ own_code n (runtime_call prim.Own (c.variable object ∷ c.variable adopter ∷ []) ∷ [])
  form_owned p f t n (core.scope b) = block_owned p f t (suc n) b
  form_owned p f t n s = own_code n (form_code p f t s).stmts

  pub block_owned : Program → Func → Numbers → (n : ℕ) → core.Block → List Owned
  block_owned p f t n (core.block stmts bound end) = list_owned p f t n stmts

  pub list_owned : Program → Func → Numbers → (n : ℕ) → core.Stmts → List Owned
  list_owned p f t n core.done = []
  list_owned p f t n (core.next at s rest) =
      form_owned p f t n s ++ list_owned p f t (n + count s) rest

  -- arms of the switch n on v, whose case is in the temp at t; the first statement in them has the
  -- number m
  pub arms_owned : Program → Func → Numbers → (n m v : ℕ) → core.Arms → List Owned
  arms_owned p f t n m v core.no_arms = []
  arms_owned p f t n m v (core.arm k vs b arms) =
      own n (begins_if (equal (c.variable (var_at t of_number)) (whole k)) ∷ [])
      ++ own_code n (arm_copies p f v (case_positions p (variant_type f v) k) vs)
      ++ block_owned p f (past t of_number) m b
      ++ own n (ends ∷ [])
      ++ arms_owned p f t n (m + count_block b) v arms

-- the body of a function, whose first statement has the number n
abbrev pub body_owned : Program → (n : ℕ) → Func → List Owned
body_owned p n f =
    let t = first_temps p f in
    owned_by None (variables (func_with p 0 f (list_code p f t f.body)).vars ∷ [])
    ++ list_owned p f t n f.body
    ++ owned_by None (ends ∷ [])

-- Heads, declarations and what stands for externals are outside all statements.
abbrev pub owned_lowering : Program → List Owned
owned_lowering p =
    owned_by None (heads_of (lowered p) ∷ flat_map func_pieces (lowered p).glue)
    ++ flat_map (λ q. if q.1.external then [] else body_owned p (first_number p q.0) q.1)
    (enumerate_from 0 p.fns)
