-- What the code of an operand does: what laws on statements with operands take as given.
use Rattle.std.specs.Prelude.{◌≡◌, ◌≤◌, length, ℕ, true, List, [], ◌∷◌, ◌++◌, map, Some, Ok}
use Rattle.c_lower_worlds.specs.Naming.KindedParts.{is_proper_operand}
use Rattle.vlt_core.specs.Core.{Ty, Operand, Func, Program}
use Rattle.vlt_core.specs.KindedScopes.{Ids}
use Rattle.vlt_core.specs.KindedOperands.{operand_broken}
use Rattle.vlt_meaning.specs.World as source
use Rattle.vlt_meaning.specs.Step as step
use Rattle.vlt_meaning.specs.Operands.{with_operand}
use Rattle.c_syntax.specs.View.{stmts_made}
use Rattle.c_syntax.specs.C.{Stmt}
use Rattle.c_meaning.specs.World as cw
use Rattle.c_meaning.specs.Blocks.{Blocks}
use Rattle.c_meaning.specs.Values.{value_of}
use Rattle.c_meaning.specs.Run as crun
use Rattle.c_lower.specs.Slots.{Numbers, vars_at, slot_sorts, first_temps}
use Rattle.c_lower.specs.Expressions.{Atom, variable, atom_expr, Code, operand_code}
use Rattle.c_lower.specs.Statements.{is_variant}
use Rattle.c_lower_worlds.specs.Operators.Codes.{AreUpTo, AreAlike}
use Rattle.c_lower_worlds.specs.Worlds.{Registers, c_world, slot_values, numbers_in, references_in}
use Rattle.c_lower_worlds.specs.Shapes.{types_of, HasShape}
use Rattle.c_lower_worlds.specs.SameStatements.{Begins}
use Rattle.c_lower_worlds.specs.Naming.Functions.{IsFunction}
use Rattle.c_lower_worlds.specs.Same.{Same, rest_values}

-- an atom is no cell, so the blocks are no matter
abbrev pub HaveAtoms : List Atom → List cw.Value → crun.Frame → Blocks → Type 0
HaveAtoms [] [] f bs = Unit {0}
HaveAtoms (a ∷ atoms) (v ∷ vs) f bs =
    (value_of (atom_expr a) f.vars bs ≡ Ok v) × HaveAtoms atoms vs f bs
HaveAtoms _ _ f bs = ⊥

-- the atoms of a variant are variables, one for each slot
pub record AreVariables (p : Program) (ty : Ty) (atoms : List Atom) : Type 0 where
  pub from : Numbers
  pub are : atoms ≡ map variable (vars_at from (slot_sorts p ty))

-- a value was handed over, and is in the atoms of its code
pub record IsHanded (p : Program) (f : Func) (t : Numbers) (k : ℕ) (x : Code) (ty : Ty)
    (frame : crun.Frame) (g : Registers) (before : source.World) (a : source.Value)
    (s : source.Frame) (w : source.World)
    (to : crun.Frame) : Type 0 where
  pub same_types : types_of w.objects ≡ types_of before.objects
  pub begins : Begins p f k s w to g
  pub alike : AreAlike t frame to
  pub shape : HasShape p (types_of w.objects) ty a
  pub have : (h : crun.Frame) (bs : Blocks) → AreAlike x.next to h →
      HaveAtoms x.atoms (slot_values p ty a) h bs
  pub variables : is_variant (Some ty) ≡ true → AreVariables p ty x.atoms

-- an operand for a place of this type, of a statement whose temps begin with u
abbrev pub OperandsAreRight : Program → crun.Setup → crun.Meaning → Type 0
OperandsAreRight p R cm =
    (f : Func) (o : Operand) (ids : Ids) (ty : Ty) (u t : Numbers) (k : ℕ) (s : source.Frame)
    (w : source.World) (frame : crun.Frame) (g : Registers) (i : ℕ)
    (go : source.Value → source.Frame → source.World → step.Step) (rest : List Stmt) →
    IsFunction p f → is_proper_operand o ≡ true → operand_broken p f ids (Some ty) o ≡ [] →
    AreUpTo (first_temps p f) u → AreUpTo u t → Begins p f k s w frame g →
    ((a : source.Value) (s2 : source.Frame) (w2 : source.World) (to : crun.Frame) (j : ℕ) →
    IsHanded p f t k (operand_code p f t o) ty frame g w a s2 w2 to →
    Same p f u k to (go a s2 w2) (crun.does_stmts R cm j (stmts_made rest) to (c_world p g w2))) →
    Same p f u k frame (with_operand p f o s w go)
    (crun.does_stmts R cm i (stmts_made ((operand_code p f t o).stmts ++ rest)) frame
    (c_world p g w))

-- there are as many registers as slots of a variant after the first: it has at most eight payloads
pub record RegistersSuffice (p : Program) : Type 0 where
  pub numbers : (types : List ℕ) (ty : Ty) (a : source.Value) → HasShape p types ty a →
      length (numbers_in (rest_values (Some ty) (slot_values p ty a))) ≤ 8
  pub references : (types : List ℕ) (ty : Ty) (a : source.Value) → HasShape p types ty a →
      length (references_in (rest_values (Some ty) (slot_values p ty a))) ≤ 16
