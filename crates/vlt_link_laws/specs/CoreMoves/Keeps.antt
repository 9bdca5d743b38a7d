-- A program that has what another one has, at other numbers. A type that is abstract there may be a struct here, and an external
-- may have a body: the rows on keys look at neither.
use Rattle.std.specs.Prelude.{◌≡◌, ℕ, List, Some, slice_get}
use Rattle.vlt_core.specs.Core.{StructDecl, VariantDecl, TypeDecl, a_struct, a_variant, Func, Program}
use Rattle.vlt_core.specs.Lookups.{state_count, links_of_type}
use Rattle.vlt_link_laws.specs.CoreMoves.Moves.{Moves, moved_struct, moved_variant}

-- the function of this number has the same clause
pub record HasClauseOf (fs : List Func) (g : ℕ) (h : Func) : Type 0 where
  pub func : Func
  pub there : slice_get fs g ≡ Some func
  pub clause : func.clause ≡ h.clause

pub record Keeps (m : Moves) (p q : Program) : Type 0 where
  -- an object of a declared type has as many states
  pub states : (t : ℕ) (d : TypeDecl) → slice_get p.types t ≡ Some d →
      state_count q (m.types t) ≡ state_count p t
  -- in the same order
  pub links : (t : ℕ) (d : TypeDecl) → slice_get p.types t ≡ Some d →
      links_of_type q (m.types t) ≡ links_of_type p t
  pub structs : (t : ℕ) (d : StructDecl) → slice_get p.types t ≡ Some (a_struct d) →
      slice_get q.types (m.types t) ≡ Some (a_struct (moved_struct m d))
  pub variants : (t : ℕ) (d : VariantDecl) → slice_get p.types t ≡ Some (a_variant d) →
      slice_get q.types (m.types t) ≡ Some (a_variant (moved_variant m d))
  -- a function has the same clause
  pub functions : (g : ℕ) (h : Func) → slice_get p.fns g ≡ Some h → HasClauseOf q.fns (m.functions g) h
