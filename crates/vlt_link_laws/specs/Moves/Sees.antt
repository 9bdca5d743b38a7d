-- A table of kinds that knows what another one knows, at other numbers: the joined program's beside a view's. It may know more names.
-- A type that is abstract in the first may be a struct in the second, and an external may have a body there.
use Rattle.std.specs.Prelude.{◌≡◌, ◌⊎◌, ℕ, ◌==◌, true, false, List, map, Some, None, slice_get}
use Rattle.std.specs.Option.{option_map}
use Rattle.vlt_syntax.specs.Tree.{Name}
use Rattle.vlt_syntax.specs.Lists.{Each}
use Rattle.vlt_core.specs.Core.{StructDecl, VariantDecl, a_struct, a_variant, Ty, Func}
use Rattle.vlt_core.specs.Types.{is_droppable_struct, is_droppable}
use Rattle.vlt_link_laws.specs.CoreMoves.Moves.{Moves, moved_ty, moved_struct, moved_variant, moved_key, moved_var}
use Rattle.vlt_kinds_types.specs.Names.Globals.{global_in, is_global}
use Rattle.vlt_kinds_types.specs.declared.names.globals.Entity.{Entity}
use Rattle.vlt_kinds_types.specs.declared.names.globals.Entity.TheVariants.{ASet, AType, AFunction}
use Rattle.vlt_kinds_types.specs.declared.shapes.Sort.{Sort}
use Rattle.vlt_kinds_types.specs.declared.shapes.Sort.TheVariants as sort
use Rattle.vlt_kinds_types.specs.declared.shapes.Wanted.{Wanted}
use Rattle.vlt_kinds_types.specs.declared.shapes.Wanted.TheVariants as wanted
use Rattle.vlt_kinds_types.specs.declared.shapes.Shape.{Shape}
use Rattle.vlt_kinds_types.specs.Files.{state_names}
use Rattle.vlt_kinds_types.specs.Kinds.{Kinds, declared_program}
use Rattle.vlt_resolve_exprs.specs.Scopes.{Scope}

module _ (m : Moves) where
  abbrev pub moved_global : Entity → Entity
  moved_global (ASet i) = ASet (m.sets i)
  moved_global (AType t) = AType (m.types t)
  moved_global (AFunction f) = AFunction (m.functions f)

  abbrev pub moved_wanted : Wanted → Wanted
  moved_wanted wanted.Any = wanted.Any
  moved_wanted wanted.Unknown = wanted.Unknown
  moved_wanted (wanted.OfType t) = wanted.OfType (m.types t)

  abbrev pub moved_scope : Scope → Scope
  moved_scope s = record {
    names = s.names;
    keys = map (moved_key m) s.keys;
    vars = map (moved_var m) s.vars;
    block_keys = s.block_keys;
    block_vars = s.block_vars;
  }

  -- an abstract type may have become a struct
  abbrev pub IsSort : (before after : Sort) → Type 0
  IsSort a b = (b ≡ a) ⊎ ((a ≡ sort.Abstract) × (b ≡ sort.Struct))

  -- what the second knows of a type of this shape
  pub record IsShapeIn (a b : Kinds) (t : ℕ) (s : Shape) : Type 0 where
    pub shape : Shape
    pub there : slice_get b.file.shapes (m.types t) ≡ Some shape
    pub sort : IsSort s.sort shape.sort
    pub header : shape.header ≡ map moved_wanted s.header
    pub states : state_names b.file (Some shape) ≡ state_names a.file (Some s)

  -- the second knows the same head, but that it may have got a body
  pub record IsHeadIn (b : Kinds) (f : ℕ) (h : Func) : Type 0 where
    pub head : Func
    pub there : slice_get b.heads (m.functions f) ≡ Some head
    pub result : head.result ≡ option_map (moved_ty m) h.result
    pub clause : head.clause ≡ h.clause
    pub keys : head.keys ≡ map (moved_key m) h.keys
    pub vars : head.vars ≡ map (moved_var m) h.vars

  pub record Sees (a b : Kinds) : Type 0 where
    pub apart : (t u : ℕ) → (m.types t == m.types u) ≡ (t == u)
    pub names : (n : List ℕ) (g : Entity) → global_in a.file.globals n ≡ Some g →
        global_in b.file.globals n ≡ Some (moved_global g)
    pub shapes : (t : ℕ) (s : Shape) → slice_get a.file.shapes t ≡ Some s → IsShapeIn a b t s
    -- and what isn't there stays so
    pub past : (t : ℕ) → slice_get a.file.shapes t ≡ None →
        slice_get b.file.shapes (m.types t) ≡ None
    pub structs : (t : ℕ) (d : StructDecl) → slice_get a.types t ≡ Some (a_struct d) →
        slice_get b.types (m.types t) ≡ Some (a_struct (moved_struct m d))
    pub variants : (t : ℕ) (d : VariantDecl) → slice_get a.types t ≡ Some (a_variant d) →
        slice_get b.types (m.types t) ≡ Some (a_variant (moved_variant m d))
    pub heads : (f : ℕ) (h : Func) → slice_get a.heads f ≡ Some h → IsHeadIn b f h
    -- what may be dropped still may
    pub drops : (t : ℕ) → is_droppable_struct (declared_program a) t ≡ true →
        is_droppable_struct (declared_program b) (m.types t) ≡ true
    pub drops_values : (ty : Ty) → is_droppable (declared_program a) ty ≡ true →
        is_droppable (declared_program b) (moved_ty m ty) ≡ true

-- a name that isn't one of the first file's isn't one of the second's
abbrev pub IsFree : (a b : Kinds) → List ℕ → Type 0
IsFree a b n = is_global a.file.globals n ≡ false → is_global b.file.globals n ≡ false

abbrev pub AreFree : (a b : Kinds) → List Name → Type 0
AreFree a b = Each (λ n. IsFree a b n.text)
