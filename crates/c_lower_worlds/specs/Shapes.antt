-- Which values have the shape of a type.
use Rattle.std.specs.Prelude.{◌≡◌, ℕ, ℤ, true, List, [], ◌∷◌, map, Some, slice_get}
use Rattle.vlt_ops.specs.Operator.{is_in_range}
use Rattle.vlt_core.specs.Core.{Ty, int, bool, tracked, owning, guarded, variant, owning_variant, FieldDecl, CaseDecl, Program}
use Rattle.vlt_core.specs.Lookups.{fields_of, case_at}
use Rattle.vlt_meaning.specs.World.{Part, reference, owned, Value, one, of_case, Object}

-- the types of all objects, by position; no object's type ever changes
abbrev pub types_of : List Object → List ℕ
types_of = map (λ o. o.type)

pub record IsNumber (part : Part) : Type 0 where
  pub number : ℤ
  pub is : part ≡ Rattle.vlt_meaning.specs.World.number number
  pub range : is_in_range number ≡ true

pub record IsReferenceTo (types : List ℕ) (type : ℕ) (part : Part) : Type 0 where
  pub object : ℕ
  pub is : part ≡ reference object
  pub of : slice_get types object ≡ Some type

pub record IsOwnedOf (types : List ℕ) (type : ℕ) (part : Part) : Type 0 where
  pub object : ℕ
  pub is : part ≡ owned object
  pub of : slice_get types object ≡ Some type

-- a payload is no reference that a key guards by itself, and no variant
abbrev pub HasPayloadShape : List ℕ → Ty → Part → Type 0
HasPayloadShape ts int a = IsNumber a
HasPayloadShape ts bool a = IsNumber a
HasPayloadShape ts (guarded k t args) a = IsReferenceTo ts t a
HasPayloadShape ts (owning states t args) a = IsOwnedOf ts t a
HasPayloadShape ts ty a = ⊥

abbrev pub HasPartShape : List ℕ → Ty → Part → Type 0
HasPartShape ts (tracked k t args) a = IsReferenceTo ts t a
HasPartShape ts ty a = HasPayloadShape ts ty a

abbrev pub HavePayloadShapes : List ℕ → List Ty → List Part → Type 0
HavePayloadShapes ts [] [] = Unit {0}
HavePayloadShapes ts (t ∷ rest) (a ∷ parts) =
    HasPayloadShape ts t a × HavePayloadShapes ts rest parts
HavePayloadShapes ts _ _ = ⊥

pub record IsOne (types : List ℕ) (ty : Ty) (value : Value) : Type 0 where
  pub part : Part
  pub is : value ≡ one part
  pub shape : HasPartShape types ty part

pub record IsCase (p : Program) (types : List ℕ) (type : ℕ) (value : Value) : Type 0 where
  pub case : ℕ
  pub decl : CaseDecl
  pub parts : List Part
  pub keys : List ℕ
  pub is : value ≡ of_case case parts keys
  pub declared : case_at p type case ≡ Some decl
  pub shape : HavePayloadShapes types decl.payload parts
  -- where the case lists no keys, the value has no objects of any
  pub bare : decl.keys ≡ [] → keys ≡ []

abbrev pub HasShape : Program → List ℕ → Ty → Value → Type 0
HasShape p ts (variant t args) a = IsCase p ts t a
HasShape p ts (owning_variant t args) a = IsCase p ts t a
HasShape p ts ty a = IsOne ts ty a

abbrev pub HaveCellShapes : Program → List ℕ → List FieldDecl → List Value → Type 0
HaveCellShapes p ts [] [] = Unit {0}
HaveCellShapes p ts (d ∷ ds) (a ∷ cells) = HasShape p ts d.ty a × HaveCellShapes p ts ds cells
HaveCellShapes p ts _ _ = ⊥

-- each object has a value of the right shape for each field of its type
pub record AreShaped (p : Program) (objects : List Object) : Type 0 where
  pub each : (n : ℕ) (o : Object) → slice_get objects n ≡ Some o →
      HaveCellShapes p (types_of objects) (fields_of p o.type) o.cells
