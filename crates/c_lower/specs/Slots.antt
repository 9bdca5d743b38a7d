-- Where the values of a program stand in C: each in slots, which are `n` and `p` variables in a function, and cells of
-- both kinds in a block.
use Rattle.std.specs.Prelude.{ℕ, suc, ◌+◌, Bool, true, false, if◌then◌else◌, List, [], ◌∷◌, ◌++◌, map, take, replicate, Option, Some, None, slice_get}
use Rattle.std.specs.List.{flat_map, zip}
use Rattle.vlt_core.specs.Core.{Ty, int, bool, tracked, owning, guarded, variant, owning_variant, FieldDecl, VarDecl, Func, Program}
use Rattle.vlt_core.specs.Lookups.{is_owning, fields_of, var_type}
use Rattle.vlt_core.specs.Widths.{is_number, is_guarded, most_of}
use Rattle.c_syntax.specs.declared.program.CVar.{CVar}
use Rattle.c_syntax.specs.declared.program.CCell.{CCell}
use Rattle.c_syntax.specs.declared.program.CCell.TheVariants as cell

-- what stands in a slot: a number, a reference that owns nothing, or one that owns its object
pub data Sort : Type 0 where
  of_number : Sort
  of_reference : Sort
  of_owner : Sort

abbrev pub is_owner_sort : Sort → Bool
is_owner_sort of_owner = true
is_owner_sort _ = false

-- A variant has a slot for the number of its case, and then for each sort as many as the case with most of it needs.
abbrev pub variant_sorts : Program → (type : ℕ) → List Sort
variant_sorts p t =
    of_number ∷ replicate (most_of is_number p t) of_number ++ replicate (most_of is_guarded p t) of_reference
    ++ replicate (most_of is_owning p t) of_owner

-- the slots of a value of the type; all but variants have one
abbrev pub slot_sorts : Program → Ty → List Sort
slot_sorts p int = of_number ∷ []
slot_sorts p bool = of_number ∷ []
slot_sorts p (tracked k t args) = of_reference ∷ []
slot_sorts p (owning states t args) = of_owner ∷ []
slot_sorts p (guarded k t args) = of_reference ∷ []
slot_sorts p (variant t args) = variant_sorts p t
slot_sorts p (owning_variant t args) = variant_sorts p t

abbrev pub sorts_of : Program → Option Ty → List Sort
sorts_of p None = []
sorts_of p (Some t) = slot_sorts p t

-- ---- numbers

-- the next numbers of both kinds
pub record Numbers : Type 0 where
  pub n : ℕ
  pub p : ℕ

abbrev pub first_numbers : Numbers
first_numbers = record { n = 0; p = 0 }

abbrev pub past : Numbers → Sort → Numbers
past t of_number = record t { n = suc t.n }
past t _ = record t { p = suc t.p }

abbrev pub past_all : Numbers → List Sort → Numbers
past_all t [] = t
past_all t (s ∷ ss) = past_all (past t s) ss

-- ---- variables

abbrev pub var_at : Numbers → Sort → CVar
var_at t of_number = record { reference = false; number = t.n }
var_at t _ = record { reference = true; number = t.p }

abbrev pub vars_at : Numbers → List Sort → List CVar
vars_at t [] = []
vars_at t (s ∷ ss) = var_at t s ∷ vars_at (past t s) ss

abbrev pub var_sorts : Program → List VarDecl → List Sort
var_sorts p = flat_map (λ d. slot_sorts p d.ty)

-- the slots of a function's variable: variables take slots in the order of their numbers
abbrev pub slot_vars : Program → Func → (v : ℕ) → List CVar
slot_vars p f v = vars_at (past_all first_numbers (var_sorts p (take v f.vars))) (sorts_of p (var_type f v))

abbrev pub param_slots : Program → Func → List CVar
param_slots p f = vars_at first_numbers (var_sorts p (take f.params f.vars))

-- the numbers after the slots of all variables
abbrev pub first_temps : Program → Func → Numbers
first_temps p f = past_all first_numbers (var_sorts p f.vars)

abbrev pub no_slot : CVar
no_slot = record { reference = true; number = 0 }

abbrev pub first_slot : List CVar → CVar
first_slot [] = no_slot
first_slot (v ∷ vs) = v

-- the one slot of a variable that is no variant
abbrev pub slot_of : Program → Func → (v : ℕ) → CVar
slot_of p f v = first_slot (slot_vars p f v)

-- a slot with what stands in it
pub record Slot : Type 0 where
  pub var : CVar
  pub sort : Sort

abbrev pub sorted_slots : List Sort → List CVar → List Slot
sorted_slots sorts vars = map (λ q. record { var = q.1; sort = q.0 }) (zip sorts vars)

abbrev pub var_slots : Program → Func → (v : ℕ) → List Slot
var_slots p f v = sorted_slots (sorts_of p (var_type f v)) (slot_vars p f v)

-- ---- cells

abbrev pub cell_at : (block : ℕ) → Numbers → Sort → CCell
cell_at b t of_number = cell.Number b t.n
cell_at b t _ = cell.Reference b t.p

abbrev pub cells_at : (block : ℕ) → Numbers → List Sort → List CCell
cells_at b t [] = []
cells_at b t (s ∷ ss) = cell_at b t s ∷ cells_at b (past t s) ss

abbrev pub field_sorts : Program → List FieldDecl → List Sort
field_sorts p = flat_map (λ d. slot_sorts p d.ty)

-- how many cells of both kinds a block of the type has
abbrev pub cell_counts : Program → (type : ℕ) → Numbers
cell_counts p t = past_all first_numbers (field_sorts p (fields_of p t))

abbrev pub sorts_of_field : Program → Option FieldDecl → List Sort
sorts_of_field p None = []
sorts_of_field p (Some d) = slot_sorts p d.ty

abbrev pub sorts_at : Program → (type position : ℕ) → List Sort
sorts_at p t i = sorts_of_field p (slice_get (fields_of p t) i)

-- the cells of a field: fields take cells in the order of the struct
abbrev pub field_cells : Program → (type position block : ℕ) → List CCell
field_cells p t i b = cells_at b (past_all first_numbers (field_sorts p (take i (fields_of p t)))) (sorts_at p t i)

-- the type of the object that a variable refers to
abbrev pub object_type_of : Option Ty → ℕ
object_type_of (Some (tracked k t args)) = t
object_type_of (Some (guarded k t args)) = t
object_type_of (Some (owning states t args)) = t
object_type_of _ = 0

abbrev pub object_type : Func → (x : ℕ) → ℕ
object_type f x = object_type_of (var_type f x)

-- the cells of a field of the object that a variable refers to, and their sorts
abbrev pub touched_cells : Program → Func → (x position : ℕ) → List CCell
touched_cells p f x i = field_cells p (object_type f x) i (slot_of p f x).number

abbrev pub cell_sorts : Program → Func → (x position : ℕ) → List Sort
cell_sorts p f x i = sorts_at p (object_type f x) i

-- ---- payloads

abbrev pub payload_sort : Ty → Sort
payload_sort t = if is_number t then of_number else if is_guarded t then of_reference else of_owner

-- the numbers after the case's, and the positions in a variant's slots where those of each sort begin
pub record Starts : Type 0 where
  pub number : ℕ
  pub reference : ℕ
  pub owner : ℕ

abbrev pub variant_starts : Program → (type : ℕ) → Starts
variant_starts p t =
    let references = suc (most_of is_number p t) in
    record { number = 1; reference = references; owner = references + most_of is_guarded p t }

abbrev pub start_of : Sort → Starts → ℕ
start_of of_number s = s.number
start_of of_reference s = s.reference
start_of of_owner s = s.owner

abbrev pub after_start : Sort → Starts → Starts
after_start of_number s = record s { number = suc s.number }
after_start of_reference s = record s { reference = suc s.reference }
after_start of_owner s = record s { owner = suc s.owner }

-- each payload takes the next slot of its sort
abbrev pub payload_positions : Starts → List Ty → List ℕ
payload_positions s [] = []
payload_positions s (t ∷ ts) =
    start_of (payload_sort t) s ∷ payload_positions (after_start (payload_sort t) s) ts
