-- What the tables of the code hold, as plain data, and what they hold of a program.
use Rattle.std.specs.Prelude.{◌≡◌, ℕ, Bool, List, [], ◌∷◌, ◌++◌, map, replicate, Some}
use Rattle.std.specs.List.{count_by}
use Rattle.vlt_core.specs.Core as core
use Rattle.vlt_core.specs.Core.{Ty, FieldDecl, VarDecl, TypeDecl, Program, Func}
use Rattle.vlt_core.specs.Lookups.{is_owning, cases_in, fields_in}
use Rattle.vlt_core.specs.Widths.{greatest, is_number, is_guarded, most_of}
use Rattle.c_lower.specs.Slots as s
use Rattle.c_lower.specs.Slots.{of_number, of_reference, of_owner, first_numbers, first_temps, past, past_all, var_at, vars_at, slot_sorts, sorted_slots}
use Rattle.c_lower_exprs.specs.declared.numbers.Numbers.{Numbers}
use Rattle.c_lower_exprs.specs.declared.numbers.Temp.{Temp}
use Rattle.c_lower_exprs.specs.declared.sorts.Sort.{Sort}
use Rattle.c_lower_exprs.specs.declared.sorts.Sort.TheVariants as sort
use Rattle.c_lower_exprs.specs.declared.variants.VariantWidths.{VariantWidths}
use Rattle.c_lower_exprs.specs.declared.fields.FieldSlots.{FieldSlots}
use Rattle.c_lower_exprs.specs.declared.fields.StructSlots.{StructSlots}
use Rattle.c_lower_exprs.specs.declared.frame.Slot.{Slot}
use Rattle.c_lower_exprs.specs.declared.frame.FrameSlots.{FrameSlots}

-- ---- views

abbrev pub numbers_of : Numbers → s.Numbers
numbers_of t = record { n = t.n; p = t.p }

-- a temp at these numbers
pub record IsTempAt (t : s.Numbers) (sort : s.Sort) (x : Temp) : Type 0 where
  pub variable : x.variable ≡ var_at t sort
  pub next : numbers_of x.next ≡ past t sort

abbrev pub sort_of : Sort → s.Sort
sort_of sort.Number = of_number
sort_of sort.Reference = of_reference
sort_of sort.Owner = of_owner

abbrev pub slot_view : Slot → s.Slot
slot_view x = record { var = x.var; sort = sort_of x.sort }

-- ---- variants: how many slots of each sort follow that of the case

pub record Widths : Type 0 where
  pub numbers : ℕ
  pub references : ℕ
  pub owners : ℕ

abbrev pub widths_view : VariantWidths → Widths
widths_view w = record { numbers = w.numbers; references = w.references; owners = w.owners }

abbrev pub is_of : Sort → Ty → Bool
is_of sort.Number = is_number
is_of sort.Reference = is_guarded
is_of sort.Owner = is_owning

abbrev pub widths_of_cases : List core.CaseDecl → Widths
widths_of_cases cases = record {
  numbers = greatest (λ c. count_by is_number c.payload) cases;
  references = greatest (λ c. count_by is_guarded c.payload) cases;
  owners = greatest (λ c. count_by is_owning c.payload) cases;
}

abbrev pub widths_in : TypeDecl → Widths
widths_in d = widths_of_cases (cases_in (Some d))

-- those of a declared type, whatever its number
abbrev pub widths_at : Program → (type : ℕ) → Widths
widths_at p t = record { numbers = most_of is_number p t; references = most_of is_guarded p t; owners = most_of is_owning p t }

abbrev pub sorts_in : Widths → List s.Sort
sorts_in w = of_number ∷ replicate w.numbers of_number ++ replicate w.references of_reference ++ replicate w.owners of_owner

-- one for each declared type; a type that is no variant has no such slots
abbrev pub AreWidths : Program → List VariantWidths → Type 0
AreWidths p table = map widths_view table ≡ map widths_in p.types

-- ---- structs: where each field begins, and the sorts of its cells

pub record FieldAt : Type 0 where
  pub start : s.Numbers
  pub sorts : List s.Sort

abbrev pub field_view : FieldSlots → FieldAt
field_view x = record { start = numbers_of x.start; sorts = map sort_of x.sorts }

pub record StructAt : Type 0 where
  pub fields : List FieldAt
  -- how many cells of both kinds all fields take
  pub counts : s.Numbers

abbrev pub struct_view : StructSlots → StructAt
struct_view x = record { fields = map field_view x.fields; counts = numbers_of x.counts }

abbrev pub fields_laid : Program → s.Numbers → List FieldDecl → List FieldAt
fields_laid p t [] = []
fields_laid p t (d ∷ ds) = record { start = t; sorts = slot_sorts p d.ty } ∷ fields_laid p (past_all t (slot_sorts p d.ty)) ds

abbrev pub past_fields : Program → s.Numbers → List FieldDecl → s.Numbers
past_fields p t [] = t
past_fields p t (d ∷ ds) = past_fields p (past_all t (slot_sorts p d.ty)) ds

abbrev pub struct_laid : Program → List FieldDecl → StructAt
struct_laid p ds = record { fields = fields_laid p first_numbers ds; counts = past_fields p first_numbers ds }

abbrev pub AreStructs : Program → List StructSlots → Type 0
AreStructs p table = map struct_view table ≡ map (λ d. struct_laid p (fields_in (Some d))) p.types

-- ---- frames: the slots of each variable

abbrev pub vars_laid : Program → s.Numbers → List VarDecl → List (List s.Slot)
vars_laid p t [] = []
vars_laid p t (d ∷ ds) =
    sorted_slots (slot_sorts p d.ty) (vars_at t (slot_sorts p d.ty)) ∷ vars_laid p (past_all t (slot_sorts p d.ty)) ds

abbrev pub past_vars : Program → s.Numbers → List VarDecl → s.Numbers
past_vars p t [] = t
past_vars p t (d ∷ ds) = past_vars p (past_all t (slot_sorts p d.ty)) ds

-- one list for each variable
abbrev pub AreSlots : Program → Func → List (List Slot) → Type 0
AreSlots p f table = map (map slot_view) table ≡ vars_laid p first_numbers f.vars

pub record IsFrame (p : Program) (f : Func) (x : FrameSlots) : Type 0 where
  pub slots : AreSlots p f x.vars
  pub temps : numbers_of x.temps ≡ first_temps p f
