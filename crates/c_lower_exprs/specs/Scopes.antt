-- What a scope holds of its program and function, and what is looked up there.
use Rattle.std.specs.Prelude.{ℕ, List, take, Option, slice_get}
use Rattle.std.specs.Option.{option_map}
use Rattle.vlt_core.specs.Core.{FieldDecl, Program, Func}
use Rattle.vlt_core.specs.Lookups.{fields_of}
use Rattle.vlt_core.specs.View.{program_of, func_of}
use Rattle.c_lower.specs.Slots as s
use Rattle.c_lower.specs.Slots.{past_all, first_numbers, field_sorts, slot_sorts}
use Rattle.c_lower_exprs.specs.declared.tables.ProgramTables.{ProgramTables}
use Rattle.c_lower_exprs.specs.declared.scope.Scope.{Scope}
use Rattle.c_lower_exprs.specs.declared.payloads.Starts.{Starts}
use Rattle.c_lower_exprs.specs.Tables.{FieldAt, AreWidths, AreStructs, IsFrame}
use Rattle.c_lower_exprs.specs.Names.{AreNames}

pub record AreTables (p : Program) (x : ProgramTables) : Type 0 where
  pub variants : AreWidths p x.variants
  pub structs : AreStructs p x.structs
  pub names : AreNames p x.names

-- the plain program and function that a scope is of
abbrev pub program_in : Scope → Program
program_in x = program_of x.program.now

abbrev pub func_in : Scope → Func
func_in x = func_of x.func.now

pub record IsScope (x : Scope) : Type 0 where
  pub tables : AreTables (program_in x) x.tables.now
  pub frame : IsFrame (program_in x) (func_in x) x.frame.now

-- a field of a list whose cells begin at these numbers
abbrev pub field_from : Program → s.Numbers → List FieldDecl → (i : ℕ) → FieldDecl → FieldAt
field_from p t ds i d = record { start = past_all t (field_sorts p (take i ds)); sorts = slot_sorts p d.ty }

-- a field of a type, by its position
abbrev pub field_at : Program → (type position : ℕ) → Option FieldAt
field_at p t i = option_map (field_from p first_numbers (fields_of p t) i) (slice_get (fields_of p t) i)

abbrev pub starts_of : Starts → s.Starts
starts_of x = record { number = x.number; reference = x.reference; owner = x.owner }
