-- The C world that stands for a world of the source: object n is block n.
use Rattle.std.specs.Prelude.{◌≡◌, ℕ, suc, ◌==◌, ℤ, pos, if◌then◌else◌, List, [], ◌∷◌, ◌++◌, map, length, Option, Some, None}
use Rattle.std.specs.List.{flat_map}
use Rattle.vlt_core.specs.Core.{Ty, variant, owning_variant, FieldDecl, Program}
use Rattle.vlt_core.specs.Lookups.{fields_of}
use Rattle.vlt_meaning.specs.World.{Part, number, reference, owned, Value, one, of_case, Owner, gone, above, is_out, Object, Event, printed, called, World}
use Rattle.c_lower.specs.Slots.{Sort, of_number, variant_sorts}
use Rattle.c_lower.specs.Statements.{case_positions, after_first}
use Rattle.c_meaning.specs.Blocks.{Block, Blocks}
use Rattle.c_meaning.specs.World as c

-- ---- values

abbrev pub c_part : Part → c.Value
c_part (number z) = c.number z
c_part (reference n) = c.reference (Some n)
c_part (owned n) = c.reference (Some n)

-- what a variant's slot has that no payload of the case takes
abbrev pub unused : Sort → c.Value
unused of_number = c.number (pos 0)
unused _ = c.reference None

-- what stands at a position of a variant's slots: the payload that goes there
abbrev pub case_value : Sort → (position : ℕ) → (positions : List ℕ) → List Part → c.Value
case_value s i (j ∷ js) (a ∷ rest) = if i == j then c_part a else case_value s i js rest
case_value s i _ _ = unused s

abbrev pub case_values : (position : ℕ) → (positions : List ℕ) → List Part → List Sort →
    List c.Value
case_values i js parts [] = []
case_values i js parts (s ∷ ss) = case_value s i js parts ∷ case_values (suc i) js parts ss

abbrev pub variant_values : Program → (type case : ℕ) → List Part → List c.Value
variant_values p t k parts =
    c.number (pos k) ∷ case_values 1 (case_positions p t k) parts (after_first (variant_sorts p t))

-- the values in the slots of a value of the type
abbrev pub slot_values : Program → Ty → Value → List c.Value
slot_values p ty (one a) = c_part a ∷ []
slot_values p (variant t args) (of_case k parts keys) = variant_values p t k parts
slot_values p (owning_variant t args) (of_case k parts keys) = variant_values p t k parts
slot_values p ty (of_case k parts keys) = []

-- ---- blocks

abbrev pub numbers_in : List c.Value → List (Option ℤ)
numbers_in [] = []
numbers_in (c.number z ∷ vs) = Some z ∷ numbers_in vs
numbers_in (c.reference p ∷ vs) = numbers_in vs

abbrev pub references_in : List c.Value → List (Option (Option ℕ))
references_in [] = []
references_in (c.number z ∷ vs) = references_in vs
references_in (c.reference p ∷ vs) = Some p ∷ references_in vs

-- the values in the cells of an object, field by field
abbrev pub cell_values : Program → List FieldDecl → List Value → List c.Value
cell_values p (d ∷ ds) (a ∷ cells) = slot_values p d.ty a ++ cell_values p ds cells
cell_values p _ _ = []

-- a released object's block is dead
abbrev pub block_with : Owner → List c.Value → Option Block
block_with gone vs = None
block_with o vs =
    Some (record {
      parent =
          above o;
      is_out = is_out o;
      numbers = numbers_in vs;
      references = references_in vs;
    })

abbrev pub block_of : Program → Object → Option Block
block_of p o = block_with o.owner (cell_values p (fields_of p o.type) o.cells)

abbrev pub blocks_of : Program → List Object → Blocks
blocks_of p = map (block_of p)

-- ---- events

abbrev pub told_part : Part → c.Told
told_part (number z) = c.told_number z
told_part (reference n) = c.told_block n
told_part (owned n) = c.told_block n

-- no variant is handed to an external
abbrev pub told_by : Value → List c.Told
told_by (one a) = told_part a ∷ []
told_by (of_case k parts keys) = []

abbrev pub c_event : Event → c.Event
c_event (printed z) = c.printed z
c_event (called name args) = c.called name (flat_map told_by args)

-- ---- worlds

-- what the registers have is left by the calls before
pub record Registers : Type 0 where
  pub numbers : List (Option ℤ)
  pub references : List (Option (Option ℕ))

pub record AreRegisters (g : Registers) : Type 0 where
  pub numbers : length g.numbers ≡ 8
  pub references : length g.references ≡ 16

abbrev pub c_world : Program → Registers → World → c.World
c_world p g w = record {
  blocks = blocks_of p w.objects;
  number_registers = g.numbers;
  reference_registers = g.references;
  fuel = w.fuel;
  input = w.input;
  answers = w.answers;
  taken = w.taken;
  talk = c.idle;
  events = map c_event w.events;
}
