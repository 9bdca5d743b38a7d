-- Payloads of a variant, by their positions.
use Rattle.std.specs.Prelude.{ℕ, List, [], ◌∷◌, Option, Some, None, slice_get}
use Rattle.vlt_core.specs.Core.{Func, Program}
use Rattle.c_syntax.specs.declared.program.CVar.{CVar}
use Rattle.c_syntax.specs.C as c
use Rattle.c_syntax.specs.C.{Stmt}
use Rattle.c_lower.specs.Slots.{Slot, no_slot, slot_of, var_slots}

-- the slot at a position of a variant
abbrev pub slot_in : Option Slot → CVar
slot_in None = no_slot
slot_in (Some s) = s.var

abbrev pub slot_at : List Slot → (position : ℕ) → CVar
slot_at slots i = slot_in (slice_get slots i)

-- payloads of a case go into variables: `arm_copies`, in the words of slots
abbrev pub payloads_copied : Program → Func → (v : ℕ) → (positions vs : List ℕ) → List Stmt
payloads_copied p f v (i ∷ is) (w ∷ ws) =
    c.set (slot_of p f w) (c.variable (slot_at (var_slots p f v) i)) ∷ payloads_copied p f v is ws
payloads_copied p f v _ _ = []
