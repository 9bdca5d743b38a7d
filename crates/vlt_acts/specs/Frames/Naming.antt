-- Keys of a caller that were named. This serves the proof alone.
use Rattle.std.specs.Prelude.{◌≡◌, ◌<◌, ◌≤◌, ℕ, List, length, Option, None, Some, slice_get, vec_capacity}
use Rattle.vlt_base.specs.declared.ids.VarId.{VarId}
use Rattle.vlt_core.specs.Core.{Entry}
use Rattle.vlt_heap.specs.Items.{Items}
use Rattle.vlt_meaning.specs.World.{Frame}
use Rattle.vlt_meaning.specs.Calls.{bindings, with_names}
use Rattle.vlt_acts.specs.declared.values.values.Values.{Values}
use Rattle.vlt_acts.specs.Values.Filled.{IsFilled}
use Rattle.vlt_acts.specs.Values.Shown.{ShowsFrame, var_at, key_at, AreApart, IsKept, IsSlotFrom}
use Rattle.vlt_acts.specs.Frames.Left.{AreKept, value_at}

-- the keys have slots, all below `top`
abbrev pub KeysBelow : (keys : List ℕ) → (top : ℕ) → Values → Type 0
KeysBelow keys top values = (i k : ℕ) → slice_get keys i ≡ Some k → key_at values k < top

-- only slots of keys below `top` changed
pub record IsNamed (top : ℕ) (old new : Values) : Type 0 where
  pub following : (j : ℕ) → top ≤ j → slice_get new.slots.items j ≡ slice_get old.slots.items j
  pub below : (j : ℕ) → j < old.base → slice_get new.slots.items j ≡ slice_get old.slots.items j
  pub long : length new.slots.items ≡ length old.slots.items
  pub room : vec_capacity new.slots ≡ vec_capacity old.slots
  pub base : new.base ≡ old.base
  pub vars : new.vars ≡ old.vars
  pub width : new.width ≡ old.width

-- the caller's keys of these entries name the objects that are kept
abbrev pub Names : List Entry → (keys : List ℕ) → (top from value : ℕ) → (old new : Values) → Type 0
Names es keys top from value old new =
    (items : Items) (frame : Frame) (ns : List ℕ) → AreKept items old.slots.items top from value es ns → ShowsFrame items old frame →
    ShowsFrame items new (with_names (bindings keys es ns) frame)

-- the value at the end was copied to the variable
pub record IsCopiedTo (to : ℕ) (old new : Values) : Type 0 where
  pub kept : IsKept to old new
  pub filled : AreApart (value_at old) to old.width →
      IsFilled (IsSlotFrom old (value_at old)) new.slots.items to old.width

abbrev pub IsDelivered : Option VarId → (old new : Values) → Type 0
IsDelivered None old new = new ≡ old
IsDelivered (Some v) old new = IsCopiedTo (var_at old v.0) old new
