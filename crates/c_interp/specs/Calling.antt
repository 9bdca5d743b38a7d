-- How a function is entered.
use Rattle.std.specs.Prelude.{◌≡◌, ◌≤◌, ℕ, Bool, true, false, List, ◌++◌, map, length, drop, Option, Some, None, Result, Ok, Err, vec_capacity}
use Rattle.vlt_rings.specs.Things.{Things}
use Rattle.c_syntax.specs.View.{func_of}
use Rattle.c_syntax.specs.C.{Arg}
use Rattle.c_meaning.specs.World.{Vars}
use Rattle.c_meaning.specs.Values.{arg_values}
use Rattle.c_meaning.specs.Run.{Setup, Numbered, depth_in, has_room}
use Rattle.c_machine.specs.Machine.{value_under}
use Rattle.c_meaning.specs.Widths.{names_of}
use Rattle.c_values.specs.declared.value.Value.{Value}
use Rattle.c_values.specs.Shown.{value_view, shown_slots, AreMadeSlots}
use Rattle.c_interp.specs.declared.rules.Found.{Found}
use Rattle.c_interp.specs.declared.frames.Frames.{Frames}

abbrev pub numbered_of : Found → Numbered
numbered_of f = record { func = func_of f.func.now; first = f.first }

abbrev pub vars_of : Frames → Vars
vars_of f = value_under (names_of (func_of f.func.now)) (drop f.base (shown_slots f.values.items))

-- nothing but the values changed
pub record AreSame (old new : Frames) : Type 0 where
  pub base : new.base ≡ old.base
  pub func : new.func ≡ old.func
  pub glue : new.is_glue ≡ old.is_glue
  pub depth : new.depth ≡ old.depth

-- values stand after those of the running frame
pub record HasPushed (old new : Frames) (values : List Value) : Type 0 where
  pub same : AreSame old new
  pub items : new.values.items ≡ old.values.items ++ map Some values
  pub made : (ts : Things) → AreMadeSlots ts old.values.items → AreMadeSlots ts new.values.items
  pub room : vec_capacity old.values ≤ vec_capacity new.values

pub record AreGiven (xs : List Arg) (old new : Frames) : Type 0 where
  pub values : List Value
  pub pushed : HasPushed old new values
  pub count : length values ≡ length xs
  pub are : (ts : Things) → AreMadeSlots ts old.values.items → arg_values xs (vars_of old) ≡ Ok (map value_view values)

-- the values of arguments, or the rule that is broken
abbrev pub ArePushed : Result (Unit {0}) ℕ → List Arg → (old new : Frames) → Type 0
ArePushed (Ok u) xs old new = AreGiven xs old new
ArePushed (Err r) xs old new = (ts : Things) → AreMadeSlots ts old.values.items → arg_values xs (vars_of old) ≡ Err r

abbrev pub IsDepth : Setup → (glue : Bool) → ℕ → Option ℕ → Type 0
IsDepth r glue depth (Some d) = (has_room r glue depth ≡ true) × (d ≡ depth_in glue depth)
IsDepth r glue depth None = has_room r glue depth ≡ false
