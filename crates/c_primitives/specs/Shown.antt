-- The world that the code's world shows, and what a statement comes to.
use Rattle.std.specs.Prelude.{◌≡◌, ◌⊎◌, ◌<◌, ◌≤◌, ℕ, ◌+◌, ◌*◌, ◌-◌, ◌^◌, List, ◌++◌, map, length, drop, Option, Some, Result, Ok, Err, option_map, slice_get, vec_capacity, codes}
use Rattle.std.specs.List.{flat_map}
use Rattle.vlt_rings.specs.Things.{Things, KeepMade}
use Rattle.vlt_numbers.specs.HostAnswers.{lists_of}
use Rattle.c_syntax.specs.declared.program.CPrim.{CPrim}
use Rattle.c_syntax.specs.declared.program.CCell.{CCell}
use Rattle.c_syntax.specs.C as c
use Rattle.c_syntax.specs.C.{Arg}
use Rattle.c_meaning.specs.World as model
use Rattle.c_meaning.specs.World.{Vars, Told, told_text}
use Rattle.c_meaning.specs.Primitives.{Effect, gives, breaks_rule, ends, write_effect}
use Rattle.c_meaning.specs.Widths.{cells_in_call}
use Rattle.c_machine.specs.Within.{name_in_call}
use Rattle.c_memory.specs.declared.cells.Ref.{Ref}
use Rattle.c_memory.specs.Shown.{number_of, heap_of, cells_of, IsSound, IsMade, Holds, blocks_of}
use Rattle.c_values.specs.declared.value.Value.{Value}
use Rattle.c_values.specs.declared.vars.Vars.{Vars as Frame}
use Rattle.c_values.specs.Shown.{value_view, shown_vars, AreMadeSlots, IsMadeValue, IsMadeSlot}
use Rattle.c_primitives.specs.declared.halt.Halt.{Halt}
use Rattle.c_primitives.specs.declared.halt.Halt.TheVariants.{Broken}
use Rattle.vlt_steps.specs.Writing.{Outside}
use Rattle.c_primitives.specs.Stops.{Wrote, IsCut, HasStopped}
use Rattle.c_primitives.specs.declared.world.Talk.{Talk}
use Rattle.c_primitives.specs.declared.world.Talk.TheVariants.{Idle, Calling, Reading}
use Rattle.c_primitives.specs.declared.world.World.{World}

-- ---- the world that is shown

abbrev pub shown_references : List (Option (Option Ref)) → List (Option (Option ℕ))
shown_references = map (option_map number_of)

abbrev pub AreMadeRegisters : Things → List (Option (Option Ref)) → Type 0
AreMadeRegisters ts xs = (i : ℕ) (r : Option Ref) → slice_get xs i ≡ Some (Some r) → IsMade ts r

-- the line of a call so far
abbrev pub call_text : (name : List ℕ) → List Told → List ℕ
call_text name args = codes "@" ++ name ++ flat_map told_text args

pub record IsCall (told : ℕ) (line name : List ℕ) (args : List Told) : Type 0 where
  pub count : length args ≡ told
  pub text : line ≡ call_text name args

abbrev pub TalkShows : Talk → (line : List ℕ) → model.Talk → Type 0
TalkShows Idle line model.idle = Unit {0}
TalkShows (Calling told) line (model.calling name args) = IsCall told line name args
TalkShows (Reading zs) line (model.reading left) = zs.now ≡ left
TalkShows _ line _ = ⊥

-- the things are the blocks that were made
pub record Shows (s : World) (ts : Things) (w : model.World) : Type 0 where
  pub holds : Holds s.blocks ts
  pub blocks : w.blocks ≡ blocks_of s.blocks ts
  pub numbers : w.number_registers ≡ s.numbers.items
  pub references : w.reference_registers ≡ shown_references s.references.items
  pub made : AreMadeRegisters ts s.references.items
  pub fuel : w.fuel ≡ s.fuel
  pub input : w.input ≡ s.input.now
  pub answers : w.answers ≡ drop s.taken (lists_of s.answers.now)
  pub taken : w.taken ≡ s.taken
  pub talk : TalkShows s.talk s.line.items w.talk

-- ---- what the code's world needs

-- how many arguments a call has at most, and how long their text is
abbrev pub max_told : ℕ
max_told = 16

abbrev pub max_text : ℕ
max_text = 42

abbrev pub HasLine : Talk → (long room : ℕ) → Type 0
HasLine Idle long room = Unit {0}
HasLine (Calling told) long room = (told ≤ max_told) × (long + max_text * (max_told - told) + 1 ≤ room)
HasLine (Reading zs) long room = Unit {0}

pub record IsReady (s : World) : Type 0 where
  pub sound : IsSound s.blocks
  pub heap : heap_of s.blocks ≡ s.heap
  pub cells : cells_of s.blocks < 2 ^ 32
  pub line : HasLine s.talk (length s.line.items) (vec_capacity s.line)

-- as much room as before
pub record KeepsRoom (old new : World) : Type 0 where
  pub heap : new.heap ≡ old.heap
  pub cells : cells_of new.blocks ≡ cells_of old.blocks
  pub line : vec_capacity old.line ≤ vec_capacity new.line

-- there is room for what a call asks for
pub record HasRoomFor (s : World) (p : CPrim) (xs : List Arg) : Type 0 where
  pub cells : 1 ≤ s.heap → cells_in_call (c.primitive p xs) ≤ cells_of s.blocks
  pub name : name_in_call (c.primitive p xs) + 674 ≤ vec_capacity s.line

-- ---- what a statement comes to

-- the run goes on, with a value or without one
pub record Gave (ts : Things) (s : World) (w : model.World) (before after : Outside) (a : Option Value) (b : Option model.Value) (v : model.World) : Type 0 where
  pub things : Things
  pub kept : KeepMade ts things
  pub shown : Shows s things v
  pub value : option_map value_view a ≡ b
  pub made : IsMadeSlot things a
  pub wrote : Wrote w v before after

pub record Broke (s : World) (w : model.World) (before after : Outside) (h : Halt) (rule : ℕ) : Type 0 where
  pub is : h ≡ Broken rule
  pub fuel : w.fuel ≡ s.fuel
  pub silent : after ≡ before

abbrev pub Comes : Things → (new : World) → model.World → (before after : Outside) → Result (Option Value) Halt → Effect → Type 0
Comes ts s w before after (Ok a) (gives b v) = Gave ts s w before after a b v
Comes ts s w before after (Err h) (gives b v) = IsCut w before after h v
Comes ts s w before after (Ok a) (breaks_rule r) = ⊥
Comes ts s w before after (Err h) (breaks_rule r) = Broke s w before after h r
Comes ts s w before after (Ok a) (ends o v) = ⊥
-- the run may end after what the sink took a part of
Comes ts s w before after (Err h) (ends o v) = HasStopped w before after s.fuel h o v ⊎ IsCut w before after h v

pub record Does (old new : World) (frame : Frame) (before after : Outside) (result : Result (Option Value) Halt) (effect : Vars → model.World → Effect) : Type 0 where
  pub ready : IsReady new
  pub room : KeepsRoom old new
  pub comes : (ts : Things) (w : model.World) → Shows old ts w → AreMadeSlots ts frame.values.now → Comes ts new w before after result (effect (shown_vars frame) w)

-- nothing is written
abbrev pub DoesSilently : (old new : World) → Frame → Result (Option Value) Halt → (Vars → model.World → Effect) → Type 0
DoesSilently old new frame result effect = (b : Outside) → Does old new frame b b result effect

-- a value is written to a cell of a block
pub record DoesWrite (x : CCell) (p : Option Ref) (a : Value) (old new : World) (result : Result (Option Value) Halt) : Type 0 where
  pub ready : IsReady new
  pub room : KeepsRoom old new
  pub comes : (b : Outside) (ts : Things) (w : model.World) → Shows old ts w → IsMade ts p → IsMadeValue ts a
      → Comes ts new w b b result (write_effect x (number_of p) (value_view a) w)
