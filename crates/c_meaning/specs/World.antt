-- What a run of a C program works on, and how it ends.
use Rattle.std.specs.Prelude.{ℕ, ◌+◌, ℤ, pos, List, [], ◌++◌, replicate, Option, None, codes}
use Rattle.std.specs.List.{flat_map}
use Rattle.std.specs.Fmt.{signed_decimal}
use Rattle.vlt_ops.specs.declared.TrapKind.{TrapKind}
use Rattle.c_syntax.specs.declared.program.CVar.{CVar}
use Rattle.c_meaning.specs.Blocks.{Blocks}

-- a null reference goes to no block
pub data Value : Type 0 where
  number : ℤ → Value
  reference : Option ℕ → Value

-- ---- events

-- what an external is told
pub data Told : Type 0 where
  told_number : ℤ → Told
  told_block : (n : ℕ) → Told

pub data Event : Type 0 where
  printed : ℤ → Event
  called : (name : List ℕ) → List Told → Event

-- a block's number is one more than its position
abbrev pub told_text : Told → List ℕ
told_text (told_number z) = codes " " ++ signed_decimal z
told_text (told_block n) = codes " #" ++ signed_decimal (pos (n + 1))

abbrev pub line_of : Event → List ℕ
line_of (printed z) = signed_decimal z ++ codes "\n"
line_of (called name args) = codes "@" ++ name ++ flat_map told_text args ++ codes "\n"

abbrev pub event_text : List Event → List ℕ
event_text = flat_map line_of

-- ---- the world

-- where the calls to the host stand: none is under way, one gets its arguments, or its answer is read, of which these
-- numbers are left
pub data Talk : Type 0 where
  idle : Talk
  calling : (name : List ℕ) → List Told → Talk
  reading : List ℤ → Talk

-- Registers are unset at first. `taken` counts the answers that were taken.
pub record World : Type 0 where
  pub blocks : Blocks
  pub number_registers : List (Option ℤ)
  pub reference_registers : List (Option (Option ℕ))
  pub fuel : ℕ
  pub input : List ℤ
  pub answers : List (List ℤ)
  pub taken : ℕ
  pub talk : Talk
  pub events : List Event

abbrev pub first_world : (fuel : ℕ) → (input : List ℤ) → (answers : List (List ℤ)) → World
first_world fuel input answers = record {
  blocks = [];
  number_registers = replicate 8 None;
  reference_registers = replicate 16 None;
  fuel = fuel;
  input = input;
  answers = answers;
  taken = 0;
  talk = idle;
  events = [];
}

-- the value of each variable that is set
abbrev pub Vars : Type 0
Vars = CVar → Option Value

-- ---- outcomes

pub data Outcome : Type 0 where
  done : Outcome
  trap : TrapKind → Outcome
  fuel_end : Outcome
  heap_end : Outcome
  depth_end : Outcome
  input_end : Outcome
  answers_end : Outcome
  -- the answer at this position, from 1, isn't what was to be read
  bad_answer : (position : ℕ) → Outcome
  -- the text has no meaning: this rule is broken at this statement
  undefined : (rule statement : ℕ) → Outcome

-- a whole run
pub record Ran : Type 0 where
  pub outcome : Outcome
  pub world : World
