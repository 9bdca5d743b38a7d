-- How much room the tables of a run have to have.
use Rattle.std.specs.Prelude.{◌<◌, ◌≤◌, ◌+◌, ◌*◌, ◌^◌, ℕ, length}
use Rattle.vlt_core.specs.Core.{Program}
use Rattle.vlt_core.specs.Lookups.{fields_of}
use Rattle.vlt_core.specs.Widths.{greatest}
use Rattle.vlt_meaning_laws.specs.Machine.Bounds.{tall_of}
use Rattle.vlt_interp.specs.Tasks.Sizes.{frame_slots, line_length}

-- the fields of any object fit so many slots, and can be counted
pub record HoldsFields (p : Program) (width slots : ℕ) : Type 0 where
  pub few : (t : ℕ) → length (fields_of p t) < 2 ^ 32
  pub fields : (t : ℕ) → length (fields_of p t) * width ≤ slots

-- the frames of so many functions, and of one more
abbrev pub slots_of_frames : Program → (depth width : ℕ) → ℕ
slots_of_frames p depth width = (depth + 1) * frame_slots p width

-- after all frames there is room for the parts of a value, and for the fields of an object
pub record HoldsFrames (p : Program) (depth width slots : ℕ) : Type 0 where
  pub parts : slots_of_frames p depth width + width * width ≤ slots
  pub fields : (t : ℕ) → slots_of_frames p depth width + length (fields_of p t) * width ≤ slots

-- the tasks of so many functions, and three that a statement needs beside
abbrev pub HoldsTasks : Program → (depth tasks : ℕ) → Type 0
HoldsTasks p depth tasks = depth * (tall_of p + 1) + 3 ≤ tasks

-- the line of a call of any function
abbrev pub HoldsLine : Program → (bytes : ℕ) → Type 0
HoldsLine p bytes = greatest line_length p.fns ≤ bytes
