-- How large tables have to be for a program.
use Rattle.std.specs.Prelude.{◌≤◌, ◌+◌, ◌*◌, ℕ, max, [], List, length}
use Rattle.std.specs.Option.{option_to_list}
use Rattle.vlt_core.specs.Core.{Ty, CaseDecl, Func, Program, variant, owning_variant}
use Rattle.vlt_core.specs.Lookups.{cases_of, fields_of}
use Rattle.vlt_core.specs.Widths.{greatest}
use Rattle.vlt_acts.specs.Frames.Frames.{frame_end}

-- how many parts a value of a case has
abbrev pub case_parts : CaseDecl → ℕ
case_parts d = 1 + length d.payload + length d.keys

abbrev pub cases_in_ty : Program → Ty → List CaseDecl
cases_in_ty p (variant t args) = cases_of p t
cases_in_ty p (owning_variant t args) = cases_of p t
cases_in_ty p _ = []

-- how many parts a value of the type has at most
abbrev pub parts_of : Program → Ty → ℕ
parts_of p t = max 1 (greatest case_parts (cases_in_ty p t))

-- each value of a variable, of a result and of a field fits the width
pub record IsWide (p : Program) (width : ℕ) : Type 0 where
  pub some : 1 ≤ width
  pub vars : greatest (λ f. greatest (λ d. parts_of p d.ty) f.vars) p.fns ≤ width
  pub results : greatest (λ f. greatest (parts_of p) (option_to_list f.result)) p.fns ≤ width
  pub fields : (t : ℕ) → greatest (λ d. parts_of p d.ty) (fields_of p t) ≤ width

-- the slots of the widest frame
abbrev pub frame_slots : Program → (width : ℕ) → ℕ
frame_slots p width = greatest (frame_end width 0) p.fns

-- how long the line of a call of the function is at most
abbrev pub line_length : Func → ℕ
line_length f = length f.name + f.params * 42 + 2
