-- Sorts of payloads, parts of values, and counts that the code can hold. This serves the proof alone.
use Rattle.std.specs.Prelude.{ℕ, min, Bool, Some}
use Rattle.std.specs.List.{sum_by}
use Rattle.std.specs.Option.{option_to_list}
use Rattle.vlt_core.specs.Core.{Ty, TypeDecl, Func, Program}
use Rattle.vlt_core.specs.Lookups.{is_owning, fields_in}
use Rattle.vlt_core.specs.Widths.{greatest, is_number, is_guarded, slots_of}
use Rattle.vlt_interp.specs.Tasks.Sizes.{parts_of}
use Rattle.vlt_interp.specs.declared.rooms.slots.Sort.{Sort}
use Rattle.vlt_interp.specs.declared.rooms.slots.Sort.TheVariants.{Number, Guarded, Owning}

-- whether a payload is of the sort
abbrev pub is_of : Sort → Ty → Bool
is_of Number = is_number
is_of Guarded = is_guarded
is_of Owning = is_owning

-- the most that is counted
abbrev pub most_counted : ℕ
most_counted = 340282366920938463463374607431768211455

abbrev pub capped_count : ℕ → ℕ
capped_count n = min n most_counted

-- the cells of an object of a declared type
abbrev pub cells_in : Program → TypeDecl → ℕ
cells_in p t = sum_by (λ d. slots_of p d.ty) (fields_in (Some t))

-- how many parts a value of any variable of the function has at most, of its result, and of any field of a declared type
abbrev pub parts_in_vars : Program → Func → ℕ
parts_in_vars p f = greatest (λ d. parts_of p d.ty) f.vars

abbrev pub parts_in_result : Program → Func → ℕ
parts_in_result p f = greatest (parts_of p) (option_to_list f.result)

abbrev pub parts_in_type : Program → TypeDecl → ℕ
parts_in_type p t = greatest (λ d. parts_of p d.ty) (fields_in (Some t))
