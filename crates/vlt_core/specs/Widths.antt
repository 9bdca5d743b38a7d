-- How many value slots a run takes: those of all frames, and the cells of all objects.
use Rattle.std.specs.Prelude.{ℕ, ◌+◌, ◌*◌, max, Bool, true, false, List, [], ◌∷◌, length}
use Rattle.std.specs.List.{sum_by, count_by, range_with_len}
use Rattle.vlt_core.specs.Core.{Ty, int, bool, guarded, variant, owning_variant, Func, Program}
use Rattle.vlt_core.specs.Lookups.{is_owning, cases_of, fields_of}

-- the greatest number that is given to an element, 0 where there is none
abbrev pub greatest : {A : Type 0} → (A → ℕ) → List A → ℕ
greatest go [] = 0
greatest go (x ∷ xs) = max (go x) (greatest go xs)

abbrev pub is_number : Ty → Bool
is_number int = true
is_number bool = true
is_number ty = false

abbrev pub is_guarded : Ty → Bool
is_guarded (guarded k t args) = true
is_guarded ty = false

-- the most payloads of this sort that a case of the type has
abbrev pub most_of : (sort : Ty → Bool) → Program → (type : ℕ) → ℕ
most_of sort p t = greatest (λ c. count_by sort c.payload) (cases_of p t)

-- a variant takes a slot for its case, and for each sort of payload as many as the case with most of it
abbrev pub variant_slots : Program → (type : ℕ) → ℕ
variant_slots p t = 1 + most_of is_number p t + most_of is_guarded p t + most_of is_owning p t

-- each other value takes one
abbrev pub slots_of : Program → Ty → ℕ
slots_of p (variant t args) = variant_slots p t
slots_of p (owning_variant t args) = variant_slots p t
slots_of p ty = 1

-- the slots of a function's variables, its parameters among them, and its keys; externals have slots too
abbrev pub width_of : Program → Func → ℕ
width_of p f = sum_by (λ d. slots_of p d.ty) f.vars + length f.keys

abbrev pub widest_function : Program → ℕ
widest_function p = greatest (width_of p) p.fns

-- the cells of an object of the type
abbrev pub cells_of : Program → (type : ℕ) → ℕ
cells_of p t = sum_by (λ d. slots_of p d.ty) (fields_of p t)

abbrev pub widest_type : Program → ℕ
widest_type p = greatest (cells_of p) (range_with_len 0 (length p.types))

-- the slots of so many frames and objects, each as wide as the widest one
abbrev pub slots_needed : Program → (depth heap : ℕ) → ℕ
slots_needed p depth heap = depth * widest_function p + heap * widest_type p
