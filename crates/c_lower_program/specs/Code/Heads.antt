-- Slots of parameters, and variables between numbers.
use Rattle.std.specs.Prelude.{ℕ, ◌-◌, Bool, not, List, [], ◌∷◌, map, filter}
use Rattle.std.specs.List.{flat_map, range_with_len, enumerate_from}
use Rattle.vlt_core.specs.Core.{Func, Program}
use Rattle.c_syntax.specs.C as c
use Rattle.c_lower.specs.Statements.{list_code}
use Rattle.c_lower.specs.Lowering.{func_with}
use Rattle.c_syntax.specs.declared.program.CVar.{CVar}
use Rattle.c_lower.specs.Slots.{Numbers, Slot, past, first_temps}

-- the numbers after slots that begin at some
abbrev pub past_slots : Numbers → List Slot → Numbers
past_slots t [] = t
past_slots t (x ∷ xs) = past_slots (past t x.sort) xs

abbrev pub past_lists : Numbers → List (List Slot) → Numbers
past_lists t [] = t
past_lists t (xs ∷ table) = past_lists (past_slots t xs) table

-- the variables of lists of slots
abbrev pub vars_in : List (List Slot) → List CVar
vars_in table = flat_map (map (λ x. x.var)) table

-- the variables of a kind between two numbers
abbrev pub slots_between : (reference : Bool) → (first end : ℕ) → List CVar
slots_between r a b = map (λ i. record { reference = r; number = i }) (range_with_len a (b - a))

-- functions with a body, of which the first has this number
abbrev pub bodies_from : Program → (number : ℕ) → List Func → List c.Func
bodies_from p n fs =
    map (λ q. func_with p q.0 q.1 (list_code p q.1 (first_temps p q.1) q.1.body)) (enumerate_from n (filter (λ f. not f.external) fs))
