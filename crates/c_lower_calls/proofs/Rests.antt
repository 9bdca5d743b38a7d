-- What a variant's slots after the first are.
use Rattle.std.proofs.Common.{◌≡◌, ℕ, List, [], ◌∷◌, map, refl, ap, ◌∙◌}
use Rattle.vlt_core.specs.Core.{Func, Program}
use Rattle.c_lower.specs.Slots.{Slot, slot_vars, var_slots}
use Rattle.c_lower.specs.Statements.{after_first}
use Rattle.c_lower_exprs.proofs.Laws.{vars_of_slots}

rest_mapped : (xs : List Slot) → map (λ (x : Slot). x.var) (after_first xs) ≡ after_first (map (λ (x : Slot). x.var) xs)
rest_mapped [] = refl
rest_mapped (x ∷ xs) = refl

-- the variables of the slots after the first
pub rest_vars : (p : Program) (f : Func) (v : ℕ) (xs : List Slot) → xs ≡ after_first (var_slots p f v) → map (λ (x : Slot). x.var) xs ≡ after_first (slot_vars p f v)
rest_vars p f v xs e = ap (map (λ (x : Slot). x.var)) e ∙ rest_mapped (var_slots p f v) ∙ ap after_first (vars_of_slots p f v)
