-- The copies of payloads in the words of slots are those of the definition.
use Rattle.std.proofs.Common.{◌≡◌, ℕ, List, [], ◌∷◌, map, Option, Some, None, slice_get, refl, sym, ap, ◌∙◌}
use Rattle.std.specs.Option.{option_map}
use Rattle.std.proofs.lemmas.Option.{slice_get-map}
use Rattle.vlt_core.specs.Core.{Func, Program}
use Rattle.c_syntax.specs.declared.program.CVar.{CVar}
use Rattle.c_syntax.specs.C as c
use Rattle.c_lower.specs.Slots.{Slot, slot_of, slot_vars, var_slots, no_slot}
use Rattle.c_lower.specs.Statements.{arm_copies}
use Rattle.c_lower_exprs.proofs.Laws.{vars_of_slots}
use Rattle.c_lower_stmts.specs.Payloads.{payloads_copied, slot_at, slot_in}

abbrev or_no_slot : Option CVar → CVar
or_no_slot None = no_slot
or_no_slot (Some x) = x

one_copy : (p : Program) (f : Func) (v i w : ℕ) (is ws : List ℕ) (o : Option CVar) → slice_get (slot_vars p f v) i ≡ o → arm_copies p f v (i ∷ is) (w ∷ ws) ≡ c.set (slot_of p f w) (c.variable (or_no_slot o)) ∷ arm_copies p f v is ws
one_copy p f v i w is ws None e = rw e refl
one_copy p f v i w is ws (Some x) e = rw e refl

slot_seen : (o : Option Slot) → or_no_slot (option_map (λ (x : Slot). x.var) o) ≡ slot_in o
slot_seen None = refl
slot_seen (Some x) = refl

-- a slot's variable, by its position
var_of_slot : (p : Program) (f : Func) (v i : ℕ) → or_no_slot (slice_get (slot_vars p f v) i) ≡ slot_at (var_slots p f v) i
var_of_slot p f v i =
    ap (λ vs. or_no_slot (slice_get vs i)) (sym (vars_of_slots p f v))
    ∙ ap or_no_slot (slice_get-map (λ (x : Slot). x.var) (var_slots p f v) i)
    ∙ slot_seen (slice_get (var_slots p f v) i)

pub copies_are : (p : Program) (f : Func) (v : ℕ) (positions ws : List ℕ) → payloads_copied p f v positions ws ≡ arm_copies p f v positions ws
copies_are p f v [] ws = refl
copies_are p f v (i ∷ positions) [] = refl
copies_are p f v (i ∷ positions) (w ∷ ws) =
    ap (λ xs. c.set (slot_of p f w) (c.variable (slot_at (var_slots p f v) i)) ∷ xs) (copies_are p f v positions ws)
    ∙ ap (λ x. c.set (slot_of p f w) (c.variable x) ∷ arm_copies p f v positions ws) (sym (var_of_slot p f v i))
    ∙ sym (one_copy p f v i w positions ws (slice_get (slot_vars p f v) i) refl)

pub no_payloads : (p : Program) (f : Func) (v : ℕ) (positions : List ℕ) → payloads_copied p f v positions [] ≡ []
no_payloads p f v [] = refl
no_payloads p f v (i ∷ positions) = refl
