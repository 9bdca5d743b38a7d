-- Parameters, one by one.
use Rattle.std.proofs.Common.{◌≡◌, ◌<◌, ℕ, suc, ◌+◌, ◌-◌, Bool, true, false, if◌then◌else◌, List, [], ◌∷◌, ◌++◌, map, filter, refl, sym, ap, ◌∙◌, arith}
use Rattle.std.specs.List.{range_with_len}
use Rattle.vlt_core.specs.Core.{Func, Program}
use Rattle.vlt_core.specs.Lookups.{is_owning_var}
use Rattle.c_syntax.specs.declared.program.CPrim.TheVariants as prim
use Rattle.c_lower.specs.Slots.{slot_of}
use Rattle.c_lower.specs.Statements.{runtime_call}
use Rattle.c_lower.specs.Glue.{first_or_0, var_arg}
use Rattle.c_lower_program.specs.Glue.Parts.{owners_out}

pub next_param : (v n : ℕ) → v < n → range_with_len v (n - v) ≡ v ∷ range_with_len (v + 1) (n - (v + 1))
next_param v n less =
    let e : n - v ≡ suc (n - (v + 1)) = omega arith in
    ap (range_with_len v) e

-- a parameter that doesn't pass the test isn't the first that does
pub not_first : (test : ℕ → Bool) (v n whole : ℕ) → v < n → test v ≡ false → first_or_0 (filter test (range_with_len v (n - v))) ≡ whole → first_or_0 (filter test (range_with_len (v + 1) (n - (v + 1)))) ≡ whole
not_first test v n whole less out e =
    let rest = filter test (range_with_len (v + 1) (n - (v + 1))) in
    ap (λ b. first_or_0 (if b then v ∷ rest else rest)) (sym out) ∙ ap (λ vs. first_or_0 (filter test vs)) (sym (next_param v n less)) ∙ e

pub next_owner : (p : Program) (f : Func) (v : ℕ) (vs : List ℕ) → owners_out p f (v ∷ []) ++ owners_out p f vs ≡ owners_out p f (v ∷ vs)
next_owner p f v vs = by (is_owning_var f v)
  where
    by : (b : Bool) →
        map (λ v. runtime_call prim.Out (var_arg (slot_of p f v) ∷ [])) (if b then v ∷ [] else []) ++ owners_out p f vs
        ≡ map (λ v. runtime_call prim.Out (var_arg (slot_of p f v) ∷ [])) (if b then v ∷ filter (is_owning_var f) vs else filter (is_owning_var f) vs)
    by true = refl
    by false = refl
