-- What glue is made of: parameters by their keys, masks, and the payloads of what an external gives.
use Rattle.std.proofs.Common.{◌≡◌, ◌≤◌, ◌<◌, ℕ, zero, suc, ◌+◌, ◌*◌, ◌^◌, ◌==◌, nat_le, pos, Bool, true, false, if◌then◌else◌, List, [], ◌∷◌, map, filter, length, sum_by, Option, Some, None, slice_get, refl, sym, ap, ◌∙◌, subst, arith, pow-suc, pow_mono, leb-true}
use Rattle.std.proofs.lemmas.Bool.{false≢true, eqb-true}
use Rattle.std.proofs.lemmas.Bool.Decides.{nat_tests}
use Rattle.std.proofs.lemmas.List.Sums.{sum_by-cons}
use Rattle.std.specs.List.{range_with_len, zip}
use Rattle.vlt_core.specs.Core as core
use Rattle.vlt_core.specs.Core.{States, Ty, Func, Program}
use Rattle.vlt_core.specs.Lookups.{var_type}
use Rattle.vlt_core.specs.KindedHeads.{is_payload_type, unless, when_some, type_broken, listed_broken, are_apart, entry_broken, result_broken, external_broken, is_main_head, is_bound_entry, head_broken}
use Rattle.vlt_core.specs.KindedBodies.{end_broken}
use Rattle.vlt_core.specs.Kinded.{IsKinded}
use Rattle.vlt_core.specs.declared.rules.TheConstants as rule
use Rattle.vlt_core_laws.proofs.Unbroken.{unless_holds}
use Rattle.std.specs.List.{flat_map}
use Rattle.c_syntax.specs.declared.program.CResult.TheVariants as result
use Rattle.c_syntax.specs.declared.program.CVar.{CVar}
use Rattle.c_lower.specs.Slots.{Sort, slot_of, first_temps, payload_sort}
use Rattle.c_lower.specs.Glue as glue
use Rattle.c_lower.specs.Glue.{is_tracked_by, first_or_0, key_slot, params_of}
use Rattle.c_lower_worlds.specs.Operators.Codes.{AreUpTo}
use Rattle.c_lower_worlds.specs.Naming.Lists.{Each}
use Rattle.c_lower_worlds.proofs.OfNaming.RuleFacts.{both_empty}
use Rattle.c_lower_worlds.proofs.OfNaming.DeclaredVariables.{Declared, declared_in_range}
use Rattle.c_lower_worlds.proofs.OfNaming.KindedBodies.{function_kinded}
use Rattle.c_lower_runs.proofs.ClauseKeys.{KeyParameter}
use Rattle.c_lower_runs.proofs.PayloadPlaces.{slot_is}
use Rattle.c_lower_runs.proofs.OfTexts.Ruled.{Place, IsVar, IsNumeral}
use Rattle.c_lower_runs.proofs.OfTexts.SlotTypes.{kind_of, VarsFit}
use Rattle.c_lower_runs.proofs.OfTexts.ExpressionKinds.{small_numeral}
use Rattle.c_lower_runs.proofs.OfTexts.PayloadKinds.{SortsAt, ArePayloads, var_at_position}
use Rattle.c_lower_runs.proofs.OfTexts.StatementParts.{pointer_slot}

-- ---- parameters

-- the parameters are variables
pub parameters_declared : (p : Program) → IsKinded p → (g : ℕ) (f : Func) → slice_get p.fns g ≡ Some f → (v : ℕ) → v < f.params → Declared f v
parameters_declared p kinded g f at v below =
    let a = both_empty (head_broken p g f) (end_broken p f) (function_kinded p kinded g f at).0 in
    let b9 = both_empty _ (unless (nat_le (length (filter is_bound_entry f.clause)) 1) rule.SECOND_BOUND) a.left in
    let b8 = both_empty _ (if g == p.main then unless (is_main_head f) rule.MAIN_HEAD else []) b9.left in
    let b7 = both_empty _ (if f.external then external_broken p f else []) b8.left in
    let b6 = both_empty _ (result_broken f) b7.left in
    let b5 = both_empty _ (flat_map (entry_broken p f) f.clause) b6.left in
    let b4 = both_empty _ (unless (are_apart (map (λ e. e.key) f.clause)) rule.CLAUSE_KEY_AGAIN) b5.left in
    let b3 = both_empty _ (listed_broken p f 0 f.keys) b4.left in
    let b2 = both_empty _ (when_some f.result (type_broken p f)) b3.left in
    let b1 = both_empty (unless (nat_le f.params (length f.vars)) rule.UNKNOWN_NAME) (flat_map (λ d. type_broken p f d.ty) f.vars) b2.left in
    let few = leb-true f.params (length f.vars) (unless_holds (nat_le f.params (length f.vars)) rule.UNKNOWN_NAME b1.left) in
    declared_in_range f v (grind (arith, nat_tests, few, below))

-- the first that passes a test
first_passes : (test : ℕ → Bool) (n b v : ℕ) → b ≤ v → v < b + n → test v ≡ true → test (first_or_0 (filter test (range_with_len b n))) ≡ true
first_passes test zero b v l m e = absurd (omega (arith, l, m))
first_passes test (suc n) b v l m e = by (test b) refl (λ k. first_passes test n (b + 1) v k (omega (arith, m)) e)
  where
    later : (b v : ℕ) → b ≤ v → (b ≡ v → ⊥) → b + 1 ≤ v
    later b v l ne = go (b == v) refl
      where
        go : (q : Bool) → (b == v) ≡ q → b + 1 ≤ v
        go true q = absurd (ne (eqb-true b v q))
        go false q = grind (arith, nat_tests)

    by : (q : Bool) → test b ≡ q → (b + 1 ≤ v → test (first_or_0 (filter test (range_with_len (b + 1) n))) ≡ true) → test (first_or_0 (if q then b ∷ filter test (range_with_len (b + 1) n) else filter test (range_with_len (b + 1) n))) ≡ true
    by true q rest = q
    by false q rest = rest (later b v l (λ s. false≢true (sym q ∙ ap test s ∙ e)))

tracked_pointer_slot : (a : Place) (p : Program) (f : Func) (v k : ℕ) → AreUpTo (first_temps p f) a.most → is_tracked_by k (var_type f v) ≡ true → IsVar a result.Reference (slot_of p f v)
tracked_pointer_slot a p f v k up e = by (var_type f v) refl e
  where
    by : (o : Option Ty) → var_type f v ≡ o → is_tracked_by k o ≡ true → IsVar a result.Reference (slot_of p f v)
    by None is e = absurd (false≢true e)
    by (Some (core.tracked j t args)) is e = pointer_slot a p f v (core.tracked j t args) up is refl
    by (Some core.int) is e = absurd (false≢true e)
    by (Some core.bool) is e = absurd (false≢true e)
    by (Some (core.owning s t args)) is e = absurd (false≢true e)
    by (Some (core.guarded j t args)) is e = absurd (false≢true e)
    by (Some (core.variant t args)) is e = absurd (false≢true e)
    by (Some (core.owning_variant t args)) is e = absurd (false≢true e)

pub key_slot_fits : (a : Place) (p : Program) (f : Func) (k : ℕ) → AreUpTo (first_temps p f) a.most → KeyParameter f k → IsVar a result.Reference (key_slot p f k)
key_slot_fits a p f k up h =
    let below = h.below in
    tracked_pointer_slot a p f (first_or_0 (filter (λ v. is_tracked_by k (var_type f v)) (params_of f))) k up
    (first_passes (λ v. is_tracked_by k (var_type f v)) f.params 0 h.v (omega arith) (omega (arith, below)) h.tracked)

-- ---- masks

sum_below : (s : ℕ → Bool) (n b : ℕ) → sum_by (λ i. 2 ^ i) (filter s (range_with_len b n)) + 2 ^ b ≤ 2 ^ (b + n)
sum_below s zero b = subst (λ k. 0 + 2 ^ b ≤ 2 ^ k) (none b) (omega arith)
  where
    none : (b : ℕ) → b ≡ b + 0
    none b = omega arith
sum_below s (suc n) b = by (s b) (sum_below s n (b + 1))
  where
    next : (b : ℕ) → 2 ^ (b + 1) ≡ 2 ^ b + 2 ^ b
    next b = ap (λ k. 2 ^ k) (one b) ∙ pow-suc 2 b ∙ twice (2 ^ b)
      where
        one : (b : ℕ) → b + 1 ≡ suc b
        one b = omega arith

        twice : (x : ℕ) → x * 2 ≡ x + x
        twice x = omega arith

    more : (b n : ℕ) → b + 1 + n ≡ b + suc n
    more b n = omega arith

    by : (q : Bool) → sum_by (λ i. 2 ^ i) (filter s (range_with_len (b + 1) n)) + 2 ^ (b + 1) ≤ 2 ^ (b + 1 + n) →
        sum_by (λ i. 2 ^ i) (if q then b ∷ filter s (range_with_len (b + 1) n) else filter s (range_with_len (b + 1) n)) + 2 ^ b ≤ 2 ^ (b + suc n)
    by true h =
        let e = next b in
        let c = sum_by-cons (λ i. 2 ^ i) b (filter s (range_with_len (b + 1) n)) in
        subst (λ k. sum_by (λ i. 2 ^ i) (b ∷ filter s (range_with_len (b + 1) n)) + 2 ^ b ≤ 2 ^ k) (more b n) (omega (arith, h, e, c))
    by false h =
        let e = next b in
        subst (λ k. sum_by (λ i. 2 ^ i) (filter s (range_with_len (b + 1) n)) + 2 ^ b ≤ 2 ^ k) (more b n) (omega (arith, h, e))

all_pass : (n b : ℕ) → filter (λ i. true) (range_with_len b n) ≡ range_with_len b n
all_pass zero b = refl
all_pass (suc n) b = ap (λ ns. b ∷ ns) (all_pass n (b + 1))

mask_small : (s : ℕ → Bool) (n : ℕ) → n ≤ 32 → IsNumeral (pos (sum_by (λ i. 2 ^ i) (filter s (range_with_len 0 n))))
mask_small s n few =
    let h = subst (λ k. sum_by (λ i. 2 ^ i) (filter s (range_with_len 0 n)) + 2 ^ 0 ≤ 2 ^ k) (none n) (sum_below s n 0) in
    let k : 2 ^ n ≤ 2 ^ 32 = pow_mono few in
    small_numeral (sum_by (λ i. 2 ^ i) (filter s (range_with_len 0 n))) (omega (arith, h, k))
  where
    none : (n : ℕ) → 0 + n ≡ n
    none n = omega arith

pub states_mask : (s : States) → IsNumeral (pos (sum_by (λ n. 2 ^ n) (glue.states_in s)))
states_mask s = mask_small s 32 (omega arith)

pub range_mask : (n : ℕ) → n ≤ 32 → IsNumeral (pos (sum_by (λ n. 2 ^ n) (range_with_len 0 n)))
range_mask n few = subst (λ ns. IsNumeral (pos (sum_by (λ n. 2 ^ n) ns))) (all_pass n 0) (mask_small (λ i. true) n few)

pub truth_mask : IsNumeral (pos (sum_by (λ n. 2 ^ n) (0 ∷ 1 ∷ [])))
truth_mask = range_mask 2 (omega arith)

-- ---- payloads

-- the slots of payloads, each with its type
pub record PayloadSlot (a : Place) (x : CVar × Ty) : Type 0 where
  pub payload : is_payload_type x.1 ≡ true
  pub is : IsVar a (kind_of (payload_sort x.1)) x.0

pub payload_slots : (a : Place) (all : List Sort) (slots : List CVar) → VarsFit a all slots → (js : List ℕ) (tys : List Ty) → ArePayloads tys → SortsAt all js tys → Each (PayloadSlot a) (zip (map (glue.slot_at slots) js) tys)
payload_slots a all slots fit [] [] pay at = tt
payload_slots a all slots fit [] (t ∷ tys) pay at = absurd at
payload_slots a all slots fit (j ∷ js) [] pay at = absurd at
payload_slots a all slots fit (j ∷ js) (t ∷ tys) pay at =
    let x = var_at_position a all slots j (payload_sort t) fit at.0 in
    (record { payload = pay 0 t refl; is = subst (IsVar a (kind_of (payload_sort t))) (sym (slot_is slots j x.var x.at)) x.is }, payload_slots a all slots fit js tys (λ i ty e. pay (suc i) ty e) at.1)
