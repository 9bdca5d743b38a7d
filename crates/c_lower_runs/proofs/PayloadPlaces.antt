-- The payloads of a case are at places of their own among the slots of the variant.
use Rattle.std.proofs.Common.{◌≡◌, ◌≢◌, ◌≤◌, ◌<◌, ◌⊎◌, inl, inr, ℕ, zero, suc, ◌+◌, ◌==◌, ◌||◌, Bool, true, false, if◌then◌else◌, List, [], ◌∷◌, length, Some, slice_get, refl, sym, ap, ◌∙◌, subst, arith}
use Rattle.std.proofs.lemmas.Bool.{eqb-true}
use Rattle.std.proofs.lemmas.Bool.Decides.{nat_tests}
use Rattle.std.proofs.lemmas.Option.{none-some, same_Some}
use Rattle.vlt_core.specs.Core as core
use Rattle.vlt_core.specs.Core.{Ty}
use Rattle.vlt_core.specs.KindedHeads.{has}
use Rattle.vlt_meaning.specs.World.{Part}
use Rattle.c_syntax.specs.declared.program.CVar.{CVar}
use Rattle.c_meaning.specs.Run.{Frame}
use Rattle.c_lower.specs.Slots.{Sort, Starts, start_of, after_start, payload_sort, payload_positions}
use Rattle.c_lower.specs.Glue.{slot_at}
use Rattle.c_lower_worlds.specs.Worlds.{c_part, case_value, case_values, unused}
use Rattle.c_lower_worlds.specs.Frames.{HaveValues}
use Rattle.c_lower_worlds.specs.Naming.Lists.{Each}
use Rattle.c_lower_worlds.proofs.VariantSlots.{Inside}
use Rattle.c_lower_worlds.proofs.VariableSlots.{Apart, AllApart, each_map, apart_back}

-- ---- positions

abbrev pub IsPayload : Ty → Type 0
IsPayload core.int = Unit {0}
IsPayload core.bool = Unit {0}
IsPayload (core.guarded k t args) = Unit {0}
IsPayload (core.owning states t args) = Unit {0}
IsPayload ty = ⊥

pub record Between (low high j : ℕ) : Type 0 where
  pub from : low ≤ j
  pub below : j < high

-- a position of a payload that is left
abbrev pub Lies : Starts → (a b c j : ℕ) → Type 0
Lies s a b c j = Between s.number a j ⊎ (Between s.reference b j ⊎ Between s.owner c j)

record Stepped (t : Ty) (s : Starts) (ts : List Ty) (a b c : ℕ) : Type 0 where
  here : Lies s a b c (start_of (payload_sort t) s)
  rest : Inside (after_start (payload_sort t) s) ts a b c
  wider : (j : ℕ) → Lies (after_start (payload_sort t) s) a b c j → Lies s a b c j
  apart : (j : ℕ) → Lies (after_start (payload_sort t) s) a b c j → start_of (payload_sort t) s ≢ j

module _ (s : Starts) (ts : List Ty) (a b c : ℕ) where
  number_stepped : (t : Ty) → payload_sort t ≡ payload_sort core.int → Inside s (core.int ∷ ts) a b c → Stepped core.int s ts a b c
  number_stepped t e h =
      let n = h.numbers in let bn = h.after_numbers in let r = h.references in let br = h.after_references in let o = h.owners in
      record { here = inl (record { from = omega arith; below = omega arith }); rest = record { numbers = omega arith; after_numbers = bn; references = r; after_references = br; owners = o }; wider = wider; apart = apart }
    where
      wider : (j : ℕ) → Lies (after_start (payload_sort core.int) s) a b c j → Lies s a b c j
      wider j (inl x) = let f = x.from in inl (record { from = omega arith; below = x.below })
      wider j (inr (inl x)) = inr (inl (record { from = x.from; below = x.below }))
      wider j (inr (inr x)) = inr (inr (record { from = x.from; below = x.below }))

      apart : (j : ℕ) → Lies (after_start (payload_sort core.int) s) a b c j → s.number ≢ j
      apart j (inl x) e = let f = x.from in absurd (omega arith)
      apart j (inr (inl x)) e = let f = x.from in let n = h.numbers in let bn = h.after_numbers in absurd (omega arith)
      apart j (inr (inr x)) e = let f = x.from in let n = h.numbers in let bn = h.after_numbers in let r = h.references in let br = h.after_references in absurd (omega arith)

  reference_stepped : (k t : ℕ) (args : List ℕ) → Inside s (core.guarded k t args ∷ ts) a b c → Stepped (core.guarded k t args) s ts a b c
  reference_stepped k t args h =
      let n = h.numbers in let bn = h.after_numbers in let r = h.references in let br = h.after_references in let o = h.owners in
      record { here = inr (inl (record { from = omega arith; below = omega arith })); rest = record { numbers = n; after_numbers = omega arith; references = omega arith; after_references = br; owners = o }; wider = wider; apart = apart }
    where
      wider : (j : ℕ) → Lies (after_start (payload_sort (core.guarded k t args)) s) a b c j → Lies s a b c j
      wider j (inl x) = inl (record { from = x.from; below = x.below })
      wider j (inr (inl x)) = let f = x.from in inr (inl (record { from = omega arith; below = x.below }))
      wider j (inr (inr x)) = inr (inr (record { from = x.from; below = x.below }))

      apart : (j : ℕ) → Lies (after_start (payload_sort (core.guarded k t args)) s) a b c j → s.reference ≢ j
      apart j (inl x) e = let f = x.below in let bn = h.after_numbers in absurd (omega arith)
      apart j (inr (inl x)) e = let f = x.from in absurd (omega arith)
      apart j (inr (inr x)) e = let f = x.from in let r = h.references in let br = h.after_references in absurd (omega arith)

  owner_stepped : (states : core.States) (t : ℕ) (args : List ℕ) → Inside s (core.owning states t args ∷ ts) a b c → Stepped (core.owning states t args) s ts a b c
  owner_stepped states t args h =
      let n = h.numbers in let bn = h.after_numbers in let r = h.references in let br = h.after_references in let o = h.owners in
      record { here = inr (inr (record { from = omega arith; below = omega arith })); rest = record { numbers = n; after_numbers = bn; references = r; after_references = omega arith; owners = omega arith }; wider = wider; apart = apart }
    where
      wider : (j : ℕ) → Lies (after_start (payload_sort (core.owning states t args)) s) a b c j → Lies s a b c j
      wider j (inl x) = inl (record { from = x.from; below = x.below })
      wider j (inr (inl x)) = inr (inl (record { from = x.from; below = x.below }))
      wider j (inr (inr x)) = let f = x.from in inr (inr (record { from = omega arith; below = x.below }))

      apart : (j : ℕ) → Lies (after_start (payload_sort (core.owning states t args)) s) a b c j → s.owner ≢ j
      apart j (inl x) e = let f = x.below in let bn = h.after_numbers in let r = h.references in let br = h.after_references in absurd (omega arith)
      apart j (inr (inl x)) e = let f = x.below in let br = h.after_references in absurd (omega arith)
      apart j (inr (inr x)) e = let f = x.from in absurd (omega arith)

  stepped : (t : Ty) → IsPayload t → Inside s (t ∷ ts) a b c → Stepped t s ts a b c
  stepped core.int is h = number_stepped core.int refl h
  stepped core.bool is h =
      let r = number_stepped core.bool refl (record { numbers = h.numbers; after_numbers = h.after_numbers; references = h.references; after_references = h.after_references; owners = h.owners }) in
      record { here = r.here; rest = r.rest; wider = r.wider; apart = r.apart }
  stepped (core.guarded k t args) is h = reference_stepped k t args h
  stepped (core.owning states t args) is h = owner_stepped states t args h
  stepped (core.tracked k t args) is h = absurd is
  stepped (core.variant t args) is h = absurd is
  stepped (core.owning_variant t args) is h = absurd is

abbrev pub AllDiffer : List ℕ → Type 0
AllDiffer [] = Unit {0}
AllDiffer (j ∷ js) = Each (λ i. j ≢ i) js × AllDiffer js

pub positions_lie : (ts : List Ty) (s : Starts) (a b c : ℕ) → Each IsPayload ts → Inside s ts a b c → Each (Lies s a b c) (payload_positions s ts)
positions_lie [] s a b c is h = tt
positions_lie (t ∷ ts) s a b c is h =
    let x = stepped s ts a b c t is.0 h in
    (x.here, each_map (Lies (after_start (payload_sort t) s) a b c) (Lies s a b c) (payload_positions (after_start (payload_sort t) s) ts) x.wider (positions_lie ts (after_start (payload_sort t) s) a b c is.1 x.rest))

pub positions_differ : (ts : List Ty) (s : Starts) (a b c : ℕ) → Each IsPayload ts → Inside s ts a b c → AllDiffer (payload_positions s ts)
positions_differ [] s a b c is h = tt
positions_differ (t ∷ ts) s a b c is h =
    let x = stepped s ts a b c t is.0 h in (
      each_map (Lies (after_start (payload_sort t) s) a b c) (λ i. start_of (payload_sort t) s ≢ i) (payload_positions (after_start (payload_sort t) s) ts) x.apart (positions_lie ts (after_start (payload_sort t) s) a b c is.1 x.rest),
      positions_differ ts (after_start (payload_sort t) s) a b c is.1 x.rest,
    )

-- ---- slots

pub slot_is : (slots : List CVar) (i : ℕ) (v : CVar) → slice_get slots i ≡ Some v → slot_at slots i ≡ v
slot_is slots i v e = rw e refl

pub each_at : (x : CVar) (vs : List CVar) (j : ℕ) (v : CVar) → Each (Apart x) vs → slice_get vs j ≡ Some v → Apart x v
each_at x [] j v h b = absurd (none-some v b)
each_at x (y ∷ vs) zero v h b = subst (Apart x) (same_Some y v b) h.0
each_at x (y ∷ vs) (suc j) v h b = each_at x vs j v h.1 b

pub slots_differ : (slots : List CVar) (i j : ℕ) (u v : CVar) → AllApart slots → slice_get slots i ≡ Some u → slice_get slots j ≡ Some v → i ≢ j → Apart u v
slots_differ [] i j u v h a b ne = absurd (none-some u a)
slots_differ (x ∷ slots) zero zero u v h a b ne = absurd (ne refl)
slots_differ (x ∷ slots) zero (suc j) u v h a b ne = subst (λ u. Apart u v) (same_Some x u a) (each_at x slots j v h.0 b)
slots_differ (x ∷ slots) (suc i) zero u v h a b ne = apart_back v u (subst (λ v. Apart v u) (same_Some x v b) (each_at x slots i u h.0 a))
slots_differ (x ∷ slots) (suc i) (suc j) u v h a b ne = slots_differ slots i j u v h.1 a b (λ e. ne (ap suc e))

-- ---- values at their places

-- each payload's value is in the slot of its position
abbrev pub Placed : List CVar → List ℕ → List Part → Frame → Type 0
Placed slots [] [] f = Unit {0}
Placed slots (j ∷ js) (a ∷ parts) f = (f.vars (slot_at slots j) ≡ Some (c_part a)) × Placed slots js parts f
Placed slots _ _ f = ⊥

value_at : (slots : List CVar) (js : List ℕ) (parts : List Part) (f : Frame) (s : Sort) (i : ℕ) (v : CVar) → Placed slots js parts f → slot_at slots i ≡ v →
    (has js i ≡ false → f.vars v ≡ Some (unused s)) → f.vars v ≡ Some (case_value s i js parts)
value_at slots [] [] f s i v h is free = free refl
value_at slots [] (a ∷ parts) f s i v h is free = absurd h
value_at slots (j ∷ js) [] f s i v h is free = absurd h
value_at slots (j ∷ js) (a ∷ parts) f s i v h is free = by (i == j) refl (λ free. value_at slots js parts f s i v h.1 is free)
  where
    other : (i == j) ≡ false → (j == i) ≡ false
    other q = grind (arith, nat_tests)

    by : (b : Bool) → (i == j) ≡ b → ((has js i ≡ false → f.vars v ≡ Some (unused s)) → f.vars v ≡ Some (case_value s i js parts)) →
        f.vars v ≡ Some (if b then c_part a else case_value s i js parts)
    by true q later = ap f.vars (sym is ∙ ap (slot_at slots) (eqb-true i j q)) ∙ h.0
    by false q later = later (λ n. free (ap (λ b. b || has js i) (other q) ∙ n))

-- the slots after the case's have the values of the case
pub have_places : (slots : List CVar) (js : List ℕ) (parts : List Part) (f : Frame) (sorts : List Sort) (vs : List CVar) (i : ℕ) → Placed slots js parts f → length vs ≡ length sorts →
    ((m : ℕ) (v : CVar) → slice_get vs m ≡ Some v → slot_at slots (i + m) ≡ v) →
    ((m : ℕ) (v : CVar) (s : Sort) → slice_get vs m ≡ Some v → slice_get sorts m ≡ Some s → has js (i + m) ≡ false → f.vars v ≡ Some (unused s)) →
    HaveValues vs (case_values i js parts sorts) f
have_places slots js parts f [] [] i h l at free = tt
have_places slots js parts f [] (v ∷ vs) i h l at free = absurd (omega arith)
have_places slots js parts f (s ∷ sorts) [] i h l at free = absurd (omega arith)
have_places slots js parts f (s ∷ sorts) (v ∷ vs) i h l at free = (
  value_at slots js parts f s i v h (ap (slot_at slots) (sym (same i)) ∙ at 0 v refl) (λ n. free 0 v s refl refl (ap (has js) (same i) ∙ n)),
  have_places slots js parts f sorts vs (suc i) h (omega arith) (λ m u e. ap (slot_at slots) (more i m) ∙ at (suc m) u e) (λ m u t e q n. free (suc m) u t e q (ap (has js) (sym (more i m)) ∙ n)),
)
  where
    same : (i : ℕ) → i + 0 ≡ i
    same i = omega arith

    more : (i m : ℕ) → suc i + m ≡ i + suc m
    more i m = omega arith
