-- The maps that a walk of an accepted body keeps have lists: they lie below maps of just the function's tokens.
use Rattle.std.proofs.Common.{◌≡◌, ◌<◌, ◌≤◌, ◌+◌, ◌^◌, ⊎_elim, ℕ, suc, nat_lt, true, true≢false, List, [], ◌∷◌, length, Option, Some, None, refl, sym, subst, arith}
use Rattle.std.specs.Prelude.{IsSome}
use Rattle.std.proofs.lemmas.Bool.Decides.{nat_tests}
use Rattle.vlt_core.specs.Core.{Tok, a_key, a_var, Func, Program}
use Rattle.vlt_core.specs.Maps.{is_absent, is_held, is_lent, is_full, kind_of, Status, absent, held, lent, full, HeldMap, IsBelow}
use Rattle.vlt_core.specs.Bodies.{body_flow}
use Rattle.vlt_core.specs.Derives.{start_map}
use Rattle.vlt_core.specs.Flow.{size_block}
use Rattle.vlt_core.specs.Found.{One, one_absent, one_held, one_lent, one_full, Has}
use Rattle.vlt_core.specs.Instances.{instance}
use Rattle.vlt_core.specs.Least.{Noted, a_loop, a_join, noted_block}
use Rattle.vlt_core_laws.specs.Fit.{IsFitBody}
use Rattle.vlt_core_laws.proofs.Formed.{formed_bodies}
use Rattle.vlt_keyset.specs.Held.{Statuses, map_of}
use Rattle.vlt_keyset.specs.Pairs.{IsAmong, HasOnly}
use Rattle.vlt_flow.specs.Walks.{KeepsBlock, IsUnder, IsLeastLocal}
use Rattle.vlt_flow_maps.specs.Kept.{Marks, slot, Above}
use Rattle.vlt_flow.specs.Notes.Noted.{HasNoList, LacksNote, IsUnnoted, many_statements, no_note}
use Rattle.cert_fit_laws.specs.Limits.{IsLimitedFunc}
use Rattle.cert_fit_laws.proofs.Listed.{all_at}
use Rattle.cert_fit_laws.proofs.MappedBodies.{same_noted}
use Rattle.cert_fit_laws.proofs.Named.{number_of, Climbs}
use Rattle.cert_least_laws.proofs.Climbing.{climb_block}
use Rattle.cert_least_laws.specs.Bodies.Notes.{AcceptedBodiesHaveNotes}
use Rattle.cert_least_laws.proofs.OfBodies.Listed.{IsTidyMap, owning_below}
use Rattle.cert_least_laws.proofs.OfBodies.Making.{AreTidyMaps, IsMade}
use Rattle.cert_least_laws.proofs.OfBodies.Programs.{instance_sure}
use Rattle.cert_least_laws.proofs.OfBodies.Slots.{AreKept, in_block}
use Rattle.cert_least_laws.proofs.OfBodies.Tidy.{IsTidyOne}

-- ---- maps of just the function's tokens

key_below : (k n : ℕ) → nat_lt k n ≡ true → k < n
key_below k n less = grind (arith, nat_tests)

module _ (f : Func) where
  none_other : (t : Tok) → (IsAmong (length f.keys) (length f.vars) t → ⊥) → (s : Status) (o : One) → Has s o → IsTidyOne f t o → s ≡ absent
  none_other t other absent o h tidy = refl
  none_other (a_key k) other (held s) (one_held i) h tidy = absurd (other (key_below k (length f.keys) tidy.0))
  none_other (a_var v) other (held s) (one_held i) h tidy = absurd tidy
  none_other t other (held s) one_absent h tidy = absurd h
  none_other t other (held s) (one_lent i) h tidy = absurd h
  none_other t other (held s) one_full h tidy = absurd h
  none_other (a_key k) other (lent s) (one_lent i) h tidy = absurd (other (key_below k (length f.keys) tidy.0))
  none_other (a_var v) other (lent s) (one_lent i) h tidy = absurd tidy
  none_other t other (lent s) one_absent h tidy = absurd h
  none_other t other (lent s) (one_held i) h tidy = absurd h
  none_other t other (lent s) one_full h tidy = absurd h
  none_other (a_key k) other full one_full h tidy = absurd tidy
  none_other (a_var v) other full one_full h tidy = absurd (other (owning_below f v tidy))
  none_other t other full one_absent h tidy = absurd h
  none_other t other full (one_held i) h tidy = absurd h
  none_other t other full (one_lent i) h tidy = absurd h

  tidy_only : (m : HeldMap) → IsTidyMap f m → HasOnly (length f.keys) (length f.vars) m
  tidy_only m is t other = let x = is.some t in none_other t other (m t) x.0 x.1 (is.tidy t x.0 x.1)

absent_kind : (s : Status) → kind_of s ≡ is_absent → s ≡ absent
absent_kind absent e = refl
absent_kind (held s) e = absurd (never e)
  where
    never : is_held ≡ is_absent → ⊥
    never e = cc
absent_kind (lent s) e = absurd (never e)
  where
    never : is_lent ≡ is_absent → ⊥
    never e = cc
absent_kind full e = absurd (never e)
  where
    never : is_full ≡ is_absent → ⊥
    never e = cc

only_below : (keys vars : ℕ) (h m : HeldMap) → IsBelow h m → HasOnly keys vars m → HasOnly keys vars h
only_below keys vars h m below only t other = absent_kind (h t) (subst (λ s. kind_of (h t) ≡ kind_of s) (only t other) (below.each t).kind)

has_list : (keys vars : ℕ) (o : Option Statuses) (m : HeldMap) → IsSome o → Above o m → HasOnly keys vars m → HasNoList keys vars o → ⊥
has_list keys vars None m some above only none = absurd (true≢false (sym some))
has_list keys vars (Some h) m some above only none = none (only_below keys vars (map_of h) m above only)

-- ---- the notes of an instance

-- numbers that climb stay below the last
numbered : (from many : ℕ) (xs : List Noted) → Climbs from many xs → from ≤ many
numbered from many [] c = c
numbered from many (x ∷ xs) c = up (c.0) (numbered (suc (number_of x)) many xs c.1)
  where
    up : {a b d : ℕ} → a ≤ b → suc b ≤ d → a ≤ d
    up x y = omega (arith, x, y)

beyond : (n many : ℕ) → 2 ^ 32 ≤ n → many < 2 ^ 32 → suc n ≤ many → ⊥
beyond n many far few less = omega (arith, far, few, less)

from_zero : (n : ℕ) → n < 2 ^ 32 → 0 + n < 2 ^ 32
from_zero n few = omega (arith, few)

not_so_many : (n : ℕ) → n < 2 ^ 32 → 2 ^ 62 ≤ n → ⊥
not_so_many n few many = omega (arith, few, many)

module _ (p : Program) (f : Func) (o : Option ℕ) (made : IsMade p f o) (k : Marks) (walked : IsLeastLocal (body_flow p (instance p f o)) (start_map p (instance p f o)) k) where
  under : IsUnder k made.notes
  under = walked.least made.notes made.local

  none_lack : (many from : ℕ) (xs : List Noted) → many < 2 ^ 32 → Climbs from many xs → AreTidyMaps f xs made.notes → AreKept k xs → LacksNote (length f.keys) (length f.vars) k xs → ⊥
  none_lack many from [] few climbs tidy kept lacks = lacks
  none_lack many from (a_loop n ∷ xs) few climbs tidy kept lacks =
      ⊎_elim
      (⊎_elim (λ far. beyond n many far few (numbered (suc n) many xs climbs.1))
      (⊎_elim
      (has_list (length f.keys) (length f.vars) (slot k.around n) (made.notes.around n) kept.0 (under.around n) (tidy_only f (made.notes.around n) tidy.0))
      (has_list (length f.keys) (length f.vars) (slot k.following n) (made.notes.following n) kept.1 (under.following n) (tidy_only f (made.notes.following n) tidy.1))))
      (none_lack many (suc n) xs few climbs.1 tidy.2 kept.2) lacks
  none_lack many from (a_join n ∷ xs) few climbs tidy kept lacks =
      ⊎_elim
      (⊎_elim (λ far. beyond n many far few (numbered (suc n) many xs climbs.1))
      (has_list (length f.keys) (length f.vars) (slot k.following n) (made.notes.following n) kept.0 (under.following n) (tidy_only f (made.notes.following n) tidy.0)))
      (none_lack many (suc n) xs few climbs.1 tidy.1 kept.1) lacks

  are_noted : (fit : IsFitBody p (instance p f o)) → noted_block 0 (body_flow p (instance p f o)) ≡ noted_block 0 (body_flow p f) → size_block (body_flow p (instance p f o)) < 2 ^ 32 →
      KeepsBlock k 0 (body_flow p (instance p f o)) → LacksNote (length f.keys) (length f.vars) k (noted_block 0 (body_flow p (instance p f o))) → ⊥
  are_noted fit same few slots lacks =
      let s = body_flow p (instance p f o) in
      none_lack (0 + size_block s) 0 (noted_block 0 s) (from_zero (size_block s) few) (climb_block 0 s) (subst (λ xs. AreTidyMaps f xs made.notes) (sym same) made.tidy) (in_block k s fit.scope 0 fit.scoped slots) lacks

pub have_notes : AcceptedBodiesHaveNotes
have_notes p kinded is well sets accepted g f o there own origin few unnoted =
    let fit = formed_bodies p g f o well there own origin in
    let same = same_noted p g f kinded (all_at IsLimitedFunc p.fns g f is.fns there).blank there (well.arms g f there) o in
    instance_sure p kinded is well sets accepted g f there own o origin (λ made. by made fit same unnoted)
  where
    by : IsMade p f o → IsFitBody p (instance p f o) → noted_block 0 (body_flow p (instance p f o)) ≡ noted_block 0 (body_flow p f) →
        IsUnnoted (length f.keys) (length f.vars) (body_flow p (instance p f o)) (start_map p (instance p f o)) → ⊥
    by made fit same (many_statements many) = not_so_many _ few many
    by made fit same (no_note k walked slots lacks) = are_noted p f o made k walked fit same few slots lacks
