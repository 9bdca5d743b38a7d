-- What stands at the front of an answer.
use Rattle.std.proofs.Common.{◌≡◌, ℕ, ℤ, pos, negsuc, Bool, true, false, if◌then◌else◌, List, [], ◌∷◌, Option, None, Some, refl, sym, ap, subst, ◌<◌, ◌≤◌, ◌^◌}
use Rattle.std.proofs.lemmas.Option.{none-some, same_Some}
use Rattle.vlt_base.specs.States.{is_bit}
use Rattle.vlt_base.proofs.Sets.{no_bit_above}
use Rattle.vlt_core.specs.Core.{States}
use Rattle.vlt_meaning.specs.HostAnswers.{natural, one_of, members, state_in}
use Rattle.vlt_externals.specs.HostAnswers.Read.{natural_in, passing, only_in}

abbrev pub found : ℕ → List ℤ → Option (ℕ × List ℤ)
found k zs = Some (k, zs)

-- the numbers are these, of which the first one is read where it passes
pub front_passes : (test : ℕ → Bool) (zs : List ℤ) (z : ℤ) (rest : List ℤ) (k : ℕ) → zs ≡ z ∷ rest → Some k ≡ passing test z → found k rest ≡ natural test zs
front_passes test zs z rest k is e = subst (λ x. found k rest ≡ natural test x) (sym is) (by z e)
  where
    if_so : (b : Bool) (n : ℕ) → Some k ≡ (if b then Some n else None) → found k rest ≡ (if b then found n rest else None)
    if_so true n e = ap (λ x. pair x) e
      where
        pair : Option ℕ → Option (ℕ × List ℤ)
        pair None = None
        pair (Some n) = found n rest
    if_so false n e = absurd (none-some k (sym e))

    by : (z : ℤ) → Some k ≡ passing test z → found k rest ≡ natural test (z ∷ rest)
    by (pos n) e = if_so (test n) n e
    by (negsuc n) e = absurd (none-some k (sym e))

pub front_fails : (test : ℕ → Bool) (zs : List ℤ) (z : ℤ) (rest : List ℤ) → zs ≡ z ∷ rest → None ≡ passing test z → None ≡ natural test zs
front_fails test zs z rest is e = subst (λ x. None ≡ natural test x) (sym is) (by z e)
  where
    if_so : (b : Bool) (n : ℕ) → None ≡ (if b then Some n else None) → None ≡ (if b then found n rest else None)
    if_so true n e = absurd (none-some n e)
    if_so false n e = refl

    by : (z : ℤ) → None ≡ passing test z → None ≡ natural test (z ∷ rest)
    by (pos n) e = if_so (test n) n e
    by (negsuc n) e = refl

pub nothing_there : (test : ℕ → Bool) (zs : List ℤ) → zs ≡ [] → None ≡ natural test zs
nothing_there test zs is = subst (λ x. None ≡ natural test x) (sym is) refl

-- ---- states

pub reads_only : (s : States) (zs : List ℤ) (a : ℕ) → Some a ≡ only_in (members s) → found a zs ≡ state_in s zs
reads_only s zs a e = by (members s) e
  where
    by : (ms : List ℕ) → Some a ≡ only_in ms → found a zs ≡ one_of ms s zs
    by [] e = absurd (none-some a (sym e))
    by (x ∷ []) e = ap pair e
      where
        pair : Option ℕ → Option (ℕ × List ℤ)
        pair None = None
        pair (Some n) = found n zs
    by (x ∷ y ∷ ms) e = absurd (none-some a (sym e))

pub reads_any : (s : States) (zs : List ℤ) → None ≡ only_in (members s) → natural s zs ≡ state_in s zs
reads_any s zs e = by (members s) e
  where
    by : (ms : List ℕ) → None ≡ only_in ms → natural s zs ≡ one_of ms s zs
    by [] e = refl
    by (x ∷ []) e = absurd (none-some x e)
    by (x ∷ y ∷ ms) e = refl

-- no state has a number from 32 on
pub passes_none : (mask : ℕ) (z : ℤ) (k : ℕ) → mask < 2 ^ 32 → Some k ≡ natural_in z → 32 ≤ k → None ≡ passing (is_bit mask) z
passes_none mask (pos n) k small e from = sym (ap (λ b. if b then Some n else None) (no_bit_above mask n small (subst (λ m. 32 ≤ m) (same_Some k n e) from)))
passes_none mask (negsuc n) k small e from = absurd (none-some k (sym e))
