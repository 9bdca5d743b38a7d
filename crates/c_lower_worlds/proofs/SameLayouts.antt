-- Types that are the same have the same slots and shapes, each in the place of the other.
use Rattle.std.proofs.Common.{◌≡◌, ℕ, ◌==◌, true, List, Some, refl, sym, subst}
use Rattle.std.proofs.lemmas.Bool.{false≢true, eqb-true}
use Rattle.vlt_core.specs.Core as core
use Rattle.vlt_core.specs.Core.{Ty, Program}
use Rattle.vlt_core.specs.Types.{same_ty, same_object, same_keys, same_states, lies_within, with_keys}
use Rattle.vlt_core.specs.KindedOperands.{fits_owning}
use Rattle.vlt_meaning.specs.World as source
use Rattle.c_lower.specs.Slots.{slot_sorts}
use Rattle.c_lower.specs.Statements.{is_variant}
use Rattle.c_lower_worlds.specs.Worlds.{slot_values}
use Rattle.c_lower_worlds.specs.Shapes.{HasShape}
use Rattle.vlt_core_laws.proofs.Ids.{and_left, and_right}

-- a value of the first type is one of the second, in the same slots
pub record IsLaidAs (p : Program) (a b : Ty) : Type 0 where
  pub shape : (ts : List ℕ) (v : source.Value) → HasShape p ts a v → HasShape p ts b v
  pub values : (v : source.Value) → slot_values p a v ≡ slot_values p b v
  pub sorts : slot_sorts p a ≡ slot_sorts p b
  pub variant : is_variant (Some a) ≡ is_variant (Some b)

pub laid_self : (p : Program) (a : Ty) → IsLaidAs p a a
laid_self p a = record { shape = λ ts v h. h; values = λ v. refl; sorts = refl; variant = refl }

pub tracked_laid : (p : Program) (k j t u : ℕ) (args others : List ℕ) → t ≡ u → IsLaidAs p (core.tracked k t args) (core.tracked j u others)
tracked_laid p k j t u args others e = subst (λ u. IsLaidAs p (core.tracked k t args) (core.tracked j u others)) e
    (record { shape = λ ts v h. record { part = h.part; is = h.is; shape = h.shape }; values = same; sorts = refl; variant = refl })
  where
    same : (v : source.Value) → slot_values p (core.tracked k t args) v ≡ slot_values p (core.tracked j t others) v
    same (source.one x) = refl
    same (source.of_case c parts keys) = refl

pub guarded_laid : (p : Program) (k j t u : ℕ) (args others : List ℕ) → t ≡ u → IsLaidAs p (core.guarded k t args) (core.guarded j u others)
guarded_laid p k j t u args others e = subst (λ u. IsLaidAs p (core.guarded k t args) (core.guarded j u others)) e
    (record { shape = λ ts v h. record { part = h.part; is = h.is; shape = h.shape }; values = same; sorts = refl; variant = refl })
  where
    same : (v : source.Value) → slot_values p (core.guarded k t args) v ≡ slot_values p (core.guarded j t others) v
    same (source.one x) = refl
    same (source.of_case c parts keys) = refl

pub owning_laid : (p : Program) (a b : core.States) (t u : ℕ) (args others : List ℕ) → t ≡ u → IsLaidAs p (core.owning a t args) (core.owning b u others)
owning_laid p a b t u args others e = subst (λ u. IsLaidAs p (core.owning a t args) (core.owning b u others)) e
    (record { shape = λ ts v h. record { part = h.part; is = h.is; shape = h.shape }; values = same; sorts = refl; variant = refl })
  where
    same : (v : source.Value) → slot_values p (core.owning a t args) v ≡ slot_values p (core.owning b t others) v
    same (source.one x) = refl
    same (source.of_case c parts keys) = refl

pub variant_laid : (p : Program) (t u : ℕ) (args others : List ℕ) → t ≡ u → IsLaidAs p (core.variant t args) (core.variant u others)
variant_laid p t u args others e = subst (λ u. IsLaidAs p (core.variant t args) (core.variant u others)) e (record { shape = λ ts v h. h; values = same; sorts = refl; variant = refl })
  where
    same : (v : source.Value) → slot_values p (core.variant t args) v ≡ slot_values p (core.variant t others) v
    same (source.one x) = refl
    same (source.of_case c parts keys) = refl

pub owning_variant_laid : (p : Program) (t u : ℕ) (args others : List ℕ) → t ≡ u → IsLaidAs p (core.owning_variant t args) (core.owning_variant u others)
owning_variant_laid p t u args others e = subst (λ u. IsLaidAs p (core.owning_variant t args) (core.owning_variant u others)) e (record { shape = λ ts v h. h; values = same; sorts = refl; variant = refl })
  where
    same : (v : source.Value) → slot_values p (core.owning_variant t args) v ≡ slot_values p (core.owning_variant t others) v
    same (source.one x) = refl
    same (source.of_case c parts keys) = refl

pub object_type : (t u : ℕ) (args others : List ℕ) → same_object t args u others ≡ true → t ≡ u
object_type t u args others e = eqb-true t u (and_left (t == u) (same_keys args others) e)

-- each way
both_laid : (p : Program) (b a : Ty) → same_ty b a ≡ true → IsLaidAs p a b × IsLaidAs p b a
both_laid p core.int core.int e = (laid_self p core.int, laid_self p core.int)
both_laid p core.int core.bool e = absurd (false≢true e)
both_laid p core.int (core.tracked k2 t2 a2) e = absurd (false≢true e)
both_laid p core.int (core.owning s2 t2 a2) e = absurd (false≢true e)
both_laid p core.int (core.guarded k2 t2 a2) e = absurd (false≢true e)
both_laid p core.int (core.variant t2 a2) e = absurd (false≢true e)
both_laid p core.int (core.owning_variant t2 a2) e = absurd (false≢true e)
both_laid p core.bool core.int e = absurd (false≢true e)
both_laid p core.bool core.bool e = (laid_self p core.bool, laid_self p core.bool)
both_laid p core.bool (core.tracked k2 t2 a2) e = absurd (false≢true e)
both_laid p core.bool (core.owning s2 t2 a2) e = absurd (false≢true e)
both_laid p core.bool (core.guarded k2 t2 a2) e = absurd (false≢true e)
both_laid p core.bool (core.variant t2 a2) e = absurd (false≢true e)
both_laid p core.bool (core.owning_variant t2 a2) e = absurd (false≢true e)
both_laid p (core.tracked k1 t1 a1) core.int e = absurd (false≢true e)
both_laid p (core.tracked k1 t1 a1) core.bool e = absurd (false≢true e)
both_laid p (core.tracked k1 t1 a1) (core.tracked k2 t2 a2) e = (
  tracked_laid p k2 k1 t2 t1 a2 a1 (sym (object_type t1 t2 a1 a2 (and_right (k1 == k2) (same_object t1 a1 t2 a2) e))),
  tracked_laid p k1 k2 t1 t2 a1 a2 (object_type t1 t2 a1 a2 (and_right (k1 == k2) (same_object t1 a1 t2 a2) e)),
)
both_laid p (core.tracked k1 t1 a1) (core.owning s2 t2 a2) e = absurd (false≢true e)
both_laid p (core.tracked k1 t1 a1) (core.guarded k2 t2 a2) e = absurd (false≢true e)
both_laid p (core.tracked k1 t1 a1) (core.variant t2 a2) e = absurd (false≢true e)
both_laid p (core.tracked k1 t1 a1) (core.owning_variant t2 a2) e = absurd (false≢true e)
both_laid p (core.owning s1 t1 a1) core.int e = absurd (false≢true e)
both_laid p (core.owning s1 t1 a1) core.bool e = absurd (false≢true e)
both_laid p (core.owning s1 t1 a1) (core.tracked k2 t2 a2) e = absurd (false≢true e)
both_laid p (core.owning s1 t1 a1) (core.owning s2 t2 a2) e = (
  owning_laid p s2 s1 t2 t1 a2 a1 (sym (object_type t1 t2 a1 a2 (and_right (same_states s1 s2) (same_object t1 a1 t2 a2) e))),
  owning_laid p s1 s2 t1 t2 a1 a2 (object_type t1 t2 a1 a2 (and_right (same_states s1 s2) (same_object t1 a1 t2 a2) e)),
)
both_laid p (core.owning s1 t1 a1) (core.guarded k2 t2 a2) e = absurd (false≢true e)
both_laid p (core.owning s1 t1 a1) (core.variant t2 a2) e = absurd (false≢true e)
both_laid p (core.owning s1 t1 a1) (core.owning_variant t2 a2) e = absurd (false≢true e)
both_laid p (core.guarded k1 t1 a1) core.int e = absurd (false≢true e)
both_laid p (core.guarded k1 t1 a1) core.bool e = absurd (false≢true e)
both_laid p (core.guarded k1 t1 a1) (core.tracked k2 t2 a2) e = absurd (false≢true e)
both_laid p (core.guarded k1 t1 a1) (core.owning s2 t2 a2) e = absurd (false≢true e)
both_laid p (core.guarded k1 t1 a1) (core.guarded k2 t2 a2) e = (
  guarded_laid p k2 k1 t2 t1 a2 a1 (sym (object_type t1 t2 a1 a2 (and_right (k1 == k2) (same_object t1 a1 t2 a2) e))),
  guarded_laid p k1 k2 t1 t2 a1 a2 (object_type t1 t2 a1 a2 (and_right (k1 == k2) (same_object t1 a1 t2 a2) e)),
)
both_laid p (core.guarded k1 t1 a1) (core.variant t2 a2) e = absurd (false≢true e)
both_laid p (core.guarded k1 t1 a1) (core.owning_variant t2 a2) e = absurd (false≢true e)
both_laid p (core.variant t1 a1) core.int e = absurd (false≢true e)
both_laid p (core.variant t1 a1) core.bool e = absurd (false≢true e)
both_laid p (core.variant t1 a1) (core.tracked k2 t2 a2) e = absurd (false≢true e)
both_laid p (core.variant t1 a1) (core.owning s2 t2 a2) e = absurd (false≢true e)
both_laid p (core.variant t1 a1) (core.guarded k2 t2 a2) e = absurd (false≢true e)
both_laid p (core.variant t1 a1) (core.variant t2 a2) e = (
  variant_laid p t2 t1 a2 a1 (sym (object_type t1 t2 a1 a2 e)),
  variant_laid p t1 t2 a1 a2 (object_type t1 t2 a1 a2 e),
)
both_laid p (core.variant t1 a1) (core.owning_variant t2 a2) e = absurd (false≢true e)
both_laid p (core.owning_variant t1 a1) core.int e = absurd (false≢true e)
both_laid p (core.owning_variant t1 a1) core.bool e = absurd (false≢true e)
both_laid p (core.owning_variant t1 a1) (core.tracked k2 t2 a2) e = absurd (false≢true e)
both_laid p (core.owning_variant t1 a1) (core.owning s2 t2 a2) e = absurd (false≢true e)
both_laid p (core.owning_variant t1 a1) (core.guarded k2 t2 a2) e = absurd (false≢true e)
both_laid p (core.owning_variant t1 a1) (core.variant t2 a2) e = absurd (false≢true e)
both_laid p (core.owning_variant t1 a1) (core.owning_variant t2 a2) e = (
  owning_variant_laid p t2 t1 a2 a1 (sym (object_type t1 t2 a1 a2 e)),
  owning_variant_laid p t1 t2 a1 a2 (object_type t1 t2 a1 a2 e),
)

-- the second, which is wanted, is the first's
pub same_laid : (p : Program) (b a : Ty) → same_ty b a ≡ true → IsLaidAs p a b
same_laid p b a e = (both_laid p b a e).0

-- the first in the place of the second
pub laid_to : (p : Program) (b a : Ty) → same_ty b a ≡ true → IsLaidAs p b a
laid_to p b a e = (both_laid p b a e).1

-- an owning value fits where it may be in more states
pub fits_laid : (p : Program) (b a : Ty) → fits_owning b a ≡ true → IsLaidAs p a b
fits_laid p core.int core.int e = same_laid p core.int core.int e
fits_laid p core.int core.bool e = same_laid p core.int core.bool e
fits_laid p core.int (core.tracked k2 t2 a2) e = same_laid p core.int (core.tracked k2 t2 a2) e
fits_laid p core.int (core.owning s2 t2 a2) e = same_laid p core.int (core.owning s2 t2 a2) e
fits_laid p core.int (core.guarded k2 t2 a2) e = same_laid p core.int (core.guarded k2 t2 a2) e
fits_laid p core.int (core.variant t2 a2) e = same_laid p core.int (core.variant t2 a2) e
fits_laid p core.int (core.owning_variant t2 a2) e = same_laid p core.int (core.owning_variant t2 a2) e
fits_laid p core.bool core.int e = same_laid p core.bool core.int e
fits_laid p core.bool core.bool e = same_laid p core.bool core.bool e
fits_laid p core.bool (core.tracked k2 t2 a2) e = same_laid p core.bool (core.tracked k2 t2 a2) e
fits_laid p core.bool (core.owning s2 t2 a2) e = same_laid p core.bool (core.owning s2 t2 a2) e
fits_laid p core.bool (core.guarded k2 t2 a2) e = same_laid p core.bool (core.guarded k2 t2 a2) e
fits_laid p core.bool (core.variant t2 a2) e = same_laid p core.bool (core.variant t2 a2) e
fits_laid p core.bool (core.owning_variant t2 a2) e = same_laid p core.bool (core.owning_variant t2 a2) e
fits_laid p (core.tracked k1 t1 a1) core.int e = same_laid p (core.tracked k1 t1 a1) core.int e
fits_laid p (core.tracked k1 t1 a1) core.bool e = same_laid p (core.tracked k1 t1 a1) core.bool e
fits_laid p (core.tracked k1 t1 a1) (core.tracked k2 t2 a2) e = same_laid p (core.tracked k1 t1 a1) (core.tracked k2 t2 a2) e
fits_laid p (core.tracked k1 t1 a1) (core.owning s2 t2 a2) e = same_laid p (core.tracked k1 t1 a1) (core.owning s2 t2 a2) e
fits_laid p (core.tracked k1 t1 a1) (core.guarded k2 t2 a2) e = same_laid p (core.tracked k1 t1 a1) (core.guarded k2 t2 a2) e
fits_laid p (core.tracked k1 t1 a1) (core.variant t2 a2) e = same_laid p (core.tracked k1 t1 a1) (core.variant t2 a2) e
fits_laid p (core.tracked k1 t1 a1) (core.owning_variant t2 a2) e = same_laid p (core.tracked k1 t1 a1) (core.owning_variant t2 a2) e
fits_laid p (core.owning s1 t1 a1) core.int e = same_laid p (core.owning s1 t1 a1) core.int e
fits_laid p (core.owning s1 t1 a1) core.bool e = same_laid p (core.owning s1 t1 a1) core.bool e
fits_laid p (core.owning s1 t1 a1) (core.tracked k2 t2 a2) e = same_laid p (core.owning s1 t1 a1) (core.tracked k2 t2 a2) e
fits_laid p (core.owning s1 t1 a1) (core.owning s2 t2 a2) e = owning_laid p s2 s1 t2 t1 a2 a1 (object_type t2 t1 a2 a1 (and_left (same_object t2 a2 t1 a1) (lies_within s2 s1) e))
fits_laid p (core.owning s1 t1 a1) (core.guarded k2 t2 a2) e = same_laid p (core.owning s1 t1 a1) (core.guarded k2 t2 a2) e
fits_laid p (core.owning s1 t1 a1) (core.variant t2 a2) e = same_laid p (core.owning s1 t1 a1) (core.variant t2 a2) e
fits_laid p (core.owning s1 t1 a1) (core.owning_variant t2 a2) e = same_laid p (core.owning s1 t1 a1) (core.owning_variant t2 a2) e
fits_laid p (core.guarded k1 t1 a1) core.int e = same_laid p (core.guarded k1 t1 a1) core.int e
fits_laid p (core.guarded k1 t1 a1) core.bool e = same_laid p (core.guarded k1 t1 a1) core.bool e
fits_laid p (core.guarded k1 t1 a1) (core.tracked k2 t2 a2) e = same_laid p (core.guarded k1 t1 a1) (core.tracked k2 t2 a2) e
fits_laid p (core.guarded k1 t1 a1) (core.owning s2 t2 a2) e = same_laid p (core.guarded k1 t1 a1) (core.owning s2 t2 a2) e
fits_laid p (core.guarded k1 t1 a1) (core.guarded k2 t2 a2) e = same_laid p (core.guarded k1 t1 a1) (core.guarded k2 t2 a2) e
fits_laid p (core.guarded k1 t1 a1) (core.variant t2 a2) e = same_laid p (core.guarded k1 t1 a1) (core.variant t2 a2) e
fits_laid p (core.guarded k1 t1 a1) (core.owning_variant t2 a2) e = same_laid p (core.guarded k1 t1 a1) (core.owning_variant t2 a2) e
fits_laid p (core.variant t1 a1) core.int e = same_laid p (core.variant t1 a1) core.int e
fits_laid p (core.variant t1 a1) core.bool e = same_laid p (core.variant t1 a1) core.bool e
fits_laid p (core.variant t1 a1) (core.tracked k2 t2 a2) e = same_laid p (core.variant t1 a1) (core.tracked k2 t2 a2) e
fits_laid p (core.variant t1 a1) (core.owning s2 t2 a2) e = same_laid p (core.variant t1 a1) (core.owning s2 t2 a2) e
fits_laid p (core.variant t1 a1) (core.guarded k2 t2 a2) e = same_laid p (core.variant t1 a1) (core.guarded k2 t2 a2) e
fits_laid p (core.variant t1 a1) (core.variant t2 a2) e = same_laid p (core.variant t1 a1) (core.variant t2 a2) e
fits_laid p (core.variant t1 a1) (core.owning_variant t2 a2) e = same_laid p (core.variant t1 a1) (core.owning_variant t2 a2) e
fits_laid p (core.owning_variant t1 a1) core.int e = same_laid p (core.owning_variant t1 a1) core.int e
fits_laid p (core.owning_variant t1 a1) core.bool e = same_laid p (core.owning_variant t1 a1) core.bool e
fits_laid p (core.owning_variant t1 a1) (core.tracked k2 t2 a2) e = same_laid p (core.owning_variant t1 a1) (core.tracked k2 t2 a2) e
fits_laid p (core.owning_variant t1 a1) (core.owning s2 t2 a2) e = same_laid p (core.owning_variant t1 a1) (core.owning s2 t2 a2) e
fits_laid p (core.owning_variant t1 a1) (core.guarded k2 t2 a2) e = same_laid p (core.owning_variant t1 a1) (core.guarded k2 t2 a2) e
fits_laid p (core.owning_variant t1 a1) (core.variant t2 a2) e = same_laid p (core.owning_variant t1 a1) (core.variant t2 a2) e
fits_laid p (core.owning_variant t1 a1) (core.owning_variant t2 a2) e = same_laid p (core.owning_variant t1 a1) (core.owning_variant t2 a2) e

-- keys are no matter
pub keys_laid : (p : Program) (keys : List ℕ) (a : Ty) → IsLaidAs p a (with_keys keys a)
keys_laid p keys core.int = laid_self p core.int
keys_laid p keys core.bool = laid_self p core.bool
keys_laid p keys (core.tracked k t args) = tracked_laid p k _ t t args _ refl
keys_laid p keys (core.guarded k t args) = guarded_laid p k _ t t args _ refl
keys_laid p keys (core.owning states t args) = owning_laid p states states t t args _ refl
keys_laid p keys (core.variant t args) = variant_laid p t t args _ refl
keys_laid p keys (core.owning_variant t args) = owning_variant_laid p t t args _ refl
