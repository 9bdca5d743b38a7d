-- What a focus that breaks no rule says of its two variables.
use Rattle.std.proofs.Common.{◌≡◌, ℕ, nat_lt, true, List, [], ◌++◌, length, Option, Some, refl, ap, ◌∙◌, subst}
use Rattle.vlt_core.specs.Core.{Ty, int, bool, tracked, owning, guarded, variant, owning_variant, Func, Program}
use Rattle.vlt_core.specs.Lookups.{var_type}
use Rattle.vlt_core.specs.Maps.{Status, absent, held, lent, full, kind_of, is_absent, is_lent, states_of}
use Rattle.vlt_core.specs.KindedScopes.{Ids, tracked_key, own_key, use_broken, fresh_broken, binding_broken}
use Rattle.vlt_core.specs.KindedStatements.{tracked_type, is_guarded_type, is_tracked_type, wanted_of, objects_apart, guarded_object}
use Rattle.vlt_core.specs.KindedBodies.{focus_broken}
use Rattle.vlt_sound_worlds.specs.Agrees.{InScope}
use Rattle.vlt_sound_worlds.proofs.Empty.{both_empty}
use Rattle.vlt_sound_worlds.proofs.Touch.{used}
use Rattle.vlt_sound_worlds.proofs.TypeFacts.{var_known, guarded_known, apart_same}
use Rattle.vlt_sound_worlds.proofs.Binding.{binding_kept}

pub absent_is : (s : Status) → kind_of s ≡ is_absent → s ≡ absent
absent_is absent e = refl
absent_is (held S) e = cc
absent_is (lent S) e = cc
absent_is full e = cc

pub lent_is : (s : Status) → kind_of s ≡ is_lent → s ≡ lent (states_of s)
lent_is absent e = cc
lent_is (held S) e = cc
lent_is (lent S) e = refl
lent_is full e = cc

record TrackedTy (ty : Ty) : Type 0 where
  key : ℕ
  type : ℕ
  args : List ℕ
  is : ty ≡ tracked key type args

tracked_known : (o : Option Ty) (ty : Ty) → o ≡ Some ty → wanted_of o is_tracked_type ≡ [] → TrackedTy ty
tracked_known o int is e = let q = rw is at e in cc
tracked_known o bool is e = let q = rw is at e in cc
tracked_known o (tracked k t args) is e = record { key = k; type = t; args = args; is = refl }
tracked_known o (owning S t args) is e = let q = rw is at e in cc
tracked_known o (guarded k t args) is e = let q = rw is at e in cc
tracked_known o (variant t args) is e = let q = rw is at e in cc
tracked_known o (owning_variant t args) is e = let q = rw is at e in cc

-- a guarded variable in scope, and a reference of the same type under a key that is bound with it
pub record IsFocus (f : Func) (ids : Ids) (y z : ℕ) : Type 0 where
  pub guard_key : ℕ
  pub key : ℕ
  pub type : ℕ
  pub args : List ℕ
  pub guarded_is : var_type f y ≡ Some (guarded guard_key type args)
  pub tracked_is : var_type f z ≡ Some (tracked key type args)
  pub scoped : InScope ids y
  pub fresh : fresh_broken f ids (Some key) ≡ []

pub focus_known : (f : Func) (p : Program) (ids : Ids) (y z : ℕ) → focus_broken p f ids y z ≡ [] → IsFocus f ids y z
focus_known f p ids y z e =
    let U = use_broken f ids y in
    let G = wanted_of (var_type f y) is_guarded_type in
    let T = wanted_of (var_type f z) is_tracked_type in
    let O = objects_apart (guarded_object (var_type f y)) (tracked_type (var_type f z)) in
    let s4 = both_empty (U ++ G ++ T ++ O) (binding_broken f ids (own_key f z) z) e in
    let s3 = both_empty (U ++ G ++ T) O s4.0 in
    let s2 = both_empty (U ++ G) T s3.0 in
    let s1 = both_empty U G s2.0 in
    let y' = used f ids y s1.0 in
    let bound = binding_kept f ids (own_key f z) z s4.1 in
    let z' = var_known f z bound.within in
    let g = guarded_known (var_type f y) y'.ty y'.is s1.1 in
    let t = tracked_known (var_type f z) z'.0 z'.1 s2.1 in
    let y_is : var_type f y ≡ Some (guarded g.key g.type g.args) = y'.is ∙ ap Some g.is in
    let z_is : var_type f z ≡ Some (tracked t.key t.type t.args) = z'.1 ∙ ap Some t.is in
    let same =
    apart_same (guarded_object (var_type f y)) (tracked_type (var_type f z)) g.type t.type g.args t.args
    (ap guarded_object y_is) (ap tracked_type z_is) s3.1 in
    record {
      guard_key = g.key;
      key = t.key;
      type = t.type;
      args = t.args;
      guarded_is = y_is ∙ (ap (λ t. Some (guarded g.key t g.args)) same.0 ∙ ap (λ a. Some (guarded g.key t.type a)) same.1);
      tracked_is = z_is;
      scoped = y'.scoped;
      fresh = subst (λ o. fresh_broken f ids o ≡ []) (ap tracked_key z_is) bound.key;
    }

-- the variable that a focus binds is the function's
pub binding_within : (p : Program) (f : Func) (ids : Ids) (y z : ℕ) → focus_broken p f ids y z ≡ [] →
    nat_lt z (length f.vars) ≡ true
binding_within p f ids y z e =
    let U = use_broken f ids y in
    let G = wanted_of (var_type f y) is_guarded_type in
    let T = wanted_of (var_type f z) is_tracked_type in
    let O = objects_apart (guarded_object (var_type f y)) (tracked_type (var_type f z)) in
    (binding_kept f ids (own_key f z) z (both_empty (U ++ G ++ T ++ O) (binding_broken f ids (own_key f z) z) e).1).within
