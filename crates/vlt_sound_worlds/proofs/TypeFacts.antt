-- What statements that break no rule say of types.
use Rattle.std.proofs.Common.{◌≡◌, inl, ⊎_elim, ℕ, ◌==◌, ◌<◌, nat_lt, Bool, true, false, ◌&&◌, if◌then◌else◌, List, [], map, length, Option, Some, None, refl, sym, ap, ◌∙◌, subst, arith}
use Rattle.std.proofs.lemmas.Bool.{eqb-true, ltb-true, cases_Bool}
use Rattle.std.proofs.lemmas.Option.{slice_get_cases}
use Rattle.std.specs.Option.{option_map}
use Rattle.vlt_core.specs.Core.{States, Ty, int, bool, tracked, owning, guarded, variant, owning_variant, Func, Program}
use Rattle.vlt_core.specs.Lookups.{var_type, is_owning}
use Rattle.vlt_core.specs.Types.{same_ty, same_keys, same_object, lies_within, decl_of}
use Rattle.vlt_core.specs.KindedHeads.{has, unless, when_some, states_broken}
use Rattle.vlt_core.specs.KindedScopes.{use_broken, Ids, target_broken}
use Rattle.vlt_core.specs.KindedOperands.{misfit, fits_owning, is_basic, move_broken, pack_broken}
use Rattle.vlt_core.specs.KindedStatements.{wanted_of, tracked_broken, droppable_broken, is_guarded_type, objects_apart, keys_differ}
use Rattle.vlt_core.specs.declared.rules.TheConstants as rule
use Rattle.vlt_meaning.specs.World.{Value, one, objects_in}
use Rattle.vlt_sound_worlds.specs.Members.{In}
use Rattle.vlt_sound_worlds.specs.Look.{look}
use Rattle.vlt_sound_worlds.specs.Scene.{Scene, IsOf}
use Rattle.vlt_sound_worlds.specs.Fits.{Names, names_of, IsCase, Fits}
use Rattle.vlt_sound_worlds.proofs.Empty.{both_empty, both_so, unless_so, within_at}
use Rattle.vlt_sound_worlds.specs.Agrees.{InScope}
use Rattle.vlt_sound_worlds.specs.Typed.{IsTyped}
use Rattle.vlt_sound_worlds.proofs.Touch.{Used, used}
use Rattle.vlt_core.specs.Types.{is_droppable_struct}
use Rattle.vlt_sound_worlds.proofs.Plain.{same_plain, keys_same}

pub var_known : (f : Func) (v : ℕ) → nat_lt v (length f.vars) ≡ true → (ty : Ty) × (var_type f v ≡ Some ty)
var_known f v e = ⊎_elim
    (λ at. (at.0.ty, ap (option_map (λ d. d.ty)) at.2))
    (λ past. let le = past.0 in let lt = ltb-true v (length f.vars) e in absurd (omega arith))
    (slice_get_cases f.vars v).1

-- a target has a type
pub target_known : (f : Func) (ids : Ids) (v : ℕ) → target_broken f ids v ≡ [] → (ty : Ty) × (var_type f v ≡ Some ty)
target_known f ids v e =
    ⊎_elim (λ lt. var_known f v lt) (λ past. absurd (unknown past)) (cases_Bool (nat_lt v (length f.vars)))
  where
    and_false : (b : Bool) → (b && false) ≡ false
    and_false true = refl
    and_false false = refl

    unknown : nat_lt v (length f.vars) ≡ false → ⊥
    unknown past = let e1 = rw past at e in let e2 = rw (and_false (has ids.vars v)) at e1 in cc

-- a value of a type that owns nothing fits where its type does
pub misfit_plain : (w ty : Ty) (type : Option Ty) → type ≡ Some ty → is_owning ty ≡ false →
    misfit (Some w) type ≡ [] → w ≡ ty
misfit_plain w ty type known plain e =
    let q : misfit (Some w) (Some ty) ≡ [] = subst (λ t. misfit (Some w) t ≡ []) known e in
    same_plain w ty plain (unless_so (same_ty w ty) rule.WRONG_TYPE q)

module _ (p : Program) (s : Scene) (names : Names) where
  -- an owning value fits a wider type, where states have numbers below 32
  pub fits_wider : (w t : Ty) (a : Value) → ((n : ℕ) → In n (objects_in a) → (look s.objects n).state < 32) →
      is_owning t ≡ true → fits_owning w t ≡ true → Fits p s names t a → Fits p s names w a
  fits_wider (owning S t args) (owning S' t' args') a small o e f =
      let both = both_so (same_object t' args' t args) (lies_within S' S) e in
      let same = both_so (t' == t) (same_keys args' args) both.0 in
      let type = eqb-true t' t same.0 in
      let keys = keys_same args' args same.1 in
      record {
        part = f.part;
        is = f.is;
        fits = record {
          object = f.fits.object;
          is = f.fits.is;
          of =
              subst (λ args. IsOf s t (map names args) f.fits.object) keys
              (subst (λ t. IsOf s t (map names args') f.fits.object) type f.fits.of);
          state =
              within_at S' S (look s.objects f.fits.object).state
              (small f.fits.object (subst (λ a. In f.fits.object (objects_in a)) (sym (f.is ∙ ap one f.fits.is)) (inl refl))) both.1 f.fits.state;
        };
      }
  fits_wider (owning_variant t args) (owning_variant t' args') a small o e f =
      let same = both_so (t == t') (same_keys args args') e in
      let type = eqb-true t t' same.0 in
      let keys = keys_same args args' same.1 in
      subst (λ t. IsCase p s (names_of (map names args)) t a) (sym type)
      (subst (λ args. IsCase p s (names_of (map names args)) t' a) (sym keys) f)
  fits_wider int int v small o e f = cc
  fits_wider int bool v small o e f = cc
  fits_wider int (tracked k' u' a') v small o e f = cc
  fits_wider int (owning k' u' a') v small o e f = cc
  fits_wider int (guarded k' u' a') v small o e f = cc
  fits_wider int (variant u' a') v small o e f = cc
  fits_wider int (owning_variant u' a') v small o e f = cc
  fits_wider bool int v small o e f = cc
  fits_wider bool bool v small o e f = cc
  fits_wider bool (tracked k' u' a') v small o e f = cc
  fits_wider bool (owning k' u' a') v small o e f = cc
  fits_wider bool (guarded k' u' a') v small o e f = cc
  fits_wider bool (variant u' a') v small o e f = cc
  fits_wider bool (owning_variant u' a') v small o e f = cc
  fits_wider (tracked k u a) int v small o e f = cc
  fits_wider (tracked k u a) bool v small o e f = cc
  fits_wider (tracked k u a) (tracked k' u' a') v small o e f = cc
  fits_wider (tracked k u a) (owning k' u' a') v small o e f = cc
  fits_wider (tracked k u a) (guarded k' u' a') v small o e f = cc
  fits_wider (tracked k u a) (variant u' a') v small o e f = cc
  fits_wider (tracked k u a) (owning_variant u' a') v small o e f = cc
  fits_wider (owning k u a) int v small o e f = cc
  fits_wider (owning k u a) bool v small o e f = cc
  fits_wider (owning k u a) (tracked k' u' a') v small o e f = cc
  fits_wider (owning k u a) (guarded k' u' a') v small o e f = cc
  fits_wider (owning k u a) (variant u' a') v small o e f = cc
  fits_wider (owning k u a) (owning_variant u' a') v small o e f = cc
  fits_wider (guarded k u a) int v small o e f = cc
  fits_wider (guarded k u a) bool v small o e f = cc
  fits_wider (guarded k u a) (tracked k' u' a') v small o e f = cc
  fits_wider (guarded k u a) (owning k' u' a') v small o e f = cc
  fits_wider (guarded k u a) (guarded k' u' a') v small o e f = cc
  fits_wider (guarded k u a) (variant u' a') v small o e f = cc
  fits_wider (guarded k u a) (owning_variant u' a') v small o e f = cc
  fits_wider (variant u a) int v small o e f = cc
  fits_wider (variant u a) bool v small o e f = cc
  fits_wider (variant u a) (tracked k' u' a') v small o e f = cc
  fits_wider (variant u a) (owning k' u' a') v small o e f = cc
  fits_wider (variant u a) (guarded k' u' a') v small o e f = cc
  fits_wider (variant u a) (variant u' a') v small o e f = cc
  fits_wider (variant u a) (owning_variant u' a') v small o e f = cc
  fits_wider (owning_variant u a) int v small o e f = cc
  fits_wider (owning_variant u a) bool v small o e f = cc
  fits_wider (owning_variant u a) (tracked k' u' a') v small o e f = cc
  fits_wider (owning_variant u a) (owning k' u' a') v small o e f = cc
  fits_wider (owning_variant u a) (guarded k' u' a') v small o e f = cc
  fits_wider (owning_variant u a) (variant u' a') v small o e f = cc

-- a type that is found the same as int or bool is that one
pub basic_is : (w ty : Ty) → is_basic w ≡ true → same_ty w ty ≡ true → w ≡ ty
basic_is int int b e = refl
basic_is int bool b e = cc
basic_is int (tracked k u a) b e = cc
basic_is int (owning k u a) b e = cc
basic_is int (guarded k u a) b e = cc
basic_is int (variant u a) b e = cc
basic_is int (owning_variant u a) b e = cc
basic_is bool int b e = cc
basic_is bool bool b e = refl
basic_is bool (tracked k u a) b e = cc
basic_is bool (owning k u a) b e = cc
basic_is bool (guarded k u a) b e = cc
basic_is bool (variant u a) b e = cc
basic_is bool (owning_variant u a) b e = cc
basic_is (tracked k u a) ty b e = cc
basic_is (owning k u a) ty b e = cc
basic_is (guarded k u a) ty b e = cc
basic_is (variant u a) ty b e = cc
basic_is (owning_variant u a) ty b e = cc

-- what an operand that breaks no rule says
pub wanted_owning : (o : Option Ty) (ty : Ty) → o ≡ Some ty → wanted_of o is_owning ≡ [] → is_owning ty ≡ true
wanted_owning o ty is e = let q = rw is at e in unless_so (is_owning ty) rule.WRONG_TYPE q

pub move_facts : (b : Bool) (wanted given : Option Ty) (w t : Ty) → b ≡ true → wanted ≡ Some w → given ≡ Some t →
    move_broken (if b then wanted else None) given ≡ [] → (is_owning t ≡ true) × (fits_owning w t ≡ true)
move_facts b wanted given w t on is from e =
    let q = rw (on, is, from) at e in
    both_so (is_owning t) (fits_owning w t) (unless_so (is_owning t && fits_owning w t) rule.WRONG_TYPE q)

pub pack_facts : (p : Program) (b : Bool) (wanted given : Option Ty) (w : Ty) (k t : ℕ) (args : List ℕ)
    (states : States) → b ≡ true → wanted ≡ Some w →
    given ≡ Some (tracked k t args) → pack_broken p (if b then wanted else None) given states ≡ [] →
    fits_owning w (owning states t args) ≡ true
pack_facts p b wanted given w k t args states on is from e =
    let q = rw (on, is, from) at e in
    let two =
    both_empty (when_some (decl_of p t) (λ d. states_broken p t states))
    (unless (fits_owning w (owning states t args) && is_owning w) rule.WRONG_TYPE) q in
    (both_so (fits_owning w (owning states t args)) (is_owning w) (unless_so (fits_owning w (owning states t args) && is_owning w) rule.WRONG_TYPE two.1)).0

-- a variable that is packed is a reference
pub packed_tracked : (p : Program) (wanted given : Option Ty) (ty : Ty) (states : States) → given ≡ Some ty →
    pack_broken p wanted given states ≡ [] →
    (k : ℕ) × (t : ℕ) × (args : List ℕ) × (ty ≡ tracked k t args)
packed_tracked p wanted given int states is e = let q = rw is at e in cc
packed_tracked p wanted given bool states is e = let q = rw is at e in cc
packed_tracked p wanted given (tracked k t args) states is e = (k, t, args, refl)
packed_tracked p wanted given (owning S t args) states is e = let q = rw is at e in cc
packed_tracked p wanted given (guarded k t args) states is e = let q = rw is at e in cc
packed_tracked p wanted given (variant t args) states is e = let q = rw is at e in cc
packed_tracked p wanted given (owning_variant t args) states is e = let q = rw is at e in cc

-- a reference in scope
pub record Reference' (f : Func) (ids : Ids) (x : ℕ) : Type 0 where
  pub key : ℕ
  pub type : ℕ
  pub args : List ℕ
  pub is : var_type f x ≡ Some (tracked key type args)
  pub scoped : InScope ids x

pub tracked_known : (f : Func) (ids : Ids) (r x : ℕ) → tracked_broken f ids r x ≡ [] → Reference' f ids x
tracked_known f ids r x e = by u.ty u.is
  where
    u : Used f ids x
    u = used f ids x (both_empty (use_broken f ids x) _ e).0

    by : (ty : Ty) → var_type f x ≡ Some ty → Reference' f ids x
    by (tracked k t args) is = record { key = k; type = t; args = args; is = is; scoped = u.scoped }
    by int is = let q = (both_empty (use_broken f ids x) _ e).1 in let q2 = rw is at q in cc
    by bool is = let q = (both_empty (use_broken f ids x) _ e).1 in let q2 = rw is at q in cc
    by (owning S t args) is = let q = (both_empty (use_broken f ids x) _ e).1 in let q2 = rw is at q in cc
    by (guarded k t args) is = let q = (both_empty (use_broken f ids x) _ e).1 in let q2 = rw is at q in cc
    by (variant t args) is = let q = (both_empty (use_broken f ids x) _ e).1 in let q2 = rw is at q in cc
    by (owning_variant t args) is = let q = (both_empty (use_broken f ids x) _ e).1 in let q2 = rw is at q in cc

-- a reference whose object may be dropped
pub droppable_known : (p : Program) (f : Func) (x k t : ℕ) (args : List ℕ) → IsTyped p f →
    var_type f x ≡ Some (tracked k t args) →
    droppable_broken p f x ≡ [] → is_droppable_struct p t ≡ true
droppable_known p f x k t args typed is e =
    let dec = typed.vars x (tracked k t args) t is refl in
    let q1 = rw is at e in
    let q2 = rw dec.is at q1 in
    unless_so (is_droppable_struct p t) rule.WRONG_RELEASE
    (subst (λ o. when_some o (λ d. unless (is_droppable_struct p t) rule.WRONG_RELEASE) ≡ []) dec.is q1)

-- a guarded target
pub record GuardedTy (ty : Ty) : Type 0 where
  pub key : ℕ
  pub type : ℕ
  pub args : List ℕ
  pub is : ty ≡ guarded key type args

pub guarded_known : (o : Option Ty) (ty : Ty) → o ≡ Some ty → wanted_of o is_guarded_type ≡ [] → GuardedTy ty
guarded_known o int is e = let q = rw is at e in cc
guarded_known o bool is e = let q = rw is at e in cc
guarded_known o (tracked k t args) is e = let q = rw is at e in cc
guarded_known o (owning S t args) is e = let q = rw is at e in cc
guarded_known o (guarded k t args) is e = record { key = k; type = t; args = args; is = refl }
guarded_known o (variant t args) is e = let q = rw is at e in cc
guarded_known o (owning_variant t args) is e = let q = rw is at e in cc

-- objects of one declared type under the same keys
pub apart_same : (a b : Option (ℕ × List ℕ)) (t u : ℕ) (args others : List ℕ) → a ≡ Some (t, args) →
    b ≡ Some (u, others) → objects_apart a b ≡ [] →
    (t ≡ u) × (args ≡ others)
apart_same a b t u args others x y e =
    let q = rw (x, y) at e in
    let both = both_so (t == u) (same_keys args others) (unless_so (same_object t args u others) rule.WRONG_TYPE q) in
    (eqb-true t u both.0, keys_same args others both.1)

pub keys_agree : (a b : Option ℕ) (k j : ℕ) → a ≡ Some k → b ≡ Some j → keys_differ a b ≡ [] → k ≡ j
keys_agree a b k j x y e = let q = rw (x, y) at e in eqb-true k j (unless_so (k == j) rule.WRONG_TYPE q)
