-- An owning variable's object goes under the key of a new reference.
use Rattle.std.proofs.Common.{◌≡◌, inl, inr, ℕ, ◌<◌, List, [], ◌∷◌, ◌++◌, map, Option, Some, None, Ok, refl, sym, ap, ◌∙◌, subst}
use Rattle.vlt_core.specs.Core.{States, Ty, int, bool, tracked, owning, guarded, variant, owning_variant, a_key, a_var, Func, unpack}
use Rattle.vlt_core.specs.Lookups.{var_type, key_type, is_owning_var, tracked_in, owning_states, owning_states_in, reference_of}
use Rattle.vlt_core.specs.Maps.{absent, held, HeldMap, wants_absent, becomes_held, Row, row_passed, CanPass, map_after}
use Rattle.vlt_core.specs.Rows.{simple_rows, row, empty_row}
use Rattle.vlt_core.specs.KindedScopes.{Ids, own_key, tracked_key, with_binding, use_broken, fresh_broken, binding_broken}
use Rattle.vlt_core.specs.KindedStatements.{wanted_of, is_owning_object, is_tracked_type, owning_object, tracked_type, objects_apart, simple_broken, ids_after}
use Rattle.vlt_meaning.specs.World.{one, reference, owned, loose, is_loose, World, Frame, missing}
use Rattle.vlt_meaning.specs.World as world
use Rattle.vlt_meaning.specs.Found.{◌>>=◌, or_fault}
use Rattle.vlt_meaning.specs.Objects.{with_owner, in_states, owned_at}
use Rattle.vlt_meaning.specs.Operands.{owned_in}
use Rattle.vlt_meaning.specs.Step as step
use Rattle.vlt_meaning.specs.Run.{Setup, does_simple}
use Rattle.vlt_sound_worlds.specs.Look.{look}
use Rattle.vlt_sound_worlds.proofs.Look.{look_at, changes_one}
use Rattle.vlt_sound_worlds.specs.Members.{In}
use Rattle.vlt_sound_worlds.specs.Roots.{in_var, owned_by}
use Rattle.vlt_sound_worlds.specs.Keys.{IsOfType}
use Rattle.vlt_sound_worlds.specs.Agrees.{HasVar, InScope, Context, Agrees}
use Rattle.vlt_sound_worlds.specs.Typed.{IsTyped}
use Rattle.vlt_sound_worlds.specs.Safe.{Safe, goes_to}
use Rattle.vlt_sound_worlds.proofs.Empty.{both_empty}
use Rattle.vlt_sound_worlds.proofs.Rows.{row_here}
use Rattle.vlt_sound_worlds.proofs.Touch.{used, named}
use Rattle.vlt_sound_worlds.proofs.Safe.{found_safe}
use Rattle.vlt_sound_worlds.proofs.FrameChanges.{set_here, set_other, agrees_set}
use Rattle.vlt_sound_worlds.proofs.Leaving.{length_changed}
use Rattle.vlt_sound_worlds.proofs.TypeFacts.{var_known, apart_same}
use Rattle.vlt_sound_worlds.proofs.Owning.{row_tok, absent_is, full_is}
use Rattle.vlt_sound_worlds.proofs.Handing.{agrees_moved}
use Rattle.vlt_sound_worlds.proofs.Coming.{agrees_bound, bound_heads}
use Rattle.vlt_sound_worlds.specs.Scoped.{IsScoped, HasKeys}
use Rattle.vlt_sound_worlds.proofs.Binding.{binding_kept, binding_from}
use Rattle.vlt_sound_worlds.proofs.Fresh.{is_fresh}

-- what a statement that breaks no rule says of the types
pub record OwningTy (ty : Ty) : Type 0 where
  pub states : States
  pub type : ℕ
  pub args : List ℕ
  pub is : ty ≡ owning states type args

owning_known : (o : Option Ty) (ty : Ty) → o ≡ Some ty → wanted_of o is_owning_object ≡ [] → OwningTy ty
owning_known o (owning S t args) is e = record { states = S; type = t; args = args; is = refl }
owning_known o int is e = let q = rw is at e in cc
owning_known o bool is e = let q = rw is at e in cc
owning_known o (tracked k t args) is e = let q = rw is at e in cc
owning_known o (guarded k t args) is e = let q = rw is at e in cc
owning_known o (variant t args) is e = let q = rw is at e in cc
owning_known o (owning_variant t args) is e = let q = rw is at e in cc

pub record TrackedTy (ty : Ty) : Type 0 where
  pub key : ℕ
  pub type : ℕ
  pub args : List ℕ
  pub is : ty ≡ tracked key type args

tracked_known : (o : Option Ty) (ty : Ty) → o ≡ Some ty → wanted_of o is_tracked_type ≡ [] → TrackedTy ty
tracked_known o (tracked k t args) is e = record { key = k; type = t; args = args; is = refl }
tracked_known o int is e = let q = rw is at e in cc
tracked_known o bool is e = let q = rw is at e in cc
tracked_known o (owning S t args) is e = let q = rw is at e in cc
tracked_known o (guarded k t args) is e = let q = rw is at e in cc
tracked_known o (variant t args) is e = let q = rw is at e in cc
tracked_known o (owning_variant t args) is e = let q = rw is at e in cc

-- keys that aren't the one that is bound name what they named
names_same : (k n : ℕ) (names : ℕ → Option ℕ) (args : List ℕ) → (In k args → ⊥) →
    map (step.set_at k (Some n) names) args ≡ map names args
names_same k n names [] off = refl
names_same k n names (j ∷ js) off =
    ap (λ a. a ∷ map (step.set_at k (Some n) names) js) (set_other k (Some n) names j (λ e. off (inl (sym e))))
    ∙ ap (λ rest. names j ∷ rest) (names_same k n names js (λ i. off (inr i)))

module _ (r : Setup) (f : Func)
    (typed : IsTyped r.program f) (keyed : HasKeys f) {c : Context} {h : HeldMap} {ids : Ids} {frame : Frame} (w : World)
    (scoped : IsScoped f c ids) (agrees : Agrees r.program f c h ids [] frame w.objects) where
  -- the statement, where the types of its variables are known
  unpacks : (x v k t : ℕ) (args : List ℕ) (S : States) → var_type f x ≡ Some (tracked k t args) →
      InScope ids v → var_type f v ≡ Some (owning S t args) → fresh_broken f ids (Some k) ≡ [] →
      CanPass (simple_rows r.program f (unpack x v)) h →
      Safe
      (goes_to r.program f c (map_after (simple_rows r.program f (unpack x v)) h) (with_binding f (Some k) x ids) [])
      (does_simple r f (unpack x v) frame w)
  unpacks x v k t args S is_x in_v is_v new pass =
      let os = w.objects in
      let kr : Row = row (a_key k) wants_absent (becomes_held S) in
      let rows : simple_rows r.program f (unpack x v) ≡ empty_row v ∷ kr ∷ [] = rw (is_v, is_x) refl in
      let ok = subst (λ rs. CanPass rs h) rows pass in
      let value =
      subst (λ s. HasVar (is_owning_var f v) s (frame.vars v)) (full_is (h (a_var v)) ok.0) (agrees.vars.full v) in
      let h1 : HeldMap = row_passed (empty_row v) h in
      let h2 : HeldMap = row_passed kr h1 in
      let frame1 : Frame = step.with_var v None frame in
      let a1 =
      agrees_moved agrees v h1 absent
      (row_tok (empty_row v) h absent (row_here (empty_row v) h)) value.0 (owning S t args) value.1 is_v refl in_v refl in
      let fit = a1.handed.0 in
      let n : ℕ = fit.fits.object in
      let has_n : value.0 ≡ one (owned n) = fit.is ∙ ap one fit.fits.is in
      let fresh = is_fresh scoped k [] tt (keyed.keys x k (tracked k t args) is_x (inl refl)) new in
      let apart : In k args → ⊥ = λ i. fresh.vars v (owning S t args) in_v is_v i in
      let typing : IsOfType (key_type f k) (look os n).type =
      subst (λ o. IsOfType o (look os n).type) (sym (typed.keys x k t args is_x)) fit.fits.of.typed in
      let none : h1 (a_key k) ≡ absent = absent_is (h1 (a_key k)) ok.1.0 in
      let tok = row_tok kr h1 (held S) (row_here kr h1) in
      let a2 = agrees_bound a1 n has_n fit.fits.of.within k S h2 none tok fit.fits.state typing fresh in
      let heads = bound_heads a1 n has_n fit.fits.of.within k S h2 none tok fit.fits.state typing fresh in
      let was_loose : (look os n).owner ≡ loose =
      (agrees.placed.here (in_var v) n (subst (λ o. In n (owned_by o)) (sym (value.1 ∙ ap Some has_n)) (inl refl))).1 in
      let os2 = step.with_changed w n (with_owner (world.held frame.depth k)) in
      let frame2 : Frame = step.with_key k n frame1 in
      let change = changes_one os n (with_owner (world.held frame.depth k)) fit.fits.of.within in
      let G = goes_to r.program f c h2 (with_binding f (Some k) x ids) [] in
      let found_n : (owned_at is_loose os n >>= in_states S) ≡ Ok (named n (look os n)) =
      rw (look_at os n fit.fits.of.within, was_loose, fit.fits.state) refl in
      subst
      (λ rs. Safe (goes_to r.program f c (map_after rs h) (with_binding f (Some k) x ids) []) (does_simple r f (unpack x v) frame w)) (sym rows)
      (found_safe G (or_fault missing (reference_of f x)) (record { key = k; type = t }) w _
      (ap (λ o. or_fault missing (tracked_in o)) is_x)
      (found_safe G (or_fault missing (owning_states f v)) S w _
      (ap (λ o. or_fault missing (owning_states_in o)) is_v)
      (found_safe G (owned_in (frame.vars v)) n w _
      (ap owned_in value.1 ∙ ap (λ a. owned_in (Some a)) has_n)
      (found_safe G (owned_at is_loose os n >>= in_states S) (named n (look os n)) w _ found_n
      (agrees_set a2 x (tracked k t args) (one (reference n)) (with_binding f (Some k) x ids) is_x refl refl
      (record {
        part = reference n;
        is = refl;
        fits = record {
          object = n;
          named = set_here k (Some n) frame1.keys;
          is = refl;
          of = record {
            within = subst (λ l. n < l) (sym (length_changed os n (with_owner (world.held frame.depth k)))) fit.fits.of.within;
            typed = ap (λ o. o.type) change.here ∙ fit.fits.of.typed;
            headed = ap (λ hs. hs n) heads ∙ (fit.fits.of.headed ∙ sym (names_same k n frame.keys args apart));
          };
        };
      })
      (binding_from f (Some k) x ids))))))

  pub unpack_safe : (x v : ℕ) → simple_broken r.program f ids (unpack x v) ≡ [] →
      CanPass (simple_rows r.program f (unpack x v)) h →
      Safe
      (goes_to r.program f c (map_after (simple_rows r.program f (unpack x v)) h) (ids_after f (unpack x v) ids) [])
      (does_simple r f (unpack x v) frame w)
  unpack_safe x v kinded pass =
      let U = use_broken f ids v in
      let V = wanted_of (var_type f v) is_owning_object in
      let X = wanted_of (var_type f x) is_tracked_type in
      let O = objects_apart (owning_object (var_type f v)) (tracked_type (var_type f x)) in
      let s4 = both_empty (U ++ V ++ X ++ O) (binding_broken f ids (own_key f x) x) kinded in
      let s3 = both_empty (U ++ V ++ X) O s4.0 in
      let s2 = both_empty (U ++ V) X s3.0 in
      let s1 = both_empty U V s2.0 in
      let v' = used f ids v s1.0 in
      let b = binding_kept f ids (own_key f x) x s4.1 in
      let x' = var_known f x b.within in
      let vt = owning_known (var_type f v) v'.ty v'.is s1.1 in
      let xt = tracked_known (var_type f x) x'.0 x'.1 s2.1 in
      let v_is : var_type f v ≡ Some (owning vt.states vt.type vt.args) = v'.is ∙ ap Some vt.is in
      let x_is : var_type f x ≡ Some (tracked xt.key xt.type xt.args) = x'.1 ∙ ap Some xt.is in
      let same =
      apart_same (owning_object (var_type f v)) (tracked_type (var_type f x)) vt.type xt.type vt.args xt.args
      (ap owning_object v_is) (ap tracked_type x_is) s3.1 in
      let own : own_key f x ≡ Some xt.key = ap tracked_key x_is in
      subst
      (λ o. Safe (goes_to r.program f c (map_after (simple_rows r.program f (unpack x v)) h) (with_binding f o x ids) []) (does_simple r f (unpack x v) frame w)) (sym own)
      (unpacks x v xt.key xt.type xt.args vt.states x_is v'.scoped
      (v_is ∙ (ap (λ t. Some (owning vt.states t vt.args)) same.0 ∙ ap (λ a. Some (owning vt.states xt.type a)) same.1))
      (subst (λ o. fresh_broken f ids o ≡ []) own b.key) pass)
