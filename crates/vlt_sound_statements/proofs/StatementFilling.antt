-- Variables of an arm get what was handed over.
use Rattle.std.proofs.Common.{◌≡◌, ◌⊎◌, inr, ⊎_elim, ℕ, ◌<◌, nat_lt, Bool, true, false, ◌&&◌, ◌||◌, not, if◌then◌else◌, List, [], ◌∷◌, ◌++◌, length, map, Some, None, is_some, refl, sym, ap, ◌∙◌, subst, arith}
use Rattle.std.proofs.lemmas.Bool.{cases_Bool}
use Rattle.std.specs.List.{list_all}
use Rattle.vlt_core.specs.Core.{States, Ty, int, bool, tracked, owning, guarded, variant, owning_variant, a_var, Func, Program}
use Rattle.vlt_core.specs.Lookups.{var_type, is_owning, is_owning_var, owns}
use Rattle.vlt_core.specs.Maps.{full, kind_of, is_absent, HeldMap, wants_absent, becomes_full, Row, row_passed, CanPass, map_after}
use Rattle.vlt_core.specs.Rows.{row, fill_rows}
use Rattle.vlt_core.specs.Types.{same_ty, same_states, same_object, is_same_bool, state_numbers}
use Rattle.vlt_core.specs.KindedHeads.{has, is_payload_type}
use Rattle.vlt_core.specs.declared.rules.TheConstants as rule
use Rattle.vlt_core.specs.KindedScopes.{Ids, with_var, binding_broken}
use Rattle.vlt_core.specs.KindedOperands.{misfit, fits_owning}
use Rattle.vlt_core.specs.KindedBodies.{with_vars, arm_vars_broken}
use Rattle.vlt_meaning.specs.World.{Part, one, objects_in, gone, loose, World, Frame, not_empty}
use Rattle.vlt_meaning.specs.Step.{Step, is_fillable, with_filled}
use Rattle.vlt_meaning.specs.Step as step
use Rattle.vlt_sound_worlds.specs.Look.{look}
use Rattle.vlt_sound_worlds.specs.Members.{In}
use Rattle.vlt_sound_worlds.specs.Roots.{in_hand}
use Rattle.vlt_sound_worlds.proofs.Members.{in_left}
use Rattle.vlt_sound_worlds.specs.Fits.{Fits}
use Rattle.vlt_sound_worlds.specs.Agrees.{HasVar, InScope, Handed, values_of, Context, scene, Agrees}
use Rattle.vlt_sound_worlds.specs.Typed.{IsLimited}
use Rattle.vlt_sound_worlds.specs.Safe.{Goal, Safe}
use Rattle.vlt_sound_worlds.proofs.Empty.{both_empty, both_so, unless_so}
use Rattle.vlt_sound_worlds.proofs.Rows.{row_here}
use Rattle.vlt_sound_worlds.proofs.Safe.{so_safe}
use Rattle.vlt_sound_worlds.proofs.FrameChanges.{agrees_set}
use Rattle.vlt_sound_worlds.proofs.Plain.{same_plain, plain_value}
use Rattle.vlt_sound_worlds.proofs.Handing.{agrees_filled}
use Rattle.vlt_sound_worlds.proofs.TypeFacts.{var_known, fits_wider}
use Rattle.vlt_sound_worlds.proofs.Owning.{row_tok}
use Rattle.vlt_sound_worlds.proofs.Binding.{first_or_other, binding_kept}
use Rattle.vlt_sound_worlds.specs.Handed.{handed_values}
use Rattle.vlt_sound_worlds.proofs.Hand.{agrees_hand}
use Rattle.vlt_sound_statements.proofs.Facts.{absent_is}

-- ---- types that are found the same

same_within : (a b : States) (ns : List ℕ) → list_all (λ s. is_same_bool (a s) (b s)) ns ≡ true →
    list_all (λ s. not (a s) || b s) ns ≡ true
same_within a b [] e = refl
same_within a b (n ∷ ns) e =
    let both = both_so (is_same_bool (a n) (b n)) (list_all (λ s. is_same_bool (a s) (b s)) ns) e in
    rw (at (a n) (b n) both.0) (same_within a b ns both.1)
  where
    at : (x y : Bool) → is_same_bool x y ≡ true → (not x || y) ≡ true
    at true true e = refl
    at true false e = cc
    at false y e = refl

-- a payload's type and a variable's that are found the same
pub record AreSame (w ty : Ty) : Type 0 where
  pub payload : is_payload_type ty ≡ true
  pub plain : is_owning w ≡ false → w ≡ ty
  pub owned : is_owning w ≡ true → (is_owning ty ≡ true) × (fits_owning ty w ≡ true)

same_types : (w ty : Ty) → is_payload_type w ≡ true → same_ty w ty ≡ true → AreSame w ty
same_types int int p e = record { payload = refl; plain = λ o. refl; owned = λ o. cc }
same_types int bool p e = cc
same_types int (tracked k t a) p e = cc
same_types int (owning S t a) p e = cc
same_types int (guarded k t a) p e = cc
same_types int (variant t a) p e = cc
same_types int (owning_variant t a) p e = cc
same_types bool int p e = cc
same_types bool bool p e = record { payload = refl; plain = λ o. refl; owned = λ o. cc }
same_types bool (tracked k t a) p e = cc
same_types bool (owning S t a) p e = cc
same_types bool (guarded k t a) p e = cc
same_types bool (variant t a) p e = cc
same_types bool (owning_variant t a) p e = cc
same_types (tracked k t a) ty p e = cc
same_types (owning S t a) int p e = cc
same_types (owning S t a) bool p e = cc
same_types (owning S t a) (tracked k u b) p e = cc
same_types (owning S t a) (owning R u b) p e =
    let both = both_so (same_states S R) (same_object t a u b) e in
    record {
      payload = refl;
      plain = λ o. cc;
      owned = λ o. (refl, rw (both.1, same_within S R state_numbers both.0) refl);
    }
same_types (owning S t a) (guarded k u b) p e = cc
same_types (owning S t a) (variant u b) p e = cc
same_types (owning S t a) (owning_variant u b) p e = cc
same_types (guarded k t a) int p e = cc
same_types (guarded k t a) bool p e = cc
same_types (guarded k t a) (tracked j u b) p e = cc
same_types (guarded k t a) (owning S u b) p e = cc
same_types (guarded k t a) (guarded j u b) p e =
    record { payload = refl; plain = λ o. same_plain (guarded k t a) (guarded j u b) refl e; owned = λ o. cc }
same_types (guarded k t a) (variant u b) p e = cc
same_types (guarded k t a) (owning_variant u b) p e = cc
same_types (variant t a) ty p e = cc
same_types (owning_variant t a) ty p e = cc

-- each type is one that a payload can have
abbrev pub ArePayloads : List Ty → Type 0
ArePayloads [] = Unit {0}
ArePayloads (t ∷ ts) = (is_payload_type t ≡ true) × ArePayloads ts

-- ---- scopes

-- a variable that is bound is the only new one
pub var_scope : (f : Func) (v : ℕ) (ids : Ids) (u : ℕ) → InScope (with_var f v ids) u → (u ≡ v) ⊎ InScope ids u
var_scope f v ids u e = by (nat_lt v (length f.vars)) e
  where
    by : (b : Bool) →
        has (if b then record ids { vars = v ∷ ids.vars; vars_ever = v ∷ ids.vars_ever } else ids).vars u ≡ true →
        (u ≡ v) ⊎ InScope ids u
    by true e = first_or_other u v ids.vars e
    by false e = inr e

-- ---- one variable

module _ {p : Program} {f : Func} {c : Context} {h : HeldMap} {ids : Ids} {x : Handed} {hand : List Handed} {frame : Frame}
    (limited : IsLimited p) (w : World) (agrees : Agrees p f c h ids (x ∷ hand) frame w.objects) (v : ℕ) (ty : Ty)
    (is : var_type f v ≡ Some ty) where
  abbrev fills : Row
  fills = row (a_var v) wants_absent becomes_full

  -- it owns
  owned_filled : is_owning ty ≡ true → is_owning x.type ≡ true → fits_owning ty x.type ≡ true →
      kind_of (h (a_var v)) ≡ is_absent →
      (is_fillable f v frame ≡ true) ×
      Agrees p f c (row_passed fills h) (with_var f v ids) hand (step.with_var v (Some x.value) frame) w.objects
  owned_filled own_ty own_x wide empty =
      let owner : is_owning_var f v ≡ true = ap owns is ∙ own_ty in
      let none : frame.vars v ≡ None =
      (subst (λ s. HasVar (is_owning_var f v) s (frame.vars v)) (absent_is (h (a_var v)) empty) (agrees.vars.full v)) owner in (
        ap (λ a. not (is_owning_var f v && is_some a)) none ∙ ap (λ b. not (b && false)) owner,
        agrees_filled agrees v (row_passed fills h) (row_tok fills h full (row_here fills h)) ty (with_var f v ids) none is own_ty
            (fits_wider p (scene c w.objects agrees.heads) frame.keys ty x.type x.value small own_x wide agrees.handed.0)
            (var_scope f v ids),
      )
    where
      clash : gone ≡ loose → ⊥
      clash e = cc

      small : (n : ℕ) → In n (objects_in x.value) → (look w.objects n).state < 32
      small n i =
          let loose_now = (agrees.placed.here in_hand n (in_left n (objects_in x.value) (values_of hand) i)).1 in
          (limited.narrow (look w.objects n).type).below (look w.objects n).state
          (agrees.objects n (λ e. clash (sym e ∙ loose_now))).state

  -- it owns nothing
  plain_filled : is_owning ty ≡ false → is_payload_type ty ≡ true → x.type ≡ ty →
      (is_fillable f v frame ≡ true) ×
      Agrees p f c h (with_var f v ids) hand (step.with_var v (Some x.value) frame) w.objects
  plain_filled plain payload same =
      let off : is_owning_var f v ≡ false = ap owns is ∙ plain in
      let fits = subst (λ t. Fits p (scene c w.objects agrees.heads) frame.keys t x.value) same agrees.handed.0 in
      let none = plain_value p (scene c w.objects agrees.heads) frame.keys ty x.value plain
      (λ t args e. absurd (no_variant t args (ap is_payload_type (sym e) ∙ payload))) fits in
      let now = agrees_set agrees v ty x.value (with_var f v ids) is plain none fits (var_scope f v ids) in (
        ap (λ b. not (b && is_some (frame.vars v))) off,
        agrees_hand now hand (sym (ap (λ ns. ns ++ values_of hand) none)) now.handed.1,
      )
    where
      no_variant : (t : ℕ) (args : List ℕ) → is_payload_type (variant t args) ≡ true → ⊥
      no_variant t args e = cc

-- ---- all of them

module _ {p : Program} {f : Func} {c : Context} (limited : IsLimited p) (g : Goal) (w : World)
    (go : Frame → Step) where
  pub filled_safe : (types : List Ty) (vs : List ℕ) (parts : List Part) {h : HeldMap} {ids : Ids} {frame : Frame} →
      Agrees p f c h ids (handed_values types (map one parts)) frame w.objects → ArePayloads types →
      arm_vars_broken f ids types vs ≡ [] → length vs ≡ length types → length parts ≡ length types →
      CanPass (fill_rows f vs) h →
      ((frame' : Frame) → Agrees p f c (map_after (fill_rows f vs) h) (with_vars f vs ids) [] frame' w.objects → Safe g (go frame')) →
      Safe g (with_filled f vs (map one parts) frame w go)
  unfolding with_filled
  filled_safe [] [] [] {frame = frame} agrees payloads kinded many long pass safe = safe frame agrees
  filled_safe [] (v ∷ vs) parts agrees payloads kinded many long pass safe = cc
  filled_safe [] [] (a ∷ parts) agrees payloads kinded many long pass safe = cc
  filled_safe (t ∷ types) [] parts agrees payloads kinded many long pass safe = cc
  filled_safe (t ∷ types) (v ∷ vs) [] agrees payloads kinded many long pass safe = cc
  filled_safe (t ∷ types) (v ∷ vs) (a ∷ parts) {h} {ids} {frame} agrees payloads kinded many long pass safe =
      let s2 = both_empty (misfit (Some t) (var_type f v) ++ binding_broken f ids None v) (arm_vars_broken f (with_var f v ids) types vs) kinded in
      let s1 = both_empty (misfit (Some t) (var_type f v)) (binding_broken f ids None v) s2.0 in
      let known = var_known f v (binding_kept f ids None v s1.1).within in
      let same = same_types t known.0 payloads.0
      (unless_so (same_ty t known.0) rule.WRONG_TYPE (subst (λ o. misfit (Some t) o ≡ []) known.1 s1.0)) in
      by t v a known.0 known.1 same agrees pass safe
      (λ h' agrees' pass' safe'. filled_safe types vs parts agrees' payloads.1 s2.1 (omega arith) (omega arith) pass' safe')
    where
      by : (t : Ty) (v : ℕ) (a : Part) (ty : Ty) → var_type f v ≡ Some ty → AreSame t ty →
          Agrees p f c h ids (handed_values (t ∷ types) (map one (a ∷ parts))) frame w.objects →
          CanPass (fill_rows f (v ∷ vs)) h →
          ((frame' : Frame) → Agrees p f c (map_after (fill_rows f (v ∷ vs)) h) (with_vars f vs (with_var f v ids)) [] frame' w.objects → Safe g (go frame')) →
          ((h' : HeldMap) → Agrees p f c h' (with_var f v ids) (handed_values types (map one parts)) (step.with_var v (Some (one a)) frame) w.objects →
          CanPass (fill_rows f vs) h' →
          ((frame' : Frame) → Agrees p f c (map_after (fill_rows f vs) h') (with_vars f vs (with_var f v ids)) [] frame' w.objects → Safe g (go frame')) →
          Safe g (with_filled f vs (map one parts) (step.with_var v (Some (one a)) frame) w go)) →
          Safe g (with_filled f (v ∷ vs) (map one (a ∷ parts)) frame w go)
      by t v a ty is same agrees pass safe more = ⊎_elim
          (λ own.
          let own_ty = same.owned own in
          let owner : is_owning_var f v ≡ true = ap owns is ∙ own_ty.0 in
          let rows : fill_rows f (v ∷ vs) ≡ row (a_var v) wants_absent becomes_full ∷ fill_rows f vs = owning_rows v owner in
          let ok = subst (λ rs. CanPass rs h) rows pass in
          let now = owned_filled limited w agrees v ty is own_ty.0 own own_ty.1 ok.0 in
          so_safe g (is_fillable f v frame) not_empty None w _ now.0
          (more (row_passed (row (a_var v) wants_absent becomes_full) h) now.1 ok.1
          (λ frame' done. safe frame' (subst (λ rs. Agrees p f c (map_after rs h) (with_vars f vs (with_var f v ids)) [] frame' w.objects) (sym rows) done))))
          (λ plain.
          let ty_is = same.plain plain in
          let off : is_owning_var f v ≡ false = ap owns is ∙ (ap is_owning (sym ty_is) ∙ plain) in
          let rows : fill_rows f (v ∷ vs) ≡ fill_rows f vs = plain_rows v off in
          let ok = subst (λ rs. CanPass rs h) rows pass in
          let now = plain_filled limited w agrees v ty is (ap is_owning (sym ty_is) ∙ plain) same.payload ty_is in
          so_safe g (is_fillable f v frame) not_empty None w _ now.0
          (more h now.1 ok
          (λ frame' done. safe frame' (subst (λ rs. Agrees p f c (map_after rs h) (with_vars f vs (with_var f v ids)) [] frame' w.objects) (sym rows) done))))
          (cases_Bool (is_owning t))
        where
          owning_rows : (v : ℕ) → is_owning_var f v ≡ true →
              fill_rows f (v ∷ vs) ≡ row (a_var v) wants_absent becomes_full ∷ fill_rows f vs
          owning_rows v e = rw e refl

          plain_rows : (v : ℕ) → is_owning_var f v ≡ false → fill_rows f (v ∷ vs) ≡ fill_rows f vs
          plain_rows v e = rw e refl
