-- A write of a field that owns nothing ends in no fault, and keeps the fact.
use Rattle.std.proofs.Common.{◌≡◌, ⊎_elim, ℕ, zero, suc, ◌<◌, nat_lt, false, List, [], ◌∷◌, ◌++◌, length, Some, None, refl, sym, ap, ◌∙◌, subst, if◌then◌else◌, slice_get, slice_set}
use Rattle.std.proofs.lemmas.Bool.{cases_eq, lt-ltb}
use Rattle.std.proofs.lemmas.Option.{none-some, same_Some, slice_get_within}
use Rattle.vlt_core.specs.Core.{Ty, int, bool, tracked, owning, guarded, variant, owning_variant, FieldDecl, Expr, put, Func, Program}
use Rattle.vlt_core.specs.Lookups.{is_owning, fields_of}
use Rattle.vlt_core.specs.Maps.{HeldMap, CanPass, map_after}
use Rattle.vlt_core.specs.Rows.{simple_rows, expr_rows, touch_rows}
use Rattle.vlt_core.specs.Types.{with_keys, stands_for, header_of, is_owning_type}
use Rattle.vlt_core.specs.KindedScopes.{Ids}
use Rattle.vlt_core.specs.KindedOperands.{misfit, unless_owning, field_type, type_of_expr, touch_broken, not_owning_broken, expr_broken}
use Rattle.vlt_core.specs.KindedStatements.{simple_broken, ids_after}
use Rattle.vlt_core.specs.declared.rules.TheConstants as rule
use Rattle.vlt_meaning.specs.World.{Value, objects_in, Object, World, Frame, missing}
use Rattle.vlt_meaning.specs.Objects.{with_changed_object, with_cell}
use Rattle.vlt_meaning.specs.Values.{touchable, value_of}
use Rattle.vlt_meaning.specs.Run.{Setup, does_simple}
use Rattle.vlt_meaning_laws.proofs.Lists.{get_set_same, get_set_other}
use Rattle.vlt_sound_worlds.specs.Look.{look, ChangesOne}
use Rattle.vlt_sound_worlds.proofs.Look.{changes_one}
use Rattle.vlt_sound_worlds.specs.Members.{In}
use Rattle.vlt_sound_worlds.specs.Roots.{owned_by, cell_of}
use Rattle.vlt_sound_worlds.specs.Keys.{IsSameObject}
use Rattle.vlt_sound_worlds.specs.Scene.{Scene, Grows}
use Rattle.vlt_sound_worlds.specs.Fits.{Names, names_of, Fits}
use Rattle.vlt_sound_worlds.proofs.Fits.{fits_kept, fits_named, fits_after}
use Rattle.vlt_sound_worlds.specs.Agrees.{FitCells, ObjectFits, Context, scene, Agrees}
use Rattle.vlt_sound_worlds.specs.Typed.{IsTyped}
use Rattle.vlt_sound_worlds.specs.Safe.{Safe, goes_to}
use Rattle.vlt_sound_worlds.proofs.Empty.{both_empty}
use Rattle.vlt_sound_worlds.proofs.Rows.{pass_after, stays_passed, stays_both, expr_stays, touch_stays}
use Rattle.vlt_sound_worlds.proofs.Expressions.{expr_fine, Read, read, not_owning, names_at}
use Rattle.vlt_sound_worlds.proofs.Plain.{plain_value}
use Rattle.vlt_sound_worlds.proofs.Safe.{found_safe, fine_safe, so_safe}
use Rattle.vlt_sound_worlds.proofs.Kept.{KeepsOwned, cells_in, object_kept, old_cells_kept}
use Rattle.vlt_sound_worlds.proofs.FrameChanges.{agrees_map, agrees_cells}
use Rattle.vlt_sound_worlds.proofs.Leaving.{length_changed}
use Rattle.vlt_sound_worlds.proofs.TypeFacts.{misfit_plain}

-- a cell gets another value that fits
pub cells_set : (p : Program) (s : Scene) (names : Names) (ds : List FieldDecl) (cells : List Value) (i : ℕ)
    (d : FieldDecl) (a : Value) →
    FitCells p s names ds cells → slice_get ds i ≡ Some d → Fits p s names d.ty a →
    FitCells p s names ds (slice_set cells i a)
cells_set p s names [] cells i d a fit at new = absurd (none-some d at)
cells_set p s names (x ∷ ds) [] i d a fit at new = absurd fit
cells_set p s names (x ∷ ds) (b ∷ cells) zero d a fit at new =
    (subst (λ x. Fits p s names x.ty a) (sym (same_Some x d at)) new, fit.1)
cells_set p s names (x ∷ ds) (b ∷ cells) (suc i) d a fit at new =
    (fit.0, cells_set p s names ds cells i d a fit.1 at new)

-- a declared type owns just where it does with other keys
pub owns_after : (keys : List ℕ) (ty : Ty) → is_owning (with_keys keys ty) ≡ is_owning ty
owns_after keys int = refl
owns_after keys bool = refl
owns_after keys (tracked k t args) = refl
owns_after keys (owning S t args) = refl
owns_after keys (guarded k t args) = refl
owns_after keys (variant t args) = refl
owns_after keys (owning_variant t args) = refl

pub variant_after : (keys : List ℕ) (ty : Ty) (u : ℕ) (args : List ℕ) → with_keys keys ty ≡ variant u args →
    (given : List ℕ) × (ty ≡ variant u given)
variant_after keys int u args e = cc
variant_after keys bool u args e = cc
variant_after keys (tracked k t a) u args e = cc
variant_after keys (owning S t a) u args e = cc
variant_after keys (guarded k t a) u args e = cc
variant_after keys (owning_variant t a) u args e = cc
variant_after keys (variant t a) u args e = (a, ap (λ t. variant t a) (ap type e))
  where
    type : Ty → ℕ
    type (variant t a) = t
    type ty = 0

module _ (r : Setup) (f : Func)
    (typed : IsTyped r.program f) {c : Context} {h : HeldMap} {ids : Ids} {frame : Frame} (w : World)
    (agrees : Agrees r.program f c h ids [] frame w.objects) where
  -- a field of a touched object gets a value that fits
  agrees_put : (x i : ℕ) (a : Value) (at : Read typed ids agrees x i) →
      is_owning (with_keys at.args at.field.decl.ty) ≡ false →
      Fits r.program (scene c w.objects agrees.heads) frame.keys (with_keys at.args at.field.decl.ty) a →
      length at.args ≡ length (header_of r.program at.type) →
      Agrees r.program f c h ids [] frame (with_changed_object at.touch.number (with_cell i a) w.objects)
  agrees_put x i a at plain fits count = agrees_cells agrees os' same (length_changed os n (with_cell i a)) cells
      (λ growing keeping m live. ⊎_elim
      (λ e. subst (ObjectFits r.program (scene c os' agrees.heads)) (sym e) (here_fits growing keeping))
      (λ other. object_kept agrees os' agrees.heads growing keeping m live refl (same m).type (ap (λ o. o.cells) (change.others m other))
      (rw ((same m).type, (same m).state) (agrees.objects m live).state))
      (cases_eq m n))
    where
      os : List Object
      os = w.objects

      n : ℕ
      n = at.touch.number

      os' : List Object
      os' = with_changed_object n (with_cell i a) os

      change : ChangesOne n (with_cell i a) (look os) (look os')
      change = changes_one os n (with_cell i a) at.touch.of.within

      none : objects_in a ≡ []
      none =
          plain_value r.program (scene c os agrees.heads) frame.keys
          (with_keys at.args at.field.decl.ty) a plain field_plain fits
        where
          field_plain : (u : ℕ) (args : List ℕ) → with_keys at.args at.field.decl.ty ≡ variant u args →
              is_owning_type r.program u ≡ false
          field_plain u args e =
              let g =
              variant_after at.args at.field.decl.ty u args e in typed.field_variants at.type i u at.field.decl g.0 at.field.at g.1

      none_before : objects_in at.value ≡ []
      none_before =
          plain_value r.program (scene c os agrees.heads) frame.keys
          (with_keys at.args at.field.decl.ty) at.value plain field_plain at.fits
        where
          field_plain : (u : ℕ) (args : List ℕ) → with_keys at.args at.field.decl.ty ≡ variant u args →
              is_owning_type r.program u ≡ false
          field_plain u args e =
              let g =
              variant_after at.args at.field.decl.ty u args e in typed.field_variants at.type i u at.field.decl g.0 at.field.at g.1

      same : (m : ℕ) → IsSameObject (look os m) (look os' m)
      same m = ⊎_elim
          (λ e. record {
            owner =
                ap (λ k. (look os' k).owner) e ∙ (ap (λ o. o.owner) change.here ∙ ap (λ k. (look os k).owner) (sym e));
            type = ap (λ k. (look os' k).type) e ∙ (ap (λ o. o.type) change.here ∙ ap (λ k. (look os k).type) (sym e));
            state =
                ap (λ k. (look os' k).state) e ∙ (ap (λ o. o.state) change.here ∙ ap (λ k. (look os k).state) (sym e));
          })
          (λ other. let e = change.others m other in record { owner = ap (λ o. o.owner) e; type = ap (λ o. o.type) e; state = ap (λ o. o.state) e })
          (cases_eq m n)

      cell_here : (j : ℕ) → cell_of (look os' n) j ≡ cell_of (look os n) j
      cell_here j =
          cells_in (look os' n) (λ e. at.touch.live (sym (same n).owner ∙ e)) j ∙
          (ap (λ o. owned_by (slice_get o.cells j)) change.here ∙
          (⊎_elim
          (λ e. ap (λ j. owned_by (slice_get (slice_set (look os n).cells i a) j)) e ∙
          (ap owned_by (get_set_same (look os n).cells i a at.value at.at) ∙ (none ∙ (sym none_before ∙ (sym (ap owned_by at.at) ∙ ap (λ j. owned_by (slice_get (look os n).cells j)) (sym e))))))
          (λ other. ap owned_by (get_set_other (look os n).cells i j a other))
          (cases_eq j i) ∙
          sym (cells_in (look os n) at.touch.live j)))

      cells : (m j : ℕ) → cell_of (look os' m) j ≡ cell_of (look os m) j
      cells m j = ⊎_elim
          (λ e. ap (λ k. cell_of (look os' k) j) e ∙ (cell_here j ∙ ap (λ k. cell_of (look os k) j) (sym e)))
          (λ other. ap (λ o. cell_of o j) (change.others m other))
          (cases_eq m n)

      here_fits : Grows (scene c os agrees.heads) (scene c os' agrees.heads) → KeepsOwned (look os) (look os') →
          ObjectFits r.program (scene c os' agrees.heads) n
      here_fits growing keeping =
          let names : Names = names_of (agrees.heads n) in
          let d : FieldDecl = at.field.decl in
          let declared : slice_get (fields_of r.program (look os n).type) i ≡ Some d =
          ap (λ t. slice_get (fields_of r.program t) i) at.touch.of.typed ∙ at.field.at in
          let now = fits_kept r.program growing names d.ty a
          (record { state = λ m j. absurd (subst (In m) none j); type = λ m j. absurd (subst (In m) none j) })
          (fits_named r.program (scene c os agrees.heads) (λ k. frame.keys (stands_for at.args k)) names d.ty a
          (λ k j. ap (λ hs. names_of hs k) at.touch.of.headed ∙
          names_at frame.keys at.args k (subst (λ m. k < m) (sym count) (typed.fields at.type i d at.field.at k j)))
          (fits_after r.program (scene c os agrees.heads) frame.keys at.args d.ty a fits)) in
          record {
            cells = rw ((same n).type, ap (λ o. o.cells) change.here)
                (cells_set r.program (scene c os' agrees.heads) names (fields_of r.program (look os n).type) (look os n).cells i d a
                (old_cells_kept agrees os' agrees.heads growing keeping n at.touch.live) declared now);
            state = rw ((same n).type, (same n).state) (agrees.objects n at.touch.live).state;
          }

  pub put_safe : (x i : ℕ) (e : Expr) → simple_broken r.program f ids (put x i e) ≡ [] →
      CanPass (simple_rows r.program f (put x i e)) h →
      Safe
      (goes_to r.program f c (map_after (simple_rows r.program f (put x i e)) h) (ids_after f (put x i e) ids) [])
      (does_simple r f (put x i e) frame w)
  put_safe x i e kinded pass =
      let s3 =
      both_empty
      ((expr_broken r.program f ids e ++ touch_broken r.program f ids x i) ++ not_owning_broken rule.WRONG_SWAP (field_type r.program f x i))
      (misfit (unless_owning (field_type r.program f x i)) (type_of_expr r.program f e)) kinded in
      let s2 =
      both_empty (expr_broken r.program f ids e ++ touch_broken r.program f ids x i)
      (not_owning_broken rule.WRONG_SWAP (field_type r.program f x i)) s3.0 in
      let s1 = both_empty (expr_broken r.program f ids e) (touch_broken r.program f ids x i) s2.0 in
      let rows = pass_after (expr_rows r.program f e) (touch_rows r.program f x i) h (expr_stays r.program f e) pass in
      let at = read typed ids agrees x i s1.1 rows.1 in
      let ty : Ty = with_keys at.args at.field.decl.ty in
      let plain = not_owning ty rule.WRONG_SWAP (field_type r.program f x i) at.field_is s2.1 in
      let known : unless_owning (field_type r.program f x i) ≡ Some ty =
      ap unless_owning at.field_is ∙ ap (λ b. if b then None else Some ty) plain in
      let G = goes_to r.program f c (map_after (simple_rows r.program f (put x i e)) h) (ids_after f (put x i e) ids) [] in
      let all : h ≡ map_after (simple_rows r.program f (put x i e)) h =
      sym (stays_passed (simple_rows r.program f (put x i e)) h
      (stays_both (expr_rows r.program f e) (touch_rows r.program f x i) (expr_stays r.program f e) (touch_stays r.program f x i))) in
      fine_safe G r.program (scene c w.objects agrees.heads) frame.keys (type_of_expr r.program f e)
      (value_of r.program f e frame w.objects) w _
      (expr_fine typed ids agrees e s1.0 rows.0)
      (λ a value.
      let wanted : misfit (Some ty) (type_of_expr r.program f e) ≡ [] =
      subst (λ t. misfit t (type_of_expr r.program f e) ≡ []) known s3.1 in
      let same = misfit_plain ty value.ty (type_of_expr r.program f e) value.known value.plain wanted in
      found_safe G (touchable r.program f x i frame w.objects) _ w _ at.touch.found
      (so_safe G (nat_lt i (length (look w.objects at.touch.number).cells)) missing _ w _
      (lt-ltb i (length (look w.objects at.touch.number).cells) (slice_get_within (look w.objects at.touch.number).cells i at.value at.at))
      (agrees_map all
      (agrees_put x i a at plain (subst (λ t. Fits r.program (scene c w.objects agrees.heads) frame.keys t a) (sym same) value.fits) at.count))))
