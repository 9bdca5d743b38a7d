-- Statements without blocks that call nothing end in no fault, and keep the fact.
use Rattle.std.proofs.Common.{◌≡◌, ⊎_elim, ℕ, ℤ, Bool, true, false, if◌then◌else◌, [], ◌++◌, Option, Some, Ok, Err, refl, sym, ap, ◌∙◌, subst}
use Rattle.std.proofs.lemmas.Bool.{cases_Bool}
use Rattle.vlt_core.specs.Core.{Ty, int, bool, Expr, Simple, set, print, Func, Program}
use Rattle.vlt_core.specs.Core as core
use Rattle.vlt_core.specs.Lookups.{var_type, is_owning}
use Rattle.vlt_core.specs.Maps.{HeldMap, CanPass, map_after}
use Rattle.vlt_core.specs.Rows.{simple_rows, expr_rows}
use Rattle.vlt_core.specs.Types.{same_ty}
use Rattle.vlt_core.specs.KindedScopes.{Ids, with_target, target_broken}
use Rattle.vlt_core.specs.KindedOperands.{misfit, is_basic, type_of_expr, expr_broken}
use Rattle.vlt_core.specs.KindedStatements.{set_broken, simple_broken, ids_after}
use Rattle.vlt_core.specs.declared.rules.TheConstants as rule
use Rattle.vlt_meaning.specs.World.{Value, one, World, Frame}
use Rattle.vlt_meaning.specs.World as world
use Rattle.vlt_meaning.specs.Found.{Found, ◌>>=◌}
use Rattle.vlt_meaning.specs.Values.{value_of, number_in}
use Rattle.vlt_meaning.specs.Step.{Step, with_found, with_var}
use Rattle.vlt_meaning.specs.Run.{Setup, does_simple}
use Rattle.vlt_sound_worlds.specs.Scene.{Scene}
use Rattle.vlt_sound_worlds.specs.Fits.{Names, Fits}
use Rattle.vlt_sound_worlds.specs.Agrees.{Context, scene, Agrees}
use Rattle.vlt_sound_worlds.specs.Typed.{IsTyped}
use Rattle.vlt_sound_worlds.specs.Fine.{IsRead, IsFine}
use Rattle.vlt_sound_worlds.specs.Safe.{Goal, Safe, goes_to}
use Rattle.vlt_sound_worlds.proofs.Empty.{both_empty, unless_so}
use Rattle.vlt_sound_worlds.proofs.Rows.{stays_passed, expr_stays}
use Rattle.vlt_sound_worlds.proofs.Expressions.{expr_fine, wanted_number, IsNumber}
use Rattle.vlt_sound_worlds.proofs.Plain.{plain_value}
use Rattle.vlt_sound_worlds.proofs.Safe.{found_safe, fine_safe, input_safe}
use Rattle.vlt_sound_worlds.proofs.FrameChanges.{agrees_map, agrees_set, target_scope}
use Rattle.vlt_sound_worlds.proofs.TypeFacts.{target_known, misfit_plain, basic_is}

-- a number that is found
pub number_safe : (g : Goal) (p : Program) (s : Scene) (names : Names) (type : Option Ty) (a : Found Value)
    (w : World) (go : ℤ → Step) →
    IsFine p s names type a → ((v : Value) → IsRead p s names type v → IsNumber p s names v) →
    ((z : ℤ) → Safe g (go z)) →
    Safe g (with_found (a >>= number_in) w go)
unfolding with_found
number_safe g p s names type (Err o) w go fine num safe = fine
number_safe g p s names type (Ok v) w go fine num safe =
    let n = num v fine in found_safe g (number_in v) n.z w go n.is (safe n.z)

module _ (r : Setup) (f : Func)
    (typed : IsTyped r.program f) {c : Context} {h : HeldMap} {ids : Ids} {frame : Frame} (w : World)
    (agrees : Agrees r.program f c h ids [] frame w.objects) where
  abbrev After : Simple → Goal
  After s = goes_to r.program f c (map_after (simple_rows r.program f s) h) (ids_after f s ids) []

  abbrev Here : Scene
  Here = scene c w.objects agrees.heads

  -- the map after an expression is the one before it
  same_map : (e : Expr) → h ≡ map_after (expr_rows r.program f e) h
  same_map e = sym (stays_passed (expr_rows r.program f e) h (expr_stays r.program f e))

  pub print_safe : (e : Expr) → simple_broken r.program f ids (print e) ≡ [] →
      CanPass (simple_rows r.program f (print e)) h →
      Safe (After (print e)) (does_simple r f (print e) frame w)
  print_safe e kinded pass =
      let both = both_empty (expr_broken r.program f ids e) (misfit (Some int) (type_of_expr r.program f e)) kinded in
      number_safe (After (print e)) r.program Here frame.keys (type_of_expr r.program f e)
      (value_of r.program f e frame w.objects) w _
      (expr_fine typed ids agrees e both.0 pass)
      (λ v read. wanted_number r.program Here frame.keys int (type_of_expr r.program f e) v refl both.1 read)
      (λ z. agrees_map (same_map e) agrees)

  pub input_is_safe : (v : ℕ) (more : Bool) → simple_broken r.program f ids (core.input v more) ≡ [] →
      Safe (After (core.input v more)) (does_simple r f (core.input v more) frame w)
  input_is_safe v more kinded =
      let both =
      both_empty (misfit (Some (if more then bool else int)) (var_type f v)) (target_broken f ids v) kinded in
      let t = target_known f ids v both.1 in
      let same : (if more then bool else int) ≡ t.0 = input_type more v t.0 t.1 both.0 in
      input_safe (After (core.input v more)) more w _
      (λ z w' still. subst (λ os. Agrees r.program f c h (with_target f v ids) [] (with_var v (Some (one (world.number z))) frame) os) (sym still)
      (agrees_set agrees v t.0 (one (world.number z)) (with_target f v ids) t.1 (subst (λ t. is_owning t ≡ false) same (input_plain more)) refl
      (subst (λ t. Fits r.program Here frame.keys t (one (world.number z))) same (input_fits more z))
      (target_scope f v ids)))
    where
      input_type : (more : Bool) (v : ℕ) (ty : Ty) → var_type f v ≡ Some ty →
          misfit (Some (if more then bool else int)) (var_type f v) ≡ [] → (if more then bool else int) ≡ ty
      input_type more v ty is e =
          let q =
          rw is at e in basic_is (if more then bool else int) ty (input_basic more)
          (unless_so (same_ty (if more then bool else int) ty) rule.WRONG_TYPE q)
        where
          input_basic : (more : Bool) → is_basic (if more then bool else int) ≡ true
          input_basic true = refl
          input_basic false = refl

      input_plain : (more : Bool) → is_owning (if more then bool else int) ≡ false
      input_plain true = refl
      input_plain false = refl

      input_fits : (more : Bool) (z : ℤ) →
          Fits r.program Here frame.keys (if more then bool else int) (one (world.number z))
      input_fits true z = record { part = world.number z; is = refl; fits = (z, refl) }
      input_fits false z = record { part = world.number z; is = refl; fits = (z, refl) }

  pub set_safe : (v : ℕ) (e : Expr) → simple_broken r.program f ids (set v e) ≡ [] →
      CanPass (simple_rows r.program f (set v e)) h →
      Safe (After (set v e)) (does_simple r f (set v e) frame w)
  set_safe v e kinded pass =
      let s2 =
      both_empty (expr_broken r.program f ids e ++ set_broken r.program f (var_type f v) e)
      (target_broken f ids v) kinded in
      let s1 = both_empty (expr_broken r.program f ids e) (set_broken r.program f (var_type f v) e) s2.0 in
      let t = target_known f ids v s2.1 in
      fine_safe (After (set v e)) r.program Here frame.keys (type_of_expr r.program f e)
      (value_of r.program f e frame w.objects) w _
      (expr_fine typed ids agrees e s1.0 pass)
      (λ a read.
      let same = set_type v e t.0 t.1 s1.1 read.ty read.known read.plain in
      let plain = subst (λ t. is_owning t ≡ false) (sym same) read.plain in
      let fits = subst (λ t. Fits r.program Here frame.keys t a) (sym same) read.fits in
      agrees_map (same_map e)
      (agrees_set agrees v t.0 a (with_target f v ids) t.1 plain
      (plain_value r.program Here frame.keys t.0 a plain (λ u args q. typed.variants v u args (t.1 ∙ ap Some q)) fits)
      fits (target_scope f v ids)))
    where
      set_type : (v : ℕ) (e : Expr) (ty : Ty) → var_type f v ≡ Some ty → set_broken r.program f (var_type f v) e ≡ [] →
          (ty' : Ty) → type_of_expr r.program f e ≡ Some ty' → is_owning ty' ≡ false → ty ≡ ty'
      set_type v e ty is broken ty' known plain = ⊎_elim
          (λ o. let e1 = rw is at broken in let e2 = rw o at e1 in cc)
          (λ o.
          let e1 = rw is at broken in
          let e2 = rw o at e1 in
          misfit_plain ty ty' (type_of_expr r.program f e) known plain
          (both_empty _ (misfit (Some ty) (type_of_expr r.program f e)) e2).1)
          (cases_Bool (is_owning ty))
