-- Arguments of an external: the frame's keys stay as they are, and no value is of a variant.
use Rattle.std.proofs.Common.{◌≡◌, ℕ, Bool, true, false, if◌then◌else◌, List, [], ◌∷◌, map, length, None, Ok, Err, refl, sym, ap, ◌∙◌, subst, arith}
use Rattle.std.specs.List.{flat_map}
use Rattle.vlt_core.specs.Core.{Ty, int, bool, tracked, owning, guarded, variant, owning_variant, Operand, pure, move, pack, Func, Program}
use Rattle.vlt_core.specs.Maps.{HeldMap, CanPass}
use Rattle.vlt_core.specs.Rows.{operands_rows}
use Rattle.vlt_core.specs.Types.{with_keys}
use Rattle.vlt_core.specs.KindedHeads.{Rules, unless, is_external_parameter}
use Rattle.vlt_core.specs.KindedScopes.{Ids}
use Rattle.vlt_core.specs.KindedOperands.{operands_broken}
use Rattle.vlt_core.specs.declared.rules.TheConstants as rule
use Rattle.vlt_meaning.specs.World.{Value, one, of_case, World, Frame, fault, missing}
use Rattle.vlt_meaning.specs.Found.{Found}
use Rattle.vlt_meaning.specs.Step.{Step, goes, ends}
use Rattle.vlt_meaning_laws.specs.Machine.Got.{Got, got, stopped, then_step, then_got, found_in, operand_got, operands_got}
use Rattle.vlt_meaning_laws.proofs.OfMachine.Gots.{operands_step}
use Rattle.vlt_externals.specs.Told.{AreSingle}
use Rattle.vlt_sound_worlds.specs.Scene.{Scene}
use Rattle.vlt_sound_worlds.specs.Fits.{Names, Fits}
use Rattle.vlt_sound_worlds.specs.Agrees.{FitHanded, Context, Agrees}
use Rattle.vlt_sound_worlds.specs.Typed.{IsTyped}
use Rattle.vlt_sound_worlds.specs.Safe.{Goal, Safe}
use Rattle.vlt_sound_worlds.proofs.Empty.{both_empty, unless_so}
use Rattle.vlt_sound_worlds.specs.Handed.{handed_values}
use Rattle.vlt_sound_worlds.proofs.OperandsLaws.{operands_safe}

-- ---- keys

-- what is given comes with a frame whose keys are these
abbrev Keeps : {A : Type 0} → Frame → Got A → Type 0
Keeps frame (got a after w) = after.keys ≡ frame.keys
Keeps frame (stopped o w) = Unit {0}

keeps_found : {A : Type 0} (x : Found A) (frame : Frame) (w : World) → Keeps frame (found_in x frame w)
unfolding found_in
keeps_found (Ok a) frame w = refl
keeps_found (Err o) frame w = tt

keeps_then : {A B : Type 0} (frame : Frame) (x : Got A) (go : A → Frame → World → Got B) → Keeps frame x →
    ((a : A) (after : Frame) (w : World) → after.keys ≡ frame.keys → Keeps frame (go a after w)) →
    Keeps frame (then_got x go)
unfolding then_got
keeps_then frame (got a after w) go kept each = each a after w kept
keeps_then frame (stopped o w) go kept each = tt

module _ (p : Program) (f : Func) where
  keeps_operand : (o : Operand) (frame : Frame) (w : World) → Keeps frame (operand_got p f o frame w)
  keeps_operand (pure e) frame w = keeps_found _ frame w
  keeps_operand (move v) frame w = keeps_then frame _ _ (keeps_found _ frame w) (λ a after w same. same)
  keeps_operand (pack x states) frame w = keeps_then frame _ _ (keeps_found _ frame w) (λ n after w same. same)

  keeps_from : {A : Type 0} (old frame : Frame) (x : Got A) → frame.keys ≡ old.keys → Keeps frame x → Keeps old x
  keeps_from old frame (got a after w) same kept = kept ∙ same
  keeps_from old frame (stopped o w) same kept = tt

  keeps_operands : (os : List Operand) (frame : Frame) (w : World) → Keeps frame (operands_got p f os frame w)
  keeps_operands [] frame w = refl
  keeps_operands (o ∷ os) frame w =
      keeps_then frame _ _ (keeps_operand o frame w) (λ a after v same.
      keeps_then frame _ _ (keeps_from frame after _ same (keeps_operands os after v)) (λ rest last u kept. kept))

  pub same_keys : (os : List Operand) (frame : Frame) (w : World) (values : List Value) (after : Frame) (v : World) →
      operands_got p f os frame w ≡ got values after v → after.keys ≡ frame.keys
  same_keys os frame w values after v e = subst (Keeps frame) e (keeps_operands os frame w)

-- ---- values

abbrev all_single : List Value → Bool
all_single [] = true
all_single (one a ∷ rest) = all_single rest
all_single (of_case c parts keys ∷ rest) = false

are_single : (values : List Value) → all_single values ≡ true → AreSingle values
are_single [] e = tt
are_single (one a ∷ rest) e = are_single rest e
are_single (of_case c parts keys ∷ rest) e = cc

-- the parameters' types, none of which is a variant
abbrev bare_broken : List Ty → Rules
bare_broken tys = flat_map (λ ty. unless (is_external_parameter ty) rule.EXTERN_HEAD) tys

single_first : (p : Program) (s : Scene) (names : Names) (keys : List ℕ) (ty : Ty) (a : Value) (rest : List Value) →
    is_external_parameter ty ≡ true → Fits p s names (with_keys keys ty) a → all_single rest ≡ true → all_single (a ∷ rest) ≡ true
single_first p s names keys int a rest e fits more = ap (λ a. all_single (a ∷ rest)) fits.is ∙ more
single_first p s names keys bool a rest e fits more = ap (λ a. all_single (a ∷ rest)) fits.is ∙ more
single_first p s names keys (tracked k t args) a rest e fits more = ap (λ a. all_single (a ∷ rest)) fits.is ∙ more
single_first p s names keys (owning states t args) a rest e fits more = ap (λ a. all_single (a ∷ rest)) fits.is ∙ more
single_first p s names keys (guarded k t args) a rest e fits more = ap (λ a. all_single (a ∷ rest)) fits.is ∙ more
single_first p s names keys (variant t args) a rest e fits more = cc
single_first p s names keys (owning_variant t args) a rest e fits more = cc

single_all : (p : Program) (s : Scene) (names : Names) (keys : List ℕ) (tys : List Ty) (values : List Value) → bare_broken tys ≡ [] →
    length values ≡ length (map (with_keys keys) tys) → FitHanded p s names (handed_values (map (with_keys keys) tys) values) →
    all_single values ≡ true
single_all p s names keys tys [] e long fit = refl
single_all p s names keys [] (a ∷ rest) e long fit = cc
single_all p s names keys (ty ∷ tys) (a ∷ rest) e long fit =
    let both = both_empty (unless (is_external_parameter ty) rule.EXTERN_HEAD) (bare_broken tys) e in
    single_first p s names keys ty a rest (unless_so (is_external_parameter ty) rule.EXTERN_HEAD both.0) fit.0
    (single_all p s names keys tys rest both.1 (omega (arith, long)) fit.1)

abbrev anywhere : Goal
anywhere = record { goes = λ frame w. Unit {0}; jumps = λ c frame w. ⊥; leaves = λ a kept w. ⊥ }

-- a step that goes on where no value is of a variant, and is a fault elsewhere
abbrev going : List Value → Frame → World → Step
going values frame w = if all_single values then goes frame w else ends (fault missing None) w

goes_single : (values : List Value) (frame : Frame) (w : World) → all_single values ≡ true → Safe anywhere (going values frame w)
goes_single values frame w e = subst (λ b. Safe anywhere (if b then goes frame w else ends (fault missing None) w)) (sym e) tt

single_goes : (values : List Value) (frame : Frame) (w : World) → Safe anywhere (going values frame w) → all_single values ≡ true
single_goes values frame w safe = by (all_single values) safe
  where
    by : (b : Bool) → Safe anywhere (if b then goes frame w else ends (fault missing None) w) → b ≡ true
    by true safe = refl
    by false safe = cc

module _ {p : Program} {f : Func} (typed : IsTyped p f) {c : Context} {ids : Ids} (keys : List ℕ) (tys : List Ty) (os : List Operand)
    (h : HeldMap) (frame : Frame) (w : World) (agrees : Agrees p f c h ids [] frame w.objects) (bare : bare_broken tys ≡ [])
    (long : length os ≡ length (map (with_keys keys) tys)) (fit : operands_broken p f ids (map (with_keys keys) tys) os ≡ [])
    (pass : CanPass (operands_rows p f os) h) where
  goes_on : Safe anywhere (then_step (operands_got p f os frame w) going)
  goes_on =
      subst (Safe anywhere) (operands_step p f os frame w going)
      (operands_safe typed os (map (with_keys keys) tys) h [] frame w agrees anywhere going long fit pass
      (λ values after v many next. goes_single values after v (single_all p _ after.keys keys tys values bare many next.handed)))

  pub single_values : (values : List Value) (after : Frame) (v : World) → operands_got p f os frame w ≡ got values after v → AreSingle values
  unfolding then_step
  single_values values after v e =
      are_single values (single_goes values after v (subst (λ x. Safe anywhere (then_step x going)) e goes_on))
