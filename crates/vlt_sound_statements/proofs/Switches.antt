-- A switch is safe where the blocks of its arms are.
use Rattle.std.proofs.Common.{◌≡◌, ⊎_elim, ℕ, suc, ◌<◌, ◌==◌, nat_lt, true, false, ◌&&◌, if◌then◌else◌, List, [], ◌∷◌, ◌++◌, length, map, Option, None, Some, Ok, refl, sym, ap, ◌∙◌, subst, slice_get}
use Rattle.std.proofs.lemmas.Bool.{cases_Bool, eqb-true}
use Rattle.std.proofs.lemmas.Option.{none-some, slice_get_within}
use Rattle.std.specs.List.{flat_map, list_all}
use Rattle.vlt_core.specs.Core.{Tok, Ty, int, bool, tracked, owning, guarded, variant, owning_variant, a_key, a_var, CaseDecl, TypeDecl, an_abstract, a_struct, a_variant, switch, Arms, Func, Program}
use Rattle.vlt_core.specs.Lookups.{var_type, is_owning, is_owning_var, owns, VariantOf, variant_of, variant_in, KeyIn, case_keys, keys_in, case_at, cases_of, cases_in, key_type}
use Rattle.vlt_core.specs.Maps.{Status, absent, held, lent, full, kind_of, is_full, HeldMap, is_tok, Row, row_passed, CanPass, map_after}
use Rattle.vlt_core.specs.Rows.{empty_row, fill_rows, arm_rows, on_option}
use Rattle.vlt_core.specs.Types.{decl_of, is_variant, header_of, with_keys, type_in, args_of}
use Rattle.vlt_core.specs.KindedHeads.{has, are_apart, unless, when_some}
use Rattle.vlt_core.specs.KindedHeads as heads
use Rattle.vlt_core.specs.declared.rules.TheConstants as rule
use Rattle.vlt_core.specs.KindedScopes.{Ids, use_broken}
use Rattle.vlt_core.specs.KindedStatements.{variant_args, payload_types, payload_types_in, case_broken, is_variant_type}
use Rattle.vlt_core.specs.KindedBodies.{switch_broken, arm_cases, arm_vars_broken, arms_broken, arms_rows, with_vars, owning_toks, ids_following_block, ids_following_arms}
use Rattle.vlt_core.specs.Bodies.{flow_of_arms}
use Rattle.vlt_core.specs.Derives.{DerivesArms}
use Rattle.vlt_meaning.specs.World.{Value, Object, one, of_case, objects_in, objects_in_part, World, Frame, missing}
use Rattle.vlt_meaning.specs.Found.{or_fault}
use Rattle.vlt_meaning.specs.Step.{Step, with_filled}
use Rattle.vlt_meaning.specs.Step as step
use Rattle.vlt_meaning.specs.Operands.{Case, case_in, with_case_opened, with_empty_variable}
use Rattle.vlt_meaning.specs.Run.{Setup, Meaning, does_form, does_block, does_arm}
use Rattle.vlt_sound_worlds.specs.Look.{look}
use Rattle.vlt_sound_worlds.specs.Scene.{Scene}
use Rattle.vlt_sound_worlds.specs.Fits.{Names, IsCase, header_type, names_of, Fits}
use Rattle.vlt_sound_worlds.specs.Agrees.{InScope, HasVar, Handed, values_of, FitHanded, Context, scene, Agrees}
use Rattle.vlt_sound_worlds.specs.Typed.{IsTyped}
use Rattle.vlt_sound_worlds.specs.Safe.{Goal, Safe}
use Rattle.vlt_sound_worlds.proofs.Empty.{both_empty, both_so, unless_so, when_so}
use Rattle.vlt_sound_worlds.proofs.Rows.{row_here, row_other, tok_is, pass_split, passed_split}
use Rattle.vlt_sound_worlds.proofs.Touch.{used}
use Rattle.vlt_sound_worlds.proofs.Safe.{found_safe}
use Rattle.vlt_sound_worlds.proofs.FrameChanges.{set_here, agrees_map}
use Rattle.vlt_sound_worlds.proofs.Plain.{plain_value}
use Rattle.vlt_sound_worlds.proofs.Blocks.{agrees_in}
use Rattle.vlt_sound_worlds.specs.Scoped.{HasKeys}
use Rattle.vlt_sound_worlds.proofs.Widening.{vars_widen, block_widens, widens_both}
use Rattle.vlt_sound_worlds.proofs.Binding.{arm_scoped}
use Rattle.vlt_sound_worlds.specs.Handed.{handed_values}
use Rattle.vlt_sound_worlds.proofs.Hand.{agrees_hand}
use Rattle.vlt_sound_statements.specs.Makings.{HasCases}
use Rattle.vlt_sound_statements.specs.Kinded.{BreakNone}
use Rattle.vlt_sound_statements.specs.Sites.{Site, comes_to, IsAt}
use Rattle.vlt_sound_statements.specs.Statements.{IsSafeForm}
use Rattle.vlt_sound_statements.proofs.Control.{weaker}
use Rattle.vlt_sound_statements.specs.Arms.{AreSafeArms}
use Rattle.vlt_sound_statements.specs.Opened.{AreOpened}
use Rattle.vlt_sound_statements.proofs.Covered.{covered}
use Rattle.vlt_sound_statements.proofs.StatementFilling.{filled_safe}
use Rattle.vlt_sound_statements.proofs.StatementParts.{AreKnown, payloads_kept, parts_values, parts_many, parts_handed, keys_opened}
use Rattle.vlt_sound_statements.proofs.Emptying.{with_full, key_row, with_var_twice, agrees_split, agrees_emptied, opened_safe}
use Rattle.vlt_sound_statements.proofs.Arms.{arms_vars, Arm, arm_is_safe, arm_is_done, ArmAt, arm_at}

-- ---- what a switch says

-- a variable of a variant
pub record IsSwitched (ty : Ty) : Type 0 where
  pub type : ℕ
  pub args : List ℕ
  pub is : variant_args (Some ty) ≡ Some (type, args)
  pub of : variant_in (Some ty) ≡ Some (record { type = type; args = args })
  pub declared : type_in ty ≡ Some type
  pub same : args_of ty ≡ args
  pub fits : (p : Program) (s : Scene) (names : Names) (a : Value) → Fits p s names ty a →
      IsCase p s (names_of (map names args)) type a
  -- one that is copied is of the type itself
  pub copied : is_owning ty ≡ false → ty ≡ variant type args

switched : (ty : Ty) → is_variant_type ty ≡ true → IsSwitched ty
switched (variant t args) e = record {
  type = t;
  args = args;
  is = refl;
  of = refl;
  declared = refl;
  same = refl;
  fits = λ p s names a fit. fit;
  copied = λ o. refl;
}
switched (owning_variant t args) e = record {
  type = t;
  args = args;
  is = refl;
  of = refl;
  declared = refl;
  same = refl;
  fits = λ p s names a fit. fit;
  copied = λ o. cc;
}
switched int e = cc
switched bool e = cc
switched (tracked k t args) e = cc
switched (owning S t args) e = cc
switched (guarded k t args) e = cc

-- a type that has a case is a variant's
has_case : (o : Option TypeDecl) (c : ℕ) (d : CaseDecl) → slice_get (cases_in o) c ≡ Some d → is_variant o ≡ true
has_case None c d at = absurd (none-some d at)
has_case (Some (an_abstract name set)) c d at = absurd (none-some d at)
has_case (Some (a_struct s)) c d at = absurd (none-some d at)
has_case (Some (a_variant v)) c d at = refl

full_is : (s : Status) → kind_of s ≡ is_full → s ≡ full
full_is absent e = cc
full_is (held S) e = cc
full_is (lent S) e = cc
full_is full e = refl

-- rows on keys say nothing of a variable
var_passed : (v : ℕ) (ks : List KeyIn) (m : HeldMap) → map_after (map key_row ks) m (a_var v) ≡ m (a_var v)
var_passed v [] m = refl
var_passed v (k ∷ ks) m = var_passed v ks (row_passed (key_row k) m) ∙ row_other (key_row k) m (a_var v) (λ e. no_key e)
  where
    no_key : {k : ℕ} → a_var v ≡ a_key k → ⊥
    no_key e = cc

-- each case has an arm
arms_cover : (p : Program) (f : Func) (ids : Ids) (v t : ℕ) (args : List ℕ) (ty : Ty) (arms : Arms) → var_type f v ≡ Some ty →
    variant_args (Some ty) ≡ Some (t, args) → is_variant (decl_of p t) ≡ true → switch_broken p f ids v arms ≡ [] →
    (c : ℕ) → c < length (cases_of p t) → has (arm_cases arms) c ≡ true
arms_cover p f ids v t args ty arms is of shape e c lt =
    let q1 = rw is at e in
    let q2 = rw of at q1 in
    let q3 = rw shape at q2 in
    let last = (both_empty (use_broken f ids v ++ unless (is_variant_type ty) rule.WRONG_SWITCH)
    (unless (are_apart (arm_cases arms) && length (arm_cases arms) == length (cases_of p t) && list_all (λ c. nat_lt c (length (cases_of p t))) (arm_cases arms)) rule.WRONG_SWITCH) q3).1 in
    let A = are_apart (arm_cases arms) in
    let B = length (arm_cases arms) == length (cases_of p t) in
    let C = list_all (λ c. nat_lt c (length (cases_of p t))) (arm_cases arms) in
    let all = both_so (A && B) C (unless_so (A && B && C) rule.WRONG_SWITCH last) in
    let two = both_so A B all.0 in
    covered (arm_cases arms) (length (cases_of p t)) c two.0
    (eqb-true (length (arm_cases arms)) (length (cases_of p t)) two.1) all.1 lt

-- an arm has a variable for each payload
arm_count : (p : Program) (case n t : ℕ) (args : List ℕ) (d : CaseDecl) → is_variant (decl_of p t) ≡ true → case_at p t case ≡ Some d →
    case_broken p case n (Some (t, args)) ≡ [] → n ≡ length d.payload
arm_count p case n t args d shape at e =
    let e1 = rw shape at e in
    let e2 = rw at at e1 in
    eqb-true n (length d.payload) (unless_so (n == length d.payload) rule.WRONG_COUNT e2)

length_kept : (args : List ℕ) (types : List Ty) → length types ≡ length (map (with_keys args) types)
length_kept args [] = refl
length_kept args (t ∷ types) = ap suc (length_kept args types)

-- ---- a value without keys

none_opened : (f : Func) (names : Names) (os : ℕ → Object) (ks : List KeyIn) (ns : List ℕ) → ns ≡ [] →
    AreOpened f names os ks ns → ks ≡ []
none_opened f names os [] ns e all = refl
none_opened f names os (k ∷ ks) [] e all = absurd all
none_opened f names os (k ∷ ks) (n ∷ ns) e all = cc

opened_none : (g : Goal) (frame : Frame) (w : World) (go : World → Step) (ks : List KeyIn) (ns : List ℕ) → ks ≡ [] → ns ≡ [] →
    Safe g (go w) → Safe g (with_case_opened ks ns frame w go)
unfolding with_case_opened
opened_none g frame w go [] [] e d safe = safe
opened_none g frame w go (k ∷ ks) ns e d safe = cc
opened_none g frame w go [] (n ∷ ns) e d safe = cc

-- ---- the value is opened

-- What is so where an arm begins: the parts are handed over, the objects of the case's keys are under them, and an owning
-- variable is empty.
module _ (p : Program) (f : Func) (typed : IsTyped p f) (cased : HasCases p f) {c : Context} {h : HeldMap} {ids : Ids} {frame : Frame}
    (w : World) (agrees : Agrees p f c h ids [] frame w.objects) (v : ℕ) (ty : Ty) (known : var_type f v ≡ Some ty)
    (o : IsSwitched ty) where
  abbrev variant_is : VariantOf
  variant_is = record { type = o.type; args = o.args }

  count : length o.args ≡ length (header_of p o.type)
  count = subst (λ args. length args ≡ length (header_of p o.type)) o.same (typed.vars v ty o.type known o.declared).count

  typed_key : (i k u : ℕ) → slice_get o.args i ≡ Some k → header_type p o.type i ≡ Some u → key_type f k ≡ Some u
  typed_key i k u at is = typed.heads v o.type i k u ty known o.declared (subst (λ args. slice_get args i ≡ Some k) (sym o.same) at) is

  module _ (value : Value) (has : frame.vars v ≡ Some value)
      (fit : IsCase p (scene c w.objects agrees.heads) (names_of (map frame.keys o.args)) o.type value) where
    abbrev hand : List Handed
    hand = handed_values (map (with_keys o.args) fit.decl.payload) (map one fit.parts)

    abbrev keys : List KeyIn
    keys = case_keys p variant_is fit.case

    abbrev found : Case
    found = record { number = fit.case; parts = fit.parts; keys = fit.keys }

    payload_known : AreKnown o.args fit.decl.payload
    payload_known i t at =
        let q = cased.payloads o.type fit.case i fit.decl t fit.declared at in
        (q.0, λ k j. subst (λ n. k < n) (sym count) (q.1 k j))

    hand_fits : FitHanded p (scene c w.objects agrees.heads) frame.keys hand
    hand_fits = parts_handed p (scene c w.objects agrees.heads) frame.keys o.args fit.decl.payload fit.parts payload_known fit.fit

    hand_has : values_of hand ≡ flat_map objects_in_part fit.parts
    hand_has = parts_values p (scene c w.objects agrees.heads) (names_of (map frame.keys o.args)) o.args fit.decl.payload fit.parts fit.fit

    found_case : case_in (frame.vars v) ≡ Ok found
    found_case = ap case_in (has ∙ ap Some fit.is)

    keys_are : keys ≡ keys_in o.args (Some fit.decl)
    keys_are = ap (keys_in o.args) fit.declared

    all_opened : AreOpened f frame.keys (look w.objects) keys fit.keys
    all_opened = subst (λ ks. AreOpened f frame.keys (look w.objects) ks fit.keys) (sym keys_are)
        (keys_opened p f (scene c w.objects agrees.heads) frame.keys o.type o.args typed_key count fit.decl.keys fit.keys
        (λ i k at. cased.keys o.type fit.case i fit.decl k fit.declared at) fit.held)

    -- of an owning variable
    owned_opened : is_owning_var f v ≡ true → kind_of (h (a_var v)) ≡ is_full → (g : Goal) (go : World → Step) →
        CanPass (map key_row keys) (row_passed (empty_row v) h) →
        ((w' : World) → Agrees p f c (map_after (map key_row keys) (row_passed (empty_row v) h)) ids hand (step.with_var v None frame) w'.objects → Safe g (go w')) →
        Safe g (with_case_opened keys fit.keys frame w go)
    owned_opened owner is g go pass safe =
        let h1 = row_passed (empty_row v) h in
        let full_now = full_is (h (a_var v)) is in
        let same : h ≡ with_full v h1 = λ i t. (sym (at full_now t)) i in
        let rest : Value = of_case fit.case [] fit.keys in
        let begun = agrees_map same (agrees_split agrees v value rest hand has owner full_now
        (ap objects_in fit.is ∙ ap (λ ns. ns ++ fit.keys) (sym hand_has)) hand_fits) in
        opened_safe ids frame v fit.case owner g go keys fit.keys h1 w begun all_opened pass
        (λ w' now. safe w' (subst (λ fr. Agrees p f c (map_after (map key_row keys) h1) ids hand fr w'.objects)
        (with_var_twice v (Some (of_case fit.case [] [])) None frame)
        (agrees_emptied ids v now (of_case fit.case [] []) (set_here v (Some (of_case fit.case [] [])) frame.vars) refl owner
        (map_after (map key_row keys) h1)
        (record {
          here = var_passed v keys h1 ∙ row_here (empty_row v) h;
          others = λ u other. sym (other_tok (map_after (map key_row keys) h1) u other);
        }))))
      where
        at : h (a_var v) ≡ full → (t : Tok) → with_full v (row_passed (empty_row v) h) t ≡ h t
        at full_now t = ⊎_elim
            (λ same. ap (λ b. if b then full else row_passed (empty_row v) h t) same ∙ sym (ap h (tok_is t (a_var v) same) ∙ full_now))
            (λ other. ap (λ b. if b then full else row_passed (empty_row v) h t) other ∙ ap (λ b. if b then absent else h t) other)
            (cases_Bool (is_tok t (a_var v)))

        other_tok : (m : HeldMap) (u : Tok) → (u ≡ a_var v → ⊥) → with_full v m u ≡ m u
        other_tok m u other = ⊎_elim
            (λ same. absurd (other (tok_is u (a_var v) same)))
            (λ no. ap (λ b. if b then full else m u) no)
            (cases_Bool (is_tok u (a_var v)))

    -- of one that is copied
    copied_none : is_owning ty ≡ false → Fits p (scene c w.objects agrees.heads) frame.keys ty value →
        (flat_map objects_in_part fit.parts ≡ []) × (fit.keys ≡ [])
    copied_none plain fits =
        both_empty (flat_map objects_in_part fit.parts) fit.keys
        (sym (ap objects_in fit.is) ∙
        plain_value p (scene c w.objects agrees.heads) frame.keys ty value plain (λ t args e. typed.variants v t args (known ∙ ap Some e)) fits)

    copied_opened : is_owning ty ≡ false → Fits p (scene c w.objects agrees.heads) frame.keys ty value → (g : Goal) (go : World → Step) →
        ((w' : World) → Agrees p f c (map_after (map key_row keys) h) ids hand frame w'.objects → Safe g (go w')) →
        Safe g (with_case_opened keys fit.keys frame w go)
    copied_opened plain fits g go safe =
        let none = copied_none plain fits in
        let no_keys = none_opened f frame.keys (look w.objects) keys fit.keys none.1 all_opened in
        opened_none g frame w go keys fit.keys no_keys none.1
        (safe w (subst (λ ks. Agrees p f c (map_after (map key_row ks) h) ids hand frame w.objects) (sym no_keys)
        (agrees_hand agrees hand (hand_has ∙ none.0) hand_fits)))

    -- of any
    opens : Fits p (scene c w.objects agrees.heads) frame.keys ty value → (g : Goal) (go : World → Step) →
        CanPass (if is_owning_var f v then empty_row v ∷ [] else []) h →
        CanPass (map key_row keys) (map_after (if is_owning_var f v then empty_row v ∷ [] else []) h) →
        ((w' : World) → Agrees p f c (map_after (map key_row keys) (map_after (if is_owning_var f v then empty_row v ∷ [] else []) h)) ids hand (with_empty_variable f v frame) w'.objects → Safe g (go w')) →
        Safe g (with_case_opened keys fit.keys frame w go)
    opens fits g go before pass safe = ⊎_elim
        (λ own.
        let owner : is_owning_var f v ≡ true = ap owns known ∙ own in
        owned_opened owner (subst (λ b. CanPass (if b then empty_row v ∷ [] else []) h) owner before).0 g go
        (subst (λ b. CanPass (map key_row keys) (map_after (if b then empty_row v ∷ [] else []) h)) owner pass)
        (λ w' now. safe w' (subst (λ b. Agrees p f c (map_after (map key_row keys) (map_after (if b then empty_row v ∷ [] else []) h)) ids hand (if b then step.with_var v None frame else frame) w'.objects) (sym owner) now)))
        (λ plain.
        let off : is_owning_var f v ≡ false = ap owns known ∙ plain in
        copied_opened plain fits g go
        (λ w' now. safe w' (subst (λ b. Agrees p f c (map_after (map key_row keys) (map_after (if b then empty_row v ∷ [] else []) h)) ids hand (if b then step.with_var v None frame else frame) w'.objects) (sym off) now)))
        (cases_Bool (is_owning ty))

-- ---- a switch

-- The variable has a value of a variant, which fits its type.
pub record IsSwitch (p : Program) (f : Func) (s : Scene) (frame : Frame) (v : ℕ) : Type 0 where
  pub ty : Ty
  pub known : var_type f v ≡ Some ty
  pub of : IsSwitched ty
  pub value : Value
  pub has : frame.vars v ≡ Some value
  pub fits : Fits p s frame.keys ty value

-- an owning variable is empty after it
abbrev pub emptying : Func → (v : ℕ) → List Row
emptying f v = if is_owning_var f v then empty_row v ∷ [] else []

pub switch_known : (p : Program) (f : Func) {c : Context} {h : HeldMap} {ids : Ids} {frame : Frame} (w : World)
    (agrees : Agrees p f c h ids [] frame w.objects) (v : ℕ) (arms : Arms) → switch_broken p f ids v arms ≡ [] →
    CanPass (emptying f v) h → IsSwitch p f (scene c w.objects agrees.heads) frame v
switch_known p f {c} {h} {ids} {frame} w agrees v arms broken pass =
    let s2 = both_empty (use_broken f ids v ++ when_some (var_type f v) (λ ty. unless (is_variant_type ty) rule.WRONG_SWITCH)) _ broken in
    let s1 = both_empty (use_broken f ids v) (when_some (var_type f v) (λ ty. unless (is_variant_type ty) rule.WRONG_SWITCH)) s2.0 in
    let u = used f ids v s1.0 in
    let o = switched u.ty (unless_so (is_variant_type u.ty) rule.WRONG_SWITCH
    (when_so (var_type f v) u.ty (λ ty. unless (is_variant_type ty) rule.WRONG_SWITCH) u.is s1.1)) in
    ⊎_elim
    (λ own.
    let owner : is_owning_var f v ≡ true = ap owns u.is ∙ own in
    let before = subst (λ b. CanPass (if b then empty_row v ∷ [] else []) h) owner pass in
    let there = subst (λ s. HasVar (is_owning_var f v) s (frame.vars v)) (full_is (h (a_var v)) before.0) (agrees.vars.full v) in
    made u.ty u.is u.scoped o there.0 there.1)
    (λ plain.
    let there = agrees.fit.there v u.ty u.scoped u.is plain in
    made u.ty u.is u.scoped o there.0 there.1)
    (cases_Bool (is_owning u.ty))
  where
    made : (ty : Ty) → var_type f v ≡ Some ty → InScope ids v → IsSwitched ty → (value : Value) → frame.vars v ≡ Some value →
        IsSwitch p f (scene c w.objects agrees.heads) frame v
    made ty is scoped o value has = record {
      ty = ty;
      known = is;
      of = o;
      value = value;
      has = has;
      fits = agrees.fit.fit v ty value scoped is has;
    }

-- what is known where a switch begins
pub record SwitchAt (p : Program) (f : Func) (v : ℕ) (arms : Arms) (frame : Frame) (w : World) : Type 0 where
  pub site : Site
  pub ids : Ids
  pub before : HeldMap
  pub following : HeldMap
  pub here : IsAt p f site ids
  pub agrees : Agrees p f site.context before ids [] frame w.objects
  pub broken : switch_broken p f ids v arms ≡ []
  pub listed : arms_broken p f ids v arms ≡ []
  pub rows : BreakNone (arms_rows p f site.around ids arms)
  pub first : CanPass (emptying f v) before
  pub leads : DerivesArms site.breaks site.turns (map_after (emptying f v) before) (flow_of_arms p f site.left v arms) following

module _ (p : Program) (f : Func) (typed : IsTyped p f) (keyed : HasKeys f) (cased : HasCases p f) {v : ℕ} {arms : Arms}
    {frame : Frame} {w : World} (x : SwitchAt p f v arms frame w) where
  abbrev pub here_scene : Scene
  here_scene = scene x.site.context w.objects x.agrees.heads

  pub the_switch : IsSwitch p f here_scene frame v
  the_switch = switch_known p f w x.agrees v arms x.broken x.first

  pub case_fits : IsCase p here_scene (names_of (map frame.keys the_switch.of.args)) the_switch.of.type the_switch.value
  case_fits = the_switch.of.fits p here_scene frame.keys the_switch.value the_switch.fits

  abbrev pub switched_type : VariantOf
  switched_type = record { type = the_switch.of.type; args = the_switch.of.args }

  abbrev pub switched_case : Case
  switched_case = record { number = case_fits.case; parts = case_fits.parts; keys = case_fits.keys }

  pub type_is : variant_of f v ≡ Some switched_type
  type_is = ap variant_in the_switch.known ∙ the_switch.of.of

  pub case_is : case_in (frame.vars v) ≡ Ok switched_case
  case_is = ap case_in (the_switch.has ∙ ap Some case_fits.is)

  abbrev pub payload : List Ty
  payload = map (with_keys the_switch.of.args) case_fits.decl.payload

  abbrev pub switched_keys : List KeyIn
  switched_keys = case_keys p switched_type case_fits.case

  abbrev pub emptied_map : HeldMap
  emptied_map = map_after (emptying f v) x.before

  -- the case's parts are handed over, and its objects are under its keys
  abbrev pub IsOpen : World → Type 0
  IsOpen w' =
      Agrees p f x.site.context (map_after (map key_row switched_keys) emptied_map) x.ids
      (handed_values payload (map one case_fits.parts)) (with_empty_variable f v frame) w'.objects

  -- ---- the arm of the case

  shape : is_variant (decl_of p the_switch.of.type) ≡ true
  shape = has_case (decl_of p the_switch.of.type) case_fits.case case_fits.decl case_fits.declared

  pub the_arm : ArmAt p f x.site v emptied_map x.following case_fits.case arms x.ids
  the_arm =
      arm_at p f x.site v emptied_map x.following case_fits.case arms x.ids x.here x.listed x.rows x.leads
      (arms_cover p f x.ids v the_switch.of.type the_switch.of.args the_switch.ty arms the_switch.known the_switch.of.is shape x.broken case_fits.case
      (slice_get_within (cases_of p the_switch.of.type) case_fits.case case_fits.decl case_fits.declared))

  abbrev pub arm_ids : Ids
  arm_ids = with_vars f the_arm.vs the_arm.scope

  abbrev fills : List Row
  fills = fill_rows f the_arm.vs

  rows_are : arm_rows p f v case_fits.case the_arm.vs ≡ map key_row switched_keys ++ fills
  rows_are = ap (λ o. on_option o (λ t. map key_row (case_keys p t case_fits.case)) ++ fills) type_is

  can_pass : CanPass (map key_row switched_keys) emptied_map × CanPass fills (map_after (map key_row switched_keys) emptied_map)
  can_pass =
      pass_split (map key_row switched_keys) fills emptied_map (subst (λ rs. CanPass rs emptied_map) rows_are the_arm.pass)

  unbroken : (case_broken p case_fits.case (length the_arm.vs) (variant_args (var_type f v)) ≡ []) ×
      (arm_vars_broken f the_arm.scope (payload_types p (variant_args (var_type f v)) case_fits.case) the_arm.vs ≡ [])
  unbroken =
      both_empty (case_broken p case_fits.case (length the_arm.vs) (variant_args (var_type f v)))
      (arm_vars_broken f the_arm.scope (payload_types p (variant_args (var_type f v)) case_fits.case) the_arm.vs) the_arm.broken

  vars_broken : arm_vars_broken f the_arm.scope payload the_arm.vs ≡ []
  vars_broken =
      subst (λ ts. arm_vars_broken f the_arm.scope ts the_arm.vs ≡ [])
      (ap (λ t. payload_types p t case_fits.case) (ap variant_args the_switch.known ∙ the_switch.of.is) ∙ ap (payload_types_in the_switch.of.args) case_fits.declared)
      unbroken.1

  many : length the_arm.vs ≡ length case_fits.decl.payload
  many =
      arm_count p case_fits.case (length the_arm.vs) the_switch.of.type the_switch.of.args case_fits.decl shape case_fits.declared
      (subst (λ t. case_broken p case_fits.case (length the_arm.vs) t ≡ []) (ap variant_args the_switch.known ∙ the_switch.of.is) unbroken.0)

  pub arm_here : IsAt p f x.site arm_ids
  arm_here = record {
    entered = the_arm.here.entered;
    scoped = arm_scoped keyed payload the_arm.vs vars_broken the_arm.here.scoped;
    outer = λ u e. (vars_widen f the_arm.vs the_arm.scope).vars u (the_arm.here.outer u e);
  }

  -- what is in scope after the arms is in scope after the arm's block
  pub arms_scope : (u : ℕ) → InScope (ids_following_arms p f arms x.ids) u → InScope (ids_following_block p f the_arm.body arm_ids) u
  arms_scope u i =
      (widens_both (vars_widen f the_arm.vs the_arm.scope) (block_widens p f the_arm.body arm_ids)).vars u
      (subst (λ vs. heads.has vs u ≡ true) (arms_vars p f arms x.ids ∙ sym the_arm.vars) i)

  -- ---- where the arm's block begins

  pub case_opens : (g : Goal) (go : World → Step) → ((w' : World) → IsOpen w' → Safe g (go w')) →
      Safe g (with_case_opened switched_keys case_fits.keys frame w go)
  case_opens g go safe =
      opens p f typed cased w x.agrees v the_switch.ty the_switch.known the_switch.of the_switch.value the_switch.has case_fits the_switch.fits g go x.first can_pass.0 safe

  pub arm_fills : (w' : World) → IsOpen w' → (g : Goal) (go : Frame → Step) →
      ((frame' : Frame) → Agrees p f x.site.context (map_after (arm_rows p f v case_fits.case the_arm.vs) emptied_map) arm_ids [] frame' w'.objects → Safe g (go frame')) →
      Safe g (with_filled f the_arm.vs (map one case_fits.parts) (with_empty_variable f v frame) w' go)
  arm_fills w' now g go safe =
      filled_safe typed.limited g w' go payload the_arm.vs case_fits.parts
      (agrees_in the_arm.scope (λ u i. subst (λ vs. heads.has vs u ≡ true) the_arm.vars i) now)
      (payloads_kept the_switch.of.args case_fits.decl.payload (payload_known p f typed cased w x.agrees v the_switch.ty the_switch.known the_switch.of the_switch.value the_switch.has case_fits))
      vars_broken (many ∙ length_kept the_switch.of.args case_fits.decl.payload)
      (parts_many p here_scene (names_of (map frame.keys the_switch.of.args)) the_switch.of.args case_fits.decl.payload case_fits.parts case_fits.fit)
      can_pass.1
      (λ frame' done. safe frame'
      (agrees_map (sym (ap (λ rs. map_after rs emptied_map) rows_are ∙ passed_split (map key_row switched_keys) fills emptied_map)) done))

-- ---- a switch is safe

module _ (r : Setup) (rest_of : Meaning) (f : Func) (typed : IsTyped r.program f) (keyed : HasKeys f)
    (cased : HasCases r.program f) (v : ℕ) (arms : Arms) (end : ℕ) (safe : AreSafeArms r rest_of f arms) where
  by_arm : {frame : Frame} {w : World} (x : SwitchAt r.program f v arms frame w) →
      Safe (comes_to r.program f x.site x.following (ids_following_arms r.program f arms x.ids)) (does_form r rest_of f (switch v arms end) frame w)
  by_arm {frame} {w} x =
      let G = comes_to r.program f x.site x.following (ids_following_arms r.program f arms x.ids) in
      let c = switched_case r.program f typed keyed cased x in
      let a = the_arm r.program f typed keyed cased x in
      let done : Arm = record { vs = a.vs; body = a.body } in
      let inner = with_vars f a.vs a.scope in
      found_safe G (or_fault missing (variant_of f v)) (switched_type r.program f typed keyed cased x) w _
      (ap (or_fault missing) (type_is r.program f typed keyed cased x))
      (found_safe G (case_in (frame.vars v)) c w _ (case_is r.program f typed keyed cased x)
      (case_opens r.program f typed keyed cased x G (λ w. does_arm r rest_of f c arms (with_empty_variable f v frame) w)
      (λ w' now. subst (Safe G) (sym (arm_is_done r rest_of f c arms done (with_empty_variable f v frame) w' a.is))
      (arm_fills r.program f typed keyed cased x w' now G (λ frame. does_block r rest_of f a.body frame w')
      (λ frame' begun. weaker (comes_to r.program f x.site x.following (ids_following_block r.program f a.body inner)) G
      (does_block r rest_of f a.body frame' w')
      (λ frame w now. agrees_in (ids_following_arms r.program f arms x.ids) (arms_scope r.program f typed keyed cased x) now)
      (λ c frame w jumped. jumped) (λ v kept w left. left)
      (arm_is_safe r rest_of f c.number arms done safe a.is x.site
      (map_after (arm_rows r.program f v c.number a.vs) (map_after (emptying f v) x.before)) x.following (owning_toks f a.vs) inner frame' w'
      (arm_here r.program f typed keyed cased x) a.kinded a.leads begun))))))

  pub switch_is_safe : IsSafeForm r rest_of f (switch v arms end)
  switch_is_safe s h k ids frame w here kinded leads agrees =
      let both = both_empty (switch_broken r.program f ids v arms) (arms_broken r.program f ids v arms) kinded.row in
      by_arm (record {
        site = s;
        ids = ids;
        before = h;
        following = k;
        here = here;
        agrees = agrees;
        broken = both.0;
        listed = both.1;
        rows = kinded.rows;
        first = leads.0;
        leads = leads.1;
      })
