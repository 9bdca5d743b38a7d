-- The statement that builds a value of a case.
use Rattle.std.proofs.Common.{◌≡◌, ⊎_elim, ℕ, suc, ◌==◌, ◌<◌, ◌≤◌, true, false, ◌&&◌, not, List, [], ◌∷◌, ◌++◌, length, map, Option, Some, None, is_some, Ok, refl, sym, ap, ◌∙◌, subst, arith, slice_get}
use Rattle.std.proofs.lemmas.Bool.{cases_Bool, eqb-true, eq-eqb}
use Rattle.std.proofs.lemmas.List.{length-map, append-nil}
use Rattle.std.proofs.lemmas.Option.{none-some, slice_get_cases, slice_get_past, slice_get-map}
use Rattle.std.specs.List.{flat_map, filter_map, cons_option}
use Rattle.std.specs.Option.{option_map}
use Rattle.vlt_core.specs.Core.{Ty, int, bool, tracked, owning, guarded, variant, owning_variant, a_var, Operand, CaseKey, CaseDecl, build, Func, Program}
use Rattle.vlt_core.specs.Lookups.{var_type, is_owning, is_owning_var, owns, cases_of, case_at, variant_of, variant_in, KeyIn, keys_in, case_keys, key_type}
use Rattle.vlt_core.specs.Maps.{HeldMap, wants_absent, becomes_full, CanPass, map_after}
use Rattle.vlt_core.specs.Rows.{simple_rows, operands_rows, fill_rows, row, on_option}
use Rattle.vlt_core.specs.Types.{decl_of, is_variant, with_keys, stands_for, header_of, keys_of_ty, type_in, args_of}
use Rattle.vlt_core.specs.KindedHeads.{is_payload_type}
use Rattle.vlt_core.specs.declared.rules.TheConstants as rule
use Rattle.vlt_core.specs.KindedScopes.{Ids, with_target, target_broken}
use Rattle.vlt_core.specs.KindedOperands.{fits_owning, operands_broken}
use Rattle.vlt_core.specs.KindedStatements.{wanted_of, is_variant_type, variant_args, case_broken, payload_types, payload_types_in, simple_broken, ids_after}
use Rattle.vlt_meaning.specs.World.{Part, Value, of_case, objects_in, objects_in_part, World, Frame, missing, not_empty}
use Rattle.vlt_meaning.specs.Found.{◌>>=◌, or_fault}
use Rattle.vlt_meaning.specs.Step.{is_fillable, fill}
use Rattle.vlt_meaning.specs.Operands.{part_of, parts_of}
use Rattle.vlt_meaning.specs.Externals.{payload_in}
use Rattle.vlt_meaning.specs.Run.{Setup, does_simple}
use Rattle.vlt_sound_worlds.specs.Look.{look}
use Rattle.vlt_sound_worlds.specs.Members.{In}
use Rattle.vlt_sound_worlds.specs.Keys.{IsOfType}
use Rattle.vlt_sound_worlds.specs.Scene.{Scene}
use Rattle.vlt_sound_worlds.specs.Fits.{Names, names_of, option_join, header_type, FitParts, FitKeys, IsCase, IsOne, Fits}
use Rattle.vlt_sound_worlds.proofs.Fits.{fits_named, fits_after}
use Rattle.vlt_sound_worlds.specs.Agrees.{FitHanded, Context, scene, Agrees}
use Rattle.vlt_sound_worlds.specs.Typed.{IsTyped}
use Rattle.vlt_sound_worlds.specs.Safe.{Safe, goes_to}
use Rattle.vlt_sound_worlds.proofs.Empty.{both_empty, unless_so}
use Rattle.vlt_sound_worlds.proofs.Rows.{pass_split, passed_split}
use Rattle.vlt_sound_worlds.proofs.Expressions.{names_at}
use Rattle.vlt_sound_worlds.proofs.Plain.{plain_value}
use Rattle.vlt_sound_worlds.proofs.Safe.{found_safe, so_safe}
use Rattle.vlt_sound_worlds.proofs.FrameChanges.{agrees_set, target_scope}
use Rattle.vlt_sound_worlds.proofs.Owning.{fill_safe}
use Rattle.vlt_sound_worlds.proofs.TypeFacts.{target_known}
use Rattle.vlt_sound_worlds.specs.Handed.{handed_values}
use Rattle.vlt_sound_worlds.proofs.Hand.{given, agrees_hand}
use Rattle.vlt_sound_worlds.proofs.OperandsLaws.{operands_safe}
use Rattle.vlt_sound_statements.specs.Makings.{HasCases}
use Rattle.vlt_sound_statements.proofs.Slots.{values_handed}
use Rattle.vlt_sound_statements.proofs.Swaps.{keys_itself}
use Rattle.vlt_sound_statements.proofs.Packing.{pack_row, HoldAll, finds, hold_all, packs_safe}
use Rattle.vlt_sound_statements.proofs.Boxing.{agrees_boxed}

-- ---- payloads

-- values of payload types are parts
pub record AreParts (p : Program) (s : Scene) (names : Names) (args : List ℕ) (types : List Ty)
    (values : List Value) : Type 0 where
  pub parts : List Part
  pub is : parts_of values ≡ Ok parts
  pub same : flat_map objects_in_part parts ≡ flat_map objects_in values
  pub fit : FitParts s (names_of (map names args)) types parts

payload_one : (p : Program) (s : Scene) (names : Names) (ty : Ty) (a : Value) → is_payload_type ty ≡ true →
    Fits p s names ty a → IsOne s names ty a
payload_one p s names int a e fits = fits
payload_one p s names bool a e fits = fits
payload_one p s names (owning S t args) a e fits = fits
payload_one p s names (guarded k t args) a e fits = fits
payload_one p s names (tracked k t args) a e fits = cc
payload_one p s names (variant t args) a e fits = cc
payload_one p s names (owning_variant t args) a e fits = cc

module _ (p : Program) (s : Scene) (names : Names) (args : List ℕ) where
  parts_fit : (types : List Ty) (values : List Value) →
      ((i : ℕ) (ty : Ty) → slice_get types i ≡ Some ty → (is_payload_type ty ≡ true) × ((k : ℕ) → In k (keys_of_ty ty) → k < length args)) →
      length values ≡ length (map (with_keys args) types) →
      FitHanded p s names (handed_values (map (with_keys args) types) values) → AreParts p s names args types values
  parts_fit [] [] known long fits = record { parts = []; is = refl; same = refl; fit = tt }
  parts_fit [] (a ∷ values) known long fits = cc
  parts_fit (t ∷ types) [] known long fits = cc
  parts_fit (t ∷ types) (a ∷ values) known long fits =
      let here = known 0 t refl in
      let now =
      fits_named p s (λ k. names (stands_for args k)) (names_of (map names args)) t a
      (λ k i. names_at names args k (here.1 k i)) (fits_after p s names args t a fits.0) in
      let part = payload_one p s (names_of (map names args)) t a here.0 now in
      let rest = parts_fit types values (λ i. known (suc i)) (omega arith) fits.1 in
      record {
        parts = part.part ∷ rest.parts;
        is =
            ap (λ a. part_of a >>= λ b. parts_of values >>= λ bs. Ok (b ∷ bs)) part.is
            ∙ ap (λ r. r >>= λ bs. Ok (part.part ∷ bs)) rest.is;
        same =
            ap (λ ns. ns ++ flat_map objects_in_part rest.parts) (sym (ap objects_in part.is))
            ∙ ap (λ ns. objects_in a ++ ns) rest.same;
        fit = (part.fits, rest.fit);
      }

-- ---- keys of a case

-- what the frame holds under the keys of a case fits them
module _ (p : Program) (f : Func) (s : Scene) (frame : Frame) (t : ℕ) (args : List ℕ)
    (typed_key : (i k u : ℕ) → slice_get args i ≡ Some k → header_type p t i ≡ Some u → key_type f k ≡ Some u)
    (count : length args ≡ length (header_of p t)) where
  abbrev key_in : CaseKey → Option KeyIn
  key_in k = option_map (λ j. record { key = j; states = k.states }) (slice_get args k.position)

  header_within : (i u : ℕ) → header_type p t i ≡ Some u → (k : ℕ) × (slice_get args i ≡ Some k)
  header_within i u is = ⊎_elim
      (λ at. (at.0, at.2))
      (λ past. absurd (none-some u (sym (none (past.0)) ∙ is)))
      (slice_get_cases args i).1
    where
      none : length args ≤ i → header_type p t i ≡ None
      none le = ap option_join (slice_get_past (header_of p t) i (subst (λ n. n ≤ i) count le))

  keys_fit : (cs : List CaseKey) (ns : List ℕ) →
      ((i : ℕ) (k : CaseKey) → slice_get cs i ≡ Some k → (u : ℕ) × (header_type p t k.position ≡ Some u)) →
      HoldAll f frame s.objects (filter_map key_in cs) ns → FitKeys p s (names_of (map frame.keys args)) t cs ns
  keys_fit [] [] known all = tt
  keys_fit [] (n ∷ ns) known all = absurd all
  keys_fit (q ∷ cs) ns known all = by (λ ns all. keys_fit cs ns (λ i. known (suc i)) all) ns (subst (λ ks. HoldAll f frame s.objects ks ns) here all)
    where
      head : (u : ℕ) × (header_type p t q.position ≡ Some u)
      head = known 0 q refl

      at : (k : ℕ) × (slice_get args q.position ≡ Some k)
      at = header_within q.position head.0 head.1

      here : filter_map key_in (q ∷ cs) ≡ record { key = at.0; states = q.states } ∷ filter_map key_in cs
      here =
          ap (λ o. cons_option (option_map (λ j. record { key = j; states = q.states }) o) (filter_map key_in cs)) at.1

      by : ((ns : List ℕ) → HoldAll f frame s.objects (filter_map key_in cs) ns → FitKeys p s (names_of (map frame.keys args)) t cs ns) →
          (ns : List ℕ) → HoldAll f frame s.objects (record { key = at.0; states = q.states } ∷ filter_map key_in cs) ns →
          FitKeys p s (names_of (map frame.keys args)) t (q ∷ cs) ns
      by rest [] all = absurd all
      by rest (n ∷ ns) all = (
        record {
          named = ap option_join (slice_get-map frame.keys args q.position ∙ ap (option_map frame.keys) at.1) ∙ all.0.named;
          typed =
              subst (λ o. IsOfType o (look s.objects n).type) (typed_key q.position at.0 head.0 at.1 head.1 ∙ sym head.1)
              all.0.typed;
          state = all.0.state;
        },
        rest ns all.2,
      )

-- ---- what the statement says

pub record BuildFacts (p : Program) (f : Func) (v case n t : ℕ) (args : List ℕ) : Type 0 where
  pub decl : CaseDecl
  pub declared : case_at p t case ≡ Some decl
  pub count : n ≡ length decl.payload

case_known : (p : Program) (f : Func) (v case n t : ℕ) (args : List ℕ) → is_variant (decl_of p t) ≡ true →
    case_broken p case n (Some (t, args)) ≡ [] → BuildFacts p f v case n t args
case_known p f v case n t args shape e =
    let e1 = rw shape at e in
    ⊎_elim
    (λ r.
    let e2 = rw r.2 at e1 in
    record { decl = r.0; declared = r.2; count = eqb-true n (length r.0.payload) (unless_so (n == length r.0.payload) rule.WRONG_COUNT e2) })
    (λ past. let e2 = rw past.1 at e1 in cc)
    (slice_get_cases (cases_of p t) case).1

-- a variable of a variant
pub record VariantTy (ty : Ty) : Type 0 where
  pub type : ℕ
  pub args : List ℕ
  pub is : variant_args (Some ty) ≡ Some (type, args)
  pub of : variant_in (Some ty) ≡ Some (record { type = type; args = args })
  pub declared : type_in ty ≡ Some type
  pub same : args_of ty ≡ args
  pub fits : (p : Program) (s : Scene) (names : Names) (a : Value) → IsCase p s (names_of (map names args)) type a →
      Fits p s names ty a
  pub wide : is_owning ty ≡ true → fits_owning ty ty ≡ true

variant_known : (o : Option Ty) (ty : Ty) → o ≡ Some ty → wanted_of o is_variant_type ≡ [] → VariantTy ty
variant_known o (variant t args) is e = record {
  type = t;
  args = args;
  is = refl;
  of = refl;
  declared = refl;
  same = refl;
  fits = λ p s names a i. i;
  wide = λ e. cc;
}
variant_known o (owning_variant t args) is e = record {
  type = t;
  args = args;
  is = refl;
  of = refl;
  declared = refl;
  same = refl;
  fits = λ p s names a i. i;
  wide = λ e. rw (eq-eqb t t refl) (keys_itself args);
}
variant_known o int is e = let q = rw is at e in cc
variant_known o bool is e = let q = rw is at e in cc
variant_known o (tracked k t args) is e = let q = rw is at e in cc
variant_known o (owning S t args) is e = let q = rw is at e in cc
variant_known o (guarded k t args) is e = let q = rw is at e in cc

build_rows : (p : Program) (f : Func) (v case : ℕ) (os : List Operand) (t : ℕ) (args : List ℕ) →
    variant_of f v ≡ Some (record { type = t; args = args }) →
    simple_rows p f (build v case os) ≡
    operands_rows p f os ++ map pack_row (case_keys p (record { type = t; args = args }) case) ++ fill_rows f (v ∷ [])
build_rows p f v case os t args of =
    ap (λ o. operands_rows p f os ++ on_option o (λ t. map pack_row (case_keys p t case)) ++ fill_rows f (v ∷ [])) of

-- ---- the value into the variable

module _ (p : Program) (f : Func) (typed : IsTyped p f) {c : Context} {h : HeldMap} {ids : Ids} {frame : Frame}
    (w : World) (v : ℕ) (ty : Ty) (is : var_type f v ≡ Some ty) where
  filled_safe : (a : Value) → (agrees : Agrees p f c h ids (given a ty ∷ []) frame w.objects) → (is_owning ty ≡ true → fits_owning ty ty ≡ true) →
      CanPass (fill_rows f (v ∷ [])) h →
      Safe (goes_to p f c (map_after (fill_rows f (v ∷ [])) h) (with_target f v ids) []) (fill f v a frame w)
  unfolding fill
  filled_safe a agrees wide pass = ⊎_elim
      (λ own.
      let rows : fill_rows f (v ∷ []) ≡ row (a_var v) wants_absent becomes_full ∷ [] = owning_row (ap owns is ∙ own) in
      subst (λ rs. Safe (goes_to p f c (map_after rs h) (with_target f v ids) []) (fill f v a frame w)) (sym rows)
      (fill_safe p f typed.limited w agrees v ty (with_target f v ids) is own own (wide own)
      (subst (λ rs. CanPass rs h) rows pass).0 (target_scope f v ids)))
      (λ plain.
      let off : is_owning_var f v ≡ false = ap owns is ∙ plain in
      let none =
      plain_value p (scene c w.objects agrees.heads) frame.keys ty a plain
      (λ u args e. typed.variants v u args (is ∙ ap Some e)) agrees.handed.0 in
      let set_now =
      agrees_set agrees v ty a (with_target f v ids) is plain none agrees.handed.0 (target_scope f v ids) in
      subst (λ rs. Safe (goes_to p f c (map_after rs h) (with_target f v ids) []) (fill f v a frame w)) (sym (plain_row off))
      (so_safe (goes_to p f c h (with_target f v ids) []) (is_fillable f v frame) not_empty None w _
      (ap (λ b. not (b && is_some (frame.vars v))) off)
      (agrees_hand set_now [] (sym (append-nil (objects_in a) ∙ none)) tt)))
      (cases_Bool (is_owning ty))
    where
      owning_row : is_owning_var f v ≡ true → fill_rows f (v ∷ []) ≡ row (a_var v) wants_absent becomes_full ∷ []
      owning_row own = rw own refl

      plain_row : is_owning_var f v ≡ false → fill_rows f (v ∷ []) ≡ []
      plain_row off = rw off refl

module _ (r : Setup) (f : Func) (typed : IsTyped r.program f) (kinds : HasCases r.program f)
    {c : Context} {h : HeldMap} {ids : Ids} {frame : Frame} (w : World)
    (agrees : Agrees r.program f c h ids [] frame w.objects) where
  -- the statement, where its variant and its case are known
  build_known : (v case : ℕ) (os : List Operand) (ty : Ty) (is : var_type f v ≡ Some ty) (vt : VariantTy ty)
      (d : CaseDecl) → case_at r.program vt.type case ≡ Some d → length os ≡ length d.payload →
      operands_broken r.program f ids (map (with_keys vt.args) d.payload) os ≡ [] →
      CanPass (operands_rows r.program f os ++ map pack_row (case_keys r.program (record { type = vt.type; args = vt.args }) case) ++ fill_rows f (v ∷ [])) h →
      Safe
      (goes_to r.program f c
      (map_after (operands_rows r.program f os ++ map pack_row (case_keys r.program (record { type = vt.type; args = vt.args }) case) ++ fill_rows f (v ∷ [])) h)
      (with_target f v ids) [])
      (does_simple r f (build v case os) frame w)
  build_known v case os ty is vt d declared count kinded pass =
      let p = r.program in
      let t = vt.type in
      let args = vt.args in
      let ks = case_keys p (record { type = t; args = args }) case in
      let A = operands_rows p f os in
      let B = map pack_row ks in
      let C = fill_rows f (v ∷ []) in
      let first = pass_split (A ++ B) C h pass in
      let second = pass_split A B h first.0 in
      let split = passed_split A B h in
      let map_same = passed_split (A ++ B) C h ∙ ap (map_after C) split in
      let last : CanPass C (map_after B (map_after A h)) = subst (CanPass C) split first.1 in
      let G = goes_to p f c (map_after C (map_after B (map_after A h))) (with_target f v ids) [] in
      let long : length os ≡ length (map (with_keys args) d.payload) =
      count ∙ sym (length-map d.payload (with_keys args)) in
      let header : length args ≡ length (header_of p t) =
      ap length (sym vt.same) ∙ (typed.vars v ty t is vt.declared).count in
      subst
      (λ h'. Safe (goes_to p f c h' (with_target f v ids) []) (does_simple r f (build v case os) frame w)) (sym map_same)
      (found_safe G (or_fault missing (variant_of f v)) (record { type = t; args = args }) w _
      (ap (or_fault missing) (ap variant_in is ∙ vt.of))
      (so_safe G (length os == length (payload_in (case_at p t case))) missing None w _
      (ap (λ o. length os == length (payload_in o)) declared ∙ eq-eqb (length os) (length d.payload) count)
      (operands_safe typed os (map (with_keys args) d.payload) h [] frame w agrees G _ long kinded second.0
      (λ values frame' w' more next.
      let s = scene c w'.objects next.heads in
      let ps =
      parts_fit p s frame'.keys args d.payload values
      (λ i ty at. let q = kinds.payloads t case i d ty declared at in (q.0, λ k j. subst (λ n. k < n) (sym header) (q.1 k j)))
      more next.handed in
      let hold = hold_all ks (map_after A h) (finds next) second.1 in
      found_safe G (parts_of values) ps.parts w' _ ps.is
      (packs_safe f frame' G ks hold.0 w' _ hold.1
      (λ w2 moves longer.
      filled_safe p f typed w2 v ty is (of_case case ps.parts hold.0)
      (agrees_boxed next ks hold.0 hold.1 w2.objects moves longer (given (of_case case ps.parts hold.0) ty)
      (ap (λ ns. ns ++ hold.0) (ps.same ∙ sym (values_handed (map (with_keys args) d.payload) values more)))
      (vt.fits p s frame'.keys (of_case case ps.parts hold.0) (record {
        case = case;
        decl = d;
        parts = ps.parts;
        keys = hold.0;
        is = refl;
        declared = declared;
        fit = ps.fit;
        held = keys_fit p f s frame' t args
            (λ i k u at head. typed.heads v t i k u ty is vt.declared (ap (λ a. slice_get a i) vt.same ∙ at) head) header
            d.keys hold.0 (λ i k at. kinds.keys t case i d k declared at)
            (subst (λ ks. HoldAll f frame' w'.objects ks hold.0) (ap (keys_in args) declared) hold.1);
      })))
      vt.wide last))))))

  pub build_safe : (v case : ℕ) (os : List Operand) → simple_broken r.program f ids (build v case os) ≡ [] →
      CanPass (simple_rows r.program f (build v case os)) h →
      Safe
      (goes_to r.program f c (map_after (simple_rows r.program f (build v case os)) h) (ids_after f (build v case os) ids) [])
      (does_simple r f (build v case os) frame w)
  build_safe v case os kinded pass =
      let A = wanted_of (var_type f v) is_variant_type in
      let B = case_broken r.program case (length os) (variant_args (var_type f v)) in
      let C = operands_broken r.program f ids (payload_types r.program (variant_args (var_type f v)) case) os in
      let s3 = both_empty (A ++ B ++ C) (target_broken f ids v) kinded in
      let s2 = both_empty (A ++ B) C s3.0 in
      let s1 = both_empty A B s2.0 in
      let t = target_known f ids v s3.1 in
      let vt = variant_known (var_type f v) t.0 t.1 s1.0 in
      let args_is : variant_args (var_type f v) ≡ Some (vt.type, vt.args) = ap variant_args t.1 ∙ vt.is in
      let facts =
      case_known r.program f v case (length os) vt.type vt.args
      (kinds.variants v vt.type vt.args t.0 t.1 vt.is)
      (subst (λ o. case_broken r.program case (length os) o ≡ []) args_is s1.1) in
      let types : payload_types r.program (variant_args (var_type f v)) case ≡ map (with_keys vt.args) facts.decl.payload =
      ap (λ o. payload_types r.program o case) args_is ∙ ap (payload_types_in vt.args) facts.declared in
      let rows = build_rows r.program f v case os vt.type vt.args (ap variant_in t.1 ∙ vt.of) in
      subst
      (λ rs. Safe (goes_to r.program f c (map_after rs h) (with_target f v ids) []) (does_simple r f (build v case os) frame w)) (sym rows)
      (build_known v case os t.0 t.1 vt facts.decl facts.declared facts.count
      (subst (λ ts. operands_broken r.program f ids ts os ≡ []) types s2.1)
      (subst (λ rs. CanPass rs h) rows pass))
