-- The code of exchanges, openings and built variants breaks no rule of C.
use Rattle.std.proofs.Common.{◌≡◌, ℕ, suc, ◌+◌, Bool, true, false, if◌then◌else◌, List, [], ◌∷◌, ◌++◌, map, length, Option, Some, None, slice_get, refl, sym, ap, ◌∙◌, subst, arith}
use Rattle.std.proofs.lemmas.Bool.{false≢true}
use Rattle.std.proofs.lemmas.List.{length-map}
use Rattle.std.proofs.lemmas.Option.{same_Some}
use Rattle.vlt_core.specs.Core as core
use Rattle.vlt_core.specs.Core.{Ty, Simple, Operand, FieldDecl, TypeDecl, Func, Program}
use Rattle.vlt_core.specs.Lookups.{is_owning, fields_of, var_type}
use Rattle.vlt_core.specs.Types.{decl_of, is_struct, same_ty, with_keys}
use Rattle.vlt_core.specs.KindedHeads.{is_payload_type}
use Rattle.vlt_core.specs.KindedScopes.{Ids, use_broken, binding_broken, target_broken, with_binding}
use Rattle.vlt_core.specs.KindedOperands.{misfit, operands_broken}
use Rattle.vlt_core.specs.KindedStatements as kinded
use Rattle.vlt_core.specs.KindedStatements.{simple_broken}
use Rattle.vlt_core.specs.declared.rules.TheConstants as rule
use Rattle.vlt_core_laws.proofs.Unbroken.{unless_holds, filled_not_empty}
use Rattle.c_syntax.specs.declared.program.CResult.TheVariants as result
use Rattle.c_syntax.specs.declared.program.CVar.{CVar}
use Rattle.c_syntax.specs.declared.program.CPrim.TheVariants as prim
use Rattle.c_syntax.specs.C as c
use Rattle.c_lower.specs.Slots.{Sort, of_number, of_reference, of_owner, slot_sorts, sorts_of, variant_sorts, Numbers, vars_at, slot_vars, slot_of, sorted_slots, var_slots, sorts_of_field, object_type, object_type_of, touched_cells, cell_sorts, payload_sort}
use Rattle.c_lower.specs.Guards as g
use Rattle.c_lower.specs.Expressions.{Atom, atom_expr, first_atom, operand_codes}
use Rattle.c_lower.specs.Statements.{runtime_call, swap_slots, open_slots, owning_positions, open_fields, variant_type, case_positions, build_slots, after_first, simple_code}
use Rattle.c_lower_worlds.specs.Operators.Codes.{AreUpTo}
use Rattle.c_lower_worlds.specs.Naming.KindedParts.{is_proper_simple}
use Rattle.c_lower_worlds.proofs.OfNaming.RuleFacts.{both_empty}
use Rattle.c_lower_worlds.proofs.OfNaming.DeclaredVariables.{used_declared, bound_declared, target_declared}
use Rattle.c_lower_worlds.proofs.SameLayouts.{same_laid, keys_laid}
use Rattle.c_lower_runs.proofs.OfForms.Build.{fit_all}
use Rattle.c_lower_runs.proofs.OfForms.OpenFields.{positions_from, wanted_of, positions_are, wanted_are}
use Rattle.c_lower_runs.proofs.OfTexts.Ruled.{Place, IsTyped, AllRuled}
use Rattle.c_lower_runs.proofs.OfTexts.SlotTypes.{kind_of, VarsFit, AtomsFit, CellsFit, temps_fit, typed_slots_fit, first_typed, set_ruled, field_cells_fit}
use Rattle.c_lower_runs.proofs.OfTexts.ExpressionKinds.{Here, ruled_both, small_numeral}
use Rattle.c_lower_runs.proofs.OfTexts.OperandKinds.{AllAtoms, operands_kinded}
use Rattle.c_lower_runs.proofs.OfTexts.PayloadKinds.{SortsAt, ArePayloads, case_sorts, Placed, builds_ruled}
use Rattle.c_lower_runs.proofs.OfTexts.StatementParts.{tracked_var, pointer_slot, wanted_is, then_empty, swaps_ruled, opens_ruled, on_one}
use Rattle.c_lower_runs.proofs.OfTexts.SimpleKinds.{set_kinded, input_kinded, print_kinded, put_kinded, own_kinded, release_kinded, drop_kinded, unpack_kinded, adopt_kinded, make_kinded}
use Rattle.std.specs.Prelude.{is_some}
use Rattle.c_lower_runs.proofs.OfTexts.VariantKinds.{VariantAt, variant_at, type_at, slots_at, case_slot, CaseThere, case_of, case_types}
use Rattle.c_lower_worlds.proofs.OfNaming.CallOperands.{OperandsFit}

-- the slot of a payload's sort
payload_first : (a : Place) (p : Program) (args : List ℕ) (t : Ty) (xs : List Atom) → is_payload_type t ≡ true → AtomsFit a (slot_sorts p (with_keys args t)) xs →
    IsTyped a (kind_of (payload_sort t)) (atom_expr (first_atom xs))
payload_first a p args core.int xs e h = first_typed a of_number [] xs h
payload_first a p args core.bool xs e h = first_typed a of_number [] xs h
payload_first a p args (core.guarded k t others) xs e h = first_typed a of_reference [] xs h
payload_first a p args (core.owning s t others) xs e h = first_typed a of_owner [] xs h
payload_first a p args (core.tracked k t others) xs e h = absurd (false≢true e)
payload_first a p args (core.variant t others) xs e h = absurd (false≢true e)
payload_first a p args (core.owning_variant t others) xs e h = absurd (false≢true e)

atoms_placed : (a : Place) (p : Program) (args : List ℕ) (ss : List Sort) (js : List ℕ) (tys : List Ty) (atoms : List (List Atom)) → ArePayloads tys → SortsAt ss js tys → AllAtoms a p (map (with_keys args) tys) atoms →
    Placed a ss js (map first_atom atoms)
atoms_placed a p args ss [] [] [] all at h = tt
atoms_placed a p args ss [] [] (xs ∷ atoms) all at h = absurd h
atoms_placed a p args ss [] (t ∷ tys) atoms all at h = absurd at
atoms_placed a p args ss (j ∷ js) [] atoms all at h = absurd at
atoms_placed a p args ss (j ∷ js) (t ∷ tys) [] all at h = absurd h
atoms_placed a p args ss (j ∷ js) (t ∷ tys) (xs ∷ atoms) all at h = (
  λ s is. subst (λ s. IsTyped a (kind_of s) (atom_expr (first_atom xs))) (same_Some (payload_sort t) s (sym at.0 ∙ is)) (payload_first a p args t xs (all 0 t refl) h.0),
  atoms_placed a p args ss js tys atoms (λ i ty e. all (suc i) ty e) at.1 h.1,
)

module _ (a : Place) (p : Program) (f : Func) (here : Here a p f) (ids : Ids) (l : Bool) where
  -- what the rules say of a field that is exchanged
  record SwapFits (x i v type : ℕ) (args : List ℕ) : Type 0 where
    decl : FieldDecl
    at : slice_get (fields_of p type) i ≡ Some decl
    fits : misfit (Some (with_keys args decl.ty)) (var_type f v) ≡ []

  swap_fits : (x i v key type : ℕ) (args : List ℕ) → var_type f x ≡ Some (core.tracked key type args) → kinded.swap_broken p f x i v ≡ [] → SwapFits x i v type args
  swap_fits x i v key type args is e = by (decl_of p type) refl (here.types.objects f here.is x (core.tracked key type args) is)
    where
      of_field : (td : TypeDecl) → decl_of p type ≡ Some td → is_struct (Some td) ≡ true → (o : Option FieldDecl) → slice_get (fields_of p type) i ≡ o → SwapFits x i v type args
      of_field td at so None field = let h : rule.UNKNOWN_NAME ∷ [] ≡ [] = rw (is, field, at, so) at e in absurd (filled_not_empty rule.UNKNOWN_NAME [] h)
      of_field td at so (Some d) field =
          let h : (if is_owning d.ty then misfit (Some (with_keys args d.ty)) (var_type f v) else rule.WRONG_SWAP ∷ []) ≡ [] = rw (is, field, at, so) at e in
          record { decl = d; at = field; fits = (then_empty (is_owning d.ty) rule.WRONG_SWAP (misfit (Some (with_keys args d.ty)) (var_type f v)) h).1 }

      struct : (td : TypeDecl) → decl_of p type ≡ Some td → (b : Bool) → is_struct (Some td) ≡ b → SwapFits x i v type args
      struct td at true so = of_field td at so (slice_get (fields_of p type) i) refl
      struct td at false so = let h : rule.WRONG_SWAP ∷ [] ≡ [] = rw (is, at, so) at e in absurd (filled_not_empty rule.WRONG_SWAP [] h)

      by : (o : Option TypeDecl) → decl_of p type ≡ o → is_some (decl_of p type) ≡ true → SwapFits x i v type args
      by None at there = absurd (false≢true (sym (ap is_some at) ∙ there))
      by (Some td) at there = struct td at (is_struct (Some td)) refl

  tracked_cells : (x i key type : ℕ) (args : List ℕ) (d : FieldDecl) → var_type f x ≡ Some (core.tracked key type args) → slice_get (fields_of p type) i ≡ Some d → cell_sorts p f x i ≡ slot_sorts p (with_keys args d.ty)
  tracked_cells x i key type args d is at = ap (λ t. sorts_of_field p (slice_get (fields_of p (object_type_of t)) i)) is ∙ ap (sorts_of_field p) at ∙ (keys_laid p args d.ty).sorts

  cells_there : (x i key type : ℕ) (args : List ℕ) → var_type f x ≡ Some (core.tracked key type args) → CellsFit a (cell_sorts p f x i) (touched_cells p f x i)
  cells_there x i key type args is = field_cells_fit a p (slot_of p f x) (object_type f x) i here.few (pointer_slot a p f x (core.tracked key type args) here.up is refl)

  swap_kinded : (t : Numbers) (x i v : ℕ) → simple_broken p f ids (core.swap x i v) ≡ [] → AreUpTo (simple_code p f t (core.swap x i v)).most a.most → AllRuled a l (simple_code p f t (core.swap x i v)).stmts
  swap_kinded t x i v broken m =
      let b2 = both_empty (kinded.tracked_broken f ids rule.WRONG_SWAP x ++ use_broken f ids v) (kinded.swap_broken p f x i v) broken in
      let b1 = both_empty (kinded.tracked_broken f ids rule.WRONG_SWAP x) (use_broken f ids v) b2.left in
      let x_is = tracked_var f ids rule.WRONG_SWAP x b1.left in
      let d = used_declared f ids v b1.right in
      let fits = swap_fits x i v x_is.key x_is.type x_is.args x_is.is b2.right in
      let same = unless_holds (same_ty (with_keys x_is.args fits.decl.ty) d.ty) rule.WRONG_TYPE (subst (λ o. misfit (Some (with_keys x_is.args fits.decl.ty)) o ≡ []) d.is fits.fits) in
      let sorts : sorts_of p (var_type f v) ≡ cell_sorts p f x i =
      ap (sorts_of p) d.is ∙ (same_laid p (with_keys x_is.args fits.decl.ty) d.ty same).sorts ∙ sym (tracked_cells x i x_is.key x_is.type x_is.args fits.decl x_is.is fits.at) in
      subst (λ ss. AllRuled a l (swap_slots (slot_of p f x) (vars_at t (cell_sorts p f x i)) (touched_cells p f x i) (sorted_slots ss (slot_vars p f v)))) (sym sorts)
      (swaps_ruled a l (slot_of p f x) (cell_sorts p f x i) (vars_at t (cell_sorts p f x i)) (touched_cells p f x i) (slot_vars p f v)
      (pointer_slot a p f x (core.tracked x_is.key x_is.type x_is.args) here.up x_is.is refl) (temps_fit a t (cell_sorts p f x i) m) (cells_there x i x_is.key x_is.type x_is.args x_is.is)
      (subst (λ ss. VarsFit a ss (slot_vars p f v)) (sym (ap (sorts_of p) d.is) ∙ sorts) (typed_slots_fit a p f v d.ty here.up d.is)))

  fields_opened : (x key type : ℕ) (args : List ℕ) → var_type f x ≡ Some (core.tracked key type args) → (ds : List FieldDecl) (i : ℕ) (vs : List ℕ) (now : Ids) →
      ((m : ℕ) (d : FieldDecl) → slice_get ds m ≡ Some d → slice_get (fields_of p type) (i + m) ≡ Some d) → kinded.opened_broken p f now (wanted_of args ds) vs ≡ [] →
      AllRuled a l (open_fields p f x (positions_from i ds) vs)
  fields_opened x key type args is [] i vs now at e = none vs
    where
      none : (vs : List ℕ) → AllRuled a l (open_fields p f x [] vs)
      none vs = tt
  fields_opened x key type args is (d ∷ ds) i vs now at e = by (is_owning d.ty) vs e (λ vs now e. fields_opened x key type args is ds (suc i) vs now (λ m d q. ap (slice_get (fields_of p type)) (more i m) ∙ at (suc m) d q) e)
    where
      none : (i : ℕ) → i ≡ i + 0
      none i = omega arith

      more : (i m : ℕ) → suc i + m ≡ i + suc m
      more i m = omega arith

      by : (b : Bool) (vs : List ℕ) → kinded.opened_broken p f now (if b then with_keys args d.ty ∷ wanted_of args ds else wanted_of args ds) vs ≡ [] →
          ((vs : List ℕ) (now : Ids) → kinded.opened_broken p f now (wanted_of args ds) vs ≡ [] → AllRuled a l (open_fields p f x (positions_from (suc i) ds) vs)) →
          AllRuled a l (open_fields p f x (if b then i ∷ positions_from (suc i) ds else positions_from (suc i) ds) vs)
      by false vs e later = later vs now e
      by true [] e later = tt
      by true (v ∷ vs) e later =
          let b2 = both_empty (misfit (Some (with_keys args d.ty)) (var_type f v) ++ binding_broken f now None v) _ e in
          let b1 = both_empty (misfit (Some (with_keys args d.ty)) (var_type f v)) (binding_broken f now None v) b2.left in
          let dv = bound_declared f now None v b1.right in
          let same = unless_holds (same_ty (with_keys args d.ty) dv.ty) rule.WRONG_TYPE (subst (λ o. misfit (Some (with_keys args d.ty)) o ≡ []) dv.is b1.left) in
          let sorts : sorts_of p (var_type f v) ≡ cell_sorts p f x i =
          ap (sorts_of p) dv.is ∙ (same_laid p (with_keys args d.ty) dv.ty same).sorts ∙ sym (tracked_cells x i key type args d is (ap (slice_get (fields_of p type)) (none i) ∙ at 0 d refl)) in
          ruled_both a l (open_slots (touched_cells p f x i) (var_slots p f v)) (open_fields p f x (positions_from (suc i) ds) vs)
          (subst (λ ss. AllRuled a l (open_slots (touched_cells p f x i) (sorted_slots ss (slot_vars p f v)))) (sym sorts)
          (opens_ruled a l (cell_sorts p f x i) (touched_cells p f x i) (slot_vars p f v) (cells_there x i key type args is)
          (subst (λ ss. VarsFit a ss (slot_vars p f v)) (sym (ap (sorts_of p) dv.is) ∙ sorts) (typed_slots_fit a p f v dv.ty here.up dv.is))))
          (later vs (with_binding f None v now) b2.right)

  open_kinded : (t : Numbers) (x : ℕ) (vs : List ℕ) → simple_broken p f ids (core.open_into x vs) ≡ [] → AllRuled a l (simple_code p f t (core.open_into x vs)).stmts
  open_kinded t x vs broken =
      let b2 = both_empty _ (kinded.opened_broken p f ids (kinded.opened_types p (kinded.tracked_type (var_type f x))) vs) broken in
      let b1 = both_empty (kinded.tracked_broken f ids rule.WRONG_RELEASE x) _ b2.left in
      let x_is = tracked_var f ids rule.WRONG_RELEASE x b1.left in
      let opened = subst (λ ws. kinded.opened_broken p f ids ws vs ≡ []) (ap (λ o. kinded.opened_types p (kinded.tracked_type o)) x_is.is ∙ wanted_are x_is.args (fields_of p x_is.type)) b2.right in
      let positions : owning_positions (fields_of p (object_type f x)) ≡ positions_from 0 (fields_of p x_is.type) = ap (λ t. owning_positions (fields_of p (object_type_of t))) x_is.is ∙ positions_are (fields_of p x_is.type) in
      ruled_both a l (open_fields p f x (owning_positions (fields_of p (object_type f x))) vs) (runtime_call prim.Release (c.variable (slot_of p f x) ∷ []) ∷ [])
      (subst (λ is. AllRuled a l (open_fields p f x is vs)) (sym positions)
      (fields_opened x x_is.key x_is.type x_is.args x_is.is (fields_of p x_is.type) 0 vs ids (λ m d at. ap (slice_get (fields_of p x_is.type)) (none m) ∙ at) opened))
      (on_one a l (slot_of p f x) (pointer_slot a p f x (core.tracked x_is.key x_is.type x_is.args) here.up x_is.is refl), tt)
    where
      none : (m : ℕ) → 0 + m ≡ m
      none m = omega arith

  -- ---- variants

  -- a case is built from operands that fit its payloads
  built : (t : Numbers) (v k : ℕ) (os : List Operand) (s : VariantAt a p f v) (case : CaseThere p s.var.type k (length os)) → is_proper_simple (core.build v k os) ≡ true →
      OperandsFit p f ids (map (with_keys s.var.args) case.decl.payload) os → AreUpTo (simple_code p f t (core.build v k os)).most a.most → AllRuled a l (simple_code p f t (core.build v k os)).stmts
  built t v k os s case proper fit m =
      let type = s.var.type in
      let codes = operand_codes p f t os in
      let atoms = map first_atom codes.atoms in
      let js = case_positions p type k in
      let h = operands_kinded a p f here ids l t (map (with_keys s.var.args) case.decl.payload) os proper fit m in
      let payloads : ArePayloads case.decl.payload = here.types.payloads type k case.decl case.at in
      let placed = atoms_placed a p s.var.args (variant_sorts p type) js case.decl.payload codes.atoms payloads (case_sorts p type k case.decl case.at payloads) h.atoms_fit in
      let slots = slots_at a p f here v s in
      ruled_both a l codes.stmts (c.set (slot_of p f v) (g.whole k) ∷ build_slots 1 (case_positions p (variant_type f v) k) atoms (after_first (var_slots p f v))) h.stmts_ruled (
        set_ruled a l result.Number (slot_of p f v) (g.whole k) (case_slot a p f here v s) (refl, small_numeral k (here.cases type k case.decl case.at)),
        subst (λ u. AllRuled a l (build_slots 1 (case_positions p u k) atoms (after_first (var_slots p f v)))) (sym (type_at a p f v s))
            (subst (λ ss. AllRuled a l (build_slots 1 js atoms (after_first (sorted_slots ss (slot_vars p f v))))) (sym (ap (sorts_of p) s.is ∙ s.var.sorts))
            (later (slot_vars p f v) (after_first (variant_sorts p type)) js atoms placed slots)),
      )
    where
      one : (m : ℕ) → 1 + m ≡ suc m
      one m = omega arith

      later : (vs : List CVar) (ss : List Sort) (js : List ℕ) (xs : List Atom) → Placed a (of_number ∷ ss) js xs → VarsFit a (of_number ∷ ss) vs → AllRuled a l (build_slots 1 js xs (after_first (sorted_slots (of_number ∷ ss) vs)))
      later [] ss js xs h k = absurd k
      later (v ∷ vs) ss js xs h k = builds_ruled a l (of_number ∷ ss) 1 js xs ss vs h k.1 (λ m s at. ap (slice_get (of_number ∷ ss)) (one m) ∙ at)

  payloads_fit : (v k : ℕ) (os : List Operand) (s : VariantAt a p f v) (case : CaseThere p s.var.type k (length os)) → operands_broken p f ids (kinded.payload_types p (kinded.variant_args (var_type f v)) k) os ≡ [] →
      OperandsFit p f ids (map (with_keys s.var.args) case.decl.payload) os
  payloads_fit v k os s case e =
      fit_all p f ids (map (with_keys s.var.args) case.decl.payload) os (subst (λ tys. operands_broken p f ids tys os ≡ []) (case_types a p f v s k (length os) case) e)
      (case.count ∙ sym (length-map case.decl.payload (with_keys s.var.args)))

  build_kinded : (t : Numbers) (v k : ℕ) (os : List Operand) → is_proper_simple (core.build v k os) ≡ true → simple_broken p f ids (core.build v k os) ≡ [] →
      AreUpTo (simple_code p f t (core.build v k os)).most a.most → AllRuled a l (simple_code p f t (core.build v k os)).stmts
  build_kinded t v k os proper broken m =
      let b3 = both_empty (kinded.wanted_of (var_type f v) kinded.is_variant_type ++ kinded.case_broken p k (length os) (kinded.variant_args (var_type f v)) ++ operands_broken p f ids (kinded.payload_types p (kinded.variant_args (var_type f v)) k) os) (target_broken f ids v) broken in
      let b2 = both_empty (kinded.wanted_of (var_type f v) kinded.is_variant_type ++ kinded.case_broken p k (length os) (kinded.variant_args (var_type f v))) (operands_broken p f ids (kinded.payload_types p (kinded.variant_args (var_type f v)) k) os) b3.left in
      let b1 = both_empty (kinded.wanted_of (var_type f v) kinded.is_variant_type) (kinded.case_broken p k (length os) (kinded.variant_args (var_type f v))) b2.left in
      let d = target_declared f ids v b3.right in
      let s = variant_at a p f here v d.ty d.is (wanted_is f v kinded.is_variant_type d.ty d.is b1.left) in
      let case = case_of a p f v s k (length os) b1.right in
      built t v k os s case proper (payloads_fit v k os s case b2.right) m

  pub simple_kinded : (t : Numbers) (s : Simple) → is_proper_simple s ≡ true → simple_broken p f ids s ≡ [] → AreUpTo (simple_code p f t s).most a.most →
      AllRuled a l (simple_code p f t s).stmts
  simple_kinded t (core.set v e) proper broken m = set_kinded a p f here ids l t v e proper broken m
  simple_kinded t (core.input v more) proper broken m = input_kinded a p f here ids l t v more broken
  simple_kinded t (core.print e) proper broken m = print_kinded a p f here ids l t e proper broken m
  simple_kinded t (core.put x i e) proper broken m = put_kinded a p f here ids l t x i e proper broken m
  simple_kinded t (core.make x os) proper broken m = make_kinded a p f here ids l t x os proper broken m
  simple_kinded t (core.become x state) proper broken m = tt
  simple_kinded t (core.release x) proper broken m = release_kinded a p f here ids l t x broken
  simple_kinded t (core.drop v) proper broken m = drop_kinded a p f here ids l t v broken
  simple_kinded t (core.own v o) proper broken m = own_kinded a p f here ids l t v o proper broken m
  simple_kinded t (core.unpack x v) proper broken m = unpack_kinded a p f here ids l t x v broken
  simple_kinded t (core.build v k os) proper broken m = build_kinded t v k os proper broken m
  simple_kinded t (core.swap x i v) proper broken m = swap_kinded t x i v broken m
  simple_kinded t (core.open_into x vs) proper broken m = open_kinded t x vs broken
  simple_kinded t (core.adopt y x r) proper broken m = adopt_kinded a p f here ids l t y x r broken
