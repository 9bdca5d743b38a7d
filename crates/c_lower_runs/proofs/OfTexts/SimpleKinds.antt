-- The code of statements without blocks breaks no rule of C.
use Rattle.std.proofs.Common.{◌≡◌, ℕ, suc, ◌+◌, ◌==◌, Bool, true, false, if◌then◌else◌, List, [], ◌∷◌, ◌++◌, map, length, Option, Some, None, slice_get, refl, sym, ap, ◌∙◌, subst, arith}
use Rattle.std.proofs.lemmas.Bool.{false≢true, eqb-true}
use Rattle.std.proofs.lemmas.List.{length-map}
use Rattle.vlt_core.specs.Core as core
use Rattle.vlt_core.specs.Core.{Ty, Operand, FieldDecl, TypeDecl, Func, Program}
use Rattle.vlt_core.specs.Lookups.{is_owning, is_owning_var, owns, fields_of, var_type}
use Rattle.vlt_core.specs.Types.{decl_of, is_struct, same_ty, with_keys}
use Rattle.vlt_core.specs.Proper.{is_proper}
use Rattle.vlt_core.specs.KindedHeads.{unless, when_some}
use Rattle.vlt_core.specs.KindedScopes.{Ids, use_broken, binding_broken, target_broken, own_key}
use Rattle.vlt_core.specs.KindedOperands.{misfit, type_of_expr, field_type, unless_owning, touch_broken, not_owning_broken, expr_broken, value_broken, operand_broken, operands_broken}
use Rattle.vlt_core.specs.KindedStatements as kinded
use Rattle.vlt_core.specs.KindedStatements.{simple_broken}
use Rattle.vlt_core.specs.declared.rules.TheConstants as rule
use Rattle.vlt_core_laws.proofs.Unbroken.{unless_holds, filled_not_empty}
use Rattle.c_syntax.specs.declared.program.CResult.TheVariants as result
use Rattle.c_syntax.specs.declared.program.CVar.{CVar}
use Rattle.c_syntax.specs.declared.program.CPrim.TheVariants as prim
use Rattle.c_syntax.specs.C as c
use Rattle.c_lower.specs.Slots.{of_number, slot_sorts, sorts_of, Numbers, slot_vars, slot_of, sorted_slots, var_slots, cell_counts, field_cells, sorts_of_field, sorts_at, object_type_of, touched_cells, cell_sorts}
use Rattle.c_lower.specs.Expressions.{Atom, atom_expr, atom_arg, first_atom, copies, expr_code, operand_code, operand_codes}
use Rattle.c_lower.specs.Statements.{runtime_call, runtime_value, count_arg, puts, field_puts, owner_atoms_in, owner_atoms, make_code, owner_slots, simple_code}
use Rattle.c_lower_worlds.specs.Operators.Codes.{AreUpTo}
use Rattle.c_lower_worlds.specs.Naming.Lists.{Each}
use Rattle.c_lower_worlds.specs.Naming.KindedParts.{is_proper_simple}
use Rattle.c_lower_worlds.proofs.OfNaming.RuleFacts.{both_empty}
use Rattle.c_lower_worlds.proofs.OfNaming.DeclaredVariables.{used_declared, bound_declared, target_declared}
use Rattle.c_lower_worlds.proofs.SameLayouts.{same_laid, keys_laid}
use Rattle.c_lower_runs.proofs.OfForms.Build.{fit_all}
use Rattle.c_lower_runs.proofs.OfTexts.Ruled.{Place, IsVar, IsTyped, AllRuled}
use Rattle.c_lower_runs.proofs.OfTexts.SlotTypes.{AtomsFit, typed_slots_fit, first_typed, atom_suits, set_ruled, copies_ruled, puts_ruled, field_cells_fit}
use Rattle.c_lower_runs.proofs.OfTexts.ExpressionKinds.{Here, field_cells_of, ruled_both, small_numeral, expr_kinded, not_owning}
use Rattle.c_lower_runs.proofs.OfTexts.OperandKinds.{AllAtoms, proper_literals, operand_kinded, operands_kinded}
use Rattle.c_lower_runs.proofs.OfTexts.StatementParts.{TrackedVar, tracked_var, tracked_pointer, guarded_pointer, owning_pointer, pointer_slot, wanted_is, wanted_pointer, basic_slot, else_empty, then_empty, mapped_ruled, owner_slots_are, owner_atoms_are, on_one, own_ruled}
use Rattle.std.specs.Prelude.{is_some}
use Rattle.c_lower_runs.proofs.OfTexts.Lists.{each_both}

module _ (a : Place) (p : Program) (f : Func) (here : Here a p f) (ids : Ids) (l : Bool) where
  -- ---- values into variables

  pub set_kinded : (t : Numbers) (v : ℕ) (e : core.Expr) → is_proper e ≡ true → simple_broken p f ids (core.set v e) ≡ [] → AreUpTo (simple_code p f t (core.set v e)).most a.most → AllRuled a l (simple_code p f t (core.set v e)).stmts
  set_kinded t v e proper broken m =
      let b2 = both_empty (expr_broken p f ids e ++ kinded.set_broken p f (var_type f v) e) (target_broken f ids v) broken in
      let b1 = both_empty (expr_broken p f ids e) (kinded.set_broken p f (var_type f v) e) b2.left in
      let d = target_declared f ids v b2.right in
      let h = expr_kinded a p f here ids l t e (proper_literals e proper) b1.left m in
      let set : kinded.set_broken p f (Some d.ty) e ≡ [] = subst (λ o. kinded.set_broken p f o e ≡ []) d.is b1.right in
      let fit = (both_empty _ (misfit (Some d.ty) (type_of_expr p f e)) (else_empty (is_owning d.ty) rule.WRONG_TYPE _ set)).right in
      let same = unless_holds (same_ty d.ty h.ty) rule.WRONG_TYPE (subst (λ o. misfit (Some d.ty) o ≡ []) h.is fit) in
      ruled_both a l (expr_code p f t e).stmts (copies (slot_vars p f v) (expr_code p f t e).atoms) h.stmts
      (copies_ruled a l (slot_sorts p d.ty) (slot_vars p f v) (expr_code p f t e).atoms (typed_slots_fit a p f v d.ty here.up d.is)
      (subst (λ ss. AtomsFit a ss (expr_code p f t e).atoms) (same_laid p d.ty h.ty same).sorts h.atoms))

  pub input_kinded : (t : Numbers) (v : ℕ) (more : Bool) → simple_broken p f ids (core.input v more) ≡ [] → AllRuled a l (simple_code p f t (core.input v more)).stmts
  input_kinded t v true broken =
      let b = both_empty (misfit (Some core.bool) (var_type f v)) (target_broken f ids v) broken in
      let d = target_declared f ids v b.right in
      let slot = basic_slot a p f v d.ty core.bool here.up d.is refl (unless_holds (same_ty core.bool d.ty) rule.WRONG_TYPE (subst (λ o. misfit (Some core.bool) o ≡ []) d.is b.left)) in
      ((slot.known, tt, sym slot.type), tt)
  input_kinded t v false broken =
      let b = both_empty (misfit (Some core.int) (var_type f v)) (target_broken f ids v) broken in
      let d = target_declared f ids v b.right in
      let slot = basic_slot a p f v d.ty core.int here.up d.is refl (unless_holds (same_ty core.int d.ty) rule.WRONG_TYPE (subst (λ o. misfit (Some core.int) o ≡ []) d.is b.left)) in
      ((slot.known, tt, sym slot.type), tt)

  -- the value of an expression of a type with one slot for a number
  pub number_kinded : (t : Numbers) (w : Ty) (e : core.Expr) → slot_sorts p w ≡ of_number ∷ [] → is_proper e ≡ true → value_broken p f ids (Some w) e ≡ [] → AreUpTo (expr_code p f t e).next a.most →
      AllRuled a l (expr_code p f t e).stmts × IsTyped a result.Number (atom_expr (first_atom (expr_code p f t e).atoms))
  number_kinded t w e one proper broken m =
      let b = both_empty (expr_broken p f ids e) (misfit (Some w) (type_of_expr p f e)) broken in
      let h = expr_kinded a p f here ids l t e (proper_literals e proper) b.left m in
      let same = unless_holds (same_ty w h.ty) rule.WRONG_TYPE (subst (λ o. misfit (Some w) o ≡ []) h.is b.right) in
      (h.stmts, first_typed a of_number [] (expr_code p f t e).atoms (subst (λ ss. AtomsFit a ss (expr_code p f t e).atoms) ((same_laid p w h.ty same).sorts ∙ one) h.atoms))

  pub print_kinded : (t : Numbers) (e : core.Expr) → is_proper e ≡ true → simple_broken p f ids (core.print e) ≡ [] → AreUpTo (simple_code p f t (core.print e)).most a.most → AllRuled a l (simple_code p f t (core.print e)).stmts
  print_kinded t e proper broken m =
      let h = number_kinded t core.int e refl proper broken m in
      ruled_both a l (expr_code p f t e).stmts (runtime_call prim.Print (atom_arg (first_atom (expr_code p f t e).atoms) ∷ []) ∷ []) h.0
      ((atom_suits a result.Number (first_atom (expr_code p f t e).atoms) h.1, tt), tt)

  pub put_kinded : (t : Numbers) (x i : ℕ) (e : core.Expr) → is_proper e ≡ true → simple_broken p f ids (core.put x i e) ≡ [] → AreUpTo (simple_code p f t (core.put x i e)).most a.most → AllRuled a l (simple_code p f t (core.put x i e)).stmts
  put_kinded t x i e proper broken m =
      let b3 = both_empty (expr_broken p f ids e ++ touch_broken p f ids x i ++ not_owning_broken rule.WRONG_SWAP (field_type p f x i)) (misfit (unless_owning (field_type p f x i)) (type_of_expr p f e)) broken in
      let b2 = both_empty (expr_broken p f ids e ++ touch_broken p f ids x i) (not_owning_broken rule.WRONG_SWAP (field_type p f x i)) b3.left in
      let b1 = both_empty (expr_broken p f ids e) (touch_broken p f ids x i) b2.left in
      let h = expr_kinded a p f here ids l t e (proper_literals e proper) b1.left m in
      let cells = field_cells_of a p f here ids x i b1.right in
      let plain = ap unless_owning cells.is ∙ not_owning rule.WRONG_SWAP cells.ty (subst (λ o. not_owning_broken rule.WRONG_SWAP o ≡ []) cells.is b2.right) in
      let same = unless_holds (same_ty cells.ty h.ty) rule.WRONG_TYPE (subst (λ o. misfit (Some cells.ty) o ≡ []) h.is (subst (λ o. misfit o (type_of_expr p f e) ≡ []) plain b3.right)) in
      ruled_both a l (expr_code p f t e).stmts (puts (touched_cells p f x i) (expr_code p f t e).atoms) h.stmts
      (puts_ruled a l (cell_sorts p f x i) (touched_cells p f x i) (expr_code p f t e).atoms cells.cells
      (subst (λ ss. AtomsFit a ss (expr_code p f t e).atoms) ((same_laid p cells.ty h.ty same).sorts ∙ sym cells.sorts) h.atoms))

  pub own_kinded : (t : Numbers) (v : ℕ) (o : Operand) → is_proper_simple (core.own v o) ≡ true → simple_broken p f ids (core.own v o) ≡ [] → AreUpTo (simple_code p f t (core.own v o)).most a.most → AllRuled a l (simple_code p f t (core.own v o)).stmts
  own_kinded t v o proper broken m =
      let b2 = both_empty (kinded.wanted_of (var_type f v) is_owning ++ operand_broken p f ids (if is_owning_var f v then var_type f v else None) o) (target_broken f ids v) broken in
      let b1 = both_empty (kinded.wanted_of (var_type f v) is_owning) (operand_broken p f ids (if is_owning_var f v then var_type f v else None) o) b2.left in
      let d = target_declared f ids v b2.right in
      let owning = wanted_is f v is_owning d.ty d.is b1.left in
      let place : (if is_owning_var f v then var_type f v else None) ≡ Some d.ty = ap (λ o. if owns o then o else None) d.is ∙ ap (λ b. if b then Some d.ty else None) owning in
      let h = operand_kinded a p f here ids l t d.ty o proper (subst (λ w. operand_broken p f ids w o ≡ []) place b1.right) m in
      ruled_both a l (operand_code p f t o).stmts (copies (slot_vars p f v) (operand_code p f t o).atoms) h.stmts
      (copies_ruled a l (slot_sorts p d.ty) (slot_vars p f v) (operand_code p f t o).atoms (typed_slots_fit a p f v d.ty here.up d.is) h.atoms)

  -- ---- objects

  tracked_slot : (x : ℕ) → TrackedVar f x → IsVar a result.Reference (slot_of p f x)
  tracked_slot x h = pointer_slot a p f x (core.tracked h.key h.type h.args) here.up h.is refl

  pub release_kinded : (t : Numbers) (x : ℕ) → simple_broken p f ids (core.release x) ≡ [] → AllRuled a l (simple_code p f t (core.release x)).stmts
  release_kinded t x broken =
      let b = both_empty (kinded.tracked_broken f ids rule.WRONG_RELEASE x) (kinded.droppable_broken p f x) broken in
      (on_one a l (slot_of p f x) (tracked_slot x (tracked_var f ids rule.WRONG_RELEASE x b.left)), tt)

  pub drop_kinded : (t : Numbers) (v : ℕ) → simple_broken p f ids (core.drop v) ≡ [] → AllRuled a l (simple_code p f t (core.drop v)).stmts
  drop_kinded t v broken =
      let d = used_declared f ids v (both_empty (use_broken f ids v) _ broken).left in
      mapped_ruled a l (IsVar a result.Reference) (λ s. runtime_call prim.Release (c.variable s ∷ [])) (owner_slots (var_slots p f v))
      (subst (λ ss. Each (IsVar a result.Reference) (owner_slots (sorted_slots ss (slot_vars p f v)))) (sym (ap (sorts_of p) d.is)) (owner_slots_are a (slot_sorts p d.ty) (slot_vars p f v) (typed_slots_fit a p f v d.ty here.up d.is)))
      (λ s h. on_one a l s h)

  pub unpack_kinded : (t : Numbers) (x v : ℕ) → simple_broken p f ids (core.unpack x v) ≡ [] → AllRuled a l (simple_code p f t (core.unpack x v)).stmts
  unpack_kinded t x v broken =
      let b4 = both_empty _ (binding_broken f ids (own_key f x) x) broken in
      let b3 = both_empty _ (kinded.objects_apart (kinded.owning_object (var_type f v)) (kinded.tracked_type (var_type f x))) b4.left in
      let b2 = both_empty _ (kinded.wanted_of (var_type f x) kinded.is_tracked_type) b3.left in
      let b1 = both_empty (use_broken f ids v) (kinded.wanted_of (var_type f v) kinded.is_owning_object) b2.left in
      let dv = used_declared f ids v b1.left in
      let dx = bound_declared f ids (own_key f x) x b4.right in (
        set_ruled a l result.Reference (slot_of p f x) (c.variable (slot_of p f v))
            (wanted_pointer a p f x kinded.is_tracked_type dx.ty tracked_pointer here.up dx.is b2.right)
            (wanted_pointer a p f v kinded.is_owning_object dv.ty owning_pointer here.up dv.is b1.right),
        tt,
      )

  pub adopt_kinded : (t : Numbers) (y x r : ℕ) → simple_broken p f ids (core.adopt y x r) ≡ [] → AllRuled a l (simple_code p f t (core.adopt y x r)).stmts
  adopt_kinded t y x r broken =
      let b6 = both_empty _ (target_broken f ids y) broken in
      let b5 = both_empty _ (kinded.keys_differ (kinded.guard_key (var_type f y)) (own_key f r)) b6.left in
      let b4 = both_empty _ (kinded.objects_apart (kinded.guarded_object (var_type f y)) (kinded.tracked_type (var_type f x))) b5.left in
      let b3 = both_empty _ (kinded.wanted_of (var_type f y) kinded.is_guarded_type) b4.left in
      let b2 = both_empty _ (kinded.droppable_broken p f x) b3.left in
      let b1 = both_empty (kinded.tracked_broken f ids rule.WRONG_TYPE x) (kinded.tracked_broken f ids rule.WRONG_TYPE r) b2.left in
      let dy = target_declared f ids y b6.right in
      let xs = tracked_slot x (tracked_var f ids rule.WRONG_TYPE x b1.left) in
      let rs = tracked_slot r (tracked_var f ids rule.WRONG_TYPE r b1.right) in
      let ys = wanted_pointer a p f y kinded.is_guarded_type dy.ty guarded_pointer here.up dy.is b3.right in
      (own_ruled a l (slot_of p f x) (slot_of p f r) xs rs, (set_ruled a l result.Reference (slot_of p f y) (c.variable (slot_of p f x)) ys xs, tt))

  -- ---- new objects

  fields_put : (block : CVar) (type : ℕ) (args : List ℕ) → IsVar a result.Reference block → (ds : List FieldDecl) (i : ℕ) (atoms : List (List Atom)) →
      ((m : ℕ) (d : FieldDecl) → slice_get ds m ≡ Some d → slice_get (fields_of p type) (i + m) ≡ Some d) → AllAtoms a p (map (λ d. with_keys args d.ty) ds) atoms →
      AllRuled a l (field_puts p type block.number i atoms) × Each (λ x. IsTyped a result.Reference (atom_expr x)) (owner_atoms p type i atoms)
  fields_put block type args b [] i [] at h = (tt, tt)
  fields_put block type args b [] i (xs ∷ atoms) at h = absurd h
  fields_put block type args b (d ∷ ds) i [] at h = absurd h
  fields_put block type args b (d ∷ ds) i (xs ∷ atoms) at h =
      let sorts : sorts_at p type i ≡ slot_sorts p (with_keys args d.ty) = ap (sorts_of_field p) (ap (slice_get (fields_of p type)) (none i) ∙ at 0 d refl) ∙ (keys_laid p args d.ty).sorts in
      let first = subst (λ ss. AtomsFit a ss xs) (sym sorts) h.0 in
      let rest = fields_put block type args b ds (suc i) atoms (λ m e is. ap (slice_get (fields_of p type)) (more i m) ∙ at (suc m) e is) h.1 in (
        ruled_both a l (puts (field_cells p type i block.number) xs) (field_puts p type block.number (suc i) atoms)
            (puts_ruled a l (sorts_at p type i) (field_cells p type i block.number) xs (field_cells_fit a p block type i here.few b) first) rest.0,
        each_both (λ x. IsTyped a result.Reference (atom_expr x)) (owner_atoms_in (sorts_at p type i) xs) (owner_atoms p type (suc i) atoms) (owner_atoms_are a (sorts_at p type i) xs first) rest.1,
      )
    where
      none : (i : ℕ) → i ≡ i + 0
      none i = omega arith

      more : (i m : ℕ) → suc i + m ≡ i + suc m
      more i m = omega arith

  made_count : (x : ℕ) (n : ℕ) (key type : ℕ) (args : List ℕ) → var_type f x ≡ Some (core.tracked key type args) → kinded.made_broken p n (Some (core.tracked key type args)) ≡ [] → n ≡ length (fields_of p type)
  made_count x n key type args is e = by (decl_of p type) refl (here.types.objects f here.is x (core.tracked key type args) is)
    where
      by : (o : Option TypeDecl) → decl_of p type ≡ o → is_some (decl_of p type) ≡ true → n ≡ length (fields_of p type)
      by None at there = absurd (false≢true (sym (ap is_some at) ∙ there))
      by (Some td) at there =
          let h : (if is_struct (Some td) then unless (n == length (fields_of p type)) rule.WRONG_COUNT else rule.WRONG_NEW ∷ []) ≡ [] = subst (λ o. when_some o (λ d. if is_struct (Some d) then unless (n == length (fields_of p type)) rule.WRONG_COUNT else rule.WRONG_NEW ∷ []) ≡ []) at e in
          eqb-true n (length (fields_of p type)) (unless_holds (n == length (fields_of p type)) rule.WRONG_COUNT (then_empty (is_struct (Some td)) rule.WRONG_NEW _ h).1)

  pub make_kinded : (t : Numbers) (x : ℕ) (os : List Operand) → is_proper_simple (core.make x os) ≡ true → simple_broken p f ids (core.make x os) ≡ [] → AreUpTo (make_code p f t x os).most a.most → AllRuled a l (make_code p f t x os).stmts
  make_kinded t x os proper broken m =
      let b2 = both_empty (kinded.made_broken p (length os) (var_type f x) ++ operands_broken p f ids (kinded.made_types p (var_type f x)) os) (binding_broken f ids (own_key f x) x) broken in
      let b1 = both_empty (kinded.made_broken p (length os) (var_type f x)) (operands_broken p f ids (kinded.made_types p (var_type f x)) os) b2.left in
      let d = bound_declared f ids (own_key f x) x b2.right in
      by d.ty d.is (subst (λ o. kinded.made_broken p (length os) o ≡ []) d.is b1.left) (subst (λ o. operands_broken p f ids (kinded.made_types p o) os ≡ []) d.is b1.right)
    where
      of_type : (key type : ℕ) (args : List ℕ) → var_type f x ≡ Some (core.tracked key type args) → kinded.made_broken p (length os) (Some (core.tracked key type args)) ≡ [] → operands_broken p f ids (kinded.field_types p type args) os ≡ [] → AllRuled a l (make_code p f t x os).stmts
      of_type key type args is made ops =
          let block = slot_of p f x in
          let known = pointer_slot a p f x (core.tracked key type args) here.up is refl in
          let tys = kinded.field_types p type args in
          let count : length os ≡ length tys = made_count x (length os) key type args is made ∙ sym (length-map (fields_of p type) (λ (d : FieldDecl). with_keys args d.ty)) in
          let h = operands_kinded a p f here ids l t tys os proper (fit_all p f ids tys os ops count) m in
          let codes = operand_codes p f t os in
          let puts_in = fields_put block type args known (fields_of p type) 0 codes.atoms (λ m d at. ap (slice_get (fields_of p type)) (none m) ∙ at) h.atoms_fit in
          subst (λ type. AllRuled a l (codes.stmts ++ runtime_value block prim.New (count_arg (cell_counts p type).n ∷ count_arg (cell_counts p type).p ∷ []) ∷ field_puts p type block.number 0 codes.atoms
          ++ map (λ a. runtime_call prim.Own (atom_arg a ∷ c.variable block ∷ [])) (owner_atoms p type 0 codes.atoms))) (sym (ap object_type_of is))
          (ruled_both a l (codes.stmts ++ runtime_value block prim.New (count_arg (cell_counts p type).n ∷ count_arg (cell_counts p type).p ∷ []) ∷ field_puts p type block.number 0 codes.atoms)
          (map (λ a. runtime_call prim.Own (atom_arg a ∷ c.variable block ∷ [])) (owner_atoms p type 0 codes.atoms))
          (ruled_both a l codes.stmts (runtime_value block prim.New (count_arg (cell_counts p type).n ∷ count_arg (cell_counts p type).p ∷ []) ∷ field_puts p type block.number 0 codes.atoms) h.stmts_ruled
          ((known.known, (small_numeral (cell_counts p type).n (here.few.numbers type), (small_numeral (cell_counts p type).p (here.few.references type), tt)), sym known.type), puts_in.0))
          (mapped_ruled a l (λ x. IsTyped a result.Reference (atom_expr x)) (λ a. runtime_call prim.Own (atom_arg a ∷ c.variable block ∷ [])) (owner_atoms p type 0 codes.atoms) puts_in.1
          (λ x k. (atom_suits a result.Reference x k, (known, tt)))))
        where
          none : (m : ℕ) → 0 + m ≡ m
          none m = omega arith

      by : (ty : Ty) → var_type f x ≡ Some ty → kinded.made_broken p (length os) (Some ty) ≡ [] → operands_broken p f ids (kinded.made_types p (Some ty)) os ≡ [] → AllRuled a l (make_code p f t x os).stmts
      by (core.tracked k u args) is made ops = of_type k u args is made ops
      by core.int is made ops = absurd (filled_not_empty rule.WRONG_TYPE [] made)
      by core.bool is made ops = absurd (filled_not_empty rule.WRONG_TYPE [] made)
      by (core.owning s u args) is made ops = absurd (filled_not_empty rule.WRONG_TYPE [] made)
      by (core.guarded k u args) is made ops = absurd (filled_not_empty rule.WRONG_TYPE [] made)
      by (core.variant u args) is made ops = absurd (filled_not_empty rule.WRONG_TYPE [] made)
      by (core.owning_variant u args) is made ops = absurd (filled_not_empty rule.WRONG_TYPE [] made)
