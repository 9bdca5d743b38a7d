-- The code of operands breaks no rule of C, and the atoms of each have the types of the slots of what is wanted.
use Rattle.std.proofs.Common.{◌≡◌, ℕ, Bool, true, false, ◌&&◌, if◌then◌else◌, List, [], ◌∷◌, Option, Some, subst}
use Rattle.vlt_core.specs.Core as core
use Rattle.vlt_core.specs.Core.{Ty, Operand, Func, Program, pure, move, pack}
use Rattle.vlt_core.specs.Lookups.{is_owning, var_type}
use Rattle.vlt_core.specs.Types.{decl_of, same_ty}
use Rattle.vlt_core.specs.Proper.{is_proper, has_arities, has_literals}
use Rattle.vlt_core.specs.KindedHeads.{unless, when_some, states_broken}
use Rattle.vlt_core.specs.KindedScopes.{Ids, use_broken}
use Rattle.vlt_core.specs.KindedOperands.{misfit, type_of_expr, expr_broken, operand_broken, move_broken, pack_broken, fits_owning, is_owning_some}
use Rattle.vlt_core.specs.declared.rules.TheConstants as rule
use Rattle.vlt_core_laws.proofs.Unbroken.{unless_holds, filled_not_empty}
use Rattle.c_syntax.specs.C.{Stmt}
use Rattle.c_lower.specs.Slots.{of_reference, of_owner, slot_sorts, Numbers, slot_vars}
use Rattle.c_lower.specs.Expressions.{Atom, Code, operand_code, operand_codes}
use Rattle.c_lower_worlds.specs.Operators.Codes.{AreUpTo}
use Rattle.c_lower_worlds.proofs.OfOperators.Codes.{up_self, more_more}
use Rattle.c_lower_worlds.proofs.OfOperators.Guards.{and_left, and_right}
use Rattle.c_lower_worlds.specs.Naming.KindedParts.{is_proper_operand, are_proper_operands}
use Rattle.c_lower_worlds.proofs.OfNaming.RuleFacts.{both_empty}
use Rattle.c_lower_worlds.proofs.OfNaming.DeclaredVariables.{used_declared}
use Rattle.c_lower_worlds.proofs.OfNaming.CallOperands.{OperandsFit}
use Rattle.c_lower_worlds.proofs.OperandLists.{operand_up}
use Rattle.c_lower_worlds.proofs.SameLayouts.{same_laid, fits_laid}
use Rattle.c_lower_runs.proofs.OfTexts.Ruled.{Place, AllRuled}
use Rattle.c_lower_runs.proofs.OfTexts.SlotTypes.{AtomsFit, typed_slots_fit, var_atoms}
use Rattle.c_lower_runs.proofs.OfTexts.ExpressionKinds.{Here, ruled_both, expr_kinded}

-- code with the atoms of a value of the type
pub record IsValueCode (a : Place) (l : Bool) (p : Program) (ty : Ty) (x : Code) : Type 0 where
  pub stmts : AllRuled a l x.stmts
  pub atoms : AtomsFit a (slot_sorts p ty) x.atoms

-- atoms for each type
abbrev pub AllAtoms : Place → Program → List Ty → List (List Atom) → Type 0
AllAtoms a p [] [] = Unit {0}
AllAtoms a p (t ∷ tys) (xs ∷ atoms) = AtomsFit a (slot_sorts p t) xs × AllAtoms a p tys atoms
AllAtoms a p _ _ = ⊥

pub no_owner : (r : ℕ) (w : Ty) (o : Option Ty) → (if is_owning w then r ∷ [] else misfit (Some w) o) ≡ [] → misfit (Some w) o ≡ []
no_owner r w o e = by (is_owning w) e
  where
    by : (b : Bool) → (if b then r ∷ [] else misfit (Some w) o) ≡ [] → misfit (Some w) o ≡ []
    by true e = absurd (filled_not_empty r [] e)
    by false e = e

-- an owner's slot takes a reference
as_owner : (a : Place) (xs : List Atom) → AtomsFit a (of_reference ∷ []) xs → AtomsFit a (of_owner ∷ []) xs
as_owner a [] h = absurd h
as_owner a (x ∷ []) h = h
as_owner a (x ∷ y ∷ xs) h = absurd h.1

pub proper_literals : (e : core.Expr) → is_proper e ≡ true → has_literals e ≡ true
proper_literals e h = and_right (has_arities e) (has_literals e) h

module _ (a : Place) (p : Program) (f : Func) (here : Here a p f) (ids : Ids) (l : Bool) where
  pub operand_kinded : (t : Numbers) (w : Ty) (o : Operand) → is_proper_operand o ≡ true → operand_broken p f ids (Some w) o ≡ [] → AreUpTo (operand_code p f t o).next a.most → IsValueCode a l p w (operand_code p f t o)
  operand_kinded t w (pure e) proper broken m =
      let both = both_empty (expr_broken p f ids e) (if is_owning_some (Some w) then rule.WRONG_TYPE ∷ [] else misfit (Some w) (type_of_expr p f e)) broken in
      let h = expr_kinded a p f here ids l t e (proper_literals e proper) both.left m in
      let same = unless_holds (same_ty w h.ty) rule.WRONG_TYPE (subst (λ o. misfit (Some w) o ≡ []) h.is (no_owner rule.WRONG_TYPE w (type_of_expr p f e) both.right)) in
      record { stmts = h.stmts; atoms = subst (λ ss. AtomsFit a ss (operand_code p f t (pure e)).atoms) (same_laid p w h.ty same).sorts h.atoms }
  operand_kinded t w (move v) proper broken m =
      let both = both_empty (use_broken f ids v) (move_broken (Some w) (var_type f v)) broken in
      let d = used_declared f ids v both.left in
      let fits = unless_holds (is_owning d.ty && fits_owning w d.ty) rule.WRONG_TYPE (subst (λ o. move_broken (Some w) o ≡ []) d.is both.right) in
      record {
        stmts = tt;
        atoms = subst (λ ss. AtomsFit a ss (operand_code p f t (move v)).atoms) (fits_laid p w d.ty (and_right (is_owning d.ty) (fits_owning w d.ty) fits)).sorts
            (var_atoms a (slot_sorts p d.ty) (slot_vars p f v) (typed_slots_fit a p f v d.ty here.up d.is));
      }
  operand_kinded t w (pack x states) proper broken m =
      let both = both_empty (use_broken f ids x) (pack_broken p (Some w) (var_type f x) states) broken in
      let d = used_declared f ids x both.left in
      record { stmts = tt; atoms = by d.ty d.is (subst (λ o. pack_broken p (Some w) o states ≡ []) d.is both.right) }
    where
      by : (ty : Ty) → var_type f x ≡ Some ty → pack_broken p (Some w) (Some ty) states ≡ [] → AtomsFit a (slot_sorts p w) (operand_code p f t (pack x states)).atoms
      by (core.tracked k u args) is e =
          let b = both_empty (when_some (decl_of p u) (λ d. states_broken p u states)) (unless (fits_owning w (core.owning states u args) && is_owning w) rule.WRONG_TYPE) e in
          let fits = and_left (fits_owning w (core.owning states u args)) (is_owning w) (unless_holds (fits_owning w (core.owning states u args) && is_owning w) rule.WRONG_TYPE b.right) in
          subst (λ ss. AtomsFit a ss (operand_code p f t (pack x states)).atoms) (fits_laid p w (core.owning states u args) fits).sorts
          (as_owner a (operand_code p f t (pack x states)).atoms (var_atoms a (of_reference ∷ []) (slot_vars p f x) (typed_slots_fit a p f x (core.tracked k u args) here.up is)))
      by core.int is e = absurd (filled_not_empty rule.WRONG_TYPE [] e)
      by core.bool is e = absurd (filled_not_empty rule.WRONG_TYPE [] e)
      by (core.owning s u args) is e = absurd (filled_not_empty rule.WRONG_TYPE [] e)
      by (core.guarded k u args) is e = absurd (filled_not_empty rule.WRONG_TYPE [] e)
      by (core.variant u args) is e = absurd (filled_not_empty rule.WRONG_TYPE [] e)
      by (core.owning_variant u args) is e = absurd (filled_not_empty rule.WRONG_TYPE [] e)

  pub record AreValueCodes (tys : List Ty) (stmts : List Stmt) (atoms : List (List Atom)) : Type 0 where
    pub stmts_ruled : AllRuled a l stmts
    pub atoms_fit : AllAtoms a p tys atoms

  pub operands_up : (t : Numbers) (os : List Operand) → AreUpTo t (operand_codes p f t os).next
  operands_up t [] = up_self t
  operands_up t (o ∷ os) = more_more (operand_up p f o t) (operands_up (operand_code p f t o).next os)

  pub operands_kinded : (t : Numbers) (tys : List Ty) (os : List Operand) → are_proper_operands os ≡ true → OperandsFit p f ids tys os → AreUpTo (operand_codes p f t os).next a.most →
      AreValueCodes tys (operand_codes p f t os).stmts (operand_codes p f t os).atoms
  operands_kinded t [] [] proper fit m = record { stmts_ruled = tt; atoms_fit = tt }
  operands_kinded t [] (o ∷ os) proper fit m = absurd fit
  operands_kinded t (w ∷ tys) [] proper fit m = absurd fit
  operands_kinded t (w ∷ tys) (o ∷ os) proper fit m =
      let first = operand_code p f t o in
      let rest = operand_codes p f first.next os in
      let h = operand_kinded t w o (and_left (is_proper_operand o) (are_proper_operands os) proper) fit.0 (more_more (operands_up first.next os) m) in
      let k = operands_kinded first.next tys os (and_right (is_proper_operand o) (are_proper_operands os) proper) fit.1 m in
      record { stmts_ruled = ruled_both a l first.stmts rest.stmts h.stmts k.stmts_ruled; atoms_fit = (h.atoms, k.atoms_fit) }
