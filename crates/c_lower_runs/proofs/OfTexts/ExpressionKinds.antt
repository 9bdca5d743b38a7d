-- The code of expressions and operands breaks no rule of C, and its atoms have the types of the value's slots.
use Rattle.std.proofs.Common.{◌≡◌, ◌≤◌, ℕ, ℤ, pos, negsuc, ◌^◌, ◌-◌, neg_ℤ, inl, inr, le_refl, not, Bool, true, false, if◌then◌else◌, int_le, List, [], ◌∷◌, ◌++◌, map, length, Some, None, slice_get, refl, sym, ap, ◌∙◌, subst, arith}
use Rattle.std.proofs.lemmas.Bool.{false≢true}
use Rattle.std.proofs.lemmas.Bool.Decides.{nat_tests}
use Rattle.std.proofs.lemmas.Option.{none-some, same_Some}
use Rattle.vlt_ops.specs.declared.Op.{Op}
use Rattle.vlt_ops.specs.declared.Op.TheVariants as op
use Rattle.vlt_ops.specs.declared.Takes.{Takes}
use Rattle.vlt_ops.specs.declared.Takes.TheVariants as takes
use Rattle.vlt_ops.specs.Operator.{row_of, is_in_range}
use Rattle.vlt_core.specs.Core as core
use Rattle.vlt_core.specs.Core.{Ty, Expr, CaseDecl, Func, Program, pure}
use Rattle.vlt_core.specs.Lookups.{is_owning, fields_of, case_at, var_type}
use Rattle.vlt_core.specs.Types.{same_ty, with_keys}
use Rattle.vlt_core.specs.Proper.{has_literals, is_literal}
use Rattle.vlt_core.specs.KindedScopes.{Ids, use_broken}
use Rattle.vlt_core.specs.KindedOperands.{misfit, object_in, field_decl, field_type_in, field_type, unless_owning, given_by, type_of_expr, is_basic, basic_only, left_broken, right_wanted, touch_broken, not_owning_broken, expr_broken}
use Rattle.vlt_core.specs.declared.rules.TheConstants as rule
use Rattle.vlt_core_laws.proofs.Unbroken.{unless_holds}
use Rattle.c_syntax.specs.declared.program.CResult.TheVariants as result
use Rattle.c_syntax.specs.declared.program.CVar.{CVar}
use Rattle.c_syntax.specs.View.{stmts_made}
use Rattle.c_syntax.specs.C as c
use Rattle.c_syntax.specs.C.{Stmt}
use Rattle.c_syntax.specs.Text.{max_number}
use Rattle.c_lower.specs.Slots.{of_number, slot_sorts, Numbers, past, var_at, vars_at, slot_vars, slot_of, first_temps, sorts_of_field, object_type, object_type_of, touched_cells, cell_sorts}
use Rattle.c_lower.specs.Guards as g
use Rattle.c_lower.specs.Expressions.{Atom, variable, atom_expr, first_atom, Code, value_of, into_temp, lazy_code, binary_code, expr_code}
use Rattle.c_lower_worlds.specs.Operators.Codes.{AreUpTo}
use Rattle.c_lower_worlds.proofs.OfOperators.Codes.{up_past, more_more}
use Rattle.c_lower_worlds.proofs.OfOperators.Guards.{and_left, and_right}
use Rattle.c_lower_worlds.specs.Naming.Functions.{IsFunction}
use Rattle.c_lower_worlds.specs.Naming.Types.{TypesFit}
use Rattle.c_lower_worlds.proofs.OfNaming.RuleFacts.{both_empty}
use Rattle.c_lower_worlds.proofs.OfNaming.DeclaredVariables.{used_declared}
use Rattle.c_lower_worlds.proofs.OfNaming.TouchedFields.{IsTouched, touch_field}
use Rattle.c_lower_worlds.proofs.OperandLists.{operand_up}
use Rattle.c_lower_worlds.proofs.SameLayouts.{keys_laid}
use Rattle.c_lower_runs.proofs.OfTexts.Ruled.{Place, IsNumeral, IsVar, IsTyped, IsRuled, AllRuled, made_ruled}
use Rattle.c_lower_runs.proofs.OfTexts.SlotTypes.{AtomsFit, CellsFit, temp_known, temps_fit, typed_slots_fit, slot_fits, var_atoms, first_typed, set_ruled, reads_ruled, FewCells, touched_cells_fit}
use Rattle.c_lower_runs.proofs.OfTexts.Lists.{each_both}

pub ruled_both : (a : Place) (l : Bool) (xs ys : List Stmt) → AllRuled a l xs → AllRuled a l ys → AllRuled a l (xs ++ ys)
ruled_both a l = each_both (IsRuled a l)

-- ---- numbers

pub small_numeral : (n : ℕ) → n ≤ max_number → IsNumeral (pos n)
small_numeral n h = record { number = n; is = refl; small = h }

literal_numeral : (z : ℤ) → is_literal z ≡ true → IsNumeral z
literal_numeral (pos n) h =
    let range = and_right (int_le (pos 0) (pos n)) (is_in_range (pos n)) h in
    let above = and_right (int_le (neg_ℤ (pos (2 ^ 63))) (pos n)) (int_le (pos n) (pos (2 ^ 63 - 1))) range in
    small_numeral n (grind (arith, nat_tests, above))
literal_numeral (negsuc n) h = absurd (false≢true (and_left (int_le (pos 0) (negsuc n)) (is_in_range (negsuc n)) h))

-- ---- types

int_basic : (ty : Ty) → same_ty core.int ty ≡ true → is_basic ty ≡ true
int_basic core.int e = refl
int_basic core.bool e = refl
int_basic _ e = absurd (false≢true e)

bool_basic : (ty : Ty) → same_ty core.bool ty ≡ true → is_basic ty ≡ true
bool_basic core.int e = refl
bool_basic core.bool e = refl
bool_basic _ e = absurd (false≢true e)

left_basic : (t : Takes) (ty : Ty) → left_broken t (Some ty) ≡ [] → is_basic ty ≡ true
left_basic takes.Int ty e = int_basic ty (unless_holds (same_ty core.int ty) rule.WRONG_TYPE e)
left_basic takes.Bool ty e = bool_basic ty (unless_holds (same_ty core.bool ty) rule.WRONG_TYPE e)
left_basic takes.Either ty e = unless_holds (is_basic ty) rule.WRONG_TYPE e

same_basic : (t u : Ty) → is_basic t ≡ true → misfit (basic_only (Some t)) (Some u) ≡ [] → is_basic u ≡ true
same_basic core.int u b e = int_basic u (unless_holds (same_ty core.int u) rule.WRONG_TYPE e)
same_basic core.bool u b e = bool_basic u (unless_holds (same_ty core.bool u) rule.WRONG_TYPE e)
same_basic (core.tracked k t args) u b e = absurd (false≢true b)
same_basic (core.owning s t args) u b e = absurd (false≢true b)
same_basic (core.guarded k t args) u b e = absurd (false≢true b)
same_basic (core.variant t args) u b e = absurd (false≢true b)
same_basic (core.owning_variant t args) u b e = absurd (false≢true b)

right_basic : (t : Takes) (left ty : Ty) → is_basic left ≡ true → misfit (right_wanted t (Some left)) (Some ty) ≡ [] → is_basic ty ≡ true
right_basic takes.Int left ty b e = int_basic ty (unless_holds (same_ty core.int ty) rule.WRONG_TYPE e)
right_basic takes.Bool left ty b e = bool_basic ty (unless_holds (same_ty core.bool ty) rule.WRONG_TYPE e)
right_basic takes.Either left ty b e = same_basic left ty b e

pub basic_value : (a : Place) (p : Program) (ty : Ty) (xs : List Atom) → is_basic ty ≡ true → AtomsFit a (slot_sorts p ty) xs → IsTyped a result.Number (atom_expr (first_atom xs))
basic_value a p core.int xs b h = first_typed a of_number [] xs h
basic_value a p core.bool xs b h = first_typed a of_number [] xs h
basic_value a p (core.tracked k t args) xs b h = absurd (false≢true b)
basic_value a p (core.owning s t args) xs b h = absurd (false≢true b)
basic_value a p (core.guarded k t args) xs b h = absurd (false≢true b)
basic_value a p (core.variant t args) xs b h = absurd (false≢true b)
basic_value a p (core.owning_variant t args) xs b h = absurd (false≢true b)

given_sorts : (p : Program) (o : Op) → slot_sorts p (given_by o) ≡ of_number ∷ []
given_sorts p o = by (row_of o).gives_int
  where
    by : (b : Bool) → slot_sorts p (if b then core.int else core.bool) ≡ of_number ∷ []
    by true = refl
    by false = refl

pub not_owning : (r : ℕ) (ty : Ty) → not_owning_broken r (Some ty) ≡ [] → unless_owning (Some ty) ≡ Some ty
not_owning r ty e = by (is_owning ty) (unless_holds (not (is_owning ty)) r e)
  where
    by : (b : Bool) → not b ≡ true → (if b then None else Some ty) ≡ Some ty
    by true e = absurd (false≢true e)
    by false e = refl

-- ---- guards

module _ (a : Place) (l : Bool) where
  whole_typed : (n : ℕ) → n ≤ max_number → IsTyped a result.Number (g.whole n)
  whole_typed n h = (refl, small_numeral n h)

  greatest_typed : IsTyped a result.Number g.greatest
  greatest_typed = (refl, small_numeral (2 ^ 63 - 1) (le_refl max_number))

  two_typed : (o : Op) (x y : c.Expr) → IsTyped a result.Number x → IsTyped a result.Number y → IsTyped a result.Number (c.binary o x y)
  two_typed o x y h k = (refl, h, k)

  zero_typed : IsTyped a result.Number (g.whole 0)
  zero_typed = whole_typed 0 (omega arith)

  one_typed : IsTyped a result.Number (g.whole 1)
  one_typed = whole_typed 1 (omega arith)

  least_typed : IsTyped a result.Number g.least
  least_typed = (refl, (refl, greatest_typed), one_typed)

  positive_typed : (x : c.Expr) → IsTyped a result.Number x → IsTyped a result.Number (g.is_positive x)
  positive_typed x h = (refl, h, zero_typed)

  negative_typed : (x : c.Expr) → IsTyped a result.Number x → IsTyped a result.Number (g.is_negative x)
  negative_typed x h = (refl, h, zero_typed)

  overflow_trap : (e : c.Expr) → IsTyped a result.Number e → IsRuled a l (g.trap_if e 1)
  overflow_trap e h = (h, ((inl refl, tt), tt))

  zero_trap : (e : c.Expr) → IsTyped a result.Number e → IsRuled a l (g.trap_if e 2)
  zero_trap e h = (h, ((inr refl, tt), tt))

  sum_typed : (x y : c.Expr) → IsTyped a result.Number x → IsTyped a result.Number y → IsTyped a result.Number (g.sum_overflows x y)
  sum_typed x y h k = (
    refl,
    (refl, positive_typed y k, (refl, h, (refl, greatest_typed, k))),
    (refl, negative_typed y k, (refl, h, (refl, least_typed, k))),
  )

  difference_typed : (x y : c.Expr) → IsTyped a result.Number x → IsTyped a result.Number y → IsTyped a result.Number (g.difference_overflows x y)
  difference_typed x y h k = (
    refl,
    (refl, negative_typed y k, (refl, h, (refl, greatest_typed, k))),
    (refl, positive_typed y k, (refl, h, (refl, least_typed, k))),
  )

  product_typed : (x y : c.Expr) → IsTyped a result.Number x → IsTyped a result.Number y → IsTyped a result.Number (g.product_overflows x y)
  product_typed x y h k = (
    refl,
    (
      refl,
      (
        refl,
        (refl, (refl, positive_typed x h, positive_typed y k), (refl, h, (refl, greatest_typed, k))),
        (refl, (refl, positive_typed x h, negative_typed y k), (refl, k, (refl, least_typed, h))),
      ),
      (refl, (refl, negative_typed x h, positive_typed y k), (refl, h, (refl, least_typed, k))),
    ),
    (refl, (refl, negative_typed x h, negative_typed y k), (refl, k, (refl, greatest_typed, h))),
  )

  quotient_typed : (x y : c.Expr) → IsTyped a result.Number x → IsTyped a result.Number y → IsTyped a result.Number (g.quotient_overflows x y)
  quotient_typed x y h k = (refl, (refl, h, least_typed), (refl, k, (refl, one_typed)))

  is_zero_typed : (y : c.Expr) → IsTyped a result.Number y → IsTyped a result.Number (g.equal y (g.whole 0))
  is_zero_typed y k = (refl, k, zero_typed)

  unary_guards_ruled : (o : Op) (x : c.Expr) → IsTyped a result.Number x → AllRuled a l (g.unary_guards o x)
  unary_guards_ruled op.Negate x h = (overflow_trap (g.equal x g.least) (refl, h, least_typed), tt)
  unary_guards_ruled _ x h = tt

  binary_guards_ruled : (o : Op) (x y : c.Expr) → IsTyped a result.Number x → IsTyped a result.Number y → AllRuled a l (g.binary_guards o x y)
  binary_guards_ruled op.Add x y h k = (overflow_trap (g.sum_overflows x y) (sum_typed x y h k), tt)
  binary_guards_ruled op.Subtract x y h k = (overflow_trap (g.difference_overflows x y) (difference_typed x y h k), tt)
  binary_guards_ruled op.Multiply x y h k = (overflow_trap (g.product_overflows x y) (product_typed x y h k), tt)
  binary_guards_ruled op.Divide x y h k = (zero_trap (g.equal y (g.whole 0)) (is_zero_typed y k), (overflow_trap (g.quotient_overflows x y) (quotient_typed x y h k), tt))
  binary_guards_ruled op.Remainder x y h k = (zero_trap (g.equal y (g.whole 0)) (is_zero_typed y k), (overflow_trap (g.quotient_overflows x y) (quotient_typed x y h k), tt))
  binary_guards_ruled _ x y h k = tt

  -- ---- code

  -- code of a number
  pub record IsNumberCode (x : Code) : Type 0 where
    pub stmts : AllRuled a l x.stmts
    pub atoms : AtomsFit a (of_number ∷ []) x.atoms

  number_value : (x : Code) → IsNumberCode x → IsTyped a result.Number (value_of x)
  number_value x h = first_typed a of_number [] x.atoms h.atoms

  temp_code : (stmts : List Stmt) (t : Numbers) (e : c.Expr) → AllRuled a l stmts → IsTyped a result.Number e → AreUpTo (past t of_number) a.most → IsNumberCode (into_temp stmts t e)
  temp_code stmts t e h k up =
      let temp = temp_known a t of_number up in
      record { stmts = ruled_both a l stmts (c.set (var_at t of_number) e ∷ []) h (set_ruled a l result.Number (var_at t of_number) e temp k, tt); atoms = (temp, tt) }

  strict_code : (o : Op) (left : Code) (right : Numbers → Code) → IsNumberCode left → IsNumberCode (right left.next) → AreUpTo (past (right left.next).next of_number) a.most →
      IsNumberCode (into_temp (left.stmts ++ (right left.next).stmts ++ g.binary_guards o (value_of left) (value_of (right left.next))) (right left.next).next (c.binary o (value_of left) (value_of (right left.next))))
  strict_code o left right h k up =
      let rest = right left.next in
      let guards = g.binary_guards o (value_of left) (value_of rest) in
      temp_code (left.stmts ++ rest.stmts ++ guards) rest.next (c.binary o (value_of left) (value_of rest))
      (ruled_both a l (left.stmts ++ rest.stmts) guards (ruled_both a l left.stmts rest.stmts h.stmts k.stmts)
      (binary_guards_ruled o (value_of left) (value_of rest) (number_value left h) (number_value rest k)))
      (refl, number_value left h, number_value rest k) up

  lazy_ruled : (is_and : Bool) (left : Code) (right : Numbers → Code) → IsNumberCode left → IsNumberCode (right (past left.next of_number)) → AreUpTo (past left.next of_number) a.most →
      IsNumberCode (lazy_code is_and left right)
  lazy_ruled is_and left right h k up = record {
    stmts = ruled_both a l left.stmts (c.set temp (value_of left) ∷ c.when ((if is_and then g.unequal else g.equal) (c.variable temp) (g.whole 0)) (stmts_made (rest.stmts ++ c.set temp (value_of rest) ∷ [])) ∷ []) h.stmts
        (set_ruled a l result.Number temp (value_of left) known (number_value left h), ((test is_and, made_ruled a l (rest.stmts ++ c.set temp (value_of rest) ∷ []) inner), tt));
    atoms = (known, tt);
  }
    where
      temp : CVar
      temp = var_at left.next of_number

      rest : Code
      rest = right (past left.next of_number)

      known : IsVar a result.Number temp
      known = temp_known a left.next of_number up

      test : (is_and : Bool) → IsTyped a result.Number ((if is_and then g.unequal else g.equal) (c.variable temp) (g.whole 0))
      test true = (refl, known, zero_typed)
      test false = (refl, known, zero_typed)

      inner : AllRuled a l (rest.stmts ++ c.set temp (value_of rest) ∷ [])
      inner = ruled_both a l rest.stmts (c.set temp (value_of rest) ∷ []) k.stmts (set_ruled a l result.Number temp (value_of rest) known (number_value rest k), tt)

  both_code : (o : Op) (left : Code) (right : Numbers → Code) → IsNumberCode left → ((t : Numbers) → AreUpTo t (right t).next) → ((t : Numbers) → AreUpTo (right t).next a.most → IsNumberCode (right t)) →
      AreUpTo (binary_code o left right).next a.most → IsNumberCode (binary_code o left right)
  both_code op.And left right h up k m = lazy_ruled true left right h (k (past left.next of_number) m) (more_more (up (past left.next of_number)) m)
  both_code op.Or left right h up k m = lazy_ruled false left right h (k (past left.next of_number) m) (more_more (up (past left.next of_number)) m)
  both_code o left right h up k m = strict_code o left right h (k left.next (more_more (up_past (right left.next).next of_number) m)) m

left_up : (o : Op) (left : Code) (right : Numbers → Code) → ((t : Numbers) → AreUpTo t (right t).next) → AreUpTo left.next (binary_code o left right).next
left_up op.And left right up = more_more (up_past left.next of_number) (up (past left.next of_number))
left_up op.Or left right up = more_more (up_past left.next of_number) (up (past left.next of_number))
left_up o left right up = more_more (up left.next) (up_past (right left.next).next of_number)

-- ---- expressions

-- the code of an expression of this type
pub record IsCodeOf (a : Place) (l : Bool) (p : Program) (f : Func) (e : Expr) (x : Code) : Type 0 where
  pub ty : Ty
  pub is : type_of_expr p f e ≡ Some ty
  pub stmts : AllRuled a l x.stmts
  pub atoms : AtomsFit a (slot_sorts p ty) x.atoms

pub expr_up : (p : Program) (f : Func) (t : Numbers) (e : Expr) → AreUpTo t (expr_code p f t e).next
expr_up p f t e = operand_up p f (pure e) t

refers_slot : (p : Program) (f : Func) (x : ℕ) (a : Place) (ty : Ty) (type : ℕ) (args : List ℕ) → AreUpTo (first_temps p f) a.most → var_type f x ≡ Some ty → object_in (Some ty) ≡ Some (type, args) →
    IsVar a result.Reference (slot_of p f x) × (object_type f x ≡ type)
refers_slot p f x a (core.tracked k t args) type others up is e =
    (slot_fits a p f x (core.tracked k t args) _ [] up is refl, ap object_type_of is ∙ ap (λ (q : ℕ × List ℕ). q.0) (same_Some (t, args) (type, others) e))
refers_slot p f x a (core.guarded k t args) type others up is e =
    (slot_fits a p f x (core.guarded k t args) _ [] up is refl, ap object_type_of is ∙ ap (λ (q : ℕ × List ℕ). q.0) (same_Some (t, args) (type, others) e))
refers_slot p f x a core.int type others up is e = absurd (none-some (type, others) e)
refers_slot p f x a core.bool type others up is e = absurd (none-some (type, others) e)
refers_slot p f x a (core.owning s t args) type others up is e = absurd (none-some (type, others) e)
refers_slot p f x a (core.variant t args) type others up is e = absurd (none-some (type, others) e)
refers_slot p f x a (core.owning_variant t args) type others up is e = absurd (none-some (type, others) e)

-- What is known where code stands: a function with a body, below whose temps variables are declared.
pub record Here (a : Place) (p : Program) (f : Func) : Type 0 where
  pub types : TypesFit p
  pub is : IsFunction p f
  pub few : FewCells p
  -- the numbers of cases can be written, and those of a value's slots
  pub cases : (type k : ℕ) (d : CaseDecl) → case_at p type k ≡ Some d → k ≤ max_number
  pub slots : (ty : Ty) → length (slot_sorts p ty) ≤ max_number
  pub up : AreUpTo (first_temps p f) a.most

-- a field that is touched: its cells, and its type under the keys of the reference
pub record FieldCells (a : Place) (p : Program) (f : Func) (x i : ℕ) : Type 0 where
  pub base : IsVar a result.Reference (slot_of p f x)
  pub ty : Ty
  pub is : field_type p f x i ≡ Some ty
  pub sorts : cell_sorts p f x i ≡ slot_sorts p ty
  pub cells : CellsFit a (cell_sorts p f x i) (touched_cells p f x i)

touched_type : (p : Program) (f : Func) (x i : ℕ) (h : IsTouched p f x i) → field_type p f x i ≡ Some (with_keys h.args h.decl.ty)
touched_type p f x i h = ap (λ o. field_type_in (object_in o) (field_decl p (object_in o) i)) h.is ∙ ap (λ o. field_type_in o (field_decl p o i)) h.object ∙ ap (λ d. field_type_in (Some (h.type, h.args)) d) h.at

cells_of_touched : (a : Place) (p : Program) (f : Func) → Here a p f → (x i : ℕ) → IsTouched p f x i → FieldCells a p f x i
cells_of_touched a p f here x i touched =
    let q = refers_slot p f x a touched.ty touched.type touched.args here.up touched.is touched.object in
    record {
      base = q.0;
      ty = with_keys touched.args touched.decl.ty;
      is = touched_type p f x i touched;
      sorts = ap (λ t. sorts_of_field p (slice_get (fields_of p t) i)) q.1 ∙ ap (sorts_of_field p) touched.at ∙ (keys_laid p touched.args touched.decl.ty).sorts;
      cells = touched_cells_fit a p f x i here.few q.0;
    }

module _ (a : Place) (p : Program) (f : Func) (here : Here a p f) (ids : Ids) where
  pub field_cells_of : (x i : ℕ) → touch_broken p f ids x i ≡ [] → FieldCells a p f x i
  field_cells_of x i e =
      let d = used_declared f ids x (both_empty (use_broken f ids x) _ e).left in
      cells_of_touched a p f here x i (touch_field p f ids x i d.ty d.is (here.types.objects f here.is x d.ty d.is) e)

  pub expr_kinded : (l : Bool) (t : Numbers) (e : Expr) → has_literals e ≡ true → expr_broken p f ids e ≡ [] → AreUpTo (expr_code p f t e).next a.most → IsCodeOf a l p f e (expr_code p f t e)
  expr_kinded l t (core.number z) lit broken m = record { ty = core.int; is = refl; stmts = tt; atoms = ((refl, literal_numeral z lit), tt) }
  expr_kinded l t (core.truth true) lit broken m = record { ty = core.bool; is = refl; stmts = tt; atoms = ((refl, small_numeral 1 (omega arith)), tt) }
  expr_kinded l t (core.truth false) lit broken m = record { ty = core.bool; is = refl; stmts = tt; atoms = ((refl, small_numeral 0 (omega arith)), tt) }
  expr_kinded l t (core.var v) lit broken m =
      let both = both_empty (use_broken f ids v) (not_owning_broken rule.WRONG_TYPE (var_type f v)) broken in
      let d = used_declared f ids v both.left in
      record {
        ty = d.ty;
        is = ap unless_owning d.is ∙ not_owning rule.WRONG_TYPE d.ty (subst (λ o. not_owning_broken rule.WRONG_TYPE o ≡ []) d.is both.right);
        stmts = tt;
        atoms = var_atoms a (slot_sorts p d.ty) (slot_vars p f v) (typed_slots_fit a p f v d.ty here.up d.is);
      }
  expr_kinded l t (core.field x i) lit broken m =
      let both = both_empty (touch_broken p f ids x i) (not_owning_broken rule.WRONG_SWAP (field_type p f x i)) broken in
      let cells = field_cells_of x i both.left in
      let temps = temps_fit a t (cell_sorts p f x i) m in
      record {
        ty = cells.ty;
        is = ap unless_owning cells.is ∙ not_owning rule.WRONG_SWAP cells.ty (subst (λ o. not_owning_broken rule.WRONG_SWAP o ≡ []) cells.is both.right);
        stmts = reads_ruled a l (cell_sorts p f x i) (vars_at t (cell_sorts p f x i)) (touched_cells p f x i) temps cells.cells;
        atoms = subst (λ ss. AtomsFit a ss (map variable (vars_at t (cell_sorts p f x i)))) cells.sorts (var_atoms a (cell_sorts p f x i) (vars_at t (cell_sorts p f x i)) temps);
      }
  expr_kinded l t (core.unary o e) lit broken m =
      let code = expr_code p f t e in
      let both = both_empty (expr_broken p f ids e) (left_broken (row_of o).takes (type_of_expr p f e)) broken in
      let inner = expr_kinded l t e lit both.left (more_more (up_past code.next of_number) m) in
      let basic = left_basic (row_of o).takes inner.ty (subst (λ q. left_broken (row_of o).takes q ≡ []) inner.is both.right) in
      let number = basic_value a p inner.ty code.atoms basic inner.atoms in
      let whole = temp_code a l (code.stmts ++ g.unary_guards o (value_of code)) code.next (c.unary o (value_of code))
      (ruled_both a l code.stmts (g.unary_guards o (value_of code)) inner.stmts (unary_guards_ruled a l o (value_of code) number)) (refl, number) m in
      record { ty = given_by o; is = refl; stmts = whole.stmts; atoms = subst (λ ss. AtomsFit a ss (expr_code p f t (core.unary o e)).atoms) (sym (given_sorts p o)) whole.atoms }
  expr_kinded l t (core.binary o x y) lit broken m =
      let up = left_up o (expr_code p f t x) (λ t. expr_code p f t y) (λ t. expr_up p f t y) in
      let b3 = both_empty (expr_broken p f ids x ++ expr_broken p f ids y ++ left_broken (row_of o).takes (type_of_expr p f x)) (misfit (right_wanted (row_of o).takes (type_of_expr p f x)) (type_of_expr p f y)) broken in
      let b2 = both_empty (expr_broken p f ids x ++ expr_broken p f ids y) (left_broken (row_of o).takes (type_of_expr p f x)) b3.left in
      let b1 = both_empty (expr_broken p f ids x) (expr_broken p f ids y) b2.left in
      let first = expr_kinded l t x (and_left (has_literals x) (has_literals y) lit) b1.left (more_more up m) in
      let left = left_basic (row_of o).takes first.ty (subst (λ q. left_broken (row_of o).takes q ≡ []) first.is b2.right) in
      let right : (second : Ty) → type_of_expr p f y ≡ Some second → is_basic second ≡ true = λ second is. right_basic (row_of o).takes first.ty second left
      (subst (λ q. misfit (right_wanted (row_of o).takes q) (Some second) ≡ []) first.is (subst (λ q. misfit (right_wanted (row_of o).takes (type_of_expr p f x)) q ≡ []) is b3.right)) in
      let whole = both_code a l o (expr_code p f t x) (λ t. expr_code p f t y) (number_code l x (expr_code p f t x) first left) (λ t. expr_up p f t y)
      (λ u k. let second = expr_kinded l u y (and_right (has_literals x) (has_literals y) lit) b1.right k in number_code l y (expr_code p f u y) second (right second.ty second.is)) m in
      record { ty = given_by o; is = refl; stmts = whole.stmts; atoms = subst (λ ss. AtomsFit a ss (expr_code p f t (core.binary o x y)).atoms) (sym (given_sorts p o)) whole.atoms }
    where
      number_code : (l : Bool) (e : Expr) (x : Code) (h : IsCodeOf a l p f e x) → is_basic h.ty ≡ true → IsNumberCode a l x
      number_code l e x h b = record { stmts = h.stmts; atoms = by h.ty b h.atoms }
        where
          by : (ty : Ty) → is_basic ty ≡ true → AtomsFit a (slot_sorts p ty) x.atoms → AtomsFit a (of_number ∷ []) x.atoms
          by core.int b h = h
          by core.bool b h = h
          by (core.tracked k t args) b h = absurd (false≢true b)
          by (core.owning s t args) b h = absurd (false≢true b)
          by (core.guarded k t args) b h = absurd (false≢true b)
          by (core.variant t args) b h = absurd (false≢true b)
          by (core.owning_variant t args) b h = absurd (false≢true b)
