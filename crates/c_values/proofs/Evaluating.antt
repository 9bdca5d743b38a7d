-- The values of expressions, from those of their parts.
use Rattle.std.proofs.Common.{◌≡◌, ℕ, ℤ, pos, Option, Some, None, Result, Ok, Err, option_map, refl, sym, ap, ◌∙◌, subst}
use Rattle.vlt_rings.specs.Things.{Things}
use Rattle.vlt_ops.specs.declared.Op.{Op}
use Rattle.vlt_ops.specs.Operator.{applied}
use Rattle.c_syntax.specs.declared.program.CVar.{CVar}
use Rattle.c_syntax.specs.declared.program.CCell.{CCell}
use Rattle.c_syntax.specs.declared.program.CCell.TheVariants as cell
use Rattle.c_syntax.specs.C as c
use Rattle.c_syntax.specs.C.{Expr}
use Rattle.c_meaning.specs.Blocks.{Blocks, read_number, read_reference}
use Rattle.c_meaning.specs.World as model
use Rattle.c_meaning.specs.World.{Vars}
use Rattle.c_meaning.specs.Values.{◌>>=◌, a_number, a_reference, or_unset, base_in, cell_value, p_variable, or_rule, value_of_both, value_of}
use Rattle.c_memory.specs.declared.cells.Ref.{Ref}
use Rattle.c_memory.specs.Shown.{number_of, IsMade, IsRead}
use Rattle.c_values.specs.declared.value.Value.{Value}
use Rattle.c_values.specs.declared.value.Value.TheVariants.{Number, Reference}
use Rattle.c_values.specs.Shown.{value_view, IsMadeValue, IsValue, IsReference, IsDecided, IsNumberOf, operator_value}

-- ---- what an answer says of the value

pub value_is : (ts : Things) (r : Result Value ℕ) (x : Result model.Value ℕ) (a : Value) → IsValue ts r x → r ≡ Ok a → x ≡ Ok (value_view a)
value_is ts r x a is e = by x (subst (λ q. IsValue ts q x) e is)
  where
    by : (x : Result model.Value ℕ) → IsValue ts (Ok a) x → x ≡ Ok (value_view a)
    by (Ok b) h = ap (λ z. Ok z) (sym h.0)
    by (Err b) h = absurd h

pub rule_is : (ts : Things) (r : Result Value ℕ) (x : Result model.Value ℕ) (b : ℕ) → IsValue ts r x → r ≡ Err b → x ≡ Err b
rule_is ts r x b is e = by x (subst (λ q. IsValue ts q x) e is)
  where
    by : (x : Result model.Value ℕ) → IsValue ts (Err b) x → x ≡ Err b
    by (Ok a) h = absurd h
    by (Err d) h = ap (λ z. Err z) (sym h)

reference_is : (ts : Things) (r : Result (Option Ref) ℕ) (x : Result (Option ℕ) ℕ) (a : Option Ref) → IsReference ts r x → r ≡ Ok a → (x ≡ Ok (number_of a)) × IsMade ts a
reference_is ts r x a is e = by x (subst (λ q. IsReference ts q x) e is)
  where
    by : (x : Result (Option ℕ) ℕ) → IsReference ts (Ok a) x → (x ≡ Ok (number_of a)) × IsMade ts a
    by (Ok b) h = (ap (λ z. Ok z) (sym h.0), h.1)
    by (Err b) h = absurd h

reference_rule : (ts : Things) (r : Result (Option Ref) ℕ) (x : Result (Option ℕ) ℕ) (b : ℕ) → IsReference ts r x → r ≡ Err b → x ≡ Err b
reference_rule ts r x b is e = by x (subst (λ q. IsReference ts q x) e is)
  where
    by : (x : Result (Option ℕ) ℕ) → IsReference ts (Err b) x → x ≡ Err b
    by (Ok a) h = absurd h
    by (Err d) h = ap (λ z. Err z) (sym h)

-- ---- variables

pub var_value : (ts : Things) (vars : Vars) (v : CVar) (r : Option Value) (a : Value) → option_map value_view r ≡ vars v → r ≡ Some a → IsMadeValue ts a → IsValue ts (Ok a) (or_unset (vars v))
var_value ts vars v r a shown is made = subst (λ x. IsValue ts (Ok a) (or_unset x)) (ap (option_map value_view) (sym is) ∙ shown) (refl, made)

pub var_unset : (ts : Things) (vars : Vars) (v : CVar) (r : Option Value) → option_map value_view r ≡ vars v → r ≡ None → IsValue ts (Err 5) (or_unset (vars v))
var_unset ts vars v r shown is = subst (λ x. IsValue ts (Err 5) (or_unset x)) (ap (option_map value_view) (sym is) ∙ shown) refl

base_of : Option model.Value → Result (Option ℕ) ℕ
base_of x = or_unset x >>= (λ a. a_reference a)

pub base_found : (ts : Things) (vars : Vars) (p : ℕ) (r : Option Value) (q : Option Ref) → option_map value_view r ≡ vars (p_variable p) → r ≡ Some (Reference q) → IsMade ts q → IsReference ts (Ok q) (base_in p vars)
unfolding base_of
base_found ts vars p r q shown is made = subst (λ x. IsReference ts (Ok q) (base_of x)) (ap (option_map value_view) (sym is) ∙ shown) (refl, made)

pub base_number : (ts : Things) (vars : Vars) (p : ℕ) (r : Option Value) (z : ℤ) → option_map value_view r ≡ vars (p_variable p) → r ≡ Some (Number z) → IsReference ts (Err 5) (base_in p vars)
unfolding base_of
base_number ts vars p r z shown is = subst (λ x. IsReference ts (Err 5) (base_of x)) (ap (option_map value_view) (sym is) ∙ shown) refl

pub base_unset : (ts : Things) (vars : Vars) (p : ℕ) (r : Option Value) → option_map value_view r ≡ vars (p_variable p) → r ≡ None → IsReference ts (Err 5) (base_in p vars)
unfolding base_of
base_unset ts vars p r shown is = subst (λ x. IsReference ts (Err 5) (base_of x)) (ap (option_map value_view) (sym is) ∙ shown) refl

-- ---- cells

module _ (ts : Things) (vars : Vars) (bs : Blocks) (p i : ℕ) (r : Result (Option Ref) ℕ) (base : IsReference ts r (base_in p vars)) where
  pub number_cell : (b : Option Ref) (z : ℤ) → r ≡ Ok b → Ok z ≡ read_number bs (number_of b) i → IsValue ts (Ok (Number z)) (cell_value (cell.Number p i) vars bs)
  number_cell b z e read =
      let k = (reference_is ts r (base_in p vars) b base e).0 in
      subst (IsValue ts (Ok (Number z))) (sym (ap (λ x. x >>= (λ y. read_number bs y i >>= (λ q. Ok (model.number q)))) k ∙ ap (λ x. x >>= (λ q. Ok (model.number q))) (sym read))) (refl, tt)

  pub no_number_cell : (b : Option Ref) (rule : ℕ) → r ≡ Ok b → Err rule ≡ read_number bs (number_of b) i → IsValue ts (Err rule) (cell_value (cell.Number p i) vars bs)
  no_number_cell b rule e read =
      let k = (reference_is ts r (base_in p vars) b base e).0 in
      subst (IsValue ts (Err rule)) (sym (ap (λ x. x >>= (λ y. read_number bs y i >>= (λ q. Ok (model.number q)))) k ∙ ap (λ x. x >>= (λ q. Ok (model.number q))) (sym read))) refl

  pub no_base : (rule : ℕ) → r ≡ Err rule → IsValue ts (Err rule) (cell_value (cell.Number p i) vars bs)
  no_base rule e =
      subst (IsValue ts (Err rule)) (sym (ap (λ x. x >>= (λ y. read_number bs y i >>= (λ q. Ok (model.number q)))) (reference_rule ts r (base_in p vars) rule base e))) refl

  pub reference_cell : (b : Option Ref) (q : Option Ref) (s : Result (Option Ref) ℕ) → r ≡ Ok b → (IsMade ts b → IsRead ts s (read_reference bs (number_of b) i)) → s ≡ Ok q → IsValue ts (Ok (Reference q)) (cell_value (cell.Reference p i) vars bs)
  reference_cell b q s e read is =
      let k = reference_is ts r (base_in p vars) b base e in
      subst (IsValue ts (Ok (Reference q))) (sym (ap (λ x. x >>= (λ y. read_reference bs y i >>= (λ u. Ok (model.reference u)))) k.0)) (by (read_reference bs (number_of b) i) (subst (λ v. IsRead ts v (read_reference bs (number_of b) i)) is (read k.1)))
    where
      by : (x : Result (Option ℕ) ℕ) → IsRead ts (Ok q) x → IsValue ts (Ok (Reference q)) (x >>= (λ u. Ok (model.reference u)))
      by (Ok n) h = (ap (λ u. model.reference u) h.0, h.1)
      by (Err d) h = absurd h

  pub no_reference_cell : (b : Option Ref) (rule : ℕ) (s : Result (Option Ref) ℕ) → r ≡ Ok b → (IsMade ts b → IsRead ts s (read_reference bs (number_of b) i)) → s ≡ Err rule → IsValue ts (Err rule) (cell_value (cell.Reference p i) vars bs)
  no_reference_cell b rule s e read is =
      let k = reference_is ts r (base_in p vars) b base e in
      subst (IsValue ts (Err rule)) (sym (ap (λ x. x >>= (λ y. read_reference bs y i >>= (λ u. Ok (model.reference u)))) k.0)) (by (read_reference bs (number_of b) i) (subst (λ v. IsRead ts v (read_reference bs (number_of b) i)) is (read k.1)))
    where
      by : (x : Result (Option ℕ) ℕ) → IsRead ts (Err rule) x → IsValue ts (Err rule) (x >>= (λ u. Ok (model.reference u)))
      by (Ok n) h = absurd h
      by (Err d) h = h

  pub no_reference_base : (rule : ℕ) → r ≡ Err rule → IsValue ts (Err rule) (cell_value (cell.Reference p i) vars bs)
  no_reference_base rule e =
      subst (IsValue ts (Err rule)) (sym (ap (λ x. x >>= (λ y. read_reference bs y i >>= (λ u. Ok (model.reference u)))) (reference_rule ts r (base_in p vars) rule base e))) refl

-- ---- operators

module _ (ts : Things) (vars : Vars) (bs : Blocks) (o : Op) (e : Expr) (r : Result Value ℕ) (part : IsValue ts r (value_of e vars bs)) where
  pub unary_value : (z : ℤ) (s : Result Value ℕ) → r ≡ Ok (Number z) → IsValue ts s (or_rule (applied o z (pos 0))) → IsValue ts s (value_of (c.unary o e) vars bs)
  unary_value z s is h = subst (IsValue ts s) (sym (ap (λ x. x >>= (λ y. a_number y >>= (λ k. or_rule (applied o k (pos 0))))) (value_is ts r (value_of e vars bs) (Number z) part is))) h

  pub unary_other : (q : Option Ref) → r ≡ Ok (Reference q) → IsValue ts (Err 5) (value_of (c.unary o e) vars bs)
  unary_other q is = subst (IsValue ts (Err 5)) (sym (ap (λ x. x >>= (λ y. a_number y >>= (λ k. or_rule (applied o k (pos 0))))) (value_is ts r (value_of e vars bs) (Reference q) part is))) refl

  pub unary_rule : (b : ℕ) → r ≡ Err b → IsValue ts (Err b) (value_of (c.unary o e) vars bs)
  unary_rule b is = subst (IsValue ts (Err b)) (sym (ap (λ x. x >>= (λ y. a_number y >>= (λ k. or_rule (applied o k (pos 0))))) (rule_is ts r (value_of e vars bs) b part is))) refl

  module _ (f : Expr) where
    binary : (x : Result model.Value ℕ) → Result model.Value ℕ
    binary x = x >>= (λ y. a_number y >>= (λ k. value_of_both o k (value_of f vars bs)))

    left : (z : ℤ) → r ≡ Ok (Number z) → value_of (c.binary o e f) vars bs ≡ value_of_both o z (value_of f vars bs)
    unfolding binary
    left z is = ap binary (value_is ts r (value_of e vars bs) (Number z) part is)

    pub binary_decided : (z k : ℤ) (d : Option ℤ) → r ≡ Ok (Number z) → IsDecided o z d → d ≡ Some k → IsValue ts (Ok (Number k)) (value_of (c.binary o e f) vars bs)
    binary_decided z k d is decided some =
        subst (IsValue ts (Ok (Number k))) (sym (left z is ∙ subst (IsDecided o z) some decided (value_of f vars bs))) (refl, tt)

    right : (z : ℤ) (d : Option ℤ) → r ≡ Ok (Number z) → IsDecided o z d → d ≡ None → value_of (c.binary o e f) vars bs ≡ operator_value o z (value_of f vars bs)
    right z d is decided none = left z is ∙ subst (IsDecided o z) none decided (value_of f vars bs)

    pub binary_value : (z k : ℤ) (d : Option ℤ) (q s : Result Value ℕ) → r ≡ Ok (Number z) → IsDecided o z d → d ≡ None → IsValue ts q (value_of f vars bs) → q ≡ Ok (Number k) → IsValue ts s (or_rule (applied o z k)) → IsValue ts s (value_of (c.binary o e f) vars bs)
    binary_value z k d q s is decided none second so h =
        subst (IsValue ts s) (sym (right z d is decided none ∙ ap (operator_value o z) (value_is ts q (value_of f vars bs) (Number k) second so))) h

    pub binary_other : (z : ℤ) (d : Option ℤ) (q : Result Value ℕ) (u : Option Ref) → r ≡ Ok (Number z) → IsDecided o z d → d ≡ None → IsValue ts q (value_of f vars bs) → q ≡ Ok (Reference u) → IsValue ts (Err 5) (value_of (c.binary o e f) vars bs)
    binary_other z d q u is decided none second so =
        subst (IsValue ts (Err 5)) (sym (right z d is decided none ∙ ap (operator_value o z) (value_is ts q (value_of f vars bs) (Reference u) second so))) refl

    pub binary_rule : (z : ℤ) (d : Option ℤ) (q : Result Value ℕ) (b : ℕ) → r ≡ Ok (Number z) → IsDecided o z d → d ≡ None → IsValue ts q (value_of f vars bs) → q ≡ Err b → IsValue ts (Err b) (value_of (c.binary o e f) vars bs)
    binary_rule z d q b is decided none second so =
        subst (IsValue ts (Err b)) (sym (right z d is decided none ∙ ap (operator_value o z) (rule_is ts q (value_of f vars bs) b second so))) refl

    pub left_other : (q : Option Ref) → r ≡ Ok (Reference q) → IsValue ts (Err 5) (value_of (c.binary o e f) vars bs)
    unfolding binary
    left_other q is = subst (IsValue ts (Err 5)) (sym (ap binary (value_is ts r (value_of e vars bs) (Reference q) part is))) refl

    pub left_rule : (b : ℕ) → r ≡ Err b → IsValue ts (Err b) (value_of (c.binary o e f) vars bs)
    unfolding binary
    left_rule b is = subst (IsValue ts (Err b)) (sym (ap binary (rule_is ts r (value_of e vars bs) b part is))) refl

pub reference_made : (ts : Things) (r : Result (Option Ref) ℕ) (x : Result (Option ℕ) ℕ) (a : Option Ref) → IsReference ts r x → r ≡ Ok a → IsMade ts a
reference_made ts r x a is e = (reference_is ts r x a is e).1

pub at_cell : (ts : Things) (vars : Vars) (bs : Blocks) (r : Result Value ℕ) (x y : CCell) → x ≡ y → IsValue ts r (cell_value y vars bs) → IsValue ts r (cell_value x vars bs)
at_cell ts vars bs r x y e h = subst (λ z. IsValue ts r (cell_value z vars bs)) (sym e) h

pub at_expr : (ts : Things) (vars : Vars) (bs : Blocks) (r : Result Value ℕ) (x y : Expr) → x ≡ y → IsValue ts r (value_of y vars bs) → IsValue ts r (value_of x vars bs)
at_expr ts vars bs r x y e h = subst (λ z. IsValue ts r (value_of z vars bs)) (sym e) h

-- ---- expressions of numbers and variables

module _ (vars : Vars) (o : Op) (a : Expr) (x : ℤ) (left : IsNumberOf a vars x) where
  pub unary_number : (z : ℤ) → applied o x (pos 0) ≡ Ok z → IsNumberOf (c.unary o a) vars z
  unary_number z e = λ bs. ap (λ v. v >>= (λ y. a_number y >>= (λ k. or_rule (applied o k (pos 0))))) (left bs) ∙ ap or_rule e

  pub decided_number : (b : Expr) (z : ℤ) (d : Option ℤ) → IsDecided o x d → d ≡ Some z → IsNumberOf (c.binary o a b) vars z
  decided_number b z d decided some =
      λ bs. ap (λ v. v >>= (λ y. a_number y >>= (λ k. value_of_both o k (value_of b vars bs)))) (left bs) ∙ subst (IsDecided o x) some decided (value_of b vars bs)

  pub binary_number : (b : Expr) (y z : ℤ) (d : Option ℤ) → IsDecided o x d → d ≡ None → IsNumberOf b vars y → applied o x y ≡ Ok z → IsNumberOf (c.binary o a b) vars z
  binary_number b y z d decided none right e =
      λ bs. ap (λ v. v >>= (λ y. a_number y >>= (λ k. value_of_both o k (value_of b vars bs)))) (left bs) ∙ subst (IsDecided o x) none decided (value_of b vars bs) ∙ ap (operator_value o x) (right bs) ∙ ap or_rule e

pub at_number : (vars : Vars) (x y : Expr) (z : ℤ) → x ≡ y → IsNumberOf y vars z → IsNumberOf x vars z
at_number vars x y z e h = subst (λ q. IsNumberOf q vars z) (sym e) h
