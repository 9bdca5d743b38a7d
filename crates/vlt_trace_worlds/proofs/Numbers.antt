-- The numbers of expressions, from those of their parts.
use Rattle.std.proofs.Common.{◌≡◌, ℤ, pos, List, Result, Ok, Err, refl, sym, ap, ◌∙◌}
use Rattle.vlt_ops.specs.declared.Op.{Op}
use Rattle.vlt_ops.specs.declared.TrapKind.{TrapKind}
use Rattle.vlt_ops.specs.Operator.{applied}
use Rattle.vlt_core.specs.Core.{Expr, unary, binary, Func, Program}
use Rattle.vlt_meaning.specs.World.{Value, one, number, reference, owned, of_case, Object, Frame, Outcome, trap}
use Rattle.vlt_meaning.specs.Found.{Found, ◌>>=◌}
use Rattle.vlt_meaning.specs.Values.{number_in, or_trap, value_of_both, value_of, number_of}
use Rattle.vlt_meaning_laws.proofs.Keeping.{err-ok}
use Rattle.vlt_trace_worlds.specs.declared.values.Sides.{Sides}
use Rattle.vlt_trace_worlds.specs.declared.values.Sides.TheVariants.{Left, Right, Both}
use Rattle.vlt_trace_worlds.specs.Operators.{of_both, given_by, AreSides}

-- a value's number goes on
abbrev next : (x : Found Value) (g : ℤ → Found Value) → Found ℤ
next x g = (do
  v ← x
  z ← number_in v
  g z) >>= number_in

next_ok : (x : Found Value) (g : ℤ → Found Value) (z : ℤ) → (x >>= number_in) ≡ Ok z → next x g ≡ (g z >>= number_in)
next_ok (Ok (one (number y))) g z e = ap (λ q. g q >>= number_in) (ap value e)
  where
    value : Found ℤ → ℤ
    value (Ok q) = q
    value (Err o) = y
next_ok (Ok (one (reference n))) g z e = absurd (err-ok e)
next_ok (Ok (one (owned n))) g z e = absurd (err-ok e)
next_ok (Ok (of_case c parts keys)) g z e = absurd (err-ok e)
next_ok (Err o) g z e = absurd (err-ok e)

next_err : (x : Found Value) (g : ℤ → Found Value) (o : Outcome) → (x >>= number_in) ≡ Err o → next x g ≡ Err o
next_err (Ok (one (number y))) g o e = absurd (err-ok (sym e))
next_err (Ok (one (reference n))) g o e = e
next_err (Ok (one (owned n))) g o e = e
next_err (Ok (of_case c parts keys)) g o e = e
next_err (Err q) g o e = e

abbrev pub of_trap : Result ℤ TrapKind → Found ℤ
of_trap (Ok z) = Ok z
of_trap (Err t) = Err (trap t)

trapped : (s : Result ℤ TrapKind) → (or_trap s >>= number_in) ≡ of_trap s
trapped (Ok z) = refl
trapped (Err t) = refl

module _ (p : Program) (f : Func) (frame : Frame) (objects : List Object) where
  pub unary_ok : (op : Op) (e : Expr) (z : ℤ) → number_of p f e frame objects ≡ Ok z → number_of p f (unary op e) frame objects ≡ of_trap (applied op z (pos 0))
  unary_ok op e z h = next_ok (value_of p f e frame objects) (λ k. or_trap (applied op k (pos 0))) z h ∙ trapped (applied op z (pos 0))

  pub unary_err : (op : Op) (e : Expr) (o : Outcome) → number_of p f e frame objects ≡ Err o → number_of p f (unary op e) frame objects ≡ Err o
  unary_err op e o h = next_err (value_of p f e frame objects) (λ k. or_trap (applied op k (pos 0))) o h

  pub binary_err : (op : Op) (e d : Expr) (o : Outcome) → number_of p f e frame objects ≡ Err o → number_of p f (binary op e d) frame objects ≡ Err o
  binary_err op e d o h = next_err (value_of p f e frame objects) (λ k. value_of_both op k (value_of p f d frame objects)) o h

  -- the left side's number is there: the rest is what the operator asks for
  pub binary_ok : (op : Op) (e d : Expr) (z : ℤ) (x : Sides) → number_of p f e frame objects ≡ Ok z → AreSides op z x → number_of p f (binary op e d) frame objects ≡ (given_by x op z (value_of p f d frame objects) >>= number_in)
  binary_ok op e d z x h asked = next_ok (value_of p f e frame objects) (λ k. value_of_both op k (value_of p f d frame objects)) z h ∙ ap (λ q. q >>= number_in) (asked (value_of p f d frame objects))

  pub both_ok : (op : Op) (d : Expr) (z y : ℤ) → number_of p f d frame objects ≡ Ok y → (of_both op z (value_of p f d frame objects) >>= number_in) ≡ of_trap (applied op z y)
  both_ok op d z y h = next_ok (value_of p f d frame objects) (λ k. or_trap (applied op z k)) y h ∙ trapped (applied op z y)

  pub both_err : (op : Op) (d : Expr) (z : ℤ) (o : Outcome) → number_of p f d frame objects ≡ Err o → (of_both op z (value_of p f d frame objects) >>= number_in) ≡ Err o
  both_err op d z o h = next_err (value_of p f d frame objects) (λ k. or_trap (applied op z k)) o h

  -- ---- of an expression that is of this form

  pub un_err : (x e : Expr) (op : Op) (o : Outcome) → x ≡ unary op e → number_of p f e frame objects ≡ Err o → Err o ≡ number_of p f x frame objects
  un_err x e op o is h = sym (ap (λ y. number_of p f y frame objects) is ∙ unary_err op e o h)

  pub un_ok : (x e : Expr) (op : Op) (z y : ℤ) → x ≡ unary op e → number_of p f e frame objects ≡ Ok z → applied op z (pos 0) ≡ Ok y → Ok y ≡ number_of p f x frame objects
  un_ok x e op z y is h k = sym (ap (λ y. number_of p f y frame objects) is ∙ (unary_ok op e z h ∙ ap of_trap k))

  pub un_trap : (x e : Expr) (op : Op) (z : ℤ) (t : TrapKind) → x ≡ unary op e → number_of p f e frame objects ≡ Ok z → applied op z (pos 0) ≡ Err t → Err (trap t) ≡ number_of p f x frame objects
  un_trap x e op z t is h k = sym (ap (λ y. number_of p f y frame objects) is ∙ (unary_ok op e z h ∙ ap of_trap k))

  module _ (x e d : Expr) (op : Op) (is : x ≡ binary op e d) where
    pub bin_err : (o : Outcome) → number_of p f e frame objects ≡ Err o → Err o ≡ number_of p f x frame objects
    bin_err o h = sym (ap (λ y. number_of p f y frame objects) is ∙ binary_err op e d o h)

    pub bin_left : (z : ℤ) → number_of p f e frame objects ≡ Ok z → AreSides op z Left → Ok z ≡ number_of p f x frame objects
    bin_left z h a = sym (ap (λ y. number_of p f y frame objects) is ∙ binary_ok op e d z Left h a)

    pub bin_right : (z : ℤ) (r : Found ℤ) → number_of p f e frame objects ≡ Ok z → AreSides op z Right → r ≡ number_of p f d frame objects → r ≡ number_of p f x frame objects
    bin_right z r h a k = k ∙ sym (ap (λ y. number_of p f y frame objects) is ∙ binary_ok op e d z Right h a)

    pub bin_both_err : (z : ℤ) (o : Outcome) → number_of p f e frame objects ≡ Ok z → AreSides op z Both → number_of p f d frame objects ≡ Err o → Err o ≡ number_of p f x frame objects
    bin_both_err z o h a k = sym (ap (λ y. number_of p f y frame objects) is ∙ (binary_ok op e d z Both h a ∙ both_err op d z o k))

    pub bin_both : (z y : ℤ) (s : Result ℤ TrapKind) → number_of p f e frame objects ≡ Ok z → AreSides op z Both → number_of p f d frame objects ≡ Ok y → applied op z y ≡ s → of_trap s ≡ number_of p f x frame objects
    bin_both z y s h a k l = sym (ap (λ y. number_of p f y frame objects) is ∙ (binary_ok op e d z Both h a ∙ (both_ok op d z y k ∙ ap of_trap l)))

-- ---- values

-- a value's number goes on, to a value
abbrev on : (x : Found Value) (g : ℤ → Found Value) → Found Value
on x g = do
  v ← x
  z ← number_in v
  g z

pub on_ok : (x : Found Value) (g : ℤ → Found Value) (z : ℤ) → (x >>= number_in) ≡ Ok z → on x g ≡ g z
on_ok (Ok (one (number y))) g z e = ap g (ap value e)
  where
    value : Found ℤ → ℤ
    value (Ok q) = q
    value (Err o) = y
on_ok (Ok (one (reference n))) g z e = absurd (err-ok e)
on_ok (Ok (one (owned n))) g z e = absurd (err-ok e)
on_ok (Ok (of_case c parts keys)) g z e = absurd (err-ok e)
on_ok (Err o) g z e = absurd (err-ok e)

outcome_in : Found ℤ → Outcome → Outcome
outcome_in (Ok z) o = o
outcome_in (Err p) o = p

pub on_err : (x : Found Value) (g : ℤ → Found Value) (o : Outcome) → (x >>= number_in) ≡ Err o → on x g ≡ Err o
on_err (Ok (one (number y))) g o e = absurd (err-ok (sym e))
on_err (Ok (one (reference n))) g o e = ap again e
  where
    again : Found ℤ → Found Value
    again (Ok z) = Err o
    again (Err p) = Err p
on_err (Ok (one (owned n))) g o e = ap again e
  where
    again : Found ℤ → Found Value
    again (Ok z) = Err o
    again (Err p) = Err p
on_err (Ok (of_case c parts keys)) g o e = ap again e
  where
    again : Found ℤ → Found Value
    again (Ok z) = Err o
    again (Err p) = Err p
on_err (Err q) g o e = ap again e
  where
    again : Found ℤ → Found Value
    again (Ok z) = Err o
    again (Err p) = Err p

module _ (p : Program) (f : Func) (frame : Frame) (objects : List Object) (x e d : Expr) (op : Op) (is : x ≡ binary op e d) where
  pub bin_value : (z : ℤ) (side : Sides) (r : Found Value) → number_of p f e frame objects ≡ Ok z → AreSides op z side → r ≡ given_by side op z (value_of p f d frame objects) → r ≡ value_of p f x frame objects
  bin_value z side r h a k =
      k ∙ sym (ap (λ y. value_of p f y frame objects) is ∙ (on_ok (value_of p f e frame objects) (λ k. value_of_both op k (value_of p f d frame objects)) z h ∙ a (value_of p f d frame objects)))

  pub bin_value_err : (o : Outcome) → number_of p f e frame objects ≡ Err o → Err o ≡ value_of p f x frame objects
  bin_value_err o h = sym (ap (λ y. value_of p f y frame objects) is ∙ on_err (value_of p f e frame objects) (λ k. value_of_both op k (value_of p f d frame objects)) o h)
