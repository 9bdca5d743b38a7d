-- The numbers of expressions, from those of their parts.
use Rattle.std.proofs.Common.{◌≡◌, ◌⊎◌, inl, inr, ℤ, pos, Bool, true, List, Result, Ok, Err, Option, Some, None, IfSome, refl, sym, ap, ◌∙◌, subst}
use Rattle.std.specs.Result.{result_ok}
use Rattle.vlt_ops.specs.declared.Op.{Op}
use Rattle.vlt_ops.specs.declared.TrapKind.{TrapKind}
use Rattle.vlt_ops.specs.Operator.{applied}
use Rattle.vlt_core.specs.Core.{Expr, unary, binary, Func, Program}
use Rattle.vlt_heap.specs.declared.slots.Slot.{Slot}
use Rattle.vlt_heap.specs.declared.slots.Slot.TheVariants.{Number}
use Rattle.vlt_heap.specs.Items.{Items}
use Rattle.vlt_meaning.specs.World.{Value, one, number, reference, owned, of_case, Object, Frame, Outcome, trap, fault, done, fuel_end, heap_end, depth_end, input_end, answers_end, bad_answer, is_fault}
use Rattle.vlt_meaning.specs.Found.{Found, ◌>>=◌}
use Rattle.vlt_meaning.specs.Values.{number_in, or_trap, value_of_both, value_of, number_of}
use Rattle.vlt_meaning_laws.proofs.Keeping.{err-ok}
use Rattle.vlt_acts.specs.declared.values.exprs.Sides.{Sides}
use Rattle.vlt_acts.specs.Values.Shown.{IsNumber, IsFront}
use Rattle.vlt_acts.specs.Values.Asked.{of_both, given_by, IsAsked}

-- ---- what an answer says of the number

pub record Faulty {A : Type 0} (x : Found A) : Type 0 where
  pub outcome : Outcome
  pub is : x ≡ Err outcome
  pub fault : is_fault outcome ≡ true

-- a run that went wrong may answer anything
pub any_number : (r : Result ℤ TrapKind) (x : Found ℤ) → Faulty x → IsNumber r x
any_number r x f = subst (IsNumber r) (sym f.is) (by f.outcome f.fault)
  where
    by : (o : Outcome) → is_fault o ≡ true → IsNumber r (Err o)
    by done e = e
    by (trap t) e = absurd (subst is_so e tt)
      where
        is_so : Bool → Type 0
        is_so true = ⊥
        is_so _ = Unit {0}
    by fuel_end e = e
    by heap_end e = e
    by depth_end e = e
    by input_end e = e
    by answers_end e = e
    by (bad_answer n) e = e
    by (fault s n) e = e

abbrev ok_of : Result ℤ TrapKind → Type 0
ok_of (Ok z) = Unit {0}
ok_of (Err t) = ⊥

pub ok-err : {z : ℤ} {t : TrapKind} → ◌≡◌ {A = Result ℤ TrapKind} (Ok z) (Err t) → ⊥
ok-err e = subst ok_of e tt

pub number_is : (r : Result ℤ TrapKind) (x : Found ℤ) (z : ℤ) → IsNumber r x → r ≡ Ok z → (x ≡ Ok z) ⊎ Faulty x
number_is r x z is e = by x (subst (λ q. IsNumber q x) e is)
  where
    value : Result ℤ TrapKind → ℤ
    value (Ok y) = y
    value (Err t) = z

    by : (x : Found ℤ) → IsNumber (Ok z) x → (x ≡ Ok z) ⊎ Faulty x
    by (Ok y) h = inl (ap (λ q. Ok q) (sym (ap value h)))
    by (Err (trap t)) h = absurd (ok-err h)
    by (Err done) h = inr (record { outcome = done; is = refl; fault = h })
    by (Err fuel_end) h = inr (record { outcome = fuel_end; is = refl; fault = h })
    by (Err heap_end) h = inr (record { outcome = heap_end; is = refl; fault = h })
    by (Err depth_end) h = inr (record { outcome = depth_end; is = refl; fault = h })
    by (Err input_end) h = inr (record { outcome = input_end; is = refl; fault = h })
    by (Err answers_end) h = inr (record { outcome = answers_end; is = refl; fault = h })
    by (Err (bad_answer n)) h = inr (record { outcome = bad_answer n; is = refl; fault = h })
    by (Err (fault s n)) h = inr (record { outcome = fault s n; is = refl; fault = h })

pub trap_is : (r : Result ℤ TrapKind) (x : Found ℤ) (t : TrapKind) → IsNumber r x → r ≡ Err t → (x ≡ Err (trap t)) ⊎ Faulty x
trap_is r x t is e = by x (subst (λ q. IsNumber q x) e is)
  where
    kind : Result ℤ TrapKind → TrapKind
    kind (Ok y) = t
    kind (Err s) = s

    by : (x : Found ℤ) → IsNumber (Err t) x → (x ≡ Err (trap t)) ⊎ Faulty x
    by (Ok y) h = absurd (ok-err (sym h))
    by (Err (trap s)) h = inl (ap (λ q. Err (trap q)) (sym (ap kind h)))
    by (Err done) h = inr (record { outcome = done; is = refl; fault = h })
    by (Err fuel_end) h = inr (record { outcome = fuel_end; is = refl; fault = h })
    by (Err heap_end) h = inr (record { outcome = heap_end; is = refl; fault = h })
    by (Err depth_end) h = inr (record { outcome = depth_end; is = refl; fault = h })
    by (Err input_end) h = inr (record { outcome = input_end; is = refl; fault = h })
    by (Err answers_end) h = inr (record { outcome = answers_end; is = refl; fault = h })
    by (Err (bad_answer n)) h = inr (record { outcome = bad_answer n; is = refl; fault = h })
    by (Err (fault s n)) h = inr (record { outcome = fault s n; is = refl; fault = h })

-- ---- a slot's number

pub front_number : (items : Items) (a : Slot) (x : Found Value) (y : ℤ) → IsFront items a x → ((z : ℤ) → a ≡ Number z → y ≡ z) → IsNumber (Ok y) (x >>= number_in)
front_number items a (Ok (one (number z))) y front is = ap (λ q. Ok q) (is z front)
front_number items a (Ok (one (reference n))) y front is = refl
front_number items a (Ok (one (owned n))) y front is = refl
front_number items a (Ok (of_case c parts keys)) y front is = refl
front_number items a (Err o) y front is = any_number (Ok y) (Err o) (record { outcome = o; is = refl; fault = front })

-- ---- operators

-- the number of what an operator gives
pub applied_number : (s : Result ℤ TrapKind) (x : Result ℤ TrapKind) → s ≡ x → IsNumber s (or_trap x >>= number_in)
applied_number s (Ok z) e = e
applied_number s (Err t) e = e

-- a value's number goes on
abbrev next : (x : Found Value) (g : ℤ → Found Value) → Found ℤ
next x g = (do
  v ← x
  z ← number_in v
  g z) >>= number_in

next_ok : (x : Found Value) (g : ℤ → Found Value) (z : ℤ) → (x >>= number_in) ≡ Ok z → next x g ≡ (g z >>= number_in)
next_ok (Ok (one (number y))) g z e = ap (λ q. g q >>= number_in) (ap value e)
  where
    value : Found ℤ → ℤ
    value (Ok q) = q
    value (Err o) = y
next_ok (Ok (one (reference n))) g z e = absurd (err-ok e)
next_ok (Ok (one (owned n))) g z e = absurd (err-ok e)
next_ok (Ok (of_case c parts keys)) g z e = absurd (err-ok e)
next_ok (Err o) g z e = absurd (err-ok e)

next_err : (x : Found Value) (g : ℤ → Found Value) (o : Outcome) → (x >>= number_in) ≡ Err o → next x g ≡ Err o
next_err (Ok (one (number y))) g o e = absurd (err-ok (sym e))
next_err (Ok (one (reference n))) g o e = e
next_err (Ok (one (owned n))) g o e = e
next_err (Ok (of_case c parts keys)) g o e = e
next_err (Err q) g o e = e

module _ (p : Program) (f : Func) (frame : Frame) (objects : List Object) (op : Op) (e : Expr) (r : Result ℤ TrapKind) (first : IsNumber r (number_of p f e frame objects)) where
  pub unary_number : (z : ℤ) (s : Result ℤ TrapKind) → r ≡ Ok z → s ≡ applied op z (pos 0) → IsNumber s (number_of p f (unary op e) frame objects)
  unary_number z s is e2 = by (number_is r (number_of p f e frame objects) z first is)
    where
      g : ℤ → Found Value
      g k = or_trap (applied op k (pos 0))

      by : (number_of p f e frame objects ≡ Ok z) ⊎ Faulty (number_of p f e frame objects) → IsNumber s (number_of p f (unary op e) frame objects)
      by (inl h) = subst (IsNumber s) (sym (next_ok (value_of p f e frame objects) g z h)) (applied_number s (applied op z (pos 0)) e2)
      by (inr h) = any_number s _ (record { outcome = h.outcome; is = next_err (value_of p f e frame objects) g h.outcome h.is; fault = h.fault })

  pub unary_trap : (t : TrapKind) → r ≡ Err t → IsNumber (Err t) (number_of p f (unary op e) frame objects)
  unary_trap t is = by (trap_is r (number_of p f e frame objects) t first is)
    where
      g : ℤ → Found Value
      g k = or_trap (applied op k (pos 0))

      by : (number_of p f e frame objects ≡ Err (trap t)) ⊎ Faulty (number_of p f e frame objects) → IsNumber (Err t) (number_of p f (unary op e) frame objects)
      by (inl h) = subst (IsNumber (Err t)) (sym (next_err (value_of p f e frame objects) g (trap t) h)) refl
      by (inr h) = any_number (Err t) _ (record { outcome = h.outcome; is = next_err (value_of p f e frame objects) g h.outcome h.is; fault = h.fault })

  module _ (d : Expr) where
    abbrev right : ℤ → Found Value
    right k = value_of_both op k (value_of p f d frame objects)

    pub binary_trap : (t : TrapKind) → r ≡ Err t → IsNumber (Err t) (number_of p f (binary op e d) frame objects)
    binary_trap t is = by (trap_is r (number_of p f e frame objects) t first is)
      where
        by : (number_of p f e frame objects ≡ Err (trap t)) ⊎ Faulty (number_of p f e frame objects) → IsNumber (Err t) (number_of p f (binary op e d) frame objects)
        by (inl h) = subst (IsNumber (Err t)) (sym (next_err (value_of p f e frame objects) right (trap t) h)) refl
        by (inr h) = any_number (Err t) _ (record { outcome = h.outcome; is = next_err (value_of p f e frame objects) right h.outcome h.is; fault = h.fault })

    -- the left side's number is there: the rest is what the operator asks for
    pub binary_number : (z : ℤ) (s : Result ℤ TrapKind) (x : Sides) → r ≡ Ok z → IsAsked op z x → IsNumber s (given_by x op z (value_of p f d frame objects) >>= number_in) → IsNumber s (number_of p f (binary op e d) frame objects)
    binary_number z s x is asked given = by (number_is r (number_of p f e frame objects) z first is)
      where
        by : (number_of p f e frame objects ≡ Ok z) ⊎ Faulty (number_of p f e frame objects) → IsNumber s (number_of p f (binary op e d) frame objects)
        by (inl h) = subst (IsNumber s) (sym (next_ok (value_of p f e frame objects) right z h ∙ ap (λ q. q >>= number_in) (asked (value_of p f d frame objects)))) given
        by (inr h) = any_number s _ (record { outcome = h.outcome; is = next_err (value_of p f e frame objects) right h.outcome h.is; fault = h.fault })

    -- both sides
    pub both_number : (z y : ℤ) (q s : Result ℤ TrapKind) → IsNumber q (number_of p f d frame objects) → q ≡ Ok y → s ≡ applied op z y → IsNumber s (of_both op z (value_of p f d frame objects) >>= number_in)
    both_number z y q s second is e2 = by (number_is q (number_of p f d frame objects) y second is)
      where
        g : ℤ → Found Value
        g k = or_trap (applied op z k)

        by : (number_of p f d frame objects ≡ Ok y) ⊎ Faulty (number_of p f d frame objects) → IsNumber s (of_both op z (value_of p f d frame objects) >>= number_in)
        by (inl h) = subst (IsNumber s) (sym (next_ok (value_of p f d frame objects) g y h)) (applied_number s (applied op z y) e2)
        by (inr h) = any_number s _ (record { outcome = h.outcome; is = next_err (value_of p f d frame objects) g h.outcome h.is; fault = h.fault })

    pub both_trap : (z : ℤ) (t : TrapKind) (q : Result ℤ TrapKind) → IsNumber q (number_of p f d frame objects) → q ≡ Err t → IsNumber (Err t) (of_both op z (value_of p f d frame objects) >>= number_in)
    both_trap z t q second is = by (trap_is q (number_of p f d frame objects) t second is)
      where
        g : ℤ → Found Value
        g k = or_trap (applied op z k)

        by : (number_of p f d frame objects ≡ Err (trap t)) ⊎ Faulty (number_of p f d frame objects) → IsNumber (Err t) (of_both op z (value_of p f d frame objects) >>= number_in)
        by (inl h) = subst (IsNumber (Err t)) (sym (next_err (value_of p f d frame objects) g (trap t) h)) refl
        by (inr h) = any_number (Err t) _ (record { outcome = h.outcome; is = next_err (value_of p f d frame objects) g h.outcome h.is; fault = h.fault })

pub at_expr : (p : Program) (f : Func) (frame : Frame) (objects : List Object) (r : Result ℤ TrapKind) (x y : Expr) → x ≡ y → IsNumber r (number_of p f y frame objects) → IsNumber r (number_of p f x frame objects)
at_expr p f frame objects r x y e h = subst (λ z. IsNumber r (number_of p f z frame objects)) (sym e) h

-- the number that is left of an answer
pub ok_number : (r : Result ℤ TrapKind) (o : Option ℤ) (x : Found ℤ) → o ≡ result_ok r → IsNumber r x → IfSome o (λ z. IsNumber (Ok z) x)
ok_number (Ok z) o x e h = subst (λ q. IfSome q (λ z. IsNumber (Ok z) x)) (sym e) h
ok_number (Err t) o x e h = subst (λ q. IfSome q (λ z. IsNumber (Ok z) x)) (sym e) tt

pub each_number : (o : Option ℤ) (x y : Found ℤ) → ((z : ℤ) → IsNumber (Ok z) x → IsNumber (Ok z) y) → IfSome o (λ z. IsNumber (Ok z) x) → IfSome o (λ z. IsNumber (Ok z) y)
each_number None x y goes h = tt
each_number (Some z) x y goes h = goes z h

pub known_number : (o : Option ℤ) (z : ℤ) (x : Found ℤ) → o ≡ Some z → IfSome o (λ z. IsNumber (Ok z) x) → IsNumber (Ok z) x
known_number o z x e h = subst (λ q. IfSome q (λ z. IsNumber (Ok z) x)) e h
