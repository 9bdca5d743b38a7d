-- Values that are written.
use Rattle.std.proofs.Common.{◌≡◌, ◌≢◌, ◌⊎◌, inl, inr, ℕ, ℤ, ◌+◌, ◌*◌, ◌<◌, ◌≤◌, pos, true, List, [], ◌∷◌, length, Option, Some, None, Result, Ok, Err, refl, sym, ap, ◌∙◌, subst, arith, slice_get}
use Rattle.vlt_ops.specs.declared.Op.{Op}
use Rattle.vlt_ops.specs.declared.TrapKind.{TrapKind}
use Rattle.vlt_ops.specs.Operator.{applied}
use Rattle.vlt_core.specs.Core.{Expr, field, unary, binary, Func, Program}
use Rattle.std.proofs.lemmas.Bool.{false≢true}
use Rattle.vlt_rings.proofs.Lists.{equal_or_not}
use Rattle.vlt_rings.proofs.Rows.{below_or_above, row_fits}
use Rattle.vlt_heap.specs.declared.slots.Obj.{Obj}
use Rattle.vlt_heap.specs.declared.slots.Slot.{Slot}
use Rattle.vlt_heap.specs.declared.slots.Slot.TheVariants.{Number, Object}
use Rattle.vlt_heap.specs.declared.heap.Heap.{Heap}
use Rattle.vlt_heap.specs.Items.{Items, IsMadeAt}
use Rattle.vlt_meaning.specs.World.{Part, Value, one, number, reference, owned, of_case, Object as Thing, Frame, Outcome, trap, fault, done, fuel_end, heap_end, depth_end, input_end, answers_end, bad_answer, is_fault, missing, no_value}
use Rattle.vlt_meaning.specs.Found.{Found, ◌>>=◌, or_fault, Named}
use Rattle.vlt_meaning.specs.Values.{number_in, or_trap, value_of, number_of, touchable, value_of_both}
use Rattle.vlt_meaning_laws.proofs.Keeping.{err-ok}
use Rattle.vlt_acts.specs.declared.values.exprs.Sides.{Sides}
use Rattle.vlt_acts.specs.declared.values.values.Values.{Values}
use Rattle.vlt_acts.specs.Values.Parts.{padded_parts, HaveParts, HaveValue}
use Rattle.vlt_acts.specs.Values.Filled.{IsFilled, IsCellSlot, IsSingleSlot}
use Rattle.vlt_acts.specs.Values.Asked.{of_both, given_by, IsAsked}
use Rattle.vlt_acts.specs.Values.Shown.{var_at, AreApart, IsPlace, IsVarSlot, Seen, IsNumber, IsNumeric, IsCopied, IsWritten}
use Rattle.vlt_acts.proofs.OfValues.Touching.{OrFault, Touched, touched, touch_fault}
use Rattle.vlt_acts.proofs.OfValues.Fronts.{IsSlotAt, following, same_object, IsNoObject, referred}
use Rattle.vlt_acts.proofs.OfValues.Padding.{length_padded, single_value}
use Rattle.vlt_acts.proofs.OfValues.Numbers.{Faulty, number_is, trap_is, ok-err}

-- ---- values that are copied

have_moved : (items : Items) (slots news : List Slot) (from to w d : ℕ) (ps : List Part) → d + length ps ≤ w → ((j : ℕ) (a : Slot) → j < w → slice_get slots (from + j) ≡ Some a → slice_get news (to + j) ≡ Some a)
    → HaveParts items slots (from + d) ps → HaveParts items news (to + d) ps
have_moved items slots news from to w d [] l same parts = tt
have_moved items slots news from to w d (p ∷ ps) l same parts =
    let h = parts.0 in (
      record { slot = h.slot; at = same d h.slot (omega (arith, l)) h.at; part = h.part },
      subst (λ k. HaveParts items news k ps) (omega arith)
          (have_moved items slots news from to w (d + 1) ps (omega (arith, l)) same (subst (λ k. HaveParts items slots k ps) (omega arith) parts.1)),
    )

pub value_moved : (items : Items) (slots news : List Slot) (from to w : ℕ) (a : Value) → ((j : ℕ) (b : Slot) → j < w → slice_get slots (from + j) ≡ Some b → slice_get news (to + j) ≡ Some b) → HaveValue items slots from w a → HaveValue items news to w a
value_moved items slots news from to w a same has = record {
  narrow = has.narrow;
  parts = subst (λ k. HaveParts items news k (padded_parts w a)) (omega arith)
      (have_moved items slots news from to w 0 (padded_parts w a) (let n = length_padded w a has.narrow in omega (arith, n)) same (subst (λ k. HaveParts items slots k (padded_parts w a)) (omega arith) has.parts));
}

pub apart_from : (values : Values) (x to : ℕ) → x < values.vars → IsPlace values to → AreApart (var_at values x) to values.width
apart_from values x to l (inr m) = inr (inl (let k = row_fits x values.vars values.width values.width l (omega arith) in omega (arith, k, m)))
apart_from values x to l (inl p) = by (equal_or_not x p.0)
  where
    by : (x ≡ p.0) ⊎ (x ≢ p.0) → AreApart (var_at values x) to values.width
    by (inl e) = inl (ap (var_at values) e ∙ sym p.2)
    by (inr d) = other (below_or_above x p.0 d)
      where
        other : (x < p.0) ⊎ (p.0 < x) → AreApart (var_at values x) to values.width
        other (inl m) = inr (inl (let k = row_fits x p.0 values.width values.width m (omega arith) in let e = p.2 in omega (arith, k, e)))
        other (inr m) = inr (inr (let k = row_fits p.0 x values.width values.width m (omega arith) in let e = p.2 in omega (arith, k, e)))

pub var_copied : (h : Heap) (old new : Values) (c : Seen h old) (x to : ℕ) → IsPlace old to → new.width ≡ old.width → (AreApart (var_at old x) to old.width → IsFilled (IsVarSlot old x) new.slots.items to old.width) → IsCopied c.items new to (or_fault no_value (c.frame.vars x))
var_copied h old new c x to place width filled = by (c.frame.vars x) refl
  where
    by : (w : Option Value) → c.frame.vars x ≡ w → IsCopied c.items new to (or_fault no_value w)
    by None e = refl
    by (Some w) e =
        let has = c.fits.vars x w e in
        subst (λ k. HaveValue c.items new.slots.items to k w) (sym width)
        (value_moved c.items old.slots.items new.slots.items (var_at old x) to old.width w (λ j b l at. filled (apart_from old x to has.within place) j b l at) has.value)

pub field_copied : (h : Heap) (old new : Values) (c : Seen h old) (x i to : ℕ) → new.width ≡ old.width → ((m : Named) (w : Value) → Touched x c.frame c.objects m → slice_get m.object.cells i ≡ Some w → HaveValue c.items new.slots.items to old.width w)
    → IsCopied c.items new to (value_of c.program c.func (field x i) c.frame c.objects)
field_copied h old new c x i to width is = by (touchable c.program c.func x i c.frame c.objects) refl (touch_fault c.program c.func x i c.frame c.objects)
  where
    cell : (m : Named) → touchable c.program c.func x i c.frame c.objects ≡ Ok m → (w : Option Value) → slice_get m.object.cells i ≡ w → IsCopied c.items new to (or_fault missing w)
    cell m e None at = refl
    cell m e (Some w) at = subst (λ k. HaveValue c.items new.slots.items to k w) (sym width) (is m w (touched c.program c.func x i c.frame c.objects m e) at)

    by : (q : Found Named) → touchable c.program c.func x i c.frame c.objects ≡ q → OrFault q → IsCopied c.items new to (q >>= (λ m. or_fault missing (slice_get m.object.cells i)))
    by (Ok m) e bad = cell m e (slice_get m.object.cells i) refl
    by (Err o) e bad = bad

pub cell_copied : (h : Heap) (old new : Values) (c : Seen h old) (x i to : ℕ) (a : Slot) (o : Obj) (n : ℕ) → IsSlotAt old.slots.items (var_at old x) a → a ≡ Object o n → new.width ≡ old.width → IsFilled (λ j. IsCellSlot h o n (i * old.width + j)) new.slots.items to old.width
    → IsCopied c.items new to (value_of c.program c.func (field x i) c.frame c.objects)
cell_copied h old new c x i to a o n is e width filled = field_copied h old new c x i to width (λ m w t at.
    let ref = referred h old c x a is m t in
    let s = same_object (sym e ∙ ref.is) in
    let b = following c.items old.width m.number c.objects m.object c.shown t.at t.live in
    value_moved c.items b.item.slots new.slots.items (i * old.width) to old.width w (λ j q l at_q. filled j q l (record {
      items = c.items;
      holds = c.holds;
      made = subst (λ z. IsMadeAt c.items z.0 n) (sym s.0) (subst (IsMadeAt c.items ref.object.0) (sym s.1) ref.made);
      item = b.item;
      at = ap (slice_get c.items) s.1 ∙ b.at;
      slot = at_q;
    })) (b.shown.cells i w at))

pub nowhere_copied : (h : Heap) (old new : Values) (c : Seen h old) (x i to : ℕ) (a : Slot) → IsSlotAt old.slots.items (var_at old x) a → IsNoObject a → new.width ≡ old.width → IsCopied c.items new to (value_of c.program c.func (field x i) c.frame c.objects)
nowhere_copied h old new c x i to a is none width = field_copied h old new c x i to width (λ m w t at. let ref = referred h old c x a is m t in absurd (none ref.object m.number ref.is))

-- what was copied was written
pub copied_written : (items : Items) (values : Values) (to : ℕ) (x : Found Value) → IsCopied items values to x → IsWritten items values to (Ok tt) x
copied_written items values to (Ok a) has = record { is = refl; value = has }
copied_written items values to (Err done) bad = bad
copied_written items values to (Err (trap t)) bad = absurd (false≢true bad)
copied_written items values to (Err fuel_end) bad = bad
copied_written items values to (Err heap_end) bad = bad
copied_written items values to (Err depth_end) bad = bad
copied_written items values to (Err input_end) bad = bad
copied_written items values to (Err answers_end) bad = bad
copied_written items values to (Err (bad_answer n)) bad = bad
copied_written items values to (Err (fault r n)) bad = bad

pub any_written : (items : Items) (values : Values) (to : ℕ) (r : Result (Unit {0}) TrapKind) (x : Found Value) → Faulty x → IsWritten items values to r x
any_written items values to r x f = subst (IsWritten items values to r) (sym f.is) (by f.outcome f.fault)
  where
    by : (o : Outcome) → is_fault o ≡ true → IsWritten items values to r (Err o)
    by done e = e
    by (trap t) e = absurd (false≢true e)
    by fuel_end e = e
    by heap_end e = e
    by depth_end e = e
    by input_end e = e
    by answers_end e = e
    by (bad_answer n) e = e
    by (fault s n) e = e

-- ---- numbers that are written

-- a number was written, or there was none
pub number_put : (items : Items) (values : Values) (to : ℕ) (x : Found Value) (z : ℤ) → IsNumeric x → IsNumber (Ok z) (x >>= number_in) → 1 ≤ values.width → IsFilled (IsSingleSlot (Number z)) values.slots.items to values.width → IsWritten items values to (Ok tt) x
number_put items values to (Ok (one (number y))) z numeric is wide filled = record {
  is = refl;
  value = single_value items values.slots.items to values.width (Number z) (number y) wide (ap (λ q. Number (value q)) is) filled;
}
  where
    value : Result ℤ TrapKind → ℤ
    value (Ok q) = q
    value (Err t) = y
number_put items values to (Ok (one (reference n))) z numeric is wide filled = absurd numeric
number_put items values to (Ok (one (owned n))) z numeric is wide filled = absurd numeric
number_put items values to (Ok (of_case d parts keys)) z numeric is wide filled = absurd numeric
number_put items values to (Err o) z numeric is wide filled = by (number_is (Ok z) (Err o) z is refl)
  where
    by : (◌≡◌ {A = Found ℤ} (Err o) (Ok z)) ⊎ Faulty {A = ℤ} (Err o) → IsWritten items values to (Ok tt) (Err o)
    by (inl e) = absurd (err-ok e)
    by (inr f) = any_written items values to (Ok tt) (Err o) (record { outcome = o; is = refl; fault = subst (λ q. is_fault q ≡ true) (ap outcome (sym f.is)) f.fault })
      where
        outcome : Found ℤ → Outcome
        outcome (Ok q) = o
        outcome (Err q) = q

pub trap_put : (items : Items) (values : Values) (to : ℕ) (x : Found Value) (t : TrapKind) → IsNumeric x → IsNumber (Err t) (x >>= number_in) → IsWritten items values to (Err t) x
trap_put items values to (Ok (one (number y))) t numeric is = absurd (ok-err (sym is))
trap_put items values to (Ok (one (reference n))) t numeric is = absurd numeric
trap_put items values to (Ok (one (owned n))) t numeric is = absurd numeric
trap_put items values to (Ok (of_case d parts keys)) t numeric is = absurd numeric
trap_put items values to (Err done) t numeric is = is
trap_put items values to (Err (trap s)) t numeric is = ap (λ q. Err (kind q)) is
  where
    kind : Result ℤ TrapKind → TrapKind
    kind (Ok q) = t
    kind (Err q) = q
trap_put items values to (Err fuel_end) t numeric is = is
trap_put items values to (Err heap_end) t numeric is = is
trap_put items values to (Err depth_end) t numeric is = is
trap_put items values to (Err input_end) t numeric is = is
trap_put items values to (Err answers_end) t numeric is = is
trap_put items values to (Err (bad_answer n)) t numeric is = is
trap_put items values to (Err (fault r n)) t numeric is = is

-- ---- operators

then_ok : (x : Found Value) (g : ℤ → Found Value) (z : ℤ) → (x >>= number_in) ≡ Ok z → (x >>= (λ v. number_in v >>= g)) ≡ g z
then_ok (Ok (one (number y))) g z e = ap (λ q. g (value q)) e
  where
    value : Found ℤ → ℤ
    value (Ok q) = q
    value (Err o) = y
then_ok (Ok (one (reference n))) g z e = absurd (err-ok e)
then_ok (Ok (one (owned n))) g z e = absurd (err-ok e)
then_ok (Ok (of_case c parts keys)) g z e = absurd (err-ok e)
then_ok (Err o) g z e = absurd (err-ok e)

then_err : (x : Found Value) (g : ℤ → Found Value) (o : Outcome) → (x >>= number_in) ≡ Err o → (x >>= (λ v. number_in v >>= g)) ≡ Err o
then_err (Ok (one (number y))) g o e = absurd (err-ok (sym e))
then_err (Ok (one (reference n))) g o e = ap (λ q. Err (outcome q)) e
  where
    outcome : Found ℤ → Outcome
    outcome (Ok q) = o
    outcome (Err q) = q
then_err (Ok (one (owned n))) g o e = ap (λ q. Err (outcome q)) e
  where
    outcome : Found ℤ → Outcome
    outcome (Ok q) = o
    outcome (Err q) = q
then_err (Ok (of_case c parts keys)) g o e = ap (λ q. Err (outcome q)) e
  where
    outcome : Found ℤ → Outcome
    outcome (Ok q) = o
    outcome (Err q) = q
then_err (Err p) g o e = ap (λ q. Err (outcome q)) e
  where
    outcome : Found ℤ → Outcome
    outcome (Ok q) = o
    outcome (Err q) = q

pub numeric_trap : (r : Result ℤ TrapKind) → IsNumeric (or_trap r)
numeric_trap (Ok z) = tt
numeric_trap (Err t) = tt

numeric_then : (x : Found Value) (g : ℤ → Found Value) → ((z : ℤ) → IsNumeric (g z)) → IsNumeric (x >>= (λ v. number_in v >>= g))
numeric_then (Ok (one (number z))) g h = h z
numeric_then (Ok (one (reference n))) g h = tt
numeric_then (Ok (one (owned n))) g h = tt
numeric_then (Ok (of_case c parts keys)) g h = tt
numeric_then (Err o) g h = tt

pub numeric_unary : (p : Program) (f : Func) (frame : Frame) (objects : List Thing) (op : Op) (e : Expr) → IsNumeric (value_of p f (unary op e) frame objects)
numeric_unary p f frame objects op e = numeric_then (value_of p f e frame objects) _ (λ z. numeric_trap (applied op z (pos 0)))

pub numeric_both : (op : Op) (z : ℤ) (x : Found Value) → IsNumeric (of_both op z x)
numeric_both op z x = numeric_then x _ (λ y. numeric_trap (applied op z y))

module _ (p : Program) (f : Func) (frame : Frame) (objects : List Thing) (op : Op) (e d : Expr) (r : Result ℤ TrapKind) (first : IsNumber r (number_of p f e frame objects)) (items : Items) (values : Values) (to : ℕ) where
  abbrev right : ℤ → Found Value
  right k = value_of_both op k (value_of p f d frame objects)

  pub written_binary : (z : ℤ) (s : Result (Unit {0}) TrapKind) (x : Sides) → r ≡ Ok z → IsAsked op z x → IsWritten items values to s (given_by x op z (value_of p f d frame objects)) → IsWritten items values to s (value_of p f (binary op e d) frame objects)
  written_binary z s x is asked given = by (number_is r (number_of p f e frame objects) z first is)
    where
      by : (number_of p f e frame objects ≡ Ok z) ⊎ Faulty (number_of p f e frame objects) → IsWritten items values to s (value_of p f (binary op e d) frame objects)
      by (inl h) = subst (IsWritten items values to s) (sym (then_ok (value_of p f e frame objects) right z h ∙ asked (value_of p f d frame objects))) given
      by (inr h) = any_written items values to s _ (record { outcome = h.outcome; is = then_err (value_of p f e frame objects) right h.outcome h.is; fault = h.fault })

  pub trapped_binary : (t : TrapKind) → r ≡ Err t → IsWritten items values to (Err t) (value_of p f (binary op e d) frame objects)
  trapped_binary t is = by (trap_is r (number_of p f e frame objects) t first is)
    where
      by : (number_of p f e frame objects ≡ Err (trap t)) ⊎ Faulty (number_of p f e frame objects) → IsWritten items values to (Err t) (value_of p f (binary op e d) frame objects)
      by (inl h) = subst (IsWritten items values to (Err t)) (sym (then_err (value_of p f e frame objects) right (trap t) h)) refl
      by (inr h) = any_written items values to (Err t) _ (record { outcome = h.outcome; is = then_err (value_of p f e frame objects) right h.outcome h.is; fault = h.fault })

pub trapped_both : (op : Op) (z : ℤ) (x : Found Value) (q : Result ℤ TrapKind) (t : TrapKind) (items : Items) (values : Values) (to : ℕ) → IsNumber q (x >>= number_in) → q ≡ Err t → IsWritten items values to (Err t) (of_both op z x)
trapped_both op z x q t items values to second is = by (trap_is q (x >>= number_in) t second is)
  where
    g : ℤ → Found Value
    g k = or_trap (applied op z k)

    by : ((x >>= number_in) ≡ Err (trap t)) ⊎ Faulty (x >>= number_in) → IsWritten items values to (Err t) (of_both op z x)
    by (inl h) = subst (IsWritten items values to (Err t)) (sym (then_err x g (trap t) h)) refl
    by (inr h) = any_written items values to (Err t) _ (record { outcome = h.outcome; is = then_err x g h.outcome h.is; fault = h.fault })

pub trapped_unary : (p : Program) (f : Func) (frame : Frame) (objects : List Thing) (op : Op) (e : Expr) (q : Result ℤ TrapKind) (t : TrapKind) (items : Items) (values : Values) (to : ℕ) → IsNumber q (number_of p f e frame objects) → q ≡ Err t
    → IsWritten items values to (Err t) (value_of p f (unary op e) frame objects)
trapped_unary p f frame objects op e q t items values to second is = by (trap_is q (number_of p f e frame objects) t second is)
  where
    g : ℤ → Found Value
    g k = or_trap (applied op k (pos 0))

    by : (number_of p f e frame objects ≡ Err (trap t)) ⊎ Faulty (number_of p f e frame objects) → IsWritten items values to (Err t) (value_of p f (unary op e) frame objects)
    by (inl h) = subst (IsWritten items values to (Err t)) (sym (then_err (value_of p f e frame objects) g (trap t) h)) refl
    by (inr h) = any_written items values to (Err t) _ (record { outcome = h.outcome; is = then_err (value_of p f e frame objects) g h.outcome h.is; fault = h.fault })

pub at_form : (p : Program) (f : Func) (frame : Frame) (objects : List Thing) (items : Items) (values : Values) (to : ℕ) (r : Result (Unit {0}) TrapKind) (x y : Expr) → x ≡ y → IsWritten items values to r (value_of p f y frame objects)
    → IsWritten items values to r (value_of p f x frame objects)
at_form p f frame objects items values to r x y e h = subst (λ z. IsWritten items values to r (value_of p f z frame objects)) (sym e) h

-- ---- a variable that gets a value

pub var_fits : (values : Values) (v : ℕ) → v < values.vars → values.base + values.vars * values.width ≤ length values.slots.items → var_at values v + values.width ≤ length values.slots.items
var_fits values v l table = let k = row_fits v values.vars values.width values.width l (omega arith) in omega (arith, k, table)
