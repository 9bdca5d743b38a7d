-- Variables that get values, one after another.
use Rattle.std.proofs.Common.{◌≡◌, ℕ, Bool, true, false, List, [], ◌∷◌, Some, None, slice_get, Result, Ok, Err, refl, sym, ap, subst, ◌∙◌}
use Rattle.std.specs.Prelude.{remove}
use Rattle.std.proofs.lemmas.Option.{none-some, same_Some}
use Rattle.vlt_core.specs.Core.{Func}
use Rattle.vlt_meaning.specs.World as m
use Rattle.vlt_meaning.specs.Step.{Step, goes, ends, with_var, is_fillable, fill, where_so}
use Rattle.vlt_meaning_laws.specs.Machine.Got.{Got, got, stopped, then_step, got_if, filled_got}
use Rattle.vlt_trace_worlds.specs.View.{outcome_of}
use Rattle.vlt_trace_worlds.specs.Steps.{told, told_got, told_step, Goes, Gives}
use Rattle.vlt_trace_worlds.specs.declared.stops.Halt.{Halt}
use Rattle.vlt_trace_worlds.specs.declared.stops.Halt.TheVariants.{Ends, Memory}
use Rattle.vlt_trace_steps.proofs.Leading.{not_given}

frame_of : Step → m.Frame → m.Frame
frame_of (goes frame w) other = frame
frame_of _ other = other

ends_goes : {o : m.Outcome} {u v : m.World} {g : m.Frame} → ends o u ≡ goes g v → ⊥
ends_goes e = cc

pub fill_one : (f : Func) (v : ℕ) (vs : List ℕ) (a : m.Value) (rest : List m.Value) (frame next : m.Frame) (w : m.World) → fill f v a frame w ≡ goes next w →
    filled_got f (v ∷ vs) (a ∷ rest) frame w ≡ filled_got f vs rest next w
unfolding fill where_so got_if frame_of
fill_one f v vs a rest frame next w e = by (is_fillable f v frame) e
  where
    by : (b : Bool) → where_so b m.not_empty None w (λ w. goes (with_var v (Some a) frame) w) ≡ goes next w → got_if b m.not_empty w (filled_got f vs rest (with_var v (Some a) frame) w) ≡ filled_got f vs rest next w
    by true e = ap (λ g. filled_got f vs rest (frame_of g frame) w) e
    by false e = absurd (ends_goes e)

to_got : m.World → Step → Got (Unit {0})
to_got w (ends o u) = stopped o u
to_got w _ = stopped (m.fault m.missing None) w

pub fill_halts : (f : Func) (v : ℕ) (vs : List ℕ) (a : m.Value) (rest : List m.Value) (frame next : m.Frame) (w : m.World) (h : Halt) → Goes (fill f v a frame w) (Err h) next w →
    Gives {A = Unit {0}} (λ u. u) (filled_got f (v ∷ vs) (a ∷ rest) frame w) (Err h) next w
unfolding fill where_so got_if to_got
fill_halts f v vs a rest frame next w (Ends s) e = by (is_fillable f v frame) e
  where
    by : (b : Bool) → told_step (where_so b m.not_empty None w (λ w. goes (with_var v (Some a) frame) w)) ≡ ends (outcome_of s) (told w) → told_got (got_if b m.not_empty w (filled_got f vs rest (with_var v (Some a) frame) w)) ≡ stopped (outcome_of s) (told w)
    by true e = absurd (ends_goes (sym e))
    by false e = ap (to_got w) e
fill_halts f v vs a rest frame next w Memory e = tt

-- what comes of variables that were filled
pub filled_goes : (y : Got (Unit {0})) (r : Result (Unit {0}) Halt) (frame : m.Frame) (w : m.World) → Gives (λ u. u) y r frame w → Goes (then_step y (λ u next v. goes next w)) r frame w
unfolding then_step
filled_goes y (Ok u) frame w h = ap (λ z. then_step z (λ u next v. goes next w)) h
filled_goes y (Err (Ends s)) frame w h = not_given y (outcome_of s) w (λ u next v. goes next w) h
filled_goes y (Err Memory) frame w h = tt

-- ---- in the words of the code

pub all_filled : (f : Func) (frame : m.Frame) (w : m.World) → filled_got f [] [] frame w ≡ got tt frame w
all_filled f frame w = refl

-- one variable got its value, and the others theirs
pub filled_more : (f : Func) (v : ℕ) (vs : List ℕ) (a : m.Value) (rest : List m.Value) (frame mid next : m.Frame) (w : m.World) (r : Result (Unit {0}) Halt) → fill f v a frame w ≡ goes mid w → Gives {A = Unit {0}} (λ u. u) (filled_got f vs rest mid w) r next w →
    Gives {A = Unit {0}} (λ u. u) (filled_got f (v ∷ vs) (a ∷ rest) frame w) r next w
filled_more f v vs a rest frame mid next w r e h = subst (λ y. Gives {A = Unit {0}} (λ u. u) y r next w) (sym (fill_one f v vs a rest frame mid w e)) h

pub filling_halts : (f : Func) (v : ℕ) (vs : List ℕ) (a : m.Value) (rest : List m.Value) (frame next : m.Frame) (w : m.World) (x : Result (Unit {0}) Halt) (h : Halt) (r : Result (Unit {0}) Halt) → r ≡ Err h → x ≡ Err h → Goes (fill f v a frame w) x next w →
    Gives {A = Unit {0}} (λ u. u) (filled_got f (v ∷ vs) (a ∷ rest) frame w) r next w
filling_halts f v vs a rest frame next w x h r k e g =
    subst (λ z. Gives {A = Unit {0}} (λ u. u) (filled_got f (v ∷ vs) (a ∷ rest) frame w) z next w) (sym k) (fill_halts f v vs a rest frame next w h (subst (λ z. Goes (fill f v a frame w) z next w) e g))

pub split_gives : (f : Func) (vs us : List ℕ) (values others : List m.Value) (frame next : m.Frame) (w : m.World) (r : Result (Unit {0}) Halt) → vs ≡ us → values ≡ others → Gives {A = Unit {0}} (λ u. u) (filled_got f us others frame w) r next w →
    Gives {A = Unit {0}} (λ u. u) (filled_got f vs values frame w) r next w
split_gives f vs us values others frame next w r e g h =
    subst (λ x. Gives {A = Unit {0}} (λ u. u) (filled_got f x values frame w) r next w) (sym e)
    (subst (λ y. Gives {A = Unit {0}} (λ u. u) (filled_got f us y frame w) r next w) (sym g) h)

-- the first value was taken out
pub first_removed : {A : Type 0} (xs : List A) (x : A) (ys : List A) → slice_get xs 0 ≡ Some x → ys ≡ remove xs 0 → xs ≡ x ∷ ys
first_removed [] x ys e h = absurd (none-some x e)
first_removed (y ∷ zs) x ys e h = ap (λ z. z ∷ zs) (same_Some y x e) ∙ ap (λ l. x ∷ l) (sym h)
