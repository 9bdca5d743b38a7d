-- Steps that go on with what is found, given or handed on, or end: where a call comes to what the definition finds, the code goes
-- on or returns the call's error.
use Rattle.std.proofs.Common.{◌≡◌, ℕ, Bool, true, false, Option, Some, Result, Ok, Err, IsErrAnd, sym, ap, subst, ◌∙◌}
use Rattle.std.proofs.lemmas.Result.{err_from_is_err_and}
use Rattle.vlt_meaning.specs.World as m
use Rattle.std.specs.Option.{option_map}
use Rattle.vlt_meaning.specs.Found.{Found, or_fault}
use Rattle.vlt_meaning.specs.Step.{Step, goes, ends, with_found, where_so}
use Rattle.vlt_meaning_laws.specs.Machine.Got.{Got, got, stopped, then_step}
use Rattle.vlt_trace_worlds.specs.View.{outcome_of, found_of}
use Rattle.vlt_trace_worlds.specs.Steps.{Finds, told, told_step, told_got, Goes, Gives}
use Rattle.vlt_trace_worlds.specs.declared.stops.Stop.{Stop}
use Rattle.vlt_trace_worlds.specs.declared.stops.Halt.{Halt}
use Rattle.vlt_trace_worlds.specs.declared.stops.Halt.TheVariants.{Ends, Memory}
use Rattle.vlt_trace_steps.specs.Hands.{Hands}

-- the error that a function returns
pub err_is : {T E : Type 0} (r : Result T E) (e : E) → IsErrAnd r (λ y. y ≡ e) → r ≡ Err e
err_is r e h = let told = err_from_is_err_and r h in told.1 ∙ ap Err told.2

-- the same step
pub same_goes : (a b : Step) (r : Result (Unit {0}) Halt) (frame : m.Frame) (w : m.World) → a ≡ b → Goes b r frame w → Goes a r frame w
same_goes a b r frame w e h = subst (λ x. Goes x r frame w) (sym e) h

pub same_hands : {A : Type 0} (a b : Step) (r : Result A Halt) (go : A → Step) (w : m.World) → a ≡ b → Hands b r go w → Hands a r go w
same_hands a b r go w e h = subst (λ x. Hands x r go w) (sym e) h

-- ---- how a call's end is told

pub no_memory : (a : Step) (r : Result (Unit {0}) Halt) (frame : m.Frame) (w : m.World) → r ≡ Err Memory → Goes a r frame w
no_memory a r frame w e = subst (λ x. Goes a x frame w) (sym e) tt

pub no_memory_hands : {A : Type 0} (a : Step) (r : Result A Halt) (go : A → Step) (w : m.World) → r ≡ Err Memory → Hands a r go w
no_memory_hands a r go w e = subst (λ x. Hands a x go w) (sym e) tt

pub ends_so : (a : Step) (r : Result (Unit {0}) Halt) (s : Stop) (frame : m.Frame) (w : m.World) → r ≡ Err (Ends s) → told_step a ≡ ends (outcome_of s) (told w) → Goes a r frame w
ends_so a r s frame w e h = subst (λ x. Goes a x frame w) (sym e) h

-- ---- what is found

pub found : {A : Type 0} (x : Found A) (a : A) (w : m.World) (go : A → Step) → Ok a ≡ x → with_found x w go ≡ go a
unfolding with_found
found x a w go e = ap (λ y. with_found y w go) (sym e)

pub not_found : {A : Type 0} (x : Found A) (o : m.Outcome) (w : m.World) (go : A → Step) → Err o ≡ x → told_step (with_found x w go) ≡ ends o (told w)
unfolding with_found
not_found x o w go e = ap (λ y. told_step (with_found y w go)) (sym e)

pub ok_stop : {A B : Type 0} (view : A → B) (x : Result A Stop) (a : A) (y : Found B) → x ≡ Ok a → found_of view x ≡ y → Ok (view a) ≡ y
ok_stop view x a y e h = sym (ap (found_of view) e) ∙ h

pub ok_found : {A B : Type 0} (view : A → B) (x : Result A Halt) (a : A) (y : Found B) → x ≡ Ok a → Finds view x y → Ok (view a) ≡ y
ok_found view x a y e h = subst (λ z. Finds view z y) e h

pub stop_ok : {A B : Type 0} (view : A → B) (x : Result A Stop) (a : A) (y : Found B) (w : m.World) (go : B → Step) → x ≡ Ok a → found_of view x ≡ y → with_found y w go ≡ go (view a)
stop_ok view x a y w go e h = found y (view a) w go (sym (ap (found_of view) e) ∙ h)

pub stop_err : {A B : Type 0} (view : A → B) (x : Result A Stop) (s : Stop) (y : Found B) (w : m.World) (go : B → Step) (r : Result (Unit {0}) Halt) (frame : m.Frame) → r ≡ Err (Ends s) → x ≡ Err s → found_of view x ≡ y → Goes (with_found y w go) r frame w
stop_err view x s y w go r frame k e h = ends_so (with_found y w go) r s frame w k (not_found y (outcome_of s) w go (sym (ap (found_of view) e) ∙ h))

pub stop_hands : {A B C : Type 0} (view : A → B) (x : Result A Stop) (s : Stop) (y : Found B) (w : m.World) (go : B → Step) (r : Result C Halt) (on : C → Step) → r ≡ Err (Ends s) → x ≡ Err s → found_of view x ≡ y → Hands (with_found y w go) r on w
stop_hands view x s y w go r on k e h = subst (λ z. Hands (with_found y w go) z on w) (sym k) (not_found y (outcome_of s) w go (sym (ap (found_of view) e) ∙ h))

pub finds_ok : {A B : Type 0} (view : A → B) (x : Result A Halt) (a : A) (y : Found B) (w : m.World) (go : B → Step) → x ≡ Ok a → Finds view x y → with_found y w go ≡ go (view a)
finds_ok view x a y w go e h = found y (view a) w go (subst (λ z. Finds view z y) e h)

halt_err : {A B : Type 0} (view : A → B) (h : Halt) (y : Found B) (w : m.World) (go : B → Step) (frame : m.Frame) → Finds view (Err h) y → Goes (with_found y w go) (Err h) frame w
halt_err view (Ends s) y w go frame e = not_found y (outcome_of s) w go e
halt_err view Memory y w go frame e = tt

pub finds_err : {A B : Type 0} (view : A → B) (x : Result A Halt) (h : Halt) (y : Found B) (w : m.World) (go : B → Step) (r : Result (Unit {0}) Halt) (frame : m.Frame) → r ≡ Err h → x ≡ Err h → Finds view x y → Goes (with_found y w go) r frame w
finds_err view x h y w go r frame k e f =
    subst (λ z. Goes (with_found y w go) z frame w) (sym k) (halt_err view h y w go frame (subst (λ z. Finds view z y) e f))

-- what is there, or a fault
pub some_found : {A B : Type 0} (view : A → B) (reason : m.Reason) (o : Option A) (a : A) (y : Option B) (w : m.World) (go : B → Step) → o ≡ Some a → option_map view o ≡ y → with_found (or_fault reason y) w go ≡ go (view a)
some_found view reason o a y w go e h = found (or_fault reason y) (view a) w go (ap (or_fault reason) (ap (option_map view) (sym e) ∙ h))

-- ---- tests

pub so : (b : Bool) (reason : m.Reason) (n : Option ℕ) (w : m.World) (go : m.World → Step) → b ≡ true → where_so b reason n w go ≡ go w
unfolding where_so
so b reason n w go e = ap (λ c. where_so c reason n w go) e

pub not_so : (b : Bool) (reason : m.Reason) (n : Option ℕ) (w : m.World) (go : m.World → Step) → b ≡ false → told_step (where_so b reason n w go) ≡ ends (m.fault reason n) (told w)
unfolding where_so
not_so b reason n w go e = ap (λ c. told_step (where_so c reason n w go)) e

-- ---- what is handed on

pub hands_ok : {A : Type 0} (a : Step) (x : Result A Halt) (v : A) (go : A → Step) (w : m.World) → x ≡ Ok v → Hands a x go w → a ≡ go v
hands_ok a x v go w e h = subst (λ z. Hands a z go w) e h

halts_so : {A : Type 0} (a : Step) (h : Halt) (go : A → Step) (frame : m.Frame) (w : m.World) → Hands a (Err h) go w → Goes a (Err h) frame w
halts_so a (Ends s) go frame w e = e
halts_so a Memory go frame w e = tt

pub hands_err : {A : Type 0} (a : Step) (x : Result A Halt) (h : Halt) (go : A → Step) (w : m.World) (r : Result (Unit {0}) Halt) (frame : m.Frame) → r ≡ Err h → x ≡ Err h → Hands a x go w → Goes a r frame w
hands_err a x h go w r frame k e f = subst (λ z. Goes a z frame w) (sym k) (halts_so a h go frame w (subst (λ z. Hands a z go w) e f))

halts_on : {A B : Type 0} (a : Step) (h : Halt) (go : A → Step) (on : B → Step) (w : m.World) → Hands a (Err h) go w → Hands a (Err h) on w
halts_on a (Ends s) go on w e = e
halts_on a Memory go on w e = tt

pub hands_err_on : {A B : Type 0} (a : Step) (x : Result A Halt) (h : Halt) (go : A → Step) (w : m.World) (r : Result B Halt) (on : B → Step) → r ≡ Err h → x ≡ Err h → Hands a x go w → Hands a r on w
hands_err_on a x h go w r on k e f = subst (λ z. Hands a z on w) (sym k) (halts_on a h go on w (subst (λ z. Hands a z go w) e f))

-- a step that only goes on
pub goes_of_hands : (a : Step) (r : Result (Unit {0}) Halt) (frame : m.Frame) (w : m.World) → Hands a r (λ u. goes frame w) w → Goes a r frame w
goes_of_hands a (Ok u) frame w h = h
goes_of_hands a (Err (Ends s)) frame w h = h
goes_of_hands a (Err Memory) frame w h = tt

-- ---- what is given

pub given : {A : Type 0} (x : Got A) (a : A) (frame : m.Frame) (w : m.World) (go : A → m.Frame → m.World → Step) → x ≡ got a frame w → then_step x go ≡ go a frame w
unfolding then_step
given x a frame w go e = ap (λ y. then_step y go) e

ended : {A : Type 0} → m.Outcome → m.World → Got A → Step
ended o w (got a frame u) = ends o w
ended o w (stopped p u) = ends p u

pub not_given : {A : Type 0} (x : Got A) (o : m.Outcome) (w : m.World) (go : A → m.Frame → m.World → Step) → told_got x ≡ stopped o (told w) → told_step (then_step x go) ≡ ends o (told w)
unfolding then_step ended
not_given (got a frame u) o w go e = cc
not_given (stopped p u) o w go e = ap (ended o w) e

pub gives_ok : {A B : Type 0} (view : A → B) (x : Result A Halt) (a : A) (y : Got B) (frame : m.Frame) (w : m.World) (go : B → m.Frame → m.World → Step) → x ≡ Ok a → Gives view y x frame w → then_step y go ≡ go (view a) frame w
gives_ok view x a y frame w go e h = given y (view a) frame w go (subst (λ z. Gives view y z frame w) e h)

halt_given : {A B : Type 0} (view : A → B) (h : Halt) (y : Got B) (frame next : m.Frame) (w : m.World) (go : B → m.Frame → m.World → Step) → Gives view y (Err h) frame w → Goes (then_step y go) (Err h) next w
halt_given view (Ends s) y frame next w go e = not_given y (outcome_of s) w go e
halt_given view Memory y frame next w go e = tt

pub gives_err : {A B : Type 0} (view : A → B) (x : Result A Halt) (h : Halt) (y : Got B) (frame : m.Frame) (w : m.World) (go : B → m.Frame → m.World → Step) (r : Result (Unit {0}) Halt) (next : m.Frame) → r ≡ Err h → x ≡ Err h → Gives view y x frame w → Goes (then_step y go) r next w
gives_err view x h y frame w go r next k e f =
    subst (λ z. Goes (then_step y go) z next w) (sym k) (halt_given view h y frame next w go (subst (λ z. Gives view y z frame w) e f))
