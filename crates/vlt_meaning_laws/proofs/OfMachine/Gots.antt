-- What is handed on from step to step is what is given as data.
use Rattle.std.proofs.Common.{◌≡◌, ℕ, Bool, true, false, List, [], ◌∷◌, Some, None, Ok, Err, refl, ◌∙◌}
use Rattle.vlt_core.specs.Core.{Operand, pure, move, pack, Func, Program}
use Rattle.vlt_core.specs.Lookups.{KeyIn}
use Rattle.vlt_meaning.specs.World.{owned, Value, one, held, loose, World, Frame, no_value, not_empty, Reason}
use Rattle.vlt_meaning.specs.Found.{Found, or_fault, Named}
use Rattle.vlt_meaning.specs.Objects.{with_owner}
use Rattle.vlt_meaning.specs.Values.{value_of, object_of}
use Rattle.vlt_meaning.specs.Step.{Step, with_found, where_so, with_changed, with_var, is_fillable, with_filled}
use Rattle.vlt_meaning.specs.Operands.{with_operand, with_operands, with_case_opened, case_object}
use Rattle.vlt_meaning_laws.specs.Machine.Got.{Got, got, stopped, then_step, then_got, found_in, got_if, operand_got, operands_got, opened_got, filled_got}

found_step : {A : Type 0} (x : Found A) (frame : Frame) (w : World) (go : A → Frame → World → Step) → with_found x w (λ a. go a frame w) ≡ then_step (found_in x frame w) go
unfolding with_found found_in then_step
found_step (Ok a) frame w go = refl
found_step (Err o) frame w go = refl

after_got : {A B : Type 0} (x : Got A) (f : A → Frame → World → Got B) (go : B → Frame → World → Step) → then_step x (λ a frame w. then_step (f a frame w) go) ≡ then_step (then_got x f) go
unfolding then_step then_got
after_got (got a frame w) f go = refl
after_got (stopped o w) f go = refl

-- the same in each continuation
same_step : {A : Type 0} (x : Got A) (f g : A → Frame → World → Step) → ((a : A) (frame : Frame) (w : World) → f a frame w ≡ g a frame w) → then_step x f ≡ then_step x g
unfolding then_step
same_step (got a frame w) f g h = h a frame w
same_step (stopped o w) f g h = refl

pub operand_step : (p : Program) (f : Func) (o : Operand) (frame : Frame) (w : World) (go : Value → Frame → World → Step) → with_operand p f o frame w go ≡ then_step (operand_got p f o frame w) go
unfolding with_operand then_step then_got
operand_step p f (pure e) frame w go = found_step (value_of p f e frame w.objects) frame w go
operand_step p f (move v) frame w go =
    found_step (or_fault no_value (frame.vars v)) frame w (λ a frame w. go a (with_var v None frame) w)
    ∙ after_moved (found_in (or_fault no_value (frame.vars v)) frame w)
  where
    after_moved : (x : Got Value) → then_step x (λ a frame w. go a (with_var v None frame) w) ≡ then_step (then_got x (λ a frame w. got a (with_var v None frame) w)) go
    after_moved (got a frame w) = refl
    after_moved (stopped o w) = refl
operand_step p f (pack x states) frame w go =
    found_step (object_of f (λ r. states) x frame w.objects) frame w (λ n frame w. go (one (owned n.number)) frame (with_changed w n.number (with_owner loose)))
    ∙ after_packed (found_in (object_of f (λ r. states) x frame w.objects) frame w)
  where
    after_packed : (y : Got Named) → then_step y (λ n frame w. go (one (owned n.number)) frame (with_changed w n.number (with_owner loose)))
        ≡ then_step (then_got y (λ n frame w. got (one (owned n.number)) frame (with_changed w n.number (with_owner loose)))) go
    after_packed (got a frame w) = refl
    after_packed (stopped o w) = refl

pub operands_step : (p : Program) (f : Func) (os : List Operand) (frame : Frame) (w : World) (go : List Value → Frame → World → Step) → with_operands p f os frame w go ≡ then_step (operands_got p f os frame w) go
unfolding with_operands then_step
operands_step p f [] frame w go = refl
operands_step p f (o ∷ os) frame w go =
    operand_step p f o frame w (λ a frame w. with_operands p f os frame w (λ rest frame w. go (a ∷ rest) frame w))
    ∙ same_step (operand_got p f o frame w) _ _ (λ a frame w. operands_step p f os frame w (λ rest frame w. go (a ∷ rest) frame w) ∙ after_got (operands_got p f os frame w) (λ rest frame w. got (a ∷ rest) frame w) go)
    ∙ after_got (operand_got p f o frame w) (λ a frame w. then_got (operands_got p f os frame w) (λ rest frame w. got (a ∷ rest) frame w)) go

pub opened_step : (ks : List KeyIn) (ns : List ℕ) (frame : Frame) (w : World) (go : World → Step) → with_case_opened ks ns frame w go ≡ then_step (opened_got ks ns frame w) (λ u frame w. go w)
unfolding with_case_opened then_step
opened_step (k ∷ ks) (n ∷ ns) frame w go =
    found_step (case_object k n frame w.objects) frame w (λ q frame w. with_case_opened ks ns frame (with_changed w n (with_owner (held frame.depth k.key))) go)
    ∙ same_step (found_in (case_object k n frame w.objects) frame w) _ _ (λ q frame w. opened_step ks ns frame (with_changed w n (with_owner (held frame.depth k.key))) go)
    ∙ after_got (found_in (case_object k n frame w.objects) frame w) (λ q frame w. opened_got ks ns frame (with_changed w n (with_owner (held frame.depth k.key)))) (λ u frame w. go w)
opened_step [] [] frame w go = refl
opened_step [] (n ∷ ns) frame w go = refl
opened_step (k ∷ ks) [] frame w go = refl

if_step : {A : Type 0} (b : Bool) (reason : Reason) (w : World) (x : Got A) (go : World → Step) (f : A → Frame → World → Step) → go w ≡ then_step x f → where_so b reason None w go ≡ then_step (got_if b reason w x) f
unfolding where_so got_if then_step
if_step true reason w x go f h = h
if_step false reason w x go f h = refl

pub filled_step : (f : Func) (vs : List ℕ) (values : List Value) (frame : Frame) (w : World) (go : Frame → Step) → with_filled f vs values frame w go ≡ then_step (filled_got f vs values frame w) (λ u frame w. go frame)
unfolding with_filled then_step
filled_step f (v ∷ vs) (a ∷ rest) frame w go =
    if_step (is_fillable f v frame) not_empty w (filled_got f vs rest (with_var v (Some a) frame) w) (λ w. with_filled f vs rest (with_var v (Some a) frame) w go) (λ u frame w. go frame)
    (filled_step f vs rest (with_var v (Some a) frame) w go)
filled_step f [] [] frame w go = refl
filled_step f [] (a ∷ rest) frame w go = refl
filled_step f (v ∷ vs) [] frame w go = refl
