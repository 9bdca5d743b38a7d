-- Operands one after another.
use Rattle.std.proofs.Common.{◌≡◌, List, [], ◌∷◌, ◌++◌, Result, Ok, Err, refl, sym, ap, subst, append_assoc, ◌∙◌}
use Rattle.vlt_core.specs.Core.{Operand, Func, Program}
use Rattle.vlt_meaning.specs.World as m
use Rattle.vlt_meaning.specs.Found.{Found}
use Rattle.vlt_meaning_laws.specs.Machine.Got.{Got, got, stopped, then_got, found_in, operand_got, operands_got}
use Rattle.vlt_trace_worlds.specs.View.{outcome_of, found_of}
use Rattle.vlt_trace_worlds.specs.Steps.{Finds, told, told_got, Gives}
use Rattle.vlt_trace_worlds.specs.declared.stops.Stop.{Stop}
use Rattle.vlt_trace_worlds.specs.declared.stops.Halt.{Halt}
use Rattle.vlt_trace_worlds.specs.declared.stops.Halt.TheVariants.{Ends, Memory}
use Rattle.vlt_trace_steps.proofs.Loops.{push_nil}

-- values stand after others
abbrev pub after : List m.Value → List m.Value → m.Frame → m.World → Got (List m.Value)
after values rest frame w = got (values ++ rest) frame w

all_after : (x : Got (List m.Value)) → then_got x (after []) ≡ x
unfolding then_got
all_after (got a frame w) = refl
all_after (stopped o w) = refl

pub no_operand : (p : Program) (f : Func) (os : List Operand) (frame : m.Frame) (w : m.World) → then_got (operands_got p f os frame w) (after []) ≡ operands_got p f os frame w
no_operand p f os frame w = all_after (operands_got p f os frame w)

one_after : (x : Got (List m.Value)) (values : List m.Value) (a : m.Value) → then_got (then_got x (λ rest frame w. got (a ∷ rest) frame w)) (after values) ≡ then_got x (after (values ++ a ∷ []))
unfolding then_got
one_after (got rest frame w) values a = ap (λ l. got l frame w) (sym (append_assoc values (a ∷ []) rest))
one_after (stopped o w) values a = refl

-- one operand more was taken
pub next_operand : (p : Program) (f : Func) (o : Operand) (os : List Operand) (frame next : m.Frame) (w v : m.World) (values : List m.Value) (a : m.Value) → operand_got p f o frame w ≡ got a next v →
    then_got (operands_got p f os next v) (after (values ++ a ∷ [])) ≡ then_got (operands_got p f (o ∷ os) frame w) (after values)
unfolding then_got
next_operand p f o os frame next w v values a e =
    sym (ap (λ x. then_got (then_got x (λ a frame w. then_got (operands_got p f os frame w) (λ rest frame w. got (a ∷ rest) frame w))) (after values)) e
    ∙ one_after (operands_got p f os next v) values a)

stopped_twice : {A B C : Type 0} (x : Got A) (f : A → m.Frame → m.World → Got B) (g : B → m.Frame → m.World → Got C) (o : m.Outcome) (w : m.World) → told_got x ≡ stopped o (told w) → told_got (then_got (then_got x f) g) ≡ stopped o (told w)
unfolding then_got
stopped_twice (got a frame v) f g o w e = cc
stopped_twice (stopped p v) f g o w e = cc

-- an operand stops them
pub operand_halts : (p : Program) (f : Func) (o : Operand) (os : List Operand) (frame next : m.Frame) (w v : m.World) (values : List m.Value) {A : Type 0} (view : A → m.Value) {B : Type 0} (all : B → List m.Value) (h : Halt) (x : Got (List m.Value)) →
    Gives view (operand_got p f o frame w) (Err h) next v → then_got (operands_got p f (o ∷ os) frame w) (after values) ≡ x → Gives all x (Err h) next v
operand_halts p f o os frame next w v values view all (Ends s) x h e =
    ap told_got (sym e) ∙ stopped_twice (operand_got p f o frame w) _ (after values) (outcome_of s) v h
operand_halts p f o os frame next w v values view all Memory x h e = tt

-- ---- one operand

pub found_given : {A B : Type 0} (view : A → B) (x : Found B) (r : Result A Halt) (frame : m.Frame) (w : m.World) → Finds view r x → Gives view (found_in x frame w) r frame w
unfolding found_in
found_given view x (Ok a) frame w h = ap (λ y. found_in y frame w) (sym h)
found_given view x (Err (Ends s)) frame w h = ap (λ y. told_got (found_in y frame w)) (sym h)
found_given view x (Err Memory) frame w h = tt

pub found_then : {A B : Type 0} (x : Found A) (a : A) (f : A → m.Frame → m.World → Got B) (frame : m.Frame) (w : m.World) → Ok a ≡ x → then_got (found_in x frame w) f ≡ f a frame w
unfolding found_in then_got
found_then x a f frame w e = ap (λ y. then_got (found_in y frame w) f) (sym e)

pub stop_then : {A B C D : Type 0} (view : A → B) (x : Result A Stop) (s : Stop) (y : Found B) (f : B → m.Frame → m.World → Got C) (frame next : m.Frame) (w : m.World) (r : Result D Halt) (other : D → C) → r ≡ Err (Ends s) → x ≡ Err s → found_of view x ≡ y → Gives other (then_got (found_in y frame w) f) r next w
unfolding found_in then_got
stop_then view x s y f frame next w r other k e h =
    subst (λ z. Gives other (then_got (found_in y frame w) f) z next w) (sym k) (ap (λ z. told_got (then_got (found_in z frame w) f)) (sym (sym (ap (found_of view) e) ∙ h)))

halt_then : {A B C D : Type 0} (view : A → B) (h : Halt) (y : Found B) (f : B → m.Frame → m.World → Got C) (frame next : m.Frame) (w : m.World) (other : D → C) → Finds view (Err h) y → Gives other (then_got (found_in y frame w) f) (Err h) next w
unfolding found_in then_got
halt_then view (Ends s) y f frame next w other e = ap (λ z. told_got (then_got (found_in z frame w) f)) (sym e)
halt_then view Memory y f frame next w other e = tt

pub finds_then : {A B C D : Type 0} (view : A → B) (x : Result A Halt) (h : Halt) (y : Found B) (f : B → m.Frame → m.World → Got C) (frame next : m.Frame) (w : m.World) (r : Result D Halt) (other : D → C) → r ≡ Err h → x ≡ Err h → Finds view x y → Gives other (then_got (found_in y frame w) f) r next w
finds_then view x h y f frame next w r other k e g =
    subst (λ z. Gives other (then_got (found_in y frame w) f) z next w) (sym k) (halt_then view h y f frame next w other (subst (λ z. Finds view z y) e g))

pub no_memory_gives : {A B : Type 0} (view : A → B) (x : Got B) (r : Result A Halt) (frame : m.Frame) (w : m.World) → r ≡ Err Memory → Gives view x r frame w
no_memory_gives view x r frame w e = subst (λ z. Gives view x z frame w) (sym e) tt

pub given_got : {A B : Type 0} (view : A → B) (x : Result A Halt) (a : A) (y : Got B) (frame : m.Frame) (w : m.World) → x ≡ Ok a → Gives view y x frame w → y ≡ got (view a) frame w
given_got view x a y frame w e h = subst (λ z. Gives view y z frame w) e h

-- ---- all operands

-- one operand more was taken, in the words of the code
pub next_taken : (p : Program) (f : Func) (os rest : List Operand) (o : Operand) (frame next : m.Frame) (w v : m.World) (values pushed : List m.Value) (a : m.Value) (all : Got (List m.Value)) → os ≡ o ∷ rest → operand_got p f o frame w ≡ got a next v → pushed ≡ values ++ a ∷ [] →
    then_got (operands_got p f os frame w) (after values) ≡ all → then_got (operands_got p f rest next v) (after pushed) ≡ all
next_taken p f os rest o frame next w v values pushed a all split e push h =
    ap (λ l. then_got (operands_got p f rest next v) (after l)) push
    ∙ (next_operand p f o rest frame next w v values a e
    ∙ (ap (λ l. then_got (operands_got p f l frame w) (after values)) (sym split) ∙ h))

pub taking_halts : (p : Program) (f : Func) (os rest : List Operand) (o : Operand) (frame next : m.Frame) (w v : m.World) (values : List m.Value) (all : Got (List m.Value)) {A B : Type 0} (view : A → m.Value) (views : B → List m.Value) (x : Result A Halt) (h : Halt) (r : Result B Halt) → os ≡ o ∷ rest → r ≡ Err h → x ≡ Err h → Gives view (operand_got p f o frame w) x next v →
    then_got (operands_got p f os frame w) (after values) ≡ all → Gives views all r next v
taking_halts p f os rest o frame next w v values all view views x h r split k e g is =
    subst (λ z. Gives views all z next v) (sym k)
    (operand_halts p f o rest frame next w v values view views h all (subst (λ z. Gives view (operand_got p f o frame w) z next v) e g)
    (ap (λ l. then_got (operands_got p f l frame w) (after values)) (sym split) ∙ is))

nil_after : (values : List m.Value) (frame : m.Frame) (w : m.World) → then_got (got [] frame w) (after values) ≡ got values frame w
unfolding then_got
nil_after values frame w = ap (λ l. got l frame w) (push_nil values)

pub all_taken : (p : Program) (f : Func) (os : List Operand) (frame : m.Frame) (w : m.World) (values : List m.Value) (all : Got (List m.Value)) → os ≡ [] → then_got (operands_got p f os frame w) (after values) ≡ all → all ≡ got values frame w
all_taken p f os frame w values all none h =
    sym h ∙ (ap (λ l. then_got (operands_got p f l frame w) (after values)) none ∙ nil_after values frame w)
