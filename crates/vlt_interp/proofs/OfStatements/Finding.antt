-- What a part of a move finds, where it doesn't go wrong.
use Rattle.std.proofs.Common.{◌≡◌, ℕ, suc, Bool, true, false, List, [], ◌∷◌, length, Some, Ok, Err, refl, sym, ap, ◌∙◌}
use Rattle.std.proofs.lemmas.Bool.{false≢true}
use Rattle.vlt_core.specs.Core.{Func}
use Rattle.vlt_core.specs.Lookups.{KeyIn}
use Rattle.vlt_meaning.specs.World.{Value, held, World, Frame, not_empty, is_fault}
use Rattle.vlt_meaning.specs.Found.{Found, Named}
use Rattle.vlt_meaning.specs.Step.{with_var, with_changed, is_fillable}
use Rattle.vlt_meaning.specs.Objects.{with_owner}
use Rattle.vlt_meaning.specs.Operands.{case_object}
use Rattle.vlt_meaning_laws.specs.Machine.Got.{Got, got, stopped, then_got, found_in, got_if, opened_got, filled_got}
use Rattle.vlt_meaning_laws.specs.Machine.Machine as m
use Rattle.vlt_meaning_laws.specs.Machine.Machine.{Conf, when_found, when_got}
use Rattle.vlt_acts.proofs.OfValues.Touching.{OrFault}
use Rattle.vlt_interp.specs.Tasks.Moves.{IsRight}
use Rattle.vlt_interp.proofs.OfTasks.Inside.{IsSameOutside, objects_out}

pub record WhenRight {A : Type 0} (x : Found A) (go : A → Conf) : Type 0 where
  pub value : A
  pub is : x ≡ Ok value
  pub right : IsRight (go value).step

pub when_right : {A : Type 0} (x : Found A) (f : Func) (ts : List m.Task) (w : World) (go : A → Conf) → OrFault x → IsRight (when_found x f ts w go).step → WhenRight x go
unfolding when_found
when_right (Ok a) f ts w go bad right = record { value = a; is = refl; right = right }
when_right (Err o) f ts w go bad right = absurd (false≢true (sym (right o w refl) ∙ bad))

-- where a part stops, it went wrong
abbrev pub StopsWrong : {A : Type 0} → Got A → Type 0
StopsWrong (got a frame w) = Unit {0}
StopsWrong (stopped o w) = is_fault o ≡ true

pub record GotRight {A : Type 0} (x : Got A) (go : A → Frame → World → Conf) : Type 0 where
  pub value : A
  pub frame : Frame
  pub world : World
  pub is : x ≡ got value frame world
  pub right : IsRight (go value frame world).step

pub got_right : {A : Type 0} (x : Got A) (f : Func) (ts : List m.Task) (go : A → Frame → World → Conf) → StopsWrong x → IsRight (when_got x f ts go).step → GotRight x go
unfolding when_got
got_right (got a frame w) f ts go bad right = record { value = a; frame = frame; world = w; is = refl; right = right }
got_right (stopped o w) f ts go bad right = absurd (false≢true (sym (right o w refl) ∙ bad))

-- ---- variables that are filled

-- as many as there are values; the depth and the world stay
pub record Fills (n k : ℕ) (frame after : Frame) (w v : World) : Type 0 where
  pub count : n ≡ k
  pub depth : after.depth ≡ frame.depth
  pub world : v ≡ w

abbrev pub IsFilling : (count given : ℕ) → Frame → World → Got (Unit {0}) → Type 0
IsFilling n k frame w (got u after v) = Fills n k frame after w v
IsFilling n k frame w (stopped o v) = is_fault o ≡ true

pub filling : (f : Func) (vs : List ℕ) (xs : List Value) (frame : Frame) (w : World) → IsFilling (length vs) (length xs) frame w (filled_got f vs xs frame w)
unfolding got_if
filling f [] [] frame w = record { count = refl; depth = refl; world = refl }
filling f [] (a ∷ xs) frame w = refl
filling f (v ∷ vs) [] frame w = refl
filling f (v ∷ vs) (a ∷ xs) frame w = by (is_fillable f v frame) (filled_got f vs xs (with_var v (Some a) frame) w) (filling f vs xs (with_var v (Some a) frame) w)
  where
    by : (t : Bool) (x : Got (Unit {0})) → IsFilling (length vs) (length xs) (with_var v (Some a) frame) w x → IsFilling (suc (length vs)) (suc (length xs)) frame w (got_if t not_empty w x)
    by true (got u after z) h = record { count = ap suc h.count; depth = h.depth; world = h.world }
    by true (stopped o z) h = h
    by false x h = refl

pub filling_wrong : (n k : ℕ) (frame : Frame) (w : World) (x : Got (Unit {0})) → IsFilling n k frame w x → StopsWrong x
filling_wrong n k frame w (got u after v) h = tt
filling_wrong n k frame w (stopped o v) h = h

-- ---- objects that come back

abbrev pub IsOutside : World → Got (Unit {0}) → Type 0
IsOutside w (got u frame v) = IsSameOutside w v
IsOutside w (stopped o v) = Unit {0}

pub opened_outside : (w : World) (ks : List KeyIn) (ns : List ℕ) (frame : Frame) (v : World) → IsSameOutside w v → IsOutside w (opened_got ks ns frame v)
unfolding then_got found_in
opened_outside w [] [] frame v s = s
opened_outside w [] (n ∷ ns) frame v s = tt
opened_outside w (k ∷ ks) [] frame v s = tt
opened_outside w (k ∷ ks) (n ∷ ns) frame v s = by (case_object k n frame v.objects) (λ z h. opened_outside w ks ns frame z h)
  where
    back : World → World
    back v = with_changed v n (with_owner (held frame.depth k.key))

    by : (x : Found Named) → ((z : World) → IsSameOutside w z → IsOutside w (opened_got ks ns frame z)) → IsOutside w (then_got (found_in x frame v) (λ q frame v. opened_got ks ns frame (with_changed v n (with_owner (held frame.depth k.key)))))
    by (Ok q) h = h (back v) (objects_out w v (back v).objects s)
    by (Err o) h = tt
