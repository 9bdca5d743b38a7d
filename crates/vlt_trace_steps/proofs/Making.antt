-- Objects that are made, released and moved.
use Rattle.std.proofs.Common.{◌≡◌, ◌++◌, ◌∷◌, [], ℕ, Bool, if◌then◌else◌, List, length, Some, Result, Ok, Err, OnOk, IfErr, sym, ap, subst, ◌∙◌}
use Rattle.vlt_core.specs.Core.{Program}
use Rattle.vlt_meaning.specs.World as m
use Rattle.vlt_meaning.specs.World.{is_full}
use Rattle.vlt_meaning.specs.Objects.{is_releasable, objects_after_move, objects_after_release}
use Rattle.vlt_meaning.specs.Step.{Step, goes, ends, with_objects, with_made, with_moved, with_released}
use Rattle.vlt_trace_worlds.specs.View.{outcome_of}
use Rattle.vlt_trace_worlds.specs.Owners.{Released, MakesObject}
use Rattle.vlt_trace_worlds.specs.Steps.{told, told_step, Goes}
use Rattle.vlt_trace_worlds.specs.declared.stops.Stop.{Stop}
use Rattle.vlt_trace_worlds.specs.declared.stops.Halt.{Halt}
use Rattle.vlt_trace_worlds.specs.declared.stops.Halt.TheVariants.{Ends, Memory}
use Rattle.vlt_trace_steps.specs.Hands.{Hands}
use Rattle.vlt_trace_steps.proofs.Leading.{ends_so, found, not_found, so, not_so}

-- what is told of the world is the same, whatever its objects are
told_same : (w v : m.World) (after : List m.Object) → v ≡ with_objects w after → told w ≡ told v
told_same w v after e = ap told (sym e)

-- ---- an event, or no memory

pub told_goes : (a : Step) (r : Result (Unit {0}) Halt) (frame : m.Frame) (u v : m.World) → a ≡ goes frame u → OnOk r (v ≡ u) → IfErr r (λ h. h ≡ Memory) → Goes a r frame v
told_goes a (Ok x) frame u v e f h = e ∙ ap (goes frame) (sym f)
told_goes a (Err h) frame u v e f k = subst (λ x. Goes a (Err x) frame v) (sym k) tt

-- ---- released

pub released_hands : (p : Program) (n : ℕ) (w v : m.World) (go : m.World → Step) (r : Result (Unit {0}) Halt) (after : List m.Object) → Released p n w.objects after r → v ≡ with_objects w after → Hands (with_released p n w go) r (λ u. go v) v
unfolding with_released
released_hands p n w v go (Ok x) after h e =
    so (is_releasable p w.objects n) m.wrong_state (Some n) w (λ w. go (with_objects w (objects_after_release n w.objects))) h.0
    ∙ ap go (ap (with_objects w) (sym h.1) ∙ sym e)
released_hands p n w v go (Err (Ends s)) after h e =
    not_so (is_releasable p w.objects n) m.wrong_state (Some n) w (λ w. go (with_objects w (objects_after_release n w.objects))) h.0
    ∙ (ap (λ o. ends o (told w)) (sym h.1) ∙ ap (ends (outcome_of s)) (told_same w v after e))
released_hands p n w v go (Err Memory) after h e = tt

-- ---- moved

pub moved_ok : (from : m.Owner → Bool) (to : m.Owner) (ns : List ℕ) (w v : m.World) (go : m.World → Step) (after : List m.Object) → objects_after_move from to ns w.objects ≡ Ok after → v ≡ with_objects w after → with_moved from to ns w go ≡ go v
unfolding with_moved
moved_ok from to ns w v go after h e = found (objects_after_move from to ns w.objects) after w (λ objects. go (with_objects w objects)) (sym h) ∙ ap go (sym e)

pub moved_err : (from : m.Owner → Bool) (to : m.Owner) (ns : List ℕ) (w v : m.World) (go : m.World → Step) (after : List m.Object) (s : Stop) (r : Result (Unit {0}) Halt) (frame : m.Frame) → r ≡ Err (Ends s) → objects_after_move from to ns w.objects ≡ Err (outcome_of s) → v ≡ with_objects w after → Goes (with_moved from to ns w go) r frame v
unfolding with_moved
moved_err from to ns w v go after s r frame k h e =
    ends_so (with_moved from to ns w go) r s frame v k
    (not_found (objects_after_move from to ns w.objects) (outcome_of s) w (λ objects. go (with_objects w objects)) (sym h) ∙ ap (ends (outcome_of s)) (told_same w v after e))

-- ---- made

pub made_ok : (heap : ℕ) (o : m.Object) (w v : m.World) (go : ℕ → m.World → Step) (x : Result ℕ Halt) (n : ℕ) → x ≡ Ok n → MakesObject heap o w x v → with_made heap o w go ≡ go n v
unfolding with_made
made_ok heap o w v go x n e h =
    let k : MakesObject heap o w (Ok n) v = subst (λ z. MakesObject heap o w z v) e h in
    ap (λ b. if b then ends m.heap_end w else go (length w.objects) (with_objects w (w.objects ++ o ∷ []))) k.0
    ∙ (ap (λ j. go j (with_objects w (w.objects ++ o ∷ []))) (sym k.1) ∙ ap (go n) (sym k.2))

full_so : (heap : ℕ) (o : m.Object) (w v : m.World) (go : ℕ → m.World → Step) (h : Halt) (frame : m.Frame) → MakesObject heap o w (Err h) v → Goes (with_made heap o w go) (Err h) frame v
unfolding with_made
full_so heap o w v go (Ends s) frame k =
    ap (λ b. told_step (if b then ends m.heap_end w else go (length w.objects) (with_objects w (w.objects ++ o ∷ [])))) k.0
    ∙ (ap (λ o. ends o (told w)) (sym k.1) ∙ ap (λ u. ends (outcome_of s) (told u)) (sym k.2))
full_so heap o w v go Memory frame k = tt

pub made_err : (heap : ℕ) (o : m.Object) (w v : m.World) (go : ℕ → m.World → Step) (x : Result ℕ Halt) (h : Halt) (r : Result (Unit {0}) Halt) (frame : m.Frame) → r ≡ Err h → x ≡ Err h → MakesObject heap o w x v → Goes (with_made heap o w go) r frame v
made_err heap o w v go x h r frame k e f =
    subst (λ z. Goes (with_made heap o w go) z frame v) (sym k) (full_so heap o w v go h frame (subst (λ z. MakesObject heap o w z v) e f))
