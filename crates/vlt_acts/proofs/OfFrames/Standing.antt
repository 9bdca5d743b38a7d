-- Frames stand where their slots are as they were.
use Rattle.std.proofs.Common.{◌≡◌, ◌<◌, ◌≤◌, ◌*◌, ℕ, List, [], ◌∷◌, length, None, Ok, Err, sym, ap, ◌∙◌, subst, arith, slice_get}
use Rattle.std.proofs.lemmas.Option.{none-some, slice_get_within}
use Rattle.vlt_core.specs.Core.{Operand, pure, move, pack, Func, Program}
use Rattle.vlt_rings.proofs.Rows.{row_fits}
use Rattle.vlt_heap.specs.Items.{Items}
use Rattle.vlt_heap.proofs.Listed.{KeepMade}
use Rattle.vlt_meaning.specs.World.{owned, one, loose, World, Frame, no_value}
use Rattle.vlt_meaning.specs.Found.{Found, or_fault}
use Rattle.vlt_meaning.specs.Objects.{with_owner}
use Rattle.vlt_meaning.specs.Values.{value_of, object_of}
use Rattle.vlt_meaning.specs.Step.{with_changed, with_var}
use Rattle.vlt_meaning.specs.Run.{first_frame}
use Rattle.vlt_meaning_laws.specs.Machine.Got.{Got, got, stopped, found_in, then_got, operand_got, operands_got}
use Rattle.vlt_meaning_laws.specs.Machine.Machine.{Caller}
use Rattle.vlt_acts.specs.declared.values.values.Values.{Values}
use Rattle.vlt_acts.specs.Values.Shown.{with_frame, var_at, key_at, ShowsFrame}
use Rattle.vlt_acts.proofs.OfActs.Keeping.{frame_kept, value_same}
use Rattle.vlt_acts.specs.declared.frames.waiting.Waiting.{Waiting}
use Rattle.vlt_acts.specs.Frames.Frames.{frame_end, IsRunning, NamesOwn, Stands, IsBelow, Waits, AllWait}

-- a frame of the same function, at the same place, with the same slots
pub record IsSamePlace (old new : Values) (f : Func) : Type 0 where
  pub base : new.base ≡ old.base
  pub vars : new.vars ≡ old.vars
  pub width : new.width ≡ old.width
  pub count : old.vars ≡ length f.vars
  pub slots : (j : ℕ) → j < frame_end old.width old.base f → slice_get new.slots.items j ≡ slice_get old.slots.items j

pub frame_same : (items : Items) (old new : Values) (f : Func) (frame : Frame) → IsSamePlace old new f → NamesOwn f frame → ShowsFrame items old frame → ShowsFrame items new frame
frame_same items old new f frame same names h = record {
  vars = λ v a e.
      let q = h.vars v a e in
      let fits = row_fits v old.vars old.width old.width q.within (omega arith) in
      let count : old.vars * old.width ≡ length f.vars * old.width = ap (λ n. n * old.width) same.count in
      record {
        within = subst (λ n. v < n) (sym same.vars) q.within;
        value = rw (same.base, same.width) (value_same items old.slots.items new.slots.items (var_at old v) old.width a (λ j low high. same.slots j (omega (arith, high, fits, count))) q.value);
      };
  keys = λ k n e.
      let q = h.keys k n e in
      let own = names k n e in
      let count : old.vars * old.width ≡ length f.vars * old.width = ap (λ n. n * old.width) same.count in
      rw (same.base, same.vars, same.width) (record { slot = q.slot; at = same.slots (key_at old k) (omega (arith, own, count)) ∙ q.at; part = q.part });
}

pub stands_same : (items : Items) (old new : Values) (f : Func) (base : ℕ) (frame : Frame) → new.width ≡ old.width → ((j : ℕ) → j < frame_end old.width base f → slice_get new.slots.items j ≡ slice_get old.slots.items j) → Stands items old f base frame → Stands items new f base frame
stands_same items old new f base frame width slots h = record {
  shown = frame_same items (with_frame old base (length f.vars)) (with_frame new base (length f.vars)) f frame (record { base = refl_of base; vars = refl_of (length f.vars); width = width; count = refl_of (length f.vars); slots = slots }) h.names h.shown;
  names = h.names;
}
  where
    refl_of : (n : ℕ) → n ≡ n
    refl_of n = omega arith

pub stands_kept : (old new : Items) (values : Values) (f : Func) (base : ℕ) (frame : Frame) → KeepMade old new → Stands old values f base frame → Stands new values f base frame
stands_kept old new values f base frame keep h = record {
  shown = frame_kept old new (with_frame values base (length f.vars)) frame keep h.shown;
  names = h.names;
}

-- callers wait still where objects are known still, and where no slot below the running frame has changed
pub all_wait_kept : (old_items new_items : Items) (old new : Values) (end : ℕ) (ws : List Waiting) (ks : List Caller) → KeepMade old_items new_items → new.width ≡ old.width → ((j : ℕ) → j < end → slice_get new.slots.items j ≡ slice_get old.slots.items j)
    → AllWait old_items old end ws ks → AllWait new_items new end ws ks
all_wait_kept xs ys old new end [] [] keep width same h = tt
all_wait_kept xs ys old new end [] (k ∷ ks) keep width same h = h
all_wait_kept xs ys old new end (w ∷ ws) [] keep width same h = h
all_wait_kept xs ys old new end (w ∷ ws) (k ∷ ks) keep width same h = (
  record {
    func = q.func;
    is = q.is;
    below = subst (λ n. IsBelow w n end) (sym width) q.below;
    stands = stands_kept xs ys new k.func w.base k.frame keep (stands_same xs old new k.func w.base k.frame width (λ j l. same j (subst (λ n. j < n) ends l)) q.stands);
  },
  all_wait_kept xs ys old new w.base ws ks keep width (λ j l. same j (omega (arith, l, low))) h.1,
)
  where
    q : Waits xs old w end k
    q = h.0

    ends : frame_end old.width w.base k.func ≡ end
    ends = subst (λ f. frame_end old.width w.base f ≡ end) q.func.is q.below.ends

    low : w.base ≤ end
    low = let e = ends in omega (arith, e)

-- ---- keys of the function

-- where nothing stands after a frame, it names keys of its function alone
pub running_names : (items : Items) (values : Values) (f : Func) (frame : Frame) → IsRunning values f 0 → ShowsFrame items values frame → NamesOwn f frame
running_names items values f frame running h k n e =
    let q = h.keys k n e in
    let l = slice_get_within values.slots.items (key_at values k) q.slot q.at in
    let count : values.vars * values.width ≡ length f.vars * values.width = ap (λ m. m * values.width) running.vars in
    let long = running.long in
    omega (arith, l, count, long)

-- operands change no key
abbrev pub KeepsNames : {A : Type 0} → Func → Got A → Type 0
KeepsNames f (got a frame w) = NamesOwn f frame
KeepsNames f (stopped o w) = Unit {0}

found_names : {A : Type 0} (f : Func) (x : Found A) (frame : Frame) (w : World) → NamesOwn f frame → KeepsNames f (found_in x frame w)
unfolding found_in
found_names f (Ok a) frame w own = own
found_names f (Err o) frame w own = tt

then_names : {A B : Type 0} (f : Func) (x : Got A) (go : A → Frame → World → Got B) → KeepsNames f x → ((a : A) (frame : Frame) (w : World) → NamesOwn f frame → KeepsNames f (go a frame w)) → KeepsNames f (then_got x go)
unfolding then_got
then_names f (got a frame w) go own rest = rest a frame w own
then_names f (stopped o w) go own rest = tt

operand_names : (f : Func) (p : Program) (g : Func) (o : Operand) (frame : Frame) (w : World) → NamesOwn f frame → KeepsNames f (operand_got p g o frame w)
operand_names f p g (pure e) frame w own = found_names f (value_of p g e frame w.objects) frame w own
operand_names f p g (move v) frame w own =
    then_names f (found_in (or_fault no_value (frame.vars v)) frame w) (λ a frame w. got a (with_var v None frame) w) (found_names f (or_fault no_value (frame.vars v)) frame w own) (λ a h u own. own)
operand_names f p g (pack x states) frame w own =
    then_names f (found_in (object_of g (λ r. states) x frame w.objects) frame w) (λ n frame w. got (one (owned n.number)) frame (with_changed w n.number (with_owner loose)))
    (found_names f (object_of g (λ r. states) x frame w.objects) frame w own) (λ n h u own. own)

pub operands_names : (f : Func) (p : Program) (g : Func) (os : List Operand) (frame : Frame) (w : World) → NamesOwn f frame → KeepsNames f (operands_got p g os frame w)
operands_names f p g [] frame w own = own
operands_names f p g (o ∷ os) frame w own =
    then_names f (operand_got p g o frame w) (λ a frame w. then_got (operands_got p g os frame w) (λ rest frame w. got (a ∷ rest) frame w)) (operand_names f p g o frame w own) (λ a h u own.
    then_names f (operands_got p g os h u) (λ rest frame w. got (a ∷ rest) frame w) (operands_names f p g os h u own) (λ rest h u own. own))

-- ---- the first frame, which has no values and names nothing

pub first_shown : (items : Items) (values : Values) (depth : ℕ) → ShowsFrame items values (first_frame depth)
first_shown items values depth = record { vars = λ v a e. absurd (none-some a e); keys = λ k n e. absurd (none-some n e) }
