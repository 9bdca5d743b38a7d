-- What a statement finds: how many slots and tasks there are.
use Rattle.std.proofs.Common.{◌≡◌, ◌≤◌, ◌+◌, ◌*◌, ◌-◌, ℕ, zero, suc, List, [], ◌∷◌, length, refl, sym, ap, ◌∙◌, subst, arith}
use Rattle.vlt_core.specs.Core.{Form, Stmts, Func, Program}
use Rattle.vlt_meaning_laws.specs.Machine.Machine as m
use Rattle.vlt_meaning_laws.specs.Machine.Machine.{Caller, at}
use Rattle.vlt_heap.specs.Items.{Items}
use Rattle.vlt_acts.specs.declared.values.values.Values.{Values}
use Rattle.vlt_acts.specs.declared.frames.waiting.Waiting.{Waiting}
use Rattle.vlt_acts.specs.Frames.Frames.{frame_end}
use Rattle.vlt_interp.specs.declared.tasks.task.Task.{Task}
use Rattle.vlt_interp.specs.declared.tasks.task.Task.TheVariants.{List as Listed, Closing, Turn, Unfocus, Back}
use Rattle.vlt_interp.specs.Tasks.Sizes.{frame_slots}
use Rattle.vlt_interp.specs.Tasks.Own.{IsOf}
use Rattle.vlt_interp.specs.Tasks.Shown.{IsCaller, base_after, depth_after, ShowsTasks}
use Rattle.vlt_interp.proofs.OfTasks.Sizes.{greatest_at}
use Rattle.vlt_interp.specs.Owned.{HoldOf}
use Rattle.vlt_interp.proofs.Likeness.{of_all}

-- a frame of the program's functions is no wider than the widest
pub frame_fits : (p : Program) (width : ℕ) (f : Func) → IsOf p f → length f.vars * width + length f.keys ≤ frame_slots p width
frame_fits p width f o =
    let k = of_all p (λ f. frame_end width 0 f ≤ frame_slots p width) (λ i f at. greatest_at (frame_end width 0) p.fns i f at) f o (λ h. h) in
    omega (arith, k)

-- the frame of the function at a depth begins after those of the functions below
pub record IsLow (base depth slots : ℕ) : Type 0 where
  pub some : 1 ≤ depth
  pub low : base ≤ (depth - 1) * slots

module _ (p : Program) (L : Func → Stmts → Type 0) (F : Func → Form → Type 0) (items : Items) (values : Values) where
  abbrev slots : ℕ
  slots = frame_slots p values.width

  called : (base depth : ℕ) (w : Waiting) (k : Caller) → IsCaller items values base depth w k → IsOf p k.func → IsLow w.base (depth - 1) slots → IsLow base depth slots
  called base depth w k h o l =
      let ends : frame_end values.width w.base k.func ≡ base = subst (λ f. frame_end values.width w.base f ≡ base) h.waits.func.is h.waits.below.ends in
      let wide = frame_fits p values.width k.func o in
      let more : (depth - 1) * slots ≡ (depth - 1 - 1) * slots + slots = one_more (depth - 1) slots l.some in
      record { some = omega (arith, h.depth); low = omega (arith, ends, wide, more, l.low) }
    where
      one_more : (d s : ℕ) → 1 ≤ d → d * s ≡ (d - 1) * s + s
      one_more zero s e = absurd (omega (arith, e))
      one_more (suc d) s e = let k : suc d - 1 ≡ d = omega arith in let l : suc d * s ≡ d * s + s = omega arith in l ∙ ap (λ n. n * s + s) (sym k)

  pub low : (base depth : ℕ) (ts : List Task) (us : List m.Task) (f : Func) → ShowsTasks items values base depth ts us → HoldOf L F p f us → IsLow base depth slots
  low base depth [] [] f h o = record { some = omega (arith, h.1); low = omega (arith, h.0) }
  low base depth [] (u ∷ us) f h o = absurd h
  low base depth (t ∷ ts) [] f h o = absurd h
  low base depth (Listed ss ∷ ts) (m.list xs ∷ us) f h o = low base depth ts us f h.1 o.1
  low base depth (Listed ss ∷ ts) (m.closing bound ∷ us) f h o = absurd h.0
  low base depth (Listed ss ∷ ts) (m.turn d c ∷ us) f h o = absurd h.0
  low base depth (Listed ss ∷ ts) (m.unfocus g q a n ∷ us) f h o = absurd h.0
  low base depth (Listed ss ∷ ts) (m.back k ∷ us) f h o = absurd h.0
  low base depth (Closing ∷ ts) (m.list xs ∷ us) f h o = absurd h.0
  low base depth (Closing ∷ ts) (m.closing bound ∷ us) f h o = low base depth ts us f h.1 o
  low base depth (Closing ∷ ts) (m.turn d c ∷ us) f h o = absurd h.0
  low base depth (Closing ∷ ts) (m.unfocus g q a n ∷ us) f h o = absurd h.0
  low base depth (Closing ∷ ts) (m.back k ∷ us) f h o = absurd h.0
  low base depth (Turn e b ∷ ts) (m.list xs ∷ us) f h o = absurd h.0
  low base depth (Turn e b ∷ ts) (m.closing bound ∷ us) f h o = absurd h.0
  low base depth (Turn e b ∷ ts) (m.turn d c ∷ us) f h o = low base depth ts us f h.1 o.1
  low base depth (Turn e b ∷ ts) (m.unfocus g q a n ∷ us) f h o = absurd h.0
  low base depth (Turn e b ∷ ts) (m.back k ∷ us) f h o = absurd h.0
  low base depth (Unfocus x ∷ ts) (m.list xs ∷ us) f h o = absurd h.0
  low base depth (Unfocus x ∷ ts) (m.closing bound ∷ us) f h o = absurd h.0
  low base depth (Unfocus x ∷ ts) (m.turn d c ∷ us) f h o = absurd h.0
  low base depth (Unfocus x ∷ ts) (m.unfocus g q a n ∷ us) f h o = low base depth ts us f h.1 o
  low base depth (Unfocus x ∷ ts) (m.back k ∷ us) f h o = absurd h.0
  low base depth (Back w ∷ ts) (m.list xs ∷ us) f h o = absurd h.0
  low base depth (Back w ∷ ts) (m.closing bound ∷ us) f h o = absurd h.0
  low base depth (Back w ∷ ts) (m.turn d c ∷ us) f h o = absurd h.0
  low base depth (Back w ∷ ts) (m.unfocus g q a n ∷ us) f h o = absurd h.0
  low base depth (Back w ∷ ts) (m.back k ∷ us) f h o = called base depth w k h.0 o.0 (low w.base (depth - 1) ts us k.func h.1 o.1)

-- as many tasks are left as are shown
pub as_many : (items : Items) (values : Values) (base depth : ℕ) (ts : List Task) (us : List m.Task) → ShowsTasks items values base depth ts us → length ts ≡ length us
as_many items values base depth [] [] h = refl
as_many items values base depth [] (u ∷ us) h = absurd h
as_many items values base depth (t ∷ ts) [] h = absurd h
as_many items values base depth (t ∷ ts) (u ∷ us) h = let k = as_many items values (base_after base t) (depth_after depth t) ts us h.1 in omega (arith, k)
