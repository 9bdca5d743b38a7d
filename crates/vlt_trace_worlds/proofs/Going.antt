-- Variables that are filled.
use Rattle.std.proofs.Common.{◌≡◌, ℕ, true, false, None, Some, sym, ap, ◌∙◌}
use Rattle.vlt_core.specs.Core.{Func}
use Rattle.vlt_meaning.specs.World as m
use Rattle.vlt_meaning.specs.Step.{goes, ends, with_var, is_fillable, fill, where_so}
use Rattle.vlt_trace_worlds.specs.Steps.{told, told_step}

pub fills : (f : Func) (v : ℕ) (a : m.Value) (frame next : m.Frame) (w : m.World) → is_fillable f v frame ≡ true → next ≡ with_var v (Some a) frame → fill f v a frame w ≡ goes next w
unfolding fill where_so
fills f v a frame next w e n = ap (λ b. where_so b m.not_empty None w (λ w. goes (with_var v (Some a) frame) w)) e ∙ ap (λ g. goes g w) (sym n)

pub not_filled : (f : Func) (v : ℕ) (a : m.Value) (frame : m.Frame) (w : m.World) → is_fillable f v frame ≡ false → told_step (fill f v a frame w) ≡ ends (m.fault m.not_empty None) (told w)
unfolding fill where_so
not_filled f v a frame w e = ap (λ b. told_step (where_so b m.not_empty None w (λ w. goes (with_var v (Some a) frame) w))) e
