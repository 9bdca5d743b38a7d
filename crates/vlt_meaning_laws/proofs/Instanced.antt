-- What statements without returns do is the same in each instance of a function.
use Rattle.std.proofs.Common.{◌≡◌, ℕ, List, Option, refl}
use Rattle.vlt_core.specs.KindedScopes.{Ids}
use Rattle.vlt_core.specs.Core.{Expr, Operand, Simple, Func, Program}
use Rattle.vlt_core.specs.Instances.{instance}
use Rattle.vlt_core.specs.Rows.{expr_rows, simple_rows}
use Rattle.vlt_core.specs.KindedOperands.{expr_broken}
use Rattle.vlt_meaning.specs.World.{Value, Object, World, Frame}
use Rattle.vlt_meaning.specs.Values.{value_of}
use Rattle.vlt_meaning.specs.Step.{Step, with_found, where_so, with_input, with_made, with_moved, with_released, with_dropped, fill, with_filled}
use Rattle.vlt_meaning.specs.Operands.{with_operand, with_operands, with_case_packed}
use Rattle.vlt_meaning.specs.Run.{Setup, does_simple, made_in, swap_step, open_step}

module _ (p : Program) (f : Func) (o : Option ℕ) where
  expr_same : (e : Expr) → expr_rows p (instance p f o) e ≡ expr_rows p f e
  expr_same e = refl

  rows_same : (s : Simple) → simple_rows p (instance p f o) s ≡ simple_rows p f s
  rows_same s = refl

  broken_same : (ids : Ids) (s : Expr) → expr_broken p (instance p f o) ids s ≡ expr_broken p f ids s
  broken_same ids s = refl

  value_same : (e : Expr) (frame : Frame) (os : List Object) → value_of p (instance p f o) e frame os ≡ value_of p f e frame os
  value_same e frame os = refl

  operands_same : (xs : List Operand) (frame : Frame) (w : World) (go : List Value → Frame → World → Step) →
      with_operands p (instance p f o) xs frame w go ≡ with_operands p f xs frame w go
  unfolding with_found with_operand with_operands
  operands_same xs frame w go = refl

module _ (r : Setup) (f : Func) (o : Option ℕ) where
  pub simple_same : (s : Simple) (frame : Frame) (w : World) → does_simple r (instance r.program f o) s frame w ≡ does_simple r f s frame w
  unfolding with_found where_so with_input with_made with_moved with_released with_dropped fill with_filled with_operand with_operands with_case_packed made_in swap_step open_step
  simple_same s frame w = refl

  -- and what an arm gets, and the end of a focus
  pub filled_same : (vs : List ℕ) (xs : List Value) (frame : Frame) (w : World) (go : Frame → Step) →
      with_filled (instance r.program f o) vs xs frame w go ≡ with_filled f vs xs frame w go
  unfolding where_so with_filled fill
  filled_same vs xs frame w go = refl
