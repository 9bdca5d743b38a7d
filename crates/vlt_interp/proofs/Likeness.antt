-- What holds of a function holds of each one that is like it, as its instances are, where it doesn't look at the clause.
use Rattle.std.proofs.Common.{◌≡◌, ℕ, Option, Some, refl, slice_get}
use Rattle.vlt_core.specs.Core.{Simple, Func, Program}
use Rattle.vlt_core.specs.Lookups.{reference_of, guarded_of}
use Rattle.vlt_core.specs.Instances.{instance}
use Rattle.vlt_meaning.specs.World.{World, Frame}
use Rattle.vlt_meaning.specs.Step.{with_found, where_so, with_input, with_made, with_moved, with_released, with_dropped, fill, with_filled}
use Rattle.vlt_meaning.specs.Operands.{with_operand, with_operands, with_case_packed}
use Rattle.vlt_meaning.specs.Run.{Setup, does_simple, made_in, swap_step, open_step}
use Rattle.vlt_acts.specs.Frames.Frames.{IsLike}
use Rattle.vlt_acts.proofs.OfFrames.Like.{like_itself, like_through, moved, instance_like}
use Rattle.vlt_interp.specs.Tasks.Own.{IsOwnFunc, HasOwn, IsOf}

-- ---- functions of the program

pub of_itself : (p : Program) (i : ℕ) (f : Func) → slice_get p.fns i ≡ Some f → IsOf p f
of_itself p i f at = record { position = i; declared = f; at = at; like = like_itself f }

pub of_like : (p : Program) (f g : Func) → IsOf p f → IsLike f g → IsOf p g
of_like p f g of h = record { position = of.position; declared = of.declared; at = of.at; like = like_through of.declared f g of.like h }

pub of_instance : (p : Program) (f : Func) (o : Option ℕ) → IsOf p f → IsOf p (instance p f o)
of_instance p f o of = of_like p f (instance p f o) of (instance_like p f o)

-- what holds of all functions of the program holds of it
pub of_all : (p : Program) (P : Func → Type 0) → ((i : ℕ) (f : Func) → slice_get p.fns i ≡ Some f → P f) → (f : Func) (of : IsOf p f) → (P of.declared → P (record of.declared { clause = f.clause })) → P f
of_all p P all f of same = moved P of.declared f of.like (same (all of.position of.declared of.at))

pub own_func : (p : Program) → HasOwn p → (f : Func) → IsOf p f → IsOwnFunc p f
own_func p own f of = of_all p (IsOwnFunc p) own.all f of (λ h. record { keys = h.keys; params = h.params; few = h.few; body = h.body })

-- ---- what they do

pub like_simple : (r : Setup) (f g : Func) (s : Simple) (frame : Frame) (w : World) → IsLike f g → does_simple r f s frame w ≡ does_simple r g s frame w
unfolding with_found where_so with_input with_made with_moved with_released with_dropped fill with_filled with_operand with_operands with_case_packed made_in swap_step open_step
like_simple r f g s frame w h = moved (λ k. does_simple r f s frame w ≡ does_simple r k s frame w) f g h refl

pub like_reference : (f g : Func) (x : ℕ) → IsLike f g → reference_of f x ≡ reference_of g x
like_reference f g x h = moved (λ k. reference_of f x ≡ reference_of k x) f g h refl

pub like_guarded : (f g : Func) (y : ℕ) → IsLike f g → guarded_of f y ≡ guarded_of g y
like_guarded f g y h = moved (λ k. guarded_of f y ≡ guarded_of k y) f g h refl
