-- Back to a caller.
use Rattle.std.proofs.Common.{◌≡◌, List, ◌∷◌, take, Option, Some, refl, sym, ap, ◌∙◌, subst}
use Rattle.std.specs.Option.{option_map}
use Rattle.c_syntax.specs.declared.program.CResult.{CResult}
use Rattle.c_syntax.specs.View.{func_of}
use Rattle.c_meaning.specs.World as model
use Rattle.c_machine.specs.Machine as m
use Rattle.c_machine.specs.Machine.{State}
use Rattle.c_meaning.specs.Widths.{names_of}
use Rattle.c_values.specs.declared.value.Value.{Value}
use Rattle.c_values.specs.Shown.{value_view, shown_slots}
use Rattle.c_interp.specs.declared.stop.CStop.{CStop}
use Rattle.c_interp.specs.declared.stop.CStop.TheVariants.{Stopped}
use Rattle.vlt_steps.specs.declared.stop.Stop.TheVariants.{Done}
use Rattle.c_interp.specs.declared.frames.Frames.{Frames}
use Rattle.c_interp.specs.declared.task.Caller.{Caller}
use Rattle.c_interp.specs.declared.task.Task.{Task}
use Rattle.c_interp.proofs.Setting.{map_take}
use Rattle.c_interp.specs.Shown.{caller_of, tasks_of, state_of, given_view, IsPlain}

pub back_is : (f g : Frames) (k : Caller) (w : model.World) → g.values.items ≡ take f.base f.values.items → g.base ≡ k.base → g.func ≡ k.func → g.is_glue ≡ k.is_glue → g.depth ≡ m.depth_out f.is_glue f.depth
    → state_of g w ≡ m.caller_state (caller_of k) (state_of f w)
back_is f g k w values base func glue depth =
    ap {B = State} (λ l. record { slots = l; base = g.base; names = names_of (func_of g.func.now); is_glue = g.is_glue; depth = g.depth; world = w }) (ap shown_slots values ∙ map_take (option_map value_view) f.base f.values.items)
    ∙ ap {B = State} (λ b. record { slots = take f.base (shown_slots f.values.items); base = b; names = names_of (func_of g.func.now); is_glue = g.is_glue; depth = g.depth; world = w }) base
    ∙ ap {B = State} (λ x. record { slots = take f.base (shown_slots f.values.items); base = k.base; names = names_of (func_of x.now); is_glue = g.is_glue; depth = g.depth; world = w }) func
    ∙ ap {B = State} (λ x. record { slots = take f.base (shown_slots f.values.items); base = k.base; names = names_of (func_of k.func.now); is_glue = x; depth = g.depth; world = w }) glue
    ∙ ap {B = State} (λ d. record { slots = take f.base (shown_slots f.values.items); base = k.base; names = names_of (func_of k.func.now); is_glue = k.is_glue; depth = d; world = w }) depth

pub leave_back : (value : Option Value) (k : Caller) (now left first : List Task) (f f0 g h : Frames) (r : Option CStop) (w : model.World) → tasks_of now ≡ m.back (caller_of k) ∷ tasks_of left → f ≡ f0
    → m.leave (given_view value) (tasks_of now) (state_of f w) ≡ m.leave (given_view value) (tasks_of first) (state_of f w) → state_of g w ≡ m.caller_state (caller_of k) (state_of f w)
    → IsPlain r left h w (m.after_receiving k.n k.target (given_view value) (tasks_of left) (state_of g w)) → IsPlain r left h w (m.leave (given_view value) (tasks_of first) (state_of f0 w))
leave_back value k now left first f f0 g h r w is same before back p =
    subst (λ x. IsPlain r left h w (m.leave (given_view value) (tasks_of first) (state_of x w))) same
    (subst (IsPlain r left h w) (sym (ap (λ l. m.leave (given_view value) l (state_of f w)) is) ∙ before)
    (subst (λ s. IsPlain r left h w (m.after_receiving k.n k.target (given_view value) (tasks_of left) s)) back p))

pub leave_bottom : (value : Option Value) (g : CResult) (now left first : List Task) (f f0 : Frames) (w : model.World) → tasks_of now ≡ m.bottom g ∷ tasks_of left → f ≡ f0
    → m.leave (given_view value) (tasks_of now) (state_of f w) ≡ m.leave (given_view value) (tasks_of first) (state_of f w) → IsPlain (Some (Stopped Done)) left f w (m.leave (given_view value) (tasks_of first) (state_of f0 w))
leave_bottom value g now left first f f0 w is same before =
    subst (λ x. IsPlain (Some (Stopped Done)) left f w (m.leave (given_view value) (tasks_of first) (state_of x w))) same
    (subst (IsPlain (Some (Stopped Done)) left f w) (sym (ap (λ l. m.leave (given_view value) l (state_of f w)) is) ∙ before) (refl, refl))
