-- What a call comes to.
use Rattle.std.proofs.Common.{◌≡◌, inl, ℕ, ◌+◌, ◌≤◌, ◌==◌, ◌&&◌, Bool, true, false, List, length, Option, Some, None, Ok, Err, refl, sym, ap, ◌∙◌, subst, arith}
use Rattle.std.proofs.lemmas.Bool.{false≢true}
use Rattle.std.proofs.lemmas.Bool.Decides.{nat_tests}
use Rattle.std.proofs.lemmas.List.{length-append}
use Rattle.vlt_rings.specs.Things.{Things}
use Rattle.c_syntax.specs.declared.program.CVar.{CVar}
use Rattle.c_syntax.specs.declared.program.CName.{CName}
use Rattle.c_syntax.specs.View.{func_of}
use Rattle.c_syntax.specs.C.{Arg, Program}
use Rattle.c_meaning.specs.World as model
use Rattle.c_meaning.specs.World.{undefined}
use Rattle.c_meaning.specs.Values.{arg_values}
use Rattle.c_meaning.specs.Run.{Setup, Numbered, Frame, function_of, can_call}
use Rattle.c_machine.specs.Machine as m
use Rattle.c_machine.specs.Machine.{Next, State, vars_in, frame_in}
use Rattle.c_meaning.specs.Widths.{width_of, value_slots}
use Rattle.c_primitives.specs.declared.world.World.{World}
use Rattle.c_primitives.specs.Shown.{Shows}
use Rattle.vlt_steps.specs.Writing.{Outside}
use Rattle.c_primitives.proofs.Coming.{silent}
use Rattle.c_interp.specs.declared.stop.CStop.{CStop}
use Rattle.c_interp.specs.declared.stop.CStop.TheVariants.{Undefined}
use Rattle.c_interp.specs.declared.frames.Frames.{Frames}
use Rattle.c_interp.specs.declared.task.Task.{Task}
use Rattle.c_interp.specs.declared.rules.Found.{Found}
use Rattle.c_interp.specs.Finding.{IsFoundAs}
use Rattle.c_interp.specs.Calling.{numbered_of}
use Rattle.c_interp.specs.Shown.{CameTo}
use Rattle.c_interp.proofs.Rooms.{room_callee}

pub stops_here : (things : Things) (s : World) (w : model.World) (b : Outside) (result : Option CStop) (ts : List Task) (f : Frames) (q n : ℕ) → Shows s things w → result ≡ Some (Undefined q n) → CameTo w b b result ts f s (m.stops (undefined q n) w)
stops_here things s w b result ts f q n h is = rw is (inl (record { outcome = refl; fuel = h.fuel; wrote = silent w w b refl }))

module _ (r : Setup) (n : ℕ) (target : Option CVar) (glue : Bool) (xs : List Arg) (ts : List m.Task) (s : State) (P : Next → Type 0) where
  pub call_none : (found : Option Numbered) → IsFoundAs None found → P (m.stops (undefined 6 n) s.world) → P (m.call_found r n target glue xs found ts s)
  unfolding m.call_found
  call_none None e p = p
  call_none (Some g) e p = absurd e

  pub call_bad : (f : Found) (found : Option Numbered) → IsFoundAs (Some f) found → can_call glue (func_of f.func.now) xs (frame_in s) ≡ false → P (m.stops (undefined 6 n) s.world) → P (m.call_found r n target glue xs found ts s)
  unfolding m.call_found
  call_bad f None e bad p = absurd e
  call_bad f (Some g) e bad p = let no : can_call glue g.func xs (frame_in s) ≡ false = ap (λ x. can_call glue x xs (frame_in s)) (sym e.0) ∙ bad in rw no p

  pub call_err : (f : Found) (found : Option Numbered) (q : ℕ) → IsFoundAs (Some f) found → can_call glue (func_of f.func.now) xs (frame_in s) ≡ true → arg_values xs (vars_in s) ≡ Err q → P (m.stops (undefined q n) s.world) → P (m.call_found r n target glue xs found ts s)
  unfolding m.call_found m.with_found
  call_err f None q e so err p = absurd e
  call_err f (Some g) q e so err p = let can : can_call glue g.func xs (frame_in s) ≡ true = ap (λ x. can_call glue x xs (frame_in s)) (sym e.0) ∙ so in rw (can, err) p

  pub call_ok : (f : Found) (found : Option Numbered) (values : List model.Value) → IsFoundAs (Some f) found → can_call glue (func_of f.func.now) xs (frame_in s) ≡ true → arg_values xs (vars_in s) ≡ Ok values → P (m.enter r n target glue (numbered_of f) values ts s)
      → P (m.call_found r n target glue xs found ts s)
  unfolding m.call_found m.with_found
  call_ok f None values e so ok p = absurd e
  call_ok f (Some g) values e so ok p =
      let can : can_call glue g.func xs (frame_in s) ≡ true = ap (λ x. can_call glue x xs (frame_in s)) (sym e.0) ∙ so in
      rw (can, ok) (subst (λ k. P (m.enter r n target glue k values ts s)) (ap {B = Numbered} (λ x. record { func = x; first = f.first }) e.0 ∙ ap {B = Numbered} (λ x. record { func = g.func; first = x }) e.1) p)

-- the arguments and the variables of a function that is called find room
pub callee_room : (p : Program) (name : CName) (f : Found) (xs : List Arg) (frame : Frame) → IsFoundAs (Some f) (function_of p name) → can_call name.glue (func_of f.func.now) xs frame ≡ true → length xs + length (func_of f.func.now).vars ≤ value_slots p
callee_room p name f xs frame found can = by (function_of p name) refl found
  where
    left : (a b : Bool) → (a && b) ≡ true → a ≡ true
    left true b e = refl
    left false b e = absurd (false≢true e)

    by : (g : Option Numbered) → function_of p name ≡ g → IsFoundAs (Some f) g → length xs + length (func_of f.func.now).vars ≤ value_slots p
    by None is e = absurd e
    by (Some g) is e =
        let wide : width_of (func_of f.func.now) ≤ value_slots p = subst (λ x. width_of x ≤ value_slots p) (sym e.0) (room_callee p name g is) in
        let both = length-append (func_of f.func.now).params (func_of f.func.now).vars in
        let many : length (func_of f.func.now).params ≡ length xs = let t : (length (func_of f.func.now).params == length xs) ≡ true = left _ _ can in grind (arith, nat_tests) in
        omega (arith, wide, both, many)
