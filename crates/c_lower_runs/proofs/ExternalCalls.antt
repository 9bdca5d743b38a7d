-- A call of an external: its glue is entered without a depth, does what the external's step does, and what it gives is for the target.
use Rattle.std.proofs.Common.{◌≡◌, ◌≤◌, inl, inr, ℕ, zero, suc, ◌+◌, ◌-◌, ◌==◌, true, false, List, length, Option, Some, Ok, refl, sym, ap, ◌∙◌, subst, arith}
use Rattle.std.proofs.lemmas.Bool.{eq-eqb}
use Rattle.std.proofs.lemmas.Bool.Decides.{nat_tests}
use Rattle.std.specs.List.{flat_map}
use Rattle.vlt_core.specs.Core.{Func, Program}
use Rattle.vlt_meaning.specs.World as source
use Rattle.vlt_meaning.specs.Calls.{passed_objects}
use Rattle.vlt_meaning.specs.Externals.{call_external}
use Rattle.vlt_meaning.specs.Step as step
use Rattle.c_syntax.specs.declared.program.CVar.{CVar}
use Rattle.c_syntax.specs.declared.program.CName.{CName}
use Rattle.c_syntax.specs.View.{stmts_made}
use Rattle.c_syntax.specs.C as syntax
use Rattle.c_meaning.specs.World as cw
use Rattle.c_meaning.specs.Values.{arg_values}
use Rattle.c_meaning.specs.Run as crun
use Rattle.c_lower.specs.Slots.{Numbers, param_slots, slot_of}
use Rattle.c_lower.specs.Statements.{call_stmts, name_of, is_external_at, body_of}
use Rattle.c_lower.specs.Glue.{params_of, glue_code}
use Rattle.c_lower.specs.Lowering.{lowered, result_of}
use Rattle.c_lower_worlds.specs.Worlds.{Registers, c_world, told_by}
use Rattle.c_lower_worlds.specs.Shapes.{types_of}
use Rattle.c_lower_worlds.specs.Frames.{StandsFor}
use Rattle.c_lower_worlds.specs.Same.{Same}
use Rattle.c_lower_worlds.specs.SameStatements.{Begins}
use Rattle.vlt_core.specs.Instances.{IsInstanceOf}
use Rattle.c_lower_runs.proofs.CalleeFrames.{ArgsFit, decl_values}
use Rattle.c_lower_runs.proofs.Calls.{IsTarget, spend_then, params_long, tail_of, target_slot, delivered, stmts_are}
use Rattle.c_lower_runs.proofs.LoweredFunctions.{Found, external_of, glue_found, glue_func}
use Rattle.c_lower_runs.proofs.GlueSteps.{external_with, is_external, Glued, GlueParts, passed_glued}
use Rattle.c_lower_runs.proofs.Questions.{Tells}
use Rattle.c_lower_worlds.proofs.StatementLists.{then_stops}
use Rattle.c_lower_worlds.proofs.LaterShapes.{stands_later}
use Rattle.c_lower_worlds.proofs.SameSteps.{spend_same, ended_through}

-- the frame of a glue function
abbrev pub glue_frame : ℕ → List CVar → List cw.Value → crun.Frame
glue_frame d vs values = record { depth = d; is_glue = true; vars = crun.bound vs values }

found_glue : (R : crun.Setup) (cm : crun.Meaning) (n : ℕ) (target : Option CVar) (xs : List syntax.Arg) (f : crun.Frame) (w : cw.World) (num : crun.Numbered) (values : List cw.Value) →
    (length num.func.params == length xs) ≡ true → f.is_glue ≡ false → arg_values xs f.vars ≡ Ok values →
    crun.call_found R cm n target true xs (Some num) f w ≡
    crun.spend w (λ w. crun.back_in (crun.count_of R.program) n num.func.result target f (cm num.first num.func.body (glue_frame f.depth num.func.params values) w))
unfolding crun.call_found crun.with_found crun.enter
found_glue R cm n target xs f w num values long plain args = rw (long, plain, args) refl

called_glue : (R : crun.Setup) (cm : crun.Meaning) (n : ℕ) (target : Option CVar) (name : CName) (xs : List syntax.Arg) (f : crun.Frame) (w : cw.World) (num : crun.Numbered) (values : List cw.Value) →
    crun.function_of R.program name ≡ Some num → name.glue ≡ true → (length num.func.params == length xs) ≡ true → f.is_glue ≡ false → arg_values xs f.vars ≡ Ok values →
    crun.does_call R cm n target (syntax.function name xs) f w ≡
    crun.spend w (λ w. crun.back_in (crun.count_of R.program) n num.func.result target f (cm num.first num.func.body (glue_frame f.depth num.func.params values) w))
called_glue R cm n target name xs f w num values found glue long plain args =
    ap (λ o. crun.call_found R cm n target name.glue xs o f w) found ∙ ap (λ b. crun.call_found R cm n target b xs (Some num) f w) glue
    ∙ found_glue R cm n target xs f w num values long plain args

module _ (p : Program) (heap depth : ℕ) where
  abbrev pub c_setup : crun.Setup
  c_setup = record { program = lowered p; heap = heap; depth = depth }

  -- what glue gives the caller
  handed_same : (cm : crun.Meaning) (f gf : Func) (target : Option ℕ) (t : Numbers) (k : ℕ) (frame : crun.Frame) (s : source.Frame) (w : source.World) (regs : Registers) (i j : ℕ)
      (src : (Option source.Value → source.Frame → source.World → step.Step) → step.Step) (c : crun.Step) → IsTarget p f gf target → Begins p f k s w frame regs →
      Glued p gf s w src c →
      Same p f t k frame (src (step.deliver f target))
      (crun.then_do (crun.back_in (crun.count_of (lowered p)) i (result_of gf.result) (target_slot p c_setup cm f target) frame c)
      (crun.does_stmts c_setup cm j (stmts_made (tail_of p c_setup cm f target))))
  unfolding crun.back_in
  handed_same cm f gf target t k frame s w regs i j src c fits begin (inl h) =
      rw (h.is (step.deliver f target))
      (ended_through
      (λ c. crun.then_do (crun.back_in (crun.count_of (lowered p)) i (result_of gf.result) (target_slot p c_setup cm f target) frame c)
      (crun.does_stmts c_setup cm j (stmts_made (tail_of p c_setup cm f target))))
      (λ o v. then_stops o v (crun.does_stmts c_setup cm j (stmts_made (tail_of p c_setup cm f target)))) h.outcome h.world c h.ended)
  handed_same cm f gf target t k frame s w regs i j src c fits begin (inr h) =
      let g = h.gave in
      let kept = begin.fuel_left in
      rw (h.is (step.deliver f target))
      (rw (g.is)
      (delivered p c_setup cm f gf target t k frame h.s2 h.w2 h.w2 g.registers h.a g.value i j fits
      (record {
        stands = same_frame (stands_later p (types_of w.objects) (types_of h.w2.objects) g.later f s frame begin.stands);
        types = refl;
        same = refl;
        shaped = g.shaped;
        registers = g.are;
        fed = g.fed begin.fed;
        fuel_left = subst (λ n. n ≤ k) (sym g.fuel) begin.fuel_left;
      }) g.gives))
    where
      same_frame : StandsFor p (types_of h.w2.objects) f s frame → StandsFor p (types_of h.w2.objects) f h.s2 frame
      same_frame st = record {
        depth = st.depth ∙ sym h.gave.depth;
        is_glue = st.is_glue;
        vars = λ v. subst (λ a. Rattle.c_lower_worlds.specs.Frames.HoldsVar p (types_of h.w2.objects) f v a frame) (ap (λ (vars : ℕ → Option source.Value). vars v) (sym h.gave.vars)) (st.vars v);
      }

  -- the call, where its glue has its parts, and the answers are of 64 bits
  pub external_same : (n : ℕ) (f : Func) (g : ℕ) (gf : Func) (target : Option ℕ) (keys : List ℕ) (values : List source.Value) (xs : List syntax.Arg) (t : Numbers) (k : ℕ)
      (s : source.Frame) (w : source.World) (frame : crun.Frame) (regs : Registers) (j : ℕ) → IsInstanceOf p g gf → gf.external ≡ true → IsTarget p f gf target → k ≤ n →
      Begins p f k s w frame regs → ArgsFit p (types_of w.objects) gf.vars values → length values ≡ gf.params → arg_values xs frame.vars ≡ Ok (decl_values p gf.vars values) →
      length xs ≡ length (decl_values p gf.vars values) →
      Tells (slot_of p gf) (params_of gf) (flat_map told_by values) (glue_frame s.depth (param_slots p gf) (decl_values p gf.vars values)) → length (flat_map told_by values) ≤ 16 →
      ((ns : List ℕ) → passed_objects p gf keys s w.objects gf.clause ≡ Ok ns → (cm : crun.Meaning) → GlueParts p heap c_setup cm gf keys s values (glue_frame s.depth (param_slots p gf) (decl_values p gf.vars values))) →
      Same p f t k frame (step.spend w (λ w. call_external heap p f target keys gf values s w))
      (crun.does_stmts c_setup (crun.less c_setup n) j (stmts_made (call_stmts p f (syntax.function (name_of p g) xs) target)) frame (c_world p regs w))
  external_same zero f g gf target keys values xs t k s w frame regs j is external fits le begin shapes count args long tells few parts =
      subst (Same p f t k frame (step.spend w (λ w. call_external heap p f target keys gf values s w))) (sym code)
      (spend_same p f t k frame w regs _ _ (λ some. absurd (none w.fuel some (let l = begin.fuel_left in omega arith))))
    where
      none : (n : ℕ) → (n == 0) ≡ false → n ≤ 0 → ⊥
      none n e l = grind (arith, nat_tests)

      num : Found (crun.function_of (lowered p) (name_of p g)) (glue_func p g gf)
      num = glue_found p g gf is external

      rest : crun.Frame → cw.World → crun.Step
      rest = crun.does_stmts c_setup (crun.less c_setup zero) (j + 1) (stmts_made (tail_of p c_setup (crun.less c_setup zero) f target))

      vals : List cw.Value
      vals = decl_values p gf.vars values

      code : crun.does_stmts c_setup (crun.less c_setup zero) j (stmts_made (call_stmts p f (syntax.function (name_of p g) xs) target)) frame (c_world p regs w) ≡
          crun.spend (c_world p regs w) (λ v. crun.then_do (crun.back_in (crun.count_of (lowered p)) j (result_of gf.result) (target_slot p c_setup (crun.less c_setup zero) f target) frame
          (crun.less c_setup zero num.first (body_of (glue_code p gf)) (glue_frame frame.depth (param_slots p gf) vals) v)) rest)
      code =
          stmts_are p heap depth (crun.less c_setup zero) (λ f ss s w. step.goes s w) zero f (syntax.function (name_of p g) xs) target j frame (c_world p regs w)
          ∙ ap (λ st. crun.then_do st rest)
          (called_glue c_setup (crun.less c_setup zero) j (target_slot p c_setup (crun.less c_setup zero) f target) (name_of p g) xs frame (c_world p regs w) (record { func = glue_func p g gf; first = num.first }) vals
          num.is (ap is_external_at is.at ∙ external_of p g gf is ∙ external)
          (eq-eqb (length (param_slots p gf)) (length xs) (params_long p (types_of w.objects) gf values shapes count ∙ sym long)) begin.stands.is_glue args)
          ∙ spend_then (c_world p regs w) _ rest
  external_same (suc n) f g gf target keys values xs t k s w frame regs j is external fits le begin shapes count args long tells few parts =
      subst (Same p f t k frame (step.spend w (λ w. call_external heap p f target keys gf values s w))) (sym code)
      (spend_same p f t k frame w regs _ _ (λ some.
      rw (is_external heap p f target keys gf values s w3)
      (handed_same (crun.less c_setup (suc n)) f gf target t k frame s w3 regs j (j + 1) (λ go. external_with heap p keys gf values s w3 go) (inner s.depth (c_world p regs w3)) fits
      (record { stands = begin.stands; shaped = begin.shaped; registers = begin.registers; fed = begin.fed; fuel_left = (let l = begin.fuel_left in omega arith) })
      (passed_glued p heap c_setup (crun.less c_setup n) gf keys s values (glue_frame s.depth (param_slots p gf) vals) w3 regs begin.shaped begin.registers tells few begin.fed num.first
      (λ ns e. parts ns e (crun.less c_setup n))))))
    where
      w3 : source.World
      w3 = record w { fuel = w.fuel - 1 }

      num : Found (crun.function_of (lowered p) (name_of p g)) (glue_func p g gf)
      num = glue_found p g gf is external

      rest : crun.Frame → cw.World → crun.Step
      rest = crun.does_stmts c_setup (crun.less c_setup (suc n)) (j + 1) (stmts_made (tail_of p c_setup (crun.less c_setup (suc n)) f target))

      vals : List cw.Value
      vals = decl_values p gf.vars values

      inner : ℕ → cw.World → crun.Step
      inner d v = crun.less c_setup (suc n) num.first (body_of (glue_code p gf)) (glue_frame d (param_slots p gf) vals) v

      code : crun.does_stmts c_setup (crun.less c_setup (suc n)) j (stmts_made (call_stmts p f (syntax.function (name_of p g) xs) target)) frame (c_world p regs w) ≡
          crun.spend (c_world p regs w) (λ v. crun.then_do (crun.back_in (crun.count_of (lowered p)) j (result_of gf.result) (target_slot p c_setup (crun.less c_setup (suc n)) f target) frame (inner s.depth v)) rest)
      code =
          stmts_are p heap depth (crun.less c_setup (suc n)) (λ f ss s w. step.goes s w) (suc n) f (syntax.function (name_of p g) xs) target j frame (c_world p regs w)
          ∙ ap (λ st. crun.then_do st rest)
          (called_glue c_setup (crun.less c_setup (suc n)) j (target_slot p c_setup (crun.less c_setup (suc n)) f target) (name_of p g) xs frame (c_world p regs w) (record { func = glue_func p g gf; first = num.first }) vals
          num.is (ap is_external_at is.at ∙ external_of p g gf is ∙ external)
          (eq-eqb (length (param_slots p gf)) (length xs) (params_long p (types_of w.objects) gf values shapes count ∙ sym long)) begin.stands.is_glue args)
          ∙ spend_then (c_world p regs w) _ rest
          ∙ ap (λ d. crun.spend (c_world p regs w) (λ v. crun.then_do (crun.back_in (crun.count_of (lowered p)) j (result_of gf.result) (target_slot p c_setup (crun.less c_setup (suc n)) f target) frame (inner d v)) rest)) begin.stands.depth
