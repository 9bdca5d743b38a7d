-- An external from the parts of its keys and its result: glue does what the external's step does.
use Rattle.std.proofs.Common.{◌≡◌, ◌≤◌, ℕ, true, List, Option, length, Ok, sym, ap, ◌∙◌, subst}
use Rattle.vlt_core.specs.Core.{Operand, Func, Program}
use Rattle.vlt_core.specs.KindedScopes.{Ids}
use Rattle.vlt_core.specs.Lookups.{after_set}
use Rattle.vlt_meaning.specs.World as source
use Rattle.vlt_meaning.specs.Calls.{passed_objects, entries_after}
use Rattle.vlt_meaning.specs.Externals.{call_external}
use Rattle.vlt_meaning.specs.Step as step
use Rattle.c_syntax.specs.View.{stmts_made}
use Rattle.c_syntax.specs.C as syntax
use Rattle.c_meaning.specs.Values.{arg_values}
use Rattle.c_meaning.specs.Run as crun
use Rattle.c_lower.specs.Slots.{Numbers, param_slots}
use Rattle.c_lower.specs.Statements.{call_stmts, name_of}
use Rattle.c_lower_worlds.specs.Worlds.{Registers, c_world}
use Rattle.c_lower_worlds.specs.Shapes.{types_of}
use Rattle.c_lower_worlds.specs.Same.{Same}
use Rattle.c_lower_worlds.specs.Naming.Lists.{Each}
use Rattle.c_lower_worlds.specs.SameStatements.{Begins}
use Rattle.vlt_core.specs.Instances.{IsInstanceOf}
use Rattle.c_lower_worlds.specs.Operands.{RegistersSuffice}
use Rattle.c_lower_worlds.proofs.OperandLists.{HaveShapes, flat_values}
use Rattle.c_lower_runs.proofs.CalleeFrames.{ArgsFit, decl_values}
use Rattle.c_lower_runs.proofs.Calls.{IsKindedCall}
use Rattle.c_lower_runs.proofs.ExternalCalls.{c_setup, glue_frame, external_same}
use Rattle.c_lower_worlds.proofs.OfNaming.RunningInstances.{HasNoBound}
use Rattle.c_lower_runs.proofs.GlueParameters.{PlainParameters, tells, told_long, owners}
use Rattle.c_lower_runs.proofs.AnswerReading.{IsProper}
use Rattle.c_lower_runs.proofs.GlueResults.{KeysFit, ResultParts, parts_are}

module _ (p : Program) (heap depth : ℕ) (enough : RegistersSuffice p) where
  -- an external with whatever keys and result, where their parts are there
  pub external_right : (n : ℕ) (f : Func) (ids : Ids) (g : ℕ) (gf : Func) (target : Option ℕ) (keys : List ℕ) (os : List Operand) (values : List source.Value)
      (xs : List syntax.Arg) (t : Numbers) (k : ℕ) (s : source.Frame) (w : source.World) (frame : crun.Frame) (regs : Registers) (j : ℕ) →
      IsInstanceOf p g gf → HasNoBound gf → gf.external ≡ true → (call : IsKindedCall p f gf ids target os) → k ≤ n →
      Begins p f k s w frame regs → HaveShapes p (types_of w.objects) call.types values → length values ≡ gf.params → arg_values xs frame.vars ≡ Ok (flat_values p call.types values) →
      length xs ≡ length (flat_values p call.types values) → gf.params ≤ 16 → PlainParameters gf →
      ((ns : List ℕ) → passed_objects p gf keys s w.objects gf.clause ≡ Ok ns → Each (λ e. IsProper (after_set p gf e)) (entries_after gf)) →
      ((cm : crun.Meaning) → KeysFit p (c_setup p heap depth) cm enough gf keys s values (glue_frame s.depth (param_slots p gf) (decl_values p gf.vars values))) →
      ((cm : crun.Meaning) → ResultParts p (c_setup p heap depth) cm enough gf keys s values (glue_frame s.depth (param_slots p gf) (decl_values p gf.vars values)) gf.result) →
      Same p f t k frame (step.spend w (λ w. call_external heap p f target keys gf values s w))
      (crun.does_stmts (c_setup p heap depth) (crun.less (c_setup p heap depth) n) j (stmts_made (call_stmts p f (syntax.function (name_of p g) xs) target)) frame (c_world p regs w))
  external_right n f ids g gf target keys os values xs t k s w frame regs j is unbound external call le begin shapes count args long few plain proper fit parts =
      external_same p heap depth n f g gf target keys values xs t k s w frame regs j is external call.target_fits le begin fits count
      (args ∙ ap (λ vs. Ok vs) same) (long ∙ ap length same)
      (tells p (types_of w.objects) gf s.depth s.keys values fits count plain)
      (subst (λ i. i ≤ 16) (sym (told_long p (types_of w.objects) gf s.depth s.keys values fits count plain)) few)
      (λ ns e cm. parts_are p (c_setup p heap depth) cm enough gf keys s values (glue_frame s.depth (param_slots p gf) (decl_values p gf.vars values)) (fit cm)
      (owners p (types_of w.objects) gf s.depth s.keys values fits count plain) unbound (proper ns e) (parts cm))
    where
      fits : ArgsFit p (types_of w.objects) gf.vars values
      fits = call.shapes (types_of w.objects) values shapes

      same : flat_values p call.types values ≡ decl_values p gf.vars values
      same = call.values (types_of w.objects) values shapes
