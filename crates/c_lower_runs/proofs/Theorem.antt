-- The law of the lowering, from the conditions on programs (specs/Lowerable), and that no run is undefined then.
use Rattle.std.proofs.Common.{◌≡◌, inl, inr, ℕ, false, ℤ, List, Option, Some, None, refl, sym, ap, ◌∙◌}
use Rattle.std.proofs.lemmas.Bool.{false≢true}
use Rattle.c_lower_runs.proofs.OfForms.SimpleStatements.{simple_forms_same}
use Rattle.c_lower_runs.proofs.OfForms.Switch.{switch_same}
use Rattle.c_lower_worlds.specs.Naming.Types.{TypesFit}
use Rattle.c_lower_worlds.proofs.OfNaming.KnownCalls.{known_call}
use Rattle.c_lower_worlds.proofs.OperandCode.{operands_are_right}
use Rattle.c_lower_worlds.proofs.NumberCode.{numbers_are_right}
use Rattle.c_lower_runs.proofs.AllExternals.{externals_are_right}
use Rattle.c_lower_runs.proofs.Conditions.{program_parts}
use Rattle.c_lower_worlds.proofs.OfNaming.DeclaredTypes.{types_fit}
use Rattle.c_lower_runs.specs.Lowerable.{IsLowerable}
use Rattle.c_lower_runs.specs.Laws.{LoweringIsRight, LoweredIsSame, LoweredIsDefined}
use Rattle.vlt_core.specs.Core.{Program}
use Rattle.vlt_meaning.specs.World as source
use Rattle.vlt_meaning.specs.Run as run
use Rattle.vlt_meaning_laws.specs.Keeping.{IsLater}
use Rattle.vlt_meaning_laws.proofs.Moves.{less_to}
use Rattle.vlt_meaning_laws.proofs.Later.{later_kept}
use Rattle.c_meaning.specs.World as cw
use Rattle.c_meaning.specs.Run as crun
use Rattle.c_lower.specs.Lowering.{lowered}
use Rattle.c_lower_worlds.specs.Given.{IsFed}
use Rattle.c_lower_runs.specs.SameRuns.{c_outcome, is_undefined, AreTheSame, IsSameRun}
use Rattle.c_lower_worlds.specs.Naming.KindedParts.{HasKindedBodies}
use Rattle.c_lower_worlds.specs.Operands.{RegistersSuffice, OperandsAreRight}
use Rattle.c_lower_runs.proofs.Calls.{CallsFit, KeepsTypes, calls_same}
use Rattle.c_lower_runs.proofs.OfForms.Return.{returns_same}
use Rattle.c_lower_runs.proofs.WholeRuns.{runs_are_same}

module _ (p : Program) (heap depth : ℕ) (h : IsLowerable p) where
  abbrev pub setup : run.Setup
  setup = record { program = p; heap = heap; depth = depth }

  abbrev pub c_setup : crun.Setup
  c_setup = record { program = lowered p; heap = heap; depth = depth }

  types_kept : (n : ℕ) → KeepsTypes p heap depth (crun.less c_setup n) (run.less setup n) n
  types_kept n f ss s w = (less_to IsLater later_kept w setup n f ss s w (later_kept.same w)).kept.objects

  facts : HasKindedBodies p × RegistersSuffice p × CallsFit p
  facts = program_parts p h

  types : TypesFit p
  types = types_fit p h.kinded

  operands : (n : ℕ) → OperandsAreRight p c_setup (crun.less c_setup n)
  operands n = operands_are_right p c_setup (crun.less c_setup n)

  pub lowering_is_right : (fuel : ℕ) (input : List ℤ) (answers : List (List ℤ)) → IsFed input answers → IsSameRun p fuel heap depth input answers
  lowering_is_right =
      runs_are_same p h.kinded types (numbers_are_right p) facts.0 heap depth (λ n rest. record {
        simple_forms = simple_forms_same p types (numbers_are_right p) heap depth c_setup refl (crun.less c_setup n) (operands n) (run.less setup n) n;
        calls = calls_same p heap depth (crun.less c_setup n) (run.less setup n) n facts.0 (operands n) facts.2 rest (types_kept n) (externals_are_right p heap depth h facts.1 n) h.kinded types (known_call p h.kinded);
        switches = switch_same p heap depth c_setup (run.less setup n) (crun.less c_setup n) n h.kinded;
        returns = returns_same p c_setup (crun.less c_setup n) facts.1 (operands n) heap depth (run.less setup n) n;
      })

  -- where the source never ends in a fault, the C program never breaks a rule
  pub never_undefined : (fuel : ℕ) (input : List ℤ) (answers : List (List ℤ)) → IsFed input answers →
      source.is_fault (run.run p fuel heap depth input answers).outcome ≡ false →
      is_undefined (crun.c_run (lowered p) fuel heap depth input answers).outcome ≡ false
  never_undefined fuel input answers fed fine = by (lowering_is_right fuel input answers fed)
    where
      same : (a b : cw.Outcome) → (let o : Option cw.Outcome = Some a in o ≡ Some b) → a ≡ b
      same a b e = cc

      none : (c : cw.Outcome) → (let o : Option cw.Outcome = None in o ≡ Some c) → ⊥
      none c e = cc

      named : (o : source.Outcome) (c : cw.Outcome) → c_outcome o ≡ Some c → is_undefined c ≡ false
      named source.done c e = ap is_undefined (sym (same cw.done c e))
      named (source.trap k) c e = ap is_undefined (sym (same (cw.trap k) c e))
      named source.fuel_end c e = ap is_undefined (sym (same cw.fuel_end c e))
      named source.heap_end c e = ap is_undefined (sym (same cw.heap_end c e))
      named source.depth_end c e = ap is_undefined (sym (same cw.depth_end c e))
      named source.input_end c e = ap is_undefined (sym (same cw.input_end c e))
      named source.answers_end c e = ap is_undefined (sym (same cw.answers_end c e))
      named (source.bad_answer i) c e = ap is_undefined (sym (same (cw.bad_answer i) c e))
      named (source.fault r i) c e = absurd (none c e)

      by : IsSameRun p fuel heap depth input answers → is_undefined (crun.c_run (lowered p) fuel heap depth input answers).outcome ≡ false
      by (inl faults) = absurd (false≢true (sym fine ∙ faults))
      by (inr same) = named (run.run p fuel heap depth input answers).outcome (crun.c_run (lowered p) fuel heap depth input answers).outcome same.outcome

-- ---- the laws

pub lowered_right : LoweringIsRight
lowered_right p h fuel heap depth input answers fed = lowering_is_right p heap depth h fuel input answers fed

pub lowered_same : LoweredIsSame
lowered_same p h fuel heap depth input answers fed fine = by (lowered_right p h fuel heap depth input answers fed)
  where
    by : IsSameRun p fuel heap depth input answers → AreTheSame (run.run p fuel heap depth input answers) (crun.c_run (lowered p) fuel heap depth input answers)
    by (inl faults) = absurd (false≢true (sym fine ∙ faults))
    by (inr alike) = alike

pub lowered_defined : LoweredIsDefined
lowered_defined p h fuel heap depth input answers fed fine = never_undefined p heap depth h fuel input answers fed fine
