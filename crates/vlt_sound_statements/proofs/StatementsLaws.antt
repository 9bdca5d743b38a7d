-- All statements are safe, by induction on what they are made of.
use Rattle.std.proofs.Common.{ℕ, List, [], Option, refl}
use Rattle.std.specs.Prelude.{slice_get}
use Rattle.vlt_core.specs.Core.{Simple, Form, simple, call, choose, loop, switch, focus, scope, return, jump, Operand, Block, block, Stmts, done, next, Arms, no_arms, arm, Func}
use Rattle.vlt_core.specs.Rows.{rows_of}
use Rattle.vlt_core.specs.Maps.{map_after}
use Rattle.vlt_core.specs.KindedHeads.{unless}
use Rattle.vlt_core.specs.declared.rules.TheConstants as rule
use Rattle.vlt_core.specs.KindedStatements.{ids_after}
use Rattle.vlt_core.specs.KindedCalls.{with_call_target, return_broken}
use Rattle.vlt_meaning.specs.Run.{Setup, Meaning, does_simple, does_form, does_stmts, out_of_fuel}
use Rattle.vlt_sound_worlds.specs.Safe.{goes_to}
use Rattle.vlt_sound_worlds.proofs.Empty.{both_empty, unless_so}
use Rattle.vlt_sound_worlds.proofs.Blocks.{agrees_below}
use Rattle.vlt_sound_calls.specs.Returned.{returns_to}
use Rattle.vlt_sound_statements.specs.Sites.{comes_to}
use Rattle.vlt_sound_statements.specs.Statements.{IsSafeForm, IsSafeBlock, AreSafe, RestIsSafe}
use Rattle.vlt_sound_statements.proofs.Control.{weaker}
use Rattle.vlt_sound_statements.proofs.Branches.{block_is_safe, done_is_safe, next_is_safe, choose_is_safe, loop_is_safe, scope_is_safe, jump_is_safe}
use Rattle.vlt_sound_statements.proofs.Focuses.{focus_is_safe}
use Rattle.vlt_sound_statements.specs.Arms.{AreSafeArms}
use Rattle.vlt_sound_statements.proofs.Switches.{switch_is_safe}
use Rattle.vlt_sound_statements.specs.Parts.{HasSafeParts}

module _ (r : Setup) (rest_of : Meaning) (f : Func) (parts : HasSafeParts r rest_of f) where
  simple_safe : (s : Simple) → IsSafeForm r rest_of f (simple s)
  simple_safe q s h k ids frame w here kinded leads agrees =
      weaker (goes_to r.program f s.context (map_after (rows_of r.program f s.left (simple q)) h) (ids_after f q ids) [])
      (comes_to r.program f s k (ids_after f q ids)) (does_simple r f q frame w)
      (λ frame w now. agrees_below leads.1 now) (λ c frame w never. absurd never) (λ v kept w never. absurd never)
      (parts.steps q s.context h ids frame w here.scoped agrees kinded.row leads.0)

  call_safe : (g : ℕ) (target : Option ℕ) (keys : List ℕ) (args : List Operand) →
      IsSafeForm r rest_of f (call g target keys args)
  call_safe g target keys args s h k ids frame w here kinded leads agrees =
      weaker (goes_to r.program f s.context (map_after (rows_of r.program f s.left (call g target keys args)) h) (with_call_target f (slice_get r.program.fns g) target ids) [])
      (comes_to r.program f s k (with_call_target f (slice_get r.program.fns g) target ids))
      (does_form r rest_of f (call g target keys args) frame w)
      (λ frame w now. agrees_below leads.1 now) (λ c frame w never. absurd never) (λ v kept w never. absurd never)
      (parts.calls.each f s.context h ids frame w s.left g target keys args parts.typed parts.keyed parts.headed here.entered here.scoped agrees kinded.row leads.0)

  return_safe : (value : Option Operand) → IsSafeForm r rest_of f (return value)
  return_safe value s h k ids frame w here kinded leads agrees =
      let both = both_empty (unless s.around.returns rule.WRONG_JUMP) (return_broken r.program f ids f.result value) kinded.row in
      weaker (returns_to r.program f s.context) (comes_to r.program f s k ids) (does_form r rest_of f (return value) frame w)
      (λ frame w never. absurd never) (λ c frame w never. absurd never)
      (λ v kept w left. record { allowed = unless_so s.around.returns rule.WRONG_JUMP both.0; returned = left })
      (parts.returns.each f s.context h ids frame w s.left value parts.typed parts.headed here.entered agrees both.1 leads)

  module _ (rest : RestIsSafe r rest_of f) where
    mutual
      pub form_safe : (form : Form) → IsSafeForm r rest_of f form
      form_safe (simple s) = simple_safe s
      form_safe (call g target keys args) = call_safe g target keys args
      form_safe (choose e a b) =
          choose_is_safe r rest_of f parts.typed parts.keyed e a b (block_safe a) (block_safe b)
      form_safe (loop e b) = loop_is_safe r rest_of f parts.typed parts.keyed e b (block_safe b) rest
      form_safe (switch v arms end) =
          switch_is_safe r rest_of f parts.typed parts.keyed parts.cased v arms end (arms_safe arms)
      form_safe (focus y z b) = focus_is_safe r rest_of f parts.typed parts.keyed y z b (block_safe b)
      form_safe (scope b) = scope_is_safe r rest_of f parts.typed parts.keyed b (block_safe b)
      form_safe (return value) = return_safe value
      form_safe (jump continues) = jump_is_safe r rest_of f parts.typed parts.keyed continues

      pub block_safe : (b : Block) → IsSafeBlock r rest_of f b
      block_safe (block ss bound end) =
          block_is_safe r rest_of f parts.typed parts.keyed ss bound end (stmts_safe ss)

      pub stmts_safe : (ss : Stmts) → AreSafe r f ss (does_stmts r rest_of f ss)
      stmts_safe done = done_is_safe r rest_of f parts.typed parts.keyed
      stmts_safe (next at form more) =
          next_is_safe r rest_of f parts.typed parts.keyed at form more (form_safe form) (stmts_safe more)

      pub arms_safe : (arms : Arms) → AreSafeArms r rest_of f arms
      arms_safe no_arms = tt
      arms_safe (arm c vs b more) = (block_safe b, arms_safe more)

-- without fuel nothing goes on
pub rest_ends : (r : Setup) (f : Func) → RestIsSafe r out_of_fuel f
rest_ends r f ss s h k ids ended frame w here kinded leads agrees = refl
