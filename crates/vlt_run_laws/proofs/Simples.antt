-- Statements without blocks, returns and jumps keep that what comes next is known.
use Rattle.std.proofs.Common.{ℕ, Bool, Option}
use Rattle.vlt_core.specs.Core.{Simple, simple, return, jump, Operand, Func}
use Rattle.vlt_core.specs.KindedHeads.{unless}
use Rattle.vlt_core.specs.KindedCalls.{return_broken}
use Rattle.vlt_core.specs.declared.rules.TheConstants as rule
use Rattle.vlt_meaning.specs.Run.{Setup, does_form, out_of_fuel}
use Rattle.vlt_sound_worlds.specs.Typed.{IsTyped}
use Rattle.vlt_sound_worlds.proofs.Empty.{both_empty, unless_so}
use Rattle.vlt_sound_worlds.specs.Scoped.{HasKeys}
use Rattle.vlt_sound_statements.specs.Makings.{HasCases}
use Rattle.vlt_sound_calls.specs.Heads.{HasHead}
use Rattle.vlt_sound_calls.specs.Returned.{returns_to}
use Rattle.vlt_sound_calls.proofs.ReturnsLaws.{returns_are_safe}
use Rattle.vlt_sound_statements.specs.Sites.{comes_to}
use Rattle.vlt_sound_statements.proofs.Control.{weaker}
use Rattle.vlt_sound_statements.proofs.Branches.{jump_is_safe}
use Rattle.vlt_sound_statements.proofs.SimpleLaws.{form_safe}
use Rattle.vlt_run_laws.proofs.Moves.{GoodForm}

module _ (r : Setup) (n : ℕ) (f : Func) (typed : IsTyped r.program f) (keyed : HasKeys f) where
  pub simple_good : HasCases r.program f → (s : Simple) → GoodForm r n f (simple s)
  simple_good cased s frame w x ts follows =
      follows _ (form_safe r f typed keyed cased out_of_fuel s x.site x.map x.following x.ids frame w x.here x.kinded x.leads x.agrees)

  pub jump_good : (continues : Bool) → GoodForm r n f (jump continues)
  jump_good continues frame w x ts follows =
      follows _ (jump_is_safe r out_of_fuel f typed keyed continues x.site x.map x.following x.ids frame w x.here x.kinded x.leads x.agrees)

  pub return_good : HasHead r.program f → (value : Option Operand) → GoodForm r n f (return value)
  return_good head value frame w x ts follows =
      let both = both_empty (unless x.site.around.returns rule.WRONG_JUMP) (return_broken r.program f x.ids f.result value) x.kinded.row in
      follows _
      (weaker (returns_to r.program f x.site.context) (comes_to r.program f x.site x.following x.ids)
      (does_form r out_of_fuel f (return value) frame w)
      (λ frame w never. absurd never) (λ c frame w never. absurd never)
      (λ v kept w left. record { allowed = unless_so x.site.around.returns rule.WRONG_JUMP both.0; returned = left })
      ((returns_are_safe r out_of_fuel).each f x.site.context x.map x.ids frame w x.site.left value typed head x.here.entered x.agrees both.1 x.leads))
