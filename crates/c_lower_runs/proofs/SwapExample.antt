-- The conditions hold of a program in which an object's part is exchanged, so the law speaks of its runs.
use Rattle.std.proofs.Common.{◌≡◌, ◌≤◌, ℕ, zero, suc, true, false, List, [], ◌∷◌, length, Some, None, ◌==◌, pos, slice_get, codes, refl, sym, ap, ◌∙◌, subst}
use Rattle.std.proofs.lemmas.Bool.{false≢true}
use Rattle.std.proofs.lemmas.Option.{none-some, same_Some}
use Rattle.vlt_core.specs.Core as core
use Rattle.vlt_core.specs.Core.{Program, TypeDecl, CaseDecl, Func, States, Ty}
use Rattle.vlt_core.specs.Lookups.{case_at}
use Rattle.vlt_core.specs.Kinded.{IsKinded}
use Rattle.vlt_meaning.specs.World as source
use Rattle.vlt_meaning.specs.Run as run
use Rattle.vlt_meaning.specs.Step as step
use Rattle.vlt_meaning.specs.Operands as operands
use Rattle.vlt_meaning.specs.Calls as calls
use Rattle.c_meaning.specs.World as cw
use Rattle.c_meaning.specs.Run as crun
use Rattle.c_lower.specs.Lowering.{lowered}
use Rattle.c_lower_runs.specs.SameRuns.{c_outcome, AreTheSame}
use Rattle.c_lower_runs.specs.Lowerable.{IsAskable, IsLowerable}
use Rattle.c_lower_worlds.specs.Naming.KindedParts.{are_proper}
use Rattle.c_lower_runs.proofs.Theorem.{lowered_same}

-- struct leaf { int value; }
-- struct box { tracked leaf part; }
-- void main() {
--     tracked(A) leaf a = new leaf { value: 1 };
--     tracked(B) box b = new box { part: a };
--     tracked(C) leaf c = new leaf { value: 2 };
--     tracked leaf d = c;
--     swap(b.part, d);
--     release d;
--     release b;
-- }
first : States
first m = m == 0

struct : Ty → TypeDecl
struct ty = core.a_struct (record { name = []; header = []; set = None; release = first; fields = record { name = []; ty = ty; states = first } ∷ [] })

stmts : List core.Simple → core.Stmts
stmts [] = core.next 0 (core.return None) core.done
stmts (x ∷ xs) = core.next 0 (core.simple x) (stmts xs)

main : Func
main = record {
  name = codes "main";
  external = false;
  result = None;
  params = 0;
  clause = [];
  keys = record { name = []; key_type = Some 0 } ∷ record { name = []; key_type = Some 1 } ∷ record { name = []; key_type = Some 0 } ∷ [];
  vars = record { name = []; ty = core.tracked 0 0 [] } ∷ record { name = []; ty = core.tracked 1 1 [] } ∷ record { name = []; ty = core.tracked 2 0 [] } ∷ record { name = []; ty = core.owning first 0 [] } ∷ [];
  body = stmts (
      core.make 0 (core.pure (core.number (pos 1)) ∷ []) ∷ core.make 1 (core.pack 0 first ∷ []) ∷ core.make 2 (core.pure (core.number (pos 2)) ∷ []) ∷
      core.own 3 (core.pack 2 first) ∷ core.swap 1 0 3 ∷ core.drop 3 ∷ core.release 1 ∷ []);
  end = 0;
}

swaps : Program
swaps = record { sets = []; types = struct core.int ∷ struct (core.owning first 0 []) ∷ []; fns = main ∷ []; main = 0 }

swaps_kinded : IsKinded swaps
unfolding swaps main stmts struct first
swaps_kinded = refl

swaps_lowerable : IsLowerable swaps
unfolding swaps main stmts struct first
swaps_lowerable = record {
  kinded = swaps_kinded;
  operators = operators;
  payloads = λ t c d at. payloads t c d at;
  externals = λ g gf at external. externals g gf at external;
}
  where
    operators : (g : ℕ) (f : Func) → slice_get swaps.fns g ≡ Some f → are_proper f.body ≡ true
    operators zero f at = subst (λ (f : Func). are_proper f.body ≡ true) (same_Some main f at) refl
    operators (suc g) f at = absurd (none-some f at)

    payloads : (t c : ℕ) (d : CaseDecl) → case_at swaps t c ≡ Some d → length d.payload ≤ 8
    payloads zero c d at = absurd (none-some d at)
    payloads (suc zero) c d at = absurd (none-some d at)
    payloads (suc (suc t)) c d at = absurd (none-some d at)

    externals : (g : ℕ) (gf : Func) → slice_get swaps.fns g ≡ Some gf → gf.external ≡ true → IsAskable swaps gf
    externals zero gf at external = absurd (false≢true (ap (λ (f : Func). f.external) (same_Some main gf at) ∙ external))
    externals (suc g) gf at external = absurd (none-some gf at)

swaps_done : (run.run swaps 9 9 9 [] []).outcome ≡ source.done
unfolding swaps main stmts struct first step.fill step.then_do step.where_so step.with_dropped step.with_found step.with_made step.with_moved step.with_released operands.with_operand operands.with_operands calls.with_returned run.left_function run.made_in run.swap_step
swaps_done = refl

-- so its C program's run is done too
lowered_done : (crun.c_run (lowered swaps) 9 9 9 [] []).outcome ≡ cw.done
lowered_done = by (lowered_same swaps swaps_lowerable 9 9 9 [] [] (record { numbers = tt; lists = tt }) (ap source.is_fault swaps_done))
  where
    by : AreTheSame (run.run swaps 9 9 9 [] []) (crun.c_run (lowered swaps) 9 9 9 [] []) → (crun.c_run (lowered swaps) 9 9 9 [] []).outcome ≡ cw.done
    by h = sym (outcome_same cw.done (crun.c_run (lowered swaps) 9 9 9 [] []).outcome (ap c_outcome (sym swaps_done) ∙ h.outcome))
      where
        outcome_same : (a b : cw.Outcome) → (let o : Rattle.std.proofs.Common.Option cw.Outcome = Some a in o ≡ Some b) → a ≡ b
        outcome_same a b e = cc
