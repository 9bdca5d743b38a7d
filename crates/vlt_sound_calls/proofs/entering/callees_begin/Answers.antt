use Rattle.vlt_sound_calls.proofs.Over.{all_passed}
use Rattle.vlt_sound_calls.proofs.Begins.{holds, passes_states}
use Rattle.vlt_sound_calls.proofs.EnteringLaws.{callee_agrees, callee_entered, callee_scoped}
use Rattle.vlt_sound_calls.proofs.entering.callees_begin.Goals as goal

pub returns-clause-passed : goal.returns-clause-passed
returns-clause-passed c = λ p f x h ids frame os g keys values q.
    all_passed keys frame os p g g.clause (holds q.agrees g keys q.call q.typed.limited q.entered.flat q.pass)
    (λ e i b y. (passes_states q.agrees g keys q.call q.typed.limited q.entered.flat q.pass e i b y).0)

pub returns-clause-agrees : goal.returns-clause-agrees
returns-clause-agrees c = λ p f x h ids frame os g keys values q.
    callee_agrees g keys values q.agrees q.long q.call q.typed q.typed_callee q.head q.entered q.scoped q.pass

pub returns-clause-context : goal.returns-clause-context
returns-clause-context c = λ p f x h ids frame os g keys values q.
    callee_entered g keys values q.agrees q.long q.call q.typed q.typed_callee q.head q.entered q.scoped q.pass

pub returns-clause-scope : goal.returns-clause-scope
returns-clause-scope c = λ p f x h ids frame os g keys values q.
    callee_scoped g keys values q.agrees q.long q.call q.typed q.typed_callee q.head q.entered q.scoped q.pass
