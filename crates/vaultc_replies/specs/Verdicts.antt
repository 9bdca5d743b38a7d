-- What `check` and `explain` say of a tree as a program.
use Rattle.std.specs.Prelude.{◌≡◌, ℕ, List, ◌++◌, Option}
use Rattle.vlt_syntax.specs.Tree.{Tree}
use Rattle.vlt_core.specs.Core.{Func, Program}
use Rattle.vlt_core.specs.Faults.{FlowFault}
use Rattle.vlt_core.specs.Witness.{Choice, IsWitness}
use Rattle.vlt_elaboration.specs.Elaboration.{Refused, broken, exceeded}
use Rattle.vlt_verdict.specs.Verdicts.{Verdict, refused, faulty, accepted}
use Rattle.vlt_reports.specs.Accepted.{accepted_line}
use Rattle.vlt_reports.specs.Reports.{kind_line, fault_line, instance_text, paths_text}
use Rattle.vaultc_runs.specs.declared.status.TheConstants.{DONE, NO_PROGRAM, NOT_ACCEPTED}
use Rattle.vaultc_replies.specs.Variables.{variable_in}
use Rattle.vaultc_runs.specs.Lines.{Reply, reply, over_reply}

-- a rule on names and types at its place in the text, or a limit
abbrev pub told_reply : (text : List ℕ) → Refused → Reply
told_reply text (broken rule at) = reply NO_PROGRAM (kind_line text rule at)
told_reply text (exceeded n) = over_reply n

abbrev pub check_reply : (text : List ℕ) → Verdict → Reply
check_reply text (refused r) = told_reply text r
check_reply text (faulty p f x) = reply NOT_ACCEPTED (fault_line text p f x.at x.tok x.kind)
check_reply text (accepted p) = reply DONE (accepted_line p)

-- `explain` says the same, and after the line of a fault the paths of one of its witnesses. A variable stands for the state of a
-- bound entry's object.
abbrev pub explained_reply : (text variable : List ℕ) → Program → Func → FlowFault → (first : List Choice) → (second : Option (List Choice)) → Reply
explained_reply text variable p f x first second = reply NOT_ACCEPTED
    (fault_line text p f x.at x.tok x.kind ++ paths_text text p f (instance_text p f variable x.origin) first second)

abbrev pub IsExplained : (text : List ℕ) → Tree → Verdict → Reply → Type 0
IsExplained text t (faulty p f x) r =
    (first : List Choice) × (second : Option (List Choice)) × IsWitness p x first second ×
    (r ≡ explained_reply text (variable_in t x.function) p f x first second)
IsExplained text t v r = r ≡ check_reply text v
