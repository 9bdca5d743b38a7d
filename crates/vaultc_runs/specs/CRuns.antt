-- What `crun` replies to a C text, over files of numbers.
use Rattle.std.specs.Prelude.{◌≡◌, ℕ, List, [], ◌++◌, Option, Some, None, codes}
use Rattle.std.specs.Fmt.{decimal}
use Rattle.vlt_base.specs.declared.Budgets.{Budgets}
use Rattle.vlt_steps.specs.Writing.{Outside}
use Rattle.c_interp.specs.declared.stop.CStop.{CStop}
use Rattle.c_interp.specs.declared.stop.CStop.TheVariants.{Stopped, Undefined}
use Rattle.c_reader.specs.declared.error.CError.{CError}
use Rattle.c_reader.specs.declared.error.CError.TheVariants as error
use Rattle.c_interp.specs.declared.runs.end.CEnd.{CEnd}
use Rattle.c_interp.specs.declared.runs.end.CEnd.TheVariants.{Unread, Ended}
use Rattle.c_interp.specs.Runs.Ends.{EndsAs}
use Rattle.vaultc_runs.specs.declared.status.TheConstants.{NO_TEXT, UNDEFINED}
use Rattle.vaultc_runs.specs.Lines.{Reply, reply, over_reply, place_reply, following}
use Rattle.vaultc_runs.specs.Runs.{stop_line, end_line}

-- ---- the last line of each end, with the status

-- why a text stands for no program; want of memory is no reason
abbrev pub c_refusal : (text : List ℕ) → CError → Option Reply
c_refusal text (error.Unexpected at) = Some (place_reply (codes "c") text at)
c_refusal text error.EndOfText = Some (reply NO_TEXT (codes "text c end\n"))
c_refusal text (error.Kind rule at) = Some (place_reply (codes "c kind " ++ decimal rule) text at)
c_refusal text (error.Limit n) = Some (over_reply n)
c_refusal text error.Memory = None

abbrev pub at_statement : (what : List ℕ) → ℕ → List ℕ
at_statement what statement = what ++ codes " at " ++ decimal statement ++ codes "\n"

abbrev pub undefined_line : (rule statement : ℕ) → List ℕ
undefined_line rule statement = at_statement (codes "undefined " ++ decimal rule) statement

-- a stop that runs of the source have too is told as theirs
abbrev pub stop_reply : CStop → Option Reply
stop_reply (Stopped stop) = stop_line stop
stop_reply (Undefined rule statement) = Some (reply UNDEFINED (undefined_line rule statement))

abbrev pub end_reply : (text : List ℕ) → CEnd → Option Reply
end_reply text (Unread e) = c_refusal text e
end_reply text (Ended end) = end_line stop_reply end

-- ---- a whole run

-- a sink that takes all, with what was written to it
abbrev pub took : List ℕ → Outside
took bytes = record { written = Some bytes; faults = 0 }

-- `crun` may end so over a sink that takes all: it writes the events, and then comes the last line of the end
pub record IsReplyToC (text input answers : List ℕ) (b : Budgets) (r : Reply) : Type 0 where
  pub end : CEnd
  pub events : List ℕ
  pub ends : EndsAs text input answers b (took []) (took events) end
  pub last : Reply
  pub last_is : end_reply text end ≡ Some last
  pub whole : r ≡ following events last
