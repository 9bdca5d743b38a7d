-- Each set of states that an elaborated program says has one.
use Rattle.std.proofs.Common.{ℕ, List}
use Rattle.vlt_syntax.specs.Tree.{Decl, Tree}
use Rattle.vlt_syntax.specs.Lists.{Each}
use Rattle.vlt_core.specs.Core.{States, Program}
use Rattle.vlt_core_laws.specs.States.{HasStates, IsFilledSet}
use Rattle.vlt_kinds_types.specs.Files.{File, file_of}
use Rattle.vlt_kinds_types.specs.Kinds.{Kinds}
use Rattle.vlt_kinds.specs.Tables.{kinds_of}
use Rattle.vlt_resolve_calls.specs.Builds.{cases_of}
use Rattle.vlt_resolve_laws.specs.KindsLaws.Shapes.{Describes}
use Rattle.vlt_resolve_laws.specs.KindsLaws.Declared.{IsFilled}
use Rattle.vlt_resolve_laws.specs.KindsLaws.States.{SaysStates}
use Rattle.vlt_resolve_laws.proofs.OfKindsLaws.States.{ListedAre, listed_filled}
use Rattle.vlt_resolve_laws.specs.Elaborated.{IsElaborated}
use Rattle.vlt_resolve_laws.proofs.Said.{cases_say_at, elaborated_says}

pub filled_set : (states : States) → IsFilled states → IsFilledSet states
filled_set states x = record { state = x.0; has = x.1 }

pub listed_filled_sets : (file : File) → ListedAre file IsFilledSet
listed_filled_sets file shape ss some = filled_set _ (listed_filled file shape ss some)

-- the types of payloads
pub cases_at : (ds : List Decl) (p : Program) → Describes (file_of ds) p → (t : ℕ) → Each (λ c. Each SaysStates c.payload) (cases_of (kinds_of ds) t)
cases_at ds p described t = cases_say_at ds p described IsFilled (listed_filled (file_of ds)) t

pub elaborated_filled : (t : Tree) (kinds : Kinds) (p : Program) → IsElaborated t kinds p → HasStates p
elaborated_filled t kinds p e =
    let x = elaborated_says t kinds p e IsFilledSet (listed_filled_sets (file_of t.decls)) in
    record { all = x.all; released = x.released; owned = x.owned; listed = x.listed; after = x.after; before = x.before }
