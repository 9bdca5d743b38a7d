-- Each rule on bodies: what it refuses, by a name.
use Rattle.std.specs.Prelude.{List, [], ◌∷◌, Option, Some, None}
use Rattle.vlt_syntax.specs.Tree.{Name}
use Rattle.vlt_kinds_types.specs.declared.names.found.Refusal.{Refusal}
use Rattle.vlt_kinds_types.specs.Names.Refusals.{refusal}
use Rattle.vlt_core.specs.declared.rules.TheConstants.{UNKNOWN_NAME}

-- a name that isn't known
unfoldable pub unknown_name : {A : Type 0} → Option A → Name → List Refusal
unknown_name None n = refusal UNKNOWN_NAME n.at.from ∷ []
unknown_name (Some v) n = []
