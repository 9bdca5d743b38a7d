-- The rows of statements without blocks, the heads of blocks, and maps of the code as a
-- certificate lists them.
use Rattle.std.specs.Prelude.{false, List, [], ◌∷◌, map, Option, Some, None}
use Rattle.serde_json.specs.Data.{Data}
use Rattle.vlt_core.specs.Core as core
use Rattle.vlt_core.specs.View.{tok_of, arm_of}
use Rattle.vlt_core.specs.HeldView.{status_of}
use Rattle.vlt_core.specs.declared.program.Arm.{Arm}
use Rattle.vlt_core.specs.declared.held.Tok.{Tok}
use Rattle.vlt_core.specs.declared.held.Status.{Status}
use Rattle.vlt_core.specs.declared.notes.TokMap.{TokMap}
use Rattle.cert_rows.specs.Values.{TokenStatus, ListedMap}
use Rattle.cert_rows.specs.Rows.{Head, ArmHead, Row, row_data}
use Rattle.cert_rows.specs.Rows as row
use Rattle.cert_format.specs.Bodies.{length_of}
use Rattle.cert_format.specs.Certificate.{shape}

-- the row of a statement without blocks
abbrev pub plain_row : core.Form → Option Row
plain_row (core.simple s) = Some (row.simple s)
plain_row (core.call f target keys args) = Some (row.call f target keys args)
plain_row (core.return o) = Some (row.return o)
plain_row (core.jump c) = Some (row.jump c)
plain_row _ = None

-- what is written for a row of a statement that has no maps: it is the same in each version and
-- for each number of instances
abbrev pub plain_data : Row → Data
plain_data r = row_data (shape false None) r

-- how many statements the block has, and the tokens that it binds
abbrev pub head_of : core.Block → Head
head_of (core.block ss bound end) = (length_of ss, bound)

abbrev pub heads_of : core.Arms → List ArmHead
heads_of core.no_arms = []
heads_of (core.arm c vs b rest) = (c, vs, (head_of b).0, (head_of b).1) ∷ heads_of rest

-- of one arm of the code
abbrev pub arm_head : Arm → ArmHead
arm_head a = ((arm_of a).0, (arm_of a).1, (head_of (arm_of a).2).0, (head_of (arm_of a).2).1)

-- ---- maps

abbrev pub token_status_of : Tok × Status → TokenStatus
token_status_of x = (tok_of x.0, status_of x.1)

-- a map of the code, token by token
abbrev pub listed_map : TokMap → ListedMap
listed_map m = map token_status_of m.pairs
