-- Maps of the code as the plain ones that they stand for.
use Rattle.std.specs.Prelude.{List, map}
use Rattle.vlt_core.specs.View.{tok_of}
use Rattle.vlt_core.specs.HeldView.{status_of}
use Rattle.vlt_core.specs.declared.held.Tok.{Tok}
use Rattle.vlt_core.specs.declared.held.Status.{Status}
use Rattle.vlt_core.specs.declared.notes.TokMap.{TokMap}
use Rattle.cert_rows.specs.Values as s

abbrev pub pair_of : Tok × Status → s.TokenStatus
pair_of x = (tok_of x.0, status_of x.1)

abbrev pub pairs_of : List (Tok × Status) → s.ListedMap
pairs_of = map pair_of

abbrev pub map_of : TokMap → s.ListedMap
map_of m = pairs_of m.pairs

abbrev pub maps_of : List TokMap → List s.ListedMap
maps_of = map map_of
