-- What the code hands over, as plain data.
use Rattle.std.specs.Prelude.{List, map}
use Rattle.vlt_base.specs.declared.ids.KeyId.{KeyId}
use Rattle.vlt_core.specs.View.{ty_of}
use Rattle.vlt_resolve_exprs.specs.Seen.{target_seen}
use Rattle.vlt_resolve_calls.specs.Builds as b
use Rattle.vlt_resolve_calls.specs.Calls as c
use Rattle.vlt_resolve_calls.specs.declared.builds.Case.{Case}
use Rattle.vlt_resolve_calls.specs.declared.calls.Use.{Use}
use Rattle.vlt_resolve_calls.specs.declared.calls.Use.TheVariants as the_use

abbrev pub case_seen : Case → b.Case
case_seen c = record { number = c.number; payload = map ty_of c.payload }

abbrev pub use_seen : Use → c.Use
use_seen (the_use.Dropped at) = c.dropped at
use_seen (the_use.Given t) = c.given (target_seen t.now)

abbrev pub pair_of : KeyId × KeyId → c.Pair
pair_of p = (p.0.0, p.1.0)

abbrev pub pairs_of : List (KeyId × KeyId) → List c.Pair
pairs_of = map pair_of
