-- Programs of texts have narrow sets of states.
use Rattle.std.proofs.Common.{Option, Some, None, IfSome}
use Rattle.vlt_core.specs.Core.{States, Program}
use Rattle.vlt_resolve_laws.specs.Narrow.{IsNarrowSet, HasNarrowStates}
use Rattle.cert_least_laws.specs.Bodies.Narrow.{IsNarrow, HasNarrow}

side : (o : Option States) → IfSome o IsNarrowSet → IfSome o IsNarrow
side None h = tt
side (Some s) h = record { below = h }

pub narrow : (p : Program) → HasNarrowStates p → HasNarrow p
narrow p h = record {
  released = λ t. record { below = h.released t };
  owned = λ g f v states at says. record { below = h.owned g f v states at says };
  listed = λ t c i d k at there. record { below = h.listed t c i d k at there };
  after = λ g f i e at there. side e.after (h.after g f i e at there);
  before = λ g f i e at there. side e.before (h.before g f i e at there);
}
