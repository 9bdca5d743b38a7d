use Rattle.std.proofs.Common.{ap₂}
use Rattle.vlt_base.specs.declared.places.Span.{Span}
use Rattle.vlt_syntax_copies.specs.Shifted.{shifted_span}
use Rattle.vlt_syntax_copies.proofs.names.shifted_span.Goals as goal

pub returns : goal.returns
unfolding shifted_span
returns c = ap₂ (λ x y. let made : Span = record { from = x; to = y } in made) c.shifted_place.ensures c.shifted_place-2.ensures
