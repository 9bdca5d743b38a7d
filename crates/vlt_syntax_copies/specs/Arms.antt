-- An arm with a function applied to each of its spans, as the view of the code gives it.
use Rattle.vlt_base.specs.declared.places.Span.{Span}
use Rattle.vlt_syntax.specs.View.{ArmView}
use Rattle.vlt_syntax_copies.specs.Mapped.{mapped_name, mapped_names, mapped_block}

abbrev pub mapped_arm : (Span → Span) → ArmView → ArmView
mapped_arm go a = (mapped_name go a.0, mapped_names go a.1, mapped_block go a.2, go a.3)
