-- A part of a tree whose places all lie so much further on, as far as 32 bits hold them: a place that would not fit stays where it is.
use Rattle.std.specs.Prelude.{ℕ, ◌+◌, ◌^◌, nat_lt, if◌then◌else◌}
use Rattle.vlt_base.specs.declared.places.Span.{Span}
use Rattle.vlt_syntax.specs.Tree.{Decl}
use Rattle.vlt_syntax_copies.specs.Mapped.{mapped_decl}

abbrev pub shifted_place : (by : ℕ) → ℕ → ℕ
shifted_place by n = if nat_lt (n + by) (2 ^ 32) then n + by else n

unfoldable pub shifted_span : (by : ℕ) → Span → Span
shifted_span by at = record { from = shifted_place by at.from; to = shifted_place by at.to }

abbrev pub shifted : (by : ℕ) → Decl → Decl
shifted by = mapped_decl (shifted_span by)
