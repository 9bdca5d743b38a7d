-- Trees without places after an end: cut there, all places stay as they are.
use Rattle.std.specs.Prelude.{◌≡◌, ℕ, min, map}
use Rattle.vlt_base.specs.declared.places.Span.{Span}
use Rattle.vlt_syntax.specs.Tree.{Tree}
use Rattle.vlt_syntax_copies.specs.Mapped.{mapped_decl}

abbrev pub cut_span : (end : ℕ) → Span → Span
cut_span end at = record { from = min at.from end; to = min at.to end }

-- no place of the tree is greater than the end
abbrev pub AreWithin : (end : ℕ) → Tree → Type 0
AreWithin end t = map (mapped_decl (cut_span end)) t.decls ≡ t.decls
