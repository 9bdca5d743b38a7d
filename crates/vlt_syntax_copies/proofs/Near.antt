-- Where 32 bits hold all places of a declaration so much further on, shifting raises it.
use Rattle.std.proofs.Common.{◌≡◌, ◌+◌, ◌<◌, ◌≤◌, ◌^◌, ℕ, Bool, min, map, if◌then◌else◌, refl, sym, ap, ap₂, ◌∙◌, arith}
use Rattle.std.proofs.lemmas.Bool.{lt-ltb}
use Rattle.std.proofs.Math.Nat.{min-le_right}
use Rattle.vlt_base.specs.declared.places.Span.{Span}
use Rattle.vlt_syntax.specs.Tree.{Tree}
use Rattle.vlt_syntax_copies.specs.Mapped.{mapped_decl}
use Rattle.vlt_syntax_copies.specs.Raised.{raised_span, raised}
use Rattle.vlt_syntax_copies.specs.Shifted.{shifted_place, shifted_span, shifted}
use Rattle.vlt_syntax_copies.specs.Within.{cut_span, AreWithin}
use Rattle.vlt_syntax_copies.proofs.Twice as twice

cut_place : (by end n : ℕ) → end + by < 2 ^ 32 → shifted_place by (min n end) ≡ min n end + by
cut_place by end n near =
    let below : min n end ≤ end = omega (arith, min-le_right n end) in
    let fits : min n end + by < 2 ^ 32 = omega (arith, below, near) in
    ap (λ (b : Bool). if b then min n end + by else min n end) (lt-ltb (min n end + by) (2 ^ 32) fits)

cut_shifted : (by end : ℕ) → end + by < 2 ^ 32 → (at : Span) → shifted_span by (cut_span end at) ≡ raised_span by (cut_span end at)
unfolding shifted_span
cut_shifted by end near at =
    ap₂ (λ x y. let made : Span = record { from = x; to = y } in made) (cut_place by end at.from near) (cut_place by end at.to near)

pub near_is_raised : (by end : ℕ) (t : Tree) → AreWithin end t → end + by < 2 ^ 32 → map (shifted by) t.decls ≡ map (raised by) t.decls
near_is_raised by end t within near =
    let both : Span → Span = λ at. raised_span by (cut_span end at) in
    ap (map (shifted by)) (sym within) ∙
    (twice.each_twice (shifted by) (mapped_decl (cut_span end)) (mapped_decl both) (twice.decl (shifted_span by) (cut_span end) both (cut_shifted by end near)) t.decls ∙
    (sym (twice.each_twice (raised by) (mapped_decl (cut_span end)) (mapped_decl both) (twice.decl (raised_span by) (cut_span end) both (λ at. refl)) t.decls) ∙
    ap (map (raised by)) within))
