use Rattle.std.proofs.Common.{◌≡◌, ℕ, zero, suc, ◌+◌, ◌<◌, ap, ◌∙◌, arith}
use Rattle.std.specs.Prelude.{slice_index_or}
use Rattle.vlt_lexer.specs.declared.ascii_pieces.ByteClass.{ByteClass}
use Rattle.vlt_lexer.specs.declared.ascii_pieces.ByteClass.TheVariants as class
use Rattle.vlt_lexer.specs.AsciiPieces.{class_of, classes_from}
use Rattle.vlt_lexer.proofs.ascii_pieces.byte_class.Goals as goal

class_at : (n i k : ℕ) (d : ByteClass) → k < n → slice_index_or (classes_from n i) k d ≡ class_of (i + k)
class_at zero i k d l = absurd (omega arith)
class_at (suc n) i zero d l = let e : i ≡ i + zero = omega arith in ap class_of e
class_at (suc n) i (suc k) d l = let e : suc i + k ≡ i + suc k = omega arith in class_at n (suc i) k d (omega arith) ∙ ap class_of e

pub returns : goal.returns
returns c = ap (λ t. slice_index_or t c.args.c class.Blank) c.classes.ensures ∙ class_at 256 0 c.args.c class.Blank (omega (arith, c.ranges.c)) ∙ ap class_of (start c.args.c)
  where
    start : (m : ℕ) → 0 + m ≡ m
    start m = omega arith
