-- The size that is counted is over the limit exactly where the text is.
use Rattle.std.proofs.Common.{◌≡◌, ◌<◌, ◌≤◌, ℕ, nat_lt, true, false, length, sym, ap, ◌∙◌, arith}
use Rattle.std.proofs.lemmas.Bool.Decides.{nat_tests}
use Rattle.c_syntax.specs.C.{Program}
use Rattle.c_syntax.specs.Canonical.{canonical_text}
use Rattle.c_reader_laws.specs.PrinterLaws.Sizes.{program_size}
use Rattle.c_reader_laws.proofs.OfPrinterLaws.Sizes.{program_sizes}
use Rattle.c_lower_program.specs.Counts.{capped}

over : (n : ℕ) → nat_lt 67108864 (capped n) ≡ nat_lt 67108864 n
over n = grind (arith, nat_tests)

pub over_is : (x : Program) → nat_lt 67108864 (capped (program_size x)) ≡ nat_lt 67108864 (length (canonical_text x))
over_is x = over (program_size x) ∙ ap (nat_lt 67108864) (sym (program_sizes x))

pub is_over : (x y : Program) → x ≡ y → nat_lt 67108864 (length (canonical_text x)) ≡ true → 67108864 < length (canonical_text y)
is_over x y same e = long (length (canonical_text y)) (ap (λ (z : Program). nat_lt 67108864 (length (canonical_text z))) (sym same) ∙ e)
  where
    long : (n : ℕ) → nat_lt 67108864 n ≡ true → 67108864 < n
    long n e = grind (arith, nat_tests)

pub is_within : (x y : Program) → x ≡ y → nat_lt 67108864 (length (canonical_text x)) ≡ false → length (canonical_text y) ≤ 67108864
is_within x y same e = short (length (canonical_text y)) (ap (λ (z : Program). nat_lt 67108864 (length (canonical_text z))) (sym same) ∙ e)
  where
    short : (n : ℕ) → nat_lt 67108864 n ≡ false → n ≤ 67108864
    short n e = grind (arith, nat_tests)
