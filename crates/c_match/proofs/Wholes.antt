-- Programs are the same where their parts are.
use Rattle.std.proofs.Common.{◌≡◌}
use Rattle.c_syntax.specs.C as c

pub program_from : (x y : c.Program) → x.main ≡ y.main → x.glue ≡ y.glue → x.fns ≡ y.fns → x ≡ y
program_from x y m g f = λ i. record { glue = g i; fns = f i; main = m i }
