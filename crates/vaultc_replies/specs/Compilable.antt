-- Programs that `emit` compiles.
use Rattle.std.specs.Prelude.{◌≡◌, false}
use Rattle.vlt_core.specs.Core.{Program}
use Rattle.vlt_core.specs.Derives.{IsAccepted}
use Rattle.vlt_core_laws.specs.Fit.{IsWellFormed}
use Rattle.c_lower_program.specs.Glue.ManyCases.{gives_many_cases}
use Rattle.cert_text_laws.specs.Texts.{IsProgramOfTexts}

-- The program is that of texts and follows all rules; what else is asked of it follows.
pub record IsCompilable (p : Program) : Type 0 where
  pub texts : IsProgramOfTexts p
  pub accepted : IsAccepted p
  pub well_formed : IsWellFormed p
  pub few_cases : gives_many_cases p ≡ false
