-- The names of programs of texts are UTF-8.
use Rattle.vlt_core.specs.Core.{Program}
use Rattle.cert_values.specs.Declarations.Names.{HasTextNames}
use Rattle.cert_text_laws.specs.Texts.{IsProgramOfTexts}

-- Each name of the program of texts is UTF-8: it is a name of these, or is empty.
abbrev pub TextsHaveTextNames : Type 0
TextsHaveTextNames = (p : Program) → IsProgramOfTexts p → HasTextNames p
