-- What is proved of C texts, by what `c_reader` says of them.
use Rattle.std.specs.Prelude.{◌≡◌, ◌⊎◌, ℕ, List, Option}
use Rattle.vlt_base.specs.declared.places.Span.{Span}
use Rattle.c_syntax.specs.C.{Program}
use Rattle.c_syntax.specs.Reading.{IsCProgramOf}
use Rattle.c_syntax.specs.Canonical.{canonical_text, IsProgram}
use Rattle.c_reader_laws.specs.PrinterLaws.ReadAgain.{ReadsAs}
use Rattle.c_reader.specs.declared.error.CError.{CError}
use Rattle.c_reader.specs.Reads.{IsUnread}

-- The text stands for one program, with one span of a certificate or none, or it stands for no program, for one reason.
pub record IsReadInOneWay (text : List ℕ) : Type 0 where
  pub either : ((p : Program) × (c : Option Span) × IsCProgramOf text p c) ⊎ ((e : CError) × IsUnread text e)
  pub one_program : (p q : Program) (c d : Option Span) → IsCProgramOf text p c → IsCProgramOf text q d → (p ≡ q) × (c ≡ d)
  pub one_reason : (d e : CError) → IsUnread text d → IsUnread text e → d ≡ e
  pub never_both : (p : Program) (c : Option Span) (e : CError) → IsCProgramOf text p c → IsUnread text e → ⊥

-- The program has a canonical text, and that is one of the same program, alone and before a certificate.
pub record IsReadAgain (p : Program) : Type 0 where
  pub is_program : IsProgram p
  pub again : ReadsAs (canonical_text p) p

-- so it is with each program that some text stands for
abbrev pub TextsAreReadAgain : Type 0
TextsAreReadAgain = (text : List ℕ) (p : Program) (c : Option Span) → IsCProgramOf text p c → IsReadAgain p
