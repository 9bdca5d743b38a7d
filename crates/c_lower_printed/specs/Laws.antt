-- What is proved of the C texts of accepted texts' programs.
use Rattle.std.specs.Prelude.{◌≤◌, length}
use Rattle.vlt_base.specs.Limits.{limit_of}
use Rattle.vlt_base.specs.declared.limits.TheConstants.{C_BYTES}
use Rattle.vlt_syntax.specs.Tree.{Tree}
use Rattle.vlt_syntax.specs.Lists.{Each}
use Rattle.vlt_syntax.specs.Spelling.{spelling}
use Rattle.vlt_core.specs.Core.{Program}
use Rattle.c_syntax.specs.Canonical.{canonical_text}
use Rattle.c_reader_laws.specs.PrinterLaws.ReadAgain.{ReadsAs}
use Rattle.c_lower.specs.Lowering.{lowered}
use Rattle.c_lower_runs.specs.Texts.Printable.{IsPrintable}
use Rattle.c_lower_accepted.specs.Texts.{IsAcceptedTree}
use Rattle.cert_text_laws.specs.Texts.{IsInText}

-- The program of an accepted tree, each token of which is one of a text, is printable, where its C
-- text is no longer than a C file may be (limit 2): the grammar and the rules on names give all else.
abbrev pub TextsArePrintable : Type 0
TextsArePrintable =
    (t : Tree) (p : Program) → Each IsInText (spelling t) → IsAcceptedTree t p →
    length (canonical_text (lowered p)) ≤ limit_of C_BYTES → IsPrintable p

-- so the canonical text of its C program reads as that very program
abbrev pub AcceptedTextsAreReadAgain : Type 0
AcceptedTextsAreReadAgain =
    (t : Tree) (p : Program) → Each IsInText (spelling t) → IsAcceptedTree t p →
    length (canonical_text (lowered p)) ≤ limit_of C_BYTES →
    ReadsAs (canonical_text (lowered p)) (lowered p)
