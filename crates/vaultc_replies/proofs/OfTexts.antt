-- The program that a text's tree elaborates to is one of texts.
use Rattle.std.proofs.Common.{◌≡◌, ℕ, List, Result, Ok, Err, refl}
use Rattle.vlt_syntax.specs.Tree.{Tree}
use Rattle.vlt_core.specs.Core.{Program}
use Rattle.vlt_kinds_types.specs.declared.names.found.Refusal.{Refusal}
use Rattle.vlt_kinds_types.specs.Kinds.{Kinds}
use Rattle.vlt_kinds.specs.Tables.{kinds_told}
use Rattle.vlt_elaboration.specs.Elaboration.{Refused, broken}
use Rattle.vlt_elaboration.specs.Programs.{with_kinds, program_told}
use Rattle.vlt_fit_laws.specs.Fit.{IsTextTree}
use Rattle.cert_text_laws.specs.Texts.{IsProgramOfTexts}
use Rattle.cert_text_laws.proofs.InTexts.{spelled_in, short_in}
use Rattle.vaultc_runs.specs.Texts.{IsTextOf}

ok_or_err : (r : Refused) (p : Program) → ◌≡◌ {A = Result Program Refused} (Err r) (Ok p) → ⊥
ok_or_err r p e = cc

module _ (bytes : List ℕ) (t : Tree) (p : Program) (reads : IsTextOf t bytes) (tree : IsTextTree t) where
  of_kinds : (r : Result Kinds Refusal) → kinds_told t ≡ r → with_kinds t r ≡ Ok p → IsProgramOfTexts p
  of_kinds (Ok kinds) told gives = record {
    tree = t;
    kinds = kinds;
    spelled = spelled_in bytes reads.0 reads.1.tokens t reads.2.1;
    short = short_in reads.0 t reads.1.few reads.2.1;
    numbers = tree.numbers;
    elaborated = record { tree = tree.tree; ticks = tree.ticks; told = told; gives = gives };
  }
  of_kinds (Err r) told gives = absurd (ok_or_err (broken r.rule r.at) p gives)

  pub program_of_text : program_told t ≡ Ok p → IsProgramOfTexts p
  program_of_text e = of_kinds (kinds_told t) refl e
