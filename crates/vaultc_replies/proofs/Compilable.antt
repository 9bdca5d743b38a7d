-- The program of an accepted text is one that `emit` compiles.
use Rattle.std.proofs.Common.{ℕ, List}
use Rattle.vlt_syntax.specs.Tree.{Tree}
use Rattle.vlt_core.specs.Core.{Program}
use Rattle.vlt_fit_laws.specs.Fit.{ProgramsAreFit}
use Rattle.vlt_fit_laws.specs.Texts.{TextsHaveTextTrees}
use Rattle.vlt_verdict.specs.Verdicts.{accepted, IsVerdictOf}
use Rattle.vlt_verdict.proofs.Single.{fit_program}
use Rattle.vaultc_runs.specs.Texts.{IsTextOf}
use Rattle.vaultc_replies.specs.Compilable.{IsCompilable}
use Rattle.vaultc_replies.proofs.CFiles.{accepted_tree, few_cases}
use Rattle.vaultc_replies.proofs.OfTexts.{program_of_text}
use Rattle.vaultc_replies.proofs.Read.{text_tree}

pub compilable : ProgramsAreFit → TextsHaveTextTrees → (bytes : List ℕ) (t : Tree) (p : Program) → IsTextOf t bytes → IsVerdictOf t (accepted p) → IsCompilable p
compilable fit trees bytes t p reads is =
    let tree = text_tree trees bytes t reads in
    let fits = fit_program fit t p tree is.0 in
    record {
      texts = program_of_text bytes t p reads tree is.0;
      accepted = is.1;
      well_formed = fits.well_formed;
      few_cases = few_cases fit t p (accepted_tree t p tree is);
    }
