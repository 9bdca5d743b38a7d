-- What two modules are together, where both are accepted: an accepted program, which is one of texts.
use Rattle.std.proofs.Common.{◌≡◌, ℕ, true, false, List, Ok, ap, ◌∙◌}
use Rattle.vlt_syntax.specs.Tree.{Tree}
use Rattle.vlt_core.specs.Core.{Program}
use Rattle.vlt_core.specs.Derives.{IsAccepted}
use Rattle.vlt_elaboration.specs.Programs.{with_kinds, program_told}
use Rattle.vlt_iface.specs.Told.{joined_told}
use Rattle.vlt_fit_laws.specs.Fit.{IsTextTree}
use Rattle.vlt_fit_laws.specs.Texts.{TextsHaveTextTrees}
use Rattle.vlt_view_verdict.specs.Link.{IsAcceptedWith, AcceptedModulesLink}
use Rattle.c_lower_accepted.specs.Texts.{IsAcceptedTree}
use Rattle.cert_text_laws.specs.Texts.{IsProgramOfTexts}
use Rattle.cert_text_laws.specs.Linked.Link.{IsTreeOfText, JoinedProgramsAreOfTexts}
use Rattle.vaultc_runs.specs.Texts.{IsTextOf}
use Rattle.vaultc_replies.proofs.Read.{text_tree}

-- what is known of modules whose views are accepted
pub record LinkLaws : Type 0 where
  pub trees : TextsHaveTextTrees
  pub link : AcceptedModulesLink
  pub texts : JoinedProgramsAreOfTexts

-- the program of a joined tree
pub record IsLinkedIn (z : Tree) : Type 0 where
  pub program : Program
  pub gives : program_told z ≡ Ok program
  pub accepted : IsAccepted program
  pub tree : IsTextTree z
  pub texts : IsProgramOfTexts program

pub of_text : (t : Tree) (bytes : List ℕ) → IsTextOf t bytes → IsTreeOfText t
of_text t bytes (ls, tokens, placed) = record { bytes = bytes; lexemes = ls; tokens = tokens.tokens; few = tokens.few; tree = (placed.0, placed.1) }

pub linked : LinkLaws → (t u v z : Tree) (of_t of_u of_v : List ℕ) → IsTextOf t of_t → IsTextOf u of_u → IsTextOf v of_v → IsAcceptedWith t u false → IsAcceptedWith t v true →
    joined_told t u v ≡ Ok z → IsLinkedIn z
linked laws t u v z of_t of_u of_v one two three first second told =
    let is = laws.link t u v z (text_tree laws.trees of_t t one) (text_tree laws.trees of_u u two) (text_tree laws.trees of_v v three) first second told in
    let gives : program_told z ≡ Ok is.program = ap (with_kinds z) is.told ∙ is.gives in
    record {
      program = is.program;
      gives = gives;
      accepted = is.accepted;
      tree = is.text;
      texts = laws.texts t u v z is.program (of_text t of_t one) (of_text u of_u two) (of_text v of_v three) told gives;
    }

-- an accepted program of texts is that of an accepted tree
pub tree_of_texts : (p : Program) (x : IsProgramOfTexts p) → IsAccepted p → IsAcceptedTree x.tree p
tree_of_texts p x accepted = record {
  text = record { tree = x.elaborated.tree; ticks = x.elaborated.ticks; numbers = x.numbers };
  elaborates = ap (with_kinds x.tree) x.elaborated.told ∙ x.elaborated.gives;
  accepted = accepted;
}
