-- Two modules whose views are accepted, and their joined tree: it is accepted, can be compiled, and has its reply.
use Rattle.std.proofs.Common.{◌≡◌, true, false, Ok, sym, ap, ◌∙◌, subst}
use Rattle.vlt_syntax.specs.Tree.{Tree}
use Rattle.vlt_syntax.specs.View.{tree_of}
use Rattle.vlt_core.specs.Core.{Program}
use Rattle.vlt_elaboration.specs.Programs.{with_kinds, program_told}
use Rattle.vlt_iface.specs.Told.{joined_told}
use Rattle.vlt_fit_laws.specs.Fit.{ProgramsAreFit}
use Rattle.vlt_verdict.proofs.Single.{fit_program}
use Rattle.vlt_link_laws.specs.Link.{IsAcceptedText}
use Rattle.vlt_view_verdict.specs.Link.{AcceptedModulesLink}
use Rattle.cert_text_laws.specs.Linked.Link.{JoinedProgramsAreOfTexts}
use Rattle.vaultc_replies.specs.declared.modules.Parsed.{Parsed}
use Rattle.vaultc_replies.specs.Compilable.{IsCompilable}
use Rattle.vaultc_replies.specs.Emitted.{IsEmitted}
use Rattle.vaultc_runs.specs.Lines.{Reply}
use Rattle.vaultc_replies.specs.Modules.{IsReplyToJoined, IsReplyToLink}
use Rattle.vaultc_replies.specs.ModuleSteps.{file_seen, IsParsed, IsTested}
use Rattle.vaultc_replies.proofs.CFiles.{accepted_tree, few_cases}
use Rattle.vaultc_replies.proofs.Linked.{of_text}
use Rattle.vaultc_replies.proofs.ModuleSteps.{accepted_with, both_tested}

-- what is known of programs and of modules whose views are accepted
pub record StepLaws : Type 0 where
  pub fit : ProgramsAreFit
  pub link : AcceptedModulesLink
  pub texts : JoinedProgramsAreOfTexts

module _ (laws : StepLaws) (x y z : Parsed) (ix : IsParsed x) (iy : IsParsed y) (iz : IsParsed z) (p q : Program) (one : IsTested x y false p) (two : IsTested x z true q) (t : Tree)
    (told : joined_told (tree_of x.tree) (tree_of y.tree) (tree_of z.tree) ≡ Ok t) where
  pub accepted : IsAcceptedText t
  accepted = laws.link (tree_of x.tree) (tree_of y.tree) (tree_of z.tree) t ix.tree iy.tree iz.tree (accepted_with x y false p one) (accepted_with x z true q two) told

  gives : program_told t ≡ Ok accepted.program
  gives = ap (with_kinds t) accepted.told ∙ accepted.gives

  its_own : IsCompilable accepted.program
  its_own = record {
    texts = laws.texts (tree_of x.tree) (tree_of y.tree) (tree_of z.tree) t accepted.program (of_text (tree_of x.tree) x.text.bytes.now ix.reads) (of_text (tree_of y.tree) y.text.bytes.now iy.reads)
        (of_text (tree_of z.tree) z.text.bytes.now iz.reads) told gives;
    accepted = accepted.accepted;
    well_formed = (fit_program laws.fit t accepted.program accepted.text gives).well_formed;
    few_cases = few_cases laws.fit t accepted.program (accepted_tree t accepted.program accepted.text (gives, accepted.accepted));
  }

  pub compilable : (o : Program) → o ≡ accepted.program → IsCompilable o
  compilable o same = subst IsCompilable (sym same) its_own

  pub linked_reply : (o : Program) → o ≡ accepted.program → (r : Reply) → IsEmitted o r → IsReplyToLink (file_seen x.text) (file_seen y.text) (file_seen z.text) r
  linked_reply o same r emitted =
      let said : IsReplyToJoined (Ok t) r = (accepted.program, gives, subst (λ w. IsEmitted w r) same emitted) in
      both_tested x y z ix iy iz p q one two r (subst (λ w. IsReplyToJoined w r) (sym told) said)
