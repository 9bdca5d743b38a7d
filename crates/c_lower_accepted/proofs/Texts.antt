-- What trees of texts give is all that is asked of an accepted program.
use Rattle.std.proofs.Common.{◌≡◌, Result, Ok, Err, refl, sym, subst}
use Rattle.vlt_syntax.specs.Tree.{Tree}
use Rattle.vlt_core.specs.Core.{Program}
use Rattle.vlt_core.specs.Derives.{IsAccepted}
use Rattle.vlt_kinds_types.specs.declared.names.found.Refusal.{Refusal}
use Rattle.vlt_kinds_types.specs.Kinds.{Kinds}
use Rattle.vlt_kinds.specs.Tables.{kinds_of, kinds_told}
use Rattle.vlt_elaboration.specs.Elaboration.{Refused, broken, elaborated}
use Rattle.vlt_elaboration.specs.Programs.{with_kinds}
use Rattle.vlt_resolve_laws.specs.Elaborated.{IsElaborated}
use Rattle.vlt_resolve_laws.proofs.Made.{told}
use Rattle.vlt_resolve_laws.proofs.Whole.{Facts, facts_of}
use Rattle.vlt_fit_laws.specs.Fit.{IsTextTree, ProgramsAreFit}
use Rattle.c_lower_accepted.specs.Accepted.{IsAcceptedProgram}
use Rattle.c_lower_accepted.specs.Texts.{IsAcceptedTree, TreesRunAlike, TreesAreDefined}
use Rattle.c_lower_accepted.proofs.Accepted.{accepted_alike, accepted_defined}
use Rattle.c_lower_accepted.proofs.FilledParts.{results_filled, parts_filled}
use Rattle.c_lower_accepted.proofs.TextLimits.{cases_few, payloads_few, parameters_few}

ok_or_err : (r : Refused) (p : Program) → ◌≡◌ {A = Result Program Refused} (Err r) (Ok p) → ⊥
ok_or_err r p e = cc

module _ (fits : ProgramsAreFit) (t : Tree) (p : Program) (tree : IsTextTree t) (accepted : IsAccepted p) where
  facts : (kinds : Kinds) → IsElaborated t kinds p → Facts (kinds_of t.decls) p
  facts kinds e = subst (λ k. Facts k p) (sym (told t.decls kinds e.told).same) (facts_of t kinds p e)

  of_kinds : (kinds : Kinds) → kinds_told t ≡ Ok kinds → elaborated t kinds ≡ Ok p → IsAcceptedProgram p
  of_kinds kinds is_told gives =
      let fit = fits t kinds p tree is_told gives in
      let x = facts kinds (record { tree = tree.tree; ticks = tree.ticks; told = is_told; gives = gives }) in
      let right = tree.tree.0 in
      record {
        kinded = fit.kinded;
        accepted = accepted;
        sizes = fit.sizes;
        states = fit.well_formed.states;
        narrow = fit.narrow;
        limits = record {
          operators = fit.proper;
          payloads = payloads_few t.decls p right x.functions.types;
          parameters = λ g gf at external. parameters_few t.decls p right x.functions g gf at;
          cases = cases_few t.decls p right x.functions.types;
          given = results_filled t.decls p x;
          parts = parts_filled t.decls p x;
        };
      }

  pub of_tree : (r : Result Kinds Refusal) → kinds_told t ≡ r → with_kinds t r ≡ Ok p → IsAcceptedProgram p
  of_tree (Ok kinds) is_told gives = of_kinds kinds is_told gives
  of_tree (Err r) is_told gives = absurd (ok_or_err (broken r.rule r.at) p gives)

module _ (fits : ProgramsAreFit) where
  pub accepted_program : (t : Tree) (p : Program) → IsAcceptedTree t p → IsAcceptedProgram p
  accepted_program t p h = of_tree fits t p h.text h.accepted (kinds_told t) refl h.elaborates

  pub trees_alike : TreesRunAlike
  trees_alike t p h = accepted_alike p (accepted_program t p h)

  pub trees_defined : TreesAreDefined
  trees_defined t p h = accepted_defined p (accepted_program t p h)
