-- What an accepted text gives is all that its C text is written of, so that text is read again.
use Rattle.std.proofs.Common.{◌≡◌, Result, Ok, Err, refl, sym, subst}
use Rattle.vlt_syntax.specs.Tree.{Tree}
use Rattle.vlt_core.specs.Core.{Program}
use Rattle.vlt_kinds_types.specs.declared.names.found.Refusal.{Refusal}
use Rattle.vlt_kinds_types.specs.Kinds.{Kinds}
use Rattle.vlt_kinds.specs.Tables.{kinds_of, kinds_told}
use Rattle.vlt_elaboration.specs.Elaboration.{Refused, broken, elaborated}
use Rattle.vlt_elaboration.specs.Programs.{with_kinds, program_told}
use Rattle.vlt_resolve_laws.specs.Elaborated.{IsElaborated}
use Rattle.vlt_resolve_laws.proofs.Made.{told}
use Rattle.vlt_resolve_laws.proofs.Whole.{Facts, facts_of}
use Rattle.vlt_fit_laws.specs.Fit.{ProgramsAreFit}
use Rattle.c_reader_laws.specs.PrinterLaws.ReadAgain.{AreReadAgain}
use Rattle.c_lower.specs.Lowering.{lowered}
use Rattle.c_lower_runs.specs.Texts.Laws.{AreCPrograms}
use Rattle.c_lower_accepted.proofs.Lowerable.{lowerable}
use Rattle.c_lower_accepted.proofs.Texts.{accepted_program}
use Rattle.cert_text_laws.proofs.CNames.{text_names}
use Rattle.c_lower_printed.specs.Laws.{TextsArePrintable, AcceptedTextsAreReadAgain}
use Rattle.c_lower_printed.proofs.Blocks.{blocks_shallow}
use Rattle.c_lower_printed.proofs.Expressions.{expressions_shallow}
use Rattle.c_lower_printed.proofs.Names.{externals_named}

ok_or_err : (r : Refused) (p : Program) → ◌≡◌ {A = Result Program Refused} (Err r) (Ok p) → ⊥
ok_or_err r p e = cc

-- the kinds of a tree that a program is made of
record HasKinds (t : Tree) (p : Program) : Type 0 where
  kinds : Kinds
  are_told : kinds_told t ≡ Ok kinds
  gives : elaborated t kinds ≡ Ok p

with_its_kinds : (t : Tree) (p : Program) → program_told t ≡ Ok p → HasKinds t p
with_its_kinds t p e = by (kinds_told t) refl e
  where
    by : (r : Result Kinds Refusal) → kinds_told t ≡ r → with_kinds t r ≡ Ok p → HasKinds t p
    by (Ok kinds) is gives = record { kinds = kinds; are_told = is; gives = gives }
    by (Err r) is gives = absurd (ok_or_err (broken r.rule r.at) p gives)

module _ (fits : ProgramsAreFit) where
  pub texts_printable : TextsArePrintable
  texts_printable t p spelled h small =
      let k = with_its_kinds t p h.elaborates in
      let e : IsElaborated t k.kinds p = record { tree = h.text.tree; ticks = h.text.ticks; told = k.are_told; gives = k.gives } in
      let x = facts_of t k.kinds p e in
      let of_tree : Facts (kinds_of t.decls) p = subst (λ k. Facts k p) (sym (told t.decls k.kinds k.are_told).same) x in
      record {
        shallow = record { blocks = blocks_shallow k.kinds p x.functions; expressions = expressions_shallow t k.kinds p e };
        fields = (fits t k.kinds p h.text k.are_told k.gives).few.fields;
        cases = (accepted_program fits t p h).limits.cases;
        names = externals_named t k.kinds p e of_tree.functions (text_names t spelled);
        fits = small;
      }

  pub read_again : TextsArePrintable → AreCPrograms → AreReadAgain → AcceptedTextsAreReadAgain
  read_again printable programs again t p spelled h small =
      again (lowered p) (programs p (lowerable p (accepted_program fits t p h)) (printable t p spelled h small))
