-- The program of a joined tree is one of texts: each of its declarations is one of a file, further on.
use Rattle.std.proofs.Common.{◌≡◌, ◌≤◌, length, Result, Ok, Err, refl, sym, subst}
use Rattle.vlt_base.specs.Limits.{limit_of}
use Rattle.vlt_syntax.specs.Tree.{Decl, Tree}
use Rattle.vlt_syntax.specs.Lists.{Each}
use Rattle.vlt_syntax.specs.Spelling.{spelling}
use Rattle.vlt_syntax_copies.specs.Raised.{raised}
use Rattle.vlt_syntax_copies.proofs.Spelling.{decl_same}
use Rattle.vlt_core.specs.Core.{Program}
use Rattle.vlt_kinds_types.specs.declared.names.found.Refusal.{Refusal}
use Rattle.vlt_kinds_types.specs.Kinds.{Kinds}
use Rattle.vlt_kinds.specs.Tables.{kinds_told}
use Rattle.vlt_elaboration.specs.Elaboration.{Refused, broken}
use Rattle.vlt_elaboration.specs.Programs.{with_kinds, program_told}
use Rattle.vlt_iface.specs.declared.places.TheConstants.{RAISE}
use Rattle.vlt_iface.specs.View.{joined}
use Rattle.vlt_fit_laws.specs.Fit.{IsTextTree}
use Rattle.vlt_fit_laws.specs.Texts.{TextsHaveTextTrees}
use Rattle.vlt_link_laws.proofs.Joining.{joined_each, joined_tokens}
use Rattle.cert_text_laws.specs.Texts.{IsInText, IsShort, IsProgramOfTexts}
use Rattle.cert_text_laws.proofs.InTexts.{spelled_in, short_in}
use Rattle.cert_text_laws.specs.Linked.Link.{IsTreeOfText}

pub text_tree : TextsHaveTextTrees → (t : Tree) → IsTreeOfText t → IsTextTree t
text_tree trees t x = trees x.bytes x.lexemes t x.tokens x.tree

spelled : (t : Tree) → IsTreeOfText t → Each IsInText (spelling t)
spelled t x = spelled_in x.bytes x.lexemes x.tokens t x.tree.1

short : (t : Tree) → IsTreeOfText t → Each IsShort t.decls
short t x = short_in x.lexemes t x.few x.tree.1

raised_short : (d : Decl) → IsShort d → IsShort (raised RAISE d)
raised_short d (rest, few) = (rest, subst (λ ts. length ts ≤ limit_of 3) (sym (decl_same RAISE d rest)) few)

err_or_ok : (r : Refused) (p : Program) → ◌≡◌ {A = Result Program Refused} (Err r) (Ok p) → ⊥
err_or_ok r p e = cc

module _ (i f g t : Tree) (one : IsTreeOfText i) (two : IsTreeOfText f) (three : IsTreeOfText g) (same : joined i f g ≡ t) (tree : IsTextTree t) (p : Program) where
  of_kinds : (r : Result Kinds Refusal) → kinds_told t ≡ r → with_kinds t r ≡ Ok p → IsProgramOfTexts p
  of_kinds (Ok kinds) told gives = record {
    tree = t;
    kinds = kinds;
    spelled = subst (λ u. Each IsInText (spelling u)) same (joined_tokens IsInText i f g (spelled i one) (spelled f two) (spelled g three));
    short = subst (λ u. Each IsShort u.decls) same (joined_each IsShort raised_short i f g (short i one) (short f two) (short g three));
    numbers = tree.numbers;
    elaborated = record { tree = tree.tree; ticks = tree.ticks; told = told; gives = gives };
  }
  of_kinds (Err r) told gives = absurd (err_or_ok (broken r.rule r.at) p gives)

  pub program_of_texts : program_told t ≡ Ok p → IsProgramOfTexts p
  program_of_texts e = of_kinds (kinds_told t) refl e
