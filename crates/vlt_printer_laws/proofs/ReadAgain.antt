-- The layout of a tree that a text reads has the text's tokens, and is read as the same tree.
use Rattle.std.proofs.Common.{ℕ, List, [], sym, ap, subst, ◌∙◌, append-nil}
use Rattle.std.specs.Str.{chars}
use Rattle.std.proofs.lemmas.Str.{scalars-chars}
use Rattle.vlt_tokens.specs.Lexemes.{Lexeme}
use Rattle.vlt_syntax.specs.Lists.{Each}
use Rattle.vlt_syntax.specs.Tokens.{Token}
use Rattle.vlt_syntax.specs.Tree.{Tree}
use Rattle.vlt_syntax.specs.Grammar.{IsDecl, IsTree, language}
use Rattle.vlt_syntax.specs.Spelling.{decl_then, spelling}
use Rattle.vlt_printer.specs.Layout.{decl_line_after, layout}
use Rattle.vlt_syntax.specs.Places.{span_in, tree_with_places}
use Rattle.vlt_syntax_laws.proofs.Anew.{placed_tree, placed_stays, spells_placed}
use Rattle.vlt_syntax_laws.proofs.OneTree.{one_tree}
use Rattle.vlt_printer_laws.specs.ReadAgain.{IsReadAgain, AreAlike}
use Rattle.vlt_printer_laws.proofs.Written.{IsWritten, all_written}
use Rattle.vlt_printer_laws.proofs.Readable.{Readable, nothing_readable, readable_tokens}
use Rattle.vlt_printer_laws.proofs.Following.{clear}
use Rattle.vlt_printer_laws.proofs.Steps.{Begins}
use Rattle.vlt_printer_laws.proofs.Sequences.{each_printed}
use Rattle.vlt_printer_laws.proofs.Declarations.{each_decl}
use Rattle.vlt_printer_laws.proofs.LaidAgain.{laid_alike}

-- nothing is laid out yet
nothing_begins : (ts : List Token) → Each IsWritten ts → Begins ts [] ts clear
nothing_begins ts written = record { goes_on = λ after cs r fits. (cs, r); written = written }

layout_readable : (t : Tree) → IsTree language t → Each IsWritten (spelling t) → (cs : List ℕ) × Readable (layout t) cs (spelling t)
layout_readable t is written =
    let whole = each_printed decl_then decl_line_after (IsDecl language) (each_decl language) t.decls [] [] is.0 (nothing_begins (spelling t) written) in
    let h = whole.goes_on [] [] nothing_readable tt in
    (h.0, subst (λ x. Readable x h.0 (spelling t)) (append-nil (layout t)) h.1)

-- a tree is one with itself where its places are set anew
alike_anew : (ms : List Lexeme) (t : Tree) → IsTree language t → AreAlike (tree_with_places ms t) t
alike_anew ms t is spans = ap (λ place. (place spans 0).0) (one_tree language (tree_with_places ms t) t (placed_stays ms language t is) is (spells_placed ms t))

pub read_again : IsReadAgain
read_again text ls t tokens tree =
    let written = all_written _ (chars text) ls [] tokens.1 (scalars-chars text tokens.0) in
    let r = layout_readable t tree.0 (subst (λ ts. Each IsWritten ts) tree.1 written) in
    let read = readable_tokens (layout t) r.0 (spelling t) r.1 in
    record {
      lexemes = read.0;
      reads = read.1;
      tokens = read.2 ∙ sym tree.1;
      tree = tree_with_places read.0 t;
      placed = placed_tree read.0 t tree.0 read.2;
      same = alike_anew read.0 t tree.0;
      again = laid_alike t (span_in read.0);
    }
