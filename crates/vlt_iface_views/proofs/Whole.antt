-- What is told of the declarations of one module, and of two, is told of the modules.
use Rattle.std.proofs.Common.{◌≡◌, ℕ, List, ◌++◌, [], map, Option, Some, None, option_map, sym, ap, ap₂, ◌∙◌}
use Rattle.std.specs.Prelude.{Result, Err}
use Rattle.std.specs.Borrow.{Bor}
use Rattle.std.proofs.lemmas.List.{append-nil, map-append}
use Rattle.vlt_base.specs.Limits.{limit_of}
use Rattle.vlt_base.specs.declared.limits.TheConstants.{SOURCE_BYTES}
use Rattle.vlt_syntax.specs.Tree.{Decl, Tree}
use Rattle.vlt_syntax_copies.specs.Mapped.{mapped_decl}
use Rattle.vlt_syntax_copies.specs.Within.{cut_span, AreWithin}
use Rattle.vlt_iface.specs.View.{joined}
use Rattle.vlt_iface.specs.Clash.{clashing}
use Rattle.vlt_iface.specs.Told.{Told, clash, when_few, unless_clash, least_name, joined_told}
use Rattle.vlt_iface.specs.Seen.{tree_with}
use Rattle.vlt_iface.specs.Texts.{text_seen}
use Rattle.vlt_iface_views.specs.Joined.{joined_of}

pub one_module : (all ds : List Decl) (t : Tree) → all ≡ ds ++ [] → ds ≡ t.decls → tree_with all ≡ t
one_module all ds t e is = ap tree_with (e ∙ (append-nil ds ∙ is))

pub two_within : (f g : Tree) (all : List Decl) → AreWithin (limit_of SOURCE_BYTES) f → AreWithin (limit_of SOURCE_BYTES) g → all ≡ f.decls ++ g.decls → AreWithin (limit_of SOURCE_BYTES) (tree_with all)
two_within f g all first second e =
    let cut : Decl → Decl = mapped_decl (cut_span (limit_of SOURCE_BYTES)) in
    ap (map cut) e ∙ (map-append cut f.decls g.decls ∙ (ap₂ (λ xs ys. xs ++ ys) first second ∙ sym e))

pub two_modules : (i f g : Tree) (all : List Decl) → least_name (clashing f g) ≡ None → all ≡ f.decls ++ g.decls → joined_of i all ≡ joined_told i f g
two_modules i f g all none e =
    ap (joined_of i) e ∙ ap (λ o. unless_clash o (when_few (joined i f g).decls (joined i f g))) (sym none)

-- what is found of the names that clash
pub no_clash : (f g : Tree) (found : Option (Bor (List ℕ))) → found ≡ None → option_map text_seen found ≡ least_name (clashing f g) → least_name (clashing f g) ≡ None
no_clash f g found none least = sym least ∙ ap (option_map text_seen) none

pub clash_told : (i f g : Tree) (found : Option (Bor (List ℕ))) (name : Bor (List ℕ)) (n : List ℕ) → found ≡ Some name → option_map text_seen found ≡ least_name (clashing f g) → n ≡ name.now →
    ◌≡◌ {A = Result Tree Told} (joined_told i f g) (Err (clash n))
clash_told i f g found name n is least same =
    ap (λ o. unless_clash o (when_few (joined i f g).decls (joined i f g))) (sym least ∙ (ap (option_map text_seen) is ∙ ap (λ x. Some x) (sym same)))
