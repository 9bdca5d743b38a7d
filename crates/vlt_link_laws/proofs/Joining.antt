-- A joined tree is made of the declarations of its files, and spelled with their tokens.
use Rattle.std.proofs.Common.{◌≡◌, ◌≤◌, List, [], ◌∷◌, ◌++◌, map, length, Contains, refl, sym, ap, subst, ◌∙◌, arith}
use Rattle.std.proofs.lemmas.List.{append-nil, append_assoc}
use Rattle.std.proofs.lemmas.List.Elements.{Contains-get_or, Contains-append_right}
use Rattle.vlt_base.specs.Limits.{limit_of}
use Rattle.vlt_base.specs.declared.limits.TheConstants.{DECLARATIONS}
use Rattle.vlt_syntax.specs.Tokens.{Token}
use Rattle.vlt_syntax.specs.Tree.{Decl, Tree}
use Rattle.vlt_syntax.specs.Lists.{Each}
use Rattle.vlt_syntax.specs.Spelling.{decl_then, spelling}
use Rattle.vlt_syntax.specs.Grammar.{IsDecl, language}
use Rattle.vlt_syntax_laws.specs.Ticks.{HasTicks}
use Rattle.vlt_syntax_laws.specs.Numbers.{IsNumbered}
use Rattle.vlt_syntax_copies.specs.Raised.{raised}
use Rattle.vlt_syntax_copies.proofs.Spelling.{decl_same}
use Rattle.vlt_syntax_copies.proofs.Tokens.{each_decl, all_decls}
use Rattle.vlt_iface.specs.declared.places.TheConstants.{RAISE}
use Rattle.vlt_iface.specs.View.{joined}
use Rattle.vlt_iface.proofs.Raising.{decl_is}
use Rattle.vlt_fit_laws.specs.Fit.{IsTextTree}
use Rattle.vlt_link_laws.proofs.Placed.{each_join}
use Rattle.vlt_link_laws.proofs.Texts.{in_view, raised_ticks}

-- a fact that stays where places are raised
module _ (R : Decl → Type 0) (stays : (d : Decl) → R d → R (raised RAISE d)) where
  raised_each : (ds : List Decl) → Each R ds → Each R (map (raised RAISE) ds)
  raised_each [] all = tt
  raised_each (d ∷ ds) all = (stays d all.0, raised_each ds all.1)

  pub joined_each : (i f g : Tree) → Each R i.decls → Each R f.decls → Each R g.decls → Each R (joined i f g).decls
  joined_each i f g one two three =
      in_view R i.decls (map (raised RAISE) (f.decls ++ g.decls)) one (raised_each (f.decls ++ g.decls) (each_join R f.decls g.decls two three))

-- a fact of each token
module _ (P : Token → Type 0) where
  abbrev AreSpelled : Decl → Type 0
  AreSpelled d = Each P (decl_then d [])

  raised_spelled : (d : Decl) → AreSpelled d → AreSpelled (raised RAISE d)
  raised_spelled d all = subst (Each P) (sym (decl_same RAISE d [])) all

  pub joined_tokens : (i f g : Tree) → Each P (spelling i) → Each P (spelling f) → Each P (spelling g) → Each P (spelling (joined i f g))
  joined_tokens i f g one two three =
      all_decls P (joined i f g).decls
      (joined_each AreSpelled raised_spelled i f g (each_decl P i.decls one) (each_decl P f.decls two) (each_decl P g.decls three))

-- it is a tree as texts have them
pub joined_text : (i f g : Tree) → IsTextTree i → IsTextTree f → IsTextTree g → length (joined i f g).decls ≤ limit_of DECLARATIONS → IsTextTree (joined i f g)
joined_text i f g one two three few = record {
  tree = (joined_each (IsDecl language) (decl_is RAISE language) i f g one.tree.0 two.tree.0 three.tree.0, few);
  ticks = joined_each HasTicks raised_ticks i f g one.ticks two.ticks three.ticks;
  numbers = joined_tokens IsNumbered i f g one.numbers two.numbers three.numbers;
}

-- those of a part of a list are among those of the list
each_of : {X : Type 0} (all before xs after : List X) → all ≡ before ++ (xs ++ after) → Each (Contains all) xs
each_of all before [] after e = tt
each_of all before (x ∷ xs) after e = (
  subst (λ ys. Contains ys x) (sym e) (Contains-append_right before (x ∷ (xs ++ after)) x (Contains-get_or (x ∷ (xs ++ after)) 0 x (omega arith))),
  each_of all (before ++ x ∷ []) xs after (e ∙ sym (append_assoc before (x ∷ []) (xs ++ after))),
)

pub tokens_of_files : (i f g : Tree) → Each (Contains (spelling i ++ (spelling f ++ spelling g))) (spelling (joined i f g))
tokens_of_files i f g =
    let is = spelling i in
    let fs = spelling f in
    let gs = spelling g in
    let all = is ++ (fs ++ gs) in
    joined_tokens (Contains all) i f g
    (each_of all [] is (fs ++ gs) refl)
    (each_of all is fs gs refl)
    (each_of all (is ++ fs) gs [] (sym (append_assoc is fs gs) ∙ ap (λ ts. (is ++ fs) ++ ts) (sym (append-nil gs))))
