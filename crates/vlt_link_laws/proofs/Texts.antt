-- The declarations of a view are of the language, as those of its files are.
use Rattle.std.proofs.Common.{◌≡◌, List, [], ◌∷◌, map, Option, Some, None, unwrap_or, refl}
use Rattle.std.specs.List.{find}
use Rattle.vlt_syntax.specs.Tree as s
use Rattle.vlt_syntax.specs.Tree.{Case, Decl, Tree}
use Rattle.vlt_syntax.specs.Lists.{Each}
use Rattle.vlt_syntax.specs.Grammar.{IsDecl, IsTree, language}
use Rattle.vlt_syntax_laws.specs.Ticks.{IsTick, HasTicks}
use Rattle.vlt_syntax_copies.specs.Raised.{raised, raised_case}
use Rattle.vlt_iface.specs.declared.places.TheConstants.{RAISE}
use Rattle.vlt_iface.specs.View.{gives, with_given, others, view_decls}
use Rattle.vlt_iface.proofs.Raising.{decl_is}
use Rattle.vlt_fit_laws.specs.Fit.{IsTextTree}
use Rattle.vlt_link_laws.proofs.Apart.{each_others, each_found}
use Rattle.vlt_link_laws.proofs.Placed.{each_join}

-- a fact of the interface's declarations and of a module's is one of their view
pub in_view : (R : Decl → Type 0) (is us : List Decl) → Each R is → Each R us → Each R (view_decls is us)
in_view R is us one two = each_join R (with_given is us) (others is [] us) (given is one) (each_others R is [] us two)
  where
    given : (is : List Decl) → Each R is → Each R (with_given is us)
    given [] all = tt
    given (i ∷ is) all = (by (find (gives i) us) refl, given is all.1)
      where
        by : (o : Option Decl) → find (gives i) us ≡ o → R (unwrap_or o i)
        by None e = all.0
        by (Some d) e = each_found R (gives i) us two d e

pub raised_are : (ds : List Decl) → Each (IsDecl language) ds → Each (IsDecl language) (map (raised RAISE) ds)
raised_are [] all = tt
raised_are (d ∷ ds) all = (decl_is RAISE language d all.0, raised_are ds all.1)

pub raised_ticks : (d : Decl) → HasTicks d → HasTicks (raised RAISE d)
raised_ticks (s.stateset n ss at) h = tt
raised_ticks (s.abstract n ss at) h = tt
raised_ticks (s.struct n ps ss fs r at) h = tt
raised_ticks (s.variant n ps cs at) h = go cs h
  where
    go : (cs : List Case) → Each (λ c. IsTick c.name) cs → Each (λ c. IsTick c.name) (map (raised_case RAISE) cs)
    go [] all = tt
    go (c ∷ cs) all = (all.0, go cs all.1)
raised_ticks (s.extern h at) x = tt
raised_ticks (s.function h b at) x = tt

all_ticks : (ds : List Decl) → Each HasTicks ds → Each HasTicks (map (raised RAISE) ds)
all_ticks [] all = tt
all_ticks (d ∷ ds) all = (raised_ticks d all.0, all_ticks ds all.1)

pub language_of : (i m : Tree) → IsTree language i → IsTree language m → Each (IsDecl language) (view_decls i.decls (map (raised RAISE) m.decls))
language_of i m x y = in_view (IsDecl language) i.decls (map (raised RAISE) m.decls) x.0 (raised_are m.decls y.0)

pub view_language : (i m : Tree) → IsTextTree i → IsTextTree m → Each (IsDecl language) (view_decls i.decls (map (raised RAISE) m.decls))
view_language i m x y = language_of i m x.tree y.tree

pub view_ticks : (i m : Tree) → IsTextTree i → IsTextTree m → Each HasTicks (view_decls i.decls (map (raised RAISE) m.decls))
view_ticks i m x y = in_view HasTicks i.decls (map (raised RAISE) m.decls) x.ticks (all_ticks m.decls y.ticks)
