-- Two modules whose views are accepted link.
use Rattle.std.proofs.Common.{◌≡◌, inl, inr, ℕ, false, if◌then◌else◌, List, [], ◌∷◌, ◌++◌, map, Option, Some, None, refl, sym, ap, ap₂, ◌∙◌, subst}
use Rattle.std.proofs.lemmas.List.{map-append}
use Rattle.std.specs.Str.{bytes_eq}
use Rattle.vlt_syntax.specs.Tree.{Decl, Tree}
use Rattle.vlt_syntax.specs.Lists.{Each}
use Rattle.vlt_core.specs.Core.{Func}
use Rattle.vlt_kinds_types.specs.Names.Globals.{decl_name, Counts, global_of, counts_after, names_again}
use Rattle.vlt_kinds_decls.specs.Names as nam
use Rattle.vlt_kinds_types.specs.Names.Refusals.{of_each}
use Rattle.vlt_syntax_copies.specs.Raised.{raised}
use Rattle.vlt_iface.specs.declared.places.TheConstants.{RAISE}
use Rattle.vlt_iface.specs.View.{with_given, others, view_decls, joined}
use Rattle.vlt_iface.specs.Rules.{given_refused}
use Rattle.vlt_link_laws.specs.Moves.Joins.{Joins, befores}
use Rattle.vlt_link_laws.proofs.OfMoves.Names.{first_in, kind_of, IsJoin, AreJoined}
use Rattle.vlt_link_laws.proofs.Fits.{IsGiven, FitsIf, Fits}
use Rattle.vlt_link_laws.proofs.Parts.{IsPart, IsLinked}
use Rattle.vlt_link_laws.proofs.Sides.{given_joins, same_joins, new_joins, first_joins, second_joins, AreApart, IsApart, IsView}
use Rattle.vlt_link_laws.proofs.Given.{given_elim}
use Rattle.vlt_link_laws.proofs.Program.{views_link}
use Rattle.vlt_link_laws.proofs.Again.{joined_once}
use Rattle.vlt_link_laws.proofs.Viewing.{befores_both, before_new, before_same, others_both, second_is_view, first_is_joined, first_fits, second_fits, views_cover}

-- ---- what stands for a declaration has its name

abbrev pub IsNew : Option Decl → Decl → Joins → Type 0
IsNew None e js = (c : Counts) → first_in c (befores js) (decl_name e).text ≡ None
IsNew (Some d) e js = Unit {0}

abbrev pub AreNew : Joins → Type 0
AreNew [] = Unit {0}
AreNew (j ∷ js) = IsNew j.before j.after js × AreNew js

given_named : (d e : Decl) → IsGiven d e → (kind_of e ≡ kind_of d) × ((decl_name e).text ≡ (decl_name d).text)
given_named = given_elim (λ d e. (kind_of e ≡ kind_of d) × ((decl_name e).text ≡ (decl_name d).text))
    (λ n ss at k ps rs fs r kat g. (refl, g.0))
    (λ h at g b gat is. (refl, ap (λ x. x.name.text) is))

pub are_joined : (js : Joins) → Each Fits js → AreNew js → AreJoined js
are_joined [] fits new = tt
are_joined (j ∷ js) fits new = (by j.before j.after fits.0 new.0, are_joined js fits.1 new.1)
  where
    by : (o : Option Decl) (e : Decl) → FitsIf o e → IsNew o e js → IsJoin o e js
    by None e fit new = new
    by (Some d) e (inl same) new = (ap kind_of same, ap (λ x. (decl_name x).text) same)
    by (Some d) e (inr given) new = given_named d e given

pub given_new : (ms fs gs is : List Decl) (rest : Joins) → AreNew rest → AreNew (given_joins ms fs gs is ++ rest)
given_new ms fs gs [] rest new = new
given_new ms fs gs (i ∷ is) rest new = (tt, given_new ms fs gs is rest new)

pub same_new : (ds : List Decl) (rest : Joins) → AreNew rest → AreNew (same_joins ds ++ rest)
same_new [] rest new = new
same_new (d ∷ ds) rest new = (tt, same_new ds rest new)

pub same_alone : (ds : List Decl) → AreNew (same_joins ds)
same_alone [] = tt
same_alone (d ∷ ds) = (tt, same_alone ds)

pub new_alone : (ds : List Decl) → AreNew (new_joins ds)
new_alone [] = tt
new_alone (d ∷ ds) = (λ c. ap (λ es. first_in c es (decl_name d).text) (before_new ds), new_alone ds)

not_there : (n : List ℕ) (es : List Decl) → Each (λ e. bytes_eq n (decl_name e).text ≡ false) es → (c : Counts) → first_in c es n ≡ None
not_there n [] apart c = refl
not_there n (e ∷ es) apart c = ap (λ b. if b then Some (global_of c e) else first_in (counts_after c e) es n) apart.0 ∙ not_there n es apart.1 (counts_after c e)

pub new_before : (ds es : List Decl) → AreApart ds es → AreNew (new_joins ds ++ same_joins es)
new_before [] es apart = same_alone es
new_before (d ∷ ds) es apart = (
  λ c. ap (λ xs. first_in c xs (decl_name d).text) (befores_both (new_joins ds) (same_joins es) ∙ ap₂ (λ x y. x ++ y) (before_new ds) (before_same es)) ∙ not_there (decl_name d).text es apart.0 c,
  new_before ds es apart.1,
)

-- ---- the law

part_of : (js : Joins) (fs : List Func) (main : ℕ) → Each Fits js → AreNew js → IsView js fs main → IsPart js fs main
part_of js fs main fits new v = record {
  fits = fits;
  joined = are_joined js fits new;
  named = v.named;
  typed = v.typed;
  headed = v.headed;
  walked = v.walked;
  unbroken = v.unbroken;
  accepted = v.accepted;
  free = v.free;
  hosted = v.hosted;
}

pub declarations_link : (is ms ns : List Decl) → of_each (given_refused ms) is ≡ [] → of_each (given_refused ns) is ≡ [] → IsApart is ms ns →
    (fs gs : List Func) (x y : ℕ) → IsView (first_joins is ms ns) fs x → IsView (second_joins is ms ns) gs y →
    nam.no_main (view_decls is ns) ≡ [] → names_again (view_decls is ms) ≡ [] → names_again (view_decls is ns) ≡ [] → IsLinked (view_decls is (ms ++ ns))
declarations_link is ms ns one two apart fs gs x y first second main before following =
    subst IsLinked (first_is_joined is ms ns)
    (views_link (first_joins is ms ns) (second_joins is ms ns) (views_cover is ms ns) fs gs x y
    (part_of (first_joins is ms ns) fs x (first_fits is ms ns two) (given_new ms ms ns is _ (same_new (others is [] ms) _ (new_alone (others is ms ns)))) first)
    (part_of (second_joins is ms ns) gs y (second_fits is ms ns one apart.once) (given_new ns ms ns is _ (new_before (others is [] ms) (others is ms ns) apart.names)) second)
    (ap nam.no_main (second_is_view is ms ns apart.rest) ∙ main)
    (ap names_again (first_is_joined is ms ns) ∙ joined_once is ms ns (ap (λ ds. with_given is (ms ++ ns) ++ ds) (others_both is [] ms ns)) apart.rest apart.names before following))

pub modules_link : (i f g : Tree) → of_each (given_refused (map (raised RAISE) f.decls)) i.decls ≡ [] → of_each (given_refused (map (raised RAISE) g.decls)) i.decls ≡ [] →
    IsApart i.decls (map (raised RAISE) f.decls) (map (raised RAISE) g.decls) → (fs gs : List Func) (x y : ℕ) →
    IsView (first_joins i.decls (map (raised RAISE) f.decls) (map (raised RAISE) g.decls)) fs x → IsView (second_joins i.decls (map (raised RAISE) f.decls) (map (raised RAISE) g.decls)) gs y →
    nam.no_main (view_decls i.decls (map (raised RAISE) g.decls)) ≡ [] → names_again (view_decls i.decls (map (raised RAISE) f.decls)) ≡ [] → names_again (view_decls i.decls (map (raised RAISE) g.decls)) ≡ [] → IsLinked (joined i f g).decls
modules_link i f g one two apart fs gs x y first second main before following =
    let same = map-append (raised RAISE) f.decls g.decls in
    subst (λ ms. IsLinked (view_decls i.decls ms)) (sym same)
    (declarations_link i.decls (map (raised RAISE) f.decls) (map (raised RAISE) g.decls) one two apart fs gs x y first second main before following)
