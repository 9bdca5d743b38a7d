-- The joined declarations are a program, which is accepted.
use Rattle.std.proofs.Common.{◌≡◌, inl, inr, ℕ, Bool, true, false, true≢false, not, ◌||◌, List, [], ◌∷◌, Option, Some, None, Ok, refl, sym, ap, ◌∙◌, subst}
use Rattle.std.specs.List.{list_any}
use Rattle.vlt_syntax.specs.Tree.{Decl}
use Rattle.vlt_syntax.specs.Lists.{Each}
use Rattle.vlt_core.specs.Core.{Func}
use Rattle.vlt_core.specs.declared.rules.TheConstants as rule
use Rattle.vlt_kinds_types.specs.Names.Globals.{globals_of, names_again}
use Rattle.vlt_kinds_decls.specs.Names as nam
use Rattle.vlt_kinds_types.specs.Names.Refusals.{refuse_if, of_each, least}
use Rattle.vlt_kinds_types.specs.Files.{file_of}
use Rattle.vlt_kinds_decls.specs.Decls as decls
use Rattle.vlt_kinds_heads.specs.Phase.{heads_refused_in, heads_refused}
use Rattle.vlt_kinds.specs.Tables.{kinds_of, unless, heads_told, types_told, kinds_told}
use Rattle.vlt_elaboration.specs.Walk.{then_do}
use Rattle.vlt_elaboration.specs.Elaboration.{main_of, or_refused}
use Rattle.vlt_link_laws.specs.Moves.Joins.{Joins, befores, afters}
use Rattle.vlt_link_laws.proofs.OfMoves.Empty.{none_of_both, not_broken, not_false}
use Rattle.vlt_link_laws.proofs.Fits.{IsGiven, FitsIf, Fits}
use Rattle.vlt_link_laws.proofs.Parts.{IsPart, Covers, IsLinked, program_of}
use Rattle.vlt_link_laws.proofs.Given.{given_elim}
use Rattle.vlt_link_laws.proofs.Linked.{same_afters, linked}

or_right : (x y : Bool) → y ≡ true → (x || y) ≡ true
or_right true y e = refl
or_right false y e = e

given_no_main : (d e : Decl) → IsGiven d e → nam.is_main d ≡ false
given_no_main = given_elim (λ d e. nam.is_main d ≡ false) (λ n ss at k ps rs fs r kat g. refl) (λ h at g b gat is. refl)

-- a function named main stays
main_stays : (js : Joins) → Each Fits js → list_any nam.is_main (befores js) ≡ true → list_any nam.is_main (afters js) ≡ true
main_stays [] fits e = e
main_stays (j ∷ js) fits e = by j.before j.after fits.0 (main_stays js fits.1) e
  where
    here : (x : Bool) (y z : Bool) → (y ≡ true → z ≡ true) → (x || y) ≡ true → (x || z) ≡ true
    here true y z rest e = refl
    here false y z rest e = rest e

    there : (x y z w : Bool) → x ≡ false → (y ≡ true → z ≡ true) → (x || y) ≡ true → (w || z) ≡ true
    there true y z w is rest e = absurd (true≢false is)
    there false y z w is rest e = or_right w z (rest e)

    by : (o : Option Decl) (e : Decl) → FitsIf o e → (list_any nam.is_main (befores js) ≡ true → list_any nam.is_main (afters js) ≡ true) →
        list_any nam.is_main (befores (record { before = o; after = e } ∷ js)) ≡ true → (nam.is_main e || list_any nam.is_main (afters js)) ≡ true
    by None e fit rest has = or_right (nam.is_main e) _ (rest has)
    by (Some d) e (inl same) rest has = subst (λ e. (nam.is_main e || list_any nam.is_main (afters js)) ≡ true) (sym same) (here (nam.is_main d) _ _ rest has)
    by (Some d) e (inr given) rest has = there (nam.is_main d) _ _ (nam.is_main e) (given_no_main d e given) rest has

has_main : (js : Joins) → Each Fits js → nam.no_main (befores js) ≡ [] → nam.no_main (afters js) ≡ []
unfolding nam.no_main
has_main js fits none =
    ap (λ x. refuse_if (not x) rule.NO_MAIN 0) (main_stays js fits (not_false (list_any nam.is_main (befores js)) (not_broken (not (list_any nam.is_main (befores js))) rule.NO_MAIN 0 none)))

told : (es : List Decl) → nam.names_refused es ≡ [] → decls.types_refused (file_of es) es ≡ [] → heads_refused (file_of es) (kinds_of es).types es ≡ [] → kinds_told (record { decls = es }) ≡ Ok (kinds_of es)
told es one two three =
    ap (λ rs. unless (least rs) (types_told es)) one ∙
    (ap (λ rs. unless (least rs) (heads_told es)) two ∙
    ap (λ rs. unless (least rs) (Ok (kinds_of es))) three)

named : (es : List Decl) → nam.no_main es ≡ [] → names_again es ≡ [] → of_each (nam.decl_refused (globals_of es)) es ≡ [] → nam.names_refused es ≡ []
unfolding nam.names_refused
named es one two three = none_of_both _ _ one (none_of_both _ _ two three)

typed : (es : List Decl) → of_each (decls.type_refused (file_of es)) es ≡ [] → decls.types_refused (file_of es) es ≡ []
unfolding decls.types_refused
typed es none = none

headed : (es : List Decl) → of_each (heads_refused_in (file_of es) (kinds_of es).types) es ≡ [] → heads_refused (file_of es) (kinds_of es).types es ≡ []
unfolding heads_refused
headed es none = none

pub views_link : (js ks : Joins) → Covers js ks → (fs gs : List Func) (i k : ℕ) → IsPart js fs i → IsPart ks gs k →
    nam.no_main (befores ks) ≡ [] → names_again (afters js) ≡ [] → IsLinked (afters js)
views_link js ks covers fs gs i k first second main once =
    let same = sym (same_afters js ks covers) in
    let p = linked js ks covers fs gs i k first second (main_of (kinds_of (afters js)).heads) in
    record {
      kinds = told (afters js) (named (afters js) (ap nam.no_main (sym same) ∙ has_main ks second.fits main) once p.named) (typed (afters js) p.typed) (headed (afters js) p.headed);
      program = program_of (afters js) p.fns (main_of (kinds_of (afters js)).heads);
      is = ap (λ r. or_refused (then_do r (λ fs. Ok (program_of (afters js) fs (main_of (kinds_of (afters js)).heads))))) p.walked;
      accepted = p.accepted;
    }
