-- The program of a view breaks no rule but perhaps rule 1, and not that where it was tested.
use Rattle.std.proofs.Common.{◌≡◌, ◌+◌, ◌<◌, ℕ, suc, Bool, true, false, not, ◌&&◌, cond, List, [], ◌∷◌, map, length, Some, None, unwrap_or, slice_get, Ok, refl, sym, ap, ◌∙◌, subst, arith}
use Rattle.std.specs.List.{list_any, position_or_len}
use Rattle.std.proofs.lemmas.Option.{none-some, same_Some, slice_get_within}
use Rattle.std.proofs.lemmas.Bool.{not-false}
use Rattle.std.specs.Prelude.{nat_lt}
use Rattle.vlt_syntax.specs.Tree.{Decl, Tree}
use Rattle.vlt_core.specs.Core.{Func, Program}
use Rattle.vlt_core.specs.Kinded.{HasKindedParts, IsKinded}
use Rattle.vlt_kinds_decls.specs.Names as nam
use Rattle.vlt_kinds_types.specs.Files.{file_of}
use Rattle.vlt_kinds_decls.specs.Decls.{types_refused}
use Rattle.vlt_kinds_heads.specs.Phase.{heads_refused, core_heads}
use Rattle.vlt_kinds_types.specs.Kinds.{Kinds}
use Rattle.vlt_kinds.specs.Tables.{kinds_of}
use Rattle.vlt_elaboration.specs.Elaboration.{is_main, main_of}
use Rattle.vlt_resolve_laws.proofs.Whole.{MainAt, main_is, some_main, Facts, AreFine, facts_walked, kinded_but_main, kinded}
use Rattle.vlt_syntax_copies.specs.Raised.{raised}
use Rattle.vlt_iface.specs.declared.places.TheConstants.{RAISE}
use Rattle.vlt_iface.specs.View.{view_decls, origins_in, viewed}
use Rattle.vlt_link_laws.proofs.Parts.{program_of}
use Rattle.vlt_views.specs.Views.{view_kinds_told, view_elaborated}
use Rattle.vlt_fit_laws.specs.Fit.{IsTextTree}
use Rattle.vlt_link_laws.proofs.Texts.{view_language, view_ticks}
use Rattle.vlt_link_laws.proofs.Telling.{ViewFine, view_fine, ViewWalked, view_walked}

-- ---- main

passing_at : {A : Type 0} (test : A → Bool) (xs : List A) (x : A) → slice_get xs (position_or_len test xs) ≡ Some x → test x ≡ true
passing_at test [] x e = absurd (none-some x e)
passing_at {A} test (y ∷ ys) x e = by (test y) refl (passing_at test ys x) e
  where
    by : (b : Bool) → test y ≡ b → (slice_get ys (position_or_len test ys) ≡ Some x → test x ≡ true) → slice_get (y ∷ ys) (cond (not b) (1 + position_or_len test ys) 0) ≡ Some x → test x ≡ true
    by true is rest e = ap test (sym (same_Some y x e)) ∙ is
    by false is rest e = let one : 1 + position_or_len test ys ≡ suc (position_or_len test ys) = omega arith in rest (sym (ap (slice_get (y ∷ ys)) one) ∙ e)

main_at : (hs : List Func) → MainAt hs (main_of hs)
main_at hs h at = by (nat_lt (position_or_len is_main hs) (length hs)) at
  where
    none_past : (n : ℕ) → n < n → ⊥
    none_past n e = omega (arith, e)

    by : (b : Bool) → slice_get hs (unwrap_or (cond b (Some (position_or_len is_main hs)) None) (length hs)) ≡ Some h → is_main h ≡ true
    by true at = passing_at is_main hs h at
    by false at = absurd (none_past (length hs) (slice_get_within hs (length hs) h at))

pub are_fine : (i m : Tree) → IsTextTree i → IsTextTree m → ViewFine (origins_in i.decls (map (raised RAISE) m.decls)) (view_decls i.decls (map (raised RAISE) m.decls)) → AreFine (view_decls i.decls (map (raised RAISE) m.decls))
unfolding types_refused heads_refused
are_fine i m x y fine = record { language = view_language i m x y; ticks = view_ticks i m x y; again = fine.again; named = fine.named; types = fine.typed; heads = fine.headed }

module _ (i m : Tree) (text_i : IsTextTree i) (text_m : IsTextTree m) (with_main : Bool) (kinds : Kinds) (p : Program)
    (told : view_kinds_told (viewed i m) ≡ Ok kinds) (gives : view_elaborated (viewed i m) kinds with_main ≡ Ok p) where
  abbrev decls : List Decl
  decls = view_decls i.decls (map (raised RAISE) m.decls)

  pub fine : ViewFine (origins_in i.decls (map (raised RAISE) m.decls)) decls × (kinds_of decls ≡ kinds)
  fine = view_fine (origins_in i.decls (map (raised RAISE) m.decls)) decls kinds told

  pub walked : ViewWalked decls with_main p
  walked = view_walked (viewed i m) with_main p (subst (λ k. view_elaborated (viewed i m) k with_main ≡ Ok p) (sym fine.1) gives)

  pub facts : Facts (kinds_of decls) (program_of decls walked.fns (main_of (kinds_of decls).heads))
  facts = facts_walked decls walked.fns (main_of (kinds_of decls).heads) (are_fine i m text_i text_m fine.0) walked.walked (main_at (kinds_of decls).heads)

  pub kinded_part : HasKindedParts p
  kinded_part =
      subst HasKindedParts walked.is
      (kinded_but_main (kinds_of decls) (program_of decls walked.fns (main_of (kinds_of decls).heads)) facts)

  module _ (wanted : with_main ≡ true) where
    main_there : list_any nam.is_main decls ≡ true
    main_there = not-false _ (sym (ap (λ b. b && not (list_any nam.is_main decls)) wanted) ∙ walked.main)

    heads_main : list_any is_main (core_heads (file_of decls) decls) ≡ true
    heads_main = some_main (file_of decls) decls main_there

    pub kinded_whole : IsKinded p
    kinded_whole =
        subst IsKinded walked.is
        (kinded (kinds_of decls) (program_of decls walked.fns (main_of (kinds_of decls).heads)) facts (main_is (core_heads (file_of decls) decls) heads_main) refl)
