-- The program of a view is one that the check may be asked of.
use Rattle.std.proofs.Common.{◌≡◌, ◌≤◌, Bool, List, map, length, Ok, subst, arith}
use Rattle.vlt_syntax.specs.Tree.{Decl, Tree}
use Rattle.vlt_syntax.specs.Lists.{Each}
use Rattle.vlt_syntax.specs.Grammar.{IsDecl, language}
use Rattle.vlt_core.specs.Core.{Program}
use Rattle.vlt_core_laws.specs.States.{HasStates, IsFilledSet}
use Rattle.vlt_core_laws.specs.Fit.{IsWellFormed}
use Rattle.vlt_kinds_types.specs.Files.{file_of}
use Rattle.vlt_kinds_types.specs.Kinds.{Kinds}
use Rattle.vlt_kinds.specs.Tables.{kinds_of}
use Rattle.vlt_elaboration.specs.Elaboration.{main_of}
use Rattle.vlt_resolve_laws.specs.KindsLaws.Declared as declared
use Rattle.vlt_resolve_laws.proofs.Made.{made_at}
use Rattle.vlt_resolve_laws.proofs.Arms.{func_arms}
use Rattle.vlt_resolve_laws.proofs.Filled.{listed_filled_sets}
use Rattle.vlt_resolve_laws.proofs.Said.{program_says}
use Rattle.vlt_resolve_laws.proofs.Few as variables
use Rattle.vlt_resolve_laws.proofs.FewKeys as keys
use Rattle.vlt_resolve_laws.proofs.FewFunctions.{few_heads, as_many}
use Rattle.vlt_resolve_laws.proofs.Whole.{Facts, AreFine, kinded_but_main}
use Rattle.vlt_sound.specs.Sizes.{HasSizes}
use Rattle.vlt_fit_laws.specs.Fit.{HasFewParts, IsJudgeable, IsTextTree}
use Rattle.vlt_fit_laws.proofs.Sets.{has_sizes}
use Rattle.vlt_fit_laws.proofs.Fields.{has_few_fields}
use Rattle.vlt_syntax_copies.specs.Raised.{raised}
use Rattle.vlt_iface.specs.declared.places.TheConstants.{RAISE}
use Rattle.vlt_iface.specs.View.{view_decls, viewed}
use Rattle.vlt_views.specs.Views.{view_kinds_told, view_elaborated}
use Rattle.vlt_link_laws.proofs.Parts.{program_of}
use Rattle.vlt_link_laws.proofs.Telling.{ViewWalked}
use Rattle.vlt_link_laws.proofs.Kinding.{are_fine, fine, walked, facts}

module _ (i m : Tree) (text_i : IsTextTree i) (text_m : IsTextTree m) (with_main : Bool) (kinds : Kinds) (p : Program)
    (told : view_kinds_told (viewed i m) ≡ Ok kinds) (gives : view_elaborated (viewed i m) kinds with_main ≡ Ok p) where
  abbrev decls : List Decl
  decls = view_decls i.decls (map (raised RAISE) m.decls)

  abbrev w : ViewWalked decls with_main p
  w = walked i m text_i text_m with_main kinds p told gives

  abbrev q : Program
  q = program_of decls w.fns (main_of (kinds_of decls).heads)

  are : AreFine decls
  are = are_fine i m text_i text_m (fine i m text_i text_m with_main kinds p told gives).0

  right : Each (IsDecl language) decls
  right = are.language

  known : Facts (kinds_of decls) q
  known = facts i m text_i text_m with_main kinds p told gives

  passed : declared.IsPassed decls
  passed = record { language = are.language; names = are.again; types = are.types }

  filled : HasStates q
  filled =
      let has : declared.HasDeclared decls q = record { sets = known.functions.sets; types = known.functions.types } in
      let x = program_says decls q passed has IsFilledSet (listed_filled_sets (file_of decls)) known.functions in
      record { all = x.all; released = x.released; owned = x.owned; listed = x.listed; after = x.after; before = x.before }

  formed : IsWellFormed q
  formed = record {
    kinded = kinded_but_main (kinds_of decls) q known;
    states = filled;
    arms = λ g f at. let x = made_at (kinds_of decls) (kinds_of decls).heads q.fns known.functions.made g f at in func_arms (kinds_of decls) x.head x.body f x.made;
  }

  sizes : HasSizes q
  sizes = has_sizes decls q right known.functions.sets

  few : length decls ≤ 4096 → HasFewParts q
  few some =
      let heads = few_heads (kinds_of decls).file decls in
      let all = as_many (kinds_of decls) (kinds_of decls).heads q.fns known.functions.made in
      record {
        fields = has_few_fields decls q right known.functions.types;
        vars = λ g f at. let x = made_at (kinds_of decls) (kinds_of decls).heads q.fns known.functions.made g f at in variables.made_few (kinds_of decls) x.head x.body f x.made;
        keys = λ g f at. let x = made_at (kinds_of decls) (kinds_of decls).heads q.fns known.functions.made g f at in keys.made_few (kinds_of decls) x.head x.body f x.made;
        functions = omega (arith, heads, all, some);
      }

  pub judgeable : length decls ≤ 4096 → IsJudgeable p
  judgeable some = subst IsJudgeable w.is (record { well_formed = formed; sizes = sizes; few = few some })
