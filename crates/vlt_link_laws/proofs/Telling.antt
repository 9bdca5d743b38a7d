-- What is known of a view that passes.
use Rattle.std.proofs.Common.{◌≡◌, ℕ, zero, suc, ◌+◌, Bool, true, false, not, if◌then◌else◌, List, [], ◌∷◌, ◌++◌, map, Option, Some, None, slice_get, Result, Ok, Err, refl, sym, ap, ◌∙◌, subst, arith}
use Rattle.std.specs.List.{list_any, flat_map, enumerate_from}
use Rattle.std.proofs.lemmas.List.Concat.{flat_map-cons}
use Rattle.vlt_syntax.specs.Tree.{Decl, Tree}
use Rattle.vlt_core.specs.Core.{Func, Program}
use Rattle.vlt_core.specs.KindedHeads.{Rules, set_broken, type_rows}
use Rattle.vlt_core.specs.Kinded.{function_rows, parts_broken, first_broken, HasKindedParts}
use Rattle.vlt_core.specs.declared.rules.TheConstants as rule
use Rattle.vlt_core_laws.proofs.Unbroken.{some_not_none, some_same, each_left, each_right, each_of_first}
use Rattle.vlt_core_laws.specs.Unbroken.{EachEmpty}
use Rattle.vlt_kinds_types.specs.declared.names.found.Refusal.{Refusal}
use Rattle.vlt_kinds_types.specs.Names.Globals.{globals_of, names_again}
use Rattle.vlt_kinds_decls.specs.Names as nam
use Rattle.vlt_kinds_types.specs.Names.Refusals.{of_each, least}
use Rattle.vlt_kinds_types.specs.Files.{file_of}
use Rattle.vlt_kinds_decls.specs.Decls.{type_refused, types_refused}
use Rattle.vlt_kinds_heads.specs.Phase.{heads_refused_in, heads_refused}
use Rattle.vlt_kinds_types.specs.Kinds.{Kinds}
use Rattle.vlt_kinds.specs.Tables.{kinds_of, unless}
use Rattle.vlt_elaboration.specs.Elaboration.{walk_decls, main_of, walk_tree, Refused, broken, refused_of, or_refused}
use Rattle.vlt_syntax_copies.specs.Raised.{raised}
use Rattle.vlt_iface.specs.declared.places.TheConstants.{RAISE}
use Rattle.vlt_iface.specs.View.{View}
use Rattle.vlt_iface.specs.Rules as rules
use Rattle.vlt_iface.specs.Rules.{body_refused, given_refused, view_refused}
use Rattle.vlt_link_laws.proofs.OfMoves.Empty.{no_left, no_right, quiet}
use Rattle.vlt_link_laws.proofs.OfMoves.Walk.{then_ok, least_none, same_ok}
use Rattle.vlt_link_laws.proofs.Parts.{program_of}
use Rattle.vlt_views.specs.Hidden.{hidden_names, own_refused}
use Rattle.vlt_views.specs.Views.{view_heads_refused, view_heads_told, view_types_told, view_names_told, lacks_main, view_elaborated}

-- ---- kinds

no_least : (rs : List Refusal) → least rs ≡ None → rs ≡ []
no_least rs e = (least_none None rs e).1

told_not_ok : {A : Type 0} (r : Refusal) (z : A) → ◌≡◌ {A = Result A Refusal} (Err r) (Ok z) → ⊥
told_not_ok r z e = cc

went : {A : Type 0} (o : Option Refusal) (go : Result A Refusal) (z : A) → unless o go ≡ Ok z → (o ≡ None) × (go ≡ Ok z)
went None go z e = (refl, e)
went (Some r) go z e = absurd (told_not_ok r z e)

pub record ViewFine (os : List ℕ) (ds : List Decl) : Type 0 where
  pub again : names_again ds ≡ []
  pub named : of_each (nam.decl_refused (globals_of ds)) ds ≡ []
  pub typed : of_each (type_refused (file_of ds)) ds ≡ []
  pub headed : of_each (heads_refused_in (file_of ds) (kinds_of ds).types) ds ≡ []
  pub own : own_refused (hidden_names os ds) (kinds_of ds).types (file_of ds) os ds ≡ []

pub view_fine : (os : List ℕ) (ds : List Decl) (kinds : Kinds) → view_names_told os ds ≡ Ok kinds → ViewFine os ds × (kinds_of ds ≡ kinds)
unfolding types_refused heads_refused
view_fine os ds kinds e =
    let one = went (least (nam.other_names_refused ds)) (view_types_told os ds) kinds e in
    let two = went (least (types_refused (file_of ds) ds)) (view_heads_told os ds) kinds one.1 in
    let three = went (least (view_heads_refused (file_of ds) (kinds_of ds).types os ds)) (Ok (kinds_of ds)) kinds two.1 in
    let names = no_least (nam.other_names_refused ds) one.0 in
    let heads = no_least (view_heads_refused (file_of ds) (kinds_of ds).types os ds) three.0 in (
      record {
        again = no_left (names_again ds) _ names;
        named = no_right (names_again ds) _ names;
        typed = no_least (types_refused (file_of ds) ds) two.0;
        headed = no_left (heads_refused (file_of ds) (kinds_of ds).types ds) _ heads;
        own = no_right (heads_refused (file_of ds) (kinds_of ds).types ds) _ heads;
      },
      same_ok (kinds_of ds) kinds three.1,
    )

-- ---- programs

told_ok : (r : Result Program Refusal) (p : Program) → or_refused r ≡ Ok p → r ≡ Ok p
told_ok (Ok q) p e = ap Ok (same q p e)
  where
    same : (q p : Program) → ◌≡◌ {A = Result Program Refused} (Ok q) (Ok p) → q ≡ p
    same q p e = cc
told_ok (Err r) p e = absurd (not_ok (refused_of r) e)
  where
    not_ok : (t : Refused) → ◌≡◌ {A = Result Program Refused} (Err t) (Ok p) → ⊥
    not_ok t e = cc

-- the functions of a view, and rule 1 where it is wanted
pub record ViewWalked (ds : List Decl) (with_main : Bool) (p : Program) : Type 0 where
  pub fns : List Func
  pub walked : walk_decls (kinds_of ds) (kinds_of ds).heads ds ≡ Ok fns
  pub is : program_of ds fns (main_of (kinds_of ds).heads) ≡ p
  pub main : lacks_main with_main ds ≡ false

pub view_walked : (v : View) (with_main : Bool) (p : Program) → view_elaborated v (kinds_of v.tree.decls) with_main ≡ Ok p → ViewWalked v.tree.decls with_main p
view_walked v with_main p e = by (lacks_main with_main v.tree.decls) refl e
  where
    not_ok : (t : Refused) → ◌≡◌ {A = Result Program Refused} (Err t) (Ok p) → ⊥
    not_ok t e = cc

    by : (b : Bool) → lacks_main with_main v.tree.decls ≡ b → (if b then Err (broken rule.NO_MAIN RAISE) else or_refused (walk_tree v.tree (kinds_of v.tree.decls))) ≡ Ok p → ViewWalked v.tree.decls with_main p
    by true lacks e = absurd (not_ok (broken rule.NO_MAIN RAISE) e)
    by false has e =
        let two = then_ok (walk_decls (kinds_of v.tree.decls) (kinds_of v.tree.decls).heads v.tree.decls) _ p (told_ok (walk_tree v.tree (kinds_of v.tree.decls)) p e) in
        record {
          fns = two.0;
          walked = two.1;
          is = same_ok (program_of v.tree.decls two.0 (main_of (kinds_of v.tree.decls).heads)) p two.2;
          main = has;
        }

pub wanted_main : (ds : List Decl) → lacks_main true ds ≡ false → nam.no_main ds ≡ []
unfolding nam.no_main
wanted_main ds has = quiet (not (list_any nam.is_main ds)) rule.NO_MAIN 0 has

-- ---- rows

none_first : (n : ℕ) (rows : List Rules) → EachEmpty rows → first_broken n rows ≡ None
none_first n [] e = refl
none_first n (r ∷ rows) e = ap (λ x. first_broken n (x ∷ rows)) e.0 ∙ none_first (suc n) rows e.1

each_at : {A : Type 0} (go : ℕ × A → List Rules) (n i : ℕ) (xs : List A) (x : A) → EachEmpty (flat_map go (enumerate_from n xs)) →
    slice_get xs i ≡ Some x → EachEmpty (go (n + i, x))
each_at go n i [] x e at = absurd (some_not_none x (sym at))
each_at go n zero (y ∷ ys) x e at =
    let both = subst EachEmpty (flat_map-cons go (n, y) (enumerate_from (n + 1) ys)) e in
    let same : n ≡ n + 0 = omega arith in
    subst (λ k. EachEmpty (go (k, x))) same (subst (λ z. EachEmpty (go (n, z))) (some_same y x at) (each_left (go (n, y)) (flat_map go (enumerate_from (n + 1) ys)) both))
each_at go n (suc i) (y ∷ ys) x e at =
    let both = subst EachEmpty (flat_map-cons go (n, y) (enumerate_from (n + 1) ys)) e in
    let same : (n + 1) + i ≡ n + suc i = omega arith in
    subst (λ k. EachEmpty (go (k, x))) same (each_at go (n + 1) i ys x (each_right (go (n, y)) (flat_map go (enumerate_from (n + 1) ys)) both) at)

pub unbroken : (p : Program) → HasKindedParts p → (n : ℕ) (f : Func) → slice_get p.fns n ≡ Some f → first_broken 0 (function_rows p (n, f)) ≡ None
unbroken p e n f at =
    let same : 0 + n ≡ n = omega arith in
    none_first 0 (function_rows p (n, f))
    (subst (λ k. EachEmpty (function_rows p (k, f))) same
    (each_at (function_rows p) 0 n p.fns f (each_right (map set_broken p.sets ++ flat_map (λ q. type_rows p q.0 q.1) (enumerate_from 0 p.types)) (flat_map (function_rows p) (enumerate_from 0 p.fns)) (each_of_first 1 (parts_broken p) e)) at))

-- ---- what is given

pub record Given (i m : Tree) : Type 0 where
  -- 47
  pub bodies : of_each body_refused i.decls ≡ []
  -- 48, 49
  pub given : of_each (given_refused (map (raised RAISE) m.decls)) i.decls ≡ []

pub is_given : (i m : Tree) → view_refused i m ≡ None → Given i m
is_given i m e =
    let both = by (least (of_each body_refused i.decls)) e in
    record { bodies = no_least (of_each body_refused i.decls) both.0; given = no_least (of_each (given_refused (map (raised RAISE) m.decls)) i.decls) both.1 }
  where
    by : (o : Option Refusal) → rules.or_else o (least (of_each (given_refused (map (raised RAISE) m.decls)) i.decls)) ≡ None →
        (o ≡ None) × (least (of_each (given_refused (map (raised RAISE) m.decls)) i.decls) ≡ None)
    by None e = (refl, e)
    by (Some r) e = absurd (some_not_none r e)
