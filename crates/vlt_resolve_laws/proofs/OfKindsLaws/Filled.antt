-- Sets of states that declared types say have one, and any property that listed ones have.
use Rattle.std.proofs.Common.{◌≡◌, ℕ, ◌≤◌, nat_lt, List, [], ◌∷◌, map, Option, Some, None, slice_get, option_map, refl, sym, ap, ◌∙◌, subst, arith}
use Rattle.vlt_syntax.specs.Tree as s
use Rattle.vlt_syntax.specs.Tree.{Name, KeyStates, HeaderKey, Case, Decl}
use Rattle.vlt_syntax.specs.Lists.{Each}
use Rattle.vlt_core.specs.Core.{States, TypeDecl, Program}
use Rattle.vlt_core.specs.Lookups.{state_count, all_states}
use Rattle.vlt_core.specs.Types.{decl_of}
use Rattle.vlt_kinds_types.specs.declared.shapes.Wanted.{Wanted}
use Rattle.vlt_kinds_types.specs.declared.shapes.Wanted.TheVariants as wanted
use Rattle.vlt_kinds_types.specs.declared.shapes.Shape.{Shape}
use Rattle.vlt_kinds_types.specs.Files.{File, file_of, shape_at, shape_named, state_names}
use Rattle.vlt_kinds_types.specs.Types.{state_count_in, states_listed}
use Rattle.vlt_kinds_decls.specs.Decls.{wanted_of}
use Rattle.vlt_kinds_decls.specs.Made.{object_states, core_case_key, core_case, core_variant, core_struct, core_types_in, core_types}
use Rattle.vlt_resolve_laws.specs.KindsLaws.Shapes.{core_shape, Describes}
use Rattle.vlt_resolve_laws.specs.KindsLaws.Said.{DeclSays, DeclsSay}
use Rattle.vlt_resolve_laws.specs.KindsLaws.Declared.{HasDeclared, IsPassed, IsFilled, HasStates}
use Rattle.vlt_resolve_laws.proofs.OfKindsLaws.Named.{shape_is, stands}
use Rattle.vlt_resolve_laws.proofs.OfKindsLaws.States.{has_state, count_is, ListedAre, listed_filled}
use Rattle.vlt_resolve_laws.proofs.OfKindsLaws.Rows.{each_at, each_in, each_of_all, describes}

module _ (file : File) (p : Program) (described : Describes file p) where
  -- names of the states of a shape that is declared, or of none
  pub shape_has : (t : ℕ) → 1 ≤ state_count_in (state_names file (shape_at file t))
  unfolding state_names
  shape_has t = rw (shape_is file p described t) (by (decl_of p t) refl)
    where
      by : (o : Option TypeDecl) → decl_of p t ≡ o → 1 ≤ state_count_in (state_names file (option_map core_shape o))
      by None is = omega arith
      by (Some d) is = has_state file p described t d is

  nothing : 1 ≤ state_count_in (state_names file None)
  unfolding state_names
  nothing = omega arith

  pub named_has : (n : Name) → 1 ≤ state_count_in (state_names file (shape_named file n))
  named_has n = by (shape_named file n) refl
    where
      by : (o : Option Shape) → shape_named file n ≡ o → 1 ≤ state_count_in (state_names file o)
      by None is = nothing
      by (Some shape) is =
          let x = stands file p described n shape is in
          subst (λ o. 1 ≤ state_count_in (state_names file o)) (sym x.shaped ∙ is) (has_state file p described x.type x.decl x.there)

-- ---- states of any property that listed ones have

module _ (file : File) (p : Program) (described : Describes file p) (P : States → Type 0) (listed : ListedAre file P) where
  abbrev AreBelow : ℕ → Type 0
  AreBelow n = P (λ i. nat_lt i n)

  all_say : (t : ℕ) → P (all_states p t)
  unfolding state_names
  all_say t = by (decl_of p t) refl
    where
      none_counted : decl_of p t ≡ None → state_count p t ≡ 1
      none_counted is = rw is refl

      by : (o : Option TypeDecl) → decl_of p t ≡ o → P (all_states p t)
      by None is = subst AreBelow (sym (none_counted is)) (listed None None (omega arith))
      by (Some d) is = subst AreBelow (sym (count_is file p described t d is)) (listed (Some (core_shape d)) None (has_state file p described t d is))

  pub named_says : (n : Name) (ss : Option s.States) → P (states_listed (state_names file (shape_named file n)) ss)
  named_says n ss = listed (shape_named file n) ss (named_has file p described n)

  pub shape_says : (t : ℕ) (ss : Option s.States) → P (states_listed (state_names file (shape_at file t)) ss)
  shape_says t ss = listed (shape_at file t) ss (shape_has file p described t)

  -- where no set is known
  pub none_says : (ss : Option s.States) → P (states_listed None ss)
  unfolding state_names
  none_says ss = listed None ss (omega arith)

  object_says : (o : Option Wanted) (ss : Option s.States) → P (states_listed (object_states file o) ss)
  object_says None ss = none_says ss
  object_says (Some wanted.Any) ss = none_says ss
  object_says (Some wanted.Unknown) ss = none_says ss
  object_says (Some (wanted.OfType t)) ss = shape_says t ss

  keys_say : (ps : List HeaderKey) (ks : List KeyStates) → Each (λ k. P k.states) (map (core_case_key file ps) ks)
  unfolding core_case_key
  keys_say ps [] = tt
  keys_say ps (k ∷ ks) = (object_says (wanted_of file.globals ps k.key.text) k.states, keys_say ps ks)

  cases_say : (ps : List HeaderKey) (cs : List Case) → Each (λ c. Each (λ k. P k.states) c.keys) (map (core_case file ps) cs)
  unfolding core_case
  cases_say ps [] = tt
  cases_say ps (c ∷ cs) = (keys_say ps c.keys, cases_say ps cs)

  decl_says : (d : Decl) → Each (DeclSays P) (core_types_in file d)
  unfolding core_struct core_variant
  decl_says (s.stateset n ss at) = tt
  decl_says (s.abstract n ss at) = (tt, tt)
  decl_says (s.struct n ps ss fs r at) = (named_says n r, tt)
  decl_says (s.variant n ps cs at) = (cases_say ps cs, tt)
  decl_says (s.extern h at) = tt
  decl_says (s.function h b at) = tt

pub declarations_say : (ds : List Decl) (p : Program) → IsPassed ds → HasDeclared ds p → (P : States → Type 0) → ListedAre (file_of ds) P → DeclsSay P p
declarations_say ds p passed has P listed =
    let described = describes ds p passed has in
    record {
      all = all_say (file_of ds) p described P listed;
      said = λ t d there.
          each_at (DeclSays P) (core_types (file_of ds) ds) t d (each_in (DeclSays P) (core_types_in (file_of ds)) ds (each_of_all _ (decl_says (file_of ds) p described P listed) ds))
          (sym (ap (λ xs. slice_get xs t) has.types) ∙ there);
    }

pub declarations_filled : (ds : List Decl) (p : Program) → IsPassed ds → HasDeclared ds p → HasStates p
declarations_filled ds p passed has = declarations_say ds p passed has IsFilled (listed_filled (file_of ds))
