-- What the rules on heads refuse, the rule on externals aside.
use Rattle.std.proofs.Common.{◌≡◌, ℕ, ◌==◌, Bool, true, false, not, ◌||◌, List, [], ◌∷◌, ◌++◌, map, Option, Some, None, slice_get, option_map, is_some, true≢false, refl, sym, ap, ap₂, ◌∙◌}
use Rattle.std.specs.Map.{lookup}
use Rattle.std.specs.Str.{bytes_eq}
use Rattle.vlt_syntax.specs.Tree as s
use Rattle.vlt_syntax.specs.Tree.{States, Entry, ResultType, Parameter, Head}
use Rattle.vlt_syntax.specs.Lists.{Each}
use Rattle.vlt_core.specs.declared.rules.TheConstants as rule
use Rattle.vlt_link_laws.specs.CoreMoves.Moves.{Moves}
use Rattle.vlt_kinds_types.specs.declared.names.found.Refusal.{Refusal}
use Rattle.vlt_kinds_types.specs.Names.Along.{along}
use Rattle.vlt_kinds_types.specs.Names.Globals.{is_global}
use Rattle.vlt_kinds_types.specs.Names.Refusals.{refuse_if, of_each}
use Rattle.vlt_kinds_types.specs.declared.shapes.Shape.{Shape}
use Rattle.vlt_kinds_types.specs.declared.shapes.Wanted.{Wanted}
use Rattle.vlt_kinds_types.specs.declared.shapes.Wanted.TheVariants as wanted
use Rattle.vlt_kinds_types.specs.Files.{shape_at}
use Rattle.vlt_kinds_types.specs.Types.{KeyUse, ty_refused, ty_uses, owned_states_refused}
use Rattle.vlt_kinds_types.specs.Kinds.{Kinds}
use Rattle.vlt_kinds_heads.specs.declared.facts.Facts.{Facts}
use Rattle.vlt_kinds_heads.specs.declared.facts.Typing.{Typing}
use Rattle.vlt_kinds_heads.specs.Places.{result_uses, parameter_uses, clause_in, entry_key, is_fresh, first_states, second_states, HeadName, used_name, entry_name, parameter_name, parameter_names, head_names}
use Rattle.vlt_kinds_heads.specs.Keys.{Keys, facts_of, following_result, after_parameters, following_entry, after_use, fresh_typed, places_after, keys_after}
use Rattle.vlt_kinds_heads.specs.Bounds.{is_key, is_parameter, is_taken, variable_refused, after_bound, variables_refused}
use Rattle.vlt_kinds_heads.specs.Heads.{result_type_refused, parameter_refused, Seen, is_repeated, with_name, name_refused, names_refused, again_refused, type_rule, clash_with, clash, result_clash_with, result_clash, result_key_refused, entry_key_refused, key_states_refused, entry_states_refused, entry_refused, types_refused, clause_again, typings_refused, result_refused, head_refused_by, head_refused}
use Rattle.vlt_link_laws.specs.Moves.Sees.{Sees, IsFree, moved_wanted}
use Rattle.vlt_link_laws.proofs.OfMoves.Empty.{no_left, no_right, none_of_both, not_broken, quiet}
use Rattle.vlt_link_laws.proofs.OfMoves.Named.{moved_use, ty_fine, uses_move, same_owned_states}
use Rattle.vlt_link_laws.proofs.OfMoves.Heads.{moved_typing, moved_facts, moved_keys, looked_up, facts_move, entry_after, use_after, results_after, parameters_after, fresh_move, places_move, keys_move, result_uses_move, parameter_uses_move}

-- the names of a head are free
abbrev pub IsFreeHead : (a b : Kinds) → List HeadName → Type 0
IsFreeHead a b = Each (λ n. IsFree a b n.text)

-- a state variable of a clause is free
abbrev pub IsFreeVariable : (a b : Kinds) → Entry → Type 0
IsFreeVariable a b (s.bound k v state) = IsFree a b v.text
IsFreeVariable a b _ = Unit {0}

neither : (x y z : Bool) → (x || y) ≡ false → (y ≡ false → z ≡ false) → (x || z) ≡ false
neither true y z e f = e
neither false y z e f = f e

still : (again g h k p : Bool) → (again || (g || (k || p))) ≡ false → (g ≡ false → h ≡ false) → (again || (h || (k || p))) ≡ false
still true g h k p e free = e
still false true h k p e free = absurd (true≢false e)
still false false h k p e free = ap (λ x. x || (k || p)) (free refl) ∙ e

module _ (m : Moves) where
  -- ---- names

  same_used : (us : List KeyUse) → map used_name (map (moved_use m) us) ≡ map used_name us
  same_used [] = refl
  same_used (u ∷ us) = ap (λ ns. used_name u ∷ ns) (same_used us)

  -- ---- 21

  again_same : (ks : Keys) (e : Entry) → again_refused (moved_keys m ks) e ≡ again_refused ks e
  unfolding again_refused
  again_same ks e = ap (λ f. refuse_if f.in_clause rule.CLAUSE_KEY_AGAIN (entry_key e).at.from) (facts_move m ks (entry_key e).text)

  entries_same : (ks : Keys) (es : List Entry) → along following_entry again_refused (moved_keys m ks) es ≡ along following_entry again_refused ks es
  entries_same ks [] = refl
  entries_same ks (e ∷ es) =
      ap₂ (λ x y. x ++ y) (again_same ks e) (ap (λ k. along following_entry again_refused k es) (entry_after m ks e) ∙ entries_same (following_entry ks e) es)

  clause_again_same : (rs ps : List KeyUse) (es : List Entry) → clause_again (map (moved_use m) rs) (map (moved_use m) ps) es ≡ clause_again rs ps es
  unfolding clause_again
  clause_again_same rs ps es =
      ap (λ k. along following_entry again_refused (after_parameters k (map (moved_use m) ps)) es) (results_after m [] rs) ∙
      (ap (λ k. along following_entry again_refused k es) (parameters_after m (following_result [] rs) ps) ∙ entries_same (after_parameters (following_result [] rs) ps) es)

  module _ (apart : (t u : ℕ) → (m.types t == m.types u) ≡ (t == u)) where
    -- ---- 18, 20

    clash_with_same : (o : Option Typing) (w : Wanted) (tr : Bool) (at : ℕ) → clash_with (option_map (moved_typing m) o) (moved_wanted m w) tr at ≡ clash_with o w tr at
    clash_with_same None wanted.Any tr at = refl
    clash_with_same None wanted.Unknown tr at = refl
    clash_with_same None (wanted.OfType t) tr at = refl
    clash_with_same (Some had) wanted.Any tr at = refl
    clash_with_same (Some had) wanted.Unknown tr at = refl
    clash_with_same (Some had) (wanted.OfType t) tr at = ap (λ x. refuse_if (not x) (type_rule tr) at) (apart had.type_id t)

    clash_same : (ks : Keys) (u : KeyUse) → clash (moved_keys m ks) (moved_use m u) ≡ clash ks u
    unfolding clash
    clash_same ks u = ap (λ f. clash_with f.typing (moved_wanted m u.wanted) u.tracked u.at) (facts_move m ks u.key) ∙ clash_with_same (facts_of ks u.key).typing u.wanted u.tracked u.at

    clashes_same : (ks : Keys) (us : List KeyUse) → along after_use clash (moved_keys m ks) (map (moved_use m) us) ≡ along after_use clash ks us
    clashes_same ks [] = refl
    clashes_same ks (u ∷ us) =
        ap₂ (λ x y. x ++ y) (clash_same ks u) (ap (λ k. along after_use clash k (map (moved_use m) us)) (use_after m ks u) ∙ clashes_same (after_use ks u) us)

    typings_same : (places : Keys) (rs ps : List KeyUse) → typings_refused (moved_keys m places) (map (moved_use m) rs) (map (moved_use m) ps) ≡ typings_refused places rs ps
    unfolding typings_refused
    typings_same places rs ps = ap (λ k. along after_use clash k (map (moved_use m) ps)) (fresh_move m places rs) ∙ clashes_same (fresh_typed places rs) ps

    result_with_same : (f : Facts) (o : Option Typing) (w : Wanted) (tr : Bool) (at : ℕ) →
        result_clash_with (moved_facts m f) (option_map (moved_typing m) o) (moved_wanted m w) tr at ≡ result_clash_with f o w tr at
    result_with_same f None wanted.Any tr at = refl
    result_with_same f None wanted.Unknown tr at = refl
    result_with_same f None (wanted.OfType t) tr at = refl
    result_with_same f (Some had) wanted.Any tr at = refl
    result_with_same f (Some had) wanted.Unknown tr at = refl
    result_with_same f (Some had) (wanted.OfType t) true at = ap (λ x. refuse_if (not x) (type_rule true) had.at) (apart had.type_id t)
    result_with_same f (Some had) (wanted.OfType t) false at = ap (λ x. refuse_if (not x) (type_rule false) at) (apart had.type_id t)

    result_clash_same : (ks : Keys) (u : KeyUse) → result_clash (moved_keys m ks) (moved_use m u) ≡ result_clash ks u
    unfolding result_clash
    result_clash_same ks u =
        ap (λ f. result_clash_with f f.typing (moved_wanted m u.wanted) u.tracked u.at) (facts_move m ks u.key) ∙ result_with_same (facts_of ks u.key) (facts_of ks u.key).typing u.wanted u.tracked u.at

    result_key_same : (ks : Keys) (u : KeyUse) → result_key_refused (moved_keys m ks) (moved_use m u) ≡ result_key_refused ks u
    unfolding result_key_refused
    result_key_same ks u = ap (λ f. refuse_if (not (f.is_fresh || f.in_parameters)) rule.RESULT_KEY u.at) (facts_move m ks u.key)

    each_use : (go there : KeyUse → List Refusal) → ((u : KeyUse) → there (moved_use m u) ≡ go u) → (us : List KeyUse) → of_each there (map (moved_use m) us) ≡ of_each go us
    each_use go there same [] = refl
    each_use go there same (u ∷ us) = ap₂ (λ x y. x ++ y) (same u) (each_use go there same us)

    result_same : (ks : Keys) (rs : List KeyUse) → result_refused (moved_keys m ks) (map (moved_use m) rs) ≡ result_refused ks rs
    unfolding result_refused
    result_same ks rs =
        ap₂ (λ x y. x ++ y) (each_use (result_clash ks) (result_clash (moved_keys m ks)) (result_clash_same ks) rs)
        (each_use (result_key_refused ks) (result_key_refused (moved_keys m ks)) (result_key_same ks) rs)

  module _ (a b : Kinds) (sees : Sees m a b) where
    -- ---- 22 to 24, 13

    pub shape_owned : (t : ℕ) (ss : Option States) → owned_states_refused b.file (shape_at b.file (m.types t)) ss ≡ owned_states_refused a.file (shape_at a.file t) ss
    unfolding shape_at owned_states_refused
    shape_owned t ss = by (slice_get a.file.shapes t) refl
      where
        by : (o : Option Shape) → slice_get a.file.shapes t ≡ o → owned_states_refused b.file (slice_get b.file.shapes (m.types t)) ss ≡ owned_states_refused a.file (slice_get a.file.shapes t) ss
        by None e = ap (λ o. owned_states_refused b.file o ss) (sees.past t e) ∙ sym (ap (λ o. owned_states_refused a.file o ss) e)
        by (Some x) e =
            let is = sees.shapes t x e in
            ap (λ o. owned_states_refused b.file o ss) is.there ∙ (same_owned_states m a b sees t x is ss ∙ sym (ap (λ o. owned_states_refused a.file o ss) e))

    states_same : (f : Facts) (o : Option Typing) (ss : Option States) → key_states_refused b.file (moved_facts m f) (option_map (moved_typing m) o) ss ≡ key_states_refused a.file f o ss
    states_same f None None = refl
    states_same f (Some had) None = refl
    states_same f None (Some ss) = refl
    states_same f (Some had) (Some ss) = shape_owned had.type_id (Some ss)

    entry_same : (ks : Keys) (e : Entry) → entry_refused b.file (moved_keys m ks) e ≡ entry_refused a.file ks e
    unfolding entry_refused entry_states_refused
    entry_same ks e =
        let f = facts_of ks (entry_key e).text in
        ap (λ f. entry_key_refused f (is_fresh e) (entry_key e).at.from ++ (key_states_refused b.file f f.typing (first_states e) ++ key_states_refused b.file f f.typing (second_states e))) (facts_move m ks (entry_key e).text) ∙
        ap₂ (λ x y. x ++ y) (by f (is_fresh e)) (ap₂ (λ x y. x ++ y) (states_same f f.typing (first_states e)) (states_same f f.typing (second_states e)))
      where
        by : (f : Facts) (x : Bool) → entry_key_refused (moved_facts m f) x (entry_key e).at.from ≡ entry_key_refused f x (entry_key e).at.from
        by f true = refl
        by f false = refl

    entries_fine : (ks : Keys) (es : List Entry) → of_each (entry_refused b.file (moved_keys m ks)) es ≡ of_each (entry_refused a.file ks) es
    entries_fine ks [] = refl
    entries_fine ks (e ∷ es) = ap₂ (λ x y. x ++ y) (entry_same ks e) (entries_fine ks es)

    -- ---- 46

    key_same : (ks : Keys) (t : List ℕ) → is_key (moved_keys m ks) t ≡ is_key ks t
    key_same ks t = ap is_some (looked_up m t ks) ∙ by (lookup (bytes_eq t) ks)
      where
        by : (o : Option Facts) → is_some (option_map (moved_facts m) o) ≡ is_some o
        by None = refl
        by (Some f) = refl

    variable_fine : (ks : Keys) (ps : List Parameter) (again : Bool) (e : Entry) → IsFreeVariable a b e → variable_refused a.file.globals ks ps again e ≡ []
        → variable_refused b.file.globals (moved_keys m ks) ps again e ≡ []
    unfolding is_taken
    variable_fine ks ps again (s.held k) free none = refl
    variable_fine ks ps again (s.changed k before after) free none = refl
    variable_fine ks ps again (s.bound k v state) free none =
        quiet (again || (is_global b.file.globals v.text || (is_key (moved_keys m ks) v.text || is_parameter ps v.text))) rule.SECOND_BOUND v.at.from
        (ap (λ x. again || (is_global b.file.globals v.text || (x || is_parameter ps v.text))) (key_same ks v.text)
        ∙ still again (is_global a.file.globals v.text) (is_global b.file.globals v.text) (is_key ks v.text) (is_parameter ps v.text)
        (not_broken (again || (is_global a.file.globals v.text || (is_key ks v.text || is_parameter ps v.text))) rule.SECOND_BOUND v.at.from none) free)
    variable_fine ks ps again (s.taken k at) free none = refl
    variable_fine ks ps again (s.given k at) free none = refl
    variable_fine ks ps again (s.fresh k at) free none = refl

    variables_fine : (ks : Keys) (ps : List Parameter) (again : Bool) (es : List Entry) → Each (IsFreeVariable a b) es → along after_bound (variable_refused a.file.globals ks ps) again es ≡ []
        → along after_bound (variable_refused b.file.globals (moved_keys m ks) ps) again es ≡ []
    variables_fine ks ps again [] free none = refl
    variables_fine ks ps again (e ∷ es) free none =
        none_of_both _ _ (variable_fine ks ps again e free.0 (no_left (variable_refused a.file.globals ks ps again e) _ none))
        (variables_fine ks ps (after_bound again e) es free.1 (no_right (variable_refused a.file.globals ks ps again e) _ none))

    -- ---- 7 to 13

    result_type_fine : (r : ResultType) → result_type_refused a.file r ≡ [] → result_type_refused b.file r ≡ []
    result_type_fine (s.void at) none = refl
    result_type_fine (s.value t) none = ty_fine m a b sees t none

    parameters_fine : (ps : List Parameter) → of_each (parameter_refused a.file) ps ≡ [] → of_each (parameter_refused b.file) ps ≡ []
    parameters_fine [] none = refl
    parameters_fine (p ∷ ps) none = none_of_both _ _ (ty_fine m a b sees p.ty (no_left (ty_refused a.file p.ty) _ none)) (parameters_fine ps (no_right (ty_refused a.file p.ty) _ none))

    types_fine : (h : Head) → types_refused a.file h ≡ [] → types_refused b.file h ≡ []
    unfolding types_refused
    types_fine h none =
        none_of_both _ _ (result_type_fine h.result_type (no_left (result_type_refused a.file h.result_type) _ none)) (parameters_fine h.parameters (no_right (result_type_refused a.file h.result_type) _ none))

    -- ---- 19

    parameter_names_same : (ps : List Parameter) → of_each (parameter_refused a.file) ps ≡ [] → parameter_names b.file ps ≡ parameter_names a.file ps
    parameter_names_same [] none = refl
    parameter_names_same (p ∷ ps) none =
        ap₂ (λ us ns. map used_name us ++ (parameter_name p ∷ ns)) (uses_move m a b sees p.ty (no_left (ty_refused a.file p.ty) _ none)) (parameter_names_same ps (no_right (ty_refused a.file p.ty) _ none)) ∙
        ap (λ ns. ns ++ (parameter_name p ∷ parameter_names a.file ps)) (same_used (ty_uses a.file p.ty))

    head_names_same : (h : Head) → types_refused a.file h ≡ [] → head_names b.file h ≡ head_names a.file h
    unfolding head_names types_refused
    head_names_same h none =
        ap₂ (λ us ns. map used_name us ++ (ns ++ map entry_name (clause_in h.clause)))
        (result_uses_move m a b sees h.result_type (no_left (result_type_refused a.file h.result_type) _ none))
        (parameter_names_same h.parameters (no_right (result_type_refused a.file h.result_type) _ none)) ∙
        ap (λ us. us ++ (parameter_names a.file h.parameters ++ map entry_name (clause_in h.clause))) (same_used (result_uses a.file h.result_type))

    names_fine : (seen : Seen) (ns : List HeadName) → IsFreeHead a b ns → along with_name (name_refused a.file.globals) seen ns ≡ [] → along with_name (name_refused b.file.globals) seen ns ≡ []
    unfolding name_refused
    names_fine seen [] free none = refl
    names_fine seen (n ∷ ns) free none =
        none_of_both _ _
        (quiet (is_repeated seen n || is_global b.file.globals n.text) rule.HEAD_NAME n.at
        (neither (is_repeated seen n) (is_global a.file.globals n.text) (is_global b.file.globals n.text)
        (not_broken (is_repeated seen n || is_global a.file.globals n.text) rule.HEAD_NAME n.at (no_left (name_refused a.file.globals seen n) _ none)) free.0))
        (names_fine (with_name seen n) ns free.1 (no_right (name_refused a.file.globals seen n) _ none))

    -- ---- a head

    pub head_fine : (h : Head) → IsFreeHead a b (head_names a.file h) → Each (IsFreeVariable a b) (clause_in h.clause) → head_refused a.file h ≡ [] → head_refused b.file h ≡ []
    unfolding types_refused head_refused_by
    head_fine h free variables none =
        let rs = result_uses a.file h.result_type in
        let ps = parameter_uses a.file h.parameters in
        let es = clause_in h.clause in
        let types = no_left (types_refused a.file h) _ none in
        let one = no_right (types_refused a.file h) _ none in
        let two = no_right (names_refused a.file.globals (head_names a.file h)) _ one in
        let three = no_right (clause_again rs ps es) _ two in
        let four = no_right (typings_refused (places_after rs ps es) rs ps) _ three in
        let five = no_right (result_refused (keys_after rs ps es) rs) _ four in
        let six = no_right (of_each (entry_refused a.file (keys_after rs ps es)) es) _ five in
        ap₂ (λ x y. head_refused_by b.file h x y)
        (result_uses_move m a b sees h.result_type (no_left (result_type_refused a.file h.result_type) _ types))
        (parameter_uses_move m a b sees h.parameters (no_right (result_type_refused a.file h.result_type) _ types)) ∙
        none_of_both _ _ (types_fine h types)
        (none_of_both _ _
        (ap (λ ns. names_refused b.file.globals ns) (head_names_same h types) ∙ names_fine [] (head_names a.file h) free (no_left (names_refused a.file.globals (head_names a.file h)) _ one))
        (none_of_both _ _ (clause_again_same rs ps es ∙ no_left (clause_again rs ps es) _ two)
        (none_of_both _ _
        (ap (λ k. typings_refused k (map (moved_use m) rs) (map (moved_use m) ps)) (places_move m rs ps es) ∙ (typings_same sees.apart (places_after rs ps es) rs ps ∙ no_left (typings_refused (places_after rs ps es) rs ps) _ three))
        (none_of_both _ _
        (ap (λ k. result_refused k (map (moved_use m) rs)) (keys_move m rs ps es) ∙ (result_same sees.apart (keys_after rs ps es) rs ∙ no_left (result_refused (keys_after rs ps es) rs) _ four))
        (none_of_both _ _
        (ap (λ k. of_each (entry_refused b.file k) es) (keys_move m rs ps es) ∙ (entries_fine (keys_after rs ps es) es ∙ no_left (of_each (entry_refused a.file (keys_after rs ps es)) es) _ five))
        (none_of_both _ _
        (ap (λ k. along after_bound (variable_refused b.file.globals k h.parameters) false es) (keys_move m rs ps es)
        ∙ variables_fine (keys_after rs ps es) h.parameters false es variables (no_left (variables_refused a.file.globals (keys_after rs ps es) h.parameters es) _ six))
        (no_right (variables_refused a.file.globals (keys_after rs ps es) h.parameters es) _ six)))))))
