-- Each bound of a clause is a state of its key's type.
use Rattle.std.proofs.Common.{◌≡◌, ℕ, nat_lt, Bool, true, false, true≢false, not, List, [], ◌∷◌, map, length, Option, Some, None, is_some, unwrap_or, option_map, slice_get, refl, sym, ap, ◌∙◌, subst, arith}
use Rattle.std.specs.List.{list_all}
use Rattle.std.specs.Str.{bytes_eq}
use Rattle.std.proofs.lemmas.Bool.{and_from, lt-ltb, not-false}
use Rattle.std.proofs.lemmas.Bool.Decides.{nat_tests}
use Rattle.std.proofs.lemmas.Option.{same_Some}
use Rattle.vlt_syntax.specs.Tree as s
use Rattle.vlt_syntax.specs.Tree.{Name, Entry, Head, Tree}
use Rattle.vlt_syntax.specs.Lists.{Each}
use Rattle.vlt_core.specs.Core.{SetDecl, TypeDecl, an_abstract, a_struct, a_variant, Func, Program}
use Rattle.vlt_core.specs.Lookups.{set_in, count_in, key_type_in, key_type}
use Rattle.vlt_core.specs.Types.{decl_of, is_variant}
use Rattle.vlt_core.specs.Kinded.{HasKindedParts}
use Rattle.vlt_core.specs.KindedHeads.{has, keys_of_parameters, given_types}
use Rattle.vlt_core.specs.declared.rules.TheConstants as rule
use Rattle.vlt_kinds_types.specs.Files.{File, then_with, states_in, state_names, state_number, number_of, shape_at}
use Rattle.vlt_kinds_types.specs.Types.{is_unknown_or_listed, known_states, states_refused, owned_states_refused}
use Rattle.vlt_kinds_heads.specs.Keys.{Keys, no_facts, facts_of, keys_of}
use Rattle.vlt_kinds_heads.specs.Heads.{first_name, key_states_refused, entry_key_refused, entry_states_refused, entry_refused}
use Rattle.vlt_kinds_heads.specs.Phase.{key_number, typed_states, core_entry}
use Rattle.vlt_kinds_heads.specs.declared.facts.Typing.{Typing}
use Rattle.vlt_kinds_types.specs.Kinds.{Kinds}
use Rattle.vlt_resolve_laws.specs.KindsLaws.Shapes.{core_shape, Describes, HasHeaders}
use Rattle.vlt_resolve_laws.specs.Made.{head_made}
use Rattle.vlt_resolve_laws.specs.Elaborated.{IsElaborated}
use Rattle.vlt_resolve_laws.proofs.OfKindsLaws.Empty.{no_left, no_right, not_broken}
use Rattle.vlt_resolve_laws.proofs.OfKindsLaws.Named.{shape_is}
use Rattle.vlt_resolve_laws.proofs.OfKindsLaws.Parts.{each_both}
use Rattle.vlt_resolve_laws.proofs.OfKindsLaws.Tables.{IsIn}
use Rattle.vlt_resolve_laws.proofs.OfKindsLaws.Folds.{typing_at}
use Rattle.vlt_resolve_laws.proofs.OfKindsLaws.Known.{key_of, entries_in}
use Rattle.vlt_resolve_laws.proofs.OfKindsLaws.Places.{results, parameters, entries, table, table_is, IsPassed, passed, closed}
use Rattle.vlt_resolve_laws.proofs.OfKindsLaws.Core.{IsFunc, func_of, Gives, key_there, in_parameters_has, gives}
use Rattle.vlt_resolve_laws.proofs.Bodies.{made_head}
use Rattle.vlt_resolve_laws.proofs.Made.{made_at}
use Rattle.vlt_resolve_laws.proofs.Whole.{facts_of as facts_elaborated}
use Rattle.cert_rows.specs.Parts.{All}
use Rattle.cert_format.specs.Bounds.{is_state_of, is_bound_known, are_bounds_known}
use Rattle.cert_text_laws.proofs.Declarations.{position_below}
use Rattle.cert_text_laws.proofs.Objects.{IsObject, given_objects}

-- ---- a name that isn't refused is a state

nothing_below : (n : ℕ) → nat_lt n 0 ≡ true → ⊥
nothing_below n less = grind (arith, nat_tests)

-- the number of the name is one of these states
abbrev IsStateIn : Option (List (List ℕ)) → Name → Type 0
IsStateIn known b = nat_lt (number_of (known_states known) b) (length (known_states known)) ≡ true

named_state : (known : Option (List (List ℕ))) (b : Name) → states_refused known (Some (s.one b)) ≡ [] → IsStateIn known b
unfolding states_refused
named_state known b none = by (state_number (known_states known) b) refl (not_broken _ rule.NOT_A_STATE b.at.from (no_left _ _ none))
  where
    by : (o : Option ℕ) → state_number (known_states known) b ≡ o → is_unknown_or_listed [] o ≡ false → nat_lt (unwrap_or o 0) (length (known_states known)) ≡ true
    by None is new = absurd (true≢false new)
    by (Some i) is new = lt-ltb i (length (known_states known)) (position_below (bytes_eq b.text) (known_states known) i is)

-- what `is_state_of` asks of a set
abbrev of_set : Program → (state : ℕ) → Option ℕ → Bool
of_set p b None = false
of_set p b (Some i) = nat_lt b (count_in (slice_get p.sets i))

module _ (file : File) (p : Program) (described : Describes file p) where
  abbrev states_of_set : Option ℕ → Option (List (List ℕ))
  states_of_set o = then_with o (λ i. states_in (slice_get file.sets i))

  set_state : (o : Option ℕ) (b : Name) → IsStateIn (states_of_set o) b → of_set p (number_of (known_states (states_of_set o)) b) o ≡ true
  set_state None b is = absurd (nothing_below (number_of [] b) is)
  set_state (Some i) b is = by (slice_get file.sets i) refl is
    where
      by : (o : Option SetDecl) → slice_get file.sets i ≡ o → IsStateIn (states_in o) b → nat_lt (number_of (known_states (states_in o)) b) (count_in (slice_get p.sets i)) ≡ true
      by None at is = absurd (nothing_below (number_of [] b) is)
      by (Some d) at is = subst (λ o. nat_lt (number_of d.states b) (count_in o) ≡ true) (sym (ap (λ ss. slice_get ss i) described.sets ∙ at)) is

  asked : (d : TypeDecl) → is_variant (Some d) ≡ false → (b : Name) → owned_states_refused file (Some (core_shape d)) (Some (s.one b)) ≡ [] → states_refused (state_names file (Some (core_shape d))) (Some (s.one b)) ≡ []
  unfolding owned_states_refused
  asked (an_abstract name set) plain b none = none
  asked (a_struct d) plain b none = none
  asked (a_variant d) plain b none = absurd (true≢false plain)

  type_state : (t : ℕ) (d : TypeDecl) → decl_of p t ≡ Some d → (b : Name) → states_refused (state_names file (Some (core_shape d))) (Some (s.one b)) ≡ []
      → is_state_of p (Some t) (number_of (known_states (state_names file (Some (core_shape d)))) b) ≡ true
  unfolding state_names
  type_state t d there b none =
      subst (λ o. of_set p (number_of (known_states (states_of_set (set_in (Some d)))) b) (set_in o) ≡ true) (sym there)
      (set_state (set_in (Some d)) b (named_state (states_of_set (set_in (Some d))) b none))

-- ---- the entries of a head that isn't refused

module _ (file : File) (p : Program) (described : Describes file p) (headers : HasHeaders p) (h : Head) (pass : IsPassed file h) (external : Bool) (f : Func)
    (func : IsFunc file (table file h) h external f) (objects : (k : ℕ) → has (keys_of_parameters f) k ≡ true → All (IsObject p) (given_types p f k)) where
  abbrev keys : Keys
  keys = table file h

  abbrev number : List ℕ → ℕ
  number = key_number keys

  key_typed : (j : List ℕ) → IsIn keys j → key_type f (number j) ≡ option_map (λ t. t.type_id) (typing_at keys j)
  key_typed j x =
      ap key_type_in (key_there file p described headers h pass external f func j x)
      ∙ ap (λ o. option_map (λ (t : Typing). t.type_id) (unwrap_or o (no_facts (length keys))).typing) (sym x.1)

  object : (t : ℕ) (ts : List ℕ) → Gives (Some t) ts → All (IsObject p) ts → IsObject p t
  object t [] given are = absurd (given.some t refl)
  object t (u ∷ us) given are = subst (IsObject p) (sym (same_Some t u given.each.0)) are.0

  bound_known : (k v b : Name) → IsIn keys k.text → entry_refused file keys (s.bound k v b) ≡ []
      → is_state_of p (key_type f (number k.text)) (number_of (known_states (typed_states file (typing_at keys k.text))) b) ≡ true
  unfolding entry_refused entry_states_refused
  bound_known k v b x none =
      by (typing_at keys k.text) refl
      (no_left (key_states_refused file (facts_of keys k.text) (typing_at keys k.text) (Some (s.one b))) _ (no_right (entry_key_refused (facts_of keys k.text) false k.at.from) _ none))
    where
      there : has (keys_of_parameters f) (number k.text) ≡ true
      there = in_parameters_has file p described headers h pass external f func k.text
          (not-false _ (not_broken (not (facts_of keys k.text).in_parameters) rule.CLAUSE_KEY_UNBOUND k.at.from (no_left (entry_key_refused (facts_of keys k.text) false k.at.from) _ none)))

      by : (o : Option Typing) → typing_at keys k.text ≡ o → key_states_refused file (facts_of keys k.text) o (Some (s.one b)) ≡ []
          → is_state_of p (key_type f (number k.text)) (number_of (known_states (typed_states file o)) b) ≡ true
      by None is none =
          absurd (true≢false (sym (ap not (closed file p described headers h pass k.text)) ∙ not_broken _ rule.STATES_UNTYPED (first_name (s.one b)) none))
      by (Some had) is none =
          let given = subst (λ o. Gives (option_map (λ t. t.type_id) o) (given_types p f (number k.text))) is (gives file p described headers h pass external f func k.text x) in
          let d = object had.type_id (given_types p f (number k.text)) given (objects (number k.text) there) in
          let shape : shape_at file had.type_id ≡ Some (core_shape d.0) = shape_is file p described had.type_id ∙ ap (option_map core_shape) d.1 in
          let state = type_state file p described had.type_id d.0 d.1 b (asked file p described d.0 d.2 b (subst (λ o. owned_states_refused file o (Some (s.one b)) ≡ []) shape none)) in
          subst (λ o. is_state_of p o (number_of (known_states (state_names file (shape_at file had.type_id))) b) ≡ true) (sym (key_typed k.text x ∙ ap (option_map (λ t. t.type_id)) is))
          (subst (λ o. is_state_of p (Some had.type_id) (number_of (known_states (state_names file o)) b) ≡ true) (sym shape) state)

  entry_known : (e : Entry) → IsIn keys (key_of e) → entry_refused file keys e ≡ [] → is_bound_known p f (core_entry file keys e).key (core_entry file keys e).mode ≡ true
  unfolding core_entry
  entry_known (s.held k) x none = refl
  entry_known (s.changed k before after) x none = refl
  entry_known (s.bound k v b) x none = bound_known k v b x none
  entry_known (s.taken k at) x none = refl
  entry_known (s.given k at) x none = refl
  entry_known (s.fresh k at) x none = refl

  all_known : (es : List Entry) → Each (λ e. is_bound_known p f (core_entry file keys e).key (core_entry file keys e).mode ≡ true) es
      → list_all (λ e. is_bound_known p f e.key e.mode) (map (core_entry file keys) es) ≡ true
  all_known [] each = refl
  all_known (e ∷ es) each = and_from _ _ each.0 (all_known es each.1)

  clause_known : are_bounds_known p f ≡ true
  clause_known =
      ap (list_all (λ e. is_bound_known p f e.key e.mode)) func.clause
      ∙ all_known (entries file h)
      (each_both _ _ _ (λ e x none. entry_known e x none) (entries file h) (entries_in (results file h) (parameters file h) (entries file h)) pass.entries_right)

-- ---- each function

pub bounds_known : (t : Tree) (kinds : Kinds) (p : Program) → IsElaborated t kinds p → HasKindedParts p → (g : ℕ) (f : Func) → slice_get p.fns g ≡ Some f → are_bounds_known p f ≡ true
bounds_known t kinds p e kinded g f at =
    let x = facts_elaborated t kinds p e in
    let m = made_at kinds kinds.heads p.fns x.functions.made g f at in
    let external = not (is_some m.body) in
    let func = func_of kinds.file (keys_of kinds.file m.head) m.head external f (made_head kinds (head_made kinds m.head m.body) m.body f m.made.walked) in
    clause_known kinds.file p x.described x.headers m.head (passed kinds.file m.head m.made.passed) external f
    (subst (λ ks. IsFunc kinds.file ks m.head external f) (table_is kinds.file m.head) func) (given_objects p kinded g f at)
