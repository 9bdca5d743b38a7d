-- Heads.
use mathlib.Core.Path.{fun_ext}
use Rattle.std.proofs.Common.{◌≡◌, ℕ, Bool, true, false, cond, ◌||◌, if◌then◌else◌, List, [], ◌∷◌, ◌++◌, length, map, Option, Some, None, slice_get, option_map, unwrap_or, refl, sym, ap, ap₂, ◌∙◌}
use Rattle.std.proofs.lemmas.List.{length-map, map-append}
use Rattle.std.specs.Map.{lookup}
use Rattle.std.specs.Str.{bytes_eq}
use Rattle.indexmap.specs.IndexMap.{insert_entry}
use Rattle.vlt_syntax.specs.Tree as s
use Rattle.vlt_syntax.specs.Tree.{Entry, ResultType, Parameter, Head}
use Rattle.vlt_core.specs.Core as core
use Rattle.vlt_link_laws.specs.CoreMoves.Moves.{Moves, moved_ty, moved_key, moved_var}
use Rattle.vlt_kinds_types.specs.Names.Refusals.{of_each}
use Rattle.vlt_kinds_types.specs.declared.shapes.Shape.{Shape}
use Rattle.vlt_kinds_types.specs.declared.shapes.Wanted.{Wanted}
use Rattle.vlt_kinds_types.specs.declared.shapes.Wanted.TheVariants as wanted
use Rattle.vlt_kinds_types.specs.Files.{shape_at, state_names, number_of}
use Rattle.vlt_kinds_types.specs.Types.{KeyUse, ty_refused, ty_uses, known_states, core_ty}
use Rattle.vlt_kinds_types.specs.Kinds.{Kinds}
use Rattle.vlt_kinds_heads.specs.declared.facts.Facts.{Facts}
use Rattle.vlt_kinds_heads.specs.declared.facts.Typing.{Typing}
use Rattle.vlt_kinds_heads.specs.Places.{result_uses, parameter_uses, clause_in, entry_key}
use Rattle.vlt_kinds_heads.specs.Keys.{Keys, no_facts, facts_of, is_unknown, with_result, with_parameter, with_entry, note, following_result, after_parameters, following_entry, following_clause, places_after, typed_first, with_typing, after_typing, after_use, gives_type, after_fresh, fresh_typed, parameters_typed, typed_keys, keys_after, keys_of}
use Rattle.vlt_kinds_heads.specs.Heads.{result_type_refused, parameter_refused, types_refused}
use Rattle.vlt_kinds_heads.specs.Phase.{number_in, key_number, key_decl, typed_states, states_named, core_entry_in, core_entry, core_result, core_parameter, core_head}
use Rattle.vlt_link_laws.specs.Moves.Sees.{Sees, moved_wanted}
use Rattle.vlt_link_laws.proofs.OfMoves.Empty.{no_left, no_right}
use Rattle.vlt_link_laws.proofs.OfMoves.Named.{moved_use, uses_move, core_moves}

module _ (m : Moves) where
  abbrev pub moved_typing : Typing → Typing
  moved_typing t = record { type_id = m.types t.type_id; at = t.at }

  abbrev pub moved_facts : Facts → Facts
  moved_facts f = record f { typing = option_map moved_typing f.typing }

  abbrev pub moved_keys : Keys → Keys
  moved_keys = map (λ e. (e.0, moved_facts e.1))

  -- ---- tables

  pub looked_up : (k : List ℕ) (es : Keys) → lookup (bytes_eq k) (moved_keys es) ≡ option_map moved_facts (lookup (bytes_eq k) es)
  looked_up k [] = refl
  looked_up k (e ∷ es) = ap (λ x. cond (bytes_eq k e.0) (Some (moved_facts e.1)) x) (looked_up k es) ∙ by (bytes_eq k e.0)
    where
      by : (x : Bool) → cond x (Some (moved_facts e.1)) (option_map moved_facts (lookup (bytes_eq k) es)) ≡ option_map moved_facts (cond x (Some e.1) (lookup (bytes_eq k) es))
      by true = refl
      by false = refl

  pub facts_move : (es : Keys) (k : List ℕ) → facts_of (moved_keys es) k ≡ moved_facts (facts_of es k)
  facts_move es k =
      ap₂ (λ o n. unwrap_or o (no_facts n)) (looked_up k es) (length-map es (λ e. (e.0, moved_facts e.1))) ∙ by (lookup (bytes_eq k) es)
    where
      by : (o : Option Facts) → unwrap_or (option_map moved_facts o) (no_facts (length es)) ≡ moved_facts (unwrap_or o (no_facts (length es)))
      by None = refl
      by (Some f) = refl

  inserted : (es : Keys) (k : List ℕ) (f : Facts) → insert_entry bytes_eq (moved_keys es) k (moved_facts f) ≡ moved_keys (insert_entry bytes_eq es k f)
  inserted [] k f = refl
  inserted (e ∷ es) k f = ap (λ x. if bytes_eq k e.0 then (e.0, moved_facts f) ∷ moved_keys es else (e.0, moved_facts e.1) ∷ x) (inserted es k f) ∙ by (bytes_eq k e.0)
    where
      by : (x : Bool) → (if x then (e.0, moved_facts f) ∷ moved_keys es else (e.0, moved_facts e.1) ∷ moved_keys (insert_entry bytes_eq es k f)) ≡ moved_keys (if x then (e.0, f) ∷ es else e ∷ insert_entry bytes_eq es k f)
      by true = refl
      by false = refl

  noted : (es : Keys) (k : List ℕ) (change there : Facts → Facts) → ((f : Facts) → there (moved_facts f) ≡ moved_facts (change f)) → note (moved_keys es) k there ≡ moved_keys (note es k change)
  noted es k change there same =
      ap (insert_entry bytes_eq (moved_keys es) k) (ap there (facts_move es k) ∙ same (facts_of es k)) ∙ inserted es k (change (facts_of es k))

  -- ---- what each place tells

  same_unknown : (w : Wanted) → is_unknown (moved_wanted m w) ≡ is_unknown w
  same_unknown wanted.Any = refl
  same_unknown wanted.Unknown = refl
  same_unknown (wanted.OfType t) = refl

  pub results_after : (es : Keys) (us : List KeyUse) → following_result (moved_keys es) (map (moved_use m) us) ≡ moved_keys (following_result es us)
  results_after es [] = refl
  results_after es (u ∷ us) =
      ap (λ x. following_result x (map (moved_use m) us)) (noted es u.key (with_result u) (with_result (moved_use m u)) (λ f. refl)) ∙ results_after (note es u.key (with_result u)) us

  pub parameters_after : (es : Keys) (us : List KeyUse) → after_parameters (moved_keys es) (map (moved_use m) us) ≡ moved_keys (after_parameters es us)
  parameters_after es [] = refl
  parameters_after es (u ∷ us) =
      ap (λ x. after_parameters x (map (moved_use m) us)) (noted es u.key (with_parameter u) (with_parameter (moved_use m u)) here) ∙ parameters_after (note es u.key (with_parameter u)) us
    where
      here : (f : Facts) → with_parameter (moved_use m u) (moved_facts f) ≡ moved_facts (with_parameter u f)
      here f = ap (λ (x : Bool). let r : Facts = record f { in_parameters = true; is_tracked_parameter = f.is_tracked_parameter || u.tracked; is_left_open = f.is_left_open || x; typing = option_map moved_typing f.typing } in r) (same_unknown u.wanted)

  pub entry_after : (es : Keys) (e : Entry) → following_entry (moved_keys es) e ≡ moved_keys (following_entry es e)
  entry_after es e = noted es (entry_key e).text (with_entry e) (with_entry e) (λ f. refl)

  clause_after : (es : Keys) (cs : List Entry) → following_clause (moved_keys es) cs ≡ moved_keys (following_clause es cs)
  clause_after es [] = refl
  clause_after es (c ∷ cs) = ap (λ x. following_clause x cs) (entry_after es c) ∙ clause_after (following_entry es c) cs

  first_typed : (o : Option Typing) (t at : ℕ) → typed_first (option_map moved_typing o) (m.types t) at ≡ option_map moved_typing (typed_first o t at)
  first_typed None t at = refl
  first_typed (Some had) t at = refl

  typing_after : (es : Keys) (w : Wanted) (k : List ℕ) (at : ℕ) → after_typing (moved_keys es) (moved_wanted m w) k at ≡ moved_keys (after_typing es w k at)
  typing_after es wanted.Any k at = refl
  typing_after es wanted.Unknown k at = refl
  typing_after es (wanted.OfType t) k at =
      noted es k (with_typing t at) (with_typing (m.types t) at) (λ f. ap (λ (o : Option Typing). let r : Facts = record f { typing = o } in r) (first_typed f.typing t at))

  pub use_after : (es : Keys) (u : KeyUse) → after_use (moved_keys es) (moved_use m u) ≡ moved_keys (after_use es u)
  use_after es u = typing_after es u.wanted u.key u.at

  fresh_after : (es : Keys) (u : KeyUse) → after_fresh (moved_keys es) (moved_use m u) ≡ moved_keys (after_fresh es u)
  fresh_after es u =
      ap₂ (λ (x : Bool) y. if x then y else moved_keys es) (ap (λ f. if u.tracked then f.is_fresh else false) (facts_move es u.key)) (use_after es u) ∙ by (gives_type es u)
    where
      by : (x : Bool) → (if x then moved_keys (after_use es u) else moved_keys es) ≡ moved_keys (if x then after_use es u else es)
      by true = refl
      by false = refl

  pub fresh_move : (es : Keys) (us : List KeyUse) → fresh_typed (moved_keys es) (map (moved_use m) us) ≡ moved_keys (fresh_typed es us)
  fresh_move es [] = refl
  fresh_move es (u ∷ us) = ap (λ x. fresh_typed x (map (moved_use m) us)) (fresh_after es u) ∙ fresh_move (after_fresh es u) us

  typed_move : (es : Keys) (us : List KeyUse) → parameters_typed (moved_keys es) (map (moved_use m) us) ≡ moved_keys (parameters_typed es us)
  typed_move es [] = refl
  typed_move es (u ∷ us) = ap (λ x. parameters_typed x (map (moved_use m) us)) (use_after es u) ∙ typed_move (after_use es u) us

  pub places_move : (rs ps : List KeyUse) (cs : List Entry) → places_after (map (moved_use m) rs) (map (moved_use m) ps) cs ≡ moved_keys (places_after rs ps cs)
  unfolding places_after
  places_move rs ps cs =
      ap (λ x. following_clause (after_parameters x (map (moved_use m) ps)) cs) (results_after [] rs) ∙
      (ap (λ x. following_clause x cs) (parameters_after (following_result [] rs) ps) ∙ clause_after (after_parameters (following_result [] rs) ps) cs)

  pub keys_move : (rs ps : List KeyUse) (cs : List Entry) → keys_after (map (moved_use m) rs) (map (moved_use m) ps) cs ≡ moved_keys (keys_after rs ps cs)
  unfolding keys_after typed_keys
  keys_move rs ps cs =
      ap (λ x. parameters_typed (fresh_typed x (map (moved_use m) rs)) (map (moved_use m) ps)) (places_move rs ps cs) ∙
      (ap (λ x. parameters_typed x (map (moved_use m) ps)) (fresh_move (places_after rs ps cs) rs) ∙ typed_move (fresh_typed (places_after rs ps cs) rs) ps)

  -- ---- what a head becomes

  same_number : (es : Keys) → key_number (moved_keys es) ≡ key_number es
  same_number es = fun_ext (λ k. ap number_in (looked_up k es) ∙ by (lookup (bytes_eq k) es))
    where
      by : (o : Option Facts) → number_in (option_map moved_facts o) ≡ number_in o
      by None = refl
      by (Some f) = refl

  key_decls_move : (es : Keys) → map key_decl (moved_keys es) ≡ map (moved_key m) (map key_decl es)
  key_decls_move [] = refl
  key_decls_move (e ∷ es) = ap₂ (λ (t : Option ℕ) ds. (let r : core.KeyDecl = record { name = e.0; key_type = t } in r) ∷ ds) (by e.1.typing) (key_decls_move es)
    where
      by : (o : Option Typing) → option_map (λ t. t.type_id) (option_map moved_typing o) ≡ option_map m.types (option_map (λ t. t.type_id) o)
      by None = refl
      by (Some t) = refl

  module _ (a b : Kinds) (sees : Sees m a b) where
    pub result_uses_move : (r : ResultType) → result_type_refused a.file r ≡ [] → result_uses b.file r ≡ map (moved_use m) (result_uses a.file r)
    result_uses_move (s.void at) none = refl
    result_uses_move (s.value t) none = uses_move m a b sees t none

    pub parameter_uses_move : (ps : List Parameter) → of_each (parameter_refused a.file) ps ≡ [] → parameter_uses b.file ps ≡ map (moved_use m) (parameter_uses a.file ps)
    parameter_uses_move [] none = refl
    parameter_uses_move (p ∷ ps) none =
        ap₂ (λ x y. x ++ y) (uses_move m a b sees p.ty (no_left (ty_refused a.file p.ty) _ none)) (parameter_uses_move ps (no_right (ty_refused a.file p.ty) _ none)) ∙
        sym (map-append (moved_use m) (ty_uses a.file p.ty) (parameter_uses a.file ps))

    pub head_keys_move : (h : Head) → types_refused a.file h ≡ [] → keys_of b.file h ≡ moved_keys (keys_of a.file h)
    unfolding types_refused
    head_keys_move h none =
        ap₂ (λ rs ps. keys_after rs ps (clause_in h.clause)) (result_uses_move h.result_type (no_left (result_type_refused a.file h.result_type) _ none)) (parameter_uses_move h.parameters (no_right (result_type_refused a.file h.result_type) _ none)) ∙
        keys_move (result_uses a.file h.result_type) (parameter_uses a.file h.parameters) (clause_in h.clause)

    -- the states of a type, there or not
    pub shape_states : (t : ℕ) → state_names b.file (shape_at b.file (m.types t)) ≡ state_names a.file (shape_at a.file t)
    unfolding shape_at state_names
    shape_states t = by (slice_get a.file.shapes t) refl
      where
        by : (o : Option Shape) → slice_get a.file.shapes t ≡ o → state_names b.file (slice_get b.file.shapes (m.types t)) ≡ state_names a.file (slice_get a.file.shapes t)
        by None e = ap (state_names b.file) (sees.past t e) ∙ sym (ap (state_names a.file) e)
        by (Some x) e = let is = sees.shapes t x e in ap (state_names b.file) is.there ∙ (is.states ∙ sym (ap (state_names a.file) e))

    typed_states_same : (o : Option Typing) → typed_states b.file (option_map moved_typing o) ≡ typed_states a.file o
    typed_states_same None = refl
    typed_states_same (Some had) = shape_states had.type_id

    entry_in_same : (es : Keys) (known : Option (List (List ℕ))) (e : Entry) → core_entry_in (moved_keys es) known e ≡ core_entry_in es known e
    entry_in_same es known (s.held k) = ap (λ (n : List ℕ → ℕ). let r : core.Entry = record { mode = core.kept; key = n k.key.text; before = states_named known k.states; after = states_named known k.states } in r) (same_number es)
    entry_in_same es known (s.changed k before after) = ap (λ (n : List ℕ → ℕ). let r : core.Entry = record { mode = core.kept; key = n k.text; before = states_named known (Some before); after = states_named known (Some after) } in r) (same_number es)
    entry_in_same es known (s.bound k v b) = ap (λ (n : List ℕ → ℕ). let r : core.Entry = record { mode = core.up_to (number_of (known_states known) b); key = n k.text; before = None; after = None } in r) (same_number es)
    entry_in_same es known (s.taken k at) = ap (λ (n : List ℕ → ℕ). let r : core.Entry = record { mode = core.taken; key = n k.key.text; before = states_named known k.states; after = None } in r) (same_number es)
    entry_in_same es known (s.given k at) = ap (λ (n : List ℕ → ℕ). let r : core.Entry = record { mode = core.given; key = n k.key.text; before = None; after = states_named known k.states } in r) (same_number es)
    entry_in_same es known (s.fresh k at) = ap (λ (n : List ℕ → ℕ). let r : core.Entry = record { mode = core.fresh; key = n k.key.text; before = None; after = states_named known k.states } in r) (same_number es)

    core_entry_same : (es : Keys) (e : Entry) → core_entry b.file (moved_keys es) e ≡ core_entry a.file es e
    unfolding core_entry
    core_entry_same es e =
        ap (λ f. core_entry_in (moved_keys es) (typed_states b.file f.typing) e) (facts_move es (entry_key e).text) ∙
        (ap (λ k. core_entry_in (moved_keys es) k e) (typed_states_same (facts_of es (entry_key e).text).typing) ∙
        entry_in_same es (typed_states a.file (facts_of es (entry_key e).text).typing) e)

    core_result_moves : (es : Keys) (r : ResultType) → result_type_refused a.file r ≡ [] → core_result b.file (moved_keys es) r ≡ option_map (moved_ty m) (core_result a.file es r)
    core_result_moves es (s.void at) none = refl
    core_result_moves es (s.value t) none = ap Some (ap (λ n. core_ty b.file n t) (same_number es) ∙ core_moves m a b sees (key_number es) t none)

    core_parameters_move : (es : Keys) (ps : List Parameter) → of_each (parameter_refused a.file) ps ≡ [] → map (core_parameter b.file (moved_keys es)) ps ≡ map (moved_var m) (map (core_parameter a.file es) ps)
    core_parameters_move es [] none = refl
    core_parameters_move es (p ∷ ps) none =
        ap₂ (λ (t : core.Ty) ds. (let r : core.VarDecl = record { name = p.name.text; ty = t } in r) ∷ ds)
        (ap (λ n. core_ty b.file n p.ty) (same_number es) ∙ core_moves m a b sees (key_number es) p.ty (no_left (ty_refused a.file p.ty) _ none))
        (core_parameters_move es ps (no_right (ty_refused a.file p.ty) _ none))

    -- a head becomes the same, whether it is an external's or not
    pub record IsMovedHead (x y : core.Func) : Type 0 where
      pub result : y.result ≡ option_map (moved_ty m) x.result
      pub clause : y.clause ≡ x.clause
      pub keys : y.keys ≡ map (moved_key m) x.keys
      pub vars : y.vars ≡ map (moved_var m) x.vars

    pub head_moves : (h : Head) (was is : Bool) → types_refused a.file h ≡ [] → IsMovedHead (core_head a.file was h (keys_of a.file h)) (core_head b.file is h (keys_of b.file h))
    unfolding core_head types_refused
    head_moves h was is none =
        let ks = head_keys_move h none in
        record {
          result = ap (λ k. core_result b.file k h.result_type) ks ∙ core_result_moves (keys_of a.file h) h.result_type (no_left (result_type_refused a.file h.result_type) _ none);
          clause = ap (λ k. map (core_entry b.file k) (clause_in h.clause)) ks ∙ ap (λ (g : Entry → core.Entry). map g (clause_in h.clause)) (fun_ext (core_entry_same (keys_of a.file h)));
          keys = ap (map key_decl) ks ∙ key_decls_move (keys_of a.file h);
          vars = ap (λ k. map (core_parameter b.file k) h.parameters) ks ∙ core_parameters_move (keys_of a.file h) h.parameters (no_right (result_type_refused a.file h.result_type) _ none);
        }
