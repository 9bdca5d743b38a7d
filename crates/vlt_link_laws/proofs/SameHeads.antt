-- Heads that are the same but for their places become the same.
use mathlib.Core.Path.{fun_ext}
use Rattle.std.proofs.Common.{◌≡◌, ℕ, ◌==◌, Bool, true, false, cond, if◌then◌else◌, List, [], ◌∷◌, ◌++◌, length, map, Option, Some, None, option_map, unwrap_or, refl, sym, ap, ap₂, ◌∙◌}
use Rattle.std.proofs.lemmas.List.{length-map, map-append}
use Rattle.std.specs.Map.{lookup}
use Rattle.std.specs.Str.{bytes_eq}
use Rattle.indexmap.specs.IndexMap.{insert_entry}
use Rattle.vlt_syntax.specs.Tree as s
use Rattle.vlt_syntax.specs.Tree.{Name, Named, States, Entry, ResultType, Parameter, Head}
use Rattle.vlt_core.specs.Core as core
use Rattle.vlt_kinds_types.specs.declared.shapes.Shape.{Shape}
use Rattle.vlt_kinds_types.specs.declared.shapes.Wanted.{Wanted}
use Rattle.vlt_kinds_types.specs.declared.shapes.Wanted.TheVariants as wanted
use Rattle.vlt_kinds_types.specs.Files.{File, shape_named, state_names, state_number, number_of, wanted_type, type_named}
use Rattle.vlt_kinds_types.specs.Types.{KeyUse, key_use, tracked_use, argument_uses, header_uses, named_uses, ty_uses, core_ty, owned_ty, key_numbers, states_listed, listed_numbers, with_listed, set_of_numbers, known_states, type_number, is_variant_in, sort_in}
use Rattle.vlt_kinds_heads.specs.declared.facts.Facts.{Facts}
use Rattle.vlt_kinds_heads.specs.declared.facts.Typing.{Typing}
use Rattle.vlt_kinds_heads.specs.Places.{result_uses, parameter_uses, clause_in, entry_key}
use Rattle.vlt_kinds_heads.specs.Keys.{Keys, no_facts, facts_of, with_result, with_parameter, with_entry, note, following_result, after_parameters, following_entry, following_clause, places_after, typed_first, with_typing, after_typing, after_use, gives_type, after_fresh, fresh_typed, parameters_typed, typed_keys, keys_after, keys_of}
use Rattle.vlt_kinds_heads.specs.Phase.{number_in, key_number, key_decl, typed_states, states_named, core_entry_in, core_entry, core_result, core_parameter, core_head}
use Rattle.vlt_link_laws.proofs.Placeless.{placeless_name, placeless_names, placeless_states, placeless_named, placeless_ty, placeless_entry, placeless_result, placeless_parameter, placeless_head}

abbrev flat_typing : Typing → Typing
flat_typing t = record { type_id = t.type_id; at = 0 }

abbrev flat_facts : Facts → Facts
flat_facts f = record f { typing = option_map flat_typing f.typing }

abbrev flat_keys : Keys → Keys
flat_keys = map (λ e. (e.0, flat_facts e.1))

abbrev flat_use : KeyUse → KeyUse
flat_use u = record { key = u.key; at = 0; wanted = u.wanted; tracked = u.tracked }

-- ---- tables

looked_up : (k : List ℕ) (es : Keys) → lookup (bytes_eq k) (flat_keys es) ≡ option_map flat_facts (lookup (bytes_eq k) es)
looked_up k [] = refl
looked_up k (e ∷ es) = ap (λ x. cond (bytes_eq k e.0) (Some (flat_facts e.1)) x) (looked_up k es) ∙ by (bytes_eq k e.0)
  where
    by : (x : Bool) → cond x (Some (flat_facts e.1)) (option_map flat_facts (lookup (bytes_eq k) es)) ≡ option_map flat_facts (cond x (Some e.1) (lookup (bytes_eq k) es))
    by true = refl
    by false = refl

facts_flat : (es : Keys) (k : List ℕ) → facts_of (flat_keys es) k ≡ flat_facts (facts_of es k)
facts_flat es k =
    ap₂ (λ o n. unwrap_or o (no_facts n)) (looked_up k es) (length-map es (λ e. (e.0, flat_facts e.1))) ∙ by (lookup (bytes_eq k) es)
  where
    by : (o : Option Facts) → unwrap_or (option_map flat_facts o) (no_facts (length es)) ≡ flat_facts (unwrap_or o (no_facts (length es)))
    by None = refl
    by (Some f) = refl

inserted : (es : Keys) (k : List ℕ) (f : Facts) → insert_entry bytes_eq (flat_keys es) k (flat_facts f) ≡ flat_keys (insert_entry bytes_eq es k f)
inserted [] k f = refl
inserted (e ∷ es) k f = ap (λ x. if bytes_eq k e.0 then (e.0, flat_facts f) ∷ flat_keys es else (e.0, flat_facts e.1) ∷ x) (inserted es k f) ∙ by (bytes_eq k e.0)
  where
    by : (x : Bool) → (if x then (e.0, flat_facts f) ∷ flat_keys es else (e.0, flat_facts e.1) ∷ flat_keys (insert_entry bytes_eq es k f)) ≡ flat_keys (if x then (e.0, f) ∷ es else e ∷ insert_entry bytes_eq es k f)
    by true = refl
    by false = refl

noted : (es : Keys) (k : List ℕ) (change there : Facts → Facts) → ((f : Facts) → there (flat_facts f) ≡ flat_facts (change f)) → note (flat_keys es) k there ≡ flat_keys (note es k change)
noted es k change there same =
    ap (insert_entry bytes_eq (flat_keys es) k) (ap there (facts_flat es k) ∙ same (facts_of es k)) ∙ inserted es k (change (facts_of es k))

-- ---- what each place tells

results_after : (es : Keys) (us : List KeyUse) → following_result (flat_keys es) (map flat_use us) ≡ flat_keys (following_result es us)
results_after es [] = refl
results_after es (u ∷ us) =
    ap (λ x. following_result x (map flat_use us)) (noted es u.key (with_result u) (with_result (flat_use u)) (λ f. refl)) ∙ results_after (note es u.key (with_result u)) us

parameters_after : (es : Keys) (us : List KeyUse) → after_parameters (flat_keys es) (map flat_use us) ≡ flat_keys (after_parameters es us)
parameters_after es [] = refl
parameters_after es (u ∷ us) =
    ap (λ x. after_parameters x (map flat_use us)) (noted es u.key (with_parameter u) (with_parameter (flat_use u)) (λ f. refl)) ∙ parameters_after (note es u.key (with_parameter u)) us

entry_after : (es : Keys) (e : Entry) → following_entry (flat_keys es) (placeless_entry e) ≡ flat_keys (following_entry es e)
entry_after es (s.held k) = noted es k.key.text (with_entry (s.held k)) (with_entry (placeless_entry (s.held k))) (λ f. refl)
entry_after es (s.changed k x y) = noted es k.text (with_entry (s.changed k x y)) (with_entry (placeless_entry (s.changed k x y))) (λ f. refl)
entry_after es (s.bound k v b) = noted es k.text (with_entry (s.bound k v b)) (with_entry (placeless_entry (s.bound k v b))) (λ f. refl)
entry_after es (s.taken k at) = noted es k.key.text (with_entry (s.taken k at)) (with_entry (placeless_entry (s.taken k at))) (λ f. refl)
entry_after es (s.given k at) = noted es k.key.text (with_entry (s.given k at)) (with_entry (placeless_entry (s.given k at))) (λ f. refl)
entry_after es (s.fresh k at) = noted es k.key.text (with_entry (s.fresh k at)) (with_entry (placeless_entry (s.fresh k at))) (λ f. refl)

clause_after : (es : Keys) (cs : List Entry) → following_clause (flat_keys es) (map placeless_entry cs) ≡ flat_keys (following_clause es cs)
clause_after es [] = refl
clause_after es (c ∷ cs) = ap (λ x. following_clause x (map placeless_entry cs)) (entry_after es c) ∙ clause_after (following_entry es c) cs

first_typed : (o : Option Typing) (t at : ℕ) → typed_first (option_map flat_typing o) t 0 ≡ option_map flat_typing (typed_first o t at)
first_typed None t at = refl
first_typed (Some had) t at = refl

typing_after : (es : Keys) (w : Wanted) (k : List ℕ) (at : ℕ) → after_typing (flat_keys es) w k 0 ≡ flat_keys (after_typing es w k at)
typing_after es wanted.Any k at = refl
typing_after es wanted.Unknown k at = refl
typing_after es (wanted.OfType t) k at =
    noted es k (with_typing t at) (with_typing t 0) (λ f. ap (λ (o : Option Typing). let r : Facts = record f { typing = o } in r) (first_typed f.typing t at))

use_after : (es : Keys) (u : KeyUse) → after_use (flat_keys es) (flat_use u) ≡ flat_keys (after_use es u)
use_after es u = typing_after es u.wanted u.key u.at

fresh_after : (es : Keys) (u : KeyUse) → after_fresh (flat_keys es) (flat_use u) ≡ flat_keys (after_fresh es u)
fresh_after es u =
    ap₂ (λ (x : Bool) y. if x then y else flat_keys es) (ap (λ f. if u.tracked then f.is_fresh else false) (facts_flat es u.key)) (use_after es u) ∙ by (gives_type es u)
  where
    by : (x : Bool) → (if x then flat_keys (after_use es u) else flat_keys es) ≡ flat_keys (if x then after_use es u else es)
    by true = refl
    by false = refl

fresh_move : (es : Keys) (us : List KeyUse) → fresh_typed (flat_keys es) (map flat_use us) ≡ flat_keys (fresh_typed es us)
fresh_move es [] = refl
fresh_move es (u ∷ us) = ap (λ x. fresh_typed x (map flat_use us)) (fresh_after es u) ∙ fresh_move (after_fresh es u) us

typed_move : (es : Keys) (us : List KeyUse) → parameters_typed (flat_keys es) (map flat_use us) ≡ flat_keys (parameters_typed es us)
typed_move es [] = refl
typed_move es (u ∷ us) = ap (λ x. parameters_typed x (map flat_use us)) (use_after es u) ∙ typed_move (after_use es u) us

places_flat : (rs ps : List KeyUse) (cs : List Entry) → places_after (map flat_use rs) (map flat_use ps) (map placeless_entry cs) ≡ flat_keys (places_after rs ps cs)
unfolding places_after
places_flat rs ps cs =
    ap (λ x. following_clause (after_parameters x (map flat_use ps)) (map placeless_entry cs)) (results_after [] rs) ∙
    (ap (λ x. following_clause x (map placeless_entry cs)) (parameters_after (following_result [] rs) ps) ∙ clause_after (after_parameters (following_result [] rs) ps) cs)

keys_flat : (rs ps : List KeyUse) (cs : List Entry) → keys_after (map flat_use rs) (map flat_use ps) (map placeless_entry cs) ≡ flat_keys (keys_after rs ps cs)
unfolding keys_after typed_keys
keys_flat rs ps cs =
    ap (λ x. parameters_typed (fresh_typed x (map flat_use rs)) (map flat_use ps)) (places_flat rs ps cs) ∙
    (ap (λ x. parameters_typed x (map flat_use ps)) (fresh_move (places_after rs ps cs) rs) ∙ typed_move (fresh_typed (places_after rs ps cs) rs) ps)

-- ---- types

same_listed : (known : List (List ℕ)) (seen : List ℕ) (ns : List Name) → listed_numbers known seen (placeless_names ns) ≡ listed_numbers known seen ns
same_listed known seen [] = refl
same_listed known seen (n ∷ ns) = same_listed known (with_listed seen (state_number known n)) ns

same_states : (known : Option (List (List ℕ))) (ss : Option States) → states_listed known (option_map placeless_states ss) ≡ states_listed known ss
same_states known None = refl
same_states known (Some (s.one n)) = refl
same_states known (Some (s.several ns at)) = ap set_of_numbers (same_listed (known_states known) [] ns)

same_key_numbers : (number : List ℕ → ℕ) (ks : List Name) → key_numbers number (placeless_names ks) ≡ key_numbers number ks
same_key_numbers number [] = refl
same_key_numbers number (k ∷ ks) = ap (λ ns. number k.text ∷ ns) (same_key_numbers number ks)

plain_uses : (w : Wanted) (ks : List Name) → map (key_use w) (placeless_names ks) ≡ map flat_use (map (key_use w) ks)
plain_uses w [] = refl
plain_uses w (k ∷ ks) = ap (λ us. flat_use (key_use w k) ∷ us) (plain_uses w ks)

same_arguments : (ws : List Wanted) (ks : List Name) → argument_uses ws (placeless_names ks) ≡ map flat_use (argument_uses ws ks)
same_arguments [] ks = refl
same_arguments (w ∷ ws) [] = refl
same_arguments (w ∷ ws) (k ∷ ks) = ap (λ us. flat_use (key_use w k) ∷ us) (same_arguments ws ks)

same_header_uses : (o : Option Shape) (ks : List Name) → header_uses o (placeless_names ks) ≡ map flat_use (header_uses o ks)
same_header_uses None ks = plain_uses wanted.Unknown ks
same_header_uses (Some x) ks =
    ap (λ n. if length x.header == n then argument_uses x.header (placeless_names ks) else map (key_use wanted.Unknown) (placeless_names ks)) (length-map ks placeless_name) ∙ by (length x.header == length ks)
  where
    by : (y : Bool) → (if y then argument_uses x.header (placeless_names ks) else map (key_use wanted.Unknown) (placeless_names ks)) ≡ map flat_use (if y then argument_uses x.header ks else map (key_use wanted.Unknown) ks)
    by true = same_arguments x.header ks
    by false = plain_uses wanted.Unknown ks

module _ (file : File) where
  same_named_uses : (n : Named) → named_uses file (placeless_named n) ≡ map flat_use (named_uses file n)
  unfolding named_uses shape_named
  same_named_uses n = same_header_uses (shape_named file n.name) n.keys

  same_uses : (t : s.Ty) → ty_uses file (placeless_ty t) ≡ map flat_use (ty_uses file t)
  same_uses (s.int at) = refl
  same_uses (s.bool at) = refl
  same_uses (s.tracked k n at) = ap (λ us. flat_use (tracked_use (wanted_type (type_named file n.name)) k) ∷ us) (same_named_uses n)
  same_uses (s.owning ss n at) = same_named_uses n
  same_uses (s.guarded k n) = ap (λ us. flat_use (key_use wanted.Any k) ∷ us) (same_named_uses n)
  same_uses (s.plain n) = same_named_uses n

  same_ty : (number : List ℕ → ℕ) (t : s.Ty) → core_ty file number (placeless_ty t) ≡ core_ty file number t
  unfolding owned_ty shape_named
  same_ty number (s.int at) = refl
  same_ty number (s.bool at) = refl
  same_ty number (s.tracked k n at) = ap (core.tracked (number k.text) (type_number file n.name)) (same_key_numbers number n.keys)
  same_ty number (s.owning ss n at) =
      ap₂ (λ x ks. if is_variant_in (sort_in (shape_named file n.name)) then core.owning_variant (type_number file n.name) ks else core.owning x (type_number file n.name) ks)
      (same_states (state_names file (shape_named file n.name)) ss) (same_key_numbers number n.keys)
  same_ty number (s.guarded k n) = ap (core.guarded (number k.text) (type_number file n.name)) (same_key_numbers number n.keys)
  same_ty number (s.plain n) = ap (core.variant (type_number file n.name)) (same_key_numbers number n.keys)

  same_result_uses : (r : ResultType) → result_uses file (placeless_result r) ≡ map flat_use (result_uses file r)
  same_result_uses (s.void at) = refl
  same_result_uses (s.value t) = same_uses t

  same_parameter_uses : (ps : List Parameter) → parameter_uses file (map placeless_parameter ps) ≡ map flat_use (parameter_uses file ps)
  same_parameter_uses [] = refl
  same_parameter_uses (p ∷ ps) = ap₂ (λ x y. x ++ y) (same_uses p.ty) (same_parameter_uses ps) ∙ sym (map-append flat_use (ty_uses file p.ty) (parameter_uses file ps))

  same_clause : (c : Option (List Entry)) → clause_in (option_map (map placeless_entry) c) ≡ map placeless_entry (clause_in c)
  same_clause None = refl
  same_clause (Some es) = refl

  same_keys : (h : Head) → keys_of file (placeless_head h) ≡ flat_keys (keys_of file h)
  same_keys h =
      ap₂ (λ rs ps. keys_after rs ps (clause_in (option_map (map placeless_entry) h.clause))) (same_result_uses h.result_type) (same_parameter_uses h.parameters) ∙
      (ap (keys_after (map flat_use (result_uses file h.result_type)) (map flat_use (parameter_uses file h.parameters))) (same_clause h.clause) ∙
      keys_flat (result_uses file h.result_type) (parameter_uses file h.parameters) (clause_in h.clause))

  -- ---- what a head becomes

  same_number : (es : Keys) → key_number (flat_keys es) ≡ key_number es
  same_number es = fun_ext (λ k. ap number_in (looked_up k es) ∙ by (lookup (bytes_eq k) es))
    where
      by : (o : Option Facts) → number_in (option_map flat_facts o) ≡ number_in o
      by None = refl
      by (Some f) = refl

  key_decls_same : (es : Keys) → map key_decl (flat_keys es) ≡ map key_decl es
  key_decls_same [] = refl
  key_decls_same (e ∷ es) = ap₂ (λ (t : Option ℕ) ds. (let r : core.KeyDecl = record { name = e.0; key_type = t } in r) ∷ ds) (by e.1.typing) (key_decls_same es)
    where
      by : (o : Option Typing) → option_map (λ t. t.type_id) (option_map flat_typing o) ≡ option_map (λ t. t.type_id) o
      by None = refl
      by (Some t) = refl

  typed_states_same : (o : Option Typing) → typed_states file (option_map flat_typing o) ≡ typed_states file o
  typed_states_same None = refl
  typed_states_same (Some had) = refl

  same_named_states : (known : Option (List (List ℕ))) (ss : Option States) → states_named known (option_map placeless_states ss) ≡ states_named known ss
  same_named_states known None = refl
  same_named_states known (Some ss) = ap Some (same_states known (Some ss))

  entry_in_same : (es : Keys) (known : Option (List (List ℕ))) (e : Entry) → core_entry_in (flat_keys es) known (placeless_entry e) ≡ core_entry_in es known e
  entry_in_same es known (s.held k) = ap₂ (λ (n : List ℕ → ℕ) x. let r : core.Entry = record { mode = core.kept; key = n k.key.text; before = x; after = x } in r) (same_number es) (same_named_states known k.states)
  entry_in_same es known (s.changed k x y) =
      ap₂ (λ (n : List ℕ → ℕ) x. let r : core.Entry = record { mode = core.kept; key = n k.text; before = x; after = states_named known (Some (placeless_states y)) } in r) (same_number es) (same_named_states known (Some x)) ∙
      ap (λ y. let r : core.Entry = record { mode = core.kept; key = key_number es k.text; before = states_named known (Some x); after = y } in r) (same_named_states known (Some y))
  entry_in_same es known (s.bound k v b) = ap (λ (n : List ℕ → ℕ). let r : core.Entry = record { mode = core.up_to (number_of (known_states known) b); key = n k.text; before = None; after = None } in r) (same_number es)
  entry_in_same es known (s.taken k at) = ap₂ (λ (n : List ℕ → ℕ) x. let r : core.Entry = record { mode = core.taken; key = n k.key.text; before = x; after = None } in r) (same_number es) (same_named_states known k.states)
  entry_in_same es known (s.given k at) = ap₂ (λ (n : List ℕ → ℕ) x. let r : core.Entry = record { mode = core.given; key = n k.key.text; before = None; after = x } in r) (same_number es) (same_named_states known k.states)
  entry_in_same es known (s.fresh k at) = ap₂ (λ (n : List ℕ → ℕ) x. let r : core.Entry = record { mode = core.fresh; key = n k.key.text; before = None; after = x } in r) (same_number es) (same_named_states known k.states)

  entry_key_same : (e : Entry) → (entry_key (placeless_entry e)).text ≡ (entry_key e).text
  entry_key_same (s.held k) = refl
  entry_key_same (s.changed k x y) = refl
  entry_key_same (s.bound k v b) = refl
  entry_key_same (s.taken k at) = refl
  entry_key_same (s.given k at) = refl
  entry_key_same (s.fresh k at) = refl

  core_entry_same : (es : Keys) (e : Entry) → core_entry file (flat_keys es) (placeless_entry e) ≡ core_entry file es e
  unfolding core_entry
  core_entry_same es e =
      ap (λ k. core_entry_in (flat_keys es) (typed_states file (facts_of (flat_keys es) k).typing) (placeless_entry e)) (entry_key_same e) ∙
      (ap (λ f. core_entry_in (flat_keys es) (typed_states file f.typing) (placeless_entry e)) (facts_flat es (entry_key e).text) ∙
      (ap (λ k. core_entry_in (flat_keys es) k (placeless_entry e)) (typed_states_same (facts_of es (entry_key e).text).typing) ∙
      entry_in_same es (typed_states file (facts_of es (entry_key e).text).typing) e))

  core_clause_same : (es : Keys) (cs : List Entry) → map (core_entry file (flat_keys es)) (map placeless_entry cs) ≡ map (core_entry file es) cs
  core_clause_same es [] = refl
  core_clause_same es (c ∷ cs) = ap₂ (λ x y. x ∷ y) (core_entry_same es c) (core_clause_same es cs)

  core_result_same : (es : Keys) (r : ResultType) → core_result file (flat_keys es) (placeless_result r) ≡ core_result file es r
  core_result_same es (s.void at) = refl
  core_result_same es (s.value t) = ap Some (ap (λ n. core_ty file n (placeless_ty t)) (same_number es) ∙ same_ty (key_number es) t)

  core_parameters_same : (es : Keys) (ps : List Parameter) → map (core_parameter file (flat_keys es)) (map placeless_parameter ps) ≡ map (core_parameter file es) ps
  core_parameters_same es [] = refl
  core_parameters_same es (p ∷ ps) =
      ap₂ (λ (t : core.Ty) ds. (let r : core.VarDecl = record { name = p.name.text; ty = t } in r) ∷ ds)
      (ap (λ n. core_ty file n (placeless_ty p.ty)) (same_number es) ∙ same_ty (key_number es) p.ty) (core_parameters_same es ps)

  flat_head : (external : Bool) (h : Head) → core_head file external (placeless_head h) (keys_of file (placeless_head h)) ≡ core_head file external h (keys_of file h)
  unfolding core_head
  flat_head external h =
      ap (core_head file external (placeless_head h)) (same_keys h) ∙
      ap₂ (λ (x : Option core.Ty × List core.Entry) (y : List core.KeyDecl × List core.VarDecl × ℕ). let r : core.Func = record { name = h.name.text; external = external; result = x.0; params = y.2; clause = x.1; keys = y.0; vars = y.1; body = core.done; end = 0 } in r)
      (ap₂ (λ (x : Option core.Ty) (y : List core.Entry). (x, y)) (core_result_same (keys_of file h) h.result_type)
      (ap (map (core_entry file (flat_keys (keys_of file h)))) (same_clause h.clause) ∙ core_clause_same (keys_of file h) (clause_in h.clause)))
      (ap₂ (λ (x : List core.KeyDecl) (y : List core.VarDecl × ℕ). (x, y.0, y.1)) (key_decls_same (keys_of file h))
      (ap₂ (λ (x : List core.VarDecl) (y : ℕ). (x, y)) (core_parameters_same (keys_of file h) h.parameters) (length-map h.parameters placeless_parameter)))

  pub same_core_head : (external : Bool) (g h : Head) → placeless_head g ≡ placeless_head h → core_head file external g (keys_of file g) ≡ core_head file external h (keys_of file h)
  same_core_head external g h same = sym (flat_head external g) ∙ (ap (λ h. core_head file external h (keys_of file h)) same ∙ flat_head external h)
