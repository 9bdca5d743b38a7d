-- The rule on heads of externals, where what is abstract in a result stays so.
use Rattle.std.proofs.Common.{◌≡◌, ℕ, ◌==◌, Bool, true, false, true≢false, not, ◌&&◌, ◌||◌, if◌then◌else◌, List, [], ◌∷◌, ◌++◌, length, map, Some, slice_get, refl, sym, ap, ap₂, ◌∙◌}
use Rattle.std.proofs.lemmas.List.{length-map}
use Rattle.std.specs.List.{list_any, list_all}
use Rattle.vlt_syntax.specs.Tree as s
use Rattle.vlt_syntax.specs.Tree.{Name, Named, Entry, ResultType, Parameter, Head, Ty, Decl}
use Rattle.vlt_syntax.specs.Lists.{Each}
use Rattle.vlt_core.specs.Core as core
use Rattle.vlt_core.specs.Core.{CaseDecl}
use Rattle.vlt_core.specs.Lookups.{cases_in}
use Rattle.vlt_core.specs.declared.rules.TheConstants as rule
use Rattle.vlt_link_laws.specs.CoreMoves.Moves.{Moves, moved_ty, moved_case}
use Rattle.vlt_kinds_types.specs.Names.Refusals.{refuse_if, of_each}
use Rattle.vlt_kinds_types.specs.Names.Along.{along}
use Rattle.vlt_kinds_types.specs.Files.{shape_named}
use Rattle.vlt_kinds_types.specs.Types.{is_variant, sort_in, shape_in, header_in, ty_place, ty_refused, named_refused, owned_refused}
use Rattle.vlt_kinds_types.specs.Kinds.{Kinds}
use Rattle.vlt_kinds_heads.specs.Places.{clause_in, entry_key, is_fresh}
use Rattle.vlt_kinds_heads.specs.Keys.{Keys, keys_of}
use Rattle.vlt_kinds_heads.specs.Heads.{types_refused, result_type_refused, parameter_refused, head_refused}
use Rattle.vlt_kinds_heads.specs.Phase.{extern_refused, heads_refused_in}
use Rattle.vlt_kinds_heads.specs.Externals.{is_wrong_parameter, host_parameter_refused, is_host_payload, has_host_payload, variant_cases, cases_named, is_no_abstract, is_struct, is_wrong_variant, is_wrong_result, lists_position, case_argument_refused, next_position, case_arguments_refused, fitting_refused, arguments_refused, result_arguments_refused, host_ty_refused, host_result_refused, host_entry_refused, external_refused}
use Rattle.vlt_link_laws.specs.Moves.Sees.{Sees, moved_wanted}
use Rattle.vlt_link_laws.proofs.OfMoves.Empty.{no_left, no_right, none_of_both, not_broken, quiet}
use Rattle.vlt_link_laws.proofs.OfMoves.Named.{Known, named_known, same_variant}
use Rattle.vlt_link_laws.proofs.OfMoves.Heads.{moved_keys, facts_move, head_keys_move}
use Rattle.vlt_link_laws.proofs.Parts.{IsHosted, Stays, PayloadStays, TyStays, ResultStays, HostStays}
use Rattle.vlt_link_laws.proofs.Headed.{head_types}

module _ (m : Moves) (a b : Kinds) (sees : Sees m a b) (cases : (t : ℕ) → cases_in (slice_get b.types (m.types t)) ≡ map (moved_case m) (cases_in (slice_get a.types t))) where
  -- ---- parameters

  wrong_same : (t : Ty) (n : Name) → Known m a b sees n → is_wrong_parameter t (sort_in (shape_named b.file n)) ≡ is_wrong_parameter t (sort_in (shape_named a.file n))
  wrong_same t n k =
      ap (λ o. is_wrong_parameter t (sort_in o)) k.shaped_there ∙
      (by t (same_variant m a b sees k.shape.sort k.is.shape.sort k.is.sort) ∙ sym (ap (λ o. is_wrong_parameter t (sort_in o)) k.shaped))
    where
      by : (t : Ty) → is_variant k.is.shape.sort ≡ is_variant k.shape.sort → is_wrong_parameter t (Some k.is.shape.sort) ≡ is_wrong_parameter t (Some k.shape.sort)
      by (s.int at) e = refl
      by (s.bool at) e = refl
      by (s.tracked j n at) e = refl
      by (s.owning ss n at) e = e
      by (s.guarded j n) e = refl
      by (s.plain n) e = e

  wrong_parameter : (t : Ty) → ty_refused a.file t ≡ [] → is_wrong_parameter t (sort_in (shape_in b.file t)) ≡ is_wrong_parameter t (sort_in (shape_in a.file t))
  unfolding shape_in owned_refused
  wrong_parameter (s.int at) none = refl
  wrong_parameter (s.bool at) none = refl
  wrong_parameter (s.tracked k n at) none = wrong_same (s.tracked k n at) n.name (named_known m a b sees (s.tracked k n at) n none)
  wrong_parameter (s.owning ss n at) none = wrong_same (s.owning ss n at) n.name (named_known m a b sees (s.owning ss n at) n (no_left (named_refused (shape_named a.file n.name) (s.owning ss n at) n) _ none))
  wrong_parameter (s.guarded k n) none = wrong_same (s.guarded k n) n.name (named_known m a b sees (s.guarded k n) n none)
  wrong_parameter (s.plain n) none = wrong_same (s.plain n) n.name (named_known m a b sees (s.plain n) n none)

  parameters_fine : (ps : List Parameter) → of_each (parameter_refused a.file) ps ≡ [] → of_each (host_parameter_refused a.file) ps ≡ [] → of_each (host_parameter_refused b.file) ps ≡ []
  unfolding host_parameter_refused
  parameters_fine [] types none = refl
  parameters_fine (p ∷ ps) types none =
      none_of_both _ _
      (ap (λ x. refuse_if x rule.EXTERN_HEAD (ty_place p.ty)) (wrong_parameter p.ty (no_left (ty_refused a.file p.ty) _ types)) ∙ no_left (host_parameter_refused a.file p) _ none)
      (parameters_fine ps (no_right (ty_refused a.file p.ty) _ types) (no_right (host_parameter_refused a.file p) _ none))

  -- ---- clauses

  entry_same : (ks : Keys) (e : Entry) → host_entry_refused (moved_keys m ks) e ≡ host_entry_refused ks e
  unfolding host_entry_refused
  entry_same ks e = ap (λ f. refuse_if (not (is_fresh e || f.is_tracked_parameter)) rule.EXTERN_HEAD (entry_key e).at.from) (facts_move m ks (entry_key e).text)

  entries_same : (ks : Keys) (es : List Entry) → of_each (host_entry_refused (moved_keys m ks)) es ≡ of_each (host_entry_refused ks) es
  entries_same ks [] = refl
  entries_same ks (e ∷ es) = ap₂ (λ x y. x ++ y) (entry_same ks e) (entries_same ks es)

  -- ---- results

  pub cases_move : (n : Named) → Known m a b sees n.name → cases_named b.file b.types n ≡ map (moved_case m) (cases_named a.file a.types n)
  unfolding cases_named
  cases_move n k = ap (variant_cases b.types) k.named_there ∙ (cases k.type ∙ sym (ap (λ o. map (moved_case m) (variant_cases a.types o)) k.named))

  and_both : (x y : Bool) → (x && y) ≡ true → (x ≡ true) × (y ≡ true)
  and_both true y e = (refl, e)
  and_both false y e = absurd (true≢false (sym e))

  payload_goes : (t : core.Ty) → Stays m a b t → is_host_payload a.types t ≡ true → is_host_payload b.types (moved_ty m t) ≡ true
  payload_goes core.int stays e = refl
  payload_goes core.bool stays e = refl
  payload_goes (core.tracked k t args) stays e = e
  payload_goes (core.owning ss t args) stays e = stays e
  payload_goes (core.guarded k t args) stays e = e
  payload_goes (core.variant t args) stays e = e
  payload_goes (core.owning_variant t args) stays e = e

  payloads_go : (ts : List core.Ty) → Each (Stays m a b) ts → list_all (is_host_payload a.types) ts ≡ true → list_all (is_host_payload b.types) (map (moved_ty m) ts) ≡ true
  payloads_go [] stays e = refl
  payloads_go (t ∷ ts) stays e =
      let h = and_both (is_host_payload a.types t) _ e in
      ap₂ (λ x y. x && y) (payload_goes t stays.0 h.0) (payloads_go ts stays.1 h.1)

  cases_go : (cs : List CaseDecl) → Each (λ c. Each (Stays m a b) c.payload) cs → list_all (has_host_payload a.types) cs ≡ true → list_all (has_host_payload b.types) (map (moved_case m) cs) ≡ true
  cases_go [] stays e = refl
  cases_go (c ∷ cs) stays e =
      let h = and_both (has_host_payload a.types c) _ e in
      ap₂ (λ x y. x && y) (payloads_go c.payload stays.0 h.0) (cases_go cs stays.1 h.1)

  not_wrong : (x : Bool) → not x ≡ false → x ≡ true
  not_wrong true e = refl
  not_wrong false e = absurd (true≢false e)

  variant_goes : (n : Named) → Known m a b sees n.name → PayloadStays m a b n → is_wrong_variant a.file a.types n ≡ false → is_wrong_variant b.file b.types n ≡ false
  unfolding is_wrong_variant
  variant_goes n k stays e =
      ap (λ cs. not (list_all (has_host_payload b.types) cs)) (cases_move n k) ∙
      ap not (cases_go (cases_named a.file a.types n) stays (not_wrong (list_all (has_host_payload a.types) (cases_named a.file a.types n)) e))

  or_none : (x y : Bool) → (x || y) ≡ false → (x ≡ false) × (y ≡ false)
  or_none true y e = absurd (true≢false e)
  or_none false y e = (refl, e)

  result_goes : (ks : Keys) (t : Ty) → ty_refused a.file t ≡ [] → TyStays m a b t → is_wrong_result a.file a.types ks t ≡ false → is_wrong_result b.file b.types (moved_keys m ks) t ≡ false
  unfolding owned_refused
  result_goes ks (s.int at) none stays e = refl
  result_goes ks (s.bool at) none stays e = refl
  result_goes ks (s.tracked k n at) none stays e =
      ap₂ (λ f o. not f.is_fresh || is_no_abstract o) (facts_move m ks k.text) stays ∙ e
  result_goes ks (s.owning ss n at) none stays e =
      let h = or_none (is_struct (sort_in (shape_named a.file n.name))) (is_wrong_variant a.file a.types n) e in
      ap₂ (λ x y. x || y) (ap is_struct stays.0 ∙ h.0)
      (variant_goes n (named_known m a b sees (s.owning ss n at) n (no_left (named_refused (shape_named a.file n.name) (s.owning ss n at) n) _ none)) stays.1 h.1)
  result_goes ks (s.guarded k n) none stays e = e
  result_goes ks (s.plain n) none stays e = variant_goes n (named_known m a b sees (s.plain n) n none) stays e

  -- ---- the keys that a case lists

  positions_same : (cs : List CaseDecl) (i : ℕ) → lists_position (map (moved_case m) cs) i ≡ lists_position cs i
  positions_same [] i = refl
  positions_same (c ∷ cs) i = ap (λ x. list_any (λ k. k.position == i) c.keys || x) (positions_same cs i)

  arguments_same : (ks : Keys) (cs : List CaseDecl) (i : ℕ) (ns : List Name) →
      along next_position (case_argument_refused (moved_keys m ks) (map (moved_case m) cs)) i ns ≡ along next_position (case_argument_refused ks cs) i ns
  unfolding case_argument_refused
  arguments_same ks cs i [] = refl
  arguments_same ks cs i (n ∷ ns) =
      ap₂ (λ x y. x ++ y)
      (ap₂ (λ x f. refuse_if (x && not f.is_tracked_parameter) rule.EXTERN_HEAD n.at.from) (positions_same cs i) (facts_move m ks n.text))
      (arguments_same ks cs (next_position i n) ns)

  fitting_same : (ks : Keys) (n : Named) → Known m a b sees n.name → arguments_refused b.file b.types (moved_keys m ks) n ≡ arguments_refused a.file a.types ks n
  unfolding arguments_refused fitting_refused
  fitting_same ks n k =
      ap₂ (λ (l : ℕ) cs. if length n.keys == l then case_arguments_refused (moved_keys m ks) cs n.keys else [])
      (ap (λ o. length (header_in o)) k.shaped_there ∙ (ap length k.is.header ∙ (length-map k.shape.header (moved_wanted m) ∙ sym (ap (λ o. length (header_in o)) k.shaped))))
      (cases_move n k) ∙
      ap (λ rs. if length n.keys == length (header_in (shape_named a.file n.name)) then rs else []) (arguments_same ks (cases_named a.file a.types n) 0 n.keys)

  result_arguments_same : (ks : Keys) (t : Ty) → ty_refused a.file t ≡ [] → result_arguments_refused b.file b.types (moved_keys m ks) t ≡ result_arguments_refused a.file a.types ks t
  unfolding owned_refused
  result_arguments_same ks (s.int at) none = refl
  result_arguments_same ks (s.bool at) none = refl
  result_arguments_same ks (s.tracked k n at) none = refl
  result_arguments_same ks (s.owning ss n at) none = fitting_same ks n (named_known m a b sees (s.owning ss n at) n (no_left (named_refused (shape_named a.file n.name) (s.owning ss n at) n) _ none))
  result_arguments_same ks (s.guarded k n) none = refl
  result_arguments_same ks (s.plain n) none = fitting_same ks n (named_known m a b sees (s.plain n) n none)

  results_fine : (ks : Keys) (r : ResultType) → result_type_refused a.file r ≡ [] → ResultStays m a b r → host_result_refused a.file a.types ks r ≡ [] → host_result_refused b.file b.types (moved_keys m ks) r ≡ []
  unfolding host_ty_refused
  results_fine ks (s.void at) types stays none = refl
  results_fine ks (s.value t) types stays none =
      none_of_both _ _
      (quiet (is_wrong_result b.file b.types (moved_keys m ks) t) rule.EXTERN_HEAD (ty_place t)
      (result_goes ks t types stays (not_broken (is_wrong_result a.file a.types ks t) rule.EXTERN_HEAD (ty_place t) (no_left (refuse_if (is_wrong_result a.file a.types ks t) rule.EXTERN_HEAD (ty_place t)) _ none))))
      (result_arguments_same ks t types ∙ no_right (refuse_if (is_wrong_result a.file a.types ks t) rule.EXTERN_HEAD (ty_place t)) _ none)

  -- the rule doesn't refuse there what it doesn't here
  pub external_fine : (h : Head) → types_refused a.file h ≡ [] → ResultStays m a b h.result_type → external_refused a.file a.types h (keys_of a.file h) ≡ [] → external_refused b.file b.types h (keys_of b.file h) ≡ []
  unfolding external_refused types_refused
  external_fine h types stays none =
      let ks = keys_of a.file h in
      let back = no_right (of_each (host_parameter_refused a.file) h.parameters) _ none in
      ap (λ k. of_each (host_parameter_refused b.file) h.parameters ++ (host_result_refused b.file b.types k h.result_type ++ of_each (host_entry_refused k) (clause_in h.clause))) (head_keys_move m a b sees h types) ∙
      none_of_both _ _ (parameters_fine h.parameters (no_right (result_type_refused a.file h.result_type) _ types) (no_left (of_each (host_parameter_refused a.file) h.parameters) _ none))
      (none_of_both _ _ (results_fine ks h.result_type (no_left (result_type_refused a.file h.result_type) _ types) stays (no_left (host_result_refused a.file a.types ks h.result_type) _ back))
      (entries_same ks (clause_in h.clause) ∙ no_right (host_result_refused a.file a.types ks h.result_type) _ back))

  pub hosted : (d : Decl) → heads_refused_in a.file a.types d ≡ [] → HostStays m a b d → IsHosted b d
  unfolding extern_refused
  hosted (s.stateset n ss at) none stays = tt
  hosted (s.abstract n ss at) none stays = tt
  hosted (s.struct n ps ss fs r at) none stays = tt
  hosted (s.variant n ps cs at) none stays = tt
  hosted (s.extern h at) none stays = external_fine h (head_types a.file h (no_left (head_refused a.file h) _ none)) stays (no_right (head_refused a.file h) _ none)
  hosted (s.function h x at) none stays = tt
