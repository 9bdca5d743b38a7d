-- Heads of externals, and that of `main`.
use Rattle.std.proofs.Common.{◌≡◌, ℕ, zero, suc, ◌+◌, Bool, true, false, true≢false, not, ◌&&◌, ◌||◌, ◌==◌, if◌then◌else◌, List, [], ◌∷◌, ◌++◌, map, length, codes, Option, Some, None, slice_get, option_map, ◌⊎◌, inl, inr, ⊎_elim, refl, sym, ap, ap₂, ◌∙◌, subst, arith}
use Rattle.std.specs.List.{list_any, list_all, flat_map}
use Rattle.std.specs.Str.{bytes_eq}
use Rattle.std.proofs.lemmas.Bool.{or_cases, or_left, or_right, and_parts, and_from, or_parts, eqb-true, eq-eqb, not-false}
use Rattle.std.proofs.lemmas.List.{length-map, map-append}
use Rattle.std.proofs.lemmas.List.Folds.{list_any-append}
use Rattle.std.proofs.lemmas.Option.{none-some, same_Some, slice_get-map}
use Rattle.vlt_syntax.specs.Tree as s
use Rattle.vlt_syntax.specs.Tree.{Name, Named, Entry, Head, Parameter, ResultType}
use Rattle.vlt_syntax.specs.Lists.{Each}
use Rattle.vlt_core.specs.Core as core
use Rattle.vlt_core.specs.Core.{CaseKey, CaseDecl, TypeDecl, an_abstract, a_struct, a_variant, Func, Program}
use Rattle.vlt_core.specs.Lookups.{is_new, cases_in, cases_of}
use Rattle.vlt_core.specs.Types as c
use Rattle.vlt_core.specs.Types.{decl_of, is_abstract}
use Rattle.vlt_core.specs.KindedHeads.{Rules, unless, when_some, has, own_typings, is_external_parameter, tracked_keys, is_external_payload, external_case_broken, external_result_broken, is_declared_result, external_broken, is_main_head}
use Rattle.vlt_core.specs.declared.rules.TheConstants as rule
use Rattle.vlt_kinds_types.specs.Names.Refusals.{refuse_if, of_each}
use Rattle.vlt_kinds_types.specs.Names.Along.{along}
use Rattle.vlt_kinds_types.specs.Files.{File, type_named, shape_named, state_names, variant_sort}
use Rattle.vlt_kinds_types.specs.Types as k
use Rattle.vlt_kinds_types.specs.Types.{named_uses, ty_uses, ty_refused, ty_place, sort_in, shape_in, is_variant, is_variant_in, type_number, key_numbers, owned_refused, owned_ty, core_ty, states_listed}
use Rattle.vlt_kinds_heads.specs.Places.{parameter_uses, clause_in, entry_key}
use Rattle.vlt_kinds_heads.specs.Keys.{Keys, facts_of}
use Rattle.vlt_kinds_heads.specs.Heads.{result_type_refused, parameter_refused, is_main_clause, has_none, main_refused}
use Rattle.vlt_kinds_heads.specs.Externals as e
use Rattle.vlt_kinds_heads.specs.Externals.{is_wrong_parameter, host_parameter_refused, is_host_payload, has_host_payload, variant_cases, cases_named, is_no_abstract, is_wrong_variant, is_wrong_result, lists_position, case_argument_refused, next_position, case_arguments_refused, fitting_refused, arguments_refused, result_arguments_refused, host_ty_refused, host_result_refused, host_entry_refused, external_refused}
use Rattle.vlt_kinds_heads.specs.Phase.{key_number, core_entry, core_result}
use Rattle.vlt_resolve_laws.specs.KindsLaws.Shapes.{lists_keys, has_owners, core_sort, header_wanted, Describes, HasHeaders}
use Rattle.vlt_resolve_laws.proofs.OfKindsLaws.Empty.{no_left, no_right, none_of_both, none_of_each, not_broken, holds, none_in_each}
use Rattle.vlt_resolve_laws.proofs.OfKindsLaws.Written.{IsWritten, written, variant_is, plain_copied, number_is}
use Rattle.vlt_resolve_laws.proofs.OfKindsLaws.Parts.{each_both, each_other}
use Rattle.vlt_resolve_laws.proofs.OfKindsLaws.Fields.{named_free}
use Rattle.vlt_resolve_laws.proofs.OfKindsLaws.Cases.{each_mapped}
use Rattle.vlt_resolve_laws.proofs.OfKindsLaws.Folds.{SomeOf}
use Rattle.vlt_resolve_laws.proofs.OfKindsLaws.Known.{key_of, from_each, tracked_from}
use Rattle.vlt_resolve_laws.proofs.OfKindsLaws.Places.{results, parameters, entries, table, IsPassed}
use Rattle.vlt_resolve_laws.proofs.OfKindsLaws.Core.{entry_number, entry_new, IsFunc, parameters_are, fresh_has}

-- ---- sorts

abstract_is : (d : TypeDecl) → is_no_abstract (Some (core_sort d)) ≡ false → is_abstract (Some d) ≡ true
abstract_is (an_abstract n ss) e = refl
abstract_is (a_struct d) e = absurd (true≢false e)
abstract_is (a_variant d) e = absurd (true≢false (sym (by (lists_keys d.cases) (has_owners d.cases)) ∙ e))
  where
    by : (a b : Bool) → is_no_abstract (Some (variant_sort a b false)) ≡ true
    by true b = refl
    by false true = refl
    by false false = refl

neither_is : (d : TypeDecl) → e.is_struct (Some (core_sort d)) ≡ false → c.is_variant (Some d) ≡ false → is_abstract (Some d) ≡ true
neither_is (an_abstract n ss) e v = refl
neither_is (a_struct d) e v = absurd (true≢false e)
neither_is (a_variant d) e v = absurd (true≢false v)

if_only : (b : Bool) (rules : Rules) → rules ≡ [] → (if b then rules else []) ≡ []
if_only true rules e = e
if_only false rules e = refl

some_split : {A : Type 0} (P : A → Type 0) (xs ys : List A) → SomeOf P (xs ++ ys) → SomeOf P xs ⊎ SomeOf P ys
some_split P [] ys some = inr some
some_split P (x ∷ xs) ys some = ⊎_elim (λ a. inl (inl a)) (λ b. ⊎_elim (λ l. inl (inr l)) (λ r. inr r) (some_split P xs ys b)) some

-- ---- cases

listed_in : (cs : List CaseDecl) → Each (λ d. (i : ℕ) → list_any (λ k. k.position == i) d.keys ≡ true → lists_position cs i ≡ true) cs
listed_in [] = tt
listed_in (d ∷ cs) = (λ i e. or_left _ _ e, each_other _ _ (λ x go i e. or_right (list_any (λ k. k.position == i) d.keys) _ (go i e)) cs (listed_in cs))

keys_in : (ks : List CaseKey) → Each (λ q. list_any (λ k. k.position == q.position) ks ≡ true) ks
keys_in [] = tt
keys_in (k ∷ ks) = (or_left _ _ (eq-eqb k.position k.position refl), each_other _ _ (λ q e. or_right (k.position == q.position) _ e) ks (keys_in ks))

argument_at : (keys : Keys) (cs : List CaseDecl) (first : ℕ) (ks : List Name) (i : ℕ) (k : Name) → along next_position (case_argument_refused keys cs) first ks ≡ [] → slice_get ks i ≡ Some k
    → case_argument_refused keys cs (first + i) k ≡ []
argument_at keys cs n [] i k none at = absurd (none-some k at)
argument_at keys cs n (x ∷ ks) zero k none at =
    subst (λ j. case_argument_refused keys cs j k ≡ []) (plus_zero n) (subst (λ y. case_argument_refused keys cs n y ≡ []) (same_Some x k at) (no_left _ _ none))
  where
    plus_zero : (n : ℕ) → n ≡ n + 0
    plus_zero n = omega arith
argument_at keys cs n (x ∷ ks) (suc i) k none at =
    subst (λ j. case_argument_refused keys cs j k ≡ []) (moved n i) (argument_at keys cs (suc n) ks i k (no_right (case_argument_refused keys cs n x) _ none) at)
  where
    moved : (n i : ℕ) → suc n + i ≡ n + suc i
    moved n i = omega arith

all_in : {A : Type 0} (test : A → Bool) (xs : List A) → list_all test xs ≡ true → Each (λ x. test x ≡ true) xs
all_in test [] e = tt
all_in test (x ∷ xs) e = let both = and_parts _ _ e in (both.0, all_in test xs both.1)

payload_right : (p : Program) (ty : core.Ty) → is_host_payload p.types ty ≡ true → is_external_payload p ty ≡ true
payload_right p core.int e = refl
payload_right p core.bool e = refl
payload_right p (core.tracked k t args) e = absurd (true≢false (sym e))
payload_right p (core.guarded k t args) e = absurd (true≢false (sym e))
payload_right p (core.variant t args) e = absurd (true≢false (sym e))
payload_right p (core.owning_variant t args) e = absurd (true≢false (sym e))
payload_right p (core.owning states t args) e = by (decl_of p t) e
  where
    by : (o : Option TypeDecl) → is_abstract o ≡ true → not (c.is_struct o || c.is_variant o) ≡ true
    by None e = absurd (true≢false (sym e))
    by (Some (an_abstract n ss)) e = refl
    by (Some (a_struct d)) e = absurd (true≢false (sym e))
    by (Some (a_variant d)) e = absurd (true≢false (sym e))

-- ---- `main`

abbrev main_by : Option core.Ty → List core.Entry → Bool
main_by None [] = true
main_by (Some (core.tracked k t args)) (e ∷ []) = is_new e
main_by _ _ = false

main_clause : (file : File) (keys : Keys) (out : ResultType) (es : List Entry) → is_main_clause out es ≡ true → main_by (core_result file keys out) (map (core_entry file keys) es) ≡ true
unfolding core_entry
main_clause file keys (s.void at) [] e = refl
main_clause file keys (s.value t) [] e = absurd (true≢false (sym e))
main_clause file keys (s.value (s.tracked k n at)) (s.fresh j at2 ∷ []) e = refl
main_clause file keys (s.void at) (s.fresh j at2 ∷ []) e = absurd (true≢false (sym e))
main_clause file keys (s.value (s.int at)) (s.fresh j at2 ∷ []) e = absurd (true≢false (sym e))
main_clause file keys (s.value (s.bool at)) (s.fresh j at2 ∷ []) e = absurd (true≢false (sym e))
main_clause file keys (s.value (s.owning ss n at)) (s.fresh j at2 ∷ []) e = absurd (true≢false (sym e))
main_clause file keys (s.value (s.guarded k n)) (s.fresh j at2 ∷ []) e = absurd (true≢false (sym e))
main_clause file keys (s.value (s.plain n)) (s.fresh j at2 ∷ []) e = absurd (true≢false (sym e))
main_clause file keys out (s.held k ∷ es) e = absurd (true≢false (sym e))
main_clause file keys out (s.changed k a b ∷ es) e = absurd (true≢false (sym e))
main_clause file keys out (s.bound k v b ∷ es) e = absurd (true≢false (sym e))
main_clause file keys out (s.taken k at ∷ es) e = absurd (true≢false (sym e))
main_clause file keys out (s.given k at ∷ es) e = absurd (true≢false (sym e))
main_clause file keys out (s.fresh k at ∷ x ∷ es) e = absurd (true≢false (sym e))

none_long : {A : Type 0} (xs : List A) → has_none xs ≡ true → length xs ≡ 0
none_long [] e = refl
none_long (x ∷ xs) e = absurd (true≢false (sym e))

module _ (file : File) (p : Program) (described : Describes file p) (headers : HasHeaders p) (h : Head) (pass : IsPassed file h) (external : Bool) (f : Func)
    (func : IsFunc file (table file h) h external f) where
  abbrev keys : Keys
  keys = table file h

  abbrev number : List ℕ → ℕ
  number = key_number keys

  pub main_right : bytes_eq h.name.text (codes "main") ≡ true → is_main_head f ≡ true
  unfolding main_refused
  main_right named =
      let clean = not_broken _ rule.MAIN_HEAD h.name.at.from pass.main in
      let both = and_parts (has_none h.parameters) (is_main_clause h.result_type (clause_in h.clause)) (not-false _ (sym (ap (λ b. b && not (has_none h.parameters && is_main_clause h.result_type (clause_in h.clause))) named) ∙ clean)) in
      and_from _ _ (eq-eqb f.params 0 (func.params ∙ none_long h.parameters both.0))
      (ap₂ main_by func.result func.clause ∙ main_clause file keys h.result_type (clause_in h.clause) both.1)

  -- ---- parameters and keys of externals

  external_type : (t : s.Ty) → ty_refused file t ≡ [] → is_wrong_parameter t (sort_in (shape_in file t)) ≡ false → is_external_parameter (core_ty file number t) ≡ true
  unfolding shape_in owned_ty owned_refused
  external_type (s.int at) none right = refl
  external_type (s.bool at) none right = refl
  external_type (s.tracked k n at) none right = refl
  external_type (s.guarded k n) none right = refl
  external_type (s.plain n) none right =
      let x = written file p described (s.plain n) n none in
      let copied = plain_copied x.stood.decl n x.owned x.bare in
      absurd (true≢false (sym (ap (λ o. is_wrong_parameter (s.plain n) (sort_in o)) x.stood.shaped ∙ (variant_is x.stood.decl ∙ copied.0)) ∙ right))
  external_type (s.owning ss n at) none right =
      let x = written file p described (s.owning ss n at) n (no_left _ _ none) in
      let plain : is_variant (core_sort x.stood.decl) ≡ false = sym (ap (λ o. is_wrong_parameter (s.owning ss n at) (sort_in o)) x.stood.shaped) ∙ right in
      rw (ap (λ o. is_variant_in (sort_in o)) x.stood.shaped ∙ plain) refl

  external_parameters : (qs : List Parameter) → of_each (parameter_refused file) qs ≡ [] → of_each (host_parameter_refused file) qs ≡ []
      → flat_map (λ ty. unless (is_external_parameter ty) rule.EXTERN_HEAD) (map (λ q. core_ty file number q.ty) qs) ≡ []
  unfolding host_parameter_refused
  external_parameters [] none host = refl
  external_parameters (q ∷ qs) none host =
      none_of_both _ _ (holds _ rule.EXTERN_HEAD (external_type q.ty (no_left _ _ none) (not_broken _ rule.EXTERN_HEAD (ty_place q.ty) (no_left _ _ host))))
      (external_parameters qs (no_right (parameter_refused file q) _ none) (no_right (host_parameter_refused file q) _ host))

  own_tracked : (j : List ℕ) (t : s.Ty) → SomeOf (λ u. (j ≡ u.key) × (u.tracked ≡ true)) (ty_uses file t) → has (map (λ x. x.key) (own_typings (core_ty file number t))) (number j) ≡ true
  own_tracked j (s.int at) some = absurd some
  own_tracked j (s.bool at) some = absurd some
  own_tracked j (s.tracked k n at) some =
      ⊎_elim (λ a. or_left _ _ (eq-eqb (number k.text) (number j) (ap number (sym a.0)))) (λ b. from_each _ _ (λ u x free. absurd (true≢false (sym x.1 ∙ free))) (named_uses file n) b (named_free file n)) some
  own_tracked j (s.owning ss n at) some = from_each _ _ (λ u x free. absurd (true≢false (sym x.1 ∙ free))) (named_uses file n) some (named_free file n)
  own_tracked j (s.guarded k n) some = ⊎_elim (λ a. absurd (true≢false (sym a.1))) (λ b. from_each _ _ (λ u x free. absurd (true≢false (sym x.1 ∙ free))) (named_uses file n) b (named_free file n)) some
  own_tracked j (s.plain n) some = from_each _ _ (λ u x free. absurd (true≢false (sym x.1 ∙ free))) (named_uses file n) some (named_free file n)

  tracked_in : (j : List ℕ) (qs : List Parameter) → SomeOf (λ u. (j ≡ u.key) × (u.tracked ≡ true)) (parameter_uses file qs)
      → has (map (λ x. x.key) (flat_map own_typings (map (λ q. core_ty file number q.ty) qs))) (number j) ≡ true
  tracked_in j [] some = absurd some
  tracked_in j (q ∷ qs) some =
      ap (λ ks. has ks (number j)) (map-append (λ x. x.key) (own_typings (core_ty file number q.ty)) (flat_map own_typings (map (λ q. core_ty file number q.ty) qs)))
      ∙ (list_any-append (λ m. m == number j) (map (λ x. x.key) (own_typings (core_ty file number q.ty))) (map (λ x. x.key) (flat_map own_typings (map (λ q. core_ty file number q.ty) qs)))
      ∙ ⊎_elim (λ a. or_left _ _ (own_tracked j q.ty a)) (λ b. or_right (has (map (λ x. x.key) (own_typings (core_ty file number q.ty))) (number j)) _ (tracked_in j qs b)) (some_split _ (ty_uses file q.ty) (parameter_uses file qs) some))

  tracked_has : (j : List ℕ) → (facts_of keys j).is_tracked_parameter ≡ true → has (tracked_keys f) (number j) ≡ true
  tracked_has j e =
      ap (λ tys. has (map (λ x. x.key) (flat_map own_typings tys)) (number j)) (parameters_are file p described headers h pass external f func)
      ∙ tracked_in j h.parameters (tracked_from (results file h) (parameters file h) (entries file h) j e)

  external_entry : (x : Entry) → host_entry_refused keys x ≡ [] → unless (is_new (core_entry file keys x) || has (tracked_keys f) (core_entry file keys x).key) rule.EXTERN_HEAD ≡ []
  unfolding host_entry_refused
  external_entry x none = holds _ rule.EXTERN_HEAD
      (⊎_elim (λ a. or_left _ _ (entry_new file keys x ∙ a)) (λ b. or_right (is_new (core_entry file keys x)) _ (ap (has (tracked_keys f)) (entry_number file keys x) ∙ tracked_has (key_of x) b))
      (or_cases _ _ (not-false _ (not_broken _ rule.EXTERN_HEAD (entry_key x).at.from none))))

  -- ---- results of externals

  case_right : (n : Named) (cs : List CaseDecl) (d : CaseDecl) → case_arguments_refused keys cs n.keys ≡ [] → ((i : ℕ) → list_any (λ k. k.position == i) d.keys ≡ true → lists_position cs i ≡ true)
      → has_host_payload p.types d ≡ true → external_case_broken p f (key_numbers number n.keys) d ≡ []
  unfolding case_argument_refused
  case_right n cs d none listed payload =
      none_of_both _ _
      (none_of_each (λ ty. unless (is_external_payload p ty) rule.EXTERN_HEAD) d.payload (each_other _ _ (λ ty e. holds _ rule.EXTERN_HEAD (payload_right p ty e)) d.payload (all_in (is_host_payload p.types) d.payload payload)))
      (none_of_each (λ q. when_some (slice_get (key_numbers number n.keys) q.position) (λ k. unless (has (tracked_keys f) k) rule.EXTERN_HEAD)) d.keys
      (each_other _ _ (λ q e. ap (λ o. when_some o (λ k. unless (has (tracked_keys f) k) rule.EXTERN_HEAD)) (slice_get-map (λ k. number k.text) n.keys q.position) ∙ by q.position (listed q.position e) (slice_get n.keys q.position) refl) d.keys (keys_in d.keys)))
    where
      by : (i : ℕ) → lists_position cs i ≡ true → (o : Option Name) → slice_get n.keys i ≡ o → when_some (option_map (λ k. number k.text) o) (λ k. unless (has (tracked_keys f) k) rule.EXTERN_HEAD) ≡ []
      by i there None at = refl
      by i there (Some k) at = holds _ rule.EXTERN_HEAD (tracked_has k.text (tracked i k there at))
        where
          zero_more : (i : ℕ) → 0 + i ≡ i
          zero_more i = omega arith

          tracked : (i : ℕ) (k : Name) → lists_position cs i ≡ true → slice_get n.keys i ≡ Some k → (facts_of keys k.text).is_tracked_parameter ≡ true
          tracked i k there at =
              let clean = not_broken _ rule.EXTERN_HEAD k.at.from (subst (λ j. case_argument_refused keys cs j k ≡ []) (zero_more i) (argument_at keys cs 0 n.keys i k none at)) in
              not-false _ (sym (ap (λ b. b && not (facts_of keys k.text).is_tracked_parameter) there) ∙ clean)

  cases_right : (t : s.Ty) (n : Named) (x : IsWritten file p t n) → is_wrong_variant file p.types n ≡ false → arguments_refused file p.types keys n ≡ []
      → flat_map (external_case_broken p f (key_numbers number n.keys)) (cases_of p (type_number file n.name)) ≡ []
  unfolding is_wrong_variant arguments_refused fitting_refused cases_named
  cases_right t n x right none =
      let cases : variant_cases p.types (type_named file n.name) ≡ cases_in (Some x.stood.decl) = ap (variant_cases p.types) x.stood.named ∙ ap cases_in x.stood.there in
      let counted : (length n.keys == length (k.header_in (shape_named file n.name))) ≡ true =
      eq-eqb _ _ (sym (eqb-true _ _ x.count) ∙ (sym (length-map (c.header_in (Some x.stood.decl)) header_wanted) ∙ sym (ap (λ o. length (k.header_in o)) x.stood.shaped))) in
      let fits : case_arguments_refused keys (cases_in (Some x.stood.decl)) n.keys ≡ [] =
      sym (ap (λ cs. case_arguments_refused keys cs n.keys) cases) ∙ (sym (ap (λ b. if b then case_arguments_refused keys (variant_cases p.types (type_named file n.name)) n.keys else []) counted) ∙ none) in
      let payloads = all_in (has_host_payload p.types) (cases_in (Some x.stood.decl)) (ap (list_all (has_host_payload p.types)) (sym cases) ∙ not-false _ right) in
      ap (flat_map (external_case_broken p f (key_numbers number n.keys))) (ap (cases_of p) (number_is file p described n.name x.stood) ∙ ap cases_in x.stood.there)
      ∙ none_of_each (external_case_broken p f (key_numbers number n.keys)) (cases_in (Some x.stood.decl))
      (each_both _ _ _ (λ d listed payload. case_right n (cases_in (Some x.stood.decl)) d fits listed payload) (cases_in (Some x.stood.decl)) (listed_in (cases_in (Some x.stood.decl))) payloads)

  result_right : (t : s.Ty) → ty_refused file t ≡ [] → is_wrong_result file p.types keys t ≡ false → result_arguments_refused file p.types keys t ≡ [] → external_result_broken p f (core_ty file number t) ≡ []
  unfolding owned_ty owned_refused
  result_right (s.int at) none right args = refl
  result_right (s.bool at) none right args = refl
  result_right (s.guarded k n) none right args = absurd (true≢false right)
  result_right (s.tracked k n at) none right args =
      let x = written file p described (s.tracked k n at) n none in
      let both = or_parts _ _ right in
      holds _ rule.EXTERN_HEAD (and_from _ _
      (ap is_abstract (ap (decl_of p) (number_is file p described n.name x.stood) ∙ x.stood.there) ∙ abstract_is x.stood.decl (sym (ap (λ o. is_no_abstract (sort_in o)) x.stood.shaped) ∙ both.1))
      (fresh_has file p described headers h pass external f func k.text (not-false _ both.0)))
  result_right (s.plain n) none right args = cases_right (s.plain n) n (written file p described (s.plain n) n none) right args
  result_right (s.owning ss n at) none right args =
      by (written file p described (s.owning ss n at) n (no_left _ _ none)) (or_parts _ _ right)
    where
      by : (x : IsWritten file p (s.owning ss n at) n) → (e.is_struct (sort_in (shape_named file n.name)) ≡ false) × (is_wrong_variant file p.types n ≡ false) → external_result_broken p f (core_ty file number (s.owning ss n at)) ≡ []
      by x both = sorted (states_listed (state_names file (shape_named file n.name)) ss) (is_variant_in (sort_in (shape_named file n.name))) (ap (λ o. is_variant_in (sort_in o)) x.stood.shaped ∙ variant_is x.stood.decl)
        where
          sorted : (states : core.States) (b : Bool) → b ≡ c.is_variant (Some x.stood.decl)
              → external_result_broken p f (if b then core.owning_variant (type_number file n.name) (key_numbers number n.keys) else core.owning states (type_number file n.name) (key_numbers number n.keys)) ≡ []
          sorted states true is = cases_right (s.owning ss n at) n x both.1 args
          sorted states false is = holds _ rule.EXTERN_HEAD
              (ap is_abstract (ap (decl_of p) (number_is file p described n.name x.stood) ∙ x.stood.there) ∙ neither_is x.stood.decl (sym (ap (λ o. e.is_struct (sort_in o)) x.stood.shaped) ∙ both.0) (sym is))

  pub external_unbroken : external_refused file p.types h keys ≡ [] → external_broken p f ≡ []
  unfolding external_refused host_ty_refused
  external_unbroken none =
      let rest = no_right (of_each (host_parameter_refused file) h.parameters) _ none in
      none_of_both _ _
      (none_of_both _ _
      (ap (flat_map (λ ty. unless (is_external_parameter ty) rule.EXTERN_HEAD)) (parameters_are file p described headers h pass external f func) ∙ external_parameters h.parameters pass.types (no_left _ _ none))
      (ap (flat_map (λ x. unless (is_new x || has (tracked_keys f) x.key) rule.EXTERN_HEAD)) func.clause
      ∙ each_mapped (core_entry file keys) (λ x. unless (is_new x || has (tracked_keys f) x.key) rule.EXTERN_HEAD) (entries file h)
      (each_other _ _ external_entry (entries file h) (none_in_each (host_entry_refused keys) (entries file h) (no_right (host_result_refused file p.types keys h.result_type) _ rest)))))
      (ap (λ o. when_some o (λ ty. if is_declared_result p ty then external_result_broken p f ty else [])) func.result ∙ by h.result_type refl (no_left _ _ rest))
    where
      by : (out : ResultType) → h.result_type ≡ out → host_result_refused file p.types keys out ≡ [] → when_some (core_result file keys out) (λ ty. if is_declared_result p ty then external_result_broken p f ty else []) ≡ []
      by (s.void at) is none = refl
      by (s.value t) is none = if_only _ _ (result_right t (sym (ap (result_type_refused file) is) ∙ pass.result_type) (not_broken _ rule.EXTERN_HEAD (ty_place t) (no_left _ _ none)) (no_right (refuse_if (is_wrong_result file p.types keys t) rule.EXTERN_HEAD (ty_place t)) _ none))
