-- A head in the core: its keys by number, and the types that it gives them.
use Rattle.std.proofs.Common.{◌≡◌, ℕ, zero, suc, nat_lt, Bool, true, false, true≢false, ◌==◌, cond, List, [], ◌∷◌, ◌++◌, map, filter, take, length, Option, Some, None, slice_get, option_map, ◌⊎◌, inl, inr, ⊎_elim, refl, sym, ap, ap₂, ◌∙◌, subst}
use Rattle.std.specs.List.{flat_map}
use Rattle.std.proofs.Math.Seq.{take-append_seam}
use Rattle.std.proofs.lemmas.Bool.{or_cases, or_left, or_right, and_parts, eqb-true, eq-eqb, not-false, lt-ltb}
use Rattle.std.proofs.lemmas.List.{length-map, map-append}
use Rattle.std.proofs.lemmas.Option.{none-some, same_Some, slice_get-map, slice_get_within}
use Rattle.vlt_base.specs.declared.places.Span.{Span}
use Rattle.vlt_syntax.specs.Tree as s
use Rattle.vlt_syntax.specs.Tree.{Name, Named, Entry, Head, Parameter, ResultType}
use Rattle.vlt_syntax.specs.Lists.{Each, IsFilled}
use Rattle.vlt_core.specs.Core as core
use Rattle.vlt_core.specs.Core.{KeyDecl, VarDecl, Func, Program}
use Rattle.vlt_core.specs.Lookups.{is_new}
use Rattle.vlt_core.specs.Types.{keys_of_ty}
use Rattle.vlt_core.specs.KindedHeads.{has, parameters_of, keys_of_parameters, new_keys, Typing, own_typings, typings, types_at, given_types}
use Rattle.vlt_core.specs.declared.rules.TheConstants as rule
use Rattle.vlt_kinds_types.specs.Names.Refusals.{of_each}
use Rattle.vlt_kinds_types.specs.declared.shapes.Wanted.{Wanted}
use Rattle.vlt_kinds_types.specs.declared.shapes.Wanted.TheVariants as wanted
use Rattle.vlt_kinds_types.specs.Files.{File, type_named, wanted_type}
use Rattle.vlt_kinds_types.specs.Types.{KeyUse, named_uses, ty_uses, type_number, core_ty}
use Rattle.vlt_kinds_heads.specs.Places.{result_uses, parameter_uses, clause_in, entry_key, is_fresh}
use Rattle.vlt_kinds_heads.specs.Keys.{Keys, facts_of}
use Rattle.vlt_kinds_heads.specs.Heads.{result_type_refused, parameter_refused, is_fresh_result, entry_key_refused, entry_refused}
use Rattle.vlt_kinds_heads.specs.Phase.{key_number, key_decl, core_entry, core_result, core_parameter, core_head}
use Rattle.vlt_kinds_heads.specs.declared.facts.Typing.{Typing as Given}
use Rattle.vlt_resolve_laws.specs.KindsLaws.Shapes.{Describes, HasHeaders}
use Rattle.vlt_resolve_laws.proofs.OfKindsLaws.Empty.{no_left, no_right, not_broken}
use Rattle.vlt_resolve_laws.proofs.OfKindsLaws.Parts.{each_both}
use Rattle.vlt_resolve_laws.proofs.OfKindsLaws.Fields.{named_free}
use Rattle.vlt_resolve_laws.proofs.OfKindsLaws.Written.{written, number_is}
use Rattle.vlt_resolve_laws.proofs.OfKindsLaws.Uses.{use_numbers, typing_of, use_typings, keys_are_uses, ty_typings}
use Rattle.vlt_resolve_laws.specs.KindsLaws.Heads.{HasHead}
use Rattle.vlt_resolve_laws.proofs.OfKindsLaws.Tables.{IsIn, IsTable, stands_at}
use Rattle.vlt_resolve_laws.proofs.OfKindsLaws.Folds.{SomeOf, typing_at, IsOfType, IsAsWanted}
use Rattle.vlt_resolve_laws.proofs.OfKindsLaws.Known.{key_of, some_other, from_each, is_table, parameters_all_in, entries_in, in_parameters_all, in_parameters_from, fresh_all, fresh_key_from, result_key_from}
use Rattle.vlt_resolve_laws.proofs.OfKindsLaws.Places.{results, parameters, entries, table, IsPassed, bound, results_wanted, typed_by}

-- ---- lists

pub at_left : {A : Type 0} (xs ys : List A) (i : ℕ) (x : A) → slice_get xs i ≡ Some x → slice_get (xs ++ ys) i ≡ Some x
at_left [] ys i x e = absurd (none-some x e)
at_left (y ∷ xs) ys zero x e = e
at_left (y ∷ xs) ys (suc i) x e = at_left xs ys i x e

map_twice : {A B C : Type 0} (f : A → B) (g : B → C) (xs : List A) → map g (map f xs) ≡ map (λ x. g (f x)) xs
map_twice f g [] = refl
map_twice f g (x ∷ xs) = ap (λ ys. g (f x) ∷ ys) (map_twice f g xs)

pub has_some : {A : Type 0} (number : A → ℕ) (k : ℕ) (xs : List A) → SomeOf (λ x. number x ≡ k) xs → has (map number xs) k ≡ true
has_some number k [] some = absurd some
has_some number k (x ∷ xs) some = ⊎_elim (λ a. or_left (number x == k) (has (map number xs) k) (eq-eqb (number x) k a)) (λ b. or_right (number x == k) (has (map number xs) k) (has_some number k xs b)) some

pub some_has : {A : Type 0} (number : A → ℕ) (k : ℕ) (xs : List A) → has (map number xs) k ≡ true → SomeOf (λ x. number x ≡ k) xs
some_has number k [] e = absurd (true≢false (sym e))
some_has number k (x ∷ xs) e = ⊎_elim (λ a. inl (eqb-true (number x) k a)) (λ b. inr (some_has number k xs b)) (or_cases (number x == k) (has (map number xs) k) e)

typings_joined : (number : List ℕ → ℕ) (us vs : List KeyUse) → use_typings number (us ++ vs) ≡ use_typings number us ++ use_typings number vs
typings_joined number [] vs = refl
typings_joined number (u ∷ us) vs = ap (typing_of (number u.key) u.wanted) (typings_joined number us vs) ∙ by u.wanted
  where
    by : (w : Wanted) → typing_of (number u.key) w (use_typings number us ++ use_typings number vs) ≡ typing_of (number u.key) w (use_typings number us) ++ use_typings number vs
    by wanted.Any = refl
    by wanted.Unknown = refl
    by (wanted.OfType t) = refl

pub entry_number : (file : File) (keys : Keys) (e : Entry) → (core_entry file keys e).key ≡ key_number keys (key_of e)
unfolding core_entry
entry_number file keys (s.held k) = refl
entry_number file keys (s.changed k before after) = refl
entry_number file keys (s.bound k v b) = refl
entry_number file keys (s.taken k at) = refl
entry_number file keys (s.given k at) = refl
entry_number file keys (s.fresh k at) = refl

pub entry_new : (file : File) (keys : Keys) (e : Entry) → is_new (core_entry file keys e) ≡ is_fresh e
unfolding core_entry
entry_new file keys (s.held k) = refl
entry_new file keys (s.changed k before after) = refl
entry_new file keys (s.bound k v b) = refl
entry_new file keys (s.taken k at) = refl
entry_new file keys (s.given k at) = refl
entry_new file keys (s.fresh k at) = refl

filtered_has : (test : core.Entry → Bool) (e : core.Entry) (rest : List core.Entry) (k : ℕ)
    → has (map (λ e. e.key) (cond (test e) (e ∷ filter test rest) (filter test rest))) k ≡ true
    → ((test e ≡ true) × (e.key ≡ k)) ⊎ (has (map (λ e. e.key) (filter test rest)) k ≡ true)
filtered_has test e rest k is = by (test e) refl is
  where
    by : (b : Bool) → test e ≡ b → has (map (λ e. e.key) (cond b (e ∷ filter test rest) (filter test rest))) k ≡ true
        → ((test e ≡ true) × (e.key ≡ k)) ⊎ (has (map (λ e. e.key) (filter test rest)) k ≡ true)
    by true t is = ⊎_elim (λ a. inl (t, eqb-true e.key k a)) (λ b. inr b) (or_cases (e.key == k) (has (map (λ e. e.key) (filter test rest)) k) is)
    by false t is = inr is

-- a `new` key of a clause
new_has : (file : File) (keys : Keys) (k : ℕ) (es : List Entry) → SomeOf (λ e. (key_number keys (key_of e) ≡ k) × (is_fresh e ≡ true)) es
    → has (map (λ e. e.key) (filter is_new (map (core_entry file keys) es))) k ≡ true
new_has file keys k [] some = absurd some
new_has file keys k (e ∷ es) some = by (is_new (core_entry file keys e)) refl some (new_has file keys k es)
  where
    by : (b : Bool) → is_new (core_entry file keys e) ≡ b → ((key_number keys (key_of e) ≡ k) × (is_fresh e ≡ true)) ⊎ SomeOf (λ e. (key_number keys (key_of e) ≡ k) × (is_fresh e ≡ true)) es
        → (SomeOf (λ e. (key_number keys (key_of e) ≡ k) × (is_fresh e ≡ true)) es → has (map (λ e. e.key) (filter is_new (map (core_entry file keys) es))) k ≡ true)
        → has (map (λ e. e.key) (cond b (core_entry file keys e ∷ filter is_new (map (core_entry file keys) es)) (filter is_new (map (core_entry file keys) es)))) k ≡ true
    by true is some more = ⊎_elim (λ a. or_left _ _ (eq-eqb _ k (entry_number file keys e ∙ a.0))) (λ b. or_right _ _ (more b)) some
    by false is some more = ⊎_elim (λ a. absurd (true≢false (sym a.1 ∙ (sym (entry_new file keys e) ∙ is)))) (λ b. more b) some

has_new : (file : File) (keys : Keys) (k : ℕ) (es : List Entry) → has (map (λ e. e.key) (filter is_new (map (core_entry file keys) es))) k ≡ true
    → SomeOf (λ e. (key_number keys (key_of e) ≡ k) × (is_fresh e ≡ true)) es
has_new file keys k [] is = absurd (true≢false (sym is))
has_new file keys k (e ∷ es) is =
    ⊎_elim (λ a. inl (sym (entry_number file keys e) ∙ a.1, sym (entry_new file keys e) ∙ a.0)) (λ b. inr (has_new file keys k es b))
    (filtered_has is_new (core_entry file keys e) (map (core_entry file keys) es) k is)

-- ---- the function of a head

pub record IsFunc (file : File) (keys : Keys) (h : Head) (external : Bool) (f : Func) : Type 0 where
  pub external_is : f.external ≡ external
  pub result : f.result ≡ core_result file keys h.result_type
  pub params : f.params ≡ length h.parameters
  pub clause : f.clause ≡ map (core_entry file keys) (clause_in h.clause)
  pub more_keys : List KeyDecl
  pub keys_are : f.keys ≡ map key_decl keys ++ more_keys
  pub more_vars : List VarDecl
  pub vars : f.vars ≡ map (core_parameter file keys) h.parameters ++ more_vars

abbrev pub func_of : (file : File) (keys : Keys) (h : Head) (external : Bool) (f : Func) → HasHead (core_head file external h keys) f → IsFunc file keys h external f
unfolding core_head
func_of file keys h external f head = record {
  external_is = head.external;
  result = head.result;
  params = head.params;
  clause = head.clause;
  more_keys = head.more_keys;
  keys_are = head.keys;
  more_vars = head.more_vars;
  vars = head.vars;
}

-- a key's type and the types that it is given: each is that type, and there is one where it has one
pub record Gives (type : Option ℕ) (given : List ℕ) : Type 0 where
  pub each : Each (λ t. type ≡ Some t) given
  pub some : (t : ℕ) → type ≡ Some t → IsFilled given

module _ (file : File) (p : Program) (described : Describes file p) (headers : HasHeaders p) (h : Head) (pass : IsPassed file h) (external : Bool) (f : Func)
    (func : IsFunc file (table file h) h external f) where
  abbrev keys : Keys
  keys = table file h

  abbrev number : List ℕ → ℕ
  number = key_number keys

  ordered : IsTable 0 keys
  ordered = is_table (results file h) (parameters file h) (entries file h)

  pub same_key : (a b : List ℕ) → IsIn keys a → IsIn keys b → number a ≡ number b → a ≡ b
  same_key a b x y same = ap (λ e. e.0) (same_Some (a, x.0) (b, y.0) (sym (stands_at keys a x ordered) ∙ (ap (slice_get keys) same ∙ stands_at keys b y ordered)))

  pub key_there : (j : List ℕ) (x : IsIn keys j) → slice_get f.keys (number j) ≡ Some (key_decl (j, x.0))
  key_there j x =
      ap (λ ks. slice_get ks (number j)) func.keys_are
      ∙ at_left (map key_decl keys) func.more_keys (number j) (key_decl (j, x.0)) (slice_get-map key_decl keys (number j) ∙ ap (option_map key_decl) (stands_at keys j x ordered))

  pub key_within : (j : List ℕ) → IsIn keys j → nat_lt (number j) (length f.keys) ≡ true
  key_within j x = lt-ltb _ _ (slice_get_within f.keys (number j) (key_decl (j, x.0)) (key_there j x))

  -- ---- parameters

  pub parameter_vars : take f.params f.vars ≡ map (core_parameter file keys) h.parameters
  parameter_vars =
      ap₂ (λ n vs. take n vs) (func.params ∙ sym (length-map h.parameters (core_parameter file keys))) func.vars
      ∙ take-append_seam (map (core_parameter file keys) h.parameters) func.more_vars

  pub parameters_are : parameters_of f ≡ map (λ q. core_ty file number q.ty) h.parameters
  parameters_are = ap (map (λ d. d.ty)) parameter_vars ∙ map_twice (core_parameter file keys) (λ d. d.ty) h.parameters

  keys_of : (qs : List Parameter) → flat_map keys_of_ty (map (λ q. core_ty file number q.ty) qs) ≡ use_numbers number (parameter_uses file qs)
  keys_of [] = refl
  keys_of (q ∷ qs) = ap₂ (λ a b. a ++ b) (keys_are_uses file number q.ty) (keys_of qs) ∙ sym (map-append (λ u. number u.key) (ty_uses file q.ty) (parameter_uses file qs))

  pub parameter_keys : keys_of_parameters f ≡ use_numbers number (parameters file h)
  parameter_keys = ap (flat_map keys_of_ty) parameters_are ∙ keys_of h.parameters

  typings_of : (qs : List Parameter) → of_each (parameter_refused file) qs ≡ [] → flat_map (typings p) (map (λ q. core_ty file number q.ty) qs) ≡ use_typings number (parameter_uses file qs)
  typings_of [] none = refl
  typings_of (q ∷ qs) none =
      ap₂ (λ a b. a ++ b) (ty_typings file p described number q.ty (no_left _ _ none)) (typings_of qs (no_right (parameter_refused file q) _ none))
      ∙ sym (typings_joined number (ty_uses file q.ty) (parameter_uses file qs))

  parameter_typings : flat_map (typings p) (parameters_of f) ≡ use_typings number (parameters file h)
  parameter_typings = ap (flat_map (typings p)) parameters_are ∙ typings_of h.parameters pass.types

  -- ---- where keys stand

  pub in_parameters_has : (j : List ℕ) → (facts_of keys j).in_parameters ≡ true → has (keys_of_parameters f) (number j) ≡ true
  in_parameters_has j e =
      ap (λ ks. has ks (number j)) parameter_keys
      ∙ has_some (λ u. number u.key) (number j) (parameters file h) (some_other _ _ (λ u is. ap number (sym is)) (parameters file h) (in_parameters_from (results file h) (parameters file h) (entries file h) j e))

  pub has_in_parameters : (j : List ℕ) → IsIn keys j → has (keys_of_parameters f) (number j) ≡ true → (facts_of keys j).in_parameters ≡ true
  has_in_parameters j x e =
      from_each _ (λ u. IsIn keys u.key × ((facts_of keys u.key).in_parameters ≡ true)) (λ u is both. subst (λ k. (facts_of keys k).in_parameters ≡ true) (same_key u.key j both.0 x is) both.1) (parameters file h)
      (some_has (λ u. number u.key) (number j) (parameters file h) (sym (ap (λ ks. has ks (number j)) parameter_keys) ∙ e))
      (each_both _ _ _ (λ u a b. (a, b)) (parameters file h) (parameters_all_in (results file h) (parameters file h) (entries file h)) (in_parameters_all (results file h) (parameters file h) (entries file h)))

  pub fresh_has : (j : List ℕ) → (facts_of keys j).is_fresh ≡ true → has (new_keys f) (number j) ≡ true
  fresh_has j e =
      ap (λ es. has (map (λ e. e.key) (filter is_new es)) (number j)) func.clause
      ∙ new_has file keys (number j) (entries file h) (some_other _ _ (λ e is. (ap number (sym is.0), is.1)) (entries file h) (fresh_key_from (results file h) (parameters file h) (entries file h) j e))

  pub new_entry : (k : ℕ) → has (new_keys f) k ≡ true → SomeOf (λ e. (number (key_of e) ≡ k) × (is_fresh e ≡ true)) (entries file h)
  new_entry k e = has_new file keys k (entries file h) (sym (ap (λ es. has (map (λ e. e.key) (filter is_new es)) k) func.clause) ∙ e)

  pub has_fresh : (j : List ℕ) → IsIn keys j → has (new_keys f) (number j) ≡ true → (facts_of keys j).is_fresh ≡ true
  has_fresh j x e =
      from_each (λ e. (number (key_of e) ≡ number j) × (is_fresh e ≡ true)) (λ e. IsIn keys (key_of e) × (is_fresh e ≡ true → (facts_of keys (key_of e)).is_fresh ≡ true)) (λ e is both. subst (λ k. (facts_of keys k).is_fresh ≡ true) (same_key (key_of e) j both.0 x is.0) (both.1 is.1)) (entries file h) (new_entry (number j) e)
      (each_both _ _ _ (λ e a b. (a, b)) (entries file h) (entries_in (results file h) (parameters file h) (entries file h)) (fresh_all (results file h) (parameters file h) (entries file h)))

  -- ---- `new` keys

  pub fresh_right : (j : List ℕ) → (facts_of keys j).is_fresh ≡ true → is_fresh_result (facts_of keys j) ≡ true
  unfolding entry_refused
  fresh_right j e =
      from_each _ _ (λ e is none. subst (λ k. is_fresh_result (facts_of keys k) ≡ true) (sym is.0)
      (not-false _ (not_broken _ rule.RESULT_KEY (entry_key e).at.from (sym (ap (λ b. entry_key_refused (facts_of keys (key_of e)) b (entry_key e).at.from) is.1) ∙ no_left _ _ none))))
      (entries file h) (fresh_key_from (results file h) (parameters file h) (entries file h) j e) pass.entries_right

  -- the result is a reference under this key
  pub record IsResultKey (j : List ℕ) : Type 0 where
    pub key : Name
    pub type : Named
    pub at : Span
    pub result_type : h.result_type ≡ s.value (s.tracked key type at)
    pub same : j ≡ key.text

  result_use : (j : List ℕ) (out : ResultType) → h.result_type ≡ out → SomeOf (λ u. (j ≡ u.key) × (u.tracked ≡ true)) (result_uses file out) → IsResultKey j
  result_use j (s.void at) is some = absurd some
  result_use j (s.value (s.int at)) is some = absurd some
  result_use j (s.value (s.bool at)) is some = absurd some
  result_use j (s.value (s.tracked k n at)) is some =
      ⊎_elim (λ a. record { key = k; type = n; at = at; result_type = is; same = a.0 }) (λ b. from_each _ _ (λ u x free. absurd (true≢false (sym x.1 ∙ free))) (named_uses file n) b (named_free file n)) some
  result_use j (s.value (s.owning ss n at)) is some = from_each _ _ (λ u x free. absurd (true≢false (sym x.1 ∙ free))) (named_uses file n) some (named_free file n)
  result_use j (s.value (s.guarded k n)) is some = ⊎_elim (λ a. absurd (true≢false (sym a.1))) (λ b. from_each _ _ (λ u x free. absurd (true≢false (sym x.1 ∙ free))) (named_uses file n) b (named_free file n)) some
  result_use j (s.value (s.plain n)) is some = from_each _ _ (λ u x free. absurd (true≢false (sym x.1 ∙ free))) (named_uses file n) some (named_free file n)

  pub result_key : (j : List ℕ) → (facts_of keys j).is_fresh ≡ true → IsResultKey j
  result_key j e =
      let right = and_parts _ _ (and_parts _ _ (and_parts _ _ (fresh_right j e)).0).0 in
      result_use j h.result_type refl (result_key_from (results file h) (parameters file h) (entries file h) j right.0)

  -- ---- the types that a key is given

  abbrev pub type_of_key : List ℕ → Option ℕ
  type_of_key j = option_map (λ t. t.type_id) (typing_at keys j)

  pub of_type : (j : List ℕ) (t : ℕ) → IsOfType keys j t → type_of_key j ≡ Some t
  of_type j t x = ap (option_map (λ t. t.type_id)) x.1 ∙ ap Some x.2

  given_new : (k : ℕ) (ty : core.Ty) → has (new_keys f) k ≡ true → f.result ≡ Some ty → given_types p f k ≡ types_at k (own_typings ty)
  given_new k ty new is = rw (new, is) refl

  given_parameter : (k : ℕ) → has (new_keys f) k ≡ false → has (keys_of_parameters f) k ≡ true → given_types p f k ≡ types_at k (flat_map (typings p) (parameters_of f))
  given_parameter k old there = rw (old, there) refl

  new_gives : (j : List ℕ) → (facts_of keys j).is_fresh ≡ true → Gives (type_of_key j) (given_types p f (number j))
  new_gives j e = by (result_key j e)
    where
      by : IsResultKey j → Gives (type_of_key j) (given_types p f (number j))
      by x =
          let w = written file p described (s.tracked x.key x.type x.at) x.type (sym (ap (result_type_refused file) x.result_type) ∙ pass.result_type) in
          let given : given_types p f (number j) ≡ w.stood.type ∷ [] =
          given_new (number j) (core_ty file number (s.tracked x.key x.type x.at)) (fresh_has j e) (func.result ∙ ap (core_result file keys) x.result_type)
          ∙ (ap (λ b. map (λ (y : Typing). y.type) (cond b (record { key = number x.key.text; type = type_number file x.type.name } ∷ []) [])) (eq-eqb (number x.key.text) (number j) (ap number (sym x.same)))
          ∙ ap (λ t. t ∷ []) (number_is file p described x.type.name w.stood)) in
          let wants : IsAsWanted keys x.key.text (wanted_type (type_named file x.type.name)) =
          (subst (λ out. Each (λ u. IsAsWanted keys u.key u.wanted) (result_uses file out)) x.result_type (results_wanted file p described headers h pass)).0 in
          let is : type_of_key j ≡ Some w.stood.type = subst (λ k. type_of_key k ≡ Some w.stood.type) (sym x.same) (of_type x.key.text w.stood.type (rw w.stood.named at wants)) in
          rw given (record { each = (is, tt); some = λ t e. tt })

  types_each : (j : List ℕ) → IsIn keys j → (us : List KeyUse) → Each (λ u. IsIn keys u.key) us → Each (λ u. IsAsWanted keys u.key u.wanted) us
      → Each (λ t. type_of_key j ≡ Some t) (types_at (number j) (use_typings number us))
  types_each j x [] there want = tt
  types_each j x (u ∷ us) there want = by u.wanted want.0 (types_each j x us there.1 want.1)
    where
      one : (t : ℕ) → IsOfType keys u.key t → (b : Bool) → (number u.key == number j) ≡ b → Each (λ t. type_of_key j ≡ Some t) (types_at (number j) (use_typings number us))
          → Each (λ t. type_of_key j ≡ Some t) (map (λ x. x.type) (cond b (record { key = number u.key; type = t } ∷ filter (λ x. x.key == number j) (use_typings number us)) (filter (λ x. x.key == number j) (use_typings number us))))
      one t is true same more = (subst (λ k. type_of_key k ≡ Some t) (same_key u.key j there.0 x (eqb-true _ _ same)) (of_type u.key t is), more)
      one t is false same more = more

      by : (w : Wanted) → IsAsWanted keys u.key w → Each (λ t. type_of_key j ≡ Some t) (types_at (number j) (use_typings number us))
          → Each (λ t. type_of_key j ≡ Some t) (types_at (number j) (typing_of (number u.key) w (use_typings number us)))
      by wanted.Any is more = more
      by wanted.Unknown is more = more
      by (wanted.OfType t) is more = one t is (number u.key == number j) refl more

  types_some : (j : List ℕ) (t : ℕ) (us : List KeyUse) → SomeOf (λ u. (j ≡ u.key) × (u.wanted ≡ wanted.OfType t)) us → IsFilled (types_at (number j) (use_typings number us))
  types_some j t [] some = absurd some
  types_some j t (u ∷ us) some = ⊎_elim (λ a. here a) (λ b. by u.wanted (types_some j t us b)) some
    where
      kept : (x : Typing) (b : Bool) → IsFilled (types_at (number j) (use_typings number us)) → IsFilled (map (λ x. x.type) (cond b (x ∷ filter (λ x. x.key == number j) (use_typings number us)) (filter (λ x. x.key == number j) (use_typings number us))))
      kept x true more = tt
      kept x false more = more

      by : (w : Wanted) → IsFilled (types_at (number j) (use_typings number us)) → IsFilled (types_at (number j) (typing_of (number u.key) w (use_typings number us)))
      by wanted.Any more = more
      by wanted.Unknown more = more
      by (wanted.OfType v) more = kept (record { key = number u.key; type = v }) (number u.key == number j) more

      here : (j ≡ u.key) × (u.wanted ≡ wanted.OfType t) → IsFilled (types_at (number j) (typing_of (number u.key) u.wanted (use_typings number us)))
      here a = rw (a.1, eq-eqb (number u.key) (number j) (ap number (sym a.0))) tt

  pub gives : (j : List ℕ) → IsIn keys j → Gives (type_of_key j) (given_types p f (number j))
  gives j x = by (facts_of keys j).is_fresh refl
    where
      old : (facts_of keys j).is_fresh ≡ false → has (new_keys f) (number j) ≡ false
      old e = none (has (new_keys f) (number j)) refl
        where
          none : (b : Bool) → has (new_keys f) (number j) ≡ b → b ≡ false
          none true is = absurd (true≢false (sym (has_fresh j x is) ∙ e))
          none false is = refl

      by : (b : Bool) → (facts_of keys j).is_fresh ≡ b → Gives (type_of_key j) (given_types p f (number j))
      by true e = new_gives j e
      by false e =
          let there = ⊎_elim (λ a. absurd (true≢false (sym a ∙ e))) (λ b. in_parameters_has j b) (bound file p described headers h pass j x) in
          let given = given_parameter (number j) (old e) there ∙ ap (types_at (number j)) parameter_typings in
          rw given (record {
            each = types_each j x (parameters file h) (parameters_all_in (results file h) (parameters file h) (entries file h)) pass.wanted;
            some = λ t is. typed t is (typing_at keys j) refl;
          })
        where
          typed : (t : ℕ) → type_of_key j ≡ Some t → (o : Option Given) → typing_at keys j ≡ o → IsFilled (types_at (number j) (use_typings number (parameters file h)))
          typed t is None had = absurd (none-some t (sym (ap (option_map (λ t. t.type_id)) had) ∙ is))
          typed t is (Some g) had = ⊎_elim (λ a. absurd (true≢false (sym a ∙ e))) (λ b. types_some j g.type_id (parameters file h) b) (typed_by file p described headers h pass j g had)
