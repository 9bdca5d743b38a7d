-- The entries of a clause, and the keys of a result, break nothing.
use Rattle.std.proofs.Common.{◌≡◌, ℕ, nat_lt, nat_le, Bool, true, false, true≢false, not, ◌&&◌, ◌||◌, ◌==◌, cond, if◌then◌else◌, List, [], ◌∷◌, ◌++◌, map, filter, length, Option, Some, None, option_map, inl, inr, ⊎_elim, refl, sym, ap, ◌∙◌, subst}
use Rattle.std.specs.List.{list_any, flat_map}
use Rattle.std.proofs.lemmas.Bool.{or_cases, or_left, or_right, and_parts, and_from, or_parts, or_from, eq-eqb, not-false, not-true}
use Rattle.std.proofs.lemmas.List.Folds.{list_any-append}
use Rattle.std.proofs.lemmas.Option.{none-some, same_Some}
use Rattle.vlt_base.specs.declared.places.Span.{Span}
use Rattle.vlt_syntax.specs.Tree as s
use Rattle.vlt_syntax.specs.Tree.{Name, Named, Entry, Head, ResultType}
use Rattle.vlt_syntax.specs.Lists.{Each}
use Rattle.vlt_core.specs.Core as core
use Rattle.vlt_core.specs.Core.{VarDecl, TypeDecl, Func, Program}
use Rattle.vlt_core.specs.Lookups.{is_new}
use Rattle.vlt_core.specs.Types.{decl_of, keys_of_ty}
use Rattle.vlt_core.specs.KindedHeads.{Rules, unless, when_some, has, are_apart, states_broken, keys_of_parameters, new_keys, keys_of_result, given_types, are_all, names_states, entry_broken, is_key_of_result, new_key_broken, result_broken, state_broken, bound_broken}
use Rattle.vlt_core.specs.declared.rules.TheConstants as rule
use Rattle.vlt_kinds_types.specs.Files.{File, type_named, wanted_type, shape_at, state_names, number_of}
use Rattle.vlt_kinds_types.specs.Types.{KeyUse, tracked_use, named_uses, ty_uses, key_numbers, core_ty, known_states, states_listed}
use Rattle.vlt_kinds_heads.specs.Places.{result_uses, entry_key, is_fresh, first_states, second_states}
use Rattle.vlt_kinds_heads.specs.Keys.{Keys, facts_of}
use Rattle.vlt_kinds_heads.specs.Heads.{first_name, is_fresh_result, result_key_refused, entry_key_refused, key_states_refused, entry_states_refused, entry_refused}
use Rattle.vlt_kinds_heads.specs.Phase.{key_number, typed_states, states_named, core_entry, core_result, core_parameter}
use Rattle.vlt_kinds_heads.specs.declared.facts.Facts.{Facts}
use Rattle.vlt_kinds_heads.specs.declared.facts.Typing.{Typing as Given}
use Rattle.vlt_resolve_laws.specs.KindsLaws.Shapes.{core_shape, Describes, HasHeaders}
use Rattle.vlt_resolve_laws.proofs.OfKindsLaws.Empty.{no_left, no_right, none_of_both, none_of_each, not_broken, holds}
use Rattle.vlt_resolve_laws.proofs.OfKindsLaws.Named.{shape_is}
use Rattle.vlt_resolve_laws.proofs.OfKindsLaws.States.{states_unbroken, state_unbroken}
use Rattle.vlt_resolve_laws.proofs.OfKindsLaws.Uses.{keys_are_uses, named_numbers}
use Rattle.vlt_resolve_laws.proofs.OfKindsLaws.Parts.{each_number, each_both, each_other}
use Rattle.vlt_resolve_laws.proofs.OfKindsLaws.Cases.{each_mapped}
use Rattle.vlt_resolve_laws.proofs.OfKindsLaws.Tables.{IsIn}
use Rattle.vlt_resolve_laws.proofs.OfKindsLaws.Folds.{SomeOf, typing_at}
use Rattle.vlt_resolve_laws.proofs.OfKindsLaws.Known.{key_of, all_keys, from_each, results_in, entries_in, fresh_all, stands_once}
use Rattle.vlt_resolve_laws.proofs.OfKindsLaws.Places.{results, parameters, entries, table, IsPassed, bound, closed}
use Rattle.vlt_resolve_laws.proofs.OfKindsLaws.Core.{some_has, entry_number, entry_new, IsFunc, Gives, same_key, key_within, parameter_vars, in_parameters_has, has_in_parameters, fresh_has, new_entry, fresh_right, IsResultKey, result_key, gives}
use Rattle.vlt_resolve_laws.proofs.OfKindsLaws.Clauses.{all_same, clause_apart}

-- ---- lists

each_there : (P : ℕ → Type 0) (ks : List ℕ) → ((k : ℕ) → has ks k ≡ true → P k) → Each P ks
each_there P [] go = tt
each_there P (k ∷ ks) go = (go k (or_left (k == k) (has ks k) (eq-eqb k k refl)), each_there P ks (λ j e. go j (or_right (k == j) (has ks j) e)))

never_both : {A : Type 0} (b : Bool) → b ≡ true → b ≡ false → A
never_both b t f = absurd (true≢false (sym t ∙ f))

false_unless : (b : Bool) → (b ≡ true → ⊥) → b ≡ false
false_unless true go = absurd (go refl)
false_unless false go = refl

kept_has : (es : List core.Entry) (k : ℕ) → has (map (λ e. e.key) (filter is_new es)) k ≡ true → has (map (λ e. e.key) es) k ≡ true
kept_has [] k e = e
kept_has (x ∷ es) k e = by (is_new x) e (kept_has es k)
  where
    by : (b : Bool) → has (map (λ e. e.key) (cond b (x ∷ filter is_new es) (filter is_new es))) k ≡ true → (has (map (λ e. e.key) (filter is_new es)) k ≡ true → has (map (λ e. e.key) es) k ≡ true)
        → ((x.key == k) || has (map (λ e. e.key) es) k) ≡ true
    by true e more = ⊎_elim (λ a. or_left _ _ a) (λ b. or_right (x.key == k) _ (more b)) (or_cases (x.key == k) _ e)
    by false e more = or_right (x.key == k) _ (more e)

kept_apart : (es : List core.Entry) → are_apart (map (λ e. e.key) es) ≡ true → are_apart (map (λ e. e.key) (filter is_new es)) ≡ true
kept_apart [] e = refl
kept_apart (x ∷ es) e = by (is_new x) (and_parts _ _ e) (kept_apart es)
  where
    by : (b : Bool) → (not (has (map (λ e. e.key) es) x.key) ≡ true) × (are_apart (map (λ e. e.key) es) ≡ true) → (are_apart (map (λ e. e.key) es) ≡ true → are_apart (map (λ e. e.key) (filter is_new es)) ≡ true)
        → are_apart (map (λ e. e.key) (cond b (x ∷ filter is_new es) (filter is_new es))) ≡ true
    by true both more = and_from _ _ (ap not (false_unless _ (λ there. never_both _ (kept_has es x.key there) (not-true _ both.0)))) (more both.1)
    by false both more = more both.1

at_most_one : (ks : List ℕ) (a : ℕ) → are_apart ks ≡ true → Each (λ k. k ≡ a) ks → nat_le (length ks) 1 ≡ true
at_most_one [] a e each = refl
at_most_one (k ∷ []) a e each = refl
at_most_one (k ∷ j ∷ ks) a e each =
    never_both (has (j ∷ ks) k) (or_left (j == k) (has ks k) (eq-eqb j k (each.1.0 ∙ sym each.0))) (not-true _ (and_parts (not (has (j ∷ ks) k)) _ e).0)

none_has : (k : ℕ) (ds : List VarDecl) → has (flat_map keys_of_ty (map (λ d. d.ty) ds)) k ≡ false → list_any (λ d. has (keys_of_ty d.ty) k) ds ≡ false
none_has k [] e = refl
none_has k (d ∷ ds) e =
    let both = or_parts _ _ (sym (list_any-append (λ m. m == k) (keys_of_ty d.ty) (flat_map keys_of_ty (map (λ d. d.ty) ds))) ∙ e) in
    or_from _ _ both.0 (none_has k ds both.1)

none_any : (k : ℕ) (ds : List VarDecl) → Each (λ d. has (keys_of_ty d.ty) k ≡ false) ds → list_any (λ d. has (keys_of_ty d.ty) k) ds ≡ false
none_any k [] e = refl
none_any k (d ∷ ds) e = or_from _ _ e.0 (none_any k ds e.1)

fresh_parts : (f : Facts) → is_fresh_result f ≡ true → (f.is_result_key ≡ true) × (f.in_result_again ≡ false) × (f.in_parameters ≡ false)
fresh_parts f e =
    let all = and_parts (f.is_result_key && not f.in_result_again && not f.in_parameters) (not f.in_clause_again) e in
    let two = and_parts (f.is_result_key && not f.in_result_again) (not f.in_parameters) all.0 in
    let one = and_parts f.is_result_key (not f.in_result_again) two.0 in
    (one.0, not-true f.in_result_again one.1, not-true f.in_parameters two.1)

-- the key of a result, and the keys in it
keyed_text : ResultType → List ℕ
keyed_text (s.value (s.tracked k n at)) = k.text
keyed_text out = []

keyed_text_is : (k : Name) (n : Named) (at : Span) → keyed_text (s.value (s.tracked k n at)) ≡ k.text
unfolding keyed_text
keyed_text_is k n at = refl

same_keyed : (a b : Name) (m n : Named) (i j : Span) → ◌≡◌ {A = ResultType} (s.value (s.tracked a m i)) (s.value (s.tracked b n j)) → a.text ≡ b.text
same_keyed a b m n i j e = sym (keyed_text_is a m i) ∙ (ap keyed_text e ∙ keyed_text_is b n j)

abbrev result_keys : Option core.Ty → List ℕ
result_keys None = []
result_keys (Some ty) = keys_of_ty ty

-- ---- what an entry breaks, by the types that its key is given

abbrev entry_types : Program → core.Entry → List ℕ → Rules
entry_types p e [] = unless (not (names_states e)) rule.STATES_UNTYPED
entry_types p e (t ∷ ts) =
    if are_all t ts
    then when_some (decl_of p t) (λ d. when_some e.before (states_broken p t) ++ when_some e.after (states_broken p t) ++ bound_broken p t e.mode)
    else []

-- states that an entry names
abbrev Sided : (known : Option (List (List ℕ))) → Option core.States → Type 0
Sided known None = Unit {0}
Sided known (Some states) = (ss : s.States) × (states ≡ states_listed known (Some ss))

named_side : (known : Option (List (List ℕ))) (o : Option s.States) → Sided known (states_named known o)
named_side known None = tt
named_side known (Some ss) = (ss, refl)

sides : (file : File) (keys : Keys) (e : Entry) → Sided (typed_states file (facts_of keys (key_of e)).typing) (core_entry file keys e).before × Sided (typed_states file (facts_of keys (key_of e)).typing) (core_entry file keys e).after
unfolding core_entry
sides file keys (s.held k) = (named_side (typed_states file (facts_of keys k.key.text).typing) k.states, named_side (typed_states file (facts_of keys k.key.text).typing) k.states)
sides file keys (s.changed k before after) =
    (named_side (typed_states file (facts_of keys k.text).typing) (Some before), named_side (typed_states file (facts_of keys k.text).typing) (Some after))
sides file keys (s.bound k v b) = (tt, tt)
sides file keys (s.taken k at) = (named_side (typed_states file (facts_of keys k.key.text).typing) k.states, tt)
sides file keys (s.given k at) = (tt, named_side (typed_states file (facts_of keys k.key.text).typing) k.states)
sides file keys (s.fresh k at) = (tt, named_side (typed_states file (facts_of keys k.key.text).typing) k.states)

no_states : (file : File) (f : Facts) (o : Option s.States) → f.is_left_open ≡ false → key_states_refused file f None o ≡ [] → o ≡ None
no_states file f None shut none = refl
no_states file f (Some ss) shut none = absurd (true≢false (sym (ap not shut) ∙ not_broken _ rule.STATES_UNTYPED (first_name ss) none))

unnamed : (file : File) (keys : Keys) (e : Entry) → first_states e ≡ None → second_states e ≡ None → names_states (core_entry file keys e) ≡ false
unfolding core_entry
unnamed file keys (s.held k) first second = rw first refl
unnamed file keys (s.changed k before after) first second = absurd (none-some before (sym first))
unnamed file keys (s.bound k v b) first second = absurd (none-some (s.one b) (sym first))
unnamed file keys (s.taken k at) first second = rw first refl
unnamed file keys (s.given k at) first second = rw first refl
unnamed file keys (s.fresh k at) first second = rw first refl

module _ (file : File) (p : Program) (described : Describes file p) (headers : HasHeaders p) (h : Head) (pass : IsPassed file h) (external : Bool) (f : Func)
    (func : IsFunc file (table file h) h external f) where
  abbrev keys : Keys
  keys = table file h

  abbrev number : List ℕ → ℕ
  number = key_number keys

  side_unbroken : (t : ℕ) (d : TypeDecl) (known : Option (List (List ℕ))) (o : Option core.States) → decl_of p t ≡ Some d → known ≡ state_names file (Some (core_shape d)) → Sided known o
      → when_some o (states_broken p t) ≡ []
  side_unbroken t d known None there is side = refl
  side_unbroken t d known (Some states) there is side =
      ap (states_broken p t) (side.1 ∙ ap (λ k. states_listed k (Some side.0)) is) ∙ states_unbroken file p described t d there (Some side.0)

  bound_unbroken : (t : ℕ) (d : TypeDecl) (e : Entry) → decl_of p t ≡ Some d → typed_states file (typing_at keys (key_of e)) ≡ state_names file (Some (core_shape d))
      → bound_broken p t (core_entry file keys e).mode ≡ []
  unfolding core_entry
  bound_unbroken t d (s.held k) there is = refl
  bound_unbroken t d (s.changed k before after) there is = refl
  bound_unbroken t d (s.bound k v b) there is = ap (λ known. state_broken p t (number_of (known_states known) b)) is ∙ state_unbroken file p described t d there b
  bound_unbroken t d (s.taken k at) there is = refl
  bound_unbroken t d (s.given k at) there is = refl
  bound_unbroken t d (s.fresh k at) there is = refl

  typed_entry : (e : Entry) (t : ℕ) (had : Given) → typing_at keys (key_of e) ≡ Some had → had.type_id ≡ t → (o : Option TypeDecl) → decl_of p t ≡ o
      → when_some o (λ d. when_some (core_entry file keys e).before (states_broken p t) ++ when_some (core_entry file keys e).after (states_broken p t) ++ bound_broken p t (core_entry file keys e).mode) ≡ []
  typed_entry e t had is same None there = refl
  typed_entry e t had is same (Some d) there =
      let known : typed_states file (typing_at keys (key_of e)) ≡ state_names file (Some (core_shape d)) =
      ap (typed_states file) is ∙ ap (state_names file) (ap (shape_at file) same ∙ (shape_is file p described t ∙ ap (option_map core_shape) there)) in
      let both = sides file keys e in
      none_of_both _ _ (none_of_both _ _ (side_unbroken t d _ (core_entry file keys e).before there known both.0) (side_unbroken t d _ (core_entry file keys e).after there known both.1)) (bound_unbroken t d e there known)

  untyped_entry : (e : Entry) → typing_at keys (key_of e) ≡ None → entry_states_refused file (facts_of keys (key_of e)) e ≡ [] → unless (not (names_states (core_entry file keys e))) rule.STATES_UNTYPED ≡ []
  unfolding entry_states_refused
  untyped_entry e is none =
      let shut = closed file p described headers h pass (key_of e) in
      let first = no_left (key_states_refused file (facts_of keys (key_of e)) (typing_at keys (key_of e)) (first_states e)) _ none in
      let second = no_right (key_states_refused file (facts_of keys (key_of e)) (typing_at keys (key_of e)) (first_states e)) _ none in
      holds _ rule.STATES_UNTYPED (ap not (unnamed file keys e
      (no_states file (facts_of keys (key_of e)) (first_states e) shut (sym (ap (λ o. key_states_refused file (facts_of keys (key_of e)) o (first_states e)) is) ∙ first))
      (no_states file (facts_of keys (key_of e)) (second_states e) shut (sym (ap (λ o. key_states_refused file (facts_of keys (key_of e)) o (second_states e)) is) ∙ second))))

  types_unbroken : (e : Entry) → entry_states_refused file (facts_of keys (key_of e)) e ≡ [] → (o : Option Given) → typing_at keys (key_of e) ≡ o → (ts : List ℕ) → Gives (option_map (λ t. t.type_id) o) ts
      → entry_types p (core_entry file keys e) ts ≡ []
  types_unbroken e none None is [] given = untyped_entry e is none
  types_unbroken e none None is (t ∷ ts) given = absurd (none-some t given.each.0)
  types_unbroken e none (Some had) is [] given = absurd (given.some had.type_id refl)
  types_unbroken e none (Some had) is (t ∷ ts) given =
      rw (all_same (Some had.type_id) t ts given.each.0 given.each.1) (typed_entry e t had is (same_Some had.type_id t given.each.0) (decl_of p t) refl)

  entry_unbroken : (e : Entry) → IsIn keys (key_of e) → entry_refused file keys e ≡ [] → entry_broken p f (core_entry file keys e) ≡ []
  unfolding entry_refused
  entry_unbroken e x none =
      whole (nat_lt (core_entry file keys e).key (length f.keys)) (ap (λ k. nat_lt k (length f.keys)) (entry_number file keys e) ∙ key_within file p described headers h pass external f func (key_of e) x) _ (rule.UNKNOWN_NAME ∷ [])
      (none_of_both _ _ (holds _ rule.CLAUSE_KEY_UNBOUND (there (is_fresh e) refl (no_left _ _ none)))
      (types_unbroken e (no_right (entry_key_refused (facts_of keys (key_of e)) (is_fresh e) (entry_key e).at.from) _ none) (typing_at keys (key_of e)) refl (given_types p f (core_entry file keys e).key)
      (subst (λ k. Gives (option_map (λ t. t.type_id) (typing_at keys (key_of e))) (given_types p f k)) (sym (entry_number file keys e)) (gives file p described headers h pass external f func (key_of e) x))))
    where
      whole : (b : Bool) → b ≡ true → (rules more : Rules) → rules ≡ [] → (if b then rules else more) ≡ []
      whole true e rules more r = r
      whole false e rules more r = absurd (true≢false (sym e))

      there : (b : Bool) → is_fresh e ≡ b → entry_key_refused (facts_of keys (key_of e)) b (entry_key e).at.from ≡ [] → (is_new (core_entry file keys e) || has (keys_of_parameters f) (core_entry file keys e).key) ≡ true
      there true is none = or_left _ _ (entry_new file keys e ∙ is)
      there false is none = or_right (is_new (core_entry file keys e)) _
          (ap (has (keys_of_parameters f)) (entry_number file keys e) ∙ in_parameters_has file p described headers h pass external f func (key_of e) (not-false _ (not_broken _ rule.CLAUSE_KEY_UNBOUND (entry_key e).at.from none)))

  pub entries_unbroken : flat_map (entry_broken p f) f.clause ≡ []
  entries_unbroken =
      ap (flat_map (entry_broken p f)) func.clause
      ∙ each_mapped (core_entry file keys) (entry_broken p f) (entries file h)
      (each_both _ _ (λ e. entry_broken p f (core_entry file keys e) ≡ []) (λ e x none. entry_unbroken e x none) (entries file h) (entries_in (results file h) (parameters file h) (entries file h)) pass.entries_right)

  -- ---- the keys of the result

  pub record IsNew (k : ℕ) : Type 0 where
    pub key : List ℕ
    pub there : IsIn keys key
    pub same : number key ≡ k
    pub fresh : (facts_of keys key).is_fresh ≡ true

  pub is_new_key : (k : ℕ) → has (new_keys f) k ≡ true → IsNew k
  is_new_key k e =
      from_each (λ e. (number (key_of e) ≡ k) × (is_fresh e ≡ true)) (λ e. IsIn keys (key_of e) × (is_fresh e ≡ true → (facts_of keys (key_of e)).is_fresh ≡ true))
      (λ e is both. record { key = key_of e; there = both.0; same = is.0; fresh = both.1 is.1 }) (entries file h) (new_entry file p described headers h pass external f func k e)
      (each_both _ _ _ (λ e a b. (a, b)) (entries file h) (entries_in (results file h) (parameters file h) (entries file h)) (fresh_all (results file h) (parameters file h) (entries file h)))

  pub alone : (k : ℕ) (x : IsNew k) (r : IsResultKey file p described headers h pass external f func x.key) → has (key_numbers number r.type.keys) k ≡ false
  alone k x r = false_unless _ again
    where
      once : (facts_of keys x.key).in_result_again ≡ false
      once = (fresh_parts (facts_of keys x.key) (fresh_right file p described headers h pass external f func x.key x.fresh)).1

      results_are : results file h ≡ tracked_use (wanted_type (type_named file r.type.name)) r.key ∷ named_uses file r.type
      results_are = ap (result_uses file) r.result_type

      there : Each (λ u. IsIn keys u.key) (named_uses file r.type)
      there = (subst (λ us. Each (λ u. IsIn keys u.key) us) results_are (results_in (results file h) (parameters file h) (entries file h))).1

      again : has (key_numbers number r.type.keys) k ≡ true → ⊥
      again e =
          let some = some_has (λ u. number u.key) k (named_uses file r.type) (ap (λ ns. has ns k) (named_numbers file number r.type) ∙ e) in
          let named = same_all (named_uses file r.type) some there in
          stands_once (tracked_use (wanted_type (type_named file r.type.name)) r.key) (named_uses file r.type) (parameters file h) (entries file h)
          (subst (λ us. (facts_of (all_keys us (parameters file h) (entries file h)) r.key.text).in_result_again ≡ false) results_are (subst (λ j. (facts_of keys j).in_result_again ≡ false) r.same once)) named
        where
          same_all : (us : List KeyUse) → SomeOf (λ u. number u.key ≡ k) us → Each (λ u. IsIn keys u.key) us → SomeOf (λ u. r.key.text ≡ u.key) us
          same_all [] some there = absurd some
          same_all (u ∷ us) some there =
              ⊎_elim (λ a. inl (sym r.same ∙ same_key file p described headers h pass external f func x.key u.key x.there there.0 (x.same ∙ sym a))) (λ b. inr (same_all us b there.1)) some

  key_right : (k : ℕ) (x : IsNew k) (r : IsResultKey file p described headers h pass external f func x.key) → is_key_of_result f.result k ≡ true
  key_right k x r =
      ap (λ o. is_key_of_result o k) (func.result ∙ ap (core_result file keys) r.result_type)
      ∙ and_from _ _ (eq-eqb (number r.key.text) k (ap number (sym r.same) ∙ x.same)) (ap not (alone k x r))

  pub not_in_parameters : (k : ℕ) (x : IsNew k) → has (keys_of_parameters f) k ≡ false
  not_in_parameters k x = false_unless _ (λ e.
      true≢false (sym (has_in_parameters file p described headers h pass external f func x.key x.there (subst (λ n. has (keys_of_parameters f) n ≡ true) (sym x.same) e))
      ∙ (fresh_parts (facts_of keys x.key) (fresh_right file p described headers h pass external f func x.key x.fresh)).2))

  not_in_vars : (k : ℕ) (x : IsNew k) → Each (λ d. has (keys_of_ty d.ty) k ≡ false) func.more_vars → list_any (λ d. has (keys_of_ty d.ty) k) f.vars ≡ false
  not_in_vars k x apart =
      ap (list_any (λ d. has (keys_of_ty d.ty) k)) func.vars
      ∙ (list_any-append (λ d. has (keys_of_ty d.ty) k) (map (core_parameter file keys) h.parameters) func.more_vars
      ∙ or_from _ _
      (none_has k (map (core_parameter file keys) h.parameters) (sym (ap (λ vs. has (flat_map keys_of_ty (map (λ d. d.ty) vs)) k) (parameter_vars file p described headers h pass external f func)) ∙ not_in_parameters k x))
      (none_any k func.more_vars apart))

  new_unbroken : (k : ℕ) → has (new_keys f) k ≡ true → Each (λ d. has (keys_of_ty d.ty) k ≡ false) func.more_vars → new_key_broken f k ≡ []
  new_unbroken k e apart =
      let x = is_new_key k e in
      let r = result_key file p described headers h pass external f func x.key x.fresh in
      holds _ rule.RESULT_KEY (and_from _ _ (key_right k x r) (ap not (not_in_vars k x apart)))

  result_keys_unbroken : flat_map (λ k. unless (has (new_keys f) k || has (keys_of_parameters f) k) rule.RESULT_KEY) (keys_of_result f) ≡ []
  unfolding result_key_refused
  result_keys_unbroken = by f.result func.result
    where
      fits : (u : KeyUse) → IsIn keys u.key → unless (has (new_keys f) (number u.key) || has (keys_of_parameters f) (number u.key)) rule.RESULT_KEY ≡ []
      fits u x = holds _ rule.RESULT_KEY
          (⊎_elim (λ a. or_left _ _ (fresh_has file p described headers h pass external f func u.key a)) (λ b. or_right (has (new_keys f) (number u.key)) _ (in_parameters_has file p described headers h pass external f func u.key b)) (bound file p described headers h pass u.key x))

      by_result_type : (out : ResultType) → h.result_type ≡ out → flat_map (λ k. unless (has (new_keys f) k || has (keys_of_parameters f) k) rule.RESULT_KEY) (result_keys (core_result file keys out)) ≡ []
      by_result_type (s.void at) is = refl
      by_result_type (s.value t) is =
          none_of_each _ (keys_of_ty (core_ty file number t)) (rw (keys_are_uses file number t) (each_number (λ k. unless (has (new_keys f) k || has (keys_of_parameters f) k) rule.RESULT_KEY ≡ []) number (ty_uses file t)
          (each_other _ _ (λ u x. fits u x) (ty_uses file t) (subst (λ out. Each (λ u. IsIn keys u.key) (result_uses file out)) is (results_in (results file h) (parameters file h) (entries file h))))))

      by : (o : Option core.Ty) → f.result ≡ core_result file keys h.result_type → flat_map (λ k. unless (has (new_keys f) k || has (keys_of_parameters f) k) rule.RESULT_KEY) (keys_of_result f) ≡ []
      by o is = ap (λ o. flat_map (λ k. unless (has (new_keys f) k || has (keys_of_parameters f) k) rule.RESULT_KEY) (result_keys o)) is ∙ by_result_type h.result_type refl

  -- there is one `new` key at most
  pub few_new : nat_le (length (new_keys f)) 1 ≡ true
  few_new = by (new_keys f) refl
    where
      by : (ks : List ℕ) → new_keys f ≡ ks → nat_le (length (new_keys f)) 1 ≡ true
      by [] is = rw is refl
      by (k ∷ ks) is =
          let x = is_new_key k (ap (λ ns. has ns k) is ∙ or_left (k == k) (has ks k) (eq-eqb k k refl)) in
          let r = result_key file p described headers h pass external f func x.key x.fresh in
          at_most_one (new_keys f) (number r.key.text) (kept_apart f.clause (clause_apart file p described headers h pass external f func))
          (each_there _ (new_keys f) (λ j e.
          let y = is_new_key j e in
          let q = result_key file p described headers h pass external f func y.key y.fresh in
          sym y.same ∙ ap number (q.same ∙ same_keyed q.key r.key q.type r.type q.at r.at (sym q.result_type ∙ r.result_type))))

  pub results_unbroken : ((k : ℕ) → has (new_keys f) k ≡ true → Each (λ d. has (keys_of_ty d.ty) k ≡ false) func.more_vars) → result_broken f ≡ []
  results_unbroken apart =
      none_of_both _ _
      (none_of_both _ _ (holds _ rule.RESULT_KEY few_new)
      (none_of_each (new_key_broken f) (new_keys f) (each_there _ (new_keys f) (λ k e. new_unbroken k e (apart k e)))))
      result_keys_unbroken
