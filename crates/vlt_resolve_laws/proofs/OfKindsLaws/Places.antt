-- The places of a head that is refused nothing.
use Rattle.std.proofs.Common.{◌≡◌, ℕ, Bool, true, false, true≢false, ◌&&◌, ◌||◌, ◌==◌, is_some, List, [], ◌∷◌, map, length, Option, Some, None, ◌⊎◌, inl, inr, ⊎_elim, refl, sym, ap, ◌∙◌, subst}
use Rattle.std.proofs.lemmas.Bool.{or_cases, eqb-true, not-false}
use Rattle.std.proofs.lemmas.List.{length-map}
use Rattle.std.proofs.lemmas.Option.{same_Some}
use Rattle.vlt_syntax.specs.Tree as s
use Rattle.vlt_syntax.specs.Tree.{Name, Named, Entry, Head, Parameter, ResultType}
use Rattle.vlt_syntax.specs.Lists.{Each}
use Rattle.vlt_core.specs.Core.{Header, Program}
use Rattle.vlt_core.specs.Types.{decl_of, header_in}
use Rattle.vlt_core.specs.declared.rules.TheConstants as rule
use Rattle.vlt_kinds_types.specs.Names.Refusals.{of_each}
use Rattle.vlt_kinds_types.specs.declared.shapes.Wanted.{Wanted}
use Rattle.vlt_kinds_types.specs.declared.shapes.Wanted.TheVariants as wanted
use Rattle.vlt_kinds_types.specs.Files.{File}
use Rattle.vlt_kinds_types.specs.Types.{KeyUse, argument_uses, named_uses, ty_uses, ty_refused, owned_refused}
use Rattle.vlt_kinds_heads.specs.Places.{result_uses, parameter_uses, clause_in, entry_key, is_fresh, head_names}
use Rattle.vlt_kinds_heads.specs.Keys.{Keys, facts_of, is_unknown, places_after, keys_after, keys_of}
use Rattle.vlt_kinds_heads.specs.Bounds.{variables_refused}
use Rattle.vlt_kinds_heads.specs.Heads.{result_type_refused, parameter_refused, names_refused, is_bound, type_rule, result_place, result_clash_with, result_clash, result_key_refused, entry_key_refused, entry_refused, main_refused, types_refused, clause_again, typings_refused, result_refused, head_refused_by, head_refused}
use Rattle.vlt_kinds_heads.specs.declared.facts.Facts.{Facts}
use Rattle.vlt_kinds_heads.specs.declared.facts.Typing.{Typing}
use Rattle.vlt_resolve_laws.specs.KindsLaws.Shapes.{header_wanted, Describes, HasType, HasHeaders}
use Rattle.vlt_resolve_laws.proofs.OfKindsLaws.Empty.{no_left, no_right, not_broken, none_in_each}
use Rattle.vlt_resolve_laws.proofs.OfKindsLaws.Parts.{each_both}
use Rattle.vlt_resolve_laws.proofs.OfKindsLaws.Rows.{each_joined}
use Rattle.vlt_resolve_laws.proofs.OfKindsLaws.Written.{IsWritten, written}
use Rattle.vlt_resolve_laws.proofs.OfKindsLaws.Tables.{IsIn}
use Rattle.vlt_resolve_laws.proofs.OfKindsLaws.Folds.{SomeOf, typing_at, IsOfType, IsAsWanted, unclashed, SaysType}
use Rattle.vlt_resolve_laws.proofs.OfKindsLaws.Known.{key_of, some_in, from_each, all_keys, keys_are, places_are, comes_from, in_parameters_all, left_open_from, fresh_all, typing_from, AreApart, apart}

-- ---- the types that places want

-- a place wants any object, or one of a declared type
abbrev pub WantsDeclared : Program → Wanted → Type 0
WantsDeclared p wanted.Any = Unit {0}
WantsDeclared p wanted.Unknown = ⊥
WantsDeclared p (wanted.OfType t) = is_some (decl_of p t) ≡ true

module _ (file : File) (p : Program) (described : Describes file p) (headers : HasHeaders p) where
  header_wants : (o : Option ℕ) → HasType p o → WantsDeclared p (header_wanted o)
  header_wants None there = tt
  header_wants (Some t) there = there

  arguments_want : (hs : Header) (ks : List Name) → Each (HasType p) hs → Each (λ u. WantsDeclared p u.wanted) (argument_uses (map header_wanted hs) ks)
  arguments_want [] ks there = tt
  arguments_want (h ∷ hs) [] there = tt
  arguments_want (h ∷ hs) (k ∷ ks) there = (header_wants h there.0, arguments_want hs ks there.1)

  named_want : (t : s.Ty) (n : Named) → IsWritten file p t n → Each (λ u. WantsDeclared p u.wanted) (named_uses file n)
  unfolding named_uses
  named_want t n x =
      rw x.stood.shaped
      (rw (ap (λ k. k == length n.keys) (length-map (header_in (Some x.stood.decl)) header_wanted) ∙ x.count)
      (arguments_want (header_in (Some x.stood.decl)) n.keys (headers.each x.stood.type x.stood.decl x.stood.there)))

  pub uses_want : (t : s.Ty) → ty_refused file t ≡ [] → Each (λ u. WantsDeclared p u.wanted) (ty_uses file t)
  unfolding owned_refused
  uses_want (s.int at) none = tt
  uses_want (s.bool at) none = tt
  uses_want (s.tracked k n at) none =
      let x = written file p described (s.tracked k n at) n none in
      (rw x.stood.named (ap is_some x.stood.there), named_want (s.tracked k n at) n x)
  uses_want (s.owning ss n at) none = named_want (s.owning ss n at) n (written file p described (s.owning ss n at) n (no_left _ _ none))
  uses_want (s.guarded k n) none = (tt, named_want (s.guarded k n) n (written file p described (s.guarded k n) n none))
  uses_want (s.plain n) none = named_want (s.plain n) n (written file p described (s.plain n) n none)

  pub result_wants : (out : ResultType) → result_type_refused file out ≡ [] → Each (λ u. WantsDeclared p u.wanted) (result_uses file out)
  result_wants (s.void at) none = tt
  result_wants (s.value t) none = uses_want t none

  pub parameters_want : (qs : List Parameter) → of_each (parameter_refused file) qs ≡ [] → Each (λ u. WantsDeclared p u.wanted) (parameter_uses file qs)
  parameters_want [] none = tt
  parameters_want (q ∷ qs) none =
      each_joined _ (ty_uses file q.ty) (parameter_uses file qs) (uses_want q.ty (no_left _ _ none)) (parameters_want qs (no_right (parameter_refused file q) _ none))

-- ---- what is refused nothing

module _ (file : File) (h : Head) where
  abbrev pub results : List KeyUse
  results = result_uses file h.result_type

  abbrev pub parameters : List KeyUse
  parameters = parameter_uses file h.parameters

  abbrev pub entries : List Entry
  entries = clause_in h.clause

  abbrev pub table : Keys
  table = all_keys results parameters entries

  pub table_is : keys_of file h ≡ table
  table_is = keys_are results parameters entries

  pub record IsPassed : Type 0 where
    pub result_type : result_type_refused file h.result_type ≡ []
    pub types : of_each (parameter_refused file) h.parameters ≡ []
    pub apart : AreApart entries
    pub wanted : Each (λ u. IsAsWanted table u.key u.wanted) parameters
    pub clashes : Each (λ u. result_clash table u ≡ []) results
    pub keys : Each (λ u. result_key_refused table u ≡ []) results
    pub entries_right : Each (λ e. entry_refused file table e ≡ []) entries
    pub variables : variables_refused file.globals table h.parameters entries ≡ []
    pub main : main_refused h ≡ []

  pub passed : head_refused file h ≡ [] → IsPassed
  unfolding head_refused_by types_refused clause_again typings_refused result_refused
  passed none =
      let after_types = no_right (types_refused file h) _ none in
      let after_names = no_right (names_refused file.globals (head_names file h)) _ after_types in
      let following_clause = no_right (clause_again results parameters entries) _ after_names in
      let after_typings = no_right (typings_refused (places_after results parameters entries) results parameters) _ following_clause in
      let following_result = no_right (result_refused (keys_after results parameters entries) results) _ after_typings in
      let after_entries = no_right (of_each (entry_refused file (keys_after results parameters entries)) entries) _ following_result in
      let typings = no_left (typings_refused (places_after results parameters entries) results parameters) _ following_clause in
      let result = no_left (result_refused (keys_after results parameters entries) results) _ after_typings in
      record {
        result_type = no_left _ _ (no_left (types_refused file h) _ none);
        types = no_right (result_type_refused file h.result_type) _ (no_left (types_refused file h) _ none);
        apart = apart _ entries (no_left (clause_again results parameters entries) _ after_names);
        wanted = unclashed _ parameters (sym (ap (λ keys. typings_refused keys results parameters) (places_are results parameters entries)) ∙ typings);
        clashes = rw table_is at (none_in_each (result_clash (keys_of file h)) results (no_left _ _ result));
        keys = rw table_is at (none_in_each (result_key_refused (keys_of file h)) results (no_right (of_each (result_clash (keys_of file h)) results) _ result));
        entries_right = rw table_is at (none_in_each (entry_refused file (keys_of file h)) entries (no_left _ _ following_result));
        variables = rw table_is at (no_left (variables_refused file.globals (keys_of file h) h.parameters entries) _ after_entries);
        main = no_right (variables_refused file.globals (keys_of file h) h.parameters entries) _ after_entries;
      }

-- ---- what follows for each key

module _ (file : File) (p : Program) (described : Describes file p) (headers : HasHeaders p) (h : Head) (pass : IsPassed file h) where
  abbrev keys : Keys
  keys = table file h

  -- no unknown name leaves a key's type open
  pub closed : (j : List ℕ) → (facts_of keys j).is_left_open ≡ false
  closed j = by (facts_of keys j).is_left_open refl
    where
      never : (w : Wanted) → is_unknown w ≡ true → WantsDeclared p w → ⊥
      never wanted.Any e x = true≢false (sym e)
      never wanted.Unknown e x = x
      never (wanted.OfType t) e x = true≢false (sym e)

      by : (b : Bool) → (facts_of keys j).is_left_open ≡ b → (facts_of keys j).is_left_open ≡ false
      by true is = absurd (from_each _ _ (λ u a b. never u.wanted a.1 b) (parameters file h) (left_open_from (results file h) (parameters file h) (entries file h) j is) (parameters_want file p described headers h.parameters pass.types))
      by false is = is

  -- a key is `new`, or stands in a parameter
  abbrev pub IsBound : List ℕ → Type 0
  IsBound j = ((facts_of keys j).is_fresh ≡ true) ⊎ ((facts_of keys j).in_parameters ≡ true)

  entry_bound : (e : Entry) → entry_refused file keys e ≡ [] → (is_fresh e ≡ true → (facts_of keys (key_of e)).is_fresh ≡ true) → IsBound (key_of e)
  unfolding entry_refused
  entry_bound e none fresh = by (is_fresh e) refl (no_left _ _ none)
    where
      by : (b : Bool) → is_fresh e ≡ b → entry_key_refused (facts_of keys (key_of e)) b (entry_key e).at.from ≡ [] → IsBound (key_of e)
      by true is none = inl (fresh is)
      by false is none = inr (not-false _ (not_broken _ rule.CLAUSE_KEY_UNBOUND _ none))

  use_bound : (u : KeyUse) → result_key_refused keys u ≡ [] → IsBound u.key
  unfolding result_key_refused
  use_bound u none = or_cases _ _ (not-false _ (not_broken _ rule.RESULT_KEY _ none))

  pub bound : (j : List ℕ) → IsIn keys j → IsBound j
  bound j x = ⊎_elim (λ a. from_result a) (λ b. ⊎_elim (λ c. from_parameter c) (λ d. from_entry d) b) (comes_from (results file h) (parameters file h) (entries file h) j x)
    where
      from_result : SomeOf (λ u. j ≡ u.key) (results file h) → IsBound j
      from_result a = from_each _ _ (λ u is none. subst IsBound (sym is) (use_bound u none)) (results file h) a pass.keys

      from_parameter : SomeOf (λ u. j ≡ u.key) (parameters file h) → IsBound j
      from_parameter a = from_each _ _ (λ u is there. inr (subst (λ k. (facts_of keys k).in_parameters ≡ true) (sym is) there)) (parameters file h) a (in_parameters_all (results file h) (parameters file h) (entries file h))

      from_entry : SomeOf (λ e. j ≡ key_of e) (entries file h) → IsBound j
      from_entry a = from_each _ _ (λ e is both. subst IsBound (sym is) both) (entries file h) a
          (each_both _ _ (λ e. IsBound (key_of e)) (λ e none fresh. entry_bound e none fresh) (entries file h) pass.entries_right (fresh_all (results file h) (parameters file h) (entries file h)))

  -- the places of the result say what is so
  pub results_wanted : Each (λ u. IsAsWanted keys u.key u.wanted) (results file h)
  unfolding result_clash
  results_wanted = each_both _ _ (λ u. IsAsWanted keys u.key u.wanted) (λ u none key. by u u.wanted refl (use_bound u key) none) (results file h) pass.clashes pass.keys
    where
      is_so : (f : Facts) → ((f.is_fresh ≡ true) ⊎ (f.in_parameters ≡ true)) → f.is_left_open ≡ false → is_bound f ≡ true
      is_so f either shut = rw shut (⊎_elim (λ a. rw a (one f.in_parameters)) (λ b. rw b refl) either)
        where
          one : (b : Bool) → ((b || true) && true) ≡ true
          one true = refl
          one false = refl

      typed : (u : KeyUse) (t : ℕ) (o : Option Typing) → typing_at keys u.key ≡ o → IsBound u.key → result_clash_with (facts_of keys u.key) o (wanted.OfType t) u.tracked u.at ≡ [] → IsOfType keys u.key t
      typed u t None is some none = absurd (true≢false (sym (is_so (facts_of keys u.key) some (closed u.key)) ∙ not_broken _ rule.KEY_ARGUMENT u.at none))
      typed u t (Some had) is some none = (had, is, eqb-true had.type_id t (not-false _ (not_broken _ (type_rule u.tracked) (result_place had u.tracked u.at) none)))

      by : (u : KeyUse) (w : Wanted) → u.wanted ≡ w → IsBound u.key → result_clash keys u ≡ [] → IsAsWanted keys u.key w
      by u wanted.Any is some none = tt
      by u wanted.Unknown is some none = tt
      by u (wanted.OfType t) is some none = typed u t (typing_at keys u.key) refl some (sym (ap (λ w. result_clash_with (facts_of keys u.key) (typing_at keys u.key) w u.tracked u.at) is) ∙ none)

  -- the type of a key that isn't `new` is what some parameter's place wants
  pub typed_by : (j : List ℕ) (had : Typing) → typing_at keys j ≡ Some had → ((facts_of keys j).is_fresh ≡ true) ⊎ SomeOf (λ u. (j ≡ u.key) × (u.wanted ≡ wanted.OfType had.type_id)) (parameters file h)
  typed_by j had is = ⊎_elim (λ a. inl a) (λ b. inr (some_in _ _ _ (λ u x y. (x.0, same u.wanted x.1 (subst (λ k. IsAsWanted keys k u.wanted) (sym x.0) y))) (parameters file h) b pass.wanted))
      (typing_from (results file h) (parameters file h) (entries file h) j had is)
    where
      same : (w : Wanted) → SaysType w → IsAsWanted keys j w → w ≡ wanted.OfType had.type_id
      same wanted.Any x y = absurd x
      same wanted.Unknown x y = absurd x
      same (wanted.OfType t) x y = ap wanted.OfType (sym y.2 ∙ ap (λ g. g.type_id) (same_Some y.0 had (sym y.1 ∙ is)))
