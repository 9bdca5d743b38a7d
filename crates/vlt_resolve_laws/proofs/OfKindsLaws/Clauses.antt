-- The types, the keys and the clause of a head break nothing.
use Rattle.std.proofs.Common.{◌≡◌, ℕ, suc, ◌+◌, nat_lt, Bool, true, false, ◌==◌, is_some, if◌then◌else◌, List, [], ◌∷◌, ◌++◌, map, length, Option, Some, None, slice_get, option_map, ⊎_elim, refl, sym, ap, ap₂, ◌∙◌, subst, arith}
use Rattle.std.specs.List.{flat_map}
use Rattle.std.proofs.lemmas.Bool.{eq-eqb}
use Rattle.std.proofs.lemmas.Option.{none-some, same_Some}
use Rattle.vlt_syntax.specs.Tree as s
use Rattle.vlt_syntax.specs.Tree.{Entry, Head, Parameter, ResultType}
use Rattle.vlt_syntax.specs.Lists.{Each}
use Rattle.vlt_core.specs.Core as core
use Rattle.vlt_core.specs.Core.{KeyDecl, Func, Program}
use Rattle.vlt_core.specs.Types.{decl_of}
use Rattle.vlt_core.specs.KindedHeads.{Rules, unless, when_some, has, are_apart, Typing, own_typings, typings, given_types, are_all, is_only_type, argument_broken, reference_broken, type_broken, key_broken, listed_broken}
use Rattle.vlt_core.specs.declared.rules.TheConstants as rule
use Rattle.vlt_kinds_types.specs.Names.Refusals.{of_each}
use Rattle.vlt_kinds_types.specs.declared.shapes.Wanted.{Wanted}
use Rattle.vlt_kinds_types.specs.declared.shapes.Wanted.TheVariants as wanted
use Rattle.vlt_kinds_types.specs.Files.{File, type_named, wanted_type}
use Rattle.vlt_kinds_types.specs.Types.{KeyUse, ty_uses, ty_refused, core_ty}
use Rattle.vlt_kinds_heads.specs.Places.{result_uses, parameter_uses}
use Rattle.vlt_kinds_heads.specs.Keys.{Keys}
use Rattle.vlt_kinds_heads.specs.Heads.{result_type_refused, parameter_refused}
use Rattle.vlt_kinds_heads.specs.Phase.{key_number, key_decl, core_entry, core_result, core_parameter}
use Rattle.vlt_kinds_heads.specs.declared.facts.Facts.{Facts}
use Rattle.vlt_kinds_heads.specs.declared.facts.Typing.{Typing as Given}
use Rattle.vlt_resolve_laws.specs.KindsLaws.Shapes.{Describes, HasHeaders}
use Rattle.vlt_resolve_laws.proofs.OfKindsLaws.Empty.{no_left, no_right, none_of_both, none_of_each, holds}
use Rattle.vlt_resolve_laws.proofs.OfKindsLaws.Types.{ty_unbroken}
use Rattle.vlt_resolve_laws.proofs.OfKindsLaws.Written.{ty_well, written}
use Rattle.vlt_resolve_laws.proofs.OfKindsLaws.Uses.{keys_are_uses, ty_typings}
use Rattle.vlt_resolve_laws.proofs.OfKindsLaws.Parts.{typings_in, each_number, WhereTyped, each_typing, each_both, each_other}
use Rattle.vlt_resolve_laws.proofs.OfKindsLaws.Rows.{each_joined}
use Rattle.vlt_resolve_laws.proofs.OfKindsLaws.Tables.{IsIn, facts_found, at_number}
use Rattle.vlt_resolve_laws.proofs.OfKindsLaws.Folds.{typing_at, IsOfType, IsAsWanted}
use Rattle.vlt_resolve_laws.proofs.OfKindsLaws.Known.{key_of, from_each, is_table, results_in, parameters_all_in, entries_in, AreApart}
use Rattle.vlt_resolve_laws.proofs.OfKindsLaws.Places.{results, parameters, entries, table, IsPassed, WantsDeclared, parameters_want, results_wanted, typed_by}
use Rattle.vlt_resolve_laws.proofs.OfKindsLaws.Core.{some_has, entry_number, IsFunc, Gives, same_key, key_within, IsResultKey, result_key, type_of_key, of_type, gives}

-- ---- lists

each_front : {A : Type 0} (P : A → Type 0) (xs ys : List A) → Each P (xs ++ ys) → Each P xs
each_front P [] ys e = tt
each_front P (x ∷ xs) ys e = (e.0, each_front P xs ys e.1)

each_back : {A : Type 0} (P : A → Type 0) (xs ys : List A) → Each P (xs ++ ys) → Each P ys
each_back P [] ys e = e
each_back P (x ∷ xs) ys e = each_back P xs ys e.1

own_in : (P : Typing → Type 0) (p : Program) (ty : core.Ty) → Each P (typings p ty) → Each P (own_typings ty)
own_in P p core.int each = tt
own_in P p core.bool each = tt
own_in P p (core.tracked k t args) each = (each.0, tt)
own_in P p (core.owning states t args) each = tt
own_in P p (core.guarded k t args) each = tt
own_in P p (core.variant t args) each = tt
own_in P p (core.owning_variant t args) each = tt

-- ---- the types that a key is given

pub all_same : (o : Option ℕ) (t : ℕ) (us : List ℕ) → o ≡ Some t → Each (λ u. o ≡ Some u) us → are_all t us ≡ true
all_same o t [] is each = refl
all_same o t (u ∷ us) is each = rw (eq-eqb u t (same_Some u t (sym each.0 ∙ is))) (all_same o t us is each.1)

pub only_type : (o : Option ℕ) (ts : List ℕ) → Gives o ts → (t : ℕ) → o ≡ Some t → is_only_type t ts ≡ true
only_type o [] given t is = absurd (given.some t is)
only_type o (u ∷ us) given t is = all_same o t (u ∷ us) is given.each

abbrev pub refers : (type : ℕ) → List ℕ → Rules
refers t [] = rule.KEY_ARGUMENT ∷ []
refers t (u ∷ us) = unless (are_all t (u ∷ us)) rule.TWO_KEY_TYPES

pub refers_right : (o : Option ℕ) (ts : List ℕ) → Gives o ts → (t : ℕ) → o ≡ Some t → refers t ts ≡ []
refers_right o [] given t is = absurd (given.some t is)
refers_right o (u ∷ us) given t is = holds (are_all t (u ∷ us)) rule.TWO_KEY_TYPES (all_same o t (u ∷ us) is given.each)

abbrev pub listed_as : Option ℕ → ℕ → Rules
listed_as None u = rule.WRONG_TYPE ∷ []
listed_as (Some t) u = unless (t == u) rule.WRONG_TYPE

abbrev pub agrees : Option ℕ → List ℕ → Rules
agrees None [] = []
agrees (Some t) [] = rule.WRONG_TYPE ∷ []
agrees listed (u ∷ us) = if are_all u us then listed_as listed u else rule.TWO_KEY_TYPES ∷ []

pub agrees_right : (o : Option ℕ) (ts : List ℕ) → Gives o ts → agrees o ts ≡ []
agrees_right None [] given = refl
agrees_right (Some t) [] given = absurd (given.some t refl)
agrees_right None (u ∷ us) given = absurd (none-some u given.each.0)
agrees_right (Some t) (u ∷ us) given =
    rw (all_same (Some t) u us given.each.0 given.each.1) (holds (t == u) rule.WRONG_TYPE (eq-eqb t u (same_Some t u given.each.0)))

pub if_both : (b : Bool) (rules : Rules) → rules ≡ [] → (if b then [] else rules) ≡ []
if_both true rules e = refl
if_both false rules e = e

module _ (file : File) (p : Program) (described : Describes file p) (headers : HasHeaders p) (h : Head) (pass : IsPassed file h) (external : Bool) (f : Func)
    (func : IsFunc file (table file h) h external f) where
  abbrev keys : Keys
  keys = table file h

  abbrev number : List ℕ → ℕ
  number = key_number keys

  abbrev type_at : List ℕ → Option ℕ
  type_at j = type_of_key file p described headers h pass external f func j

  given : (j : List ℕ) → IsIn keys j → Gives (type_at j) (given_types p f (number j))
  given j x = gives file p described headers h pass external f func j x

  -- ---- types

  argument_unbroken : (j : List ℕ) (t : ℕ) → IsIn keys j → IsOfType keys j t → argument_broken p f (number j) t ≡ []
  argument_unbroken j t x is =
      if_both _ _ (holds _ rule.KEY_ARGUMENT (only_type (type_at j) (given_types p f (number j)) (given j x) t (of_type file p described headers h pass external f func j t is)))

  reference_unbroken : (j : List ℕ) (t : ℕ) → IsIn keys j → IsOfType keys j t → reference_broken p f (record { key = number j; type = t }) ≡ []
  reference_unbroken j t x is =
      if_both _ (refers t (given_types p f (number j))) (refers_right (type_at j) (given_types p f (number j)) (given j x) t (of_type file p described headers h pass external f func j t is))

  pub type_unbroken : (t : s.Ty) → ty_refused file t ≡ [] → Each (λ u. IsIn keys u.key) (ty_uses file t) → Each (λ u. IsAsWanted keys u.key u.wanted) (ty_uses file t)
      → type_broken p f (core_ty file number t) ≡ []
  type_unbroken t none there want =
      none_of_both _ _
      (ty_unbroken p (λ k. unless (nat_lt k (length f.keys)) rule.UNKNOWN_NAME) (argument_broken p f) (core_ty file number t) (ty_well file p described t number none)
      (rw (keys_are_uses file number t) (each_number (λ k. unless (nat_lt k (length f.keys)) rule.UNKNOWN_NAME ≡ []) number (ty_uses file t)
      (each_other _ _ (λ u x. holds _ rule.UNKNOWN_NAME (key_within file p described headers h pass external f func u.key x)) (ty_uses file t) there)))
      (typings_in (argument_broken p f) p (core_ty file number t)
      (rw (ty_typings file p described number t none) (each_typing (λ k t. argument_broken p f k t ≡ []) number (ty_uses file t) (typed (λ k t. argument_broken p f k t ≡ []) argument_unbroken)))))
      (none_of_each (reference_broken p f) (own_typings (core_ty file number t)) (own_in (λ x. reference_broken p f x ≡ []) p (core_ty file number t)
      (rw (ty_typings file p described number t none) (each_typing (λ k t. reference_broken p f (record { key = k; type = t }) ≡ []) number (ty_uses file t)
      (typed (λ k t. reference_broken p f (record { key = k; type = t }) ≡ []) reference_unbroken)))))
    where
      typed : (P : (key type : ℕ) → Type 0) → ((j : List ℕ) (t : ℕ) → IsIn keys j → IsOfType keys j t → P (number j) t) → Each (λ u. WhereTyped P (number u.key) u.wanted) (ty_uses file t)
      typed P go = each_both _ _ (λ u. WhereTyped P (number u.key) u.wanted) (λ u x w. by u u.wanted x w) (ty_uses file t) there want
        where
          by : (u : KeyUse) (w : Wanted) → IsIn keys u.key → IsAsWanted keys u.key w → WhereTyped P (number u.key) w
          by u wanted.Any x is = tt
          by u wanted.Unknown x is = tt
          by u (wanted.OfType t) x is = go u.key t x is

  parameters_unbroken : (qs : List Parameter) → of_each (parameter_refused file) qs ≡ [] → Each (λ u. IsIn keys u.key) (parameter_uses file qs) → Each (λ u. IsAsWanted keys u.key u.wanted) (parameter_uses file qs)
      → Each (λ d. type_broken p f d.ty ≡ []) (map (core_parameter file keys) qs)
  parameters_unbroken [] none there want = tt
  parameters_unbroken (q ∷ qs) none there want = (
    type_unbroken q.ty (no_left _ _ none) (each_front _ (ty_uses file q.ty) (parameter_uses file qs) there) (each_front _ (ty_uses file q.ty) (parameter_uses file qs) want),
    parameters_unbroken qs (no_right (parameter_refused file q) _ none) (each_back _ (ty_uses file q.ty) (parameter_uses file qs) there) (each_back _ (ty_uses file q.ty) (parameter_uses file qs) want),
  )

  pub variables_unbroken : Each (λ d. type_broken p f d.ty ≡ []) func.more_vars → flat_map (λ d. type_broken p f d.ty) f.vars ≡ []
  variables_unbroken more =
      ap (flat_map (λ d. type_broken p f d.ty)) func.vars
      ∙ none_of_each (λ d. type_broken p f d.ty) (map (core_parameter file keys) h.parameters ++ func.more_vars)
      (each_joined _ (map (core_parameter file keys) h.parameters) func.more_vars
      (parameters_unbroken h.parameters pass.types (parameters_all_in (results file h) (parameters file h) (entries file h)) pass.wanted) more)

  pub result_unbroken : when_some f.result (type_broken p f) ≡ []
  result_unbroken = ap (λ o. when_some o (type_broken p f)) func.result ∙ by h.result_type refl
    where
      by : (out : ResultType) → h.result_type ≡ out → when_some (core_result file keys out) (type_broken p f) ≡ []
      by (s.void at) is = refl
      by (s.value t) is =
          type_unbroken t (sym (ap (result_type_refused file) is) ∙ pass.result_type)
          (subst (λ out. Each (λ u. IsIn keys u.key) (result_uses file out)) is (results_in (results file h) (parameters file h) (entries file h)))
          (subst (λ out. Each (λ u. IsAsWanted keys u.key u.wanted) (result_uses file out)) is (results_wanted file p described headers h pass))

  -- ---- keys

  -- the type of a key is declared
  pub typed_declared : (j : List ℕ) (had : Given) → typing_at keys j ≡ Some had → is_some (decl_of p had.type_id) ≡ true
  typed_declared j had is = ⊎_elim (λ fresh. by_result (result_key file p described headers h pass external f func j fresh))
      (λ some. from_each _ _ (λ u x want. subst (WantsDeclared p) x.1 want) (parameters file h) some (parameters_want file p described headers h.parameters pass.types)) (typed_by file p described headers h pass j had is)
    where
      wanted_there : (w : Wanted) → IsAsWanted keys j w → WantsDeclared p w → ((t : ℕ) → w ≡ wanted.OfType t → IsOfType keys j t × (is_some (decl_of p t) ≡ true))
      wanted_there wanted.Any x y t e = cc
      wanted_there wanted.Unknown x y t e = cc
      wanted_there (wanted.OfType u) x y t e = subst (λ w. IsAsWanted keys j w × WantsDeclared p w) e (x, y)

      by_result : IsResultKey file p described headers h pass external f func j → is_some (decl_of p had.type_id) ≡ true
      by_result x =
          let none : ty_refused file (s.tracked x.key x.type x.at) ≡ [] = sym (ap (result_type_refused file) x.result_type) ∙ pass.result_type in
          let w = written file p described (s.tracked x.key x.type x.at) x.type none in
          let wants : IsAsWanted keys x.key.text (wanted_type (type_named file x.type.name)) =
          (subst (λ out. Each (λ u. IsAsWanted keys u.key u.wanted) (result_uses file out)) x.result_type (results_wanted file p described headers h pass)).0 in
          let typed : IsOfType keys j w.stood.type = subst (λ k. IsOfType keys k w.stood.type) (sym x.same) (rw w.stood.named at wants) in
          let same : w.stood.type ≡ had.type_id = sym typed.2 ∙ ap (λ g. g.type_id) (same_Some typed.0 had (sym typed.1 ∙ is)) in
          subst (λ t. is_some (decl_of p t) ≡ true) same (ap is_some w.stood.there)

  declared_unbroken : (o : Option ℕ) → ((t : ℕ) → o ≡ Some t → is_some (decl_of p t) ≡ true) → when_some o (λ t. unless (is_some (decl_of p t)) rule.NOT_A_TYPE) ≡ []
  declared_unbroken None go = refl
  declared_unbroken (Some t) go = holds _ rule.NOT_A_TYPE (go t refl)

  key_unbroken : (i : ℕ) (e : List ℕ × Facts) → slice_get keys i ≡ Some e → key_broken p f i (key_decl e) ≡ []
  key_unbroken i e at =
      let x = at_number keys i e (is_table (results file h) (parameters file h) (entries file h)) at in
      let facts = facts_found keys e.0 e.1 x.1 in
      let right : Gives (option_map (λ t. t.type_id) e.1.typing) (given_types p f i) = subst₂' (ap (λ g. option_map (λ t. t.type_id) g.typing) facts) x.0 (given e.0 (e.1, x.1)) in
      none_of_both _ _ (declared_unbroken (option_map (λ t. t.type_id) e.1.typing) (λ t is. typed t (e.1.typing) (ap (λ g. g.typing) facts) is)) (agrees_right (option_map (λ t. t.type_id) e.1.typing) (given_types p f i) right)
    where
      subst₂' : {a b : Option ℕ} → a ≡ b → number e.0 ≡ i → Gives a (given_types p f (number e.0)) → Gives b (given_types p f i)
      subst₂' {a} {b} ab ni g = subst (λ k. Gives b (given_types p f k)) ni (subst (λ o. Gives o (given_types p f (number e.0))) ab g)

      typed : (t : ℕ) (o : Option Given) → typing_at keys e.0 ≡ o → option_map (λ t. t.type_id) o ≡ Some t → is_some (decl_of p t) ≡ true
      typed t None had is = absurd (none-some t is)
      typed t (Some g) had is = subst (λ t. is_some (decl_of p t) ≡ true) (same_Some g.type_id t is) (typed_declared e.0 g had)

  listed_each : (n : ℕ) (es : Keys) → ((i : ℕ) (e : List ℕ × Facts) → slice_get es i ≡ Some e → key_broken p f (n + i) (key_decl e) ≡ []) → listed_broken p f n (map key_decl es) ≡ []
  listed_each n [] each = refl
  listed_each n (e ∷ es) each =
      none_of_both _ _ (subst (λ k. key_broken p f k (key_decl e) ≡ []) (plus_zero n) (each 0 e refl))
      (listed_each (suc n) es (λ i x at. subst (λ k. key_broken p f k (key_decl x) ≡ []) (moved n i) (each (suc i) x at)))
    where
      plus_zero : (n : ℕ) → n + 0 ≡ n
      plus_zero n = omega arith

      moved : (n i : ℕ) → n + suc i ≡ suc n + i
      moved n i = omega arith

  listed_joined : (n : ℕ) (ds more : List KeyDecl) → listed_broken p f n ds ≡ [] → listed_broken p f (n + length ds) more ≡ [] → listed_broken p f n (ds ++ more) ≡ []
  listed_joined n [] more e m = subst (λ k. listed_broken p f k more ≡ []) (plus_zero n) m
    where
      plus_zero : (n : ℕ) → n + 0 ≡ n
      plus_zero n = omega arith
  listed_joined n (d ∷ ds) more e m =
      none_of_both _ _ (no_left (key_broken p f n d) _ e)
      (listed_joined (suc n) ds more (no_right (key_broken p f n d) _ e) (subst (λ k. listed_broken p f k more ≡ []) (moved n (length ds)) m))
    where
      moved : (n i : ℕ) → n + suc i ≡ suc n + i
      moved n i = omega arith

  pub keys_unbroken : listed_broken p f (length (map key_decl keys)) func.more_keys ≡ [] → listed_broken p f 0 f.keys ≡ []
  keys_unbroken more =
      ap (listed_broken p f 0) func.keys_are
      ∙ listed_joined 0 (map key_decl keys) func.more_keys (listed_each 0 keys (λ i e at. subst (λ k. key_broken p f k (key_decl e) ≡ []) (zero_more i) (key_unbroken i e at)))
      (subst (λ k. listed_broken p f k func.more_keys ≡ []) (zero_more (length (map key_decl keys))) more)
    where
      zero_more : (n : ℕ) → n ≡ 0 + n
      zero_more n = omega arith

  -- ---- the clause

  not_among : (e : Entry) (es : List Entry) → IsIn keys (key_of e) → Each (λ x. IsIn keys (key_of x)) es → Each (λ x. key_of e ≡ key_of x → ⊥) es
      → has (map (λ x. x.key) (map (core_entry file keys) es)) (core_entry file keys e).key ≡ false
  not_among e es x there other = by (has (map (λ x. x.key) (map (core_entry file keys) es)) (core_entry file keys e).key) refl
    where
      numbers : (es : List Entry) → map (λ x. x.key) (map (core_entry file keys) es) ≡ map (λ e. number (key_of e)) es
      numbers [] = refl
      numbers (e ∷ es) = ap₂ (λ k ks. k ∷ ks) (entry_number file keys e) (numbers es)

      by : (b : Bool) → has (map (λ x. x.key) (map (core_entry file keys) es)) (core_entry file keys e).key ≡ b → b ≡ false
      by true is = absurd (from_each _ (λ y. IsIn keys (key_of y) × (key_of e ≡ key_of y → ⊥)) (λ y same both. both.1 (same_key file p described headers h pass external f func (key_of e) (key_of y) x both.0 (sym same))) es
          (some_has (λ e. number (key_of e)) (number (key_of e)) es (sym (ap₂ has (numbers es) (entry_number file keys e)) ∙ is)) (each_both _ _ _ (λ y a b. (a, b)) es there other))
      by false is = refl

  apart_numbers : (es : List Entry) → Each (λ x. IsIn keys (key_of x)) es → AreApart es → are_apart (map (λ x. x.key) (map (core_entry file keys) es)) ≡ true
  apart_numbers [] there other = refl
  apart_numbers (e ∷ es) there other = rw (not_among e es there.0 there.1 other.0) (apart_numbers es there.1 other.1)

  pub clause_apart : are_apart (map (λ e. e.key) f.clause) ≡ true
  clause_apart = ap (λ es. are_apart (map (λ e. e.key) es)) func.clause ∙ apart_numbers (entries file h) (entries_in (results file h) (parameters file h) (entries file h)) pass.apart
