-- What the code asks of arguments and clauses is what the definition asks.
use Rattle.std.proofs.Common.{◌≡◌, ℕ, suc, ◌<◌, ◌==◌, Bool, true, false, not, ◌&&◌, ◌||◌, if◌then◌else◌, List, [], ◌∷◌, ◌++◌, length, map, filter, Option, Some, None, refl, sym, ap, ◌∙◌, subst, arith, slice_get}
use Rattle.std.specs.List.{list_all, list_any}
use Rattle.std.proofs.lemmas.Option.{none-some, same_Some, slice_get_past}
use Rattle.std.proofs.lemmas.List.FromFn.{get_or-map-range_with_len}
use Rattle.vlt_core.specs.Core.{Ty, int, bool, tracked, owning, guarded, variant, owning_variant, Entry, Func, Program}
use Rattle.vlt_core.specs.Lookups.{is_held_before}
use Rattle.vlt_core.specs.Types.{stands_for}
use Rattle.vlt_core.specs.KindedHeads.{has, are_apart, parameters_of}
use Rattle.vlt_meaning.specs.World.{Object}
use Rattle.vlt_meaning.specs.Calls.{Binding}
use Rattle.vlt_host_meaning.specs.Calls.{Argument, number, object}
use Rattle.vlt_host_meaning.specs.HostFrame.{host_holds}
use Rattle.vlt_host_meaning.specs.Permitted.{argument_fits, arguments_fit, argument_bindings, object_of_key, have_one_object, or_unused, host_keys, entries_before, keys_before, is_object_in, permitted_states, are_in_states}
use Rattle.vlt_host_acts.specs.Permits.Arguments.{name_in, named_in, is_same, names_apart, call_fits, HasClauseKeys}

both : (a b : Bool) → (a && b) ≡ true → (a ≡ true) × (b ≡ true)
both true b e = (refl, e)
both false b e = cc

-- ---- bindings one after another

pub first_some : (xs ys : List Binding) (k n : ℕ) → object_of_key xs k ≡ Some n → object_of_key (xs ++ ys) k ≡ Some n
first_some [] ys k n e = absurd (none-some n e)
first_some (b ∷ xs) ys k n e = by (b.key == k) (first_some xs ys k n) e
  where
    by : (c : Bool) → (object_of_key xs k ≡ Some n → object_of_key (xs ++ ys) k ≡ Some n) → (if c then Some b.number else object_of_key xs k) ≡ Some n →
        (if c then Some b.number else object_of_key (xs ++ ys) k) ≡ Some n
    by true rest e = e
    by false rest e = rest e

pub first_none : (xs ys : List Binding) (k : ℕ) → object_of_key xs k ≡ None → object_of_key (xs ++ ys) k ≡ object_of_key ys k
first_none [] ys k e = refl
first_none (b ∷ xs) ys k e = by (b.key == k) (first_none xs ys k) e
  where
    by : (c : Bool) → (object_of_key xs k ≡ None → object_of_key (xs ++ ys) k ≡ object_of_key ys k) → (if c then Some b.number else object_of_key xs k) ≡ None →
        (if c then Some b.number else object_of_key (xs ++ ys) k) ≡ object_of_key ys k
    by true rest e = absurd (none-some b.number (sym e))
    by false rest e = rest e

pub all_both : {A : Type 0} (P : A → Bool) (xs ys : List A) → list_all P (xs ++ ys) ≡ (list_all P xs && list_all P ys)
all_both P [] ys = refl
all_both P (x ∷ xs) ys = ap (λ b. P x && b) (all_both P xs ys) ∙ grouped (P x) (list_all P xs) (list_all P ys)
  where
    grouped : (a b c : Bool) → (a && (b && c)) ≡ ((a && b) && c)
    grouped true b c = refl
    grouped false b c = refl

-- ---- arguments that fit

-- the host holds each object that is given for a key
given_held : (objects : List Object) (tys : List Ty) (args : List Argument) → arguments_fit objects tys args ≡ true → (k n : ℕ) →
    object_of_key (argument_bindings tys args) k ≡ Some n → host_holds objects n ≡ true
given_held objects [] args fit k n e = absurd (none-some n e)
given_held objects (t ∷ ts) [] fit k n e = absurd (none-some n e)
given_held objects (tracked j u xs ∷ ts) (object m ∷ rest) fit k n e =
    let b = both (argument_fits objects (tracked j u xs) (object m)) (arguments_fit objects ts rest) fit in
    by (j == k) (both (host_holds objects m) _ b.0).0 (given_held objects ts rest b.1 k n) e
  where
    by : (c : Bool) → host_holds objects m ≡ true → (object_of_key (argument_bindings ts rest) k ≡ Some n → host_holds objects n ≡ true) →
        (if c then Some m else object_of_key (argument_bindings ts rest) k) ≡ Some n → host_holds objects n ≡ true
    by true held more e = subst (λ i. host_holds objects i ≡ true) (same_Some m n e) held
    by false held more e = more e
given_held objects (int ∷ ts) (number z ∷ rest) fit k n e = given_held objects ts rest fit k n e
given_held objects (bool ∷ ts) (number z ∷ rest) fit k n e =
    given_held objects ts rest (both (argument_fits objects bool (number z)) (arguments_fit objects ts rest) fit).1 k n e
given_held objects (int ∷ ts) (object m ∷ rest) fit k n e = cc
given_held objects (bool ∷ ts) (object m ∷ rest) fit k n e = cc
given_held objects (tracked j u xs ∷ ts) (number z ∷ rest) fit k n e = cc
given_held objects (owning s u xs ∷ ts) (a ∷ rest) fit k n e = cc
given_held objects (guarded j u xs ∷ ts) (a ∷ rest) fit k n e = cc
given_held objects (variant u xs ∷ ts) (a ∷ rest) fit k n e = cc
given_held objects (owning_variant u xs ∷ ts) (a ∷ rest) fit k n e = cc

-- ---- entries

abbrev HaveKeys : (count : ℕ) → List Entry → Type 0
HaveKeys count [] = Unit {0}
HaveKeys count (e ∷ es) = (e.key < count) × HaveKeys count es

have_keys : (count : ℕ) (es : List Entry) → ((i : ℕ) (e : Entry) → slice_get es i ≡ Some e → is_held_before e ≡ true → e.key < count) →
    HaveKeys count (filter is_held_before es)
have_keys count [] each = tt
have_keys count (e ∷ es) each =
    by (is_held_before e) refl (have_keys count es (λ i x at. each (suc i) x at))
  where
    by : (b : Bool) → is_held_before e ≡ b → HaveKeys count (filter is_held_before es) →
        HaveKeys count (if b then e ∷ filter is_held_before es else filter is_held_before es)
    by true h rest = (each 0 e refl h, rest)
    by false h rest = rest

module _ (p : Program) (f : Func) (args : List Argument) (objects : List Object) (fit : arguments_fit objects (parameters_of f) args ≡ true) where
  abbrev bs : List Binding
  bs = argument_bindings (parameters_of f) args

  abbrev keys : List ℕ
  keys = host_keys f args objects

  abbrev name : Entry → Option ℕ
  name e = object_of_key bs e.key

  abbrev stands : Entry → ℕ
  stands e = stands_for keys e.key

  abbrev is_in : Entry → Bool
  is_in e = is_object_in (permitted_states p f e e.mode) (slice_get objects (stands e))

  stood : (e : Entry) → e.key < length f.keys → stands e ≡ or_unused (length objects) (name e)
  stood e within = get_or-map-range_with_len (λ k. or_unused (length objects) (object_of_key bs k)) 0 (length f.keys) e.key e.key 0 within (omega arith)

  named_stands : (e : Entry) (n : ℕ) → e.key < length f.keys → name e ≡ Some n → stands e ≡ n
  named_stands e n within is = stood e within ∙ ap (or_unused (length objects)) is

  same_in : (e : Entry) → e.key < length f.keys → named_in p f bs objects e ≡ is_in e
  same_in e within = by (name e) refl
    where
      by : (o : Option ℕ) → name e ≡ o → named_in p f bs objects e ≡ is_in e
      by None is =
          let unused : stands e ≡ length objects = stood e within ∙ ap (or_unused (length objects)) is in
          ap (name_in p f objects e) is ∙
          sym (ap (λ n. is_object_in (permitted_states p f e e.mode) (slice_get objects n)) unused ∙
          ap (is_object_in (permitted_states p f e e.mode)) (slice_get_past objects (length objects) (omega arith)))
      by (Some n) is =
          let held = given_held objects (parameters_of f) args fit e.key n is in
          ap (name_in p f objects e) is ∙
          (ap (λ b. b && is_object_in (permitted_states p f e e.mode) (slice_get objects n)) held ∙
          ap (λ m. is_object_in (permitted_states p f e e.mode) (slice_get objects m)) (sym (named_stands e n within is)))

  all_in : (es : List Entry) → HaveKeys (length f.keys) es → list_all (named_in p f bs objects) es ≡ list_all is_in es
  all_in [] k = refl
  all_in (e ∷ es) k = ap (λ b. b && list_all (named_in p f bs objects) es) (same_in e k.0) ∙ ap (λ b. is_in e && b) (all_in es k.1)

  named : (e : Entry) → named_in p f bs objects e ≡ true → (n : ℕ) × (name e ≡ Some n)
  named e so = by (name e) refl
    where
      by : (o : Option ℕ) → name e ≡ o → (n : ℕ) × (name e ≡ Some n)
      by None is = absurd (clash (sym (ap (name_in p f objects e) is) ∙ so))
        where
          clash : false ≡ true → ⊥
          clash e = cc
      by (Some n) is = (n, is)

  any_same : (es : List Entry) → HaveKeys (length f.keys) es → list_all (named_in p f bs objects) es ≡ true → (n : ℕ) →
      list_any (λ q. is_same q (Some n)) (map name es) ≡ has (map stands es) n
  any_same [] k so n = refl
  any_same (e ∷ es) k so n =
      let b = both (named_in p f bs objects e) (list_all (named_in p f bs objects) es) so in
      let q = named e b.0 in
      ap (λ o. is_same o (Some n) || list_any (λ q. is_same q (Some n)) (map name es)) q.1 ∙
      (ap (λ m. m == n || list_any (λ q. is_same q (Some n)) (map name es)) (sym (named_stands e q.0 k.0 q.1)) ∙
      ap (λ c. stands e == n || c) (any_same es k.1 b.1 n))

  same_apart : (es : List Entry) → HaveKeys (length f.keys) es → list_all (named_in p f bs objects) es ≡ true →
      names_apart (map name es) ≡ are_apart (map stands es)
  same_apart [] k so = refl
  same_apart (e ∷ es) k so =
      let b = both (named_in p f bs objects e) (list_all (named_in p f bs objects) es) so in
      let q = named e b.0 in
      ap (λ o. not (list_any (λ q. is_same q o) (map name es)) && names_apart (map name es)) q.1 ∙
      (ap (λ c. not c && names_apart (map name es)) (any_same es k.1 b.1 q.0) ∙
      (ap (λ m. not (has (map stands es) m) && names_apart (map name es)) (sym (named_stands e q.0 k.0 q.1)) ∙
      ap (λ c. not (has (map stands es) (stands e)) && c) (same_apart es k.1 b.1)))

  clause_same : HasClauseKeys f → (list_all (named_in p f bs objects) (entries_before f) && names_apart (map name (entries_before f))) ≡
      (are_apart (keys_before f args objects) && are_in_states p f keys objects)
  clause_same has_keys =
      let k = have_keys (length f.keys) f.clause has_keys in
      by (list_all (named_in p f bs objects) (entries_before f)) refl (all_in (entries_before f) k) (same_apart (entries_before f) k)
    where
      no_more : (b : Bool) → (b && false) ≡ false
      no_more true = refl
      no_more false = refl

      only : (b : Bool) → b ≡ (b && true)
      only true = refl
      only false = refl

      by : (b : Bool) → list_all (named_in p f bs objects) (entries_before f) ≡ b →
          list_all (named_in p f bs objects) (entries_before f) ≡ list_all is_in (entries_before f) →
          (list_all (named_in p f bs objects) (entries_before f) ≡ true → names_apart (map name (entries_before f)) ≡ are_apart (map stands (entries_before f))) →
          (list_all (named_in p f bs objects) (entries_before f) && names_apart (map name (entries_before f))) ≡
          (are_apart (map stands (entries_before f)) && list_all is_in (entries_before f))
      by true is same apart =
          ap (λ b. b && names_apart (map name (entries_before f))) is ∙
          (apart is ∙ (only (are_apart (map stands (entries_before f))) ∙
          ap (λ b. are_apart (map stands (entries_before f)) && b) (sym is ∙ same)))
      by false is same apart =
          ap (λ b. b && names_apart (map name (entries_before f))) is ∙
          sym (ap (λ b. are_apart (map stands (entries_before f)) && b) (sym same ∙ is) ∙ no_more (are_apart (map stands (entries_before f))))

-- all that is asked of the call of an entry function
pub call_same : (p : Program) (f : Func) (args : List Argument) (objects : List Object) → HasClauseKeys f →
    call_fits p f (parameters_of f) args objects ≡
    (arguments_fit objects (parameters_of f) args && (have_one_object (argument_bindings (parameters_of f) args) &&
    (are_apart (keys_before f args objects) && are_in_states p f (host_keys f args objects) objects)))
call_same p f args objects has_keys = by (arguments_fit objects (parameters_of f) args) refl
  where
    by : (b : Bool) → arguments_fit objects (parameters_of f) args ≡ b → call_fits p f (parameters_of f) args objects ≡
        (arguments_fit objects (parameters_of f) args && (have_one_object (argument_bindings (parameters_of f) args) &&
        (are_apart (keys_before f args objects) && are_in_states p f (host_keys f args objects) objects)))
    by true fit =
        ap (λ c. arguments_fit objects (parameters_of f) args && (have_one_object (argument_bindings (parameters_of f) args) && c))
        (clause_same p f args objects fit has_keys)
    by false fit =
        let bs = argument_bindings (parameters_of f) args in
        ap (λ b. b && (have_one_object bs && (list_all (named_in p f bs objects) (entries_before f) && names_apart (map (λ e. object_of_key bs e.key) (entries_before f))))) fit ∙
        sym (ap (λ b. b && (have_one_object bs && (are_apart (keys_before f args objects) && are_in_states p f (host_keys f args objects) objects))) fit)
