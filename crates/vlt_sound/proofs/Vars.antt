-- What the types and the keys of a function say that break no rule.
use Rattle.std.proofs.Common.{◌≡◌, ◌⊎◌, inl, inr, ⊎_elim, ℕ, zero, suc, ◌+◌, ◌==◌, nat_lt, nat_le, Bool, true, false, ◌&&◌, ◌||◌, not, if◌then◌else◌, List, [], ◌∷◌, ◌++◌, map, filter, take, length, Option, Some, None, refl, sym, ap, ◌∙◌, subst, arith, slice_get}
use Rattle.std.proofs.lemmas.Bool.{cases_Bool, eqb-true, ltb-true}
use Rattle.std.proofs.lemmas.Option.{none-some, same_Some, slice_get_cases}
use Rattle.std.specs.List.{flat_map, list_any}
use Rattle.std.specs.Option.{option_map}
use Rattle.vlt_core.specs.Core.{Ty, int, bool, tracked, owning, guarded, variant, owning_variant, KeyDecl, VarDecl, Entry, Func, Program}
use Rattle.vlt_core.specs.Lookups.{var_type, key_type, key_type_in, is_new}
use Rattle.vlt_core.specs.Types.{keys_of_ty, type_in, args_of}
use Rattle.vlt_core.specs.KindedHeads.{Rules, unless, when_some, has, are_apart, parameters_of, keys_of_parameters, new_keys, keys_of_result, head_keys, Typing, own_typings, typings, types_at, given_types, is_left_out, are_all, is_only_type, argument_broken, reference_broken, type_broken, key_broken, entry_broken, is_key_of_result, new_key_broken, result_broken, external_broken, is_main_head, listed_broken, head_broken, is_bound_entry}
use Rattle.vlt_core.specs.declared.rules.TheConstants as rule
use Rattle.vlt_core.specs.Kinded.{IsKinded}
use Rattle.vlt_core.specs.KindedBodies.{end_broken}
use Rattle.vlt_sound_worlds.specs.Members.{In}
use Rattle.vlt_sound_worlds.proofs.Members.{in_either}
use Rattle.vlt_sound_worlds.specs.Fits.{header_type}
use Rattle.vlt_sound_worlds.proofs.Empty.{both_empty, both_so, unless_so}
use Rattle.vlt_sound_worlds.proofs.Expressions.{not_so}
use Rattle.vlt_sound_calls.specs.Heads.{IsNewKey}
use Rattle.vlt_sound.proofs.Rows.{flat_at, flat_in, zero_plus, has_in, in_has, function_kinded}
use Rattle.vlt_sound.proofs.Types.{TyKinded, ty_kinded}

-- the head of a function, part by part
pub record HeadKinded (p : Program) (f : Func) : Type 0 where
  pub params : unless (nat_le f.params (length f.vars)) rule.UNKNOWN_NAME ≡ []
  pub types : flat_map (λ d. type_broken p f d.ty) f.vars ≡ []
  pub result_type : when_some f.result (type_broken p f) ≡ []
  pub listed : listed_broken p f 0 f.keys ≡ []
  pub apart : unless (are_apart (map (λ e. e.key) f.clause)) rule.CLAUSE_KEY_AGAIN ≡ []
  pub entries : flat_map (entry_broken p f) f.clause ≡ []
  pub result : result_broken f ≡ []
  pub external : (if f.external then external_broken p f else []) ≡ []
  pub bounds : unless (nat_le (length (filter is_bound_entry f.clause)) 1) rule.SECOND_BOUND ≡ []

pub head_kinded : (p : Program) (g : ℕ) (f : Func) → IsKinded p → slice_get p.fns g ≡ Some f → HeadKinded p f
head_kinded p g f kinded at =
    let row = (function_kinded p kinded g f at).0 in
    let e = (both_empty (head_broken p g f) (end_broken p f) row).0 in
    let A = unless (nat_le f.params (length f.vars)) rule.UNKNOWN_NAME in
    let B = flat_map (λ d. type_broken p f d.ty) f.vars in
    let C = when_some f.result (type_broken p f) in
    let D = listed_broken p f 0 f.keys in
    let E = unless (are_apart (map (λ e. e.key) f.clause)) rule.CLAUSE_KEY_AGAIN in
    let F = flat_map (entry_broken p f) f.clause in
    let G = result_broken f in
    let H = if f.external then external_broken p f else [] in
    let M = if g == p.main then unless (is_main_head f) rule.MAIN_HEAD else [] in
    let N = unless (nat_le (length (filter is_bound_entry f.clause)) 1) rule.SECOND_BOUND in
    let e9 = both_empty (A ++ B ++ C ++ D ++ E ++ F ++ G ++ H ++ M) N e in
    let e8 = both_empty (A ++ B ++ C ++ D ++ E ++ F ++ G ++ H) M e9.0 in
    let e7 = both_empty (A ++ B ++ C ++ D ++ E ++ F ++ G) H e8.0 in
    let e6 = both_empty (A ++ B ++ C ++ D ++ E ++ F) G e7.0 in
    let e5 = both_empty (A ++ B ++ C ++ D ++ E) F e6.0 in
    let e4 = both_empty (A ++ B ++ C ++ D) E e5.0 in
    let e3 = both_empty (A ++ B ++ C) D e4.0 in
    let e2 = both_empty (A ++ B) C e3.0 in
    let e1 = both_empty A B e2.0 in
    record {
      params = e1.0;
      types = e1.1;
      result_type = e2.1;
      listed = e3.1;
      apart = e4.1;
      entries = e5.1;
      result = e6.1;
      external = e7.1;
      bounds = e9.1;
    }

-- ---- copies of what rules say inside, by their clauses

abbrev reference_of : (type : ℕ) → List ℕ → Rules
reference_of t [] = rule.KEY_ARGUMENT ∷ []
reference_of t (u ∷ us) = unless (are_all t (u ∷ us)) rule.TWO_KEY_TYPES

abbrev result_keys : Option Ty → List ℕ
result_keys None = []
result_keys (Some ty) = keys_of_ty ty

abbrev pub is_listed : Option ℕ → ℕ → Rules
is_listed None u = rule.WRONG_TYPE ∷ []
is_listed (Some t) u = unless (t == u) rule.WRONG_TYPE

abbrev pub listed_agrees : Option ℕ → List ℕ → Rules
listed_agrees None [] = []
listed_agrees (Some t) [] = rule.WRONG_TYPE ∷ []
listed_agrees listed (u ∷ us) = if are_all u us then is_listed listed u else rule.TWO_KEY_TYPES ∷ []

-- ---- lists

get_in : (ks : List ℕ) (i k : ℕ) → slice_get ks i ≡ Some k → In k ks
get_in [] i k at = absurd (none-some k at)
get_in (j ∷ ks) zero k at = inl (sym (same_Some j k at))
get_in (j ∷ ks) (suc i) k at = inr (get_in ks i k at)

args_in : (ty : Ty) (k : ℕ) → In k (args_of ty) → In k (keys_of_ty ty)
args_in int k i = i
args_in bool k i = i
args_in (tracked j t args) k i = inr i
args_in (owning S t args) k i = i
args_in (guarded j t args) k i = inr i
args_in (variant t args) k i = i
args_in (owning_variant t args) k i = i

entry_of : (es : List Entry) (k : ℕ) → In k (map (λ e. e.key) es) →
    (i : ℕ) × (e : Entry) × (slice_get es i ≡ Some e) × (e.key ≡ k)
entry_of [] k i = absurd i
entry_of (e ∷ es) k (inl same) = (0, e, refl, sym same)
entry_of (e ∷ es) k (inr i) = let r = entry_of es k i in (suc r.0, r.1, r.2, r.3)

pub new_in : (es : List Entry) (i : ℕ) (e : Entry) → slice_get es i ≡ Some e → is_new e ≡ true →
    In e.key (map (λ e. e.key) (filter is_new es))
new_in [] i e at new = absurd (none-some e at)
new_in (x ∷ es) zero e at new =
    subst (λ x. In e.key (map (λ e. e.key) (filter is_new (x ∷ es)))) (sym (same_Some x e at)) (by (is_new e) new)
  where
    by : (b : Bool) → b ≡ true → In e.key (map (λ e. e.key) (if b then e ∷ filter is_new es else filter is_new es))
    by true q = inl refl
    by false q = cc
new_in (x ∷ es) (suc i) e at new = by (is_new x) (new_in es i e at new)
  where
    by : (b : Bool) → In e.key (map (λ e. e.key) (filter is_new es)) →
        In e.key (map (λ e. e.key) (if b then x ∷ filter is_new es else filter is_new es))
    by true i = inr i
    by false i = i

-- a `new` key has an entry
new_of : (es : List Entry) (k : ℕ) → In k (map (λ e. e.key) (filter is_new es)) →
    (i : ℕ) × (e : Entry) × (slice_get es i ≡ Some e) × (is_new e ≡ true) × (e.key ≡ k)
new_of [] k i = absurd i
new_of (x ∷ es) k i = by (λ j. let r = new_of es k j in (suc r.0, r.1, r.2, r.3, r.4)) (is_new x) refl i
  where
    by : (In k (map (λ e. e.key) (filter is_new es)) →
        (i : ℕ) × (e : Entry) × (slice_get (x ∷ es) i ≡ Some e) × (is_new e ≡ true) × (e.key ≡ k)) →
        (b : Bool) → is_new x ≡ b →
        In k (map (λ e. e.key) (if b then x ∷ filter is_new es else filter is_new es)) →
        (i : ℕ) × (e : Entry) × (slice_get (x ∷ es) i ≡ Some e) × (is_new e ≡ true) × (e.key ≡ k)
    by later true new (inl same) = (0, x, refl, new, sym same)
    by later true new (inr j) = later j
    by later false old j = later j

-- a key of the parameters stands in a variable's type
pub in_params : (n : ℕ) (vars : List VarDecl) (k : ℕ) → In k (flat_map keys_of_ty (map (λ d. d.ty) (take n vars))) →
    (v : ℕ) × (d : VarDecl) × (slice_get vars v ≡ Some d) × In k (keys_of_ty d.ty)
in_params zero vars k i = absurd i
in_params (suc n) [] k i = absurd i
in_params (suc n) (d ∷ vars) k i = ⊎_elim
    (λ here. (0, d, refl, here))
    (λ rest. let r = in_params n vars k rest in (suc r.0, r.1, r.2, r.3))
    (in_either k (keys_of_ty d.ty) (flat_map keys_of_ty (map (λ d. d.ty) (take n vars))) i)

neither : (a b : Bool) → (a || b) ≡ false → (a ≡ false) × (b ≡ false)
neither true b e = cc
neither false b e = (refl, e)

none_passes : {A : Type 0} (test : A → Bool) (xs : List A) (i : ℕ) (x : A) → list_any test xs ≡ false →
    slice_get xs i ≡ Some x → test x ≡ false
none_passes test [] i x e at = absurd (none-some x at)
none_passes test (y ∷ xs) zero x e at =
    ap test (sym (same_Some y x at)) ∙ (neither (test y) (list_any test xs) e).0
none_passes test (y ∷ xs) (suc i) x e at = none_passes test xs i x (neither (test y) (list_any test xs) e).1 at

-- ---- types given to keys

-- the first of the types that are given is this one
abbrev pub Gives : List ℕ → (type : ℕ) → Type 0
Gives [] t = ⊥
Gives (u ∷ us) t = u ≡ t

-- a type that the keys' list says is the first one that is given
listed_is : (o : Option ℕ) (us : List ℕ) (t : ℕ) → Gives us t → listed_agrees o us ≡ [] → o ≡ Some t
listed_is o [] t is e = absurd is
listed_is None (u ∷ us) t is e = by (are_all u us) e
  where
    by : (b : Bool) → (if b then rule.WRONG_TYPE ∷ [] else rule.TWO_KEY_TYPES ∷ []) ≡ [] → None ≡ Some t
    by true e = cc
    by false e = cc
listed_is (Some l) (u ∷ us) t is e = by (are_all u us) e
  where
    by : (b : Bool) → (if b then unless (l == u) rule.WRONG_TYPE else rule.TWO_KEY_TYPES ∷ []) ≡ [] → Some l ≡ Some t
    by true e = ap (λ t. Some t) (eqb-true l u (unless_so (l == u) rule.WRONG_TYPE e) ∙ is)
    by false e = cc

listed_in : (o : Option ℕ) (us : List ℕ) (t : ℕ) → o ≡ Some t → listed_agrees o us ≡ [] → In t us
listed_in None us t is e = absurd (none-some t is)
listed_in (Some l) [] t is e = cc
listed_in (Some l) (u ∷ us) t is e = by (are_all u us) e
  where
    by : (b : Bool) → (if b then unless (l == u) rule.WRONG_TYPE else rule.TWO_KEY_TYPES ∷ []) ≡ [] → In t (u ∷ us)
    by true e = inl (sym (same_Some l t is) ∙ eqb-true l u (unless_so (l == u) rule.WRONG_TYPE e))
    by false e = cc

reference_given : (t : ℕ) (us : List ℕ) → reference_of t us ≡ [] → Gives us t
reference_given t [] e = cc
reference_given t (u ∷ us) e =
    eqb-true u t (both_so (u == t) (are_all t us) (unless_so (are_all t (u ∷ us)) rule.TWO_KEY_TYPES e)).0

pub only_given : (t : ℕ) (us : List ℕ) → is_only_type t us ≡ true → Gives us t
only_given t [] e = cc
only_given t (u ∷ us) e = eqb-true u t (both_so (u == t) (are_all t us) e).0

neither_out : (a b c : Bool) → (a ≡ true → (b ≡ true) ⊎ (c ≡ true)) → (a && not b && not c) ≡ false
neither_out false b c e = refl
neither_out true b c e = ⊎_elim (λ i. ap (λ b. not b && not c) i) (λ i. ap (λ c. not b && not c) i ∙ and_false (not b)) (e refl)
  where
    and_false : (b : Bool) → (b && false) ≡ false
    and_false true = refl
    and_false false = refl

some_of : (a b : Bool) → (a || b) ≡ true → (a ≡ true) ⊎ (b ≡ true)
some_of true b e = inl refl
some_of false b e = inr e

module _ (p : Program) (f : Func) (head : HeadKinded p f) where
  -- ---- keys of the head

  -- a key of a clause is a `new` one, or one of the parameters'
  pub entry_key : (i : ℕ) (e : Entry) → slice_get f.clause i ≡ Some e →
      (is_new e ≡ true) ⊎ (has (keys_of_parameters f) e.key ≡ true)
  entry_key i e at =
      let row = flat_at (entry_broken p f) f.clause i e head.entries at in
      ⊎_elim
      (λ lt.
      let q = rw lt at row in
      some_of (is_new e) (has (keys_of_parameters f) e.key)
      (unless_so (is_new e || has (keys_of_parameters f) e.key) rule.CLAUSE_KEY_UNBOUND
      (both_empty (unless (is_new e || has (keys_of_parameters f) e.key) rule.CLAUSE_KEY_UNBOUND) _ q).0))
      (λ past. let q = rw past at row in cc)
      (cases_Bool (nat_lt e.key (length f.keys)))

  pub apart_result : (k : ℕ) → In k (keys_of_result f) →
      (has (new_keys f) k ≡ true) ⊎ (has (keys_of_parameters f) k ≡ true)
  apart_result k i =
      let A = unless (nat_le (length (new_keys f)) 1) rule.RESULT_KEY in
      let B = flat_map (new_key_broken f) (new_keys f) in
      let C = flat_map (λ k. unless (has (new_keys f) k || has (keys_of_parameters f) k) rule.RESULT_KEY) (keys_of_result f) in
      some_of (has (new_keys f) k) (has (keys_of_parameters f) k)
      (unless_so (has (new_keys f) k || has (keys_of_parameters f) k) rule.RESULT_KEY
      (flat_in (λ k. unless (has (new_keys f) k || has (keys_of_parameters f) k) rule.RESULT_KEY) (keys_of_result f) k
      (both_empty (A ++ B) C head.result).1 i))

  head_key : (k : ℕ) → has (head_keys f) k ≡ true →
      (has (keys_of_parameters f) k ≡ true) ⊎ (has (new_keys f) k ≡ true)
  head_key k e = ⊎_elim
      (λ i. ⊎_elim
      (λ r. ⊎_elim (λ new. inr new) (λ params. inl params) (apart_result k r))
      (λ params. inl (in_has (keys_of_parameters f) k params))
      (in_either k (keys_of_result f) (keys_of_parameters f) i))
      (λ i.
      let at = entry_of f.clause k i in
      subst (λ k. (has (keys_of_parameters f) k ≡ true) ⊎ (has (new_keys f) k ≡ true)) at.3
      (⊎_elim
      (λ new. inr (in_has (new_keys f) at.1.key (new_in f.clause at.0 at.1 at.2 new)))
      (λ params. inl params)
      (entry_key at.0 at.1 at.2)))
      (in_either k (keys_of_result f ++ keys_of_parameters f) (map (λ e. e.key) f.clause) (has_in (head_keys f) k e))

  -- no key of the head is left out
  out : (k : ℕ) → is_left_out f k ≡ false
  out k = neither_out (has (head_keys f) k) (has (keys_of_parameters f) k) (has (new_keys f) k) (head_key k)

  -- ---- types of variables

  abbrev VarKinded : Ty → Type 0
  VarKinded ty = TyKinded p (λ k. unless (nat_lt k (length f.keys)) rule.UNKNOWN_NAME) (argument_broken p f) ty

  var_row : (v : ℕ) (ty : Ty) → var_type f v ≡ Some ty → type_broken p f ty ≡ []
  var_row v ty is = by (slice_get f.vars v) refl is
    where
      by : (o : Option VarDecl) → slice_get f.vars v ≡ o → option_map (λ d. d.ty) o ≡ Some ty → type_broken p f ty ≡ []
      by None at e = absurd (none-some ty e)
      by (Some d) at e =
          subst (λ ty. type_broken p f ty ≡ []) (same_Some d.ty ty e)
          (flat_at (λ d. type_broken p f d.ty) f.vars v d head.types at)

  pub var_kinded : (v : ℕ) (ty : Ty) → var_type f v ≡ Some ty → VarKinded ty
  var_kinded v ty is =
      ty_kinded p (λ k. unless (nat_lt k (length f.keys)) rule.UNKNOWN_NAME) (argument_broken p f) ty
      (both_empty _ (flat_map (reference_broken p f) (own_typings ty)) (var_row v ty is)).0

  pub key_within : (v k : ℕ) (ty : Ty) → var_type f v ≡ Some ty → In k (keys_of_ty ty) →
      nat_lt k (length f.keys) ≡ true
  key_within v k ty is i = unless_so (nat_lt k (length f.keys)) rule.UNKNOWN_NAME ((var_kinded v ty is).keys k i)

  pub result_kinded : (ty : Ty) → f.result ≡ Some ty → VarKinded ty
  result_kinded ty is =
      ty_kinded p (λ k. unless (nat_lt k (length f.keys)) rule.UNKNOWN_NAME) (argument_broken p f) ty
      (both_empty _ (flat_map (reference_broken p f) (own_typings ty))
      (subst (λ o. when_some o (type_broken p f) ≡ []) is head.result_type)).0

  entry_number : (i : ℕ) (e : Entry) → slice_get f.clause i ≡ Some e → nat_lt e.key (length f.keys) ≡ true
  entry_number i e at =
      let row : entry_broken p f e ≡ [] = flat_at (entry_broken p f) f.clause i e head.entries at in
      ⊎_elim (λ lt. lt) (λ past. let q = rw past at row in cc) (cases_Bool (nat_lt e.key (length f.keys)))

  result_number : (k : ℕ) → In k (keys_of_result f) → nat_lt k (length f.keys) ≡ true
  result_number k i = by f.result refl i
    where
      by : (o : Option Ty) → f.result ≡ o → In k (result_keys o) → nat_lt k (length f.keys) ≡ true
      by None is i = absurd i
      by (Some ty) is i =
          unless_so (nat_lt k (length f.keys)) rule.UNKNOWN_NAME ((result_kinded ty is).keys k i)

  -- the head's keys are keys of the function
  pub head_number : (k : ℕ) → has (head_keys f) k ≡ true → nat_lt k (length f.keys) ≡ true
  head_number k e = ⊎_elim
      (λ i. ⊎_elim
      (result_number k)
      (λ params.
      let v = in_params f.params f.vars k params in
      key_within v.0 k v.1.ty (ap (option_map (λ d. d.ty)) v.2) v.3)
      (in_either k (keys_of_result f) (keys_of_parameters f) i))
      (λ i.
      let at = entry_of f.clause k i in
      subst (λ k. nat_lt k (length f.keys) ≡ true) at.3 (entry_number at.0 at.1 at.2))
      (in_either k (keys_of_result f ++ keys_of_parameters f) (map (λ e. e.key) f.clause) (has_in (head_keys f) k e))

  -- ---- types of keys

  pub listed_row : (n : ℕ) (ds : List KeyDecl) (i : ℕ) (d : KeyDecl) → listed_broken p f n ds ≡ [] →
      slice_get ds i ≡ Some d → key_broken p f (n + i) d ≡ []
  listed_row n [] i d e at = absurd (none-some d at)
  listed_row n (x ∷ ds) zero d e at =
      let one = (both_empty (key_broken p f n x) (listed_broken p f (suc n) ds) e).0 in
      subst (λ m. key_broken p f m d ≡ []) (plus_none n) (subst (λ x. key_broken p f n x ≡ []) (same_Some x d at) one)
    where
      plus_none : (n : ℕ) → n ≡ n + 0
      plus_none n = omega arith
  listed_row n (x ∷ ds) (suc i) d e at =
      subst (λ m. key_broken p f m d ≡ []) (plus_one n i)
      (listed_row (suc n) ds i d (both_empty (key_broken p f n x) (listed_broken p f (suc n) ds) e).1 at)
    where
      plus_one : (n i : ℕ) → suc n + i ≡ n + suc i
      plus_one n i = omega arith

  -- what the list of keys says of a key
  pub key_listed : (k : ℕ) (d : KeyDecl) → slice_get f.keys k ≡ Some d →
      listed_agrees d.key_type (given_types p f k) ≡ []
  key_listed k d at =
      let row : key_broken p f k d ≡ [] =
      subst (λ k. key_broken p f k d ≡ []) (zero_plus k) (listed_row 0 f.keys k d head.listed at) in
      (both_empty _ (listed_agrees d.key_type (given_types p f k)) row).1

  pub key_typed : (k t : ℕ) → nat_lt k (length f.keys) ≡ true → Gives (given_types p f k) t → key_type f k ≡ Some t
  key_typed k t lt gives = ⊎_elim
      (λ at. ap key_type_in at.2 ∙ listed_is at.0.key_type (given_types p f k) t gives (key_listed k at.0 at.2))
      (λ past. let le = past.0 in let l = ltb-true k (length f.keys) lt in absurd (omega arith))
      (slice_get_cases f.keys k).1

  pub guard_off : (k : ℕ) → nat_lt k (length f.keys) ≡ true → (is_left_out f k || not (nat_lt k (length f.keys))) ≡ false
  guard_off k lt = ap (λ b. b || not (nat_lt k (length f.keys))) (out k) ∙ ap not lt

  -- a reference's own key has the type of its object
  pub own_type : (v k t : ℕ) (args : List ℕ) → var_type f v ≡ Some (tracked k t args) → key_type f k ≡ Some t
  own_type v k t args is =
      let row = (both_empty _ (flat_map (reference_broken p f) (own_typings (tracked k t args))) (var_row v (tracked k t args) is)).1 in
      let x : Typing = record { key = k; type = t } in
      let here = (both_empty (reference_broken p f x) [] row).0 in
      let lt = key_within v k (tracked k t args) is (inl refl) in
      key_typed k t lt (reference_given t (given_types p f k)
      (subst (λ b. (if b then [] else reference_of t (given_types p f k)) ≡ []) (guard_off k lt) here))

  -- and a key that stands for one of a header the header's
  pub arg_type : (v t i k u : ℕ) (ty : Ty) → var_type f v ≡ Some ty → type_in ty ≡ Some t →
      slice_get (args_of ty) i ≡ Some k → header_type p t i ≡ Some u → key_type f k ≡ Some u
  arg_type v t i k u ty is declared at given =
      let here = (var_kinded v ty is).args t i k u declared at given in
      let lt = key_within v k ty is (args_in ty k (get_in (args_of ty) i k at)) in
      key_typed k u lt (only_given u (given_types p f k)
      (unless_so (is_only_type u (given_types p f k)) rule.KEY_ARGUMENT
      (subst (λ b. (if b then [] else unless (is_only_type u (given_types p f k)) rule.KEY_ARGUMENT) ≡ []) (guard_off k lt) here)))

  -- ---- heads

  -- a `new` key is the result's own, and stands nowhere else
  new_row : (i : ℕ) (e : Entry) → slice_get f.clause i ≡ Some e → is_new e ≡ true → new_key_broken f e.key ≡ []
  new_row i e at new =
      let A = unless (nat_le (length (new_keys f)) 1) rule.RESULT_KEY in
      let B = flat_map (new_key_broken f) (new_keys f) in
      let C = flat_map (λ k. unless (has (new_keys f) k || has (keys_of_parameters f) k) rule.RESULT_KEY) (keys_of_result f) in
      flat_in (new_key_broken f) (new_keys f) e.key (both_empty A B (both_empty (A ++ B) C head.result).0).1
      (new_in f.clause i e at new)

  pub new_key : (i : ℕ) (e : Entry) → slice_get f.clause i ≡ Some e → is_new e ≡ true → IsNewKey f e.key
  new_key i e at new =
      let both =
      both_so (is_key_of_result f.result e.key) (not (list_any (λ d. has (keys_of_ty d.ty) e.key) f.vars))
      (unless_so (is_key_of_result f.result e.key && not (list_any (λ d. has (keys_of_ty d.ty) e.key) f.vars)) rule.RESULT_KEY
      (new_row i e at new)) in
      by f.result refl both.0 both.1
    where
      none : not (list_any (λ d. has (keys_of_ty d.ty) e.key) f.vars) ≡ true → (v : ℕ) (ty : Ty) → var_type f v ≡ Some ty →
          In e.key (keys_of_ty ty) → ⊥
      none off v ty is i = from (slice_get f.vars v) refl is
        where
          from : (o : Option VarDecl) → slice_get f.vars v ≡ o → option_map (λ d. d.ty) o ≡ Some ty → ⊥
          from None at is = none-some ty is
          from (Some d) at is =
              let has_not =
              none_passes (λ d. has (keys_of_ty d.ty) e.key) f.vars v d (not_so (list_any (λ d. has (keys_of_ty d.ty) e.key) f.vars) off) at in
              let has_it = in_has (keys_of_ty d.ty) e.key (subst (λ ty. In e.key (keys_of_ty ty)) (sym (same_Some d.ty ty is)) i) in
              clash (sym has_not ∙ has_it)
            where
              clash : false ≡ true → ⊥
              clash e = cc

      by : (o : Option Ty) → f.result ≡ o → is_key_of_result o e.key ≡ true →
          not (list_any (λ d. has (keys_of_ty d.ty) e.key) f.vars) ≡ true → IsNewKey f e.key
      by (Some (tracked j t args)) is own off =
          let both = both_so (j == e.key) (not (has args e.key)) own in
          let same = eqb-true j e.key both.0 in
          record {
            type = t;
            args = args;
            is = is ∙ ap (λ j. Some (tracked j t args)) same;
            not_args = λ i. clash (has args e.key) both.1 (in_has args e.key i);
            not_vars = none off;
          }
        where
          clash : (b : Bool) → not b ≡ true → b ≡ true → ⊥
          clash true n e = cc
          clash false n e = cc
      by None is own off = cc
      by (Some int) is own off = cc
      by (Some bool) is own off = cc
      by (Some (owning S t args)) is own off = cc
      by (Some (guarded k t args)) is own off = cc
      by (Some (variant t args)) is own off = cc
      by (Some (owning_variant t args)) is own off = cc

  -- a key of the parameters has a type that one of them gives it
  pub given_type : (k t : ℕ) → has (keys_of_parameters f) k ≡ true → key_type f k ≡ Some t →
      In t (types_at k (flat_map (typings p) (parameters_of f)))
  given_type k t of is = by (slice_get f.keys k) refl is
    where
      not_new : has (new_keys f) k ≡ false
      not_new = ⊎_elim
          (λ new.
          let at = new_of f.clause k (has_in (new_keys f) k new) in
          let n = new_key at.0 at.1 at.2 at.3 in
          let v = in_params f.params f.vars k (has_in (keys_of_parameters f) k of) in
          absurd (n.not_vars v.0 v.1.ty (ap (option_map (λ d. d.ty)) v.2) (subst (λ k. In k (keys_of_ty v.1.ty)) (sym at.4) v.3)))
          (λ off. off)
          (cases_Bool (has (new_keys f) k))

      given_is : given_types p f k ≡ types_at k (flat_map (typings p) (parameters_of f))
      given_is = rw (not_new, of) refl

      by : (o : Option KeyDecl) → slice_get f.keys k ≡ o → key_type_in o ≡ Some t →
          In t (types_at k (flat_map (typings p) (parameters_of f)))
      by None at e = absurd (none-some t e)
      by (Some d) at e =
          subst (In t) given_is (listed_in d.key_type (given_types p f k) t e (key_listed k d at))
