-- What the head of an external says that breaks no rule.
use Rattle.std.proofs.Common.{◌≡◌, inl, inr, ⊎_elim, ℕ, zero, suc, ◌<◌, ◌==◌, nat_lt, Bool, true, false, ◌&&◌, ◌||◌, not, if◌then◌else◌, IsTrue, List, [], ◌∷◌, ◌++◌, map, take, length, Option, Some, None, refl, sym, ap, ◌∙◌, subst, slice_get}
use Rattle.std.proofs.lemmas.Bool.{cases_Bool, eqb-true, eq-eqb}
use Rattle.std.proofs.lemmas.Option.{none-some, same_Some}
use Rattle.std.specs.List.{flat_map}
use Rattle.std.specs.Option.{option_map}
use Rattle.vlt_core.specs.Core.{States, Ty, int, bool, tracked, owning, guarded, variant, owning_variant, CaseKey, CaseDecl, TypeDecl, KeyDecl, VarDecl, Entry, Func, Program, Mode, up_to}
use Rattle.vlt_core.specs.Lookups.{VariantOf, variant_in, var_type, key_type, key_type_in, all_states, fields_of, cases_of, case_at, is_new, states_of_type, states_or_all, after_set}
use Rattle.vlt_core.specs.Types.{decl_of, is_struct, is_abstract, is_variant, header_of, args_of, keys_of_ty, type_in}
use Rattle.vlt_core.specs.KindedHeads.{Rules, unless, when_some, has, parameters_of, new_keys, own_typings, given_types, are_all, is_only_type, states_broken, entry_broken, names_states, tracked_keys, is_external_payload, is_external_parameter, external_case_broken, external_result_broken, is_declared_result, external_broken, key_broken, state_broken}
use Rattle.vlt_core.specs.declared.rules.TheConstants as rule
use Rattle.vlt_core.specs.Kinded.{IsKinded}
use Rattle.vlt_sound_worlds.specs.Members.{In}
use Rattle.vlt_sound_worlds.specs.Fits.{header_type}
use Rattle.vlt_sound_worlds.proofs.Empty.{both_empty, both_so, unless_so}
use Rattle.vlt_sound_calls.specs.Among.{Among}
use Rattle.vlt_sound.proofs.Rows.{flat_at, zero_plus, has_in, in_has}
use Rattle.vlt_sound.proofs.Decls.{PartKinded, part_keys, payload_kinded}
use Rattle.vlt_sound.proofs.Vars.{HeadKinded, head_kinded, result_kinded, key_within, own_type, Gives, listed_agrees, only_given, new_in, listed_row, key_typed, guard_off}
use Rattle.vlt_sound_calls.specs.ReturnHeads.{IsHostType, IsHostPayload, IsHostKey, IsHostCase, HasHostHead, HasHosts}
use Rattle.vlt_sound.specs.Narrow.{IsNarrowHead, HasNarrowHeads}
use Rattle.vlt_sound.proofs.ExternsDeclared.{bare, abstract_bare, states_within, host_type, listed_key, argument_there}

-- ---- lists

among_at : {A : Type 0} (xs : List A) (x : A) → Among x xs → (i : ℕ) × (slice_get xs i ≡ Some x)
among_at [] x i = absurd i
among_at (y ∷ xs) x (inl same) = (0, ap Some (sym same))
among_at (y ∷ xs) x (inr rest) = let q = among_at xs x rest in (suc q.0, q.1)

-- the variable that has the key of a reference
abbrev IsTrackedVar : List VarDecl → (key : ℕ) → Type 0
IsTrackedVar vars k =
    (v : ℕ) × (t : ℕ) × (args : List ℕ) × (option_map (λ d. d.ty) (slice_get vars v) ≡ Some (tracked k t args))

abbrev keys_of_first : (n : ℕ) → List VarDecl → List ℕ
keys_of_first n vars = map (λ x. x.key) (flat_map own_typings (map (λ d. d.ty) (take n vars)))

-- the key of a reference among parameters is that of a variable
tracked_at : (n : ℕ) (vars : List VarDecl) (k : ℕ) → In k (keys_of_first n vars) → IsTrackedVar vars k
tracked_at zero vars k i = absurd i
tracked_at (suc n) [] k i = absurd i
tracked_at (suc n) (d ∷ vars) k i = by d.ty refl (tracked_at n vars k) i
  where
    by : (ty : Ty) → d.ty ≡ ty → (In k (keys_of_first n vars) → IsTrackedVar vars k) →
        In k (map (λ x. x.key) (own_typings ty ++ flat_map own_typings (map (λ d. d.ty) (take n vars)))) →
        IsTrackedVar (d ∷ vars) k
    by (tracked j t args) is more (inl same) = (0, t, args, ap Some is ∙ ap (λ j. Some (tracked j t args)) (sym same))
    by (tracked j t args) is more (inr i) = let q = more i in (suc q.0, q.1, q.2, q.3)
    by int is more i = let q = more i in (suc q.0, q.1, q.2, q.3)
    by bool is more i = let q = more i in (suc q.0, q.1, q.2, q.3)
    by (owning S t args) is more i = let q = more i in (suc q.0, q.1, q.2, q.3)
    by (guarded j t args) is more i = let q = more i in (suc q.0, q.1, q.2, q.3)
    by (variant t args) is more i = let q = more i in (suc q.0, q.1, q.2, q.3)
    by (owning_variant t args) is more i = let q = more i in (suc q.0, q.1, q.2, q.3)

or_so : (a b : Bool) → (a || b) ≡ true → (a ≡ true → ⊥) → b ≡ true
or_so true b e off = absurd (off refl)
or_so false b e off = e

neither : (a b : Bool) → not (a || b) ≡ true → (a ≡ false) × (b ≡ false)
neither true b e = cc
neither false true e = cc
neither false false e = (refl, refl)

none_broken : (r : ℕ) (rs : Rules) → r ∷ rs ≡ [] → ⊥
none_broken r rs e = cc

-- ---- copies of what rules say inside, by their clauses

abbrev is_there : Option TypeDecl → Bool
is_there None = false
is_there (Some t) = true

abbrev pub bound_states : Program → (type : ℕ) → Mode → Rules
bound_states p t (up_to b) = state_broken p t b
bound_states p t m = []

abbrev pub entry_types : Program → Entry → List ℕ → Rules
entry_types p e [] = unless (not (names_states e)) rule.STATES_UNTYPED
entry_types p e (t ∷ ts) =
    if are_all t ts
    then when_some (decl_of p t) (λ d. when_some e.before (states_broken p t) ++ when_some e.after (states_broken p t) ++ bound_states p t e.mode)
    else []

module _ (p : Program) (n : ℕ) (f : Func) (kinded : IsKinded p) (narrow : IsNarrowHead p f) (at : slice_get p.fns n ≡ Some f)
    (external : f.external ≡ true) where
  head : HeadKinded p f
  head = head_kinded p n f kinded at

  rows : external_broken p f ≡ []
  rows = subst (λ b. (if b then external_broken p f else []) ≡ []) external head.external

  abbrev param_rows : Rules
  param_rows = flat_map (λ ty. unless (is_external_parameter ty) rule.EXTERN_HEAD) (parameters_of f)

  abbrev entry_rows : Rules
  entry_rows = flat_map (λ e. unless (is_new e || has (tracked_keys f) e.key) rule.EXTERN_HEAD) f.clause

  two : (param_rows ++ entry_rows ≡ []) ×
      (when_some f.result (λ ty. if is_declared_result p ty then external_result_broken p f ty else []) ≡ [])
  two = both_empty (param_rows ++ entry_rows) _ rows

  -- ---- keys of the clause

  known : (e : Entry) → Among e f.clause → (is_new e ≡ true → ⊥) → has (tracked_keys f) e.key ≡ true
  known e i old =
      let q = among_at f.clause e i in
      or_so (is_new e) (has (tracked_keys f) e.key)
      (unless_so (is_new e || has (tracked_keys f) e.key) rule.EXTERN_HEAD
      (flat_at (λ e. unless (is_new e || has (tracked_keys f) e.key) rule.EXTERN_HEAD) f.clause q.0 e
      (both_empty param_rows entry_rows two.0).1 q.1))
      old

  known_var : (k : ℕ) → has (tracked_keys f) k ≡ true →
      (v : ℕ) × (t : ℕ) × (args : List ℕ) × (var_type f v ≡ Some (tracked k t args))
  known_var k is = tracked_at f.params f.vars k (has_in (tracked_keys f) k is)

  typed : (k : ℕ) → has (tracked_keys f) k ≡ true → (t : ℕ) × (key_type f k ≡ Some t)
  typed k is = let q = known_var k is in (q.1, own_type p f head q.0 k q.1 q.2 q.3)

  key_number : (k : ℕ) → has (tracked_keys f) k ≡ true → nat_lt k (length f.keys) ≡ true
  key_number k is = let q = known_var k is in key_within p f head q.0 k (tracked k q.1 q.2) q.3 (inl refl)

  entry_known : (i : ℕ) (e : Entry) → slice_get f.clause i ≡ Some e →
      (nat_lt e.key (length f.keys) ≡ true) × (entry_types p e (given_types p f e.key) ≡ [])
  entry_known i e is =
      let row : entry_broken p f e ≡ [] = flat_at (entry_broken p f) f.clause i e head.entries is in
      ⊎_elim
      (λ lt. let q = rw lt at row in (lt, (both_empty _ (entry_types p e (given_types p f e.key)) q).1))
      (λ past. let q = rw past at row in absurd (none_broken _ _ q))
      (cases_Bool (nat_lt e.key (length f.keys)))

  -- the type of a key is there
  listed_type : (k t : ℕ) → key_type f k ≡ Some t → (d : KeyDecl) × (d.key_type ≡ Some t) × (key_broken p f k d ≡ [])
  listed_type k t is = by (slice_get f.keys k) refl is
    where
      by : (o : Option KeyDecl) → slice_get f.keys k ≡ o → key_type_in o ≡ Some t →
          (d : KeyDecl) × (d.key_type ≡ Some t) × (key_broken p f k d ≡ [])
      by None at is = absurd (none-some t is)
      by (Some d) at is =
          (d, is, subst (λ k. key_broken p f k d ≡ []) (zero_plus k) (listed_row p f head 0 f.keys k d head.listed at))

  type_known : (k t : ℕ) → key_type f k ≡ Some t → (d : TypeDecl) × (decl_of p t ≡ Some d)
  type_known k t is =
      let q = listed_type k t is in
      let row = (both_empty (when_some q.0.key_type (λ t. unless (is_there (decl_of p t)) rule.NOT_A_TYPE)) _ q.2).0 in
      by (decl_of p t) refl
      (unless_so (is_there (decl_of p t)) rule.NOT_A_TYPE
      (subst (λ o. when_some o (λ t. unless (is_there (decl_of p t)) rule.NOT_A_TYPE) ≡ []) q.1 row))
    where
      by : (o : Option TypeDecl) → decl_of p t ≡ o → is_there o ≡ true → (d : TypeDecl) × (decl_of p t ≡ Some d)
      by None at e = cc
      by (Some d) at e = (d, at)

  -- states of a clause are those of the key's type
  entry_states : (i : ℕ) (e : Entry) (t : ℕ) (states : States) → slice_get f.clause i ≡ Some e → key_type f e.key ≡ Some t →
      e.after ≡ Some states → states_broken p t states ≡ []
  entry_states i e t states is type after =
      let q = listed_type e.key t type in
      by (given_types p f e.key)
      (subst (λ o. listed_agrees o (given_types p f e.key) ≡ []) q.1
      (both_empty _ (listed_agrees q.0.key_type (given_types p f e.key)) q.2).1)
      (entry_known i e is).1
    where
      there : (d : TypeDecl) × (decl_of p t ≡ Some d)
      there = type_known e.key t type

      of_type : when_some (decl_of p t) (λ d. when_some e.before (states_broken p t) ++ when_some e.after (states_broken p t) ++ bound_states p t e.mode) ≡ [] →
          states_broken p t states ≡ []
      of_type e' =
          let r = subst (λ o. when_some o (λ d. when_some e.before (states_broken p t) ++ when_some e.after (states_broken p t) ++ bound_states p t e.mode) ≡ [])
          there.1 e' in
          subst (λ o. when_some o (states_broken p t) ≡ []) after
          (both_empty (when_some e.before (states_broken p t)) (when_some e.after (states_broken p t))
          (both_empty (when_some e.before (states_broken p t) ++ when_some e.after (states_broken p t)) (bound_states p t e.mode) r).0).1

      by : (us : List ℕ) → listed_agrees (Some t) us ≡ [] → entry_types p e us ≡ [] → states_broken p t states ≡ []
      by [] l r = absurd (none_broken _ _ l)
      by (u ∷ us) l r = case (are_all u us) l r
        where
          case : (b : Bool) → (if b then unless (t == u) rule.WRONG_TYPE else rule.TWO_KEY_TYPES ∷ []) ≡ [] →
              (if b then when_some (decl_of p u) (λ d. when_some e.before (states_broken p u) ++ when_some e.after (states_broken p u) ++ bound_states p u e.mode)
              else []) ≡ [] →
              states_broken p t states ≡ []
          case true l r =
              let same : t ≡ u = eqb-true t u (unless_so (t == u) rule.WRONG_TYPE l) in
              of_type
              (subst (λ u. when_some (decl_of p u) (λ d. when_some e.before (states_broken p u) ++ when_some e.after (states_broken p u) ++ bound_states p u e.mode) ≡ [])
              (sym same) r)
          case false l r = absurd (none_broken _ _ l)

  after : (e : Entry) (t s : ℕ) → Among e f.clause → key_type f e.key ≡ Some t → IsTrue (after_set p f e s) →
      IsTrue (all_states p t s)
  after e t s i type is = by e.after refl is
    where
      by : (o : Option States) → e.after ≡ o → IsTrue (states_or_all p f e.key o s) → IsTrue (all_states p t s)
      by None q is = subst (λ o. IsTrue (states_of_type p o s)) type is
      by (Some states) q is =
          let x = among_at f.clause e i in
          states_within p kinded t states (narrow.after x.0 e states x.1 q) (entry_states x.0 e t states x.1 type q) s is

  fresh : (e : Entry) (t : ℕ) (args : List ℕ) → Among e f.clause → is_new e ≡ true → f.result ≡ Some (tracked e.key t args) →
      key_type f e.key ≡ Some t
  fresh e t args i new is =
      let x = among_at f.clause e i in
      key_typed p f head e.key t (entry_known x.0 e x.1).0 (gives (in_has (new_keys f) e.key (new_in f.clause x.0 e x.1 new)))
    where
      gives : has (new_keys f) e.key ≡ true → Gives (given_types p f e.key) t
      gives h = rw (h, is, eq-eqb e.key e.key refl) refl

  -- ---- the result

  declared_result : (ty : Ty) (t : ℕ) (d : TypeDecl) → type_in ty ≡ Some t → decl_of p t ≡ Some d → is_declared_result p ty ≡ true
  declared_result ty t d of is = rw (of, is) refl

  result_row : (ty : Ty) (t : ℕ) → f.result ≡ Some ty → type_in ty ≡ Some t → external_result_broken p f ty ≡ []
  result_row ty t is of =
      let d = (result_kinded p f head ty is).declared t of in
      subst (λ b. (if b then external_result_broken p f ty else []) ≡ []) (declared_result ty t d.decl of d.is)
      (subst (λ o. when_some o (λ ty. if is_declared_result p ty then external_result_broken p f ty else []) ≡ []) is two.1)

  references : (k t : ℕ) (args : List ℕ) → f.result ≡ Some (tracked k t args) → (has (new_keys f) k ≡ true) × (fields_of p t ≡ [])
  references k t args is =
      let both =
      both_so (is_abstract (decl_of p t)) (has (new_keys f) k)
      (unless_so (is_abstract (decl_of p t) && has (new_keys f) k) rule.EXTERN_HEAD (result_row (tracked k t args) t is refl)) in
      (both.1, bare p t (abstract_bare (decl_of p t) both.0).0)

  unguarded : (k t : ℕ) (args : List ℕ) → f.result ≡ Some (guarded k t args) → ⊥
  unguarded k t args is = none_broken _ _ (result_row (guarded k t args) t is refl)

  owned : (states : States) (t : ℕ) (args : List ℕ) → f.result ≡ Some (owning states t args) → IsHostType p states t
  owned states t args is =
      let none =
      abstract_bare (decl_of p t) (unless_so (is_abstract (decl_of p t)) rule.EXTERN_HEAD (result_row (owning states t args) t is refl)) in
      host_type p kinded t states args (narrow.owned states t args is) none.0 none.1
      ((result_kinded p f head (owning states t args) is).shape t refl)

  -- ---- cases

  host_case : (ty : Ty) (t : ℕ) (args : List ℕ) → f.result ≡ Some ty →
      variant_in f.result ≡ Some (record { type = t; args = args }) → type_in ty ≡ Some t → args_of ty ≡ args →
      flat_map (external_case_broken p f args) (cases_of p t) ≡ [] → (c : ℕ) (d : CaseDecl) → case_at p t c ≡ Some d →
      IsHostCase p f t args d
  host_case ty t args is variant_is of same e c d declared = record { payload = payload; keys = keys }
    where
      both : (flat_map (λ ty. unless (is_external_payload p ty) rule.EXTERN_HEAD) d.payload ≡ []) ×
          (flat_map (λ q. when_some (slice_get args q.position) (λ k. unless (has (tracked_keys f) k) rule.EXTERN_HEAD)) d.keys ≡ [])
      both = both_empty (flat_map (λ ty. unless (is_external_payload p ty) rule.EXTERN_HEAD) d.payload) _
          (flat_at (external_case_broken p f args) (cases_of p t) c d e declared)

      count : length args ≡ length (header_of p t)
      count = ap length (sym same) ∙ ((result_kinded p f head ty is).declared t of).count

      payload : (i : ℕ) (part : Ty) → slice_get d.payload i ≡ Some part →
          IsHostPayload p part × ((k : ℕ) → In k (keys_of_ty part) → k < length args)
      payload i part there =
          let k = payload_kinded p kinded t c i d part declared there in
          let ext =
          unless_so (is_external_payload p part) rule.EXTERN_HEAD
          (flat_at (λ ty. unless (is_external_payload p ty) rule.EXTERN_HEAD) d.payload i part both.0 there) in (
            by part there k.1 ext,
            λ j q. subst (λ l. j < l) (sym count) (part_keys p (header_of p t) part k.1 j q),
          )
        where
          by : (part : Ty) → slice_get d.payload i ≡ Some part → PartKinded p (header_of p t) part → is_external_payload p part ≡ true →
              IsHostPayload p part
          by int there k ext = tt
          by bool there k ext = tt
          by (owning states u others) there k ext =
              let none = neither (is_struct (decl_of p u)) (is_variant (decl_of p u)) ext in
              host_type p kinded u states others (narrow.payloads t c i args d states u others variant_is declared there) none.0
              none.1 (k.shape u refl)
          by (tracked j u others) there k ext = cc
          by (guarded j u others) there k ext = cc
          by (variant u others) there k ext = cc
          by (owning_variant u others) there k ext = cc

      keys : (i : ℕ) (k : CaseKey) → slice_get d.keys i ≡ Some k → IsHostKey p f t args k
      keys i k there =
          let l = listed_key p kinded t c i d k declared there in
          let a = argument_there p t args k.position l.of count l.header in
          let row =
          flat_at (λ q. when_some (slice_get args q.position) (λ k. unless (has (tracked_keys f) k) rule.EXTERN_HEAD)) d.keys i k
          both.1 there in
          let ref : has (tracked_keys f) a.0 ≡ true =
          unless_so (has (tracked_keys f) a.0) rule.EXTERN_HEAD
          (subst (λ o. when_some o (λ k. unless (has (tracked_keys f) k) rule.EXTERN_HEAD) ≡ []) a.1 row) in
          record {
            key = a.0;
            is = a.1;
            known = ref;
            of = l.of;
            header = l.header;
            typed = arg_typed a.0 k.position l.of (key_number a.0 ref) a.1 l.header;
            states = states_within p kinded l.of k.states (narrow.listed t c i args d k variant_is declared there) l.states;
          }
        where
          arg_typed : (k i u : ℕ) → nat_lt k (length f.keys) ≡ true → slice_get args i ≡ Some k → header_type p t i ≡ Some u →
              key_type f k ≡ Some u
          arg_typed k i u lt there header =
              let here =
              (result_kinded p f head ty is).args t i k u of (subst (λ xs. slice_get xs i ≡ Some k) (sym same) there) header in
              key_typed p f head k u lt (only_given u (given_types p f k)
              (unless_so (is_only_type u (given_types p f k)) rule.KEY_ARGUMENT
              (subst (λ b. (if b then [] else unless (is_only_type u (given_types p f k)) rule.KEY_ARGUMENT) ≡ [])
              (guard_off p f head k lt) here)))

  -- the result is of the variant
  abbrev Of : VariantOf → Type 0
  Of v = (ty : Ty) × (f.result ≡ Some ty) × (type_in ty ≡ Some v.type) × (args_of ty ≡ v.args) ×
      (flat_map (external_case_broken p f v.args) (cases_of p v.type) ≡ [])

  cases : (t c : ℕ) (args : List ℕ) (d : CaseDecl) → variant_in f.result ≡ Some (record { type = t; args = args }) →
      case_at p t c ≡ Some d → IsHostCase p f t args d
  cases t c args d of declared = by f.result refl of
    where
      go : Of (record { type = t; args = args }) → IsHostCase p f t args d
      go q = host_case q.0 t args q.1 of q.2 q.3 q.4 c d declared

      by : (o : Option Ty) → f.result ≡ o → variant_in o ≡ Some (record { type = t; args = args }) → IsHostCase p f t args d
      by None is e = absurd (none-some (record { type = t; args = args }) e)
      by (Some int) is e = absurd (none-some (record { type = t; args = args }) e)
      by (Some bool) is e = absurd (none-some (record { type = t; args = args }) e)
      by (Some (tracked k u others)) is e = absurd (none-some (record { type = t; args = args }) e)
      by (Some (owning S u others)) is e = absurd (none-some (record { type = t; args = args }) e)
      by (Some (guarded k u others)) is e = absurd (none-some (record { type = t; args = args }) e)
      by (Some (variant u others)) is e =
          go (subst Of (same_Some (record { type = u; args = others }) (record { type = t; args = args }) e)
          (variant u others, is, refl, refl, result_row (variant u others) u is refl))
      by (Some (owning_variant u others)) is e =
          go (subst Of (same_Some (record { type = u; args = others }) (record { type = t; args = args }) e)
          (owning_variant u others, is, refl, refl, result_row (owning_variant u others) u is refl))

  host_head : HasHostHead p f
  host_head = record {
    known = known;
    typed = typed;
    after = after;
    fresh = fresh;
    references = references;
    unguarded = unguarded;
    owned = owned;
    cases = cases;
  }

pub has_hosts : (p : Program) → IsKinded p → HasNarrowHeads p → HasHosts p
has_hosts p kinded narrow = record {
  heads = λ i g at external. host_head p i g kinded (narrow.heads i g at external) at external;
}
