-- What a call that is permitted says of its keys and its values.
use Rattle.std.proofs.Common.{◌≡◌, ◌⊎◌, inl, inr, ⊎_elim, ℕ, suc, ◌==◌, ℤ, Bool, true, false, ◌||◌, not, if◌then◌else◌, List, [], ◌∷◌, ◌++◌, map, length, Option, Some, None, refl, sym, ap, ◌∙◌, subst, slice_get}
use Rattle.std.proofs.lemmas.Bool.{eqb-true}
use Rattle.std.proofs.lemmas.Option.{none-some, same_Some}
use Rattle.std.specs.List.{list_all, flat_map}
use Rattle.vlt_core.specs.Core.{Ty, int, bool, tracked, owning, guarded, variant, owning_variant, Func, Program}
use Rattle.vlt_core.specs.Types.{keys_of_ty, stands_for, with_keys}
use Rattle.vlt_core.specs.KindedHeads.{has, are_apart, parameters_of}
use Rattle.vlt_meaning.specs.World as world
use Rattle.vlt_meaning.specs.World.{Value, reference, one, Object}
use Rattle.vlt_meaning.specs.Calls.{Binding, binding}
use Rattle.vlt_meaning.specs.Externals.{is_given}
use Rattle.vlt_sound_worlds.specs.Look.{look, look_in}
use Rattle.vlt_sound_worlds.proofs.Empty.{both_so}
use Rattle.vlt_sound_worlds.specs.Fits.{IsReference, Fits}
use Rattle.vlt_sound_worlds.specs.Agrees.{values_of, FitHanded}
use Rattle.vlt_sound_worlds.specs.Handed.{handed_values}
use Rattle.vlt_host_meaning.specs.Calls.{Argument, number, object, value_of_argument}
use Rattle.vlt_host_meaning.specs.EntryFunctions.{is_host_type, is_host_result, is_entry_function}
use Rattle.vlt_host_meaning.specs.HostFrame.{host_holds, host_key}
use Rattle.vlt_host_meaning.specs.Permitted.{is_of_type, argument_fits, arguments_fit, argument_binding, argument_bindings, object_of_key, is_that_object, have_one_object, host_keys, entries_before, are_in_states, is_permitted}
use Rattle.vlt_host_laws.proofs.HostAsCaller.{key_of_held}
use Rattle.vlt_host_laws.proofs.HostAgrees.{HostAgrees, host_scene, reference_fits}

-- ---- what is asked

pub record IsAsked (p : Program) (i : ℕ) (g : Func) (args : List Argument) (os : List Object) : Type 0 where
  pub body : g.external ≡ false
  pub bare : list_all is_host_type (parameters_of g) ≡ true
  pub result : is_host_result g g.result ≡ true
  pub no_given : list_all (λ e. not (is_given e)) g.clause ≡ true
  pub fit : arguments_fit os (parameters_of g) args ≡ true
  pub one_each : have_one_object (argument_bindings (parameters_of g) args) ≡ true
  pub apart : are_apart (map (λ e. stands_for (host_keys g args os) e.key) (entries_before g)) ≡ true
  pub states : are_in_states p g (host_keys g args os) os ≡ true

not_so : (b : Bool) → not b ≡ true → b ≡ false
not_so true e = cc
not_so false e = refl

pub asked : (p : Program) (i : ℕ) (g : Func) (args : List Argument) (os : List Object) → is_permitted p i g args os ≡ true →
    IsAsked p i g args os
asked p i g args os ok =
    let a = both_so (is_entry_function p i g) _ ok in
    let b = both_so (arguments_fit os (parameters_of g) args) _ a.1 in
    let c = both_so (have_one_object (argument_bindings (parameters_of g) args)) _ b.1 in
    let d = both_so (are_apart (map (λ e. stands_for (host_keys g args os) e.key) (entries_before g))) _ c.1 in
    let e = both_so (not g.external) _ a.0 in
    let f = both_so (not (i == p.main)) _ e.1 in
    let h = both_so (list_all is_host_type (parameters_of g)) _ f.1 in
    let k = both_so (is_host_result g g.result) _ h.1 in
    record {
      body = not_so g.external e.0;
      bare = h.0;
      result = k.0;
      no_given = k.1;
      fit = b.0;
      one_each = c.0;
      apart = d.0;
      states = d.1;
    }

-- ---- one argument

pub record IsObject (os : List Object) (t : Ty) (a : Argument) : Type 0 where
  pub key : ℕ
  pub type : ℕ
  pub number : ℕ
  pub is : t ≡ tracked key type []
  pub arg : a ≡ object number
  pub holds : host_holds os number ≡ true
  pub typed : (look os number).type ≡ type

pub record IsNumber (t : Ty) (a : Argument) : Type 0 where
  pub value : ℤ
  pub arg : a ≡ number value
  pub is : (t ≡ int) ⊎ (t ≡ bool)

type_looked : (t : ℕ) (q : Option Object) → is_of_type t q ≡ true → (look_in q).type ≡ t
type_looked t None e = cc
type_looked t (Some o) e = eqb-true o.type t e

one_arg : (os : List Object) (t : Ty) (a : Argument) → argument_fits os t a ≡ true → is_host_type t ≡ true → IsNumber t a ⊎ IsObject os t a
one_arg os int (number z) e b = inl (record { value = z; arg = refl; is = inl refl })
one_arg os bool (number z) e b = inl (record { value = z; arg = refl; is = inr refl })
one_arg os (tracked k t []) (object n) e b =
    let both = both_so (host_holds os n) (is_of_type t (slice_get os n)) e in
    inr (record {
      key = k;
      type = t;
      number = n;
      is = refl;
      arg = refl;
      holds = both.0;
      typed = type_looked t (slice_get os n) both.1;
    })
one_arg os (tracked k t (x ∷ xs)) a e b = cc
one_arg os int (object n) e b = cc
one_arg os bool (object n) e b = cc
one_arg os (tracked k t []) (number z) e b = cc
one_arg os (owning s t args) a e b = cc
one_arg os (guarded k t args) a e b = cc
one_arg os (variant t args) a e b = cc
one_arg os (owning_variant t args) a e b = cc

no_name : {t : Ty} {a : Argument} → IsNumber t a → argument_binding t a ≡ []
no_name {t} {a} q = ⊎_elim
    (λ e. ap (λ t. argument_binding t a) e)
    (λ e. ap (λ t. argument_binding t a) e)
    q.is

no_key : {t : Ty} {a : Argument} → IsNumber t a → keys_of_ty t ≡ []
no_key q = ⊎_elim (λ e. ap keys_of_ty e) (λ e. ap keys_of_ty e) q.is

its_name : {os : List Object} {t : Ty} {a : Argument} → (q : IsObject os t a) → argument_binding t a ≡ binding q.number q.key ∷ []
its_name {a = a} q = ap (λ t. argument_binding t a) q.is ∙ ap (argument_binding (tracked q.key q.type [])) q.arg

-- ---- all arguments

-- a parameter of the key's, for which the host gives an object that it holds
pub record IsGivenFor (os : List Object) (tys : List Ty) (k n : ℕ) : Type 0 where
  pub position : ℕ
  pub type : ℕ
  pub param : slice_get tys position ≡ Some (tracked k type [])
  pub holds : host_holds os n ≡ true
  pub typed : (look os n).type ≡ type

module _ (os : List Object) where
  pub object_given : (tys : List Ty) (args : List Argument) → arguments_fit os tys args ≡ true → list_all is_host_type tys ≡ true →
      (k n : ℕ) → object_of_key (argument_bindings tys args) k ≡ Some n → IsGivenFor os tys k n
  object_given [] [] fit bare k n e = absurd (none-some n e)
  object_given [] (a ∷ rest) fit bare k n e = cc
  object_given (t ∷ ts) [] fit bare k n e = cc
  object_given (t ∷ ts) (a ∷ rest) fit bare k n e =
      let both = both_so (argument_fits os t a) (arguments_fit os ts rest) fit in
      let plain = both_so (is_host_type t) (list_all is_host_type ts) bare in
      ⊎_elim
      (λ q. later (object_given ts rest both.1 plain.1 k n (subst (λ xs. object_of_key (xs ++ argument_bindings ts rest) k ≡ Some n) (no_name q) e)))
      (λ q. by q (q.key == k) refl
      (λ e. later (object_given ts rest both.1 plain.1 k n e))
      (subst (λ xs. object_of_key (xs ++ argument_bindings ts rest) k ≡ Some n) (its_name q) e))
      (one_arg os t a both.0 plain.0)
    where
      later : IsGivenFor os ts k n → IsGivenFor os (t ∷ ts) k n
      later q = record { position = suc q.position; type = q.type; param = q.param; holds = q.holds; typed = q.typed }

      by : (q : IsObject os t a) (b : Bool) → (q.key == k) ≡ b →
          (object_of_key (argument_bindings ts rest) k ≡ Some n → IsGivenFor os (t ∷ ts) k n) →
          (if b then Some q.number else object_of_key (argument_bindings ts rest) k) ≡ Some n → IsGivenFor os (t ∷ ts) k n
      by q true same rest e =
          let key = eqb-true q.key k same in
          let number = same_Some q.number n e in
          record {
            position = 0;
            type = q.type;
            param = ap Some (q.is ∙ ap (λ k. tracked k q.type []) key);
            holds = subst (λ n. host_holds os n ≡ true) number q.holds;
            typed = subst (λ n. (look os n).type ≡ q.type) number q.typed;
          }
      by q false same rest e = rest e

  -- each key of the parameters stands for an object
  pub key_given : (tys : List Ty) (args : List Argument) → arguments_fit os tys args ≡ true → list_all is_host_type tys ≡ true →
      (k : ℕ) → has (flat_map keys_of_ty tys) k ≡ true → (n : ℕ) × (object_of_key (argument_bindings tys args) k ≡ Some n)
  key_given [] args fit bare k e = cc
  key_given (t ∷ ts) [] fit bare k e = cc
  key_given (t ∷ ts) (a ∷ rest) fit bare k e =
      let both = both_so (argument_fits os t a) (arguments_fit os ts rest) fit in
      let plain = both_so (is_host_type t) (list_all is_host_type ts) bare in
      ⊎_elim
      (λ q.
      let r = key_given ts rest both.1 plain.1 k (subst (λ ks. has (ks ++ flat_map keys_of_ty ts) k ≡ true) (no_key q) e) in
      (r.0, subst (λ xs. object_of_key (xs ++ argument_bindings ts rest) k ≡ Some r.0) (sym (no_name q)) r.1))
      (λ q.
      let f = by q (q.key == k) refl
      (λ e. key_given ts rest both.1 plain.1 k e)
      (subst (λ t. has (keys_of_ty t ++ flat_map keys_of_ty ts) k ≡ true) q.is e) in
      (f.0, subst (λ xs. object_of_key (xs ++ argument_bindings ts rest) k ≡ Some f.0) (sym (its_name q)) f.1))
      (one_arg os t a both.0 plain.0)
    where
      by : (q : IsObject os t a) (b : Bool) → (q.key == k) ≡ b →
          (has (flat_map keys_of_ty ts) k ≡ true → (n : ℕ) × (object_of_key (argument_bindings ts rest) k ≡ Some n)) →
          (b || has (flat_map keys_of_ty ts) k) ≡ true →
          (n : ℕ) × ((if q.key == k then Some q.number else object_of_key (argument_bindings ts rest) k) ≡ Some n)
      by q true same more e = (q.number, rw same refl)
      by q false same more e = let r = more e in (r.0, rw same r.1)

  pub args_long : (tys : List Ty) (args : List Argument) → arguments_fit os tys args ≡ true → length args ≡ length tys
  args_long [] [] fit = refl
  args_long [] (a ∷ rest) fit = cc
  args_long (t ∷ ts) [] fit = cc
  args_long (t ∷ ts) (a ∷ rest) fit = ap suc (args_long ts rest (both_so (argument_fits os t a) (arguments_fit os ts rest) fit).1)

  -- values own nothing
  pub values_bare : (tys : List Ty) (args : List Argument) → values_of (handed_values tys (map value_of_argument args)) ≡ []
  values_bare [] args = refl
  values_bare (t ∷ ts) [] = refl
  values_bare (t ∷ ts) (number z ∷ rest) = values_bare ts rest
  values_bare (t ∷ ts) (object n ∷ rest) = values_bare ts rest

module _ {p : Program} {os : List Object} (a : HostAgrees p os) (keys : List ℕ) (all : List Binding)
    (stands : (k n : ℕ) → object_of_key all k ≡ Some n → stands_for keys k ≡ n) where
  that : (n : ℕ) (o : Option ℕ) → is_that_object n o ≡ true → o ≡ Some n
  that n None e = cc
  that n (Some m) e = ap Some (eqb-true m n e)

  pub values_fit : (tys : List Ty) (args : List Argument) → arguments_fit os tys args ≡ true → list_all is_host_type tys ≡ true →
      list_all (λ b. is_that_object b.number (object_of_key all b.key)) (argument_bindings tys args) ≡ true →
      FitHanded p (host_scene os a.heads) (host_key os) (handed_values (map (with_keys keys) tys) (map value_of_argument args))
  values_fit [] args fit bare each = tt
  values_fit (t ∷ ts) [] fit bare each = cc
  values_fit (t ∷ ts) (x ∷ rest) fit bare each =
      let both = both_so (argument_fits os t x) (arguments_fit os ts rest) fit in
      let plain = both_so (is_host_type t) (list_all is_host_type ts) bare in
      ⊎_elim
      (λ q. (a_number t x q, values_fit ts rest both.1 plain.1 (subst (λ xs. list_all (λ b. is_that_object b.number (object_of_key all b.key)) (xs ++ argument_bindings ts rest) ≡ true) (no_name q) each)))
      (λ q.
      let here = both_so (is_that_object q.number (object_of_key all q.key)) _
      (subst (λ xs. list_all (λ b. is_that_object b.number (object_of_key all b.key)) (xs ++ argument_bindings ts rest) ≡ true) (its_name q) each) in
      (an_object t x q (that q.number (object_of_key all q.key) here.0), values_fit ts rest both.1 plain.1 here.1))
      (one_arg os t x both.0 plain.0)
    where
      use_fits : Ty → Value → Type 0
      use_fits t v = Fits p (host_scene os a.heads) (host_key os) (with_keys keys t) v

      a_number : (t : Ty) (x : Argument) → IsNumber t x → use_fits t (value_of_argument x)
      a_number t x q = subst (λ x. use_fits t (value_of_argument x)) (sym q.arg) (⊎_elim
          (λ e. subst (λ t. use_fits t (one (world.number q.value))) (sym e) (record { part = world.number q.value; is = refl; fits = (q.value, refl) }))
          (λ e. subst (λ t. use_fits t (one (world.number q.value))) (sym e) (record { part = world.number q.value; is = refl; fits = (q.value, refl) }))
          q.is)

      an_object : (t : Ty) (x : Argument) → (q : IsObject os t x) → object_of_key all q.key ≡ Some q.number → use_fits t (value_of_argument x)
      an_object t x q stood =
          subst (λ x. use_fits t (value_of_argument x)) (sym q.arg)
          (subst (λ t. use_fits t (one (reference q.number))) (sym q.is)
          (record {
            part = reference q.number;
            is = refl;
            fits = subst (λ t. IsReference (host_scene os a.heads) (host_key os) (stands_for keys q.key) t [] (reference q.number)) q.typed
                (reference_fits a (host_key os) (stands_for keys q.key) q.number q.holds
                (ap (host_key os) (stands q.key q.number stood) ∙ key_of_held os q.number q.holds));
          }))
