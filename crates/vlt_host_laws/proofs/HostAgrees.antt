-- What is so of the objects between a host's calls, and the fact on the host as a caller that follows.
use Rattle.std.proofs.Common.{◌≡◌, ◌⊎◌, inl, inr, ⊎_elim, ℕ, ◌==◌, ◌≤◌, nat_lt, Bool, true, false, not, if◌then◌else◌, IsTrue, List, [], length, Option, Some, None, refl, sym, ap, ◌∙◌, subst, arith, slice_get}
use Rattle.std.proofs.lemmas.Bool.{cases_Bool, eq-eqb, ltb-true, ltb-false}
use Rattle.std.proofs.lemmas.Option.{same_Some, none-some}
use Rattle.vlt_core.specs.Core.{Ty, int, tracked, variant, a_key, Func, Program}
use Rattle.vlt_core.specs.Lookups.{key_type}
use Rattle.vlt_core.specs.Types.{keys_of_ty, args_of, type_in}
use Rattle.vlt_core.specs.Maps.{absent, held}
use Rattle.vlt_core.specs.KindedHeads.{has}
use Rattle.vlt_meaning.specs.World as world
use Rattle.vlt_meaning.specs.World.{one, reference, Object, adopted_by}
use Rattle.vlt_sound_worlds.specs.Look.{look, IsLive}
use Rattle.vlt_sound_worlds.specs.Ranks.{IsRanked}
use Rattle.vlt_sound_worlds.specs.Members.{In, IsOnce}
use Rattle.vlt_sound_worlds.specs.Placed.{IsPlaced}
use Rattle.vlt_sound_worlds.specs.Roots.{Root, in_var, in_hand, in_wait, in_cell, Stock, owned_by, content, home, owner_of}
use Rattle.vlt_sound_worlds.specs.Keys.{IsOfType, KeyAgrees, IsUnder}
use Rattle.vlt_sound_worlds.proofs.KeysLaws.{key_absent, key_held}
use Rattle.vlt_sound_worlds.specs.Scene.{Scene}
use Rattle.vlt_sound_worlds.specs.Fits.{IsReference, Fits}
use Rattle.vlt_sound_worlds.specs.Agrees.{ObjectFits, IsAdoptable, VarsFit, Handed, values_of, FitHanded, stock, Agrees}
use Rattle.vlt_sound_worlds.specs.Typed.{IsDeclared, IsTyped}
use Rattle.vlt_sound_worlds.specs.Scoped.{IsScoped}
use Rattle.vlt_sound_calls.specs.Returned.{is_lasting, IsEntered}
use Rattle.vlt_host_meaning.specs.HostFrame.{host_holds, host_key, host_var, host_frame}
use Rattle.vlt_host_laws.proofs.Ranges.{mapped_length}
use Rattle.vlt_host_laws.proofs.HostAsCaller.{holds_owner, owner_holds, holds_within, not_past, key_of_held, var_of_held, host_func, host_numbers, host_ids, host_map, host_context, scope_holds, var_type_is, var_cases, key_type_is, no_owning, key_decl}

-- no value owns anything
abbrev pub bare_stock : List Object → Stock
bare_stock os = record { vars = λ v. None; hand = []; waits = λ d v. None; objects = look os }

abbrev pub host_scene : List Object → (ℕ → List (Option ℕ)) → Scene
host_scene os heads = record { objects = os; heads = heads; foci = [] }

pub record HostAgrees (p : Program) (os : List Object) : Type 0 where
  pub heads : ℕ → List (Option ℕ)
  pub placed : IsPlaced (content (bare_stock os)) home (owner_of (look os))
  pub ranked : IsRanked (look os)
  pub objects : (n : ℕ) → IsLive (look os) n → ObjectFits p (host_scene os heads) n
  pub adopted : (n g : ℕ) → (look os n).owner ≡ adopted_by g → IsAdoptable p (look os n)
  -- a key that an object is under is the host's for it
  pub own : (n d k : ℕ) → IsUnder d k (look os n).owner → (look os n).owner ≡ world.held 0 n
  -- what the host holds is of a declared type without a header
  pub bare : (n : ℕ) → (look os n).owner ≡ world.held 0 n → heads n ≡ []
  pub declared : (n : ℕ) → (look os n).owner ≡ world.held 0 n → IsDeclared p (look os n).type []

-- places that have the same are as well placed
pub same_placed : {old new : Root → List ℕ} {owner : ℕ → world.Owner} → ((P : Root) → new P ≡ old P) →
    IsPlaced old home owner → IsPlaced new home owner
same_placed same was = record {
  place = was.place;
  there = λ n owned. let t = was.there n owned in record { has = subst (In n) (sym (same (was.place n))) t.has; lies = t.lies };
  here = λ P n i. was.here P n (subst (In n) (same P) i);
  once = λ P. subst IsOnce (sym (same P)) (was.once P);
}

module _ {p : Program} {os : List Object} (a : HostAgrees p os) where
  abbrev F : Func
  F = host_func os

  pub status_held : (k : ℕ) → host_holds os k ≡ true → host_map os (a_key k) ≡ held (λ s. s == (look os k).state)
  status_held k e = ap (λ b. if b then held (λ s. s == (look os k).state) else absent) e

  pub status_absent : (k : ℕ) → host_holds os k ≡ false → host_map os (a_key k) ≡ absent
  status_absent k e = ap (λ b. if b then held (λ s. s == (look os k).state) else absent) e

  -- only the object itself is under its key
  pub only_itself : (m d k : ℕ) → IsUnder d k (look os m).owner → (0 ≡ d) × (m ≡ k)
  only_itself m d k u = subst (IsUnder d k) (a.own m d k u) u

  keys_agree : (k : ℕ) → KeyAgrees (key_type F k) (host_map os (a_key k)) 0 k (host_key os k) (look os)
  keys_agree k = ⊎_elim
      (λ e. key_held (λ s. s == (look os k).state) (status_held k e) (record {
        number = k;
        named = key_of_held os k e;
        owned = holds_owner os k e;
        typed = subst (λ o. is_type o) (sym (key_type_is os k (holds_within os k e))) refl;
        state = eq-eqb (look os k).state (look os k).state refl;
        only = λ m u. (only_itself m 0 k u).1;
      }))
      (λ e. key_absent (status_absent k e) (λ m u.
      let same = (only_itself m 0 k u).1 in
      clash (sym e ∙ owner_holds os k (subst (λ j. (look os j).owner ≡ world.held 0 j) same (a.own m 0 k u)))))
      (cases_Bool (host_holds os k))
    where
      is_type : Option ℕ → Type 0
      is_type o = IsOfType o (look os k).type

      clash : false ≡ true → ⊥
      clash e = cc

  -- a reference of the host stands for the object that it holds
  pub reference_fits : (names : ℕ → Option ℕ) (k n : ℕ) → host_holds os n ≡ true → names k ≡ Some n →
      IsReference (host_scene os a.heads) names k (look os n).type [] (reference n)
  reference_fits names k n e named = record {
    object = n;
    named = named;
    is = refl;
    of = record { within = holds_within os n e; typed = refl; headed = a.bare n (holds_owner os n e) };
  }

  vars_fit : VarsFit p F (host_ids os) (host_scene os a.heads) (host_key os) (host_var os)
  vars_fit = record {
    fit = λ v ty b i is at.
        let e = scope_holds os v i in
        subst (λ t. Fits p (host_scene os a.heads) (host_key os) t b)
        (same_Some (tracked v (look os v).type []) ty (sym (var_type_is os v e) ∙ is))
        (subst (Fits p (host_scene os a.heads) (host_key os) (tracked v (look os v).type []))
        (same_Some (one (reference v)) b (sym (var_of_held os v e) ∙ at))
        (record { part = reference v; is = refl; fits = reference_fits (host_key os) v v e (key_of_held os v e) }));
    there = λ v ty i is plain. (one (reference v), var_of_held os v (scope_holds os v i));
  }

  pub no_values : (v : ℕ) → owned_by (host_var os v) ≡ []
  no_values v = by (host_holds os v)
    where
      by : (b : Bool) → owned_by (if b then Some (one (reference v)) else None) ≡ []
      by true = refl
      by false = refl

  pub host_typed : (g : Func) → IsTyped p g → IsTyped p F
  host_typed g typed = record {
    limited = typed.limited;
    sets = typed.sets;
    vars = λ v ty t is in_ty. of_var v ty t (var_cases os v ty is) in_ty;
    fields = typed.fields;
    variants = λ v t args is. absurd (no_variant v t args (var_cases os v (variant t args) is));
    field_variants = typed.field_variants;
    keys = λ v k t args is. of_key v k t args (var_cases os v (tracked k t args) is);
    heads = λ v t i k u ty is in_ty at given. absurd (no_args v ty i k (var_cases os v ty is) at);
  }
    where
      of_var : (v : ℕ) (ty : Ty) (t : ℕ) → ((host_holds os v ≡ true) × (ty ≡ tracked v (look os v).type [])) ⊎ (ty ≡ int) →
          type_in ty ≡ Some t → IsDeclared p t (args_of ty)
      of_var v ty t (inl q) e =
          subst (λ y. IsDeclared p t (args_of y)) (sym q.1)
          (subst (λ t. IsDeclared p t []) (same_Some (look os v).type t (sym (ap type_in q.1) ∙ e))
          (a.declared v (holds_owner os v q.0)))
      of_var v ty t (inr q) e = absurd (none-some t (sym (ap type_in q) ∙ e))

      no_variant : (v t : ℕ) (args : List ℕ) →
          ((host_holds os v ≡ true) × (variant t args ≡ tracked v (look os v).type [])) ⊎ (variant t args ≡ int) → ⊥
      no_variant v t args (inl q) = let e = q.1 in cc
      no_variant v t args (inr q) = cc

      of_key : (v k t : ℕ) (args : List ℕ) →
          ((host_holds os v ≡ true) × (tracked k t args ≡ tracked v (look os v).type [])) ⊎ (tracked k t args ≡ int) →
          key_type F k ≡ Some t
      of_key v k t args (inl q) =
          let both = same_tracked k v t (look os v).type args [] q.1 in
          subst (λ j. key_type F j ≡ Some t) (sym both.0) (key_type_is os v (holds_within os v q.0) ∙ ap Some (sym both.1))
        where
          same_tracked : (k j t u : ℕ) (args others : List ℕ) → tracked k t args ≡ tracked j u others → (k ≡ j) × (t ≡ u)
          same_tracked k j t u args others e = (cc, cc)
      of_key v k t args (inr q) = cc

      no_args : (v : ℕ) (ty : Ty) (i k : ℕ) → ((host_holds os v ≡ true) × (ty ≡ tracked v (look os v).type [])) ⊎ (ty ≡ int) →
          slice_get (args_of ty) i ≡ Some k → ⊥
      no_args v ty i k (inl q) at = none-some k (sym (ap (λ y. slice_get (args_of y) i) q.1) ∙ at)
      no_args v ty i k (inr q) at = none-some k (sym (ap (λ y. slice_get (args_of y) i) q) ∙ at)

  is_past : (k : ℕ) → IsTrue (is_lasting F k) → length os ≤ k
  is_past k e =
      let l = mapped_length (key_decl os) (length os) in
      ⊎_elim (λ lt. absurd (inside lt e)) (λ past. let le = ltb-false k (length F.keys) past in omega arith)
      (cases_Bool (nat_lt k (length F.keys)))
    where
      inside : nat_lt k (length F.keys) ≡ true → is_lasting F k ≡ true → ⊥
      inside lt e = clash (sym (ap not lt) ∙ e)
        where
          clash : false ≡ true → ⊥
          clash e = cc

  pub host_entered : IsEntered p F (host_context os)
  host_entered = record {
    flat = refl;
    free = λ d v le. refl;
    head = λ k. refl;
    beyond = λ k past. refl;
    typed = λ s waits k t n i type name. absurd (none-some n name);
  }

  pub host_scoped : IsScoped F (host_context os) (host_ids os)
  host_scoped = record {
    vars = λ v k ty i is j. scoped_key v k ty i (var_cases os v ty is) j;
    keys = λ k i. i;
    ever = λ v i. i;
    head = λ k i lt. absurd (no_head k i lt);
    pins = tt;
    owned = λ k i. inr (record { var = k; type = (look os k).type; args = []; is = var_type_is os k (scope_holds os k i); scoped = i });
  }
    where
      scoped_key : (v k : ℕ) (ty : Ty) → has (host_numbers os) v ≡ true →
          ((host_holds os v ≡ true) × (ty ≡ tracked v (look os v).type [])) ⊎ (ty ≡ int) → In k (keys_of_ty ty) →
          has (host_numbers os) k ≡ true
      scoped_key v k ty i (inl q) j = ⊎_elim
          (λ same. subst (λ k. has (host_numbers os) k ≡ true) (sym same) i)
          (λ none. absurd none)
          (subst (λ y. In k (keys_of_ty y)) q.1 j)
      scoped_key v k ty i (inr q) j = absurd (subst (λ y. In k (keys_of_ty y)) q j)

      no_head : (k : ℕ) → IsTrue (is_lasting F k) → nat_lt k (length F.keys) ≡ true → ⊥
      no_head k i lt =
          let le = is_past k i in
          let l = mapped_length (key_decl os) (length os) in
          let less = ltb-true k (length F.keys) lt in
          absurd (omega arith)

  -- the host before a call, where these values are handed over
  pub host_agrees : (hand : List Handed) → values_of hand ≡ [] → FitHanded p (host_scene os a.heads) (host_key os) hand →
      Agrees p F (host_context os) (host_map os) (host_ids os) hand (host_frame os) os
  host_agrees hand owns fit = record {
    heads = a.heads;
    placed = same_placed same a.placed;
    ranked = a.ranked;
    objects = a.objects;
    adopted = a.adopted;
    keys = keys_agree;
    vars = record { plain = λ v e. no_values v; full = λ v own. absurd (clash (sym (no_owning os v) ∙ own)) };
    fit = vars_fit;
    handed = fit;
    rest = record {
      depth = refl;
      within = omega arith;
      named = λ k i. ap (λ b. if b then Some k else None) (not_past os k (is_past k i));
      bounded = λ n d k u. let q = (only_itself n d k u).0 in omega arith;
      focused = tt;
      pinned = tt;
      waits = λ d lt. absurd (omega arith);
    };
  }
    where
      clash : false ≡ true → ⊥
      clash e = cc

      same : (P : Root) → content (stock (host_context os) hand (host_frame os) os) P ≡ content (bare_stock os) P
      same (in_var v) = no_values v
      same in_hand = owns
      same (in_wait d v) = refl
      same (in_cell n i) = refl
