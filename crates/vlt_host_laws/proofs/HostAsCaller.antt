-- The host as a function that waits for the one that it calls: it has a variable and a key for each object that it holds.
use Rattle.std.proofs.Common.{◌≡◌, ◌⊎◌, inl, inr, ⊎_elim, ℕ, ◌==◌, ◌<◌, ◌≤◌, nat_lt, Bool, true, false, if◌then◌else◌, List, [], map, filter, length, Option, Some, None, refl, sym, ap, ◌∙◌, subst, arith, slice_get}
use Rattle.std.proofs.lemmas.Bool.{cases_Bool, eqb-true, eq-eqb, ltb-true, ltb-false}
use Rattle.std.proofs.lemmas.Option.{none-some, same_Some, slice_get_past}
use Rattle.std.specs.List.{range_with_len}
use Rattle.std.specs.Option.{option_map}
use Rattle.vlt_core.specs.Core.{Ty, int, tracked, KeyDecl, VarDecl, done, a_key, a_var, Func}
use Rattle.vlt_core.specs.Lookups.{var_type, key_type, key_type_in, is_owning, is_owning_var, owns}
use Rattle.vlt_core.specs.Maps.{absent, held, HeldMap}
use Rattle.vlt_core.specs.KindedHeads.{has}
use Rattle.vlt_core.specs.KindedScopes.{Ids}
use Rattle.vlt_meaning.specs.World as world
use Rattle.vlt_meaning.specs.World.{Owner, gone, loose, inside, adopted_by, out, is_held_under, Object, reference, one}
use Rattle.vlt_meaning.specs.Run.{first_frame}
use Rattle.vlt_sound_worlds.specs.Look.{look, look_in, IsLive}
use Rattle.vlt_sound_worlds.proofs.Look.{live_at, live_within}
use Rattle.vlt_sound_worlds.proofs.Empty.{both_so}
use Rattle.vlt_sound_worlds.specs.Agrees.{Waiting, Context}
use Rattle.vlt_sound_calls.specs.Returned.{is_lasting}
use Rattle.vlt_sound_calls.proofs.Parameters.{in_range}
use Rattle.vlt_host_meaning.specs.HostFrame.{holds_in, host_holds, host_key, host_var}
use Rattle.vlt_host_laws.proofs.Ranges.{mapped_at, mapped_past, filtered_passes, has_filtered}

-- ---- what the host holds

held_zero : (n : ℕ) (q : Owner) → is_held_under 0 n q ≡ true → q ≡ world.held 0 n
held_zero n (world.held e j) t =
    let both = both_so (0 == e) (n == j) t in
    let a = eqb-true 0 e both.0 in
    let b = eqb-true n j both.1 in
    ap (λ d. world.held d j) (sym a) ∙ ap (world.held 0) (sym b)
held_zero n (world.lent e j) t = cc
held_zero n loose t = cc
held_zero n (inside m) t = cc
held_zero n (adopted_by m) t = cc
held_zero n out t = cc
held_zero n gone t = cc

pub holds_owner : (os : List Object) (n : ℕ) → host_holds os n ≡ true → (look os n).owner ≡ world.held 0 n
holds_owner os n e = by (slice_get os n) e
  where
    by : (q : Option Object) → holds_in n q ≡ true → (look_in q).owner ≡ world.held 0 n
    by None e = cc
    by (Some o) e = held_zero n o.owner e

pub held_live : (os : List Object) (n d k : ℕ) → (look os n).owner ≡ world.held d k → IsLive (look os) n
held_live os n d k e g = clash (sym g ∙ e)
  where
    clash : gone ≡ world.held d k → ⊥
    clash e = cc

pub owner_holds : (os : List Object) (n : ℕ) → (look os n).owner ≡ world.held 0 n → host_holds os n ≡ true
owner_holds os n e =
    rw (live_at os n (held_live os n 0 n e))
    (subst (λ q. is_held_under 0 n q ≡ true) (sym e) (rw (eq-eqb n n refl) refl))

pub holds_within : (os : List Object) (n : ℕ) → host_holds os n ≡ true → n < length os
holds_within os n e = live_within os n (held_live os n 0 n (holds_owner os n e))

pub not_past : (os : List Object) (n : ℕ) → length os ≤ n → host_holds os n ≡ false
not_past os n le = ap (holds_in n) (slice_get_past os n le)

pub key_of_held : (os : List Object) (k : ℕ) → host_holds os k ≡ true → host_key os k ≡ Some k
key_of_held os k e = ap (λ b. if b then Some k else None) e

pub var_of_held : (os : List Object) (v : ℕ) → host_holds os v ≡ true → host_var os v ≡ Some (one (reference v))
var_of_held os v e = ap (λ b. if b then Some (one (reference v)) else None) e

-- a key that names an object is held, and has the object's number
pub key_names : (os : List Object) (k n : ℕ) → host_key os k ≡ Some n → (host_holds os k ≡ true) × (k ≡ n)
key_names os k n e = by (host_holds os k) e
  where
    by : (b : Bool) → (if b then Some k else None) ≡ Some n → (b ≡ true) × (k ≡ n)
    by true e = (refl, same_Some k n e)
    by false e = absurd (none e)
      where
        none : ◌≡◌ {A = Option ℕ} None (Some n) → ⊥
        none e = cc

-- ---- the host as a function

abbrev pub host_type : List Object → (v : ℕ) → Ty
host_type os v = if host_holds os v then tracked v (look os v).type [] else int

abbrev pub key_decl : List Object → (k : ℕ) → KeyDecl
key_decl os k = record { name = []; key_type = Some (look os k).type }

abbrev pub var_decl : List Object → (v : ℕ) → VarDecl
var_decl os v = record { name = []; ty = host_type os v }

abbrev pub host_func : List Object → Func
host_func os = record {
  name = [];
  external = false;
  result = None;
  params = 0;
  clause = [];
  keys = map (key_decl os) (range_with_len 0 (length os));
  vars = map (var_decl os) (range_with_len 0 (length os));
  body = done;
  end = 0;
}

abbrev pub host_numbers : List Object → List ℕ
host_numbers os = filter (host_holds os) (range_with_len 0 (length os))

abbrev pub host_ids : List Object → Ids
host_ids os = record {
  vars = host_numbers os;
  keys = host_numbers os;
  vars_ever = host_numbers os;
  keys_ever = host_numbers os;
  bound = [];
}

-- each object is in the state that it is in
abbrev pub host_map : List Object → HeldMap
host_map os (a_key k) = if host_holds os k then held (λ s. s == (look os k).state) else absent
host_map os (a_var v) = absent

-- nobody waits for the host
abbrev pub nobody : Func → ℕ → Waiting
nobody f d = record {
  func = f;
  map = λ t. absent;
  ids = record { vars = []; keys = []; vars_ever = []; keys_ever = []; bound = [] };
  frame = first_frame d;
}

abbrev pub host_context : List Object → Context
host_context os = record {
  depth = 0;
  deepest = 0;
  head = is_lasting (host_func os);
  names = λ k. None;
  foci = [];
  pins = [];
  waiting = nobody (host_func os);
}

-- ---- its types and scope

module _ (os : List Object) where
  pub scope_holds : (v : ℕ) → has (host_numbers os) v ≡ true → host_holds os v ≡ true
  scope_holds v i = filtered_passes (host_holds os) v (range_with_len 0 (length os)) i

  pub holds_scope : (v : ℕ) → host_holds os v ≡ true → has (host_numbers os) v ≡ true
  holds_scope v e =
      let lt = holds_within os v e in
      has_filtered (host_holds os) v (range_with_len 0 (length os)) (in_range v 0 (length os) (omega arith) (omega arith)) e

  pub var_type_is : (v : ℕ) → host_holds os v ≡ true → var_type (host_func os) v ≡ Some (tracked v (look os v).type [])
  var_type_is v e =
      ap (option_map (λ d. d.ty)) (mapped_at (var_decl os) (length os) v (holds_within os v e)) ∙
      ap (λ b. Some (if b then tracked v (look os v).type [] else int)) e

  -- a variable is the reference of an object that is held, or a number
  pub var_cases : (v : ℕ) (ty : Ty) → var_type (host_func os) v ≡ Some ty →
      ((host_holds os v ≡ true) × (ty ≡ tracked v (look os v).type [])) ⊎ (ty ≡ int)
  var_cases v ty is = ⊎_elim within past (cases_Bool (nat_lt v (length os)))
    where
      by : (b : Bool) → host_holds os v ≡ b → Some (if b then tracked v (look os v).type [] else int) ≡ Some ty →
          ((host_holds os v ≡ true) × (ty ≡ tracked v (look os v).type [])) ⊎ (ty ≡ int)
      by true h e = inl (h, sym (same_Some (tracked v (look os v).type []) ty e))
      by false h e = inr (sym (same_Some int ty e))

      within : nat_lt v (length os) ≡ true → ((host_holds os v ≡ true) × (ty ≡ tracked v (look os v).type [])) ⊎ (ty ≡ int)
      within lt =
          by (host_holds os v) refl
          (sym (ap (option_map (λ d. d.ty)) (mapped_at (var_decl os) (length os) v (ltb-true v (length os) lt))) ∙ is)

      past : nat_lt v (length os) ≡ false → ((host_holds os v ≡ true) × (ty ≡ tracked v (look os v).type [])) ⊎ (ty ≡ int)
      past le =
          absurd (none-some ty (sym (ap (option_map (λ d. d.ty)) (mapped_past (var_decl os) (length os) v (ltb-false v (length os) le))) ∙ is))

  pub key_type_is : (k : ℕ) → k < length os → key_type (host_func os) k ≡ Some (look os k).type
  key_type_is k lt = ap key_type_in (mapped_at (key_decl os) (length os) k lt)

  pub no_owning : (v : ℕ) → is_owning_var (host_func os) v ≡ false
  no_owning v = by (var_type (host_func os) v) refl
    where
      not_owning : (ty : Ty) → ((host_holds os v ≡ true) × (ty ≡ tracked v (look os v).type [])) ⊎ (ty ≡ int) → is_owning ty ≡ false
      not_owning ty (inl q) = ap is_owning q.1
      not_owning ty (inr e) = ap is_owning e

      by : (o : Option Ty) → var_type (host_func os) v ≡ o → owns o ≡ false
      by None e = refl
      by (Some ty) e = not_owning ty (var_cases v ty e)
