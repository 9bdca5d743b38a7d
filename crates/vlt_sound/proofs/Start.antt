-- Where main begins, what is said of it is so.
use Rattle.std.proofs.Common.{◌≡◌, ⊎_elim, ℕ, nat_lt, Bool, true, false, ◌&&◌, ◌||◌, not, if◌then◌else◌, [], ◌++◌, length, map, Option, Some, None, refl, sym, ap, ◌∙◌, subst, arith}
use Rattle.std.proofs.lemmas.Bool.{cases_Bool, ltb-false, le-ltb}
use Rattle.vlt_core.specs.Core.{a_key, a_var, Func, Program}
use Rattle.vlt_core.specs.Lookups.{is_owning_var, key_type}
use Rattle.vlt_core.specs.Maps.{Status, absent, full}
use Rattle.vlt_core.specs.Derives.{start_map}
use Rattle.vlt_core.specs.KindedHeads.{has, keys_of_parameters, keys_of_result}
use Rattle.vlt_core.specs.KindedBodies.{first_ids}
use Rattle.vlt_meaning.specs.World.{gone, adopted_by}
use Rattle.vlt_meaning.specs.Run.{first_frame}
use Rattle.vlt_sound_worlds.specs.Look.{look}
use Rattle.vlt_sound_worlds.specs.Members.{In, IsOnce}
use Rattle.vlt_sound_worlds.specs.Roots.{Root, in_var, in_hand, in_wait, in_cell, content}
use Rattle.vlt_sound_worlds.specs.Keys.{KeyAgrees}
use Rattle.vlt_sound_worlds.proofs.KeysLaws.{key_absent}
use Rattle.vlt_sound_worlds.specs.Agrees.{HasVar, InScope, Waiting, Context, stock, Agrees}
use Rattle.vlt_sound_worlds.specs.Scoped.{IsScoped}
use Rattle.vlt_sound_worlds.proofs.Starting.{has_left, has_right, start_scoped}
use Rattle.vlt_sound_calls.specs.Returned.{is_lasting, IsEntered}
use Rattle.vlt_sound_calls.proofs.Parameters.{range_within}
use Rattle.vlt_sound_calls.proofs.Begins.{status_none}
use Rattle.vlt_sound.specs.Main.{IsMain}

-- no function waits for main
abbrev nobody : Func → ℕ → Waiting
nobody f d = record {
  func = f;
  map = λ t. absent;
  ids = record { vars = []; keys = []; vars_ever = []; keys_ever = []; bound = [] };
  frame = first_frame d;
}

abbrev pub main_context : Func → Context
main_context f = record {
  depth = 1;
  deepest = 1;
  head = is_lasting f;
  names = λ k. None;
  foci = [];
  pins = [];
  waiting = nobody f;
}

clash : false ≡ true → ⊥
clash e = cc

module _ (p : Program) (f : Func) (main : IsMain f) where
  no_key : (k : ℕ) → start_map p f (a_key k) ≡ absent
  no_key k = status_none p f f.clause k (λ e i b is. clash (sym (main.before e i) ∙ b))

  no_var : (v : ℕ) → start_map p f (a_var v) ≡ absent
  no_var v = by (nat_lt v f.params) (ap (nat_lt v) main.params)
    where
      zero_none : nat_lt v 0 ≡ false
      zero_none = none v
        where
          none : (v : ℕ) → nat_lt v 0 ≡ false
          none v = le-ltb v 0 (omega arith)

      by : (b : Bool) → b ≡ nat_lt v 0 → (if b && is_owning_var f v then full else absent) ≡ absent
      by true e = absurd (clash (sym (e ∙ zero_none)))
      by false e = refl

  no_scope : (v : ℕ) → InScope (first_ids p f) v → ⊥
  no_scope v i = ⊎_elim
      (λ lt. let q = rw lt at i in let b = (range_within v 0 f.params q).1 in let z = main.params in absurd (omega arith))
      (λ past.
      let q = rw past at i in
      let b = (range_within v 0 (length f.vars) q).1 in
      let le = ltb-false f.params (length f.vars) past in
      let z = main.params in
      absurd (omega arith))
      (cases_Bool (nat_lt f.params (length f.vars)))

  nothing_under : (d k : ℕ) (type name : Option ℕ) (s : Status) → s ≡ absent → KeyAgrees type s d k name (look [])
  nothing_under d k type name s is = key_absent is (λ m u. u)

  first_placed : (P : Root) → content (stock (main_context f) [] (first_frame 1) []) P ≡ []
  first_placed (in_var v) = refl
  first_placed in_hand = refl
  first_placed (in_wait d v) = refl
  first_placed (in_cell n i) = refl

  pub main_agrees : Agrees p f (main_context f) (start_map p f) (first_ids p f) [] (first_frame 1) []
  main_agrees = record {
    heads = λ n. [];
    placed = record {
      place = λ n. in_hand;
      there = λ n owned. absurd owned;
      here = λ P n i. absurd (subst (In n) (first_placed P) i);
      once = λ P. subst IsOnce (sym (first_placed P)) tt;
    };
    ranked = record { rank = λ n. 0; top = 1; under = λ n. omega arith; linked = λ n p e. absurd (none p e) };
    objects = λ n live. absurd (live refl);
    adopted = λ n g e. absurd (no_owner g e);
    keys = λ k. nothing_under 1 k (key_type f k) None (start_map p f (a_key k)) (no_key k);
    vars = record {
      plain = λ v e. refl;
      full = λ v. subst (λ s. HasVar (is_owning_var f v) s None) (sym (no_var v)) (λ e. refl);
    };
    fit = record {
      fit = λ v ty a i is at. absurd (no_scope v i);
      there = λ v ty i is plain. absurd (no_scope v i);
    };
    handed = tt;
    rest = record {
      depth = refl;
      within = omega arith;
      named = λ k i. refl;
      bounded = λ n d k u. absurd u;
      focused = tt;
      pinned = tt;
      waits = λ d lt. record {
        depth = refl;
        keys = λ k. nothing_under d k (key_type f k) None absent refl;
        vars = record {
          fit = λ v ty a i is at. absurd (clash i);
          there = λ v ty i is plain. absurd (clash i);
        };
      };
    };
  }
    where
      none : (p : ℕ) → ◌≡◌ {A = Option ℕ} None (Some p) → ⊥
      none p e = cc

      no_owner : (g : ℕ) → gone ≡ adopted_by g → ⊥
      no_owner g e = cc

  pub main_entered : IsEntered p f (main_context f)
  main_entered = record {
    flat = refl;
    free = λ d v le. refl;
    head = λ k. refl;
    beyond = λ k past. refl;
    typed = λ s waits k t n i type name. absurd (none n name);
  }
    where
      none : (n : ℕ) → ◌≡◌ {A = Option ℕ} None (Some n) → ⊥
      none n e = cc

  pub main_scoped : IsScoped f (main_context f) (first_ids p f)
  main_scoped = start_scoped p f (λ k i lt.
      has_left k (keys_of_result f ++ keys_of_parameters f) (map (λ e. e.key) f.clause)
      (has_right k (keys_of_result f) (keys_of_parameters f) (param (has (keys_of_parameters f) k) (nat_lt k (length f.keys)) lt i))) refl
    where
      param : (a b : Bool) → b ≡ true → (a || not b) ≡ true → a ≡ true
      param true b lt e = refl
      param false true lt e = cc
      param false false lt e = cc
