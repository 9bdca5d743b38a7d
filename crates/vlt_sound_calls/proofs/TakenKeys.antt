-- The objects of keys that a clause takes.
use Rattle.std.proofs.Common.{◌≡◌, ⊎_elim, inl, inr, ℕ, ◌<◌, Bool, true, false, ◌&&◌, not, if◌then◌else◌, List, [], ◌∷◌, map, length, Option, Some, None, refl, sym, ap, ◌∙◌, subst}
use Rattle.std.proofs.lemmas.Bool.{eq-eqb}
use Rattle.std.proofs.lemmas.Option.{same_Some}
use Rattle.std.specs.Option.{option_to_list}
use Rattle.vlt_core.specs.Core.{a_key, Entry}
use Rattle.vlt_core.specs.Lookups.{is_held_before, is_held_after}
use Rattle.vlt_core.specs.Maps as maps
use Rattle.vlt_core.specs.Maps.{absent, HeldMap, becomes_absent, row_passed, map_after}
use Rattle.vlt_core.specs.Rows.{row}
use Rattle.vlt_meaning.specs.World as world
use Rattle.vlt_meaning.specs.World.{is_at, Object, Frame}
use Rattle.vlt_meaning.specs.Calls.{caller_object}
use Rattle.vlt_meaning.specs.Externals.{is_taken, taken_objects}
use Rattle.vlt_sound_worlds.specs.Look.{look}
use Rattle.vlt_sound_worlds.specs.Members.{In, IsOnce}
use Rattle.vlt_sound_worlds.proofs.Members.{in_either, in_left, in_right, once_both}
use Rattle.vlt_sound_worlds.proofs.Rows.{row_here}
use Rattle.vlt_sound_worlds.proofs.Leaving.{key_same}
use Rattle.vlt_sound_worlds.specs.Moved.{ArePassing}
use Rattle.vlt_sound_calls.specs.Callee.{AreApartBy, caller_key}
use Rattle.vlt_sound_calls.specs.Among.{Among}
use Rattle.vlt_sound_calls.proofs.Over.{Holds, HoldsAll, holds_object}
use Rattle.vlt_sound_calls.proofs.Taking.{take_rows, take_other}

-- after rows that take, their own keys are absent
pub take_here : (at : Entry → ℕ) (wants : Entry → maps.Wanted) (es : List Entry) → AreApartBy at es → (h : HeldMap) (e : Entry) →
    Among e es → map_after (take_rows at wants es) h (a_key (at e)) ≡ absent
take_here at wants [] apart h e i = absurd i
take_here at wants (x ∷ es) apart h e (inl same) =
    take_other at wants es (row_passed (row (a_key (at x)) (wants x) becomes_absent) h) (a_key (at e))
    (λ d i is. apart.0 d i (sym (key_same is) ∙ ap at same)) ∙
    subst (λ d. row_passed (row (a_key (at x)) (wants x) becomes_absent) h (a_key (at d)) ≡ absent) (sym same)
    (row_here (row (a_key (at x)) (wants x) becomes_absent) h)
take_here at wants (x ∷ es) apart h e (inr rest) =
    take_here at wants es apart.1 (row_passed (row (a_key (at x)) (wants x) becomes_absent) h) e rest

-- ---- the objects

module _ (keys : List ℕ) (frame : Frame) (os : List Object) where
  -- each object that is taken is an entry's
  pub taken_entry : (es : List Entry) (n : ℕ) → In n (taken_objects keys frame es) →
      (e : Entry) × Among e es × (is_taken e ≡ true) × (caller_object keys frame e ≡ Some n)
  taken_entry [] n i = absurd i
  taken_entry (x ∷ es) n i = ⊎_elim
      (here (is_taken x) refl)
      (λ rest. let q = taken_entry es n rest in (q.0, inr q.1, q.2, q.3))
      (in_either n (if is_taken x then option_to_list (caller_object keys frame x) else []) (taken_objects keys frame es) i)
    where
      in_option : (o : Option ℕ) → In n (option_to_list o) → o ≡ Some n
      in_option None i = absurd i
      in_option (Some m) i = ⊎_elim (λ e. ap Some (sym e)) (λ none. absurd none) i

      here : (b : Bool) → is_taken x ≡ b → In n (if b then option_to_list (caller_object keys frame x) else []) →
          (e : Entry) × Among e (x ∷ es) × (is_taken e ≡ true) × (caller_object keys frame e ≡ Some n)
      here true t i = (x, inl refl, t, in_option (caller_object keys frame x) i)
      here false t i = absurd i

  pub entry_taken : (es : List Entry) (e : Entry) (n : ℕ) → Among e es → is_taken e ≡ true → caller_object keys frame e ≡ Some n →
      In n (taken_objects keys frame es)
  entry_taken [] e n i t at = absurd i
  entry_taken (x ∷ es) e n (inl same) t at =
      in_left n (if is_taken x then option_to_list (caller_object keys frame x) else []) (taken_objects keys frame es)
      (subst (λ d. In n (if is_taken d then option_to_list (caller_object keys frame d) else [])) same
      (rw (t, at) (inl refl)))
  entry_taken (x ∷ es) e n (inr rest) t at =
      in_right n (if is_taken x then option_to_list (caller_object keys frame x) else []) (taken_objects keys frame es)
      (entry_taken es e n rest t at)

  held_keys : {d a b : ℕ} → world.held d a ≡ world.held d b → a ≡ b
  held_keys {d} {a} {b} q = cc

  pub taken_before : (e : Entry) → is_taken e ≡ true → is_held_before e ≡ true
  taken_before e t = first (is_held_before e) (is_held_after e) t
    where
      first : (a b : Bool) → (a && not b) ≡ true → a ≡ true
      first true b e = refl
      first false b e = cc

  pub number_at : (e : Entry) (n : ℕ) (h : Holds keys frame os e) → caller_object keys frame e ≡ Some n → n ≡ h.number
  number_at e n h at = same_Some n h.number (sym at ∙ holds_object keys frame os e h)

  pub taken_once : (es : List Entry) → AreApartBy (caller_key keys) es → HoldsAll keys frame os es → IsOnce (taken_objects keys frame es)
  taken_once [] apart all = tt
  taken_once (x ∷ es) apart all =
      once_both (if is_taken x then option_to_list (caller_object keys frame x) else []) (taken_objects keys frame es)
      (by (is_taken x) (caller_object keys frame x)) (taken_once es apart.1 (λ e i. all e (inr i))) (λ n i j.
      let q = taken_entry es n j in
      let first = of_first (is_taken x) refl n i in
      let a = all x (inl refl) (taken_before x first.0) in
      let b = all q.0 (inr q.1) (taken_before q.0 q.2) in
      let own = sym (ap (λ m. (look os m).owner) (number_at q.0 n b q.3) ∙ b.owned) ∙ (ap (λ m. (look os m).owner) (number_at x n a first.1) ∙ a.owned) in
      apart.0 q.0 q.1 (held_keys own))
    where
      by : (b : Bool) (o : Option ℕ) → IsOnce (if b then option_to_list o else [])
      by true None = tt
      by true (Some n) = ((λ i. i), tt)
      by false o = tt

      in_option : (n : ℕ) (o : Option ℕ) → In n (option_to_list o) → o ≡ Some n
      in_option n None i = absurd i
      in_option n (Some m) i = ⊎_elim (λ e. ap Some (sym e)) (λ none. absurd none) i

      of_first : (b : Bool) → is_taken x ≡ b → (n : ℕ) → In n (if b then option_to_list (caller_object keys frame x) else []) →
          (is_taken x ≡ true) × (caller_object keys frame x ≡ Some n)
      of_first true t n i = (t, in_option n (caller_object keys frame x) i)
      of_first false t n i = absurd i

-- the keys of entries, and the entries of keys
module _ (at : Entry → ℕ) where
  pub entry_at : (es : List Entry) (k : ℕ) → In k (map at es) → (e : Entry) × Among e es × (at e ≡ k)
  entry_at [] k i = absurd i
  entry_at (x ∷ es) k (inl same) = (x, inl refl, sym same)
  entry_at (x ∷ es) k (inr rest) = let q = entry_at es k rest in (q.0, inr q.1, q.2)

  pub key_at : (es : List Entry) (e : Entry) → Among e es → In (at e) (map at es)
  key_at [] e i = absurd i
  key_at (x ∷ es) e (inl same) = inl (ap at same)
  key_at (x ∷ es) e (inr rest) = inr (key_at es e rest)

-- ---- those that go

module _ (keys : List ℕ) (frame : Frame) (os : List Object) (es : List Entry) (all : HoldsAll keys frame os es) where
  abbrev xs : List ℕ
  xs = taken_objects keys frame es

  pub held_by : (n : ℕ) → In n xs → (e : Entry) × Among e es × (is_taken e ≡ true) ×
      ((look os n).owner ≡ world.held frame.depth (caller_key keys e))
  held_by n i =
      let q = taken_entry keys frame os es n i in
      let a = all q.0 q.1 (taken_before keys frame os q.0 q.2) in
      (q.0, q.1, q.2, ap (λ m. (look os m).owner) (number_at keys frame os q.0 n a q.3) ∙ a.owned)

  pub taken_passes : ArePassing (is_at frame.depth) xs os
  taken_passes n i =
      let q = held_by n i in
      let t = taken_entry keys frame os es n i in
      let h = all t.0 t.1 (taken_before keys frame os t.0 t.2) in (
        subst (λ m. m < length os) (sym (number_at keys frame os t.0 n h t.3)) h.within,
        ap (is_at frame.depth) q.3 ∙ eq-eqb frame.depth frame.depth refl,
      )
