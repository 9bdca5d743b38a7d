-- The objects of keys get the states that an answer says.
use Rattle.std.proofs.Common.{◌≡◌, inl, inr, ℕ, Bool, true, false, if◌then◌else◌, IsTrue, List, [], ◌∷◌, ◌++◌, Option, Some, refl, sym, ap, ◌∙◌, subst}
use Rattle.std.specs.Option.{option_map, option_to_list, option_and_then}
use Rattle.vlt_core.specs.Core.{a_key, Entry, Func, Program}
use Rattle.vlt_core.specs.Lookups.{all_states, is_new, states_or_all}
use Rattle.vlt_core.specs.Maps as maps
use Rattle.vlt_core.specs.Maps.{HeldMap, row_passed}
use Rattle.vlt_core.specs.KindedScopes.{Ids}
use Rattle.vlt_meaning.specs.World as world
use Rattle.vlt_meaning.specs.World.{Object, Frame, gone}
use Rattle.vlt_meaning.specs.Objects.{with_state, with_changed_object}
use Rattle.vlt_meaning.specs.Calls.{caller_object}
use Rattle.vlt_meaning.specs.Externals.{entry_states, with_states}
use Rattle.vlt_sound_worlds.specs.Look.{look, IsLive}
use Rattle.vlt_sound_worlds.proofs.Look.{live_within}
use Rattle.vlt_sound_worlds.specs.Keys.{HasKey, NamesOwned, IsOfType}
use Rattle.vlt_sound_worlds.specs.Agrees.{Handed, Context, Agrees}
use Rattle.vlt_sound_worlds.proofs.Rows.{row_here, row_other}
use Rattle.vlt_sound_worlds.proofs.Leaving.{key_same}
use Rattle.vlt_sound_worlds.proofs.Owning.{row_tok}
use Rattle.vlt_sound_worlds.proofs.Becoming.{agrees_became}
use Rattle.vlt_sound_calls.specs.Callee.{caller_key}
use Rattle.vlt_sound_worlds.specs.Said.{GoTogether, IsAfter}
use Rattle.vlt_sound_calls.specs.Told.{told_row, map_after_telling, IsTellable, IsHeldAt, AreTellable}

module _ (p : Program) (f g : Func) (c : Context) (ids : Ids) (hand : List Handed) (frame : Frame) (keys : List ℕ) where
  abbrev IsSo : HeldMap → List Object → Type 0
  IsSo h os = Agrees p f c h ids hand frame os

  held_live : (os : List Object) (n k : ℕ) → (look os n).owner ≡ world.held frame.depth k → IsLive (look os) n
  held_live os n k own e = clash (sym e ∙ own)
    where
      clash : gone ≡ world.held frame.depth k → ⊥
      clash e = cc

  object_of_key : {os : List Object} {h : HeldMap} (agrees : IsSo h os) (k : ℕ) → IsHeldAt h k →
      NamesOwned (frame.keys k) (look os) (world.held frame.depth k)
  object_of_key {os} {h} agrees k at =
      subst (λ s. HasKey s frame.depth k (frame.keys k) (look os)) at.is (agrees.keys k).has

  -- one object
  tell_one : (os : List Object) (h : HeldMap) (agrees : IsSo h os) (e : Entry) (t : IsTellable p f g keys e)
      (at : IsHeldAt h (caller_key keys e)) (s : ℕ) → IsAfter p g e s →
      IsSo (row_passed (told_row p f keys e) h) (with_changed_object (object_of_key agrees (caller_key keys e) at).number (with_state s) os)
  tell_one os h agrees e t at s after =
      let k = caller_key keys e in
      let o = object_of_key agrees k at in
      let typed : (look os o.number).type ≡ t.type =
      subst (λ q. IsOfType q (look os o.number).type) t.typed ((agrees.keys k).held o.number o.owned).0.typed in
      agrees_became agrees k o.number o.named o.owned (live_within os o.number (held_live os o.number k o.owned))
      (states_or_all p f k e.after) s (row_passed (told_row p f keys e) h)
      (row_tok (told_row p f keys e) h (maps.held (states_or_all p f k e.after)) (row_here (told_row p f keys e) h))
      (t.allowed s after) (subst (λ t. IsTrue (all_states p t s)) (sym typed) (t.states s after))

  object_is : {os : List Object} {h : HeldMap} (agrees : IsSo h os) (e : Entry) (t : IsTellable p f g keys e)
      (at : IsHeldAt h (caller_key keys e)) →
      caller_object keys frame e ≡ Some (object_of_key agrees (caller_key keys e) at).number
  object_is agrees e t at =
      ap (option_and_then frame.keys) t.there ∙ (object_of_key agrees (caller_key keys e) at).named

  rest_tellable : (e : Entry) (es : List Entry) (h : HeldMap) → AreTellable p f g keys (e ∷ es) h →
      AreTellable p f g keys es (row_passed (told_row p f keys e) h)
  rest_tellable e es h t = record {
    each = λ d i new. t.each d (inr i) new;
    held = λ d i new.
        let at = t.held d (inr i) new in
        record {
          states = at.states;
          is = row_other (told_row p f keys e) h (a_key (caller_key keys d)) (λ same. t.apart.0 d i (key_same same)) ∙ at.is;
        };
    apart = t.apart.1;
  }

  same_tellable : (e : Entry) (es : List Entry) (h : HeldMap) → AreTellable p f g keys (e ∷ es) h → AreTellable p f g keys es h
  same_tellable e es h t = record {
    each = λ d i new. t.each d (inr i) new;
    held = λ d i new. t.held d (inr i) new;
    apart = t.apart.1;
  }

  abbrev front : ℕ → Bool → Option ℕ → List (ℕ × ℕ)
  front s b o = if b then [] else option_to_list (option_map (λ n. (n, s)) o)

  abbrev Goal : Entry → List Entry → ℕ → List ℕ → List Object → HeldMap → Bool → Option ℕ → Type 0
  Goal e es s ss os h b o =
      IsSo (if b then map_after_telling p f keys es h else map_after_telling p f keys es (row_passed (told_row p f keys e) h))
      (with_states (front s b o ++ entry_states keys frame es ss) os)

  pub agrees_told : (es : List Entry) (ss : List ℕ) → GoTogether (IsAfter p g) es ss → (os : List Object) (h : HeldMap) →
      AreTellable p f g keys es h → IsSo h os → IsSo (map_after_telling p f keys es h) (with_states (entry_states keys frame es ss) os)
  agrees_told [] [] go os h t agrees = agrees
  agrees_told [] (s ∷ ss) go os h t agrees = absurd go
  agrees_told (e ∷ es) [] go os h t agrees = absurd go
  agrees_told (e ∷ es) (s ∷ ss) go os h t agrees = by (λ os h t agrees. agrees_told es ss go.1 os h t agrees) (is_new e) refl
    where
      clash : false ≡ true → ⊥
      clash q = cc

      by : ((os : List Object) (h : HeldMap) → AreTellable p f g keys es h → IsSo h os →
          IsSo (map_after_telling p f keys es h) (with_states (entry_states keys frame es ss) os)) → (b : Bool) → is_new e ≡ b →
          Goal e es s ss os h (is_new e) (caller_object keys frame e)
      by again true q =
          subst (λ b. Goal e es s ss os h b (caller_object keys frame e)) (sym q) (again os h (same_tellable e es h t) agrees)
      by again false q =
          let old : is_new e ≡ true → ⊥ = λ n. clash (sym q ∙ n) in
          let can = t.each e (inl refl) old in
          let at = t.held e (inl refl) old in
          let o = object_of_key agrees (caller_key keys e) at in
          subst (λ b. Goal e es s ss os h b (caller_object keys frame e)) (sym q)
          (subst (λ o. Goal e es s ss os h false o) (sym (object_is agrees e can at))
          (again (with_changed_object o.number (with_state s) os) (row_passed (told_row p f keys e) h) (rest_tellable e es h t)
          (tell_one os h agrees e can at s go.0)))
