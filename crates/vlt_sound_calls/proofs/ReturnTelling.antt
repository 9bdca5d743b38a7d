-- The host gives the objects of a case's keys the states that the answer says.
use Rattle.std.proofs.Common.{◌≡◌, inl, inr, ℕ, ◌<◌, IsTrue, List, [], ◌∷◌, length, Option, refl, sym, ap, ◌∙◌, subst}
use Rattle.std.specs.List.{zip}
use Rattle.vlt_core.specs.Core.{CaseKey, Func, Program}
use Rattle.vlt_core.specs.Lookups.{all_states}
use Rattle.vlt_core.specs.Maps.{HeldMap}
use Rattle.vlt_core.specs.KindedScopes.{Ids}
use Rattle.vlt_meaning.specs.World.{out, gone, Object, Frame}
use Rattle.vlt_meaning.specs.Objects.{with_state, with_changed_object}
use Rattle.vlt_meaning.specs.Externals.{with_states}
use Rattle.vlt_sound_worlds.specs.Look.{look, ChangesOne}
use Rattle.vlt_sound_worlds.proofs.Look.{changes_one, live_within}
use Rattle.vlt_sound_worlds.specs.Members.{In, IsOnce}
use Rattle.vlt_sound_worlds.specs.Keys.{IsOfType}
use Rattle.vlt_sound_worlds.specs.Fits.{Names, FitKeys}
use Rattle.vlt_sound_worlds.specs.Agrees.{Handed, Context, scene, Agrees}
use Rattle.vlt_sound_worlds.specs.Said.{GoTogether, IsKeyState}
use Rattle.vlt_sound_worlds.proofs.Telling.{agrees_told}
use Rattle.vlt_sound_calls.specs.TakenOver.{IsForKey}

-- each object of the list is the host's
abbrev AreOut : List Object → List ℕ → Type 0
AreOut os ns = (n : ℕ) → In n ns → (look os n).owner ≡ out

abbrev AreForKeys : Program → Names → (type : ℕ) → List Object → List CaseKey → List ℕ → Type 0
AreForKeys p names t os ks ns = GoTogether (IsForKey p names os t) ks ns

-- what is known of other objects stays
for_keys_stay : (p : Program) (names : Names) (t : ℕ) (os now : List Object) (ks : List CaseKey) (ns : List ℕ) →
    ((m : ℕ) → In m ns → look now m ≡ look os m) →
    AreForKeys p names t os ks ns → AreForKeys p names t now ks ns
for_keys_stay p names t os now [] [] same all = tt
for_keys_stay p names t os now [] (n ∷ ns) same all = absurd all
for_keys_stay p names t os now (k ∷ ks) [] same all = absurd all
for_keys_stay p names t os now (k ∷ ks) (n ∷ ns) same all = (
  record {
    named = all.0.named;
    of = all.0.of;
    header = all.0.header;
    typed = ap (λ o. o.type) (same n (inl refl)) ∙ all.0.typed;
    states = all.0.states;
  },
  for_keys_stay p names t os now ks ns (λ m i. same m (inr i)) all.1,
)

module _ (p : Program) (f : Func) (c : Context) (h : HeldMap) (ids : Ids) (hand : List Handed) (frame : Frame) (names : Names) (t : ℕ) where
  -- the states are told, and the objects fit the case's keys
  pub record Told (os now : List Object) (ks : List CaseKey) (ns : List ℕ) : Type 0 where
    pub agrees : Agrees p f c h ids hand frame now
    pub others : (m : ℕ) → (In m ns → ⊥) → look now m ≡ look os m
    pub fit : (heads : ℕ → List (Option ℕ)) → FitKeys p (scene c now heads) names t ks ns

  pub all_told : (ks : List CaseKey) (ns ss : List ℕ) (os : List Object) → Agrees p f c h ids hand frame os → AreOut os ns →
      IsOnce ns → AreForKeys p names t os ks ns → GoTogether IsKeyState ks ss → Told os (with_states (zip ns ss) os) ks ns
  all_told [] [] ss os agrees outs once all said =
      record { agrees = agrees; others = λ m off. refl; fit = λ heads. tt }
  all_told [] (n ∷ ns) ss os agrees outs once all said = absurd all
  all_told (k ∷ ks) [] ss os agrees outs once all said = absurd all
  all_told (k ∷ ks) (n ∷ ns) [] os agrees outs once all said = absurd said
  all_told (k ∷ ks) (n ∷ ns) (s ∷ ss) os agrees outs once all said =
      let within : n < length os = live_within os n (λ e. gone_out (sym e ∙ outs n (inl refl))) in
      let now : List Object = with_changed_object n (with_state s) os in
      let change : ChangesOne n (with_state s) (look os) (look now) = changes_one os n (with_state s) within in
      let other : (m : ℕ) → In m ns → m ≡ n → ⊥ = λ m i same. once.0 (subst (λ m. In m ns) same i) in
      let rest = all_told ks ns ss now
      (agrees_told agrees n s (outs n (inl refl)) within
      (subst (λ t. IsTrue (all_states p t s)) (sym all.0.typed) (all.0.states s said.0)))
      (λ m i. ap (λ o. o.owner) (change.others m (other m i)) ∙ outs m (inr i)) once.1
      (for_keys_stay p names t os now ks ns (λ m i. change.others m (other m i)) all.1) said.1 in
      let here : look (with_states (zip ns ss) now) n ≡ with_state s (look os n) = rest.others n once.0 ∙ change.here in
      record {
        agrees = rest.agrees;
        others = λ m off. rest.others m (λ i. off (inr i)) ∙ change.others m (λ e. off (inl e));
        fit = λ heads. (
          record {
            named = all.0.named;
            typed = subst (λ o. IsOfType o (look (with_states (zip ns ss) now) n).type) (sym all.0.header)
                (ap (λ o. o.type) here ∙ all.0.typed);
            state = subst (λ o. IsTrue (k.states o.state)) (sym here) said.0;
          },
          rest.fit heads,
        );
      }
    where
      gone_out : gone ≡ out → ⊥
      gone_out e = cc
