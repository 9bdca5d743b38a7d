-- The objects of a clause's keys are handed over to the callee.
use Rattle.std.proofs.Common.{◌≡◌, ◌⊎◌, inl, inr, ⊎_elim, ℕ, suc, ◌<◌, Bool, true, false, if◌then◌else◌, IsTrue, List, [], ◌∷◌, length, Option, Some, None, Ok, refl, sym, ap, ◌∙◌, subst, slice_get}
use Rattle.std.proofs.lemmas.Bool.{cases_eq, cases_Bool}
use Rattle.std.proofs.lemmas.Option.{same_Some}
use Rattle.std.specs.Option.{option_and_then}
use Rattle.vlt_core.specs.Core.{Entry, Func, Program}
use Rattle.vlt_core.specs.Lookups.{is_held_before, before_set}
use Rattle.vlt_meaning.specs.World as world
use Rattle.vlt_meaning.specs.World.{Object, Frame, missing, wrong_state}
use Rattle.vlt_meaning.specs.Found.{Found, ◌>>=◌, or_fault, if_so}
use Rattle.vlt_meaning.specs.Objects.{in_states, with_owner, with_changed_object}
use Rattle.vlt_meaning.specs.Values.{held_object}
use Rattle.vlt_meaning.specs.Calls.{caller_object, passed_object, passed_objects, changed_if, handed_over}
use Rattle.vlt_sound_worlds.specs.Look.{look, ChangesOne}
use Rattle.vlt_sound_worlds.proofs.Look.{look_at, changes_one}
use Rattle.vlt_sound_worlds.proofs.Touch.{named, held_found}
use Rattle.vlt_sound_worlds.proofs.Leaving.{length_changed}
use Rattle.vlt_sound_calls.specs.Callee.{caller_key}
use Rattle.vlt_sound_calls.specs.Among.{Among}
use Rattle.vlt_sound_calls.proofs.Rekeyed.{Rekeyed}

module _ (keys : List ℕ) (frame : Frame) (os : List Object) where
  -- the caller holds an entry's object under the key that stands for the entry's
  pub record Holds (e : Entry) : Type 0 where
    pub number : ℕ
    pub key : slice_get keys e.key ≡ Some (caller_key keys e)
    pub named : frame.keys (caller_key keys e) ≡ Some number
    pub within : number < length os
    pub owned : (look os number).owner ≡ world.held frame.depth (caller_key keys e)

  abbrev pub HoldsAll : List Entry → Type 0
  HoldsAll es = (e : Entry) → Among e es → is_held_before e ≡ true → Holds e

  pub holds_object : (e : Entry) → (h : Holds e) → caller_object keys frame e ≡ Some h.number
  holds_object e h = ap (option_and_then frame.keys) h.key ∙ h.named

  -- an object that is handed over
  pub record Over (es : List Entry) (n : ℕ) (new : Object) : Type 0 where
    pub entry : Entry
    pub among : Among entry es
    pub before : is_held_before entry ≡ true
    pub holds : Holds entry
    pub is : n ≡ holds.number
    pub now : new ≡ with_owner (world.held (suc frame.depth) entry.key) (look os n)

  -- one that isn't
  pub record Stays (es : List Entry) (n : ℕ) (new : Object) : Type 0 where
    pub none : (e : Entry) → Among e es → is_held_before e ≡ true → (h : Holds e) → n ≡ h.number → ⊥
    pub now : new ≡ look os n

  over_length : (es : List Entry) → length (handed_over keys frame es os) ≡ length os
  over_length [] = refl
  over_length (e ∷ es) = by (over_length es) (is_held_before e)
    where
      if_length : length (handed_over keys frame es os) ≡ length os → (o : Option ℕ) → length (changed_if o (with_owner (world.held (suc frame.depth) e.key)) (handed_over keys frame es os)) ≡ length os
      if_length again None = again
      if_length again (Some n) =
          length_changed (handed_over keys frame es os) n (with_owner (world.held (suc frame.depth) e.key)) ∙ again

      by : length (handed_over keys frame es os) ≡ length os → (b : Bool) →
          length (if b then changed_if (caller_object keys frame e) (with_owner (world.held (suc frame.depth) e.key)) (handed_over keys frame es os) else handed_over keys frame es os) ≡ length os
      by again true = if_length again (caller_object keys frame e)
      by again false = again

  pub handed_length : (es : List Entry) → length (handed_over keys frame es os) ≡ length os
  handed_length = over_length

  more : (x : Entry) (es : List Entry) (n : ℕ) (new : Object) →
      (is_held_before x ≡ true → (h : Holds x) → n ≡ h.number → ⊥) →
      Over es n new ⊎ Stays es n new → Over (x ∷ es) n new ⊎ Stays (x ∷ es) n new
  more x es n new first (inl o) =
      inl (record { entry = o.entry; among = inr o.among; before = o.before; holds = o.holds; is = o.is; now = o.now })
  more x es n new first (inr s) = inr (record {
    none = λ e i b h is. ⊎_elim
        (λ same. first (ap is_held_before (sym same) ∙ b) (subst Holds same h) (is ∙ number_same e x same h))
        (λ rest. s.none e rest b h is)
        i;
    now = s.now;
  })
    where
      number_same : (e x : Entry) (same : e ≡ x) (h : Holds e) → h.number ≡ (subst Holds same h).number
      number_same e x same h = same_Some h.number (subst Holds same h).number
          (sym h.named ∙ (ap (λ e. frame.keys (caller_key keys e)) same ∙ (subst Holds same h).named))

  pub handed : (es : List Entry) → HoldsAll es → (n : ℕ) →
      Over es n (look (handed_over keys frame es os) n) ⊎ Stays es n (look (handed_over keys frame es os) n)
  handed [] all n = inr (record { none = λ e i. absurd i; now = refl })
  handed (x ∷ es) all n =
      let rest = handed es (λ e i. all e (inr i)) n in
      ⊎_elim (with_it rest) (without_it rest) (cases_Bool (is_held_before x))
    where
      without_it : Over es n (look (handed_over keys frame es os) n) ⊎ Stays es n (look (handed_over keys frame es os) n) →
          is_held_before x ≡ false →
          Over (x ∷ es) n (look (handed_over keys frame (x ∷ es) os) n) ⊎ Stays (x ∷ es) n (look (handed_over keys frame (x ∷ es) os) n)
      without_it rest f =
          subst (λ os'. Over (x ∷ es) n (look os' n) ⊎ Stays (x ∷ es) n (look os' n))
          (sym (ap (λ b. if b then changed_if (caller_object keys frame x) (with_owner (world.held (suc frame.depth) x.key)) (handed_over keys frame es os) else handed_over keys frame es os) f))
          (more x es n (look (handed_over keys frame es os) n) (λ t. absurd (clash (sym f ∙ t))) rest)
        where
          clash : false ≡ true → ⊥
          clash e = cc

      with_it : Over es n (look (handed_over keys frame es os) n) ⊎ Stays es n (look (handed_over keys frame es os) n) →
          is_held_before x ≡ true →
          Over (x ∷ es) n (look (handed_over keys frame (x ∷ es) os) n) ⊎ Stays (x ∷ es) n (look (handed_over keys frame (x ∷ es) os) n)
      with_it rest t =
          subst (λ os'. Over (x ∷ es) n (look os' n) ⊎ Stays (x ∷ es) n (look os' n)) (sym same) (⊎_elim mine away (cases_eq n h.number))
        where
          h : Holds x
          h = all x (inl refl) t

          os1 : List Object
          os1 = handed_over keys frame es os

          q : Object → Object
          q = with_owner (world.held (suc frame.depth) x.key)

          same : handed_over keys frame (x ∷ es) os ≡ with_changed_object h.number q os1
          same =
              ap (λ b. if b then changed_if (caller_object keys frame x) q os1 else os1) t ∙
              ap (λ o. changed_if o q os1) (holds_object x h)

          change : ChangesOne h.number q (look os1) (look (with_changed_object h.number q os1))
          change = changes_one os1 h.number q (subst (λ k. h.number < k) (sym (over_length es)) h.within)

          over_again : Over es n (look os1 n) ⊎ Stays es n (look os1 n) → q (look os1 n) ≡ q (look os n)
          over_again (inl o) = ap q o.now
          over_again (inr s) = ap q s.now

          mine : n ≡ h.number → Over (x ∷ es) n (look (with_changed_object h.number q os1) n) ⊎ Stays (x ∷ es) n (look (with_changed_object h.number q os1) n)
          mine is = inl (record {
            entry = x;
            among = inl refl;
            before = t;
            holds = h;
            is = is;
            now = ap (look (with_changed_object h.number q os1)) is ∙ (change.here ∙ (ap (λ k. q (look os1 k)) (sym is) ∙ over_again rest));
          })

          away : (n ≡ h.number → ⊥) → Over (x ∷ es) n (look (with_changed_object h.number q os1) n) ⊎ Stays (x ∷ es) n (look (with_changed_object h.number q os1) n)
          away off =
              subst (λ o. Over (x ∷ es) n o ⊎ Stays (x ∷ es) n o) (sym (change.others n off))
              (more x es n (look os1 n) (λ b h' is. off (is ∙ number_is h')) rest)
            where
              number_is : (h' : Holds x) → h'.number ≡ h.number
              number_is h' = same_Some h'.number h.number (sym h'.named ∙ h.named)

  pub handed_rekeyed : (es : List Entry) → HoldsAll es → Rekeyed (look os) (look (handed_over keys frame es os))
  handed_rekeyed es all = record {
    each = λ n. ⊎_elim
        (λ o. inr (record {
          depth = frame.depth;
          key = caller_key keys o.entry;
          was = ap (λ m. (look os m).owner) o.is ∙ o.holds.owned;
          to_depth = suc frame.depth;
          to_key = o.entry.key;
          now = o.now;
        }))
        (λ s. inl s.now)
        (handed es all n);
  }

  abbrev whole : Program → Func → Entry → List Entry → Bool → Found (List ℕ)
  whole p g x es b =
      if b then passed_object p g keys frame os x >>= (λ n. passed_objects p g keys frame os es >>= (λ ns. Ok (n.number ∷ ns)))
      else passed_objects p g keys frame os es

  -- the test before: each is held, in a state of its entry's
  pub all_passed : (p : Program) (g : Func) (es : List Entry) → HoldsAll es →
      ((e : Entry) → Among e es → is_held_before e ≡ true → (h : Holds e) → IsTrue (before_set p g e (look os h.number).state)) →
      (ns : List ℕ) × (passed_objects p g keys frame os es ≡ Ok ns)
  all_passed p g [] all states = ([], refl)
  all_passed p g (x ∷ es) all states =
      let rest = all_passed p g es (λ e i. all e (inr i)) (λ e i. states e (inr i)) in
      ⊎_elim (with_it rest) (without_it rest) (cases_Bool (is_held_before x))
    where
      without_it : (ns : List ℕ) × (passed_objects p g keys frame os es ≡ Ok ns) → is_held_before x ≡ false →
          (ns : List ℕ) × (passed_objects p g keys frame os (x ∷ es) ≡ Ok ns)
      without_it rest f = (rest.0, ap (whole p g x es) f ∙ rest.1)

      with_it : (ns : List ℕ) × (passed_objects p g keys frame os es ≡ Ok ns) → is_held_before x ≡ true →
          (ns : List ℕ) × (passed_objects p g keys frame os (x ∷ es) ≡ Ok ns)
      with_it rest t =
          let h = all x (inl refl) t in
          let found : passed_object p g keys frame os x ≡ Ok (named h.number (look os h.number)) =
          ap (λ o. or_fault missing o >>= λ k. held_object k frame os >>= in_states (before_set p g x)) h.key ∙
          (ap (λ m. m >>= in_states (before_set p g x))
          (held_found (caller_key keys x) frame os h.number (look os h.number) h.named (look_at os h.number h.within) h.owned) ∙
          ap (λ b. if_so b wrong_state (named h.number (look os h.number))) (states x (inl refl) t h)) in (
            h.number ∷ rest.0,
            ap (whole p g x es) t ∙
                (ap (λ m. m >>= (λ n. passed_objects p g keys frame os es >>= (λ ns. Ok (n.number ∷ ns)))) found ∙
                ap (λ m. m >>= (λ ns. Ok (h.number ∷ ns))) rest.1),
          )
