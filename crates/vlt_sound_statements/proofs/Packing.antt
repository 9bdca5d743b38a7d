-- The objects of a case's keys leave the frame, one after another.
use Rattle.std.proofs.Common.{◌≡◌, inl, inr, ⊎_elim, ℕ, ◌<◌, IsTrue, List, [], ◌∷◌, map, length, Some, refl, sym, ap, ◌∙◌, subst}
use Rattle.std.proofs.lemmas.Bool.{cases_eq}
use Rattle.vlt_core.specs.Core.{States, Tok, a_key, Func, Program}
use Rattle.vlt_core.specs.Lookups.{key_type, KeyIn}
use Rattle.vlt_core.specs.Maps.{Status, absent, kind_of, is_held, states_of, HeldMap, wants_in, becomes_absent, Row, row_passed, CanPass, map_after}
use Rattle.vlt_core.specs.Rows.{row}
use Rattle.vlt_core.specs.KindedScopes.{Ids}
use Rattle.vlt_meaning.specs.World.{loose, Object, World, Frame, wrong_state}
use Rattle.vlt_meaning.specs.World as world
use Rattle.vlt_meaning.specs.Found.{◌>>=◌, if_so}
use Rattle.vlt_meaning.specs.Objects.{in_states, with_owner, with_changed_object}
use Rattle.vlt_meaning.specs.Values.{held_object}
use Rattle.vlt_meaning.specs.Step.{Step, with_changed}
use Rattle.vlt_meaning.specs.Operands.{with_case_packed}
use Rattle.vlt_sound_worlds.specs.Look.{look, ChangesOne}
use Rattle.vlt_sound_worlds.proofs.Look.{look_at, live_within, changes_one}
use Rattle.vlt_sound_worlds.specs.Members.{In, IsOnce}
use Rattle.vlt_sound_worlds.specs.Keys.{IsOfType}
use Rattle.vlt_sound_worlds.proofs.KeysLaws.{held_one}
use Rattle.vlt_sound_worlds.specs.Agrees.{Handed, Context, Agrees}
use Rattle.vlt_sound_worlds.specs.Safe.{Goal, Safe}
use Rattle.vlt_sound_worlds.proofs.Rows.{row_here, row_other}
use Rattle.vlt_sound_worlds.proofs.Safe.{found_safe}
use Rattle.vlt_sound_worlds.proofs.Touch.{held_is, held_found, named}
use Rattle.vlt_sound_worlds.proofs.Leaving.{key_same, length_changed}
use Rattle.vlt_sound_worlds.specs.Moved.{MovesThese}

-- the row of a key that a case lists
abbrev pub pack_row : KeyIn → Row
pack_row k = row (a_key k.key) (wants_in k.states) becomes_absent

abbrev pub keys_in_list : List KeyIn → List ℕ
keys_in_list = map (λ k. k.key)

-- a frame holds the object under the key, in one of these states
pub record HoldsIn (f : Func) (frame : Frame) (os : List Object) (key : ℕ) (states : States) (n : ℕ) : Type 0 where
  pub named : frame.keys key ≡ Some n
  pub within : n < length os
  pub owned : (look os n).owner ≡ world.held frame.depth key
  pub typed : IsOfType (key_type f key) (look os n).type
  pub state : IsTrue (states (look os n).state)

-- each key of the list has its own object
abbrev pub HoldAll : Func → Frame → List Object → List KeyIn → List ℕ → Type 0
HoldAll f frame os [] [] = Unit {0}
HoldAll f frame os (k ∷ ks) (n ∷ ns) =
    HoldsIn f frame os k.key k.states n × (In k.key (keys_in_list ks) → ⊥) × HoldAll f frame os ks ns
HoldAll f frame os _ _ = ⊥

-- ---- rows

not_held : (s : Status) → s ≡ absent → kind_of s ≡ is_held → ⊥
not_held s e i = let q = ap kind_of (sym e) ∙ i in cc

-- a key that is absent stays so, and isn't one of those whose rows are passed
pub absent_stays : (ks : List KeyIn) (h : HeldMap) (j : ℕ) → h (a_key j) ≡ absent →
    map_after (map pack_row ks) h (a_key j) ≡ absent
absent_stays [] h j e = e
absent_stays (k ∷ ks) h j e = absent_stays ks (row_passed (pack_row k) h) j (⊎_elim
    (λ same. ap (λ j. row_passed (pack_row k) h (a_key j)) same ∙ row_here (pack_row k) h)
    (λ other. row_other (pack_row k) h (a_key j) (λ q. other (key_same q)) ∙ e)
    (cases_eq j k.key))

absent_not_in : (ks : List KeyIn) (h : HeldMap) (j : ℕ) → h (a_key j) ≡ absent → CanPass (map pack_row ks) h →
    In j (keys_in_list ks) → ⊥
absent_not_in [] h j e pass i = i
absent_not_in (k ∷ ks) h j e pass (inl same) =
    not_held (h (a_key k.key)) (ap (λ j. h (a_key j)) (sym same) ∙ e) pass.0.0
absent_not_in (k ∷ ks) h j e pass (inr i) = absent_not_in ks (row_passed (pack_row k) h) j (⊎_elim
    (λ same. ap (λ j. row_passed (pack_row k) h (a_key j)) same ∙ row_here (pack_row k) h)
    (λ other. row_other (pack_row k) h (a_key j) (λ q. other (key_same q)) ∙ e)
    (cases_eq j k.key)) pass.1 i

-- after the rows the keys are absent, and nothing else has changed
pub packed_absent : (ks : List KeyIn) (h : HeldMap) (j : ℕ) → In j (keys_in_list ks) →
    map_after (map pack_row ks) h (a_key j) ≡ absent
packed_absent [] h j i = absurd i
packed_absent (k ∷ ks) h j (inl same) =
    absent_stays ks (row_passed (pack_row k) h) j
    (ap (λ j. row_passed (pack_row k) h (a_key j)) same ∙ row_here (pack_row k) h)
packed_absent (k ∷ ks) h j (inr i) = packed_absent ks (row_passed (pack_row k) h) j i

pub packed_other : (ks : List KeyIn) (h : HeldMap) (t : Tok) → ((j : ℕ) → t ≡ a_key j → In j (keys_in_list ks) → ⊥) →
    map_after (map pack_row ks) h t ≡ h t
packed_other [] h t off = refl
packed_other (k ∷ ks) h t off =
    packed_other ks (row_passed (pack_row k) h) t (λ j e i. off j e (inr i)) ∙
    row_other (pack_row k) h t (λ e. off k.key e (inl refl))

-- a map that tells of held keys finds their objects
pub record Finds (f : Func) (frame : Frame) (os : List Object) (h : HeldMap) : Type 0 where
  pub each : (j : ℕ) → kind_of (h (a_key j)) ≡ is_held →
      (n : ℕ) × HoldsIn f frame os j (states_of (h (a_key j))) n

pub finds : {p : Program} {f : Func} {c : Context} {h : HeldMap} {ids : Ids} {hand : List Handed} {frame : Frame} {os : List Object} →
    Agrees p f c h ids hand frame os → Finds f frame os h
finds {p} {f} {c} {h} {ids} {hand} {frame} {os} agrees = record {
  each = λ j is.
      let only = held_one (states_of (h (a_key j))) (held_is (h (a_key j)) is) (agrees.keys j) in (
        only.number,
        record {
          named = only.named;
          within = live_within os only.number (λ e. clash j (sym e ∙ only.owned));
          owned = only.owned;
          typed = only.typed;
          state = only.state;
        },
      );
}
  where
    clash : (j : ℕ) → world.gone ≡ world.held frame.depth j → ⊥
    clash j e = cc

pub hold_all : {f : Func} {frame : Frame} {os : List Object} (ks : List KeyIn) (h : HeldMap) → Finds f frame os h →
    CanPass (map pack_row ks) h → (ns : List ℕ) × HoldAll f frame os ks ns
hold_all [] h found pass = ([], tt)
hold_all {f} {frame} {os} (k ∷ ks) h found pass =
    let one = found.each k.key pass.0.0 in
    let gone_now : row_passed (pack_row k) h (a_key k.key) ≡ absent = row_here (pack_row k) h in
    let rest = hold_all ks (row_passed (pack_row k) h) (later gone_now) pass.1 in (
      one.0 ∷ rest.0,
      (
        record {
          named = one.1.named;
          within = one.1.within;
          owned = one.1.owned;
          typed = one.1.typed;
          state = pass.0.1.each (look os one.0).state one.1.state;
        },
        absent_not_in ks (row_passed (pack_row k) h) k.key gone_now pass.1,
        rest.1,
      ),
    )
  where
    later : row_passed (pack_row k) h (a_key k.key) ≡ absent → Finds f frame os (row_passed (pack_row k) h)
    later gone_now = record {
      each = λ j is. ⊎_elim
          (λ same. absurd
          (not_held (row_passed (pack_row k) h (a_key j)) (ap (λ j. row_passed (pack_row k) h (a_key j)) same ∙ gone_now) is))
          (λ other.
          let e = row_other (pack_row k) h (a_key j) (λ q. other (key_same q)) in
          subst (λ s. (n : ℕ) × HoldsIn f frame os j (states_of s) n) (sym e) (found.each j (ap kind_of (sym e) ∙ is)))
          (cases_eq j k.key);
    }

-- ---- objects

pub held_in : (f : Func) (frame : Frame) (os : List Object) (ks : List KeyIn) (ns : List ℕ) →
    HoldAll f frame os ks ns → (m : ℕ) → In m ns →
    (j : ℕ) × In j (keys_in_list ks) × ((look os m).owner ≡ world.held frame.depth j)
held_in f frame os [] [] all m i = absurd i
held_in f frame os [] (n ∷ ns) all m i = absurd all
held_in f frame os (k ∷ ks) [] all m i = absurd i
held_in f frame os (k ∷ ks) (n ∷ ns) all m (inl e) =
    (k.key, inl refl, ap (λ n. (look os n).owner) e ∙ all.0.owned)
held_in f frame os (k ∷ ks) (n ∷ ns) all m (inr i) =
    let r = held_in f frame os ks ns all.2 m i in (r.0, inr r.1, r.2)

-- a key of the list names an object of the other one
pub named_in : (f : Func) (frame : Frame) (os : List Object) (ks : List KeyIn) (ns : List ℕ) →
    HoldAll f frame os ks ns → (j : ℕ) → In j (keys_in_list ks) → (n : ℕ) × (frame.keys j ≡ Some n) × In n ns
named_in f frame os [] ns all j i = absurd i
named_in f frame os (k ∷ ks) [] all j i = absurd all
named_in f frame os (k ∷ ks) (n ∷ ns) all j (inl e) = (n, ap frame.keys e ∙ all.0.named, inl refl)
named_in f frame os (k ∷ ks) (n ∷ ns) all j (inr i) =
    let r = named_in f frame os ks ns all.2 j i in (r.0, r.1, inr r.2)

same_key : {d j k : ℕ} → world.held d j ≡ world.held d k → j ≡ k
same_key e = ap key e
  where
    key : world.Owner → ℕ
    key (world.held d k) = k
    key q = 0

pub hold_apart : (f : Func) (frame : Frame) (os : List Object) (k : KeyIn) (ks : List KeyIn) (n : ℕ) (ns : List ℕ) →
    HoldAll f frame os (k ∷ ks) (n ∷ ns) → In n ns → ⊥
hold_apart f frame os k ks n ns all i =
    let r = held_in f frame os ks ns all.2 n i in
    all.1 (subst (λ j. In j (keys_in_list ks)) (same_key (sym r.2 ∙ all.0.owned)) r.1)

pub hold_once : (f : Func) (frame : Frame) (os : List Object) (ks : List KeyIn) (ns : List ℕ) →
    HoldAll f frame os ks ns → IsOnce ns
hold_once f frame os [] [] all = tt
hold_once f frame os [] (n ∷ ns) all = absurd all
hold_once f frame os (k ∷ ks) [] all = tt
hold_once f frame os (k ∷ ks) (n ∷ ns) all = (hold_apart f frame os k ks n ns all, hold_once f frame os ks ns all.2)

-- what other objects are held under stays, where one goes
hold_later : (f : Func) (frame : Frame) (os : List Object) (n : ℕ) (change : Object → Object) → n < length os →
    (ks : List KeyIn) (ns : List ℕ) → (In n ns → ⊥) → HoldAll f frame os ks ns →
    HoldAll f frame (with_changed_object n change os) ks ns
hold_later f frame os n change lt [] [] off all = tt
hold_later f frame os n change lt [] (m ∷ ns) off all = absurd all
hold_later f frame os n change lt (k ∷ ks) [] off all = absurd all
hold_later f frame os n change lt (k ∷ ks) (m ∷ ns) off all =
    let e : look (with_changed_object n change os) m ≡ look os m =
    (changes_one os n change lt).others m (λ e. off (inl (sym e))) in (
      record {
        named = all.0.named;
        within = subst (λ l. m < l) (sym (length_changed os n change)) all.0.within;
        owned = ap (λ o. o.owner) e ∙ all.0.owned;
        typed = subst (λ o. IsOfType (key_type f k.key) o.type) (sym e) all.0.typed;
        state = subst (λ o. IsTrue (k.states o.state)) (sym e) all.0.state;
      },
      all.1,
      hold_later f frame os n change lt ks ns (λ i. off (inr i)) all.2,
    )

-- they leave it
pub packs_safe : (f : Func) (frame : Frame) (g : Goal) (ks : List KeyIn) (ns : List ℕ) (w : World)
    (go : List ℕ → World → Step) → HoldAll f frame w.objects ks ns →
    ((w' : World) → MovesThese ns loose (look w.objects) (look w'.objects) → length w'.objects ≡ length w.objects →
    Safe g (go ns w')) →
    Safe g (with_case_packed ks frame w go)
unfolding with_case_packed
packs_safe f frame g [] [] w go all safe = safe w (record { those = λ m i. absurd i; others = λ m off. refl }) refl
packs_safe f frame g [] (n ∷ ns) w go all safe = absurd all
packs_safe f frame g (k ∷ ks) [] w go all safe = absurd all
packs_safe f frame g (k ∷ ks) (n ∷ ns) w go all safe =
    let change : ChangesOne n (with_owner loose) (look w.objects) (look (with_changed_object n (with_owner loose) w.objects)) =
    changes_one w.objects n (with_owner loose) all.0.within in
    let off = hold_apart f frame w.objects k ks n ns all in
    found_safe g (held_object k.key frame w.objects >>= in_states k.states) (named n (look w.objects n)) w _
    (ap (λ m. m >>= in_states k.states) (held_found k.key frame w.objects n (look w.objects n) all.0.named (look_at w.objects n all.0.within) all.0.owned) ∙
    ap (λ b. if_so b wrong_state (named n (look w.objects n))) all.0.state)
    (packs_safe f frame g ks ns (with_changed w n (with_owner loose)) _
    (hold_later f frame w.objects n (with_owner loose) all.0.within ks ns off all.2)
    (λ w' moves long. safe w'
    (record {
      those = λ m i. ⊎_elim
          (λ e. ap (look w'.objects) e ∙ (moves.others n off ∙ (change.here ∙ ap (λ n. with_owner loose (look w.objects n)) (sym e))))
          (λ i. moves.those m i ∙ ap (with_owner loose) (change.others m (λ e. off (subst (λ m. In m ns) e i))))
          i;
      others = λ m none. moves.others m (λ i. none (inr i)) ∙ change.others m (λ e. none (inl e));
    })
    (long ∙ length_changed w.objects n (with_owner loose))))
