-- What the held map says of each key once an answer's keys have come back and have their states.
use Rattle.std.proofs.Common.{◌≡◌, inl, inr, ⊎_elim, ℕ, Bool, true, false, ◌&&◌, not, if◌then◌else◌, List, [], ◌∷◌, filter, Option, Some, None, refl, sym, ap, ◌∙◌, subst}
use Rattle.vlt_core.specs.Core.{States, Tok, a_key, a_var, Mode, kept, taken, given, fresh, up_to, Entry, Func, Program}
use Rattle.vlt_core.specs.Lookups.{is_before, is_after, is_fresh, is_held_before, is_held_after, is_new, states_or_all}
use Rattle.vlt_core.specs.Maps as maps
use Rattle.vlt_core.specs.Maps.{Status, absent, held, kind_of, is_absent, states_of, HeldMap, IsWanted, wants_absent, becomes_absent, becomes_held, status_after, row_passed, CanPass, map_after}
use Rattle.vlt_core.specs.Rows.{entry_wanted, entry_after, held_in, clause_rows}
use Rattle.vlt_meaning.specs.Calls.{entries_after}
use Rattle.vlt_meaning.specs.Externals.{is_taken, is_given}
use Rattle.vlt_sound_worlds.proofs.Rows.{row_here, row_other}
use Rattle.vlt_sound_worlds.proofs.Touch.{held_is}
use Rattle.vlt_sound_worlds.proofs.FrameOwners.{ChangesTok}
use Rattle.vlt_sound_worlds.proofs.Leaving.{key_same, var_is_no_key}
use Rattle.vlt_sound_calls.specs.Callee.{AreApartBy, caller_key}
use Rattle.vlt_sound_calls.specs.Among.{Among}
use Rattle.vlt_sound_calls.proofs.Entries.{same_entry, sought}
use Rattle.vlt_sound_calls.proofs.ClauseRows.{AreThere, clause_wanted, clause_here, clause_other}
use Rattle.vlt_sound_calls.proofs.Pairs.{among_filtered, filtered_among, filtered_apart}
use Rattle.vlt_sound_calls.proofs.Taking.{take_other}
use Rattle.vlt_sound_calls.specs.Given.{whatever, back_row, came}
use Rattle.vlt_sound_calls.specs.Told.{told_row, map_after_telling, IsHeldAt}
use Rattle.vlt_sound_calls.specs.HostAnswers.{map_after_sending}
use Rattle.vlt_sound_calls.proofs.TakenKeys.{take_here}

false_true : false ≡ true → ⊥
false_true e = cc

absent_is : (s : Status) → kind_of s ≡ is_absent → s ≡ absent
absent_is absent e = refl
absent_is (held S) e = cc
absent_is (maps.lent S) e = cc
absent_is maps.full e = cc

held_kind : (e : Entry) (s : Status) → is_held_before e ≡ true → IsWanted (entry_wanted e) s → kind_of s ≡ maps.is_held
held_kind e s b w = by e.before (subst (λ b. IsWanted (if b then held_in e.before else wants_absent) s) b w)
  where
    by : (o : Option States) → IsWanted (held_in o) s → kind_of s ≡ maps.is_held
    by None w = w
    by (Some S) w = w.0

-- ---- keys that come back, and states that are told

module _ (keys : List ℕ) where
  abbrev pub at : Entry → Tok
  at e = a_key (caller_key keys e)

  pub came_other : (es : List Entry) (h : HeldMap) (t : Tok) → ((e : Entry) → Among e es → is_given e ≡ true → t ≡ at e → ⊥) →
      came keys es h t ≡ h t
  came_other [] h t off = refl
  came_other (x ∷ es) h t off = by (λ h. came_other es h t (λ e i. off e (inr i))) (is_given x) refl
    where
      by : ((h : HeldMap) → came keys es h t ≡ h t) → (b : Bool) → is_given x ≡ b →
          (if b then came keys es (row_passed (back_row keys x) h) else came keys es h) t ≡ h t
      by rest true q = rest (row_passed (back_row keys x) h) ∙ row_other (back_row keys x) h t (off x (inl refl) q)
      by rest false q = rest h

  pub came_here : (es : List Entry) → AreApartBy (caller_key keys) es → (h : HeldMap) (e : Entry) → Among e es →
      is_given e ≡ true → came keys es h (at e) ≡ held whatever
  came_here [] apart h e i g = absurd i
  came_here (x ∷ es) apart h e (inl same) g =
      let q : is_given x ≡ true = ap is_given (sym same) ∙ g in
      ap (λ b. (if b then came keys es (row_passed (back_row keys x) h) else came keys es h) (at e)) q ∙
      (came_other es (row_passed (back_row keys x) h) (at e) (λ d i k is. apart.0 d i (sym (key_same is) ∙ ap (caller_key keys) same)) ∙
      (ap (λ d. row_passed (back_row keys x) h (at d)) same ∙ row_here (back_row keys x) h))
  came_here (x ∷ es) apart h e (inr rest) g = by (λ h. came_here es apart.1 h e rest g) (is_given x)
    where
      by : ((h : HeldMap) → came keys es h (at e) ≡ held whatever) → (b : Bool) →
          (if b then came keys es (row_passed (back_row keys x) h) else came keys es h) (at e) ≡ held whatever
      by again true = again (row_passed (back_row keys x) h)
      by again false = again h

  module _ (p : Program) (f : Func) where
    pub told_other : (es : List Entry) (h : HeldMap) (t : Tok) →
        ((e : Entry) → Among e es → is_new e ≡ false → t ≡ at e → ⊥) → map_after_telling p f keys es h t ≡ h t
    told_other [] h t off = refl
    told_other (x ∷ es) h t off = by (λ h. told_other es h t (λ e i. off e (inr i))) (is_new x) refl
      where
        by : ((h : HeldMap) → map_after_telling p f keys es h t ≡ h t) → (b : Bool) → is_new x ≡ b →
            (if b then map_after_telling p f keys es h else map_after_telling p f keys es (row_passed (told_row p f keys x) h)) t ≡ h t
        by rest true q = rest h
        by rest false q = rest (row_passed (told_row p f keys x) h) ∙ row_other (told_row p f keys x) h t (off x (inl refl) q)

    pub told_here : (es : List Entry) → AreApartBy (caller_key keys) es → (h : HeldMap) (e : Entry) → Among e es →
        is_new e ≡ false → map_after_telling p f keys es h (at e) ≡ held (states_or_all p f (caller_key keys e) e.after)
    told_here [] apart h e i g = absurd i
    told_here (x ∷ es) apart h e (inl same) g =
        let q : is_new x ≡ false = ap is_new (sym same) ∙ g in
        ap (λ b. (if b then map_after_telling p f keys es h else map_after_telling p f keys es (row_passed (told_row p f keys x) h)) (at e)) q ∙
        (told_other es (row_passed (told_row p f keys x) h) (at e) (λ d i k is. apart.0 d i (sym (key_same is) ∙ ap (caller_key keys) same)) ∙
        (ap (λ d. row_passed (told_row p f keys x) h (at d)) same ∙
        (row_here (told_row p f keys x) h ∙ ap (λ d. held (states_or_all p f (caller_key keys d) d.after)) (sym same))))
    told_here (x ∷ es) apart h e (inr rest) g = by (λ h. told_here es apart.1 h e rest g) (is_new x)
      where
        by : ((h : HeldMap) → map_after_telling p f keys es h (at e) ≡ held (states_or_all p f (caller_key keys e) e.after)) → (b : Bool) →
            (if b then map_after_telling p f keys es h else map_after_telling p f keys es (row_passed (told_row p f keys x) h)) (at e) ≡
            held (states_or_all p f (caller_key keys e) e.after)
        by again true = again h
        by again false = again (row_passed (told_row p f keys x) h)

module _ (p : Program) (f g : Func) (keys : List ℕ) (there : AreThere keys g.clause)
    (apart : AreApartBy (caller_key keys) g.clause) (h : HeldMap) (pass : CanPass (clause_rows p f keys g.clause) h) where
  abbrev pub following : HeldMap
  following = map_after (clause_rows p f keys g.clause) h

  abbrev pub back : HeldMap
  back = came keys g.clause (map_after_sending g keys h)

  abbrev pub now : HeldMap
  now = map_after_telling p f keys (entries_after g) back

  same_at : (d e : Entry) → Among d g.clause → Among e g.clause → at keys d ≡ at keys e → d ≡ e
  same_at d e i j q = same_entry (caller_key keys) g.clause apart d e i j (key_same q)

  -- ---- where the host has what it takes

  sent_other : (t : Tok) → ((e : Entry) → Among e g.clause → is_taken e ≡ true → t ≡ at keys e → ⊥) → map_after_sending g keys h t ≡ h t
  sent_other t off =
      take_other (caller_key keys) (λ e. wants_absent) (filter is_taken g.clause) h t
      (λ e i. let q = among_filtered is_taken g.clause e i in off e q.0 q.1)

  sent_own : (e : Entry) → Among e g.clause → is_taken e ≡ false → map_after_sending g keys h (at keys e) ≡ h (at keys e)
  sent_own e i none =
      sent_other (at keys e) (λ d j t q. false_true (sym none ∙ (ap is_taken (same_at e d i j q) ∙ t)))

  sent_here : (e : Entry) → Among e g.clause → is_taken e ≡ true → map_after_sending g keys h (at keys e) ≡ absent
  sent_here e i t =
      take_here (caller_key keys) (λ e. wants_absent) (filter is_taken g.clause)
      (filtered_apart (caller_key keys) is_taken g.clause apart) h e (filtered_among is_taken g.clause e i t)

  -- ---- what was so before the call

  wanted : (e : Entry) → Among e g.clause → IsWanted (entry_wanted e) (h (at keys e))
  wanted e i = clause_wanted p f keys g.clause there apart h pass e i

  was_absent : (e : Entry) → Among e g.clause → is_held_before e ≡ false → h (at keys e) ≡ absent
  was_absent e i b =
      absent_is (h (at keys e)) (subst (λ b. IsWanted (if b then held_in e.before else wants_absent) (h (at keys e))) b (wanted e i))

  -- ---- given keys

  pub given_away : (e : Entry) → Among e g.clause → is_given e ≡ true → map_after_sending g keys h (at keys e) ≡ absent
  given_away e i q = sent_own e i (of_mode e.mode q) ∙ was_absent e i (of_given e.mode q)
    where
      of_mode : (m : Mode) → (not (is_before m) && not (is_fresh m)) ≡ true → (is_before m && not (is_after m)) ≡ false
      of_mode kept q = refl
      of_mode (up_to u) q = refl
      of_mode taken q = cc
      of_mode given q = refl
      of_mode fresh q = cc

      of_given : (m : Mode) → (not (is_before m) && not (is_fresh m)) ≡ true → is_before m ≡ false
      of_given kept q = cc
      of_given (up_to u) q = cc
      of_given taken q = cc
      of_given given q = refl
      of_given fresh q = refl

  came_own : (e : Entry) → Among e g.clause → is_given e ≡ false → back (at keys e) ≡ map_after_sending g keys h (at keys e)
  came_own e i none =
      came_other keys g.clause (map_after_sending g keys h) (at keys e)
      (λ d j t q. false_true (sym none ∙ (ap is_given (same_at e d i j q) ∙ t)))

  came_given : (e : Entry) → Among e g.clause → is_given e ≡ true → back (at keys e) ≡ held whatever
  came_given e i q = came_here keys g.clause apart (map_after_sending g keys h) e i q

  -- ---- told keys

  pub told_at : (e : Entry) → Among e (entries_after g) → is_new e ≡ false → IsHeldAt back (caller_key keys e)
  told_at e i old = by e.mode refl
    where
      both : Among e g.clause × (is_held_after e ≡ true)
      both = among_filtered is_held_after g.clause e i

      by : (m : Mode) → e.mode ≡ m → IsHeldAt back (caller_key keys e)
      by kept q = record {
        states = states_of (h (at keys e));
        is =
            came_own e both.0 (ap (λ m. not (is_before m) && not (is_fresh m)) q) ∙
            (sent_own e both.0 (ap (λ m. is_before m && not (is_after m)) q) ∙
            held_is (h (at keys e)) (held_kind e (h (at keys e)) (ap is_before q) (wanted e both.0)));
      }
      by (up_to u) q = record {
        states = states_of (h (at keys e));
        is =
            came_own e both.0 (ap (λ m. not (is_before m) && not (is_fresh m)) q) ∙
            (sent_own e both.0 (ap (λ m. is_before m && not (is_after m)) q) ∙
            held_is (h (at keys e)) (held_kind e (h (at keys e)) (ap is_before q) (wanted e both.0)));
      }
      by given q = record { states = whatever; is = came_given e both.0 (ap (λ m. not (is_before m) && not (is_fresh m)) q) }
      by taken q = absurd (false_true (sym (ap is_after q) ∙ both.1))
      by fresh q = absurd (false_true (sym old ∙ ap is_fresh q))

  told_own : (e : Entry) → Among e g.clause → ((d : Entry) → d ≡ e → is_held_after d ≡ true → is_new d ≡ false → ⊥) →
      now (at keys e) ≡ back (at keys e)
  told_own e i none =
      told_other keys p f (entries_after g) back (at keys e) (λ d j old q.
      let both = among_filtered is_held_after g.clause d j in none d (sym (same_at e d i both.0 q)) both.1 old)

  told_now : (e : Entry) → Among e g.clause → is_held_after e ≡ true → is_new e ≡ false →
      now (at keys e) ≡ held (states_or_all p f (caller_key keys e) e.after)
  told_now e i after old =
      told_here keys p f (entries_after g) (filtered_apart (caller_key keys) is_held_after g.clause apart) back e
      (filtered_among is_held_after g.clause e i after) old

  -- ---- after the call

  after_here : (e : Entry) → Among e g.clause → following (at keys e) ≡ status_after (entry_after p f (caller_key keys e) e) (h (at keys e))
  after_here e i = clause_here p f keys g.clause there apart h e i

  after_after : (e : Entry) → Among e g.clause → is_held_after e ≡ true →
      following (at keys e) ≡ held (states_or_all p f (caller_key keys e) e.after)
  after_after e i after =
      after_here e i ∙
      ap (λ b. status_after (if b then becomes_held (states_or_all p f (caller_key keys e) e.after) else becomes_absent) (h (at keys e))) after

  entry_same : (e : Entry) → Among e g.clause → (is_new e ≡ true → ⊥) → now (at keys e) ≡ following (at keys e)
  entry_same e i old = by e.mode refl
    where
      by : (m : Mode) → e.mode ≡ m → now (at keys e) ≡ following (at keys e)
      by kept q = told_now e i (ap is_after q) (ap is_fresh q) ∙ sym (after_after e i (ap is_after q))
      by (up_to u) q = told_now e i (ap is_after q) (ap is_fresh q) ∙ sym (after_after e i (ap is_after q))
      by given q = told_now e i (ap is_after q) (ap is_fresh q) ∙ sym (after_after e i (ap is_after q))
      by taken q =
          told_own e i (λ d same after none. false_true (sym (ap is_after q) ∙ (ap is_held_after (sym same) ∙ after))) ∙
          (came_own e i (ap (λ m. not (is_before m) && not (is_fresh m)) q) ∙
          (sent_here e i (ap (λ m. is_before m && not (is_after m)) q) ∙
          sym (after_here e i ∙
          ap (λ b. status_after (if b then becomes_held (states_or_all p f (caller_key keys e) e.after) else becomes_absent) (h (at keys e)))
          (ap is_after q))))
      by fresh q = absurd (old (ap is_fresh q))

  -- where no new key is, nothing else changes
  elsewhere : (t : Tok) → ((e : Entry) → Among e g.clause → is_new e ≡ true → t ≡ at keys e → ⊥) → now t ≡ following t
  elsewhere (a_var v) off =
      told_other keys p f (entries_after g) back (a_var v) (λ d j old q. var_is_no_key q) ∙
      (came_other keys g.clause (map_after_sending g keys h) (a_var v) (λ d j t q. var_is_no_key q) ∙
      (sent_other (a_var v) (λ d j t q. var_is_no_key q) ∙
      sym (clause_other p f keys g.clause there h (a_var v) (λ d j q. var_is_no_key q))))
  elsewhere (a_key k) off = ⊎_elim
      (λ s.
      subst (λ k. now (a_key k) ≡ following (a_key k)) s.is
      (entry_same s.entry s.among (λ new. off s.entry s.among new (ap a_key (sym s.is)))))
      (λ none.
      let away : (e : Entry) → Among e g.clause → a_key k ≡ at keys e → ⊥ = λ e j q. none e j refl (sym (key_same q)) in
      told_other keys p f (entries_after g) back (a_key k) (λ d j old q. away d (among_filtered is_held_after g.clause d j).0 q) ∙
      (came_other keys g.clause (map_after_sending g keys h) (a_key k) (λ d j t q. away d j q) ∙
      (sent_other (a_key k) (λ d j t q. away d j q) ∙ sym (clause_other p f keys g.clause there h (a_key k) away))))
      (sought (λ e. true) (caller_key keys) g.clause k)

  -- with no new key the two are the same
  pub same_map : ((e : Entry) → Among e g.clause → is_new e ≡ true → ⊥) → now ≡ following
  same_map none = λ i t. (elsewhere t (λ e j new q. none e j new)) i

  -- a new key is absent, and then held
  pub new_absent : (e : Entry) → Among e g.clause → is_new e ≡ true → now (at keys e) ≡ absent
  new_absent e i new =
      told_own e i (λ d same after old. false_true (sym old ∙ (ap is_new same ∙ new))) ∙
      (came_own e i (fresh_is e.mode new (λ m. not (is_before m) && not (is_fresh m)) refl) ∙
      (sent_own e i (fresh_is e.mode new (λ m. is_before m && not (is_after m)) refl) ∙ was_absent e i (fresh_is e.mode new is_before refl)))
    where
      fresh_is : (m : Mode) → is_fresh m ≡ true → (go : Mode → Bool) → go fresh ≡ false → go m ≡ false
      fresh_is kept q go r = cc
      fresh_is (up_to u) q go r = cc
      fresh_is taken q go r = cc
      fresh_is given q go r = cc
      fresh_is fresh q go r = r

  pub new_held : (e : Entry) → Among e g.clause → is_new e ≡ true →
      ((d : Entry) → Among d g.clause → is_new d ≡ true → d ≡ e) →
      ChangesTok (at keys e) (held (states_or_all p f (caller_key keys e) e.after)) now following
  new_held e i new only = record {
    here = after_after e i (after_fresh e.mode new);
    others = λ t other. sym (elsewhere t (λ d j is q. other (q ∙ ap (at keys) (only d j is))));
  }
    where
      after_fresh : (m : Mode) → is_fresh m ≡ true → is_after m ≡ true
      after_fresh kept q = cc
      after_fresh (up_to u) q = cc
      after_fresh taken q = cc
      after_fresh given q = cc
      after_fresh fresh q = refl
