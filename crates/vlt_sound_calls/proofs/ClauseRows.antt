-- What the rows of a clause at a call say of each key, where no two entries have the same key.
use Rattle.std.proofs.Common.{◌≡◌, ◌⊎◌, inl, inr, ⊎_elim, ℕ, Bool, true, false, ◌&&◌, if◌then◌else◌, List, [], ◌∷◌, ◌++◌, Some, refl, sym, ap, ◌∙◌, subst, slice_get}
use Rattle.std.proofs.lemmas.Bool.{cases_Bool, eq-eqb}
use Rattle.vlt_core.specs.Core.{Tok, a_key, Entry, Func, Program}
use Rattle.vlt_core.specs.Lookups.{is_held_before}
use Rattle.vlt_core.specs.Maps.{absent, HeldMap, IsWanted, status_after, row_passed, CanPass, map_after, is_tok}
use Rattle.vlt_core.specs.Rows.{on_option, entry_row, entry_wanted, entry_after, clause_rows}
use Rattle.vlt_sound_worlds.proofs.Empty.{both_so}
use Rattle.vlt_sound_worlds.proofs.Rows.{row_here, row_other, tok_is}
use Rattle.vlt_sound_worlds.proofs.Leaving.{key_same}
use Rattle.vlt_sound_calls.specs.Callee.{AreApartBy, caller_key, without}
use Rattle.vlt_sound_calls.specs.Among.{Among}

-- each entry's key has one of the caller
abbrev pub AreThere : List ℕ → List Entry → Type 0
AreThere keys es = (e : Entry) → Among e es → slice_get keys e.key ≡ Some (caller_key keys e)

module _ (p : Program) (f : Func) (keys : List ℕ) where
  rows_first : (e : Entry) (es : List Entry) → AreThere keys (e ∷ es) →
      clause_rows p f keys (e ∷ es) ≡ entry_row p f (caller_key keys e) e ∷ clause_rows p f keys es
  rows_first e es there =
      ap (λ o. on_option o (λ k. entry_row p f k e ∷ []) ++ clause_rows p f keys es) (there e (inl refl))

  -- another key of the caller
  other_key : (x : Entry) (es : List Entry) → AreApartBy (caller_key keys) (x ∷ es) → (e : Entry) → Among e es →
      a_key (caller_key keys e) ≡ a_key (caller_key keys x) → ⊥
  other_key x es apart e i same = apart.0 e i (key_same same)

  -- what the rows want is so before all of them
  pub clause_wanted : (es : List Entry) → AreThere keys es → AreApartBy (caller_key keys) es → (h : HeldMap) →
      CanPass (clause_rows p f keys es) h → (e : Entry) → Among e es →
      IsWanted (entry_wanted e) (h (a_key (caller_key keys e)))
  clause_wanted [] there apart h pass e i = absurd i
  clause_wanted (x ∷ es) there apart h pass e i =
      let pass = subst (λ rs. CanPass rs h) (rows_first x es there) pass in
      ⊎_elim
      (λ same. subst (λ d. IsWanted (entry_wanted d) (h (a_key (caller_key keys d)))) (sym same) pass.0)
      (λ rest. subst (IsWanted (entry_wanted e))
      (row_other (entry_row p f (caller_key keys x) x) h (a_key (caller_key keys e)) (other_key x es apart e rest))
      (clause_wanted es (λ d j. there d (inr j)) apart.1 (row_passed (entry_row p f (caller_key keys x) x) h) pass.1 e rest))
      i

  -- a token that is no entry's keeps its status
  pub clause_other : (es : List Entry) → AreThere keys es → (h : HeldMap) (t : Tok) →
      ((e : Entry) → Among e es → t ≡ a_key (caller_key keys e) → ⊥) → map_after (clause_rows p f keys es) h t ≡ h t
  clause_other [] there h t none = refl
  clause_other (x ∷ es) there h t none =
      ap (λ rs. map_after rs h t) (rows_first x es there) ∙
      (clause_other es (λ d j. there d (inr j)) (row_passed (entry_row p f (caller_key keys x) x) h) t (λ e i. none e (inr i)) ∙
      row_other (entry_row p f (caller_key keys x) x) h t (none x (inl refl)))

  -- an entry's own key has the status that the entry says
  pub clause_here : (es : List Entry) → AreThere keys es → AreApartBy (caller_key keys) es → (h : HeldMap) (e : Entry) →
      Among e es →
      map_after (clause_rows p f keys es) h (a_key (caller_key keys e)) ≡
      status_after (entry_after p f (caller_key keys e) e) (h (a_key (caller_key keys e)))
  clause_here [] there apart h e i = absurd i
  clause_here (x ∷ es) there apart h e (inl same) =
      ap (λ rs. map_after rs h (a_key (caller_key keys e))) (rows_first x es there) ∙
      (clause_other es (λ d j. there d (inr j)) (row_passed (entry_row p f (caller_key keys x) x) h) (a_key (caller_key keys e))
      (λ d j is. other_key x es apart d j (sym is ∙ ap (λ d. a_key (caller_key keys d)) same)) ∙
      subst (λ d. row_passed (entry_row p f (caller_key keys x) x) h (a_key (caller_key keys d)) ≡ status_after (entry_after p f (caller_key keys d) d) (h (a_key (caller_key keys d))))
      (sym same) (row_here (entry_row p f (caller_key keys x) x) h))
  clause_here (x ∷ es) there apart h e (inr rest) =
      ap (λ rs. map_after rs h (a_key (caller_key keys e))) (rows_first x es there) ∙
      (clause_here es (λ d j. there d (inr j)) apart.1 (row_passed (entry_row p f (caller_key keys x) x) h) e rest ∙
      ap (status_after (entry_after p f (caller_key keys e) e))
      (row_other (entry_row p f (caller_key keys x) x) h (a_key (caller_key keys e)) (other_key x es apart e rest)))

-- ---- the map of a caller that waits

key_itself : (k : ℕ) → is_tok (a_key k) (a_key k) ≡ true
key_itself k = eq-eqb k k refl

module _ (keys : List ℕ) where
  pub without_here : (es : List Entry) (h : HeldMap) (e : Entry) → Among e es → is_held_before e ≡ true →
      without keys es h (a_key (caller_key keys e)) ≡ absent
  without_here [] h e i before = absurd i
  without_here (x ∷ es) h e (inl same) before =
      let is : is_held_before x ≡ true = ap is_held_before (sym same) ∙ before in
      let tok : is_tok (a_key (caller_key keys e)) (a_key (caller_key keys x)) ≡ true =
      ap (λ d. is_tok (a_key (caller_key keys e)) (a_key (caller_key keys d))) (sym same) ∙ key_itself (caller_key keys e) in
      rw (is, tok) refl
  without_here (x ∷ es) h e (inr rest) before =
      by (is_held_before x && is_tok (a_key (caller_key keys e)) (a_key (caller_key keys x)))
      (without_here es h e rest before)
    where
      by : (b : Bool) → without keys es h (a_key (caller_key keys e)) ≡ absent →
          (if b then absent else without keys es h (a_key (caller_key keys e))) ≡ absent
      by true again = refl
      by false again = again

  pub without_other : (es : List Entry) (h : HeldMap) (t : Tok) →
      ((e : Entry) → Among e es → is_held_before e ≡ true → t ≡ a_key (caller_key keys e) → ⊥) →
      without keys es h t ≡ h t
  without_other [] h t none = refl
  without_other (x ∷ es) h t none =
      ⊎_elim
      (λ both. let two = both_so (is_held_before x) (is_tok t (a_key (caller_key keys x))) both in absurd (none x (inl refl) two.0 (tok_is t (a_key (caller_key keys x)) two.1)))
      (λ off. ap (λ b. if b then absent else without keys es h t) off ∙ without_other es h t (λ e i. none e (inr i)))
      (cases_Bool (is_held_before x && is_tok t (a_key (caller_key keys x))))
