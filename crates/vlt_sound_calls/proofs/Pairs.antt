-- Entries with what their keys name, and what is given back for each.
use Rattle.std.proofs.Common.{◌≡◌, ◌⊎◌, inl, inr, ⊎_elim, ℕ, ◌<◌, Bool, true, false, if◌then◌else◌, List, [], ◌∷◌, ◌++◌, filter, length, Some, refl, sym, ap, ◌∙◌, subst}
use Rattle.std.proofs.lemmas.Bool.{cases_Bool}
use Rattle.std.specs.Option.{option_map, option_to_list}
use Rattle.vlt_core.specs.Core.{Entry, Func, Program}
use Rattle.vlt_meaning.specs.World as world
use Rattle.vlt_meaning.specs.World.{Object, Frame}
use Rattle.vlt_meaning.specs.Objects.{with_owner, with_changed_object}
use Rattle.vlt_meaning.specs.Step.{with_key}
use Rattle.vlt_meaning.specs.Calls.{Binding, binding, bindings, with_names, with_holders}
use Rattle.vlt_sound_worlds.specs.Look.{look}
use Rattle.vlt_sound_worlds.proofs.Look.{changes_one}
use Rattle.vlt_sound_worlds.specs.Members.{In, IsOnce}
use Rattle.vlt_sound_worlds.specs.Fits.{Names}
use Rattle.vlt_sound_worlds.proofs.FrameChanges.{set_here, set_other}
use Rattle.vlt_sound_worlds.proofs.Leaving.{length_changed}
use Rattle.vlt_sound_calls.specs.Returned.{IsKept, AreKept}
use Rattle.vlt_sound_calls.specs.Callee.{AreApartBy, caller_key}
use Rattle.vlt_sound_calls.specs.Among.{Among}
use Rattle.vlt_sound_calls.proofs.ClauseRows.{AreThere}

-- an entry and a number at the same position
abbrev pub AmongBoth : Entry → ℕ → List Entry → List ℕ → Type 0
AmongBoth e n (x ∷ es) (m ∷ ns) = ((e ≡ x) × (n ≡ m)) ⊎ AmongBoth e n es ns
AmongBoth e n _ _ = ⊥

-- ---- filtered lists

pub among_filtered : (test : Entry → Bool) (es : List Entry) (e : Entry) → Among e (filter test es) →
    Among e es × (test e ≡ true)
among_filtered test [] e i = absurd i
among_filtered test (x ∷ es) e i = ⊎_elim
    (λ t. ⊎_elim
    (λ same. (inl same, ap test same ∙ t))
    (λ rest. let r = among_filtered test es e rest in (inr r.0, r.1))
    (subst (λ b. Among e (if b then x ∷ filter test es else filter test es)) t i))
    (λ f.
    let r = among_filtered test es e (subst (λ b. Among e (if b then x ∷ filter test es else filter test es)) f i) in
    (inr r.0, r.1))
    (cases_Bool (test x))

pub filtered_among : (test : Entry → Bool) (es : List Entry) (e : Entry) → Among e es → test e ≡ true →
    Among e (filter test es)
filtered_among test [] e i t = absurd i
filtered_among test (x ∷ es) e (inl same) t =
    let q : test x ≡ true = ap test (sym same) ∙ t in rw q (inl same)
filtered_among test (x ∷ es) e (inr rest) t = by (test x) (filtered_among test es e rest t)
  where
    by : (b : Bool) → Among e (filter test es) → Among e (if b then x ∷ filter test es else filter test es)
    by true i = inr i
    by false i = i

pub filtered_apart : (at : Entry → ℕ) (test : Entry → Bool) (es : List Entry) → AreApartBy at es →
    AreApartBy at (filter test es)
filtered_apart at test [] apart = tt
filtered_apart at test (x ∷ es) apart = by (test x) (filtered_apart at test es apart.1)
  where
    by : (b : Bool) → AreApartBy at (filter test es) → AreApartBy at (if b then x ∷ filter test es else filter test es)
    by true rest = (λ d i. apart.0 d (among_filtered test es d i).0, rest)
    by false rest = rest

-- ---- both lists

module _ (p : Program) (g : Func) (d : ℕ) (names : Names) (os : ℕ → Object) where
  -- each number that is given has its entry
  pub number_entry : (es : List Entry) (ns : List ℕ) → AreKept p g d names os es ns → (n : ℕ) → In n ns →
      (e : Entry) × AmongBoth e n es ns
  number_entry [] [] kept n i = absurd i
  number_entry [] (m ∷ ns) kept n i = absurd kept
  number_entry (x ∷ es) [] kept n i = absurd kept
  number_entry (x ∷ es) (m ∷ ns) kept n i = ⊎_elim
      (λ same. (x, inl (refl, same)))
      (λ rest. let r = number_entry es ns kept.1 n rest in (r.0, inr r.1))
      i

  -- and each entry its number
  pub entry_number : (es : List Entry) (ns : List ℕ) → AreKept p g d names os es ns → (e : Entry) → Among e es →
      (n : ℕ) × AmongBoth e n es ns
  entry_number [] ns kept e i = absurd i
  entry_number (x ∷ es) [] kept e i = absurd kept
  entry_number (x ∷ es) (m ∷ ns) kept e i = ⊎_elim
      (λ same. (m, inl (same, refl)))
      (λ rest. let r = entry_number es ns kept.1 e rest in (r.0, inr r.1))
      i

  pub both_kept : (es : List Entry) (ns : List ℕ) → AreKept p g d names os es ns → (e : Entry) (n : ℕ) →
      AmongBoth e n es ns → IsKept p g d names os e n
  both_kept [] ns kept e n i = absurd i
  both_kept (x ∷ es) [] kept e n i = absurd i
  both_kept (x ∷ es) (m ∷ ns) kept e n i = ⊎_elim
      (λ same. subst (λ e. IsKept p g d names os e n) (sym same.0) (subst (IsKept p g d names os x) (sym same.1) kept.0))
      (λ rest. both_kept es ns kept.1 e n rest)
      i

pub both_entry : (es : List Entry) (ns : List ℕ) (e : Entry) (n : ℕ) → AmongBoth e n es ns → Among e es
both_entry [] ns e n i = absurd i
both_entry (x ∷ es) [] e n i = absurd i
both_entry (x ∷ es) (m ∷ ns) e n i = ⊎_elim (λ same. inl same.0) (λ rest. inr (both_entry es ns e n rest)) i

pub both_number : (es : List Entry) (ns : List ℕ) (e : Entry) (n : ℕ) → AmongBoth e n es ns → In n ns
both_number [] ns e n i = absurd i
both_number (x ∷ es) [] e n i = absurd i
both_number (x ∷ es) (m ∷ ns) e n i = ⊎_elim (λ same. inl same.1) (λ rest. inr (both_number es ns e n rest)) i

-- ---- what comes back

module _ (keys : List ℕ) where
  bindings_first : (x : Entry) (es : List Entry) (n : ℕ) (ns : List ℕ) → AreThere keys (x ∷ es) →
      bindings keys (x ∷ es) (n ∷ ns) ≡ binding n (caller_key keys x) ∷ bindings keys es ns
  bindings_first x es n ns there =
      ap (λ o. option_to_list (option_map (binding n) o) ++ bindings keys es ns) (there x (inl refl))

  pub names_depth : (bs : List Binding) (frame : Frame) → (with_names bs frame).depth ≡ frame.depth
  names_depth [] frame = refl
  names_depth (b ∷ bs) frame = names_depth bs (with_key b.key b.number frame)

  pub names_vars : (bs : List Binding) (frame : Frame) → (with_names bs frame).vars ≡ frame.vars
  names_vars [] frame = refl
  names_vars (b ∷ bs) frame = names_vars bs (with_key b.key b.number frame)

  -- a key that no entry has names what it named
  pub names_other : (es : List Entry) (ns : List ℕ) → AreThere keys es → (frame : Frame) (k : ℕ) →
      ((e : Entry) → Among e es → k ≡ caller_key keys e → ⊥) →
      (with_names (bindings keys es ns) frame).keys k ≡ frame.keys k
  names_other [] [] there frame k off = refl
  names_other [] (n ∷ ns) there frame k off = refl
  names_other (x ∷ es) [] there frame k off = refl
  names_other (x ∷ es) (n ∷ ns) there frame k off =
      ap (λ bs. (with_names bs frame).keys k) (bindings_first x es n ns there) ∙
      (names_other es ns (λ e i. there e (inr i)) (with_key (caller_key keys x) n frame) k (λ e i. off e (inr i)) ∙
      set_other (caller_key keys x) (Some n) frame.keys k (off x (inl refl)))

  -- an entry's key names its object
  pub names_here : (es : List Entry) (ns : List ℕ) → AreThere keys es → AreApartBy (caller_key keys) es →
      (frame : Frame) (e : Entry) (n : ℕ) →
      AmongBoth e n es ns → (with_names (bindings keys es ns) frame).keys (caller_key keys e) ≡ Some n
  names_here [] ns there apart frame e n i = absurd i
  names_here (x ∷ es) [] there apart frame e n i = absurd i
  names_here (x ∷ es) (m ∷ ns) there apart frame e n (inl same) =
      ap (λ bs. (with_names bs frame).keys (caller_key keys e)) (bindings_first x es m ns there) ∙
      (names_other es ns (λ d i. there d (inr i)) (with_key (caller_key keys x) m frame) (caller_key keys e)
      (λ d i is. apart.0 d i (sym is ∙ ap (caller_key keys) same.0)) ∙
      (ap (λ d. (with_key (caller_key keys x) m frame).keys (caller_key keys d)) same.0 ∙
      (set_here (caller_key keys x) (Some m) frame.keys ∙ ap Some (sym same.1))))
  names_here (x ∷ es) (m ∷ ns) there apart frame e n (inr rest) =
      ap (λ bs. (with_names bs frame).keys (caller_key keys e)) (bindings_first x es m ns there) ∙
      names_here es ns (λ d i. there d (inr i)) apart.1 (with_key (caller_key keys x) m frame) e n rest

  module _ (d : ℕ) where
    pub holders_length : (bs : List Binding) (os : List Object) → length (with_holders d bs os) ≡ length os
    holders_length [] os = refl
    holders_length (b ∷ bs) os =
        holders_length bs (with_changed_object b.number (with_owner (world.held d b.key)) os) ∙
        length_changed os b.number (with_owner (world.held d b.key))

    -- what isn't given back stays
    pub holders_other : (es : List Entry) (ns : List ℕ) → AreThere keys es → (os : List Object) →
        ((n : ℕ) → In n ns → n < length os) → (n : ℕ) → (In n ns → ⊥) →
        look (with_holders d (bindings keys es ns) os) n ≡ look os n
    holders_other [] [] there os within n off = refl
    holders_other [] (m ∷ ns) there os within n off = refl
    holders_other (x ∷ es) [] there os within n off = refl
    holders_other (x ∷ es) (m ∷ ns) there os within n off =
        let q : Object → Object = with_owner (world.held d (caller_key keys x)) in
        let change = changes_one os m q (within m (inl refl)) in
        ap (λ bs. look (with_holders d bs os) n) (bindings_first x es m ns there) ∙
        (holders_other es ns (λ e i. there e (inr i)) (with_changed_object m q os)
        (λ k i. subst (λ l. k < l) (sym (length_changed os m q)) (within k (inr i))) n (λ i. off (inr i)) ∙
        change.others n (λ e. off (inl e)))

    -- what is given back for an entry is held under the caller's key
    pub holders_here : (es : List Entry) (ns : List ℕ) → AreThere keys es → (os : List Object) →
        ((n : ℕ) → In n ns → n < length os) → IsOnce ns → (e : Entry) (n : ℕ) → AmongBoth e n es ns →
        look (with_holders d (bindings keys es ns) os) n ≡ with_owner (world.held d (caller_key keys e)) (look os n)
    holders_here [] ns there os within once e n i = absurd i
    holders_here (x ∷ es) [] there os within once e n i = absurd i
    holders_here (x ∷ es) (m ∷ ns) there os within once e n (inl same) =
        let q : Object → Object = with_owner (world.held d (caller_key keys x)) in
        let change = changes_one os m q (within m (inl refl)) in
        ap (λ bs. look (with_holders d bs os) n) (bindings_first x es m ns there) ∙
        (holders_other es ns (λ e i. there e (inr i)) (with_changed_object m q os)
        (λ k i. subst (λ l. k < l) (sym (length_changed os m q)) (within k (inr i))) n
        (λ i. once.0 (subst (λ k. In k ns) same.1 i)) ∙
        (ap (look (with_changed_object m q os)) same.1 ∙ (change.here ∙
        (ap (λ k. q (look os k)) (sym same.1) ∙
        ap (λ e. with_owner (world.held d (caller_key keys e)) (look os n)) (sym same.0)))))
    holders_here (x ∷ es) (m ∷ ns) there os within once e n (inr rest) =
        let q : Object → Object = with_owner (world.held d (caller_key keys x)) in
        let change = changes_one os m q (within m (inl refl)) in
        let i = both_number es ns e n rest in
        ap (λ bs. look (with_holders d bs os) n) (bindings_first x es m ns there) ∙
        (holders_here es ns (λ e i. there e (inr i)) (with_changed_object m q os)
        (λ k i. subst (λ l. k < l) (sym (length_changed os m q)) (within k (inr i))) once.1 e n rest ∙
        ap (with_owner (world.held d (caller_key keys e)))
        (change.others n (λ same. once.0 (subst (λ k. In k ns) same i))))
