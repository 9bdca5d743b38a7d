-- Objects that come from the host and that values have, as the objects around them change.
use Rattle.std.proofs.Common.{◌≡◌, inl, inr, ⊎_elim, ℕ, ◌+◌, ◌<◌, ◌≤◌, List, [], ◌∷◌, ◌++◌, length, None, Ok, sym, ap, ◌∙◌, subst, arith, slice_get}
use Rattle.std.proofs.lemmas.Bool.{cases_eq}
use Rattle.std.proofs.lemmas.List.{length-append}
use Rattle.std.proofs.lemmas.Option.{slice_get_within, slice_get_cases, slice_get_past}
use Rattle.vlt_meaning.specs.World.{loose, out, gone, is_out, Object, not_owned}
use Rattle.vlt_meaning.specs.Found.{Named, if_so}
use Rattle.vlt_meaning.specs.Objects.{object_at, owned_at, with_owner, with_state, with_changed_object, changed_in, objects_after_move}
use Rattle.vlt_meaning.specs.Externals.{with_states}
use Rattle.vlt_sound_worlds.specs.Look.{look, ChangesOne}
use Rattle.vlt_sound_worlds.proofs.Look.{look_is, changes_one, makes_one, live_within}
use Rattle.vlt_sound_worlds.specs.Members.{In}
use Rattle.vlt_sound_worlds.proofs.Leaving.{length_changed}
use Rattle.vlt_sound_calls.proofs.Finding.{found_then, same_ok, was_so, was_named, out_is}
use Rattle.vlt_sound_calls.specs.TakenOver.{AreTakenOver}

-- an object that the host has
record IsOut (os : List Object) (n : ℕ) : Type 0 where
  was : (look os n).owner ≡ out
  within : n < length os

found_out : (os : List Object) (n : ℕ) (m : Named) → owned_at is_out os n ≡ Ok m → IsOut os n
found_out os n m e =
    let at = found_then (object_at os n) (λ m. if_so (is_out m.object.owner) not_owned m) m e in
    let there = was_named n (slice_get os n) at.first at.was in
    record {
      was =
          ap (λ o. o.owner) (look_is os n at.first.object there) ∙
          out_is at.first.object.owner (was_so (is_out at.first.object.owner) not_owned at.first m at.rest);
      within = slice_get_within os n at.first.object there;
    }

loose_out : loose ≡ out → ⊥
loose_out e = cc

-- objects that are moved to values one after another were all out
pub taken_over : (ns : List ℕ) (os real : List Object) → objects_after_move is_out loose ns os ≡ Ok real → AreTakenOver ns os real
taken_over [] os real e = record {
  moves = record { those = λ n i. absurd i; others = λ n off. ap (λ os. look os n) (sym (same_ok os real e)) };
  long = ap length (sym (same_ok os real e));
  was = λ n i. absurd i;
  once = tt;
}
taken_over (x ∷ ns) os real e =
    let own = found_then (owned_at is_out os x) (λ m. objects_after_move is_out loose ns (with_changed_object x (with_owner loose) os)) real e in
    let o = found_out os x own.first own.was in
    let change : ChangesOne x (with_owner loose) (look os) (look (with_changed_object x (with_owner loose) os)) =
    changes_one os x (with_owner loose) o.within in
    let rest = taken_over ns (with_changed_object x (with_owner loose) os) real own.rest in
    let off : In x ns → ⊥ = λ i. loose_out (sym (ap (λ o. o.owner) change.here) ∙ rest.was x i) in
    let other : (n : ℕ) → In n ns → n ≡ x → ⊥ = λ n i same. off (subst (λ n. In n ns) same i) in
    record {
      moves = record {
        those = λ n. ⊎_elim
            (λ same. ap (look real) same ∙ (rest.moves.others x off ∙ (change.here ∙ ap (λ m. with_owner loose (look os m)) (sym same))))
            (λ i. rest.moves.those n i ∙ ap (with_owner loose) (change.others n (other n i)));
        others = λ n none. rest.moves.others n (λ i. none (inr i)) ∙ change.others n (λ same. none (inl same));
      };
      long = rest.long ∙ length_changed os x (with_owner loose);
      was = λ n. ⊎_elim
          (λ same. ap (λ m. (look os m).owner) same ∙ o.was)
          (λ i. ap (λ o. o.owner) (sym (change.others n (other n i))) ∙ rest.was n i);
      once = (off, rest.once);
    }

-- ---- changes around them

pub over_within : {ns : List ℕ} {os real : List Object} → AreTakenOver ns os real → (n : ℕ) → In n ns → n < length os
over_within {ns} {os} {real} t n i = live_within os n (λ e. clash (sym e ∙ t.was n i))
  where
    clash : gone ≡ out → ⊥
    clash e = cc

-- where nothing is there, nothing changes
changed_none : (os : List Object) (n : ℕ) (q : Object → Object) → slice_get os n ≡ None → with_changed_object n q os ≡ os
changed_none os n q none = ap (changed_in n q os) none

-- one object gets another state in both
pub over_told : (ns : List ℕ) (os real : List Object) (n s : ℕ) → AreTakenOver ns os real →
    AreTakenOver ns (with_changed_object n (with_state s) os) (with_changed_object n (with_state s) real)
over_told ns os real n s t = ⊎_elim
    (λ at. there (slice_get_within os n at.0 at.2))
    (λ past. subst (λ now. AreTakenOver ns now (with_changed_object n (with_state s) real)) (sym (changed_none os n (with_state s) past.1))
    (subst (AreTakenOver ns os)
    (sym (changed_none real n (with_state s) (slice_get_past real n (subst (λ l. l ≤ n) (sym t.long) past.0)))) t))
    (slice_get_cases os n).1
  where
    there : n < length os → AreTakenOver ns (with_changed_object n (with_state s) os) (with_changed_object n (with_state s) real)
    there lt =
        let a = changes_one os n (with_state s) lt in
        let b = changes_one real n (with_state s) (subst (λ l. n < l) (sym t.long) lt) in
        record {
          moves = record {
            those = λ m i. ⊎_elim
                (λ same.
                ap (look (with_changed_object n (with_state s) real)) same ∙
                (b.here ∙
                (ap (with_state s) (t.moves.those n (subst (λ m. In m ns) same i)) ∙
                (ap (with_owner loose) (sym a.here) ∙
                ap (λ m. with_owner loose (look (with_changed_object n (with_state s) os) m)) (sym same)))))
                (λ other. b.others m other ∙ (t.moves.those m i ∙ ap (with_owner loose) (sym (a.others m other))))
                (cases_eq m n);
            others = λ m off. ⊎_elim
                (λ same.
                ap (look (with_changed_object n (with_state s) real)) same ∙
                (b.here ∙
                (ap (with_state s) (t.moves.others n (λ i. off (subst (λ m. In m ns) (sym same) i))) ∙
                (sym a.here ∙ ap (look (with_changed_object n (with_state s) os)) (sym same)))))
                (λ other. b.others m other ∙ (t.moves.others m off ∙ sym (a.others m other)))
                (cases_eq m n);
          };
          long =
              length_changed real n (with_state s) ∙ (t.long ∙ sym (length_changed os n (with_state s)));
          was = λ m i. ⊎_elim
              (λ same.
              ap (λ m. (look (with_changed_object n (with_state s) os) m).owner) same ∙
              (ap (λ o. o.owner) a.here ∙ t.was n (subst (λ m. In m ns) same i)))
              (λ other. ap (λ o. o.owner) (a.others m other) ∙ t.was m i)
              (cases_eq m n);
          once = t.once;
        }

pub over_all : (ns : List ℕ) (qs : List (ℕ × ℕ)) (os real : List Object) → AreTakenOver ns os real →
    AreTakenOver ns (with_states qs os) (with_states qs real)
over_all ns [] os real t = t
over_all ns (q ∷ qs) os real t =
    over_all ns qs (with_changed_object q.0 (with_state q.1) os) (with_changed_object q.0 (with_state q.1) real) (over_told ns os real q.0 q.1 t)

-- a new object is the last one of both
pub over_made : (ns : List ℕ) (os real : List Object) (o : Object) → AreTakenOver ns os real →
    AreTakenOver ns (os ++ o ∷ []) (real ++ o ∷ [])
over_made ns os real o t = record {
  moves = record {
    those = λ m i.
        let lt = over_within t m i in
        (makes_one real o).others m (λ e. not_last m lt (e ∙ t.long)) ∙
        (t.moves.those m i ∙ ap (with_owner loose) (sym ((makes_one os o).others m (not_last m lt))));
    others = λ m off. ⊎_elim
        (λ same.
        ap (look (real ++ o ∷ [])) (same ∙ sym t.long) ∙
        ((makes_one real o).here ∙ (sym (makes_one os o).here ∙ ap (look (os ++ o ∷ [])) (sym same))))
        (λ other.
        (makes_one real o).others m (λ e. other (e ∙ t.long)) ∙
        (t.moves.others m off ∙ sym ((makes_one os o).others m other)))
        (cases_eq m (length os));
  };
  long = length-append real (o ∷ []) ∙ (ap (λ l. l + 1) t.long ∙ sym (length-append os (o ∷ [])));
  was = λ m i. ap (λ o. o.owner) ((makes_one os o).others m (not_last m (over_within t m i))) ∙ t.was m i;
  once = t.once;
}
  where
    not_last : (m : ℕ) → m < length os → m ≡ length os → ⊥
    not_last m lt e = absurd (omega arith)
