-- Ranks are kept where several objects get a new owner.
use Rattle.std.proofs.Common.{◌≡◌, ⊎_elim, ℕ, suc, ◌==◌, ◌<◌, if◌then◌else◌, List, None, Some, sym, ap, ◌∙◌, subst, arith}
use Rattle.std.proofs.lemmas.Bool.{cases_eq, eq-eqb, ne_eqb}
use Rattle.std.proofs.lemmas.Option.{none-some, same_Some}
use Rattle.vlt_meaning.specs.World.{Owner, Object, gone, above}
use Rattle.vlt_sound_worlds.specs.Look.{IsLive}
use Rattle.vlt_sound_worlds.specs.Ranks.{IsRanked}
use Rattle.vlt_sound_worlds.specs.Members.{In}
use Rattle.vlt_sound_worlds.proofs.Members.{in_or_not}
use Rattle.vlt_sound_worlds.specs.Moved.{MovesThese}

module _ {old new : ℕ → Object} (xs : List ℕ) (q : Owner) (change : MovesThese xs q old new) where
  owner_there : (n : ℕ) → In n xs → (new n).owner ≡ q
  owner_there n i = ap (λ o. o.owner) (change.those n i)

  owner_other : (n : ℕ) → (In n xs → ⊥) → (new n).owner ≡ (old n).owner
  owner_other n off = ap (λ o. o.owner) (change.others n off)

  live_stays : (q ≡ gone → ⊥) → (p : ℕ) → IsLive old p → IsLive new p
  live_stays live p was now = ⊎_elim
      (λ i. live (sym (owner_there p i) ∙ now))
      (λ off. was (sym (owner_other p off) ∙ now))
      (in_or_not p xs)

  pub ranked_roots : above q ≡ None → (q ≡ gone → ⊥) → IsRanked old → IsRanked new
  ranked_roots root live r = record {
    rank = r.rank;
    top = r.top;
    under = r.under;
    linked = λ m p e. ⊎_elim
        (λ i. absurd (none-some p (sym root ∙ (ap above (sym (owner_there m i)) ∙ e))))
        (λ off.
        let l = r.linked m p (ap above (sym (owner_other m off)) ∙ e) in
        record { live = live_stays live p l.live; lower = l.lower })
        (in_or_not m xs);
  }

  pub ranked_children : (g : ℕ) → above q ≡ Some g → (In g xs → ⊥) → IsLive old g → above (old g).owner ≡ None →
      IsRanked old → IsRanked new
  ranked_children g up apart live root r = record {
    rank = raised;
    top = suc r.top;
    under = λ m. ⊎_elim
        (λ same. let e = raised_here m same in omega arith)
        (λ other. let e = raised_other m other in let lt = r.under m in omega arith)
        (cases_eq m g);
    linked = λ m p e. ⊎_elim
        (λ i.
        let is : g ≡ p = same_Some g p (sym up ∙ (ap above (sym (owner_there m i)) ∙ e)) in
        let a = raised_other m (λ k. apart (subst (λ k. In k xs) k i)) in
        let b = raised_here p (sym is) in
        let lt = r.under m in
        record { live = subst (IsLive new) is (live_stays not_gone g live); lower = omega arith })
        (λ off.
        let l = r.linked m p (ap above (sym (owner_other m off)) ∙ e) in
        let a = raised_other m (λ k.
        none-some p (sym root ∙ (ap (λ j. above (old j).owner) (sym k) ∙ (ap above (sym (owner_other m off)) ∙ e)))) in
        record { live = live_stays not_gone p l.live; lower = by m p a l.lower })
        (in_or_not m xs);
  }
    where
      not_gone : q ≡ gone → ⊥
      not_gone e = none-some g (ap above (sym e) ∙ up)

      raised : ℕ → ℕ
      raised m = if m == g then r.top else r.rank m

      raised_here : (m : ℕ) → m ≡ g → raised m ≡ r.top
      raised_here m e = ap (λ b. if b then r.top else r.rank m) (eq-eqb m g e)

      raised_other : (m : ℕ) → (m ≡ g → ⊥) → raised m ≡ r.rank m
      raised_other m e = ap (λ b. if b then r.top else r.rank m) (ne_eqb m g e)

      by : (m p : ℕ) → raised m ≡ r.rank m → r.rank m < r.rank p → raised m < raised p
      by m p a lt = ⊎_elim
          (λ same. let b = raised_here p same in let u = r.under m in omega arith)
          (λ other. let b = raised_other p other in omega arith)
          (cases_eq p g)
