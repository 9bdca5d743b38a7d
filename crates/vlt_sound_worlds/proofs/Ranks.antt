-- Ranks are kept by each change of owners.
use Rattle.std.proofs.Common.{◌≡◌, ⊎_elim, ℕ, suc, ◌==◌, ◌<◌, Bool, true, false, if◌then◌else◌, None, Some, sym, ap, ◌∙◌, subst, arith}
use Rattle.std.proofs.lemmas.Bool.{cases_eq, cases_Bool, eq-eqb, ne_eqb}
use Rattle.std.proofs.lemmas.Option.{none-some, same_Some}
use Rattle.vlt_meaning.specs.World.{Owner, Object, gone, above}
use Rattle.vlt_sound_worlds.specs.Look.{IsLive, OwnsOne, EndsThose}
use Rattle.vlt_sound_worlds.specs.Ranks.{IsRanked}
use Rattle.vlt_sound_worlds.specs.Below.{IsBelowTest}

pub ranked_same : {old new : ℕ → Object} → ((m : ℕ) → (new m).owner ≡ (old m).owner) → IsRanked old → IsRanked new
ranked_same same r = record {
  rank = r.rank;
  top = r.top;
  under = r.under;
  linked = λ n p e.
      let l = r.linked n p (ap above (sym (same n)) ∙ e) in
      record { live = λ gone. l.live (sym (same p) ∙ gone); lower = l.lower };
}

-- an object that was live or not gets an owner that hangs on nothing
pub ranked_root : {old new : ℕ → Object} (n : ℕ) (q : Owner) → OwnsOne n q old new → above q ≡ None → (q ≡ gone → ⊥) →
    IsRanked old → IsRanked new
ranked_root {old} {new} n q change root live r = record {
  rank = r.rank;
  top = r.top;
  under = r.under;
  linked = λ m p e. ⊎_elim
      (λ same. absurd (none-some p (sym root ∙ (ap above (sym change.here) ∙ (ap (λ k. above (new k).owner) (sym same) ∙ e)))))
      (λ other.
      let l = r.linked m p (ap above (sym (change.others m other)) ∙ e) in
      record { live = live_to p l.live; lower = l.lower })
      (cases_eq m n);
}
  where
    live_to : (p : ℕ) → IsLive old p → IsLive new p
    live_to p was now = ⊎_elim
        (λ same. live (sym change.here ∙ (ap (λ k. (new k).owner) (sym same) ∙ now)))
        (λ other. was (sym (change.others p other) ∙ now))
        (cases_eq p n)

abbrev raised : ℕ → ℕ → (ℕ → ℕ) → ℕ → ℕ
raised g top rank m = if m == g then top else rank m

raised_here : (g top : ℕ) (rank : ℕ → ℕ) (m : ℕ) → m ≡ g → raised g top rank m ≡ top
raised_here g top rank m e = ap (λ b. if b then top else rank m) (eq-eqb m g e)

raised_other : (g top : ℕ) (rank : ℕ → ℕ) (m : ℕ) → (m ≡ g → ⊥) → raised g top rank m ≡ rank m
raised_other g top rank m e = ap (λ b. if b then top else rank m) (ne_eqb m g e)

-- an object goes under one that hangs on nothing, which becomes the highest
pub ranked_child : {old new : ℕ → Object} (n g : ℕ) (q : Owner) → OwnsOne n q old new → above q ≡ Some g → (n ≡ g → ⊥) →
    IsLive old g → above (old g).owner ≡ None → IsRanked old → IsRanked new
ranked_child {old} {new} n g q change up apart live root r = record {
  rank = raised g r.top r.rank;
  top = suc r.top;
  under = λ m. ⊎_elim
      (λ same. let e = raised_here g r.top r.rank m same in omega arith)
      (λ other. let e = raised_other g r.top r.rank m other in let lt = r.under m in omega arith)
      (cases_eq m g);
  linked = λ m p e. ⊎_elim
      (λ same.
      let is : g ≡ p =
      same_Some g p (sym up ∙ (ap above (sym change.here) ∙ (ap (λ k. above (new k).owner) (sym same) ∙ e))) in
      let a = raised_other g r.top r.rank m (λ k. apart (sym same ∙ k)) in
      let b = raised_here g r.top r.rank p (sym is) in
      let lt = r.under m in
      record { live = subst (IsLive new) is (live_to g live); lower = omega arith })
      (λ other.
      let l = r.linked m p (ap above (sym (change.others m other)) ∙ e) in
      let a = raised_other g r.top r.rank m (λ k.
      none-some p
      (sym root ∙ (ap (λ j. above (old j).owner) (sym k) ∙ (ap above (sym (change.others m other)) ∙ e)))) in
      record { live = live_to p l.live; lower = by m p a l.lower })
      (cases_eq m n);
}
  where
    is_gone_below : gone ≡ q → None ≡ Some g
    is_gone_below e = ap above e ∙ up

    live_to : (p : ℕ) → IsLive old p → IsLive new p
    live_to p was now = ⊎_elim
        (λ same. none-some g (is_gone_below (sym now ∙ (ap (λ k. (new k).owner) same ∙ change.here))))
        (λ other. was (sym (change.others p other) ∙ now))
        (cases_eq p n)

    by : (m p : ℕ) → raised g r.top r.rank m ≡ r.rank m → r.rank m < r.rank p →
        raised g r.top r.rank m < raised g r.top r.rank p
    by m p a lt = ⊎_elim
        (λ same. let b = raised_here g r.top r.rank p same in let u = r.under m in omega arith)
        (λ other. let b = raised_other g r.top r.rank p other in omega arith)
        (cases_eq p g)

pub ranked_ends : {old new : ℕ → Object} (n : ℕ) (test : ℕ → Bool) → IsBelowTest old n test →
    EndsThose test old new → IsRanked old → IsRanked new
ranked_ends {old} {new} n test below ends r = record {
  rank = r.rank;
  top = r.top;
  under = r.under;
  linked = λ m p e. ⊎_elim
      (λ t. absurd (none-some p (ap (λ o. above o.owner) (sym (ends.those m t)) ∙ e)))
      (λ f.
      let was : above (old m).owner ≡ Some p = ap (λ o. above o.owner) (sym (ends.others m f)) ∙ e in
      let l = r.linked m p was in
      record {
        live = λ now. ⊎_elim
            (λ t. clash m f (below.up m p was t))
            (λ k. l.live (sym (ap (λ o. o.owner) (ends.others p k)) ∙ now))
            (cases_Bool (test p));
        lower = l.lower;
      })
      (cases_Bool (test m));
}
  where
    clash : (m : ℕ) → test m ≡ false → test m ≡ true → ⊥
    clash m f t = let e = sym f ∙ t in cc
