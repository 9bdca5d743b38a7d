-- Places of a run: whether two are the same, and that each owns what is there.
use Rattle.std.proofs.Common.{◌≡◌, ◌⊎◌, inl, inr, ⊎_elim, ℕ, refl, ap, ◌∙◌, subst}
use Rattle.std.proofs.lemmas.Bool.{cases_eq}
use Rattle.vlt_sound_worlds.specs.Placed.{IsOwned}
use Rattle.vlt_sound_worlds.specs.Roots.{Root, in_var, in_hand, in_wait, in_cell, home}

pub homes : (P : Root) → IsOwned (home P)
homes (in_var v) = tt
homes in_hand = tt
homes (in_wait d v) = tt
homes (in_cell n i) = tt

abbrev IsVar : ℕ → Root → Type 0
IsVar v (in_var u) = v ≡ u
IsVar v _ = ⊥

abbrev IsWait : ℕ → ℕ → Root → Type 0
IsWait d v (in_wait e u) = (d ≡ e) × (v ≡ u)
IsWait d v _ = ⊥

abbrev IsCell : ℕ → ℕ → Root → Type 0
IsCell n i (in_cell m j) = (n ≡ m) × (i ≡ j)
IsCell n i _ = ⊥

abbrev IsHand : Root → Type 0
IsHand in_hand = Unit {0}
IsHand _ = ⊥

pub same_root : (P Q : Root) → (P ≡ Q) ⊎ (P ≡ Q → ⊥)
same_root (in_var v) (in_var u) =
    ⊎_elim (λ e. inl (ap in_var e)) (λ off. inr (λ e. off (subst (IsVar v) e refl))) (cases_eq v u)
same_root (in_var v) in_hand = inr (λ e. subst (IsVar v) e refl)
same_root (in_var v) (in_wait d u) = inr (λ e. subst (IsVar v) e refl)
same_root (in_var v) (in_cell n i) = inr (λ e. subst (IsVar v) e refl)
same_root in_hand (in_var u) = inr (λ e. subst IsHand e tt)
same_root in_hand in_hand = inl refl
same_root in_hand (in_wait d u) = inr (λ e. subst IsHand e tt)
same_root in_hand (in_cell n i) = inr (λ e. subst IsHand e tt)
same_root (in_wait d v) (in_var u) = inr (λ e. subst (IsWait d v) e (refl, refl))
same_root (in_wait d v) in_hand = inr (λ e. subst (IsWait d v) e (refl, refl))
same_root (in_wait d v) (in_wait f u) = ⊎_elim
    (λ a. ⊎_elim (λ b. inl (ap (λ x. in_wait x v) a ∙ ap (in_wait f) b)) (λ off. inr (λ e. off (subst (IsWait d v) e (refl, refl)).1)) (cases_eq v u))
    (λ off. inr (λ e. off (subst (IsWait d v) e (refl, refl)).0))
    (cases_eq d f)
same_root (in_wait d v) (in_cell n i) = inr (λ e. subst (IsWait d v) e (refl, refl))
same_root (in_cell n i) (in_var u) = inr (λ e. subst (IsCell n i) e (refl, refl))
same_root (in_cell n i) in_hand = inr (λ e. subst (IsCell n i) e (refl, refl))
same_root (in_cell n i) (in_wait d u) = inr (λ e. subst (IsCell n i) e (refl, refl))
same_root (in_cell n i) (in_cell m j) = ⊎_elim
    (λ a. ⊎_elim (λ b. inl (ap (λ x. in_cell x i) a ∙ ap (in_cell m) b)) (λ off. inr (λ e. off (subst (IsCell n i) e (refl, refl)).1)) (cases_eq i j))
    (λ off. inr (λ e. off (subst (IsCell n i) e (refl, refl)).0))
    (cases_eq n m)
