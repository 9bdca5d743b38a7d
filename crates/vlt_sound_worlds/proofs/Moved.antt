-- Objects are moved one after another.
use Rattle.std.proofs.Common.{◌≡◌, inl, inr, ⊎_elim, ℕ, ◌<◌, Bool, true, List, [], ◌∷◌, length, Ok, refl, sym, ap, ◌∙◌, subst}
use Rattle.vlt_meaning.specs.World.{Owner, Object, World, not_owned}
use Rattle.vlt_meaning.specs.Found.{◌>>=◌, if_so}
use Rattle.vlt_meaning.specs.Objects.{owned_at, named_in, with_owner, with_changed_object, objects_after_move}
use Rattle.vlt_meaning.specs.Step.{Step, with_moved, with_objects}
use Rattle.vlt_sound_worlds.specs.Look.{look, ChangesOne}
use Rattle.vlt_sound_worlds.proofs.Look.{look_at, changes_one}
use Rattle.vlt_sound_worlds.specs.Members.{In, IsOnce}
use Rattle.vlt_sound_worlds.specs.Safe.{Goal, Safe}
use Rattle.vlt_sound_worlds.proofs.Safe.{found_safe}
use Rattle.vlt_sound_worlds.proofs.Touch.{named}
use Rattle.vlt_sound_worlds.proofs.Leaving.{length_changed}
use Rattle.vlt_sound_worlds.specs.Moved.{ArePassing, IsMoved}

pub owned_found : (from : Owner → Bool) (os : List Object) (n : ℕ) → n < length os → from (look os n).owner ≡ true →
    owned_at from os n ≡ Ok (named n (look os n))
owned_found from os n there so =
    ap (λ o. named_in n o >>= λ m. if_so (from m.object.owner) not_owned m) (look_at os n there) ∙
    ap (λ b. if_so b not_owned (named n (look os n))) so

pub moved_all : (from : Owner → Bool) (to : Owner) (xs : List ℕ) (os : List Object) → IsOnce xs →
    ArePassing from xs os → IsMoved from to xs os
moved_all from to [] os once all =
    record { objects = os; is = refl; change = record { those = λ n i. absurd i; others = λ n off. refl }; long = refl }
moved_all from to (x ∷ xs) os once all =
    let here = all x (inl refl) in
    let os1 : List Object = with_changed_object x (with_owner to) os in
    let change : ChangesOne x (with_owner to) (look os) (look os1) = changes_one os x (with_owner to) here.0 in
    let long : length os1 ≡ length os = length_changed os x (with_owner to) in
    let rest = moved_all from to xs os1 once.1 (λ n i.
    let was = all n (inr i) in
    let other : n ≡ x → ⊥ = λ e. once.0 (subst (λ k. In k xs) e i) in
    (subst (λ k. n < k) (sym long) was.0, ap (λ o. from o.owner) (change.others n other) ∙ was.1)) in
    record {
      objects = rest.objects;
      is = ap (λ m. m >>= λ m. objects_after_move from to xs os1) (owned_found from os x here.0 here.1) ∙ rest.is;
      change = record {
        those = λ n i. ⊎_elim
            (λ e. ap (look rest.objects) e ∙ (rest.change.others x once.0 ∙ (change.here ∙ ap (λ k. with_owner to (look os k)) (sym e))))
            (λ i. rest.change.those n i ∙ ap (with_owner to) (change.others n (λ e. once.0 (subst (λ k. In k xs) e i))))
            i;
        others = λ n off. rest.change.others n (λ i. off (inr i)) ∙ change.others n (λ e. off (inl e));
      };
      long = rest.long ∙ long;
    }

-- where a step goes on with what was moved
pub moved_safe : (g : Goal) (from : Owner → Bool) (to : Owner) (xs : List ℕ) (w : World) (go : World → Step)
    (m : IsMoved from to xs w.objects) → Safe g (go (with_objects w m.objects)) → Safe g (with_moved from to xs w go)
unfolding with_moved
moved_safe g from to xs w go m safe = found_safe g (objects_after_move from to xs w.objects) m.objects w _ m.is safe
