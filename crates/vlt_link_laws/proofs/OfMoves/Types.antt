-- Which types a target takes depends on no number of a type.
use Rattle.std.proofs.Common.{◌≡◌, ℕ, ◌==◌, ◌&&◌, List, refl, ap}
use Rattle.vlt_core.specs.Core.{Ty, int, bool, tracked, owning, guarded, variant, owning_variant}
use Rattle.vlt_core.specs.Types.{same_states, same_keys, same_ty, same_object}
use Rattle.vlt_link_laws.specs.CoreMoves.Moves.{Moves, moved_ty}
use Rattle.vlt_resolve_exprs.specs.Types.{is_inside, is_same_ty, is_same_object, takes_object, takes, unpacks, ty_under}

module _ (m : Moves) (apart : (t u : ℕ) → (m.types t == m.types u) ≡ (t == u)) where
  pub same_object_moves : (t : ℕ) (a : List ℕ) (u : ℕ) (b : List ℕ) → same_object (m.types t) a (m.types u) b ≡ same_object t a u b
  same_object_moves t a u b = ap (λ x. x && same_keys a b) (apart t u)

  pub same_ty_moves : (w t : Ty) → same_ty (moved_ty m w) (moved_ty m t) ≡ same_ty w t
  same_ty_moves int int = refl
  same_ty_moves bool bool = refl
  same_ty_moves (tracked k t a) (tracked l u b) = ap (λ x. k == l && x) (same_object_moves t a u b)
  same_ty_moves (owning r t a) (owning s u b) = ap (λ x. same_states r s && x) (same_object_moves t a u b)
  same_ty_moves (guarded k t a) (guarded l u b) = ap (λ x. k == l && x) (same_object_moves t a u b)
  same_ty_moves (variant t a) (variant u b) = same_object_moves t a u b
  same_ty_moves (owning_variant t a) (owning_variant u b) = same_object_moves t a u b
  same_ty_moves w t = refl

  pub is_same_moves : (w t : Ty) → is_same_ty (moved_ty m w) (moved_ty m t) ≡ is_same_ty w t
  unfolding is_same_ty
  is_same_moves w t = same_ty_moves w t

  pub is_same_object_moves : (t : ℕ) (a : List ℕ) (u : ℕ) (b : List ℕ) → is_same_object (m.types t) a (m.types u) b ≡ is_same_object t a u b
  unfolding is_same_object
  is_same_object_moves t a u b = same_object_moves t a u b

  takes_object_moves : (s : _) (t : ℕ) (a : List ℕ) (got : Ty) → takes_object s (m.types t) a (moved_ty m got) ≡ takes_object s t a got
  unfolding takes_object
  takes_object_moves s t a (owning r u b) = ap (λ x. is_inside r s && x) (is_same_object_moves t a u b)
  takes_object_moves s t a (tracked k u b) = is_same_object_moves t a u b
  takes_object_moves s t a got = refl

  pub takes_moves : (w t : Ty) → takes (moved_ty m w) (moved_ty m t) ≡ takes w t
  unfolding takes
  takes_moves (owning s t a) got = takes_object_moves s t a got
  takes_moves int got = is_same_moves int got
  takes_moves bool got = is_same_moves bool got
  takes_moves (tracked k t a) got = is_same_moves (tracked k t a) got
  takes_moves (guarded k t a) got = is_same_moves (guarded k t a) got
  takes_moves (variant t a) got = is_same_moves (variant t a) got
  takes_moves (owning_variant t a) got = is_same_moves (owning_variant t a) got

  pub unpacks_moves : (w t : Ty) → unpacks (moved_ty m w) (moved_ty m t) ≡ unpacks w t
  unfolding unpacks
  unpacks_moves (tracked k t a) (owning s u b) = is_same_object_moves t a u b
  unpacks_moves w t = refl

pub under_moves : (m : Moves) (args : List ℕ) (ty : Ty) → ty_under args (moved_ty m ty) ≡ moved_ty m (ty_under args ty)
unfolding ty_under
under_moves m args int = refl
under_moves m args bool = refl
under_moves m args (tracked k t a) = refl
under_moves m args (owning s t a) = refl
under_moves m args (guarded k t a) = refl
under_moves m args (variant t a) = refl
under_moves m args (owning_variant t a) = refl
