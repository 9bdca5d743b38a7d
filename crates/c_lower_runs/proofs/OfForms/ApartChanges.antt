-- Changes at different positions: for Swap, where a block is half written while others get other owners.
use Rattle.std.proofs.Common.{◌≡◌, ◌≢◌, ℤ, Bool, ℕ, zero, suc, List, [], ◌∷◌, Option, Some, None, Ok, true, slice_get, slice_set, refl, sym, ap}
use Rattle.std.proofs.lemmas.Bool.{ne_eqb}
use Rattle.vlt_meaning.specs.World.{Object}
use Rattle.vlt_meaning.specs.Objects.{with_changed_object, changed_in}
use Rattle.c_meaning.specs.Blocks.{Block, Blocks, live_block, is_there, blocks_after_disown, blocks_after_own, is_free, passes, with_changed_block, with_parent}
use Rattle.c_lower_worlds.proofs.CellWriting.{set_live, with_cells}
use Rattle.c_lower_worlds.proofs.VariableValues.{get_other}

pub set_apart : {A : Type 0} (xs : List A) (n m : ℕ) (y z : A) → n ≢ m → slice_set (slice_set xs n y) m z ≡ slice_set (slice_set xs m z) n y
set_apart [] n m y z e = refl
set_apart (x ∷ xs) zero zero y z e = absurd (e refl)
set_apart (x ∷ xs) zero (suc m) y z e = refl
set_apart (x ∷ xs) (suc n) zero y z e = refl
set_apart (x ∷ xs) (suc n) (suc m) y z e = ap (λ r. x ∷ r) (set_apart xs n m y z (λ f. e (ap suc f)))

pub get_apart : {A : Type 0} (xs : List A) (n m : ℕ) (y : A) → m ≢ n → slice_get (slice_set xs n y) m ≡ slice_get xs m
get_apart [] n m y e = refl
get_apart (x ∷ xs) zero zero y e = absurd (e refl)
get_apart (x ∷ xs) zero (suc m) y e = refl
get_apart (x ∷ xs) (suc n) zero y e = refl
get_apart (x ∷ xs) (suc n) (suc m) y e = get_apart xs n m y (λ f. e (ap suc f))

-- a block goes out of its owner, whatever is in another one
pub disown_beside : (bs : Blocks) (n x : ℕ) (c : Option Block) → x ≢ n → is_there (live_block bs x) ≡ true →
    blocks_after_disown (slice_set bs n c) (Some x) ≡ Ok (slice_set (with_changed_block x (with_parent None) bs) n c)
disown_beside bs n x c apart there =
    rw (get_apart bs n x c apart, there) (ap (λ r. Ok r) (set_apart bs n x c (Rattle.std.specs.Prelude.option_map (with_parent None) (live_block bs x)) (λ e. apart (sym e))))

-- two objects are changed in either order
pub changes_apart : (os : List Object) (n m : ℕ) (f g : Object → Object) → n ≢ m → with_changed_object m g (with_changed_object n f os) ≡ with_changed_object n f (with_changed_object m g os)
changes_apart os n m f g e = rw (get_other os n m f (λ q. e (sym q)), get_other os m n g e) (by (slice_get os n) (slice_get os m))
  where
    by : (a b : Option Object) → changed_in m g (changed_in n f os a) b ≡ changed_in n f (changed_in m g os b) a
    by None None = refl
    by None (Some b) = refl
    by (Some a) None = refl
    by (Some a) (Some b) = set_apart os n m (f a) (g b) e

-- a free block goes into one that hangs on nothing, whatever cells that one has
pub own_beside : (bs : Blocks) (n x : ℕ) (b : Block) (o : Bool) (ns : List (Option ℤ)) (rs : List (Option (Option ℕ))) → x ≢ n → live_block bs n ≡ Some b → passes is_free (live_block bs x) ≡ true →
    blocks_after_own (with_cells bs n None o ns rs) (Some x) (Some n) ≡ Ok (with_cells (with_changed_block x (with_parent (Some n)) bs) n None o ns rs)
own_beside bs n x b o ns rs apart live free =
    rw (get_apart bs n x (Some (record { parent = None; is_out = o; numbers = ns; references = rs })) apart, free, set_live bs n b (record { parent = None; is_out = o; numbers = ns; references = rs }) live, ne_eqb x n apart)
    (ap (λ r. Ok r) (set_apart bs n x (Some (record { parent = None; is_out = o; numbers = ns; references = rs })) (Rattle.std.specs.Prelude.option_map (with_parent (Some n)) (live_block bs x)) (λ e. apart (sym e))))
