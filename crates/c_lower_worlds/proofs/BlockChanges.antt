-- Changes of objects, and what they are for the blocks that stand for them.
use Rattle.std.proofs.Common.{◌≡◌, ◌≢◌, ℕ, zero, suc, ◌+◌, Bool, true, false, not, if◌then◌else◌, List, [], ◌∷◌, map, Option, Some, None, Result, Ok, refl, sym, ap, ◌∙◌, add-one, slice_get, slice_set}
use Rattle.std.specs.Option.{option_map}
use Rattle.std.specs.List.{enumerate_from, fold}
use Rattle.std.proofs.lemmas.Bool.{ne_eqb, false≢true, true≢false}
use Rattle.std.proofs.lemmas.Option.{same_Some, slice_get-map}
use Rattle.std.proofs.lemmas.List.{map-set, length-map}
use Rattle.vlt_core.specs.Core.{Program}
use Rattle.vlt_meaning.specs.World.{Owner, held, lent, loose, inside, adopted_by, out, gone, above, is_out, is_gone, Object}
use Rattle.vlt_meaning.specs.World as source
use Rattle.vlt_meaning.specs.Objects as objects
use Rattle.vlt_meaning.specs.Objects.{with_owner, with_state, with_changed_object, objects_after_release, is_under}
use Rattle.c_meaning.specs.Blocks as c
use Rattle.c_meaning.specs.Blocks.{Block, Blocks, live_block, with_changed_block, blocks_after_own, blocks_after_disown, blocks_after_release, gone_out, come_back, option_join, without_from}
use Rattle.c_lower_worlds.specs.Worlds.{block_with, block_of, blocks_of, cell_values, numbers_in, references_in}
use Rattle.vlt_core.specs.Lookups.{fields_of}
use Rattle.c_lower_worlds.proofs.OfNaming.FoundObjects.{IsFree}

-- a live object
pub record IsLive (os : List Object) (n : ℕ) (o : Object) : Type 0 where
  pub at : slice_get os n ≡ Some o
  pub live : is_gone o.owner ≡ false

module _ (p : Program) where
  abbrev values_of : Object → List Rattle.c_meaning.specs.World.Value
  values_of o = cell_values p (fields_of p o.type) o.cells

  pub live_is : (os : List Object) (n : ℕ) (o : Object) → slice_get os n ≡ Some o → live_block (blocks_of p os) n ≡ block_of p o
  live_is os n o at = rw (slice_get-map (block_of p) os n, at) refl

  -- a change of one object, and the change of its block
  pub changed_is : (os : List Object) (n : ℕ) (o : Object) (change : Object → Object) (cc : Block → Block) → slice_get os n ≡ Some o →
      block_of p (change o) ≡ option_map cc (block_of p o) →
      with_changed_block n cc (blocks_of p os) ≡ blocks_of p (with_changed_object n change os)
  changed_is os n o change cc at same =
      rw (live_is os n o at, at)
      (ap (slice_set (blocks_of p os) n) (sym same) ∙ sym (map-set (block_of p) os n (change o)))

  -- a change that the block doesn't see
  pub unseen : (os : List Object) (n : ℕ) (change : Object → Object) →
      ((o : Object) → slice_get os n ≡ Some o → block_of p (change o) ≡ block_of p o) →
      blocks_of p (with_changed_object n change os) ≡ blocks_of p os
  unseen os n change same = by (slice_get os n) refl
    where
      set_same : (os : List Object) (n : ℕ) (o q : Object) → slice_get os n ≡ Some o → block_of p q ≡ block_of p o → blocks_of p (slice_set os n q) ≡ blocks_of p os
      set_same [] n o q at e = refl
      set_same (x ∷ os) zero o q at e = ap (λ b. b ∷ blocks_of p os) (e ∙ ap (block_of p) (sym (same_Some x o at)))
      set_same (x ∷ os) (suc n) o q at e = ap (λ bs. block_of p x ∷ bs) (set_same os n o q at e)

      by : (o : Option Object) → slice_get os n ≡ o → blocks_of p (objects.changed_in n change os o) ≡ blocks_of p os
      by None at = refl
      by (Some o) at = set_same os n o (change o) at (same o at)

  -- ---- owners

  pub live_block_is : (o : Owner) (vs : List Rattle.c_meaning.specs.World.Value) → is_gone o ≡ false →
      block_with o vs ≡ Some (record { parent = above o; is_out = is_out o; numbers = numbers_in vs; references = references_in vs })
  live_block_is (held d k) vs e = refl
  live_block_is (lent d k) vs e = refl
  live_block_is loose vs e = refl
  live_block_is (inside n) vs e = refl
  live_block_is (adopted_by n) vs e = refl
  live_block_is out vs e = refl
  live_block_is gone vs e = absurd (true≢false e)

  -- both have the same cells
  pub with_owner_is : (o : Object) (q : Owner) → block_of p (with_owner q o) ≡ block_with q (values_of o)
  with_owner_is o q = refl

  -- the block of a live object
  pub block_there : (os : List Object) (n : ℕ) (o : Object) → IsLive os n o →
      live_block (blocks_of p os) n ≡ Some (record { parent = above o.owner; is_out = is_out o.owner; numbers = numbers_in (values_of o); references = references_in (values_of o) })
  block_there os n o k = live_is os n o k.at ∙ live_block_is o.owner (values_of o) k.live

  -- a change of an owner, and the change of its block
  owner_changed : (os : List Object) (n : ℕ) (o : Object) (q : Owner) (new : Block) → IsLive os n o → is_gone q ≡ false →
      new ≡ record { parent = above q; is_out = is_out q; numbers = numbers_in (values_of o); references = references_in (values_of o) } →
      slice_set (blocks_of p os) n (Some new) ≡ blocks_of p (with_changed_object n (with_owner q) os)
  owner_changed os n o q new k live e =
      rw (k.at)
      (ap (slice_set (blocks_of p os) n) (ap (λ b. Some b) e ∙ sym (live_block_is q (values_of o) live)) ∙ sym (map-set (block_of p) os n (with_owner q o)))

  -- an object goes to another one, as its part or by adoption
  pub own_is : (os : List Object) (n m : ℕ) (o a : Object) (q : Owner) → IsLive os n o → IsLive os m a → IsFree o.owner → above a.owner ≡ None → n ≢ m →
      above q ≡ Some m → is_out q ≡ false → is_gone q ≡ false →
      blocks_after_own (blocks_of p os) (Some n) (Some m) ≡ Ok (blocks_of p (with_changed_object n (with_owner q) os))
  own_is os n m o a q k l free root apart up inn live =
      rw (block_there os n o k, block_there os m a l, free.above, free.out, root, ne_eqb n m apart)
      (ap (λ bs. Ok bs) (owner_changed os n o q _ k live (rw (up, inn) refl)))

  -- an object hangs on nothing any more
  pub disown_is : (os : List Object) (n : ℕ) (o : Object) (q : Owner) → IsLive os n o → is_out o.owner ≡ false → IsFree q →
      blocks_after_disown (blocks_of p os) (Some n) ≡ Ok (blocks_of p (with_changed_object n (with_owner q) os))
  disown_is os n o q k inn free =
      rw (block_there os n o k)
      (ap (λ bs. Ok bs) (owner_changed os n o q _ k free.live (rw (free.above, free.out, inn) refl)))

  pub parent_is : (os : List Object) (n m : ℕ) (o : Object) → IsLive os n o → above o.owner ≡ Some m → c.parent_of (blocks_of p os) (Some n) ≡ Ok m
  parent_is os n m o k up = rw (block_there os n o k, up) refl

  -- an object goes out to the host, and comes back
  pub out_is : (os : List Object) (n : ℕ) (o : Object) → IsLive os n o → IsFree o.owner →
      gone_out (blocks_of p os) (Some n) ≡ Ok (blocks_of p (with_changed_object n (with_owner out) os))
  out_is os n o k free =
      rw (block_there os n o k, free.out, free.above)
      (ap (λ bs. Ok bs) (owner_changed os n o out _ k refl refl))

  pub back_is : (os : List Object) (n : ℕ) (o : Object) (q : Owner) → slice_get os n ≡ Some o → is_out o.owner ≡ true → IsFree q →
      come_back (blocks_of p os) (Some n) ≡ Ok (Some (blocks_of p (with_changed_object n (with_owner q) os)))
  back_is os n o q at outside free =
      rw (block_there os n o k, outside)
      (ap (λ bs. Ok (Some bs)) (owner_changed os n o q _ k free.live (rw (free.above, free.out, up) refl)))
    where
      live : (q : Owner) → is_out q ≡ true → is_gone q ≡ false
      live (held d k) e = refl
      live (lent d k) e = refl
      live loose e = refl
      live (inside n) e = refl
      live (adopted_by n) e = refl
      live out e = refl
      live gone e = absurd (false≢true e)

      above_none : (q : Owner) → is_out q ≡ true → above q ≡ None
      above_none (held d k) e = refl
      above_none (lent d k) e = refl
      above_none loose e = refl
      above_none (inside n) e = absurd (false≢true e)
      above_none (adopted_by n) e = absurd (false≢true e)
      above_none out e = refl
      above_none gone e = absurd (false≢true e)

      k : IsLive os n o
      k = record { at = at; live = live o.owner outside }

      up : above o.owner ≡ None
      up = above_none o.owner outside

  -- what isn't out doesn't come back
  pub not_back : (os : List Object) (n : ℕ) → ((o : Object) → slice_get os n ≡ Some o → is_out o.owner ≡ false) →
      come_back (blocks_of p os) (Some n) ≡ Ok None
  not_back os n inn = rw (slice_get-map (block_of p) os n) (by (slice_get os n) _ refl)
    where
      inside_block : (q : Owner) (vs : List Rattle.c_meaning.specs.World.Value) → is_out q ≡ false → c.passes (λ b. b.is_out) (block_with q vs) ≡ false
      inside_block (held d k) vs e = refl
      inside_block (lent d k) vs e = refl
      inside_block loose vs e = refl
      inside_block (inside n) vs e = refl
      inside_block (adopted_by n) vs e = refl
      inside_block out vs e = absurd (true≢false e)
      inside_block gone vs e = refl

      by : (o : Option Object) (bs : Blocks) → slice_get os n ≡ o →
          (let r : Result (Option Blocks) ℕ = Ok (if c.passes (λ b. b.is_out) (option_join (option_map (block_of p) o)) then Some bs else None) in
          r ≡ Ok None)
      by None bs at = refl
      by (Some o) bs at = rw (inside_block o.owner (values_of o) (inn o at)) refl

  -- an owner that hangs on nothing is as good as another one
  pub held_alike : (os : List Object) (n : ℕ) (q : Owner) → ((o : Object) → slice_get os n ≡ Some o → IsFree o.owner) → IsFree q →
      blocks_of p (with_changed_object n (with_owner q) os) ≡ blocks_of p os
  held_alike os n q free to = unseen os n (with_owner q) same
    where
      same : (o : Object) → slice_get os n ≡ Some o → block_of p (with_owner q o) ≡ block_of p o
      same o at = live_block_is q (values_of o) to.live ∙ rw (to.above, to.out, (free o at).above, (free o at).out) refl ∙ sym (live_block_is o.owner (values_of o) (free o at).live)

  -- no block sees a state
  pub state_alike : (os : List Object) (n s : ℕ) → blocks_of p (with_changed_object n (with_state s) os) ≡ blocks_of p os
  state_alike os n s = unseen os n (with_state s) (λ o at. refl)

  -- ---- all objects

  parent_alike : (o : Object) → c.parent_in (block_of p o) ≡ above o.owner
  parent_alike o = by o.owner
    where
      by : (q : Owner) → c.parent_in (block_with q (values_of o)) ≡ above q
      by (held d k) = refl
      by (lent d k) = refl
      by loose = refl
      by (inside n) = refl
      by (adopted_by n) = refl
      by out = refl
      by gone = refl

  pub parents_alike : (os : List Object) → c.parents_of (blocks_of p os) ≡ objects.parents_of os
  parents_alike [] = refl
  parents_alike (o ∷ os) = rw (parent_alike o, parents_alike os) refl

  pub live_alike : (os : List Object) → c.live_count (blocks_of p os) ≡ source.live_count os
  live_alike os = by 0 os
    where
      one : (q : Owner) (vs : List Rattle.c_meaning.specs.World.Value) → c.is_there (block_with q vs) ≡ not (is_gone q)
      one (held d k) vs = refl
      one (lent d k) vs = refl
      one loose vs = refl
      one (inside n) vs = refl
      one (adopted_by n) vs = refl
      one out vs = refl
      one gone vs = refl

      by : (a : ℕ) (os : List Object) → fold (λ k (b : Option Block). k + (if c.is_there b then 1 else 0)) a (blocks_of p os) ≡ fold (λ k (o : Object). k + (if not (is_gone o.owner) then 1 else 0)) a os
      by a [] = refl
      by a (o ∷ os) = rw (fold, one o.owner (values_of o)) (by (a + (if not (is_gone o.owner) then 1 else 0)) os)

  pub full_alike : (heap : ℕ) (os : List Object) → c.is_full heap (blocks_of p os) ≡ source.is_full heap os
  full_alike heap os = rw (live_alike os, length-map os (block_of p)) refl

  -- the object and all below it
  pub release_is : (os : List Object) (n : ℕ) (o : Object) → IsLive os n o → is_out o.owner ≡ false →
      blocks_after_release (blocks_of p os) (Some n) ≡ Ok (blocks_of p (objects_after_release n os))
  release_is os n o k inn = rw (block_there os n o k, inn, parents_alike os) (ap (λ bs. Ok bs) (by 0 os))
    where
      test : ℕ → Bool
      test = is_under os (n ∷ [])

      one : (b : Bool) (o : Object) → (if b then None else block_of p o) ≡ block_of p (if b then with_owner gone o else o)
      one true o = refl
      one false o = refl

      by : (i : ℕ) (os : List Object) → without_from test i (blocks_of p os) ≡ blocks_of p (map (λ q. if test q.0 then with_owner gone q.1 else q.1) (enumerate_from i os))
      by i [] = refl
      by i (o ∷ os) = rw (add-one i) (ap (λ b. b ∷ without_from test (suc i) (blocks_of p os)) (one (test i) o) ∙ ap (λ bs. block_of p (if test i then with_owner gone o else o) ∷ bs) (by (suc i) os))
