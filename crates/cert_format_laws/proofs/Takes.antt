-- Reading rows as a function: as far as they go, so many calls deep.
use Rattle.std.specs.Prelude.{ℕ, zero, suc, ◌==◌, nat_lt, Bool, true, false, if◌then◌else◌, List, [], ◌∷◌, Option, Some, None}
use Rattle.cert_rows.specs.Rows.{Head, ArmHead}
use Rattle.cert_rows.specs.Rows as row
use Rattle.cert_format.specs.Drafts.{Draft, plain, choose, loop, switch, focus, scope, Block, block, Drafts, done, next, Arms, no_arms, arm, Rest, most_block_depth, may_arm, is_plain}

-- what is taken, the rows after it, and whether it is whole
abbrev pub Taken : Type 0 → Type 0
Taken A = A × Rest × Bool

abbrev pub a_block : Head → Taken Drafts → Taken Block
a_block h t = (block h.0 h.1 t.0, t.1, t.2)

abbrev pub bare : Head → Block
bare h = block h.0 h.1 done

abbrev pub bare_arms : List ArmHead → Arms
bare_arms [] = no_arms
bare_arms (h ∷ hs) = arm h.0 h.1 (bare (h.2, h.3)) (bare_arms hs)

-- the second, unless the first breaks off
abbrev pub then_block : Taken Block → (Rest → Taken Block) → Head → (Block → Block → Draft) → Taken Draft
then_block t go h mk = if t.2 then (let u = go t.1 in (mk t.0 u.0, u.1, u.2)) else (mk t.0 (bare h), t.1, false)

abbrev pub one_block : Taken Block → (Block → Draft) → Taken Draft
one_block t mk = (mk t.0, t.1, t.2)

abbrev pub then_arms : ℕ → List ℕ → Taken Block → (Rest → Taken Arms) → List ArmHead → Taken Arms
then_arms c vs t go hs = if t.2 then (let u = go t.1 in (arm c vs t.0 u.0, u.1, u.2)) else (arm c vs t.0 (bare_arms hs), t.1, false)

abbrev pub then_drafts : Option (Taken Draft) → (Rest → Taken Drafts) → Rest → Taken Drafts
then_drafts None go ds = (done, ds, false)
then_drafts (Some t) go ds = if t.2 then (let u = go t.1 in (next t.0 u.0, u.1, u.2)) else (next t.0 done, t.1, false)

abbrev pub if_deep : (within : Bool) → Taken Draft → Option (Taken Draft)
if_deep within t = if within then Some t else None

abbrev mutual
  pub take_draft : (calls deep : ℕ) → Rest → Option (Taken Draft)
  take_draft zero deep ds = None
  take_draft (suc k) deep [] = None
  take_draft (suc k) deep (None ∷ ds) = None
  take_draft (suc k) deep (Some (row.choose e a b m) ∷ ds) =
      if_deep (nat_lt deep most_block_depth) (then_block (a_block a (take_drafts k (suc deep) a.0 ds))
      (λ rest. a_block b (take_drafts k (suc deep) b.0 rest)) b (λ x y. choose e x y m))
  take_draft (suc k) deep (Some (row.loop e a m n) ∷ ds) =
      if_deep (nat_lt deep most_block_depth) (one_block (a_block a (take_drafts k (suc deep) a.0 ds)) (λ x. loop e x m n))
  take_draft (suc k) deep (Some (row.switch v hs m) ∷ ds) =
      if_deep (may_arm deep hs) (let t = take_arms k (suc deep) hs ds in (switch v t.0 m, t.1, t.2))
  take_draft (suc k) deep (Some (row.focus y z a) ∷ ds) =
      if_deep (nat_lt deep most_block_depth) (one_block (a_block a (take_drafts k (suc deep) a.0 ds)) (focus y z))
  take_draft (suc k) deep (Some (row.scope a) ∷ ds) =
      if_deep (nat_lt deep most_block_depth) (one_block (a_block a (take_drafts k (suc deep) a.0 ds)) scope)
  take_draft (suc k) deep (Some r ∷ ds) = if is_plain r then Some (plain r, ds, true) else None

  pub take_drafts : (calls deep n : ℕ) → Rest → Taken Drafts
  take_drafts zero deep n ds = (done, ds, n == 0)
  take_drafts (suc k) deep zero ds = (done, ds, true)
  take_drafts (suc k) deep (suc n) ds = then_drafts (take_draft k deep ds) (take_drafts k deep n) ds

  pub take_arms : (calls deep : ℕ) → List ArmHead → Rest → Taken Arms
  take_arms zero deep hs ds = (bare_arms hs, ds, false)
  take_arms (suc k) deep [] ds = (no_arms, ds, true)
  take_arms (suc k) deep (h ∷ hs) ds =
      then_arms h.0 h.1 (a_block (h.2, h.3) (take_drafts k deep h.2 ds)) (take_arms k deep hs) hs
