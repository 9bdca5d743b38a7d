-- What calls that came back leave.
use Rattle.std.proofs.Common.{◌≡◌, ◌⊎◌, inl, inr, ⊎_elim, ℕ, zero, suc, ◌+◌, ◌<◌, ◌≤◌, ◌==◌, Bool, true, false, ◌||◌, if◌then◌else◌, List, [], ◌∷◌, ◌++◌, map, filter, length, Option, Some, None, refl, sym, ap, ◌∙◌, subst, arith, slice_get}
use Rattle.std.proofs.lemmas.Option.{none-some, same_Some}
use Rattle.std.specs.List.{list_any, enumerate_from}
use Rattle.vlt_base.specs.Parents.{Parents, parent_of, is_so_above, reaches}
use Rattle.vlt_core.specs.Core.{Program}
use Rattle.vlt_meaning.specs.World as world
use Rattle.vlt_meaning.specs.World.{Owner, gone, out, loose, inside, adopted_by, is_gone, is_out, above, Object}
use Rattle.vlt_meaning.specs.Objects.{is_under, parents_of}
use Rattle.vlt_meaning.specs.Clean.{out_objects}
use Rattle.vlt_sound_worlds.specs.Look.{look, IsLive}
use Rattle.vlt_sound_worlds.proofs.Look.{live_at, live_within, look_is}
use Rattle.vlt_sound_worlds.proofs.Below.{below_test}
use Rattle.vlt_sound_worlds.specs.Members.{In}
use Rattle.vlt_sound_worlds.specs.Placed.{IsOwned, HasIt}
use Rattle.vlt_sound_worlds.proofs.Members.{in_left, in_right}
use Rattle.vlt_sound_worlds.specs.Roots.{Root, in_var, in_hand, in_wait, in_cell, content, home}
use Rattle.vlt_sound_worlds.specs.Keys.{IsUnder}
use Rattle.vlt_sound_calls.proofs.Taking.{all_numbered}
use Rattle.vlt_host_meaning.specs.HostFrame.{host_holds}
use Rattle.vlt_host_meaning.specs.HostClean.{held_numbers, is_host_clean}
use Rattle.vlt_host_laws.proofs.HostAsCaller.{owner_holds}
use Rattle.vlt_host_laws.proofs.HostAgrees.{bare_stock, HostAgrees}

-- ---- one root of several

any_of : (rs : List ℕ) (r n : ℕ) → In r rs → (r == n) ≡ true → list_any (λ m. m == n) rs ≡ true
any_of [] r n i e = absurd i
any_of (x ∷ rs) r n (inl same) e = rw (ap (λ m. m == n) (sym same) ∙ e) refl
any_of (x ∷ rs) r n (inr rest) e = by (x == n) (any_of rs r n rest e)
  where
    by : (b : Bool) → list_any (λ m. m == n) rs ≡ true → (b || list_any (λ m. m == n) rs) ≡ true
    by true q = refl
    by false q = q

or_either : (a b : Bool) → (a || b) ≡ true → (a ≡ true) ⊎ (b ≡ true)
or_either true b e = inl refl
or_either false b e = inr e

or_first : (a b : Bool) → a ≡ true → (a || b) ≡ true
or_first true b e = refl
or_first false b e = cc

or_second : (a b : Bool) → b ≡ true → (a || b) ≡ true
or_second true b e = refl
or_second false b e = e

one_of_roots : (steps : ℕ) (ps : Parents) (rs : List ℕ) (r n : ℕ) → In r rs → reaches steps ps (r ∷ []) n ≡ true →
    reaches steps ps rs n ≡ true
one_of_roots zero ps rs r n i e = any_of rs r n i (itself e)
  where
    itself : ((r == n) || false) ≡ true → (r == n) ≡ true
    itself e = ⊎_elim (λ q. q) (λ q. cc) (or_either (r == n) false e)
one_of_roots (suc s) ps rs r n i e = ⊎_elim
    (λ q. or_first (list_any (λ m. m == n) rs) (is_so_above (reaches s ps rs) (parent_of ps n)) (any_of rs r n i (itself q)))
    (λ q. or_second (list_any (λ m. m == n) rs) (is_so_above (reaches s ps rs) (parent_of ps n))
    (up (parent_of ps n) (λ m t. one_of_roots s ps rs r m i t) q))
    (or_either ((r == n) || false) (is_so_above (reaches s ps (r ∷ [])) (parent_of ps n)) e)
  where
    itself : ((r == n) || false) ≡ true → (r == n) ≡ true
    itself e = ⊎_elim (λ q. q) (λ q. cc) (or_either (r == n) false e)

    up : (o : Option ℕ) → ((m : ℕ) → reaches s ps (r ∷ []) m ≡ true → reaches s ps rs m ≡ true) →
        is_so_above (reaches s ps (r ∷ [])) o ≡ true → is_so_above (reaches s ps rs) o ≡ true
    up None again e = cc
    up (Some m) again e = again m e

-- the positions of the objects that pass a test
numbers_in : (test : ℕ × Object → Bool) (from : ℕ) (os : List Object) (i : ℕ) (o : Object) → slice_get os i ≡ Some o →
    test (from + i, o) ≡ true → In (from + i) (map (λ q. q.0) (filter test (enumerate_from from os)))
numbers_in test from [] i o at t = absurd (none-some o at)
numbers_in test from (x ∷ os) zero o at t =
    let here : from + 0 ≡ from = omega arith in
    let is : test (from, x) ≡ true = ap (λ y. test (from, y)) (same_Some x o at) ∙ (ap (λ m. test (m, o)) (sym here) ∙ t) in
    rw is (inl here)
numbers_in test from (x ∷ os) (suc i) o at t =
    let there : (from + 1) + i ≡ from + suc i = omega arith in
    by (test (from, x))
    (subst (λ n. In n (map (λ q. q.0) (filter test (enumerate_from (from + 1) os)))) there
    (numbers_in test (from + 1) os i o at (ap (λ m. test (m, o)) there ∙ t)))
  where
    by : (b : Bool) → In (from + suc i) (map (λ q. q.0) (filter test (enumerate_from (from + 1) os))) →
        In (from + suc i) (map (λ q. q.0) (if b then (from, x) ∷ filter test (enumerate_from (from + 1) os) else filter test (enumerate_from (from + 1) os)))
    by true i = inr i
    by false i = i

module _ {p : Program} {os : List Object} (a : HostAgrees p os) where
  abbrev roots : List ℕ
  roots = held_numbers os ++ out_objects os

  zero_plus : (m : ℕ) → 0 + m ≡ m
  zero_plus m = omega arith

  held_root : (n : ℕ) → (look os n).owner ≡ world.held 0 n → IsLive (look os) n → In n roots
  held_root n own live =
      in_left n (held_numbers os) (out_objects os)
      (subst (λ m. In m (held_numbers os)) (zero_plus n)
      (numbers_in (λ q. host_holds os q.0) 0 os n (look os n) (live_at os n live)
      (ap (host_holds os) (zero_plus n) ∙ owner_holds os n own)))

  out_root : (n : ℕ) → (look os n).owner ≡ out → IsLive (look os) n → In n roots
  out_root n own live =
      in_right n (held_numbers os) (out_objects os)
      (subst (λ m. In m (out_objects os)) (zero_plus n)
      (numbers_in (λ q. is_out q.1.owner) 0 os n (look os n) (live_at os n live) (ap is_out own)))

  -- a root is there, and the object is it or below it
  pub record IsKeptBelow (n : ℕ) : Type 0 where
    pub root : ℕ
    pub is_root : In root roots
    pub within : root < length os
    pub below : is_under os (root ∷ []) n ≡ true

  itself : (n : ℕ) → IsLive (look os) n → In n roots → IsKeptBelow n
  itself n live i =
      let within = live_within os n live in
      record { root = n; is_root = i; within = within; below = (below_test os n within).itself }

  nowhere : (n : ℕ) → (look os n).owner ≡ loose → ⊥
  nowhere n own = by (a.placed.place n) t.has t.lies
    where
      t : HasIt (content (bare_stock os)) home (a.placed.place n) n (look os n).owner
      t = a.placed.there n (subst IsOwned (sym own) tt)

      by : (P : Root) → In n (content (bare_stock os) P) → home P ≡ (look os n).owner → ⊥
      by (in_var v) i e = i
      by in_hand i e = i
      by (in_wait d v) i e = i
      by (in_cell m j) i e = clash (e ∙ own)
        where
          clash : inside m ≡ loose → ⊥
          clash e = cc

  goes_up : (d n : ℕ) → a.ranked.top ≤ d + a.ranked.rank n → IsLive (look os) n → IsKeptBelow n
  goes_up zero n le live = let lt = a.ranked.under n in absurd (omega arith)
  goes_up (suc d) n le live = by (λ m le live. goes_up d m le live) (look os n).owner refl
    where
      up : ((m : ℕ) → a.ranked.top ≤ d + a.ranked.rank m → IsLive (look os) m → IsKeptBelow m) → (m : ℕ) →
          above (look os n).owner ≡ Some m → IsKeptBelow n
      up again m e =
          let l = a.ranked.linked n m e in
          let lt = l.lower in
          let q = again m (omega arith) l.live in
          record {
            root = q.root;
            is_root = q.is_root;
            within = q.within;
            below = (below_test os q.root q.within).up n m e q.below;
          }

      by : ((m : ℕ) → a.ranked.top ≤ d + a.ranked.rank m → IsLive (look os) m → IsKeptBelow m) → (q : Owner) →
          (look os n).owner ≡ q → IsKeptBelow n
      by again (world.held e k) is =
          itself n live (held_root n (a.own n e k (subst (IsUnder e k) (sym is) (refl, refl))) live)
      by again (world.lent e k) is =
          itself n live (held_root n (a.own n e k (subst (IsUnder e k) (sym is) (refl, refl))) live)
      by again loose is = absurd (nowhere n is)
      by again (inside m) is = up again m (ap above is)
      by again (adopted_by m) is = up again m (ap above is)
      by again out is = itself n live (out_root n is live)
      by again gone is = absurd (live is)

  pub host_clean : is_host_clean os ≡ true
  host_clean = all_numbered (λ q. is_gone q.1.owner || is_under os roots q.0) 0 os (λ i o at. by i o at (is_gone o.owner) refl)
    where
      not_gone : (q : Owner) → is_gone q ≡ false → q ≡ gone → ⊥
      not_gone q e is = clash (sym (ap is_gone is) ∙ e)
        where
          clash : true ≡ false → ⊥
          clash e = cc

      by : (i : ℕ) (o : Object) → slice_get os i ≡ Some o → (b : Bool) → is_gone o.owner ≡ b →
          (is_gone o.owner || is_under os roots (0 + i)) ≡ true
      by i o at true e = rw e refl
      by i o at false e =
          let live : IsLive (look os) i = λ g. not_gone o.owner e (ap (λ o. o.owner) (sym (look_is os i o at)) ∙ g) in
          let q = goes_up a.ranked.top i (omega arith) live in
          let found = one_of_roots (length (parents_of os)) (parents_of os) roots q.root i q.is_root q.below in
          rw e (ap (is_under os roots) (zero_plus i) ∙ found)
