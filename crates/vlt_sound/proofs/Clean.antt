-- What main leaves.
use Rattle.std.proofs.Common.{◌≡◌, ◌⊎◌, inl, inr, ⊎_elim, ℕ, zero, suc, ◌+◌, ◌<◌, ◌≤◌, ◌==◌, Bool, true, false, ◌||◌, if◌then◌else◌, List, [], ◌∷◌, ◌++◌, map, filter, length, Option, Some, None, refl, sym, ap, ◌∙◌, subst, arith, slice_get}
use Rattle.std.proofs.lemmas.Bool.{cases_eq}
use Rattle.std.specs.List.{list_any, enumerate_from}
use Rattle.vlt_base.specs.Parents.{Parents, parent_of, is_so_above, reaches}
use Rattle.vlt_core.specs.Core.{Func, Program}
use Rattle.vlt_meaning.specs.World as world
use Rattle.vlt_meaning.specs.World.{Value, objects_in, Owner, gone, out, loose, inside, adopted_by, is_gone, is_out, above, Object, World}
use Rattle.vlt_meaning.specs.Objects.{is_under, parents_of}
use Rattle.vlt_meaning.specs.Clean.{out_objects, is_clean}
use Rattle.vlt_meaning.specs.Run.{ran}
use Rattle.vlt_sound_worlds.specs.Look.{look, IsLive}
use Rattle.vlt_sound_worlds.proofs.Look.{live_at, live_within, look_is}
use Rattle.vlt_sound_worlds.proofs.Below.{below_test}
use Rattle.vlt_sound_worlds.specs.Members.{In}
use Rattle.vlt_sound_worlds.specs.Placed.{IsOwned, HasIt}
use Rattle.vlt_sound_worlds.proofs.Members.{in_left, in_right}
use Rattle.vlt_sound_worlds.specs.Roots.{Root, in_var, in_hand, in_wait, in_cell, owned_by, content, home}
use Rattle.vlt_sound_worlds.specs.Keys.{IsUnder}
use Rattle.vlt_sound_worlds.proofs.KeysLaws.{none_under}
use Rattle.vlt_sound_worlds.specs.Agrees.{scene, stock}
use Rattle.vlt_sound_calls.specs.Returned.{FitsResult, Returned}
use Rattle.vlt_sound_calls.proofs.Taking.{all_numbered}
use Rattle.vlt_sound.specs.Main.{IsMain}
use Rattle.vlt_sound.proofs.Start.{main_context}

-- ---- one root of several

any_of : (rs : List ℕ) (r n : ℕ) → In r rs → (r == n) ≡ true → list_any (λ m. m == n) rs ≡ true
any_of [] r n i e = absurd i
any_of (x ∷ rs) r n (inl same) e = rw (ap (λ m. m == n) (sym same) ∙ e) refl
any_of (x ∷ rs) r n (inr rest) e = by (x == n) (any_of rs r n rest e)
  where
    by : (b : Bool) → list_any (λ m. m == n) rs ≡ true → (b || list_any (λ m. m == n) rs) ≡ true
    by true q = refl
    by false q = q

or_either : (a b : Bool) → (a || b) ≡ true → (a ≡ true) ⊎ (b ≡ true)
or_either true b e = inl refl
or_either false b e = inr e

or_first : (a b : Bool) → a ≡ true → (a || b) ≡ true
or_first true b e = refl
or_first false b e = cc

or_second : (a b : Bool) → b ≡ true → (a || b) ≡ true
or_second true b e = refl
or_second false b e = e

one_of_roots : (steps : ℕ) (ps : Parents) (rs : List ℕ) (r n : ℕ) → In r rs → reaches steps ps (r ∷ []) n ≡ true →
    reaches steps ps rs n ≡ true
one_of_roots zero ps rs r n i e = any_of rs r n i (itself e)
  where
    itself : ((r == n) || false) ≡ true → (r == n) ≡ true
    itself e = ⊎_elim (λ q. q) (λ q. cc) (or_either (r == n) false e)
one_of_roots (suc s) ps rs r n i e = ⊎_elim
    (λ q. or_first (list_any (λ m. m == n) rs) (is_so_above (reaches s ps rs) (parent_of ps n)) (any_of rs r n i (itself q)))
    (λ q. or_second (list_any (λ m. m == n) rs) (is_so_above (reaches s ps rs) (parent_of ps n))
    (up (parent_of ps n) (λ m t. one_of_roots s ps rs r m i t) q))
    (or_either ((r == n) || false) (is_so_above (reaches s ps (r ∷ [])) (parent_of ps n)) e)
  where
    itself : ((r == n) || false) ≡ true → (r == n) ≡ true
    itself e = ⊎_elim (λ q. q) (λ q. cc) (or_either (r == n) false e)

    up : (o : Option ℕ) → ((m : ℕ) → reaches s ps (r ∷ []) m ≡ true → reaches s ps rs m ≡ true) →
        is_so_above (reaches s ps (r ∷ [])) o ≡ true → is_so_above (reaches s ps rs) o ≡ true
    up None again e = cc
    up (Some m) again e = again m e

-- ---- roots

out_in : (from : ℕ) (os : List Object) (i : ℕ) (o : Object) → slice_get os i ≡ Some o → is_out o.owner ≡ true →
    In (from + i) (map (λ q. q.0) (filter (λ q. is_out q.1.owner) (enumerate_from from os)))
out_in from [] i o at t = absurd (none at)
  where
    none : ◌≡◌ {A = Option Object} None (Some o) → ⊥
    none e = cc
out_in from (x ∷ os) zero o at t =
    let same : x ≡ o = some at in
    let is : is_out x.owner ≡ true = ap (λ o. is_out o.owner) same ∙ t in
    rw is (inl (omega arith))
  where
    some : Some x ≡ Some o → x ≡ o
    some e = cc
out_in from (x ∷ os) (suc i) o at t = by (is_out x.owner)
    (subst (λ n. In n (map (λ q. q.0) (filter (λ q. is_out q.1.owner) (enumerate_from (from + 1) os)))) (omega arith) (out_in (from + 1) os i o at t))
  where
    by : (b : Bool) → In (from + suc i) (map (λ q. q.0) (filter (λ q. is_out q.1.owner) (enumerate_from (from + 1) os))) →
        In (from + suc i) (map (λ q. q.0) (if b then (from, x) ∷ filter (λ q. is_out q.1.owner) (enumerate_from (from + 1) os) else filter (λ q. is_out q.1.owner) (enumerate_from (from + 1) os)))
    by true i = inr i
    by false i = i

module _ {p : Program} {f : Func} (main : IsMain f) {a : Option Value} {kept : List ℕ} {w : World}
    (left : Returned p f (main_context f) a kept w) where
  -- the value owns nothing
  value_plain : owned_by a ≡ []
  value_plain = ⊎_elim
      (λ none. ap owned_by
      (subst (λ o. FitsResult p (scene (main_context f) w.objects left.agrees.heads) left.names o a) none left.value))
      (λ is.
      let q = subst (λ o. FitsResult p (scene (main_context f) w.objects left.agrees.heads) left.names o a) is.3 left.value in
      ap owned_by q.1 ∙ ap objects_in (q.2.is ∙ ap world.one q.2.fits.is))
      main.result

  abbrev roots : List ℕ
  roots = kept ++ out_objects w.objects

  -- a root is there, and the object is it or below it
  pub record IsKeptBelow (n : ℕ) : Type 0 where
    pub root : ℕ
    pub is_root : In root roots
    pub within : root < length w.objects
    pub below : is_under w.objects (root ∷ []) n ≡ true

  itself : (n : ℕ) → IsLive (look w.objects) n → In n roots → IsKeptBelow n
  itself n live i =
      let within = live_within w.objects n live in
      record { root = n; is_root = i; within = within; below = (below_test w.objects n within).itself }

  nowhere : (n : ℕ) → (look w.objects n).owner ≡ loose → ⊥
  nowhere n own = by (left.agrees.placed.place n) t.has t.lies
    where
      t : HasIt (content (stock (main_context f) left.hand left.frame w.objects)) home (left.agrees.placed.place n) n (look w.objects n).owner
      t = left.agrees.placed.there n (subst IsOwned (sym own) tt)

      by : (P : Root) → In n (content (stock (main_context f) left.hand left.frame w.objects) P) → home P ≡ (look w.objects n).owner → ⊥
      by (in_var v) i e = subst (In n) (left.emptied v) i
      by in_hand i e = subst (In n) (left.owns ∙ value_plain) i
      by (in_wait d v) i e = i
      by (in_cell m j) i e = clash (e ∙ own)
        where
          clash : inside m ≡ loose → ⊥
          clash e = cc

  under_kept : (n d k : ℕ) → IsUnder d k (look w.objects n).owner → In n kept
  under_kept n d k u = ⊎_elim
      (λ same. left.only n k (subst (λ d. IsUnder d k (look w.objects n).owner) same u))
      (λ other.
      let le = left.agrees.rest.bounded n d k u in
      let zero_is : d ≡ 0 = omega arith in
      let well = left.agrees.rest.waits 0 (omega arith) in
      absurd (none_under refl (well.keys k) n (subst (λ d. IsUnder d k (look w.objects n).owner) zero_is u)))
      (cases_eq d 1)

  in_first : (n : ℕ) (xs ys : List ℕ) → In n xs → In n (xs ++ ys)
  in_first n xs ys i = in_left n xs ys i

  goes_up : (d n : ℕ) → left.agrees.ranked.top ≤ d + left.agrees.ranked.rank n → IsLive (look w.objects) n → IsKeptBelow n
  goes_up zero n le live = let lt = left.agrees.ranked.under n in absurd (omega arith)
  goes_up (suc d) n le live = by (λ m le live. goes_up d m le live) (look w.objects n).owner refl
    where
      up : ((m : ℕ) → left.agrees.ranked.top ≤ d + left.agrees.ranked.rank m → IsLive (look w.objects) m → IsKeptBelow m) → (m : ℕ) →
          above (look w.objects n).owner ≡ Some m → IsKeptBelow n
      up again m e =
          let l = left.agrees.ranked.linked n m e in
          let lt = l.lower in
          let q = again m (omega arith) l.live in
          record {
            root = q.root;
            is_root = q.is_root;
            within = q.within;
            below = (below_test w.objects q.root q.within).up n m e q.below;
          }

      by : ((m : ℕ) → left.agrees.ranked.top ≤ d + left.agrees.ranked.rank m → IsLive (look w.objects) m → IsKeptBelow m) → (q : Owner) →
          (look w.objects n).owner ≡ q → IsKeptBelow n
      by again (world.held e k) is =
          itself n live (in_first n kept (out_objects w.objects) (under_kept n e k (subst (IsUnder e k) (sym is) (refl, refl))))
      by again (world.lent e k) is =
          itself n live (in_first n kept (out_objects w.objects) (under_kept n e k (subst (IsUnder e k) (sym is) (refl, refl))))
      by again loose is = absurd (nowhere n is)
      by again (inside m) is = up again m (ap above is)
      by again (adopted_by m) is = up again m (ap above is)
      by again out is =
          let same : 0 + n ≡ n = omega arith in
          itself n live
          (in_right n kept (out_objects w.objects)
          (subst (λ m. In m (out_objects w.objects)) same
          (out_in 0 w.objects n (look w.objects n) (live_at w.objects n live) (ap is_out is))))
      by again gone is = absurd (live is)

  pub clean : is_clean (ran world.done kept w) ≡ true
  clean = all_numbered (λ q. is_gone q.1.owner || is_under w.objects roots q.0) 0 w.objects (λ i o at. by i o at (is_gone o.owner) refl)
    where
      not_gone : (q : Owner) → is_gone q ≡ false → q ≡ gone → ⊥
      not_gone q e is = clash (sym (ap is_gone is) ∙ e)
        where
          clash : true ≡ false → ⊥
          clash e = cc

      by : (i : ℕ) (o : Object) → slice_get w.objects i ≡ Some o → (b : Bool) → is_gone o.owner ≡ b →
          (is_gone o.owner || is_under w.objects roots (0 + i)) ≡ true
      by i o at true e = rw e refl
      by i o at false e =
          let live : IsLive (look w.objects) i = λ g. not_gone o.owner e (ap (λ o. o.owner) (sym (look_is w.objects i o at)) ∙ g) in
          let q = goes_up left.agrees.ranked.top i (omega arith) live in
          let found = one_of_roots (length (parents_of w.objects)) (parents_of w.objects) roots q.root i q.is_root q.below in
          rw e (ap (is_under w.objects roots) (plus_none i) ∙ found)
        where
          plus_none : (m : ℕ) → 0 + m ≡ m
          plus_none m = omega arith
