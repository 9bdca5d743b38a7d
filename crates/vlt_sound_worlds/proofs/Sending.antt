-- Objects of keys and what was handed over go to the host.
use Rattle.std.proofs.Common.{◌≡◌, inl, inr, ⊎_elim, ℕ, ◌<◌, true, false, List, [], ◌∷◌, length, refl, sym, ap, ◌∙◌, subst, arith}
use Rattle.std.proofs.lemmas.Bool.{cases_Bool}
use Rattle.std.proofs.lemmas.Option.{same_Some}
use Rattle.vlt_core.specs.Core.{a_key, Func, Program}
use Rattle.vlt_core.specs.Lookups.{key_type, is_owning_var}
use Rattle.vlt_core.specs.Maps.{HeldMap}
use Rattle.vlt_core.specs.KindedHeads.{has}
use Rattle.vlt_core.specs.KindedScopes.{Ids}
use Rattle.vlt_meaning.specs.World.{Owner, loose, adopted_by, out, gone, Object, Frame}
use Rattle.vlt_meaning.specs.World as world
use Rattle.vlt_sound_worlds.specs.Look.{look, IsLive}
use Rattle.vlt_sound_worlds.proofs.Look.{live_within}
use Rattle.vlt_sound_worlds.specs.Members.{In, IsOnce}
use Rattle.vlt_sound_worlds.specs.Placed.{IsOwned, IsPlaced}
use Rattle.vlt_sound_worlds.specs.Roots.{Root, in_var, in_hand, in_wait, in_cell, cell_of, content, home, owner_of}
use Rattle.vlt_sound_worlds.proofs.Members.{in_or_not}
use Rattle.vlt_sound_worlds.proofs.Placed as placed
use Rattle.vlt_sound_worlds.proofs.Placed.{one_place}
use Rattle.vlt_sound_worlds.proofs.Roots.{homes, same_root}
use Rattle.vlt_sound_worlds.specs.Keys.{KeyAgrees, IsUnder, SameUnder}
use Rattle.vlt_sound_worlds.proofs.KeysLaws.{key_kept, key_absent, under_is}
use Rattle.vlt_sound_worlds.specs.Scene.{Focus}
use Rattle.vlt_sound_worlds.specs.Agrees.{HasVar, Handed, values_of, Context, FociAgree, stock, Agrees}
use Rattle.vlt_sound_worlds.proofs.Kept.{object_kept}
use Rattle.vlt_sound_worlds.proofs.FrameOwners.{cells_stay}
use Rattle.vlt_sound_worlds.proofs.Binding.{first_or_other}
use Rattle.vlt_sound_worlds.proofs.Starting.{has_in}
use Rattle.vlt_sound_worlds.proofs.Chains.{ranked_roots}
use Rattle.vlt_sound_worlds.proofs.Changing.{agrees_changed, owned_live}
use Rattle.vlt_sound_worlds.specs.Sent.{AreSent}

in_has : (n : ℕ) (xs : List ℕ) → has xs n ≡ true → In n xs
in_has n [] e = cc
in_has n (x ∷ xs) e = ⊎_elim inl (λ rest. inr (in_has n xs rest)) (first_or_other n x xs e)

module _ {p : Program} {f : Func} {c : Context} {h h' : HeldMap} {ids : Ids} {hand : List Handed} {frame : Frame} {os os' : List Object}
    (agrees : Agrees p f c h ids hand frame os) (ks xs : List ℕ) (s : AreSent frame h h' hand ks xs os os') where
  -- ---- each object

  same : (m : ℕ) → (In m xs → ⊥) → look os' m ≡ look os m
  same m off = s.moves.others m off

  out_now : (m : ℕ) → In m xs → (look os' m).owner ≡ out
  out_now m i = ap (λ o. o.owner) (s.moves.those m i)

  types : (m : ℕ) → (look os' m).type ≡ (look os m).type
  types m = ⊎_elim (λ i. ap (λ o. o.type) (s.moves.those m i)) (λ off. ap (λ o. o.type) (same m off)) (in_or_not m xs)

  states : (m : ℕ) → (look os' m).state ≡ (look os m).state
  states m = ⊎_elim (λ i. ap (λ o. o.state) (s.moves.those m i)) (λ off. ap (λ o. o.state) (same m off)) (in_or_not m xs)

  cells : (m : ℕ) → (look os' m).cells ≡ (look os m).cells
  cells m = ⊎_elim (λ i. ap (λ o. o.cells) (s.moves.those m i)) (λ off. ap (λ o. o.cells) (same m off)) (in_or_not m xs)

  was_loose : (m : ℕ) → In m (values_of hand) → (look os m).owner ≡ loose
  was_loose m i = (agrees.placed.here in_hand m i).1

  -- what has another owner than a key of this frame or a value stays
  stays : (q : Owner) (m : ℕ) → ((k : ℕ) → world.held frame.depth k ≡ q → ⊥) → (loose ≡ q → ⊥) →
      (look os m).owner ≡ q → In m xs → ⊥
  stays q m held free is i = ⊎_elim
      (λ k. held k.key (sym k.held ∙ is))
      (λ j. free (sym (was_loose m j) ∙ is))
      (s.from m i)

  sent_live : (m : ℕ) → In m xs → IsLive (look os) m
  sent_live m i e = stays gone m (λ k e. cc) (λ e. cc) e i

  -- what has another owner than the host was so
  now_same : (q : Owner) (m : ℕ) → (out ≡ q → ⊥) → (look os' m).owner ≡ q → look os' m ≡ look os m
  now_same q m off is = same m (λ i. off (sym (out_now m i) ∙ is))

  all_long : length os' ≡ length os
  all_long = s.long

  gone_stays : (m : ℕ) → (look os m).owner ≡ gone → (look os' m).owner ≡ gone
  gone_stays m is = ap (λ o. o.owner) (same m (stays gone m (λ k e. cc) (λ e. cc) is)) ∙ is

  -- ---- keys

  out_under : (d k : ℕ) (q : Owner) → out ≡ q → IsUnder d k q → ⊥
  out_under d k q e u = subst (IsUnder d k) (sym e) u

  now_under : (d k m : ℕ) → IsUnder d k (look os' m).owner → look os' m ≡ look os m
  now_under d k m u = now_same (look os' m).owner m (λ e. out_under d k (look os' m).owner e u) refl

  under_stays : (d k : ℕ) → ((j : ℕ) → In j ks → d ≡ frame.depth → k ≡ j → ⊥) → SameUnder d k (look os) (look os')
  under_stays d k other = record {
    to = λ m u. ap (λ o. o.owner) (same m (λ i. ⊎_elim
        (λ at.
        let v : IsUnder d k (world.held frame.depth at.key) = subst (IsUnder d k) at.held u in
        other at.key at.is (sym v.0) (sym v.1))
        (λ j. subst (IsUnder d k) (was_loose m j) u)
        (s.from m i)));
    back = λ m u.
        let e = now_under d k m u in
        record { owner = ap (λ o. o.owner) e; type = ap (λ o. o.type) e; state = ap (λ o. o.state) e };
  }

  key_stays : (k : ℕ) → KeyAgrees (key_type f k) (h' (a_key k)) frame.depth k (frame.keys k) (look os')
  key_stays k = ⊎_elim
      (λ i. key_absent (s.gone k i) (λ m u.
      let kept = now_under frame.depth k m u in
      let n = s.named k i in
      let was = under_is (agrees.keys k) m (subst (λ o. IsUnder frame.depth k o.owner) kept u) in
      let is : m ≡ n.number = same_Some m n.number (sym was ∙ n.named) in
      out_under frame.depth k (look os' m).owner (sym (out_now m (subst (λ m. In m xs) (sym is) n.sent))) u))
      (λ off. key_kept (s.keys k off) refl
      (under_stays frame.depth k (λ j i e same. off (subst (λ k. In k ks) (sym same) i))) (agrees.keys k))
      (in_or_not k ks)

  -- ---- places

  placed_sent : IsPlaced (content (stock c [] frame os')) home (owner_of (look os'))
  placed_sent = placed.vanished home same_root agrees.placed (has xs) back to once
      (λ m owned. unsent m (λ i. subst IsOwned (out_now m i) owned))
      (λ m e. ap (λ o. o.owner) (same m (λ i. clash m (has_in m xs i) e)))
    where
      clash : (m : ℕ) → has xs m ≡ true → has xs m ≡ false → ⊥
      clash m t f = let e = sym t ∙ f in cc

      unsent : (m : ℕ) → (In m xs → ⊥) → has xs m ≡ false
      unsent m off = ⊎_elim (λ t. absurd (off (in_has m xs t))) (λ f. f) (cases_Bool (has xs m))

      -- what is at a place but the hand isn't sent
      elsewhere : (P : Root) (m : ℕ) → (P ≡ in_hand → ⊥) → In m (content (stock c hand frame os) P) → In m xs → ⊥
      elsewhere P m other at i = ⊎_elim
          (λ k. subst IsOwned (sym (agrees.placed.here P m at).1 ∙ k.held) (homes P))
          (λ j. other (one_place home same_root agrees.placed P in_hand m at j))
          (s.from m i)

      cell_same : (m j : ℕ) → cell_of (look os' m) j ≡ cell_of (look os m) j
      cell_same m j = ⊎_elim
          (λ i. cells_stay (look os m) (look os' m) (cells m) (sent_live m i) (λ e. out_lives (sym (out_now m i) ∙ e)) j)
          (λ off. ap (λ o. cell_of o j) (same m off))
          (in_or_not m xs)
        where
          out_lives : out ≡ gone → ⊥
          out_lives e = cc

      back : (P : Root) (m : ℕ) → In m (content (stock c [] frame os') P) →
          In m (content (stock c hand frame os) P) × (has xs m ≡ false)
      back (in_var v) m i = (i, unsent m (elsewhere (in_var v) m (λ e. cc) i))
      back in_hand m i = absurd i
      back (in_wait d v) m i = (i, unsent m (elsewhere (in_wait d v) m (λ e. cc) i))
      back (in_cell q j) m i =
          let was = subst (In m) (cell_same q j) i in
          (was, unsent m (elsewhere (in_cell q j) m (λ e. cc) was))

      to : (P : Root) (m : ℕ) → In m (content (stock c hand frame os) P) → has xs m ≡ false →
          In m (content (stock c [] frame os') P)
      to (in_var v) m i e = i
      to in_hand m i e = absurd (clash m (has_in m xs (s.emptied m i)) e)
      to (in_wait d v) m i e = i
      to (in_cell q j) m i e = subst (In m) (sym (cell_same q j)) i

      once : (P : Root) → IsOnce (content (stock c [] frame os') P)
      once (in_var v) = agrees.placed.once (in_var v)
      once in_hand = tt
      once (in_wait d v) = agrees.placed.once (in_wait d v)
      once (in_cell q j) = subst IsOnce (sym (cell_same q j)) (agrees.placed.once (in_cell q j))

  -- ---- all

  pub agrees_sent : Agrees p f c h' ids [] frame os'
  agrees_sent = agrees_changed agrees os' agrees.heads h' ids [] frame (record {
    long = λ n lt. subst (λ l. n < l) (sym all_long) lt;
    type = λ n lt. types n;
    state = λ n lt. states n;
    headed = λ n lt. refl;
    ended = λ n lt is. gone_stays n is;
    lost = λ g n is. inr (inl (ap (λ o. o.owner) (same n (stays (adopted_by g) n (λ k e. cc) (λ e. cc) is)) ∙ is));
    old = λ n owned. subst (λ l. n < l) all_long (live_within os' n (owned_live os' n owned));
    placed = placed_sent;
    ranked = ranked_roots xs out s.moves refl (λ e. cc) agrees.ranked;
    objects = λ growing keeping n live.
        let was : IsLive (look os) n = λ is. live (gone_stays n is) in
        object_kept agrees os' agrees.heads growing keeping n was refl (types n) (cells n)
        (rw (types n, states n) (agrees.objects n was).state);
    adopted = λ n g is.
        let kept = now_same (adopted_by g) n (λ e. cc) is in
        let was = agrees.adopted n g (ap (λ o. o.owner) (sym kept) ∙ is) in
        record { released = rw kept was.released; droppable = rw kept was.droppable };
    keys = key_stays;
    vars = record {
      plain = agrees.vars.plain;
      full = λ v. subst (λ a. HasVar (is_owning_var f v) a (frame.vars v)) (sym (s.vars v)) (agrees.vars.full v);
    };
    fit = agrees.fit;
    handed = tt;
    depth = refl;
    named = agrees.rest.named;
    pinned = agrees.rest.pinned;
    bounded = λ n d k u. agrees.rest.bounded n d k (subst (λ o. IsUnder d k o.owner) (now_under d k n u) u);
    focused = foci c.foci agrees.rest.focused;
    under = λ d k lt. under_stays d k (λ j i e same.
        let depth : frame.depth ≡ c.depth = agrees.rest.depth in absurd (omega arith));
  })
    where
      foci : (fs : List Focus) → FociAgree (look os) fs → FociAgree (look os') fs
      foci [] a = tt
      foci (q ∷ qs) a = (
        ap (λ o. o.owner) (same q.guard (stays (world.lent q.depth q.guard_key) q.guard (λ k e. cc) (λ e. cc) a.0)) ∙ a.0,
        foci qs a.1,
      )
