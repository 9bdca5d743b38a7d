-- What a release keeps of the fact on a running function.
use Rattle.std.proofs.Common.{◌≡◌, ◌⊎◌, inl, inr, ⊎_elim, ℕ, ◌<◌, true, false, List, [], ◌∷◌, length, None, Some, refl, sym, ap, ◌∙◌, subst}
use Rattle.std.proofs.lemmas.Bool.{cases_Bool}
use Rattle.std.proofs.lemmas.Option.{none-some, same_Some}
use Rattle.vlt_core.specs.Core.{a_key, Func, Program}
use Rattle.vlt_core.specs.Lookups.{key_type}
use Rattle.vlt_core.specs.Maps.{HeldMap}
use Rattle.vlt_core.specs.KindedScopes.{Ids}
use Rattle.vlt_meaning.specs.World.{Owner, loose, inside, adopted_by, gone, above, Object, Frame}
use Rattle.vlt_meaning.specs.World as world
use Rattle.vlt_meaning.specs.Objects.{with_owner}
use Rattle.vlt_sound_worlds.specs.Look.{look, IsLive}
use Rattle.vlt_sound_worlds.proofs.Look.{live_within}
use Rattle.vlt_sound_worlds.specs.Members.{In, IsOnce}
use Rattle.vlt_sound_worlds.specs.Placed.{IsOwned, IsPlaced}
use Rattle.vlt_sound_worlds.specs.Roots.{Root, in_var, in_hand, in_wait, in_cell, cell_of, content, home, owner_of}
use Rattle.vlt_sound_worlds.proofs.Members.{in_or_not}
use Rattle.vlt_sound_worlds.specs.Keys.{KeyAgrees, IsUnder, IsSameObject, SameUnder}
use Rattle.vlt_sound_worlds.specs.Scene.{Focus}
use Rattle.vlt_sound_worlds.specs.Agrees.{VarsAgree, Handed, values_of, FitHanded, Context, FociAgree, scene, stock, Agrees}
use Rattle.vlt_sound_worlds.proofs.Kept.{object_kept}
use Rattle.vlt_sound_worlds.proofs.FrameOwners.{cells_stay}
use Rattle.vlt_sound_worlds.specs.Moved.{MovesThese}
use Rattle.vlt_sound_worlds.proofs.Changing.{agrees_changed, owned_live}
use Rattle.vlt_sound_statements.specs.Ended.{AreEnded}

-- an owner of what may be released: it hangs on nothing, isn't lent, and is no waiting function
pub record IsEndable (c : Context) (q : Owner) : Type 0 where
  pub root : above q ≡ None
  pub unlent : (d k : ℕ) → q ≡ world.lent d k → ⊥
  pub mine : (d k : ℕ) → d < c.depth → IsUnder d k q → ⊥

-- what is under a key hangs on nothing
under_root : (d k : ℕ) (q : Owner) → IsUnder d k q → above q ≡ None
under_root d k (world.held e j) u = refl
under_root d k (world.lent e j) u = refl
under_root d k loose u = absurd u
under_root d k (inside n) u = absurd u
under_root d k (adopted_by n) u = absurd u
under_root d k world.out u = absurd u
under_root d k gone u = absurd u

pub same_then : {old new : Object} → new ≡ old → IsSameObject old new
same_then e = record { owner = ap (λ o. o.owner) e; type = ap (λ o. o.type) e; state = ap (λ o. o.state) e }

module _ {p : Program} {f : Func} {c : Context} {h : HeldMap} {ids : Ids} {hand : List Handed} {frame : Frame} {os : List Object}
    (agrees : Agrees p f c h ids hand frame os) where
  -- Objects of the first list are released, with all that is below them; before that those of the second list come out of
  -- their fields.
  pub record Ends (xs ys : List ℕ) (os1 os' : List Object) : Type 0 where
    pub moves : MovesThese ys loose (look os) (look os1)
    pub long : length os1 ≡ length os
    pub ended : AreEnded xs os1 os'
    pub out : (m : ℕ) → In m ys → (n : ℕ) × In n xs × ((look os m).owner ≡ inside n)
    pub roots : (m : ℕ) → In m xs → IsEndable c (look os m).owner

  -- what is handed over before and after
  pub record HandEnds (xs ys : List ℕ) (hand' : List Handed) : Type 0 where
    pub unplaced : (m : ℕ) → In m xs → (P : Root) → (P ≡ in_hand → ⊥) →
        In m (content (stock c hand frame os) P) → ⊥
    pub stays : (m : ℕ) → In m (values_of hand) → (In m xs → ⊥) → In m (values_of hand')
    pub from : (m : ℕ) → In m (values_of hand') → In m ys ⊎ (In m (values_of hand) × (In m xs → ⊥))
    pub comes : (m : ℕ) → In m ys → In m (values_of hand')
    pub once : IsOnce (values_of hand')
    pub handed : FitHanded p (scene c os agrees.heads) frame.keys hand'

  module _ (xs ys : List ℕ) (os1 os' : List Object) (e : Ends xs ys os1 os') where
    inside_not : (o : Owner) → ((n : ℕ) → o ≡ inside n → ⊥) → (m : ℕ) → (look os m).owner ≡ o → In m ys → ⊥
    inside_not o off m is i = let at = e.out m i in off at.0 (sym is ∙ at.2)

    clash : (m : ℕ) → e.ended.test m ≡ true → e.ended.test m ≡ false → ⊥
    clash m t f = let q = sym t ∙ f in cc

    -- ---- each object

    with_itself : (o : Object) → o ≡ with_owner o.owner o
    with_itself o = refl

    -- nothing but an owner changes
    before : (m : ℕ) → (q : Owner) × (look os1 m ≡ with_owner q (look os m))
    before m = ⊎_elim
        (λ i. (loose, e.moves.those m i))
        (λ off. ((look os m).owner, e.moves.others m off ∙ with_itself (look os m)))
        (in_or_not m ys)

    following : (m : ℕ) → (q : Owner) × (look os' m ≡ with_owner q (look os m))
    following m =
        let b = before m in
        ⊎_elim
        (λ t. (gone, e.ended.ends.those m t ∙ ap (with_owner gone) b.1))
        (λ off. (b.0, e.ended.ends.others m off ∙ b.1))
        (cases_Bool (e.ended.test m))

    pub types : (m : ℕ) → (look os' m).type ≡ (look os m).type
    types m = ap (λ o. o.type) (following m).1

    pub states : (m : ℕ) → (look os' m).state ≡ (look os m).state
    states m = ap (λ o. o.state) (following m).1

    pub cells : (m : ℕ) → (look os' m).cells ≡ (look os m).cells
    cells m = ap (λ o. o.cells) (following m).1

    pub ends_now : (m : ℕ) → e.ended.test m ≡ true → (look os' m).owner ≡ gone
    ends_now m t = ap (λ o. o.owner) (e.ended.ends.those m t)

    comes_out : (m : ℕ) → e.ended.test m ≡ false → In m ys → (look os' m).owner ≡ loose
    comes_out m off i = ap (λ o. o.owner) (e.ended.ends.others m off ∙ e.moves.those m i)

    same : (m : ℕ) → e.ended.test m ≡ false → (In m ys → ⊥) → look os' m ≡ look os m
    same m off other = e.ended.ends.others m off ∙ e.moves.others m other

    -- what hangs on nothing, and isn't released itself
    top_stays : (m : ℕ) → above (look os m).owner ≡ None → (In m xs → ⊥) → e.ended.test m ≡ false
    top_stays m root off = ⊎_elim
        (λ t.
        let u = e.ended.below.down m t off in
        absurd (⊎_elim
        (λ i. none-some u.upper (sym (ap (λ o. above o.owner) (e.moves.those m i)) ∙ u.is))
        (λ other. none-some u.upper (sym root ∙ (sym (ap (λ o. above o.owner) (e.moves.others m other)) ∙ u.is)))
        (in_or_not m ys)))
        (λ f. f)
        (cases_Bool (e.ended.test m))

    not_root : (m q : ℕ) → above (look os m).owner ≡ Some q → In m xs → ⊥
    not_root m q up i = none-some q (sym (e.roots m i).root ∙ up)

    out_stays : (m : ℕ) → In m ys → e.ended.test m ≡ false
    out_stays m i = ⊎_elim
        (λ t.
        let at = e.out m i in
        let u = e.ended.below.down m t (not_root m at.0 (ap above at.2)) in
        absurd (none-some u.upper (sym (ap (λ o. above o.owner) (e.moves.those m i)) ∙ u.is)))
        (λ f. f)
        (cases_Bool (e.ended.test m))

    up_before : (m q : ℕ) → above (look os m).owner ≡ Some q → (In m ys → ⊥) → above (look os1 m).owner ≡ Some q
    up_before m q up other = ap (λ o. above o.owner) (e.moves.others m other) ∙ up

    lower_ends : (m q : ℕ) → above (look os m).owner ≡ Some q → (In m ys → ⊥) → e.ended.test q ≡ true →
        e.ended.test m ≡ true
    lower_ends m q up other t = e.ended.below.up m q (up_before m q up other) t

    upper_ends : (m q : ℕ) → above (look os m).owner ≡ Some q → (In m ys → ⊥) → e.ended.test m ≡ true →
        e.ended.test q ≡ true
    upper_ends m q up other t =
        let u = e.ended.below.down m t (not_root m q up) in
        subst (λ q. e.ended.test q ≡ true) (same_Some u.upper q (sym u.is ∙ up_before m q up other)) u.passes

    lower_stays : (m q : ℕ) → above (look os m).owner ≡ Some q → (In m ys → ⊥) → e.ended.test q ≡ false →
        e.ended.test m ≡ false
    lower_stays m q up other off = ⊎_elim
        (λ t. absurd (clash q (upper_ends m q up other t) off))
        (λ f. f)
        (cases_Bool (e.ended.test m))

    unended : (m : ℕ) → (q : Owner) → (look os' m).owner ≡ q → (gone ≡ q → ⊥) → e.ended.test m ≡ false
    unended m q is lives = ⊎_elim
        (λ t. absurd (lives (sym (ends_now m t) ∙ is)))
        (λ f. f)
        (cases_Bool (e.ended.test m))

    -- what isn't released and didn't come out of a field
    kept_now : (m : ℕ) → (q : Owner) → (look os' m).owner ≡ q → (gone ≡ q → ⊥) → (loose ≡ q → ⊥) → look os' m ≡ look os m
    kept_now m q is lives held =
        let off = unended m q is lives in
        same m off (λ i. held (sym (comes_out m off i) ∙ is))

    gone_stays : (m : ℕ) → (look os m).owner ≡ gone → (look os' m).owner ≡ gone
    gone_stays m is = ⊎_elim
        (λ t. ends_now m t)
        (λ off. ap (λ o. o.owner) (same m off (inside_not gone (λ n e. cc) m is)) ∙ is)
        (cases_Bool (e.ended.test m))

    cell_same : (q j : ℕ) → e.ended.test q ≡ false → cell_of (look os' q) j ≡ cell_of (look os q) j
    cell_same q j off = ⊎_elim
        (λ i.
        let at = e.out q i in
        cells_stay (look os q) (look os' q) (cells q) (λ k. inside_lives at.0 (sym at.2 ∙ k)) (λ k. loose_lives (sym (comes_out q off i) ∙ k)) j)
        (λ other. ap (λ o. cell_of o j) (same q off other))
        (in_or_not q ys)
      where
        inside_lives : (n : ℕ) → inside n ≡ gone → ⊥
        inside_lives n e = cc

        loose_lives : loose ≡ gone → ⊥
        loose_lives e = cc

    -- ---- keys

    under_lives : (d k : ℕ) (o : Owner) → gone ≡ o → IsUnder d k o → ⊥
    under_lives d k o e u = subst (IsUnder d k) (sym e) u

    under_held : (d k : ℕ) (o : Owner) → loose ≡ o → IsUnder d k o → ⊥
    under_held d k o e u = subst (IsUnder d k) (sym e) u

    under_inside : (d k n : ℕ) (o : Owner) → o ≡ inside n → IsUnder d k o → ⊥
    under_inside d k n o e u = subst (IsUnder d k) e u

    pub under_kept : (d k : ℕ) → ((m : ℕ) → In m xs → IsUnder d k (look os m).owner → ⊥) →
        SameUnder d k (look os) (look os')
    under_kept d k off = record {
      to = λ m u. ap (λ o. o.owner) (same m (top_stays m (under_root d k (look os m).owner u) (λ i. off m i u))
          (λ i. let at = e.out m i in under_inside d k at.0 (look os m).owner at.2 u));
      back = λ m u. same_then
          (kept_now m (look os' m).owner refl (λ e. under_lives d k (look os' m).owner e u)
          (λ e. under_held d k (look os' m).owner e u));
    }

    -- what is under a key was so
    pub under_before : (d k m : ℕ) → IsUnder d k (look os' m).owner → IsUnder d k (look os m).owner
    under_before d k m u =
        subst (λ o. IsUnder d k o.owner)
        (kept_now m (look os' m).owner refl (λ e. under_lives d k (look os' m).owner e u)
        (λ e. under_held d k (look os' m).owner e u)) u

    -- ---- places

    module _ (hand' : List Handed) (g : HandEnds xs ys hand') where
      pick : (m : ℕ) → In m ys ⊎ (In m ys → ⊥) → Root
      pick m (inl i) = in_hand
      pick m (inr off) = agrees.placed.place m

      pick_in : (m : ℕ) → In m ys → (d : In m ys ⊎ (In m ys → ⊥)) → pick m d ≡ in_hand
      unfolding pick
      pick_in m i (inl j) = refl
      pick_in m i (inr off) = absurd (off i)

      pick_out : (m : ℕ) → (In m ys → ⊥) → (d : In m ys ⊎ (In m ys → ⊥)) → pick m d ≡ agrees.placed.place m
      unfolding pick
      pick_out m off (inl j) = absurd (off j)
      pick_out m off (inr k) = refl

      abbrev place : ℕ → Root
      place m = pick m (in_or_not m ys)

      -- a value's object that isn't released
      loose_here : (m : ℕ) (P : Root) → home P ≡ loose → (In m xs → ⊥) → In m (content (stock c hand frame os) P) →
          (place m ≡ P) × ((look os' m).owner ≡ home P)
      loose_here m P at off i =
          let was = agrees.placed.here P m i in
          let is : (look os m).owner ≡ loose = was.1 ∙ at in
          let other = inside_not loose (λ n e. cc) m is in
          let stays = top_stays m (ap above is) off in
          (pick_out m other (in_or_not m ys) ∙ was.0, ap (λ o. o.owner) (same m stays other) ∙ was.1)

      here : (P : Root) (m : ℕ) → In m (content (stock c hand' frame os') P) →
          (place m ≡ P) × ((look os' m).owner ≡ home P)
      here (in_var v) m i = loose_here m (in_var v) refl (λ x. g.unplaced m x (in_var v) (λ e. cc) i) i
      here (in_wait d v) m i = loose_here m (in_wait d v) refl (λ x. g.unplaced m x (in_wait d v) (λ e. cc) i) i
      here in_hand m i = ⊎_elim
          (λ j. (pick_in m j (in_or_not m ys), comes_out m (out_stays m j) j))
          (λ j. loose_here m in_hand refl j.1 j.0)
          (g.from m i)
      here (in_cell q j) m i = ⊎_elim
          (λ t. absurd (subst (In m) (ap (λ o. cell_of o j) (e.ended.ends.those q t)) i))
          (λ off.
          let was = agrees.placed.here (in_cell q j) m (subst (In m) (cell_same q j off) i) in
          let other = not_out q m off was.1 in
          let stays = lower_stays m q (ap above was.1) other off in
          (pick_out m other (in_or_not m ys) ∙ was.0, ap (λ o. o.owner) (same m stays other) ∙ was.1))
          (cases_Bool (e.ended.test q))
        where
          number : Owner → ℕ
          number (inside n) = n
          number o = 0

          not_out : (q m : ℕ) → e.ended.test q ≡ false → (look os m).owner ≡ inside q → In m ys → ⊥
          not_out q m off is k =
              let at = e.out m k in
              let root = e.ended.below.itself at.0 at.1 in
              clash q (subst (λ q. e.ended.test q ≡ true) (ap number (sym at.2 ∙ is)) root) off

      stays_at : (P : Root) (m : ℕ) → e.ended.test m ≡ false → (In m ys → ⊥) → home P ≡ (look os m).owner →
          In m (content (stock c hand frame os) P) → In m (content (stock c hand' frame os') P)
      stays_at (in_var v) m off other is i = i
      stays_at (in_wait d v) m off other is i = i
      stays_at in_hand m off other is i = g.stays m i (λ x. clash m (e.ended.below.itself m x) off)
      stays_at (in_cell q j) m off other is i = ⊎_elim
          (λ t. absurd (clash m (lower_ends m q (ap above (sym is)) other t) off))
          (λ stays. subst (In m) (sym (cell_same q j stays)) i)
          (cases_Bool (e.ended.test q))

      pub placed_ends : IsPlaced (content (stock c hand' frame os')) home (owner_of (look os'))
      placed_ends = record {
        place = place;
        there = λ m owned.
            let off = unended m (look os' m).owner refl (λ e. subst IsOwned (sym e) owned) in
            ⊎_elim
            (λ i. record {
              has = subst (λ P. In m (content (stock c hand' frame os') P)) (sym (pick_in m i (in_or_not m ys))) (g.comes m i);
              lies = ap home (pick_in m i (in_or_not m ys)) ∙ sym (comes_out m off i);
            })
            (λ other.
            let owners : (look os' m).owner ≡ (look os m).owner = ap (λ o. o.owner) (same m off other) in
            let t = agrees.placed.there m (subst IsOwned owners owned) in
            record {
              has =
                  subst (λ P. In m (content (stock c hand' frame os') P)) (sym (pick_out m other (in_or_not m ys)))
                  (stays_at (agrees.placed.place m) m off other t.lies t.has);
              lies = ap home (pick_out m other (in_or_not m ys)) ∙ (t.lies ∙ sym owners);
            })
            (in_or_not m ys);
        here = here;
        once = once;
      }
        where
          once : (P : Root) → IsOnce (content (stock c hand' frame os') P)
          once (in_var v) = agrees.placed.once (in_var v)
          once (in_wait d v) = agrees.placed.once (in_wait d v)
          once in_hand = g.once
          once (in_cell q j) = ⊎_elim
              (λ t. subst IsOnce (sym (ap (λ o. cell_of o j) (e.ended.ends.those q t))) tt)
              (λ off. subst IsOnce (sym (cell_same q j off)) (agrees.placed.once (in_cell q j)))
              (cases_Bool (e.ended.test q))

      -- ---- all

      pub agrees_ended : (h' : HeldMap) →
          ((k : ℕ) → KeyAgrees (key_type f k) (h' (a_key k)) frame.depth k (frame.keys k) (look os')) →
          VarsAgree f h' frame.vars → Agrees p f c h' ids hand' frame os'
      agrees_ended h' keys vars = agrees_changed agrees os' agrees.heads h' ids hand' frame (record {
        long = λ n lt. subst (λ l. n < l) (sym all_long) lt;
        type = λ n lt. types n;
        state = λ n lt. states n;
        headed = λ n lt. refl;
        ended = λ n lt is. gone_stays n is;
        lost = λ a m is.
            let other = inside_not (adopted_by a) (λ n e. cc) m is in
            ⊎_elim
            (λ t. inl (record {
              within = subst (λ l. a < l) (sym all_long) (live_within os a (agrees.ranked.linked m a (ap above is)).live);
              gone = ends_now a (upper_ends m a (ap above is) other t);
            }))
            (λ off. inr (inl (ap (λ o. o.owner) (same m off other) ∙ is)))
            (cases_Bool (e.ended.test m));
        old = λ n owned. subst (λ l. n < l) all_long (live_within os' n (owned_live os' n owned));
        placed = placed_ends;
        ranked = e.ended.ranked;
        objects = λ growing keeping n live.
            let was : IsLive (look os) n = λ is. live (gone_stays n is) in
            object_kept agrees os' agrees.heads growing keeping n was refl (types n) (cells n)
            (rw (types n, states n) (agrees.objects n was).state);
        adopted = λ n a is.
            let kept = kept_now n (adopted_by a) is (λ e. cc) (λ e. cc) in
            let was = agrees.adopted n a (ap (λ o. o.owner) (sym kept) ∙ is) in
            record { released = rw kept was.released; droppable = rw kept was.droppable };
        keys = keys;
        vars = vars;
        fit = agrees.fit;
        handed = g.handed;
        depth = refl;
        named = agrees.rest.named;
        pinned = agrees.rest.pinned;
        bounded = λ n d k u.
            let kept = kept_now n (look os' n).owner refl (λ e. under_lives d k (look os' n).owner e u)
            (λ e. under_held d k (look os' n).owner e u) in
            agrees.rest.bounded n d k (subst (λ o. IsUnder d k o.owner) kept u);
        focused = foci c.foci agrees.rest.focused;
        under = λ d k lt. under_kept d k (λ m i u. (e.roots m i).mine d k lt u);
      })
        where
          all_long : length os' ≡ length os
          all_long = e.ended.long ∙ e.long

          foci : (fs : List Focus) → FociAgree (look os) fs → FociAgree (look os') fs
          foci [] a = tt
          foci (q ∷ qs) a =
              let off = top_stays q.guard (ap above a.0) (λ i. (e.roots q.guard i).unlent q.depth q.guard_key a.0) in (
                ap (λ o. o.owner) (same q.guard off (inside_not (world.lent q.depth q.guard_key) (λ n e. cc) q.guard a.0)) ∙ a.0,
                foci qs a.1,
              )
