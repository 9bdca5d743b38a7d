-- Whole statements with maps in the right places are those of the statements and notes that they give.
use Rattle.std.proofs.Common.{◌≡◌, ◌+◌, refl, sym, ap, ◌∙◌, ℕ, zero, suc, ◌&&◌, Bool, true, false, true≢false, if◌then◌else◌, ◌++◌, Option, Some, None}
use Rattle.vlt_core.specs.Core as core
use Rattle.vlt_core.specs.KindedBodies.{ends, block_ends, list_ends, arms_end}
use Rattle.cert_format.specs.Places.{unplaced_form, unplaced_block, unplaced_stmts, unplaced_arms}
use Rattle.cert_rows.specs.Parts.{All}
use Rattle.cert_rows.specs.Rows.{Maps, Row}
use Rattle.cert_rows.specs.Rows as row
use Rattle.cert_format.specs.Drafts.{Draft, plain, choose, loop, switch, focus, scope, Block, block, Drafts, done, next, Arms, no_arms, arm, arm_heads, may_arm, is_whole_draft, is_whole_block, is_whole_list, are_whole_arms, Rest, is_plain, IsTaken, IsTakenBlock, AreTaken, AreTakenArms}
use Rattle.cert_format.specs.Notes.{MapNotes, join_of, Note, at_loop, at_join, join_note}
use Rattle.cert_format.specs.Bodies.{length_of, draft_of, block_draft, list_draft, arms_draft, count, count_block, count_list, count_arms, plain_form, form_of, core_block, core_list, core_arms, notes_of, block_notes, list_notes, arms_notes, size, size_block, size_list, size_arms, may_have_arms, IsWithin, IsWithinBlock, AreWithin, AreWithinArms}
use Rattle.cert_format.specs.Endings.{Ending, sure, never, both, row_ending, ending, block_ending, list_ending, arms_ending, agrees, or_else, wrong_draft, wrong_block, wrong_list, wrong_arms}
use Rattle.cert_format_laws.proofs.Decoding.{all_left, all_right}

no : {X : Type 0} → false ≡ true → X
no e = absurd (true≢false (sym e))

pub both_so : (a b : Bool) → (a && b) ≡ true → (a ≡ true) × (b ≡ true)
both_so true b e = (refl, e)
both_so false b e = no e

-- ---- sizes

form_one : (r : Row) → count (plain_form r) ≡ 1
form_one (row.simple s) = refl
form_one (row.call f target keys args) = refl
form_one (row.return o) = refl
form_one (row.jump c) = refl
form_one r = refl

mutual
  sizes : (x : Draft) → count (form_of x) ≡ size x
  sizes (plain r) = form_one r
  sizes (choose e a b m) = rw (block_sizes a, block_sizes b) refl
  sizes (loop e a m k) = rw (block_sizes a) refl
  sizes (switch v arms m) = rw (arms_sizes arms) refl
  sizes (focus y z a) = rw (block_sizes a) refl
  sizes (scope a) = rw (block_sizes a) refl

  block_sizes : (b : Block) → count_block (core_block b) ≡ size_block b
  block_sizes (block n bound ss) = list_sizes ss

  list_sizes : (ss : Drafts) → count_list (core_list ss) ≡ size_list ss
  list_sizes done = refl
  list_sizes (next f rest) = rw (sizes f, list_sizes rest) refl

  arms_sizes : (arms : Arms) → count_arms (core_arms arms) ≡ size_arms arms
  arms_sizes no_arms = refl
  arms_sizes (arm c vs b rest) = rw (block_sizes b, arms_sizes rest) refl

pub lengths_same : (n : ℕ) (ss : Drafts) → is_whole_list n ss ≡ true → length_of (core_list ss) ≡ n
lengths_same zero done w = refl
lengths_same (suc n) done w = no w
lengths_same zero (next f rest) w = no w
lengths_same (suc n) (next f rest) w = ap (λ k. suc k) (lengths_same n rest (both_so (is_whole_draft f) (is_whole_list n rest) w).1)

-- ---- whether whole statements end is known

abbrev ended : Bool → Ending
ended true = sure
ended false = never

both_ended : (a b : Bool) → both (ended a) (ended b) ≡ ended (a && b)
both_ended true b = refl
both_ended false b = refl

two_ended : (x y : Ending) (a b : Bool) → x ≡ ended a → y ≡ ended b → both x y ≡ ended (a && b)
two_ended x y a b p q = ap (λ z. both z y) p ∙ ap (both (ended a)) q ∙ both_ended a b

plain_ended : (r : Row) → is_plain r ≡ true → row_ending r ≡ ended (ends (plain_form r))
plain_ended (row.simple s) is = refl
plain_ended (row.call f target keys args) is = refl
plain_ended (row.return o) is = refl
plain_ended (row.jump c) is = refl
plain_ended r is = no is

mutual
  knows : (deep : ℕ) (x : Draft) (more : Rest) → is_whole_draft x ≡ true → IsTaken deep x more → ending x ≡ ended (ends (form_of x))
  knows deep (plain r) more w t = plain_ended r t
  knows deep (choose e a b m) more w t =
      let q = both_so (is_whole_block a) (is_whole_block b) w in
      two_ended (block_ending a) (block_ending b) (block_ends (core_block a)) (block_ends (core_block b))
      (block_knows (suc deep) a _ q.0 t.1) (block_knows (suc deep) b more q.1 (t.2 q.0))
  knows deep (loop e a m k) more w t = refl
  knows deep (switch v arms m) more w t = arms_know (suc deep) arms more w t.1
  knows deep (focus y z a) more w t = refl
  knows deep (scope a) more w t = block_knows (suc deep) a more w t.1

  block_knows : (deep : ℕ) (b : Block) (more : Rest) → is_whole_block b ≡ true → IsTakenBlock deep b more →
      block_ending b ≡ ended (block_ends (core_block b))
  block_knows deep (block n bound ss) more w t = list_knows deep n ss never false more refl w t

  list_knows : (deep n : ℕ) (ss : Drafts) (last : Ending) (before : Bool) (more : Rest) → last ≡ ended before →
      is_whole_list n ss ≡ true → AreTaken deep n ss more →
      list_ending n last ss ≡ ended (list_ends before (core_list ss))
  list_knows deep zero done last before more is w t = is
  list_knows deep (suc n) done last before more is w t = no w
  list_knows deep zero (next f rest) last before more is w t = no w
  list_knows deep (suc n) (next f rest) last before more is w t =
      let q = both_so (is_whole_draft f) (is_whole_list n rest) w in
      list_knows deep n rest (ending f) (ends (form_of f)) more (knows deep f _ q.0 t.0) q.1 (t.1 q.0)

  arms_know : (deep : ℕ) (arms : Arms) (more : Rest) → are_whole_arms arms ≡ true → AreTakenArms deep arms more →
      arms_ending arms ≡ ended (arms_end (core_arms arms))
  arms_know deep no_arms more w t = refl
  arms_know deep (arm c vs b rest) more w t =
      let q = both_so (is_whole_block b) (are_whole_arms rest) w in
      two_ended (block_ending b) (arms_ending rest) (block_ends (core_block b)) (arms_end (core_arms rest))
      (block_knows deep b _ q.0 t.0) (arms_know deep rest more q.1 (t.1 q.0))

-- ---- maps that notes give

abbrev pub Says : MapNotes → Note → Type 0
Says a (at_loop n m k) = (a.around n ≡ m) × (a.following n ≡ k)
Says a (at_join n m) = a.following n ≡ m

-- 0 stands where the statement ends, else the maps of its note
join_back : (a : MapNotes) (n : ℕ) (e : Bool) (k : Ending) (m : Option Maps) → k ≡ ended e → agrees k m ≡ true →
    All (Says a) (join_note n m) → join_of e (a.following n) ≡ m
join_back a n true k None is so h = refl
join_back a n true k (Some m) is so h = no (sym (ap (λ x. agrees x (Some m)) is) ∙ so)
join_back a n false k None is so h = no (sym (ap (λ x. agrees x None) is) ∙ so)
join_back a n false k (Some m) is so h = ap Some h.0

pub first_none : (x y : Option ℕ) → or_else x y ≡ None → (x ≡ None) × (y ≡ None)
first_none None y e = (refl, e)
first_none (Some a) y e = absurd (some_there a e)
  where
    some_there : (a : ℕ) → Some a ≡ None → ⊥
    some_there a e = cc

agreed : (b : Bool) (x : Option ℕ) (at : ℕ) → (if b then x else Some at) ≡ None → (b ≡ true) × (x ≡ None)
agreed true x at e = (refl, e)
agreed false x at e = absurd (some_there at e)
  where
    some_there : (a : ℕ) → Some a ≡ None → ⊥
    some_there a e = cc

plain_back : (a : MapNotes) (n : ℕ) (r : Row) → is_plain r ≡ true → draft_of a n (plain_form r) ≡ plain r
plain_back a n (row.simple s) is = refl
plain_back a n (row.call f target keys args) is = refl
plain_back a n (row.return o) is = refl
plain_back a n (row.jump c) is = refl
plain_back a n r is = no is

module _ (a : MapNotes) where
  mutual
    redrafted : (n at deep : ℕ) (x : Draft) (more : Rest) → is_whole_draft x ≡ true → IsTaken deep x more →
        wrong_draft at x ≡ None → All (Says a) (notes_of n x) → draft_of a n (form_of x) ≡ x
    redrafted n at deep (plain r) more w t r0 h = plain_back a n r t
    redrafted n at deep (choose e x y m) more w t r0 h =
        let q = both_so (is_whole_block x) (is_whole_block y) w in
        let ok = agreed (agrees (both (block_ending x) (block_ending y)) m)
        (or_else (wrong_block (at + 1) x) (wrong_block (at + 1 + size_block x) y)) at r0 in
        let parts = first_none (wrong_block (at + 1) x) (wrong_block (at + 1 + size_block x) y) ok.1 in
        let following = all_right (Says a) (join_note n m) (block_notes (n + 1) x ++ block_notes (n + 1 + size_block x) y) h in
        ap (λ b. choose e b (block_draft a (n + 1 + count_block (core_block x)) (core_block y))
        (join_of (ends (form_of (choose e x y m))) (a.following n)))
        (block_redrafted (n + 1) (at + 1) (suc deep) x _ q.0 t.1 parts.0
        (all_left (Says a) (block_notes (n + 1) x) (block_notes (n + 1 + size_block x) y) following))
        ∙ ap (λ k. choose e x (block_draft a (n + 1 + k) (core_block y)) (join_of (ends (form_of (choose e x y m))) (a.following n))) (block_sizes x)
        ∙ ap (λ b. choose e x b (join_of (ends (form_of (choose e x y m))) (a.following n)))
        (block_redrafted (n + 1 + size_block x) (at + 1 + size_block x) (suc deep) y more q.1 (t.2 q.0) parts.1
        (all_right (Says a) (block_notes (n + 1) x) (block_notes (n + 1 + size_block x) y) following))
        ∙ ap (choose e x y) (join_back a n (ends (form_of (choose e x y m))) (ending (choose e x y m)) m
        (knows deep (choose e x y m) more w t) ok.0
        (all_left (Says a) (join_note n m) (block_notes (n + 1) x ++ block_notes (n + 1 + size_block x) y) h))
    redrafted n at deep (loop e x m k) more w t r0 h =
        ap (λ b. loop e b (a.around n) (a.following n)) (block_redrafted (n + 1) (at + 1) (suc deep) x more w t.1 r0 h.1)
        ∙ ap (λ z. loop e x z (a.following n)) h.0.0 ∙ ap (loop e x m) h.0.1
    redrafted n at deep (switch v arms m) more w t r0 h =
        let ok = agreed (agrees (arms_ending arms) m) (wrong_arms (at + 1) arms) at r0 in
        ap (λ b. switch v b (join_of (ends (form_of (switch v arms m))) (a.following n)))
        (arms_redrafted (n + 1) (at + 1) (suc deep) arms more w t.1 ok.1 (all_right (Says a) (join_note n m) (arms_notes (n + 1) arms) h))
        ∙ ap (switch v arms) (join_back a n (ends (form_of (switch v arms m))) (ending (switch v arms m)) m
        (knows deep (switch v arms m) more w t) ok.0 (all_left (Says a) (join_note n m) (arms_notes (n + 1) arms) h))
    redrafted n at deep (focus y z x) more w t r0 h = ap (focus y z) (block_redrafted (n + 1) (at + 1) (suc deep) x more w t.1 r0 h)
    redrafted n at deep (scope x) more w t r0 h = ap scope (block_redrafted (n + 1) (at + 1) (suc deep) x more w t.1 r0 h)

    block_redrafted : (n at deep : ℕ) (b : Block) (more : Rest) → is_whole_block b ≡ true → IsTakenBlock deep b more →
        wrong_block at b ≡ None → All (Says a) (block_notes n b) → block_draft a n (core_block b) ≡ b
    block_redrafted n at deep (block c bound ss) more w t r0 h =
        ap (λ k. block k bound (list_draft a n (core_list ss))) (lengths_same c ss w) ∙
        ap (block c bound) (list_redrafted n at deep c ss more w t r0 h)

    pub list_redrafted : (n at deep c : ℕ) (ss : Drafts) (more : Rest) → is_whole_list c ss ≡ true → AreTaken deep c ss more →
        wrong_list at ss ≡ None → All (Says a) (list_notes n ss) → list_draft a n (core_list ss) ≡ ss
    list_redrafted n at deep zero done more w t r0 h = refl
    list_redrafted n at deep (suc c) done more w t r0 h = no w
    list_redrafted n at deep zero (next f rest) more w t r0 h = no w
    list_redrafted n at deep (suc c) (next f rest) more w t r0 h =
        let q = both_so (is_whole_draft f) (is_whole_list c rest) w in
        let parts = first_none (wrong_draft at f) (wrong_list (at + size f) rest) r0 in
        ap (λ x. next x (list_draft a (n + count (form_of f)) (core_list rest)))
        (redrafted n at deep f _ q.0 t.0 parts.0 (all_left (Says a) (notes_of n f) (list_notes (n + size f) rest) h))
        ∙ ap (λ k. next f (list_draft a (n + k) (core_list rest))) (sizes f)
        ∙ ap (next f) (list_redrafted (n + size f) (at + size f) deep c rest more q.1 (t.1 q.0) parts.1
        (all_right (Says a) (notes_of n f) (list_notes (n + size f) rest) h))

    arms_redrafted : (n at deep : ℕ) (arms : Arms) (more : Rest) → are_whole_arms arms ≡ true → AreTakenArms deep arms more →
        wrong_arms at arms ≡ None → All (Says a) (arms_notes n arms) → arms_draft a n (core_arms arms) ≡ arms
    arms_redrafted n at deep no_arms more w t r0 h = refl
    arms_redrafted n at deep (arm c vs b rest) more w t r0 h =
        let q = both_so (is_whole_block b) (are_whole_arms rest) w in
        let parts = first_none (wrong_block at b) (wrong_arms (at + size_block b) rest) r0 in
        ap (λ x. arm c vs x (arms_draft a (n + count_block (core_block b)) (core_arms rest)))
        (block_redrafted n at deep b _ q.0 t.0 parts.0
        (all_left (Says a) (block_notes n b) (arms_notes (n + size_block b) rest) h))
        ∙ ap (λ k. arm c vs b (arms_draft a (n + k) (core_arms rest))) (block_sizes b)
        ∙ ap (arm c vs b) (arms_redrafted (n + size_block b) (at + size_block b) deep rest more q.1 (t.1 q.0) parts.1
        (all_right (Says a) (block_notes n b) (arms_notes (n + size_block b) rest) h))

-- ---- whole statements keep the depth, and have no places

plain_within : (deep : ℕ) (r : Row) → IsWithin deep (plain_form r)
plain_within deep (row.simple s) = tt
plain_within deep (row.call f target keys args) = tt
plain_within deep (row.return o) = tt
plain_within deep (row.jump c) = tt
plain_within deep r = tt

arms_open : (deep : ℕ) (arms : Arms) → may_have_arms deep (core_arms arms) ≡ may_arm deep (arm_heads arms)
arms_open deep no_arms = refl
arms_open deep (arm c vs (block n bound ss) rest) = refl

mutual
  within : (deep : ℕ) (x : Draft) (more : Rest) → is_whole_draft x ≡ true → IsTaken deep x more → IsWithin deep (form_of x)
  within deep (plain r) more w t = plain_within deep r
  within deep (choose e a b m) more w t =
      let q = both_so (is_whole_block a) (is_whole_block b) w in
      (t.0, block_within (suc deep) a _ q.0 t.1, block_within (suc deep) b more q.1 (t.2 q.0))
  within deep (loop e a m k) more w t = (t.0, block_within (suc deep) a more w t.1)
  within deep (switch v arms m) more w t = (arms_open deep arms ∙ t.0, arms_within (suc deep) arms more w t.1)
  within deep (focus y z a) more w t = (t.0, block_within (suc deep) a more w t.1)
  within deep (scope a) more w t = (t.0, block_within (suc deep) a more w t.1)

  block_within : (deep : ℕ) (b : Block) (more : Rest) → is_whole_block b ≡ true → IsTakenBlock deep b more → IsWithinBlock deep (core_block b)
  block_within deep (block n bound ss) more w t = list_within deep n ss more w t

  pub list_within : (deep n : ℕ) (ss : Drafts) (more : Rest) → is_whole_list n ss ≡ true → AreTaken deep n ss more → AreWithin deep (core_list ss)
  list_within deep zero done more w t = tt
  list_within deep (suc n) done more w t = no w
  list_within deep zero (next f rest) more w t = no w
  list_within deep (suc n) (next f rest) more w t =
      let q = both_so (is_whole_draft f) (is_whole_list n rest) w in (within deep f _ q.0 t.0, list_within deep n rest more q.1 (t.1 q.0))

  arms_within : (deep : ℕ) (arms : Arms) (more : Rest) → are_whole_arms arms ≡ true → AreTakenArms deep arms more →
      AreWithinArms deep (core_arms arms)
  arms_within deep no_arms more w t = tt
  arms_within deep (arm c vs b rest) more w t =
      let q = both_so (is_whole_block b) (are_whole_arms rest) w in (block_within deep b _ q.0 t.0, arms_within deep rest more q.1 (t.1 q.0))

plain_bare : (r : Row) → unplaced_form (plain_form r) ≡ plain_form r
plain_bare (row.simple s) = refl
plain_bare (row.call f target keys args) = refl
plain_bare (row.return o) = refl
plain_bare (row.jump c) = refl
plain_bare r = refl

mutual
  bare : (x : Draft) → unplaced_form (form_of x) ≡ form_of x
  bare (plain r) = plain_bare r
  bare (choose e a b m) = rw (block_bare a, block_bare b) refl
  bare (loop e a m k) = rw (block_bare a) refl
  bare (switch v arms m) = rw (arms_bare arms) refl
  bare (focus y z a) = rw (block_bare a) refl
  bare (scope a) = rw (block_bare a) refl

  block_bare : (b : Block) → unplaced_block (core_block b) ≡ core_block b
  block_bare (block n bound ss) = rw (list_bare ss) refl

  pub list_bare : (ss : Drafts) → unplaced_stmts (core_list ss) ≡ core_list ss
  list_bare done = refl
  list_bare (next f rest) = rw (bare f, list_bare rest) refl

  arms_bare : (arms : Arms) → unplaced_arms (core_arms arms) ≡ core_arms arms
  arms_bare no_arms = refl
  arms_bare (arm c vs b rest) = rw (block_bare b, arms_bare rest) refl

-- ---- statements with their maps have 0 just where they end

agrees_so : (e : Bool) (m : Maps) (k : Ending) → k ≡ ended e → agrees k (join_of e m) ≡ true
agrees_so true m k is = ap (λ x. agrees x None) is
agrees_so false m k is = ap (λ x. agrees x (Some m)) is

none_else : (b : Bool) (x : Option ℕ) (at : ℕ) → b ≡ true → x ≡ None → (if b then x else Some at) ≡ None
none_else b x at e n = ap (λ c. if c then x else Some at) e ∙ n

pub neither : (x y : Option ℕ) → x ≡ None → y ≡ None → or_else x y ≡ None
neither x y p q = ap (λ z. or_else z y) p ∙ q

module _ (a : MapNotes) where
  mutual
    drafted_known : (n : ℕ) (s : core.Form) → ending (draft_of a n s) ≡ ended (ends s)
    drafted_known n (core.simple s) = refl
    drafted_known n (core.call f target keys args) = refl
    drafted_known n (core.choose e x y) =
        two_ended (block_ending (block_draft a (n + 1) x)) (block_ending (block_draft a (n + 1 + count_block x) y)) (block_ends x)
        (block_ends y) (known_drafted (n + 1) x) (known_drafted (n + 1 + count_block x) y)
    drafted_known n (core.loop e x) = refl
    drafted_known n (core.switch v arms end) = arms_known (n + 1) arms
    drafted_known n (core.focus y z x) = refl
    drafted_known n (core.scope x) = known_drafted (n + 1) x
    drafted_known n (core.return o) = refl
    drafted_known n (core.jump c) = refl

    known_drafted : (n : ℕ) (b : core.Block) → block_ending (block_draft a n b) ≡ ended (block_ends b)
    known_drafted n (core.block ss bound end) = list_known n ss never false refl

    list_known : (n : ℕ) (ss : core.Stmts) (last : Ending) (before : Bool) → last ≡ ended before →
        list_ending (length_of ss) last (list_draft a n ss) ≡ ended (list_ends before ss)
    list_known n core.done last before is = is
    list_known n (core.next at s rest) last before is = list_known (n + count s) rest (ending (draft_of a n s)) (ends s) (drafted_known n s)

    arms_known : (n : ℕ) (arms : core.Arms) → arms_ending (arms_draft a n arms) ≡ ended (arms_end arms)
    arms_known n core.no_arms = refl
    arms_known n (core.arm c vs b rest) =
        two_ended (block_ending (block_draft a n b)) (arms_ending (arms_draft a (n + count_block b) rest)) (block_ends b)
        (arms_end rest) (known_drafted n b) (arms_known (n + count_block b) rest)

  mutual
    right : (n at : ℕ) (s : core.Form) → wrong_draft at (draft_of a n s) ≡ None
    right n at (core.simple s) = refl
    right n at (core.call f target keys args) = refl
    right n at (core.choose e x y) =
        none_else (agrees (ending (draft_of a n (core.choose e x y))) (join_of (ends (core.choose e x y)) (a.following n))) _ at
        (agrees_so (ends (core.choose e x y)) (a.following n) (ending (draft_of a n (core.choose e x y))) (drafted_known n (core.choose e x y)))
        (neither _ _ (block_right (n + 1) (at + 1) x) (block_right (n + 1 + count_block x) (at + 1 + size_block (block_draft a (n + 1) x)) y))
    right n at (core.loop e x) = block_right (n + 1) (at + 1) x
    right n at (core.switch v arms end) =
        none_else (agrees (ending (draft_of a n (core.switch v arms end))) (join_of (ends (core.switch v arms end)) (a.following n))) _ at
        (agrees_so (ends (core.switch v arms end)) (a.following n) (ending (draft_of a n (core.switch v arms end)))
        (drafted_known n (core.switch v arms end)))
        (arms_right (n + 1) (at + 1) arms)
    right n at (core.focus y z x) = block_right (n + 1) (at + 1) x
    right n at (core.scope x) = block_right (n + 1) (at + 1) x
    right n at (core.return o) = refl
    right n at (core.jump c) = refl

    block_right : (n at : ℕ) (b : core.Block) → wrong_block at (block_draft a n b) ≡ None
    block_right n at (core.block ss bound end) = list_right n at ss

    pub list_right : (n at : ℕ) (ss : core.Stmts) → wrong_list at (list_draft a n ss) ≡ None
    list_right n at core.done = refl
    list_right n at (core.next p s rest) = neither _ _ (right n at s) (list_right (n + count s) (at + size (draft_of a n s)) rest)

    arms_right : (n at : ℕ) (arms : core.Arms) → wrong_arms at (arms_draft a n arms) ≡ None
    arms_right n at core.no_arms = refl
    arms_right n at (core.arm c vs b rest) =
        neither _ _ (block_right n at b) (arms_right (n + count_block b) (at + size_block (block_draft a n b)) rest)
