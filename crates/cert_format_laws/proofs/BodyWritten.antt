-- The rows of a body with its maps say that body and those maps.
use Rattle.std.proofs.Common.{◌≡◌, refl, sym, ap, ◌∙◌, ℕ, suc, ◌+◌, ◌&&◌, Bool, true, false, true≢false, ◌++◌, map, Some}
use Rattle.vlt_core.specs.Core as core
use Rattle.cert_format.specs.Places.{unplaced_form, unplaced_block, unplaced_stmts, unplaced_arms}
use Rattle.cert_format.specs.Drafts.{Drafts, arm_heads, list_rows, may_arm, is_whole_draft, is_whole_block, is_whole_list, are_whole_arms, Rest, IsTaken, IsTakenBlock, AreTaken, AreTakenArms}
use Rattle.cert_format.specs.Notes.{MapNotes}
use Rattle.cert_format.specs.Bodies.{length_of, draft_of, block_draft, list_draft, arms_draft, count, count_block, form_of, core_block, core_list, core_arms, list_notes, may_have_arms, IsWithin, IsWithinBlock, AreWithin, AreWithinArms}
use Rattle.cert_format_laws.specs.Bodies.{IsReadBack}
use Rattle.cert_format_laws.proofs.BodyRead.{one_thing}

module _ (a : MapNotes) where
  -- the statements are those, without places
  mutual
    same : (n : ℕ) (s : core.Form) → form_of (draft_of a n s) ≡ unplaced_form s
    same n (core.simple s) = refl
    same n (core.call f target keys args) = refl
    same n (core.choose e x y) = rw (same_block (n + 1) x, same_block (n + 1 + count_block x) y) refl
    same n (core.loop e x) = rw (same_block (n + 1) x) refl
    same n (core.switch v arms end) = rw (same_arms (n + 1) arms) refl
    same n (core.focus y z x) = rw (same_block (n + 1) x) refl
    same n (core.scope x) = rw (same_block (n + 1) x) refl
    same n (core.return o) = refl
    same n (core.jump c) = refl

    same_block : (n : ℕ) (b : core.Block) → core_block (block_draft a n b) ≡ unplaced_block b
    same_block n (core.block ss bound end) = rw (same_list n ss) refl

    pub same_list : (n : ℕ) (ss : core.Stmts) → core_list (list_draft a n ss) ≡ unplaced_stmts ss
    same_list n core.done = refl
    same_list n (core.next at s rest) = rw (same n s, same_list (n + count s) rest) refl

    same_arms : (n : ℕ) (arms : core.Arms) → core_arms (arms_draft a n arms) ≡ unplaced_arms arms
    same_arms n core.no_arms = refl
    same_arms n (core.arm c vs b rest) = rw (same_block n b, same_arms (n + count_block b) rest) refl

  both : (x y : Bool) → x ≡ true → y ≡ true → (x && y) ≡ true
  both x y p q = ap (λ b. b && y) p ∙ q

  mutual
    all_whole : (n : ℕ) (s : core.Form) → is_whole_draft (draft_of a n s) ≡ true
    all_whole n (core.simple s) = refl
    all_whole n (core.call f target keys args) = refl
    all_whole n (core.choose e x y) = both _ _ (block_whole (n + 1) x) (block_whole (n + 1 + count_block x) y)
    all_whole n (core.loop e x) = block_whole (n + 1) x
    all_whole n (core.switch v arms end) = arms_whole (n + 1) arms
    all_whole n (core.focus y z x) = block_whole (n + 1) x
    all_whole n (core.scope x) = block_whole (n + 1) x
    all_whole n (core.return o) = refl
    all_whole n (core.jump c) = refl

    block_whole : (n : ℕ) (b : core.Block) → is_whole_block (block_draft a n b) ≡ true
    block_whole n (core.block ss bound end) = list_whole n ss

    pub list_whole : (n : ℕ) (ss : core.Stmts) → is_whole_list (length_of ss) (list_draft a n ss) ≡ true
    list_whole n core.done = refl
    list_whole n (core.next at s rest) = both _ _ (all_whole n s) (list_whole (n + count s) rest)

    arms_whole : (n : ℕ) (arms : core.Arms) → are_whole_arms (arms_draft a n arms) ≡ true
    arms_whole n core.no_arms = refl
    arms_whole n (core.arm c vs b rest) = both _ _ (block_whole n b) (arms_whole (n + count_block b) rest)

  never : {X : Type 0} (b : Bool) → b ≡ true → b ≡ false → X
  never b p q = absurd (true≢false (sym p ∙ q))

  arms_stand : (deep n : ℕ) (arms : core.Arms) → may_arm deep (arm_heads (arms_draft a n arms)) ≡ may_have_arms deep arms
  arms_stand deep n core.no_arms = refl
  arms_stand deep n (core.arm c vs (core.block ss bound end) rest) = refl

  mutual
    takes : (n deep : ℕ) (s : core.Form) (more : Rest) → IsWithin deep s → IsTaken deep (draft_of a n s) more
    takes n deep (core.simple s) more w = refl
    takes n deep (core.call f target keys args) more w = refl
    takes n deep (core.choose e x y) more w = (
      w.0,
      block_takes (n + 1) (suc deep) x _ w.1,
      (λ p. block_takes (n + 1 + count_block x) (suc deep) y more w.2),
      never _ (block_whole (n + 1) x),
    )
    takes n deep (core.loop e x) more w = (w.0, block_takes (n + 1) (suc deep) x more w.1)
    takes n deep (core.switch v arms end) more w = (arms_stand deep (n + 1) arms ∙ w.0, arms_take (n + 1) (suc deep) arms more w.1)
    takes n deep (core.focus y z x) more w = (w.0, block_takes (n + 1) (suc deep) x more w.1)
    takes n deep (core.scope x) more w = (w.0, block_takes (n + 1) (suc deep) x more w.1)
    takes n deep (core.return o) more w = refl
    takes n deep (core.jump c) more w = refl

    block_takes : (n deep : ℕ) (b : core.Block) (more : Rest) → IsWithinBlock deep b → IsTakenBlock deep (block_draft a n b) more
    block_takes n deep (core.block ss bound end) more w = list_takes n deep ss more w

    pub list_takes : (n deep : ℕ) (ss : core.Stmts) (more : Rest) → AreWithin deep ss → AreTaken deep (length_of ss) (list_draft a n ss) more
    list_takes n deep core.done more w = tt
    list_takes n deep (core.next at s rest) more w =
        (takes n deep s _ w.0, (λ p. list_takes (n + count s) deep rest more w.1), never _ (all_whole n s))

    arms_take : (n deep : ℕ) (arms : core.Arms) (more : Rest) → AreWithinArms deep arms → AreTakenArms deep (arms_draft a n arms) more
    arms_take n deep core.no_arms more w = tt
    arms_take n deep (core.arm c vs b rest) more w =
        (block_takes n deep b _ w.0, (λ p. arms_take (n + count_block b) deep rest more w.1), never _ (block_whole n b))

pub read_back : (a : MapNotes) (ss : core.Stmts) (x : Drafts) (more rest : Rest) → AreWithin 1 ss → AreTaken 1 (length_of ss) x rest →
    map Some (list_rows (list_draft a 0 ss)) ++ more ≡ map Some (list_rows x) ++ rest → IsReadBack a ss x more rest
read_back a ss x more rest within taken same_rows =
    let e = one_thing 1 (length_of ss) (list_draft a 0 ss) x more rest (list_takes a 0 1 ss more within) taken same_rows in
    record { body = ap core_list (sym e.0) ∙ same_list a 0 ss; notes = ap (list_notes 0) (sym e.0); following = sym e.1 }
