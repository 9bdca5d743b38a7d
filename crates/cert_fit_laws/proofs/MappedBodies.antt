-- Notes of just the statements that have one are those of the rows.
use Rattle.std.proofs.Common.{◌≡◌, ◌+◌, ℕ, Bool, true, false, if◌then◌else◌, List, [], ◌++◌, map, Option, Some, None, slice_get, refl, sym, ap, ◌∙◌, subst}
use Rattle.vlt_core.specs.Core as core
use Rattle.vlt_core.specs.Core.{Func, Program}
use Rattle.vlt_core.specs.KindedBodies.{ends, first_ids, stmts_rows}
use Rattle.vlt_core_laws.specs.Unbroken.{EachEmpty}
use Rattle.vlt_core.specs.Bodies.{body_flow}
use Rattle.vlt_core.specs.Instances.{instance}
use Rattle.vlt_core.specs.Least.{noted_block}
use Rattle.vlt_core_laws.proofs.Headed.{kinded_parts, function_empty}
use Rattle.vlt_core_laws.proofs.Instanced.{body_rows_same}
use Rattle.cert_rows.specs.Parts.{All, is_number, zero_or}
use Rattle.cert_rows.specs.Values.{maps_part}
use Rattle.cert_rows.specs.Rows.{Maps}
use Rattle.cert_format.specs.Notes.{MapNotes, join_of, join_note, maps_of, Note}
use Rattle.cert_format.specs.Bodies.{count, count_block, count_list, draft_of, block_draft, list_draft, arms_draft, size, size_block, notes_of, block_notes, list_notes, arms_notes}
use Rattle.cert_format.specs.Certificate.{body_draft}
use Rattle.cert_format.specs.Bounds.{instances}
use Rattle.cert_format_laws.proofs.Decoding.{all_left, all_right}
use Rattle.vlt_core.specs.Kinded.{IsKinded}
use Rattle.vlt_core_laws.specs.Arms.{HasArmsStmts}
use Rattle.cert_fit_laws.proofs.Mapped.{HasMaps, BlockHasMaps, HaveMaps, ArmsHaveMaps, HasNotes}
use Rattle.cert_fit_laws.specs.Complete.{named_by, FitsNote, IsComplete}
use Rattle.cert_fit_laws.proofs.Sizes.{draft_size, draft_size_block}
use Rattle.cert_fit_laws.proofs.Named.{list_noted, same_list, read, read_list, climb_list, Climbs}
use Rattle.cert_fit_laws.proofs.ReadNotes.{reads_back}

-- maps are no number
no_number : (i : Option ℕ) (m : Maps) → is_number ((maps_part i).data_of m) ≡ false
no_number None m = refl
no_number (Some n) m = refl

module _ (i : Option ℕ) (a : MapNotes) where
  -- the maps of a choice
  join_fits : (n : ℕ) (b : Bool) → All (FitsNote i) (join_note n (join_of b (a.following n))) → (zero_or (maps_part i)).Fits (join_of b (a.following n))
  join_fits n true e = tt
  join_fits n false e = (e.0, no_number i (a.following n))

  mutual
    form_maps : (n : ℕ) (s : core.Form) → All (FitsNote i) (notes_of n (draft_of a n s)) → HasMaps i a n s
    form_maps n (core.simple s) e = tt
    form_maps n (core.call g target keys args) e = tt
    form_maps n (core.choose x c d) e =
        let own = join_note n (join_of (ends (core.choose x c d)) (a.following n)) in
        let one = block_notes (n + 1) (block_draft a (n + 1) c) in
        let two = block_notes (n + 1 + size_block (block_draft a (n + 1) c)) (block_draft a (n + 1 + count_block c) d) in
        let more = all_right (FitsNote i) own (one ++ two) e in (
          join_fits n (ends (core.choose x c d)) (all_left (FitsNote i) own (one ++ two) e),
          block_maps (n + 1) c (all_left (FitsNote i) one two more),
          block_maps (n + 1 + count_block c) d (subst (λ m. All (FitsNote i) (block_notes (n + 1 + m) (block_draft a (n + 1 + count_block c) d))) (draft_size_block a c (n + 1)) (all_right (FitsNote i) one two more)),
        )
    form_maps n (core.loop x c) e = (e.0.0, e.0.1, block_maps (n + 1) c e.1)
    form_maps n (core.switch v arms end) e =
        let own = join_note n (join_of (ends (core.switch v arms end)) (a.following n)) in
        let more = arms_notes (n + 1) (arms_draft a (n + 1) arms) in
        (join_fits n (ends (core.switch v arms end)) (all_left (FitsNote i) own more e), arms_maps (n + 1) arms (all_right (FitsNote i) own more e))
    form_maps n (core.focus y z c) e = block_maps (n + 1) c e
    form_maps n (core.scope c) e = block_maps (n + 1) c e
    form_maps n (core.return o) e = tt
    form_maps n (core.jump c) e = tt

    block_maps : (n : ℕ) (b : core.Block) → All (FitsNote i) (block_notes n (block_draft a n b)) → BlockHasMaps i a n b
    block_maps n (core.block ss bound end) e = list_maps n ss e

    list_maps : (n : ℕ) (ss : core.Stmts) → All (FitsNote i) (list_notes n (list_draft a n ss)) → HaveMaps i a n ss
    list_maps n core.done e = tt
    list_maps n (core.next at s rest) e =
        let one = notes_of n (draft_of a n s) in
        let two = list_notes (n + size (draft_of a n s)) (list_draft a (n + count s) rest) in (
          form_maps n s (all_left (FitsNote i) one two e),
          list_maps (n + count s) rest (subst (λ m. All (FitsNote i) (list_notes (n + m) (list_draft a (n + count s) rest))) (draft_size a s n) (all_right (FitsNote i) one two e)),
        )

    arms_maps : (n : ℕ) (arms : core.Arms) → All (FitsNote i) (arms_notes n (arms_draft a n arms)) → ArmsHaveMaps i a n arms
    arms_maps n core.no_arms e = tt
    arms_maps n (core.arm c vs b rest) e =
        let one = block_notes n (block_draft a n b) in
        let two = arms_notes (n + size_block (block_draft a n b)) (arms_draft a (n + count_block b) rest) in (
          block_maps n b (all_left (FitsNote i) one two e),
          arms_maps (n + count_block b) rest (subst (λ m. All (FitsNote i) (arms_notes (n + m) (arms_draft a (n + count_block b) rest))) (draft_size_block a b n) (all_right (FitsNote i) one two e)),
        )

module _ (p : Program) (g : ℕ) (f : Func) (kinded : IsKinded p) (blank : f.external ≡ true → f.body ≡ core.done) (at : slice_get p.fns g ≡ Some f) (arms : HasArmsStmts f.body) where
  rows : (o : Option ℕ) → EachEmpty (stmts_rows p (instance p f o) (record { jumps = false; returns = true }) (first_ids p (instance p f o)) false f.body)
  rows o = by f.external refl
    where
      by : (b : Bool) → f.external ≡ b → EachEmpty (stmts_rows p (instance p f o) (record { jumps = false; returns = true }) (first_ids p (instance p f o)) false f.body)
      by true is = rw (blank is) tt
      by false is = subst (λ b. EachEmpty (if b then [] else stmts_rows p (instance p f o) (record { jumps = false; returns = true }) (first_ids p (instance p f o)) false f.body)) is
          (subst EachEmpty (sym (body_rows_same p f o)) (function_empty p g f (kinded_parts p kinded) at).1.1)

  -- the statements of an instance that have a note
  noted_is : (o : Option ℕ) → noted_block 0 (body_flow p (instance p f o)) ≡ list_noted 0 f.body
  noted_is o = same_list p (instance p f o) 0 f.body [] (record { jumps = false; returns = true }) (first_ids p (instance p f o)) false arms (rows o)

  -- are those of the function
  pub same_noted : (o : Option ℕ) → noted_block 0 (body_flow p (instance p f o)) ≡ noted_block 0 (body_flow p f)
  same_noted o = noted_is o ∙ sym (noted_is None)

  -- of each such statement its maps are written
  pub listed_noted : (ms : MapNotes) → list_notes 0 (list_draft ms 0 f.body) ≡ map (read ms) (noted_block 0 (body_flow p f))
  listed_noted ms = read_list ms 0 f.body ∙ ap (map (read ms)) (sym (noted_is None))

  -- notes of just these are those that rows list
  pub listed_by_names : (notes : List Note) → map named_by notes ≡ noted_block 0 (body_flow p f) → notes ≡ list_notes 0 (body_draft f notes)
  listed_by_names notes is =
      let names : map named_by notes ≡ list_noted 0 f.body = is ∙ noted_is None in
      sym (read_list (maps_of notes) 0 f.body ∙ ap (map (read (maps_of notes))) (sym names) ∙
      reads_back notes 0 (0 + count_list f.body) (subst (Climbs 0 (0 + count_list f.body)) (sym names) (climb_list 0 f.body)))

pub complete_has : (p : Program) (g : ℕ) (f : Func) (notes : List Note) → IsKinded p → (f.external ≡ true → f.body ≡ core.done) → slice_get p.fns g ≡ Some f → HasArmsStmts f.body → IsComplete p f notes → HasNotes (instances p f) f notes
complete_has p g f notes kinded blank at arms is =
    let listed = listed_by_names p g f kinded blank at arms notes is.names in
    record {
      maps = list_maps (instances p f) (maps_of notes) 0 f.body (subst (All (FitsNote (instances p f))) listed is.fit);
      listed = listed;
    }
