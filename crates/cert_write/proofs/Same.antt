-- Notes in order are found by their numbers, so they are written as they are.
use Rattle.std.proofs.Common.{◌≡◌, ◌<◌, ℕ, suc, if◌then◌else◌, List, [], ◌∷◌, map, Some, sym, ap, ◌∙◌, subst, refl, arith}
use Rattle.vlt_core.specs.declared.notes.Note as code
use Rattle.vlt_core.specs.declared.notes.Note.TheVariants as V
use Rattle.cert_rows.specs.Parts.{All}
use Rattle.cert_format.specs.Notes.{MapNotes, Note, at_loop, at_join, maps_of}
use Rattle.cert_format.specs.Bodies.{list_draft, list_notes}
use Rattle.cert_format_laws.proofs.Redrafted.{Says}
use Rattle.cert_format_laws.proofs.Noted.{number_of as number_in, Ascend, notes_ascend}
use Rattle.cert_write.specs.Notes.{number_of, note_at, around_in, after_in, maps_in, note_of, NotesAreKept}
use Rattle.cert_write.proofs.Finding.{unlike, alike}
use Rattle.cert_write.proofs.Keeping.{list_kept}

abbrev maps_among : List code.Note → MapNotes
maps_among xs = record { around = λ n. around_in (note_at xs n) ∷ []; following = λ n. after_in (note_at xs n) ∷ [] }

numbered : (x : code.Note) → number_in (note_of x) ≡ number_of x
numbered (V.Loop stmt around exit) = refl
numbered (V.Join stmt m) = refl

older : (x : code.Note) (xs : List code.Note) (n : ℕ) → number_of x < n → note_at (x ∷ xs) n ≡ note_at xs n
older x xs n less = ap (λ b. if b then Some x else note_at xs n) (unlike (number_of x) n less)

still : (x : code.Note) (xs : List code.Note) (y : Note) → number_of x < number_in y → Says (maps_among xs) y → Says (maps_among (x ∷ xs)) y
still x xs (at_loop n m k) less s =
    (ap (λ o. around_in o ∷ []) (older x xs n less) ∙ s.0, ap (λ o. after_in o ∷ []) (older x xs n less) ∙ s.1)
still x xs (at_join n m) less s = ap (λ o. after_in o ∷ []) (older x xs n less) ∙ s

all_still : (x : code.Note) (xs : List code.Note) (ys : List Note) (least : ℕ) → number_of x < least → Ascend least ys → All (Says (maps_among xs)) ys →
    All (Says (maps_among (x ∷ xs))) ys
all_still x xs [] least less a s = tt
all_still x xs (y ∷ ys) least less a s =
    (still x xs y (omega (arith, less, a.0)) s.0, all_still x xs ys (suc (number_in y)) (omega (arith, less, a.0)) a.1 s.1)

found : (x : code.Note) (xs : List code.Note) → note_at (x ∷ xs) (number_of x) ≡ Some x
found x xs = ap (λ b. if b then Some x else note_at xs (number_of x)) (alike (number_of x) (number_of x) refl)

own : (x : code.Note) (xs : List code.Note) → Says (maps_among (x ∷ xs)) (note_of x)
own (V.Loop stmt around exit) xs =
    (ap (λ o. around_in o ∷ []) (found (V.Loop stmt around exit) xs), ap (λ o. after_in o ∷ []) (found (V.Loop stmt around exit) xs))
own (V.Join stmt m) xs = ap (λ o. after_in o ∷ []) (found (V.Join stmt m) xs)

all_said : (xs : List code.Note) (least : ℕ) → Ascend least (map note_of xs) → All (Says (maps_among xs)) (map note_of xs)
all_said [] least a = tt
all_said (x ∷ xs) least a = (
  own x xs,
  all_still x xs (map note_of xs) (suc (number_in (note_of x))) (let e = numbered x in omega (arith, e)) a.1
      (all_said xs (suc (number_in (note_of x))) a.1),
)

pub notes_kept : NotesAreKept
notes_kept f a listed =
    let notes = map note_of a.maps in
    let drafts = list_draft (maps_of notes) 0 f.body in
    ap (list_notes 0)
    (list_kept (maps_of notes) (maps_in (a ∷ [])) 0 f.body
    (subst (All (Says (maps_in (a ∷ [])))) listed (all_said a.maps 0 (subst (Ascend 0) (sym listed) (notes_ascend drafts))))) ∙
    sym listed
