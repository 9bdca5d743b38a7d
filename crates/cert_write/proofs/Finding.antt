-- The note at a cursor is the first one of its statement, and those before it are of statements before.
use Rattle.std.proofs.Common.{◌≡◌, ◌<◌, ◌+◌, ℕ, zero, suc, ◌==◌, true, false, if◌then◌else◌, List, [], ◌∷◌, take, length, get_or, sym, ap, ◌∙◌, subst, arith, Some}
use Rattle.std.proofs.lemmas.Bool.Decides.{nat_tests}
use Rattle.vlt_core.specs.declared.notes.Note as code
use Rattle.vlt_core.specs.declared.notes.Annotation.{Annotation}
use Rattle.cert_write.specs.Notes.{number_of, note_at}
use Rattle.cert_write.specs.Rows.{AreBefore, AreAllBefore}
use Rattle.cert_write.specs.declared.cursor.Cursor.{Cursor}

pub unlike : (m n : ℕ) → m < n → (m == n) ≡ false
unlike m n less = grind (arith, nat_tests)

pub alike : (m n : ℕ) → m ≡ n → (m == n) ≡ true
alike m n same = grind (arith, nat_tests)

pub found_next : (notes : List code.Note) (i n : ℕ) (x : code.Note) → i < length notes → x ≡ get_or notes i x → AreBefore n (take i notes) →
    number_of x ≡ n → Some x ≡ note_at notes n
found_next [] i n x less is before same = absurd (omega (arith, less))
found_next (y ∷ ys) zero n x less is before same =
    ap Some is ∙ sym (ap (λ b. if b then Some y else note_at ys n) (alike (number_of y) n (ap number_of (sym is) ∙ same)))
found_next (y ∷ ys) (suc i) n x less is before same =
    found_next ys i n x (omega (arith, less)) is before.1 same ∙
    sym (ap (λ b. if b then Some y else note_at ys n) (unlike (number_of y) n before.0))

-- ---- those before

pub later : (n : ℕ) (xs : List code.Note) → AreBefore n xs → AreBefore (n + 1) xs
later n [] b = tt
later n (x ∷ xs) b = (let l = b.0 in omega (arith, l), later n xs b.1)

suc_before : (notes : List code.Note) (i n : ℕ) (x : code.Note) → i < length notes → x ≡ get_or notes i x → AreBefore n (take i notes) →
    number_of x ≡ n → AreBefore (n + 1) (take (suc i) notes)
suc_before [] i n x less is before e = absurd (omega (arith, less))
suc_before (y ∷ ys) zero n x less is before e = (let f : number_of y ≡ n = ap number_of (sym is) ∙ e in omega (arith, f), tt)
suc_before (y ∷ ys) (suc i) n x less is before e = (let l = before.0 in omega (arith, l), suc_before ys i n x (omega (arith, less)) is before.1 e)

pub more_before : (notes : List code.Note) (i n : ℕ) (x : code.Note) → i < length notes → x ≡ get_or notes i x → AreBefore n (take i notes) →
    number_of x ≡ n → AreBefore (n + 1) (take (i + 1) notes)
more_before notes i n x less is before same =
    let s : i + 1 ≡ suc i = omega arith in
    subst (λ j. AreBefore (n + 1) (take j notes)) (sym s) (suc_before notes i n x less is before same)

-- in all annotations
pub all_later : (annotations : List Annotation) (p : Cursor) → AreAllBefore annotations p → AreAllBefore annotations (record { next = p.next + 1; at = p.at })
all_later [] p b = tt
all_later (a ∷ more) p b = (later p.next (take p.at a.maps) b.0, all_later more p b.1)
