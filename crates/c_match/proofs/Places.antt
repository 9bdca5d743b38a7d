-- The first place at which lists differ.
use Rattle.std.proofs.Common.{◌≡◌, ◌≢◌, ◌<◌, ◌≤◌, ℕ, zero, suc, min, List, [], ◌∷◌, map, length, get_or, slice_get, option_map, Option, Some, None, inl, inr, ⊎_elim, refl, sym, ap, ap₂, ◌∙◌, subst₂, arith}
use Rattle.std.proofs.lemmas.Option.{none-some, same_Some, slice_get-map, slice_get-get_or}
use Rattle.std.proofs.lemmas.List.{length-map}
use Rattle.std.proofs.lemmas.Bool.{cases_lt}
use Rattle.std.specs.Option.{unwrap_or}
use Rattle.vlt_core.specs.Core.{Program}
use Rattle.c_syntax.specs.C as c
use Rattle.c_lower.specs.Lowering.{lowered}
use Rattle.c_match.specs.Pieces.{Piece, program_pieces}
use Rattle.c_match.specs.Owned.{Owned, owned_lowering}
use Rattle.c_match.specs.Apart.{IsFirstApart, IsApartAt, all_statements}
use Rattle.c_match.specs.Seen.{PartAt}
use Rattle.c_match.specs.Owners.{owners_in, owner_at}
use Rattle.c_match.proofs.Apartness.{pieces_in}
use Rattle.c_match.proofs.Forgetting.{lowering_forgets}

-- lists of one length that are the same at each place
pub all_places : {A : Type 0} (xs ys : List A) (n : ℕ) → length xs ≡ n → length ys ≡ n → ((j : ℕ) → j < n → slice_get xs j ≡ slice_get ys j) → xs ≡ ys
all_places [] [] n d e same = refl
all_places [] (y ∷ ys) n d e same = absurd (omega (arith, d, e))
all_places (x ∷ xs) [] n d e same = absurd (omega (arith, d, e))
all_places (x ∷ xs) (y ∷ ys) zero d e same = absurd (omega (arith, d))
all_places (x ∷ xs) (y ∷ ys) (suc n) d e same =
    ap₂ (λ z zs. z ∷ zs) (same_Some x y (same 0 (omega arith)))
    (all_places xs ys n (omega (arith, d)) (omega (arith, e)) (λ j less. same (suc j) (omega (arith, less))))

-- where one list has ended
ended_at : {A : Type 0} (xs : List A) (k : ℕ) → length xs ≤ k → slice_get xs k ≡ None
ended_at [] k le = refl
ended_at (x ∷ xs) zero le = absurd (omega (arith, le))
ended_at (x ∷ xs) (suc k) le = ended_at xs k (omega (arith, le))

there_at : {A : Type 0} (xs : List A) (k : ℕ) → k < length xs → slice_get xs k ≡ None → ⊥
there_at [] k less e = absurd (omega (arith, less))
there_at (x ∷ xs) zero less e = none-some x (sym e)
there_at (x ∷ xs) (suc k) less e = there_at xs k (omega (arith, less)) e

-- the owner at that place is the one that is looked for
part_apart : (xs : List Owned) (ys : List Piece) (k : ℕ) → PartAt (pieces_in xs) ys k → IsFirstApart xs ys (owner_at (slice_get (owners_in xs) k))
part_apart [] [] k x = x.here refl
part_apart [] (y ∷ ys) zero x = refl
part_apart [] (y ∷ ys) (suc k) x = absurd (none-some y (x.before 0 (omega arith)))
part_apart (x ∷ xs) [] zero q = refl
part_apart (x ∷ xs) [] (suc k) q = absurd (none-some x.piece (sym (q.before 0 (omega arith))))
part_apart (x ∷ xs) (y ∷ ys) zero q = inl ((λ e. q.here (ap Some e)), refl)
part_apart (x ∷ xs) (y ∷ ys) (suc k) q = inr (
  same_Some x.piece y (q.before 0 (omega arith)),
  part_apart xs ys k (record {
    before = λ j less. q.before (suc j) (omega (arith, less));
    here = q.here;
  }),
)

-- the number that is found is that of the first statement whose lowering isn't there
pub told : (p : Program) (x : c.Program) (wanted found : List Piece) (owners : List (Option ℕ)) (statements at n : ℕ) →
    wanted ≡ program_pieces (lowered p) → found ≡ program_pieces x → owners ≡ owners_in (owned_lowering p) → statements ≡ all_statements p →
    PartAt wanted found at → n ≡ unwrap_or (owner_at (slice_get owners at)) statements → IsApartAt p x n
told p x wanted found owners statements at n is given owned counted part number = record {
  owner = owner_at (slice_get (owners_in (owned_lowering p)) at);
  first = part_apart (owned_lowering p) (program_pieces x) at (subst₂ (λ xs ys. PartAt xs ys at) (is ∙ sym (lowering_forgets p)) given part);
  counted = number ∙ ap₂ (λ os s. unwrap_or (owner_at (slice_get os at)) s) owned counted;
}

-- ---- lists of the code

pub seen_at : {A B : Type 0} (seen : A → B) (xs : List A) (i : ℕ) (x : A) → i < length xs → x ≡ get_or xs i x → slice_get (map seen xs) i ≡ Some (seen x)
seen_at seen xs i x less is = slice_get-map seen xs i ∙ ap (option_map seen) (slice_get-get_or xs i x less) ∙ ap (λ z. Some (seen z)) (sym is)

-- what is the same up to the end of lists of one length
pub all_seen : {A B : Type 0} (seen : A → B) (xs ys : List A) (at : ℕ) → length xs ≡ length ys → min (length xs) (length ys) ≤ at →
    ((j : ℕ) → j < at → slice_get (map seen xs) j ≡ slice_get (map seen ys) j) → map seen xs ≡ map seen ys
all_seen seen xs ys at long le same =
    all_places (map seen xs) (map seen ys) (length xs) (length-map xs seen) (length-map ys seen ∙ sym long) (λ j less. same j (omega (arith, long, le, less)))

-- where the shorter one ends
pub ends_apart : {A B : Type 0} (seen : A → B) (xs ys : List A) (k : ℕ) → k ≡ min (length xs) (length ys) → length xs ≢ length ys → slice_get (map seen xs) k ≡ slice_get (map seen ys) k → ⊥
ends_apart seen xs ys k is other same = ⊎_elim
    (λ less. there_at (map seen ys) k (let n = length-map ys seen in omega (arith, n, is, less)) (sym same ∙ ended_at (map seen xs) k (let n = length-map xs seen in omega (arith, n, is, less))))
    (λ le. there_at (map seen xs) k (let n = length-map xs seen in omega (arith, n, is, le, other)) (same ∙ ended_at (map seen ys) k (let n = length-map ys seen in omega (arith, n, is, le))))
    (cases_lt (length xs) (length ys))
