-- Slots that were counted as far as the code can.
use Rattle.std.proofs.Common.{◌≡◌, ◌≤◌, ◌<◌, ◌+◌, ◌*◌, ◌↔◌, ℕ, zero, suc, min, ⊎_elim, List, ap, ◌∙◌, arith}
use Rattle.std.proofs.Math.Nat.{mul-le-mul_left}
use Rattle.std.proofs.lemmas.Bool.{cases_lt}
use Rattle.std.specs.List.{count_by}
use Rattle.vlt_core.specs.Core.{CaseDecl, Program}
use Rattle.vlt_core.specs.Lookups.{is_owning, cases_of}
use Rattle.vlt_core.specs.Widths.{greatest, is_number, is_guarded, variant_slots, widest_function, widest_type, slots_needed}
use Rattle.vlt_interp.specs.Rooms.Sorts.{capped_count, most_counted}

pub variant_is : (p : Program) (t : ℕ) (cs : List CaseDecl) (a b c : ℕ) → cs ≡ cases_of p t → a ≡ greatest (λ (d : CaseDecl). count_by is_number d.payload) cs → b ≡ greatest (λ (d : CaseDecl). count_by is_guarded d.payload) cs → c ≡ greatest (λ (d : CaseDecl). count_by is_owning d.payload) cs → 1 + a + b + c ≡ variant_slots p t
variant_is p t cs a b c is x y z =
    let k = x ∙ ap (greatest (λ (d : CaseDecl). count_by is_number d.payload)) is in
    let l = y ∙ ap (greatest (λ (d : CaseDecl). count_by is_guarded d.payload)) is in
    let m = z ∙ ap (greatest (λ (d : CaseDecl). count_by is_owning d.payload)) is in
    ap (λ n. 1 + n + b + c) k ∙ ap (λ n. 1 + greatest (λ (d : CaseDecl). count_by is_number d.payload) (cases_of p t) + n + c) l
    ∙ ap (λ n. 1 + greatest (λ (d : CaseDecl). count_by is_number d.payload) (cases_of p t) + greatest (λ (d : CaseDecl). count_by is_guarded d.payload) (cases_of p t) + n) m

-- a product of a number that was counted is the product, where it can be counted
product : (d w : ℕ) → capped_count (d * capped_count w) ≡ capped_count (d * w)
product zero w = omega arith
product (suc d) w =
    ⊎_elim
    (λ (few : w < most_counted). let e : capped_count w ≡ w = omega arith in ap (λ x. capped_count (suc d * x)) e)
    (λ (many : most_counted ≤ w).
    let a : suc d * most_counted ≤ suc d * w = mul-le-mul_left (suc d) many in
    let e : capped_count w ≡ most_counted = omega arith in
    ap (λ x. capped_count (suc d * x)) e ∙ omega (arith, a))
    (cases_lt w most_counted)

summed : (m x y a b n limit : ℕ) → limit < m → min a m ≡ min x m → min b m ≡ min y m → n ≡ min (min a m + min b m) m → (limit < n) ↔ (limit < x + y)
summed m x y a b n limit small e g is = (λ lt. omega arith, λ lt. omega arith)

-- whether a limit is passed can be seen
pub compared : (p : Program) (d h w c frames objects n limit : ℕ) → limit < most_counted → w ≡ capped_count (widest_function p) → c ≡ capped_count (widest_type p) → frames ≡ capped_count (d * w) → objects ≡ capped_count (h * c) → n ≡ capped_count (frames + objects) → (limit < n) ↔ (limit < slots_needed p d h)
compared p d h w c frames objects n limit small e g f o is =
    let a = product d (widest_function p) in
    let b = product h (widest_type p) in
    let f' : frames ≡ capped_count (d * capped_count (widest_function p)) = f ∙ ap (λ x. capped_count (d * x)) e in
    let o' : objects ≡ capped_count (h * capped_count (widest_type p)) = o ∙ ap (λ x. capped_count (h * x)) g in
    summed most_counted (d * widest_function p) (h * widest_type p) (d * capped_count (widest_function p)) (h * capped_count (widest_type p)) n limit small a b (is ∙ ap (λ x. capped_count (x + objects)) f' ∙ ap (λ x. capped_count (capped_count (d * capped_count (widest_function p)) + x)) o')

summed_more : (m x y h a b n k limit : ℕ) → limit < m → min a m ≡ min x m → min b m ≡ min y m → n ≡ min (min a m + min b m) m → k ≡ min (n + h) m → (limit < k) ↔ (limit < x + y + h)
summed_more m x y h a b n k limit small e g is more = (λ lt. omega arith, λ lt. omega arith)

-- with some slots more
pub compared_more : (p : Program) (d h w c frames objects n k limit : ℕ) → limit < most_counted → w ≡ capped_count (widest_function p) → c ≡ capped_count (widest_type p) → frames ≡ capped_count (d * w) → objects ≡ capped_count (h * c) → n ≡ capped_count (frames + objects) → k ≡ capped_count (n + h) → (limit < k) ↔ (limit < slots_needed p d h + h)
compared_more p d h w c frames objects n k limit small e g f o is more =
    let a = product d (widest_function p) in
    let b = product h (widest_type p) in
    let f' : frames ≡ capped_count (d * capped_count (widest_function p)) = f ∙ ap (λ x. capped_count (d * x)) e in
    let o' : objects ≡ capped_count (h * capped_count (widest_type p)) = o ∙ ap (λ x. capped_count (h * x)) g in
    summed_more most_counted (d * widest_function p) (h * widest_type p) h (d * capped_count (widest_function p)) (h * capped_count (widest_type p)) n k limit small a b (is ∙ ap (λ x. capped_count (x + objects)) f' ∙ ap (λ x. capped_count (capped_count (d * capped_count (widest_function p)) + x)) o') more
