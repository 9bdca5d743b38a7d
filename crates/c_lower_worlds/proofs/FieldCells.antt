-- The cells of a block: where the values of a field are.
use Rattle.std.proofs.Common.{◌≡◌, ℕ, zero, suc, ◌+◌, List, [], ◌∷◌, ◌++◌, take, length, Option, Some, slice_get, Ok, length-append, append_assoc, refl, sym, ap, ◌∙◌, subst, arith}
use Rattle.std.proofs.lemmas.Option.{none-some, same_Some}
use Rattle.vlt_core.specs.Core.{FieldDecl, Program}
use Rattle.vlt_meaning.specs.World as source
use Rattle.c_syntax.specs.declared.program.CCell.{CCell}
use Rattle.c_meaning.specs.World.{Value, number, reference, Vars}
use Rattle.c_meaning.specs.Values.{p_variable, cell_value}
use Rattle.c_meaning.specs.Blocks.{Block, Blocks, live_block}
use Rattle.c_lower.specs.Slots.{Sort, of_number, of_reference, of_owner, Numbers, first_numbers, past, past_all, cell_at, cells_at, slot_sorts, field_sorts}
use Rattle.c_lower_worlds.specs.Worlds.{slot_values, numbers_in, references_in, cell_values}
use Rattle.c_lower_worlds.specs.Shapes.{HasShape, HaveCellShapes}
use Rattle.c_lower_worlds.specs.Sorts.{IsOfSort, AreOfSorts}
use Rattle.c_lower_worlds.proofs.VariantSlots.{shape_sorts}

pub numbers_append : (vs us : List Value) → numbers_in (vs ++ us) ≡ numbers_in vs ++ numbers_in us
numbers_append [] us = refl
numbers_append (number z ∷ vs) us = ap (λ xs. Some z ∷ xs) (numbers_append vs us)
numbers_append (reference r ∷ vs) us = numbers_append vs us

pub references_append : (vs us : List Value) → references_in (vs ++ us) ≡ references_in vs ++ references_in us
references_append [] us = refl
references_append (number z ∷ vs) us = references_append vs us
references_append (reference r ∷ vs) us = ap (λ xs. Some r ∷ xs) (references_append vs us)

numbers_are : ℕ → ℕ → Numbers
numbers_are n k = record { n = n; p = k }

-- how many numbers and references there are
counted : List Value → Numbers
counted vs = record { n = length (numbers_in vs); p = length (references_in vs) }

some_more : (n k : ℕ) → numbers_are (suc n) k ≡ numbers_are (n + 1) (k + 0)
some_more n k = ap (λ a. numbers_are a k) (one n) ∙ ap (λ b. numbers_are (n + 1) b) (none k)
  where
    one : (n : ℕ) → suc n ≡ n + 1
    one n = omega arith

    none : (k : ℕ) → k ≡ k + 0
    none k = omega arith

other_more : (n k : ℕ) → numbers_are n (suc k) ≡ numbers_are (n + 0) (k + 1)
other_more n k = ap (λ a. numbers_are a (suc k)) (none n) ∙ ap (λ b. numbers_are (n + 0) b) (one k)
  where
    one : (n : ℕ) → suc n ≡ n + 1
    one n = omega arith

    none : (k : ℕ) → k ≡ k + 0
    none k = omega arith

counted_append : (pre vs : List Value) → counted (pre ++ vs) ≡ numbers_are (length (numbers_in pre) + length (numbers_in vs)) (length (references_in pre) + length (references_in vs))
unfolding counted numbers_are
counted_append pre vs = rw (numbers_append pre vs, references_append pre vs, length-append (numbers_in pre) (numbers_in vs), length-append (references_in pre) (references_in vs)) refl

one_reference : (pre : List Value) (r : Option ℕ) → numbers_are (length (numbers_in pre)) (suc (length (references_in pre))) ≡ counted (pre ++ reference r ∷ [])
one_reference pre r = other_more (length (numbers_in pre)) (length (references_in pre)) ∙ sym (counted_append pre (reference r ∷ []))

counted_one : (pre : List Value) (s : Sort) (v : Value) → IsOfSort s v → past (counted pre) s ≡ counted (pre ++ v ∷ [])
unfolding counted numbers_are
counted_one pre of_number (number z) h = some_more (length (numbers_in pre)) (length (references_in pre)) ∙ sym (counted_append pre (number z ∷ []))
counted_one pre of_number (reference r) h = absurd h
counted_one pre of_reference (number z) h = absurd h
counted_one pre of_reference (reference r) h = one_reference pre r
counted_one pre of_owner (number z) h = absurd h
counted_one pre of_owner (reference r) h = one_reference pre r

counted_all : (pre : List Value) (ss : List Sort) (vs : List Value) → AreOfSorts ss vs → past_all (counted pre) ss ≡ counted (pre ++ vs)
counted_all pre [] [] h = ap counted (sym (nothing pre))
  where
    nothing : (xs : List Value) → xs ++ [] ≡ xs
    nothing [] = refl
    nothing (x ∷ xs) = ap (λ r. x ∷ r) (nothing xs)
counted_all pre [] (v ∷ vs) h = absurd h
counted_all pre (s ∷ ss) [] h = absurd h
counted_all pre (s ∷ ss) (v ∷ vs) h =
    ap (λ t. past_all t ss) (counted_one pre s v h.0) ∙ counted_all (pre ++ v ∷ []) ss vs h.1 ∙ ap counted (append_assoc pre (v ∷ []) vs)

pub get_mid : {A : Type 0} (xs : List A) (y : A) (ys : List A) → slice_get (xs ++ y ∷ ys) (length xs) ≡ Some y
get_mid [] y ys = refl
get_mid (x ∷ xs) y ys = get_mid xs y ys

-- ---- cells that are read

abbrev pub HaveCells : List CCell → List Value → Vars → Blocks → Type 0
HaveCells [] [] vars bs = Unit {0}
HaveCells (x ∷ xs) (v ∷ vs) vars bs = (cell_value x vars bs ≡ Ok v) × HaveCells xs vs vars bs
HaveCells _ _ vars bs = ⊥

-- the `p` variable goes to a live block, which has these values in its cells
pub record HasBlock (base : ℕ) (values : List Value) (vars : Vars) (bs : Blocks) : Type 0 where
  pub number : ℕ
  pub refers : vars (p_variable base) ≡ Some (reference (Some number))
  pub block : Block
  pub live : live_block bs number ≡ Some block
  pub numbers : block.numbers ≡ numbers_in values
  pub references : block.references ≡ references_in values

one_read : (base : ℕ) (s : Sort) (pre : List Value) (v : Value) (post : List Value) (vars : Vars) (bs : Blocks) → IsOfSort s v → HasBlock base (pre ++ v ∷ post) vars bs →
    cell_value (cell_at base (counted pre) s) vars bs ≡ Ok v
unfolding counted
one_read base of_number pre (number z) post vars bs k h =
    let at : slice_get h.block.numbers (length (numbers_in pre)) ≡ Some (Some z) =
    ap (λ xs. slice_get xs (length (numbers_in pre))) (h.numbers ∙ numbers_append pre (number z ∷ post)) ∙ get_mid (numbers_in pre) (Some z) (numbers_in post) in
    rw (h.refers, h.live, at) refl
one_read base of_number pre (reference r) post vars bs k h = absurd k
one_read base of_reference pre (number z) post vars bs k h = absurd k
one_read base of_reference pre (reference r) post vars bs k h =
    let at : slice_get h.block.references (length (references_in pre)) ≡ Some (Some r) =
    ap (λ xs. slice_get xs (length (references_in pre))) (h.references ∙ references_append pre (reference r ∷ post)) ∙ get_mid (references_in pre) (Some r) (references_in post) in
    rw (h.refers, h.live, at) refl
one_read base of_owner pre (number z) post vars bs k h = absurd k
one_read base of_owner pre (reference r) post vars bs k h =
    let at : slice_get h.block.references (length (references_in pre)) ≡ Some (Some r) =
    ap (λ xs. slice_get xs (length (references_in pre))) (h.references ∙ references_append pre (reference r ∷ post)) ∙ get_mid (references_in pre) (Some r) (references_in post) in
    rw (h.refers, h.live, at) refl

slots_read : (base : ℕ) (ss : List Sort) (pre vs post : List Value) (vars : Vars) (bs : Blocks) → AreOfSorts ss vs → HasBlock base (pre ++ vs ++ post) vars bs →
    HaveCells (cells_at base (counted pre) ss) vs vars bs
slots_read base [] pre [] post vars bs k h = tt
slots_read base [] pre (v ∷ vs) post vars bs k h = absurd k
slots_read base (s ∷ ss) pre [] post vars bs k h = absurd k
slots_read base (s ∷ ss) pre (v ∷ vs) post vars bs k h = (
  one_read base s pre v (vs ++ post) vars bs k.0 (subst (λ xs. HasBlock base xs vars bs) (append_assoc pre (v ∷ vs) post) h),
  subst (λ t. HaveCells (cells_at base t ss) vs vars bs) (sym (counted_one pre s v k.0))
      (slots_read base ss (pre ++ v ∷ []) vs post vars bs k.1 (subst (λ xs. HasBlock base (xs ++ post) vars bs) (sym (append_assoc pre (v ∷ []) vs)) h)),
)

-- ---- fields

-- a field of a list, with its value
record IsField (ds : List FieldDecl) (cells : List source.Value) (i : ℕ) (d : FieldDecl) (a : source.Value) : Type 0 where
  decl : slice_get ds i ≡ Some d
  at : slice_get cells i ≡ Some a

field_read : (p : Program) (types : List ℕ) (base i : ℕ) (ds : List FieldDecl) (cells : List source.Value) (pre : List Value) (a : source.Value) (vars : Vars) (bs : Blocks) →
    HaveCellShapes p types ds cells → HasBlock base (pre ++ cell_values p ds cells) vars bs → slice_get cells i ≡ Some a →
    (d : FieldDecl) × (slice_get ds i ≡ Some d) × HasShape p types d.ty a ×
    HaveCells (cells_at base (past_all (counted pre) (field_sorts p (take i ds))) (slot_sorts p d.ty)) (slot_values p d.ty a) vars bs
field_read p types base i [] [] pre a vars bs h b at = absurd (none-some a at)
field_read p types base i [] (x ∷ cells) pre a vars bs h b at = absurd h
field_read p types base i (d ∷ ds) [] pre a vars bs h b at = absurd h
field_read p types base zero (d ∷ ds) (x ∷ cells) pre a vars bs h b at =
    subst (λ a. (e : FieldDecl) × (slice_get (d ∷ ds) 0 ≡ Some e) × HasShape p types e.ty a × HaveCells (cells_at base (past_all (counted pre) (field_sorts p (take 0 (d ∷ ds)))) (slot_sorts p e.ty)) (slot_values p e.ty a) vars bs)
    (same_Some x a at) (
      d,
      refl,
      h.0,
      slots_read base (slot_sorts p d.ty) pre (slot_values p d.ty x) (cell_values p ds cells) vars bs (shape_sorts p types d.ty x h.0)
          (subst (λ xs. HasBlock base xs vars bs) (sym (append_assoc pre (slot_values p d.ty x) (cell_values p ds cells))) b),
    )
field_read p types base (suc i) (d ∷ ds) (x ∷ cells) pre a vars bs h b at =
    let r = field_read p types base i ds cells (pre ++ slot_values p d.ty x) a vars bs h.1
    (subst (λ xs. HasBlock base xs vars bs) (sym (append_assoc pre (slot_values p d.ty x) (cell_values p ds cells))) b) at in (
      r.0,
      r.1,
      r.2,
      subst (λ t. HaveCells (cells_at base t (slot_sorts p r.0.ty)) (slot_values p r.0.ty a) vars bs)
          (ap (λ t. past_all t (field_sorts p (take i ds))) (sym (counted_all pre (slot_sorts p d.ty) (slot_values p d.ty x) (shape_sorts p types d.ty x h.0)))
          ∙ sym (past_all_append (counted pre) (slot_sorts p d.ty) (field_sorts p (take i ds)))) r.3,
    )
  where
    past_all_append : (t : Numbers) (xs ys : List Sort) → past_all t (xs ++ ys) ≡ past_all (past_all t xs) ys
    past_all_append t [] ys = refl
    past_all_append t (x ∷ xs) ys = past_all_append (past t x) xs ys

-- the field of an object of the type
pub of_field : (p : Program) (types : List ℕ) (base i : ℕ) (ds : List FieldDecl) (cells : List source.Value) (a : source.Value) (vars : Vars) (bs : Blocks) →
    HaveCellShapes p types ds cells → HasBlock base (cell_values p ds cells) vars bs → slice_get cells i ≡ Some a →
    (d : FieldDecl) × (slice_get ds i ≡ Some d) × HasShape p types d.ty a ×
    HaveCells (cells_at base (past_all first_numbers (field_sorts p (take i ds))) (slot_sorts p d.ty)) (slot_values p d.ty a) vars bs
unfolding counted
of_field p types base i ds cells a vars bs h b at = field_read p types base i ds cells [] a vars bs h b at
