-- What is written in several pieces.
use Rattle.std.proofs.Common.{ℕ, List, [], ◌++◌, Option, sym, ap, ◌∙◌, append_assoc, append-nil}
use Rattle.std.specs.Prelude.{Result, Ok, Err, OnOk, OnErr}
use Rattle.vlt_io.specs.Outside.{Grew, GrewByPart}
use Rattle.vlt_steps.proofs.Writing.{grew_both}

-- a part of the first piece is a part of both
pub part_first : (a b : Option (List ℕ)) (x y : List ℕ) → GrewByPart a b x → GrewByPart a b (x ++ y)
part_first a b x y (front, rest, is, grew) = (front, rest ++ y, ap (λ z. z ++ y) is ∙ append_assoc front rest y, grew)

-- the first piece whole, and a part of the second
pub part_after : (a b c : Option (List ℕ)) (x y : List ℕ) → Grew a b x → GrewByPart b c y → GrewByPart a c (x ++ y)
part_after a b c x y p (front, rest, is, grew) =
    (x ++ front, rest, ap (λ l. x ++ l) is ∙ sym (append_assoc x front rest), grew_both a b c x front p grew)

-- all of a piece is a part of it
pub whole_part : (a b : Option (List ℕ)) (x : List ℕ) → Grew a b x → GrewByPart a b x
whole_part a b x grew = (x, [], sym (append-nil x), grew)

-- ---- what is so where a call gave an error

pub on_err : {A E : Type 0} (r : Result A E) (P : Type 0) → P → OnErr r P
on_err (Ok x) P p = tt
on_err (Err e) P p = p

pub on_err_more : {A E : Type 0} (r : Result A E) (P Q : Type 0) → (P → Q) → OnErr r P → OnErr r Q
on_err_more (Ok x) P Q more p = tt
on_err_more (Err e) P Q more p = more p

pub on_ok_more : {A E : Type 0} (r : Result A E) (P Q : Type 0) → (P → Q) → OnOk r P → OnOk r Q
on_ok_more (Ok x) P Q more p = more p
on_ok_more (Err e) P Q more p = tt
