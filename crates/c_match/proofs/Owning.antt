-- Owners that are added part by part.
use Rattle.std.proofs.Common.{◌≡◌, ℕ, suc, ◌+◌, min, List, [], ◌∷◌, ◌++◌, length, replicate, Option, Some, None, Result, Ok, Err, OnOk, refl, sym, ap, ap₂, ◌∙◌, arith, fold, take, if◌then◌else◌}
use Rattle.std.proofs.lemmas.List.{map-append}
use Rattle.std.specs.List.{flat_map, enumerate_from}
use Rattle.vlt_core.specs.Core.{Func, Program}
use Rattle.vlt_core.specs.Flow.{size_block}
use Rattle.vlt_core.specs.Bodies.{body_flow}
use Rattle.vlt_core.specs.Least.{first_number}
use Rattle.c_syntax.specs.C as c
use Rattle.c_lower.specs.Statements.{arm_copies}
use Rattle.c_lower.specs.Lowering.{lowered}
use Rattle.c_match.specs.Pieces.{Piece, func_pieces, heads_of}
use Rattle.c_match.specs.Owned.{owned_by, own_code, body_owned, count_list, owned_lowering}
use Rattle.c_match.specs.Apart.{all_statements}
use Rattle.c_match.specs.Owners.{owners_in, bodies_from, number_after}
use Rattle.c_match.proofs.Counting.{body_counted}

pub owned_times : (o : Option ℕ) (xs : List Piece) → replicate (length xs) o ≡ owners_in (owned_by o xs)
owned_times o [] = refl
owned_times o (x ∷ xs) = ap (λ l. o ∷ l) (owned_times o xs)

pub copied_times : (p : Program) (f : Func) (v n : ℕ) (is vs : List ℕ) → replicate (min (length is) (length vs)) (Some n) ≡ owners_in (own_code n (arm_copies p f v is vs))
copied_times p f v n [] vs = ap (λ k. replicate k (Some n)) none
  where
    none : min 0 (length vs) ≡ 0
    none = omega arith
copied_times p f v n (i ∷ is) [] = ap (λ k. replicate k (Some n)) none
  where
    none : min (suc (length is)) 0 ≡ 0
    none = omega arith
copied_times p f v n (i ∷ is) (w ∷ ws) = ap (λ k. replicate k (Some n)) more ∙ ap (λ l. Some n ∷ l) (copied_times p f v n is ws)
  where
    more : min (suc (length is)) (suc (length ws)) ≡ suc (min (length is) (length ws))
    more = omega arith

pub on_ok : {A E : Type 0} (r : Result A E) (P Q : Type 0) → (P → Q) → OnOk r P → OnOk r Q
on_ok (Ok a) P Q go h = go h
on_ok (Err e) P Q go h = tt

-- ---- functions

module _ (p : Program) where
  abbrev more : ℕ → Func → ℕ
  more n f = n + size_block (body_flow p f)

  bodies_numbered : (fs : List Func) (n k : ℕ) → ((g : ℕ) → first_number p (k + g) ≡ fold more n (take g fs)) →
      flat_map (λ q. if q.1.external then [] else body_owned p (first_number p q.0) q.1) (enumerate_from k fs) ≡ bodies_from p n fs
  bodies_numbered [] n k h = refl
  bodies_numbered (f ∷ fs) n k h = ap₂ (λ xs ys. xs ++ ys)
      (ap (λ m. if f.external then [] else body_owned p m f) (ap (first_number p) here ∙ h 0))
      (bodies_numbered fs (n + count_list f.body) (k + 1)
      (λ g. ap (first_number p) (next g) ∙ h (suc g) ∙ ap (λ m. fold more (n + m) (take g fs)) (sym (body_counted p f))))
    where
      here : k ≡ k + 0
      here = omega arith

      next : (g : ℕ) → k + 1 + g ≡ k + suc g
      next g = omega arith

  after_numbered : (fs : List Func) (n : ℕ) → number_after n fs ≡ fold more n fs
  after_numbered [] n = refl
  after_numbered (f ∷ fs) n = after_numbered fs (n + count_list f.body) ∙ ap (λ m. fold more (n + m) fs) (body_counted p f)

  pub all_after : number_after 0 p.fns ≡ all_statements p
  all_after = after_numbered p.fns 0 ∙ ap (fold more 0) (sym (take_whole p.fns))
    where
      take_whole : {A : Type 0} (xs : List A) → take (length xs) xs ≡ xs
      take_whole [] = refl
      take_whole (x ∷ xs) = ap (λ l. x ∷ l) (take_whole xs)

  -- the owners of what is outside all bodies, and then those of the bodies
  pub all_owners : (glue : List c.Func) (first outer : List (Option ℕ)) → glue ≡ (lowered p).glue → first ≡ None ∷ [] → outer ≡ first ++ replicate (length (flat_map func_pieces glue)) None → outer ++ owners_in (bodies_from p 0 p.fns) ≡ owners_in (owned_lowering p)
  all_owners glue first outer is begins ends =
      let pieces = heads_of (lowered p) ∷ flat_map func_pieces (lowered p).glue in
      ap₂ (λ xs ys. xs ++ ys)
      (ends ∙ ap₂ (λ xs fs. xs ++ replicate (length (flat_map func_pieces fs)) None) begins is ∙ owned_times None pieces)
      (ap owners_in (sym (bodies_numbered p.fns 0 0 start)))
      ∙ sym (map-append (λ x. x.owner) (owned_by None pieces) _)
    where
      start : (g : ℕ) → first_number p (0 + g) ≡ fold more 0 (take g p.fns)
      start g = ap (first_number p) same
        where
          same : 0 + g ≡ g
          same = omega arith
