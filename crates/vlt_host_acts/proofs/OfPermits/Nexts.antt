-- Entries of a clause, one after another.
use Rattle.std.proofs.Common.{◌≡◌, ◌-◌, ◌≤◌, Bool, true, false, ◌&&◌, if◌then◌else◌, List, [], ◌∷◌, map, filter, length, get_or, take, drop, refl, sym, ap, ◌∙◌, take_all, length-drop, arith}
use Rattle.std.specs.List.{list_all}
use Rattle.vlt_core.specs.Core.{Entry}
use Rattle.vlt_core.specs.View.{entry_of}
use Rattle.vlt_core.specs.declared.program.Entry.{Entry as CodeEntry}

rest_is : (xs : List CodeEntry) → take (length xs - 1) (drop 1 xs) ≡ drop 1 xs
rest_is xs = let few : length (drop 1 xs) ≡ length xs - 1 = length-drop 1 xs in take_all (length xs - 1) (drop 1 xs) (omega (arith, few))

-- of those that pass the test t, whether all pass the test P
module _ (P t : Entry → Bool) where
  abbrev all : List CodeEntry → Bool
  all xs = list_all P (filter t (map entry_of xs))

  abbrev body : Bool → Entry → List CodeEntry → Bool
  body b e xs = if b then P e && all xs else all xs

  pushed : (b : Bool) (e : Entry) (es : List Entry) → list_all P (if b then e ∷ es else es) ≡ (if b then P e && list_all P es else list_all P es)
  pushed true e es = refl
  pushed false e es = refl

  next : (xs : List CodeEntry) (x : CodeEntry) → 1 ≤ length xs → x ≡ get_or xs 0 x →
      all xs ≡ body (t (entry_of x)) (entry_of x) (take (length xs - 1) (drop 1 xs))
  next [] x some is = absurd (omega (arith, some))
  next (y ∷ xs) x some is =
      pushed (t (entry_of y)) (entry_of y) (filter t (map entry_of xs)) ∙
      sym (ap (λ z. body (t (entry_of z)) (entry_of z) (take (length (y ∷ xs) - 1) (drop 1 (y ∷ xs)))) is ∙
      ap (body (t (entry_of y)) (entry_of y)) (rest_is (y ∷ xs)))

  pub goes : (xs : List CodeEntry) (x : CodeEntry) (r : Bool) → 1 ≤ length xs → x ≡ get_or xs 0 x → t (entry_of x) ≡ true → P (entry_of x) ≡ true →
      r ≡ all (take (length xs - 1) (drop 1 xs)) → r ≡ all xs
  goes xs x r some is passes so rest =
      let more = take (length xs - 1) (drop 1 xs) in
      rest ∙ sym (next xs x some is ∙ (ap (λ b. body b (entry_of x) more) passes ∙ ap (λ b. b && all more) so))

  pub stops : (xs : List CodeEntry) (x : CodeEntry) (r : Bool) → 1 ≤ length xs → x ≡ get_or xs 0 x → t (entry_of x) ≡ true → r ≡ P (entry_of x) →
      r ≡ false → r ≡ all xs
  stops xs x r some is passes so off =
      let more = take (length xs - 1) (drop 1 xs) in
      off ∙ sym (next xs x some is ∙ (ap (λ b. body b (entry_of x) more) passes ∙ ap (λ b. b && all more) (sym so ∙ off)))

  pub skips : (xs : List CodeEntry) (x : CodeEntry) (r : Bool) → 1 ≤ length xs → x ≡ get_or xs 0 x → t (entry_of x) ≡ false →
      r ≡ all (take (length xs - 1) (drop 1 xs)) → r ≡ all xs
  skips xs x r some is fails rest =
      let more = take (length xs - 1) (drop 1 xs) in
      rest ∙ sym (next xs x some is ∙ ap (λ b. body b (entry_of x) more) fails)
