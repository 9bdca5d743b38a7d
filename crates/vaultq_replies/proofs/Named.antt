-- The names of a tree's first functions, and what is written with them.
use Rattle.std.proofs.Common.{◌≡◌, ◌<◌, ◌≤◌, ◌+◌, ℕ, zero, suc, List, [], ◌∷◌, ◌++◌, length, ◌∙◌, ap, refl, sym, subst, ⊎_elim, arith}
use Rattle.std.proofs.lemmas.Bool.{cases_lt}
use Rattle.std.proofs.lemmas.List.{length-append}
use Rattle.std.specs.Borrow.{Bor}
use Rattle.std.specs.Prelude.{map, slice_get, unwrap_or}
use Rattle.vlt_core.specs.Core.{Name, Func, Program}
use Rattle.vlt_syntax.specs.Tree.{Tree}
use Rattle.vlt_all_faults_laws.specs.Each.{Finding}
use Rattle.vlt_all_faults_lines.specs.Lines.{Written, IsShown, AreWrittenOf, AreWrittenIn, IsPathsText}
use Rattle.vlt_all_faults_lines.specs.Unfit.{HasUntoldFunc}
use Rattle.vlt_points.specs.Lines.{AreFunctionLines, AreLinesOf, AreKeysLines, names_by}
use Rattle.vlt_points.specs.Unfit.{HasUnlisted}
use Rattle.vaultc_replies.specs.Variables.{variable_in}

-- ---- lists of names

-- a name by its number, as both lists of lines have it
pub by_number : (names : List (Bor (List ℕ))) (n : ℕ) → names_by names n ≡ unwrap_or (slice_get (map (λ name. name.now) names) n) []
by_number [] n = refl
by_number (y ∷ ys) zero = refl
by_number (y ∷ ys) (suc n) = by_number ys n

pub record AreNames (t : Tree) (names : List (Bor (List ℕ))) (n : ℕ) : Type 0 where
  pub many : length names ≡ n
  pub each : (i : ℕ) → i < n → names_by names i ≡ variable_in t i

before_end : (names : List (Bor (List ℕ))) (x : Bor (List ℕ)) (i : ℕ) → i < length names → names_by (names ++ x ∷ []) i ≡ names_by names i
before_end [] x i less = absurd (omega (arith, less))
before_end (y ∷ ys) x zero less = refl
before_end (y ∷ ys) x (suc i) less = before_end ys x i (omega (arith, less))

at_end : (names : List (Bor (List ℕ))) (x : Bor (List ℕ)) → names_by (names ++ x ∷ []) (length names) ≡ x.now
at_end [] x = refl
at_end (y ∷ ys) x = at_end ys x

pub names_first : (t : Tree) (names : List (Bor (List ℕ))) → names ≡ [] → AreNames t names 0
names_first t names none = record { many = ap length none; each = λ i less. absurd (omega (arith, less)) }

pub names_more : (t : Tree) (names : List (Bor (List ℕ))) (n : ℕ) (x : Bor (List ℕ)) → x.now ≡ variable_in t n → AreNames t names n → AreNames t (names ++ x ∷ []) (n + 1)
names_more t names n x is have = record {
  many = length-append names (x ∷ []) ∙ ap (λ m. m + 1) have.many;
  each = λ i less. ⊎_elim
      (λ early. before_end names x i (subst (λ m. i < m) (sym have.many) early) ∙ have.each i early)
      (λ late.
      let here : i ≡ length names = let many = have.many in omega (arith, less, late, many) in
      let at : i ≡ n = omega (arith, less, late) in
      ap (names_by (names ++ x ∷ [])) here ∙ at_end names x ∙ is ∙ ap (variable_in t) (sym at)) (cases_lt i n);
}

-- ---- what is written with names

-- Where the names of all functions are the same, what is written is: of faults with their paths
shown_in : (text : List ℕ) (p : Program) (v w : ℕ → Name) (most : ℕ) → ((i : ℕ) → i < most → v i ≡ w i) → (n : ℕ) (fs : List Func) (all : List (List Finding)) (lines : List ℕ) → n + length fs ≤ most
    → AreWrittenIn (λ n f. IsShown text p (v n) n f) n fs all lines → AreWrittenIn (λ n f. IsShown text p (w n) n f) n fs all lines
shown_in text p v w most same n [] all lines few is = is
shown_in text p v w most same n (f ∷ fs) [] lines few is = is
shown_in text p v w most same n (f ∷ fs) (xs ∷ all) lines few (first, rest, one, others, e) = (
  first,
  rest,
  subst (λ name. AreWrittenOf (IsShown text p name n f) xs first) (same n (omega (arith, few))) one,
  shown_in text p v w most same (n + 1) fs all rest (omega (arith, few)) others,
  e,
)

pub shown_as : (text : List ℕ) (p : Program) (v w : ℕ → Name) (lines : List ℕ) → ((i : ℕ) → i < length p.fns → v i ≡ w i) → IsPathsText text p v lines → IsPathsText text p w lines
shown_as text p v w lines same (all, shown, findings, written, e) =
    (all, shown, findings, shown_in text p v w (length p.fns) same 0 p.fns all shown (omega arith) written, e)

-- what is written of points
keys_in : (text : List ℕ) (p : Program) (v w : ℕ → Name) (most : ℕ) → ((i : ℕ) → i < most → v i ≡ w i) → (n : ℕ) (fs : List Func) (lines : List ℕ) → n + length fs ≤ most
    → AreLinesOf text p v n fs lines → AreLinesOf text p w n fs lines
keys_in text p v w most same n [] lines few is = is
keys_in text p v w most same n (f ∷ fs) lines few (first, one, (rest, others, e)) =
    (first, subst (λ name. AreFunctionLines text p f name first) (same n (omega (arith, few))) one, (rest, keys_in text p v w most same (n + 1) fs rest (omega (arith, few)) others, e))

pub keys_as : (text : List ℕ) (p : Program) (v w : ℕ → Name) (lines : List ℕ) → ((i : ℕ) → i < length p.fns → v i ≡ w i) → AreKeysLines text p v lines → AreKeysLines text p w lines
keys_as text p v w lines same is = keys_in text p v w (length p.fns) same 0 p.fns lines (omega arith) is

-- ---- why points can't be told

pub untold_of : {p : Program} → HasUnlisted p → HasUntoldFunc p
untold_of u = record { number = u.number; func = u.func; there = u.there; with_body = u.with_body; untold = u.untold }
