-- What the texts of all faults and of all paths begin with, and that there is one of all faults.
use Rattle.std.proofs.Common.{◌≡◌, ◌+◌, ℕ, suc, List, [], ◌∷◌, ◌++◌, length, Option, Some, slice_get, refl, sym, ap, ◌∙◌, subst, codes, arith}
use Rattle.std.specs.Fmt.{decimal}
use Rattle.std.specs.List.{flat_map}
use Rattle.std.proofs.lemmas.Fmt.{decimal_digit}
use Rattle.std.proofs.lemmas.List.{append_assoc}
use Rattle.vlt_core.specs.Core.{Name, Func, Program}
use Rattle.vlt_core.specs.Faults.{FlowFault, IsFirstFault}
use Rattle.vlt_core.specs.Witness.{Choice, IsWitness}
use Rattle.vlt_reports.specs.Reports.{fault_line, instance_text, paths_text}
use Rattle.vlt_all_faults_laws.specs.Each.{Finding, AreAllFindings, AreFindingsIn}
use Rattle.vlt_all_faults_laws.specs.Laws.{fault_at, AreNone, BeginsWith, HasOneListing, BeginsWithFirst}
use Rattle.vlt_all_faults_lines.specs.Lines.{finding_line, finding_lines, total, count_line, faults_text, IsFaultsText, IsShown, AreWrittenOf, AreWrittenIn, IsPathsText}

pub one_text : (p : Program) → HasOneListing p → (text a b : List ℕ) → IsFaultsText text p a → IsFaultsText text p b → a ≡ b
one_text p law text a b x y = x.2 ∙ ap (faults_text text p) (law x.0 y.0 x.1 y.1) ∙ sym y.2

-- ---- the first fault

some_same : {X : Type 0} {x y : X} → Some x ≡ Some y → x ≡ y
some_same e = cc

-- the functions that stand from the number n on
abbrev pub AreFrom : Program → (n : ℕ) → List Func → Type 0
AreFrom p n fs = (i : ℕ) (f : Func) → slice_get fs i ≡ Some f → slice_get p.fns (n + i) ≡ Some f

from_next : (p : Program) (n : ℕ) (f : Func) (fs : List Func) → AreFrom p n (f ∷ fs) → AreFrom p (n + 1) fs
from_next p n f fs at i g is = subst (λ m. slice_get p.fns m ≡ Some g) (let e : n + suc i ≡ n + 1 + i = omega arith in e) (at (suc i) g is)

from_first : (p : Program) → AreFrom p 0 p.fns
from_first p i f is = subst (λ m. slice_get p.fns m ≡ Some f) (let e : i ≡ 0 + i = omega arith in e) is

here_is : (p : Program) (n : ℕ) (f g : Func) (fs : List Func) → AreFrom p n (g ∷ fs) → slice_get p.fns n ≡ Some f → g ≡ f
here_is p n f g fs at there =
    some_same (sym (subst (λ m. slice_get p.fns m ≡ Some g) (let e : n + 0 ≡ n = omega arith in e) (at 0 g refl)) ∙ there)

module _ (text : List ℕ) (p : Program) where
  abbrev pub BeginsLike : FlowFault → Func → (lines : List ℕ) → Type 0
  BeginsLike x f lines = (rest : List ℕ) × (lines ≡ fault_line text p f x.at x.tok x.kind ++ rest)

  begins_here : (n : ℕ) (x : FlowFault) (f g : Func) (y : Finding) (ys : List Finding) (after : List ℕ) → fault_at n y ≡ x → g ≡ f →
      BeginsLike x f (flat_map (finding_line text p g) (y ∷ ys) ++ after)
  begins_here n x f g y ys after is same =
      let more = flat_map (finding_line text p g) ys in
      subst (λ x. BeginsLike x f (flat_map (finding_line text p g) (y ∷ ys) ++ after)) is
      (subst (λ f. BeginsLike (fault_at n y) f (flat_map (finding_line text p g) (y ∷ ys) ++ after)) same
      (more ++ after, append_assoc (finding_line text p g y) more after))

  begins_in : (x : FlowFault) (f : Func) (n : ℕ) (fs : List Func) (all : List (List Finding)) → AreFrom p n fs → slice_get p.fns x.function ≡ Some f →
      AreFindingsIn p fs all → BeginsWith x n all → BeginsLike x f (finding_lines text p fs all)
  begins_in x f n [] [] at there each begins = absurd begins
  begins_in x f n [] (xs ∷ all) at there each begins = absurd each
  begins_in x f n (g ∷ fs) [] at there each begins = absurd each
  begins_in x f n (g ∷ fs) ([] ∷ all) at there each begins = begins_in x f (n + 1) fs all (from_next p n g fs at) there each.1 begins
  begins_in x f n (g ∷ fs) ((y ∷ ys) ∷ all) at there each begins =
      begins_here n x f g y ys (finding_lines text p fs all) begins
      (here_is p n f g fs at (subst (λ m. slice_get p.fns m ≡ Some f) (ap (λ (z : FlowFault). z.function) (sym begins)) there))

  pub begins : (lines : List ℕ) (x : FlowFault) (f : Func) → BeginsWithFirst p → IsFirstFault p x → slice_get p.fns x.function ≡ Some f →
      IsFaultsText text p lines → BeginsLike x f lines
  begins lines x f law first there (all, each, is) =
      let found = begins_in x f 0 p.fns all (from_first p) there each (law x all first each) in
      let line = fault_line text p f x.at x.tok x.kind in
      (found.0 ++ count_line all, is ∙ ap (λ l. l ++ count_line all) found.1 ∙ append_assoc line found.0 (count_line all))

  -- ---- and its paths

  module _ (variable : ℕ → Name) where
    pub record ShownLike (x : FlowFault) (f : Func) (lines : List ℕ) : Type 0 where
      pub first : List Choice
      pub second : Option (List Choice)
      pub rest : List ℕ
      pub shows : IsWitness p x first second
      pub is : lines ≡ fault_line text p f x.at x.tok x.kind ++ paths_text text p f (instance_text p f (variable x.function) x.origin) first second ++ rest

    shown_on : (x : FlowFault) (f : Func) (lines after : List ℕ) → ShownLike x f lines → ShownLike x f (lines ++ after)
    shown_on x f lines after s =
        let line = fault_line text p f x.at x.tok x.kind ++ paths_text text p f (instance_text p f (variable x.function) x.origin) s.first s.second in
        record { first = s.first; second = s.second; rest = s.rest ++ after; shows = s.shows; is = ap (λ l. l ++ after) s.is ∙ append_assoc line s.rest after }

    shown_here : (n : ℕ) (x : FlowFault) (f g : Func) (y : Finding) (ys : List Finding) (lines : List ℕ) → fault_at n y ≡ x → g ≡ f →
        AreWrittenOf (IsShown text p (variable n) n g) (y ∷ ys) lines → ShownLike x f lines
    shown_here n x f g y ys lines is same (first, rest, shown, others, split) =
        let paths = shown.0 in
        let of = shown.1 in
        subst (λ x. ShownLike x f lines) is (subst (λ f. ShownLike (fault_at n y) f lines) same (record {
          first = of.0;
          second = of.1;
          rest = rest;
          shows = of.2;
          is = split ∙ ap (λ l. l ++ rest) (shown.2 ∙ ap (λ l. finding_line text p g y ++ l) of.3);
        }))

    shown_in : (x : FlowFault) (f : Func) (n : ℕ) (fs : List Func) (all : List (List Finding)) (lines : List ℕ) → AreFrom p n fs → slice_get p.fns x.function ≡ Some f →
        AreFindingsIn p fs all → BeginsWith x n all → AreWrittenIn (λ n f. IsShown text p (variable n) n f) n fs all lines → ShownLike x f lines
    shown_in x f n [] [] lines at there each begins shown = absurd begins
    shown_in x f n [] (xs ∷ all) lines at there each begins shown = absurd each
    shown_in x f n (g ∷ fs) [] lines at there each begins shown = absurd each
    shown_in x f n (g ∷ fs) ([] ∷ all) lines at there each begins (first, rest, none, shown, split) =
        subst (ShownLike x f) (sym (split ∙ ap (λ l. l ++ rest) none)) (shown_in x f (n + 1) fs all rest (from_next p n g fs at) there each.1 begins shown)
    shown_in x f n (g ∷ fs) ((y ∷ ys) ∷ all) lines at there each begins (first, rest, here, shown, split) =
        subst (ShownLike x f) (sym split) (shown_on x f first rest (shown_here n x f g y ys first begins
        (here_is p n f g fs at (subst (λ m. slice_get p.fns m ≡ Some f) (ap (λ (z : FlowFault). z.function) (sym begins)) there)) here))

    pub shown_first : (lines : List ℕ) (x : FlowFault) (f : Func) → BeginsWithFirst p → IsFirstFault p x → slice_get p.fns x.function ≡ Some f →
        IsPathsText text p variable lines → ShownLike x f lines
    shown_first lines x f law first there (all, shown, each, written, is) =
        subst (ShownLike x f) (sym is) (shown_on x f shown (count_line all) (shown_in x f 0 p.fns all shown (from_first p) there each (law x all first each) written))

-- ---- none

none_lines : (text : List ℕ) (p : Program) (fs : List Func) (all : List (List Finding)) → AreNone all → finding_lines text p fs all ≡ []
none_lines text p [] all none = refl
none_lines text p (f ∷ fs) [] none = refl
none_lines text p (f ∷ fs) (xs ∷ all) none =
    ap (λ xs. flat_map (finding_line text p f) xs ++ finding_lines text p fs all) none.0 ∙ none_lines text p fs all none.1

none_total : (all : List (List Finding)) → AreNone all → total all ≡ 0
none_total [] none = refl
none_total (xs ∷ all) none =
    let e : length xs ≡ 0 = ap length none.0 in
    let rest = none_total all none.1 in
    omega (arith, e, rest)

pub none_text : (text lines : List ℕ) (p : Program) → ((all : List (List Finding)) → AreAllFindings p all → AreNone all) → IsFaultsText text p lines → lines ≡ codes "faults 0\n"
none_text text lines p law (all, each, is) =
    let none = law all each in
    is ∙ ap (λ l. l ++ count_line all) (none_lines text p p.fns all none) ∙ ap (λ n. codes "faults " ++ decimal n ++ codes "\n") (none_total all none) ∙
    ap (λ ds. codes "faults " ++ ds ++ codes "\n") (decimal_digit 0 (omega arith))
