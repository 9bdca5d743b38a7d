-- What is written of functions, one after another.
use Rattle.std.proofs.Common.{◌≡◌, ◌<◌, ◌≤◌, ◌+◌, ℕ, false, true, Bool, MatchBool, List, [], ◌∷◌, ◌++◌, map, length, drop, get_or, Some, slice_get, refl, sym, ap, ◌∙◌, subst, arith}
use Rattle.std.specs.Borrow.{Bor}
use Rattle.std.specs.Option.{option_map, unwrap_or}
use Rattle.std.specs.List.{flat_map}
use Rattle.std.proofs.lemmas.List.{drop_all, append-nil, append_assoc, length-append}
use Rattle.std.proofs.lemmas.Option.{slice_get-map, slice_get-get_or}
use Rattle.vlt_core.specs.Core.{Name, Func, Program}
use Rattle.vlt_core_laws.specs.Fit.{IsWellFormed}
use Rattle.vlt_core_laws.proofs.Formed.{formed_bodies}
use Rattle.vlt_check_laws.specs.Shown.{IsFault}
use Rattle.vlt_all_faults_laws.specs.Each.{Finding, AreEach, AreFindings, AreFindingsOf, AreFindingsIn}
use Rattle.vlt_all_faults_laws.specs.Laws.{fault_at}
use Rattle.vlt_all_faults_lines.specs.Lines.{finding_line, finding_lines, total, count_line, IsFaultsText, Written, IsShown, AreWrittenOf, AreWrittenIn, IsPathsText, AreNamesBy}
use Rattle.vlt_all_faults_lines.specs.Steps.{IsFitFunc, AreFaultsAt}
use Rattle.vlt_all_faults_lines.proofs.Lists.{split_at, written_long}

-- What was written of the functions before; with the rest it is what is written of all.
pub record Telling {X : Type 0} (g : X → Func) (W : ℕ → Func → Written) (p : Program) (fs : List X) (i : ℕ) (out : List ℕ) (count : ℕ) : Type 0 where
  pub before : List (List Finding)
  pub written : (more : List (List Finding)) (rest : List ℕ) → AreWrittenIn W i (map g (drop i fs)) more rest → AreWrittenIn W 0 (map g fs) (before ++ more) (out ++ rest)
  pub fits : IsWellFormed p → (more : List (List Finding)) → AreFindingsIn p (map g (drop i fs)) more → AreFindingsIn p (map g fs) (before ++ more)
  pub count_is : (more : List (List Finding)) → total (before ++ more) ≡ count + total more
  pub few : count ≤ length out

abbrev pub WritesSome : Written → Type 0
WritesSome W = (x : Finding) (lines : List ℕ) → W x lines → 1 ≤ length lines

module _ {X : Type 0} (g : X → Func) (p : Program) (fs : List X) where
  pub there_at : (i : ℕ) (f : X) → i < length fs → f ≡ get_or fs i f → map g fs ≡ p.fns → slice_get p.fns i ≡ Some (g f)
  there_at i f lt read is =
      ap (λ l. slice_get l i) (sym is) ∙ slice_get-map g fs i ∙ ap (option_map g) (slice_get-get_or fs i f lt) ∙ ap (λ x. Some (g x)) (sym read)

  pub fit_at : (i : ℕ) (f : X) → i < length fs → f ≡ get_or fs i f → map g fs ≡ p.fns → IsWellFormed p → IsFitFunc p (g f)
  fit_at i f lt read is well body o origin =
      let fit = formed_bodies p i (g f) o well (there_at i f lt read is) body origin in
      record { fit = fit.fit; start = fit.start }

module _ {X : Type 0} (g : X → Func) (W : ℕ → Func → Written) (p : Program) (fs : List X) where
  pub telling_first : (out : List ℕ) → out ≡ [] → Telling g W p fs 0 out 0
  telling_first out none = record {
    before = [];
    written = λ more rest w. subst (λ o. AreWrittenIn W 0 (map g fs) more (o ++ rest)) (sym none) w;
    fits = λ well more q. q;
    count_is = λ more. omega arith;
    few = omega arith;
  }

  pub telling_more : (i : ℕ) (f : X) (out lines new : List ℕ) (count sum : ℕ) (xs : List Finding) → i < length fs → f ≡ get_or fs i f → map g fs ≡ p.fns →
      (IsFitFunc p (g f) → AreFindingsOf p (g f) xs) → WritesSome (W i (g f)) → AreWrittenOf (W i (g f)) xs lines → new ≡ out ++ lines → sum ≡ count + length xs → Telling g W p fs i out count →
      Telling g W p fs (i + 1) new sum
  telling_more i f out lines new count sum xs lt read is found some w added summed t =
      let split = split_at fs i f lt read in
      record {
        before = t.before ++ xs ∷ [];
        written = λ more rest q.
            subst (λ o. AreWrittenIn W 0 (map g fs) ((t.before ++ xs ∷ []) ++ more) o) (sym (append_assoc out lines rest) ∙ ap (λ o. o ++ rest) (sym added))
            (subst (λ a. AreWrittenIn W 0 (map g fs) a (out ++ (lines ++ rest))) (sym (append_assoc t.before (xs ∷ []) more))
            (t.written (xs ∷ more) (lines ++ rest) (subst (λ l. AreWrittenIn W i (map g l) (xs ∷ more) (lines ++ rest)) (sym split) (lines, rest, w, q, refl))));
        fits = λ well more q.
            subst (AreFindingsIn p (map g fs)) (sym (append_assoc t.before (xs ∷ []) more))
            (t.fits well (xs ∷ more) (subst (λ l. AreFindingsIn p (map g l) (xs ∷ more)) (sym split)
            (found (fit_at g p fs i f lt read is well), q)));
        count_is = λ more.
            let e = ap total (append_assoc t.before (xs ∷ []) more) in
            let n = t.count_is (xs ∷ more) in
            omega (arith, e, n, summed);
        few =
            let e : length new ≡ length out + length lines = ap length added ∙ length-append out lines in
            let long = written_long (W i (g f)) some xs lines w in
            let few = t.few in
            omega (arith, e, long, few, summed);
      }

  pub record Told (out : List ℕ) (count : ℕ) : Type 0 where
    pub all : List (List Finding)
    pub each : IsWellFormed p → AreFindingsIn p p.fns all
    pub written : AreWrittenIn W 0 p.fns all out
    pub counted : total all ≡ count

  pub telling_ends : (i : ℕ) (out : List ℕ) (count : ℕ) → length fs ≤ i → map g fs ≡ p.fns → Telling g W p fs i out count → Told out count
  telling_ends i out count past is t =
      let none = drop_all i fs past in
      record {
        all = t.before ++ [];
        each = λ well. subst (λ l. AreFindingsIn p l (t.before ++ [])) is (t.fits well [] (subst (λ l. AreFindingsIn p (map g l) []) (sym none) tt));
        written = subst (λ l. AreWrittenIn W 0 l (t.before ++ []) out) is (subst (AreWrittenIn W 0 (map g fs) (t.before ++ [])) (append-nil out)
            (t.written [] [] (subst (λ l. AreWrittenIn W i (map g l) [] []) (sym none) refl)));
        counted = let n = t.count_is [] in omega (arith, n);
      }

-- ---- lines

-- what `faults` writes of each
abbrev pub IsLine : (text : List ℕ) → Program → ℕ → Func → Written
IsLine text p n f x lines = lines ≡ finding_line text p f x

line_some : (text : List ℕ) (p : Program) (f : Func) (x : Finding) → 1 ≤ length (finding_line text p f x)
line_some text p f x = omega arith

pub line_is_some : (text : List ℕ) (p : Program) (n : ℕ) (f : Func) → WritesSome (IsLine text p n f)
line_is_some text p n f x lines is = subst (λ l. 1 ≤ length l) (sym is) (line_some text p f x)

pub lines_written : (text : List ℕ) (p : Program) (n : ℕ) (f : Func) (xs : List Finding) → AreWrittenOf (IsLine text p n f) xs (flat_map (finding_line text p f) xs)
lines_written text p n f [] = refl
lines_written text p n f (x ∷ xs) = (finding_line text p f x, flat_map (finding_line text p f) xs, refl, lines_written text p n f xs, refl)

lines_of : (text : List ℕ) (p : Program) (n : ℕ) (f : Func) (xs : List Finding) (lines : List ℕ) → AreWrittenOf (IsLine text p n f) xs lines → lines ≡ flat_map (finding_line text p f) xs
lines_of text p n f [] lines w = w
lines_of text p n f (x ∷ xs) lines (first, rest, is, others, split) = split ∙ (λ i. is i ++ lines_of text p n f xs rest others i)

lines_in : (text : List ℕ) (p : Program) (n : ℕ) (fs : List Func) (all : List (List Finding)) (lines : List ℕ) → AreWrittenIn (IsLine text p) n fs all lines → lines ≡ finding_lines text p fs all
lines_in text p n [] all lines w = w
lines_in text p n (f ∷ fs) [] lines w = w
lines_in text p n (f ∷ fs) (xs ∷ all) lines (first, rest, is, others, split) =
    split ∙ (λ i. lines_of text p n f xs first is i ++ lines_in text p (n + 1) fs all rest others i)

-- the text of all faults, from what was written of all functions
pub faults_told : {X : Type 0} (g : X → Func) (text : List ℕ) (p : Program) (fs : List X) (i count : ℕ) (out new : List ℕ) → length fs ≤ i → map g fs ≡ p.fns →
    ((all : List (List Finding)) → total all ≡ count → new ≡ out ++ count_line all) → Telling g (IsLine text p) p fs i out count → IsWellFormed p → IsFaultsText text p new
faults_told g text p fs i count out new past is last t well =
    let told = telling_ends g (IsLine text p) p fs i out count past is t in
    (told.all, told.each well, last told.all told.counted ∙ ap (λ o. o ++ count_line told.all) (lines_in text p 0 p.fns told.all out told.written))

-- ---- lines with paths

pub shown_is_some : (text : List ℕ) (p : Program) (v : Name) (n : ℕ) (f : Func) → WritesSome (IsShown text p v n f)
shown_is_some text p v n f x lines (paths, of, is) =
    let e : length lines ≡ length (finding_line text p f x) + length paths = ap length is ∙ length-append (finding_line text p f x) paths in
    let one = line_some text p f x in
    omega (arith, e, one)

-- the text of all paths
pub paths_told : {X : Type 0} (g : X → Func) (text : List ℕ) (p : Program) (variable : ℕ → Name) (fs : List X) (i count : ℕ) (out new : List ℕ) → length fs ≤ i → map g fs ≡ p.fns →
    ((all : List (List Finding)) → total all ≡ count → new ≡ out ++ count_line all) → Telling g (λ n f. IsShown text p (variable n) n f) p fs i out count → IsWellFormed p →
    IsPathsText text p variable new
paths_told g text p variable fs i count out new past is last t well =
    let told = telling_ends g (λ n f. IsShown text p (variable n) n f) p fs i out count past is t in
    (told.all, out, told.each well, told.written, last told.all told.counted)

-- a function is shown by the state variable of its number
pub shown_by : (text : List ℕ) (p : Program) (variable : ℕ → Name) (names : List (Bor (List ℕ))) (v : Name) (n i : ℕ) (f : Func) (xs : List Finding) (lines : List ℕ) → n ≡ i →
    AreNamesBy names variable → v ≡ unwrap_or (slice_get (map (λ name. name.now) names) n) [] → AreWrittenOf (IsShown text p v n f) xs lines →
    AreWrittenOf (IsShown text p (variable i) i f) xs lines
shown_by text p variable names v n i f xs lines same named is w =
    subst (λ m. AreWrittenOf (IsShown text p (variable m) m f) xs lines) same
    (subst (λ v. AreWrittenOf (IsShown text p v n f) xs lines) (is ∙ sym (named n)) w)

-- ---- the faults of a function

each_fault : (p : Program) (n : ℕ) (f : Func) (xs : List Finding) → slice_get p.fns n ≡ Some f → f.external ≡ false → AreEach p f xs → AreFaultsAt p n xs
each_fault p n f [] there body each = tt
each_fault p n f (x ∷ xs) there body each =
    let is : IsFault p (fault_at n x) = record {
      func = f;
      there = there;
      with_body = body;
      origin = each.0.is;
      spot = x.spot;
      place = refl;
      faulty = each.0.faulty;
      told = each.0.told;
    } in
    (is, each_fault p n f xs there body each.1)

faults_by : (p : Program) (n : ℕ) (f : Func) (b : Bool) (xs : List Finding) → slice_get p.fns n ≡ Some f → f.external ≡ b → MatchBool b (xs ≡ []) (AreFindings p f xs) → AreFaultsAt p n xs
faults_by p n f true xs there body none = subst (AreFaultsAt p n) (sym none) tt
faults_by p n f false xs there body q = each_fault p n f xs there body q.each

pub faults_at : (p : Program) (n : ℕ) (f : Func) (xs : List Finding) → slice_get p.fns n ≡ Some f → AreFindingsOf p f xs → AreFaultsAt p n xs
faults_at p n f xs there q = faults_by p n f f.external xs there refl q

-- ---- a function's list

pub none_of_external : (p : Program) (f : Func) (xs : List Finding) → f.external ≡ true → xs ≡ [] → AreFindingsOf p f xs
none_of_external p f xs external none = subst (λ b. MatchBool b (xs ≡ []) (AreFindings p f xs)) (sym external) none

pub all_of_body : (p : Program) (f : Func) (xs : List Finding) → f.external ≡ false → AreFindings p f xs → AreFindingsOf p f xs
all_of_body p f xs body found = subst (λ b. MatchBool b (xs ≡ []) (AreFindings p f xs)) (sym body) found
