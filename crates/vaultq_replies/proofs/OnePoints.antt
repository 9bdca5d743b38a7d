-- A program has one text of what is found at its points.
use Rattle.std.proofs.Common.{◌≡◌, ◌<◌, ◌+◌, ℕ, zero, suc, Bool, true, false, MatchBool, List, [], ◌∷◌, ◌++◌, map, length, drop, get_or, Option, refl, sym, ap, ◌∙◌, arith}
use Rattle.std.specs.Prelude.{codes}
use Rattle.std.specs.List.{flat_map, Contains}
use Rattle.vlt_core.specs.Core.{Name, Tok, Func, Program}
use Rattle.vlt_core.specs.Instances.{instance, origins}
use Rattle.vlt_core_laws.specs.Sweep.{Many}
use Rattle.vlt_reports.specs.Reports.{place_text}
use Rattle.vlt_points_laws.specs.Points.{AreFoundIn, places_in}
use Rattle.vlt_points.specs.Lines.{Point, token_text, tokens_of, point_line, point_lines, function_line, AreInstanceLines, AreOriginLines, AreFunctionLines, AreLinesOf, AreKeysLines}

-- what is found of a token is one list of tables, as `vlt_points_laws` proves
abbrev pub HasOneList : Type 0
HasOneList = (p : Program) (f : Func) (t : Tok) (ms ns : List Many) → AreFoundIn p f t ms → AreFoundIn p f t ns → ms ≡ ns

-- ---- points

each_text : (g h : Tok → List ℕ) (ts : List Tok) → ((t : Tok) → Contains ts t → g t ≡ h t) → flat_map g ts ≡ flat_map h ts
each_text g h [] same = refl
each_text g h (t ∷ ts) same = λ i.
    same t (0, omega arith, refl) i ++ each_text g h ts (λ u there. same u (suc there.0, (let less = there.1 in omega (arith, less)), there.2)) i

module _ (text : List ℕ) (p : Program) (f : Func) where
  -- the same is found of each token
  abbrev AreSame : List Point → List Point → Type 0
  AreSame ms ns = (t : Tok) → Contains (tokens_of f) t → map (λ m. m t) ms ≡ map (λ m. m t) ns

  one_line : (at : ℕ) (m n : Point) → ((t : Tok) → Contains (tokens_of f) t → m t ≡ n t) → point_line text p f at m ≡ point_line text p f at n
  one_line at m n same = ap (λ l. place_text text at ++ l ++ codes "\n")
      (each_text (λ t. token_text p f t (m t)) (λ t. token_text p f t (n t)) (tokens_of f) (λ t own. ap (token_text p f t) (same t own)))

  one_page : (places : List ℕ) (ms ns : List Point) → length ms ≡ length ns → AreSame ms ns → point_lines text p f places ms ≡ point_lines text p f places ns
  one_page [] ms ns long same = refl
  one_page (at ∷ ats) [] [] long same = refl
  one_page (at ∷ ats) [] (n ∷ ns) long same = absurd (omega (arith, long))
  one_page (at ∷ ats) (m ∷ ms) [] long same = absurd (omega (arith, long))
  one_page (at ∷ ats) (m ∷ ms) (n ∷ ns) long same = λ i.
      one_line at m n (λ t own. ap (λ l. get_or l 0 (m t)) (same t own)) i ++
      one_page ats ms ns (omega (arith, long)) (λ t own. ap (drop 1) (same t own)) i

-- ---- instances and functions

module _ (law : HasOneList) (text : List ℕ) (p : Program) where
  one_instance : (f : Func) (v : Name) (o : Option ℕ) (a b : List ℕ) → AreInstanceLines text p f v o a → AreInstanceLines text p f v o b → a ≡ b
  one_instance f v o a b (ms, of_ms, is_a) (ns, of_ns, is_b) =
      is_a ∙ ap (λ l. function_line p f v o ++ l) (one_page text p f (places_in p (instance p f o)) ms ns (of_ms.long ∙ sym of_ns.long)
      (λ t own. law p (instance p f o) t (map (λ m. m t) ms) (map (λ n. n t) ns) (of_ms.each t own) (of_ns.each t own))) ∙ sym is_b

  one_of_origins : (f : Func) (v : Name) (os : List (Option ℕ)) (a b : List ℕ) → AreOriginLines text p f v os a → AreOriginLines text p f v os b → a ≡ b
  one_of_origins f v [] a b is_a is_b = is_a ∙ sym is_b
  one_of_origins f v (o ∷ os) a b (x, of_x, (xs, of_xs, is_a)) (y, of_y, (ys, of_ys, is_b)) =
      is_a ∙ (λ i. one_instance f v o x y of_x of_y i ++ one_of_origins f v os xs ys of_xs of_ys i) ∙ sym is_b

  one_if : (external : Bool) (f : Func) (v : Name) (a b : List ℕ) → MatchBool external (a ≡ []) (AreOriginLines text p f v (origins p f) a) →
      MatchBool external (b ≡ []) (AreOriginLines text p f v (origins p f) b) → a ≡ b
  one_if true f v a b none_a none_b = none_a ∙ sym none_b
  one_if false f v a b of_a of_b = one_of_origins f v (origins p f) a b of_a of_b

  one_of_functions : (vs : ℕ → Name) (n : ℕ) (fs : List Func) (a b : List ℕ) → AreLinesOf text p vs n fs a → AreLinesOf text p vs n fs b → a ≡ b
  one_of_functions vs n [] a b is_a is_b = is_a ∙ sym is_b
  one_of_functions vs n (f ∷ fs) a b (x, of_x, (xs, of_xs, is_a)) (y, of_y, (ys, of_ys, is_b)) =
      is_a ∙ (λ i. one_if f.external f (vs n) x y of_x of_y i ++ one_of_functions vs (n + 1) fs xs ys of_xs of_ys i) ∙ sym is_b

pub one_listing : HasOneList → (text : List ℕ) (p : Program) (variable : ℕ → Name) (a b : List ℕ) → AreKeysLines text p variable a → AreKeysLines text p variable b → a ≡ b
one_listing law text p vs a b = one_of_functions law text p vs 0 p.fns a b
