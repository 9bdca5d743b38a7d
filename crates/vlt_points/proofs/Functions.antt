-- The lines of instances and of functions, one after another.
use Rattle.std.proofs.Common.{◌≡◌, ◌↔◌, ◌<◌, ◌≤◌, ◌+◌, ◌^◌, ℕ, true, false, MatchBool, List, [], ◌∷◌, ◌++◌, map, length, drop, get_or, Option, Some, slice_get, refl, sym, ap, ◌∙◌, subst, append_assoc, append-nil, arith}
use Rattle.std.proofs.lemmas.List.{drop_all, length-map, get_or-map}
use Rattle.std.proofs.lemmas.Option.{slice_get-get_or}
use Rattle.vlt_core.specs.Core.{Name, Tok, Func, Program}
use Rattle.vlt_core.specs.Bodies.{body_flow}
use Rattle.vlt_core.specs.Derives.{start_map}
use Rattle.vlt_core.specs.Flow.{Block, size_block}
use Rattle.vlt_core.specs.Found.{One, Has}
use Rattle.vlt_core.specs.Instances.{origins, instance}
use Rattle.vlt_core.specs.Maps.{HeldMap}
use Rattle.vlt_core.specs.View.{program_of, func_of}
use Rattle.vlt_core.specs.declared.program.Func as code_func
use Rattle.vlt_core.specs.declared.program.Program as code_program
use Rattle.vlt_core_laws.specs.Sweep.{In, IsSameOnes, IsFoundIn}
use Rattle.vlt_core_laws.proofs.Origins.{origin_is}
use Rattle.vlt_core_laws.proofs.Sweeping as sweeping
use Rattle.vlt_faults.specs.declared.finding.ones.Ones as code
use Rattle.vlt_faults.specs.Judge.Faulty.{IsUntold, HasUntold}
use Rattle.vlt_points_laws.specs.Points.{AreFoundBlock, places_block}
use Rattle.vlt_points_laws.proofs.Same.{block_found_same}
use Rattle.vlt_points.specs.declared.page.Source.{Source}
use Rattle.vlt_points.specs.Founds.{found, IsTokenOf}
use Rattle.vlt_points.specs.Keeps.{Marks, stock}
use Rattle.vlt_points.specs.Lines.{function_line, point_lines, AreInstanceLines, AreOriginLines, AreFunctionLines, AreLinesOf}
use Rattle.vlt_points.specs.Unfit.{HasUnlisted}
use Rattle.vlt_points.specs.Writing.{AddsLines, IsWritten, FittingBlock, HasRoomFrom}
use Rattle.vlt_points.proofs.Texts.{token_of}

-- lines of the first ones were added, and what comes after them are lines of the rest
pub record Going (F G : List ℕ → Type 0) (old new : List ℕ) : Type 0 where
  pub lines : List ℕ
  pub is : new ≡ old ++ lines
  pub rest : (more : List ℕ) → G more → F (lines ++ more)

pub going_first : (F : List ℕ → Type 0) (old : List ℕ) → Going F F old old
going_first F old = record { lines = []; is = sym (append-nil old); rest = λ more f. f }

-- G is lines of one, and then lines of the rest
pub going_more : (F A G H : List ℕ → Type 0) (old mid new : List ℕ) → Going F G old mid → AddsLines mid new A → ((first rest : List ℕ) → A first → H rest → G (first ++ rest)) → Going F H old new
going_more F A G H old mid new q x f = record {
  lines = q.lines ++ x.0;
  is = x.2 ∙ ap (λ l. l ++ x.0) q.is ∙ append_assoc old q.lines x.0;
  rest = λ more h. subst F (sym (append_assoc q.lines x.0 more)) (q.rest (x.0 ++ more) (f x.0 more x.1 h));
}

pub going_ends : (F G : List ℕ → Type 0) (old new : List ℕ) → Going F G old new → G [] → AddsLines old new F
going_ends F G old new q g = (q.lines, subst F (append-nil q.lines) (q.rest [] g), q.is)

-- ---- instances

pub fits_start : (b : Block) (m : List code.Ones) (k : Marks) → ((t : Tok) → IsFoundIn t b (In (found m t)) (stock k t)) → FittingBlock k b 0 m
fits_start b m k f t = sweeping.fits_block b (λ i. In ((stock k t).around i)) (λ i. In ((stock k t).following i)) t 0 (In (found m t))
    (record { there = λ i o p q x. ((f t).around i o).0 x; back = λ i o x. ((f t).around i o).1 x })
    (record { there = λ i o p q x. ((f t).following i o).0 x; back = λ i o x. ((f t).following i o).1 x })

pub room_start : (b : Block) (count : ℕ) (k : Marks) → count ≡ size_block b → count < 2 ^ 62 → length k.around ≡ count → length k.following ≡ count → HasRoomFrom k 0 (size_block b)
room_start b count k same few a f = record { fits = omega (arith, same, a); long = f ∙ sym a; few = omega (arith, few, a) }

pub instance_added : (s : Source) (v : Name) (o : Option ℕ) (b : Block) (h : HeldMap) (m : List code.Ones) (old head new : List ℕ) →
    head ≡ old ++ function_line (program_of s.program.now) (func_of s.func.now) v o → b ≡ body_flow (program_of s.program.now) (instance (program_of s.program.now) (func_of s.func.now) o) →
    h ≡ start_map (program_of s.program.now) (instance (program_of s.program.now) (func_of s.func.now) o) → ((t : Tok) → IsTokenOf (func_of s.func.now) t → (o : One) → In (found m t) o ↔ Has (h t) o) →
    IsWritten s (λ t. AreFoundBlock t b (In (found m t))) (places_block b) head new → AddsLines old new (AreInstanceLines s.text.now (program_of s.program.now) (func_of s.func.now) v o)
instance_added s v o b h m old head new e body start at w = (
  function_line (program_of s.program.now) (func_of s.func.now) v o ++ point_lines s.text.now (program_of s.program.now) (func_of s.func.now) (places_block b) w.points,
  (
    w.points,
    record {
      each = λ t own. let is = token_of (func_of s.func.now) t own in
          block_found_same t (body_flow (program_of s.program.now) (instance (program_of s.program.now) (func_of s.func.now) o)) (In (found m t)) (Has (start_map (program_of s.program.now) (instance (program_of s.program.now) (func_of s.func.now) o) t))
          (subst (λ h. IsSameOnes (In (found m t)) (Has (h t))) start (record { there = λ o x. (at t is o).0 x; back = λ o x. (at t is o).1 x }))
          (map (λ m. m t) w.points) (subst (λ b. AreFoundBlock t b (In (found m t)) (map (λ m. m t) w.points)) body (w.each t));
      long = w.long ∙ ap (λ b. length (places_block b)) body;
    },
    ap (λ b. function_line (program_of s.program.now) (func_of s.func.now) v o ++ point_lines s.text.now (program_of s.program.now) (func_of s.func.now) (places_block b) w.points) body,
  ),
  w.is ∙ ap (λ l. l ++ point_lines s.text.now (program_of s.program.now) (func_of s.func.now) (places_block b) w.points) e ∙
      append_assoc old (function_line (program_of s.program.now) (func_of s.func.now) v o) (point_lines s.text.now (program_of s.program.now) (func_of s.func.now) (places_block b) w.points),
)

-- ---- instances, one after another

module _ (text : List ℕ) (p : Program) (f : Func) (v : Name) (os : List (Option ℕ)) where
  abbrev pub Origins : ℕ → List ℕ → List ℕ → Type 0
  Origins i old new = Going (AreOriginLines text p f v os) (AreOriginLines text p f v (drop i os)) old new

  pub origins_first : (old : List ℕ) → Origins 0 old old
  origins_first old = going_first (AreOriginLines text p f v os) old

  pub origins_more : (i : ℕ) (o : Option ℕ) (old mid new : List ℕ) → drop i os ≡ o ∷ drop (i + 1) os → Origins i old mid → AddsLines mid new (AreInstanceLines text p f v o) → Origins (i + 1) old new
  origins_more i o old mid new e q x = going_more (AreOriginLines text p f v os) (AreInstanceLines text p f v o) (AreOriginLines text p f v (drop i os)) (AreOriginLines text p f v (drop (i + 1) os)) old mid new q x
      (λ first rest a h. subst (λ l. AreOriginLines text p f v l (first ++ rest)) (sym e) (first, a, (rest, h, refl)))

  pub origins_end : (i : ℕ) (old new : List ℕ) → length os ≤ i → Origins i old new → AddsLines old new (AreOriginLines text p f v os)
  origins_end i old new past q = going_ends (AreOriginLines text p f v os) (AreOriginLines text p f v (drop i os)) old new q (subst (λ l. AreOriginLines text p f v l []) (sym (drop_all i os past)) refl)

-- ---- functions, one after another

module _ (text : List ℕ) (p : Program) (vs : ℕ → Name) (fs : List code_func.Func) where
  abbrev pub Functions : ℕ → List ℕ → Type 0
  Functions i new = Going (AreLinesOf text p vs 0 (map func_of fs)) (AreLinesOf text p vs i (map func_of (drop i fs))) [] new

  pub functions_first : Functions 0 []
  functions_first = going_first (AreLinesOf text p vs 0 (map func_of fs)) []

  pub functions_more : (i : ℕ) (f : code_func.Func) (mid new : List ℕ) → drop i fs ≡ f ∷ drop (i + 1) fs → Functions i mid → AddsLines mid new (AreFunctionLines text p (func_of f) (vs i)) → Functions (i + 1) new
  functions_more i f mid new e q x = going_more (AreLinesOf text p vs 0 (map func_of fs)) (AreFunctionLines text p (func_of f) (vs i)) (AreLinesOf text p vs i (map func_of (drop i fs))) (AreLinesOf text p vs (i + 1) (map func_of (drop (i + 1) fs))) [] mid new q x
      (λ first rest a h. subst (λ l. AreLinesOf text p vs i (map func_of l) (first ++ rest)) (sym e) (first, a, (rest, h, refl)))

  pub functions_end : (i : ℕ) (new : List ℕ) → length fs ≤ i → Functions i new → AreLinesOf text p vs 0 (map func_of fs) new
  functions_end i new past q =
      let x = going_ends (AreLinesOf text p vs 0 (map func_of fs)) (AreLinesOf text p vs i (map func_of (drop i fs))) [] new q (subst (λ l. AreLinesOf text p vs i (map func_of l) []) (sym (drop_all i fs past)) refl) in
      subst (AreLinesOf text p vs 0 (map func_of fs)) (sym x.2) x.1

-- an external has none
pub external_lines : (text : List ℕ) (p : Program) (f : Func) (v : Name) (old : List ℕ) → f.external ≡ true → AddsLines old old (AreFunctionLines text p f v)
external_lines text p f v old e =
    let none : List ℕ = [] in
    let none_same : none ≡ none = refl in
    (none, subst (λ b. MatchBool b (none ≡ []) (AreOriginLines text p f v (origins p f) none)) (sym e) none_same, sym (append-nil old))

pub function_lines : (text : List ℕ) (p : Program) (f : Func) (v : Name) (old new : List ℕ) → f.external ≡ false → AddsLines old new (AreOriginLines text p f v (origins p f)) → AddsLines old new (AreFunctionLines text p f v)
function_lines text p f v old new e x = (x.0, subst (λ b. MatchBool b (x.0 ≡ []) (AreOriginLines text p f v (origins p f) x.0)) (sym e) x.1, x.2)

-- ---- why there are none

pub untold_at : (p : Program) (f : Func) (i : ℕ) (o : Option ℕ) → slice_get (origins p f) i ≡ Some o → IsUntold p (instance p f o) → HasUntold p f
untold_at p f i o at u = record { origin = o; is = origin_is p f i o at; untold = u }

pub split_as : {X : Type 0} (os qs : List X) (i : ℕ) (o : X) → os ≡ qs → drop i os ≡ o ∷ drop (i + 1) os → drop i qs ≡ o ∷ drop (i + 1) qs
split_as os qs i o e q = subst (λ l. drop i l ≡ o ∷ drop (i + 1) l) e q

pub unlisted_at : (p : code_program.Program) (f : code_func.Func) (i : ℕ) → i < length p.fns → f ≡ get_or p.fns i f → ((func_of f).external ≡ false) × HasUntold (program_of p) (func_of f) → HasUnlisted (program_of p)
unlisted_at p f i lt read u = record {
  number = i;
  func = func_of f;
  there = let long = length-map p.fns func_of in
      slice_get-get_or (map func_of p.fns) i (func_of f) (omega (arith, lt, long)) ∙ ap Some (get_or-map func_of p.fns i f (func_of f) lt ∙ ap func_of (sym read));
  with_body = u.0;
  untold = u.1;
}
