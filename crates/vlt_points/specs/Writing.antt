-- How the lines of points are written; private contracts alone cite this.
use Rattle.std.specs.Prelude.{◌≡◌, ◌<◌, ◌≤◌, ◌^◌, ℕ, ◌+◌, Bool, true, false, List, [], ◌∷◌, ◌++◌, map, filter, length, All}
use Rattle.std.specs.List.{flat_map, range_with_len}
use Rattle.vlt_core.specs.Core.{Tok, a_key, a_var, Func, Program}
use Rattle.vlt_core.specs.Lookups.{is_owning_var}
use Rattle.vlt_core.specs.View.{tok_of, program_of, func_of}
use Rattle.vlt_core.specs.Flow.{Flow, Block, Stmts, Arms, size, size_block, size_stmts, size_arms, passes, passes_block, passes_stmts, passes_arms}
use Rattle.vlt_core.specs.Found.{Ones, out, out_block, out_stmts, to_next}
use Rattle.vlt_core_laws.specs.Sweep.{Many, In, IsSameOnes, Fits, FitsBlock, FitsStmts, FitsArms}
use Rattle.vlt_faults.specs.declared.finding.ones.Ones as code
use Rattle.vlt_faults.specs.Finding.Ones.{many_of}
use Rattle.vlt_reports.specs.Placed.{IsPlace}
use Rattle.vlt_points_laws.specs.Points.{AreFound, AreFoundBlock, AreFoundStmts, AreFoundArms, places, places_block, places_stmts, places_arms}
use Rattle.vlt_points.specs.declared.page.TokenText.{TokenText}
use Rattle.vlt_points.specs.declared.page.Page.{Page}
use Rattle.vlt_points.specs.declared.page.Source.{Source}
use Rattle.vlt_points.specs.declared.points.Came.{Came}
use Rattle.vlt_points.specs.Founds.{found}
use Rattle.vlt_points.specs.Keeps.{Marks, stock}
use Rattle.vlt_points.specs.Lines.{Point, token_text, tokens_of, point_line, point_lines}

-- ---- tokens

-- what is written where this is found
abbrev pub IsTokenText : Program → Func → TokenText → Type 0
IsTokenText p f x = x.text.items ≡ token_text p f (tok_of x.tok) (many_of x.ones)

abbrev pub AreTokenTexts : Program → Func → List TokenText → Type 0
AreTokenTexts p f xs = All (IsTokenText p f) xs

abbrev pub toks_in : List TokenText → List Tok
toks_in xs = map (λ x. tok_of x.tok) xs

abbrev pub keys_of : Func → List Tok
keys_of f = map a_key (range_with_len 0 (length f.keys))

abbrev pub vars_of : Func → List Tok
vars_of f = map a_var (filter (is_owning_var f) (range_with_len 0 (length f.vars)))

-- the variable, if so
abbrev pub var_if : Bool → ℕ → List Tok
var_if true v = a_var v ∷ []
var_if false v = []

-- of tokens one after another
abbrev pub tokens_text : Program → Func → List Tok → Point → List ℕ
tokens_text p f ts m = flat_map (λ t. token_text p f t (m t)) ts

-- ---- points

-- the page has the function's tokens
pub record IsPage (text : List ℕ) (p : Program) (f : Func) (g : Page) : Type 0 where
  pub last : IsPlace text g.last
  pub toks : toks_in g.tokens.items ≡ tokens_of f
  pub texts : AreTokenTexts p f g.tokens.items

abbrev pub program_in : Source → Program
program_in s = program_of s.program.now

abbrev pub func_in : Source → Func
func_in s = func_of s.func.now

-- the same of what lines are written from
abbrev pub IsTextIn : Source → TokenText → Type 0
IsTextIn s x = IsTokenText (program_in s) (func_in s) x

abbrev pub AreTextsIn : Source → List TokenText → Type 0
AreTextsIn s xs = AreTokenTexts (program_in s) (func_in s) xs

abbrev pub text_in : Source → Tok → Many → List ℕ
text_in s t m = token_text (program_in s) (func_in s) t m

abbrev pub texts_in : Source → List Tok → Point → List ℕ
texts_in s ts m = tokens_text (program_in s) (func_in s) ts m

abbrev pub line_in : Source → (at : ℕ) → Point → List ℕ
line_in s at m = point_line s.text.now (program_in s) (func_in s) at m

abbrev pub IsPageOf : Source → Page → Type 0
IsPageOf s g = IsPage s.text.now (program_in s) (func_in s) g

-- Lines of points at these places were added; of each token this is so of what is found at them.
pub record IsWritten (s : Source) (A : Tok → List Many → Type 0) (places : List ℕ) (old new : List ℕ) : Type 0 where
  pub points : List Point
  pub each : (t : Tok) → A t (map (λ m. m t) points)
  pub long : length points ≡ length places
  pub is : new ≡ old ++ point_lines s.text.now (program_in s) (func_in s) places points

-- each table has just what is found there, of a part where m comes to its statement n
abbrev pub Fitting : Marks → Flow → ℕ → List code.Ones → Type 0
Fitting k s n m = (t : Tok) →
    Fits (λ i. In ((stock k t).around i)) (λ i. In ((stock k t).following i)) t s n (In (found m t))

abbrev pub FittingBlock : Marks → Block → ℕ → List code.Ones → Type 0
FittingBlock k s n m = (t : Tok) →
    FitsBlock (λ i. In ((stock k t).around i)) (λ i. In ((stock k t).following i)) t s n (In (found m t))

abbrev pub FittingStmts : Marks → Stmts → ℕ → List code.Ones → Type 0
FittingStmts k ss n m = (t : Tok) →
    FitsStmts (λ i. In ((stock k t).around i)) (λ i. In ((stock k t).following i)) t ss n (In (found m t))

abbrev pub FittingArms : Marks → Arms → ℕ → List code.Ones → Type 0
FittingArms k arms n m = (t : Tok) →
    FitsArms (λ i. In ((stock k t).around i)) (λ i. In ((stock k t).following i)) t arms n (In (found m t))

-- so many statements from n on have tables
pub record HasRoomFrom (k : Marks) (n count : ℕ) : Type 0 where
  pub fits : n + count ≤ length k.around
  pub long : length k.following ≡ length k.around
  pub few : length k.around < 2 ^ 63

-- just this comes out
abbrev pub Leaves : (Tok → Ones) → List code.Ones → Type 0
Leaves S m = (t : Tok) → IsSameOnes (In (found m t)) (S t)

-- the points of a part were added, that has so many statements from n on
pub record IsAdded (s : Source) (A : Tok → List Many → Type 0) (places : List ℕ) (n count : ℕ) (on : Bool) (old new : Page) (c : Came) : Type 0 where
  pub page : IsPageOf s new
  pub written : IsWritten s A places old.lines.items new.lines.items
  pub at : c.at ≡ n + count
  pub passes_is : c.passes ≡ on

-- the line of one point was added
abbrev pub IsPointWritten : Source → (at : ℕ) → (m : List code.Ones) → (old new : List ℕ) → Type 0
IsPointWritten s at m old new = IsWritten s (λ t ms. ms ≡ found m t ∷ []) (at ∷ []) old new

-- of a statement that no path comes out of
abbrev pub IsLastAdded : Source → (at n : ℕ) → List code.Ones → Page → Page → Came → Type 0
IsLastAdded s at n m old new c = IsAdded s (λ t ms. ms ≡ found m t ∷ []) (at ∷ []) n 1 false old new c

-- of a closing brace, if it is come to
abbrev pub IsEndAdded : Source → (at : ℕ) → (passes : Bool) → (m : List code.Ones) → Page → Page → Type 0
IsEndAdded s at true m old new = IsPointWritten s at m old.lines.items new.lines.items
IsEndAdded s at false m old new = new.lines.items ≡ old.lines.items

-- of a part to which m comes
abbrev pub IsFormAdded : Source → (at n : ℕ) → Flow → List code.Ones → Page → Page → Came → Type 0
IsFormAdded s at n f m old new c =
    IsAdded s (λ t. AreFound t f (In (found m t))) (places at f) n (size f) (passes f) old new c

abbrev pub IsBlockAdded : Source → (n : ℕ) → Block → List code.Ones → Page → Page → Came → Type 0
IsBlockAdded s n b m old new c =
    IsAdded s (λ t. AreFoundBlock t b (In (found m t))) (places_block b) n (size_block b) (passes_block b) old new c

abbrev pub IsListAdded : Source → (n : ℕ) → Stmts → List code.Ones → Page → Page → Came → Type 0
IsListAdded s n ss m old new c =
    IsAdded s (λ t. AreFoundStmts t ss (In (found m t))) (places_stmts ss) n (size_stmts ss) (passes_stmts ss) old new c

abbrev pub AreArmsAdded : Source → (n : ℕ) → Arms → List code.Ones → Page → Page → Came → Type 0
AreArmsAdded s n arms m old new c =
    IsAdded s (λ t. AreFoundArms t arms (In (found m t))) (places_arms arms) n (size_arms arms) (passes_arms arms) old new c

abbrev pub LeavesForm : Flow → (m left : List code.Ones) → Type 0
LeavesForm f m left = Leaves (λ t. out t f (In (found m t)) to_next) left

abbrev pub LeavesBlock : Block → (m left : List code.Ones) → Type 0
LeavesBlock b m left = Leaves (λ t. out_block t b (In (found m t)) to_next) left

abbrev pub LeavesStmts : Stmts → (m left : List code.Ones) → Type 0
LeavesStmts ss m left = Leaves (λ t. out_stmts t ss (In (found m t)) to_next) left

-- ---- instances, functions

-- lines of this kind were added
abbrev pub AddsLines : (old new : List ℕ) → (List ℕ → Type 0) → Type 0
AddsLines old new F = (lines : List ℕ) × F lines × (new ≡ old ++ lines)
