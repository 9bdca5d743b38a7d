-- The lines of `keys`: what paths find of each token at each point.
use Rattle.std.specs.Prelude.{◌≡◌, ℕ, zero, suc, ◌+◌, Bool, true, false, ◌||◌, not, MatchBool, List, [], ◌∷◌, ◌++◌, map, filter, length, Contains, Option, codes, slice_index_or}
use Rattle.std.specs.Borrow.{Bor}
use Rattle.std.specs.List.{flat_map, range_with_len}
use Rattle.vlt_core.specs.Core.{Name, Tok, a_key, a_var, Func, Program}
use Rattle.vlt_core.specs.Lookups.{is_owning_var}
use Rattle.vlt_core.specs.Instances.{instance, origins}
use Rattle.vlt_core.specs.Found.{one_absent, one_held, one_lent, one_full}
use Rattle.vlt_core_laws.specs.Sweep.{Many}
use Rattle.vlt_reports.specs.Reports.{place_text, token_name, state_names, in_states, instance_text}
use Rattle.vlt_points_laws.specs.Points.{AreFoundIn, places_in}

-- ---- a token at a point

-- whether a state below n is in the set
abbrev pub has_below : ℕ → (ℕ → Bool) → Bool
has_below zero states = false
has_below (suc n) states = states n || has_below n states

-- a set of states has 32 at most
unfoldable pub has_some : (ℕ → Bool) → Bool
has_some = has_below 32

abbrev pub held_in : Many → ℕ → Bool
held_in m s = m (one_held s)

abbrev pub lent_in : Many → ℕ → Bool
lent_in m s = m (one_lent s)

-- whether some path comes with the token
abbrev pub has_present : Many → Bool
has_present m = has_some (held_in m) || (has_some (lent_in m) || m one_full)

abbrev pub text_if : Bool → List ℕ → List ℕ
text_if true text = text
text_if false text = []

-- a hidden key or variable is `_`
abbrev pub shown_name : Name → Name
shown_name [] = codes "_"
shown_name (c ∷ cs) = c ∷ cs

-- The states in which it is held; `:lent` with those in which it is lent; `:full`; `:absent` if some path comes without it;
-- `:none` if no path comes, as a row of the token stopped each.
abbrev pub statuses_text : Option (List Name) → Many → List ℕ
statuses_text names m =
    text_if (has_some (held_in m)) (in_states names (held_in m)) ++
    text_if (has_some (lent_in m)) (codes ":lent" ++ in_states names (lent_in m)) ++
    text_if (m one_full) (codes ":full") ++
    text_if (m one_absent) (codes ":absent") ++
    text_if (not (has_present m || m one_absent)) (codes ":none")

-- a token that is absent on all paths isn't written
abbrev pub token_text : Program → Func → Tok → Many → List ℕ
token_text p f t m = text_if (has_present m || not (m one_absent))
    (codes " " ++ shown_name (token_name f t) ++ statuses_text (state_names p f t) m)

-- ---- points

-- keys and owning variables, each kind by number
abbrev pub tokens_of : Func → List Tok
tokens_of f =
    map a_key (range_with_len 0 (length f.keys)) ++
    map a_var (filter (is_owning_var f) (range_with_len 0 (length f.vars)))

-- what is found at a point, by token
abbrev pub Point : Type 0
Point = Tok → Many

abbrev pub point_line : (text : List ℕ) → Program → Func → (at : ℕ) → Point → List ℕ
point_line text p f at m = place_text text at ++ flat_map (λ t. token_text p f t (m t)) (tokens_of f) ++ codes "\n"

-- the points of these places
abbrev pub point_lines : (text : List ℕ) → Program → Func → (places : List ℕ) → List Point → List ℕ
point_lines text p f (at ∷ ats) (m ∷ ms) = point_line text p f at m ++ point_lines text p f ats ms
point_lines text p f _ _ = []

-- ---- functions

-- in the instance of this origin, just this is found of the function's tokens at the points of its body
pub record ArePoints (p : Program) (f : Func) (origin : Option ℕ) (points : List Point) : Type 0 where
  pub each : (t : Tok) → Contains (tokens_of f) t → AreFoundIn p (instance p f origin) t (map (λ m. m t) points)
  pub long : length points ≡ length (places_in p (instance p f origin))

abbrev pub function_line : Program → Func → (variable : Name) → (origin : Option ℕ) → List ℕ
function_line p f v o = codes "function " ++ f.name ++ instance_text p f v o ++ codes "\n"

-- the lines of one instance
abbrev pub AreInstanceLines : (text : List ℕ) → Program → Func → (variable : Name) → (origin : Option ℕ) → List ℕ → Type 0
AreInstanceLines text p f v o lines =
    (points : List Point) × ArePoints p f o points ×
    (lines ≡ function_line p f v o ++ point_lines text p f (places_in p (instance p f o)) points)

abbrev pub AreOriginLines : (text : List ℕ) → Program → Func → (variable : Name) → List (Option ℕ) → List ℕ → Type 0
AreOriginLines text p f v [] lines = lines ≡ []
AreOriginLines text p f v (o ∷ os) lines =
    (first : List ℕ) × AreInstanceLines text p f v o first ×
    ((rest : List ℕ) × AreOriginLines text p f v os rest × (lines ≡ first ++ rest))

-- a function with a body has its lines, an external none
abbrev pub AreFunctionLines : (text : List ℕ) → Program → Func → (variable : Name) → List ℕ → Type 0
AreFunctionLines text p f v lines = MatchBool f.external (lines ≡ []) (AreOriginLines text p f v (origins p f) lines)

-- of functions one after another, the first of which has this number
abbrev pub AreLinesOf : (text : List ℕ) → Program → (variable : ℕ → Name) → (number : ℕ) → List Func → List ℕ → Type 0
AreLinesOf text p vs n [] lines = lines ≡ []
AreLinesOf text p vs n (f ∷ fs) lines =
    (first : List ℕ) × AreFunctionLines text p f (vs n) first ×
    ((rest : List ℕ) × AreLinesOf text p vs (n + 1) fs rest × (lines ≡ first ++ rest))

-- The lines of a program. Each function has the name that stands for the state of its bound entry's object.
abbrev pub AreKeysLines : (text : List ℕ) → Program → (variable : ℕ → Name) → List ℕ → Type 0
AreKeysLines text p vs lines = AreLinesOf text p vs 0 p.fns lines

-- the names of a list, by number; past its end the empty one
abbrev pub names_by : List (Bor (List ℕ)) → ℕ → Name
names_by names n = slice_index_or (map (λ name. name.now) names) n []
