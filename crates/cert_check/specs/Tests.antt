-- The tests of an annotation, in order: each belongs to a statement, and none depends on how another ended.
use Rattle.std.specs.Prelude.{◌≡◌, ◌⊎◌, ℕ, ◌+◌, Bool, true, false, List, [], ◌∷◌, ◌++◌, map, Option, Some, None}
use Rattle.std.specs.List.{flat_map, enumerate_from}
use Rattle.vlt_core.specs.Core.{Tok, Func, Program}
use Rattle.vlt_core.specs.Maps.{Status, absent, held, lent, full, HeldMap, IsStatusBelow, IsBelow, Wanted, wants_absent, wants_in, wants_lent, wants_full, IsWanted, Row, row_passed, map_after, away_row}
use Rattle.vlt_core.specs.Flow.{Flow, step, choose, loop, switch, scope, focus, return, jump, Block, block, Stmts, done, next, Arms, no_arms, arm, size, size_block}
use Rattle.vlt_core.specs.Bodies.{body_flow}
use Rattle.vlt_core.specs.Derives.{start_map}
use Rattle.vlt_core.specs.Local.{Notes, leads, leads_block, leads_stmts}
use Rattle.vlt_core.specs.Instances.{instance, origins}
use Rattle.vlt_keyset.specs.Pairs.{IsBefore}
use Rattle.cert_format.specs.Notes.{Note}
use Rattle.cert_fit_laws.specs.Annotation.{annotation}

-- A row that wants a status of its token; a map that is to lie below another; a jump that no loop is around. Each belongs to
-- the statement of its number.
pub data Test : Type 0 where
  row_test : (statement : ℕ) → Tok → (found : Status) → Wanted → Test
  below_test : (statement : ℕ) → (comes within : HeldMap) → Test
  lost_test : (statement : ℕ) → Test

abbrev pub Holds : Test → Type 0
Holds (row_test n t s w) = IsWanted w s
Holds (below_test n h k) = IsBelow h k
Holds (lost_test n) = ⊥

abbrev pub Hold : List Test → Type 0
Hold [] = Unit {0}
Hold (t ∷ ts) = Holds t × Hold ts

-- ---- the tests of a body

abbrev pub row_tests : (statement : ℕ) → List Row → HeldMap → List Test
row_tests n [] h = []
row_tests n (r ∷ rs) h = row_test n r.tok (h r.tok) r.wanted ∷ row_tests n rs (row_passed r h)

-- the map, if one comes, is to lie below the other
abbrev pub below_tests : (statement : ℕ) → Option HeldMap → HeldMap → List Test
below_tests n None k = []
below_tests n (Some h) k = below_test n h k ∷ []

-- the tests that a map which comes is asked
abbrev pub when_some : Option HeldMap → (HeldMap → List Test) → List Test
when_some None go = []
when_some (Some h) go = go h

-- a jump leads to the head of the loop around it, or to what comes after that loop
abbrev pub jump_tests : Notes → Option ℕ → Bool → (statement : ℕ) → HeldMap → List Test
jump_tests a None continues n h = lost_test n ∷ []
jump_tests a (Some l) true n h = below_test n h (a.around l) ∷ []
jump_tests a (Some l) false n h = below_test n h (a.following l) ∷ []

abbrev mutual
  -- `e` is the number of the statement that has the block: the rows of a block's end belong to it
  pub tests : Notes → Option ℕ → ℕ → HeldMap → Flow → List Test
  tests a l n h (step rs) = row_tests n rs h
  tests a l n h (choose rs s t) =
      row_tests n rs h ++
      (block_tests a l n (n + 1) (map_after rs h) s ++
      (below_tests n (leads_block a (n + 1) (map_after rs h) s) (a.following n) ++
      (block_tests a l n (n + 1 + size_block s) (map_after rs h) t ++
      below_tests n (leads_block a (n + 1 + size_block s) (map_after rs h) t) (a.following n))))
  tests a l n h (loop rs s) =
      below_test n h (a.around n) ∷
      (row_tests n rs (a.around n) ++
      (below_test n (map_after rs (a.around n)) (a.following n) ∷
      (block_tests a (Some n) n (n + 1) (map_after rs (a.around n)) s ++
      below_tests n (leads_block a (n + 1) (map_after rs (a.around n)) s) (a.around n))))
  tests a l n h (switch rs arms end) = row_tests n rs h ++ arms_tests a l n (n + 1) (map_after rs h) arms (a.following n)
  tests a l n h (scope s) = block_tests a l n (n + 1) h s
  tests a l n h (focus rs s es) =
      row_tests n rs h ++
      (block_tests a l n (n + 1) (map_after rs h) s ++ when_some (leads_block a (n + 1) (map_after rs h) s) (row_tests n es))
  tests a l n h (return rs) = row_tests n rs h
  tests a l n h (jump continues left) =
      row_tests n (map away_row left) h ++ jump_tests a l continues n (map_after (map away_row left) h)

  pub block_tests : Notes → Option ℕ → (e n : ℕ) → HeldMap → Block → List Test
  block_tests a l e n h (block ss bound end) =
      list_tests a l n h ss ++ when_some (leads_stmts a n h ss) (row_tests e (map away_row bound))

  pub list_tests : Notes → Option ℕ → ℕ → HeldMap → Stmts → List Test
  list_tests a l n h done = []
  list_tests a l n h (next at s rest) = tests a l n h s ++ when_some (leads a n h s) (λ m. list_tests a l (n + size s) m rest)

  pub arms_tests : Notes → Option ℕ → (e n : ℕ) → HeldMap → Arms → HeldMap → List Test
  arms_tests a l e n h no_arms k = []
  arms_tests a l e n h (arm rs s rest) k =
      row_tests e rs h ++
      (block_tests a l e n (map_after rs h) s ++
      (below_tests e (leads_block a n (map_after rs h) s) k ++ arms_tests a l e (n + size_block s) h rest k))

-- the tests of a function's body; its own block has no tokens at its end
abbrev pub body_tests : Program → Func → Notes → List Test
body_tests p f a = block_tests a None 0 0 (start_map p f) (body_flow p f)

-- ---- the first test that fails

pub record Refusal : Type 0 where
  pub statement : ℕ
  pub tok : Tok
  pub found : Status
  pub wanted : Wanted

-- a map's status, as what is wanted
abbrev pub as_wanted : Status → Wanted
as_wanted absent = wants_absent
as_wanted (held s) = wants_in s
as_wanted (lent s) = wants_lent
as_wanted full = wants_full

-- the first token whose status isn't below the map's
pub record IsFirstApart (h k : HeldMap) (t : Tok) : Type 0 where
  pub apart : IsStatusBelow (h t) (k t) → ⊥
  pub first : (u : Tok) → IsBefore u t → IsStatusBelow (h u) (k u)

abbrev pub refusal : ℕ → Tok → Status → Wanted → Refusal
refusal n t s w = record { statement = n; tok = t; found = s; wanted = w }

-- How a test fails: a token is refused; or a jump is in no loop.
pub data Failure : Type 0 where
  refused : Refusal → Failure
  lost : Failure

abbrev pub Fails : Test → Failure → Type 0
Fails (row_test n t s w) (refused x) = (IsWanted w s → ⊥) × (x ≡ refusal n t s w)
Fails (below_test n h k) (refused x) =
    (t : Tok) × IsFirstApart h k t × (x ≡ refusal n t (h t) (as_wanted (k t)))
Fails (lost_test n) lost = Unit {0}
Fails t x = ⊥

-- the first test that doesn't hold fails so
abbrev pub FirstFails : List Test → Failure → Type 0
FirstFails [] x = ⊥
FirstFails (t ∷ ts) x = Fails t x ⊎ (Holds t × FirstFails ts x)

-- ---- the tests of a function: of each of its instances, by ascending origin

abbrev pub instance_tests : Program → Func → List Note → ℕ × Option ℕ → List Test
instance_tests p f notes x = body_tests p (instance p f x.1) (annotation notes x.0)

abbrev pub function_tests : Program → Func → List Note → List Test
function_tests p f notes = flat_map (instance_tests p f notes) (enumerate_from 0 (origins p f))
