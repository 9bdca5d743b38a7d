-- Paths through a body that show a fault: one to a row, or two to a join.
use Rattle.std.specs.Prelude.{◌≡◌, ◌⊎◌, ℕ, zero, suc, ◌+◌, Bool, true, false, List, [], ◌∷◌, map, length, Option, Some, None, slice_get}
use Rattle.vlt_core.specs.Core.{Tok, Func, Program}
use Rattle.vlt_core.specs.Instances.{instance, IsOrigin}
use Rattle.vlt_core.specs.Maps.{Wanted, Row, is_tok, away_row}
use Rattle.vlt_core.specs.Flow.{Flow, step, choose, loop, switch, scope, focus, return, jump, Block, block, Stmts, done, next, Arms, no_arms, arm, end_of}
use Rattle.vlt_core.specs.Bodies.{body_flow}
use Rattle.vlt_core.specs.Derives.{start_map}
use Rattle.vlt_core.specs.Found.{One, one_absent, Ones, Has, WantsOne, image, images, Exit, to_next, to_break, to_continue}
use Rattle.vlt_core.specs.Faults.{Spot, head_spot, join_spot, spots, spots_block, spots_arms, IsPresent, FaultKind, at_row, at_join, FlowFault}

-- Which way a path takes.
pub data Pick : Type 0 where
  then_arm : Pick
  else_arm : Pick
  -- another turn of a loop, and out of it at its condition
  turn : Pick
  exit : Pick
  -- the arm of a switch of this position
  case_arm : (position : ℕ) → Pick

-- a choice, at the place of its statement
pub record Choice : Type 0 where
  pub at : ℕ
  pub pick : Pick

abbrev pub choice : (at : ℕ) → Pick → Choice
choice at pick = record { at = at; pick = pick }

abbrev pub only : One → Ones
only o q = q ≡ o

-- the rows let the status pass and may leave this one
abbrev pub LeadsOn : Tok → List Row → One → One → Type 0
LeadsOn t rs o q = images t rs (only o) q

-- A way through a part: it comes with a status and with choices that are still to be made, and leaves with others.
abbrev pub Way : Type 1
Way = One → List Choice → Exit → One → List Choice → Type 0

-- so many turns of a loop whose body is this way, and then out of it
abbrev pub Turns : Way → Tok → List Row → (at n : ℕ) → One → List Choice → One → List Choice → Type 0
Turns body t rs at zero o cs q ds =
    (LeadsOn t rs o q × (cs ≡ choice at exit ∷ ds)) ⊎
    ((m : One) × LeadsOn t rs o m × ((es : List Choice) × (cs ≡ choice at turn ∷ es) × body m es to_break q ds))
Turns body t rs at (suc n) o cs q ds =
    (m : One) × LeadsOn t rs o m × ((es : List Choice) × (cs ≡ choice at turn ∷ es) × ((r : One) × ((fs : List Choice) ×
    (body m es to_next r fs ⊎ body m es to_continue r fs) × Turns body t rs at n r fs q ds)))

abbrev pub Takes : (continues : Bool) → Exit → Type 0
Takes true to_continue = Unit {0}
Takes false to_break = Unit {0}
Takes _ _ = ⊥

-- the ways through the parts of a body
abbrev mutual
  pub Through : Tok → (at : ℕ) → Flow → Way
  Through t at (step rs) o cs x q ds = (x ≡ to_next) × LeadsOn t rs o q × (ds ≡ cs)
  Through t at (choose rs a b) o cs x q ds =
      (m : One) × LeadsOn t rs o m × ((es : List Choice) ×
      (((cs ≡ choice at then_arm ∷ es) × ThroughBlock t a m es x q ds) ⊎
      ((cs ≡ choice at else_arm ∷ es) × ThroughBlock t b m es x q ds)))
  Through t at (loop rs s) o cs x q ds = (x ≡ to_next) × ((n : ℕ) × Turns (ThroughBlock t s) t rs at n o cs q ds)
  Through t at (switch rs arms end) o cs x q ds =
      (m : One) × LeadsOn t rs o m × ((i : ℕ) × ((es : List Choice) × (cs ≡ choice at (case_arm i) ∷ es) × ThroughArm t i arms m es x q ds))
  Through t at (scope s) o cs x q ds = ThroughBlock t s o cs x q ds
  Through t at (focus rs s es) o cs x q ds =
      (x ≡ to_next) × ((m : One) × LeadsOn t rs o m × ((r : One) × ThroughBlock t s m cs to_next r ds × LeadsOn t es r q))
  Through t at (return rs) o cs x q ds = ⊥
  Through t at (jump continues left) o cs x q ds = Takes continues x × LeadsOn t (map away_row left) o q × (ds ≡ cs)

  pub ThroughBlock : Tok → Block → Way
  ThroughBlock t (block ss bound end) o cs to_next q ds = (m : One) × ThroughStmts t ss o cs to_next m ds × LeadsOn t (map away_row bound) m q
  ThroughBlock t (block ss bound end) o cs x q ds = ThroughStmts t ss o cs x q ds

  pub ThroughStmts : Tok → Stmts → Way
  ThroughStmts t done o cs x q ds = (x ≡ to_next) × (q ≡ o) × (ds ≡ cs)
  ThroughStmts t (next at s rest) o cs to_next q ds =
      (m : One) × ((es : List Choice) × Through t at s o cs to_next m es × ThroughStmts t rest m es to_next q ds)
  ThroughStmts t (next at s rest) o cs x q ds =
      Through t at s o cs x q ds ⊎ ((m : One) × ((es : List Choice) × Through t at s o cs to_next m es × ThroughStmts t rest m es x q ds))

  pub ThroughArm : Tok → (position : ℕ) → Arms → Way
  ThroughArm t i no_arms o cs x q ds = ⊥
  ThroughArm t zero (arm rs s rest) o cs x q ds = (m : One) × LeadsOn t rs o m × ThroughBlock t s m cs x q ds
  ThroughArm t (suc i) (arm rs s rest) o cs x q ds = ThroughArm t i rest o cs x q ds

-- ---- what a path meets after its last choice

-- The path comes to the head of a loop after so many turns.
abbrev pub Reaches : Way → Tok → List Row → (at n : ℕ) → One → List Choice → One → List Choice → Type 0
Reaches body t rs at zero o cs q ds = (q ≡ o) × (ds ≡ cs)
Reaches body t rs at (suc n) o cs q ds =
    (m : One) × LeadsOn t rs o m × ((es : List Choice) × (cs ≡ choice at turn ∷ es) × ((r : One) × ((fs : List Choice) ×
    (body m es to_next r fs ⊎ body m es to_continue r fs) × Reaches body t rs at n r fs q ds)))

-- For a property of rows at a place with a status, and one of joins with a status: the path, all of whose choices are made,
-- comes to such a row, or to such a join, of the part, which stands at the place `at` and whose spots are numbered from k on.
module _ (P : (at : ℕ) → Row → One → Type 0) (Q : Spot → One → Type 0) (t : Tok) where
  abbrev pub RowMet : (at : ℕ) → List Row → One → Type 0
  RowMet at [] o = ⊥
  RowMet at (r ∷ rs) o = P at r o ⊎ ((q : One) × image t r (only o) q × RowMet at rs q)

  abbrev pub MetHere : (at : ℕ) → List Row → One → List Choice → Type 0
  MetHere at rs o cs = (cs ≡ []) × RowMet at rs o

  abbrev pub JoinMet : Spot → Way → One → List Choice → Type 0
  JoinMet p way o cs = (q : One) × way o cs to_next q [] × Q p q

  abbrev mutual
    pub Met : (at k : ℕ) → Flow → One → List Choice → Type 0
    Met at k (step rs) o cs = MetHere at rs o cs
    Met at k (choose rs a b) o cs =
        MetHere at rs o cs ⊎
        (((m : One) × LeadsOn t rs o m × ((es : List Choice) ×
        (((cs ≡ choice at then_arm ∷ es) × MetBlock (k + length rs) a m es) ⊎
        ((cs ≡ choice at else_arm ∷ es) × MetBlock (k + length rs + spots_block a) b m es)))) ⊎
        JoinMet (join_spot (end_of b) (k + length rs + spots_block a + spots_block b)) (Through t at (choose rs a b)) o cs)
    Met at k (loop rs s) o cs =
        ((n : ℕ) × ((q : One) × ((ds : List Choice) × Reaches (ThroughBlock t s) t rs at n o cs q ds ×
        (((ds ≡ []) × Q (head_spot at k) q) ⊎
        (MetHere at rs q ds ⊎
        ((m : One) × LeadsOn t rs q m × ((es : List Choice) × (ds ≡ choice at turn ∷ es) × MetBlock (k + 1 + length rs) s m es))))))) ⊎
        JoinMet (join_spot (end_of s) (k + 1 + length rs + spots_block s)) (Through t at (loop rs s)) o cs
    Met at k (switch rs arms end) o cs =
        MetHere at rs o cs ⊎
        (((m : One) × LeadsOn t rs o m × ((i : ℕ) × ((es : List Choice) × (cs ≡ choice at (case_arm i) ∷ es) × MetArm at (k + length rs) i arms m es))) ⊎
        JoinMet (join_spot end (k + length rs + spots_arms arms)) (Through t at (switch rs arms end)) o cs)
    Met at k (scope s) o cs = MetBlock k s o cs
    Met at k (focus rs s es) o cs =
        MetHere at rs o cs ⊎
        (((m : One) × LeadsOn t rs o m × MetBlock (k + length rs) s m cs) ⊎
        ((m : One) × LeadsOn t rs o m × ((q : One) × ThroughBlock t s m cs to_next q [] × RowMet (end_of s) es q)))
    Met at k (return rs) o cs = MetHere at rs o cs
    Met at k (jump continues left) o cs = MetHere at (map away_row left) o cs

    pub MetBlock : (k : ℕ) → Block → One → List Choice → Type 0
    MetBlock k (block ss bound end) o cs =
        MetStmts k ss o cs ⊎ ((q : One) × ThroughStmts t ss o cs to_next q [] × RowMet end (map away_row bound) q)

    pub MetStmts : (k : ℕ) → Stmts → One → List Choice → Type 0
    MetStmts k done o cs = ⊥
    MetStmts k (next at s rest) o cs =
        Met at k s o cs ⊎ ((m : One) × ((es : List Choice) × Through t at s o cs to_next m es × MetStmts (k + spots s) rest m es))

    pub MetArm : (at k position : ℕ) → Arms → One → List Choice → Type 0
    MetArm at k i no_arms o cs = ⊥
    MetArm at k zero (arm rs s rest) o cs =
        MetHere at rs o cs ⊎ ((m : One) × LeadsOn t rs o m × MetBlock (k + length rs) s m cs)
    MetArm at k (suc i) (arm rs s rest) o cs = MetArm at (k + length rs + spots_block s) i rest o cs

-- ---- witnesses

-- a row of the token at the place, which wants this and refuses what comes
abbrev pub Refuses : Tok → (at : ℕ) → Wanted → (place : ℕ) → Row → One → Type 0
Refuses t at w place r o = (place ≡ at) × (is_tok t r.tok ≡ true) × (r.wanted ≡ w) × (WantsOne r.wanted o → ⊥)

abbrev pub NoJoin : Spot → One → Type 0
NoJoin p o = ⊥

abbrev pub NoRow : (at : ℕ) → Row → One → Type 0
NoRow at r o = ⊥

-- the join of this spot, with a status of which this is so
abbrev pub IsJoin : Spot → (One → Type 0) → Spot → One → Type 0
IsJoin p is q o = (q ≡ p) × is o

-- the path, with a status that the token has at the start, comes to such a row or join
abbrev pub PathMeets : Program → Func → Tok → ((at : ℕ) → Row → One → Type 0) → (Spot → One → Type 0) → List Choice → Type 0
PathMeets p f t P Q cs = (o : One) × Has (start_map p f t) o × MetBlock P Q t 0 (body_flow p f) o cs

-- For a fault of a row one path to such a row at its place, which refuses what comes; for a fault of a join two paths to one
-- join at its place: the first has lost the token, the second still has it.
abbrev pub IsWitnessIn : Program → Func → FlowFault → List Choice → Option (List Choice) → Type 0
IsWitnessIn p f x first second = by x.kind second
  where
    by : FaultKind → Option (List Choice) → Type 0
    by (at_row found wanted) None = PathMeets p f x.tok (Refuses x.tok x.at wanted) NoJoin first
    by (at_join present) (Some second) =
        (s : Spot) × (s.at ≡ x.at) ×
        PathMeets p f x.tok NoRow (IsJoin s (λ o. o ≡ one_absent)) first ×
        PathMeets p f x.tok NoRow (IsJoin s IsPresent) second
    by _ _ = ⊥

pub record IsWitness (p : Program) (x : FlowFault) (first : List Choice) (second : Option (List Choice)) : Type 0 where
  pub func : Func
  pub there : slice_get p.fns x.function ≡ Some func
  pub with_body : func.external ≡ false
  pub origin : IsOrigin p func x.origin
  pub shows : IsWitnessIn p (instance p func x.origin) x first second
