-- The flow of a body without places, and what holds in it.
use Rattle.std.proofs.Common.{◌≡◌, ◌↔◌, refl, sym, ap, ◌∙◌, subst, ℕ, ◌+◌, List, [], ◌++◌, Option, Some, None, slice_get, option_map}
use Rattle.std.proofs.lemmas.Option.{slice_get-map}
use Rattle.vlt_core.specs.Rows.{operands_rows, on_option, called_rows, target_rows}
use Rattle.vlt_core.specs.Derives.{start_map}
use Rattle.vlt_core.specs.Core as core
use Rattle.vlt_core.specs.Core.{Tok, Func, Program}
use Rattle.vlt_core.specs.Maps.{HeldMap, map_after}
use Rattle.vlt_core.specs.Flow.{Flow, step, choose, loop, switch, scope, focus, return, jump, Block, block, Stmts, done, next, Arms, no_arms, arm, size, size_block, size_stmts, size_arms, passes, passes_block, passes_stmts, passes_arms}
use Rattle.vlt_core.specs.Bodies.{flow_of, flow_of_block, flow_of_stmts, flow_of_arms, body_flow}
use Rattle.vlt_core.specs.Local.{Notes, Then, When, leads, leads_block, leads_stmts, IsLocal, IsLocalBlock, IsLocalStmts, IsLocalArms, IsLocalIn}
use Rattle.cert_format.specs.Places.{unplaced_form, unplaced_block, unplaced_stmts, unplaced_arms, unplaced_func, unplaced_program}

-- ---- a body's flow without its places
abbrev mutual
  pub bare : Flow → Flow
  bare (step rs) = step rs
  bare (choose rs a b) = choose rs (bare_block a) (bare_block b)
  bare (loop rs b) = loop rs (bare_block b)
  bare (switch rs arms end) = switch rs (bare_arms arms) 0
  bare (scope b) = scope (bare_block b)
  bare (focus rs b es) = focus rs (bare_block b) es
  bare (return rs) = return rs
  bare (jump continues left) = jump continues left

  pub bare_block : Block → Block
  bare_block (block ss bound end) = block (bare_stmts ss) bound 0

  pub bare_stmts : Stmts → Stmts
  bare_stmts done = done
  bare_stmts (next at s rest) = next 0 (bare s) (bare_stmts rest)

  pub bare_arms : Arms → Arms
  bare_arms no_arms = no_arms
  bare_arms (arm rs b rest) = arm rs (bare_block b) (bare_arms rest)

-- ---- the flow of a body without places is the flow without places

module _ (p : Program) (f : Func) where
  -- the clause of a callee without places
  calls : (keys : List ℕ) (o : Option Func) → on_option (option_map unplaced_func o)
      (λ h. called_rows p f keys h.clause) ≡ on_option o (λ h. called_rows p f keys h.clause)
  calls keys None = refl
  calls keys (Some h) = refl

  mutual
    pub flows : (left : List Tok) (s : core.Form) → flow_of (unplaced_program p) (unplaced_func f) left (unplaced_form s) ≡ bare (flow_of p f left s)
    flows left (core.simple s) = refl
    flows left (core.call g target keys args) =
        ap (λ o. step (operands_rows p f args ++ on_option o (λ h. called_rows p f keys h.clause) ++ target_rows f target))
        (slice_get-map unplaced_func p.fns g)
        ∙ ap (λ rs. step (operands_rows p f args ++ rs ++ target_rows f target)) (calls keys (slice_get p.fns g))
    flows left (core.choose e a b) = rw (flow_blocks left a, flow_blocks left b) refl
    flows left (core.loop e b) = rw (flow_blocks [] b) refl
    flows left (core.switch v arms end) = rw (flow_arms left v arms) refl
    flows left (core.focus y z b) = rw (flow_blocks left b) refl
    flows left (core.scope b) = rw (flow_blocks left b) refl
    flows left (core.return value) = refl
    flows left (core.jump continues) = refl

    pub flow_blocks : (left : List Tok) (b : core.Block) →
        flow_of_block (unplaced_program p) (unplaced_func f) left (unplaced_block b) ≡ bare_block (flow_of_block p f left b)
    flow_blocks left (core.block ss bound end) = rw (flow_lists (left ++ bound) ss) refl

    pub flow_lists : (left : List Tok) (ss : core.Stmts) →
        flow_of_stmts (unplaced_program p) (unplaced_func f) left (unplaced_stmts ss) ≡ bare_stmts (flow_of_stmts p f left ss)
    flow_lists left core.done = refl
    flow_lists left (core.next at s rest) = rw (flows left s, flow_lists left rest) refl

    pub flow_arms : (left : List Tok) (v : ℕ) (arms : core.Arms) →
        flow_of_arms (unplaced_program p) (unplaced_func f) left v (unplaced_arms arms) ≡ bare_arms (flow_of_arms p f left v arms)
    flow_arms left v core.no_arms = refl
    flow_arms left v (core.arm c vs b rest) = rw (flow_blocks left b, flow_arms left v rest) refl

-- ---- sizes, what can be passed, and what a part leads to

mutual
  pub sizes : (s : Flow) → size (bare s) ≡ size s
  sizes (step rs) = refl
  sizes (choose rs a b) = rw (block_sizes a, block_sizes b) refl
  sizes (loop rs b) = rw (block_sizes b) refl
  sizes (switch rs arms end) = rw (arm_sizes arms) refl
  sizes (scope b) = rw (block_sizes b) refl
  sizes (focus rs b es) = rw (block_sizes b) refl
  sizes (return rs) = refl
  sizes (jump continues left) = refl

  pub block_sizes : (b : Block) → size_block (bare_block b) ≡ size_block b
  block_sizes (block ss bound end) = list_sizes ss

  pub list_sizes : (ss : Stmts) → size_stmts (bare_stmts ss) ≡ size_stmts ss
  list_sizes done = refl
  list_sizes (next at s rest) = rw (sizes s, list_sizes rest) refl

  pub arm_sizes : (arms : Arms) → size_arms (bare_arms arms) ≡ size_arms arms
  arm_sizes no_arms = refl
  arm_sizes (arm rs b rest) = rw (block_sizes b, arm_sizes rest) refl

mutual
  pub passing : (s : Flow) → passes (bare s) ≡ passes s
  passing (step rs) = refl
  passing (choose rs a b) = rw (passing_block a, passing_block b) refl
  passing (loop rs b) = refl
  passing (switch rs arms end) = passing_arms arms
  passing (scope b) = passing_block b
  passing (focus rs b es) = passing_block b
  passing (return rs) = refl
  passing (jump continues left) = refl

  pub passing_block : (b : Block) → passes_block (bare_block b) ≡ passes_block b
  passing_block (block ss bound end) = passing_list ss

  pub passing_list : (ss : Stmts) → passes_stmts (bare_stmts ss) ≡ passes_stmts ss
  passing_list done = refl
  passing_list (next at s rest) = rw (passing s, passing_list rest) refl

  pub passing_arms : (arms : Arms) → passes_arms (bare_arms arms) ≡ passes_arms arms
  passing_arms no_arms = refl
  passing_arms (arm rs b rest) = rw (passing_block b, passing_arms rest) refl

mutual
  pub leading : (a : Notes) (n : ℕ) (h : HeldMap) (s : Flow) → leads a n h (bare s) ≡ leads a n h s
  leading a n h (step rs) = refl
  leading a n h (choose rs s t) = rw (passing_block s, passing_block t) refl
  leading a n h (loop rs s) = refl
  leading a n h (switch rs arms end) = rw (passing_arms arms) refl
  leading a n h (scope s) = leading_block a (n + 1) h s
  leading a n h (focus rs s es) = rw (leading_block a (n + 1) (map_after rs h) s) refl
  leading a n h (return rs) = refl
  leading a n h (jump continues left) = refl

  pub leading_block : (a : Notes) (n : ℕ) (h : HeldMap) (s : Block) → leads_block a n h (bare_block s) ≡ leads_block a n h s
  leading_block a n h (block ss bound end) = rw (leading_list a n h ss) refl

  pub leading_list : (a : Notes) (n : ℕ) (h : HeldMap) (ss : Stmts) → leads_stmts a n h (bare_stmts ss) ≡ leads_stmts a n h ss
  leading_list a n h done = refl
  leading_list a n h (next at s rest) =
      rw (leading a n h s, sizes s) (ap (Then (leads a n h s)) (λ i m. leading_list a (n + size s) m rest i))

-- ---- what holds

mutual
  pub local : (a : Notes) (l : Option ℕ) (n : ℕ) (h : HeldMap) (s : Flow) → IsLocal a l n h (bare s) ≡ IsLocal a l n h s
  local a l n h (step rs) = refl
  local a l n h (choose rs s t) =
      rw (
        block_sizes s,
        leading_block a (n + 1) (map_after rs h) s,
        leading_block a (n + 1 + size_block s) (map_after rs h) t,
        local_block a l (n + 1) (map_after rs h) s,
        local_block a l (n + 1 + size_block s) (map_after rs h) t,
      ) refl
  local a l n h (loop rs s) =
      rw (local_block a (Some n) (n + 1) (map_after rs (a.around n)) s, leading_block a (n + 1) (map_after rs (a.around n)) s) refl
  local a l n h (switch rs arms end) = rw (local_arms a l (n + 1) (map_after rs h) arms (a.following n)) refl
  local a l n h (scope s) = local_block a l (n + 1) h s
  local a l n h (focus rs s es) =
      rw (local_block a l (n + 1) (map_after rs h) s, leading_block a (n + 1) (map_after rs h) s) refl
  local a l n h (return rs) = refl
  local a l n h (jump continues left) = refl

  pub local_block : (a : Notes) (l : Option ℕ) (n : ℕ) (h : HeldMap) (s : Block) → IsLocalBlock a l n h (bare_block s) ≡ IsLocalBlock a l n h s
  local_block a l n h (block ss bound end) = rw (local_list a l n h ss, leading_list a n h ss) refl

  pub local_list : (a : Notes) (l : Option ℕ) (n : ℕ) (h : HeldMap) (ss : Stmts) → IsLocalStmts a l n h (bare_stmts ss) ≡ IsLocalStmts a l n h ss
  local_list a l n h done = refl
  local_list a l n h (next at s rest) =
      rw (local a l n h s, leading a n h s, sizes s) (ap (λ X. IsLocal a l n h s × When (leads a n h s) X)
      (λ i m. local_list a l (n + size s) m rest i))

  pub local_arms : (a : Notes) (l : Option ℕ) (n : ℕ) (h : HeldMap) (arms : Arms) (k : HeldMap) →
      IsLocalArms a l n h (bare_arms arms) k ≡ IsLocalArms a l n h arms k
  local_arms a l n h no_arms k = refl
  local_arms a l n h (arm rs s rest) k =
      rw (block_sizes s, local_block a l n (map_after rs h) s, leading_block a n (map_after rs h) s, local_arms a l (n + size_block s) h rest k) refl

pub bodies : (p : Program) (f : Func) → body_flow (unplaced_program p) (unplaced_func f) ≡ bare_block (body_flow p f)
bodies p f = ap (λ ss. block ss [] 0) (flow_lists p f [] f.body)

pub locals : (p : Program) (f : Func) (a : Notes) → IsLocalIn (unplaced_program p) (unplaced_func f) a ≡ IsLocalIn p f a
locals p f a = ap (IsLocalBlock a None 0 (start_map p f)) (bodies p f) ∙ local_block a None 0 (start_map p f) (body_flow p f)

along : {X Y : Type 0} → X ≡ Y → X → Y
along e x = subst (λ (Z : Type 0). Z) e x

pub local_same : (p : Program) (f : Func) (a : Notes) → IsLocalIn (unplaced_program p) (unplaced_func f) a ↔ IsLocalIn p f a
local_same p f a = (along (locals p f a), along (sym (locals p f a)))
