-- A form, its flow and its draft have as many statements.
use Rattle.std.proofs.Common.{◌≡◌, ◌+◌, ℕ, refl, ap, ◌∙◌, ◌++◌, List}
use Rattle.vlt_core.specs.Core as core
use Rattle.vlt_core.specs.Core.{Tok, Func, Program}
use Rattle.vlt_core.specs.Flow as flow
use Rattle.vlt_core.specs.Bodies.{flow_of, flow_of_block, flow_of_stmts, flow_of_arms}
use Rattle.cert_format.specs.Notes.{MapNotes}
use Rattle.cert_format.specs.Bodies.{count, count_block, count_list, count_arms, draft_of, block_draft, list_draft, arms_draft, size, size_block, size_list, size_arms}

both : {a b c d : ℕ} → a ≡ c → b ≡ d → a + b ≡ c + d
both {a} {b} {c} {d} x y = ap (λ z. z + b) x ∙ ap (λ z. c + z) y

module _ (p : Program) (f : Func) where
  mutual
    pub flow_size : (s : core.Form) (left : List Tok) → flow.size (flow_of p f left s) ≡ count s
    flow_size (core.simple s) left = refl
    flow_size (core.call g target keys args) left = refl
    flow_size (core.choose e a b) left = ap (λ z. 1 + z) (both (flow_size_block a left) (flow_size_block b left))
    flow_size (core.loop e b) left = ap (λ z. 1 + z) (flow_size_block b _)
    flow_size (core.switch v arms end) left = ap (λ z. 1 + z) (flow_size_arms arms left v)
    flow_size (core.focus y z b) left = ap (λ z. 1 + z) (flow_size_block b left)
    flow_size (core.scope b) left = ap (λ z. 1 + z) (flow_size_block b left)
    flow_size (core.return o) left = refl
    flow_size (core.jump c) left = refl

    pub flow_size_block : (b : core.Block) (left : List Tok) → flow.size_block (flow_of_block p f left b) ≡ count_block b
    flow_size_block (core.block ss bound end) left = flow_size_list ss (left ++ bound)

    flow_size_list : (ss : core.Stmts) (left : List Tok) → flow.size_stmts (flow_of_stmts p f left ss) ≡ count_list ss
    flow_size_list core.done left = refl
    flow_size_list (core.next at s rest) left = both (flow_size s left) (flow_size_list rest left)

    flow_size_arms : (arms : core.Arms) (left : List Tok) (v : ℕ) → flow.size_arms (flow_of_arms p f left v arms) ≡ count_arms arms
    flow_size_arms core.no_arms left v = refl
    flow_size_arms (core.arm c vs b rest) left v = both (flow_size_block b left) (flow_size_arms rest left v)

module _ (a : MapNotes) where
  mutual
    pub draft_size : (s : core.Form) (n : ℕ) → size (draft_of a n s) ≡ count s
    draft_size (core.simple s) n = refl
    draft_size (core.call g target keys args) n = refl
    draft_size (core.choose e x y) n = ap (λ z. 1 + z) (both (draft_size_block x (n + 1)) (draft_size_block y (n + 1 + count_block x)))
    draft_size (core.loop e b) n = ap (λ z. 1 + z) (draft_size_block b (n + 1))
    draft_size (core.switch v arms end) n = ap (λ z. 1 + z) (draft_size_arms arms (n + 1))
    draft_size (core.focus y z b) n = ap (λ z. 1 + z) (draft_size_block b (n + 1))
    draft_size (core.scope b) n = ap (λ z. 1 + z) (draft_size_block b (n + 1))
    draft_size (core.return o) n = refl
    draft_size (core.jump c) n = refl

    pub draft_size_block : (b : core.Block) (n : ℕ) → size_block (block_draft a n b) ≡ count_block b
    draft_size_block (core.block ss bound end) n = draft_size_list ss n

    draft_size_list : (ss : core.Stmts) (n : ℕ) → size_list (list_draft a n ss) ≡ count_list ss
    draft_size_list core.done n = refl
    draft_size_list (core.next at s rest) n = both (draft_size s n) (draft_size_list rest (n + count s))

    draft_size_arms : (arms : core.Arms) (n : ℕ) → size_arms (arms_draft a n arms) ≡ count_arms arms
    draft_size_arms core.no_arms n = refl
    draft_size_arms (core.arm c vs b rest) n = both (draft_size_block b n) (draft_size_arms rest (n + count_block b))
