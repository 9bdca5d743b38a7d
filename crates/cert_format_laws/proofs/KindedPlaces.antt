-- Kinds don't look at places.
use Rattle.std.proofs.Common.{◌≡◌, refl, ap, ◌∙◌, ℕ, ◌+◌, ◌==◌, nat_lt, ◌&&◌, not, Bool, true, false, List, [], ◌∷◌, ◌++◌, map, Option, Some, None, slice_get, option_map, if◌then◌else◌, length}
use Rattle.std.specs.List.{list_all, flat_map, enumerate_from}
use Rattle.std.proofs.lemmas.Option.{slice_get-map}
use Rattle.vlt_core.specs.Core.{Tok, Operand, Form, simple, call, choose, loop, switch, focus, scope, return, jump, Block, block, Stmts, done, next, Arms, no_arms, arm, Func, Program}
use Rattle.vlt_core.specs.KindedHeads.{Rules, unless, when_some, are_apart, set_broken, type_rows, head_broken}
use Rattle.vlt_core.specs.KindedScopes.{Ids, Around, use_broken, at_block_start, left_behind}
use Rattle.vlt_core.specs.KindedCalls.{call_broken, with_call_target}
use Rattle.vlt_core.specs.KindedBodies.{ends, block_ends, list_ends, arms_end, arm_cases, owning_toks, switch_broken, with_vars, with_focus, in_loop, in_focus, ids_following, ids_following_block, ids_following_stmts, ids_following_arms, list_broken, arms_broken, row_broken, form_rows, block_rows, stmts_rows, arms_rows, body_rows, end_broken, first_ids}
use Rattle.vlt_core.specs.Kinded.{has_main, function_rows, rows_broken, first_broken, breaks}
use Rattle.vlt_core.specs.declared.rules.TheConstants as rule
use Rattle.vlt_core.specs.Lookups.{var_type, cases_of}
use Rattle.vlt_core.specs.Types.{decl_of, is_variant}
use Rattle.vlt_core.specs.KindedStatements.{variant_args, is_variant_type}
use Rattle.cert_format.specs.Places.{unplaced_form, unplaced_block, unplaced_stmts, unplaced_arms, unplaced_func, unplaced_program}

mutual
  pub ending : (s : Form) → ends (unplaced_form s) ≡ ends s
  ending (simple s) = refl
  ending (call g target keys args) = refl
  ending (choose e a b) = rw (ending_block a, ending_block b) refl
  ending (loop e b) = refl
  ending (switch v arms end) = ending_arms arms
  ending (focus y z b) = refl
  ending (scope b) = ending_block b
  ending (return value) = refl
  ending (jump continues) = refl

  pub ending_block : (b : Block) → block_ends (unplaced_block b) ≡ block_ends b
  ending_block (block ss bound end) = ending_list false ss

  pub ending_list : (before : Bool) (ss : Stmts) → list_ends before (unplaced_stmts ss) ≡ list_ends before ss
  ending_list before done = refl
  ending_list before (next at s rest) = rw (ending s) (ending_list (ends s) rest)

  pub ending_arms : (arms : Arms) → arms_end (unplaced_arms arms) ≡ arms_end arms
  ending_arms no_arms = refl
  ending_arms (arm c vs b rest) = rw (ending_block b, ending_arms rest) refl

cases : (arms : Arms) → arm_cases (unplaced_arms arms) ≡ arm_cases arms
cases no_arms = refl
cases (arm c vs b rest) = rw (cases rest) refl

-- the callee of a call
callee : (p : Program) (g : ℕ) → slice_get (map unplaced_func p.fns) g ≡ option_map unplaced_func (slice_get p.fns g)
callee p g = slice_get-map unplaced_func p.fns g

module _ (p : Program) (f : Func) where
  called_ids : (o : Option Func) (target : Option ℕ) (ids : Ids) →
      with_call_target (unplaced_func f) (option_map unplaced_func o) target ids ≡ with_call_target f o target ids
  called_ids None None ids = refl
  called_ids None (Some v) ids = refl
  called_ids (Some g) None ids = refl
  called_ids (Some g) (Some v) ids = refl

  mutual
    pub following : (s : Form) (ids : Ids) → ids_following (unplaced_program p) (unplaced_func f) (unplaced_form s) ids ≡ ids_following p f s ids
    following (simple s) ids = refl
    following (call g target keys args) ids = rw (callee p g) (called_ids (slice_get p.fns g) target ids)
    following (choose e a b) ids = rw (after_block a ids, after_block b (ids_following_block p f a ids)) refl
    following (loop e b) ids = after_block b ids
    following (switch v arms end) ids = after_arms arms ids
    following (focus y z b) ids = rw (after_block b (with_focus f z ids)) refl
    following (scope b) ids = after_block b ids
    following (return value) ids = refl
    following (jump continues) ids = refl

    pub after_block : (b : Block) (ids : Ids) → ids_following_block (unplaced_program p) (unplaced_func f)
        (unplaced_block b) ids ≡ ids_following_block p f b ids
    after_block (block ss bound end) ids = rw (after_list ss (at_block_start ids)) refl

    pub after_list : (ss : Stmts) (ids : Ids) → ids_following_stmts (unplaced_program p) (unplaced_func f)
        (unplaced_stmts ss) ids ≡ ids_following_stmts p f ss ids
    after_list done ids = refl
    after_list (next at s rest) ids = rw (following s ids) (after_list rest (ids_following p f s ids))

    pub after_arms : (arms : Arms) (ids : Ids) → ids_following_arms (unplaced_program p) (unplaced_func f)
        (unplaced_arms arms) ids ≡ ids_following_arms p f arms ids
    after_arms no_arms ids = refl
    after_arms (arm c vs b rest) ids =
        rw (after_block b (with_vars f vs ids)) (after_arms rest (left_behind ids (ids_following_block p f b (with_vars f vs ids))))

  listed : (extra : List Tok) (ids : Ids) (b : Block) →
      list_broken (unplaced_program p) (unplaced_func f) extra ids (unplaced_block b) ≡ list_broken p f extra ids b
  listed extra ids (block ss bound end) = rw (after_list ss (at_block_start ids)) refl

  armed : (ids : Ids) (v : ℕ) (arms : Arms) → arms_broken (unplaced_program p) (unplaced_func f) ids v
      (unplaced_arms arms) ≡ arms_broken p f ids v arms
  armed ids v no_arms = refl
  armed ids v (arm c vs b rest) =
      rw (
        listed (owning_toks f vs) (with_vars f vs ids) b,
        after_block b (with_vars f vs ids),
        armed (left_behind ids (ids_following_block p f b (with_vars f vs ids))) v rest,
      ) refl

  called : (ids : Ids) (o : Option Func) (target : Option ℕ) (keys : List ℕ) (args : List Operand) →
      call_broken p f ids (option_map unplaced_func o) target keys args ≡ call_broken p f ids o target keys args
  called ids None target keys args = refl
  called ids (Some g) target keys args = refl

  -- `switch_broken`, as far as it sees the cases of the arms alone
  abbrev covers : (cs : List ℕ) → ℕ → Bool
  covers cs n = are_apart cs && length cs == n && list_all (λ c. nat_lt c n) cs

  abbrev of_variant : (cs : List ℕ) → Option (ℕ × List ℕ) → Rules
  of_variant cs None = []
  of_variant cs (Some o) = if is_variant (decl_of p o.0) then unless (covers cs (length (cases_of p o.0))) rule.WRONG_SWITCH else []

  abbrev switch_rules : Ids → (v : ℕ) → (cs : List ℕ) → Rules
  switch_rules ids v cs =
      use_broken f ids v ++ when_some (var_type f v) (λ ty. unless (is_variant_type ty) rule.WRONG_SWITCH) ++
      of_variant cs (variant_args (var_type f v))

  rowed : (around : Around) (ids : Ids) (s : Form) → row_broken (unplaced_program p) (unplaced_func f) around ids
      (unplaced_form s) ≡ row_broken p f around ids s
  rowed around ids (simple s) = refl
  rowed around ids (call g target keys args) =
      ap (λ o. call_broken p f ids o target keys args) (callee p g) ∙ called ids (slice_get p.fns g) target keys args
  rowed around ids (choose e a b) = rw (after_block a ids, listed [] ids a, listed [] (ids_following_block p f a ids) b) refl
  rowed around ids (loop e b) = rw (listed [] ids b) refl
  rowed around ids (switch v arms end) =
      ap (λ cs. switch_rules ids v cs ++ arms_broken (unplaced_program p) (unplaced_func f) ids v (unplaced_arms arms)) (cases arms)
      ∙ ap (λ rs. switch_broken p f ids v arms ++ rs) (armed ids v arms)
  rowed around ids (focus y z b) = rw (listed [] (with_focus f z ids) b) refl
  rowed around ids (scope b) = listed [] ids b
  rowed around ids (return value) = refl
  rowed around ids (jump continues) = refl

  mutual
    pub forms : (around : Around) (ids : Ids) (s : Form) →
        form_rows (unplaced_program p) (unplaced_func f) around ids (unplaced_form s) ≡ form_rows p f around ids s
    forms around ids (simple s) = refl
    forms around ids (call g target keys args) = refl
    forms around ids (choose e a b) = rw (after_block a ids, blocks around ids a, blocks around (ids_following_block p f a ids) b) refl
    forms around ids (loop e b) = blocks (in_loop around) ids b
    forms around ids (switch v arms end) = arm_lists around ids arms
    forms around ids (focus y z b) = blocks in_focus (with_focus f z ids) b
    forms around ids (scope b) = blocks around ids b
    forms around ids (return value) = refl
    forms around ids (jump continues) = refl

    pub blocks : (around : Around) (ids : Ids) (b : Block) →
        block_rows (unplaced_program p) (unplaced_func f) around ids (unplaced_block b) ≡ block_rows p f around ids b
    blocks around ids (block ss bound end) = lists around (at_block_start ids) false ss

    pub lists : (around : Around) (ids : Ids) (ended : Bool) (ss : Stmts) →
        stmts_rows (unplaced_program p) (unplaced_func f) around ids ended
        (unplaced_stmts ss) ≡ stmts_rows p f around ids ended ss
    lists around ids ended done = refl
    lists around ids ended (next at s rest) =
        rw (following s ids, ending s, rowed around ids s, forms around ids s, lists around (ids_following p f s ids) (ends s) rest) refl

    pub arm_lists : (around : Around) (ids : Ids) (arms : Arms) →
        arms_rows (unplaced_program p) (unplaced_func f) around ids (unplaced_arms arms) ≡ arms_rows p f around ids arms
    arm_lists around ids no_arms = refl
    arm_lists around ids (arm c vs b rest) =
        rw (
          after_block b (with_vars f vs ids),
          blocks around (with_vars f vs ids) b,
          arm_lists around (left_behind ids (ids_following_block p f b (with_vars f vs ids))) rest,
        ) refl

pub functions : (p : Program) (q : ℕ × Func) → function_rows (unplaced_program p) (q.0, unplaced_func q.1) ≡ function_rows p q
functions p q =
    ap (λ b. (head_broken p q.0 q.1 ++ (if q.1.external then [] else unless b rule.NO_END)) ∷
    body_rows (unplaced_program p) (unplaced_func q.1)) (ending_list false q.1.body)
    ∙ ap (λ rs. (head_broken p q.0 q.1 ++ end_broken p q.1) ∷ (if q.1.external then [] else rs))
    (lists p q.1 (record { jumps = false; returns = true }) (first_ids p q.1) false q.1.body)

all_functions : (p : Program) (n : ℕ) (fs : List Func) →
    flat_map (function_rows (unplaced_program p)) (enumerate_from n (map unplaced_func fs)) ≡ flat_map (function_rows p)
    (enumerate_from n fs)
all_functions p n [] = refl
all_functions p n (f ∷ fs) =
    ap (λ x. x ++ flat_map (function_rows (unplaced_program p)) (enumerate_from (n + 1) (map unplaced_func fs))) (functions p (n, f))
    ∙ ap (λ y. function_rows p (n, f) ++ y) (all_functions p (n + 1) fs)

abbrev has_body : Option Func → Bool
has_body None = false
has_body (Some f) = not f.external

still_there : (o : Option Func) → has_body (option_map unplaced_func o) ≡ has_body o
still_there None = refl
still_there (Some f) = refl

mains : (p : Program) → has_main (unplaced_program p) ≡ has_main p
mains p = ap has_body (callee p p.main) ∙ still_there (slice_get p.fns p.main)

rows : (p : Program) → rows_broken (unplaced_program p) ≡ rows_broken p
rows p =
    ap (λ m. unless m rule.NO_MAIN ∷ map set_broken p.sets ++ flat_map (λ q. type_rows p q.0 q.1) (enumerate_from 0 p.types) ++
    flat_map (function_rows (unplaced_program p)) (enumerate_from 0 (map unplaced_func p.fns))) (mains p)
    ∙ ap (λ rs. unless (has_main p) rule.NO_MAIN ∷ map set_broken p.sets ++
    flat_map (λ q. type_rows p q.0 q.1) (enumerate_from 0 p.types) ++ rs) (all_functions p 0 p.fns)

pub kinds : (p : Program) → breaks (unplaced_program p) ≡ breaks p
kinds p = ap (first_broken 0) (rows p)
