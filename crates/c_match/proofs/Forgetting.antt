-- Without their owners the owned pieces are those of the lowering.
use Rattle.std.proofs.Common.{◌≡◌, ℕ, suc, ◌+◌, Bool, true, false, not, if◌then◌else◌, List, [], ◌∷◌, ◌++◌, map, filter, Option, Some, None, refl, sym, ap, ap₂, ◌∙◌, append_assoc, append-nil}
use Rattle.std.proofs.lemmas.List.{map-append}
use Rattle.std.proofs.lemmas.Grind.{flat_map-append}
use Rattle.std.specs.List.{flat_map, enumerate_from}
use Rattle.vlt_core.specs.Core as core
use Rattle.vlt_core.specs.Core.{Func, Program}
use Rattle.vlt_core.specs.Least.{first_number}
use Rattle.c_syntax.specs.declared.program.CPrim.TheVariants as prim
use Rattle.c_syntax.specs.View.{stmts_made}
use Rattle.c_syntax.specs.C as c
use Rattle.c_lower.specs.Slots.{Numbers, of_number, of_reference, past, var_at, slot_of, first_temps}
use Rattle.c_lower.specs.Guards.{whole, equal, unequal}
use Rattle.c_lower.specs.Expressions.{value_of, expr_code}
use Rattle.c_lower.specs.Statements.{body_of, runtime_call, runtime_value, arm_copies, case_positions, variant_type, form_code, block_code, list_code, arms_code}
use Rattle.c_lower.specs.Lowering.{func_with, lowered}
use Rattle.c_match.specs.Pieces.{Piece, variables, begins_if, begins_else, begins_loop, ends, stmt_pieces, list_pieces, func_pieces, heads_of, program_pieces}
use Rattle.c_match.specs.Owned.{Owned, owned_by, count, count_block, form_owned, block_owned, list_owned, arms_owned, body_owned, owned_lowering}
use Rattle.c_match.proofs.Apartness.{pieces_in}

abbrev pub code_pieces : List c.Stmt → List Piece
code_pieces xs = list_pieces (stmts_made xs)

pub code_joined : (xs ys : List c.Stmt) → code_pieces (xs ++ ys) ≡ code_pieces xs ++ code_pieces ys
code_joined [] ys = refl
code_joined (x ∷ xs) ys = ap (λ l. stmt_pieces x ++ l) (code_joined xs ys) ∙ sym (append_assoc (stmt_pieces x) (code_pieces xs) (code_pieces ys))

-- a list whose last statement is this one
pub code_ends : (xs : List c.Stmt) (y : c.Stmt) → code_pieces (xs ++ y ∷ []) ≡ code_pieces xs ++ stmt_pieces y
code_ends xs y = code_joined xs (y ∷ []) ∙ ap (λ l. code_pieces xs ++ l) (append-nil (stmt_pieces y))

-- Without their owners these are those.
record Forget (xs : List Owned) (ys : List Piece) : Type 0 where
  same : pieces_in xs ≡ ys

owned_forgets : (o : Option ℕ) (xs : List Piece) → Forget (owned_by o xs) xs
owned_forgets o xs = record { same = by xs }
  where
    by : (xs : List Piece) → pieces_in (owned_by o xs) ≡ xs
    by [] = refl
    by (x ∷ xs) = ap (λ l. x ∷ l) (by xs)

both : {xs ys : List Owned} {qs rs : List Piece} → Forget xs qs → Forget ys rs → Forget (xs ++ ys) (qs ++ rs)
both {xs} {ys} d e = record { same = map-append (λ x. x.piece) xs ys ∙ ap₂ (λ l r. l ++ r) d.same e.same }

and_so : {xs : List Owned} {ys zs : List Piece} → Forget xs ys → ys ≡ zs → Forget xs zs
and_so d e = record { same = d.same ∙ e }

-- the parts of a choice, joined one after another
choice_joined : (test end other : Piece) (code chosen rest : List Piece) →
    code ++ test ∷ [] ++ chosen ++ end ∷ other ∷ [] ++ rest ++ end ∷ [] ≡ code ++ (test ∷ chosen ++ end ∷ other ∷ rest ++ end ∷ [])
choice_joined test end other [] chosen rest = ap (λ l. l ++ end ∷ []) (append_assoc (test ∷ chosen) (end ∷ other ∷ []) rest)
choice_joined test end other (x ∷ code) chosen rest = ap (λ l. x ∷ l) (choice_joined test end other code chosen rest)

module _ (p : Program) (f : Func) where
  mutual
    form_forgets : (t : Numbers) (n : ℕ) (s : core.Form) → Forget (form_owned p f t n s) (code_pieces (form_code p f t s).stmts)
    form_forgets t n (core.simple s) = owned_forgets (Some n) (code_pieces (form_code p f t (core.simple s)).stmts)
    form_forgets t n (core.call g target keys os) = owned_forgets (Some n) (code_pieces (form_code p f t (core.call g target keys os)).stmts)
    form_forgets t n (core.return o) = owned_forgets (Some n) (code_pieces (form_code p f t (core.return o)).stmts)
    form_forgets t n (core.jump continues) = owned_forgets (Some n) (code_pieces (form_code p f t (core.jump continues)).stmts)
    form_forgets t n (core.scope b) = block_forgets t (suc n) b
    form_forgets t n (core.choose e a b) =
        let x = expr_code p f t e in
        let choice = c.choose (unequal (value_of x) (whole 0)) (body_of (block_code p f t a)) (body_of (block_code p f t b)) in
        let test = begins_if (unequal (value_of x) (whole 0)) in
        and_so
        (both (both (both (both (both
        (owned_forgets (Some n) (code_pieces x.stmts))
        (owned_forgets (Some n) (test ∷ [])))
        (block_forgets t (suc n) a))
        (owned_forgets (Some n) (ends ∷ begins_else ∷ [])))
        (block_forgets t (suc n + count_block a) b))
        (owned_forgets (Some n) (ends ∷ [])))
        (choice_joined test ends begins_else (code_pieces x.stmts) (code_pieces (block_code p f t a).stmts) (code_pieces (block_code p f t b).stmts)
        ∙ sym (code_ends x.stmts choice))
    form_forgets t n (core.loop e b) =
        let x = expr_code p f t e in
        let exit = c.when (equal (value_of x) (whole 0)) (c.next c.break c.done) in
        let body = (block_code p f t b).stmts in
        and_so
        (both (both (both (both
        (owned_forgets (Some n) (begins_loop ∷ []))
        (owned_forgets (Some n) (code_pieces x.stmts)))
        (owned_forgets (Some n) (code_pieces (exit ∷ []))))
        (block_forgets t (suc n) b))
        (owned_forgets (Some n) (ends ∷ [])))
        (ap (λ l. begins_loop ∷ l ++ ends ∷ [])
        (append_assoc (code_pieces x.stmts) (code_pieces (exit ∷ [])) (code_pieces body) ∙ sym (code_joined x.stmts (exit ∷ body)))
        ∙ sym (append-nil (stmt_pieces (c.loop (stmts_made (x.stmts ++ exit ∷ body))))))
    form_forgets t n (core.switch v arms end) =
        both (owned_forgets (Some n) (code_pieces (c.set (var_at t of_number) (c.variable (slot_of p f v)) ∷ [])))
        (arms_forgets t n (suc n) v arms)
    form_forgets t n (core.focus y z b) =
        let object = var_at t of_reference in
        let adopter = var_at (past t of_reference) of_reference in
        let inside = past (past t of_reference) of_reference in
        let first =
        c.set object (c.variable (slot_of p f y)) ∷ runtime_value adopter prim.Parent (c.variable object ∷ [])
        ∷ runtime_call prim.Disown (c.variable object ∷ []) ∷ c.set (slot_of p f z) (c.variable object) ∷ [] in
        let last = runtime_call prim.Own (c.variable object ∷ c.variable adopter ∷ []) in
        and_so
        (both (both
        (owned_forgets (Some n) (code_pieces first))
        (block_forgets inside (suc n) b))
        (owned_forgets (Some n) (code_pieces (last ∷ []))))
        (append_assoc (code_pieces first) (code_pieces (block_code p f inside b).stmts) (code_pieces (last ∷ []))
        ∙ ap (λ l. code_pieces first ++ l) (sym (code_joined (block_code p f inside b).stmts (last ∷ []))))

    block_forgets : (t : Numbers) (n : ℕ) (b : core.Block) → Forget (block_owned p f t n b) (code_pieces (block_code p f t b).stmts)
    block_forgets t n (core.block stmts bound end) = list_forgets t n stmts

    list_forgets : (t : Numbers) (n : ℕ) (ss : core.Stmts) → Forget (list_owned p f t n ss) (code_pieces (list_code p f t ss).stmts)
    list_forgets t n core.done = record { same = refl }
    list_forgets t n (core.next at s rest) =
        and_so (both (form_forgets t n s) (list_forgets t (n + count s) rest))
        (sym (code_joined (form_code p f t s).stmts (list_code p f t rest).stmts))

    arms_forgets : (t : Numbers) (n m v : ℕ) (arms : core.Arms) → Forget (arms_owned p f t n m v arms) (code_pieces (arms_code p f (past t of_number) v (var_at t of_number) arms).stmts)
    arms_forgets t n m v core.no_arms = record { same = refl }
    arms_forgets t n m v (core.arm k vs b arms) =
        let copied = arm_copies p f v (case_positions p (variant_type f v) k) vs in
        let body = (block_code p f (past t of_number) b).stmts in
        let test = begins_if (equal (c.variable (var_at t of_number)) (whole k)) in
        let others = code_pieces (arms_code p f (past t of_number) v (var_at t of_number) arms).stmts in
        and_so
        (both (both (both (both
        (owned_forgets (Some n) (test ∷ []))
        (owned_forgets (Some n) (code_pieces copied)))
        (block_forgets (past t of_number) m b))
        (owned_forgets (Some n) (ends ∷ [])))
        (arms_forgets t n (m + count_block b) v arms))
        (ap (λ l. test ∷ l ++ ends ∷ [] ++ others) (sym (code_joined copied body)))

module _ (p : Program) where
  abbrev lowered_body : (number : ℕ) → Func → c.Func
  lowered_body k f = func_with p k f (list_code p f (first_temps p f) f.body)

  body_forgets : (n k : ℕ) (f : Func) → Forget (body_owned p n f) (func_pieces (lowered_body k f))
  body_forgets n k f =
      both (both
      (owned_forgets None (variables (lowered_body k f).vars ∷ []))
      (list_forgets p f (first_temps p f) n f.body))
      (owned_forgets None (ends ∷ []))

  abbrev body_or_none : (g : ℕ) → Func → List Owned
  body_or_none g f = if f.external then [] else body_owned p (first_number p g) f

  -- those of functions, of which the first has this position
  abbrev bodies_or_none : (g : ℕ) → List Func → List Owned
  bodies_or_none g fs = flat_map (λ q. body_or_none q.0 q.1) (enumerate_from g fs)

  abbrev lowered_bodies : (k : ℕ) → List Func → List Piece
  lowered_bodies k fs = flat_map func_pieces (map (λ q. lowered_body q.0 q.1) (enumerate_from k fs))

  abbrev inner : List Func → List Func
  inner fs = filter (λ f. not f.external) fs

  bodies_forget : (g k : ℕ) (fs : List Func) → Forget (bodies_or_none g fs) (lowered_bodies k (inner fs))
  bodies_forget g k [] = record { same = refl }
  bodies_forget g k (f ∷ fs) = by f.external (bodies_forget (g + 1) k fs) (bodies_forget (g + 1) (k + 1) fs)
    where
      by : (external : Bool) →
          Forget (bodies_or_none (g + 1) fs) (lowered_bodies k (inner fs)) →
          Forget (bodies_or_none (g + 1) fs) (lowered_bodies (k + 1) (inner fs)) →
          Forget ((if external then [] else body_owned p (first_number p g) f) ++ bodies_or_none (g + 1) fs)
          (lowered_bodies k (if not external then f ∷ inner fs else inner fs))
      by true same next = same
      by false same next = both (body_forgets (first_number p g) k f) next

  pub lowering_forgets : pieces_in (owned_lowering p) ≡ program_pieces (lowered p)
  lowering_forgets =
      let outer = heads_of (lowered p) ∷ flat_map func_pieces (lowered p).glue in
      let all : Forget (owned_lowering p) (outer ++ flat_map func_pieces (lowered p).fns) = both (owned_forgets None outer) (bodies_forget 0 0 p.fns) in
      all.same ∙ ap (λ l. heads_of (lowered p) ∷ l) (sym (flat_map-append func_pieces (lowered p).glue (lowered p).fns))
