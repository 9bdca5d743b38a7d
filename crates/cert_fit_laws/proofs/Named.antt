-- Which statements have notes: as forms say it, as flows say it and as drafts say it; their numbers ascend.
use Rattle.std.proofs.Common.{◌≡◌, ◌≤◌, ◌+◌, ℕ, suc, Bool, true, false, if◌then◌else◌, List, [], ◌∷◌, ◌++◌, map, refl, sym, ap, ◌∙◌, subst, arith}
use Rattle.std.proofs.lemmas.List.{append_assoc, map-append}
use Rattle.vlt_core.specs.Core as core
use Rattle.vlt_core.specs.Core.{Tok, Func, Program}
use Rattle.vlt_core.specs.Flow.{passes}
use Rattle.vlt_core.specs.Flow as flow
use Rattle.vlt_core.specs.Bodies.{flow_of, flow_of_block, flow_of_stmts, flow_of_arms}
use Rattle.vlt_core.specs.Least.{Noted, a_loop, a_join, noted, noted_block, noted_stmts, noted_arms}
use Rattle.vlt_core.specs.KindedScopes.{Ids, Around, at_block_start, left_behind}
use Rattle.vlt_core.specs.KindedBodies.{in_loop, in_focus, with_focus, with_vars, ends, ids_following, ids_following_block, form_rows, block_rows, stmts_rows, arms_rows}
use Rattle.vlt_core_laws.specs.Arms.{HasArms, HasArmsBlock, HasArmsStmts, HasArmsArms}
use Rattle.vlt_core_laws.proofs.Unbroken.{each_left, each_right}
use Rattle.vlt_core_laws.specs.Unbroken.{EachEmpty}
use Rattle.vlt_core_laws.proofs.Ending.{ends_form}
use Rattle.vlt_core_laws.proofs.Ids.{not_both}
use Rattle.cert_fit_laws.proofs.Passing.{dont_pass}
use Rattle.cert_format.specs.Notes.{MapNotes, join_of, Note, at_loop, at_join, join_note}
use Rattle.cert_format.specs.Bodies.{count, count_block, count_list, count_arms, draft_of, block_draft, list_draft, arms_draft, notes_of, block_notes, list_notes, arms_notes}
use Rattle.cert_fit_laws.proofs.Sizes.{flow_size, flow_size_block, draft_size, draft_size_block}

-- ---- as forms say it

abbrev pub joined : ℕ → (ended : Bool) → List Noted
joined n b = if b then [] else a_join n ∷ []

abbrev mutual
  pub form_noted : ℕ → core.Form → List Noted
  form_noted n (core.choose e a b) = joined n (ends (core.choose e a b)) ++ (block_noted (n + 1) a ++ block_noted (n + 1 + count_block a) b)
  form_noted n (core.loop e b) = a_loop n ∷ block_noted (n + 1) b
  form_noted n (core.switch v arms end) = joined n (ends (core.switch v arms end)) ++ arms_noted (n + 1) arms
  form_noted n (core.focus y z b) = block_noted (n + 1) b
  form_noted n (core.scope b) = block_noted (n + 1) b
  form_noted n s = []

  pub block_noted : ℕ → core.Block → List Noted
  block_noted n (core.block ss bound end) = list_noted n ss

  pub list_noted : ℕ → core.Stmts → List Noted
  list_noted n core.done = []
  list_noted n (core.next at s rest) = form_noted n s ++ list_noted (n + count s) rest

  pub arms_noted : ℕ → core.Arms → List Noted
  arms_noted n core.no_arms = []
  arms_noted n (core.arm c vs b rest) = block_noted n b ++ arms_noted (n + count_block b) rest

-- ---- as flows say it

join : {A : Type 0} {a b c d : List A} → a ≡ c → b ≡ d → a ++ b ≡ c ++ d
join {A} {a} {b} {c} {d} x y = ap (λ z. z ++ b) x ∙ ap (λ z. c ++ z) y

module _ (p : Program) (f : Func) where
  -- a choice has a note exactly where it doesn't end
  same_join : (n : ℕ) (s : core.Form) (left : List Tok) (around : Around) (ids : Ids) → HasArms s → EachEmpty (form_rows p f around ids s) →
      (if passes (flow_of p f left s) then a_join n ∷ [] else []) ≡ joined n (ends s)
  same_join n s left around ids arms rows = by (passes (flow_of p f left s)) (ends s) refl refl
    where
      by : (b c : Bool) → passes (flow_of p f left s) ≡ b → ends s ≡ c → (if passes (flow_of p f left s) then a_join n ∷ [] else []) ≡ joined n (ends s)
      by true true q e = not_both (passes (flow_of p f left s)) q (dont_pass p f s left e)
      by true false q e = rw (q, e) refl
      by false true q e = rw (q, e) refl
      by false false q e = not_both (ends s) (ends_form p f s left around ids arms rows q) e

  mutual
    same_form : (n : ℕ) (s : core.Form) (left : List Tok) (around : Around) (ids : Ids) → HasArms s → EachEmpty (form_rows p f around ids s) → noted n (flow_of p f left s) ≡ form_noted n s
    same_form n (core.simple s) left around ids arms rows = refl
    same_form n (core.call g target keys args) left around ids arms rows = refl
    same_form n (core.choose e a b) left around ids arms rows =
        let following = ids_following_block p f a ids in
        let one = same_block (n + 1) a left around ids arms.0 (each_left (block_rows p f around ids a) (block_rows p f around following b) rows) in
        let two = same_block (n + 1 + count_block a) b left around following arms.1 (each_right (block_rows p f around ids a) (block_rows p f around following b) rows) in
        append_assoc _ (noted_block (n + 1) (flow_of_block p f left a)) (noted_block (n + 1 + flow.size_block (flow_of_block p f left a)) (flow_of_block p f left b)) ∙
        join (same_join n (core.choose e a b) left around ids arms rows)
        (join one (ap (λ m. noted_block (n + 1 + m) (flow_of_block p f left b)) (flow_size_block p f a left) ∙ two))
    same_form n (core.loop e b) left around ids arms rows = ap (λ xs. a_loop n ∷ xs) (same_block (n + 1) b [] (in_loop around) ids arms rows)
    same_form n (core.switch v arms end) left around ids has rows =
        join (same_join n (core.switch v arms end) left around ids has rows) (same_arms (n + 1) arms left v around ids has.1 rows)
    same_form n (core.focus y z b) left around ids arms rows = same_block (n + 1) b left in_focus (with_focus f z ids) arms rows
    same_form n (core.scope b) left around ids arms rows = same_block (n + 1) b left around ids arms rows
    same_form n (core.return o) left around ids arms rows = refl
    same_form n (core.jump c) left around ids arms rows = refl

    same_block : (n : ℕ) (b : core.Block) (left : List Tok) (around : Around) (ids : Ids) → HasArmsBlock b → EachEmpty (block_rows p f around ids b) → noted_block n (flow_of_block p f left b) ≡ block_noted n b
    same_block n (core.block ss bound end) left around ids arms rows = same_list n ss (left ++ bound) around (at_block_start ids) false arms rows

    pub same_list : (n : ℕ) (ss : core.Stmts) (left : List Tok) (around : Around) (ids : Ids) (ended : Bool) → HasArmsStmts ss → EachEmpty (stmts_rows p f around ids ended ss) → noted_stmts n (flow_of_stmts p f left ss) ≡ list_noted n ss
    same_list n core.done left around ids ended arms rows = refl
    same_list n (core.next at s rest) left around ids ended arms rows =
        let following = ids_following p f s ids in
        join (same_form n s left around ids arms.0 (each_left (form_rows p f around ids s) (stmts_rows p f around following (ends s) rest) rows.1))
        (ap (λ m. noted_stmts (n + m) (flow_of_stmts p f left rest)) (flow_size p f s left) ∙
        same_list (n + count s) rest left around following (ends s) arms.1 (each_right (form_rows p f around ids s) (stmts_rows p f around following (ends s) rest) rows.1))

    same_arms : (n : ℕ) (arms : core.Arms) (left : List Tok) (v : ℕ) (around : Around) (ids : Ids) → HasArmsArms arms → EachEmpty (arms_rows p f around ids arms) → noted_arms n (flow_of_arms p f left v arms) ≡ arms_noted n arms
    same_arms n core.no_arms left v around ids arms rows = refl
    same_arms n (core.arm c vs b rest) left v around ids arms rows =
        let inside = with_vars f vs ids in
        let following = left_behind ids (ids_following_block p f b inside) in
        join (same_block n b left around inside arms.0 (each_left (block_rows p f around inside b) (arms_rows p f around following rest) rows))
        (ap (λ m. noted_arms (n + m) (flow_of_arms p f left v rest)) (flow_size_block p f b left) ∙
        same_arms (n + count_block b) rest left v around following arms.1 (each_right (block_rows p f around inside b) (arms_rows p f around following rest) rows))

-- ---- as drafts say it: each statement's note has the maps that are looked up by its number

abbrev pub read : MapNotes → Noted → Note
read a (a_loop n) = at_loop n (a.around n) (a.following n)
read a (a_join n) = at_join n (a.following n)

module _ (a : MapNotes) where
  abbrev reads : List Noted → List Note
  reads = map (read a)

  read_join : (n : ℕ) (b : Bool) → join_note n (join_of b (a.following n)) ≡ reads (joined n b)
  read_join n true = refl
  read_join n false = refl

  mutual
    read_form : (n : ℕ) (s : core.Form) → notes_of n (draft_of a n s) ≡ reads (form_noted n s)
    read_form n (core.simple s) = refl
    read_form n (core.call g target keys args) = refl
    read_form n (core.choose e x y) =
        let xs = block_noted (n + 1) x in
        let ys = block_noted (n + 1 + count_block x) y in
        join (read_join n (ends (core.choose e x y)))
        (join (read_block (n + 1) x) (ap (λ m. block_notes (n + 1 + m) (block_draft a (n + 1 + count_block x) y)) (draft_size_block a x (n + 1)) ∙ read_block (n + 1 + count_block x) y) ∙
        sym (map-append (read a) xs ys)) ∙ sym (map-append (read a) (joined n (ends (core.choose e x y))) (xs ++ ys))
    read_form n (core.loop e x) = ap (λ xs. at_loop n (a.around n) (a.following n) ∷ xs) (read_block (n + 1) x)
    read_form n (core.switch v arms end) =
        join (read_join n (ends (core.switch v arms end))) (read_arms (n + 1) arms) ∙ sym (map-append (read a) (joined n (ends (core.switch v arms end))) (arms_noted (n + 1) arms))
    read_form n (core.focus y z x) = read_block (n + 1) x
    read_form n (core.scope x) = read_block (n + 1) x
    read_form n (core.return o) = refl
    read_form n (core.jump c) = refl

    read_block : (n : ℕ) (b : core.Block) → block_notes n (block_draft a n b) ≡ reads (block_noted n b)
    read_block n (core.block ss bound end) = read_list n ss

    pub read_list : (n : ℕ) (ss : core.Stmts) → list_notes n (list_draft a n ss) ≡ reads (list_noted n ss)
    read_list n core.done = refl
    read_list n (core.next at s rest) =
        join (read_form n s) (ap (λ m. list_notes (n + m) (list_draft a (n + count s) rest)) (draft_size a s n) ∙ read_list (n + count s) rest) ∙
        sym (map-append (read a) (form_noted n s) (list_noted (n + count s) rest))

    read_arms : (n : ℕ) (arms : core.Arms) → arms_notes n (arms_draft a n arms) ≡ reads (arms_noted n arms)
    read_arms n core.no_arms = refl
    read_arms n (core.arm c vs b rest) =
        join (read_block n b) (ap (λ m. arms_notes (n + m) (arms_draft a (n + count_block b) rest)) (draft_size_block a b n) ∙ read_arms (n + count_block b) rest) ∙
        sym (map-append (read a) (block_noted n b) (arms_noted (n + count_block b) rest))

-- ---- numbers ascend

abbrev pub number_of : Noted → ℕ
number_of (a_loop n) = n
number_of (a_join n) = n

-- from m on, and below k
abbrev pub Climbs : (m k : ℕ) → List Noted → Type 0
Climbs m k [] = m ≤ k
Climbs m k (x ∷ xs) = (m ≤ number_of x) × Climbs (suc (number_of x)) k xs

pub lower : (m n k : ℕ) (xs : List Noted) → m ≤ n → Climbs n k xs → Climbs m k xs
lower m n k [] less c = omega (arith, less, c)
lower m n k (x ∷ xs) less c = (omega (arith, less, c.0), c.1)

climbs_joined : (m n k : ℕ) (xs ys : List Noted) → Climbs m n xs → Climbs n k ys → Climbs m k (xs ++ ys)
climbs_joined m n k [] ys c d = lower m n k ys c d
climbs_joined m n k (x ∷ xs) ys c d = (c.0, climbs_joined (suc (number_of x)) n k xs ys c.1 d)

climbs_to : (m k l : ℕ) (xs : List Noted) → k ≡ l → Climbs m k xs → Climbs m l xs
climbs_to m k l xs e c = subst (λ z. Climbs m z xs) e c

climb_join : (n : ℕ) (b : Bool) → Climbs n (n + 1) (joined n b)
climb_join n true = omega arith
climb_join n false = (omega arith, omega arith)

inside : (n count : ℕ) (xs : List Noted) → Climbs (n + 1) (n + 1 + count) xs → Climbs (n + 1) (n + (1 + count)) xs
inside n count xs c = climbs_to (n + 1) (n + 1 + count) (n + (1 + count)) xs (sum n count) c
  where
    sum : (n a : ℕ) → n + 1 + a ≡ n + (1 + a)
    sum n a = omega arith

mutual
  climb_form : (n : ℕ) (s : core.Form) → Climbs n (n + count s) (form_noted n s)
  climb_form n (core.simple s) = omega arith
  climb_form n (core.call g target keys args) = omega arith
  climb_form n (core.choose e a b) =
      climbs_joined n (n + 1) (n + (1 + (count_block a + count_block b))) (joined n (ends (core.choose e a b))) _ (climb_join n (ends (core.choose e a b)))
      (climbs_to (n + 1) (n + 1 + count_block a + count_block b) (n + (1 + (count_block a + count_block b))) _ (sum n (count_block a) (count_block b))
      (climbs_joined (n + 1) (n + 1 + count_block a) (n + 1 + count_block a + count_block b) (block_noted (n + 1) a) (block_noted (n + 1 + count_block a) b) (climb_block (n + 1) a) (climb_block (n + 1 + count_block a) b)))
    where
      sum : (n a b : ℕ) → n + 1 + a + b ≡ n + (1 + (a + b))
      sum n a b = omega arith
  climb_form n (core.loop e b) = (same n, lower (suc n) (n + 1) (n + (1 + count_block b)) (block_noted (n + 1) b) (next n) (inside n (count_block b) (block_noted (n + 1) b) (climb_block (n + 1) b)))
    where
      same : (n : ℕ) → n ≤ n
      same n = omega arith

      next : (n : ℕ) → suc n ≤ n + 1
      next n = omega arith
  climb_form n (core.switch v arms end) =
      climbs_joined n (n + 1) (n + (1 + count_arms arms)) (joined n (ends (core.switch v arms end))) (arms_noted (n + 1) arms) (climb_join n (ends (core.switch v arms end)))
      (climbs_to (n + 1) (n + 1 + count_arms arms) (n + (1 + count_arms arms)) (arms_noted (n + 1) arms) (sum n (count_arms arms)) (climb_arms (n + 1) arms))
    where
      sum : (n a : ℕ) → n + 1 + a ≡ n + (1 + a)
      sum n a = omega arith
  climb_form n (core.focus y z b) = lower n (n + 1) (n + (1 + count_block b)) (block_noted (n + 1) b) (up n) (inside n (count_block b) (block_noted (n + 1) b) (climb_block (n + 1) b))
    where
      up : (n : ℕ) → n ≤ n + 1
      up n = omega arith
  climb_form n (core.scope b) = lower n (n + 1) (n + (1 + count_block b)) (block_noted (n + 1) b) (up n) (inside n (count_block b) (block_noted (n + 1) b) (climb_block (n + 1) b))
    where
      up : (n : ℕ) → n ≤ n + 1
      up n = omega arith
  climb_form n (core.return o) = omega arith
  climb_form n (core.jump c) = omega arith

  climb_block : (n : ℕ) (b : core.Block) → Climbs n (n + count_block b) (block_noted n b)
  climb_block n (core.block ss bound end) = climb_list n ss

  pub climb_list : (n : ℕ) (ss : core.Stmts) → Climbs n (n + count_list ss) (list_noted n ss)
  climb_list n core.done = omega arith
  climb_list n (core.next at s rest) =
      climbs_to n (n + count s + count_list rest) (n + (count s + count_list rest)) _ (sum n (count s) (count_list rest))
      (climbs_joined n (n + count s) (n + count s + count_list rest) (form_noted n s) (list_noted (n + count s) rest) (climb_form n s) (climb_list (n + count s) rest))
    where
      sum : (n a b : ℕ) → n + a + b ≡ n + (a + b)
      sum n a b = omega arith

  climb_arms : (n : ℕ) (arms : core.Arms) → Climbs n (n + count_arms arms) (arms_noted n arms)
  climb_arms n core.no_arms = omega arith
  climb_arms n (core.arm c vs b rest) =
      climbs_to n (n + count_block b + count_arms rest) (n + (count_block b + count_arms rest)) _ (sum n (count_block b) (count_arms rest))
      (climbs_joined n (n + count_block b) (n + count_block b + count_arms rest) (block_noted n b) (arms_noted (n + count_block b) rest) (climb_block n b) (climb_arms (n + count_block b) rest))
    where
      sum : (n a b : ℕ) → n + a + b ≡ n + (a + b)
      sum n a b = omega arith
