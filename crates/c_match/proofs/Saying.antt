-- Programs with the same pieces are the same.
use Rattle.std.proofs.Common.{◌≡◌, ◌⊎◌, inl, inr, ⊎_elim, List, [], ◌∷◌, ◌++◌, map, refl, sym, ap, ap₂, ◌∙◌, append_assoc, append-nil}
use Rattle.std.proofs.lemmas.Grind.{flat_map-append}
use Rattle.std.specs.List.{flat_map}
use Rattle.c_syntax.specs.C as c
use Rattle.c_match.specs.Pieces.{Piece, variables, plain, begins_if, begins_else, begins_loop, ends, stmt_pieces, list_pieces, func_pieces, head_of, heads_of, program_pieces}
use Rattle.c_match.proofs.Parts.{funcs_from}
use Rattle.c_match.proofs.Wholes.{program_from}

head_same : {A : Type 0} (x y : A) (xs ys : List A) → x ∷ xs ≡ y ∷ ys → x ≡ y
head_same x y xs ys e = cc

tail_same : {A : Type 0} (x y : A) (xs ys : List A) → x ∷ xs ≡ y ∷ ys → xs ≡ ys
tail_same x y xs ys e = cc

nothing_there : {A : Type 0} (x : A) (xs : List A) → [] ≡ x ∷ xs → ⊥
nothing_there x xs e = cc

-- what a list of pieces doesn't begin with
abbrev BeginsOtherwise : Piece → List Piece → Type 0
BeginsOtherwise x zs = (rest : List Piece) → x ∷ rest ≡ zs → ⊥

-- ---- a statement begins block its own kind

plain_begins : (x y : c.Stmt) (zs ws : List Piece) → plain x ∷ zs ≡ stmt_pieces y ++ ws → (x ≡ y) × (zs ≡ ws)
plain_begins x (c.set v e) zs ws q = (cc, cc)
plain_begins x (c.set_call v f) zs ws q = (cc, cc)
plain_begins x (c.call f) zs ws q = (cc, cc)
plain_begins x (c.put d e) zs ws q = (cc, cc)
plain_begins x (c.when e block) zs ws q = absurd cc
plain_begins x (c.choose e block other) zs ws q = absurd cc
plain_begins x (c.loop block) zs ws q = absurd cc
plain_begins x c.break zs ws q = (cc, cc)
plain_begins x c.continue zs ws q = (cc, cc)
plain_begins x (c.return e) zs ws q = (cc, cc)

end_begins : (y : c.Stmt) (ws : List Piece) → BeginsOtherwise ends (stmt_pieces y ++ ws)
end_begins (c.set v e) ws rest q = cc
end_begins (c.set_call v f) ws rest q = cc
end_begins (c.call f) ws rest q = cc
end_begins (c.put d e) ws rest q = cc
end_begins (c.when e block) ws rest q = cc
end_begins (c.choose e block other) ws rest q = cc
end_begins (c.loop block) ws rest q = cc
end_begins c.break ws rest q = cc
end_begins c.continue ws rest q = cc
end_begins (c.return e) ws rest q = cc

else_begins : (y : c.Stmt) (ws : List Piece) → BeginsOtherwise begins_else (stmt_pieces y ++ ws)
else_begins (c.set v e) ws rest q = cc
else_begins (c.set_call v f) ws rest q = cc
else_begins (c.call f) ws rest q = cc
else_begins (c.put d e) ws rest q = cc
else_begins (c.when e block) ws rest q = cc
else_begins (c.choose e block other) ws rest q = cc
else_begins (c.loop block) ws rest q = cc
else_begins c.break ws rest q = cc
else_begins c.continue ws rest q = cc
else_begins (c.return e) ws rest q = cc

-- no list begins with an `else`
else_follows : (xs : c.Stmts) (zs : List Piece) → BeginsOtherwise begins_else (list_pieces xs ++ ends ∷ zs)
else_follows c.done zs rest q = cc
else_follows (c.next x xs) zs rest q = else_begins x (list_pieces xs ++ ends ∷ zs) rest (q ∙ append_assoc (stmt_pieces x) (list_pieces xs) (ends ∷ zs))

-- ---- statements with blocks, before what follows

when_flat : (e : c.Expr) (block : c.Stmts) (zs : List Piece) → stmt_pieces (c.when e block) ++ zs ≡ begins_if e ∷ list_pieces block ++ ends ∷ zs
when_flat e block zs = ap (λ l. begins_if e ∷ l) (append_assoc (list_pieces block) (ends ∷ []) zs)

choose_flat : (e : c.Expr) (block other : c.Stmts) (zs : List Piece) → stmt_pieces (c.choose e block other) ++ zs ≡ begins_if e ∷ list_pieces block ++ ends ∷ begins_else ∷ (list_pieces other ++ ends ∷ zs)
choose_flat e block other zs =
    append_assoc (begins_if e ∷ list_pieces block ++ ends ∷ begins_else ∷ list_pieces other) (ends ∷ []) zs
    ∙ append_assoc (begins_if e ∷ list_pieces block) (ends ∷ begins_else ∷ list_pieces other) (ends ∷ zs)

loop_flat : (block : c.Stmts) (zs : List Piece) → stmt_pieces (c.loop block) ++ zs ≡ begins_loop ∷ list_pieces block ++ ends ∷ zs
loop_flat block zs = ap (λ l. begins_loop ∷ l) (append_assoc (list_pieces block) (ends ∷ []) zs)

-- an `if`, with its block and what follows that
record IsIf (e : c.Expr) (y : c.Stmt) (zs ws : List Piece) : Type 0 where
  block : c.Stmts
  is : y ≡ c.when e block
  pieces : zs ≡ list_pieces block ++ ends ∷ ws

record IsIfElse (e : c.Expr) (y : c.Stmt) (zs ws : List Piece) : Type 0 where
  block : c.Stmts
  other : c.Stmts
  is : y ≡ c.choose e block other
  pieces : zs ≡ list_pieces block ++ ends ∷ begins_else ∷ (list_pieces other ++ ends ∷ ws)

record IsLoop (y : c.Stmt) (zs ws : List Piece) : Type 0 where
  block : c.Stmts
  is : y ≡ c.loop block
  pieces : zs ≡ list_pieces block ++ ends ∷ ws

if_begins : (e : c.Expr) (y : c.Stmt) (zs ws : List Piece) → begins_if e ∷ zs ≡ stmt_pieces y ++ ws → IsIf e y zs ws ⊎ IsIfElse e y zs ws
if_begins e (c.set v d) zs ws q = absurd cc
if_begins e (c.set_call v f) zs ws q = absurd cc
if_begins e (c.call f) zs ws q = absurd cc
if_begins e (c.put x d) zs ws q = absurd cc
if_begins e (c.when d block) zs ws q =
    let there : begins_if e ∷ zs ≡ begins_if d ∷ list_pieces block ++ ends ∷ ws = q ∙ when_flat d block ws in
    let same : d ≡ e = cc in
    inl (record { block = block; is = ap (λ x. c.when x block) same; pieces = cc })
if_begins e (c.choose d block other) zs ws q =
    let there : begins_if e ∷ zs ≡ begins_if d ∷ list_pieces block ++ ends ∷ begins_else ∷ (list_pieces other ++ ends ∷ ws) = q ∙ choose_flat d block other ws in
    let same : d ≡ e = cc in
    inr (record { block = block; other = other; is = ap (λ x. c.choose x block other) same; pieces = cc })
if_begins e (c.loop block) zs ws q = absurd cc
if_begins e c.break zs ws q = absurd cc
if_begins e c.continue zs ws q = absurd cc
if_begins e (c.return d) zs ws q = absurd cc

loop_begins : (y : c.Stmt) (zs ws : List Piece) → begins_loop ∷ zs ≡ stmt_pieces y ++ ws → IsLoop y zs ws
loop_begins (c.set v d) zs ws q = absurd cc
loop_begins (c.set_call v f) zs ws q = absurd cc
loop_begins (c.call f) zs ws q = absurd cc
loop_begins (c.put x d) zs ws q = absurd cc
loop_begins (c.when d block) zs ws q = absurd cc
loop_begins (c.choose d block other) zs ws q = absurd cc
loop_begins (c.loop block) zs ws q = record { block = block; is = refl; pieces = (let there : begins_loop ∷ zs ≡ begins_loop ∷ list_pieces block ++ ends ∷ ws = q ∙ loop_flat block ws in cc) }
loop_begins c.break zs ws q = absurd cc
loop_begins c.continue zs ws q = absurd cc
loop_begins (c.return d) zs ws q = absurd cc

-- ---- statements and lists

mutual
  same_stmt : (x y : c.Stmt) (zs ws : List Piece) → BeginsOtherwise begins_else zs → BeginsOtherwise begins_else ws → stmt_pieces x ++ zs ≡ stmt_pieces y ++ ws → (x ≡ y) × (zs ≡ ws)
  same_stmt (c.set v e) y zs ws otherwise also q = plain_begins (c.set v e) y zs ws q
  same_stmt (c.set_call v f) y zs ws otherwise also q = plain_begins (c.set_call v f) y zs ws q
  same_stmt (c.call f) y zs ws otherwise also q = plain_begins (c.call f) y zs ws q
  same_stmt (c.put d e) y zs ws otherwise also q = plain_begins (c.put d e) y zs ws q
  same_stmt c.break y zs ws otherwise also q = plain_begins c.break y zs ws q
  same_stmt c.continue y zs ws otherwise also q = plain_begins c.continue y zs ws q
  same_stmt (c.return e) y zs ws otherwise also q = plain_begins (c.return e) y zs ws q
  same_stmt (c.when e block) y zs ws otherwise also q = ⊎_elim
      (λ k. let s = same_list block k.block zs ws (k.pieces) in (ap (c.when e) s.0 ∙ sym k.is, s.1))
      (λ k. let s = same_list block k.block zs (begins_else ∷ (list_pieces k.other ++ ends ∷ ws)) k.pieces in absurd (otherwise _ (sym s.1)))
      (if_begins e y (list_pieces block ++ ends ∷ zs) ws (sym (when_flat e block zs) ∙ q))
  same_stmt (c.choose e block other) y zs ws otherwise also q = ⊎_elim
      (λ k. let s = same_list block k.block (begins_else ∷ (list_pieces other ++ ends ∷ zs)) ws k.pieces in absurd (also _ s.1))
      (λ k.
      let s = same_list block k.block (begins_else ∷ (list_pieces other ++ ends ∷ zs)) (begins_else ∷ (list_pieces k.other ++ ends ∷ ws)) k.pieces in
      let r = same_list other k.other zs ws (tail_same begins_else begins_else (list_pieces other ++ ends ∷ zs) (list_pieces k.other ++ ends ∷ ws) s.1) in
      (ap₂ (λ x y. c.choose e x y) s.0 r.0 ∙ sym k.is, r.1))
      (if_begins e y (list_pieces block ++ ends ∷ begins_else ∷ (list_pieces other ++ ends ∷ zs)) ws (sym (choose_flat e block other zs) ∙ q))
  same_stmt (c.loop block) y zs ws otherwise also q =
      let k = loop_begins y (list_pieces block ++ ends ∷ zs) ws (sym (loop_flat block zs) ∙ q) in
      let s = same_list block k.block zs ws k.pieces in
      (ap c.loop s.0 ∙ sym k.is, s.1)

  same_list : (xs ys : c.Stmts) (zs ws : List Piece) → list_pieces xs ++ ends ∷ zs ≡ list_pieces ys ++ ends ∷ ws → (xs ≡ ys) × (zs ≡ ws)
  same_list c.done c.done zs ws q = (refl, tail_same ends ends zs ws q)
  same_list c.done (c.next y ys) zs ws q = absurd (end_begins y (list_pieces ys ++ ends ∷ ws) zs (q ∙ append_assoc (stmt_pieces y) (list_pieces ys) (ends ∷ ws)))
  same_list (c.next x xs) c.done zs ws q = absurd (end_begins x (list_pieces xs ++ ends ∷ zs) ws (sym q ∙ append_assoc (stmt_pieces x) (list_pieces xs) (ends ∷ zs)))
  same_list (c.next x xs) (c.next y ys) zs ws q =
      let s = same_stmt x y (list_pieces xs ++ ends ∷ zs) (list_pieces ys ++ ends ∷ ws) (else_follows xs zs) (else_follows ys ws)
      (sym (append_assoc (stmt_pieces x) (list_pieces xs) (ends ∷ zs)) ∙ q ∙ append_assoc (stmt_pieces y) (list_pieces ys) (ends ∷ ws)) in
      let r = same_list xs ys zs ws s.1 in
      (ap₂ c.next s.0 r.0, r.1)

-- ---- functions and programs

same_func : (f g : c.Func) (zs ws : List Piece) → head_of f ≡ head_of g → func_pieces f ++ zs ≡ func_pieces g ++ ws → (f ≡ g) × (zs ≡ ws)
same_func f g zs ws h q =
    let declared : variables f.vars ≡ variables g.vars = head_same (variables f.vars) (variables g.vars) ((list_pieces f.body ++ ends ∷ []) ++ zs) ((list_pieces g.body ++ ends ∷ []) ++ ws) q in
    let rest = tail_same (variables f.vars) (variables g.vars) ((list_pieces f.body ++ ends ∷ []) ++ zs) ((list_pieces g.body ++ ends ∷ []) ++ ws) q in
    let s = same_list f.body g.body zs ws (sym (append_assoc (list_pieces f.body) (ends ∷ []) zs) ∙ rest ∙ append_assoc (list_pieces g.body) (ends ∷ []) ws) in
    let vars : f.vars ≡ g.vars = cc in
    (funcs_from f g (ap (λ x. x.number) h) (ap (λ x. x.result) h) (ap (λ x. x.params) h) vars s.0, s.1)

same_funcs : (fs gs : List c.Func) (zs ws : List Piece) → map head_of fs ≡ map head_of gs → flat_map func_pieces fs ++ zs ≡ flat_map func_pieces gs ++ ws → (fs ≡ gs) × (zs ≡ ws)
same_funcs [] [] zs ws h q = (refl, q)
same_funcs [] (g ∷ gs) zs ws h q = absurd (nothing_there (head_of g) (map head_of gs) h)
same_funcs (f ∷ fs) [] zs ws h q = absurd (nothing_there (head_of f) (map head_of fs) (sym h))
same_funcs (f ∷ fs) (g ∷ gs) zs ws h q =
    let s = same_func f g (flat_map func_pieces fs ++ zs) (flat_map func_pieces gs ++ ws) (head_same (head_of f) (head_of g) (map head_of fs) (map head_of gs) h)
    (sym (append_assoc (func_pieces f) (flat_map func_pieces fs) zs) ∙ q ∙ append_assoc (func_pieces g) (flat_map func_pieces gs) ws) in
    let r = same_funcs fs gs zs ws (tail_same (head_of f) (head_of g) (map head_of fs) (map head_of gs) h) s.1 in
    (ap₂ (λ x xs. x ∷ xs) s.0 r.0, r.1)

record SameHeads (x y : c.Program) : Type 0 where
  main : x.main ≡ y.main
  glue : map head_of x.glue ≡ map head_of y.glue
  fns : map head_of x.fns ≡ map head_of y.fns

same_heads : (x y : c.Program) → heads_of x ≡ heads_of y → SameHeads x y
same_heads x y e = record { main = cc; glue = cc; fns = cc }

pub pieces_say_all : (x y : c.Program) → program_pieces x ≡ program_pieces y → x ≡ y
pieces_say_all x y q =
    let all = λ (z : c.Program). flat_map func_pieces (z.glue ++ z.fns) in
    let h = same_heads x y (head_same (heads_of x) (heads_of y) (all x) (all y) q) in
    let glue = same_funcs x.glue y.glue (flat_map func_pieces x.fns) (flat_map func_pieces y.fns) h.glue
    (sym (flat_map-append func_pieces x.glue x.fns) ∙ tail_same (heads_of x) (heads_of y) (all x) (all y) q ∙ flat_map-append func_pieces y.glue y.fns) in
    let fns = same_funcs x.fns y.fns [] [] h.fns (append-nil (flat_map func_pieces x.fns) ∙ glue.1 ∙ sym (append-nil (flat_map func_pieces y.fns))) in
    program_from x y h.main glue.0 fns.0
