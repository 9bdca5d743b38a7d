-- Rows of statements and of arms, one after another.
use Rattle.std.proofs.Common.{◌≡◌, ◌<◌, ◌≤◌, ◌+◌, ℕ, Bool, List, [], ◌∷◌, ◌++◌, drop, length, get_or, Result, Ok, Err, IfOk, sym, ap, ◌∙◌, subst, arith}
use Rattle.std.proofs.lemmas.List.{drop_all}
use Rattle.serde_json.specs.Data.{Data}
use Rattle.json.specs.Token.{Token}
use Rattle.vlt_core.specs.Core as core
use Rattle.vlt_core.specs.View.{vars_of, form_of, block_of, stmts_of, arms_of}
use Rattle.vlt_core.specs.declared.program.Stmt.{Stmt}
use Rattle.vlt_core.specs.declared.program.Arm.{Arm, out-Arm}
use Rattle.vlt_core.specs.declared.notes.Annotation.{Annotation}
use Rattle.vlt_core.proofs.Views.{stmt_parts, arm_parts}
use Rattle.cert_format.specs.Notes.{MapNotes}
use Rattle.cert_format.specs.Bodies.{count, count_block, count_list, count_arms}
use Rattle.cert_values.specs.Laid.{each_laid}
use Rattle.cert_values.proofs.Each.{each_append}
use Rattle.cert_write.specs.Notes.{maps_in}
use Rattle.cert_write.specs.Rows.{IsReady, IsPut, form_data, block_data, list_data, arms_data}
use Rattle.cert_write.specs.declared.cursor.Cursor.{Cursor}
use Rattle.cert_write.proofs.Each.{split_at}

pub put_then : (annotations : List Annotation) (n s t : ℕ) (xs ys : List Data) (old mid new : List Token) (p q : Cursor) → IsPut annotations n s xs old mid p → IsPut annotations p.next t ys mid new q → IsPut annotations n (s + t) (xs ++ ys) old new q
put_then annotations n s t xs ys old mid new p q a b = record {
  written = b.written ∙ ap (each_laid ys) a.written ∙ sym (each_append xs ys old);
  next = let e = a.next in let f = b.next in omega (arith, e, f);
  ready = b.ready;
}

-- a statement's row, then those of its blocks
pub row_then : {E : Type 0} (annotations : List Annotation) (n k : ℕ) (d : Data) (rest : ℕ → List Data) (old mid new : List Token) (p : Cursor) (r : Result Cursor E) →
    IsPut annotations n 1 (d ∷ []) old mid p → IfOk r (λ to. IsPut annotations p.next k (rest p.next) mid new to) → IfOk r (λ to. IsPut annotations n (1 + k) (d ∷ rest (n + 1)) old new to)
row_then annotations n k d rest old mid new p (Err x) a b = tt
row_then annotations n k d rest old mid new p (Ok to) a b =
    put_then annotations n 1 k (d ∷ []) (rest (n + 1)) old mid new p to a (subst (λ m. IsPut annotations p.next k (rest m) mid new to) a.next b)

-- those of one block, then those of another
pub block_then : {E : Type 0} (annotations : List Annotation) (n j k : ℕ) (xs : List Data) (rest : ℕ → List Data) (old mid new : List Token) (p : Cursor) (r : Result Cursor E) →
    IsPut annotations n j xs old mid p → IfOk r (λ to. IsPut annotations p.next k (rest p.next) mid new to) → IfOk r (λ to. IsPut annotations n (j + k) (xs ++ rest (n + j)) old new to)
block_then annotations n j k xs rest old mid new p (Err x) a b = tt
block_then annotations n j k xs rest old mid new p (Ok to) a b =
    put_then annotations n j k xs (rest (n + j)) old mid new p to a (subst (λ m. IsPut annotations p.next k (rest m) mid new to) a.next b)

-- ---- a walk over a list that has come so far

pub record Going (annotations : List Annotation) (all : List Data) (total n : ℕ) (old : List Token) (rest : List Data) (left : ℕ) (now : List Token) (to : Cursor) : Type 0 where
  pub written : each_laid rest now ≡ each_laid all old
  pub next : to.next + left ≡ n + total
  pub ready : IsReady annotations to

going_more : (annotations : List Annotation) (all : List Data) (total n : ℕ) (old : List Token) (rows rest : List Data) (size left : ℕ) (now new : List Token) (to on : Cursor) →
    Going annotations all total n old (rows ++ rest) (size + left) now to → IsPut annotations to.next size rows now new on → Going annotations all total n old rest left new on
going_more annotations all total n old rows rest size left now new to on g p = record {
  written = ap (each_laid rest) p.written ∙ sym (each_append rows rest now) ∙ g.written;
  next = let e = g.next in let f = p.next in omega (arith, e, f);
  ready = p.ready;
}

going_ends : (annotations : List Annotation) (all : List Data) (total n : ℕ) (old now : List Token) (to : Cursor) → Going annotations all total n old [] 0 now to → IsPut annotations n total all old now to
going_ends annotations all total n old now to g = record {
  written = g.written;
  next = let e = g.next in omega (arith, e);
  ready = g.ready;
}

module _ (bound : Bool) (annotations : List Annotation) where
  abbrev m : MapNotes
  m = maps_in annotations

  abbrev pub StmtsGoing : (stmts : List Stmt) (n : ℕ) (old : List Token) (i : ℕ) (now : List Token) (to : Cursor) → Type 0
  StmtsGoing stmts n old i now to =
      Going annotations (list_data bound m n (stmts_of stmts)) (count_list (stmts_of stmts)) n old
      (list_data bound m to.next (stmts_of (drop i stmts))) (count_list (stmts_of (drop i stmts))) now to

  abbrev pub ArmsGoing : (arms : List Arm) (n : ℕ) (old : List Token) (i : ℕ) (now : List Token) (to : Cursor) → Type 0
  ArmsGoing arms n old i now to =
      Going annotations (arms_data bound m n (arms_of arms)) (count_arms (arms_of arms)) n old
      (arms_data bound m to.next (arms_of (drop i arms))) (count_arms (arms_of (drop i arms))) now to

  module _ (n : ℕ) (old : List Token) where
    module _ (stmts : List Stmt) (i : ℕ) (s : Stmt) where
      abbrev f : core.Form
      f = form_of s.form

      abbrev rest : core.Stmts
      rest = stmts_of (drop (i + 1) stmts)

      abbrev all : List Data
      all = list_data bound m n (stmts_of stmts)

      abbrev total : ℕ
      total = count_list (stmts_of stmts)

      opened : i < length stmts → s ≡ get_or stmts i s → stmts_of (drop i stmts) ≡ core.next s.at f rest
      opened lt is = ap stmts_of (split_at stmts i s lt is) ∙ ap (λ z. core.next z.0 z.1 rest) (stmt_parts s)

      there : (now : List Token) (to : Cursor) → i < length stmts → s ≡ get_or stmts i s → StmtsGoing stmts n old i now to →
          Going annotations all total n old (form_data bound m to.next f ++ list_data bound m (to.next + count f) rest) (count f + count_list rest) now to
      there now to lt is g =
          subst (λ ss. Going annotations all total n old (list_data bound m to.next ss) (count_list ss) now to) (opened lt is) g

      pub stmts_more : (now new : List Token) (to q : Cursor) → i < length stmts → s ≡ get_or stmts i s → StmtsGoing stmts n old i now to →
          IsPut annotations to.next (count f) (form_data bound m to.next f) now new q → StmtsGoing stmts n old (i + 1) new q
      stmts_more now new to q lt is g on =
          subst (λ k. Going annotations all total n old (list_data bound m k rest) (count_list rest) new q) (sym on.next)
          (going_more annotations all total n old (form_data bound m to.next f) (list_data bound m (to.next + count f) rest) (count f) (count_list rest) now new to q (there now to lt is g) on)

    pub stmts_end : (stmts : List Stmt) (i : ℕ) (now : List Token) (to : Cursor) → length stmts ≤ i → StmtsGoing stmts n old i now to → IsPut annotations n (count_list (stmts_of stmts)) (list_data bound m n (stmts_of stmts)) old now to
    stmts_end stmts i now to past g =
        going_ends annotations (list_data bound m n (stmts_of stmts)) (count_list (stmts_of stmts)) n old now to
        (subst (λ ss. Going annotations (list_data bound m n (stmts_of stmts)) (count_list (stmts_of stmts)) n old (list_data bound m to.next (stmts_of ss)) (count_list (stmts_of ss)) now to) (drop_all i stmts past) g)

    module _ (arms : List Arm) (i : ℕ) (x : Arm) where
      abbrev b : core.Block
      b = block_of (out-Arm x).body

      abbrev arms_rest : core.Arms
      arms_rest = arms_of (drop (i + 1) arms)

      abbrev arms_all : List Data
      arms_all = arms_data bound m n (arms_of arms)

      abbrev arms_total : ℕ
      arms_total = count_arms (arms_of arms)

      arms_opened : i < length arms → x ≡ get_or arms i x → arms_of (drop i arms) ≡ core.arm (out-Arm x).case (vars_of (out-Arm x).vars) b arms_rest
      arms_opened lt is = ap arms_of (split_at arms i x lt is) ∙ ap (λ z. core.arm z.0 z.1 z.2 arms_rest) (arm_parts x)

      arms_there : (now : List Token) (to : Cursor) → i < length arms → x ≡ get_or arms i x → ArmsGoing arms n old i now to →
          Going annotations arms_all arms_total n old (block_data bound m to.next b ++ arms_data bound m (to.next + count_block b) arms_rest) (count_block b + count_arms arms_rest) now to
      arms_there now to lt is g =
          subst (λ ss. Going annotations arms_all arms_total n old (arms_data bound m to.next ss) (count_arms ss) now to) (arms_opened lt is) g

      pub arms_more : (now new : List Token) (to q : Cursor) → i < length arms → x ≡ get_or arms i x → ArmsGoing arms n old i now to →
          IsPut annotations to.next (count_block b) (block_data bound m to.next b) now new q → ArmsGoing arms n old (i + 1) new q
      arms_more now new to q lt is g put =
          subst (λ k. Going annotations arms_all arms_total n old (arms_data bound m k arms_rest) (count_arms arms_rest) new q) (sym put.next)
          (going_more annotations arms_all arms_total n old (block_data bound m to.next b) (arms_data bound m (to.next + count_block b) arms_rest) (count_block b) (count_arms arms_rest) now new to q (arms_there now to lt is g) put)

    pub arms_end : (arms : List Arm) (i : ℕ) (now : List Token) (to : Cursor) → length arms ≤ i → ArmsGoing arms n old i now to → IsPut annotations n (count_arms (arms_of arms)) (arms_data bound m n (arms_of arms)) old now to
    arms_end arms i now to past g =
        going_ends annotations (arms_data bound m n (arms_of arms)) (count_arms (arms_of arms)) n old now to
        (subst (λ ss. Going annotations (arms_data bound m n (arms_of arms)) (count_arms (arms_of arms)) n old (arms_data bound m to.next (arms_of ss)) (count_arms (arms_of ss)) now to) (drop_all i arms past) g)
