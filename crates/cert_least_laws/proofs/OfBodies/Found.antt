-- The notes of a body that show just what is found are its least ones.
use Rattle.std.proofs.Common.{◌≡◌, ℕ, Bool, List, [], ◌∷◌, map, None, refl, sym, ap, ◌∙◌}
use Rattle.vlt_core.specs.Core.{Tok, Func, Program}
use Rattle.vlt_core.specs.Maps.{Status, absent, held, lent, full, HeldMap, IsBelow, kind_of}
use Rattle.vlt_core.specs.Flow.{Block}
use Rattle.vlt_core.specs.Bodies.{body_flow}
use Rattle.vlt_core.specs.Derives.{start_map, IsAcceptedFunc}
use Rattle.vlt_core.specs.Local.{Notes, IsLocalBlock}
use Rattle.vlt_core.specs.Found.{One, Ones, Has}
use Rattle.vlt_core.specs.Least.{Noted, a_loop, a_join, noted_block, LieBelow, IsLeast}
use Rattle.vlt_core_laws.specs.Fit.{IsFitBody}
use Rattle.vlt_core_laws.specs.Faulted.{HasFaultBlock}
use Rattle.vlt_core_laws.specs.Scoped.{IsScopedBlock}
use Rattle.vlt_core_laws.specs.Shown.{one_kind, IsJust, IsOneKind}
use Rattle.vlt_core_laws.specs.Sweep.{found_head_block, found_exit_block}
use Rattle.vlt_core_laws.proofs.Deriving.{annotated}
use Rattle.vlt_core_laws.proofs.Faultless.{map_below}
use Rattle.vlt_core_laws.proofs.Founds.{kind_held, kind_lent, kind_absent, kind_full, local_out_block}
use Rattle.cert_least_laws.proofs.OfBodies.Agreeing.{read, named_back, read_local}
use Rattle.cert_least_laws.proofs.OfBodies.Reached.{AreSome, block_some}
use Rattle.cert_least_laws.proofs.OfBodies.Within.{heads_in_block, exits_in_block}

has_kind : (u : Status) (o : One) → Has u o → kind_of u ≡ one_kind o
has_kind absent o h = ap one_kind (sym (kind_absent absent refl o h))
has_kind (held s) o h = ap one_kind (sym (kind_held (held s) refl o h).1)
has_kind (lent s) o h = ap one_kind (sym (kind_lent (lent s) refl o h).1)
has_kind full o h = ap one_kind (sym (kind_full full refl o h))

-- what is found in a status is of one kind
pub one_kind_in : (u : Status) (S : Ones) → ((o : One) → S o → Has u o) → IsOneKind S
one_kind_in u S within o q x y = sym (has_kind u o (within o x)) ∙ has_kind u q (within q y)

-- at each statement the maps show just what is found, where that is of one kind
pub record ShowFound (s : Block) (h : HeldMap) (a : Notes) : Type 0 where
  pub around : (t : Tok) (i : ℕ) → IsOneKind (found_head_block t s 0 (Has (h t)) i) → IsJust (a.around i t) (found_head_block t s 0 (Has (h t)) i)
  pub following : (t : Tok) (i : ℕ) → IsOneKind (found_exit_block t s 0 (Has (h t)) i) → IsJust (a.following i t) (found_exit_block t s 0 (Has (h t)) i)

module _ (s : Block) (h : HeldMap) (a : Notes) (shows : ShowFound s h a) (g : Tok → Bool) (scoped : IsScopedBlock g s) where
  -- the map at a head lies below that of each annotation that holds, if something of each token is found there
  module _ (b : Notes) (local : IsLocalBlock b None 0 h s) where
    head_in : (t : Tok) (i : ℕ) (o : One) → found_head_block t s 0 (Has (h t)) i o → Has (b.around i t) o
    head_in t i o x = heads_in_block t b s g None 0 h (Has (h t)) scoped (record { each = λ o x. x }) local i o x

    exit_in : (t : Tok) (i : ℕ) (o : One) → found_exit_block t s 0 (Has (h t)) i o → Has (b.following i t) o
    exit_in t i o x = exits_in_block t b s g None 0 h (Has (h t)) scoped (record { each = λ o x. x }) local i o x

    pub head_just : (t : Tok) (i : ℕ) → IsJust (a.around i t) (found_head_block t s 0 (Has (h t)) i)
    head_just t i = shows.around t i (one_kind_in (b.around i t) (found_head_block t s 0 (Has (h t)) i) (head_in t i))

    pub exit_just : (t : Tok) (i : ℕ) → IsJust (a.following i t) (found_exit_block t s 0 (Has (h t)) i)
    exit_just t i = shows.following t i (one_kind_in (b.following i t) (found_exit_block t s 0 (Has (h t)) i) (exit_in t i))

    head_below : (i : ℕ) → ((t : Tok) → (o : One) × found_head_block t s 0 (Has (h t)) i o) → IsBelow (a.around i) (b.around i)
    head_below i some = map_below (a.around i) (b.around i) (λ t. found_head_block t s 0 (Has (h t)) i) (λ t. record { there = (head_just t i).there; back = (head_just t i).back; some = some t }) (λ t o x. head_in t i o x)

    exit_below : (i : ℕ) → ((t : Tok) → (o : One) × found_exit_block t s 0 (Has (h t)) i o) → IsBelow (a.following i) (b.following i)
    exit_below i some = map_below (a.following i) (b.following i) (λ t. found_exit_block t s 0 (Has (h t)) i) (λ t. record { there = (exit_just t i).there; back = (exit_just t i).back; some = some t }) (λ t o x. exit_in t i o x)

    all_below : (xs : List Noted) → ((t : Tok) → AreSome (found_head_block t s 0 (Has (h t))) (found_exit_block t s 0 (Has (h t))) xs) → LieBelow b (map (read a) xs)
    all_below [] some = tt
    all_below (a_loop n ∷ xs) some = ((head_below n (λ t. (some t).0), exit_below n (λ t. (some t).1)), all_below xs (λ t. (some t).2))
    all_below (a_join n ∷ xs) some = (exit_below n (λ t. (some t).0), all_below xs (λ t. (some t).1))

-- ---- a function's body

module _ (p : Program) (f : Func) (fit : IsFitBody p f) where
  abbrev pub body : Block
  body = body_flow p f

  abbrev pub start : HeldMap
  start = start_map p f

  -- some annotation holds in one that is accepted, so nothing in it is faulty
  pub some_local : IsAcceptedFunc p f → (b : Notes) × IsLocalBlock b None 0 start body
  some_local accepted = annotated body start fit.fit.jumping accepted

  pub none_faulty : IsAcceptedFunc p f → (t : Tok) → HasFaultBlock t body (Has (start t)) → ⊥
  none_faulty accepted t =
      let b = some_local accepted in
      (local_out_block body t b.0 None 0 start (Has (start t)) (record { each = λ o x. x }) b.1).1

  pub some_found : (b : Notes) → IsLocalBlock b None 0 start body → (t : Tok) → AreSome (found_head_block t body 0 (Has (start t))) (found_exit_block t body 0 (Has (start t))) (noted_block 0 body)
  some_found b local t = (block_some t b body fit.scope None 0 start (Has (start t)) fit.scoped fit.fit.filled (record { each = λ o x. x }) local (fit.start.some t)).1

  pub shown_least : (a : Notes) → ShowFound body start a → IsLocalBlock a None 0 start body → IsLeast p f (map (read a) (noted_block 0 body))
  shown_least a shows local = record {
    complete = named_back a (noted_block 0 body);
    local = read_local a body start local;
    least = λ b holds. all_below body start a shows fit.scope fit.scoped b holds (noted_block 0 body) (some_found b holds);
  }
