-- A body that is fit is, surely, derived, or something in it is faulty.
use Rattle.std.proofs.Common.{◌++◌, ℕ, List, None, ◌⊎◌, inl, inr, ⊎_elim}
use Rattle.vlt_core.specs.Core.{Tok, Func, Program}
use Rattle.vlt_core.specs.Maps.{HeldMap}
use Rattle.vlt_core.specs.Flow.{Block}
use Rattle.vlt_core.specs.Bodies.{body_flow}
use Rattle.vlt_core.specs.Derives.{start_map, IsAcceptedFunc}
use Rattle.vlt_core.specs.Local.{Notes, IsLocalBlock}
use Rattle.vlt_core.specs.Found.{Has}
use Rattle.vlt_core.specs.Faults.{HasFault}
use Rattle.vlt_core_laws.specs.Fit.{IsFitBody}
use Rattle.vlt_core_laws.specs.Faulted.{HasFaultBlock}
use Rattle.vlt_core_laws.specs.Shown.{IsFit, IsStart, IsReadOf}
use Rattle.vlt_core_laws.specs.Sweep.{Stock, IsFoundIn, found_head_block, found_exit_block}
use Rattle.vlt_core_laws.proofs.Deriving.{accepted}
use Rattle.vlt_core_laws.proofs.Showing.{faultless_local}
use Rattle.vlt_core_laws.proofs.Spots.{some_spot_block}
use Rattle.vlt_base.specs.Sure.{Surely}
use Rattle.vlt_base.proofs.Surely.{sure, surely, so, one_way}
use Rattle.vlt_check_laws.proofs.Alike.{Test, Keeps, keeps_left, keeps_right, keeps_own}
use Rattle.vlt_check_laws.proofs.Closed.{tests_block, IsClosed}
use Rattle.vlt_check_laws.proofs.Told.{IsTabled, heads_block, exits_block}
use Rattle.vlt_check_laws.proofs.Read.{read, read_stands, lent_test}
use Rattle.vlt_check_laws.proofs.Start.{tests_start, start_closed}

-- ---- the notes that tables give

module _ (s : Block) (h : HeldMap) where
  -- what is found at the heads, and after
  record AreTabled : Type 0 where
    heads : (i : ℕ) → IsTabled (λ t. found_head_block t s 0 (Has (h t)) i)
    exits : (i : ℕ) → IsTabled (λ t. found_exit_block t s 0 (Has (h t)) i)

  tabled : (xs : List Test) → Keeps xs (tests_block s) → IsClosed xs (λ t. Has (h t)) → Surely AreTabled
  tabled xs k c =
      surely (heads_block xs s 0 (λ t. Has (h t)) k c) (λ x. so (exits_block xs s 0 (λ t. Has (h t)) k c) (λ y. record { heads = x; exits = y }))

  module _ (all : AreTabled) where
    abbrev stock : Tok → Stock
    stock t = record { around = λ i. (all.heads i).many t; following = λ i. (all.exits i).many t }

    abbrev notes : Notes
    notes = record { around = λ i t. read ((all.heads i).many t) ((all.heads i).lent t); following = λ i t. read ((all.exits i).many t) ((all.exits i).lent t) }

    founds : (t : Tok) → IsFoundIn t s (Has (h t)) (stock t)
    founds t = record {
      around = λ i o. let x = (all.heads i).each t o in (x.there, x.back);
      following = λ i o. let x = (all.exits i).each t o in (x.there, x.back);
    }

    reads : IsReadOf notes stock
    reads = record {
      around = λ t i k. let x = all.heads i in let y = read_stands (x.many t) k (x.lent t) (lent_test _ x t) in record { there = y.there; back = y.back };
      following = λ t i k. let x = all.exits i in let y = read_stands (x.many t) k (x.lent t) (lent_test _ x t) in record { there = y.there; back = y.back };
    }

    local : IsFit s → IsStart h → ((t : Tok) → HasFaultBlock t s (Has (h t)) → ⊥) → IsLocalBlock notes None 0 h s
    local fit start none = faultless_local s stock notes h fit start founds reads none

-- ---- a function's body

module _ (p : Program) (f : Func) where
  abbrev body : Block
  body = body_flow p f

  abbrev start : HeldMap
  start = start_map p f

  -- what tells tokens and states apart in the body
  abbrev pub tests_body : List Test
  tests_body = tests_start p f ++ tests_block body

  pub body_kept : Keeps tests_body (tests_block body)
  body_kept = keeps_right tests_body (tests_start p f) (tests_block body) (keeps_own tests_body)

  pub begins_closed : IsClosed tests_body (λ t. Has (start t))
  begins_closed = start_closed p f tests_body (keeps_left tests_body (tests_start p f) (tests_block body) (keeps_own tests_body))

  faultless : (HasFault p f → ⊥) → (t : Tok) → HasFaultBlock t body (Has (start t)) → ⊥
  faultless none t x = let y = some_spot_block body t 0 (Has (start t)) x in none (y.0, (t, y.1))

  derived : IsFitBody p f → (HasFault p f → ⊥) → AreTabled body start → IsAcceptedFunc p f
  derived fit none all = accepted body fit.scope start fit.scoped fit.absent (notes body start all, local body start all fit.fit fit.start (faultless none))

  pub derived_or_faulty : IsFitBody p f → Surely (IsAcceptedFunc p f ⊎ HasFault p f)
  derived_or_faulty fit = surely (one_way (HasFault p f)) (λ x. ⊎_elim
      (λ y. sure (inr y))
      (λ none. so (tabled body start tests_body body_kept begins_closed) (λ all. inl (derived fit none all))) x)
