-- There surely are notes that show just what is found in a body.
use Rattle.std.proofs.Common.{ℕ, List, None}
use Rattle.vlt_core.specs.Core.{Tok, Func, Program}
use Rattle.vlt_core.specs.Maps.{HeldMap}
use Rattle.vlt_core.specs.Flow.{Block}
use Rattle.vlt_core.specs.Derives.{IsAcceptedFunc}
use Rattle.vlt_core.specs.Local.{Notes, IsLocalBlock}
use Rattle.vlt_core.specs.Found.{Has}
use Rattle.vlt_core_laws.specs.Fit.{IsFitBody}
use Rattle.vlt_core_laws.specs.Faulted.{HasFaultBlock}
use Rattle.vlt_core_laws.specs.Shown.{IsFit, IsStart, IsReadOf}
use Rattle.vlt_core_laws.specs.Sweep.{Stock, IsFoundIn, found_head_block, found_exit_block}
use Rattle.vlt_core_laws.proofs.Showing.{faultless_local}
use Rattle.vlt_base.specs.Sure.{Surely}
use Rattle.vlt_base.proofs.Surely.{surely, so}
use Rattle.vlt_check_laws.proofs.Alike.{Test, Keeps}
use Rattle.vlt_check_laws.proofs.Closed.{tests_block, IsClosed}
use Rattle.vlt_check_laws.proofs.Derived.{tests_body, body_kept, begins_closed}
use Rattle.vlt_check_laws.proofs.Read.{read, read_stands, lent_test, tabled_stands}
use Rattle.vlt_check_laws.proofs.Told.{IsTabled, heads_block, exits_block}
use Rattle.cert_least_laws.proofs.OfBodies.Found.{ShowFound, body, start, none_faulty}

module _ (s : Block) (h : HeldMap) where
  -- what is found at the heads, and after loops and choices
  record AreTabled : Type 0 where
    heads : (i : ℕ) → IsTabled (λ t. found_head_block t s 0 (Has (h t)) i)
    exits : (i : ℕ) → IsTabled (λ t. found_exit_block t s 0 (Has (h t)) i)

  tabled : (xs : List Test) → Keeps xs (tests_block s) → IsClosed xs (λ t. Has (h t)) → Surely AreTabled
  tabled xs k c =
      surely (heads_block xs s 0 (λ t. Has (h t)) k c) (λ x. so (exits_block xs s 0 (λ t. Has (h t)) k c) (λ y. record { heads = x; exits = y }))

  module _ (all : AreTabled) where
    abbrev stock : Tok → Stock
    stock t = record { around = λ i. (all.heads i).many t; following = λ i. (all.exits i).many t }

    abbrev notes : Notes
    notes = record { around = λ i t. read ((all.heads i).many t) ((all.heads i).lent t); following = λ i t. read ((all.exits i).many t) ((all.exits i).lent t) }

    founds : (t : Tok) → IsFoundIn t s (Has (h t)) (stock t)
    founds t = record {
      around = λ i o. let x = (all.heads i).each t o in (x.there, x.back);
      following = λ i o. let x = (all.exits i).each t o in (x.there, x.back);
    }

    reads : IsReadOf notes stock
    reads = record {
      around = λ t i k. let x = all.heads i in let y = read_stands (x.many t) k (x.lent t) (lent_test _ x t) in record { there = y.there; back = y.back };
      following = λ t i k. let x = all.exits i in let y = read_stands (x.many t) k (x.lent t) (lent_test _ x t) in record { there = y.there; back = y.back };
    }

    shows : ShowFound s h notes
    shows = record {
      around = λ t i k. let y = tabled_stands (λ t. found_head_block t s 0 (Has (h t)) i) (all.heads i) t k in record { there = y.there; back = y.back };
      following = λ t i k. let y = tabled_stands (λ t. found_exit_block t s 0 (Has (h t)) i) (all.exits i) t k in record { there = y.there; back = y.back };
    }

    local : IsFit s → IsStart h → ((t : Tok) → HasFaultBlock t s (Has (h t)) → ⊥) → IsLocalBlock notes None 0 h s
    local fit start none = faultless_local s stock notes h fit start founds reads none

-- notes that show what is found in the body, and hold in it
pub record IsShown (p : Program) (f : Func) (fit : IsFitBody p f) : Type 0 where
  pub notes : Notes
  pub shows : ShowFound (body p f fit) (start p f fit) notes
  pub local : IsLocalBlock notes None 0 (start p f fit) (body p f fit)

pub surely_shown : (p : Program) (f : Func) (fit : IsFitBody p f) → IsAcceptedFunc p f → Surely (IsShown p f fit)
surely_shown p f fit accepted =
    so (tabled (body p f fit) (start p f fit) (tests_body p f) (body_kept p f) (begins_closed p f)) (λ all. record {
      notes = notes (body p f fit) (start p f fit) all;
      shows = shows (body p f fit) (start p f fit) all;
      local = local (body p f fit) (start p f fit) all fit.fit fit.start (none_faulty p f fit accepted);
    })
