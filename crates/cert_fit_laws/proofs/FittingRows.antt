-- The rows of statements fit.
use Rattle.std.proofs.Common.{◌≡◌, ℕ, ◌+◌, List, Option, Some, None, refl, Bool, true, false, ◌&&◌, arith}
use Rattle.vlt_core.specs.Core as core
use Rattle.vlt_core.specs.Core.{Operand, Simple, Form, Block, Stmts, Arms}
use Rattle.cert_rows.specs.Parts.{All, several}
use Rattle.cert_rows.specs.Values.{Shape}
use Rattle.cert_rows.specs.Rows.{Row, head, arm, FitsRow, return_stmt}
use Rattle.cert_rows.specs.Rows as row
use Rattle.cert_format.specs.Drafts as draft
use Rattle.cert_format.specs.Drafts.{draft_rows, block_rows, list_rows, arms_rows, arm_heads}
use Rattle.cert_format.specs.Notes.{MapNotes}
use Rattle.cert_format.specs.Bodies.{draft_of, block_draft, list_draft, arms_draft, count, count_block}
use Rattle.vlt_core.specs.Proper.{all_in_simple, all_in_return, all_in_form, all_in_block, all_in, all_in_arms}
use Rattle.std.proofs.lemmas.Bool.{and_parts}
use Rattle.cert_format_laws.proofs.Decoding.{all_joined}
use Rattle.cert_fit_laws.proofs.Narrow.{IsNarrowSimple, IsNarrowReturn, IsNarrow, IsNarrowBlock, AreNarrow, AreNarrowArms}
use Rattle.cert_fit_laws.proofs.Mapped.{HasMaps, BlockHasMaps, HaveMaps, ArmsHaveMaps}
use Rattle.cert_fit_laws.proofs.FittingParts.{is_written, expr_fits, operand_fits, operands_fit, no_number, maybe_fits}

simple_fits : (w : Shape) (s : Simple) → all_in_simple is_written s ≡ true → IsNarrowSimple s → FitsRow w (row.simple s)
simple_fits w (core.set v e) is narrow = (narrow.0, expr_fits e is narrow.1)
simple_fits w (core.input v true) is narrow = (narrow, (omega arith, refl))
simple_fits w (core.input v false) is narrow = (narrow, (omega arith, refl))
simple_fits w (core.print e) is narrow = expr_fits e is narrow
simple_fits w (core.put x i e) is narrow = (narrow.0, narrow.1, expr_fits e is narrow.2)
simple_fits w (core.make x os) is narrow = (narrow.0, operands_fit os is narrow.1)
simple_fits w (core.become x state) is narrow = narrow
simple_fits w (core.release x) is narrow = narrow
simple_fits w (core.drop v) is narrow = narrow
simple_fits w (core.own v o) is narrow = (narrow.0, operand_fits o is narrow.1)
simple_fits w (core.unpack x v) is narrow = narrow
simple_fits w (core.build v c os) is narrow = (narrow.0, narrow.1, operands_fit os is narrow.2)
simple_fits w (core.swap x i v) is narrow = narrow
simple_fits w (core.open_into x vs) is narrow = narrow
simple_fits w (core.adopt y x r) is narrow = narrow

return_fits : (o : Option Operand) → all_in_return is_written o ≡ true → IsNarrowReturn o → return_stmt.Fits o
return_fits None is narrow = tt
return_fits (Some o) is narrow = (operand_fits o is narrow, no_number o)

flag_fits : (b : Bool) → row.jump_stmt.Fits b
flag_fits true = (omega arith, refl)
flag_fits false = (omega arith, refl)

module _ (w : Shape) (a : MapNotes) where
  abbrev Fit : List Row → Type 0
  Fit rows = All (FitsRow w) rows

  head_fits : (n : ℕ) (b : Block) → IsNarrowBlock b → head.Fits (draft.head (block_draft a n b))
  head_fits n (core.block ss bound end) narrow = (narrow.0, narrow.1)

  heads_fit : (n : ℕ) (arms : Arms) → AreNarrowArms arms → (several arm).Fits (arm_heads (arms_draft a n arms))
  heads_fit n core.no_arms narrow = tt
  heads_fit n (core.arm c vs (core.block ss bound end) rest) narrow =
      ((narrow.0, narrow.1, narrow.2.0, narrow.2.1), heads_fit (n + count_block (core.block ss bound end)) rest narrow.3)

  mutual
    form_fits : (n : ℕ) (s : Form) → all_in_form is_written s ≡ true → IsNarrow s → HasMaps w.instances a n s → Fit (draft_rows (draft_of a n s))
    form_fits n (core.simple s) is narrow maps = (simple_fits w s is narrow, tt)
    form_fits n (core.call g target keys os) is narrow maps = ((narrow.0, maybe_fits target narrow.1, narrow.2, operands_fit os is narrow.3), tt)
    form_fits n (core.choose e x y) is narrow maps =
        let h = and_parts (is_written e) (all_in_block is_written x && all_in_block is_written y) is in
        let k = and_parts (all_in_block is_written x) (all_in_block is_written y) h.1 in (
          (expr_fits e h.0 narrow.0, head_fits (n + 1) x narrow.1, head_fits (n + 1 + count_block x) y narrow.2, maps.0),
          all_joined (FitsRow w) (block_rows (block_draft a (n + 1) x)) (block_rows (block_draft a (n + 1 + count_block x) y))
              (block_fits (n + 1) x k.0 narrow.1 maps.1) (block_fits (n + 1 + count_block x) y k.1 narrow.2 maps.2),
        )
    form_fits n (core.loop e x) is narrow maps =
        let h = and_parts (is_written e) (all_in_block is_written x) is in
        ((expr_fits e h.0 narrow.0, head_fits (n + 1) x narrow.1, maps.0, maps.1), block_fits (n + 1) x h.1 narrow.1 maps.2)
    form_fits n (core.switch v arms end) is narrow maps =
        ((narrow.0, heads_fit (n + 1) arms narrow.1, maps.0), arms_fit (n + 1) arms is narrow.1 maps.1)
    form_fits n (core.focus y z x) is narrow maps = ((narrow.0, narrow.1, head_fits (n + 1) x narrow.2), block_fits (n + 1) x is narrow.2 maps)
    form_fits n (core.scope x) is narrow maps = (head_fits (n + 1) x narrow, block_fits (n + 1) x is narrow maps)
    form_fits n (core.return o) is narrow maps = (return_fits o is narrow, tt)
    form_fits n (core.jump c) is narrow maps = (flag_fits c, tt)

    block_fits : (n : ℕ) (b : Block) → all_in_block is_written b ≡ true → IsNarrowBlock b → BlockHasMaps w.instances a n b → Fit (block_rows (block_draft a n b))
    block_fits n (core.block ss bound end) is narrow maps = list_fits n ss is narrow.2 maps

    pub list_fits : (n : ℕ) (ss : Stmts) → all_in is_written ss ≡ true → AreNarrow ss → HaveMaps w.instances a n ss → Fit (list_rows (list_draft a n ss))
    list_fits n core.done is narrow maps = tt
    list_fits n (core.next at s rest) is narrow maps =
        let h = and_parts (all_in_form is_written s) (all_in is_written rest) is in
        all_joined (FitsRow w) (draft_rows (draft_of a n s)) (list_rows (list_draft a (n + count s) rest))
        (form_fits n s h.0 narrow.0 maps.0) (list_fits (n + count s) rest h.1 narrow.1 maps.1)

    arms_fit : (n : ℕ) (arms : Arms) → all_in_arms is_written arms ≡ true → AreNarrowArms arms → ArmsHaveMaps w.instances a n arms → Fit (arms_rows (arms_draft a n arms))
    arms_fit n core.no_arms is narrow maps = tt
    arms_fit n (core.arm c vs b rest) is narrow maps =
        let h = and_parts (all_in_block is_written b) (all_in_arms is_written rest) is in
        all_joined (FitsRow w) (block_rows (block_draft a n b)) (arms_rows (arms_draft a (n + count_block b) rest))
        (block_fits n b h.0 narrow.2 maps.0) (arms_fit (n + count_block b) rest h.1 narrow.3 maps.1)
