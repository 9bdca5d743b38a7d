-- Statements, over the indentation of the block around.
use Rattle.std.proofs.Common.{ℕ, ◌-◌, List, [], ◌∷◌, ◌++◌, refl, sym, subst, append_assoc, append-nil}
use Rattle.std.specs.Prelude.{codes}
use Rattle.vlt_tokens.specs.declared.token.Word.TheVariants as words
use Rattle.vlt_tokens.specs.declared.token.Mark.TheVariants as marks
use Rattle.vlt_tokens.specs.Characters.{is_blank, EachIs}
use Rattle.vlt_syntax.specs.Grammar.{Bounds, IsStmt, IsBlock, IsIf, IsElse, AreStmts, AreArms}
use Rattle.vlt_syntax.specs.Tokens.{Token}
use Rattle.vlt_syntax.specs.Tree as s
use Rattle.vlt_syntax.specs.Tree.{Stmt, Block, If, Else, Stmts, Arms}
use Rattle.vlt_syntax.specs.Spelling.{name_then, stmt_then, block_then, if_then, else_then, stmts_then, arms_then}
use Rattle.vlt_printer.specs.Layout.{name_after, deeper, stmt_after, block_after, stmts_after, if_after, else_after, arms_after}
use Rattle.vlt_printer_laws.proofs.Following.{clear, wordy, signed}
use Rattle.vlt_printer_laws.proofs.Steps.{Begins, weaker, blank_begins, text_begins, space, line_end, word, mark}
use Rattle.vlt_printer_laws.proofs.Sequences.{each_holds, sign_stands, enclosed_printed, listed_printed}
use Rattle.vlt_printer_laws.proofs.Types.{name_printed, case_name_printed, any_name, ty_printed}
use Rattle.vlt_printer_laws.proofs.Expressions.{expr_printed, call_printed, right_printed, returned_printed}

abbrev pub AreBlanks : List ℕ → Type 0
AreBlanks cs = EachIs is_blank cs

deeper_blanks : (indent : List ℕ) → AreBlanks indent → AreBlanks (deeper indent)
deeper_blanks [] is = (refl, (refl, (refl, (refl, tt))))
deeper_blanks (c ∷ indent) is = (is.0, deeper_blanks indent is.1)

indent_printed : {all : List Token} (indent : List ℕ) {before : List ℕ} {rest : List Token} → AreBlanks indent → Begins all before rest clear → Begins all (before ++ indent) rest clear
indent_printed {all} [] {before} {rest} is h = subst (λ x. Begins all x rest clear) (sym (append-nil before)) h
indent_printed {all} (c ∷ indent) {before} {rest} is h =
    subst (λ x. Begins all x rest clear) (append_assoc before (c ∷ []) indent) (indent_printed indent is.1 (blank_begins c clear is.0 h))

module _ {all : List Token} (b : Bounds) where
  mutual
    pub stmt_printed : (room : ℕ) (x : Stmt) (indent : List ℕ) {before : List ℕ} {rest : List Token} → IsStmt b room x → AreBlanks indent → Begins all before (stmt_then x rest) signed → Begins all (stmt_after indent x before) rest signed
    stmt_printed room (s.declare t x v at) indent is blanks h =
        let named = name_printed x (text_begins (space ∷ []) refl (ty_printed t h)) in
        text_begins (mark marks.Semicolon ∷ []) refl (right_printed b v is.1 (text_begins (space ∷ mark marks.Assign ∷ space ∷ []) refl named))
    stmt_printed room (s.assign x v at) indent is blanks h =
        text_begins (mark marks.Semicolon ∷ []) refl (right_printed b v is (text_begins (space ∷ mark marks.Assign ∷ space ∷ []) refl (name_printed x h)))
    stmt_printed room (s.put x f e at) indent is blanks h =
        let named = name_printed f (text_begins (mark marks.Dot ∷ []) refl (name_printed x h)) in
        text_begins (mark marks.Semicolon ∷ []) refl (expr_printed 0 e is.0 (text_begins (space ∷ mark marks.Assign ∷ space ∷ []) refl named))
    stmt_printed room (s.call c at) indent is blanks h = text_begins (mark marks.Semicolon ∷ []) refl (call_printed b c is h)
    stmt_printed room (s.print e at) indent is blanks h =
        text_begins (mark marks.CloseParen ∷ mark marks.Semicolon ∷ []) refl (expr_printed 0 e is.0 (text_begins (word words.Print ∷ mark marks.OpenParen ∷ []) refl h))
    stmt_printed room (s.block body) indent is blanks h = block_printed room body indent is blanks h
    stmt_printed room (s.choose i) indent is blanks h = if_printed room i indent is blanks h
    stmt_printed room (s.loop e body at) indent is blanks h =
        let tested = expr_printed 0 e is.0.0 (text_begins (word words.While ∷ space ∷ mark marks.OpenParen ∷ []) refl h) in
        block_printed room body indent is.1 blanks (text_begins (mark marks.CloseParen ∷ space ∷ []) refl tested)
    stmt_printed room (s.break at) indent is blanks h = text_begins (word words.Break ∷ mark marks.Semicolon ∷ []) refl h
    stmt_printed room (s.continue at) indent is blanks h = text_begins (word words.Continue ∷ mark marks.Semicolon ∷ []) refl h
    stmt_printed room (s.return v at) indent is blanks h = text_begins (mark marks.Semicolon ∷ []) refl (returned_printed b v is (text_begins (word words.Return ∷ []) refl h))
    stmt_printed room (s.switch x s.no_arms at) indent is blanks h =
        let named = name_printed x (text_begins (word words.Switch ∷ space ∷ mark marks.OpenParen ∷ []) refl h) in
        text_begins (mark marks.CloseParen ∷ space ∷ mark marks.OpenBrace ∷ mark marks.CloseBrace ∷ []) refl named
    stmt_printed room (s.switch x (s.arm c vs body arm_at arms) at) indent is blanks h =
        let named = name_printed x (text_begins (word words.Switch ∷ space ∷ mark marks.OpenParen ∷ []) refl h) in
        let opened = text_begins (mark marks.CloseParen ∷ space ∷ mark marks.OpenBrace ∷ line_end ∷ []) refl named in
        text_begins (mark marks.CloseBrace ∷ []) refl
        (indent_printed indent blanks (arms_printed room (s.arm c vs body arm_at arms) (deeper indent) is.1 (deeper_blanks indent blanks) opened))
    stmt_printed room (s.release x at) indent is blanks h = text_begins (mark marks.Semicolon ∷ []) refl (name_printed x (text_begins (word words.Release ∷ space ∷ []) refl h))
    stmt_printed room (s.become x t at) indent is blanks h =
        let named = name_printed x (text_begins (word words.Become ∷ space ∷ []) refl h) in
        text_begins (mark marks.Semicolon ∷ []) refl (name_printed t (text_begins (mark marks.At ∷ []) refl named))
    stmt_printed room (s.swap x f v at) indent is blanks h =
        let named = name_printed x (text_begins (word words.Swap ∷ space ∷ []) refl h) in
        let field = name_printed f (text_begins (mark marks.Dot ∷ []) refl named) in
        text_begins (mark marks.Semicolon ∷ []) refl (name_printed v (text_begins (mark marks.Comma ∷ space ∷ []) refl field))
    stmt_printed room (s.open_into x vs at) indent is blanks h =
        let named = name_printed x (text_begins (word words.Open ∷ space ∷ []) refl h) in
        let opened = text_begins (space ∷ word words.Into ∷ space ∷ mark marks.OpenParen ∷ []) refl named in
        text_begins (mark marks.CloseParen ∷ mark marks.Semicolon ∷ []) refl
        (listed_printed name_then name_after (λ n. Unit {0}) wordy any_name refl marks.CloseParen vs _ _ (each_holds vs) opened)
    stmt_printed room (s.focus x k z body at) indent is blanks h =
        let named = name_printed x (text_begins (word words.Focus ∷ space ∷ []) refl h) in
        let keyed = name_printed k (text_begins (space ∷ word words.As ∷ space ∷ word words.Tracked ∷ mark marks.OpenParen ∷ []) refl named) in
        let whole = name_printed z (text_begins (mark marks.CloseParen ∷ space ∷ []) refl keyed) in
        block_printed room body indent is blanks (text_begins (space ∷ []) refl whole)

    pub block_printed : (room : ℕ) (x : Block) (indent : List ℕ) {before : List ℕ} {rest : List Token} → IsBlock b room x → AreBlanks indent → Begins all before (block_then x rest) signed → Begins all (block_after indent x before) rest signed
    block_printed room (s.braced s.done at) indent is blanks h = text_begins (mark marks.OpenBrace ∷ mark marks.CloseBrace ∷ []) refl h
    block_printed room (s.braced (s.next x xs) at) indent is blanks h =
        let opened = text_begins (mark marks.OpenBrace ∷ line_end ∷ []) refl h in
        text_begins (mark marks.CloseBrace ∷ []) refl
        (indent_printed indent blanks (stmts_printed (room - 1) (s.next x xs) (deeper indent) is.1 (deeper_blanks indent blanks) opened))

    stmts_printed : (room : ℕ) (xs : Stmts) (indent : List ℕ) {before : List ℕ} {rest : List Token} → AreStmts b room xs → AreBlanks indent → Begins all before (stmts_then xs rest) clear → Begins all (stmts_after indent xs before) rest clear
    stmts_printed room s.done indent is blanks h = h
    stmts_printed room (s.next x xs) indent is blanks h =
        let done = stmt_printed room x indent is.0 blanks (weaker clear signed refl (indent_printed indent blanks h)) in
        stmts_printed room xs indent is.1 blanks (text_begins (line_end ∷ []) refl done)

    if_printed : (room : ℕ) (x : If) (indent : List ℕ) {before : List ℕ} {rest : List Token} → IsIf b room x → AreBlanks indent → Begins all before (if_then x rest) signed → Begins all (if_after indent x before) rest signed
    if_printed room (s.choice e body other at) indent is blanks h =
        let tested = expr_printed 0 e is.0.0 (text_begins (word words.If ∷ space ∷ mark marks.OpenParen ∷ []) refl h) in
        else_printed room other indent is.2 blanks (block_printed room body indent is.1 blanks (text_begins (mark marks.CloseParen ∷ space ∷ []) refl tested))

    else_printed : (room : ℕ) (x : Else) (indent : List ℕ) {before : List ℕ} {rest : List Token} → IsElse b room x → AreBlanks indent → Begins all before (else_then x rest) signed → Begins all (else_after indent x before) rest signed
    else_printed room s.nothing indent is blanks h = h
    else_printed room (s.last body) indent is blanks h = block_printed room body indent is blanks (text_begins (space ∷ word words.Else ∷ space ∷ []) refl h)
    else_printed room (s.chained i) indent is blanks h = if_printed (room - 1) i indent is.1 blanks (text_begins (space ∷ word words.Else ∷ space ∷ []) refl h)

    arms_printed : (room : ℕ) (xs : Arms) (indent : List ℕ) {before : List ℕ} {rest : List Token} → AreArms b room xs → AreBlanks indent → Begins all before (arms_then xs rest) clear → Begins all (arms_after indent xs before) rest clear
    arms_printed room s.no_arms indent is blanks h = h
    arms_printed room (s.arm c vs body at arms) indent is blanks h =
        let named = case_name_printed c (text_begins (word words.Case ∷ space ∷ []) refl (indent_printed indent blanks h)) in
        let bound = enclosed_printed name_then name_after (λ n. Unit {0}) wordy any_name
        marks.OpenParen marks.CloseParen (codes "(") (codes ")") wordy refl (sign_stands wordy marks.OpenParen refl) (sign_stands wordy marks.CloseParen refl)
        vs _ _ (each_holds vs) named in
        let done = block_printed room body indent is.0 blanks (text_begins (mark marks.Colon ∷ space ∷ []) refl bound) in
        arms_printed room arms indent is.1 blanks (text_begins (line_end ∷ []) refl done)
