-- Rows of statements: what a value is read as, and the rows of the code.
use Rattle.std.specs.Prelude.{ℕ, if◌then◌else◌, List, map, codes, Option, Some, None, option_map, option_and_then}
use Rattle.std.specs.Str.{bytes_eq}
use Rattle.serde_json.specs.Data.{Data}
use Rattle.vlt_core.specs.Core as core
use Rattle.vlt_core.specs.View.{expr_of, operand_of, keys_of, vars_of}
use Rattle.cert_rows.specs.Parts.{array_in}
use Rattle.cert_rows.specs.Values.{by_tag}
use Rattle.cert_rows.specs.Rows.{Row, simple, call, choose, loop, switch, focus, scope, return, jump, set_stmt, input_stmt, print_stmt, put_stmt, new_stmt, become_stmt, release_stmt, drop_stmt, own_stmt, unpack_stmt, build_stmt, call_stmt, swap_stmt, open_stmt, adopt_stmt, return_stmt, jump_stmt, if_stmt, while_stmt, switch_stmt, focus_stmt, scope_stmt}
use Rattle.cert_read_rows.specs.Heads.{head_of, arm_of}
use Rattle.cert_read_parts.specs.Maps.{maps_of}
use Rattle.cert_read_rows.specs.declared.plain.PlainRow.{PlainRow}
use Rattle.cert_read_rows.specs.declared.plain.PlainRow.TheVariants as plain
use Rattle.cert_read_rows.specs.declared.blocks.BlockRow.{BlockRow}
use Rattle.cert_read_rows.specs.declared.blocks.BlockRow.TheVariants as with_blocks
use Rattle.cert_read_rows.specs.declared.rows.StmtRow.{StmtRow}
use Rattle.cert_read_rows.specs.declared.rows.StmtRow.TheVariants as stmt

abbrev pub plain_of : PlainRow → Row
plain_of (plain.Set v e) = simple (core.set v.0 (expr_of e))
plain_of (plain.Input v more) = simple (core.input v.0 more)
plain_of (plain.Print e) = simple (core.print (expr_of e))
plain_of (plain.Put x i e) = simple (core.put x.0 i (expr_of e))
plain_of (plain.New x args) = simple (core.make x.0 (map operand_of args))
plain_of (plain.Become x state) = simple (core.become x.0 state)
plain_of (plain.Release x) = simple (core.release x.0)
plain_of (plain.Drop v) = simple (core.drop v.0)
plain_of (plain.Own v value) = simple (core.own v.0 (operand_of value))
plain_of (plain.Unpack x v) = simple (core.unpack x.0 v.0)
plain_of (plain.Build v case args) = simple (core.build v.0 case (map operand_of args))
plain_of (plain.Call f target keys args) =
    call f.0 (option_map (λ v. v.0) target) (keys_of keys) (map operand_of args)
plain_of (plain.Swap x i v) = simple (core.swap x.0 i v.0)
plain_of (plain.Open x into) = simple (core.open_into x.0 (vars_of into))
plain_of (plain.Adopt y x r) = simple (core.adopt y.0 x.0 r.0)
plain_of (plain.Return value) = return (option_map operand_of value)
plain_of (plain.Jump continues) = jump continues

abbrev pub block_of : BlockRow → Row
block_of (with_blocks.If r) =
    choose (expr_of r.cond) (head_of r.then_block) (head_of r.else_block) (option_map maps_of r.maps)
block_of (with_blocks.While r) =
    loop (expr_of r.cond) (head_of r.body) (maps_of r.around) (maps_of r.exit)
block_of (with_blocks.Switch r) = switch r.v.0 (map arm_of r.arms) (option_map maps_of r.maps)
block_of (with_blocks.Focus r) = focus r.y.0 r.z.0 (head_of r.body)
block_of (with_blocks.Scope body) = scope (head_of body)

abbrev pub stmt_of : StmtRow → Row
stmt_of (stmt.Plain r) = plain_of r
stmt_of (stmt.Block r) = block_of r

-- ---- what is read of a row, by its tag

-- calls, and what leaves a block
abbrev pub way_of_tag : List ℕ → List Data → Option Row
way_of_tag t ds =
    if bytes_eq t (codes "call") then
    option_map (λ x. call x.0 x.1 x.2 x.3) (call_stmt.of_items ds)
    else if bytes_eq t (codes "return") then option_map return (return_stmt.of_items ds)
    else if bytes_eq t (codes "jump") then option_map jump (jump_stmt.of_items ds)
    else None

-- what changes the owner of an object
abbrev pub owner_of_tag : List ℕ → List Data → Option Row
owner_of_tag t ds =
    if bytes_eq t (codes "swap") then
    option_map (λ x. simple (core.swap x.0 x.1 x.2)) (swap_stmt.of_items ds)
    else if bytes_eq t (codes "open") then
    option_map (λ x. simple (core.open_into x.0 x.1)) (open_stmt.of_items ds)
    else if bytes_eq t (codes "adopt") then
    option_map (λ x. simple (core.adopt x.0 x.1 x.2)) (adopt_stmt.of_items ds)
    else way_of_tag t ds

-- values that own objects
abbrev pub value_of_tag : List ℕ → List Data → Option Row
value_of_tag t ds =
    if bytes_eq t (codes "own") then
    option_map (λ x. simple (core.own x.0 x.1)) (own_stmt.of_items ds)
    else if bytes_eq t (codes "unpack") then
    option_map (λ x. simple (core.unpack x.0 x.1)) (unpack_stmt.of_items ds)
    else if bytes_eq t (codes "build") then
    option_map (λ x. simple (core.build x.0 x.1 x.2)) (build_stmt.of_items ds)
    else owner_of_tag t ds

-- objects from first to last
abbrev pub object_of_tag : List ℕ → List Data → Option Row
object_of_tag t ds =
    if bytes_eq t (codes "new") then
    option_map (λ x. simple (core.make x.0 x.1)) (new_stmt.of_items ds)
    else if bytes_eq t (codes "become") then
    option_map (λ x. simple (core.become x.0 x.1)) (become_stmt.of_items ds)
    else if bytes_eq t (codes "release") then
    option_map (λ x. simple (core.release x)) (release_stmt.of_items ds)
    else if bytes_eq t (codes "drop") then
    option_map (λ v. simple (core.drop v)) (drop_stmt.of_items ds)
    else value_of_tag t ds

-- rows without blocks
abbrev pub plain_of_tag : List ℕ → List Data → Option Row
plain_of_tag t ds =
    if bytes_eq t (codes "set") then
    option_map (λ x. simple (core.set x.0 x.1)) (set_stmt.of_items ds)
    else if bytes_eq t (codes "input") then
    option_map (λ x. simple (core.input x.0 x.1)) (input_stmt.of_items ds)
    else if bytes_eq t (codes "print") then
    option_map (λ e. simple (core.print e)) (print_stmt.of_items ds)
    else if bytes_eq t (codes "put") then
    option_map (λ x. simple (core.put x.0 x.1 x.2)) (put_stmt.of_items ds)
    else object_of_tag t ds

abbrev pub block_of_tag : (instances : Option ℕ) → List ℕ → List Data → Option Row
block_of_tag instances t ds =
    if bytes_eq t (codes "if") then
    option_map (λ x. choose x.0 x.1 x.2 x.3) ((if_stmt instances).of_items ds)
    else if bytes_eq t (codes "while") then
    option_map (λ x. loop x.0 x.1 x.2 x.3) ((while_stmt instances).of_items ds)
    else if bytes_eq t (codes "switch") then
    option_map (λ x. switch x.0 x.1 x.2) ((switch_stmt instances).of_items ds)
    else if bytes_eq t (codes "focus") then
    option_map (λ x. focus x.0 x.1 x.2) (focus_stmt.of_items ds)
    else if bytes_eq t (codes "scope") then option_map scope (scope_stmt.of_items ds)
    else None

abbrev pub or_row : Option Row → Option Row → Option Row
or_row None r = r
or_row (Some r) s = Some r

abbrev pub stmt_of_tag : (instances : Option ℕ) → List ℕ → List Data → Option Row
stmt_of_tag instances t ds = or_row (plain_of_tag t ds) (block_of_tag instances t ds)

-- the row of a statement that a value is read as
abbrev pub stmt_of_data : (instances : Option ℕ) → Data → Option Row
stmt_of_data instances d = option_and_then (by_tag (stmt_of_tag instances)) (array_in d)
