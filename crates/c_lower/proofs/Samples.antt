-- The C programs of a few programs, computed.
use Rattle.std.proofs.Common.{◌≡◌, ℕ, pos, true, false, List, [], ◌∷◌, map, Option, Some, None, refl, ◌==◌, codes}
use Rattle.std.specs.List.{list_any}
use Rattle.vlt_ops.specs.declared.Op.TheVariants as op
use Rattle.vlt_core.specs.Core as s
use Rattle.vlt_core.specs.Lookups.{every_state}
use Rattle.c_syntax.specs.declared.program.CResult.{CResult}
use Rattle.c_syntax.specs.declared.program.CResult.TheVariants as result
use Rattle.c_syntax.specs.declared.program.CVar.{CVar}
use Rattle.c_syntax.specs.declared.program.CCell.TheVariants as cell
use Rattle.c_syntax.specs.declared.program.CPrim.{CPrim}
use Rattle.c_syntax.specs.declared.program.CPrim.TheVariants as prim
use Rattle.c_syntax.specs.C as c
use Rattle.c_lower.specs.Lowering.{lowered}

-- ---- programs without names and places

abbrev these : List ℕ → s.States
these ns n = list_any (λ m. m == n) ns

abbrev set : List s.Name → s.SetDecl
set states = record { name = []; states = states; links = [] }

abbrev struct : List s.Ty → s.TypeDecl
struct types = s.a_struct (record {
  name = [];
  header = [];
  set = None;
  release = every_state;
  fields = map (λ t. record { name = []; ty = t; states = every_state }) types;
})

abbrev case : List s.Ty → List s.CaseKey → s.CaseDecl
case payload keys = record { name = []; payload = payload; keys = keys }

abbrev variant : List s.CaseDecl → s.TypeDecl
variant cases = s.a_variant (record { name = []; header = []; cases = cases })

abbrev anonymous : List (Option ℕ) → List s.KeyDecl
anonymous = map (λ t. record { name = []; key_type = t })

abbrev typed : List s.Ty → List s.VarDecl
typed = map (λ t. record { name = []; ty = t })

abbrev stmts : List s.Form → s.Stmts
stmts [] = s.done
stmts (x ∷ xs) = s.next 0 x (stmts xs)

abbrev block : List s.Form → s.Block
block xs = s.block (stmts xs) [] 0

abbrev arm : (case : ℕ) → List ℕ → List s.Form → s.Arms → s.Arms
arm k vs xs = s.arm k vs (block xs)

abbrev arms : List (s.Arms → s.Arms) → s.Arms
arms [] = s.no_arms
arms (x ∷ xs) = x (arms xs)

abbrev function : Option s.Ty → (params : ℕ) → List s.Entry → List s.KeyDecl → List s.VarDecl → List s.Form → s.Func
function result params clause keys vars xs = record {
  name = [];
  external = false;
  result = result;
  params = params;
  clause = clause;
  keys = keys;
  vars = vars;
  body = stmts xs;
  end = 0;
}

abbrev extern : s.Name → Option s.Ty → (params : ℕ) → List s.Entry → List s.KeyDecl → List s.VarDecl → s.Func
extern name result params clause keys vars = record {
  name = name;
  external = true;
  result = result;
  params = params;
  clause = clause;
  keys = keys;
  vars = vars;
  body = s.done;
  end = 0;
}

-- ---- C programs

abbrev n : ℕ → CVar
n i = record { reference = false; number = i }

abbrev p : ℕ → CVar
p i = record { reference = true; number = i }

abbrev num : ℕ → c.Expr
num i = c.number (pos i)

abbrev val : CVar → c.Expr
val v = c.variable v

abbrev to : CVar → c.Arg
to v = c.variable v

abbrev int : ℕ → c.Arg
int i = c.number (pos i)

abbrev do_call : CPrim → List c.Arg → c.Stmt
do_call f xs = c.call (c.primitive f xs)

abbrev get_call : CVar → CPrim → List c.Arg → c.Stmt
get_call v f xs = c.set_call v (c.primitive f xs)

abbrev f : ℕ → List c.Arg → c.Call
f i xs = c.function (record { glue = false; number = i }) xs

abbrev e : ℕ → List c.Arg → c.Call
e i xs = c.function (record { glue = true; number = i }) xs

abbrev code : List c.Stmt → c.Stmts
code [] = c.done
code (x ∷ xs) = c.next x (code xs)

abbrev c_function : (number : ℕ) → CResult → (params vars : List CVar) → List c.Stmt → c.Func
c_function i result params vars xs =
    record { number = i; result = result; params = params; vars = vars; body = code xs }

-- ---- a list of objects that own one another

-- variant list { 'End, 'More(tracked cell) }
-- struct cell { int value; tracked list rest; }
-- tracked list push(int value, tracked list rest) {
--     tracked(K) cell c = new cell { value: value, rest: rest };
--     return 'More(c);
-- }
-- void main() {
--     tracked list all = 'End;
--     bool on = more();
--     while (on) {
--         on = more();
--         int value = input();
--         if (value / 2 == 0) { continue; }
--         all = push(value, all);
--     }
--     { print(0); }
--     tracked list taken = all;
--     switch (taken) {
--         case 'End: {}
--         case 'More(first): {
--             tracked(K) cell c = first;
--             tracked list none = 'End;
--             swap c.rest, none;
--             release none;
--             open c into (rest);
--             release rest;
--         }
--     }
-- }
abbrev pub lists : s.Program
lists = record {
  sets = [];
  types =
      (
      variant (case [] [] ∷ case (s.owning (these (0 ∷ [])) 1 [] ∷ []) [] ∷ []) ∷
      struct (s.int ∷ s.owning_variant 0 [] ∷ []) ∷
      []);
  fns =
      (
      function (Some (s.owning_variant 0 [])) 2 []
      (anonymous (Some 1 ∷ []))
      (typed (s.int ∷ s.owning_variant 0 [] ∷ s.tracked 0 1 [] ∷ s.owning_variant 0 [] ∷ []))
      (
      s.simple (s.make 2 (s.pure (s.var 0) ∷ s.move 1 ∷ [])) ∷
      s.simple (s.build 3 1 (s.pack 2 (these (0 ∷ [])) ∷ [])) ∷
      s.return (Some (s.move 3)) ∷
      []) ∷
      function None 0 []
      (anonymous (Some 1 ∷ []))
      (typed (
      s.owning_variant 0 [] ∷
      s.bool ∷
      s.int ∷
      s.owning_variant 0 [] ∷
      s.owning (these (0 ∷ [])) 1 [] ∷
      s.tracked 0 1 [] ∷
      s.owning_variant 0 [] ∷
      s.owning_variant 0 [] ∷
      []))
      (
      s.simple (s.build 0 0 []) ∷
      s.simple (s.input 1 true) ∷
      s.loop (s.var 1) (block (
      s.simple (s.input 1 true) ∷
      s.simple (s.input 2 false) ∷
      s.choose (s.binary op.Equal (s.binary op.Divide (s.var 2) (s.number (pos 2))) (s.number (pos 0))) (block (s.jump true ∷ [])) (block []) ∷
      s.call 0 (Some 0) [] (s.pure (s.var 2) ∷ s.move 0 ∷ []) ∷
      [])) ∷
      s.scope (block (s.simple (s.print (s.number (pos 0))) ∷ [])) ∷
      s.simple (s.own 3 (s.move 0)) ∷
      s.switch 3 (arms (
      arm 0 [] [] ∷
      arm 1 (4 ∷ []) (
      s.simple (s.unpack 5 4) ∷
      s.simple (s.build 6 0 []) ∷
      s.simple (s.swap 5 1 6) ∷
      s.simple (s.drop 6) ∷
      s.simple (s.open_into 5 (7 ∷ [])) ∷
      s.simple (s.drop 7) ∷
      []) ∷
      [])) 0 ∷
      s.return None ∷
      []) ∷
      []);
  main = 1;
}

lists_in_c : lowered lists ≡ record {
  glue =
      [];
  fns =
      (
      c_function 0 result.Number (n 0 ∷ n 1 ∷ p 0 ∷ [])
      (n 2 ∷ p 1 ∷ p 2 ∷ [])
      (
      get_call (p 1) prim.New (int 2 ∷ int 1 ∷ []) ∷
      c.put (cell.Number 1 0) (val (n 0)) ∷
      c.put (cell.Number 1 1) (val (n 1)) ∷
      c.put (cell.Reference 1 0) (val (p 0)) ∷
      do_call prim.Own (to (p 0) ∷ to (p 1) ∷ []) ∷
      c.set (n 2) (num 1) ∷
      c.set (p 2) (val (p 1)) ∷
      do_call prim.PutP (int 0 ∷ to (p 2) ∷ []) ∷
      c.return (Some (val (n 2))) ∷
      []) ∷
      c_function 1 result.Nothing []
      (
      n 0 ∷
      n 1 ∷
      n 2 ∷
      n 3 ∷
      n 4 ∷
      n 5 ∷
      n 6 ∷
      n 7 ∷
      p 0 ∷
      p 1 ∷
      p 2 ∷
      p 3 ∷
      p 4 ∷
      p 5 ∷
      p 6 ∷
      [])
      (
      c.set (n 0) (num 0) ∷
      c.set (p 0) c.null ∷
      get_call (n 1) prim.More [] ∷
      c.loop (code (
      c.when (c.binary op.Equal (val (n 1)) (num 0)) (code (c.break ∷ [])) ∷
      get_call (n 1) prim.More [] ∷
      get_call (n 2) prim.Read [] ∷
      c.when (c.binary op.Equal (num 2) (num 0)) (code (do_call prim.Trap (int 2 ∷ []) ∷ [])) ∷
      c.when (c.binary op.And (c.binary op.Equal (val (n 2)) (c.binary op.Subtract (c.unary op.Negate (num 9223372036854775807)) (num 1)))
      (c.binary op.Equal (num 2) (c.unary op.Negate (num 1)))) (code (do_call prim.Trap (int 1 ∷ []) ∷ [])) ∷
      c.set (n 6) (c.binary op.Divide (val (n 2)) (num 2)) ∷
      c.set (n 7) (c.binary op.Equal (val (n 6)) (num 0)) ∷
      c.choose (c.binary op.NotEqual (val (n 7)) (num 0)) (code (c.continue ∷ [])) (code []) ∷
      c.set_call (n 0) (f 0 (to (n 2) ∷ to (n 0) ∷ to (p 0) ∷ [])) ∷
      get_call (p 0) prim.GetP (int 0 ∷ []) ∷
      [])) ∷
      do_call prim.Print (int 0 ∷ []) ∷
      c.set (n 3) (val (n 0)) ∷
      c.set (p 1) (val (p 0)) ∷
      c.set (n 6) (val (n 3)) ∷
      c.when (c.binary op.Equal (val (n 6)) (num 0)) (code []) ∷
      c.when (c.binary op.Equal (val (n 6)) (num 1)) (code (
      c.set (p 2) (val (p 1)) ∷
      c.set (p 3) (val (p 2)) ∷
      c.set (n 4) (num 0) ∷
      c.set (p 4) c.null ∷
      c.set (n 7) (c.cell (cell.Number 3 1)) ∷
      c.put (cell.Number 3 1) (val (n 4)) ∷
      c.set (n 4) (val (n 7)) ∷
      c.set (p 6) (c.cell (cell.Reference 3 0)) ∷
      do_call prim.Disown (to (p 6) ∷ []) ∷
      do_call prim.Own (to (p 4) ∷ to (p 3) ∷ []) ∷
      c.put (cell.Reference 3 0) (val (p 4)) ∷
      c.set (p 4) (val (p 6)) ∷
      do_call prim.Release (to (p 4) ∷ []) ∷
      c.set (n 5) (c.cell (cell.Number 3 1)) ∷
      c.set (p 5) (c.cell (cell.Reference 3 0)) ∷
      do_call prim.Disown (to (p 5) ∷ []) ∷
      do_call prim.Release (to (p 3) ∷ []) ∷
      do_call prim.Release (to (p 5) ∷ []) ∷
      [])) ∷
      c.return None ∷
      []) ∷
      []);
  main = 1;
}
lists_in_c = refl

-- ---- objects that a region adopted

-- stateset use { free, busy }
-- struct pool {
--     int size;
-- }
-- struct buffer@use {
--     int bytes;
--     int owner@busy;
--     release free;
-- }
-- void fill(tracked(P) pool p, P:buffer b, int who, int bytes) [P] {
--     focus b as tracked(B) one {
--         become one@busy;
--         one.owner = who;
--         one.bytes = one.bytes + bytes;
--         print(one.owner);
--         become one@free;
--     }
-- }
-- void main() {
--     tracked(P) pool p = new pool { size: 2 };
--     P:buffer first = new(p) buffer { bytes: 0, owner: 0 };
--     P:buffer second = new(p) buffer { bytes: 0, owner: 0 };
--     fill(p, first, 1, 512);
--     fill(p, second, 2, 64);
--     fill(p, first, 3, 512);
--     print(first.bytes);
--     print(second.bytes);
--     release p;
-- }
abbrev pub pool : s.Program
pool = record {
  sets = (set ([] ∷ [] ∷ []) ∷ []);
  types =
      (struct (s.int ∷ []) ∷ struct (s.int ∷ s.int ∷ []) ∷ []);
  fns =
      (
      function None 4 (record { mode = s.kept; key = 0; before = None; after = None } ∷ [])
      (anonymous (Some 0 ∷ Some 1 ∷ []))
      (typed (s.tracked 0 0 [] ∷ s.guarded 0 1 [] ∷ s.int ∷ s.int ∷ s.tracked 1 1 [] ∷ []))
      (
      s.focus 1 4 (block (
      s.simple (s.become 4 1) ∷
      s.simple (s.put 4 1 (s.var 2)) ∷
      s.simple (s.put 4 0 (s.binary op.Add (s.field 4 0) (s.var 3))) ∷
      s.simple (s.print (s.field 4 1)) ∷
      s.simple (s.become 4 0) ∷
      [])) ∷
      s.return None ∷
      []) ∷
      function None 0 []
      (anonymous (Some 0 ∷ Some 1 ∷ Some 1 ∷ []))
      (typed (
      s.tracked 0 0 [] ∷
      s.tracked 1 1 [] ∷
      s.guarded 0 1 [] ∷
      s.tracked 2 1 [] ∷
      s.guarded 0 1 [] ∷
      []))
      (
      s.simple (s.make 0 (s.pure (s.number (pos 2)) ∷ [])) ∷
      s.simple (s.make 1 (s.pure (s.number (pos 0)) ∷ s.pure (s.number (pos 0)) ∷ [])) ∷
      s.simple (s.adopt 2 1 0) ∷
      s.simple (s.make 3 (s.pure (s.number (pos 0)) ∷ s.pure (s.number (pos 0)) ∷ [])) ∷
      s.simple (s.adopt 4 3 0) ∷
      s.call 0 None (0 ∷ []) (
      s.pure (s.var 0) ∷
      s.pure (s.var 2) ∷
      s.pure (s.number (pos 1)) ∷
      s.pure (s.number (pos 512)) ∷
      []) ∷
      s.call 0 None (0 ∷ []) (
      s.pure (s.var 0) ∷
      s.pure (s.var 4) ∷
      s.pure (s.number (pos 2)) ∷
      s.pure (s.number (pos 64)) ∷
      []) ∷
      s.call 0 None (0 ∷ []) (
      s.pure (s.var 0) ∷
      s.pure (s.var 2) ∷
      s.pure (s.number (pos 3)) ∷
      s.pure (s.number (pos 512)) ∷
      []) ∷
      s.simple (s.print (s.field 2 0)) ∷
      s.simple (s.print (s.field 4 0)) ∷
      s.simple (s.release 0) ∷
      s.return None ∷
      []) ∷
      []);
  main = 1;
}

pool_in_c : lowered pool ≡ record {
  glue =
      [];
  fns =
      (
      c_function 0 result.Nothing (p 0 ∷ p 1 ∷ n 0 ∷ n 1 ∷ [])
      (n 2 ∷ n 3 ∷ p 2 ∷ p 3 ∷ p 4 ∷ [])
      (
      c.set (p 3) (val (p 1)) ∷
      get_call (p 4) prim.Parent (to (p 3) ∷ []) ∷
      do_call prim.Disown (to (p 3) ∷ []) ∷
      c.set (p 2) (val (p 3)) ∷
      c.put (cell.Number 2 1) (val (n 0)) ∷
      c.set (n 2) (c.cell (cell.Number 2 0)) ∷
      c.when (c.binary op.Or (c.binary op.And (c.binary op.Greater (val (n 1)) (num 0)) (c.binary op.Greater (val (n 2)) (c.binary op.Subtract (num 9223372036854775807) (val (n 1)))))
      (c.binary op.And (c.binary op.Less (val (n 1)) (num 0))
      (c.binary op.Less (val (n 2))
      (c.binary op.Subtract (c.binary op.Subtract (c.unary op.Negate (num 9223372036854775807)) (num 1))
      (val (n 1)))))) (code (do_call prim.Trap (int 1 ∷ []) ∷ [])) ∷
      c.set (n 3) (c.binary op.Add (val (n 2)) (val (n 1))) ∷
      c.put (cell.Number 2 0) (val (n 3)) ∷
      c.set (n 2) (c.cell (cell.Number 2 1)) ∷
      do_call prim.Print (to (n 2) ∷ []) ∷
      do_call prim.Own (to (p 3) ∷ to (p 4) ∷ []) ∷
      c.return None ∷
      []) ∷
      c_function 1 result.Nothing []
      (n 0 ∷ p 0 ∷ p 1 ∷ p 2 ∷ p 3 ∷ p 4 ∷ [])
      (
      get_call (p 0) prim.New (int 1 ∷ int 0 ∷ []) ∷
      c.put (cell.Number 0 0) (num 2) ∷
      get_call (p 1) prim.New (int 2 ∷ int 0 ∷ []) ∷
      c.put (cell.Number 1 0) (num 0) ∷
      c.put (cell.Number 1 1) (num 0) ∷
      do_call prim.Own (to (p 1) ∷ to (p 0) ∷ []) ∷
      c.set (p 2) (val (p 1)) ∷
      get_call (p 3) prim.New (int 2 ∷ int 0 ∷ []) ∷
      c.put (cell.Number 3 0) (num 0) ∷
      c.put (cell.Number 3 1) (num 0) ∷
      do_call prim.Own (to (p 3) ∷ to (p 0) ∷ []) ∷
      c.set (p 4) (val (p 3)) ∷
      c.call (f 0 (to (p 0) ∷ to (p 2) ∷ int 1 ∷ int 512 ∷ [])) ∷
      c.call (f 0 (to (p 0) ∷ to (p 4) ∷ int 2 ∷ int 64 ∷ [])) ∷
      c.call (f 0 (to (p 0) ∷ to (p 2) ∷ int 3 ∷ int 512 ∷ [])) ∷
      c.set (n 0) (c.cell (cell.Number 2 0)) ∷
      do_call prim.Print (to (n 0) ∷ []) ∷
      c.set (n 0) (c.cell (cell.Number 4 0)) ∷
      do_call prim.Print (to (n 0) ∷ []) ∷
      do_call prim.Release (to (p 0) ∷ []) ∷
      c.return None ∷
      []) ∷
      []);
  main = 1;
}
pool_in_c = refl

-- ---- externals, and a variant with keys

-- stateset conn { raw, named, listening }
-- abstract sock@conn;
-- variant status<K: sock> {
--     'Ok { K@named },
--     'Error(int) { K@raw }
-- }
-- extern tracked(K) sock socket() [new K@raw];
-- extern tracked status<K> bind(tracked(K) sock s, int port) [-K@raw];
-- extern void listen(tracked(K) sock s, int backlog) [K@named->listening];
-- extern int accept(tracked(K) sock s) [K@listening];
-- extern void close(tracked(K) sock s) [-K];
-- void serve(int port) {
--     tracked(K) sock s = socket();
--     tracked status<K> bound = bind(s, port);
--     switch (bound) {
--         case 'Ok: {
--             listen(s, 8);
--             int count = 0;
--             while (count < 3) {
--                 count = accept(s);
--                 print(count);
--             }
--             close(s);
--         }
--         case 'Error(code): {
--             print(-code);
--             close(s);
--         }
--     }
-- }
-- void main() {
--     serve(8080);
-- }
abbrev pub sockets : s.Program
sockets = record {
  sets = (set ([] ∷ [] ∷ [] ∷ []) ∷ []);
  types =
      (
      s.an_abstract [] (Some 0) ∷
      variant (
      case [] (record { position = 0; states = (these (1 ∷ [])) } ∷ []) ∷
      case (s.int ∷ []) (record { position = 0; states = (these (0 ∷ [])) } ∷ []) ∷
      []) ∷
      []);
  fns =
      (
      extern (codes "socket") (Some (s.tracked 0 0 [])) 0
      (
      record { mode = s.fresh; key = 0; before = None; after = (Some (these (0 ∷ []))) } ∷
      [])
      (anonymous (Some 0 ∷ []))
      (typed []) ∷
      extern (codes "bind") (Some (s.owning_variant 1 (0 ∷ []))) 2
      (
      record { mode = s.taken; key = 0; before = (Some (these (0 ∷ []))); after = None } ∷
      [])
      (anonymous (Some 0 ∷ []))
      (typed (s.tracked 0 0 [] ∷ s.int ∷ [])) ∷
      extern (codes "listen") None 2
      (
      record { mode = s.kept; key = 0; before = (Some (these (1 ∷ []))); after = (Some (these (2 ∷ []))) } ∷
      [])
      (anonymous (Some 0 ∷ []))
      (typed (s.tracked 0 0 [] ∷ s.int ∷ [])) ∷
      extern (codes "accept") (Some s.int) 1
      (
      record { mode = s.kept; key = 0; before = (Some (these (2 ∷ []))); after = (Some (these (2 ∷ []))) } ∷
      [])
      (anonymous (Some 0 ∷ []))
      (typed (s.tracked 0 0 [] ∷ [])) ∷
      extern (codes "close") None 1
      (record { mode = s.taken; key = 0; before = None; after = None } ∷ [])
      (anonymous (Some 0 ∷ []))
      (typed (s.tracked 0 0 [] ∷ [])) ∷
      function None 1 []
      (anonymous (Some 0 ∷ []))
      (typed (s.int ∷ s.tracked 0 0 [] ∷ s.owning_variant 1 (0 ∷ []) ∷ s.int ∷ s.int ∷ []))
      (
      s.call 0 (Some 1) (0 ∷ []) [] ∷
      s.call 1 (Some 2) (0 ∷ []) (s.pure (s.var 1) ∷ s.pure (s.var 0) ∷ []) ∷
      s.switch 2 (arms (
      arm 0 [] (
      s.call 2 None (0 ∷ []) (s.pure (s.var 1) ∷ s.pure (s.number (pos 8)) ∷ []) ∷
      s.simple (s.set 3 (s.number (pos 0))) ∷
      s.loop (s.binary op.Less (s.var 3) (s.number (pos 3))) (block (
      s.call 3 (Some 3) (0 ∷ []) (s.pure (s.var 1) ∷ []) ∷
      s.simple (s.print (s.var 3)) ∷
      [])) ∷
      s.call 4 None (0 ∷ []) (s.pure (s.var 1) ∷ []) ∷
      []) ∷
      arm 1 (4 ∷ []) (
      s.simple (s.print (s.unary op.Negate (s.var 4))) ∷
      s.call 4 None (0 ∷ []) (s.pure (s.var 1) ∷ []) ∷
      []) ∷
      [])) 0 ∷
      s.return None ∷
      []) ∷
      function None 0 []
      (anonymous [])
      (typed [])
      (s.call 5 None [] (s.pure (s.number (pos 8080)) ∷ []) ∷ s.return None ∷ []) ∷
      []);
  main = 6;
}

sockets_in_c : lowered sockets ≡ record {
  glue =
      (
      c_function 0 result.Reference []
      (p 0 ∷ [])
      (
      do_call prim.Call (c.text (codes "socket") ∷ []) ∷
      do_call prim.Ask [] ∷
      do_call prim.End [] ∷
      get_call (p 0) prim.New (int 0 ∷ int 0 ∷ []) ∷
      c.return (Some (val (p 0))) ∷
      []) ∷
      c_function 1 result.Number (p 0 ∷ n 0 ∷ [])
      (n 1 ∷ n 2 ∷ [])
      (
      do_call prim.Call (c.text (codes "bind") ∷ []) ∷
      do_call prim.ArgP (to (p 0) ∷ []) ∷
      do_call prim.ArgN (to (n 0) ∷ []) ∷
      do_call prim.Ask [] ∷
      c.set (n 1) (num 0) ∷
      c.set (n 2) (num 0) ∷
      do_call prim.Out (to (p 0) ∷ []) ∷
      get_call (n 1) prim.Pick (int 3 ∷ []) ∷
      c.when (c.binary op.Equal (val (n 1)) (num 1)) (code (get_call (n 2) prim.Int [] ∷ [])) ∷
      c.when (c.binary op.Equal (val (n 1)) (num 0)) (code (do_call prim.Back (to (p 0) ∷ []) ∷ [])) ∷
      c.when (c.binary op.Equal (val (n 1)) (num 1)) (code (do_call prim.Back (to (p 0) ∷ []) ∷ [])) ∷
      do_call prim.End [] ∷
      do_call prim.PutN (int 0 ∷ to (n 2) ∷ []) ∷
      c.return (Some (val (n 1))) ∷
      []) ∷
      c_function 2 result.Nothing (p 0 ∷ n 0 ∷ [])
      []
      (
      do_call prim.Call (c.text (codes "listen") ∷ []) ∷
      do_call prim.ArgP (to (p 0) ∷ []) ∷
      do_call prim.ArgN (to (n 0) ∷ []) ∷
      do_call prim.Ask [] ∷
      do_call prim.End [] ∷
      c.return None ∷
      []) ∷
      c_function 3 result.Number (p 0 ∷ [])
      (n 0 ∷ [])
      (
      do_call prim.Call (c.text (codes "accept") ∷ []) ∷
      do_call prim.ArgP (to (p 0) ∷ []) ∷
      do_call prim.Ask [] ∷
      get_call (n 0) prim.Int [] ∷
      do_call prim.End [] ∷
      c.return (Some (val (n 0))) ∷
      []) ∷
      c_function 4 result.Nothing (p 0 ∷ [])
      []
      (
      do_call prim.Call (c.text (codes "close") ∷ []) ∷
      do_call prim.ArgP (to (p 0) ∷ []) ∷
      do_call prim.Ask [] ∷
      do_call prim.Out (to (p 0) ∷ []) ∷
      do_call prim.End [] ∷
      c.return None ∷
      []) ∷
      []);
  fns =
      (
      c_function 0 result.Nothing (n 0 ∷ [])
      (n 1 ∷ n 2 ∷ n 3 ∷ n 4 ∷ n 5 ∷ n 6 ∷ p 0 ∷ [])
      (
      c.set_call (p 0) (e 0 []) ∷
      c.set_call (n 1) (e 1 (to (p 0) ∷ to (n 0) ∷ [])) ∷
      get_call (n 2) prim.GetN (int 0 ∷ []) ∷
      c.set (n 5) (val (n 1)) ∷
      c.when (c.binary op.Equal (val (n 5)) (num 0)) (code (
      c.call (e 2 (to (p 0) ∷ int 8 ∷ [])) ∷
      c.set (n 3) (num 0) ∷
      c.loop (code (
      c.set (n 6) (c.binary op.Less (val (n 3)) (num 3)) ∷
      c.when (c.binary op.Equal (val (n 6)) (num 0)) (code (c.break ∷ [])) ∷
      c.set_call (n 3) (e 3 (to (p 0) ∷ [])) ∷
      do_call prim.Print (to (n 3) ∷ []) ∷
      [])) ∷
      c.call (e 4 (to (p 0) ∷ [])) ∷
      [])) ∷
      c.when (c.binary op.Equal (val (n 5)) (num 1)) (code (
      c.set (n 4) (val (n 2)) ∷
      c.when (c.binary op.Equal (val (n 4))
      (c.binary op.Subtract (c.unary op.Negate (num 9223372036854775807))
      (num 1))) (code (do_call prim.Trap (int 1 ∷ []) ∷ [])) ∷
      c.set (n 6) (c.unary op.Negate (val (n 4))) ∷
      do_call prim.Print (to (n 6) ∷ []) ∷
      c.call (e 4 (to (p 0) ∷ [])) ∷
      [])) ∷
      c.return None ∷
      []) ∷
      c_function 1 result.Nothing []
      []
      (c.call (f 0 (int 8080 ∷ [])) ∷ c.return None ∷ []) ∷
      []);
  main = 1;
}
sockets_in_c = refl
