-- Runs of a few programs, computed.
use Rattle.std.proofs.Common.{◌≡◌, ℕ, ℤ, pos, true, false, List, [], ◌∷◌, refl}
use Rattle.vlt_ops.specs.declared.Op.TheVariants as op
use Rattle.c_syntax.specs.declared.program.CResult.TheVariants as result
use Rattle.c_syntax.specs.declared.program.CVar.{CVar}
use Rattle.c_syntax.specs.declared.program.CName.{CName}
use Rattle.c_syntax.specs.declared.program.CPrim.TheVariants as prim
use Rattle.c_syntax.specs.C as c
use Rattle.c_syntax.specs.C.{Expr, Stmt, Stmts, Func, Program}
use Rattle.c_meaning.specs.World.{Outcome, done, fuel_end, heap_end, depth_end, answers_end, bad_answer, undefined, Event, printed, called, told_block}
use Rattle.c_meaning.specs.Primitives.{or_broken, at_index, no_args, on_number, on_reference, on_references}
use Rattle.c_meaning.specs.Run.{c_run, after, with_found, then_do, then_turn, spend, back_in, enter, call_found}

record Seen : Type 0 where
  outcome : Outcome
  events : List Event
  fuel : ℕ

seen : Program → (fuel heap depth : ℕ) → List (List ℤ) → Seen
unfolding or_broken at_index no_args on_number on_reference on_references after with_found then_do then_turn spend back_in enter call_found
seen p fuel heap depth answers = let r = c_run p fuel heap depth [] answers in record { outcome = r.outcome; events = r.world.events; fuel = r.world.fuel }

stmts : List Stmt → Stmts
stmts [] = c.done
stmts (x ∷ xs) = c.next x (stmts xs)

n : ℕ → CVar
n i = record { reference = false; number = i }

p : ℕ → CVar
p i = record { reference = true; number = i }

number : ℕ → Expr
number i = c.number (pos i)

f0 : CName
f0 = record { glue = false; number = 0 }

e0 : CName
e0 = record { glue = true; number = 0 }

void : (number : ℕ) → List CVar → Stmts → Func
void i vars body = record { number = i; result = result.Nothing; params = []; vars = vars; body = body }

alone : List CVar → List Stmt → Program
unfolding stmts void
alone vars xs = record { glue = []; fns = void 0 vars (stmts xs) ∷ []; main = 0 }

-- a block is released twice
twice : Program
unfolding alone p
twice = alone (p 0 ∷ [])
    (c.set_call (p 0) (c.primitive prim.New (c.number (pos 1) ∷ c.number (pos 0) ∷ [])) ∷
    c.call (c.primitive prim.Release (c.variable (p 0) ∷ [])) ∷
    c.call (c.primitive prim.Release (c.variable (p 0) ∷ [])) ∷ [])

twice_is_undefined : seen twice 9 1 1 [] ≡ record { outcome = undefined 8 2; events = []; fuel = 9 }
unfolding seen twice
twice_is_undefined = refl

twice_has_no_room : seen twice 9 0 1 [] ≡ record { outcome = heap_end; events = []; fuel = 9 }
unfolding seen twice
twice_has_no_room = refl

-- 1 / 0
divides : Program
unfolding alone n number
divides = alone (n 0 ∷ []) (c.set (n 0) (c.binary op.Divide (number 1) (number 0)) ∷ [])

division_is_undefined : seen divides 9 1 1 [] ≡ record { outcome = undefined 4 0; events = []; fuel = 9 }
unfolding seen divides
division_is_undefined = refl

-- counts down from 3 in a loop, with an `if` in it, and prints each number
counts : Program
unfolding alone stmts n number
counts = alone (n 0 ∷ [])
    (c.set (n 0) (number 3) ∷
    c.loop (stmts
    (c.when (c.binary op.Equal (c.variable (n 0)) (number 0)) (stmts (c.break ∷ [])) ∷
    c.call (c.primitive prim.Print (c.variable (n 0) ∷ [])) ∷
    c.set (n 0) (c.binary op.Subtract (c.variable (n 0)) (number 1)) ∷ [])) ∷
    c.call (c.primitive prim.Print (c.variable (n 1) ∷ [])) ∷ [])

counting : seen counts 9 1 1 [] ≡ record { outcome = undefined 5 6; events = printed (pos 3) ∷ printed (pos 2) ∷ printed (pos 1) ∷ []; fuel = 5 }
unfolding seen counts
counting = refl

counting_ends : seen counts 2 1 1 [] ≡ record { outcome = fuel_end; events = printed (pos 3) ∷ printed (pos 2) ∷ []; fuel = 0 }
unfolding seen counts
counting_ends = refl

-- a function that calls itself
deep : Program
unfolding alone f0
deep = alone [] (c.call (c.function f0 []) ∷ [])

deep_ends : seen deep 9 1 3 [] ≡ record { outcome = depth_end; events = []; fuel = 6 }
unfolding seen deep
deep_ends = refl

-- glue sends a new block out, and reads a number of bits 1 and 2 before it comes back
glued : Program
unfolding stmts void n p f0 e0
glued = record {
  glue = void 0 (n 0 ∷ p 0 ∷ []) (stmts
      (c.set_call (p 0) (c.primitive prim.New (c.number (pos 0) ∷ c.number (pos 0) ∷ [])) ∷
      c.call (c.primitive prim.Call (c.text (97 ∷ []) ∷ [])) ∷
      c.call (c.primitive prim.ArgP (c.variable (p 0) ∷ [])) ∷
      c.call (c.primitive prim.Ask []) ∷
      c.call (c.primitive prim.Out (c.variable (p 0) ∷ [])) ∷
      c.set_call (n 0) (c.primitive prim.Pick (c.number (pos 6) ∷ [])) ∷
      c.call (c.primitive prim.Back (c.variable (p 0) ∷ [])) ∷
      c.call (c.primitive prim.End []) ∷
      c.call (c.primitive prim.Print (c.variable (n 0) ∷ [])) ∷ [])) ∷ [];
  fns = void 0 [] (stmts (c.call (c.function e0 []) ∷ [])) ∷ [];
  main = 0;
}

answered : seen glued 9 1 1 ((pos 2 ∷ []) ∷ []) ≡ record { outcome = done; events = called (97 ∷ []) (told_block 0 ∷ []) ∷ printed (pos 2) ∷ []; fuel = 8 }
unfolding seen glued
answered = refl

no_bit : seen glued 9 1 1 ((pos 0 ∷ []) ∷ []) ≡ record { outcome = bad_answer 1; events = called (97 ∷ []) (told_block 0 ∷ []) ∷ []; fuel = 8 }
unfolding seen glued
no_bit = refl

one_too_many : seen glued 9 1 1 ((pos 1 ∷ pos 1 ∷ []) ∷ []) ≡ record { outcome = bad_answer 1; events = called (97 ∷ []) (told_block 0 ∷ []) ∷ []; fuel = 8 }
unfolding seen glued
one_too_many = refl

no_answer : seen glued 9 1 1 [] ≡ record { outcome = answers_end; events = called (97 ∷ []) (told_block 0 ∷ []) ∷ []; fuel = 8 }
unfolding seen glued
no_answer = refl

-- an answer call out of order, and a call of which the first statement isn't the first of all
out_of_order : Program
unfolding stmts void
out_of_order = record {
  glue = void 0 [] (stmts (c.break ∷ c.break ∷ [])) ∷ [];
  fns = void 0 [] (stmts (c.call (c.primitive prim.Ask []) ∷ [])) ∷ [];
  main = 0;
}

order : seen out_of_order 9 1 1 [] ≡ record { outcome = undefined 8 2; events = []; fuel = 9 }
unfolding seen out_of_order
order = refl
