-- Functions by their names, and the numbers of their first statements.
use Rattle.std.specs.Prelude.{◌≡◌, ◌<◌, ℕ, suc, ◌+◌, ◌==◌, if◌then◌else◌, min, List, [], ◌∷◌, Option, Some, None}
use Rattle.std.specs.Option.{option_map}
use Rattle.c_syntax.specs.declared.program.CProgram.{CProgram}
use Rattle.c_syntax.specs.View.{func_of, program_of}
use Rattle.c_syntax.specs.C.{Func}
use Rattle.c_meaning.specs.Run.{Numbered, count_in, count_in_all, count_of}
use Rattle.c_interp.specs.declared.rules.Found.{Found}
use Rattle.c_interp.specs.declared.rules.Numbers.{Numbers}
use Rattle.c_interp.specs.declared.rules.Rules.{Rules}

-- the position of the first function of that number
abbrev pub position_of : List Func → ℕ → Option ℕ
position_of [] name = None
position_of (f ∷ fs) name = if f.number == name then Some 0 else option_map suc (position_of fs name)

-- the numbers of the first statements of functions, the first of which has this one
abbrev pub firsts_from : ℕ → List Func → List ℕ
firsts_from n [] = []
firsts_from n (f ∷ fs) = n ∷ firsts_from (n + count_in f.body) fs

-- as many as can be counted
abbrev pub max_count : ℕ
max_count = 4294967295

pub record AreNumbered (start : ℕ) (fs : List Func) (q : Numbers) : Type 0 where
  pub last : q.end ≡ min (start + count_in_all fs) max_count
  pub are : q.end < max_count → q.firsts.items ≡ firsts_from start fs

abbrev pub IsFoundAs : Option Found → Option Numbered → Type 0
IsFoundAs (Some f) (Some g) = (func_of f.func.now ≡ g.func) × (f.first ≡ g.first)
IsFoundAs None None = Unit {0}
IsFoundAs _ _ = ⊥

pub record AreRules (r : Rules) : Type 0 where
  pub glue : r.glue.items ≡ firsts_from 0 (program_of r.program.now).glue
  pub fns : r.fns.items ≡ firsts_from (count_in_all (program_of r.program.now).glue) (program_of r.program.now).fns
  pub count : r.count ≡ count_of (program_of r.program.now)
  pub few : count_of (program_of r.program.now) < max_count

pub record AreRulesOf (p : CProgram) (depth heap : ℕ) (r : Rules) : Type 0 where
  pub program : r.program.now ≡ p
  pub levels : r.depth ≡ depth
  pub budget : r.heap ≡ heap
  pub rules : AreRules r
