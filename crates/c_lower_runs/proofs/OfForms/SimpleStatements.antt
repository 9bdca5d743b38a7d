-- All statements without blocks.
use Rattle.std.proofs.Common.{◌≡◌, ℕ}
use Rattle.vlt_core.specs.Core as core
use Rattle.vlt_core.specs.Core.{Simple, Func, Program}
use Rattle.vlt_meaning.specs.Run as run
use Rattle.c_meaning.specs.Run as crun
use Rattle.c_lower_worlds.specs.Naming.Functions.{IsFunction}
use Rattle.c_lower_worlds.specs.SameStatements.{IsSameForm}
use Rattle.c_lower_worlds.specs.Operands.{OperandsAreRight}
use Rattle.c_lower_worlds.specs.Parts.{NumbersAreRight}
use Rattle.c_lower_worlds.specs.Naming.Types.{TypesFit}
use Rattle.c_lower_runs.proofs.OfForms.UnpackAndAdopt.{unpack_same, adopt_same}
use Rattle.c_lower_runs.proofs.OfForms.Build.{build_same}
use Rattle.c_lower_runs.proofs.OfForms.SetAndOwn.{set_same, own_same}
use Rattle.c_lower_runs.proofs.OfForms.Drop.{drop_same}
use Rattle.c_lower_runs.proofs.OfForms.Input.{input_same}
use Rattle.c_lower_runs.proofs.OfForms.New.{make_same}
use Rattle.c_lower_runs.proofs.OfForms.Open.{open_same}
use Rattle.c_lower_runs.proofs.OfForms.PrintAndRelease.{print_same, become_same, release_same}
use Rattle.c_lower_runs.proofs.OfForms.Swap.{swap_same}
use Rattle.c_lower_runs.proofs.OfForms.Put.{put_same}

module _ (p : Program) (types : TypesFit p) (numbers : NumbersAreRight p) (heap depth : ℕ) (R : crun.Setup) (heap_is : R.heap ≡ heap) (cm : crun.Meaning) (operands : OperandsAreRight p R cm) (m : run.Meaning) (n : ℕ) where
  abbrev setup : run.Setup
  setup = record { program = p; heap = heap; depth = depth }

  pub simple_forms_same : (f : Func) (s : Simple) → IsFunction p f → IsSameForm p setup R m cm n f (core.simple s)
  simple_forms_same f (core.set v e) is = set_same p heap depth R cm operands m n f v e is
  simple_forms_same f (core.input v more) is = input_same p heap depth R m cm n f v more is
  simple_forms_same f (core.print e) is = print_same p numbers heap depth R m cm n f e is
  simple_forms_same f (core.put x i e) is = put_same p types heap depth R cm operands m n f x i e is
  simple_forms_same f (core.make x os) is = make_same p types heap depth R heap_is cm operands m n f x os is
  simple_forms_same f (core.become x st) is = become_same p numbers heap depth R m cm n f x st is
  simple_forms_same f (core.release x) is = release_same p numbers heap depth R m cm n f x is
  simple_forms_same f (core.drop v) is = drop_same p heap depth R m cm n f v is
  simple_forms_same f (core.own v o) is = own_same p heap depth R cm operands m n f v o is
  simple_forms_same f (core.unpack x v) is = unpack_same p heap depth R m cm n f x v is
  simple_forms_same f (core.build v c os) is = build_same p types heap depth R cm operands m n f v c os is
  simple_forms_same f (core.swap x i v) is = swap_same p types heap depth R m cm n f x i v is
  simple_forms_same f (core.open_into x vs) is = open_same p types heap depth R m cm n f x vs is
  simple_forms_same f (core.adopt y x r) is = adopt_same p heap depth R m cm n f y x r is
