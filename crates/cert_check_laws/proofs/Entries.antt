-- The entries of an instance's clause name sets of states that the code has.
use Rattle.std.proofs.Common.{◌≡◌, ◌<◌, ◌==◌, ◌&&◌, ℕ, nat_lt, true, true≢false, length, Option, Some, None, IfSome, slice_get, refl, sym, subst}
use Rattle.std.proofs.lemmas.Bool.{and_from, and_parts, eq-eqb}
use Rattle.vlt_core.specs.Core as core
use Rattle.vlt_core.specs.Core.{States, Mode, Entry, Func, Program}
use Rattle.vlt_core.specs.Instances.{IsOrigin, origin_states, clause_of_instance}
use Rattle.vlt_core.specs.Kinded.{HasKindedParts}
use Rattle.vlt_core.specs.KindedHeads.{entry_broken}
use Rattle.vlt_core.specs.Lookups.{key_type, up_to_in, key_states_up_to}
use Rattle.vlt_core_laws.specs.States.{HasStates}
use Rattle.vlt_core_laws.proofs.Binding.{in_range}
use Rattle.vlt_core_laws.proofs.Headed.{head_empty, entries_fit, each_at}
use Rattle.vlt_core_laws.proofs.Starting.{made_at, within_origin}
use Rattle.cert_check_laws.proofs.Sets.{IsSaid, HasSaid, some_said, up_to_low}

up_to_key_low : (p : Program) (f : Func) (k b s : ℕ) → key_states_up_to p f k b s ≡ true → s < 32
up_to_key_low p f k b s = by (key_type f k)
  where
    by : (t : Option ℕ) → up_to_in p t b s ≡ true → s < 32
    by None there = absurd (true≢false (sym there))
    by (Some t) there = up_to_low p t b s there

-- the one state of an instance
one_said : (p : Program) (f : Func) (k b o : ℕ) → key_states_up_to p f k b o ≡ true → IsSaid (λ s. s == o && key_states_up_to p f k b s)
one_said p f k b o there =
    some_said (λ s. s == o && key_states_up_to p f k b s) (λ s both. up_to_key_low p f k b s (and_parts (s == o) (key_states_up_to p f k b s) both).1) o
    (and_from (o == o) (key_states_up_to p f k b o) (eq-eqb o o refl) there)

-- the key is one of the function, and the states of both sides are said
abbrev pub IsSaidEntry : Func → Entry → Type 0
IsSaidEntry f e = (nat_lt e.key (length f.keys) ≡ true) × IfSome e.before IsSaid × IfSome e.after IsSaid

module _ (p : Program) (kinded : HasKindedParts p) (states : HasStates p) (sets : HasSaid p) (n : ℕ) (f : Func) (there : slice_get p.fns n ≡ Some f) where
  own_key : (i : ℕ) (e : Entry) → slice_get f.clause i ≡ Some e → nat_lt e.key (length f.keys) ≡ true
  own_key i e at =
      let head = head_empty p n f kinded there in
      in_range (nat_lt e.key (length f.keys)) _ (each_at (entry_broken p f) f.clause i e (entries_fit p head.0 f head.1) at)

  side_made : (o : ℕ) (e : Entry) → ((b : ℕ) → e.mode ≡ core.up_to b → key_states_up_to p f e.key b o ≡ true) → (side : Option States) → IfSome side IsSaid →
      IfSome (origin_states p f e.key o e.mode side) IsSaid
  side_made o e origin side said = by e.mode origin
    where
      by : (m : Mode) → ((b : ℕ) → m ≡ core.up_to b → key_states_up_to p f e.key b o ≡ true) → IfSome (origin_states p f e.key o m side) IsSaid
      by core.kept w = said
      by core.taken w = said
      by core.given w = said
      by core.fresh w = said
      by (core.up_to b) w = one_said p f e.key b o (w b refl)

  pub said_entry : (o : Option ℕ) → IsOrigin p f o → (i : ℕ) (e : Entry) → slice_get (clause_of_instance p f o f.clause) i ≡ Some e → IsSaidEntry f e
  said_entry None origin i e at = (own_key i e at, sets.before n f i e there at, sets.after n f i e there at)
  said_entry (Some o) origin i e at =
      let d = made_at p f o f.clause i e at in
      let w : (b : ℕ) → d.0.mode ≡ core.up_to b → key_states_up_to p f d.0.key b o ≡ true = λ b mode. within_origin p n f states there kinded o origin i d.0 d.1 b mode in
      subst (IsSaidEntry f) d.2 (own_key i d.0 d.1, side_made o d.0 w d.0.before (sets.before n f i d.0 there d.1), side_made o d.0 w d.0.after (sets.after n f i d.0 there d.1))
