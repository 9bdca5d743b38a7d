-- The conditions hold of a program that calls externals: one makes an object, one takes a key and gives a variant whose case may give it back,
-- and one takes the object for good. So the law speaks of its runs.
use Rattle.std.proofs.Common.{◌≡◌, ◌≤◌, ◌<◌, ℕ, zero, suc, nat_lt, true, false, List, [], ◌∷◌, length, Option, Some, None, ◌==◌, pos, slice_get, codes, refl, sym, ap, ◌∙◌, subst, arith}
use Rattle.std.proofs.lemmas.Bool.{false≢true, eqb-true, ltb-true}
use Rattle.std.proofs.lemmas.Option.{none-some, same_Some}
use Rattle.vlt_core.specs.Core as core
use Rattle.vlt_core.specs.Core.{Program, CaseDecl, CaseKey, Entry, Func, States, Ty}
use Rattle.vlt_core.specs.Lookups.{case_at, cases_of, variant_in, VariantOf, is_held_after, after_set}
use Rattle.vlt_core.specs.Kinded.{IsKinded}
use Rattle.vlt_meaning.specs.World as source
use Rattle.vlt_meaning.specs.Run as run
use Rattle.vlt_meaning.specs.Step as step
use Rattle.vlt_meaning.specs.Operands as operands
use Rattle.vlt_meaning.specs.Calls as calls
use Rattle.vlt_meaning.specs.Externals as ext
use Rattle.c_meaning.specs.World as cw
use Rattle.c_meaning.specs.Run as crun
use Rattle.c_lower.specs.Lowering.{lowered}
use Rattle.c_lower_runs.specs.SameRuns.{c_outcome, AreTheSame}
use Rattle.c_lower_runs.specs.Lowerable.{IsAnswerSet, IsAskable, IsLowerable}
use Rattle.c_lower_worlds.specs.Naming.KindedParts.{are_proper}
use Rattle.c_lower_runs.proofs.Theorem.{lowered_same}

-- type file;
-- variant sent<file K> [ 'Kept {K} | 'Gone(int) ];
-- tracked(N) file open() [new N];
-- tracked sent<K> send(tracked(K) file f) [-K];
-- void close(tracked(K) file f) [-K];
-- void main() {
--     tracked(A) file f = open();
--     tracked sent<A> s = send(f);
--     switch (s) { case 'Kept: close(f); case 'Gone(int n): print(n); }
-- }
first : States
first m = m == 0

key : core.KeyDecl
key = record { name = []; key_type = Some 0 }

file : core.VarDecl
file = record { name = []; ty = core.tracked 0 0 [] }

taken : Entry
taken = record { mode = core.taken; key = 0; before = None; after = None }

opens : Func
opens = record {
  name = codes "open";
  external = true;
  result = Some (core.tracked 0 0 []);
  params = 0;
  clause = record { mode = core.fresh; key = 0; before = None; after = None } ∷ [];
  keys = key ∷ [];
  vars = [];
  body = core.done;
  end = 0;
}

sends : Func
sends = record { name = codes "send"; external = true; result = Some (core.owning_variant 1 (0 ∷ [])); params = 1; clause = taken ∷ []; keys = key ∷ []; vars = file ∷ []; body = core.done; end = 0 }

closes : Func
closes = record { name = codes "close"; external = true; result = None; params = 1; clause = taken ∷ []; keys = key ∷ []; vars = file ∷ []; body = core.done; end = 0 }

main : Func
main = record {
  name = codes "main";
  external = false;
  result = None;
  params = 0;
  clause = [];
  keys = key ∷ [];
  vars = file ∷ record { name = []; ty = core.owning_variant 1 (0 ∷ []) } ∷ record { name = []; ty = core.int } ∷ [];
  body = core.next 0 (core.call 0 (Some 0) (0 ∷ []) []) (core.next 0 (core.call 1 (Some 1) (0 ∷ []) (core.pure (core.var 0) ∷ [])) (core.next 0
      (core.switch 1 (core.arm 0 [] (core.block (core.next 0 (core.call 2 None (0 ∷ []) (core.pure (core.var 0) ∷ [])) core.done) [] 0)
      (core.arm 1 (2 ∷ []) (core.block (core.next 0 (core.simple (core.print (core.var 2))) core.done) [] 0) core.no_arms)) 0)
      (core.next 0 (core.return None) core.done)));
  end = 0;
}

kept : CaseDecl
kept = record { name = []; payload = []; keys = record { position = 0; states = first } ∷ [] }

gone : CaseDecl
gone = record { name = []; payload = core.int ∷ []; keys = [] }

sent : core.VariantDecl
sent = record { name = []; header = Some 0 ∷ []; cases = kept ∷ gone ∷ [] }

asks : Program
asks = record { sets = []; types = core.an_abstract [] None ∷ core.a_variant sent ∷ []; fns = opens ∷ sends ∷ closes ∷ main ∷ []; main = 3 }

asks_kinded : IsKinded asks
unfolding asks opens sends closes main kept gone sent file key taken first
asks_kinded = refl

first_set : IsAnswerSet first
unfolding first
first_set = record { state = 0; has = refl; below = λ i h. small i (eqb-true i 0 h) }
  where
    small : (i : ℕ) → i ≡ 0 → i < 32
    small i e = omega arith

one_set : IsAnswerSet (λ s. nat_lt s 1)
one_set = record { state = 0; has = refl; below = λ i h. let l = ltb-true i 1 h in omega arith }

asks_lowerable : IsLowerable asks
unfolding asks opens sends closes main kept gone sent file key taken
asks_lowerable = record {
  kinded = asks_kinded;
  operators = operators;
  payloads = payloads;
  externals = externals;
}
  where
    operators : (g : ℕ) (f : Func) → slice_get asks.fns g ≡ Some f → are_proper f.body ≡ true
    operators zero f at = subst (λ (f : Func). are_proper f.body ≡ true) (same_Some opens f at) refl
    operators (suc zero) f at = subst (λ (f : Func). are_proper f.body ≡ true) (same_Some sends f at) refl
    operators (suc (suc zero)) f at = subst (λ (f : Func). are_proper f.body ≡ true) (same_Some closes f at) refl
    operators (suc (suc (suc zero))) f at = subst (λ (f : Func). are_proper f.body ≡ true) (same_Some main f at) refl
    operators (suc (suc (suc (suc g)))) f at = absurd (none-some f at)

    payloads : (t c : ℕ) (d : CaseDecl) → case_at asks t c ≡ Some d → length d.payload ≤ 8
    payloads zero c d at = absurd (none-some d at)
    payloads (suc zero) zero d at = subst (λ (d : CaseDecl). length d.payload ≤ 8) (same_Some kept d at) (omega arith)
    payloads (suc zero) (suc zero) d at = subst (λ (d : CaseDecl). length d.payload ≤ 8) (same_Some gone d at) (omega arith)
    payloads (suc zero) (suc (suc c)) d at = absurd (none-some d at)
    payloads (suc (suc t)) c d at = absurd (none-some d at)

    never_variant : (q : VariantOf) → (let o : Option VariantOf = None in o ≡ Some q) → ⊥
    never_variant q e = cc

    no_owning : (ts : List Ty) (i : ℕ) (states : States) (u : ℕ) (others : List ℕ) → ts ≡ [] → slice_get ts i ≡ Some (core.owning states u others) → ⊥
    no_owning ts i states u others e at = none-some (core.owning states u others) (ap (λ ts. slice_get ts i) (sym e) ∙ at)

    int_only : (i : ℕ) (states : States) (u : ℕ) (others : List ℕ) → slice_get (core.int ∷ []) i ≡ Some (core.owning states u others) → ⊥
    int_only zero states u others at = never (same_Some core.int (core.owning states u others) at)
      where
        never : core.int ≡ core.owning states u others → ⊥
        never e = cc
    int_only (suc i) states u others at = none-some (core.owning states u others) at

    opens_askable : IsAskable asks opens
    opens_askable = record {
      parameters = omega arith;
      held = λ i e at h free. held i e at h;
      given = λ states t args e. absurd (other states t args e);
      payloads = λ t c i args d states u others e. absurd (never_variant _ e);
      listed = λ t c i args d k e. absurd (never_variant _ e);
      cases = λ t args e. absurd (never_variant _ e);
    }
      where
        other : (states : States) (t : ℕ) (args : List ℕ) → opens.result ≡ Some (core.owning states t args) → ⊥
        other states t args e = never (same_Some (core.tracked 0 0 []) (core.owning states t args) e)
          where
            never : core.tracked 0 0 [] ≡ core.owning states t args → ⊥
            never e = cc

        held : (i : ℕ) (e : Entry) → slice_get opens.clause i ≡ Some e → is_held_after e ≡ true → IsAnswerSet (after_set asks opens e)
        held zero e at h = subst (λ (e : Entry). IsAnswerSet (after_set asks opens e)) (same_Some (record { mode = core.fresh; key = 0; before = None; after = None }) e at) one_set
        held (suc i) e at h = absurd (none-some e at)

    taken_held : (gf : Func) → gf.clause ≡ taken ∷ [] → (i : ℕ) (e : Entry) → slice_get gf.clause i ≡ Some e → is_held_after e ≡ true → IsAnswerSet (after_set asks gf e)
    taken_held gf c i e at h = absurd (by i (ap (λ es. slice_get es i) (sym c) ∙ at))
      where
        by : (i : ℕ) → slice_get (taken ∷ []) i ≡ Some e → ⊥
        by zero at = false≢true (ap is_held_after (same_Some taken e at) ∙ h)
        by (suc i) at = none-some e at

    sends_askable : IsAskable asks sends
    sends_askable = record {
      parameters = omega arith;
      held = λ i e at h free. taken_held sends refl i e at h;
      given = λ states t args e. absurd (other states t args e);
      payloads = λ t c i args d states u others e declared at. absurd (no_object t c i d states u others (type_is t args e) declared at);
      listed = λ t c i args d k e declared at. listed t c i d k (type_is t args e) declared at;
      cases = λ t args e. subst (λ t. length (cases_of asks t) ≤ 32) (type_is t args e) (omega arith);
    }
      where
        other : (states : States) (t : ℕ) (args : List ℕ) → sends.result ≡ Some (core.owning states t args) → ⊥
        other states t args e = never (same_Some (core.owning_variant 1 (0 ∷ [])) (core.owning states t args) e)
          where
            never : core.owning_variant 1 (0 ∷ []) ≡ core.owning states t args → ⊥
            never e = cc

        type_is : (t : ℕ) (args : List ℕ) → variant_in sends.result ≡ Some (record { type = t; args = args }) → 1 ≡ t
        type_is t args e = ap (λ (q : VariantOf). q.type) (same_Some (record { type = 1; args = 0 ∷ [] }) (record { type = t; args = args }) e)

        no_object : (t c i : ℕ) (d : CaseDecl) (states : States) (u : ℕ) (others : List ℕ) → 1 ≡ t → case_at asks t c ≡ Some d → slice_get d.payload i ≡ Some (core.owning states u others) → ⊥
        no_object t zero i d states u others lowered_same declared at =
            no_owning d.payload i states u others (ap (λ (d : CaseDecl). d.payload) (sym (same_Some kept d (ap (λ t. case_at asks t 0) lowered_same ∙ declared)))) at
        no_object t (suc zero) i d states u others lowered_same declared at =
            int_only i states u others (subst (λ ts. slice_get ts i ≡ Some (core.owning states u others)) (ap (λ (d : CaseDecl). d.payload) (sym (same_Some gone d (ap (λ t. case_at asks t 1) lowered_same ∙ declared)))) at)
        no_object t (suc (suc c)) i d states u others lowered_same declared at = none-some d (ap (λ t. case_at asks t (suc (suc c))) lowered_same ∙ declared)

        listed : (t c i : ℕ) (d : CaseDecl) (k : CaseKey) → 1 ≡ t → case_at asks t c ≡ Some d → slice_get d.keys i ≡ Some k → IsAnswerSet k.states
        listed t zero i d k lowered_same declared at = by i (ap (λ (d : CaseDecl). slice_get d.keys i) (same_Some kept d (ap (λ t. case_at asks t 0) lowered_same ∙ declared)) ∙ at)
          where
            by : (i : ℕ) → slice_get kept.keys i ≡ Some k → IsAnswerSet k.states
            by zero at = subst (λ (k : CaseKey). IsAnswerSet k.states) (same_Some (record { position = 0; states = first }) k at) first_set
            by (suc i) at = absurd (none-some k at)
        listed t (suc zero) i d k lowered_same declared at = absurd (none-some k (ap (λ (d : CaseDecl). slice_get d.keys i) (same_Some gone d (ap (λ t. case_at asks t 1) lowered_same ∙ declared)) ∙ at))
        listed t (suc (suc c)) i d k lowered_same declared at = absurd (none-some d (ap (λ t. case_at asks t (suc (suc c))) lowered_same ∙ declared))

    closes_askable : IsAskable asks closes
    closes_askable = record {
      parameters = omega arith;
      held = λ i e at h free. taken_held closes refl i e at h;
      given = λ states t args e. absurd (none-some (core.owning states t args) e);
      payloads = λ t c i args d states u others e. absurd (never_variant _ e);
      listed = λ t c i args d k e. absurd (never_variant _ e);
      cases = λ t args e. absurd (never_variant _ e);
    }

    externals : (g : ℕ) (gf : Func) → slice_get asks.fns g ≡ Some gf → gf.external ≡ true → IsAskable asks gf
    externals zero gf at external = subst (IsAskable asks) (same_Some opens gf at) opens_askable
    externals (suc zero) gf at external = subst (IsAskable asks) (same_Some sends gf at) sends_askable
    externals (suc (suc zero)) gf at external = subst (IsAskable asks) (same_Some closes gf at) closes_askable
    externals (suc (suc (suc zero))) gf at external = absurd (false≢true (ap (λ (f : Func). f.external) (same_Some main gf at) ∙ external))
    externals (suc (suc (suc (suc g)))) gf at external = absurd (none-some gf at)

-- the answers: none of a number, the case that gives the key back, none of a number
answers : List (List Rattle.std.proofs.Common.ℤ)
answers = [] ∷ (pos 0 ∷ []) ∷ [] ∷ []

asks_done : (run.run asks 9 9 9 [] answers).outcome ≡ source.done
unfolding asks opens sends closes main kept gone sent file key taken first answers step.fill step.deliver step.then_do step.where_so step.spend step.with_found step.with_made step.with_moved step.with_answer step.first_answer step.with_filled step.left_block operands.with_operand operands.with_operands operands.with_case_opened calls.with_returned run.left_function run.call_by ext.call_external ext.with_result ext.with_fresh ext.with_pieces
asks_done = refl

-- so its C program's run is done too
lowered_done : (crun.c_run (lowered asks) 9 9 9 [] answers).outcome ≡ cw.done
unfolding answers
lowered_done = by (lowered_same asks asks_lowerable 9 9 9 [] answers (record { numbers = tt; lists = (tt, ((refl, tt), (tt, tt))) }) (ap source.is_fault asks_done))
  where
    by : AreTheSame (run.run asks 9 9 9 [] answers) (crun.c_run (lowered asks) 9 9 9 [] answers) → (crun.c_run (lowered asks) 9 9 9 [] answers).outcome ≡ cw.done
    by h = sym (outcome_same cw.done (crun.c_run (lowered asks) 9 9 9 [] answers).outcome (ap c_outcome (sym asks_done) ∙ h.outcome))
      where
        outcome_same : (a b : cw.Outcome) → (let o : Option cw.Outcome = Some a in o ≡ Some b) → a ≡ b
        outcome_same a b e = cc
