-- The first fault of a function's body from the first over all tokens.
use Rattle.std.proofs.Common.{◌≡◌, ◌<◌, ℕ, Bool, true, false, IsTrue, Option, Some, None, refl, sym, subst, arith, rules}
use Rattle.std.specs.Prelude.{nat_lt}
use Rattle.std.proofs.lemmas.Bool.Decides.{nat_tests}
use Rattle.vlt_base.specs.States.{is_bit}
use Rattle.vlt_base.proofs.Sets.{lowest_state}
use Rattle.vlt_core.specs.Core.{Tok, Func, Program}
use Rattle.vlt_core.specs.Maps as maps
use Rattle.vlt_core.specs.Maps.{HeldMap, Status, held, lent}
use Rattle.vlt_core.specs.Flow.{Block}
use Rattle.vlt_core.specs.Bodies.{body_flow}
use Rattle.vlt_core.specs.Derives.{start_map}
use Rattle.vlt_core.specs.Local.{Notes, IsLocalBlock, IsLocalIn}
use Rattle.vlt_core.specs.Found.{One, one_absent, one_held, one_lent, one_full, Has}
use Rattle.vlt_core.specs.Faults.{IsMixed, IsUnwanted, TellsRow, TellsJoin, IsFirstIn, StandsFor, SpotAtBlock, IsFaultIn, IsToldOf}
use Rattle.vlt_core.specs.View.{tok_of}
use Rattle.vlt_core.specs.FaultView.{kind_of}
use Rattle.vlt_core_laws.specs.Faulted.{HasFaultBlock}
use Rattle.vlt_core_laws.specs.Shown.{IsFit, IsStart, IsOneKind, IsJust, IsReadOf}
use Rattle.vlt_core_laws.specs.Sweep.{In, Stock}
use Rattle.vlt_core_laws.proofs.Showing.{faultless_local}
use Rattle.vlt_core_laws.proofs.Spots.{some_spot_block}
use Rattle.vlt_faults.specs.declared.finding.ones.Ones as D
use Rattle.vlt_faults.specs.Finding.Ones.{many_of}
use Rattle.vlt_faults.specs.Finding.Marks.{slot, stock_of}
use Rattle.vlt_faults.proofs.OfFinding.Bits.{no_bits}
use Rattle.vlt_faults.specs.declared.judge.blame.Blame.{Blame}
use Rattle.vlt_faults.specs.Judge.Blames.{spot_of, TellsUnwanted, TellsMixed}
use Rattle.vlt_faults.specs.Judge.Faulty.{IsFitIn}
use Rattle.vlt_faults.specs.Judge.Instances.{All}
use Rattle.vlt_faults.specs.Judge.Overs.{IsFirstOver, AreBounds}
use Rattle.vlt_faults.proofs.OfJudge.Clean.{clean_unmixed, clean_block}
use Rattle.vlt_faults.proofs.OfJudge.Parts.{stands_absent, stands_full, stands_lent}

-- ---- the status that a table is read as

abbrev read_bits : D.Ones → Bool → Status
read_bits m true = lent (is_bit m.lent)
read_bits m false = held (is_bit m.held)

abbrev read_parts : D.Ones → (absent full : Bool) → Status
read_parts m true full = maps.absent
read_parts m false true = maps.full
read_parts m false false = read_bits m (nat_lt 0 m.lent)

abbrev read : D.Ones → Status
read m = read_parts m m.absent m.full

just_of : (m : D.Ones) (u : Status) → StandsFor u (In (many_of m)) → IsJust u (In (many_of m))
just_of m u s = record { there = s.there; back = s.back }

not_true : (b : Bool) → b ≡ false → IsTrue b → ⊥
not_true b e h = never (subst IsTrue e h)
  where
    never : IsTrue false → ⊥
    never h = search rules

just_held : (m : D.Ones) → m.absent ≡ false → m.full ≡ false → m.lent ≡ 0 → IsJust (held (is_bit m.held)) (In (many_of m))
just_held m a f l = record { there = there; back = back }
  where
    there : (o : One) → In (many_of m) o → Has (held (is_bit m.held)) o
    there one_absent x = absurd (not_true m.absent a x)
    there (one_held i) x = x
    there (one_lent i) x = absurd (no_bits m.lent i l x)
    there one_full x = absurd (not_true m.full f x)

    back : (o : One) → Has (held (is_bit m.held)) o → In (many_of m) o
    back one_absent x = absurd x
    back (one_held i) x = x
    back (one_lent i) x = absurd x
    back one_full x = absurd x

read_just : (m : D.Ones) → IsOneKind (In (many_of m)) → IsJust (read m) (In (many_of m))
read_just m k = parts m.absent m.full refl refl
  where
    positive : (n : ℕ) → nat_lt 0 n ≡ true → 0 < n
    positive n e = grind (arith, nat_tests)

    some : (m : D.Ones) → nat_lt 0 m.lent ≡ true → (i : ℕ) × IsTrue (is_bit m.lent i)
    some m e = let x = lowest_state m.lent (positive m.lent e) m.few_lent in (x.0, x.2)

    zero_of : (n : ℕ) → nat_lt 0 n ≡ false → n ≡ 0
    zero_of n e = grind (arith, nat_tests)

    bits : (b : Bool) → m.absent ≡ false → m.full ≡ false → nat_lt 0 m.lent ≡ b → IsJust (read_bits m b) (In (many_of m))
    bits true a f e = just_of m (lent (is_bit m.lent)) (stands_lent m (is_bit m.lent) (λ i. refl) (some m e) k)
    bits false a f e = just_held m a f (zero_of m.lent e)

    parts : (b c : Bool) → m.absent ≡ b → m.full ≡ c → IsJust (read_parts m b c) (In (many_of m))
    parts true c a f = just_of m maps.absent (stands_absent m (subst IsTrue (sym a) (search rules)) k)
    parts false true a f = just_of m maps.full (stands_full m (subst IsTrue (sym f) (search rules)) k)
    parts false false a f = bits (nat_lt 0 m.lent) a f refl

-- ---- a function's body

-- the first fault of a body, with its spot
pub first_at : (p : Program) (f : Func) (b : Blame) → IsFirstOver All (body_flow p f) (start_map p f) (Some b) → IsFitIn p f →
    (x : IsFirstIn p f b.at (tok_of b.tok) (kind_of b.kind)) × (x.spot ≡ spot_of b)
first_at p f b over fit =
    let kind = kind_of b.kind in
    let s = body_flow p f in
    let S = Has (start_map p f (tok_of b.tok)) in
    let good = fit.start.good (tok_of b.tok) in (
      record {
        spot = spot_of b;
        place = refl;
        faulty = clean_block (TellsUnwanted kind) IsUnwanted (TellsMixed kind) IsMixed (λ r T c x. x.0) (λ T c x. x.0) (spot_of b) (tok_of b.tok) s false 0 S fit.fit.tame fit.fit.filled good over.there;
        told = clean_block (TellsUnwanted kind) (TellsRow kind) (TellsMixed kind) (TellsJoin kind) (λ r T c x. x.1 (clean_unmixed T c x.0.1)) (λ T c x. x.1 c.one) (spot_of b) (tok_of b.tok) s false 0 S fit.fit.tame fit.fit.filled good over.there;
        first = λ q u x. over.first q u tt x;
      },
      refl,
    )

-- what is told of a spot is there, and told as it is
pub told_at : (p : Program) (f : Func) (b : Blame) →
    SpotAtBlock (TellsUnwanted (kind_of b.kind)) (TellsMixed (kind_of b.kind)) (spot_of b) (tok_of b.tok) 0 (body_flow p f) (Has (start_map p f (tok_of b.tok))) →
    IsFitIn p f → IsFaultIn p f (spot_of b) (tok_of b.tok) × IsToldOf p f (kind_of b.kind) (spot_of b) (tok_of b.tok)
told_at p f b there fit =
    let kind = kind_of b.kind in
    let s = body_flow p f in
    let S = Has (start_map p f (tok_of b.tok)) in
    let good = fit.start.good (tok_of b.tok) in (
      clean_block (TellsUnwanted kind) IsUnwanted (TellsMixed kind) IsMixed (λ r T c x. x.0) (λ T c x. x.0) (spot_of b) (tok_of b.tok) s false 0 S fit.fit.tame fit.fit.filled good there,
      clean_block (TellsUnwanted kind) (TellsRow kind) (TellsMixed kind) (TellsJoin kind) (λ r T c x. x.1 (clean_unmixed T c x.0.1)) (λ T c x. x.1 c.one) (spot_of b) (tok_of b.tok) s false 0 S fit.fit.tame fit.fit.filled good there,
    )

pub over_in : (A : Tok → Type 0) (p : Program) (f : Func) (s : Block) (h : HeldMap) (x : Option Blame) → s ≡ body_flow p f → h ≡ start_map p f → IsFirstOver A s h x → IsFirstOver A (body_flow p f) (start_map p f) x
over_in A p f s h x e d o = subst (λ s. IsFirstOver A s (start_map p f) x) e (subst (λ h. IsFirstOver A s h x) d o)

pub bounds_in : (p : Program) (f : Func) (s : Block) (h : HeldMap) (keys vars : ℕ) → s ≡ body_flow p f → h ≡ start_map p f → AreBounds s h keys vars → AreBounds (body_flow p f) (start_map p f) keys vars
bounds_in p f s h keys vars e d o = subst (λ s. AreBounds s (start_map p f) keys vars) e (subst (λ h. AreBounds s h keys vars) d o)

-- the tables of each token, and the notes that read them
module _ (s : Block) (h : HeldMap) (over : IsFirstOver All s h None) where
  abbrev stock : Tok → Stock
  stock t = stock_of (over.tabled t tt).tables

  abbrev notes : Notes
  notes = record { around = λ i t. read (slot (over.tabled t tt).tables.around i); following = λ i t. read (slot (over.tabled t tt).tables.following i) }

  reads : IsReadOf notes stock
  reads = record { around = λ t i. read_just (slot (over.tabled t tt).tables.around i); following = λ t i. read_just (slot (over.tabled t tt).tables.following i) }

  none : (t : Tok) → HasFaultBlock t s (Has (h t)) → ⊥
  none t x = let y = some_spot_block s t 0 (Has (h t)) x in over.first y.0 t tt y.1

  always_local : IsFit s → IsStart h → IsLocalBlock notes None 0 h s
  always_local fit start = faultless_local s stock notes h fit start (λ t. (over.tabled t tt).found) reads none

pub always_told : (p : Program) (f : Func) → IsFirstOver All (body_flow p f) (start_map p f) None → IsFitIn p f → ((a : Notes) → IsLocalIn p f a → ⊥) → ⊥
always_told p f over fit never = never (notes (body_flow p f) (start_map p f) over) (always_local (body_flow p f) (start_map p f) over fit.fit fit.start)
