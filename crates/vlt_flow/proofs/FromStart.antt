-- A body from its start.
use Rattle.std.proofs.Common.{◌≡◌, None}
use Rattle.vlt_core.specs.Core.{Func, Program}
use Rattle.vlt_core.specs.Maps.{HeldMap}
use Rattle.vlt_core.specs.Derives.{start_map}
use Rattle.vlt_core.specs.Flow.{Block}
use Rattle.vlt_core.specs.Bodies.{body_flow}
use Rattle.vlt_core.specs.Local.{Notes, IsLocalBlock, IsLocalIn}
use Rattle.vlt_flow.specs.Walks.{IsLeastLocal, IsLeastIn}
use Rattle.vlt_flow_maps.specs.Kept.{Marks}

pub least_in : (p : Program) (f : Func) (s : Block) (h : HeldMap) (k : Marks) → s ≡ body_flow p f → h ≡ start_map p f → IsLeastLocal s h k → IsLeastIn p f k
least_in p f s h k flow start q =
    let r = rw (flow, start) at q in
    record { local = r.local; least = r.least }

pub none_in : (p : Program) (f : Func) (s : Block) (h : HeldMap) → s ≡ body_flow p f → h ≡ start_map p f → ((a : Notes) → IsLocalBlock a None 0 h s → ⊥) → (a : Notes) → IsLocalIn p f a → ⊥
none_in p f s h flow start never = rw (flow, start) at never
