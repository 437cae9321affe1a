-- The loop of `chain`: what holds before each turn.
use Rattle.std.proofs.Common.{ℕ, List}
use Rattle.names.specs.Classes.{Nexts, Heads}

-- the places from i on are in their lists
pub record Chaining (keys : List ℕ) (n most : ℕ) (heads next : List ℕ) (i : ℕ) : Type 0 where
  pub firsts : Heads keys n most i heads
  pub nexts : Nexts keys n i next
