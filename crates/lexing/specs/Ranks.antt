-- The measure of a function that is a member of a cycle of calls, and its claims at a measure and below it.
use Rattle.std.specs.Prelude.{ℕ, ◌<◌, List}
use borrow.Fn.Kinds.{In, ParamKind}
use borrow.Fn.PlainCycle.{Measures, is, falls, and}

pub record Rank (n : ℕ) (ps : List (ParamKind n)) : Type 1 where
  pub μ : Measures n ps ℕ
  pub at : ℕ → In n ps
  pub below : ℕ → In n ps

-- by what the function requires, and its measure
abbrev pub rank : (n : ℕ) (ps : List (ParamKind n)) → In n ps → Measures n ps ℕ → Rank n ps
rank n ps Pre μ = record { μ = μ; at = λ t. and n ps (is n ps μ t) Pre; below = λ t. and n ps (falls n ps ◌<◌ μ t) Pre }
