-- Whatever follows from hypotheses that contradict each other: `impossible cc`, where `cc` finds the clash.
use Rattle.std.specs.Prelude.{ℕ, ◌≡◌}
use Rattle.std.proofs.Common.{arith}

pub impossible {ℓ} : {A : Type ℓ} → ◌≡◌ {A = ℕ} 0 1 → A
impossible e = absurd (omega arith)
