use Rattle.std.proofs.Common.{ℕ, ◌≡◌, ◌<◌, false}
use Rattle.profile.specs.Profile.{exit}
use Rattle.profile.specs.Labels.{places_of, Spanned}
use Rattle.profile.proofs.outline.Outline.number_labels.Given as goal

abbrev pub invariant-loop-at : goal.invariant-loop-at
invariant-loop-at l = Spanned (places_of l.self) l.at l.spans × (l.asked ≡ false → (i : ℕ) → i < l.at → exit (places_of l.self) i ≡ false)
