use Rattle.std.proofs.Common.{ℕ, ◌≡◌, ◌<◌, length}
use Rattle.std.specs.Prelude.{None}
use Rattle.profile.specs.Profile.{broken}
use Rattle.profile.specs.Labels.{places_of, Numbered, Open}
use Rattle.profile.proofs.outline.Outline.judge.Given as goal

abbrev pub invariant-loop-at : goal.invariant-loop-at
invariant-loop-at l =
    Numbered (places_of l.self) l.self.text.now (length l.self.words.now) l.numbers
    × Open (places_of l.self) l.self.text.now (length l.self.words.now) l.numbers l.at l.until
    × ((i : ℕ) → i < l.at → broken (places_of l.self) l.self.text.now i ≡ None)
