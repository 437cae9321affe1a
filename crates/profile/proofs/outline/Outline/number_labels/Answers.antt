-- `Outline::number_labels` meets its contract: the spans of all places are numbered, where an exit asks for them.
use Rattle.std.proofs.Common.{ℕ, ◌≡◌, length, arith, subst}
use Rattle.profile.specs.Labels.{places_of, Spanned}
use Rattle.profile.proofs.LabelLaws.{asked-more, numbered, unnumbered}
use Rattle.profile.proofs.outline.Outline.number_labels.Goals as goal

pub loop-at-preserved : goal.loop-at-preserved
loop-at-preserved c = (c.note_span.ensures, asked-more (places_of c.args.self.now) c.loop-at.invariant.1 c.is_exit-asked.ensures)

pub returns-then-asked : goal.returns-then-asked
returns-then-asked c =
    let o = c.args.self.now in
    let all : c.loop-at.at ≡ length o.words.now = omega (arith, c.loop-at-test.false, c.loop-at.auto.at-end) in
    numbered (places_of o) o.text.now c.args.numbers.now (omega (arith, o.short)) o.few
    (subst (λ (n : ℕ). Spanned (places_of o) n c.loop-at.spans) all c.loop-at.invariant.0) c.requires.room c.number_spans.ensures.1

pub returns-else-asked : goal.returns-else-asked
returns-else-asked c =
    let o = c.args.self.now in
    unnumbered (places_of o) o.text.now o.few c.requires.room c.requires.zero
    (λ i h. c.loop-at.invariant.1 c.if-asked.false i (omega (arith, h, c.loop-at-test.false)))
