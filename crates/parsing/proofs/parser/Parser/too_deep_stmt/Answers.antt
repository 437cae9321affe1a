use Rattle.std.proofs.Common.{refl, ◌∙◌}
use Rattle.lexing.specs.Bytes.{bytes}
use Rattle.grammar.specs.Statements.{mark, too_deep}
use Rattle.parsing.specs.Contract.{sign}
use Rattle.parsing.proofs.Places.{later-next}
use Rattle.parsing.proofs.StatementPlaces.{stops_err, stay, back, says-of, deep-stops, deep-says, deep-none}
use Rattle.parsing.proofs.StatementRules.{deep-wordless, deep-lead, deep-named, deep-refused}
use Rattle.parsing.proofs.parser.Parser.too_deep_stmt.Goals as goal

pub returns-in_default : goal.returns-in_default
returns-in_default c = rw c.too_deep_if.ensures (deep-stops (sign (bytes "{")) 1 _ _ _ _ c.sym.ensures (deep-wordless _ _ (rw c.in_default.is at c.word_ahead.ensures)))

pub returns-in_default-lead_at : goal.returns-in_default-lead_at
returns-in_default-lead_at c =
    let s = rw c.in-Some.is at c.word_ahead.ensures in
    rw c.too_deep.ensures (deep-lead _ _ s.measured s.filled c.lead_at.ensures c.in_default-lead_at.not-Name)

pub returns-in_err-pass_word : goal.returns-in_err-pass_word
returns-in_err-pass_word c =
    let s = rw c.in-Some.is at c.word_ahead.ensures in
    stops_err _ _ _ _ (deep-refused _ _ s.measured s.filled c.lead_at.ensures c.in-Name.is c.in_err-pass_word.ensures) _ c.from_residual.ensures.1

pub returns-in_err-too_deep_if : goal.returns-in_err-too_deep_if
returns-in_err-too_deep_if c =
    let s = rw c.in-Some.is at c.word_ahead.ensures in
    let w = c.in_ok-pass_word.ensures in
    let d = deep-named c.args.self.now.text.now c.args.self.now.at s.measured s.filled c.lead_at.ensures c.in-Name.is w.named.says in
    let n = deep-says mark 1 _ _ c.args.self.now.at _ c.mark.ensures c.in_err-too_deep_if.ensures in
    stops_err _ _ _ _ (d ∙ says-of (λ text at. too_deep c.args.self.now.at (mark text at)) w.named.went.later n) _ c.from_residual-in_err-too_deep_if.ensures.1

pub returns : goal.returns
returns c =
    let s = rw c.in-Some.is at c.word_ahead.ensures in
    let w = c.in_ok-pass_word.ensures in
    let d = deep-named c.args.self.now.text.now c.args.self.now.at s.measured s.filled c.lead_at.ensures c.in-Name.is w.named.says in
    let (n, same) = deep-none mark 1 _ _ c.args.self.now.at _ c.mark.ensures c.in_ok-too_deep_if.ensures in
    let m = stay same in
    record {
      says = d ∙ says-of (λ text at. too_deep c.args.self.now.at (mark text at)) w.named.went.later n;
      stayed = back (later-next w.named.went.later m.later) (m.top_same ∙ w.named.top_same) refl refl refl refl;
    }
