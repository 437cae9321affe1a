use Rattle.std.proofs.Common.{refl, sym, ap, ◌∙◌, get_or, arith}
use Rattle.parsing.specs.Signs.{begins_operator, class_of}
use Rattle.parsing.proofs.FirstBytes.{begins-none}
use Rattle.parsing.proofs.parser.Parser.operator.Goals as goal

pub returns : goal.returns
returns c =
    let p = c.args.self.now in
    let h = c.peek.ensures ∙ ap (λ i. get_or p.text.now i 0) (omega arith) in
    record { says = begins-none p.text.now p.at (class_of c.args.level) (sym (c.begins_operator.ensures ∙ ap (begins_operator (class_of c.args.level)) h) ∙ c.if-begins_operator.false); same = refl }
