-- The name, the parameters, the two lists of assertions and the body.
use Rattle.std.proofs.Common.{arith, refl, rules}
use Rattle.rendering.specs.Sequences.{one}
use Rattle.rendering.specs.StmtParts.{a_parameter}
use Rattle.rendering.specs.DeclParts.{a_body}
use Rattle.rendering.proofs.Walk.{prints, ready, begin, text, part, done}
use Rattle.rendering.proofs.Sequences.{by-call, by-one-call, moves, printed-option, printed-list}
use Rattle.rendering.proofs.printer.Printer.procedure.Goals as goal

pub separated-requires : goal.separated-requires
separated-requires c k = ((refl, tt), (search rules, moves a_parameter (λ s s' r. by-call (one a_parameter) r (search rules))))

pub returns : goal.returns
returns c =
    let list = printed-list a_parameter (λ s s' r. by-call (one a_parameter) r (search rules)) c.separated.ensures in
    let content = printed-option a_body (λ s s' r. by-one-call (one a_body) r (search rules)) c.optional.ensures in
    prints (cc) (cc) (let e = list.forward in let f = content.forward in omega arith)
    (λ a rest g d.
    let name = part c.name_then.ensures a.name tt (text (begin d) c.put.ensures) in
    let parameters = part list a.parameters (ready g.0 (omega arith) (omega arith), g.1.0.1) name in
    let e = list.forward in
    let before = part c.aexprs.ensures a.pre (ready g.0 (omega arith) (omega arith), g.1.2) (text parameters c.put-2.ensures) in
    let after = part c.aexprs-2.ensures a.post (ready g.0 (omega arith) (omega arith), g.1.4) before in
    done (part content a.body (ready g.0 (omega arith) (omega arith), g.1.5) after))
