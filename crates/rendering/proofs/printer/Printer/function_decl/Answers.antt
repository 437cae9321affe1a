-- The name, the parameters, the result type, the tag and the definition.
use Rattle.std.proofs.Common.{arith, refl, rules}
use Rattle.tree.specs.Words.{f_parameter_words}
use Rattle.rendering.specs.Parts.{a_name}
use Rattle.rendering.specs.Sequences.{one}
use Rattle.rendering.specs.StmtParts.{a_named, a_formal}
use Rattle.rendering.specs.DeclParts.{a_definition}
use Rattle.rendering.proofs.Walk.{prints, ready, begin, text, part, done}
use Rattle.rendering.proofs.Sequences.{by-call, by-one-call, plainly, option-counted, moves, printed-option, printed-list}
use Rattle.rendering.proofs.StmtPrints.Pieces.{names-counted}
use Rattle.rendering.proofs.printer.Printer.function_decl.Goals as goal

pub separated-requires : goal.separated-requires
separated-requires c k = ((refl, tt), (search rules, moves a_formal (λ s s' r. by-call (one a_formal) r (search rules))))

pub returns : goal.returns
returns c =
    let formals = printed-list a_formal (λ s s' r. by-call (one a_formal) r (search rules)) c.separated.ensures in
    let a-tag = printed-option a_named (λ s s' r. plainly a_named (by-one-call a_name r (search rules))) c.optional.ensures in
    let content = printed-option a_definition (λ s s' r. by-one-call (one a_definition) r (search rules)) c.optional-2.ensures in
    prints (cc) (cc) (let e = formals.forward in let f = a-tag.forward in let h = content.forward in omega arith)
    (λ a rest g d.
    let name = part c.name_then.ensures a.name tt (text (begin d) c.put.ensures) in
    let parameters = part formals a.parameters (ready g.0 (omega arith) (omega arith), names-counted (f_parameter_words (λ n. n.span)) _ a.parameters) name in
    let result = part c.name.ensures a.result_type tt (text parameters c.put-2.ensures) in
    let e = formals.forward in
    let tag = part a-tag a.tag (ready g.0 (omega arith) (omega arith), option-counted a.tag _) result in
    let f = a-tag.forward in
    done (part content a.definition (ready g.0 (omega arith) (omega arith), g.1.1) (text tag c.put-3.ensures)))
