-- The declarations of each kind.
use Rattle.std.proofs.Common.{arith, refl, rules}
use Rattle.tree.specs.Words.{name_words, tagger_words}
use Rattle.layout.specs.Program.{Program}
use Rattle.rendering.specs.Sequences.{one}
use Rattle.rendering.specs.DeclParts.{a_type_decl, a_tagger_decl, a_function_decl, an_axiom_decl, a_procedure}
use Rattle.rendering.proofs.Walk.{prints, ready, begin, text, part, done}
use Rattle.rendering.proofs.Sequences.{by-call, moves, printed-list}
use Rattle.rendering.proofs.StmtPrints.Pieces.{names-counted}
use Rattle.rendering.proofs.printer.Printer.program.Goals as goal

pub separated-requires : goal.separated-requires
separated-requires c k = ((refl, tt), (search rules, moves a_type_decl (λ s s' r. by-call (one a_type_decl) r (search rules))))

pub separated-requires-2 : goal.separated-requires-2
separated-requires-2 c k = ((refl, tt), (search rules, moves a_tagger_decl (λ s s' r. by-call (one a_tagger_decl) r (search rules))))

pub separated-requires-3 : goal.separated-requires-3
separated-requires-3 c k = ((refl, tt), (search rules, moves a_function_decl (λ s s' r. by-call (one a_function_decl) r (search rules))))

pub separated-requires-4 : goal.separated-requires-4
separated-requires-4 c k = ((refl, tt), (search rules, moves an_axiom_decl (λ s s' r. by-call (one an_axiom_decl) r (search rules))))

pub separated-requires-5 : goal.separated-requires-5
separated-requires-5 c k = ((refl, tt), (search rules, moves a_procedure (λ s s' r. by-call (one a_procedure) r (search rules))))

pub returns : goal.returns
unfolding Program
returns c =
    let types = printed-list a_type_decl (λ s s' r. by-call (one a_type_decl) r (search rules)) c.separated.ensures in
    let t = types.forward in
    let taggers = printed-list a_tagger_decl (λ s s' r. by-call (one a_tagger_decl) r (search rules)) c.separated-2.ensures in
    let g = taggers.forward in
    let functions = printed-list a_function_decl (λ s s' r. by-call (one a_function_decl) r (search rules)) c.separated-3.ensures in
    let f = functions.forward in
    let axioms = printed-list an_axiom_decl (λ s s' r. by-call (one an_axiom_decl) r (search rules)) c.separated-4.ensures in
    let a = axioms.forward in
    let procedures = printed-list a_procedure (λ s s' r. by-call (one a_procedure) r (search rules)) c.separated-5.ensures in
    let p = procedures.forward in
    prints (cc) (cc) (omega arith)
    (λ prog rest given d.
    let a-type = part types prog.types (ready given.0 (omega arith) (omega arith), names-counted (name_words (λ n. n.span)) _ prog.types) (text (begin d) c.put.ensures) in
    let a-tagger = part taggers prog.taggers (ready given.0 (omega arith) (omega arith), names-counted (tagger_words (λ n. n.span)) _ prog.taggers) a-type in
    let a-function = part functions prog.functions (ready given.0 (omega arith) (omega arith), given.1.2.1) a-tagger in
    let an-axiom = part axioms prog.axioms (ready given.0 (omega arith) (omega arith), given.1.3.1) a-function in
    done (part procedures prog.procedures (ready given.0 (omega arith) (omega arith), given.1.4.1) an-axiom))
