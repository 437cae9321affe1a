use Rattle.std.proofs.Common.{refl}
use Rattle.grammar.specs.Declarations.{after_type, after_tagger, after_function, after_axiom, after_procedure}
use Rattle.parsing.specs.Code.{opening}
use Rattle.parsing.proofs.Places.{begin_with, tail}
use Rattle.parsing.proofs.parser.Parser.decl.Goals as goal

pub returns-in-Types : goal.returns-in-Types
returns-in-Types c = rw c.in-Types.is (tail _ after_type after_type 1 5 1 0 _ _ c.type_decl.ensures (begin_with c.requires) refl refl refl)

pub returns-in-Taggers : goal.returns-in-Taggers
returns-in-Taggers c = rw c.in-Taggers.is (tail _ after_tagger after_tagger 1 5 1 0 _ _ c.tagger_decl.ensures (begin_with c.requires) refl refl refl)

pub returns-in-Functions : goal.returns-in-Functions
returns-in-Functions c =
    rw c.in-Functions.is (tail _ (opening after_function c.args.depth) (opening after_function c.args.depth) 1 5 1 2 _ _ c.function_decl.ensures (begin_with c.requires) refl refl refl)

pub returns-in-Axioms : goal.returns-in-Axioms
returns-in-Axioms c = rw c.in-Axioms.is (tail _ (opening after_axiom c.args.depth) (opening after_axiom c.args.depth) 1 5 1 1 _ _ c.axiom_decl.ensures (begin_with c.requires) refl refl refl)

pub returns-in-Procedures : goal.returns-in-Procedures
returns-in-Procedures c =
    rw c.in-Procedures.is (tail _ (opening after_procedure c.args.depth) (opening after_procedure c.args.depth) 1 5 1 5 _ _ c.proc_decl.ensures (begin_with c.requires) refl refl refl)
