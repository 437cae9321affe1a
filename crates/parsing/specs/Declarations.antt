-- What the rules of declarations and programs promise, in terms of the grammar's, with so many levels left.
use Prim.Native.String.{String}
use Rattle.std.specs.Prelude.{ℕ, ◌+◌, ◌≤◌, ◌<◌, ◌≡◌, List, [], ◌∷◌, get_or, Option as OptionOf, Some, None, Result, Ok, Err}
use Rattle.std.proofs.Math.Option.{Option, none, some}
use Rattle.lexing.specs.Answer.{Answer, ok, refused}
use Rattle.lexing.specs.CodeAnswers.{number}
use Rattle.lexing.specs.declared.refusal.Refusal.{Refusal}
use Rattle.tree.specs.Ast.{Span, Stmt, Tagger, Function, Axiom, Procedure, Program}
use Rattle.tree.specs.Tags.{no_more}
use Rattle.tree.specs.Words.{seq_words, name_words, tagger_words, function_words, axiom_words, procedure_words}
use Rattle.grammar.specs.Steps.{T, after}
use Rattle.grammar.specs.Declarations.{TopLevelDecl, TType, TTagger, TFunction, TAxiom, TProc, after_type, after_tagger, after_function, after_axiom, after_procedure}
use Rattle.parsing.specs.Arena.{Run, Holds}
use Rattle.parsing.specs.Contract.{Rule, Later, Went, Missing, Standing, same}
use Rattle.parsing.specs.Code.{opened, opening}
use Rattle.parsing.specs.declared.parser.Parser.{Parser}
use Rattle.parsing.specs.declared.program.DeclKind.{DeclKind}
use Rattle.parsing.specs.declared.program.DeclKind.TheVariants.{Types, Taggers, Functions, Axioms, Procedures}

-- ---- parts of declarations

-- the body of a procedure, or none
abbrev pub body_rule : ℕ → Rule (Option (Stmt Span))
body_rule depth text at = after ((opened depth text).block at) (ok none at) (λ s at₁. ok (some s) at₁)

-- ---- kinds of declarations

abbrev pub DeclOf : DeclKind → Type 0
DeclOf Types = Span
DeclOf Taggers = Tagger Span
DeclOf Functions = Function Span
DeclOf Axioms = Axiom Span
DeclOf Procedures = Procedure Span

abbrev pub decl_words : (s : DeclKind) → DeclOf s → Run
decl_words Types = name_words same
decl_words Taggers = tagger_words same
decl_words Functions = function_words same
decl_words Axioms = axiom_words same
decl_words Procedures = procedure_words same

-- the rule after the declaration's word
abbrev pub decl_rule : (s : DeclKind) → ℕ → Rule (DeclOf s)
decl_rule Types depth = after_type
decl_rule Taggers depth = after_tagger
decl_rule Functions depth = opening after_function depth
decl_rule Axioms depth = opening after_axiom depth
decl_rule Procedures depth = opening after_procedure depth

abbrev pub top_level : (s : DeclKind) → DeclOf s → TopLevelDecl
top_level Types = TType
top_level Taggers = TTagger
top_level Functions = TFunction
top_level Axioms = TAxiom
top_level Procedures = TProc

-- the first of the words that stands, and what it begins
abbrev pub led_by : List (String × DeclKind) → Rule DeclKind
led_by [] text at = Answer.none
led_by ((w, s) ∷ ws) text at = after (T text w at) (led_by ws text at) (λ _ at₁. ok s at₁)

-- the kind of the declaration that begins at a place
abbrev pub kind_rule : Rule DeclKind
kind_rule = led_by (("type", Types) ∷ ("tagger", Taggers) ∷ ("function", Functions) ∷ ("axiom", Axioms) ∷ ("procedure", Procedures) ∷ [])

-- a declaration's word was passed
pub record Begun (rule : Rule DeclKind) (p q : Parser) (s : DeclKind) : Type 0 where
  pub says : rule p.text.now p.at ≡ ok s q.at
  pub went : Went 4 0 p q
  pub top_same : q.top ≡ p.top

abbrev pub Begins : Rule DeclKind → Parser → Parser → Result (OptionOf DeclKind) Refusal → Type 0
Begins rule p q (Ok (Some s)) = Begun rule p q s
Begins rule p q (Ok None) = Missing rule p q
Begins rule p q (Err e) = rule p.text.now p.at ≡ refused (number e.reason) e.place

-- ---- the five sequences

-- the place of a kind's sequence
abbrev pub place_of : DeclKind → ℕ
place_of Types = 0
place_of Taggers = 1
place_of Functions = 2
place_of Axioms = 3
place_of Procedures = 4

abbrev pub last_of : List ℕ → DeclKind → ℕ
last_of lists s = get_or lists (place_of s) 0

-- the words of a program's declarations of a kind
abbrev pub part_words : DeclKind → Program Span → Run
part_words Types p = seq_words (name_words same) p.types
part_words Taggers p = seq_words (tagger_words same) p.taggers
part_words Functions p = seq_words (function_words same) p.functions
part_words Axioms p = seq_words (axiom_words same) p.axioms
part_words Procedures p = seq_words (procedure_words same) p.procedures

-- the runs of the five sequences with their ends
abbrev pub joined_run : (DeclKind → Run) → Run
joined_run f r = f Types (no_more ∷ f Taggers (no_more ∷ f Functions (no_more ∷ f Axioms (no_more ∷ f Procedures (no_more ∷ r)))))

-- the five sequences, whose last nodes are `lists`, are joined: at most nine nodes were made
pub record Joined (lists : List ℕ) (p q : Parser) (n : ℕ) : Type 0 where
  pub later : Later p q
  pub at_same : q.at ≡ p.at
  pub grows : q.top ≤ p.top + 9
  pub below : n < q.top
  pub holds : (f : DeclKind → Run) → ((s : DeclKind) → Standing p (last_of lists s) (f s)) → Holds q.arena.now n (joined_run f)
