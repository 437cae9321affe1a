-- What the functions that read operators promise.
use Rattle.std.specs.Prelude.{ℕ, ◌≡◌, ◌≤◌, Bool, true, ◌||◌, eqb, List, [], ◌∷◌, length, Option, Some, None, Result, Ok, Err}
use Rattle.lexing.specs.Answer.{Answer, ok, refused}
use Rattle.lexing.specs.CodeAnswers.{number}
use Rattle.lexing.specs.declared.refusal.Refusal.{Refusal}
use Rattle.tree.specs.Codes.{as_operator}
use Rattle.grammar.specs.Grammar.{Build, straight, swapped, Class, product, sum, comparison, conjunction, disjunction, implication, explication, equivalence}
use Rattle.grammar.specs.Steps.{mapped, ◌or◌}
use Rattle.grammar.specs.Rules.{operator_of}
use Rattle.parsing.specs.Contract.{Rule, Went, Missing, word, sign, sign_but}
use Rattle.parsing.specs.declared.parser.Parser.{Parser}
use Rattle.parsing.specs.declared.sign.Level.{Level}
use Rattle.parsing.specs.declared.sign.Level.TheVariants.{Product, Sum, Comparison, Conjunction, Disjunction, Implication, Explication, Equivalence}
use Rattle.parsing.specs.declared.sign.Sign.{Sign}
use Rattle.parsing.specs.declared.sign.Sign.TheVariants.{Straight, Swapped}
use Rattle.parsing.specs.declared.sign.Spelling.{Spelling}
use Rattle.parsing.specs.declared.sign.Spelling.TheVariants.{Sym, SymNotPrefix, Keyword}

-- an operator between operands, in text order or swapped
abbrev pub build_of : Sign → Build
build_of (Straight op) = straight (as_operator op)
build_of (Swapped op) = swapped (as_operator op)

-- an operator that was read
pub record Operated {B C : Type 0} (of : C → B) (rule : Rule B) (p q : Parser) (c : C) : Type 0 where
  pub says : rule p.text.now p.at ≡ ok (of c) q.at
  pub went : Went 1 0 p q
  pub top_same : q.top ≡ p.top

abbrev pub Operates : {B C : Type 0} → (C → B) → Rule B → Parser → Parser → Result (Option C) Refusal → Type 0
Operates of rule p q (Ok (Some c)) = Operated of rule p q c
Operates of rule p q (Ok None) = Missing rule p q
Operates of rule p q (Err e) = rule p.text.now p.at ≡ refused (number e.reason) e.place

abbrev pub class_of : Level → Class
class_of Product = product
class_of Sum = sum
class_of Comparison = comparison
class_of Conjunction = conjunction
class_of Disjunction = disjunction
class_of Implication = implication
class_of Explication = explication
class_of Equivalence = equivalence

-- the bytes that begin an operator of a class: * d m, + -, ! < = >, &, |, =, < and <
unfoldable pub begins_operator : Class → ℕ → Bool
begins_operator product b = eqb b 42 || eqb b 100 || eqb b 109
begins_operator sum b = eqb b 43 || eqb b 45
begins_operator comparison b = eqb b 33 || eqb b 60 || eqb b 61 || eqb b 62
begins_operator conjunction b = eqb b 38
begins_operator disjunction b = eqb b 124
begins_operator implication b = eqb b 61
begins_operator explication b = eqb b 60
begins_operator equivalence b = eqb b 60

-- whether a byte may begin these
abbrev pub may_begin : List ℕ → ℕ → Bool
may_begin [] b = true
may_begin (a ∷ w) b = eqb a b

-- the rule of a level's operators
abbrev pub level_rule : Level → Rule Build
level_rule level text = operator_of text (class_of level)

-- ---- tables of operators

-- the rule of a spelling, and how many bytes it has
abbrev pub spelt : Spelling → Rule ℕ
spelt (Sym b) = sign b.now
spelt (SymNotPrefix b longer) = sign_but b.now longer.now
spelt (Keyword b) = word b.now

abbrev pub size : Spelling → ℕ
size (Sym b) = length b.now
size (SymNotPrefix b longer) = length b.now
size (Keyword b) = length b.now

-- what stands beside the first spelling of a table that is read
unfoldable pub table_rule : {T : Type 0} → List (Spelling × T) → Rule T
table_rule [] text at = Answer.none
table_rule (e ∷ es) text at = mapped (λ _. e.1) (spelt e.0 text at) or table_rule es text at

-- no spelling of a table is empty
abbrev pub Filled : {T : Type 0} → List (Spelling × T) → Type 0
Filled [] = Unit {0}
Filled (e ∷ es) = 1 ≤ size e.0 × Filled es

-- a table that reads as the rule of a level's operators
pub record Tabled (level : Level) (table : List (Spelling × Sign)) : Type 0 where
  pub reads : (text : List ℕ) → (at : ℕ) → level_rule level text at ≡ mapped build_of (table_rule table text at)
  pub filled : Filled table
