-- What the parser's methods promise. A rule is a reader of a text; p is the parser as a method is called, q as it returns.
use Rattle.std.specs.Prelude.{ℕ, ◌+◌, ◌*◌, ◌≤◌, ◌<◌, ◌≡◌, Bool, true, false, List, ◌∷◌, length, take, drop, get_or, Option, Some, None, Result, Ok, Err}
use Rattle.lexing.specs.Answer.{Answer, ok, refused}
use Rattle.lexing.specs.Bytes.{same_bytes}
use Rattle.lexing.specs.CodeAnswers.{number}
use Rattle.lexing.specs.Tokens.{identifier_length, sign_not_prefix}
use Rattle.lexing.specs.Answer.{moved}
use Rattle.lexing.specs.declared.token.Token.{Token}
use Rattle.lexing.specs.declared.refusal.Refusal.{Refusal}
use Rattle.tree.specs.Ast.{Span}
use Rattle.tree.specs.Tags.{more, no_more, operator_expr_tag}
use Rattle.grammar.specs.Steps.{Reader, must, keyword_at, sign_at, parse_name}
use Rattle.parsing.specs.Arena.{Run, Holds, Kept, outside}
use Rattle.parsing.specs.declared.arena.Node.{Node}
use Rattle.parsing.specs.declared.parser.Parser.{Parser}
use Rattle.parsing.specs.declared.parser.Name.{Name}

-- the words of a tree whose names are spans
abbrev pub same : Span → Span
same s = s

abbrev pub Rule : Type 0 → Type 0
Rule A = List ℕ → Reader A

-- a rule that must follow
abbrev pub needed : {A : Type 0} → Rule A → Rule A
needed rule text at = must at (rule text at)

-- `T`, `Sym` and `SymNotPrefix` of given bytes
abbrev pub word : List ℕ → Rule ℕ
word w text at = keyword_at text w at

abbrev pub sign : List ℕ → Rule ℕ
sign w text at = sign_at text w at

abbrev pub sign_but : List ℕ → List ℕ → Rule ℕ
sign_but w longer text at = moved at (sign_not_prefix w longer (drop at text))

-- ---- the parser

-- room for `credit` nodes beside two for each byte that is left
pub record Spare (p : Parser) (credit : ℕ) : Type 0 where
  pub room : p.top + credit + 2 * length p.text.now ≤ length p.arena.now + 2 * p.at

-- the text and what was made before are the same
pub record Later (p q : Parser) : Type 0 where
  pub text_same : q.text.now ≡ p.text.now
  pub lent_same : q.arena.ghost_name ≡ p.arena.ghost_name
  pub kept : Kept p.arena.now q.arena.now p.top
  pub grows : p.top ≤ q.top

-- at least `least` bytes were kept, and two nodes for each of them and `credit` more were made at most
pub record Went (least credit : ℕ) (p q : Parser) : Type 0 where
  pub later : Later p q
  pub onward : p.at + least ≤ q.at
  pub paid : q.top + 2 * p.at ≤ p.top + 2 * q.at + credit

-- nothing was kept
pub record Missing {A : Type 0} (rule : Rule A) (p q : Parser) : Type 0 where
  pub says : rule p.text.now p.at ≡ Answer.none
  pub same : q ≡ p

-- ---- rules that build

-- a node for the value of an answer
pub record Read {A : Type 0} (words : A → Run) (rule : Rule A) (least credit : ℕ) (p q : Parser) (node : ℕ) : Type 0 where
  pub value : A
  pub says : rule p.text.now p.at ≡ ok value q.at
  pub holds : Holds q.arena.now node (words value)
  pub below : node < q.top
  pub went : Went least credit p q

-- a rule that never keeps nothing, and one that may
abbrev pub Reads : {A : Type 0} → (A → Run) → Rule A → ℕ → ℕ → Parser → Parser → Result ℕ Refusal → Type 0
Reads words rule least credit p q (Ok node) = Read words rule least credit p q node
Reads words rule least credit p q (Err e) = rule p.text.now p.at ≡ refused (number e.reason) e.place

abbrev pub Reads_if : {A : Type 0} → (A → Run) → Rule A → ℕ → ℕ → Parser → Parser → Result (Option ℕ) Refusal → Type 0
Reads_if words rule least credit p q (Ok (Some node)) = Read words rule least credit p q node
Reads_if words rule least credit p q (Ok None) = Missing rule p q
Reads_if words rule least credit p q (Err e) = rule p.text.now p.at ≡ refused (number e.reason) e.place

-- ---- tokens

-- a token of at least `least` bytes
pub record Took (rule : Rule ℕ) (least : ℕ) (p q : Parser) : Type 0 where
  pub value : ℕ
  pub says : rule p.text.now p.at ≡ ok value q.at
  pub went : Went least 0 p q
  pub top_same : q.top ≡ p.top

abbrev pub Takes : Rule ℕ → ℕ → Parser → Parser → Result Unit Refusal → Type 0
Takes rule least p q (Ok u) = Took rule least p q
Takes rule least p q (Err e) = rule p.text.now p.at ≡ refused (number e.reason) e.place

abbrev pub Takes_if : Rule ℕ → ℕ → Parser → Parser → Result Bool Refusal → Type 0
Takes_if rule least p q (Ok true) = Took rule least p q
Takes_if rule least p q (Ok false) = Missing rule p q
Takes_if rule least p q (Err e) = rule p.text.now p.at ≡ refused (number e.reason) e.place

-- a name
abbrev pub span : Name → Span
span n = record { start = n.start; len = n.len }

pub record Named (rule : Rule Span) (p q : Parser) (n : Name) : Type 0 where
  pub says : rule p.text.now p.at ≡ ok (span n) q.at
  pub went : Went 1 0 p q
  pub top_same : q.top ≡ p.top
  pub start_is : n.start ≡ p.at
  pub low : n.start + n.len ≤ q.at

abbrev pub Names : Rule Span → Parser → Parser → Result Name Refusal → Type 0
Names rule p q (Ok n) = Named rule p q n
Names rule p q (Err e) = rule p.text.now p.at ≡ refused (number e.reason) e.place

abbrev pub Names_if : Rule Span → Parser → Parser → Result (Option Name) Refusal → Type 0
Names_if rule p q (Ok (Some n)) = Named rule p q n
Names_if rule p q (Ok None) = Missing rule p q
Names_if rule p q (Err e) = rule p.text.now p.at ≡ refused (number e.reason) e.place

-- the word or name that stands here has so many bytes
pub record Spelt (p : Parser) (len : ℕ) : Type 0 where
  pub measured : identifier_length (drop p.at p.text.now) ≡ len
  pub inside : p.at + len ≤ length p.text.now
  pub filled : 1 ≤ len

-- its length, or none stands here
abbrev pub Ahead : Parser → Option ℕ → Type 0
Ahead p (Some len) = Spelt p len
Ahead p None = identifier_length (drop p.at p.text.now) ≡ 0

-- whether it is these bytes
abbrev pub word_here : Parser → List ℕ → Bool
word_here p w = same_bytes (take (identifier_length (drop p.at p.text.now)) (drop p.at p.text.now)) w

-- it is read as a name
pub record Passing_word (len : ℕ) (p q : Parser) (n : Name) : Type 0 where
  pub named : Named parse_name p q n
  pub len_is : n.len ≡ len

abbrev pub Passes_word : ℕ → Parser → Parser → Result Name Refusal → Type 0
Passes_word len p q (Ok n) = Passing_word len p q n
Passes_word len p q (Err e) = parse_name p.text.now p.at ≡ refused (number e.reason) e.place

-- a token's answer lies inside the text
abbrev pub Lies : Parser → Result (Option Token) Refusal → Type 0
Lies p (Ok (Some t)) = p.at + t.size ≤ length p.text.now
Lies p (Ok None) = Unit {0}
Lies p (Err e) = p.at + e.place ≤ length p.text.now

-- a token that stands here was passed, or is refused
pub record Passing (lexed : Result (Option Token) Refusal) (p q : Parser) (v : ℕ) : Type 0 where
  pub size : ℕ
  pub was : lexed ≡ Ok (Some (record { value = v; size = size }))
  pub place : q.at ≡ p.at + size
  pub went : Went size 0 p q
  pub top_same : q.top ≡ p.top

pub record Refusing (lexed : Result (Option Token) Refusal) (p : Parser) (e : Refusal) : Type 0 where
  pub place : ℕ
  pub was : lexed ≡ Err (record { reason = e.reason; place = place })
  pub here : e.place ≡ p.at + place

pub record Not_here (lexed : Result (Option Token) Refusal) (p q : Parser) : Type 0 where
  pub was : lexed ≡ Ok None
  pub same : q ≡ p

abbrev pub Passed : Result (Option Token) Refusal → Parser → Parser → Result (Option ℕ) Refusal → Type 0
Passed lexed p q (Ok (Some v)) = Passing lexed p q v
Passed lexed p q (Ok None) = Not_here lexed p q
Passed lexed p q (Err e) = Refusing lexed p e

pub record Standing_token (lexed : Result (Option Token) Refusal) (p q : Parser) : Type 0 where
  pub value : ℕ
  pub passing : Passing lexed p q value

abbrev pub Stands : Result (Option Token) Refusal → Parser → Parser → Result Bool Refusal → Type 0
Stands lexed p q (Ok true) = Standing_token lexed p q
Stands lexed p q (Ok false) = Not_here lexed p q
Stands lexed p q (Err e) = Refusing lexed p e

-- ---- nodes

-- a node that stands for a run
pub record Standing (p : Parser) (n : ℕ) (f : Run) : Type 0 where
  pub holds : Holds p.arena.now n f
  pub below : n < p.top

-- n nodes were made, the last of which is `node`
pub record Made (n : ℕ) (p q : Parser) (node : ℕ) : Type 0 where
  pub later : Later p q
  pub last : node + 1 ≡ q.top
  pub top : q.top ≡ p.top + n
  pub at_same : q.at ≡ p.at

pub record Pushed (node : Node) (p q : Parser) (n : ℕ) : Type 0 where
  pub made : Made 1 p q n
  pub here : get_or q.arena.now n outside ≡ node

-- four runs, one after another
pub record Four (a b c d : ℕ) (p q : Parser) (n : ℕ) : Type 0 where
  pub made : Made 3 p q n
  pub holds : {f g h k : Run} → Standing p a f → Standing p b g → Standing p c h → Standing p d k → Holds q.arena.now n (λ r. f (g (h (k r))))

-- IfThenElse over three operands
pub record Chosen (guard thn els : ℕ) (p q : Parser) (n : ℕ) : Type 0 where
  pub made : Made 5 p q n
  pub holds : {f g h : Run} → Standing p guard f → Standing p thn g → Standing p els h
      → Holds q.arena.now n (λ r. operator_expr_tag ∷ 1 ∷ more ∷ f (more ∷ g (more ∷ h (no_more ∷ r))))

-- a sequence with its end, for which the empty sequence needs no room
pub record Closable (list : ℕ) (p : Parser) : Type 0 where
  pub room : (list ≡ 0 → ⊥) → Spare p 1

pub record Closes (list : ℕ) (p q : Parser) (n : ℕ) : Type 0 where
  pub later : Later p q
  pub at_same : q.at ≡ p.at
  pub grows : q.top ≤ p.top + 1
  pub stays : list ≡ 0 → q.top ≡ p.top
  pub below : n < q.top
  pub holds : {f : Run} → Standing p list f → Holds q.arena.now n (λ r. f (no_more ∷ r))
