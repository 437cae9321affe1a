-- Demand 3, second claim: the reader and the operator grammar; and what is read is a table that the check accepts.
use Rattle.std.specs.Prelude.{ℕ, ◌↔◌, List, ◌≡◌, length, take}
use Rattle.std.proofs.Math.Option.{none}
use Rattle.std.proofs.Common.{sym}
use Rattle.grammar.specs.Grammar.{Tree}
use Rattle.grammar.specs.OperatorTrees.{OperatorTree, DerivesWithin}
use Rattle.grammar.proofs.Bridge.Limits.{derives-operators}
use Rattle.grammar.proofs.Claims as grammar
use Rattle.tree.specs.Check.{expression_refusal, program_refusal}
use Rattle.reading.specs.TreeRead.{Answered, ProgramAnswered, Leaves}
use Rattle.reading.specs.Answered.{leaves-derives, derives-leaves}
use Rattle.std.specs.Prelude.{Result, Ok}
use Rattle.lexing.specs.declared.refusal.Refusal.{Refusal}

-- Whatever the text and the table of n words: `read_expression`, which answers r and leaves the table so (`Answered` is its contract), gives an
-- operator tree exactly when the text has a derivation that keeps the limits (text length, depth, naturals, words against the table and
-- 16,384), and it is the derivation's tree.
pub read-expression-exact : (text : List ℕ) (n : ℕ) (r : Result ℕ Refusal) (table : List ℕ) (t : Tree) → Answered text n r table
    → (Leaves text n t r table × OperatorTree t) ↔ DerivesWithin n text t
read-expression-exact text n r table t a =
    (λ l. leaves-derives text n a l.0 l.1, λ d. (derives-leaves text n r a d, derives-operators d))

-- The k words that `read_expression` and `read_program` answer are a table that `check_expression` and `check_program` accept over the same
-- text (`ProgramAnswered` is the contract of `read_program`).
pub read-expression-accepted : (text : List ℕ) (n k : ℕ) (table : List ℕ) → Answered text n (Ok k) table → expression_refusal (take k table) (length text) ≡ none
read-expression-accepted text n k table a = grammar.read-expression-accepted text n k table (sym a)

pub read-program-accepted : (text : List ℕ) (n k : ℕ) (table : List ℕ) → ProgramAnswered text n (Ok k) table → program_refusal (take k table) (length text) ≡ none
read-program-accepted text n k table a = grammar.read-program-accepted text n k table (sym a)
