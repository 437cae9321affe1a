-- Modes, and the pieces of a variable's declaration.
use Rattle.std.proofs.Common.{ℕ, ◌≡◌, refl, sym, ap, Option, List, [], ◌∷◌, ◌++◌}
use Rattle.lexing.specs.Bytes.{bytes}
use Rattle.tree.specs.Ast as ast
use Rattle.tree.specs.Words.{mode_word}
use Rattle.tree.specs.Codes.{Decodes, mode_code}
use Rattle.tree.specs.declared.word.Mode.{Mode}
use Rattle.tree.specs.declared.word.Mode.TheVariants.{In, InOut, Out}
use Rattle.std.proofs.Math.Option.{Option as Maybe, none, some}
use Rattle.tree.specs.Counted.{CountedItems}
use Rattle.layout.specs.Printer.{IdTypeDecl}
use Rattle.layout.specs.Statements.{mode_text, optional}
use Rattle.rendering.specs.StmtParts.{mode_bytes}

-- a mode's text is that of the mode that was found
pub mode-is : {w : ℕ} {q : Option Mode} (m : ast.ParameterMode) → Decodes mode_code w q → w ≡ mode_word m → mode_bytes q ≡ bytes (mode_text m)
mode-is ast.In f h = ap mode_bytes ((f In).1 (sym h))
mode-is ast.InOut f h = ap mode_bytes ((f InOut).1 (sym h))
mode-is ast.Out f h = ap mode_bytes ((f Out).1 (sym h))

-- names have no numbers
pub names-counted : {N : Type 0} (words : N → List ℕ → List ℕ) (rest : List ℕ) (l : List N) → CountedItems words (λ (n : N) (r : List ℕ). Unit {0}) l rest
names-counted words rest [] = tt
names-counted words rest (n ∷ l) = (tt, names-counted words rest l)

-- a name and what is optional after it
pub declared : {N : Type 0} (name : N → List ℕ) (x : List ℕ) (n : N) (o : Maybe N)
    → ◌≡◌ {A = List ℕ → List ℕ} (λ r. x ++ (name n ++ optional (λ m k. name m ++ k) (bytes ": ") o r)) (λ r. IdTypeDecl name x n o r)
declared name x n none = refl
declared name x n (some t) = refl
