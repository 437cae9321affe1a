-- The branches of a statement that begin with a word: the rule after each lead, and that it keeps something.
use Rattle.std.proofs.Common.{ℕ, zero, suc, ◌≤◌, refl, Bool, true, false, List, arith}
use Rattle.lexing.specs.Answer.{Answer, refused, level_too_deep}
use Rattle.lexing.specs.Bytes.{bytes}
use Rattle.tree.specs.Ast.{Span, Stmt, Loop}
use Rattle.grammar.specs.Steps.{need, must, mapped}
use Rattle.grammar.specs.Statements.{Gallery, parse_a_expr_seq, parse_variable_declaration, after_forall, after_choose, parse_if_cont}
use Rattle.parsing.specs.Contract.{Rule}
use Rattle.parsing.specs.Code.{turns, opened}
use Rattle.parsing.specs.Statements.{simple_rule, named_stmt}
use Rattle.parsing.specs.declared.lead.Lead.{Lead}
use Rattle.parsing.specs.declared.lead.Lead.TheVariants as lead
use Rattle.parsing.specs.declared.lead.Simple.{Simple}
use Rattle.parsing.specs.declared.lead.Simple.TheVariants as simple
use Rattle.parsing.proofs.StatementWords.{Keeps, needed-keeps}
use Rattle.parsing.proofs.StatementEquations.{ok-keeps}

-- after `loop`, which stands at `start`
abbrev pub loop_body : ℕ → ℕ → Rule (Stmt Span)
loop_body zero start text at = refused level_too_deep start
loop_body (suc d) start text at =
    need at (parse_a_expr_seq text (turns text) (opened d text) (bytes "invariant") at) (λ is at₁. must at₁ (mapped (Loop is) ((opened d text).block at₁)))

-- after the word n, by its lead
abbrev pub lead_rule : Lead → ℕ → Span → Rule (Stmt Span)
lead_rule lead.Var depth n text at = parse_variable_declaration text (turns text) (opened depth text) true at
lead_rule lead.Val depth n text at = parse_variable_declaration text (turns text) (opened depth text) false at
lead_rule (lead.Simple kind) depth n text at = simple_rule depth kind text at
lead_rule lead.Forall depth n text at = after_forall text (turns text) (opened depth text) at
lead_rule lead.Choose depth n text at = after_choose text (turns text) (opened depth text) at
lead_rule lead.If depth n text at = must at (parse_if_cont text (turns text) (opened depth text) at)
lead_rule lead.Loop depth n text at = loop_body depth n.start text at
lead_rule lead.Name depth n text at = named_stmt depth n text at

-- ---- what keeps something

must-keeps : {A : Type 0} (at : ℕ) (r : Answer A) → Keeps (must at r)
must-keeps at r = needed-keeps at r _ (λ a next. record { some = refl })

-- what follows `var`, `val`, `forall` and `choose`
module _ (text : List ℕ) (m : ℕ) (c : Gallery) (at : ℕ) where
  var-keeps : (is_mutable : Bool) → Keeps (parse_variable_declaration text m c is_mutable at)
  unfolding parse_variable_declaration
  var-keeps is_mutable =
      needed-keeps _ _ _
      (λ n at₁. needed-keeps _ _ _ (λ t at₂. needed-keeps _ _ _ (λ i at₃. needed-keeps _ _ _ (λ init at₄. needed-keeps _ _ _ (λ ss at₅. ok-keeps _ _)))))

  forall-keeps : Keeps (after_forall text m c at)
  unfolding after_forall
  forall-keeps = needed-keeps _ _ _ (λ b at₁. must-keeps _ _)

  choose-keeps : Keeps (after_choose text m c at)
  unfolding after_choose
  choose-keeps = needed-keeps _ _ _ (λ s at₁. needed-keeps _ _ _ (λ ss at₂. ok-keeps _ _))

-- what follows each word of a statement; a name may be followed by nothing
pub loop-keeps : (depth start : ℕ) (text : List ℕ) (at : ℕ) → Keeps (loop_body depth start text at)
loop-keeps zero start text at = record { some = refl }
loop-keeps (suc d) start text at = needed-keeps _ _ _ (λ is at₁. must-keeps _ _)

simple-keeps : (kind : Simple) (depth : ℕ) (text : List ℕ) (at : ℕ) → Keeps (simple_rule depth kind text at)
simple-keeps simple.Reinit depth text at = must-keeps _ _
simple-keeps simple.Exit depth text at = must-keeps _ _
simple-keeps simple.Return depth text at = ok-keeps _ _
simple-keeps simple.Check depth text at = must-keeps _ _
simple-keeps simple.Assume depth text at = must-keeps _ _
simple-keeps simple.Reach depth text at = must-keeps _ _
simple-keeps simple.Assert depth text at = must-keeps _ _
simple-keeps simple.Probe depth text at = must-keeps _ _

-- the least bytes of a lead's word
abbrev pub lead_least : Lead → ℕ
lead_least lead.Var = 3
lead_least lead.Val = 3
lead_least (lead.Simple kind) = 4
lead_least lead.Forall = 6
lead_least lead.Choose = 6
lead_least lead.If = 2
lead_least lead.Loop = 4
lead_least lead.Name = 1

pub lead-keeps : (k : Lead) → 2 ≤ lead_least k → (depth : ℕ) (n : Span) (text : List ℕ) (at : ℕ) → Keeps (lead_rule k depth n text at)
lead-keeps lead.Var l depth n text at = var-keeps text _ _ _ true
lead-keeps lead.Val l depth n text at = var-keeps text _ _ _ false
lead-keeps (lead.Simple kind) l depth n text at = simple-keeps kind depth text at
lead-keeps lead.Forall l depth n text at = forall-keeps text _ _ _
lead-keeps lead.Choose l depth n text at = choose-keeps text _ _ _
lead-keeps lead.If l depth n text at = must-keeps _ _
lead-keeps lead.Loop l depth n text at = loop-keeps depth n.start text at
lead-keeps lead.Name l depth n text at = absurd (omega arith)
