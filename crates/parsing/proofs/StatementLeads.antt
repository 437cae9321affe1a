-- Places after the word that begins a statement.
use Rattle.std.proofs.Common.{ℕ, ◌+◌, ◌*◌, ◌≤◌, ◌≡◌, ◌∙◌, refl, sym, ap, Bool, true, List, [], length, take, drop, leb, arith}
use borrow.Author.Tests.{leb-true}
use Rattle.lexing.specs.Answer.{Answer, ok, refused}
use Rattle.tree.specs.Ast.{Span, Stmt}
use Rattle.grammar.specs.Steps.{parse_name}
use Rattle.grammar.specs.Statements.{Gallery, parse_stmt, parse_variable_declaration}
use Rattle.parsing.specs.Contract.{Spelt, Passing_word, span}
use Rattle.parsing.specs.Code.{turns, opened, opening}
use Rattle.parsing.specs.Leads.{leads, lead_of}
use Rattle.parsing.specs.declared.lead.Lead.{Lead}
use Rattle.parsing.specs.declared.lead.Lead.TheVariants.{Name as NameLead}
use Rattle.parsing.specs.declared.parser.Name.{Name}
use Rattle.parsing.specs.declared.parser.Parser.{Parser}
use Rattle.tree.specs.Clash.{impossible}
use Rattle.parsing.proofs.Laws.{after-none, after-refused}
use Rattle.parsing.proofs.Places.{Place, no_credit}
use Rattle.parsing.proofs.StatementPlaces.{word-passed, says-of}
use Rattle.parsing.proofs.StatementWords.{classed-long, word-long, word-apart}
use Rattle.parsing.proofs.StatementBranches.{lead_rule, lead_least}
use Rattle.parsing.proofs.StatementRules.{word-stmt}

-- a declaration that is read has a name
variable-name : (text : List ℕ) (m : ℕ) (c : Gallery) (is_mutable : Bool) (at : ℕ) {s : Stmt Span} {next : ℕ} → parse_variable_declaration text m c is_mutable at ≡ ok s next
    → (n : Span) × (k : ℕ) × (parse_name text at ≡ ok n k)
unfolding parse_variable_declaration
variable-name text m c is_mutable at {s} {next} e = by_name (parse_name text at) refl
  where
    by_name : (r : Answer Span) → parse_name text at ≡ r → (n : Span) × (k : ℕ) × (parse_name text at ≡ ok n k)
    by_name (ok n k) h = (n, k, h)
    by_name Answer.none h = let q : refused 2 at ≡ ok s next = sym (after-none _ _ _ h) ∙ e in impossible (cc)
    by_name (refused number place) h = let q : refused number place ≡ ok s next = sym (after-refused _ _ _ h) ∙ e in impossible (cc)

module _ (depth : ℕ) {p q : Parser} {len : ℕ} {lead : Lead} {n : Name} (s : Spelt p len)
    (e : lead ≡ lead_of (take len (drop p.at p.text.now))) (w : Passing_word len p q n) (k : Lead) (h : lead ≡ k) where
  -- the word has its bytes
  long : lead_least k ≤ len
  unfolding lead_of
  long =
      let m = word-long p.text.now p.at len s.inside in
      let l : lead_least k ≤ length (take len (drop p.at p.text.now)) = classed-long lead_least leads NameLead _ refl (omega (arith, m, s.filled)) (sym h ∙ e) in
      omega arith

  -- what is left is the rule after its lead
  rest : opening parse_stmt depth p.text.now p.at ≡ lead_rule k depth (span n) p.text.now q.at
  rest =
      word-stmt p.text.now depth p.at s.measured s.filled lead e w.named.start_is w.named.says
      ∙ ap (λ k. lead_rule k depth (span n) p.text.now q.at) h

  pub led : Place (opening parse_stmt depth p.text.now p.at) 0 p q q.at (lead_least k) (0 + 2 * lead_least k) (lead_rule k depth (span n) p.text.now q.at) []
  led = word-passed (lead_least k) _ w.named no_credit (omega (arith, long, w.named.low, w.named.start_is, w.len_is)) rest

  -- where a declaration follows there is a blank before it
  pub declared : (is_mutable : Bool) {s : Stmt Span} {next : ℕ}
      → parse_variable_declaration q.text.now (turns q.text.now) (opened depth q.text.now) is_mutable q.at ≡ ok s next → leb 3 (lead_least k) ≡ true
      → Place (opening parse_stmt depth p.text.now p.at) 0 p q q.at 4 8 (lead_rule k depth (span n) p.text.now q.at) []
  declared is_mutable d l =
      let b = leb-true _ _ l in
      let (m, next, d) = variable-name _ _ _ is_mutable _ d in
      let d : parse_name p.text.now q.at ≡ ok m next = says-of parse_name w.named.went.later d in
      let g = word-apart p.text.now p.at len q.at s.measured s.filled (omega (arith, w.named.low, w.named.start_is, w.len_is)) d in
      word-passed 4 _ w.named no_credit (omega (arith, long, g)) rest
