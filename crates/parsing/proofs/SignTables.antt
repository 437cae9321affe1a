-- Tables of operators, whose spellings are tried one after another, and the grammar's rules as tables.
use Rattle.std.proofs.Common.{ℕ, ◌+◌, ◌<◌, ◌≤◌, ◌≡◌, ◌∙◌, refl, sym, ap, subst, List, [], ◌∷◌, length, drop, get_or, Option, Some, None, Result, Ok, Err, true, false, arith}
use Rattle.std.proofs.lemmas.List.{drop_more}
use Rattle.std.specs.Option.{is_some}
use Rattle.lexing.specs.Answer.{Answer, ok, refused}
use Rattle.lexing.specs.declared.refusal.Refusal.{Refusal}
use Rattle.grammar.specs.Steps.{after, mapped, ◌or◌}
use Rattle.parsing.specs.Contract.{Rule, Took, Missing}
use Rattle.parsing.specs.Signs.{build_of, Operated, Operates, level_rule, spelt, size, table_rule, Filled, Tabled}
use Rattle.parsing.specs.declared.parser.Parser.{Parser}
use Rattle.parsing.specs.declared.sign.Level.{Level}
use Rattle.parsing.specs.declared.sign.Sign.{Sign}
use Rattle.parsing.specs.declared.sign.Spelling.{Spelling}
use Rattle.parsing.proofs.Laws.{after-ok, after-none, after-refused}

-- ---- the spellings of a table, one after another

-- those before the rest do not stand
pub record Trying {T : Type 0} (table rest : List (Spelling × T)) (p q : Parser) : Type 0 where
  pub same : q ≡ p
  pub says : table_rule table p.text.now p.at ≡ table_rule rest p.text.now p.at
  pub filled : Filled rest

module _ {T : Type 0} {table : List (Spelling × T)} {p q : Parser} (es : List (Spelling × T)) (i : ℕ) (h : i < length es) (s : Trying table (drop i es) p q)
    {e : Spelling × T} (is : e ≡ get_or es i e) where
  -- the next entry
  here : Trying table (e ∷ drop (i + 1) es) p q
  here = subst (λ rest. Trying table rest p q) (drop_more es i e h ∙ ap (λ d. d ∷ drop (i + 1) es) (sym is)) s

  pub next-filled : 1 ≤ size e.0
  next-filled = here.filled.0

  -- it does not stand
  pub trying-next : {r : Parser} → Missing (spelt e.0) q r → Trying table (drop (i + 1) es) p r
  unfolding table_rule
  trying-next m =
      record {
        same = m.same ∙ here.same;
        says = here.says ∙ after-none _ _ _ (after-none _ _ _ (rw here.same at m.says));
        filled = here.filled.1;
      }

  -- it does
  pub tried : {r : Parser} → Took (spelt e.0) (size e.0) q r → Operated (λ v. v) (table_rule table) p r e.1
  unfolding table_rule
  tried {r = r} t =
      let t : Took (spelt e.0) (size e.0) p r = rw here.same at t in
      record {
        says = here.says ∙ after-ok _ _ _ (after-ok _ _ _ t.says);
        went = record { later = t.went.later; onward = omega (arith, t.went.onward, here.filled.0); paid = t.went.paid };
        top_same = t.top_same;
      }

  -- it is refused
  pub tried-refused : {number place : ℕ} → spelt e.0 q.text.now q.at ≡ refused number place
      → table_rule table p.text.now p.at ≡ refused number place
  unfolding table_rule
  tried-refused r = here.says ∙ after-refused _ _ _ (after-refused _ _ _ (rw here.same at r))

-- none is left
pub none-tried : {T : Type 0} {table : List (Spelling × T)} {p q : Parser} → Trying table [] p q → Missing (table_rule table) p q
unfolding table_rule
none-tried s = record { says = s.says; same = s.same }

-- ---- rules as tables

-- what stands beside the first spelling that is read, where nothing is tried after the last
abbrev pub signs_rule : {B C : Type 0} → (C → B) → List (Spelling × C) → Rule B
signs_rule f [] text at = Answer.none
signs_rule f (s ∷ []) text at = mapped (λ _. f s.1) (spelt s.0 text at)
signs_rule f (s ∷ t ∷ ss) text at = mapped (λ _. f s.1) (spelt s.0 text at) or signs_rule f (t ∷ ss) text at

module _ {B C : Type 0} (f : C → B) (text : List ℕ) (at : ℕ) where
  mapped-next : (c : C) (r : Answer ℕ) (rest : Answer C) → mapped (λ _. f c) r or mapped f rest ≡ mapped f (mapped (λ _. c) r or rest)
  unfolding after
  mapped-next c (ok v n) rest = refl
  mapped-next c Answer.none rest = refl
  mapped-next c (refused a b) rest = refl

  mapped-last : (c : C) (r : Answer ℕ) → mapped (λ _. f c) r ≡ mapped f (mapped (λ _. c) r or Answer.none)
  unfolding after
  mapped-last c (ok v n) = refl
  mapped-last c Answer.none = refl
  mapped-last c (refused a b) = refl

  -- a table reads as the rule of its signs
  pub table-reads : (ss : List (Spelling × C)) → signs_rule f ss text at ≡ mapped f (table_rule ss text at)
  unfolding after table_rule
  table-reads [] = refl
  table-reads (s ∷ []) = mapped-last s.1 (spelt s.0 text at)
  table-reads (s ∷ t ∷ ss) =
      ap (λ r. mapped (λ _. f s.1) (spelt s.0 text at) or r) (table-reads (t ∷ ss)) ∙ mapped-next s.1 (spelt s.0 text at) (table_rule (t ∷ ss) text at)

-- two signs at a time
pub or-pairs : {A : Type 0} (a b c d r : Answer A) → (a or b) or (c or d) or r ≡ a or b or c or d or r
unfolding after
or-pairs (ok a n) b c d r = refl
or-pairs (refused i j) b c d r = refl
or-pairs Answer.none (ok b n) c d r = refl
or-pairs Answer.none (refused i j) c d r = refl
or-pairs Answer.none Answer.none (ok c n) d r = refl
or-pairs Answer.none Answer.none (refused i j) d r = refl
or-pairs Answer.none Answer.none Answer.none d r = refl

pub mapped-operates : {B C : Type 0} (f : C → B) (rule : Rule B) (other : Rule C) (p q : Parser) (r : Result (Option C) Refusal)
    → rule p.text.now p.at ≡ mapped f (other p.text.now p.at) → Operates (λ c. c) other p q r → Operates f rule p q r
mapped-operates f rule other p q (Ok (Some c)) e o = record { says = e ∙ after-ok _ _ _ o.says; went = o.went; top_same = o.top_same }
mapped-operates f rule other p q (Ok None) e o = record { says = e ∙ after-none _ _ _ o.says; same = o.same }
mapped-operates f rule other p q (Err d) e o = e ∙ after-refused _ _ _ o

-- a level's rule is that of its table's signs
pub tabled : (level : Level) (ss : List (Spelling × Sign)) → ((text : List ℕ) → (at : ℕ) → level_rule level text at ≡ signs_rule build_of ss text at) → Filled ss
    → Tabled level ss
tabled level ss e f = record { reads = λ text at. e text at ∙ table-reads build_of text at ss; filled = f }

-- a rule that is that of a table's signs is read by the table
pub operates-as : {B C : Type 0} (f : C → B) (rule : Rule B) (ss : List (Spelling × C)) (p q : Parser) (r : Result (Option C) Refusal)
    → Operates (λ c. c) (table_rule ss) p q r → rule p.text.now p.at ≡ signs_rule f ss p.text.now p.at → Operates f rule p q r
operates-as f rule ss p q r o e = mapped-operates f rule (table_rule ss) p q r (e ∙ table-reads f p.text.now p.at ss) o

-- an operator that stands, or does not, by the test of an option
pub operator-stood : {B C : Type 0} (of : C → B) (rule : Rule B) (p q : Parser) (r : Option C) → Operates of rule p q (Ok r) → is_some r ≡ true
    → (c : C) × Operated of rule p q c
operator-stood of rule p q (Some c) o e = (c, o)
operator-stood of rule p q None o e = cc

pub operator-absent : {B C : Type 0} (of : C → B) (rule : Rule B) (p q : Parser) (r : Option C) → Operates of rule p q (Ok r) → is_some r ≡ false
    → Missing rule p q
operator-absent of rule p q (Some c) o e = cc
operator-absent of rule p q None o e = o
