-- The word that begins a declaration: words that are tried one after another.
use Rattle.std.proofs.Common.{ℕ, suc, ◌+◌, ◌<◌, ◌≡◌, ◌∙◌, refl, ap, subst, List, [], ◌∷◌, length, drop, get_or, Bor, true, leb, Option, Result, arith}
use Rattle.std.proofs.lemmas.Bool.{leb-true}
use Rattle.std.proofs.lemmas.List.{drop_more}
use Rattle.std.specs.Result.{IsErrAnd}
use Rattle.std.proofs.lemmas.Result.{err_from_is_err_and}
use Rattle.lexing.specs.Answer.{Answer, ok, refused}
use Rattle.lexing.specs.Bytes.{same_bytes}
use Rattle.lexing.specs.CodeAnswers.{number}
use Rattle.lexing.specs.Tokens.{identifier_length, keyword}
use Rattle.lexing.specs.declared.refusal.Refusal.{Refusal}
use Rattle.tree.specs.Ast.{Span, Program}
use Rattle.tree.specs.Clash.{impossible}
use Rattle.grammar.specs.Steps.{after, need, mapped, ◌or◌}
use Rattle.grammar.specs.StepLaws.{after-after}
use Rattle.grammar.specs.Statements.{rep}
use Rattle.grammar.specs.Declarations.{TopLevelDecl, declarations, declare, SeparateTopLevelDecls, parse_top_level_decl, after_type, after_tagger, after_function, after_axiom, after_procedure}
use Rattle.parsing.specs.Contract.{Rule, word, Took, Missing}
use Rattle.parsing.specs.Declarations.{kind_rule, Begun, Begins, decl_rule, top_level}
use Rattle.parsing.specs.Code.{opening}
use Rattle.parsing.specs.declared.parser.Parser.{Parser}
use Rattle.parsing.specs.declared.program.DeclKind.{DeclKind}
use Rattle.parsing.specs.declared.program.DeclKind.TheVariants.{Types, Taggers, Functions, Axioms, Procedures}
use Rattle.parsing.proofs.Laws.{after-ok, after-none, after-refused}

pub begins_err : (rule : Rule DeclKind) (p q : Parser) (r : Result (Option DeclKind) Refusal) (e : Refusal) → IsErrAnd r (λ y. y ≡ e)
    → rule p.text.now p.at ≡ refused (number e.reason) e.place → Begins rule p q r
begins_err rule p q r e h s = let p = err_from_is_err_and r h in rw (p.1, p.2) s

abbrev Word : Type 0
Word = Bor (List ℕ) × DeclKind

-- the first of the words that stands, and its kind
abbrev words_rule : List Word → Rule DeclKind
words_rule [] text at = Answer.none
words_rule ((w, s) ∷ ws) text at = after (word w.now text at) (words_rule ws text at) (λ _ at₁. ok s at₁)

-- each has four bytes at least
abbrev Long : List Word → Type 0
Long [] = Unit {0}
Long ((w, s) ∷ ws) = (leb 4 (length w.now) ≡ true) × Long ws

-- the words before these do not stand
pub record Seeking (p q : Parser) (ws : List Word) : Type 0 where
  pub same : q ≡ p
  pub says : kind_rule p.text.now p.at ≡ words_rule ws p.text.now p.at
  pub long : Long ws

module _ {p q : Parser} (ws : List Word) (i : ℕ) (d : Word) (h : i < length ws) (s : Seeking p q (drop i ws)) where
  -- the next word
  abbrev w : Word
  w = get_or ws i d

  here : Seeking p q (w ∷ drop (i + 1) ws)
  here = subst (Seeking p q) (drop_more ws i d h) s

  -- it does not stand
  pub seeking-next : {r : Parser} → Missing (word w.0.now) q r → Seeking p r (drop (i + 1) ws)
  seeking-next m =
      record {
        same = m.same ∙ here.same;
        says = here.says ∙ after-none _ _ _ (rw here.same at m.says);
        long = here.long.1;
      }

  -- it does
  pub found : {r : Parser} → Took (word w.0.now) (length w.0.now) q r → Begun kind_rule p r w.1
  found {r = r} t =
      let t : Took (word w.0.now) (length w.0.now) p r = rw here.same at t in
      let l = leb-true _ _ here.long.0 in
      record {
        says = here.says ∙ after-ok _ _ _ t.says;
        went = record { later = t.went.later; onward = omega (arith, t.went.onward); paid = t.went.paid };
        top_same = t.top_same;
      }

  -- it is refused
  pub found-refused : {number place : ℕ} → word w.0.now q.text.now q.at ≡ refused number place → kind_rule p.text.now p.at ≡ refused number place
  found-refused e = here.says ∙ after-refused _ _ _ (rw here.same at e)

-- no word is left
pub none-found : {p q : Parser} → Seeking p q [] → Missing kind_rule p q
none-found s = record { says = s.says; same = s.same }

-- where no word stands, none of them does
pub no-kind : (p : Parser) → identifier_length (drop p.at p.text.now) ≡ 0 → Missing kind_rule p p
unfolding after keyword same_bytes
no-kind p e = record { says = rw e refl; same = refl }

-- ---- a declaration by its kind

abbrev Keeps : {A : Type 0} → Answer A → Type 0
Keeps r = r ≡ Answer.none → ⊥

ok-keeps : {A : Type 0} (a : A) (n : ℕ) → Keeps (ok a n)
ok-keeps a n e = impossible cc

need-keeps : {A B : Type 0} (at : ℕ) (r : Answer A) (go : A → ℕ → Answer B) → ((a : A) (n : ℕ) → Keeps (go a n)) → Keeps (need at r go)
unfolding after
need-keeps at (ok a n) go k e = k a n e
need-keeps at Answer.none go k e = impossible cc
need-keeps at (refused a b) go k e = impossible cc

mapped-keeps : {A B : Type 0} (f : A → B) (r : Answer A) → Keeps r → Keeps (mapped f r)
unfolding after
mapped-keeps f (ok a n) k e = impossible cc
mapped-keeps f Answer.none k e = k refl
mapped-keeps f (refused a b) k e = impossible cc

-- each declaration keeps something after its word
decl-keeps : (s : DeclKind) (depth : ℕ) (text : List ℕ) (at : ℕ) → Keeps (decl_rule s depth text at)
unfolding after_type after_tagger after_function after_axiom after_procedure
decl-keeps Types depth text at = need-keeps _ _ _ ok-keeps
decl-keeps Taggers depth text at = need-keeps _ _ _ (λ n at₁. need-keeps _ _ _ (λ _ at₂. need-keeps _ _ _ (λ t at₃. ok-keeps _ _)))
decl-keeps Functions depth text at =
    need-keeps _ _ _
    (λ n at₁. need-keeps _ _ _
    (λ _ at₂. need-keeps _ _ _
    (λ ps at₃. need-keeps _ _ _
    (λ _ at₄. need-keeps _ _ _ (λ t at₅. need-keeps _ _ _ (λ g at₆. need-keeps _ _ _ (λ d at₇. ok-keeps _ _)))))))
decl-keeps Axioms depth text at = need-keeps _ _ _ (λ ns at₁. need-keeps _ _ _ ok-keeps)
decl-keeps Procedures depth text at =
    need-keeps _ _ _
    (λ n at₁. need-keeps _ _ _
    (λ _ at₂. need-keeps _ _ _ (λ ps at₃. need-keeps _ _ _ (λ pre at₄. need-keeps _ _ _ (λ post at₅. need-keeps _ _ _ (λ b at₆. ok-keeps _ _))))))

-- a branch by its word, and the branches after it
module _ {C : Type 0} (go : DeclKind → ℕ → Answer C) (s : DeclKind) where
  kept-or : (a y : Answer C) → Keeps a → a or y ≡ a
  unfolding after
  kept-or (ok c n) y k = refl
  kept-or Answer.none y k = absurd (k refl)
  kept-or (refused a b) y k = refl

  or-kind : (r : Answer ℕ) (x : Answer DeclKind) {y : Answer C} → ((n : ℕ) → Keeps (go s n)) → y ≡ after x Answer.none go
      → after r Answer.none (λ _ n. go s n) or y ≡ after (after r x (λ _ n. ok s n)) Answer.none go
  unfolding after
  or-kind (ok v n) x k e = kept-or (go s n) _ (k n)
  or-kind Answer.none x k e = e
  or-kind (refused a b) x k e = refl

  last-kind : (r : Answer ℕ) → after r Answer.none (λ _ n. go s n) ≡ after (after r Answer.none (λ _ n. ok s n)) Answer.none go
  unfolding after
  last-kind (ok v n) = refl
  last-kind Answer.none = refl
  last-kind (refused a b) = refl

module _ (depth : ℕ) (text : List ℕ) where
  abbrev after_word : DeclKind → ℕ → Answer TopLevelDecl
  after_word s at = mapped (top_level s) (decl_rule s depth text at)

  declaration-is : (at : ℕ) → opening parse_top_level_decl depth text at ≡ after (kind_rule text at) Answer.none after_word
  unfolding parse_top_level_decl
  declaration-is at =
      or-kind after_word Types _ _ (keeps Types)
      (or-kind after_word Taggers _ _ (keeps Taggers)
      (or-kind after_word Functions _ _ (keeps Functions) (or-kind after_word Axioms _ _ (keeps Axioms) (last-kind after_word Procedures _))))
    where
      keeps : (s : DeclKind) (n : ℕ) → Keeps (after_word s n)
      keeps s n = mapped-keeps (top_level s) _ (decl-keeps s depth text n)

  -- ---- a turn

  -- the program that is left, with so many turns
  abbrev pub rest : ℕ → ℕ → Answer (Program Span)
  rest k at = mapped SeparateTopLevelDecls (rep declarations k (opening parse_top_level_decl depth text) at)

  module _ (more : Program Span → Program Span) (k at : ℕ) where
    abbrev none-left : Answer (Program Span)
    none-left = ok (more (SeparateTopLevelDecls [])) at

    one-more : (r : Answer TopLevelDecl) → mapped more (mapped SeparateTopLevelDecls (after r (ok [] at) (λ d n. mapped (◌∷◌ d) (rep declarations k (opening parse_top_level_decl depth text) n))))
        ≡ after r none-left (λ d n. mapped (λ p. more (declare d p)) (rest k n))
    unfolding after SeparateTopLevelDecls
    one-more (ok d n) = by-rest (rep declarations k (opening parse_top_level_decl depth text) n)
      where
        by-rest : (r : Answer (List TopLevelDecl)) → mapped more (mapped SeparateTopLevelDecls (mapped (◌∷◌ d) r)) ≡ mapped (λ p. more (declare d p)) (mapped SeparateTopLevelDecls r)
        by-rest (ok l m) = refl
        by-rest Answer.none = refl
        by-rest (refused a b) = refl
    one-more Answer.none = refl
    one-more (refused a b) = refl

    by-kind : (r : Answer DeclKind) (K : TopLevelDecl → ℕ → Answer (Program Span)) → after (after r Answer.none after_word) none-left K
        ≡ after r none-left (λ s n. after (decl_rule s depth text n) none-left (λ d m. K (top_level s d) m))
    unfolding after
    by-kind (ok s n) K = after-after (decl_rule s depth text n) Answer.none (λ d m. ok (top_level s d) m) none-left K
    by-kind Answer.none K = refl
    by-kind (refused a b) K = refl

    -- a declaration by its word, and what is left after it
    pub turn-is : mapped more (rest (suc k) at)
        ≡ after (kind_rule text at) none-left
        (λ s n. after (decl_rule s depth text n) none-left (λ d m. mapped (λ p. more (declare (top_level s d) p)) (rest k m)))
    unfolding rep
    turn-is = one-more (opening parse_top_level_decl depth text at) ∙ ap (λ r. after r none-left (λ d n. mapped (λ p. more (declare d p)) (rest k n))) (declaration-is at) ∙ by-kind (kind_rule text at) _
