-- A table's naturals keep the limit, since each has two words; and where a derivation's tree has no natural past the limit, its tokens have none.
use Rattle.std.specs.Prelude.{ℕ, suc, ◌/◌, ◌^◌, ◌≤◌, ◌<◌, ◌≡◌, refl, Bool, true, false, ◌&&◌, List, [], ◌∷◌, ◌++◌, leb, get_or}
use Rattle.std.proofs.Common.{subst, arith, le-leb}
use Rattle.lexing.specs.Tokens.{most_natural}
use Rattle.tree.specs.Ast.{Expr, BLiteral, ILiteral, CustomLiteral, IdExpr, OperatorExpr, FunctionCallExpr, LabeledExpr, LetExpr, QuantifierExpr, ClosureExpr}
use Rattle.tree.specs.Ast.{Exprs, no_exprs, ◌then◌}
use Rattle.tree.specs.Resolve.{map_expr, map_exprs}
use Rattle.tree.specs.Words.{expr_words, exprs_words}
use Rattle.tree.specs.Check.{NameIn}
use Rattle.tree.specs.Kind.{expr}
use Rattle.tree.specs.Trees.{names_in}
use Rattle.tree.specs.Walk.{words_append}
use Rattle.grammar.specs.Tokens.{Token, name, nat, mark, sign, illegal, rparen, comma}
use Rattle.grammar.specs.Grammar.{Tree, Build, straight, swapped, build, as_unary, as_binary, unary, binary, Whole}
use Rattle.grammar.specs.OperatorTrees.{small_naturals}
use Rattle.grammar.proofs.Laws.Every.{Invariant, whole-kept, WordOrSign, word-or-sign}

-- each natural of an operator tree is at most 18446744073709551615; other trees are not looked into
abbrev mutual
  pub SmallTree : Tree → Type 0
  SmallTree (BLiteral b) = Unit {0}
  SmallTree (ILiteral n) = n ≤ most_natural
  SmallTree (CustomLiteral s t) = Unit {0}
  SmallTree (IdExpr w o) = Unit {0}
  SmallTree (OperatorExpr op es) = SmallTrees es
  SmallTree (FunctionCallExpr w es) = SmallTrees es
  SmallTree (LabeledExpr w t) = Unit {0}
  SmallTree (LetExpr w y t u) = Unit {0}
  SmallTree (QuantifierExpr u bs ps t) = Unit {0}
  SmallTree (ClosureExpr bs w y ps) = Unit {0}

  pub SmallTrees : Exprs (List ℕ) → Type 0
  SmallTrees no_exprs = Unit {0}
  SmallTrees (◌then◌ t es) = SmallTree t × SmallTrees es

and_assoc : (a b c : Bool) → (a && (b && c)) ≡ ((a && b) && c)
and_assoc true b c = refl
and_assoc false b c = refl

small-append : (ts us : List Token) → small_naturals (ts ++ us) ≡ (small_naturals ts && small_naturals us)
unfolding small_naturals
small-append [] us = refl
small-append (name w ∷ ts) us = small-append ts us
small-append (nat n ∷ ts) us = rw (small-append ts us) (and_assoc (leb n most_natural) (small_naturals ts) (small_naturals us))
small-append (mark k ∷ ts) us = small-append ts us
small-append (sign g ∷ ts) us = small-append ts us
small-append (illegal ∷ ts) us = small-append ts us

-- an operator is no natural
small-operator : (o : Token) (ts : List Token) → WordOrSign o → small_naturals (o ∷ ts) ≡ small_naturals ts
unfolding small_naturals
small-operator (name w) ts x = refl
small-operator (nat n) ts x = absurd x
small-operator (mark k) ts x = refl
small-operator (sign g) ts x = refl
small-operator illegal ts x = refl

-- the operands of an operator, in the order of the text
operands-small : (b : Build) (t u : Tree) → SmallTree (build b t u) → SmallTree t × SmallTree u
operands-small (straight op) t u s = (s.0, s.1.0)
operands-small (swapped op) t u s = (s.1.0, s.0)

naturals-kept : Invariant (λ ts t. SmallTree t → small_naturals ts ≡ true) (λ ts es. SmallTrees es → small_naturals ts ≡ true)
unfolding small_naturals unary binary
naturals-kept =
    record {
      false-kept = λ s. refl;
      true-kept = λ s. refl;
      nat-kept = λ n s. rw (le-leb n most_natural s) refl;
      name-kept = λ w n s. refl;
      old-kept = λ w s. refl;
      call_kept = λ w ts es n h s. rw (small-append ts (mark rparen ∷ []), h s) refl;
      bracket-kept = λ ts t h s. rw (small-append ts (mark rparen ∷ []), h s) refl;
      empty-kept = λ s. refl;
      last-kept = λ ts t h s. h s.0;
      also_kept = λ ts us t es h i s. rw (small-append ts (mark comma ∷ us), h s.0) (i s.1);
      unary_kept = λ o op ts t l h s. rw (small-operator o ts (word-or-sign as_unary refl o l)) (h s.0);
      binary-kept = λ o c b ts us t u l h i s.
          let (x, y) = operands-small b t u s in rw (small-append ts (o ∷ us), h x, small-operator o us (word-or-sign as_binary refl o l)) (i y);
    }

pub derived-small : (d : ℕ) (ts : List Token) (t : Tree) → Whole d ts t → SmallTree t → small_naturals ts ≡ true
derived-small = whole-kept naturals-kept

-- ---- the naturals of a table

-- what is known of every table that is lent to the code: its words have 32 bits
abbrev pub Words32 : List ℕ → Type 0
Words32 words = (i : ℕ) → get_or words i 0 < 2 ^ 32

-- the words after others
later-words : (ws rest : List ℕ) → Words32 (ws ++ rest) → Words32 rest
later-words [] rest h = h
later-words (w ∷ ws) rest h = later-words ws rest (λ i. h (suc i))

-- a natural in two words keeps the limit
natural-small : (n : ℕ) → n / 2 ^ 32 < 2 ^ 32 → n ≤ most_natural
natural-small n h = omega arith

module _ {len : ℕ} (name : NameIn len → List ℕ) where
  -- an item of a list stands before the others
  mutual
    pub words_small : (e : Expr (NameIn len)) (rest : List ℕ) → Words32 (expr_words (λ n. n.span) e rest) → SmallTree (map_expr name e)
    words_small (BLiteral b) rest h = tt
    words_small (ILiteral n) rest h = natural-small n (h 1)
    words_small (CustomLiteral s t) rest h = tt
    words_small (IdExpr n o) rest h = tt
    words_small (OperatorExpr op es) rest h = all-words-small es rest (λ i. h (suc (suc i)))
    words_small (FunctionCallExpr n es) rest h = all-words-small es rest (λ i. h (suc (suc (suc i))))
    words_small (LabeledExpr n e) rest h = tt
    words_small (LetExpr n t d e) rest h = tt
    words_small (QuantifierExpr u bs ps e) rest h = tt
    words_small (ClosureExpr bs n t ps) rest h = tt

    all-words-small : (es : Exprs (NameIn len)) (rest : List ℕ) → Words32 (exprs_words (λ n. n.span) es rest) → SmallTrees (map_exprs name es)
    all-words-small no_exprs rest h = tt
    all-words-small (◌then◌ e es) rest h =
        let more = exprs_words (λ (n : NameIn len). n.span) es rest in
        let after : Words32 (expr_words (λ n. n.span) e more) = λ i. h (suc i) in (
          words_small e more after,
          all-words-small es rest
              (later-words (expr_words (λ n. n.span) e []) more (subst Words32 (words_append (names_in len) expr e more) after)),
        )
