-- Each rule of a gallery (Statements.antt) keeps a token exactly where the rule with no level left does.
use Prim.Native.Nat.{ℕ, zero, suc}
use Prim.Native.String.{String}
use Rattle.std.specs.Prelude.{◌≡◌, ◌&&◌, ◌||◌, drop}
use Rattle.std.proofs.Math.Path.{refl}
use Rattle.std.proofs.Common.{sym}
use Rattle.std.proofs.Math.Bool.{Bool, true, false, or-true, or_assoc, or_comm}
use mathlib.Core.List.{List, [], ◌∷◌}
use Rattle.lexing.specs.Answer.{Answer, ok, refused}
use Rattle.lexing.specs.Bytes.{bytes}
use Rattle.tree.specs.Ast.{Span}
use Rattle.grammar.specs.Steps.{Reader, after, mapped, T, Sym, parse_name}
use Rattle.grammar.specs.Rules as expressions
use Rattle.grammar.specs.Rules.{opens_expr}
use Rattle.grammar.specs.Statements as rules
use Rattle.grammar.specs.Statements.{Gallery}
use Rattle.grammar.specs.ClaimTerms.{GalleriesKeptAlike}
use Rattle.grammar.proofs.Depth.Answers.{Keeps, keeps, refuses, nothing, kept, tested, alike, led, either, picked, is_named, is_word, word_keeps}
use Rattle.grammar.proofs.Depth.Expressions.{always, equiv-keeps}

-- with associativity and commutativity, two orders of one choice are the same
or_swap : (a b c : Bool) → (a || (b || c)) ≡ (b || (a || c))
or_swap true b c = sym (or-true b)
or_swap false b c = refl

-- the tests of a statement's branches, in their order: each word's, `{`, and a name's with each of its marks
abbrev branches : (String → Bool) → Bool → Bool → Bool → Bool → Bool
branches word brace assigned labelled called =
    word "var" || (word "val" || (word "reinit" || (word "exit" || (word "return" || (word "check" || (word "assume" || (word "reach" || (word "assert"
    || (word "probe" || (word "forall" || (brace || (word "choose" || (word "if" || (word "loop" || (assigned || (labelled || called))))))))))))))))

-- one of the words
abbrev any_of : List String → (String → Bool) → Bool
any_of [] word = false
any_of (w ∷ ws) word = word w || any_of ws word

-- the words are those that begin a statement
branches-test : (word : String → Bool) (brace assigned labelled called : Bool)
    → branches word brace assigned labelled called ≡ (brace || (any_of rules.statement_words word || (assigned || (labelled || called))))
branches-test word brace assigned labelled called = simp (or_assoc, or_comm, or_swap)

-- a name stands, and after it what the test finds
abbrev marked : Answer Span → (ℕ → Bool) → Bool
marked (ok n next) test = test next
marked Answer.none test = false
marked (refused number place) test = true

-- one of three marks
marked-or : (r : Answer Span) (t u v : ℕ → Bool) → (marked r t || (marked r u || marked r v)) ≡ marked r (λ at. t at || (u at || v at))
marked-or (ok n next) t u v = refl
marked-or Answer.none t u v = refl
marked-or (refused number place) t u v = refl

module _ (text : List ℕ) where
  -- the tests of words and signs
  abbrev word : ℕ → String → Bool
  word at w = kept (T text w at)

  abbrev sign : String → ℕ → Bool
  sign w at = kept (Sym text w at)

  -- what begins a statement: a brace, one of the words, or a name with its mark
  abbrev opens_stmt : ℕ → Bool
  opens_stmt at = sign "{" at || (any_of rules.statement_words (word at) || marked (parse_name text at) (λ at. sign ":=" at || (sign ":" at || sign "(" at)))

  -- the rules of a gallery keep a token exactly where it begins them
  pub record Opened (c : Gallery) : Type 0 where
    pub expr : (at : ℕ) → Keeps (opens_expr (drop at text)) (c.expr at)
    pub block : (at : ℕ) → Keeps (sign "{" at) (c.block at)
    pub stmt : (at : ℕ) → Keeps (opens_stmt at) (c.stmt at)
    pub if_cont : (at : ℕ) → Keeps (opens_expr (drop at text)) (c.if_cont at)
    pub loop : (at : ℕ) → Keeps (word at "loop") (c.loop at)

  -- one of the words, a name with a mark, and the three marks
  word_of-keeps : (ws : List String) (at : ℕ) → Keeps (any_of ws (word at)) (rules.word_of text ws at)
  unfolding rules.word_of
  word_of-keeps [] at = nothing
  word_of-keeps (w ∷ ws) at = either (tested (T text w at)) (word_of-keeps ws at)

  atomic-keeps : {test : ℕ → Bool} (mark : Reader ℕ) → ((at : ℕ) → Keeps (test at) (mark at)) → (at : ℕ)
      → Keeps (marked (parse_name text at) test) (rules.atomic text mark at)
  unfolding rules.atomic after
  atomic-keeps {test} mark h at = by_name (parse_name text at)
    where
      by_name : (r : Answer Span) → Keeps (marked r test) (after r Answer.none (λ n at₁. mapped (λ _. n) (mark at₁)))
      by_name (ok n next) = led (λ _ _. keeps) (h next)
      by_name Answer.none = nothing
      by_name (refused number place) = refuses

  mark-keeps : (at : ℕ) → Keeps (sign ":=" at || (sign ":" at || sign "(" at)) (rules.mark text at)
  unfolding rules.mark
  mark-keeps at = search (either, tested)

  -- `case` is a name, which begins an expression
  case-opens : (at : ℕ) → (is_word (bytes "case") (drop at text) || opens_expr (drop at text)) ≡ opens_expr (drop at text)
  unfolding opens_expr
  case-opens at = by_name (is_named (drop at text)) _ _
    where
      by_name : (named same other : Bool) → (named && same || (named || other)) ≡ (named || other)
      by_name true same other = or-true same
      by_name false same other = refl

  -- a level above one whose rules do
  module _ (m : ℕ) {c : Gallery} (k : Opened c) where
    block-keeps : (at : ℕ) → Keeps (sign "{" at) (rules.parse_block text m c at)
    unfolding rules.parse_block
    block-keeps at = search (led, tested, always)

    stmt-keeps : (at : ℕ) → Keeps (opens_stmt at) (rules.parse_stmt text m c at)
    unfolding rules.parse_stmt
    stmt-keeps at =
        let follows : String → Bool = λ w. marked (parse_name text at) (sign w) in
        rw (← marked-or (parse_name text at) (sign ":=") (sign ":") (sign "("), ← branches-test (word at) (sign "{" at) (follows ":=") (follows ":") (follows "("))
        (search (either, led, tested, k.block, k.loop, atomic-keeps, always) depth 40 fits 10000)

    if_cont-keeps : (at : ℕ) → Keeps (opens_expr (drop at text)) (rules.parse_if_cont text m c at)
    unfolding rules.parse_if_cont rules.parse_case
    if_cont-keeps at = rw (← case-opens at) (search (either, led, word_keeps text at, k.expr, always) depth 20)

    loop-keeps : (at : ℕ) → Keeps (word at "loop") (rules.parse_loop text m c at)
    unfolding rules.parse_loop
    loop-keeps at = search (led, tested, always)

  -- ---- depth

  -- refusal 3 where a token is kept
  deep-keeps : {A B : Type 0} {b : Bool} {r : Answer A} (at : ℕ) → Keeps b r → Keeps b (rules.too_deep {B = B} at r)
  unfolding rules.too_deep
  deep-keeps at keeps = refuses
  deep-keeps at refuses = refuses
  deep-keeps at nothing = nothing

  -- and where a name and its mark are
  deep_name-keeps : {B : Type 0} (at : ℕ) → Keeps (marked (parse_name text at) (λ at. sign ":=" at || (sign ":" at || sign "(" at)))
      (after (parse_name text at) Answer.none (λ _ at₁. rules.too_deep {B = B} at (rules.mark text at₁)))
  unfolding after
  deep_name-keeps {B} at = by_name (parse_name text at)
    where
      by_name : (r : Answer Span) → Keeps (marked r (λ at. sign ":=" at || (sign ":" at || sign "(" at))) (after r Answer.none (λ _ at₁. rules.too_deep {B = B} at (rules.mark text at₁)))
      by_name (ok n next) = deep-keeps at (mark-keeps next)
      by_name Answer.none = nothing
      by_name (refused number place) = refuses

  -- where no level is left
  opened-none : (n : ℕ) → Opened (rules.gallery text n zero)
  unfolding rules.gallery expressions.parse_expr
  opened-none n =
      record {
        expr = λ at. picked (opens_expr (drop at text)) refuses;
        block = λ at. deep-keeps at (tested _);
        stmt = λ at. either (deep-keeps at (tested _)) (either (deep-keeps at (word_of-keeps rules.statement_words at)) (deep_name-keeps at));
        if_cont = λ at. picked (opens_expr (drop at text)) refuses;
        loop = λ at. deep-keeps at (tested _);
      }

  -- The rules with any number of levels left keep a token exactly where it begins them.
  pub opened : (n d : ℕ) → Opened (rules.gallery text (suc n) d)
  unfolding rules.gallery expressions.parse_expr
  opened n zero = opened-none (suc n)
  opened n (suc d) =
      record {
        expr = equiv-keeps text n (expressions.parse_expr text (suc n) d);
        block = block-keeps (suc n) (opened n d);
        stmt = stmt-keeps (suc n) (opened n d);
        if_cont = if_cont-keeps (suc n) (opened n d);
        loop = loop-keeps (suc n) (opened n d);
      }

-- The rules with one number of levels left keep nothing where those with another do.
pub levels-alike : (text : List ℕ) (n d d' : ℕ) → GalleriesKeptAlike (rules.gallery text (suc n) d) (rules.gallery text (suc n) d')
levels-alike text n d d' =
    let o = opened text n d in
    let o' = opened text n d' in
    record {
      expr = λ at. alike (o.expr at) (o'.expr at);
      block = λ at. alike (o.block at) (o'.block at);
      stmt = λ at. alike (o.stmt at) (o'.stmt at);
      if_cont = λ at. alike (o.if_cont at) (o'.if_cont at);
      loop = λ at. alike (o.loop at) (o'.loop at);
    }
