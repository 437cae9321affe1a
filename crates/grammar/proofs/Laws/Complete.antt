-- The parser is complete: a derivation followed by a rest that can't continue it is what the parser reads.
use Prim.Native.Nat.{ℕ, zero, suc, pred, ◌+◌, ◌≤◌, ◌<◌}
use Rattle.std.specs.Prelude.{◌≡◌, List, ◌∷◌, ◌++◌}
use Rattle.std.proofs.Math.Path.{refl, ap}
use Rattle.std.proofs.Common.{◌∙◌, append_assoc, arith}
use Rattle.std.proofs.Math.Option.{some}
use Rattle.std.proofs.Math.ListN.{length, length-append}
use Rattle.grammar.specs.Tokens.{Token}
use Rattle.grammar.specs.Grammar.{Tree, Class, Build, build, row, binary, Rule, Left, Right, Once, Either, first, second}
use Rattle.grammar.specs.Parser.{parsed, Parser, Tail, after, see, in_class, left_tail, right_tail, once_tail, either_tail}
use Rattle.grammar.specs.Parser.{continued}
use Rattle.grammar.proofs.Laws.Looks.{class-sees}
use Rattle.grammar.proofs.Laws.Stops.{Misses, see-misses, rank, Stops, stops-fewer, stops-operator, other-class}

-- for derivations of at most m tokens
pub record Complete (n m : ℕ) (R : Rule) (p : Parser) : Type 0 where
  pub parses : {ts : List Token} {t : Tree} → R ts t → length ts ≤ m → (rest : List Token) → Stops n rest → p (ts ++ rest) ≡ parsed t rest

-- how it goes on after the first operand: not at all, or with an operator of the class c
pub data Begins (c : Class) (u : Tree) (rest : List Token) : Tree → List Token → Type 0 where
  done : Begins c u rest u rest
  operator : {t : Tree} {us : List Token} {b : Build} (o : Token) → binary o ≡ some (row c b) → Begins c u rest t (o ∷ us)

begins-stops : {n : ℕ} {c : Class} {t u : Tree} {us rest : List Token} → n < rank c → Stops n rest → Begins c u rest t us → Stops n us
begins-stops h s done = s
begins-stops h s (operator o e) = stops-operator o e h

-- what begins a derivation begins the one that has an operator more
begins-on : {c : Class} {t u v : Tree} {us vs rest : List Token} {b : Build} (o : Token) → binary o ≡ some (row c b) → Begins c u (o ∷ vs) t us
    → Begins c v rest t us
begins-on o e done = operator o e
begins-on o e (operator o' e') = operator o' e'

-- the operand first, the tokens after it, of which B says how they begin, and what the tail q reads there
pub record Chain (B : Tree → List Token → Type 0) (S : Rule) (q : Tail) (ts : List Token) (u : Tree) (rest : List Token) : Type 0 where
  pub run : List Token
  pub tree : Tree
  pub tail : List Token
  pub split : ts ++ rest ≡ run ++ tail
  pub short : length run ≤ length ts
  pub operand : S run tree
  pub begins : B tree tail
  pub goes : q tree tail ≡ parsed u rest

-- an operand alone
alone : {B : Tree → List Token → Type 0} (S : Rule) {q : Tail} {ts rest : List Token} {u : Tree} → S ts u → B u rest → q u rest ≡ parsed u rest
    → Chain B S q ts u rest
alone S {ts} {rest} {u} d b e =
    record { run = ts; tree = u; tail = rest; split = refl; short = omega arith; operand = d; begins = b; goes = e }

-- an operand before an operator
followed : {B : Tree → List Token → Type 0} (S : Rule) {q : Tail} {ts : List Token} {t v : Tree} → S ts t → (us : List Token) {rest : List Token}
    → B t (us ++ rest) → q t (us ++ rest) ≡ parsed v rest → Chain B S q (ts ++ us) v rest
followed S {ts} {t} d us {rest} b e =
    record {
      run = ts;
      tree = t;
      tail = us ++ rest;
      split = append_assoc ts us rest;
      short = omega (arith, length-append ts us);
      operand = d;
      begins = b;
      goes = e;
    }

-- the same operand with another tail
remade : {B B' : Tree → List Token → Type 0} {S : Rule} {q q' : Tail} {ts rest : List Token} {u : Tree}
    → ((t : Tree) (us : List Token) → B t us → q t us ≡ parsed u rest → B' t us × (q' t us ≡ parsed u rest)) → Chain B S q ts u rest → Chain B' S q' ts u rest
remade f x =
    let (b, e) = f x.tree x.tail x.begins x.goes in
    record { run = x.run; tree = x.tree; tail = x.tail; split = x.split; short = x.short; operand = x.operand; begins = b; goes = e }

-- the operators of q are of the class c
pub record TailComplete (n m : ℕ) (c : Class) (S T : Rule) (q : Tail) : Type 0 where
  pub chain : {ts : List Token} {u : Tree} → T ts u → length ts ≤ m → (rest : List Token) → Stops n rest → Chain (Begins c u rest) S q ts u rest

-- an operand of S stops where q goes on
pub record LevelComplete (n n' m : ℕ) (S T : Rule) (q : Tail) : Type 0 where
  pub chain : {ts : List Token} {u : Tree} → T ts u → length ts ≤ m → (rest : List Token) → Stops n' rest → Chain (λ t us. Stops n us) S q ts u rest

module _ {n m : ℕ} {S : Rule} {p : Parser} (s : Complete n m S p) (c : Class) (tight : n < rank c) where
  pub left-halts : (k : ℕ) (t : Tree) (ts : List Token) → Misses (in_class c) ts → left_tail k c p t ts ≡ parsed t ts
  unfolding left_tail
  left-halts zero t ts h = refl
  left-halts (suc k) t ts h = see-misses (in_class c) ts _ _ h

  left_step : (k : ℕ) (t : Tree) {u : Tree} {us : List Token} {b : Build} (o : Token) → binary o ≡ some (row c b) → S us u → length us ≤ m → (rest : List Token)
      → Stops n rest → 0 < k → left_tail k c p t (o ∷ us ++ rest) ≡ left_tail (pred k) c p (build b t u) rest
  unfolding left_tail after see
  left_step zero t o l d h rest st z = absurd (omega arith)
  left_step (suc k) t o l d h rest st z = rw (class-sees c o l, s.parses d h rest st) refl

  -- the operand first, and the turns left after the rest of the derivation
  record Fed (ts : List Token) (u : Tree) (rest : List Token) : Type 0 where
    run : List Token
    tree : Tree
    tail : List Token
    split : ts ++ rest ≡ run ++ tail
    short : length run ≤ length ts
    operand : S run tree
    begins : Begins c u rest tree tail
    turns : ℕ
    enough : m ≤ turns + length ts
    goes : left_tail m c p tree tail ≡ left_tail turns c p u rest

  fed-more : {ts us : List Token} {t u : Tree} {b : Build} (o : Token) → binary o ≡ some (row c b) → S us u → length (ts ++ o ∷ us) ≤ m → (rest : List Token)
      → Stops n rest → Fed ts t (o ∷ us ++ rest) → Fed (ts ++ o ∷ us) (build b t u) rest
  fed-more {ts} {us} {t} o l x h rest st f =
      let long : length (ts ++ o ∷ us) ≡ length ts + suc (length us) = length-append ts (o ∷ us) in
      let enough : m ≤ f.turns + length ts = f.enough in
      record {
        run = f.run;
        tree = f.tree;
        tail = f.tail;
        split = append_assoc ts (o ∷ us) rest ∙ f.split;
        short = let k : length f.run ≤ length ts = f.short in omega arith;
        operand = f.operand;
        begins = begins-on o l f.begins;
        turns = pred f.turns;
        enough = omega arith;
        goes = f.goes ∙ left_step f.turns t o l x (omega arith) rest st (omega arith);
      }

  feed : {ts : List Token} {u : Tree} → Left c S ts u → length ts ≤ m → (rest : List Token) → Stops n rest → Fed ts u rest
  feed {ts} {u} (Left.one d) h rest st =
      record { run = ts; tree = u; tail = rest; split = refl; short = omega arith; operand = d; begins = done; turns = m; enough = omega arith; goes = refl }
  feed (Left.more {ts} {us} d o l x) h rest st =
      fed-more o l x h rest st (feed d (omega (arith, length-append ts (o ∷ us))) (o ∷ us ++ rest) (stops-operator o l tight))

  left-chain : {n' : ℕ} → rank c ≤ n' → {ts : List Token} {u : Tree} → Left c S ts u → length ts ≤ m → (rest : List Token) → Stops n' rest
      → Chain (Begins c u rest) S (left_tail m c p) ts u rest
  left-chain {n'} w {u} d h rest st =
      let f = feed d h rest (stops-fewer (omega arith) st) in
      record {
        run = f.run;
        tree = f.tree;
        tail = f.tail;
        split = f.split;
        short = f.short;
        operand = f.operand;
        begins = f.begins;
        goes = f.goes ∙ left-halts f.turns u rest (st.no_operator c w);
      }

  -- operators to the left
  pub left-tail : {n' : ℕ} → rank c ≤ n' → TailComplete n' m c S (Left c S) (left_tail m c p)
  left-tail w = record { chain = λ d h rest st. left-chain w d h rest st }

  right-halts : (k : ℕ) (t : Tree) (ts : List Token) → Misses (in_class c) ts → right_tail k c p t ts ≡ parsed t ts
  unfolding right_tail
  right-halts zero t ts h = refl
  right-halts (suc k) t ts h = see-misses (in_class c) ts _ _ h

  right-step : (k : ℕ) (t : Tree) {u : Tree} {us rest : List Token} {b : Build} (o : Token) → binary o ≡ some (row c b) → length us ≤ m → Stops n rest → 0 < k
      → Chain (Begins c u rest) S (right_tail (pred k) c p) us u rest → right_tail k c p t (o ∷ us ++ rest) ≡ parsed (build b t u) rest
  unfolding right_tail after see
  right-step zero t o l h st z f = absurd (omega arith)
  right-step (suc k) t o l h st z f =
      let short : length f.run ≤ m = (let i : _ ≤ _ = f.short in omega arith) in
      rw (class-sees c o l, f.split, s.parses f.operand short f.tail (begins-stops tight st f.begins), f.goes) refl

  right-chain : {n' : ℕ} → rank c ≤ n' → (k : ℕ) {ts : List Token} {u : Tree} → Right c S ts u → length ts ≤ k → length ts ≤ m → (rest : List Token) → Stops n' rest
      → Chain (Begins c u rest) S (right_tail k c p) ts u rest
  right-chain w k {u} (Right.one d) i h rest st = alone S d done (right-halts k u rest (st.no_operator c w))
  right-chain w k (Right.more {ts} {us} {t} d o l r) i h rest st =
      let long : length (ts ++ o ∷ us) ≡ length ts + suc (length us) = length-append ts (o ∷ us) in
      followed S d (o ∷ us) (operator o l)
      (right-step k t o l (omega arith) (stops-fewer (omega arith) st) (omega arith)
      (right-chain w (pred k) r (omega arith) (omega arith) rest st))

  -- operators to the right
  pub right-tail : {n' : ℕ} → rank c ≤ n' → TailComplete n' m c S (Right c S) (right_tail m c p)
  right-tail w = record { chain = λ d h rest st. right-chain w m d h h rest st }

  once-step : (t : Tree) {u : Tree} {us : List Token} {b : Build} (o : Token) → binary o ≡ some (row c b) → S us u → length us ≤ m → (rest : List Token)
      → Stops n rest → once_tail c p t (o ∷ us ++ rest) ≡ parsed (build b t u) rest
  unfolding once_tail after see
  once-step t o l d h rest st = rw (class-sees c o l, s.parses d h rest st) refl

  once-chain : {n' : ℕ} → rank c ≤ n' → {ts : List Token} {u : Tree} → Once c S ts u → length ts ≤ m → (rest : List Token) → Stops n' rest
      → Chain (Begins c u rest) S (once_tail c p) ts u rest
  unfolding once_tail
  once-chain w (Once.one d) h rest st = alone S d done (see-misses (in_class c) rest _ _ (st.no_operator c w))
  once-chain w (Once.two {ts} {us} {t} d o l x) h rest st =
      let long : length (ts ++ o ∷ us) ≡ length ts + suc (length us) = length-append ts (o ∷ us) in
      followed S d (o ∷ us) (operator o l) (once-step t o l x (omega arith) rest (stops-fewer (omega arith) st))

  -- at most one operator
  pub once-tail : {n' : ℕ} → rank c ≤ n' → TailComplete n' m c S (Once c S) (once_tail c p)
  once-tail w = record { chain = λ d h rest st. once-chain w d h rest st }

-- one class of operators on a level
pub only : {n n' m : ℕ} {c : Class} {S T : Rule} {q : Tail} → n < rank c → n ≤ n' → TailComplete n' m c S T q → LevelComplete n n' m S T q
only tight w f = record { chain = λ d h rest st. remade (λ t us b e. (begins-stops tight (stops-fewer w st) b, e)) (f.chain d h rest st) }

-- two classes, of which one follows
module _ {n n' m : ℕ} {c c' : Class} {S T T' : Rule} {q q' : Tail} (f : TailComplete n' m c S T q) (f' : TailComplete n' m c' S T' q')
    (halts : (t : Tree) (ts : List Token) → Misses (in_class c') ts → q' t ts ≡ parsed t ts) (tight : n < rank c) (apart : rank c < rank c') (w : rank c' ≤ n') where
  either_first : {t u : Tree} {us rest : List Token} → Stops n' rest → Begins c u rest t us → q t us ≡ parsed u rest → either_tail c q q' t us ≡ parsed u rest
  unfolding either_tail see
  either_first {u} {rest} st done e = see-misses (in_class c) rest _ _ (st.no_operator c (omega arith)) ∙ halts u rest (st.no_operator c' w)
  either_first st (operator o l) e = rw (class-sees c o l) e

  either_second : {t u : Tree} {us rest : List Token} → Stops n' rest → Begins c' u rest t us → q' t us ≡ parsed u rest → either_tail c q q' t us ≡ parsed u rest
  unfolding either_tail see
  either_second {rest} st done e = see-misses (in_class c) rest _ _ (st.no_operator c (omega arith)) ∙ e
  either_second st (operator o l) e = rw (other-class c o l (λ p. let r = ap rank p in omega arith)) e

  either-chain : {ts : List Token} {u : Tree} → Either T T' ts u → length ts ≤ m → (rest : List Token) → Stops n' rest
      → Chain (λ t us. Stops n us) S (either_tail c q q') ts u rest
  either-chain (first d) h rest st =
      remade (λ t us b e. (begins-stops tight (stops-fewer (omega arith) st) b, either_first st b e)) (f.chain d h rest st)
  either-chain (second d) h rest st =
      remade (λ t us b e. (begins-stops (omega arith) (stops-fewer (omega arith) st) b, either_second st b e)) (f'.chain d h rest st)

  -- operators of one class or of another
  pub either-tail : LevelComplete n n' m S (Either T T') (either_tail c q q')
  either-tail = record { chain = λ d h rest st. either-chain d h rest st }

module _ {n n' m : ℕ} {S T : Rule} {p : Parser} {q : Tail} (s : Complete n m S p) (f : LevelComplete n n' m S T q) where
  level-parses : {ts : List Token} {t : Tree} → T ts t → length ts ≤ m → (rest : List Token) → Stops n' rest → continued p q (ts ++ rest) ≡ parsed t rest
  unfolding continued after
  level-parses d h rest st =
      let x = f.chain d h rest st in
      let short : length x.run ≤ m = (let i : _ ≤ _ = x.short in omega arith) in
      rw (x.split, s.parses x.operand short x.tail x.begins) x.goes

  -- a rule and what continues it
  pub level : Complete n' m T (continued p q)
  level = record { parses = λ d h rest st. level-parses d h rest st }
