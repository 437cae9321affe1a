-- The parser is sound: what it gives has a derivation from the tokens that it took.
use Prim.Native.Nat.{ℕ, zero, suc}
use Rattle.std.specs.Prelude.{◌≡◌, refl, List, [], ◌∷◌, ◌++◌}
use Rattle.std.proofs.Common.{sym, ◌∙◌, ap, subst₂, append-nil, append_assoc}
use Rattle.std.proofs.Math.Option.{some}
use Rattle.grammar.specs.Tokens.{Token}
use Rattle.grammar.specs.Grammar.{Tree, Class, Build, build, row, binary, Rule, Left, Right, Once, Either, first, second}
use Rattle.grammar.specs.Parser.{parsed, Parser, Tail, left_tail, right_tail, once_tail, either_tail}
use Rattle.grammar.specs.Parser.{continued}
use Rattle.grammar.proofs.Laws.ParserSteps.{after-inv, see-cases}
use Rattle.grammar.proofs.Laws.Looks.{class-inv}

-- t is derived from the tokens before the rest
pub record Reads (R : Rule) (ts : List Token) (t : Tree) (rest : List Token) : Type 0 where
  pub run : List Token
  pub split : ts ≡ run ++ rest
  pub derived : R run t

pub record Sound (R : Rule) (p : Parser) : Type 0 where
  pub reads : {ts : List Token} {t : Tree} {rest : List Token} → p ts ≡ parsed t rest → Reads R ts t rest

-- u is derived from the run us and the tokens of ts before the rest
pub record Extends (T : Rule) (us ts : List Token) (u : Tree) (rest : List Token) : Type 0 where
  pub run : List Token
  pub split : ts ≡ run ++ rest
  pub derived : T (us ++ run) u

-- an operand of S that the tail q continues becomes a T
pub record TailSound (S T : Rule) (q : Tail) : Type 0 where
  pub extends : {us : List Token} {t : Tree} → S us t → {ts : List Token} {u : Tree} {rest : List Token} → q t ts ≡ parsed u rest
      → Extends T us ts u rest

module _ {T : Rule} {us : List Token} where
  no_more : {ts : List Token} {t u : Tree} {rest : List Token} → T us t → parsed t ts ≡ parsed u rest → Extends T us ts u rest
  no_more d e = record { run = []; split = cc; derived = subst₂ T (sym (append-nil us)) (cc) d }

  -- an operator, and a run whose end extends what stands before it
  and-more : (o : Token) (run : List Token) {ts vs : List Token} {u : Tree} {rest : List Token} → ts ≡ run ++ vs → Extends T (us ++ o ∷ run) vs u rest
      → Extends T us (o ∷ ts) u rest
  and-more o run {rest} e x =
      record {
        run = o ∷ run ++ x.run;
        split = ap (λ l. o ∷ l) (e ∙ ap (λ l. run ++ l) x.split ∙ sym (append_assoc run x.run rest));
        derived = subst₂ T (append_assoc us (o ∷ run) x.run) refl x.derived;
      }

joined : {S T : Rule} {ts : List Token} {t u : Tree} {us rest : List Token} (r : Reads S ts t us) → Extends T r.run us u rest → Reads T ts u rest
joined {rest} r x =
    record {
      run = r.run ++ x.run;
      split = r.split ∙ ap (λ l. r.run ++ l) x.split ∙ sym (append_assoc r.run x.run rest);
      derived = x.derived;
    }

module _ {S : Rule} {p : Parser} (s : Sound S p) (c : Class) where
  left-more : (m : ℕ) {us : List Token} {t : Tree} → Left c S us t → {ts : List Token} {u : Tree} {rest : List Token} → left_tail m c p t ts ≡ parsed u rest
      → Extends (Left c S) us ts u rest
  unfolding left_tail
  left-more zero d e = no_more d e
  left-more (suc m) {us} {t} d {ts} {u} {rest} e =
      see-cases (λ ts. Extends (Left c S) us ts u rest) ts e (λ e. no_more d e)
      (λ o vs b l e.
      let a = after-inv (p vs) e in
      let r = s.reads a.first in
      and-more o r.run r.split (left-more m (Left.more d o (class-inv c o l) r.derived) a.next))

  right-step : {us vs ws rest : List Token} {t w u : Tree} {b : Build} → S us t → (o : Token) → binary o ≡ some (row c b) → Reads (Right c S) vs w ws
      → parsed (build b t w) ws ≡ parsed u rest → Extends (Right c S) us (o ∷ vs) u rest
  right-step d o l r e = and-more o r.run r.split (no_more (Right.more d o l r.derived) e)

  right-more : (m : ℕ) {us : List Token} {t : Tree} → S us t → {ts : List Token} {u : Tree} {rest : List Token} → right_tail m c p t ts ≡ parsed u rest
      → Extends (Right c S) us ts u rest
  unfolding right_tail
  right-more zero d e = no_more (Right.one d) e
  right-more (suc m) {us} {t} d {ts} {u} {rest} e =
      see-cases (λ ts. Extends (Right c S) us ts u rest) ts e (λ e. no_more (Right.one d) e)
      (λ o vs b l e.
      let a = after-inv (p vs) e in
      let r = s.reads a.first in
      let a' = after-inv (right_tail m c p a.value a.left) a.next in
      right-step d o (class-inv c o l) (joined r (right-more m r.derived a'.first)) a'.next)

  once_more : {us : List Token} {t : Tree} → S us t → {ts : List Token} {u : Tree} {rest : List Token} → once_tail c p t ts ≡ parsed u rest
      → Extends (Once c S) us ts u rest
  unfolding once_tail
  once_more {us} {t} d {ts} {u} {rest} e =
      see-cases (λ ts. Extends (Once c S) us ts u rest) ts e (λ e. no_more (Once.one d) e)
      (λ o vs b l e.
      let a = after-inv (p vs) e in
      let r = s.reads a.first in
      and-more o r.run r.split (no_more (Once.two d o (class-inv c o l) r.derived) a.next))

  -- operators to the left
  pub left-tail : (m : ℕ) → TailSound S (Left c S) (left_tail m c p)
  left-tail m = record { extends = λ d e. left-more m (Left.one d) e }

  -- operators to the right
  pub right-tail : (m : ℕ) → TailSound S (Right c S) (right_tail m c p)
  right-tail m = record { extends = λ d e. right-more m d e }

  -- at most one operator
  pub once-tail : TailSound S (Once c S) (once_tail c p)
  once-tail = record { extends = λ d e. once_more d e }

module _ {S T T' : Rule} {q q' : Tail} (c : Class) (f : TailSound S T q) (f' : TailSound S T' q') where
  either-more : {us : List Token} {t : Tree} → S us t → {ts : List Token} {u : Tree} {rest : List Token} → either_tail c q q' t ts ≡ parsed u rest
      → Extends (Either T T') us ts u rest
  unfolding either_tail
  either-more {us} {t} d {ts} {u} {rest} e =
      see-cases (λ any. Extends (Either T T') us ts u rest) ts e
      (λ e. let x = f'.extends d e in record { run = x.run; split = x.split; derived = second x.derived })
      (λ o vs b l e. let x = f.extends d e in record { run = x.run; split = x.split; derived = first x.derived })

  -- operators of one class or of another
  pub either-tail : TailSound S (Either T T') (either_tail c q q')
  either-tail = record { extends = λ d e. either-more d e }

module _ {S T : Rule} {p : Parser} {q : Tail} (s : Sound S p) (f : TailSound S T q) where
  level-reads : {ts : List Token} {t : Tree} {rest : List Token} → continued p q ts ≡ parsed t rest → Reads T ts t rest
  unfolding continued
  level-reads {ts} e =
      let a = after-inv (p ts) e in
      let r = s.reads a.first in
      joined r (f.extends r.derived a.next)

  -- a rule and what continues it
  pub level : Sound T (continued p q)
  level = record { reads = λ e. level-reads e }
