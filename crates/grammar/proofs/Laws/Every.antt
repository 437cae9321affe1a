-- What every rule keeps holds of every derivation: its tokens are legal, and its tree is an operator tree.
use Prim.Native.Nat.{ℕ, zero, suc}
use Rattle.std.specs.Prelude.{◌≡◌, refl, Bool, true, false, ◌&&◌, List, [], ◌∷◌, ◌++◌}
use Rattle.std.proofs.Math.Option.{Option, none, some}
use Rattle.lexing.specs.RunLaws.{pick-both}
use Rattle.tree.specs.Ast.{Operator, BLiteral, ILiteral, IdExpr, FunctionCallExpr, Exprs, no_exprs, ◌then◌, ArgumentCount}
use Rattle.lexing.specs.Bytes.{same_bytes, bytes}
use Rattle.grammar.specs.Words.{is_name}
use Rattle.grammar.specs.Tokens.{Token, name, nat, mark, sign, illegal, lparen, rparen, comma, Sign, '!', '-', '*', '+', '==', '!=', '<'}
use Rattle.grammar.specs.Tokens.{'<=', '>=', '>', '&&', '||', '==>', '<==', '<==>'}
use Rattle.grammar.specs.Grammar.{Tree, Rule, Class, Build, row, Role, before, between, both, neither, sign_role, word_role, role}
use Rattle.grammar.specs.Grammar.{as_unary, as_binary, straight, swapped, build, single, word, binary, unary, Series, Items, Operand, Unary}
use Rattle.grammar.specs.Grammar.{Left, Right, Once, Either, Whole, UnaryExpr, FactorExpr, TermExpr, JuctExpr, LogicalExpr, ImpExpExpr}
use Rattle.grammar.specs.Grammar.{EquivExpr}
use Rattle.grammar.specs.Grammar.{product, sum, comparison, conjunction, disjunction, implication, explication, equivalence}
use Rattle.grammar.specs.OperatorTrees.{Operators, AllOperators, OperatorTree}
use Rattle.tree.specs.Clash.{impossible}
use Rattle.grammar.specs.Grammar.{last, also, empty, series, falsehood, truth, natural, variable, old_variable, call, bracketed, bare}
use Rattle.grammar.specs.Grammar.{prefixed, first, second}

-- P and Q are kept by every rule: P of runs of tokens and their trees, Q of runs and their lists of trees
pub record Invariant (P : Rule) (Q : List Token → Exprs (List ℕ) → Type 0) : Type 0 where
  pub false-kept : P (word "false" ∷ []) (BLiteral false)
  pub true-kept : P (word "true" ∷ []) (BLiteral true)
  pub nat-kept : (n : ℕ) → P (nat n ∷ []) (ILiteral n)
  pub name-kept : (w : List ℕ) → is_name w ≡ true → P (name w ∷ []) (IdExpr w false)
  pub old-kept : (w : List ℕ) → P (word "old" ∷ name w ∷ []) (IdExpr w true)
  pub call_kept : (w : List ℕ) (ts : List Token) (es : Exprs (List ℕ)) → is_name w ≡ true → Q ts es
      → P (name w ∷ mark lparen ∷ ts ++ mark rparen ∷ []) (FunctionCallExpr w es)
  pub bracket-kept : (ts : List Token) (t : Tree) → P ts t → P (mark lparen ∷ ts ++ mark rparen ∷ []) t
  pub empty-kept : Q [] no_exprs
  pub last-kept : (ts : List Token) (t : Tree) → P ts t → Q ts (◌then◌ t no_exprs)
  pub also_kept : (ts us : List Token) (t : Tree) (es : Exprs (List ℕ)) → P ts t → Q us es → Q (ts ++ mark comma ∷ us) (◌then◌ t es)
  pub unary_kept : (o : Token) (op : Operator) (ts : List Token) (t : Tree) → unary o ≡ some op → P ts t → P (o ∷ ts) (single op t)
  pub binary-kept : (o : Token) (c : Class) (b : Build) (ts us : List Token) (t u : Tree) → binary o ≡ some (row c b) → P ts t → P us u
      → P (ts ++ o ∷ us) (build b t u)

-- P holds of what S relates
record Within (S P : Rule) : Type 0 where
  holds : {ts : List Token} {t : Tree} → S ts t → P ts t

module _ {P : Rule} {Q : List Token → Exprs (List ℕ) → Type 0} (k : Invariant P Q) where
  series-kept : {E : Rule} → Within E P → {ts : List Token} {es : Exprs (List ℕ)} → Series E ts es → Q ts es
  series-kept i (last d) = k.last-kept _ _ (i.holds d)
  series-kept i (also d x) = k.also_kept _ _ _ _ (i.holds d) (series-kept i x)

  items_kept : {E : Rule} → Within E P → {ts : List Token} {es : Exprs (List ℕ)} → Items E ts es → Q ts es
  items_kept i empty = k.empty-kept
  items_kept i (series x) = series-kept i x

  operand-kept : {E : Rule} → Within E P → {ts : List Token} {t : Tree} → Operand E ts t → P ts t
  operand-kept i falsehood = k.false-kept
  operand-kept i truth = k.true-kept
  operand-kept i natural = k.nat-kept _
  operand-kept i (variable n) = k.name-kept _ n
  operand-kept i old_variable = k.old-kept _
  operand-kept i (call n x) = k.call_kept _ _ _ n (items_kept i x)
  operand-kept i (bracketed d) = k.bracket-kept _ _ (i.holds d)

  prefixed-kept : {S : Rule} → Within S P → {ts : List Token} {t : Tree} → Unary S ts t → P ts t
  prefixed-kept i (bare d) = i.holds d
  prefixed-kept i (prefixed {o} l d) = k.unary_kept o _ _ _ l (prefixed-kept i d)

  left-kept : {S : Rule} → Within S P → (c : Class) {ts : List Token} {t : Tree} → Left c S ts t → P ts t
  left-kept i c (Left.one d) = i.holds d
  left-kept i c (Left.more d o l x) = k.binary-kept o c _ _ _ _ _ l (left-kept i c d) (i.holds x)

  right_kept : {S : Rule} → Within S P → (c : Class) {ts : List Token} {t : Tree} → Right c S ts t → P ts t
  right_kept i c (Right.one d) = i.holds d
  right_kept i c (Right.more d o l x) = k.binary-kept o c _ _ _ _ _ l (i.holds d) (right_kept i c x)

  once-kept : {S : Rule} → Within S P → (c : Class) {ts : List Token} {t : Tree} → Once c S ts t → P ts t
  once-kept i c (Once.one d) = i.holds d
  once-kept i c (Once.two d o l x) = k.binary-kept o c _ _ _ _ _ l (i.holds d) (i.holds x)

  either-kept : {R R' : Rule} → Within R P → Within R' P → {ts : List Token} {t : Tree} → Either R R' ts t → P ts t
  either-kept i i' (first d) = i.holds d
  either-kept i i' (second d) = i'.holds d

  equiv-kept : {E : Rule} → Within E P → Within (EquivExpr E) P
  equiv-kept {E} i =
      let a : Within (Operand E) P = record { holds = λ d. operand-kept i d } in
      let u : Within (UnaryExpr E) P = record { holds = λ d. prefixed-kept a d } in
      let f : Within (FactorExpr E) P = record { holds = λ d. left-kept u product d } in
      let t : Within (TermExpr E) P = record { holds = λ d. left-kept f sum d } in
      let j : Within (JuctExpr E) P = record { holds = λ d. once-kept t comparison d } in
      let c : Within (Left conjunction (JuctExpr E)) P = record { holds = λ d. left-kept j conjunction d } in
      let c' : Within (Left disjunction (JuctExpr E)) P = record { holds = λ d. left-kept j disjunction d } in
      let l : Within (LogicalExpr E) P = record { holds = λ d. either-kept c c' d } in
      let r : Within (Right implication (LogicalExpr E)) P = record { holds = λ d. right_kept l implication d } in
      let r' : Within (Left explication (LogicalExpr E)) P = record { holds = λ d. left-kept l explication d } in
      let m : Within (ImpExpExpr E) P = record { holds = λ d. either-kept r r' d } in
      record { holds = λ d. left-kept m equivalence d }

  every : (d : ℕ) → Within (Whole d) P
  unfolding Whole
  every zero = record { holds = λ x. absurd x }
  every (suc d) = equiv-kept (every d)

  -- what every rule keeps holds of every derivation
  pub whole-kept : (d : ℕ) (ts : List Token) (t : Tree) → Whole d ts t → P ts t
  whole-kept d ts t x = (every d).holds x

-- no token is illegal
abbrev pub is_legal : Token → Bool
is_legal (name w) = true
is_legal (nat n) = true
is_legal (mark k) = true
is_legal (sign g) = true
is_legal illegal = false

-- no token of a run is illegal
abbrev pub all_legal : List Token → Bool
all_legal [] = true
all_legal (o ∷ ts) = is_legal o && all_legal ts

legal-append : (ts us : List Token) → all_legal (ts ++ us) ≡ (all_legal ts && all_legal us)
legal-append [] us = refl
legal-append (name w ∷ ts) us = legal-append ts us
legal-append (nat n ∷ ts) us = legal-append ts us
legal-append (mark k ∷ ts) us = legal-append ts us
legal-append (sign g ∷ ts) us = legal-append ts us
legal-append (illegal ∷ ts) us = refl

-- an operator is a word or a sign
abbrev pub WordOrSign : Token → Type 0
WordOrSign (name w) = Unit {0}
WordOrSign (nat n) = ⊥
WordOrSign (mark k) = ⊥
WordOrSign (sign g) = Unit {0}
WordOrSign illegal = ⊥

pub word-or-sign : {X : Type 0} (as-operator : Role → Option X) → as-operator neither ≡ none → (o : Token) {x : X} → as-operator (role o) ≡ some x → WordOrSign o
unfolding role
word-or-sign f e (name w) l = tt
word-or-sign f e (nat n) l = impossible (cc)
word-or-sign f e (mark k) l = impossible (cc)
word-or-sign f e (sign g) l = tt
word-or-sign f e illegal l = impossible (cc)

legal-operator : (o : Token) → WordOrSign o → is_legal o ≡ true
legal-operator (name w) x = refl
legal-operator (nat n) x = refl
legal-operator (mark k) x = refl
legal-operator (sign g) x = refl
legal-operator illegal x = absurd x

legal-kept : Invariant (λ ts t. all_legal ts ≡ true) (λ ts es. all_legal ts ≡ true)
unfolding unary binary
legal-kept =
    record {
      false-kept = refl;
      true-kept = refl;
      nat-kept = λ n. refl;
      name-kept = λ w n. refl;
      old-kept = λ w. refl;
      call_kept = λ w ts es n h. rw (legal-append ts (mark rparen ∷ []), h) refl;
      bracket-kept = λ ts t h. rw (legal-append ts (mark rparen ∷ []), h) refl;
      empty-kept = refl;
      last-kept = λ ts t h. h;
      also_kept = λ ts us t es h i. rw (legal-append ts (mark comma ∷ us), h) i;
      unary_kept = λ o op ts t l h. rw (legal-operator o (word-or-sign as_unary refl o l)) h;
      binary-kept = λ o c b ts us t u l h i. rw (legal-append ts (o ∷ us), h, legal-operator o (word-or-sign as_binary refl o l)) i;
    }

-- a derivation's tokens are legal
pub legal : (d : ℕ) (ts : List Token) (t : Tree) → Whole d ts t → all_legal ts ≡ true
legal = whole-kept legal-kept

-- the operator table has unary operators before an operand and binary ones between two
abbrev operator_in : Build → Operator
operator_in (straight op) = op
operator_in (swapped op) = op

abbrev Counted : Role → Type 0
Counted (before op) = ArgumentCount op ≡ 1
Counted (between c b) = ArgumentCount (operator_in b) ≡ 2
Counted (both op c b) = (ArgumentCount op ≡ 1) × (ArgumentCount (operator_in b) ≡ 2)
Counted neither = Unit {0}

sign-counted : (g : Sign) → Counted (sign_role g)
unfolding sign_role
sign-counted '!' = refl
sign-counted '-' = (refl, refl)
sign-counted '*' = refl
sign-counted '+' = refl
sign-counted '==' = refl
sign-counted '!=' = refl
sign-counted '<' = refl
sign-counted '<=' = refl
sign-counted '>=' = refl
sign-counted '>' = refl
sign-counted '&&' = refl
sign-counted '||' = refl
sign-counted '==>' = refl
sign-counted '<==' = refl
sign-counted '<==>' = refl

counted : (o : Token) → Counted (role o)
unfolding role word_role
counted (name w) = pick-both Counted (same_bytes w (bytes "div")) refl (pick-both Counted (same_bytes w (bytes "mod")) refl tt)
counted (nat n) = tt
counted (mark k) = tt
counted (sign g) = sign-counted g
counted illegal = tt

unary-counted : (r : Role) {op : Operator} → Counted r → as_unary r ≡ some op → ArgumentCount op ≡ 1
unary-counted (before op) h l = cc
unary-counted (between c b) h l = impossible (cc)
unary-counted (both op c b) h l = cc h.0
unary-counted neither h l = impossible (cc)

binary-counted : (r : Role) {c : Class} {b : Build} → Counted r → as_binary r ≡ some (row c b) → ArgumentCount (operator_in b) ≡ 2
binary-counted (before op) h l = impossible (cc)
binary-counted (between c b) h l = cc
binary-counted (both op c b) h l = cc h.1
binary-counted neither h l = impossible (cc)

built : (b : Build) (t u : Tree) → ArgumentCount (operator_in b) ≡ 2 → OperatorTree t → OperatorTree u → OperatorTree (build b t u)
built (straight op) t u n x y = Operators.binary n x y refl
built (swapped op) t u n x y = Operators.binary n y x refl

operators-kept : Invariant (λ ts t. OperatorTree t) (λ ts es. AllOperators (λ w. true) (λ op u. true) es)
unfolding unary binary
operators-kept =
    record {
      false-kept = Operators.boolean;
      true-kept = Operators.boolean;
      nat-kept = λ n. Operators.natural;
      name-kept = λ w n. Operators.variable refl;
      old-kept = λ w. Operators.variable refl;
      call_kept = λ w ts es n h. Operators.call refl h;
      bracket-kept = λ ts t h. h;
      empty-kept = AllOperators.none;
      last-kept = λ ts t h. AllOperators.next h AllOperators.none;
      also_kept = λ ts us t es h i. AllOperators.next h i;
      unary_kept = λ o op ts t l h. Operators.unary (unary-counted (role o) (counted o) l) h;
      binary-kept = λ o c b ts us t u l h i. built b t u (binary-counted (role o) (counted o) l) h i;
    }

-- a derivation's tree is an operator tree
pub derived-operators : (d : ℕ) (ts : List Token) (t : Tree) → Whole d ts t → OperatorTree t
derived-operators = whole-kept operators-kept
