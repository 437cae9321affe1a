-- The levels of the operator grammar, tightest first, as data, and when an expression of one level is an expression of another.
use Prim.Native.Nat.{ℕ, zero, suc}
use Rattle.std.specs.Prelude.{◌≡◌, Bool, ◌||◌, List}
use Rattle.std.proofs.Math.Path.{refl, subst}
use Rattle.std.proofs.Math.Bool.{true, false}
use Rattle.grammar.specs.Tokens.{Token}
use Rattle.grammar.specs.Grammar.{Tree, Rule, Operand, Left, Right}
use Rattle.grammar.specs.Grammar.{Once, first, second, bare, UnaryExpr, FactorExpr, TermExpr, JuctExpr, LogicalExpr, ImpExpExpr}
use Rattle.grammar.specs.Grammar.{EquivExpr, conjunction, disjunction, implication}
use Rattle.tree.specs.Clash.{impossible}

-- the rules of the grammar, the two sides of each choice among them
pub data Level : Type 0 where
  operand prefixes factor term juct conjuncts disjuncts logical implications imp_exp equiv : Level
  deriving Discrete as Level-discrete

-- the rule of a level
abbrev pub rule_of : Level → Rule → Rule
rule_of operand E = Operand E
rule_of prefixes E = UnaryExpr E
rule_of factor E = FactorExpr E
rule_of term E = TermExpr E
rule_of juct E = JuctExpr E
rule_of conjuncts E = Left conjunction (JuctExpr E)
rule_of disjuncts E = Left disjunction (JuctExpr E)
rule_of logical E = LogicalExpr E
rule_of implications E = Right implication (LogicalExpr E)
rule_of imp_exp E = ImpExpExpr E
rule_of equiv E = EquivExpr E

-- a derivation at a level
pub record At (l : Level) (E : Rule) (ts : List Token) (t : Tree) : Type 0 where
  pub derived : rule_of l E ts t

-- the level that takes an expression of a level as it is: of a comparison, the one that `side` says
abbrev pub looser : Bool → Level → Level
looser side operand = prefixes
looser side prefixes = factor
looser side factor = term
looser side term = juct
looser true juct = conjuncts
looser false juct = disjuncts
looser side conjuncts = logical
looser side disjuncts = logical
looser side logical = implications
looser side implications = imp_exp
looser side imp_exp = equiv
looser side equiv = equiv

-- at most so many steps to looser levels lead from a level to another
unfoldable pub within : ℕ → Bool → Level → Level → Bool
within zero side l m = elim (Level-discrete l m) [ yes e ↦ true | no n ↦ false ]
within (suc k) side l m = elim (Level-discrete l m) [ yes e ↦ true | no n ↦ within k side (looser side l) m ]

-- an expression of a level is one of another
unfoldable pub fits_in : Level → Level → Bool
unfolding within
fits_in l m = within 9 true l m || within 9 false l m

module _ {E : Rule} {ts : List Token} {t : Tree} where
  loosen : (side : Bool) {l : Level} → At l E ts t → At (looser side l) E ts t
  loosen side {l} x = by_level side l x
    where
      by_level : (side : Bool) (l : Level) → At l E ts t → At (looser side l) E ts t
      by_level side operand x = record { derived = bare x.derived }
      by_level side prefixes x = record { derived = Left.one x.derived }
      by_level side factor x = record { derived = Left.one x.derived }
      by_level side term x = record { derived = Once.one x.derived }
      by_level true juct x = record { derived = Left.one x.derived }
      by_level false juct x = record { derived = Left.one x.derived }
      by_level side conjuncts x = record { derived = first x.derived }
      by_level side disjuncts x = record { derived = second x.derived }
      by_level side logical x = record { derived = Right.one x.derived }
      by_level side implications x = record { derived = first x.derived }
      by_level side imp_exp x = record { derived = Left.one x.derived }
      by_level side equiv x = x

  within-fits : (k : ℕ) (side : Bool) {l m : Level} → within k side l m ≡ true → At l E ts t → At m E ts t
  unfolding within
  within-fits zero side {l} {m} h x = by-equality (Level-discrete l m) h
    where
      by-equality : (d : Dec (l ≡ m)) → elim d as (λ z. Bool) [ yes e ↦ true | no n ↦ false ] ≡ true → At m E ts t
      by-equality (yes e) h = subst (λ n. At n E ts t) e x
      by-equality (no n) h = impossible (cc)
  within-fits (suc k) side {l} {m} h x = by-equality (Level-discrete l m) h (λ h. within-fits k side h (loosen side x))
    where
      by-equality : (d : Dec (l ≡ m)) → elim d as (λ z. Bool) [ yes e ↦ true | no n ↦ within k side (looser side l) m ] ≡ true
          → (within k side (looser side l) m ≡ true → At m E ts t) → At m E ts t
      by-equality (yes e) h next = subst (λ n. At n E ts t) e x
      by-equality (no n) h next = next h

  -- what is derived at a level is derived at each level that it fits in
  pub fits_in_lem : {l m : Level} → fits_in l m ≡ true → At l E ts t → At m E ts t
  unfolding fits_in
  fits_in_lem {l} {m} h x = by_side (within 9 true l m) (within 9 false l m) h (λ h. within-fits 9 true h x) (λ h. within-fits 9 false h x)
    where
      by_side : (a b : Bool) → (a || b) ≡ true → (a ≡ true → At m E ts t) → (b ≡ true → At m E ts t) → At m E ts t
      by_side true b h f g = f refl
      by_side false b h f g = g h

-- an operand fits in every level
pub operand-fits : (l : Level) → fits_in operand l ≡ true
unfolding fits_in
operand-fits operand = refl
operand-fits prefixes = refl
operand-fits factor = refl
operand-fits term = refl
operand-fits juct = refl
operand-fits conjuncts = refl
operand-fits disjuncts = refl
operand-fits logical = refl
operand-fits implications = refl
operand-fits imp_exp = refl
operand-fits equiv = refl

-- every level fits in that of the whole
pub fits_whole : (l : Level) → fits_in l equiv ≡ true
unfolding fits_in
fits_whole operand = refl
fits_whole prefixes = refl
fits_whole factor = refl
fits_whole term = refl
fits_whole juct = refl
fits_whole conjuncts = refl
fits_whole disjuncts = refl
fits_whole logical = refl
fits_whole implications = refl
fits_whole imp_exp = refl
fits_whole equiv = refl
