-- Where a turn of a loop of the expressions' rules begins.
use Rattle.std.proofs.Common.{ℕ, zero, suc, ◌≡◌, ◌+◌, ◌<◌, ◌≤◌, ◌∙◌, refl, sym, ap, arith, List, [], ◌∷◌, length, get_or, Option, Some, None, Ok}
use Rattle.std.proofs.Math.Dec.{leb-zero}
use Rattle.std.proofs.Math.Nat.{le_refl}
use mathlib.Core.Path.{fun_ext}
use Rattle.std.specs.Option.{unwrap_or}
use Rattle.lexing.specs.Answer.{Answer, ok, refused}
use Rattle.tree.specs.Ast.{Span, Expr, Operator, LogicalImp, pattern, no_patterns}
use Rattle.tree.specs.Words.{exprs_words, patterns_words}
use Rattle.grammar.specs.Grammar.{Build, Class, straight, single, build, implication}
use Rattle.grammar.specs.Steps.{Reader, after, need, mapped, Sym, keyword_at}
use Rattle.grammar.specs.StepLaws.{mapped-same, mapped-twice, mapped-need}
use Rattle.grammar.specs.Rules.{left_tail, right_tail, operator_of, implies_operator, unary_operator, unary_tail, parse_primary_expr, parse_imp_exp_expr, parse_unary_expr}
use Rattle.grammar.specs.Rules.{exprs, comma_tail, parse_nonempty_comma_delimited_seq, parse_marked}
use Rattle.grammar.specs.Reading.{tree_words}
use Rattle.parsing.specs.Arena.{Run, Kept, outside}
use Rattle.parsing.specs.Contract.{needed, sign, Spare, Read, Reads_if, Took, Missing, Standing, Pushed, same}
use Rattle.parsing.specs.Expressions.{left_rest, items_rule, list_rule, ItemOf, ListOf, sequence_of, item_words, list_words}
use Rattle.parsing.specs.declared.expr.seq.Kind.{Kind}
use Rattle.parsing.specs.declared.expr.seq.Kind.TheVariants.{Exprs, Bindings, Closures, Properties, Names, Formals, Parameters, Arguments}
use Rattle.parsing.specs.declared.parser.Parser.{Parser}
use Rattle.tree.specs.Codes.{as_operator}
use Rattle.parsing.specs.Signs.{Operated, build_of, level_rule}
use Rattle.parsing.specs.Code.{turns, inner, turning, tighter_of, Layer, unary_layer, binary_layer, fold_layers, Links, Foldable, Folded}
use Rattle.parsing.specs.declared.sign.Sign.{Sign}
use Rattle.parsing.specs.declared.sign.Level.TheVariants.{Implication}
use Rattle.tree.specs.declared.word.Operator.{Operator as OperatorCode}
use Rattle.tree.specs.declared.word.Operator.TheVariants as code
use Rattle.parsing.specs.declared.arena.Node.{Node}
use Rattle.parsing.specs.declared.arena.Node.TheVariants.{Unary, Binary}
use Rattle.parsing.proofs.Places.{Place, no_credit, begin, begin_with, again, read, read_if, took, skipped, with_end, done, operated, said, as_run, later-next, holds_kept}
use Rattle.parsing.proofs.ExpressionPlaces.{sure, unused, spare-left, lessened}
use Rattle.parsing.proofs.ExpressionRules.{listed-rule}
use borrow.Author.Tests.{le-leb}
use Rattle.tree.specs.Clash.{impossible}

-- ---- operators that lean left

-- the operand e was read: the chain is what `left_tail` gives from here on, with more turns left than bytes
pub record Leaning (k : Class) (depth : ℕ) (first : Expr Span) (p q : Parser) (e : ℕ) : Type 0 where
  pub tree : Expr Span
  pub left : ℕ
  pub enough : length p.text.now ≤ q.at + left
  pub place : Place (left_rest k depth first p.text.now p.at) 0 p q q.at 0 0
      (left_tail (suc left) (operator_of p.text.now k) (tighter_of k depth p.text.now) tree q.at) ((e, tree_words tree) ∷ [])

pub leaning-again : (k : Class) (depth : ℕ) (first : Expr Span) {p q : Parser} (left : ℕ) (tree : Expr Span) {at bytes spare e : ℕ} {made : List (ℕ × Run)}
    → Place (left_rest k depth first p.text.now p.at) 0 p q at bytes spare
    (left_tail left (operator_of p.text.now k) (tighter_of k depth p.text.now) tree at) ((e, tree_words tree) ∷ made)
    → length p.text.now < at + left → Leaning k depth first p q e
leaning-again k depth first {q = q} zero tree l h = absurd (omega (arith, q.inside, l.here, ap length l.later.text_same))
leaning-again k depth first {p} (suc left) tree l h =
    record {
      tree = tree;
      left = left;
      enough = omega (arith, l.here);
      place = again (left_tail (suc left) (operator_of p.text.now k) (tighter_of k depth p.text.now) tree) 0 0 l (leb-zero _) (leb-zero _);
    }

-- for any tree that the first operand stands for
pub record Turning (k : Class) (depth first : ℕ) (p q : Parser) (e : ℕ) : Type 0 where
  pub turn : (tree : Expr Span) → Standing p first (tree_words tree) → Leaning k depth tree p q e

-- ---- sequences

-- a repetition: a mark and an item, again and again, with the words of an item and of the list
pub record Repetition {A L : Type 0} (mark : Reader ℕ) (item : Reader A) (put : A → L → L) (end : L) (rest : ℕ → Reader L) (each : A → Run)
    (words : L → Run) : Type 0 where
  pub step : (k at : ℕ)
      → rest (suc k) at ≡ after (mark at) (ok end at) (λ _ at₁. need at₁ (item at₁) (λ a at₂. mapped (put a) (rest k at₂)))
  pub put-words : (a : A) (l : L) (r : List ℕ) → words (put a l) r ≡ 1 ∷ each a (words l r)
  pub end-words : (r : List ℕ) → words end r ≡ 0 ∷ r

cons-words : (k : Kind) (a : ItemOf k) (l : ListOf k) (r : List ℕ) → list_words k ((sequence_of k).cons a l) r ≡ 1 ∷ item_words k a (list_words k l r)
cons-words Exprs a l r = refl
cons-words Bindings a l r = refl
cons-words Closures a l r = refl
cons-words Properties a l r = refl
cons-words Names a l r = refl
cons-words Formals a l r = refl
cons-words Parameters a l r = refl
cons-words Arguments a l r = refl

-- the words of no items
pub nil-words : (k : Kind) (r : List ℕ) → list_words k (sequence_of k).nil r ≡ 0 ∷ r
nil-words Exprs r = refl
nil-words Bindings r = refl
nil-words Closures r = refl
nil-words Properties r = refl
nil-words Names r = refl
nil-words Formals r = refl
nil-words Parameters r = refl
nil-words Arguments r = refl

pub comma-repetition : (text : List ℕ) (k : Kind) (item : Reader (ItemOf k))
    → Repetition (Sym text ",") item (sequence_of k).cons (sequence_of k).nil (λ n. comma_tail text (sequence_of k) n item) (item_words k) (list_words k)
unfolding comma_tail
comma-repetition text k item = record { step = λ n at. refl; put-words = cons-words k; end-words = nil-words k }

pub marked-repetition : (text : List ℕ) (m : ℕ) (c : Reader (Expr Span)) (w : List ℕ)
    → Repetition (keyword_at text w) (parse_nonempty_comma_delimited_seq text m exprs c) pattern no_patterns (λ k. parse_marked text m c k w) (exprs_words same)
    (patterns_words same)
unfolding parse_marked
marked-repetition text m c w = record { step = λ k at. refl; put-words = λ es ps r. refl; end-words = λ r. refl }

module _ {A L : Type 0} (mark : Reader ℕ) (item : Reader A) (put : A → L → L) (end : L) (rest : ℕ → Reader L) (each : A → Run) (words : L → Run) where
  -- the items read so far: the list's node stands for their words, before those of what the rest gives
  pub record Gathering (whole : Answer L) (lent bytes least : ℕ) (p q : Parser) (list : ℕ) : Type 0 where
    pub run : Run
    pub more : L → L
    pub joins : (l : L) (r : List ℕ) → run (words l r) ≡ words (more l) r
    pub left : ℕ
    pub enough : length p.text.now ≤ q.at + left
    pub spare : ℕ
    pub spared : least ≤ spare
    pub closable : (list ≡ 0 → ⊥) → 1 ≤ spare
    pub place : Place whole lent p q q.at bytes spare
        (after (mark q.at) (ok (more end) q.at) (λ _ at₁. need at₁ (item at₁) (λ a at₂. mapped more (mapped (put a) (rest left at₂))))) ((list, run) ∷ [])

  module _ (o : Repetition mark item put end rest each words) where
    -- `mapped` goes into a turn
    mapped-turn : (more : L → L) (k at : ℕ)
        → mapped more (rest (suc k) at)
        ≡ after (mark at) (ok (more end) at) (λ _ at₁. need at₁ (item at₁) (λ a at₂. mapped more (mapped (put a) (rest k at₂))))
    unfolding after
    mapped-turn more k at = ap (mapped more) (o.step k at) ∙ by-mark (mark at)
      where
        by-mark : (r : Answer ℕ)
            → mapped more (after r (ok end at) (λ _ at₁. need at₁ (item at₁) (λ a at₂. mapped (put a) (rest k at₂))))
            ≡ after r (ok (more end) at) (λ _ at₁. need at₁ (item at₁) (λ a at₂. mapped more (mapped (put a) (rest k at₂))))
        by-mark (ok v at₁) = mapped-need more at₁ (item at₁) (λ a at₂. mapped (put a) (rest k at₂))
        by-mark Answer.none = refl
        by-mark (refused number place) = refl

  module _ (o : Repetition mark item put end rest each words) {whole : Answer L} {lent : ℕ} {p q : Parser} {bytes least : ℕ} where
    -- a turn begins with these items
    pub gathering : (run : Run) (more : L → L) {list : ℕ} {made : List (ℕ × Run)} {at : ℕ} (left spare : ℕ)
        → ((l : L) (r : List ℕ) → run (words l r) ≡ words (more l) r) → least ≤ spare → ((list ≡ 0 → ⊥) → 1 ≤ spare) → length p.text.now < at + left
        → Place whole lent p q at bytes spare (mapped more (rest left at)) ((list, run) ∷ made) → Gathering whole lent bytes least p q list
    gathering run more zero spare j b c h l = absurd (omega (arith, q.inside, l.here, ap length l.later.text_same))
    gathering run more {list} {made} {at} (suc left) spare j b c h l =
        record {
          run = run;
          more = more;
          joins = j;
          left = left;
          enough = omega (arith, l.here);
          spare = spare;
          spared = b;
          closable = c;
          place = record {
            says = l.says ∙ mapped-turn o more left at ∙ ap (λ at. after (mark at) (ok (more end) at) (λ _ at₁. need at₁ (item at₁) (λ a at₂. mapped more (mapped (put a) (rest left at₂))))) (sym l.here);
            here = refl;
            later = l.later;
            forward = omega (arith, l.forward, l.here);
            within = omega (arith, l.within, l.here);
            stands = (l.stands.0, tt);
          };
        }

  module _ (o : Repetition mark item put end rest each words) {whole : Answer L} {lent : ℕ} {p q : Parser} {bytes least : ℕ} where
    -- one item more
    pub joins-more : {list : ℕ} (g : Gathering whole lent bytes least p q list) (a : A) (l : L) (r : List ℕ)
        → g.run (1 ∷ each a (words l r)) ≡ words (g.more (put a l)) r
    joins-more g a l r = ap g.run (sym (o.put-words a l r)) ∙ g.joins (put a l) r

    pub gathering-next : {list : ℕ} (g : Gathering whole lent bytes least p q list) (a : A) {s : Parser} {at bytes₁ spare n : ℕ} {made : List (ℕ × Run)}
        → Place whole lent p s at bytes₁ spare (mapped g.more (mapped (put a) (rest g.left at))) ((n, λ r. g.run (1 ∷ each a r)) ∷ made) → bytes ≤ bytes₁
        → least ≤ spare → ((n ≡ 0 → ⊥) → 1 ≤ spare) → length p.text.now < at + g.left → Gathering whole lent bytes least p s n
    gathering-next g a l b w c h =
        gathering o (λ r. g.run (1 ∷ each a r)) (λ l. g.more (put a l)) g.left _ (joins-more g a) w c h
        (said (mapped-twice (put a) g.more _) (lessened bytes _ b (le_refl _) l))

    -- no more: the words of the whole list
    pub end-run : {list : ℕ} (g : Gathering whole lent bytes least p q list) → (λ r. g.run (0 ∷ r)) ≡ words (g.more end)
    end-run g = fun_ext (λ r. ap g.run (sym (o.end-words r)) ∙ g.joins end r)

-- ---- layers that wait for their last operand

pub links-kept : {arena later : List Node} {top link : ℕ} {ls : List Layer} → Kept arena later top → link < top → Links arena link ls → Links later link ls
links-kept k l Links.ends = Links.ends
links-kept k l (Links.unary_link e m r) = Links.unary_link (k.below _ l ∙ e) m (links-kept k (omega arith) r)
links-kept k l (Links.binary_link e m b h r) = Links.binary_link (k.below _ l ∙ e) m b (holds_kept k (omega arith) h) (links-kept k (omega arith) r)

pub links-none : {arena : List Node} {link : ℕ} {ls : List Layer} → Links arena link ls → link ≡ 0 → ls ≡ []
links-none Links.ends z = refl
links-none (Links.unary_link e m r) z = absurd (omega arith)
links-none (Links.binary_link e m b h r) z = absurd (omega arith)

-- the operator of `==>` is LogicalImp
abbrev operator_read : Answer Build → Build
operator_read (ok b n) = b
operator_read Answer.none = straight LogicalImp
operator_read (refused number place) = straight LogicalImp

implies-read : (r : Answer ℕ) → operator_read (mapped (λ _. straight LogicalImp) r) ≡ straight LogicalImp
unfolding after
implies-read (ok v n) = refl
implies-read Answer.none = refl
implies-read (refused number place) = refl

implies-is : (text : List ℕ) (at : ℕ) {next : ℕ} {b : Build} → implies_operator text at ≡ ok b next → b ≡ straight LogicalImp
unfolding implies_operator
implies-is text at e = sym (ap operator_read e) ∙ implies-read (Sym text "==>" at)

-- a chain of `==>` after these layers and an operand
abbrev pub waiting_rest : List ℕ → ℕ → List Layer → ℕ → Expr Span → Reader (Expr Span)
waiting_rest text depth ls left tree at =
    after (implies_operator text at) (ok (fold_layers ls tree) at)
    (λ b at₁. need at₁ (tighter_of implication depth text at₁)
    (λ e at₂. mapped (fold_layers ls) (mapped (build b tree) (right_tail left (implies_operator text) (tighter_of implication depth text) e at₂))))

waiting-is : (text : List ℕ) (depth : ℕ) (ls : List Layer) (left : ℕ) (tree : Expr Span) (at : ℕ)
    → mapped (fold_layers ls) (right_tail (suc left) (implies_operator text) (tighter_of implication depth text) tree at)
    ≡ waiting_rest text depth ls left tree at
unfolding right_tail after
waiting-is text depth ls left tree at = by-operator (implies_operator text at)
  where
    by-operator : (r : Answer Build)
        → mapped (fold_layers ls) (after r (ok tree at)
        (λ b at₁. need at₁ (tighter_of implication depth text at₁)
        (λ e at₂. mapped (build b tree) (right_tail left (implies_operator text) (tighter_of implication depth text) e at₂))))
        ≡ after r (ok (fold_layers ls tree) at)
        (λ b at₁. need at₁ (tighter_of implication depth text at₁)
        (λ e at₂. mapped (fold_layers ls) (mapped (build b tree) (right_tail left (implies_operator text) (tighter_of implication depth text) e at₂))))
    by-operator (ok b at₁) =
        mapped-need (fold_layers ls) at₁ (tighter_of implication depth text at₁)
        (λ e at₂. mapped (build b tree) (right_tail left (implies_operator text) (tighter_of implication depth text) e at₂))
    by-operator Answer.none = refl
    by-operator (refused number place) = refl

pub waiting-first : (text : List ℕ) (depth left : ℕ) (tree : Expr Span) (at : ℕ)
    → right_tail (suc left) (implies_operator text) (tighter_of implication depth text) tree at ≡ waiting_rest text depth [] left tree at
waiting-first text depth left tree at = sym (mapped-same _) ∙ waiting-is text depth [] left tree at

pub record Waiting (depth : ℕ) (p q : Parser) (e link : ℕ) : Type 0 where
  pub tree : Expr Span
  pub layers : List Layer
  pub left : ℕ
  pub enough : length p.text.now ≤ q.at + left
  pub links : Links q.arena.now link layers
  pub links-below : link < q.top
  pub place : Place (turning parse_imp_exp_expr depth p.text.now p.at) 0 p q q.at 1 (length layers) (waiting_rest p.text.now depth layers left tree q.at)
      ((e, tree_words tree) ∷ [])

-- a turn begins with these layers and the last node
waiting-again : (depth : ℕ) {p s : Parser} (left : ℕ) (ls : List Layer) (v : Expr Span) {at bytes spare e n : ℕ} {made : List (ℕ × Run)}
    → Place (turning parse_imp_exp_expr depth p.text.now p.at) 0 p s at bytes spare
    (mapped (fold_layers ls) (right_tail left (implies_operator p.text.now) (tighter_of implication depth p.text.now) v at)) ((e, tree_words v) ∷ made)
    → 1 ≤ bytes → length ls ≤ spare → length p.text.now < at + left → Links s.arena.now n ls → n < s.top → Waiting depth p s e n
waiting-again depth {s = s} zero ls v l b w h k m = absurd (omega (arith, s.inside, l.here, ap length l.later.text_same))
waiting-again depth {p} (suc left) ls v {at} l b w h k m =
    record {
      tree = v;
      layers = ls;
      left = left;
      enough = omega (arith, l.here);
      links = k;
      links-below = m;
      place = record {
        says = l.says ∙ waiting-is p.text.now depth ls left v at ∙ ap (waiting_rest p.text.now depth ls left v) (sym l.here);
        here = refl;
        later = l.later;
        forward = omega (arith, l.forward, l.here);
        within = omega (arith, l.within, l.here);
        stands = (l.stands.0, tt);
      };
    }

-- one operator more, with its first operand
pub waiting-next : (depth : ℕ) {p q s s₁ s₂ : Parser} {e link n e₁ : ℕ} {sign : Sign} (w : Waiting depth p q e link)
    → Operated build_of (level_rule Implication) q s sign → Pushed (Binary code.LogicalImp e link) s s₁ n
    → Read tree_words (needed (tighter_of implication depth)) 1 0 s₁ s₂ e₁ → Waiting depth p s₂ e₁ n
waiting-next depth {p} {s₂ = s₂} {e} {link} {n} {sign = sign} w o m r =
    let is-implies : build_of sign ≡ straight LogicalImp = implies-is _ _ o.says in
    let l = read (tighter_of implication depth) _ r (unused m.made (operated (level_rule Implication) _ _ o w.place) (omega arith)) (leb-zero _) in
    let on = later-next o.went.later (later-next m.made.later r.went.later) in
    let here : get_or s₂.arena.now n outside ≡ Binary code.LogicalImp e link = r.went.later.kept.below n (omega (arith, m.made.last)) ∙ m.here in
    let below = w.place.stands.0.below in
    let links : Links s₂.arena.now n (binary_layer LogicalImp w.tree ∷ w.layers)
    = Links.binary_link {op = code.LogicalImp} here (omega (arith, w.links-below, o.top_same, m.made.last, m.made.top)) (omega (arith, below, o.top_same, m.made.last, m.made.top))
    (holds_kept on.kept below w.place.stands.0.holds) (links-kept on.kept w.links-below w.links) in
    waiting-again depth w.left (binary_layer LogicalImp w.tree ∷ w.layers) r.value (said (mapped-twice _ (fold_layers w.layers) _) (rw is-implies at l))
    (omega arith) (omega arith) (omega (arith, w.enough, o.went.onward, m.made.at_same, r.went.onward)) links (omega (arith, m.made.last, r.went.later.grows))

-- what `fold` is given
pub foldable : {A : Type 0} {answer rest : Answer A} {lent at bytes spare e link : ℕ} {p q : Parser} (ls : List Layer) (tree : Expr Span) {made : List (ℕ × Run)}
    → Spare p lent → Place answer lent p q at bytes spare rest ((e, tree_words tree) ∷ made) → length ls ≤ spare → Links q.arena.now link ls → link < q.top
    → Foldable link e q
foldable ls tree r l h k b =
    record { layers = ls; tree = tree; links = k; standing = l.stands.0; link_below = b; spare = spare-left r (lessened _ _ (le_refl _) h l) }

-- the layers were put over the last node
pub folded : {A : Type 0} {answer rest : Answer A} {lent at bytes spare e link n : ℕ} {p q s : Parser} (ls : List Layer) (tree : Expr Span) {made : List (ℕ × Run)}
    → Folded link e q s n → Links q.arena.now link ls → Place answer lent p q at bytes spare rest ((e, tree_words tree) ∷ made) → length ls ≤ spare
    → Place answer lent p s at bytes 0 rest ((n, tree_words (fold_layers ls tree)) ∷ [])
folded ls tree f k l h =
    let g = f.layered ls tree k l.stands.0 in
    record {
      says = l.says;
      here = f.at_same ∙ l.here;
      later = later-next l.later f.later;
      forward = l.forward;
      within = omega (arith, l.within, g.top);
      stands = (record { holds = g.holds; below = f.below }, tt);
    }

-- ---- operators before an operand

-- an operand under layers
abbrev under : List Layer → ℕ → Answer (Expr Span) → Answer (Expr Span)
under [] at r = r
under (l ∷ ls) at r = need at r (λ e next. ok (fold_layers (l ∷ ls) e) next)

under_next : (ls : List Layer) (op : Operator) (at next : ℕ) (r : Answer (Expr Span))
    → under ls at (need next r (λ e n. ok (single op e) n)) ≡ under (unary_layer op ∷ ls) next r
unfolding after
under_next [] op at next (ok e n) = refl
under_next [] op at next Answer.none = refl
under_next [] op at next (refused number place) = refl
under_next (l ∷ ls) op at next (ok e n) = refl
under_next (l ∷ ls) op at next Answer.none = refl
under_next (l ∷ ls) op at next (refused number place) = refl

abbrev signed_rest : List ℕ → ℕ → List Layer → ℕ → Reader (Expr Span)
signed_rest text depth ls left at =
    after (unary_operator text at) (under ls at (parse_primary_expr text (turns text) (inner depth text) at))
    (λ op at₁. under (unary_layer op ∷ ls) at₁ (unary_tail text (turns text) (inner depth text) left at₁))

signed-is : (text : List ℕ) (depth : ℕ) (ls : List Layer) (left at : ℕ)
    → under ls at (unary_tail text (turns text) (inner depth text) (suc left) at) ≡ signed_rest text depth ls left at
unfolding unary_tail after
signed-is text depth ls left at = by-operator ls (unary_operator text at)
  where
    by-operator : (ls : List Layer) (r : Answer Operator)
        → under ls at (after r (parse_primary_expr text (turns text) (inner depth text) at)
        (λ op at₁. need at₁ (unary_tail text (turns text) (inner depth text) left at₁) (λ e at₂. ok (single op e) at₂)))
        ≡ after r (under ls at (parse_primary_expr text (turns text) (inner depth text) at))
        (λ op at₁. under (unary_layer op ∷ ls) at₁ (unary_tail text (turns text) (inner depth text) left at₁))
    by-operator ls (ok op at₁) = under_next ls op at at₁ (unary_tail text (turns text) (inner depth text) left at₁)
    by-operator ls Answer.none = refl
    by-operator [] (refused number place) = refl
    by-operator (l ∷ ls) (refused number place) = refl

pub record Signed (depth : ℕ) (p q : Parser) (link : ℕ) : Type 0 where
  pub layers : List Layer
  pub left : ℕ
  pub enough : length p.text.now ≤ q.at + left
  pub links : Links q.arena.now link layers
  pub links-below : link < q.top
  pub bare : layers ≡ [] → q ≡ p
  pub place : Place (turning parse_unary_expr depth p.text.now p.at) 0 p q q.at 0 (length layers) (signed_rest p.text.now depth layers left q.at) []

pub signed-first : (depth : ℕ) {p : Parser} → Signed depth p p 0
unfolding parse_unary_expr
signed-first depth {p} =
    record {
      layers = [];
      left = length p.text.now;
      enough = omega arith;
      links = Links.ends;
      links-below = omega (arith, p.above);
      bare = λ e. refl;
      place = said (signed-is p.text.now depth [] (length p.text.now) p.at) begin;
    }

signed-again : (depth : ℕ) {p s : Parser} (left : ℕ) (op : Operator) (ls : List Layer) {at bytes spare n : ℕ}
    → Place (turning parse_unary_expr depth p.text.now p.at) 0 p s at bytes spare
    (under (unary_layer op ∷ ls) at (unary_tail p.text.now (turns p.text.now) (inner depth p.text.now) left at)) []
    → suc (length ls) ≤ spare → length p.text.now < at + left → Links s.arena.now n (unary_layer op ∷ ls) → n < s.top → Signed depth p s n
signed-again depth {s = s} zero op ls l w h k m = absurd (omega (arith, s.inside, l.here, ap length l.later.text_same))
signed-again depth {p} (suc left) op ls {at} l w h k m =
    record {
      layers = unary_layer op ∷ ls;
      left = left;
      enough = omega (arith, l.here);
      links = k;
      links-below = m;
      bare = λ e. impossible cc;
      place = record {
        says = l.says ∙ signed-is p.text.now depth (unary_layer op ∷ ls) left at ∙ ap (signed_rest p.text.now depth (unary_layer op ∷ ls) left) (sym l.here);
        here = refl;
        later = l.later;
        forward = omega (arith, l.forward, l.here);
        within = omega (arith, l.within, l.here);
        stands = tt;
      };
    }

-- one operator more
pub signed-next : (depth : ℕ) {p q s s₁ : Parser} {link n : ℕ} {op : OperatorCode} (w : Signed depth p q link)
    → Operated as_operator unary_operator q s op → Pushed (Unary op link) s s₁ n → Signed depth p s₁ n
signed-next depth {p} {s₁ = s₁} {link} {n} {op = op} w o m =
    let l = unused m.made (operated unary_operator _ _ o w.place) (omega arith) in
    let on = later-next o.went.later m.made.later in
    let links : Links s₁.arena.now n (unary_layer (as_operator op) ∷ w.layers)
    = Links.unary_link m.here (omega (arith, w.links-below, o.top_same, m.made.last, m.made.top)) (links-kept on.kept w.links-below w.links) in
    signed-again depth w.left (as_operator op) w.layers l (omega arith) (omega (arith, w.enough, o.went.onward)) links (omega (arith, m.made.last))

links-empty : {arena : List Node} {link : ℕ} {ls : List Layer} → Links arena link ls → ls ≡ [] → link ≡ 0
links-empty Links.ends z = refl
links-empty (Links.unary_link e m r) z = impossible cc
links-empty (Links.binary_link e m b h r) z = impossible cc

under-filled : (ls : List Layer) (at : ℕ) (r : Answer (Expr Span)) → (ls ≡ [] → ⊥) → under ls at r ≡ need at r (λ e next. ok (fold_layers ls e) next)
under-filled [] at r f = absurd (f refl)
under-filled (l ∷ ls) at r f = refl

module _ {depth : ℕ} {p q s : Parser} {link : ℕ} (w : Signed depth p q link) (no : Missing unary_operator q s) where
  -- no operator: the operand alone
  pub signed-none : link ≡ 0 → s ≡ p
  signed-none z = no.same ∙ w.bare (links-none w.links z)

  pub signed-bare : link ≡ 0 → turning parse_unary_expr depth p.text.now p.at ≡ turning parse_primary_expr depth p.text.now p.at
  signed-bare z =
      let l = skipped unary_operator _ _ no w.place in
      l.says ∙ (rw (links-none w.links z, w.bare (links-none w.links z)) refl)

  -- some: the operand under them
  pub signed-operand : (link ≡ 0 → ⊥)
      → Place (turning parse_unary_expr depth p.text.now p.at) 0 p s q.at 0 (length w.layers)
      (need q.at (turning parse_primary_expr depth p.text.now q.at) (λ e next. ok (fold_layers w.layers e) next)) []
  signed-operand f = said (under-filled w.layers q.at _ (λ z. f (links-empty w.links z))) (skipped unary_operator _ _ no w.place)

  module _ (f : link ≡ 0 → ⊥) {t : Parser} {e : ℕ} (r : Read tree_words (turning parse_primary_expr depth) 1 0 s t e) where
    operand-place : Place (turning parse_unary_expr depth p.text.now p.at) 0 p t t.at 1 (length w.layers)
        (ok (fold_layers w.layers r.value) t.at) ((e, tree_words r.value) ∷ [])
    operand-place = lessened 1 (length w.layers) (omega arith) (omega arith) (read (turning parse_primary_expr depth) _ (sure r) (signed-operand f) (leb-zero _))

    operand-links : Links t.arena.now link w.layers
    operand-links = links-kept r.went.later.kept (rw no.same w.links-below) (rw no.same w.links)

    pub signed-foldable : Foldable link e t
    signed-foldable =
        foldable w.layers r.value no_credit operand-place (omega arith) operand-links (omega (arith, w.links-below, ap (λ p. p.top) no.same, r.went.later.grows))

    pub signed-done : {u : Parser} {n : ℕ} → Folded link e t u n → Read tree_words (turning parse_unary_expr depth) 1 0 p u n
    signed-done g = done (turning parse_unary_expr depth) (folded w.layers r.value g operand-links operand-place (omega arith)) refl refl

-- ---- a sequence and the sign that closes it

pub listed : (k : Kind) (depth : ℕ) (close : List ℕ) {p q s : Parser} (o : Option ℕ) {n : ℕ} → Spare p 3
    → Reads_if (list_words k) (items_rule k depth) 1 3 p q (Ok o) → n ≡ unwrap_or o 1 → Took (needed (sign close)) (length close) q s → 1 ≤ length close
    → Read (list_words k) (list_rule k close depth) 1 1 p s n
listed k depth close {p} (Some m) r f e t c =
    let l = took (sign close) _ t (read_if (items_rule k depth) _ _ f (said (listed-rule _ _ _ _ _ _) (begin_with r)) refl) in
    rw e (done (list_rule k close depth) l (le-leb _ _ (omega arith)) (le-leb _ _ (omega arith)))
listed k depth close {p} None r f e t c =
    let l = took (sign close) _ t (as_run (sym (fun_ext (nil-words k))) (with_end (skipped (items_rule k depth) _ _ f (said (listed-rule _ _ _ _ _ _) (begin_with r))))) in
    rw e (done (list_rule k close depth) l (le-leb _ _ (omega arith)) (le-leb _ _ (omega arith)))
