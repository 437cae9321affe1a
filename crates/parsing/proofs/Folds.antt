-- The loop of `fold`: each turn puts one layer over the operand.
use Rattle.std.proofs.Common.{ℕ, ◌+◌, ◌<◌, ◌≡◌, ◌∙◌, refl, sym, ap, List, [], ◌∷◌, length, get_or, arith}
use Rattle.tree.specs.Ast.{Span, Expr}
use Rattle.tree.specs.Clash.{impossible}
use Rattle.tree.specs.Codes.{as_operator}
use Rattle.tree.specs.declared.word.Operator.{Operator}
use Rattle.grammar.specs.Reading.{tree_words}
use Rattle.parsing.specs.Arena.{Holds, outside}
use Rattle.parsing.specs.Contract.{Spare, Later, Standing, Pushed}
use Rattle.parsing.specs.Code.{Layer, unary_layer, binary_layer, layered, fold_layers, Links, Foldable, Folded, Layered}
use Rattle.parsing.specs.declared.arena.Node.{Node}
use Rattle.parsing.specs.declared.arena.Node.TheVariants.{Empty, Unary, Binary}
use Rattle.parsing.specs.declared.parser.Parser.{Parser}
use Rattle.parsing.proofs.Places.{later-next, standing-on, made-standing, unary-holds, binary-holds}

-- the layers that are left, over the operand e, give the whole tree of ls and t
pub record Rest (p s : Parser) (link e : ℕ) (ls : List Layer) (t : Expr Span) : Type 0 where
  pub layers : List Layer
  pub tree : Expr Span
  pub links : Links p.arena.now link layers
  pub standing : Standing s e (tree_words tree)
  pub whole : fold_layers layers tree ≡ fold_layers ls t
  pub count : s.top + length layers ≡ p.top + length ls

pub record Folding (p : Parser) (first last : ℕ) (s : Parser) (link e : ℕ) : Type 0 where
  pub later : Later p s
  pub at_same : s.at ≡ p.at
  pub link_below : link < p.top
  pub rest : (ls : List Layer) (t : Expr Span) → Links p.arena.now first ls → Standing p last (tree_words t) → Rest p s link e ls t

-- a link is a node over an operator, or there is none
pub data Linking (arena : List Node) (link : ℕ) (ls : List Layer) : Type 0 where
  none : link ≡ 0 → ls ≡ [] → Linking arena link ls
  unary : (op : Operator) (z : ℕ) (rest : List Layer) → get_or arena link outside ≡ Unary op z → z < link → Links arena z rest
      → ls ≡ unary_layer (as_operator op) ∷ rest → Linking arena link ls
  binary : (op : Operator) (a : Expr Span) (y z : ℕ) (rest : List Layer) → get_or arena link outside ≡ Binary op y z → z < link → y < link
      → Holds arena y (tree_words a) → Links arena z rest → ls ≡ binary_layer (as_operator op) a ∷ rest → Linking arena link ls

pub linking : {arena : List Node} {link : ℕ} {ls : List Layer} → Links arena link ls → Linking arena link ls
linking Links.ends = none refl refl
linking (Links.unary_link e l r) = unary _ _ _ e l r refl
linking (Links.binary_link e l m h r) = binary _ _ _ _ _ e l m h r refl

-- a turn reads a link that falls, and there is room for its node
pub record Turn (s : Parser) (link before : ℕ) : Type 0 where
  pub falls : before < link
  pub room : Spare s 1

module _ {p s : Parser} {first last link e : ℕ} (o : Folding p first last s link e) where
  -- a link is not the empty run
  filled : {n : Node} → get_or s.arena.now link outside ≡ n → (n ≡ Empty → ⊥) → link ≡ 0 → ⊥
  filled h k z = k (sym h ∙ ap (λ i. get_or s.arena.now i outside) z ∙ s.empty_run)

  was : get_or s.arena.now link outside ≡ get_or p.arena.now link outside
  was = o.later.kept.below link o.link_below

  roomy : (f : Foldable first last p) (n : ℕ) → s.top + (1 + n) ≡ p.top + length f.layers → Spare s 1
  roomy f n h =
      record { room = omega (arith, f.spare.room, ap length o.later.text_same, o.later.kept.length-kept, o.at_same) }

  module _ {op : Operator} {before : ℕ} (h : get_or s.arena.now link outside ≡ Unary op before) where
    pub unary-turn : Foldable first last p → Turn s link before
    unary-turn f = let r = o.rest f.layers f.tree f.links f.standing in by-link r.layers (linking r.links) r.count
      where
        by-link : (ls : List Layer) → Linking p.arena.now link ls → s.top + length ls ≡ p.top + length f.layers → Turn s link before
        by-link ls (none z k) c = absurd (filled h (λ e. impossible cc) z)
        by-link ls (unary op₁ z rest k l m d) c =
            let q : z ≡ before = let g = sym k ∙ sym was ∙ h in cc in
            record { falls = omega arith; room = roomy f (length rest) (omega (arith, ap length d)) }
        by-link ls (binary op₁ a y z rest k l m n i d) c = let g = sym k ∙ sym was ∙ h in impossible cc

    pub unary-next : {q : Parser} {n : ℕ} → Turn s link before → Pushed (Unary op e) s q n → Folding p first last q before n
    unary-next {q} {n} u m =
        record {
          later = later-next o.later m.made.later;
          at_same = m.made.at_same ∙ o.at_same;
          link_below = omega (arith, u.falls, o.link_below);
          rest = λ ls t k st. let r = o.rest ls t k st in by-link ls t r.tree r.layers (linking r.links) r.standing r.whole r.count;
        }
      where
        by-link : (ls : List Layer) (t tree : Expr Span) (layers : List Layer) → Linking p.arena.now link layers → Standing s e (tree_words tree)
            → fold_layers layers tree ≡ fold_layers ls t → s.top + length layers ≡ p.top + length ls → Rest p q before n ls t
        by-link ls t tree layers (none z k) st w c = absurd (filled h (λ e. impossible cc) z)
        by-link ls t tree layers (unary op₁ z rest k l i d) st w c =
            let g = sym k ∙ sym was ∙ h in
            let x : z ≡ before = cc in
            let y : op ≡ op₁ = cc in
            record {
              layers = rest;
              tree = layered (unary_layer (as_operator op₁)) tree;
              links = rw x at i;
              standing = made-standing m.made (unary-holds (rw y at m) st);
              whole = rw d at w;
              count = omega (arith, c, ap length d, m.made.top);
            }
        by-link ls t tree layers (binary op₁ a y z rest k l i j v d) st w c = let g = sym k ∙ sym was ∙ h in impossible cc

  module _ {op : Operator} {a before : ℕ} (h : get_or s.arena.now link outside ≡ Binary op a before) where
    pub binary-turn : Foldable first last p → Turn s link before
    binary-turn f = let r = o.rest f.layers f.tree f.links f.standing in by-link r.layers (linking r.links) r.count
      where
        by-link : (ls : List Layer) → Linking p.arena.now link ls → s.top + length ls ≡ p.top + length f.layers → Turn s link before
        by-link ls (none z k) c = absurd (filled h (λ e. impossible cc) z)
        by-link ls (unary op₁ z rest k l m d) c = let g = sym k ∙ sym was ∙ h in impossible cc
        by-link ls (binary op₁ x y z rest k l m n i d) c =
            let q : z ≡ before = let g = sym k ∙ sym was ∙ h in cc in
            record { falls = omega arith; room = roomy f (length rest) (omega (arith, ap length d)) }

    pub binary-next : {q : Parser} {n : ℕ} → Turn s link before → Pushed (Binary op a e) s q n → Folding p first last q before n
    binary-next {q} {n} u m =
        record {
          later = later-next o.later m.made.later;
          at_same = m.made.at_same ∙ o.at_same;
          link_below = omega (arith, u.falls, o.link_below);
          rest = λ ls t k st. let r = o.rest ls t k st in by-link ls t r.tree r.layers (linking r.links) r.standing r.whole r.count;
        }
      where
        by-link : (ls : List Layer) (t tree : Expr Span) (layers : List Layer) → Linking p.arena.now link layers → Standing s e (tree_words tree)
            → fold_layers layers tree ≡ fold_layers ls t → s.top + length layers ≡ p.top + length ls → Rest p q before n ls t
        by-link ls t tree layers (none z k) st w c = absurd (filled h (λ e. impossible cc) z)
        by-link ls t tree layers (unary op₁ z rest k l i d) st w c = let g = sym k ∙ sym was ∙ h in impossible cc
        by-link ls t tree layers (binary op₁ b y z rest k l i v j d) st w c =
            let g = sym k ∙ sym was ∙ h in
            let x : z ≡ before = cc in
            let y₁ : op ≡ op₁ = cc in
            let y₂ : a ≡ y = cc in
            let first : Standing p y (tree_words b) = record { holds = v; below = omega (arith, o.link_below) } in
            record {
              layers = rest;
              tree = layered (binary_layer (as_operator op₁) b) tree;
              links = rw x at j;
              standing = made-standing m.made (binary-holds (standing-on o.later first) st (rw (y₁, y₂) at m));
              whole = rw d at w;
              count = omega (arith, c, ap length d, m.made.top);
            }

  -- a link that is no operator is none
  pub folding-end : ((op : Operator) (before : ℕ) → get_or s.arena.now link outside ≡ Unary op before → ⊥)
      → ((op : Operator) (a before : ℕ) → get_or s.arena.now link outside ≡ Binary op a before → ⊥) → Foldable first last p → Folded first last p s e
  folding-end u b f =
      let r = o.rest f.layers f.tree f.links f.standing in
      record {
        later = o.later;
        at_same = o.at_same;
        below = r.standing.below;
        layered = λ ls t k st. let r = o.rest ls t k st in by-link ls t r.tree r.layers (linking r.links) r.standing r.whole r.count;
      }
    where
      by-link : (ls : List Layer) (t tree : Expr Span) (layers : List Layer) → Linking p.arena.now link layers → Standing s e (tree_words tree)
          → fold_layers layers tree ≡ fold_layers ls t → s.top + length layers ≡ p.top + length ls → Layered ls t p s e
      by-link ls t tree layers (none z k) st w c =
          let x : tree ≡ fold_layers ls t = rw k at w in
          record { holds = rw x at st.holds; top = omega (arith, ap length k) }
      by-link ls t tree layers (unary op z rest k l i d) st w c = absurd (u _ _ (was ∙ k))
      by-link ls t tree layers (binary op a y z rest k l i v j d) st w c = absurd (b _ _ _ (was ∙ k))
