-- Places of a program: a declaration more, and the ends of the five sequences.
use Rattle.std.proofs.Common.{ℕ, zero, suc, ◌+◌, ◌≤◌, ◌<◌, ◌≡◌, ◌∙◌, refl, sym, ap, subst, List, [], ◌∷◌, length, get_or, set, eqb, false, arith}
use Rattle.std.proofs.Math.Path.{fun_ext}
use Rattle.std.proofs.lemmas.Bool.{eqb-false}
use Rattle.std.proofs.lemmas.List.{get_or-set_same, get_or-set_other, length-set}
use Rattle.lexing.specs.Answer.{ok, refused}
use Rattle.tree.specs.Ast.{Span, Program}
use Rattle.tree.specs.Tags.{more, no_more}
use Rattle.tree.specs.Words.{program_words}
use Rattle.grammar.specs.Steps.{after, mapped}
use Rattle.grammar.specs.StepLaws.{mapped-same}
use Rattle.grammar.specs.Declarations.{declare, SeparateTopLevelDecls, TopLevel}
use Rattle.parsing.specs.Arena.{Run, Holds}
use Rattle.parsing.specs.Code.{opening}
use Rattle.parsing.specs.Contract.{Spare, Later, Read, Missing, Standing, Pushed, Four, Closes, same}
use Rattle.parsing.specs.Declarations.{decl_words, decl_rule, top_level, kind_rule, Begun, place_of, last_of, part_words, joined_run, Joined}
use Rattle.parsing.specs.declared.arena.Node.TheVariants.{Item, Pair}
use Rattle.parsing.specs.declared.parser.Parser.{Parser}
use Rattle.parsing.specs.declared.program.DeclKind.{DeclKind}
use Rattle.parsing.specs.declared.program.DeclKind.TheVariants.{Types, Taggers, Functions, Axioms, Procedures}
use Rattle.parsing.specs.contracts.program.DeclKind.{the_type as kind-type}
use denote.Enum.Declared.{tag_of}
use Rattle.parsing.proofs.Laws.{after-ok}
use Rattle.parsing.proofs.Places.{Place, begin_with, read_if, skipped, said, standing-on, later-next, later-same, made-standing, pair-holds, item-holds}
use Rattle.parsing.proofs.StatementPlaces.{refuses}
use Rattle.parsing.proofs.ProgramRules.{rest, turn-is}

-- ---- a turn

-- the declarations of a kind that were read: their run, before the words of what is left
pub record Part (q : Parser) (lists : List ℕ) (more : Program Span → Program Span) (s : DeclKind) : Type 0 where
  pub run : Run
  pub stands : Standing q (last_of lists s) run
  pub joins : (l : Program Span) (r : List ℕ) → run (part_words s l r) ≡ part_words s (more l) r

-- declarations were read, and `more` puts them before what is left, with more turns left than bytes
pub record Declaring (depth : ℕ) (p q : Parser) (lists : List ℕ) : Type 0 where
  pub more : Program Span → Program Span
  pub left : ℕ
  pub enough : length p.text.now ≤ q.at + left
  pub place : Place (opening TopLevel depth p.text.now p.at) 9 p q q.at 0 9 (mapped more (rest depth p.text.now (suc left) q.at)) []
  pub length_is : length lists ≡ 5
  pub parts : (s : DeclKind) → Part q lists more s

-- a kind's number is the place of its sequence
pub kind-place : (s : DeclKind) → tag_of kind-type s ≡ place_of s
kind-place Types = refl
kind-place Taggers = refl
kind-place Functions = refl
kind-place Axioms = refl
kind-place Procedures = refl

-- a fact of each kind
five : (P : DeclKind → Type 0) → P Types → P Taggers → P Functions → P Axioms → P Procedures → (s : DeclKind) → P s
five P a b c d e Types = a
five P a b c d e Taggers = b
five P a b c d e Functions = c
five P a b c d e Axioms = d
five P a b c d e Procedures = e

-- before the first turn
pub none-declared : (depth : ℕ) (p : Parser) → Spare p 9 → Declaring depth p p (0 ∷ 0 ∷ 0 ∷ 0 ∷ 0 ∷ [])
unfolding TopLevel
none-declared depth p r =
    record {
      more = λ l. l;
      left = length p.text.now;
      enough = omega arith;
      place = said (sym (mapped-same _)) (begin_with r);
      length_is = refl;
      parts = five _ (none_of refl) (none_of refl) (none_of refl) (none_of refl) (none_of refl);
    }
  where
    none-stands : Standing p 0 (λ r. r)
    none-stands = record { holds = Holds.empty p.empty_run; below = omega (arith, p.above) }

    none_of : {s : DeclKind} → last_of (0 ∷ 0 ∷ 0 ∷ 0 ∷ 0 ∷ []) s ≡ 0 → Part p (0 ∷ 0 ∷ 0 ∷ 0 ∷ 0 ∷ []) (λ l. l) s
    none_of e = record { run = λ r. r; stands = rw e none-stands; joins = λ l r. refl }

module _ (depth : ℕ) {p q : Parser} {lists : List ℕ} (d : Declaring depth p q lists) where
  abbrev text : List ℕ
  text = p.text.now

  -- what is left by the next word
  at-word : Place (opening TopLevel depth text p.at) 9 p q q.at 0 9 (after (kind_rule text q.at) (ok (d.more (SeparateTopLevelDecls [])) q.at)
      (λ s n. after (decl_rule s depth text n) (ok (d.more (SeparateTopLevelDecls [])) q.at)
      (λ e m. mapped (λ p. d.more (declare (top_level s e) p)) (rest depth text d.left m)))) []
  at-word = said (turn-is depth text d.more d.left q.at) d.place

  module _ {q₁ : Parser} {s : DeclKind} (b : Begun kind_rule q q₁ s) where
    -- its kind was told
    pub at-decl : Place (opening TopLevel depth text p.at) 9 p q₁ q₁.at 4 17 (after (decl_rule s depth text q₁.at) (ok (d.more (SeparateTopLevelDecls [])) q.at)
        (λ e m. mapped (λ p. d.more (declare (top_level s e) p)) (rest depth text d.left m))) []
    at-decl =
        let l = at-word in
        let h : kind_rule text q.at ≡ ok s q₁.at = rw (← l.later.text_same) b.says in
        record {
          says = l.says ∙ after-ok (kind_rule text q.at) _ _ h;
          here = refl;
          later = later-next l.later b.went.later;
          forward = omega (arith, l.forward, l.here, b.went.onward);
          within = omega (arith, l.within, l.here, b.went.onward, b.top_same);
          stands = tt;
        }

    module _ {q₂ q₃ : Parser} {e n : ℕ} (f : Read (decl_words s) (decl_rule s depth) 1 5 q₁ q₂ e) (m : Pushed (Item (last_of lists s) e) q₂ q₃ n) where
      -- the declaration was read
      pub at-item : Place (opening TopLevel depth text p.at) 9 p q₂ q₂.at 5 12 (mapped (λ p. d.more (declare (top_level s f.value) p)) (rest depth text d.left q₂.at))
          ((e, decl_words s f.value) ∷ [])
      at-item = read_if (decl_rule s depth) _ _ f at-decl refl

      up : Later q q₃
      up = later-next (later-next b.went.later f.went.later) m.made.later

      abbrev lists₁ : List ℕ
      lists₁ = set lists (place_of s) n

      abbrev more₁ : Program Span → Program Span
      more₁ p = d.more (declare (top_level s f.value) p)

      -- its sequence has one item more
      item-part : ((l : Program Span) (r : List ℕ) → part_words s (declare (top_level s f.value) l) r ≡ more ∷ decl_words s f.value (part_words s l r))
          → place_of s < 5 → Part q₃ lists₁ more₁ s
      item-part w l =
          let g = d.parts s in
          let e : last_of lists₁ s ≡ n = get_or-set_same lists (place_of s) n 0 (omega (arith, l, d.length_is)) in
          record {
            run = λ r. g.run (more ∷ decl_words s f.value r);
            stands = rw e (made-standing m.made (item-holds (standing-on (later-next b.went.later f.went.later) g.stands) at-item.stands.0 m));
            joins = λ l r. ap g.run (sym (w l r)) ∙ g.joins (declare (top_level s f.value) l) r;
          }

      -- the others are as they were
      other-part : (t : DeclKind) → eqb (place_of t) (place_of s) ≡ false
          → ((l : Program Span) (r : List ℕ) → part_words t (declare (top_level s f.value) l) r ≡ part_words t l r) → Part q₃ lists₁ more₁ t
      other-part t h w =
          let g = d.parts t in
          let e : last_of lists₁ t ≡ last_of lists t = get_or-set_other lists (place_of s) (place_of t) n 0 (eqb-false _ _ h) in
          record {
            run = g.run;
            stands = rw e (standing-on up g.stands);
            joins = λ l r. ap g.run (sym (w l r)) ∙ g.joins (declare (top_level s f.value) l) r;
          }

-- each of the five after a turn
module _ (depth : ℕ) {p q q₁ q₂ q₃ : Parser} {lists : List ℕ} {e n : ℕ} (d : Declaring depth p q lists) where
  parts-after : (s : DeclKind) (b : Begun kind_rule q q₁ s) (f : Read (decl_words s) (decl_rule s depth) 1 5 q₁ q₂ e) → Pushed (Item (last_of lists s) e) q₂ q₃ n
      → (t : DeclKind) → Part q₃ (set lists (place_of s) n) (λ p. d.more (declare (top_level s f.value) p)) t
  parts-after Types b f m =
      let other = other-part depth d b f m in
      five _ (item-part depth d b f m (λ l r. refl) (omega arith)) (other Taggers refl (λ l r. refl)) (other Functions refl (λ l r. refl))
      (other Axioms refl (λ l r. refl)) (other Procedures refl (λ l r. refl))
  parts-after Taggers b f m =
      let other = other-part depth d b f m in
      five _ (other Types refl (λ l r. refl)) (item-part depth d b f m (λ l r. refl) (omega arith)) (other Functions refl (λ l r. refl))
      (other Axioms refl (λ l r. refl)) (other Procedures refl (λ l r. refl))
  parts-after Functions b f m =
      let other = other-part depth d b f m in
      five _ (other Types refl (λ l r. refl)) (other Taggers refl (λ l r. refl)) (item-part depth d b f m (λ l r. refl) (omega arith))
      (other Axioms refl (λ l r. refl)) (other Procedures refl (λ l r. refl))
  parts-after Axioms b f m =
      let other = other-part depth d b f m in
      five _ (other Types refl (λ l r. refl)) (other Taggers refl (λ l r. refl)) (other Functions refl (λ l r. refl))
      (item-part depth d b f m (λ l r. refl) (omega arith)) (other Procedures refl (λ l r. refl))
  parts-after Procedures b f m =
      let other = other-part depth d b f m in
      five _ (other Types refl (λ l r. refl)) (other Taggers refl (λ l r. refl)) (other Functions refl (λ l r. refl)) (other Axioms refl (λ l r. refl))
      (item-part depth d b f m (λ l r. refl) (omega arith))

  module _ {s : DeclKind} (b : Begun kind_rule q q₁ s) (f : Read (decl_words s) (decl_rule s depth) 1 5 q₁ q₂ e) (m : Pushed (Item (last_of lists s) e) q₂ q₃ n) where
    abbrev more₂ : Program Span → Program Span
    more₂ p = d.more (declare (top_level s f.value) p)

    next-turn : Declaring depth p q₃ (set lists (place_of s) n)
    next-turn = by-left d.left d.enough (at-item depth d b f m)
      where
        by-left : (left : ℕ) → length p.text.now ≤ q.at + left
            → Place (opening TopLevel depth p.text.now p.at) 9 p q₂ q₂.at 5 12 (mapped more₂ (rest depth p.text.now left q₂.at)) ((e, decl_words s f.value) ∷ [])
            → Declaring depth p q₃ (set lists (place_of s) n)
        by-left zero w l =
            absurd (omega (arith, w, b.went.onward, f.went.onward, q₂.inside, ap length l.later.text_same))
        by-left (suc left) w l =
            record {
              more = more₂;
              left = left;
              enough = omega (arith, w, b.went.onward, f.went.onward, m.made.at_same);
              place = record {
                says = l.says ∙ ap (λ at. mapped more₂ (rest depth p.text.now (suc left) at)) (sym m.made.at_same);
                here = refl;
                later = later-next l.later m.made.later;
                forward = omega (arith, l.forward, m.made.at_same);
                within = omega (arith, l.within, m.made.top, m.made.at_same);
                stands = tt;
              };
              length_is = length-set lists (place_of s) n ∙ d.length_is;
              parts = parts-after s b f m;
            }

-- the next turn, after a declaration
pub declared : (depth : ℕ) {p q q₁ q₂ q₃ : Parser} {lists : List ℕ} {i e n : ℕ} (s : DeclKind) → i ≡ place_of s → Declaring depth p q lists
    → Begun kind_rule q q₁ s → Read (decl_words s) (decl_rule s depth) 1 5 q₁ q₂ e → Pushed (Item (get_or lists i 0) e) q₂ q₃ n → Declaring depth p q₃ (set lists i n)
declared depth {lists = lists} {n = n} s w d b f m = rw w (next-turn depth d b f (rw w at m))

-- a declaration is refused, at its word or after it
module _ (depth : ℕ) {p q : Parser} {lists : List ℕ} (d : Declaring depth p q lists) {number place : ℕ} where
  pub word-refused : kind_rule q.text.now q.at ≡ refused number place → opening TopLevel depth p.text.now p.at ≡ refused number place
  word-refused e = refuses kind_rule _ _ e (at-word depth d)

  pub decl-refused : {q₁ : Parser} {s : DeclKind} → Begun kind_rule q q₁ s → decl_rule s depth q₁.text.now q₁.at ≡ refused number place
      → opening TopLevel depth p.text.now p.at ≡ refused number place
  decl-refused {s = s} b e = refuses (decl_rule s depth) _ _ e (at-decl depth d b)

-- ---- the end

-- the ends of some sequences were made
pub record Ending (p q : Parser) (k : ℕ) : Type 0 where
  pub later : Later p q
  pub at_same : q.at ≡ p.at
  pub grows : q.top ≤ p.top + k

pub none-ended : {p : Parser} → Ending p p 0
none-ended =
    record {
      later = later-same;
      at_same = refl;
      grows = omega arith;
    }

pub ended : {p q s : Parser} {k list n : ℕ} → Closes list q s n → Ending p q k → Ending p s (k + 1)
ended c e =
    record {
      later = later-next e.later c.later;
      at_same = c.at_same ∙ e.at_same;
      grows = omega (arith, c.grows, e.grows);
    }

closed : {p q : Parser} {list n : ℕ} {f : Run} → Closes list p q n → Standing p list f → Standing q n (λ r. f (no_more ∷ r))
closed c s = record { holds = c.holds s; below = c.below }

pub all-joined : {lists : List ℕ} {p p₁ p₂ p₃ p₄ p₅ p₆ q : Parser} {a b c d e m n : ℕ} → Closes (last_of lists Types) p p₁ a → Closes (last_of lists Taggers) p₁ p₂ b
    → Closes (last_of lists Functions) p₂ p₃ c → Closes (last_of lists Axioms) p₃ p₄ d → Closes (last_of lists Procedures) p₄ p₅ e → Pushed (Pair a b) p₅ p₆ m
    → Four m c d e p₆ q n → Joined lists p q n
all-joined {lists} {p} a b c d e m n =
    let after₁ = ended a none-ended in
    let after₂ = ended b after₁ in
    let after₃ = ended c after₂ in
    let after₄ = ended d after₃ in
    let after₅ = ended e after₄ in
    let on₅ = e.later in
    let on₄ = later-next d.later on₅ in
    let on₃ = later-next c.later on₄ in
    let on₂ = later-next b.later on₃ in
    record {
      later = later-next after₅.later (later-next m.made.later n.made.later);
      at_same = n.made.at_same ∙ m.made.at_same ∙ after₅.at_same;
      grows = omega (arith, after₅.grows, m.made.top, n.made.top);
      below = omega (arith, n.made.last);
      holds = λ f o.
          let x = standing-on on₂ (closed a (o Types)) in
          let y = standing-on on₃ (closed b (standing-on after₁.later (o Taggers))) in
          let z = standing-on on₄ (closed c (standing-on after₂.later (o Functions))) in
          let v = standing-on on₅ (closed d (standing-on after₃.later (o Axioms))) in
          let w = closed e (standing-on after₄.later (o Procedures)) in
          let up = m.made.later in
          n.holds (made-standing m.made (pair-holds x y m)) (standing-on up z) (standing-on up v) (standing-on up w);
    }

-- no declaration begins: the program is whole
module _ (depth : ℕ) {p q : Parser} {lists : List ℕ} (d : Declaring depth p q lists) where
  abbrev value : Program Span
  value = d.more (SeparateTopLevelDecls [])

  part-run : (s : DeclKind) (r : List ℕ) → (d.parts s).run (no_more ∷ r) ≡ part_words s value r
  unfolding SeparateTopLevelDecls
  part-run s r = ap (d.parts s).run (sym (none-written s)) ∙ (d.parts s).joins (SeparateTopLevelDecls []) r
    where
      none-written : (s : DeclKind) → part_words s (SeparateTopLevelDecls []) r ≡ no_more ∷ r
      none-written = five _ refl refl refl refl refl

  program-run : joined_run (λ s. (d.parts s).run) ≡ program_words same value
  program-run =
      fun_ext
      (λ r. part-run Types _
      ∙ ap (part_words Types value)
      (part-run Taggers _
      ∙ ap (part_words Taggers value)
      (part-run Functions _ ∙ ap (part_words Functions value) (part-run Axioms _ ∙ ap (part_words Axioms value) (part-run Procedures r)))))

  pub program-ends : {q₁ q₂ : Parser} {n : ℕ} → Missing kind_rule q q₁ → Joined lists q₁ q₂ n → Read (program_words same) (opening TopLevel depth) 0 9 p q₂ n
  program-ends {q₂ = q₂} {n} m j =
      let l = skipped kind_rule _ _ m (at-word depth d) in
      let h = j.holds (λ s. (d.parts s).run) (λ s. rw m.same (d.parts s).stands) in
      record {
        value = value;
        says = l.says ∙ ap (ok value) (sym l.here ∙ sym j.at_same);
        holds = subst (Holds q₂.arena.now n) program-run h;
        below = j.below;
        went = record {
          later = later-next l.later j.later;
          onward = omega (arith, l.forward, l.here, j.at_same);
          paid = omega (arith, l.within, l.here, j.grows, j.at_same);
        };
      }
