-- What a printer has printed of a tree's words since it stood at a place.
use Rattle.std.proofs.Common.{ℕ, Bool, eqb, ◌+◌, ◌*◌, ◌^◌, ◌≤◌, ◌<◌, ◌≡◌, refl, ap, ◌∙◌, subst, List, ◌∷◌, ◌++◌, length, drop, get_or, arith}
use Rattle.tree.specs.Walk.{head_at, natural-at}
use Rattle.tree.specs.Trees.{names_in}
use Rattle.tree.specs.Resolve.{part as part_of}
use Rattle.layout.specs.Text.{decimal}
use Rattle.rendering.specs.Tables.{name_in}
use Rattle.rendering.specs.declared.printer.Printer.{Printer}
use Rattle.rendering.specs.declared.printer.Source.{Source}
use Rattle.rendering.specs.Wrote.{Wrote, Puts}
use Rattle.rendering.specs.Parts.{Parts, Done, PrintsOf, Told, Prints, Reads, Looks, Ends, a_name, a_natural}
use Rattle.rendering.specs.ExprParts.{Ready}
use Rattle.rendering.proofs.Writing.Bytes.{none, then}

-- since s₀ the print X was written, and at s the words ws are left
pub record Walk (s₀ : Printer) (X : List ℕ → List ℕ) (ws : List ℕ) (s : Printer) : Type 0 where
  pub source : s.source ≡ s₀.source
  pub left : drop s.at s₀.source.words.now ≡ ws
  pub wrote : Wrote X s₀.out.now s₀.pos s.out.now s.pos

-- nothing is printed yet
pub begin : {s : Printer} {ws : List ℕ} → drop s.at s.source.words.now ≡ ws → Walk s (λ r. r) ws s
begin {s} d = record { source = refl; left = d; wrote = none s.out.now s.pos }

-- bytes were written
pub text : {s₀ s s₁ : Printer} {X Y : List ℕ → List ℕ} {ws : List ℕ} → Walk s₀ X ws s → Puts Y s s₁ → Walk s₀ (λ r. X (Y r)) ws s₁
text {s₀} {ws = ws} l p =
    record {
      source = p.source ∙ l.source;
      left = rw p.still l.left;
      wrote = then l.wrote p.wrote;
    }

-- nothing was written
pub unwritten : {s : Printer} → Puts (λ r. r) s s
unwritten {s} = record { source = refl; output = refl; still = refl; wrote = none s.out.now s.pos }

-- bytes that are those, by what they were made of
pub these : {x y : List ℕ} {s s₁ : Printer} → x ≡ y → Puts (λ r. x ++ r) s s₁ → Puts (λ r. y ++ r) s s₁
these {s = s} {s₁ = s₁} e p = subst (λ (l : List ℕ). Puts (λ r. l ++ r) s s₁) e p

-- a word was read
pub word : {s₀ s s₁ : Printer} {X : List ℕ → List ℕ} {w v : ℕ} {ws : List ℕ} → Walk s₀ X (w ∷ ws) s → Reads s v s₁ → Walk s₀ X ws s₁
word {s₀} {s} {s₁} {X} {w} {v} {ws} l r =
    let h = head_at s₀.source.words.now s.at w ws l.left in
    let i : s.at < length s.source.words.now = rw l.source h.0 in
    record {
      source = r.source ∙ l.source;
      left = rw (r.past i) h.2;
      wrote = rw (r.output, r.written) l.wrote;
    }

-- the word that was read is the first of those that are left
pub reads : {s₀ s s₁ : Printer} {X : List ℕ → List ℕ} {w v : ℕ} {ws : List ℕ} → Walk s₀ X (w ∷ ws) s → Reads s v s₁ → v ≡ w
reads {s₀} {s} {s₁} {X} {w} {v} {ws} l r =
    let h = head_at s₀.source.words.now s.at w ws l.left in
    r.word ∙ ap (λ (S : Source). get_or S.words.now s.at 0) l.source ∙ h.1

-- a part was printed
pub part : {s₀ s s₁ : Printer} {X : List ℕ → List ℕ} {P : Parts} {rest : List ℕ} → Prints P s s₁ → (t : (P s₀.source s.at).Tree) → (P s₀.source s.at).given t rest
    → Walk s₀ X ((P s₀.source s.at).words t rest) s → Walk s₀ (λ r. X ((P s₀.source s.at).print t r)) rest s₁
part {s₀} {s} {s₁} {X} {P} {rest} q t g l =
    let prints = subst (λ (S : Source). PrintsOf (P S s.at) S.words.now s s₁) l.source q.prints in
    let d = prints t rest g l.left in
    record { source = q.source ∙ l.source; left = d.after; wrote = then l.wrote d.wrote }

-- the same print, in other terms
pub seen : {s₀ s : Printer} {X Y : List ℕ → List ℕ} {ws : List ℕ} → X ≡ Y → Walk s₀ X ws s → Walk s₀ Y ws s
seen {s₀} {s} {ws = ws} e l = subst (λ (Z : List ℕ → List ℕ). Walk s₀ Z ws s) e l

-- the same words are left, in other terms
pub left-as : {s₀ s : Printer} {X : List ℕ → List ℕ} {ws vs : List ℕ} → ws ≡ vs → Walk s₀ X ws s → Walk s₀ X vs s
left-as {s₀} {s} {X} e l = subst (λ (us : List ℕ). Walk s₀ X us s) e l

-- all is printed
pub done : {s₀ s : Printer} {X : List ℕ → List ℕ} {ws : List ℕ} → Walk s₀ X ws s → Done s₀.source.words.now X ws s₀ s
done l = record { after = l.left; wrote = l.wrote }

-- a part was printed, whatever its tree
pub prints : {P : Parts} {s s' : Printer} → s'.source ≡ s.source → s'.out.ghost_name ≡ s.out.ghost_name → s.at ≤ s'.at → Told P s s' → Prints P s s'
prints e o f t = record { source = e; output = o; forward = f; prints = t }

-- a name was printed
pub printed-name : {s s₁ s₂ s₃ : Printer} {v w : ℕ} {x : List ℕ} → Reads s v s₁ → Reads s₁ w s₂ → x ≡ part_of s₂.source.text.now v w → Puts (λ r. x ++ r) s₂ s₃ → Told a_name s s₃
printed-name {s} {s₁} {s₂} {s₃} {v} {w} {x} r q e p n rest g d =
    let a = begin d in
    let b = word a r in
    let c = word b q in
    let y : x ≡ name_in s.source.text.now n =
    e ∙ ap (λ (S : Source). part_of S.text.now v w) c.source ∙ ap (λ (i : ℕ). part_of s.source.text.now i w) (reads a r) ∙ ap (part_of s.source.text.now n.span.start) (reads b q) in
    done (text c (these y p))

-- further on an indent fits that is no greater
pub ready : {S : Source} {at next i j : ℕ} → Ready S at i → at ≤ next → j ≤ i → Ready S next j
ready k h l = let r = k.room in record { few = k.few; short = k.short; room = omega arith }

-- and one a step deeper behind a word
pub deeper : {S : Source} {at next i j : ℕ} → Ready S at i → at < next → j ≤ i + S.step → Ready S next j
deeper k h l = let r = k.room in let s = k.short in record { few = k.few; short = k.short; room = omega arith }

-- ---- words that are looked at

-- whether the next word is 0
pub at-end : {s₀ s : Printer} {X : List ℕ → List ℕ} {w : ℕ} {ws : List ℕ} {r : Bool} → Walk s₀ X (w ∷ ws) s → Ends s r → r ≡ eqb w 0
at-end {s₀} {s} {w = w} {ws = ws} l e =
    let h = (head_at s₀.source.words.now s.at w ws l.left).1 in
    e.ends ∙ ap (λ (S : Source). eqb (get_or S.words.now s.at 0) 0) l.source ∙ ap (λ (k : ℕ). eqb k 0) h

-- the word after a name
pub third : {s : Printer} {a b w v : ℕ} {ws : List ℕ} → Walk s (λ r. r) (a ∷ b ∷ w ∷ ws) s → Looks s 2 v → v ≡ w
third {s} {a} {b} {w} {v} {ws} l e =
    let t = s.source.words.now in
    let h = head_at t s.at a (b ∷ w ∷ ws) l.left in
    let i = head_at t (s.at + 1) b (w ∷ ws) h.2 in
    let n : s.at + 1 + 1 ≡ s.at + 2 = omega arith in
    e.word ∙ (rw n at (head_at t (s.at + 1 + 1) w ws i.2)).1

-- a natural was printed
pub printed-natural : {s s₁ s₂ s₃ : Printer} {v a b : ℕ} → v ≡ get_or s.source.words.now s.at 0 * 2 ^ 32 + get_or s.source.words.now (s.at + 1) 0 → Reads s a s₁ → Reads s₁ b s₂
    → Puts (decimal v) s₂ s₃ → Told a_natural s s₃
printed-natural {s} {s₁} {s₂} {s₃} e r q p n rest g d =
    let y = e ∙ (natural-at (names_in 0) s.source.words.now s.at n rest d).0 in
    done (text (word (word (begin d) r) q) (subst (λ (k : ℕ). Puts (decimal k) s₂ s₃) y p))

-- the word that comes next
pub first : {s₀ s : Printer} {X : List ℕ → List ℕ} {w v : ℕ} {ws : List ℕ} → Walk s₀ X (w ∷ ws) s → Looks s 0 v → v ≡ w
first {s₀} {s} {w = w} {v = v} {ws = ws} l e =
    let z : s.at + 0 ≡ s.at = omega arith in
    e.word ∙ ap (λ (k : ℕ). get_or s.source.words.now k 0) z ∙ ap (λ (S : Source). get_or S.words.now s.at 0) l.source
    ∙ (head_at s₀.source.words.now s.at w ws l.left).1

-- the word after it
pub second : {s : Printer} {X : List ℕ → List ℕ} {a w v : ℕ} {ws : List ℕ} → Walk s X (a ∷ w ∷ ws) s → Looks s 1 v → v ≡ w
second {s} {a = a} {w = w} {ws = ws} l e =
    let t = s.source.words.now in
    e.word ∙ (head_at t (s.at + 1) w ws (head_at t s.at a (w ∷ ws) l.left).2).1

-- a place where a word stands is inside the table
pub inside : {s₀ s : Printer} {X : List ℕ → List ℕ} {w : ℕ} {ws : List ℕ} → Walk s₀ X (w ∷ ws) s → s.at < length s₀.source.words.now
inside {s₀} {s} {w = w} {ws = ws} l = (head_at s₀.source.words.now s.at w ws l.left).0

-- the same print, in other terms
pub as-print : {table : List ℕ} {X Y : List ℕ → List ℕ} {rest : List ℕ} {s s' : Printer} → X ≡ Y → Done table X rest s s' → Done table Y rest s s'
as-print {table} {rest = rest} {s = s} {s' = s'} e d = subst (λ (Z : List ℕ → List ℕ). Done table Z rest s s') e d

-- ---- sequences that a loop prints

-- the items that were printed since s₀ are those of the part P but for those of the part Q, which begins here
pub record Passed (P : Parts) (s₀ : Printer) (Q : Parts) (s : Printer) : Type 0 where
  pub source : s.source ≡ s₀.source
  pub output : s.out.ghost_name ≡ s₀.out.ghost_name
  pub forward : s₀.at ≤ s.at
  pub onward : (s' : Printer) → Prints Q s s' → Told P s₀ s'

-- no item is printed yet
pub none-yet : {P : Parts} {s : Printer} → Passed P s P s
none-yet = record { source = refl; output = refl; forward = omega arith; onward = λ s' p. p.prints }

-- an item more
pub one-more : {P Q R : Parts} {s₀ s s₁ : Printer} → Passed P s₀ Q s → s₁.source ≡ s.source → s₁.out.ghost_name ≡ s.out.ghost_name → s.at ≤ s₁.at
    → ((s' : Printer) → Prints R s₁ s' → Told Q s s') → Passed P s₀ R s₁
one-more k e o f item =
    record {
      source = e ∙ k.source;
      output = o ∙ k.output;
      forward = let g = k.forward in omega arith;
      onward = λ s' p. k.onward s' (prints (p.source ∙ e) (p.output ∙ o) (let g = p.forward in omega arith) (item s' p));
    }

-- all items
pub all-of : {P Q : Parts} {s₀ s s₁ : Printer} → Passed P s₀ Q s → Prints Q s s₁ → Prints P s₀ s₁
all-of {s₁ = s₁} k p = prints (p.source ∙ k.source) (p.output ∙ k.output) (let f = k.forward in let g = p.forward in omega arith) (k.onward s₁ p)
