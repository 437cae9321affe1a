-- What the first word of a tree tells of the part that stands behind it.
use Rattle.std.proofs.Common.{ℕ, zero, suc, ◌+◌, ◌-◌, ◌<◌, ◌≡◌, sym, ◌∙◌, subst, arith, List, [], ◌∷◌, length, drop, get_or, Option, Some}
use Rattle.tree.specs.Codes.{Decodes}
use Rattle.tree.specs.Walk.{head_at}
use Rattle.rendering.specs.declared.printer.Printer.{Printer}
use Rattle.rendering.specs.Wrote.{Puts}
use Rattle.rendering.specs.Parts.{Parts, Done, Told, Prints, Reads, free}
use Rattle.rendering.proofs.Walk.{begin, word, text, part, done, as-print}

-- the word of what was found
pub found : {E : Type 0} {code : E → ℕ} {w : ℕ} {q : Option E} {e : E} → Decodes code w q → q ≡ Some e → w ≡ code e
found {e = e} d h = sym ((d e).0 h)

-- a word that is not 0 stands in the table
pub within : (l : List ℕ) (i : ℕ) → 0 < get_or l i 0 → i < length l
within [] zero k = absurd (omega arith)
within [] (suc i) k = absurd (omega arith)
within (x ∷ l) zero k = omega arith
within (x ∷ l) (suc i) k = let r = within l i k in omega arith

-- so less is left when it was passed
pub passed : {s s₁ : Printer} {w : ℕ} → Reads s w s₁ → 0 < w → length s₁.source.words.now - s₁.at < length s.source.words.now - s.at
passed {s} {s₁} {w} r h =
    let i = within s.source.words.now s.at (let e = r.word in omega arith) in
    let n = r.past i in
    rw r.source (omega arith)

-- a tree is printed as the part that its first word tells
pub by-word : {s s₁ s₂ : Printer} {w : ℕ} → Reads s w s₁ → (Q P : Parts) (k : ℕ) (make : (P s.source s₁.at).Tree → (Q s.source s.at).Tree)
    → ((t : (Q s.source s.at).Tree) (rest : List ℕ) → drop s.at s.source.words.now ≡ (Q s.source s.at).words t rest → (a : (P s.source s₁.at).Tree) × (make a ≡ t))
    → ((a : (P s.source s₁.at).Tree) (rest : List ℕ) → s₁.at ≡ s.at + 1 → (Q s.source s.at).given (make a) rest → (P s.source s₁.at).given a rest)
    → ((a : (P s.source s₁.at).Tree) (rest : List ℕ) → (Q s.source s.at).words (make a) rest ≡ k ∷ (P s.source s₁.at).words a rest)
    → ((a : (P s.source s₁.at).Tree) → (P s.source s₁.at).print a ≡ (Q s.source s.at).print (make a)) → Prints P s₁ s₂ → Told Q s s₂
by-word {s} {s₁} {s₂} r Q P k make opens given words print x t rest g d =
    let o = opens t rest d in
    let D : (Q s.source s.at).Tree → Type 0 = λ u.
    (Q s.source s.at).given u rest → drop s.at s.source.words.now ≡ (Q s.source s.at).words u rest → Done s.source.words.now ((Q s.source s.at).print u) rest s s₂ in
    let made : D (make o.0) = λ n e.
    let e₁ = e ∙ words o.0 rest in
    let h = (head_at s.source.words.now s.at k ((P s.source s₁.at).words o.0 rest) e₁).0 in
    as-print (print o.0) (done (part x o.0 (given o.0 rest (r.past h) n) (word (begin e₁) r))) in
    subst D o.1 made g d

-- a fixed text
pub fixed : {X : List ℕ → List ℕ} {s s₁ : Printer} → Puts X s s₁ → Prints (free (λ S (u : Unit {0}) rest. rest) (λ S u. X)) s s₁
fixed {s = s} p =
    record {
      source = p.source;
      output = p.output;
      forward = let e = p.still in omega arith;
      prints = λ u rest g d. done (text (begin {s = s} d) p);
    }
