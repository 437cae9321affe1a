-- The relation between the byte rules and the token parser, and what the combinators of the two keep of it.
use Rattle.std.specs.Prelude.{ℕ, ◌≤◌, ◌≡◌, refl, List, ◌∷◌, length}
use Rattle.std.proofs.Math.Option.{Option, some}
use Rattle.lexing.specs.Answer.{Answer, ok, refused}
use Rattle.grammar.specs.Tokens.{Token, illegal, tokens_after}
use Rattle.grammar.specs.Parser as parser
use Rattle.grammar.specs.Parser.{Parsed, parsed, failed, see}
use Rattle.grammar.specs.Steps.{after}
use Rattle.tree.specs.Clash.{impossible}
use Rattle.grammar.proofs.Laws.Limited.{limited}
use Rattle.grammar.proofs.Laws.Stops.{Misses, see-misses}

-- the tokens from a place on, a natural past the limit counted as illegal
unfoldable pub tokens : List ℕ → ℕ → List Token
tokens text at = limited (tokens_after at text)

-- the token side can't go on: it fails, or an illegal token is next
pub data Halted {A : Type 0} : Parsed A → Type 0 where
  fails : Halted failed
  waits : {a : A} {ts : List Token} → Halted (parsed a (illegal ∷ ts))

-- the byte side keeps a token, and what it reads satisfies P
pub data Ends {A : Type 0} (P : A → Type 0) : Answer A → Type 0 where
  refuses : {number place : ℕ} → Ends P (refused number place)
  reads : {a : A} {next : ℕ} → P a → Ends P (ok a next)

-- the byte side keeps a token
abbrev pub KeepsToken : {A : Type 0} → Answer A → Type 0
KeepsToken = Ends (λ _. Unit {0})

-- what the byte side reads, if anything, satisfies P
pub data Dead {A : Type 0} (P : A → Type 0) : Answer A → Type 0 where
  absent : Dead P Answer.none
  ends : {r : Answer A} → Ends P r → Dead P r

-- Both sides read the same value and stop at the same place, or neither gives an operator tree that can be continued. `twin` gives a value
-- with its names as bytes; `Bad` holds of values that are no operator trees.
pub data Sim (text : List ℕ) {A B : Type 0} (twin : A → B) (Bad : A → Type 0) : Answer A → Parsed B → Type 0 where
  agree : (a : A) (next : ℕ) → next ≤ length text → Sim text twin Bad (ok a next) (parsed (twin a) (tokens text next))
  dead : {r : Answer A} {o : Parsed B} → Dead Bad r → Halted o → Sim text twin Bad r o

-- A test on bytes and one on the next token accept the same. Where a blank after the token is not closed, the byte side refuses and an
-- illegal token is next.
pub data Test (text : List ℕ) {A X : Type 0} (twin : A → X) (look : Token → Option X) : Answer A → List Token → Type 0 where
  seen : (a : A) (next : ℕ) (o : Token) → next ≤ length text → look o ≡ some (twin a) → Test text twin look (ok a next) (o ∷ tokens text next)
  unclosed : (number place : ℕ) (o : Token) (x : X) (ts : List Token) → look o ≡ some x
      → Test text twin look (refused number place) (o ∷ illegal ∷ ts)
  missed : {ts : List Token} → Misses look ts → Test text twin look Answer.none ts

module _ {A B : Type 0} where
  -- whatever the first rule reads, the second ends it
  pub ends-after : {P : B → Type 0} (r : Answer A) (stop : Answer B) (go : A → ℕ → Answer B) → Ends P stop → ((a : A) (next : ℕ) → Ends P (go a next))
      → Ends P (after r stop go)
  unfolding after
  ends-after (ok a next) stop go s g = g a next
  ends-after Answer.none stop go s g = s
  ends-after (refused number place) stop go s g = refuses

  -- whatever the first rule reads, what the second reads, if anything, satisfies P
  pub dead-after : {P : B → Type 0} (r : Answer A) (stop : Answer B) (go : A → ℕ → Answer B) → Dead P stop → ((a : A) (next : ℕ) → Dead P (go a next))
      → Dead P (after r stop go)
  unfolding after
  dead-after (ok a next) stop go s g = g a next
  dead-after Answer.none stop go s g = s
  dead-after (refused number place) stop go s g = ends refuses

  -- the same where the first keeps a token
  pub ends-then : {P : B → Type 0} {Q : A → Type 0} {r : Answer A} (stop : Answer B) (go : A → ℕ → Answer B) → Ends Q r
      → ((a : A) (next : ℕ) → Ends P (go a next)) → Ends P (after r stop go)
  unfolding after
  ends-then stop go refuses g = refuses
  ends-then stop go (reads {a} {next} q) g = g a next

  -- the same where what the first reads, if anything, satisfies Q
  pub dead-then : {P : B → Type 0} {Q : A → Type 0} {r : Answer A} (stop : Answer B) (go : A → ℕ → Answer B) → Dead Q r → Dead P stop
      → ((a : A) (next : ℕ) → Q a → Dead P (go a next)) → Dead P (after r stop go)
  unfolding after
  dead-then stop go absent s g = s
  dead-then stop go (ends refuses) s g = ends refuses
  dead-then stop go (ends (reads {a} {next} q)) s g = g a next q

  -- a step after one that can't go on
  pub halted-after : {o : Parsed A} (go : A → List Token → Parsed B) → Halted o → ((a : A) (ts : List Token) → Halted (go a (illegal ∷ ts)))
      → Halted (parser.after o go)
  unfolding parser.after
  halted-after go fails g = fails
  halted-after go (waits {a} {ts}) g = g a ts

module _ {text : List ℕ} {A A' B B' : Type 0} {f : A → A'} {Bad : A → Type 0} {g : B → B'} {Bad' : B → Type 0} where
  -- one rule after another
  pub sim-after : {r : Answer A} {o : Parsed A'} (stop : Answer B) (go : A → ℕ → Answer B) (go' : A' → List Token → Parsed B') → Sim text f Bad r o
      → Dead Bad' stop → ((a : A) (next : ℕ) → next ≤ length text → Sim text g Bad' (go a next) (go' (f a) (tokens text next)))
      → ((a : A) (next : ℕ) → Bad a → Dead Bad' (go a next)) → ((a : A') (ts : List Token) → Halted (go' a (illegal ∷ ts)))
      → Sim text g Bad' (after r stop go) (parser.after o go')
  unfolding after parser.after
  sim-after stop go go' (agree a next h) s k b w = k a next h
  sim-after stop go go' (dead d w₀) s k b w = dead (dead-then stop go d s b) (halted-after go' w₀ w)

-- the byte side's test fails exactly where the token side's does
pub test-misses : {text : List ℕ} {A X : Type 0} {f : A → X} {look : Token → Option X} {r : Answer A} {ts : List Token} → Test text f look r ts
    → Misses look ts → r ≡ Answer.none
test-misses (seen a next o h e) n = impossible (cc)
test-misses (unclosed number place o x ts e) n = impossible (cc)
test-misses (missed n) n' = refl

-- where the byte side finds nothing, so does the token side
pub test-none : {text : List ℕ} {A X : Type 0} {f : A → X} {look : Token → Option X} {ts : List Token} → Test text f look Answer.none ts → Misses look ts
test-none (missed n) = n

-- where the byte side reads nothing, the token side can't go on
pub refused-halts : {text : List ℕ} {A B : Type 0} {f : A → B} {Bad : A → Type 0} {number place : ℕ} {o : Parsed B} → Sim text f Bad (refused number place) o
    → Halted o
refused-halts (dead d w) = w

-- where the byte side keeps nothing, the token side can't go on
pub none_halts : {text : List ℕ} {A B : Type 0} {f : A → B} {Bad : A → Type 0} {o : Parsed B} → Sim text f Bad Answer.none o → Halted o
none_halts (dead d w) = w

module _ {text : List ℕ} {A X B B' : Type 0} {f : A → X} {look : Token → Option X} {g : B → B'} {Bad' : B → Type 0} where
  -- a test, then one of two rules
  pub sim-see : {r : Answer A} {ts : List Token} (stop : Answer B) (stop' : Parsed B') (go : A → ℕ → Answer B) (go' : X → List Token → Parsed B')
      → Test text f look r ts → Sim text g Bad' stop stop'
      → ((a : A) (next : ℕ) → next ≤ length text → Sim text g Bad' (go a next) (go' (f a) (tokens text next)))
      → ((x : X) (us : List Token) → Halted (go' x (illegal ∷ us))) → Sim text g Bad' (after r stop go) (see look ts stop' go')
  unfolding after see
  sim-see stop stop' go go' (seen a next o h e) s k w = rw e (k a next h)
  sim-see stop stop' go go' (unclosed number place o x ts e) s k w = rw e (dead (ends refuses) (w x ts))
  sim-see stop stop' go go' (missed {ts} m) s k w = rw (see-misses look ts stop' go' m) s

  -- a test, then one of two rules from the same place, of which the first refuses what the test refuses
  pub sim-either : {r : Answer A} {ts : List Token} {stop thn : Answer B} {stop' thn' : Parsed B'} → Test text f look r ts → Sim text g Bad' stop stop'
      → Sim text g Bad' thn thn' → ((number place : ℕ) → r ≡ refused number place → thn ≡ refused number place)
      → Sim text g Bad' (after r stop (λ _ _. thn)) (see look ts stop' (λ _ _. thn'))
  unfolding after see
  sim-either (seen a next o h e) s t k = rw e t
  sim-either (unclosed number place o x ts e) s t k = rw e (dead (ends refuses) (refused-halts (rw (k number place refl) at t)))
  sim-either {stop'} {thn'} (missed {ts} m) s t k = rw (see-misses look ts stop' (λ _ _. thn') m) s
