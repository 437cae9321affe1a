-- How an outcome is told (Reading.antt, `told`): but for 2 at the text's end, as it is.
use Rattle.std.specs.Prelude.{ℕ, ◌-◌, ◌≡◌, refl, Bool, true, false, ◌&&◌, List, ◌++◌, length, replicate, leb, eqb}
use Rattle.std.proofs.Common.{ap, eqb-true}
use Rattle.std.proofs.lemmas.Bool.{eqb-false}
use Rattle.tree.specs.Clash.{impossible}
use Rattle.lexing.specs.Answer.{pick}
use Rattle.tree.specs.Limits.{most_words}
use Rattle.grammar.specs.Reading.{Outcome, words, refusal, stored, told}
use Rattle.grammar.specs.ClaimTerms.{ToldAs, ended, stays}

-- the number and the place of a refusal
abbrev number_of : Outcome → ℕ
number_of (words k table) = 0
number_of (refusal number place table) = number

abbrev place_of : Outcome → ℕ
place_of (words k table) = 0
place_of (refusal number place table) = place

pub told-as : (text : List ℕ) (w : Outcome) → ToldAs text w (told text w)
told-as text (words k ws) = stays (λ table e. impossible (cc))
told-as text (refusal number at ws) = by-number (eqb number 2) refl (eqb at (length text)) refl
  where
    by-number : (b : Bool) → eqb number 2 ≡ b → (c : Bool) → eqb at (length text) ≡ c → ToldAs text (refusal number at ws) (refusal (pick (b && c) 13 number) at ws)
    by-number true n true a = rw (eqb-true number 2 n, eqb-true at (length text) a) ended
    by-number true n false a = stays (λ table e. let same : at ≡ length text = ap place_of e in eqb-false at (length text) a same)
    by-number false n c a = stays (λ table e. let same : number ≡ 2 = ap number_of e in eqb-false number 2 n same)

-- words that are told were read so
pub told-words : (text : List ℕ) (w : Outcome) {k : ℕ} {ws : List ℕ} → told text w ≡ words k ws → w ≡ words k ws
told-words text (words k table) e = e
told-words text (refusal number place table) e = impossible (cc)

-- and what is stored is told as it is
pub told-stored : (text : List ℕ) (n : ℕ) (ws : List ℕ) → told text (stored n ws) ≡ stored n ws
told-stored text n ws = by-fit (leb (length ws) n && leb (length ws) most_words)
  where
    by-fit : (b : Bool) → told text (pick b (words (length ws) (ws ++ replicate (n - length ws) 0)) (refusal 5 0 (replicate n 0)))
        ≡ pick b (words (length ws) (ws ++ replicate (n - length ws) 0)) (refusal 5 0 (replicate n 0))
    by-fit true = refl
    by-fit false = refl
