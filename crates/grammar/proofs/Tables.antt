-- What a reading gives does not depend on the table's length, unless the table is too short.
use Rattle.std.specs.Prelude.{ℕ, ◌-◌, ◌≤◌, ◌≡◌, refl, Bool, true, false, ◌&&◌, List, [], ◌++◌, length, take, replicate, leb, eqb}
use Rattle.std.proofs.Common.{arith, sym, ap, ◌∙◌}
use Rattle.std.proofs.lemmas.Bool.{false≢true}
use Rattle.std.proofs.Math.Seq.{take-append_seam}
use Rattle.lexing.specs.Answer.{Answer, ok, refused}
use Rattle.tree.specs.Limits.{most_words}
use Rattle.grammar.specs.Reading.{Outcome, words, refusal, stored, outcome_by, told, program_outcome, read_tree_of_program, read_program}
use Rattle.grammar.specs.ClaimTerms.{ToldAs, ended, stays}
use Rattle.grammar.proofs.Told.{told-as}
use Rattle.grammar.proofs.Bridge.Limits.{stored-inv, stored-fits}

-- the words of the tree, or the refusal, without the rest of the table
abbrev pub gist : Outcome → Outcome
gist (words n table) = words n (take n table)
gist (refusal number place table) = refusal number place []

-- the table is too short
abbrev pub short : Outcome → Bool
short (words n table) = false
short (refusal number place table) = eqb number 5

-- words that fit have the same gist in a longer table
stored-gist : (ws : List ℕ) (m n : ℕ) → m ≤ n → short (stored m ws) ≡ false → gist (stored m ws) ≡ gist (stored n ws)
stored-gist ws m n h e = by-fit (leb (length ws) m && leb (length ws) most_words) refl
  where
    by-fit : (b : Bool) → (leb (length ws) m && leb (length ws) most_words) ≡ b → gist (stored m ws) ≡ gist (stored n ws)
    by-fit true q =
        let s : stored m ws ≡ words (length ws) (ws ++ replicate (m - length ws) 0) = rw q refl in
        let (fits, few) = stored-inv [] m ws s in
        ap gist s ∙ ap (words (length ws)) (take-append_seam ws _ ∙ sym (take-append_seam ws _)) ∙ sym (ap gist (stored-fits [] n ws (omega arith) few))
    by-fit false q = let s : stored m ws ≡ refusal 5 0 (replicate m 0) = rw q refl in absurd (false≢true (sym e ∙ ap short s))

answer-gist : {A : Type 0} (words_of : A → List ℕ) (r : Answer A) (m n : ℕ) → m ≤ n → short (outcome_by words_of m r) ≡ false
    → gist (outcome_by words_of m r) ≡ gist (outcome_by words_of n r)
answer-gist words_of (ok a at) m n h e = stored-gist (words_of a) m n h e
answer-gist words_of Answer.none m n h e = refl
answer-gist words_of (refused number place) m n h e = refl

-- an outcome is told alike with its table or without
told-gist : (text : List ℕ) (w : Outcome) → gist (told text w) ≡ told text (gist w)
told-gist text (words n table) = refl
told-gist text (refusal number place table) = refl

-- no refusal but by 5 is told as one
pub told-short : (text : List ℕ) (w : Outcome) → short (told text w) ≡ short w
told-short text w = alike (told-as text w)
  where
    alike : {w t : Outcome} → ToldAs text w t → short t ≡ short w
    alike ended = refl
    alike (stays s) = refl

-- a program that is not refused by 5 is read into a longer table alike
pub program-gist : (text : List ℕ) (m n : ℕ) → m ≤ n → short (read_program text m) ≡ false → gist (read_program text m) ≡ gist (read_program text n)
unfolding read_program
program-gist text m n l e =
    let alike = answer-gist _ (read_tree_of_program text) m n l (sym (told-short text (program_outcome text m)) ∙ e) in
    told-gist text (program_outcome text m) ∙ ap (told text) alike ∙ sym (told-gist text (program_outcome text n))
