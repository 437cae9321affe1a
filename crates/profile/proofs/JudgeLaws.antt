-- What is judged of a table, by what the check says of it and by its outline.
use Rattle.std.specs.Prelude.{ℕ, true, ◌≤◌, ◌<◌, ◌≡◌, List, length, get_or, replicate, Err}
use Rattle.std.proofs.Common.{arith, refl, sym, ap, ◌∙◌, ⊎_elim}
use Rattle.std.proofs.lemmas.Bool.{cases_lt}
use Rattle.std.proofs.lemmas.List.{get_or-replicate, get_or_past, length-replicate}
use Rattle.std.proofs.Math.Option.{none}
use Rattle.tree.specs.Limits.{most_text, most_words}
use Rattle.tree.specs.Kind.{program_fields}
use Rattle.tree.specs.Check.{within, refusal, program_refusal, oversized, error_number, error_place}
use Rattle.tree.specs.Refused.{program-unrefused}
use Rattle.tree.specs.Outline.{kind_numbers, end_places, program_kinds, program_ends}
use Rattle.tree.specs.OutlineLaws.{bounded}
use Rattle.tree.specs.ProgramOutline.{outlined, later}
use Rattle.tree.specs.Held.{program_tables}
use Rattle.tree.specs.HeldLaws.{program-laws, holds, refuses, long-text}
use Rattle.tree.specs.declared.CheckError.{CheckError}
use Rattle.tree.specs.declared.CheckError.TheVariants.{Misfit, TooManyWords}
use Rattle.profile.specs.declared.answer.Verdict.{Verdict}
use Rattle.profile.specs.Profile.{Places, places, broken, first_breach, refused, verdict, judge_held, judge_program}
use Rattle.profile.specs.Answers.{judge_error_number, judge_error_place, of_check, verdict_of, judgement_of}
use Rattle.profile.specs.Labels.{listed}

-- an array of one number has it everywhere, and past its end 0
pub zeros : (n i : ℕ) → ◌≡◌ {A = ℕ} (get_or (replicate n 0) i 0) 0
zeros n i = ⊎_elim (λ l. get_or-replicate n i 0 0 l) (λ l. get_or_past (replicate n 0) i 0 (omega (arith, length-replicate {0} {A = ℕ} n 0))) (cases_lt i n)

module _ (text words : List ℕ) where
  -- a text that is too long
  pub long-judged : most_text < length text → refused oversized 0 ≡ judge_program text words
  unfolding judge_program
  long-judged h = sym (ap (judge_held text words) (long-text (program_tables (length text)) text words _ h))

  -- a table that the check refuses
  pub refused-judged : length text ≤ most_text → (e : CheckError) → refusal (Err e) ≡ program_refusal words (length text)
      → judgement_of (Err (of_check e)) ≡ judge_program text words
  unfolding judge_program
  refused-judged h e r = same-refusal e ∙ sym (ap (judge_held text words) (refuses (program_tables (length text)) text words h refl _ (sym r)))
    where
      same-refusal : (e : CheckError) → refused (judge_error_number (of_check e)) (judge_error_place (of_check e)) ≡ refused (error_number e) (error_place e)
      same-refusal (Misfit place) = refl
      same-refusal TooManyWords = refl

  -- one that it accepts
  pub verdict-judged : length text ≤ most_text → none ≡ program_refusal words (length text) → verdict text words ≡ judge_program text words
  unfolding judge_program
  verdict-judged h r =
      let a = (program-unrefused words (length text)).0 (sym r) in
      sym (ap (judge_held text words) (holds (program_tables (length text)) text words (program-laws text) a.1.0 a.1.1 {others = true} h a.0 refl))

  -- ---- the outline's slices

  -- those of an accepted table have the outline's numbers, and 0 past its words
  module _ (r : none ≡ program_refusal words (length text)) where
    pub few-words : length words ≤ most_words
    few-words = ((program-unrefused words (length text)).0 (sym r)).0

    -- where a slice had no other number than 0 before
    module _ (before : List ℕ) (zero : (i : ℕ) → get_or before i 0 ≡ 0) (room : length before ≡ most_words) where
      -- by what it has at the words' places, and past them
      there : (numbers slice : List ℕ) → length numbers ≤ length words → ((at : ℕ) → at < length words → get_or slice at 0 ≡ get_or numbers at 0)
          → ((at : ℕ) → length words ≤ at → get_or slice at 0 ≡ get_or before at 0) → (at : ℕ) → get_or slice at 0 ≡ get_or numbers at 0
      there numbers slice n at-words past at =
          ⊎_elim (at-words at) (λ l. past at l ∙ zero at ∙ sym (get_or_past numbers at 0 (omega arith))) (cases_lt at (length words))

      kinds-there : (at : ℕ) → get_or (program_kinds words (length text) before) at 0 ≡ get_or (kind_numbers (within (length text)) program_fields words) at 0
      kinds-there =
          let a = (program-unrefused words (length text)).0 (sym r) in
          there (kind_numbers (within (length text)) program_fields words) (program_kinds words (length text) before) (bounded (within (length text)) program_fields 0 words).0
          (λ at l. (outlined words (length text) before a.1.0 a.1.1 a.0 (omega (arith, room, a.0)) at l).0)
          (λ at l. (later words (length text) before at l).0)

      ends-there : (at : ℕ) → get_or (program_ends words (length text) before) at 0 ≡ get_or (end_places (within (length text)) program_fields 0 words) at 0
      ends-there =
          let a = (program-unrefused words (length text)).0 (sym r) in
          there (end_places (within (length text)) program_fields 0 words) (program_ends words (length text) before) (bounded (within (length text)) program_fields 0 words).1
          (λ at l. (outlined words (length text) before a.1.0 a.1.1 a.0 (omega (arith, room, a.0)) at l).1)
          (λ at l. (later words (length text) before at l).1)

    module _ (kinds ends : List ℕ) {kinds' ends' : List ℕ} (k : kinds' ≡ program_kinds words (length text) kinds) (e : ends' ≡ program_ends words (length text) ends)
        (few-kinds : length kinds ≡ most_words) (no-kinds : (i : ℕ) → get_or kinds i 0 ≡ 0)
        (few-ends : length ends ≡ most_words) (no-ends : (i : ℕ) → get_or ends i 0 ≡ 0) where
      -- the places by the slices are the table's
      same-places : listed words kinds' ends' ≡ places words (length text)
      same-places i =
          record {
            word = λ at. get_or words at 0;
            kind = λ at. (ap (λ (l : List ℕ). get_or l at 0) k ∙ kinds-there kinds no-kinds few-kinds at) i;
            end = λ at. (ap (λ (l : List ℕ). get_or l at 0) e ∙ ends-there ends no-ends few-ends at) i;
          }

      -- so the first breach by them is judged
      pub judged : (v : Verdict) → length text ≤ most_text → verdict_of v ≡ first_breach (broken (listed words kinds' ends') text) (length words) 0
          → verdict_of v ≡ judge_program text words
      unfolding verdict
      judged v h b = b ∙ ap (λ (t : Places). first_breach (broken t text) (length words) 0) same-places ∙ verdict-judged h r
