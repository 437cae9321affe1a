-- The bench profile (REFERENCE, "The bench profile"): four rules for a program, each asked at each place of its words. Which kind is expected at a
-- place, and where what begins there ends, is known by the outline.
use Rattle.std.specs.Prelude.{ℕ, zero, suc, ◌+◌, Bool, false, cond, ◌&&◌, ◌||◌, not, List, length, get_or, eqb, ltb, Option, Some, None}
use Rattle.tree.specs.Ast.{Program}
use Rattle.tree.specs.Tags.{more, no_more, reach_tag, a_forall_tag, choose_tag, loop_tag, labeled_stmt_tag, exit_tag, probe_tag}
use Rattle.tree.specs.Resolve.{part}
use Rattle.tree.specs.Kind.{program_fields}
use Rattle.tree.specs.KindNumbers.{stmt_kind, procedures_kind}
use Rattle.tree.specs.Check.{NameIn, within}
use Rattle.tree.specs.Outline.{kind_numbers, end_places}
use Rattle.tree.specs.Held.{Held, held, refused as refused_by, program_held}
use Rattle.names.specs.Names.{same}

-- ---- the rules, by their numbers

-- No Reach, AForall, Choose or Probe.
abbrev pub statements_rule : ℕ
statements_rule = 1

-- Every procedure has a body.
abbrev pub bodies_rule : ℕ
bodies_rule = 2

-- Every loop has an invariant.
abbrev pub invariants_rule : ℕ
invariants_rule = 3

-- An Exit with a label stands inside a statement of that label.
abbrev pub labels_rule : ℕ
labels_rule = 4

-- ---- at a place

-- What is known of the places of a table: the word there, the number of the kind that is expected there, and the place after what begins there
pub record Places : Type 0 where
  pub word : ℕ → ℕ
  pub kind : ℕ → ℕ
  pub end : ℕ → ℕ

module _ (t : Places) where
  -- a statement of that constructor
  abbrev pub statement : (tag at : ℕ) → Bool
  statement tag at = eqb (t.kind at) stmt_kind && eqb (t.word at) tag

  -- rule 1 is broken
  abbrev pub unsuited : ℕ → Bool
  unsuited at = statement reach_tag at || statement a_forall_tag at || statement choose_tag at || statement probe_tag at

  -- a procedure, behind the mark before it
  abbrev pub procedure : ℕ → Bool
  procedure zero = false
  procedure (suc mark) = eqb (t.kind mark) procedures_kind && eqb (t.word mark) more

  -- where it says whether it has a body: behind its name, its parameters, and its conditions before and after
  abbrev pub body : ℕ → ℕ
  body at = t.end (t.end (t.end (t.end at)))

  -- rule 2 is broken
  abbrev pub lacks_body : ℕ → Bool
  lacks_body at = procedure at && eqb (t.word (body at)) no_more

  -- rule 3 is broken: no item follows
  abbrev pub lacks_invariant : ℕ → Bool
  lacks_invariant at = statement loop_tag at && eqb (t.word (at + 1)) no_more

  -- an exit with a label
  abbrev pub exit : ℕ → Bool
  exit at = statement exit_tag at && eqb (t.word (at + 1)) more

  module _ (text : List ℕ) where
    -- the bytes of the name whose words stand at a place
    abbrev pub name : ℕ → List ℕ
    name at = part text (t.word at) (t.word (at + 1))

    -- whether a statement that begins before `start` has the label and ends after `at`
    unfoldable pub around : (start : ℕ) (label : List ℕ) (at : ℕ) → Bool
    around zero label at = false
    around (suc start) label at = (statement labeled_stmt_tag start && same (name (start + 1)) label && ltb at (t.end start)) || around start label at

    -- rule 4 is broken
    abbrev pub lacks_label : ℕ → Bool
    lacks_label at = exit at && not (around at (name (at + 2)) at)

    -- the rule that is broken, if one is
    unfoldable pub broken : ℕ → Option ℕ
    broken at =
        cond (unsuited at) (Some statements_rule)
        (cond (lacks_body at) (Some bodies_rule)
        (cond (lacks_invariant at) (Some invariants_rule)
        (cond (lacks_label at) (Some labels_rule)
        None)))

-- ---- the judgement

-- what is answered: the program fits, the first breach with its rule and place, or a refusal's number and place
pub data Judgement : Type 0 where
  fits : Judgement
  breach : ℕ → ℕ → Judgement
  refused : ℕ → ℕ → Judgement

-- the first of so many places from `at` on where a rule is broken
unfoldable pub first_breach : (ℕ → Option ℕ) → (count at : ℕ) → Judgement
first_breach rule zero at = fits
first_breach rule (suc count) at = elim (rule at) [ Some number ↦ breach number at | None ↦ first_breach rule count (suc at) ]

-- the places of a program's table over a text of that length
abbrev pub places : (words : List ℕ) (len : ℕ) → Places
places words len =
    record {
      word = λ at. get_or words at 0;
      kind = λ at. get_or (kind_numbers (within len) program_fields words) at 0;
      end = λ at. get_or (end_places (within len) program_fields 0 words) at 0;
    }

-- of a program's words over a text
unfoldable pub verdict : (text words : List ℕ) → Judgement
verdict text words = first_breach (broken (places words (length text)) text) (length words) 0

-- by what the table holds: refusals 6 and 7 as for a print
abbrev pub judge_held : (text words : List ℕ) → Held (Program (NameIn (length text))) → Judgement
judge_held text words (held p) = verdict text words
judge_held text words (refused_by number place) = refused number place

unfoldable pub judge_program : (text words : List ℕ) → Judgement
judge_program text words = judge_held text words (program_held text words)
