-- What a print by the bytes of settings answers, by cases: the refusal of the settings, or what the print by them answers.
use Rattle.std.specs.Prelude.{ℕ, ◌≤◌, ◌<◌, Bool, true, false, ◌&&◌, List, ◌++◌, length, drop, leb, Result, Ok, Err}
use Rattle.std.proofs.Common.{ap, ◌∙◌, arith, lit≤, lit<}
use Rattle.std.proofs.Math.Path.{◌≡◌, refl, sym}
use Rattle.tree.specs.Clash.{impossible}
use Rattle.tree.specs.Check.{Refusal}
use Rattle.tree.specs.Held.{Held, held}
use Rattle.tree.specs.HeldLaws.{Lawful, Table, over, misfit, tree}
use Rattle.layout.specs.declared.settings.Settings.{Settings}
use Rattle.layout.specs.Settings.{defaults}
use Rattle.settings.specs.declared.error.ContentError.TheVariants.{Step, Form}
use Rattle.settings.specs.declared.error.RecordError.{RecordError}
use Rattle.settings.specs.declared.error.RecordError.TheVariants.{Layout, Version, Content}
use Rattle.settings.specs.Errors.{record_refusal}
use Rattle.settings.specs.Fields.{misplaced}
use Rattle.settings.specs.Records.{settings_bytes, settings_of, settings_in}
use Rattle.rendering.specs.declared.PrintError.{PrintError}
use Rattle.rendering.specs.declared.PrintError.TheVariants.{Oversized, Misfit, TooLong}
use Rattle.rendering.specs.Errors.{print_too_long, print_error_number}
use Rattle.rendering.specs.Tables.{Printable, held_for, Within}
use Rattle.rendering.specs.TableLaws.{table}
use Rattle.printing.specs.declared.error.PrintByError.{PrintByError}
use Rattle.printing.specs.declared.error.PrintByError.TheVariants.{Settings as OfSettings, Print as OfPrint}
use Rattle.printing.specs.Entries.{most_print, refusal, outcome_of, stored, print_held, print_table, Answered}
use Rattle.printing.specs.BySettings.{print_by_refusal, outcome_by, by_read, print_by, AnsweredBy}

-- the answer is this refusal
pub record RefusesBy (r : Result ℕ PrintByError) (x : Refusal) : Type 0 where
  pub error : PrintByError
  pub answers : r ≡ Err error
  pub numbered : (print_by_refusal error).number ≡ x.number
  pub placed : (print_by_refusal error).place ≡ x.place

-- the answer of a print, as that of a print by the bytes of settings
abbrev pub of_print : Result ℕ PrintError → Result ℕ PrintByError
of_print (Ok n) = Ok n
of_print (Err e) = Err (OfPrint e)

-- ---- what a print answers

-- an outcome is that of an answer, and of an output afterwards
record Given (P : Printable) (h : Held P.kind.Tree) (out : List ℕ) : Type 0 where
  answer : Result ℕ PrintError
  left : List ℕ
  gives : outcome_of answer left ≡ print_held P h out

-- that of each table is
given : (P : Printable) {text words out : List ℕ} {h : Held P.kind.Tree} → Table P.kind (Within P text words) words h → Given P h out
unfolding stored
given P {out = out} (over n) = record { answer = Err Oversized; left = out; gives = refl }
given P {out = out} (misfit w place e) = record { answer = Err (Misfit place); left = out; gives = refl }
given P {out = out} (tree w t e) = by-room (leb (length (P.print t)) (length out) && leb (length (P.print t)) most_print) refl
  where
    by-room : (b : Bool) → (leb (length (P.print t)) (length out) && leb (length (P.print t)) most_print) ≡ b → Given P (held t) out
    by-room true k = record { answer = Ok (length (P.print t)); left = P.print t ++ drop (length (P.print t)) out; gives = sym (simp k) }
    by-room false k = record { answer = Err TooLong; left = out; gives = sym (simp k) }

-- no refusal of settings is that of a print
print-number : (e : PrintError) → print_error_number e ≤ print_too_long
print-number Oversized = lit≤ tt
print-number (Misfit place) = lit≤ tt
print-number TooLong = lit≤ tt

settings-number : (e : RecordError) → print_too_long < (record_refusal e).number
settings-number (Layout place) = lit< tt
settings-number Version = lit< tt
settings-number (Content Step) = lit< tt
settings-number (Content Form) = lit< tt

apart : (e : RecordError) (q : Result ℕ PrintError) (o o' : List ℕ) → outcome_by (Err (OfSettings e)) o ≡ outcome_of q o' → ⊥
apart e (Ok n) o o' f = impossible cc
apart e (Err error) o o' f =
    let k : (record_refusal e).number ≡ print_error_number error = cc in
    let l = print-number error in
    let m = settings-number e in
    absurd (omega arith)

-- ---- what the claims cite

-- an outcome that is a refusal
is-refused : (r : Result ℕ PrintByError) {x : Refusal} {out out' : List ℕ} → outcome_by r out' ≡ refusal x.number x.place out → (RefusesBy r x) × (out' ≡ out)
is-refused (Ok n) e = impossible cc
is-refused (Err error) e = (record { error = error; answers = refl; numbered = cc; placed = cc }, cc)

-- an outcome that is a print's
is-print : (P : Printable) (L : Lawful P.kind) (text words out : List ℕ) (r : Result ℕ PrintByError) {out' : List ℕ} → outcome_by r out' ≡ print_table P text words out
    → (q : Result ℕ PrintError) × ((r ≡ of_print q) × Answered P text words out q out')
unfolding print_table
is-print P L text words out (Ok n) e = (Ok n, (refl, e))
is-print P L text words out (Err (OfPrint error)) e = (Err error, (refl, e))
is-print P L text words out (Err (OfSettings error)) e = absurd (of-given (given P (table P L text words)))
  where
    of-given : Given P (held_for P text words) out → ⊥
    of-given g = apart error g.answer _ g.left (e ∙ sym g.gives)

module _ (P : Settings → Printable) (bytes text words out : List ℕ) (r : Result ℕ PrintByError) (out' : List ℕ) (a : AnsweredBy P bytes text words out r out') where
  by-reading : {x : Result Settings Refusal} → settings_in bytes ≡ x → outcome_by r out' ≡ by_read x (λ s. print_table (P s) text words out) out
  unfolding print_by
  by-reading e = a ∙ ap (λ x. by_read x (λ s. print_table (P s) text words out) out) e

  pub settings-refused : (x : Refusal) → settings_in bytes ≡ Err x → (RefusesBy r x) × (out' ≡ out)
  settings-refused x e = is-refused r (by-reading e)

  pub print-answered : (s : Settings) → settings_in bytes ≡ Ok s → Lawful (P s).kind
      → (q : Result ℕ PrintError) × ((r ≡ of_print q) × Answered (P s) text words out q out')
  print-answered s e L = is-print (P s) L text words out r (by-reading e)

  pub printed-by : (n : ℕ) → r ≡ Ok n → (s : Settings) × ((settings_in bytes ≡ Ok s) × Answered (P s) text words out (Ok n) out')
  printed-by n e = by-result (settings_in bytes) refl
    where
      by-result : (x : Result Settings Refusal) → settings_in bytes ≡ x → (s : Settings) × ((settings_in bytes ≡ Ok s) × Answered (P s) text words out (Ok n) out')
      by-result (Ok s) f = (s, (f, rw e at (by-reading f)))
      by-result (Err x) f = let k = (settings-refused x f).0.answers in impossible cc

pub print-by-default : (P : Settings → Printable) (text words out : List ℕ) → print_by P (settings_bytes defaults) text words out ≡ print_table (P defaults) text words out
unfolding print_by settings_in settings_of misplaced
print-by-default P text words out = refl
