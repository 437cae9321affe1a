-- Which bytes are the record of which contents, and the answer to each: the layout, then the version, then the contents.
use Rattle.std.specs.Prelude.{ℕ, suc, ◌≡◌, ◌↔◌, Bool, true, false, List, [], ◌∷◌, ◌++◌, drop, eqb, Option, None, Some, Result, Ok, Err}
use Rattle.std.proofs.Common.{arith, refl, sym, ◌∙◌, ap, subst, inl, inr}
use Rattle.std.proofs.lemmas.Bool.{ne_eqb}
use Rattle.std.proofs.lemmas.List.{take-append-drop}
use borrow.Author.Tests.{eq-eqb, eqb-true, eqb-false}
use Rattle.tree.specs.Clash.{impossible}
use Rattle.tree.specs.Check.{Refusal}
use Rattle.layout.specs.declared.settings.Settings.{Settings}
use Rattle.settings.specs.Errors.{refusal, bad_layout, unknown_version, content_out_of_range}
use Rattle.settings.specs.Fields.{field, misplaced}
use Rattle.settings.specs.Records.{version_tag, step_tag, form_tag}
use Rattle.settings.specs.Records.{present_version, settings_layout, settings_record, settings_of, of_contents, of_layout, settings_in}
use Rattle.settings.specs.Laid.{LaidOut, IsRecord, FirstBad}
use Rattle.settings.proofs.RefusalLaws.{one_refusal}
use Rattle.settings.proofs.ContentLaws.{only-11}
use Rattle.settings.proofs.LayoutLaws.{none-misplaced, place}

-- ---- records

-- bytes that begin with a field
record FieldFirst (tag : ℕ) (layout : List (Option ℕ)) (bytes : List ℕ) : Type 0 where
  content : ℕ
  rest : List ℕ
  is : bytes ≡ field (λ b. b) tag content ++ rest
  laid : LaidOut layout rest

field-first : (tag : ℕ) (layout : List (Option ℕ)) (bytes : List ℕ) → LaidOut (field Some tag None ++ layout) bytes → FieldFirst tag layout bytes
field-first tag layout [] h = absurd h
field-first tag layout (a ∷ []) h = absurd h.1
field-first tag layout (a ∷ b ∷ []) h = absurd h.1.1
field-first tag layout (a ∷ b ∷ c ∷ []) h = absurd h.1.1.1
field-first tag layout (a ∷ b ∷ c ∷ d ∷ s) h =
    let e : tag ≡ a = h.0 in let f : 0 ≡ b = h.1.0 in let g : 1 ≡ c = h.1.1.0 in record { content = d; rest = s; is = cc; laid = h.1.1.1 }

none-left : (bytes : List ℕ) → LaidOut [] bytes → bytes ≡ []
none-left [] h = refl
none-left (b ∷ s) h = absurd h

-- the records are what is laid out
records : (bytes : List ℕ) → IsRecord bytes ↔ LaidOut settings_layout bytes
unfolding misplaced
records bytes = (
  λ r. subst (LaidOut settings_layout) (sym r.is) ((none-misplaced settings_layout 0 (settings_record r.version r.step r.form)).0 refl),
  λ h.
      let v = field-first version_tag (field Some step_tag None ++ field Some form_tag None) bytes h in
      let s = field-first step_tag (field Some form_tag None) v.rest v.laid in
      let f = field-first form_tag [] s.rest s.laid in
      let e : f.rest ≡ [] = none-left f.rest f.laid in
      record { version = v.content; step = s.content; form = f.content; is = cc (v.is, s.is, f.is, e) },
)

-- ---- the first bad byte

-- what is first bad by one meaning of wholes is so by another that says the same
same-bad : {V W : List ℕ → Type 0} {bytes : List ℕ} {p : ℕ} → ((b : List ℕ) → V b ↔ W b) → FirstBad V bytes p → FirstBad W bytes p
same-bad {bytes = bytes} i h =
    record {
      begins = (h.begins.0, (i _).0 h.begins.1);
      bad = elim h.bad [ inl n ↦ inl (n.0, λ k. n.1 (k.0, (i _).1 k.1)) | inr n ↦ inr (n.0, λ k. n.1 ((i bytes).1 k)) ];
    }

-- a whole has no bad byte
none-bad : (V : List ℕ → Type 0) (bytes : List ℕ) (p : ℕ) → FirstBad V bytes p → V bytes → ⊥
none-bad V bytes p h w =
    elim h.bad [ inl n ↦ n.1 (drop (suc p) bytes, subst V (sym (take-append-drop (suc p) bytes)) w) | inr n ↦ n.1 w ]

-- ---- the answers, by cases

module _ {bytes : List ℕ} (c : IsRecord bytes) where
  -- a record is answered by its contents
  of_record : settings_in bytes ≡ of_contents c.version c.step c.form
  unfolding settings_in misplaced
  of_record = ap settings_in c.is

  of_other : (c.version ≡ present_version → ⊥) → settings_in bytes ≡ Err (refusal unknown_version 0)
  of_other n = of_record ∙ rw (ne_eqb c.version present_version n) refl

  of_present : c.version ≡ present_version → settings_in bytes ≡ settings_of c.step c.form
  of_present e = of_record ∙ rw (eq-eqb c.version present_version e) refl

module _ (bytes : List ℕ) where
  of_bad : (p : ℕ) → FirstBad IsRecord bytes p → settings_in bytes ≡ Err (refusal bad_layout p)
  unfolding settings_in
  of_bad p h = ap (λ (m : Option ℕ). of_layout m bytes) ((place settings_layout bytes p).1 (same-bad records h))

  data Case : Type 0 where
    bad : (p : ℕ) → FirstBad IsRecord bytes p → Case
    other-version : (c : IsRecord bytes) → (c.version ≡ present_version → ⊥) → Case
    present : (c : IsRecord bytes) → c.version ≡ present_version → Case

  case : Case
  case = by-place (misplaced settings_layout 0 bytes) refl
    where
      by-version : (c : IsRecord bytes) (t : Bool) → eqb c.version present_version ≡ t → Case
      by-version c true e = present c (eqb-true c.version present_version e)
      by-version c false e = other-version c (eqb-false c.version present_version e)

      by-place : (m : Option ℕ) → misplaced settings_layout 0 bytes ≡ m → Case
      by-place (Some p) e = bad p (same-bad (λ b. ((records b).1, (records b).0)) ((place settings_layout bytes p).0 e))
      by-place None e = by-version ((records bytes).1 ((none-misplaced settings_layout 0 bytes).0 e)) _ refl

  -- refusal 9, by the first bad byte
  pub layout-refused : (p : ℕ) → (settings_in bytes ≡ Err (refusal bad_layout p)) ↔ FirstBad IsRecord bytes p
  layout-refused p = (
    λ e. elim case [
      | bad q h ↦ subst (FirstBad IsRecord bytes) (one_refusal (of_bad q h) e).1 h
      | other-version c n ↦ let z : ◌≡◌ {A = ℕ} 10 9 = (one_refusal (of_other c n) e).0 in absurd (omega arith)
      | present c v ↦ let z : ◌≡◌ {A = ℕ} 11 9 = only-11 c.step c.form (sym (of_present c v) ∙ e) in absurd (omega arith)
    ],
    of_bad p,
  )

  -- and by bytes that are no record
  pub layout-refuses : ((p : ℕ) × (settings_in bytes ≡ Err (refusal bad_layout p))) ↔ (IsRecord bytes → ⊥)
  layout-refuses = (
    λ e. none-bad IsRecord bytes e.0 ((layout-refused e.0).0 e.1),
    λ n. elim case [ bad p h ↦ (p, of_bad p h) | other-version c m ↦ absurd (n c) | present c v ↦ absurd (n c) ],
  )

  -- refusal 10, by another version
  pub version-refused : (settings_in bytes ≡ Err (refusal unknown_version 0)) ↔ ((c : IsRecord bytes) × (c.version ≡ present_version → ⊥))
  version-refused = (
    λ e. elim case [
      | bad p h ↦ let z : ◌≡◌ {A = ℕ} 9 10 = (one_refusal (of_bad p h) e).0 in absurd (omega arith)
      | other-version c n ↦ (c, n)
      | present c v ↦ let z : ◌≡◌ {A = ℕ} 11 10 = only-11 c.step c.form (sym (of_present c v) ∙ e) in absurd (omega arith)
    ],
    λ h. of_other h.0 h.1,
  )

  -- any other answer, by that to the contents
  contents-answered : (a : Result Settings Refusal)
      → ((place : ℕ) → a ≡ Err (refusal bad_layout place) → ⊥) → (a ≡ Err (refusal unknown_version 0) → ⊥)
      → (settings_in bytes ≡ a) ↔ ((c : IsRecord bytes) × (c.version ≡ present_version) × (settings_of c.step c.form ≡ a))
  contents-answered a m n = (
    λ e. elim case [
      | bad p h ↦ absurd (m p (sym e ∙ of_bad p h))
      | other-version c k ↦ absurd (n (sym e ∙ of_other c k))
      | present c v ↦ (c, v, sym (of_present c v) ∙ e)
    ],
    λ h. of_present h.0 h.1 ∙ h.2,
  )

  pub contents-refused : (at : ℕ) → (settings_in bytes ≡ Err (refusal content_out_of_range at))
      ↔ ((c : IsRecord bytes) × (c.version ≡ present_version) × (settings_of c.step c.form ≡ Err (refusal content_out_of_range at)))
  contents-refused at =
      contents-answered (Err (refusal content_out_of_range at))
      (λ p e. let z : ◌≡◌ {A = ℕ} 9 11 = (one_refusal e refl).0 in omega arith)
      (λ e. let z : ◌≡◌ {A = ℕ} 10 11 = (one_refusal e refl).0 in omega arith)

  pub contents-read : (s : Settings) → (settings_in bytes ≡ Ok s)
      ↔ ((c : IsRecord bytes) × (c.version ≡ present_version) × (settings_of c.step c.form ≡ Ok s))
  contents-read s = contents-answered (Ok s) (λ p e. impossible cc) (λ e. impossible cc)
