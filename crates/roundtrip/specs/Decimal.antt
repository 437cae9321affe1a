-- The print of a natural is a run of digits that stand for it.
use Rattle.std.specs.Prelude.{ℕ, zero, suc, ◌+◌, ◌*◌, ◌-◌, ◌/◌, ◌%◌, ◌≤◌, ◌<◌, ◌≡◌, refl, Bool, true, false, List, [], ◌∷◌, ◌++◌, ltb, length}
use Rattle.std.proofs.Common.{sym, ◌∙◌, append_assoc, arith, length-append, ltb-true, ltb-false, le-leb}
use Rattle.lexing.specs.Bytes.{is_digit, run}
use Rattle.lexing.specs.Tokens.{decimal}
use Rattle.grammar.proofs.Laws.Pieces.{run-append}
use Rattle.layout.specs.Text.{digits}

decimal-append : (v : ℕ) (w u : List ℕ) → decimal v (w ++ u) ≡ decimal (decimal v w) u
unfolding decimal
decimal-append v [] u = refl
decimal-append v (d ∷ w) u = decimal-append (v * 10 + (d - 48)) w u

-- a run of digits w that stands for n
pub record Stands (w : List ℕ) (n : ℕ) : Type 0 where
  pub some : 0 < length w
  pub all : run is_digit w ≡ length w
  pub value : decimal 0 w ≡ n

-- what `digits` writes before the rest
pub record Written (k n : ℕ) : Type 0 where
  pub text : List ℕ
  pub stands : Stands text n
  pub written : (rest : List ℕ) → digits k n rest ≡ text ++ rest

digit-is : (d : ℕ) → d < 10 → is_digit (48 + d) ≡ true
unfolding is_digit
digit-is d h = rw (le-leb 48 (48 + d) (omega arith), le-leb (48 + d) 57 (omega arith)) refl

one-digit : (d : ℕ) → d < 10 → run is_digit ((48 + d) ∷ []) ≡ 1
unfolding run
one-digit d h = rw (digit-is d h, run) refl

write-one : (n : ℕ) → n < 10 → Stands ((48 + n) ∷ []) n
unfolding decimal
write-one n h = record { some = omega arith; all = one-digit n h; value = omega arith }

write-more : (n : ℕ) (w : List ℕ) → Stands w (n / 10) → Stands (w ++ (48 + n % 10) ∷ []) n
unfolding decimal
write-more n w s =
    let d : n % 10 < 10 = omega arith in
    record {
      some = simp length-append (omega arith);
      all = run-append is_digit w ((48 + n % 10) ∷ []) s.all ∙ rw (one-digit (n % 10) d, length-append w ((48 + n % 10) ∷ [])) refl;
      value = decimal-append 0 w ((48 + n % 10) ∷ []) ∙ rw s.value (omega arith);
    }

digits_last : (k n : ℕ) (rest : List ℕ) → ltb n 10 ≡ true → digits (suc k) n rest ≡ (48 + n) ∷ rest
unfolding digits
digits_last k n rest e = rw (e, digits) refl

digits_more : (k n : ℕ) (rest : List ℕ) → ltb n 10 ≡ false → digits (suc k) n rest ≡ digits k (n / 10) ((48 + n % 10) ∷ rest)
unfolding digits
digits_more k n rest e = rw (e, digits) refl

-- `digits` writes such a run
pub digits-written : (k n : ℕ) → n < k → Written k n
digits-written zero n h = absurd (omega arith)
digits-written (suc k) n h = by-digit (ltb n 10) refl (λ h. digits-written k (n / 10) h)
  where
    by-digit : (t : Bool) → ltb n 10 ≡ t → (n / 10 < k → Written k (n / 10)) → Written (suc k) n
    by-digit true e ih = record { text = (48 + n) ∷ []; stands = write-one n (ltb-true n 10 e); written = λ rest. digits_last k n rest e }
    by-digit false e ih =
        let big : 10 ≤ n = ltb-false n 10 e in
        let less : n / 10 < k = omega arith in
        let w = ih less in
        record {
          text = w.text ++ (48 + n % 10) ∷ [];
          stands = write-more n w.text w.stands;
          written = λ rest. digits_more k n rest e ∙ w.written ((48 + n % 10) ∷ rest) ∙ sym (append_assoc w.text ((48 + n % 10) ∷ []) rest);
        }
