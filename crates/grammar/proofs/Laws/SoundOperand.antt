-- The parser is sound: operands, and the whole.
use Prim.Native.Nat.{ℕ, zero, suc}
use Rattle.std.specs.Prelude.{◌≡◌, true}
use Rattle.std.proofs.Common.{sym}
use Rattle.std.proofs.Math.Path.{subst}
use mathlib.Core.List.{List, [], ◌∷◌, ◌++◌, append_assoc}
use Rattle.std.proofs.Math.Option.{some}
use Rattle.lexing.specs.RunLaws.{pick-cases}
use Rattle.lexing.specs.Bytes.{same_bytes, bytes}
use Rattle.tree.specs.Ast.{Operator, IdExpr, FunctionCallExpr, Exprs, no_exprs, ◌then◌}
use Rattle.grammar.specs.Words.{is_name}
use Rattle.grammar.specs.Tokens.{Token, name, nat, mark, lparen, rparen, comma}
use Rattle.grammar.specs.Grammar.{Tree, Rule, single, unary, bare, prefixed, Series, Items, Operand, Unary, last, also, empty, series}
use Rattle.grammar.specs.Grammar.{falsehood, truth, natural, variable, old_variable, call, bracketed}
use Rattle.grammar.specs.Parser.{parsed, failed, Parser, after, see, is_word, is_mark, parse_series, parse_items, parse_named}
use Rattle.grammar.specs.Parser.{parse_excluded, parse_bracketed, parse_operand, parse_unary}
use Rattle.tree.specs.Clash.{impossible}
use Rattle.grammar.proofs.Laws.ParserSteps.{after-inv, see-cases}
use Rattle.grammar.proofs.Laws.Looks.{nat-inv, word-inv, mark-inv}
use Rattle.lexing.specs.TokenLaws.{same_bytes-true}
use Rattle.grammar.proofs.Laws.Sound.{Reads, Sound}

-- x is derived from the tokens before a closing bracket and the rest
pub record Closed {X : Type 0} (R : List Token → X → Type 0) (ts : List Token) (x : X) (rest : List Token) : Type 0 where
  pub run : List Token
  pub split : ts ≡ run ++ mark rparen ∷ rest
  pub derived : R run x

-- the tokens of what stands in brackets
in-brackets : {X : Type 0} {R : List Token → X → Type 0} {ts : List Token} {x : X} {rest : List Token} (c : Closed R ts x rest)
    → mark lparen ∷ ts ≡ (mark lparen ∷ c.run ++ mark rparen ∷ []) ++ rest
in-brackets {rest} c = cc (c.split, append_assoc c.run (mark rparen ∷ []) rest)

module _ (E : Rule) where
  list-end : {run vs rest : List Token} {t : Tree} {es : Exprs (List ℕ)} (o : Token) → E run t → o ≡ mark rparen
      → parsed (◌then◌ t no_exprs) vs ≡ parsed es rest → Closed (Series E) (run ++ o ∷ vs) es rest
  list-end {run} o d k h = record { run = run; split = cc; derived = subst (Series E run) (cc) (last d) }

  list-step : {run vs ws rest : List Token} {t : Tree} {fs es : Exprs (List ℕ)} (o : Token) → E run t → o ≡ mark comma → Closed (Series E) vs fs ws
      → parsed (◌then◌ t fs) ws ≡ parsed es rest → Closed (Series E) (run ++ o ∷ vs) es rest
  list-step {run} {vs} {ws} {rest} o d k i h =
      record {
        run = run ++ mark comma ∷ i.run;
        split = cc (i.split, append_assoc run (mark comma ∷ i.run) (mark rparen ∷ rest));
        derived = subst (Series E (run ++ mark comma ∷ i.run)) (cc) (also d i.derived);
      }

module _ {E : Rule} {e : Parser} (s : Sound E e) where
  next-item : (m : ℕ) → ((vs : List Token) (es : Exprs (List ℕ)) (ws : List Token) → parse_series m e vs ≡ parsed es ws → Closed (Series E) vs es ws)
      → {ts us : List Token} {t : Tree} → Reads E ts t us → {es : Exprs (List ℕ)} {rest : List Token}
      → see (is_mark comma) us (see (is_mark rparen) us failed (λ x vs. parsed (◌then◌ t no_exprs) vs))
      (λ x vs. after (parse_series m e vs) (λ es ws. parsed (◌then◌ t es) ws)) ≡ parsed es rest
      → Closed (Series E) ts es rest
  next-item m ih {us} r {es} {rest} h =
      let Q : List Token → Type 0 = λ us. Closed (Series E) (r.run ++ us) es rest in
      subst (λ l. Closed (Series E) l es rest) (sym r.split)
      (see-cases Q us h
      (λ h. see-cases Q us h (λ h. impossible (cc)) (λ o vs x l h. list-end E o r.derived (mark-inv rparen o l) h))
      (λ o vs x l h. let a = after-inv (parse_series m e vs) h in list-step E o r.derived (mark-inv comma o l) (ih vs _ _ a.first) a.next))

  series-reads : (m : ℕ) (ts : List Token) (es : Exprs (List ℕ)) (rest : List Token) → parse_series m e ts ≡ parsed es rest → Closed (Series E) ts es rest
  unfolding parse_series
  series-reads zero ts es rest h = impossible (cc)
  series-reads (suc m) ts es rest h = let a = after-inv (e ts) h in next-item m (series-reads m) (s.reads a.first) a.next

  items-reads : (m : ℕ) (ts : List Token) {es : Exprs (List ℕ)} {rest : List Token} → parse_items m e ts ≡ parsed es rest → Closed (Items E) ts es rest
  unfolding parse_items
  items-reads m ts {es} {rest} h =
      see-cases (λ us. Closed (Items E) us es rest) ts h
      (λ h. let i = series-reads (suc m) ts es rest h in record { run = i.run; split = i.split; derived = series i.derived })
      (λ o us x l h. record { run = []; split = cc (mark-inv rparen o l); derived = subst (Items E []) (cc) empty })

  closing : {ts us : List Token} {t : Tree} → Reads E ts t us → {u : Tree} {rest : List Token}
      → see (is_mark rparen) us failed (λ x vs. parsed t vs) ≡ parsed u rest → Closed E ts u rest
  closing {us} r {u} {rest} h =
      subst (λ l. Closed E l u rest) (sym r.split)
      (see-cases (λ us. Closed E (r.run ++ us) u rest) us h (λ h. impossible (cc))
      (λ o vs x l h. record { run = r.run; split = cc (mark-inv rparen o l); derived = subst (E r.run) (cc) r.derived }))

  bracketed-reads : (ts : List Token) {t : Tree} {rest : List Token} → parse_bracketed e ts ≡ parsed t rest → Reads (Operand E) (mark lparen ∷ ts) t rest
  unfolding parse_bracketed
  bracketed-reads ts h =
      let a = after-inv (e ts) h in
      let c = closing (s.reads a.first) a.next in
      record { run = mark lparen ∷ c.run ++ mark rparen ∷ []; split = in-brackets c; derived = bracketed c.derived }

  call_step : {w : List ℕ} {us vs rest : List Token} {es : Exprs (List ℕ)} {t : Tree} → is_name w ≡ true → (o : Token) → o ≡ mark lparen
      → Closed (Items E) us es vs → parsed (FunctionCallExpr w es) vs ≡ parsed t rest → Reads (Operand E) (name w ∷ o ∷ us) t rest
  call_step {w} n o k c h =
      record {
        run = name w ∷ mark lparen ∷ c.run ++ mark rparen ∷ [];
        split = cc (in-brackets c);
        derived = subst (Operand E (name w ∷ mark lparen ∷ c.run ++ mark rparen ∷ [])) (cc) (call n c.derived);
      }

  named-reads : (m : ℕ) (w : List ℕ) → is_name w ≡ true → (ts : List Token) {t : Tree} {rest : List Token} → parse_named m e w ts ≡ parsed t rest
      → Reads (Operand E) (name w ∷ ts) t rest
  unfolding parse_named
  named-reads m w n ts {t} {rest} h =
      see-cases (λ ts. Reads (Operand E) (name w ∷ ts) t rest) ts h
      (λ h. record { run = name w ∷ []; split = cc; derived = subst (Operand E (name w ∷ [])) (cc) (variable n) })
      (λ o us x l h. let a = after-inv (parse_items m e us) h in call_step n o (mark-inv lparen o l) (items-reads m us a.first) a.next)

  literal-reads : {w : List ℕ} {ts rest : List Token} {t u : Tree} → (v : List ℕ) → Operand E (name v ∷ []) t → w ≡ v → parsed t ts ≡ parsed u rest
      → Reads (Operand E) (name w ∷ ts) u rest
  literal-reads v d k h = record { run = name v ∷ []; split = cc; derived = subst (Operand E (name v ∷ [])) (cc) d }

  excluded-reads : (w : List ℕ) (ts : List Token) {t : Tree} {rest : List Token} → parse_excluded w ts ≡ parsed t rest → Reads (Operand E) (name w ∷ ts) t rest
  unfolding parse_excluded
  excluded-reads w ts {t} {rest} h =
      pick-cases (same_bytes w (bytes "false")) h (λ b h. literal-reads (bytes "false") falsehood (same_bytes-true w _ b) h)
      (λ b h. pick-cases (same_bytes w (bytes "true")) h (λ b h. literal-reads (bytes "true") truth (same_bytes-true w _ b) h)
      (λ b h. pick-cases (same_bytes w (bytes "old")) h (λ b h. old-reads (same_bytes-true w _ b) h) (λ b h. impossible (cc))))
    where
      old-reads : w ≡ bytes "old" → see is_word ts failed (λ v us. parsed (IdExpr v true) us) ≡ parsed t rest → Reads (Operand E) (name w ∷ ts) t rest
      old-reads k h =
          see-cases (λ ts. Reads (Operand E) (name w ∷ ts) t rest) ts h (λ h. impossible (cc))
          (λ o us v l h.
          record {
            run = name (bytes "old") ∷ name v ∷ [];
            split = cc (word-inv o l);
            derived = subst (Operand E (name (bytes "old") ∷ name v ∷ [])) (cc) old_variable;
          })

  operand-reads : (m : ℕ) {ts : List Token} {t : Tree} {rest : List Token} → parse_operand m e ts ≡ parsed t rest → Reads (Operand E) ts t rest
  unfolding parse_operand
  operand-reads m {ts} {t} {rest} h =
      let Q : List Token → Type 0 = λ ts. Reads (Operand E) ts t rest in
      see-cases Q ts h
      (λ h. see-cases Q ts h
      (λ h. see-cases Q ts h (λ h. impossible (cc)) (λ o us x l h. rw (mark-inv lparen o l) (bracketed-reads us h)))
      (λ o us w l h. rw (word-inv o l)
      (pick-cases (is_name w) h (λ b h. named-reads m w b us h) (λ b h. excluded-reads w us h))))
      (λ o us n l h. record { run = nat n ∷ []; split = cc (nat-inv o l); derived = subst (Operand E (nat n ∷ [])) (cc) natural })

  -- an operand that is read has a derivation
  pub operand_sound : (m : ℕ) → Sound (Operand E) (parse_operand m e)
  operand_sound m = record { reads = λ h. operand-reads m h }

module _ {S : Rule} {p : Parser} (s : Sound S p) where
  bare-reads : {ts : List Token} {t : Tree} {rest : List Token} → p ts ≡ parsed t rest → Reads (Unary S) ts t rest
  bare-reads h = let r = s.reads h in record { run = r.run; split = r.split; derived = bare r.derived }

  prefixed-reads : {us vs rest : List Token} {t u : Tree} {op : Operator} (o : Token) → unary o ≡ some op → Reads (Unary S) us t vs
      → parsed (single op t) vs ≡ parsed u rest → Reads (Unary S) (o ∷ us) u rest
  prefixed-reads o l r h = record { run = o ∷ r.run; split = cc r.split; derived = subst (Unary S (o ∷ r.run)) (cc) (prefixed l r.derived) }

  unary-reads : (m : ℕ) {ts : List Token} {t : Tree} {rest : List Token} → parse_unary m p ts ≡ parsed t rest → Reads (Unary S) ts t rest
  unfolding parse_unary
  unary-reads zero h = bare-reads h
  unary-reads (suc m) {ts} {t} {rest} h =
      see-cases (λ ts. Reads (Unary S) ts t rest) ts h (λ h. bare-reads h)
      (λ o us op l h. let a = after-inv (parse_unary m p us) h in prefixed-reads o l (unary-reads m a.first) a.next)

  -- and so it has with prefixes
  pub unary-sound : (m : ℕ) → Sound (Unary S) (parse_unary m p)
  unary-sound m = record { reads = λ h. unary-reads m h }
