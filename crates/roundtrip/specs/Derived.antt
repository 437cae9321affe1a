-- Every print of a faithful operator tree, in every context and format: by induction on the tree, over all contexts.
use Rattle.std.specs.Prelude.{ℕ, suc, ◌<◌, ◌≡◌, Bool, List, [], ◌∷◌}
use Rattle.std.proofs.Math.Path.{refl}
use Rattle.std.proofs.Common.{sym, subst, append-nil}
use Rattle.std.proofs.Math.Bool.{true, false}
use Rattle.lexing.specs.Answer.{pick}
use Rattle.lexing.specs.Bytes.{is_digit, can_start_identifier_char, identifier_char, run, bytes}
use Rattle.lexing.specs.Blanks.{W, blanks_from}
use Rattle.lexing.specs.Tokens.{identifier_length}
use Rattle.tree.specs.Ast.{Operator, ArgumentCount}
use Rattle.tree.specs.Ast.{BLiteral, ILiteral, IdExpr, OperatorExpr, FunctionCallExpr, Exprs, no_exprs, ◌then◌}
use Rattle.grammar.specs.Words.{is_identifier, is_faithful_name}
use Rattle.grammar.specs.Tokens.{tokens_after, cut}
use Rattle.grammar.specs.Grammar.{Tree, Derives, falsehood, truth, variable}
use Rattle.grammar.specs.OperatorTrees.{Operators, AllOperators, Faithful, not_on_the_right, fits_right}
use Rattle.layout.specs.declared.power.BindingPower.{BindingPower}
use Rattle.layout.specs.declared.power.Side.TheVariants.{Left, Right}
use Rattle.layout.specs.declared.format.ExprFormatOption.{ExprFormatOption}
use Rattle.layout.specs.PrintUtil.{Init, WinsOver, SubexpressionPower, BindingStrength}
use Rattle.layout.specs.Printer.{Print, Operand, is_if, unary, binary, operator_form, Expression, operands}
use Rattle.roundtrip.specs.Operators.{level_of, unary-operators}
use Rattle.roundtrip.specs.Table.{level_in, all-allowed, operand-print-fits}
use Rattle.roundtrip.specs.FaithfulNames.{faithful-identifier, faithful-name}
use Rattle.roundtrip.specs.Nesting.{of_arguments, nesting, nestings}
use Rattle.roundtrip.specs.Printed.{Printed, whole-printed, word-printed, natural-printed, old-printed, wrapped-printed}
use Rattle.roundtrip.specs.PrintedOperators.{unary-printed, binary-printed}
use Rattle.roundtrip.specs.PrintedCalls.{PrintedRest, PrintedItems, no-rest, more-rest, no_items, more-items, call-printed}

cut-nothing : cut [] ≡ []
unfolding cut tokens_after W blanks_from
cut-nothing = refl

module _ (step : ℕ) where
  unary-form : (op : Operator) (a : Operand) → ArgumentCount op ≡ 1 → operator_form step op (a ∷ []) ≡ unary op a
  unary-form op a c = rw c refl

  binary-form : (op : Operator) (a b : Operand) → ArgumentCount op ≡ 2 → operator_form step op (a ∷ b ∷ []) ≡ binary op a b
  binary-form op a b c = rw c refl

  -- what is proved of a tree's print in a context
  abbrev pub PrintedIn : Tree → BindingPower → Type 0
  PrintedIn t context = Printed (λ f r. Expression (λ w. w) step t context f r) (nesting t context) (level_in t context) t

  boolean-printed : (b : Bool) (context : BindingPower) → PrintedIn (BLiteral b) context
  unfolding Expression nesting is_identifier identifier_length can_start_identifier_char identifier_char is_digit run
  boolean-printed true context = word-printed (bytes "true") refl (λ E. truth)
  boolean-printed false context = word-printed (bytes "false") refl (λ E. falsehood)

  variable-printed : (w : List ℕ) (old : Bool) (context : BindingPower) → is_faithful_name w ≡ true → PrintedIn (IdExpr w old) context
  unfolding Expression nesting
  variable-printed w true context h = old-printed w (faithful-identifier w h)
  variable-printed w false context h = word-printed w (faithful-identifier w h) (λ E. variable (faithful-name w h))

  unary-allows : (op : Operator) → ArgumentCount op ≡ 1 → (t : Tree) → fits_right op t ≡ true
  unfolding not_on_the_right
  unary-allows op c = all-allowed op (unary-operators (λ op. not_on_the_right op ≡ []) refl refl op c)

  -- a tree as the operand of an operator
  abbrev as_operand : Tree → Operand
  as_operand t = record { print = λ c f r. Expression (λ w. w) step t c f r; is_if = is_if t }

  -- an operator's print is that of its form, in the brackets that it needs
  wrapped-form : (op : Operator) (es : Exprs (List ℕ)) (context : BindingPower) {n : ℕ} (form : Print)
      → operator_form step op (operands (λ w. w) step es) ≡ form → Printed (form context) n (level_of op) (OperatorExpr op es)
      → Printed (λ f r. Expression (λ w. w) step (OperatorExpr op es) context f r)
      (pick (WinsOver (BindingStrength op) context) n (suc n))
      (level_in (OperatorExpr op es) context)
      (OperatorExpr op es)
  unfolding Expression
  wrapped-form op es context {n} form e p =
      wrapped-printed (WinsOver (BindingStrength op) context) (subst (λ (g : Print). Printed (g context) n (level_of op) (OperatorExpr op es)) (sym e) p)

  unary-expression : (op : Operator) (t : Tree) (context : BindingPower) → ArgumentCount op ≡ 1
      → PrintedIn t (SubexpressionPower (BindingStrength op) Right context) → PrintedIn (OperatorExpr op (◌then◌ t no_exprs)) context
  unfolding operands nesting nestings
  unary-expression op t context c p =
      wrapped-form op (◌then◌ t no_exprs) context (unary op (as_operand t)) (unary-form op (as_operand t) c)
      (unary-printed op (as_operand t) context c p (operand-print-fits op Right context t (unary-allows op c t)))

  binary-expression : (op : Operator) (t u : Tree) (context : BindingPower) → ArgumentCount op ≡ 2
      → PrintedIn t (SubexpressionPower (BindingStrength op) Left context) → PrintedIn u (SubexpressionPower (BindingStrength op) Right context)
      → fits_right op u ≡ true → PrintedIn (OperatorExpr op (◌then◌ t (◌then◌ u no_exprs))) context
  unfolding operands nesting nestings
  binary-expression op t u context c p q h =
      wrapped-form op (◌then◌ t (◌then◌ u no_exprs)) context (binary op (as_operand t) (as_operand u)) (binary-form op (as_operand t) (as_operand u) c)
      (binary-printed op (as_operand t) (as_operand u) context c p (operand-print-fits op Left context t refl) q (operand-print-fits op Right context u h))

  abbrev PrintedRestOf : Exprs (List ℕ) → Type 0
  PrintedRestOf es = PrintedRest (operands (λ w. w) step es) (of_arguments (nestings es)) es

  abbrev PrintedItemsOf : Exprs (List ℕ) → Type 0
  PrintedItemsOf es = PrintedItems (operands (λ w. w) step es) (of_arguments (nestings es)) es

  call-expression : (w : List ℕ) (es : Exprs (List ℕ)) (context : BindingPower) → is_faithful_name w ≡ true → PrintedItemsOf es
      → PrintedIn (FunctionCallExpr w es) context
  unfolding Expression nesting
  call-expression w es context h p = call-printed w (operands (λ w. w) step es) (faithful-identifier w h) (faithful-name w h) p

  next-rest : (t : Tree) (es : Exprs (List ℕ)) → PrintedIn t Init → PrintedRestOf es → PrintedRestOf (◌then◌ t es)
  unfolding operands nestings
  next-rest t es p q = more-rest (as_operand t) (operands (λ w. w) step es) p q

  next-items : (t : Tree) (es : Exprs (List ℕ)) → PrintedIn t Init → PrintedRestOf es → PrintedItemsOf (◌then◌ t es)
  unfolding operands nestings
  next-items t es p q = more-items (as_operand t) (operands (λ w. w) step es) p q

  natural-expression : (n : ℕ) (context : BindingPower) → PrintedIn (ILiteral n) context
  unfolding Expression nesting
  natural-expression n context = natural-printed n

  none_rest : PrintedRestOf no_exprs
  unfolding operands nestings
  none_rest = no-rest

  none-items : PrintedItemsOf no_exprs
  unfolding operands nestings
  none-items = no_items

  mutual
    -- every faithful tree, in every context
    pub printed : {t : Tree} → Faithful t → (context : BindingPower) → PrintedIn t context
    printed (Operators.boolean {b}) context = boolean-printed b context
    printed (Operators.natural {n}) context = natural-expression n context
    printed (Operators.variable {w} {old} h) context = variable-printed w old context h
    printed (Operators.call {w} {es} h xs) context = call-expression w es context h (printed-items xs)
    printed (Operators.unary {op} {t} c x) context =
        unary-expression op t context c (printed x (SubexpressionPower (BindingStrength op) Right context))
    printed (Operators.binary {op} {t} {u} c x y h) context =
        binary-expression op t u context c (printed x (SubexpressionPower (BindingStrength op) Left context))
        (printed y (SubexpressionPower (BindingStrength op) Right context)) h

    printed-items : {es : Exprs (List ℕ)} → AllOperators is_faithful_name fits_right es → PrintedItemsOf es
    printed-items AllOperators.none = none-items
    printed-items (AllOperators.next {t} {es} x xs) = next-items t es (printed x Init) (printed-rest xs)

    printed-rest : {es : Exprs (List ℕ)} → AllOperators is_faithful_name fits_right es → PrintedRestOf es
    printed-rest AllOperators.none = none_rest
    printed-rest (AllOperators.next {t} {es} x xs) = next-rest t es (printed x Init) (printed-rest xs)

  -- the whole print
  pub printed-derives : {t : Tree} → Faithful t → (format : ExprFormatOption) (d : ℕ) → nesting t Init < d
      → Derives d (Expression (λ w. w) step t Init format []) t
  printed-derives x format d h =
      let p = printed x Init in
      rw (p.cuts format [] tt, cut-nothing, append-nil) (whole-printed p d h)
