-- `name` meets its contract: a start past the text, a name that passes its end, and one inside.
use Prim.Native.Nat.{ℕ, ◌+◌, ◌-◌, ◌≤◌, min}
use mathlib.Core.Path.{◌≡◌, refl, sym, ◌∙◌, ap}
use mathlib.Core.Bool.{Bool, true, false}
use mathlib.Core.List.{List, []}
use native.Mathlib.Omega.{arith}
use lib.ListN.{length, take, drop, length-drop, drop_of_length-le}
use lib.Seq.{take_all, take-nil}
use lib.Dec.{leb}
use borrow.Author.Tests.{leb-true, leb-false}
use Rattle.tree.specs.Resolve.{part}
use Rattle.tree.proofs.name.Goals as goal

module _ (text : List ℕ) (start len s e : ℕ) (b : s ≡ min (length text) start) (f : e ≡ min (length text) (s + len)) where
  within : (o : Bool) → leb (s + len) (length text) ≡ o → s ≤ length text → take (e - s) (drop s text) ≡ take len (drop s text)
  within true o h =
      let l = leb-true _ _ o in
      let n : e - s ≡ len = omega arith in
      ap (λ (k : ℕ). take k (drop s text)) n
  within false o h =
      let l = leb-false _ _ o in
      take_all (e - s) (drop s text) (simp length-drop (omega arith)) ∙ sym (take_all len (drop s text) (simp length-drop (omega arith)))

  cut : (o : Bool) → leb start (length text) ≡ o → take (e - s) (drop s text) ≡ take len (drop start text)
  cut true o =
      let l = leb-true _ _ o in
      let n : s ≡ start = omega arith in
      within (leb (s + len) (length text)) refl (omega arith) ∙ ap (λ (k : ℕ). take len (drop k text)) n
  cut false o =
      let l = leb-false _ _ o in
      let d : drop s text ≡ [] = drop_of_length-le text {i = s} (omega arith) in
      let d' : drop start text ≡ [] = drop_of_length-le text {i = start} (omega arith) in
      ap (take (e - s)) d ∙ take-nil (e - s) ∙ sym (ap (take len) d' ∙ take-nil len)

pub returns : goal.returns
unfolding part
returns c = cut c.args.text.now c.args.start c.args.len _ _ c.min-start.ensures c.min-end.ensures (leb c.args.start (length c.args.text.now)) refl
