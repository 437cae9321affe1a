-- A stack's items, from the top down, and how they change. The number of free places tells callers that there is room.
use Rattle.std.specs.Prelude.{◌+◌, ◌≡◌, List, [], ◌∷◌, drop, Option, Some, None, Result, Ok, Err}
use Rattle.tree.specs.declared.stack.Stack.{Stack}

module _ {T : Type 0} where
  abbrev pub items : Stack T → List T
  items s = drop s.free s.items.now

  -- an item is put on it
  pub record Pushed (x : T) (s s' : Stack T) : Type 0 where
    pub items : items s' ≡ x ∷ items s
    pub free : s.free ≡ s'.free + 1

  -- or it is given back, as no place is free
  abbrev pub Pushes : T → Stack T → Result (Unit {0}) T → Stack T → Type 0
  Pushes x s (Ok u) s' = Pushed x s s'
  Pushes x s (Err y) s' = (s.free ≡ 0) × (y ≡ x) × (items s' ≡ items s) × (s'.free ≡ s.free)

  -- the item on the top is taken off, if there is one
  abbrev pub Popped : Stack T → Option T → Stack T → Type 0
  Popped s None s' = (items s ≡ []) × (items s' ≡ []) × (s'.free ≡ s.free)
  Popped s (Some x) s' = (items s ≡ x ∷ items s') × (s'.free ≡ s.free + 1)
