-- What callers cite of a stack.
use Prim.Native.Nat.{◌<◌}
use native.Mathlib.Omega.{arith}
use Rattle.std.specs.Prelude.{Result, Ok, Err}
use Rattle.tree.specs.Stack.{Pushes, Pushed}
use Rattle.tree.specs.declared.stack.Stack.{Stack}

-- where a place is free, an item is put on it
pub put-on : {T : Type 0} {x : T} {s s' : Stack T} (r : Result (Unit {0}) T) → 0 < s.free → Pushes x s r s' → Pushed x s s'
put-on (Ok u) room p = p
put-on (Err y) room p = absurd (omega (arith, p.0))
