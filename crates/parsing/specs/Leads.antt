-- The words that begin statements, and the lead that a word's bytes are.
use Rattle.std.specs.Prelude.{ℕ, Bool, true, false, ◌&&◌, eqb, List, [], ◌∷◌, ◌++◌}
use Prim.Native.String.{String}
use Rattle.lexing.specs.Answer.{pick}
use Rattle.lexing.specs.Bytes.{same_bytes, bytes}
use Rattle.parsing.specs.declared.lead.Lead.{Lead}
use Rattle.parsing.specs.declared.lead.Lead.TheVariants as lead
use Rattle.parsing.specs.declared.lead.Simple.TheVariants as simple

-- what stands beside the first word of a table that the bytes are, or else `other`
abbrev pub classed : {K : Type 0} → List (String × K) → K → List ℕ → K
classed [] other b = other
classed (l ∷ ls) other b = pick (same_bytes b (bytes l.0)) l.1 (classed ls other b)

-- the words in the order of `parse_stmt`, before and after its block
abbrev pub leads_before : List (String × Lead)
leads_before =
    ("var", lead.Var)
    ∷ ("val", lead.Val)
    ∷ ("reinit", lead.Simple simple.Reinit)
    ∷ ("exit", lead.Simple simple.Exit)
    ∷ ("return", lead.Simple simple.Return)
    ∷ ("check", lead.Simple simple.Check)
    ∷ ("assume", lead.Simple simple.Assume)
    ∷ ("reach", lead.Simple simple.Reach)
    ∷ ("assert", lead.Simple simple.Assert)
    ∷ ("probe", lead.Simple simple.Probe)
    ∷ ("forall", lead.Forall)
    ∷ []

abbrev pub leads_after : List (String × Lead)
leads_after = ("choose", lead.Choose) ∷ ("if", lead.If) ∷ ("loop", lead.Loop) ∷ []

abbrev pub leads : List (String × Lead)
leads = leads_before ++ leads_after

-- whether it is that of `loop`, which alone of these words opens a level
abbrev pub is_loop : Lead → Bool
is_loop lead.Var = false
is_loop lead.Val = false
is_loop (lead.Simple kind) = false
is_loop lead.Forall = false
is_loop lead.Choose = false
is_loop lead.If = false
is_loop lead.Loop = true
is_loop lead.Name = false

-- whether it opens a level where none of `depth` is left
unfoldable pub opens_none : Lead → ℕ → Bool
opens_none k depth = eqb depth 0 && is_loop k

unfoldable pub lead_of : List ℕ → Lead
lead_of b = classed leads lead.Name b
