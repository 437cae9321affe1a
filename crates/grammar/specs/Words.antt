-- The words of B3 as bytes: the eight that are no name of an operand, and the 46 that Parser.dfy gives to `T` or `parseAExprSeq`.
use Rattle.std.specs.Prelude.{ℕ, Bool, false, ◌&&◌, ◌||◌, not, List, [], ◌∷◌, leb, eqb, length}
use Prim.Native.String.{String}
use Rattle.lexing.specs.Bytes.{bytes, same_bytes}
use Rattle.lexing.specs.Tokens.{identifier_length}

-- w is one of the words
unfoldable pub one_of : List String → List ℕ → Bool
one_of [] w = false
one_of (v ∷ vs) w = same_bytes (bytes v) w || one_of vs w

-- the words that are no name of an operand, unless after `old`
abbrev pub excluded_words : List String
excluded_words = "if" ∷ "val" ∷ "forall" ∷ "exists" ∷ "lift" ∷ "false" ∷ "true" ∷ "old" ∷ []

-- the words that Parser.dfy gives to `T` or `parseAExprSeq`, in the order of their first use there
abbrev pub keywords : List String
keywords =
    "type" ∷ "tagger" ∷ "for" ∷ "function" ∷ "tag" ∷ "injective" ∷ "when" ∷ "axiom" ∷ "explains" ∷ "procedure" ∷ "requires" ∷ "ensures"
    ∷ "inout" ∷ "out" ∷ "bool" ∷ "int" ∷ "var" ∷ "val" ∷ "reinit" ∷ "exit" ∷ "return" ∷ "check" ∷ "assume" ∷ "reach" ∷ "assert" ∷ "probe"
    ∷ "forall" ∷ "choose" ∷ "or" ∷ "if" ∷ "autoinv" ∷ "else" ∷ "case" ∷ "loop" ∷ "invariant" ∷ "div" ∷ "mod" ∷ "exists" ∷ "lift" ∷ "into"
    ∷ "by" ∷ "trigger" ∷ "pattern" ∷ "false" ∷ "true" ∷ "old" ∷ []

-- document 01's 'name' of an operand, given an identifier (REFERENCE, "The operator grammar")
unfoldable pub is_name : List ℕ → Bool
is_name w = not (one_of excluded_words w)

-- w is one whole identifier
unfoldable pub is_identifier : List ℕ → Bool
is_identifier w = leb 1 (length w) && eqb (identifier_length w) (length w)

-- a name of a faithful tree: an identifier, and none of the 46 words
unfoldable pub is_faithful_name : List ℕ → Bool
is_faithful_name w = is_identifier w && not (one_of keywords w)
