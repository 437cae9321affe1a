-- The limits of a tree and of a text (REFERENCE, "Limits"); the others stand where they are used.
use Rattle.std.specs.Prelude.{ℕ}

-- the words of a table
abbrev pub most_words : ℕ
most_words = 16384

-- the bytes of a text
abbrev pub most_text : ℕ
most_text = 32768
