-- What is proved of tree words, beside the contracts of the functions in src/. A tree over a text of length len is one whose names are of
-- type `NameIn len`: spans that lie inside the text. `λ n. n.span` gives their spans, and `λ s. s` is used for trees over spans.
use Rattle.std.specs.Prelude.{ℕ, ◌+◌, ◌≤◌, ◌<◌, ◌≡◌, ◌↔◌, List, [], ◌∷◌, ◌++◌, length, get_or, drop}
use Rattle.std.proofs.Math.Option.{none, some}
use Rattle.tree.specs.Limits.{most_words}
use Rattle.tree.specs.Ast.{Span, Expr, Program}
use Rattle.tree.specs.Resolve.{map_expr, map_program}
use Rattle.tree.specs.Words.{expr_words, program_words}
use Rattle.tree.specs.Kind.{Kind, program_fields}
use Rattle.tree.specs.Check.{NameIn, within, Refusal, expression_refusal, program_refusal}
use Rattle.tree.specs.Outline.{kind_numbers, end_places, program_kinds, program_ends}
use Rattle.tree.specs.Tally.{expression_counts, program_counts}
use Rattle.tree.specs.Counted.{CountedExpr, CountedProgram}
use Rattle.tree.specs.Trees.{spans, names_in, Tree as TreeOf, Trees as TreesOf, words as words_of}
use Rattle.tree.specs.Forms.{form}
use Rattle.tree.specs.Opened.{Opened}
use Rattle.tree.specs.OutlineTrees.{Stands, FirstTree, Parts}
use Rattle.tree.specs.Held.{program_tables, program_held, InLimits}
use Rattle.tree.specs.HeldLaws.{Table}
use Rattle.tree.specs.Tables
use Rattle.tree.specs.Tables.{from_program}
use Rattle.tree.specs.Refused
use Rattle.tree.specs.MapWords
use Rattle.tree.specs.WordCount
use Rattle.tree.specs.Walk
use Rattle.tree.specs.CountLaws
use Rattle.tree.specs.HeldLaws
use Rattle.tree.specs.OutlineTrees
use Rattle.tree.specs.ProgramOutline

-- Not refused if and only if there are at most 16,384 words and they are those of a tree whose names lie inside the text.
pub expression-accepted : (words : List ℕ) (len : ℕ)
    → (expression_refusal words len ≡ none) ↔ ((length words ≤ most_words) × ((t : Expr (NameIn len)) × (expr_words (λ n. n.span) t [] ≡ words)))
expression-accepted = Refused.expression-unrefused

pub program-accepted : (words : List ℕ) (len : ℕ)
    → (program_refusal words len ≡ none) ↔ ((length words ≤ most_words) × ((p : Program (NameIn len)) × (program_words (λ n. n.span) p [] ≡ words)))
program-accepted = Refused.program-unrefused

-- Refusal 6 exactly where there are more than 16,384 words; refusal 7 has a place among the words or their count.
pub expression-too-many : (words : List ℕ) (len : ℕ) → (expression_refusal words len ≡ some (record { number = 6; place = 0 })) ↔ (most_words < length words)
expression-too-many = Refused.expression-too-many

pub program-too-many : (words : List ℕ) (len : ℕ) → (program_refusal words len ≡ some (record { number = 6; place = 0 })) ↔ (most_words < length words)
program-too-many = Refused.program-too-many

pub expression-misfit : (words : List ℕ) (len p : ℕ) → expression_refusal words len ≡ some (record { number = 7; place = p }) → (p ≤ length words) × (length words ≤ most_words)
expression-misfit = Refused.expression-misfit

pub program-misfit : (words : List ℕ) (len p : ℕ) → program_refusal words len ≡ some (record { number = 7; place = p }) → (p ≤ length words) × (length words ≤ most_words)
program-misfit = Refused.program-misfit

-- The words determine the tree, and what follows it.
pub expression-unique : (t t' : Expr Span) (rest rest' : List ℕ) → expr_words (λ s. s) t rest ≡ expr_words (λ s. s) t' rest' → (t ≡ t') × (rest ≡ rest')
expression-unique = Tables.expression-unique

pub program-unique : (p p' : Program Span) (rest rest' : List ℕ) → program_words (λ s. s) p rest ≡ program_words (λ s. s) p' rest' → (p ≡ p') × (rest ≡ rest')
program-unique = Tables.program-unique

-- A tree over names inside the text has the words of the same tree over spans, so accepted words are a tree's over spans.
pub expression-spans : (len : ℕ) (t : Expr (NameIn len)) → expr_words (λ n. n.span) t ≡ expr_words (λ s. s) (map_expr (λ n. n.span) t)
expression-spans len t = MapWords.expr-map (λ s. s) (λ n. n.span) t

pub program-spans : (len : ℕ) (p : Program (NameIn len)) → program_words (λ n. n.span) p ≡ program_words (λ s. s) (map_program (λ n. n.span) p)
program-spans len p = MapWords.program-map (λ s. s) (λ n. n.span) p

-- How many words an expression has depends neither on its names nor on their spans.
pub expression-count : {N M : Type 0} (f : N → M) (g : M → Span) (h : N → Span) (t : Expr N) → length (expr_words g (map_expr f t) []) ≡ length (expr_words h t [])
expression-count = WordCount.map-count

-- A walk over a table goes from a tree's first word to its fields' words, for every kind and constructor.
pub walk : (table : List ℕ) (at : ℕ) (k : Kind) (t : TreeOf spans k) (rest : List ℕ) → drop at table ≡ words_of spans k t rest
    → (at < length table) × Opened spans (form spans k (get_or table at 0)) t rest (drop (at + 1) table)
walk = Walk.tree-at spans

pub append : (k : Kind) (t : TreeOf spans k) (rest : List ℕ) → words_of spans k t rest ≡ words_of spans k t [] ++ rest
append = Walk.words_append spans

-- After `count_expression` or `count_program` of a table that holds a tree, with a place for each word, the number of each sequence's items
-- stands at the sequence's place.
pub expression-counted : (table : List ℕ) (len : ℕ) (before : List ℕ) (t : Expr (NameIn len)) → expr_words (λ n. n.span) t [] ≡ table
    → length table ≤ most_words → length table ≤ length before → CountedExpr (λ n. n.span) (expression_counts table len before) (length table) t []
expression-counted = CountLaws.expression-counted

pub program-counted : (table : List ℕ) (len : ℕ) (before : List ℕ) (p : Program (NameIn len)) → program_words (λ n. n.span) p [] ≡ table
    → length table ≤ most_words → length table ≤ length before → CountedProgram (λ n. n.span) (program_counts table len before) (length table) p []
program-counted = CountLaws.program-counted

-- After `outline_program` of a table that holds a tree, a slice with a place for each word has the numbers of the outline; later places, and
-- after a refusal all, are as they were.
pub program-outlined : (table : List ℕ) (len : ℕ) (before : List ℕ) (p : Program (NameIn len)) → program_words (λ n. n.span) p [] ≡ table
    → length table ≤ most_words → length table ≤ length before → (i : ℕ) → i < length table
    → (get_or (program_kinds table len before) i 0 ≡ get_or (kind_numbers (within len) program_fields table) i 0)
    × (get_or (program_ends table len before) i 0 ≡ get_or (end_places (within len) program_fields 0 table) i 0)
program-outlined = ProgramOutline.outlined

pub outline-later : (table : List ℕ) (len : ℕ) (before : List ℕ) (i : ℕ) → length table ≤ i
    → (get_or (program_kinds table len before) i 0 ≡ get_or before i 0) × (get_or (program_ends table len before) i 0 ≡ get_or before i 0)
outline-later = ProgramOutline.later

pub outline-refused : (table : List ℕ) (len : ℕ) (before : List ℕ) {r : Refusal} → program_refusal table len ≡ some r
    → (program_kinds table len before ≡ before) × (program_ends table len before ≡ before)
outline-refused = ProgramOutline.refused

-- The numbers by the tree: from a table's start on stand the five sequences of its program; of a tree that stands first at a place the number is
-- its kind's, and its end is the place after its words, where what follows it stands; behind its first word stand its fields, of which it is made.
pub program-stands : (table : List ℕ) (len : ℕ) (p : Program (NameIn len)) → program_words (λ n. n.span) p [] ≡ table
    → Stands (names_in len) program_fields table 0 program_fields (from_program (names_in len) p)
program-stands = ProgramOutline.stands

pub tree-outlined : (len : ℕ) (table : List ℕ) (at : ℕ) (k : Kind) (ks : List Kind) (t : TreeOf (names_in len) k) (ts : TreesOf (names_in len) ks)
    → Stands (names_in len) program_fields table at (k ∷ ks) (t, ts) → FirstTree (names_in len) program_fields table at k ks ts
tree-outlined len = OutlineTrees.first-tree (names_in len) program_fields

pub parts-outlined : (len : ℕ) (table : List ℕ) (at : ℕ) (k : Kind) (ks : List Kind) (t : TreeOf (names_in len) k) (ts : TreesOf (names_in len) ks)
    → Stands (names_in len) program_fields table at (k ∷ ks) (t, ts) → Parts (names_in len) program_fields table at k ks t ts
parts-outlined len = OutlineTrees.parts-of (names_in len) program_fields

-- What a program's table holds over its text, which every judgement of it rests on: refusal 6 past the limits, 7 where the words are no tree's, or
-- the tree whose words they are.
pub table-cases : (text words : List ℕ) → Table (program_tables (length text)) (InLimits text words) words (program_held text words)
table-cases = HeldLaws.program-table
