-- What is proved of the operator grammar (REFERENCE, "The operator grammar"), from the definitions in Words, Tokens, Grammar and Parser, and of
-- the reading rules of expressions and programs, from those in Steps, Rules, Statements, Declarations and Reading.
use Rattle.std.specs.Prelude.{ℕ, suc, ◌+◌, ◌*◌, ◌≤◌, ◌<◌, length, take, ◌≡◌, refl, ◌↔◌, true, false, List, []}
use Rattle.std.proofs.Math.Option.{none, some}
use Rattle.lexing.specs.Answer.{ok, unusable_token, ended_too_soon}
use Rattle.tree.specs.Ast.{Span, Expr, Program}
use Rattle.tree.specs.Resolve.{bytes_of, map_expr, map_program, resolve_expr}
use Rattle.tree.specs.Limits.{most_words}
use Rattle.tree.specs.Words.{expr_words, program_words}
use Rattle.tree.specs.Claims.{expression-count}
use Rattle.tree.specs.Check.{NameIn, expression_refusal, program_refusal}
use Rattle.grammar.specs.Tokens.{Token, cut}
use Rattle.grammar.specs.Grammar.{Tree, Whole, Derives}
use Rattle.grammar.specs.OperatorTrees.{OperatorTree, small_naturals, word_count, DerivesWithin}
use Rattle.grammar.specs.Parser.{parse, whole, parse_expr}
use Rattle.grammar.specs.Statements.{gallery}
use Rattle.grammar.specs.Reading.{words, refusal, parse_text, read_tree, expression_outcome, read_expression, parse_program, read_tree_of_program, program_outcome, read_program}
use Rattle.grammar.specs.TreeRead.{GivesTree}
use Rattle.grammar.specs.ClaimTerms.{OfReading, ToldAs, GalleriesKeptAlike, GalleryUnopened}
use Rattle.grammar.proofs.Bridge.Limits.{read-derives, gives-derives, derives-gives, derives-operators, gives_same}
use Rattle.grammar.proofs.Depth.Statements.{levels-alike}
use Rattle.grammar.proofs.Depth.NoLevel.{none_left}
use Rattle.grammar.proofs.Inside.Accepted.{expression-inside, program-inside, expression-passes, program-passes}
use Rattle.grammar.proofs.Refusals.Entries.{expression-refused, program-refused, unusable-inside, expression-ended, program-ended}
use Rattle.grammar.proofs.Told.{told-as}
use Rattle.grammar.proofs.Size.Entries.{expression-few, program-few, program-roomy}
use Rattle.grammar.proofs.Tables.{short}
use Rattle.grammar.proofs.Laws.Exact.{parse-sound, parse-complete, no-parse, deeper, unambiguous}
use Rattle.grammar.proofs.Laws.Every.{all_legal, legal, derived-operators}
use Rattle.grammar.proofs.Laws.Limited.{limited, parse-limited}

-- Demand 3, first claim: whatever the text, any two derivations of it have the same tree. No limit is meant, and the depths may differ.
pub derivations-agree : (text : List ℕ) (d d' : ℕ) (t t' : Tree) → Derives d text t → Derives d' text t' → t ≡ t'
derivations-agree text d d' t t' = unambiguous (cut text) d d'

-- The token parser gives a tree exactly when there is a derivation of at most its depth with that tree ..
pub parser-exact : (d : ℕ) (ts : List Token) (t : Tree) → (parse d ts ≡ some t) ↔ Whole d ts t
parser-exact d ts t = (parse-sound d ts, parse-complete d ts)

-- .. and none exactly when there is no derivation of at most its depth.
pub parser-refuses : (d : ℕ) (ts : List Token) → (parse d ts ≡ none) ↔ ((t : Tree) → Whole d ts t → ⊥)
parser-refuses d ts = no-parse d ts

-- For a reader with the limit on naturals: on a text's tokens, a natural past the limit counted as illegal, the parser with more turns than
-- the text has bytes gives exactly the trees of the derivations whose naturals keep the limit.
pub parser-limited : (m d : ℕ) (text : List ℕ) (t : Tree) → length text < m
    → (whole (parse_expr m d (limited (cut text))) ≡ some t) ↔ (Derives d text t × (small_naturals (cut text) ≡ true))
parser-limited = parse-limited

-- A derivation of some depth is one of at most any greater depth.
pub depth-grows : (d d' : ℕ) (ts : List Token) (t : Tree) → d ≤ d' → Whole d ts t → Whole d' ts t
depth-grows d d' ts t h = deeper d d' h ts t

-- Where bytes are left that can't be cut, there is no derivation.
pub derived-text-is-cut : (d : ℕ) (text : List ℕ) (t : Tree) → Derives d text t → all_legal (cut text) ≡ true
derived-text-is-cut d text t = legal d (cut text) t

-- A derivation's tree is an operator tree.
pub derived-tree-is-operators : (d : ℕ) (text : List ℕ) (t : Tree) → Derives d text t → OperatorTree t
derived-tree-is-operators d text t = derived-operators d (cut text) t

-- The words counted for a tree with names as bytes are those of the tree with names as spans that it comes from.
pub words-counted : (text : List ℕ) (t : Expr Span) → word_count (resolve_expr text t) ≡ length (expr_words (λ s. s) t [])
words-counted text t = expression-count (bytes_of text) _ _ t

-- ---- the reading rules

-- Whatever the text and the table of n words, reading by the rules gives an operator tree exactly when the text has a derivation that keeps the
-- limits (text length, depth, naturals, words against the table and 16,384), and it is the derivation's tree.
pub reader-exact : (text : List ℕ) (n : ℕ) (t : Tree) → (GivesTree text n t × OperatorTree t) ↔ DerivesWithin n text t
reader-exact text n t = (λ r. gives-derives text n r.0 r.1, λ d. (derives-gives text n d, derives-operators d))

-- The tree of a derivation that keeps the limits is what is read.
pub derivation-is-read : (text : List ℕ) (n : ℕ) (t : Tree) → DerivesWithin n text t → GivesTree text n t
derivation-is-read text n t = derives-gives text n

-- An operator tree that is stored has a derivation that keeps the limits.
pub reading-is-derived : (text : List ℕ) (n k : ℕ) (ws : List ℕ) (e : Expr Span) (next : ℕ) → read_expression text n ≡ words k ws → read_tree text ≡ ok e next
    → OperatorTree (resolve_expr text e) → DerivesWithin n text (resolve_expr text e)
reading-is-derived text n k ws e next = read-derives text n

-- A text that has a derivation within the limits is read as no other tree.
pub no-other-tree : (text : List ℕ) (n : ℕ) (t u : Tree) → DerivesWithin n text t → GivesTree text n u → u ≡ t
no-other-tree text n t u d g = gives_same text n g (derives-gives text n d)

-- Every name of a tree that is read lies inside the text: it is the tree of spans of one over such names.
pub read-expression-inside : (text : List ℕ) (e : Expr Span) (next : ℕ) → read_tree text ≡ ok e next
    → (t : Expr (NameIn (length text))) × (map_expr (λ n. n.span) t ≡ e)
read-expression-inside text e next = expression-inside text

pub read-program-inside : (text : List ℕ) (p : Program Span) (next : ℕ) → read_tree_of_program text ≡ ok p next
    → (t : Program (NameIn (length text))) × (map_program (λ n. n.span) t ≡ p)
read-program-inside text p next = program-inside text

-- The words that are read are a table that the check accepts over the same text.
pub read-expression-accepted : (text : List ℕ) (n k : ℕ) (table : List ℕ) → read_expression text n ≡ words k table
    → expression_refusal (take k table) (length text) ≡ none
read-expression-accepted text n k table = expression-passes text n

pub read-program-accepted : (text : List ℕ) (n k : ℕ) (table : List ℕ) → read_program text n ≡ words k table
    → program_refusal (take k table) (length text) ≡ none
read-program-accepted text n k table = program-passes text n

-- A reading is refused by 1 at 32,768; by 2, 3 or 4 at a byte of the text; by 12 where a long comment opens that is not closed; by 13 at the text's
-- end; or by 5 at 0 (`OfReading`).
pub read-expression-refused : (text : List ℕ) (n number place : ℕ) (table : List ℕ) → read_expression text n ≡ refusal number place table
    → OfReading text number place
read-expression-refused text n number place table = expression-refused text n

pub read-program-refused : (text : List ℕ) (n number place : ℕ) (table : List ℕ) → read_program text n ≡ refusal number place table
    → OfReading text number place
read-program-refused text n number place table = program-refused text n

-- So 2 stands before the text's end.
pub unusable-token-inside : (text : List ℕ) (place : ℕ) → OfReading text unusable_token place → place < length text
unusable-token-inside text place r = unusable-inside r refl

-- What is answered is the outcome by the rules' refusals, of which 2 at the text's end is told by 13 there, and everything else stays.
pub read-expression-told : (text : List ℕ) (n : ℕ) → ToldAs text (expression_outcome text n) (read_expression text n)
unfolding read_expression
read-expression-told text n = told-as text (expression_outcome text n)

pub read-program-told : (text : List ℕ) (n : ℕ) → ToldAs text (program_outcome text n) (read_program text n)
unfolding read_program
read-program-told text n = told-as text (program_outcome text n)

-- It is 13 exactly where the rules refuse by 2 at the text's end, and stands there.
pub read-expression-ended : (text : List ℕ) (n place : ℕ) (table : List ℕ)
    → (read_expression text n ≡ refusal ended_too_soon place table) ↔ ((place ≡ length text) × (expression_outcome text n ≡ refusal unusable_token (length text) table))
read-expression-ended text n = expression-ended text n

pub read-program-ended : (text : List ℕ) (n place : ℕ) (table : List ℕ)
    → (read_program text n ≡ refusal ended_too_soon place table) ↔ ((place ≡ length text) × (program_outcome text n ≡ refusal unusable_token (length text) table))
read-program-ended text n = program-ended text n

-- The tree that a text holds has few words: a program's at most five for each byte and five more, as the empty text's five; an expression's fewer
-- than five for each byte, as the four of a name of one byte.
pub program-words-few : (text : List ℕ) (p : Program Span) (next : ℕ) → parse_program text ≡ ok p next
    → length (program_words (λ s. s) p []) ≤ 5 * length text + 5
program-words-few text p next = program-few text

pub expression-words-few : (text : List ℕ) (e : Expr Span) (next : ℕ) → parse_text text ≡ ok e next → length (expr_words (λ s. s) e []) < 5 * length text
expression-words-few text e next = expression-few text

-- So a table with room for so many words is not too short: with one of at most 16,384, a program is not refused by 5.
pub program-table-long : (text : List ℕ) (n : ℕ) → 5 * length text + 5 ≤ n → n ≤ most_words → short (read_program text n) ≡ false
program-table-long = program-roomy

-- A rule is opened where it keeps a token (REFERENCE, "Depth"): whatever the levels left, each of the five rules keeps nothing where it
-- does with any other number of levels, with none among them. At least one turn is needed: a prefix is read in a turn.
pub depth-kept : (text : List ℕ) (m d d' : ℕ) → GalleriesKeptAlike (gallery text (suc m) d) (gallery text (suc m) d')
depth-kept = levels-alike

-- With no level left each of them keeps nothing or is refused by 3 where it stands; only where a name leads a statement may a long comment that is
-- not closed come first, after the name.
pub depth-refused : (text : List ℕ) (m : ℕ) → GalleryUnopened text (gallery text m 0)
depth-refused = none_left
