-- What is proved of the numbers of spans, beside the contract of `number_spans`: bs are the spans' names, `numbering [] bs` their numbers
-- and `distinct [] bs` the distinct names.
use Rattle.std.specs.Prelude.{ℕ, ◌<◌, ◌≤◌, ◌≡◌, ◌↔◌, List, [], length, get_or}
use Rattle.std.proofs.Common.{arith}
use Rattle.names.specs.Names.{numbering, distinct}
use Rattle.names.specs.NumberLaws

-- Two spans have one number exactly when their bytes are equal.
pub one_number : (bs : List (List ℕ)) (i j : ℕ) → i < length bs → j < length bs
    → (get_or (numbering [] bs) i 0 ≡ get_or (numbering [] bs) j 0) ↔ (get_or bs i [] ≡ get_or bs j [])
one_number = NumberLaws.one_number

-- Each span has a number, and it is below the count of the distinct names.
pub each-numbered : (bs : List (List ℕ)) → length (numbering [] bs) ≡ length bs
each-numbered = NumberLaws.numbering-length []

pub below-count : (bs : List (List ℕ)) (i : ℕ) → i < length bs → get_or (numbering [] bs) i 0 < length (distinct [] bs)
below-count bs i l = (NumberLaws.number_of [] bs i l).1

-- Each number below the count is a span's, and the numbers of the spans before the first such span are less.
pub each-occurs : (bs : List (List ℕ)) (n : ℕ) → n < length (distinct [] bs)
    → (i : ℕ) × (i < length bs) × (get_or (numbering [] bs) i 0 ≡ n) × ((j : ℕ) → j < i → get_or (numbering [] bs) j 0 < n)
each-occurs bs n l =
    let f = NumberLaws.first-with [] bs n (omega arith) l in
    (f.place, omega (arith, f.within, NumberLaws.numbering-length [] bs), f.numbered, f.before)

-- There are at most as many distinct names as spans.
pub count_most : (bs : List (List ℕ)) → length (distinct [] bs) ≤ length bs
count_most bs = omega (arith, NumberLaws.distinct-most [] bs)
