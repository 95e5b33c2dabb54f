-- Lines and words lie inside what they are read from. Assumes nothing.
use mathlib.Core.List.{List, [], ◌∷◌}
use mathlib.Core.Path.{◌≡◌, refl, sym, ap}
use Prim.Native.Nat.{ℕ, zero, suc, ◌-◌, ◌≤◌, ◌<◌}
use native.Mathlib.Omega.{arith}
use lib.ListN.{length, drop, take, length-drop, length-take}
use lib.Seq.{take_all}
use Rattle.token.specs.Bytes.{run_from}
use Rattle.token.proofs.RunSteps.{run-after, run-within}
use Rattle.script.specs.Words.{is_blank, in_word, in_line, line_end, word_start, word_end, word_of, rest_of, ahead, words_up_to, words_of}

pub line_on : (input : List ℕ) (at : ℕ) → at ≤ line_end input at
line_on input at = run-after in_line input at

pub line-inside : (input : List ℕ) (at : ℕ) → at ≤ length input → line_end input at ≤ length input
line-inside input at h = run-within in_line input at h

-- a line that begins inside its input lies inside it
pub line-within : (input : List ℕ) (at end : ℕ) → end ≡ line_end input at → at < length input → (at ≤ end) × (end ≤ length input)
line-within input at end is-end inside =
    let starts : at ≤ length input = omega arith in
    (rw is-end (line_on input at), rw is-end (line-inside input at starts))

-- the first word of a line lies inside it
pub word-whole : (line : List ℕ) → word_start line ≤ word_end line
word-whole line = run-after in_word line (word_start line)

pub word-inside : (line : List ℕ) → word_end line ≤ length line
word-inside line = run-within in_word line (word_start line) (run-within is_blank line 0 (omega arith))

word_room : (line : List ℕ) → 0 < length (word_of line) → 0 < word_end line
unfolding word_of
word_room line h =
    let n : length (take (word_end line - word_start line) (drop (word_start line) line)) ≤ word_end line = rw length-take (omega arith) in
    omega (arith, n, h)

-- behind a word there is less to come
pub rest-shorter : (line : List ℕ) → 0 < length (word_of line) → length (rest_of line) < length line
unfolding word_of rest_of
rest-shorter line h = omega (arith, length-drop (word_end line) line, word-inside line, word_room line h)

-- all that is left from a place on
pub all_of : (l : List ℕ) (a : ℕ) → take (length l - a) (drop a l) ≡ drop a l
all_of l a = let e : length (drop a l) ≡ length l - a = length-drop a l in take_all (length l - a) (drop a l) (omega arith)

-- an empty line has no word
none_of-nothing : (n : ℕ) → words_up_to n [] ≡ []
unfolding words_up_to ahead word_of run_from
none_of-nothing zero = refl
none_of-nothing (suc n) = refl

rest-no-longer : (line : List ℕ) → length (rest_of line) ≤ length line
unfolding rest_of
rest-no-longer line = omega (arith, length-drop (word_end line) line)

-- what follows a word is the same where its own words are
ahead-same :
    (line : List ℕ) (word : List ℕ) (a b : List (List ℕ)) → word_of line ≡ word → (length (rest_of line) < length line → a ≡ b)
    → ahead word a ≡ ahead word b
unfolding ahead
ahead-same line [] a b e same-words = refl
ahead-same line (x ∷ s) a b e same-words = ap (λ (more : List (List ℕ)). (x ∷ s) ∷ more) (same-words (rest-shorter line (rw e (omega arith))))

-- any two bounds that are no less than the bytes give the same words
words-enough : (n m : ℕ) (line : List ℕ) → length line ≤ n → length line ≤ m → words_up_to n line ≡ words_up_to m line
unfolding words_up_to
words-enough zero m [] hn hm = sym (none_of-nothing m)
words-enough zero m (x ∷ s) hn hm = absurd (omega arith)
words-enough (suc n) zero [] hn hm = none_of-nothing (suc n)
words-enough (suc n) zero (x ∷ s) hn hm = absurd (omega arith)
words-enough (suc n) (suc m) line hn hm =
    ahead-same line (word_of line) _ _ refl (λ shorter. words-enough n m (rest_of line) (omega arith) (omega arith))

-- the words of a line are the first one and those of the rest
pub words-first : (line : List ℕ) → words_of line ≡ ahead (word_of line) (words_of (rest_of line))
unfolding words_of words_up_to
words-first line =
    let less = rest-no-longer line in
    ap (ahead (word_of line)) (words-enough (length line) (suc (length (rest_of line))) (rest_of line) less (omega arith))
