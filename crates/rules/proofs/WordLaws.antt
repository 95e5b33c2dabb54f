-- Turns of the loops that store words.
use Prim.Native.Nat.{ℕ, suc, ◌+◌, ◌*◌, ◌≤◌, ◌<◌}
use native.Mathlib.Omega.{arith}
use native.Mathlib.Nat.{min-eq_left}
use native.Mathlib.Numerals.{add-one}
use mathlib.Core.Path.{◌≡◌, ap, ◌∙◌}
use mathlib.Core.List.{List, [], ◌∷◌, ◌++◌}
use lib.ListN.{length, get_or, drop, set, drop_of_length-le}
use lib.Seq.{drop-cons, sets}
use Rattle.tables.specs.Tables.{count_of}
use Rattle.rules.specs.Words.{word_of, written, appended}

-- a number that a word can hold is that word
pub word-itself : (n : ℕ) → n ≤ 4294967295 → word_of n ≡ n
unfolding word_of
word-itself n l = min-eq_left l

-- a run of stores: its start, one word more, and the end
pub written_start : (t : List ℕ) (at : ℕ) (ws : List ℕ) → written t at ws ≡ written t (at + 0) (drop 0 ws)
written_start t at ws = let q : at ≡ at + 0 = omega arith in ap (λ (n : ℕ). written t n ws) q

pub written-turn : (t : List ℕ) (at k : ℕ) (ws : List ℕ) {s : List ℕ} → k < length ws → s ≡ set t (at + k) (get_or ws k 0)
    → written t (at + k) (drop k ws) ≡ written s (at + (k + 1)) (drop (k + 1) ws)
unfolding written
written-turn t at k ws h p =
    let e : suc (at + k) ≡ at + (k + 1) = omega arith in
    ap (λ (l : List ℕ). sets t (at + k) l) (drop-cons ws k 0 h)
    ∙ ap (λ (n : ℕ). sets (set t (at + k) (get_or ws k 0)) n (drop (suc k) ws)) e
    ∙ rw (p, add-one)

pub written-end : (t : List ℕ) (at k : ℕ) (ws : List ℕ) → length ws ≤ k → written t (at + k) (drop k ws) ≡ t
unfolding written
written-end t at k ws h = rw (drop_of_length-le ws h)

-- stores of two runs, one behind the other
pub written_both : (t : List ℕ) (at : ℕ) (xs ys : List ℕ) → written t at (xs ++ ys) ≡ written (written t at xs) (at + length xs) ys
unfolding written
written_both t at [] ys = let q : at ≡ at + 0 = omega arith in ap (λ (n : ℕ). sets t n ys) q
written_both t at (x ∷ xs) ys =
    let q : suc at + length xs ≡ at + suc (length xs) = omega arith in
    written_both (set t at x) (suc at) xs ys ∙ ap (λ (n : ℕ). sets (sets (set t at x) (suc at) xs) n ys) q

-- an entry written in two runs, or in three, and counted
pub appended-two : (stride : ℕ) (t : List ℕ) {count : ℕ} {t₁ t₂ t₃ : List ℕ} (xs ys : List ℕ) → count ≡ count_of t → t₁ ≡ written t (stride * count + 1) xs
    → t₂ ≡ written t₁ (stride * count + 1 + length xs) ys → t₃ ≡ set t₂ 0 (word_of (count + 1)) → t₃ ≡ appended stride t (xs ++ ys)
unfolding appended
appended-two stride t xs ys n a b c = c ∙ rw (b, a, n, written_both)

pub appended-three : (stride : ℕ) (t : List ℕ) {count a b : ℕ} {t₁ t₂ t₃ t₄ : List ℕ} (xs ys zs : List ℕ) → a ≡ length xs → b ≡ length (xs ++ ys)
    → count ≡ count_of t → t₁ ≡ written t (stride * count + 1) xs → t₂ ≡ written t₁ (stride * count + 1 + a) ys → t₃ ≡ written t₂ (stride * count + 1 + b) zs
    → t₄ ≡ set t₃ 0 (word_of (count + 1)) → t₄ ≡ appended stride t (xs ++ ys ++ zs)
unfolding appended
appended-three stride t xs ys zs e f n p q r d = d ∙ rw (r, q, p, n, e, f, written_both, written_both)
