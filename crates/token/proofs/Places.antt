-- What the definitions over the bytes to come say at a place of a text. Assumes nothing.
use mathlib.Core.List.{List}
use mathlib.Core.Path.{◌≡◌, sym, ap, ◌∙◌}
use Prim.Native.Nat.{ℕ, ◌+◌, ◌-◌, ◌≤◌, ◌<◌, min}
use native.Mathlib.Omega.{arith}
use lib.ListN.{length, get_or, take, drop, drop_of_length-le, length-drop}
use lib.Seq.{slice, drop-drop, get_or-drop}
use Rattle.token.specs.Bytes.{run_at}
use Rattle.token.specs.Word.{is_name_byte, word_of}
use Rattle.token.specs.Scan.{is_bit, name_token, name_from, bits_token, bits_from, token_by, token_from}
use Rattle.token.specs.declared.Token.TheVariants.{End}
use Rattle.token.proofs.RunSteps.{to-come, run-after}
use Rattle.token.proofs.Words.{part-is}

-- the bytes to come end where the text does
pub end_is : (text : List ℕ) (i : ℕ) → i < length text → i + length (drop i text) ≡ length text
end_is text i inside = omega (arith, length-drop i text)

-- a part of a text, by its places and by the bytes to come
pub part_of : (text : List ℕ) (i e : ℕ) → i ≤ length text → i ≤ e → take (e - i) (drop i text) ≡ slice i e text
part_of text i e h le =
    let back : i + (e - i) ≡ e = omega arith in
    sym (part-is text i (e - i) h) ∙ ap (λ (n : ℕ). slice i n text) back

pub name-is :
    (text : List ℕ) (i : ℕ) → i ≤ length text
    → name_from (drop i text) i ≡ name_token i (run_at is_name_byte text i) (word_of (slice i (run_at is_name_byte text i) text))
unfolding name_from
name-is text i h = rw (part_of text i (run_at is_name_byte text i) h (run-after is_name_byte text i))

pub bits_is :
    (text : List ℕ) (i : ℕ) → i < length text
    → bits_from (drop i text) i ≡ bits_token (length text) i (run_at is_bit text (i + 1)) (get_or text (run_at is_bit text (i + 1)) 0)
unfolding bits_from
bits_is text i inside =
    let close : ℕ = run_at is_bit text (i + 1) in
    let back : i + (close - i) ≡ close = omega (arith, run-after is_bit text (i + 1)) in
    rw (end_is text i inside, drop-drop 1 i text, get_or-drop i text (close - i) 0, back)

-- a token begins with the byte at its place, or is the end
module _ (text : List ℕ) (i : ℕ) where
  pub token-is : i < length text → token_from (drop i text) (min i (length text)) ≡ token_by (get_or text i 0) (drop i text) i
  unfolding token_from
  token-is inside = let here : min i (length text) ≡ i = omega arith in rw (here, to-come text i inside)

  pub token-ends : length text ≤ i → token_from (drop i text) (min i (length text)) ≡ record { token = End (length text); next = length text }
  unfolding token_from
  token-ends past = let here : min i (length text) ≡ length text = omega arith in rw (here, drop_of_length-le text past)
