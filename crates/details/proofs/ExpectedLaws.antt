-- What could stand at a place, as the code tries it.
-- Assumes nothing.
use Prim.Native.Nat.{ℕ, ◌+◌, ◌<◌, ◌≤◌}
use native.Mathlib.Omega.{arith}
use mathlib.Core.Path.{◌≡◌, sym, ap₂, ◌∙◌}
use mathlib.Core.Bool.{Bool, false}
use mathlib.Core.List.{List, ◌++◌}
use lib.ListN.{length, take, drop, length-append}
use lib.Seq.{sets-eq, take-append_seam}
use borrow.Author.Tests.{le-leb, lt-leb}
use Rattle.token.specs.Bytes.{bytes}
use Rattle.syntax.specs.Text.{reading}
use Rattle.lines.specs.Lines.{Put}
use Rattle.lines.proofs.LineLaws.{put_both}
use Rattle.details.specs.Expected.{goes_past, could_stand}

module _ (text : List ℕ) (place : ℕ) (word before : List ℕ) (is : before ≡ take place text) where
  pub text-long : 8192 < length before → false ≡ could_stand text place word
  unfolding could_stand
  text-long h = sym (rw (← is, lt-leb (length before) 8192 h))

  pub word-long : length before ≤ 8192 → 64 < length word → false ≡ could_stand text place word
  unfolding could_stand
  word-long l h = sym (rw (← is, le-leb (length before) 8192 l, lt-leb (length word) 64 h))

  -- the three parts are put one after the other, and the front of the buffer is what they make
  pub tried : length before ≤ 8192 → length word ≤ 64 → {zeros a b c : List ℕ} {i j k : ℕ} {r : Bool} → length zeros ≡ 8300
      → Put zeros 0 before a i → Put a i (bytes " ") b j → Put b j word c k → r ≡ goes_past (reading (take k c)).step j
      → r ≡ could_stand text place word
  unfolding could_stand
  tried l h {zeros} {a} {b} {c} {i} {j} {k} z p q w e =
      let whole : List ℕ = (before ++ bytes " ") ++ word in
      let all : Put zeros 0 whole c k = put_both (put_both p q) w in
      let long = length-append (before ++ bytes " ") word in
      let first = length-append before (bytes " ") in
      let fits : 0 + length whole ≤ length zeros = omega (arith, z, long, first) in
      let ends : k ≡ length whole = omega (arith, all.behind) in
      let front : take k c ≡ whole = ap₂ take ends (all.stored ∙ sets-eq whole zeros 0 fits) ∙ take-append_seam whole (drop (0 + length whole) zeros) in
      let here : j ≡ length before + 1 = omega (arith, p.behind, q.behind) in
      e ∙ ap₂ (λ (t : List ℕ) (n : ℕ). goes_past (reading t).step n) front here
      ∙ sym (rw (← is, le-leb (length before) 8192 l, le-leb (length word) 64 h))
