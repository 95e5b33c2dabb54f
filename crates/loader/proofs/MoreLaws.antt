-- Tables that grow by whole entries: the count rises, and the entries that are there stay.
-- Assumes nothing.
use Prim.Native.Nat.{ℕ, ◌+◌, ◌-◌, ◌*◌, ◌≤◌, ◌<◌}
use native.Mathlib.Omega.{arith}
use native.Mathlib.Nat.{mul-add, mul-le-mul_left}
use mathlib.Core.Path.{◌≡◌, refl, sym, ap, ◌∙◌, subst}
use mathlib.Core.Bool.{true}
use mathlib.Core.List.{List, ◌++◌}
use lib.ListN.{length, get_or, replicate, length-replicate, get_or-replicate, get_or-append}
use Rattle.tables.specs.Every.{zeros}
use Rattle.tables.specs.Tables.{count_of}
use Rattle.tables.proofs.ZeroLaws.{zeros-at}
use Rattle.tables.proofs.SameLaws.{Alike}
use Rattle.tables.proofs.Growth.{Added}
use Rattle.loader.specs.Describes.{Holds, Blank}

-- n entries more
pub record More (stride n : ℕ) (a b : List ℕ) : Type 0 where
  pub count : count_of b ≡ count_of a + n
  pub before : Alike (stride * count_of a + 1) a b
  pub long : length b ≡ length a

pub more-none : (stride : ℕ) (a : List ℕ) → More stride 0 a a
more-none stride a = record { count = omega arith; before = λ k l m. refl; long = refl }

pub more-one : (stride : ℕ) (a b : List ℕ) → Added stride a b → length b ≡ length a → More stride 1 a b
more-one stride a b h l = record { count = h.count; before = h.before; long = l }

further : (stride n m k : ℕ) → k < stride * n + 1 → n ≤ m → k < stride * m + 1
further stride n m k l h = let q = mul-le-mul_left stride h in omega arith

pub more-then : (stride n m : ℕ) (a b c : List ℕ) → More stride n a b → More stride m b c → More stride (n + m) a c
more-then stride n m a b c f g =
    record {
      count = omega (arith, f.count, g.count);
      before = λ k l h. f.before k l h ∙ g.before k l (further stride (count_of a) (count_of b) k h (omega (arith, f.count)));
      long = g.long ∙ f.long;
    }

-- an entry that is held is held on
pub held_on : (stride n : ℕ) (a b words : List ℕ) (i : ℕ) → More stride n a b → i < count_of a → Holds stride a i words → Holds stride b i words
unfolding Holds
held_on stride n a b words i m l h k j =
    let q : stride * (i + 1) ≤ stride * count_of a = mul-le-mul_left stride (omega arith) in
    let e : stride * (i + 1) ≡ stride * i + stride * 1 = mul-add stride i 1 in
    sym (m.before (stride * i + 1 + k) (omega arith) (omega arith)) ∙ h k j

-- also where more words lie behind the table
pub held-past : (stride : ℕ) (a rest words : List ℕ) (i : ℕ) → stride * i + 1 + stride ≤ length a → Holds stride a i words → Holds stride (a ++ rest) i words
unfolding Holds
held-past stride a rest words i fits h k l = get_or-append a rest 0 (stride * i + 1 + k) (omega arith) ∙ h k l

-- the entry that a declaration brings keeps its number: b has one entry more than a, and c has n more than b
pub stands : (stride n i : ℕ) (a b c words : List ℕ) → count_of a ≡ 0 + i → More stride 1 a b → More stride n b c → Holds stride b (count_of a) words → Holds stride c i words
stands stride n i a b c words e one more held =
    let number : count_of a ≡ i = omega arith in
    subst (λ (k : ℕ). Holds stride c k words) number (held_on stride n b c words (count_of a) more (omega (arith, one.count)) held)

-- ---- a table of zeros that grew by n entries
module _ (stride size n : ℕ) (table : List ℕ) (grown : More stride n (replicate (size + 1) 0) table) where
  pub grown-long : length table ≡ size + 1
  grown-long = grown.long ∙ length-replicate {A = ℕ} (size + 1) 0

  grown-count : count_of table ≡ n
  grown-count = omega (arith, grown.count, get_or-replicate {A = ℕ} (size + 1) 0 0 0 (omega arith))

  -- whatever lies behind it
  module _ (rest : List ℕ) where
    pub count_past : count_of (table ++ rest) ≡ n
    count_past = get_or-append table rest 0 0 (omega (arith, grown-long)) ∙ grown-count

    pub blank-past : zeros table (stride * count_of table + 1) (size - stride * count_of table) ≡ true → Blank stride (size + 1) (table ++ rest) n
    unfolding Blank
    blank-past none k l m =
        let base = stride * n in
        let blank : zeros table (base + 1) (size - base) ≡ true = subst (λ (i : ℕ). zeros table (stride * i + 1) (size - stride * i) ≡ true) grown-count none in
        let e : k ≡ base + 1 + (k - (base + 1)) = omega arith in
        get_or-append table rest 0 k (omega (arith, grown-long)) ∙ ap (λ (i : ℕ). get_or table i 0) e
        ∙ zeros-at table (base + 1) (size - base) blank (k - (base + 1)) (omega arith)
