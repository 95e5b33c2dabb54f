-- 02, No. 6: "In any number lent, confirmed or kept for a register, bits above its width count as 0." `cut_to`
-- (Calls.antt) is the number without them. proofs/Widths.antt proves `HighBitsAreZero` for any tables, numbers and
-- states: where the tables are not sound, every call is refused, whatever the numbers are.
-- Assumes nothing.
use Rattle.std.specs.Prelude.{ℕ, ◌<◌, ◌^◌, ◌≡◌, List, ℤ, length, get_or}
use Rattle.tables.specs.declared.Part.TheVariants.{Write as writing}
use Rattle.tables.specs.View.{Tables, sound, register_count, register_width}
use Rattle.station.specs.Calls.{State, Outcome, cut_to, kept_of, register_taken, write_access, opening, begin_read, begin_write, confirm, abandon}
use Rattle.station.specs.Answers.{register_read}
use Rattle.station.specs.Kept.{NotRefused}

-- two records that differ in nothing but bits above the widths; the state with another record
pub record Alike (t : Tables) (kept other : List ℕ) : Type 0 where
  pub long : length kept ≡ length other
  pub below : (r : ℕ) → cut_to t r (get_or kept r 0) ≡ cut_to t r (get_or other r 0)

abbrev pub with_record : State → List ℕ → State
with_record s kept = record { kept = kept; marks = s.marks; operation = s.operation }

-- what two calls came to: the same in all, and records that are alike
pub record AlikeOutcomes (t : Tables) (o p : Outcome) : Type 0 where
  pub answers : o.answer ≡ p.answer
  pub marks : o.state.marks ≡ p.state.marks
  pub operations : o.state.operation ≡ p.state.operation
  pub records : Alike t o.state.kept p.state.kept

pub record HighBitsAreZero (t : Tables) (s : State) : Type 0 where
  -- lent for a register, at an opening: the record takes the number without them
  pub lent : (power : List ℕ) (r : ℕ) → r < register_count t → NotRefused (opening sound t power s)
      → kept_of (opening sound t power s).state r ≡ cut_to t r (get_or power r 0)
  -- confirmed: with them and without, it is the same call; the comparison of fixed bits (52) is in it
  pub confirmed : (number : ℕ) → confirm sound t s number ≡ confirm sound t s (cut_to t (register_read t s.operation) number)
  -- kept: a record with them and one without get the same answers from every call, and stay alike
  pub kept_read : (other : List ℕ) → Alike t s.kept other → (v : ℕ) → AlikeOutcomes t (begin_read sound t s v) (begin_read sound t (with_record s other) v)
  pub kept-write : (other : List ℕ) → Alike t s.kept other → (v : ℕ) (z : ℤ)
      → AlikeOutcomes t (begin_write sound t s v z) (begin_write sound t (with_record s other) v z)
  pub kept-confirm : (other : List ℕ) → Alike t s.kept other → (number : ℕ)
      → AlikeOutcomes t (confirm sound t s number) (confirm sound t (with_record s other) number)
  pub kept-abandon : (other : List ℕ) → Alike t s.kept other → AlikeOutcomes t (abandon sound t s) (abandon sound t (with_record s other))
  -- and what a write offers, and the record keeps of it, has none of them
  pub offered : (v step x : ℕ) → (write_access t s v step x).byte < 2 ^ register_width t (register_taken t writing v step)
