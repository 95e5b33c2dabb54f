-- What is kept from one opening to the next: what each call does to the record and to the marks. A call that is refused
-- leaves them (Answers.antt), also where the refusal ends the operation. 02: "An operation so ended counts as
-- abandoned"; it is a read, so `read-abandoned` and `read-confirmed` agree. proofs/KeptLaws.antt proves `Keeps`, from
-- any state.
-- Assumes nothing.
use Rattle.std.specs.Prelude.{ℕ, suc, ◌≡◌, Bool, true, false, ℤ, set}
use Rattle.std.proofs.Math.Option.{none}
use Rattle.tables.specs.declared.Part.TheVariants.{Write as writing}
use Rattle.tables.specs.View.{Tables}
use Rattle.station.specs.Calls.{Idle, Writing, State, Outcome, register_taken, write_access, is_last, begin_read, begin_write, confirm, abandon}
use Rattle.station.specs.Answers.{refusal_of}

-- a write of v that has had so many confirmations is in hand; none is
pub record InHand (s : State) (v step : ℕ) : Type 0 where
  pub bits : ℕ
  pub is : s.operation ≡ Writing v step bits

abbrev pub NoWrite : State → Type 0
NoWrite s = (v step : ℕ) → InHand s v step → ⊥

abbrev pub NotRefused : Outcome → Type 0
NotRefused o = refusal_of o.answer ≡ none

pub record SameLists (s left : State) : Type 0 where
  pub record_kept : left.kept ≡ s.kept
  pub marks-kept : left.marks ≡ s.marks

pub record Keeps (sound : Tables → Bool) (t : Tables) (s : State) : Type 0 where
  pub read-begun : (v : ℕ) → SameLists s (begin_read sound t s v).state
  pub write-begun : (v : ℕ) (z : ℤ) → SameLists s (begin_write sound t s v z).state
  -- "The record then keeps for each register the last byte confirmed as written": at its confirmation, the byte that
  -- was offered
  pub write-confirmed : (byte v step : ℕ) (w : InHand s v step) → NotRefused (confirm sound t s byte)
      → (confirm sound t s byte).state.kept ≡ set s.kept (register_taken t writing v step) (write_access t s v step w.bits).byte
  -- "Only a finished write of that variable, or a new opening, clears the mark"
  pub write-finished : (byte v step : ℕ) → InHand s v step → NotRefused (confirm sound t s byte) → is_last t writing v (suc step) ≡ true
      → (confirm sound t s byte).state.marks ≡ set s.marks v 0
  pub write-goes_on : (byte v step : ℕ) → InHand s v step → is_last t writing v (suc step) ≡ false → (confirm sound t s byte).state.marks ≡ s.marks
  pub read-confirmed : (byte : ℕ) → NoWrite s → SameLists s (confirm sound t s byte).state
  -- "An abandoned write marks its variable half-written, even at the first access"
  pub write-abandoned : (v step : ℕ) → InHand s v step → NotRefused (abandon sound t s) → (abandon sound t s).state.marks ≡ set s.marks v 1
  pub no-byte-abandoned : (abandon sound t s).state.kept ≡ s.kept
  -- "An abandoned read changes nothing but ends the operation"
  pub read-abandoned : NoWrite s → SameLists s (abandon sound t s).state
  pub ended : NotRefused (abandon sound t s) → (abandon sound t s).state.operation ≡ Idle
