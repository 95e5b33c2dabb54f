-- Bytes of any kind in an input: a line with a word and a number, as `text N`, then N bytes, then a newline, which the
-- last may go without. Several texts are in one input that way.
use Rattle.std.specs.Prelude.{ℕ, ◌+◌, ◌-◌, Bool, true, false, cond, ◌&&◌, List, eqb, leb, ltb, length, get_or, take, drop, ◌≤◌, ◌<◌, Option, Some, None}
use Prim.Native.Char.{code}
use Rattle.token.specs.Bytes.{bytes, same}
use Rattle.script.specs.Words.{line_end, word_of, rest_of}
use Rattle.script.specs.Numbers.{number_of}
use Rattle.frames.specs.declared.Frame.{Frame}

-- how many bytes a line says there are that it heads, by this word
unfoldable pub headed : List ℕ → List ℕ → Option ℕ
headed head line =
    cond (same (word_of line) head && eqb (length (word_of (rest_of (rest_of line)))) 0) (number_of (word_of (rest_of line))) None

-- a line may end here: at a newline, or with the input
unfoldable pub ends_at : List ℕ → ℕ → Bool
ends_at input at = elim (ltb at (length input)) [ true ↦ eqb (get_or input at 0) (code "\n") | false ↦ true ]

-- where a frame lies that was found at a place: inside the input, and it ends after it began
pub record Lies (input : List ℕ) (at : ℕ) (frame : Frame) : Type 0 where
  pub began : at < length input
  pub ordered : frame.start ≤ frame.end
  pub inside : frame.end ≤ length input
  pub onward : at < frame.next

-- the frame of so many bytes that starts here, if the input has them all and a line ends behind them
unfoldable pub enclosed : List ℕ → ℕ → ℕ → Option Frame
enclosed input start n = cond (leb (start + n) (length input) && ends_at input (start + n)) (Some (record { start = start; end = start + n; next = start + n + 1 })) None

unfoldable pub framed : List ℕ → ℕ → Option ℕ → Option Frame
framed input start (Some n) = enclosed input start n
framed input start None = None

-- the line at a place, without its newline
abbrev pub line_at : List ℕ → ℕ → List ℕ
line_at input at = take (line_end input at - at) (drop at input)

-- the frame at a place of an input whose line begins with this word
unfoldable pub headed_at : List ℕ → List ℕ → ℕ → Option Frame
headed_at head input at =
    elim (leb (length input) at) [ true ↦ None | false ↦ framed input (line_end input at + 1) (headed head (line_at input at)) ]

-- a text
unfoldable pub frame_at : List ℕ → ℕ → Option Frame
frame_at input at = headed_at (bytes "text") input at
