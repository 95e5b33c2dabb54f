-- The kinds of the words and signs that the readers ask for, by name: a sign by 256 and its byte, a word by 512 and its
-- number in document 01's list.
-- `proofs/TallyExamples.antt` holds each to what the scanner says of the word or sign itself.
use Rattle.std.specs.Prelude.{ℕ, ◌+◌}
use Prim.Native.Char.{Char, code}

-- a sign of one byte
abbrev pub sign : Char → ℕ
sign c = 256 + code c

-- a name, a number and a bits literal
abbrev pub name-kind : ℕ
name-kind = 1

abbrev pub number-kind : ℕ
number-kind = 2

abbrev pub bits-kind : ℕ
bits-kind = 3

-- `..`
abbrev pub dots : ℕ
dots = 385

-- the end of the text
abbrev pub end-kind : ℕ
end-kind = 255

abbrev pub 'bit' : ℕ
'bit' = 513

abbrev pub 'bool' : ℕ
'bool' = 514

abbrev pub 'device' : ℕ
'device' = 516

abbrev pub 'int' : ℕ
'int' = 522

abbrev pub 'mask' : ℕ
'mask' = 523

abbrev pub 'port' : ℕ
'port' = 524

abbrev pub 'read' : ℕ
'read' = 528

abbrev pub 'register' : ℕ
'register' = 529

abbrev pub 'trigger' : ℕ
'trigger' = 533

abbrev pub 'variable' : ℕ
'variable' = 537

abbrev pub 'volatile' : ℕ
'volatile' = 538

abbrev pub 'write' : ℕ
'write' = 539

abbrev pub 'signed' : ℕ
'signed' = 540
