-- The marked cases of document 01 ("The verdict program and its cases"), in its order, with those that 02 adds: one
-- table under one claim. Each case begins with a text. Loading it gives a verdict; and where 01 goes on to bytes and
-- values, the tables that loading left are the ones that the station's calls get. proofs/Cases.antt proves the claim,
-- which is about the very definitions that the contracts of `load` and of the station's calls cite. Assumes nothing.
use Rattle.std.specs.Prelude.{ℕ, zero, suc, ◌+◌, ◌/◌, ◌%◌, ◌≡◌, Bool, List, [], ◌∷◌, ◌++◌, map, ℤ, pos, negsuc, replicate}
use Prim.Native.Char.{code}
use Prim.Native.String.{String}
use Rattle.token.specs.Bytes.{bytes}
use Rattle.tables.specs.declared.Part.TheVariants.{Read as reading, Write as writing}
use Rattle.tables.specs.View.{Tables, sound}
use Rattle.loader.specs.Verdict.{Verdict, accepted, refused}
use Rattle.loader.specs.Load.{load_of}
use Rattle.station.specs.declared.Answer.{Answer}
use Rattle.station.specs.declared.Answer.TheVariants.{Refused as CallRefused, Offer as Offered, Done}
use Rattle.station.specs.declared.Operation.TheVariants.{Idle}
use Rattle.station.specs.Calls.{State}
use Rattle.board.specs.Board.{World, Call, BeginRead, BeginWrite, step, opened, whole_read, whole_write}

-- ── what a case is ──

-- a text and its verdict; the power-on bytes that its tables are opened with, the calls then made, and the answer to
-- each
pub record Case : Type 0 where
  pub text : List ℕ
  pub verdict : Verdict
  pub power : List ℕ
  pub calls : List Call
  pub answers : List Answer

abbrev pub loads : List ℕ → Verdict → Case
loads text verdict = record { text = text; verdict = verdict; power = []; calls = []; answers = [] }

abbrev pub runs : List ℕ → Verdict → (power : List ℕ) → List Call → List Answer → Case
runs text verdict power calls answers = record { text = text; verdict = verdict; power = power; calls = calls; answers = answers }

-- ── the texts ──

-- text A with these variables in place of its own
abbrev pub with_variables_lem : String → List ℕ
with_variables_lem variables = bytes "device d(base:bit[8] port){register r=base:bit[8];" ++ bytes variables ++ bytes "}"

-- a register at this offset of a parameter whose set is {0..3}
abbrev pub at_offset : String → List ℕ
at_offset offset = bytes "device d(base:bit[8] port@{0..3}){register r=base@" ++ bytes offset ++ bytes ":bit[8];variable v=r:int(8);}"

-- mask `1..00000`, bits 6..5
abbrev pub masked : List ℕ
masked = bytes "device d(base:bit[8] port){register r=base,mask '1..00000':bit[8];variable v=r[6..5]:int(2);}"

-- two registers written at one place, with these masks
abbrev pub sharing : String → String → List ℕ
sharing one other =
    bytes "device d(b:bit[8] port){register p=write b,mask '" ++ bytes one ++ bytes "':bit[8];register q=write b,mask '" ++ bytes other ++
    bytes "':bit[8];variable v=p[6..5]:int(2);variable w=q[4]:bool;}"

-- signed x = hi[3..0] # lo[3..0], masks `****....`
abbrev pub joint : List ℕ
joint =
    bytes "device d(base:bit[8] port@{0..1}){register hi=base@0,mask '****....':bit[8];register lo=base@1,mask '****....':bit[8];" ++
    bytes "variable x=hi[3..0]#lo[3..0]:signed int(8);}"

-- two nibbles of one register, the low one first
abbrev pub nibbles : List ℕ
nibbles = with_variables_lem "variable low=r[3..0]:int(4);variable high=r[7..4]:int(4);"

-- an offset so deep in parentheses
unfoldable pub deep : ℕ → List ℕ
deep n =
    bytes "device d(base:bit[8] port){register r=base@" ++ replicate n (code "(") ++ bytes "0" ++ replicate n (code ")") ++
    bytes ":bit[8];variable v=r:int(8);}"

-- a register with this number in two digits, at the offset of that number, with no dot
abbrev pub numbered : ℕ → List ℕ
numbered i =
    let digits : List ℕ = (code "0" + i / 10) ∷ (code "0" + i % 10) ∷ [] in
    bytes "register r" ++ digits ++ bytes "=read b@" ++ digits ++ bytes ",mask '********':bit[8];"

-- so many of them, numbered from 0, and then the rest of a text
unfoldable pub registers_then : ℕ → List ℕ → List ℕ
registers_then zero rest = rest
registers_then (suc n) rest = registers_then n (numbered n ++ rest)

unfoldable pub many : ℕ → List ℕ
many n = bytes "device d(b:bit[8] port@{0..63}){" ++ registers_then n (bytes "}")

-- ── the table ──

-- an access of the one parameter, as it is offered
abbrev pub reads : (offset : ℕ) → Answer
reads offset = Offered (record { direction = reading; parameter = 0; offset = offset; byte = 0 })

abbrev pub writes : (offset byte : ℕ) → Answer
writes offset byte = Offered (record { direction = writing; parameter = 0; offset = offset; byte = byte })

-- what a confirmation brings of itself; a write's is ignored, and a read's is the cell's byte
abbrev pub any : ℕ
any = 7

abbrev pub -2 : ℤ
-2 = negsuc 1

-- behind 01's case of mask `1..00000` stand those of 02, No. 2: that mask and `000.0000` at one write place, a pair
-- without such a bit, and read parts
unfoldable pub marked : List Case
marked =
    loads (with_variables_lem "variable v=r:int(8);") (accepted 1 1 1)
    ∷ loads (bytes "") (refused 4 0)
    ∷ loads (bytes "device d(base:bit[8] port){register r=base:bit[8];variable v=r:int(8);") (refused 4 70)
    ∷ loads (with_variables_lem "variable v=q:int(8);") (refused 7 61)
    ∷ loads (with_variables_lem "variable v=r:int(7);") (refused 12 59)
    ∷ loads (with_variables_lem "variable v=r[0..7]:int(8);") (refused 11 59)
    ∷ loads (with_variables_lem "variable v=r[7..1]:int(7);") (refused 16 36)
    ∷ loads (with_variables_lem "variable v=r[7..4]:int(4);variable w=r[4..0]:int(5);") (refused 14 85)
    ∷ runs (at_offset "8-3-2") (accepted 1 1 1) (0 ∷ []) (BeginRead 0 ∷ []) (reads 3 ∷ [])
    ∷ runs (at_offset "(1+2)*1") (accepted 1 1 1) (0 ∷ []) (BeginRead 0 ∷ []) (reads 3 ∷ [])
    ∷ loads (at_offset "4") (refused 8 49)
    ∷ loads (at_offset "1-2") (refused 8 49)
    ∷ loads (at_offset "7/0") (refused 8 49)
    ∷ runs masked (accepted 1 1 1) (0 ∷ []) (whole_write 0 (pos 2) (any ∷ []) ++ BeginWrite 0 (pos 4) ∷ []) (writes 0 0xC0 ∷ Done (pos 2) 1 ∷ CallRefused 55 ∷ [])
    ∷ runs (sharing "1..00000" "000.0000") (accepted 1 2 2) (0xFF ∷ 0xFF ∷ []) (whole_write 0 (pos 1) (any ∷ []) ++ whole_write 1 (pos 1) (any ∷ []))
    (writes 0 0xA0 ∷ Done (pos 1) 1 ∷ writes 0 0x10 ∷ Done (pos 1) 1 ∷ [])
    ∷ loads (sharing "1..*****" "*00.0000") (refused 10 75)
    ∷ loads (bytes "device d(b:bit[8] port){register p=b,mask '1*******':bit[8];register q=b,mask '0*******':bit[8];}") (refused 10 69)
    ∷ runs joint (accepted 1 2 1) (0 ∷ 0 ∷ []) (whole_write 0 -2 (any ∷ any ∷ [])) (writes 0 0x0F ∷ writes 1 0x0E ∷ Done -2 2 ∷ [])
    ∷ runs joint (accepted 1 2 1) (0xAF ∷ 0x5E ∷ []) (whole_read 0 (any ∷ any ∷ [])) (reads 0 ∷ reads 1 ∷ Done -2 2 ∷ [])
    ∷ runs nibbles (accepted 1 1 2) (0xA5 ∷ []) (whole_write 0 (pos 3) (any ∷ []) ++ whole_read 1 (any ∷ [])) (writes 0 0xA3 ∷ Done (pos 3) 1 ∷ reads 0 ∷ Done (pos 10) 1 ∷ [])
    ∷ loads (deep 16) (accepted 1 1 1)
    ∷ loads (deep 17) (refused 5 59)
    ∷ loads (many 64) (accepted 1 64 0)
    ∷ loads (many 65) (refused 5 2976)
    ∷ []

-- ── the claim ──

-- tables of their stated sizes
unfoldable pub blank : Tables
blank = record { parameters = replicate 577 0; registers = replicate 961 0; variables = replicate 7553 0 }

-- a record and marks for any tables
abbrev pub lent : State
lent = record { kept = replicate 64 0; marks = replicate 128 0; operation = Idle }

-- the answers to calls, one by one; `test` is refusal 20's
unfoldable pub answers_to : (Tables → Bool) → Tables → List Call → World → List Answer
answers_to test t [] w = []
answers_to test t (call ∷ calls) w = (step test t call w).answer ∷ answers_to test t calls (step test t call w)

-- what comes of a case: the verdict on its text, and, over the tables that this leaves, the answers to its calls from
-- the opening on
abbrev pub outcome_of : Case → Verdict × List Answer
outcome_of c =
    let t : Tables = (load_of c.text blank).tables in
    ((load_of c.text blank).verdict, answers_to sound t c.calls (opened sound t c.power lent))

abbrev pub stated_by : Case → Verdict × List Answer
stated_by c = (c.verdict, c.answers)

-- THE CLAIM: each marked case comes to what it states
abbrev pub MarkedCases : Type 0
MarkedCases = map outcome_of marked ≡ map stated_by marked
