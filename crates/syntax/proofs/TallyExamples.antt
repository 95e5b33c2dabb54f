-- The count of sizes computes: worked texts on both sides of each size.
use Prim.Native.Nat.{ℕ, zero, suc}
use Prim.Native.String.{String}
use mathlib.Core.Path.{◌≡◌, refl}
use mathlib.Core.List.{List, [], ◌∷◌, ◌++◌, map}
use mathlib.Core.Option.{Option, none, some}
use Rattle.token.specs.Bytes.{bytes, same, begins, one_of, within, first_true, run_from}
use Rattle.token.specs.Gap.{is_blank, gap_from}
use Rattle.token.specs.Word.{is_letter, is_name_byte, reserved, word_of}
use Rattle.token.specs.Number.{digit_of, is_digit, value_from, prefixed, digits_of}
use Rattle.token.specs.Sign.{long_signs, is_sign_byte, long_sign, sign_number, longest_sign, sign_width}
use Rattle.token.specs.Scan.{is_bit, bad_token, name_token, name_from, number_token, number_from, bits_token, bits_from, sign_token, sign_here, sign_from, token_by, token_from, scan_from, scan_rest, scan_at}
use Rattle.token.specs.Kind.{kind_of}
use Rattle.token.specs.Tokens.{listed, tokens_from}
use Rattle.syntax.specs.KindNames.{sign, name-kind, number-kind, bits-kind, dots, 'bit', 'bool', 'device', 'int', 'mask', 'port', 'read', 'register', 'trigger', 'variable', 'volatile', 'write', 'signed'}
use Rattle.syntax.specs.Sizes.{ended, closed, asks_operand, onward, passes_at, nothing_yet, tallied, long_name, too_much, passed_in, passed_at}

-- what is named has just these kinds: a name, a number, a bits literal, the words and the signs, as the scanner
-- computes them
pub kinds :
    map (λ (s : String). kind_of (scan_at (bytes s) 0).token)
    ("x" ∷ "7" ∷ "'1'" ∷ "bit" ∷ "bool" ∷ "device" ∷ "int" ∷ "mask" ∷ "port" ∷ "read" ∷ "register" ∷ "trigger" ∷ "variable" ∷ "volatile" ∷ "write" ∷ "signed"
    ∷ "(" ∷ ")" ∷ "{" ∷ "}" ∷ "[" ∷ "]" ∷ "," ∷ ";" ∷ ":" ∷ "=" ∷ "#" ∷ "@" ∷ "+" ∷ "-" ∷ "*" ∷ "/" ∷ "%" ∷ ".." ∷ [])
    ≡ name-kind ∷ number-kind ∷ bits-kind ∷ 'bit' ∷ 'bool' ∷ 'device' ∷ 'int' ∷ 'mask' ∷ 'port' ∷ 'read' ∷ 'register' ∷ 'trigger' ∷ 'variable' ∷ 'volatile' ∷ 'write' ∷ 'signed'
    ∷ sign "(" ∷ sign ")" ∷ sign "{" ∷ sign "}" ∷ sign "[" ∷ sign "]" ∷ sign "," ∷ sign ";" ∷ sign ":" ∷ sign "=" ∷ sign "#" ∷ sign "@" ∷ sign "+" ∷ sign "-" ∷ sign "*" ∷ sign "/" ∷ sign "%" ∷ dots ∷ []
unfolding scan_at scan_rest scan_from token_from token_by name_from name_token number_from number_token bits_from bits_token sign_from sign_here sign_token bad_token is_bit gap_from is_blank is_letter is_name_byte reserved word_of digit_of is_digit value_from prefixed digits_of long_signs is_sign_byte long_sign sign_number longest_sign sign_width same begins one_of within first_true run_from
kinds = refl

-- so many times the bytes
pub times : ℕ → List ℕ → List ℕ
times zero s = []
times (suc n) s = s ++ times n s

-- a text, in pieces of which each stands so many times
pub build : List (ℕ × String) → List ℕ
unfolding times
build [] = []
build (p ∷ ps) = times p.0 (bytes p.1) ++ build ps

-- where texts of such pieces pass a size
pub passed : List (List (ℕ × String)) → List (Option ℕ)
passed ps = map (λ (p : List (ℕ × String)). passed_at (build p)) ps

-- names of 64 and 65 bytes; sixteen and seventeen parameters; sixteen and seventeen ranges, counted for each parameter
pub headings :
    passed (((1, "device ") ∷ (64, "n") ∷ (1, "(") ∷ [])
    ∷ ((1, "device ") ∷ (65, "n") ∷ (1, "(") ∷ [])
    ∷ ((1, "device d(") ∷ (15, "b:bit[8] port,") ∷ (1, "b:bit[8] port){") ∷ [])
    ∷ ((1, "device d(") ∷ (16, "b:bit[8] port,") ∷ (1, "b:bit[8] port){") ∷ [])
    ∷ ((1, "device d(b:bit[8] port@{") ∷ (15, "1..2,") ∷ (1, "3},c:bit[8] port@{") ∷ (15, "1,") ∷ (1, "1}") ∷ [])
    ∷ ((1, "device d(b:bit[8] port@{") ∷ (16, "1..2,") ∷ (1, "3},c:bit[8] port@{") ∷ (15, "1,") ∷ (1, "1}") ∷ []) ∷ [])
    ≡ none ∷ some 7 ∷ none ∷ some 233 ∷ none ∷ some 104 ∷ []
unfolding passed build times scan_at scan_rest scan_from token_from token_by name_from name_token number_from number_token bits_from bits_token sign_from sign_here sign_token bad_token is_bit gap_from is_blank is_letter is_name_byte reserved word_of digit_of is_digit value_from prefixed digits_of long_signs is_sign_byte long_sign sign_number longest_sign sign_width same begins one_of within first_true run_from ended closed asks_operand onward passes_at nothing_yet tallied long_name too_much passed_in listed tokens_from passed_at
headings = refl

abbrev up_to_variable : ℕ × String
up_to_variable = (1, "device d(b:bit[8] port){variable v=")

-- eight and nine pieces: whole registers, in brackets, mixed; and eight in each of two lists
pub pieces :
    passed ((up_to_variable ∷ (7, "r#") ∷ (1, "r:int(8);") ∷ [])
    ∷ (up_to_variable ∷ (8, "r#") ∷ (1, "r:int(8);") ∷ [])
    ∷ (up_to_variable ∷ (1, "r[") ∷ (7, "1,") ∷ (1, "0]:int(8);") ∷ [])
    ∷ (up_to_variable ∷ (1, "r[") ∷ (8, "1,") ∷ (1, "0]:int(8);") ∷ [])
    ∷ (up_to_variable ∷ (1, "r[7..4,2]#r#r[1,0,1,0]#r:int(8);") ∷ [])
    ∷ (up_to_variable ∷ (1, "r[7..4,2]#r#r[1,0,1,0]#r#r:int(8);") ∷ [])
    ∷ (up_to_variable ∷ (1, "read ") ∷ (7, "r#") ∷ (1, "r,write ") ∷ (7, "r#") ∷ (1, "r,volatile,write trigger:bool;") ∷ []) ∷ [])
    ≡ none ∷ some 51 ∷ none ∷ some 53 ∷ none ∷ some 60 ∷ none ∷ []
unfolding passed build times scan_at scan_rest scan_from token_from token_by name_from name_token number_from number_token bits_from bits_token sign_from sign_here sign_token bad_token is_bit gap_from is_blank is_letter is_name_byte reserved word_of digit_of is_digit value_from prefixed digits_of long_signs is_sign_byte long_sign sign_number longest_sign sign_width same begins one_of within first_true run_from ended closed asks_operand onward passes_at nothing_yet tallied long_name too_much passed_in listed tokens_from passed_at
pieces = refl

abbrev up_to_offset : ℕ × String
up_to_offset = (1, "device d(b:bit[8] port){register r=b@")

-- Sixteen and seventeen deep: parentheses, minuses, mixed. Depth is nesting: neither what stands side by side adds up,
-- nor a minus between two operands.
pub depths :
    passed ((up_to_offset ∷ (16, "(") ∷ (1, "1") ∷ (16, ")") ∷ (1, ":bit[8];") ∷ [])
    ∷ (up_to_offset ∷ (17, "(") ∷ (1, "1") ∷ (17, ")") ∷ (1, ":bit[8];") ∷ [])
    ∷ (up_to_offset ∷ (16, "-") ∷ (1, "1:bit[8];") ∷ [])
    ∷ (up_to_offset ∷ (17, "-") ∷ (1, "1:bit[8];") ∷ [])
    ∷ (up_to_offset ∷ (8, "-(") ∷ (1, "1-1") ∷ (8, ")") ∷ (1, ":bit[8];") ∷ [])
    ∷ (up_to_offset ∷ (8, "-(") ∷ (1, "1--1") ∷ (8, ")") ∷ (1, ":bit[8];") ∷ [])
    ∷ (up_to_offset ∷ (20, "(1)+-(1)*-1-") ∷ (1, "1:bit[8];") ∷ [])
    ∷ (up_to_offset ∷ (17, "(") ∷ []) ∷ [])
    ≡ none ∷ some 53 ∷ none ∷ some 53 ∷ none ∷ some 55 ∷ none ∷ some 53 ∷ []
unfolding passed build times scan_at scan_rest scan_from token_from token_by name_from name_token number_from number_token bits_from bits_token sign_from sign_here sign_token bad_token is_bit gap_from is_blank is_letter is_name_byte reserved word_of digit_of is_digit value_from prefixed digits_of long_signs is_sign_byte long_sign sign_number longest_sign sign_width same begins one_of within first_true run_from ended closed asks_operand onward passes_at nothing_yet tallied long_name too_much passed_in listed tokens_from passed_at
depths = refl

-- sixty-four and sixty-five registers, a hundred and twenty-eight and twenty-nine variables
pub declarations :
    passed (((1, "device d(b:bit[8] port){") ∷ (64, "register r=b:bit[8];") ∷ (1, "}") ∷ [])
    ∷ ((1, "device d(b:bit[8] port){") ∷ (65, "register r=b:bit[8];") ∷ (1, "}") ∷ [])
    ∷ ((1, "device d(b:bit[8] port){") ∷ (128, "variable v=r:bool;") ∷ (1, "}") ∷ [])
    ∷ ((1, "device d(b:bit[8] port){") ∷ (129, "variable v=r:bool;") ∷ (1, "}") ∷ []) ∷ [])
    ≡ none ∷ some 1304 ∷ none ∷ some 2328 ∷ []
unfolding passed build times scan_at scan_rest scan_from token_from token_by name_from name_token number_from number_token bits_from bits_token sign_from sign_here sign_token bad_token is_bit gap_from is_blank is_letter is_name_byte reserved word_of digit_of is_digit value_from prefixed digits_of long_signs is_sign_byte long_sign sign_number longest_sign sign_width same begins one_of within first_true run_from ended closed asks_operand onward passes_at nothing_yet tallied long_name too_much passed_in listed tokens_from passed_at
declarations = refl
