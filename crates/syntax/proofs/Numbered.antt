-- The published grammar by the kinds' numbers: the words and signs that it writes have just these, as the scanner
-- computes them. Assumes nothing.
use mathlib.Core.Path.{◌≡◌, refl}
use Rattle.token.specs.Bytes.{same, begins, one_of, within, first_true, run_from}
use Rattle.token.specs.Gap.{is_blank, gap_from}
use Rattle.token.specs.Word.{is_letter, is_name_byte, reserved, word_of}
use Rattle.token.specs.Sign.{long_signs, is_sign_byte, long_sign, sign_number, longest_sign, sign_width}
use Rattle.token.specs.Scan.{name_token, name_from, sign_token, sign_here, sign_from, token_by, token_from, scan_from, scan_rest, scan_at}
use Rattle.syntax.specs.Published.{lit, published, device-spec}
use Rattle.syntax.proofs.Factored.{ambiguous, device}

pub device-numbered : device-spec ≡ device
unfolding lit scan_at scan_rest scan_from token_from token_by name_from name_token sign_from sign_here sign_token gap_from is_blank is_letter is_name_byte reserved word_of long_signs is_sign_byte long_sign sign_number longest_sign sign_width same begins one_of within first_true run_from
device-numbered = refl

pub rules-numbered : published ≡ ambiguous
unfolding published ambiguous lit scan_at scan_rest scan_from token_from token_by name_from name_token sign_from sign_here sign_token gap_from is_blank is_letter is_name_byte reserved word_of long_signs is_sign_byte long_sign sign_number longest_sign sign_width same begins one_of within first_true run_from
rules-numbered = refl
