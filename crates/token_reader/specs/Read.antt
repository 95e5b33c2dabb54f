-- What a reader, a record of a text and a place in it, finds next, and the same reader once it has moved on past that.
use Rattle.token.specs.Scan.{scan_at}
use Rattle.token.specs.declared.Scanned.{Scanned}
use Rattle.token_reader.specs.declared.Reader.{Reader}

abbrev pub found : Reader → Scanned
found r = scan_at r.text.now r.at

abbrev pub moved_on : Reader → Reader
moved_on r = record { text = r.text; at = (found r).next }
