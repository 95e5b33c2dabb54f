-- Bytes put one after the other, and the digits of a number.
-- Assumes nothing.
use Prim.Native.Nat.{ℕ, zero, suc, ◌+◌, ◌-◌, ◌/◌, ◌%◌, ◌≤◌, ◌<◌}
use native.Mathlib.Omega.{arith}
use native.Mathlib.Numerals.{add-one}
use mathlib.Core.Path.{◌≡◌, refl, sym, ap, ◌∙◌, subst}
use mathlib.Core.Bool.{Bool, true, false, ◌&&◌}
use mathlib.Core.List.{List, [], ◌∷◌, ◌++◌}
use lib.Dec.{leb, ltb}
use lib.ListN.{length, get_or, take, drop, set, length-append, length-drop, length-set, drop_of_length-le}
use lib.Seq.{sets, length-sets, length-take-le, take_all, drop-cons, drop-set-lt, get_or-set_same}
use borrow.Author.Tests.{ltb-true, ltb-false, leb-true, leb-false, lt-ltb, le-ltb}
use Rattle.token.specs.Bytes.{bytes}
use Rattle.loader.specs.Load.{Sized, Loaded, loaded, lent_as, is_short, is_long, load_of}
use Rattle.std.specs.Prelude.{Ok, Err}
use Rattle.loader.specs.Verdict.{Verdict}
use Rattle.lines.specs.Lines.{digits_before, decimal, numbered, line_of, Put, verdict_on, Line}
use Rattle.logic.proofs.Tests.{and_left, and_right}

-- ---- bytes put one after the other
sets-both : (t : List ℕ) (at : ℕ) (xs ys : List ℕ) → sets t at (xs ++ ys) ≡ sets (sets t at xs) (at + length xs) ys
sets-both t at [] ys = let q : at ≡ at + 0 = omega arith in ap (λ (n : ℕ). sets t n ys) q
sets-both t at (x ∷ xs) ys =
    let q : suc at + length xs ≡ at + suc (length xs) = omega arith in
    sets-both (set t at x) (suc at) xs ys ∙ ap (λ (n : ℕ). sets (sets (set t at x) (suc at) xs) n ys) q

pub put_both : {a b c xs ys : List ℕ} {i j k : ℕ} → Put a i xs b j → Put b j ys c k → Put a i (xs ++ ys) c k
put_both {a} {b} {c} {xs} {ys} {i} {j} {k} p q =
    record {
      stored = q.stored ∙ rw (p.stored, p.behind) (sym (sets-both a i xs ys));
      behind = omega (arith, p.behind, q.behind, length-append xs ys);
    }

-- a loop that puts bytes: its start, a turn, its end
pub record Putting (before : List ℕ) (at : ℕ) (what here : List ℕ) (k : ℕ) : Type 0 where
  pub within : k ≤ length what
  pub long : length here ≡ length before
  pub to-come : sets before at what ≡ sets here (at + k) (drop k what)

pub putting-none : (before : List ℕ) (at : ℕ) (what : List ℕ) → Putting before at what before 0
putting-none before at what =
    let q : at ≡ at + 0 = omega arith in
    record { within = omega arith; long = refl; to-come = ap (λ (n : ℕ). sets before n what) q }

pub putting-more : {before what here next : List ℕ} {at k : ℕ} → Putting before at what here k → k < length what → next ≡ set here (at + k) (get_or what k 0)
    → Putting before at what next (k + 1)
putting-more {before} {what} {here} {next} {at} {k} p l e =
    let s : suc (at + k) ≡ at + (k + 1) = omega arith in
    record {
      within = omega arith;
      long = ap length e ∙ length-set here (at + k) (get_or what k 0) ∙ p.long;
      to-come =
          p.to-come ∙ ap (λ (w : List ℕ). sets here (at + k) w) (drop-cons what k 0 l)
          ∙ ap (λ (n : ℕ). sets (set here (at + k) (get_or what k 0)) n (drop (suc k) what)) s ∙ rw (e, add-one);
    }

-- ---- digits
digits-short : (most n : ℕ) (tail : List ℕ) → length (digits_before most n tail) ≤ most + length tail
unfolding digits_before
digits-short zero n tail = omega arith
digits-short (suc most) n tail = go (ltb n 10) refl (digits-short most (n / 10) ((48 + n % 10) ∷ tail))
  where
    go : (b : Bool) → ltb n 10 ≡ b → length (digits_before most (n / 10) ((48 + n % 10) ∷ tail)) ≤ most + length ((48 + n % 10) ∷ tail)
        → length (digits_before (suc most) n tail) ≤ suc most + length tail
    go true e h = rw (digits_before, e) (omega arith)
    go false e h = rw (digits_before, e) (omega (arith, h))

pub decimal-short : (n : ℕ) → length (decimal n) ≤ 20
unfolding decimal
decimal-short n = omega (arith, digits-short 20 n [])

digits-on : (most n : ℕ) (tail : List ℕ) → 10 ≤ n → digits_before (suc most) n tail ≡ digits_before most (n / 10) ((48 + n % 10) ∷ tail)
unfolding digits_before
digits-on most n tail h = rw (digits_before, le-ltb n 10 h)

digits_last : (most n : ℕ) (tail : List ℕ) → n < 10 → digits_before (suc most) n tail ≡ (48 + n % 10) ∷ tail
unfolding digits_before
digits_last most n tail h =
    let q : n ≡ n % 10 = omega arith in
    rw (digits_before, lt-ltb n 10 h) (ap (λ (d : ℕ). (48 + d) ∷ tail) q)

put_front : (l : List ℕ) (i x : ℕ) → i < length l → drop i (set l i x) ≡ x ∷ drop (suc i) l
put_front l i x h =
    drop-cons (set l i x) i 0 (omega (arith, length-set l i x))
    ∙ rw (get_or-set_same l i x 0 h, drop-set-lt (suc i) l i x (omega arith))

-- a loop that spells: its start, a turn, its end
pub record Spelling (number : ℕ) (digits : List ℕ) (rest i : ℕ) : Type 0 where
  pub some : 1 ≤ i
  pub most : i ≤ 20
  pub long : length digits ≡ 20
  pub to-come : decimal number ≡ digits_before i rest (drop i digits)

pub spelling-none : (number : ℕ) (digits : List ℕ) → length digits ≡ 20 → Spelling number digits number 20
unfolding decimal
spelling-none number digits l =
    record { some = omega arith; most = omega arith; long = l; to-come = rw (drop_of_length-le digits {i = 20} (omega arith)) }

module _ {number rest i : ℕ} {digits : List ℕ} (s : Spelling number digits rest i) where
  pub spelling-more : {next : List ℕ} → (leb 10 rest && ltb 1 i) ≡ true → next ≡ set digits (i - 1) (48 + rest % 10) → Spelling number next (rest / 10) (i - 1)
  spelling-more {next} t e = go i refl
    where
      go : (n : ℕ) → i ≡ n → Spelling number next (rest / 10) (i - 1)
      go zero q = absurd (omega (arith, s.some))
      go (suc m) q =
          let more = leb-true 10 rest (and_left (leb 10 rest) (ltb 1 i) t) in
          let two = ltb-true 1 i (and_right (leb 10 rest) (ltb 1 i) t) in
          let less : i - 1 ≡ m = omega arith in
          record {
            some = omega arith;
            most = omega (arith, s.most);
            long = ap length e ∙ length-set digits (i - 1) (48 + rest % 10) ∙ s.long;
            to-come =
                s.to-come ∙ rw q (digits-on m rest (drop (suc m) digits) more)
                ∙ ap (digits_before m (rest / 10)) (sym (put_front digits m (48 + rest % 10) (omega (arith, s.long, s.most))))
                ∙ rw (e, less);
          }

  pub spelling-all : {next : List ℕ} → (leb 10 rest && ltb 1 i) ≡ false → next ≡ set digits (i - 1) (48 + rest % 10) → (i - 1 < 20) × (drop (i - 1) next ≡ decimal number)
  unfolding digits_before
  spelling-all {next} t e = go i refl (leb 10 rest) refl
    where
      go : (n : ℕ) → i ≡ n → (b : Bool) → leb 10 rest ≡ b → (i - 1 < 20) × (drop (i - 1) next ≡ decimal number)
      go zero q b r = absurd (omega (arith, s.some))
      go (suc m) q false r =
          let less : i - 1 ≡ m = omega arith in (
            omega (arith, s.most),
            sym (s.to-come ∙ rw q (digits_last m rest (drop (suc m) digits) (leb-false 10 rest r))
                ∙ sym (put_front digits m (48 + rest % 10) (omega (arith, s.long, s.most))) ∙ rw (e, less)),
          )
      go (suc m) q true r =
          let less : i - 1 ≡ m = omega arith in
          let one : i ≤ 1 = ltb-false 1 i (sym (rw r) ∙ t) in
          let none : m ≡ 0 = omega arith in (
            omega (arith, s.most),
            sym (s.to-come ∙ rw (q, none) (digits-on 0 rest (drop 1 digits) (leb-true 10 rest r))
                ∙ sym (put_front digits 0 (48 + rest % 10) (omega (arith, s.long))) ∙ rw (e, less, none)),
          )

-- the same bytes by another name; a part of a buffer that runs to its end
pub put_as : {a b xs ys : List ℕ} {i j : ℕ} → xs ≡ ys → Put a i xs b j → Put a i ys b j
put_as {a} {b} {i = i} {j = j} e p = subst (λ (l : List ℕ). Put a i l b j) e p

pub part_end : (l : List ℕ) (start n : ℕ) → length l ≡ n → take (n - start) (drop start l) ≡ drop start l
part_end l start n e = take_all (n - start) (drop start l) (omega (arith, length-drop start l))

-- a word and a number; a line
pub number-near : (word : List ℕ) (n : ℕ) → length (numbered word n) ≤ length word + 20
unfolding numbered
number-near word n = omega (arith, length-append word (decimal n), decimal-short n)

pub line-short : (v : Verdict) → length (line_of v) ≤ 80
unfolding line_of
line-short (Ok counts) =
    let a = numbered (bytes "accepted ") counts.parameters in
    let b = numbered (bytes " ") counts.registers in
    let c = numbered (bytes " ") counts.variables in
    omega (
      arith,
      length-append (a ++ b ++ c) (10 ∷ []),
      length-append (a ++ b) c,
      length-append a b,
      number-near (bytes "accepted ") counts.parameters,
      number-near (bytes " ") counts.registers,
      number-near (bytes " ") counts.variables,
    )
line-short (Err r) =
    let a = numbered (bytes "refused ") r.number in
    let b = numbered (bytes " ") r.place in
    omega (
      arith,
      length-append (a ++ b) (10 ∷ []),
      length-append a b,
      number-near (bytes "refused ") r.number,
      number-near (bytes " ") r.place,
    )

-- tables of their stated sizes answer what the text alone decides
pub verdict-alone : (text ps rs vs p r v : List ℕ) {answer : Verdict} → Sized ps rs vs → loaded answer p r v ≡ load_of text (lent_as ps rs vs) → answer ≡ verdict_on text
unfolding loaded load_of is_short lent_as verdict_on
verdict-alone text ps rs vs p r v {answer} s e = go (ap (λ (l : Loaded). l.verdict) e) (is_long text) refl
  where
    go : answer ≡ (load_of text (lent_as ps rs vs)).verdict → (b : Bool) → is_long text ≡ b → answer ≡ verdict_on text
    go h true q = h ∙ rw (s.parameters, s.registers, s.variables, q)
    go h false q = h ∙ rw (s.parameters, s.registers, s.variables, q)

pub line-whole : (text before after : List ℕ) {next : ℕ} {verdict : Verdict} → length before ≡ 80 → verdict ≡ verdict_on text → Put before 0 (line_of verdict) after next
    → Line text before after next
line-whole text before after {next} {verdict} l e p =
    let long = ap length p.stored ∙ length-sets before 0 (line_of verdict) in
    let fits : next ≤ length after = omega (arith, p.behind, line-short verdict) in
    record { put = put_as (ap line_of e) p; whole = fits; counts = sym (length-take-le next after fits) }
