-- What the numbers that a part enters into its map tell: of a bit, whether it is one of the part's bits; of a register,
-- whether the part holds it.
use Prim.Native.Nat.{ℕ, zero, suc, ◌+◌, ◌-◌, ◌*◌, ◌<◌, ◌≤◌}
use native.Mathlib.Omega.{arith}
use mathlib.Core.Path.{◌≡◌, refl, sym, ap, ap₂, ◌∙◌}
use mathlib.Core.Bool.{Bool, true, false, ◌&&◌, ◌||◌, cond, or-false}
use mathlib.Core.List.{List, [], ◌∷◌, ◌++◌}
use lib.Dec.{eqb, ltb}
use borrow.Author.Tests.{eqb-true, eqb-false, ltb-true, ltb-false}
use Rattle.bits.specs.Widths.{widest}
use Rattle.tables.specs.Every.{some}
use Rattle.tables.specs.Marks.{down_from, has, joined, meets}
use Rattle.tables.specs.Tables.{Piece, VariablePart, bits_to, mentioned_to, part_bits, part_mentions, piece_bits}
use Rattle.tables.specs.Scan.{piece_enters}
use Rattle.tables.proofs.Laws.{some_same}
use Rattle.tables.proofs.BelowLaws.{of-both}
use Rattle.tables.proofs.DistinctLaws.{has-append, has-none, has_one, meets-joined}

-- a number of the map tells its register, and what it says of that register
same_register_lem : {r s c d : ℕ} → c < 64 → d < 64 → 64 * r + c ≡ 64 * s + d → r ≡ s
same_register_lem l m e = omega arith

abbrev held : Bool → ℕ
held trigger = cond trigger 2 1

abbrev asked : Bool → ℕ
asked trigger = widest + cond trigger 0 1

held-few : (t : Bool) → held t ≤ 2
held-few t = of-both (λ (n : ℕ). n ≤ 2) t 2 1 (omega arith) (omega arith)

pub held-most : (t : Bool) {n : ℕ} → n ≡ cond t 2 1 → n ≤ 2
held-most t e = omega (arith, held-few t)

-- ---- a bit
bit-not-held : (x i b s n : ℕ) → x ≡ 64 * i + b → b < widest → n ≤ 2 → has x (down_from (64 * s + widest) n) ≡ false
bit-not-held x i b s n e l m =
    has-none x (64 * s + widest) n (λ k o f. let q : i ≡ s = same_register_lem {c = b} {d = widest + k} (omega arith) (omega arith) (omega arith) in omega arith)

pub bit-seen : (part : VariablePart) (t : Bool) (n x i b : ℕ) → x ≡ 64 * i + b → b < widest
    → has x (joined (λ k. piece_enters (held t) (part.piece k)) n) ≡ has x (bits_to part n)
unfolding joined
bit-seen part t zero x i b e l = refl
bit-seen part t (suc n) x i b e l =
    let piece : Piece = part.piece n in
    let run = down_from (64 * piece.register + widest) (held t) in
    has-append x (joined (λ k. piece_enters (held t) (part.piece k)) n) (piece_bits piece ++ run) ∙
    ap₂ ◌||◌ (bit-seen part t n x i b e l)
    (has-append x (piece_bits piece) run ∙ ap (λ (c : Bool). has x (piece_bits piece) || c) (bit-not-held x i b piece.register (held t) e l (held-few t)) ∙ or-false (has x (piece_bits piece))) ∙
    sym (has-append x (bits_to part n) (piece_bits piece))

-- a run of bits, and a part whose pieces are such runs
run-meets : (r low n : ℕ) → low + n ≤ widest → (part : VariablePart) (t : Bool) (m : ℕ)
    → meets (down_from (64 * r + low) n) (joined (λ k. piece_enters (held t) (part.piece k)) m) ≡ meets (down_from (64 * r + low) n) (bits_to part m)
unfolding meets down_from
run-meets r low zero h part t m = refl
run-meets r low (suc n) h part t m =
    ap₂ ◌||◌ (bit-seen part t m (64 * r + low + n) r (low + n) (omega arith) (omega arith)) (run-meets r low n (omega arith) part t m)

pub bits-meet : (part other : VariablePart) (t : Bool) → ((k : ℕ) → k < part.count → (part.piece k).low + ((part.piece k).high + 1 - (part.piece k).low) ≤ widest)
    → meets (part_bits part) (joined (λ k. piece_enters (held t) (other.piece k)) other.count) ≡ meets (part_bits part) (part_bits other)
bits-meet part other t short =
    let bits : ℕ → List ℕ = λ k. piece_bits (part.piece k) in
    meets-joined bits part.count _ ∙
    some_same part.count _ _ (λ k l. run-meets (part.piece k).register (part.piece k).low _ (short k l) other t other.count) ∙
    sym (meets-joined bits part.count (part_bits other))

-- ---- a register
register-not-bit : (r c : ℕ) (piece : Piece) → widest ≤ c → c < widest + 2 → piece.high < widest → has (64 * r + c) (piece_bits piece) ≡ false
register-not-bit r c piece l m h =
    has-none (64 * r + c) (64 * piece.register + piece.low) (piece.high + 1 - piece.low) (λ k o f.
    let q : r ≡ piece.register = same_register_lem {c = c} {d = piece.low + k} (omega arith) (omega arith) (omega arith) in
    omega arith)

register-held : (r s c n : ℕ) → widest ≤ c → c < widest + 2 → n ≤ 2 → has (64 * r + c) (down_from (64 * s + widest) n) ≡ (eqb r s && ltb c (widest + n))
register-held r s c n l m h = go (eqb r s) refl (ltb c (widest + n)) refl
  where
    go : (a : Bool) → eqb r s ≡ a → (b : Bool) → ltb c (widest + n) ≡ b → has (64 * r + c) (down_from (64 * s + widest) n) ≡ (eqb r s && ltb c (widest + n))
    go true e true f =
        let q = eqb-true r s e in
        let o = ltb-true c (widest + n) f in
        rw (e, f) (has_one (64 * r + c) (64 * s + widest) n (omega arith) (omega arith))
    go true e false f =
        let q = eqb-true r s e in
        let o = ltb-false c (widest + n) f in
        rw (e, f) (has-none (64 * r + c) (64 * s + widest) n (λ k g x. omega arith))
    go false e b f =
        rw e (has-none (64 * r + c) (64 * s + widest) n (λ k g x. eqb-false r s e (same_register_lem {c = c} {d = widest + k} (omega arith) (omega arith) (omega arith))))

-- what a trigger asks is marked by all, what another asks only by a trigger
asked-held : (tv tu : Bool) → ltb (asked tv) (widest + held tu) ≡ (tv || tu)
asked-held true true = refl
asked-held true false = refl
asked-held false true = refl
asked-held false false = refl

asked-range : (t : Bool) → (widest ≤ asked t) × (asked t < widest + 2)
asked-range t = of-both (λ (n : ℕ). (widest ≤ widest + n) × (widest + n < widest + 2)) t 0 1 (omega arith, omega arith) (omega arith, omega arith)

spread : (a e t : Bool) → ((a && t) || (e && t)) ≡ ((a || e) && t)
spread true e true = refl
spread true true false = refl
spread true false false = refl
spread false e t = refl

register-seen : (part : VariablePart) (tv tu : Bool) (n r : ℕ) → ((k : ℕ) → k < n → (part.piece k).high < widest)
    → has (64 * r + asked tv) (joined (λ k. piece_enters (held tu) (part.piece k)) n) ≡ (has r (mentioned_to part n) && (tv || tu))
unfolding joined has
register-seen part tv tu zero r h = refl
register-seen part tv tu (suc n) r h =
    let x = 64 * r + asked tv in
    let piece : Piece = part.piece n in
    let run = down_from (64 * piece.register + widest) (held tu) in
    has-append x (joined (λ k. piece_enters (held tu) (part.piece k)) n) (piece_bits piece ++ run) ∙
    ap₂ ◌||◌ (register-seen part tv tu n r (λ k l. h k (omega arith)))
    (has-append x (piece_bits piece) run ∙
    ap₂ ◌||◌ (register-not-bit r (asked tv) piece (asked-range tv).0 (asked-range tv).1 (h n (omega arith)))
    (register-held r piece.register (asked tv) (held tu) (asked-range tv).0 (asked-range tv).1 (held-few tu) ∙ ap (λ (b : Bool). eqb r piece.register && b) (asked-held tv tu))) ∙
    spread (has r (mentioned_to part n)) (eqb r piece.register) (tv || tu) ∙
    sym (ap (λ (b : Bool). b && (tv || tu)) (has-append r (mentioned_to part n) (piece.register ∷ []) ∙ ap (λ (b : Bool). has r (mentioned_to part n) || b) (or-false (eqb r piece.register))))

some-and : (n : ℕ) (p : ℕ → Bool) (t : Bool) → some n (λ k. p k && t) ≡ (some n p && t)
unfolding some
some-and zero p t = refl
some-and (suc n) p t = ap (λ (b : Bool). b || (p n && t)) (some-and n p t) ∙ spread (some n p) (p n) t

pub asks-meet : (part other : VariablePart) (tv tu : Bool) → ((k : ℕ) → k < other.count → (other.piece k).high < widest)
    → meets (joined (λ k. (64 * (part.piece k).register + asked tv) ∷ []) part.count) (joined (λ k. piece_enters (held tu) (other.piece k)) other.count)
    ≡ (meets (part_mentions part) (part_mentions other) && (tv || tu))
unfolding meets
asks-meet part other tv tu narrow =
    let n = part.count in
    let ys = joined (λ k. piece_enters (held tu) (other.piece k)) other.count in
    let named : ℕ → Bool = λ k. has (part.piece k).register (part_mentions other) in
    meets-joined (λ k. (64 * (part.piece k).register + asked tv) ∷ []) n ys ∙
    some_same n _ _ (λ k l. or-false _ ∙ register-seen other tv tu other.count (part.piece k).register narrow) ∙
    some-and n named (tv || tu) ∙
    sym (ap (λ (b : Bool). b && (tv || tu)) (meets-joined (λ k. (part.piece k).register ∷ []) n (part_mentions other) ∙ some_same n _ _ (λ k l. or-false (named k))))
