-- What it is for a step of the reading to agree with the count of sizes; and that it goes on to agree from token to
-- token. The laws of the productions are put together from these as the readers are.
-- Assumes nothing.
use Prim.Native.Nat.{ℕ, zero, suc, ◌+◌, ◌≤◌, ◌<◌}
use native.Mathlib.Omega.{arith}
use mathlib.Core.Path.{◌≡◌, refl, sym, ap, ◌∙◌, subst}
use mathlib.Core.Bool.{Bool, true, false, ◌||◌, or-true, cond}
use mathlib.Core.Logic.{◌⊎◌, inl, inr}
use mathlib.Core.List.{List, [], ◌∷◌}
use mathlib.Core.Option.{Option, none, some}
use lib.Dec.{eqb}
use lib.ListN.{length}
use borrow.Author.Tests.{eqb-true, eq-eqb}
use Rattle.token.specs.declared.Token.{Token}
use Rattle.token.specs.declared.Token.TheVariants.{Name, Word, Number, Bits, Sign, End, Bad}
use Rattle.token.specs.Scan.{scan_at}
use Rattle.token.specs.Fair.{place_of, goes_on_lem}
use Rattle.token.specs.declared.Refusal.{Refusal}
use Rattle.token.specs.Kind.{kind_of, refused_as}
use Rattle.token.specs.Tokens.{tokens_at}
use Rattle.token.proofs.Laws.{passes, scan-fair}
use Rattle.token.proofs.Reading.{tokens-on, tokens-end}
use Rattle.grammar.proofs.SetLaws.{clash}
use Rattle.syntax.specs.Step.{Step, too_much_at}
use Rattle.std.specs.Prelude.{Ok, Err}
use Rattle.syntax.specs.Reader.{unexpected, too_many, name_in, seen_at, place_at, fixed_after, extra_after, token_at, token_after, name_after, number_after, enclosed_after}
use Rattle.syntax.proofs.Follows.{lies, long-is-name}
use Rattle.syntax.specs.Sizes.{Tally, tallied, long_name, too_much, passed_in, NotBefore, Kept}

pub or-false : (b : Bool) → b ≡ false → (b || false) ≡ false
or-false b e = ap (λ (c : Bool). c || false) e

-- a token that cannot stand where it does is refused by 3 or 4
pub not_five : (t : Token) → refused_as t ≡ 5 → ⊥
not_five (Name p n) e = omega arith
not_five (Word p n) e = omega arith
not_five (Number p n) e = omega arith
not_five (Bits p n) e = omega arith
not_five (Sign p n) e = omega arith
not_five (End p) e = omega arith
not_five (Bad p) e = omega arith

module _ (text : List ℕ) where
  -- ---- the count from a place on

  module _ (c : Tally) (at : ℕ) (e : goes_on_lem (scan_at text at).token ≡ true) where
    -- a size is passed at the token, or the count goes on behind it
    pub passed_here : (long_name (scan_at text at).token || too_much c (kind_of (scan_at text at).token)) ≡ true → passed_in c (tokens_at text at) ≡ some (place_of (scan_at text at).token)
    unfolding passed_in
    passed_here h = ap (passed_in c) (tokens-on text at e) ∙ rw (passed_in, h)

    pub passed_later : (long_name (scan_at text at).token || too_much c (kind_of (scan_at text at).token)) ≡ false
        → passed_in c (tokens_at text at) ≡ passed_in (tallied c (kind_of (scan_at text at).token)) (tokens_at text (scan_at text at).next)
    unfolding passed_in
    passed_later h = ap (passed_in c) (tokens-on text at e) ∙ rw (passed_in, h)

  not-before : (w : Option ℕ) (p q : ℕ) → p ≤ q → NotBefore w q → NotBefore w p
  not-before none p q h n = tt
  not-before (some x) p q h n = omega arith

  -- the token behind one stands behind it
  place_rises : (at : ℕ) → place_of (scan_at text at).token ≤ place_of (scan_at text (scan_at text at).next).token
  place_rises at = omega (arith, lies text (scan_at text at).next (scan_at text at).token (scan-fair text at).whole, (scan-fair text (scan_at text at).next).from)

  -- what is passed from a place on is not before the next token: where that is the end, and everywhere
  at-end : (c : Tally) (at : ℕ) → goes_on_lem (scan_at text at).token ≡ false → NotBefore (passed_in c (tokens_at text at)) (place_of (scan_at text at).token)
  unfolding passed_in
  at-end c at e = rw (tokens-end text at e) (by (long_name (scan_at text at).token || too_much c (kind_of (scan_at text at).token)) refl)
    where
      by : (b : Bool) → (long_name (scan_at text at).token || too_much c (kind_of (scan_at text at).token)) ≡ b → NotBefore (passed_in c ((scan_at text at).token ∷ [])) (place_of (scan_at text at).token)
      by true i = rw (passed_in, i) (omega arith)
      by false i = rw (passed_in, i) tt

  from-here : (bound : ℕ) (c : Tally) (at : ℕ) → length text < at + bound → NotBefore (passed_in c (tokens_at text at)) (place_of (scan_at text at).token)
  unfolding passed_in
  from-here zero c at h = by (goes_on_lem (scan_at text at).token) refl (long_name (scan_at text at).token || too_much c (kind_of (scan_at text at).token)) refl
    where
      by : (b : Bool) → goes_on_lem (scan_at text at).token ≡ b → (d : Bool) → (long_name (scan_at text at).token || too_much c (kind_of (scan_at text at).token)) ≡ d
          → NotBefore (passed_in c (tokens_at text at)) (place_of (scan_at text at).token)
      by true e d i = absurd (omega (arith, passes text at e))
      by false e d i = at-end c at e
  from-here (suc bound) c at h = by (goes_on_lem (scan_at text at).token) refl (long_name (scan_at text at).token || too_much c (kind_of (scan_at text at).token)) refl
      (λ ahead. from-here bound (tallied c (kind_of (scan_at text at).token)) (scan_at text at).next ahead)
    where
      by : (b : Bool) → goes_on_lem (scan_at text at).token ≡ b → (d : Bool) → (long_name (scan_at text at).token || too_much c (kind_of (scan_at text at).token)) ≡ d
          → (length text < (scan_at text at).next + bound → NotBefore (passed_in (tallied c (kind_of (scan_at text at).token)) (tokens_at text (scan_at text at).next)) (place_of (scan_at text (scan_at text at).next).token))
          → NotBefore (passed_in c (tokens_at text at)) (place_of (scan_at text at).token)
      by false e d i rest = at-end c at e
      by true e true i rest = rw (passed_here c at e i) (omega arith)
      by true e false i rest =
          let ahead = (passes text at e).0 in
          rw (passed_later c at e i)
          (not-before (passed_in (tallied c (kind_of (scan_at text at).token)) (tokens_at text (scan_at text at).next)) (place_of (scan_at text at).token) (place_of (scan_at text (scan_at text at).next).token) (place_rises at) (rest (omega arith)))

  -- ---- agreement

  module _ (w : Option ℕ) where
    -- `w` is where a size is first passed. A step agrees with a count: at a place, when from there on the count comes
    -- to `w`; refused by 5, when `w` is that place; and refused by another number, when no size is passed before.
    unfoldable pub Agrees : Tally → Step → Type 0
    Agrees c (Ok at) = passed_in c (tokens_at text at) ≡ w
    Agrees c (Err stop) = ((stop.number ≡ 5) × (w ≡ some stop.place)) ⊎ ((stop.number ≡ 5 → ⊥) × NotBefore w stop.place)

    -- a refusal agrees with every count or with none
    pub refused-agrees : (c d : Tally) (stop : Refusal) → Agrees c (Err stop) → Agrees d (Err stop)
    unfolding Agrees
    refused-agrees c d stop a = a

    -- 3 or 4 at the next token
    pub agrees-unexpected : (c d : Tally) (at : ℕ) → Agrees c (Ok at) → Agrees d (unexpected (scan_at text at).token)
    unfolding Agrees unexpected
    agrees-unexpected c d at a =
        inr (not_five (scan_at text at).token, subst (λ (v : Option ℕ). NotBefore v (place_of (scan_at text at).token)) a (from-here (suc (length text)) c at (omega arith)))

    -- past a token that passes no size
    pub agrees_on : (c : Tally) (at : ℕ) → goes_on_lem (scan_at text at).token ≡ true → (long_name (scan_at text at).token || too_much c (kind_of (scan_at text at).token)) ≡ false
        → Agrees c (Ok at) → Agrees (tallied c (kind_of (scan_at text at).token)) (Ok (scan_at text at).next)
    unfolding Agrees
    agrees_on c at e h a = sym (passed_later c at e h) ∙ a

    -- 5 at a token that passes one
    pub agrees-five : (c d : Tally) (at : ℕ) → goes_on_lem (scan_at text at).token ≡ true → (long_name (scan_at text at).token || too_much c (kind_of (scan_at text at).token)) ≡ true
        → Agrees c (Ok at) → Agrees d (too_much_at (place_of (scan_at text at).token))
    unfolding Agrees
    agrees-five c d at e h a = inl (refl, sym a ∙ passed_here c at e h)

    -- a token of a kind is none but a name too long, and is not the end
    pub goes : (t : Token) (k : ℕ) → eqb 255 k ≡ false → eqb (kind_of t) k ≡ true → goes_on_lem t ≡ true
    goes (Name p n) k e i = refl
    goes (Word p n) k e i = refl
    goes (Number p n) k e i = refl
    goes (Bits p n) k e i = refl
    goes (Sign p n) k e i = refl
    goes (End p) k e i = clash (eqb 255 k) i e
    goes (Bad p) k e i = refl

    short : (t : Token) (k : ℕ) → eqb 1 k ≡ false → eqb (kind_of t) k ≡ true → long_name t ≡ false
    unfolding long_name
    short (Name p n) k e i = clash (eqb 1 k) i e
    short (Word p n) k e i = refl
    short (Number p n) k e i = refl
    short (Bits p n) k e i = refl
    short (Sign p n) k e i = refl
    short (End p) k e i = refl
    short (Bad p) k e i = refl

    -- ---- one token that is due

    -- past a token of a kind, which is no name too long
    on-kind : (k : ℕ) (c : Tally) → eqb 255 k ≡ false → too_much c k ≡ false → (at : ℕ) → eqb (kind_of (scan_at text at).token) k ≡ true → long_name (scan_at text at).token ≡ false
        → Agrees c (Ok at) → Agrees (tallied c k) (Ok (scan_at text at).next)
    on-kind k c end fits at i few a =
        let is : kind_of (scan_at text at).token ≡ k = eqb-true _ k i in
        subst (λ (n : ℕ). Agrees (tallied c n) (Ok (scan_at text at).next)) is
        (agrees_on c at (goes (scan_at text at).token k end i) (ap (λ (b : Bool). b || too_much c (kind_of (scan_at text at).token)) few ∙ ap (too_much c) is ∙ fits) a)

    module _ (k : ℕ) (c : Tally) (end : eqb 255 k ≡ false) (name : eqb 1 k ≡ false) (fits : too_much c k ≡ false) where
      pub agrees-tok : (s : Step) → Agrees c s → Agrees (tallied c k) (fixed_after text k s)
      unfolding fixed_after
      agrees-tok (Err stop) a = refused-agrees c (tallied c k) stop a
      agrees-tok (Ok at) a = by (eqb (kind_of (scan_at text at).token) k) refl
        where
          by : (b : Bool) → eqb (kind_of (scan_at text at).token) k ≡ b → Agrees (tallied c k) (cond b (Ok (scan_at text at).next) (unexpected (scan_at text at).token))
          by true i = on-kind k c end fits at i (short (scan_at text at).token k name i) a
          by false i = agrees-unexpected c (tallied c k) at a

      -- past a token that was looked at
      pub agrees-past : (s : Step) → eqb (seen_at text s).kind k ≡ true → Agrees c s → Agrees (tallied c k) (seen_at text s).past
      unfolding seen_at
      agrees-past (Err stop) i a = clash (eqb 255 k) i end
      agrees-past (Ok at) i a = on-kind k c end fits at i (short (scan_at text at).token k name i) a

    -- the same, by the kind of the token at a place
    pub agrees-kind : (k : ℕ) (c : Tally) → eqb 255 k ≡ false → eqb 1 k ≡ false → too_much c k ≡ false → (at : ℕ) → kind_of (scan_at text at).token ≡ k → Agrees c (Ok at) → Agrees (tallied c k) (Ok (scan_at text at).next)
    agrees-kind k c end name fits at i a = on-kind k c end fits at (eq-eqb _ k i) (short (scan_at text at).token k name (eq-eqb _ k i)) a

    -- a token that the count does not mind
    abbrev pub Quiet : Tally → ℕ → Type 0
    Quiet c k = (too_much c k ≡ false) × (tallied c k ≡ c)

    pub agrees-quiet : (k : ℕ) (c : Tally) → eqb 255 k ≡ false → eqb 1 k ≡ false → Quiet c k → (s : Step) → Agrees c s → Agrees c (fixed_after text k s)
    agrees-quiet k c end name q s a = subst (λ (d : Tally). Agrees d (fixed_after text k s)) q.1 (agrees-tok k c end name q.0 s a)

    -- a word, and a number between two signs, that the count does not mind
    abbrev pub Unminded : Tally → ℕ → Type 0
    Unminded c k = (eqb 255 k ≡ false) × (eqb 1 k ≡ false) × Quiet c k

    pub agrees_unminded : (k : ℕ) (c : Tally) → Unminded c k → (s : Step) → Agrees c s → Agrees c (fixed_after text k s)
    agrees_unminded k c q s a = agrees-quiet k c q.0 q.1 q.2 s a

    pub agrees-enclosed : (c : Tally) (word opens closes : ℕ) → Unminded c word → Unminded c opens → Unminded c 2 → Unminded c closes
        → (s : Step) → Agrees c s → Agrees c (enclosed_after text word opens closes s).step
    unfolding enclosed_after number_after
    agrees-enclosed c word opens closes w o n e s a = agrees_unminded closes c e _ (agrees_unminded 2 c n _ (agrees_unminded opens c o _ (agrees_unminded word c w s a)))

    -- a token of a kind that is one too many
    pub agrees-extra : (k : ℕ) → eqb 255 k ≡ false → (c d : Tally) → too_much c k ≡ true → (s : Step) → Agrees c s → Agrees d (extra_after text k s)
    unfolding extra_after place_at too_many fixed_after unexpected
    agrees-extra k end c d over (Err stop) a = refused-agrees c d stop a
    agrees-extra k end c d over (Ok at) a = by (eqb (kind_of (scan_at text at).token) k) refl
      where
        by : (b : Bool) → eqb (kind_of (scan_at text at).token) k ≡ b → Agrees d (too_many (place_of (scan_at text at).token) (cond b (Ok (scan_at text at).next) (unexpected (scan_at text at).token)))
        by true i =
            agrees-five c d at (goes (scan_at text at).token k end i)
            (ap (λ (n : ℕ). long_name (scan_at text at).token || too_much c n) (eqb-true (kind_of (scan_at text at).token) k i)
            ∙ ap (λ (b : Bool). long_name (scan_at text at).token || b) over ∙ or-true (long_name (scan_at text at).token)) a
        by false i = agrees-unexpected c d at a

    -- ---- names

    pub agrees-name : (c : Tally) → too_much c 1 ≡ false → (s : Step) → Agrees c s → Agrees (tallied c 1) (name_after text s).step
    unfolding name_after name_in token_after token_at long_name fixed_after
    agrees-name c fits (Err stop) a = refused-agrees c (tallied c 1) stop a
    agrees-name c fits (Ok at) a = by (long_name (scan_at text at).token) refl (eqb (kind_of (scan_at text at).token) 1) refl
      where
        by : (b : Bool) → long_name (scan_at text at).token ≡ b → (d : Bool) → eqb (kind_of (scan_at text at).token) 1 ≡ d
            → Agrees (tallied c 1) (cond b (too_much_at (place_of (scan_at text at).token)) (cond d (Ok (scan_at text at).next) (unexpected (scan_at text at).token)))
        by true e d i =
            agrees-five c (tallied c 1) at (goes (scan_at text at).token 1 refl (long-is-name text (scan_at text at).token e)) (ap (λ (b : Bool). b || too_much c (kind_of (scan_at text at).token)) e) a
        by false e true i = on-kind 1 c refl fits at i e a
        by false e false i = agrees-unexpected c (tallied c 1) at a

    -- ---- the end

    pub agrees-end : (c : Tally) → too_much c 255 ≡ false → (s : Step) → Agrees c s → Kept w (fixed_after text 255 s)
    unfolding Agrees Kept fixed_after unexpected passed_in long_name
    agrees-end c fits (Err stop) a = a
    agrees-end c fits (Ok at) a = by (eqb (kind_of (scan_at text at).token) 255) refl
      where
        over : (t : Token) → kind_of t ≡ 255 → (goes_on_lem t ≡ false) × (long_name t ≡ false)
        over (Name p n) e = absurd (omega arith)
        over (Word p n) e = absurd (omega arith)
        over (Number p n) e = absurd (omega arith)
        over (Bits p n) e = absurd (omega arith)
        over (Sign p n) e = absurd (omega arith)
        over (End p) e = (refl, refl)
        over (Bad p) e = absurd (omega arith)

        by : (b : Bool) → eqb (kind_of (scan_at text at).token) 255 ≡ b → Kept w (cond b (Ok (scan_at text at).next) (unexpected (scan_at text at).token))
        by true i =
            let last = over (scan_at text at).token (eqb-true (kind_of (scan_at text at).token) 255 i) in
            let is : kind_of (scan_at text at).token ≡ 255 = eqb-true (kind_of (scan_at text at).token) 255 i in
            sym a ∙ ap (passed_in c) (tokens-end text at last.0) ∙ rw (passed_in, last.1, is, fits)
        by false i = agrees-unexpected c c at a
