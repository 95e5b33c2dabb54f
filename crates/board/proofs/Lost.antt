-- A loss of power: what is known after it, on a board whose registers that cannot be read hold anything.
-- Assumes nothing.
use Prim.Native.Nat.{ℕ, zero, suc, ◌^◌, ◌<◌, ◌≤◌}
use mathlib.Core.Path.{◌≡◌, refl, sym, ap, ◌∙◌, subst}
use mathlib.Core.Bool.{Bool, true, false, cond}
use mathlib.Core.List.{List, [], ◌∷◌}
use mathlib.Core.Option.{Option, none, some}
use native.Mathlib.Omega.{arith}
use lib.Dec.{eqb, leb}
use lib.IntN.{ℤ}
use lib.ListN.{length, get_or}
use borrow.Author.Tests.{le-leb}
use Rattle.tables.specs.declared.Part.{Part}
use Rattle.tables.specs.declared.Part.TheVariants.{Read as reading, Write as writing}
use Rattle.tables.specs.View.{Tables, sound, Plain, Consistent, Place, register_count, register_width, register_has, variable_count, kind_of, size, home_of, spot_of, is_among}
use Rattle.bits.specs.Bits.{bit, number_of}
use Rattle.bits.specs.Values.{encode, decode}
use Rattle.bits.proofs.BitLaws.{number_same}
use Rattle.station.specs.declared.Access.{Access}
use Rattle.station.specs.declared.Answer.TheVariants.{Opened}
use Rattle.station.specs.Calls.{State, Outcome, unless, is_long, opening_tests, opening, confirm, kept_of, written_byte}
use Rattle.station.proofs.ByteLaws.{byte-own}
use Rattle.station.proofs.Refusals.{unless-cases}
use Rattle.station.proofs.Registers.{same_size, same_place_lem}
use Rattle.board.specs.Board.{Cells, put, put_at, cell_at, answers, last_where, reached, is_writing, perform, brought, Due, Gives, must_read, bits_in, World, with_cells, Call, BeginRead, BeginWrite, Confirm, Abandon, Reopen, begun, moved, unless_opened, step, after, opened, whole_read}
use Rattle.board.specs.Demand.{Opening, power_on, world_after, due_after}
use Rattle.board.specs.Stops.{last_given, Settled, left_by}
use Rattle.board.specs.Middle.{confirmations, set_so_far, wrote_over, UnderWay}
use Rattle.board.specs.Lost.{Agree, opened_on, SeenAlike, AsItIs, mixed, PowerLost}
use Rattle.board.proofs.Steps.{InvW, step_keeps}
use Rattle.board.proofs.Onlooker.{step-settled}
use Rattle.board.proofs.Stops.{settled-bit, settled-number, unmarked}
use Rattle.board.proofs.Demand3.{demand-3}
use Rattle.board.proofs.World.{ok, rules, world-holds}
use Rattle.logic.proofs.Tests.{both}

-- ── a board as it is ──

last-is : (test : ℕ → Bool) (n r : ℕ) → last_where test n ≡ some r → (r < n) × (test r ≡ true)
unfolding last_where
last-is test zero r e = absurd (subst IsSome (sym e) tt)
  where
    IsSome : Option ℕ → Type 0
    IsSome none = ⊥
    IsSome (some q) = Unit {0}
last-is test (suc n) r e = go (test n) refl e (last-is test n r)
  where
    the_number : Option ℕ → ℕ
    the_number none = 0
    the_number (some q) = q

    go : (b : Bool) → test n ≡ b → cond b (some n) (last_where test n) ≡ some r → (last_where test n ≡ some r → (r < n) × (test r ≡ true))
        → (r < suc n) × (test r ≡ true)
    go true at_n e rest =
        let same : n ≡ r = ap the_number e in
        (omega arith, ap test (sym same) ∙ at_n)
    go false at_n e rest = let found = rest e in let less = found.0 in (omega arith, found.1)

module _ (t : Tables) where
  -- these cells are alike where they can be read
  abbrev Alike : Cells → Cells → Type 0
  Alike f g = (r : ℕ) → r < register_count t → register_has t reading r ≡ true → f r ≡ g r

  -- a read reaches a register that can be read
  read_alike : (a : Access) (f g : Cells) (any : ℕ) → a.direction ≡ reading → Alike f g → cell_at f (reached t a) any ≡ cell_at g (reached t a) any
  unfolding reached answers
  read_alike a f g any reads alike = go (reached t a) refl
    where
      go : (reach : Option ℕ) → last_where (answers t a) (register_count t) ≡ reach → cell_at f reach any ≡ cell_at g reach any
      go none e = refl
      go (some r) e =
          let found = last-is (answers t a) (register_count t) r e in
          alike r found.0 (ap (λ (p : Part). register_has t p r) (sym reads) ∙ (both (register_has t a.direction r) _ found.1).0)

  brought-alike : (offer : Option Access) (f g : Cells) (any : ℕ) → Alike f g → brought t offer f any ≡ brought t offer g any
  brought-alike none f g any alike = refl
  brought-alike (some a) f g any alike = go a.direction refl
    where
      go : (p : Part) → a.direction ≡ p → cond (is_writing p) any (cell_at f (reached t a) any) ≡ cond (is_writing p) any (cell_at g (reached t a) any)
      go reading e = read_alike a f g any e alike
      go writing e = refl

  put-alike : (f g : Cells) (reach : Option ℕ) (byte r : ℕ) → f r ≡ g r → put_at f reach byte r ≡ put_at g reach byte r
  unfolding put
  put-alike f g none byte r same = same
  put-alike f g (some q) byte r same = ap (λ (b : ℕ). cond (eqb r q) byte b) same

  perform-alike : (offer : Option Access) (f g : Cells) (r : ℕ) → f r ≡ g r → perform t offer f r ≡ perform t offer g r
  perform-alike none f g r same = same
  perform-alike (some a) f g r same = go (is_writing a.direction)
    where
      go : (b : Bool) → cond b (put_at f (reached t a) a.byte) f r ≡ cond b (put_at g (reached t a) a.byte) g r
      go true = put-alike f g (reached t a) a.byte r same
      go false = same

  one_alike : (call : Call) (u : World) (f : Cells) → Alike f u.cells → SeenAlike t (step sound t call (with_cells u f)) (step sound t call u)
  one_alike (BeginRead v) u f alike = record { same = refl; cells = alike }
  one_alike (BeginWrite v z) u f alike = record { same = refl; cells = alike }
  one_alike (Confirm any) u f alike =
      record {
        same = ap (λ (byte : ℕ). moved u (confirm sound t u.state byte) (perform t u.offer f)) (brought-alike u.offer f u.cells any alike);
        cells = λ r hr has. perform-alike u.offer f u.cells r (alike r hr has);
      }
  one_alike (Abandon true) u f alike = record { same = refl; cells = λ r hr has. perform-alike u.offer f u.cells r (alike r hr has) }
  one_alike (Abandon false) u f alike = record { same = refl; cells = alike }
  one_alike (Reopen numbers) u f alike =
      unless-cases
      (λ (o : Outcome). SeenAlike t (unless_opened o.answer (with_cells u f) (begun (with_cells u f) o u.asked)) (unless_opened o.answer u (begun u o u.asked)))
      (opening_tests sound t numbers u.state) u.state _ (λ n. record { same = refl; cells = alike }) (λ passed. record { same = refl; cells = alike })

  after-alike : (calls : List Call) (w u : World) → SeenAlike t w u → SeenAlike t (after sound t calls w) (after sound t calls u)
  unfolding after
  after-alike [] w u alike = alike
  after-alike (call ∷ calls) w u alike =
      after-alike calls (step sound t call w) (step sound t call u)
      (subst (λ (x : World). SeenAlike t (step sound t call x) (step sound t call u)) (sym alike.same) (one_alike call u w.cells alike.cells))

module _ {t : Tables} {numbers : List ℕ} (o : Opening t numbers) where
  unseen-by : (cells : Cells) → Agree t cells numbers → (calls : List Call) → SeenAlike t (after sound t calls (opened_on o cells)) (world_after o calls)
  unseen-by cells agree calls =
      after-alike t calls (opened_on o cells) (opened sound t numbers o.lent) (record { same = refl; cells = λ r hr has. sym (agree r hr has) })

  -- the calls after those are answered alike
  told-alike : (cells : Cells) → Agree t cells numbers → (calls later : List Call)
      → (after sound t later (after sound t calls (opened_on o cells))).answer ≡ (after sound t later (world_after o calls)).answer
  told-alike cells agree calls later = ap (λ (w : World). w.answer) (after-alike t later _ _ (unseen-by cells agree calls)).same

  pub as-it-is : AsItIs t numbers o
  unfolding after
  as-it-is =
      record {
        unseen = unseen-by;
        reads-back = λ cells agree calls v z anys obedient plain nothing due enough.
            told-alike cells agree calls (whole_read v anys) ∙ (demand-3 t numbers).reads-back o calls v z anys obedient plain nothing due enough;
        half_written_lem = λ cells agree calls v plain nothing due.
            told-alike cells agree calls (BeginRead v ∷ []) ∙ (demand-3 t numbers).half_written_lem o calls v plain nothing due;
      }

-- ── what an opening after a loss must read ──

module _ (t : Tables) (is-sound : sound t ≡ true) (c : Consistent t) (power : Cells) where
  abbrev Holding : World → Type 0
  Holding w = InvW sound t is-sound c power w

  -- a plain variable's write bits live in registers that can be read
  can_be_read : (v j : ℕ) → Plain t v → j < size t writing v → register_has t reading (home_of t writing v j) ≡ true
  can_be_read v j plain hj =
      ap (λ (p : Place). register_has t reading p.register) (sym (same_place_lem t v j plain)) ∙ c.on-part reading v j plain.exists (rw (same_size t v plain) hj)

  again-due : (cells : Cells) (numbers : List ℕ) (v : ℕ) → Agree t cells numbers → Plain t v
      → must_read t (power_on numbers) [] v ≡ Gives (decode (kind_of t v) (size t writing v) (bits_in t writing v cells))
  unfolding must_read bits_in
  again-due cells numbers v agree plain =
      ap {B = Due} Gives
      (ap (λ (w : ℕ). decode (kind_of t v) w (number_of w (λ j. bit (spot_of t reading v j) (get_or numbers (home_of t reading v j) 0)))) (same_size t v plain)
      ∙ ap (decode (kind_of t v) (size t writing v))
      (number_same (size t writing v) _ _ (λ j hj.
      ap (λ (p : Place). bit p.bit_no (get_or numbers p.register 0)) (same_place_lem t v j plain)
      ∙ ap (bit (spot_of t writing v j)) (agree _ (c.in_register_lem writing v j plain.exists hj) (can_be_read v j plain hj)))))

  settled-due : (w : World) (v : ℕ) → Holding w → Plain t v → Settled w v
      → must_read t power w.events v ≡ Gives (decode (kind_of t v) (size t writing v) (last_given t power w.events v))
  settled-due w v i plain settled =
      (i.1.engine.tells v plain.exists).0 plain (unmarked t is-sound c power w v i plain.exists settled)
      ∙ ap {B = Due} (λ (s : ℕ). Gives (decode (kind_of t v) s (last_given t power w.events v))) (same_size t v plain)

  known-again : (w : World) (numbers : List ℕ) (v : ℕ) → Holding w → Agree t w.cells numbers → Plain t v → Settled w v
      → must_read t (power_on numbers) [] v ≡ must_read t power w.events v
  known-again w numbers v i agree plain settled =
      again-due w.cells numbers v agree plain
      ∙ ap {B = Due} (λ (x : ℕ). Gives (decode (kind_of t v) (size t writing v) x)) (settled-number t is-sound c power w v i plain.exists settled)
      ∙ sym (settled-due w v i plain settled)

  -- the write bits of v, where registers were written over
  mixed-bits : (w : World) (v x : ℕ) (registers : List ℕ) (cells : Cells) → Holding w → v < variable_count t → Settled w v
      → ((r : ℕ) → cells r ≡ wrote_over t (kept_of w.state) v x registers w.cells r)
      → bits_in t writing v cells ≡ mixed t v registers x (last_given t power w.events v)
  unfolding bits_in
  mixed-bits w v x registers cells i hv settled over =
      number_same (size t writing v) _ _ (λ j hj. ap (bit (spot_of t writing v j)) (over (home_of t writing v j)) ∙ go j hj (is_among (home_of t writing v j) registers))
    where
      go : (j : ℕ) → j < size t writing v → (b : Bool)
          → bit (spot_of t writing v j) (cond b (written_byte t (kept_of w.state) v x (home_of t writing v j)) (w.cells (home_of t writing v j)))
          ≡ cond b (bit j x) (bit j (last_given t power w.events v))
      go j hj true = byte-own t c (kept_of w.state) v x j hv hj
      go j hj false = settled-bit t is-sound c power w v j i hv settled hj

-- ── from an opening on ──

module _ {t : Tables} {power : List ℕ} (o : Opening t power) where
  -- an access left undone or done is an end: the world after it holds too
  stopped-holds : (calls : List Call) (performed : Bool) → InvW sound t (ok o) (rules o) (power_on power) (step sound t (Abandon performed) (world_after o calls))
  stopped-holds calls performed = step_keeps sound t (ok o) (rules o) (power_on power) (Abandon performed) (world_after o calls) (world-holds o calls)

  numbers-left : (calls : List Call) (performed : Bool) (r : ℕ) → r < register_count t → left_by t performed (world_after o calls) r < 2 ^ register_width t r
  numbers-left calls performed = (stopped-holds calls performed).1.engine.small

  reopened : (numbers : List ℕ) (lent : State) → register_count t ≤ length numbers → is_long t lent ≡ true → (opening sound t numbers lent).answer ≡ Opened
  unfolding unless
  reopened numbers lent enough long = let all : leb (register_count t) (length numbers) ≡ true = le-leb _ _ enough in rw (ok o, all, long)

  -- the due of an opening that nothing has followed
  start-due : {numbers : List ℕ} (again : Opening t numbers) (v : ℕ) → due_after again [] v ≡ must_read t (power_on numbers) [] v
  unfolding after
  start-due again v = refl

  pub known : (calls : List Call) (performed : Bool) {numbers : List ℕ} (again : Opening t numbers) (v : ℕ)
      → Agree t (left_by t performed (world_after o calls)) numbers → Plain t v → Settled (world_after o calls) v → due_after again [] v ≡ due_after o calls v
  known calls performed {numbers} again v agree plain settled =
      let still = step-settled sound t (power_on power) (Abandon performed) (world_after o calls) v settled refl in
      start-due again v
      ∙ known-again t (ok o) (rules o) (power_on power) (step sound t (Abandon performed) (world_after o calls)) numbers v (stopped-holds calls performed) agree plain still.settled
      ∙ still.notes.due

  -- the cells of a write that has set no register are those before it
  unset : (calls : List Call) (v : ℕ) (z : ℤ) (u : UnderWay o calls v z) → confirmations u.since ≡ 0 → (r : ℕ)
      → (world_after o calls).cells r ≡ (world_after o u.before).cells r
  unset calls v z u nothing r =
      u.half-set false r
      ∙ ap (λ (n : ℕ). wrote_over t (kept_of (world_after o u.before).state) v (encode (size t writing v) z) (set_so_far t v n false) (world_after o u.before).cells r) nothing

  pub power-lost : PowerLost t power o
  unfolding after
  power-lost =
      record {
        numbers-again = numbers-left;
        opens-again = reopened;
        settled-known = known;
        mixed-known = λ calls v z u performed {numbers} again agree plain settled.
            start-due again v
            ∙ again-due t (ok o) (rules o) (power_on power) (left_by t performed (world_after o calls)) numbers v agree plain
            ∙ ap {B = Due} (λ (x : ℕ). Gives (decode (kind_of t v) (size t writing v) x))
            (mixed-bits t (ok o) (rules o) (power_on power) (world_after o u.before) v (encode (size t writing v) z) (set_so_far t v (confirmations u.since) performed)
            (left_by t performed (world_after o calls)) (world-holds o u.before) u.takes.exists settled (u.half-set performed));
        unset-known = λ calls v z u {numbers} again agree plain settled nothing.
            start-due again v
            ∙ known-again t (ok o) (rules o) (power_on power) (world_after o u.before) numbers v (world-holds o u.before)
            (λ r hr has. agree r hr has ∙ unset calls v z u nothing r) plain settled;
      }
