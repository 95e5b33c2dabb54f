-- The map of names: what every declaration adds to the names that are declared, its entry's mark covers.
-- Assumes nothing.
use Prim.Native.Nat.{ℕ, ◌+◌, ◌-◌, ◌*◌, ◌/◌, ◌%◌, ◌≤◌, ◌<◌, min}
use native.Mathlib.Omega.{arith}
use native.Mathlib.Numerals.{add-one}
use native.Mathlib.Nat.{mod-lt, min-le_left, min-le_right, le-min, mul-le-mul_left}
use mathlib.Core.Path.{◌≡◌, refl, sym, ap, ◌∙◌, subst}
use mathlib.Core.Bool.{Bool, true, false, ◌&&◌, ◌||◌, not, false≢true}
use mathlib.Core.List.{List, [], ◌∷◌}
use lib.Dec.{eqb, ltb}
use lib.ListN.{length, get_or, set, drop, length-set, drop_of_length-le}
use lib.Seq.{get_or-set_same, get_or-set_other, drop-cons}
use borrow.Author.Tests.{eqb-true, ltb-true, ltb-false, le-ltb}
use Rattle.logic.proofs.Tests.{and_left, and_right, or_left, or_right}
use Rattle.token.specs.Bytes.{begins}
use Rattle.token.proofs.Lexemes.{begins-take}
use Rattle.syntax.specs.Step.{Step}
use Rattle.syntax.specs.declared.register.Register.{Register}
use Rattle.syntax.specs.Variable.{VariableRead}
use Rattle.tables.specs.Every.{first_of, every}
use Rattle.tables.specs.Words.{count_of, variable_at, variable_part}
use Rattle.tables.proofs.Laws.{first-le, first-all, first-same, first-last, every-is}
use Rattle.tables.proofs.SameLaws.{Alike}
use Rattle.rules.specs.declared.declared.Judging.{Judging}
use Rattle.std.specs.Option.{is_some}
use Rattle.rules.specs.Fault.{is_fault}
use Rattle.rules.specs.Names.{name_of, stands_at, is_named, held_of, found_below, found_in, is_declared}
use Rattle.rules.specs.State.{State, state_of, unless_stopped, unless_broken, stopped, with_registers, with_variables}
use Rattle.rules.specs.Words.{word_of, written, appended}
use Rattle.rules.specs.Register.{register_written, register_entry, added_register, judge_register}
use Rattle.rules.specs.Lists.{part_words}
use Rattle.rules.specs.Variable.{triggers, first_pieces, second_pieces, list_of, early_fault, head_words, with_variable, variables_with, added_variable, judge_variable}
use Rattle.rules.proofs.WrittenLaws.{length-written}
use Rattle.rules.proofs.FrameLaws.{written_below}
use Rattle.loader.specs.declared.heading.Loading.{Loading}
use Rattle.loader.specs.declared.known.Declared.{Declared}
use Rattle.loader.specs.Judge.{moved_by}
use Rattle.loader.specs.Known.{mark_from, mark_of, recorded, Known}

-- ---- marks
mark_from-small : (name : List ℕ) (n : ℕ) → n < 2048 → mark_from n name < 2048
unfolding mark_from
mark_from-small [] n l = l
mark_from-small (b ∷ name) n l = mark_from-small name ((37 * n + b) % 2048) (mod-lt (37 * n + b) (omega arith))

pub mark-small : (name : List ℕ) → mark_of name < 2048
unfolding mark_of
mark-small name = mark_from-small name 0 (omega arith)

-- a turn of the loop over a name, and its end
pub mark_on : (name : List ℕ) (n k : ℕ) → k < length name → mark_from n (drop k name) ≡ mark_from ((37 * n + get_or name k 0) % 2048) (drop (k + 1) name)
unfolding mark_from
mark_on name n k l = rw (add-one, drop-cons name k 0 l)

pub mark-end : (name : List ℕ) (n k : ℕ) → length name ≤ k → mark_from n (drop k name) ≡ n
unfolding mark_from
mark-end name n k l = rw (drop_of_length-le name l)

-- a name that stands at a place is the name there
stands-is : (text : List ℕ) (place extent : ℕ) (name : List ℕ) → stands_at text place extent name ≡ true → name_of text place extent ≡ name
unfolding stands_at
stands-is text place extent name e =
    let rest = drop place text in
    let front = and_left (ltb 0 (length name) && eqb extent (length name)) (begins name rest) e in
    let long = eqb-true extent (length name) (and_right (ltb 0 (length name)) (eqb extent (length name)) front) in
    rw long (begins-take name rest (and_right (ltb 0 (length name) && eqb extent (length name)) (begins name rest) e)).0

-- a name with another mark stands there not
pub stands-not : (text : List ℕ) (place extent : ℕ) (name : List ℕ) → (mark_of name ≡ mark_of (name_of text place extent) → ⊥) → stands_at text place extent name ≡ false
stands-not text place extent name other = go (stands_at text place extent name) refl
  where
    go : (b : Bool) → stands_at text place extent name ≡ b → stands_at text place extent name ≡ false
    go true e = absurd (other (ap mark_of (sym (stands-is text place extent name e))))
    go false e = e

-- ---- a search that finds nothing
module _ (text table : List ℕ) (stride : ℕ) (name : List ℕ) where
  abbrev test : ℕ → Bool
  test i = is_named text table (stride * i + 1) name

  nothing-each : is_some (found_in text table stride name) ≡ false → (i : ℕ) → i < held_of stride table → test i ≡ false
  unfolding found_in found_below
  nothing-each e = go (ltb (first_of n test) n) refl
    where
      n : ℕ
      n = held_of stride table

      go : (b : Bool) → ltb (first_of n test) n ≡ b → (i : ℕ) → i < n → test i ≡ false
      go true g = absurd (false≢true (sym e ∙ rw g))
      go false g = first-all n test (omega (arith, first-le n test, ltb-false (first_of n test) n g))

  pub each-nothing : ((i : ℕ) → i < held_of stride table → test i ≡ false) → is_some (found_in text table stride name) ≡ false
  unfolding found_in found_below
  each-nothing none =
      let n = held_of stride table in
      let all : every n (λ i. not (test i)) ≡ true = every-is n (λ i. not (test i)) (λ i l. ap not (none i l)) in
      let same : first_of n test ≡ first_of n (λ i. not (not (test i))) = first-same n test (λ i. not (not (test i))) (λ i l. none i l ∙ sym (ap (λ (b : Bool). not (not b)) (none i l))) in
      let end : first_of n test ≡ n = same ∙ eqb-true (first_of n (λ i. not (not (test i)))) n (first-last n (λ i. not (test i)) ∙ all) in
      rw (le-ltb (first_of n test) n (omega (arith, end)))

-- ---- a table that grew: at most one entry more, and those before it as they were
pub record Grew (stride : ℕ) (a b : List ℕ) : Type 0 where
  pub long : length b ≡ length a
  pub most : count_of b ≤ count_of a + 1
  pub before : Alike (stride * count_of a + 1) a b

counted-most : (t : List ℕ) (n : ℕ) → get_or (set t 0 (word_of n)) 0 0 ≤ n
unfolding word_of
counted-most [] n = omega arith
counted-most (x ∷ t) n = min-le_left n 4294967295

-- words stored behind the entries, and one entry counted more
grew_by : (stride : ℕ) (a b : List ℕ) → length b ≡ length a → ((k : ℕ) → k < stride * count_of a + 1 → get_or b k 0 ≡ get_or a k 0)
    → Grew stride a (set b 0 (word_of (count_of a + 1)))
grew_by stride a b long same =
    record {
      long = length-set b 0 (word_of (count_of a + 1)) ∙ long;
      most = counted-most b (count_of a + 1);
      before = λ k l h. sym (get_or-set_other b 0 k (word_of (count_of a + 1)) 0 (λ e. omega arith) ∙ same k h);
    }

register_grew : (t words : List ℕ) → Grew 15 t (appended 15 t words)
unfolding appended
register_grew t words = grew_by 15 t (written t (15 * count_of t + 1) words) (length-written t (15 * count_of t + 1) words) (written_below t (15 * count_of t + 1) words)

-- the entries of a table that grew have another name, if those before have and the new one has
module _ (stride : ℕ) (wide : 2 ≤ stride) (text a b name : List ℕ) (grew : Grew stride a b) where
  named-before : (i : ℕ) → i < count_of a → is_named text b (stride * i + 1) name ≡ is_named text a (stride * i + 1) name
  unfolding is_named
  named-before i l =
      let inside : stride * (i + 1) ≤ stride * count_of a = mul-le-mul_left stride (omega arith) in
      let more : stride * (i + 1) ≡ stride * i + stride = omega arith in
      rw (grew.before (stride * i + 1) (omega arith) (omega arith), grew.before (stride * i + 1 + 1) (omega arith) (omega arith))

  pub nothing-more : is_some (found_in text a stride name) ≡ false → is_named text b (stride * count_of a + 1) name ≡ false
      → is_some (found_in text b stride name) ≡ false
  unfolding held_of
  nothing-more none new = each-nothing text b stride name (λ i l. go i l (ltb i (count_of a)) refl)
    where
      go : (i : ℕ) → i < min (count_of b) ((length b - 1) / stride) → (c : Bool) → ltb i (count_of a) ≡ c → is_named text b (stride * i + 1) name ≡ false
      go i l true e =
          let below = ltb-true i (count_of a) e in
          let room : i < (length a - 1) / stride = subst (λ (n : ℕ). i < (n - 1) / stride) grew.long (omega (arith, l, min-le_right (count_of b) ((length b - 1) / stride))) in
          named-before i below ∙ nothing-each text a stride name none i (le-min below room)
      go i l false e =
          let last : i ≡ count_of a = omega (arith, l, min-le_left (count_of b) ((length b - 1) / stride), grew.most, ltb-false i (count_of a) e) in
          rw last new

-- ---- a name that nothing declares
record Undeclared (text : List ℕ) (s : State) (name : List ℕ) : Type 0 where
  device : stands_at text s.place s.extent name ≡ false
  parameter : is_some (found_in text s.parameters 36 name) ≡ false
  register : is_some (found_in text s.registers 15 name) ≡ false
  variable : is_some (found_in text s.variables 59 name) ≡ false

undeclared_by : (text : List ℕ) (s : State) (name : List ℕ) → is_declared text s name ≡ false → Undeclared text s name
unfolding is_declared
undeclared_by text s name e =
    let d = stands_at text s.place s.extent name in
    let p = is_some (found_in text s.parameters 36 name) in
    let r = is_some (found_in text s.registers 15 name) in
    let v = is_some (found_in text s.variables 59 name) in
    let three = or_left (d || p || r) v e in
    let two = or_left (d || p) r three in
    record { device = or_left d p two; parameter = or_right d p two; register = or_right (d || p) r three; variable = or_right (d || p || r) v e }

is_undeclared : (text : List ℕ) (s : State) (name : List ℕ) → Undeclared text s name → is_declared text s name ≡ false
unfolding is_declared
is_undeclared text s name u = rw (u.device, u.parameter, u.register, u.variable)

-- a name without a mark is fresh
pub known-fresh : (text : List ℕ) (s : State) (map : List ℕ) {number : ℕ} {fresh : Bool} (place extent : ℕ) → Known text s map → number ≡ mark_of (name_of text place extent)
    → fresh ≡ eqb (get_or map number 0) 0 → fresh ≡ true → is_declared text s (name_of text place extent) ≡ false
known-fresh text s map place extent known e f t =
    known.fresh (name_of text place extent) (ap (λ (n : ℕ). get_or map n 0) (sym e) ∙ eqb-true (get_or map _ 0) 0 (sym f ∙ t))

-- one mark more: a name that has none has another mark than this one, and had none before
module _ (map : List ℕ) (long : length map ≡ 2048) (name other : List ℕ) (none : get_or (set map (mark_of other) 1) (mark_of name) 0 ≡ 0) where
  pub differs : mark_of name ≡ mark_of other → ⊥
  differs e =
      let one : get_or (set map (mark_of other) 1) (mark_of other) 0 ≡ 1 = get_or-set_same map (mark_of other) 1 0 (omega (arith, long, mark-small other)) in
      let z : ◌≡◌ {A = ℕ} 1 0 = sym one ∙ ap (λ (n : ℕ). get_or (set map (mark_of other) 1) n 0) (sym e) ∙ none in
      omega arith

  pub unmarked-before : get_or map (mark_of name) 0 ≡ 0
  unmarked-before = sym (get_or-set_other map (mark_of other) (mark_of name) 1 0 differs) ∙ none

known_more : (text : List ℕ) (s t : State) (map other : List ℕ) → Known text s map
    → ((name : List ℕ) → Undeclared text s name → (mark_of name ≡ mark_of other → ⊥) → Undeclared text t name) → Known text t (set map (mark_of other) 1)
known_more text s t map other known step =
    record {
      long = length-set map (mark_of other) 1 ∙ known.long;
      fresh = λ name none. is_undeclared text t name (step name
          (undeclared_by text s name (known.fresh name (unmarked-before map known.long name other none))) (differs map known.long name other none));
    }

-- ---- a register, and a variable
module _ (text : List ℕ) (s : State) (r : Register) where
  abbrev registered : State
  registered = unless_stopped s (judge_register text s r)

  register_undeclared : (name : List ℕ) → Undeclared text s name
      → (mark_of name ≡ mark_of (recorded text registered.registers (15 * count_of s.registers + 1)) → ⊥) → Undeclared text registered name
  unfolding unless_stopped judge_register unless_broken added_register with_registers stopped recorded is_named
  register_undeclared name u other = go (is_fault s.fault) refl (is_fault (register_written text s r)) refl
    where
      go : (a : Bool) → is_fault s.fault ≡ a → (b : Bool) → is_fault (register_written text s r) ≡ b → Undeclared text registered name
      go true e b g = rw e u
      go false e true g = rw (e, g) (record { device = u.device; parameter = u.parameter; register = u.register; variable = u.variable })
      go false e false g =
          rw (e, g)
          (record {
            device = u.device;
            parameter = u.parameter;
            register = nothing-more 15 (omega arith) text s.registers _ name (register_grew s.registers (register_entry text s.parameters r)) u.register
                (stands-not text _ _ name (rw (e, g) at other));
            variable = u.variable;
          })

variable_grew : (text : List ℕ) (s : State) (it : VariableRead) → Grew 59 s.variables (variables_with text s it)
unfolding with_variable
variable_grew text s it =
    let vs = s.variables in
    let d = it.variable in
    let head = head_words d in
    let part : ℕ → ℕ → List ℕ = λ own p. part_words d (first_pieces text s it) (second_pieces text s it) (triggers d.rest.behaviours own) (list_of text s it p) in
    let reads = part d.rest.behaviours.read 0 in
    let writes = part d.rest.behaviours.write 1 in
    let headed = written vs (variable_at (count_of vs)) head in
    let half = written headed (variable_part (count_of vs) 0) reads in
    grew_by 59 vs (written half (variable_part (count_of vs) 1) writes) (length-written half (variable_part (count_of vs) 1) writes ∙ length-written headed (variable_part (count_of vs) 0) reads ∙ length-written vs (variable_at (count_of vs)) head)
    (λ k l. written_below half (variable_part (count_of vs) 1) writes k (omega arith) ∙ written_below headed (variable_part (count_of vs) 0) reads k (omega arith)
    ∙ written_below vs (variable_at (count_of vs)) head k (omega arith))

module _ (text : List ℕ) (s : State) (it : VariableRead) where
  abbrev judged : State
  judged = judge_variable text s it

  variable_undeclared : (name : List ℕ) → Undeclared text s name
      → (mark_of name ≡ mark_of (recorded text judged.variables (59 * count_of s.variables + 1)) → ⊥) → Undeclared text judged name
  unfolding judge_variable unless_broken added_variable with_variables stopped recorded is_named
  variable_undeclared name u other = go (is_fault (early_fault text s it)) refl
    where
      go : (b : Bool) → is_fault (early_fault text s it) ≡ b → Undeclared text judged name
      go true g = rw g (record { device = u.device; parameter = u.parameter; register = u.register; variable = u.variable })
      go false g =
          rw g
          (record {
            device = u.device;
            parameter = u.parameter;
            register = u.register;
            variable = nothing-more 59 (omega arith) text s.variables _ name (variable_grew text s it) u.variable (stands-not text _ _ name (rw g at other));
          })

-- ---- as the code marks them
-- the number of a name that an entry records: it is the name judged last, or another
module _ (text table : List ℕ) (at : ℕ) {start extent : ℕ} (e : start ≡ get_or table at 0) (f : extent ≡ get_or table (at + 1) 0) where
  pub entry-number : {number : ℕ} → number ≡ mark_of (name_of text start extent) → number ≡ mark_of (recorded text table at)
  unfolding recorded
  entry-number n = n ∙ rw (e, f)

  pub entry-last : (place length : ℕ) {number : ℕ} → start ≡ place → extent ≡ length → number ≡ mark_of (name_of text place length)
      → number ≡ mark_of (recorded text table at)
  entry-last place length p l n = entry-number (n ∙ rw (p, l))

pub marked-there : (a : List ℕ) {b : List ℕ} {n k : ℕ} → b ≡ set a n 1 → n ≡ k → b ≡ set a k 1
marked-there a e f = e ∙ rw f

pub declared-number : (text : List ℕ) (place extent : ℕ) {d : Declared} → d ≡ record { place = place; extent = extent; number = mark_of (name_of text place extent) }
    → d.number ≡ mark_of (name_of text d.place d.extent)
declared-number text place extent e = rw e

pub register-noted : (text : List ℕ) (s t : State) (r : Register) (map : List ℕ) {map' : List ℕ} (count : ℕ) → Known text s map → t ≡ unless_stopped s (judge_register text s r)
    → count ≡ count_of s.registers → map' ≡ set map (mark_of (recorded text t.registers (15 * count + 1))) 1 → Known text t map'
register-noted text s t r map count known e c m = rw (m, c, e) (known_more text s (unless_stopped s (judge_register text s r)) map _ known (register_undeclared text s r))

pub variable-noted : (text : List ℕ) (s t : State) (it : VariableRead) (map : List ℕ) {map' : List ℕ} (count : ℕ) → Known text s map → t ≡ judge_variable text s it
    → count ≡ count_of s.variables → map' ≡ set map (mark_of (recorded text t.variables (59 * count + 1))) 1 → Known text t map'
variable-noted text s t it map count known e c m = rw (m, c, e) (known_more text s (judge_variable text s it) map _ known (variable_undeclared text s it))

-- the same judging, over the same tables
pub known-still : (text ps rs vs map : List ℕ) {j k : Judging} → k ≡ j → Known text (state_of j ps rs vs) map → Known text (state_of k ps rs vs) map
known-still text ps rs vs map e known = rw e known

pub known-moved : (text ps rs vs map : List ℕ) (l : Loading) {r : Loading} (s : Step) → r ≡ moved_by l s → Known text (state_of l.judging ps rs vs) map
    → Known text (state_of r.judging ps rs vs) map
known-moved text ps rs vs map l s e known = rw e known

-- ---- the heading: the device's name, and the parameters' one by one
-- what has no mark had none at first, and is none of the first n parameters
pub record HeadMarks (text ps first map : List ℕ) (n : ℕ) : Type 0 where
  pub long : length map ≡ 2048
  pub before : (name : List ℕ) → get_or map (mark_of name) 0 ≡ 0 → get_or first (mark_of name) 0 ≡ 0
  pub parameter : (name : List ℕ) → get_or map (mark_of name) 0 ≡ 0 → (i : ℕ) → i < n → is_named text ps (36 * i + 1) name ≡ false

module _ (text ps first : List ℕ) where
  pub heading-first : length first ≡ 2048 → HeadMarks text ps first first 0
  heading-first long = record { long = long; before = λ name none. none; parameter = λ name none i l. absurd (omega arith) }

  pub heading-more : (map : List ℕ) {map' : List ℕ} (n : ℕ) → HeadMarks text ps first map n → map' ≡ set map (mark_of (recorded text ps (36 * n + 1))) 1
      → HeadMarks text ps first map' (n + 1)
  unfolding is_named recorded
  heading-more map n h e =
      rw e
      (record {
        long = length-set map (mark_of (recorded text ps (36 * n + 1))) 1 ∙ h.long;
        before = λ name none. h.before name (unmarked-before map h.long name (recorded text ps (36 * n + 1)) none);
        parameter = λ name none i l. go name none i l (ltb i n) refl;
      })
    where
      go : (name : List ℕ) → get_or (set map (mark_of (recorded text ps (36 * n + 1))) 1) (mark_of name) 0 ≡ 0 → (i : ℕ) → i < n + 1 → (b : Bool) → ltb i n ≡ b
          → is_named text ps (36 * i + 1) name ≡ false
      go name none i l true g = h.parameter name (unmarked-before map h.long name (recorded text ps (36 * n + 1)) none) i (ltb-true i n g)
      go name none i l false g =
          let last : i ≡ n = omega (arith, ltb-false i n g) in
          rw last (stands-not text _ _ name (differs map h.long name (recorded text ps (36 * n + 1)) none))

empty-nothing : (text t : List ℕ) (stride : ℕ) (name : List ℕ) → count_of t ≡ 0 → is_some (found_in text t stride name) ≡ false
unfolding held_of
empty-nothing text t stride name e = each-nothing text t stride name (λ i l. absurd (omega (arith, l, e, min-le_left (count_of t) ((length t - 1) / stride))))

pub heading-known : (text : List ℕ) (j : Judging) (ps blank : List ℕ) {first map : List ℕ} {n held : ℕ} → length blank ≡ 2048
    → first ≡ set blank (mark_of (name_of text j.place j.extent)) 1 → HeadMarks text ps first map n → held ≡ held_of 36 ps → held ≤ n
    → (rs vs : List ℕ) → count_of rs ≡ 0 → count_of vs ≡ 0 → Known text (state_of j ps rs vs) map
unfolding state_of
heading-known text j ps blank {first} {map} long e h g all rs vs r v =
    let device = name_of text j.place j.extent in
    record {
      long = h.long;
      fresh = λ name none. is_undeclared text _ name (record {
        device = stands-not text j.place j.extent name (differs blank long name device (ap (λ (m : List ℕ). get_or m (mark_of name) 0) (sym e) ∙ h.before name none));
        parameter = each-nothing text ps 36 name (λ i l. h.parameter name none i (omega (arith, l, g, all)));
        register = empty-nothing text rs 15 name r;
        variable = empty-nothing text vs 59 name v;
      });
    }
