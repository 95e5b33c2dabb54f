-- A map of marks for names. Most names are new, and for those it says so at once; a name whose mark stands is searched
-- for in the tables.
use Rattle.std.specs.Prelude.{ℕ, ◌+◌, ◌*◌, ◌%◌, ◌≡◌, false, List, [], ◌∷◌, length, get_or}
use Rattle.rules.specs.Names.{name_of, is_declared}
use Rattle.rules.specs.State.{State}

-- where a name has its mark: all of its bytes count, so that names which differ in one place seldom share it
unfoldable pub mark_from : ℕ → List ℕ → ℕ
mark_from n [] = n
mark_from n (b ∷ name) = mark_from ((37 * n + b) % 2048) name

unfoldable pub mark_of : List ℕ → ℕ
mark_of name = mark_from 0 name

-- the name that an entry records, which begins at a word of a table
unfoldable pub recorded : List ℕ → List ℕ → ℕ → List ℕ
recorded text table at = name_of text (get_or table at 0) (get_or table (at + 1) 0)

-- a name without a mark is declared by none
pub record Known (text : List ℕ) (s : State) (map : List ℕ) : Type 0 where
  pub long : length map ≡ 2048
  pub fresh : (name : List ℕ) → get_or map (mark_of name) 0 ≡ 0 → is_declared text s name ≡ false
