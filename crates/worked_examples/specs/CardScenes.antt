-- What a flash card keeps beside its pages, and what a cache passes on of an answer.
use Rattle.std.specs.Prelude.{◌≡◌, ℕ, Bool, true, false, List, [], ◌∷◌, ◌++◌, map, replicate, Ok, Err}
use Rattle.store.specs.declared.StoreError.TheVariants.{NoSuchBlock}
use Rattle.cache.specs.WriteBack.{unless_lost}
use Rattle.flash_card.specs.Tables.{HasMark, Further}
use Rattle.commands.specs.declared.fields.PowerCondition.TheVariants as power
use Rattle.commands.specs.Codes.{power_code}

-- a page of zeros with an owner
abbrev pub page : ℕ → List ℕ
page owner = 0 ∷ 0 ∷ 0 ∷ owner ∷ replicate 512 0

-- two cards of two blocks: block 1 has both pages, or page 0 alone; block 0 has none
abbrev pub worn : List ℕ
worn = page 1 ++ page 1

abbrev pub tidy : List ℕ
tidy = page 1 ++ page 9

-- block 0 shows no page of two, and block 1 page 0; block 1 is marked as one with further pages
abbrev pub first_pages : List ℕ
first_pages = 2 ∷ 0 ∷ []

abbrev pub block_1_marked : List Bool
block_1_marked = false ∷ true ∷ []

pub record CardTables : Type 0 where
  -- places 0 to 63 are group 0, and place 64 begins group 1
  pub mark_of_group_0 : HasMark (true ∷ []) 0
  pub none_of_group_1 : HasMark (true ∷ []) 1 → ⊥
  pub mark_of_group_1 : HasMark (replicate 64 false ++ true ∷ []) 1
  -- page 1 is a further page of block 1 once it is entered
  pub further_page : Further worn 2 first_pages block_1_marked
  pub not_entered : Further worn 1 first_pages block_1_marked → ⊥
  pub no_further_page : Further tidy 2 first_pages block_1_marked → ⊥

-- what no call comes to: an entry that the store below does not know, and a reserved code that has a name
pub record NeverMet : Type 0 where
  pub no_such_block_is_passed_over : unless_lost (Err NoSuchBlock) ≡ Ok tt
  pub named_codes_are_none : map (λ (n : ℕ). power_code (power.Reserved n)) (0 ∷ 1 ∷ 2 ∷ 3 ∷ 5 ∷ 7 ∷ []) ≡ replicate 6 255
  pub reserved_codes_stay : map (λ (n : ℕ). power_code (power.Reserved n)) (4 ∷ 6 ∷ 8 ∷ 15 ∷ []) ≡ 4 ∷ 6 ∷ 8 ∷ 15 ∷ []
