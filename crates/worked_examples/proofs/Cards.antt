-- The tables of a flash card.
use Rattle.std.proofs.Common.{◌≡◌, ℕ, zero, suc, ◌/◌, ◌<◌, true, false, get_or, [], ◌∷◌, refl, sym, arith}
use Rattle.std.proofs.lemmas.Bool.{eqb-false, true≢false}
use Rattle.flash_card.specs.Card.{owner}
use Rattle.flash_card.specs.Tables.{Further}
use Rattle.worked_examples.specs.CardScenes.{worn, tidy, first_pages, block_1_marked, CardTables, NeverMet}

first_place_alone : (p : ℕ) → p / 64 ≡ 1 → get_or (true ∷ []) p false ≡ true → ⊥
first_place_alone zero inside h = eqb-false 0 1 refl inside
first_place_alone (suc p) inside h = true≢false (sym h)

page_1_is_further : Further worn 2 first_pages block_1_marked
unfolding owner
page_1_is_further zero l h = absurd (true≢false (sym h))
page_1_is_further (suc zero) l h = (1, omega arith, refl, omega arith)
page_1_is_further (suc (suc b)) l h = absurd (true≢false (sym h))

none_behind : (i : ℕ) → i < 2 → owner tidy i ≡ 1 → 0 < i → ⊥
unfolding owner
none_behind zero l own h = omega arith
none_behind (suc zero) l own h = eqb-false 9 1 refl own
none_behind (suc (suc i)) l own h = omega arith

pub card_tables : CardTables
card_tables =
    record {
      mark_of_group_0 = record { place = 0; inside = refl; marked = refl };
      none_of_group_1 = λ m. first_place_alone m.place m.inside m.marked;
      mark_of_group_1 = record { place = 64; inside = refl; marked = refl };
      further_page = page_1_is_further;
      not_entered = λ f. let w = f 1 (omega arith) refl in omega (arith, w.1, w.3);
      no_further_page = λ f. let w = f 1 (omega arith) refl in none_behind w.0 w.1 w.2 w.3;
    }

pub never_met : NeverMet
never_met = record { no_such_block_is_passed_over = refl; named_codes_are_none = refl; reserved_codes_stay = refl }
