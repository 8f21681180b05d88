-- What holds of every run of the module over any store: what stands on the medium, what it costs, and what a reservation
-- protects.
use Rattle.std.specs.Prelude.{◌≡◌, ℕ, suc, ◌+◌, ◌-◌, ◌*◌, ◌<◌, ◌≤◌, Bool, ◌⊎◌, List, ◌++◌, length, take, drop, Some, ◌≢◌}
use Rattle.std.specs.List.{slice_get}
use Rattle.store.specs.Steps.{Steps}
use Rattle.store.specs.Meaning.{Meaning, held}
use Rattle.sense.specs.Report.{number}
use Rattle.commands.specs.Order.{read, reserve, release, synchronize_cache}
use Rattle.rbc_steps.specs.Module.{ModuleModel}
use Rattle.rbc_steps.specs.Calls.{Request, Call, Command, Reset, Event, Good}
use Rattle.rbc_steps.specs.Writes.{latest_of}
use Rattle.run_law.specs.Runs.{run, meaning_at}
use Rattle.run_law.specs.Book.{first_rows, rows_at, written}

-- what ends the reservation of a host: its good RELEASE, or a good RESET
abbrev pub Frees : ℕ → Event → Type 0
Frees host e = ((q : Request) × Good release q e × (q.host ≡ host)) ⊎ ((e.call ≡ Reset) × (number e.answer ≡ 0))

-- The law of a run, from what the store meant when the making was over.
pub record Safe (made : Meaning) (events : List Event) : Type 0 where
  -- at each time, each block's content on the medium has a number in its row, and the number never falls
  pub number_at : ℕ → ℕ → ℕ
  pub stands :
      (k b : ℕ) → b < made.count
      → slice_get (rows_at (first_rows made) events k b) (number_at k b) ≡ Some ((meaning_at made events k).line b).first
  pub rises : (k b : ℕ) → b < made.count → number_at k b ≤ number_at (suc k) b
  -- after a good SYNCHRONIZE CACHE it is the latest
  pub synchronized :
      (k b : ℕ) (q : Request) (e : Event) → b < made.count → slice_get events k ≡ Some e → Good synchronize_cache q e
      → suc (number_at (suc k) b) ≡ length (rows_at (first_rows made) events (suc k) b)
  -- a good READ gives the latest contents, and leaves data-in past them
  pub shown :
      (k : ℕ) (relative : Bool) (a n : ℕ) (q : Request) (e : Event) → slice_get events k ≡ Some e → Good (read relative a n) q e
      → e.data_in ≡ latest_of (rows_at (first_rows made) events k) a n ++ drop (512 * n) q.data_in
  -- the block stores made, and the contents held, are no more than the hosts wrote
  pub falls : (k : ℕ) → (meaning_at made events k).grant ≤ made.grant
  pub stores :
      (k : ℕ) → (made.grant - (meaning_at made events k).grant) + held (meaning_at made events k) ≤ written (take k events)
  -- while a host holds the reservation, no other host's command changes a row
  pub reserved :
      (i j : ℕ) (q q' : Request) (e e' : Event) → i < j → slice_get events i ≡ Some e → slice_get events j ≡ Some e' → Good reserve q e
      → ((k : ℕ) (f : Event) → i < k → k < j → slice_get events k ≡ Some f → Frees q.host f → ⊥)
      → e'.call ≡ Command q' → (q'.host ≢ q.host)
      → (b : ℕ) → rows_at (first_rows made) events (suc j) b ≡ rows_at (first_rows made) events j b

-- every list of calls on this module is safe
abbrev pub RunsSafely : {M : Type 0} → Steps M → (M → Meaning) → ModuleModel M → Type 0
RunsSafely steps meaning w = (calls : List Call) → Safe (meaning w.store) (run steps meaning w calls)
