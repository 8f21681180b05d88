-- A run as the command line asks for it.
use Rattle.std.specs.Prelude.{◌≡◌, ℕ, List, vec_items}
use Rattle.rbc_steps.specs.Calls.{Call}
use Rattle.recorder_options.specs.declared.kinds.Medium.{Medium}
use Rattle.recorder_options.specs.declared.kinds.Medium.TheVariants as media
use Rattle.recorder_options.specs.declared.options.Options.{Options}
use Rattle.piles.specs.declared.made.MediumKind.{MediumKind}
use Rattle.piles.specs.declared.made.MediumKind.TheVariants as kinds
use Rattle.piles.specs.declared.made.MediumError.TheVariants as medium_errors
use Rattle.piles.specs.declared.order.PileError.TheVariants as pile_errors
use Rattle.piles.specs.declared.bottom.Bottom.{Bottom}
use Rattle.piles.specs.Bottoms.{IsNew}
use Rattle.piles.specs.Orders.{bottom, under_caches}
use Rattle.pile_runs.specs.declared.run.Run.{Run}
use Rattle.pile_runs.specs.declared.setup.PlayError.{PlayError}
use Rattle.pile_runs.specs.declared.setup.PlayError.TheVariants as errors
use Rattle.pile_runs.specs.Runs.{RunOf}

abbrev pub kind_of : Medium → ℕ → MediumKind
kind_of media.Flat pages = kinds.Flat
kind_of media.Card pages = kinds.Card pages

-- the run is of these calls on a module over the new pile that the options name, with this grant
abbrev pub RunWith : Options → ℕ → List Call → Run → Type 0
RunWith o grant calls run =
    (m : Bottom) × IsNew (kind_of o.medium o.pages) o.blocks grant m
    × (let p = under_caches (vec_items o.caches) (bottom m) in RunOf p.steps p.meaning p.held p.state calls run)

-- there is no memory for the medium, or for a cache
abbrev pub IsWantOfMemory : PlayError → Type 0
IsWantOfMemory (errors.Medium e) = e ≡ medium_errors.NoMemory
IsWantOfMemory (errors.Pile e) = e ≡ pile_errors.NoMemory
