-- Further examples, each group with its scenes.
use Rattle.worked_examples.specs.RunScenes.{Premises, CountedContents, Times}
use Rattle.worked_examples.specs.CommandScenes.{FlushAtMaking, DataInKept, CleanBlocks, Unloaded, NotedCalls}
use Rattle.worked_examples.specs.ShiftScenes.{ShiftCounts}
use Rattle.worked_examples.specs.CardScenes.{CardTables, NeverMet}

pub record FurtherExamples : Type 0 where
  pub premises : Premises
  pub counted_contents : CountedContents
  pub times : Times
  pub flush_at_making : FlushAtMaking
  pub data_in_kept : DataInKept
  pub clean_blocks : CleanBlocks
  pub unloaded : Unloaded
  pub noted_calls : NotedCalls
  pub shift_counts : ShiftCounts
  pub card_tables : CardTables
  pub never_met : NeverMet
