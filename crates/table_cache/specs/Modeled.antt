-- The table's model, and that of a table cache, from its parts and the model of the store below.
use Rattle.std.specs.Prelude.{vec_items}
use Rattle.cache.specs.declared.write_cache.Cache.{Cache}
use Rattle.cache.specs.Modeled.{cache_model}
use Rattle.table_cache.specs.declared.table.TableBuffer.{TableBuffer}
use Rattle.table_cache.specs.Table.{Table, TableModel}

abbrev pub table_held : TableBuffer → Table
table_held t = record { slots = vec_items t.table.slots; hand = t.table.hand }

abbrev pub table_model : {S B : Type 0} → (S → B) → Cache S TableBuffer → TableModel B
table_model model s = cache_model table_held model s
