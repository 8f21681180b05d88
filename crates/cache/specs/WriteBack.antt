-- An entry leaves the cache for the store below.
use Rattle.std.specs.Prelude.{Some, None, Ok, Err, Option}
use Rattle.store.specs.declared.StoreError.TheVariants.{PowerOff, NoSuchBlock}
use Rattle.store.specs.Steps.{Answer, Steps, Stepped, stepped}
use Rattle.cache.specs.declared.Entry.{Entry}

-- only a lost power ends a call
abbrev pub unless_lost : Answer (Unit {0}) → Answer (Unit {0})
unless_lost (Ok u) = Ok tt
unless_lost (Err PowerOff) = Err PowerOff
unless_lost (Err NoSuchBlock) = Ok tt

-- an entry, if there is one, is put to the store below
abbrev pub write_back : {B : Type 0} → Steps B → B → Option Entry → Stepped (Unit {0}) B
write_back steps s None = stepped (Ok tt) s
write_back steps s (Some e) = let p = steps.put s e.block e.content in stepped (unless_lost p.answer) p.after

-- a call on the store below, in a cache that it leaves as f says
abbrev pub raised : {A B M : Type 0} → (B → M) → Stepped A B → Stepped A M
raised f c = stepped c.answer (f c.after)
