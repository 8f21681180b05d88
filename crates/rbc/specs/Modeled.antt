-- The module's model, from its parts and the model of its store.
use Rattle.actions.specs.Modeled.{device_model}
use Rattle.rbc.specs.declared.target.Module.{Module}
use Rattle.rbc_steps.specs.Module.{ModuleModel}

abbrev pub modeled : {S M : Type 0} → (S → M) → Module S → ModuleModel M
modeled model w = device_model model w.device
