-- A device's model, from its parts and the model of its store.
use Rattle.actions.specs.declared.device.Device.{Device}
use Rattle.rbc_steps.specs.Module.{ModuleModel, joined}

abbrev pub device_model : {S M : Type 0} → (S → M) → Device S → ModuleModel M
device_model model d = joined (model d.store) d.unit
