pub mod MediumKeeps
