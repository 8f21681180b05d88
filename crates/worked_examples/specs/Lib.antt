pub mod StoreCalls
pub mod Examples
pub mod RunScenes
pub mod CommandScenes
pub mod ShiftScenes
pub mod CardScenes
pub mod Further
pub mod AfterCommands
